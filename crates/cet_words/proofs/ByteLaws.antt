-- Where the byte at an address of an image is found. Source: own.
use Rattle.std.proofs.Common.{arith, cond, subst}
use Rattle.std.proofs.lemmas.Bool.Decides.{nat_tests}
use Rattle.std.proofs.lemmas.List.Elements.{recursion_from_All}
use Rattle.std.specs.List.{AllByRecursion}
use Rattle.std.specs.Prelude.{◌≡◌, ℕ, ◌*◌, ◌/◌, ◌<◌, ◌≤◌, Bool, true, false, List, [], ◌∷◌, Option, Some, None, find, All, refl}
use Rattle.cet_words.specs.declared.images.Segment.{Segment}
use Rattle.cet_words.specs.Layout.{image_start, image_end}
use Rattle.cet_words.specs.Job.{covers, IsSegment}
use Rattle.cet_words.specs.Bytes.{executable_byte, code_byte}

-- what is found passes the test, and what holds of each element holds of it
found_by : {X : Type 0} (P : X → Type 0) (p : X → Bool) (x y : X) (xs : List X) (b : Bool) → p y ≡ b → P y → (find p xs ≡ Some x → P x × (p x ≡ true)) → cond b (Some y) (find p xs) ≡ Some x → P x × (p x ≡ true)
found_by P p x y xs true e h rest f = let same : y ≡ x = cc in (subst P same h, subst (λ z. p z ≡ true) same e)
found_by P p x y xs false e h rest f = rest f

found : {X : Type 0} (P : X → Type 0) (p : X → Bool) (x : X) (xs : List X) → AllByRecursion P xs → find p xs ≡ Some x → P x × (p x ≡ true)
found P p x [] h f = cc
found P p x (y ∷ xs) h f = found_by P p x y xs (p y) refl h.0 (found P p x xs h.1) f

covered : (s : Segment) (addr : ℕ) → IsSegment s → covers (addr / 4096) s ≡ true → (image_start ≤ addr) × (addr < image_end)
covered s addr h c =
    let low = h.low in
    let high = h.high in
    (grind (arith, nat_tests), grind (arith, nat_tests))

byte_place : (segments : List Segment) (addr b : ℕ) (o : Option Segment) → AllByRecursion IsSegment segments → find (covers (addr / 4096)) segments ≡ o → executable_byte o addr ≡ Some b →
    (image_start ≤ addr) × (addr < image_end)
byte_place segments addr b None h f e = cc
byte_place segments addr b (Some s) h f e = let g = found IsSegment (covers (addr / 4096)) s segments h f in covered s addr g.0 g.1

-- code lies in the image range
pub code_place : (segments : List Segment) (addr b : ℕ) → All IsSegment segments → code_byte segments addr ≡ Some b → (image_start ≤ addr) × (addr < image_end)
unfolding code_byte
code_place segments addr b h e = byte_place segments addr b (find (covers (addr / 4096)) segments) (recursion_from_All IsSegment segments h) refl e

-- an address whose page a segment covers lies in the image range
pub found_place : (segments : List Segment) (addr : ℕ) (s : Segment) → All IsSegment segments → find (covers (addr / 4096)) segments ≡ Some s → (image_start ≤ addr) × (addr < image_end)
found_place segments addr s h f = let g = found IsSegment (covers (addr / 4096)) s segments (recursion_from_All IsSegment segments h) f in covered s addr g.0 g.1

-- a page that a segment covers lies in the image range
pub found_page : (segments : List Segment) (number : ℕ) (s : Segment) → All IsSegment segments → find (covers number) segments ≡ Some s → 4096 * number < 0x800000
found_page segments number s h f =
    let g = found IsSegment (covers number) s segments (recursion_from_All IsSegment segments h) f in
    let high = g.0.high in
    let inside = g.1 in
    grind (arith, nat_tests)
