-- The segments of a file whose rules hold are those of an image.
use Rattle.std.proofs.Common.{◌≡◌, ℕ, suc, ◌+◌, ◌-◌, ◌*◌, ◌/◌, ◌<◌, ◌≤◌, Bool, true, false, not, ◌&&◌, ◌||◌, cond, ltb, leb, List, [], ◌∷◌, length}
use Rattle.std.proofs.Common.{get_or, take, drop, map, filter, Option, Some, None, refl, ap, sym, subst, ◌⊎◌, inl, inr, arith}
use Rattle.std.specs.Prelude.{All, AllPairs, find, option_map}
use Rattle.std.specs.List.{list_any, range_with_len}
use Rattle.std.proofs.lemmas.Bool.{ltb-true, ltb-false, lt-ltb}
use Rattle.std.proofs.lemmas.Bool.Decides.{nat_tests}
use Rattle.std.proofs.lemmas.List.{length-take}
use Rattle.std.proofs.lemmas.List.Elements.{All-map, All-filter, filter_passes, All-from_recursion}
use Rattle.std.proofs.lemmas.Option.{none-some}
use Rattle.std.proofs.lemmas.List.Kept.{AllPairs-cons, AllPairs-filter}
use Rattle.std.proofs.lemmas.List.Folds.{Any-from_list_any, list_any_at}
use Rattle.std.proofs.lemmas.List.FromFn.{get_or-map-range_with_len, length-map-range_with_len}
use Rattle.std.specs.List.{AllByRecursion}
use Rattle.cet_words.specs.Layout.{image_end, image_start}
use Rattle.cet_words.specs.Job.{IsSegment, SharesNoPage, IsEntry, IsImage}
use Rattle.cet_words.specs.declared.images.Segment.{Segment}
use Rattle.cet_elf.specs.Headers.{header_at, headers_from, headers, xword, half, is_load, is_writable, is_executable}
use Rattle.cet_elf.specs.Rules.{is_filled, is_placed, is_guarded, is_apart, precedes, ends_before, shares_page, has_entry, load_breach}
use Rattle.cet_elf.specs.Accepts.{segment_of, segments_of}
use Rattle.cet_elf.specs.declared.headers.ProgramHeader.{ProgramHeader}

-- what no element of a list passes
none_found : {X : Type 0} (p : X → Bool) (xs : List X) → find p xs ≡ None → AllByRecursion (λ x. p x ≡ false) xs
none_found p [] e = tt
none_found p (x ∷ xs) e =
    elim (p x) as (λ b. p x ≡ b → cond b (Some x) (find p xs) ≡ None → AllByRecursion (λ y. p y ≡ false) (x ∷ xs)) [
      | true ↦ λ is f. absurd (none-some x (sym f))
      | false ↦ λ is f. (is, none_found p xs f)
    ] refl e

map_none : {X Y : Type 0} (f : X → Y) (o : Option X) → option_map f o ≡ None → o ≡ None
map_none f None e = refl
map_none f (Some x) e = cc

implied : (a b : Bool) → (a && not b) ≡ false → a ≡ true → b ≡ true
implied true true e is = refl
implied true false e is = cc
implied false b e is = cc

-- of each PT_LOAD what a rule tells
loads_hold : (holds : ProgramHeader → Bool) (hs : List ProgramHeader) → load_breach holds hs ≡ None → All (λ h. is_load h ≡ true → holds h ≡ true) hs
loads_hold holds hs e =
    let none = All-from_recursion (λ h. (is_load h && not (holds h)) ≡ false) hs
    (none_found (λ h. is_load h && not (holds h)) hs (map_none (λ h. h.place) (find (λ h. is_load h && not (holds h)) hs) e)) in
    λ k d small. implied (is_load (get_or hs k d)) (holds (get_or hs k d)) (none k d small)

filled : (n : ℕ) (h : ProgramHeader) → is_filled n h ≡ true → (h.offset + h.file_size ≤ n) × (h.file_size ≤ h.memory_size)
filled n h e = (grind (arith, nat_tests), grind (arith, nat_tests))

pub all_filled : (n : ℕ) (hs : List ProgramHeader) → load_breach (is_filled n) hs ≡ None → All (λ h. is_load h ≡ true → h.offset + h.file_size ≤ n) hs
all_filled n hs e = let all = loads_hold (is_filled n) hs e in λ k d small load. (filled n (get_or hs k d) (all k d small load)).0

placed : (h : ProgramHeader) → is_placed h ≡ true → (image_start ≤ h.address) × (h.address + h.memory_size ≤ image_end)
placed h e = (grind (arith, nat_tests), grind (arith, nat_tests))

guarded : (a b : Bool) → not (a && b) ≡ true → (a && b) ≡ false
guarded true true e = cc
guarded true false e = refl
guarded false b e = refl

length-take_most : (n : ℕ) (xs : List ℕ) → length (take n xs) ≤ n
length-take_most n xs = omega (arith, length-take n xs)

is_segment : (bytes : List ℕ) (h : ProgramHeader) → is_filled (length bytes) h ≡ true → is_placed h ≡ true → is_guarded h ≡ true → IsSegment (segment_of bytes h)
is_segment bytes h fill place guard = record {
  low = (placed h place).0;
  high = (placed h place).1;
  filled = omega (arith, filled (length bytes) h fill, length-take_most (h.offset + h.file_size - h.offset) (drop h.offset bytes));
  rights = guarded (is_writable h) (is_executable h) guard;
}

each_segment : (bytes : List ℕ) (hs : List ProgramHeader) → load_breach (is_filled (length bytes)) hs ≡ None → load_breach is_placed hs ≡ None → load_breach is_guarded hs ≡ None → All IsSegment (segments_of bytes hs)
each_segment bytes hs fill place guard =
    let Good : ProgramHeader → Type 0 = λ h. is_load h ≡ true → IsSegment (segment_of bytes h) in
    let fills = loads_hold (is_filled (length bytes)) hs fill in
    let places = loads_hold is_placed hs place in
    let guards = loads_hold is_guarded hs guard in
    let all : All Good hs = λ k d small load. is_segment bytes (get_or hs k d) (fills k d small load) (places k d small load) (guards k d small load) in
    let kept = All-filter is_load Good hs all in
    All-map IsSegment (segment_of bytes) (filter is_load hs) (λ k d small. kept k d small (filter_passes is_load hs k d small))

-- pairs
AllPairs-map : {X Y : Type 0} (R : Y → Y → Type 0) (f : X → Y) (xs : List X) → AllPairs (λ x y. R (f x) (f y)) xs → AllPairs R (map f xs)
AllPairs-map R f [] pairs = λ i j d less small. absurd (omega arith)
AllPairs-map R f (x ∷ xs) pairs =
    let later = AllPairs-map R f xs (λ i j d less small. pairs (suc i) (suc j) d (omega arith) (omega arith)) in
    AllPairs-cons R (f x) (map f xs) (All-map (R (f x)) f xs (λ k d small. pairs 0 (suc k) d (omega arith) (omega arith))) later

four : (a b c d : Bool) → (a && b && not c && not d) ≡ false → (a ≡ false) ⊎ (b ≡ false) ⊎ (c ≡ true) ⊎ (d ≡ true)
four true true true d e = inr (inr (inl refl))
four true true false true e = inr (inr (inr refl))
four true true false false e = cc
four true false c d e = inr (inl refl)
four false b c d e = inl refl

false_of : (a b : Bool) → (a ≡ true → b ≡ true) → not b ≡ true → a ≡ false
false_of true b f e = let is = f refl in cc
false_of false b f e = refl

third : (a b c : Bool) → (a && b && c) ≡ false → a ≡ true → b ≡ true → c ≡ false
third true true c e p q = e
third true false c e p q = cc
third false b c e p q = cc

-- two segments that share no page
apart : (bytes : List ℕ) (g h : ProgramHeader) → shares_page g h ≡ false → SharesNoPage (segment_of bytes g) (segment_of bytes h)
apart bytes g h e =
    elim (four (ltb 0 g.memory_size) (ltb 0 h.memory_size) (ends_before g h) (ends_before h g) e) [
      | inl a ↦ inl (omega (arith, ltb-false 0 g.memory_size a))
      | inr o ↦ elim o [
        | inl b ↦ inr (inl (omega (arith, ltb-false 0 h.memory_size b)))
        | inr p ↦ elim p [
          | inl c ↦ inr (inr (inl (ltb-true ((g.address + g.memory_size - 1) / 4096) (h.address / 4096) c)))
          | inr d ↦ inr (inr (inr (ltb-true ((h.address + h.memory_size - 1) / 4096) (g.address / 4096) d)))
        ]
      ]
    ]

-- the table's headers stand in order
in_order : (bytes : List ℕ) (table count : ℕ) → AllPairs (λ g h. g.place < h.place) (headers_from bytes table count)
unfolding headers_from header_at
in_order bytes table count i j d less small =
    let at = λ (k : ℕ). header_at bytes (table + 56 * k) in
    let size : length (map at (range_with_len 0 count)) ≡ count = length-map-range_with_len at 0 count in
    let one : (get_or (map at (range_with_len 0 count)) i d).place ≡ table + 56 * i
    = ap (λ h. h.place) (get_or-map-range_with_len at 0 count i i d (omega arith) (omega arith)) in
    let other : (get_or (map at (range_with_len 0 count)) j d).place ≡ table + 56 * j
    = ap (λ h. h.place) (get_or-map-range_with_len at 0 count j j d (omega arith) (omega arith)) in
    omega arith

abbrev Apart : List ℕ → ProgramHeader → ProgramHeader → Type 0
Apart bytes g h = is_load g ≡ true → is_load h ≡ true → SharesNoPage (segment_of bytes g) (segment_of bytes h)

all_apart : (bytes : List ℕ) (hs : List ProgramHeader) → AllPairs (λ g h. g.place < h.place) hs → load_breach (is_apart hs) hs ≡ None → AllPairs (Apart bytes) hs
all_apart bytes hs order e i j d less small load other =
    let g = get_or hs i d in
    let h = get_or hs j d in
    let alone = loads_hold (is_apart hs) hs e j d small other in
    let met : precedes h g ≡ false
    = false_of (precedes h g) (list_any (precedes h) hs) (λ is. list_any_at (precedes h) hs i d (omega arith) is) alone in
    apart bytes g h (third (is_load g) (ltb g.place h.place) (shares_page g h) met load (lt-ltb g.place h.place (order i j d less small)))

apart_segments : (bytes : List ℕ) (hs : List ProgramHeader) → AllPairs (Apart bytes) hs → AllPairs SharesNoPage (segments_of bytes hs)
apart_segments bytes hs all =
    let kept = AllPairs-filter (Apart bytes) is_load hs all in
    let loads = filter_passes is_load hs in
    AllPairs-map SharesNoPage (segment_of bytes) (filter is_load hs) (λ i j d less small. kept i j d less small (loads i d (omega arith)) (loads j d small))

-- the entry
is_inside : ℕ → Segment → Bool
is_inside addr s = s.exec && leb s.start addr && ltb addr (s.start + s.size)

entered : (addr : ℕ) (s : Segment) → is_inside addr s ≡ true → IsEntry addr s
unfolding is_inside
entered addr s e = (grind (arith, nat_tests), grind (arith, nat_tests), grind (arith, nat_tests))

or_more : (w r s : Bool) → (r ≡ true → s ≡ true) → (w || r) ≡ true → (w || s) ≡ true
or_more true r s more e = refl
or_more false r s more e = more e

entered_load : (l x a b r s : Bool) → l ≡ true → (r ≡ true → s ≡ true) → ((l && x && a && b) || r) ≡ true → ((x && a && b) || s) ≡ true
entered_load true x a b r s is more e = or_more (x && a && b) r s more e
entered_load false x a b r s is more e = cc

entered_other : (l x a b r s : Bool) → l ≡ false → (r ≡ true → s ≡ true) → ((l && x && a && b) || r) ≡ true → s ≡ true
entered_other true x a b r s is more e = cc
entered_other false x a b r s is more e = more e

any_here : (bytes : List ℕ) (addr : ℕ) (h : ProgramHeader) (hs : List ProgramHeader) (b : Bool) → is_load h ≡ b →
    (list_any (has_entry addr) hs ≡ true → list_any (is_inside addr) (segments_of bytes hs) ≡ true) → (has_entry addr h || list_any (has_entry addr) hs) ≡ true →
    list_any (is_inside addr) (map (segment_of bytes) (cond b (h ∷ filter is_load hs) (filter is_load hs))) ≡ true
unfolding is_inside
any_here bytes addr h hs true is more e =
    entered_load (is_load h) (is_executable h) (leb h.address addr) (ltb addr (h.address + h.memory_size))
    (list_any (has_entry addr) hs) (list_any (is_inside addr) (segments_of bytes hs)) is more e
any_here bytes addr h hs false is more e =
    entered_other (is_load h) (is_executable h) (leb h.address addr) (ltb addr (h.address + h.memory_size))
    (list_any (has_entry addr) hs) (list_any (is_inside addr) (segments_of bytes hs)) is more e

any_kept : (bytes : List ℕ) (addr : ℕ) (hs : List ProgramHeader) → list_any (has_entry addr) hs ≡ true → list_any (is_inside addr) (segments_of bytes hs) ≡ true
any_kept bytes addr [] e = cc
any_kept bytes addr (h ∷ hs) e = any_here bytes addr h hs (is_load h) refl (any_kept bytes addr hs) e

pub is_image : (bytes : List ℕ) (entry : ℕ) (hs : List ProgramHeader) → hs ≡ headers bytes → load_breach (is_filled (length bytes)) hs ≡ None → load_breach is_placed hs ≡ None →
    load_breach is_guarded hs ≡ None → load_breach (is_apart hs) hs ≡ None → list_any (has_entry entry) hs ≡ true → IsImage entry (segments_of bytes hs)
unfolding headers
is_image bytes entry hs table fill place guard alone enter =
    let order : AllPairs (λ g h. g.place < h.place) hs
    = subst (λ (l : List ProgramHeader). AllPairs (λ g h. g.place < h.place) l) (sym table) (in_order bytes (xword bytes 32) (half bytes 56)) in
    let some = Any-from_list_any (is_inside entry) (segments_of bytes hs) (any_kept bytes entry hs enter) in
    record {
      each = each_segment bytes hs fill place guard;
      apart = apart_segments bytes hs (all_apart bytes hs order alone);
      starts = (some.0, some.1, some.2, some.3, entered entry some.1 some.4);
    }
