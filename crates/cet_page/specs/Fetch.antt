-- The fetch of an instruction. Source: Intel SDM volume 3A (instruction fetches); that code is never stored to, and so
-- costs no access, is own.
use Rattle.std.proofs.Common.{zero, suc}
use Rattle.std.specs.Prelude.{◌≡◌, ℕ, ◌+◌, ◌<◌, ◌≤◌, List, [], ◌∷◌, Option, Some, None}
use Rattle.cet_words.specs.declared.images.Segment.{Segment}
use Rattle.cet_words.specs.Layout.{page_at, image_end}
use Rattle.cet_words.specs.Bytes.{code_byte, segment_byte}
use Rattle.cet_words.specs.declared.accesses.Access.TheVariants as access
use Rattle.cet_page.specs.Script.{Script, fault, ask, no_changes}
use Rattle.cet_page.specs.Page.{page_fault}
use Rattle.cet_page.specs.declared.checks.Kind.TheVariants as kind
use Rattle.cet_page.specs.declared.checks.Who.TheVariants.{User}

-- one byte before the bytes that follow it, where there is one
abbrev pub joined : Option ℕ → List ℕ → List ℕ
joined None rest = []
joined (Some b) rest = b ∷ rest

-- the bytes that can be fetched at an address, at most so many: those of consecutive executable pages
unfoldable pub fetchable : List Segment → (addr most : ℕ) → List ℕ
fetchable segments addr zero = []
fetchable segments addr (suc most) = joined (code_byte segments addr) (fetchable segments (addr + 1) most)

-- so many bytes of code from an address on are those of this segment
abbrev pub HoldsCode : List Segment → Segment → (addr count : ℕ) → Type 0
HoldsCode segments s addr count =
    (a : ℕ) → addr ≤ a → a < addr + count → (code_byte segments a ≡ Some (segment_byte s a)) × (a < image_end)

-- the fetch at an address whose byte can't be fetched faults, whatever the look at its page answers
abbrev pub missing_in : {A : Type 0} → Option ℕ → (addr : ℕ) → Script A
missing_in None addr = fault (page_fault 0 kind.Fetch User addr)
missing_in (Some page) addr = ask (access.Look page) no_changes (λ entry. fault (page_fault entry kind.Fetch User addr))

unfoldable pub missing : {A : Type 0} → (addr : ℕ) → Script A
missing addr = missing_in (page_at addr) addr
