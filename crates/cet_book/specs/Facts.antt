-- What the facts on words and book are made of: where regions lie, which words and pages are theirs, what their entries
-- say of one another. Source: own.
use Rattle.std.specs.Prelude.{◌≡◌, ℕ, ◌+◌, ◌-◌, ◌*◌, ◌%◌, ◌<◌, ◌≤◌, Bool, false, ◌==◌, if◌then◌else◌, List, [], ◌∷◌}
use Rattle.cet_words.specs.Layout.{first_region_start, first_shadow_page, image_end, image_start, shadow_end, shadow_start, last_region_end}
use Rattle.cet_book.specs.declared.entries.Entry.{Entry}
use Rattle.cet_book.specs.declared.entries.Entry.TheVariants.{Call, Restorer, Frame, Previous, Blank}
use Rattle.cet_book.specs.declared.entries.Holder.{Holder}
use Rattle.cet_book.specs.declared.entries.Holder.TheVariants.{Maker, Current, Parked, Left, Lost}
use Rattle.cet_book.specs.Book.{Region, Book, region, top}
use Rattle.cet_book.specs.Stack.{slot_word, word_of}

-- ---- places

-- a region has whole pages, between the first and the last page of the shadow area
pub record Bounds (start end : ℕ) : Type 0 where
  pub low : first_region_start ≤ start
  pub full : start + 4096 ≤ end
  pub high : end ≤ last_region_end
  pub first : start % 4096 ≡ 0
  pub last : end % 4096 ≡ 0

-- an address of a region
pub record In (r : Region) (addr : ℕ) : Type 0 where
  pub low : r.start ≤ addr
  pub high : addr < r.end

-- an address of the shadow area that is a multiple of 8
pub record Place (a : ℕ) : Type 0 where
  pub low : shadow_start ≤ a
  pub high : a < shadow_end
  pub even : a % 8 ≡ 0

-- a page of the shadow area is one of a region
pub record LiesIn (r : Region) (page : ℕ) : Type 0 where
  pub low : r.start ≤ shadow_start + 4096 * (page - first_shadow_page)
  pub high : shadow_start + 4096 * (page - first_shadow_page) + 4096 ≤ r.end

-- the holder names the thread
abbrev pub Owns : ℕ → Holder → Type 0
Owns t (Maker x) = x ≡ t
Owns t (Current x) = x ≡ t
Owns t Parked = ⊥
Owns t (Left q) = ⊥
Owns t Lost = ⊥

-- ---- words

-- the words from an address on are those of the entries, the newest first
abbrev pub Stack : List ℕ → (tops : ℕ → ℕ) → (addr : ℕ) → List Entry → Type 0
Stack words tops addr [] = Unit {0}
Stack words tops addr (e ∷ es) = (slot_word words addr ≡ word_of tops addr e) × Stack words tops (addr + 8) es

-- the region is parked, and its token stands at p
pub record IsParkedAt (p : ℕ) (r : Region) : Type 0 where
  pub parked : r.holder ≡ Parked
  pub top_is : top r ≡ p + 8

-- ---- entries

abbrev pub is_left : ℕ → Holder → Bool
is_left q (Maker x) = false
is_left q (Current x) = false
is_left q Parked = false
is_left q (Left x) = x == q
is_left q Lost = false

abbrev pub is_previous : ℕ → Entry → Bool
is_previous s (Call x) = false
is_previous s (Restorer x) = false
is_previous s Frame = false
is_previous s (Previous x) = x == s
is_previous s Blank = false

abbrev pub one : Bool → ℕ
one c = if c then 1 else 0

-- how often Previous(s) stands in a list
abbrev pub links : ℕ → List Entry → ℕ
links s [] = 0
links s (e ∷ es) = one (is_previous s e) + links s es

-- a return address lies in the image, or at its end
abbrev pub IsReturn : ℕ → Type 0
IsReturn x = (image_start ≤ x) × (x ≤ image_end)

abbrev pub EntryReturns : Entry → Type 0
EntryReturns (Call x) = IsReturn x
EntryReturns (Restorer x) = IsReturn x
EntryReturns Frame = Unit {0}
EntryReturns (Previous s) = Unit {0}
EntryReturns Blank = Unit {0}

abbrev pub AllReturn : List Entry → Type 0
AllReturn [] = Unit {0}
AllReturn (e ∷ es) = EntryReturns e × AllReturn es

-- of all entries of a book
abbrev pub Returns : Book → Type 0
Returns b = (i : ℕ) → AllReturn (region b i).entries
