-- What holds of every book that changes lead to, without any word of memory. Source: own.
use Rattle.std.specs.Prelude.{◌≡◌, ℕ, ◌+◌, ◌*◌, ◌<◌, ◌≤◌, List, [], length, slice_index_or, Option, Some, None}
use Rattle.cet_book.specs.declared.entries.Holder.{Holder}
use Rattle.cet_book.specs.declared.entries.Holder.TheVariants.{Maker, Current, Parked, Left, Lost}
use Rattle.cet_book.specs.Book.{Region, Book, region, top, current_of}
use Rattle.cet_book.specs.Facts.{Bounds, is_left, links, one}

-- what a holder asks of a region: one that is being made has no entries, and a parked one has room for its token
abbrev pub HolderFits : Region → Holder → Type 0
HolderFits r (Maker t) = r.entries ≡ []
HolderFits r (Current t) = Unit {0}
HolderFits r Parked = r.start + 8 ≤ top r
HolderFits r (Left q) = Unit {0}
HolderFits r Lost = Unit {0}

-- the entries are no more than the region has room for, and they fit its holder
pub record Fits (r : Region) : Type 0 where
  pub room : r.start + 8 * length r.entries ≤ r.end
  pub held : HolderFits r r.holder

-- the facts on regions
pub record Shape (b : Book) : Type 0 where
  pub bounds : (i : ℕ) → i < length b.regions → Bounds (region b i).start (region b i).end
  pub fits : (i : ℕ) → Fits (region b i)
  -- a later region lies above, so between two there is a page of neither
  pub apart : (i j : ℕ) → i < j → j < length b.regions → (region b i).end < (region b j).start
  -- at most one region is current on a thread
  pub alone : (t i : ℕ) → (region b i).holder ≡ Current t → current_of t b ≡ i
  -- Previous(s) stands once in region q where s is left for q, and else not at all
  pub chain : (q s : ℕ) → links s (region b q).entries ≡ one (is_left q (region b s).holder)

-- the facts on the holders of supervisor stacks: there are eight, and a thread holds at most one
pub record StackShape (stacks : List (Option ℕ)) : Type 0 where
  pub eight : length stacks ≡ 8
  pub alone : (t k j : ℕ) → slice_index_or stacks k None ≡ Some t → slice_index_or stacks j None ≡ Some t → k ≡ j

pub record IsBook (b : Book) : Type 0 where
  pub shape : Shape b
  pub stacks : StackShape b.stacks
