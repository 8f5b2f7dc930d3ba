-- Where a thread stands within a row. What the row has done so far is an index read off its trail, which an access that
-- does none of it leaves as it is; so claims needn't speak of trails. Source: own.
use Rattle.std.proofs.Common.{◌≡◌, ℕ, Bool, false, Option, Some, refl, sym, ◌∙◌, subst}
use Rattle.cet_words.specs.Layout.{kernel_return}
use Rattle.cet_book.specs.Book.{Book, stack_of}
use Rattle.cet_own.proofs.Standing.{stacked_kept, free_kept}
use Rattle.cet_own.specs.Claims.{Stacked, AtRest}
use Rattle.cet_book.specs.Relied.{Relies, Free}
use Rattle.cet_own.specs.Past.{below_frame}
use Rattle.cet_own.proofs.Progress.{Progress, untouched}

-- it holds no supervisor stack, and the row has done d
pub record Resting (t : ℕ) (d now : Progress) (b : Book) (ssp : ℕ) : Type 0 where
  pub stacked : Stacked t b (below_frame d.framed ssp)
  pub free : Free t b
  pub level : now ≡ d

-- it holds supervisor stack k, below whose token its row left the kernel's return address
pub record Inside (t k : ℕ) (d now : Progress) (left : Option ℕ) (b : Book) (ssp : ℕ) : Type 0 where
  pub stacked : Stacked t b (below_frame d.framed ssp)
  pub holds : stack_of b k ≡ Some t
  pub level : now ≡ d
  pub settled : left ≡ Some kernel_return
  -- and no other one
  pub alone : (j : ℕ) → stack_of b j ≡ Some t → j ≡ k

at_level : {t : ℕ} {d now : Progress} {b : Book} (ssp : ℕ) → now ≡ d → Stacked t b (below_frame d.framed ssp) → Stacked t b (below_frame now.framed ssp)
at_level {t = t} {b = b} ssp e s = subst (λ (x : Progress). Stacked t b (below_frame x.framed ssp)) (sym e) s

-- what During asks before an access
pub rest_stacked : {t : ℕ} {d now : Progress} {b : Book} {ssp : ℕ} → Resting t d now b ssp → Stacked t b (below_frame now.framed ssp)
rest_stacked {ssp = ssp} r = at_level ssp r.level r.stacked

pub inside_stacked : {t k : ℕ} {d now : Progress} {left : Option ℕ} {b : Book} {ssp : ℕ} → Inside t k d now left b ssp → Stacked t b (below_frame now.framed ssp)
inside_stacked {ssp = ssp} r = at_level ssp r.level r.stacked

-- after an access elsewhere
pub inside_left : {t k : ℕ} {d now : Progress} {left left' : Option ℕ} {b : Book} {ssp : ℕ} → left' ≡ left → Inside t k d now left b ssp → Inside t k d now left' b ssp
inside_left e i = record { stacked = i.stacked; holds = i.holds; level = i.level; settled = e ∙ i.settled; alone = i.alone }

-- at the end of a row without a frame
pub rested : {t : ℕ} {drawing numbering : Bool} {now : Progress} {b : Book} {ssp : ℕ} → Resting t (record { framed = false; drawing = drawing; numbering = numbering }) now b ssp → AtRest t b ssp
rested r = record { stacked = r.stacked; free = r.free }

-- at the start of a row
pub row_starts : {t : ℕ} {b : Book} {ssp : ℕ} → AtRest t b ssp → Resting t untouched untouched b ssp
row_starts r = record { stacked = r.stacked; free = r.free; level = refl }

module _ {t : ℕ} {b later : Book} (r : Relies t b later) where
  pub rest_kept : {d now : Progress} {ssp : ℕ} → Resting t d now b ssp → Resting t d now later ssp
  rest_kept a = record { stacked = stacked_kept r a.stacked; free = free_kept r a.free; level = a.level }

  pub inside_kept : {k : ℕ} {d now : Progress} {left : Option ℕ} {ssp : ℕ} → Inside t k d now left b ssp → Inside t k d now left later ssp
  inside_kept {k = k} i = record { stacked = stacked_kept r i.stacked; holds = r.held k i.holds; level = i.level; settled = i.settled; alone = λ j e. i.alone j (r.free j e) }
