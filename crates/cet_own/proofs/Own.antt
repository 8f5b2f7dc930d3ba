-- The list of the region that is current on a thread changes, in memory and in the book. Source: own.
use Rattle.std.proofs.Common.{inl, ◌≡◌, ◌≢◌, ℕ, suc, ◌+◌, ◌-◌, ◌*◌, ◌≤◌, List, ◌∷◌, length, refl, sym, ◌∙◌, ap, subst, arith}
use Rattle.std.specs.Prelude.{slice_set}
use Rattle.cet_words.specs.Layout.{image_end}
use Rattle.cet_words.specs.Job.{ImageData}
use Rattle.cet_book.specs.declared.entries.Entry.{Entry}
use Rattle.cet_book.specs.declared.entries.Entry.TheVariants.{Call, Previous}
use Rattle.cet_book.specs.declared.entries.Holder.TheVariants.{Current, Lost}
use Rattle.cet_book.specs.Book.{Book, Region, region, top, relist, unlink}
use Rattle.cet_book.specs.Facts.{links, Stack, Place, In}
use Rattle.cet_book.proofs.Edits.{Owned, owned_there}
use Rattle.cet_book.proofs.Acquire.{unlinked}
use Rattle.cet_book.proofs.Relist.{relist_all, relist_same, relist_other, relist_holder}
use Rattle.cet_book.proofs.Unlink.{unlink_all, unlink_same, unlink_top}
use Rattle.cet_book.proofs.Removes.{Removal, plain, linked}
use Rattle.cet_book.specs.Stack.{slot, tops}
use Rattle.cet_own.specs.Holds.{Sound, Holds}
use Rattle.cet_own.proofs.Writes.{in_place, list_kept, list_free, slot_same}
use Rattle.cet_own.proofs.Marks.{marks_same, marks_write, writes_own, tokens_relist, tokens_unlink}
use Rattle.cet_own.proofs.Kept.{ending_out, restorers_out, size_kept, pages_out, pages_same, gates_out, gates_same}

-- no entry leads to the region
pub none_leads : {t m : ℕ} {b : Book} (o : Owned t m b) (i : ℕ) → links m (region b i).entries ≡ 0
none_leads {t = t} {m = m} o i = unlinked m i (Current t) o.shape o.current refl

-- the place below the top, where there is room
pub record Below (m : ℕ) (b : Book) : Type 0 where
  pub place : Place (top (region b m) - 8)
  pub inside : In (region b m) (top (region b m) - 8)

pub below_top : {t m : ℕ} {b : Book} (o : Owned t m b) → (region b m).start + 8 ≤ top (region b m) → Below m b
below_top {m = m} {b = b} o room =
    let d = o.shape.bounds m (owned_there o) in
    let low = d.low in
    let last = d.last in
    let r = (o.shape.fits m).room in
    let inside : In (region b m) (top (region b m) - 8) = record { low = omega arith; high = omega arith } in
    record { place = in_place b m (top (region b m) - 8) o.shape inside (omega arith); inside = inside }

module _ (image : ImageData) (words : List ℕ) {t m : ℕ} {b : Book} (o : Owned t m b) (back : ℕ) where
  abbrev pub pushed : Book
  pushed = relist m (Call back ∷ (region b m).entries) b

  abbrev pub stored : List ℕ
  stored = slice_set words (slot (top (region b m) - 8)) back

  -- a return address is stored below the top, and is the newest entry
  pub holds_push : (region b m).start + 8 ≤ top (region b m) → back ≤ image_end → Sound pushed → Holds image words b → Holds image stored pushed
  holds_push room low_back sound h =
      let at = below_top o room in
      let low = at.place.low in
      let high = at.place.high in
      let same : (s : ℕ) → s ≢ m → tops pushed s ≡ tops b s = λ s n. ap (λ (r : Region). top r) (relist_other o (Call back ∷ (region b m).entries) s n) in
      let old : (i : ℕ) → Stack stored (tops pushed) (top (region b i)) (region b i).entries = λ i.
      list_kept words stored b pushed m i o.shape (none_leads o) same
      (λ a lo hi even. list_free words b (top (region b m) - 8) back m i a o.shape at.place at.inside (omega arith) lo hi even) (h.stacks i) in
      let now : (region b m).end - 8 * length (Call back ∷ (region b m).entries) ≡ top (region b m) - 8 = omega arith in
      let up : top (region b m) ≡ top (region b m) - 8 + 8 = omega arith in
      record {
        size = size_kept words (slot (top (region b m) - 8)) back h.size;
        sound = sound;
        stacks = relist_all o (Call back ∷ (region b m).entries)
            (λ i r. Stack stored (tops pushed) (top r) r.entries)
            (subst (λ a. Stack stored (tops pushed) a (Call back ∷ (region b m).entries)) (sym now) (
              slot_same words (top (region b m) - 8) back h.size at.place,
              subst (λ a. Stack stored (tops pushed) a (region b m).entries) up (old m),
            ))
            (λ i n. old i);
        pages = pages_same image stored b pushed (relist_same o (Call back ∷ (region b m).entries))
            (pages_out image words b (slot (top (region b m) - 8)) back (omega arith) h.pages);
        restorers = restorers_out image words (slot (top (region b m) - 8)) back (inl (omega arith)) h.restorers;
        marks = marks_write words (writes_own (tokens_relist o (Call back ∷ (region b m).entries)) o (relist_holder o (Call back ∷ (region b m).entries) m ∙ o.current) at.place at.inside (omega arith)) h.size o.shape h.marks;
        ending = ending_out words (slot (top (region b m) - 8)) back (omega arith) h.ending;
        gates = gates_same stored b pushed refl
            (gates_out words b (slot (top (region b m) - 8)) back (λ k l. omega arith) h.gates);
      }

-- the old list without its newest entry
pub tail_of : (words : List ℕ) (f : ℕ → ℕ) (end : ℕ) (e : Entry) (es l : List Entry) → l ≡ e ∷ es → 8 * length l ≤ end → Stack words f (end - 8 * length l) l → Stack words f (end - 8 * length es) es
tail_of words f end e es l is room h =
    let s : Stack words f (end - 8 * length l) (e ∷ es) = subst (Stack words f (end - 8 * length l)) is h in
    let longer : length l ≡ suc (length es) = ap (λ (q : List Entry). length q) is in
    let up : end - 8 * length l + 8 ≡ end - 8 * length es = omega arith in
    subst (λ a. Stack words f a es) up s.1

-- the newest entry goes, and no word is written
pub holds_pop : (image : ImageData) (words : List ℕ) {t m : ℕ} {b next : Book} → Owned t m b → Removal t m b next → Sound next → Holds image words b → Holds image words next
holds_pop image words {m = m} {b = b} {next = next} o (plain e es list not_link is) sound h =
    subst (λ n. Sound n → Holds image words n) is (λ sound'.
    let same : (s : ℕ) → s ≢ m → tops (relist m es b) s ≡ tops b s = λ s n. ap (λ (r : Region). top r) (relist_other o es s n) in
    let old : (i : ℕ) → Stack words (tops (relist m es b)) (top (region b i)) (region b i).entries = λ i. list_kept words words b (relist m es b) m i o.shape (none_leads o) same (λ a lo hi even. refl) (h.stacks i) in
    let room = (o.shape.fits m).room in
    record {
      size = h.size;
      sound = sound';
      stacks = relist_all o es (λ i r. Stack words (tops (relist m es b)) (top r) r.entries)
          (tail_of words (tops (relist m es b)) (region b m).end e es (region b m).entries list (omega arith) (old m)) (λ i n. old i);
      pages = pages_same image words b (relist m es b) (relist_same o es) h.pages;
      gates = gates_same words b (relist m es b) refl h.gates;
      restorers = h.restorers;
      marks = marks_same words (tokens_relist o es) h.marks;
      ending = h.ending;
    }) sound
holds_pop image words {m = m} {b = b} {next = next} o (linked s es l is) sound h =
    subst (λ n. Sound n → Holds image words n) is (λ sound'.
    let old : (i : ℕ) → Stack words (tops (unlink m s es Lost b)) (top (region b i)) (region b i).entries =
    λ i. list_kept words words b (unlink m s es Lost b) m i o.shape (none_leads o) (unlink_top l Lost) (λ a lo hi even. refl) (h.stacks i) in
    let room = (o.shape.fits m).room in
    record {
      size = h.size;
      sound = sound';
      stacks = unlink_all l Lost (λ i r. Stack words (tops (unlink m s es Lost b)) (top r) r.entries) (old s)
          (tail_of words (tops (unlink m s es Lost b)) (region b m).end (Previous s) es (region b m).entries l.entries (omega arith) (old m)) (λ i n n'. old i);
      pages = pages_same image words b (unlink m s es Lost b) (unlink_same l Lost) h.pages;
      gates = gates_same words b (unlink m s es Lost b) refl h.gates;
      restorers = h.restorers;
      marks = marks_same words (tokens_unlink l) h.marks;
      ending = h.ending;
    }) sound
