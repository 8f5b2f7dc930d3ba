-- The two shadow stores of a delivery: the frame's word below the top, which no list has yet, and below it the restorer, with
-- which both are entries. Source: own.
use Rattle.std.proofs.Common.{◌≡◌, ◌≢◌, ℕ, ◌+◌, ◌-◌, ◌*◌, ◌^◌, ◌≤◌, inl, false, List, [], ◌∷◌, length, Some, refl, sym, ◌∙◌, ap, subst, arith}
use Rattle.std.specs.Prelude.{slice_index, slice_set}
use Rattle.cet_words.specs.Access.{after}
use Rattle.cet_words.specs.Change.{Change, Pushed}
use Rattle.cet_words.specs.Job.{ImageData}
use Rattle.cet_words.specs.Layout.{image_end}
use Rattle.cet_words.specs.declared.accesses.Access.{Access}
use Rattle.cet_words.specs.declared.accesses.Access.TheVariants as access
use Rattle.cet_book.specs.declared.entries.Entry.TheVariants.{Frame, Restorer}
use Rattle.cet_book.specs.declared.entries.Holder.TheVariants.{Current}
use Rattle.cet_book.specs.Book.{Book, Region, region, relist, top}
use Rattle.cet_book.specs.Facts.{In, IsReturn, Owns, Place, Stack}
use Rattle.cet_book.specs.Stack.{slot, slot_word, tops}
use Rattle.cet_book.proofs.Changes.{same_book}
use Rattle.cet_book.proofs.Edits.{Owned}
use Rattle.cet_book.specs.Relied.{owns_current}
use Rattle.cet_book.proofs.Relist.{relist_all, relist_holder, relist_other, relist_same}
use Rattle.cet_book.proofs.Top.{top_is}
use Rattle.cet_book.proofs.Ways.{pushed_way}
use Rattle.cet_page.specs.Script.{birth}
use Rattle.cet_page.specs.Trail.{Visit}
use Rattle.cet_own.specs.Class.{class_at}
use Rattle.cet_own.specs.Past.{below_frame, frame_pushed, left_in}
use Rattle.cet_own.specs.Facts.{IsOwnPlace, own_slot}
use Rattle.cet_own.specs.declared.access_classes.Class.TheVariants as class
use Rattle.cet_own.proofs.Changed.{place_restorers}
use Rattle.cet_own.proofs.ClassLaws.{one_book, sound_after}
use Rattle.cet_own.proofs.Classes.{leaves_by, next_other, no_count_by, other_word, own_region, own_spares}
use Rattle.cet_own.proofs.Fits.{is_push_lower, none_of, of_class}
use Rattle.cet_own.specs.Holds.{Holds, Sound}
use Rattle.cet_own.proofs.Kept.{ending_out, gates_out, gates_same, pages_out, pages_same, restorers_out, size_kept}
use Rattle.cet_own.proofs.Marks.{marks_write, tokens_none, tokens_relist, writes_own}
use Rattle.cet_own.proofs.HeldAfter.{notes_gate}
use Rattle.cet_own.specs.Owed.{Owed}
use Rattle.cet_own.proofs.Own.{below_top, none_leads}
use Rattle.cet_own.specs.Claims.{Stacked, KeepsRestorers}
use Rattle.cet_own.proofs.Still.{not_below, tells_below}
use Rattle.cet_own.proofs.Writes.{in_one, in_place, list_free, list_kept, slot_other, slot_same}

-- an address of the thread's own region is its own
pub own_place : {t m : ℕ} {b : Book} (o : Owned t m b) (addr : ℕ) → In (region b m) addr → IsOwnPlace t b addr
own_place {t = t} {m = m} {b = b} o addr inn = record {
  each = λ i x. subst (λ j. Owns t (region b j).holder) (sym (in_one b i m addr o.shape x inn)) (owns_current t (region b m).holder o.current);
}

-- ---- the frame's word

-- a word that is no token is written below the top, and no list changes
holds_marker : (image : ImageData) (words : List ℕ) {t m : ℕ} {b : Book} (o : Owned t m b) (x : ℕ) → (region b m).start + 8 ≤ top (region b m) → x ≢ top (region b m) + 1 → Holds image words b →
    Holds image (slice_set words (slot (top (region b m) - 8)) x) b
holds_marker image words {m = m} {b = b} o x room no_token h =
    let at = below_top o room in
    let low = at.place.low in
    let high = at.place.high in
    let stored = slice_set words (slot (top (region b m) - 8)) x in
    record {
      size = size_kept words (slot (top (region b m) - 8)) x h.size;
      sound = h.sound;
      stacks = λ i.
          list_kept words stored b b m i o.shape (none_leads o) (λ s n. refl)
          (λ a lo hi even. list_free words b (top (region b m) - 8) x m i a o.shape at.place at.inside (omega arith) lo hi even) (h.stacks i);
      pages = pages_out image words b (slot (top (region b m) - 8)) x (omega arith) h.pages;
      gates = gates_out words b (slot (top (region b m) - 8)) x (λ k l. omega arith) h.gates;
      restorers = restorers_out image words (slot (top (region b m) - 8)) x (inl (omega arith)) h.restorers;
      marks = marks_write words (writes_own (tokens_none b) o o.current at.place at.inside (λ z. no_token (omega arith))) h.size o.shape h.marks;
      ending = ending_out words (slot (top (region b m) - 8)) x (omega arith) h.ending;
    }

-- ---- the restorer

module _ (image : ImageData) (words : List ℕ) {t m : ℕ} {b : Book} (o : Owned t m b) (x : ℕ) where
  abbrev pub with_frame : Book
  with_frame = relist m (Restorer x ∷ Frame ∷ (region b m).entries) b

  abbrev stored : List ℕ
  stored = slice_set words (slot (top (region b m) - 16)) x

  -- the place two words below the top
  pub lower_place : (region b m).start + 16 ≤ top (region b m) → Place (top (region b m) - 16) × In (region b m) (top (region b m) - 16)
  lower_place room =
      let at = below_top o (omega arith) in
      let fits = (o.shape.fits m).room in
      let even = at.place.even in
      let inn : In (region b m) (top (region b m) - 16) = record { low = omega arith; high = omega arith } in
      (in_place b m (top (region b m) - 16) o.shape inn (omega arith), inn)

  holds_frame : (region b m).start + 16 ≤ top (region b m) → slot_word words (top (region b m) - 8) ≡ 2 ^ 63 + top (region b m) → x ≤ image_end → Sound with_frame → Holds image words b → Holds image stored with_frame
  holds_frame room word low_x sound h =
      let at = below_top o (omega arith) in
      let p = lower_place room in
      let low = p.0.low in
      let high = p.0.high in
      let same : (s : ℕ) → s ≢ m → tops with_frame s ≡ tops b s = λ s n. ap (λ (r : Region). top r) (relist_other o (Restorer x ∷ Frame ∷ (region b m).entries) s n) in
      let old : (i : ℕ) → Stack stored (tops with_frame) (top (region b i)) (region b i).entries = λ i.
      list_kept words stored b with_frame m i o.shape (none_leads o) same
      (λ a lo hi even. list_free words b (top (region b m) - 16) x m i a o.shape p.0 p.1 (omega arith) lo hi even) (h.stacks i) in
      let now : (region b m).end - 8 * length (Restorer x ∷ Frame ∷ (region b m).entries) ≡ top (region b m) - 16 = omega arith in
      let mid : top (region b m) - 16 + 8 ≡ top (region b m) - 8 = omega arith in
      let up : top (region b m) ≡ top (region b m) - 8 + 8 = omega arith in
      let differ : top (region b m) - 8 ≢ top (region b m) - 16 = omega arith in
      let value : 2 ^ 63 + top (region b m) ≡ 2 ^ 63 + (top (region b m) - 8) + 8 = omega arith in
      record {
        size = size_kept words (slot (top (region b m) - 16)) x h.size;
        sound = sound;
        stacks = relist_all o (Restorer x ∷ Frame ∷ (region b m).entries)
            (λ i r. Stack stored (tops with_frame) (top r) r.entries)
            (subst (λ a. Stack stored (tops with_frame) a (Restorer x ∷ Frame ∷ (region b m).entries)) (sym now) (
              slot_same words (top (region b m) - 16) x h.size p.0,
              subst (λ a. Stack stored (tops with_frame) a (Frame ∷ (region b m).entries)) (sym mid) (
                slot_other words (top (region b m) - 16) (top (region b m) - 8) x p.0 at.place differ ∙ word ∙ value,
                subst (λ a. Stack stored (tops with_frame) a (region b m).entries) up (old m),
              ),
            ))
            (λ i n. old i);
        pages = pages_same image stored b with_frame (relist_same o (Restorer x ∷ Frame ∷ (region b m).entries))
            (pages_out image words b (slot (top (region b m) - 16)) x (omega arith) h.pages);
        gates = gates_same stored b with_frame refl (gates_out words b (slot (top (region b m) - 16)) x (λ k l. omega arith) h.gates);
        restorers = restorers_out image words (slot (top (region b m) - 16)) x (inl (omega arith)) h.restorers;
        marks = marks_write words (writes_own (tokens_relist o (Restorer x ∷ Frame ∷ (region b m).entries)) o (relist_holder o (Restorer x ∷ Frame ∷ (region b m).entries) m ∙ o.current) p.0 p.1
            (omega arith)) h.size o.shape h.marks;
        ending = ending_out words (slot (top (region b m) - 16)) x (omega arith) h.ending;
      }

-- ---- the two classes

module _ {image : ImageData} {t k : ℕ} {past : List Visit} {b : Book} {a : Access} {v : ℕ} {changes : List Change} where
  -- a word that is no token is stored below the top of the thread's region, and is no entry yet
  pub stores_marker : (m x : ℕ) → (region b m).holder ≡ Current t → a ≡ access.Store (slot (top (region b m) - 8)) x → (region b m).start + 8 ≤ top (region b m) → x ≢ top (region b m) + 1 →
      changes ≡ [] → Owed image t k past b a v changes
  stores_marker m x current e room no_token ev = record {
    notes = λ words is h. notes_gate v e ev (λ held. refl) (λ held j q. inl q);
    below = λ words is h.
        let high = (below_top (own_region t m h current) room).place.high in
        tells_below t b v e (λ j l. not_below (slot (top (region b m) - 8)) j (λ z. omega arith)) (λ j l. refl);
    fits = λ words is h ssp held stands note. none_of _ ev;
    counts = λ words is h.
        let high = (below_top (own_region t m h current) room).place.high in
        no_count_by (leaves_by e (other_word (slot (top (region b m) - 8)) (omega arith)) (next_other (slot (top (region b m) - 8)) (omega arith))) (ap birth ev);
    keeps = λ words next is h still q.
        subst (λ c. Holds image (after words c) next) (sym e)
        (subst (Holds image (slice_set words (slot (top (region b m) - 8)) x)) (same_book t b next changes ev q) (holds_marker image words (own_region t m h current) x room no_token h));
    spares = λ words is h y n w own.
        let o = own_region t m h current in
        let at = below_top o room in
        subst (λ c. slice_index (after words c) w ≡ slice_index words w) (sym e) (own_spares words o y (top (region b m) - 8) x n at.place at.inside w own);
    restorers = λ words is h.
        subst (λ c. KeepsRestorers words (after words c)) (sym e) (place_restorers words (top (region b m) - 8) x (below_top (own_region t m h current) room).place);
  }

  -- the restorer is stored below the frame's word, which the row has stored
  pub stores_restorer : (m x : ℕ) → (region b m).holder ≡ Current t → a ≡ access.Store (slot (top (region b m) - 16)) x → (region b m).start + 16 ≤ top (region b m) →
      left_in past (slot (top (region b m) - 8)) ≡ Some (2 ^ 63 + top (region b m)) → IsReturn x → frame_pushed past ≡ false → changes ≡ Pushed x ∷ [] → Owed image t k past b a v changes
  stores_restorer m x current e room left is_return level ev = record {
    notes = λ words is h. notes_gate v e ev (λ held. refl) (λ held j q. inl q);
    below = λ words is h.
        let high = (lower_place image words (own_region t m h current) x room).0.high in
        tells_below t b v e (λ j l. not_below (slot (top (region b m) - 16)) j (λ z. omega arith)) (λ j l. refl);
    fits = λ words is h ssp held stands note.
        let o = own_region t m h current in
        let place = (lower_place image words o x room).0 in
        let low = place.low in
        let at' = subst (λ f. Stacked t b (below_frame f ssp)) level stands in
        let here : ssp ≡ top (region b m) = top_is o at'.top in
        let most = is_return.1 in
        of_class class.Push (Pushed x ∷ []) ev refl
        (ap (λ c. class_at c ssp held v) e ∙ is_push_lower (top (region b m) - 16) ssp v held place x (λ z. omega arith) (omega arith));
    counts = λ words is h.
        let high = (lower_place image words (own_region t m h current) x room).0.high in
        no_count_by (leaves_by e (other_word (slot (top (region b m) - 16)) (omega arith)) (next_other (slot (top (region b m) - 16)) (omega arith))) (ap birth ev);
    keeps = λ words next is h still q.
        let o = own_region t m h current in
        let at = below_top o (omega arith) in
        let fits = (o.shape.fits m).room in
        let way = pushed_way o x (omega arith) in
        let r = one_book t b next (Pushed x) changes ev q in
        let d : with_frame image words o x ≡ next = cc in
        let sound = sound_after t (Pushed x) b next h.sound r is_return in
        let word = still.word (slot (top (region b m) - 8)) (2 ^ 63 + top (region b m)) (own_slot (top (region b m) - 8) at.place (own_place o (top (region b m) - 8) at.inside) refl) left in
        subst (λ c. Holds image (after words c) next) (sym e)
        (subst (Holds image (slice_set words (slot (top (region b m) - 16)) x)) d (holds_frame image words o x room word is_return.1 (subst Sound (sym d) sound) h));
    spares = λ words is h y n w own.
        let o = own_region t m h current in
        let at = lower_place image words o x room in
        subst (λ c. slice_index (after words c) w ≡ slice_index words w) (sym e) (own_spares words o y (top (region b m) - 16) x n at.0 at.1 w own);
    restorers = λ words is h.
        subst (λ c. KeepsRestorers words (after words c)) (sym e) (place_restorers words (top (region b m) - 16) x (lower_place image words (own_region t m h current) x room).0);
  }
