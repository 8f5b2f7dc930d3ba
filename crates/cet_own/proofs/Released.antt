-- SAVEPREVSSP's store: the region that was left gets its restore token, and the entry that led to it goes. Source: own.
use Rattle.std.proofs.Common.{◌≡◌, ◌≢◌, ℕ, ◌+◌, ◌-◌, ◌≤◌, inl, List, [], ◌∷◌, refl, sym, ◌∙◌, ap, subst, arith}
use Rattle.std.specs.Prelude.{slice_set}
use Rattle.cet_words.specs.Access.{after}
use Rattle.cet_words.specs.Change.{Change, Released}
use Rattle.cet_words.specs.Job.{ImageData}
use Rattle.cet_words.specs.declared.accesses.Access.{Access}
use Rattle.cet_words.specs.declared.accesses.Access.TheVariants as access
use Rattle.cet_book.specs.Book.{Book, Region, region, top, unlink}
use Rattle.cet_book.specs.Facts.{In, Owns, Place, Stack}
use Rattle.cet_book.specs.Shape.{Shape}
use Rattle.cet_book.specs.Stack.{slot, tops}
use Rattle.cet_book.specs.declared.entries.Entry.{Entry}
use Rattle.cet_book.specs.declared.entries.Entry.TheVariants.{Previous}
use Rattle.cet_book.specs.declared.entries.Holder.TheVariants.{Current, Parked}
use Rattle.cet_book.proofs.Unlink.{Linked, linked_left, left_there, unlink_all, unlink_same, unlink_other, unlink_top, unlink_gone}
use Rattle.cet_book.specs.Relied.{Free}
use Rattle.cet_book.proofs.Ways.{released_way}
use Rattle.cet_page.specs.Script.{birth}
use Rattle.cet_page.specs.Trail.{Visit}
use Rattle.cet_own.specs.Class.{class_at}
use Rattle.cet_own.specs.declared.access_classes.Class.TheVariants as class
use Rattle.cet_own.proofs.Still.{not_below, tells_below}
use Rattle.cet_own.proofs.Changed.{Spares, changed, place_spares, place_restorers}
use Rattle.cet_own.proofs.Classes.{leaves_by, next_other, no_count_by, other_word}
use Rattle.cet_own.specs.Holds.{IsMaker, Sound, Holds}
use Rattle.cet_own.proofs.Kept.{ending_out, restorers_out, size_kept, pages_out, pages_same, gates_out, gates_same}
use Rattle.cet_own.proofs.Marks.{WritesAt, marks_write, other_holder}
use Rattle.cet_own.proofs.Own.{none_leads, tail_of}
use Rattle.cet_own.proofs.Fits.{of_class, none_held, is_release}
use Rattle.cet_own.proofs.HeldAfter.{notes_gate}
use Rattle.cet_own.specs.Owed.{Owed}
use Rattle.cet_own.proofs.Writes.{in_place, list_kept, list_free}

module _ {t m s : ℕ} {es : List Entry} {b : Book} (l : Linked t m s es b) (room : (region b s).start + 8 ≤ top (region b s)) where
  abbrev pub saved : Book
  saved = unlink m s es Parked b

  abbrev pub with_token : (words : List ℕ) → List ℕ
  with_token words = slice_set words (slot (top (region b s) - 8)) (top (region b s) + 1)

  pub save_place : Place (top (region b s) - 8) × In (region b s) (top (region b s) - 8)
  save_place =
      let shape = l.owned.shape in
      let bounds = shape.bounds s (left_there l) in
      let last = bounds.last in
      let low = bounds.low in
      let fits = (shape.fits s).room in
      let inn : In (region b s) (top (region b s) - 8) = record { low = omega arith; high = omega arith } in
      (in_place b s (top (region b s) - 8) shape inn (omega arith), inn)

  top_same : top (region saved s) ≡ top (region b s)
  top_same = ap (λ (r : Region). top r) (unlink_gone l Parked)

  -- the region is parked afterwards, with its token there
  token_comes : WritesAt (top (region b s) - 8) (top (region b s) + 1) s b saved
  token_comes = record {
    same = unlink_same l Parked;
    place = save_place.0;
    inside = save_place.1;
    on = λ i e _. unlink_other l Parked i (λ z. (let c = linked_left l in let d = subst (λ j. (region b j).holder ≡ Parked) z e in cc)) (other_holder l.owned i e);
    back = unlink_all l Parked (λ i r. i ≢ s → r.holder ≡ Parked → r ≡ region b i) (λ n. absurd (n refl)) (λ _ e. (let c = l.owned.current in cc)) (λ i n n' _ _. refl);
    at_k = λ e. (let g = top_same in (omega arith, omega arith));
    token = λ _. record { parked = ap (λ (r : Region). r.holder) (unlink_gone l Parked); top_is = (let g = top_same in omega arith) };
    not_maker = λ z. subst (λ (r : Region). IsMaker r.holder) (unlink_gone l Parked) z;
    makers = unlink_all l Parked (λ i r. IsMaker r.holder → IsMaker (region b i).holder) (λ z. absurd z) (λ z. z) (λ i n n' z. z);
  }

  pub holds_save : (image : ImageData) (words : List ℕ) → Sound saved → Holds image words b → Holds image (with_token words) saved
  holds_save image words sound h =
      let o = l.owned in
      let p = save_place in
      let low = p.0.low in
      let high = p.0.high in
      let old : (i : ℕ) → Stack (with_token words) (tops saved) (top (region b i)) (region b i).entries = λ i.
      list_kept words (with_token words) b saved m i o.shape (none_leads o) (unlink_top l Parked)
      (λ a lo hi even. list_free words b (top (region b s) - 8) (top (region b s) + 1) s i a o.shape p.0 p.1 (omega arith) lo hi even) (h.stacks i) in
      let fits = (o.shape.fits m).room in
      record {
        size = size_kept words (slot (top (region b s) - 8)) (top (region b s) + 1) h.size;
        sound = sound;
        stacks = unlink_all l Parked (λ i r. Stack (with_token words) (tops saved) (top r) r.entries) (old s)
            (tail_of (with_token words) (tops saved) (region b m).end (Previous s) es (region b m).entries l.entries (omega arith) (old m)) (λ i n n'. old i);
        pages = pages_same image (with_token words) b saved (unlink_same l Parked) (pages_out image words b (slot (top (region b s) - 8)) (top (region b s) + 1) (omega arith) h.pages);
        gates = gates_same (with_token words) b saved refl (gates_out words b (slot (top (region b s) - 8)) (top (region b s) + 1) (λ k lk. omega arith) h.gates);
        restorers = restorers_out image words (slot (top (region b s) - 8)) (top (region b s) + 1) (inl (omega arith)) h.restorers;
        marks = marks_write words token_comes h.size o.shape h.marks;
        ending = ending_out words (slot (top (region b s) - 8)) (top (region b s) + 1) (omega arith) h.ending;
      }

pub releases : {image : ImageData} {t k : ℕ} {past : List Visit} {b : Book} {a : Access} {v : ℕ} {changes : List Change} → (m s : ℕ) (es : List Entry) → (region b m).holder ≡ Current t →
    (region b m).entries ≡ Previous s ∷ es → (region b s).start + 8 ≤ top (region b s) → Free t b → a ≡ access.Store (slot (top (region b s) - 8)) (top (region b s) + 1) → changes ≡ Released ∷ [] →
    Owed image t k past b a v changes
releases {image = image} {t = t} {b = b} {a = a} {v = v} m s es current list room free e ev =
    changed Released (unlink m s es Parked b) ev tt
    (λ words is h ssp held stands note.
    let place = (save_place (link h.sound.book.shape) room).0 in
    let value : top (region b s) + 1 ≡ top (region b s) - 8 + 9 = omega arith in
    of_class class.Release (Released ∷ []) ev refl
    (ap (λ c. class_at c ssp held v) (e ∙ ap (access.Store (slot (top (region b s) - 8))) value) ∙ is_release (top (region b s) - 8) ssp v held place (none_held b held free note)))
    (λ words is h. let high = (save_place (link h.sound.book.shape) room).0.high in no_count_by (leaves_by e (other_word (slot (top (region b s) - 8)) (omega arith)) (next_other (slot (top (region b s) - 8)) (omega arith))) (ap birth ev))
    (λ words is h.
    let high = (save_place (link h.sound.book.shape) room).0.high in
    tells_below t b v e (λ j l. not_below (slot (top (region b s) - 8)) j (λ z. omega arith)) (λ j l. refl))
    (λ words is h. notes_gate v e ev (λ held. refl) (λ held j q. inl q))
    (λ words is h. let fits = (h.sound.book.shape.fits s).room in released_way (link h.sound.book.shape) (omega arith))
    (λ words is h sound.
    let l = link h.sound.book.shape in
    let p = save_place l room in
    subst (λ c. Holds image (after words c) (unlink m s es Parked b) × Spares t b words (after words c)) (sym e) (
      holds_save l room image words sound h,
      record {
        own = λ y n w own. place_spares words b s (top (region b s) - 8) (top (region b s) + 1) y p.0 p.1 (λ z. (let g = linked_left l in subst (Owns y) g z)) w own;
        restorers = place_restorers words (top (region b s) - 8) (top (region b s) + 1) p.0;
      },
    ))
  where
    link : Shape b → Linked t m s es b
    link shape = record { owned = record { shape = shape; current = current }; entries = list }
