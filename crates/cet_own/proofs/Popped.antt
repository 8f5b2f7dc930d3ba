-- rt_sigreturn's way out: the newest entry, a frame's, goes, and the supervisor stack is given back. Source: own.
use Rattle.std.proofs.Common.{◌≡◌, ℕ, ◌+◌, ◌<◌, List, [], ◌∷◌, Some, None, refl, sym, ◌∙◌, ap, subst, arith}
use Rattle.std.specs.Prelude.{slice_index, slice_set}
use Rattle.cet_words.specs.Access.{answer, after}
use Rattle.cet_words.specs.Change.{Change, Freed, Popped}
use Rattle.cet_words.specs.Job.{ImageData}
use Rattle.cet_words.specs.Layout.{token, token_word}
use Rattle.cet_words.specs.declared.accesses.Access.{Access}
use Rattle.cet_words.specs.declared.accesses.Access.TheVariants as access
use Rattle.cet_book.specs.declared.entries.Entry.{Entry}
use Rattle.cet_book.specs.declared.entries.Entry.TheVariants.{Frame}
use Rattle.cet_book.specs.declared.entries.Holder.TheVariants.{Current}
use Rattle.cet_book.specs.Book.{Book, book_after, books_after, put_stack, region, relist, stack_of}
use Rattle.cet_book.proofs.Changes.{then_by}
use Rattle.cet_book.proofs.Edits.{Owned}
use Rattle.cet_book.proofs.Removes.{plain}
use Rattle.cet_book.proofs.Ways.{freed_way, popped_way}
use Rattle.cet_page.specs.Script.{birth}
use Rattle.cet_page.specs.Trail.{Visit}
use Rattle.cet_own.specs.Class.{class_at}
use Rattle.cet_own.specs.declared.access_classes.Class.TheVariants as class
use Rattle.cet_own.proofs.ClassLaws.{exchange_does, holds_gate, one_book, sound_after}
use Rattle.cet_own.proofs.Classes.{leaves_by, next_other, no_count_by, other_word, own_region, token_held, token_spares}
use Rattle.cet_own.proofs.Fits.{is_end, of_class, some_held}
use Rattle.cet_own.specs.Holds.{Holds, Sound}
use Rattle.cet_own.proofs.HeldAfter.{gives_note, notes_gate}
use Rattle.cet_own.specs.Owed.{Owed}
use Rattle.cet_own.proofs.Own.{holds_pop}
use Rattle.cet_own.proofs.Still.{gives_back}
use Rattle.cet_own.specs.Claims.{KeepsRestorers}

-- the frame's entry goes, and then a stack is given back
record Went (t m k : ℕ) (es : List Entry) (b next : Book) : Type 0 where
  first : book_after t b Popped ≡ Some (relist m es b)
  second : book_after t (relist m es b) (Freed k) ≡ Some next
  is : put_stack (relist m es b) k None ≡ next

went : (t m k : ℕ) (es : List Entry) (b next : Book) (changes : List Change) → Owned t m b → (region b m).entries ≡ Frame ∷ es → stack_of b k ≡ Some t → changes ≡ Popped ∷ Freed k ∷ [] →
    books_after t b changes ≡ Some next → Went t m k es b next
went t m k es b next changes o list held ev q =
    let r : books_after t b (Popped ∷ Freed k ∷ []) ≡ Some next = subst (λ cs. books_after t b cs ≡ Some next) ev q in
    let s = then_by t (book_after t b Popped) next (Freed k ∷ []) r in
    let way = popped_way o es list in
    let mid : s.0 ≡ relist m es b = (let w = s.1 in cc) in
    let second : book_after t (relist m es b) (Freed k) ≡ Some next
    = one_book t (relist m es b) next (Freed k) (Freed k ∷ []) refl (subst (λ n. books_after t n (Freed k ∷ []) ≡ Some next) mid s.2) in
    let held' : stack_of (relist m es b) k ≡ Some t = held in
    record { first = way; second = second; is = (let f = freed_way t k (relist m es b) held' in cc) }

pub pops_frame : {image : ImageData} {t k : ℕ} {past : List Visit} {b : Book} {a : Access} {v : ℕ} {changes : List Change} (m : ℕ) (es : List Entry) → k < 8 →
    a ≡ access.CompareExchange (token_word k) (token k + 1) (token k) → stack_of b k ≡ Some t → (region b m).holder ≡ Current t → (region b m).entries ≡ Frame ∷ es → changes ≡ Popped ∷ Freed k ∷ [] →
    Owed image t k past b a v changes
pops_frame {image = image} {t = t} {k = k} {b = b} {v = v} {changes = changes} m es l e held current list ev = record {
  notes = λ words is h. notes_gate v e ev (gives_note k v l (is ∙ ap (answer words) e ∙ token_held t k h l held)) (λ note j q. cc);
  below = λ words is h. gives_back t b v k e l held;
  fits = λ words is h ssp noted stands note. of_class class.End (Popped ∷ Freed k ∷ []) ev refl (ap (λ c. class_at c ssp noted v) e ∙ is_end k (token k + 1) (token k) ssp v noted l (some_held b noted k held note));
  counts = λ words is h. no_count_by (leaves_by e (other_word (token_word k) (omega arith)) (next_other (token_word k) (omega arith))) (ap birth ev);
  keeps = λ words next is h still q.
      let o = own_region t m h current in
      let at = token_held t k h l held in
      let g = went t m k es b next changes o list held ev q in
      let sound = sound_after t Popped b (relist m es b) h.sound g.first tt in
      let h' = holds_pop image words o (plain Frame es list (λ s. refl) refl) sound h in
      let sound' = sound_after t (Freed k) (relist m es b) next sound g.second tt in
      subst (λ c. Holds image (after words c) next) (sym e)
      (subst (λ w. Holds image w next) (sym (exchange_does words (token_word k) (token k + 1) (token k) at))
      (subst (Holds image (slice_set words (token_word k) (token k))) g.is
      (holds_gate image words (relist m es b) k (token k) None l (omega arith) (subst Sound (sym g.is) sound') h')));
  spares = λ words is h y n w own.
      subst (λ c. slice_index (after words c) w ≡ slice_index words w) (sym e) ((token_spares words b k (token k + 1) (token k) l).own y w own);
  restorers = λ words is h. subst (λ c. KeepsRestorers words (after words c)) (sym e) ((token_spares words b k (token k + 1) (token k) l).restorers);
}
