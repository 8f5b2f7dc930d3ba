-- INCSSPQ's last look: the newest entries of the thread's own region go, and no word is written. Source: own.
use Rattle.std.proofs.Common.{◌≡◌, ℕ, ◌<◌, ◌≤◌, List, [], ◌∷◌, Some, refl, sym, ◌∙◌, ap, subst, inl}
use Rattle.std.specs.Prelude.{slice_index}
use Rattle.cet_words.specs.Access.{after}
use Rattle.cet_words.specs.Change.{Change, Raised}
use Rattle.cet_words.specs.Job.{ImageData}
use Rattle.cet_words.specs.Layout.{first_kernel_page, first_shadow_page}
use Rattle.cet_words.specs.declared.accesses.Access.{Access}
use Rattle.cet_words.specs.declared.accesses.Access.TheVariants as access
use Rattle.cet_book.specs.Book.{Book, region, raised, book_after}
use Rattle.cet_book.specs.Shape.{StackShape}
use Rattle.cet_book.specs.declared.entries.Holder.TheVariants.{Current}
use Rattle.cet_book.proofs.Addresses.{removal_returns}
use Rattle.cet_book.proofs.Edits.{Owned}
use Rattle.cet_book.specs.Relied.{Free}
use Rattle.cet_book.proofs.Removes.{Removal, shortened, raised_all}
use Rattle.cet_book.proofs.Ways.{with_current_at}
use Rattle.cet_page.specs.Script.{birth}
use Rattle.cet_page.specs.Trail.{Visit}
use Rattle.cet_own.specs.Class.{class_at}
use Rattle.cet_own.specs.declared.access_classes.Class.TheVariants as class
use Rattle.cet_own.proofs.Still.{tells_below}
use Rattle.cet_own.proofs.ClassLaws.{one_book}
use Rattle.cet_own.proofs.Classes.{leaves_by, no_count_by, own_region}
use Rattle.cet_own.specs.Holds.{Sound, Holds}
use Rattle.cet_own.proofs.Own.{holds_pop}
use Rattle.cet_own.proofs.Fits.{of_class, none_held, is_look}
use Rattle.cet_own.proofs.HeldAfter.{notes_gate}
use Rattle.cet_own.specs.Owed.{Owed}
use Rattle.cet_own.specs.Claims.{KeepsRestorers}

sound_removed : {t m : ℕ} {b next : Book} → Owned t m b → Removal t m b next → Sound b → Sound next
sound_removed o r s =
    let d = shortened o r in
    record { book = record { shape = d.owned.shape; stacks = subst StackShape (sym d.stacks) s.book.stacks }; returns = removal_returns o r s.returns }

pub holds_raise : (image : ImageData) (words : List ℕ) (t m n : ℕ) (b next : Book) → Owned t m b → raised m n b ≡ Some next → Holds image words b → Holds image words next
holds_raise image words t m =
    raised_all t m (λ _ b next. Holds image words b → Holds image words next) (λ b _ h. h)
    (λ _ b mid next o removal rest h. rest (holds_pop image words o removal (sound_removed o removal h.sound) h))

-- where the book has that change
pub raises : {image : ImageData} {t k : ℕ} {past : List Visit} {b : Book} {a : Access} {v : ℕ} {changes : List Change} → (m n page : ℕ) → (region b m).holder ≡ Current t → first_shadow_page ≤ page →
    page < first_kernel_page → Free t b → a ≡ access.Look page → changes ≡ Raised n ∷ [] → Owed image t k past b a v changes
raises {image = image} {t = t} {b = b} {v = v} {changes = changes} m n page current low high free e ev = record {
  fits = λ words is h ssp held stands note. of_class class.Raise (Raised n ∷ []) ev refl (ap (λ c. class_at c ssp held v) e ∙ is_look page ssp v held low high (none_held b held free note));
  counts = λ words is h. no_count_by (leaves_by e refl refl) (ap birth ev);
  below = λ words is h. tells_below t b v e (λ j l. refl) (λ j l. refl);
  notes = λ words is h. notes_gate v e ev (λ held. refl) (λ held j q. inl q);
  keeps = λ words next is h still q.
      let o = own_region t m h current in
      let r : book_after t b (Raised n) ≡ Some next = one_book t b next (Raised n) changes ev q in
      subst (λ c. Holds image (after words c) next) (sym e)
      (holds_raise image words t m n b next o (sym (with_current_at o (λ m r. raised m n b)) ∙ r) h);
  spares = λ words is h y n w own. subst (λ c. slice_index (after words c) w ≡ slice_index words w) (sym e) refl;
  restorers = λ words is h. subst (λ c. KeepsRestorers words (after words c)) (sym e) (λ s l n. n);
}
