-- How a class with one change pays what it owes. Source: own.
use Rattle.std.proofs.Common.{◌≡◌, ◌≢◌, ℕ, inl, List, [], ◌∷◌, Some, refl, sym, subst, arith}
use Rattle.std.specs.Prelude.{slice_index, slice_set}
use Rattle.cet_words.specs.Access.{answer, after}
use Rattle.cet_words.specs.Job.{ImageData}
use Rattle.cet_words.specs.Change.{Change}
use Rattle.cet_words.specs.declared.accesses.Access.{Access}
use Rattle.cet_book.proofs.Addresses.{ChangeReturns}
use Rattle.cet_book.specs.Book.{Book, region, book_after}
use Rattle.cet_book.specs.Facts.{Owns}
use Rattle.cet_book.specs.Stack.{slot}
use Rattle.cet_book.specs.Facts.{Place, In}
use Rattle.cet_own.specs.Holds.{Sound, Holds}
use Rattle.cet_page.specs.Trail.{Visit}
use Rattle.cet_own.specs.Facts.{OwnWord, own_slot, below_token}
use Rattle.cet_own.specs.Claims.{KeepsRestorers, TellsBelow, CountsBy, Fits, NotesGate}
use Rattle.cet_own.specs.Owed.{Owed}
use Rattle.cet_own.proofs.ClassLaws.{one_book, sound_after}
use Rattle.cet_own.proofs.Classes.{word_other, keeps_restorers}

-- a write in a region that isn't the thread's leaves its own words
pub place_spares : (words : List ℕ) (b : Book) (k p x y : ℕ) → Place p → In (region b k) p → (Owns y (region b k).holder → ⊥) → (w : ℕ) → OwnWord y b w →
    slice_index (slice_set words (slot p) x) w ≡ slice_index words w
place_spares words b k p x y place inn not_own w (own_slot addr at own e) =
    let low = place.low in
    let even = place.even in
    let low' = at.low in
    let even' = at.even in
    word_other words (slot p) x w (λ z. (
    let same : addr ≡ p = omega arith in
    not_own (own.each k (subst (In (region b k)) (sym same) inn))))
place_spares words b k p x y place inn not_own w (below_token j l h e) =
    let high = place.high in
    word_other words (slot p) x w (λ z. omega arith)

pub place_restorers : (words : List ℕ) (p x : ℕ) → Place p → KeepsRestorers words (slice_set words (slot p) x)
place_restorers words p x place = let high = place.high in keeps_restorers words (slot p) x (inl (omega arith))

-- words of other threads' own, and restorers, are as they were
pub record Spares (t : ℕ) (b : Book) (words now : List ℕ) : Type 0 where
  pub own : (y : ℕ) → t ≢ y → (w : ℕ) → OwnWord y b w → slice_index now w ≡ slice_index words w
  pub restorers : KeepsRestorers words now

pub spares_none : (t : ℕ) (b : Book) (words : List ℕ) → Spares t b words words
spares_none t b words = record { own = λ y n w own. refl; restorers = λ s l n. n }

-- it is enough to say to which book the change leads, that words and book are in step there, and which words were spared
pub changed : {image : ImageData} {t k : ℕ} {past : List Visit} {b : Book} {a : Access} {v : ℕ} {changes : List Change} → (c : Change) (to : Book) → changes ≡ c ∷ [] → ChangeReturns c →
    ((words : List ℕ) → v ≡ answer words a → Holds image words b → Fits t past b a v changes) → ((words : List ℕ) → v ≡ answer words a → Holds image words b → CountsBy t past b a v changes) →
    ((words : List ℕ) → v ≡ answer words a → Holds image words b → TellsBelow t b a v) → ((words : List ℕ) → v ≡ answer words a → Holds image words b → NotesGate k a v changes) →
    ((words : List ℕ) → v ≡ answer words a → Holds image words b → book_after t b c ≡ Some to) →
    ((words : List ℕ) → v ≡ answer words a → Holds image words b → Sound to → Holds image (after words a) to × Spares t b words (after words a)) → Owed image t k past b a v changes
changed {image = image} {t = t} {b = b} {a = a} {v = v} {changes = changes} c to ev returns fits counts below notes way does = record {
  notes = notes;
  fits = fits;
  below = below;
  counts = counts;
  keeps = λ words next is h still q.
      let w = way words is h in
      let r : book_after t b c ≡ Some next = one_book t b next c changes ev q in
      let d : to ≡ next = cc in
      subst (Holds image (after words a)) d (does words is h (sound_to words is h)).0;
  spares = λ words is h y n w own. (does words is h (sound_to words is h)).1.own y n w own;
  restorers = λ words is h. (does words is h (sound_to words is h)).1.restorers;
}
  where
    sound_to : (words : List ℕ) → v ≡ answer words a → Holds image words b → Sound to
    sound_to words is h = sound_after t c b to h.sound (way words is h) returns
