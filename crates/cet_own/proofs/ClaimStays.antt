-- The stack that a row has claimed is in the book and nobody else's, whatever the threads do since. Source: own.
use Rattle.std.proofs.Common.{◌≡◌, ◌≢◌, ℕ, Bool, true, false, List, [], ◌∷◌, length, Option, Some, None, refl, sym, ◌∙◌, ap, subst, arith}
use Rattle.std.specs.Prelude.{if◌then◌else◌}
use Rattle.cet_words.specs.Change.{Change, Claimed, Seeded, Born}
use Rattle.cet_book.specs.Book.{Book, Region, claim, can_claim, book_after, books_after}
use Rattle.cet_book.specs.Shape.{IsBook}
use Rattle.cet_book.specs.declared.entries.Holder.TheVariants.{Lost, Maker}
use Rattle.cet_book.proofs.Append.{append, append_length, append_new}
use Rattle.cet_book.proofs.Cases.{if_some}
use Rattle.cet_book.proofs.Comes.{change_lasts}
use Rattle.cet_book.proofs.Changes.{same_book, then_by}
use Rattle.cet_book.proofs.Kept.{claims, book_kept}
use Rattle.cet_book.proofs.UnusedStays.{IsUnused, UsesMade, unused_stays}
use Rattle.cet_own.specs.Past.{NewStack, claimed_by, claimed_after}
use Rattle.cet_own.specs.Facts.{IsClaimed, HasClaimed}

holder_unused : (t : ℕ) (making : Bool) → IsUnused (if making then Maker t else Lost)
holder_unused t true = tt
holder_unused t false = tt

holder_apart : (t y : ℕ) (making : Bool) → y ≢ t → (if making then Maker t else Lost) ≢ Maker y
holder_apart t y true n e = n (let z : Maker t ≡ Maker y = e in cc)
holder_apart t y false n e = cc

-- a change of thread y, which is another one where a region that was made gets used
stays : (y t : ℕ) (c : Change) (b next : Book) (s : NewStack) → IsBook b → book_after y b c ≡ Some next → (UsesMade c → y ≢ t) → IsClaimed t s b → IsClaimed t s next
stays y t c b next s h e n k =
    let same = unused_stays y c b next h e k.number k.there (subst IsUnused (sym k.holder) (holder_unused t s.making)) (λ u z. holder_apart t y s.making (n u) (sym k.holder ∙ z)) in
    record {
      number = k.number;
      there = let l = k.there in let grows = (change_lasts y c b next h e).grows in omega arith;
      first = ap (λ (r : Region). r.start) same ∙ k.first;
      last = ap (λ (r : Region). r.end) same ∙ k.last;
      holder = ap (λ (r : Region). r.holder) same ∙ k.holder;
    }

-- ---- another thread's changes

all_stay : (y t : ℕ) (cs : List Change) (b next : Book) (s : NewStack) → IsBook b → y ≢ t → books_after y b cs ≡ Some next → IsClaimed t s b → IsClaimed t s next
all_stay y t [] b next s h n q k = subst (IsClaimed t s) (same_book y b next [] refl q) k
all_stay y t (c ∷ cs) b next s h n q k =
    let d = then_by y (book_after y b c) next cs q in
    all_stay y t cs d.0 next s (book_kept y c b d.0 h d.1).book n d.2 (stays y t c b d.0 s h d.1 (λ _. n) k)

pub claim_stays : (y t : ℕ) (cs : List Change) (b next : Book) (o : Option NewStack) → IsBook b → y ≢ t → books_after y b cs ≡ Some next → HasClaimed t o b → HasClaimed t o next
claim_stays y t cs b next None h n q k = tt
claim_stays y t cs b next (Some s) h n q k = all_stay y t cs b next s h n q k

-- ---- the thread's own

-- the region is the book's newest
new_claim : (t start pages : ℕ) (maker : Bool) (b next : Book) → IsBook b → book_after t b (Claimed start pages maker) ≡ Some next → IsClaimed t (record { start = start; pages = pages; making = maker }) next
new_claim t start pages maker b next h e =
    let test = if_some (can_claim start pages b) _ next e in
    let is : append (claim t start pages maker) b ≡ next = (let d = test.1 in cc) in
    let a = claims t start pages maker b h.shape in
    let new = append_new a in
    subst (IsClaimed t (record { start = start; pages = pages; making = maker })) is (record {
      number = length b.regions;
      there = let n = append_length a in omega arith;
      first = ap (λ (r : Region). r.start) new;
      last = ap (λ (r : Region). r.end) new;
      holder = ap (λ (r : Region). r.holder) new;
    })

own_stays : (t : ℕ) (c : Change) (b next : Book) (o : Option NewStack) → IsBook b → book_after t b c ≡ Some next → (UsesMade c → ⊥) → HasClaimed t o b → HasClaimed t o next
own_stays t c b next None h e n k = tt
own_stays t c b next (Some s) h e n k = stays t t c b next s h e (λ u. absurd (n u)) k

own_change : (t : ℕ) (c : Change) (b next : Book) (o : Option NewStack) → IsBook b → book_after t b c ≡ Some next → HasClaimed t o b → HasClaimed t (claimed_by c o) next
own_change t (Claimed start pages maker) b next o h e k = new_claim t start pages maker b next h e
own_change t (Seeded start blanks) b next o h e k = tt
own_change t (Born child start) b next o h e k = tt
own_change t c b next o h e k = own_stays t c b next o h e (λ z. z) k

pub claim_own : (t : ℕ) (cs : List Change) (b next : Book) (o : Option NewStack) → IsBook b → books_after t b cs ≡ Some next → HasClaimed t o b → HasClaimed t (claimed_after cs o) next
claim_own t [] b next o h q k = subst (HasClaimed t o) (same_book t b next [] refl q) k
claim_own t (c ∷ cs) b next o h q k =
    let d = then_by t (book_after t b c) next cs q in
    claim_own t cs d.0 next (claimed_by c o) (book_kept t c b d.0 h d.1).book d.2 (own_change t c b d.0 o h d.1 k)
