-- What a change leaves of regions that are kept, that is current, parked or left: each was kept before, or the change names its
-- start. Source: own.
use Rattle.std.proofs.Common.{◌≡◌, ℕ, ◌<◌, ◌⊎◌, inl, inr, List, length, Some, sym, subst}
use Rattle.cet_words.specs.Change.{Change, Seeded, Born}
use Rattle.cet_book.specs.declared.entries.Entry.{Entry}
use Rattle.cet_book.specs.declared.entries.Holder.{Holder}
use Rattle.cet_book.specs.declared.entries.Holder.TheVariants.{Lost}
use Rattle.cet_book.specs.Book.{Region, Book, region, relist, unlink, acquire, book_after}
use Rattle.cet_book.specs.Shape.{IsBook}
use Rattle.cet_book.specs.View.{IsKept}
use Rattle.cet_book.proofs.Acquire.{Takes, acquire_all}
use Rattle.cet_book.proofs.Append.{Appends, append, append_all}
use Rattle.cet_book.proofs.Edits.{Owned, is_there}
use Rattle.cet_book.proofs.Edited.{Edited, relists, unlinks, raises, acquires, appends, seeds_region, bears_child, ends_region, busies, frees, edited}
use Rattle.cet_book.proofs.Hand.{Hands, hand, hand_all, seeds, bears, ends}
use Rattle.cet_book.proofs.Relist.{relist_holder}
use Rattle.cet_book.proofs.Removes.{Removal, plain, linked, raised_all}
use Rattle.cet_book.proofs.Unlink.{Linked, linked_left, unlink_all}

-- the change names the start of a region that it makes kept
abbrev pub Keeps : Change → (start : ℕ) → Type 0
Keeps (Seeded start blanks) at = start ≡ at
Keeps (Born child start) at = start ≡ at
Keeps c at = ⊥

-- what is kept was kept before
abbrev Was : (b next : Book) → Type 0
Was b next = (i : ℕ) → IsKept (region next i).holder → IsKept (region b i).holder

relist_was : {t m : ℕ} {b : Book} → Owned t m b → (es : List Entry) → Was b (relist m es b)
relist_was o es i k = subst IsKept (relist_holder o es i) k

unlink_was : {t m s : ℕ} {es : List Entry} {b : Book} → Linked t m s es b → (g : Holder) → Was b (unlink m s es g b)
unlink_was {b = b} l g =
    unlink_all l g (λ i r. IsKept r.holder → IsKept (region b i).holder) (λ _. subst IsKept (sym (linked_left l)) tt) (λ k. k) (λ i n n' k. k)

removal_was : {t m : ℕ} {b next : Book} → Owned t m b → Removal t m b next → Was b next
removal_was {b = b} o (plain e es list not_link is) = subst (Was b) is (relist_was o es)
removal_was {b = b} o (linked s es l is) = subst (Was b) is (unlink_was l Lost)

acquire_was : {t m q : ℕ} {b : Book} → Takes t m q b → Was b (acquire t m q b)
acquire_was {b = b} k =
    acquire_all k (λ i r. IsKept r.holder → IsKept (region b i).holder) (λ _. subst IsKept (sym k.parked) tt)
    (λ _. subst IsKept (sym k.owned.current) tt) (λ i n n' x. x)

new_kept : {r : Region} {b : Book} → Appends r b → IsKept r.holder → ⊥
new_kept a k = elim a.holder [ inl m ↦ subst IsKept m.1 k | inr e ↦ subst IsKept e k ]

append_was : {r : Region} {b : Book} → Appends r b → Was b (append r b)
append_was {b = b} a = append_all a (λ i r. IsKept r.holder → IsKept (region b i).holder) (λ k. absurd (new_kept a k)) (λ i n k. k)

-- a region of this start gets a holder
hand_was : {s start : ℕ} {es : List Entry} {g : Holder} {b : Book} → Hands s es g b → (region b s).start ≡ start → (i : ℕ) → IsKept (region (hand s es g b) i).holder →
    IsKept (region b i).holder ⊎ ((i < length b.regions) × (start ≡ (region b i).start))
hand_was {start = start} {b = b} h at =
    hand_all h (λ i r. IsKept r.holder → IsKept (region b i).holder ⊎ ((i < length b.regions) × (start ≡ (region b i).start))) (λ _. inr (h.there, sym at)) (λ i n k. inl k)

end_was : {t m : ℕ} {b : Book} → Owned t m b → Was b (hand m (region b m).entries Lost b)
end_was {b = b} o = hand_all (ends o) (λ i r. IsKept r.holder → IsKept (region b i).holder) (λ k. absurd k) (λ i n k. k)

edit_was : (t : ℕ) (c : Change) (b next : Book) → Edited t c b next → (i : ℕ) → IsKept (region next i).holder → IsKept (region b i).holder ⊎ ((i < length b.regions) × Keeps c (region b i).start)
edit_was t c b next (relists m es o is) i k = inl (subst (Was b) is (relist_was o es) i k)
edit_was t c b next (unlinks m s es g l gone is) i k = inl (subst (Was b) is (unlink_was l g) i k)
edit_was t c b next (raises m n o is) i k =
    inl (raised_all t m (λ _ b next. Was b next) (λ b _ i k. k) (λ _ b mid next o removal rest i k. removal_was o removal i (rest i k)) n b next o is i k)
edit_was t c b next (acquires m p q e k is) i x = inl (subst (Was b) is (acquire_was k) i x)
edit_was t c b next (appends r a is) i k = inl (subst (Was b) is (append_was a) i k)
edit_was t c b next (seeds_region s n start e at m is) i k =
    subst (λ x. IsKept (region b i).holder ⊎ ((i < length b.regions) × Keeps x (region b i).start)) (sym e) (hand_was (seeds m n) at i (subst (λ x. IsKept (region x i).holder) (sym is) k))
edit_was t c b next (bears_child s child start e at m few is) i k =
    subst (λ x. IsKept (region b i).holder ⊎ ((i < length b.regions) × Keeps x (region b i).start)) (sym e) (hand_was (bears m child) at i (subst (λ x. IsKept (region x i).holder) (sym is) k))
edit_was t c b next (ends_region m o is) i k = inl (subst (Was b) is (end_was o) i k)
edit_was t c b next (busies k e inside free is) i x = inl (subst (Was b) is (λ i x. x) i x)
edit_was t c b next (frees k e held is) i x = inl (subst (Was b) is (λ i x. x) i x)

-- a region that is kept is one of the book's
pub kept_there : (b : Book) (i : ℕ) → IsKept (region b i).holder → i < length b.regions
kept_there b i k = is_there b i (λ e. subst IsKept e k)

pub was_kept : (t : ℕ) (c : Change) (b next : Book) → IsBook b → book_after t b c ≡ Some next → (i : ℕ) → IsKept (region next i).holder → IsKept (region b i).holder ⊎ ((i < length b.regions) × Keeps c (region b i).start)
was_kept t c b next h e = edit_was t c b next (edited t c b next h e)
