-- The addresses that calls and signals are to return to lie in the image, or at its end. Source: own.
use Rattle.std.proofs.Common.{◌≡◌, ℕ, zero, suc, List, ◌∷◌, Some, replicate, sym, subst}
use Rattle.cet_words.specs.Change.{Change, Called, Returned, Raised, Acquired, Released, Claimed, Seeded, Born, Pushed, Popped, Ended, Busied, Freed}
use Rattle.cet_book.specs.declared.entries.Entry.{Entry}
use Rattle.cet_book.specs.declared.entries.Entry.TheVariants.{Previous, Blank}
use Rattle.cet_book.specs.declared.entries.Holder.{Holder}
use Rattle.cet_book.specs.Book.{Region, Book, region, relist, unlink, acquire, raised, first_book}
use Rattle.cet_book.proofs.Edits.{Owned}
use Rattle.cet_book.proofs.Relist.{relist_all}
use Rattle.cet_book.proofs.Unlink.{Linked, unlink_all}
use Rattle.cet_book.proofs.Acquire.{Takes, acquire_all}
use Rattle.cet_book.proofs.Hand.{hand, Hands, hand_all}
use Rattle.cet_book.proofs.Append.{append, Appends, append_all}
use Rattle.cet_book.proofs.Removes.{Removal, plain, linked, raised_all}
use Rattle.cet_book.proofs.First.{first_empty}
use Rattle.cet_book.specs.Facts.{AllReturn, IsReturn, Returns}

-- of what a change adds
abbrev pub ChangeReturns : Change → Type 0
ChangeReturns (Called back) = IsReturn back
ChangeReturns Returned = Unit {0}
ChangeReturns (Raised n) = Unit {0}
ChangeReturns (Acquired p) = Unit {0}
ChangeReturns Released = Unit {0}
ChangeReturns (Claimed start pages maker) = Unit {0}
ChangeReturns (Seeded start n) = Unit {0}
ChangeReturns (Born child start) = Unit {0}
ChangeReturns (Pushed x) = IsReturn x
ChangeReturns Popped = Unit {0}
ChangeReturns Ended = Unit {0}
ChangeReturns (Busied k) = Unit {0}
ChangeReturns (Freed k) = Unit {0}

pub relist_returns : {t m : ℕ} {b : Book} → Owned t m b → (es : List Entry) → AllReturn es → Returns b → Returns (relist m es b)
relist_returns o es new old = relist_all o es (λ i r. AllReturn r.entries) new (λ i n. old i)

-- the entries below the newest
pub older_return : (b : Book) (m : ℕ) (e : Entry) (es : List Entry) → (region b m).entries ≡ e ∷ es → Returns b → AllReturn es
older_return b m e es list old = let all : AllReturn (e ∷ es) = subst AllReturn list (old m) in all.1

pub unlink_returns : {t m s : ℕ} {es : List Entry} {b : Book} → Linked t m s es b → (g : Holder) → Returns b → Returns (unlink m s es g b)
unlink_returns {m = m} {s = s} {es = es} {b = b} l g old =
    unlink_all l g (λ i r. AllReturn r.entries) (old s) (older_return b m (Previous s) es l.entries old) (λ i n n'. old i)

pub acquire_returns : {t m q : ℕ} {b : Book} → Takes t m q b → Returns b → Returns (acquire t m q b)
acquire_returns {m = m} {q = q} k old = acquire_all k (λ i r. AllReturn r.entries) (tt, old q) (old m) (λ i n n'. old i)

pub hand_returns : {s : ℕ} {es : List Entry} {g : Holder} {b : Book} → Hands s es g b → AllReturn es → Returns b → Returns (hand s es g b)
hand_returns h new old = hand_all h (λ i r. AllReturn r.entries) new (λ i n. old i)

pub append_returns : {r : Region} {b : Book} → Appends r b → Returns b → Returns (append r b)
append_returns a old = append_all a (λ i x. AllReturn x.entries) (subst AllReturn (sym a.empty) tt) (λ i n. old i)

pub blanks_return : (n : ℕ) → AllReturn (replicate n Blank)
blanks_return zero = tt
blanks_return (suc n) = (tt, blanks_return n)

pub removal_returns : {t m : ℕ} {b next : Book} → Owned t m b → Removal t m b next → Returns b → Returns next
removal_returns {m = m} {b = b} o (plain e es list not_link is) old = subst Returns is (relist_returns o es (older_return b m e es list old) old)
removal_returns o (linked s es l is) old = subst Returns is (unlink_returns l _ old)

pub raised_returns : (t m n : ℕ) (b next : Book) → Owned t m b → raised m n b ≡ Some next → Returns b → Returns next
raised_returns t m n b next o e =
    raised_all t m (λ _ b next. Returns b → Returns next) (λ b _ old. old)
    (λ _ b mid next o removal rest old. rest (removal_returns o removal old)) n b next o e

pub first_returns : Returns first_book
first_returns i = subst AllReturn (sym (first_empty i)) tt
