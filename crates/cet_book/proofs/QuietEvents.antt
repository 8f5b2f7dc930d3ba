-- What a change leaves of the regions of a thread: its own that changes no list, and those of others. Source: own.
use Rattle.std.proofs.Common.{zero, suc, ◌≡◌, ◌≢◌, ℕ, ◌<◌, ◌≤◌, ◌⊎◌, inl, inr, true, ◌&&◌, List, [], length, Some, refl, sym, ◌∙◌, ap, subst, arith}
use Rattle.std.specs.Prelude.{nat_le}
use Rattle.std.proofs.lemmas.Bool.{cases_lt}
use Rattle.std.proofs.lemmas.Bool.Decides.{eqb_tells, nat_tests}
use Rattle.cet_words.specs.Change.{Change, Born}
use Rattle.cet_book.specs.declared.entries.Entry.{Entry}
use Rattle.cet_book.specs.declared.entries.Holder.{Holder}
use Rattle.cet_book.specs.declared.entries.Holder.TheVariants.{Maker, Current, Parked, Left, Lost}
use Rattle.cet_book.specs.Book.{Region, Book, region, is_maker, current_of, starting_at, relist, unlink, acquire, raised, book_after}
use Rattle.cet_book.specs.EventLists.{SameLists}
use Rattle.cet_book.specs.Shape.{Shape, IsBook}
use Rattle.cet_book.proofs.Edits.{Owned, owned_only, is_there, current_holds}
use Rattle.cet_book.proofs.Relist.{relist_all, relist_here, relist_holder}
use Rattle.cet_book.proofs.Unlink.{Linked, unlink_here}
use Rattle.cet_book.proofs.Acquire.{Takes, acquire_taken}
use Rattle.cet_book.proofs.Hand.{hand, Made, made_empty, hand_all, hand_other, seeds, bears, ends}
use Rattle.cet_book.proofs.Append.{append_old, append_all, nowhere_there}
use Rattle.cet_book.proofs.Removes.{raised_shortened}
use Rattle.cet_book.specs.Relied.{Relies, owns_current}
use Rattle.cet_book.proofs.Cases.{if_some, and_true, maker_true}
use Rattle.cet_book.proofs.Kept.{NotBorn, book_kept}
use Rattle.cet_book.proofs.Edited.{Edited, relists, unlinks, raises, acquires, appends, seeds_region, bears_child, ends_region, busies, frees, edited}

-- a thread is on the region, or has left it
abbrev pub Settled : Holder → Type 0
Settled (Maker x) = ⊥
Settled (Current x) = Unit {0}
Settled Parked = ⊥
Settled (Left q) = Unit {0}
Settled Lost = ⊥

-- ---- a change of the thread's own that changes no list

pub data Quiet (t : ℕ) (b next : Book) : Type 0 where
  -- settled regions stay as they are, and a region that comes to the thread is empty
  keeps : ((i : ℕ) → Settled (region b i).holder → region next i ≡ region b i) → ((i : ℕ) → (region next i).holder ≡ Current t → ((region b i).holder ≡ Current t) ⊎ ((region next i).entries ≡ [])) → Quiet t b next
  -- or the thread ends
  stops : ((i : ℕ) → (region next i).holder ≢ Current t) → ((i : ℕ) → (region b i).holder ≡ Current t → (region next i).holder ≡ Lost) → Quiet t b next

quiet_same : (t : ℕ) (b : Book) → Quiet t b b
quiet_same t b = keeps (λ i s. refl) (λ i e. inl e)

-- a list that is replaced by itself
quiet_relist : {t m : ℕ} {b : Book} (o : Owned t m b) (es : List Entry) → SameLists b (relist m es b) → Quiet t b (relist m es b)
quiet_relist {m = m} {b = b} o es same =
    let list : es ≡ (region b m).entries = sym (ap (λ (r : Region). r.entries) (relist_here o es)) ∙ same m in
    keeps (λ i _. relist_all o es (λ j r. r ≡ region b j) (ap (λ (l : List Entry). record (region b m) { entries = l }) list) (λ j n. refl) i)
    (λ i e. inl (sym (relist_holder o es i) ∙ e))

quiet_unlink : {t m s : ℕ} {es : List Entry} {b : Book} (l : Linked t m s es b) (g : Holder) → SameLists b (unlink m s es g b) → ⊥
quiet_unlink {m = m} l g same =
    let now = ap (λ (r : Region). length r.entries) (unlink_here l g) in
    let kept = ap (λ (l : List Entry). length l) (same m) in
    let was = ap (λ (l : List Entry). length l) l.entries in
    omega arith

quiet_acquire : {t m q : ℕ} {b : Book} (k : Takes t m q b) → SameLists b (acquire t m q b) → ⊥
quiet_acquire {q = q} k same =
    let now = ap (λ (r : Region). length r.entries) (acquire_taken k) in
    let kept = ap (λ (l : List Entry). length l) (same q) in
    omega arith

quiet_raise : (t m n : ℕ) (b next : Book) → Owned t m b → raised m n b ≡ Some next → SameLists b next → Quiet t b next
quiet_raise t m zero b next o e same = let is : b ≡ next = cc in subst (Quiet t b) is (quiet_same t b)
quiet_raise t m (suc n) b next o e same =
    let fewer = (raised_shortened t m (suc n) b next o e).fewer in
    let kept = ap (λ (l : List Entry). length l) (same m) in
    absurd (omega arith)

-- a region that was being made is not settled
made_apart : {t s : ℕ} {b : Book} → Made t s b → (i : ℕ) → Settled (region b i).holder → i ≢ s
made_apart {b = b} m i settled z = subst Settled (ap (λ j. (region b j).holder) z ∙ m.maker) settled

quiet_edit : (t : ℕ) (c : Change) (b next : Book) → Edited t c b next → SameLists b next → Quiet t b next
quiet_edit t c b next (relists m es o is) same = subst (λ n. SameLists b n → Quiet t b n) is (quiet_relist o es) same
quiet_edit t c b next (unlinks m s es g l gone is) same = absurd (quiet_unlink l g (subst (SameLists b) (sym is) same))
quiet_edit t c b next (raises m n o e) same = quiet_raise t m n b next o e same
quiet_edit t c b next (acquires m p q e k is) same = absurd (quiet_acquire k (subst (SameLists b) (sym is) same))
quiet_edit t c b next (appends r a is) same =
    subst (Quiet t b) is
    (keeps (λ i s. append_old a i (λ z. subst (λ (x : Region). Settled x.holder) (ap (region b) z ∙ nowhere_there a) s))
    (append_all a (λ i x. x.holder ≡ Current t → ((region b i).holder ≡ Current t) ⊎ (x.entries ≡ [])) (λ _. inr a.empty) (λ i n z. inl z)))
quiet_edit t c b next (seeds_region s n start e at m is) same =
    subst (Quiet t b) is
    (keeps (λ i settled. hand_other (seeds m n) i (made_apart m i settled))
    (hand_all (seeds m n) (λ i x. x.holder ≡ Current t → ((region b i).holder ≡ Current t) ⊎ (x.entries ≡ [])) (λ z. cc) (λ i u z. inl z)))
quiet_edit t c b next (bears_child s child start e at m few is) same =
    subst (Quiet t b) is
    (keeps (λ i settled. hand_other (bears m child) i (made_apart m i settled))
    (hand_all (bears m child) (λ i x. x.holder ≡ Current t → ((region b i).holder ≡ Current t) ⊎ (x.entries ≡ [])) (λ z. inr (made_empty m)) (λ i u z. inl z)))
quiet_edit t c b next (ends_region m o is) same =
    subst (Quiet t b) is
    (stops (hand_all (ends o) (λ i x. x.holder ≢ Current t) (λ z. cc) (λ i u z. u (owned_only o i z)))
    (hand_all (ends o) (λ i x. (region b i).holder ≡ Current t → x.holder ≡ Lost) (λ _. refl) (λ i u z. absurd (u (owned_only o i z)))))
quiet_edit t c b next (busies k e inside free is) same = subst (Quiet t b) is (keeps (λ i s. refl) (λ i z. inl z))
quiet_edit t c b next (frees k e held is) same = subst (Quiet t b) is (keeps (λ i s. refl) (λ i z. inl z))

pub quiet : (t : ℕ) (c : Change) (b next : Book) → IsBook b → book_after t b c ≡ Some next → SameLists b next → Quiet t b next
quiet t c b next h e same = quiet_edit t c b next (edited t c b next h e) same

-- ---- a change of another thread

birth_of : (c : Change) (t : ℕ) → NotBorn c t ⊎ ((start : ℕ) × (c ≡ Born t start))
birth_of (Born child start) t = elim (eqb_tells child t) [
  | inl u ↦ inr (start, ap (λ n. Born n start) u.1)
  | inr u ↦ inl u.1
]
birth_of c t = inl tt

-- no thread is born that has a region, and one that is born comes to an empty one
pub record Birth (t : ℕ) (b next : Book) : Type 0 where
  pub none : length b.regions ≤ current_of t b
  pub empty : (i : ℕ) → (region next i).holder ≡ Current t → (region next i).entries ≡ []

birth : (p t start : ℕ) (b next : Book) → IsBook b → book_after p b (Born t start) ≡ Some next → Birth t b next
birth p t start b next h e =
    let s = starting_at start b in
    let test = if_some (is_maker p (region b s).holder && nat_le (length b.regions) (current_of t b)) _ next e in
    let both = and_true (is_maker p (region b s).holder) (nat_le (length b.regions) (current_of t b)) test.0 in
    let m : Made p s b = record { shape = h.shape; maker = maker_true p (region b s).holder both.0 } in
    let passed : nat_le (length b.regions) (current_of t b) ≡ true = both.1 in
    let is : hand s (region b s).entries (Current t) b ≡ next = (let x = test.1 in cc) in
    let none : length b.regions ≤ current_of t b = grind (arith, nat_tests) in
    record {
      none = none;
      empty =
          subst (λ n. (i : ℕ) → (region n i).holder ≡ Current t → (region n i).entries ≡ []) is
          (hand_all (bears m t) (λ i x. x.holder ≡ Current t → x.entries ≡ []) (λ _. made_empty m)
          (λ i u z. absurd (let at = h.shape.alone t i z in let there = is_there b i (λ w. cc) in omega arith)));
    }

-- what a thread with a region can rely on
pub others_leave : (y t : ℕ) (c : Change) (b next : Book) → y ≢ t → IsBook b → book_after y b c ≡ Some next → current_of t b < length b.regions → Relies t b next
others_leave y t c b next n h e has = elim (birth_of c t) [
  | inl u ↦ (book_kept y c b next h e).others t n u
  | inr u ↦
      let none = (birth y t u.0 b next h (subst (λ x. book_after y b x ≡ Some next) u.1 e)).none in
      absurd (omega arith)
]

-- ---- a thread without entries

-- each region of the thread is empty, so it can't release one
abbrev pub HasNoEntries : ℕ → Book → Type 0
HasNoEntries t b = (i : ℕ) → (region b i).holder ≡ Current t → (region b i).entries ≡ []

pub quiet_empty : (t : ℕ) (b next : Book) → Quiet t b next → SameLists b next → HasNoEntries t b → HasNoEntries t next
quiet_empty t b next (keeps stay comes) same none i e = elim (comes i e) [
  | inl was ↦ same i ∙ none i was
  | inr empty ↦ empty
]
quiet_empty t b next (stops gone lost) same none i e = absurd (gone i e)

relies_empty : (t : ℕ) (b next : Book) → Shape next → Relies t b next → HasNoEntries t b → HasNoEntries t next
relies_empty t b next h r none i e =
    let at = h.alone t i e in
    let there = is_there next i (λ z. cc) in
    elim (cases_lt (current_of t b) (length b.regions)) [
      | inl has ↦
          let found = r.found has in
          let own = current_holds t b has in
          let same = r.kept (current_of t b) (owns_current t (region b (current_of t b)).holder own) in
          let place : current_of t b ≡ i = omega arith in
          subst (λ n. (region next n).entries ≡ []) place (ap (λ (x : Region). x.entries) same ∙ none (current_of t b) own)
      | inr past ↦ let still = r.none past in absurd (omega arith)
    ]

pub others_empty : (y t : ℕ) (c : Change) (b next : Book) → y ≢ t → IsBook b → book_after y b c ≡ Some next → HasNoEntries t b → HasNoEntries t next
others_empty y t c b next n h e none =
    let k = book_kept y c b next h e in
    elim (birth_of c t) [
      | inl u ↦ relies_empty t b next k.book.shape (k.others t n u) none
      | inr u ↦ (birth y t u.0 b next h (subst (λ x. book_after y b x ≡ Some next) u.1 e)).empty
    ]
