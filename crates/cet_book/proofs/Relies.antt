-- What a thread can rely on in the book whatever other threads change. Source: own.
use Rattle.std.proofs.Common.{◌≡◌, ◌≢◌, ℕ, ◌<◌, ◌≤◌, ◌⊎◌, inl, inr, List, length, replicate, Option, Some, refl, sym, ◌∙◌, ap, subst, arith}
use Rattle.std.proofs.lemmas.Bool.Decides.{eqb_tells}
use Rattle.cet_book.specs.declared.entries.Entry.{Entry}
use Rattle.cet_book.specs.declared.entries.Entry.TheVariants.{Blank}
use Rattle.cet_book.specs.declared.entries.Holder.{Holder}
use Rattle.cet_book.specs.declared.entries.Holder.TheVariants.{Maker, Current, Parked, Left, Lost}
use Rattle.cet_book.specs.Book.{Region, Book, region, is_current, current_of, stack_of, put_stack, relist, unlink, acquire, raised}
use Rattle.cet_book.specs.Facts.{Owns}
use Rattle.cet_book.specs.Relied.{Relies, owns_current, relies_same, relies_then}
use Rattle.cet_book.proofs.Edits.{Owned}
use Rattle.cet_book.proofs.Relist.{relist_same, relist_other, relist_current}
use Rattle.cet_book.proofs.Unlink.{Gone, lost, Linked, linked_left, unlink_same, unlink_other, unlink_current}
use Rattle.cet_book.proofs.Acquire.{Takes, acquire_same, acquire_other, acquire_others}
use Rattle.cet_book.proofs.Hand.{hand, Hands, Made, hand_same, hand_other, hand_current, seeds, bears, born_others, ends, end_others}
use Rattle.cet_book.proofs.Append.{append, Appends, append_length, append_old, append_current, append_none, nowhere_there}
use Rattle.cet_book.proofs.Removes.{Removal, plain, linked, raised_all}
use Rattle.cet_book.proofs.Supervisor.{stack_of-put_stack, current_of-put_stack}

-- a region whose holder is h is none of the thread's, and wasn't left for its own
not_owned : (y i m : ℕ) (h : Holder) (b : Book) → (region b m).holder ≡ h → (Owns y h → ⊥) → Owns y (region b i).holder → i ≢ m
not_owned y i m h b is n o e = n (subst (Owns y) is (subst (λ j. Owns y (region b j).holder) e o))

not_left : (q i m : ℕ) (h : Holder) (b : Book) → (region b m).holder ≡ h → h ≢ Left q → (region b i).holder ≡ Left q → i ≢ m
not_left q i m h b is n f e = n (sym is ∙ subst (λ j. (region b j).holder ≡ Left q) e f)

pub relist_relies : {t m : ℕ} {b : Book} (o : Owned t m b) (es : List Entry) (y : ℕ) → t ≢ y → Relies y b (relist m es b)
relist_relies {t = t} {m = m} {b = b} o es y n =
    let s = relist_same o es in
    record {
      grows = let e = s.len in omega arith;
      start = λ i _. s.start i;
      end = λ i _. s.end i;
      found = λ _. relist_current o es y;
      none = λ l. (let e = relist_current o es y in let z = s.len in omega arith);
      kept = λ i x. relist_other o es i (not_owned y i m (Current t) b o.current n x);
      below = λ q z e f. relist_other o es z (not_left q z m (Current t) b o.current (λ u. cc) f);
      held = λ _ e. e;
      free = λ _ e. e;
    }

pub unlink_relies : {t m s : ℕ} {es : List Entry} {b : Book} (l : Linked t m s es b) {g : Holder} → Gone g → (y : ℕ) → t ≢ y → Relies y b (unlink m s es g b)
unlink_relies {t = t} {m = m} {s = s} {es = es} {b = b} l {g = g} d y n =
    let same = unlink_same l g in
    let below_m = linked_left l in
    record {
      grows = let e = same.len in omega arith;
      start = λ i _. same.start i;
      end = λ i _. same.end i;
      found = λ _. unlink_current l d y;
      none = λ p. (let e = unlink_current l d y in let z = same.len in omega arith);
      kept = λ i x. unlink_other l g i (not_owned y i s (Left m) b below_m (λ z. z) x) (not_owned y i m (Current t) b l.owned.current n x);
      below = λ q z e f. unlink_other l g z
          (not_left q z s (Left m) b below_m
          (λ u. let same_q : m ≡ q = cc in let c : (region b m).holder ≡ Current y = subst (λ j. (region b j).holder ≡ Current y) (sym same_q) e in let w = l.owned.current in n (cc)) f)
          (not_left q z m (Current t) b l.owned.current (λ u. cc) f);
      held = λ _ e. e;
      free = λ _ e. e;
    }

pub acquire_relies : {t m q : ℕ} {b : Book} (k : Takes t m q b) (y : ℕ) → t ≢ y → Relies y b (acquire t m q b)
acquire_relies {t = t} {m = m} {q = q} {b = b} k y n =
    let same = acquire_same k in
    record {
      grows = let e = same.len in omega arith;
      start = λ i _. same.start i;
      end = λ i _. same.end i;
      found = λ _. acquire_others k y n;
      none = λ p. (let e = acquire_others k y n in let z = same.len in omega arith);
      kept = λ i x. acquire_other k i (not_owned y i q Parked b k.parked (λ z. z) x) (not_owned y i m (Current t) b k.owned.current n x);
      below = λ x z e f. acquire_other k z (not_left x z q Parked b k.parked (λ u. cc) f) (not_left x z m (Current t) b k.owned.current (λ u. cc) f);
      held = λ _ e. e;
      free = λ _ e. e;
    }

hand_relies : {s : ℕ} {es : List Entry} {g : Holder} {b : Book} (h : Hands s es g b) (t y : ℕ) → t ≢ y → ((region b s).holder ≡ Current t) ⊎ ((region b s).holder ≡ Maker t) →
    current_of y (hand s es g b) ≡ current_of y b → Relies y b (hand s es g b)
hand_relies {s = s} {b = b} h t y n was c =
    let same = hand_same h in
    record {
      grows = let e = same.len in omega arith;
      start = λ i _. same.start i;
      end = λ i _. same.end i;
      found = λ _. c;
      none = λ p. (let z = same.len in omega arith);
      kept = λ i x. hand_other h i (elim was [ inl u ↦ not_owned y i s (Current t) b u n x | inr u ↦ not_owned y i s (Maker t) b u n x ]);
      below = λ q z e f. hand_other h z (elim was [
        | inl u ↦ not_left q z s (Current t) b u (λ v. cc) f
        | inr u ↦ not_left q z s (Maker t) b u (λ v. cc) f
      ]);
      held = λ _ e. e;
      free = λ _ e. e;
    }

pub seed_relies : {t s : ℕ} {b : Book} (m : Made t s b) (n y : ℕ) → t ≢ y → Relies y b (hand s (replicate n Blank) Parked b)
seed_relies m n y ne = hand_relies (seeds m n) _ y ne (inr m.maker) (hand_current (seeds m n) y (ap (λ h. is_current y h) m.maker) refl)

pub born_relies : {t s : ℕ} {b : Book} (m : Made t s b) (child y : ℕ) → t ≢ y → child ≢ y → Relies y b (hand s (region b s).entries (Current child) b)
born_relies m child y ne other = hand_relies (bears m child) _ y ne (inr m.maker) (born_others m child y other)

pub end_relies : {t m : ℕ} {b : Book} (o : Owned t m b) (y : ℕ) → t ≢ y → Relies y b (hand m (region b m).entries Lost b)
end_relies o y n = hand_relies (ends o) _ y n (inl o.current) (end_others o y n)

pub append_relies : {r : Region} {b : Book} (a : Appends r b) (y : ℕ) → Relies y b (append r b)
append_relies {b = b} a y =
    let past : (region b (length b.regions)).holder ≡ Lost = ap (λ (x : Region). x.holder) (nowhere_there a) in
    record {
      grows = let e = append_length a in omega arith;
      start = λ i l. ap (λ (x : Region). x.start) (append_old a i (omega arith));
      end = λ i l. ap (λ (x : Region). x.end) (append_old a i (omega arith));
      found = append_current a y;
      none = append_none a y;
      kept = λ i x. append_old a i (not_owned y i (length b.regions) Lost b past (λ z. z) x);
      below = λ q s e f. append_old a s (not_left q s (length b.regions) Lost b past (λ u. cc) f);
      held = λ _ e. e;
      free = λ _ e. e;
    }

pub removal_relies : {t m : ℕ} {b next : Book} (o : Owned t m b) → Removal t m b next → (y : ℕ) → t ≢ y → Relies y b next
removal_relies {b = b} o (plain e es list not_link is) y n = subst (Relies y b) is (relist_relies o es y n)
removal_relies {b = b} o (linked s es l is) y n = let gone : Gone Lost = lost refl in subst (Relies y b) is (unlink_relies l gone y n)

pub raised_relies : (t m n : ℕ) (b next : Book) → Owned t m b → raised m n b ≡ Some next → (y : ℕ) → t ≢ y → Relies y b next
raised_relies t m n b next o e y ne =
    raised_all t m (λ _ b next. Relies y b next) (λ b _. relies_same y b)
    (λ _ b mid next o removal rest. relies_then (removal_relies o removal y ne) rest) n b next o e

-- the stack was not the thread's, and doesn't become so
pub stack_relies : (y k : ℕ) (o : Option ℕ) (b : Book) → k < length b.stacks → stack_of b k ≢ Some y → o ≢ Some y → Relies y b (put_stack b k o)
stack_relies y k o b inside was is = record {
  grows = omega arith;
  start = λ i _. refl;
  end = λ i _. refl;
  found = λ _. current_of-put_stack y k o b;
  none = λ m. (let e = current_of-put_stack y k o b in omega arith);
  kept = λ i _. refl;
  below = λ q s e f. refl;
  held = λ j e.
      let at = stack_of-put_stack b k j o inside in
      elim (eqb_tells j k) [
        | inl u ↦ absurd (was (subst (λ i. stack_of b i ≡ Some y) u.1 e))
        | inr u ↦ rw u.0 at at ∙ e
      ];
  free = λ j e.
      let at = stack_of-put_stack b k j o inside in
      elim (eqb_tells j k) [
        | inl u ↦ absurd (is (sym (rw u.0 at at) ∙ e))
        | inr u ↦ sym (rw u.0 at at) ∙ e
      ];
}
