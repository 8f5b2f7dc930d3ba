-- The gate's accesses keep words and holders in step, whoever makes them. Source: own.
use Rattle.std.proofs.Common.{◌≡◌, ◌≢◌, ℕ, ◌+◌, ◌-◌, ◌*◌, ◌<◌, inl, inr, Bool, true, false, List, [], ◌∷◌, length, Option, Some, None}
use Rattle.std.proofs.Common.{refl, sym, ◌∙◌, ap, subst, arith, get_or-set_other, get_or-set_same, length-set}
use Rattle.std.specs.Prelude.{◌↔◌, ◌==◌, if◌then◌else◌, nat_lt, slice_index, slice_set}
use Rattle.std.proofs.lemmas.Bool.Decides.{eqb_tells, nat_tests}
use Rattle.cet_words.specs.Access.{answer, after}
use Rattle.cet_words.specs.Job.{ImageData}
use Rattle.cet_words.specs.Layout.{token, token_word, kernel_return, word_count, first_stack_word, first_kernel_word, first_entry_word}
use Rattle.cet_words.specs.Start.{IsStart, is_token, kernel_word, start_word}
use Rattle.cet_words.specs.declared.accesses.Access.TheVariants as access
use Rattle.cet_words.specs.declared.accesses.Access.{Access}
use Rattle.cet_page.specs.Gate.{gate_in, gate_out, busied_if, freed}
use Rattle.cet_page.specs.Parts.{read_entry, load_as, store_as, store, compare_exchange_as}
use Rattle.cet_page.specs.Script.{Played, Wants, done, ◌>>=◌, no_changes, play}
use Rattle.cet_page.specs.declared.finishes.Leaving.{Leaving}
use Rattle.cet_page.specs.declared.finishes.Leaving.TheVariants as leaving
use Rattle.cet_busy.specs.Holders.{Holding, holding, Holders, none_holds, with_holder, token_by, BelowBy, Told, Doing, Looks, Takes, Stores, Works, Reads, Gives, access_of, Spares, May, holders_after, Finds, Did, Holds, HeldStacks}

-- ---- one word is written

other : (words : List ℕ) (word x w : ℕ) → w ≢ word → slice_index (slice_set words word x) w ≡ slice_index words w
other words word x w n = get_or-set_other words word w x 0 n

same : (words : List ℕ) (word x : ℕ) → word < length words → slice_index (slice_set words word x) word ≡ x
same words word x l = get_or-set_same words word x 0 l

-- what the words tell of a stack, by its holder
abbrev TellsOf : List ℕ → (k : ℕ) → Option Holding → Type 0
TellsOf words k h = (slice_index words (token_word k) ≡ token_by k h) × BelowBy words k h

told_by : (words : List ℕ) (holders : Holders) → ((k : ℕ) → k < 8 → TellsOf words k (holders k)) → Told words holders
told_by words holders h = record { tokens = λ k l. (h k l).0; below = λ k l. (h k l).1 }

tells_of : (words : List ℕ) (holders : Holders) (k : ℕ) → k < 8 → Told words holders → TellsOf words k (holders k)
tells_of words holders k l t = (t.tokens k l, t.below k l)

-- words that are as they were tell the same
below_kept : (words now : List ℕ) (k : ℕ) (h : Option Holding) → slice_index now (token_word k - 1) ≡ slice_index words (token_word k - 1) → BelowBy words k h → BelowBy now k h
below_kept words now k None e b = tt
below_kept words now k (Some h) e b = λ s. e ∙ b s

tells_kept : (words now : List ℕ) (k : ℕ) (h : Option Holding) → slice_index now (token_word k) ≡ slice_index words (token_word k) →
    slice_index now (token_word k - 1) ≡ slice_index words (token_word k - 1) → TellsOf words k h → TellsOf now k h
tells_kept words now k h e f t = (e ∙ t.0, below_kept words now k h f t.1)

-- one stack gets this holder, and the others keep theirs
told_with : (words now : List ℕ) (holders : Holders) (k : ℕ) (h : Option Holding) → TellsOf now k h → ((j : ℕ) → j < 8 → j ≢ k → TellsOf now j (holders j)) → Told now (with_holder k h holders)
told_with words now holders k h here there =
    told_by now (with_holder k h holders) (λ j l. elim (eqb_tells j k) [
      | inl e ↦ rw e.0 (subst (λ n. TellsOf now n h) (sym e.1) here)
      | inr e ↦ rw e.0 (there j l e.1)
    ])

-- ---- what is found

free_by : (k v : ℕ) (h : Option Holding) → v ≡ token_by k h → v ≡ token k ↔ h ≡ None
free_by k v None e = (λ f. refl, λ n. e)
free_by k v (Some h) e = (λ f. absurd (omega arith), λ n. cc)

held_token : (k t v : ℕ) (s : Bool) (h : Option Holding) → h ≡ Some (holding t s) → v ≡ token_by k h → v ≡ token k + 1
held_token k t v s h e f = f ∙ ap (token_by k) e

stored_below : (words : List ℕ) (k t : ℕ) (h : Option Holding) → h ≡ Some (holding t true) → BelowBy words k h → slice_index words (token_word k - 1) ≡ kernel_return
stored_below words k t h e b = (subst (BelowBy words k) e b) refl

-- ---- the steps

module _ (words : List ℕ) (holders : Holders) (size : length words ≡ word_count) (told : Told words holders) (t k : ℕ) (l : k < 8) where
  abbrev at : ℕ
  at = token_word k

  takes_by : (b : Bool) → (slice_index words at == token k) ≡ b → Told (if b then slice_set words at (token k + 1) else words) (if b then with_holder k (Some (holding t false)) holders else holders)
  takes_by true e =
      told_with words (slice_set words at (token k + 1)) holders k (Some (holding t false))
      (same words at (token k + 1) (omega arith), λ s. cc)
      (λ j m n. tells_kept words (slice_set words at (token k + 1)) j (holders j)
      (other words at (token k + 1) (token_word j) (λ z. n (omega arith))) (other words at (token k + 1) (token_word j - 1) (λ z. omega arith)) (tells_of words holders j m told))
  takes_by false e = told

  stored : holders k ≡ Some (holding t false) → Told (slice_set words (at - 1) kernel_return) (with_holder k (Some (holding t true)) holders)
  stored h =
      told_with words (slice_set words (at - 1) kernel_return) holders k (Some (holding t true))
      (other words (at - 1) kernel_return at (λ z. omega arith) ∙ held_token k t (slice_index words at) false (holders k) h (told.tokens k l), λ s. same words (at - 1) kernel_return (omega arith))
      (λ j m n. tells_kept words (slice_set words (at - 1) kernel_return) j (holders j)
      (other words (at - 1) kernel_return (token_word j) (λ z. omega arith)) (other words (at - 1) kernel_return (token_word j - 1) (λ z. n (omega arith))) (tells_of words holders j m told))

  gives_by : (b : Bool) → (slice_index words at == token k + 1) ≡ b → slice_index words at ≡ token k + 1 → Told (if b then slice_set words at (token k) else words) (with_holder k None holders)
  gives_by true e f =
      told_with words (slice_set words at (token k)) holders k None
      (same words at (token k) (omega arith), tt)
      (λ j m n. tells_kept words (slice_set words at (token k)) j (holders j)
      (other words at (token k) (token_word j) (λ z. n (omega arith))) (other words at (token k) (token_word j - 1) (λ z. omega arith)) (tells_of words holders j m told))
  gives_by false e f = let yes : (slice_index words at == token k + 1) ≡ true = grind (arith, nat_tests, f) in cc

  step : (d : Doing) → May t k words holders d → Finds k holders d (answer words (access_of k d)) × Told (after words (access_of k d)) (holders_after t k d (answer words (access_of k d)) holders)
  step Looks m = (tt, told)
  step Takes m = (free_by k (slice_index words at) (holders k) (told.tokens k l), takes_by (slice_index words at == token k) refl)
  step Stores m = (tt, stored m)
  step (Works a) m = (tt, told_by (after words a) holders (λ j n. tells_kept words (after words a) j (holders j) (m.tokens j n) (m.below j n) (tells_of words holders j n told)))
  step Reads m = (stored_below words k t (holders k) m (told.below k l), told)
  step Gives m =
      let found = held_token k t (slice_index words at) true (holders k) m (told.tokens k l) in
      (found, gives_by (slice_index words at == token k + 1) refl found)

-- no access changes how many words there are
set_size : (words : List ℕ) (word x : ℕ) → length (slice_set words word x) ≡ length words
set_size words word x = length-set words word x

size_if : (words : List ℕ) (word x : ℕ) (b : Bool) → length (if b then slice_set words word x else words) ≡ length words
size_if words word x true = set_size words word x
size_if words word x false = refl

size_after : (words : List ℕ) (a : Access) → length (after words a) ≡ length words
size_after words (access.Look page) = refl
size_after words (access.Load word) = refl
size_after words (access.Store word value) = set_size words word value
size_after words (access.Swap word value) = set_size words word value
size_after words (access.FetchAdd word value) = set_size words word _
size_after words (access.FetchOr word value) = set_size words word _
size_after words (access.FetchAnd word value) = set_size words word _
size_after words (access.CompareExchange word expected value) = size_if words word value (slice_index words word == expected)

from : (words : List ℕ) (holders : Holders) (ds : List Did) → length words ≡ word_count → Told words holders → Holds words holders ds
from words holders [] size told = told
from words holders (d ∷ ds) size told = (
  told,
  λ l m.
      let s = step words holders size told d.thread d.stack l d.doing m in
      (s.0, from (after words (access_of d.stack d.doing)) (holders_after d.thread d.stack d.doing (answer words (access_of d.stack d.doing)) holders) ds (size_after words (access_of d.stack d.doing) ∙ size) s.1),
)

-- ---- the start

token_start : (k : ℕ) → k < 8 → kernel_word (1535 + 1024 * k) ≡ token k
unfolding kernel_word
token_start k l =
    let one : (1535 + 1024 * k == 1) ≡ false = grind (arith, nat_tests) in
    let two : (1535 + 1024 * k == 2) ≡ false = grind (arith, nat_tests) in
    let at : is_token (1535 + 1024 * k) ≡ true = grind (arith, nat_tests) in
    rw (one, two, at) (omega arith)

started : (image : ImageData) (words : List ℕ) → IsStart image words → Told words none_holds
unfolding start_word
started image words s = record {
  tokens = λ k l.
      let a : nat_lt (token_word k) first_stack_word ≡ false = grind (arith, nat_tests) in
      let b : nat_lt (token_word k) first_kernel_word ≡ false = grind (arith, nat_tests) in
      let c : nat_lt (token_word k) first_entry_word ≡ true = grind (arith, nat_tests) in
      let n : token_word k - first_kernel_word ≡ 1535 + 1024 * k = omega arith in
      let is : start_word image (token_word k) ≡ token k = rw (a, b, c) (ap kernel_word n ∙ token_start k l) in
      s.each (token_word k) (omega arith) ∙ is;
  below = λ k l. tt;
}

-- ---- the accesses of the ways in and out

looks : (k : ℕ) → play (gate_in k) 0 [] ≡ Wants (access_of k Looks) no_changes
unfolding gate_in read_entry ◌>>=◌
looks k = refl

takes : (k entry : ℕ) → play (gate_in k) 1 (entry ∷ []) ≡ Wants (access_of k Takes) (busied_if k)
unfolding gate_in read_entry compare_exchange_as ◌>>=◌
takes k entry = refl

stores : (k entry : ℕ) → play (gate_in k) 2 (entry ∷ token k ∷ []) ≡ Wants (access_of k Stores) no_changes
unfolding gate_in read_entry compare_exchange_as store_as ◌>>=◌
stores k entry =
    let yes : (token k == token k) ≡ true = grind (arith, nat_tests) in
    ap (λ (b : Bool). play (if b then (store (token_word k - 1) kernel_return >>= (λ _. done None)) else done (Some (token k))) 0 []) yes

reads : (ends : Leaving) (k : ℕ) → play (gate_out ends k) 0 [] ≡ Wants (access_of k Reads) no_changes
unfolding gate_out load_as ◌>>=◌
reads ends k = refl

gives : (ends : Leaving) (k value : ℕ) → play (gate_out ends k) 1 (value ∷ []) ≡ Wants (access_of k Gives) (λ found. freed ends k)
unfolding gate_out load_as compare_exchange_as ◌>>=◌
gives ends k value = refl

pub held_stacks : HeldStacks
held_stacks = record {
  along = λ image words ds s. from words none_holds ds s.size (started image words s);
  from = from;
  looks = looks;
  takes = takes;
  stores = stores;
  reads = reads;
  gives = gives;
}
