-- The class of each access that changes the book, and that the changes are of it. Source: own.
use Rattle.std.proofs.Common.{◌≡◌, ◌≢◌, ℕ, ◌+◌, ◌-◌, ◌%◌, ◌^◌, ◌<◌, ◌≤◌, true, false, List, [], Option, Some, None, refl, ◌∙◌, ap, arith}
use Rattle.std.specs.Prelude.{◌==◌, nat_le, nat_lt, is_some}
use Rattle.std.proofs.lemmas.Bool.Decides.{nat_tests}
use Rattle.cet_words.specs.Change.{Change}
use Rattle.cet_words.specs.Layout.{first_shadow_page, first_kernel_page, first_shadow_word, first_kernel_word, draw_shadow_word, token_word}
use Rattle.cet_words.specs.declared.accesses.Access.TheVariants as access
use Rattle.cet_book.specs.Book.{Book, stack_of}
use Rattle.cet_book.specs.Facts.{Place}
use Rattle.cet_book.specs.Stack.{slot}
use Rattle.cet_book.specs.Relied.{Free, Held}
use Rattle.cet_page.specs.Tokens.{restore_token}
use Rattle.cet_own.specs.Class.{address_of, all_of, class_at}
use Rattle.cet_own.specs.declared.access_classes.Class.{Class}
use Rattle.cet_own.specs.declared.access_classes.Class.TheVariants as class
use Rattle.cet_own.proofs.TokenWords.{restore_token_is}

-- it is enough to say which class it is
pub of_class : {x : Class} {changes : List Change} (c : Class) (l : List Change) → changes ≡ l → all_of c l ≡ true → x ≡ c → all_of x changes ≡ true
of_class {changes = changes} c l ev h e = ap (λ y. all_of y changes) e ∙ ap (all_of c) ev ∙ h

pub none_of : {changes : List Change} (x : Class) → changes ≡ [] → all_of x changes ≡ true
none_of x ev = ap (all_of x) ev

-- ---- the supervisor stack that is held

pub none_held : {t : ℕ} (b : Book) (held : Option ℕ) → Free t b → Held t b held → is_some held ≡ false
none_held b None free h = refl
none_held b (Some k) free h = absurd (free k ((h k).0 refl))

pub some_held : {t : ℕ} (b : Book) (held : Option ℕ) (k : ℕ) → stack_of b k ≡ Some t → Held t b held → is_some held ≡ true
some_held b held k e h = ap (λ (o : Option ℕ). is_some o) ((h k).1 e)

-- ---- words of the shadow area

pub address_is : (p : ℕ) → Place p → address_of (slot p) ≡ p
address_is p place = let low = place.low in let even = place.even in omega arith

pub token_is : (p : ℕ) → Place p → restore_token (address_of (slot p) + 8) ≡ p + 9
token_is p place =
    let even = place.even in
    ap (λ n. restore_token (n + 8)) (address_is p place) ∙ restore_token_is (p + 8) (omega arith) ∙ omega arith

module _ (p ssp v : ℕ) (held : Option ℕ) (place : Place p) where
  low_in : nat_le first_shadow_word (slot p) ≡ true
  low_in = grind (arith, nat_tests)

  high_in : nat_lt (slot p) first_kernel_word ≡ true
  high_in = let high = place.high in let low : slot p < first_kernel_word = omega arith in grind (arith, nat_tests)

  pub is_acquire : (expected next : ℕ) → v ≡ expected → class_at (access.CompareExchange (slot p) expected next) ssp held v ≡ class.Acquire
  is_acquire expected next e =
      let found : (v == expected) ≡ true = grind (arith, nat_tests) in
      rw (low_in, high_in, found) refl

  stored : (next : ℕ) → next ≡ p + 9 → (next == restore_token (address_of (slot p) + 8)) ≡ true
  stored next e = let t = token_is p place in grind (arith, nat_tests)

  pub is_release : is_some held ≡ false → class_at (access.Store (slot p) (p + 9)) ssp held v ≡ class.Release
  is_release free = let token = stored (p + 9) refl in rw (low_in, high_in, token, free) refl

  pub is_seed : is_some held ≡ true → class_at (access.Store (slot p) (p + 9)) ssp held v ≡ class.Seed
  is_seed busy = let token = stored (p + 9) refl in rw (low_in, high_in, token, busy) refl

  pub is_push : (next : ℕ) → next < 2 ^ 63 → next ≢ p + 9 → p + 8 ≡ ssp → class_at (access.Store (slot p) next) ssp held v ≡ class.Push
  is_push next small other below =
      let t = token_is p place in
      let at = address_is p place in
      let no_token : (next == restore_token (address_of (slot p) + 8)) ≡ false = grind (arith, nat_tests) in
      let here : (address_of (slot p) + 8 == ssp) ≡ true = grind (arith, nat_tests) in
      let plain : nat_lt next (2 ^ 63) ≡ true = grind (arith, nat_tests) in
      rw (low_in, high_in, no_token, here, plain) refl

  -- two words below SSP, whatever is stored there
  pub is_push_lower : (next : ℕ) → next ≢ p + 9 → p + 16 ≡ ssp → class_at (access.Store (slot p) next) ssp held v ≡ class.Push
  is_push_lower next other below =
      let t = token_is p place in
      let at = address_is p place in
      let no_token : (next == restore_token (address_of (slot p) + 8)) ≡ false = grind (arith, nat_tests) in
      let not_here : (address_of (slot p) + 8 == ssp) ≡ false = (let n : address_of (slot p) + 8 ≢ ssp = omega arith in grind (arith, nat_tests)) in
      let lower : (address_of (slot p) + 16 == ssp) ≡ true = grind (arith, nat_tests) in
      rw (low_in, high_in, no_token, not_here, lower) refl

  pub is_load : is_some held ≡ false → p ≡ ssp → class_at (access.Load (slot p)) ssp held v ≡ class.Raise
  is_load free same =
      let at = address_is p place in
      let here : (address_of (slot p) == ssp) ≡ true = grind (arith, nat_tests) in
      rw (low_in, high_in, here, free) refl

-- ---- the other accesses

pub is_look : (page ssp v : ℕ) (held : Option ℕ) → first_shadow_page ≤ page → page < first_kernel_page → is_some held ≡ false → class_at (access.Look page) ssp held v ≡ class.Raise
is_look page ssp v held low high free =
    let lo : nat_le first_shadow_page page ≡ true = grind (arith, nat_tests) in
    let hi : nat_lt page first_kernel_page ≡ true = grind (arith, nat_tests) in
    rw (lo, hi, free) refl

pub is_claim : (n ssp v : ℕ) (held : Option ℕ) → class_at (access.FetchAdd draw_shadow_word n) ssp held v ≡ class.Claim
is_claim n ssp v held = refl

module _ (k expected next ssp v : ℕ) (held : Option ℕ) (eight : k < 8) where
  past_shadow : nat_lt (token_word k) first_kernel_word ≡ false
  past_shadow = let past : first_kernel_word ≤ token_word k = omega arith in grind (arith, nat_tests)

  past_shadow_low : nat_le first_shadow_word (token_word k) ≡ true
  past_shadow_low = let past : first_shadow_word ≤ token_word k = omega arith in grind (arith, nat_tests)

  pub is_end : is_some held ≡ true → class_at (access.CompareExchange (token_word k) expected next) ssp held v ≡ class.End
  is_end busy =
      let low : token_word 0 ≤ token_word k = omega arith in
      let high : token_word k ≤ token_word 7 = omega arith in
      let even : (token_word k - token_word 0) % 1024 ≡ 0 = omega arith in
      let lo : nat_le (token_word 0) (token_word k) ≡ true = grind (arith, nat_tests) in
      let hi : nat_le (token_word k) (token_word 7) ≡ true = grind (arith, nat_tests) in
      let step : ((token_word k - token_word 0) % 1024 == 0) ≡ true = grind (arith, nat_tests) in
      rw (past_shadow_low, past_shadow, lo, hi, step, busy) refl

  pub is_entry : is_some held ≡ false → class_at (access.CompareExchange (token_word k) expected next) ssp held v ≡ class.Neutral
  is_entry free =
      let low : token_word 0 ≤ token_word k = omega arith in
      let high : token_word k ≤ token_word 7 = omega arith in
      let even : (token_word k - token_word 0) % 1024 ≡ 0 = omega arith in
      let lo : nat_le (token_word 0) (token_word k) ≡ true = grind (arith, nat_tests) in
      let hi : nat_le (token_word k) (token_word 7) ≡ true = grind (arith, nat_tests) in
      let step : ((token_word k - token_word 0) % 1024 == 0) ≡ true = grind (arith, nat_tests) in
      rw (past_shadow_low, past_shadow, lo, hi, step, free) refl
