-- What a word does to a reader.
use Rattle.std.proofs.Common.{ℕ, ◌+◌, ◌*◌, ◌<◌, ◌≡◌, Bool, true, false, cond, List, [], ◌∷◌, ◌++◌, length, codes, Option, Some, None, refl, sym, ap, ◌∙◌, subst, arith, append_assoc}
use Rattle.std.specs.Prelude.{option_and_then}
use Rattle.std.proofs.lemmas.Bool.{and_parts}
use Rattle.std.proofs.lemmas.Option.{cond_some}
use Rattle.cet_cli.specs.GoodTable.{good_values}
use Rattle.cet_cli.specs.Grammar.{CommandRow, Given, IsAmong, OptionRow}
use Rattle.cet_cli.specs.Reader.{Reader, equals, filled_by, find_option, is_open, option_begins, option_by, start, step, step_by, value_step}
use Rattle.cet_cli.specs.Parts.{back, front}
use Rattle.cet_cli.specs.Values.{Value, example, fits}
use Rattle.cet_cli.proofs.ReaderSteps.{steps}
use Rattle.cet_cli.proofs.Filled.{Room, opens, opens_less, room_first, room_more}
use Rattle.cet_cli.proofs.Signs.{parted_word, whole_word}
use Rattle.cet_cli.proofs.Tables.{GoodRow, option_found}

tail_good : (v : Value) (vs : List Value) → good_values (v ∷ vs) ≡ true → good_values vs ≡ true
tail_good v vs h = (and_parts (fits v (example v)) (good_values vs) h).1

abbrev pub one_unless : {O : Type 0} → Option (OptionRow O) → ℕ
one_unless None = 1
one_unless (Some o) = 0

module _ {C O S : Type 0} (keep : S → Given O → S) where
  -- ---- several words

  pub then_parts : (o : Option (Reader C O S)) (ws : List (List ℕ)) (r : Reader C O S) → option_and_then (λ s. steps keep s ws) o ≡ Some r → (s : Reader C O S) × (o ≡ Some s) × (steps keep s ws ≡ Some r)
  then_parts None ws r e = cc
  then_parts (Some s) ws r e = (s, refl, e)

  pub steps_append : (r : Reader C O S) (xs ys : List (List ℕ)) → steps keep r (xs ++ ys) ≡ option_and_then (λ s. steps keep s ys) (steps keep r xs)
  steps_append r [] ys = refl
  steps_append r (x ∷ xs) ys =
      elim (step keep r x) as (λ o. option_and_then (λ s. steps keep s (xs ++ ys)) o ≡ option_and_then (λ s. steps keep s ys) (option_and_then (λ s. steps keep s xs) o)) [
        | Some s ↦ steps_append s xs ys
        | None ↦ refl
      ]

  -- ---- one word: what it was

  pub data Stepped (r : Reader C O S) (w : List ℕ) (next : Reader C O S) : Type 0 where
    -- the value of the option that wants one
    valued : (o : OptionRow O) (v : Value) → r.wants ≡ Some o → o.value ≡ Some v → fits v w ≡ true → next ≡ filled_by keep r o w → Stepped r w next
    -- a word without a name
    operand : (v : Value) (vs : List Value) → r.wants ≡ None → r.operands ≡ v ∷ vs → fits v w ≡ true → next ≡ record r { operands = vs } → Stepped r w next
    -- an option without a value
    alone : (o : OptionRow O) → r.wants ≡ None → r.operands ≡ [] → IsAmong o r.row.options → is_open r.filled o.part ≡ true → o.value ≡ None → w ≡ o.word → next ≡ filled_by keep r o [] → Stepped r w next
    -- an option whose value is to come
    begins : (o : OptionRow O) (v : Value) → r.wants ≡ None → r.operands ≡ [] → IsAmong o r.row.options → is_open r.filled o.part ≡ true → o.value ≡ Some v → w ≡ o.word →
        next ≡ record r { wants = Some o } → Stepped r w next
    -- an option with its value behind `=`
    joined : (o : OptionRow O) (v : Value) (text : List ℕ) → r.wants ≡ None → r.operands ≡ [] → IsAmong o r.row.options → is_open r.filled o.part ≡ true → o.value ≡ Some v → fits v text ≡ true →
        w ≡ o.word ++ codes "=" ++ text → next ≡ filled_by keep r o text → Stepped r w next

  value_taken : (r next : Reader C O S) (o : OptionRow O) (value : Option Value) (w : List ℕ) → value_step keep r o value w ≡ Some next → (v : Value) × (value ≡ Some v) × (fits v w ≡ true) × (next ≡ filled_by keep r o w)
  value_taken r next o None w e = cc
  value_taken r next o (Some v) w e = let c = cond_some (fits v w) (filled_by keep r o w) next e in (v, refl, c.0, sym c.1)

  pub if_taken : (b : Bool) (x : Option (Reader C O S)) (next : Reader C O S) → cond b x None ≡ Some next → (b ≡ true) × (x ≡ Some next)
  if_taken true x next e = (refl, e)
  if_taken false x next e = cc

  option_taken : (r next : Reader C O S) (w : List ℕ) (o : OptionRow O) (value : Option Value) (text : Option (List ℕ)) → r.wants ≡ None → r.operands ≡ [] → IsAmong o r.row.options →
      is_open r.filled o.part ≡ true → o.word ≡ front equals w → o.value ≡ value → back equals w ≡ text → option_begins keep r o value text ≡ Some next → Stepped r w next
  option_taken r next w o None None n p m free word q b e = (let same : filled_by keep r o [] ≡ next = cc in alone o n p m free q (sym (word ∙ whole_word equals w b)) (sym same))
  option_taken r next w o None (Some text) n p m free word q b e = cc
  option_taken r next w o (Some v) None n p m free word q b e =
      let begun : Reader C O S = record r { wants = Some o } in
      let same : begun ≡ next = cc in
      begins o v n p m free q (sym (word ∙ whole_word equals w b)) (sym same)
  option_taken r next w o (Some v) (Some text) n p m free word q b e =
      let t = value_taken r next o (Some v) text e in
      let v_is : t.0 ≡ v = (let s = t.1 in cc) in
      let whole : w ≡ o.word ++ codes "=" ++ text = parted_word equals w text b ∙ ap (λ (f : List ℕ). f ++ 61 ∷ text) (sym word) ∙ sym (append_assoc o.word (codes "=") text) in
      joined o v text n p m free q (subst (λ (x : Value). fits x text ≡ true) v_is t.2) whole t.3

  option_word : (r next : Reader C O S) (w : List ℕ) (found : Option (OptionRow O)) → r.wants ≡ None → r.operands ≡ [] → find_option r.row.options (front equals w) ≡ found →
      option_by keep r found (back equals w) ≡ Some next → Stepped r w next
  option_word r next w None n p f e = cc
  option_word r next w (Some o) n p f e =
      let a = option_found r.row.options (front equals w) o f in
      let c = if_taken (is_open r.filled o.part) (option_begins keep r o o.value (back equals w)) next e in
      option_taken r next w o o.value (back equals w) n p a.0 c.0 a.1 refl refl c.1

  by_state : (r next : Reader C O S) (w : List ℕ) (wants : Option (OptionRow O)) (vs : List Value) → r.wants ≡ wants → r.operands ≡ vs → step_by keep r wants vs w ≡ Some next → Stepped r w next
  by_state r next w (Some o) vs n p e = let t = value_taken r next o o.value w e in valued o t.0 n t.1 t.2 t.3
  by_state r next w None (v ∷ vs) n p e =
      let more : Reader C O S = record r { operands = vs } in
      let c = cond_some (fits v w) more next e in
      operand v vs n p c.0 (sym c.1)
  by_state r next w None [] n p e = option_word r next w (find_option r.row.options (front equals w)) n p refl e

  pub stepped : (r next : Reader C O S) (w : List ℕ) → step keep r w ≡ Some next → Stepped r w next
  stepped r next w e = by_state r next w r.wants r.operands refl refl e

  -- ---- what holds between words

  abbrev pub WantsRight : CommandRow C O → List Value → List Bool → Option (OptionRow O) → Type 0
  WantsRight row vs filled None = Unit {0}
  WantsRight row vs filled (Some o) = (vs ≡ []) × IsAmong o row.options × (is_open filled o.part ≡ true) × ((v : Value) × (o.value ≡ Some v))

  pub record Valid (row : CommandRow C O) (r : Reader C O S) : Type 0 where
    pub same : r.row ≡ row
    pub wants : WantsRight row r.operands r.filled r.wants
    pub values : good_values r.operands ≡ true
    pub room : Room r.filled

  pub valid_start : (row : CommandRow C O) (good : GoodRow row) (kept : S) → Valid row (start row kept)
  valid_start row good kept = record { same = refl; wants = tt; values = good.values; room = room_first }

  filled_valid : (row : CommandRow C O) (r next : Reader C O S) (o : OptionRow O) (w : List ℕ) → Valid row r → next ≡ filled_by keep r o w → Valid row next
  filled_valid row r next o w h e = subst (Valid row) (sym e) (record { same = h.same; wants = tt; values = h.values; room = room_more r.filled o.part h.room })

  pub valid_step : (row : CommandRow C O) (r next : Reader C O S) (w : List ℕ) → Valid row r → Stepped r w next → Valid row next
  valid_step row r next w h (valued o v n q f e) = filled_valid row r next o w h e
  valid_step row r next w h (operand v vs n p f e) =
      subst (Valid row) (sym e) (record { same = h.same; wants = subst (WantsRight row vs r.filled) (sym n) tt; values = tail_good v vs (subst (λ l. good_values l ≡ true) p h.values); room = h.room })
  valid_step row r next w h (alone o n p m free q is e) = filled_valid row r next o [] h e
  valid_step row r next w h (begins o v n p m free q is e) =
      subst (Valid row) (sym e) (record { same = h.same; wants = (p, subst (λ (x : CommandRow C O). IsAmong o x.options) h.same m, free, (v, q)); values = h.values; room = h.room })
  valid_step row r next w h (joined o v text n p m free q f is e) = filled_valid row r next o text h e

  pub valid_steps : (row : CommandRow C O) (ws : List (List ℕ)) (r last : Reader C O S) → Valid row r → steps keep r ws ≡ Some last → Valid row last
  valid_steps row [] r last h e = (let same : r ≡ last = cc in subst (Valid row) same h)
  valid_steps row (w ∷ ws) r last h e =
      let t = then_parts (step keep r w) ws last e in
      valid_steps row ws t.0 last (valid_step row r t.0 w h (stepped r t.0 w t.1)) t.2

  -- ---- at most so many words are to come

  abbrev pub left : Reader C O S → ℕ
  left r = length r.operands + 2 * opens r.filled + one_unless r.wants

  wanted_open : (row : CommandRow C O) (r : Reader C O S) (o : OptionRow O) → Valid row r → r.wants ≡ Some o → is_open r.filled o.part ≡ true
  wanted_open row r o h n = (subst (WantsRight row r.operands r.filled) n h.wants).2

  filled_left : (r next : Reader C O S) (o : OptionRow O) (w : List ℕ) → is_open r.filled o.part ≡ true → next ≡ filled_by keep r o w → left next < left r
  filled_left r next o w free e =
      let l = opens_less r.filled o.part free in
      subst (λ x. left x < left r) (sym e) (omega arith)

  pub fewer_left : (row : CommandRow C O) (r next : Reader C O S) (w : List ℕ) → Valid row r → Stepped r w next → left next < left r
  fewer_left row r next w h (valued o v n q f e) = filled_left r next o w (wanted_open row r o h n) e
  fewer_left row r next w h (operand v vs n p f e) =
      let size : length r.operands ≡ length (v ∷ vs) = ap (λ (l : List Value). length l) p in
      subst (λ x. left x < left r) (sym e) (omega arith)
  fewer_left row r next w h (alone o n p m free q is e) = filled_left r next o [] free e
  fewer_left row r next w h (begins o v n p m free q is e) =
      let none : one_unless r.wants ≡ 1 = ap one_unless n in
      subst (λ x. left x < left r) (sym e) (omega arith)
  fewer_left row r next w h (joined o v text n p m free q f is e) = filled_left r next o text free e

  pub left_start : (row : CommandRow C O) (kept : S) → left (start row kept) ≡ length row.operands + 17
  left_start row kept = omega arith
