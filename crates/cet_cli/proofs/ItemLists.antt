-- The items of a list, one after another, and the parts of an item.
use Rattle.std.proofs.Common.{ℕ, ◌+◌, ◌-◌, ◌<◌, ◌≤◌, ◌≡◌, Bool, true, false, List, [], ◌∷◌, ◌++◌, length, drop, get_or, Option}
use Rattle.std.proofs.Common.{Some, None, refl, sym, ap, ◌∙◌, subst, inl, inr, arith, append_assoc, suc, lit<}
use Rattle.std.specs.Prelude.{◌==◌, ◌&&◌, nat_le, nat_lt, if◌then◌else◌, is_some, option_map, option_and_then, replicate}
use Rattle.std.specs.List.{slice_split, onto_first}
use Rattle.std.proofs.lemmas.Bool.Decides.{eqb_tells, nat_tests}
use Rattle.std.proofs.lemmas.List.{append-nil, at_drop_all, at_drop_more}
use Rattle.std.proofs.lemmas.Iterator.{YieldsList}
use Rattle.std.proofs.lemmas.Iterator.Splits.{YieldsList-from_str_split}
use Rattle.std.specs.Str.Iter.{split_has_more, split_pattern, split_steps, split_text}
use Rattle.std.specs.Str.Pattern.{FindsChar}
use Rattle.std.specs.declared.str.Split.{Split}
use Rattle.cet_base.specs.Numbers.{number_of}
use Rattle.cet_words.specs.declared.images.Signal.{Signal}
use Rattle.cet_cli.specs.Parts.{back, front}
use Rattle.cet_cli.specs.Values.{all_turns, each_of, items, listed, repeat_by, repeat_of, repeats_of, schedule_of, signal_by, signal_of, signals_of, threads_of}
use Rattle.cet_cli.specs.declared.turns.Repeat.{Repeat}
use Rattle.cet_cli.proofs.Signs.{whole_word}

-- ---- options

pub seen_as : {A B : Type 0} (f : A → B) (o x : Option A) (b : Option B) → option_map f o ≡ b → o ≡ x → b ≡ option_map f x
seen_as f o x b e h = sym e ∙ ap (option_map f) h

pub there : {A B : Type 0} (f : A → B) (o : Option A) (b : Option B) → option_map f o ≡ b → is_some o ≡ true → (x : B) × (b ≡ Some x)
there f None b e h = cc
there f (Some a) b e h = (f a, sym e)

pub missing : {A B : Type 0} (f : A → B) (o : Option A) (b : Option B) → option_map f o ≡ b → is_some o ≡ false → b ≡ None
missing f None b e h = sym e
missing f (Some a) b e h = cc

-- ---- a text, in two at the first of its signs

module _ (sign : ℕ) where
  abbrev pub parts : List ℕ → List (List ℕ)
  parts cs = slice_split (λ x. x == sign) cs

  abbrev pub parts_of : Option (List ℕ) → List (List ℕ)
  parts_of None = []
  parts_of (Some cs) = parts cs

  pub split_parted : (cs : List ℕ) → parts cs ≡ front sign cs ∷ parts_of (back sign cs)
  split_parted [] = refl
  split_parted (c ∷ cs) = elim (eqb_tells c sign) [
    | inl u ↦ rw u.0 refl
    | inr u ↦ rw u.0 (ap (onto_first c) (split_parted cs))
  ]

  pub parts_one : (cs : List ℕ) → back sign cs ≡ None → parts cs ≡ front sign cs ∷ []
  parts_one cs e = split_parted cs ∙ ap (λ (o : Option (List ℕ)). front sign cs ∷ parts_of o) e

  pub parts_more : (cs ds : List ℕ) → back sign cs ≡ Some ds → parts cs ≡ front sign cs ∷ parts ds
  parts_more cs ds e = split_parted cs ∙ ap (λ (o : Option (List ℕ)). front sign cs ∷ parts_of o) e

  pub items_more : (cs ds : List ℕ) → back sign cs ≡ Some ds → items sign cs ≡ front sign cs ∷ parts ds
  items_more [] ds e = cc
  items_more (c ∷ cs) ds e = parts_more (c ∷ cs) ds e

-- ---- the parts of a signal

pub no_colon : (item : List ℕ) → back 58 item ≡ None → signal_of item ≡ None
no_colon [] e = refl
no_colon (c ∷ cs) e = ap signal_by (parts_one 58 (c ∷ cs) e)

pub one_colon : (item rest : List ℕ) → back 58 item ≡ Some rest → back 58 rest ≡ None → signal_of item ≡ None
one_colon item rest e f = ap signal_by (items_more 58 item rest e ∙ ap (λ (ps : List (List ℕ)). front 58 item ∷ ps) (parts_one 58 rest f))

pub two_colons : (item rest last : List ℕ) → back 58 item ≡ Some rest → back 58 rest ≡ Some last → back 58 last ≡ None → items 58 item ≡ front 58 item ∷ front 58 rest ∷ front 58 last ∷ []
two_colons item rest last e f g =
    items_more 58 item rest e ∙ ap (λ (ps : List (List ℕ)). front 58 item ∷ ps)
    (parts_more 58 rest last f ∙ ap (λ (ps : List (List ℕ)). front 58 rest ∷ ps) (parts_one 58 last g))

pub three_colons : (item rest last more : List ℕ) → back 58 item ≡ Some rest → back 58 rest ≡ Some last → back 58 last ≡ Some more → signal_of item ≡ None
three_colons item rest last more e f g =
    ap signal_by (items_more 58 item rest e ∙ ap (λ (ps : List (List ℕ)). front 58 item ∷ ps)
    (parts_more 58 rest last f ∙ ap (λ (ps : List (List ℕ)). front 58 rest ∷ ps)
    (parts_more 58 last more g ∙ ap (λ (ps : List (List ℕ)). front 58 last ∷ ps) (split_parted 58 more))))

-- ---- the parts of some turns

pub no_star : (item : List ℕ) → back 42 item ≡ None → repeat_by (front 42 item ∷ []) ≡ repeat_of item
unfolding number_of
no_star [] e = refl
no_star (c ∷ cs) e = ap repeat_by (sym (parts_one 42 (c ∷ cs) e))

pub one_star : (item turns : List ℕ) → back 42 item ≡ Some turns → back 42 turns ≡ None → repeat_by (front 42 item ∷ turns ∷ []) ≡ repeat_of item
one_star item turns e f =
    ap repeat_by (sym (items_more 42 item turns e ∙ ap (λ (ps : List (List ℕ)). front 42 item ∷ ps)
    (parts_one 42 turns f ∙ ap (λ (t : List ℕ). t ∷ []) (whole_word 42 turns f))))

pub two_stars : (item turns more : List ℕ) → back 42 item ≡ Some turns → back 42 turns ≡ Some more → repeat_of item ≡ None
two_stars item turns more e f =
    ap repeat_by (items_more 42 item turns e ∙ ap (λ (ps : List (List ℕ)). front 42 item ∷ ps)
    (parts_more 42 turns more f ∙ ap (λ (ps : List (List ℕ)). front 42 turns ∷ ps) (split_parted 42 more)))

-- ---- items that are read one after another

pub items_are : (text : List ℕ) → false ≡ (length text == 0) → items 44 text ≡ parts 44 text
items_are [] h = cc
items_are (c ∷ cs) h = refl

pub split_gives : (text : List ℕ) (s u : Split ℕ) → u ≡ s → split_text s ≡ text → split_has_more s ≡ true → split_pattern s ≡ 44
    → YieldsList (split_steps FindsChar (λ a b. b ≡ a)) (λ x. x.now) u (parts 44 text)
split_gives text s u same is more sign = subst (λ (x : Split ℕ). YieldsList (split_steps FindsChar (λ a b. b ≡ a)) (λ y. y.now) x (parts 44 text)) (sym same) (YieldsList-from_str_split 44 text (lit< tt) is more sign)

-- what is left of a list at an item
at_item : {Y : Type 0} (F : List (List ℕ) → Y) (all : List (List ℕ)) (n : ℕ) (item : List ℕ) → (n < length all) × (item ≡ get_or all n item) → F (drop n all) ≡ F (item ∷ drop (n + 1) all)
at_item F all n item t = at_drop_more F all n item t.0 ∙ ap (λ (i : List ℕ). F (i ∷ drop (n + 1) all)) (sym t.1)

fewer : (n room : ℕ) → nat_le (suc n) room ≡ nat_lt 0 room && nat_le n (room - 1)
fewer n room = grind (arith, nat_tests)

any_room : (room : ℕ) → nat_le 0 room ≡ true
any_room room = grind (arith, nat_tests)

module _ {A : Type 0} (read : List ℕ → Option A) where
  -- at most so many items, each of which is something
  abbrev pub all_read : (room : ℕ) → List (List ℕ) → Bool
  all_read room [] = true
  all_read room (i ∷ is) = (nat_lt 0 room && is_some (read i)) && all_read (room - 1) is

  one_more : (b l : Bool) (o : Option A) (e : Option (List A)) → is_some (if b && l then option_and_then (λ a. option_map (λ more. a ∷ more) e) o else None) ≡ (b && is_some o) && is_some (if l then e else None)
  one_more false l o e = refl
  one_more true false None e = refl
  one_more true false (Some a) e = refl
  one_more true true None e = refl
  one_more true true (Some a) None = refl
  one_more true true (Some a) (Some more) = refl

  pub listed_read : (room : ℕ) (is : List (List ℕ)) → is_some (if nat_le (length is) room then each_of read is else None) ≡ all_read room is
  listed_read room [] = ap (λ (b : Bool). is_some (if b then each_of read [] else None)) (any_room room)
  listed_read room (i ∷ is) =
      ap (λ (b : Bool). is_some (if b then each_of read (i ∷ is) else None)) (fewer (length is) room)
      ∙ one_more (nat_lt 0 room) (nat_le (length is) (room - 1)) (read i) (each_of read is)
      ∙ ap (λ (b : Bool). (nat_lt 0 room && is_some (read i)) && b) (listed_read (room - 1) is)

  pub read_on : (all : List (List ℕ)) (n room : ℕ) (item : List ℕ) → (n < length all) × (item ≡ get_or all n item) → 0 < room → is_some (read item) ≡ true →
      all_read room (drop n all) ≡ all_read (room - 1) (drop (n + 1) all)
  read_on all n room item t h e =
      let l : nat_lt 0 room ≡ true = grind (arith, nat_tests) in
      at_item (all_read room) all n item t ∙ (rw (l, e) refl)

  pub read_full : (all : List (List ℕ)) (n : ℕ) (item : List ℕ) → (n < length all) × (item ≡ get_or all n item) → all_read 0 (drop n all) ≡ false
  read_full all n item t = at_item (all_read 0) all n item t

  pub read_none : (all : List (List ℕ)) (n room : ℕ) (item : List ℕ) → (n < length all) × (item ≡ get_or all n item) → 0 < room → is_some (read item) ≡ false → all_read room (drop n all) ≡ false
  read_none all n room item t h e =
      let l : nat_lt 0 room ≡ true = grind (arith, nat_tests) in
      at_item (all_read room) all n item t ∙ (rw (l, e) refl)

  pub read_end : (all : List (List ℕ)) (n room : ℕ) → length all ≤ n → all_read room (drop n all) ≡ true
  read_end all n room l = at_drop_all (all_read room) all n l

  pub listed_is : (most : ℕ) (text : List ℕ) → is_some (listed most read text) ≡ true → listed most read text ≡ each_of read (items 44 text)
  listed_is most text h =
      (elim (nat_le (length (items 44 text)) most) as (λ b. is_some (if b then each_of read (items 44 text) else None) ≡ true → (if b then each_of read (items 44 text) else None) ≡ each_of read (items 44 text)) [
        | true ↦ λ k. refl
        | false ↦ λ k. cc
      ]) h

-- ---- turns

-- what an item says, where so many turns are left, with what those behind it say
abbrev pub turns_by : (room : Bool) (left : ℕ) → Option Repeat → (behind : ℕ → Bool) → Bool
turns_by room left None behind = false
turns_by room left (Some r) behind = (room && nat_le r.turns left) && behind (left - r.turns)

-- at most so many items, of so many turns in all
abbrev pub turns_read : (room left : ℕ) → List (List ℕ) → Bool
turns_read room left [] = true
turns_read room left (i ∷ is) = turns_by (nat_lt 0 room) left (repeat_of i) (λ n. turns_read (room - 1) n is)

abbrev within : (left : ℕ) → Option (List Repeat) → Bool
within left o = is_some (option_and_then (λ ss. if nat_le (all_turns ss) left then Some ss else None) o)

fewer_turns : (a b left : ℕ) → nat_le (a + b) left ≡ nat_le a left && nat_le b (left - a)
fewer_turns a b left = grind (arith, nat_tests)

some_if : {A : Type 0} (b : Bool) (x : A) → is_some (if b then Some x else None) ≡ b
some_if true x = refl
some_if false x = refl

and_false : (b : Bool) → false ≡ (b && false)
and_false true = refl
and_false false = refl

turns_more : (b l : Bool) (left : ℕ) (o : Option Repeat) (e : Option (List Repeat))
    → within left (if b && l then option_and_then (λ a. option_map (λ more. a ∷ more) e) o else None) ≡ turns_by b left o (λ n. within n (if l then e else None))
turns_more false l left None e = refl
turns_more false l left (Some r) e = refl
turns_more true false left None e = refl
turns_more true false left (Some r) e = and_false (nat_le r.turns left)
turns_more true true left None e = refl
turns_more true true left (Some r) None = and_false (nat_le r.turns left)
turns_more true true left (Some r) (Some more) =
    some_if (nat_le (r.turns + all_turns more) left) (r ∷ more)
    ∙ fewer_turns r.turns (all_turns more) left
    ∙ ap (λ (b : Bool). nat_le r.turns left && b) (sym (some_if (nat_le (all_turns more) (left - r.turns)) more))

turns_same : (b : Bool) (left : ℕ) (o : Option Repeat) (f g : ℕ → Bool) → ((n : ℕ) → f n ≡ g n) → turns_by b left o f ≡ turns_by b left o g
turns_same b left None f g h = refl
turns_same b left (Some r) f g h = ap (λ (x : Bool). (b && nat_le r.turns left) && x) (h (left - r.turns))

pub turns_listed : (is : List (List ℕ)) (room left : ℕ) → within left (if nat_le (length is) room then each_of repeat_of is else None) ≡ turns_read room left is
turns_listed [] room left =
    ap (λ (b : Bool). within left (if b then each_of repeat_of [] else None)) (any_room room)
    ∙ some_if (nat_le (all_turns []) left) []
    ∙ any_room left
turns_listed (i ∷ is) room left =
    ap (λ (b : Bool). within left (if b then each_of repeat_of (i ∷ is) else None)) (fewer (length is) room)
    ∙ turns_more (nat_lt 0 room) (nat_le (length is) (room - 1)) left (repeat_of i) (each_of repeat_of is)
    ∙ turns_same (nat_lt 0 room) left (repeat_of i) (λ n. within n (if nat_le (length is) (room - 1) then each_of repeat_of is else None)) (λ n. turns_read (room - 1) n is)
    (λ n. turns_listed is (room - 1) n)

pub turns_on : (all : List (List ℕ)) (n room left : ℕ) (item : List ℕ) (r : Repeat) → (n < length all) × (item ≡ get_or all n item) → repeat_of item ≡ Some r → 0 < room → r.turns ≤ left
    → turns_read room left (drop n all) ≡ turns_read (room - 1) (left - r.turns) (drop (n + 1) all)
turns_on all n room left item r t e h k =
    let l : nat_lt 0 room ≡ true = grind (arith, nat_tests) in
    let m : nat_le r.turns left ≡ true = grind (arith, nat_tests) in
    let both : (nat_lt 0 room && nat_le r.turns left) ≡ true = rw (l, m) refl in
    at_item (turns_read room left) all n item t
    ∙ ap (λ (o : Option Repeat). turns_by (nat_lt 0 room) left o (λ x. turns_read (room - 1) x (drop (n + 1) all))) e
    ∙ ap (λ (b : Bool). b && turns_read (room - 1) (left - r.turns) (drop (n + 1) all)) both

pub turns_full : (all : List (List ℕ)) (n left : ℕ) (item : List ℕ) (r : Repeat) → (n < length all) × (item ≡ get_or all n item) → repeat_of item ≡ Some r → turns_read 0 left (drop n all) ≡ false
turns_full all n left item r t e =
    at_item (turns_read 0 left) all n item t ∙ ap (λ (o : Option Repeat). turns_by false left o (λ x. turns_read (0 - 1) x (drop (n + 1) all))) e

pub turns_too_many : (all : List (List ℕ)) (n room left : ℕ) (item : List ℕ) (r : Repeat) → (n < length all) × (item ≡ get_or all n item) → repeat_of item ≡ Some r → 0 < room → left < r.turns
    → turns_read room left (drop n all) ≡ false
turns_too_many all n room left item r t e h k =
    let l : nat_lt 0 room ≡ true = grind (arith, nat_tests) in
    let m : nat_le r.turns left ≡ false = grind (arith, nat_tests) in
    let both : (nat_lt 0 room && nat_le r.turns left) ≡ false = rw (l, m) refl in
    at_item (turns_read room left) all n item t
    ∙ ap (λ (o : Option Repeat). turns_by (nat_lt 0 room) left o (λ x. turns_read (room - 1) x (drop (n + 1) all))) e
    ∙ ap (λ (b : Bool). b && turns_read (room - 1) (left - r.turns) (drop (n + 1) all)) both

pub turns_none : (all : List (List ℕ)) (n room left : ℕ) (item : List ℕ) → (n < length all) × (item ≡ get_or all n item) → repeat_of item ≡ None → turns_read room left (drop n all) ≡ false
turns_none all n room left item t e =
    at_item (turns_read room left) all n item t ∙ ap (λ (o : Option Repeat). turns_by (nat_lt 0 room) left o (λ x. turns_read (room - 1) x (drop (n + 1) all))) e

pub turns_end : (all : List (List ℕ)) (n room left : ℕ) → length all ≤ n → turns_read room left (drop n all) ≡ true
turns_end all n room left l = at_drop_all (turns_read room left) all n l

-- ---- a list that is made of what the items are

module _ {A B : Type 0} (read : List ℕ → Option A) (piece : A → List B) (shown : List A → List B)
    (nothing : shown [] ≡ []) (more : (a : A) (rest : List A) → shown (a ∷ rest) ≡ piece a ++ shown rest) where
  -- what was made so far, and what the items that are left make
  abbrev pub made : (done : List B) → List (List ℕ) → Option (List B)
  made done is = option_map (λ rest. done ++ shown rest) (each_of read is)

  one_made : (done : List B) (a : A) (e : Option (List A)) → option_map (λ rest. done ++ shown rest) (option_map (λ rest. a ∷ rest) e) ≡ option_map (λ rest. (done ++ piece a) ++ shown rest) e
  one_made done a None = refl
  one_made done a (Some rest) = ap (λ (l : List B). Some l) (ap (λ (l : List B). done ++ l) (more a rest) ∙ sym (append_assoc done (piece a) (shown rest)))

  pub made_on : (all : List (List ℕ)) (n : ℕ) (item : List ℕ) (a : A) (done : List B) → (n < length all) × (item ≡ get_or all n item) → read item ≡ Some a
      → made done (drop n all) ≡ made (done ++ piece a) (drop (n + 1) all)
  made_on all n item a done t e =
      at_item (made done) all n item t
      ∙ ap (λ (o : Option A). option_map (λ rest. done ++ shown rest) (option_and_then (λ x. option_map (λ rest. x ∷ rest) (each_of read (drop (n + 1) all))) o)) e
      ∙ one_made done a (each_of read (drop (n + 1) all))

  pub made_none : (all : List (List ℕ)) (n : ℕ) (item : List ℕ) (done : List B) → (n < length all) × (item ≡ get_or all n item) → read item ≡ None → made done (drop n all) ≡ None
  made_none all n item done t e =
      at_item (made done) all n item t
      ∙ ap (λ (o : Option A). option_map (λ rest. done ++ shown rest) (option_and_then (λ x. option_map (λ rest. x ∷ rest) (each_of read (drop (n + 1) all))) o)) e

  pub made_end : (all : List (List ℕ)) (n : ℕ) (done : List B) → length all ≤ n → made done (drop n all) ≡ Some done
  made_end all n done l = at_drop_all (made done) all n l ∙ ap (λ (b : List B). Some b) (ap (λ (b : List B). done ++ b) nothing ∙ append-nil done)

-- ---- signals

-- one signal, and the list of it
abbrev pub one_signal : Signal → List Signal
one_signal s = s ∷ []

abbrev pub signals_made : List Signal → List (List ℕ) → Option (List Signal)
signals_made done is = made signal_of one_signal (λ s. s) refl (λ a rest. refl) done is

unchanged : {A : Type 0} (o : Option (List A)) → o ≡ option_map (λ rest. [] ++ rest) o
unchanged None = refl
unchanged (Some x) = refl

pub signals_first : (text : List ℕ) → is_some (signals_of text) ≡ true → signals_of text ≡ signals_made [] (items 44 text)
signals_first text h = listed_is signal_of 256 text h ∙ unchanged (each_of signal_of (items 44 text))

-- ---- the turns of a schedule

-- the turns of one item
abbrev pub its_turns : Repeat → List ℕ
its_turns r = replicate r.turns r.thread

abbrev pub turns_made : List ℕ → List (List ℕ) → Option (List ℕ)
turns_made done is = made repeat_of its_turns threads_of refl (λ a rest. refl) done is

bounded_is : (b : Bool) (x : List Repeat) → is_some (if b then Some x else None) ≡ true → (if b then Some x else None) ≡ Some x
bounded_is true x h = refl
bounded_is false x h = cc

all_bounded : (most : ℕ) (o : Option (List Repeat)) → is_some (option_and_then (λ ss. if nat_le (all_turns ss) most then Some ss else None) o) ≡ true
    → option_and_then (λ ss. if nat_le (all_turns ss) most then Some ss else None) o ≡ o
all_bounded most None h = cc
all_bounded most (Some x) h = bounded_is (nat_le (all_turns x) most) x h

some_before : (most : ℕ) (o : Option (List Repeat)) → is_some (option_and_then (λ ss. if nat_le (all_turns ss) most then Some ss else None) o) ≡ true → is_some o ≡ true
some_before most None h = cc
some_before most (Some x) h = refl

pub turns_first : (text : List ℕ) → is_some (repeats_of text) ≡ true → schedule_of text ≡ turns_made [] (items 44 text)
turns_first text h =
    ap (option_map threads_of) (all_bounded 1000000 (listed 10000 repeat_of text) h ∙ listed_is repeat_of 10000 text (some_before 1000000 (listed 10000 repeat_of text) h))

-- where a text is a schedule it has turns
pub none_is : {A : Type 0} (o : Option A) → is_some o ≡ true → o ≡ None → ⊥
none_is o h e = (let k : is_some o ≡ false = ap is_some e in let same = sym h ∙ k in cc)

pub no_schedule : (text : List ℕ) → is_some (repeats_of text) ≡ true → schedule_of text ≡ None → ⊥
no_schedule text h e =
    (elim (repeats_of text) as (λ o. is_some o ≡ true → option_map threads_of o ≡ None → ⊥) [
      | None ↦ λ k f. cc
      | Some x ↦ λ k f. cc
    ]) h e
