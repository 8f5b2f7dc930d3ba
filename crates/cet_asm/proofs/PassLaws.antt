-- What the two passes keep is what the definitions say.
use Rattle.std.proofs.Common.{◌≡◌, ℕ, ◌+◌, ◌≤◌, Bool, true, false, not, ◌||◌, ◌==◌, cond, List, [], ◌∷◌, ◌++◌, Option, Some, None, is_some, IfSome, refl, ap, sym, ◌∙◌, subst, arith}
use Rattle.std.proofs.Math.Path.{fun_ext}
use Rattle.std.proofs.lemmas.List.{append_assoc}
use Rattle.std.proofs.lemmas.Slice.Eq.{bytes_eq-Decides}
use Rattle.std.specs.Bool.{Decides}
use Rattle.std.specs.List.{find, list_any}
use Rattle.std.specs.Str.{bytes_eq}
use Rattle.cet_syntax.specs.Line.{Line, Statement}
use Rattle.std.specs.Option.{option_or}
use Rattle.cet_asm.specs.Layout.{after, symbol_of, start, is_too_long}
use Rattle.cet_asm.specs.Program.{Entry, entries_of, entries_from, symbol_in, place_of, Symbols, is_twice, broken_at, Fault, fault_at, fault_from, rule_unless, own_fault, directive_fault, knows_all, is_in_reach}
use Rattle.cet_asm.specs.Passes.{only_at, with_label, with_labels, has_one, places_from, twice_from, no_places, is_number, fault_by}
use Rattle.cet_syntax.specs.declared.rules.Rule.{Rule}
use Rattle.cet_syntax.specs.declared.rules.Rule.TheVariants as rules
use Rattle.cet_asm.specs.declared.sections.LocationCounter.{LocationCounter}
use Rattle.cet_asm.specs.declared.sections.SymbolValue.{SymbolValue}

-- ---- places

option_or_assoc : {A : Type 0} (x y z : Option A) → option_or (option_or x y) z ≡ option_or x (option_or y z)
option_or_assoc None y z = refl
option_or_assoc (Some a) y z = refl

option_or_none : {A : Type 0} (x : Option A) → option_or x None ≡ x
option_or_none None = refl
option_or_none (Some a) = refl

place_one : (symbol : SymbolValue) (name : List ℕ) (es : List Entry) (q : List ℕ) → option_or (only_at symbol (bytes_eq name q)) (place_of es q) ≡ place_of (record { name = name; symbol = symbol } ∷ es) q
place_one symbol name es q = go (bytes_eq name q)
  where
    go : (t : Bool) → option_or (only_at symbol t) (place_of es q) ≡ symbol_in (cond t (Some (record { name = name; symbol = symbol })) (find (λ e. bytes_eq e.name q) es))
    go true = refl
    go false = refl

pub place_append : (es fs : List Entry) (q : List ℕ) → place_of (es ++ fs) q ≡ option_or (place_of es q) (place_of fs q)
place_append [] fs q = refl
place_append (e ∷ es) fs q = go (bytes_eq e.name q) (place_append es fs q)
  where
    go : (t : Bool) → place_of (es ++ fs) q ≡ option_or (place_of es q) (place_of fs q)
        → symbol_in (cond t (Some e) (find (λ x. bytes_eq x.name q) (es ++ fs))) ≡ option_or (symbol_in (cond t (Some e) (find (λ x. bytes_eq x.name q) es))) (place_of fs q)
    go true h = refl
    go false h = h

labels_place : (places : List ℕ → Option SymbolValue) (symbol : SymbolValue) (names : List (List ℕ)) (q : List ℕ) → with_labels places symbol names q ≡ option_or (places q) (place_of (entries_of symbol names) q)
labels_place places symbol [] q = sym (option_or_none (places q))
labels_place places symbol (name ∷ names) q =
    labels_place (with_label places symbol name) symbol names q
    ∙ (option_or_assoc (places q) (only_at symbol (bytes_eq name q)) (place_of (entries_of symbol names) q)
    ∙ ap (option_or (places q)) (place_one symbol name (entries_of symbol names) q))

lines_place : (places : List ℕ → Option SymbolValue) (h : LocationCounter) (ls : List Line) (q : List ℕ) → places_from places h ls q ≡ option_or (places q) (place_of (entries_from h ls) q)
lines_place places h [] q = sym (option_or_none (places q))
lines_place places h (l ∷ ls) q =
    lines_place (with_labels places (symbol_of h) l.labels) (after h l.statement) ls q
    ∙ (ap (λ o. option_or o (place_of (entries_from (after h l.statement) ls) q)) (labels_place places (symbol_of h) l.labels q)
    ∙ (option_or_assoc (places q) (place_of (entries_of (symbol_of h) l.labels) q) (place_of (entries_from (after h l.statement) ls) q)
    ∙ ap (option_or (places q)) (sym (place_append (entries_of (symbol_of h) l.labels) (entries_from (after h l.statement) ls) q))))

pub places_are : (ls : List Line) → places_from no_places start ls ≡ place_of (entries_from start ls)
places_are ls = fun_ext (λ q. lines_place no_places start ls q)

-- ---- labels that are defined before

same_bytes : (xs ys : List ℕ) → bytes_eq xs ys ≡ bytes_eq ys xs
same_bytes xs ys = go (bytes_eq xs ys) (bytes_eq ys xs) (bytes_eq-Decides xs ys) (bytes_eq-Decides ys xs)
  where
    go : (t u : Bool) → Decides t (xs ≡ ys) → Decides u (ys ≡ xs) → t ≡ u
    go true true d e = refl
    go false false d e = refl
    go true false d e = absurd (let f = e.1 (sym (d.0 refl)) in cc)
    go false true d e = absurd (let f = d.1 (sym (e.0 refl)) in cc)

any_append : (q : List ℕ) (xs ys : List (List ℕ)) → list_any (bytes_eq q) (xs ++ ys) ≡ (list_any (bytes_eq q) xs || list_any (bytes_eq q) ys)
any_append q [] ys = refl
any_append q (x ∷ xs) ys = go (bytes_eq q x) (any_append q xs ys)
  where
    go : (t : Bool) → list_any (bytes_eq q) (xs ++ ys) ≡ (list_any (bytes_eq q) xs || list_any (bytes_eq q) ys)
        → (t || list_any (bytes_eq q) (xs ++ ys)) ≡ ((t || list_any (bytes_eq q) xs) || list_any (bytes_eq q) ys)
    go true h = refl
    go false h = h

-- the labels that have places are those above
abbrev Agrees : (List ℕ → Option SymbolValue) → List (List ℕ) → Type 0
Agrees places above = (q : List ℕ) → is_some (places q) ≡ list_any (bytes_eq q) above

agrees_more : (places : List ℕ → Option SymbolValue) (symbol : SymbolValue) (name : List ℕ) (above : List (List ℕ)) → Agrees places above → Agrees (with_label places symbol name) (above ++ name ∷ [])
agrees_more places symbol name above h q = go (places q) (bytes_eq name q) (h q) (same_bytes q name) ∙ sym (any_append q above (name ∷ []))
  where
    go : (o : Option SymbolValue) (t : Bool) → is_some o ≡ list_any (bytes_eq q) above → bytes_eq q name ≡ t → is_some (option_or o (only_at symbol t)) ≡ (list_any (bytes_eq q) above || (bytes_eq q name || false))
    go None true e k = rw (sym e, k) refl
    go None false e k = rw (sym e, k) refl
    go (Some x) t e k = rw (sym e) refl

agrees_all : (places : List ℕ → Option SymbolValue) (symbol : SymbolValue) (names above : List (List ℕ)) → Agrees places above → Agrees (with_labels places symbol names) (above ++ names)
agrees_all places symbol [] above h = subst (Agrees places) (sym (append_nil above)) h
  where
    append_nil : (xs : List (List ℕ)) → xs ++ [] ≡ xs
    append_nil [] = refl
    append_nil (x ∷ xs) = ap (λ ys. x ∷ ys) (append_nil xs)
agrees_all places symbol (name ∷ names) above h =
    subst (Agrees (with_labels (with_label places symbol name) symbol names)) (append_assoc above (name ∷ []) names)
    (agrees_all (with_label places symbol name) symbol names (above ++ name ∷ []) (agrees_more places symbol name above h))

one_is_twice : (places : List ℕ → Option SymbolValue) (symbol : SymbolValue) (names above : List (List ℕ)) → Agrees places above → has_one places symbol names ≡ is_twice above names
one_is_twice places symbol [] above h = refl
one_is_twice places symbol (name ∷ names) above h =
    ap (λ t. t || has_one (with_label places symbol name) symbol names) (h name)
    ∙ ap (λ t. list_any (bytes_eq name) above || t) (one_is_twice (with_label places symbol name) symbol names (above ++ name ∷ []) (agrees_more places symbol name above h))

-- ---- faults

-- a line with a label that is defined before is faulty
twice_faulty : (w : Symbols) (h : LocationCounter) (s : Statement) (number : ℕ) (x y : Option Fault) → option_or (fault_at number (broken_at w true h s)) x ≡ option_or (fault_at number (broken_at w true h s)) y
unfolding broken_at
twice_faulty w h s number x y = go (own_fault s) (knows_all w s)
  where
    go : (o : Option Rule) (t : Bool) →
        option_or (fault_at number (option_or o (option_or (rule_unless t rules.UnknownLabel)
        (option_or (rule_unless (not true) rules.DefinedBefore) (option_or (rule_unless (is_in_reach w h s) rules.OutOfReach)
        (option_or (directive_fault s) (rule_unless (not (is_too_long h s)) rules.TooLong))))))) x
        ≡ option_or (fault_at number (option_or o (option_or (rule_unless t rules.UnknownLabel)
        (option_or (rule_unless (not true) rules.DefinedBefore) (option_or (rule_unless (is_in_reach w h s) rules.OutOfReach)
        (option_or (directive_fault s) (rule_unless (not (is_too_long h s)) rules.TooLong))))))) y
    go (Some r) t = refl
    go None true = refl
    go None false = refl

-- a line from this number on
later : (number least : ℕ) (places : List ℕ → Option SymbolValue) (h : LocationCounter) (ls : List Line) → least ≤ number → IfSome (twice_from number places h ls) (λ n. least ≤ n)
later number least places h [] k = tt
later number least places h (l ∷ ls) k = go (has_one places (symbol_of h) l.labels) (later (number + 1) least (with_labels places (symbol_of h) l.labels) (after h l.statement) ls (omega (arith, k)))
  where
    go : (t : Bool) → IfSome (twice_from (number + 1) (with_labels places (symbol_of h) l.labels) (after h l.statement) ls) (λ n. least ≤ n)
        → IfSome (cond t (Some number) (twice_from (number + 1) (with_labels places (symbol_of h) l.labels) (after h l.statement) ls)) (λ n. least ≤ n)
    go true m = k
    go false m = m

not_now : (number : ℕ) (o : Option ℕ) → IfSome o (λ n. number + 1 ≤ n) → is_number number o ≡ false
not_now number None h = refl
not_now number (Some n) h = grind (arith, h)

is_same : (n : ℕ) → (n == n) ≡ true
is_same n = grind arith

pub faults_are : (w : Symbols) (number : ℕ) (places : List ℕ → Option SymbolValue) (above : List (List ℕ)) (h : LocationCounter) (ls : List Line) → Agrees places above
    → fault_by w (twice_from number places h ls) number h ls ≡ fault_from w number above h ls
faults_are w number places above h [] a = refl
faults_are w number places above h (l ∷ ls) a =
    go (has_one places (symbol_of h) l.labels) (one_is_twice places (symbol_of h) l.labels above a)
    (faults_are w (number + 1) (with_labels places (symbol_of h) l.labels) (above ++ l.labels) (after h l.statement) ls (agrees_all places (symbol_of h) l.labels above a))
  where
    next : Option ℕ
    next = twice_from (number + 1) (with_labels places (symbol_of h) l.labels) (after h l.statement) ls

    go : (t : Bool) → t ≡ is_twice above l.labels
        → fault_by w next (number + 1) (after h l.statement) ls ≡ fault_from w (number + 1) (above ++ l.labels) (after h l.statement) ls
        → fault_by w (cond t (Some number) next) number h (l ∷ ls) ≡ fault_from w number above h (l ∷ ls)
    go true e ih =
        ap (λ t. option_or (fault_at number (broken_at w t h l.statement)) (fault_by w (Some number) (number + 1) (after h l.statement) ls)) (is_same number)
        ∙ (twice_faulty w h l.statement number (fault_by w (Some number) (number + 1) (after h l.statement) ls) (fault_from w (number + 1) (above ++ l.labels) (after h l.statement) ls)
        ∙ ap (λ t. option_or (fault_at number (broken_at w t h l.statement)) (fault_from w (number + 1) (above ++ l.labels) (after h l.statement) ls)) e)
    go false e ih =
        ap (λ t. option_or (fault_at number (broken_at w t h l.statement)) (fault_by w next (number + 1) (after h l.statement) ls))
        (not_now number next (later (number + 1) (number + 1) (with_labels places (symbol_of h) l.labels) (after h l.statement) ls (omega arith)) ∙ e)
        ∙ ap (option_or (fault_at number (broken_at w (is_twice above l.labels) h l.statement))) ih

pub all_faults : (w : Symbols) (ls : List Line) → fault_by w (twice_from 1 no_places start ls) 1 start ls ≡ fault_from w 1 [] start ls
all_faults w ls = faults_are w 1 no_places [] start ls (λ q. refl)
