-- Rows that differ in their keys, from the first on.
use Rattle.std.proofs.Common.{◌≡◌, suc, ◌-◌, ◌≤◌, List, [], ◌∷◌, length, take, drop, sym, ap, subst, ◌∙◌, arith}
use Rattle.std.specs.Prelude.{slice_index_or, AllPairs}
use Rattle.std.proofs.lemmas.List.Kept.{AllPairs-cons}
use Rattle.std.proofs.lemmas.List.{take_all, get_or_default}
use Rattle.cet_rows.specs.declared.Row.{Row}
use Rattle.cet_rows.specs.Keys.{HasKey, DifferInKey}

-- all rows but the first
abbrev pub later : List Row → List Row
later rows = take (length rows - 1) (drop 1 rows)

later_is : (x : Row) (ys : List Row) → later (x ∷ ys) ≡ ys
later_is x ys = take_all (suc (length ys) - 1) ys (omega arith)

pub pairs_from_later : (rows : List Row) (d : Row) → 1 ≤ length rows → ¬ HasKey (slice_index_or rows 0 d).key (later rows) → AllPairs DifferInKey (later rows) → AllPairs DifferInKey rows
pairs_from_later [] d l none pairs = absurd (omega arith)
pairs_from_later (x ∷ ys) d l none pairs =
    let e = later_is x ys in
    let none' : ¬ HasKey x.key ys = subst (λ (zs : List Row). ¬ HasKey x.key zs) e none in
    AllPairs-cons DifferInKey x ys (λ k d l same. none' (k, slice_index_or ys k d, l, get_or_default ys k _ d l, sym same)) (subst (AllPairs DifferInKey) e pairs)

pub pairs_of_later : (rows : List Row) → AllPairs DifferInKey rows → AllPairs DifferInKey (later rows)
pairs_of_later [] pairs = pairs
pairs_of_later (x ∷ ys) pairs = subst (AllPairs DifferInKey) (sym (later_is x ys)) (λ i j d l h. pairs (suc i) (suc j) d (omega arith) (omega arith))

pub pairs_exclude : (rows : List Row) (d : Row) → 1 ≤ length rows → HasKey (slice_index_or rows 0 d).key (later rows) → ¬ AllPairs DifferInKey rows
pairs_exclude [] d l has pairs = omega arith
pairs_exclude (x ∷ ys) d l has pairs =
    let h : HasKey x.key ys = subst (HasKey x.key) (later_is x ys) has in
    pairs 0 (suc h.0) h.1 (omega arith) (omega (arith, h.2)) (sym h.4 ∙ ap (λ (r : Row). r.key) (sym h.3))
