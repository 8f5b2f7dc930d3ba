-- A map with one label more.
use Rattle.std.proofs.Common.{◌≡◌, ℕ, Bool, true, false, List, Option, Some, None, is_some, refl, sym, ap, ◌∙◌, cond}
use Rattle.std.proofs.Math.Path.{fun_ext}
use Rattle.std.proofs.lemmas.Map.Text.{btree_map_updates_str}
use Rattle.std.proofs.lemmas.Slice.Eq.{bytes_eq-Decides}
use Rattle.std.specs.BTreeMap.{BTreeMap, UpdatesBy}
use Rattle.std.specs.Bool.{Decides}
use Rattle.std.specs.Borrow.{Bor}
use Rattle.std.specs.Cmp.Lexicographic.{slice_cmp}
use Rattle.std.specs.Ordering.{nat_cmp}
use Rattle.std.specs.Str.{bytes_eq}
use Rattle.std.specs.Option.{option_or}
use Rattle.cet_asm.specs.Passes.{place_in, only_at, with_label}
use Rattle.cet_asm.specs.declared.sections.SymbolValue.{SymbolValue}

same_bytes : (xs ys : List ℕ) → bytes_eq xs ys ≡ true → xs ≡ ys
same_bytes xs ys e = go (bytes_eq xs ys) (bytes_eq-Decides xs ys) e
  where
    go : (t : Bool) → Decides t (xs ≡ ys) → t ≡ true → xs ≡ ys
    go true d e = d.0 refl
    go false d e = absurd cc

none_there : (o : Option SymbolValue) → is_some o ≡ false → o ≡ None
none_there None e = refl
none_there (Some x) e = absurd cc

pub one_more : (name : List ℕ) (m n : BTreeMap (Bor (List ℕ)) SymbolValue) (symbol : SymbolValue) → is_some (place_in m name) ≡ false
    → UpdatesBy (λ x y. slice_cmp nat_cmp x.now y.now) (λ k. slice_cmp nat_cmp name k.now) m n (Some symbol)
    → place_in n ≡ with_label (place_in m) symbol name
one_more name m n symbol absent h = fun_ext (λ q. btree_map_updates_str name m n (Some symbol) h q ∙ go q (bytes_eq name q) refl)
  where
    keeps : (o : Option SymbolValue) → o ≡ option_or o None
    keeps None = refl
    keeps (Some x) = refl

    go : (q : List ℕ) (t : Bool) → bytes_eq name q ≡ t → cond t (Some symbol) (place_in m q) ≡ option_or (place_in m q) (only_at symbol t)
    go q true e = let none = none_there (place_in m q) (ap (λ w. is_some (place_in m w)) (sym (same_bytes name q e)) ∙ absent) in rw none refl
    go q false e = keeps (place_in m q)
