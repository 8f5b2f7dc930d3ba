-- Once the first bytes are known, only the rows that may begin so have to be tried.
use Rattle.std.proofs.Common.{◌≡◌, ℕ, suc, ◌<◌, ◌≤◌, Bool, true, false, not, ◌&&◌, ◌||◌, cond, eqb, List, [], ◌∷◌, length, drop}
use Rattle.std.proofs.Common.{map, get_or, Option, Some, None, Result, Ok, Err, refl, sym, ap, ◌∙◌, arith}
use Rattle.std.specs.Prelude.{slice_get, nat_lt, nat_le}
use Rattle.std.proofs.Math.Seq.{drop-cons}
use Rattle.std.proofs.lemmas.List.{length-drop}
use Rattle.std.proofs.lemmas.Option.{slice_get-get_or, slice_get_within}
use Rattle.std.proofs.lemmas.Bool.{and_parts, eqb-true, leb-true}
use Rattle.cet_isa.specs.declared.instructions.Instr.{Instr}
use Rattle.cet_isa.specs.Form.{Pattern, Rex, NoRex, ClearRex, SetRex}
use Rattle.cet_isa.specs.Form as table
use Rattle.cet_isa.specs.Spells.{allows, places}
use Rattle.cet_isa.specs.Reader.{Miss, Differs, or_else}
use Rattle.cet_isa.specs.Reading.{read_at, form_at, row_at, any_at}
use Rattle.cet_isa.proofs.ReadingLaws.{filled_places}
use Rattle.cet_isa.proofs.Apart.{conflict, run, chain_apart}
use Rattle.cet_decode.specs.declared.forms.Form.{Form}
use Rattle.cet_decode.specs.Views.{form_view}
use Rattle.cet_decode.specs.Index.{maybe_row_at, some_at}

-- no bytes that begin by the chain are read by the row
abbrev pub blocked_by : List Pattern → table.Form → Rex → Bool
blocked_by chain f rex = not (allows f.wide rex) || conflict chain (filled_places (places f rex))

abbrev pub blocked : List Pattern → Form → Bool
blocked chain x = let f = form_view x in blocked_by chain f NoRex && (blocked_by chain f ClearRex && blocked_by chain f SetRex)

-- what begins by the chain is not read by the row with this REX
pub form_blocked : (chain : List Pattern) (f : table.Form) (rex : Rex) (bytes rest : List ℕ) → blocked_by chain f rex ≡ true → run chain bytes ≡ Ok rest → form_at f rex bytes ≡ Err Differs
unfolding form_at
form_blocked chain f rex bytes rest b e = go (allows f.wide rex) b
  where
    go : (t : Bool) → (not t || conflict chain (filled_places (places f rex))) ≡ true → cond t (read_at f rex bytes) (Err Differs) ≡ Err Differs
    go false b = refl
    go true b = chain_apart chain f rex bytes rest b e

pub or_differs : {A : Type 0} (r : Result A Miss) → or_else (Err Differs) r ≡ r
or_differs (Ok x) = refl
or_differs (Err m) = refl

row_blocked : (chain : List Pattern) (x : Form) (bytes rest : List ℕ) → blocked chain x ≡ true → run chain bytes ≡ Ok rest → row_at (form_view x) bytes ≡ Err Differs
unfolding row_at
row_blocked chain x bytes rest b e =
    let f = form_view x in
    let a = and_parts _ _ b in
    let c = and_parts _ _ a.1 in
    rw (form_blocked chain f NoRex bytes rest a.0 e, form_blocked chain f ClearRex bytes rest c.0 e, form_blocked chain f SetRex bytes rest c.1 e) refl

skipped : (chain : List Pattern) (x : Form) (bytes rest : List ℕ) (r : Result (Instr × List ℕ) Miss) → blocked chain x ≡ true → run chain bytes ≡ Ok rest → or_else (row_at (form_view x) bytes) r ≡ r
skipped chain x bytes rest r b e = ap (λ (k : Result (Instr × List ℕ) Miss). or_else k r) (row_blocked chain x bytes rest b e) ∙ or_differs r

-- each row, from number n on, is the next of these numbers, or blocked; the numbers left over are past the table
abbrev pub names_all : List Pattern → ℕ → List Form → List ℕ → Bool
names_all chain n [] [] = true
names_all chain n [] (k ∷ ks) = nat_le n k && names_all chain n [] ks
names_all chain n (f ∷ fs) [] = blocked chain f && names_all chain (suc n) fs []
names_all chain n (f ∷ fs) (k ∷ ks) = cond (eqb n k) (names_all chain (suc n) fs ks) (nat_lt n k && (blocked chain f && names_all chain (suc n) fs (k ∷ ks)))

record At (all : List Form) (n : ℕ) (f : Form) (fs : List Form) : Type 0 where
  here : slice_get all n ≡ Some f
  next : drop (suc n) all ≡ fs

at_of : (all : List Form) (n : ℕ) (f : Form) (fs : List Form) → drop n all ≡ f ∷ fs → At all n f fs
at_of all n f fs e =
    let lt : n < length all = omega (arith, ap length e, length-drop n all) in
    let c : get_or all n f ∷ drop (suc n) all ≡ f ∷ fs = sym (drop-cons all n f lt) ∙ e in
    let head : get_or all n f ≡ f = cc in
    let tail : drop (suc n) all ≡ fs = cc in
    record { here = slice_get-get_or all n f lt ∙ ap (λ (x : Form). some x) head; next = tail }
  where
    some : Form → Option Form
    some x = Some x

past : (all : List Form) (n k : ℕ) → drop n all ≡ [] → n ≤ k → slice_get all k ≡ None
past all n k e l = go (slice_get all k) refl
  where
    go : (o : Option Form) → slice_get all k ≡ o → slice_get all k ≡ None
    go None h = h
    go (Some f) h = absurd (omega (arith, slice_get_within all k f h, ap length e, length-drop n all))

-- the rows by their numbers read what all rows read
pub by_numbers : (chain : List Pattern) (bytes rest : List ℕ) (all : List Form) (n : ℕ) (fs : List Form) (ks : List ℕ) → drop n all ≡ fs → names_all chain n fs ks ≡ true → run chain bytes ≡ Ok rest →
    some_at all ks bytes ≡ any_at (map form_view fs) bytes
unfolding any_at some_at
by_numbers chain bytes rest all n [] [] d t e = refl
by_numbers chain bytes rest all n [] (k ∷ ks) d t e =
    let a = and_parts (nat_le n k) (names_all chain n [] ks) t in
    ap (λ (o : Option Form). or_else (maybe_row_at o bytes) (some_at all ks bytes)) (past all n k d (leb-true n k a.0)) ∙ or_differs (some_at all ks bytes) ∙ by_numbers chain bytes rest all n [] ks d a.1 e
by_numbers chain bytes rest all n (f ∷ fs) [] d t e =
    let a = and_parts (blocked chain f) (names_all chain (suc n) fs []) t in
    by_numbers chain bytes rest all (suc n) fs [] (at_of all n f fs d).next a.1 e ∙ sym (skipped chain f bytes rest (any_at (map form_view fs) bytes) a.0 e)
by_numbers chain bytes rest all n (f ∷ fs) (k ∷ ks) d t e = go (eqb n k) refl (λ c. by_numbers chain bytes rest all (suc n) fs ks w.next c e) (λ c. by_numbers chain bytes rest all (suc n) fs (k ∷ ks) w.next c e) t
  where
    w : At all n f fs
    w = at_of all n f fs d

    go : (b : Bool) → eqb n k ≡ b → (names_all chain (suc n) fs ks ≡ true → some_at all ks bytes ≡ any_at (map form_view fs) bytes) →
        (names_all chain (suc n) fs (k ∷ ks) ≡ true → some_at all (k ∷ ks) bytes ≡ any_at (map form_view fs) bytes) →
        cond b (names_all chain (suc n) fs ks) (nat_lt n k && (blocked chain f && names_all chain (suc n) fs (k ∷ ks))) ≡ true →
        or_else (maybe_row_at (slice_get all k) bytes) (some_at all ks bytes) ≡ or_else (row_at (form_view f) bytes) (any_at (map form_view fs) bytes)
    go true q ih jh t =
        let here : slice_get all k ≡ Some f = ap (slice_get all) (sym (eqb-true n k q)) ∙ w.here in
        ap (λ (o : Option Form). or_else (maybe_row_at o bytes) (some_at all ks bytes)) here ∙ ap (or_else (row_at (form_view f) bytes)) (ih t)
    go false q ih jh t =
        let a = and_parts (nat_lt n k) (blocked chain f && names_all chain (suc n) fs (k ∷ ks)) t in
        let b = and_parts (blocked chain f) (names_all chain (suc n) fs (k ∷ ks)) a.1 in
        jh b.1 ∙ sym (skipped chain f bytes rest (any_at (map form_view fs) bytes) b.0 e)
