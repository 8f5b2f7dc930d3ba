-- How many bytes a reader takes: at least one, and 12 at most. Source: own.
use Rattle.std.proofs.Common.{◌≡◌, ℕ, zero, suc, ◌+◌, ◌-◌, ◌<◌, ◌≤◌, Bool, true, false, ◌&&◌, cond, List, [], ◌∷◌, ◌++◌, length, take, drop}
use Rattle.std.proofs.Common.{Option, Some, None, Result, Ok, Err, refl, sym, ap, subst, ◌∙◌, arith, ◌⊎◌, inl, inr}
use Rattle.std.specs.Prelude.{slice_index, nat_le, nat_lt}
use Rattle.std.proofs.lemmas.Bool.{and_parts, leb-true, ltb-false}
use Rattle.std.proofs.lemmas.List.{length-append, length-drop}
use Rattle.cet_isa.specs.declared.instructions.Instr.{Instr}
use Rattle.cet_isa.specs.declared.instructions.Operand.{Operand}
use Rattle.cet_isa.specs.Form.{Pattern, Rex, NoRex, ClearRex, SetRex, Form}
use Rattle.cet_isa.specs.Forms.{forms}
use Rattle.cet_isa.specs.Meaning.{sib_len, disp_len, instr_of}
use Rattle.cet_isa.specs.Spells.{has, allows, places, Fill, imm_len, modrm_in, rm_in, fields_in}
use Rattle.cet_isa.specs.Reader.{Miss, Ends, Differs, ◌>>=◌, or_else}
use Rattle.cet_isa.proofs.ReaderLaws.{bind_ok, pair, pair_same}
use Rattle.cet_isa.specs.Reading.{byte_at, cells_at, bytes_at, operand_at, read_at, form_at, row_at, any_at, Read, decoding_of, decoded}

-- ---- the places

-- what a reader of cells took
pub record Cells (os : List (Option Pattern)) (bytes cells rest : List ℕ) : Type 0 where
  pub front : List ℕ
  pub whole : bytes ≡ front ++ rest
  pub filled : Fill os front cells

pub cells_fill : (os : List (Option Pattern)) (bytes cells rest : List ℕ) → cells_at os bytes ≡ Ok (cells, rest) → Cells os bytes cells rest
unfolding cells_at byte_at
cells_fill [] bytes cells rest e =
    let q = pair_same [] cells bytes rest e in
    record { front = []; whole = q.1; filled = (refl, sym q.0) }
cells_fill (None ∷ os) bytes cells rest e =
    let b = bind_ok (cells_at os bytes) (λ (r : List ℕ × List ℕ). pair (0 ∷ r.0) r.1) (cells, rest) e in
    let q = pair_same (0 ∷ b.0.0) cells b.0.1 rest b.2 in
    let c = cells_fill os bytes b.0.0 b.0.1 b.1 in
    record { front = c.front; whole = c.whole ∙ ap (λ (k : List ℕ). c.front ++ k) q.1; filled = (b.0.0, sym q.0, c.filled) }
cells_fill (Some p ∷ os) [] cells rest e = absurd cc
cells_fill (Some p ∷ os) (a ∷ bytes) cells rest e = go (λ xs ys h. cells_fill os bytes xs ys h) (has p a) refl e
  where
    go : ((xs ys : List ℕ) → cells_at os bytes ≡ Ok (xs, ys) → Cells os bytes xs ys) → (t : Bool) → has p a ≡ t →
        ((let r : Result (ℕ × List ℕ) Miss = cond t (Ok (a, bytes)) (Err Differs) in r) >>= (λ x. cells_at os x.1 >>= (λ r. pair (x.0 ∷ r.0) r.1))) ≡ Ok (cells, rest) →
        Cells (Some p ∷ os) (a ∷ bytes) cells rest
    go ih true h e =
        let b = bind_ok (cells_at os bytes) (λ (r : List ℕ × List ℕ). pair (a ∷ r.0) r.1) (cells, rest) e in
        let q = pair_same (a ∷ b.0.0) cells b.0.1 rest b.2 in
        let c = ih b.0.0 b.0.1 b.1 in
        record { front = a ∷ c.front; whole = ap (λ (k : List ℕ). a ∷ k) c.whole ∙ ap (λ (k : List ℕ). a ∷ c.front ++ k) q.1; filled = (a, c.front, b.0.0, h, refl, sym q.0, c.filled) }
    go ih false h e = absurd cc

-- the places that have a byte
abbrev pub filled_places : List (Option Pattern) → List Pattern
filled_places [] = []
filled_places (None ∷ os) = filled_places os
filled_places (Some p ∷ os) = p ∷ filled_places os

pub fill_length : (os : List (Option Pattern)) (bytes cells : List ℕ) → Fill os bytes cells → length bytes ≡ length (filled_places os)
fill_length [] bytes cells f = ap length f.0
fill_length (None ∷ os) bytes cells f = fill_length os bytes f.0 f.2
fill_length (Some p ∷ os) bytes cells f = ap length f.4 ∙ ap suc (fill_length os f.1 f.2 f.6)

abbrev pub place_at : ℕ → List (Option Pattern) → Option Pattern
place_at k [] = None
place_at zero (o ∷ os) = o
place_at (suc k) (o ∷ os) = place_at k os

-- a cell is 0 at an empty place
abbrev pub CellFits : Option Pattern → ℕ → Type 0
CellFits None c = c ≡ 0
CellFits (Some p) c = has p c ≡ true

pub cell_fits : (os : List (Option Pattern)) (bytes cells : List ℕ) (k : ℕ) → Fill os bytes cells → CellFits (place_at k os) (slice_index cells k)
cell_fits [] bytes cells k f = ap (λ (c : List ℕ). slice_index c k) f.1 ∙ nothing k
  where
    nothing : (k : ℕ) → slice_index [] k ≡ 0
    nothing zero = refl
    nothing (suc k) = refl
cell_fits (None ∷ os) bytes cells zero f = ap (λ (c : List ℕ). slice_index c 0) f.1
cell_fits (None ∷ os) bytes cells (suc k) f = subst (λ (c : List ℕ). CellFits (place_at k os) (slice_index c (suc k))) (sym f.1) (cell_fits os bytes f.0 k f.2)
cell_fits (Some p ∷ os) bytes cells zero f = subst (λ (c : List ℕ). has p (slice_index c 0) ≡ true) (sym f.5) f.3
cell_fits (Some p ∷ os) bytes cells (suc k) f = subst (λ (c : List ℕ). CellFits (place_at k os) (slice_index c (suc k))) (sym f.5) (cell_fits os f.1 f.2 k f.6)

-- ---- the bytes after them

pub bytes_length : (n : ℕ) (bytes x rest : List ℕ) → bytes_at n bytes ≡ Ok (x, rest) → length bytes ≡ n + length rest
unfolding bytes_at
bytes_length n bytes x rest e = go (nat_lt (length bytes) n) refl e
  where
    go : (t : Bool) → nat_lt (length bytes) n ≡ t → cond t (Err Ends) (pair (take n bytes) (drop n bytes)) ≡ Ok (x, rest) → length bytes ≡ n + length rest
    go true l e = absurd cc
    go false l e =
        let q = (pair_same (take n bytes) x (drop n bytes) rest e).1 in
        let long : n ≤ length bytes = ltb-false _ _ l in
        omega (arith, length-drop n bytes, ap length q)

-- how long SIB and displacement can be
abbrev pub tail_limit : Option Pattern → ℕ
tail_limit None = 0
tail_limit (Some p) = 5

tail_small : (o : Option Pattern) (m sib : ℕ) → CellFits o m → sib_len m + disp_len m sib ≤ tail_limit o
tail_small None m sib e = rw e (omega arith)
tail_small (Some p) m sib e = grind arith

operand_length : (cells bytes : List ℕ) (x : Operand × List ℕ) → operand_at cells bytes ≡ Ok x → (sib : ℕ) × (length bytes ≡ sib_len (modrm_in cells) + disp_len (modrm_in cells) sib + length x.1)
unfolding operand_at
operand_length cells bytes x e =
    let s = bind_ok (bytes_at (sib_len (modrm_in cells)) bytes) _ x e in
    let d = bind_ok (bytes_at (disp_len (modrm_in cells) (slice_index s.0.0 0)) s.0.1) _ x s.2 in
    let q : d.0.1 ≡ x.1 = (pair_same (rm_in cells s.0.0 d.0.0) x.0 d.0.1 x.1 d.2).1 in
    let a = bytes_length (sib_len (modrm_in cells)) bytes s.0.0 s.0.1 s.1 in
    let b = bytes_length (disp_len (modrm_in cells) (slice_index s.0.0 0)) s.0.1 d.0.0 d.0.1 d.1 in
    (slice_index s.0.0 0, omega (arith, a, b, ap length q))

-- ---- a row

-- some bytes were taken, and 12 at most
pub record Lengths (bytes rest : List ℕ) : Type 0 where
  pub some : length rest < length bytes
  pub small : length bytes ≤ length rest + 12

-- every row takes 12 bytes at most, counting what its ModRM can ask for
abbrev pub is_short : Form → Rex → Bool
is_short f rex = nat_le (length (filled_places (places f rex)) + tail_limit f.modrm + imm_len f.imm) 12

filled_has : (os : List (Option Pattern)) (k : ℕ) (p : Pattern) → place_at k os ≡ Some p → 1 ≤ length (filled_places os)
filled_has [] k p e = absurd cc
filled_has (None ∷ os) zero p e = absurd cc
filled_has (None ∷ os) (suc k) p e = filled_has os k p e
filled_has (Some q ∷ os) k p e = omega arith

pub read_length : (f : Form) (rex : Rex) (bytes : List ℕ) (x : Instr × List ℕ) → is_short f rex ≡ true → read_at f rex bytes ≡ Ok x → Lengths bytes x.1
unfolding read_at
read_length f rex bytes x h e =
    let c = bind_ok (cells_at (places f rex) bytes) _ x e in
    let o = bind_ok (operand_at c.0.0 c.0.1) _ x c.2 in
    let i = bind_ok (bytes_at (imm_len f.imm) o.0.1) _ x o.2 in
    let q : i.0.1 ≡ x.1 = (pair_same (instr_of f.kind (fields_in c.0.0 o.0.0 i.0.0)) x.0 i.0.1 x.1 i.2).1 in
    let head = cells_fill (places f rex) bytes c.0.0 c.0.1 c.1 in
    let operand = operand_length c.0.0 c.0.1 o.0 o.1 in
    let imm = bytes_length (imm_len f.imm) o.0.1 i.0.0 i.0.1 i.1 in
    let front = fill_length (places f rex) head.front c.0.0 head.filled in
    let some = filled_has (places f rex) 6 f.opcode refl in
    let tail = tail_small f.modrm (modrm_in c.0.0) operand.0 (cell_fits (places f rex) head.front c.0.0 7 head.filled) in
    let limit = leb-true _ _ h in
    let total = ap length head.whole ∙ length-append head.front c.0.1 in
    let left = ap length q in
    record { some = omega (arith, total, front, some, operand.1, imm, left); small = omega (arith, total, front, tail, limit, operand.1, imm, left) }

-- ---- the table

abbrev pub form_is_short : Form → Bool
form_is_short f = is_short f NoRex && (is_short f ClearRex && is_short f SetRex)

abbrev pub all_short : List Form → Bool
all_short [] = true
all_short (f ∷ fs) = form_is_short f && all_short fs

form_length : (f : Form) (rex : Rex) (bytes : List ℕ) (x : Instr × List ℕ) → is_short f rex ≡ true → form_at f rex bytes ≡ Ok x → Lengths bytes x.1
unfolding form_at
form_length f rex bytes x h e = go (allows f.wide rex) e
  where
    go : (t : Bool) → cond t (read_at f rex bytes) (Err Differs) ≡ Ok x → Lengths bytes x.1
    go true e = read_length f rex bytes x h e
    go false e = absurd cc

or_else_ok : {A : Type 0} (a b : Result A Miss) (x : A) → or_else a b ≡ Ok x → (a ≡ Ok x) ⊎ (b ≡ Ok x)
or_else_ok (Ok y) b x e = inl e
or_else_ok (Err Ends) (Ok y) x e = inr e
or_else_ok (Err Differs) (Ok y) x e = inr e
or_else_ok (Err Ends) (Err m) x e = absurd cc
or_else_ok (Err Differs) (Err m) x e = absurd cc

row_length : (f : Form) (bytes : List ℕ) (x : Instr × List ℕ) → form_is_short f ≡ true → row_at f bytes ≡ Ok x → Lengths bytes x.1
unfolding row_at
row_length f bytes x h e =
    let a = and_parts _ _ h in
    let b = and_parts _ _ a.1 in
    elim (or_else_ok (or_else (form_at f NoRex bytes) (form_at f ClearRex bytes)) (form_at f SetRex bytes) x e) [
      | inl e ↦ elim (or_else_ok (form_at f NoRex bytes) (form_at f ClearRex bytes) x e) [
        | inl e ↦ form_length f NoRex bytes x a.0 e
        | inr e ↦ form_length f ClearRex bytes x b.0 e
      ]
      | inr e ↦ form_length f SetRex bytes x b.1 e
    ]

any_length : (fs : List Form) (bytes : List ℕ) (x : Instr × List ℕ) → all_short fs ≡ true → any_at fs bytes ≡ Ok x → Lengths bytes x.1
unfolding any_at
any_length [] bytes x h e = absurd cc
any_length (f ∷ fs) bytes x h e =
    let a = and_parts _ _ h in
    elim (or_else_ok (row_at f bytes) (any_at fs bytes) x e) [
      | inl e ↦ row_length f bytes x a.0 e
      | inr e ↦ any_length fs bytes x a.1 e
    ]

table_short : all_short forms ≡ true
table_short = refl

pub forms_length : (bytes : List ℕ) (x : Instr × List ℕ) → any_at forms bytes ≡ Ok x → Lengths bytes x.1
forms_length bytes x e = any_length forms bytes x table_short e

-- what was read is some of the bytes, and 12 at most
pub record Within (bytes : List ℕ) (len : ℕ) : Type 0 where
  pub some : 1 ≤ len
  pub whole : len ≤ length bytes
  pub small : len ≤ 12

pub decoded_lengths : (bytes : List ℕ) (i : Instr) (len : ℕ) → decoded bytes ≡ Read i len → Within bytes len
unfolding decoded
decoded_lengths bytes i len e = go (any_at forms bytes) refl e
  where
    go : (r : Result (Instr × List ℕ) Miss) → any_at forms bytes ≡ r → decoding_of (length bytes) r ≡ Read i len → Within bytes len
    go (Ok x) h e =
        let same : length bytes - length x.1 ≡ len = cc in
        let l = forms_length bytes x h in
        record { some = omega (arith, same, l.some); whole = omega (arith, same); small = omega (arith, same, l.small) }
    go (Err Ends) h e = absurd cc
    go (Err Differs) h e = absurd cc

pub decoded_within : (bytes : List ℕ) (i : Instr) (len : ℕ) → decoded bytes ≡ Read i len → (1 ≤ len) × (len ≤ length bytes)
decoded_within bytes i len e = let w = decoded_lengths bytes i len e in (w.some, w.whole)
