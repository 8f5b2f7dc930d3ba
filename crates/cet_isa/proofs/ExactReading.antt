-- Each stage of reading an instruction is exact. Source: own.
use Rattle.std.proofs.Common.{◌≡◌, ◌≢◌, ℕ, zero, suc, ◌-◌, ◌<◌, ◌≤◌, Bool, true, false, cond, List, [], ◌∷◌, ◌++◌, length, take, drop}
use Rattle.std.proofs.Common.{Option, Some, None, Ok, Err, refl, sym, ap, subst, ◌∙◌, append_assoc, arith, replicate}
use Rattle.std.specs.Prelude.{slice_index, nat_lt}
use Rattle.std.proofs.lemmas.Bool.{ltb-true, ltb-false, le-ltb}
use Rattle.std.proofs.lemmas.List.{take_at, drop_at, take-append-drop, length-append, length-take, length-replicate}
use Rattle.cet_isa.specs.declared.instructions.Operand.{Operand}
use Rattle.cet_isa.specs.declared.instructions.Instr.{Instr}
use Rattle.cet_isa.specs.Form.{Pattern, Rex, Form}
use Rattle.cet_isa.specs.Meaning.{sib_len, disp_len, instr_of}
use Rattle.cet_isa.specs.Spells.{has, allows, places, Fill, imm_len, modrm_in, rm_in, fields_in, SpelledBy}
use Rattle.cet_isa.specs.Reader.{Ends, Differs, IsBytes}
use Rattle.cet_isa.proofs.ReaderLaws.{pair, pair_same, IsBytes-append, IsBytes-left, IsBytes-right}
use Rattle.cet_isa.proofs.Exact.{Exact, Took, GoesOn, Seq, Chain, exact_seq, exact_done, exact_as, Mapped, Image, exact_map}
use Rattle.cet_isa.specs.Reading.{byte_at, cells_at, bytes_at, operand_at, read_at}

-- ---- one place

abbrev pub Place : Option Pattern → List ℕ → ℕ → Type 0
Place None bytes x = (bytes ≡ []) × (x ≡ 0)
Place (Some p) bytes x = (has p x ≡ true) × (bytes ≡ x ∷ [])

-- the value of a pattern is one of its bytes
abbrev pub is_inhabited : Option Pattern → Bool
is_inhabited None = true
is_inhabited (Some p) = has p p.value

pub exact_byte : (o : Option Pattern) → is_inhabited o ≡ true → Exact (byte_at o) (Place o)
unfolding byte_at
exact_byte None inhabited = exact_done 0
exact_byte (Some p) inhabited = record {
  sound = sound;
  complete = λ front rest x h. ap (λ (k : List ℕ). byte_at (Some p) (k ++ rest)) h.1 ∙ ap (λ (t : Bool). cond t (Ok (x, rest)) (Err Differs)) h.0;
  ends = ends;
  differs = differs;
  alive = record { text = p.value ∷ []; value = p.value; means = (inhabited, refl) };
}
  where
    sound : (bytes rest : List ℕ) (x : ℕ) → IsBytes bytes → byte_at (Some p) bytes ≡ Ok (x, rest) → Took (Place (Some p)) bytes rest x
    sound [] rest x fits e = absurd cc
    sound (b ∷ bytes) rest x fits e = go (has p b) refl e
      where
        go : (t : Bool) → has p b ≡ t → cond t (pair b bytes) (Err Differs) ≡ Ok (x, rest) → Took (Place (Some p)) (b ∷ bytes) rest x
        go true holds e = let q = pair_same b x bytes rest e in record {
          front = x ∷ [];
          whole = ap (λ (k : ℕ). k ∷ bytes) q.0 ∙ ap (λ (k : List ℕ). x ∷ k) q.1;
          means = (subst (λ (k : ℕ). has p k ≡ true) q.0 holds, refl);
        }
        go false nope e = absurd cc

    ends : (bytes : List ℕ) → IsBytes bytes → byte_at (Some p) bytes ≡ Err Ends → GoesOn (Place (Some p)) bytes
    ends [] fits e = record { more = p.value ∷ []; some_more = λ h. absurd cc; value = p.value; means = (inhabited, refl) }
    ends (b ∷ bytes) fits e = go (has p b) e
      where
        go : (t : Bool) → cond t (pair b bytes) (Err Differs) ≡ Err Ends → GoesOn (Place (Some p)) (b ∷ bytes)
        go true e = absurd cc
        go false e = absurd cc

    differs : (bytes more : List ℕ) → IsBytes bytes → byte_at (Some p) bytes ≡ Err Differs → byte_at (Some p) (bytes ++ more) ≡ Err Differs
    differs [] more fits e = absurd cc
    differs (b ∷ bytes) more fits e = go (has p b) e
      where
        go : (t : Bool) → cond t (pair b bytes) (Err Differs) ≡ Err Differs → cond t (pair b (bytes ++ more)) (Err Differs) ≡ Err Differs
        go true e = absurd cc
        go false e = refl

-- ---- all places

abbrev pub all_inhabited : List (Option Pattern) → Bool
all_inhabited [] = true
all_inhabited (o ∷ os) = cond (is_inhabited o) (all_inhabited os) false

inhabited_first : (o : Option Pattern) (os : List (Option Pattern)) → all_inhabited (o ∷ os) ≡ true → is_inhabited o ≡ true
inhabited_first o os h = grind (arith)

inhabited_others : (o : Option Pattern) (os : List (Option Pattern)) → all_inhabited (o ∷ os) ≡ true → all_inhabited os ≡ true
inhabited_others o os h = grind (arith)

pub exact_cells : (os : List (Option Pattern)) → all_inhabited os ≡ true → Exact (cells_at os) (Fill os)
unfolding cells_at
exact_cells [] inhabited = exact_done []
exact_cells (o ∷ os) inhabited =
    exact_as (Chain (byte_at o) (λ (x : ℕ). Mapped (λ (xs : List ℕ). x ∷ xs) (cells_at os))) (cells_at (o ∷ os))
    (Seq (Place o) (λ (x : ℕ). Image (λ (xs : List ℕ). x ∷ xs) (Fill os))) (Fill (o ∷ os))
    (exact_seq _ _ _ _ (exact_byte o (inhabited_first o os inhabited)) (λ x. exact_map _ _ _ (exact_cells os (inhabited_others o os inhabited))))
    (λ bytes. refl)
    (to o) (from o)
  where
    to : (o : Option Pattern) (bytes cells : List ℕ) → Seq (Place o) (λ (x : ℕ). Image (λ (xs : List ℕ). x ∷ xs) (Fill os)) bytes cells → Fill (o ∷ os) bytes cells
    to None bytes cells s =
        let same : s.back ≡ bytes = sym (s.whole ∙ ap (λ (k : List ℕ). k ++ s.back) s.first.0) in
        (s.second.value, s.second.same ∙ ap (λ (k : ℕ). k ∷ s.second.value) s.first.1, subst (λ (k : List ℕ). Fill os k s.second.value) same s.second.means)
    to (Some p) bytes cells s = (s.value, s.back, s.second.value, s.first.0, s.whole ∙ ap (λ (k : List ℕ). k ++ s.back) s.first.1, s.second.same, s.second.means)

    from : (o : Option Pattern) (bytes cells : List ℕ) → Fill (o ∷ os) bytes cells → Seq (Place o) (λ (x : ℕ). Image (λ (xs : List ℕ). x ∷ xs) (Fill os)) bytes cells
    from None bytes cells f = record { front = []; value = 0; back = bytes; whole = refl; first = (refl, refl); second = record { value = f.0; means = f.2; same = f.1 } }
    from (Some p) bytes cells f = record { front = f.0 ∷ []; value = f.0; back = f.1; whole = f.4; first = (f.3, refl); second = record { value = f.2; means = f.6; same = f.5 } }

-- ---- n bytes

abbrev pub Bytes : ℕ → List ℕ → List ℕ → Type 0
Bytes n bytes x = (bytes ≡ x) × (length x ≡ n) × IsBytes x

abbrev zeros : ℕ → List ℕ
zeros n = replicate n zero

zeros_fit : (n : ℕ) → IsBytes (zeros n)
zeros_fit zero = tt
zeros_fit (suc n) = (omega arith, zeros_fit n)

nonempty_zeros : (n : ℕ) → 0 < n → zeros n ≢ []
nonempty_zeros zero h e = omega arith
nonempty_zeros (suc n) h e = absurd cc

pub exact_bytes : (n : ℕ) → Exact (bytes_at n) (Bytes n)
unfolding bytes_at
exact_bytes n = record {
  sound = λ bytes rest x fits e. sound bytes rest x fits (nat_lt (length bytes) n) refl e;
  complete = complete;
  ends = λ bytes fits e. ends bytes fits (nat_lt (length bytes) n) refl e;
  differs = λ bytes more fits e. absurd (never (nat_lt (length bytes) n) bytes e);
  alive = record { text = zeros n; value = zeros n; means = (refl, length-replicate n zero, zeros_fit n) };
}
  where
    sound : (bytes rest x : List ℕ) → IsBytes bytes → (t : Bool) → nat_lt (length bytes) n ≡ t → cond t (Err Ends) (pair (take n bytes) (drop n bytes)) ≡ Ok (x, rest) → Took (Bytes n) bytes rest x
    sound bytes rest x fits true l e = absurd cc
    sound bytes rest x fits false l e =
        let q = pair_same (take n bytes) x (drop n bytes) rest e in
        let q0 = q.0 in
        let q1 = q.1 in
        let long : n ≤ length bytes = ltb-false _ _ l in
        let fits' : IsBytes (take n bytes ++ drop n bytes) = subst IsBytes (sym (take-append-drop n bytes)) fits in
        record {
          front = x;
          whole = sym (take-append-drop n bytes) ∙ ap (λ (k : List ℕ). k ++ drop n bytes) q0 ∙ ap (λ (k : List ℕ). x ++ k) q1;
          means = (refl, ap length (sym q0) ∙ omega (arith, length-take n bytes), subst IsBytes q0 (IsBytes-left (take n bytes) (drop n bytes) fits'));
        }

    complete : (front rest x : List ℕ) → Bytes n front x → bytes_at n (front ++ rest) ≡ Ok (x, rest)
    complete front rest x b =
        let long : nat_lt (length (x ++ rest)) n ≡ false = le-ltb _ _ (omega (arith, length-append x rest, b.1)) in
        ap (λ (k : List ℕ). bytes_at n (k ++ rest)) b.0 ∙ rw (long, take_at x rest n b.1, drop_at x rest n b.1) refl

    ends : (bytes : List ℕ) → IsBytes bytes → (t : Bool) → nat_lt (length bytes) n ≡ t → cond t (Err Ends) (pair (take n bytes) (drop n bytes)) ≡ Err Ends → GoesOn (Bytes n) bytes
    ends bytes fits true l e =
        let lt : length bytes < n = ltb-true _ _ l in
        let zs = zeros (n - length bytes) in
        record {
          more = zs;
          some_more = nonempty_zeros (n - length bytes) (omega arith);
          value = bytes ++ zs;
          means = (
            refl,
            omega (arith, length-append bytes (zeros (n - length bytes)), length-replicate {A = ℕ} (n - length bytes) zero),
            IsBytes-append bytes zs fits (zeros_fit (n - length bytes)),
          );
        }
    ends bytes fits false l e = absurd cc

    never : (t : Bool) (bytes : List ℕ) → cond t (Err Ends) (pair (take n bytes) (drop n bytes)) ≡ Err Differs → ⊥
    never true bytes e = cc
    never false bytes e = cc

-- ---- a row

abbrev pub OperandBy : List ℕ → List ℕ → Operand → Type 0
OperandBy cells = Seq (Bytes (sib_len (modrm_in cells))) (λ (sib : List ℕ). Image (λ (disp : List ℕ). rm_in cells sib disp) (Bytes (disp_len (modrm_in cells) (slice_index sib 0))))

exact_operand : (cells : List ℕ) → Exact (operand_at cells) (OperandBy cells)
unfolding operand_at
exact_operand cells = exact_seq _ _ _ _ (exact_bytes (sib_len (modrm_in cells))) (λ sib. exact_map _ _ _ (exact_bytes (disp_len (modrm_in cells) (slice_index sib 0))))

abbrev pub ReadBy : Form → Rex → List ℕ → Instr → Type 0
ReadBy f rex = Seq (Fill (places f rex)) (λ (cells : List ℕ). Seq (OperandBy cells) (λ (rm : Operand). Image (λ (imm : List ℕ). instr_of f.kind (fields_in cells rm imm)) (Bytes (imm_len f.imm))))

pub exact_read : (f : Form) (rex : Rex) → all_inhabited (places f rex) ≡ true → Exact (read_at f rex) (ReadBy f rex)
unfolding read_at
exact_read f rex inhabited = exact_seq _ _ _ _ (exact_cells (places f rex) inhabited) (λ cells. exact_seq _ _ _ _ (exact_operand cells) (λ rm. exact_map _ _ _ (exact_bytes (imm_len f.imm))))

-- what the stages read is what the row spells
pub spelled_by : (f : Form) (rex : Rex) (bytes : List ℕ) (i : Instr) → allows f.wide rex ≡ true → ReadBy f rex bytes i → SpelledBy f bytes i
spelled_by f rex bytes i ok s =
    let tail = s.second in
    let operand = tail.first in
    let disp = operand.second in
    let imm = tail.second in
    record {
      rex = rex;
      allowed = ok;
      head = s.front;
      cells = s.value;
      filled = s.first;
      sib = operand.value;
      sib_fits = operand.first.1;
      disp = disp.value;
      disp_fits = disp.means.1;
      imm = imm.value;
      imm_fits = imm.means.1;
      tail_fits = IsBytes-append operand.value (disp.value ++ imm.value) operand.first.2 (IsBytes-append disp.value imm.value disp.means.2 imm.means.2);
      whole = s.whole ∙ ap (λ (k : List ℕ). s.front ++ k) (tail.whole ∙ ap (λ (k : List ℕ). k ++ tail.back) (operand.whole ∙ ap (λ (k : List ℕ). k ++ operand.back) operand.first.0 ∙
          ap (λ (k : List ℕ). operand.value ++ k) disp.means.0) ∙ append_assoc operand.value disp.value tail.back ∙ ap (λ (k : List ℕ). operand.value ++ (disp.value ++ k)) imm.means.0);
      means = imm.same ∙ ap (λ (k : Operand). instr_of f.kind (fields_in s.value k imm.value)) disp.same;
    }

pub read_by : (f : Form) (bytes : List ℕ) (i : Instr) (s : SpelledBy f bytes i) → ReadBy f s.rex bytes i
read_by f bytes i s =
    let fits = IsBytes-right s.sib (s.disp ++ s.imm) s.tail_fits in
    record {
      front = s.head;
      value = s.cells;
      back = s.sib ++ (s.disp ++ s.imm);
      whole = s.whole;
      first = s.filled;
      second = record {
        front = s.sib ++ s.disp;
        value = rm_in s.cells s.sib s.disp;
        back = s.imm;
        whole = sym (append_assoc s.sib s.disp s.imm);
        first = record {
          front = s.sib;
          value = s.sib;
          back = s.disp;
          whole = refl;
          first = (refl, s.sib_fits, IsBytes-left s.sib (s.disp ++ s.imm) s.tail_fits);
          second = record { value = s.disp; means = (refl, s.disp_fits, IsBytes-left s.disp s.imm fits); same = refl };
        };
        second = record { value = s.imm; means = (refl, s.imm_fits, IsBytes-right s.disp s.imm fits); same = s.means };
      };
    }
