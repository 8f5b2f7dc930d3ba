-- What is read by the table is what the table spells: each answer of `decoded` comes exactly where its cause holds. Source: own.
use Rattle.std.proofs.Common.{◌≡◌, ◌≢◌, ℕ, zero, suc, ◌+◌, ◌-◌, ◌<◌, ◌≤◌, get_or, Bool, true, false, ◌&&◌, cond, List, [], ◌∷◌, ◌++◌, length}
use Rattle.std.proofs.Common.{take, drop, Result, Ok, Err, refl, sym, ap, subst, ◌∙◌, append_assoc, inl, inr, arith}
use Rattle.std.specs.Prelude.{slice_index_or, Contains}
use Rattle.std.proofs.lemmas.Bool.{and_parts}
use Rattle.std.proofs.lemmas.List.{take_at, take-append-drop, length-append, length-drop}
use Rattle.cet_isa.specs.declared.instructions.Instr.{Instr}
use Rattle.cet_isa.specs.Form.{Rex, NoRex, ClearRex, SetRex, Form}
use Rattle.cet_isa.specs.Forms.{forms}
use Rattle.cet_isa.specs.Spells.{allows, places, Spells, Begins, IsPart}
use Rattle.cet_isa.specs.Reader.{Miss, Ends, Differs, IsBytes}
use Rattle.cet_isa.proofs.ReaderLaws.{pair_same}
use Rattle.cet_isa.proofs.Exact.{Exact, Took}
use Rattle.cet_isa.proofs.ExactReading.{all_inhabited, ReadBy, exact_read, spelled_by, read_by}
use Rattle.cet_isa.specs.Reading.{read_at, form_at, any_at, Read, Short, Unknown, decoding_of, decoded, IsAnswer}
use Rattle.cet_isa.proofs.ReadingLaws.{forms_length}
use Rattle.cet_isa.proofs.Apart.{Try, attempt, tries_of, any_is, Member, all_apart, tries_found, tries_unknown, tries_ok}

-- ---- the two tests of the table, which compute

table_apart : all_apart (tries_of forms) ≡ true
table_apart = refl

abbrev all_rows_inhabited : List Form → Bool
all_rows_inhabited [] = true
all_rows_inhabited (f ∷ fs) = (all_inhabited (places f NoRex) && (all_inhabited (places f ClearRex) && all_inhabited (places f SetRex))) && all_rows_inhabited fs

table_inhabited : all_rows_inhabited forms ≡ true
table_inhabited = refl

abbrev try_of : Form → Rex → Try
try_of f r = record { form = f; rex = r }

-- ---- rows of the table

all_inhabited_at : (fs : List Form) (f : Form) (r : Rex) → all_rows_inhabited fs ≡ true → Member (record { form = f; rex = r }) (tries_of fs) → all_inhabited (places f r) ≡ true
all_inhabited_at [] f r s m = absurd m
all_inhabited_at (g ∷ fs) f r s m =
    let a = and_parts _ _ s in
    let b = and_parts _ _ a.0 in
    let c = and_parts _ _ b.1 in
    elim m [
      | inl e ↦ at NoRex e b.0
      | inr (inl e) ↦ at ClearRex e c.0
      | inr (inr (inl e)) ↦ at SetRex e c.1
      | inr (inr (inr m)) ↦ all_inhabited_at fs f r a.1 m
    ]
  where
    at : (k : Rex) → (let x : Try = record { form = f; rex = r } in x) ≡ record { form = g; rex = k } → all_inhabited (places g k) ≡ true → all_inhabited (places f r) ≡ true
    at k e h = ap (λ (t : Try). all_inhabited (places t.form t.rex)) e ∙ h

member_of : (fs : List Form) (f : Form) (r : Rex) → Contains fs f → Member (record { form = f; rex = r }) (tries_of fs)
member_of [] f r c = omega arith
member_of (g ∷ fs) f r c = go (λ d. member_of fs f r d) c.0 c.1 c.2
  where
    here : (r : Rex) → g ≡ f → Member (record { form = f; rex = r }) (tries_of (g ∷ fs))
    here NoRex e = inl (ap (λ (k : Form). try_of k NoRex) (sym e))
    here ClearRex e = inr (inl (ap (λ (k : Form). try_of k ClearRex) (sym e)))
    here SetRex e = inr (inr (inl (ap (λ (k : Form). try_of k SetRex) (sym e))))

    go : (Contains fs f → Member (record { form = f; rex = r }) (tries_of fs)) → (k : ℕ) → k < length (g ∷ fs) → slice_index_or (g ∷ fs) k f ≡ f → Member (record { form = f; rex = r }) (tries_of (g ∷ fs))
    go ih zero l e = here r e
    go ih (suc k) l e = inr (inr (inr (ih (k, omega arith, e))))

contains_of : (fs : List Form) (h : Try) → Member h (tries_of fs) → Contains fs h.form
contains_of [] h m = absurd m
contains_of (g ∷ fs) h m =
    elim m [
      | inl e ↦ here (ap (λ (t : Try). t.form) e)
      | inr (inl e) ↦ here (ap (λ (t : Try). t.form) e)
      | inr (inr (inl e)) ↦ here (ap (λ (t : Try). t.form) e)
      | inr (inr (inr m)) ↦ let c = contains_of fs h m in (suc c.0, omega (arith, c.1), c.2)
    ]
  where
    here : h.form ≡ g → Contains (g ∷ fs) h.form
    here e = (zero, omega arith, sym e)

append_nil : (xs : List ℕ) → xs ++ [] ≡ xs
append_nil [] = refl
append_nil (x ∷ xs) = ap (λ (k : List ℕ). x ∷ k) (append_nil xs)

-- ---- what the rows answer

abbrev Answer : Type 0
Answer = Result (Instr × List ℕ) Miss

abbrev read_as : Instr → List ℕ → Answer
read_as i rest = Ok (i, rest)

exact_try : (h : Try) → Member h (tries_of forms) → Exact (read_at h.form h.rex) (ReadBy h.form h.rex)
exact_try h m = exact_read h.form h.rex (all_inhabited_at forms h.form h.rex table_inhabited m)

-- an attempt that isn't Differs is by an allowed REX
allowed_if : (h : Try) (bytes : List ℕ) (r : Answer) → r ≢ Err Differs → attempt h bytes ≡ r → (allows h.form.wide h.rex ≡ true) × (read_at h.form h.rex bytes ≡ r)
unfolding form_at
allowed_if h bytes r known e = go (allows h.form.wide h.rex) refl e
  where
    go : (t : Bool) → allows h.form.wide h.rex ≡ t → cond t (read_at h.form h.rex bytes) (Err Differs) ≡ r → (allows h.form.wide h.rex ≡ true) × (read_at h.form h.rex bytes ≡ r)
    go true a e = (a, e)
    go false a e = absurd (known (sym e))

attempt_is : (h : Try) (bytes : List ℕ) → allows h.form.wide h.rex ≡ true → attempt h bytes ≡ read_at h.form h.rex bytes
unfolding form_at
attempt_is h bytes a = rw a refl

-- what is read is spelled so
pub found : (bytes rest : List ℕ) (i : Instr) → IsBytes bytes → any_at forms bytes ≡ Ok (i, rest) → Took Spells bytes rest i
found bytes rest i fits e =
    let f = tries_found (tries_of forms) bytes (read_as i rest) (λ x. absurd cc) (sym (any_is forms bytes) ∙ e) in
    let a = allowed_if f.try bytes (read_as i rest) (λ x. absurd cc) f.says in
    let t = (exact_try f.try f.member).sound bytes rest i fits a.1 in
    record { front = t.front; whole = t.whole; means = record { form = f.try.form; listed = contains_of forms f.try f.member; spelled = spelled_by f.try.form f.try.rex t.front i a.0 t.means } }

-- what is spelled so is read, whatever follows
pub only : (front rest : List ℕ) (i : Instr) → Spells front i → any_at forms (front ++ rest) ≡ Ok (i, rest)
only front rest i s =
    let h = try_of s.form s.spelled.rex in
    let m = member_of forms s.form s.spelled.rex s.listed in
    let c = (exact_try h m).complete front rest i (read_by s.form front i s.spelled) in
    any_is forms (front ++ rest) ∙ tries_ok (tries_of forms) (front ++ rest) h (i, rest) table_apart m (attempt_is h (front ++ rest) s.spelled.allowed ∙ c)

pub short_part : (bytes : List ℕ) → IsBytes bytes → any_at forms bytes ≡ Err Ends → IsPart bytes
short_part bytes fits e =
    let r : Answer = Err Ends in
    let f = tries_found (tries_of forms) bytes r (λ x. absurd cc) (sym (any_is forms bytes) ∙ e) in
    let a = allowed_if f.try bytes r (λ x. absurd cc) f.says in
    let g = (exact_try f.try f.member).ends bytes fits a.1 in
    record { more = g.more; some_more = g.some_more; instr = g.value; spelled = record { form = f.try.form; listed = contains_of forms f.try f.member; spelled = spelled_by f.try.form f.try.rex (bytes ++ g.more) g.value a.0 g.means } }

-- no row that can't read the bytes reads more of them
unknown_stays : (bytes more : List ℕ) (i : Instr) → IsBytes bytes → any_at forms bytes ≡ Err Differs → Spells (bytes ++ more) i → ⊥
unknown_stays bytes more i fits e s =
    let h = try_of s.form s.spelled.rex in
    let m = member_of forms s.form s.spelled.rex s.listed in
    let u = tries_unknown (tries_of forms) bytes (sym (any_is forms bytes) ∙ e) h m in
    let v = (exact_try h m).differs bytes more fits (sym (attempt_is h bytes s.spelled.allowed) ∙ u) in
    let c = (exact_try h m).complete (bytes ++ more) [] i (read_by s.form (bytes ++ more) i s.spelled) in
    let d : read_at h.form h.rex (bytes ++ more) ≡ Ok (i, []) = ap (read_at h.form h.rex) (sym (append_nil (bytes ++ more))) ∙ c in
    absurd (apart (sym v ∙ d))
  where
    apart : (let r : Answer = Err Differs in r) ≡ Ok (i, []) → ⊥
    apart e = cc

-- ---- the answer

begins_of : (bytes rest : List ℕ) (i : Instr) → IsBytes bytes → any_at forms bytes ≡ Ok (i, rest) → Begins bytes i (length bytes - length rest)
begins_of bytes rest i fits e =
    let t = found bytes rest i fits e in
    let len : length bytes ≡ length t.front + length rest = ap length t.whole ∙ length-append t.front rest in
    let n : length t.front ≡ length bytes - length rest = omega (arith, len) in
    let front : t.front ≡ take (length bytes - length rest) bytes = sym (ap (take (length bytes - length rest)) t.whole ∙ take_at t.front rest (length bytes - length rest) n) in
    record { within = omega arith; spelled = subst (λ (k : List ℕ). Spells k i) front t.means }

begun : (bytes : List ℕ) (i : Instr) (len : ℕ) → Begins bytes i len → any_at forms bytes ≡ Ok (i, drop len bytes)
begun bytes i len b = ap (any_at forms) (sym (take-append-drop len bytes)) ∙ only (take len bytes) (drop len bytes) i b.spelled

part_is_short : (bytes : List ℕ) → IsBytes bytes → IsPart bytes → any_at forms bytes ≡ Err Ends
part_is_short bytes fits p = go (any_at forms bytes) refl
  where
    whole : any_at forms (bytes ++ p.more) ≡ Ok (p.instr, [])
    whole = ap (any_at forms) (sym (append_nil (bytes ++ p.more))) ∙ only (bytes ++ p.more) [] p.instr p.spelled

    go : (r : Answer) → any_at forms bytes ≡ r → any_at forms bytes ≡ Err Ends
    go (Ok x) e =
        let t = found bytes x.1 x.0 fits e in
        let again : any_at forms (bytes ++ p.more) ≡ Ok (x.0, x.1 ++ p.more) = ap (λ (k : List ℕ). any_at forms (k ++ p.more)) t.whole ∙ ap (any_at forms) (append_assoc t.front x.1 p.more) ∙
        only t.front (x.1 ++ p.more) x.0 t.means in
        let rest : x.1 ++ p.more ≡ [] = (pair_same x.0 p.instr (x.1 ++ p.more) [] (sym again ∙ whole)).1 in
        absurd (p.some_more (no_more x.1 p.more rest))
      where
        no_more : (xs ys : List ℕ) → xs ++ ys ≡ [] → ys ≡ []
        no_more [] ys e = e
        no_more (x ∷ xs) ys e = absurd cc
    go (Err Ends) e = e
    go (Err Differs) e = absurd (unknown_stays bytes p.more p.instr fits e p.spelled)

-- each answer comes exactly where the table says
pub decoded_answers : (bytes : List ℕ) → IsBytes bytes → IsAnswer bytes (decoded bytes)
unfolding decoded
decoded_answers bytes fits = record {
  read = λ i len. (λ e. to_ok i len (any_at forms bytes) refl e, λ b. ap (decoding_of (length bytes)) (begun bytes i len b) ∙ ap (Read i) (omega (arith, length-drop len bytes, b.within)));
  short = (λ e. to_short (any_at forms bytes) refl e, λ p. ap (decoding_of (length bytes)) (part_is_short bytes fits p));
  unknown = (λ e. (λ i len b. absurd (not_ok i (drop len bytes) e (begun bytes i len b)), λ p. absurd (not_short e (part_is_short bytes fits p))), λ h. to_unknown h (any_at forms bytes) refl);
}
  where
    to_ok : (i : Instr) (len : ℕ) (r : Answer) → any_at forms bytes ≡ r → decoding_of (length bytes) r ≡ Read i len → Begins bytes i len
    to_ok i len (Ok x) a e =
        let same : x.0 ≡ i = cc in
        let n : length bytes - length x.1 ≡ len = cc in
        subst (λ (k : ℕ). Begins bytes i k) n (subst (λ (k : Instr). Begins bytes k (length bytes - length x.1)) same (begins_of bytes x.1 x.0 fits a))
    to_ok i len (Err Ends) a e = absurd cc
    to_ok i len (Err Differs) a e = absurd cc

    to_short : (r : Answer) → any_at forms bytes ≡ r → decoding_of (length bytes) r ≡ Short → IsPart bytes
    to_short (Ok x) a e = absurd cc
    to_short (Err Ends) a e = short_part bytes fits a
    to_short (Err Differs) a e = absurd cc

    not_ok : (i : Instr) (rest : List ℕ) → decoding_of (length bytes) (any_at forms bytes) ≡ Unknown → any_at forms bytes ≡ Ok (i, rest) → ⊥
    not_ok i rest e h = differ (sym (ap (decoding_of (length bytes)) h) ∙ e)
      where
        differ : Read i (length bytes - length rest) ≡ Unknown → ⊥
        differ e = cc

    not_short : decoding_of (length bytes) (any_at forms bytes) ≡ Unknown → any_at forms bytes ≡ Err Ends → ⊥
    not_short e h = differ (sym (ap (decoding_of (length bytes)) h) ∙ e)
      where
        differ : Short ≡ Unknown → ⊥
        differ e = cc

    to_unknown : (((i : Instr) (len : ℕ) → ¬ Begins bytes i len) × ¬ IsPart bytes) → (r : Answer) → any_at forms bytes ≡ r → decoding_of (length bytes) (any_at forms bytes) ≡ Unknown
    to_unknown h (Ok x) a = absurd (h.0 x.0 (length bytes - length x.1) (begins_of bytes x.1 x.0 fits a))
    to_unknown h (Err Ends) a = absurd (h.1 (short_part bytes fits a))
    to_unknown h (Err Differs) a = ap (decoding_of (length bytes)) a

-- what is spelled is decoded, whatever follows
pub decoded_spelling : (front rest : List ℕ) (i : Instr) → Spells front i → decoded (front ++ rest) ≡ Read i (length front)
unfolding decoded
decoded_spelling front rest i s = ap (decoding_of (length (front ++ rest))) (only front rest i s) ∙ ap (Read i) (omega (arith, length-append front rest))

-- no spelling is longer than 12 bytes
pub spelling_short : (bytes : List ℕ) (i : Instr) → Spells bytes i → length bytes ≤ 12
spelling_short bytes i s =
    let l = forms_length (bytes ++ []) (i, []) (only bytes [] i s) in
    omega (arith, l.small, length-append bytes [])

-- so the bytes end within a spelling only below 12
pub part_short : (bytes : List ℕ) → IsPart bytes → length bytes < 12
part_short bytes p = omega (arith, spelling_short (bytes ++ p.more) p.instr p.spelled, length-append bytes p.more, some p.more p.some_more)
  where
    some : (xs : List ℕ) → xs ≢ [] → 0 < length xs
    some [] h = absurd (h refl)
    some (x ∷ xs) h = omega arith

pub is_bytes : (bytes : List ℕ) → ((i : ℕ) → get_or bytes i 0 < 256) → IsBytes bytes
is_bytes [] h = tt
is_bytes (b ∷ bytes) h = (h zero, is_bytes bytes (λ i. h (suc i)))
