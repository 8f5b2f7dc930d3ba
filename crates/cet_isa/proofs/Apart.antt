-- One row after another: at most one row reads the bytes, since any two rows differ at some byte. Source: own.
use Rattle.std.proofs.Common.{◌≡◌, ◌≢◌, ℕ, ◌<◌, ◌≤◌, Bool, true, false, not, ◌&&◌, ◌||◌, cond, eqb, ltb, List, [], ◌∷◌, Option}
use Rattle.std.proofs.Common.{Some, None, Result, Ok, Err, refl, sym, ap, subst, ◌∙◌, ◌⊎◌, inl, inr, arith}
use Rattle.std.specs.Prelude.{bit_and, nat_le}
use Rattle.std.proofs.lemmas.Bool.{or_cases, and_parts, leb-true, eqb-true, ltb-true, not-true, false≢true, eq-eqb}
use Rattle.std.proofs.lemmas.Nat.{and_assoc, and_comm, and_le_l}
use Rattle.cet_isa.specs.declared.instructions.Instr.{Instr}
use Rattle.cet_isa.specs.Form.{Pattern, Rex, NoRex, ClearRex, SetRex, Form}
use Rattle.cet_isa.specs.Spells.{has, allows, places}
use Rattle.cet_isa.specs.Reader.{Miss, Ends, Differs, ◌>>=◌, or_else}
use Rattle.cet_isa.proofs.ReaderLaws.{bind_ok}
use Rattle.cet_isa.specs.Reading.{byte_at, cells_at, read_at, form_at, row_at, any_at}
use Rattle.cet_isa.proofs.ReadingLaws.{filled_places}

-- ---- two patterns with no byte in common

abbrev pub clash : Pattern → Pattern → Bool
clash p q = not (eqb (bit_and p.value q.mask) (bit_and q.value p.mask)) || (nat_le q.below p.value || nat_le p.below q.value)

pub has_parts : (p : Pattern) (b : ℕ) → has p b ≡ true → (bit_and b p.mask ≡ p.value) × (b < p.below)
has_parts p b h = let a = and_parts (eqb (bit_and b p.mask) p.value) (ltb b p.below) h in (eqb-true _ _ a.0, ltb-true _ _ a.1)

-- no byte is in both
pub clash_apart : (p q : Pattern) (b : ℕ) → clash p q ≡ true → has p b ≡ true → has q b ≡ true → ⊥
clash_apart p q b c hp hq =
    let fp = has_parts p b hp in
    let fq = has_parts q b hq in
    let low_p : p.value ≤ b = subst (λ (k : ℕ). k ≤ b) fp.0 (and_le_l b p.mask) in
    let low_q : q.value ≤ b = subst (λ (k : ℕ). k ≤ b) fq.0 (and_le_l b q.mask) in
    let same : bit_and p.value q.mask ≡ bit_and q.value p.mask =
    ap (λ (k : ℕ). bit_and k q.mask) (sym fp.0) ∙ and_assoc q.mask b p.mask ∙ ap (bit_and b) (and_comm p.mask q.mask) ∙ sym (and_assoc p.mask b q.mask) ∙ ap (λ (k : ℕ). bit_and k p.mask) fq.0 in
    elim (or_cases (not (eqb (bit_and p.value q.mask) (bit_and q.value p.mask))) (nat_le q.below p.value || nat_le p.below q.value) c) [
      | inl e ↦ false≢true (sym (not-true _ e) ∙ eq-eqb _ _ same)
      | inr e ↦ elim (or_cases (nat_le q.below p.value) (nat_le p.below q.value) e) [
        | inl f ↦ omega (arith, leb-true q.below p.value f, fq.1, low_p)
        | inr f ↦ omega (arith, leb-true p.below q.value f, fp.1, low_q)
      ]
    ]

-- ---- two rows with a clash at some byte

abbrev pub conflict : List Pattern → List Pattern → Bool
conflict [] qs = false
conflict (p ∷ ps) [] = false
conflict (p ∷ ps) (q ∷ qs) = clash p q || conflict ps qs

-- the patterns alone, with no cells
unfoldable pub run : List Pattern → List ℕ → Result (List ℕ) Miss
run [] bytes = Ok bytes
run (p ∷ ps) [] = Err Ends
run (p ∷ ps) (b ∷ bytes) = cond (has p b) (run ps bytes) (Err Differs)

rest_of : Result (List ℕ × List ℕ) Miss → Result (List ℕ) Miss
rest_of (Ok x) = Ok x.1
rest_of (Err m) = Err m

run_is : (os : List (Option Pattern)) (bytes : List ℕ) → run (filled_places os) bytes ≡ rest_of (cells_at os bytes)
unfolding run rest_of cells_at byte_at
run_is [] bytes = refl
run_is (None ∷ os) bytes = run_is os bytes ∙ kept (cells_at os bytes)
  where
    kept : (r : Result (List ℕ × List ℕ) Miss) → rest_of r ≡ rest_of (r >>= (λ x. Ok (0 ∷ x.0, x.1)))
    kept (Ok x) = refl
    kept (Err m) = refl
run_is (Some p ∷ os) [] = refl
run_is (Some p ∷ os) (b ∷ bytes) = go (has p b) (run_is os bytes)
  where
    kept : (r : Result (List ℕ × List ℕ) Miss) → rest_of r ≡ rest_of (r >>= (λ x. Ok (b ∷ x.0, x.1)))
    kept (Ok x) = refl
    kept (Err m) = refl

    go : (t : Bool) → run (filled_places os) bytes ≡ rest_of (cells_at os bytes) → cond t (run (filled_places os) bytes) (Err Differs) ≡ rest_of
        ((let r : Result (ℕ × List ℕ) Miss = cond t (Ok (b, bytes)) (Err Differs) in r) >>= (λ x. cells_at os x.1 >>= (λ y. Ok (x.0 ∷ y.0, y.1))))
    go true ih = ih ∙ kept (cells_at os bytes)
    go false ih = refl

run_apart : (ps qs : List Pattern) (bytes rest : List ℕ) → conflict ps qs ≡ true → run ps bytes ≡ Ok rest → run qs bytes ≡ Err Differs
unfolding run
run_apart [] qs bytes rest c e = absurd cc
run_apart (p ∷ ps) [] bytes rest c e = absurd cc
run_apart (p ∷ ps) (q ∷ qs) [] rest c e = absurd cc
run_apart (p ∷ ps) (q ∷ qs) (b ∷ bytes) rest c e = go (λ d f. run_apart ps qs bytes rest d f) (has p b) (has q b) refl refl e
  where
    go : (conflict ps qs ≡ true → run ps bytes ≡ Ok rest → run qs bytes ≡ Err Differs) → (t u : Bool) → has p b ≡ t → has q b ≡ u → cond t (run ps bytes) (Err Differs) ≡ Ok rest →
        cond u (run qs bytes) (Err Differs) ≡ Err Differs
    go ih false u hp hq e = absurd cc
    go ih true false hp hq e = refl
    go ih true true hp hq e =
        elim (or_cases (clash p q) (conflict ps qs) c) [
          | inl d ↦ absurd (clash_apart p q b d hp hq)
          | inr d ↦ ih d e
        ]

-- ---- the rows one after another

pub record Try : Type 0 where
  pub form : Form
  pub rex : Rex

abbrev pub attempt : Try → List ℕ → Result (Instr × List ℕ) Miss
attempt h bytes = form_at h.form h.rex bytes

abbrev pub tries_of : List Form → List Try
tries_of [] = []
tries_of (f ∷ fs) = record { form = f; rex = NoRex } ∷ record { form = f; rex = ClearRex } ∷ record { form = f; rex = SetRex } ∷ tries_of fs

pub tries : List Try → List ℕ → Result (Instr × List ℕ) Miss
tries [] bytes = Err Differs
tries (h ∷ hs) bytes = or_else (attempt h bytes) (tries hs bytes)

pub or_else-assoc : {A : Type 0} (a b c : Result A Miss) → or_else (or_else a b) c ≡ or_else a (or_else b c)
or_else-assoc (Ok x) b c = refl
or_else-assoc (Err Ends) (Ok x) c = refl
or_else-assoc (Err Differs) (Ok x) c = refl
or_else-assoc (Err Ends) (Err Ends) (Ok x) = refl
or_else-assoc (Err Ends) (Err Differs) (Ok x) = refl
or_else-assoc (Err Differs) (Err Ends) (Ok x) = refl
or_else-assoc (Err Differs) (Err Differs) (Ok x) = refl
or_else-assoc (Err Ends) (Err Ends) (Err m) = refl
or_else-assoc (Err Ends) (Err Differs) (Err m) = refl
or_else-assoc (Err Differs) (Err Ends) (Err m) = refl
or_else-assoc (Err Differs) (Err Differs) (Err m) = refl

pub any_is : (fs : List Form) (bytes : List ℕ) → any_at fs bytes ≡ tries (tries_of fs) bytes
unfolding any_at row_at tries
any_is [] bytes = refl
any_is (f ∷ fs) bytes =
    let a = form_at f NoRex bytes in
    let b = form_at f ClearRex bytes in
    let c = form_at f SetRex bytes in
    ap (or_else (or_else (or_else a b) c)) (any_is fs bytes) ∙ or_else-assoc (or_else a b) c (tries (tries_of fs) bytes) ∙ or_else-assoc a b (or_else c (tries (tries_of fs) bytes))

abbrev pub Member : Try → List Try → Type 0
Member h [] = ⊥
Member h (x ∷ xs) = (h ≡ x) ⊎ Member h xs

-- two tries that read no bytes both
abbrev pub apart : Try → Try → Bool
apart g h = not (allows g.form.wide g.rex) || (not (allows h.form.wide h.rex) || conflict (filled_places (places g.form g.rex)) (filled_places (places h.form h.rex)))

abbrev pub apart_from : Try → List Try → Bool
apart_from g [] = true
apart_from g (h ∷ hs) = (apart g h && apart h g) && apart_from g hs

abbrev pub all_apart : List Try → Bool
all_apart [] = true
all_apart (h ∷ hs) = apart_from h hs && all_apart hs

-- ---- the laws of trying

pub record Found (hs : List Try) (bytes : List ℕ) (r : Result (Instr × List ℕ) Miss) : Type 0 where
  pub try : Try
  pub member : Member try hs
  pub says : attempt try bytes ≡ r

-- an answer other than Differs is that of some row
pub tries_found : (hs : List Try) (bytes : List ℕ) (r : Result (Instr × List ℕ) Miss) → r ≢ Err Differs → tries hs bytes ≡ r → Found hs bytes r
unfolding tries
tries_found [] bytes r known e = absurd (known (sym e))
tries_found (h ∷ hs) bytes r known e = go (attempt h bytes) (tries hs bytes) refl refl (λ f. tries_found hs bytes r known f) e
  where
    later : Found hs bytes r → Found (h ∷ hs) bytes r
    later f = record { try = f.try; member = inr f.member; says = f.says }

    here : attempt h bytes ≡ r → Found (h ∷ hs) bytes r
    here e = record { try = h; member = inl refl; says = e }

    go : (a b : Result (Instr × List ℕ) Miss) → attempt h bytes ≡ a → tries hs bytes ≡ b → (tries hs bytes ≡ r → Found hs bytes r) → or_else a b ≡ r → Found (h ∷ hs) bytes r
    go (Ok x) b ea eb ih e = here (ea ∙ e)
    go (Err Ends) (Ok x) ea eb ih e = later (ih (eb ∙ e))
    go (Err Differs) (Ok x) ea eb ih e = later (ih (eb ∙ e))
    go (Err Ends) (Err m) ea eb ih e = here (ea ∙ e)
    go (Err Differs) (Err m) ea eb ih e = later (ih (eb ∙ e))

-- where all differ, each does
pub tries_unknown : (hs : List Try) (bytes : List ℕ) → tries hs bytes ≡ Err Differs → (h : Try) → Member h hs → attempt h bytes ≡ Err Differs
unfolding tries
tries_unknown [] bytes e h m = absurd m
tries_unknown (g ∷ hs) bytes e h m =
    let both = parts (attempt g bytes) (tries hs bytes) e in
    elim m [
      | inl same ↦ ap (λ (k : Try). attempt k bytes) same ∙ both.0
      | inr m ↦ tries_unknown hs bytes both.1 h m
    ]
  where
    parts : (a b : Result (Instr × List ℕ) Miss) → or_else a b ≡ Err Differs → (a ≡ Err Differs) × (b ≡ Err Differs)
    parts (Ok x) b e = absurd cc
    parts (Err Ends) (Ok x) e = absurd cc
    parts (Err Differs) (Ok x) e = absurd cc
    parts (Err Ends) (Err m) e = absurd cc
    parts (Err Differs) (Err m) e = (refl, e)

bind_miss : {A B : Type 0} (r : Result A Miss) (f : A → Result B Miss) (m : Miss) → r ≡ Err m → (r >>= f) ≡ Err m
bind_miss (Ok x) f m e = absurd cc
bind_miss (Err d) f m e = cc

lost : (r : Result (List ℕ × List ℕ) Miss) → rest_of r ≡ Err Differs → r ≡ Err Differs
unfolding rest_of
lost (Ok x) e = absurd cc
lost (Err m) e = cc

cells_apart : (ps qs : List (Option Pattern)) (bytes : List ℕ) (r : List ℕ × List ℕ) → conflict (filled_places ps) (filled_places qs) ≡ true → cells_at ps bytes ≡ Ok r → cells_at qs bytes ≡ Err Differs
unfolding rest_of
cells_apart ps qs bytes r c e = lost (cells_at qs bytes) (sym (run_is qs bytes) ∙ run_apart (filled_places ps) (filled_places qs) bytes r.1 c (run_is ps bytes ∙ ap rest_of e))

read_apart : (f g : Form) (r s : Rex) (bytes : List ℕ) (x : Instr × List ℕ) → conflict (filled_places (places f r)) (filled_places (places g s)) ≡ true → read_at f r bytes ≡ Ok x → read_at g s bytes ≡ Err Differs
unfolding read_at
read_apart f g r s bytes x c e =
    let b = bind_ok (cells_at (places f r) bytes) _ x e in
    bind_miss (cells_at (places g s) bytes) _ Differs (cells_apart (places f r) (places g s) bytes b.0 c b.1)

-- what begins by these patterns is not read by a row that conflicts with them
pub chain_apart : (chain : List Pattern) (g : Form) (s : Rex) (bytes rest : List ℕ) → conflict chain (filled_places (places g s)) ≡ true → run chain bytes ≡ Ok rest → read_at g s bytes ≡ Err Differs
unfolding read_at
chain_apart chain g s bytes rest c e = bind_miss (cells_at (places g s) bytes) _ Differs (lost (cells_at (places g s) bytes) (sym (run_is (places g s) bytes) ∙ run_apart chain (filled_places (places g s)) bytes rest c e))

-- a row that reads the bytes leaves none to another
pub attempt_apart : (g h : Try) (bytes : List ℕ) (x : Instr × List ℕ) → apart g h ≡ true → attempt g bytes ≡ Ok x → attempt h bytes ≡ Err Differs
unfolding form_at
attempt_apart g h bytes x c e = go (allows g.form.wide g.rex) (allows h.form.wide h.rex) c e
  where
    go : (t u : Bool) → (not t || (not u || conflict (filled_places (places g.form g.rex)) (filled_places (places h.form h.rex)))) ≡ true → cond t (read_at g.form g.rex bytes) (Err Differs) ≡ Ok x →
        cond u (read_at h.form h.rex bytes) (Err Differs) ≡ Err Differs
    go false u c e = absurd cc
    go true false c e = refl
    go true true c e = read_apart g.form h.form g.rex h.rex bytes x c e

-- a row that reads the bytes gives the answer
pub tries_ok : (hs : List Try) (bytes : List ℕ) (h : Try) (x : Instr × List ℕ) → all_apart hs ≡ true → Member h hs → attempt h bytes ≡ Ok x → tries hs bytes ≡ Ok x
unfolding tries
tries_ok [] bytes h x c m e = absurd m
tries_ok (g ∷ hs) bytes h x c m e =
    let cs = and_parts (apart_from g hs) (all_apart hs) c in
    elim m [
      | inl same ↦ ap (λ (r : Result (Instr × List ℕ) Miss). or_else r (tries hs bytes)) (ap (λ (k : Try). attempt k bytes) (sym same) ∙ e)
      | inr m ↦
          let first' : attempt g bytes ≡ Err Differs = attempt_apart h g bytes x (from hs cs.0 m) e in
          ap (λ (r : Result (Instr × List ℕ) Miss). or_else r (tries hs bytes)) first' ∙ ap (or_else (Err Differs)) (tries_ok hs bytes h x cs.1 m e)
    ]
  where
    from : (ks : List Try) → apart_from g ks ≡ true → Member h ks → apart h g ≡ true
    from [] c m = absurd m
    from (k ∷ ks) c m =
        let a = and_parts (apart g k && apart k g) (apart_from g ks) c in
        let b = and_parts (apart g k) (apart k g) a.0 in
        elim m [
          | inl same ↦ ap (λ (t : Try). apart t g) same ∙ b.1
          | inr m ↦ from ks a.1 m
        ]
