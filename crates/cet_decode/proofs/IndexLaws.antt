-- The maps and tables name for each opcode, behind a prefix or none, the rows that may begin so.
use Rattle.std.proofs.Common.{◌≡◌, ℕ, ◌/◌, ◌<◌, Bool, true, false, ◌&&◌, ◌||◌, cond, eqb, List, [], ◌∷◌, Option, Some, None, Ok, Err, refl, sym, ap, subst, ◌∙◌, arith, inl, inr}
use Rattle.std.proofs.lemmas.Bool.{agree_below, agree_below_at, and_parts, or_cases, eq-eqb, eqb-true}
use Rattle.cet_isa.specs.Form.{Pattern, NoRex, ClearRex, SetRex, byte}
use Rattle.cet_isa.specs.Forms.{forms}
use Rattle.cet_isa.specs.Spells.{has}
use Rattle.cet_isa.specs.Reader.{Differs, IsBytes}
use Rattle.cet_isa.specs.Reading.{any_at}
use Rattle.cet_isa.proofs.Apart.{run}
use Rattle.cet_decode.specs.declared.forms.TheConstants.{FORMS}
use Rattle.cet_decode.specs.declared.maps.TheConstants.{LONG_PREFIXED}
use Rattle.cet_decode.specs.Index.{some_at}
use Rattle.cet_decode.specs.Lead.{LeadData, lead, is_prefix, is_longer, behind_escape, behind_rex, behind_prefix, behind_one, lead_at, has_long_prefix, numbers_by}
use Rattle.cet_decode.proofs.Narrowing.{names_all, by_numbers}
use Rattle.cet_decode.proofs.LeadLaws.{chosen_at, clear_rex, set_rex, prefixed, escaped_by, fits_all, led_is, led_at, all_apart, chosen_is}

-- ---- what is tested of the tables, by computation

abbrev any_rex : Pattern
any_rex = record { mask = 0xf0; value = 0x40; below = 256 }

-- the opcode, behind 0f or not
abbrev chain : Bool → ℕ → List Pattern
chain false opcode = byte opcode ∷ []
chain true opcode = byte 0x0f ∷ byte opcode ∷ []

-- behind a prefix, or none
abbrev behind : Option ℕ → List Pattern → List Pattern
behind None patterns = patterns
behind (Some prefix) patterns = byte prefix ∷ patterns

-- bytes of prefixes, which are no opcode: the first one, and a second one behind it
abbrev stops : Option ℕ → ℕ → Bool
stops None b = is_prefix b
stops (Some prefix) b = is_longer b

-- bytes that are no opcode: 0f, and where no REX stands before them also REX and prefixes
abbrev no_opcode : Bool → ℕ → Bool
no_opcode false b = eqb b 0x0f
no_opcode true b = false

abbrev no_opcode_here : Option ℕ → Bool → ℕ → Bool
no_opcode_here prefix false b = stops prefix b || (eqb (b / 16) 4 || eqb b 0x0f)
no_opcode_here prefix true b = false

abbrev names_plain : Option ℕ → Bool → ℕ → Bool
names_plain prefix escaped b = no_opcode_here prefix escaped b || names_all (behind prefix (chain escaped b)) 0 FORMS (numbers_by prefix escaped b)

abbrev names_rexed : Option ℕ → Bool → ℕ → Bool
names_rexed prefix escaped b = no_opcode escaped b || names_all (behind prefix (any_rex ∷ chain escaped b)) 0 FORMS (numbers_by prefix escaped b)

abbrev names_both : Option ℕ → Bool → ℕ → Bool
names_both prefix escaped b = names_plain prefix escaped b && names_rexed prefix escaped b

abbrev fits_plain : Option ℕ → Bool → ℕ → Bool
fits_plain prefix escaped b = fits_all (behind prefix (chain escaped b)) prefix NoRex escaped b FORMS (numbers_by prefix escaped b)

abbrev fits_clear : Option ℕ → Bool → ℕ → Bool
fits_clear prefix escaped b = fits_all (behind prefix (clear_rex ∷ chain escaped b)) prefix ClearRex escaped b FORMS (numbers_by prefix escaped b)

abbrev fits_set : Option ℕ → Bool → ℕ → Bool
fits_set prefix escaped b = fits_all (behind prefix (set_rex ∷ chain escaped b)) prefix SetRex escaped b FORMS (numbers_by prefix escaped b)

abbrev fits_every : Option ℕ → Bool → ℕ → Bool
fits_every prefix escaped b = fits_plain prefix escaped b && (fits_clear prefix escaped b && fits_set prefix escaped b)

abbrev apart_at : Option ℕ → Bool → ℕ → Bool
apart_at prefix escaped b = all_apart FORMS (numbers_by prefix escaped b)

abbrev passes : Option ℕ → Bool → ℕ → Bool
passes prefix escaped b = names_both prefix escaped b && (fits_every prefix escaped b && apart_at prefix escaped b)

-- each opcode behind this prefix passes, alone and behind 0f
all_pass : Option ℕ → Bool
all_pass prefix = agree_below (passes prefix false) (λ _. true) 256 && agree_below (passes prefix true) (λ _. true) 256

pass_plain : all_pass None ≡ true
unfolding all_pass
pass_plain = refl

pass_3e : all_pass (Some 0x3e) ≡ true
unfolding all_pass
pass_3e = refl

pass_66 : all_pass (Some 0x66) ≡ true
unfolding all_pass
pass_66 = refl

pass_f0 : all_pass (Some 0xf0) ≡ true
unfolding all_pass
pass_f0 = refl

pass_f3 : all_pass (Some 0xf3) ≡ true
unfolding all_pass
pass_f3 = refl

long_66 : names_all (byte 0x66 ∷ byte 0x66 ∷ []) 0 FORMS LONG_PREFIXED ≡ true
long_66 = refl

long_2e : names_all (byte 0x66 ∷ byte 0x2e ∷ []) 0 FORMS LONG_PREFIXED ≡ true
long_2e = refl

-- ---- the tests at one opcode

-- none, or a prefix of the table
abbrev Known : Option ℕ → Type 0
Known None = Unit {0}
Known (Some prefix) = (prefix < 256) × (is_prefix prefix ≡ true)

pass_prefix : (prefix : Option ℕ) → Known prefix → all_pass prefix ≡ true
pass_prefix None known = pass_plain
pass_prefix (Some b) known =
    elim (or_cases (eqb b 0x3e) _ known.1) [
      | inl h ↦ at 0x3e (eqb-true b 0x3e h) pass_3e
      | inr h ↦ elim (or_cases (eqb b 0x66) _ h) [
        | inl h ↦ at 0x66 (eqb-true b 0x66 h) pass_66
        | inr h ↦ elim (or_cases (eqb b 0xf0) (eqb b 0xf3) h) [
          | inl h ↦ at 0xf0 (eqb-true b 0xf0 h) pass_f0
          | inr h ↦ at 0xf3 (eqb-true b 0xf3 h) pass_f3
        ]
      ]
    ]
  where
    at : (k : ℕ) → b ≡ k → all_pass (Some k) ≡ true → all_pass (Some b) ≡ true
    at k same passed = subst (λ (k : ℕ). all_pass (Some k) ≡ true) (sym same) passed

passes_at : (prefix : Option ℕ) (escaped : Bool) (b : ℕ) → Known prefix → b < 256 → passes prefix escaped b ≡ true
unfolding all_pass
passes_at prefix false b known l = agree_below_at (passes prefix false) (λ _. true) 256 b (and_parts (agree_below (passes prefix false) (λ _. true) 256) (agree_below (passes prefix true) (λ _. true) 256) (pass_prefix prefix known)).0 l
passes_at prefix true b known l = agree_below_at (passes prefix true) (λ _. true) 256 b (and_parts (agree_below (passes prefix false) (λ _. true) 256) (agree_below (passes prefix true) (λ _. true) 256) (pass_prefix prefix known)).1 l

record Passed (prefix : Option ℕ) (escaped : Bool) (b : ℕ) : Type 0 where
  plain : names_plain prefix escaped b ≡ true
  rexed : names_rexed prefix escaped b ≡ true
  fits : fits_every prefix escaped b ≡ true
  alone : apart_at prefix escaped b ≡ true

passed : (prefix : Option ℕ) (escaped : Bool) (b : ℕ) → Known prefix → b < 256 → Passed prefix escaped b
passed prefix escaped b known l =
    let a = and_parts (names_both prefix escaped b) (fits_every prefix escaped b && apart_at prefix escaped b) (passes_at prefix escaped b known l) in
    let n = and_parts (names_plain prefix escaped b) (names_rexed prefix escaped b) a.0 in
    let r = and_parts (fits_every prefix escaped b) (apart_at prefix escaped b) a.1 in
    record { plain = n.0; rexed = n.1; fits = r.0; alone = r.1 }

past_or : (t u : Bool) → (t || u) ≡ true → t ≡ false → u ≡ true
past_or true u e h = absurd cc
past_or false u e h = e

-- ---- bytes that begin so

own_byte : (b : ℕ) → b < 256 → has (byte b) b ≡ true
own_byte b l = agree_below_at (λ b. has (byte b) b) (λ _. true) 256 b refl l

run_plain : (escaped : Bool) (b : ℕ) (bytes : List ℕ) → b < 256 → run (chain escaped b) (escaped_by escaped (b ∷ bytes)) ≡ Ok bytes
unfolding run
run_plain false b bytes l = ap (λ (t : Bool). cond t (Ok bytes) (Err Differs)) (own_byte b l)
run_plain true b bytes l = ap (λ (t : Bool). cond t (Ok bytes) (Err Differs)) (own_byte b l)

run_behind : (p : Pattern) (escaped : Bool) (rex b : ℕ) (bytes : List ℕ) → has p rex ≡ true → b < 256 → run (p ∷ chain escaped b) (rex ∷ escaped_by escaped (b ∷ bytes)) ≡ Ok bytes
unfolding run
run_behind p escaped rex b bytes h l = ap (λ (t : Bool). cond t (run (chain escaped b) (escaped_by escaped (b ∷ bytes))) (Err Differs)) h ∙ run_plain escaped b bytes l

run_prefixed : (prefix : Option ℕ) (patterns : List Pattern) (bytes rest : List ℕ) → Known prefix → run patterns bytes ≡ Ok rest → run (behind prefix patterns) (prefixed prefix bytes) ≡ Ok rest
unfolding run
run_prefixed None patterns bytes rest known e = e
run_prefixed (Some b) patterns bytes rest known e = ap (λ (t : Bool). cond t (run patterns bytes) (Err Differs)) (own_byte b known.0) ∙ e

in_rex : (b : ℕ) → b < 256 → b / 16 ≡ 4 → has any_rex b ≡ true
in_rex b l e = agree_below_at (λ b. has any_rex b) (λ b. eqb (b / 16) 4) 256 b refl l ∙ eq-eqb (b / 16) 4 e

clear_or_set : (b : ℕ) → b < 256 → b / 16 ≡ 4 → (has clear_rex b || has set_rex b) ≡ true
clear_or_set b l e = agree_below_at (λ b. has clear_rex b || has set_rex b) (λ b. eqb (b / 16) 4) 256 b refl l ∙ eq-eqb (b / 16) 4 e

-- ---- the rows of an opcode read what all rows read

opcode_plain : (prefix : Option ℕ) (escaped : Bool) (b : ℕ) (bytes : List ℕ) → Known prefix → b < 256 → no_opcode_here prefix escaped b ≡ false →
    chosen_at FORMS (numbers_by prefix escaped b) 0 b bytes ≡ any_at forms (prefixed prefix (escaped_by escaped (b ∷ bytes)))
opcode_plain prefix escaped b bytes known l n =
    let here = behind prefix (chain escaped b) in
    let numbers = numbers_by prefix escaped b in
    let p = passed prefix escaped b known l in
    let whole = prefixed prefix (escaped_by escaped (b ∷ bytes)) in
    let runs = run_prefixed prefix (chain escaped b) (escaped_by escaped (b ∷ bytes)) bytes known (run_plain escaped b bytes l) in
    let fits = and_parts (fits_plain prefix escaped b) (fits_clear prefix escaped b && fits_set prefix escaped b) p.fits in
    sym (chosen_is FORMS numbers 0 b bytes p.alone)
    ∙ sym (led_is here prefix NoRex escaped 0 b bytes bytes FORMS numbers (omega arith) refl runs fits.0)
    ∙ by_numbers here whole bytes FORMS 0 FORMS numbers refl (past_or (no_opcode_here prefix escaped b) _ p.plain n) runs

opcode_rexed : (prefix : Option ℕ) (escaped : Bool) (rex b : ℕ) (bytes : List ℕ) → Known prefix → rex < 256 → rex / 16 ≡ 4 → b < 256 → no_opcode escaped b ≡ false →
    chosen_at FORMS (numbers_by prefix escaped b) rex b bytes ≡ any_at forms (prefixed prefix (rex ∷ escaped_by escaped (b ∷ bytes)))
opcode_rexed prefix escaped rex b bytes known r q l n =
    sym (chosen_is FORMS (numbers_by prefix escaped b) rex b bytes p.alone)
    ∙ sym by_kind
    ∙ by_numbers (behind prefix (any_rex ∷ chain escaped b)) whole bytes FORMS 0 FORMS (numbers_by prefix escaped b) refl (past_or (no_opcode escaped b) _ p.rexed n) (runs any_rex (in_rex rex r q))
  where
    p : Passed prefix escaped b
    p = passed prefix escaped b known l

    whole : List ℕ
    whole = prefixed prefix (rex ∷ escaped_by escaped (b ∷ bytes))

    fits : (fits_clear prefix escaped b ≡ true) × (fits_set prefix escaped b ≡ true)
    fits = and_parts (fits_clear prefix escaped b) (fits_set prefix escaped b) (and_parts (fits_plain prefix escaped b) (fits_clear prefix escaped b && fits_set prefix escaped b) p.fits).1

    runs : (pattern : Pattern) → has pattern rex ≡ true → run (behind prefix (pattern ∷ chain escaped b)) whole ≡ Ok bytes
    runs pattern h = run_prefixed prefix (pattern ∷ chain escaped b) (rex ∷ escaped_by escaped (b ∷ bytes)) bytes known (run_behind pattern escaped rex b bytes h l)

    by_kind : some_at FORMS (numbers_by prefix escaped b) whole ≡ led_at FORMS (numbers_by prefix escaped b) rex b bytes
    by_kind =
        elim (or_cases (has clear_rex rex) (has set_rex rex) (clear_or_set rex r q)) [
          | inl h ↦ led_is (behind prefix (clear_rex ∷ chain escaped b)) prefix ClearRex escaped rex b bytes bytes FORMS (numbers_by prefix escaped b) r h (runs clear_rex h) fits.0
          | inr h ↦ led_is (behind prefix (set_rex ∷ chain escaped b)) prefix SetRex escaped rex b bytes bytes FORMS (numbers_by prefix escaped b) r h (runs set_rex h) fits.1
        ]

-- ---- the lead of bytes

abbrev no_lead : Option LeadData
no_lead = None

neither : {t u : Bool} → t ≡ false → u ≡ false → (t || u) ≡ false
neither {t} {u} h n = ap (λ (k : Bool). k || u) h ∙ n

abbrev Leads : LeadData → List ℕ → Type 0
Leads x bytes = chosen_at FORMS (numbers_by x.prefix x.escaped x.opcode) x.rex x.opcode x.rest ≡ any_at forms bytes

same_lead : (x y : LeadData) (bytes : List ℕ) → Leads x bytes → Some x ≡ Some y → Leads y bytes
same_lead x y bytes here e = let same : x ≡ y = cc in subst (λ (z : LeadData). Leads z bytes) same here

past_rex : (prefix : Option ℕ) (rex : ℕ) (bytes : List ℕ) (x : LeadData) → Known prefix → rex < 256 → rex / 16 ≡ 4 → IsBytes bytes → behind_rex prefix rex bytes ≡ Some x → Leads x (prefixed prefix (rex ∷ bytes))
past_rex prefix rex [] x known r q fits e = absurd cc
past_rex prefix rex (b ∷ bytes) x known r q fits e = go (eqb b 0x0f) refl e
  where
    after : (rest : List ℕ) → IsBytes rest → b ≡ 0x0f → behind_escape prefix rex rest ≡ Some x → Leads x (prefixed prefix (rex ∷ b ∷ rest))
    after [] fits same e = absurd cc
    after (c ∷ rest) fits same e = subst (λ (k : ℕ). Leads x (prefixed prefix (rex ∷ k ∷ c ∷ rest))) (sym same)
        (same_lead (lead prefix rex true c rest) x (prefixed prefix (rex ∷ 0x0f ∷ c ∷ rest)) (opcode_rexed prefix true rex c rest known r q fits.0 refl) e)

    go : (t : Bool) → eqb b 0x0f ≡ t → cond t (behind_escape prefix rex bytes) (Some (lead prefix rex false b bytes)) ≡ Some x → Leads x (prefixed prefix (rex ∷ b ∷ bytes))
    go true h e = after bytes fits.1 (eqb-true b 0x0f h) e
    go false h e = same_lead (lead prefix rex false b bytes) x (prefixed prefix (rex ∷ b ∷ bytes)) (opcode_rexed prefix false rex b bytes known r q fits.0 h) e

past_none : (prefix : Option ℕ) (b : ℕ) (bytes : List ℕ) (x : LeadData) → Known prefix → b < 256 → stops prefix b ≡ false → eqb (b / 16) 4 ≡ false → IsBytes bytes →
    behind_rex prefix 0 (b ∷ bytes) ≡ Some x → Leads x (prefixed prefix (b ∷ bytes))
past_none prefix b bytes x known l n q fits e = go (eqb b 0x0f) refl e
  where
    after : (rest : List ℕ) → IsBytes rest → b ≡ 0x0f → behind_escape prefix 0 rest ≡ Some x → Leads x (prefixed prefix (b ∷ rest))
    after [] fits same e = absurd cc
    after (c ∷ rest) fits same e = subst (λ (k : ℕ). Leads x (prefixed prefix (k ∷ c ∷ rest))) (sym same)
        (same_lead (lead prefix 0 true c rest) x (prefixed prefix (0x0f ∷ c ∷ rest)) (opcode_plain prefix true c rest known fits.0 refl) e)

    go : (t : Bool) → eqb b 0x0f ≡ t → cond t (behind_escape prefix 0 bytes) (Some (lead prefix 0 false b bytes)) ≡ Some x → Leads x (prefixed prefix (b ∷ bytes))
    go true h e = after bytes fits (eqb-true b 0x0f h) e
    go false h e = same_lead (lead prefix 0 false b bytes) x (prefixed prefix (b ∷ bytes)) (opcode_plain prefix false b bytes known l (neither n (neither q h))) e

past_prefix : (prefix : Option ℕ) (b : ℕ) (bytes : List ℕ) (x : LeadData) → Known prefix → stops prefix b ≡ false → IsBytes (b ∷ bytes) → behind_prefix prefix (b ∷ bytes) ≡ Some x →
    Leads x (prefixed prefix (b ∷ bytes))
past_prefix prefix b bytes x known n fits e = go (eqb (b / 16) 4) refl e
  where
    go : (t : Bool) → eqb (b / 16) 4 ≡ t → cond t (behind_rex prefix b bytes) (behind_rex prefix 0 (b ∷ bytes)) ≡ Some x → Leads x (prefixed prefix (b ∷ bytes))
    go true h e = past_rex prefix b bytes x known fits.0 (eqb-true (b / 16) 4 h) fits.1 e
    go false h e = past_none prefix b bytes x known fits.0 n h fits.1 e

past_one : (prefix : ℕ) (bytes : List ℕ) (x : LeadData) → Known (Some prefix) → IsBytes bytes → behind_one prefix bytes ≡ Some x → Leads x (prefix ∷ bytes)
past_one prefix [] x known fits e = absurd cc
past_one prefix (b ∷ bytes) x known fits e = go (is_longer b) refl e
  where
    go : (t : Bool) → is_longer b ≡ t → cond t no_lead (behind_prefix (Some prefix) (b ∷ bytes)) ≡ Some x → Leads x (prefix ∷ b ∷ bytes)
    go true n e = absurd cc
    go false n e = past_prefix (Some prefix) b bytes x known n fits e

-- where an opcode stands behind one prefix, REX and 0f at most, its rows read what all rows read
pub lead_is : (bytes : List ℕ) (x : LeadData) → IsBytes bytes → lead_at bytes ≡ Some x → Leads x bytes
lead_is [] x fits e = absurd cc
lead_is (b ∷ bytes) x fits e = go (is_prefix b) refl e
  where
    go : (t : Bool) → is_prefix b ≡ t → cond t (behind_one b bytes) (behind_prefix None (b ∷ bytes)) ≡ Some x → Leads x (b ∷ bytes)
    go true h e = past_one b bytes x (fits.0, h) fits.1 e
    go false h e = past_prefix None b bytes x tt h fits e

-- ---- more than one prefix

abbrev LongReads : List ℕ → Type 0
LongReads bytes = some_at FORMS LONG_PREFIXED bytes ≡ any_at forms bytes

long_at : (c : ℕ) (bytes : List ℕ) → c < 256 → names_all (byte 0x66 ∷ byte c ∷ []) 0 FORMS LONG_PREFIXED ≡ true → LongReads (0x66 ∷ c ∷ bytes)
long_at c bytes l named =
    by_numbers (byte 0x66 ∷ byte c ∷ []) (0x66 ∷ c ∷ bytes) bytes FORMS 0 FORMS LONG_PREFIXED refl named (run_prefixed (Some 0x66) (byte c ∷ []) (c ∷ bytes) bytes (omega arith, refl) (run_plain false c bytes l))

-- where more than one prefix of a row stands there, the rows with so many read what all rows read
pub long_is : (bytes : List ℕ) → has_long_prefix bytes ≡ true → LongReads bytes
long_is [] e = absurd cc
long_is (b ∷ []) e = absurd cc
long_is (b ∷ c ∷ bytes) e =
    let a = and_parts (eqb b 0x66) (is_longer c) e in
    subst (λ (k : ℕ). LongReads (k ∷ c ∷ bytes)) (sym (eqb-true b 0x66 a.0)) (elim (or_cases (eqb c 0x66) (eqb c 0x2e) a.1) [
      | inl h ↦ subst (λ (k : ℕ). LongReads (0x66 ∷ k ∷ bytes)) (sym (eqb-true c 0x66 h)) (long_at 0x66 bytes (omega arith) long_66)
      | inr h ↦ subst (λ (k : ℕ). LongReads (0x66 ∷ k ∷ bytes)) (sym (eqb-true c 0x2e h)) (long_at 0x2e bytes (omega arith) long_2e)
    ])
