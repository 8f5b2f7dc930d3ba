-- Lines that are written from their ends.
use Rattle.std.proofs.Common.{◌≡◌, ℕ, ◌≤◌, List, [], ◌∷◌, ◌++◌, length, append_assoc, refl, ap, sym, ◌∙◌, arith}
use Rattle.std.specs.List.{flat_map}
use Rattle.cet_isa.specs.declared.threads.FaultName.{FaultName}
use Rattle.cet_isa.specs.declared.threads.FaultName.TheVariants as fault
use Rattle.cet_isa.specs.declared.threads.What.{What}
use Rattle.cet_isa.specs.declared.threads.What.TheVariants as what
use Rattle.cet_trace.specs.Line.{spaced, line}
use Rattle.cet_trace.specs.Report.{fault_name, record_name}

length-fault_name : (name : FaultName) → length (fault_name name) ≡ 3
length-fault_name fault.Ud = refl
length-fault_name fault.Gp = refl
length-fault_name fault.Pf = refl
length-fault_name fault.Ac = refl
length-fault_name fault.Cp = refl

pub length-record_name : (what : What) → length (record_name what) ≤ 6
length-record_name what.Step = omega arith
length-record_name what.Call = omega arith
length-record_name what.Ret = omega arith
length-record_name what.Raise = omega arith
length-record_name what.Take = omega arith
length-record_name what.Save = omega arith
length-record_name what.Busy = omega arith
length-record_name what.Sys = omega arith
length-record_name what.Claim = omega arith
length-record_name what.Born = omega arith
length-record_name what.Wrote = omega arith
length-record_name what.Signal = omega arith
length-record_name what.Ignore = omega arith
length-record_name what.SigReturn = omega arith
length-record_name (what.Fault name) = omega (arith, length-fault_name name)
length-record_name what.Kill = omega arith

-- what stands of a line: these words after a space each, the newline, and what follows the line
pub record IsEnd (words : List (List ℕ)) (behind text : List ℕ) : Type 0 where
  pub is : text ≡ flat_map spaced words ++ 10 ∷ behind

pub newline : {behind text : List ℕ} → text ≡ 10 ∷ behind → IsEnd [] behind text
newline written = record { is = written }

-- a word more
pub spaced_more : (word : List ℕ) {words : List (List ℕ)} {behind before after : List ℕ} → IsEnd words behind before → after ≡ spaced word ++ before → IsEnd (word ∷ words) behind after
spaced_more word {words} {behind} e written = record { is = written ∙ ap (λ (l : List ℕ). spaced word ++ l) e.is ∙ sym (append_assoc (spaced word) (flat_map spaced words) (10 ∷ behind)) }

-- a word more, whose space was written after it
pub word_more : (word : List ℕ) {words : List (List ℕ)} {behind before middle after : List ℕ} → IsEnd words behind before → middle ≡ word ++ before → after ≡ 32 ∷ middle → IsEnd (word ∷ words) behind after
word_more word e written space = spaced_more word e (space ∙ ap (λ (l : List ℕ). 32 ∷ l) written)

-- the first word makes the line whole
pub line_whole : (first : List ℕ) {words : List (List ℕ)} {behind before after : List ℕ} → IsEnd words behind before → after ≡ first ++ before → after ≡ line first words ++ behind
unfolding line
line_whole first {words} {behind} e written =
    written ∙ ap (λ (l : List ℕ). first ++ l) e.is
    ∙ sym (append_assoc first (flat_map spaced words) (10 ∷ behind))
    ∙ sym (append_assoc (first ++ flat_map spaced words) (10 ∷ []) behind)
