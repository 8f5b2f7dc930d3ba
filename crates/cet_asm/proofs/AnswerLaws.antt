-- What the passes answer is the answer of the text.
use Rattle.std.proofs.Common.{◌≡◌, ℕ, List, [], Option, Result, Ok, Err, ap, sym, ◌∙◌, subst}
use Rattle.cet_asm.specs.Answer.{IsAnswer}
use Rattle.cet_asm.specs.Layout.{start}
use Rattle.cet_syntax.specs.Line.{Line}
use Rattle.cet_asm.specs.Program.{symbols_of, lines_of, end_from, fault_from}
use Rattle.cet_asm.specs.Passes.{place_in, places_from, twice_from, no_places, fault_by}
use Rattle.cet_asm.specs.Places.{symbols_view, IsSmall}
use Rattle.cet_asm.specs.Second.{IsSecond}
use Rattle.cet_asm.specs.declared.labels.Labels.{Labels}
use Rattle.cet_asm.specs.declared.program.Program.{Program}
use Rattle.cet_asm.specs.declared.program.AsmFault.{AsmFault}
use Rattle.cet_asm.specs.declared.program.AsmFault.TheVariants.{At, NoMemory}
use Rattle.cet_asm.proofs.PassLaws.{places_are, all_faults}
use Rattle.cet_asm.proofs.SmallLaws.{symbols_small}

-- the table of the first pass is that of the whole text
pub table_is : (labels : Labels) (ls : List Line) → place_in labels.places ≡ places_from no_places start ls → labels.text_size ≡ (end_from start ls).text → symbols_view labels ≡ symbols_of ls
table_is labels ls p t = λ i. record { place = (p ∙ places_are ls) i; text_size = t i }

pub table_small : (labels : Labels) (ls : List Line) → place_in labels.places ≡ places_from no_places start ls → labels.text_size ≡ (end_from start ls).text → IsSmall (symbols_view labels)
table_small labels ls p t = subst IsSmall (sym (table_is labels ls p t)) (symbols_small ls)

exact : (source : List ℕ) (twice : Option ℕ) (result : Result Program AsmFault) → twice ≡ twice_from 1 no_places start (lines_of source)
    → IsSecond (symbols_of (lines_of source)) twice (lines_of source) result → IsAnswer source result
exact source twice result e h = go result h
  where
    faults : fault_by (symbols_of (lines_of source)) twice 1 start (lines_of source) ≡ fault_from (symbols_of (lines_of source)) 1 [] start (lines_of source)
    faults = ap (λ o. fault_by (symbols_of (lines_of source)) o 1 start (lines_of source)) e ∙ all_faults (symbols_of (lines_of source)) (lines_of source)

    go : (r : Result Program AsmFault) → IsSecond (symbols_of (lines_of source)) twice (lines_of source) r → IsAnswer source r
    go (Ok program) k = record { sound = sym faults ∙ k.sound; text = k.text; static_data = k.static_data; entry = k.entry; mark = k.mark }
    go (Err (At line rule)) k = sym faults ∙ k
    go (Err NoMemory) k = tt

pub answer_is : (source : List ℕ) (labels : Labels) (twice : Option ℕ) (result : Result Program AsmFault)
    → place_in labels.places ≡ places_from no_places start (lines_of source) → labels.text_size ≡ (end_from start (lines_of source)).text
    → twice ≡ twice_from 1 no_places start (lines_of source) → IsSecond (symbols_view labels) twice (lines_of source) result → IsAnswer source result
answer_is source labels twice result p t e h =
    exact source twice result e (subst (λ w. IsSecond w twice (lines_of source) result) (table_is labels (lines_of source) p t) h)
