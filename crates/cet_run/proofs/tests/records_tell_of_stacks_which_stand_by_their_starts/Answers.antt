use Rattle.std.proofs.Common.{◌≡◌, ℕ, List, [], ◌∷◌, All, refl, sym, subst}
use Rattle.cet_isa.specs.declared.threads.Record.{Record}
use Rattle.cet_isa.specs.declared.threads.What.{What}
use Rattle.cet_isa.specs.declared.threads.What.TheVariants as what
use Rattle.cet_book.specs.View.{IsSpan}
use Rattle.cet_own.specs.Told.{told_in}
use Rattle.cet_run.proofs.ToldStacks.{spans_by}
use Rattle.cet_run.proofs.tests.records_tell_of_stacks_which_stand_by_their_starts.Goals as goal

abbrev noted : What → (a b : ℕ) → Record
noted w a b = record { rip = 0x401000; what = w; code = 0; a = a; b = b }

abbrev records : List Record
records =
    noted what.Born 1 0x20001f000 ∷ noted what.Sys 186 0x200030000 ∷ noted what.Claim 0x20000a000 0x1001 ∷ noted what.Claim 0x200020000 8
    ∷ noted what.Call 0x20000e000 0x200008ff8 ∷ noted what.Claim 0x20000d000 0x2000 ∷ []

listed : (a b c d e f : Record) → a ≡ noted what.Born 1 0x20001f000 → b ≡ noted what.Sys 186 0x200030000 → c ≡ noted what.Claim 0x20000a000 0x1001 → d ≡ noted what.Claim 0x200020000 8 →
    e ≡ noted what.Call 0x20000e000 0x200008ff8 → f ≡ noted what.Claim 0x20000d000 0x2000 → All IsSpan (told_in (a ∷ b ∷ c ∷ d ∷ e ∷ f ∷ []))
listed a b c d e f p q r s t u =
    let same : (a ∷ b ∷ c ∷ d ∷ e ∷ f ∷ []) ≡ records = cc in
    subst (λ l. All IsSpan (told_in l)) (sym same) (spans_by (told_in records) refl)

pub push_all_told-requires : goal.push_all_told-requires
push_all_told-requires c c' = listed _ _ _ _ _ _ c'.noted.ensures c'.noted-2.ensures c'.noted-3.ensures c'.noted-4.ensures c'.noted-5.ensures c'.noted-6.ensures
