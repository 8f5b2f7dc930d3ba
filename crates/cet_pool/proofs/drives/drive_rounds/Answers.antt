use Rattle.std.proofs.Common.{◌≡◌, ℕ, true, eqb, List, [], ◌∷◌, vec_len, ap, sym, ◌∙◌, arith}
use Rattle.std.proofs.lemmas.Bool.Decides.{nat_tests}
use Rattle.cet_words.specs.Job.{JobData}
use Rattle.cet_page.specs.Core.{first_core}
use Rattle.cet_shared.specs.Held.{Held, first_of, new_thread}
use Rattle.cet_pool.specs.declared.lives.Live.{Live}
use Rattle.cet_pool.proofs.Gatherings.{all_driven, driven}
use Rattle.cet_pool.proofs.drives.drive_rounds.Goals as goal

none_left : (n : ℕ) → true ≡ eqb n 0 → n ≡ 0
none_left n e = grind (arith, nat_tests)

pub rounds-preserved : goal.rounds-preserved
rounds-preserved g c =
    let x : Live = record { pass = c.args.first; records = [] } in
    driven c.args.shared.now (vec_len c.rounds.lives) (x ∷ []) c.rounds.lives.items c.rounds.ended.items c.in_ok-lives-2.lives.items c.round.new.ended.items c.rounds.invariant c.in_ok-lives-2.ensures

pub gather_by_number-requires-clause-all : goal.gather_by_number-requires-clause-all
gather_by_number-requires-clause-all g c =
    let x : Live = record { pass = c.args.first; records = [] } in
    all_driven c.args.shared.now x c.rounds.lives.items c.rounds.ended.items
    (ap (λ (v : Held). first_of v.threads) c.requires.first.1 ∙ ap (λ (j : JobData). new_thread (first_core j)) (sym c.requires.job))
    c.rounds.invariant (sym c.rounds.lives.ok.0 ∙ none_left (vec_len c.rounds.lives) c.rounds-test.ensures)
