-- Each kind of access is the one law at its own function.
use Rattle.std.proofs.Common.{ℕ, ◌+◌, ◌^◌, ◌%◌, refl, eqb}
use Rattle.std.specs.Prelude.{bit_and, bit_or}
use prog.Atomic.{either}
use mathlib.Core.Option.{none}
use Rattle.atomic_table.specs.Table.{step}
use Rattle.cet_words.specs.declared.accesses.Access.TheVariants as access
use Rattle.cet_shared.specs.Keys.{job_of}
use Rattle.cet_shared.proofs.Law.{act_ok}
use Rattle.cet_shared.proofs.tables.act.Goals as goal

pub load-requires : goal.load-requires
load-requires c = act_ok (job_of c.args.shared.now.key) c.args.seat.now.id c.args.access c.args.seat.now.me
    c.args.seat.now.table_id c.args.shared.now.table_id c.requires.table c.requires.job c.requires.own c.requires.next c.requires.range
    (access.Look c.in-Look.page) c.in-Look.is
    (λ n. n) (λ n. n) (λ n. refl) (λ n. refl)
    (step c.args.shared.now.table_id.slots (1614848 + c.in-Look.page) 0 0 none)

pub load-requires-in-Load : goal.load-requires-in-Load
load-requires-in-Load c = act_ok (job_of c.args.shared.now.key) c.args.seat.now.id c.args.access c.args.seat.now.me
    c.args.seat.now.table_id c.args.shared.now.table_id c.requires.table c.requires.job c.requires.own c.requires.next c.requires.range
    (access.Load c.in-Load.word) c.in-Load.is
    (λ n. n) (λ n. n) (λ n. refl) (λ n. refl)
    (step c.args.shared.now.table_id.slots c.in-Load.word 0 0 none)

pub store-requires : goal.store-requires
store-requires c = act_ok (job_of c.args.shared.now.key) c.args.seat.now.id c.args.access c.args.seat.now.me
    c.args.seat.now.table_id c.args.shared.now.table_id c.requires.table c.requires.job c.requires.own c.requires.next c.requires.range
    (access.Store c.in-Store.word c.in-Store.value) c.in-Store.is
    (λ _. c.in-Store.value) (λ _. c.in-Store.value) (λ n. refl) (λ n. refl)
    (step c.args.shared.now.table_id.slots c.in-Store.word c.in-Store.value 0 none)

pub swap-requires : goal.swap-requires
swap-requires c = act_ok (job_of c.args.shared.now.key) c.args.seat.now.id c.args.access c.args.seat.now.me
    c.args.seat.now.table_id c.args.shared.now.table_id c.requires.table c.requires.job c.requires.own c.requires.next c.requires.range
    (access.Swap c.in-Swap.word c.in-Swap.value) c.in-Swap.is
    (λ _. c.in-Swap.value) (λ n. n) (λ n. refl) (λ n. refl)
    (step c.args.shared.now.table_id.slots c.in-Swap.word c.in-Swap.value 0 none)

pub fetch_add-requires : goal.fetch_add-requires
fetch_add-requires c = act_ok (job_of c.args.shared.now.key) c.args.seat.now.id c.args.access c.args.seat.now.me
    c.args.seat.now.table_id c.args.shared.now.table_id c.requires.table c.requires.job c.requires.own c.requires.next c.requires.range
    (access.FetchAdd c.in-FetchAdd.word c.in-FetchAdd.value) c.in-FetchAdd.is
    (λ n. (n + c.in-FetchAdd.value) % 2 ^ 64) (λ n. n) (λ n. refl) (λ n. refl)
    (step c.args.shared.now.table_id.slots c.in-FetchAdd.word c.in-FetchAdd.value 0 none)

pub fetch_or-requires : goal.fetch_or-requires
fetch_or-requires c = act_ok (job_of c.args.shared.now.key) c.args.seat.now.id c.args.access c.args.seat.now.me
    c.args.seat.now.table_id c.args.shared.now.table_id c.requires.table c.requires.job c.requires.own c.requires.next c.requires.range
    (access.FetchOr c.in-FetchOr.word c.in-FetchOr.value) c.in-FetchOr.is
    (λ n. bit_or n c.in-FetchOr.value) (λ n. n) (λ n. refl) (λ n. refl)
    (step c.args.shared.now.table_id.slots c.in-FetchOr.word c.in-FetchOr.value 0 none)

pub fetch_and-requires : goal.fetch_and-requires
fetch_and-requires c = act_ok (job_of c.args.shared.now.key) c.args.seat.now.id c.args.access c.args.seat.now.me
    c.args.seat.now.table_id c.args.shared.now.table_id c.requires.table c.requires.job c.requires.own c.requires.next c.requires.range
    (access.FetchAnd c.in-FetchAnd.word c.in-FetchAnd.value) c.in-FetchAnd.is
    (λ n. bit_and n c.in-FetchAnd.value) (λ n. n) (λ n. refl) (λ n. refl)
    (step c.args.shared.now.table_id.slots c.in-FetchAnd.word c.in-FetchAnd.value 0 none)

pub compare_exchange-requires : goal.compare_exchange-requires
compare_exchange-requires c = act_ok (job_of c.args.shared.now.key) c.args.seat.now.id c.args.access c.args.seat.now.me
    c.args.seat.now.table_id c.args.shared.now.table_id c.requires.table c.requires.job c.requires.own c.requires.next c.requires.range
    (access.CompareExchange c.in-CompareExchange.word c.in-CompareExchange.expected c.in-CompareExchange.new) c.in-CompareExchange.is
    (λ n. either (eqb n c.in-CompareExchange.expected) c.in-CompareExchange.new n) (λ n. n) (λ n. refl) (λ n. refl)
    (step c.args.shared.now.table_id.slots c.in-CompareExchange.word c.in-CompareExchange.expected c.in-CompareExchange.new none)
