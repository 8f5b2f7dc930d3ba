-- The parts that scripts are made of. Source: own; the faults are those of the Intel SDM (volume 3A, the chapter on
-- interrupts and exceptions), but a stack address that isn't canonical is #GP too, and every data access is aligned.
use Rattle.std.proofs.Common.{zero, suc}
use Rattle.std.specs.Prelude.{ℕ, ◌+◌, ◌%◌, List, [], ◌∷◌, Option, Some, None, ◌==◌, if◌then◌else◌}
use Rattle.cet_words.specs.Layout.{page_at, entry_word}
use Rattle.cet_words.specs.declared.accesses.Access.TheVariants as access
use Rattle.cet_isa.specs.Address.{canonical}
use Rattle.cet_isa.specs.declared.threads.Fault.{Fault}
use Rattle.cet_isa.specs.declared.threads.FaultName.TheVariants.{Gp, Ac, Ud}
use Rattle.cet_words.specs.Change.{Change}
use Rattle.cet_page.specs.Script.{Script, done, fault, ask, tell, no_changes, ◌>>=◌}
use Rattle.cet_page.specs.Page.{allows, page_fault}
use Rattle.cet_page.specs.declared.checks.Kind.{Kind}
use Rattle.cet_page.specs.declared.checks.Who.{Who}

abbrev pub general_protection : Fault
general_protection = record { name = Gp; code = 0; a = 0; b = 0 }

abbrev pub invalid_opcode : Fault
invalid_opcode = record { name = Ud; code = 0; a = 0; b = 0 }

abbrev pub alignment_check : ℕ → Fault
alignment_check addr = record { name = Ac; code = 0; a = addr; b = 0 }

-- the canonical test, and then the test for a multiple of the size, which fails with this fault
unfoldable pub check_address_as : Fault → (addr size : ℕ) → Script (Unit {0})
check_address_as misaligned addr size =
    if canonical addr
    then (if addr % size == 0 then done tt else fault misaligned)
    else fault general_protection

-- of data
abbrev pub check_address : (addr size : ℕ) → Script (Unit {0})
check_address addr size = check_address_as (alignment_check addr) addr size

-- The look at a page and the page check, with the look's changes for each entry and the page's number as result; an address
-- on no page counts as entry 0 and costs no access.
unfoldable pub look_in_as : (ℕ → List Change) → Option ℕ → Kind → Who → (addr : ℕ) → Script ℕ
look_in_as changes None k w addr = fault (page_fault 0 k w addr)
look_in_as changes (Some page) k w addr =
    ask (access.Look page) changes (λ entry. if allows entry k w then done page else fault (page_fault entry k w addr))

-- the look at the page of an address
unfoldable pub look_as : (ℕ → List Change) → Kind → Who → (addr : ℕ) → Script ℕ
look_as changes k w addr = look_in_as changes (page_at addr) k w addr

abbrev pub look : Kind → Who → (addr : ℕ) → Script ℕ
look k w addr = look_as no_changes k w addr

-- The look of a call that goes on where the page check fails: the page's number, or none. An address on no page costs no
-- access.
unfoldable pub probe_in : Option ℕ → Kind → Who → Script (Option ℕ)
probe_in None k w = done None
probe_in (Some page) k w = ask (access.Look page) no_changes (λ entry. done (if allows entry k w then Some page else None))

unfoldable pub probe : Kind → Who → (addr : ℕ) → Script (Option ℕ)
probe k w addr = probe_in (page_at addr) k w

-- the look at a page of which no test is made
unfoldable pub read_entry : (page : ℕ) → Script ℕ
read_entry page = ask (access.Look page) no_changes done

-- the load of a word, with its changes for each answer
unfoldable pub load_as : (ℕ → List Change) → (word : ℕ) → Script ℕ
load_as changes word = ask (access.Load word) changes done

abbrev pub load : (word : ℕ) → Script ℕ
load word = load_as no_changes word

-- the store of a value
unfoldable pub store_as : List Change → (word value : ℕ) → Script (Unit {0})
store_as changes word value = tell word value changes (done tt)

abbrev pub store : (word value : ℕ) → Script (Unit {0})
store word value = store_as [] word value

-- the compare-and-exchange of a word, with the word found as result
unfoldable pub compare_exchange_as : (ℕ → List Change) → (word expected value : ℕ) → Script ℕ
compare_exchange_as changes word expected value = ask (access.CompareExchange word expected value) changes done

abbrev pub compare_exchange : (word expected value : ℕ) → Script ℕ
compare_exchange word expected value = compare_exchange_as no_changes word expected value

-- the exchange of a word, with the word found as result
unfoldable pub swap : (word value : ℕ) → Script ℕ
swap word value = ask (access.Swap word value) no_changes done

-- the fetch-and-add of a word, with its changes for each answer and the word found as result
unfoldable pub fetch_add_as : (ℕ → List Change) → (word value : ℕ) → Script ℕ
fetch_add_as changes word value = ask (access.FetchAdd word value) changes done

abbrev pub fetch_add : (word value : ℕ) → Script ℕ
fetch_add word value = fetch_add_as no_changes word value

-- the fetch-and-or and the fetch-and-and of a word
unfoldable pub fetch_or : (word value : ℕ) → Script ℕ
fetch_or word value = ask (access.FetchOr word value) no_changes done

unfoldable pub fetch_and : (word value : ℕ) → Script ℕ
fetch_and word value = ask (access.FetchAnd word value) no_changes done

-- Stores to so many words, the lowest first: the first gets the value, and each further one the value before and the step.
unfoldable pub stores : (count word value step : ℕ) → Script (Unit {0})
stores zero word value step = done tt
stores (suc count) word value step = tell word value [] (stores count (word + 1) (value + step) step)

-- stores of 0 to the entries of so many pages, the lowest first
abbrev pub clears : (count page : ℕ) → Script (Unit {0})
clears count page = stores count (entry_word page) 0 0

-- Stores of these values, the lowest first: to a word and to those above it.
unfoldable pub store_each : (word : ℕ) → List ℕ → Script (Unit {0})
store_each word [] = done tt
store_each word (value ∷ values) = tell word value [] (store_each (word + 1) values)

-- Loads of so many words, the lowest first: their answers.
unfoldable pub loads : (count word : ℕ) → Script (List ℕ)
loads zero word = done []
loads (suc count) word = ask (access.Load word) no_changes (λ value. loads count (word + 1) >>= (λ values. done (value ∷ values)))
