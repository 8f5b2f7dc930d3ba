-- The page check. Source: Intel SDM volume 3A, paging access rights and page-fault error codes, with the rules for
-- shadow-stack pages.
use Rattle.std.specs.Prelude.{ℕ, ◌+◌, ◌/◌, ◌%◌, Bool, true, ◌==◌, ◌&&◌, bit_and, if◌then◌else◌, nat_lt, Result, Ok, Err}
use Rattle.cet_isa.specs.declared.threads.Fault.{Fault}
use Rattle.cet_isa.specs.declared.threads.FaultName.TheVariants.{Pf}
use Rattle.cet_page.specs.declared.checks.Kind.{Kind}
use Rattle.cet_page.specs.declared.checks.Kind.TheVariants as kind
use Rattle.cet_page.specs.declared.checks.Who.{Who}
use Rattle.cet_page.specs.declared.checks.Who.TheVariants as who

-- a bit of the mask is set
abbrev pub has : ℕ → ℕ → Bool
has entry mask = nat_lt 0 (bit_and entry mask)

-- R/W clear (2) and D set (64)
abbrev pub is_shadow_stack_page : ℕ → Bool
is_shadow_stack_page entry = bit_and entry 0x42 == 0x40

-- what the kind of access asks of a present entry; XD is bit 63
abbrev pub kind_allows : Kind → ℕ → Bool
kind_allows kind.Fetch entry = bit_and entry 0x8000000000000000 == 0
kind_allows kind.Load entry = true
kind_allows kind.Store entry = has entry 2
kind_allows kind.ShadowLoad entry = is_shadow_stack_page entry
kind_allows kind.ShadowStore entry = is_shadow_stack_page entry

-- U/S is 4
abbrev pub who_allows : Who → ℕ → Bool
who_allows who.User entry = has entry 4
who_allows who.Supervisor entry = bit_and entry 4 == 0

-- P is 1
abbrev pub allows : ℕ → Kind → Who → Bool
allows entry k w = has entry 1 && who_allows w entry && kind_allows k entry

-- I 16 for a fetch, W 2 for stores and shadow stores, SS 64 for shadow accesses
abbrev pub kind_code : Kind → ℕ
kind_code kind.Fetch = 16
kind_code kind.Load = 0
kind_code kind.Store = 2
kind_code kind.ShadowLoad = 64
kind_code kind.ShadowStore = 66

-- U 4
abbrev pub who_code : Who → ℕ
who_code who.User = 4
who_code who.Supervisor = 0

-- the page fault of an access at this address that saw this entry
abbrev pub page_fault : ℕ → Kind → Who → ℕ → Fault
page_fault entry k w addr =
    record { name = Pf; code = (if has entry 1 then 1 else 0) + kind_code k + who_code w; a = addr; b = entry }

-- the page check
abbrev pub checked : ℕ → Kind → Who → ℕ → Result (Unit {0}) Fault
checked entry k w addr = if allows entry k w then Ok tt else Err (page_fault entry k w addr)

-- the index of an address in its page table: bits 20 to 12 (Intel SDM volume 3, 4-level paging)
abbrev pub index_at : ℕ → ℕ
index_at addr = addr / 4096 % 512
