-- Operands of registers, immediates and memory, and what an instruction leaves. Source: Intel SDM volume 1 (operand addressing in
-- 64-bit mode); that data accesses are aligned is own.
use Rattle.std.specs.Prelude.{◌≡◌, ℕ, ◌+◌, ◌*◌, ◌/◌, ◌%◌, ◌^◌, List, Option, Some, None, slice_index, slice_set}
use Rattle.std.specs.Int.{w64, cast_unsigned}
use Rattle.cet_words.specs.Layout.{word_in}
use Rattle.cet_isa.specs.Code.{reg_number}
use Rattle.cet_isa.specs.declared.instructions.Reg.{Reg}
use Rattle.cet_isa.specs.declared.instructions.Base.{Base}
use Rattle.cet_isa.specs.declared.instructions.Base.TheVariants as bases
use Rattle.cet_isa.specs.declared.instructions.Mem.{Mem}
use Rattle.cet_isa.specs.declared.instructions.Operand.{Operand}
use Rattle.cet_isa.specs.declared.instructions.Operand.TheVariants as operand
use Rattle.cet_isa.specs.declared.instructions.Size.{Size}
use Rattle.cet_isa.specs.declared.instructions.Size.TheVariants as size
use Rattle.cet_isa.specs.declared.threads.Arch.{Arch}
use Rattle.cet_isa.specs.declared.threads.Record.{Record}
use Rattle.cet_isa.specs.declared.threads.What.TheVariants as what
use Rattle.cet_page.specs.declared.flags.Computed.{Computed}
use Rattle.cet_page.specs.Flags.{rflags}
use Rattle.cet_page.specs.Script.{Script, done, ◌>>=◌}
use Rattle.cet_page.specs.Parts.{check_address, look, load, store}
use Rattle.cet_page.specs.Values.{width, limit}
use Rattle.cet_page.specs.declared.checks.Kind.TheVariants as kind
use Rattle.cet_page.specs.declared.checks.Who.TheVariants.{User}

-- ---- registers and addresses

abbrev pub register : Arch → Reg → ℕ
register arch r = slice_index arch.regs (reg_number r)

-- the registers, where one has got a value
abbrev pub with_register : Arch → Reg → (value : ℕ) → List ℕ
with_register arch r value = slice_set arch.regs (reg_number r) value

abbrev pub base_address : Arch → (next : ℕ) → Base → ℕ
base_address arch next bases.None = 0
base_address arch next bases.Rip = next
base_address arch next (bases.Reg r) = register arch r

abbrev pub index_value : Arch → Option Reg → ℕ
index_value arch None = 0
index_value arch (Some r) = register arch r

-- base, index times scale and displacement; RIP as a base is the address of the next instruction
abbrev pub effective : Arch → Mem → (next : ℕ) → ℕ
effective arch m next = (base_address arch next m.base + index_value arch m.index * m.scale + cast_unsigned w64 m.disp) % 2 ^ 64

-- ---- accesses to data

abbrev pub byte_count : Size → ℕ
byte_count size.Dword = 4
byte_count size.Qword = 8

-- so many bytes of the word that holds an address, from the address on
abbrev pub bytes_at : (addr count word : ℕ) → ℕ
bytes_at addr count word = word / 2 ^ (8 * (addr % 8)) % 2 ^ (8 * count)

-- the tests, the look and the load of the word that holds an address
unfoldable pub load_word : (addr count : ℕ) → Script ℕ
load_word addr count = do
  _ ← check_address addr count
  page ← look kind.Load User addr
  load (word_in page addr)

-- the load of 1, 4 or 8 bytes
unfoldable pub load_at : (addr count : ℕ) → Script ℕ
load_at addr count = do
  word ← load_word addr count
  done (bytes_at addr count word)

-- the tests and the look before a write of 8 bytes, with the word's number as result
unfoldable pub write_place : (addr : ℕ) → Script ℕ
write_place addr = do
  _ ← check_address addr 8
  page ← look kind.Store User addr
  done (word_in page addr)

-- the store of 8 bytes
unfoldable pub store_at : (addr value : ℕ) → Script (Unit {0})
store_at addr value = do
  word ← write_place addr
  store word value

-- the value of an operand; an immediate is sign-extended
unfoldable pub read_operand : Arch → Size → Operand → (next : ℕ) → Script ℕ
read_operand arch s (operand.Reg r) next = done (register arch r % limit s)
read_operand arch s (operand.Imm z) next = done (cast_unsigned (width s) z)
read_operand arch s (operand.Mem m) next = load_at (effective arch m next) (byte_count s)

-- ---- what an instruction leaves

-- this state and this record
abbrev pub Leaves : Arch × Record → Arch → Record → Type 0
Leaves left after noted = (after ≡ left.0) × (noted ≡ left.1)

-- registers, RIP and RFLAGS, with one record more, which tells the value and RFLAGS
abbrev pub stepped : Arch → (regs : List ℕ) → (next flags value : ℕ) → Arch × Record
stepped arch regs next flags value = (
  record arch { regs = regs; rip = next; flags = flags; count = arch.count + 1 },
  record { rip = arch.rip; what = what.Step; code = 0; a = value; b = flags },
)

-- a register gets a value, which for a 32-bit operation is below 2 ^ 32
abbrev pub assigned : Arch → Reg → (value next : ℕ) → Arch × Record
assigned arch r value next = stepped arch (with_register arch r value) next arch.flags value

-- a register gets what was computed, and RFLAGS the flags
abbrev pub settled : Arch → Reg → Computed → (next : ℕ) → Arch × Record
settled arch r c next = stepped arch (with_register arch r c.value) next (rflags c.flags) c.value

-- RFLAGS alone gets the flags of what was computed
abbrev pub compared : Arch → Computed → (next : ℕ) → Arch × Record
compared arch c next = stepped arch arch.regs next (rflags c.flags) 0
