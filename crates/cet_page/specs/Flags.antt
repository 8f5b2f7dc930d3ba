-- The status flags, RFLAGS, and the conditions of jumps and moves. Source: Intel SDM volume 1 (EFLAGS register) and volume 2,
-- appendix B (condition test field); that AF and IF read 0 is own.
use Rattle.std.specs.Prelude.{ℕ, ◌==◌, Bool, true, false, not, ◌||◌, if◌then◌else◌, bit_and, bit_or}
use Rattle.cet_isa.specs.declared.instructions.Cond.{Cond}
use Rattle.cet_isa.specs.declared.instructions.Cond.TheVariants as conds
use Rattle.cet_page.specs.declared.flags.StatusFlags.{StatusFlags}

-- the number 1 or 0
abbrev pub bit : Bool → ℕ
bit b = if b then 1 else 0

abbrev pub with_flag : (set : Bool) → (mask flags : ℕ) → ℕ
with_flag set mask flags = if set then bit_or flags mask else flags

-- RFLAGS: CF is bit 0, PF 2, ZF 6, SF 7 and OF 11, and bit 1 is always set
abbrev pub rflags : StatusFlags → ℕ
rflags f = with_flag f.of 0x800 (with_flag f.sf 0x80 (with_flag f.zf 0x40 (with_flag f.pf 0x4 (with_flag f.cf 0x1 0x2))))

abbrev pub is_set : (flags mask : ℕ) → Bool
is_set flags mask = bit_and flags mask == mask

-- the status flags in RFLAGS
abbrev pub status : ℕ → StatusFlags
status flags = record { cf = is_set flags 0x1; pf = is_set flags 0x4; zf = is_set flags 0x40; sf = is_set flags 0x80; of = is_set flags 0x800 }

abbrev pub xor : Bool → Bool → Bool
xor true b = not b
xor false b = b

-- below and above compare numbers without sign, less and greater those with a sign
abbrev pub holds : Cond → StatusFlags → Bool
holds conds.O f = f.of
holds conds.No f = not f.of
holds conds.B f = f.cf
holds conds.Ae f = not f.cf
holds conds.E f = f.zf
holds conds.Ne f = not f.zf
holds conds.Be f = f.cf || f.zf
holds conds.A f = not (f.cf || f.zf)
holds conds.S f = f.sf
holds conds.Ns f = not f.sf
holds conds.P f = f.pf
holds conds.Np f = not f.pf
holds conds.L f = xor f.sf f.of
holds conds.Ge f = not (xor f.sf f.of)
holds conds.Le f = f.zf || xor f.sf f.of
holds conds.G f = not (f.zf || xor f.sf f.of)
