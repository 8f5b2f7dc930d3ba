-- What the operations compute: a value and the status flags. Source: Intel SDM volume 1 (EFLAGS register, status flags) and the
-- pages of volume 2; own are that flags which the manual leaves undefined are 0, and SF of IMUL too.
use Rattle.std.specs.Prelude.{ℕ, ◌+◌, ◌-◌, ◌*◌, ◌/◌, ◌%◌, ◌^◌, ◌==◌, ◌&&◌, Bool, false, not, nat_le, nat_lt, bit_and}
use Rattle.std.specs.Prelude.{bit_or, bit_xor, count_ones, ℤ, pos, neg_ℤ, ◌+ℤ◌, ◌-ℤ◌, ◌*ℤ◌, int_le, int_lt}
use Rattle.std.specs.Int.{Width, w32, w64, cast_unsigned, cast_signed, int_shr}
use Rattle.cet_isa.specs.declared.instructions.AluOp.{AluOp}
use Rattle.cet_isa.specs.declared.instructions.AluOp.TheVariants as ops
use Rattle.cet_isa.specs.declared.instructions.Size.{Size}
use Rattle.cet_isa.specs.declared.instructions.Size.TheVariants as size
use Rattle.cet_page.specs.declared.flags.Computed.{Computed}
use Rattle.cet_page.specs.Flags.{xor}

-- ---- numbers of a size

abbrev pub bits : Size → ℕ
bits size.Dword = 32
bits size.Qword = 64

abbrev pub width : Size → Width
width size.Dword = w32
width size.Qword = w64

-- numbers of the size are below this
abbrev pub limit : Size → ℕ
limit size.Dword = 2 ^ 32
limit size.Qword = 2 ^ 64

-- the weight of the top bit
abbrev pub half : Size → ℕ
half size.Dword = 2 ^ 31
half size.Qword = 2 ^ 63

abbrev pub top_bit : Size → ℕ → Bool
top_bit s x = nat_le (half s) x

-- the number that the bits mean in two's complement
abbrev pub signed : Size → ℕ → ℤ
signed s x = cast_signed (width s) x

-- a number in the signed range
abbrev pub in_signed_range : Size → ℤ → Bool
in_signed_range s z = int_le (neg_ℤ (pos (half s))) z && int_lt z (pos (half s))

-- ---- status flags of a result: PF tells that the low byte has an even number of ones, SF is the most significant bit

abbrev pub computed : Size → (value : ℕ) → (carry overflow : Bool) → Computed
computed s value carry overflow = record {
  value = value;
  flags = record { cf = carry; pf = count_ones (value % 256) % 2 == 0; zf = value == 0; sf = top_bit s value; of = overflow };
}

-- CF is a carry out of the numbers of the size, OF a sum outside the signed range
abbrev pub sum : Size → (x y carry : ℕ) → Computed
sum s x y c = computed s ((x + y + c) % limit s) (nat_le (limit s) (x + y + c)) (not (in_signed_range s (signed s x +ℤ signed s y +ℤ pos c)))

-- CF is a borrow, OF a difference outside the signed range
abbrev pub difference : Size → (x y borrow : ℕ) → Computed
difference s x y c = computed s ((x + limit s - (y + c)) % limit s) (nat_lt x (y + c)) (not (in_signed_range s (signed s x -ℤ signed s y -ℤ pos c)))

-- CF and OF are 0
abbrev pub logical : Size → (value : ℕ) → Computed
logical s value = computed s value false false

-- CF and OF tell that the signed product isn't in the signed range
abbrev pub product : Size → (x y : ℕ) → Computed
product s x y = record {
  value = x * y % limit s;
  flags = record {
    cf = not (in_signed_range s (signed s x *ℤ signed s y));
    pf = false;
    zf = false;
    sf = false;
    of = not (in_signed_range s (signed s x *ℤ signed s y));
  };
}

-- an operation with a carry in, which ADC and SBB alone read
abbrev pub operation : AluOp → Size → (x y carry : ℕ) → Computed
operation ops.Add s x y c = sum s x y 0
operation ops.Or s x y c = logical s (bit_or x y)
operation ops.Adc s x y c = sum s x y c
operation ops.Sbb s x y c = difference s x y c
operation ops.And s x y c = logical s (bit_and x y)
operation ops.Sub s x y c = difference s x y 0
operation ops.Xor s x y c = logical s (bit_xor x y)
operation ops.Cmp s x y c = difference s x y 0

-- an increment or a decrement keeps CF
abbrev pub keeping : (carry : Bool) → Computed → Computed
keeping carry c = record { value = c.value; flags = record { cf = carry; pf = c.flags.pf; zf = c.flags.zf; sf = c.flags.sf; of = c.flags.of } }

abbrev pub ones_complement : Size → ℕ → ℕ
ones_complement s x = limit s - 1 - x

-- ---- shifts by 1 to bits - 1: CF is the last bit that was shifted out, and OF is told for a shift by 1 alone

abbrev pub shifted_left : Size → (x count : ℕ) → Computed
shifted_left s x n =
    computed s (x * 2 ^ n % limit s) (x * 2 ^ n / limit s % 2 == 1)
    ((n == 1) && xor (top_bit s (x * 2 ^ n % limit s)) (x * 2 ^ n / limit s % 2 == 1))

abbrev pub shifted_right : Size → (x count : ℕ) → Computed
shifted_right s x n = computed s (x / 2 ^ n) (x / 2 ^ (n - 1) % 2 == 1) ((n == 1) && top_bit s x)

-- the signed number divided by the power of two, rounded down
abbrev pub shifted_arithmetic : Size → (x count : ℕ) → Computed
shifted_arithmetic s x n = computed s (cast_unsigned (width s) (int_shr (signed s x) n)) (x / 2 ^ (n - 1) % 2 == 1) false
