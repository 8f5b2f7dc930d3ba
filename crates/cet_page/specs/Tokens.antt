-- The words by which a shadow stack leads to another one or to a frame, over any 64-bit values. Source: Intel SDM volume 1
-- (chapter on CET: restore tokens and previous-SSP tokens) and volume 2 (RSTORSSP, SAVEPREVSSP); a frame's word is that of
-- Linux, Documentation/arch/x86/shstk.rst.
use Rattle.std.specs.Prelude.{ℕ, ◌*◌, ◌/◌, ◌%◌, ◌^◌, ◌==◌, Bool, nat_le, bit_or}
use Rattle.cet_page.specs.Word64.{add64, sub64}

-- the token with which a shadow stack is taken again at this pointer; bit 0 tells of 64-bit mode
abbrev pub restore_token : (ssp : ℕ) → ℕ
restore_token ssp = bit_or ssp 1

-- the one that RSTORSSP looks for at an address: the pointer is the address above it
abbrev pub restore_token_at : (addr : ℕ) → ℕ
restore_token_at addr = restore_token (add64 addr 8)

-- what RSTORSSP leaves in its place: the pointer of the stack that is left, with bit 1
abbrev pub previous_token : (ssp : ℕ) → ℕ
previous_token ssp = bit_or ssp 3

-- SAVEPREVSSP tests bit 1
abbrev pub is_previous_token : (word : ℕ) → Bool
is_previous_token word = word / 2 % 2 == 1

-- the pointer of the stack that was left, without the low two bits
abbrev pub previous_ssp : (word : ℕ) → ℕ
previous_ssp word = word / 4 * 4

-- where SAVEPREVSSP stores that stack's restore token: below its pointer, rounded down to a multiple of 8
abbrev pub saved_at : (ssp : ℕ) → ℕ
saved_at ssp = sub64 (ssp / 8 * 8) 8

-- what a signal's delivery pushes: the pointer, with bit 63
abbrev pub frame_word : (ssp : ℕ) → ℕ
frame_word ssp = bit_or ssp (2 ^ 63)

-- rt_sigreturn tests bit 63
abbrev pub is_frame_word : (word : ℕ) → Bool
is_frame_word word = nat_le (2 ^ 63) word

abbrev pub frame_ssp : (word : ℕ) → ℕ
frame_ssp word = word % 2 ^ 63
