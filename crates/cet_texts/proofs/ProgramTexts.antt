-- The text of an instruction alone is the program of that instruction.
use Rattle.std.proofs.Common.{◌≡◌, ℕ, ◌+◌, ◌≤◌, Bool, true, false, not, ◌&&◌, eqb, nat_lt, List, [], ◌∷◌, length, codes, map, All, None, append-nil, refl, sym, ap, ◌∙◌, arith, le-leb}
use Rattle.std.specs.List.{list_all}
use Rattle.std.proofs.lemmas.Bool.{and_parts}
use Rattle.std.proofs.lemmas.List.Elements.{All-nil, All-cons}
use Rattle.std.proofs.lemmas.List.Splits.{slice_split_none}
use Rattle.cet_encode.specs.Text as text
use Rattle.cet_isa.specs.Canonical.{canonical_spelling}
use Rattle.cet_isa.specs.Spelled.{has_spelling, InstrFits}
use Rattle.cet_isa.specs.declared.instructions.Instr.{Instr}
use Rattle.cet_syntax.specs.declared.classes.Class.TheVariants.{BeforeComment}
use Rattle.cet_asm.specs.declared.sections.Section.TheVariants as sections
use Rattle.cet_syntax.specs.Tokens.{in_class}
use Rattle.cet_syntax.specs.Instructions.{no_fixups}
use Rattle.cet_syntax.specs.Line.{Line, Code, line_of}
use Rattle.cet_words.specs.Layout.{page_up}
use Rattle.cet_asm.specs.Layout.{filled, size_of, is_too_long, start, program_limit, text_start}
use Rattle.cet_asm.specs.Program.{lines_of, symbols_of, label_address, symbol_address, knows_all, is_in_reach, broken_at, fault_from, bytes_of, section_from, mark_from, IsProgram}
use Rattle.cet_texts.proofs.LengthLaws.{canonical_short}
use Rattle.cet_texts.proofs.PieceTokens.{is_text_byte, joined, onto_joined, joined_text}
use Rattle.cet_texts.proofs.TextLaws.{pieces_line}

-- ---- the line by itself

abbrev line : Instr → Line
line i = record { labels = []; statement = Code i no_fixups }

small : (n : ℕ) → n ≤ 21 → page_up (0 + n) + 0 ≤ program_limit
small n h = omega (arith, h)

fits_program : (i : Instr) → is_too_long start (Code i no_fixups) ≡ false
unfolding is_too_long size_of filled
fits_program i =
    ap not (le-leb (page_up (0 + length (canonical_spelling i)) + 0) program_limit (small (length (canonical_spelling i)) (canonical_short i)))

no_fault : (i : Instr) → fault_from (symbols_of (line i ∷ [])) 1 [] start (line i ∷ []) ≡ None
unfolding broken_at knows_all is_in_reach
no_fault i = rw (fits_program i) refl

text_bytes : (i : Instr) → section_from (symbols_of (line i ∷ [])) sections.Text start (line i ∷ []) ≡ canonical_spelling i
unfolding bytes_of filled
text_bytes i = append-nil (canonical_spelling i)

data_bytes : (i : Instr) → section_from (symbols_of (line i ∷ [])) sections.Data start (line i ∷ []) ≡ []
data_bytes i = refl

no_start : (i : Instr) → symbol_address (symbols_of (line i ∷ [])) (codes "_start") ≡ text_start
unfolding label_address
no_start i = refl

no_mark : (i : Instr) → mark_from 2 (line i ∷ []) ≡ 2
no_mark i = refl

-- ---- the text

negated : (t : Bool) → not t ≡ true → t ≡ false
negated false h = refl
negated true h = absurd cc

not_end : (bs : List ℕ) → list_all is_text_byte bs ≡ true → All (λ b. eqb b 10 ≡ false) bs
not_end [] h = All-nil (λ (b : ℕ). eqb b 10 ≡ false)
not_end (b ∷ bs) h =
    let a = and_parts (is_text_byte b) (list_all is_text_byte bs) h in
    let c = and_parts (nat_lt b 128) (not (eqb b 10) && in_class BeforeComment b) a.0 in
    All-cons (λ (b : ℕ). eqb b 10 ≡ false) b bs
    (negated (eqb b 10) (and_parts (not (eqb b 10)) (in_class BeforeComment b) c.1).0) (not_end bs a.1)

one_line : (i : Instr) → InstrFits i → has_spelling i ≡ true → lines_of (text.text_of i) ≡ line i ∷ []
one_line i fits ok =
    let l = pieces_line i fits ok in
    ap lines_of (onto_joined [] (text.pieces i))
    ∙ (ap (map line_of) (slice_split_none (λ b. eqb b 10) (joined (text.pieces i))
    (not_end (joined (text.pieces i)) (joined_text (text.pieces i) l.plain)))
    ∙ ap (λ (x : Line). x ∷ []) l.same)

pub program_text_of : (i : Instr) → InstrFits i → has_spelling i ≡ true
    → IsProgram (text.text_of i) (record { text = canonical_spelling i; static_data = []; entry = text_start; mark = 2 })
program_text_of i fits ok =
    let e = one_line i fits ok in
    record {
      sound = ap (λ (ls : List Line). fault_from (symbols_of ls) 1 [] start ls) e ∙ no_fault i;
      text = sym (ap (λ (ls : List Line). section_from (symbols_of ls) sections.Text start ls) e ∙ text_bytes i);
      static_data = sym (ap (λ (ls : List Line). section_from (symbols_of ls) sections.Data start ls) e ∙ data_bytes i);
      entry = sym (ap (λ (ls : List Line). symbol_address (symbols_of ls) (codes "_start")) e ∙ no_start i);
      mark = sym (ap (mark_from 2) e ∙ no_mark i);
    }
