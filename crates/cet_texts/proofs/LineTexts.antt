-- The text of an instruction is a line that states it.
use Rattle.std.proofs.Common.{◌≡◌, ℕ, zero, suc, ◌<◌, Bool, true, false, not, ◌&&◌, eqb, nat_lt, List, [], ◌∷◌, ◌++◌, get_or, Some, None, refl, sym, ap, ◌∙◌, arith, ltb-true}
use Rattle.std.specs.List.{list_all}
use Rattle.std.specs.Str.{is_utf8}
use Rattle.std.proofs.lemmas.Bool.{and_parts}
use Rattle.std.proofs.lemmas.Str.{IsUtf8-from_ascii, is_utf8-from_IsUtf8}
use Rattle.cet_encode.specs.Text as text
use Rattle.cet_isa.specs.declared.instructions.Instr.{Instr}
use Rattle.cet_syntax.specs.declared.classes.Class.{Class}
use Rattle.cet_syntax.specs.declared.classes.Class.TheVariants.{Blank, Solid, NameByte, BeforeComment}
use Rattle.cet_syntax.specs.Tokens.{is_name_byte, in_class, front, behind, Token, ◌>>=◌}
use Rattle.cet_syntax.specs.Operands as asm
use Rattle.cet_syntax.specs.Instructions.{no_fixups, built}
use Rattle.cet_syntax.specs.Line.{Statement, Line, Code, stated, instruction, skip_blanks, after_colon, begun, statement_of, first_label, line_of}
use Rattle.cet_syntax.specs.declared.mnemonics.Mnemonic.{Mnemonic}
use Rattle.cet_syntax.proofs.LineLaws.{label_none, after_none}
use Rattle.cet_texts.proofs.PieceTokens.{is_text_byte, is_word, name_solid, joined, IsPlain, tokens_joined, joined_text}
use Rattle.cet_texts.proofs.InstructionTexts.{IsCode}

-- ---- the whole text

ascii_at : (bs : List ℕ) → list_all is_text_byte bs ≡ true → (i : ℕ) → get_or bs i 0 < 128
ascii_at [] h i = omega arith
ascii_at (b ∷ bs) h zero =
    let a = and_parts (is_text_byte b) (list_all is_text_byte bs) h in
    ltb-true b 128 (and_parts (nat_lt b 128) (not (eqb b 10) && in_class BeforeComment b) a.0).0
ascii_at (b ∷ bs) h (suc i) = ascii_at bs (and_parts (is_text_byte b) (list_all is_text_byte bs) h).1 i

text_utf8 : (bs : List ℕ) → list_all is_text_byte bs ≡ true → is_utf8 bs ≡ true
text_utf8 bs h = is_utf8-from_IsUtf8 bs (IsUtf8-from_ascii bs (ascii_at bs h))

no_comment : (bs : List ℕ) → list_all is_text_byte bs ≡ true → front BeforeComment bs ≡ bs
no_comment [] h = refl
no_comment (b ∷ bs) h =
    let a = and_parts (is_text_byte b) (list_all is_text_byte bs) h in
    let c = and_parts (nat_lt b 128) (not (eqb b 10) && in_class BeforeComment b) a.0 in
    let d = and_parts (not (eqb b 10)) (in_class BeforeComment b) c.1 in
    rw d.1 (ap (λ (k : List ℕ). b ∷ k) (no_comment bs a.1))

-- ---- the word at the front

front_word : (c : Class) (w rest : List ℕ) → ((b : ℕ) → is_name_byte b ≡ true → in_class c b ≡ true)
    → list_all is_name_byte w ≡ true
    → front c rest ≡ [] → behind c rest ≡ rest → (front c (w ++ rest) ≡ w) × (behind c (w ++ rest) ≡ rest)
front_word c [] rest k h e f = (e, f)
front_word c (b ∷ w) rest k h e f =
    let a = and_parts (is_name_byte b) (list_all is_name_byte w) h in
    let ih = front_word c w rest k a.1 e f in
    rw (k b a.0) (ap (λ (x : List ℕ). b ∷ x) ih.0, ih.1)

solid_blank : (b : ℕ) → is_name_byte b ≡ true → in_class Blank b ≡ false
solid_blank b h = go (in_class Blank b) (name_solid b h)
  where
    go : (t : Bool) → not t ≡ true → t ≡ false
    go false e = refl
    go true e = absurd cc

skipped : (w rest : List ℕ) → is_word w ≡ true → skip_blanks (w ++ rest) ≡ w ++ rest
skipped [] rest h = absurd (let e : false ≡ true = h in cc)
skipped (b ∷ w) rest h = rw (solid_blank b (and_parts (is_name_byte b) (list_all is_name_byte w) h).0) refl

names : (w : List ℕ) → is_word w ≡ true → list_all is_name_byte w ≡ true
names [] h = refl
names (b ∷ w) h = h

-- what follows the first word: nothing, or a blank and more
record IsRest (rest : List ℕ) : Type 0 where
  name_front : front NameByte rest ≡ []
  name_behind : behind NameByte rest ≡ rest
  solid_front : front Solid rest ≡ []
  solid_behind : behind Solid rest ≡ rest
  colon : (w : List ℕ) → after_colon w rest ≡ None

rest_end : IsRest []
rest_end = record { name_front = refl; name_behind = refl; solid_front = refl; solid_behind = refl; colon = λ w. refl }

rest_blank : (bytes : List ℕ) → IsRest (32 ∷ bytes)
rest_blank bytes = record { name_front = refl; name_behind = refl; solid_front = refl; solid_behind = refl; colon = λ w. refl }

no_label : (w rest : List ℕ) → is_word w ≡ true → IsRest rest → first_label (w ++ rest) ≡ None
unfolding first_label
no_label w rest h r =
    let n = front_word NameByte w rest (λ b k. k) (names w h) r.name_front r.name_behind in
    ap (λ (s : List ℕ). after_colon (front NameByte s) (behind NameByte s)) (skipped w rest h)
    ∙ (ap (λ (s : List ℕ). after_colon s (behind NameByte (w ++ rest))) n.0
    ∙ (ap (after_colon w) n.1 ∙ r.colon w))

begun_by : (w rest : List ℕ) → is_word w ≡ true → IsRest rest → statement_of (w ++ rest) ≡ begun w rest
unfolding statement_of
begun_by w rest h r =
    let n = front_word Solid w rest name_solid (names w h) r.solid_front r.solid_behind in
    ap (λ (s : List ℕ). begun (front Solid s) (behind Solid s)) (skipped w rest h)
    ∙ (ap (λ (s : List ℕ). begun s (behind Solid (w ++ rest))) n.0
    ∙ ap (begun w) n.1)

line_text : (bs : List ℕ) → list_all is_text_byte bs ≡ true → first_label bs ≡ None
    → line_of bs ≡ (record { labels = []; statement = statement_of bs })
unfolding line_of
line_text bs h e = rw (text_utf8 bs h, no_comment bs h, label_none bs (sym e), after_none bs (sym e)) refl

-- ---- lines of pieces

-- the pieces are those of a line that states the instruction
pub record IsLine (ps : List text.Piece) (i : Instr) : Type 0 where
  pub plain : IsPlain ps
  pub same : line_of (joined ps) ≡ (record { labels = []; statement = Code i no_fixups })

line_from : (w : List ℕ) (ps : List text.Piece) (i : Instr) → IsPlain (text.Word w ∷ ps) → IsRest (joined ps)
    → begun w (joined ps) ≡ Code i no_fixups → IsLine (text.Word w ∷ ps) i
line_from w ps i p r e =
    let h = joined_text (text.Word w ∷ ps) p in
    let l : line_of (w ++ joined ps) ≡ (record { labels = []; statement = statement_of (w ++ joined ps) }) =
    line_text (w ++ joined ps) h (no_label w (joined ps) p.0 r) in
    let f : Statement → Line = λ s. record { labels = []; statement = s } in
    record { plain = p; same = l ∙ ap f (begun_by w (joined ps) p.0 r ∙ e) }

-- a mnemonic that stands alone
pub alone_line : (w : List ℕ) (i : Instr) → is_word w ≡ true → begun w [] ≡ Code i no_fixups → IsLine (text.Word w ∷ []) i
alone_line w i h e = line_from w [] i (h, refl, tt) rest_end e

-- a word that is a mnemonic
pub record IsMnemonic (w : List ℕ) (m : Mnemonic) : Type 0 where
  pub word : is_word w ≡ true
  pub begins : (bytes : List ℕ) → begun w bytes ≡ instruction (Some m) bytes

stated_by : (m : Mnemonic) (ps : List text.Piece) (i : Instr) → IsCode m ps i
    → instruction (Some m) (joined (text.Space ∷ ps)) ≡ Code i no_fixups
unfolding instruction
stated_by m ps i c =
    ap (λ (ts : List Token). stated (asm.operands ts >>= built m)) (tokens_joined (text.Space ∷ ps) c.plain) ∙ c.same

pub named_line : {w : List ℕ} {m : Mnemonic} {ps : List text.Piece} {i : Instr} → IsMnemonic w m → IsCode m ps i
    → IsLine (text.named w ps) i
named_line {w} {m} {ps} {i} n c =
    line_from w (text.Space ∷ ps) i (n.word, refl, c.plain) (rest_blank (joined ps))
    (n.begins (joined (text.Space ∷ ps)) ∙ stated_by m ps i c)

-- a mnemonic after `lock` or `notrack`
pub prefixed_line : (p w : List ℕ) (m : Mnemonic) (ps : List text.Piece) (i : Instr) → is_word p ≡ true → is_word w ≡ true
    → begun p (32 ∷ (w ++ joined (text.Space ∷ ps))) ≡ instruction (Some m) (joined (text.Space ∷ ps))
    → IsCode m ps i → IsLine (text.named p (text.named w ps)) i
prefixed_line p w m ps i h k e c =
    line_from p (text.Space ∷ text.named w ps) i (h, refl, (k, refl, c.plain))
    (rest_blank (w ++ joined (text.Space ∷ ps))) (e ∙ stated_by m ps i c)
