-- A row whose first bytes stand there reads on behind its opcode, by the REX prefix that stands there alone.
use Rattle.std.proofs.Common.{◌≡◌, ℕ, ◌/◌, ◌%◌, ◌<◌, Bool, true, false, not, ◌&&◌, ◌||◌, cond, eqb, List, [], ◌∷◌, Option, Some, None}
use Rattle.std.proofs.Common.{Result, Ok, Err, refl, sym, ap, ◌∙◌, ◌⊎◌, inl, inr, pos, arith, take, drop, length}
use Rattle.std.specs.Prelude.{slice_get, slice_index}
use Rattle.std.proofs.lemmas.Bool.{agree_below_at, and_parts, and_cases, or_cases, not-true, le-ltb}
use Rattle.cet_isa.specs.declared.instructions.Instr.{Instr}
use Rattle.cet_isa.specs.Form.{Pattern, Rex, NoRex, ClearRex, SetRex}
use Rattle.cet_isa.specs.Form as table
use Rattle.cet_isa.specs.Meaning.{disp_len, operand_of, signed_of, instr_of}
use Rattle.cet_isa.specs.Spells.{has, allows, rex_pattern, places, imm_len, fields_in}
use Rattle.cet_isa.specs.Reader.{Miss, Differs, Ends, ◌>>=◌, or_else}
use Rattle.cet_isa.specs.Reading.{byte_at, cells_at, bytes_at, operand_at, read_at, form_at, row_at}
use Rattle.cet_isa.proofs.ReaderLaws.{pair}
use Rattle.cet_isa.proofs.Apart.{run, clash, clash_apart, or_else-assoc}
use Rattle.cet_decode.specs.declared.forms.Form.{Form}
use Rattle.cet_decode.specs.Views.{form_view}
use Rattle.cet_decode.specs.Index.{maybe_row_at, some_at}
use Rattle.cet_decode.specs.Lead.{rex_at, operand_behind, fields_of, opcode_from, row_behind, next_of, takes_next, takes, form_if, taker, or_later, chosen}
use Rattle.cet_decode.proofs.Narrowing.{blocked_by, form_blocked, or_differs}

-- ---- what the laws speak of

-- an instruction by a row from behind its opcode on, where the row takes this REX
abbrev row_led : table.Form → (rex opcode : ℕ) → List ℕ → Result (Instr × List ℕ) Miss
row_led f rex opcode bytes = cond (allows f.wide (rex_at rex)) (row_behind f rex opcode bytes) (Err Differs)

abbrev maybe_led : Option Form → (rex opcode : ℕ) → List ℕ → Result (Instr × List ℕ) Miss
maybe_led None rex opcode bytes = Err Differs
maybe_led (Some f) rex opcode bytes = row_led (form_view f) rex opcode bytes

-- by the rows with these numbers, one after another
unfoldable pub led_at : List Form → List ℕ → (rex opcode : ℕ) → List ℕ → Result (Instr × List ℕ) Miss
led_at rows [] rex opcode bytes = Err Differs
led_at rows (k ∷ ks) rex opcode bytes = or_else (maybe_led (slice_get rows k) rex opcode bytes) (led_at rows ks rex opcode bytes)

-- an instruction by the row that was chosen
abbrev pub read_chosen : Option Form → (rex opcode : ℕ) → List ℕ → Result (Instr × List ℕ) Miss
read_chosen None rex opcode bytes = Err Differs
read_chosen (Some f) rex opcode bytes = row_behind (form_view f) rex opcode bytes

abbrev pub chosen_at : List Form → List ℕ → (rex opcode : ℕ) → List ℕ → Result (Instr × List ℕ) Miss
chosen_at rows numbers rex opcode bytes = read_chosen (chosen rows numbers rex bytes) rex opcode bytes

no_bytes : (bytes : List ℕ) → bytes_at 0 bytes ≡ pair [] bytes
unfolding bytes_at
no_bytes bytes = ap (λ (t : Bool). cond t (Err Ends) (pair (take 0 bytes) (drop 0 bytes))) (le-ltb (length bytes) 0 (omega arith))

-- ModRM 0 has neither SIB nor displacement
pub operand_at_zero : (rex : ℕ) (bytes : List ℕ) → operand_behind rex 0 bytes ≡ pair (operand_of rex 0 0 (pos 0)) bytes
operand_at_zero rex bytes =
    ap (λ (r : Result (List ℕ × List ℕ) Miss). r >>= (λ sib. bytes_at (disp_len 0 (slice_index sib.0 0)) sib.1 >>= (λ disp. pair (operand_of rex 0 (slice_index sib.0 0) (signed_of disp.0)) disp.1))) (no_bytes bytes)
    ∙ ap (λ (r : Result (List ℕ × List ℕ) Miss). r >>= (λ disp. pair (operand_of rex 0 0 (signed_of disp.0)) disp.1)) (no_bytes bytes)

-- ---- the bytes before the opcode

abbrev pub clear_rex : Pattern
clear_rex = record { mask = 0xf8; value = 0x40; below = 256 }

abbrev pub set_rex : Pattern
set_rex = record { mask = 0xf8; value = 0x48; below = 256 }

-- a REX of this kind before the bytes
abbrev pub rexed : Rex → (rex : ℕ) → List ℕ → List ℕ
rexed NoRex rex bytes = bytes
rexed ClearRex rex bytes = rex ∷ bytes
rexed SetRex rex bytes = rex ∷ bytes

-- 0f before the bytes, or not
abbrev pub escaped_by : Bool → List ℕ → List ℕ
escaped_by false bytes = bytes
escaped_by true bytes = 0x0f ∷ bytes

-- a prefix before the bytes, or none
abbrev pub prefixed : Option ℕ → List ℕ → List ℕ
prefixed None bytes = bytes
prefixed (Some prefix) bytes = prefix ∷ bytes

-- the bytes of an opcode with all that stands before it
abbrev pub opened : Option ℕ → Rex → Bool → (rex opcode : ℕ) → List ℕ → List ℕ
opened prefix kind escaped rex opcode bytes = prefixed prefix (rexed kind rex (escaped_by escaped (opcode ∷ bytes)))

-- the byte is a REX of this kind; 0 stands for none
abbrev pub RexIs : Rex → ℕ → Type 0
RexIs NoRex rex = rex ≡ 0
RexIs ClearRex rex = has clear_rex rex ≡ true
RexIs SetRex rex = has set_rex rex ≡ true

abbrev past : Bool → Bool → Bool
past t u = not t || u

past_test : (t u : Bool) → past t u ≡ true → t ≡ true → u ≡ true
past_test true u e h = e
past_test false u e h = absurd cc

abbrev not_clear : ℕ → Bool
not_clear b = not (eqb b 0) && not (eqb (b / 8 % 2) 1)

abbrev not_set : ℕ → Bool
not_set b = not (eqb b 0) && eqb (b / 8 % 2) 1

-- the kind is read off the byte
pub rex_kind : (kind : Rex) (rex : ℕ) → rex < 256 → RexIs kind rex → rex_at rex ≡ kind
rex_kind NoRex rex l h = rw h refl
rex_kind ClearRex rex l h =
    let t = past_test _ _ (agree_below_at (λ b. past (has clear_rex b) (not_clear b)) (λ _. true) 256 rex refl l) h in
    let a = and_parts (not (eqb rex 0)) (not (eqb (rex / 8 % 2) 1)) t in
    rw (not-true _ a.0, not-true _ a.1) refl
rex_kind SetRex rex l h =
    let t = past_test _ _ (agree_below_at (λ b. past (has set_rex b) (not_set b)) (λ _. true) 256 rex refl l) h in
    let a = and_parts (not (eqb rex 0)) (eqb (rex / 8 % 2) 1) t in
    rw (not-true _ a.0, a.1) refl

-- ---- one place after another

abbrev is_empty : Option Pattern → Bool
is_empty None = true
is_empty (Some p) = false

abbrev is_escape : Bool → Option Pattern → Bool
is_escape false o = is_empty o
is_escape true None = false
is_escape true (Some p) = has p 0x0f

abbrev is_first : Option ℕ → Option Pattern → Bool
is_first None o = is_empty o
is_first (Some prefix) None = false
is_first (Some prefix) (Some p) = has p prefix

empty_byte : (o : Option Pattern) (bytes : List ℕ) → is_empty o ≡ true → byte_at o bytes ≡ pair 0 bytes
unfolding byte_at
empty_byte None bytes e = refl
empty_byte (Some p) bytes e = absurd cc

full_byte : (p : Pattern) (b : ℕ) (bytes : List ℕ) → has p b ≡ true → byte_at (Some p) (b ∷ bytes) ≡ pair b bytes
unfolding byte_at
full_byte p b bytes e = ap (λ (t : Bool). cond t (pair b bytes) (Err Differs)) e

rex_byte : (kind : Rex) (rex : ℕ) (bytes : List ℕ) → RexIs kind rex → byte_at (rex_pattern kind) (rexed kind rex bytes) ≡ pair rex bytes
rex_byte NoRex rex bytes h = empty_byte None bytes refl ∙ ap (λ (k : ℕ). pair k bytes) (sym h)
rex_byte ClearRex rex bytes h = full_byte clear_rex rex bytes h
rex_byte SetRex rex bytes h = full_byte set_rex rex bytes h

escape_byte : (escaped : Bool) (o : Option Pattern) (bytes : List ℕ) → is_escape escaped o ≡ true → (cell : ℕ) × (byte_at o (escaped_by escaped bytes) ≡ pair cell bytes)
escape_byte false o bytes e = (0, empty_byte o bytes e)
escape_byte true None bytes e = absurd cc
escape_byte true (Some p) bytes e = (0x0f, full_byte p 0x0f bytes e)

first_byte : (prefix : Option ℕ) (o : Option Pattern) (bytes : List ℕ) → is_first prefix o ≡ true → (cell : ℕ) × (byte_at o (prefixed prefix bytes) ≡ pair cell bytes)
first_byte None o bytes e = (0, empty_byte o bytes e)
first_byte (Some prefix) None bytes e = absurd cc
first_byte (Some prefix) (Some p) bytes e = (prefix, full_byte p prefix bytes e)

-- a cell before the cells that were read
abbrev after_cell : ℕ → Result (List ℕ × List ℕ) Miss → Result (List ℕ × List ℕ) Miss
after_cell cell r = r >>= (λ x. pair (cell ∷ x.0) x.1)

cells_step : (o : Option Pattern) (os : List (Option Pattern)) (cell : ℕ) (bytes rest : List ℕ) → byte_at o bytes ≡ pair cell rest → cells_at (o ∷ os) bytes ≡ after_cell cell (cells_at os rest)
unfolding cells_at
cells_step o os cell bytes rest e = ap (λ (r : Result (ℕ × List ℕ) Miss). r >>= (λ x. cells_at os x.1 >>= (λ y. pair (x.0 ∷ y.0) y.1))) e

-- the cells of the opcode and of ModRM, once the opcode was read
abbrev last_cells : Option Pattern → Result (ℕ × List ℕ) Miss → Result (List ℕ × List ℕ) Miss
last_cells m opcode = opcode >>= (λ x. after_cell x.0 (byte_at m x.1 >>= (λ y. pair (y.0 ∷ []) y.1)))

last_places : (op : Pattern) (m : Option Pattern) (bytes : List ℕ) → cells_at (Some op ∷ m ∷ []) bytes ≡ last_cells m (byte_at (Some op) bytes)
unfolding cells_at
last_places op m bytes = refl

-- the byte by which a row is found is its opcode, or the second byte before it
abbrev pub opens : (escape2 : Option Pattern) → Pattern → ℕ → Bool
opens None opcode found = has opcode found
opens (Some p) opcode found = has p found

abbrev second_cell : Option Pattern → ℕ → ℕ
second_cell None found = 0
second_cell (Some p) found = found

cells_found : (g : Option Pattern) (op : Pattern) (m : Option Pattern) (found : ℕ) (bytes : List ℕ) → opens g op found ≡ true →
    cells_at (g ∷ Some op ∷ m ∷ []) (found ∷ bytes) ≡ after_cell (second_cell g found) (last_cells m (opcode_from g op found bytes))
cells_found None op m found bytes h =
    cells_step None (Some op ∷ m ∷ []) 0 (found ∷ bytes) (found ∷ bytes) (empty_byte None (found ∷ bytes) refl)
    ∙ ap (after_cell 0) (last_places op m (found ∷ bytes) ∙ ap (last_cells m) (full_byte op found bytes h))
cells_found (Some p) op m found bytes h =
    cells_step (Some p) (Some op ∷ m ∷ []) found (found ∷ bytes) bytes (full_byte p found bytes h)
    ∙ ap (after_cell found) (last_places op m bytes)

abbrev all_cells : (first rex escape second : ℕ) → Option Pattern → Result (ℕ × List ℕ) Miss → Result (List ℕ × List ℕ) Miss
all_cells first rex escape second m opcode = after_cell first (after_cell 0 (after_cell 0 (after_cell rex (after_cell escape (after_cell second (last_cells m opcode))))))

cells_behind : (a b d rx e g : Option Pattern) (op : Pattern) (m : Option Pattern) (first rex cell found : ℕ) (whole behind escape bytes : List ℕ) → byte_at a whole ≡ pair first behind →
    is_empty b ≡ true → is_empty d ≡ true → byte_at rx behind ≡ pair rex escape → byte_at e escape ≡ pair cell (found ∷ bytes) → opens g op found ≡ true →
    cells_at (a ∷ b ∷ d ∷ rx ∷ e ∷ g ∷ Some op ∷ m ∷ []) whole ≡ all_cells first rex cell (second_cell g found) m (opcode_from g op found bytes)
cells_behind a b d rx e g op m first rex cell found whole behind escape bytes ha hb hd hr he ho =
    let at_escape = cells_step e (g ∷ Some op ∷ m ∷ []) cell escape (found ∷ bytes) he ∙ ap (after_cell cell) (cells_found g op m found bytes ho) in
    let at_rex = cells_step rx (e ∷ g ∷ Some op ∷ m ∷ []) rex behind escape hr ∙ ap (after_cell rex) at_escape in
    let at_third = cells_step d (rx ∷ e ∷ g ∷ Some op ∷ m ∷ []) 0 behind behind (empty_byte d behind hd) ∙ ap (after_cell 0) at_rex in
    let at_next = cells_step b (d ∷ rx ∷ e ∷ g ∷ Some op ∷ m ∷ []) 0 behind behind (empty_byte b behind hb) ∙ ap (after_cell 0) at_third in
    cells_step a (b ∷ d ∷ rx ∷ e ∷ g ∷ Some op ∷ m ∷ []) first whole behind ha ∙ ap (after_cell first) at_next

-- ---- a row

-- the row has this prefix alone, 0f where it stands, and this byte as its opcode or as the second byte before it
abbrev pub begins_so : Option ℕ → Bool → ℕ → table.Form → Bool
begins_so prefix escaped found f = is_first prefix f.first && (is_empty f.second && (is_empty f.third && (is_escape escaped f.escape && opens f.escape2 f.opcode found)))

abbrev from_cells : table.Form → List ℕ × List ℕ → Result (Instr × List ℕ) Miss
from_cells f x = do
  rm ← operand_at x.0 x.1
  imm ← bytes_at (imm_len f.imm) rm.1
  pair (instr_of f.kind (fields_in x.0 rm.0 imm.0)) imm.1

abbrev from_modrm : table.Form → (rex opcode : ℕ) → ℕ × List ℕ → Result (Instr × List ℕ) Miss
from_modrm f rex opcode x = do
  rm ← operand_behind rex x.0 x.1
  imm ← bytes_at (imm_len f.imm) rm.1
  pair (instr_of f.kind (fields_of rex opcode x.0 rm.0 imm.0)) imm.1

abbrev from_opcode : table.Form → (rex : ℕ) → ℕ × List ℕ → Result (Instr × List ℕ) Miss
from_opcode f rex x = byte_at f.modrm x.1 >>= from_modrm f rex x.0

same_fields : (f : table.Form) (first rex cell second : ℕ) (opcode : Result (ℕ × List ℕ) Miss) → (all_cells first rex cell second f.modrm opcode >>= from_cells f) ≡ (opcode >>= from_opcode f rex)
unfolding operand_at
same_fields f first rex cell second (Err m) = refl
same_fields f first rex cell second (Ok x) = at_modrm (byte_at f.modrm x.1)
  where
    at_modrm : (modrm : Result (ℕ × List ℕ) Miss) → (after_cell first (after_cell 0 (after_cell 0
        (after_cell rex (after_cell cell (after_cell second (after_cell x.0 (modrm >>= (λ y. pair (y.0 ∷ []) y.1)))))))) >>= from_cells f) ≡ (modrm >>= from_modrm f rex x.0)
    at_modrm (Ok y) = refl
    at_modrm (Err m) = refl

read_as_cells : (f : table.Form) (kind : Rex) (bytes : List ℕ) → read_at f kind bytes ≡ (cells_at (places f kind) bytes >>= from_cells f)
unfolding read_at
read_as_cells f kind bytes = refl

behind_as_opcode : (f : table.Form) (rex found : ℕ) (bytes : List ℕ) → row_behind f rex found bytes ≡ (opcode_from f.escape2 f.opcode found bytes >>= from_opcode f rex)
unfolding row_behind
behind_as_opcode f rex found bytes = refl

read_behind : (f : table.Form) (prefix : Option ℕ) (kind : Rex) (escaped : Bool) (rex found : ℕ) (bytes : List ℕ) → RexIs kind rex → begins_so prefix escaped found f ≡ true →
    read_at f kind (opened prefix kind escaped rex found bytes) ≡ row_behind f rex found bytes
read_behind f prefix kind escaped rex found bytes h t =
    let a = and_parts (is_first prefix f.first) _ t in
    let b = and_parts (is_empty f.second) _ a.1 in
    let d = and_parts (is_empty f.third) _ b.1 in
    let e = and_parts (is_escape escaped f.escape) (opens f.escape2 f.opcode found) d.1 in
    let escape = escaped_by escaped (found ∷ bytes) in
    let behind = rexed kind rex escape in
    let whole = prefixed prefix behind in
    let r = first_byte prefix f.first behind a.0 in
    let s = escape_byte escaped f.escape (found ∷ bytes) e.0 in
    let cells = cells_behind f.first f.second f.third (rex_pattern kind) f.escape f.escape2 f.opcode f.modrm r.0 rex s.0 found whole behind escape bytes r.1 b.0 d.0 (rex_byte kind rex escape h) s.1 e.1 in
    read_as_cells f kind whole ∙ ap (λ (r : Result (List ℕ × List ℕ) Miss). r >>= from_cells f) cells ∙
    same_fields f r.0 rex s.0 (second_cell f.escape2 found) (opcode_from f.escape2 f.opcode found bytes) ∙ sym (behind_as_opcode f rex found bytes)

-- ---- one REX alone

abbrev others_blocked : List Pattern → Rex → table.Form → Bool
others_blocked chain NoRex f = blocked_by chain f ClearRex && blocked_by chain f SetRex
others_blocked chain ClearRex f = blocked_by chain f NoRex && blocked_by chain f SetRex
others_blocked chain SetRex f = blocked_by chain f NoRex && blocked_by chain f ClearRex

differs_twice : {A : Type 0} (r : Result A Miss) → or_else (or_else r (Err Differs)) (Err Differs) ≡ r
differs_twice (Ok x) = refl
differs_twice (Err Ends) = refl
differs_twice (Err Differs) = refl

differs_round : {A : Type 0} (r : Result A Miss) → or_else (or_else (Err Differs) r) (Err Differs) ≡ r
differs_round (Ok x) = refl
differs_round (Err Ends) = refl
differs_round (Err Differs) = refl

row_one : (chain : List Pattern) (kind : Rex) (f : table.Form) (bytes rest : List ℕ) → others_blocked chain kind f ≡ true → run chain bytes ≡ Ok rest → row_at f bytes ≡ form_at f kind bytes
unfolding row_at
row_one chain NoRex f bytes rest t e =
    let a = and_parts (blocked_by chain f ClearRex) (blocked_by chain f SetRex) t in
    rw (form_blocked chain f ClearRex bytes rest a.0 e, form_blocked chain f SetRex bytes rest a.1 e) (differs_twice (form_at f NoRex bytes))
row_one chain ClearRex f bytes rest t e =
    let a = and_parts (blocked_by chain f NoRex) (blocked_by chain f SetRex) t in
    rw (form_blocked chain f NoRex bytes rest a.0 e, form_blocked chain f SetRex bytes rest a.1 e) (differs_round (form_at f ClearRex bytes))
row_one chain SetRex f bytes rest t e =
    let a = and_parts (blocked_by chain f NoRex) (blocked_by chain f ClearRex) t in
    rw (form_blocked chain f NoRex bytes rest a.0 e, form_blocked chain f ClearRex bytes rest a.1 e) (or_differs (form_at f SetRex bytes))

form_led : (f : table.Form) (prefix : Option ℕ) (kind : Rex) (escaped : Bool) (rex opcode : ℕ) (bytes : List ℕ) → rex < 256 → RexIs kind rex → begins_so prefix escaped opcode f ≡ true →
    form_at f kind (opened prefix kind escaped rex opcode bytes) ≡ row_led f rex opcode bytes
unfolding form_at
form_led f prefix kind escaped rex opcode bytes l h t =
    ap (λ (r : Result (Instr × List ℕ) Miss). cond (allows f.wide kind) r (Err Differs)) (read_behind f prefix kind escaped rex opcode bytes h t)
    ∙ ap (λ (k : Rex). cond (allows f.wide k) (row_behind f rex opcode bytes) (Err Differs)) (sym (rex_kind kind rex l h))

-- ---- rows by their numbers

abbrev fits_one : List Pattern → Option ℕ → Rex → Bool → ℕ → Option Form → Bool
fits_one chain prefix kind escaped opcode None = true
fits_one chain prefix kind escaped opcode (Some f) = begins_so prefix escaped opcode (form_view f) && others_blocked chain kind (form_view f)

-- each row with one of these numbers begins so, and no other REX stands there
abbrev pub fits_all : List Pattern → Option ℕ → Rex → Bool → ℕ → List Form → List ℕ → Bool
fits_all chain prefix kind escaped opcode rows [] = true
fits_all chain prefix kind escaped opcode rows (k ∷ ks) = fits_one chain prefix kind escaped opcode (slice_get rows k) && fits_all chain prefix kind escaped opcode rows ks

-- so they read what they read behind the opcode
pub led_is : (chain : List Pattern) (prefix : Option ℕ) (kind : Rex) (escaped : Bool) (rex opcode : ℕ) (bytes rest : List ℕ) (rows : List Form) (ks : List ℕ) → rex < 256 → RexIs kind rex →
    run chain (opened prefix kind escaped rex opcode bytes) ≡ Ok rest → fits_all chain prefix kind escaped opcode rows ks ≡ true →
    some_at rows ks (opened prefix kind escaped rex opcode bytes) ≡ led_at rows ks rex opcode bytes
unfolding some_at led_at
led_is chain prefix kind escaped rex opcode bytes rest rows [] l h e t = refl
led_is chain prefix kind escaped rex opcode bytes rest rows (k ∷ ks) l h e t =
    let a = and_parts (fits_one chain prefix kind escaped opcode (slice_get rows k)) (fits_all chain prefix kind escaped opcode rows ks) t in
    ap (λ (r : Result (Instr × List ℕ) Miss). or_else r (some_at rows ks whole)) (one (slice_get rows k) a.0)
    ∙ ap (or_else (maybe_led (slice_get rows k) rex opcode bytes)) (led_is chain prefix kind escaped rex opcode bytes rest rows ks l h e a.1)
  where
    whole : List ℕ
    whole = opened prefix kind escaped rex opcode bytes

    one : (o : Option Form) → fits_one chain prefix kind escaped opcode o ≡ true → maybe_row_at o whole ≡ maybe_led o rex opcode bytes
    one None t = refl
    one (Some f) t =
        let a = and_parts (begins_so prefix escaped opcode (form_view f)) (others_blocked chain kind (form_view f)) t in
        row_one chain kind (form_view f) whole rest a.1 e ∙ form_led (form_view f) prefix kind escaped rex opcode bytes l h a.0

-- ---- one row alone

-- no REX of this kind goes with both rows
abbrev wide_apart : table.Form → table.Form → Rex → Bool
wide_apart f g kind = not (allows f.wide kind) || not (allows g.wide kind)

abbrev wides_apart : table.Form → table.Form → Bool
wides_apart f g = wide_apart f g NoRex && (wide_apart f g ClearRex && wide_apart f g SetRex)

abbrev next_apart : Option Pattern → Option Pattern → Bool
next_apart None o = false
next_apart (Some p) None = false
next_apart (Some p) (Some q) = clash p q

abbrev next_in : table.Form → Option Pattern
next_in f = next_of f.escape2 f.opcode f.modrm

abbrev rows_apart : table.Form → Option Form → Bool
rows_apart f None = true
rows_apart f (Some g) = wides_apart f (form_view g) || next_apart (next_in f) (next_in (form_view g))

abbrev apart_from_all : table.Form → List Form → List ℕ → Bool
apart_from_all f rows [] = true
apart_from_all f rows (k ∷ ks) = rows_apart f (slice_get rows k) && apart_from_all f rows ks

abbrev first_apart : Option Form → List Form → List ℕ → Bool
first_apart None rows ks = true
first_apart (Some f) rows ks = apart_from_all (form_view f) rows ks

-- each row is apart from the later ones: no bytes go with both
abbrev pub all_apart : List Form → List ℕ → Bool
all_apart rows [] = true
all_apart rows (k ∷ ks) = first_apart (slice_get rows k) rows ks && all_apart rows ks

differs_last : {A : Type 0} (r : Result A Miss) → or_else r (Err Differs) ≡ r
differs_last (Ok x) = refl
differs_last (Err Ends) = refl
differs_last (Err Differs) = refl

other_byte : (o : Option Pattern) (bytes : List ℕ) → takes_next o bytes ≡ false → byte_at o bytes ≡ Err Differs
unfolding byte_at
other_byte None bytes e = absurd cc
other_byte (Some p) [] e = absurd cc
other_byte (Some p) (b ∷ bytes) e = ap (λ (t : Bool). cond t (pair b bytes) (Err Differs)) e

-- where the next byte isn't read, nothing is
missed_next : (g : Option Pattern) (op : Pattern) (m : Option Pattern) (found : ℕ) (bytes : List ℕ) (k : ℕ → ℕ × List ℕ → Result (Instr × List ℕ) Miss) (miss : Miss) →
    byte_at (next_of g op m) bytes ≡ Err miss → (opcode_from g op found bytes >>= (λ x. byte_at m x.1 >>= k x.0)) ≡ Err miss
missed_next None op m found bytes k miss e = ap (λ (r : Result (ℕ × List ℕ) Miss). r >>= k found) e
missed_next (Some p) op m found bytes k miss e = ap (λ (r : Result (ℕ × List ℕ) Miss). r >>= (λ x. byte_at m x.1 >>= k x.0)) e

missed : (f : table.Form) (rex found : ℕ) (bytes : List ℕ) (miss : Miss) → byte_at (next_in f) bytes ≡ Err miss → row_behind f rex found bytes ≡ Err miss
missed f rex found bytes miss e = behind_as_opcode f rex found bytes ∙ missed_next f.escape2 f.opcode f.modrm found bytes (from_modrm f rex) miss e

-- a row that doesn't take the bytes reads nothing
not_taken : (f : table.Form) (rex opcode : ℕ) (bytes : List ℕ) → takes f rex bytes ≡ false → row_led f rex opcode bytes ≡ Err Differs
not_taken f rex opcode bytes e =
    elim (and_cases (allows f.wide (rex_at rex)) (takes_next (next_in f) bytes) e) [
      | inl h ↦ ap (λ (t : Bool). cond t (row_behind f rex opcode bytes) (Err Differs)) h
      | inr h ↦ ap (λ (r : Result (Instr × List ℕ) Miss). cond (allows f.wide (rex_at rex)) r (Err Differs)) (missed f rex opcode bytes Differs (other_byte (next_in f) bytes h)) ∙ same (allows f.wide (rex_at rex))
    ]
  where
    nothing : Result (Instr × List ℕ) Miss
    nothing = Err Differs

    same : (t : Bool) → cond t nothing nothing ≡ nothing
    same true = refl
    same false = refl

abbrev BothEnd : Option Pattern → Option Pattern → List ℕ → Type 0
BothEnd o q bytes = (byte_at o bytes ≡ Err Ends) × (byte_at q bytes ≡ Err Ends)

next_alone : (o q : Option Pattern) (bytes : List ℕ) → next_apart o q ≡ true → takes_next o bytes ≡ true → BothEnd o q bytes ⊎ (takes_next q bytes ≡ false)
unfolding byte_at
next_alone None q bytes c e = absurd cc
next_alone (Some p) None bytes c e = absurd cc
next_alone (Some p) (Some q) [] c e = inl (refl, refl)
next_alone (Some p) (Some q) (b ∷ bytes) c e = go (has q b) refl
  where
    go : (t : Bool) → has q b ≡ t → BothEnd (Some p) (Some q) (b ∷ bytes) ⊎ (has q b ≡ false)
    go true h = absurd (clash_apart p q b c e h)
    go false h = inr h

past_no : (t u : Bool) → (not t || not u) ≡ true → t ≡ true → u ≡ false
past_no true true e h = absurd cc
past_no true false e h = refl
past_no false u e h = absurd cc

wide_at : (f g : table.Form) (kind : Rex) → wides_apart f g ≡ true → wide_apart f g kind ≡ true
wide_at f g NoRex t = (and_parts (wide_apart f g NoRex) _ t).0
wide_at f g ClearRex t = (and_parts (wide_apart f g ClearRex) _ (and_parts (wide_apart f g NoRex) _ t).1).0
wide_at f g SetRex t = (and_parts (wide_apart f g ClearRex) _ (and_parts (wide_apart f g NoRex) _ t).1).1

not_allowed : (g : table.Form) (rex opcode : ℕ) (bytes : List ℕ) → allows g.wide (rex_at rex) ≡ false → row_led g rex opcode bytes ≡ Err Differs
not_allowed g rex opcode bytes e = ap (λ (t : Bool). cond t (row_behind g rex opcode bytes) (Err Differs)) e

both_end : (f g : table.Form) (rex opcode : ℕ) (bytes : List ℕ) → BothEnd (next_in f) (next_in g) bytes → or_else (row_behind f rex opcode bytes) (row_led g rex opcode bytes) ≡ row_behind f rex opcode bytes
both_end f g rex opcode bytes h =
    let here = missed f rex opcode bytes Ends h.0 in
    ap (λ (r : Result (Instr × List ℕ) Miss). or_else r (row_led g rex opcode bytes)) here
    ∙ ap (λ (r : Result (Instr × List ℕ) Miss). or_else ends (cond (allows g.wide (rex_at rex)) r (Err Differs))) (missed g rex opcode bytes Ends h.1)
    ∙ same (allows g.wide (rex_at rex))
    ∙ sym here
  where
    ends : Result (Instr × List ℕ) Miss
    ends = Err Ends

    same : (t : Bool) → or_else ends (cond t ends (Err Differs)) ≡ ends
    same true = refl
    same false = refl

-- beside a row that takes the bytes, one that is apart from it reads nothing more
beside : (f : table.Form) (o : Option Form) (rex opcode : ℕ) (bytes : List ℕ) → takes f rex bytes ≡ true → rows_apart f o ≡ true →
    or_else (row_behind f rex opcode bytes) (maybe_led o rex opcode bytes) ≡ row_behind f rex opcode bytes
beside f None rex opcode bytes e t = differs_last (row_behind f rex opcode bytes)
beside f (Some x) rex opcode bytes e t =
    elim (or_cases (wides_apart f (form_view x)) (next_apart (next_in f) (next_in (form_view x))) t) [
      | inl h ↦ without (not_allowed (form_view x) rex opcode bytes (past_no _ _ (wide_at f (form_view x) (rex_at rex) h) took.0))
      | inr h ↦ elim (next_alone (next_in f) (next_in (form_view x)) bytes h took.1) [
        | inl both ↦ both_end f (form_view x) rex opcode bytes both
        | inr other ↦ without (not_taken (form_view x) rex opcode bytes (lost (allows (form_view x).wide (rex_at rex)) other))
      ]
    ]
  where
    took : (allows f.wide (rex_at rex) ≡ true) × (takes_next (next_in f) bytes ≡ true)
    took = and_parts (allows f.wide (rex_at rex)) (takes_next (next_in f) bytes) e

    without : row_led (form_view x) rex opcode bytes ≡ Err Differs → or_else (row_behind f rex opcode bytes) (row_led (form_view x) rex opcode bytes) ≡ row_behind f rex opcode bytes
    without h = ap (or_else (row_behind f rex opcode bytes)) h ∙ differs_last (row_behind f rex opcode bytes)

    lost : (t : Bool) → takes_next (next_in (form_view x)) bytes ≡ false → (t && takes_next (next_in (form_view x)) bytes) ≡ false
    lost true other = other
    lost false other = refl

beside_all : (f : table.Form) (rows : List Form) (ks : List ℕ) (rex opcode : ℕ) (bytes : List ℕ) → takes f rex bytes ≡ true → apart_from_all f rows ks ≡ true →
    or_else (row_behind f rex opcode bytes) (led_at rows ks rex opcode bytes) ≡ row_behind f rex opcode bytes
unfolding led_at
beside_all f rows [] rex opcode bytes e t = differs_last (row_behind f rex opcode bytes)
beside_all f rows (k ∷ ks) rex opcode bytes e t =
    let a = and_parts (rows_apart f (slice_get rows k)) (apart_from_all f rows ks) t in
    sym (or_else-assoc (row_behind f rex opcode bytes) (maybe_led (slice_get rows k) rex opcode bytes) (led_at rows ks rex opcode bytes))
    ∙ ap (λ (r : Result (Instr × List ℕ) Miss). or_else r (led_at rows ks rex opcode bytes)) (beside f (slice_get rows k) rex opcode bytes e a.0)
    ∙ beside_all f rows ks rex opcode bytes e a.1

-- the first row that takes the bytes reads what all of them read
pub chosen_is : (rows : List Form) (ks : List ℕ) (rex opcode : ℕ) (bytes : List ℕ) → all_apart rows ks ≡ true → led_at rows ks rex opcode bytes ≡ chosen_at rows ks rex opcode bytes
unfolding led_at chosen
chosen_is rows [] rex opcode bytes t = refl
chosen_is rows (k ∷ ks) rex opcode bytes t =
    let a = and_parts (first_apart (slice_get rows k) rows ks) (all_apart rows ks) t in
    go (slice_get rows k) (chosen_is rows ks rex opcode bytes a.1) a.0
  where
    go : (o : Option Form) → led_at rows ks rex opcode bytes ≡ chosen_at rows ks rex opcode bytes → first_apart o rows ks ≡ true →
        or_else (maybe_led o rex opcode bytes) (led_at rows ks rex opcode bytes) ≡ read_chosen (or_later (taker o rex bytes) (chosen rows ks rex bytes)) rex opcode bytes
    go None ih t = or_differs (led_at rows ks rex opcode bytes) ∙ ih
    go (Some x) ih t = step (takes (form_view x) rex bytes) refl
      where
        step : (u : Bool) → takes (form_view x) rex bytes ≡ u → or_else (row_led (form_view x) rex opcode bytes) (led_at rows ks rex opcode bytes) ≡ read_chosen (or_later (form_if u x) (chosen rows ks rex bytes)) rex opcode bytes
        step true e =
            ap (λ (u : Bool). or_else (cond u (row_behind (form_view x) rex opcode bytes) (Err Differs)) (led_at rows ks rex opcode bytes)) (and_parts (allows (form_view x).wide (rex_at rex)) (takes_next (next_in (form_view x)) bytes) e).0
            ∙ beside_all (form_view x) rows ks rex opcode bytes e t
        step false e =
            ap (λ (r : Result (Instr × List ℕ) Miss). or_else r (led_at rows ks rex opcode bytes)) (not_taken (form_view x) rex opcode bytes e)
            ∙ or_differs (led_at rows ks rex opcode bytes)
            ∙ ih
