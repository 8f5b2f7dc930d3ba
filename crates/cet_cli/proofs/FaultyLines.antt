-- The first faulty word of what is no line of a table, where its reader stops.
use Rattle.std.proofs.Common.{ℕ, ◌+◌, ◌≡◌, true, false, List, [], ◌∷◌, ◌++◌, length, take, Some, None, refl, sym, ap, ◌∙◌, subst, arith, append_assoc, length-append}
use Rattle.std.specs.Prelude.{option_and_then}
use Rattle.std.proofs.lemmas.List.{take_at}
use Rattle.cet_cli.specs.Grammar.{Begins, CommandRow, FaultyWord, Given, IsAmong, IsIn, IsLine}
use Rattle.cet_cli.specs.Reader.{Reader, find_command, may_end, start, step}
use Rattle.cet_cli.proofs.ReaderSteps.{steps}
use Rattle.cet_cli.proofs.Faulty.{faulty_after, faulty_here}
use Rattle.cet_cli.proofs.LineReads.{Line, goes_on, line_read, read_line}
use Rattle.cet_cli.specs.GoodTable.{good_table}
use Rattle.cet_cli.proofs.Tables.{command_found, first_row, good_among}
use Rattle.cet_cli.proofs.WordSteps.{Valid, steps_append, then_parts, valid_start, valid_steps}

module _ {C O S : Type 0} (keep : S → Given O → S) (table : List (CommandRow C O)) (good : good_table table ≡ true) (kept : S) where
  -- a line of the row
  in_table : (row : CommandRow C O) (words : List (List ℕ)) → IsAmong row table → Line keep row words → IsIn table words
  in_table row words m l = record { row = row; among = m; operands = l.operands; given = l.given; line = l.line }

  -- a row by its word
  pub same_row : (row other : CommandRow C O) → IsAmong row table → IsAmong other table → row.word ≡ other.word → row ≡ other
  same_row row other m n e =
      let f = command_found table good row m in
      let g = command_found table good other n in
      let h : find_command table row.word ≡ Some other = ap (find_command table) e ∙ g in
      let same : Some row ≡ Some other = sym f ∙ h in
      cc

  -- every accepted list with the row's word is read by it
  pub accepted_read : (row : CommandRow C O) (tail : List (List ℕ)) → IsAmong row table → IsIn table (row.word ∷ tail) → (last : Reader C O S) × (steps keep (start row kept) tail ≡ Some last) × (may_end last ≡ true)
  accepted_read row tail m is =
      let whole : row.word ∷ tail ≡ is.row.word ∷ (is.operands ++ is.line.options) = is.line.whole in
      let words : row.word ≡ is.row.word = cc in
      let same : is.row ≡ row = sym (same_row row is.row m is.among words) in
      let line : IsLine row is.operands is.given (row.word ∷ tail) = subst (λ (x : CommandRow C O). IsLine x is.operands is.given (row.word ∷ tail)) same is.line in
      let l = line_read keep row (good_among table good row m) kept is.operands is.given tail line in
      (l.last, l.read, l.ends)

  pub read_accepted : (row : CommandRow C O) (tail : List (List ℕ)) (last : Reader C O S) → IsAmong row table → steps keep (start row kept) tail ≡ Some last → may_end last ≡ true → IsIn table (row.word ∷ tail)
  read_accepted row tail last m e h =
      in_table row (row.word ∷ tail) m (read_line keep row kept tail last (valid_start keep row (good_among table good row m) kept) e h)

  pub valid_read : (row : CommandRow C O) (ws : List (List ℕ)) (r : Reader C O S) → IsAmong row table → steps keep (start row kept) ws ≡ Some r → Valid keep row r
  valid_read row ws r m e = valid_steps keep row ws (start row kept) r (valid_start keep row (good_among table good row m) kept) e

  -- accepted lists begin with what was read
  begins_read : (row : CommandRow C O) (ws : List (List ℕ)) (r : Reader C O S) → IsAmong row table → steps keep (start row kept) ws ≡ Some r → Begins (IsIn table) (row.word ∷ ws)
  begins_read row ws r m e =
      let g = goes_on keep row (good_among table good row m) r (valid_read row ws r m e) in
      let all : steps keep (start row kept) (ws ++ g.words) ≡ Some g.last =
      steps_append keep (start row kept) ws g.words ∙ ap (option_and_then (λ x. steps keep x g.words)) e ∙ g.read in
      (g.words, read_accepted row (ws ++ g.words) g.last m all g.ends)

  not_read : (row : CommandRow C O) (ws : List (List ℕ)) (w : List ℕ) (r : Reader C O S) → IsAmong row table → steps keep (start row kept) ws ≡ Some r → step keep r w ≡ None →
      Begins (IsIn table) (row.word ∷ (ws ++ w ∷ [])) → ⊥
  not_read row ws w r m e none (rest, is) =
      let a = accepted_read row ((ws ++ w ∷ []) ++ rest) m is in
      let split : steps keep (start row kept) (ws ++ w ∷ rest) ≡ option_and_then (λ x. steps keep x (w ∷ rest)) (steps keep (start row kept) ws) =
      steps_append keep (start row kept) ws (w ∷ rest) in
      let all : steps keep (start row kept) (ws ++ w ∷ rest) ≡ Some a.0 = ap (steps keep (start row kept)) (sym (append_assoc ws (w ∷ []) rest)) ∙ a.1 in
      let here : option_and_then (λ x. steps keep x (w ∷ rest)) (Some r) ≡ Some a.0 = ap (option_and_then (λ x. steps keep x (w ∷ rest))) (sym e) ∙ sym split ∙ all in
      let t = then_parts keep (step keep r w) rest a.0 here in
      let never : None ≡ Some t.0 = sym none ∙ t.1 in
      cc

  -- the reader stops at a word
  pub stops : (row : CommandRow C O) (ws : List (List ℕ)) (w : List ℕ) (rest : List (List ℕ)) (r : Reader C O S) → IsAmong row table → steps keep (start row kept) ws ≡ Some r → step keep r w ≡ None
      → FaultyWord (IsIn table) (row.word ∷ (ws ++ w ∷ rest)) (length ws + 2)
  stops row ws w rest r m e none =
      let words : List (List ℕ) = row.word ∷ (ws ++ w ∷ rest) in
      let n = length-append ws (w ∷ rest) in
      let upto : take (length ws + 1) words ≡ row.word ∷ ws = take_at (row.word ∷ ws) (w ∷ rest) (length ws + 1) (omega arith) in
      let one : take (length ws + 2) words ≡ row.word ∷ (ws ++ w ∷ []) =
      ap (λ (l : List (List ℕ)). take (length ws + 2) (row.word ∷ l)) (sym (append_assoc ws (w ∷ []) rest))
      ∙ take_at (row.word ∷ (ws ++ w ∷ [])) rest (length ws + 2) (let k = length-append ws (w ∷ []) in omega arith) in
      let before : Begins (IsIn table) (take (length ws + 1) words) = subst (Begins (IsIn table)) (sym upto) (begins_read row ws r m e) in
      let here : Begins (IsIn table) (take (length ws + 2) words) → ⊥ = λ b. not_read row ws w r m e none (subst (Begins (IsIn table)) one b) in
      subst (FaultyWord (IsIn table) words) (omega arith) (faulty_here (IsIn table) words (length ws + 1) (omega arith) before (subst (λ k. Begins (IsIn table) (take k words) → ⊥) (omega arith) here))

  -- words are missing
  pub misses : (row : CommandRow C O) (ws : List (List ℕ)) (r : Reader C O S) → IsAmong row table → steps keep (start row kept) ws ≡ Some r → may_end r ≡ false → FaultyWord (IsIn table) (row.word ∷ ws) (length ws + 2)
  misses row ws r m e short =
      let refused : IsIn table (row.word ∷ ws) → ⊥ = λ is.
      (let a = accepted_read row ws m is in
      let same : r ≡ a.0 = (let f = sym e ∙ a.1 in cc) in
      let never : false ≡ true = sym short ∙ ap (λ (x : Reader C O S). may_end x) same ∙ a.2 in
      cc) in
      subst (FaultyWord (IsIn table) (row.word ∷ ws)) (omega arith) (faulty_after (IsIn table) (row.word ∷ ws) refused (begins_read row ws r m e))

  begins_none : Begins (IsIn table) []
  begins_none =
      let first = first_row table good in
      let b = begins_read first.0 [] (start first.0 kept) first.1 refl in
      (first.0.word ∷ b.0, b.1)

  no_line : IsIn table [] → ⊥
  no_line is = let e = is.line.whole in cc

  -- no word at all
  pub no_word : FaultyWord (IsIn table) [] 1
  no_word = faulty_after (IsIn table) [] no_line begins_none

  -- a word of no command
  pub no_command : (word : List ℕ) (words : List (List ℕ)) → find_command table word ≡ None → FaultyWord (IsIn table) (word ∷ words) 1
  no_command word words none = faulty_here (IsIn table) (word ∷ words) 0 (omega arith) begins_none (λ b.
      let is = b.1 in
      let whole : word ∷ b.0 ≡ is.row.word ∷ (is.operands ++ is.line.options) = is.line.whole in
      let same : is.row.word ≡ word = cc in
      let f : find_command table word ≡ Some is.row = ap (find_command table) (sym same) ∙ command_found table good is.row is.among in
      let never : None ≡ Some is.row = sym none ∙ f in
      cc)
