-- Every line of a command is read to its end, what is read to its end is a line, and from everywhere a line goes on.
use Rattle.std.proofs.Common.{ℕ, ◌≡◌, Bool, true, List, [], ◌∷◌, ◌++◌, codes, Option, Some, None, refl, sym, ap, ◌∙◌, subst, inl, inr, append_assoc}
use Rattle.std.specs.Prelude.{option_and_then, slice_set, fold, map}
use Rattle.std.specs.List.{list_all}
use Rattle.std.proofs.lemmas.Bool.{and_parts}
use Rattle.cet_cli.specs.Grammar.{AreApart, AreOptions, AreTaken, AreValues, CommandRow, Given, IsAmong, IsLine, IsSpelled, OptionRow}
use Rattle.cet_cli.specs.GoodTable.{good_values, has_example}
use Rattle.cet_cli.specs.Reader.{Reader, ends_by, equals, filled_by, is_filled, is_open, may_end, none_filled, start, step}
use Rattle.cet_cli.specs.Values.{Value, example, fits}
use Rattle.cet_cli.proofs.ReaderSteps.{steps}
use Rattle.cet_cli.proofs.Filled.{AllOpen, HasEach, Room, fill, fill_all, filled_here, filled_still, has_all, has_more, has_now, open_before, open_first, room_more, still_open}
use Rattle.cet_cli.proofs.Signs.{back_joined, back_none, front_joined, front_whole}
use Rattle.cet_cli.proofs.Tables.{GoodRow}
use Rattle.cet_cli.proofs.WordSteps.{Stepped, Valid, WantsRight, alone, begins, joined, operand, stepped, steps_append, then_parts, valid_step, valued}

no_operands : (ws : List (List ℕ)) → AreValues [] ws → ws ≡ []
no_operands [] h = refl
no_operands (w ∷ ws) h = absurd h

spelled_none : {O : Type 0} (o : OptionRow O) → o.value ≡ None → IsSpelled o.word o.value [] (o.word ∷ [])
spelled_none o q = subst (λ v. IsSpelled o.word v [] (o.word ∷ [])) (sym q) (refl, refl)

spelled_two : {O : Type 0} (o : OptionRow O) (v : Value) (value : List ℕ) → o.value ≡ Some v → fits v value ≡ true → IsSpelled o.word o.value value (o.word ∷ value ∷ [])
spelled_two o v value q f = subst (λ x. IsSpelled o.word x value (o.word ∷ value ∷ [])) (sym q) (f, inl refl)

spelled_one : {O : Type 0} (o : OptionRow O) (v : Value) (value : List ℕ) → o.value ≡ Some v → fits v value ≡ true → IsSpelled o.word o.value value ((o.word ++ codes "=" ++ value) ∷ [])
spelled_one o v value q f = subst (λ x. IsSpelled o.word x value ((o.word ++ codes "=" ++ value) ∷ [])) (sym q) (f, inr refl)

example_given : {O : Type 0} (o : OptionRow O) (v : Option Value) → o.value ≡ v → has_example v ≡ true → (value : List ℕ) × (words : List (List ℕ)) × IsSpelled o.word v value words
example_given o None q h = ([], o.word ∷ [], (refl, refl))
example_given o (Some v) q h = (example v, o.word ∷ example v ∷ [], (h, inl refl))

examples_fit : (vs : List Value) → good_values vs ≡ true → AreValues vs (map example vs)
examples_fit [] h = tt
examples_fit (v ∷ vs) h = let q = and_parts (fits v (example v)) (good_values vs) h in (q.0, examples_fit vs q.1)

module _ {C O S : Type 0} (keep : S → Given O → S) where
  -- a reader between two options or words without a name
  abbrev pub at : CommandRow C O → List Value → List Bool → S → Reader C O S
  at row vs filled kept = record { row = row; operands = vs; wants = None; filled = filled; kept = kept }

  -- ---- lines are read

  spelled_read : (row : CommandRow C O) (good : GoodRow row) (o : OptionRow O) (v : Option Value) (value : List ℕ) (words : List (List ℕ)) (filled : List Bool) (kept : S) → IsAmong o row.options →
      is_open filled o.part ≡ true → o.value ≡ v → IsSpelled o.word v value words
      → steps keep (at row [] filled kept) words ≡ Some (at row [] (slice_set filled o.part true) (keep kept (record { option = o; value = value })))
  spelled_read row good o None value words filled kept m free q (none, is) =
      let sign = (good.option o m).sign in
      rw (is, none, front_whole equals o.word sign, back_none equals o.word sign, good.one o m, free, q) refl
  spelled_read row good o (Some v) value words filled kept m free q (right, inl two) =
      let sign = (good.option o m).sign in
      rw (two, front_whole equals o.word sign, back_none equals o.word sign, good.one o m, free, q, right) refl
  spelled_read row good o (Some v) value words filled kept m free q (right, inr one) =
      let sign = (good.option o m).sign in
      let word : o.word ++ codes "=" ++ value ≡ o.word ++ 61 ∷ value = append_assoc o.word (codes "=") value in
      rw (one, word, front_joined equals o.word value sign, back_joined equals o.word value sign, good.one o m, free, q, right) refl

  option_read : (row : CommandRow C O) (good : GoodRow row) (g : Given O) (words : List (List ℕ)) (filled : List Bool) (kept : S) → IsAmong g.option row.options → is_open filled g.option.part ≡ true →
      IsSpelled g.option.word g.option.value g.value words
      → steps keep (at row [] filled kept) words ≡ Some (at row [] (slice_set filled g.option.part true) (keep kept g))
  option_read row good g words filled kept m free is = spelled_read row good g.option g.option.value g.value words filled kept m free refl is

  operands_read : (row : CommandRow C O) (vs : List Value) (ws : List (List ℕ)) (filled : List Bool) (kept : S) → AreValues vs ws → steps keep (at row vs filled kept) ws ≡ Some (at row [] filled kept)
  operands_read row [] [] filled kept h = refl
  operands_read row [] (w ∷ ws) filled kept h = absurd h
  operands_read row (v ∷ vs) [] filled kept h = absurd h
  operands_read row (v ∷ vs) (w ∷ ws) filled kept h = rw h.0 (operands_read row vs ws filled kept h.1)

  options_read : (row : CommandRow C O) (good : GoodRow row) (gs : List (Given O)) (words : List (List ℕ)) (filled : List Bool) (kept : S) → AreOptions gs words → AreTaken row.options gs → AreApart gs → AllOpen filled gs
      → steps keep (at row [] filled kept) words ≡ Some (at row [] (fill filled gs) (fold keep kept gs))
  options_read row good [] words filled kept is taken apart free = rw is refl
  options_read row good (g ∷ gs) words filled kept (first, rest, spelled, others, is) taken apart free =
      ap (steps keep (at row [] filled kept)) is
      ∙ steps_append keep (at row [] filled kept) first rest
      ∙ ap (option_and_then (λ r. steps keep r rest)) (option_read row good g first filled kept taken.0 free.0 spelled)
      ∙ options_read row good gs rest (slice_set filled g.option.part true) (keep kept g) others taken.1 apart.1 (still_open filled g.option.part gs apart.0 free.1)

  open_all : (row : CommandRow C O) (good : GoodRow row) (gs : List (Given O)) → AreTaken row.options gs → AllOpen none_filled gs
  open_all row good [] taken = tt
  open_all row good (g ∷ gs) taken = (open_first g.option.part (good.option g.option taken.0).room, open_all row good gs taken.1)

  -- where the words of a line lead
  pub record Led (row : CommandRow C O) (kept : S) (operands : List (List ℕ)) (given : List (Given O)) (tail : List (List ℕ)) : Type 0 where
    pub last : Reader C O S
    pub read : steps keep (start row kept) tail ≡ Some last
    pub ends : may_end last ≡ true
    pub kept_are : last.kept ≡ fold keep kept given

  pub line_read : (row : CommandRow C O) (good : GoodRow row) (kept : S) (operands : List (List ℕ)) (given : List (Given O)) (tail : List (List ℕ)) → IsLine row operands given (row.word ∷ tail) → Led row kept operands given tail
  line_read row good kept operands given tail line =
      let whole : row.word ∷ tail ≡ row.word ∷ (operands ++ line.options) = line.whole in
      let e : tail ≡ operands ++ line.options = cc in
      let free = open_all row good given line.taken in
      record {
        last = at row [] (fill none_filled given) (fold keep kept given);
        read = ap (steps keep (start row kept)) e
            ∙ steps_append keep (start row kept) operands line.options
            ∙ ap (option_and_then (λ r. steps keep r line.options)) (operands_read row row.operands operands none_filled kept line.values)
            ∙ options_read row good given line.options none_filled kept line.spelled line.taken line.apart free;
        ends = fill_all none_filled given row.needs free line.apart line.needed;
        kept_are = refl;
      }

  -- ---- what is read is a line

  -- the words go on to the end of a line
  pub record Rest (row : CommandRow C O) (vs : List Value) (filled : List Bool) (ws : List (List ℕ)) : Type 0 where
    pub operands : List (List ℕ)
    pub options : List (List ℕ)
    pub given : List (Given O)
    pub whole : ws ≡ operands ++ options
    pub values : AreValues vs operands
    pub spelled : AreOptions given options
    pub taken : AreTaken row.options given
    pub apart : AreApart given
    pub free : AllOpen filled given
    pub needed : HasEach filled row.needs given

  abbrev pub RestBy : CommandRow C O → Option (OptionRow O) → List Value → List Bool → List (List ℕ) → Type 0
  RestBy row None vs filled ws = Rest row vs filled ws
  RestBy row (Some o) vs filled ws = (value : List ℕ) × (after : List (List ℕ)) × (v : Value) × (o.value ≡ Some v) × (fits v value ≡ true) × (ws ≡ value ∷ after) × Rest row [] (slice_set filled o.part true) after

  abbrev pub RestOf : CommandRow C O → Reader C O S → List (List ℕ) → Type 0
  RestOf row r ws = RestBy row r.wants r.operands r.filled ws

  -- with an option in front
  rest_option : (row : CommandRow C O) (filled : List Bool) (o : OptionRow O) (value : List ℕ) (first ws : List (List ℕ)) → IsAmong o row.options → is_open filled o.part ≡ true →
      IsSpelled o.word o.value value first → Rest row [] (slice_set filled o.part true) ws → Rest row [] filled (first ++ ws)
  rest_option row filled o value first ws m free is rest =
      let g : Given O = record { option = o; value = value } in
      let before = open_before filled o.part rest.given rest.free in
      let none : rest.operands ≡ [] = no_operands rest.operands rest.values in
      let e : ws ≡ rest.options = rest.whole ∙ ap (λ (l : List (List ℕ)). l ++ rest.options) none in
      record {
        operands = [];
        options = first ++ ws;
        given = g ∷ rest.given;
        whole = refl;
        values = tt;
        spelled = (first, rest.options, is, rest.spelled, ap (λ (l : List (List ℕ)). first ++ l) e);
        taken = (m, rest.taken);
        apart = (before.0, rest.apart);
        free = (free, before.1);
        needed = has_more filled g rest.given row.needs rest.needed;
      }

  rest_operand : (row : CommandRow C O) (v : Value) (vs : List Value) (filled : List Bool) (w : List ℕ) (ws : List (List ℕ)) → fits v w ≡ true → Rest row vs filled ws → Rest row (v ∷ vs) filled (w ∷ ws)
  rest_operand row v vs filled w ws f rest = record {
    operands = w ∷ rest.operands;
    options = rest.options;
    given = rest.given;
    whole = ap (λ (l : List (List ℕ)). w ∷ l) rest.whole;
    values = (f, rest.values);
    spelled = rest.spelled;
    taken = rest.taken;
    apart = rest.apart;
    free = rest.free;
    needed = rest.needed;
  }

  rest_end : (row : CommandRow C O) (filled : List Bool) → list_all (is_filled filled) row.needs ≡ true → Rest row [] filled []
  rest_end row filled h = record {
    operands = [];
    options = [];
    given = [];
    whole = refl;
    values = tt;
    spelled = refl;
    taken = tt;
    apart = tt;
    free = tt;
    needed = has_now [] filled row.needs h;
  }

  here_ends : (row : CommandRow C O) (r : Reader C O S) (wants : Option (OptionRow O)) (vs : List Value) → r.row ≡ row → ends_by r wants vs ≡ true → RestBy row wants vs r.filled []
  here_ends row r (Some o) vs e h = cc
  here_ends row r None (v ∷ vs) e h = cc
  here_ends row r None [] e h = rest_end row r.filled (subst (λ (x : CommandRow C O). list_all (is_filled r.filled) x.needs ≡ true) e h)

  -- by the parts of a reader
  rest_at : (row : CommandRow C O) (r : Reader C O S) (wants : Option (OptionRow O)) (vs : List Value) (ws : List (List ℕ)) → r.wants ≡ wants → r.operands ≡ vs → RestBy row wants vs r.filled ws → RestOf row r ws
  rest_at row r wants vs ws n p rest = subst (λ w. RestBy row w r.operands r.filled ws) (sym n) (subst (λ l. RestBy row wants l r.filled ws) (sym p) rest)

  value_needed : (row : CommandRow C O) (r : Reader C O S) (o : OptionRow O) → Valid keep row r → r.wants ≡ Some o → r.operands ≡ []
  value_needed row r o h n = (subst (WantsRight keep row r.operands r.filled) n h.wants).0

  -- the rest after an option was filled
  after_filled : (row : CommandRow C O) (r next : Reader C O S) (o : OptionRow O) (w : List ℕ) (ws : List (List ℕ)) → r.operands ≡ [] → next ≡ filled_by keep r o w → RestOf row next ws →
      Rest row [] (slice_set r.filled o.part true) ws
  after_filled row r next o w ws p e rest =
      let here : RestOf row (filled_by keep r o w) ws = subst (λ x. RestOf row x ws) e rest in
      subst (λ vs. Rest row vs (slice_set r.filled o.part true) ws) p here

  among_row : (row : CommandRow C O) (r : Reader C O S) (o : OptionRow O) → Valid keep row r → IsAmong o r.row.options → IsAmong o row.options
  among_row row r o h m = subst (λ (x : CommandRow C O). IsAmong o x.options) h.same m

  -- one word in front of the rest
  word_more : (row : CommandRow C O) (r next : Reader C O S) (w : List ℕ) (ws : List (List ℕ)) → Valid keep row r → Stepped keep r w next → RestOf row next ws → RestOf row r (w ∷ ws)
  word_more row r next w ws h (valued o v n q f e) rest =
      let p = value_needed row r o h n in
      rest_at row r (Some o) [] (w ∷ ws) n p (w, ws, v, q, f, refl, after_filled row r next o w ws p e rest)
  word_more row r next w ws h (operand v vs n p f e) rest =
      let later : Reader C O S = record r { operands = vs } in
      let here : RestOf row later ws = subst (λ x. RestOf row x ws) e rest in
      let bare : Rest row vs r.filled ws = subst (λ x. RestBy row x vs r.filled ws) n here in
      rest_at row r None (v ∷ vs) (w ∷ ws) n p (rest_operand row v vs r.filled w ws f bare)
  word_more row r next w ws h (alone o n p m free q is e) rest =
      rest_at row r None [] (w ∷ ws) n p (subst (λ x. Rest row [] r.filled (x ∷ ws)) (sym is)
      (rest_option row r.filled o [] (o.word ∷ []) ws (among_row row r o h m) free (spelled_none o q) (after_filled row r next o [] ws p e rest)))
  word_more row r next w ws h (begins o v n p m free q is e) rest =
      let begun : Reader C O S = record r { wants = Some o } in
      let here : RestOf row begun ws = subst (λ x. RestOf row x ws) e rest in
      let value = here.0 in
      let later = here.1 in
      let two : o.word ∷ ws ≡ (o.word ∷ value ∷ []) ++ later = ap (λ (l : List (List ℕ)). o.word ∷ l) here.5 in
      rest_at row r None [] (w ∷ ws) n p (subst (λ x. Rest row [] r.filled (x ∷ ws)) (sym is) (subst (Rest row [] r.filled) (sym two)
      (rest_option row r.filled o value (o.word ∷ value ∷ []) later (among_row row r o h m) free (spelled_two o here.2 value here.3 here.4) here.6)))
  word_more row r next w ws h (joined o v text n p m free q f is e) rest =
      rest_at row r None [] (w ∷ ws) n p (subst (λ x. Rest row [] r.filled (x ∷ ws)) (sym is)
      (rest_option row r.filled o text ((o.word ++ codes "=" ++ text) ∷ []) ws (among_row row r o h m) free (spelled_one o v text q f) (after_filled row r next o text ws p e rest)))

  rest_read : (row : CommandRow C O) (ws : List (List ℕ)) (r last : Reader C O S) → Valid keep row r → steps keep r ws ≡ Some last → may_end last ≡ true → RestOf row r ws
  rest_read row [] r last h e m =
      let same : r ≡ last = cc in
      here_ends row r r.wants r.operands h.same (subst (λ (x : Reader C O S). may_end x ≡ true) (sym same) m)
  rest_read row (w ∷ ws) r last h e m =
      let t = then_parts keep (step keep r w) ws last e in
      let s = stepped keep r t.0 w t.1 in
      word_more row r t.0 w ws h s (rest_read row ws t.0 last (valid_step keep row r t.0 w h s) t.2 m)

  pub record Line (row : CommandRow C O) (words : List (List ℕ)) : Type 0 where
    pub operands : List (List ℕ)
    pub given : List (Given O)
    pub line : IsLine row operands given words

  pub read_line : (row : CommandRow C O) (kept : S) (tail : List (List ℕ)) (last : Reader C O S) → Valid keep row (start row kept) → steps keep (start row kept) tail ≡ Some last →
      may_end last ≡ true → Line row (row.word ∷ tail)
  read_line row kept tail last h e m =
      let rest : Rest row row.operands none_filled tail = rest_read row tail (start row kept) last h e m in
      record {
        operands = rest.operands;
        given = rest.given;
        line = record {
          options = rest.options;
          whole = ap (λ (l : List (List ℕ)). row.word ∷ l) rest.whole;
          values = rest.values;
          spelled = rest.spelled;
          taken = rest.taken;
          apart = rest.apart;
          needed = has_all rest.given row.needs rest.needed;
        };
      }

  -- ---- a line goes on from everywhere

  pub record GoesOn (r : Reader C O S) : Type 0 where
    pub words : List (List ℕ)
    pub last : Reader C O S
    pub read : steps keep r words ≡ Some last
    pub ends : may_end last ≡ true

  -- after some more options each of these parts has one
  record Filling (row : CommandRow C O) (filled : List Bool) (kept : S) (parts : List ℕ) : Type 0 where
    words : List (List ℕ)
    now : List Bool
    kept_now : S
    read : steps keep (at row [] filled kept) words ≡ Some (at row [] now kept_now)
    has : list_all (is_filled now) parts ≡ true
    keeps : (q : ℕ) → is_filled filled q ≡ true → is_filled now q ≡ true

  fill_needs : (row : CommandRow C O) (good : GoodRow row) (parts : List ℕ) (filled : List Bool) (kept : S) → Room filled →
      ((p : ℕ) → IsAmong p parts → (o : OptionRow O) × IsAmong o row.options × (o.part ≡ p)) → Filling row filled kept parts
  fill_needs row good [] filled kept room each = record { words = []; now = filled; kept_now = kept; read = refl; has = refl; keeps = λ q h. h }
  fill_needs row good (p ∷ ps) filled kept room each =
      let at_first = each p (inl refl) in
      let o = at_first.0 in
      let g = good.option o at_first.1 in
      elim (room o.part g.room) [
        | inr f ↦ (
            let more = fill_needs row good ps filled kept room (λ q m. each q (inr m)) in
            let here : is_filled filled p ≡ true = subst (λ n. is_filled filled n ≡ true) at_first.2 f in
            record { words = more.words; now = more.now; kept_now = more.kept_now; read = more.read; has = rw (more.keeps p here) more.has; keeps = more.keeps }
            )
        | inl free ↦ (
            let ex = example_given o o.value refl g.example in
            let given : Given O = record { option = o; value = ex.0 } in
            let filled' = slice_set filled o.part true in
            let more = fill_needs row good ps filled' (keep kept given) (room_more filled o.part room) (λ q m. each q (inr m)) in
            let here : is_filled filled' p ≡ true = subst (λ n. is_filled filled' n ≡ true) at_first.2 (filled_here filled o.part free) in
            record {
              words = ex.1 ++ more.words;
              now = more.now;
              kept_now = more.kept_now;
              read = steps_append keep (at row [] filled kept) ex.1 more.words
                  ∙ ap (option_and_then (λ r. steps keep r more.words)) (option_read row good given ex.1 filled kept at_first.1 free ex.2)
                  ∙ more.read;
              has = rw (more.keeps p here) more.has;
              keeps = λ q h. more.keeps q (filled_still filled o.part q h);
            }
            )
      ]

  then_goes : (r next : Reader C O S) (words : List (List ℕ)) → steps keep r words ≡ Some next → GoesOn next → GoesOn r
  then_goes r next words e g = record {
    words = words ++ g.words;
    last = g.last;
    read = steps_append keep r words g.words ∙ ap (option_and_then (λ x. steps keep x g.words)) e ∙ g.read;
    ends = g.ends;
  }

  plain_goes : (row : CommandRow C O) (good : GoodRow row) (filled : List Bool) (kept : S) → Room filled → GoesOn (at row [] filled kept)
  plain_goes row good filled kept room =
      let f = fill_needs row good row.needs filled kept room good.needs in
      record { words = f.words; last = at row [] f.now f.kept_now; read = f.read; ends = f.has }

  state_goes : (row : CommandRow C O) (good : GoodRow row) (wants : Option (OptionRow O)) (vs : List Value) (filled : List Bool) (kept : S) → WantsRight keep row vs filled wants →
      good_values vs ≡ true → Room filled → GoesOn (record { row = row; operands = vs; wants = wants; filled = filled; kept = kept })
  state_goes row good None vs filled kept w h room =
      then_goes (at row vs filled kept) (at row [] filled kept) (map example vs)
      (operands_read row vs (map example vs) filled kept (examples_fit vs h))
      (plain_goes row good filled kept room)
  state_goes row good (Some o) vs filled kept (none, m, free, (v, q)) h room =
      let ex : has_example (Some v) ≡ true = subst (λ x. has_example x ≡ true) q (good.option o m).example in
      then_goes (record { row = row; operands = vs; wants = Some o; filled = filled; kept = kept }) (at row vs (slice_set filled o.part true) (keep kept (record { option = o; value = example v }))) (example v ∷ [])
      (rw (q, ex) refl)
      (subst (λ l. GoesOn (at row l (slice_set filled o.part true) (keep kept (record { option = o; value = example v })))) (sym none)
      (plain_goes row good (slice_set filled o.part true) (keep kept (record { option = o; value = example v })) (room_more filled o.part room)))

  pub goes_on : (row : CommandRow C O) (good : GoodRow row) (r : Reader C O S) → Valid keep row r → GoesOn r
  goes_on row good r h =
      let same = h.same in
      subst GoesOn (ap (λ (x : CommandRow C O). record { row = x; operands = r.operands; wants = r.wants; filled = r.filled; kept = r.kept }) (sym same))
      (state_goes row good r.wants r.operands r.filled r.kept h.wants h.values h.room)
