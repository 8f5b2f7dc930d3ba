-- The reader of a good table takes its lines, and stops at the first faulty word of each other list.
use Rattle.std.proofs.Common.{ℕ, ◌+◌, ◌≡◌, Bool, true, false, cond, List, [], ◌∷◌, ◌++◌, length, Option, Some, None, refl, sym, ap, ◌∙◌, subst, arith, append_assoc}
use Rattle.std.specs.Prelude.{option_and_then}
use Rattle.std.proofs.lemmas.List.{append-nil, length-append}
use Rattle.cet_cli.specs.GoodTable.{good_table}
use Rattle.cet_cli.specs.Grammar.{CommandRow, FaultyWord, IsAmong, IsIn}
use Rattle.cet_cli.specs.Reader.{IsReadBy, Reader, find_command, forget, may_end, start, step, stop, stop_from, stop_of}
use Rattle.cet_cli.proofs.Faulty.{faulty_same}
use Rattle.cet_cli.proofs.FaultyLines.{misses, no_command, no_word, read_accepted, stops}
use Rattle.cet_cli.proofs.ReaderSteps.{steps}
use Rattle.cet_cli.proofs.Tables.{command_among}
use Rattle.cet_cli.proofs.WordSteps.{steps_append}

none_stops : {C O : Type 0} (ws : List (List ℕ)) (n : ℕ) (r : Option (Reader C O (Unit {0}))) → r ≡ None → stop_from r ws n ≡ Some n
none_stops ws n r e = rw e refl

may_end_by : (b : Bool) (n k : ℕ) → cond b None (Some n) ≡ Some k → (b ≡ false) × (n ≡ k)
may_end_by true n k e = cc
may_end_by false n k e = (refl, (cc))

ends_by_none : (b : Bool) (n : ℕ) → cond b None (Some n) ≡ None → b ≡ true
ends_by_none true n e = refl
ends_by_none false n e = cc

module _ {C O : Type 0} where
  -- ---- where it doesn't stop it reads all

  abbrev AllRead : Reader C O (Unit {0}) → List (List ℕ) → Type 0
  AllRead r ws = (last : Reader C O (Unit {0})) × (steps forget r ws ≡ Some last) × (may_end last ≡ true)

  all_read : (ws : List (List ℕ)) (r : Reader C O (Unit {0})) (n : ℕ) → stop_from (Some r) ws n ≡ None → AllRead r ws
  all_read [] r n e = (r, refl, ends_by_none (may_end r) (n + 1) e)
  all_read (w ∷ ws) r n e =
      (elim (step forget r w) as (λ o. stop_from o ws (n + 1) ≡ None → (last : Reader C O (Unit {0})) × (option_and_then (λ s. steps forget s ws) o ≡ Some last) × (may_end last ≡ true)) [
        | None ↦ λ f. cc
        | Some s ↦ λ f. all_read ws s (n + 1) f
      ]) e

  -- ---- where it stops

  module _ (table : List (CommandRow C O)) (good : good_table table ≡ true) where
    stop_is : (row : CommandRow C O) → IsAmong row table → (ws done : List (List ℕ)) (r : Reader C O (Unit {0})) (k : ℕ) → steps forget (start row tt) done ≡ Some r
        → stop_from (Some r) ws (length done + 1) ≡ Some k → FaultyWord (IsIn table) (row.word ∷ (done ++ ws)) k
    stop_is row m [] done r k read e =
        let h = may_end_by (may_end r) (length done + 1 + 1) k e in
        let place : length done + 2 ≡ k = (let same = h.1 in omega arith) in
        subst (λ l. FaultyWord (IsIn table) (row.word ∷ l) k) (sym (append-nil done))
        (subst (FaultyWord (IsIn table) (row.word ∷ done)) place (misses forget table good tt row done r m read h.0))
    stop_is row m (w ∷ ws) done r k read e =
        (elim (step forget r w) as (λ o. step forget r w ≡ o → stop_from o ws (length done + 1 + 1) ≡ Some k → FaultyWord (IsIn table) (row.word ∷ (done ++ w ∷ ws)) k) [
          | None ↦ λ q f.
              let at : length done + 1 + 1 ≡ k = cc in
              subst (FaultyWord (IsIn table) (row.word ∷ (done ++ w ∷ ws))) (omega arith) (stops forget table good tt row done w ws r m read q)
          | Some s ↦ λ q f.
              let more : steps forget (start row tt) (done ++ w ∷ []) ≡ Some s =
              steps_append forget (start row tt) done (w ∷ []) ∙ ap (option_and_then (λ x. steps forget x (w ∷ []))) read ∙ ap (option_and_then (λ x. Some x)) q in
              let long : length (done ++ w ∷ []) ≡ length done + 1 = length-append done (w ∷ []) in
              let next : stop_from (Some s) ws (length (done ++ w ∷ []) + 1) ≡ Some k = subst (λ n. stop_from (Some s) ws (n + 1) ≡ Some k) (sym long) f in
              subst (λ l. FaultyWord (IsIn table) (row.word ∷ l) k) (append_assoc done (w ∷ []) ws) (stop_is row m ws (done ++ w ∷ []) s k more next)
        ]) refl e

    faulty_by : (w : List ℕ) (ws : List (List ℕ)) (k : ℕ) (o : Option (CommandRow C O)) → find_command table w ≡ o → stop_of o ws ≡ Some k → FaultyWord (IsIn table) (w ∷ ws) k
    faulty_by w ws k None q e =
        let at : 1 ≡ k = cc in
        subst (FaultyWord (IsIn table) (w ∷ ws)) at (no_command forget table good tt w ws q)
    faulty_by w ws k (Some row) q e =
        let a = command_among table w row q in
        subst (λ x. FaultyWord (IsIn table) (x ∷ ws) k) a.1 (stop_is row a.0 ws [] (start row tt) k refl e)

    faulty_at : (words : List (List ℕ)) (k : ℕ) → stop table words ≡ Some k → FaultyWord (IsIn table) words k
    faulty_at [] k e =
        let at : 1 ≡ k = cc in
        subst (FaultyWord (IsIn table) []) at (no_word forget table good tt)
    faulty_at (w ∷ ws) k e = faulty_by w ws k (find_command table w) refl e

    line_by : (w : List ℕ) (ws : List (List ℕ)) (o : Option (CommandRow C O)) → find_command table w ≡ o → stop_of o ws ≡ None → IsIn table (w ∷ ws)
    line_by w ws None q e = cc
    line_by w ws (Some row) q e =
        let a = command_among table w row q in
        let all = all_read ws (start row tt) 1 e in
        subst (λ x. IsIn table (x ∷ ws)) a.1 (read_accepted forget table good tt row ws all.0 a.0 all.1 all.2)

    line_at : (words : List (List ℕ)) → stop table words ≡ None → IsIn table words
    line_at [] e = cc
    line_at (w ∷ ws) e = line_by w ws (find_command table w) refl e

    -- ---- and nowhere else

    no_stop : (words : List (List ℕ)) (o : Option ℕ) → stop table words ≡ o → IsIn table words → stop table words ≡ None
    no_stop words None e is = e
    no_stop words (Some k) e is = absurd ((faulty_at words k e).refused is)

    stops_there : (words : List (List ℕ)) (n : ℕ) (o : Option ℕ) → stop table words ≡ o → FaultyWord (IsIn table) words n → stop table words ≡ Some n
    stops_there words n None e f = absurd (f.refused (line_at words e))
    stops_there words n (Some k) e f = e ∙ ap Some (faulty_same (IsIn table) words k n (faulty_at words k e) f)

    pub read_by : IsReadBy table
    read_by = record {
      lines = λ words. (line_at words, no_stop words (stop table words) refl);
      faults = λ words n. (faulty_at words n, stops_there words n (stop table words) refl);
    }
