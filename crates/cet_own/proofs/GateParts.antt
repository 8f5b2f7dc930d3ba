-- What a thread claims of the gate's way in and way out. Source: own.
use Rattle.std.proofs.Common.{◌∷◌, suc, ◌≡◌, ℕ, ◌+◌, ◌-◌, ◌<◌, ◌≤◌, inl, inr, true, length, Option, Some, None, refl, sym, ◌∙◌, ap, arith, eqb, List, ◌≢◌}
use Rattle.std.specs.Prelude.{option_map, option_and_then}
use Rattle.std.proofs.lemmas.Bool.{cases_lt}
use Rattle.std.proofs.lemmas.Bool.Decides.{eqb_tells, nat_tests}
use Rattle.cet_words.specs.Layout.{token, token_page, token_word, kernel_return}
use Rattle.cet_words.specs.Job.{JobData}
use Rattle.cet_words.specs.Change.{Busied, Freed, Popped}
use Rattle.cet_isa.specs.declared.threads.Arch.{Arch}
use Rattle.cet_book.specs.declared.entries.Entry.{Entry}
use Rattle.cet_book.specs.declared.entries.Entry.TheVariants.{Frame}
use Rattle.cet_book.specs.declared.entries.Holder.TheVariants.{Lost}
use Rattle.cet_book.specs.Book.{Book, Region, region, relist, top, stack_of, put_stack, current_of, book_after}
use Rattle.cet_book.specs.Shape.{StackShape}
use Rattle.cet_book.proofs.Edits.{Owned, owned, current_holds}
use Rattle.cet_book.proofs.Hand.{hand, end_none}
use Rattle.cet_book.proofs.Supervisor.{stack_of-put_stack, current_of-put_stack}
use Rattle.cet_book.proofs.Kept.{book_kept}
use Rattle.cet_book.proofs.Top.{relist_top}
use Rattle.cet_book.proofs.Ways.{busied_way, freed_way, ended_way, popped_way}
use Rattle.cet_page.specs.Script.{Script, ◌>>=◌}
use Rattle.cet_page.specs.Parts.{compare_exchange_as, store, store_as, load, load_as}
use Rattle.cet_page.specs.declared.finishes.Leaving.TheVariants as leaving
use Rattle.cet_page.specs.Gate.{gate_in, gate_out}
use Rattle.cet_own.specs.Facts.{busy, below_token}
use Rattle.cet_own.proofs.Popped.{pops_frame}
use Rattle.cet_own.proofs.Standing.{stacked}
use Rattle.cet_own.specs.Claims.{Stacked, HasNone}
use Rattle.cet_book.specs.Relied.{Relies, owns_current, Free}
use Rattle.cet_book.proofs.Held.{given_held}
use Rattle.cet_own.specs.Owed.{State, own_stack}
use Rattle.cet_own.proofs.Classes.{refused, settles, reloads, enters, leaves, exits}
use Rattle.cet_own.proofs.Parts.{Claim, one_after, claim_bind, read_entry_then}
use Rattle.cet_own.specs.Past.{left_in, below_frame}
use Rattle.cet_own.proofs.Progress.{Progress, progress, untouched}
use Rattle.cet_page.specs.Trail.{Visit}
use Rattle.cet_own.proofs.Resting.{Resting, rest_kept, Inside, inside_kept, inside_left, rest_stacked, inside_stacked}

-- regions don't see supervisor stacks
stacked_put : (t k ssp : ℕ) (o : Option ℕ) (b : Book) → Stacked t b ssp → Stacked t (put_stack b k o) ssp
stacked_put t k ssp o b s =
    let e = current_of-put_stack t k o b in
    let l = s.top.has in
    record {
      top = record { has = omega arith; at = s.top.at ∙ sym (ap (λ n. top (region b n)) e); aligned = s.top.aligned };
      low = s.low;
      high = s.high;
    }

-- a token tells that its stack has no holder
free_by : (o : Option ℕ) (p v : ℕ) → v ≡ p + busy o → v ≡ p → o ≡ None
free_by None p v e f = refl
free_by (Some t) p v e f = absurd (omega arith)

-- a stack that was taken is the thread's only one
only_taken : (t k : ℕ) (b : Book) → k < length b.stacks → Free t b → (j : ℕ) → stack_of (put_stack b k (Some t)) j ≡ Some t → j ≡ k
only_taken t k b inside free j own =
    let at = stack_of-put_stack b k j (Some t) inside in
    elim (eqb_tells j k) [
      | inl u ↦ u.1
      | inr u ↦ absurd (free j (sym (rw u.0 at at) ∙ own))
    ]

-- another word than the free token is that of a busy one, and the stack has a holder
busy_by : (o : Option ℕ) (p v : ℕ) → v ≡ p + busy o → v ≢ p → (v ≡ p + 1) × (o ≢ None)
busy_by None p v e n = absurd (n (omega arith))
busy_by (Some t) p v e n = (omega arith, λ z. cc)

free_given : (t k : ℕ) (b : Book) → length b.stacks ≡ 8 → k < 8 → StackShape b.stacks → stack_of b k ≡ Some t → Free t (put_stack b k None)
free_given t k b eight l s holds j e =
    let h = given_held t k b (omega arith) s holds j in
    let none : None ≡ Some j = h.1 e in
    cc

ended_none : (t m : ℕ) (b : Book) → Owned t m b → length (hand m (region b m).entries Lost b).regions ≤ current_of t (hand m (region b m).entries Lost b)
ended_none t m b o = elim (cases_lt (current_of t (hand m (region b m).entries Lost b)) (length (hand m (region b m).entries Lost b).regions)) [
  | inl l ↦ absurd (end_none o (current_of t (hand m (region b m).entries Lost b)) (current_holds t (hand m (region b m).entries Lost b) l))
  | inr g ↦ g
]

-- the list of a thread's own region, whatever the others did
own_entries : {t : ℕ} {b now : Book} {es : List Entry} → Relies t b now → current_of t b < length b.regions → (region b (current_of t b)).entries ≡ es → (region now (current_of t now)).entries ≡ es
own_entries {t = t} {b = b} {now = now} r has list =
    let same : region now (current_of t now) ≡ region b (current_of t b)
    = ap (region now) (r.found has) ∙ r.kept (current_of t b) (owns_current t (region b (current_of t b)).holder (current_holds t b has)) in
    ap (λ (q : Region). q.entries) same ∙ list

module _ (job : JobData) (arch : Arch) (l : own_stack job arch.number < 8) where
  -- the thread's supervisor stack
  abbrev pub gate : ℕ
  gate = own_stack job arch.number

  -- the book after the thread took it, or gave it back
  abbrev pub taken : Book → Book
  taken b = put_stack b (own_stack job arch.number) (Some arch.number)

  abbrev pub given : Book → Book
  given b = put_stack b (own_stack job arch.number) None

  -- the book after the thread's region ended
  abbrev pub ended : Book → Book
  ended b = hand (current_of arch.number b) (region b (current_of arch.number b)).entries Lost b

  -- the way in: the thread is inside, or it is at rest as before
  pub gate_in_then : {A : Type 0} (Q : List Visit → State → State → A → Type 0) (past : List Visit) (before s : State) (f : Option ℕ → Script A) →
      Resting arch.number untouched (progress past) s.book arch.ssp → ((p : List Visit) (z n : State) →
      Inside arch.number gate untouched (progress p) (left_in p (token_word gate - 1)) n.book arch.ssp → Claim job arch Q p z n (f None)) →
      ((p : List Visit) (z n : State) (found : ℕ) → (found ≡ token gate + 1) × (stack_of z.book gate ≢ None) → Resting arch.number untouched (progress p) n.book arch.ssp →
      Claim job arch Q p z n (f (Some found))) → Claim job arch Q past before s (gate_in gate >>= f)
  unfolding gate_in compare_exchange_as store_as
  gate_in_then Q past before s f rest inside busied =
      claim_bind job arch Q past before s (gate_in gate) f
      (read_entry_then job arch (λ p z n x. Claim job arch Q p z n (f x)) past before s (token_page gate) _ (rest_stacked rest) (λ now r v.
      let rest' = rest_kept r rest in
      claim_bind job arch (λ p z n x. Claim job arch Q p z n (f x)) _ now now _ _ (
        (rest_stacked rest'),
        λ later r' found known.
            let rest'' = rest_kept r' rest' in
            elim (eqb_tells found (token gate)) [
              | inl e ↦
                  let none = free_by (stack_of later.book gate) (token gate) found
                  (known.gate gate (token gate) (token gate + 1) l refl) e.1 in
                  let eight = known.sound.book.stacks.eight in
                  let same : eqb gate gate ≡ true = grind (arith, nat_tests) in
                  let same' : eqb (token_word gate - 1) (token_word gate - 1) ≡ true = grind (arith, nat_tests) in
                  let within : gate < length later.book.stacks = omega arith in
                  let holds : stack_of (taken later.book) gate ≡ Some arch.number
                  = stack_of-put_stack later.book gate gate (Some arch.number) within ∙ rw same refl in
                  let alone : (j : ℕ) → stack_of (taken later.book) j ≡ Some arch.number → j ≡ gate = λ j own. only_taken arch.number gate later.book within rest''.free j own in
                  let in_kernel : Inside arch.number gate untouched (progress past) (Some kernel_return) (taken later.book) arch.ssp
                  = record { stacked = stacked_put arch.number gate arch.ssp (Some arch.number) later.book rest''.stacked; holds = holds; level = rest''.level; settled = refl; alone = alone } in
                  rw e.0 (
                    enters l refl e.1 rest''.free refl,
                    record later { book = taken later.book },
                    one_after arch.number later (taken later.book) (Busied gate)
                        (busied_way arch.number gate later.book l none rest''.free),
                    claim_bind job arch (λ p z n x. Claim job arch Q p z n (f x)) _ later (record later { book = taken later.book }) (store (token_word gate - 1) kernel_return) _ (
                      inside_stacked in_kernel,
                      λ last r'' known'.
                          let in_kernel' = inside_kept r'' in_kernel in
                          (settles l refl in_kernel'.holds refl, last, refl, inside _ last last (inside_left (rw same' refl) in_kernel')),
                    ),
                  )
              | inr e ↦ rw e.0 (refused (token gate + 1) l refl e.1 refl, later, refl, busied _ later later found (busy_by (stack_of later.book gate) (token gate) found (known.gate gate (token gate) (token gate + 1) l refl) e.1) rest'')
            ],
      )))

  -- the way out
  pub gate_out_then : {A : Type 0} {d : Progress} (Q : List Visit → State → State → A → Type 0) (past : List Visit) (before s : State) (f : Unit {0} → Script A) →
      Inside arch.number gate d (progress past) (left_in past (token_word gate - 1)) s.book arch.ssp →
      ((p : List Visit) (z n : State) → Resting arch.number d (progress p) n.book arch.ssp → Claim job arch Q p z n (f tt)) → Claim job arch Q past before s (gate_out leaving.Back gate >>= f)
  unfolding gate_out compare_exchange_as load_as
  gate_out_then {d = d} Q past before s f inside h =
      claim_bind job arch Q past before s (gate_out leaving.Back gate) f
      (claim_bind job arch (λ p z n x. Claim job arch Q p z n (f x)) past before s (load (token_word gate - 1)) _ (
        inside_stacked inside,
        λ now r v known.
            let inside' = inside_kept r inside in
            let found : v ≡ kernel_return = known.left (token_word gate - 1) kernel_return (below_token gate l inside'.holds refl) inside.settled refl in (
              reloads l refl found inside'.holds refl,
              now,
              refl,
              claim_bind job arch (λ p z n x. Claim job arch Q p z n (f x)) _ now now _ _ (
                (inside_stacked inside'),
                λ later r' found known.
                    let inside'' = inside_kept r' inside' in
                    let stacks = known.sound.book.stacks in (
                      leaves l refl inside''.holds refl,
                      record later { book = given later.book },
                      one_after arch.number later (given later.book) (Freed gate)
                          (freed_way arch.number gate later.book inside''.holds),
                      h _ later (record later { book = given later.book }) (record {
                        stacked = stacked_put arch.number gate (below_frame d.framed arch.ssp) None later.book inside''.stacked;
                        level = inside''.level;
                        free = free_given arch.number gate later.book stacks.eight l stacks inside''.holds;
                      }),
                    ),
              ),
            ),
      ))

  -- the book after the newest entry of the thread's region went
  abbrev pub popped : Book → List Entry → Book
  popped b es = relist (current_of arch.number b) es b

  -- the newest entry, a frame's, goes with the way out
  pub popped_out_then : {A : Type 0} (Q : List Visit → State → State → A → Type 0) (past : List Visit) (before s : State) (es : List Entry) (f : Unit {0} → Script A) →
      (region s.book (current_of arch.number s.book)).entries ≡ Frame ∷ es → Inside arch.number gate untouched (progress past) (left_in past (token_word gate - 1)) s.book arch.ssp →
      ((p : List Visit) (z n : State) → Resting arch.number untouched (progress p) n.book (arch.ssp + 8) → Claim job arch Q p z n (f tt)) →
      Claim job arch Q past before s (gate_out leaving.Popped gate >>= f)
  unfolding gate_out compare_exchange_as load_as
  popped_out_then Q past before s es f list inside h =
      claim_bind job arch Q past before s (gate_out leaving.Popped gate) f
      (claim_bind job arch (λ p z n x. Claim job arch Q p z n (f x)) past before s (load (token_word gate - 1)) _ (
        inside_stacked inside,
        λ now r v known.
            let inside' = inside_kept r inside in
            let list' : (region now.book (current_of arch.number now.book)).entries ≡ Frame ∷ es = own_entries r inside.stacked.top.has list in
            let found : v ≡ kernel_return = known.left (token_word gate - 1) kernel_return (below_token gate l inside'.holds refl) inside.settled refl in (
              reloads l refl found inside'.holds refl,
              now,
              refl,
              claim_bind job arch (λ p z n x. Claim job arch Q p z n (f x)) _ now now _ _ (
                (inside_stacked inside'),
                λ later r' found known.
                    let inside'' = inside_kept r' inside' in
                    let stacks = known.sound.book.stacks in
                    let has = inside''.stacked.top.has in
                    let at = inside''.stacked.top.at in
                    let m = current_of arch.number later.book in
                    let list'' : (region later.book (current_of arch.number later.book)).entries ≡ Frame ∷ es = own_entries r' inside'.stacked.top.has list' in
                    let o : Owned arch.number (current_of arch.number later.book) later.book = owned arch.number later.book known.sound.book.shape has in
                    let way = popped_way o es list'' in
                    let sh = (book_kept arch.number Popped later.book (popped later.book es) known.sound.book way).book.shape in
                    let room = (known.sound.book.shape.fits (current_of arch.number later.book)).room in
                    let longer : length (region later.book (current_of arch.number later.book)).entries ≡ suc (length es) = ap (λ (q : List Entry). length q) list'' in
                    let top' = relist_top o es sh (arch.ssp + 8) (omega arith) in
                    let holds : stack_of (popped later.book es) gate ≡ Some arch.number = inside''.holds in (
                      pops_frame (current_of arch.number later.book) es l refl inside''.holds o.current list'' refl,
                      record later { book = given (popped later.book es) },
                      ap (λ (q : Option Book). option_map (λ b. record later { book = b }) (option_and_then (λ n. option_and_then (λ x. Some x) (book_after arch.number n (Freed gate))) q)) way
                          ∙ ap (λ (q : Option Book). option_map (λ b. record later { book = b }) (option_and_then (λ x. Some x) q))
                          (freed_way arch.number gate (popped later.book es) holds),
                      h _ later (record later { book = given (popped later.book es) }) (record {
                        stacked = stacked_put arch.number gate (arch.ssp + 8) None (popped later.book es) (stacked arch.number (popped later.book es) (arch.ssp + 8) sh top');
                        level = inside''.level;
                        free = free_given arch.number gate (popped later.book es) stacks.eight l stacks holds;
                      }),
                    ),
              ),
            ),
      ))

  -- the way out of a thread that ends
  pub exit_out_then : {A : Type 0} (Q : List Visit → State → State → A → Type 0) (past : List Visit) (before s : State) (status : ℕ) (f : Unit {0} → Script A) →
      Inside arch.number gate untouched (progress past) (left_in past (token_word gate - 1)) s.book arch.ssp →
      ((p : List Visit) (z n : State) → HasNone arch.number n.book → Claim job arch Q p z n (f tt)) → Claim job arch Q past before s (gate_out (leaving.Ended status) gate >>= f)
  unfolding gate_out compare_exchange_as load_as
  exit_out_then Q past before s status f inside h =
      claim_bind job arch Q past before s (gate_out (leaving.Ended status) gate) f
      (claim_bind job arch (λ p z n x. Claim job arch Q p z n (f x)) past before s (load (token_word gate - 1)) _ (
        inside_stacked inside,
        λ now r v known.
            let inside' = inside_kept r inside in
            let found : v ≡ kernel_return = known.left (token_word gate - 1) kernel_return (below_token gate l inside'.holds refl) inside.settled refl in (
              reloads l refl found inside'.holds refl,
              now,
              refl,
              claim_bind job arch (λ p z n x. Claim job arch Q p z n (f x)) _ now now _ _ (
                (inside_stacked inside'),
                λ later r' found known.
                    let inside'' = inside_kept r' inside' in
                    let stacks = known.sound.book.stacks in
                    let has = inside''.stacked.top.has in
                    let o : Owned arch.number (current_of arch.number later.book) later.book = owned arch.number later.book known.sound.book.shape has in
                    let holds : stack_of (ended later.book) gate ≡ Some arch.number = inside''.holds in
                    let gone = ended_none arch.number (current_of arch.number later.book) later.book o in
                    let same = current_of-put_stack arch.number gate None (ended later.book) in (
                      exits (current_of arch.number later.book) l refl inside''.holds o.current refl,
                      record later { book = given (ended later.book) },
                      ap (λ (q : Option Book). option_map (λ b. record later { book = b }) (option_and_then (λ n. option_and_then (λ x. Some x) (book_after arch.number n (Freed gate))) q)) (ended_way o)
                          ∙ ap (λ (q : Option Book). option_map (λ b. record later { book = b }) (option_and_then (λ x. Some x) q))
                          (freed_way arch.number gate (ended later.book) holds),
                      h _ later (record later { book = given (ended later.book) }) (record {
                        regions = omega arith;
                        free = free_given arch.number gate (ended later.book) stacks.eight l stacks holds;
                      }),
                    ),
              ),
            ),
      ))
