-- What a thread claims of the deliveries of signals, and of the kill. Source: own.
use Rattle.std.proofs.Common.{eqb, ◌≡◌, ◌≢◌, ℕ, zero, suc, ◌+◌, ◌-◌, ◌/◌, ◌^◌, ◌<◌, ◌≤◌, inl, inr, Bool, true, false, List}
use Rattle.std.proofs.Common.{[], ◌∷◌, length, Option, Some, None, refl, sym, ◌∙◌, ap, subst, arith}
use Rattle.std.specs.Prelude.{◌==◌, ◌%◌, if◌then◌else◌, nat_lt}
use Rattle.std.proofs.lemmas.Bool.Decides.{nat_tests}
use Rattle.cet_words.specs.Bytes.{code_byte}
use Rattle.cet_words.proofs.ByteLaws.{code_place}
use Rattle.cet_words.specs.Change.{Pushed}
use Rattle.cet_words.specs.Job.{JobData, IsJob}
use Rattle.cet_words.specs.Layout.{action_word, exit_word, first_shadow_word, pend_word, thread_limit, token_word}
use Rattle.cet_words.specs.declared.accesses.Access.TheVariants as access
use Rattle.cet_isa.specs.Address.{canonical}
use Rattle.cet_isa.specs.declared.threads.Arch.{Arch}
use Rattle.cet_isa.specs.declared.threads.Fault.{Fault}
use Rattle.cet_isa.specs.declared.threads.FaultName.{FaultName}
use Rattle.cet_isa.specs.declared.threads.FaultName.TheVariants.{Ud, Gp, Pf, Ac, Cp}
use Rattle.cet_book.specs.declared.entries.Entry.TheVariants.{Frame, Restorer}
use Rattle.cet_book.specs.Book.{Book, current_of, region, relist, top}
use Rattle.cet_book.specs.Facts.{In, IsReturn}
use Rattle.cet_book.specs.Shape.{Shape}
use Rattle.cet_book.proofs.Edits.{Owned, owned}
use Rattle.cet_book.proofs.Kept.{book_kept}
use Rattle.cet_book.specs.Relied.{Relies}
use Rattle.cet_book.proofs.Top.{relist_top}
use Rattle.cet_book.proofs.Ways.{pushed_way}
use Rattle.cet_book.specs.Stack.{slot}
use Rattle.cet_page.specs.Delivery.{delivered, enter_handler, fault_delivery, frame_at, frame_places, frame_span, frame_words, handle, ignore, pending_delivery, push_frame, push_or_kill, segv}
use Rattle.cet_page.specs.Finish.{rsp}
use Rattle.cet_page.specs.Gate.{is_masked, kill, signal_of}
use Rattle.cet_page.specs.Parts.{store, store_as, store_each}
use Rattle.cet_page.specs.Posting.{lowest, pending_signal}
use Rattle.cet_page.specs.Script.{done, ◌>>=◌}
use Rattle.cet_page.specs.Structures.{without}
use Rattle.cet_page.specs.Tokens.{frame_word}
use Rattle.cet_page.specs.Trail.{Visit, visit}
use Rattle.cet_page.specs.Word64.{sub64}
use Rattle.cet_page.specs.declared.actions.Action.{Action}
use Rattle.cet_page.specs.declared.actions.FramePlaces.{FramePlaces}
use Rattle.cet_page.specs.declared.checks.Kind.TheVariants as kind
use Rattle.cet_own.specs.ExitWord.{IsEnding, killed}
use Rattle.cet_own.specs.Past.{drew, has_restorer, left_in, numbered}
use Rattle.cet_own.specs.Facts.{IsRestorer}
use Rattle.cet_own.proofs.Calls.{own_kept}
use Rattle.cet_own.specs.Threads.{Ends}
use Rattle.cet_own.proofs.Endings.{by_signal}
use Rattle.cet_own.proofs.GateParts.{gate_out_then}
use Rattle.cet_own.specs.Holds.{IsOut}
use Rattle.cet_own.proofs.KernelParts.{Leaves, Within}
use Rattle.cet_own.specs.Owed.{State, own_stack}
use Rattle.cet_own.proofs.Parts.{Claim, claim_bind, claim_cond, end_then, fetch_and_then, kernel_load_known, kernel_load_then, one_after}
use Rattle.cet_own.proofs.Places.{below_is, room_below, room_two_below, shadow_slot}
use Rattle.cet_own.proofs.Progress.{Progress, untouched}
use Rattle.cet_own.proofs.Pushed.{stores_marker, stores_restorer}
use Rattle.cet_own.proofs.Resting.{Inside, inside_kept, inside_left, inside_stacked, rested}
use Rattle.cet_own.proofs.Standing.{stacked}
use Rattle.cet_own.specs.Claims.{Stacked}
use Rattle.cet_own.proofs.StructureParts.{shadow_probe_then, store_each_claim, store_span_claim}
use Rattle.cet_own.proofs.TokenWords.{frame_word_is}

-- ---- signals and restorers

-- a signal that is pending is one of 31
lowest_few : (set from count signal : ℕ) → 1 ≤ from → lowest set from count ≡ Some signal → (1 ≤ signal) × (signal < from + count)
unfolding lowest
lowest_few set from zero signal one e = cc
lowest_few set from (suc count) signal one e = by_bit (set / 2 ^ (from - 1) % 2 == 1) (λ k. lowest_few set (from + 1) count signal (omega arith) k) e
  where
    by_bit : (c : Bool) → (lowest set (from + 1) count ≡ Some signal → (1 ≤ signal) × (signal < from + 1 + count)) → (if c then Some from else lowest set (from + 1) count) ≡ Some signal →
        (1 ≤ signal) × (signal < from + suc count)
    by_bit true later e = let same : from ≡ signal = cc in (omega arith, omega arith)
    by_bit false later e = let r = later e in let low = r.0 in let high = r.1 in (low, omega arith)

pub pending_few : (pending mask signal : ℕ) → pending_signal pending mask ≡ Some signal → (1 ≤ signal) × (signal < 32)
pending_few pending mask signal e = lowest_few (without pending mask) 1 31 signal (omega arith) e

-- a restorer that is one is an address of the image
restorer_at : (job : JobData) (addr : ℕ) (o : Option ℕ) → IsJob job → o ≢ None → code_byte job.image.segments addr ≡ o → IsReturn addr
restorer_at job addr None j some e = absurd (some refl)
restorer_at job addr (Some b) j some e = let p = code_place job.image.segments addr b j.image.each e in let low = p.0 in let high = p.1 in (low, omega arith)

pub restorer_returns : (job : JobData) (addr : ℕ) → IsJob job → addr ≢ 0 → IsRestorer job.image addr → IsReturn addr
restorer_returns job addr j some (inl none) = absurd (some none)
restorer_returns job addr j some (inr code) = restorer_at job addr (code_byte job.image.segments addr) j code refl

-- PEND matters for no stack
pub pend_out : (thread : ℕ) → thread < thread_limit → IsOut (pend_word thread)
pend_out thread l = record { shadow = inr (omega arith); entry = omega arith; token = λ k lk. omega arith; below = λ k lk. omega arith; actions = inl (omega arith); draw = omega arith; next = omega arith; exit = omega arith }

-- a frame has 24 words
frame_length : (arch : Arch) (signal restorer : ℕ) (cause : Option Fault) → length (frame_words arch signal restorer cause) ≡ 24
unfolding frame_words
frame_length arch signal restorer None = refl
frame_length arch signal restorer (Some e) = refl

-- two words have room below the top of the thread's region
abbrev pub HasRoom : (t : ℕ) → Book → Type 0
HasRoom t b = (region b (current_of t b)).start + 16 ≤ top (region b (current_of t b))

-- the looks tell it, one after the other
room_here : (t ssp : ℕ) (b now : Book) (i k : ℕ) → Relies t b now → Shape b → Shape now → Stacked t b ssp → Stacked t now ssp → In (region b i) (sub64 ssp 8) → In (region now k) (sub64 ssp 16) → HasRoom t now
room_here t ssp b now i k r shape shape' at at' inn inn' =
    let low = at.low in
    let high = at.high in
    let sixteen : sub64 ssp 16 ≡ ssp - 16 = omega arith in
    let first = room_below b (current_of t b) i shape at.top.has (subst (In (region b i)) (below_is ssp low high ∙ ap (λ n. n - 8) at.top.at) inn) in
    let same = own_kept t b now r at.top.has in
    let first' : (region now (current_of t now)).start + 8 ≤ top (region now (current_of t now)) = rw same first in
    room_two_below now (current_of t now) k shape' at'.top.has first' (subst (In (region now k)) (sixteen ∙ ap (λ n. n - 16) at'.top.at) inn')

module _ (job : JobData) (j : IsJob job) (arch : Arch) (l : own_stack job arch.number < 8) where
  abbrev gate : ℕ
  gate = own_stack job arch.number

  abbrev Inner : List Visit → State → Type 0
  Inner past s = Within job arch l untouched past s

  -- ---- the kill

  pub kill_claim : (past : List Visit) (before s : State) (signal : ℕ) → IsEnding (0x200 + signal) → Inner past s → Claim job arch (Leaves job arch l) past before s (kill arch signal)
  unfolding kill
  kill_claim past before s signal is within =
      let apart : (exit_word == token_word gate - 1) ≡ false = (let n : exit_word ≢ token_word gate - 1 = omega arith in grind (arith, nat_tests)) in
      end_then job arch (Leaves job arch l) past before s (0x200 + signal) _ is (inside_stacked within) (λ now r found.
      gate_out_then job arch l (Ends job arch) _ now now _ (inside_left (rw apart refl) (inside_kept r within)) (λ p z n rest. (rested rest, λ held later. refl, tt)))

  -- ---- the places of a frame

  places_claim : (Q : List Visit → State → State → Option FramePlaces → Type 0) (past : List Visit) (before s : State) → Inner past s → ((p : List Visit) (z n : State) → Inner p n → Q p z n None) →
      ((p : List Visit) (z n : State) (places : FramePlaces) → places.frame + 24 ≤ first_shadow_word → places.marker ≡ slot (arch.ssp - 8) → places.restorer ≡ slot (arch.ssp - 16) →
      HasRoom arch.number n.book → Inner p n → Q p z n (Some places)) → Claim job arch Q past before s (frame_places arch)
  unfolding frame_places frame_span
  places_claim Q past before s within none some =
      let low = within.stacked.low in
      let high = within.stacked.high in
      let eight : sub64 arch.ssp 8 ≡ arch.ssp - 8 = below_is arch.ssp low high in
      let sixteen : sub64 arch.ssp 16 ≡ arch.ssp - 16 = omega arith in
      claim_bind job arch Q past before s (frame_span (frame_at (rsp arch))) _
      (claim_cond job arch _ past before s (canonical (frame_at (rsp arch))) _ _
      (λ _. store_span_claim job arch l {d = untouched} _ past before s (frame_at (rsp arch)) 23 (omega arith) within none (λ p z n frame few within1.
      shadow_probe_then job arch l {d = untouched} Q p z n kind.ShadowStore (sub64 arch.ssp 8) _ (omega arith) (omega arith) within1 none (λ p1 z1 n1 r1 shape1 i1 inn1 within2.
      shadow_probe_then job arch l {d = untouched} Q p1 z1 n1 kind.ShadowStore (sub64 arch.ssp 16) _ (omega arith) (omega arith) within2 none (λ p2 z2 n2 r2 shape2 i2 inn2 within3.
      some p2 z2 n2 _ (omega arith)
      (shadow_slot (sub64 arch.ssp 8) (omega arith) (omega arith) ∙ ap slot eight)
      (shadow_slot (sub64 arch.ssp 16) (omega arith) (omega arith) ∙ ap slot sixteen)
      (room_here arch.number arch.ssp n1.book n2.book i1 i2 r2 shape1 shape2 within2.stacked within3.stacked inn1 inn2) within3))))
      (λ _. none past before s within))

  -- ---- the frame

  abbrev framed : Progress
  framed = record { framed = true; drawing = false; numbering = false }

  abbrev with_frame : Book → (restorer : ℕ) → Book
  with_frame b x = relist (current_of arch.number b) (Restorer x ∷ Frame ∷ (region b (current_of arch.number b)).entries) b

  -- the restorer goes below the frame's word
  restorer_claim : (past : List Visit) (before s : State) (signal word : ℕ) (action : Action) → word ≡ slot (arch.ssp - 16) → IsReturn action.restorer → HasRoom arch.number s.book →
      left_in past (slot (arch.ssp - 8)) ≡ Some (2 ^ 63 + arch.ssp) → Inner past s → Claim job arch (Leaves job arch l) past before s (store_as (Pushed action.restorer ∷ []) word action.restorer >>=
      (λ _. done (delivered arch signal action)))
  unfolding store_as
  restorer_claim past before s signal word action is is_return room seen within =
      claim_bind job arch (Leaves job arch l) past before s (store_as (Pushed action.restorer ∷ []) word action.restorer) _ (
        inside_stacked within,
        λ now r known.
            let x = action.restorer in
            let within1 = inside_kept r within in
            let has = within1.stacked.top.has in
            let at = within1.stacked.top.at in
            let low = within1.stacked.low in
            let high = within1.stacked.high in
            let o : Owned arch.number (current_of arch.number now.book) now.book = owned arch.number now.book known.sound.book.shape has in
            let same = own_kept arch.number s.book now.book r within.stacked.top.has in
            let room1 : HasRoom arch.number now.book = rw same room in
            let fits = (known.sound.book.shape.fits (current_of arch.number now.book)).room in
            let way = pushed_way o x (omega arith) in
            let sh = (book_kept arch.number (Pushed x) now.book (with_frame now.book x) known.sound.book way).book.shape in
            let seen1 = subst (λ n. left_in past (slot (n - 8)) ≡ Some (2 ^ 63 + n)) at seen in
            let top' = relist_top o (Restorer x ∷ Frame ∷ (region now.book (current_of arch.number now.book)).entries) sh (arch.ssp - 16) (omega arith) in
            let apart : eqb word (token_word gate - 1) ≡ false = (let n : word ≢ token_word gate - 1 = omega arith in grind (arith, nat_tests)) in
            let within2 : Inside arch.number gate framed (record { framed = true; drawing = drew past; numbering = numbered past }) (left_in past (token_word gate - 1)) (with_frame now.book x) arch.ssp = record {
              stacked = stacked arch.number (with_frame now.book x) (arch.ssp - 16) sh top';
              holds = within1.holds;
              level = ap (λ (y : Progress). record { framed = true; drawing = y.drawing; numbering = y.numbering }) within1.level;
              settled = within1.settled;
              alone = within1.alone;
            } in
            let lower : sub64 arch.ssp 16 ≡ arch.ssp - 16 = omega arith in (
              stores_restorer (current_of arch.number now.book) x o.current (ap (λ n. access.Store n x) (is ∙ ap (λ n. slot (n - 16)) at)) room1 seen1 is_return (ap (λ (y : Progress). y.framed) within1.level) refl,
              record now { book = with_frame now.book x },
              one_after arch.number now (with_frame now.book x) (Pushed x) way,
              gate_out_then job arch l (Ends job arch) _ now (record now { book = with_frame now.book x }) _ (inside_left (rw apart refl) within2)
                  (λ p z n rest. (record { stacked = subst (Stacked arch.number n.book) (sym lower) rest.stacked; free = rest.free }, λ held later. tt, tt)),
            ),
      )

  -- the frame's word goes below SSP
  marker_claim : (past : List Visit) (before s : State) (signal marker word : ℕ) (action : Action) → marker ≡ slot (arch.ssp - 8) → word ≡ slot (arch.ssp - 16) → IsReturn action.restorer →
      HasRoom arch.number s.book → Inner past s → Claim job arch (Leaves job arch l) past before s (store marker (frame_word arch.ssp) >>=
      (λ _. store_as (Pushed action.restorer ∷ []) word action.restorer >>= (λ _. done (delivered arch signal action))))
  unfolding store_as
  marker_claim past before s signal marker word action at_marker is is_return room within =
      claim_bind job arch (Leaves job arch l) past before s (store marker (frame_word arch.ssp)) _ (
        inside_stacked within,
        λ now r known.
            let within1 = inside_kept r within in
            let has = within1.stacked.top.has in
            let at = within1.stacked.top.at in
            let low = within1.stacked.low in
            let high = within1.stacked.high in
            let value : frame_word arch.ssp ≡ 2 ^ 63 + arch.ssp = frame_word_is arch.ssp (omega arith) in
            let same = own_kept arch.number s.book now.book r within.stacked.top.has in
            let room1 : HasRoom arch.number now.book = rw same room in
            let o : Owned arch.number (current_of arch.number now.book) now.book = owned arch.number now.book known.sound.book.shape has in
            let apart : eqb marker (token_word gate - 1) ≡ false = (let n : marker ≢ token_word gate - 1 = omega arith in grind (arith, nat_tests)) in
            let here : eqb marker (slot (arch.ssp - 8)) ≡ true = grind (arith, nat_tests) in
            let seen : left_in (visit (access.Store marker (frame_word arch.ssp)) 0 [] ∷ past) (slot (arch.ssp - 8)) ≡ Some (2 ^ 63 + arch.ssp) = rw here (ap Some value) in (
              stores_marker (current_of arch.number now.book) (frame_word arch.ssp) o.current (ap (λ n. access.Store n (frame_word arch.ssp)) (at_marker ∙ ap (λ n. slot (n - 8)) at)) (omega arith) (λ z. omega arith) refl,
              now,
              refl,
              restorer_claim _ now now signal word action is is_return room1 seen (inside_left (rw apart refl) within1),
            ),
      )

  push_claim : (past : List Visit) (before s : State) (signal : ℕ) (cause : Option Fault) (action : Action) (places : FramePlaces) → places.frame + 24 ≤ first_shadow_word →
      places.marker ≡ slot (arch.ssp - 8) → places.restorer ≡ slot (arch.ssp - 16) → IsReturn action.restorer → HasRoom arch.number s.book → Inner past s →
      Claim job arch (Leaves job arch l) past before s (push_frame arch signal cause action places)
  unfolding push_frame
  push_claim past before s signal cause action places few at_marker at_restorer is_return room within =
      let long = frame_length arch signal action.restorer cause in
      claim_bind job arch (Leaves job arch l) past before s (store_each places.frame (frame_words arch signal action.restorer cause)) _
      (store_each_claim job arch l {d = untouched} _ past before s places.frame (frame_words arch signal action.restorer cause) (omega arith) within (λ p z n r within1.
      let same = own_kept arch.number s.book n.book r within.stacked.top.has in
      marker_claim p z n signal places.marker places.restorer action at_marker at_restorer is_return (rw same room) within1))

  push_or_kill_claim : (past : List Visit) (before s : State) (signal : ℕ) (cause : Option Fault) (action : Action) → IsReturn action.restorer → Inner past s →
      Claim job arch (Leaves job arch l) past before s (frame_places arch >>= push_or_kill arch signal cause action)
  push_or_kill_claim past before s signal cause action is_return within =
      claim_bind job arch (Leaves job arch l) past before s (frame_places arch) (push_or_kill arch signal cause action)
      (places_claim _ past before s within (λ p z n within1. kill_claim p z n segv (by_signal Gp) within1)
      (λ p z n places few at_marker at_restorer room within1. push_claim p z n signal cause action places few at_marker at_restorer is_return room within1))

  -- ---- the delivery

  -- the handler was seen to be none of 0 and 1, so there is a restorer
  handler_claim : (past : List Visit) (before s : State) (signal handler : ℕ) (cause : Option Fault) → signal < 64 → has_restorer past signal ≡ true → Inner past s →
      Claim job arch (Leaves job arch l) past before s (enter_handler arch signal cause handler)
  unfolding enter_handler
  handler_claim past before s signal handler cause few shows within =
      kernel_load_then job arch (Leaves job arch l) past before s gate (action_word signal + 1) _ (λ k z. omega arith) within (λ now r flags within1.
      kernel_load_known job arch (Leaves job arch l) _ now now gate (action_word signal + 2) _ (λ k z. omega arith) within1 (λ now2 r2 restorer known within2.
      let other : (action_word signal + 1 == action_word signal) ≡ false = (let n : action_word signal + 1 ≢ action_word signal = omega arith in grind (arith, nat_tests)) in
      let some = known.restorer signal few (rw other shows) refl in
      let is_return = restorer_returns job restorer j some (known.code signal few refl) in
      kernel_load_then job arch (Leaves job arch l) _ now2 now2 gate (action_word signal + 3) _ (λ k z. omega arith) within2 (λ now3 r3 mask within3.
      push_or_kill_claim _ now3 now3 signal cause (record { handler = handler; flags = flags; restorer = restorer; mask = mask }) is_return within3)))

  ignore_claim : (past : List Visit) (before s : State) (signal : ℕ) (cause : Option Fault) → IsEnding (0x200 + signal) → Inner past s → Claim job arch (Leaves job arch l) past before s (ignore arch signal cause)
  ignore_claim past before s signal None is within = gate_out_then job arch l (Ends job arch) past before s _ within (λ p z n rest. (rested rest, λ held later. refl, tt))
  ignore_claim past before s signal (Some e) is within = kill_claim past before s signal is within

  handle_claim : (past : List Visit) (before s : State) (signal : ℕ) (cause : Option Fault) → signal < 64 → IsEnding (0x200 + signal) → Inner past s → Claim job arch (Leaves job arch l) past before s (handle arch signal cause)
  unfolding handle
  handle_claim past before s signal cause few is within =
      kernel_load_then job arch (Leaves job arch l) past before s gate (action_word signal) _ (λ k z. omega arith) within (λ now r handler within1.
      claim_cond job arch (Leaves job arch l) _ now now (handler == 0) _ _ (λ _. kill_claim _ now now signal is within1)
      (λ none. claim_cond job arch (Leaves job arch l) _ now now (handler == 1) _ _ (λ _. ignore_claim _ now now signal cause is within1)
      (λ not_one.
      let here : (action_word signal == action_word signal) ≡ true = grind (arith, nat_tests) in
      let above : nat_lt 1 handler ≡ true = (let a : handler ≢ 0 = grind (arith, nat_tests) in let b : handler ≢ 1 = grind (arith, nat_tests) in let c : 1 < handler = omega arith in grind (arith, nat_tests)) in
      handler_claim _ now now signal handler cause few (rw (here, above) refl) within1)))

  pub pending_delivery_claim : (past : List Visit) (before s : State) (signal : ℕ) → arch.number < thread_limit → (1 ≤ signal) × (signal < 32) → Inner past s →
      Claim job arch (Leaves job arch l) past before s (pending_delivery arch signal)
  unfolding pending_delivery
  pending_delivery_claim past before s signal born few within =
      let low = few.0 in
      let high = few.1 in
      let apart : (pend_word arch.number == token_word gate - 1) ≡ false = (let n : pend_word arch.number ≢ token_word gate - 1 = omega arith in grind (arith, nat_tests)) in
      fetch_and_then job arch (Leaves job arch l) past before s (pend_word arch.number) _ _ (pend_out arch.number born) (inside_stacked within) (λ now r v.
      handle_claim _ now now signal None (omega arith) (killed signal (omega arith) (omega arith) refl) (inside_left (rw apart refl) (inside_kept r within)))

  -- the signal of a fault
  fault_few : (e : Fault) → signal_of e.name < 64
  fault_few e = by_name e.name
    where
      by_name : (name : FaultName) → signal_of name < 64
      by_name Ud = omega arith
      by_name Gp = omega arith
      by_name Pf = omega arith
      by_name Ac = omega arith
      by_name Cp = omega arith

  pub fault_delivery_claim : (past : List Visit) (before s : State) (e : Fault) → Inner past s → Claim job arch (Leaves job arch l) past before s (fault_delivery arch e)
  unfolding fault_delivery
  fault_delivery_claim past before s e within =
      claim_cond job arch (Leaves job arch l) past before s (is_masked arch.mask (signal_of e.name)) _ _ (λ _. kill_claim past before s (signal_of e.name) (by_signal e.name) within)
      (λ _. handle_claim past before s (signal_of e.name) (Some e) (fault_few e) (by_signal e.name) within)
