-- What a thread claims of clone. Source: own.
use Rattle.std.proofs.Common.{◌≡◌, ◌≢◌, ℕ, ◌+◌, ◌-◌, ◌*◌, ◌<◌, ◌≤◌, Bool, true, false, List, [], ◌∷◌, length, Option, Some, refl, sym, ◌∙◌, ap, subst, arith}
use Rattle.std.specs.Prelude.{◌==◌, ◌&&◌, if◌then◌else◌, nat_lt}
use Rattle.std.proofs.lemmas.Bool.Decides.{nat_tests}
use Rattle.cet_words.specs.Change.{Born}
use Rattle.cet_words.specs.Entries.{shadow_entry}
use Rattle.cet_words.specs.Job.{JobData}
use Rattle.cet_words.specs.Layout.{entry_word, next_thread_word, thread_limit, token_word}
use Rattle.cet_words.specs.declared.accesses.Access.TheVariants as access
use Rattle.cet_isa.specs.declared.threads.Arch.{Arch}
use Rattle.cet_book.specs.Book.{Book, Region, region, top, current_of}
use Rattle.cet_book.specs.declared.entries.Holder.TheVariants.{Current}
use Rattle.cet_book.proofs.Edits.{current_holds}
use Rattle.cet_book.proofs.Hand.{hand, Made, bears, born_others, hand_same, hand_other}
use Rattle.cet_book.specs.Relied.{AtTop}
use Rattle.cet_book.proofs.Ways.{born_way}
use Rattle.cet_page.specs.Finish.{rdi, rsi}
use Rattle.cet_page.specs.MapShadowStack.{drawn_page, drawn_start}
use Rattle.cet_page.specs.Parts.{clears, fetch_add_as, stores}
use Rattle.cet_page.specs.Processes.{bear, bear_by, bore, born_if, clone, draw_thread, give_up, makes_thread, thread_pages}
use Rattle.cet_page.specs.Script.{done, ◌>>=◌}
use Rattle.cet_page.specs.Trail.{Visit, visit}
use Rattle.cet_page.specs.declared.services.Errno.TheVariants as errno
use Rattle.cet_own.specs.Past.{left_in, next_word, numbered}
use Rattle.cet_own.specs.Safe.{IsElsewhere}
use Rattle.cet_own.proofs.Born.{births, unborn}
use Rattle.cet_own.specs.Threads.{Ends}
use Rattle.cet_own.specs.Claims.{Bears}
use Rattle.cet_own.proofs.GateParts.{gate_out_then}
use Rattle.cet_own.proofs.KernelParts.{counted_by, Leaves, Within, failed_claim}
use Rattle.cet_own.proofs.MapClaims.{Begun, begun_kept, draw_then, entries_claim}
use Rattle.cet_own.specs.Owed.{State, state_after, Known, Owed, own_stack}
use Rattle.cet_own.proofs.Parts.{Claim, one_after, claim_bind, claim_cond, clears_claim}
use Rattle.cet_own.proofs.Progress.{Progress, progress, untouched}
use Rattle.cet_own.proofs.Resting.{Inside, inside_kept, inside_left, inside_stacked, rested}

-- the parent's own region doesn't see that a child is born onto another one
parent_top : {t s : ℕ} {b : Book} {ssp : ℕ} (m : Made t s b) (child : ℕ) → length b.regions ≤ current_of child b → AtTop t b ssp → AtTop t (hand s (region b s).entries (Current child) b) ssp
parent_top {t = t} {s = s} {b = b} m child none a =
    let has = a.has in
    let other : child ≢ t = λ z. (let e : current_of child b ≡ current_of t b = ap (λ y. current_of y b) z in omega arith) in
    let cur = born_others m child t other in
    let same = hand_same (bears m child) in
    let apart : current_of t b ≢ s = λ z. (let c = current_holds t b a.has in let d : (region b s).holder ≡ Current t = subst (λ j. (region b j).holder ≡ Current t) z c in let e = m.maker in cc) in
    let others = hand_other (bears m child) (current_of t b) apart in
    record {
      has = let e = same.len in omega arith;
      at = a.at ∙ sym (ap (λ i. top (region (hand s (region b s).entries (Current child) b) i)) cur ∙ ap (λ (r : Region). top r) others);
      aligned = a.aligned;
    }

module _ (job : JobData) (arch : Arch) (l : own_stack job arch.number < 8) (free : IsElsewhere job arch) where
  abbrev pub gate : ℕ
  gate = own_stack job arch.number

  -- the row has drawn pages
  abbrev pub Drawing : List Visit → State → Type 0
  Drawing past s = Within job arch l (counted_by true false) past s

  -- and a number
  abbrev pub Numbering : List Visit → State → Type 0
  Numbering past s = Within job arch l (counted_by true true) past s

  -- from the draw of a number on the row has drawn one
  numbers_on : {now : Progress} {left : Option ℕ} {b : Book} → Inside arch.number gate (counted_by true false) now left b arch.ssp →
      Inside arch.number gate (counted_by true true) (record { framed = now.framed; drawing = now.drawing; numbering = true }) left b arch.ssp
  numbers_on i = record { stacked = i.stacked; holds = i.holds; level = ap (λ (x : Progress). record { framed = x.framed; drawing = x.drawing; numbering = true }) i.level; settled = i.settled; alone = i.alone }

  bore_claim : (past : List Visit) (before s : State) (child start : ℕ) → Numbering past s → Leaves job arch l past before s (bore arch child start)
  bore_claim past before s child start within = gate_out_then job arch l (Ends job arch) past before s _ within (λ p z n rest. (rested rest, λ held now. free, tt))

  give_up_claim : (past : List Visit) (before s : State) (d : ℕ) → d + thread_pages + 1 ≤ 1023 → Numbering past s → Claim job arch (Leaves job arch l) past before s (give_up arch (drawn_page d))
  unfolding give_up
  give_up_claim past before s d room within =
      claim_bind job arch (Leaves job arch l) past before s (clears thread_pages (drawn_page d)) _
      (clears_claim job arch gate l _ past before s thread_pages (drawn_page d) (omega arith) (omega arith) within (λ p z n within1.
      failed_claim job arch l {drawing = true} {numbering = true} p z n errno.Again free within1))

  -- by whether there is a number left
  numbered_claim : (past : List Visit) (now : State) (i d v : ℕ) → d + thread_pages + 1 ≤ 1023 → Known job.image arch.number past now.book (access.FetchAdd next_word 1) v → Drawing past now →
      Begun arch.number i (drawn_start d) (drawn_start d + 4096 * thread_pages) true now.book → (c : Bool) → nat_lt v thread_limit ≡ c →
      Owed job.image arch.number gate past now.book (access.FetchAdd next_word 1) v (if c then Born v (drawn_start d) ∷ [] else []) × (later : State) ×
      (state_after arch.number now (if c then Born v (drawn_start d) ∷ [] else []) ≡ Some later) ×
      Claim job arch (Leaves job arch l) (visit (access.FetchAdd next_word 1) v (if c then Born v (drawn_start d) ∷ [] else []) ∷ past) now later
      (if c then done (bore arch v (drawn_start d)) else give_up arch (drawn_page d))
  numbered_claim past now i d v room known within begun false e =
      let many : thread_limit ≤ v = grind (arith, nat_tests) in
      let once : numbered past ≡ false = ap (λ (x : Progress). x.numbering) within.level in
      let apart : (next_word == token_word gate - 1) ≡ false = (let n : next_word ≢ token_word gate - 1 = omega arith in grind (arith, nat_tests)) in
      (unborn refl many once refl, now, refl, give_up_claim _ now now d room (inside_left (rw apart refl) (numbers_on within)))
  numbered_claim past now i d v room known within begun true e =
      let few : v < thread_limit = grind (arith, nat_tests) in
      let once : numbered past ≡ false = ap (λ (x : Progress). x.numbering) within.level in
      let apart : (next_word == token_word gate - 1) ≡ false = (let n : next_word ≢ token_word gate - 1 = omega arith in grind (arith, nat_tests)) in
      let maker = begun.holder refl in
      let none = known.fresh 1 refl few in
      let child : Bears arch.number v i (drawn_start d) now.book = record { maker = maker; first = begun.first; last = begun.last; none = none } in
      let m : Made arch.number i now.book = record { shape = known.sound.book.shape; maker = maker } in
      let way = born_way m v (drawn_start d) begun.first none.regions in
      let top' = parent_top m v none.regions within.stacked.top in
      let within1 : Inside arch.number gate (counted_by true false) (progress past) (left_in past (token_word gate - 1)) (hand i (region now.book i).entries (Current v) now.book) arch.ssp
      = record { stacked = record { top = top'; low = within.stacked.low; high = within.stacked.high }; holds = within.holds; level = within.level; settled = within.settled; alone = within.alone } in (
        births i (drawn_start d) refl few child once refl,
        record now { book = hand i (region now.book i).entries (Current v) now.book },
        one_after arch.number now (hand i (region now.book i).entries (Current v) now.book) (Born v (drawn_start d)) way,
        bore_claim _ now (record now { book = hand i (region now.book i).entries (Current v) now.book }) v (drawn_start d) (inside_left (rw apart refl) (numbers_on within1)),
      )

  number_claim : (past : List Visit) (before s : State) (i d : ℕ) → d + thread_pages + 1 ≤ 1023 → Drawing past s →
      Begun arch.number i (drawn_start d) (drawn_start d + 4096 * thread_pages) true s.book →
      Claim job arch (Leaves job arch l) past before s (fetch_add_as (born_if (drawn_start d)) next_thread_word 1 >>= bear_by arch d)
  unfolding fetch_add_as
  number_claim past before s i d room within begun =
      claim_bind job arch (Leaves job arch l) past before s (fetch_add_as (born_if (drawn_start d)) next_thread_word 1) _ (
        inside_stacked within,
        λ now r v known. numbered_claim past now i d v room known (inside_kept r within) (begun_kept r begun) (nat_lt v thread_limit) refl,
      )

  bear_claim : (past : List Visit) (before s : State) (i d : ℕ) → d + thread_pages + 1 ≤ 1023 → Drawing past s → Begun arch.number i (drawn_start d) (drawn_start d + 4096 * thread_pages) true s.book →
      Claim job arch (Leaves job arch l) past before s (bear arch d)
  unfolding bear
  bear_claim past before s i d room within begun =
      claim_bind job arch (Leaves job arch l) past before s (stores thread_pages (entry_word (drawn_page d)) (shadow_entry (drawn_page d)) 4096) _
      (entries_claim job arch l free (λ p z n _. Claim job arch (Leaves job arch l) p z n (fetch_add_as (born_if (drawn_start d)) next_thread_word 1 >>= bear_by arch d))
      past before s thread_pages (drawn_page d) (entry_word (drawn_page d)) (shadow_entry (drawn_page d)) i (drawn_start d) (drawn_start d + 4096 * thread_pages) true refl refl (omega arith)
      (omega arith) (omega arith) (omega arith) within begun
      (λ p z n within1 begun1. number_claim p z n i d room within1 begun1))

  draw_thread_claim : (past : List Visit) (before s : State) → Within job arch l untouched past s → Claim job arch (Leaves job arch l) past before s (draw_thread arch)
  unfolding draw_thread
  draw_thread_claim past before s within =
      draw_then job arch l free past before s thread_pages true (λ d. bear arch d) (omega arith) (omega arith) within
      (λ p z n i d room within1 begun. bear_claim p z n i d room within1 begun)

  pub clone_claim : (past : List Visit) (before s : State) → Within job arch l untouched past s → Claim job arch (Leaves job arch l) past before s (clone arch)
  clone_claim past before s within =
      claim_cond job arch (Leaves job arch l) past before s (makes_thread (rdi arch) && nat_lt 0 (rsi arch)) _ _ (λ _. draw_thread_claim past before s within)
      (λ _. failed_claim job arch l {drawing = false} {numbering = false} past before s errno.Inval free within)
