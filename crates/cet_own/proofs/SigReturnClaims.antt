-- What a thread claims of rt_sigreturn: the word at SSP that it takes for a frame's is one. Source: own.
use Rattle.std.proofs.Common.{◌≡◌, ℕ, ◌+◌, ◌-◌, ◌/◌, ◌^◌, ◌<◌, ◌≤◌, Bool, true, false, List, [], ◌∷◌, length, Some, None, refl, sym, ◌∙◌, ap, subst, arith, inl, inr}
use Rattle.std.specs.Prelude.{◌==◌, ◌%◌, ◌&&◌, if◌then◌else◌, nat_le}
use Rattle.std.proofs.lemmas.Bool.{cases_lt}
use Rattle.std.proofs.lemmas.Bool.Decides.{nat_tests}
use Rattle.std.proofs.lemmas.List.{get_or_past}
use Rattle.cet_words.specs.Job.{JobData, IsJob}
use Rattle.cet_words.specs.Layout.{first_kernel_word, first_shadow_page, last_region_end, shadow_start, word_in}
use Rattle.cet_words.specs.declared.accesses.Access.TheVariants as access
use Rattle.cet_isa.specs.Address.{canonical}
use Rattle.cet_isa.specs.declared.threads.Arch.{Arch}
use Rattle.cet_isa.specs.declared.threads.FaultName.TheVariants.{Gp}
use Rattle.cet_book.specs.declared.entries.Entry.{Entry}
use Rattle.cet_book.specs.declared.entries.Entry.TheVariants.{Blank, Call, Frame, Previous, Restorer}
use Rattle.cet_book.specs.Book.{Book, Region, current_of, nowhere, region, top}
use Rattle.cet_book.specs.Facts.{AllReturn, In}
use Rattle.cet_book.specs.Shape.{Shape}
use Rattle.cet_book.specs.Stack.{slot, tops}
use Rattle.cet_page.specs.Delivery.{frame_last, segv}
use Rattle.cet_page.specs.Parts.{loads}
use Rattle.cet_page.specs.SigReturn.{popped_frame, return_by, returned, returned_frame, returned_span, rt_sigreturn}
use Rattle.cet_page.specs.Tokens.{frame_ssp, is_frame_word}
use Rattle.cet_page.specs.Trail.{Visit}
use Rattle.cet_page.specs.declared.checks.Kind.TheVariants as kind
use Rattle.cet_own.specs.Safe.{IsElsewhere}
use Rattle.cet_own.proofs.Calls.{own_kept}
use Rattle.cet_own.specs.Threads.{Ends}
use Rattle.cet_own.proofs.DeliveryClaims.{kill_claim}
use Rattle.cet_own.proofs.Endings.{by_signal}
use Rattle.cet_own.proofs.GateParts.{popped_out_then}
use Rattle.cet_own.proofs.KernelParts.{Leaves, Within}
use Rattle.cet_own.specs.Owed.{HeadWord, State, own_stack}
use Rattle.cet_own.proofs.Parts.{Claim, claim_bind, claim_cond, kernel_load_known}
use Rattle.cet_own.proofs.Places.{entry_at, shadow_slot}
use Rattle.cet_own.proofs.Progress.{untouched}
use Rattle.cet_own.proofs.Resting.{rested}
use Rattle.cet_own.specs.Claims.{AtRest}
use Rattle.cet_own.proofs.StructureParts.{load_span_claim, loads_claim, shadow_probe_then}

-- tops lie below the end of the shadow area
low_top : (b : Book) (s : ℕ) → Shape b → top (region b s) ≤ last_region_end
low_top b s shape = elim (cases_lt s (length b.regions)) [
  | inl l ↦ let high = (shape.bounds s l).high in omega arith
  | inr g ↦ let e : top (region b s) ≡ 0 = ap (λ (r : Region). top r) (get_or_past b.regions s nowhere g) in omega arith
]

-- an entry whose word has bit 63 is a frame's
record IsFrame (addr : ℕ) (es : List Entry) (word : ℕ) : Type 0 where
  rest : List Entry
  list : es ≡ Frame ∷ rest
  value : word ≡ 2 ^ 63 + addr + 8

head_frame : (b : Book) (addr word : ℕ) (es : List Entry) → Shape b → 1 ≤ length es → AllReturn es → HeadWord (tops b) addr es word → 2 ^ 63 ≤ word → IsFrame addr es word
head_frame b addr word [] shape some returns head high = absurd (omega arith)
head_frame b addr word (Call x ∷ es) shape some returns head high = absurd (let low = returns.0.1 in omega arith)
head_frame b addr word (Restorer x ∷ es) shape some returns head high = absurd (let low = returns.0.1 in omega arith)
head_frame b addr word (Frame ∷ es) shape some returns head high = record { rest = es; list = refl; value = head }
head_frame b addr word (Previous s ∷ es) shape some returns head high = absurd (let low = low_top b s shape in omega arith)
head_frame b addr word (Blank ∷ es) shape some returns head high = absurd (omega arith)

module _ (job : JobData) (j : IsJob job) (arch : Arch) (l : own_stack job arch.number < 8) (free : IsElsewhere job arch) where
  abbrev gate : ℕ
  gate = own_stack job arch.number

  abbrev Inner : List Visit → State → Type 0
  Inner past s = Within job arch l untouched past s

  -- the newest entry is a frame's, with this word
  record Pops (b : Book) (word : ℕ) : Type 0 where
    rest : List Entry
    list : (region b (current_of arch.number b)).entries ≡ Frame ∷ rest
    value : word ≡ 2 ^ 63 + arch.ssp + 8

  pops_claim : (past : List Visit) (before s : State) (saved : List ℕ) (word : ℕ) → Pops s.book word → Inner past s → Leaves job arch l past before s (returned arch saved word)
  pops_claim past before s saved word pops within =
      let low = within.stacked.low in
      let high = within.stacked.high in
      let value = pops.value in
      let up : frame_ssp word ≡ arch.ssp + 8 = omega arith in
      popped_out_then job arch l (Ends job arch) past before s pops.rest _ pops.list within (λ p z n rest.
      (subst (AtRest arch.number n.book) (sym up) (rested rest), λ held now. free, tt))

  return_claim : (past : List Visit) (before s : State) (frame word : ℕ) → frame < first_kernel_word → Pops s.book word → Inner past s → Claim job arch (Leaves job arch l) past before s (return_by arch (Some (frame, word)))
  unfolding return_by
  return_claim past before s frame word low pops within =
      claim_bind job arch (Leaves job arch l) past before s (loads 19 (frame + 1)) _
      (loads_claim job arch l {d = untouched} _ past before s 19 (frame + 1) (omega arith) within (λ p z n saved r within1.
      let same = own_kept arch.number s.book n.book r within.stacked.top.has in
      pops_claim p z n saved word (record { rest = pops.rest; list = ap (λ (q : Region). q.entries) same ∙ pops.list; value = pops.value }) within1))

  none_claim : (past : List Visit) (before s : State) → Inner past s → Claim job arch (Leaves job arch l) past before s (return_by arch None)
  unfolding return_by
  none_claim past before s within = kill_claim job j arch l past before s segv (by_signal Gp) within

  -- by the word at SSP
  word_claim : (past : List Visit) (before s : State) (frame word : ℕ) (c : Bool) → is_frame_word word ≡ c → frame < first_kernel_word → (2 ^ 63 ≤ word → Pops s.book word) → Inner past s →
      Claim job arch (Leaves job arch l) past before s (return_by arch (if c then Some (frame, word) else None))
  word_claim past before s frame word true e low pops within = return_claim past before s frame word low (pops (let high : nat_le (2 ^ 63) word ≡ true = e in grind (arith, nat_tests))) within
  word_claim past before s frame word false e low pops within = none_claim past before s within

  pub rt_sigreturn_claim : (past : List Visit) (before s : State) → Inner past s → Claim job arch (Leaves job arch l) past before s (rt_sigreturn arch)
  unfolding rt_sigreturn popped_frame returned_span
  rt_sigreturn_claim past before s within =
      let low = within.stacked.low in
      let high = within.stacked.high in
      claim_bind job arch (Leaves job arch l) past before s (popped_frame arch) (return_by arch)
      (claim_bind job arch _ past before s (returned_span (returned_frame arch)) _
      (claim_cond job arch _ past before s (canonical (returned_frame arch) && returned_frame arch % 8 == 0) _ _
      (λ _. load_span_claim job arch l {d = untouched} _ past before s (returned_frame arch) frame_last within none_claim (λ p z n frame few within1.
      shadow_probe_then job arch l {d = untouched} _ p z n kind.ShadowLoad arch.ssp _ (omega arith) (omega arith) within1 none_claim (λ p1 z1 n1 r1 shape i inn within2.
      kernel_load_known job arch _ p1 z1 n1 gate (word_in (first_shadow_page + (arch.ssp - shadow_start) / 4096) arch.ssp) _ (λ k z. omega arith) within2 (λ n2 r2 word known within3.
      let some = entry_at n1.book (current_of arch.number n1.book) i shape within2.stacked.top.has (subst (In (region n1.book i)) within2.stacked.top.at inn) in
      let same = own_kept arch.number n1.book n2.book r2 within2.stacked.top.has in
      let some' : 1 ≤ length (region n2.book (current_of arch.number n2.book)).entries = rw same some in
      let at = within3.stacked.top.at in
      let head = known.head within3.stacked.top.has (ap access.Load (shadow_slot arch.ssp (omega arith) (omega arith) ∙ ap slot at)) in
      word_claim _ n2 n2 frame word (is_frame_word word) refl few (λ big.
      let f = head_frame n2.book (top (region n2.book (current_of arch.number n2.book))) word (region n2.book (current_of arch.number n2.book)).entries known.sound.book.shape some'
      (known.sound.returns (current_of arch.number n2.book)) head big in
      record { rest = f.rest; list = f.list; value = f.value ∙ ap (λ n. 2 ^ 63 + n + 8) (sym at) }) within3))))
      (λ _. none_claim past before s within)))
