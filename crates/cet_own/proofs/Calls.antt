-- What a thread claims of CALL and RET. Source: own.
use Rattle.std.proofs.Common.{◌≡◌, ℕ, ◌+◌, ◌-◌, ◌/◌, ◌<◌, ◌≤◌, List, [], ◌∷◌, length, refl, ◌∙◌, ap, subst, arith}
use Rattle.std.specs.Prelude.{◌==◌, ℤ}
use Rattle.std.specs.Int.{w64, cast_unsigned}
use Rattle.cet_words.specs.Job.{JobData}
use Rattle.cet_words.specs.Layout.{word_in, first_shadow_page, shadow_start}
use Rattle.cet_words.specs.Change.{Called}
use Rattle.cet_words.specs.declared.accesses.Access.TheVariants as access
use Rattle.cet_isa.specs.Address.{canonical}
use Rattle.cet_isa.specs.declared.instructions.Operand.{Operand}
use Rattle.cet_isa.specs.declared.instructions.Size.TheVariants as size
use Rattle.cet_isa.specs.declared.threads.Arch.{Arch}
use Rattle.cet_isa.specs.declared.threads.Record.{Record}
use Rattle.cet_book.specs.declared.entries.Entry.TheVariants.{Call}
use Rattle.cet_book.specs.Book.{Book, region, top, current_of, relist}
use Rattle.cet_book.specs.Facts.{IsReturn, In}
use Rattle.cet_book.proofs.Edits.{Owned, owned, current_holds}
use Rattle.cet_book.proofs.Kept.{book_kept}
use Rattle.cet_book.specs.Relied.{Relies, owns_current}
use Rattle.cet_book.specs.Stack.{slot}
use Rattle.cet_book.proofs.Top.{relist_top}
use Rattle.cet_book.proofs.Ways.{called_way}
use Rattle.cet_page.specs.Script.{done, ◌>>=◌}
use Rattle.cet_page.specs.Finish.{rsp}
use Rattle.cet_page.specs.Word64.{sub64}
use Rattle.cet_page.specs.Flow.{called, call, call_next, relative, call_relative, call_indirect}
use Rattle.cet_page.specs.Parts.{store_as}
use Rattle.cet_page.specs.declared.checks.Kind.TheVariants as kind
use Rattle.cet_page.specs.declared.finishes.Finish.TheVariants.{Noted}
use Rattle.cet_own.specs.Safe.{IsElsewhere}
use Rattle.cet_own.proofs.Standing.{stacked}
use Rattle.cet_own.specs.Owed.{State}
use Rattle.cet_own.proofs.Classes.{pushes}
use Rattle.cet_own.proofs.Parts.{Claim, one_after, claim_bind, claim_cond, check_address_then, store_look_then, shadow_look_then, store_then}
use Rattle.cet_own.proofs.OperandParts.{read_operand_then}
use Rattle.cet_own.proofs.Places.{page_word, shadow_slot, below_is, room_below}
use Rattle.cet_own.proofs.Progress.{Progress, progress, untouched}
use Rattle.cet_page.specs.Trail.{Visit}
use Rattle.cet_own.specs.Threads.{Ends}
use Rattle.cet_own.proofs.Resting.{Resting, rest_kept, rest_stacked, rested}

-- the same of the part of an instruction
abbrev pub EndsRow : JobData → Arch → (past : List Visit) → (before s : State) → Arch × Record → Type 0
EndsRow job arch past before s x = Ends job arch past before s (Noted x.0 x.1)

-- the thread's region, whatever the others did
pub own_kept : (t : ℕ) (b now : Book) → Relies t b now → current_of t b < length b.regions → region now (current_of t now) ≡ region b (current_of t b)
own_kept t b now r l = ap (region now) (r.found l) ∙ r.kept (current_of t b) (owns_current t (region b (current_of t b)).holder (current_holds t b l))

-- ---- CALL

module _ (job : JobData) (arch : Arch) where
  -- the book after the return address was pushed
  abbrev pub pushed : Book → (back : ℕ) → Book
  pushed b back = relist (current_of arch.number b) (Call back ∷ (region b (current_of arch.number b)).entries) b

  -- the return address goes on the shadow stack
  push_claim : (past : List Visit) (before s : State) (target sp word back : ℕ) → Resting arch.number untouched (progress past) s.book arch.ssp → word ≡ slot (arch.ssp - 8) →
      (region s.book (current_of arch.number s.book)).start + 8 ≤ top (region s.book (current_of arch.number s.book)) → IsReturn back → IsElsewhere job arch →
      Claim job arch (EndsRow job arch) past before s (store_as (Called back ∷ []) word back >>= (λ _. done (called arch target sp (sub64 arch.ssp 8))))
  unfolding store_as
  push_claim past before s target sp word back rest w room is_return free =
      claim_bind job arch (EndsRow job arch) past before s (store_as (Called back ∷ []) word back) _ (
        (rest_stacked rest),
        λ now r known.
            let rest' = rest_kept r rest in
            let has = rest'.stacked.top.has in
            let at = rest'.stacked.top.at in
            let low = rest'.stacked.low in
            let high = rest'.stacked.high in
            let o : Owned arch.number (current_of arch.number now.book) now.book = owned arch.number now.book known.sound.book.shape has in
            let same = own_kept arch.number s.book now.book r rest.stacked.top.has in
            let room' : (region now.book (current_of arch.number now.book)).start + 8 ≤ top (region now.book (current_of arch.number now.book)) = rw same room in
            let fits = (known.sound.book.shape.fits (current_of arch.number now.book)).room in
            let way = called_way o back (omega arith) in
            let sh = (book_kept arch.number (Called back) now.book (pushed now.book back) known.sound.book way).book.shape in
            let is : sub64 arch.ssp 8 ≡ arch.ssp - 8 = below_is arch.ssp low high in
            let top' = relist_top o (Call back ∷ (region now.book (current_of arch.number now.book)).entries) sh (sub64 arch.ssp 8) (omega arith) in (
              pushes (current_of arch.number now.book) back o.current (ap (λ n. access.Store n back) (w ∙ ap (λ n. slot (n - 8)) at)) room' is_return (ap (λ (x : Progress). x.framed) rest'.level) refl,
              record now { book = pushed now.book back },
              one_after arch.number now (pushed now.book back) (Called back) way,
              (
                record { stacked = stacked arch.number (pushed now.book back) (sub64 arch.ssp 8) sh top'; free = rest'.free },
                λ held later. free,
                tt,
              ),
            ),
      )

  pub call_claim : (past : List Visit) (before s : State) (back target : ℕ) → Resting arch.number untouched (progress past) s.book arch.ssp → IsReturn back → IsElsewhere job arch →
      Claim job arch (EndsRow job arch) past before s (call arch back target)
  unfolding call
  call_claim past before s back target rest is_return free =
      let low = rest.stacked.low in
      let high = rest.stacked.high in
      let even = rest.stacked.top.aligned in
      let is : sub64 arch.ssp 8 ≡ arch.ssp - 8 = below_is arch.ssp low high in
      check_address_then job arch (EndsRow job arch) past before s (sub64 (rsp arch) 8) 8 _ rest (λ c e.
      store_look_then job arch (EndsRow job arch) past before s (sub64 (rsp arch) 8) _ rest (λ now r page v' p.
      let rest1 = rest_kept r rest in
      shadow_look_then job arch (EndsRow job arch) _ now now kind.ShadowStore (sub64 arch.ssp 8) _ (omega arith) (omega arith) rest1 (λ now2 r2 v known i inn.
      let rest2 = rest_kept r2 rest1 in
      let at = rest2.stacked.top.at in
      let room = room_below now2.book (current_of arch.number now2.book) i known.sound.book.shape rest2.stacked.top.has
      (subst (In (region now2.book i)) (is ∙ ap (λ n. n - 8) at) inn) in
      store_then job arch (EndsRow job arch) _ now2 now2 (word_in page (sub64 (rsp arch) 8)) back _ (page_word page (sub64 (rsp arch) 8) p) (rest_stacked rest2) (λ now3 r3.
      let rest3 = rest_kept r3 rest2 in
      let same = own_kept arch.number now2.book now3.book r3 rest2.stacked.top.has in
      push_claim _ now3 now3 target (sub64 (rsp arch) 8) (word_in (first_shadow_page + (sub64 arch.ssp 8 - shadow_start) / 4096) (sub64 arch.ssp 8)) back rest3
      (shadow_slot (sub64 arch.ssp 8) (omega arith) (omega arith) ∙ ap slot is) (rw same room) is_return free))))

  pub call_next_claim : (past : List Visit) (before s : State) (back : ℕ) → Resting arch.number untouched (progress past) s.book arch.ssp → IsElsewhere job arch → Claim job arch (EndsRow job arch) past before s (call_next arch back)
  unfolding call_next
  call_next_claim past before s back rest free =
      check_address_then job arch (EndsRow job arch) past before s (sub64 (rsp arch) 8) 8 _ rest (λ c e.
      store_look_then job arch (EndsRow job arch) past before s (sub64 (rsp arch) 8) _ rest (λ now r page v' p.
      let rest1 = rest_kept r rest in
      store_then job arch (EndsRow job arch) _ now now (word_in page (sub64 (rsp arch) 8)) back _ (page_word page (sub64 (rsp arch) 8) p) (rest_stacked rest1) (λ now2 r2.
      (rested (rest_kept r2 rest1), λ held later. free, tt))))

  pub call_relative_claim : (past : List Visit) (before s : State) (disp : ℤ) (next : ℕ) → Resting arch.number untouched (progress past) s.book arch.ssp → IsReturn next → IsElsewhere job arch →
      Claim job arch (EndsRow job arch) past before s (call_relative arch disp next)
  call_relative_claim past before s disp next rest is_return free =
      claim_cond job arch (EndsRow job arch) past before s (cast_unsigned w64 disp == 0) _ _
      (λ _. call_next_claim past before s next rest free) (λ _. call_claim past before s next (relative next disp) rest is_return free)

  pub call_indirect_claim : (past : List Visit) (before s : State) (src : Operand) (next : ℕ) → Resting arch.number untouched (progress past) s.book arch.ssp → IsReturn next → IsElsewhere job arch →
      Claim job arch (EndsRow job arch) past before s (call_indirect arch src next)
  unfolding call_indirect
  call_indirect_claim past before s src next rest is_return free =
      read_operand_then job arch (EndsRow job arch) past before s size.Qword src next _ rest (λ p z n rest1 target.
      claim_cond job arch (EndsRow job arch) p z n (canonical target) _ _
      (λ _. call_claim p z n next target rest1 is_return free) (λ _. (rested rest1, λ _. tt, tt)))
