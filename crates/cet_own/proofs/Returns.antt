-- What a thread claims of RET: where it completes, it goes where the newest entry lets it. Source: own.
use Rattle.std.proofs.Common.{◌≡◌, ℕ, ◌+◌, ◌-◌, ◌/◌, ◌^◌, ◌<◌, ◌≤◌, ◌⊎◌, inl, inr, Bool, true, false, ◌&&◌, List, [], ◌∷◌}
use Rattle.std.proofs.Common.{length, Option, Some, None, refl, sym, ◌∙◌, ap, subst, arith, get_or}
use Rattle.std.specs.Prelude.{◌==◌, if◌then◌else◌}
use Rattle.std.proofs.lemmas.Bool.{eqb-true, false≢true}
use Rattle.std.proofs.lemmas.Bool.Decides.{nat_tests}
use Rattle.cet_words.specs.Bytes.{code_byte}
use Rattle.cet_words.proofs.ByteLaws.{code_place}
use Rattle.cet_words.specs.Job.{JobData, IsJob}
use Rattle.cet_words.specs.Layout.{word_in, first_shadow_page, image_end, image_start, shadow_end, shadow_start}
use Rattle.cet_words.specs.Change.{Returned}
use Rattle.cet_words.specs.declared.accesses.Access.TheVariants as access
use Rattle.cet_isa.specs.Address.{canonical}
use Rattle.cet_isa.specs.declared.threads.Arch.{Arch}
use Rattle.cet_book.specs.declared.entries.Entry.{Entry}
use Rattle.cet_book.specs.declared.entries.Entry.TheVariants.{Call, Restorer, Frame, Previous, Blank}
use Rattle.cet_book.specs.declared.entries.Holder.TheVariants.{Lost}
use Rattle.cet_book.specs.Book.{Region, Book, region, top, current_of, relist, unlink, returned as book_returned}
use Rattle.cet_book.proofs.Edits.{Owned, owned}
use Rattle.cet_book.proofs.Removes.{returned_is, shortened}
use Rattle.cet_book.specs.Stack.{slot, tops}
use Rattle.cet_book.proofs.Top.{removal_top}
use Rattle.cet_book.proofs.Unlink.{Linked, left_there}
use Rattle.cet_book.proofs.Ways.{with_current_at}
use Rattle.cet_page.specs.Script.{done, fault, ◌>>=◌}
use Rattle.cet_page.specs.Finish.{rsp}
use Rattle.cet_page.specs.Word64.{add64}
use Rattle.cet_page.specs.Flow.{returned, returned_if, return_differs, ret}
use Rattle.cet_page.specs.Parts.{general_protection, load_as}
use Rattle.cet_page.specs.declared.checks.Kind.TheVariants as kind
use Rattle.cet_page.specs.declared.checks.Who.TheVariants.{User}
use Rattle.cet_own.specs.Safe.{GoesRight}
use Rattle.cet_book.specs.Facts.{In}
use Rattle.cet_own.proofs.Standing.{stacked}
use Rattle.cet_book.specs.Relied.{AtTop, Free}
use Rattle.cet_own.specs.Owed.{State, state_after, HeadWord, Known, Owed, own_stack}
use Rattle.cet_own.proofs.Classes.{plain_loads, pops}
use Rattle.cet_own.proofs.Parts.{Claim, one_after, claim_bind, check_address_then, look_then, shadow_look_then, load_then}
use Rattle.cet_own.proofs.Places.{load_page, shadow_slot, above_is, entry_at}
use Rattle.cet_own.proofs.Calls.{EndsRow, own_kept}
use Rattle.cet_own.specs.Threads.{entries_of}
use Rattle.cet_own.proofs.Progress.{Progress, progress, untouched}
use Rattle.cet_page.specs.Trail.{Visit, visit}
use Rattle.cet_own.proofs.Resting.{Resting, rest_kept, rest_stacked, rested}

-- ---- where it goes

none_by : (job : JobData) (addr : ℕ) (o : Option ℕ) → IsJob job → (addr < image_start) ⊎ (image_end ≤ addr) → code_byte job.image.segments addr ≡ o → o ≡ None
none_by job addr None j out e = refl
none_by job addr (Some b) j out e =
    let place = code_place job.image.segments addr b j.image.each e in
    let low = place.0 in
    let high = place.1 in
    absurd (elim out [ inl l ↦ omega arith | inr g ↦ omega arith ])

-- code lies in the image range alone
no_code : (job : JobData) (addr : ℕ) → IsJob job → (addr < image_start) ⊎ (image_end ≤ addr) → code_byte job.image.segments addr ≡ None
no_code job addr j out = none_by job addr (code_byte job.image.segments addr) j out refl

frame_apart : (a : ℕ) → a < shadow_end → canonical (2 ^ 63 + a + 8) ≡ false
frame_apart a l = grind (arith, nat_tests)

-- A canonical word of the newest entry goes right, and the book has the return.
pub record Returning (job : JobData) (m : ℕ) (b : Book) (l : List Entry) (v : ℕ) : Type 0 where
  pub goes : GoesRight job l v
  pub next : Book
  pub is : book_returned m l b ≡ Some next

returning : (job : JobData) (m : ℕ) (b : Book) (f : ℕ → ℕ) (a v : ℕ) (l : List Entry) → IsJob job → a < shadow_end → 1 ≤ length l →
    ((s : ℕ) (es : List Entry) → l ≡ Previous s ∷ es → image_end ≤ f s) → HeadWord f a l v → canonical v ≡ true → Returning job m b l v
returning job m b f a v [] j la some p w c = absurd (omega arith)
returning job m b f a v (Call x ∷ es) j la some p w c = record { goes = w; next = relist m es b; is = refl }
returning job m b f a v (Restorer x ∷ es) j la some p w c = record { goes = w; next = relist m es b; is = refl }
returning job m b f a v (Frame ∷ es) j la some p w c = absurd (false≢true (sym (frame_apart a la) ∙ sym (ap canonical w) ∙ c))
returning job m b f a v (Previous s ∷ es) j la some p w c =
    let k = p s es refl in
    record { goes = (c, no_code job v j (inr (omega arith))); next = unlink m s es Lost b; is = refl }
returning job m b f a v (Blank ∷ es) j la some p w c =
    record { goes = (c, no_code job v j (inl (omega arith))); next = relist m es b; is = refl }

-- the top of a region that was left
left_top : (t m s : ℕ) (es : List Entry) (b : Book) → Owned t m b → (region b m).entries ≡ Previous s ∷ es → image_end ≤ tops b s
left_top t m s es b o e =
    let l : Linked t m s es b = record { owned = o; entries = e } in
    let bounds = o.shape.bounds s (left_there l) in
    let low = bounds.low in
    let room = (o.shape.fits s).room in
    omega arith

-- ---- the shadow load, and what follows it

module _ (job : JobData) (j : IsJob job) (arch : Arch) where
  loaded : (past : List Visit) (now : State) (bytes w word v : ℕ) → Known job.image arch.number past now.book (access.Load w) v → w ≡ slot arch.ssp →
      Resting arch.number untouched (progress past) now.book arch.ssp → 1 ≤ length (entries_of arch.number now.book) → (c d : Bool) → (word == v) ≡ c → canonical word ≡ d →
      Owed job.image arch.number (own_stack job arch.number) past now.book (access.Load w) v (if c && d then Returned ∷ [] else []) × (next : State) ×
      (state_after arch.number now (if c && d then Returned ∷ [] else []) ≡ Some next) × Claim job arch (EndsRow job arch)
      (visit (access.Load w) v (if c && d then Returned ∷ [] else []) ∷ past) now next (if c then (if d then done (returned arch bytes word) else fault general_protection) else fault
      (return_differs word v))
  loaded past now bytes w word v known ws rest some false d e f = (plain_loads w refl (λ k z. (let high = rest.stacked.high in omega arith)) refl, now, refl, (rested rest, λ r. refl, λ z k. absurd (omega arith)))
  loaded past now bytes w word v known ws rest some true false e f = (plain_loads w refl (λ k z. (let high = rest.stacked.high in omega arith)) refl, now, refl, (rested rest, λ r. tt, tt))
  loaded past now bytes w word v known ws rest some true true e f =
      let same : word ≡ v = eqb-true word v e in
      let has = rest.stacked.top.has in
      let at = rest.stacked.top.at in
      let high = rest.stacked.high in
      let o : Owned arch.number (current_of arch.number now.book) now.book = owned arch.number now.book known.sound.book.shape has in
      let head = known.head has (ap access.Load (ws ∙ ap slot at)) in
      let r = returning job (current_of arch.number now.book) now.book (tops now.book) (top (region now.book (current_of arch.number now.book))) v (region now.book (current_of arch.number now.book)).entries j (omega arith) some
      (λ s es q. left_top arch.number (current_of arch.number now.book) s es now.book o q) head (ap canonical (sym same) ∙ f) in
      let removal = returned_is r.next (region now.book (current_of arch.number now.book)).entries o refl r.is in
      let short = shortened o removal in
      let top' = removal_top o removal in
      let up : top (region now.book (current_of arch.number now.book)) + 8 ≡ add64 arch.ssp 8 = ap (λ n. n + 8) (sym at) ∙ sym (above_is arch.ssp high) in
      let free : Free arch.number r.next = λ k q. rest.free k (ap (λ (l : List (Option ℕ)). get_or l k None) (sym short.stacks) ∙ q) in (
        pops (current_of arch.number now.book) o.current (ap access.Load (ws ∙ ap slot at)) rest.free (ap (λ (x : Progress). x.framed) rest.level) refl,
        record now { book = r.next },
        one_after arch.number now r.next Returned (with_current_at o (λ m q. book_returned m q.entries now.book) ∙ r.is),
        (
          record { stacked = stacked arch.number r.next (add64 arch.ssp 8) short.owned.shape (subst (AtTop arch.number r.next) up top'); free = free },
          λ held later. subst (GoesRight job (entries_of arch.number now.book)) (sym same) r.goes,
          tt,
        ),
      )

  load_claim : (past : List Visit) (before s : State) (bytes w word : ℕ) → w ≡ slot arch.ssp → Resting arch.number untouched (progress past) s.book arch.ssp →
      1 ≤ length (entries_of arch.number s.book) → Claim job arch (EndsRow job arch) past before s (load_as (returned_if word) w >>=
      (λ v. if word == v then (if canonical word then done (returned arch bytes word) else fault general_protection) else fault (return_differs word v)))
  unfolding load_as
  load_claim past before s bytes w word ws rest some =
      claim_bind job arch (EndsRow job arch) past before s (load_as (returned_if word) w) _ (
        (rest_stacked rest),
        λ now r v known.
            let same = own_kept arch.number s.book now.book r rest.stacked.top.has in
            loaded past now bytes w word v known ws (rest_kept r rest) (subst (λ (r : Region). 1 ≤ length r.entries) (sym same) some) (word == v) (canonical word) refl refl,
      )

  pub ret_claim : (past : List Visit) (before s : State) (bytes : ℕ) → Resting arch.number untouched (progress past) s.book arch.ssp → Claim job arch (EndsRow job arch) past before s (ret arch bytes)
  unfolding ret
  ret_claim past before s bytes rest =
      let low = rest.stacked.low in
      let high = rest.stacked.high in
      check_address_then job arch (EndsRow job arch) past before s (rsp arch) 8 _ rest (λ c e.
      look_then job arch (EndsRow job arch) past before s kind.Load User (rsp arch) _ rest (λ now r page v at_page known a.
      let rest1 = rest_kept r rest in
      shadow_look_then job arch (EndsRow job arch) _ now now kind.ShadowLoad arch.ssp _ (omega arith) (omega arith) rest1 (λ now2 r2 v2 known2 i inn.
      let rest2 = rest_kept r2 rest1 in
      let at = rest2.stacked.top.at in
      let some = entry_at now2.book (current_of arch.number now2.book) i known2.sound.book.shape rest2.stacked.top.has (subst (In (region now2.book i)) at inn) in
      let below = load_page job.image page v (known.entry page refl) a in
      load_then job arch (EndsRow job arch) _ now2 now2 (word_in page (rsp arch)) _ (λ k z. omega arith) rest2 (λ now3 r3 word.
      let same = own_kept arch.number now2.book now3.book r3 rest2.stacked.top.has in
      load_claim _ now3 now3 bytes (word_in (first_shadow_page + (arch.ssp - shadow_start) / 4096) arch.ssp) word (shadow_slot arch.ssp (omega arith) (omega arith)) (rest_kept r3 rest2)
      (subst (λ (r : Region). 1 ≤ length r.entries) (sym same) some)))))
