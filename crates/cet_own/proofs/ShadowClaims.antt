-- What a thread claims of the instructions on shadow stacks. Source: own.
use Rattle.std.proofs.Common.{◌≡◌, ℕ, ◌+◌, ◌-◌, ◌*◌, ◌/◌, ◌%◌, ◌<◌, ◌≤◌, inl, inr, Bool, true, false, List, [], ◌∷◌, length, Option, Some, None, refl, sym, ◌∙◌, ap, subst, arith, get_or}
use Rattle.std.specs.Prelude.{◌==◌, if◌then◌else◌, max}
use Rattle.std.proofs.lemmas.Bool.{eqb-true}
use Rattle.std.proofs.lemmas.Bool.Decides.{eqb_tells}
use Rattle.cet_words.specs.Change.{Acquired, Raised, Released}
use Rattle.cet_words.specs.Job.{JobData}
use Rattle.cet_words.specs.Layout.{first_kernel_page, word_in, first_shadow_page, image_end, image_start, shadow_start}
use Rattle.cet_words.specs.declared.accesses.Access.TheVariants as access
use Rattle.cet_isa.specs.Address.{canonical}
use Rattle.cet_isa.specs.declared.instructions.Instr.{Instr}
use Rattle.cet_isa.specs.declared.instructions.Instr.TheVariants as instr
use Rattle.cet_isa.specs.declared.threads.Arch.{Arch}
use Rattle.cet_book.specs.Book.{Book, Region, region, top, current_of, acquire, unlink}
use Rattle.cet_book.specs.Facts.{AllReturn, In, IsParkedAt, Place}
use Rattle.cet_book.specs.Shape.{Shape}
use Rattle.cet_book.specs.Stack.{slot, tops}
use Rattle.cet_book.specs.declared.entries.Entry.{Entry}
use Rattle.cet_book.specs.declared.entries.Entry.TheVariants.{Call, Restorer, Frame, Previous, Blank}
use Rattle.cet_book.specs.declared.entries.Holder.TheVariants.{Parked}
use Rattle.cet_book.proofs.Acquire.{Takes, acquire_shape}
use Rattle.cet_book.proofs.Edits.{Owned, owned}
use Rattle.cet_book.proofs.Kept.{book_kept}
use Rattle.cet_book.proofs.Removes.{raised_shortened}
use Rattle.cet_book.specs.Relied.{Free, Relies, owns_current, AtTop}
use Rattle.cet_book.proofs.Top.{acquired_top, released_top, raised_top, top_is}
use Rattle.cet_book.proofs.Unlink.{Linked, linked_left, left_there}
use Rattle.cet_book.proofs.Ways.{acquired_way, released_way, raised_way}
use Rattle.cet_page.specs.Operands.{effective, register}
use Rattle.cet_page.specs.Page.{allows, page_fault}
use Rattle.cet_page.specs.Parts.{general_protection, load, load_as, store_as, compare_exchange_as, look_as, look_in_as}
use Rattle.cet_page.specs.Script.{done, fault}
use Rattle.cet_page.specs.ShadowStacks.{rstorssp, save, save_by, saveprevssp, raised, incsspq, shadow_stacks}
use Rattle.cet_page.specs.Tokens.{restore_token, restore_token_at, previous_token, is_previous_token, previous_ssp, saved_at}
use Rattle.cet_page.specs.Trail.{Visit, visit}
use Rattle.cet_page.specs.Word64.{add64}
use Rattle.cet_page.specs.declared.checks.Kind.TheVariants as kind
use Rattle.cet_page.specs.declared.checks.Who.TheVariants.{User}
use Rattle.cet_own.specs.Safe.{IsElsewhere}
use Rattle.cet_own.proofs.Acquired.{takes, misses}
use Rattle.cet_own.proofs.Calls.{EndsRow, own_kept}
use Rattle.cet_own.specs.Threads.{entries_of}
use Rattle.cet_own.proofs.Classes.{plain_loads, looks}
use Rattle.cet_own.proofs.Looks.{shadow_store_look_then, entries_at}
use Rattle.cet_own.proofs.TokenWords.{restore_token_is, previous_token_is}
use Rattle.cet_own.specs.Owed.{State, state_after, HeadWord, Known, Owed, own_stack}
use Rattle.cet_own.proofs.Parts.{Claim, one_after, claim_bind, claim_cond, check_address_as_then, shadow_look_then}
use Rattle.cet_own.proofs.Places.{entry_there, shadow_page, shadow_slot, above_is, entry_at, room_below, in_page}
use Rattle.cet_own.proofs.Progress.{Progress, progress, untouched}
use Rattle.cet_own.proofs.Raised.{raises}
use Rattle.cet_own.proofs.Released.{releases}
use Rattle.cet_own.proofs.Resting.{Resting, rest_kept, rest_stacked, rested}
use Rattle.cet_own.proofs.Standing.{stacked}
use Rattle.cet_own.specs.Claims.{AtRest}
use Rattle.cet_own.proofs.Writes.{top_even}

-- ---- where the word at the top leads

-- SAVEPREVSSP tests bit 1 of it. Where that is set, the word is an address at which no shadow stack lies, or that of the newest
-- entry which leads to a region that was left.
pub data Leads (t m v : ℕ) (b : Book) : Type 0 where
  nowhere_by_bit : v / 2 % 2 ≡ 0 → Leads t m v b
  to_code : image_start ≤ v → v ≤ image_end → Leads t m v b
  to_left : (s : ℕ) (es : List Entry) → Linked t m s es b → v ≡ top (region b s) + 3 → Leads t m v b

leads_by : {t m v : ℕ} {b : Book} (l : List Entry) → Owned t m b → (region b m).entries ≡ l → 1 ≤ length l → AllReturn l → HeadWord (tops b) (top (region b m)) l v → Leads t m v b
leads_by [] o e some f w = absurd (omega arith)
leads_by (Call x ∷ es) o e some f w = (let p = f.0 in let lo = p.0 in let hi = p.1 in to_code (omega arith) (omega arith))
leads_by (Restorer x ∷ es) o e some f w = (let p = f.0 in let lo = p.0 in let hi = p.1 in to_code (omega arith) (omega arith))
leads_by {m = m} {b = b} (Frame ∷ es) o e some f w = nowhere_by_bit (let even = top_even b m o.shape in omega arith)
leads_by (Previous s ∷ es) o e some f w = to_left s es (record { owned = o; entries = e }) w
leads_by (Blank ∷ es) o e some f w = nowhere_by_bit (omega arith)

-- the entry stays, and so does the region that it leads to
linked_kept : {t m s : ℕ} {es : List Entry} {b now : Book} → Relies t b now → Shape now → Linked t m s es b → Linked t m s es now × (region now s ≡ region b s)
linked_kept {t = t} {m = m} {s = s} {b = b} r h l =
    let same = r.kept m (owns_current t (region b m).holder l.owned.current) in (
      record {
        owned = record { shape = h; current = ap (λ (q : Region). q.holder) same ∙ l.owned.current };
        entries = ap (λ (q : Region). q.entries) same ∙ l.entries;
      },
      r.below m s l.owned.current (linked_left l),
    )

module _ (job : JobData) (arch : Arch) (free : IsElsewhere job arch) where
  -- ---- RSTORSSP

  -- the region is the thread's from the exchange on
  found_after : {d : Progress} (later : State) (p q : ℕ) → IsParkedAt p (region later.book q) → Owned arch.number (current_of arch.number later.book) later.book →
      Resting arch.number untouched d later.book arch.ssp → (after : State) × (state_after arch.number later (Acquired p ∷ []) ≡ Some after) × AtRest arch.number after.book p
  found_after later p q there o rest =
      let k : Takes arch.number (current_of arch.number later.book) q later.book = record { owned = o; parked = there.parked } in
      let shape = acquire_shape k in (
        record later { book = acquire arch.number (current_of arch.number later.book) q later.book },
        one_after arch.number later (acquire arch.number (current_of arch.number later.book) q later.book) (Acquired p) (acquired_way k p there.top_is),
        record { stacked = stacked arch.number (acquire arch.number (current_of arch.number later.book) q later.book) p shape (acquired_top k shape p there.top_is); free = rest.free },
      )

  rstorssp_claim : (past : List Visit) (before s : State) (p next : ℕ) → Resting arch.number untouched (progress past) s.book arch.ssp → Claim job arch (EndsRow job arch) past before s (rstorssp arch p next)
  unfolding rstorssp compare_exchange_as
  rstorssp_claim past before s p next rest =
      check_address_as_then job arch (EndsRow job arch) past before s general_protection p 8 _ rest (λ _. tt, tt) (λ _ even.
      shadow_store_look_then job arch (EndsRow job arch) past before s p _ rest (λ now r v low high known i inn.
      let rest1 = rest_kept r rest in
      claim_bind job arch (EndsRow job arch) _ now now _ _ (
        (rest_stacked rest1),
        λ later r' found known'.
            let rest2 = rest_kept r' rest1 in
            let has = rest2.stacked.top.has in
            let at = rest2.stacked.top.at in
            let aligned = rest2.stacked.top.aligned in
            let o : Owned arch.number (current_of arch.number later.book) later.book = owned arch.number later.book known'.sound.book.shape has in
            let place : Place p = record { low = low; high = high; even = even } in
            let word : word_in (first_shadow_page + (p - shadow_start) / 4096) p ≡ slot p = shadow_slot p low high in
            let up : add64 p 8 ≡ p + 8 = omega arith in
            let token : restore_token_at p ≡ p + 9 = ap restore_token up ∙ restore_token_is (p + 8) (omega arith) ∙ omega arith in
            let value : previous_token arch.ssp ≡ top (region later.book (current_of arch.number later.book)) + 3 = previous_token_is arch.ssp aligned ∙ ap (λ n. n + 3) at in
            let is : access.CompareExchange (word_in (first_shadow_page + (p - shadow_start) / 4096) p) (restore_token_at p) (previous_token arch.ssp) ≡ access.CompareExchange (slot p) (p + 9)
            (top (region later.book (current_of arch.number later.book)) + 3)
            = ap (λ n. access.CompareExchange n (restore_token_at p) (previous_token arch.ssp)) word ∙ ap (λ n. access.CompareExchange (slot p) n (previous_token arch.ssp)) token ∙ ap (access.CompareExchange (slot p) (p + 9)) value in
            elim (eqb_tells found (restore_token_at p)) [
              | inl e ↦
                  let there = known'.finds p (p + 9) (top (region later.book (current_of arch.number later.book)) + 3) place is (e.1 ∙ token) in
                  rw e.0 (
                    takes (current_of arch.number later.book) there.0 p o.current there.1.parked there.1.top_is is (e.1 ∙ token) refl,
                    (let f = found_after later p there.0 there.1 o rest2 in f.0),
                    (let f = found_after later p there.0 there.1 o rest2 in f.1),
                    (let f = found_after later p there.0 there.1 o rest2 in (f.2, λ held now'. free, (there.0, there.1.parked, there.1.top_is))),
                  )
              | inr e ↦ rw e.0 (
                misses (word_in (first_shadow_page + (p - shadow_start) / 4096) p) (restore_token_at p) (previous_token arch.ssp) refl (omega arith) (omega arith) (omega arith) e.1 refl,
                later,
                refl,
                (
                  rested rest2,
                  λ at'. absurd (free at'),
                  λ z k. e.1 (known'.stands p k.0 (p + 9) (top (region later.book (current_of arch.number later.book)) + 3)
                      (record { parked = k.1; top_is = k.2 }) is ∙ sym token),
                ),
              )
            ],
      )))

  -- ---- SAVEPREVSSP

  -- the store, where the word leads to a region that was left
  save_claim : (past : List Visit) (before s : State) (word next q : ℕ) (es : List Entry) → Linked arch.number (current_of arch.number s.book) q es s.book → word ≡ top (region s.book q) + 3 →
      Resting arch.number untouched (progress past) s.book arch.ssp → Claim job arch (EndsRow job arch) past before s (save arch (previous_ssp word) next)
  unfolding save store_as
  save_claim past before s word next q es l is rest =
      let even = top_even s.book q l.owned.shape in
      let bounds = l.owned.shape.bounds q (left_there l) in
      let fits = (l.owned.shape.fits q).room in
      let first = bounds.low in
      let final = bounds.high in
      let old : previous_ssp word ≡ top (region s.book q) = omega arith in
      let target : saved_at (previous_ssp word) ≡ top (region s.book q) - 8 = omega arith in
      let token : restore_token (previous_ssp word) ≡ top (region s.book q) + 1 = ap restore_token old ∙ restore_token_is (top (region s.book q)) even in
      shadow_store_look_then job arch (EndsRow job arch) past before s (saved_at (previous_ssp word)) _ rest (λ now r v low high known i inn.
      let rest1 = rest_kept r rest in
      let k = linked_kept r known.sound.book.shape l in
      let target1 : saved_at (previous_ssp word) ≡ top (region now.book q) - 8 = target ∙ ap (λ (x : Region). top x - 8) (sym k.1) in
      let room = room_below now.book q i known.sound.book.shape (left_there k.0) (subst (In (region now.book i)) target1 inn) in
      claim_bind job arch (EndsRow job arch) _ now now (store_as (Released ∷ []) (word_in (first_shadow_page + (saved_at (previous_ssp word) - shadow_start) / 4096) (saved_at (previous_ssp word))) (restore_token (previous_ssp word))) _ (
        (rest_stacked rest1),
        λ later r' known'.
            let rest2 = rest_kept r' rest1 in
            let k' = linked_kept r' known'.sound.book.shape k.0 in
            let target2 : saved_at (previous_ssp word) ≡ top (region later.book q) - 8 = target1 ∙ ap (λ (x : Region). top x - 8) (sym k'.1) in
            let token2 : restore_token (previous_ssp word) ≡ top (region later.book q) + 1 = token ∙ ap (λ (x : Region). top x + 1) (sym k.1) ∙ ap (λ (x : Region). top x + 1) (sym k'.1) in
            let room2 : (region later.book q).start + 8 ≤ top (region later.book q) = (let e = k'.1 in rw e room) in
            let fits2 = (known'.sound.book.shape.fits q).room in
            let way = released_way k'.0 (omega arith) in
            let shape' = (book_kept arch.number Released later.book (unlink (current_of arch.number s.book) q es Parked later.book) known'.sound.book way).book.shape in
            let here = top_is k'.0.owned rest2.stacked.top in
            let up : add64 arch.ssp 8 ≡ top (region later.book (current_of arch.number s.book)) + 8 = above_is arch.ssp rest2.stacked.high ∙ ap (λ n. n + 8) here in
            let top' = subst (AtTop arch.number (unlink (current_of arch.number s.book) q es Parked later.book)) (sym up) (released_top k'.0 shape') in
            let word_is : word_in (first_shadow_page + (saved_at (previous_ssp word) - shadow_start) / 4096) (saved_at (previous_ssp word)) ≡ slot (top (region later.book q) - 8) =
            shadow_slot (saved_at (previous_ssp word)) low high ∙ ap slot target2 in (
              releases (current_of arch.number s.book) q es k'.0.owned.current k'.0.entries room2 rest2.free
                  (ap (λ n. access.Store n (restore_token (previous_ssp word))) word_is ∙ ap (access.Store (slot (top (region later.book q) - 8))) token2) refl,
              record later { book = unlink (current_of arch.number s.book) q es Parked later.book },
              one_after arch.number later (unlink (current_of arch.number s.book) q es Parked later.book) Released way,
              (
                record { stacked = stacked arch.number (unlink (current_of arch.number s.book) q es Parked later.book) (add64 arch.ssp 8) shape' top'; free = rest2.free },
                λ held now'. free,
                tt,
              ),
            ),
      ))

  -- the look fails where the word is a call's
  code_claim : (past : List Visit) (before s : State) (word next : ℕ) → image_start ≤ word → word ≤ image_end → Resting arch.number untouched (progress past) s.book arch.ssp →
      Claim job arch (EndsRow job arch) past before s (save arch (previous_ssp word) next)
  unfolding save
  code_claim past before s word next lo hi rest =
      let target : saved_at (previous_ssp word) < shadow_start = omega arith in
      shadow_store_look_then job arch (EndsRow job arch) past before s (saved_at (previous_ssp word)) _ rest (λ now r v low high known i inn. absurd (omega arith))

  led_claim : (past : List Visit) (before s : State) (word next : ℕ) → Leads arch.number (current_of arch.number s.book) word s.book → word / 2 % 2 ≡ 1 →
      Resting arch.number untouched (progress past) s.book arch.ssp → Claim job arch (EndsRow job arch) past before s (save arch (previous_ssp word) next)
  led_claim past before s word next (nowhere_by_bit e) one rest = absurd (omega arith)
  led_claim past before s word next (to_code lo hi) one rest = code_claim past before s word next lo hi rest
  led_claim past before s word next (to_left q es l is) one rest = save_claim past before s word next q es l is rest

  save_by_claim : (past : List Visit) (before s : State) (word next : ℕ) → Leads arch.number (current_of arch.number s.book) word s.book →
      Resting arch.number untouched (progress past) s.book arch.ssp → Claim job arch (EndsRow job arch) past before s (save_by arch word next)
  save_by_claim past before s word next leads rest =
      claim_cond job arch (EndsRow job arch) past before s (arch.flags % 2 == 1) _ _ (λ _. (rested rest, λ _. tt, tt))
      (λ _. claim_cond job arch (EndsRow job arch) past before s (is_previous_token word) _ _
      (λ c. claim_cond job arch (EndsRow job arch) past before s (canonical (saved_at (previous_ssp word))) _ _ (λ _. led_claim past before s word next leads (eqb-true (word / 2 % 2) 1 c) rest) (λ _. (rested rest, λ _. tt, tt)))
      (λ _. (rested rest, λ _. tt, tt)))

  saveprevssp_claim : (past : List Visit) (before s : State) (next : ℕ) → Resting arch.number untouched (progress past) s.book arch.ssp → Claim job arch (EndsRow job arch) past before s (saveprevssp arch next)
  unfolding saveprevssp load_as
  saveprevssp_claim past before s next rest =
      let low = rest.stacked.low in
      let high = rest.stacked.high in
      shadow_look_then job arch (EndsRow job arch) past before s kind.ShadowLoad arch.ssp _ (omega arith) (omega arith) rest (λ now r v known i inn.
      let rest1 = rest_kept r rest in
      let at = rest1.stacked.top.at in
      let some = entry_at now.book (current_of arch.number now.book) i known.sound.book.shape rest1.stacked.top.has (subst (In (region now.book i)) at inn) in
      claim_bind job arch (EndsRow job arch) _ now now (load (word_in (first_shadow_page + (arch.ssp - shadow_start) / 4096) arch.ssp)) _ (
        (rest_stacked rest1),
        λ later r' word known'.
            let rest2 = rest_kept r' rest1 in
            let has = rest2.stacked.top.has in
            let o : Owned arch.number (current_of arch.number later.book) later.book = owned arch.number later.book known'.sound.book.shape has in
            let same = own_kept arch.number now.book later.book r' rest1.stacked.top.has in
            let some' : 1 ≤ length (region later.book (current_of arch.number later.book)).entries = subst (λ (r : Region). 1 ≤ length r.entries) (sym same) some in
            let word_is : word_in (first_shadow_page + (arch.ssp - shadow_start) / 4096) arch.ssp ≡ slot arch.ssp = shadow_slot arch.ssp (omega arith) (omega arith) in
            let head = known'.head has (ap access.Load (word_is ∙ ap slot rest2.stacked.top.at)) in (
              plain_loads (word_in (first_shadow_page + (arch.ssp - shadow_start) / 4096) arch.ssp) refl (λ k z. (let high = rest2.stacked.high in omega arith)) refl,
              later,
              refl,
              save_by_claim _ later later word next
                  (leads_by (region later.book (current_of arch.number later.book)).entries o refl some' (known'.sound.returns (current_of arch.number later.book)) head) rest2,
            ),
      ))

  -- ---- INCSSPQ

  -- by whether the last look passes
  raised_by : (past : List Visit) (now : State) (count page v next : ℕ) → count < 256 → (first_shadow_page ≤ page) × (page < first_kernel_page) →
      Known job.image arch.number past now.book (access.Look page) v → Resting arch.number untouched (progress past) now.book arch.ssp → (c : Bool) →
      (c ≡ true → count ≤ length (entries_of arch.number now.book)) → Owed job.image arch.number (own_stack job arch.number) past now.book (access.Look page) v (if c then Raised count ∷ [] else []) ×
      (later : State) × (state_after arch.number now (if c then Raised count ∷ [] else []) ≡ Some later) ×
      Claim job arch (λ p z n x. Claim job arch (EndsRow job arch) p z n (done (raised arch count next))) (visit (access.Look page) v (if c then Raised count ∷ [] else []) ∷ past) now later
      (if c then done page else fault (page_fault v kind.ShadowLoad User (add64 arch.ssp (8 * (max count 1 - 1)))))
  raised_by past now count page v next few within known rest false room = (looks page refl refl, now, refl, (rested rest, λ at'. absurd (free at'), tt))
  raised_by past now count page v next few within known rest true room =
      let has = rest.stacked.top.has in
      let high = rest.stacked.high in
      let o : Owned arch.number (current_of arch.number now.book) now.book = owned arch.number now.book known.sound.book.shape has in
      let way = raised_way o count (room refl) in
      let short = raised_shortened arch.number (current_of arch.number now.book) count now.book way.0 o way.2 in
      let at = rest.stacked.top.at in
      let up : add64 arch.ssp (8 * count) ≡ top (region now.book (current_of arch.number now.book)) + 8 * count = omega arith in
      let top' = subst (AtTop arch.number way.0) (sym up) (raised_top arch.number (current_of arch.number now.book) count now.book way.0 o way.2) in
      let none : Free arch.number way.0 = λ k q. rest.free k (ap (λ (l : List (Option ℕ)). get_or l k None) (sym short.stacks) ∙ q) in (
        raises (current_of arch.number now.book) count page o.current within.0 within.1 rest.free refl refl,
        record now { book = way.0 },
        one_after arch.number now way.0 (Raised count) way.1,
        (
          record { stacked = stacked arch.number way.0 (add64 arch.ssp (8 * count)) short.owned.shape top'; free = none },
          λ held later. free,
          tt,
        ),
      )

  incsspq_claim : (past : List Visit) (before s : State) (count next : ℕ) → count < 256 → Resting arch.number untouched (progress past) s.book arch.ssp → Claim job arch (EndsRow job arch) past before s (incsspq arch count next)
  unfolding incsspq look_as look_in_as
  incsspq_claim past before s count next few rest =
      let low = rest.stacked.low in
      let high = rest.stacked.high in
      shadow_look_then job arch (EndsRow job arch) past before s kind.ShadowLoad arch.ssp _ (omega arith) (omega arith) rest (λ now r v known i inn.
      let rest1 = rest_kept r rest in
      let last : add64 arch.ssp (8 * (max count 1 - 1)) ≡ arch.ssp + 8 * (max count 1 - 1) = omega arith in
      let page = shadow_page (add64 arch.ssp (8 * (max count 1 - 1))) (omega arith) (omega arith) in
      claim_bind job arch (EndsRow job arch) _ now now _ _ (rw page (
        (rest_stacked rest1),
        λ later r' v' known'.
            let rest2 = rest_kept r' rest1 in
            let has = rest2.stacked.top.has in
            let at = rest2.stacked.top.at in
            let shape = known'.sound.book.shape in
            let room : allows v' kind.ShadowLoad User ≡ true → count ≤ length (entries_of arch.number later.book) = λ a.
            let lies = known'.look (first_shadow_page + (add64 arch.ssp (8 * (max count 1 - 1)) - shadow_start) / 4096) refl (omega arith) (omega arith) (entry_there kind.ShadowLoad v' a) in
            let inn' = in_page later.book lies.0 (add64 arch.ssp (8 * (max count 1 - 1))) (omega arith) (omega arith) lies.1 in
            let least = entries_at later.book (current_of arch.number later.book) lies.0 (max count 1 - 1) shape has (omega arith) (subst (In (region later.book lies.0)) (last ∙ ap (λ n. n + 8 * (max count 1 - 1)) at) inn') in
            omega arith in
            raised_by _ later count (first_shadow_page + (add64 arch.ssp (8 * (max count 1 - 1)) - shadow_start) / 4096) v' next few (omega arith, omega arith) known' rest2 (allows v' kind.ShadowLoad User) room,
      )))

  -- ---- the instructions

  pub shadow_stacks_claim : (past : List Visit) (before s : State) (i : Instr) (next : ℕ) → Resting arch.number untouched (progress past) s.book arch.ssp → Claim job arch (EndsRow job arch) past before s (shadow_stacks arch i next)
  shadow_stacks_claim past before s (instr.Incsspq r) next rest = incsspq_claim past before s (register arch r % 256) next (omega arith) rest
  shadow_stacks_claim past before s (instr.Rdsspq r) next rest = (rested rest, λ held now. free, tt)
  shadow_stacks_claim past before s (instr.Rstorssp m) next rest = rstorssp_claim past before s (effective arch m next) next rest
  shadow_stacks_claim past before s instr.Saveprevssp next rest = saveprevssp_claim past before s next rest
  shadow_stacks_claim past before s (instr.Wrussq m r) next rest = (rested rest, λ _. tt, tt)
  shadow_stacks_claim past before s i next rest = (rested rest, λ at. absurd (free at), tt)
