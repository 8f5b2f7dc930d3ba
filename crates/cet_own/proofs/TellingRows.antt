-- What the record of each row tells of: of the stack that map_shadow_stack or clone has claimed, and else of none; and of the
-- thread that clone has borne. Source: own.
use Rattle.std.proofs.Common.{◌≡◌, ◌⊎◌, ℕ, zero, suc, ◌+◌, ◌%◌, Bool, true, false, inl, inr, cond, List, [], ◌∷◌, Option, Some, None, refl, ap, subst, sym, arith}
use Rattle.std.specs.Prelude.{◌==◌, ◌-◌, nat_lt, if◌then◌else◌, Ok, Err}
use Rattle.std.specs.Int.{cast_unsigned}
use Rattle.cet_words.specs.Layout.{page_at, pages_of, thread_limit, thread_region_size}
use Rattle.cet_words.specs.Job.{JobData}
use Rattle.cet_words.specs.Change.{Change, Born, Claimed}
use Rattle.cet_isa.specs.Address.{canonical}
use Rattle.cet_isa.specs.Reading.{Decoding, Read, Short, Unknown}
use Rattle.cet_isa.specs.declared.instructions.AluOp.{AluOp}
use Rattle.cet_isa.specs.declared.instructions.AluOp.TheVariants as ops
use Rattle.cet_isa.specs.declared.instructions.Reg.{Reg}
use Rattle.cet_isa.specs.declared.instructions.Instr.{Instr}
use Rattle.cet_isa.specs.declared.instructions.Instr.TheVariants as instr
use Rattle.cet_isa.specs.declared.instructions.Operand.{Operand}
use Rattle.cet_isa.specs.declared.instructions.Operand.TheVariants as operand
use Rattle.cet_isa.specs.declared.instructions.Size.{Size}
use Rattle.cet_isa.specs.declared.instructions.Size.TheVariants as size
use Rattle.cet_isa.specs.declared.threads.Arch.{Arch}
use Rattle.cet_isa.specs.declared.threads.Fault.{Fault}
use Rattle.cet_isa.specs.declared.threads.Record.{Record}
use Rattle.cet_page.specs.Script.{Script, done, fault, ask, tell, ◌>>=◌}
use Rattle.cet_page.specs.Page.{allows, page_fault}
use Rattle.cet_page.specs.Parts.{check_address_as, look_in_as, look_as, probe_in, probe, read_entry, load_as, store_as, compare_exchange_as, swap, fetch_add_as, fetch_and, fetch_or, loads, store_each, stores, general_protection}
use Rattle.cet_page.specs.Values.{limit, width}
use Rattle.cet_page.specs.Finish.{Row, noted, r10, rdi, rdx, rsi}
use Rattle.cet_page.specs.Word64.{add64}
use Rattle.cet_page.specs.Family.{family_of}
use Rattle.cet_page.specs.Operands.{register, load_word, load_at, write_place, store_at, read_operand}
use Rattle.cet_page.specs.Arithmetic.{operated, alu, test, imul, move, movzx, movsxd, cmov, xchg, lock_xadd, lock_cmpxchg, arithmetic}
use Rattle.cet_page.specs.Flow.{call, call_next, call_indirect, ret, push, pop, leave as leave_frame, jump_indirect, flow}
use Rattle.cet_page.specs.Gate.{failed, gate_in, gate_out, freed, leave, entered, kill}
use Rattle.cet_page.specs.Delivery.{enter_handler, fault_delivery, frame_places, frame_span, handle, ignore, pending_delivery, push_frame, push_or_kill, segv}
use Rattle.cet_page.specs.Posting.{due_signal, posting}
use Rattle.cet_page.specs.SigReturn.{popped_frame, return_by, returned_span, rt_sigreturn, signal_service}
use Rattle.cet_page.specs.Signals.{asked_action, asked_mask, change_action, change_mask, copy_action, copy_mask, load_action, new_action, old_action, old_mask, post, rt_sigaction, rt_sigprocmask, set_action, set_handler, tgkill}
use Rattle.cet_page.specs.Structures.{Given, given_span, given_word, if_found, one_word, span}
use Rattle.cet_page.specs.MapShadowStack.{can_draw, claimed, drawn_page, drawn_start, fill_stack, draw_stack, map_by, map_shadow_stack, refused, seed_if}
use Rattle.cet_page.specs.Mmap.{draw_pages, map_pages, map_refused, mmap, mmap_by, munmap, munmap_by, unmap_pages, unmapped_page}
use Rattle.cet_page.specs.MemoryServices.{memory_service}
use Rattle.cet_page.specs.Processes.{bear, bore, clone, draw_thread, exit, exit_group, give_up, load_last, process_service, put_status, tell_status, thread_pages, write, write_bytes, write_first, write_last, write_words}
use Rattle.cet_page.specs.Services.{syscall}
use Rattle.cet_page.specs.ShadowStacks.{rstorssp, save, saveprevssp, incsspq, shadow_stacks}
use Rattle.cet_page.specs.Fetch.{missing, missing_in}
use Rattle.cet_page.specs.Row.{after_signals, between, execute_family, fetched, instruction, boundary, row, row_from}
use Rattle.cet_page.specs.declared.actions.Action.{Action}
use Rattle.cet_page.specs.declared.actions.FramePlaces.{FramePlaces}
use Rattle.cet_page.specs.declared.checks.Kind.{Kind}
use Rattle.cet_page.specs.declared.checks.Who.{Who}
use Rattle.cet_page.specs.declared.families.Family.{Family}
use Rattle.cet_page.specs.declared.families.Family.TheVariants as families
use Rattle.cet_page.specs.declared.finishes.Leaving.{Leaving}
use Rattle.cet_page.specs.declared.finishes.Leaving.TheVariants as leaving
use Rattle.cet_page.specs.declared.services.Errno.{Errno}
use Rattle.cet_page.specs.declared.services.Errno.TheVariants as errno
use Rattle.cet_page.specs.declared.flags.Computed.{Computed}
use Rattle.cet_page.specs.Numbered.{named}
use Rattle.cet_own.specs.Told.{told}
use Rattle.cet_book.specs.View.{Span}
use Rattle.cet_own.proofs.Drawn.{Drawn, nothing_drawn, claimed_span, draws, tells_nothing, tells_stack, RecordTells, EndTells, RowTells, Telling}

-- ---- one lemma for each part, with what follows it; changes that draw nothing

record Tells {A : Type 0} (Q : Drawn → A → Type 0) (d : Drawn) (s : Script A) : Type 0 where
  tells : Telling Q d s

-- a record tells of nothing and names nobody
tells_none : {d : Drawn} {r : Record} → told r r.what ≡ [] → d.kept ≡ [] → d.born ≡ named r.what r.a → RecordTells d r
tells_none p q n = record { stack = tells_nothing p q; thread = n }

-- it tells of the stack, and names who was borne
tells_one : {d : Drawn} {r : Record} (s : Span) → told r r.what ≡ s ∷ [] → d.claimed ≡ s ∷ [] → (d.kept ≡ []) ⊎ (d.kept ≡ s.start ∷ []) → d.born ≡ named r.what r.a → RecordTells d r
tells_one s p q k n = record { stack = tells_stack s p q k; thread = n }

draws_if : (d : Drawn) (b : Bool) (s t : List Change) → draws s d ≡ d → draws t d ≡ d → draws (cond b s t) d ≡ d
draws_if d true s t p q = p
draws_if d false s t p q = q

module _ {A : Type 0} {Q : Drawn → A → Type 0} {d : Drawn} where
  tells_done : {x : A} → Q d x → Tells Q d (done x)
  tells_done h = record { tells = h }

  tells_fault : {e : Fault} → d.kept ≡ [] → Tells Q d (fault e)
  tells_fault h = record { tells = h }

  tells_if : (b : Bool) (s t : Script A) → Tells Q d s → Tells Q d t → Tells Q d (cond b s t)
  tells_if true s t p q = p
  tells_if false s t p q = q

module _ {A B : Type 0} {Q : Drawn → A → Type 0} {d : Drawn} (f : B → Script A) where
  tells_return : (x : B) → Tells Q d (f x) → Tells Q d (done x >>= f)
  unfolding ◌>>=◌
  tells_return x h = record { tells = h.tells }

  tells_fault_then : (e : Fault) → d.kept ≡ [] → Tells Q d (fault e >>= f)
  unfolding ◌>>=◌
  tells_fault_then e h = record { tells = h }

  tells_if_then : (b : Bool) (s t : Script B) → Tells Q d (s >>= f) → Tells Q d (t >>= f) → Tells Q d (cond b s t >>= f)
  tells_if_then true s t p q = p
  tells_if_then false s t p q = q

module _ {A : Type 0} {Q : Drawn → A → Type 0} {d : Drawn} (f : ℕ → Script A) where
  tells_peek : (page : ℕ) → ((v : ℕ) → Tells Q d (f v)) → Tells Q d (read_entry page >>= f)
  unfolding ◌>>=◌ read_entry
  tells_peek page h = record { tells = λ v. (h v).tells }

  tells_load : (changes : ℕ → List Change) (word : ℕ) → ((v : ℕ) → draws (changes v) d ≡ d) → ((v : ℕ) → Tells Q d (f v)) → Tells Q d (load_as changes word >>= f)
  unfolding ◌>>=◌ load_as
  tells_load changes word n h = record { tells = λ v. subst (λ x. Telling Q x (f v)) (sym (n v)) (h v).tells }

  tells_exchange : (changes : ℕ → List Change) (word expected value : ℕ) → ((v : ℕ) → draws (changes v) d ≡ d) → ((v : ℕ) → Tells Q d (f v)) → Tells Q d (compare_exchange_as changes word expected value >>= f)
  unfolding ◌>>=◌ compare_exchange_as
  tells_exchange changes word expected value n h = record { tells = λ v. subst (λ x. Telling Q x (f v)) (sym (n v)) (h v).tells }

  tells_swap : (word value : ℕ) → ((v : ℕ) → Tells Q d (f v)) → Tells Q d (swap word value >>= f)
  unfolding ◌>>=◌ swap
  tells_swap word value h = record { tells = λ v. (h v).tells }

  -- its changes may draw
  tells_added : (changes : ℕ → List Change) (word value : ℕ) → ((v : ℕ) → Tells Q (draws (changes v) d) (f v)) → Tells Q d (fetch_add_as changes word value >>= f)
  unfolding ◌>>=◌ fetch_add_as
  tells_added changes word value h = record { tells = λ v. (h v).tells }

  tells_fetch_add : (changes : ℕ → List Change) (word value : ℕ) → ((v : ℕ) → draws (changes v) d ≡ d) → ((v : ℕ) → Tells Q d (f v)) → Tells Q d (fetch_add_as changes word value >>= f)
  unfolding ◌>>=◌ fetch_add_as
  tells_fetch_add changes word value n h = record { tells = λ v. subst (λ x. Telling Q x (f v)) (sym (n v)) (h v).tells }

  tells_fetch_or : (word value : ℕ) → ((v : ℕ) → Tells Q d (f v)) → Tells Q d (fetch_or word value >>= f)
  unfolding ◌>>=◌ fetch_or
  tells_fetch_or word value h = record { tells = λ v. (h v).tells }

  tells_fetch_and : (word value : ℕ) → ((v : ℕ) → Tells Q d (f v)) → Tells Q d (fetch_and word value >>= f)
  unfolding ◌>>=◌ fetch_and
  tells_fetch_and word value h = record { tells = λ v. (h v).tells }

stores_telling : {A : Type 0} (Q : Drawn → A → Type 0) (d : Drawn) (f : Unit {0} → Script A) (count word value step : ℕ) → Telling Q d (f tt) → Telling Q d (stores count word value step >>= f)
unfolding ◌>>=◌ stores
stores_telling Q d f zero word value step h = h
stores_telling Q d f (suc count) word value step h = stores_telling Q d f count (word + 1) (value + step) step h

each_telling : {A : Type 0} (Q : Drawn → A → Type 0) (d : Drawn) (f : Unit {0} → Script A) (word : ℕ) (values : List ℕ) → Telling Q d (f tt) → Telling Q d (store_each word values >>= f)
unfolding ◌>>=◌ store_each
each_telling Q d f word [] h = h
each_telling Q d f word (value ∷ values) h = each_telling Q d f (word + 1) values h

assoc_telling : {A B C : Type 0} (Q : Drawn → A → Type 0) (d : Drawn) (m : Script C) (h : C → Script B) (f : B → Script A) → Telling Q d (m >>= (λ x. h x >>= f)) → Telling Q d ((m >>= h) >>= f)
unfolding ◌>>=◌
assoc_telling Q d (done x) h f w = w
assoc_telling Q d (fault e) h f w = w
assoc_telling Q d (ask a changes c) h f w = λ v. assoc_telling Q (draws (changes v) d) (c v) h f (w v)
assoc_telling Q d (tell word value changes s) h f w = assoc_telling Q (draws changes d) s h f w

loads_telling : {A : Type 0} (Q : Drawn → A → Type 0) (d : Drawn) (f : List ℕ → Script A) (count word : ℕ) → ((values : List ℕ) → Telling Q d (f values)) → Telling Q d (loads count word >>= f)
unfolding ◌>>=◌ loads
loads_telling Q d f zero word h = h []
loads_telling Q d f (suc count) word h = λ v.
    assoc_telling Q d (loads count (word + 1)) (λ values. done (v ∷ values)) f
    (loads_telling Q d (λ values. f (v ∷ values)) count (word + 1) (λ values. h (v ∷ values)))

module _ {A : Type 0} {Q : Drawn → A → Type 0} {d : Drawn} (f : List ℕ → Script A) where
  tells_loads : (count word : ℕ) → ((values : List ℕ) → Tells Q d (f values)) → Tells Q d (loads count word >>= f)
  tells_loads count word h = record { tells = loads_telling Q d f count word (λ values. let g = h values in g.tells) }

module _ {A : Type 0} {Q : Drawn → A → Type 0} {d : Drawn} (f : Unit {0} → Script A) where
  tells_store : (changes : List Change) (word value : ℕ) → draws changes d ≡ d → Tells Q d (f tt) → Tells Q d (store_as changes word value >>= f)
  unfolding ◌>>=◌ store_as
  tells_store changes word value n h = record { tells = subst (λ x. Telling Q x (f tt)) (sym n) h.tells }

  -- its changes may draw
  tells_stored : (changes : List Change) (word value : ℕ) → Tells Q (draws changes d) (f tt) → Tells Q d (store_as changes word value >>= f)
  unfolding ◌>>=◌ store_as
  tells_stored changes word value h = record { tells = h.tells }

  tells_stores : (count word value step : ℕ) → Tells Q d (f tt) → Tells Q d (stores count word value step >>= f)
  tells_stores count word value step h = record { tells = stores_telling Q d f count word value step h.tells }

  tells_each : (word : ℕ) (values : List ℕ) → Tells Q d (f tt) → Tells Q d (store_each word values >>= f)
  tells_each word values h = record { tells = each_telling Q d f word values h.tells }

  tells_tested : (misaligned : Fault) (addr size : ℕ) → d.kept ≡ [] → Tells Q d (f tt) → Tells Q d (check_address_as misaligned addr size >>= f)
  unfolding check_address_as
  tells_tested misaligned addr size n h =
      tells_if_then f (canonical addr) (cond (addr % size == 0) (done tt) (fault misaligned)) (fault general_protection)
      (tells_if_then f (addr % size == 0) (done tt) (fault misaligned) (tells_return f tt h) (tells_fault_then f _ n)) (tells_fault_then f _ n)

look_in_tells : {A : Type 0} (Q : Drawn → A → Type 0) (d : Drawn) (changes : ℕ → List Change) (at : Option ℕ) (kd : Kind) (w : Who) (addr : ℕ) (f : ℕ → Script A) →
    ((v : ℕ) → draws (changes v) d ≡ d) → d.kept ≡ [] → ((page : ℕ) → Tells Q d (f page)) → Tells Q d (look_in_as changes at kd w addr >>= f)
unfolding ◌>>=◌ look_in_as
look_in_tells Q d changes None kd w addr f c n h = tells_fault n
look_in_tells Q d changes (Some page) kd w addr f c n h =
    record {
      tells = λ v. subst (λ x. Telling Q x (cond (allows v kd w) (done page) (fault (page_fault v kd w addr)) >>= f)) (sym (c v))
          (tells_if_then f (allows v kd w) (done page) (fault (page_fault v kd w addr)) (tells_return f page (h page)) (tells_fault_then f _ n)).tells;
    }

probe_in_tells : {A : Type 0} (Q : Drawn → A → Type 0) (d : Drawn) (at : Option ℕ) (kd : Kind) (w : Who) (f : Option ℕ → Script A) → ((found : Option ℕ) → Tells Q d (f found)) → Tells Q d (probe_in at kd w >>= f)
unfolding ◌>>=◌ probe_in
probe_in_tells Q d None kd w f h = h None
probe_in_tells Q d (Some page) kd w f h = record { tells = λ v. (h (cond (allows v kd w) (Some page) None)).tells }

module _ {A : Type 0} {Q : Drawn → A → Type 0} {d : Drawn} where
  tells_look : (changes : ℕ → List Change) (kd : Kind) (w : Who) (addr : ℕ) (f : ℕ → Script A) → ((v : ℕ) → draws (changes v) d ≡ d) → d.kept ≡ [] → ((page : ℕ) → Tells Q d (f page)) →
      Tells Q d (look_as changes kd w addr >>= f)
  unfolding look_as
  tells_look changes kd w addr f c n h = look_in_tells Q d changes (page_at addr) kd w addr f c n h

  tells_probe : (kd : Kind) (w : Who) (addr : ℕ) (f : Option ℕ → Script A) → ((found : Option ℕ) → Tells Q d (f found)) → Tells Q d (probe kd w addr >>= f)
  unfolding probe
  tells_probe kd w addr f h = probe_in_tells Q d (page_at addr) kd w f h

module _ {A B C : Type 0} {Q : Drawn → A → Type 0} {d : Drawn} where
  tells_assoc : (m : Script C) (h : C → Script B) (f : B → Script A) → Tells Q d (m >>= (λ x. h x >>= f)) → Tells Q d ((m >>= h) >>= f)
  tells_assoc m h f w = record { tells = assoc_telling Q d m h f w.tells }

ruleset tells_parts = (
  tells_done,
  tells_fault,
  tells_if,
  tells_return,
  tells_fault_then,
  tells_if_then,
  tells_assoc,
  tells_peek,
  tells_load,
  tells_loads,
  tells_exchange,
  tells_swap,
  tells_fetch_add,
  tells_fetch_or,
  tells_fetch_and,
  tells_store,
  tells_stores,
  tells_each,
  tells_tested,
  tells_look,
  tells_probe,
  draws_if,
  tells_none,
)

-- ---- operands and the gate

module _ {A : Type 0} {Q : Drawn → A → Type 0} {d : Drawn} where
  tells_load_at : (addr count : ℕ) (f : ℕ → Script A) → d.kept ≡ [] → ((v : ℕ) → Tells Q d (f v)) → Tells Q d (load_at addr count >>= f)
  unfolding load_at load_word
  tells_load_at addr count f n h = search tells_parts depth 12

  tells_write_place : (addr : ℕ) (f : ℕ → Script A) → d.kept ≡ [] → ((word : ℕ) → Tells Q d (f word)) → Tells Q d (write_place addr >>= f)
  unfolding write_place
  tells_write_place addr f n h = search tells_parts depth 12

  tells_store_at : (addr value : ℕ) (f : Unit {0} → Script A) → d.kept ≡ [] → Tells Q d (f tt) → Tells Q d (store_at addr value >>= f)
  unfolding store_at
  tells_store_at addr value f n h = search (tells_parts, tells_write_place) depth 12

  tells_read : (arch : Arch) (s : Size) (o : Operand) (next : ℕ) (f : ℕ → Script A) → d.kept ≡ [] → ((v : ℕ) → Tells Q d (f v)) → Tells Q d (read_operand arch s o next >>= f)
  unfolding read_operand
  tells_read arch s (operand.Reg r) next f n h = tells_return f (register arch r % limit s) (h _)
  tells_read arch s (operand.Imm z) next f n h = tells_return f (cast_unsigned (width s) z) (h _)
  tells_read arch s (operand.Mem m) next f n h = tells_load_at _ _ f n h

freed_draws : (d : Drawn) (ends : Leaving) (k : ℕ) → draws (freed ends k) d ≡ d
freed_draws d leaving.Back k = refl
freed_draws d leaving.Popped k = refl
freed_draws d (leaving.Ended status) k = refl

module _ {A : Type 0} {Q : Drawn → A → Type 0} {d : Drawn} where
  tells_gate_in : (k : ℕ) (f : Option ℕ → Script A) → Tells Q d (f None) → ((found : ℕ) → Tells Q d (f (Some found))) → Tells Q d (gate_in k >>= f)
  unfolding gate_in
  tells_gate_in k f free busy = search tells_parts depth 20

  tells_gate_out : (ends : Leaving) (k : ℕ) (f : Unit {0} → Script A) → Tells Q d (f tt) → Tells Q d (gate_out ends k >>= f)
  unfolding gate_out
  tells_gate_out ends k f h = search (tells_parts, freed_draws) depth 20

-- ---- rows

ends_if : (b : Bool) (x y : Arch × Record) → RowTells nothing_drawn x → RowTells nothing_drawn y → RowTells nothing_drawn (cond b x y)
ends_if true x y p q = p
ends_if false x y p q = q

ruleset rules = (tells_parts, tells_load_at, tells_write_place, tells_store_at, tells_read, tells_gate_in, tells_gate_out, ends_if)

tells_operated : (arch : Arch) (op : AluOp) (dst : Operand) (c : Computed) (next : ℕ) → Tells RowTells nothing_drawn (operated arch op dst c next)
tells_operated arch ops.Cmp dst c next = search rules depth 99 fits 9000
tells_operated arch op (operand.Reg r) c next = search rules depth 99 fits 9000
tells_operated arch op dst c next = search rules depth 99 fits 9000

tells_move : (arch : Arch) (s : Size) (dst src : Operand) (next : ℕ) → Tells RowTells nothing_drawn (move arch s dst src next)
unfolding move
tells_move arch s (operand.Reg r) src next = search rules depth 99 fits 9000
tells_move arch size.Qword (operand.Mem m) src next = search rules depth 99 fits 9000
tells_move arch s dst src next = search rules depth 99 fits 9000

tells_xchg : (arch : Arch) (dst : Operand) (r : Reg) (next : ℕ) → Tells RowTells nothing_drawn (xchg arch dst r next)
unfolding xchg
tells_xchg arch (operand.Reg d) r next = search rules depth 99 fits 9000
tells_xchg arch (operand.Mem m) r next = search rules depth 99 fits 9000
tells_xchg arch (operand.Imm z) r next = search rules depth 99 fits 9000

ruleset arithmetic_rules = (rules, tells_operated, tells_move, tells_xchg)

tells_arithmetic : (arch : Arch) (i : Instr) (next : ℕ) → Tells RowTells nothing_drawn (arithmetic arch i next)
unfolding alu test imul movzx movsxd cmov lock_xadd lock_cmpxchg
tells_arithmetic arch (instr.Mov s dst src) next = search arithmetic_rules depth 99 fits 9000
tells_arithmetic arch i next = search arithmetic_rules depth 99 fits 9000

tells_flow : (arch : Arch) (i : Instr) (next : ℕ) → Tells RowTells nothing_drawn (flow arch i next)
unfolding call call_next call_indirect ret push pop leave_frame jump_indirect
tells_flow arch (instr.CallRel disp) next = search rules depth 99 fits 9000
tells_flow arch i next = search rules depth 99 fits 9000

tells_shadow_stacks : (arch : Arch) (i : Instr) (next : ℕ) → Tells RowTells nothing_drawn (shadow_stacks arch i next)
unfolding rstorssp save saveprevssp incsspq
tells_shadow_stacks arch (instr.Rdsspq r) next = search rules depth 99 fits 9000
tells_shadow_stacks arch i next = search rules depth 99 fits 9000

-- ---- map_shadow_stack: its record tells of the stack that was claimed, which is parked where it gets a token

abbrev one_drawn : (start pages : ℕ) (kept : List ℕ) → Drawn
one_drawn start pages kept = record { claimed = claimed_span start pages ∷ []; kept = kept; born = None }

tells_seed : (arch : Arch) (start size k : ℕ) (token : Bool) → Tells EndTells (one_drawn start (pages_of size) []) ((seed_if start size (pages_of size) token >>= (λ _. done (claimed arch start size))) >>= leave k)
tells_seed arch start size k true =
    tells_assoc _ _ _ (tells_stored _ _ _ _ (tells_return _ _ (tells_gate_out _ k _ (tells_done (tells_one (claimed_span start (pages_of size)) refl refl (inr refl) refl)))))
tells_seed arch start size k false =
    tells_assoc _ _ _ (tells_return _ _ (tells_return _ _ (tells_gate_out _ k _ (tells_done (tells_one (claimed_span start (pages_of size)) refl refl (inl refl) refl)))))

tells_fill : (arch : Arch) (d size k : ℕ) (token : Bool) → Tells EndTells (one_drawn (drawn_start d) (pages_of size) []) (fill_stack arch d size (pages_of size) token >>= leave k)
unfolding fill_stack
tells_fill arch d size k token = tells_assoc _ _ _ (tells_stores _ _ _ _ _ (tells_seed arch (drawn_start d) size k token))

tells_failed : (arch : Arch) (error : Errno) (k : ℕ) → Tells EndTells nothing_drawn (done (failed arch error) >>= leave k)
tells_failed arch error k = tells_return _ _ (tells_gate_out _ k _ (tells_done (tells_none refl refl refl)))

-- by whether the draw succeeds
tells_drawn : (arch : Arch) (d size k : ℕ) (token c : Bool) → Tells EndTells (draws (if c then Claimed (drawn_start d) (pages_of size) token ∷ [] else []) nothing_drawn)
    ((if c then fill_stack arch d size (pages_of size) token else done (failed arch errno.NoMem)) >>= leave k)
tells_drawn arch d size k token true = tells_fill arch d size k token
tells_drawn arch d size k token false = tells_failed arch errno.NoMem k

tells_draw : (arch : Arch) (size k : ℕ) (token : Bool) → Tells EndTells nothing_drawn (draw_stack arch size (pages_of size) token >>= leave k)
unfolding draw_stack
tells_draw arch size k token = tells_assoc _ _ _ (tells_added _ _ _ _ (λ v. tells_drawn arch v size k token (can_draw (pages_of size) v)))

tells_map_by : (arch : Arch) (size flags k : ℕ) (o : Option Errno) → Tells EndTells nothing_drawn (map_by arch size flags o >>= leave k)
tells_map_by arch size flags k (Some error) = tells_failed arch error k
tells_map_by arch size flags k None = tells_draw arch size k (flags == 1)

tells_map : (arch : Arch) (k : ℕ) → Tells EndTells nothing_drawn (map_shadow_stack arch >>= leave k)
tells_map arch k = tells_map_by arch (rsi arch) (rdx arch) k (refused (rdi arch) (rsi arch) (rdx arch))

-- ---- mmap and munmap: theirs tells of no stack

tells_mmap_by : (arch : Arch) (length k : ℕ) (o : Option Errno) → Tells EndTells nothing_drawn (mmap_by arch length o >>= leave k)
unfolding draw_pages map_pages
tells_mmap_by arch length k (Some error) = tells_failed arch error k
tells_mmap_by arch length k None = search rules depth 99 fits 9000

tells_mmap : (arch : Arch) (k : ℕ) → Tells EndTells nothing_drawn (mmap arch >>= leave k)
tells_mmap arch k = tells_mmap_by arch (rsi arch) k (map_refused (rdi arch) (rsi arch) (rdx arch) (r10 arch))

tells_munmap_by : (arch : Arch) (length k : ℕ) (o : Option ℕ) → Tells EndTells nothing_drawn (munmap_by arch length o >>= leave k)
unfolding unmap_pages
tells_munmap_by arch length k (Some page) = search rules depth 99 fits 9000
tells_munmap_by arch length k None = tells_failed arch errno.Inval k

tells_munmap : (arch : Arch) (k : ℕ) → Tells EndTells nothing_drawn (munmap arch >>= leave k)
tells_munmap arch k = tells_munmap_by arch (rsi arch) k (unmapped_page (rdi arch) (rsi arch))

tells_memory : (arch : Arch) (k : ℕ) → Tells EndTells nothing_drawn (memory_service arch >>= leave k)
tells_memory arch k = search (rules, tells_map, tells_mmap, tells_munmap) depth 99 fits 9000

-- ---- clone: the record of a birth tells of the stack that was claimed

-- by whether there is a number left
tells_numbered : (arch : Arch) (d v k : ℕ) (c : Bool) → Tells EndTells (draws (if c then Born v (drawn_start d) ∷ [] else []) (one_drawn (drawn_start d) thread_pages []))
    ((if c then done (bore arch v (drawn_start d)) else give_up arch (drawn_page d)) >>= leave k)
unfolding give_up
tells_numbered arch d v k true =
    let start : drawn_start d + thread_region_size - thread_region_size ≡ drawn_start d = omega arith in
    tells_return _ _ (tells_gate_out _ k _ (tells_done (tells_one (claimed_span (drawn_start d) thread_pages) (ap (λ n. record { start = n; end = drawn_start d + thread_region_size } ∷ []) start) refl (inr refl) refl)))
tells_numbered arch d v k false = tells_assoc _ _ _ (tells_stores _ _ _ _ _ (tells_return _ _ (tells_gate_out _ k _ (tells_done (tells_none refl refl refl)))))

tells_bear : (arch : Arch) (d k : ℕ) → Tells EndTells (one_drawn (drawn_start d) thread_pages []) (bear arch d >>= leave k)
unfolding bear
tells_bear arch d k = tells_assoc _ _ _ (tells_stores _ _ _ _ _ (tells_assoc _ _ _ (tells_added _ _ _ _ (λ v. tells_numbered arch d v k (nat_lt v thread_limit)))))

-- by whether the draw succeeds
tells_placed : (arch : Arch) (d k : ℕ) (c : Bool) → Tells EndTells (draws (if c then Claimed (drawn_start d) thread_pages true ∷ [] else []) nothing_drawn) ((if c then bear arch d else done (failed arch errno.NoMem)) >>= leave k)
tells_placed arch d k true = tells_bear arch d k
tells_placed arch d k false = tells_failed arch errno.NoMem k

tells_draw_thread : (arch : Arch) (k : ℕ) → Tells EndTells nothing_drawn (draw_thread arch >>= leave k)
unfolding draw_thread
tells_draw_thread arch k = tells_assoc _ _ _ (tells_added _ _ _ _ (λ v. tells_placed arch v k (can_draw thread_pages v)))

tells_clone : (arch : Arch) (k : ℕ) → Tells EndTells nothing_drawn (clone arch >>= leave k)
tells_clone arch k = search (rules, tells_draw_thread) depth 99 fits 9000

-- ---- the other services

tells_words : (arch : Arch) (addr count first k : ℕ) (last : Option ℕ) → Tells EndTells nothing_drawn (write_last arch addr count first last >>= leave k)
unfolding write_words load_last
tells_words arch addr count first k None = search rules depth 99 fits 9000
tells_words arch addr count first k (Some last) = search rules depth 99 fits 9000

tells_first : (arch : Arch) (addr count k : ℕ) (first : Option ℕ) → Tells EndTells nothing_drawn (write_first arch addr count first >>= leave k)
unfolding write_first
tells_first arch addr count k None = search rules depth 99 fits 9000
tells_first arch addr count k (Some first) = search (rules, tells_words) depth 99 fits 9000

tells_write : (arch : Arch) (k : ℕ) → Tells EndTells nothing_drawn (write arch >>= leave k)
unfolding write_bytes
tells_write arch k = search (rules, tells_first) depth 99 fits 9000

tells_put : (arch : Arch) (addr k : ℕ) (at : Option ℕ) → Tells EndTells nothing_drawn (put_status arch addr at >>= leave k)
unfolding put_status
tells_put arch addr k None = search rules depth 99 fits 9000
tells_put arch addr k (Some page) = search rules depth 99 fits 9000

tells_process : (arch : Arch) (k : ℕ) → Tells EndTells nothing_drawn (process_service arch >>= leave k)
unfolding exit exit_group tell_status
tells_process arch k = search (rules, tells_write, tells_clone, tells_put) depth 99 fits 9000

-- ---- the services on signals, and deliveries: theirs tells of no stack

tells_kill : (arch : Arch) (signal k : ℕ) → Tells EndTells nothing_drawn (kill arch signal >>= leave k)
unfolding kill
tells_kill arch signal k = search rules depth 99 fits 9000

module _ {A B C : Type 0} {Q : Drawn → A → Type 0} {d : Drawn} where
  tells_if_found : (o : Option C) (g : C → Script (Option B)) (f : Option B → Script A) → Tells Q d (f None) → ((x : C) → Tells Q d (g x >>= f)) → Tells Q d (if_found o g >>= f)
  tells_if_found None g f n h = tells_return f None n
  tells_if_found (Some x) g f n h = h x

module _ {A : Type 0} {Q : Drawn → A → Type 0} {d : Drawn} where
  tells_span : (kd : Kind) (addr last : ℕ) (f : Option ℕ → Script A) → ((found : Option ℕ) → Tells Q d (f found)) → Tells Q d (span kd addr last >>= f)
  unfolding span
  tells_span kd addr last f h = search (tells_parts, tells_if_found) depth 20

  tells_given_span : (kd : Kind) (addr last : ℕ) (f : Given → Script A) → ((g : Given) → Tells Q d (f g)) → Tells Q d (given_span kd addr last >>= f)
  unfolding given_span
  tells_given_span kd addr last f h = search (tells_parts, tells_span) depth 20

  tells_given_word : (kd : Kind) (addr : ℕ) (f : Given → Script A) → ((g : Given) → Tells Q d (f g)) → Tells Q d (given_word kd addr >>= f)
  unfolding given_word one_word
  tells_given_word kd addr f h = search tells_parts depth 20

  tells_set_action : (signal : ℕ) (asked : Option Action) (f : Unit {0} → Script A) → Tells Q d (f tt) → Tells Q d (set_action signal asked >>= f)
  unfolding set_action set_handler
  tells_set_action signal None f h = tells_return f tt h
  tells_set_action signal (Some action) f h = search tells_parts depth 20

  tells_copy_action : (signal : ℕ) (old : Option ℕ) (f : Unit {0} → Script A) → Tells Q d (f tt) → Tells Q d (copy_action signal old >>= f)
  unfolding copy_action load_action
  tells_copy_action signal None f h = tells_return f tt h
  tells_copy_action signal (Some word) f h = search tells_parts depth 20

  tells_asked_action : (new : Option ℕ) (f : Option Action → Script A) → ((asked : Option Action) → Tells Q d (f asked)) → Tells Q d (asked_action new >>= f)
  unfolding asked_action load_action
  tells_asked_action None f h = tells_return f None (h None)
  tells_asked_action (Some word) f h = search tells_parts depth 20

  tells_asked_mask : (arch : Arch) (set : Option ℕ) (f : ℕ → Script A) → ((mask : ℕ) → Tells Q d (f mask)) → Tells Q d (asked_mask arch set >>= f)
  unfolding asked_mask
  tells_asked_mask arch None f h = tells_return f _ (h _)
  tells_asked_mask arch (Some word) f h = search tells_parts depth 20

  tells_copy_mask : (arch : Arch) (old : Option ℕ) (f : Unit {0} → Script A) → Tells Q d (f tt) → Tells Q d (copy_mask arch old >>= f)
  unfolding copy_mask
  tells_copy_mask arch None f h = tells_return f tt h
  tells_copy_mask arch (Some word) f h = search tells_parts depth 20

  tells_frame_places : (arch : Arch) (f : Option FramePlaces → Script A) → ((o : Option FramePlaces) → Tells Q d (f o)) → Tells Q d (frame_places arch >>= f)
  unfolding frame_places frame_span
  tells_frame_places arch f h = search (tells_parts, tells_span, tells_if_found) depth 30

  tells_popped_frame : (arch : Arch) (f : Option (ℕ × ℕ) → Script A) → ((o : Option (ℕ × ℕ)) → Tells Q d (f o)) → Tells Q d (popped_frame arch >>= f)
  unfolding popped_frame returned_span
  tells_popped_frame arch f h = search (tells_parts, tells_span, tells_if_found) depth 30

tells_new_action : (job : JobData) (arch : Arch) (new : Option ℕ) (old : Given) (k : ℕ) → Tells EndTells nothing_drawn (new_action job arch new old >>= leave k)
unfolding new_action change_action
tells_new_action job arch new (Err error) k = search rules depth 99 fits 9000
tells_new_action job arch new (Ok old) k = search (rules, tells_asked_action, tells_copy_action, tells_set_action) depth 99 fits 9000

tells_old_action : (job : JobData) (arch : Arch) (new : Given) (k : ℕ) → Tells EndTells nothing_drawn (old_action job arch new >>= leave k)
unfolding old_action
tells_old_action job arch (Err error) k = search rules depth 99 fits 9000
tells_old_action job arch (Ok new) k = search (rules, tells_given_span, tells_new_action) depth 99 fits 9000

tells_rt_sigaction : (job : JobData) (arch : Arch) (k : ℕ) → Tells EndTells nothing_drawn (rt_sigaction job arch >>= leave k)
unfolding rt_sigaction
tells_rt_sigaction job arch k = search (rules, tells_given_span, tells_old_action) depth 99 fits 9000

tells_change_mask : (arch : Arch) (set : Option ℕ) (old : Given) (k : ℕ) → Tells EndTells nothing_drawn (change_mask arch set old >>= leave k)
unfolding change_mask
tells_change_mask arch set (Err error) k = search rules depth 99 fits 9000
tells_change_mask arch set (Ok old) k = search (rules, tells_asked_mask, tells_copy_mask) depth 99 fits 9000

tells_old_mask : (arch : Arch) (set : Given) (k : ℕ) → Tells EndTells nothing_drawn (old_mask arch set >>= leave k)
unfolding old_mask
tells_old_mask arch (Err error) k = search rules depth 99 fits 9000
tells_old_mask arch (Ok set) k = search (rules, tells_given_word, tells_change_mask) depth 99 fits 9000

tells_rt_sigprocmask : (arch : Arch) (k : ℕ) → Tells EndTells nothing_drawn (rt_sigprocmask arch >>= leave k)
unfolding rt_sigprocmask
tells_rt_sigprocmask arch k = search (rules, tells_given_word, tells_old_mask) depth 99 fits 9000

tells_tgkill : (arch : Arch) (k : ℕ) → Tells EndTells nothing_drawn (tgkill arch >>= leave k)
unfolding tgkill post
tells_tgkill arch k = search rules depth 99 fits 9000

tells_return_by : (arch : Arch) (o : Option (ℕ × ℕ)) (k : ℕ) → Tells EndTells nothing_drawn (return_by arch o >>= leave k)
unfolding return_by
tells_return_by arch None k = tells_kill arch segv k
tells_return_by arch (Some x) k = search rules depth 99 fits 9000

tells_rt_sigreturn : (arch : Arch) (k : ℕ) → Tells EndTells nothing_drawn (rt_sigreturn arch >>= leave k)
unfolding rt_sigreturn
tells_rt_sigreturn arch k = search (rules, tells_popped_frame, tells_return_by) depth 99 fits 9000

tells_signals : (job : JobData) (arch : Arch) (k : ℕ) → Tells EndTells nothing_drawn (signal_service job arch >>= leave k)
tells_signals job arch k = search (rules, tells_rt_sigaction, tells_rt_sigprocmask, tells_rt_sigreturn, tells_tgkill) depth 99 fits 9000

tells_push : (arch : Arch) (signal : ℕ) (cause : Option Fault) (action : Action) (places : Option FramePlaces) (k : ℕ) → Tells EndTells nothing_drawn (push_or_kill arch signal cause action places >>= leave k)
unfolding push_frame
tells_push arch signal cause action None k = tells_kill arch segv k
tells_push arch signal cause action (Some places) k = search rules depth 99 fits 9000

tells_ignore : (arch : Arch) (signal : ℕ) (cause : Option Fault) (k : ℕ) → Tells EndTells nothing_drawn (ignore arch signal cause >>= leave k)
tells_ignore arch signal None k = search rules depth 99 fits 9000
tells_ignore arch signal (Some e) k = tells_kill arch signal k

tells_handle : (arch : Arch) (signal : ℕ) (cause : Option Fault) (k : ℕ) → Tells EndTells nothing_drawn (handle arch signal cause >>= leave k)
unfolding handle enter_handler
tells_handle arch signal cause k = search (rules, tells_kill, tells_ignore, tells_frame_places, tells_push) depth 99 fits 9000

tells_pending : (arch : Arch) (signal k : ℕ) → Tells EndTells nothing_drawn (pending_delivery arch signal >>= leave k)
unfolding pending_delivery
tells_pending arch signal k = search (rules, tells_handle) depth 99 fits 9000

tells_fault_delivery : (arch : Arch) (e : Fault) (k : ℕ) → Tells EndTells nothing_drawn (fault_delivery arch e >>= leave k)
unfolding fault_delivery
tells_fault_delivery arch e k = search (rules, tells_kill, tells_handle) depth 99 fits 9000

tells_syscall : (job : JobData) (arch : Arch) → Tells EndTells nothing_drawn (syscall job arch)
unfolding entered
tells_syscall job arch = search (rules, tells_memory, tells_process, tells_signals) depth 99 fits 9000

tells_deliver : (job : JobData) (arch : Arch) (e : Fault) → Tells EndTells nothing_drawn (entered job arch (fault_delivery arch e))
unfolding entered
tells_deliver job arch e = search (rules, tells_fault_delivery) depth 99 fits 9000

tells_signal : (job : JobData) (arch : Arch) (signal : ℕ) → Tells EndTells nothing_drawn (entered job arch (pending_delivery arch signal))
unfolding entered
tells_signal job arch signal = search (rules, tells_pending) depth 99 fits 9000

noted_telling : (d : Drawn) (m : Row) → Telling RowTells d m → Telling EndTells d (m >>= noted)
unfolding ◌>>=◌
noted_telling d (done x) h = h
noted_telling d (fault e) h = h
noted_telling d (ask a changes c) h = λ v. noted_telling (draws (changes v) d) (c v) (h v)
noted_telling d (tell word value changes s) h = noted_telling (draws changes d) s h

tells_family : (job : JobData) (arch : Arch) (i : Instr) (next : ℕ) (p : Family) → Tells EndTells nothing_drawn (execute_family job arch i next p)
tells_family job arch i next families.Arithmetic = record { tells = noted_telling nothing_drawn _ (tells_arithmetic arch i next).tells }
tells_family job arch i next families.Flow = record { tells = noted_telling nothing_drawn _ (tells_flow arch i next).tells }
tells_family job arch i next families.ShadowStacks = record { tells = noted_telling nothing_drawn _ (tells_shadow_stacks arch i next).tells }
tells_family job arch i next families.SystemCall = tells_syscall job arch
tells_family job arch i next families.Supervisor = tells_fault refl

tells_missing : (at : Option ℕ) (addr : ℕ) → Tells EndTells nothing_drawn (missing_in at addr)
tells_missing None addr = tells_fault refl
tells_missing (Some page) addr = record { tells = λ v. refl }

tells_fetched : (job : JobData) (arch : Arch) (bytes : List ℕ) (d : Decoding) → Tells EndTells nothing_drawn (fetched job arch bytes d)
unfolding missing
tells_fetched job arch bytes (Read i len) = tells_family job arch i (add64 arch.rip len) (family_of i)
tells_fetched job arch bytes Short = tells_missing _ _
tells_fetched job arch bytes Unknown = tells_fault refl

tells_instruction : (job : JobData) (arch : Arch) → Tells EndTells nothing_drawn (instruction job arch)
unfolding instruction
tells_instruction job arch = search (rules, tells_fetched) depth 99 fits 9000

tells_after : (job : JobData) (arch : Arch) (o : Option ℕ) → Tells EndTells nothing_drawn (after_signals job arch o)
tells_after job arch None = tells_instruction job arch
tells_after job arch (Some signal) = tells_signal job arch signal

tells_boundary : (job : JobData) (arch : Arch) → Tells EndTells nothing_drawn (boundary job arch)
unfolding boundary
tells_boundary job arch = search (rules, tells_after) depth 99 fits 9000

tells_between : (job : JobData) (arch : Arch) (o : Option ℕ) → Tells EndTells nothing_drawn (between job arch o)
unfolding posting
tells_between job arch None = tells_boundary job arch
tells_between job arch (Some signal) = tells_fetch_or _ _ _ (λ v. tells_done refl)

tells_from : (job : JobData) (arch : Arch) (due : Option Fault) → Tells EndTells nothing_drawn (row_from job arch due)
tells_from job arch (Some e) = tells_deliver job arch e
tells_from job arch None = tells_between job arch (due_signal job arch)

-- what each row owes at its end, whatever its accesses answer
pub row_tells : (job : JobData) (arch : Arch) → Telling EndTells nothing_drawn (row job arch)
row_tells job arch = (tells_from job arch arch.due).tells
