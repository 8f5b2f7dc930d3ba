-- Every row walks within the bounds, and begins with an access. Source: own.
use Rattle.cet_words.specs.declared.images.Signal.{Signal}
use Rattle.std.proofs.lemmas.Option.{slice_get_within}
use Rattle.std.specs.List.{filter}
use Rattle.std.proofs.Common.{true, false, cond, refl}
use Rattle.std.specs.Prelude.{◌≡◌, ℕ, ◌+◌, ◌<◌, ◌≤◌, Bool, List, [], ◌∷◌, length, nat_le, nat_lt, Option, Some, None, Ok, Err, slice_get, ◌==◌}
use Rattle.std.proofs.Common.{arith}
use Rattle.std.proofs.lemmas.Bool.Decides.{nat_tests}
use Rattle.cet_words.specs.Job.{JobData}
use Rattle.cet_words.specs.Layout.{area_pages, most_stack_pages, page_at, pages_of, thread_limit}
use Rattle.cet_words.specs.Change.{Change, Born}
use Rattle.cet_words.specs.declared.accesses.Access.{Access}
use Rattle.cet_isa.specs.Reading.{Decoding, Read, Short, Unknown}
use Rattle.cet_isa.specs.declared.instructions.AluOp.{AluOp}
use Rattle.cet_isa.specs.declared.instructions.AluOp.TheVariants as ops
use Rattle.cet_isa.specs.declared.instructions.Reg.{Reg}
use Rattle.cet_isa.specs.declared.instructions.Instr.{Instr}
use Rattle.cet_isa.specs.declared.instructions.Instr.TheVariants as instr
use Rattle.cet_isa.specs.declared.instructions.Operand.{Operand}
use Rattle.cet_isa.specs.declared.instructions.Operand.TheVariants as operand
use Rattle.cet_isa.specs.declared.instructions.Size.{Size}
use Rattle.cet_isa.specs.declared.instructions.Size.TheVariants as size
use Rattle.cet_isa.specs.declared.threads.Fault.{Fault}
use Rattle.cet_isa.specs.declared.threads.Record.{Record}
use Rattle.cet_isa.specs.declared.threads.Arch.{Arch}
use Rattle.cet_isa.specs.declared.threads.What.{What}
use Rattle.cet_isa.specs.declared.threads.What.TheVariants as what
use Rattle.cet_page.specs.Script.{Script, done, fault, ask, tell, ◌>>=◌, Wants, play}
use Rattle.cet_page.specs.Parts.{load_as, read_entry, fetch_or}
use Rattle.cet_page.specs.Finish.{IsMade, Row, noted}
use Rattle.cet_page.specs.Word64.{add64}
use Rattle.cet_page.specs.declared.families.Family.{Family}
use Rattle.cet_page.specs.declared.families.Family.TheVariants as families
use Rattle.cet_page.specs.declared.flags.Computed.{Computed}
use Rattle.cet_page.specs.Family.{family_of}
use Rattle.cet_page.specs.Arithmetic.{operated, alu, test, imul, move, movzx, movsxd, cmov, xchg, lock_xadd, lock_cmpxchg, arithmetic}
use Rattle.cet_page.specs.ShadowStacks.{shadow_stacks, rstorssp, save, saveprevssp, incsspq}
use Rattle.cet_page.specs.Flow.{call, call_next, call_indirect, ret, push, pop, leave, jump_indirect, flow}
use Rattle.cet_page.specs.Gate.{gate_in, entered, is_masked, signal_of, kill}
use Rattle.cet_page.specs.Gate.{leave as leave_kernel}
use Rattle.cet_page.specs.MapShadowStack.{can_draw, drawn_start, fill_stack, draw_stack, map_by, map_shadow_stack, refused}
use Rattle.cet_page.specs.Mmap.{draw_pages, map_pages, map_refused, mmap, mmap_by, munmap, munmap_by, unmap_pages, unmapped_page}
use Rattle.cet_page.specs.MemoryServices.{memory_service}
use Rattle.cet_page.specs.Processes.{bear, born_if, clone, draw_thread, exit, exit_group, give_up, load_last, process_service, put_status, tell_status, thread_pages, write, write_bytes, write_first, write_last, write_words}
use Rattle.cet_page.specs.Finish.{r10, rdi, rdx, rsi}
use Rattle.cet_page.specs.declared.checks.Kind.{Kind}
use Rattle.cet_page.specs.declared.services.Errno.{Errno}
use Rattle.cet_page.specs.Services.{syscall}
use Rattle.cet_page.specs.Structures.{Given, given_span, given_word, one_word}
use Rattle.cet_page.specs.Signals.{load_action, asked_action, copy_action, set_handler, set_action, change_action, new_action, old_action, rt_sigaction, asked_mask, copy_mask, change_mask, old_mask, rt_sigprocmask, post, tgkill}
use Rattle.cet_page.specs.Delivery.{frame_span, frame_places, frame_words, push_frame, push_or_kill, ignore, enter_handler, handle, pending_delivery, fault_delivery}
use Rattle.cet_page.specs.SigReturn.{returned_span, popped_frame, return_by, rt_sigreturn, signal_service}
use Rattle.cet_page.specs.declared.actions.Action.{Action}
use Rattle.cet_page.specs.declared.actions.FramePlaces.{FramePlaces}
use Rattle.cet_page.specs.Fetch.{missing, missing_in}
use Rattle.cet_page.specs.Posting.{due_by, due_signal, listed, posting}
use Rattle.cet_page.specs.Row.{after_signals, between, execute_family, fetched, instruction, boundary, row, row_from}
use Rattle.cet_page.proofs.Walk.{BirthFits, Walks, Walk, acted, walk_fault, walk_return, walk_assoc, walk_if_then, walk_fewer, walk_less, walk_less_one}
use Rattle.cet_page.proofs.Walk.{walk_if_found, walk_span, walk_loads, walk_fetch_or, walk_fetch_and, no_birth, birth_if, walk_rules, walk_done}
use Rattle.cet_page.specs.declared.finishes.Finish.{Finish}
use Rattle.cet_page.specs.declared.finishes.Finish.TheVariants.{Noted, Posted, Exited, Stopped}

-- the record tells of what was done, not of a fault
abbrev pub tells : What → Bool
tells (what.Fault name) = false
tells w = true

-- ---- what a row ends in

-- A record raises the count by one, and nothing changes where the kernel-made shadow stack is.
pub record EndsRow (arch : Arch) (x : Arch × Record) : Type 0 where
  pub count : x.0.count ≡ arch.count + 1
  pub posted : x.0.posted ≡ arch.posted
  pub made : x.0.made ≡ arch.made
  pub tells : tells x.1.what ≡ true

-- of a script within a row, which posts nothing
abbrev Finishes : Arch → Finish → Type 0
Finishes arch (Noted next noted) = EndsRow arch (next, noted)
Finishes arch (Posted next) = ⊥
Finishes arch (Exited next noted status) = EndsRow arch (next, noted)
Finishes arch Stopped = Unit {0}

pub ends_row : {arch : Arch} {x : Arch × Record} → x.0.count ≡ arch.count + 1 → x.0.posted ≡ arch.posted → x.0.made ≡ arch.made → tells x.1.what ≡ true → EndsRow arch x
ends_row p o q r = record { count = p; posted = o; made = q; tells = r }

pub ends_if : {arch : Arch} (b : Bool) (x y : Arch × Record) → EndsRow arch x → EndsRow arch y → EndsRow arch (cond b x y)
ends_if true x y p q = p
ends_if false x y p q = q

ruleset rules = (walk_rules, ends_row, ends_if)

walk_operated : (arch : Arch) (op : AluOp) (dst : Operand) (c : Computed) (next : ℕ) → Walk 6 6 false (EndsRow arch) (operated arch op dst c next)
walk_operated arch ops.Cmp dst c next = search rules depth 99 fits 9000
walk_operated arch op (operand.Reg r) c next = search rules depth 99 fits 9000
walk_operated arch op dst c next = search rules depth 99 fits 9000

walk_move : (arch : Arch) (s : Size) (dst src : Operand) (next : ℕ) → Walk 2 2 false (EndsRow arch) (move arch s dst src next)
unfolding move
walk_move arch s (operand.Reg r) src next = search rules depth 99 fits 9000
walk_move arch size.Qword (operand.Mem m) src next = search rules depth 99 fits 9000
walk_move arch s dst src next = search rules depth 99 fits 9000

walk_xchg : (arch : Arch) (dst : Operand) (r : Reg) (next : ℕ) → Walk 2 2 false (EndsRow arch) (xchg arch dst r next)
unfolding xchg
walk_xchg arch (operand.Reg d) r next = search rules depth 99 fits 9000
walk_xchg arch (operand.Mem m) r next = search rules depth 99 fits 9000
walk_xchg arch (operand.Imm z) r next = search rules depth 99 fits 9000

ruleset arithmetic_rules = (rules, walk_operated, walk_move, walk_xchg)

pub walk_arithmetic : (arch : Arch) (i : Instr) (next : ℕ) → Walk 2 2 false (EndsRow arch) (arithmetic arch i next)
unfolding alu test imul movzx movsxd cmov lock_xadd lock_cmpxchg
walk_arithmetic arch (instr.Mov s dst src) next = search arithmetic_rules depth 99 fits 9000
walk_arithmetic arch i next = search arithmetic_rules depth 99 fits 9000

pub walk_flow : (arch : Arch) (i : Instr) (next : ℕ) → Walk 2 2 false (EndsRow arch) (flow arch i next)
unfolding call call_next call_indirect ret push pop leave jump_indirect
walk_flow arch (instr.CallRel disp) next = search rules depth 99 fits 9000
walk_flow arch i next = search rules depth 99 fits 9000

pub walk_shadow_stacks : (arch : Arch) (i : Instr) (next : ℕ) → Walk 2 2 false (EndsRow arch) (shadow_stacks arch i next)
unfolding rstorssp save saveprevssp incsspq
walk_shadow_stacks arch (instr.Incsspq r) next = search rules depth 99 fits 9000
walk_shadow_stacks arch i next = search rules depth 99 fits 9000

-- ---- the kernel

-- a stack that may be drawn has at most 1,022 pages
few_pages : (address size flags : ℕ) → refused address size flags ≡ None → nat_le (pages_of size) most_stack_pages ≡ true
few_pages address size flags e = grind (arith, nat_tests)

walk_map_by : (arch : Arch) (k : ℕ) (w : Bool) (size flags : ℕ) (o : Option Errno) → (o ≡ None → nat_le (pages_of size) most_stack_pages ≡ true) → Walk 5 4 w (Finishes arch) (map_by arch size flags o >>= leave_kernel k)
unfolding fill_stack draw_stack
walk_map_by arch k w size flags (Some error) few = search rules depth 99 fits 9000
walk_map_by arch k w size flags None few = let fits : nat_le (pages_of size) most_stack_pages ≡ true = few refl in search rules depth 99 fits 9000

-- behind the way in: five accesses, of which four were kept
walk_map : (arch : Arch) (k : ℕ) (w : Bool) → Walk 5 4 w (Finishes arch) (map_shadow_stack arch >>= leave_kernel k)
walk_map arch k w = walk_map_by arch k w (rsi arch) (rdx arch) (refused (rdi arch) (rsi arch) (rdx arch)) (few_pages (rdi arch) (rsi arch) (rdx arch))

-- an area has 1,024 pages: as many may be drawn
few_mapped : (address length rights flags : ℕ) → map_refused address length rights flags ≡ None → nat_le (pages_of length) area_pages ≡ true
few_mapped address length rights flags e = grind (arith, nat_tests)

walk_mmap_by : (arch : Arch) (k : ℕ) (w : Bool) (length : ℕ) (o : Option Errno) → (o ≡ None → nat_le (pages_of length) area_pages ≡ true) → Walk 5 4 w (Finishes arch) (mmap_by arch length o >>= leave_kernel k)
unfolding map_pages draw_pages
walk_mmap_by arch k w length (Some error) few = search rules depth 99 fits 9000
walk_mmap_by arch k w length None few = let fits : nat_le (pages_of length) area_pages ≡ true = few refl in search rules depth 99 fits 9000

walk_mmap : (arch : Arch) (k : ℕ) (w : Bool) → Walk 5 4 w (Finishes arch) (mmap arch >>= leave_kernel k)
walk_mmap arch k w = walk_mmap_by arch k w (rsi arch) (map_refused (rdi arch) (rsi arch) (rdx arch) (r10 arch)) (few_mapped (rdi arch) (rsi arch) (rdx arch) (r10 arch))

-- and as many lie in an area
few_unmapped : (address length page : ℕ) → unmapped_page address length ≡ Some page → nat_le (pages_of length) area_pages ≡ true
few_unmapped address length page e = grind (arith, nat_tests)

walk_munmap_by : (arch : Arch) (k : ℕ) (w : Bool) (length : ℕ) (o : Option ℕ) → ((page : ℕ) → o ≡ Some page → nat_le (pages_of length) area_pages ≡ true) →
    Walk 5 4 w (Finishes arch) (munmap_by arch length o >>= leave_kernel k)
unfolding unmap_pages
walk_munmap_by arch k w length None few = search rules depth 99 fits 9000
walk_munmap_by arch k w length (Some page) few = let fits : nat_le (pages_of length) area_pages ≡ true = few page refl in search rules depth 99 fits 9000

walk_munmap : (arch : Arch) (k : ℕ) (w : Bool) → Walk 5 4 w (Finishes arch) (munmap arch >>= leave_kernel k)
walk_munmap arch k w = walk_munmap_by arch k w (rsi arch) (unmapped_page (rdi arch) (rsi arch)) (few_unmapped (rdi arch) (rsi arch))

walk_memory : (arch : Arch) (k : ℕ) (w : Bool) → Walk 5 4 w (Finishes arch) (memory_service arch >>= leave_kernel k)
walk_memory arch k w = search (rules, walk_map, walk_mmap, walk_munmap) depth 99 fits 9000

-- the shadow stack of a thread that is born lies in the shadow area
made_there : (d : ℕ) → can_draw thread_pages d ≡ true → IsMade (drawn_start d)
made_there d e =
    let room : d + thread_pages + 1 ≤ 1023 = grind (arith, nat_tests) in
    record { low = omega arith; high = omega arith; whole = omega arith }

born_fits : (d v : ℕ) → can_draw thread_pages d ≡ true → BirthFits (born_if (drawn_start d) v)
born_fits d v e =
    birth_if (nat_lt v thread_limit) (Born v (drawn_start d) ∷ []) [] (λ l. record {
      fits = record { number = (let n : v < thread_limit = grind (arith, nat_tests) in n); made = made_there d e };
      alone = λ child b. cc;
    }) (λ l. no_birth [] refl)

walk_bear : (arch : Arch) (d k : ℕ) (w : Bool) → can_draw thread_pages d ≡ true → Walk 6 5 w (Finishes arch) (bear arch d >>= leave_kernel k)
unfolding bear give_up
walk_bear arch d k w e = let fits : (v : ℕ) → BirthFits (born_if (drawn_start d) v) = λ v. born_fits d v e in search (rules, fits) depth 99 fits 9000

walk_clone : (arch : Arch) (k : ℕ) (w : Bool) → Walk 5 4 w (Finishes arch) (clone arch >>= leave_kernel k)
unfolding draw_thread
walk_clone arch k w = search (rules, walk_bear) depth 99 fits 9000

walk_words : (arch : Arch) (addr count first last k : ℕ) (w : Bool) → Walk 7 6 w (Finishes arch) (write_words arch addr count first last >>= leave_kernel k)
unfolding write_words load_last
walk_words arch addr count first last k w = search rules depth 99 fits 9000

walk_last : (arch : Arch) (addr count first k : ℕ) (at : Option ℕ) (w : Bool) → Walk 7 6 w (Finishes arch) (write_last arch addr count first at >>= leave_kernel k)
walk_last arch addr count first k None w = search rules depth 99 fits 9000
walk_last arch addr count first k (Some last) w = walk_words arch addr count first last k w

walk_first : (arch : Arch) (addr count k : ℕ) (at : Option ℕ) (w : Bool) → Walk 6 5 w (Finishes arch) (write_first arch addr count at >>= leave_kernel k)
unfolding write_first
walk_first arch addr count k None w = search rules depth 99 fits 9000
walk_first arch addr count k (Some first) w = search (rules, walk_last) depth 99 fits 9000

walk_write : (arch : Arch) (k : ℕ) (w : Bool) → Walk 5 4 w (Finishes arch) (write arch >>= leave_kernel k)
unfolding write_bytes
walk_write arch k w = search (rules, walk_first) depth 99 fits 9000

walk_put : (arch : Arch) (addr k : ℕ) (at : Option ℕ) (w : Bool) → Walk 6 5 w (Finishes arch) (put_status arch addr at >>= leave_kernel k)
unfolding put_status
walk_put arch addr k None w = search rules depth 99 fits 9000
walk_put arch addr k (Some page) w = search rules depth 99 fits 9000

walk_process : (arch : Arch) (k : ℕ) (w : Bool) → Walk 5 4 w (Finishes arch) (process_service arch >>= leave_kernel k)
unfolding exit exit_group tell_status
walk_process arch k w = search (rules, walk_write, walk_clone, walk_put) depth 99 fits 9000

-- ---- the services on signals, and deliveries

-- with the way out after it
walk_kill : (arch : Arch) (k : ℕ) (w : Bool) (signal : ℕ) → Walk 40 27 w (Finishes arch) (kill arch signal >>= leave_kernel k)
unfolding kill
walk_kill arch k w signal = search rules depth 99 fits 9000

module _ {A : Type 0} {P : A → Type 0} (f : Unit {0} → Script A) where
  walk_set_action : (w : Bool) (signal : ℕ) (asked : Option Action) → ((w : Bool) → Walk 25 16 w P (f tt)) → Walk 21 16 w P (set_action signal asked >>= f)
  unfolding set_action set_handler
  walk_set_action w signal None h = walk_return f tt (walk_fewer _ _ _ refl refl (h w))
  walk_set_action w signal (Some action) h =
      let one : Walk 22 16 true P (f tt) = walk_fewer _ _ _ refl refl (h true) in
      search (rules, h, one) depth 99 fits 9000

  walk_copy_action : (w : Bool) (signal : ℕ) (old : Option ℕ) → ((w : Bool) → Walk 21 16 w P (f tt)) → Walk 13 12 w P (copy_action signal old >>= f)
  unfolding copy_action load_action
  walk_copy_action w signal None h = walk_return f tt (walk_fewer _ _ _ refl refl (h w))
  walk_copy_action w signal (Some word) h = search (rules, h) depth 99 fits 9000

walk_change_action : (job : JobData) (arch : Arch) (k : ℕ) (w : Bool) (old : Option ℕ) (asked : Option Action) → Walk 13 12 w (Finishes arch) (change_action job arch old asked >>= leave_kernel k)
unfolding change_action
walk_change_action job arch k w old asked = search (rules, walk_copy_action, walk_set_action) depth 99 fits 9000

walk_new_action : (job : JobData) (arch : Arch) (k : ℕ) (w : Bool) (new : Option ℕ) (old : Given) → Walk 9 8 w (Finishes arch) (new_action job arch new old >>= leave_kernel k)
unfolding new_action asked_action load_action
walk_new_action job arch k w new (Err error) = search rules depth 99 fits 9000
walk_new_action job arch k w None (Ok old) = walk_assoc _ _ _ (walk_return _ None (walk_fewer _ _ _ refl refl (walk_change_action job arch k w old None)))
walk_new_action job arch k w (Some word) (Ok old) = search (rules, walk_change_action) depth 99 fits 9000

walk_given_span : {A : Type 0} {used kept : ℕ} {w : Bool} {P : A → Type 0} (kd : Kind) (addr last : ℕ) (f : Given → Script A) →
    ((w : Bool) (g : Given) → Walk (used + 1 + 1) (kept + 1 + 1) w P (f g)) → Walk used kept w P (given_span kd addr last >>= f)
unfolding given_span
walk_given_span {used = used} {kept = kept} {P = P} kd addr last f h =
    let fewer : (w : Bool) (g : Given) → Walk used kept w P (f g) = λ w g. walk_less f g h in
    search (rules, walk_span, h, fewer) depth 99 fits 9000

walk_old_action : (job : JobData) (arch : Arch) (k : ℕ) (w : Bool) (new : Given) → Walk 7 6 w (Finishes arch) (old_action job arch new >>= leave_kernel k)
unfolding old_action
walk_old_action job arch k w (Err error) = search rules depth 99 fits 9000
walk_old_action job arch k w (Ok new) = search (rules, walk_given_span, walk_new_action) depth 99 fits 9000

walk_rt_sigaction : (job : JobData) (arch : Arch) (k : ℕ) (w : Bool) → Walk 5 4 w (Finishes arch) (rt_sigaction job arch >>= leave_kernel k)
unfolding rt_sigaction
walk_rt_sigaction job arch k w = search (rules, walk_given_span, walk_old_action) depth 99 fits 9000

walk_given_word : {A : Type 0} {used kept : ℕ} {w : Bool} {P : A → Type 0} (kd : Kind) (addr : ℕ) (f : Given → Script A) → ((w : Bool) (g : Given) → Walk (used + 1) (kept + 1) w P (f g)) →
    Walk used kept w P (given_word kd addr >>= f)
unfolding given_word one_word
walk_given_word {used = used} {kept = kept} {P = P} kd addr f h =
    let fewer : (w : Bool) (g : Given) → Walk used kept w P (f g) = λ w g. walk_less_one f g h in
    search (rules, h, fewer) depth 99 fits 9000

walk_change_mask : (arch : Arch) (k : ℕ) (w : Bool) (set : Option ℕ) (old : Given) → Walk 7 6 w (Finishes arch) (change_mask arch set old >>= leave_kernel k)
unfolding change_mask asked_mask copy_mask
walk_change_mask arch k w set (Err error) = search rules depth 99 fits 9000
walk_change_mask arch k w None (Ok None) = search rules depth 99 fits 9000
walk_change_mask arch k w None (Ok (Some word)) = search rules depth 99 fits 9000
walk_change_mask arch k w (Some from) (Ok None) = search rules depth 99 fits 9000
walk_change_mask arch k w (Some from) (Ok (Some word)) = search rules depth 99 fits 9000

walk_old_mask : (arch : Arch) (k : ℕ) (w : Bool) (set : Given) → Walk 6 5 w (Finishes arch) (old_mask arch set >>= leave_kernel k)
unfolding old_mask
walk_old_mask arch k w (Err error) = search rules depth 99 fits 9000
walk_old_mask arch k w (Ok set) = search (rules, walk_given_word, walk_change_mask) depth 99 fits 9000

walk_rt_sigprocmask : (arch : Arch) (k : ℕ) (w : Bool) → Walk 5 4 w (Finishes arch) (rt_sigprocmask arch >>= leave_kernel k)
unfolding rt_sigprocmask
walk_rt_sigprocmask arch k w = search (rules, walk_given_word, walk_old_mask) depth 99 fits 9000

walk_tgkill : (arch : Arch) (k : ℕ) (w : Bool) → Walk 5 4 w (Finishes arch) (tgkill arch >>= leave_kernel k)
unfolding tgkill post
walk_tgkill arch k w = search (rules, walk_fetch_or) depth 99 fits 9000

-- so many accesses and answers at most before the kill
walk_kill_after : {n m : ℕ} (arch : Arch) (k : ℕ) (w : Bool) (signal : ℕ) → nat_le n 40 ≡ true → nat_le m 27 ≡ true → Walk n m w (Finishes arch) (kill arch signal >>= leave_kernel k)
walk_kill_after arch k w signal l m = walk_fewer _ _ _ l m (walk_kill arch k w signal)

walk_return_by : (arch : Arch) (k : ℕ) (w : Bool) (o : Option (ℕ × ℕ)) → Walk 9 8 w (Finishes arch) (return_by arch o >>= leave_kernel k)
unfolding return_by
walk_return_by arch k w None = walk_kill_after arch k w _ refl refl
walk_return_by arch k w (Some x) = search (rules, walk_loads) depth 99 fits 9000

walk_popped_frame : {A : Type 0} {P : A → Type 0} (arch : Arch) (w : Bool) (f : Option (ℕ × ℕ) → Script A) → ((w : Bool) (o : Option (ℕ × ℕ)) → Walk 9 8 w P (f o)) → Walk 5 4 w P (popped_frame arch >>= f)
unfolding popped_frame returned_span
walk_popped_frame {A} {P} arch w f h =
    let none : (w : Bool) (n m : ℕ) → nat_le n 9 ≡ true → nat_le m 8 ≡ true → Walk n m w P (f None) = λ w n m l r. walk_fewer _ _ _ l r (h w None) in
    search (rules, walk_span, walk_if_found, none, h) depth 99 fits 9000

walk_rt_sigreturn : (arch : Arch) (k : ℕ) (w : Bool) → Walk 5 4 w (Finishes arch) (rt_sigreturn arch >>= leave_kernel k)
unfolding rt_sigreturn
walk_rt_sigreturn arch k w = search (rules, walk_popped_frame, walk_return_by) depth 99 fits 9000

-- behind the way in: five accesses, of which four were kept
walk_signal_service : (job : JobData) (arch : Arch) (k : ℕ) (w : Bool) → Walk 5 4 w (Finishes arch) (signal_service job arch >>= leave_kernel k)
walk_signal_service job arch k w = search (rules, walk_rt_sigaction, walk_rt_sigprocmask, walk_rt_sigreturn, walk_tgkill) depth 99 fits 9000

walk_push_or_kill : (arch : Arch) (k : ℕ) (w : Bool) (signal : ℕ) (cause : Option Fault) (action : Action) (places : Option FramePlaces) → Walk 14 13 w (Finishes arch) (push_or_kill arch signal cause action places >>= leave_kernel k)
unfolding push_frame frame_words
walk_push_or_kill arch k w signal cause action None = walk_kill_after arch k w _ refl refl
walk_push_or_kill arch k w signal None action (Some places) = search rules depth 99 fits 9000
walk_push_or_kill arch k w signal (Some e) action (Some places) = search rules depth 99 fits 9000

walk_frame_places : {A : Type 0} {P : A → Type 0} (arch : Arch) (w : Bool) (f : Option FramePlaces → Script A) → ((w : Bool) (o : Option FramePlaces) → Walk 14 13 w P (f o)) → Walk 10 9 w P (frame_places arch >>= f)
unfolding frame_places frame_span
walk_frame_places {A} {P} arch w f h =
    let none : (w : Bool) (n m : ℕ) → nat_le n 14 ≡ true → nat_le m 13 ≡ true → Walk n m w P (f None) = λ w n m l r. walk_fewer _ _ _ l r (h w None) in
    search (rules, walk_span, walk_if_found, none, h) depth 99 fits 9000

walk_ignore : (arch : Arch) (k : ℕ) (w : Bool) (signal : ℕ) (cause : Option Fault) → Walk 7 6 w (Finishes arch) (ignore arch signal cause >>= leave_kernel k)
walk_ignore arch k w signal None = search rules depth 99 fits 9000
walk_ignore arch k w signal (Some e) = walk_kill_after arch k w _ refl refl

walk_handle : (arch : Arch) (k : ℕ) (w : Bool) (signal : ℕ) (cause : Option Fault) → Walk 6 5 w (Finishes arch) (handle arch signal cause >>= leave_kernel k)
unfolding handle enter_handler
walk_handle arch k w signal cause = search (rules, walk_frame_places, walk_push_or_kill, walk_ignore, walk_kill_after) depth 99 fits 9000

-- behind the boundary and the way in
walk_pending_delivery : (arch : Arch) (k : ℕ) (w : Bool) (signal : ℕ) → Walk 5 4 w (Finishes arch) (pending_delivery arch signal >>= leave_kernel k)
unfolding pending_delivery
walk_pending_delivery arch k w signal = search (rules, walk_fetch_and, walk_handle) depth 99 fits 9000

-- behind the way in alone
walk_fault_delivery : (arch : Arch) (k : ℕ) (w : Bool) (e : Fault) → Walk 3 2 w (Finishes arch) (fault_delivery arch e >>= leave_kernel k)
unfolding fault_delivery
walk_fault_delivery arch k w e =
    walk_if_then (leave_kernel k) (is_masked arch.mask (signal_of e.name)) (kill arch (signal_of e.name)) (handle arch (signal_of e.name) (Some e))
    (λ _. walk_kill_after arch k w _ refl refl)
    (λ _. walk_fewer _ _ _ refl refl (walk_handle arch k w (signal_of e.name) (Some e)))

walk_syscall : (job : JobData) (arch : Arch) → Walk 2 2 false (Finishes arch) (syscall job arch)
unfolding entered
walk_syscall job arch = search (rules, walk_memory, walk_process, walk_signal_service) depth 99 fits 9000

walk_deliver : (job : JobData) (arch : Arch) (e : Fault) → Walk 0 0 false (Finishes arch) (entered job arch (fault_delivery arch e))
unfolding entered
walk_deliver job arch e = search (rules, walk_fault_delivery) depth 99 fits 9000

-- behind the loads of a boundary
walk_signal : (job : JobData) (arch : Arch) (signal : ℕ) → Walk 2 2 false (Finishes arch) (entered job arch (pending_delivery arch signal))
unfolding entered
walk_signal job arch signal = search (rules, walk_pending_delivery) depth 99 fits 9000

-- ---- the instruction and the boundary

noted_walks : (n k : ℕ) (w : Bool) (arch : Arch) (m : Row) → Walks n k w (EndsRow arch) m → Walks n k w (Finishes arch) (m >>= noted)
unfolding ◌>>=◌
noted_walks n k w arch (done x) h = (h.0, record { count = h.1.count; posted = h.1.posted; made = h.1.made; tells = h.1.tells })
noted_walks n k w arch (fault e) h = h
noted_walks n k w arch (ask a changes c) h = (h.0, λ v. let g = h.1 v in (g.0, noted_walks (n + 1) (k + 1) (acted w a v (changes v)) arch (c v) g.1))
noted_walks n k w arch (tell word value changes s) h = (h.0, noted_walks (n + 1) k true arch s h.1)

walk_noted : {n k : ℕ} {w : Bool} {arch : Arch} (m : Row) → Walk n k w (EndsRow arch) m → Walk n k w (Finishes arch) (m >>= noted)
walk_noted {n} {k} {w} {arch} m h = record { walks = noted_walks n k w arch m h.walks }

walk_family : (job : JobData) (arch : Arch) (i : Instr) (next : ℕ) (p : Family) → Walk 2 2 false (Finishes arch) (execute_family job arch i next p)
walk_family job arch i next families.Arithmetic = walk_noted _ (walk_arithmetic arch i next)
walk_family job arch i next families.Flow = walk_noted _ (walk_flow arch i next)
walk_family job arch i next families.ShadowStacks = walk_noted _ (walk_shadow_stacks arch i next)
walk_family job arch i next families.SystemCall = walk_syscall job arch
walk_family job arch i next families.Supervisor = walk_fault refl refl

walk_missing : (arch : Arch) (at : Option ℕ) (addr : ℕ) → Walk 2 2 false (Finishes arch) (missing_in at addr)
walk_missing arch None addr = walk_fault refl refl
walk_missing arch (Some page) addr = record { walks = (refl, λ v. (no_birth [] refl, (refl, refl))) }

walk_fetched : (job : JobData) (arch : Arch) (bytes : List ℕ) (d : Decoding) → Walk 2 2 false (Finishes arch) (fetched job arch bytes d)
unfolding missing
walk_fetched job arch bytes (Read i len) = walk_family job arch i (add64 arch.rip len) (family_of i)
walk_fetched job arch bytes Short = walk_missing arch (page_at (arch.rip + length bytes)) (arch.rip + length bytes)
walk_fetched job arch bytes Unknown = walk_fault refl refl

walk_instruction : (job : JobData) (arch : Arch) → Walk 2 2 false (Finishes arch) (instruction job arch)
unfolding instruction
walk_instruction job arch = search (rules, walk_fetched) depth 99 fits 9000

walk_after : (job : JobData) (arch : Arch) (o : Option ℕ) → Walk 2 2 false (Finishes arch) (after_signals job arch o)
walk_after job arch None = walk_instruction job arch
walk_after job arch (Some signal) = walk_signal job arch signal

walk_boundary : (job : JobData) (arch : Arch) → Walk 0 0 false (Finishes arch) (boundary job arch)
unfolding boundary
walk_boundary job arch = search (rules, walk_after) depth 99 fits 9000

-- ---- rows

-- the posting of a listed signal raises the number of those that were posted, and nothing else
pub record Posts (job : JobData) (arch next : Arch) : Type 0 where
  pub count : next.count ≡ arch.count
  pub posted : next.posted ≡ arch.posted + 1
  pub made : next.made ≡ arch.made
  pub few : arch.posted < length job.signals

abbrev pub Ends : JobData → Arch → Finish → Type 0
Ends job arch (Noted next noted) = EndsRow arch (next, noted)
Ends job arch (Posted next) = Posts job arch next
Ends job arch (Exited next noted status) = EndsRow arch (next, noted)
Ends job arch Stopped = Unit {0}

finishes_end : (job : JobData) (arch : Arch) (x : Finish) → Finishes arch x → Ends job arch x
finishes_end job arch (Noted next noted) h = h
finishes_end job arch (Posted next) h = absurd h
finishes_end job arch (Exited next noted status) h = h
finishes_end job arch Stopped h = tt

walks_as : {A : Type 0} (used kept : ℕ) (wrote : Bool) (P Q : A → Type 0) (s : Script A) → ((x : A) → P x → Q x) → Walks used kept wrote P s → Walks used kept wrote Q s
walks_as used kept wrote P Q (done x) f h = (h.0, f x h.1)
walks_as used kept wrote P Q (fault e) f h = h
walks_as used kept wrote P Q (ask a changes c) f h = (h.0, λ v. let g = h.1 v in (g.0, walks_as (used + 1) (kept + 1) (acted wrote a v (changes v)) P Q (c v) f g.1))
walks_as used kept wrote P Q (tell word value changes s) f h = (h.0, walks_as (used + 1) kept true P Q s f h.1)

walk_end : (job : JobData) (arch : Arch) (s : Script Finish) → Walk 0 0 false (Finishes arch) s → Walk 0 0 false (Ends job arch) s
walk_end job arch s h = record { walks = walks_as 0 0 false (Finishes arch) (Ends job arch) s (finishes_end job arch) h.walks }

-- a list has no more for a thread than it has in all
filter_fits : {A : Type 0} (test : A → Bool) (xs : List A) → length (filter test xs) ≤ length xs
filter_fits test [] = omega arith
filter_fits test (x ∷ xs) = filtered test x xs (test x) (filter_fits test xs)
  where
    filtered : {A : Type 0} (test : A → Bool) (x : A) (xs : List A) (b : Bool) → length (filter test xs) ≤ length xs → length (cond b (x ∷ filter test xs) (filter test xs)) ≤ length (x ∷ xs)
    filtered test x xs true l = omega arith
    filtered test x xs false l = omega arith

due_there : (count signal : ℕ) (o : Option Signal) → due_by count o ≡ Some signal → (s : Signal) × (o ≡ Some s)
due_there count signal None e = cc
due_there count signal (Some s) e = (s, refl)

posted_few : (job : JobData) (arch : Arch) (signal : ℕ) → due_signal job arch ≡ Some signal → arch.posted < length job.signals
posted_few job arch signal e =
    let there = due_there arch.count signal (slice_get (listed job.signals arch.number) arch.posted) e in
    let within = slice_get_within (listed job.signals arch.number) arch.posted there.0 there.1 in
    let fits = filter_fits (λ (s : Signal). s.thread == arch.number) job.signals in
    omega arith

walk_posting : (job : JobData) (arch : Arch) (signal : ℕ) → due_signal job arch ≡ Some signal → Walk 0 0 false (Ends job arch) (posting arch signal)
unfolding posting
walk_posting job arch signal e =
    walk_fetch_or _ _ _ (λ w v. walk_done refl (record { count = refl; posted = refl; made = refl; few = posted_few job arch signal e }))

walk_between : (job : JobData) (arch : Arch) (o : Option ℕ) → due_signal job arch ≡ o → Walk 0 0 false (Ends job arch) (between job arch o)
walk_between job arch None e = walk_end job arch (boundary job arch) (walk_boundary job arch)
walk_between job arch (Some signal) e = walk_posting job arch signal e

walk_from : (job : JobData) (arch : Arch) (due : Option Fault) → Walk 0 0 false (Ends job arch) (row_from job arch due)
walk_from job arch (Some e) = walk_end job arch (entered job arch (fault_delivery arch e)) (walk_deliver job arch e)
walk_from job arch None = walk_between job arch (due_signal job arch) refl

pub walk_row : (job : JobData) (arch : Arch) → Walk 0 0 false (Ends job arch) (row job arch)
walk_row job arch = walk_from job arch arch.due

begins_between : (job : JobData) (arch : Arch) (o : Option ℕ) → (a : Access) × (changes : ℕ → List Change) × (play (between job arch o) 0 [] ≡ Wants a changes)
unfolding boundary posting fetch_or load_as ◌>>=◌
begins_between job arch None = (_, _, refl)
begins_between job arch (Some signal) = (_, _, refl)

begins_from : (job : JobData) (arch : Arch) (due : Option Fault) → (a : Access) × (changes : ℕ → List Change) × (play (row_from job arch due) 0 [] ≡ Wants a changes)
unfolding entered gate_in read_entry ◌>>=◌
begins_from job arch (Some e) = (_, _, refl)
begins_from job arch None = begins_between job arch (due_signal job arch)

-- a row with nothing seen wants an access
pub row_begins : (job : JobData) (arch : Arch) → (a : Access) × (changes : ℕ → List Change) × (play (row job arch) 0 [] ≡ Wants a changes)
row_begins job arch = begins_from job arch arch.due
