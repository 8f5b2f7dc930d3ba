-- The guest runtime: routines on contexts, for long jumps, and for threads and signals, as assembler text.
-- Source: own; what the routines do is after `ucontext` and `setjmp` of the C library (POSIX, glibc).
use Rattle.std.specs.Prelude.{ℕ, List, [], ◌∷◌, ◌++◌, codes, map}
use Rattle.cet_ctx.specs.Lines.{text_of, labelled}

-- ---- the registers that a call keeps

-- a register, and where its word stands behind a record's start
pub record Kept : Type 0 where
  pub register : List ℕ
  pub place : List ℕ

abbrev pub kept : List Kept
kept =
    record { register = codes "rbx"; place = [] } ∷ record { register = codes "rbp"; place = codes "+8" }
    ∷ record { register = codes "r12"; place = codes "+16" } ∷ record { register = codes "r13"; place = codes "+24" }
    ∷ record { register = codes "r14"; place = codes "+32" } ∷ record { register = codes "r15"; place = codes "+40" } ∷ []

-- the word of a register in the record to which another register points
abbrev pub word_of : List ℕ → Kept → List ℕ
word_of base k = codes "[" ++ base ++ k.place ++ codes "]"

-- stores of the kept registers to the record at `base`
abbrev pub save : List ℕ → List (List ℕ)
save base = map (λ k. codes "mov " ++ word_of base k ++ codes ", " ++ k.register) kept

-- loads of the kept registers from the record at `base`
abbrev pub load : List ℕ → List (List ℕ)
load base = map (λ k. codes "mov " ++ k.register ++ codes ", " ++ word_of base k) kept

-- ---- contexts

-- stores of RSP, the target and SSP, for a context that goes on behind the call
abbrev pub save_place : List (List ℕ)
save_place =
    codes "mov [rdi+48], rsp" ∷ codes "mov rax, ctx_ret" ∷ codes "mov [rdi+56], rax" ∷ codes "rdsspq rax"
    ∷ codes "mov [rdi+64], rax" ∷ []

abbrev pub getcontext : List (List ℕ)
getcontext = codes "getcontext: endbr64" ∷ save (codes "rdi") ++ save_place ++ codes "xor eax, eax" ∷ codes "ret" ∷ []

abbrev pub makecontext : List (List ℕ)
makecontext =
    codes "makecontext: endbr64" ∷ codes "mov [rdi+16], rsi" ∷ codes "mov [rdi+24], rdx" ∷ codes "mov [rdi+32], r9"
    ∷ codes "and rcx, -16" ∷ codes "mov [rdi+48], rcx" ∷ codes "mov rax, ctx_enter" ∷ codes "mov [rdi+56], rax"
    ∷ codes "mov [rdi+64], r8" ∷ codes "ret" ∷ []

-- where a made context begins: its function, then its link or the thread's end
abbrev pub ctx_enter : List (List ℕ)
ctx_enter =
    codes "ctx_enter: endbr64" ∷ codes "mov rdi, r13" ∷ codes "call r12" ∷ codes "test r14, r14" ∷ codes "je ctx_end"
    ∷ codes "mov rdi, r14" ∷ codes "call setcontext" ∷ codes "ctx_end: xor edi, edi" ∷ codes "mov eax, 60" ∷ codes "syscall" ∷ []

-- goes to the context at RSI
abbrev pub ctx_go : List (List ℕ)
ctx_go =
    codes "ctx_go: mov rax, [rsi+64]" ∷ codes "rstorssp [rax-8]" ∷ codes "saveprevssp" ∷ load (codes "rsi")
    ++ codes "mov rsp, [rsi+48]" ∷ codes "xor eax, eax" ∷ codes "jmp [rsi+56]" ∷ []

abbrev pub swapcontext : List (List ℕ)
swapcontext = codes "swapcontext: endbr64" ∷ save (codes "rdi") ++ save_place ++ ctx_go

-- where a kept context goes on
abbrev pub ctx_ret : List (List ℕ)
ctx_ret = codes "ctx_ret: endbr64" ∷ codes "ret" ∷ []

abbrev pub setcontext : List (List ℕ)
setcontext = codes "setcontext: endbr64" ∷ codes "mov rsi, rdi" ∷ codes "jmp ctx_go" ∷ []

-- ---- long jumps

abbrev pub setjmp : List (List ℕ)
setjmp =
    codes "setjmp: endbr64" ∷ save (codes "rdi")
    ++ codes "lea rax, [rsp+8]" ∷ codes "mov [rdi+48], rax" ∷ codes "mov rax, [rsp]" ∷ codes "mov [rdi+56], rax"
    ∷ codes "rdsspq rax" ∷ codes "add rax, 8" ∷ codes "mov [rdi+64], rax" ∷ codes "xor eax, eax" ∷ codes "ret" ∷ []

-- drops entries of the shadow stack, at most 255 at a time, and goes to the record at RDI
abbrev pub longjmp : List (List ℕ)
longjmp =
    codes "longjmp: endbr64" ∷ codes "rdsspq rax" ∷ codes "mov rcx, [rdi+64]" ∷ codes "sub rcx, rax" ∷ codes "shr rcx, 3"
    ∷ codes "lj_loop: test rcx, rcx" ∷ codes "je lj_done" ∷ codes "mov edx, 255" ∷ codes "cmp rcx, rdx"
    ∷ codes "cmovb rdx, rcx" ∷ codes "incsspq rdx" ∷ codes "sub rcx, rdx" ∷ codes "jmp lj_loop"
    ∷ codes "lj_done: mov rax, rsi" ∷ codes "test rax, rax" ∷ codes "jne lj_go" ∷ codes "mov eax, 1"
    ∷ labelled (codes "lj_go: ") (load (codes "rdi")) ++ codes "mov rsp, [rdi+48]" ∷ codes "notrack jmp [rdi+56]" ∷ []

-- ---- threads and signals

abbrev pub thread_start : List (List ℕ)
thread_start =
    codes "thread_start: endbr64" ∷ codes "mov [rdx-8], rsi" ∷ codes "mov [rdx-16], rdi" ∷ codes "lea rsi, [rdx-16]"
    ∷ codes "mov edi, 0x10900" ∷ codes "mov eax, 56" ∷ codes "syscall" ∷ codes "test rax, rax" ∷ codes "je ts_child"
    ∷ codes "ret" ∷ codes "ts_child: pop rax" ∷ codes "pop rdi" ∷ codes "call rax" ∷ codes "xor edi, edi"
    ∷ codes "mov eax, 60" ∷ codes "syscall" ∷ []

abbrev pub sig_restorer : List (List ℕ)
sig_restorer = codes "sig_restorer: mov eax, 15" ∷ codes "syscall" ∷ []

-- ---- the text

abbrev pub runtime : List ℕ
runtime =
    text_of
    ((codes ".text" ∷ []) ++ getcontext ++ makecontext ++ ctx_enter ++ swapcontext ++ ctx_ret ++ setcontext ++ setjmp
    ++ longjmp ++ thread_start ++ sig_restorer)
