-- A program that makes work by switches between two contexts. Source: own.
use Rattle.std.specs.Prelude.{ℕ, List, [], ◌∷◌, ◌++◌, codes}
use Rattle.std.specs.Fmt.{decimal}
use Rattle.cet_ctx.specs.Lines.{text_of}

-- a shadow stack of one page, and a context on it
abbrev pub setup : List (List ℕ)
setup =
    codes "_start: mov edi, 0" ∷ codes "mov esi, 4096" ∷ codes "mov edx, 1" ∷ codes "mov eax, 453" ∷ codes "syscall"
    ∷ codes "lea r8, [rax+4096]" ∷ codes "lea rdi, [rip+ctx_b]" ∷ codes "lea rsi, [rip+work]" ∷ codes "xor edx, edx"
    ∷ codes "lea rcx, [rip+stack_end]" ∷ codes "xor r9d, r9d" ∷ codes "call makecontext" ∷ []

-- swaps until RBP is 0, then the process's end
abbrev pub rounds : List (List ℕ)
rounds =
    codes "again: lea rdi, [rip+ctx_a]" ∷ codes "lea rsi, [rip+ctx_b]" ∷ codes "call swapcontext" ∷ codes "dec rbp"
    ∷ codes "jne again" ∷ codes "xor edi, edi" ∷ codes "mov eax, 231" ∷ codes "syscall" ∷ []

-- the second context: swaps back, without end
abbrev pub work : List (List ℕ)
work =
    codes "work: lea rdi, [rip+ctx_b]" ∷ codes "lea rsi, [rip+ctx_a]" ∷ codes "call swapcontext" ∷ codes "jmp work" ∷ []

-- the two records and the second context's stack
abbrev pub places : List (List ℕ)
places =
    codes ".data" ∷ codes "ctx_a: .zero 80" ∷ codes "ctx_b: .zero 80" ∷ codes "stack: .zero 4096"
    ∷ codes "stack_end: .quad 0" ∷ []

-- n swaps there and back
abbrev pub bench : ℕ → List ℕ
bench n = text_of (setup ++ (codes "mov ebp, " ++ decimal n) ∷ rounds ++ work ++ places)
