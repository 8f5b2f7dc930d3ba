-- A command has one answer to the same bytes.
use Rattle.std.proofs.Common.{◌≡◌, ◌⊎◌, ℕ, ◌<◌, ◌≤◌, Bool, true, false, List, [], ◌∷◌, ◌++◌, length, take, drop, Option, Some, None, refl, sym, ap, ◌∙◌, subst, inl, inr, arith}
use Rattle.std.proofs.lemmas.Bool.{cases_lt}
use Rattle.std.proofs.lemmas.List.{append-nil, ext_get_or, length-append, take_at}
use Rattle.std.proofs.Math.Seq.{drop-append_seam}
use Rattle.cet_words.specs.Layout.{word_count}
use Rattle.cet_words.specs.Job.{ImageData, JobData}
use Rattle.cet_words.specs.Start.{IsStart}
use Rattle.cet_words.specs.declared.images.Segment.{Segment}
use Rattle.cet_isa.specs.declared.instructions.Instr.{Instr}
use Rattle.cet_isa.specs.Reading.{Read, decoded}
use Rattle.cet_isa.specs.Spells.{Spells}
use Rattle.cet_isa.proofs.DecodedLaws.{decoded_spelling}
use Rattle.cet_isa.proofs.ReadingLaws.{decoded_within}
use Rattle.cet_asm.specs.Program.{Fault, IsProgram}
use Rattle.cet_asm.specs.declared.program.Program.{Program}
use Rattle.cet_elf.specs.Accepts.{Accepts, FirstBroken, image_of}
use Rattle.cet_elf.specs.Rules.{breach}
use Rattle.cet_elf.specs.Written.{written}
use Rattle.cet_own.specs.Event.{book_of}
use Rattle.cet_page.specs.Machine.{Machine, Starts, machine, run}
use Rattle.cet_top.specs.Answer.{Answers, Faults, Measured, Measures, Refuses, Reports, Runs, Turns, by_plan, job_of, source_of, status_of, with_runtime}
use Rattle.cet_top.specs.Listing.{Instruction, IsCut, IsFirst, IsListing, Lists, ListsIf, Lone, Piece, piece_bytes, piece_lines}
use Rattle.cet_ctx.specs.Bench.{bench}
use Rattle.cet_trace.specs.Report.{report_of}
use Rattle.cet_trace.specs.Summary.{summary_of}
use Rattle.cet_run.specs.SafeRun.{SafeRun, outcome_of}
use Rattle.cet_run.specs.Schedule.{ByRobin}
use Rattle.cet_run.specs.declared.outcomes.Outcome.{Outcome}
use Rattle.cet_base.specs.declared.styles.Style.{Style}
use Rattle.cet_top.specs.declared.status.Status.{Status}
use Rattle.cet_top.specs.declared.status.Status.TheVariants as status
use Rattle.cet_cli.specs.Settings.{SettingsData}
use Rattle.cet_cli.specs.Words.{default_settings, is_threaded}
use Rattle.cet_cli.specs.declared.options.Plan.{Plan}
use Rattle.cet_cli.specs.declared.options.Plan.TheVariants.{Mix, Schedule}
use Rattle.cet_cli.specs.declared.words.Command.{Command}
use Rattle.cet_cli.specs.declared.words.Command.TheVariants as command
use Rattle.cet_run.proofs.ScheduleLaws.{full_same, mix_same, robin_same}

-- ---- refusals

broken_below : (bytes : List ℕ) (r o s p : ℕ) → FirstBroken bytes r o → FirstBroken bytes s p → r < s → ⊥
broken_below bytes r o s p f g l = (let never : None ≡ Some o = sym (g.before r f.low l) ∙ f.here in cc)

rule_same : (bytes : List ℕ) (r o s p : ℕ) → FirstBroken bytes r o → FirstBroken bytes s p → r ≡ s
rule_same bytes r o s p f g = elim (cases_lt r s) [
  | inl l ↦ absurd (broken_below bytes r o s p f g l)
  | inr m ↦ elim (cases_lt s r) [ inl l ↦ absurd (broken_below bytes s p r o g f l) | inr n ↦ omega arith ]
]

place_same : (bytes : List ℕ) (r o s p : ℕ) → FirstBroken bytes r o → FirstBroken bytes s p → o ≡ p
place_same bytes r o s p f g =
    let e = rule_same bytes r o s p f g in
    let two : Some o ≡ Some p = sym f.here ∙ ap (λ n. breach n bytes) e ∙ g.here in
    cc

abbrev One : Status → Status → List ℕ → List ℕ → Type 0
One s t x y = (s ≡ t) × (x ≡ y)

refused_same : (bytes : List ℕ) (s t : Status) (x y : List ℕ) → Refuses bytes s x → Refuses bytes t y → One s t x y
refused_same bytes s t x y a b =
    let rules = rule_same bytes a.rule a.offset b.rule b.offset a.broken b.broken in
    let places = place_same bytes a.rule a.offset b.rule b.offset a.broken b.broken in
    (a.refused ∙ ap (λ n. status.Refused n a.offset) rules ∙ ap (status.Refused b.rule) places ∙ sym b.refused, a.nothing ∙ sym b.nothing)

not_both : (bytes : List ℕ) (s : Status) (x : List ℕ) → Refuses bytes s x → Accepts bytes → ⊥
not_both bytes s x r a = (let never : None ≡ Some r.offset = sym (a r.rule r.broken.low r.broken.high) ∙ r.broken.here in cc)

-- ---- listings

spelling_some : (spelling : List ℕ) (i : Instr) → Spells spelling i → 1 ≤ length spelling
spelling_some spelling i s = (decoded_within spelling i (length spelling) (ap decoded (sym (append-nil spelling)) ∙ decoded_spelling spelling [] i s)).0

piece_some : (p : Piece) (code : List ℕ) → IsFirst p code → 1 ≤ length (piece_bytes p)
piece_some (Instruction i spelling) code f = spelling_some spelling i f
piece_some (Lone byte) code f = omega arith

not_lone : (code spelling rest : List ℕ) (i : Instr) (byte : ℕ) → Spells spelling i → code ≡ spelling ++ rest → IsFirst (Lone byte) code → ⊥
not_lone code spelling rest i byte s e f =
    let n = length-append spelling rest in
    let size : length code ≡ length (spelling ++ rest) = ap (λ (l : List ℕ). length l) e in
    let front : take (length spelling) code ≡ spelling = ap (take (length spelling)) e ∙ take_at spelling rest (length spelling) refl in
    f i (length spelling) (record { within = omega arith; spelled = subst (λ l. Spells l i) (sym front) s })

same_spelling : (code s t rest more : List ℕ) (i j : Instr) → Spells s i → Spells t j → code ≡ s ++ rest → code ≡ t ++ more → (i ≡ j) × (s ≡ t)
same_spelling code s t rest more i j f g a b =
    let x : decoded code ≡ Read i (length s) = ap decoded a ∙ decoded_spelling s rest i f in
    let y : decoded code ≡ Read j (length t) = ap decoded b ∙ decoded_spelling t more j g in
    let both : Read i (length s) ≡ Read j (length t) = sym x ∙ y in
    let instr : i ≡ j = cc in
    let size : length s ≡ length t = cc in
    (instr, sym (take_at s rest (length s) refl) ∙ ap (take (length s)) (sym a ∙ b) ∙ take_at t more (length s) (sym size))

first_same : (p q : Piece) (code rest more : List ℕ) → IsFirst p code → IsFirst q code → code ≡ piece_bytes p ++ rest → code ≡ piece_bytes q ++ more → p ≡ q
first_same (Instruction i s) (Instruction j t) code rest more f g a b =
    let e = same_spelling code s t rest more i j f g a b in ap (λ x. Instruction x s) e.0 ∙ ap (Instruction j) e.1
first_same (Instruction i s) (Lone byte) code rest more f g a b = absurd (not_lone code s rest i byte f a g)
first_same (Lone byte) (Instruction j t) code rest more f g a b = absurd (not_lone code t more j byte g b f)
first_same (Lone x) (Lone y) code rest more f g a b = (let e : x ∷ rest ≡ y ∷ more = sym a ∙ b in let same : x ≡ y = cc in ap Lone same)

no_piece : (p : Piece) (code rest : List ℕ) → IsFirst p code → code ≡ [] → code ≡ piece_bytes p ++ rest → ⊥
no_piece p code rest f none e =
    let some = piece_some p code f in
    let n = length-append (piece_bytes p) rest in
    let size : 0 ≡ length (piece_bytes p ++ rest) = ap (λ (l : List ℕ). length l) (sym none ∙ e) in
    omega arith

cut_same : (ps qs : List Piece) (code : List ℕ) → IsCut ps code → IsCut qs code → ps ≡ qs
cut_same [] [] code a b = refl
cut_same [] (q ∷ qs) code a (rest, first, whole, others) = absurd (no_piece q code rest first a whole)
cut_same (p ∷ ps) [] code (rest, first, whole, others) b = absurd (no_piece p code rest first b whole)
cut_same (p ∷ ps) (q ∷ qs) code (rest, first, whole, others) (more, first', whole', others') =
    let e : p ≡ q = first_same p q code rest more first first' whole whole' in
    let both : piece_bytes p ++ rest ≡ piece_bytes p ++ more = sym whole ∙ whole' ∙ ap (λ x. piece_bytes x ++ more) (sym e) in
    let left : rest ≡ more = sym (drop-append_seam (piece_bytes p) rest) ∙ ap (drop (length (piece_bytes p))) both ∙ drop-append_seam (piece_bytes p) more in
    let tails : ps ≡ qs = cut_same ps qs rest others (subst (IsCut qs) (sym left) others') in
    ap (λ x. x ∷ ps) e ∙ ap (λ l. q ∷ l) tails

lists_same : (addr : ℕ) (code x y : List ℕ) → Lists addr code x → Lists addr code y → x ≡ y
lists_same addr code x y a b = a.lines ∙ ap (piece_lines addr) (cut_same a.pieces b.pieces code a.cut b.cut) ∙ sym b.lines

segment_same : (c : Bool) (s : Segment) (x y : List ℕ) → ListsIf c s x → ListsIf c s y → x ≡ y
segment_same true s x y a b = lists_same s.start _ x y a b
segment_same false s x y a b = a ∙ sym b

listing_same : (ss : List Segment) (x y : List ℕ) → IsListing ss x → IsListing ss y → x ≡ y
listing_same [] x y a b = a ∙ sym b
listing_same (s ∷ ss) x y (first, rest, here, others, whole) (first', rest', here', others', whole') =
    whole ∙ ap (λ (l : List ℕ). l ++ rest) (segment_same s.exec s first first' here here') ∙ ap (λ (l : List ℕ). first' ++ l) (listing_same ss rest rest' others others') ∙ sym whole'

-- ---- runs

words_same : (image : ImageData) (xs ys : List ℕ) → IsStart image xs → IsStart image ys → xs ≡ ys
words_same image xs ys a b = ext_get_or 0 xs ys (a.size ∙ sym b.size) (λ i l. (let n : i < word_count = (let s = a.size in omega arith) in a.each i n ∙ sym (b.each i n)))

start_same : (job : JobData) (m n : Machine) → Starts job m → Starts job n → m ≡ n
start_same job m n a b =
    let words = words_same job.image m.words n.words a.words b.words in
    let threads : m.threads ≡ n.threads = a.threads ∙ sym b.threads in
    ap (λ (w : List ℕ). machine w m.threads) words ∙ ap (machine n.words) threads

-- turns of which there is one list
abbrev OneList : (Machine → List ℕ → Type 0) → Type 0
OneList Turned = (m : Machine) (xs ys : List ℕ) → Turned m xs → Turned m ys → xs ≡ ys

run_same : (job : JobData) (Turned : Machine → List ℕ → Type 0) (o p : Outcome) → OneList Turned → SafeRun job Turned o → SafeRun job Turned p → o ≡ p
run_same job Turned o p one a b =
    let start = start_same job a.start b.start a.starts b.starts in
    let there : Turned b.start a.turns = subst (λ m. Turned m a.turns) start a.schedule in
    let turns = one b.start a.turns b.turns there b.schedule in
    let books : Some a.book ≡ Some b.book = sym a.legal ∙ ap (λ m. book_of job m a.turns) start ∙ ap (book_of job b.start) turns ∙ b.legal in
    let book : a.book ≡ b.book = cc in
    a.is ∙ ap (λ m. outcome_of (run job m a.turns) a.book) start ∙ ap (λ t. outcome_of (run job b.start t) a.book) turns ∙ ap (outcome_of (run job b.start b.turns)) book ∙ sym b.is

reported_same : (job : JobData) (Turned : Machine → List ℕ → Type 0) (kind : Style) (s t : Status) (x y : List ℕ) → OneList Turned → Reports job Turned kind s x → Reports job Turned kind t y → One s t x y
reported_same job Turned kind s t x y one a b =
    let same = run_same job Turned a.outcome b.outcome one a.ran b.ran in (
      a.told.ends ∙ ap (λ (o : Outcome). status_of o.process) same ∙ sym b.told.ends,
      a.told.reports ∙ ap (λ (o : Outcome). report_of o kind) same ∙ sym b.told.reports,
    )

planned_same : (job : JobData) (plan : Plan) → OneList (by_plan plan job)
planned_same job (Schedule given) m xs ys a b = full_same job m given xs ys a b
planned_same job (Mix number) m xs ys a b = mix_same job m number xs ys a b

runs_same : (settings : SettingsData) (by : Turns) (bytes : List ℕ) (s t : Status) (x y : List ℕ) → OneList (by (job_of settings bytes))
    → Refuses bytes s x ⊎ Runs by settings bytes s x → Refuses bytes t y ⊎ Runs by settings bytes t y → One s t x y
runs_same settings by bytes s t x y one a b = elim a [
  | inl r ↦ elim b [ inl q ↦ refused_same bytes s t x y r q | inr q ↦ absurd (not_both bytes s x r q.accepted) ]
  | inr r ↦ elim b [ inl q ↦ absurd (not_both bytes t y q r.accepted) | inr q ↦ reported_same (job_of settings bytes) (by (job_of settings bytes)) settings.style s t x y one r.reported q.reported ]
]

-- ---- the bench

measured_same : (n : ℕ) (job : JobData) (s t : Status) (x y : List ℕ) → Measured n job s x → Measured n job t y → One s t x y
measured_same n job s t x y a b =
    let same = run_same job (ByRobin job) a.outcome b.outcome (λ m xs ys r q. robin_same job m None xs ys r q) a.ran b.ran in (
      a.ends ∙ ap (λ (o : Outcome). status_of o.process) same ∙ sym b.ends,
      a.told ∙ ap (λ (o : Outcome). summary_of n o) same ∙ sym b.told,
    )

measures_same : (n : ℕ) (bytes : List ℕ) (s t : Status) (x y : List ℕ) → Refuses bytes s x ⊎ Measures n bytes s x → Refuses bytes t y ⊎ Measures n bytes t y → One s t x y
measures_same n bytes s t x y a b = elim a [
  | inl r ↦ elim b [ inl q ↦ refused_same bytes s t x y r q | inr q ↦ absurd (not_both bytes s x r q.accepted) ]
  | inr r ↦ elim b [ inl q ↦ absurd (not_both bytes t y q r.accepted) | inr q ↦ measured_same n (job_of default_settings bytes) s t x y r.measured q.measured ]
]

-- ---- programs

abbrev program_of : (text static_data : List ℕ) → (entry mark : ℕ) → Program
program_of text static_data entry mark = record { text = text; static_data = static_data; entry = entry; mark = mark }

program_same : (source : List ℕ) (p q : Program) → IsProgram source p → IsProgram source q → p ≡ q
program_same source p q a b =
    ap (λ t. program_of t p.static_data p.entry p.mark) (a.text ∙ sym b.text)
    ∙ ap (λ d. program_of q.text d p.entry p.mark) (a.static_data ∙ sym b.static_data)
    ∙ ap (λ e. program_of q.text q.static_data e p.mark) (a.entry ∙ sym b.entry)
    ∙ ap (program_of q.text q.static_data q.entry) (a.mark ∙ sym b.mark)

abbrev line_in : Option Fault → ℕ
line_in None = 0
line_in (Some f) = f.line

abbrev rule_in : Option Fault → ℕ
rule_in None = 0
rule_in (Some f) = f.rule

fault_same : (bytes : List ℕ) (s t : Status) (x y : List ℕ) → Faults bytes s x → Faults bytes t y → One s t x y
fault_same bytes s t x y a b =
    let both = sym a.broken ∙ b.broken in
    let lines : a.line ≡ b.line = ap line_in both in
    let rules : a.rule ≡ b.rule = ap rule_in both in
    (a.refused ∙ ap (λ n. status.AsmRefused n a.rule) lines ∙ ap (status.AsmRefused b.line) rules ∙ sym b.refused, a.nothing ∙ sym b.nothing)

not_sound : (text : List ℕ) (s : Status) (x : List ℕ) → Faults text s x → (p : Program) → IsProgram text p → ⊥
not_sound text s x a p b = (let never = sym b.sound ∙ a.broken in cc)

-- ---- every command

pub answers_same : (c : Command) → is_threaded c ≡ false → (bytes : List ℕ) (s t : Status) (x y : List ℕ) → Answers c bytes s x → Answers c bytes t y → One s t x y
answers_same (command.Run settings) plain bytes s t x y a b = runs_same settings ByRobin bytes s t x y (λ m xs ys r q. robin_same (job_of settings bytes) m None xs ys r q) a b
answers_same (command.Replay settings plan) plain bytes s t x y a b = runs_same settings (by_plan plan) bytes s t x y (planned_same (job_of settings bytes) plan) a b
answers_same command.Dis plain bytes s t x y a b = elim a [
  | inl r ↦ elim b [ inl q ↦ refused_same bytes s t x y r q | inr q ↦ absurd (not_both bytes s x r q.accepted) ]
  | inr r ↦ elim b [ inl q ↦ absurd (not_both bytes t y q r.accepted) | inr q ↦ (r.done ∙ sym q.done, listing_same (image_of bytes).segments x y r.listed q.listed) ]
]
answers_same command.Check plain bytes s t x y a b = elim a [
  | inl r ↦ elim b [ inl q ↦ refused_same bytes s t x y r q | inr q ↦ absurd (not_both bytes s x r q.accepted) ]
  | inr r ↦ elim b [ inl q ↦ absurd (not_both bytes t y q r.accepted) | inr q ↦ (r.done ∙ sym q.done, r.told ∙ sym q.told) ]
]
answers_same (command.Bench n) plain bytes s t x y a b = elim a [
  | inl r ↦ elim b [ inl q ↦ fault_same (with_runtime (bench n)) s t x y r q | inr q ↦ absurd (not_sound (with_runtime (bench n)) s x r q.program q.assembled) ]
  | inr r ↦ elim b [
    | inl q ↦ absurd (not_sound (with_runtime (bench n)) t y q r.program r.assembled)
    | inr q ↦ measures_same n (written q.program) s t x y
        (subst (λ (p : Program). Refuses (written p) s x ⊎ Measures n (written p) s x) (program_same (with_runtime (bench n)) r.program q.program r.assembled q.assembled) r.ran) q.ran
  ]
]
answers_same (command.Asm with) plain bytes s t x y a b = elim a [
  | inl r ↦ elim b [ inl q ↦ fault_same (source_of with bytes) s t x y r q | inr q ↦ absurd (not_sound (source_of with bytes) s x r q.program q.assembled) ]
  | inr r ↦ elim b [
    | inl q ↦ absurd (not_sound (source_of with bytes) t y q r.program r.assembled)
    | inr q ↦ (r.done ∙ sym q.done, r.file ∙ ap written (program_same (source_of with bytes) r.program q.program r.assembled q.assembled) ∙ sym q.file)
  ]
]
answers_same (command.Smp settings workers) plain bytes s t x y a b = cc
