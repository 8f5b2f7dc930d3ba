-- What a row has drawn, and that its record tells of it: of the stack that the row has claimed, and always where that stack
-- was parked or got a thread; and of the thread that it has borne. A row owes this whatever its accesses answer. Source: own.
use Rattle.std.proofs.Common.{◌≡◌, ◌⊎◌, ℕ, zero, suc, ◌+◌, ◌*◌, List, [], ◌∷◌, Option, Some, None}
use Rattle.cet_words.specs.Change.{Change, Claimed, Seeded, Born}
use Rattle.cet_words.specs.declared.accesses.Access.TheVariants as access
use Rattle.cet_isa.specs.declared.threads.Arch.{Arch}
use Rattle.cet_isa.specs.declared.threads.Record.{Record}
use Rattle.cet_book.specs.View.{Span}
use Rattle.cet_page.specs.Numbered.{named}
use Rattle.cet_page.specs.Script.{Script, done, fault, ask, tell, Played, Completed, Faulted, Wants, play}
use Rattle.cet_page.specs.Trail.{Visit, visit, trail}
use Rattle.cet_page.specs.declared.finishes.Finish.{Finish}
use Rattle.cet_page.specs.declared.finishes.Finish.TheVariants.{Noted, Posted, Exited, Stopped}
use Rattle.cet_own.specs.Told.{told}

-- the stacks that a row has claimed, the starts of those that were parked or got a thread, and the number of that thread
pub record Drawn : Type 0 where
  pub claimed : List Span
  pub kept : List ℕ
  pub born : Option ℕ

abbrev pub nothing_drawn : Drawn
nothing_drawn = record { claimed = []; kept = []; born = None }

abbrev pub claimed_span : (start pages : ℕ) → Span
claimed_span start pages = record { start = start; end = start + 4096 * pages }

abbrev pub draw : Change → Drawn → Drawn
draw (Claimed start pages maker) d = record d { claimed = claimed_span start pages ∷ d.claimed }
draw (Seeded start blanks) d = record d { kept = start ∷ d.kept }
draw (Born child start) d = record d { kept = start ∷ d.kept; born = Some child }
draw c d = d

abbrev pub draws : List Change → Drawn → Drawn
draws [] d = d
draws (c ∷ cs) d = draws cs (draw c d)

abbrev pub drawn : List Visit → Drawn
drawn [] = nothing_drawn
drawn (x ∷ past) = draws x.changes (drawn past)

-- ---- what a row owes at its end

-- its record tells of nothing, and nothing was kept; or it tells of the stack that was claimed, and no other was kept
pub data TellsOf (d : Drawn) (spans : List Span) : Type 0 where
  tells_nothing : spans ≡ [] → d.kept ≡ [] → TellsOf d spans
  tells_stack : (s : Span) → spans ≡ s ∷ [] → d.claimed ≡ s ∷ [] → (d.kept ≡ []) ⊎ (d.kept ≡ s.start ∷ []) → TellsOf d spans

-- and it names the thread that was borne
pub record RecordTells (d : Drawn) (r : Record) : Type 0 where
  pub stack : TellsOf d (told r r.what)
  pub thread : d.born ≡ named r.what r.a

abbrev pub EndTells : Drawn → Finish → Type 0
EndTells d (Noted next r) = RecordTells d r
EndTells d (Posted next) = d.kept ≡ []
EndTells d (Exited next r status) = RecordTells d r
EndTells d Stopped = d.kept ≡ []

abbrev pub RowTells : Drawn → Arch × Record → Type 0
RowTells d x = RecordTells d x.1

-- from here on, where so much was drawn, Q holds of what was drawn at the end and of the result
abbrev pub Telling : {A : Type 0} → (Q : Drawn → A → Type 0) → Drawn → Script A → Type 0
Telling Q d (done x) = Q d x
Telling Q d (fault e) = d.kept ≡ []
Telling Q d (ask a changes f) = (v : ℕ) → Telling Q (draws (changes v) d) (f v)
Telling Q d (tell word value changes s) = Telling Q (draws changes d) s

-- what holds where the script has come to its end
abbrev pub CameTells : {A : Type 0} → (Q : Drawn → A → Type 0) → Drawn → Played A → Type 0
CameTells Q d (Completed x n vs) = Q d x
CameTells Q d (Faulted e) = d.kept ≡ []
CameTells Q d (Wants a changes) = Unit {0}

pub came_tells : {A : Type 0} (Q : Drawn → A → Type 0) (past : List Visit) (s : Script A) (n : ℕ) (vs : List ℕ) → Telling Q (drawn past) s → CameTells Q (drawn (trail n s vs past)) (play s n vs)
came_tells Q past (done x) zero vs h = h
came_tells Q past (done x) (suc n) vs h = h
came_tells Q past (fault e) zero vs h = h
came_tells Q past (fault e) (suc n) vs h = h
came_tells Q past (ask a changes f) zero vs h = tt
came_tells Q past (ask a changes f) (suc n) [] h = tt
came_tells Q past (ask a changes f) (suc n) (v ∷ vs) h = came_tells Q (visit a v (changes v) ∷ past) (f v) n vs (h v)
came_tells Q past (tell word value changes s) zero vs h = tt
came_tells Q past (tell word value changes s) (suc n) vs h = came_tells Q (visit (access.Store word value) 0 changes ∷ past) s n vs h
