-- Passes are dealt to workers, each has turns, and those whose threads have ended are laid aside. Source: own.
use Rattle.std.specs.Prelude.{◌≡◌, ◌≢◌, ℕ, ◌-◌, ◌≤◌, List, [], ◌∷◌, ◌++◌, length, None, Result, Ok, Err, All}
use Rattle.std.specs.List.Sorted.{IsPermutation}
use Rattle.std.specs.declared.vec.Vec.{Vec}
use Rattle.std.specs.declared.alloc.Global.{Global}
use Rattle.cet_words.specs.declared.lists.NoMemory.{NoMemory}
use Rattle.cet_page.specs.Within.{IsCore}
use Rattle.cet_shared.specs.Held.{Place}
use Rattle.cet_pool.specs.declared.lives.Live.{Live}
use Rattle.cet_pool.specs.declared.workers.Bin.{Bin}
use Rattle.cet_pool.specs.Going.{Goes, IsLive, IsOver, IsReady, own}

-- the passes of all bins
abbrev pub spread : List Bin → List Live
spread [] = []
spread (b ∷ bs) = b.lives.items ++ spread bs

-- all passes of the bin wait for a turn
abbrev pub IsReadyBin : Place → Bin → Type 0
IsReadyBin place bin = All (IsReady place) bin.lives.items

-- what a worker's turns make of the passes of its bin: each made at least one access
pub record Turned (place : Place) (before after : List Live) : Type 0 where
  pub lives : All (IsLive place) after
  pub goes : Goes place.job (length before) before after

-- the same between two turns: some passes wait, and the others have had theirs
pub record Turning (place : Place) (before waiting after : List Live) : Type 0 where
  pub ready : All (IsReady place) waiting
  pub lives : All (IsLive place) after
  pub fewer : length waiting ≤ length before
  pub goes : Goes place.job (length before - length waiting) before (waiting ++ after)

-- ---- what the workers answer

abbrev pub Answer : Type 0
Answer = Result (Vec Live Global) NoMemory

-- the passes of the workers' answers
abbrev pub outs_of : List Answer → List Live
outs_of [] = []
outs_of (Ok v ∷ rs) = v.items ++ outs_of rs
outs_of (Err e ∷ rs) = outs_of rs

-- no worker was short of memory
abbrev pub AllOk : List Answer → Type 0
AllOk [] = Unit {0}
AllOk (Ok v ∷ rs) = AllOk rs
AllOk (Err e ∷ rs) = ⊥

-- ---- passes are laid aside

-- its thread hasn't ended
pub record IsGoing (live : Live) : Type 0 where
  pub goes : (own live).core.over ≡ None
  pub state : IsCore live.pass.view.job (own live).core

abbrev pub HasEnded : Live → Type 0
HasEnded live = (own live).core.over ≢ None

-- Of passes, beside those that went on and those that were laid aside before: some still wait, these go on now, and those are
-- laid aside.
pub record Parted (before lives aside waiting lives' aside' : List Live) : Type 0 where
  pub same : IsPermutation (before ++ (lives ++ aside)) (waiting ++ (lives' ++ aside'))
  pub going : All IsGoing lives → All IsGoing lives'
  pub ended : All HasEnded aside → All HasEnded aside'

-- so the passes of all answers, of which some still wait
pub record Collected (answers : List Answer) (aside : List Live) (waiting : List Answer) (lives aside' : List Live) : Type 0 where
  pub ok : AllOk waiting → AllOk answers
  pub same : IsPermutation (outs_of answers ++ aside) (outs_of waiting ++ (lives ++ aside'))
  pub going : All IsGoing lives
  pub ended : All HasEnded aside → All HasEnded aside'

-- At least k accesses lead to passes that go on and passes whose threads have ended.
pub record Settled (place : Place) (k : ℕ) (before lives ended : List Live) : Type 0 where
  pub ready : All (IsReady place) lives
  pub over : All (IsOver place) ended
  pub goes : Goes place.job k before (lives ++ ended)
