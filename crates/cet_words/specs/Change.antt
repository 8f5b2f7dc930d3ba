-- What one access changes in the book of shadow stacks, without the thread that makes it. A region is named by its
-- start, since an instruction knows addresses alone. Source: Intel SDM volume 1, chapter on CET (CALL, RET, INCSSP,
-- RSTORSSP, SAVEPREVSSP, SETSSBSY, CLRSSBSY); own for regions and blanks.
use Rattle.std.specs.Prelude.{ℕ, Bool}

pub data Change : Type 0 where
  -- a call, which is to return to back
  Called : (back : ℕ) → Change
  Returned : Change
  -- the newest entries are passed over
  Raised : (count : ℕ) → Change
  -- a restore token was taken
  Acquired : (at : ℕ) → Change
  -- the token of the stack that was left was written
  Released : Change
  -- pages were drawn for a region, which the thread goes on to make, or which is lost
  Claimed : (start pages : ℕ) → (maker : Bool) → Change
  -- the token of a region that was being made was written, below so many blanks
  Seeded : (start blanks : ℕ) → Change
  -- a thread was born onto a region that was being made
  Born : (child start : ℕ) → Change
  -- a signal's frame and the address of its restorer
  Pushed : (restorer : ℕ) → Change
  -- the frame of a signal was taken off
  Popped : Change
  Ended : Change
  -- a supervisor stack became busy, or free
  Busied : (stack : ℕ) → Change
  Freed : (stack : ℕ) → Change
