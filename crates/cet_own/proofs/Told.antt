-- What the answers of a row have told stays so, whatever the threads do since. Source: own.
use Rattle.std.proofs.Common.{◌≡◌, ℕ, ◌+◌, ◌*◌, ◌-◌, List, [], ◌∷◌, Option, None, Some, refl, ap, arith}
use Rattle.cet_words.specs.Job.{ImageData}
use Rattle.cet_words.specs.Layout.{first_shadow_page, shadow_start}
use Rattle.cet_words.specs.declared.accesses.Access.{Access}
use Rattle.cet_words.specs.declared.accesses.Access.TheVariants as access
use Rattle.cet_book.specs.Book.{Book, region}
use Rattle.cet_book.specs.Facts.{LiesIn}
use Rattle.cet_book.proofs.Comes.{Lasts}
use Rattle.cet_book.specs.Relied.{Free, Held}
use Rattle.cet_page.specs.Trail.{Visit}
use Rattle.cet_own.specs.Facts.{AllTold, HasTold}
use Rattle.cet_own.specs.Owed.{Known}
use Rattle.cet_own.proofs.Writes.{in_there}

-- what is known of an answer is told by it
pub known_told : {image : ImageData} {t : ℕ} {past : List Visit} {b : Book} {v : ℕ} (a : Access) → Known image t past b a v → HasTold image b past a v
known_told (access.Look page) known = (known.entry page refl, known.look page refl)
known_told (access.Load word) known = λ s l e. (known.code s l (ap access.Load e), λ shows. known.restorer s l shows (ap access.Load e))
known_told a known = tt

lies_last : {b next : Book} → Lasts b next → (i page : ℕ) → LiesIn (region b i) page → LiesIn (region next i) page
lies_last {b = b} l i page lies =
    let low = lies.low in
    let high = lies.high in
    let there = in_there b i (shadow_start + 4096 * (page - first_shadow_page)) (record { low = low; high = omega arith }) in
    let s = l.start i there in
    let e = l.end i there in
    record { low = omega arith; high = omega arith }

told_last : (image : ImageData) {b next : Book} → Lasts b next → (past : List Visit) (a : Access) (v : ℕ) → HasTold image b past a v → HasTold image next past a v
told_last image l past (access.Look page) v h = (h.0, λ low high n. let lies = h.1 low high n in (lies.0, lies_last l lies.0 page lies.1))
told_last image l past (access.Load word) v h = h
told_last image l past a v h = tt

pub all_last : (image : ImageData) {b next : Book} → Lasts b next → (past : List Visit) → AllTold image b past → AllTold image next past
all_last image l [] h = tt
all_last image l (x ∷ past) h = (told_last image l past x.access x.answer h.0, all_last image l past h.1)

-- a thread without a supervisor stack notes none
pub free_note : (t : ℕ) (b : Book) (held : Option ℕ) → Free t b → Held t b held → held ≡ None
free_note t b None free h = refl
free_note t b (Some k) free h = absurd (free k ((h k).0 refl))
