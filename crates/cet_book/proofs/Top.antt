-- The shadow-stack pointer of a thread is the top of its region. Source: own.
use Rattle.std.proofs.Common.{◌≡◌, ℕ, suc, ◌+◌, ◌*◌, ◌%◌, ◌<◌, List, length, Some, sym, ◌∙◌, ap, subst, arith}
use Rattle.cet_book.specs.declared.entries.Entry.{Entry}
use Rattle.cet_book.specs.declared.entries.Holder.TheVariants.{Current, Parked}
use Rattle.cet_book.specs.Book.{Region, Book, region, top, current_of, relist, unlink, acquire, raised}
use Rattle.cet_book.specs.Shape.{Shape}
use Rattle.cet_book.specs.Relied.{AtTop, Relies, owns_current}
use Rattle.cet_book.proofs.Edits.{Owned, owned_there, current_holds}
use Rattle.cet_book.proofs.Relist.{relist_here, relist_owned}
use Rattle.cet_book.proofs.Unlink.{Linked, unlink_here}
use Rattle.cet_book.proofs.Acquire.{Takes, acquire_taken}
use Rattle.cet_book.proofs.Hand.{hand, Made, made_empty, hand_here, bears}
use Rattle.cet_book.proofs.Removes.{Removal, shortened, raised_shortened}

pub top_relies : {t : ℕ} {b now : Book} {ssp : ℕ} → Relies t b now → AtTop t b ssp → AtTop t now ssp
top_relies {t = t} {b = b} {now = now} r a =
    let same : region now (current_of t now) ≡ region b (current_of t b)
    = ap (region now) (r.found a.has) ∙ r.kept (current_of t b) (owns_current t (region b (current_of t b)).holder (current_holds t b a.has)) in
    record {
      has = let g = r.grows in let e = r.found a.has in let l = a.has in omega arith;
      at = a.at ∙ sym (ap (λ (q : Region). top q) same);
      aligned = a.aligned;
    }

-- a thread at the top of region m
pub at_top : {t m : ℕ} {b : Book} → Owned t m b → AtTop t b (top (region b m))
at_top {t = t} {m = m} {b = b} o =
    let found : current_of t b ≡ m = o.shape.alone t m o.current in
    let bounds = o.shape.bounds m (owned_there o) in
    let room = (o.shape.fits m).room in
    let last = bounds.last in
    record { has = (let l = owned_there o in omega arith); at = sym (ap (λ n. top (region b n)) found); aligned = omega arith }

pub top_is : {t m ssp : ℕ} {b : Book} → Owned t m b → AtTop t b ssp → ssp ≡ top (region b m)
top_is {t = t} {m = m} {b = b} o a = a.at ∙ ap (λ n. top (region b n)) (o.shape.alone t m o.current)

-- a thread whose region ends where its pointer and its entries say
pub owned_top : {t m : ℕ} {next : Book} → Owned t m next → (ssp : ℕ) → ssp + 8 * length (region next m).entries ≡ (region next m).end → AtTop t next ssp
owned_top {t = t} {next = next} o ssp at = subst (AtTop t next) (omega arith) (at_top o)

-- after a change of its own list
pub relist_top : {t m : ℕ} {b : Book} (o : Owned t m b) (es : List Entry) → Shape (relist m es b) → (ssp : ℕ) → ssp + 8 * length es ≡ (region b m).end → AtTop t (relist m es b) ssp
relist_top {m = m} {b = b} o es h ssp at =
    let here = relist_here o es in
    let long : length (region (relist m es b) m).entries ≡ length es = ap (λ (r : Region). length r.entries) here in
    let end : (region (relist m es b) m).end ≡ (region b m).end = ap (λ (r : Region). r.end) here in
    owned_top (relist_owned o es h) ssp (omega arith)

-- after the region that it left got its token back
pub released_top : {t m s : ℕ} {es : List Entry} {b : Book} (l : Linked t m s es b) → Shape (unlink m s es Parked b) → AtTop t (unlink m s es Parked b) (top (region b m) + 8)
released_top {t = t} {m = m} {s = s} {es = es} {b = b} l h =
    let here = unlink_here l Parked in
    let o : Owned t m (unlink m s es Parked b) = record { shape = h; current = ap (λ (r : Region). r.holder) here ∙ l.owned.current } in
    let long : length (region (unlink m s es Parked b) m).entries ≡ length es = ap (λ (r : Region). length r.entries) here in
    let end : (region (unlink m s es Parked b) m).end ≡ (region b m).end = ap (λ (r : Region). r.end) here in
    let was : length (region b m).entries ≡ suc (length es) = ap (λ (l : List Entry). length l) l.entries in
    let room = (l.owned.shape.fits m).room in
    owned_top o (top (region b m) + 8) (omega arith)

pub removal_top : {t m : ℕ} {b next : Book} → Owned t m b → Removal t m b next → AtTop t next (top (region b m) + 8)
removal_top {t = t} {m = m} {b = b} o r =
    let s = shortened o r in
    let end = s.same.end m in
    let fewer = s.fewer in
    let room = (o.shape.fits m).room in
    owned_top s.owned (top (region b m) + 8) (omega arith)

pub raised_top : (t m n : ℕ) (b next : Book) → Owned t m b → raised m n b ≡ Some next → AtTop t next (top (region b m) + 8 * n)
raised_top t m n b next o e =
    let s = raised_shortened t m n b next o e in
    let end = s.same.end m in
    let fewer = s.fewer in
    let room = (o.shape.fits m).room in
    owned_top s.owned (top (region b m) + 8 * n) (omega arith)

-- after a token at p was taken
pub acquired_top : {t m q : ℕ} {b : Book} (k : Takes t m q b) → Shape (acquire t m q b) → (p : ℕ) → top (region b q) ≡ p + 8 → AtTop t (acquire t m q b) p
acquired_top {t = t} {m = m} {q = q} {b = b} k h p at =
    let taken = acquire_taken k in
    let o : Owned t q (acquire t m q b) = record { shape = h; current = ap (λ (r : Region). r.holder) taken } in
    let long : length (region (acquire t m q b) q).entries ≡ suc (length (region b q).entries) = ap (λ (r : Region). length r.entries) taken in
    let end : (region (acquire t m q b) q).end ≡ (region b q).end = ap (λ (r : Region). r.end) taken in
    owned_top o p (omega arith)

-- a child is born onto an empty region
pub born_top : {t s : ℕ} {b : Book} (m : Made t s b) (child : ℕ) → Shape (hand s (region b s).entries (Current child) b) → AtTop child (hand s (region b s).entries (Current child) b) (region b s).end
born_top {s = s} {b = b} m child h =
    let here = hand_here (bears m child) in
    let o : Owned child s (hand s (region b s).entries (Current child) b) = record { shape = h; current = ap (λ (r : Region). r.holder) here } in
    let none : length (region b s).entries ≡ 0 = ap (λ (l : List Entry). length l) (made_empty m) in
    let long : length (region (hand s (region b s).entries (Current child) b) s).entries ≡ length (region b s).entries = ap (λ (r : Region). length r.entries) here in
    let end : (region (hand s (region b s).entries (Current child) b) s).end ≡ (region b s).end = ap (λ (r : Region). r.end) here in
    owned_top o (region b s).end (omega arith)
