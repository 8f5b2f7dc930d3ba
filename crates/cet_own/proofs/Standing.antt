-- Where a thread stands on its shadow stack, and that other threads leave it there. Source: own.
use Rattle.std.proofs.Common.{ℕ, ◌∙◌, arith}
use Rattle.cet_book.specs.Book.{Book, current_of}
use Rattle.cet_book.specs.Shape.{Shape}
use Rattle.cet_book.proofs.Top.{top_relies}
use Rattle.cet_own.specs.Facts.{HasMade}
use Rattle.cet_book.specs.Relied.{Relies, AtTop, Free}
use Rattle.cet_own.specs.Claims.{Stacked, AtRest, HasNone}

pub stacked : (t : ℕ) (b : Book) (ssp : ℕ) → Shape b → AtTop t b ssp → Stacked t b ssp
stacked t b ssp s a =
    let bounds = s.bounds (current_of t b) a.has in
    let room = (s.fits (current_of t b)).room in
    let at = a.at in
    let low = bounds.low in
    let high = bounds.high in
    record { top = a; low = omega arith; high = omega arith }

module _ {t : ℕ} {b now : Book} (r : Relies t b now) where
  pub stacked_kept : {ssp : ℕ} → Stacked t b ssp → Stacked t now ssp
  stacked_kept s = record { top = top_relies r s.top; low = s.low; high = s.high }

  pub free_kept : Free t b → Free t now
  free_kept f k e = f k (r.free k e)

  pub rest_kept : {ssp : ℕ} → AtRest t b ssp → AtRest t now ssp
  rest_kept a = record { stacked = stacked_kept a.stacked; free = free_kept a.free }

  pub none_kept : HasNone t b → HasNone t now
  none_kept h = record { regions = r.none h.regions; free = free_kept h.free }

pub has_made_kept : {y made : ℕ} {b now : Book} → Relies y b now → HasMade made b → HasMade made now
has_made_kept r p = record {
  number = p.number;
  there = let g = r.grows in let l = p.there in omega arith;
  first = r.start p.number p.there ∙ p.first;
  last = r.end p.number p.there ∙ p.last;
}
