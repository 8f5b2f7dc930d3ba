-- A thread that was just born stands at the start of its first row. Source: own.
use Rattle.std.proofs.Common.{◌≡◌, ℕ, ◌+◌, [], Some, refl, ◌∙◌, subst, arith}
use Rattle.cet_words.specs.Job.{JobData, IsJob}
use Rattle.cet_isa.specs.declared.threads.Arch.{Arch}
use Rattle.cet_book.specs.declared.entries.Holder.TheVariants.{Current}
use Rattle.cet_book.specs.Book.{Book, region}
use Rattle.cet_book.proofs.Hand.{hand, Made, made_there, bears, born_shape, hand_same}
use Rattle.cet_book.specs.Shape.{Shape}
use Rattle.cet_book.proofs.Top.{born_top}
use Rattle.cet_page.specs.Core.{unheld, child_arch, child_core}
use Rattle.cet_page.specs.Machine.{Thread}
use Rattle.cet_page.specs.Within.{Waits}
use Rattle.cet_own.specs.Claims.{Bears, AtRest}
use Rattle.cet_page.specs.Trail.{trail_of}
use Rattle.cet_book.specs.Relied.{AtTop, Free}
use Rattle.cet_book.proofs.Held.{held_free}
use Rattle.cet_own.specs.Owed.{State}
use Rattle.cet_own.proofs.Rows.{row_claim}
use Rattle.cet_own.proofs.Standing.{stacked}
use Rattle.cet_own.specs.Facts.{HasMade}
use Rattle.cet_own.specs.Threads.{ThreadStands}
use Rattle.cet_words.specs.Layout.{thread_region_size}

-- thread x is new: it has made no access and no record, and has number y
pub record IsNewborn (job : JobData) (next : State) (y : ℕ) (x : Thread) : Type 0 where
  pub stands : ThreadStands job y next (Some x)
  pub trail : trail_of job x.core ≡ []
  pub count : x.core.arch.count ≡ 0
  pub made : HasMade x.core.arch.made next.book

module _ {t child s start : ℕ} {b : Book} (shape : Shape b) (h : Bears t child s start b) where
  making : Made t s b
  making = record { shape = shape; maker = h.maker }

  abbrev pub bore : Book
  bore = hand s (region b s).entries (Current child) b

  born_free : Free child bore
  born_free k e = h.none.free k e

  born_rest : AtRest child bore (start + thread_region_size)
  born_rest =
      let sound = born_shape making child h.none.regions in
      record { stacked = stacked child bore (start + thread_region_size) sound (subst (AtTop child bore) h.last (born_top making child sound)); free = born_free }

  born_made : HasMade start bore
  born_made =
      let same = hand_same (bears making child) in
      record {
        number = s;
        there = let e = same.len in let l = made_there making in omega arith;
        first = same.start s ∙ h.first;
        last = same.end s ∙ h.last;
      }

  pub newborn : (job : JobData) (j : IsJob job) (arch : Arch) (next : State) → bore ≡ next.book → Waits job (child_core arch child start) → IsNewborn job next child (record { core = child_core arch child start; trace = [] })
  newborn job j arch next is w = record {
    stands = (
      held_free child next.book (subst (Free child) is born_free),
      record {
        waits = w;
        number = refl;
        holding = refl;
        own = λ k e. cc;
        told = tt;
        before = next;
        left = row_claim job j (unheld (child_arch arch child start)) next next (record { number = w.state.number; made = w.state.made }) (subst (λ n. AtRest child n (start + thread_region_size)) is born_rest);
      },
    );
    trail = refl;
    count = refl;
    made = subst (HasMade start) is born_made;
  }
