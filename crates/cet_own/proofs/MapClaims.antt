-- What a thread claims of map_shadow_stack. Source: own.
use Rattle.std.proofs.Common.{zero, suc, ◌≡◌, ◌≢◌, ℕ, ◌+◌, ◌-◌, ◌*◌, ◌/◌, ◌%◌, ◌^◌, ◌<◌, ◌≤◌, Bool, true, false, ◌&&◌, ◌||◌, List}
use Rattle.std.proofs.Common.{[], ◌∷◌, length, replicate, Option, Some, None, refl, sym, ◌∙◌, ap, subst, arith}
use Rattle.std.specs.Prelude.{◌==◌, if◌then◌else◌, nat_lt, nat_le}
use Rattle.std.proofs.lemmas.Bool.{false≢true}
use Rattle.std.proofs.lemmas.Bool.Decides.{nat_tests}
use Rattle.cet_words.specs.Change.{Claimed, Seeded}
use Rattle.cet_words.specs.Entries.{entry_of, shadow_entry}
use Rattle.cet_words.specs.Job.{JobData, ImageData}
use Rattle.cet_words.specs.Layout.{draw_shadow_word, entry_word, first_kernel_page, first_shadow_page, first_stack_page, page_up, shadow_start, token_word, most_stack_pages, pages_of}
use Rattle.cet_words.specs.declared.accesses.Access.TheVariants as access
use Rattle.cet_isa.specs.declared.threads.Arch.{Arch}
use Rattle.cet_book.specs.Book.{Book, Region, region, top, claim, current_of, is_current}
use Rattle.cet_book.specs.Facts.{LiesIn, Owns}
use Rattle.cet_book.specs.Stack.{slot}
use Rattle.cet_book.specs.declared.entries.Entry.TheVariants.{Blank}
use Rattle.cet_book.specs.declared.entries.Holder.TheVariants.{Current, Maker, Parked}
use Rattle.cet_book.proofs.Append.{append, append_length, append_new}
use Rattle.cet_book.proofs.Edits.{current_holds}
use Rattle.cet_book.proofs.Hand.{hand, Made, seeds, hand_same, hand_other, hand_current}
use Rattle.cet_book.proofs.Kept.{claims}
use Rattle.cet_book.proofs.Relies.{append_relies}
use Rattle.cet_book.specs.Relied.{Relies, AtTop}
use Rattle.cet_book.proofs.Ways.{claimed_way, seeded_way}
use Rattle.cet_page.specs.Finish.{rdi, rdx, rsi}
use Rattle.cet_page.specs.Gate.{Work, failed}
use Rattle.cet_page.specs.MapShadowStack.{can_draw, claimed, claimed_if, draw_stack, drawn_page, drawn_start, fill_stack, map_by, map_shadow_stack, refused, seed_if, seed_word}
use Rattle.cet_page.specs.Parts.{fetch_add_as, store_as, stores}
use Rattle.cet_page.specs.Script.{done, ◌>>=◌}
use Rattle.cet_page.specs.Tokens.{restore_token}
use Rattle.cet_page.specs.Trail.{Visit, visit}
use Rattle.cet_page.specs.declared.services.Errno.{Errno}
use Rattle.cet_page.specs.declared.services.Errno.TheVariants as errno
use Rattle.cet_own.specs.Past.{draw_word, drew, left_in}
use Rattle.cet_own.specs.Safe.{IsElsewhere}
use Rattle.cet_own.specs.Threads.{Ends}
use Rattle.cet_own.proofs.Claimed.{draws, overdraws, draw_can_claim}
use Rattle.cet_own.proofs.Classes.{makes_page}
use Rattle.cet_own.proofs.GateParts.{gate_out_then}
use Rattle.cet_own.proofs.KernelParts.{counted_by, Leaves, Within, failed_claim}
use Rattle.cet_own.proofs.TokenWords.{restore_token_is}
use Rattle.cet_own.specs.Owed.{State, state_after, Known, Owed, own_stack}
use Rattle.cet_own.proofs.Parts.{Claim, one_after, claim_bind}
use Rattle.cet_own.proofs.Places.{shadow_slot}
use Rattle.cet_own.proofs.Progress.{Progress, progress, untouched}
use Rattle.cet_own.proofs.Resting.{Inside, inside_kept, inside_left, inside_stacked, rested}
use Rattle.cet_own.proofs.Seeded.{seeds_region}

-- the one present entry of a page of the shadow area
shadow_entry_is : (image : ImageData) (page : ℕ) → first_shadow_page ≤ page → page < first_kernel_page → entry_of image page ≡ shadow_entry page
unfolding entry_of
shadow_entry_is image page lo hi =
    let a : nat_lt page first_stack_page ≡ false = grind (arith, nat_tests) in
    let b : nat_lt page first_shadow_page ≡ false = grind (arith, nat_tests) in
    let c : nat_lt page first_kernel_page ≡ true = grind (arith, nat_tests) in
    rw (a, b, c) refl

-- region i was drawn, and where it gets a token the thread makes it
pub record Begun (t i start end : ℕ) (maker : Bool) (b : Book) : Type 0 where
  pub there : i < length b.regions
  pub first : (region b i).start ≡ start
  pub last : (region b i).end ≡ end
  pub holder : maker ≡ true → (region b i).holder ≡ Maker t

pub begun_kept : {t i start end : ℕ} {maker : Bool} {b now : Book} → Relies t b now → Begun t i start end maker b → Begun t i start end maker now
begun_kept {t = t} {i = i} {b = b} {now = now} r g = record {
  there = let l = g.there in let more = r.grows in omega arith;
  first = r.start i g.there ∙ g.first;
  last = r.end i g.there ∙ g.last;
  holder = λ m.
      let h = g.holder m in
      ap (λ (q : Region). q.holder) (r.kept i (subst (Owns t) (sym h) refl)) ∙ h;
}

-- the thread's own region doesn't see that another one is seeded
seeded_top : {t s : ℕ} {b : Book} {ssp : ℕ} (m : Made t s b) (n : ℕ) → AtTop t b ssp → AtTop t (hand s (replicate n Blank) Parked b) ssp
seeded_top {t = t} {s = s} {b = b} m n a =
    let cur = hand_current (seeds m n) t (ap (is_current t) m.maker) refl in
    let same = hand_same (seeds m n) in
    let apart : current_of t b ≢ s = λ z. (let c = current_holds t b a.has in let d : (region b s).holder ≡ Current t = subst (λ j. (region b j).holder ≡ Current t) z c in let e = m.maker in cc) in
    let other = hand_other (seeds m n) (current_of t b) apart in
    record {
      has = let e = same.len in let l = a.has in omega arith;
      at = a.at ∙ sym (ap (λ i. top (region (hand s (replicate n Blank) Parked b) i)) cur ∙ ap (λ (r : Region). top r) other);
      aligned = a.aligned;
    }

-- what the tests of the call leave: the size is no more than that of the most pages, and one with a token is of whole words
record Fits (size flags : ℕ) : Type 0 where
  some : 1 ≤ size
  most : pages_of size ≤ most_stack_pages
  asked : (flags == 1) ≡ true → (8 ≤ size) × (size % 8 ≡ 0)

or_none : (p q : Bool) → (p || q) ≡ false → (p ≡ false) × (q ≡ false)
or_none true q e = absurd (false≢true (sym e))
or_none false q e = (refl, e)

and_none : (p q : Bool) → (p && q) ≡ false → p ≡ true → q ≡ false
and_none true q e f = e
and_none false q e f = absurd (false≢true f)

-- a test that found no error
passed : (c : Bool) (e : Errno) (o : Option Errno) → (if c then Some e else o) ≡ None → (c ≡ false) × (o ≡ None)
passed true e o n = cc
passed false e o n = (refl, n)

fits : (address size flags : ℕ) → refused address size flags ≡ None → Fits size flags
fits address size flags e =
    let flag = passed (nat_lt 1 flags) errno.Inval _ e in
    let short = passed (flags == 1 && nat_lt size 8) errno.NoSpc _ flag.1 in
    let low = passed (nat_lt 0 address && nat_lt address (2 ^ 32)) errno.Range _ short.1 in
    let wraps = passed (nat_le (2 ^ 64) (page_up size)) errno.Overflow _ low.1 in
    let odd = passed (size == 0 || (flags == 1 && nat_lt 0 (size % 8))) errno.Inval _ wraps.1 in
    let placed = passed (nat_lt 0 address) errno.Exist _ odd.1 in
    let many = (passed (nat_lt most_stack_pages (pages_of size)) errno.NoMem None placed.1).0 in
    let two = or_none (size == 0) (flags == 1 && nat_lt 0 (size % 8)) odd.0 in
    let some : (size == 0) ≡ false = two.0 in
    record {
      some = grind (arith, nat_tests);
      most = grind (arith, nat_tests);
      asked = λ c. (
        (let a : nat_lt size 8 ≡ false = and_none (flags == 1) (nat_lt size 8) short.0 c in grind (arith, nat_tests)),
        (let a : nat_lt 0 (size % 8) ≡ false = and_none (flags == 1) (nat_lt 0 (size % 8)) two.1 c in grind (arith, nat_tests)),
      );
    }

module _ (job : JobData) (arch : Arch) (l : own_stack job arch.number < 8) (free : IsElsewhere job arch) where
  abbrev pub gate : ℕ
  gate = own_stack job arch.number

  -- the thread is in the kernel, and its row has drawn pages
  abbrev pub Drawing : List Visit → State → Type 0
  Drawing past s = Within job arch l (counted_by true false) past s

  claimed_claim : (past : List Visit) (before s : State) (start size : ℕ) → Drawing past s → Leaves job arch l past before s (claimed arch start size)
  claimed_claim past before s start size within = gate_out_then job arch l (Ends job arch) past before s _ within (λ p z n rest. (rested rest, λ held now. free, tt))

  -- the token
  token_claim : (past : List Visit) (before s : State) (i start size : ℕ) → 8 ≤ size → size % 8 ≡ 0 → Drawing past s → Begun arch.number i start (start + 4096 * pages_of size) true s.book →
      Claim job arch (Leaves job arch l) past before s (store_as (Seeded start ((4096 * pages_of size - size) / 8) ∷ []) (seed_word start size) (restore_token (start + size)) >>=
      (λ _. done (claimed arch start size)))
  unfolding store_as
  token_claim past before s i start size least even within begun =
      claim_bind job arch (Leaves job arch l) past before s (store_as (Seeded start ((4096 * pages_of size - size) / 8) ∷ []) (seed_word start size) (restore_token (start + size))) _ (
        inside_stacked within,
        λ now r known.
            let within1 = inside_kept r within in
            let begun1 = begun_kept r begun in
            let shape = known.sound.book.shape in
            let bounds = shape.bounds i begun1.there in
            let low = bounds.low in
            let high = bounds.high in
            let aligned = bounds.first in
            let at_start = begun1.first in
            let at_end = begun1.last in
            let maker = begun1.holder refl in
            let m : Made arch.number i now.book = record { shape = shape; maker = maker } in
            let value : restore_token (start + size) ≡ start + size - 8 + 9 = restore_token_is (start + size) (omega arith) ∙ omega arith in
            let word : seed_word start size ≡ slot (start + size - 8) = shadow_slot (start + size - 8) (omega arith) (omega arith) in
            let way = seeded_way m ((4096 * pages_of size - size) / 8) start at_start (omega arith) in
            let top' = seeded_top m ((4096 * pages_of size - size) / 8) within1.stacked.top in
            let apart : (seed_word start size == token_word gate - 1) ≡ false = (let n : seed_word start size ≢ token_word gate - 1 = omega arith in grind (arith, nat_tests)) in
            let within2 : Inside arch.number gate (counted_by true false) (progress past) (left_in past (token_word gate - 1)) (hand i (replicate ((4096 * pages_of size - size) / 8) Blank) Parked now.book) arch.ssp
            = record { stacked = record { top = top'; low = within1.stacked.low; high = within1.stacked.high }; holds = within1.holds; level = within1.level; settled = within1.settled; alone = within1.alone } in (
              seeds_region i ((4096 * pages_of size - size) / 8) (start + size - 8) start maker at_start (omega arith) (omega arith) within1.holds
                  (ap (λ n. access.Store n (restore_token (start + size))) word ∙ ap (access.Store (slot (start + size - 8))) value) refl,
              record now { book = hand i (replicate ((4096 * pages_of size - size) / 8) Blank) Parked now.book },
              one_after arch.number now (hand i (replicate ((4096 * pages_of size - size) / 8) Blank) Parked now.book) (Seeded start ((4096 * pages_of size - size) / 8)) way,
              claimed_claim _ now (record now { book = hand i (replicate ((4096 * pages_of size - size) / 8) Blank) Parked now.book }) start size (inside_left (rw apart refl) within2),
            ),
      )

  seed_claim : (past : List Visit) (before s : State) (i start size : ℕ) (token : Bool) → (token ≡ true → (8 ≤ size) × (size % 8 ≡ 0)) → Drawing past s →
      Begun arch.number i start (start + 4096 * pages_of size) token s.book → Claim job arch (Leaves job arch l) past before s (seed_if start size (pages_of size) token >>=
      (λ _. done (claimed arch start size)))
  unfolding ◌>>=◌
  seed_claim past before s i start size true asked within begun = (let a = asked refl in token_claim past before s i start size a.0 a.1 within begun)
  seed_claim past before s i start size false asked within begun = claimed_claim past before s start size within

  -- the entries of the region's pages, the lowest first
  pub entries_claim : (Q : List Visit → State → State → Unit {0} → Type 0) (past : List Visit) (before s : State) (count page word value i start end : ℕ) (maker : Bool) → word ≡ entry_word page →
      value ≡ shadow_entry page → start ≤ shadow_start + 4096 * (page - first_shadow_page) → first_shadow_page ≤ page → shadow_start + 4096 * (page - first_shadow_page + count) ≤ end →
      end ≤ 0x2003ff000 → Drawing past s → Begun arch.number i start end maker s.book → ((p : List Visit) (z n : State) → Drawing p n → Begun arch.number i start end maker n.book → Q p z n tt) →
      Claim job arch Q past before s (stores count word value 4096)
  unfolding stores
  entries_claim Q past before s zero page word value i start end maker e v lo first hi most within begun h = h past before s within begun
  entries_claim Q past before s (suc count) page word value i start end maker e v lo first hi most within begun h = (
    inside_stacked within,
    λ now r known.
        let within1 = inside_kept r within in
        let begun1 = begun_kept r begun in
        let at_start = begun1.first in
        let at_end = begun1.last in
        let lies : LiesIn (region now.book i) page = record { low = omega arith; high = omega arith } in
        let entry : value ≡ entry_of job.image page = v ∙ sym (shadow_entry_is job.image page first (omega arith)) in
        let apart : (word == token_word gate - 1) ≡ false = (let n : word ≢ token_word gate - 1 = omega arith in grind (arith, nat_tests)) in (
          makes_page page i (ap (λ w. access.Store w value) e ∙ ap (access.Store (entry_word page)) entry) first (omega arith) lies refl,
          now,
          refl,
          entries_claim Q _ now now count (page + 1) (word + 1) (value + 4096) i start end maker (omega arith) (omega arith) (omega arith) (omega arith) (omega arith) most (inside_left (rw apart refl) within1) begun1 h,
        ),
  )

  fill_claim : (past : List Visit) (before s : State) (i d size : ℕ) (token : Bool) → 1 ≤ size → (token ≡ true → (8 ≤ size) × (size % 8 ≡ 0)) → d + pages_of size + 1 ≤ 1023 → Drawing past s →
      Begun arch.number i (drawn_start d) (drawn_start d + 4096 * pages_of size) token s.book → Claim job arch (Leaves job arch l) past before s (fill_stack arch d size (pages_of size) token)
  unfolding fill_stack
  fill_claim past before s i d size token least asked room within begun =
      claim_bind job arch (Leaves job arch l) past before s (stores (pages_of size) (entry_word (drawn_page d)) (shadow_entry (drawn_page d)) 4096) _
      (entries_claim (λ p z n _. Claim job arch (Leaves job arch l) p z n (seed_if (drawn_start d) size (pages_of size) token >>= (λ _. done (claimed arch (drawn_start d) size))))
      past before s (pages_of size) (drawn_page d) (entry_word (drawn_page d)) (shadow_entry (drawn_page d)) i (drawn_start d) (drawn_start d + 4096 * pages_of size) token refl refl (omega arith)
      (omega arith) (omega arith) (omega arith) within begun
      (λ p z n within1 begun1. seed_claim p z n i (drawn_start d) size token asked within1 begun1))

  -- from the draw on the row has drawn
  draws_on : {now : Progress} {left : Option ℕ} {b : Book} → Inside arch.number gate untouched now left b arch.ssp →
      Inside arch.number gate (counted_by true false) (record { framed = now.framed; drawing = true; numbering = now.numbering }) left b arch.ssp
  draws_on i = record { stacked = i.stacked; holds = i.holds; level = ap (λ (x : Progress). record { framed = x.framed; drawing = true; numbering = x.numbering }) i.level; settled = i.settled; alone = i.alone }

  -- by whether there is room for so many pages
  drawn_claim : (past : List Visit) (now : State) (pages : ℕ) (token : Bool) (fill : ℕ → Work) (d : ℕ) → 1 ≤ pages → pages ≤ most_stack_pages →
      Known job.image arch.number past now.book (access.FetchAdd draw_word (pages + 1)) d → Within job arch l untouched past now →
      ((p : List Visit) (z n : State) (i d : ℕ) → d + pages + 1 ≤ 1023 → Drawing p n → Begun arch.number i (drawn_start d) (drawn_start d + 4096 * pages) token n.book →
      Claim job arch (Leaves job arch l) p z n (fill d)) → (c : Bool) → can_draw pages d ≡ c →
      Owed job.image arch.number gate past now.book (access.FetchAdd draw_word (pages + 1)) d (if c then Claimed (drawn_start d) pages token ∷ [] else []) × (later : State) ×
      (state_after arch.number now (if c then Claimed (drawn_start d) pages token ∷ [] else []) ≡ Some later) ×
      Claim job arch (Leaves job arch l) (visit (access.FetchAdd draw_word (pages + 1)) d (if c then Claimed (drawn_start d) pages token ∷ [] else []) ∷ past) now later
      (if c then fill d else done (failed arch errno.NoMem))
  drawn_claim past now pages token fill d least most known within h false e =
      let few = known.few (pages + 1) refl in
      let apart : (draw_word == token_word gate - 1) ≡ false = (let n : draw_word ≢ token_word gate - 1 = omega arith in grind (arith, nat_tests)) in
      let once : drew past ≡ false = ap (λ (x : Progress). x.drawing) within.level in
      (overdraws (pages + 1) refl (omega arith) (omega arith) once refl, now, refl, failed_claim job arch l {drawing = true} {numbering = false} _ now now errno.NoMem free (inside_left (rw apart refl) (draws_on within)))
  drawn_claim past now pages token fill d least most known within h true e =
      let room : d + pages + 1 ≤ 1023 = grind (arith, nat_tests) in
      let shape = known.sound.book.shape in
      let a = claims arch.number (drawn_start d) pages token now.book shape in
      let way = claimed_way arch.number (drawn_start d) pages token now.book (draw_can_claim now.book d pages (known.draw (pages + 1) refl) least room) in
      let r = append_relies a arch.number in
      let apart : (draw_word == token_word gate - 1) ≡ false = (let n : draw_word ≢ token_word gate - 1 = omega arith in grind (arith, nat_tests)) in
      let new = append_new a in
      let begun : Begun arch.number (length now.book.regions) (drawn_start d) (drawn_start d + 4096 * pages) token (append (claim arch.number (drawn_start d) pages token) now.book) = record {
        there = let n = append_length a in omega arith;
        first = ap (λ (q : Region). q.start) new;
        last = ap (λ (q : Region). q.end) new;
        holder = λ z. ap (λ (q : Region). q.holder) new ∙ rw z refl;
      } in (
        draws pages token refl least room (ap (λ (x : Progress). x.drawing) within.level) refl,
        record now { book = append (claim arch.number (drawn_start d) pages token) now.book },
        one_after arch.number now (append (claim arch.number (drawn_start d) pages token) now.book) (Claimed (drawn_start d) pages token) way,
        h _ now (record now { book = append (claim arch.number (drawn_start d) pages token) now.book }) (length now.book.regions) d room (inside_left (rw apart refl) (draws_on (inside_kept r within))) begun,
      )

  -- a draw of so many pages, and what fills the place
  pub draw_then : (past : List Visit) (before s : State) (pages : ℕ) (token : Bool) (fill : ℕ → Work) → 1 ≤ pages → pages ≤ most_stack_pages → Within job arch l untouched past s →
      ((p : List Visit) (z n : State) (i d : ℕ) → d + pages + 1 ≤ 1023 → Drawing p n → Begun arch.number i (drawn_start d) (drawn_start d + 4096 * pages) token n.book →
      Claim job arch (Leaves job arch l) p z n (fill d)) → Claim job arch (Leaves job arch l) past before s (fetch_add_as (claimed_if pages token) draw_shadow_word (pages + 1) >>=
      (λ d. if can_draw pages d then fill d else done (failed arch errno.NoMem)))
  unfolding fetch_add_as
  draw_then past before s pages token fill least most within h =
      claim_bind job arch (Leaves job arch l) past before s (fetch_add_as (claimed_if pages token) draw_shadow_word (pages + 1)) _ (
        inside_stacked within,
        λ now r d known. drawn_claim past now pages token fill d least most known (inside_kept r within) h (can_draw pages d) refl,
      )

  draw_claim : (past : List Visit) (before s : State) (size : ℕ) (token : Bool) → 1 ≤ size → pages_of size ≤ most_stack_pages → (token ≡ true → (8 ≤ size) × (size % 8 ≡ 0)) →
      Within job arch l untouched past s → Claim job arch (Leaves job arch l) past before s (draw_stack arch size (pages_of size) token)
  unfolding draw_stack
  draw_claim past before s size token least most asked within =
      draw_then past before s (pages_of size) token (λ d. fill_stack arch d size (pages_of size) token) (omega arith) most within
      (λ p z n i d room within1 begun. fill_claim p z n i d size token least asked room within1 begun)

  map_claim : (past : List Visit) (before s : State) (address size flags : ℕ) (o : Option Errno) → refused address size flags ≡ o → Within job arch l untouched past s →
      Claim job arch (Leaves job arch l) past before s (map_by arch size flags o)
  map_claim past before s address size flags (Some error) e within = failed_claim job arch l {drawing = false} {numbering = false} past before s error free within
  map_claim past before s address size flags None e within = (let f = fits address size flags e in draw_claim past before s size (flags == 1) f.some f.most f.asked within)

  pub map_shadow_stack_claim : (past : List Visit) (before s : State) → Within job arch l untouched past s → Claim job arch (Leaves job arch l) past before s (map_shadow_stack arch)
  map_shadow_stack_claim past before s within = map_claim past before s (rdi arch) (rsi arch) (rdx arch) _ refl within
