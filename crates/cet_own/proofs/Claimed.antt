-- A draw on the counter of shadow pages: a region is claimed, or the draw fails and the counter stays raised. Source: own.
use Rattle.cet_own.proofs.Still.{tells_below, not_below}
use Rattle.std.proofs.Common.{◌≡◌, ℕ, ◌+◌, ◌-◌, ◌*◌, ◌%◌, ◌^◌, ◌<◌, ◌≤◌, inl, inr, Bool, true, false, List, [], ◌∷◌, length, refl, sym, ◌∙◌, ap, subst, arith, get_or-set_same}
use Rattle.std.specs.Prelude.{nat_lt, slice_index, slice_set}
use Rattle.std.proofs.lemmas.Bool.{cases_lt}
use Rattle.std.proofs.lemmas.Bool.Decides.{nat_tests}
use Rattle.cet_words.specs.Access.{answer, after}
use Rattle.cet_words.specs.Change.{Change, Claimed}
use Rattle.cet_words.specs.Job.{ImageData}
use Rattle.cet_words.specs.Layout.{first_shadow_page, shadow_start, word_count}
use Rattle.cet_words.specs.declared.accesses.Access.{Access}
use Rattle.cet_words.specs.declared.accesses.Access.TheVariants as access
use Rattle.cet_book.specs.Book.{Book, Region, region, top, claim, last_end}
use Rattle.cet_book.specs.Facts.{IsParkedAt, LiesIn, Stack, links}
use Rattle.cet_book.specs.Shape.{Shape}
use Rattle.cet_book.specs.Stack.{slot_word, tops}
use Rattle.cet_book.specs.declared.entries.Holder.TheVariants.{Lost, Parked}
use Rattle.cet_book.proofs.Acquire.{unlinked}
use Rattle.cet_book.proofs.Append.{append, Appends, append_all, append_old, nowhere_there, new_not_parked}
use Rattle.cet_book.proofs.Cases.{CanClaim}
use Rattle.cet_book.proofs.Edits.{is_there}
use Rattle.cet_book.proofs.Kept.{claims}
use Rattle.cet_book.proofs.Ways.{claimed_way}
use Rattle.cet_page.specs.Script.{birth}
use Rattle.cet_page.specs.Trail.{Visit}
use Rattle.cet_own.specs.Past.{draw_word, drew}
use Rattle.cet_own.specs.Facts.{OwnWord, own_slot, below_token}
use Rattle.cet_own.specs.Class.{class_at}
use Rattle.cet_own.specs.declared.access_classes.Class.TheVariants as class
use Rattle.cet_own.proofs.Changed.{Spares, changed}
use Rattle.cet_own.proofs.Classes.{Spared, word_other, keeps_restorers}
use Rattle.cet_own.specs.Claims.{draws_pages}
use Rattle.cet_own.specs.Holds.{InUse, Marks, Sound, Holds}
use Rattle.cet_own.proofs.Kept.{ending_out, restorers_out, size_kept, lists_out, pages_out, gates_out, gates_same}
use Rattle.cet_own.proofs.Marks.{parked_place}
use Rattle.cet_own.proofs.Fits.{of_class, none_of, is_claim}
use Rattle.cet_own.proofs.HeldAfter.{notes_gate}
use Rattle.cet_own.specs.Owed.{Owed}
use Rattle.cet_own.proofs.Writes.{in_there, list_kept, slot_out}
use Rattle.cet_book.proofs.Changes.{same_book}

-- the counter is no thread's own
draw_other : (words : List ℕ) (y x w : ℕ) (b : Book) → OwnWord y b w → slice_index (slice_set words draw_word x) w ≡ slice_index words w
draw_other words y x w b (own_slot addr p o e) = let high = p.high in word_other words draw_word x w (λ z. omega arith)
draw_other words y x w b (below_token k l h e) = word_other words draw_word x w (λ z. omega arith)

lies_there : (b : Book) (i page : ℕ) → LiesIn (region b i) page → i < length b.regions
lies_there b i page l =
    let lo = l.low in
    let hi = l.high in
    in_there b i (shadow_start + 4096 * (page - first_shadow_page)) (record { low = lo; high = omega arith })

-- ---- the counter alone

-- it grows
pub marks_drawn : (words : List ℕ) (b : Book) (x : ℕ) → length words ≡ word_count → slice_index words draw_word ≤ x → Shape b → Marks words b → Marks (slice_set words draw_word x) b
marks_drawn words b x size more s h = record {
  parked = λ i e. slot_out words draw_word (top (region b i) - 8) x (inr (omega arith)) (parked_place b i s e).0 ∙ h.parked i e;
  token = λ p pp e. h.token p pp (sym (slot_out words draw_word p x (inr (omega arith)) pp) ∙ e);
  zeros = λ p pp n. h.zeros p pp (λ e. n (slot_out words draw_word p x (inr (omega arith)) pp ∙ e));
  drawn = λ i.
      let inside : draw_word < length words = omega arith in
      let now = get_or-set_same words draw_word x 0 inside in
      let d = h.drawn i in
      omega arith;
}

pub holds_drawn : (image : ImageData) (words : List ℕ) (b : Book) (x : ℕ) → slice_index words draw_word ≤ x → Holds image words b → Holds image (slice_set words draw_word x) b
holds_drawn image words b x more h = record {
  size = size_kept words draw_word x h.size;
  sound = h.sound;
  stacks = lists_out words b draw_word x h.sound.book.shape (inr (omega arith)) h.stacks;
  pages = pages_out image words b draw_word x (omega arith) h.pages;
  gates = gates_out words b draw_word x (λ j l. omega arith) h.gates;
  restorers = restorers_out image words draw_word x (inl (omega arith)) h.restorers;
  marks = marks_drawn words b x h.size more h.sound.book.shape h.marks;
  ending = ending_out words draw_word x (omega arith) h.ending;
}

-- ---- the book with the new region

module _ {r : Region} {b : Book} (a : Appends r b) where
  -- nobody has a Previous of it
  none_new : (i : ℕ) → links (length b.regions) (region b i).entries ≡ 0
  none_new i = unlinked (length b.regions) i Lost a.shape (ap (λ (x : Region). x.holder) (nowhere_there a)) refl

  -- it lay in no region before, so its words are 0
  pub holds_append : (image : ImageData) (words : List ℕ) → r.end ≤ shadow_start + 4096 * slice_index words draw_word → Sound (append r b) → Holds image words b → Holds image words (append r b)
  holds_append image words drawn sound h =
      let old : (i : ℕ) → Stack words (tops (append r b)) (top (region b i)) (region b i).entries = λ i.
      list_kept words words b (append r b) (length b.regions) i a.shape none_new (λ s n. ap (λ (x : Region). top x) (append_old a s n)) (λ x lo hi even. refl) (h.stacks i) in
      record {
        size = h.size;
        sound = sound;
        stacks = append_all a (λ i x. Stack words (tops (append r b)) (top x) x.entries)
            (subst (λ es. Stack words (tops (append r b)) (r.end - 8 * length es) es) (sym a.empty) tt) (λ i n. old i);
        pages = record {
          entries = h.pages.entries;
          fixed = h.pages.fixed;
          shadow = λ page lo hi n.
              let l = h.pages.shadow page lo hi n in
              let there = lies_there b l.0 page l.1 in
              (l.0, subst (λ (x : Region). LiesIn x page) (sym (append_old a l.0 (omega arith))) l.1);
        };
        gates = gates_same words b (append r b) refl h.gates;
        restorers = h.restorers;
        ending = h.ending;
        marks = record {
          parked = append_all a (λ i x. x.holder ≡ Parked → slot_word words (top x - 8) ≡ top x + 1) (λ e. absurd (new_not_parked a e)) (λ i n e. h.marks.parked i e);
          token = λ p pp e.
              let k = h.marks.token p pp e in
              let there = is_there b k.0 (λ z. (let c = k.1.parked in cc)) in
              (k.0, subst (IsParkedAt p) (sym (append_old a k.0 (omega arith))) k.1);
          zeros = λ p pp n.
              let k = h.marks.zeros p pp n in
              let there = in_there b k.0 p k.1.inside in
              (k.0, subst (λ (x : Region). InUse x p) (sym (append_old a k.0 (omega arith))) k.1);
          drawn = append_all a (λ i x. x.end ≤ shadow_start + 4096 * slice_index words draw_word) drawn (λ i n. h.marks.drawn i);
        };
      }

-- ---- the two classes

-- the last region ends at or below the pages drawn
last_drawn : (b : Book) (v : ℕ) → ((i : ℕ) → (region b i).end ≤ shadow_start + 4096 * v) → last_end b ≤ shadow_start + 4096 * v
last_drawn b v drawn = elim (cases_lt 0 (length b.regions)) [
  | inl l ↦ let some : nat_lt 0 (length b.regions) ≡ true = grind (arith, nat_tests) in rw some (drawn (length b.regions - 1))
  | inr g ↦ let none : nat_lt 0 (length b.regions) ≡ false = grind (arith, nat_tests) in rw none (omega arith)
]

-- what a draw can claim
pub draw_can_claim : (b : Book) (v pages : ℕ) → ((i : ℕ) → (region b i).end ≤ shadow_start + 4096 * v) → 1 ≤ pages → v + pages + 1 ≤ 1023 → CanClaim (shadow_start + 4096 * (v + 1)) pages b
draw_can_claim b v pages drawn least fits = let l = last_drawn b v drawn in record { least = least; most = omega arith; aligned = omega arith; above = omega arith; high = omega arith }

module _ {image : ImageData} {t k : ℕ} {past : List Visit} {b : Book} {a : Access} {v : ℕ} {changes : List Change} where
  pub draws : (pages : ℕ) (maker : Bool) → a ≡ access.FetchAdd draw_word (pages + 1) → 1 ≤ pages → v + pages + 1 ≤ 1023 → drew past ≡ false →
      changes ≡ Claimed (shadow_start + 4096 * (v + 1)) pages maker ∷ [] → Owed image t k past b a v changes
  draws pages maker e least fits once ev =
      changed (Claimed (shadow_start + 4096 * (v + 1)) pages maker) (append (claim t (shadow_start + 4096 * (v + 1)) pages maker) b) ev tt
      (λ words is h ssp held stands note. of_class class.Claim (Claimed (shadow_start + 4096 * (v + 1)) pages maker ∷ []) ev refl (ap (λ c. class_at c ssp held v) e ∙ is_claim (pages + 1) ssp v held))
      (λ words is h. draws_pages (pages + 1) (omega arith) e once (ap birth ev))
      (λ words is h. tells_below t b v e (λ j l. not_below draw_word j (λ z. omega arith)) (λ j l. refl))
      (λ words is h. notes_gate v e ev (λ held. refl) (λ held j q. inl q))
      (λ words is h. claimed_way t (shadow_start + 4096 * (v + 1)) pages maker b (draw_can_claim b v pages (drawn words is h) least fits))
      (λ words is h sound.
      let here = found words is in
      let new : (slice_index words draw_word + (pages + 1)) % 2 ^ 64 ≡ v + pages + 1 = omega arith in
      let mid = holds_drawn image words b (v + pages + 1) (omega arith) h in
      let inside : draw_word < length words = (let size = h.size in omega arith) in
      let now = get_or-set_same words draw_word (v + pages + 1) 0 inside in
      subst (λ c. Holds image (after words c) (append (claim t (shadow_start + 4096 * (v + 1)) pages maker) b) × Spares t b words (after words c)) (sym e)
      (subst (λ n. Holds image (slice_set words draw_word n) (append (claim t (shadow_start + 4096 * (v + 1)) pages maker) b) × Spares t b words (slice_set words draw_word n)) (sym new) (
        holds_append (claims t (shadow_start + 4096 * (v + 1)) pages maker b h.sound.book.shape) image (slice_set words draw_word (v + pages + 1)) (omega arith) sound mid,
        record { own = λ y n w own. draw_other words y (v + pages + 1) w b own; restorers = keeps_restorers words draw_word (v + pages + 1) (inl (omega arith)) },
      )))
    where
      found : (words : List ℕ) → v ≡ answer words a → slice_index words draw_word ≡ v
      found words is = sym (is ∙ ap (answer words) e)

      drawn : (words : List ℕ) → v ≡ answer words a → Holds image words b → (i : ℕ) → (region b i).end ≤ shadow_start + 4096 * v
      drawn words is h i = let d = h.marks.drawn i in let f = found words is in omega arith

  -- no region is claimed
  pub overdraws : (n : ℕ) → a ≡ access.FetchAdd draw_word n → n ≤ 1023 → v + n < 2 ^ 64 → drew past ≡ false → changes ≡ [] → Owed image t k past b a v changes
  overdraws n e most few once ev = record {
    counts = λ words is h. draws_pages n most e once (ap birth ev);
    below = λ words is h. tells_below t b v e (λ j l. not_below draw_word j (λ z. omega arith)) (λ j l. refl);
    notes = λ words is h. notes_gate v e ev (λ held. refl) (λ held j q. inl q);
    fits = λ words is h ssp held stands note. none_of _ ev;
    keeps = λ words next is h still q. subst (Holds image (after words a)) (same_book t b next changes ev q) (does words is h).0;
    spares = λ words is h y u w own. (does words is h).1.own y w own;
    restorers = λ words is h. (does words is h).1.restorers;
  }
    where
      does : (words : List ℕ) → v ≡ answer words a → Holds image words b → Holds image (after words a) b × Spared b words (after words a)
      does words is h =
          let here : slice_index words draw_word ≡ v = sym (is ∙ ap (answer words) e) in
          let new : (slice_index words draw_word + n) % 2 ^ 64 ≡ v + n = omega arith in
          subst (λ c. Holds image (after words c) b × Spared b words (after words c)) (sym e)
          (subst (λ x. Holds image (slice_set words draw_word x) b × Spared b words (slice_set words draw_word x)) (sym new) (
            holds_drawn image words b (v + n) (omega arith) h,
            record { own = λ y w own. draw_other words y (v + n) w b own; restorers = keeps_restorers words draw_word (v + n) (inl (omega arith)) },
          ))
