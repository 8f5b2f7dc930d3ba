-- A region is claimed: it stands after the others. Source: own.
use Rattle.std.proofs.Common.{◌≡◌, ◌≢◌, ℕ, ◌+◌, ◌-◌, ◌<◌, ◌≤◌, ◌⊎◌, inl, inr, true, false, List, [], ◌∷◌, ◌++◌, length, refl, sym, ◌∙◌, ap, subst, eqb, arith, length-append}
use Rattle.std.specs.Prelude.{not, nat_lt}
use Rattle.std.proofs.lemmas.Bool.{cases_lt}
use Rattle.std.proofs.lemmas.Bool.Decides.{eqb_tells, nat_tests}
use Rattle.std.proofs.lemmas.List.{get_or_past, get_or_append_left}
use Rattle.std.proofs.lemmas.List.Folds.{position_or_len_push}
use Rattle.std.proofs.lemmas.List.Sums.{prefix_len-le-length}
use Rattle.std.proofs.Math.Seq.{get_or-append_seam}
use Rattle.cet_words.specs.Layout.{shadow_start}
use Rattle.cet_book.specs.declared.entries.Entry.{Entry}
use Rattle.cet_book.specs.declared.entries.Holder.TheVariants.{Maker, Current, Parked, Lost}
use Rattle.cet_book.specs.Book.{Region, Book, nowhere, region, is_current, current_of, last_end}
use Rattle.cet_book.specs.Facts.{Bounds, is_left, one, links}
use Rattle.cet_book.specs.Shape.{HolderFits, Fits, Shape}
use Rattle.cet_book.proofs.Edits.{is_there}

-- the book with one more region
abbrev pub append : Region → Book → Book
append r b = record b { regions = b.regions ++ r ∷ [] }

-- a new region has no entries, and is being made or lost
pub record Appends (r : Region) (b : Book) : Type 0 where
  pub shape : Shape b
  pub empty : r.entries ≡ []
  pub holder : ((t : ℕ) × (r.holder ≡ Maker t)) ⊎ (r.holder ≡ Lost)

module _ {r : Region} {b : Book} (a : Appends r b) where
  pub append_length : length (append r b).regions ≡ length b.regions + 1
  append_length = length-append b.regions (r ∷ [])

  pub append_old : (i : ℕ) → i ≢ length b.regions → region (append r b) i ≡ region b i
  append_old i n = elim (cases_lt i (length b.regions)) [
    | inl l ↦ get_or_append_left b.regions (r ∷ []) nowhere i l
    | inr g ↦
        let past : length (append r b).regions ≤ i = (let e = append_length in omega arith) in
        get_or_past (b.regions ++ r ∷ []) i nowhere past ∙ sym (get_or_past b.regions i nowhere g)
  ]

  pub append_new : region (append r b) (length b.regions) ≡ r
  append_new = get_or-append_seam b.regions r [] nowhere

  pub append_all : (P : ℕ → Region → Type 0) → P (length b.regions) r → ((i : ℕ) → i ≢ length b.regions → P i (region b i)) → (i : ℕ) → P i (region (append r b) i)
  append_all P new old i = elim (eqb_tells i (length b.regions)) [
    | inl e ↦ subst (λ j. P j (region (append r b) j)) (sym e.1) (subst (P (length b.regions)) (sym append_new) new)
    | inr e ↦ subst (P i) (sym (append_old i e.1)) (old i e.1)
  ]

  pub nowhere_there : region b (length b.regions) ≡ nowhere
  nowhere_there = get_or_past b.regions (length b.regions) nowhere (omega arith)

  new_left : (q : ℕ) → is_left q r.holder ≡ false
  new_left q = elim a.holder [ inl m ↦ ap (is_left q) m.1 | inr e ↦ ap (is_left q) e ]

  new_current : (y : ℕ) → is_current y r.holder ≡ false
  new_current y = elim a.holder [ inl m ↦ ap (is_current y) m.1 | inr e ↦ ap (is_current y) e ]

  new_not : (y : ℕ) → r.holder ≢ Current y
  new_not y e = elim a.holder [ inl m ↦ (let q = m.1 in cc) | inr u ↦ cc ]

  pub new_not_parked : r.holder ≢ Parked
  new_not_parked e = elim a.holder [ inl m ↦ (let q = m.1 in cc) | inr u ↦ cc ]

  append_left : (q i : ℕ) → is_left q (region (append r b) i).holder ≡ is_left q (region b i).holder
  append_left q = append_all (λ i x. is_left q x.holder ≡ is_left q (region b i).holder)
      (new_left q ∙ sym (ap (λ (x : Region). is_left q x.holder) nowhere_there)) (λ i n. refl)

  -- the region of a thread that has one stays
  pub append_current : (y : ℕ) → current_of y b < length b.regions → current_of y (append r b) ≡ current_of y b
  unfolding current_of
  append_current y inside =
      let n : current_of y b ≢ length b.regions = omega arith in
      let f : eqb (current_of y b) (length b.regions) ≡ false = grind (arith, nat_tests) in
      position_or_len_push (λ r. is_current y r.holder) b.regions r ∙ rw f refl

  -- and the new one comes to nobody
  pub append_none : (y : ℕ) → length b.regions ≤ current_of y b → length (append r b).regions ≤ current_of y (append r b)
  unfolding current_of
  append_none y none =
      let most : current_of y b ≤ length b.regions = prefix_len-le-length (λ r. not (is_current y r.holder)) b.regions in
      let n : current_of y b ≡ length b.regions = omega arith in
      let f : eqb (current_of y b) (length b.regions) ≡ true = grind (arith, nat_tests) in
      let c = new_current y in
      let e : current_of y (append r b) ≡ length b.regions + 1 = position_or_len_push (λ r. is_current y r.holder) b.regions r ∙ rw (f, c) refl in
      let l = append_length in
      omega arith

  pub append_shape : Bounds r.start r.end → ((i : ℕ) → (region b i).end < r.start) → Shape (append r b)
  append_shape bounds above = record {
    bounds = λ i inside. elim (eqb_tells i (length b.regions)) [
      | inl e ↦
          subst (λ j. Bounds (region (append r b) j).start (region (append r b) j).end) (sym e.1)
          (subst (λ (x : Region). Bounds x.start x.end) (sym append_new) bounds)
      | inr e ↦
          let old : i < length b.regions = (let l = append_length in let n = e.1 in omega arith) in
          subst (λ (x : Region). Bounds x.start x.end) (sym (append_old i e.1)) (a.shape.bounds i old)
    ];
    fits = append_all (λ i x. Fits x)
        (record {
          room = (let e : length r.entries ≡ 0 = ap (λ (l : List Entry). length l) a.empty in let f = bounds.full in omega arith);
          held = elim a.holder [ inl m ↦ subst (HolderFits r) (sym m.1) a.empty | inr e ↦ subst (HolderFits r) (sym e) tt ];
        })
        (λ i n. a.shape.fits i);
    apart = λ i j order inside.
        let l = append_length in
        let old_i = append_old i (omega arith) in
        elim (eqb_tells j (length b.regions)) [
          | inl e ↦ subst (λ k. (region (append r b) i).end < (region (append r b) k).start) (sym e.1) (rw (old_i, append_new) (above i))
          | inr e ↦
              let old : j < length b.regions = (let n = e.1 in omega arith) in
              let apart = a.shape.apart i j order old in
              rw (old_i, append_old j e.1) apart
        ];
    alone = λ y. append_all (λ i x. x.holder ≡ Current y → current_of y (append r b) ≡ i) (λ e. absurd (new_not y e))
        (λ i n e. let m = a.shape.alone y i e in let l = is_there b i (λ z. cc) in append_current y (omega arith) ∙ m);
    chain = λ q s.
        rw (append_left q s)
        (append_all (λ q x. links s x.entries ≡ one (is_left q (region b s).holder))
        (ap (links s) a.empty ∙ sym (ap (λ (x : Region). links s x.entries) nowhere_there) ∙ a.shape.chain (length b.regions) s)
        (λ q n. a.shape.chain q s) q);
  }

-- the last region's end, where there is one
last_end_is : (b : Book) → 0 < length b.regions → last_end b ≡ (region b (length b.regions - 1)).end
last_end_is b l = let some : nat_lt 0 (length b.regions) ≡ true = grind (arith, nat_tests) in rw some refl

pub last_end_low : (b : Book) → Shape b → shadow_start ≤ last_end b
last_end_low b h = elim (cases_lt 0 (length b.regions)) [
  | inl l ↦
      let inside : length b.regions - 1 < length b.regions = omega arith in
      let bounds = h.bounds (length b.regions - 1) inside in
      let low = bounds.low in
      let full = bounds.full in
      let is = last_end_is b l in
      omega arith
  | inr g ↦ let none : nat_lt 0 (length b.regions) ≡ false = grind (arith, nat_tests) in rw none (omega arith)
]

-- every region ends at or below the last one's end
pub end_le_last : (b : Book) → Shape b → (i : ℕ) → (region b i).end ≤ last_end b
end_le_last b h i = elim (cases_lt i (length b.regions)) [
  | inr past ↦ let e : (region b i).end ≡ 0 = ap (λ (x : Region). x.end) (get_or_past b.regions i nowhere past) in omega arith
  | inl inside ↦
      let is = last_end_is b (omega arith) in
      elim (cases_lt (i + 1) (length b.regions)) [
        | inl l ↦
            let order : i < length b.regions - 1 = omega arith in
            let there : length b.regions - 1 < length b.regions = omega arith in
            let apart = h.apart i (length b.regions - 1) order there in
            let full = (h.bounds (length b.regions - 1) there).full in
            omega arith
        | inr g ↦
            let e : i ≡ length b.regions - 1 = omega arith in
            let same : (region b i).end ≡ (region b (length b.regions - 1)).end = ap (λ j. (region b j).end) e in
            omega arith
      ]
]
