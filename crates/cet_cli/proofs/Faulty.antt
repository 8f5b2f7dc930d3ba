-- The first faulty word of a list, for any grammar.
use Rattle.std.proofs.Common.{ℕ, ◌+◌, ◌<◌, ◌≤◌, ◌≡◌, List, [], ◌++◌, length, take, drop, sym, subst, inl, inr, refl, arith, append_assoc, append-nil}
use Rattle.std.proofs.lemmas.Bool.{cases_lt}
use Rattle.std.proofs.lemmas.List.{take-append-drop, take-take}
use Rattle.cet_cli.specs.Grammar.{Begins, FaultyWord}

module _ (Accepted : List (List ℕ) → Type 0) where
  -- what a list begins with, an accepted list does too
  begins_front : (front back : List (List ℕ)) → Begins Accepted (front ++ back) → Begins Accepted front
  begins_front front back (rest, is) = (back ++ rest, subst Accepted (append_assoc front back rest) is)

  begins_take : (words : List (List ℕ)) (n : ℕ) → Begins Accepted words → Begins Accepted (take n words)
  begins_take words n b = begins_front (take n words) (drop n words) (subst (Begins Accepted) (sym (take-append-drop n words)) b)

  begins_fewer : (words : List (List ℕ)) (m n : ℕ) → n ≤ m → Begins Accepted (take m words) → Begins Accepted (take n words)
  begins_fewer words m n l b = subst (Begins Accepted) (take-take n m words l) (begins_take (take m words) n b)

  pub accepted_begins : (words : List (List ℕ)) → Accepted words → Begins Accepted words
  accepted_begins words is = ([], subst Accepted (sym (append-nil words)) is)

  -- accepted lists begin with so many words, and not with the next too
  pub faulty_here : (words : List (List ℕ)) (m : ℕ) → m < length words → Begins Accepted (take m words) → ¬ Begins Accepted (take (m + 1) words) → FaultyWord Accepted words (m + 1)
  faulty_here words m l b stop = record {
    refused = λ is. stop (begins_take words (m + 1) (accepted_begins words is));
    before = λ n k. begins_fewer words m n (omega arith) b;
    here = inl (omega arith, stop);
  }

  -- words are missing
  pub faulty_after : (words : List (List ℕ)) → ¬ Accepted words → Begins Accepted words → FaultyWord Accepted words (length words + 1)
  faulty_after words refuse b = record {
    refused = refuse;
    before = λ n k. begins_take words n b;
    here = inr refl;
  }

-- the same by another name of the accepted lists
pub faulty_same_lists : (A B : List (List ℕ) → Type 0) (words : List (List ℕ)) (number : ℕ) → ((l : List (List ℕ)) → A l → B l) → ((l : List (List ℕ)) → B l → A l) → FaultyWord A words number →
    FaultyWord B words number
faulty_same_lists A B words number to from f = record {
  refused = λ is. f.refused (from words is);
  before = λ n l. (let b = f.before n l in (b.0, to _ b.1));
  here = elim f.here [ inl h ↦ inl (h.0, λ b. h.1 (b.0, from _ b.1)) | inr e ↦ inr e ];
}

-- a faulty word is the only one
faulty_below : (A : List (List ℕ) → Type 0) (words : List (List ℕ)) (j k : ℕ) → FaultyWord A words j → FaultyWord A words k → j < k → ⊥
faulty_below A words j k f g l = elim f.here [
  | inl h ↦ h.1 (g.before j l)
  | inr e ↦ elim g.here [ inl h ↦ (let m = h.0 in omega arith) | inr e' ↦ omega arith ]
]

pub faulty_same : (A : List (List ℕ) → Type 0) (words : List (List ℕ)) (j k : ℕ) → FaultyWord A words j → FaultyWord A words k → j ≡ k
faulty_same A words j k f g = elim (cases_lt j k) [
  | inl l ↦ absurd (faulty_below A words j k f g l)
  | inr m ↦ elim (cases_lt k j) [ inl l ↦ absurd (faulty_below A words k j g f l) | inr n ↦ omega arith ]
]
