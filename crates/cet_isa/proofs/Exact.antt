-- Readers that read exactly what a relation says, and how one follows another. Source: own.
use Rattle.std.proofs.Common.{◌≡◌, ◌≢◌, ℕ, List, [], ◌∷◌, ◌++◌, Result, Ok, Err, refl, sym, ap, subst, ◌∙◌, append_assoc}
use Rattle.cet_isa.specs.Reader.{Miss, Ends, Differs, ◌>>=◌, IsBytes}
use Rattle.cet_isa.proofs.ReaderLaws.{bind_ok, pair, pair_same, IsBytes-right}

-- what a reader took from the front
pub record Took {X : Type 0} (R : List ℕ → X → Type 0) (bytes rest : List ℕ) (x : X) : Type 0 where
  pub front : List ℕ
  pub whole : bytes ≡ front ++ rest
  pub means : R front x

-- how the bytes can go on
pub record GoesOn {X : Type 0} (R : List ℕ → X → Type 0) (bytes : List ℕ) : Type 0 where
  pub more : List ℕ
  pub some_more : more ≢ []
  pub value : X
  pub means : R (bytes ++ more) value

-- there is something to read
pub record Alive {X : Type 0} (R : List ℕ → X → Type 0) : Type 0 where
  pub text : List ℕ
  pub value : X
  pub means : R text value

-- The reader gives what the relation says, whatever follows; it ends where the bytes can go on to a text of the relation;
-- where it differs, more bytes don't mend it.
pub record Exact {X : Type 0} (p : List ℕ → Result (X × List ℕ) Miss) (R : List ℕ → X → Type 0) : Type 0 where
  pub sound : (bytes rest : List ℕ) (x : X) → IsBytes bytes → p bytes ≡ Ok (x, rest) → Took R bytes rest x
  pub complete : (front rest : List ℕ) (x : X) → R front x → p (front ++ rest) ≡ Ok (x, rest)
  pub ends : (bytes : List ℕ) → IsBytes bytes → p bytes ≡ Err Ends → GoesOn R bytes
  pub differs : (bytes more : List ℕ) → IsBytes bytes → p bytes ≡ Err Differs → p (bytes ++ more) ≡ Err Differs
  pub alive : Alive R

-- a miss is that of the first step or of the second
pub data Missed {A B : Type 0} (r : Result A Miss) (f : A → Result B Miss) (m : Miss) : Type 0 where
  at_first : r ≡ Err m → Missed r f m
  at_second : (x : A) → r ≡ Ok x → f x ≡ Err m → Missed r f m

pub bind_err : {A B : Type 0} (r : Result A Miss) (f : A → Result B Miss) (m : Miss) → (r >>= f) ≡ Err m → Missed r f m
bind_err (Ok x) f m e = at_second x refl e
bind_err (Err d) f m e = at_first cc

-- one thing after another
pub record Seq {X Y : Type 0} (R : List ℕ → X → Type 0) (S : X → List ℕ → Y → Type 0) (bytes : List ℕ) (y : Y) : Type 0 where
  pub front : List ℕ
  pub value : X
  pub back : List ℕ
  pub whole : bytes ≡ front ++ back
  pub first : R front value
  pub second : S value back y

nonempty-append : (xs ys : List ℕ) → xs ≢ [] → xs ++ ys ≢ []
nonempty-append [] ys h e = h refl
nonempty-append (x ∷ xs) ys h e = absurd cc

abbrev pub Chain : {X Y : Type 0} → (List ℕ → Result (X × List ℕ) Miss) → (X → List ℕ → Result (Y × List ℕ) Miss) → List ℕ → Result (Y × List ℕ) Miss
Chain p q bytes = p bytes >>= (λ r. q r.0 r.1)

module _ {X Y : Type 0} (p : List ℕ → Result (X × List ℕ) Miss) (q : X → List ℕ → Result (Y × List ℕ) Miss) (R : List ℕ → X → Type 0) (S : X → List ℕ → Y → Type 0) (P : Exact p R) (Q : (x : X) →
    Exact (q x) (S x)) where
  seq_sound : (bytes rest : List ℕ) (y : Y) → IsBytes bytes → Chain p q bytes ≡ Ok (y, rest) → Took (Seq R S) bytes rest y
  seq_sound bytes rest y fits e =
      let b = bind_ok (p bytes) (λ (r : X × List ℕ). q r.0 r.1) (y, rest) e in
      let t = P.sound bytes b.0.1 b.0.0 fits b.1 in
      let fits' : IsBytes b.0.1 = IsBytes-right t.front b.0.1 (subst IsBytes t.whole fits) in
      let u = (Q b.0.0).sound b.0.1 rest y fits' b.2 in
      record {
        front = t.front ++ u.front;
        whole = t.whole ∙ ap (λ (k : List ℕ). t.front ++ k) u.whole ∙ sym (append_assoc t.front u.front rest);
        means = record { front = t.front; value = b.0.0; back = u.front; whole = refl; first = t.means; second = u.means };
      }

  seq_complete : (front rest : List ℕ) (y : Y) → Seq R S front y → Chain p q (front ++ rest) ≡ Ok (y, rest)
  seq_complete front rest y s =
      let regroup : front ++ rest ≡ s.front ++ (s.back ++ rest) = ap (λ (k : List ℕ). k ++ rest) s.whole ∙ append_assoc s.front s.back rest in
      ap (Chain p q) regroup ∙ ap (λ (r : Result (X × List ℕ) Miss). r >>= (λ r. q r.0 r.1)) (P.complete s.front (s.back ++ rest) s.value s.first) ∙ (Q s.value).complete s.back rest y s.second

  seq_ends : (bytes : List ℕ) → IsBytes bytes → Chain p q bytes ≡ Err Ends → GoesOn (Seq R S) bytes
  seq_ends bytes fits e = go (bind_err (p bytes) (λ (r : X × List ℕ). q r.0 r.1) Ends e)
    where
      go : Missed (p bytes) (λ (r : X × List ℕ). q r.0 r.1) Ends → GoesOn (Seq R S) bytes
      go (at_first e1) =
          let g = P.ends bytes fits e1 in
          let a = (Q g.value).alive in
          record {
            more = g.more ++ a.text;
            some_more = nonempty-append g.more a.text g.some_more;
            value = a.value;
            means = record { front = bytes ++ g.more; value = g.value; back = a.text; whole = sym (append_assoc bytes g.more a.text); first = g.means; second = a.means };
          }
      go (at_second r e1 e2) =
          let t = P.sound bytes r.1 r.0 fits e1 in
          let fits' : IsBytes r.1 = IsBytes-right t.front r.1 (subst IsBytes t.whole fits) in
          let g = (Q r.0).ends r.1 fits' e2 in
          record {
            more = g.more;
            some_more = g.some_more;
            value = g.value;
            means = record { front = t.front; value = r.0; back = r.1 ++ g.more; whole = ap (λ (k : List ℕ). k ++ g.more) t.whole ∙ append_assoc t.front r.1 g.more; first = t.means; second = g.means };
          }

  seq_differs : (bytes more : List ℕ) → IsBytes bytes → Chain p q bytes ≡ Err Differs → Chain p q (bytes ++ more) ≡ Err Differs
  seq_differs bytes more fits e = go (bind_err (p bytes) (λ (r : X × List ℕ). q r.0 r.1) Differs e)
    where
      go : Missed (p bytes) (λ (r : X × List ℕ). q r.0 r.1) Differs → Chain p q (bytes ++ more) ≡ Err Differs
      go (at_first e1) = ap (λ (r : Result (X × List ℕ) Miss). r >>= (λ r. q r.0 r.1)) (P.differs bytes more fits e1)
      go (at_second r e1 e2) =
          let t = P.sound bytes r.1 r.0 fits e1 in
          let fits' : IsBytes r.1 = IsBytes-right t.front r.1 (subst IsBytes t.whole fits) in
          let regroup : bytes ++ more ≡ t.front ++ (r.1 ++ more) = ap (λ (k : List ℕ). k ++ more) t.whole ∙ append_assoc t.front r.1 more in
          ap (Chain p q) regroup ∙ ap (λ (r : Result (X × List ℕ) Miss). r >>= (λ r. q r.0 r.1)) (P.complete t.front (r.1 ++ more) r.0 t.means) ∙ (Q r.0).differs r.1 more fits' e2

  pub exact_seq : Exact (Chain p q) (Seq R S)
  exact_seq = record {
    sound = seq_sound;
    complete = seq_complete;
    ends = seq_ends;
    differs = seq_differs;
    alive =
        let a = P.alive in
        let b = (Q a.value).alive in
        record { text = a.text ++ b.text; value = b.value; means = record { front = a.text; value = a.value; back = b.text; whole = refl; first = a.means; second = b.means } };
  }

-- a reader of nothing
abbrev pub Done : {X : Type 0} → X → List ℕ → Result (X × List ℕ) Miss
Done x bytes = Ok (x, bytes)

abbrev pub Is : {X : Type 0} → X → List ℕ → X → Type 0
Is x bytes y = (bytes ≡ []) × (y ≡ x)

pub exact_done : {X : Type 0} (x : X) → Exact (Done x) (Is x)
exact_done {X} x = record {
  sound = λ bytes rest y fits e. record { front = []; whole = ap (λ (r : X × List ℕ). r.1) (same e); means = (refl, sym (ap (λ (r : X × List ℕ). r.0) (same e))) };
  complete = λ front rest y i. cc (i.0, i.1);
  ends = λ bytes fits e. absurd cc;
  differs = λ bytes more fits e. absurd cc;
  alive = record { text = []; value = x; means = (refl, refl) };
}
  where
    same : {a b : X × List ℕ} → (let r : Result (X × List ℕ) Miss = Ok a in r) ≡ Ok b → a ≡ b
    same e = cc

-- the same reader by another relation
pub exact_as : {X : Type 0} (p p' : List ℕ → Result (X × List ℕ) Miss) (R R' : List ℕ → X → Type 0) → Exact p R → ((bytes : List ℕ) → p' bytes ≡ p bytes) →
    ((bytes : List ℕ) (x : X) → R bytes x → R' bytes x) → ((bytes : List ℕ) (x : X) → R' bytes x → R bytes x) → Exact p' R'
exact_as p p' R R' P e to from = record {
  sound = λ bytes rest x fits h. let t = P.sound bytes rest x fits (sym (e bytes) ∙ h) in record { front = t.front; whole = t.whole; means = to t.front x t.means };
  complete = λ front rest x r. e (front ++ rest) ∙ P.complete front rest x (from front x r);
  ends = λ bytes fits h. let g = P.ends bytes fits (sym (e bytes) ∙ h) in record { more = g.more; some_more = g.some_more; value = g.value; means = to (bytes ++ g.more) g.value g.means };
  differs = λ bytes more fits h. e (bytes ++ more) ∙ P.differs bytes more fits (sym (e bytes) ∙ h);
  alive = record { text = P.alive.text; value = P.alive.value; means = to P.alive.text P.alive.value P.alive.means };
}

-- ---- a function of what was read
abbrev pub Mapped : {X Y : Type 0} → (X → Y) → (List ℕ → Result (X × List ℕ) Miss) → List ℕ → Result (Y × List ℕ) Miss
Mapped f p bytes = p bytes >>= (λ r. Ok (f r.0, r.1))

pub record Image {X Y : Type 0} (f : X → Y) (R : List ℕ → X → Type 0) (bytes : List ℕ) (y : Y) : Type 0 where
  pub value : X
  pub means : R bytes value
  pub same : y ≡ f value

pub exact_map : {X Y : Type 0} (f : X → Y) (p : List ℕ → Result (X × List ℕ) Miss) (R : List ℕ → X → Type 0) → Exact p R → Exact (Mapped f p) (Image f R)
exact_map {X} {Y} f p R P = record {
  sound = λ bytes rest y fits e.
      let b = bind_ok (p bytes) (λ (r : X × List ℕ). pair (f r.0) r.1) (y, rest) e in
      let t = P.sound bytes b.0.1 b.0.0 fits b.1 in
      let q = pair_same (f b.0.0) y b.0.1 rest b.2 in
      record { front = t.front; whole = t.whole ∙ ap (λ (k : List ℕ). t.front ++ k) q.1; means = record { value = b.0.0; means = t.means; same = sym q.0 } };
  complete = λ front rest y i. ap (λ (r : Result (X × List ℕ) Miss). r >>= (λ r. pair (f r.0) r.1)) (P.complete front rest i.value i.means) ∙ ap (λ (k : Y). pair k rest) (sym i.same);
  ends = λ bytes fits e. ends bytes fits (bind_err (p bytes) (λ (r : X × List ℕ). pair (f r.0) r.1) Ends e);
  differs = λ bytes more fits e. differs bytes more fits (bind_err (p bytes) (λ (r : X × List ℕ). pair (f r.0) r.1) Differs e);
  alive = record { text = P.alive.text; value = f P.alive.value; means = record { value = P.alive.value; means = P.alive.means; same = refl } };
}
  where
    ends : (bytes : List ℕ) → IsBytes bytes → Missed (p bytes) (λ (r : X × List ℕ). pair (f r.0) r.1) Ends → GoesOn (Image f R) bytes
    ends bytes fits (at_first e) = let g = P.ends bytes fits e in record { more = g.more; some_more = g.some_more; value = f g.value; means = record { value = g.value; means = g.means; same = refl } }
    ends bytes fits (at_second r e h) = absurd cc

    differs : (bytes more : List ℕ) → IsBytes bytes → Missed (p bytes) (λ (r : X × List ℕ). pair (f r.0) r.1) Differs → Mapped f p (bytes ++ more) ≡ Err Differs
    differs bytes more fits (at_first e) = ap (λ (r : Result (X × List ℕ) Miss). r >>= (λ r. pair (f r.0) r.1)) (P.differs bytes more fits e)
    differs bytes more fits (at_second r e h) = absurd cc
