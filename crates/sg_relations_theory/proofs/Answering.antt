-- From the law of relations to the three answers.
--   Law                 the product of the powers of the alphas and of new is r(k + 1)/r(k) up to its sign exactly where each column of exponents is sent to 0
--   whole_narrow        whole vectors in the null space of the columns that are 0 at new are 0, where the alphas are independent
--   answer_free         Free, where the null space is 0
--   answer_expressed    Expressed, where the primitive vector has 1 at new and holds with the sign 1
--   answer_dependent    Dependent, where the primitive vector has more than 1 at new and holds with the sign 1
--   answer_twice        Dependent with twice the primitive vector, where it holds with the sign -1
use Rattle.std.proofs.Common.{◌≡◌, ℕ, zero, suc, ◌<◌, ◌≤◌, refl, sym, subst, ap, ap₂, ◌∙◌, List, [], ◌∷◌, ◌++◌, length, ◌⊎◌, inl, inr, ◌↔◌, ℤ, pos, negsuc, ◌+ℤ◌, ◌*ℤ◌, ◌<ℤ◌, arith}
use Rattle.std.proofs.lemmas.Int.{ints}
use Rattle.sg_algebra.specs.Ring.{Field}
use Rattle.sg_algebra.specs.Coefficients.{Each}
use Rattle.sg_algebra.proofs.Solver.{ring, reads}
use Rattle.sg_algebra.proofs.Value.{Value, neg_value}
use Rattle.sg_algebra.proofs.ValueField.{ValueR, ValueF}
use Rattle.sg_algebra.proofs.ShiftValue.{shift_valueH}
use Rattle.sg_tower_theory.specs.Powers.{powers}
use Rattle.sg_relations_theory.specs.Rows.{multiple_row}
use Rattle.sg_relations_theory.specs.Relations.{Holds, AllZero, OnlyZeros, Expresses, Relates}
use Rattle.sg_relations_theory.proofs.PowerLaws.{Some}
use Rattle.sg_relations_theory.proofs.Multiples.{twice_holds, twice_shortest, expressed, powers-last}
use Rattle.sg_relations_theory.proofs.SignLaw.{Ratio, SignRatio, holds_ratio, ratio_holds, is_ratio, no_minus_one}
use Rattle.sg_relations_theory.proofs.NullVectors.{dot, number_at}

-- ---- Lists and vectors

abbrev pub listed : ℕ → (ℕ → ℤ) → List ℤ
listed zero x = []
listed (suc n) x = x 0 ∷ listed n (λ i. x (suc i))

length-listed : (n : ℕ) (x : ℕ → ℤ) → length (listed n x) ≡ n
length-listed zero x = refl
length-listed (suc n) x = ap suc (length-listed n (λ i. x (suc i)))

listed-at : (n : ℕ) (x : ℕ → ℤ) (i : ℕ) → i < n → number_at (listed n x) i ≡ x i
listed-at zero x i l = absurd (omega arith)
listed-at (suc n) x zero l = refl
listed-at (suc n) x (suc i) l = listed-at n (λ i. x (suc i)) i (omega arith)

listed-last : (n : ℕ) (x : ℕ → ℤ) → listed (suc n) x ≡ listed n x ++ x n ∷ []
listed-last zero x = refl
listed-last (suc n) x = ap (λ r. x 0 ∷ r) (listed-last n (λ i. x (suc i)))

zero-listed : (n : ℕ) (x : ℕ → ℤ) → AllZero (listed n x) → (i : ℕ) → i < n → x i ≡ pos 0
zero-listed zero x h i l = absurd (omega arith)
zero-listed (suc n) x h zero l = h.0
zero-listed (suc n) x h (suc i) l = zero-listed n (λ i. x (suc i)) h.1 i (omega arith)

dot-same : (c : List ℤ) (x y : ℕ → ℤ) → ((i : ℕ) → i < length c → x i ≡ y i) → dot c x ≡ dot c y
dot-same [] x y h = refl
dot-same (c ∷ cs) x y h = ap₂ (λ a b. c *ℤ a +ℤ b) (h 0 (omega arith)) (dot-same cs (λ i. x (suc i)) (λ i. y (suc i)) (λ i l. h (suc i) (omega arith)))

all_zero : (es : List ℤ) → ((i : ℕ) → i < length es → number_at es i ≡ pos 0) → AllZero es
all_zero [] h = tt
all_zero (e ∷ es) h = (h 0 (omega arith), all_zero es (λ i l. h (suc i) (omega arith)))

halves : (es : List ℤ) → AllZero (multiple_row (pos 2) es) → AllZero es
halves [] h = tt
halves (e ∷ es) h = (half e h.0, halves es h.1)
  where
    half : (e : ℤ) → pos 2 *ℤ e ≡ pos 0 → e ≡ pos 0
    half e h = omega (arith, ints)

length-multiple : (t : ℤ) (es : List ℤ) → length (multiple_row t es) ≡ length es
length-multiple t [] = refl
length-multiple t (e ∷ es) = ap suc (length-multiple t es)

multiple-at : (t : ℤ) (es : List ℤ) (i : ℕ) → i < length es → number_at (multiple_row t es) i ≡ t *ℤ number_at es i
multiple-at t [] i l = absurd (omega arith)
multiple-at t (e ∷ es) zero l = refl
multiple-at t (e ∷ es) (suc i) l = multiple-at t es i (omega arith)

last-at : (es : List ℤ) (x : ℤ) → number_at (es ++ x ∷ []) (length es) ≡ x
last-at [] x = refl
last-at (e ∷ es) x = last-at es x

-- ---- The answers

module _ (d : ℕ) (alphas : List (Value (suc d))) (new : Value (suc d)) (some_alphas : Each (Some (ValueF (suc d))) alphas) (some_all : Each (Some (ValueF (suc d))) (alphas ++ new ∷ []))
    (independent : OnlyZeros alphas) (cols : List (List ℤ)) (widths : Each (λ c. length c ≡ suc (length alphas)) cols) where
  abbrev K : Field
  K = ValueF (suc d)

  abbrev P : List ℤ → Value (suc d)
  P es = powers K (alphas ++ new ∷ []) es

  abbrev pub Sends : (ℕ → ℤ) → Type 0
  Sends x = Each (λ c. dot c x ≡ pos 0) cols

  abbrev pub Law : Type 0
  Law = (es : List ℤ) → length es ≡ suc (length alphas) → SignRatio d (powers K (alphas ++ new ∷ []) es) ↔ Sends (number_at es)

  sends-listed : (x : ℕ → ℤ) → Sends x → Sends (number_at (listed (suc (length alphas)) x))
  sends-listed x h = go cols widths h
    where
      go : (cols : List (List ℤ)) → Each (λ c. length c ≡ suc (length alphas)) cols → Each (λ c. dot c x ≡ pos 0) cols → Each (λ c. dot c (number_at (listed (suc (length alphas)) x)) ≡ pos 0) cols
      go [] w h = tt
      go (c ∷ cols) w h = (dot-same c (number_at (listed (suc (length alphas)) x)) x (λ i l. listed-at (suc (length alphas)) x i (rw (w.0) at l)) ∙ h.0, go cols w.1 h.1)

  module _ (law : Law) where
    only_alphas : (es : List ℤ) → length es ≡ length alphas → P (es ++ pos 0 ∷ []) ≡ powers K alphas es
    only_alphas es l = powers-last K (shift_valueH d) alphas new es (pos 0) l ∙ ring (ValueR (suc d)) (powers K alphas es ∷ []) (search reads depth 12) refl

    alphas_zero : (es : List ℤ) → length es ≡ length alphas → SignRatio d (powers K alphas es) → AllZero es
    alphas_zero es l (inl h) = independent.only_zero es l (ratio_holds d alphas es h)
    alphas_zero es l (inr h) = halves es (independent.only_zero (multiple_row (pos 2) es) (length-multiple (pos 2) es ∙ l) (ratio_holds d alphas (multiple_row (pos 2) es) (twice_holds K (shift_valueH d) alphas some_alphas es h)))

    pub whole_narrow : (x : ℕ → ℤ) → Sends x → x (length alphas) ≡ pos 0 → (i : ℕ) → i ≤ length alphas → x i ≡ pos 0
    whole_narrow x h z i l = go (two i (length alphas) l)
      where
        two : (i n : ℕ) → i ≤ n → (i ≡ n) ⊎ (i < n)
        two i n l = grind arith

        zeros : AllZero (listed (length alphas) x)
        zeros = alphas_zero (listed (length alphas) x) (length-listed (length alphas) x)
            (subst (λ y. SignRatio d y) (ap P (listed-last (length alphas) x ∙ ap (λ e. listed (length alphas) x ++ e ∷ []) z) ∙ only_alphas (listed (length alphas) x) (length-listed (length alphas) x))
            ((law (listed (suc (length alphas)) x) (length-listed (suc (length alphas)) x)).1 (sends-listed x h)))

        go : (i ≡ length alphas) ⊎ (i < length alphas) → x i ≡ pos 0
        go (inl e) = ap x e ∙ z
        go (inr q) = zero-listed (length alphas) x zeros i q

    length-join : (xs : List (Value (suc d))) → length (xs ++ new ∷ []) ≡ suc (length xs)
    length-join [] = refl
    length-join (x ∷ xs) = ap suc (length-join xs)

    pub answer_free : ((x : ℕ → ℤ) → Sends x → (i : ℕ) → i ≤ length alphas → x i ≡ pos 0) → OnlyZeros (alphas ++ new ∷ [])
    answer_free none = record { only_zero = λ es l h. all_zero es (λ i k. none (number_at es) ((law es (l ∙ length-join alphas)).0 (inl (holds_ratio d (alphas ++ new ∷ []) es h))) i (at_most es i (l ∙ length-join alphas) k)) }
      where
        at_most : (es : List ℤ) (i : ℕ) → length es ≡ suc (length alphas) → i < length es → i ≤ length alphas
        at_most es i l k = omega arith

    pub answer_expressed : (es : List ℤ) → length es ≡ length alphas → (r : Ratio d (P (es ++ pos 1 ∷ []))) → Expresses alphas new (multiple_row (negsuc 0) es) r.r
    answer_expressed es l r = record { sized = length-multiple (negsuc 0) es ∙ l; some = r.some; is = expressed K (shift_valueH d) alphas new es some_alphas l r }

    -- whatever whole vector is in the null space is a multiple of e
    module _ (es : List ℤ) (l : length es ≡ suc (length alphas)) (generates : (x : ℕ → ℤ) → Sends x → (t : ℤ) × ((i : ℕ) → i ≤ length alphas → x i ≡ t *ℤ number_at es i)) where
      same_rows : (fs gs : List ℤ) → length fs ≡ length gs → ((i : ℕ) → i < length fs → number_at fs i ≡ number_at gs i) → fs ≡ gs
      same_rows [] [] e h = refl
      same_rows [] (g ∷ gs) e h = absurd (omega arith)
      same_rows (f ∷ fs) [] e h = absurd (omega arith)
      same_rows (f ∷ fs) (g ∷ gs) e h = ap₂ ◌∷◌ (h 0 (omega arith)) (same_rows fs gs (omega arith) (λ i k. h (suc i) (omega arith)))

      multiple : (fs : List ℤ) → length fs ≡ suc (length alphas) → SignRatio d (P fs) → (t : ℤ) × (fs ≡ multiple_row t es)
      multiple fs k h =
          let g = generates (number_at fs) ((law fs k).0 h) in
          (g.0, same_rows fs (multiple_row g.0 es) (k ∙ sym l ∙ sym (length-multiple g.0 es)) (λ i q. g.1 i (within i fs k q) ∙ sym (multiple-at g.0 es i (inside i fs k q))))
        where
          within : (i : ℕ) (fs : List ℤ) → length fs ≡ suc (length alphas) → i < length fs → i ≤ length alphas
          within i fs k q = omega arith

          inside : (i : ℕ) (fs : List ℤ) → length fs ≡ suc (length alphas) → i < length fs → i < length es
          inside i fs k q = omega (arith, l)

      pub answer_dependent : pos 1 <ℤ number_at es (length alphas) → (r : Ratio d (P es)) → Relates alphas new es r.r
      answer_dependent big r = record {
        sized = l;
        above_one = big;
        is = is_ratio d (P es) r;
        shortest = λ fs k h. multiple fs k (inl (holds_ratio d (alphas ++ new ∷ []) fs h));
      }

      pub answer_twice : pos 0 <ℤ number_at es (length alphas) → Ratio d (neg_value (P es)) → (r : Ratio d (P (multiple_row (pos 2) es))) → Relates alphas new (multiple_row (pos 2) es) r.r
      answer_twice big h r = record {
        sized = length-multiple (pos 2) es ∙ l;
        above_one = subst (λ (z : ℤ). pos 1 <ℤ z) (sym (multiple-at (pos 2) es (length alphas) (omega (arith, l)))) (double (number_at es (length alphas)) big);
        is = is_ratio d (P (multiple_row (pos 2) es)) r;
        shortest = shortest;
      }
        where
          double : (z : ℤ) → pos 0 <ℤ z → pos 1 <ℤ (pos 2 *ℤ z)
          double z h = omega (arith, ints)

          shortest : (fs : List ℤ) → length fs ≡ suc (length alphas) → Holds (alphas ++ new ∷ []) fs → (t : ℤ) × (fs ≡ multiple_row t (multiple_row (pos 2) es))
          shortest fs k q =
              let m = multiple fs k (inl (holds_ratio d (alphas ++ new ∷ []) fs q)) in
              let s = twice_shortest K (shift_valueH d) (alphas ++ new ∷ []) some_all es (no_minus_one d) h m.0 (subst (λ (e : List ℤ). Ratio d (P e)) m.1 (holds_ratio d (alphas ++ new ∷ []) fs q)) in
              (s.0, m.1 ∙ s.1)
