-- Free, expressed and dependent: formally exactly where in values.
--   holds_of_match, match_of_holds    a match is a relation of the factors
--   free_exactly          a product is free over free ones exactly where it has no match
--   expressed_exactly     it is expressed exactly where it has a match in which it stands once
--   dependent_only        a dependent one is neither
--   first_or_none         no list has a first dependent product and none
use Rattle.std.proofs.Common.{◌≡◌, ◌≢◌, ℕ, zero, suc, ℤ, pos, negsuc, ◌<ℤ◌, refl, sym, ap, ◌∙◌, subst, List, [], ◌∷◌, ◌++◌, length, get_or, Bool, true, false, ◌⊎◌, inl, inr, ◌↔◌, arith}
use Rattle.std.proofs.lemmas.Int.{ints}
use Rattle.sg_algebra.specs.Coefficients.{Each}
use Rattle.sg_algebra.specs.Ring.{Ring, Field}
use Rattle.sg_algebra.proofs.Ring.{I_mul}
use Rattle.sg_algebra.proofs.Solver.{by, ring, scale, reads}
use Rattle.sg_algebra.proofs.Value.{Value, ◌*ᵛ◌, neg_value, one_value}
use Rattle.sg_algebra.proofs.ValueField.{ValueR, ValueF}
use Rattle.sg_spec.specs.Tree.{Tree, mul}
use Rattle.sg_worth_theory.proofs.Closes.{no_letter}
use Rattle.sg_algebra.proofs.ShiftValue.{shift_value, shift_valueH}
use Rattle.sg_tower_theory.proofs.Slices.{pairwise_length}
use Rattle.sg_tower_theory.specs.Powers.{power as power_in, powers}
use Rattle.sg_relations_theory.specs.Rows.{multiple_row}
use Rattle.sg_relations_theory.specs.Relations.{IsRatio, Holds, AllZero, OnlyZeros, Expresses, Relates}
use Rattle.sg_relations_theory.proofs.PowerLaws.{Some, powers_ne, powers-multiple}
use Rattle.sg_relations_theory.proofs.Multiples.{powers-last}
use Rattle.sg_relations_theory.proofs.Factors.{zero_each}
use Rattle.sg_relations_theory.proofs.Exclusive.{joined_exponents, expressed_not_related}
use Rattle.sg_answers_theory.specs.Matches.{Same, power_tree, powers_tree, IsRational, IsMatch, HasNoMatch, IsExpressedOver, IsDependentOver}
use Rattle.sg_answers_theory.proofs.AtParameters.{letter}
use Rattle.sg_answers_theory.proofs.Answers.{IsProductOf}
use Rattle.sg_answers_theory.proofs.Meeting.{Meet, meet_of_agree, agree_of_meet, meet_of_parameter, parameter_of_meet}
use Rattle.sg_answers_theory.proofs.Relating.{product_mul, product_power, powers_product, AreProducts, Relation, relation_of_meet}
use Rattle.sg_answers_theory.proofs.Matching.{Constants, meet_of_relation, fractions, functions}
use Rattle.sg_matches_theory.specs.Lists.{IsFirstDependent, NoneDependent}

-- ---- Lists

pub snoc : (n : ℕ) (es : List ℤ) → length es ≡ suc n → (fs : List ℤ) × (e : ℤ) × (es ≡ fs ++ e ∷ []) × (length fs ≡ n)
snoc n [] l = absurd (omega (arith, l))
snoc zero (e ∷ []) l = ([], e, refl, refl)
snoc zero (e ∷ (f ∷ es)) l = absurd (omega (arith, l))
snoc (suc n) (e ∷ es) l = let r = snoc n es (omega (arith, l)) in (e ∷ r.0, r.1, ap (λ (xs : List ℤ). e ∷ xs) r.2, ap suc r.3)

pub last-at : (fs : List ℤ) (e : ℤ) (n : ℕ) → length fs ≡ n → get_or (fs ++ e ∷ []) n (pos 0) ≡ e
last-at [] e zero l = refl
last-at [] e (suc n) l = absurd (omega (arith, l))
last-at (f ∷ fs) e zero l = absurd (omega (arith, l))
last-at (f ∷ fs) e (suc n) l = last-at fs e n (omega (arith, l))

pub length-snoc : {A : Type 0} (xs : List A) (x : A) (n : ℕ) → length xs ≡ n → length (xs ++ x ∷ []) ≡ suc n
length-snoc [] x n l = ap suc l
length-snoc (y ∷ xs) x zero l = absurd (omega (arith, l))
length-snoc (y ∷ xs) x (suc n) l = ap suc (length-snoc xs x n (omega (arith, l)))

-- the laws by which agreement of expressions is one of values
pub record Levels (parameter : Bool) : Type 0 where
  pub depth : ℕ
  pub here : Value depth
  pub to : (e g : Tree) → Same parameter e g → Meet here e g
  pub back : (e g : Tree) → Meet here e g → Same parameter e g
  pub constant : Constants here parameter

abbrev pub over_fractions : Levels false
over_fractions = record { depth = 0; here = no_letter; to = meet_of_agree; back = agree_of_meet; constant = fractions }

abbrev pub over_functions : Levels true
over_functions = record { depth = 1; here = letter; to = meet_of_parameter; back = parameter_of_meet; constant = functions }

module _ (parameter : Bool) (v : Levels parameter) (s : ℤ) (qs : List Tree) (αs : List (Value (suc v.depth))) (are : AreProducts v.here s qs αs) (p : Tree)
    (α : Value (suc v.depth)) (is : IsProductOf v.here s p α) where
  abbrev K : Field
  K = ValueF (suc v.depth)

  abbrev R : Ring
  R = ValueR (suc v.depth)

  abbrev shift : Value (suc v.depth) → Value (suc v.depth)
  shift x = shift_value v.depth x

  somes : (qs : List Tree) (αs : List (Value (suc v.depth))) → AreProducts v.here s qs αs → Each (Some K) αs
  somes [] [] h = tt
  somes [] (β ∷ βs) h = absurd h
  somes (q ∷ qs) [] h = absurd h
  somes (q ∷ qs) (β ∷ βs) h = (h.0.some, somes qs βs h.1)

  count : length qs ≡ length αs
  count = pairwise_length (IsProductOf v.here s) qs αs are

  abbrev tree : List ℤ → ℤ → Tree
  tree es e = mul (powers_tree qs es) (power_tree p e)

  abbrev factor : List ℤ → ℤ → Value (suc v.depth)
  factor es e = powers K αs es *ᵛ power_in K α e

  is-product : (es : List ℤ) (e : ℤ) → IsProductOf v.here s (tree es e) (factor es e)
  is-product es e = product_mul v.here s (powers_tree qs es) (power_tree p e) (powers K αs es) (power_in K α e) (powers_product v.here s qs αs es are) (product_power v.here s p α e is)

  -- ---- Matches and relations

  pub holds_of_match : (es : List ℤ) (e : ℤ) → IsMatch parameter qs p es e → Holds (αs ++ α ∷ []) (es ++ e ∷ [])
  holds_of_match es e m = go (relation_of_meet v.here s (tree es e) (factor es e) (is-product es e) parameter m.ratio m.rational (v.to (tree es e) m.ratio m.same))
    where
      go : Relation v.here (factor es e) → Holds (αs ++ α ∷ []) (es ++ e ∷ [])
      go r = (r.ratio, record { some = r.some; is = r.is ∙ ap (λ x. x *ᵛ r.ratio) (sym (powers-last K (shift_valueH v.depth) αs α es e (m.sized ∙ count))) })

  pub match_of_holds : (es : List ℤ) (e : ℤ) → length es ≡ length qs → e ≢ pos 0 → Holds (αs ++ α ∷ []) (es ++ e ∷ []) → IsMatch parameter qs p es e
  match_of_holds es e l n h = go (meet_of_relation v.here parameter v.constant s (tree es e) (factor es e) (is-product es e) relation)
    where
      relation : Relation v.here (factor es e)
      relation = record { ratio = h.0; some = h.1.some; is = h.1.is ∙ ap (λ x. x *ᵛ h.0) (powers-last K (shift_valueH v.depth) αs α es e (l ∙ count)) }

      go : (r : Tree) × IsRational parameter r × Meet v.here (tree es e) r → IsMatch parameter qs p es e
      go r = record { sized = l; some = n; ratio = r.0; rational = r.1; same = v.back (tree es e) r.0 r.2 }

  -- ---- Free

  no_match : OnlyZeros (αs ++ α ∷ []) → HasNoMatch parameter qs p
  no_match free es e m =
      let size = m.sized ∙ count in
      let z = zero_each (es ++ e ∷ []) (free.only_zero (es ++ e ∷ []) (length-snoc es e (length αs) size ∙ sym (length-snoc αs α (length αs) refl)) (holds_of_match es e m)) (length αs) in
      m.some (sym (last-at es e (length αs) size) ∙ z)

  -- a row with 0 at the new product is one of the others
  before : (es : List ℤ) → length es ≡ length αs → Holds (αs ++ α ∷ []) (es ++ pos 0 ∷ []) → Holds αs es
  before es l h = (h.0, record { some = h.1.some; is = h.1.is ∙ ap (λ x. x *ᵛ h.0) (powers-last K (shift_valueH v.depth) αs α es (pos 0) l ∙ ring R (powers K αs es ∷ []) (search reads depth 12) refl) })

  all_zero : (es : List ℤ) → AllZero es → AllZero (es ++ pos 0 ∷ [])
  all_zero [] h = (refl, tt)
  all_zero (e ∷ es) h = (h.0, all_zero es h.1)

  only_zeros : OnlyZeros αs → HasNoMatch parameter qs p → OnlyZeros (αs ++ α ∷ [])
  only_zeros free none = record { only_zero = λ es l h. at es h (snoc (length αs) es (l ∙ length-snoc αs α (length αs) refl)) }
    where
      at : (es : List ℤ) → Holds (αs ++ α ∷ []) es → (fs : List ℤ) × (e : ℤ) × (es ≡ fs ++ e ∷ []) × (length fs ≡ length αs) → AllZero es
      at es h r = subst (λ (xs : List ℤ). AllZero xs) (sym r.2) (cases r.1 (subst (λ (xs : List ℤ). Holds (αs ++ α ∷ []) xs) r.2 h))
        where
          zero_last : Holds (αs ++ α ∷ []) (r.0 ++ pos 0 ∷ []) → AllZero (r.0 ++ pos 0 ∷ [])
          zero_last k = all_zero r.0 (free.only_zero r.0 r.3 (before r.0 r.3 k))

          clash : (e : ℤ) → e ≢ pos 0 → Holds (αs ++ α ∷ []) (r.0 ++ e ∷ []) → AllZero (r.0 ++ e ∷ [])
          clash e n k = absurd (none r.0 e (match_of_holds r.0 e (r.3 ∙ sym count) n k))

          cases : (e : ℤ) → Holds (αs ++ α ∷ []) (r.0 ++ e ∷ []) → AllZero (r.0 ++ e ∷ [])
          cases (pos zero) k = zero_last k
          cases (pos (suc n)) k = clash (pos (suc n)) (λ z. omega (arith, ints, z)) k
          cases (negsuc n) k = clash (negsuc n) (λ z. omega (arith, ints, z)) k

  pub free_exactly : OnlyZeros αs → OnlyZeros (αs ++ α ∷ []) ↔ HasNoMatch parameter qs p
  free_exactly free = (no_match, only_zeros free)

  -- ---- Expressed

  abbrev pub IsFormallyExpressed : Type 0
  IsFormallyExpressed = (es : List ℤ) × (r : Value (suc v.depth)) × Expresses αs α es r

  abbrev some : Each (Some K) αs
  some = somes qs αs are

  length-multiple : (t : ℤ) (es : List ℤ) → length (multiple_row t es) ≡ length es
  length-multiple t [] = refl
  length-multiple t (e ∷ es) = ap suc (length-multiple t es)

  match_of_expressed : IsFormallyExpressed → IsExpressedOver parameter qs p
  match_of_expressed x = (multiple_row (negsuc 0) x.0, match_of_holds (multiple_row (negsuc 0) x.0) (pos 1) (length-multiple (negsuc 0) x.0 ∙ x.2.sized ∙ sym count) (λ z. omega (arith, ints, z)) (joined_exponents v.depth αs α some x.0 x.1 x.2))

  expressed_of_match : IsExpressedOver parameter qs p → IsFormallyExpressed
  expressed_of_match m = of (holds_of_match m.0 (pos 1) m.1)
    where
      es : List ℤ
      es = m.0

      size : length es ≡ length αs
      size = m.1.sized ∙ count

      Q : Value (suc v.depth)
      Q = powers K αs es

      N : Value (suc v.depth)
      N = powers K αs (multiple_row (negsuc 0) es)

      undo : N *ᵛ Q ≡ one_value
      undo = R.trans (R.mul_cong (R.trans (powers-multiple K αs (negsuc 0) es some) (I_mul R)) R.rfl) (R.trans R.mul_comm (K.mul_inv Q (powers_ne K αs es some)))

      of : Holds (αs ++ α ∷ []) (es ++ pos 1 ∷ []) → IsFormallyExpressed
      of h = (
        multiple_row (negsuc 0) es,
        h.0,
        record {
          sized = length-multiple (negsuc 0) es ∙ size;
          some = h.1.some;
          is = by R (α ∷ Q ∷ N ∷ powers K (αs ++ α ∷ []) (es ++ pos 1 ∷ []) ∷ h.0 ∷ shift h.0 ∷ [])
              (R.add_cong (scale R (neg_value N) h.1.is) (R.add_cong (scale R (neg_value (N *ᵛ h.0)) (powers-last K (shift_valueH v.depth) αs α es (pos 1) size)) (scale R (neg_value (α *ᵛ h.0)) undo)))
              (search reads depth 20 fits 6000) refl;
        },
      )

  pub expressed_exactly : IsFormallyExpressed ↔ IsExpressedOver parameter qs p
  expressed_exactly = (match_of_expressed, expressed_of_match)

  -- ---- Dependent

  abbrev pub IsFormallyDependent : Type 0
  IsFormallyDependent = (es : List ℤ) × (r : Value (suc v.depth)) × Relates αs α es r

  pub dependent_only : IsFormallyDependent → IsDependentOver parameter qs p
  dependent_only x = (matched (snoc (length αs) x.0 x.2.sized), λ m. let r = expressed_of_match m in expressed_not_related v.depth αs α some r.0 x.0 r.1 x.1 r.2 x.2)
    where
      matched : (fs : List ℤ) × (e : ℤ) × (x.0 ≡ fs ++ e ∷ []) × (length fs ≡ length αs) → ¬ HasNoMatch parameter qs p
      matched r none = none r.0 r.1 (match_of_holds r.0 r.1 (r.3 ∙ sym count) (λ z. low z (subst (λ (y : ℤ). pos 1 <ℤ y) last x.2.above_one)) (x.1, subst (λ (xs : List ℤ). IsRatio (powers K (αs ++ α ∷ []) xs) x.1) r.2 x.2.is))
        where
          last : get_or x.0 (length αs) (pos 0) ≡ r.1
          last = ap (λ (xs : List ℤ). get_or xs (length αs) (pos 0)) r.2 ∙ last-at r.0 r.1 (length αs) r.3

          low : r.1 ≡ pos 0 → pos 1 <ℤ r.1 → ⊥
          low z l = omega (arith, ints, z, l)

  -- one of the three holds formally, so dependent is what is left
  pub dependent_exactly : OnlyZeros αs → (OnlyZeros (αs ++ α ∷ []) ⊎ (IsFormallyExpressed ⊎ IsFormallyDependent))
      → IsFormallyDependent ↔ IsDependentOver parameter qs p
  dependent_exactly free answer = (dependent_only, back answer)
    where
      back : (OnlyZeros (αs ++ α ∷ []) ⊎ (IsFormallyExpressed ⊎ IsFormallyDependent)) → IsDependentOver parameter qs p → IsFormallyDependent
      back (inl f) d = absurd (d.0 (no_match f))
      back (inr (inl e)) d = absurd (d.1 (match_of_expressed e))
      back (inr (inr x)) d = x

-- ---- Lists of products

one_match : (parameter : Bool) (qs : List Tree) (p : Tree) → HasNoMatch parameter qs p → IsExpressedOver parameter qs p → ⊥
one_match parameter qs p none m = none m.0 (pos 1) m.1

pub first_or_none : (parameter : Bool) (qs ps : List Tree) (p : Tree) → IsFirstDependent parameter qs ps p → NoneDependent parameter qs ps → ⊥
first_or_none parameter qs [] p h n = h
first_or_none parameter qs (q ∷ ps) p (inl h) (inl n) = h.0.0 n.0
first_or_none parameter qs (q ∷ ps) p (inl h) (inr n) = h.0.1 n.0
first_or_none parameter qs (q ∷ ps) p (inr (inl h)) (inl n) = first_or_none parameter (qs ++ q ∷ []) ps p h.1 n.1
first_or_none parameter qs (q ∷ ps) p (inr (inl h)) (inr n) = one_match parameter qs q h.0 n.0
first_or_none parameter qs (q ∷ ps) p (inr (inr h)) (inl n) = one_match parameter qs q n.0 h.0
first_or_none parameter qs (q ∷ ps) p (inr (inr h)) (inr n) = first_or_none parameter qs ps p h.1 n.1

-- there is one first
pub one_first : (parameter : Bool) (qs ps : List Tree) (p p' : Tree) → IsFirstDependent parameter qs ps p → IsFirstDependent parameter qs ps p' → p ≡ p'
one_first parameter qs [] p p' h i = absurd h
one_first parameter qs (q ∷ ps) p p' (inl h) (inl i) = h.1 ∙ sym i.1
one_first parameter qs (q ∷ ps) p p' (inl h) (inr (inl i)) = absurd (h.0.0 i.0)
one_first parameter qs (q ∷ ps) p p' (inl h) (inr (inr i)) = absurd (h.0.1 i.0)
one_first parameter qs (q ∷ ps) p p' (inr (inl h)) (inl i) = absurd (i.0.0 h.0)
one_first parameter qs (q ∷ ps) p p' (inr (inl h)) (inr (inl i)) = one_first parameter (qs ++ q ∷ []) ps p p' h.1 i.1
one_first parameter qs (q ∷ ps) p p' (inr (inl h)) (inr (inr i)) = absurd (one_match parameter qs q h.0 i.0)
one_first parameter qs (q ∷ ps) p p' (inr (inr h)) (inl i) = absurd (i.0.1 h.0)
one_first parameter qs (q ∷ ps) p p' (inr (inr h)) (inr (inl i)) = absurd (one_match parameter qs q i.0 h.0)
one_first parameter qs (q ∷ ps) p p' (inr (inr h)) (inr (inr i)) = one_first parameter qs ps p p' h.1 i.1
