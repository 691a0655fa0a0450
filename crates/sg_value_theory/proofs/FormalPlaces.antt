-- The values of the elements of a formal tower along a run of points, each one place further than the one before.
--   IsRun f points       the points follow one another
--   variable_at          the variable goes up by one from point to point
--   place_of, past       an element has values at all of them but finitely many
--   places_along         so the values are places
use Rattle.std.proofs.Common.{◌≡◌, ℕ, zero, suc, ◌+◌, ◌≤◌, ℤ, pos, ◌+ℤ◌, refl, ◌∙◌, subst, List, [], ◌∷◌, length, arith}
use Rattle.std.proofs.lemmas.Int.{ints}
use Rattle.sg_algebra.specs.Coefficients.{eval}
use Rattle.sg_algebra.proofs.Ring.{pow}
use Rattle.sg_algebra.proofs.PolynomialRing.{PolyR}
use Rattle.sg_algebra.proofs.Place.{Pairwise}
use Rattle.sg_algebra.proofs.Value.{Value, ◌*ᵛ◌, inv_value}
use Rattle.sg_algebra.proofs.ValueField.{ValueR, ValueF}
use Rattle.sg_tower_theory.proofs.Laurent.{LaurentR}
use Rattle.sg_tower_theory.proofs.Products.{LaurentsD, LaurentsR}
use Rattle.sg_tower_theory.proofs.Nested.{NestedR, Shape}
use Rattle.sg_tower_theory.proofs.Formal.{Formal, Element, elements, shifted, base, factors}
use Rattle.sg_value_theory.proofs.Elements.{Point, HasLaurent, HasIn, HasElement, FollowsIn, Follows}
use Rattle.sg_value_theory.proofs.Places.{Places}
use Rattle.sg_value_theory.proofs.RationalPlaces.{rational_places}
use Rattle.sg_value_theory.proofs.Evaluations.{evaluation}
use Rattle.sg_value_theory.proofs.Moving.{moves}

-- past all of the bounds
abbrev pub most : {A : Type 0} → (A → ℕ) → List A → ℕ
most from [] = 0
most from (c ∷ cs) = from c + most from cs

abbrev pub laurent_from : (d : ℕ) → ℤ → (n : ℕ) → (LaurentsR (ValueF (suc d)) n).A → ℕ
laurent_from d k0 zero x = (rational_places d k0).from x
laurent_from d k0 (suc n) x = most (laurent_from d k0 n) x.poly

module _ {d : ℕ} where
  -- a list of coefficients has values, where each has
  each_past : {A : Type 0} (Has : A → Value d → Type 0) (from : A → ℕ) (k : ℕ) → ((x : A) → from x ≤ k → (v : Value d) × Has x v) → (cs : List A) → most from cs ≤ k → (vs : List (Value d)) × Pairwise Has cs vs
  each_past Has from k past [] l = ([], tt)
  each_past Has from k past (c ∷ cs) l =
      let v = past c (omega arith) in
      let r = each_past Has from k past cs (omega arith) in
      (v.0 ∷ r.0, (v.1, r.1))

  laurent_past : (k0 : ℤ) (k n : ℕ) (ts : ℕ → Value d) (x : (LaurentsR (ValueF (suc d)) n).A) → laurent_from d k0 n x ≤ k → (v : Value d) × HasLaurent n (k0 +ℤ pos k) ts x v
  laurent_past k0 k zero ts x l = (rational_places d k0).has_past x k l
  laurent_past k0 k (suc n) ts x l =
      let r = each_past (HasLaurent n (k0 +ℤ pos k) (λ i. ts (suc i))) (laurent_from d k0 n) k (λ y m. laurent_past k0 k n (λ i. ts (suc i)) y m) x.poly l in (
        eval (ValueR d) r.0 (ts 0) *ᵛ pow (ValueR d) (inv_value (ts 0)) x.lag,
        record {
          upper = x.poly;
          lag = x.lag;
          same = (LaurentR (LaurentsD (ValueF (suc d)) n)).rfl;
          upper_value = eval (ValueR d) r.0 (ts 0);
          upper_has = record { coefficients = x.poly; values = r.0; same = (PolyR (LaurentsR (ValueF (suc d)) n)).rfl; each = r.1; value = refl };
          value = refl;
        },
      )

  abbrev pub from_in : ℤ → (αs : List (Value (suc d))) (n : ℕ) → (NestedR (base αs) n).A → ℕ
  from_in k0 αs zero x = laurent_from d k0 (length (factors αs)) x
  from_in k0 αs (suc n) x = most (from_in k0 αs n) x

  past_in : (k0 : ℤ) (k : ℕ) (αs : List (Value (suc d))) (n : ℕ) (p : Point d) → p.variable ≡ k0 +ℤ pos k → (x : (NestedR (base αs) n).A) → from_in k0 αs n x ≤ k → (v : Value d) × HasIn αs n p x v
  past_in k0 k αs zero p e x l = let r = laurent_past k0 k (length (factors αs)) p.products x l in (r.0, rw e r.1)
  past_in k0 k αs (suc n) p e x l =
      let r = each_past (HasIn αs n p) (from_in k0 αs n) k (λ y m. past_in k0 k αs n p e y m) x l in
      (eval (ValueR d) r.0 (p.sums n), record { coefficients = x; values = r.0; same = (PolyR (NestedR (base αs) n)).rfl; each = r.1; value = refl })

  follows_variable_in : (αs : List (Value (suc d))) (n : ℕ) (s : Shape (base αs) n) (p q : Point d) → FollowsIn αs n s p q → q.variable ≡ p.variable +ℤ pos 1
  follows_variable_in αs zero s p q h = h.0
  follows_variable_in αs (suc n) s p q h = follows_variable_in αs n s.0 p q h.0

  pub follows_variable : (f : Formal d) (p q : Point d) → Follows f p q → q.variable ≡ p.variable +ℤ pos 1
  follows_variable f p q h = follows_variable_in f.products f.sums f.shape p q h

  abbrev pub IsRun : Formal d → (ℕ → Point d) → Type 0
  IsRun f points = (k : ℕ) → Follows f (points k) (points (suc k))

  module _ (f : Formal d) (points : ℕ → Point d) (run : IsRun f points) where
    abbrev pub start : ℤ
    start = (points 0).variable

    pub variable_at : (k : ℕ) → (points k).variable ≡ start +ℤ pos k
    variable_at zero = omega (arith, ints)
    variable_at (suc k) = follows_variable f (points k) (points (suc k)) (run k) ∙ next (points k).variable start k (variable_at k)
      where
        next : (x s : ℤ) (k : ℕ) → x ≡ s +ℤ pos k → x +ℤ pos 1 ≡ s +ℤ pos (suc k)
        next x s k e = omega (arith, ints)

    abbrev pub place_of : Element f → ℕ
    place_of x = from_in start f.products f.sums x

    pub past : (x : Element f) (k : ℕ) → place_of x ≤ k → (v : Value d) × HasElement f (points k) x v
    past x k l = past_in start k f.products f.sums (points k) (variable_at k) x l

    pub along_same : (x y : Element f) (k : ℕ) (u v : Value d) → (elements f).◌≈◌ x y → u ≡ v → HasElement f (points k) x u → HasElement f (points k) y v
    along_same x y k u v e h i = subst (HasElement f (points k) y) h ((evaluation f (points k)).same x y u e i)

    abbrev pub places_along : Places (elements f) (ValueR d) (shifted f).σ
    places_along = record {
      Has = λ x k v. HasElement f (points k) x v;
      has_same = along_same;
      has_unique = λ x k u v. (evaluation f (points k)).unique x u v;
      has_zero = λ k. (evaluation f (points k)).zero_has;
      has_one = λ k. (evaluation f (points k)).one_has;
      has_add = λ x y k u v. (evaluation f (points k)).add_has x y u v;
      has_mul = λ x y k u v. (evaluation f (points k)).mul_has x y u v;
      has_neg = λ x k u. (evaluation f (points k)).neg_has x u;
      has_shift = λ x k u. moves f (points k) (points (suc k)) (run k) x u;
      from = place_of;
      has_past = past;
    }
