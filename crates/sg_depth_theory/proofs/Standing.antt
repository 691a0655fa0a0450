-- How far a tower over the sums of a command has come.
--   Stands letter s ps ss r f places known    the tower f stands over all but the last r of the sums ss: its own are those at the places, and known are the elements of all before these
--   IsOwn f β x                               x is the new sum on top of f, which grows by β
--   IsStep letter s ps before f places body β       β is the shifted element of the body
--   IsLevelled letter s ps before f places g y h    h is y and the constant that gives it at the start the value of the sum g
--   whole                                     where no sum is left, the tower stands over all
--   few_sums                                  it has at most as many sums as are listed
--   begun                                     the tower without products and sums stands over none of them
use Rattle.std.proofs.Common.{◌≡◌, ℕ, suc, ◌+◌, ◌<◌, ◌≤◌, ℤ, ◌≤ℤ◌, refl, sym, ap, subst, List, [], ◌∷◌, length, take, arith}
use Rattle.std.proofs.lemmas.List.{take_all, length-take-le}
use Rattle.sg_algebra.specs.Coefficients.{Each}
use Rattle.sg_algebra.proofs.Value.{Value, ◌-ᵛ◌}
use Rattle.sg_spec.specs.Tree.{Tree}
use Rattle.sg_spec.specs.Worth.{HasWorth}
use Rattle.sg_tower_theory.proofs.Formal.{Formal, Element, elements, shifted, one_more, rational}
use Rattle.sg_value_theory.proofs.Elements.{Point, HasElement}
use Rattle.sg_value_theory.proofs.TreePoints.{IsPointOf, Agrees}
use Rattle.sg_value_theory.proofs.TowerOf.{IsSound, IsTowerOf, Ascending, at_places}

pub record Stands {d : ℕ} (letter : Value d) (s : ℤ) (ps ss : List Tree) (r : ℕ) (f : Formal d) (places : List ℕ) (known : List (Element f)) : Type 0 where
  pub sound : IsSound letter s ps ss
  pub left : length ss ≡ length known + r
  pub tower : IsTowerOf letter s ps (take (length known) ss) f places known

abbrev pub IsOwn : {d : ℕ} (f : Formal d) (β : Element f) → Element (one_more f β) → Type 0
IsOwn f β x = (elements (one_more f β)).◌≈◌ x ((elements f).O ∷ (elements f).I ∷ [])

pub record IsStep {d : ℕ} (letter : Value d) (s : ℤ) (ps before : List Tree) (f : Formal d) (places : List ℕ) (body : Tree) (β : Element f) : Type 0 where
  pub element : Element f
  pub placed : (p : Point d) → s ≤ℤ p.variable → IsPointOf letter ps (at_places before places) p → Agrees letter f p element body
  pub shifts : (elements f).◌≈◌ β ((shifted f).σ.on element)

pub record IsLevelled {d : ℕ} (letter : Value d) (s : ℤ) (ps before : List Tree) (f : Formal d) (places : List ℕ) (g : Tree) (y h : Element f) : Type 0 where
  pub point : Point d
  pub at_start : point.variable ≡ s
  pub is_point : IsPointOf letter ps (at_places before places) point
  pub target : Value d
  pub found : Value d
  pub constant : Value d
  pub first : HasWorth letter g s target
  pub here_has : HasElement f point y found
  pub difference : constant ≡ target -ᵛ found
  pub sum_is : (elements f).◌≈◌ h ((elements f).◌⊞◌ y ((shifted f).κ.on constant))

-- ascending numbers below n are at most n
ascending-few : (n m i : ℕ) (is : List ℕ) → m ≤ i → Ascending (i ∷ is) → Each (λ j. j < n) (i ∷ is) → length (i ∷ is) + m ≤ n
ascending-few n m i [] l a h = let k = h.0 in omega (arith, l, k)
ascending-few n m i (j ∷ js) l a h = let k = a.0 in let r = ascending-few n (suc m) j js (omega (arith, l, k)) a.1 h.1 in omega (arith, r)

few_places : (n : ℕ) (places : List ℕ) → Ascending places → Each (λ j. j < n) places → length places ≤ n
few_places n [] a h = omega arith
few_places n (i ∷ is) a h = let r = ascending-few n 0 i is (omega arith) a h in omega (arith, r)

module _ {d : ℕ} (letter : Value d) (s : ℤ) (ps ss : List Tree) where
  module _ (r : ℕ) (f : Formal d) (places : List ℕ) (known : List (Element f)) where
    pub whole : Stands letter s ps ss r f places known → r ≡ 0 → IsTowerOf letter s ps ss f places known
    whole state z = let e = state.left in subst (λ (gs : List Tree). IsTowerOf letter s ps gs f places known) (take_all (length known) ss (omega (arith, e, z))) state.tower

    pub few_sums : Stands letter s ps ss r f places known → f.sums ≤ length known
    few_sums state =
        let e = state.left in
        let t = length-take-le (length known) ss (omega (arith, e)) in
        let a = few_places (length (take (length known) ss)) places state.tower.ascending state.tower.inside in
        let z = state.tower.size in
        omega (arith, a, t, z)

  pub begun : (places : List ℕ) (known : List (Element rational)) → IsSound letter s ps ss → places ≡ [] → known ≡ [] → Stands letter s ps ss (length ss) rational places known
  begun places known sound e k =
      subst (λ (is : List ℕ). Stands letter s ps ss (length ss) rational is known) (sym e)
      (subst (λ (xs : List (Element rational)). Stands letter s ps ss (length ss) rational [] xs) (sym k)
      (record {
        sound = sound;
        left = let z : length ss ≡ 0 + length ss = omega arith in z;
        tower = record {
          adjoined = ap length sound.no_products;
          size = refl;
          ascending = tt;
          inside = tt;
          follows = λ p q l e i j. (e, tt);
          known_agree = tt;
          own = λ i l. absurd (omega (arith, l));
          earlier = λ j l. absurd (omega (arith, l));
        };
      }))
