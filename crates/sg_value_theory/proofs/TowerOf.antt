-- The tower in which a command works.
--   BuiltOver ps ss e      e is built from numerals, the variable, the parameter, the operations, and the listed products and sums; what is divided by is a divisor
--   IsSound letter s ps ss     the products ps and the sums ss are those of expressions, each over those before it
--   HoldsBelow f i x       x holds no sum from i on
--   IsTowerOf letter s ps ss f places known    the tower f stands over the products ps and the sums of ss at the places, which are the free ones, and known are the elements of all the sums
--   IsFormallyNone letter s ps ss e            in such a tower, in which each sum is new, nothing telescopes the element of e
use Rattle.std.proofs.Common.{◌≡◌, ℕ, zero, suc, ◌<◌, ◌≤◌, ℤ, pos, negsuc, ◌+ℤ◌, ◌≤ℤ◌, cond, nat_le, List, [], ◌∷◌, ◌++◌, length, map, Contains, get_or}
use Rattle.sg_algebra.specs.Coefficients.{Each}
use Rattle.sg_algebra.proofs.Value.{Value}
use Rattle.sg_algebra.proofs.Place.{Pairwise}
use Rattle.sg_spec.specs.Tree.{Tree, numeral, here, param, add, neg, mul, div, power, sum_from, prod_from}
use Rattle.sg_spec.specs.Generators.{distinct}
use Rattle.sg_value_theory.proofs.Divisors.{IsDivisor}
use Rattle.sg_tower_theory.proofs.Difference.{delta}
use Rattle.sg_tower_theory.proofs.Nested.{NestedR}
use Rattle.sg_tower_theory.proofs.Formal.{Formal, Element, elements, shifted, base, IsIndependent, own_sum}
use Rattle.sg_value_theory.proofs.Elements.{Point, Follows}
use Rattle.sg_worth_theory.proofs.Bodies.{StartsBy, HasBody}
use Rattle.sg_value_theory.proofs.TreePoints.{IsPointOf, Agrees}

abbrev pub BuiltOver : List Tree → List Tree → Tree → Type 0
BuiltOver ps ss (numeral c) = Unit {0}
BuiltOver ps ss here = Unit {0}
BuiltOver ps ss param = Unit {0}
BuiltOver ps ss (add x y) = BuiltOver ps ss x × BuiltOver ps ss y
BuiltOver ps ss (neg x) = BuiltOver ps ss x
BuiltOver ps ss (mul x y) = BuiltOver ps ss x × BuiltOver ps ss y
BuiltOver ps ss (div x y) = BuiltOver ps ss x × BuiltOver ps ss y × IsDivisor ps y
BuiltOver ps ss (power x e) = BuiltOver ps ss x
BuiltOver ps ss (sum_from from body) = Contains ss (sum_from from body)
BuiltOver ps ss (prod_from from body) = Contains ps (prod_from from body)

abbrev pub IsSumOver : List Tree → List Tree → Tree → Type 0
IsSumOver ps ss (numeral c) = ⊥
IsSumOver ps ss here = ⊥
IsSumOver ps ss param = ⊥
IsSumOver ps ss (add x y) = ⊥
IsSumOver ps ss (neg x) = ⊥
IsSumOver ps ss (mul x y) = ⊥
IsSumOver ps ss (div x y) = ⊥
IsSumOver ps ss (power x e) = ⊥
IsSumOver ps ss (sum_from from body) = BuiltOver ps ss body
IsSumOver ps ss (prod_from from body) = ⊥

module _ {d : ℕ} (letter : Value d) where
  -- no products yet
  pub record IsSound (s : ℤ) (ps ss : List Tree) : Type 0 where
    pub few : length ss ≤ 8
    pub no_products : ps ≡ []
    pub different : distinct ss ≡ ss
    pub not_low : negsuc 1000 ≤ℤ s
    pub not_high : s ≤ℤ pos 1000
    pub starts : Each (StartsBy s) ss
    pub bodies : Each (HasBody letter) ss
    pub over_earlier : (before after : List Tree) (g : Tree) → ss ≡ before ++ g ∷ after → IsSumOver ps before g

-- the element is one of the tower before the sum i
abbrev pub HoldsIn : {d : ℕ} (αs : List (Value (suc d))) (n : ℕ) → ℕ → (NestedR (base αs) n).A → Type 0
HoldsIn αs zero i x = Unit {0}
HoldsIn αs (suc n) i x = i ≤ n → (y : (NestedR (base αs) n).A) × (NestedR (base αs) (suc n)).◌≈◌ x (y ∷ []) × HoldsIn αs n i y

abbrev pub HoldsBelow : {d : ℕ} (f : Formal d) → ℕ → Element f → Type 0
HoldsBelow f i x = HoldsIn f.products f.sums i x

abbrev pub at_places : List Tree → List ℕ → List Tree
at_places gens places = map (λ i. get_or gens i here) places

-- how many of the places are at most j
abbrev pub up_to : ℕ → List ℕ → ℕ
up_to j [] = 0
up_to j (i ∷ is) = cond (nat_le i j) (suc (up_to j is)) (up_to j is)

abbrev pub Ascending : List ℕ → Type 0
Ascending [] = Unit {0}
Ascending (i ∷ []) = Unit {0}
Ascending (i ∷ (j ∷ js)) = (i < j) × Ascending (j ∷ js)

pub record IsTowerOf {d : ℕ} (letter : Value d) (s : ℤ) (ps ss : List Tree) (f : Formal d) (places : List ℕ) (known : List (Element f)) : Type 0 where
  pub adjoined : length ps ≡ length f.products
  pub size : length places ≡ f.sums
  pub ascending : Ascending places
  pub inside : Each (λ i. i < length ss) places
  pub follows : (p q : Point d) → s ≤ℤ p.variable → q.variable ≡ p.variable +ℤ pos 1 → IsPointOf letter ps (at_places ss places) p → IsPointOf letter ps (at_places ss places) q → Follows f p q
  pub known_agree : Pairwise (λ g x. (p : Point d) → s ≤ℤ p.variable → IsPointOf letter ps (at_places ss places) p → Agrees letter f p x g) ss known
  pub own : (i : ℕ) → i < f.sums → (elements f).◌≈◌ (get_or known (get_or places i 0) (elements f).O) (own_sum f i)
  pub earlier : (j : ℕ) → j < length ss → HoldsBelow f (up_to j places) (get_or known j (elements f).O)

pub record IsFormallyNone {d : ℕ} (letter : Value d) (s : ℤ) (ps ss : List Tree) (e : Tree) : Type 0 where
  pub tower : Formal d
  pub places : List ℕ
  pub known : List (Element tower)
  pub independent : IsIndependent tower
  pub is : IsTowerOf letter s ps ss tower places known
  pub element : Element tower
  pub stands : (p : Point d) → s ≤ℤ p.variable → IsPointOf letter ps (at_places ss places) p → Agrees letter tower p element e
  pub none : (g : Element tower) → ¬ ((elements tower).◌≈◌ (delta (shifted tower) g) element)
