-- What formal answers say of expressions over products and sums, whose divisors hold no sum.
--   Moves e f            from some point on e(k + 1) - e(k) is f(k), as values of any depth; `moves_of_tele`: telescoping is that
--   step_values, values_step     at one place, to and from values
--   telescoping          what moves by the values of f has an element that telescopes that of f
--   one_element          expressions that agree from some point on have one element
--   none_moves           where nothing telescopes the element of f, no such expression telescopes f from any point on
--   new_sum              where nothing telescopes what one more sum grows by, no expression agrees with it from any point on
--   IsProductOf s p a    from s on the product p isn't 0, and one place further it is itself times the value of its factor a
--   step_factor          so is each value of it against the one before
--   new_product          where a isn't a product of powers of the factors before, times r(k + 1)/r(k), no expression over these agrees
--                        with p
use Rattle.std.proofs.Common.{◌≡◌, ℕ, suc, ℤ, pos, ◌+ℤ◌, ◌≤ℤ◌, refl, sym, ap, ◌∙◌, subst, List, [], ◌∷◌, Contains, arith}
use Rattle.std.proofs.lemmas.Int.{ints}
use Rattle.sg_algebra.specs.Ring.{Ring}
use Rattle.sg_algebra.specs.Coefficients.{Each}
use Rattle.sg_algebra.proofs.Solver.{ring, reads}
use Rattle.sg_algebra.proofs.Value.{Value, ◌-ᵛ◌, ◌*ᵛ◌, neg_value, zero_value}
use Rattle.sg_algebra.proofs.ValueField.{ValueR, ValueF}
use Rattle.sg_spec.specs.Tree.{Tree}
use Rattle.sg_spec.specs.Value.{val, both}
use Rattle.sg_spec.specs.Worth.{HasWorth}
use Rattle.sg_spec.specs.Generators.{Allowed, BuiltOver as OwnBuilt}
use Rattle.sg_spec.specs.Telescoping.{Steps, Tele, difference_of}
use Rattle.sg_spec.proofs.Values.{val-proper}
use Rattle.sg_spec.proofs.Worth.{Worth, worth_same, same_worth}
use Rattle.sg_worth_theory.proofs.Worths.{worth_number, number_worth, worth_unique}
use Rattle.sg_worth_theory.proofs.Closes.{no_letter}
use Rattle.sg_tower_theory.proofs.ShiftValue.{rational_functions}
use Rattle.sg_tower_theory.proofs.Difference.{Difference, delta}
use Rattle.sg_tower_theory.proofs.Products.{Expresses, expressed_product}
use Rattle.sg_tower_theory.proofs.Formal.{Formal, Element, elements, shifted, lifted, no_sums, factors, factors_some, IsIndependent}
use Rattle.sg_value_theory.proofs.Elements.{Point, HasElement, IsQuotientAt}
use Rattle.sg_value_theory.proofs.TreePoints.{IsPointOf}
use Rattle.sg_value_theory.proofs.PointsOf.{HasValues, HasUnits, point_at, is-point}
use Rattle.sg_value_theory.proofs.Evaluations.{evaluation, lifted-has}
use Rattle.sg_value_theory.proofs.NumberParts.{left_number, right_number, both_parts, number_unique}
use Rattle.sg_value_theory.proofs.Joined.{worth-difference, difference_proper}
use Rattle.sg_answers_theory.proofs.ElementsOver.{AgreesFrom, IsPlaced, element_over, built_over}
use Rattle.sg_answers_theory.proofs.ZeroPast.{FollowFrom, equal_past, next_has, later}
use Rattle.sg_answers_theory.proofs.Meeting.{Meet}

-- ---- Telescoping, as values of any depth

pub record Moves {d : ℕ} (letter : Value d) (e f : Tree) : Type 0 where
  pub from : ℤ
  pub moves : (k : ℤ) → from ≤ℤ k → (u' u v : Value d) × HasWorth letter e (k +ℤ pos 1) u' × HasWorth letter e k u × HasWorth letter f k v × (u' -ᵛ u ≡ v)

-- at one place
pub step_values : (e f : Tree) (k : ℤ) → Steps e f k
    → (u' u v : Value 0) × HasWorth no_letter e (k +ℤ pos 1) u' × HasWorth no_letter e k u × HasWorth no_letter f k v × (u' -ᵛ u ≡ v)
step_values e f k h =
    let a = val e (pos 0) (k +ℤ pos 1) in
    let b = val e (pos 0) k in
    let c = val f (pos 0) k in
    let n = left_number (both difference_of a b) c h in
    let m = right_number (both difference_of a b) c h in
    let p = both_parts difference_of a b n.0 n.1 in (
      p.0.0,
      p.1.0,
      m.0,
      number_worth (pos 0) e (k +ℤ pos 1) p.0.0 p.0.1,
      number_worth (pos 0) e k p.1.0 p.1.1,
      number_worth (pos 0) f k m.0 m.1,
      number_unique (both difference_of a b) (p.0.0 -ᵛ p.1.0) m.0 (worth-difference a b p.0.0 p.1.0 (val-proper e (pos 0) (k +ℤ pos 1)) (val-proper e (pos 0) k) p.0.1 p.1.1)
          (same_worth (both difference_of a b) c m.0 (difference_proper a b (val-proper e (pos 0) (k +ℤ pos 1)) (val-proper e (pos 0) k)) (val-proper f (pos 0) k) h m.1),
    )

pub values_step : (e f : Tree) (k : ℤ) (u' u v : Value 0) → HasWorth no_letter e (k +ℤ pos 1) u' → HasWorth no_letter e k u → HasWorth no_letter f k v
    → u' -ᵛ u ≡ v → Steps e f k
values_step e f k u' u v h i j s =
    let a = val e (pos 0) (k +ℤ pos 1) in
    let b = val e (pos 0) k in
    worth_same (both difference_of a b) (val f (pos 0) k) v (difference_proper a b (val-proper e (pos 0) (k +ℤ pos 1)) (val-proper e (pos 0) k)) (val-proper f (pos 0) k)
    (subst (λ (z : Value 0). Worth (both difference_of a b) z) s (worth-difference a b u' u (val-proper e (pos 0) (k +ℤ pos 1)) (val-proper e (pos 0) k) (worth_number (pos 0) e (k +ℤ pos 1) u' h) (worth_number (pos 0) e k u i)))
    (worth_number (pos 0) f k v j)

pub moves_of_tele : (e f : Tree) → Tele e f → Moves no_letter e f
moves_of_tele e f t = record { from = t.from; moves = λ k l. step_values e f k (t.steps k l) }

-- ---- In a tower

module _ {d : ℕ} (letter : Value d) (s : ℤ) (ps gens : List Tree) (F : Formal d) (follow : FollowFrom letter s ps gens F) (units : Each (HasUnits letter) ps)
    (values : Each (HasValues letter) gens) (independent : IsIndependent F) where
  abbrev B : Difference (ValueR d) (elements F)
  B = shifted F

  abbrev Agreeing : Element F → Tree → Type 0
  Agreeing x e = AgreesFrom letter s ps gens F x e

  -- what moves by the values of f has an element that telescopes that of f
  pub telescoping : (e f : Tree) (y x : Element F) → Agreeing y e → Agreeing x f → Moves letter e f → (elements F).◌≈◌ (delta B y) x
  telescoping e f y x a b m = equal_past letter s ps gens F follow units values independent (delta B y) x m.from at
    where
      at : (p : Point d) → s ≤ℤ p.variable → m.from ≤ℤ p.variable → IsPointOf letter ps gens p
          → (v : Value d) × HasElement F p (delta B y) v × HasElement F p x v
      at p l q i =
          let r = m.moves p.variable q in (
            r.2,
            subst (HasElement F p (delta B y)) r.6
                ((evaluation F p).add_has (B.σ.on y) ((elements F).⊟ y) r.0 (neg_value r.1) (next_has letter s ps gens F follow units values independent y e a p l i r.0 r.3) ((evaluation F p).neg_has y r.1 (a p l i r.1 r.4))),
            b p l i r.2 r.5,
          )

  pub one_element : (e g : Tree) (y x : Element F) → Agreeing y e → Agreeing x g → Meet letter e g → (elements F).◌≈◌ y x
  one_element e g y x a b m = equal_past letter s ps gens F follow units values independent y x m.from (λ p l q i. let r = m.meet p.variable q in (r.0, a p l i r.0 r.1, b p l i r.0 r.2))

  -- one more sum: what it grows by has the differences of its values
  abbrev pub GrowsBy : Tree → Element F → Type 0
  GrowsBy g β = (p : Point d) → s ≤ℤ p.variable → IsPointOf letter ps gens p → (u' u : Value d) × HasWorth letter g (p.variable +ℤ pos 1) u' × HasWorth letter g p.variable u × HasElement F p β (u' -ᵛ u)

  pub expressed_sum : (e g : Tree) (y β : Element F) → Agreeing y e → GrowsBy g β → Meet letter e g → (elements F).◌≈◌ (delta B y) β
  expressed_sum e g y β a grows m = equal_past letter s ps gens F follow units values independent (delta B y) β m.from at
    where
      at : (p : Point d) → s ≤ℤ p.variable → m.from ≤ℤ p.variable → IsPointOf letter ps gens p
          → (v : Value d) × HasElement F p (delta B y) v × HasElement F p β v
      at p l q i =
          let g' = grows p l i in
          let r = m.meet p.variable q in
          let r' = m.meet (p.variable +ℤ pos 1) (up m.from p.variable q) in (
            g'.0 -ᵛ g'.1,
            (evaluation F p).add_has (B.σ.on y) ((elements F).⊟ y) g'.0 (neg_value g'.1)
                (next_has letter s ps gens F follow units values independent y e a p l i g'.0 (subst (λ (v : Value d). HasWorth letter e (p.variable +ℤ pos 1) v) (worth_unique letter g (p.variable +ℤ pos 1) r'.0 g'.0 r'.2 g'.2) r'.1))
                ((evaluation F p).neg_has y g'.1 (a p l i g'.1 (subst (λ (v : Value d). HasWorth letter e p.variable v) (worth_unique letter g p.variable r.0 g'.1 r.2 g'.3) r.1))),
            g'.4,
          )
        where
          up : (s z : ℤ) → s ≤ℤ z → s ≤ℤ (z +ℤ pos 1)
          up s z l = omega (arith, ints, l)

  module _ (allowed : Allowed) (products : (g : Tree) → Contains allowed.products g → IsPlaced letter s ps gens F g)
      (sums : (g : Tree) → Contains allowed.sums g → (x : Element F) × Agreeing x g) where
    abbrev element : (e : Tree) → OwnBuilt allowed e → (y : Element F) × Agreeing y e
    element e o = element_over letter s ps gens F allowed.products products allowed.sums sums e (built_over allowed e o)

    -- ---- None over products and sums

    pub none_moves : (f : Tree) (x : Element F) → Agreeing x f → ((g : Element F) → ¬ ((elements F).◌≈◌ (delta B g) x)) → (e : Tree) → OwnBuilt allowed e
        → ¬ Moves letter e f
    none_moves f x b none e o m = let y = element e o in none y.0 (telescoping e f y.0 x y.1 b m)

    -- ---- A sum that is new, in values

    pub new_sum : (g : Tree) (β : Element F) → GrowsBy g β → ((h : Element F) → ¬ ((elements F).◌≈◌ (delta B h) β)) → (e : Tree) → OwnBuilt allowed e
        → ¬ Meet letter e g
    new_sum g β grows none e o m = let y = element e o in none y.0 (expressed_sum e g y.0 β y.1 grows m)

-- ---- A product that is new, in values

-- from s on the product is, one place further, itself times the value of its factor, and it isn't 0
pub record IsProductOf {d : ℕ} (letter : Value d) (s : ℤ) (p : Tree) (α : Value (suc d)) : Type 0 where
  pub some : ¬ (α ≡ zero_value)
  pub next : (k : ℤ) → s ≤ℤ k
      → (a v v' : Value d) × IsQuotientAt k α a × HasWorth letter p k v × HasWorth letter p (k +ℤ pos 1) v' × (v' ≡ a *ᵛ v) × ¬ (v ≡ zero_value)

-- between two values of the product, one place apart
pub step_factor : {d : ℕ} (letter : Value d) (s : ℤ) (p : Tree) (α : Value (suc d)) → IsProductOf letter s p α → (k : ℤ) → s ≤ℤ k → (t t' : Value d)
    → HasWorth letter p k t → HasWorth letter p (k +ℤ pos 1) t' → (a : Value d) × IsQuotientAt k α a × ¬ (a ≡ zero_value) × (t' ≡ a *ᵛ t)
step_factor {d} letter s p α product k l t t' h i =
    let m = product.next k l in
    let n = product.next (k +ℤ pos 1) (up s k l) in
    let first = worth_unique letter p k t m.1 h m.4 in
    let second = worth_unique letter p (k +ℤ pos 1) t' m.2 i m.5 in
    let last = worth_unique letter p (k +ℤ pos 1) n.1 m.2 n.4 m.5 in
    (m.0, m.3, λ z. n.7 (last ∙ m.6 ∙ nothing m.0 m.1 z), second ∙ m.6 ∙ ap (◌*ᵛ◌ m.0) (sym first))
  where
    up : (s z : ℤ) → s ≤ℤ z → s ≤ℤ (z +ℤ pos 1)
    up s z l = omega (arith, ints, l)

    nothing : (a v : Value d) → a ≡ zero_value → a *ᵛ v ≡ zero_value
    nothing a v z = ap (λ x. x *ᵛ v) z ∙ ring (ValueR d) (v ∷ []) (search reads depth 12) refl

module _ {d : ℕ} (letter : Value d) (s : ℤ) (ps : List Tree) (αs : List (Value (suc d))) (follow : FollowFrom letter s ps [] (no_sums αs))
    (units : Each (HasUnits letter) ps) (independent : IsIndependent (no_sums αs)) where
  abbrev F : Formal d
  F = no_sums αs

  abbrev L : Ring
  L = elements F

  abbrev σ' : Element F → Element F
  σ' x = (shifted F).σ.on x

  scaled : (e p : Tree) (α : Value (suc d)) (y : Element F) → AgreesFrom letter s ps [] F y e → IsProductOf letter s p α → Meet letter e p
      → L.◌≈◌ (σ' y) (L.◌⊠◌ (lifted F α) y)
  scaled e p α y a is m = equal_past letter s ps [] F follow units tt independent (σ' y) (L.◌⊠◌ (lifted F α) y) m.from at
    where
      at : (q : Point d) → s ≤ℤ q.variable → m.from ≤ℤ q.variable → IsPointOf letter ps [] q
          → (v : Value d) × HasElement F q (σ' y) v × HasElement F q (L.◌⊠◌ (lifted F α) y) v
      at q l z i =
          let n = is.next q.variable l in
          let r = m.meet q.variable z in
          let r' = m.meet (q.variable +ℤ pos 1) (up m.from q.variable z) in (
            n.2,
            next_has letter s ps [] F follow units tt independent y e a q l i n.2 (subst (λ (v : Value d). HasWorth letter e (q.variable +ℤ pos 1) v) (worth_unique letter p (q.variable +ℤ pos 1) r'.0 n.2 r'.2 n.5) r'.1),
            subst (HasElement F q (L.◌⊠◌ (lifted F α) y)) (sym n.6)
                ((evaluation F q).mul_has (lifted F α) y n.0 n.1 (lifted-has F q α n.0 n.3) (a q l i n.1 (subst (λ (v : Value d). HasWorth letter e q.variable v) (worth_unique letter p q.variable r.0 n.1 r.2 n.4) r.1))),
          )
        where
          up : (s z : ℤ) → s ≤ℤ z → s ≤ℤ (z +ℤ pos 1)
          up s z l = omega (arith, ints, l)

  some_element : (e p : Tree) (α : Value (suc d)) (y : Element F) → AgreesFrom letter s ps [] F y e → IsProductOf letter s p α → Meet letter e p
      → ¬ (L.◌≈◌ y L.O)
  some_element e p α y a is m z = go (later s m.from)
    where
      go : (k : ℤ) × (s ≤ℤ k) × (m.from ≤ℤ k) → ⊥
      go k =
          let q = point_at letter ps units [] tt k.0 in
          let n = is.next k.0 k.1 in
          let r = m.meet k.0 k.2 in
          let v = evaluation F q in
          n.7 (v.unique L.O n.1 zero_value
          (v.same y L.O n.1 z (a q k.1 (is-point letter ps units [] tt k.0) n.1 (subst (λ (w : Value d). HasWorth letter e k.0 w) (worth_unique letter p k.0 r.0 n.1 r.2 n.4) r.1))) v.zero_has)

  pub expressed_by : (e p : Tree) (α : Value (suc d)) (y : Element F) → AgreesFrom letter s ps [] F y e → IsProductOf letter s p α → Meet letter e p
      → Expresses (ValueF (suc d)) (rational_functions d).σ (factors αs) α
  expressed_by e p α y a is m = expressed_product (ValueF (suc d)) (rational_functions d).σ (factors αs) (factors_some αs) α y (some_element e p α y a is m) (scaled e p α y a is m)

  module _ (allowed : Allowed) (products : (g : Tree) → Contains allowed.products g → IsPlaced letter s ps [] F g)
      (none : (g : Tree) → ¬ Contains allowed.sums g) where
    -- a product whose factor isn't expressed by those before agrees with no expression over these
    pub new_product : (p : Tree) (α : Value (suc d)) → IsProductOf letter s p α → ¬ Expresses (ValueF (suc d)) (rational_functions d).σ (factors αs) α
        → (e : Tree) → OwnBuilt allowed e → ¬ Meet letter e p
    new_product p α is free e o m =
        let y = element_over letter s ps [] F allowed.products products allowed.sums (λ g c. absurd (none g c)) e (built_over allowed e o) in
        free (expressed_by e p α y.0 y.1 is m)
