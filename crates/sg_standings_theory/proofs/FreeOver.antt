-- The sums at the places of a tower over products are new in values.
--   IsFreeOver ps before g     no expression over the products and the sums before, whose divisors hold no sum, agrees with g from any
--                              point on; where there are products, this is `IsNewSum`
--   free_over                  each sum at one of the places is so over the products and all sums before it
use Rattle.std.proofs.Common.{◌≡◌, ℕ, zero, suc, ◌<◌, ℤ, pos, ◌+ℤ◌, refl, sym, ap, ◌∙◌, subst, List, [], ◌∷◌, ◌++◌, length, get_or, append_assoc, ◌⊎◌, inl, inr, arith}
use Rattle.std.proofs.lemmas.List.{get_or_append_left, get_or_push, length-append, length_push}
use Rattle.sg_algebra.specs.Coefficients.{Each}
use Rattle.sg_algebra.proofs.Lists.{each_to}
use Rattle.sg_algebra.proofs.Value.{Value}
use Rattle.sg_spec.specs.Tree.{Tree, here}
use Rattle.sg_spec.specs.Generators.{Allowed, BuiltOver}
use Rattle.sg_spec.specs.Telescoping.{Agree}
use Rattle.sg_worth_theory.proofs.Closes.{no_letter}
use Rattle.sg_tower_theory.proofs.Nested.{Shape}
use Rattle.sg_tower_theory.proofs.Formal.{Formal, Element, one_more, no_sums, base, IsIndependent}
use Rattle.sg_value_theory.proofs.TowerOf.{IsTowerOf, at_places, Ascending}
use Rattle.sg_value_theory.proofs.PointsOf.{HasValues, HasUnits, point_at, is-point}
use Rattle.sg_value_theory.proofs.Lists.{each-at}
use Rattle.sg_depth_theory.proofs.Sums.{each_place}
use Rattle.std.proofs.Common.{Contains, false}
use Rattle.sg_answers_theory.proofs.ElementsOver.{AgreesFrom, IsPlaced}
use Rattle.sg_answers_theory.proofs.Answers.{GrowsBy, new_sum}
use Rattle.sg_answers_theory.proofs.OwnProducts.{placed_up}
use Rattle.sg_answers_theory.proofs.Meeting.{meet_of_agree}
use Rattle.sg_product_theory.proofs.None.{sum-at}
use Rattle.sg_forms_theory.proofs.Prefix.{Split, split_places, without-known, New, without-new, grows}

abbrev pub over : List Tree → List Tree → Allowed
over ps before = record { parameter = false; products = ps; sums = before }

abbrev pub IsFreeOver : List Tree → List Tree → Tree → Type 0
IsFreeOver ps before g = (e : Tree) → BuiltOver (over ps before) e → ¬ Agree e g

each_left : {A : Type 0} (P : A → Type 0) (xs ys : List A) → Each P (xs ++ ys) → Each P xs
each_left P [] ys h = tt
each_left P (x ∷ xs) ys h = (h.0, each_left P xs ys h.1)

each_right : {A : Type 0} (P : A → Type 0) (xs ys : List A) → Each P (xs ++ ys) → Each P ys
each_right P [] ys h = h
each_right P (x ∷ xs) ys h = each_right P xs ys h.1

abbrev made : (αs : List (Value 1)) (n : ℕ) → Shape (base αs) n → Formal 0
made αs n sh = record { products = αs; sums = n; shape = sh }

-- the products qs are placed over the free ones ps of them, whose factors are αs
module _ (s : ℤ) (ps qs : List Tree) (units : Each (HasUnits no_letter) ps) (αs : List (Value 1))
    (placed : (g : Tree) → Contains qs g → IsPlaced no_letter s ps [] (no_sums αs) g) where
  -- ---- The last of the sums

  module _ (before : List Tree) (g : Tree) (n : ℕ) (sh : Shape (base αs) n) (β : Element (made αs n sh)) (places : List ℕ)
      (known : List (Element (one_more (made αs n sh) β)))
      (is : IsTowerOf no_letter s ps (before ++ g ∷ []) (one_more (made αs n sh) β) (places ++ length before ∷ []) known)
      (ascends : Ascending places) (inside : Each (λ i. i < length before) places) (all : Each (HasValues no_letter) before) (has : HasValues no_letter g) (independent : IsIndependent (one_more (made αs n sh) β)) where
    abbrev F : Formal 0
    F = made αs n sh

    lower : New no_letter s ps before g F β places known is ascends inside has
    lower = without-new no_letter s ps before g F β places known is ascends inside has

    frees : Each (HasValues no_letter) (at_places before places)
    frees = each_place (HasValues no_letter) before (length before) places (λ i l. each-at (HasValues no_letter) before i here l all) inside

    grown : GrowsBy no_letter s ps (at_places before places) F lower.tower.follows units frees independent.0 g β
    grown p l i =
        let q = point_at no_letter ps units (at_places before places) frees (p.variable +ℤ pos 1) in
        let u = has p.variable in
        let w = has (p.variable +ℤ pos 1) in
        (w.0, u.0, w.1, u.1, grows no_letter s ps before g F β places known is ascends inside has p q l refl i (is-point no_letter ps units (at_places before places) frees (p.variable +ℤ pos 1)))

    free_last : IsFreeOver qs before g
    free_last e o agree =
        new_sum no_letter s ps (at_places before places) F lower.tower.follows units frees independent.0 (over qs before)
        (λ t c. placed_up no_letter s ps (at_places before places) (made αs n sh) t (placed t c))
        (λ t c. sum-at F (λ t x. AgreesFrom no_letter s ps (at_places before places) F x t) [] before lower.known_before lower.tower.known_agree t c)
        g β grown independent.1 e o (meet_of_agree e g agree)

  -- ---- Any of the sums

  -- so many sums stand behind g
  abbrev Peels : ℕ → List Tree → Tree → Type 0
  Peels k before g =
      (after : List Tree) → length after ≡ k → (n : ℕ) (sh : Shape (base αs) n) (places : List ℕ) (known : List (Element (made αs n sh)))
      → IsTowerOf no_letter s ps (before ++ g ∷ after) (made αs n sh) places known → IsIndependent (made αs n sh) → Each (HasValues no_letter) (before ++ g ∷ after)
      → (j : ℕ) → j < length places → get_or places j 0 ≡ length before → IsFreeOver qs before g

  inside-of : (before : List Tree) (g : Tree) (places : List ℕ) → Each (λ i. i < length (before ++ g ∷ [])) places
      → Each (λ i. i < suc (length before)) places
  inside-of before g places h = each_to (λ i. i < length (before ++ g ∷ [])) (λ i. i < suc (length before)) places (λ i l. let e = length_push before g in omega (arith, l, e)) h

  begun : (before : List Tree) (g : Tree) → Peels 0 before g
  begun before g (x ∷ after) e n sh places known is independent all j l at = absurd (omega (arith, e))
  begun before g [] e n sh places known is independent all j l at = cases (split_places (length before) places is.ascending (inside-of before g places is.inside))
    where
      last : (n : ℕ) (sh : Shape (base αs) n) (places' : List ℕ) (known : List (Element (made αs n sh)))
          → IsTowerOf no_letter s ps (before ++ g ∷ []) (made αs n sh) (places' ++ length before ∷ []) known → IsIndependent (made αs n sh)
          → Ascending places' → Each (λ i. i < length before) places' → IsFreeOver qs before g
      last zero sh places' known is independent a i = absurd (let z = is.size in let m = length_push places' (length before) in omega (arith, z, m))
      last (suc n) sh places' known is independent a i =
          free_last before g n sh.0 sh.1 places' known is a i (each_left (HasValues no_letter) before (g ∷ []) all) (each_right (HasValues no_letter) before (g ∷ []) all).0 independent

      cases : Split (length before) places → IsFreeOver qs before g
      cases (inl h) = absurd (let k = each-at (λ i. i < length before) places j 0 l h in let e = at in omega (arith, k, e))
      cases (inr w) = last n sh w.0 known (subst (λ (is' : List ℕ). IsTowerOf no_letter s ps (before ++ g ∷ []) (made αs n sh) is' known) w.1 is) independent w.2 w.3

  snoc : (x : Tree) (xs : List Tree) → (ys : List Tree) × (y : Tree) × (x ∷ xs ≡ ys ++ y ∷ []) × (length ys ≡ length xs)
  snoc x [] = ([], x, refl, refl)
  snoc x (z ∷ zs) = go (snoc z zs)
    where
      go : (ys : List Tree) × (y : Tree) × (z ∷ zs ≡ ys ++ y ∷ []) × (length ys ≡ length zs)
          → (ys : List Tree) × (y : Tree) × (x ∷ (z ∷ zs) ≡ ys ++ y ∷ []) × (length ys ≡ suc (length zs))
      go r = (x ∷ r.0, r.1, ap (λ (l : List Tree). x ∷ l) r.2, ap suc r.3)

  -- the places before the last
  left_place : (places : List ℕ) (n j m : ℕ) → j < length (places ++ n ∷ []) → get_or (places ++ n ∷ []) j 0 ≡ m → m < n
      → (j < length places) × (get_or places j 0 ≡ m)
  left_place places n j m l e less = cases (below_or j (length places) (let k = length_push places n in omega (arith, l, k)))
    where
      below_or : (i n : ℕ) → i < suc n → (i < n) ⊎ (i ≡ n)
      below_or i n l = grind (arith, l)

      cases : (j < length places) ⊎ (j ≡ length places) → (j < length places) × (get_or places j 0 ≡ m)
      cases (inl h) = (h, sym (get_or_append_left places (n ∷ []) 0 j h) ∙ e)
      cases (inr h) = absurd (let k = get_or_push places n 0 j (sym h) in omega (arith, k, e, less))

  module _ (k : ℕ) (before : List Tree) (g : Tree) (again : Peels k before g) (init : List Tree) (x : Tree) (e : length init ≡ k) where
    abbrev front : List Tree
    front = before ++ g ∷ init

    longer : length before < length front
    longer = let m = length-append before (g ∷ init) in omega (arith, m)

    step : (n : ℕ) (sh : Shape (base αs) n) (places : List ℕ) (known : List (Element (made αs n sh)))
        → IsTowerOf no_letter s ps (front ++ x ∷ []) (made αs n sh) places known
        → IsIndependent (made αs n sh) → Each (HasValues no_letter) (front ++ x ∷ []) → (j : ℕ) → j < length places → get_or places j 0 ≡ length before → IsFreeOver qs before g
    step n sh places known is independent all j l at = cases (split_places (length front) places is.ascending (inside-of front x places is.inside))
      where
        last : (n : ℕ) (sh : Shape (base αs) n) (places' : List ℕ) (known : List (Element (made αs n sh)))
            → IsTowerOf no_letter s ps (front ++ x ∷ []) (made αs n sh) (places' ++ length front ∷ []) known → IsIndependent (made αs n sh)
            → Ascending places' → Each (λ i. i < length front) places' → (j < length places') × (get_or places' j 0 ≡ length before) → IsFreeOver qs before g
        last zero sh places' known is independent a i w = absurd (let z = is.size in let m = length_push places' (length front) in omega (arith, z, m))
        last (suc n) sh places' known is independent a i w =
            let has = (each_right (HasValues no_letter) front (x ∷ []) all).0 in
            let lower = without-new no_letter s ps front x (made αs n sh.0) sh.1 places' known is a i has in
            again init e n sh.0 places' lower.known_before lower.tower independent.0 (each_left (HasValues no_letter) front (x ∷ []) all) j w.0 w.1

        cases : Split (length front) places → IsFreeOver qs before g
        cases (inl h) =
            let r = without-known no_letter s ps front x (made αs n sh) places known is h in
            again init e n sh places r.known_before r.tower independent (each_left (HasValues no_letter) front (x ∷ []) all) j l at
        cases (inr w) =
            last n sh w.0 known (subst (λ (is' : List ℕ). IsTowerOf no_letter s ps (front ++ x ∷ []) (made αs n sh) is' known) w.1 is) independent w.2 w.3
            (left_place w.0 (length front) j (length before) (subst (λ (is' : List ℕ). j < length is') w.1 l) (ap (λ (is' : List ℕ). get_or is' j 0) (sym w.1) ∙ at) longer)

  next : (k : ℕ) (before : List Tree) (g : Tree) → Peels k before g → Peels (suc k) before g
  next k before g again [] e n sh places known is independent all j l at = absurd (omega (arith, e))
  next k before g again (x ∷ after) e n sh places known is independent all j l at = go (snoc x after)
    where
      go : (ys : List Tree) × (y : Tree) × (x ∷ after ≡ ys ++ y ∷ []) × (length ys ≡ length after) → IsFreeOver qs before g
      go r =
          let regroup : before ++ g ∷ (x ∷ after) ≡ (before ++ g ∷ r.0) ++ r.1 ∷ [] = ap (λ (zs : List Tree). before ++ g ∷ zs) r.2 ∙ sym (append_assoc before (g ∷ r.0) (r.1 ∷ [])) in
          let size = r.3 in
          step k before g again r.0 r.1 (omega (arith, size, e)) n sh places known (subst (λ (gs : List Tree). IsTowerOf no_letter s ps gs (made αs n sh) places known) regroup is) independent
          (subst (λ (gs : List Tree). Each (HasValues no_letter) gs) regroup all) j l at

  peels : (k : ℕ) (before : List Tree) (g : Tree) → Peels k before g
  peels zero before g = begun before g
  peels (suc k) before g = next k before g (peels k before g)

pub free_over : (s : ℤ) (ps qs : List Tree) → Each (HasUnits no_letter) ps
    → (before : List Tree) (g : Tree) (after : List Tree) (F : Formal 0) (places : List ℕ) (known : List (Element F))
    → ((q : Tree) → Contains qs q → IsPlaced no_letter s ps [] (no_sums F.products) q) → IsTowerOf no_letter s ps (before ++ g ∷ after) F places known → IsIndependent F
    → Each (HasValues no_letter) (before ++ g ∷ after) → (j : ℕ) → j < length places → get_or places j 0 ≡ length before → IsFreeOver qs before g
free_over s ps qs units before g after F places known placed is independent all j l at = peels s ps qs units F.products placed (length after) before g after refl F.sums F.shape places known is independent all j l at
