-- A tower that stands over the first sums stands over one more.
--   free        the sum is new: the tower has one more sum
--   expressed   it is expressed: an element agrees with it
use Rattle.std.proofs.Common.{◌≡◌, ◌≢◌, ℕ, zero, suc, ◌+◌, ◌<◌, ◌≤◌, ◌==◌, ℤ, pos, ◌+ℤ◌, ◌-ℤ◌, ◌≤ℤ◌, refl, sym, ap, ◌∙◌, subst, List, [], ◌∷◌, ◌++◌, length, map, get_or, cond, true, false, ◌⊎◌, inl, inr, arith}
use Rattle.std.proofs.lemmas.Int.{ints}
use Rattle.std.proofs.lemmas.List.{get_or_append_left, get_or_push, get_or-map, length-map, length_push}
use Rattle.std.proofs.lemmas.Bool.{eq-eqb}
use Rattle.std.proofs.lemmas.Bool.Decides.{eqb_tells}
use Rattle.sg_algebra.specs.Coefficients.{Each}
use Rattle.sg_algebra.proofs.Value.{Value}
use Rattle.sg_algebra.proofs.PolynomialRing.{constantH}
use Rattle.sg_algebra.proofs.Place.{Pairwise}
use Rattle.sg_spec.specs.Tree.{Tree, here, sum_from}
use Rattle.sg_algebra.proofs.Lists.{each_to}
use Rattle.sg_tower_theory.proofs.Slices.{pairwise_to, pairwise_length}
use Rattle.sg_tower_theory.proofs.Nested.{NestedR}
use Rattle.sg_tower_theory.proofs.Formal.{Formal, Element, elements, shifted, one_more, base, own_sum}
use Rattle.sg_spec.specs.Worth.{HasWorth}
use Rattle.sg_value_theory.proofs.Elements.{Point, HasElement, Follows}
use Rattle.sg_value_theory.proofs.TreePoints.{AreValues, IsPointOf, Agrees}
use Rattle.sg_value_theory.proofs.TowerOf.{IsTowerOf, at_places, up_to, HoldsBelow, HoldsIn}
use Rattle.sg_value_theory.proofs.Evaluations.{evaluation}
use Rattle.sg_value_theory.proofs.Moving.{moves}
use Rattle.sg_value_theory.proofs.Growing.{sum-grows, follows-more, agrees-raised, agrees-own}
use Rattle.sg_value_theory.proofs.Lists.{each-more, each-at, pairwise-more, pairwise-raised, at_places-more, at_places-new, ascending-more, up_to-all, up_to-more, up_to-new, values-parts}

below_or_last : (i n : ℕ) → i < suc n → (i < n) ⊎ (i ≡ n)
below_or_last zero zero l = inr refl
below_or_last zero (suc n) l = inl (omega arith)
below_or_last (suc i) zero l = absurd (omega (arith, l))
below_or_last (suc i) (suc n) l = cases (below_or_last i n (omega (arith, l)))
  where
    cases : (i < n) ⊎ (i ≡ n) → (suc i < suc n) ⊎ (suc i ≡ suc n)
    cases (inl h) = inl (omega (arith, h))
    cases (inr e) = inr (ap suc e)

less-eqb : (a b : ℕ) → a < b → (a == b) ≡ false
less-eqb a b l = cases (eqb_tells a b)
  where
    cases : (((a == b) ≡ true) × (a ≡ b)) ⊎ (((a == b) ≡ false) × (a ≢ b)) → (a == b) ≡ false
    cases (inl h) = let e = h.1 in absurd (omega (arith, l, e))
    cases (inr h) = h.0

-- no sum stands from their number on
nothing_in : {d : ℕ} (αs : List (Value (suc d))) (n m : ℕ) (x : (NestedR (base αs) n).A) → n ≤ m → HoldsIn αs n m x
nothing_in αs zero m x l = tt
nothing_in αs (suc n) m x l = λ h. absurd (omega (arith, l, h))

module _ {d : ℕ} (letter : Value d) (s : ℤ) (ps before : List Tree) (f : Formal d) (places : List ℕ) (known : List (Element f)) (is : IsTowerOf letter s ps before f places known) (from : ℤ) (body : Tree) where
  abbrev g : Tree
  g = sum_from from body

  abbrev after : List Tree
  after = before ++ g ∷ []

  abbrev IsPoint : Point d → Type 0
  IsPoint p = IsPointOf letter ps (at_places before places) p

  known-length : length known ≡ length before
  known-length = sym (pairwise_length (λ g x. (p : Point d) → s ≤ℤ p.variable → IsPoint p → Agrees letter f p x g) before known is.known_agree)

  after-length : length after ≡ suc (length before)
  after-length = let e : length before + 1 ≡ suc (length before) = omega arith in length_push before g ∙ e

  inside-after : Each (λ i. i < length after) places
  inside-after = each_to (λ i. i < length before) (λ i. i < length after) places (λ i l. let e = after-length in omega (arith, l, e)) is.inside

  -- ---- The sum is new: β is the shifted element of its body
  module _ (starts : (from -ℤ pos 1) ≤ℤ s) (has : (j : ℤ) → from ≤ℤ j → (v : Value d) × HasWorth letter body j v) (x β : Element f)
      (placed : (p : Point d) → s ≤ℤ p.variable → IsPoint p → Agrees letter f p x body) (shifts : (elements f).◌≈◌ β ((shifted f).σ.on x)) where
    -- β has the value of the body one place further
    pub grows : (p q : Point d) → s ≤ℤ p.variable → q.variable ≡ p.variable +ℤ pos 1 → IsPoint p → IsPoint q → (w : Value d) → HasWorth letter body (p.variable +ℤ pos 1) w → HasElement f p β w
    grows p q l e i j w h =
        (evaluation f p).same ((shifted f).σ.on x) β w ((elements f).symm shifts)
        (moves f p q (is.follows p q l e i j) x w (placed q (omega (arith, ints, l, e)) j w (subst (λ (k : ℤ). HasWorth letter body k w) (sym e) h)))

    abbrev more : Formal d
    more = one_more f β

    module _ (own : Element more) (own_is : (elements more).◌≈◌ own ((elements f).O ∷ (elements f).I ∷ [])) where
      abbrev places' : List ℕ
      places' = places ++ length before ∷ []

      abbrev raised' : List (Element more)
      raised' = map (λ (y : Element f). y ∷ []) known

      abbrev known' : List (Element more)
      known' = raised' ++ own ∷ []

      at : at_places after places' ≡ at_places before places ++ g ∷ []
      at = at_places-new before g places is.inside

      parts : (p : Point d) → IsPointOf letter ps (at_places after places') p → IsPoint p × HasWorth letter g p.variable (p.sums f.sums)
      parts p h =
          let r = values-parts letter p.variable (at_places before places) g p.sums (subst (λ (gs : List Tree). AreValues letter p.variable gs p.sums) at h.1) in
          ((h.0, r.0), subst (λ (n : ℕ). HasWorth letter g p.variable (p.sums n)) (length-map places (λ i. get_or before i here) ∙ is.size) r.1)

      follows' : (p q : Point d) → s ≤ℤ p.variable → q.variable ≡ p.variable +ℤ pos 1 → IsPointOf letter ps (at_places after places') p → IsPointOf letter ps (at_places after places') q → Follows more p q
      follows' p q l e i j =
          let a = parts p i in
          let b = parts q j in
          let w = has (p.variable +ℤ pos 1) (omega (arith, ints, l, starts)) in
          follows-more letter f β p q w.0 (is.follows p q l e a.0 b.0) (grows p q l e a.0 b.0 w.0 w.1)
          (sum-grows letter from body p.variable (p.sums f.sums) (q.sums f.sums) w.0 (omega (arith, ints, l, starts)) a.1 (subst (λ (k : ℤ). HasWorth letter g k (q.sums f.sums)) e b.1) w.1)

      abbrev AgreesMore : Tree → Element more → Type 0
      AgreesMore h y = (p : Point d) → s ≤ℤ p.variable → IsPointOf letter ps (at_places after places') p → Agrees letter more p y h

      known_agree' : Pairwise AgreesMore after known'
      known_agree' =
          pairwise-more AgreesMore before raised' g own
          (pairwise-raised (λ h y. (p : Point d) → s ≤ℤ p.variable → IsPoint p → Agrees letter f p y h) AgreesMore (λ (y : Element f). y ∷ []) before known
          (λ h y k p l i. agrees-raised letter f β y p h (k p l (parts p i).0)) is.known_agree)
          (λ p l i v w. (evaluation more p).same ((elements f).O ∷ (elements f).I ∷ []) own v ((elements more).symm own_is) (agrees-own letter f β p g (parts p i).1 v w))

      size' : length places' ≡ suc f.sums
      size' = let e = is.size in let h = length_push places (length before) in omega (arith, e, h)

      read-raised : (j : ℕ) → j < length before → get_or known' j [] ≡ get_or known j (elements f).O ∷ []
      read-raised j l =
          let e = known-length in
          let m = length-map known (λ (y : Element f). y ∷ []) in
          get_or_append_left raised' (own ∷ []) [] j (omega (arith, l, e, m)) ∙ get_or-map (λ (y : Element f). y ∷ []) known j (elements f).O [] (omega (arith, l, e))

      read-own : (j : ℕ) → j ≡ length before → get_or known' j [] ≡ own
      read-own j i = get_or_push raised' own [] j (length-map known (λ (y : Element f). y ∷ []) ∙ known-length ∙ sym i)

      own' : (i : ℕ) → i < suc f.sums → (elements more).◌≈◌ (get_or known' (get_or places' i 0) []) (own_sum more i)
      own' i l = cases (below_or_last i f.sums l)
        where
          cases : (i < f.sums) ⊎ (i ≡ f.sums) → (elements more).◌≈◌ (get_or known' (get_or places' i 0) []) (own_sum more i)
          cases (inl h) =
              let z = is.size in
              let e : get_or places' i 0 ≡ get_or places i 0 = get_or_append_left places (length before ∷ []) 0 i (omega (arith, h, z)) in
              let k : get_or places i 0 < length before = each-at (λ j. j < length before) places i 0 (omega (arith, h, z)) is.inside in
              subst (λ (y : Element more). (elements more).◌≈◌ y (own_sum more i)) (sym (ap (λ j. get_or known' j []) e ∙ read-raised (get_or places i 0) k))
              (subst (λ b. (elements more).◌≈◌ (get_or known (get_or places i 0) (elements f).O ∷ []) (cond b ((elements f).O ∷ (elements f).I ∷ []) (own_sum f i ∷ []))) (sym (less-eqb i f.sums h))
              ((constantH (elements f)).on_cong (get_or known (get_or places i 0) (elements f).O) (own_sum f i) (is.own i h)))
          cases (inr h) =
              subst (λ (y : Element more). (elements more).◌≈◌ y (own_sum more i)) (sym (read-own (get_or places' i 0) (get_or_push places (length before) 0 i (is.size ∙ sym h))))
              (subst (λ b. (elements more).◌≈◌ own (cond b ((elements f).O ∷ (elements f).I ∷ []) (own_sum f i ∷ []))) (sym (eq-eqb i f.sums h)) own_is)

      earlier' : (j : ℕ) → j < length after → HoldsBelow more (up_to j places') (get_or known' j [])
      earlier' j l = let e = after-length in cases (below_or_last j (length before) (omega (arith, l, e)))
        where
          cases : (j < length before) ⊎ (j ≡ length before) → HoldsBelow more (up_to j places') (get_or known' j [])
          cases (inl h) =
              subst (λ (y : Element more). HoldsBelow more (up_to j places') y) (sym (read-raised j h))
              (subst (λ n. HoldsBelow more n (get_or known j (elements f).O ∷ [])) (sym (up_to-more j places (length before) h))
              (λ q. (get_or known j (elements f).O, (elements more).rfl, is.earlier j h)))
          cases (inr h) =
              subst (λ n. HoldsBelow more n (get_or known' j [])) (sym (ap (λ i. up_to i places') h ∙ up_to-new places (length before) is.inside ∙ ap suc is.size))
              (nothing_in f.products (suc f.sums) (suc f.sums) (get_or known' j []) (omega arith))

      pub free : IsTowerOf letter s ps after more places' known'
      free = record {
        adjoined = is.adjoined;
        size = size';
        ascending = ascending-more places (length before) is.ascending is.inside;
        inside = each-more (λ i. i < length after) places (length before) inside-after (let e = after-length in omega (arith, e));
        follows = follows';
        known_agree = known_agree';
        own = own';
        earlier = earlier';
      }

  -- ---- The sum is expressed
  module _ (h : Element f) (agrees : (p : Point d) → s ≤ℤ p.variable → IsPoint p → Agrees letter f p h g) where
    abbrev more-known : List (Element f)
    more-known = known ++ h ∷ []

    back : (p : Point d) → IsPointOf letter ps (at_places after places) p → IsPoint p
    back p i = (i.0, subst (λ (gs : List Tree). AreValues letter p.variable gs p.sums) (at_places-more before g places is.inside) i.1)

    abbrev AgreesHere : Tree → Element f → Type 0
    AgreesHere t y = (p : Point d) → s ≤ℤ p.variable → IsPointOf letter ps (at_places after places) p → Agrees letter f p y t

    reads : (j : ℕ) → j < length before → get_or more-known j (elements f).O ≡ get_or known j (elements f).O
    reads j l = let e = known-length in get_or_append_left known (h ∷ []) (elements f).O j (omega (arith, l, e))

    own-same : (i : ℕ) → i < f.sums → (elements f).◌≈◌ (get_or more-known (get_or places i 0) (elements f).O) (own_sum f i)
    own-same i l =
        let z = is.size in
        subst (λ (y : Element f). (elements f).◌≈◌ y (own_sum f i)) (sym (reads (get_or places i 0) (each-at (λ j. j < length before) places i 0 (omega (arith, l, z)) is.inside))) (is.own i l)

    earlier-same : (j : ℕ) → j < length after → HoldsBelow f (up_to j places) (get_or more-known j (elements f).O)
    earlier-same j l = let e = after-length in cases (below_or_last j (length before) (omega (arith, l, e)))
      where
        cases : (j < length before) ⊎ (j ≡ length before) → HoldsBelow f (up_to j places) (get_or more-known j (elements f).O)
        cases (inl k) = subst (λ (y : Element f). HoldsBelow f (up_to j places) y) (sym (reads j k)) (is.earlier j k)
        cases (inr k) =
            subst (λ n. HoldsBelow f n (get_or more-known j (elements f).O)) (sym (ap (λ i. up_to i places) k ∙ up_to-all (length before) places is.inside ∙ is.size))
            (nothing_in f.products f.sums f.sums (get_or more-known j (elements f).O) (omega arith))

    pub expressed : IsTowerOf letter s ps after f places more-known
    expressed = record {
      adjoined = is.adjoined;
      size = is.size;
      ascending = is.ascending;
      inside = inside-after;
      follows = λ p q l e i j. is.follows p q l e (back p i) (back q j);
      known_agree = pairwise-more AgreesHere before known g h
          (pairwise_to (λ t y. (p : Point d) → s ≤ℤ p.variable → IsPoint p → Agrees letter f p y t) AgreesHere before known (λ t y k p l i. k p l (back p i)) is.known_agree)
          (λ p l i. agrees p l (back p i));
      own = own-same;
      earlier = earlier-same;
    }
