-- The tower over the sums of a list, and that over all but the last of them.
--   without-known      the last sum is expressed: the tower stands over those before it
--   without-new        the last sum is new: the tower without it stands over those before it; `grows`: its last level is what the sum grows by
--   split_places       whether the last sum is new
use Rattle.std.proofs.Common.{◌≡◌, ◌≢◌, ℕ, zero, suc, ◌<◌, ◌≤◌, ◌==◌, nat_le, Bool, ℤ, pos, ◌+ℤ◌, ◌≤ℤ◌, refl, sym, ap, ap₂, ◌∙◌, subst, List, [], ◌∷◌, ◌++◌, length, get_or, cond, true, false, ◌⊎◌, inl, inr, arith}
use Rattle.std.proofs.lemmas.List.{get_or_append_left, get_or_push, length-map, length_push}
use Rattle.std.proofs.lemmas.Bool.{eq-eqb}
use Rattle.std.proofs.lemmas.Bool.Decides.{eqb_tells}
use Rattle.sg_algebra.specs.Ring.{Ring}
use Rattle.sg_algebra.specs.Coefficients.{Each, coef}
use Rattle.sg_algebra.proofs.Value.{Value, ◌-ᵛ◌, zero_value}
use Rattle.sg_algebra.proofs.Place.{Pairwise}
use Rattle.sg_spec.specs.Tree.{Tree, here}
use Rattle.sg_spec.specs.Worth.{HasWorth}
use Rattle.sg_tower_theory.proofs.Slices.{pairwise_length}
use Rattle.sg_tower_theory.proofs.Nested.{Shape}
use Rattle.sg_tower_theory.proofs.Formal.{Formal, Element, elements, one_more, base, own_sum}
use Rattle.sg_value_theory.proofs.Elements.{Point, HasElement, HasIn, IsPolynomialAt, Follows, FollowsIn}
use Rattle.sg_value_theory.proofs.Evaluation.{Evaluation}
use Rattle.sg_value_theory.proofs.Polynomials.{raised-constant, at_unique}
use Rattle.sg_value_theory.proofs.TreePoints.{AreValues, IsPointOf, Agrees}
use Rattle.sg_value_theory.proofs.TowerOf.{IsTowerOf, at_places, up_to, Ascending, HoldsBelow}
use Rattle.sg_value_theory.proofs.PointsOf.{HasValues}
use Rattle.sg_value_theory.proofs.Evaluations.{evaluation, same-at}
use Rattle.sg_value_theory.proofs.Lists.{each-at, at_places-more, at_places-new, up_to-more}

-- ---- The last of the places

abbrev pub Split : ℕ → List ℕ → Type 0
Split n places = Each (λ i. i < n) places ⊎ ((before : List ℕ) × (places ≡ before ++ n ∷ []) × Ascending before × Each (λ i. i < n) before)

each_less : (n m : ℕ) (places : List ℕ) → n ≤ m → Each (λ i. i < n) places → Each (λ i. i < m) places
each_less n m [] l h = tt
each_less n m (i ∷ is) l h = (let k = h.0 in omega (arith, k, l), each_less n m is l h.1)

-- nothing stands between
pub split_places : (n : ℕ) (places : List ℕ) → Ascending places → Each (λ i. i < suc n) places → Split n places
split_places n [] a h = inl tt
split_places n (i ∷ []) a h = cases (below_or i n h.0)
  where
    below_or : (i n : ℕ) → i < suc n → (i < n) ⊎ (i ≡ n)
    below_or i n l = grind (arith, l)

    cases : (i < n) ⊎ (i ≡ n) → Split n (i ∷ [])
    cases (inl l) = inl (l, tt)
    cases (inr e) = inr ([], ap (λ (j : ℕ). j ∷ []) e, tt, tt)
split_places n (i ∷ (j ∷ js)) a h = cases (split_places n (j ∷ js) a.1 h.1)
  where
    less : i < n
    less = let k = a.0 in let m = h.1.0 in omega (arith, k, m)

    ascends : (before : List ℕ) → j ∷ js ≡ before ++ n ∷ [] → Ascending before → Ascending (i ∷ before)
    ascends [] e b = tt
    ascends (k ∷ ks) e b = (let l = a.0 in let f : j ≡ k = cc in omega (arith, l, f), b)

    cases : Split n (j ∷ js) → Split n (i ∷ (j ∷ js))
    cases (inl l) = inl (less, l)
    cases (inr w) = inr (i ∷ w.0, ap (λ (xs : List ℕ). i ∷ xs) w.1, ascends w.0 w.1 w.2, (less, w.3))

-- ---- Lists in step

pairwise_init : {A B : Type 0} (R : A → B → Type 0) (xs : List A) (x : A) (ys : List B) → Pairwise R (xs ++ x ∷ []) ys → (zs : List B) × (z : B) × (ys ≡ zs ++ z ∷ []) × Pairwise R xs zs × R x z
pairwise_init R [] x [] h = absurd h
pairwise_init R [] x (y ∷ []) h = ([], y, refl, tt, h.0)
pairwise_init R [] x (y ∷ (z ∷ zs)) h = absurd h.1
pairwise_init R (a ∷ xs) x [] h = absurd h
pairwise_init {A} {B} R (a ∷ xs) x (y ∷ ys) h = go (pairwise_init R xs x ys h.1)
  where
    go : (zs : List B) × (z : B) × (ys ≡ zs ++ z ∷ []) × Pairwise R xs zs × R x z → (zs : List B) × (z : B) × (y ∷ ys ≡ zs ++ z ∷ []) × Pairwise R (a ∷ xs) zs × R x z
    go r = (y ∷ r.0, r.1, ap (λ (l : List B). y ∷ l) r.2, (h.0, r.3), r.4)

pairwise_at : {A B : Type 0} (R : A → B → Type 0) (xs : List A) (ys : List B) (d : B) (c : A) → Pairwise R xs ys → (i : ℕ) → i < length xs → R (get_or xs i c) (get_or ys i d)
pairwise_at R [] ys d c h i l = absurd (omega (arith, l))
pairwise_at R (x ∷ xs) [] d c h i l = absurd h
pairwise_at R (x ∷ xs) (y ∷ ys) d c h zero l = h.0
pairwise_at R (x ∷ xs) (y ∷ ys) d c h (suc i) l = pairwise_at R xs ys d c h.1 i (omega (arith, l))

pairwise_from : {A B : Type 0} (R : A → B → Type 0) (xs : List A) (ys : List B) (d : B) (c : A) → length ys ≡ length xs → ((i : ℕ) → i < length xs → R (get_or xs i c) (get_or ys i d)) → Pairwise R xs ys
pairwise_from R [] [] d c e h = tt
pairwise_from R [] (y ∷ ys) d c e h = absurd (omega (arith, e))
pairwise_from R (x ∷ xs) [] d c e h = absurd (omega (arith, e))
pairwise_from R (x ∷ xs) (y ∷ ys) d c e h = (h 0 (omega arith), pairwise_from R xs ys d c (omega (arith, e)) (λ i l. h (suc i) (omega (arith, l))))

-- a list of so many items with a property each
listed : {B : Type 0} (P : ℕ → B → Type 0) (d : B) (n : ℕ) → ((i : ℕ) → i < n → (y : B) × P i y) → (ys : List B) × (length ys ≡ n) × ((i : ℕ) → i < n → P i (get_or ys i d))
listed P d zero h = ([], refl, λ i l. absurd (omega (arith, l)))
listed {B} P d (suc n) h = go (listed P d n (λ i l. h i (omega (arith, l)))) (h n (omega arith))
  where
    below_or : (i n : ℕ) → i < suc n → (i < n) ⊎ (i ≡ n)
    below_or i n l = grind (arith, l)

    go : (ys : List B) × (length ys ≡ n) × ((i : ℕ) → i < n → P i (get_or ys i d)) → (y : B) × P n y → (ys : List B) × (length ys ≡ suc n) × ((i : ℕ) → i < suc n → P i (get_or ys i d))
    go r y = (r.0 ++ y.0 ∷ [], (let e = length_push r.0 y.0 in let f = r.1 in omega (arith, e, f)), λ i l. at i (below_or i n l))
      where
        at : (i : ℕ) → (i < n) ⊎ (i ≡ n) → P i (get_or (r.0 ++ y.0 ∷ []) i d)
        at i (inl l) = subst (P i) (sym (get_or_append_left r.0 (y.0 ∷ []) d i (let f = r.1 in omega (arith, l, f)))) (r.2 i l)
        at i (inr e) = subst (λ (j : ℕ). P j (get_or (r.0 ++ y.0 ∷ []) j d)) (sym e) (subst (P n) (sym (get_or_push r.0 y.0 d n r.1)) y.1)

-- ---- The last sum is expressed

module _ {d : ℕ} (letter : Value d) (s : ℤ) (ps before : List Tree) (g : Tree) where
  module _ (F : Formal d) (places : List ℕ) (known : List (Element F)) (is : IsTowerOf letter s ps (before ++ g ∷ []) F places known) (inside : Each (λ i. i < length before) places) where
    abbrev AgreesLast : Tree → Element F → Type 0
    AgreesLast t x = (p : Point d) → s ≤ℤ p.variable → IsPointOf letter ps (at_places (before ++ g ∷ []) places) p → Agrees letter F p x t

    forward : (p : Point d) → IsPointOf letter ps (at_places before places) p → IsPointOf letter ps (at_places (before ++ g ∷ []) places) p
    forward p i = (i.0, subst (λ (gs : List Tree). AreValues letter p.variable gs p.sums) (sym (at_places-more before g places inside)) i.1)

    pub record Expressed : Type 0 where
      pub known_before : List (Element F)
      pub tower : IsTowerOf letter s ps before F places known_before

    pub without-known : Expressed
    without-known = go (pairwise_init AgreesLast before g known is.known_agree)
      where
        go : (zs : List (Element F)) × (z : Element F) × (known ≡ zs ++ z ∷ []) × Pairwise AgreesLast before zs × AgreesLast g z → Expressed
        go r = record {
          known_before = r.0;
          tower = record {
            adjoined = is.adjoined;
            size = is.size;
            ascending = is.ascending;
            inside = inside;
            follows = λ p q l e i j. is.follows p q l e (forward p i) (forward q j);
            known_agree = pairwise_by before r.0 r.3;
            own = λ i l. let z = is.size in subst (λ (y : Element F). (elements F).◌≈◌ y (own_sum F i)) (reads (get_or places i 0) (each-at (λ j. j < length before) places i 0 (omega (arith, l, z)) inside)) (is.own i l);
            earlier = λ j l. subst (λ (y : Element F). HoldsBelow F (up_to j places) y) (reads j l) (is.earlier j (let e = length_push before g in omega (arith, l, e)));
          };
        }
          where
            lengths : length before ≡ length r.0
            lengths = pairwise_length AgreesLast before r.0 r.3

            reads : (j : ℕ) → j < length before → get_or known j (elements F).O ≡ get_or r.0 j (elements F).O
            reads j l = ap (λ (xs : List (Element F)). get_or xs j (elements F).O) r.2 ∙ get_or_append_left r.0 (r.1 ∷ []) (elements F).O j (let e = lengths in omega (arith, l, e))

            pairwise_by : (xs : List Tree) (ys : List (Element F)) → Pairwise AgreesLast xs ys → Pairwise (λ t x. (p : Point d) → s ≤ℤ p.variable → IsPointOf letter ps (at_places before places) p → Agrees letter F p x t) xs ys
            pairwise_by [] [] h = tt
            pairwise_by [] (y ∷ ys) h = absurd h
            pairwise_by (x ∷ xs) [] h = absurd h
            pairwise_by (x ∷ xs) (y ∷ ys) h = (λ p l i. h.0 p l (forward p i), pairwise_by xs ys h.1)

-- ---- The last sum is new

values_join : {d : ℕ} (letter : Value d) (k : ℤ) (xs : List Tree) (g : Tree) (ts us : ℕ → Value d) → AreValues letter k xs ts → ((i : ℕ) → i < length xs → us i ≡ ts i) → HasWorth letter g k (us (length xs)) → AreValues letter k (xs ++ g ∷ []) us
values_join letter k [] g ts us h e w = (w, tt)
values_join letter k (x ∷ xs) g ts us h e w = (subst (HasWorth letter x k) (sym (e 0 (omega arith))) h.0, values_join letter k xs g (λ i. ts (suc i)) (λ i. us (suc i)) h.1 (λ i l. e (suc i) (omega (arith, l))) w)

less-eqb : (a b : ℕ) → a < b → (a == b) ≡ false
less-eqb a b l = cases (eqb_tells a b)
  where
    cases : (((a == b) ≡ true) × (a ≡ b)) ⊎ (((a == b) ≡ false) × (a ≢ b)) → (a == b) ≡ false
    cases (inl h) = let e = h.1 in absurd (omega (arith, l, e))
    cases (inr h) = h.0

few_up_to : (j : ℕ) (is : List ℕ) → up_to j is ≤ length is
few_up_to j [] = omega arith
few_up_to j (i ∷ is) = go (nat_le i j) (few_up_to j is)
  where
    go : (b : Bool) → up_to j is ≤ length is → cond b (suc (up_to j is)) (up_to j is) ≤ suc (length is)
    go true h = omega (arith, h)
    go false h = omega (arith, h)

-- the value of a constant polynomial is that of its coefficient
lowered-has : (E : Ring) {d : ℕ} (V : Evaluation E d) (t : Value d) (y : E.A) (v : Value d) → IsPolynomialAt E V.Has t (y ∷ []) v → V.Has y v
lowered-has E {d} V t y v h = go (picked h.coefficients h.values h.each)
  where
    picked : (cs : List E.A) (vs : List (Value d)) → Pairwise V.Has cs vs → (w : Value d) × V.Has (coef E cs 0) w
    picked [] vs k = (zero_value, V.zero_has)
    picked (c ∷ cs) [] k = absurd k
    picked (c ∷ cs) (w ∷ ws) k = (w, k.0)

    go : (w : Value d) × V.Has (coef E h.coefficients 0) w → V.Has y v
    go r =
        let y_has = V.same (coef E h.coefficients 0) y r.0 (E.symm (h.same.image.at 0)) r.1 in
        subst (V.Has y) (at_unique E V t (y ∷ []) r.0 v (raised-constant E V t y r.0 y_has) h) y_has

module _ {d : ℕ} where
  abbrev with_sums : Point d → (ℕ → Value d) → Point d
  with_sums p ts = record p { sums = ts }

  follows_alike : (αs : List (Value (suc d))) (n : ℕ) (sh : Shape (base αs) n) (p q : Point d) (ts us : ℕ → Value d) → ((i : ℕ) → i < n → ts i ≡ p.sums i) → ((i : ℕ) → i < n → us i ≡ q.sums i)
      → FollowsIn αs n sh (with_sums p ts) (with_sums q us) → FollowsIn αs n sh p q
  follows_alike αs zero sh p q ts us e f h = h
  follows_alike αs (suc n) sh p q ts us e f h = (
    follows_alike αs n sh.0 p q ts us (λ i l. e i (omega (arith, l))) (λ i l. f i (omega (arith, l))) h.0,
    subst (HasIn αs n p sh.1) (ap₂ ◌-ᵛ◌ (f n (omega arith)) (e n (omega arith)))
        (same-at (record { products = αs; sums = n; shape = sh.0 }) (with_sums p ts) p refl (λ i l. refl) (λ i l. e i (omega (arith, l))) sh.1 (us n -ᵛ ts n) h.1),
  )

module _ {d : ℕ} (letter : Value d) (s : ℤ) (ps before : List Tree) (g : Tree) (F : Formal d) (β : Element F) (places : List ℕ) (known : List (Element (one_more F β)))
    (is : IsTowerOf letter s ps (before ++ g ∷ []) (one_more F β) (places ++ length before ∷ []) known) (ascends : Ascending places) (inside : Each (λ i. i < length before) places) (has : HasValues letter g) where
  abbrev M : Formal d
  M = one_more F β

  few : length places ≡ F.sums
  few = let e = length_push places (length before) in let z = is.size in omega (arith, e, z)

  abbrev with_last : Point d → ℕ → Value d
  with_last p i = cond (i == F.sums) (has p.variable).0 (p.sums i)

  abbrev extended : Point d → Point d
  extended p = with_sums p (with_last p)

  kept : (p : Point d) (i : ℕ) → i < F.sums → with_last p i ≡ p.sums i
  kept p i l = ap (λ b. cond b (has p.variable).0 (p.sums i)) (less-eqb i F.sums l)

  last : (p : Point d) (i : ℕ) → i ≡ F.sums → with_last p i ≡ (has p.variable).0
  last p i e = ap (λ b. cond b (has p.variable).0 (p.sums i)) (eq-eqb i F.sums e)

  abbrev IsBefore : Point d → Type 0
  IsBefore p = IsPointOf letter ps (at_places before places) p

  counted : length (at_places before places) ≡ F.sums
  counted = length-map places (λ i. get_or before i here) ∙ few

  extends : (p : Point d) → IsBefore p → IsPointOf letter ps (at_places (before ++ g ∷ []) (places ++ length before ∷ [])) (extended p)
  extends p i = (
    i.0,
    subst (λ (gs : List Tree). AreValues letter p.variable gs (with_last p)) (sym (at_places-new before g places inside))
        (values_join letter p.variable (at_places before places) g p.sums (with_last p) i.1 (λ j l. kept p j (let e = counted in omega (arith, l, e)))
        (subst (HasWorth letter g p.variable) (sym (last p (length (at_places before places)) counted)) (has p.variable).1)),
  )

  follows-before : (p q : Point d) → s ≤ℤ p.variable → q.variable ≡ p.variable +ℤ pos 1 → IsBefore p → IsBefore q → Follows F p q
  follows-before p q l e i j = follows_alike F.products F.sums F.shape p q (with_last p) (with_last q) (kept p) (kept q) (is.follows (extended p) (extended q) l e (extends p i) (extends q j)).0

  -- the new sum grows by its last level
  pub grows : (p q : Point d) → s ≤ℤ p.variable → q.variable ≡ p.variable +ℤ pos 1 → IsPointOf letter ps (at_places before places) p → IsPointOf letter ps (at_places before places) q → HasElement F p β ((has q.variable).0 -ᵛ (has p.variable).0)
  grows p q l e i j =
      subst (HasElement F p β) (ap₂ ◌-ᵛ◌ (last q F.sums refl) (last p F.sums refl))
      (same-at F (extended p) p refl (λ i l. refl) (kept p) β (with_last q F.sums -ᵛ with_last p F.sums) (is.follows (extended p) (extended q) l e (extends p i) (extends q j)).1)

  -- ---- The known elements, one level down

  abbrev IsLowered : ℕ → Element F → Type 0
  IsLowered j y = (elements M).◌≈◌ (get_or known j (elements M).O) (y ∷ []) × HoldsBelow F (up_to j places) y

  lowers : (j : ℕ) → j < length before → (y : Element F) × IsLowered j y
  lowers j l =
      let e = length_push before g in
      let u = few_up_to j places in
      let z = few in
      let m : up_to j places ≤ F.sums = omega (arith, u, z) in
      let h = subst (λ (n : ℕ). HoldsBelow M n (get_or known j (elements M).O)) (up_to-more j places (length before) l) (is.earlier j (omega (arith, l, e))) in
      let r = h m in
      (r.0, (r.1, r.2))

  known_list : (ys : List (Element F)) × (length ys ≡ length before) × ((i : ℕ) → i < length before → IsLowered i (get_or ys i (elements F).O))
  known_list = listed IsLowered (elements F).O (length before) lowers

  agrees-before : (j : ℕ) → j < length before → (y : Element F) → IsLowered j y → (p : Point d) → s ≤ℤ p.variable → IsBefore p → Agrees letter F p y (get_or before j here)
  agrees-before j l y h p k i v w =
      let e = length_push before g in
      let at = pairwise_at (λ t x. (p : Point d) → s ≤ℤ p.variable → IsPointOf letter ps (at_places (before ++ g ∷ []) (places ++ length before ∷ [])) p → Agrees letter M p x t) (before ++ g ∷ []) known (elements M).O here is.known_agree j (omega (arith, l, e)) in
      let x_has = at (extended p) k (extends p i) v (subst (λ (t : Tree). HasWorth letter t p.variable v) (sym (get_or_append_left before (g ∷ []) here j l)) w) in
      let y_has = (evaluation M (extended p)).same (get_or known j (elements M).O) (y ∷ []) v h.0 x_has in
      same-at F (extended p) p refl (λ i l. refl) (kept p) y v (lowered-has (elements F) (evaluation F (extended p)) (with_last p F.sums) y v y_has)

  own-before : (ys : List (Element F)) → ((i : ℕ) → i < length before → IsLowered i (get_or ys i (elements F).O)) → (i : ℕ) → i < F.sums → (elements F).◌≈◌ (get_or ys (get_or places i 0) (elements F).O) (own_sum F i)
  own-before ys h i l =
      let z = few in
      let j = get_or places i 0 in
      let k : j < length before = each-at (λ j. j < length before) places i 0 (omega (arith, l, z)) inside in
      let a = subst (λ (n : ℕ). (elements M).◌≈◌ (get_or known n (elements M).O) (own_sum M i)) (get_or_append_left places (length before ∷ []) 0 i (omega (arith, l, z))) (is.own i (omega (arith, l))) in
      let b = subst (λ b. (elements M).◌≈◌ (get_or known j (elements M).O) (cond b ((elements F).O ∷ (elements F).I ∷ []) (own_sum F i ∷ []))) (less-eqb i F.sums l) a in
      ((elements M).trans ((elements M).symm (h j k).0) b).image.at 0

  pub record New : Type 0 where
    pub known_before : List (Element F)
    pub tower : IsTowerOf letter s ps before F places known_before

  pub without-new : New
  without-new = go known_list
    where
      go : (ys : List (Element F)) × (length ys ≡ length before) × ((i : ℕ) → i < length before → IsLowered i (get_or ys i (elements F).O)) → New
      go r = record {
        known_before = r.0;
        tower = record {
          adjoined = is.adjoined;
          size = few;
          ascending = ascends;
          inside = inside;
          follows = follows-before;
          known_agree = pairwise_from (λ t x. (p : Point d) → s ≤ℤ p.variable → IsBefore p → Agrees letter F p x t) before r.0 (elements F).O here r.1 (λ j l. agrees-before j l (get_or r.0 j (elements F).O) (r.2 j l));
          own = own-before r.0 r.2;
          earlier = λ j l. (r.2 j l).1;
        };
      }
