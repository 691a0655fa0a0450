-- The sums one after another, each new or expressed, where the new ones are those at the places.
--   HasReached places i n         the first n places are those below i
--   IsMarked Q s ss places i n os so it is said of the first i sums by the list os
--   mark-none, mark-free, mark-expressed     before the first; one more that is new, that is expressed
--   marked-all                    after the last the list says what the sums are, and the new ones are those at the places
--   few-below                     as many places as there are up to i
use Rattle.std.proofs.Common.{◌≡◌, ◌≢◌, ℕ, zero, suc, ◌+◌, ◌<◌, ◌≤◌, nat_le, cond, Bool, true, false, ℤ, refl, sym, ap, ◌∙◌, subst, List, [], ◌∷◌, ◌++◌, length, take, get_or, Option, Some, None, ◌⊎◌, inl, inr, arith}
use Rattle.std.proofs.Math.Seq.{take-suc}
use Rattle.std.proofs.lemmas.Bool.{leb-true}
use Rattle.std.proofs.lemmas.List.{length-take-le, length_push, get_or_append_left, get_or_push, take-append-le, take_all, map-append}
use Rattle.sg_algebra.specs.Coefficients.{Each}
use Rattle.sg_spec.specs.Tree.{Tree, here}
use Rattle.sg_spec.specs.Canonical.{Plane}
use Rattle.sg_value_theory.proofs.TowerOf.{at_places, up_to, Ascending}
use Rattle.sg_value_theory.proofs.Lists.{each-at}
use Rattle.sg_forms_theory.specs.Sums.{IsFree, frees, IsExpressed, IsStanding, AreStandings}

pub record HasReached (places : List ℕ) (i n : ℕ) : Type 0 where
  pub within : n ≤ length places
  pub below : (j : ℕ) → j < n → get_or places j 0 < i
  pub from : (j : ℕ) → n ≤ j → j < length places → i ≤ get_or places j 0

ascending-next : (places : List ℕ) → Ascending places → (j : ℕ) → suc j < length places → get_or places j 0 < get_or places (suc j) 0
ascending-next [] a j l = absurd (omega (arith, l))
ascending-next (i ∷ []) a j l = absurd (omega (arith, l))
ascending-next (i ∷ (k ∷ ks)) a zero l = a.0
ascending-next (i ∷ (k ∷ ks)) a (suc j) l = ascending-next (k ∷ ks) a.1 j (omega (arith, l))

ascending-far : (places : List ℕ) → Ascending places → (n d : ℕ) → suc (n + d) < length places → get_or places n 0 < get_or places (suc (n + d)) 0
ascending-far places a n zero l =
    let e : n + 0 ≡ n = omega arith in
    subst (λ (m : ℕ). get_or places n 0 < get_or places (suc m) 0) (sym e) (ascending-next places a n (omega (arith, l)))
ascending-far places a n (suc d) l =
    let h = ascending-far places a n d (omega (arith, l)) in
    let k = ascending-next places a (suc (n + d)) (omega (arith, l)) in
    let e : n + suc d ≡ suc (n + d) = omega arith in
    subst (λ (m : ℕ). get_or places n 0 < get_or places (suc m) 0) (sym e) (omega (arith, h, k))

ascending-later : (places : List ℕ) → Ascending places → (n j : ℕ) → n < j → j < length places → get_or places n 0 < get_or places j 0
ascending-later places a n j l m = go (gap n j l)
  where
    gap : (n j : ℕ) → n < j → (d : ℕ) × (j ≡ suc (n + d))
    gap n zero l = absurd (omega (arith, l))
    gap zero (suc j) l = (j, let e : suc j ≡ suc (0 + j) = omega arith in e)
    gap (suc n) (suc j) l = let r = gap n j (omega (arith, l)) in (r.0, let e = r.1 in omega (arith, e))

    go : (d : ℕ) × (j ≡ suc (n + d)) → get_or places n 0 < get_or places j 0
    go r = subst (λ (k : ℕ). get_or places n 0 < get_or places k 0) (sym r.1) (ascending-far places a n r.0 (subst (λ (k : ℕ). k < length places) r.1 m))

pub reached-none : (places : List ℕ) → HasReached places 0 0
reached-none places = record { within = omega arith; below = λ j l. absurd (omega (arith, l)); from = λ j l m. omega arith }

below_or : (j n : ℕ) → j < suc n → (j < n) ⊎ (j ≡ n)
below_or j n l = grind (arith, l)

pub reached-free : (places : List ℕ) (i n : ℕ) → Ascending places → HasReached places i n → n < length places → get_or places n 0 ≡ i → HasReached places (suc i) (suc n)
reached-free places i n a h l e = record { within = omega (arith, l); below = λ j m. go j (below_or j n m); from = λ j m k. let f = ascending-later places a n j (omega (arith, m)) k in omega (arith, f, e) }
  where
    go : (j : ℕ) → (j < n) ⊎ (j ≡ n) → get_or places j 0 < suc i
    go j (inl m) = let f = h.below j m in omega (arith, f)
    go j (inr m) = subst (λ (k : ℕ). get_or places k 0 < suc i) (sym m) (omega (arith, e))

pub reached-past : (places : List ℕ) (i n : ℕ) → Ascending places → HasReached places i n → (n < length places → get_or places n 0 ≢ i) → HasReached places (suc i) n
reached-past places i n a h ne = record { within = h.within; below = λ j m. let f = h.below j m in omega (arith, f); from = λ j m l. go j m l (at_or n j m) }
  where
    at_or : (n j : ℕ) → n ≤ j → (n < j) ⊎ (j ≡ n)
    at_or n j m = grind (arith, m)

    first : n < length places → suc i ≤ get_or places n 0
    first l = let f = h.from n (omega arith) l in let g = ne l in omega (arith, f, g)

    go : (j : ℕ) → n ≤ j → j < length places → (n < j) ⊎ (j ≡ n) → suc i ≤ get_or places j 0
    go j m l (inl k) = let f = ascending-later places a n j k l in let g = first (omega (arith, k, l)) in omega (arith, f, g)
    go j m l (inr e) = subst (λ (k : ℕ). suc i ≤ get_or places k 0) (sym e) (first (subst (λ (k : ℕ). k < length places) e l))

-- ---- How many places there are up to i

up_to-few : (i n : ℕ) (places : List ℕ) → ((j : ℕ) → n ≤ j → j < length places → i < get_or places j 0) → up_to i places ≤ n
up_to-few i n [] h = omega arith
up_to-few i zero (p ∷ ps) h = go (nat_le i i) refl
  where
    none : (ps : List ℕ) → ((j : ℕ) → j < length ps → i < get_or ps j 0) → up_to i ps ≡ 0
    none [] h = refl
    none (p ∷ ps) h = cases (nat_le p i) refl (none ps (λ j l. h (suc j) (omega (arith, l))))
      where
        cases : (b : Bool) → nat_le p i ≡ b → up_to i ps ≡ 0 → cond b (suc (up_to i ps)) (up_to i ps) ≡ 0
        cases true e z = absurd (let k = leb-true p i e in let l = h 0 (omega arith) in omega (arith, k, l))
        cases false e z = z

    go : (b : Bool) → nat_le i i ≡ b → up_to i (p ∷ ps) ≤ 0
    go b e = let z = none (p ∷ ps) (λ j l. h j (omega arith) l) in omega (arith, z)
up_to-few i (suc n) (p ∷ ps) h = cases (nat_le p i) (up_to-few i n ps (λ j m l. h (suc j) (omega (arith, m)) (omega (arith, l))))
  where
    cases : (b : Bool) → up_to i ps ≤ n → cond b (suc (up_to i ps)) (up_to i ps) ≤ suc n
    cases true m = omega (arith, m)
    cases false m = omega (arith, m)

pub few-below : (places : List ℕ) (i n : ℕ) → HasReached places (suc i) n → up_to i places ≤ n
few-below places i n h = up_to-few i n places (λ j m l. let f = h.from j m l in omega (arith, f))

-- ---- Lists of new sums

frees-new : (xs : List Tree) (g : Tree) (os : List (Option Tree)) → length os ≡ length xs → frees (xs ++ g ∷ []) (os ++ None ∷ []) ≡ frees xs os ++ g ∷ []
frees-new [] g [] e = refl
frees-new [] g (o ∷ os) e = absurd (omega (arith, e))
frees-new (x ∷ xs) g [] e = absurd (omega (arith, e))
frees-new (x ∷ xs) g (None ∷ os) e = ap (λ (l : List Tree). x ∷ l) (frees-new xs g os (omega (arith, e)))
frees-new (x ∷ xs) g (Some h ∷ os) e = frees-new xs g os (omega (arith, e))

frees-old : (xs : List Tree) (g h : Tree) (os : List (Option Tree)) → length os ≡ length xs → frees (xs ++ g ∷ []) (os ++ Some h ∷ []) ≡ frees xs os
frees-old [] g h [] e = refl
frees-old [] g h (o ∷ os) e = absurd (omega (arith, e))
frees-old (x ∷ xs) g h [] e = absurd (omega (arith, e))
frees-old (x ∷ xs) g h (None ∷ os) e = ap (λ (l : List Tree). x ∷ l) (frees-old xs g h os (omega (arith, e)))
frees-old (x ∷ xs) g h (Some f ∷ os) e = frees-old xs g h os (omega (arith, e))

places-more : (ss : List Tree) (places : List ℕ) (n : ℕ) → n < length places → at_places ss (take (suc n) places) ≡ at_places ss (take n places) ++ get_or ss (get_or places n 0) here ∷ []
places-more ss places n l = ap (at_places ss) (take-suc places n 0 l) ∙ map-append (λ i. get_or ss i here) (take n places) (get_or places n 0 ∷ [])

module _ (Q : Plane → Plane → Type 0) (s : ℤ) (ss : List Tree) (places : List ℕ) where
  pub record IsMarked (i n : ℕ) (os : List (Option Tree)) : Type 0 where
    pub reached : HasReached places i n
    pub count : length os ≡ i
    pub new : frees (take i ss) os ≡ at_places ss (take n places)
    pub each : (j : ℕ) → j < i → IsStanding Q s (take j ss) (frees (take j ss) (take j os)) (get_or ss j here) (get_or os j None)

  pub mark-none : IsMarked 0 0 []
  mark-none = record { reached = reached-none places; count = refl; new = refl; each = λ j l. absurd (omega (arith, l)) }

  module _ (i n : ℕ) (os : List (Option Tree)) (h : IsMarked i n os) (inside : i < length ss) where
    one_more : take (suc i) ss ≡ take i ss ++ get_or ss i here ∷ []
    one_more = take-suc ss i here inside

    sized : length os ≡ length (take i ss)
    sized = h.count ∙ sym (length-take-le i ss (omega (arith, inside)))

    each-more : (o : Option Tree) → IsStanding Q s (take i ss) (frees (take i ss) os) (get_or ss i here) o
        → (j : ℕ) → j < suc i → IsStanding Q s (take j ss) (frees (take j ss) (take j (os ++ o ∷ []))) (get_or ss j here) (get_or (os ++ o ∷ []) j None)
    each-more o k j l = go (below_or j i l)
      where
        taken : (j : ℕ) → j ≤ i → take j (os ++ o ∷ []) ≡ take j os
        taken j m = let c = h.count in take-append-le j os (o ∷ []) (omega (arith, m, c))

        go : (j < i) ⊎ (j ≡ i) → IsStanding Q s (take j ss) (frees (take j ss) (take j (os ++ o ∷ []))) (get_or ss j here) (get_or (os ++ o ∷ []) j None)
        go (inl m) =
            subst (λ (ps : List (Option Tree)). IsStanding Q s (take j ss) (frees (take j ss) ps) (get_or ss j here) (get_or (os ++ o ∷ []) j None)) (sym (taken j (omega (arith, m))))
            (subst (λ (p : Option Tree). IsStanding Q s (take j ss) (frees (take j ss) (take j os)) (get_or ss j here) p) (sym (get_or_append_left os (o ∷ []) None j (let c = h.count in omega (arith, m, c)))) (h.each j m))
        go (inr m) =
            subst (λ (a : ℕ). IsStanding Q s (take a ss) (frees (take a ss) (take a (os ++ o ∷ []))) (get_or ss a here) (get_or (os ++ o ∷ []) a None)) (sym m)
            (subst (λ (ps : List (Option Tree)). IsStanding Q s (take i ss) (frees (take i ss) ps) (get_or ss i here) (get_or (os ++ o ∷ []) i None)) (sym (taken i (omega arith) ∙ take_all i os (let c = h.count in omega (arith, c))))
            (subst (λ (p : Option Tree). IsStanding Q s (take i ss) (frees (take i ss) os) (get_or ss i here) p) (sym (get_or_push os o None i h.count)) k))

    pub mark-free : Ascending places → n < length places → get_or places n 0 ≡ i → IsFree (take i ss) (get_or ss i here) → IsMarked (suc i) (suc n) (os ++ None ∷ [])
    mark-free a l e free = record {
      reached = reached-free places i n a h.reached l e;
      count = let c = h.count in let d = length_push os None in omega (arith, c, d);
      new =
          ap (λ (xs : List Tree). frees xs (os ++ None ∷ [])) one_more ∙ frees-new (take i ss) (get_or ss i here) os sized ∙ ap (λ (xs : List Tree). xs ++ get_or ss i here ∷ []) h.new
          ∙ ap (λ (m : ℕ). at_places ss (take n places) ++ get_or ss m here ∷ []) (sym e) ∙ sym (places-more ss places n l);
      each = each-more None free;
    }

    pub mark-expressed : Ascending places → (n < length places → get_or places n 0 ≢ i) → (t : Tree) → IsExpressed Q s (take i ss) (at_places ss (take n places)) (get_or ss i here) t → IsMarked (suc i) n (os ++ Some t ∷ [])
    mark-expressed a ne t k = record {
      reached = reached-past places i n a h.reached ne;
      count = let c = h.count in let d = length_push os (Some t) in omega (arith, c, d);
      new = ap (λ (xs : List Tree). frees xs (os ++ Some t ∷ [])) one_more ∙ frees-old (take i ss) (get_or ss i here) t os sized ∙ h.new;
      each = each-more (Some t) (subst (λ (gs : List Tree). IsExpressed Q s (take i ss) gs (get_or ss i here) t) (sym h.new) k);
    }

  pub record AreMarked (os : List (Option Tree)) : Type 0 where
    pub standings : AreStandings Q s ss os
    pub new : frees ss os ≡ at_places ss places

  pub marked-all : (i n : ℕ) (os : List (Option Tree)) → i ≡ length ss → IsMarked i n os → Each (λ j. j < length ss) places → AreMarked os
  marked-all i n os e h inside =
      let whole = take_all i ss (omega (arith, e)) in
      let w = h.reached.within in
      record {
        standings = record { count = h.count ∙ e; each = λ j l. h.each j (omega (arith, l, e)) };
        new = ap (λ (xs : List Tree). frees xs os) (sym whole) ∙ h.new ∙ ap (at_places ss) (take_all n places (all_reached (none_left n places (λ j m l. h.reached.from j m l) inside)));
      }
    where
      none_left : (n : ℕ) (places : List ℕ) → ((j : ℕ) → n ≤ j → j < length places → i ≤ get_or places j 0) → Each (λ j. j < length ss) places → n < length places → ⊥
      none_left n places from ins l = let a = from n (omega arith) l in let b = each-at (λ j. j < length ss) places n 0 l ins in omega (arith, a, b, e)

      all_reached : (n < length places → ⊥) → length places ≤ n
      all_reached f = cases (or n (length places))
        where
          or : (a b : ℕ) → (a < b) ⊎ (b ≤ a)
          or a b = grind arith

          cases : (n < length places) ⊎ (length places ≤ n) → length places ≤ n
          cases (inl l) = absurd (f l)
          cases (inr l) = l
