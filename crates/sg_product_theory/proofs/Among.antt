-- The canonical form of an element over some sums of a list is that over the list: the others stand in it with the exponent 0.
--   Inside us vs        the items us are items of vs, in their order
--   inside-reverse      so from the last to the first
--   inside-places       the items at ascending places are
--   widened, wide       the powers with 0 for each item that is left out; so for terms
--   signed-wide         the terms are written the same
--   canonical-among     a canonical form over us is one over vs
use Rattle.std.proofs.Common.{◌≡◌, ℕ, suc, ◌+◌, ◌-◌, ◌<◌, ◌≤◌, ◌==◌, ℤ, pos, refl, sym, ap, ap₂, ◌∙◌, subst, List, [], ◌∷◌, ◌++◌, length, map, reverse, get_or, cond, Bool, true, false, append-nil, ◌⊎◌, inl, inr, arith}
use Rattle.std.proofs.lemmas.List.{length-reverse, reverse-append}
use Rattle.sg_algebra.specs.Coefficients.{Each}
use Rattle.sg_spec.specs.Tree.{Tree, here}
use Rattle.sg_spec.specs.Canonical.{Written, Signed, total_tree, term_of, raised, first_power, later_powers, without, before_groups, groups, joined, signed_terms, IsAfter, Descending, IsLowest, IsCanonicalOver}
use Rattle.sg_value_theory.proofs.TowerOf.{Ascending, at_places}

pub data Inside {A : Type 0} : List A → List A → Type 0 where
  none : Inside [] []
  kept : (x : A) (us vs : List A) → Inside us vs → Inside (x ∷ us) (x ∷ vs)
  left_out : (x : A) (us vs : List A) → Inside us vs → Inside us (x ∷ vs)

-- ---- The items at ascending places

no-places : (n : ℕ) (places : List ℕ) → Each (λ i. (n ≤ i) × (i < n)) places → places ≡ []
no-places n [] h = refl
no-places n (i ∷ is) h = absurd (let a = h.0.0 in let b = h.0.1 in omega (arith, a, b))

past : (n i : ℕ) (is : List ℕ) → n ≤ i → Ascending (i ∷ is) → Each (λ j. n < j) is
past n i [] l a = tt
past n i (j ∷ js) l a = (let b = a.0 in omega (arith, l, b), past n j js (let b = a.0 in omega (arith, l, b)) a.1)

rest : (i : ℕ) (is : List ℕ) → Ascending (i ∷ is) → Ascending is
rest i [] a = tt
rest i (j ∷ js) a = a.1

abbrev from_place : ℕ → List Tree → List ℕ → List Tree
from_place n ss places = map (λ i. get_or ss (i - n) here) places

one_on : (n : ℕ) (x : Tree) (ss : List Tree) (places : List ℕ) → Each (λ j. n < j) places → from_place n (x ∷ ss) places ≡ from_place (suc n) ss places
one_on n x ss [] h = refl
one_on n x ss (i ∷ is) h = ap₂ (λ (y : Tree) (ys : List Tree). y ∷ ys) (step (i - n) (i - suc n) (let a = h.0 in omega (arith, a))) (one_on n x ss is h.1)
  where
    step : (j k : ℕ) → j ≡ suc k → get_or (x ∷ ss) j here ≡ get_or ss k here
    step j k e = rw e refl

between : (n m : ℕ) (places : List ℕ) → Each (λ i. (n ≤ i) × (i < n + suc m)) places → Each (λ j. n < j) places → Each (λ i. (suc n ≤ i) × (i < suc n + m)) places
between n m [] h g = tt
between n m (i ∷ is) h g = ((let a = g.0 in omega (arith, a), let a = h.0.1 in omega (arith, a)), between n m is h.1 g.1)

abbrev Next : List Tree → ℕ → List ℕ → Type 0
Next ss n places = Ascending places → Each (λ i. (suc n ≤ i) × (i < suc n + length ss)) places → Inside (from_place (suc n) ss places) ss

inside-from : (ss : List Tree) (n : ℕ) (places : List ℕ) → Ascending places → Each (λ i. (n ≤ i) × (i < n + length ss)) places → Inside (from_place n ss places) ss
inside-from [] n [] a h = none
inside-from [] n (i ∷ is) a h = absurd (let b = h.0.0 in let c = h.0.1 in omega (arith, b, c))
inside-from (x ∷ ss) n [] a h = left_out x [] ss (inside-from ss (suc n) [] tt tt)
inside-from (x ∷ ss) n (i ∷ is) a h = go (here_or_later n i h.0.0) (inside-from ss (suc n) is) (inside-from ss (suc n) (i ∷ is))
  where
    here_or_later : (n i : ℕ) → n ≤ i → (i ≡ n) ⊎ (n < i)
    here_or_later n i l = grind (arith, l)

    go : (i ≡ n) ⊎ (n < i) → Next ss n is → Next ss n (i ∷ is) → Inside (from_place n (x ∷ ss) (i ∷ is)) (x ∷ ss)
    go (inl e) next same =
        let later = past n i is h.0.0 a in
        subst (λ (ys : List Tree). Inside ys (x ∷ ss)) (ap₂ (λ (y : Tree) (ys : List Tree). y ∷ ys) (first (i - n) (omega (arith, e))) (sym (one_on n x ss is later)))
        (kept x (from_place (suc n) ss is) ss (next (rest i is a) (between n (length ss) is h.1 later)))
      where
        first : (j : ℕ) → j ≡ 0 → x ≡ get_or (x ∷ ss) j here
        first j z = rw z refl
    go (inr l) next same =
        let later : Each (λ j. n < j) (i ∷ is) = (l, past n i is h.0.0 a) in
        subst (λ (ys : List Tree). Inside ys (x ∷ ss)) (sym (one_on n x ss (i ∷ is) later))
        (left_out x (from_place (suc n) ss (i ∷ is)) ss (same a (between n (length ss) (i ∷ is) h later)))

pub inside-places : (ss : List Tree) (places : List ℕ) → Ascending places → Each (λ i. i < length ss) places → Inside (at_places ss places) ss
inside-places ss places a h = subst (λ (gs : List Tree). Inside gs ss) (counted places) (inside-from ss 0 places a (from_zero places h))
  where
    no-less : (i : ℕ) → i - 0 ≡ i
    no-less i = omega arith

    counted : (is : List ℕ) → from_place 0 ss is ≡ at_places ss is
    counted [] = refl
    counted (i ∷ is) = ap₂ (λ (y : Tree) (ys : List Tree). y ∷ ys) (ap (λ j. get_or ss j here) (no-less i)) (counted is)

    from_zero : (is : List ℕ) → Each (λ i. i < length ss) is → Each (λ i. (0 ≤ i) × (i < 0 + length ss)) is
    from_zero [] h = tt
    from_zero (i ∷ is) h = ((omega arith, (let l = h.0 in omega (arith, l))), from_zero is h.1)

-- ---- From the last to the first

module _ {A : Type 0} where
  inside-more : (x : A) (us vs : List A) → Inside us vs → Inside (us ++ x ∷ []) (vs ++ x ∷ [])
  inside-more x us vs none = kept x [] [] none
  inside-more x us vs (kept y us' vs' w) = kept y (us' ++ x ∷ []) (vs' ++ x ∷ []) (inside-more x us' vs' w)
  inside-more x us vs (left_out y us' vs' w) = left_out y (us' ++ x ∷ []) (vs' ++ x ∷ []) (inside-more x us' vs' w)

  inside-less : (x : A) (us vs : List A) → Inside us vs → Inside us (vs ++ x ∷ [])
  inside-less x us vs none = left_out x [] [] none
  inside-less x us vs (kept y us' vs' w) = kept y us' (vs' ++ x ∷ []) (inside-less x us' vs' w)
  inside-less x us vs (left_out y us' vs' w) = left_out y us' (vs' ++ x ∷ []) (inside-less x us' vs' w)

  pub inside-reverse : (us vs : List A) → Inside us vs → Inside (reverse us) (reverse vs)
  inside-reverse us vs none = none
  inside-reverse us vs (kept y us' vs' w) = rw (reverse-append (y ∷ []) us', reverse-append (y ∷ []) vs') (inside-more y (reverse us') (reverse vs') (inside-reverse us' vs' w))
  inside-reverse us vs (left_out y us' vs' w) = rw (reverse-append (y ∷ []) vs') (inside-less y (reverse us') (reverse vs') (inside-reverse us' vs' w))

-- ---- Terms

module _ (ps : List Tree) where
  abbrev widened : (us vs : List Tree) → Inside us vs → List ℕ → List ℕ
  widened us vs none es = []
  widened us vs (kept x us' vs' w) es = first_power es ∷ widened us' vs' w (later_powers es)
  widened us vs (left_out x us' vs' w) es = 0 ∷ widened us' vs' w es

  abbrev wide : (us vs : List Tree) → Inside us vs → Written → Written
  wide us vs w t = record t { powers = widened us vs w t.powers }

  abbrev mapped : (Written → Written) → ℕ × List Written → ℕ × List Written
  mapped f g = (g.0, map f g.1)

  before-mapped : (f : Written → Written) (e : ℕ) (t : Written) (gs : List (ℕ × List Written)) → before_groups e (f t) (map (mapped f) gs) ≡ map (mapped f) (before_groups e t gs)
  before-mapped f e t [] = refl
  before-mapped f e t (g ∷ gs) = go (e == g.0)
    where
      go : (b : Bool) → cond b ((g.0, f t ∷ map f g.1) ∷ map (mapped f) gs) ((e, f t ∷ []) ∷ (mapped f g ∷ map (mapped f) gs)) ≡ map (mapped f) (cond b ((g.0, t ∷ g.1) ∷ gs) ((e, t ∷ []) ∷ (g ∷ gs)))
      go true = refl
      go false = refl

  groups-kept : (x : Tree) (us vs : List Tree) (w : Inside us vs) (ts : List Written) → groups (map (wide (x ∷ us) (x ∷ vs) (kept x us vs w)) ts) ≡ map (mapped (wide us vs w)) (groups ts)
  groups-kept x us vs w [] = refl
  groups-kept x us vs w (t ∷ ts) =
      ap (before_groups (first_power t.powers) (wide us vs w (without t))) (groups-kept x us vs w ts) ∙ before-mapped (wide us vs w) (first_power t.powers) (without t) (groups ts)

  groups-left : (x : Tree) (us vs : List Tree) (w : Inside us vs) (t : Written) (ts : List Written) → groups (map (wide us (x ∷ vs) (left_out x us vs w)) (t ∷ ts)) ≡ (0, map (wide us vs w) (t ∷ ts)) ∷ []
  groups-left x us vs w t [] = refl
  groups-left x us vs w t (u ∷ ts) = ap (before_groups 0 (wide us vs w t)) (groups-left x us vs w u ts)

  joined-mapped : {A B : Type 0} (f : B → List Signed) (g : A → B) (h : A → List Signed) → ((a : A) → f (g a) ≡ h a) → (xs : List A) → joined f (map g xs) ≡ joined h xs
  joined-mapped f g h e [] = refl
  joined-mapped f g h e (x ∷ xs) = ap₂ (λ (a b : List Signed). a ++ b) (e x) (joined-mapped f g h e xs)

  joined-wide : (ts : List Written) (w : Inside [] []) → joined (term_of ps) (map (wide [] [] w) ts) ≡ joined (term_of ps) ts
  joined-wide ts w = joined-mapped (term_of ps) (wide [] [] w) (term_of ps) (λ t. refl) ts

  none-signed : (us : List Tree) → signed_terms ps us [] ≡ []
  none-signed [] = refl
  none-signed (u ∷ us) = refl

  pub signed-wide : (us vs : List Tree) (w : Inside us vs) (ts : List Written) → signed_terms ps vs (map (wide us vs w) ts) ≡ signed_terms ps us ts
  signed-wide us vs none ts = joined-wide ts none
  signed-wide us vs (kept x us' vs' w) ts =
      ap (joined (λ g. raised x g.0 (signed_terms ps vs' g.1))) (groups-kept x us' vs' w ts)
      ∙ joined-mapped (λ g. raised x g.0 (signed_terms ps vs' g.1)) (mapped (wide us' vs' w)) (λ g. raised x g.0 (signed_terms ps us' g.1)) (λ g. ap (raised x g.0) (signed-wide us' vs' w g.1)) (groups ts)
  signed-wide us vs (left_out x us' vs' w) [] = sym (none-signed us')
  signed-wide us vs (left_out x us' vs' w) (t ∷ ts) =
      ap (joined (λ g. raised x g.0 (signed_terms ps vs' g.1))) (groups-left x us' vs' w t ts) ∙ append-nil (signed_terms ps vs' (map (wide us' vs' w) (t ∷ ts))) ∙ signed-wide us' vs' w (t ∷ ts)

  -- ---- Order and size

  length-widened : (us vs : List Tree) (w : Inside us vs) (es : List ℕ) → length (widened us vs w es) ≡ length vs
  length-widened us vs none es = refl
  length-widened us vs (kept x us' vs' w) es = ap suc (length-widened us' vs' w (later_powers es))
  length-widened us vs (left_out x us' vs' w) es = ap suc (length-widened us' vs' w es)

  after-wide : (us vs : List Tree) (w : Inside us vs) (es fs : List ℕ) (as' bs : List ℤ) → length es ≡ length us → length fs ≡ length us
      → IsAfter (map (λ e. pos e) es ++ as') (map (λ e. pos e) fs ++ bs) → IsAfter (map (λ e. pos e) (widened us vs w es) ++ as') (map (λ e. pos e) (widened us vs w fs) ++ bs)
  after-wide us vs none [] [] as' bs l m h = h
  after-wide us vs none (e ∷ es) fs as' bs l m h = absurd (omega (arith, l))
  after-wide us vs none [] (f ∷ fs) as' bs l m h = absurd (omega (arith, m))
  after-wide us vs (kept x us' vs' w) [] fs as' bs l m h = absurd (omega (arith, l))
  after-wide us vs (kept x us' vs' w) (e ∷ es) [] as' bs l m h = absurd (omega (arith, m))
  after-wide us vs (kept x us' vs' w) (e ∷ es) (f ∷ fs) as' bs l m (inl i) = inl i
  after-wide us vs (kept x us' vs' w) (e ∷ es) (f ∷ fs) as' bs l m (inr i) = inr (i.0, after-wide us' vs' w es fs as' bs (omega (arith, l)) (omega (arith, m)) i.1)
  after-wide us vs (left_out x us' vs' w) es fs as' bs l m h = inr (refl, after-wide us' vs' w es fs as' bs l m h)

  module _ (us vs : List Tree) (w : Inside us vs) where
    abbrev Sized : Written → Type 0
    Sized t = (length t.powers ≡ length us) × (length t.exponents ≡ length ps)

    descending-wide : (ts : List Written) → Each Sized ts → Descending ts → Descending (map (wide us vs w) ts)
    descending-wide [] s h = tt
    descending-wide (t ∷ []) s h = tt
    descending-wide (t ∷ (u ∷ ts)) s h = (after-wide us vs w t.powers u.powers (reverse t.exponents) (reverse u.exponents) s.0.0 s.1.0.0 h.0, descending-wide (u ∷ ts) s.1 h.1)

    lowest-wide : (ts : List Written) → Each (λ t. IsLowest t.upper t.lower) ts → Each (λ t. IsLowest t.upper t.lower) (map (wide us vs w) ts)
    lowest-wide [] h = tt
    lowest-wide (t ∷ ts) h = (h.0, lowest-wide ts h.1)

    sized-wide : (n : ℕ) → length vs ≡ n → (ts : List Written) → Each Sized ts → Each (λ t. (length t.powers ≡ n) × (length t.exponents ≡ length ps)) (map (wide us vs w) ts)
    sized-wide n e [] s = tt
    sized-wide n e (t ∷ ts) s = ((length-widened us vs w t.powers ∙ e, s.0.1), sized-wide n e ts s.1)

  resized : (n m : ℕ) → n ≡ m → (ts : List Written) → Each (λ t. (length t.powers ≡ n) × (length t.exponents ≡ length ps)) ts → Each (λ t. (length t.powers ≡ m) × (length t.exponents ≡ length ps)) ts
  resized n m e [] s = tt
  resized n m e (t ∷ ts) s = ((s.0.0 ∙ e, s.0.1), resized n m e ts s.1)

  pub canonical-among : (us vs : List Tree) → Inside us vs → (h : Tree) → IsCanonicalOver ps us h → IsCanonicalOver ps vs h
  canonical-among us vs i h c =
      let w = inside-reverse us vs i in
      let s = resized (length us) (length (reverse us)) (sym (length-reverse us)) c.terms c.sized in record {
        terms = map (wide (reverse us) (reverse vs) w) c.terms;
        sized = sized-wide (reverse us) (reverse vs) w (length vs) (length-reverse vs) c.terms s;
        descending = descending-wide (reverse us) (reverse vs) w c.terms s c.descending;
        lowest = lowest-wide (reverse us) (reverse vs) w c.terms c.lowest;
        form = c.form ∙ ap total_tree (sym (signed-wide (reverse us) (reverse vs) w c.terms));
      }
