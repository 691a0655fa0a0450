-- The canonical form of an element over some products of a list is that over the list: the others stand in it with the exponent 0.
--   widened, wide        the exponents with 0 for each product that is left out; so for terms
--   signed-wide          the terms are written the same
--   canonical-over       a canonical form over the products qs is one over ps
use Rattle.std.proofs.Common.{◌≡◌, ℕ, suc, ◌==◌, ℤ, pos, ◌<ℤ◌, refl, sym, ap, ap₂, ◌∙◌, subst, List, [], ◌∷◌, ◌++◌, length, map, reverse, cond, Bool, true, false, ◌⊎◌, inl, inr, arith}
use Rattle.std.proofs.lemmas.List.{length-reverse, reverse-append}
use Rattle.sg_algebra.specs.Coefficients.{Each}
use Rattle.sg_spec.specs.Tree.{Tree}
use Rattle.sg_spec.specs.Canonical.{Written, Signed, total_tree, term_of, of_coefficient, lower_factors, raised, factors, upper_factor, lower_factor, first_power, without, before_groups, groups, joined, signed_terms, IsAfter, Descending, IsLowest, IsCanonicalOver}
use Rattle.sg_product_theory.proofs.Among.{Inside, none, kept, left_out}

abbrev first_exponent : List ℤ → ℤ
first_exponent [] = pos 0
first_exponent (e ∷ es) = e

abbrev later_exponents : List ℤ → List ℤ
later_exponents [] = []
later_exponents (e ∷ es) = es

abbrev pub widened : (qs ps : List Tree) → Inside qs ps → List ℤ → List ℤ
widened qs ps none es = []
widened qs ps (kept x qs' ps' w) es = first_exponent es ∷ widened qs' ps' w (later_exponents es)
widened qs ps (left_out x qs' ps' w) es = pos 0 ∷ widened qs' ps' w es

abbrev pub wide : (qs ps : List Tree) → Inside qs ps → Written → Written
wide qs ps w t = record t { exponents = widened qs ps w t.exponents }

-- ---- The same factors

factors-wide : (f : Tree → ℤ → List Tree) → ((t : Tree) → f t (pos 0) ≡ []) → (qs ps : List Tree) (w : Inside qs ps) (es : List ℤ) → length es ≡ length qs
    → factors f ps (widened qs ps w es) ≡ factors f qs es
factors-wide f z qs ps none es l = refl
factors-wide f z qs ps (kept x qs' ps' w) [] l = absurd (omega (arith, l))
factors-wide f z qs ps (kept x qs' ps' w) (e ∷ es) l = ap (λ (r : List Tree). f x e ++ r) (factors-wide f z qs' ps' w es (omega (arith, l)))
factors-wide f z qs ps (left_out x qs' ps' w) es l = ap (λ (r : List Tree). r ++ factors f ps' (widened qs' ps' w es)) (z x) ∙ factors-wide f z qs' ps' w es l

module _ (qs ps : List Tree) (w : Inside qs ps) where
  abbrev Sized : Written → Type 0
  Sized t = length t.exponents ≡ length qs

  term-wide : (t : Written) → Sized t → term_of ps (wide qs ps w t) ≡ term_of qs t
  term-wide t l =
      ap₂ (λ (us ls : List Tree). of_coefficient t.upper us (lower_factors t.lower ++ ls)) (factors-wide upper_factor (λ x. refl) qs ps w t.exponents l) (factors-wide lower_factor (λ x. refl) qs ps w t.exponents l)

  abbrev AllSized : List Written → Type 0
  AllSized ts = Each Sized ts

  abbrev GroupsSized : List (ℕ × List Written) → Type 0
  GroupsSized gs = Each (λ g. AllSized g.1) gs

  abbrev mapped : ℕ × List Written → ℕ × List Written
  mapped g = (g.0, map (wide qs ps w) g.1)

  joined-wide : (ts : List Written) → AllSized ts → joined (term_of ps) (map (wide qs ps w) ts) ≡ joined (term_of qs) ts
  joined-wide [] l = refl
  joined-wide (t ∷ ts) l = ap₂ (λ (a b : List Signed). a ++ b) (term-wide t l.0) (joined-wide ts l.1)

  before-mapped : (e : ℕ) (t : Written) (gs : List (ℕ × List Written)) → before_groups e (wide qs ps w t) (map mapped gs) ≡ map mapped (before_groups e t gs)
  before-mapped e t [] = refl
  before-mapped e t (g ∷ gs) = go (e == g.0)
    where
      go : (b : Bool)
          → cond b ((g.0, wide qs ps w t ∷ map (wide qs ps w) g.1) ∷ map mapped gs) ((e, wide qs ps w t ∷ []) ∷ (mapped g ∷ map mapped gs)) ≡ map mapped (cond b ((g.0, t ∷ g.1) ∷ gs) ((e, t ∷ []) ∷ (g ∷ gs)))
      go true = refl
      go false = refl

  groups-wide : (ts : List Written) → groups (map (wide qs ps w) ts) ≡ map mapped (groups ts)
  groups-wide [] = refl
  groups-wide (t ∷ ts) = ap (before_groups (first_power t.powers) (wide qs ps w (without t))) (groups-wide ts) ∙ before-mapped (first_power t.powers) (without t) (groups ts)

  before-sized : (e : ℕ) (t : Written) (gs : List (ℕ × List Written)) → Sized t → GroupsSized gs → GroupsSized (before_groups e t gs)
  before-sized e t [] l h = ((l, tt), tt)
  before-sized e t (g ∷ gs) l h = go (e == g.0)
    where
      go : (b : Bool) → GroupsSized (cond b ((g.0, t ∷ g.1) ∷ gs) ((e, t ∷ []) ∷ (g ∷ gs)))
      go true = ((l, h.0), h.1)
      go false = ((l, tt), h)

  groups-sized : (ts : List Written) → AllSized ts → GroupsSized (groups ts)
  groups-sized [] l = tt
  groups-sized (t ∷ ts) l = before-sized (first_power t.powers) (without t) (groups ts) l.0 (groups-sized ts l.1)

  signed-wide : (ss : List Tree) (ts : List Written) → AllSized ts → signed_terms ps ss (map (wide qs ps w) ts) ≡ signed_terms qs ss ts
  signed-wide [] ts l = joined-wide ts l
  signed-wide (s ∷ ss) ts l = ap (joined (λ g. raised s g.0 (signed_terms ps ss g.1))) (groups-wide ts) ∙ all (λ us h. signed-wide ss us h) (groups ts) (groups-sized ts l)
    where
      all : ((us : List Written) → AllSized us → signed_terms ps ss (map (wide qs ps w) us) ≡ signed_terms qs ss us) → (gs : List (ℕ × List Written))
          → GroupsSized gs → joined (λ g. raised s g.0 (signed_terms ps ss g.1)) (map mapped gs) ≡ joined (λ g. raised s g.0 (signed_terms qs ss g.1)) gs
      all k [] h = refl
      all k (g ∷ gs) h = ap₂ (λ (a b : List Signed). raised s g.0 a ++ b) (k g.1 h.0) (all k gs h.1)

-- ---- The same order

after-snoc : (as' bs : List ℤ) (e f : ℤ) → length as' ≡ length bs → IsAfter (as' ++ e ∷ []) (bs ++ f ∷ []) → IsAfter as' bs ⊎ ((as' ≡ bs) × (f <ℤ e))
after-snoc [] [] e f l (inl h) = inr (refl, h)
after-snoc [] [] e f l (inr h) = absurd h.1
after-snoc [] (b ∷ bs) e f l h = absurd (omega (arith, l))
after-snoc (a ∷ as') [] e f l h = absurd (omega (arith, l))
after-snoc (a ∷ as') (b ∷ bs) e f l (inl h) = inl (inl h)
after-snoc (a ∷ as') (b ∷ bs) e f l (inr h) = go (after-snoc as' bs e f (omega (arith, l)) h.1)
  where
    go : IsAfter as' bs ⊎ ((as' ≡ bs) × (f <ℤ e)) → IsAfter (a ∷ as') (b ∷ bs) ⊎ ((a ∷ as' ≡ b ∷ bs) × (f <ℤ e))
    go (inl k) = inl (inr (h.0, k))
    go (inr k) = inr (ap₂ ◌∷◌ h.0 k.0, k.1)

snoc-left : (as' bs : List ℤ) (e f : ℤ) → IsAfter as' bs → IsAfter (as' ++ e ∷ []) (bs ++ f ∷ [])
snoc-left [] bs e f h = absurd h
snoc-left (a ∷ as') [] e f h = absurd h
snoc-left (a ∷ as') (b ∷ bs) e f (inl h) = inl h
snoc-left (a ∷ as') (b ∷ bs) e f (inr h) = inr (h.0, snoc-left as' bs e f h.1)

snoc-right : (as' : List ℤ) (e f : ℤ) → f <ℤ e → IsAfter (as' ++ e ∷ []) (as' ++ f ∷ [])
snoc-right [] e f h = inl h
snoc-right (a ∷ as') e f h = inr (refl, snoc-right as' e f h)

rev-cons : (e : ℤ) (es : List ℤ) → reverse (e ∷ es) ≡ reverse es ++ e ∷ []
rev-cons e es = reverse-append (e ∷ []) es

rev-same : (es fs : List ℤ) → reverse es ≡ reverse fs → es ≡ fs
rev-same es fs h = sym (Rattle.std.proofs.lemmas.List.reverse-reverse es) ∙ ap reverse h ∙ Rattle.std.proofs.lemmas.List.reverse-reverse fs

after-wide : (qs ps : List Tree) (w : Inside qs ps) (es fs : List ℤ) → length es ≡ length qs → length fs ≡ length qs → IsAfter (reverse es) (reverse fs)
    → IsAfter (reverse (widened qs ps w es)) (reverse (widened qs ps w fs))
after-wide qs ps none [] [] l m h = h
after-wide qs ps none (e ∷ es) fs l m h = absurd (omega (arith, l))
after-wide qs ps none [] (f ∷ fs) l m h = absurd (omega (arith, m))
after-wide qs ps (kept x qs' ps' w) [] fs l m h = absurd (omega (arith, l))
after-wide qs ps (kept x qs' ps' w) (e ∷ es) [] l m h = absurd (omega (arith, m))
after-wide qs ps (kept x qs' ps' w) (e ∷ es) (f ∷ fs) l m h =
    subst (λ (a : List ℤ). IsAfter a (reverse (f ∷ widened qs' ps' w fs))) (sym (rev-cons e (widened qs' ps' w es)))
    (subst (IsAfter (reverse (widened qs' ps' w es) ++ e ∷ [])) (sym (rev-cons f (widened qs' ps' w fs)))
    (go (λ k. after-wide qs' ps' w es fs (omega (arith, l)) (omega (arith, m)) k) (after-snoc (reverse es) (reverse fs) e f (let a = length-reverse es in let b = length-reverse fs in omega (arith, a, b, l, m))
    (subst (λ (a : List ℤ). IsAfter a (reverse fs ++ f ∷ [])) (rev-cons e es) (subst (IsAfter (reverse (e ∷ es))) (rev-cons f fs) h)))))
  where
    go : (IsAfter (reverse es) (reverse fs) → IsAfter (reverse (widened qs' ps' w es)) (reverse (widened qs' ps' w fs)))
        → IsAfter (reverse es) (reverse fs) ⊎ ((reverse es ≡ reverse fs) × (f <ℤ e))
        → IsAfter (reverse (widened qs' ps' w es) ++ e ∷ []) (reverse (widened qs' ps' w fs) ++ f ∷ [])
    go below (inl k) = snoc-left (reverse (widened qs' ps' w es)) (reverse (widened qs' ps' w fs)) e f (below k)
    go below (inr k) = subst (λ (bs : List ℤ). IsAfter (reverse (widened qs' ps' w es) ++ e ∷ []) (reverse (widened qs' ps' w bs) ++ f ∷ [])) (rev-same es fs k.0) (snoc-right (reverse (widened qs' ps' w es)) e f k.1)
after-wide qs ps (left_out x qs' ps' w) es fs l m h =
    subst (λ (a : List ℤ). IsAfter a (reverse (pos 0 ∷ widened qs' ps' w fs))) (sym (rev-cons (pos 0) (widened qs' ps' w es)))
    (subst (IsAfter (reverse (widened qs' ps' w es) ++ pos 0 ∷ [])) (sym (rev-cons (pos 0) (widened qs' ps' w fs)))
    (snoc-left (reverse (widened qs' ps' w es)) (reverse (widened qs' ps' w fs)) (pos 0) (pos 0) (after-wide qs' ps' w es fs l m h)))

-- past equal powers of the sums
after-powers : (es fs : List ℕ) (as' bs cs ds : List ℤ) → length es ≡ length fs → (IsAfter as' bs → IsAfter cs ds)
    → IsAfter (map (λ e. pos e) es ++ as') (map (λ e. pos e) fs ++ bs) → IsAfter (map (λ e. pos e) es ++ cs) (map (λ e. pos e) fs ++ ds)
after-powers [] [] as' bs cs ds l k h = k h
after-powers [] (f ∷ fs) as' bs cs ds l k h = absurd (omega (arith, l))
after-powers (e ∷ es) [] as' bs cs ds l k h = absurd (omega (arith, l))
after-powers (e ∷ es) (f ∷ fs) as' bs cs ds l k (inl h) = inl h
after-powers (e ∷ es) (f ∷ fs) as' bs cs ds l k (inr h) = inr (h.0, after-powers es fs as' bs cs ds (omega (arith, l)) k h.1)

module _ (qs ps : List Tree) (w : Inside qs ps) (n : ℕ) where
  abbrev Fits : Written → Type 0
  Fits t = (length t.powers ≡ n) × (length t.exponents ≡ length qs)

  descending-wide : (ts : List Written) → Each Fits ts → Descending ts → Descending (map (wide qs ps w) ts)
  descending-wide [] l h = tt
  descending-wide (t ∷ []) l h = tt
  descending-wide (t ∷ (u ∷ ts)) l h = (
    after-powers t.powers u.powers (reverse t.exponents) (reverse u.exponents) (reverse (widened qs ps w t.exponents)) (reverse (widened qs ps w u.exponents)) (l.0.0 ∙ sym l.1.0.0)
        (after-wide qs ps w t.exponents u.exponents l.0.1 l.1.0.1) h.0,
    descending-wide (u ∷ ts) l.1 h.1,
  )

  length-widened : (us vs : List Tree) (i : Inside us vs) (es : List ℤ) → length (widened us vs i es) ≡ length vs
  length-widened us vs none es = refl
  length-widened us vs (kept x us' vs' i) es = ap suc (length-widened us' vs' i (later_exponents es))
  length-widened us vs (left_out x us' vs' i) es = ap suc (length-widened us' vs' i es)

  sized-wide : (ts : List Written) → Each Fits ts → Each (λ t. (length t.powers ≡ n) × (length t.exponents ≡ length ps)) (map (wide qs ps w) ts)
  sized-wide [] l = tt
  sized-wide (t ∷ ts) l = ((l.0.0, length-widened qs ps w t.exponents), sized-wide ts l.1)

  lowest-wide : (ts : List Written) → Each (λ t. IsLowest t.upper t.lower) ts → Each (λ t. IsLowest t.upper t.lower) (map (wide qs ps w) ts)
  lowest-wide [] h = tt
  lowest-wide (t ∷ ts) h = (h.0, lowest-wide ts h.1)

  exponents-sized : (ts : List Written) → Each Fits ts → Each (Sized qs ps w) ts
  exponents-sized [] l = tt
  exponents-sized (t ∷ ts) l = (l.0.1, exponents-sized ts l.1)

pub canonical-over : (qs ps ss : List Tree) → Inside qs ps → (h : Tree) → IsCanonicalOver qs ss h → IsCanonicalOver ps ss h
canonical-over qs ps ss w h c = record {
  terms = map (wide qs ps w) c.terms;
  sized = sized-wide qs ps w (length ss) c.terms c.sized;
  descending = descending-wide qs ps w (length ss) c.terms c.sized c.descending;
  lowest = lowest-wide qs ps w (length ss) c.terms c.lowest;
  form = c.form ∙ ap total_tree (sym (signed-wide qs ps w (reverse ss) c.terms (exponents-sized qs ps w (length ss) c.terms c.sized)));
}
