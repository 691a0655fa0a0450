-- The form of a canonical expression.
--   expression-canonical   it is in canonical form
--   expression-built       over the fractions it is built over what its products and sums are built over
--   expression-over        without products too, where sums may stand in divisors
--   expression-printed     it is printed as it is
--   expression-alone       an element with the same terms has the same tree
use Rattle.std.proofs.Common.{◌≡◌, ℕ, suc, ◌+◌, ℤ, pos, negsuc, ◌≤ℤ◌, unsigned_abs, refl, sym, ap, ap₂, ◌∙◌, subst, List, [], ◌∷◌, ◌++◌, length, map, reverse, take, drop, true, false, IsTrue, inl, inr, arith}
use Rattle.std.proofs.lemmas.Int.{ints}
use Rattle.std.proofs.lemmas.List.{length-map, length-reverse, length-take, length-drop, reverse-append, take-append-drop}
use Rattle.sg_algebra.specs.Coefficients.{Each}
use Rattle.sg_algebra.proofs.Place.{Pairwise}
use Rattle.sg_algebra.proofs.Value.{Value, zero_value}
use Rattle.sg_spec.specs.Tree.{Tree}
use Rattle.sg_spec.specs.Generators.{Over, BuiltOver}
use Rattle.sg_spec.specs.Printing.{InForm}
use Rattle.sg_spec.specs.Shape.{is_divisor_tree}
use Rattle.sg_spec.specs.Canonical.{Plane, Written, element_tree, ranks, Descending, IsAfter, IsLowest, IsCanonicalOver}
use Rattle.sg_worth_theory.proofs.Building.{NoParameter, over-element, over-products, element-printed, Known}
use Rattle.sg_tower_theory.proofs.Formal.{Formal, Element}
use Rattle.sg_tower_theory.proofs.Flat.{Term, DescendingTerms, IsAfter as ComesAfter}
use Rattle.sg_build.specs.Letters.{LawsOfForms}
use Rattle.sg_build.specs.Expressions.{IsWrittenTerm, IsExpression, allowed}
use Rattle.sg_build.proofs.ExpressedValues.{map-reverse}

-- ---- Lists

each-push : {A : Type 0} (P : A → Type 0) (l : List A) (x : A) → Each P l → P x → Each P (l ++ (x ∷ []))
each-push P [] x h i = (i, tt)
each-push P (y ∷ l) x h i = (h.0, each-push P l x h.1 i)

each-reverse : {A : Type 0} (P : A → Type 0) (l : List A) → Each P l → Each P (reverse l)
each-reverse P [] h = tt
each-reverse P (x ∷ l) h = subst (Each P) (sym (reverse-append (x ∷ []) l)) (each-push P (reverse l) x (each-reverse P l h.1) h.0)

after-same : (es fs : List ℤ) → ComesAfter es fs → IsAfter es fs
after-same [] fs h = h
after-same (e ∷ es) [] h = h
after-same (e ∷ es) (f ∷ fs) (inl h) = inl h
after-same (e ∷ es) (f ∷ fs) (inr h) = inr (h.0, after-same es fs h.1)

natural-abs : (l : List ℤ) → Each (λ e. pos 0 ≤ℤ e) l → map (λ e. pos e) (map unsigned_abs l) ≡ l
natural-abs [] h = refl
natural-abs (pos n ∷ l) h = ap (λ (t : List ℤ). pos n ∷ t) (natural-abs l h.1)
natural-abs (negsuc n ∷ l) h = absurd (omega (arith, ints, h.0))

module _ {d : ℕ} (W : Value (suc d) → Plane → Plane → Type 0) (laws : LawsOfForms d W) where
  -- ---- Canonical form

  ranks-are : (r : ℕ) (t : Term d) (u : Written) → IsWrittenTerm W r t u → Each (λ e. pos 0 ≤ℤ e) (drop r t.exponents) → ranks u ≡ reverse t.exponents
  ranks-are r t u h n =
      ap₂ (λ (l : List ℕ) (m : List ℤ). map (λ e. pos e) l ++ reverse m) h.powers h.exponents
      ∙ ap (λ (l : List ℤ). l ++ reverse (take r t.exponents)) (map-reverse (λ e. pos e) (map unsigned_abs (drop r t.exponents)) ∙ ap reverse (natural-abs (drop r t.exponents) n))
      ∙ sym (reverse-append (take r t.exponents) (drop r t.exponents)) ∙ ap reverse (take-append-drop r t.exponents)

  descends : (r : ℕ) (ts : List (Term d)) (us : List Written) → Pairwise (IsWrittenTerm W r) ts us → Each (λ t. Each (λ e. pos 0 ≤ℤ e) (drop r t.exponents)) ts → DescendingTerms ts → Descending us
  descends r [] [] h n i = tt
  descends r [] (u ∷ us) h n i = absurd h
  descends r (t ∷ ts) [] h n i = absurd h
  descends r (t ∷ []) (u ∷ []) h n i = tt
  descends r (t ∷ []) (u ∷ (w ∷ us)) h n i = absurd h.1
  descends r (t ∷ (s ∷ ts)) (u ∷ []) h n i = absurd h.1
  descends r (t ∷ (s ∷ ts)) (u ∷ (w ∷ us)) h n i = (
    subst (λ (l : List ℤ). IsAfter l (ranks w)) (sym (ranks-are r t u h.0 n.0)) (subst (IsAfter (reverse t.exponents)) (sym (ranks-are r s w h.1.0 n.1.0)) (after-same (reverse t.exponents) (reverse s.exponents) i.0)),
    descends r (s ∷ ts) (w ∷ us) h.1 n.1 i.1,
  )

  sizes : (r n : ℕ) (ps ss : List Tree) (ts : List (Term d)) (us : List Written) → length ps ≡ r → length ss ≡ n → Pairwise (IsWrittenTerm W r) ts us → Each (λ t. length t.exponents ≡ r + n) ts
      → Each (λ t. (length t.powers ≡ length ss) × (length t.exponents ≡ length ps)) us
  sizes r n ps ss [] [] a b h l = tt
  sizes r n ps ss [] (u ∷ us) a b h l = absurd h
  sizes r n ps ss (t ∷ ts) [] a b h l = absurd h
  sizes r n ps ss (t ∷ ts) (u ∷ us) a b h l =
      let e : length u.powers ≡ length (drop r t.exponents) = ap length h.0.powers ∙ length-reverse (map unsigned_abs (drop r t.exponents)) ∙ length-map (drop r t.exponents) unsigned_abs in
      let m = length-drop r t.exponents in
      let k = length-take r t.exponents in
      ((omega (arith, e, m, l.0, b), ap length h.0.exponents ∙ omega (arith, k, l.0, a)), sizes r n ps ss ts us a b h.1 l.1)

  lowests : (r : ℕ) (ts : List (Term d)) (us : List Written) → Pairwise (IsWrittenTerm W r) ts us → Each (λ t. ¬ (t.coefficient ≡ zero_value)) ts → Each (λ u. IsLowest u.upper u.lower) us
  lowests r [] [] h n = tt
  lowests r [] (u ∷ us) h n = absurd h
  lowests r (t ∷ ts) [] h n = absurd h
  lowests r (t ∷ ts) (u ∷ us) h n = (laws.lowest t.coefficient u.upper u.lower h.0.coefficient n.0, lowests r ts us h.1 n.1)

  plain : (r : ℕ) (ts : List (Term d)) (us : List Written) → d ≡ 0 → Pairwise (IsWrittenTerm W r) ts us → Each (λ u. NoParameter u.upper × NoParameter u.lower) us
  plain r [] [] z h = tt
  plain r [] (u ∷ us) z h = absurd h
  plain r (t ∷ ts) [] z h = absurd h
  plain r (t ∷ ts) (u ∷ us) z h = (laws.plain t.coefficient u.upper u.lower h.0.coefficient z, plain r ts us z h.1)

  one-written : (r : ℕ) (ts : List (Term d)) (us ws : List Written) → Pairwise (IsWrittenTerm W r) ts us → Pairwise (IsWrittenTerm W r) ts ws → us ≡ ws
  one-written r [] [] [] h i = refl
  one-written r [] [] (w ∷ ws) h i = absurd i
  one-written r [] (u ∷ us) ws h i = absurd h
  one-written r (t ∷ ts) [] ws h i = absurd h
  one-written r (t ∷ ts) (u ∷ us) [] h i = absurd i
  one-written r (t ∷ ts) (u ∷ us) (w ∷ ws) h i = ap₂ (λ (x : Written) (l : List Written). x ∷ l) one (one-written r ts us ws h.1 i.1)
    where
      same : (u.upper ≡ w.upper) × (u.lower ≡ w.lower)
      same = laws.unique t.coefficient u.upper u.lower w.upper w.lower h.0.coefficient i.0.coefficient

      made : List ℕ → List ℤ → Plane → Plane → Written
      made es fs a b = record { powers = es; exponents = fs; upper = a; lower = b }

      one : u ≡ w
      one = ap₂ (λ (es : List ℕ) (fs : List ℤ). made es fs u.upper u.lower) (h.0.powers ∙ sym i.0.powers) (h.0.exponents ∙ sym i.0.exponents) ∙ ap₂ (made w.powers w.exponents) same.0 same.1

  module _ (f : Formal d) (x : Element f) (ps ss : List Tree) (t : Tree) (e : IsExpression W f x ps ss t) where
    pub expression-canonical : length ps ≡ length f.products → length ss ≡ f.sums → IsCanonicalOver ps ss t
    expression-canonical l m = record {
      terms = e.written;
      sized = sizes (length f.products) f.sums ps ss e.terms e.written l m e.each e.flat.sized;
      descending = descends (length f.products) e.terms e.written e.each e.flat.natural e.flat.descending;
      lowest = lowests (length f.products) e.terms e.written e.each e.flat.nonzero;
      form = e.form;
    }

    -- ---- What it is built over

    pub expression-built : d ≡ 0 → (qs us : List Tree) → Each (λ p. BuiltOver (allowed qs us) p × IsTrue (is_divisor_tree p)) ps → Each (BuiltOver (allowed qs us)) ss → BuiltOver (allowed qs us) t
    expression-built z qs us h i =
        subst (BuiltOver (allowed qs us)) (sym e.form) (over-products qs us ps ss e.written h (each-reverse (BuiltOver (allowed qs us)) ss i) (plain (length f.products) e.terms e.written z e.each))

    pub expression-over : d ≡ 0 → ps ≡ [] → (us : List Tree) → Each (Over us) ss → Over us t
    expression-over z n us i =
        subst (Over us) (sym (e.form ∙ ap (λ (l : List Tree). element_tree l ss e.written) n)) (over-element us ss e.written (each-reverse (Over us) ss i) (plain (length f.products) e.terms e.written z e.each))

    never-known : (p : Plane) → NoParameter p → Known false p
    never-known [] h = tt
    never-known (row ∷ p) h = (λ l. absurd (omega (arith, h.0, l)), never-known p h.1)

    all-known : (us : List Written) → Each (λ u. NoParameter u.upper × NoParameter u.lower) us → Each (λ u. Known false u.upper × Known false u.lower) us
    all-known [] h = tt
    all-known (u ∷ us) h = ((never-known u.upper h.0.0, never-known u.lower h.0.1), all-known us h.1)

    pub expression-printed : d ≡ 0 → Each (λ p. InForm false false p × (is_divisor_tree p ≡ true)) ps → Each (InForm false false) ss → InForm false false t
    expression-printed z h i =
        subst (InForm false false) (sym e.form) (element-printed false ps ss e.written h (each-reverse (InForm false false) ss i) (all-known e.written (plain (length f.products) e.terms e.written z e.each)))

  -- ---- One tree

  -- elements with one list of terms are written alike
  pub expression-alone : (f : Formal d) (x y : Element f) (ps ss : List Tree) (t u : Tree) (h : IsExpression W f x ps ss t) (k : IsExpression W f y ps ss u) → h.terms ≡ k.terms → t ≡ u
  expression-alone f x y ps ss t u h k e =
      h.form ∙ ap (element_tree ps ss) (one-written (length f.products) h.terms h.written k.written h.each (subst (λ (l : List (Term d)). Pairwise (IsWrittenTerm W (length f.products)) l k.written) (sym e) k.each)) ∙ sym k.form
