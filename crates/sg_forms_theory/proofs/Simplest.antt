-- The simplest form of an expression, from the tower over the sums of a command. `W c u l` says that the rational function c is written as u over l, and `Q u l` that some
-- function other than 0 is.
--   Writes W Q         the laws of these
--   form-over          a form over sums is built over what they are built over
--   form-canonical     and is canonical
--   item-standing      a sum that is expressed
--   simplest           the form of an element, for an expression that agrees with it
use Rattle.std.proofs.Common.{◌≡◌, ℕ, suc, ◌+◌, ◌<◌, ◌≤◌, ℤ, refl, sym, ap, ap₂, ◌∙◌, subst, List, [], ◌∷◌, ◌++◌, length, map, reverse, take, drop, get_or, Contains, Option, arith}
use Rattle.std.proofs.lemmas.List.{length-map, length-take-le, length-drop, reverse-append, map-append, take-append-drop, get_or-take}
use Rattle.std.proofs.lemmas.List.Elements.{Contains-get_or}
use Rattle.sg_algebra.specs.Coefficients.{Each}
use Rattle.sg_algebra.proofs.Place.{Pairwise}
use Rattle.sg_algebra.proofs.Value.{Value, zero_value}
use Rattle.sg_spec.specs.Tree.{Tree, numeral, here, param, add, neg, mul, div, power, sum_from, prod_from}
use Rattle.sg_spec.specs.Generators.{Over}
use Rattle.sg_spec.specs.Telescoping.{Agree}
use Rattle.sg_spec.specs.Canonical.{Plane, Written, element_tree, IsLowest, IsCanonicalOver}
use Rattle.sg_worth_theory.proofs.Building.{NoParameter, over-element}
use Rattle.sg_worth_theory.proofs.Closes.{no_letter}
use Rattle.sg_tower_theory.proofs.Formal.{Formal, Element, IsIndependent}
use Rattle.sg_tower_theory.proofs.Flat.{Term, IsLowestForm, IsFlat}
use Rattle.sg_value_theory.proofs.Elements.{Point}
use Rattle.sg_value_theory.proofs.TreePoints.{IsPointOf, Expresses}
use Rattle.sg_value_theory.proofs.TowerOf.{IsTowerOf, IsSound, IsSumOver, at_places}
use Rattle.sg_depth_theory.proofs.Sums.{over-earlier}
use Rattle.sg_forms_theory.specs.Forms.{IsFormOver}
use Rattle.sg_forms_theory.specs.Sums.{IsExpressed, IsSimplest}
use Rattle.sg_forms_theory.proofs.Terms.{one_flat, terms_below}
use Rattle.sg_forms_theory.proofs.Narrow.{IsFormBy, form-narrow}
use Rattle.sg_forms_theory.proofs.Writing.{IsTermBy, form-of, idle-of, element-of}
use Rattle.sg_forms_theory.proofs.Marking.{HasReached, few-below, AreMarked}
use Rattle.sg_forms_theory.proofs.Listed.{HasFromStart, StandsHere, equal-from, item-alone, sum-has, known-stands, known-below}

pub record Writes {d : ℕ} (W : Value (suc d) → Plane → Plane → Type 0) (Q : Plane → Plane → Type 0) : Type 0 where
  pub made : (c : Value (suc d)) (u l : Plane) → W c u l → ¬ (c ≡ zero_value) → Q u l
  pub of : (u l : Plane) → Q u l → (c : Value (suc d)) × W c u l × ¬ (c ≡ zero_value) × IsLowestForm c
  pub unique : (c : Value (suc d)) (u l v m : Plane) → W c u l → W c v m → (u ≡ v) × (l ≡ m)
  pub plain : (u l : Plane) → Q u l → NoParameter u × NoParameter l
  pub lowest : (u l : Plane) → Q u l → IsLowest u l

-- ---- Forms

each-push : {A : Type 0} (P : A → Type 0) (l : List A) (x : A) → Each P l → P x → Each P (l ++ (x ∷ []))
each-push P [] x h i = (i, tt)
each-push P (y ∷ l) x h i = (h.0, each-push P l x h.1 i)

each-reverse : {A : Type 0} (P : A → Type 0) (l : List A) → Each P l → Each P (reverse l)
each-reverse P [] h = tt
each-reverse P (x ∷ l) h = subst (Each P) (sym (reverse-append (x ∷ []) l)) (each-push P (reverse l) x (each-reverse P l h.1) h.0)

all-plain : (Q : Plane → Plane → Type 0) → ((u l : Plane) → Q u l → NoParameter u × NoParameter l) → (ts : List Written) → Each (λ t. Q t.upper t.lower) ts → Each (λ t. NoParameter t.upper × NoParameter t.lower) ts
all-plain Q p [] h = tt
all-plain Q p (t ∷ ts) h = (p t.upper t.lower h.0, all-plain Q p ts h.1)

pub form-over : (Q : Plane → Plane → Type 0) → ((u l : Plane) → Q u l → NoParameter u × NoParameter l) → (us gs : List Tree) (h : Tree) → IsFormOver Q gs h → Each (Over us) gs → Over us h
form-over Q p us gs h f o = subst (Over us) (sym f.form) (over-element us gs f.terms (each-reverse (Over us) gs o) (all-plain Q p f.terms f.coefficients))

pub form-canonical : (Q : Plane → Plane → Type 0) → ((u l : Plane) → Q u l → IsLowest u l) → (gs : List Tree) (h : Tree) → IsFormOver Q gs h → IsCanonicalOver [] gs h
form-canonical Q low gs h f = record { terms = f.terms; sized = sizes f.terms f.sized; descending = f.descending; lowest = lowests f.terms f.coefficients; form = f.form }
  where
    sizes : (ts : List Written) → Each (λ t. (length t.powers ≡ length gs) × (t.exponents ≡ [])) ts → Each (λ t. (length t.powers ≡ length gs) × (length t.exponents ≡ 0)) ts
    sizes [] s = tt
    sizes (t ∷ ts) s = ((s.0.0, ap length s.0.1), sizes ts s.1)

    lowests : (ts : List Written) → Each (λ t. Q t.upper t.lower) ts → Each (λ t. IsLowest t.upper t.lower) ts
    lowests [] c = tt
    lowests (t ∷ ts) c = (low t.upper t.lower c.0, lowests ts c.1)

own-over : (ps before ss : List Tree) (g : Tree) → IsSumOver ps before g → Contains ss g → Over ss g
own-over ps before ss (numeral c) o h = absurd o
own-over ps before ss here o h = absurd o
own-over ps before ss param o h = absurd o
own-over ps before ss (add x y) o h = absurd o
own-over ps before ss (neg x) o h = absurd o
own-over ps before ss (mul x y) o h = absurd o
own-over ps before ss (div x y) o h = absurd o
own-over ps before ss (power x e) o h = absurd o
own-over ps before ss (sum_from from body) o h = h
own-over ps before ss (prod_from from body) o h = absurd o

-- ---- One text

made : List ℕ → List ℤ → Plane → Plane → Written
made a b c e = record { powers = a; exponents = b; upper = c; lower = e }

same-written : (u w : Written) → u.powers ≡ w.powers → u.exponents ≡ w.exponents → u.upper ≡ w.upper → u.lower ≡ w.lower → u ≡ w
unfolding made
same-written u w a b c e =
    ap (λ (x : List ℕ). made x u.exponents u.upper u.lower) a
    ∙ ap (λ (x : List ℤ). made w.powers x u.upper u.lower) b
    ∙ ap₂ (λ (x y : Plane). made w.powers w.exponents x y) c e

one-list : {d : ℕ} (W : Value (suc d) → Plane → Plane → Type 0) (Q : Plane → Plane → Type 0) → Writes W Q → (r : ℕ) (ts : List (Term d)) (us ws : List Written) → Pairwise (IsTermBy W r) ts us → Pairwise (IsTermBy W r) ts ws → us ≡ ws
one-list W Q laws r [] [] [] h k = refl
one-list W Q laws r [] [] (w ∷ ws) h k = absurd k
one-list W Q laws r [] (u ∷ us) ws h k = absurd h
one-list W Q laws r (t ∷ ts) [] ws h k = absurd h
one-list W Q laws r (t ∷ ts) (u ∷ us) [] h k = absurd k
one-list W Q laws r (t ∷ ts) (u ∷ us) (w ∷ ws) h k =
    let q = laws.unique t.coefficient u.upper u.lower w.upper w.lower h.0.coefficient k.0.coefficient in
    ap₂ ◌∷◌ (same-written u w (h.0.powers ∙ sym k.0.powers) (h.0.exponents ∙ sym k.0.exponents) q.0 q.1) (one-list W Q laws r ts us ws h.1 k.1)

-- ---- In the tower

module _ (W : Value 1 → Plane → Plane → Type 0) (Q : Plane → Plane → Type 0) (laws : Writes W Q) (s : ℤ) (ps ss : List Tree) {E : Type 0} (F : Formal 0) (m : E → Element F) (places : List ℕ) (known : List E)
    (is : IsTowerOf no_letter s ps ss F places (map m known)) (sound : IsSound no_letter s ps ss) where
  abbrev gens : List Tree
  gens = at_places ss places

  no-products : length F.products ≡ 0
  no-products = sym is.adjoined ∙ ap length sound.no_products

  gens-size : length gens ≡ F.sums
  gens-size = length-map places (λ i. get_or ss i here) ∙ is.size

  -- an element with its terms, as they are written over the sums at the places
  pub record IsWritten (x : Element F) (h : Tree) : Type 0 where
    pub terms : List (Term 0)
    pub written : List Written
    pub flat : IsFlat F x terms
    pub each : Pairwise (IsTermBy W (length F.products)) terms written
    pub form : h ≡ element_tree [] gens written

  abbrev pub SaysAll : Element F → Tree → Type 0
  SaysAll x h = (p : Point 0) → IsPointOf no_letter ps gens p → Expresses no_letter F p x h

  form-whole : (x : Element F) (h : Tree) (w : IsWritten x h) → IsFormBy Q gens h w.written
  form-whole x h w = form-of W Q F x gens h w.terms w.written laws.made no-products gens-size w.flat w.each w.form

  whole : (h : Tree) (us : List Written) → IsFormBy Q gens h us → IsFormOver Q gens h
  whole h us f = record { terms = us; sized = f.sized; descending = f.descending; coefficients = f.coefficients; form = f.form }

  -- each sum is over any list that has it
  sum-over : (us : List Tree) (i : ℕ) → i < length ss → Contains us (get_or ss i here) → Over us (get_or ss i here)
  sum-over us i l c = own-over ps (take i ss) us (get_or ss i here) (over-earlier no_letter s ps ss sound i l) c

  places-over : (us : List Tree) (is : List ℕ) → Each (λ i. i < length ss) is → Each (λ i. Contains us (get_or ss i here)) is → Each (Over us) (at_places ss is)
  places-over us [] h c = tt
  places-over us (i ∷ is) h c = (sum-over us i h.0 c.0, places-over us is h.1 c.1)

  -- ---- A sum that is expressed

  module _ (i n : ℕ) (inside : i < length ss) (reached : HasReached places (suc i) n) where
    abbrev first : List ℕ
    first = take n places

    abbrev rest : List ℕ
    rest = drop n places

    split : at_places ss first ++ at_places ss rest ≡ gens
    split = sym (map-append (λ j. get_or ss j here) first rest) ∙ ap (at_places ss) (take-append-drop n places)

    inside-first : Each (λ j. j < i) first → Each (λ j. j < length ss) first
    inside-first h = go first h
      where
        go : (js : List ℕ) → Each (λ j. j < i) js → Each (λ j. j < length ss) js
        go [] h = tt
        go (j ∷ js) h = (let k = h.0 in omega (arith, k, inside), go js h.1)

    held-first : Each (λ j. j < i) first → Each (λ j. Contains (take i ss) (get_or ss j here)) first
    held-first h = go first h
      where
        go : (js : List ℕ) → Each (λ j. j < i) js → Each (λ j. Contains (take i ss) (get_or ss j here)) js
        go [] h = tt
        go (j ∷ js) h = (
          let e = length-take-le i ss (omega (arith, inside)) in
              subst (λ (g : Tree). Contains (take i ss) g) (get_or-take i ss j here h.0) (Contains-get_or (take i ss) j here (let k = h.0 in omega (arith, k, e))),
          go js h.1,
        )

    module _ (below : Each (λ j. j < i) first) (x : E) (at : x ≡ get_or known i x) (h : Tree) (w : IsWritten (m x) h) (says : SaysAll (m x) h) where
      idle-count : length (at_places ss rest) + n ≤ F.sums
      idle-count = let a = length-map rest (λ j. get_or ss j here) in let b = length-drop n places in let c = is.size in let e = reached.within in omega (arith, a, b, c, e)

      narrow : IsFormOver Q (at_places ss first) h
      narrow =
          let few = few-below places i n reached in
          let count = idle-count in
          form-narrow Q (at_places ss first) (at_places ss rest) h w.written (subst (λ (gs : List Tree). IsFormBy Q gs h w.written) (sym split) (form-whole (m x) h w))
          (idle-of W F.sums _ (length (at_places ss rest)) (length F.products) w.terms w.written no-products (omega (arith, few, count)) w.each
          (terms_below F _ (m x) (known-below s ps ss F m places known is sound i x inside at) w.terms w.flat))

      pub item-standing : IsExpressed Q s (take i ss) (at_places ss first) (get_or ss i here) h
      item-standing = record {
        over = form-over Q laws.plain (take i ss) (at_places ss first) h narrow (places-over (take i ss) first (inside-first below) (held-first below));
        form = narrow;
        same = equal-from s ps ss F m places known is sound (get_or ss i here) x (sum-has s ps ss F m places known is sound i inside) (known-stands s ps ss F m places known is sound i x inside at) h says;
      }

  -- ---- The simplest form

  module _ (f : Tree) (x : E) (f_has : HasFromStart s ps ss F m places known is sound f) (f_stands : StandsHere s ps ss F m places known is sound f x) (h : Tree) (w : IsWritten (m x) h) (says : SaysAll (m x) h)
      (independent : IsIndependent F) (all-say : (y : Element F) (e : Tree) → IsWritten y e → SaysAll y e) (os : List (Option Tree)) (marked : AreMarked Q s ss places os) where
    all-held : (is : List ℕ) → Each (λ i. i < length ss) is → Each (λ i. Contains ss (get_or ss i here)) is
    all-held [] k = tt
    all-held (i ∷ is) k = (Contains-get_or ss i here k.0, all-held is k.1)

    alone : (e : Tree) → IsFormOver Q gens e → Agree e f → e ≡ h
    alone e form agree =
        let of = element-of W Q laws.of F gens e no-products gens-size form in
        let own : IsWritten of.element e = record { terms = of.terms; written = of.written; flat = of.flat; each = of.each; form = of.form } in
        let same = item-alone s ps ss F m places known is sound f x f_has f_stands independent e of.element (all-say of.element e own) agree in
        let terms : of.terms ≡ w.terms = one_flat F of.element (m x) of.terms w.terms same of.flat w.flat in
        of.form
        ∙ ap (element_tree [] gens) (one-list W Q laws (length F.products) w.terms of.written w.written (subst (λ (ts : List (Term 0)). Pairwise (IsTermBy W (length F.products)) ts of.written) terms of.each) w.each)
        ∙ sym w.form

    pub simplest : IsSimplest Q s ss f h
    simplest =
        let form = whole h w.written (form-whole (m x) h w) in
        record {
          standings = os;
          are = marked.standings;
          over = form-over Q laws.plain ss gens h form (places-over ss places is.inside (all-held places is.inside));
          form = subst (λ (gs : List Tree). IsFormOver Q gs h) (sym marked.new) form;
          same = equal-from s ps ss F m places known is sound f x f_has f_stands h says;
          only = λ e o a. alone e (subst (λ (gs : List Tree). IsFormOver Q gs e) marked.new o) a;
        }
