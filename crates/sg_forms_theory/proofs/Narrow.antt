-- A canonical form in which the last sums stand with the exponent 0 alone is one over the sums before them.
--   AreIdle n t       the first n powers of the term t, those of the last n sums, are 0
--   form-narrow       so it is for all terms of a form
use Rattle.std.proofs.Common.{◌≡◌, ℕ, zero, suc, ℤ, pos, refl, sym, ap, ap₂, ◌∙◌, subst, List, [], ◌∷◌, ◌++◌, length, map, reverse, append-nil, append_assoc, inl, inr, arith}
use Rattle.std.proofs.lemmas.Int.{ints}
use Rattle.std.proofs.lemmas.List.{reverse-append, length-append}
use Rattle.sg_algebra.specs.Coefficients.{Each}
use Rattle.sg_spec.specs.Tree.{Tree}
use Rattle.sg_spec.specs.Canonical.{Plane, Written, total_tree, raised, first_power, later_powers, without, before_groups, groups, joined, signed_terms, IsAfter, Descending}
use Rattle.sg_forms_theory.specs.Forms.{IsFormOver}

abbrev pub AreIdle : ℕ → List ℕ → Type 0
AreIdle zero es = Unit {0}
AreIdle (suc n) es = (first_power es ≡ 0) × AreIdle n (later_powers es)

-- ---- One sum less

group-of : (t : Written) (ts : List Written) → Each (λ t. first_power t.powers ≡ 0) (t ∷ ts) → groups (t ∷ ts) ≡ (0, map without (t ∷ ts)) ∷ []
group-of t [] h = ap (λ (e : ℕ). before_groups e (without t) []) h.0
group-of t (u ∷ ts) h =
    ap₂ (λ (e : ℕ) (gs : List (ℕ × List Written)). before_groups e (without t) gs) h.0 (group-of u ts h.1)

signed-less : (x : Tree) (ss : List Tree) (ts : List Written) → Each (λ t. first_power t.powers ≡ 0) ts → signed_terms [] (x ∷ ss) ts ≡ signed_terms [] ss (map without ts)
signed-less x ss [] h = none ss
  where
    none : (ss : List Tree) → [] ≡ signed_terms [] ss []
    none [] = refl
    none (s ∷ ss) = refl
signed-less x ss (t ∷ ts) h = ap (joined (λ g. raised x g.0 (signed_terms [] ss g.1))) (group-of t ts h) ∙ append-nil (signed_terms [] ss (map without (t ∷ ts)))

-- ---- Terms

abbrev Sized : ℕ → Written → Type 0
Sized n t = (length t.powers ≡ n) × (t.exponents ≡ [])

after-less : (es fs : List ℕ) (as' bs : List ℤ) → first_power es ≡ 0 → first_power fs ≡ 0 → (n : ℕ) → length es ≡ suc n → length fs ≡ suc n
    → IsAfter (map (λ e. pos e) es ++ as') (map (λ e. pos e) fs ++ bs) → IsAfter (map (λ e. pos e) (later_powers es) ++ as') (map (λ e. pos e) (later_powers fs) ++ bs)
after-less [] fs as' bs z w n l m h = absurd (omega (arith, l))
after-less (e ∷ es) [] as' bs z w n l m h = absurd (omega (arith, m))
after-less (e ∷ es) (f ∷ fs) as' bs z w n l m (inl h) = absurd (omega (arith, ints, h, z, w))
after-less (e ∷ es) (f ∷ fs) as' bs z w n l m (inr h) = h.1

descending-less : (n : ℕ) (ts : List Written) → Each (Sized (suc n)) ts → Each (λ t. first_power t.powers ≡ 0) ts → Descending ts → Descending (map without ts)
descending-less n [] s z h = tt
descending-less n (t ∷ []) s z h = tt
descending-less n (t ∷ (u ∷ ts)) s z h = (after-less t.powers u.powers (reverse t.exponents) (reverse u.exponents) z.0 z.1.0 n s.0.0 s.1.0.0 h.0, descending-less n (u ∷ ts) s.1 z.1 h.1)

sized-less : (n : ℕ) (ts : List Written) → Each (Sized (suc n)) ts → Each (Sized n) (map without ts)
sized-less n [] s = tt
sized-less n (t ∷ ts) s = ((later t.powers s.0.0, s.0.1), sized-less n ts s.1)
  where
    later : (es : List ℕ) → length es ≡ suc n → length (later_powers es) ≡ n
    later [] l = absurd (omega (arith, l))
    later (e ∷ es) l = omega (arith, l)

coefficients-less : (Q : Plane → Plane → Type 0) (ts : List Written) → Each (λ t. Q t.upper t.lower) ts → Each (λ t. Q t.upper t.lower) (map without ts)
coefficients-less Q [] h = tt
coefficients-less Q (t ∷ ts) h = (h.0, coefficients-less Q ts h.1)

idle-first : (n : ℕ) (ts : List Written) → Each (λ t. AreIdle (suc n) t.powers) ts → Each (λ t. first_power t.powers ≡ 0) ts
idle-first n [] h = tt
idle-first n (t ∷ ts) h = (h.0.0, idle-first n ts h.1)

idle-later : (n : ℕ) (ts : List Written) → Each (λ t. AreIdle (suc n) t.powers) ts → Each (λ t. AreIdle n t.powers) (map without ts)
idle-later n [] h = tt
idle-later n (t ∷ ts) h = (h.0.1, idle-later n ts h.1)

-- ---- Forms

pub record IsFormBy (Q : Plane → Plane → Type 0) (gs : List Tree) (h : Tree) (terms : List Written) : Type 0 where
  pub sized : Each (λ t. (length t.powers ≡ length gs) × (t.exponents ≡ [])) terms
  pub descending : Descending terms
  pub coefficients : Each (λ t. Q t.upper t.lower) terms
  pub form : h ≡ total_tree (signed_terms [] (reverse gs) terms)

snoc : (x : Tree) (xs : List Tree) → (ys : List Tree) × (y : Tree) × (x ∷ xs ≡ ys ++ y ∷ []) × (length ys ≡ length xs)
snoc x [] = ([], x, refl, refl)
snoc x (z ∷ zs) = go (snoc z zs)
  where
    go : (ys : List Tree) × (y : Tree) × (z ∷ zs ≡ ys ++ y ∷ []) × (length ys ≡ length zs) → (ys : List Tree) × (y : Tree) × (x ∷ (z ∷ zs) ≡ ys ++ y ∷ []) × (length ys ≡ suc (length zs))
    go r = (x ∷ r.0, r.1, ap (λ (l : List Tree). x ∷ l) r.2, ap suc r.3)

module _ (Q : Plane → Plane → Type 0) where
  one-less : (gs : List Tree) (x h : Tree) (ts : List Written) → IsFormBy Q (gs ++ x ∷ []) h ts → Each (λ t. first_power t.powers ≡ 0) ts → IsFormBy Q gs h (map without ts)
  one-less gs x h ts f z =
      let sized = subst (λ (n : ℕ). Each (Sized n) ts) (count gs) f.sized in
      record {
        sized = sized-less (length gs) ts sized;
        descending = descending-less (length gs) ts sized z f.descending;
        coefficients = coefficients-less Q ts f.coefficients;
        form = f.form ∙ ap (λ (us : List Tree). total_tree (signed_terms [] us ts)) (reverse-append gs (x ∷ [])) ∙ ap total_tree (signed-less x (reverse gs) ts z);
      }
    where
      count : (gs : List Tree) → length (gs ++ x ∷ []) ≡ suc (length gs)
      count gs = let e = length-append gs (x ∷ []) in omega (arith, e)

  -- so many sums less, the last first
  less : (n : ℕ) (gs more : List Tree) (h : Tree) (ts : List Written) → length more ≡ n → IsFormBy Q (gs ++ more) h ts → Each (λ t. AreIdle n t.powers) ts → IsFormOver Q gs h
  less zero gs [] h ts e f z = record {
    terms = ts;
    sized = subst (λ (us : List Tree). Each (Sized (length us)) ts) (append-nil gs) f.sized;
    descending = f.descending;
    coefficients = f.coefficients;
    form = f.form ∙ ap (λ (us : List Tree). total_tree (signed_terms [] (reverse us) ts)) (append-nil gs);
  }
  less zero gs (x ∷ more) h ts e f z = absurd (omega (arith, e))
  less (suc n) gs [] h ts e f z = absurd (omega (arith, e))
  less (suc n) gs (x ∷ more) h ts e f z = go (snoc x more) (λ init i. less n gs init h (map without ts) i)
    where
      go : (ys : List Tree) × (y : Tree) × (x ∷ more ≡ ys ++ y ∷ []) × (length ys ≡ length more)
          → ((init : List Tree) → length init ≡ n → IsFormBy Q (gs ++ init) h (map without ts) → Each (λ t. AreIdle n t.powers) (map without ts) → IsFormOver Q gs h) → IsFormOver Q gs h
      go r again =
          let size = r.3 in
          again r.0 (omega (arith, size, e))
          (one-less (gs ++ r.0) r.1 h ts (subst (λ (us : List Tree). IsFormBy Q us h ts) (ap (λ (zs : List Tree). gs ++ zs) r.2 ∙ sym (append_assoc gs r.0 (r.1 ∷ []))) f) (idle-first n ts z))
          (idle-later n ts z)

pub form-narrow : (Q : Plane → Plane → Type 0) (gs more : List Tree) (h : Tree) (terms : List Written) → IsFormBy Q (gs ++ more) h terms → Each (λ t. AreIdle (length more) t.powers) terms → IsFormOver Q gs h
form-narrow Q gs more h terms f z = less Q (length more) gs more h terms refl f z
