-- The canonical form of a polynomial is that of an element of one term.
--   one-term          over a denominator that isn't 0
use Rattle.std.proofs.Common.{◌≡◌, ℕ, zero, suc, ◌==◌, ℤ, pos, negsuc, neg_ℤ, Bool, true, false, cond, refl, sym, ap, ◌∙◌, List, [], ◌∷◌, ◌++◌, length, map}
use Rattle.std.proofs.lemmas.List.{length-map}
use Rattle.sg_spec.specs.Tree.{Tree, numeral, neg, div, mul, here, power}
use Rattle.sg_plain.specs.Terms.{numerator, with_terms, leads_below_zero, canonical, monomial as plain_monomial}
use Rattle.sg_worth_theory.proofs.Planes.{plane-opposite}
use Rattle.sg_spec.specs.Canonical.{Signed, Written, monomial, monomials, added, total_tree, polynomial_tree, leads_below, negated, of_coefficient, with_sign, element_tree, plane_of}

monomial-is : (c e : ℕ) → monomial c e 0 ≡ plain_monomial c e
monomial-is c zero = refl
monomial-is c (suc zero) = refl
monomial-is c (suc (suc e)) = refl

-- with its length
monomial-at : (c : ℕ) (cs : List ℤ) → monomial c (length (plane_of cs)) 0 ≡ plain_monomial c (length cs)
monomial-at c cs = ap (λ (n : ℕ). monomial c n 0) (length-map cs (λ a. a ∷ [])) ∙ monomial-is c (length cs)

added-is : (t : Tree) (cs : List ℤ) → added t (monomials (plane_of cs)) ≡ with_terms t cs
added-is t [] = refl
added-is t (pos zero ∷ cs) = added-is t cs
added-is t (pos (suc c) ∷ cs) = added-is (Rattle.sg_spec.specs.Tree.add t (monomial (suc c) (length (plane_of cs)) 0)) cs
    ∙ ap (λ (u : Tree). with_terms (Rattle.sg_spec.specs.Tree.add t u) cs) (monomial-at (suc c) cs)
added-is t (negsuc c ∷ cs) = added-is (Rattle.sg_spec.specs.Tree.add t (neg (monomial (suc c) (length (plane_of cs)) 0))) cs
    ∙ ap (λ (u : Tree). with_terms (Rattle.sg_spec.specs.Tree.add t (neg u)) cs) (monomial-at (suc c) cs)

pub numerator-is : (cs : List ℤ) → polynomial_tree (plane_of cs) ≡ numerator cs
numerator-is [] = refl
numerator-is (pos zero ∷ cs) = numerator-is cs
numerator-is (pos (suc c) ∷ cs) = added-is (monomial (suc c) (length (plane_of cs)) 0) cs ∙ ap (λ (u : Tree). with_terms u cs) (monomial-at (suc c) cs)
numerator-is (negsuc c ∷ cs) = added-is (neg (monomial (suc c) (length (plane_of cs)) 0)) cs ∙ ap (λ (u : Tree). with_terms (neg u) cs) (monomial-at (suc c) cs)

leads-is : (cs : List ℤ) → leads_below (monomials (plane_of cs)) ≡ leads_below_zero cs
leads-is [] = refl
leads-is (pos zero ∷ cs) = leads-is cs
leads-is (pos (suc c) ∷ cs) = refl
leads-is (negsuc c ∷ cs) = refl

append-none : (l : List Signed) → l ++ [] ≡ l
append-none [] = refl
append-none (x ∷ l) = ap (λ (t : List Signed). x ∷ t) (append-none l)

abbrev pub only : List ℤ → ℕ → Written
only cs d = record { powers = []; exponents = []; upper = plane_of cs; lower = (pos d ∷ []) ∷ [] }

over-number : (m : Bool) (cs : List ℤ) (d : Tree)
    → with_sign m (div (polynomial_tree (cond m (negated (plane_of cs)) (plane_of cs))) d) ≡ cond m (neg (div (numerator (map neg_ℤ cs)) d)) (div
    (numerator cs) d)
over-number true cs d = ap (λ (t : Tree). neg (div t d)) (ap polynomial_tree (sym (plane-opposite cs)) ∙ numerator-is (map neg_ℤ cs))
over-number false cs d = ap (λ (t : Tree). div t d) (numerator-is cs)

by_denominator : (cs : List ℤ) (n : Tree) (b : Bool)
    → cond b (numerator cs) (cond (leads_below_zero cs) (neg (div (numerator (map neg_ℤ cs)) n)) (div (numerator cs) n))
    ≡ total_tree (of_coefficient (plane_of cs) [] (cond b [] (n ∷ []) ++ []) ++ [])
by_denominator cs n true = sym (ap total_tree (append-none (monomials (plane_of cs))) ∙ numerator-is cs)
by_denominator cs n false =
    sym (over-number (leads_below (monomials (plane_of cs))) cs n
    ∙ ap (λ (m : Bool). cond m (neg (div (numerator (map neg_ℤ cs)) n)) (div (numerator cs) n)) (leads-is cs))

pub one-term : (cs : List ℤ) (d : ℕ) → canonical cs (suc d) ≡ element_tree [] [] (only cs (suc d) ∷ [])
one-term cs d = by_denominator cs (numeral (pos (suc d))) (suc d == 1)
