-- Elements of a tower with products and without sums, where v says which value a constant has and αs are the factors of the products.
--   count v αs               how many products its formal tower has: as many as there are factors
--   laurents v αs            its formal tower, and lists of terms as its elements
--   IsShiftedTerm v αs t r   r is the term t with k + 1 for k
--   IsFlatTerm v t r         r has the exponents of t and its coefficient, in lowest terms
use Rattle.std.specs.Prelude.{◌≡◌, ℕ, suc, List, length, map}
use Rattle.sg_algebra.proofs.Value.{Value}
use Rattle.sg_tower_theory.proofs.Formal.{no_sums, factors, base_shift}
use Rattle.sg_ratfun.specs.Fractions.{ratio}
use Rattle.sg_ratfun.specs.Reduced.{IsReduced}
use Rattle.sg_tower.specs.declared.flat.FlatTerm.{FlatTerm}
use Rattle.sg_tower.specs.Elements.{Reading}
use Rattle.sg_laurent.specs.declared.terms.Term.{Term}
use Rattle.sg_laurent.specs.Elements.{Same, element, term_in, exponents}

module _ {K : Type 0} {d : ℕ} (v : K → Value d) where
  abbrev pub count : List (List K × List K) → ℕ
  count αs = length (factors (map (ratio v) αs))

  abbrev pub laurents : List (List K × List K) → Reading d (List (Term (List K × List K)))
  laurents αs = record { formal = no_sums (map (ratio v) αs); of = element (ratio v) (count αs) }

  abbrev pub IsShiftedTerm : List (List K × List K) → Term (List K × List K) → Term (List K × List K) → Type 0
  IsShiftedTerm αs t r = Same (ratio v) (count αs) (term_in (ratio v) (count αs) r) ((base_shift (map (ratio v) αs)).σ.on (term_in (ratio v) (count αs) t))

  pub record IsFlatTerm (t : Term (List K × List K)) (r : FlatTerm K) : Type 0 where
    pub exps : r.exps ≡ exponents t
    pub value : ratio v r.coeff ≡ ratio v t.coeff
    pub reduced : IsReduced (map v r.coeff.0) (map v r.coeff.1)
