-- The rows of refined factors over all shifts, joined with those of the leading coefficients.
--   lead_rows       they decide which products of powers are r(k + 1)/r(k) up to their sign, and the sign is that of the leading coefficients
use Rattle.std.proofs.Common.{◌≡◌, ℕ, suc, ◌+◌, sym, ◌∙◌, List, map, length, All, ℤ}
use Rattle.sg_algebra.specs.Coefficients.{Each}
use Rattle.sg_algebra.proofs.Value.{Value}
use Rattle.sg_algebra.proofs.ValueField.{ValueF}
use Rattle.sg_algebra.proofs.Polynomial.{PolynomialD}
use Rattle.sg_algebra.proofs.Embedding.{constant_value, constant_valueH}
use Rattle.sg_first_order_theory.proofs.Next.{nextH}
use Rattle.sg_tower_theory.specs.Powers.{powers}
use Rattle.sg_relations_theory.specs.Relations.{AreExponents}
use Rattle.sg_relations_theory.proofs.PowerLaws.{Some, powers_ne}
use Rattle.sg_relations_theory.proofs.AtValues.{rel_values}
use Rattle.sg_relations_theory.proofs.SignLaw.{sign_law}
use Rattle.sg_relations_theory.proofs.WrittenRows.{AllWritten, row_law_from}
use Rattle.sg_relations_theory.proofs.ConstantsAbove.{powers-on, constants-sign}
use Rattle.sg_relations.specs.declared.factors.Factor.{Factor}
use Rattle.sg_relations.specs.declared.factors.Shifts.TheVariants.{All as Every}
use Rattle.sg_relations.specs.Factors.{AreAlike, product_at, IsProper, ArePairwise}
use Rattle.sg_relations.specs.Parts.{joined_from}
use Rattle.sg_relations.specs.Relating.{AreRatioRows, AreLeadRows}
use Rattle.sg_relations.proofs.FactorRows.{AreParts, bases, in_field, generators, leads, values, unit_of, leads_some, length-leads, length-values, own_from, written, both, length-joined, sized-joined}

module _ {K : Type 0} {d : ℕ} (v : K → Value d) (basis start : List (Factor K)) (proper : All (IsProper v) basis) (pairwise : ArePairwise v Every basis)
    (kept : (i : ℕ) → AreAlike Every (product_at v start i) (product_at v basis i)) (rs : List (List K × List K)) (ls : List K) (parts : AreParts v rs ls start)
    (rows : List (List ℤ)) (exps : AreExponents (leads v ls) rows) where
  wrote : AllWritten (PolynomialD d) (nextH d) (ValueF (suc d)) (in_field v Every) (bases v basis) (generators v Every basis proper pairwise) (values v rs) (map (constant_value d) (leads v ls)) (own_from basis 0 rows)
  wrote = written v Every basis start proper pairwise parts.monic kept rs ls rows 0 parts.parts parts.number (exps.rows_sized ∙ length-leads v ls)

  some : Each (Some (ValueF d)) (leads v ls)
  some = leads_some v rs ls start 0 parts.parts parts.number

  long : (es : List ℤ) → length es ≡ length (values v rs) → length es ≡ length (leads v ls)
  long es l = l ∙ length-values v rs ∙ sym parts.number ∙ sym (length-leads v ls)

  ratio_rows : AreRatioRows (values v rs) (joined_from basis 0 rows)
  ratio_rows = record {
    rows_sized = length-joined basis 0 rows ∙ exps.rows_sized ∙ length-leads v ls ∙ parts.number ∙ sym (length-values v rs);
    width = length basis + exps.width;
    sized = sized-joined basis 0 exps.width rows exps.sized;
    law = λ es l.
        let w = sign_law d (bases v basis) (generators v Every basis proper pairwise) (values v rs) (map (constant_value d) (leads v ls)) (own_from basis 0 rows) wrote es in
        let c = constants-sign d (leads v ls) es some in
        let e = exps.law es (long es l) in
        let b = both v Every basis start proper pairwise parts.monic kept es rows in
        (λ h. let z = w.0 h in b.0 (z.0, e.0 (c.0 z.1)), λ h. let z = b.1 h in w.1 (z.0, c.1 (e.1 z.1)));
  }

  pub lead_rows : AreLeadRows (values v rs) (leads v ls) (joined_from basis 0 rows)
  lead_rows = record {
    rows_are = ratio_rows;
    sign = λ es l h. (exps.law es (long es l)).1 ((both v Every basis start proper pairwise parts.monic kept es rows).1 h).1;
    alike = λ es l h. row_law_from (PolynomialD d) (nextH d) (ValueF (suc d)) (in_field v Every) (bases v basis) (generators v Every basis proper pairwise) (rel_values d) (values v rs) (map (constant_value d) (leads v ls)) (own_from basis 0 rows) wrote es
        (constant_value d (powers (ValueF d) (leads v ls) es)) (unit_of v Every (powers (ValueF d) (leads v ls) es) (powers_ne (ValueF d) (leads v ls) es some))
        ((both v Every basis start proper pairwise parts.monic kept es rows).1 h).0
        (sym (powers-on (ValueF d) (ValueF (suc d)) (constant_valueH d) (leads v ls) es some));
  }
