use Rattle.std.proofs.Common.{◌≡◌, ℕ, suc, List, [], ◌∷◌, ℤ, length, map, refl, subst, sym, ap, ◌∙◌}
use Rattle.sg_num.specs.Value.{number}
use Rattle.sg_num.specs.declared.rat.Rat.{Rat}
use Rattle.sg_relations_theory.specs.Relations.{AreExponents}
use Rattle.sg_relations.specs.Columns.{rows_from}
use Rattle.sg_relations.proofs.RowLaw.{are_exponents}
use Rattle.sg_relations.proofs.Starts.{signed_from}
use Rattle.sg_relations.proofs.numbers.exponents.Goals as goal

length-map : (xs : List Rat) → length (map number xs) ≡ length xs
length-map [] = refl
length-map (x ∷ xs) = ap suc (length-map xs)

pub returns-clause-value : goal.returns-clause-value
returns-clause-value c = subst (λ (rows : List (List ℤ)). AreExponents (map number c.args.list.now) rows)
    (ap (λ (n : ℕ). rows_from c.in_ok-basis.basis 0 n) (length-map c.args.list.now) ∙ ap (λ (n : ℕ). rows_from c.in_ok-basis.basis 0 n) (sym c.len-2.ensures) ∙ sym c.in_ok-rows.ensures.value)
    (are_exponents c.in_ok-basis.basis c.in_ok-basis.ensures.proper c.in_ok-basis.ensures.coprime (map number c.args.list.now)
    (signed_from (length c.args.list.now) c.args.list.now c.in_ok-columns.columns c.in_ok-basis.basis c.requires c.in_ok-columns.ensures.value c.in_ok-basis.ensures.kept))
