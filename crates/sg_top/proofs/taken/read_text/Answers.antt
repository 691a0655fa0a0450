use Rattle.std.proofs.Common.{◌∙◌, ap, subst, rules, List, ℕ, inl, inr}
use Rattle.sg_expr.specs.Tree.{tree_of}
use Rattle.sg_text.specs.Reads.{Refuses, RefusedBy}
use Rattle.sg_top.specs.Lines.{item_line}
use Rattle.sg_top.specs.Stages.{input_bounds, letters_of, MayStand}
use Rattle.sg_top.proofs.Texts.{form-first}
use Rattle.sg_top.proofs.taken.read_text.Goals as goal

pub returns-then-may_stand : goal.returns-then-may_stand
returns-then-may_stand c =
    let stands : MayStand c.args.command c.args.item (tree_of c.in-Ok.e) = search rules in
    (rw (← c.letters.ensures.letters) (rw c.input.ensures at c.in-Ok.ensures.expression), stands)

pub returns-in_ok-line-in-Ok : goal.returns-in_ok-line-in-Ok
returns-in_ok-line-in-Ok c =
    let misplaced : MayStand c.args.command c.args.item (tree_of c.in-Ok.e) → ⊥ = search rules in
    let (r, e, words) = c.in_ok-why-in-Ok.ensures in (
      r,
      inr (record {
        expression = tree_of c.in-Ok.e;
        read = rw (← c.letters.ensures.letters) (rw c.input.ensures at c.in-Ok.ensures.expression);
        misplaced = misplaced;
        is = form-first r e;
      }),
      c.in_ok-line-in-Ok.ensures ∙ ap (λ (w : List ℕ). item_line w c.args.item) (c.as_slice.ensures.value ∙ words),
    )

pub returns-in_ok-line-in-Err : goal.returns-in_ok-line-in-Err
returns-in_ok-line-in-Err c =
    let (r, e, words) = c.in_ok-why-in-Err.ensures in
    let cause : Refuses input_bounds (letters_of c.args.command) c.args.text.now c.in-Err.fault = rw (← c.letters.ensures.letters) (rw c.input.ensures at c.in-Err.ensures.fault) in (
      r,
      inl (subst (RefusedBy input_bounds (letters_of c.args.command) c.args.text.now) e cause),
      c.in_ok-line-in-Err.ensures ∙ ap (λ (w : List ℕ). item_line w c.args.item) (c.as_slice-in-Err.ensures.value ∙ words),
    )
