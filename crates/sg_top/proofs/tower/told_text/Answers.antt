use Rattle.std.proofs.Common.{◌≡◌, ◌∙◌, ◌<◌, length, FitsSigned, arith}
use Rattle.std.specs.Int.{w64}
use Rattle.std.proofs.lemmas.Int.{to_z-of_z}
use Rattle.sg_forms.specs.Commands.{IsPrinted}
use Rattle.sg_top.specs.Output.{IsReadBack}
use Rattle.sg_top.proofs.Listing.{form-at}
use Rattle.sg_top.proofs.Telling.{lines-more, lines-all, mark-at, marks-more, marks-all}
use Rattle.sg_top.proofs.tower.told_text.Goals as goal

pub standing_text-requires-clause-sum : goal.standing_text-requires-clause-sum
standing_text-requires-clause-sum c =
    let inside : c.loop-i.i < length c.args.sums.now = omega (arith, c.loop-i-test.true, c.len-i-end.ensures) in
    form-at c.args.sums.now c.loop-i.i c.get.result.now inside c.get.ensures c.requires.sums

pub standing_text-requires-clause-printed : goal.standing_text-requires-clause-printed
standing_text-requires-clause-printed c =
    let inside : c.loop-i.i < length c.args.told.now = omega (arith, c.loop-i-test.true, c.len-i-end.ensures, c.requires.count) in
    mark-at IsPrinted c.args.told.now c.loop-i.i c.get-in-loop-i.result.now inside c.get-in-loop-i.ensures c.requires.printed

pub loop-i-preserved : goal.loop-i-preserved
loop-i-preserved c =
    let fits : FitsSigned w64 c.args.start = c.ranges.start in
    let inside : c.loop-i.i < length c.args.sums.now = omega (arith, c.loop-i-test.true, c.len-i-end.ensures) in
    let within : c.loop-i.i < length c.args.told.now = omega (arith, inside, c.requires.count) in
    simp to_z-of_z (record {
      text =
          lines-more c.args.start c.args.sums.now c.args.told.now c.loop-i.i c.get.result.now c.get-in-loop-i.result.now c.loop-i.text.items c.extend_from_slice.new.self.items c.as_slice.result.now
          c.requires.count inside c.get.ensures c.get-in-loop-i.ensures (simp to_z-of_z at c.loop-i.invariant.text) (c.as_slice.ensures.value ∙ simp to_z-of_z at c.in_ok-line.ensures.text) c.in_ok-extend_from_slice.ensures.items;
      read_back = marks-more IsReadBack c.args.told.now c.loop-i.i c.get-in-loop-i.result.now within c.get-in-loop-i.ensures c.loop-i.invariant.read_back c.in_ok-line.ensures.read_back;
    })

pub returns-clause-text : goal.returns-clause-text
returns-clause-text c =
    let fits : FitsSigned w64 c.args.start = c.ranges.start in
    let all : c.loop-i.i ≡ length c.args.sums.now = omega (arith, c.loop-i-test.false, c.len-i-end.ensures, c.loop-i.auto.i-end) in
    lines-all c.args.start c.args.sums.now c.args.told.now c.loop-i.i c.loop-i.text.items c.requires.count all (simp to_z-of_z at c.loop-i.invariant.text)

pub returns-clause-read_back : goal.returns-clause-read_back
returns-clause-read_back c =
    let all : c.loop-i.i ≡ length c.args.told.now = omega (arith, c.loop-i-test.false, c.len-i-end.ensures, c.loop-i.auto.i-end, c.requires.count) in
    marks-all IsReadBack c.args.told.now c.loop-i.i all c.loop-i.invariant.read_back
