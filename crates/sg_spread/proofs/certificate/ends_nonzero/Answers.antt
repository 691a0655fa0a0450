use Rattle.std.proofs.Common.{◌-◌, ◌<◌, length, map, sym, ◌∙◌, rules}
use Rattle.sg_algebra.proofs.Rows.{at_read}
use Rattle.sg_num.specs.Value.{number}
use Rattle.sg_spread.proofs.Rows.{not_both}
use Rattle.sg_spread.proofs.certificate.ends_nonzero.Goals as goal

pub returns : goal.returns
returns c =
    let l : length c.args.list.now - 1 < length c.args.list.now = search rules in
    λ h. record {
      place = length c.args.list.now - 1;
      some = λ z. not_both c.is_zero.result h (c.is_zero.ensures.as_number.1 (sym (at_read number c.args.list.now (length c.args.list.now - 1) c.index-list-list.result l c.index-list-list.is) ∙ z));
    }
