use Rattle.std.proofs.Common.{ap}
use Rattle.sg_spec.specs.Reading.{too_deep, no_text, faulty, numeral_fault, exponent_fault, unbound, form}
use Rattle.sg_text.specs.Reads.{refusal_of}
use Rattle.sg_top.proofs.lines.refusal_text.Goals as goal

pub returns-in_ok-text-in-Deep : goal.returns-in_ok-text-in-Deep
returns-in_ok-text-in-Deep c = (too_deep c.in-Deep.at, ap refusal_of c.in-Deep.is, c.in_ok-text-in-Deep.ensures)

pub returns-in_ok-text-in-Syntax : goal.returns-in_ok-text-in-Syntax
returns-in_ok-text-in-Syntax c = (no_text c.in-Syntax.at, ap refusal_of c.in-Syntax.is, c.in_ok-text-in-Syntax.ensures)

pub returns-in_ok-text-in-Numeral : goal.returns-in_ok-text-in-Numeral
returns-in_ok-text-in-Numeral c = (faulty (record { kind = numeral_fault; place = c.in-Numeral.at }), ap refusal_of c.in-Numeral.is, c.in_ok-text-in-Numeral.ensures)

pub returns-in_ok-text-in-Exponent : goal.returns-in_ok-text-in-Exponent
returns-in_ok-text-in-Exponent c = (faulty (record { kind = exponent_fault; place = c.in-Exponent.at }), ap refusal_of c.in-Exponent.is, c.in_ok-text-in-Exponent.ensures)

pub returns-in_ok-text-in-Unbound : goal.returns-in_ok-text-in-Unbound
returns-in_ok-text-in-Unbound c = (faulty (record { kind = unbound; place = c.in-Unbound.at }), ap refusal_of c.in-Unbound.is, c.in_ok-text-in-Unbound.ensures)

pub returns-in_ok-text-in-Form : goal.returns-in_ok-text-in-Form
returns-in_ok-text-in-Form c = (faulty (record { kind = form; place = c.in-Form.at }), ap refusal_of c.in-Form.is, c.in_ok-text-in-Form.ensures)
