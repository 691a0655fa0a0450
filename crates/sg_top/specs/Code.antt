-- Exit statuses.
--   code_of    the number of a status
use Rattle.std.specs.Prelude.{ℕ}
use Rattle.sg_top.specs.declared.status.Status.{Status}
use Rattle.sg_top.specs.declared.status.Status.TheVariants.{Done, No, Usage, Refused, Wide, Memory, ReadFault, WriteFault}

abbrev pub code_of : Status → ℕ
code_of Done = 0
code_of No = 1
code_of Usage = 2
code_of Refused = 3
code_of Wide = 4
code_of Memory = 5
code_of ReadFault = 6
code_of WriteFault = 7
