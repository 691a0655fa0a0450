use Rattle.sg_top.proofs.Answering.{whole-output, large-output, fault-output, want-output}
use Rattle.sg_top.proofs.batch.answer_batch.Goals as goal

pub returns-in-Ok : goal.returns-in-Ok
returns-in-Ok g c = whole-output _ c.in-Ok.text.items _ _ _ _ _ c.in-Ok.ensures.whole (rw c.as_slice.ensures.value at c.answer_lines.ensures)

pub returns-in-Err-Large : goal.returns-in-Err-Large
returns-in-Err-Large g c = large-output _ _ _ _ _ _ (rw c.in-Err-Large.field-0-is at c.in-Err-Large.ensures.unread) c.deliver.ensures

pub returns-in-Err-Fault : goal.returns-in-Err-Fault
returns-in-Err-Fault g c = fault-output _ _ _ _ _ _ (rw c.in-Err-Fault.field-0-is at c.in-Err-Fault.ensures.unread) c.deliver-in-Err-Fault.ensures

pub returns-in-Err-Memory : goal.returns-in-Err-Memory
returns-in-Err-Memory g c = want-output _ _ _ _ _ _ c.deliver-in-Err-Memory.ensures
