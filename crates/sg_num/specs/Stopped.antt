-- Why a computing call may stop.
--   IsTooWide        a kept step doesn't fit
--   IsMemory         a call stopped because it was out of memory, and for nothing else
--   IsStep op x y   a call stopped at the step x op y, which doesn't fit
--   KeepsWideStep    a call stopped because it was out of memory, which is free, or at a kept step that doesn't fit
use Rattle.std.specs.Prelude.{◌≡◌, IsTrue}
use Rattle.sg_num.specs.Value.{fraction}
use Rattle.sg_num.specs.Steps.{fits_step}
use Rattle.sg_num.specs.declared.rat.Rat.{Rat}
use Rattle.sg_num.specs.declared.step.Op.{Op}
use Rattle.sg_num.specs.declared.step.Wide.{Wide}
use Rattle.sg_num.specs.declared.step.Stop.{Stop}
use Rattle.sg_num.specs.declared.step.Stop.TheVariants.{Memory, Wide as WideStep}

abbrev pub IsTooWide : Wide → Type 0
IsTooWide w = IsTrue (fits_step w.op (fraction w.left) (fraction w.right)) → ⊥

abbrev pub KeepsWideStep : Stop → Type 0
KeepsWideStep (Memory e) = Unit {0}
KeepsWideStep (WideStep w) = IsTooWide w

abbrev pub IsMemory : Stop → Type 0
IsMemory (Memory e) = Unit {0}
IsMemory (WideStep w) = ⊥

abbrev pub IsStep : Op → Rat → Rat → Stop → Type 0
IsStep op x y s = (s ≡ WideStep (record { op = op; left = x; right = y })) × (IsTrue (fits_step op (fraction x) (fraction y)) → ⊥)
