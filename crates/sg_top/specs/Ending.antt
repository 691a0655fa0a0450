-- How a call ends that writes an answer.
--   Ends             with this status and such an answer appended; or with a write fault, and first bytes of one
--   IsFixed          this text with this status
--   IsBatchOutput    the answer to a batch
--   Tallied          what is counted of the samples of a seed so far
use Rattle.std.specs.Prelude.{◌≡◌, ℕ, ◌*◌, ◌^◌, ◌≤◌, List, length, Option, ◌⊎◌}
use Rattle.std.specs.List.{count_by, sum_by}
use Rattle.sg_io.specs.Bytes.{Rose}
use Rattle.sg_top.specs.Answer.{Input, IsWholeBatch, IsLargeBatch, IsReadFault, IsWant, Outcome, AreSampled, is_done, is_no, is_wide, Tells, IsFrontOf}
use Rattle.sg_top.specs.declared.samples.Tally.{Tally}
use Rattle.sg_top.specs.declared.status.Status.{Status}
use Rattle.sg_top.specs.declared.status.Status.TheVariants.{WriteFault}

abbrev pub Ends : (Status → List ℕ → Type 0) → Status → Option (List ℕ) → Option (List ℕ) → ℕ → ℕ → Type 0
Ends P status old new before after = ((status ≡ WriteFault) × Rose before after × Tells (IsFrontOf (λ out. (s : Status) × P s out)) old new) ⊎ Tells (P status) old new

abbrev pub IsFixed : Status → List ℕ → Status → List ℕ → Type 0
IsFixed status text s out = (s ≡ status) × (out ≡ text)

abbrev pub IsBatchOutput : Input → Status → List ℕ → Type 0
IsBatchOutput input status out = IsWholeBatch input status out ⊎ IsLargeBatch input status out ⊎ IsReadFault input status out ⊎ IsWant status out

pub record Tallied (seed i : ℕ) (tally : Tally) : Type 0 where
  pub outcomes : List Outcome
  pub all : length outcomes ≡ i
  pub answers : AreSampled seed 0 outcomes
  pub closed : tally.closed ≡ count_by (λ o. is_done o.status) outcomes
  pub none : tally.none ≡ count_by (λ o. is_no o.status) outcomes
  pub wide : tally.wide ≡ count_by (λ o. is_wide o.status) outcomes
  pub bytes : tally.bytes ≡ sum_by (λ o. length o.out) outcomes
  pub few_bytes : tally.bytes ≤ i * 2 ^ 64
