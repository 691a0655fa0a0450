-- The line `dependent`, in every command that answers it.
--   Precedes ps q p       q stands before p in the list
--   StandsLast ps left p  p is that product of left which stands last in the list
--   IsDependentOf parameter es left     some product of the texts is neither free nor expressed over the free ones before it; the first
--                                       such product is that of left which stands last
--   AreSpared parameter es    each product of the texts is free or expressed
--   IsSettled f i         at the order i a recurrence is neither there nor is a product dependent
--   IsDependentAt f J left    at the order J a product is dependent, and each smaller order is settled
use Rattle.std.specs.Prelude.{◌≡◌, ℕ, ◌<◌, Bool, true, List, [], ◌∷◌, ◌++◌, Contains, ◌⊎◌}
use Rattle.sg_spec.specs.Tree.{Tree}
use Rattle.sg_spec.specs.Generators.{prods, all_prods}
use Rattle.sg_answers_theory.specs.Recurrences.{shifts, NoRec}
use Rattle.sg_matches_theory.specs.Lists.{IsFirstDependent, NoneDependent}

abbrev pub Precedes : List Tree → Tree → Tree → Type 0
Precedes ps q p = (a : List Tree) × (b : List Tree) × (c : List Tree) × (ps ≡ a ++ q ∷ (b ++ p ∷ c))

pub record StandsLast (ps : List Tree) (left p : Tree) : Type 0 where
  pub inside : Contains (all_prods left) p
  pub last : (q : Tree) → Contains (all_prods left) q → (q ≡ p) ⊎ Precedes ps q p

abbrev pub IsDependentOf : Bool → List Tree → Tree → Type 0
IsDependentOf parameter es left = (p : Tree) × IsFirstDependent parameter [] (prods es) p × StandsLast (prods es) left p

abbrev pub AreSpared : Bool → List Tree → Type 0
AreSpared parameter es = NoneDependent parameter [] (prods es)

abbrev pub IsSettled : Tree → ℕ → Type 0
IsSettled f i = NoRec f i × AreSpared true (shifts i f)

abbrev pub IsDependentAt : Tree → ℕ → Tree → Type 0
IsDependentAt f J left = IsDependentOf true (shifts J f) left × ((i : ℕ) → i < J → IsSettled f i)
