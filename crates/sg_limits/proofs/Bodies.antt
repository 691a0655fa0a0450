-- The sums and products of expressions have bodies with values, and start by the start of all.
--   sums_have, prods_have       for one tree
--   sound_sums, sound_prods     for the distinct ones of all expressions
use Rattle.std.proofs.Common.{ℕ, Bool, true, false, cond, List, [], ◌∷◌, ◌++◌}
use Rattle.sg_algebra.specs.Coefficients.{Each}
use Rattle.sg_algebra.proofs.Value.{Value}
use Rattle.sg_spec.specs.Tree.{Tree, numeral, here, param, add, neg, mul, div, power, sum_from, prod_from}
use Rattle.sg_spec.specs.Generators.{all_sums, all_prods, with_new, concatenated, has_tree, sums, prods}
use Rattle.sg_worth_theory.proofs.Bodies.{HasBody}
use Rattle.sg_limits.proofs.Sounding.{bodies_of}
use Rattle.sg_limits.proofs.Elementary.{each_append}

each_cond : (P : Tree → Type 0) (b : Bool) (known : List Tree) (t : Tree) → Each P known → P t → Each P (cond b known (known ++ (t ∷ [])))
each_cond P true known t h k = h
each_cond P false known t h k = each_append P known (t ∷ []) h (k, tt)

pub each_with_new : (P : Tree → Type 0) (known ts : List Tree) → Each P known → Each P ts → Each P (with_new known ts)
each_with_new P known [] h k = h
each_with_new P known (t ∷ ts) h k = each_with_new P (cond (has_tree t known) known (known ++ (t ∷ []))) ts (each_cond P (has_tree t known) known t h k.0) k.1

module _ {d : ℕ} (letter : Value d) where
  abbrev Bodies : Tree → Type 0
  Bodies t = bodies_of letter t

  pub sums_have : (t : Tree) → Bodies t → Each (HasBody letter) (all_sums t)
  sums_have (numeral c) h = tt
  sums_have here h = tt
  sums_have param h = tt
  sums_have (add x y) h = each_append (HasBody letter) (all_sums x) (all_sums y) (sums_have x h.0) (sums_have y h.1)
  sums_have (neg x) h = sums_have x h
  sums_have (mul x y) h = each_append (HasBody letter) (all_sums x) (all_sums y) (sums_have x h.0) (sums_have y h.1)
  sums_have (div x y) h = each_append (HasBody letter) (all_sums x) (all_sums y) (sums_have x h.0) (sums_have y h.1)
  sums_have (power x e) h = sums_have x h
  sums_have (sum_from from body) h = each_append (HasBody letter) (all_sums body) (sum_from from body ∷ []) (sums_have body h.1) (h.0, tt)
  sums_have (prod_from from body) h = sums_have body h.1

  pub prods_have : (t : Tree) → Bodies t → Each (HasBody letter) (all_prods t)
  prods_have (numeral c) h = tt
  prods_have here h = tt
  prods_have param h = tt
  prods_have (add x y) h = each_append (HasBody letter) (all_prods x) (all_prods y) (prods_have x h.0) (prods_have y h.1)
  prods_have (neg x) h = prods_have x h
  prods_have (mul x y) h = each_append (HasBody letter) (all_prods x) (all_prods y) (prods_have x h.0) (prods_have y h.1)
  prods_have (div x y) h = each_append (HasBody letter) (all_prods x) (all_prods y) (prods_have x h.0) (prods_have y h.1)
  prods_have (power x e) h = prods_have x h
  prods_have (sum_from from body) h = prods_have body h.1
  prods_have (prod_from from body) h = each_append (HasBody letter) (all_prods body) (prod_from from body ∷ []) (prods_have body h.1) (h.0, tt)

  all_have : (f : Tree → List Tree) → ((t : Tree) → Bodies t → Each (HasBody letter) (f t)) → (es : List Tree) → Each Bodies es → Each (HasBody letter) (concatenated f es)
  all_have f h [] b = tt
  all_have f h (e ∷ es) b = each_append (HasBody letter) (f e) (concatenated f es) (h e b.0) (all_have f h es b.1)

  pub sound_sums : (es : List Tree) → Each Bodies es → Each (HasBody letter) (sums es)
  sound_sums es b = each_with_new (HasBody letter) [] (concatenated all_sums es) tt (all_have all_sums sums_have es b)

  pub sound_prods : (es : List Tree) → Each Bodies es → Each (HasBody letter) (prods es)
  sound_prods es b = each_with_new (HasBody letter) [] (concatenated all_prods es) tt (all_have all_prods prods_have es b)
