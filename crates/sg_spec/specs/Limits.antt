-- The counted limits of the expressions of a command.
--   nodes              how many nodes a tree has
--   Degrees, degrees   the written degrees of a tree in the variable of its scope, in the parameter, and in sums and products
--   bodies, scopes     the bodies of the sums and products of a tree, at any depth; the tree itself and these
--   keeps_nodes, keeps_degrees    whether a tree keeps the limit of nodes; whether each of its scopes keeps those of degrees
--   keeps_sums, keeps_products    whether the expressions together keep the limits of distinct sums and products
--   first_not          the first element that a test refuses, counted from 1
--   CountFault         which count passes its limit, and in which expression
--   counted            the first of the faults in their order: nodes, degrees, sums, products; none where all limits are kept
use Rattle.std.specs.Prelude.{ℕ, ◌+◌, ◌*◌, max, Bool, true, ◌&&◌, nat_le, List, [], ◌∷◌, ◌++◌, length, Option, Some, None, cond}
use Rattle.sg_spec.specs.Tree.{Tree, numeral, here, param, add, neg, mul, div, power, sum_from, prod_from}
use Rattle.sg_spec.specs.Generators.{sums, prods}

abbrev pub nodes : Tree → ℕ
nodes (numeral c) = 1
nodes here = 1
nodes param = 1
nodes (add x y) = 1 + nodes x + nodes y
nodes (neg x) = 1 + nodes x
nodes (mul x y) = 1 + nodes x + nodes y
nodes (div x y) = 1 + nodes x + nodes y
nodes (power x e) = 1 + nodes x
nodes (sum_from from body) = 1 + nodes body
nodes (prod_from from body) = 1 + nodes body

pub record Degrees : Type 0 where
  pub variable : ℕ
  pub parameter : ℕ
  pub generators : ℕ

abbrev pub no_degree : Degrees
no_degree = record { variable = 0; parameter = 0; generators = 0 }

abbrev pub greater_degrees : Degrees → Degrees → Degrees
greater_degrees d e = record { variable = max d.variable e.variable; parameter = max d.parameter e.parameter; generators = max d.generators e.generators }

abbrev pub added_degrees : Degrees → Degrees → Degrees
added_degrees d e = record { variable = d.variable + e.variable; parameter = d.parameter + e.parameter; generators = d.generators + e.generators }

abbrev pub times_degrees : Degrees → ℕ → Degrees
times_degrees d e = record { variable = d.variable * e; parameter = d.parameter * e; generators = d.generators * e }

abbrev pub degrees : Tree → Degrees
degrees (numeral c) = no_degree
degrees here = record no_degree { variable = 1 }
degrees param = record no_degree { parameter = 1 }
degrees (add x y) = greater_degrees (degrees x) (degrees y)
degrees (neg x) = degrees x
degrees (mul x y) = added_degrees (degrees x) (degrees y)
degrees (div x y) = added_degrees (degrees x) (degrees y)
degrees (power x e) = times_degrees (degrees x) e
degrees (sum_from from body) = record no_degree { generators = 1 }
degrees (prod_from from body) = record no_degree { generators = 1 }

abbrev pub bodies : Tree → List Tree
bodies (numeral c) = []
bodies here = []
bodies param = []
bodies (add x y) = bodies x ++ bodies y
bodies (neg x) = bodies x
bodies (mul x y) = bodies x ++ bodies y
bodies (div x y) = bodies x ++ bodies y
bodies (power x e) = bodies x
bodies (sum_from from body) = body ∷ bodies body
bodies (prod_from from body) = body ∷ bodies body

abbrev pub scopes : Tree → List Tree
scopes t = t ∷ bodies t

abbrev pub all_keep : (Tree → Bool) → List Tree → Bool
all_keep test [] = true
all_keep test (t ∷ ts) = test t && all_keep test ts

abbrev pub keeps_nodes : Tree → Bool
keeps_nodes t = nat_le (nodes t) 2000

abbrev pub is_flat : Tree → Bool
is_flat t = nat_le (degrees t).variable 64 && (nat_le (degrees t).parameter 64 && nat_le (degrees t).generators 8)

abbrev pub keeps_degrees : Tree → Bool
keeps_degrees t = all_keep is_flat (scopes t)

abbrev pub keeps_sums : List Tree → Bool
keeps_sums es = nat_le (length (sums es)) 8

-- at most 4 in each expression, and 20 in all
abbrev pub keeps_products : List Tree → Bool
keeps_products es = all_keep (λ e. nat_le (length (prods (e ∷ []))) 4) es && nat_le (length (prods es)) 20

abbrev pub first_from : ℕ → (Tree → Bool) → List Tree → Option ℕ
first_from n test [] = None
first_from n test (t ∷ ts) = cond (test t) (first_from (n + 1) test ts) (Some n)

abbrev pub first_not : (Tree → Bool) → List Tree → Option ℕ
first_not test ts = first_from 1 test ts

pub data CountFault : Type 0 where
  too_many_nodes : ℕ → CountFault
  too_steep : ℕ → CountFault
  too_many_sums : CountFault
  too_many_products : CountFault

abbrev pub or_else : (ℕ → CountFault) → Option ℕ → Option CountFault → Option CountFault
or_else f None next = next
or_else f (Some i) next = Some (f i)

abbrev pub counted : List Tree → Option CountFault
counted es =
    or_else too_many_nodes (first_not keeps_nodes es)
    (or_else too_steep (first_not keeps_degrees es)
    (cond (keeps_sums es) (cond (keeps_products es) None (Some too_many_products)) (Some too_many_sums)))
