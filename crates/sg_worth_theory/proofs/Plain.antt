-- Expressions without products.
--   HasNoProduct e      no product stands in e
--   no_products         expressions without products have none together
--   none_multiplied     and so list none
use Rattle.std.proofs.Common.{◌≡◌, refl, ap, ◌∙◌, List, [], ◌∷◌, ◌++◌}
use Rattle.sg_algebra.specs.Coefficients.{Each}
use Rattle.sg_spec.specs.Tree.{Tree}
use Rattle.sg_spec.specs.Generators.{all_prods, prods, distinct, concatenated}

abbrev pub HasNoProduct : Tree → Type 0
HasNoProduct e = all_prods e ≡ []

pub no_products : (es : List Tree) → Each HasNoProduct es → concatenated all_prods es ≡ []
no_products [] n = refl
no_products (e ∷ es) n = ap (λ (l : List Tree). l ++ concatenated all_prods es) n.0 ∙ no_products es n.1

pub none_multiplied : (es : List Tree) → Each HasNoProduct es → prods es ≡ []
none_multiplied es n = ap distinct (no_products es n)
