-- Products of powers, worked by hand.
use Rattle.std.proofs.Common.{◌≡◌, refl, pos, negsuc, [], ◌∷◌}
use Rattle.sg_spec.specs.Tree.{Tree, numeral, neg, div, power, prod_from}
use Rattle.sg_product_theory.specs.PowerProducts.{power_product}

two : Tree
two = prod_from (pos 1) (numeral (pos 2))

four : Tree
four = prod_from (pos 1) (numeral (pos 4))

minus : Tree
minus = prod_from (pos 1) (neg (numeral (pos 1)))

-- the left side where pow(4,k) stands before pow(2,k): pow(2,k)^2/pow(4,k)
left-four_two : power_product (four ∷ two ∷ []) (negsuc 0 ∷ pos 2 ∷ []) ≡ div (power two 2) four
unfolding two four
left-four_two = refl

-- that of pow(-1,k): pow(-1,k)^2
left-minus : power_product (minus ∷ []) (pos 2 ∷ []) ≡ power minus 2
unfolding minus
left-minus = refl
