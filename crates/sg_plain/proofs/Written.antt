-- A polynomial of degree at most four written down.
--   lowest-whole     whole coefficients over 1 have no common divisor with it
--   same-written     the canonical tree of its coefficients has its values
--   canonical-written, over-written      and is in canonical form, built over nothing
use Rattle.std.proofs.Common.{◌≡◌, ℤ, pos, List, [], ◌∷◌, unsigned_abs, refl, sym, ap, subst, ◌∙◌, arith}
use Rattle.sg_algebra.specs.Divisor.{gcd}
use Rattle.sg_algebra.proofs.Divisor.{gcd_one_right}
use Rattle.sg_algebra.proofs.Rational.{whole_value, nat_ne}
use Rattle.sg_algebra.proofs.Solver.{ring, reads}
use Rattle.sg_algebra.proofs.Value.{Value, ◌*ᵛ◌, ◌/ᵛ◌}
use Rattle.sg_algebra.proofs.ValueField.{ValueR, value_quotient}
use Rattle.sg_algebra.proofs.Whole.{ℤR, readsℤ}
use Rattle.sg_canonical.specs.Whole.{common_divisor}
use Rattle.sg_spec.specs.Canonical.{IsCanonicalOver}
use Rattle.sg_spec.specs.Generators.{Over}
use Rattle.sg_spec.specs.Polynomials.{IsPolynomial}
use Rattle.sg_spec.specs.Tree.{Tree}
use Rattle.sg_spec.specs.Value.{val, SameValue}
use Rattle.sg_spec.proofs.Values.{val-proper}
use Rattle.sg_spec.proofs.Worth.{worth_cong, worth_same}
use Rattle.sg_plain.specs.Lowest.{falling_at}
use Rattle.sg_plain.specs.Plain.{whole_at, quartic_at, IsQuartic}
use Rattle.sg_plain.specs.Terms.{canonical, falling_value}
use Rattle.sg_plain.proofs.Canonical.{worth-canonical}
use Rattle.sg_plain.proofs.CanonicalOver.{canonical-over}
use Rattle.sg_plain.proofs.Closing.{over-canonical}
use Rattle.sg_plain.proofs.Wholes.{falling-whole, worth-whole_at}

lowest-whole : (cs : List ℤ) → common_divisor cs 1 ≡ 1
lowest-whole [] = refl
lowest-whole (c ∷ cs) = ap (gcd (unsigned_abs c)) (lowest-whole cs) ∙ gcd_one_right (unsigned_abs c)

over-one : (v : Value 0) → v /ᵛ whole_value 0 (pos 1) ≡ v
over-one v = sym (value_quotient v (whole_value 0 (pos 1)) v (nat_ne 1 (omega arith)) (times-one v))
  where
    times-one : (v : Value 0) → v *ᵛ whole_value 0 (pos 1) ≡ v
    times-one v = ring (ValueR 0) (v ∷ []) (search reads depth 16) refl

falling-quartic : (a b c d e k : ℤ) → falling_at (e ∷ d ∷ c ∷ b ∷ a ∷ []) k ≡ quartic_at a b c d e k
falling-quartic a b c d e k = ring ℤR (a ∷ b ∷ c ∷ d ∷ e ∷ k ∷ []) (search readsℤ depth 40 fits 20000) refl

pub same-written : (f t : Tree) (a b c d e : ℤ) → IsPolynomial f → IsQuartic f a b c d e → t ≡ canonical (e ∷ d ∷ c ∷ b ∷ a ∷ []) 1
    → (k : ℤ) → SameValue (val t (pos 0) k) (val f (pos 0) k)
same-written f t a b c d e p h form k =
    subst (λ (x : Tree). SameValue (val x (pos 0) k) (val f (pos 0) k)) (sym form)
    (worth_same (val (canonical (e ∷ d ∷ c ∷ b ∷ a ∷ []) 1) (pos 0) k) (val f (pos 0) k) (whole_value 0 (whole_at f k))
    (val-proper (canonical (e ∷ d ∷ c ∷ b ∷ a ∷ []) 1) (pos 0) k) (val-proper f (pos 0) k)
    (worth_cong (val (canonical (e ∷ d ∷ c ∷ b ∷ a ∷ []) 1) (pos 0) k) (falling_value (e ∷ d ∷ c ∷ b ∷ a ∷ []) (whole_value 0 k) /ᵛ whole_value 0 (pos 1))
    (whole_value 0 (whole_at f k)) is (worth-canonical (e ∷ d ∷ c ∷ b ∷ a ∷ []) 1 k (omega arith)))
    (worth-whole_at f k p))
  where
    is : falling_value (e ∷ d ∷ c ∷ b ∷ a ∷ []) (whole_value 0 k) /ᵛ whole_value 0 (pos 1) ≡ whole_value 0 (whole_at f k)
    is =
        over-one (falling_value (e ∷ d ∷ c ∷ b ∷ a ∷ []) (whole_value 0 k)) ∙ falling-whole (e ∷ d ∷ c ∷ b ∷ a ∷ []) k
        ∙ ap (whole_value 0) (falling-quartic a b c d e k ∙ sym (h k))

pub canonical-written : (t : Tree) (cs : List ℤ) → t ≡ canonical cs 1 → IsCanonicalOver [] [] t
canonical-written t cs form = subst (IsCanonicalOver [] []) (sym form) (canonical-over cs 1 (omega arith) (lowest-whole cs))

pub over-written : (t : Tree) (cs : List ℤ) → t ≡ canonical cs 1 → Over [] t
over-written t cs form = subst (Over []) (sym form) (over-canonical cs 1)
