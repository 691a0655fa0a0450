-- The coefficients of a polynomial of degree at most four from its values at 0, 1, 2, 3 and 4.
--   interpolates                     those of a polynomial are
--   quartic_from                     so what has 24 times each as the combination is the polynomial's coefficient
use Rattle.std.proofs.Common.{◌≡◌, ◌≤◌, ℤ, pos, negsuc, ◌+ℤ◌, ◌*ℤ◌, List, [], ◌∷◌, refl, sym, ap, ap₂, subst, ◌∙◌, arith}
use Rattle.std.proofs.lemmas.Int.{ints}
use Rattle.sg_algebra.proofs.Solver.{ring}
use Rattle.sg_algebra.proofs.Whole.{ℤR, readsℤ}
use Rattle.sg_spec.specs.Limits.{degrees}
use Rattle.sg_spec.specs.Polynomials.{IsPolynomial}
use Rattle.sg_spec.specs.Tree.{Tree}
use Rattle.sg_plain.specs.Plain.{whole_at, quartic_at, IsQuartic, dot, Interpolated}
use Rattle.sg_plain.proofs.Coefficients.{quartic_of}

-- the values of a polynomial
at-zero : (a b c d e : ℤ) → quartic_at a b c d e (pos 0) ≡ a
at-zero a b c d e = ring ℤR (a ∷ b ∷ c ∷ d ∷ e ∷ []) (search readsℤ depth 24) refl

at-one : (a b c d e : ℤ) → quartic_at a b c d e (pos 1) ≡ a +ℤ b +ℤ c +ℤ d +ℤ e
at-one a b c d e = ring ℤR (a ∷ b ∷ c ∷ d ∷ e ∷ []) (search readsℤ depth 24) refl

at-two : (a b c d e : ℤ) → quartic_at a b c d e (pos 2) ≡ a +ℤ pos 2 *ℤ b +ℤ pos 4 *ℤ c +ℤ pos 8 *ℤ d +ℤ pos 16 *ℤ e
at-two a b c d e = ring ℤR (a ∷ b ∷ c ∷ d ∷ e ∷ []) (search readsℤ depth 24) refl

at-three : (a b c d e : ℤ) → quartic_at a b c d e (pos 3) ≡ a +ℤ pos 3 *ℤ b +ℤ pos 9 *ℤ c +ℤ pos 27 *ℤ d +ℤ pos 81 *ℤ e
at-three a b c d e = ring ℤR (a ∷ b ∷ c ∷ d ∷ e ∷ []) (search readsℤ depth 24) refl

at-four : (a b c d e : ℤ) → quartic_at a b c d e (pos 4) ≡ a +ℤ pos 4 *ℤ b +ℤ pos 16 *ℤ c +ℤ pos 64 *ℤ d +ℤ pos 256 *ℤ e
at-four a b c d e = ring ℤR (a ∷ b ∷ c ∷ d ∷ e ∷ []) (search readsℤ depth 24) refl

combined : (u v w x y a b c d e : ℤ) → u ≡ a → v ≡ a +ℤ b +ℤ c +ℤ d +ℤ e → w ≡ a +ℤ pos 2 *ℤ b +ℤ pos 4 *ℤ c +ℤ pos 8 *ℤ d +ℤ pos 16 *ℤ e
    → x ≡ a +ℤ pos 3 *ℤ b +ℤ pos 9 *ℤ c +ℤ pos 27 *ℤ d +ℤ pos 81 *ℤ e → y ≡ a +ℤ pos 4 *ℤ b +ℤ pos 16 *ℤ c +ℤ pos 64 *ℤ d +ℤ pos 256 *ℤ e
    → Interpolated (u ∷ v ∷ w ∷ x ∷ y ∷ []) a b c d e
combined u v w x y a b c d e hu hv hw hx hy = record {
  constant = omega (arith, ints);
  linear = omega (arith, ints);
  square = omega (arith, ints);
  cube = omega (arith, ints);
  fourth = omega (arith, ints);
}

-- the values of a tree at 0, 1, 2, 3 and 4
abbrev pub values_of : Tree → List ℤ
values_of t = whole_at t (pos 0) ∷ whole_at t (pos 1) ∷ whole_at t (pos 2) ∷ whole_at t (pos 3) ∷ whole_at t (pos 4) ∷ []

pub interpolates : (t : Tree) (a b c d e : ℤ) → IsQuartic t a b c d e → Interpolated (values_of t) a b c d e
interpolates t a b c d e h =
    combined (whole_at t (pos 0)) (whole_at t (pos 1)) (whole_at t (pos 2)) (whole_at t (pos 3)) (whole_at t (pos 4)) a b c d e
    (h (pos 0) ∙ at-zero a b c d e) (h (pos 1) ∙ at-one a b c d e) (h (pos 2) ∙ at-two a b c d e) (h (pos 3) ∙ at-three a b c d e) (h (pos 4)
    ∙ at-four a b c d e)

same-24 : (x y z : ℤ) → pos 24 *ℤ x ≡ z → pos 24 *ℤ y ≡ z → x ≡ y
same-24 x y z h k = omega (arith, ints)

one-interpolated : (vs : List ℤ) (a b c d e a' b' c' d' e' : ℤ) → Interpolated vs a b c d e → Interpolated vs a' b' c' d' e' → (k : ℤ)
    → quartic_at a b c d e k ≡ quartic_at a' b' c' d' e' k
one-interpolated vs a b c d e a' b' c' d' e' h i k =
    let ha : a ≡ a' = same-24 a a' (dot (pos 24 ∷ pos 0 ∷ pos 0 ∷ pos 0 ∷ pos 0 ∷ []) vs) h.constant i.constant in
    let hb : b ≡ b' = same-24 b b' (dot (negsuc 49 ∷ pos 96 ∷ negsuc 71 ∷ pos 32 ∷ negsuc 5 ∷ []) vs) h.linear i.linear in
    let hc : c ≡ c' = same-24 c c' (dot (pos 35 ∷ negsuc 103 ∷ pos 114 ∷ negsuc 55 ∷ pos 11 ∷ []) vs) h.square i.square in
    let hd : d ≡ d' = same-24 d d' (dot (negsuc 9 ∷ pos 36 ∷ negsuc 47 ∷ pos 28 ∷ negsuc 5 ∷ []) vs) h.cube i.cube in
    let he : e ≡ e' = same-24 e e' (dot (pos 1 ∷ negsuc 3 ∷ pos 6 ∷ negsuc 3 ∷ pos 1 ∷ []) vs) h.fourth i.fourth in
    ap₂ ◌+ℤ◌ ha (ap (λ z. k *ℤ z) (ap₂ ◌+ℤ◌ hb (ap (λ z. k *ℤ z) (ap₂ ◌+ℤ◌ hc (ap (λ z. k *ℤ z) (ap₂ ◌+ℤ◌ hd (ap (λ z. k *ℤ z) he)))))))

-- what interpolates the values of a polynomial of degree at most four has its values everywhere
pub quartic_from : (t : Tree) (vs : List ℤ) (a b c d e : ℤ) → IsPolynomial t → (degrees t).variable ≤ 4 → vs ≡ values_of t
    → ((a' b' c' d' e' : ℤ) → Interpolated vs a' b' c' d' e' → Interpolated vs a b c d e) → IsQuartic t a b c d e
quartic_from t vs a b c d e p h v i = λ k.
    let q = quartic_of t p h in
    let known : Interpolated vs q.a q.b q.c q.d q.e = subst (λ (l : List ℤ). Interpolated l q.a q.b q.c q.d q.e) (sym v)
    (interpolates t q.a q.b q.c q.d q.e q.is) in
    q.is k ∙ one-interpolated vs q.a q.b q.c q.d q.e a b c d e known (i q.a q.b q.c q.d q.e known) k
