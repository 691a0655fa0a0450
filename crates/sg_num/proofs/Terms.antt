-- Lowest terms, and the values of the four steps.
--   reduced     a pair in lowest terms
--   crossed     a product of two fractions in lowest terms, after what they have in common across is taken out
use Rattle.std.proofs.Common.{◌≡◌, ℕ, zero, suc, ◌*◌, ◌/◌, ◌<◌, ℤ, pos, ◌+ℤ◌, ◌-ℤ◌, ◌*ℤ◌, unsigned_abs, refl, ap, sym, ◌∙◌, arith, subst, Bool, [], ◌∷◌}
use Rattle.std.proofs.Math.Nat.{mul-div_cancel', dvd-mul_left}
use Rattle.std.specs.Int.{◌∣◌}
use Rattle.sg_algebra.specs.Divisor.{gcd}
use Rattle.sg_algebra.proofs.Divisor.{gcd-is, gcd_comm, coprime_parts, coprime_of_dvd, coprime-times}
use Rattle.sg_algebra.proofs.Solver.{ring, by, scale}
use Rattle.sg_algebra.proofs.Whole.{ℤR, readsℤ}
use Rattle.sg_spec.specs.Fraction.{Fraction, Same, plus, minus, times, over}
use Rattle.sg_spec.specs.Width.{with_sign, is_below_zero, differ, reduced, crossed, left_part, right_part, common_den}
use Rattle.sg_spec.specs.Width as width
use Rattle.sg_num.proofs.Signs.{with_sign-scaled, with_sign-product, with_sign-quotient, with_sign-size, differ-twice, with_sign-times}

-- a number is its greatest common divisor times what is left
pub gcd-left : (a b : ℕ) → gcd a b * (a / gcd a b) ≡ a
gcd-left a b = mul-div_cancel' (gcd a b) (gcd-is a b).0

pub gcd-right : (a b : ℕ) → gcd a b * (b / gcd a b) ≡ b
gcd-right a b = mul-div_cancel' (gcd a b) (gcd-is a b).1

sizes : (A B C D g h a b c d : ℕ) → g * A ≡ a → g * D ≡ d → h * C ≡ c → h * B ≡ b → (A * C) * (b * d) ≡ (a * c) * (B * D)
sizes A B C D g h a b c d p q r s = rw (← p, ← q, ← r, ← s) (omega arith)

crossed-sizes : (a b c d : ℕ) → ((a / gcd a d) * (c / gcd c b)) * (b * d) ≡ (a * c) * ((b / gcd c b) * (d / gcd a d))
crossed-sizes a b c d = sizes (a / gcd a d) (b / gcd c b) (c / gcd c b) (d / gcd a d) (gcd a d) (gcd c b) a b c d (gcd-left a d) (gcd-right a d) (gcd-left c b) (gcd-right c b)

pub crossed-value : (s : Bool) (a b c d : ℕ) → (crossed s a b c d).num *ℤ pos (b * d) ≡ with_sign s (a * c) *ℤ pos (crossed s a b c d).den
crossed-value s a b c d =
    with_sign-scaled s ((a / gcd a d) * (c / gcd c b)) (b * d)
    ∙ ap (with_sign s) (crossed-sizes a b c d)
    ∙ sym (with_sign-scaled s (a * c) ((b / gcd c b) * (d / gcd a d)))

pub times-value : (x y r : Fraction) → r ≡ width.product x y → Same r (times x y)
times-value x y r e = rw e (rw (← with_sign-product x.num y.num) (crossed-value (differ (is_below_zero x.num) (is_below_zero y.num)) (unsigned_abs x.num) x.den (unsigned_abs y.num) y.den))

pub over-value : (x y r : Fraction) → r ≡ width.quotient x y → Same r (over x y)
over-value x y r e = rw e (rw (← with_sign-quotient x.num y.num y.den) (crossed-value (differ (is_below_zero x.num) (is_below_zero y.num)) (unsigned_abs x.num) x.den y.den (unsigned_abs y.num)))

positive-left : (g q b : ℕ) → g * q ≡ b → 0 < b → 0 < q
positive-left g zero b e h = omega arith
positive-left g (suc q) b e h = omega arith

pub positive-product : (m n : ℕ) → 0 < m → 0 < n → 0 < m * n
positive-product m n h k = grind arith

pub crossed-positive : (a b c d : ℕ) → 0 < b → 0 < d → 0 < (b / gcd c b) * (d / gcd a d)
crossed-positive a b c d h k = positive-product (b / gcd c b) (d / gcd a d) (positive-left (gcd c b) (b / gcd c b) b (gcd-right c b) h) (positive-left (gcd a d) (d / gcd a d) d (gcd-right a d) k)

pub divided-positive : (a b : ℕ) → 0 < b → 0 < b / gcd a b
divided-positive a b h = positive-left (gcd a b) (b / gcd a b) b (gcd-right a b) h

-- the same for a number that is the greatest common divisor
pub quotient-positive : (a b g : ℕ) → g ≡ gcd a b → 0 < b → 0 < b / g
quotient-positive a b g e h = rw e (divided-positive a b h)

pub quotients-coprime : (a b g : ℕ) → g ≡ gcd a b → 0 < b → gcd (a / g) (b / g) ≡ 1
quotients-coprime a b g e h = rw e (coprime_parts a b h)

dvd-of : (a g q : ℕ) → g * q ≡ a → q ∣ a
dvd-of a g q e = subst (λ (t : ℕ). q ∣ t) e (dvd-mul_left q g)

pub crossed-lowest : (a b c d : ℕ) → 0 < b → 0 < d → gcd a b ≡ 1 → gcd c d ≡ 1 → gcd ((a / gcd a d) * (c / gcd c b)) ((b / gcd c b) * (d / gcd a d)) ≡ 1
crossed-lowest a b c d h k p q =
    let A = a / gcd a d in
    let B = b / gcd c b in
    let C = c / gcd c b in
    let D = d / gcd a d in
    let divides-a : A ∣ a = dvd-of a (gcd a d) A (gcd-left a d) in
    let divides-b : B ∣ b = dvd-of b (gcd c b) B (gcd-right c b) in
    let divides-c : C ∣ c = dvd-of c (gcd c b) C (gcd-left c b) in
    let divides-d : D ∣ d = dvd-of d (gcd a d) D (gcd-right a d) in
    let AB : gcd A B ≡ 1 = gcd_comm A B ∙ coprime_of_dvd b A B (gcd_comm b A ∙ coprime_of_dvd a b A p divides-a) divides-b in
    let AD : gcd A D ≡ 1 = coprime_parts a d k in
    let CB : gcd C B ≡ 1 = coprime_parts c b h in
    let CD : gcd C D ≡ 1 = gcd_comm C D ∙ coprime_of_dvd d C D (gcd_comm d C ∙ coprime_of_dvd c d C q divides-c) divides-d in
    let upper-B : gcd (A * C) B ≡ 1 = coprime-times A C B AB CB in
    let upper-D : gcd (A * C) D ≡ 1 = coprime-times A C D AD CD in
    gcd_comm (A * C) (B * D) ∙ coprime-times B D (A * C) (gcd_comm B (A * C) ∙ upper-B) (gcd_comm D (A * C) ∙ upper-D)

pub reduced-value : (n d : ℤ) → (reduced n d).num *ℤ d ≡ n *ℤ pos (reduced n d).den
reduced-value n d =
    let a = unsigned_abs n in
    let b = unsigned_abs d in
    let s = is_below_zero n in
    let t = is_below_zero d in
    let one : with_sign (differ s t) (a / gcd a b) *ℤ with_sign t b ≡ with_sign s ((a / gcd a b) * b) =
    with_sign-times (differ s t) t (a / gcd a b) b ∙ ap (λ (u : Bool). with_sign u ((a / gcd a b) * b)) (differ-twice s t) in
    let two : with_sign s a *ℤ pos (b / gcd a b) ≡ with_sign s (a * (b / gcd a b)) = with_sign-scaled s a (b / gcd a b) in
    let three : (a / gcd a b) * b ≡ a * (b / gcd a b) = turned (gcd a b) (a / gcd a b) (b / gcd a b) a b (gcd-left a b) (gcd-right a b) in
    let whole : with_sign (differ s t) (a / gcd a b) *ℤ with_sign t b ≡ with_sign s a *ℤ pos (b / gcd a b) = one ∙ ap (with_sign s) three ∙ sym two in
    rw (with_sign-size n, with_sign-size d) at whole
  where
    turned : (g A B a b : ℕ) → g * A ≡ a → g * B ≡ b → A * b ≡ a * B
    turned g A B a b p q = rw (← p, ← q) (omega arith)

sum-over : (x y g B D : ℤ) → (x *ℤ D +ℤ y *ℤ B) *ℤ g ≡ x *ℤ (g *ℤ D) +ℤ y *ℤ (g *ℤ B)
sum-over x y g B D = ring ℤR (x ∷ y ∷ g ∷ B ∷ D ∷ []) (search readsℤ depth 16) refl

difference-over : (x y g B D : ℤ) → (x *ℤ D -ℤ y *ℤ B) *ℤ g ≡ x *ℤ (g *ℤ D) -ℤ y *ℤ (g *ℤ B)
difference-over x y g B D = ring ℤR (x ∷ y ∷ g ∷ B ∷ D ∷ []) (search readsℤ depth 16) refl

-- both parts, times what the denominators have in common
plus-parts : (x y : Fraction) → (left_part x y +ℤ right_part x y) *ℤ pos (gcd x.den y.den) ≡ (plus x y).num
plus-parts x y = sum-over x.num y.num (pos (gcd x.den y.den)) (pos (x.den / gcd x.den y.den)) (pos (y.den / gcd x.den y.den))
    ∙ rw (gcd-left x.den y.den, gcd-right x.den y.den)

minus-parts : (x y : Fraction) → (left_part x y -ℤ right_part x y) *ℤ pos (gcd x.den y.den) ≡ (minus x y).num
minus-parts x y = difference-over x.num y.num (pos (gcd x.den y.den)) (pos (x.den / gcd x.den y.den)) (pos (y.den / gcd x.den y.den))
    ∙ rw (gcd-left x.den y.den, gcd-right x.den y.den)

common-scaled : (x y : Fraction) → common_den x y * gcd x.den y.den ≡ x.den * y.den
common-scaled x y = let e = gcd-right x.den y.den in rewritten x.den y.den (gcd x.den y.den) (y.den / gcd x.den y.den) e
  where
    rewritten : (a b g B : ℕ) → g * B ≡ b → (a * B) * g ≡ a * b
    rewritten a b g B e = rw (← e) (omega arith)

-- from one numerator over the common denominator to the schoolbook one
raised : (n den m D g N M : ℤ) → n *ℤ D ≡ m *ℤ den → m *ℤ g ≡ M → D *ℤ g ≡ N → n *ℤ N ≡ M *ℤ den
raised n den m D g N M e f h = rw (← f, ← h) (by ℤR (n ∷ den ∷ m ∷ D ∷ g ∷ []) (scale ℤR g e) (search readsℤ depth 16) refl)

pub plus-value : (x y r : Fraction) (m d : ℤ) → m ≡ left_part x y +ℤ right_part x y → d ≡ pos (common_den x y) → r ≡ reduced m d → Same r (plus x y)
plus-value x y r m d e f h =
    let k : r.num *ℤ d ≡ m *ℤ pos r.den = rw h (reduced-value m d) in
    raised r.num (pos r.den) m d (pos (gcd x.den y.den)) (pos (x.den * y.den)) (plus x y).num k (rw e (plus-parts x y)) (rw f (ap pos (common-scaled x y)))

pub minus-value : (x y r : Fraction) (m d : ℤ) → m ≡ left_part x y -ℤ right_part x y → d ≡ pos (common_den x y) → r ≡ reduced m d → Same r (minus x y)
minus-value x y r m d e f h =
    let k : r.num *ℤ d ≡ m *ℤ pos r.den = rw h (reduced-value m d) in
    raised r.num (pos r.den) m d (pos (gcd x.den y.den)) (pos (x.den * y.den)) (minus x y).num k (rw e (minus-parts x y)) (rw f (ap pos (common-scaled x y)))

pub common_den-positive : (x y : Fraction) → 0 < x.den → 0 < y.den → 0 < common_den x y
common_den-positive x y h k = positive-product x.den (y.den / gcd x.den y.den) h (divided-positive x.den y.den k)
