-- Lowest terms, and values of lists.
--   falling-more, falling-turned     the value of a list from its end
--   falling-times                    of a list of multiples
--   lowest-of                        what is left after the greatest common divisor is taken out has none
use Rattle.std.proofs.Common.{◌≡◌, ℕ, suc, ◌+◌, ◌*◌, ◌<◌, ◌≤◌, ◌%◌, List, [], ◌∷◌, ◌++◌, length, ℤ, pos, ◌+ℤ◌, ◌*ℤ◌, ◌<ℤ◌, unsigned_abs, refl, sym, ap, subst, ◌∙◌, arith, length-append, add-one}
use Rattle.std.specs.Int.{◌∣◌}
use Rattle.std.proofs.lemmas.Int.{ints, unsigned_abs-mul}
use Rattle.std.proofs.lemmas.Nat.Gcd.{dvd_antisymm, mod-eq-zero_of_dvd}
use Rattle.std.proofs.Math.Nat.{one-dvd, mul-dvd-mul_right, mul-le-mul_left, dvd_of_mul-dvd-mul_right, one-mul}
use Rattle.sg_algebra.specs.Coefficients.{Each, eval}
use Rattle.sg_algebra.proofs.Ring.{pow}
use Rattle.sg_algebra.proofs.Solver.{ring, by}
use Rattle.sg_algebra.proofs.Whole.{ℤR, readsℤ}
use Rattle.sg_canonical.specs.Whole.{common_divisor}
use Rattle.sg_canonical.proofs.CommonDenominator.{divides-all, divisor-denominator, divisor-each}
use Rattle.sg_plain.specs.Lowest.{falling_at, turned, times, IsReduced}

pow-next : (x : ℤ) (i : ℕ) → pow ℤR x (i + 1) ≡ pow ℤR x i *ℤ x
pow-next x i = rw add-one refl

more-step : (c p x r f l : ℤ) → r ≡ x *ℤ f +ℤ l → c *ℤ (p *ℤ x) +ℤ r ≡ x *ℤ (c *ℤ p +ℤ f) +ℤ l
more-step c p x r f l h = by ℤR (c ∷ p ∷ x ∷ r ∷ f ∷ l ∷ []) h (search readsℤ depth 20) refl

pub falling-more : (cs : List ℤ) (l x : ℤ) → falling_at (cs ++ (l ∷ [])) x ≡ x *ℤ falling_at cs x +ℤ l
falling-more [] l x = ring ℤR (l ∷ x ∷ []) (search readsℤ depth 16) refl
falling-more (c ∷ cs) l x =
    ap (λ (n : ℕ). c *ℤ pow ℤR x n +ℤ falling_at (cs ++ (l ∷ [])) x) (length-append cs (l ∷ []))
    ∙ ap (λ p. c *ℤ p +ℤ falling_at (cs ++ (l ∷ [])) x) (pow-next x (length cs))
    ∙ more-step c (pow ℤR x (length cs)) x (falling_at (cs ++ (l ∷ [])) x) (falling_at cs x) l (falling-more cs l x)

pub falling-turned : (cs : List ℤ) (x : ℤ) → falling_at (turned cs) x ≡ eval ℤR cs x
falling-turned [] x = refl
falling-turned (c ∷ cs) x = falling-more (turned cs) c x ∙ ap (λ v. x *ℤ v +ℤ c) (falling-turned cs x)
    ∙ ring ℤR (c ∷ x ∷ eval ℤR cs x ∷ []) (search readsℤ depth 16) refl

length-times : (g : ℤ) (ns : List ℤ) → length (times g ns) ≡ length ns
length-times g [] = refl
length-times g (n ∷ ns) = ap suc (length-times g ns)

times-step : (n g p f r : ℤ) → r ≡ f *ℤ g → (n *ℤ g) *ℤ p +ℤ r ≡ (n *ℤ p +ℤ f) *ℤ g
times-step n g p f r h = by ℤR (n ∷ g ∷ p ∷ f ∷ r ∷ []) h (search readsℤ depth 20) refl

pub falling-times : (g : ℤ) (ns : List ℤ) (x : ℤ) → falling_at (times g ns) x ≡ falling_at ns x *ℤ g
falling-times g [] x = ring ℤR (g ∷ []) (search readsℤ depth 16) refl
falling-times g (n ∷ ns) x =
    ap (λ (m : ℕ). (n *ℤ g) *ℤ pow ℤR x m +ℤ falling_at (times g ns) x) (length-times g ns)
    ∙ times-step n g (pow ℤR x (length ns)) (falling_at ns x) (falling_at (times g ns) x) (falling-times g ns x)

-- ---- Lowest terms

each-times : (k g : ℕ) (ns : List ℤ) → Each (λ n. k ∣ unsigned_abs n) ns → Each (λ n. k * g ∣ unsigned_abs n) (times (pos g) ns)
each-times k g [] h = tt
each-times k g (n ∷ ns) h = (subst (λ (m : ℕ). k * g ∣ m) (sym (unsigned_abs-mul n (pos g))) (mul-dvd-mul_right k h.0 g), each-times k g ns h.1)

pub multiples : (cs : List ℤ) (d : ℕ) → Each (λ c. unsigned_abs c % common_divisor cs d ≡ 0) cs
multiples cs d = all (common_divisor cs d) cs (divisor-each cs d)
  where
    all : (g : ℕ) (l : List ℤ) → Each (λ c. g ∣ unsigned_abs c) l → Each (λ c. unsigned_abs c % g ≡ 0) l
    all g [] h = tt
    all g (c ∷ l) h = (mod-eq-zero_of_dvd g h.0, all g l h.1)

pub denominator-multiple : (cs : List ℤ) (d : ℕ) → d % common_divisor cs d ≡ 0
denominator-multiple cs d = mod-eq-zero_of_dvd (common_divisor cs d) (divisor-denominator cs d)

pub lowest-of : (cs ns : List ℤ) (d e : ℤ) (g : ℕ) → 0 < g → g ≡ common_divisor cs (unsigned_abs d) → times (pos g) ns ≡ cs → e *ℤ pos g ≡ d
    → pos 0 <ℤ e → IsReduced cs d ns e
lowest-of cs ns d e g some is numbers denominator positive = record {
  divisor = pos g;
  some = omega (arith, ints);
  numbers = numbers;
  denominator = denominator;
  positive = positive;
  lowest = one;
}
  where
    k : ℕ
    k = common_divisor ns (unsigned_abs e)

    below : k * g ∣ unsigned_abs d
    below = subst (λ (z : ℤ). k * g ∣ unsigned_abs z) denominator (subst (λ (m : ℕ). k * g ∣ m) (sym (unsigned_abs-mul e (pos g)))
        (mul-dvd-mul_right k (divisor-denominator ns (unsigned_abs e)) g))

    each : Each (λ n. k * g ∣ unsigned_abs n) cs
    each = subst (Each (λ n. k * g ∣ unsigned_abs n)) numbers (each-times k g ns (divisor-each ns (unsigned_abs e)))

    divides : k * g ∣ 1 * g
    divides = subst (λ (m : ℕ). k * g ∣ m) (sym is ∙ sym (one-mul g)) (divides-all (k * g) cs (unsigned_abs d) below each)

    one : k ≡ 1
    one = dvd_antisymm (dvd_of_mul-dvd-mul_right k some divides) (one-dvd k)

pub multiples-at : (cs : List ℤ) (d : ℕ) (b : ℤ) → b ≡ pos (common_divisor cs d) → Each (λ c. unsigned_abs c % unsigned_abs b ≡ 0) cs
multiples-at cs d b e = subst (λ (z : ℤ). Each (λ c. unsigned_abs c % unsigned_abs z ≡ 0) cs) (sym e) (multiples cs d)

pub denominator-at : (cs : List ℤ) (d b : ℤ) → b ≡ pos (common_divisor cs (unsigned_abs d)) → unsigned_abs d % unsigned_abs b ≡ 0
denominator-at cs d b e = subst (λ (z : ℤ). unsigned_abs d % unsigned_abs z ≡ 0) (sym e) (denominator-multiple cs (unsigned_abs d))

pub lowest-at : (cs ns : List ℤ) (d e b : ℤ) → b ≡ pos (common_divisor cs (unsigned_abs d)) → pos 0 <ℤ b → times b ns ≡ cs → e *ℤ b ≡ d
    → pos 0 <ℤ e → IsReduced cs d ns e
lowest-at cs ns d e b is some numbers denominator positive =
    lowest-of cs ns d e (common_divisor cs (unsigned_abs d)) (above (common_divisor cs (unsigned_abs d)) b is some) refl
    (subst (λ (z : ℤ). times z ns ≡ cs) is numbers) (subst (λ (z : ℤ). e *ℤ z ≡ d) is denominator) positive
  where
    above : (g : ℕ) (b : ℤ) → b ≡ pos g → pos 0 <ℤ b → 0 < g
    above g b e h = omega (arith, ints)

-- ---- Sizes

pub each-append : (b : ℕ) (xs ys : List ℤ) → Each (λ v. unsigned_abs v ≤ b) xs → Each (λ v. unsigned_abs v ≤ b) ys → Each (λ v. unsigned_abs v ≤ b) (xs ++ ys)
each-append b [] ys h k = k
each-append b (x ∷ xs) ys h k = (h.0, each-append b xs ys h.1 k)

pub each-turned : (a b : ℕ) → a ≤ b → (xs : List ℤ) → Each (λ v. unsigned_abs v ≤ a) xs → Each (λ v. unsigned_abs v ≤ b) (turned xs)
each-turned a b l [] h = tt
each-turned a b l (x ∷ xs) h = let k = h.0 in each-append b (turned xs) (x ∷ []) (each-turned a b l xs h.1) (omega (arith, k), tt)

smaller : (n g : ℤ) (b : ℕ) → pos 0 <ℤ g → unsigned_abs (n *ℤ g) ≤ b → unsigned_abs n ≤ b
smaller n g b h k = let e : unsigned_abs (n *ℤ g) ≡ unsigned_abs n * unsigned_abs g = unsigned_abs-mul n g in let m : unsigned_abs n * 1 ≤
    unsigned_abs n * unsigned_abs g = mul-le-mul_left (unsigned_abs n) (one-below g h) in omega (arith, e, m, k)
  where
    one-below : (g : ℤ) → pos 0 <ℤ g → 1 ≤ unsigned_abs g
    one-below g h = omega (arith, ints)

each-times-back : (g : ℤ) (b : ℕ) → pos 0 <ℤ g → (ns : List ℤ) → Each (λ v. unsigned_abs v ≤ b) (times g ns) → Each (λ v. unsigned_abs v ≤ b) ns
each-times-back g b h [] e = tt
each-times-back g b h (n ∷ ns) e = (smaller n g b h e.0, each-times-back g b h ns e.1)

-- what is in lowest terms is no larger
pub lowest-small : (cs ns : List ℤ) (d e : ℤ) (b : ℕ) → IsReduced cs d ns e → Each (λ v. unsigned_abs v ≤ b) cs → Each (λ v. unsigned_abs v ≤ b) ns
lowest-small cs ns d e b i h = each-times-back i.divisor b i.some ns (subst (Each (λ v. unsigned_abs v ≤ b)) (sym i.numbers) h)
