-- Fractions times the least common multiple of their denominators.
--   multiple_size, least_size     a common multiple without its sign is one, and the least, if the other is
--   shortest_is                   the vector is the shortest
use Rattle.std.proofs.Common.{◌≡◌, ℕ, zero, suc, ◌<◌, refl, sym, ap, ◌∙◌, List, [], ◌∷◌, map, length, All, ℤ, pos, negsuc, ◌*ℤ◌, ◌<ℤ◌, neg_ℤ, unsigned_abs, arith}
use Rattle.std.proofs.lemmas.Int.{ints}
use Rattle.sg_algebra.proofs.Lists.{length_map}
use Rattle.sg_algebra.proofs.Solver.{by, ring, reads}
use Rattle.sg_algebra.proofs.Whole.{ℤR, readsℤ}
use Rattle.sg_algebra.proofs.Divides.{Divides}
use Rattle.sg_algebra.proofs.Value.{Value, ◌*ᵛ◌}
use Rattle.sg_algebra.proofs.ValueField.{ValueR}
use Rattle.sg_algebra.proofs.Rational.{whole_value, fraction_value-zero, fraction_value-whole}
use Rattle.sg_algebra.proofs.Polynomial.{coefficient}
use Rattle.sg_num.specs.Value.{fraction, number}
use Rattle.sg_num.specs.Roots.{IsMultiple}
use Rattle.sg_num.specs.declared.rat.Rat.{Rat}
use Rattle.sg_relations_theory.proofs.NullVectors.{number_at, as_value}
use Rattle.sg_relations.specs.Shortest.{lower_at, IsShortest}

swap : (x y : ℤ) → x *ℤ y ≡ y *ℤ x
swap x y = ring ℤR (x ∷ y ∷ []) (search readsℤ depth 12) refl

turned : (n k d : ℤ) → neg_ℤ n ≡ k *ℤ d → n ≡ neg_ℤ k *ℤ d
turned n k d e = by ℤR (n ∷ k ∷ d ∷ []) (sym e) (search readsℤ depth 12) refl

pub multiple_size : (l : ℤ) (d : ℕ) → IsMultiple l d → IsMultiple (pos (unsigned_abs l)) d
multiple_size (pos n) d m = m
multiple_size (negsuc n) d m = (neg_ℤ m.0, turned (pos (suc n)) m.0 (pos d) m.1)

least_size : (m l : ℤ) → (k : ℤ) × (m ≡ k *ℤ l) → (k : ℤ) × (m ≡ k *ℤ pos (unsigned_abs l))
least_size m (pos n) h = h
least_size m (negsuc n) h = (neg_ℤ h.0, h.1 ∙ go h.0 (pos (suc n)))
  where
    go : (k n : ℤ) → k *ℤ neg_ℤ n ≡ neg_ℤ k *ℤ n
    go k n = ring ℤR (k ∷ n ∷ []) (search readsℤ depth 12) refl

size_positive : (l : ℤ) → ¬ (l ≡ pos 0) → pos 0 <ℤ pos (unsigned_abs l)
size_positive (pos zero) h = absurd (h refl)
size_positive (pos (suc n)) h = omega (arith, ints)
size_positive (negsuc n) h = omega (arith, ints)

at : (l : ℤ) (b : List Rat) (e : List ℤ) → map (whole_value 0) e ≡ map (λ r. whole_value 0 l *ᵛ number r) b → (i : ℕ) → as_value (number_at e i) ≡ as_value l *ᵛ coefficient (map number b) i
at l [] [] q i = fraction_value-zero ∙ ring (ValueR 0) (as_value l ∷ []) (search reads depth 12) refl
at l [] (x ∷ e) q i = cc
at l (r ∷ b) [] q i = cc
at l (r ∷ b) (x ∷ e) q zero = let h : whole_value 0 x ≡ whole_value 0 l *ᵛ number r = cc in
    fraction_value-whole x ∙ h ∙ ap (λ (y : Value 0). y *ᵛ number r) (sym (fraction_value-whole l))
at l (r ∷ b) (x ∷ e) q (suc i) = let h : map (whole_value 0) e ≡ map (λ r. whole_value 0 l *ᵛ number r) b = cc in at l b e h i

multiples : (b : List Rat) (m : ℤ) → ((i : ℕ) → i < length b → Divides ℤR (pos (lower_at b i)) m) → All (λ r. IsMultiple m (fraction r).den) b
multiples [] m h k d l = absurd (omega arith)
multiples (r ∷ b) m h zero d l = let k = h 0 (omega arith) in (k.cofactor, k.is ∙ swap (pos (unsigned_abs r.den)) k.cofactor)
multiples (r ∷ b) m h (suc k) d l = multiples b m (λ i q. h (suc i) (omega arith)) k d (omega arith)

pub shortest_is : (b : List Rat) (e : List ℤ) (l n : ℤ) → ¬ (l ≡ pos 0) → n ≡ pos (unsigned_abs l) → map (whole_value 0) e ≡ map (λ r. whole_value 0 n *ᵛ number r) b
    → ((m : ℤ) → All (λ r. IsMultiple m (fraction r).den) b → (k : ℤ) × (m ≡ k *ℤ l)) → IsShortest b e
shortest_is b e l n some is q least = record {
  sized = sym (length_map (whole_value 0) e) ∙ ap length q ∙ length_map (λ r. whole_value 0 n *ᵛ number r) b;
  multiple = pos (unsigned_abs l);
  positive = size_positive l some;
  is = at (pos (unsigned_abs l)) b e (q ∙ ap (λ (n : ℤ). map (λ r. whole_value 0 n *ᵛ number r) b) is);
  least = λ m h. let k = least_size m l (least m (multiples b m h)) in record { cofactor = k.0; is = k.1 ∙ swap k.0 (pos (unsigned_abs l)) };
}
