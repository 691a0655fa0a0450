-- The terms that are written.
--   wide-enough     each term has an exponent for each product
--   all-written     the parts of all terms
--   part-sized      and each of them has a power for each sum
use Rattle.std.proofs.Common.{◌≡◌, ℕ, zero, suc, ◌+◌, ◌<◌, ◌≤◌, sym, ap, ◌∙◌, subst, List, [], ◌∷◌, ◌++◌, length, map, drop, unsigned_abs, slice_index_or, arith}
use Rattle.std.proofs.lemmas.List.{length-map, length-reverse, length-drop}
use Rattle.sg_algebra.specs.Coefficients.{Each}
use Rattle.sg_algebra.proofs.Place.{Pairwise}
use Rattle.sg_algebra.proofs.Value.{Value}
use Rattle.sg_spec.specs.Canonical.{Plane}
use Rattle.sg_tower.specs.declared.flat.FlatTerm.{FlatTerm}
use Rattle.sg_tower.specs.Terms.{term_of}
use Rattle.sg_canonical.specs.declared.element.Part.{Part}
use Rattle.sg_canonical.specs.Parts.{part_at}
use Rattle.sg_build.specs.Expressions.{IsWrittenTerm, AreParts}

module _ {d : ℕ} (W : Value (suc d) → Plane → Plane → Type 0) {K : Type 0} (v : K → Value d) (r : ℕ) where
  wide-each : (n : ℕ) (ts : List (FlatTerm K)) → Each (λ t. length t.exponents ≡ r + n) (map (term_of v) ts) → (k : ℕ) (t : FlatTerm K) → k < length ts → r ≤ length (slice_index_or ts k t).exps
  wide-each n [] h k t l = absurd (omega (arith, l))
  wide-each n (t ∷ ts) h zero u l = omega (arith, h.0)
  wide-each n (t ∷ ts) h (suc k) u l = wide-each n ts h.1 k u (omega (arith, l))

  pub wide-enough : (m n : ℕ) (ts terms : List (FlatTerm K)) → m ≡ r → ts ≡ terms → Each (λ t. length t.exponents ≡ r + n) (map (term_of v) terms) → (k : ℕ) (t : FlatTerm K) → k < length ts → m ≤ length (slice_index_or ts k t).exps
  wide-enough m n ts terms e f h k t l =
      subst (λ (i : ℕ). i ≤ length (slice_index_or ts k t).exps) (sym e) (wide-each n ts (subst (λ (l : List (FlatTerm K)). Each (λ t. length t.exponents ≡ r + n) (map (term_of v) l)) (sym f) h) k t l)

  sized-each : (n : ℕ) (ts : List (FlatTerm K)) (ps : List Part) → Each (λ t. length t.exponents ≡ r + n) (map (term_of v) ts) → Pairwise (IsWrittenTerm W r) (map (term_of v) ts) (map (part_at 0) ps)
      → (k : ℕ) (q : Part) → k < length ps → n ≡ length (slice_index_or ps k q).powers
  sized-each n [] [] h i k q l = absurd (omega (arith, l))
  sized-each n [] (p ∷ ps) h i k q l = absurd i
  sized-each n (t ∷ ts) [] h i k q l = absurd i
  sized-each n (t ∷ ts) (p ∷ ps) h i zero q l =
      let e : length p.powers ≡ length (drop r t.exps) = ap length i.0.powers ∙ length-reverse (map unsigned_abs (drop r t.exps)) ∙ length-map (drop r t.exps) unsigned_abs in
      omega (arith, e, length-drop r t.exps, h.0)
  sized-each n (t ∷ ts) (p ∷ ps) h i (suc k) q l = sized-each n ts ps h.1 i.1 k q (omega (arith, l))

  -- the parts of all terms
  pub all-written : (m : ℕ) (ts terms : List (FlatTerm K)) (start new slice : List Part) → m ≡ r → ts ≡ terms → start ≡ [] → slice ≡ new → AreParts W v m ts start new
      → Pairwise (IsWrittenTerm W r) (map (term_of v) terms) (map (part_at 0) slice)
  all-written m ts terms start new slice e f g h a =
      subst (λ (i : ℕ). Pairwise (IsWrittenTerm W i) (map (term_of v) terms) (map (part_at 0) slice)) e
      (subst (λ (l : List (FlatTerm K)). Pairwise (IsWrittenTerm W m) (map (term_of v) l) (map (part_at 0) slice)) f
      (subst (λ (l : List Part). Pairwise (IsWrittenTerm W m) (map (term_of v) ts) (map (part_at 0) l)) (sym (h ∙ a.1 ∙ ap (λ (l : List Part). l ++ a.0) g)) a.2))

  pub part-sized : (m n : ℕ) (terms : List (FlatTerm K)) (slice : List Part) → m ≡ n → Each (λ t. length t.exponents ≡ r + n) (map (term_of v) terms) → Pairwise (IsWrittenTerm W r) (map (term_of v) terms) (map (part_at 0) slice)
      → (k : ℕ) (q : Part) → k < length slice → m ≡ length (slice_index_or slice k q).powers
  part-sized m n terms slice e h i k q l = e ∙ sized-each n terms slice h i k q l
