-- Of more vectors than they have entries, one combination is zero. A vector is a function from places to elements of a field.
--   combination F cs bs      c₀ b₀ + c₁ b₁ + .., entry by entry; past the end of either list nothing is added
--   SomeNonzero F cs         one of the factors cs isn't zero
--   Dependent F n bs         a combination of the vectors bs, not all of its factors zero, whose first n entries are zero
--   dependent                there is one, where there are more than n vectors
-- One place after the other is made zero: a vector that isn't zero there is given up, and multiples of it are added to those behind it.
use Rattle.std.proofs.Common.{◌≡◌, ℕ, zero, suc, ◌≤◌, ◌<◌, refl, List, [], ◌∷◌, map, length, arith, ◌⊎◌, inl, inr}
use Rattle.sg_algebra.specs.Ring.{Field}
use Rattle.sg_algebra.specs.Coefficients.{coef, Each}
use Rattle.sg_algebra.proofs.Ring.{mul_O}
use Rattle.sg_algebra.proofs.Solver.{ring, by, scale, reads}
use Rattle.sg_algebra.proofs.Lists.{length_map}

module _ (F : Field) where
  open F use {R, is_zero, one_ne, inv, mul_inv}
  open R use {A, ◌≈◌, ◌⊞◌, ◌⊠◌, ⊟, O, I, rfl, symm, trans, add_cong, mul_cong, add_O}

  abbrev pub combination : List A → List (ℕ → A) → ℕ → A
  combination [] bs p = O
  combination (c ∷ cs) [] p = O
  combination (c ∷ cs) (b ∷ bs) p = c ⊠ b p ⊞ combination cs bs p

  -- one of the factors isn't zero
  pub record SomeNonzero (cs : List A) : Type 0 where
    pub place : ℕ
    pub ne : ¬ (coef R cs place ≈ O)

  pub record Dependent (n : ℕ) (bs : List (ℕ → A)) : Type 0 where
    pub factors : List A
    pub short : length factors ≤ length bs
    pub some : SomeNonzero factors
    pub none : (p : ℕ) → p < n → combination factors bs p ≈ O

  behind : (c : A) (cs : List A) → SomeNonzero cs → SomeNonzero (c ∷ cs)
  behind c cs s = record { place = suc s.place; ne = s.ne }

  -- ---- One place is made zero

  -- x and the multiple of b that makes the entry at p zero
  abbrev cleared : ℕ → (ℕ → A) → (ℕ → A) → ℕ → A
  cleared p b x = λ q. x q ⊞ ⊟ (x p ⊠ inv (b p)) ⊠ b q

  abbrev rest_by : (p : ℕ) (b : ℕ → A) → Dec (b p ≈ O) → List (ℕ → A) → List (ℕ → A) → List (ℕ → A)
  rest_by p b (yes h) bs rest = b ∷ rest
  rest_by p b (no h) bs rest = map (cleared p b) bs

  -- combinations of bs whose entries at p are zero, at most one vector fewer
  abbrev zero_at : ℕ → List (ℕ → A) → List (ℕ → A)
  zero_at p [] = []
  zero_at p (b ∷ bs) = rest_by p b (is_zero (b p)) bs (zero_at p bs)

  zero_at_size : (p : ℕ) (bs : List (ℕ → A)) → length bs ≤ suc (length (zero_at p bs))
  zero_at_size p [] = omega arith
  zero_at_size p (b ∷ bs) = go (is_zero (b p)) (zero_at_size p bs)
    where
      go : (d : Dec (b p ≈ O)) → length bs ≤ suc (length (zero_at p bs)) → suc (length bs) ≤ suc (length (rest_by p b d bs (zero_at p bs)))
      go (yes h) l = omega arith
      go (no h) l = rw (length_map (cleared p b) bs) (omega arith)

  cleared_zero : (p : ℕ) (b x : ℕ → A) → ¬ (b p ≈ O) → cleared p b x p ≈ O
  cleared_zero p b x h = by R (x p ∷ b p ∷ inv (b p) ∷ []) (scale R (⊟ (x p)) (mul_inv (b p) h)) (search reads depth 16) refl

  zero_at_zero : (p : ℕ) (bs : List (ℕ → A)) → Each (λ v. v p ≈ O) (zero_at p bs)
  zero_at_zero p [] = tt
  zero_at_zero p (b ∷ bs) = go (is_zero (b p)) (zero_at_zero p bs)
    where
      all : ¬ (b p ≈ O) → (xs : List (ℕ → A)) → Each (λ v. v p ≈ O) (map (cleared p b) xs)
      all h [] = tt
      all h (x ∷ xs) = (cleared_zero p b x h, all h xs)

      go : (d : Dec (b p ≈ O)) → Each (λ v. v p ≈ O) (zero_at p bs) → Each (λ v. v p ≈ O) (rest_by p b d bs (zero_at p bs))
      go (yes h) e = (h, e)
      go (no h) e = all h bs

  combination_zero : (p : ℕ) (cs : List A) (bs : List (ℕ → A)) → Each (λ v. v p ≈ O) bs → combination cs bs p ≈ O
  combination_zero p [] bs e = rfl
  combination_zero p (c ∷ cs) [] e = rfl
  combination_zero p (c ∷ cs) (b ∷ bs) e = trans (add_cong (trans (mul_cong rfl e.0) (mul_O R)) (combination_zero p cs bs e.1)) add_O

  combination-cleared : (p : ℕ) (b : ℕ → A) (cs : List A) (xs : List (ℕ → A)) (q : ℕ)
      → combination cs (map (cleared p b) xs) q ≈ ⊟ (combination cs xs p ⊠ inv (b p)) ⊠ b q ⊞ combination cs xs q
  combination-cleared p b [] xs q = ring R (inv (b p) ∷ b q ∷ []) (search reads depth 16) refl
  combination-cleared p b (c ∷ cs) [] q = ring R (inv (b p) ∷ b q ∷ []) (search reads depth 16) refl
  combination-cleared p b (c ∷ cs) (x ∷ xs) q =
      by R (c ∷ x q ∷ x p ∷ inv (b p) ∷ b q ∷ combination cs xs p ∷ combination cs xs q ∷ combination cs (map (cleared p b) xs) q ∷ [])
      (combination-cleared p b cs xs q) (search reads depth 20 fits 4000) refl

  -- a combination of what is left, as one of all
  record Back (bs ks : List (ℕ → A)) (cs : List A) : Type 0 where
    factors : List A
    short : length cs ≤ length ks → length factors ≤ length bs
    some : SomeNonzero cs → SomeNonzero factors
    is : (q : ℕ) → combination factors bs q ≈ combination cs ks q

  back : (p : ℕ) (bs : List (ℕ → A)) (cs : List A) → Back bs (zero_at p bs) cs
  back p [] cs = record { factors = cs; short = λ l. l; some = λ s. s; is = λ q. rfl }
  back p (b ∷ bs) cs = go (is_zero (b p)) cs (λ ds. back p bs ds)
    where
      go : (d : Dec (b p ≈ O)) (cs : List A) → ((ds : List A) → Back bs (zero_at p bs) ds) → Back (b ∷ bs) (rest_by p b d bs (zero_at p bs)) cs
      go (yes h) [] rec = record { factors = []; short = λ l. omega arith; some = λ s. s; is = λ q. rfl }
      go (yes h) (c ∷ cs) rec = let r = rec cs in record {
        factors = c ∷ r.factors;
        short = λ l. longer (r.short (omega arith));
        some = λ s. first_or_behind s.place s.ne r.some;
        is = λ q. add_cong rfl (r.is q);
      }
        where
          longer : {m n : ℕ} → m ≤ n → suc m ≤ suc n
          longer l = omega arith

          first_or_behind : {ds : List A} (n : ℕ) → ¬ (coef R (c ∷ cs) n ≈ O) → (SomeNonzero cs → SomeNonzero ds) → SomeNonzero (c ∷ ds)
          first_or_behind zero h f = record { place = 0; ne = h }
          first_or_behind {ds} (suc n) h f = behind c ds (f (record { place = n; ne = h }))
      go (no h) cs rec = record {
        factors = ⊟ (combination cs bs p ⊠ inv (b p)) ∷ cs;
        short = λ l. longer (rw (length_map (cleared p b) bs) at l);
        some = behind (⊟ (combination cs bs p ⊠ inv (b p))) cs;
        is = λ q. symm (combination-cleared p b cs bs q);
      }
        where
          longer : {m n : ℕ} → m ≤ n → suc m ≤ suc n
          longer l = omega arith

  -- ---- All places

  pub dependent : (n : ℕ) (bs : List (ℕ → A)) → n < length bs → Dependent n bs
  dependent zero [] l = absurd (omega arith)
  dependent zero (b ∷ bs) l = record { factors = I ∷ []; short = omega arith; some = record { place = 0; ne = one_ne }; none = λ p q. absurd (omega arith) }
  dependent (suc n) bs l = up (dependent n (zero_at n bs) (fewer (zero_at_size n bs)))
    where
      fewer : length bs ≤ suc (length (zero_at n bs)) → n < length (zero_at n bs)
      fewer h = omega arith

      last_or_less : (p : ℕ) → p < suc n → (p ≡ n) ⊎ (p < n)
      last_or_less p h = grind arith

      up : Dependent n (zero_at n bs) → Dependent (suc n) bs
      up d = let r = back n bs d.factors in record {
        factors = r.factors;
        short = r.short d.short;
        some = r.some d.some;
        none = λ p h. trans (r.is p) (elim (last_or_less p h) [
          | inl e ↦ rw e (combination_zero n d.factors (zero_at n bs) (zero_at_zero n bs))
          | inr k ↦ d.none p k
        ]);
      }
