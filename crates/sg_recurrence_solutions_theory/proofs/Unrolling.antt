-- An equation of order s over a ring R with a map σ, c_0 y_0 + .. + c_s y_s = f, for an element y of a larger ring L, where y_i is what the
-- map of L makes of y after i steps. Its images are unrolled: up from the first coefficient, down from the last.
--   total k cs j       the image of c_0 after k steps times y_j, and so on: the left side of the equation after k steps, from y_j on
--   Within m n z       z is a combination of y_m, .., y_(m + n - 1) and 1, with factors of R
--   cleared            where q y is p, such a combination times the product of n images of q from the m-th on lies in R
--   unrolled_up        for y = p/q in lowest terms q divides the images of q after m + 1 to m + s steps, times the first m + 1 images of c_0
--   unrolled_down      and the image of q after s + m steps divides the first s images of q, times the first m + 1 images of c_s
use Rattle.std.proofs.Common.{◌≡◌, ℕ, zero, suc, ◌+◌, ◌≤◌, ◌<◌, refl, sym, subst, List, [], ◌∷◌, ◌++◌, length, ◌⊎◌, inl, inr, arith}
use Rattle.sg_algebra.specs.Ring.{Ring, Hom}
use Rattle.sg_algebra.proofs.Solver.{by, ring, reads}
use Rattle.sg_algebra.proofs.Divides.{Divides, dvd_same, dvd_on, dvd-scale, iter, dvd_iter, on-neg, on-O}
use Rattle.sg_algebra.proofs.Coprime.{Coprime, coprime_symm, coprime_on, gauss}
use Rattle.sg_recurrence_solutions_theory.proofs.Orders.{below}

at_or_past : (k j : ℕ) → k ≤ j → (j ≡ k) ⊎ (suc k ≤ j)
at_or_past k j l = grind (arith, l)

module _ (R : Ring) (σ : Hom R R) where
  abbrev image : ℕ → R.A → R.A
  image n x = iter R σ n x

  pub image-image : (k i j : ℕ) (x : R.A) → j ≡ k + i → R.◌≈◌ (image k (image i x)) (image j x)
  image-image zero i j x e = same j i (let z : i ≡ j = omega (arith, e) in z)
    where
      same : (j i : ℕ) → i ≡ j → R.◌≈◌ (image i x) (image j x)
      same j i e = subst (λ (n : ℕ). R.◌≈◌ (image i x) (image n x)) e R.rfl
  image-image (suc k) i zero x e = absurd (omega (arith, e))
  image-image (suc k) i (suc j) x e = σ.on_cong (image k (image i x)) (image j x) (image-image k i j x (omega (arith, e)))

  -- one factor more at the end of a product of images
  below-last : (k : ℕ) (c : R.A) → R.◌≈◌ (below R σ (suc k) c) (R.◌⊠◌ (below R σ k c) (image k c))
  below-last zero c = R.trans (R.mul_cong R.rfl σ.on-one) (R.mul_comm)
  below-last (suc k) c =
      R.trans (R.mul_cong R.rfl (R.trans (σ.on_cong (below R σ (suc k) c) (R.◌⊠◌ (below R σ k c) (image k c)) (below-last k c)) (σ.on-mul (below R σ k c) (image k c))))
      (R.symm R.mul_assoc)

  image_below : (s i : ℕ) (q : R.A) → i < s → Divides R (image i q) (below R σ s q)
  image_below zero i q l = absurd (omega (arith, l))
  image_below (suc s) zero q l = record { cofactor = σ.on (below R σ s q); is = R.rfl }
  image_below (suc s) (suc i) q l = dvd-scale R (image (suc i) q) q (σ.on (below R σ s q)) (dvd_on R R σ (image i q) (below R σ s q) (image_below s i q (omega (arith, l))))

  -- the j-th image of q divides the product of n images from the m-th on
  image_divides : (m n j : ℕ) (q : R.A) → m ≤ j → j < m + n → Divides R (image j q) (image m (below R σ n q))
  image_divides m n j q l u = go (apart m j l)
    where
      apart : (m j : ℕ) → m ≤ j → (i : ℕ) × (j ≡ m + i)
      apart zero j l = (j, omega arith)
      apart (suc m) zero l = absurd (omega (arith, l))
      apart (suc m) (suc j) l = let r = apart m j (omega (arith, l)) in (r.0, let e = r.1 in omega (arith, e))

      go : (i : ℕ) × (j ≡ m + i) → Divides R (image j q) (image m (below R σ n q))
      go r = dvd_same R (image m (image r.0 q)) (image m (below R σ n q)) (image j q) (image m (below R σ n q)) (image-image m r.0 j q r.1) R.rfl
          (dvd_iter R σ m (image r.0 q) (below R σ n q) (image_below n r.0 q (let e = r.1 in omega (arith, e, u))))

  coprime_image : (n : ℕ) (p q : R.A) → Coprime R p q → Coprime R (image n p) (image n q)
  coprime_image zero p q c = c
  coprime_image (suc n) p q c = coprime_on R R σ (image n p) (image n q) (coprime_image n p q c)

module _ (R : Ring) (σ : Hom R R) (L : Ring) (τ : Hom L L) (ι : Hom R L) (moves : (x : R.A) → L.◌≈◌ (τ.on (ι.on x)) (ι.on (σ.on x))) (y : L.A) where
  open L use {◌≈◌, ◌⊞◌, ◌⊠◌, ⊟, O, I, rfl, symm, trans, add_cong, mul_cong, neg_cong, mul_comm, mul_assoc, mul_I, distrib}

  abbrev step : ℕ → R.A → R.A
  step n x = iter R σ n x

  abbrev place : ℕ → L.A
  place n = iter L τ n y

  abbrev pub total : ℕ → List R.A → ℕ → L.A
  total k [] j = O
  total k (c ∷ cs) j = ι.on (step k c) ⊠ place j ⊞ total k cs (suc j)

  total-moved : (k : ℕ) (cs : List R.A) (j : ℕ) → τ.on (total k cs j) ≈ total (suc k) cs (suc j)
  total-moved k [] j = on-O L L τ
  total-moved k (c ∷ cs) j =
      trans (τ.on-add (ι.on (step k c) ⊠ place j) (total k cs (suc j)))
      (add_cong (trans (τ.on-mul (ι.on (step k c)) (place j)) (mul_cong (moves (step k c)) rfl)) (total-moved k cs (suc j)))

  pub data Within : ℕ → ℕ → L.A → Type 0 where
    number : (m n : ℕ) (e : R.A) → Within m n (ι.on e)
    placed : (m n j : ℕ) → m ≤ j → j < m + n → Within m n (place j)
    scaled : (m n : ℕ) (c : R.A) (z : L.A) → Within m n z → Within m n (ι.on c ⊠ z)
    added : (m n : ℕ) (z w : L.A) → Within m n z → Within m n w → Within m n (z ⊞ w)
    negated : (m n : ℕ) (z : L.A) → Within m n z → Within m n (⊟ z)
    same : (m n : ℕ) (z w : L.A) → z ≈ w → Within m n z → Within m n w

  module _ (cs : List R.A) (f : R.A) (equation : total 0 cs 0 ≈ ι.on f) where
    equation-at : (k : ℕ) → total k cs k ≈ ι.on (step k f)
    equation-at zero = equation
    equation-at (suc k) = trans (symm (total-moved k cs k)) (trans (τ.on_cong (total k cs k) (ι.on (step k f)) (equation-at k)) (moves (step k f)))

  -- ---- Cleared of denominators

  module _ (p q : R.A) (is : ι.on q ⊠ y ≈ ι.on p) where
    is-at : (j : ℕ) → ι.on (step j q) ⊠ place j ≈ ι.on (step j p)
    is-at zero = is
    is-at (suc j) =
        trans (mul_cong (symm (moves (step j q))) rfl)
        (trans (symm (τ.on-mul (ι.on (step j q)) (place j))) (trans (τ.on_cong (ι.on (step j q) ⊠ place j) (ι.on (step j p)) (is-at j)) (moves (step j p))))

    abbrev Q : ℕ → ℕ → R.A
    Q m n = step m (below R σ n q)

    pub cleared : (m n : ℕ) (z : L.A) → Within m n z → (w : R.A) × (ι.on (Q m n) ⊠ z ≈ ι.on w)
    cleared m n z (number m' n' e) = (R.◌⊠◌ (Q m n) e, symm (ι.on-mul (Q m n) e))
    cleared m n z (placed m' n' j l u) = go (image_divides R σ m n j q l u)
      where
        go : Divides R (step j q) (Q m n) → (w : R.A) × (ι.on (Q m n) ⊠ place j ≈ ι.on w)
        go d = (
          R.◌⊠◌ d.cofactor (step j p),
          trans (mul_cong (trans (ι.on_cong (Q m n) (R.◌⊠◌ (step j q) d.cofactor) d.is) (trans (ι.on-mul (step j q) d.cofactor) mul_comm)) rfl)
              (trans mul_assoc (trans (mul_cong rfl (is-at j)) (symm (ι.on-mul d.cofactor (step j p))))),
        )
    cleared m n z (scaled m' n' c x h) = let r = cleared m n x h in (
      R.◌⊠◌ c r.0,
      trans (swap (ι.on (Q m n)) (ι.on c) x) (trans (mul_cong rfl r.1) (symm (ι.on-mul c r.0))),
    )
      where
        swap : (a b c : L.A) → a ⊠ (b ⊠ c) ≈ b ⊠ (a ⊠ c)
        swap a b c = ring L (a ∷ b ∷ c ∷ []) (search reads depth 16) refl
    cleared m n z (added m' n' x w h i) = let r = cleared m n x h in let t = cleared m n w i in
        (R.◌⊞◌ r.0 t.0, trans distrib (trans (add_cong r.1 t.1) (symm (ι.on-add r.0 t.0))))
    cleared m n z (negated m' n' x h) = let r = cleared m n x h in
        (R.⊟ r.0, trans (sign (ι.on (Q m n)) x) (trans (neg_cong r.1) (symm (on-neg R L ι r.0))))
      where
        sign : (a b : L.A) → a ⊠ ⊟ b ≈ ⊟ (a ⊠ b)
        sign a b = ring L (a ∷ b ∷ []) (search reads depth 16) refl
    cleared m n z (same m' n' x w e h) = let r = cleared m n x h in (r.0, trans (mul_cong rfl (symm e)) r.1)

    -- what a cleared multiple of an image of y says of divisibility
    module _ (injective : (a b : R.A) → ι.on a ≈ ι.on b → R.◌≈◌ a b) (lowest : Coprime R p q) where
      divides : (j m n : ℕ) (P : R.A) → Within m n (ι.on P ⊠ place j) → Divides R (step j q) (R.◌⊠◌ (Q m n) P)
      divides j m n P h =
          let r = cleared m n (ι.on P ⊠ place j) h in
          gauss R (step j q) (step j p) (R.◌⊠◌ (Q m n) P) (coprime_symm R (step j p) (step j q) (coprime_image R σ j p q lowest))
          (record { cofactor = r.0; is = injective (R.◌⊠◌ (step j p) (R.◌⊠◌ (Q m n) P)) (R.◌⊠◌ (step j q) r.0) (both r.0 r.1) })
        where
          regroup : (a b c x : L.A) → (b ⊠ x) ⊠ (a ⊠ c) ≈ b ⊠ (a ⊠ (c ⊠ x))
          regroup a b c x = ring L (a ∷ b ∷ c ∷ x ∷ []) (search reads depth 16) refl

          both : (w : R.A) → ι.on (Q m n) ⊠ (ι.on P ⊠ place j) ≈ ι.on w → ι.on (R.◌⊠◌ (step j p) (R.◌⊠◌ (Q m n) P)) ≈ ι.on (R.◌⊠◌ (step j q) w)
          both w e =
              trans (ι.on-mul (step j p) (R.◌⊠◌ (Q m n) P))
              (trans (mul_cong (symm (is-at j)) (ι.on-mul (Q m n) P))
              (trans (regroup (ι.on (Q m n)) (ι.on (step j q)) (ι.on P) (place j)) (trans (mul_cong rfl e) (symm (ι.on-mul (step j q) w)))))

      pub one_factor : (c : R.A) → R.◌≈◌ (below R σ 1 c) c
      one_factor c = R.trans (R.mul_cong R.rfl σ.on-one) R.mul_I

      solved : (x t e : L.A) → x ⊞ t ≈ e → x ≈ e ⊞ ⊟ t
      solved x t e h = by L (x ∷ t ∷ e ∷ []) h (search reads depth 16) refl

      -- ---- Up

      module _ (c : R.A) (rest : List R.A) (f : R.A) (equation : total 0 (c ∷ rest) 0 ≈ ι.on f) where
        abbrev s : ℕ
        s = length rest

        rest_within : (k m n : ℕ) (cs : List R.A) (j : ℕ) → m ≤ j → j + length cs ≤ m + n → Within m n (total k cs j)
        rest_within k m n [] j l u = same m n (ι.on R.O) O (on-O R L ι) (number m n R.O)
        rest_within k m n (d ∷ cs) j l u =
            added m n (ι.on (step k d) ⊠ place j) (total k cs (suc j)) (scaled m n (step k d) (place j) (placed m n j l (omega (arith, u))))
            (rest_within k m n cs (suc j) (omega (arith, l)) (omega (arith, u)))

        first_within : (k : ℕ) → Within (suc k) s (ι.on (step k c) ⊠ place k)
        first_within k =
            same (suc k) s (ι.on (step k f) ⊞ ⊟ (total k rest (suc k))) (ι.on (step k c) ⊠ place k)
            (symm (solved (ι.on (step k c) ⊠ place k) (total k rest (suc k)) (ι.on (step k f)) (equation-at (c ∷ rest) f equation k)))
            (added (suc k) s (ι.on (step k f)) (⊟ (total k rest (suc k))) (number (suc k) s (step k f))
            (negated (suc k) s (total k rest (suc k)) (rest_within k (suc k) s rest (suc k) (omega arith) (omega arith))))

        -- one step further
        further : (k : ℕ) (z : L.A) → Within k s z → Within (suc k) s (ι.on (step k c) ⊠ z)
        further k z (number m n e) = same (suc k) s (ι.on (R.◌⊠◌ (step k c) e)) (ι.on (step k c) ⊠ ι.on e) (ι.on-mul (step k c) e) (number (suc k) s (R.◌⊠◌ (step k c) e))
        further k z (placed m n j l u) = go (at_or_past k j l)
          where
            go : (j ≡ k) ⊎ (suc k ≤ j) → Within (suc k) s (ι.on (step k c) ⊠ place j)
            go (inl e) = subst (λ (i : ℕ). Within (suc k) s (ι.on (step k c) ⊠ place i)) (sym e) (first_within k)
            go (inr h) = scaled (suc k) s (step k c) (place j) (placed (suc k) s j h (omega (arith, u)))
        further k z (scaled m n d x h) = same (suc k) s (ι.on d ⊠ (ι.on (step k c) ⊠ x)) (ι.on (step k c) ⊠ (ι.on d ⊠ x)) (swap (ι.on d) (ι.on (step k c)) x)
            (scaled (suc k) s d (ι.on (step k c) ⊠ x) (further k x h))
          where
            swap : (a b c : L.A) → a ⊠ (b ⊠ c) ≈ b ⊠ (a ⊠ c)
            swap a b c = ring L (a ∷ b ∷ c ∷ []) (search reads depth 16) refl
        further k z (added m n x w h i) = same (suc k) s (ι.on (step k c) ⊠ x ⊞ ι.on (step k c) ⊠ w) (ι.on (step k c) ⊠ (x ⊞ w)) (symm distrib)
            (added (suc k) s (ι.on (step k c) ⊠ x) (ι.on (step k c) ⊠ w) (further k x h) (further k w i))
        further k z (negated m n x h) = same (suc k) s (⊟ (ι.on (step k c) ⊠ x)) (ι.on (step k c) ⊠ ⊟ x) (sign (ι.on (step k c)) x) (negated (suc k) s (ι.on (step k c) ⊠ x) (further k x h))
          where
            sign : (a b : L.A) → ⊟ (a ⊠ b) ≈ a ⊠ ⊟ b
            sign a b = ring L (a ∷ b ∷ []) (search reads depth 16) refl
        further k z (same m n x w e h) = same (suc k) s (ι.on (step k c) ⊠ x) (ι.on (step k c) ⊠ w) (mul_cong rfl e) (further k x h)

        reach_up : (k : ℕ) → Within (suc k) s (ι.on (below R σ (suc k) c) ⊠ place 0)
        reach_up zero =
            same 1 s (ι.on (step 0 c) ⊠ place 0) (ι.on (below R σ 1 c) ⊠ place 0) (mul_cong (ι.on_cong c (below R σ 1 c) (R.symm (one_factor c))) rfl) (first_within 0)
        reach_up (suc k) =
            same (suc (suc k)) s (ι.on (step (suc k) c) ⊠ (ι.on (below R σ (suc k) c) ⊠ place 0)) (ι.on (below R σ (suc (suc k)) c) ⊠ place 0)
            (trans (symm mul_assoc) (mul_cong (trans (symm (ι.on-mul (step (suc k) c) (below R σ (suc k) c)))
            (ι.on_cong (R.◌⊠◌ (step (suc k) c) (below R σ (suc k) c)) (below R σ (suc (suc k)) c) (R.trans R.mul_comm (R.symm (below-last R σ (suc k) c))))) rfl))
            (further (suc k) (ι.on (below R σ (suc k) c) ⊠ place 0) (reach_up k))

        pub unrolled_up : (m : ℕ) → Divides R q (R.◌⊠◌ (iter R σ (suc m) (below R σ (length rest) q)) (below R σ (suc m) c))
        unrolled_up m = divides 0 (suc m) s (below R σ (suc m) c) (reach_up m)

      -- ---- Down

      module _ (front : List R.A) (a f : R.A) (equation : total 0 (front ++ a ∷ []) 0 ≈ ι.on f) where
        abbrev s' : ℕ
        s' = length front

        total-last : (k : ℕ) (cs : List R.A) (j t : ℕ) → t ≡ j + length cs → total k (cs ++ a ∷ []) j ≈ total k cs j ⊞ ι.on (step k a) ⊠ place t
        total-last k [] j t e = trans (subst (λ (i : ℕ). ι.on (step k a) ⊠ place i ⊞ O ≈ ι.on (step k a) ⊠ place t ⊞ O) (let z : t ≡ j = omega (arith, e) in z) rfl) L.add_comm
        total-last k (c ∷ cs) j t e = trans (add_cong rfl (total-last k cs (suc j) t (omega (arith, e)))) (symm L.add_assoc)

        last_is : (k : ℕ) → ι.on (step k a) ⊠ place (s' + k) ≈ ι.on (step k f) ⊞ ⊟ (total k front k)
        last_is k =
            solved (ι.on (step k a) ⊠ place (s' + k)) (total k front k) (ι.on (step k f))
            (trans L.add_comm (trans (symm (total-last k front k (s' + k) (omega arith))) (equation-at (front ++ a ∷ []) f equation k)))

        -- what a product of k images takes of the combination's images
        abbrev Reached : ℕ → ℕ → Type 0
        Reached k t = Within 0 s' (ι.on (below R σ k a) ⊠ place t)

        times : (k : ℕ) → ((t : ℕ) → t < s' + k → Reached k t) → (cs : List R.A) (j : ℕ) → j + length cs ≤ s' + k
            → Within 0 s' (ι.on (below R σ k a) ⊠ total k cs j)
        times k again [] j u = same 0 s' (ι.on R.O) (ι.on (below R σ k a) ⊠ O) (trans (on-O R L ι) (nothing (ι.on (below R σ k a)))) (number 0 s' R.O)
          where
            nothing : (x : L.A) → O ≈ x ⊠ O
            nothing x = ring L (x ∷ []) (search reads depth 12) refl
        times k again (c ∷ cs) j u =
            same 0 s' (ι.on (step k c) ⊠ (ι.on (below R σ k a) ⊠ place j) ⊞ ι.on (below R σ k a) ⊠ total k cs (suc j)) (ι.on (below R σ k a) ⊠ total k (c ∷ cs) j)
            (regroup (ι.on (step k c)) (ι.on (below R σ k a)) (place j) (total k cs (suc j)))
            (added 0 s' (ι.on (step k c) ⊠ (ι.on (below R σ k a) ⊠ place j)) (ι.on (below R σ k a) ⊠ total k cs (suc j))
            (scaled 0 s' (step k c) (ι.on (below R σ k a) ⊠ place j) (again j (omega (arith, u)))) (times k again cs (suc j) (omega (arith, u))))
          where
            regroup : (c b x t : L.A) → c ⊠ (b ⊠ x) ⊞ b ⊠ t ≈ b ⊠ (c ⊠ x ⊞ t)
            regroup c b x t = ring L (c ∷ b ∷ x ∷ t ∷ []) (search reads depth 16) refl

        below_or : (t n : ℕ) → t < suc n → (t < n) ⊎ (t ≡ n)
        below_or t n l = grind (arith, l)

        reach_down : (k t : ℕ) → t < s' + k → Reached k t
        reach_down zero t l =
            same 0 s' (place t) (ι.on R.I ⊠ place t) (symm (trans (mul_cong ι.on-one rfl) (trans mul_comm mul_I))) (placed 0 s' t (omega arith) (omega (arith, l)))
        reach_down (suc k) t l = go (reach_down k) (below_or t (s' + k) (omega (arith, l)))
          where
            one_more : (x : L.A) → ι.on (step k a) ⊠ (ι.on (below R σ k a) ⊠ x) ≈ ι.on (below R σ (suc k) a) ⊠ x
            one_more x = trans (symm mul_assoc) (mul_cong (trans (symm (ι.on-mul (step k a) (below R σ k a)))
                (ι.on_cong (R.◌⊠◌ (step k a) (below R σ k a)) (below R σ (suc k) a) (R.trans R.mul_comm (R.symm (below-last R σ k a))))) rfl)

            swap : (x y z : L.A) → x ⊠ (y ⊠ z) ≈ y ⊠ (x ⊠ z)
            swap x y z = ring L (x ∷ y ∷ z ∷ []) (search reads depth 16) refl

            spread : (b e t : L.A) → b ⊠ e ⊞ ⊟ (b ⊠ t) ≈ b ⊠ (e ⊞ ⊟ t)
            spread b e t = ring L (b ∷ e ∷ t ∷ []) (search reads depth 16) refl

            go : ((t : ℕ) → t < s' + k → Reached k t) → (t < s' + k) ⊎ (t ≡ s' + k) → Reached (suc k) t
            go again (inl h) =
                same 0 s' (ι.on (step k a) ⊠ (ι.on (below R σ k a) ⊠ place t)) (ι.on (below R σ (suc k) a) ⊠ place t) (one_more (place t))
                (scaled 0 s' (step k a) (ι.on (below R σ k a) ⊠ place t) (again t h))
            go again (inr e) =
                same 0 s' (ι.on (R.◌⊠◌ (below R σ k a) (step k f)) ⊞ ⊟ (ι.on (below R σ k a) ⊠ total k front k)) (ι.on (below R σ (suc k) a) ⊠ place t)
                (trans (add_cong (ι.on-mul (below R σ k a) (step k f)) rfl) (trans (spread (ι.on (below R σ k a)) (ι.on (step k f)) (total k front k))
                (trans (mul_cong rfl (symm (last_is k))) (trans (swap (ι.on (below R σ k a)) (ι.on (step k a)) (place (s' + k)))
                (subst (λ (i : ℕ). ι.on (step k a) ⊠ (ι.on (below R σ k a) ⊠ place (s' + k)) ≈ ι.on (below R σ (suc k) a) ⊠ place i) (sym e) (one_more (place (s' + k))))))))
                (added 0 s' (ι.on (R.◌⊠◌ (below R σ k a) (step k f))) (⊟ (ι.on (below R σ k a) ⊠ total k front k)) (number 0 s' (R.◌⊠◌ (below R σ k a) (step k f)))
                (negated 0 s' (ι.on (below R σ k a) ⊠ total k front k) (times k again front k (omega arith))))

        pub unrolled_down : (m : ℕ) → Divides R (iter R σ (length front + m) q) (R.◌⊠◌ (below R σ (length front) q) (below R σ (suc m) a))
        unrolled_down m = divides (s' + m) 0 s' (below R σ (suc m) a) (reach_down (suc m) (s' + m) (omega arith))
