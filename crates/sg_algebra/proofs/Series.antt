-- The ring of power series: functions from places to coefficients.
--   series_mul f g       the product, by (f₀ + t f') g = f₀ g + t (f' g)
--   series_one           1, 0, 0, ..
--   Agree, SeriesR       equal at every place; the ring
--   series_mul_cong, -add, add-, scale-, -last, _comm, _assoc, -one    the laws of the product
--   O-series_mul         the product with the zero series
--   product_top, product_past    of two series that end, the product's last coefficient, and that it ends
use Rattle.std.proofs.Common.{ℕ, zero, suc, ◌+◌, ◌<◌, zero-add, suc-add, arith}
use Rattle.sg_algebra.specs.Ring.{Ring}
use Rattle.sg_algebra.proofs.Ring.{add4, O_add, O_mul, mul_O, distrib_right}

module _ (R : Ring) where
  open R use {A, ◌≈◌, ◌⊞◌, ◌⊠◌, ⊟, O, I, rfl, symm, trans, add_cong, mul_cong, neg_cong, add_assoc, add_comm, add_O, add_neg, mul_assoc, mul_comm, mul_I, distrib}

  abbrev pub series_mul : (ℕ → A) → (ℕ → A) → ℕ → A
  series_mul f g zero = f 0 ⊠ g 0
  series_mul f g (suc n) = f 0 ⊠ g (suc n) ⊞ series_mul (λ i. f (suc i)) g n

  abbrev pub series_one : ℕ → A
  series_one zero = I
  series_one (suc n) = O

  pub record Agree (f g : ℕ → A) : Type 0 where
    pub at : (n : ℕ) → f n ≈ g n

  pub series_mul_cong : (f f' g g' : ℕ → A) → ((n : ℕ) → f n ≈ f' n) → ((n : ℕ) → g n ≈ g' n) → (n : ℕ) → series_mul f g n ≈ series_mul f' g' n
  series_mul_cong f f' g g' h j zero = mul_cong (h 0) (j 0)
  series_mul_cong f f' g g' h j (suc n) = add_cong (mul_cong (h 0) (j (suc n))) (series_mul_cong (λ i. f (suc i)) (λ i. f' (suc i)) g g' (λ i. h (suc i)) j n)

  pub series_mul-add : (f g h : ℕ → A) (n : ℕ) → series_mul f (λ i. g i ⊞ h i) n ≈ series_mul f g n ⊞ series_mul f h n
  series_mul-add f g h zero = distrib
  series_mul-add f g h (suc n) = trans (add_cong distrib (series_mul-add (λ i. f (suc i)) g h n)) (add4 R)

  pub add-series_mul : (f g h : ℕ → A) (n : ℕ) → series_mul (λ i. f i ⊞ g i) h n ≈ series_mul f h n ⊞ series_mul g h n
  add-series_mul f g h zero = distrib_right R
  add-series_mul f g h (suc n) = trans (add_cong (distrib_right R) (add-series_mul (λ i. f (suc i)) (λ i. g (suc i)) h n)) (add4 R)

  pub scale-series_mul : (c : A) (f g : ℕ → A) (n : ℕ) → series_mul (λ i. c ⊠ f i) g n ≈ c ⊠ series_mul f g n
  scale-series_mul c f g zero = mul_assoc
  scale-series_mul c f g (suc n) = trans (add_cong mul_assoc (scale-series_mul c (λ i. f (suc i)) g n)) (symm distrib)

  pub series_mul-last : (f g : ℕ → A) (n : ℕ) → series_mul f g (suc n) ≈ series_mul f (λ i. g (suc i)) n ⊞ f (suc n) ⊠ g 0
  series_mul-last f g zero = rfl
  series_mul-last f g (suc n) = trans (add_cong rfl (series_mul-last (λ i. f (suc i)) g n)) (symm add_assoc)

  pub series_mul_comm : (f g : ℕ → A) (n : ℕ) → series_mul f g n ≈ series_mul g f n
  series_mul_comm f g zero = mul_comm
  series_mul_comm f g (suc n) = trans add_comm (trans (add_cong (series_mul_comm (λ i. f (suc i)) g n) mul_comm) (symm (series_mul-last g f n)))

  pub series_mul_assoc : (f g h : ℕ → A) (n : ℕ) → series_mul (series_mul f g) h n ≈ series_mul f (series_mul g h) n
  series_mul_assoc f g h zero = mul_assoc
  series_mul_assoc f g h (suc n) =
      trans (add_cong mul_assoc (trans (add-series_mul (λ i. f 0 ⊠ g (suc i)) (series_mul (λ i. f (suc i)) g) h n)
      (add_cong (scale-series_mul (f 0) (λ i. g (suc i)) h n) (series_mul_assoc (λ i. f (suc i)) g h n))))
      (trans (symm add_assoc) (add_cong (symm distrib) rfl))

  pub series_mul-one : (f : ℕ → A) (n : ℕ) → series_mul f series_one n ≈ f n
  series_mul-one f zero = mul_I
  series_mul-one f (suc n) = trans (add_cong (mul_O R) (series_mul-one (λ i. f (suc i)) n)) (O_add R)

  abbrev pub SeriesR : Ring
  SeriesR = record {
    A = ℕ → A;
    ◌≈◌ = Agree;
    ◌⊞◌ = λ f g n. f n ⊞ g n;
    ◌⊠◌ = series_mul;
    ⊟ = λ f n. ⊟ (f n);
    O = λ n. O;
    I = series_one;
    rfl = record { at = λ n. rfl };
    symm = λ h. record { at = λ n. symm (h.at n) };
    trans = λ h j. record { at = λ n. trans (h.at n) (j.at n) };
    add_cong = λ h j. record { at = λ n. add_cong (h.at n) (j.at n) };
    mul_cong = λ {x} {y} {u} {v} h j. record { at = series_mul_cong x y u v h.at j.at };
    neg_cong = λ h. record { at = λ n. neg_cong (h.at n) };
    add_assoc = record { at = λ n. add_assoc };
    add_comm = record { at = λ n. add_comm };
    add_O = record { at = λ n. add_O };
    add_neg = record { at = λ n. add_neg };
    mul_assoc = λ {x} {y} {z}. record { at = series_mul_assoc x y z };
    mul_comm = λ {x} {y}. record { at = series_mul_comm x y };
    mul_I = λ {x}. record { at = series_mul-one x };
    distrib = λ {x} {y} {z}. record { at = series_mul-add x y z };
  }

  pub O-series_mul : (g : ℕ → A) (n : ℕ) → series_mul (λ i. O) g n ≈ O
  O-series_mul g zero = O_mul R
  O-series_mul g (suc n) = trans (add_cong (O_mul R) (O-series_mul g n)) add_O

  -- ---- Series that end

  -- no coefficient after n
  abbrev pub Ends : ℕ → (ℕ → A) → Type 0
  Ends n f = (i : ℕ) → n < i → f i ≈ O

  -- only the first coefficient of f is left
  pub constant-series_mul : (f g : ℕ → A) (n : ℕ) → Ends 0 f → series_mul f g n ≈ f 0 ⊠ g n
  constant-series_mul f g zero h = rfl
  constant-series_mul f g (suc n) h = trans (add_cong rfl (trans (series_mul_cong (λ i. f (suc i)) (λ i. O) g g (λ i. h (suc i) (omega arith)) (λ i. rfl) n) (O-series_mul g n))) add_O

  pub product_top : (m n : ℕ) (f g : ℕ → A) → Ends m f → Ends n g → series_mul f g (m + n) ≈ f m ⊠ g n
  product_top zero n f g h k = rw zero-add (constant-series_mul f g n h)
  product_top (suc m) n f g h k = rw suc-add
      (trans (add_cong (trans (mul_cong rfl (k (suc (m + n)) (omega arith))) (mul_O R)) (product_top m n (λ i. f (suc i)) g (λ i l. h (suc i) (omega arith)) k)) (O_add R))

  pub product_past : (m n : ℕ) (f g : ℕ → A) → Ends m f → Ends n g → Ends (m + n) (series_mul f g)
  product_past m n f g h k i l = go m f h i l
    where
      go : (m : ℕ) (f : ℕ → A) → ((i : ℕ) → m < i → f i ≈ O) → (i : ℕ) → m + n < i → series_mul f g i ≈ O
      go m f h zero l = absurd (omega arith)
      go zero f h (suc i) l = trans (constant-series_mul f g (suc i) h) (trans (mul_cong rfl (k (suc i) (omega arith))) (mul_O R))
      go (suc m) f h (suc i) l = trans (add_cong (trans (mul_cong rfl (k (suc i) (omega arith))) (mul_O R)) (go m (λ i. f (suc i)) (λ i l. h (suc i) (omega arith)) i (omega arith))) add_O
