-- Sums of lists of terms, and lists in descending order.
use Rattle.std.proofs.Common.{◌≡◌, ℕ, zero, suc, ◌+◌, ◌<◌, refl, sym, ap, ◌∙◌, subst, List, [], ◌∷◌, ◌++◌, take, drop, length, get_or, reverse, ℤ, arith}
use Rattle.sg_algebra.specs.Ring.{Ring}
use Rattle.sg_algebra.specs.Coefficients.{Each}
use Rattle.sg_algebra.proofs.Solver.{by, reads}
use Rattle.sg_algebra.proofs.Value.{Value, zero_value, ◌+ᵛ◌}
use Rattle.sg_algebra.proofs.ValueField.{ValueF}
use Rattle.sg_tower_theory.proofs.Flat.{IsAfter}
use Rattle.sg_tower_theory.proofs.Products.{LaurentsR}
use Rattle.sg_tower_theory.proofs.ProductSlices.{monomial-add, monomial-none}
use Rattle.sg_tower_theory.proofs.Monomials.{one_term, one_term-is, exponents_of, meaning-append}
use Rattle.sg_laurent.specs.declared.terms.Term.{Term}
use Rattle.sg_laurent.specs.Elements.{exponents, IsLater, IsDescending, Same, Sum, element, term_in, coefficient_of, IsNormal}
use Rattle.sg_laurent.proofs.Comparing.{after_trans, after_total}

-- ---- Lists in two parts

pub each_both : {A : Type 0} (P : A → Type 0) (xs ys : List A) → Each P xs → Each P ys → Each P (xs ++ ys)
each_both P [] ys h k = k
each_both P (x ∷ xs) ys h k = (h.0, each_both P xs ys h.1 k)

pub each_front : {A : Type 0} (P : A → Type 0) (n : ℕ) (xs : List A) → Each P xs → Each P (take n xs)
each_front P zero xs h = tt
each_front P (suc n) [] h = tt
each_front P (suc n) (x ∷ xs) h = (h.0, each_front P n xs h.1)

pub each_back : {A : Type 0} (P : A → Type 0) (n : ℕ) (xs : List A) → Each P xs → Each P (drop n xs)
each_back P zero xs h = h
each_back P (suc n) [] h = tt
each_back P (suc n) (x ∷ xs) h = each_back P n xs h.1

pub each_at : {A : Type 0} (P : A → Type 0) (xs : List A) (i : ℕ) (x : A) → i < length xs → x ≡ get_or xs i x → Each P xs → P x
each_at P [] i x l e h = absurd (omega arith)
each_at P (y ∷ xs) zero x l e h = subst P (sym e) h.0
each_at P (y ∷ xs) (suc i) x l e h = each_at P xs i x (omega arith) e h.1

pub each_more : {A : Type 0} (P : A → Type 0) (xs : List A) (i : ℕ) (x : A) → i < length xs → x ≡ get_or xs i x → Each P (take i xs) → P x → Each P (take (i + 1) xs)
each_more P xs i x l e h p = let q : i + 1 ≡ suc i = omega arith in rw q (go xs i l e h)
  where
    go : (xs : List _) (i : ℕ) → i < length xs → x ≡ get_or xs i x → Each P (take i xs) → Each P (take (suc i) xs)
    go [] i l e h = absurd (omega arith)
    go (y ∷ xs) zero l e h = (subst P e p, tt)
    go (y ∷ xs) (suc i) l e h = (h.0, go xs i (omega arith) e h.1)

pub parted : {A : Type 0} (n : ℕ) (xs : List A) → take n xs ++ drop n xs ≡ xs
parted zero xs = refl
parted (suc n) [] = refl
parted (suc n) (x ∷ xs) = ap (λ r. x ∷ r) (parted n xs)

pub parted_at : {A : Type 0} (n : ℕ) (xs : List A) (x : A) → n < length xs → x ≡ get_or xs n x → take n xs ++ (x ∷ drop (suc n) xs) ≡ xs
parted_at n [] x l e = absurd (omega arith)
parted_at zero (y ∷ xs) x l e = ap (λ z. z ∷ xs) e
parted_at (suc n) (y ∷ xs) x l e = ap (λ r. y ∷ r) (parted_at n xs x (omega arith) e)

-- ---- Descending lists

module _ {K : Type 0} where
  pub descending_both : (xs ys : List (Term K)) → IsDescending xs → IsDescending ys → Each (λ x. Each (IsLater x) ys) xs → IsDescending (xs ++ ys)
  descending_both [] ys h k a = k
  descending_both (x ∷ xs) ys h k a = (each_both (IsLater x) xs ys h.0 a.0, descending_both xs ys h.1 k a.1)

  pub descending_front : (xs ys : List (Term K)) → IsDescending (xs ++ ys) → IsDescending xs
  descending_front [] ys h = tt
  descending_front (x ∷ xs) ys h = (front xs h.0, descending_front xs ys h.1)
    where
      front : (xs : List (Term K)) → Each (IsLater x) (xs ++ ys) → Each (IsLater x) xs
      front [] h = tt
      front (z ∷ xs) h = (h.0, front xs h.1)

  pub descending_back : (xs ys : List (Term K)) → IsDescending (xs ++ ys) → IsDescending ys
  descending_back [] ys h = h
  descending_back (x ∷ xs) ys h = descending_back xs ys h.1

  pub descending_across : (xs ys : List (Term K)) → IsDescending (xs ++ ys) → Each (λ x. Each (IsLater x) ys) xs
  descending_across [] ys h = tt
  descending_across (x ∷ xs) ys h = (back xs h.0, descending_across xs ys h.1)
    where
      back : (xs : List (Term K)) → Each (IsLater x) (xs ++ ys) → Each (IsLater x) ys
      back [] h = h
      back (z ∷ xs) h = back xs h.1

  -- what stands behind a place whose term doesn't come after t, nor has its exponents
  pub later_back : (n : ℕ) (ts : List (Term K)) (p : ℕ) (t : Term K) → Each (λ s. length (exponents s) ≡ n) ts → length (exponents t) ≡ n → IsDescending ts
      → (p < length ts → (s : Term K) → s ≡ get_or ts p s → ¬ IsLater s t) → (p < length ts → (s : Term K) → s ≡ get_or ts p s → ¬ (exponents s ≡ exponents t)) → Each (IsLater t) (drop p ts)
  later_back n [] zero t f l h a b = tt
  later_back n [] (suc p) t f l h a b = tt
  later_back n (s ∷ ts) zero t f l h a b = (first, rest ts h.0)
    where
      same_reverse : reverse (exponents s) ≡ reverse (exponents t) → exponents s ≡ exponents t
      same_reverse e = sym (Rattle.std.proofs.lemmas.List.reverse-reverse (exponents s)) ∙ ap reverse e ∙ Rattle.std.proofs.lemmas.List.reverse-reverse (exponents t)

      first : IsLater t s
      first = after_total (reverse (exponents s)) (reverse (exponents t)) (Rattle.std.proofs.lemmas.List.length-reverse (exponents s) ∙ f.0 ∙ sym l ∙ sym (Rattle.std.proofs.lemmas.List.length-reverse (exponents t))) (a (omega arith) s refl) (λ e. b (omega arith) s refl (same_reverse e))

      rest : (ts : List (Term K)) → Each (IsLater s) ts → Each (IsLater t) ts
      rest [] h = tt
      rest (r ∷ ts) h = (after_trans (reverse (exponents t)) (reverse (exponents s)) (reverse (exponents r)) first h.0, rest ts h.1)
  later_back n (s ∷ ts) (suc p) t f l h a b = later_back n ts p t f.1 l h.1 (λ k. a (omega arith)) (λ k. b (omega arith))

-- ---- Elements

module _ {K : Type 0} {d : ℕ} (v : K → Value d) (n : ℕ) where
  abbrev S : Ring
  S = LaurentsR (ValueF d) n

  -- terms with the same exponents
  pub term-add : (es : List ℤ) (a b c : Value d) → length es ≡ n → c ≡ a +ᵛ b → Same v n (one_term (ValueF d) n es c) (Sum v n (one_term (ValueF d) n es a) (one_term (ValueF d) n es b))
  term-add es a b c l e = go (exponents_of (ValueF d) n es l)
    where
      go : (x : Rattle.sg_tower_theory.proofs.Products.Exponents n) × (es ≡ Rattle.sg_tower_theory.proofs.Products.listed n x) → Same v n (one_term (ValueF d) n es c) (Sum v n (one_term (ValueF d) n es a) (one_term (ValueF d) n es b))
      go r = rw (e, r.1, one_term-is (ValueF d) n r.0 (a +ᵛ b), one_term-is (ValueF d) n r.0 a, one_term-is (ValueF d) n r.0 b) (monomial-add (ValueF d) n r.0 a b)

  pub term-none : (es : List ℤ) (c : Value d) → length es ≡ n → c ≡ zero_value → Same v n (one_term (ValueF d) n es c) S.O
  term-none es c l e = go (exponents_of (ValueF d) n es l)
    where
      go : (x : Rattle.sg_tower_theory.proofs.Products.Exponents n) × (es ≡ Rattle.sg_tower_theory.proofs.Products.listed n x) → Same v n (one_term (ValueF d) n es c) S.O
      go r = rw (e, r.1, one_term-is (ValueF d) n r.0 zero_value) (monomial-none (ValueF d) n r.0)

  append : (xs ys : List (Term K)) → Same v n (element v n (xs ++ ys)) (Sum v n (element v n xs) (element v n ys))
  append xs ys = meaning-append (ValueF d) exponents (coefficient_of v) n xs ys

  regroup : (a b t : S.A) → Same v n (Sum v n a (Sum v n t b)) (Sum v n (Sum v n a b) t)
  regroup a b t = by S (a ∷ b ∷ t ∷ []) (S.rfl {x = S.O}) (search reads depth 16) refl

  pub nothing_more : (ts : List (Term K)) (t : Term K) → length (exponents t) ≡ n → v t.coeff ≡ zero_value → Same v n (element v n ts) (Sum v n (element v n ts) (term_in v n t))
  nothing_more ts t l z = S.symm (S.trans (S.add_cong (S.rfl {x = element v n ts}) (term-none (exponents t) (v t.coeff) l z)) S.add_O)

  -- one term put between others
  pub put_between : (xs ys : List (Term K)) (t : Term K) → Same v n (element v n (xs ++ t ∷ ys)) (Sum v n (element v n (xs ++ ys)) (term_in v n t))
  put_between xs ys t = S.trans (append xs (t ∷ ys)) (S.trans (regroup (element v n xs) (element v n ys) (term_in v n t)) (S.add_cong (S.symm (append xs ys)) S.rfl))

  -- ---- What one more term does to a normal list

  pub insert_value : (ts rs : List (Term K)) (p : ℕ) (t : Term K) → rs ≡ take p ts ++ t ∷ drop p ts → Same v n (element v n rs) (Sum v n (element v n ts) (term_in v n t))
  insert_value ts rs p t e = rw e (S.trans (put_between (take p ts) (drop p ts) t) (subst (λ (z : List (Term K)). Same v n (Sum v n (element v n (take p ts ++ drop p ts)) (term_in v n t)) (Sum v n (element v n z) (term_in v n t))) (parted p ts) S.rfl))

  pub insert_normal : (ts rs : List (Term K)) (p : ℕ) (t : Term K) → rs ≡ take p ts ++ t ∷ drop p ts → IsNormal v n ts → length (exponents t) ≡ n → ¬ (v t.coeff ≡ zero_value)
      → Each (λ s. IsLater s t) (take p ts) → Each (IsLater t) (drop p ts) → IsNormal v n rs
  insert_normal ts rs p t e k l z a b = rw e (record {
    fit = each_both (λ t. length (exponents t) ≡ n) (take p ts) (t ∷ drop p ts) (each_front (λ t. length (exponents t) ≡ n) p ts k.fit) (l, each_back (λ t. length (exponents t) ≡ n) p ts k.fit);
    some = each_both (λ t. ¬ (coefficient_of v t ≡ zero_value)) (take p ts) (t ∷ drop p ts) (each_front (λ t. ¬ (coefficient_of v t ≡ zero_value)) p ts k.some) (z, each_back (λ t. ¬ (coefficient_of v t ≡ zero_value)) p ts k.some);
    descending = descending_both (take p ts) (t ∷ drop p ts) (descending_front (take p ts) (drop p ts) whole) (b, descending_back (take p ts) (drop p ts) whole) (with_one (take p ts) a (descending_across (take p ts) (drop p ts) whole));
  })
    where
      whole : IsDescending (take p ts ++ drop p ts)
      whole = rw (parted p ts) k.descending

      with_one : (xs : List (Term K)) → Each (λ s. IsLater s t) xs → Each (λ s. Each (IsLater s) (drop p ts)) xs → Each (λ s. Each (IsLater s) (t ∷ drop p ts)) xs
      with_one [] a c = tt
      with_one (x ∷ xs) a c = ((a.0, c.0), with_one xs a.1 c.1)

  module _ (ts : List (Term K)) (p : ℕ) (s t : Term K) (inside : p < length ts) (at : s ≡ get_or ts p s) (same : exponents s ≡ exponents t) (k : IsNormal v n ts) where
    whole : take p ts ++ (s ∷ drop (suc p) ts) ≡ ts
    whole = parted_at p ts s inside at

    descends : IsDescending (take p ts ++ (s ∷ drop (suc p) ts))
    descends = rw whole k.descending

    fits : length (exponents s) ≡ n
    fits = each_at (λ t. length (exponents t) ≡ n) ts p s inside at k.fit

    all : Same v n (element v n ts) (Sum v n (element v n (take p ts ++ drop (suc p) ts)) (term_in v n s))
    all = subst (λ (z : List (Term K)). Same v n (element v n z) (Sum v n (element v n (take p ts ++ drop (suc p) ts)) (term_in v n s))) whole (put_between (take p ts) (drop (suc p) ts) s)

    pub replace_value : (r : Term K) (rs : List (Term K)) → exponents r ≡ exponents t → v r.coeff ≡ v s.coeff +ᵛ v t.coeff → rs ≡ take p ts ++ (r ∷ drop (suc p) ts) → Same v n (element v n rs) (Sum v n (element v n ts) (term_in v n t))
    replace_value r rs e c q = rw q (S.trans (put_between (take p ts) (drop (suc p) ts) r) (S.trans (S.add_cong (S.rfl {x = element v n (take p ts ++ drop (suc p) ts)}) sum) (S.trans (S.symm S.add_assoc) (S.add_cong (S.symm all) S.rfl))))
      where
        sum : Same v n (term_in v n r) (Sum v n (term_in v n s) (term_in v n t))
        sum = rw (e, same) (term-add (exponents t) (v s.coeff) (v t.coeff) (v r.coeff) (ap length (sym same) ∙ fits) c)

    pub remove_value : (rs : List (Term K)) (c : Value d) → c ≡ v s.coeff +ᵛ v t.coeff → c ≡ zero_value → rs ≡ take p ts ++ drop (suc p) ts → Same v n (element v n rs) (Sum v n (element v n ts) (term_in v n t))
    remove_value rs c e z q = rw q (S.symm (S.trans (S.add_cong all S.rfl) (S.trans S.add_assoc (S.trans (S.add_cong (S.rfl {x = element v n (take p ts ++ drop (suc p) ts)}) sum) S.add_O))))
      where
        sum : Same v n (Sum v n (term_in v n s) (term_in v n t)) S.O
        sum = rw same (S.trans (S.symm (term-add (exponents t) (v s.coeff) (v t.coeff) c (ap length (sym same) ∙ fits) e)) (term-none (exponents t) c (ap length (sym same) ∙ fits) z))

    pub replace_normal : (r : Term K) (rs : List (Term K)) → exponents r ≡ exponents t → ¬ (v r.coeff ≡ zero_value) → rs ≡ take p ts ++ (r ∷ drop (suc p) ts) → IsNormal v n rs
    replace_normal r rs e z q = rw q (record {
      fit = each_both (λ t. length (exponents t) ≡ n) (take p ts) (r ∷ drop (suc p) ts) (each_front (λ t. length (exponents t) ≡ n) p ts k.fit) (ap length (e ∙ sym same) ∙ fits, each_back (λ t. length (exponents t) ≡ n) (suc p) ts k.fit);
      some = each_both (λ t. ¬ (coefficient_of v t ≡ zero_value)) (take p ts) (r ∷ drop (suc p) ts) (each_front (λ t. ¬ (coefficient_of v t ≡ zero_value)) p ts k.some) (z, each_back (λ t. ¬ (coefficient_of v t ≡ zero_value)) (suc p) ts k.some);
      descending = descending_both (take p ts) (r ∷ drop (suc p) ts) (descending_front (take p ts) (s ∷ drop (suc p) ts) descends) (later (descending_back (take p ts) (s ∷ drop (suc p) ts) descends)) (earlier (take p ts) (descending_across (take p ts) (s ∷ drop (suc p) ts) descends));
    })
      where
        alike : exponents r ≡ exponents s
        alike = e ∙ sym same

        later : IsDescending (s ∷ drop (suc p) ts) → IsDescending (r ∷ drop (suc p) ts)
        later h = (subst (λ (es : List ℤ). Each (λ u. IsAfter (reverse es) (reverse (exponents u))) (drop (suc p) ts)) (sym alike) h.0, h.1)

        earlier : (xs : List (Term K)) → Each (λ x. Each (IsLater x) (s ∷ drop (suc p) ts)) xs → Each (λ x. Each (IsLater x) (r ∷ drop (suc p) ts)) xs
        earlier [] h = tt
        earlier (x ∷ xs) h = ((subst (λ (es : List ℤ). IsAfter (reverse (exponents x)) (reverse es)) (sym alike) h.0.0, h.0.1), earlier xs h.1)

    pub remove_normal : (rs : List (Term K)) → rs ≡ take p ts ++ drop (suc p) ts → IsNormal v n rs
    remove_normal rs q = rw q (record {
      fit = each_both (λ t. length (exponents t) ≡ n) (take p ts) (drop (suc p) ts) (each_front (λ t. length (exponents t) ≡ n) p ts k.fit) (each_back (λ t. length (exponents t) ≡ n) (suc p) ts k.fit);
      some = each_both (λ t. ¬ (coefficient_of v t ≡ zero_value)) (take p ts) (drop (suc p) ts) (each_front (λ t. ¬ (coefficient_of v t ≡ zero_value)) p ts k.some) (each_back (λ t. ¬ (coefficient_of v t ≡ zero_value)) (suc p) ts k.some);
      descending = descending_both (take p ts) (drop (suc p) ts) (descending_front (take p ts) (s ∷ drop (suc p) ts) descends) (descending_back (take p ts) (s ∷ drop (suc p) ts) descends).1 (earlier (take p ts) (descending_across (take p ts) (s ∷ drop (suc p) ts) descends));
    })
      where
        earlier : (xs : List (Term K)) → Each (λ x. Each (IsLater x) (s ∷ drop (suc p) ts)) xs → Each (λ x. Each (IsLater x) (drop (suc p) ts)) xs
        earlier [] h = tt
        earlier (x ∷ xs) h = (h.0.1, earlier xs h.1)
