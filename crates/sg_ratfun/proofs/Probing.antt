-- A probe of a list of fractions of polynomials.
--   pairwise_length, pairwise_push     as many; one pair more
--   pairwise_map, map_pairwise         pairwise with a list mapped
--   moved_over        an item goes from the front of one list to the end of another; put_behind: items behind a row
--   Known v args c r  c has the value r at args
--   room, rest_known  the values of an item's coefficients are there, and then those of the items behind
--   item_has, item_nonzero    a fraction has the quotient of the values of its parts, which isn't 0 where it is tested
--   items_push, items_probe   one item more; what is to be answered
use Rattle.std.proofs.Common.{◌≡◌, ◌≢◌, ℕ, zero, suc, ◌+◌, ◌<◌, ◌≤◌, refl, sym, ◌∙◌, ap, List, [], ◌∷◌, ◌++◌, map, length, take, drop, get_or, ℤ, append_assoc, append-nil, add-one, pos, Bool, true, false, IsTrue, ◌↔◌, ◌-◌, rules, arith}
use Rattle.std.proofs.lemmas.List.{drop_more, length-drop, length-append, map-append}
use Rattle.sg_algebra.specs.Coefficients.{eval}
use Rattle.sg_algebra.proofs.Value.{Value, over_value, zero_value, ◌/ᵛ◌}
use Rattle.sg_algebra.proofs.ValueField.{ValueR}
use Rattle.sg_algebra.proofs.Rational.{whole_value}
use Rattle.sg_algebra.proofs.Lists.{length_map}
use Rattle.sg_algebra.proofs.Place.{Pairwise, HasValue}
use Rattle.sg_algebra.proofs.Places.{pairwise_left, pairwise_right}
use Rattle.sg_algebra.proofs.Polynomial.{poly, zero_polynomial}
use Rattle.sg_poly.proofs.Dividers.{monic_some}
use Rattle.sg_ratfun.specs.Reduced.{IsReduced}
use Rattle.sg_ratfun.proofs.Quotients.{over_zero}
use Rattle.sg_num.specs.Value.{number}
use Rattle.sg_num.specs.Probe.{IsProbe}
use Rattle.sg_num.specs.declared.rat.Rat.{Rat}
use Rattle.sg_ratfun.specs.Gathered.{coefficients, ItemsAt}

module _ {A B : Type 0} (R : A → B → Type 0) where
  pub pairwise_length : (xs : List A) (vs : List B) → Pairwise R xs vs → length xs ≡ length vs
  pairwise_length [] [] p = refl
  pairwise_length [] (v ∷ vs) p = absurd p
  pairwise_length (x ∷ xs) [] p = absurd p
  pairwise_length (x ∷ xs) (v ∷ vs) p = ap suc (pairwise_length xs vs p.1)

  pub pairwise_push : (xs : List A) (vs : List B) (x : A) (v : B) → Pairwise R xs vs → R x v → Pairwise R (xs ++ x ∷ []) (vs ++ v ∷ [])
  pairwise_push [] [] x v p r = (r, tt)
  pairwise_push [] (w ∷ vs) x v p r = absurd p
  pairwise_push (y ∷ xs) [] x v p r = absurd p
  pairwise_push (y ∷ xs) (w ∷ vs) x v p r = (p.0, pairwise_push xs vs x v p.1 r)

  pub pairwise_to : (S : A → B → Type 0) → ((x : A) (v : B) → R x v → S x v) → (xs : List A) (vs : List B) → Pairwise R xs vs → Pairwise S xs vs
  pairwise_to S h [] [] p = tt
  pairwise_to S h [] (v ∷ vs) p = absurd p
  pairwise_to S h (x ∷ xs) [] p = absurd p
  pairwise_to S h (x ∷ xs) (v ∷ vs) p = (h x v p.0, pairwise_to S h xs vs p.1)

  pub pairwise_map : {C : Type 0} (f : C → A) (xs : List C) (vs : List B) → Pairwise (λ x v. R (f x) v) xs vs → Pairwise R (map f xs) vs
  pairwise_map f [] [] p = tt
  pairwise_map f [] (v ∷ vs) p = absurd p
  pairwise_map f (x ∷ xs) [] p = absurd p
  pairwise_map f (x ∷ xs) (v ∷ vs) p = (p.0, pairwise_map f xs vs p.1)

  pub map_pairwise : {C : Type 0} (f : C → B) (xs : List A) (vs : List C) → Pairwise (λ x v. R x (f v)) xs vs → Pairwise R xs (map f vs)
  map_pairwise f [] [] p = tt
  map_pairwise f [] (v ∷ vs) p = absurd p
  map_pairwise f (x ∷ xs) [] p = absurd p
  map_pairwise f (x ∷ xs) (v ∷ vs) p = (p.0, map_pairwise f xs vs p.1)

module _ {A B : Type 0} (f : A → B) where
  pub last_item : (xs : List A) (i : ℕ) (x : A) → i < length xs → x ≡ get_or xs i x → map f (drop i xs) ≡ f x ∷ map f (drop (i + 1) xs)
  last_item xs i x h e = ap (map f) (drop_more xs i x h ∙ ap (λ y. y ∷ drop (i + 1) xs) (sym e))

  -- an item goes from the front of one list to the end of another
  pub moved_over : (row longer p : List A) (c x : A) (i : ℕ) (total : List B) → i < length p → x ≡ get_or p i x → f c ≡ f x → longer ≡ row ++ c ∷ [] → map f row ++ map f (drop i p) ≡ total → map f longer ++ map f (drop (i + 1) p) ≡ total
  moved_over row longer p c x i total h e s l t =
      ap (λ r. map f r ++ map f (drop (i + 1) p)) l ∙ ap (λ r. r ++ map f (drop (i + 1) p)) (map-append f row (c ∷ []) ∙ ap (λ y. map f row ++ y ∷ []) s)
      ∙ append_assoc (map f row) (f x ∷ []) (map f (drop (i + 1) p)) ∙ ap (◌++◌ (map f row)) (sym (last_item p i x h e)) ∙ t

  pub put_behind : {w : List B} (row : List B) {p q r : List A} → w ≡ row ++ map f p → p ≡ q → q ≡ r → w ≡ row ++ map f r
  put_behind row e h k = e ∙ ap (λ (s : List A). row ++ map f s) (h ∙ k)

  pub all_moved : (row p : List A) (i : ℕ) (total : List B) → length p ≤ i → map f row ++ map f (drop i p) ≡ total → map f row ≡ total
  all_moved row p i total h t = sym (append-nil (map f row)) ∙ ap (λ (r : List A). map f row ++ map f r) (sym (nothing p i h)) ∙ t
    where
      nothing : (p : List A) (i : ℕ) → length p ≤ i → drop i p ≡ []
      nothing [] zero h = refl
      nothing [] (suc i) h = refl
      nothing (x ∷ p) zero h = absurd (omega arith)
      nothing (x ∷ p) (suc i) h = nothing p i (omega arith)

  four : (w a b c : List B) → ((w ++ a) ++ b) ++ c ≡ w ++ (a ++ (b ++ c))
  four w a b c = append_assoc (w ++ a) b c ∙ append_assoc w a (b ++ c)

  pub gathered_step : (w w' w'' : List B) (list : List (List A × List A)) (i : ℕ) (x : List A × List A) (total : List B) → i < length list → x ≡ get_or list i x
      → w' ≡ w ++ map f x.0 → w'' ≡ w' ++ map f x.1 → w ++ map f (coefficients (drop i list)) ≡ total → w'' ++ map f (coefficients (drop (i + 1) list)) ≡ total
  gathered_step w w' w'' list i x total h e p q t =
      ap (λ y. y ++ map f (coefficients (drop (i + 1) list))) (q ∙ ap (λ y. y ++ map f x.1) p)
      ∙ four w (map f x.0) (map f x.1) (map f (coefficients (drop (i + 1) list)))
      ∙ ap (◌++◌ w) (sym (map-append f x.0 (x.1 ++ coefficients (drop (i + 1) list)) ∙ ap (◌++◌ (map f x.0)) (map-append f x.1 (coefficients (drop (i + 1) list)))))
      ∙ ap (λ (r : List (List A × List A)). w ++ map f (coefficients r)) (sym (drop_more list i x h ∙ ap (λ y. y ∷ drop (i + 1) list) (sym e))) ∙ t

  pub all_gathered : (w : List B) (list : List (List A × List A)) (i : ℕ) (total : List B) → length list ≤ i → w ++ map f (coefficients (drop i list)) ≡ total → w ≡ total
  all_gathered w list i total h t = sym (append-nil w) ∙ ap (λ (r : List (List A × List A)). w ++ map f (coefficients r)) (sym (nothing list i h)) ∙ t
    where
      nothing : (p : List (List A × List A)) (i : ℕ) → length p ≤ i → drop i p ≡ []
      nothing [] zero h = refl
      nothing [] (suc i) h = refl
      nothing (x ∷ p) zero h = absurd (omega arith)
      nothing (x ∷ p) (suc i) h = nothing p i (omega arith)

module _ {K : Type 0} {d : ℕ} (v : K → Value d) (args : List ℤ) where
  abbrev pub Known : Value d → Rat → Type 0
  Known c r = HasValue d c args (number r)

  abbrev pub fraction_of : List K × List K → Value (suc d)
  fraction_of r = over_value (map v r.0) (map v r.1)

  -- the values of an item's coefficients, and of those behind
  pub known_upper : (a b c : List K) (vs : List Rat) → Pairwise Known (map v (a ++ (b ++ c))) vs → Pairwise Known (map v a) (take (length a) vs)
  known_upper a b c vs p = rw (length_map v a) at (pairwise_left Known (map v a) (map v (b ++ c)) vs (rw (map-append v a (b ++ c)) at p))

  known_behind : (a b : List K) (vs : List Rat) → Pairwise Known (map v (a ++ b)) vs → Pairwise Known (map v b) (drop (length a) vs)
  known_behind a b vs p = rw (length_map v a) at (pairwise_right Known (map v a) (map v b) vs (rw (map-append v a b) at p))

  dropped : {A : Type 0} (n m : ℕ) (vs : List A) → drop n (drop m vs) ≡ drop (m + n) vs
  dropped n zero vs = ap (λ k. drop k vs) (start n)
    where
      start : (n : ℕ) → n ≡ 0 + n
      start n = omega arith
  dropped n (suc m) [] = nil n (suc m + n)
    where
      nil : {A : Type 0} (n m : ℕ) → ◌≡◌ {A = List A} (drop n []) (drop m [])
      nil zero zero = refl
      nil zero (suc m) = refl
      nil (suc n) zero = refl
      nil (suc n) (suc m) = refl
  dropped n (suc m) (x ∷ vs) = dropped n m vs ∙ ap (λ k. drop k (x ∷ vs)) (next m n)
    where
      next : (m n : ℕ) → suc (m + n) ≡ suc m + n
      next m n = omega arith

  pub rest_known : (a b c : List K) (vs : List Rat) (at middle last : ℕ) → Pairwise Known (map v (a ++ (b ++ c))) (drop at vs) → middle ≡ at + length a → last ≡ middle + length b → Pairwise Known (map v c) (drop last vs)
  rest_known a b c vs at middle last p e h =
      rw (h, e, ← (dropped (length b) (at + length a) vs), ← (dropped (length a) at vs)) (known_behind b c (drop (length a) (drop at vs)) (known_behind a (b ++ c) (drop at vs) p))

  pub room : (a b c : List K) (vs : List Rat) (at : ℕ) → at ≤ length vs → Pairwise Known (map v (a ++ (b ++ c))) (drop at vs) → (at + length a) + length b ≤ length vs
  room a b c vs at l p =
      let e : length (map v (a ++ (b ++ c))) ≡ length (drop at vs) = pairwise_length Known (map v (a ++ (b ++ c))) (drop at vs) p in
      let s : length (a ++ (b ++ c)) ≡ length vs - at = sym (length_map v (a ++ (b ++ c))) ∙ e ∙ length-drop at vs in
      let t : length (a ++ (b ++ c)) ≡ length a + (length b + length c) = length-append a (b ++ c) ∙ ap (◌+◌ (length a)) (length-append b c) in
      omega (arith, s, t)

  -- the first of the items that are left
  pub opened : (list : List (List K × List K)) (i : ℕ) (r : List K × List K) (vs : List Rat) → i < length list → r ≡ get_or list i r → Pairwise Known (map v (coefficients (drop i list))) vs
      → Pairwise Known (map v (r.0 ++ (r.1 ++ coefficients (drop (i + 1) list)))) vs
  opened list i r vs h e p = rw (drop_more list i r h, ← e) at p

  pub item_has : (r : List K × List K) (rest : List K) (vs us ls : List Rat) (at middle last : ℕ) (x : ℤ) (out : Rat) → Pairwise Known (map v (r.0 ++ (r.1 ++ rest))) (drop at vs)
      → middle ≡ at + length r.0 → last ≡ middle + length r.1 → us ≡ take (length r.0) (drop at vs) → ls ≡ take (length r.1) (drop middle vs)
      → ¬ (eval (ValueR 0) (map number ls) (whole_value 0 x) ≡ zero_value) → number out ≡ eval (ValueR 0) (map number us) (whole_value 0 x) /ᵛ eval (ValueR 0) (map number ls) (whole_value 0 x)
      → HasValue (suc d) (fraction_of r) (args ++ x ∷ []) (number out)
  item_has r rest vs us ls at middle last x out p e h su sl n w = record {
    before = args;
    last = x;
    upper = map v r.0;
    lower = map v r.1;
    upper_values = map number us;
    lower_values = map number ls;
    arguments = refl;
    quotient = refl;
    uppers = map_pairwise (λ c u. HasValue d c args u) number (map v r.0) us (rw su (known_upper r.0 r.1 rest (drop at vs) p));
    lowers = map_pairwise (λ c u. HasValue d c args u) number (map v r.1) ls
        (rw (sl, e, ← (dropped (length r.0) at vs)) (known_first r.1 rest (drop (length r.0) (drop at vs)) (known_behind r.0 (r.1 ++ rest) (drop at vs) p)));
    defined = n;
    value = w;
  }
    where
      known_first : (b c : List K) (vs : List Rat) → Pairwise Known (map v (b ++ c)) vs → Pairwise Known (map v b) (take (length b) vs)
      known_first b c vs p = rw (length_map v b) at (pairwise_left Known (map v b) (map v c) vs (rw (map-append v b c) at p))

  pub item_nonzero : (r : List K × List K) (zero_test : Bool) (out : Rat) → IsReduced (map v r.0) (map v r.1) → (IsTrue zero_test ↔ (poly (map v r.0) ≡ zero_polynomial)) → (zero_test ≡ false → ¬ (number out ≡ zero_value))
      → ¬ (fraction_of r ≡ zero_value) → ¬ (number out ≡ zero_value)
  item_nonzero r true out i t h n = absurd (n (over_zero (map v r.0) (map v r.1) (monic_some (map v r.1) i.monic) (t.0 refl)))
  item_nonzero r false out i t h n = h refl

  taken : {A : Type 0} (xs : List A) (i : ℕ) (x : A) → i < length xs → x ≡ get_or xs i x → take (i + 1) xs ≡ take i xs ++ x ∷ []
  taken xs i x h e = rw (add-one i) (go xs i x h e)
    where
      go : {A : Type 0} (xs : List A) (i : ℕ) (x : A) → i < length xs → x ≡ get_or xs i x → take (suc i) xs ≡ take i xs ++ x ∷ []
      go [] i x h e = absurd (omega arith)
      go (y ∷ xs) zero x h e = ap (λ z. z ∷ []) (sym e)
      go (y ∷ xs) (suc i) x h e = ap (◌∷◌ y) (go xs i x (omega arith) e)

  pub items_push : (list : List (List K × List K)) (i : ℕ) (r : List K × List K) (x : ℤ) (out new : List Rat) (w : Rat) → ItemsAt fraction_of (take i list) (args ++ x ∷ []) out → i < length list → r ≡ get_or list i r
      → HasValue (suc d) (fraction_of r) (args ++ x ∷ []) (number w) → (¬ (fraction_of r ≡ zero_value) → ¬ (number w ≡ zero_value)) → new ≡ out ++ w ∷ [] → ItemsAt fraction_of (take (i + 1) list) (args ++ x ∷ []) new
  items_push list i r x out new w p h e a n s = rw (s, taken list i r h e)
      (pairwise_push (λ y z. HasValue (suc d) (fraction_of y) (args ++ x ∷ []) (number z) × (¬ (fraction_of y ≡ zero_value) → ¬ (number z ≡ zero_value))) (take i list) out r w p (a, n))

  pub whole_list : {A : Type 0} (xs : List A) (i : ℕ) → length xs ≤ i → take i xs ≡ xs
  whole_list [] zero h = refl
  whole_list [] (suc i) h = refl
  whole_list (x ∷ xs) zero h = absurd (omega arith)
  whole_list (x ∷ xs) (suc i) h = ap (◌∷◌ x) (whole_list xs i (omega arith))

  pub items_probe : (list : List (List K × List K)) (x : ℤ) (new : List ℤ) (out : List Rat) → length args ≡ d → new ≡ args ++ x ∷ [] → ItemsAt fraction_of list (args ++ x ∷ []) out → IsProbe (suc d) fraction_of list new out
  items_probe list x new out c e p = rw e (record {
    count = length-append args (x ∷ []) ∙ one (length args) ∙ ap suc c;
    each = pairwise_to Both (λ y z. HasValue (suc d) (fraction_of y) (args ++ x ∷ []) (number z)) (λ y z h. h.0) list out p;
    nonzero = pairwise_to Both (λ y z. ¬ (fraction_of y ≡ zero_value) → ¬ (number z ≡ zero_value)) (λ y z h. h.1) list out p;
  })
    where
      Both : List K × List K → Rat → Type 0
      Both y z = HasValue (suc d) (fraction_of y) (args ++ x ∷ []) (number z) × (¬ (fraction_of y ≡ zero_value) → ¬ (number z ≡ zero_value))

      one : (n : ℕ) → n + 1 ≡ suc n
      one n = omega arith

  -- the inner probe's list is the list of all coefficients
  pub inner_known : (xs ys : List K) (vs : List Rat) → map v xs ≡ map v ys → Pairwise (λ x r. HasValue d (v x) args (number r)) xs vs → Pairwise Known (map v ys) vs
  inner_known xs ys vs e p = rw e at (pairwise_map Known v xs vs p)

pub not_zero : (t : Bool) (r : Rat) → t ≡ false → (IsTrue t ↔ (r.num ≡ pos 0)) → r.num ≢ pos 0
not_zero true r e i z = search (rules, e)
not_zero false r e i z = search (rules, i.1 z)

pub not_zero_number : (t : Bool) (r : Rat) → t ≡ false → (IsTrue t ↔ (number r ≡ zero_value)) → ¬ (number r ≡ zero_value)
not_zero_number true r e i z = search (rules, e)
not_zero_number false r e i z = search (rules, i.1 z)
