-- All solutions of outer(g) = c 0 f₀ + c 1 f₁ + .., one slice after the other: a slice is a part of the elements (the power t^n of a sum, the exponents of a product) on which the outer problem
-- is an inner one. It serves the sums (the slice at n of those below n + 1) and the products (the slice at e of those with exponents in a list) alike.
-- A row has constants, a value, and what is left: c 0 f₀ + c 1 f₁ + .. less outer(value).
--   Space P               P holds of 0, of sums, multiples by constants and negatives
--   Slice Before After    `part` is the slice of an element, `put` the element of a slice; on what is Before, the part of outer(x) is inner(part x); what is Before and has no part is After
--   IsState P rows        what is left of the rows is in P, and each solution is a combination of the rows and an element in P
--   IsSides, IsNext       relations of rows: the sides are the parts of what is left; the next rows go on from combinations of the rows
--   state_next            from Before to After by all solutions of the inner problem of the sides
--   state_sound, state_complete    at the end, P says zero: the rows solve, and are all
use Rattle.std.proofs.Common.{◌≡◌, ℕ, suc, ◌<◌, refl, subst, List, [], ◌∷◌, length, arith}
use Rattle.sg_algebra.specs.Ring.{Ring}
use Rattle.sg_algebra.specs.Coefficients.{Each}
use Rattle.sg_algebra.proofs.Ring.{neg_O, neg_is}
use Rattle.sg_algebra.proofs.Solver.{ring, by, scale, reads}
use Rattle.sg_algebra.proofs.Divides.{on-O}
use Rattle.sg_algebra.proofs.Place.{Pairwise}
use Rattle.sg_tower_theory.proofs.Difference.{Difference, trivial, Linear, total, total_cong, total_pairwise, total-add, mixed, total-mixed, on-total, Spanned}

pub pairwise_length : {X Y : Type 0} (P : X → Y → Type 0) (xs : List X) (ys : List Y) → Pairwise P xs ys → length xs ≡ length ys
pairwise_length P [] [] p = refl
pairwise_length P [] (y ∷ ys) p = absurd p
pairwise_length P (x ∷ xs) [] p = absurd p
pairwise_length P (x ∷ xs) (y ∷ ys) p = omega (arith, pairwise_length P xs ys p.1)

pub pairwise_to : {X Y : Type 0} (P Q : X → Y → Type 0) (xs : List X) (ys : List Y) → ((x : X) (y : Y) → P x y → Q x y) → Pairwise P xs ys → Pairwise Q xs ys
pairwise_to P Q [] [] h p = tt
pairwise_to P Q [] (y ∷ ys) h p = absurd p
pairwise_to P Q (x ∷ xs) [] h p = absurd p
pairwise_to P Q (x ∷ xs) (y ∷ ys) h p = (h x y p.0, pairwise_to P Q xs ys h p.1)

pub pairwise_each : {X Y : Type 0} (P : X → Y → Type 0) (Q : X → Type 0) (S : Y → Type 0) (xs : List X) (ys : List Y) → ((x : X) (y : Y) → P x y → Q x → S y) → Pairwise P xs ys → Each Q xs → Each S ys
pairwise_each P Q S [] [] h p e = tt
pairwise_each P Q S [] (y ∷ ys) h p e = absurd p
pairwise_each P Q S (x ∷ xs) [] h p e = absurd p
pairwise_each P Q S (x ∷ xs) (y ∷ ys) h p e = (h x y p.0 e.0, pairwise_each P Q S xs ys h p.1 e.1)

-- linear over the constants, and equal at equal elements
pub record Map {C R S : Ring} (B : Difference C R) (E : Difference C S) : Type 0 where
  pub linear : Linear B E
  pub cong : (x y : R.A) → R.◌≈◌ x y → S.◌≈◌ (linear.on x) (linear.on y)

module _ {C R S : Ring} (B : Difference C R) (E : Difference C S) (l : Map B E) where
  pub map-neg : (x : R.A) → S.◌≈◌ (l.linear.on (R.⊟ x)) (S.⊟ (l.linear.on x))
  map-neg x = neg_is S (S.trans (S.symm (l.linear.on-add x (R.⊟ x))) (S.trans (l.cong (R.◌⊞◌ x (R.⊟ x)) R.O R.add_neg) l.linear.on-none))

  pub map-sub : (x y : R.A) → S.◌≈◌ (l.linear.on (R.◌⊞◌ x (R.⊟ y))) (S.◌⊞◌ (l.linear.on x) (S.⊟ (l.linear.on y)))
  map-sub x y = S.trans (l.linear.on-add x (R.⊟ y)) (S.add_cong S.rfl (map-neg y))

module _ {C S : Ring} (E : Difference C S) where
  open S use {A, ◌≈◌, ◌⊞◌, ◌⊠◌, ⊟, O}

  pub opposite-add : (x y : A) → ⊟ (x ⊞ y) ≈ ⊟ x ⊞ ⊟ y
  opposite-add x y = ring S (x ∷ y ∷ []) (search reads depth 16) refl

  pub opposite-scale : (c : C.A) (x : A) → ⊟ (E.κ.on c ⊠ x) ≈ E.κ.on c ⊠ ⊟ x
  opposite-scale c x = ring S (E.κ.on c ∷ x ∷ []) (search reads depth 16) refl

  abbrev pub opposite : Linear E E
  opposite = record { on = ⊟; on-add = opposite-add; on-scale = opposite-scale; on-none = neg_O S }

  -- the difference, and a x ↦ a σ(x) - x
  pub delta-add : (a x y : A) → (a ⊠ E.σ.on (x ⊞ y)) ⊞ ⊟ (x ⊞ y) ≈ (a ⊠ E.σ.on x ⊞ ⊟ x) ⊞ (a ⊠ E.σ.on y ⊞ ⊟ y)
  delta-add a x y = by S (a ∷ x ∷ y ∷ E.σ.on x ∷ E.σ.on y ∷ E.σ.on (x ⊞ y) ∷ []) (scale S a (E.σ.on-add x y)) (search reads depth 20) refl

  pub delta-scale : (a : A) (c : C.A) (x : A) → (a ⊠ E.σ.on (E.κ.on c ⊠ x)) ⊞ ⊟ (E.κ.on c ⊠ x) ≈ E.κ.on c ⊠ (a ⊠ E.σ.on x ⊞ ⊟ x)
  delta-scale a c x = by S (a ∷ E.κ.on c ∷ x ∷ E.σ.on x ∷ E.σ.on (E.κ.on c) ∷ E.σ.on (E.κ.on c ⊠ x) ∷ [])
      (S.add_cong (scale S a (E.σ.on-mul (E.κ.on c) x)) (scale S (a ⊠ E.σ.on x) (E.fixed c))) (search reads depth 20) refl

  pub delta-none : (a : A) → (a ⊠ E.σ.on O) ⊞ ⊟ O ≈ O
  delta-none a = by S (a ∷ E.σ.on O ∷ []) (scale S a (on-O S S E.σ)) (search reads depth 20) refl

  pub delta_cong : (a x y : A) → x ≈ y → (a ⊠ E.σ.on x) ⊞ ⊟ x ≈ (a ⊠ E.σ.on y) ⊞ ⊟ y
  delta_cong a x y h = S.add_cong (S.mul_cong S.rfl (E.σ.on_cong x y h)) (S.neg_cong h)

  abbrev pub twisted : A → Map E E
  twisted a = record { linear = record { on = λ x. a ⊠ E.σ.on x ⊞ ⊟ x; on-add = delta-add a; on-scale = delta-scale a; on-none = delta-none a }; cong = delta_cong a }

  pub plain-add : (x y : A) → E.σ.on (x ⊞ y) ⊞ ⊟ (x ⊞ y) ≈ (E.σ.on x ⊞ ⊟ x) ⊞ (E.σ.on y ⊞ ⊟ y)
  plain-add x y = by S (x ∷ y ∷ E.σ.on x ∷ E.σ.on y ∷ E.σ.on (x ⊞ y) ∷ []) (E.σ.on-add x y) (search reads depth 20) refl

  pub plain-scale : (c : C.A) (x : A) → E.σ.on (E.κ.on c ⊠ x) ⊞ ⊟ (E.κ.on c ⊠ x) ≈ E.κ.on c ⊠ (E.σ.on x ⊞ ⊟ x)
  plain-scale c x = by S (E.κ.on c ∷ x ∷ E.σ.on x ∷ E.σ.on (E.κ.on c) ∷ E.σ.on (E.κ.on c ⊠ x) ∷ [])
      (S.add_cong (E.σ.on-mul (E.κ.on c) x) (scale S (E.σ.on x) (E.fixed c))) (search reads depth 20) refl

  pub plain-none : E.σ.on O ⊞ ⊟ O ≈ O
  plain-none = by S (E.σ.on O ∷ []) (on-O S S E.σ) (search reads depth 20) refl

  abbrev pub differences : Map E E
  differences = record { linear = record { on = λ x. E.σ.on x ⊞ ⊟ x; on-add = plain-add; on-scale = plain-scale; on-none = plain-none }; cong = λ x y h. S.add_cong (E.σ.on_cong x y h) (S.neg_cong h) }

  pub record Space (P : A → Type 0) : Type 0 where
    pub same : (x y : A) → x ≈ y → P x → P y
    pub none : P O
    pub add : (x y : A) → P x → P y → P (x ⊞ y)
    pub scaled : (c : C.A) (x : A) → P x → P (E.κ.on c ⊠ x)
    pub neg : (x : A) → P x → P (⊟ x)

  module _ (P : A → Type 0) (space : Space P) {X : Type 0} (f : X → A) where
    pub total_in : (ws : ℕ → C.A) (xs : List X) → Each (λ x. P (f x)) xs → P (total E f ws xs)
    total_in ws [] h = space.none
    total_in ws (x ∷ xs) h = space.add (E.κ.on (ws 0) ⊠ f x) (total E f (λ i. ws (suc i)) xs) (space.scaled (ws 0) (f x) h.0) (total_in (λ i. ws (suc i)) xs h.1)

module _ {C S : Ring} (E : Difference C S) (outer : Map E E) {X : Type 0} (m : X → S.A) (fs : List X) {W : Type 0} (consts : W → ℕ → C.A) (value left : W → S.A) where
  open S use {A, ◌≈◌, ◌⊞◌, ⊟, rfl, symm, trans, add_cong, neg_cong}

  abbrev pub rest : (ℕ → C.A) → List W → A → A
  rest w rows g = g ⊞ ⊟ (total E value w rows)

  pub record IsLeft (w : W) : Type 0 where
    pub is_left : left w ≈ total E m (consts w) fs ⊞ ⊟ (outer.linear.on (value w))

  pub record SpannedTo (P : A → Type 0) (rows : List W) (c : ℕ → C.A) (g : A) : Type 0 where
    pub weights : ℕ → C.A
    pub same_consts : (i : ℕ) → i < length fs → C.◌≈◌ (c i) (mixed C consts weights rows i)
    pub short : P (rest weights rows g)

  pub record IsState (P : A → Type 0) (rows : List W) : Type 0 where
    pub lefts : Each IsLeft rows
    pub shorts : Each (λ w. P (left w)) rows
    pub spans : (c : ℕ → C.A) (g : A) → outer.linear.on g ≈ total E m c fs → SpannedTo P rows c g

  lefts_are : (ws : ℕ → C.A) (rows : List W) → Each IsLeft rows → total E left ws rows ≈ total E (λ w. total E m (consts w) fs ⊞ ⊟ (outer.linear.on (value w))) ws rows
  lefts_are ws [] h = rfl
  lefts_are ws (w ∷ rows) h = add_cong (S.mul_cong rfl h.0.is_left) (lefts_are (λ i. ws (suc i)) rows h.1)

  left_total : (ws : ℕ → C.A) (rows : List W) → Each IsLeft rows → total E left ws rows ≈ total E (λ w. total E m (consts w) fs) ws rows ⊞ ⊟ (outer.linear.on (total E value ws rows))
  left_total ws rows h = trans (lefts_are ws rows h) (trans (total-add E (λ w. total E m (consts w) fs) (λ w. ⊟ (outer.linear.on (value w))) ws rows)
      (add_cong rfl (trans (symm (on-total E E (opposite E) (λ w. outer.linear.on (value w)) ws rows)) (neg_cong (symm (on-total E E outer.linear value ws rows))))))

  outer-rest : (rows : List W) → Each IsLeft rows → (c ws : ℕ → C.A) (g : A) → outer.linear.on g ≈ total E m c fs → ((i : ℕ) → i < length fs → C.◌≈◌ (c i) (mixed C consts ws rows i))
      → outer.linear.on (rest ws rows g) ≈ total E left ws rows
  outer-rest rows h c ws g s e = trans (map-sub E E outer g (total E value ws rows)) (trans (add_cong right rfl) (symm (left_total ws rows h)))
    where
      right : outer.linear.on g ≈ total E (λ w. total E m (consts w) fs) ws rows
      right = trans s (trans (total_cong E m m c (mixed C consts ws rows) fs (λ f. rfl) e) (total-mixed E m consts ws rows fs))

  -- ---- The end
  module _ (P : A → Type 0) (end : (x : A) → P x → x ≈ S.O) (rows : List W) (st : IsState P rows) where
    equal : (x y : A) → x ⊞ ⊟ y ≈ S.O → x ≈ y
    equal x y h = by S (x ∷ y ∷ []) h (search reads depth 16) refl

    solved_by : (w : W) → IsLeft w → P (left w) → outer.linear.on (value w) ≈ total E m (consts w) fs
    solved_by w h b = symm (equal (total E m (consts w) fs) (outer.linear.on (value w)) (trans (symm h.is_left) (end (left w) b)))

    both : (rows : List W) → Each IsLeft rows → Each (λ w. P (left w)) rows → Each (λ w. outer.linear.on (value w) ≈ total E m (consts w) fs) rows
    both [] a b = tt
    both (w ∷ rows) a b = (solved_by w a.0 b.0, both rows a.1 b.1)

    pub state_sound : Each (λ w. outer.linear.on (value w) ≈ total E m (consts w) fs) rows
    state_sound = both rows st.lefts st.shorts

    pub state_complete : (c : ℕ → C.A) (g : A) → outer.linear.on g ≈ total E m c fs → Spanned E (length fs) consts value rows c g
    state_complete c g s =
        let f = st.spans c g s in
        record { weights = f.weights; same_consts = f.same_consts; same_value = equal g (total E value f.weights rows) (end (rest f.weights rows g) f.short) }

module _ {C R S : Ring} (B : Difference C R) (E : Difference C S) (inner : Map B B) (outer : Map E E) where
  pub record Slice (Before After : S.A → Type 0) : Type 0 where
    pub before : Space E Before
    pub part : Map E B
    pub put : Map B E
    pub after : (x : S.A) → Before x → R.◌≈◌ (part.linear.on x) R.O → After x
    pub outer_before : (x : S.A) → Before x → Before (outer.linear.on x)
    pub put_before : (h : R.A) → Before (put.linear.on h)
    pub part-put : (h : R.A) → R.◌≈◌ (part.linear.on (put.linear.on h)) h
    pub part-outer : (x : S.A) → Before x → R.◌≈◌ (part.linear.on (outer.linear.on x)) (inner.linear.on (part.linear.on x))

  module _ {X : Type 0} (m : X → S.A) (fs : List X) {W : Type 0} (consts : W → ℕ → C.A) (value left : W → S.A) where
    open S use {A, ◌≈◌, ◌⊞◌, ⊟, rfl, symm, trans, add_cong, neg_cong}

    module _ (Before After : A → Type 0) (slice : Slice Before After) (rows : List W) {G : Type 0} (l : G → R.A) (ls : List G) {Y : Type 0} (inner_consts : Y → ℕ → C.A) (inner_value : Y → R.A) where
      open slice use {part, put}

      abbrev pub IsSides : Type 0
      IsSides = Pairwise (λ w x. R.◌≈◌ (l x) (part.linear.on (left w))) rows ls

      pub record IsNext (v : Y) (w : W) : Type 0 where
        pub next_consts : (i : ℕ) → C.◌≈◌ (consts w i) (mixed C consts (inner_consts v) rows i)
        pub next_value : value w ≈ total E value (inner_consts v) rows ⊞ put.linear.on (inner_value v)
        pub next_left : left w ≈ total E left (inner_consts v) rows ⊞ ⊟ (outer.linear.on (put.linear.on (inner_value v)))

      sides_total : (ws : ℕ → C.A) → IsSides → R.◌≈◌ (total B (λ w. part.linear.on (left w)) ws rows) (total B l ws ls)
      sides_total ws p = total_pairwise B (λ w. part.linear.on (left w)) l ws rows ls (pairwise_to (λ w x. R.◌≈◌ (l x) (part.linear.on (left w))) (λ w x. R.◌≈◌ (part.linear.on (left w)) (l x)) rows ls (λ w x h. R.symm h) p)

      part_total : (ws : ℕ → C.A) → IsSides → R.◌≈◌ (part.linear.on (total E left ws rows)) (total B l ws ls)
      part_total ws p = R.trans (on-total E B part.linear left ws rows) (sides_total ws p)

      -- what is left of a next row
      next_is_left : Each (IsLeft E outer m fs consts value left) rows → (v : Y) (w : W) → IsNext v w → (IsLeft E outer m fs consts value left) w
      next_is_left h v w e = record {
        is_left = trans e.next_left (trans (add_cong (left_total E outer m fs consts value left (inner_consts v) rows h) rfl)
            (symm (trans (add_cong sums (neg_cong values)) (regroup (total E (λ w. total E m (consts w) fs) (inner_consts v) rows) (outer.linear.on (total E value (inner_consts v) rows)) (outer.linear.on (put.linear.on (inner_value v)))))));
      }
        where
          regroup : (x y z : A) → x ⊞ ⊟ (y ⊞ z) ≈ (x ⊞ ⊟ y) ⊞ ⊟ z
          regroup x y z = ring S (x ∷ y ∷ z ∷ []) (search reads depth 16) refl

          sums : total E m (consts w) fs ≈ total E (λ w. total E m (consts w) fs) (inner_consts v) rows
          sums = trans (total_cong E m m (consts w) (mixed C consts (inner_consts v) rows) fs (λ f. rfl) (λ i l. e.next_consts i)) (total-mixed E m consts (inner_consts v) rows fs)

          values : outer.linear.on (value w) ≈ outer.linear.on (total E value (inner_consts v) rows) ⊞ outer.linear.on (put.linear.on (inner_value v))
          values = trans (outer.cong (value w) (total E value (inner_consts v) rows ⊞ put.linear.on (inner_value v)) e.next_value) (outer.linear.on-add (total E value (inner_consts v) rows) (put.linear.on (inner_value v)))

      next_short : IsSides → Each (λ w. Before (left w)) rows → (v : Y) (w : W) → IsNext v w → R.◌≈◌ (inner.linear.on (inner_value v)) (total B l (inner_consts v) ls) → After (left w)
      next_short p short v w e s = slice.after (left w)
          (slice.before.same (total E left (inner_consts v) rows ⊞ ⊟ moved) (left w) (symm e.next_left)
          (slice.before.add (total E left (inner_consts v) rows) (⊟ moved) (total_in E Before slice.before left (inner_consts v) rows short) (slice.before.neg moved (slice.outer_before mono (slice.put_before (inner_value v))))))
          (R.trans (part.cong (left w) (total E left (inner_consts v) rows ⊞ ⊟ moved) e.next_left)
          (R.trans (map-sub E B part (total E left (inner_consts v) rows) moved)
          (R.trans (R.add_cong (R.trans (part_total (inner_consts v) p) (R.symm s)) (R.neg_cong (R.trans (slice.part-outer mono (slice.put_before (inner_value v))) (inner.cong (part.linear.on mono) (inner_value v) (slice.part-put (inner_value v))))))
          R.add_neg)))
        where
          mono : A
          mono = put.linear.on (inner_value v)

          moved : A
          moved = outer.linear.on mono

      module _ (solved : List Y) (new : List W) (next : Pairwise IsNext solved new) where
        next_consts_total : (c ws q : ℕ → C.A) → ((i : ℕ) → i < length fs → C.◌≈◌ (c i) (mixed C consts ws rows i)) → ((i : ℕ) → i < length rows → C.◌≈◌ (ws i) (mixed C inner_consts q solved i))
            → (i : ℕ) → i < length fs → C.◌≈◌ (c i) (mixed C consts q new i)
        next_consts_total c ws q e k i h = C.trans (e i h) (C.trans (total_cong (trivial C) (λ w. consts w i) (λ w. consts w i) ws (mixed C inner_consts q solved) rows (λ w. C.rfl) k)
            (C.trans (total-mixed (trivial C) (λ w. consts w i) inner_consts q solved rows)
            (total_pairwise (trivial C) (λ v. total (trivial C) (λ w. consts w i) (inner_consts v) rows) (λ w. consts w i) q solved new (pairwise_to IsNext (λ v w. C.◌≈◌ (total (trivial C) (λ w. consts w i) (inner_consts v) rows) (consts w i)) solved new (λ v w h. C.symm (h.next_consts i)) next))))

        next_value_total : (ws q : ℕ → C.A) (h : R.A) → ((i : ℕ) → i < length rows → C.◌≈◌ (ws i) (mixed C inner_consts q solved i)) → R.◌≈◌ h (total B inner_value q solved)
            → total E value q new ≈ total E value ws rows ⊞ put.linear.on h
        next_value_total ws q h e k =
            trans (symm (total_pairwise E (λ v. total E value (inner_consts v) rows ⊞ put.linear.on (inner_value v)) value q solved new
            (pairwise_to IsNext (λ v w. total E value (inner_consts v) rows ⊞ put.linear.on (inner_value v) ≈ value w) solved new (λ v w h. symm h.next_value) next)))
            (trans (total-add E (λ v. total E value (inner_consts v) rows) (λ v. put.linear.on (inner_value v)) q solved)
            (add_cong (trans (symm (total-mixed E value inner_consts q solved rows)) (total_cong E value value (mixed C inner_consts q solved) ws rows (λ w. rfl) (λ i l. C.symm (e i l))))
            (trans (symm (on-total B E put.linear inner_value q solved)) (put.cong (total B inner_value q solved) h (R.symm k)))))

        next_spans : IsState E outer m fs consts value left Before rows → IsSides → ((c : ℕ → C.A) (h : R.A) → R.◌≈◌ (inner.linear.on h) (total B l c ls) → Spanned B (length ls) inner_consts inner_value solved c h)
            → (c : ℕ → C.A) (g : A) → outer.linear.on g ≈ total E m c fs → SpannedTo E outer m fs consts value left After new c g
        next_spans st p all c g s =
            let f = st.spans c g s in
            let k = all f.weights (part.linear.on (rest E outer m fs consts value left f.weights rows g)) (top f.weights f.same_consts f.short) in
            finish f.weights k.weights f.same_consts f.short (λ i h. k.same_consts i (subst (λ (z : ℕ). i < z) (pairwise_length (λ w x. R.◌≈◌ (l x) (part.linear.on (left w))) rows ls p) h)) k.same_value
          where
            top : (ws : ℕ → C.A) → ((i : ℕ) → i < length fs → C.◌≈◌ (c i) (mixed C consts ws rows i)) → Before (rest E outer m fs consts value left ws rows g) → R.◌≈◌ (inner.linear.on (part.linear.on (rest E outer m fs consts value left ws rows g))) (total B l ws ls)
            top ws e b = R.trans (R.symm (slice.part-outer (rest E outer m fs consts value left ws rows g) b)) (R.trans (part.cong (outer.linear.on (rest E outer m fs consts value left ws rows g)) (total E left ws rows) (outer-rest E outer m fs consts value left rows st.lefts c ws g s e)) (part_total ws p))

            finish : (ws q : ℕ → C.A) → ((i : ℕ) → i < length fs → C.◌≈◌ (c i) (mixed C consts ws rows i)) → Before (rest E outer m fs consts value left ws rows g) → ((i : ℕ) → i < length rows → C.◌≈◌ (ws i) (mixed C inner_consts q solved i))
                → R.◌≈◌ (part.linear.on (rest E outer m fs consts value left ws rows g)) (total B inner_value q solved) → SpannedTo E outer m fs consts value left After new c g
            finish ws q e b k v = record {
              weights = q;
              same_consts = next_consts_total c ws q e k;
              short = slice.after (rest E outer m fs consts value left q new g)
                  (slice.before.same (rest E outer m fs consts value left ws rows g ⊞ ⊟ (put.linear.on h)) (rest E outer m fs consts value left q new g) (symm split) (slice.before.add (rest E outer m fs consts value left ws rows g) (⊟ (put.linear.on h)) b (slice.before.neg (put.linear.on h) (slice.put_before h))))
                  (R.trans (part.cong (rest E outer m fs consts value left q new g) (rest E outer m fs consts value left ws rows g ⊞ ⊟ (put.linear.on h)) split) (R.trans (map-sub E B part (rest E outer m fs consts value left ws rows g) (put.linear.on h)) (R.trans (R.add_cong R.rfl (R.neg_cong (slice.part-put h))) R.add_neg)));
            }
              where
                h : R.A
                h = part.linear.on (rest E outer m fs consts value left ws rows g)

                split : rest E outer m fs consts value left q new g ≈ rest E outer m fs consts value left ws rows g ⊞ ⊟ (put.linear.on h)
                split = trans (add_cong rfl (neg_cong (next_value_total ws q h k v))) (regroup g (total E value ws rows) (put.linear.on h))
                  where
                    regroup : (x y z : A) → x ⊞ ⊟ (y ⊞ z) ≈ (x ⊞ ⊟ y) ⊞ ⊟ z
                    regroup x y z = ring S (x ∷ y ∷ z ∷ []) (search reads depth 16) refl

      -- one slice
      pub state_next : (solved : List Y) (new : List W) → IsState E outer m fs consts value left Before rows → IsSides → Each (λ v. R.◌≈◌ (inner.linear.on (inner_value v)) (total B l (inner_consts v) ls)) solved
          → ((c : ℕ → C.A) (h : R.A) → R.◌≈◌ (inner.linear.on h) (total B l c ls) → Spanned B (length ls) inner_consts inner_value solved c h) → Pairwise IsNext solved new → IsState E outer m fs consts value left After new
      state_next solved new st p sound all next = record {
        lefts = pairwise_each IsNext (λ v. R.◌≈◌ (inner.linear.on (inner_value v)) (total B l (inner_consts v) ls)) (IsLeft E outer m fs consts value left) solved new (λ v w e s. next_is_left st.lefts v w e) next sound;
        shorts = pairwise_each IsNext (λ v. R.◌≈◌ (inner.linear.on (inner_value v)) (total B l (inner_consts v) ls)) (λ w. After (left w)) solved new (λ v w e s. next_short p st.shorts v w e s) next sound;
        spans = next_spans solved new next st p all;
      }
