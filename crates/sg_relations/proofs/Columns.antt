-- The loops over the columns of rows, and over the items of a row.
--   column_more       one row further
--   table_more        one column further
--   multiple_more     one item further
use Rattle.std.proofs.Common.{◌≡◌, ℕ, zero, suc, ◌+◌, ◌<◌, ◌≤◌, refl, sym, subst, ap, ap₂, ◌∙◌, List, [], ◌∷◌, ◌++◌, map, length, take, get_or, All, ◌⊎◌, inl, inr, ℤ, pos, ◌+ℤ◌, ◌*ℤ◌, arith}
use Rattle.sg_algebra.proofs.Value.{Value}
use Rattle.sg_algebra.proofs.Rational.{whole_value, fraction_value-whole}
use Rattle.sg_algebra.proofs.Whole.{ℤR, readsℤ}
use Rattle.sg_algebra.proofs.Solver.{ring}
use Rattle.sg_num.specs.Value.{number}
use Rattle.sg_num.specs.declared.rat.Rat.{Rat}
use Rattle.sg_relations_theory.specs.Rows.{multiple_row}
use Rattle.sg_relations_theory.proofs.NullVectors.{as_value, number_at, dot}
use Rattle.sg_relations_theory.proofs.Transposed.{column_in}

default : {X : Type 0} (zs : List X) (k : ℕ) (d e : X) → k < length zs → get_or zs k d ≡ get_or zs k e
default [] k d e l = absurd (omega arith)
default (z ∷ zs) zero d e l = refl
default (z ∷ zs) (suc k) d e l = default zs k d e (omega arith)

map-push : {X Y : Type 0} (f : X → Y) (xs : List X) (x : X) → map f (xs ++ x ∷ []) ≡ map f xs ++ f x ∷ []
map-push f [] x = refl
map-push f (y ∷ xs) x = ap (λ t. f y ∷ t) (map-push f xs x)

take_next : {X : Type 0} (xs : List X) (i : ℕ) (d : X) → i < length xs → take (suc i) xs ≡ take i xs ++ get_or xs i d ∷ []
take_next [] i d l = absurd (omega arith)
take_next (x ∷ xs) zero d l = refl
take_next (x ∷ xs) (suc i) d l = ap (λ t. x ∷ t) (take_next xs i d (omega arith))

pub take_more : {X : Type 0} (xs : List X) (i : ℕ) (d : X) → i < length xs → take (i + 1) xs ≡ take i xs ++ get_or xs i d ∷ []
take_more xs i d l = let q : i + 1 ≡ suc i = omega arith in rw q (take_next xs i d l)

pub column_more : (rows : List (List ℤ)) (i j : ℕ) (r : List ℤ) (x y : ℤ) (q : Rat) (row new : List Rat) → i < length rows → All (λ r. j < length r) rows → r ≡ get_or rows i r → x ≡ get_or r j x → y ≡ x → number q ≡ whole_value 0 y
    → map number row ≡ map as_value (column_in (take i rows) j) → new ≡ row ++ q ∷ [] → map number new ≡ map as_value (column_in (take (i + 1) rows) j)
column_more rows i j r x y q row new l w is own e value inv ok = ap (map number) ok ∙ map-push number row q ∙ ap₂ (λ (t : List (Value 0)) (a : Value 0). t ++ a ∷ []) inv (value ∙ sym (fraction_value-whole y) ∙ ap as_value (e ∙ own ∙ default r j x (pos 0) (subst (λ (r : List ℤ). j < length r) (sym is) (w i r l)) ∙ ap (λ (r : List ℤ). number_at r j) is))
    ∙ sym (ap (map as_value) (ap (λ (t : List (List ℤ)). column_in t j) (take_more rows i r l) ∙ map-push (λ r. number_at r j) (take i rows) (get_or rows i r)) ∙ map-push as_value (column_in (take i rows) j) (number_at (get_or rows i r) j))

length-push : {X : Type 0} (xs : List X) (x : X) → length (xs ++ x ∷ []) ≡ length xs + 1
length-push [] x = refl
length-push (y ∷ xs) x = let e = length-push xs x in omega (arith, e)

pub sized_more : {X : Type 0} (xs new : List X) (x : X) (j : ℕ) → length xs ≡ j → new ≡ xs ++ x ∷ [] → length new ≡ j + 1
sized_more xs new x j e ok = ap length ok ∙ length-push xs x ∙ ap (λ (n : ℕ). n + 1) e

push-before : {X : Type 0} (xs : List X) (x : X) (i : ℕ) (d : X) → i < length xs → get_or (xs ++ x ∷ []) i d ≡ get_or xs i d
push-before [] x i d l = absurd (omega arith)
push-before (y ∷ xs) x zero d l = refl
push-before (y ∷ xs) x (suc i) d l = push-before xs x i d (omega arith)

push-last : {X : Type 0} (xs : List X) (x d : X) → get_or (xs ++ x ∷ []) (length xs) d ≡ x
push-last [] x d = refl
push-last (y ∷ xs) x d = push-last xs x d

pub table_more : (rows : List (List ℤ)) (j : ℕ) (table new : List (List Rat)) (r : List Rat) → length table ≡ j → ((i : ℕ) → i < j → map number (get_or table i []) ≡ map as_value (column_in rows i)) → map number r ≡ map as_value (column_in rows j)
    → new ≡ table ++ r ∷ [] → (i : ℕ) → i < j + 1 → map number (get_or new i []) ≡ map as_value (column_in rows i)
table_more rows j table new r e inv own ok i l = subst (λ (t : List (List Rat)). map number (get_or t i []) ≡ map as_value (column_in rows i)) (sym ok) (go (two i j l))
  where
    two : (i j : ℕ) → i < j + 1 → (i < j) ⊎ (i ≡ j)
    two i j l = grind arith

    go : (i < j) ⊎ (i ≡ j) → map number (get_or (table ++ r ∷ []) i []) ≡ map as_value (column_in rows i)
    go (inl q) = ap (map number) (push-before table r i [] (omega (arith, q, e))) ∙ inv i q
    go (inr q) = ap (λ (n : ℕ). map number (get_or (table ++ r ∷ []) n [])) (q ∙ sym e) ∙ ap (map number) (push-last table r []) ∙ own ∙ ap (λ (n : ℕ). map as_value (column_in rows n)) (sym q)

pub multiple_more : (t : ℤ) (xs : List ℤ) (i : ℕ) (x : ℤ) (row new : List ℤ) → i < length xs → x ≡ t *ℤ get_or xs i (pos 0) → row ≡ multiple_row t (take i xs) → new ≡ row ++ x ∷ [] → new ≡ multiple_row t (take (i + 1) xs)
multiple_more t xs i x row new l e inv ok = ok ∙ ap₂ (λ (r : List ℤ) (y : ℤ). r ++ y ∷ []) inv e ∙ sym (ap (multiple_row t) (take_more xs i (pos 0) l) ∙ map-push (λ y. t *ℤ y) (take i xs) (get_or xs i (pos 0)))

dot-push : (a : List ℤ) (x : ℤ) (b : List ℤ) → dot (a ++ x ∷ []) (number_at b) ≡ dot a (number_at b) +ℤ x *ℤ number_at b (length a)
dot-push a x b = go a x (number_at b)
  where
    go : (a : List ℤ) (x : ℤ) (f : ℕ → ℤ) → dot (a ++ x ∷ []) f ≡ dot a f +ℤ x *ℤ f (length a)
    go [] x f = swap (x *ℤ f 0)
      where
        swap : (z : ℤ) → z +ℤ pos 0 ≡ pos 0 +ℤ z
        swap z = ring ℤR (z ∷ []) (search readsℤ depth 12) refl
    go (y ∷ a) x f = ap (λ (z : ℤ). y *ℤ f 0 +ℤ z) (go a x (λ i. f (suc i))) ∙ regroup (y *ℤ f 0) (dot a (λ i. f (suc i))) (x *ℤ f (suc (length a)))
      where
        regroup : (p q r : ℤ) → p +ℤ (q +ℤ r) ≡ (p +ℤ q) +ℤ r
        regroup p q r = ring ℤR (p ∷ q ∷ r ∷ []) (search readsℤ depth 12) refl

length-take : {X : Type 0} (xs : List X) (i : ℕ) → i ≤ length xs → length (take i xs) ≡ i
length-take xs zero l = refl
length-take [] (suc i) l = absurd (omega arith)
length-take (x ∷ xs) (suc i) l = ap suc (length-take xs i (omega arith))

pub dot_more : (a b : List ℤ) (i : ℕ) (t m s : ℤ) → i < length a → t ≡ dot (take i a) (number_at b) → m ≡ get_or a i (pos 0) *ℤ get_or b i (pos 0) → s ≡ t +ℤ m → s ≡ dot (take (i + 1) a) (number_at b)
dot_more a b i t m s l inv e q = q ∙ ap₂ ◌+ℤ◌ inv (e ∙ ap (λ (n : ℕ). get_or a i (pos 0) *ℤ number_at b n) (sym (length-take a i (omega arith))))
    ∙ sym (ap (λ (r : List ℤ). dot r (number_at b)) (take_more a i (pos 0) l) ∙ dot-push (take i a) (get_or a i (pos 0)) b)
