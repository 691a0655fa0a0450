-- From a ring whose equality is a relation to one whose equality is ≡: the elements are classes.
--   ClassR R          the ring of classes; `mk x` is the class of x, `sound` goes from x ≈ y to `mk x ≡ mk y`
--   exact            and back, where equality is decided
--   ClassF F          classes of a field are a field
--   classH           the class, as a map of rings
--   one_map, two_map, all_one, all_two, all_three    operations on classes, and equations of such from those at members
use Rattle.std.proofs.Common.{◌≡◌, Bool, true, false, refl, sym, ◌∙◌, ap, ap₂, true≢false}
use mathlib.Core.Path.{fun_ext}
use mathlib.Core.Bool.{Bool-set}
use mathlib.Core.HLevel.{Π_set}
use mathlib.Core.Quot.{Quot, mk, sound, ind, lift, Quot-set}
use Rattle.sg_algebra.specs.Ring.{Ring, Field, Hom}
use Rattle.sg_algebra.proofs.Field.{alike}

abbrev pub is_yes : {P : Type 0} → Dec P → Bool
is_yes (yes p) = true
is_yes (no p) = false

of_yes : {P : Type 0} (d : Dec P) → is_yes d ≡ true → P
of_yes (yes p) e = p
of_yes (no p) e = absurd (true≢false (sym e))

yes_of : {P : Type 0} (d : Dec P) → P → is_yes d ≡ true
yes_of (yes p) h = refl
yes_of (no p) h = absurd (p h)

same_yes : {P Q : Type 0} (d : Dec P) (e : Dec Q) → (P → Q) → (Q → P) → is_yes d ≡ is_yes e
same_yes (yes p) (yes q) f g = refl
same_yes (yes p) (no q) f g = absurd (q (f p))
same_yes (no p) (yes q) f g = absurd (p (g q))
same_yes (no p) (no q) f g = refl

pub Dec-prop : {P : Type 0} → IsProp P → IsProp (Dec P)
Dec-prop h (yes p) (yes q) = ap yes (h p q)
Dec-prop h (yes p) (no q) = absurd (q p)
Dec-prop h (no p) (yes q) = absurd (p q)
Dec-prop h (no p) (no q) = ap no (fun_ext (λ x. absurd (p x)))

module _ (R : Ring) where
  open R use {A, ◌≈◌, ◌⊞◌, ◌⊠◌, ⊟, O, I, rfl, symm, trans, add_cong, mul_cong, neg_cong, add_assoc, add_comm, add_O, add_neg, mul_assoc, mul_comm, mul_I, distrib}

  abbrev pub Class : Type 0
  Class = Quot ◌≈◌

  abbrev pub one_map : (f : A → A) → ((x y : A) → x ≈ y → f x ≈ f y) → Class → Class
  one_map f h = lift Quot-set (λ a. mk (f a)) (λ a b e. sound (h a b e))

  abbrev pub two_map : (f : A → A → A) → ((x y u v : A) → x ≈ y → u ≈ v → f x u ≈ f y v) → Class → Class → Class
  two_map f h = lift (Π_set (λ q. Quot-set)) (λ a. one_map (f a) (λ x y e. h a a x y rfl e))
      (λ a b e. fun_ext (ind (λ q. Quot-set _ _) (λ c. sound (h a b c c e rfl))))

  pub all_one : (f g : Class → Class) → ((a : A) → f (mk a) ≡ g (mk a)) → (x : Class) → f x ≡ g x
  all_one f g h = ind (λ q. Quot-set (f q) (g q)) h

  pub all_two : (f g : Class → Class → Class) → ((a b : A) → f (mk a) (mk b) ≡ g (mk a) (mk b)) → (x y : Class) → f x y ≡ g x y
  all_two f g h x y = all_one (λ x. f x y) (λ x. g x y) (λ a. all_one (f (mk a)) (g (mk a)) (h a) y) x

  pub all_three : (f g : Class → Class → Class → Class) → ((a b c : A) → f (mk a) (mk b) (mk c) ≡ g (mk a) (mk b) (mk c)) → (x y z : Class) → f x y z ≡ g x y z
  all_three f g h x y z = all_one (λ x. f x y z) (λ x. g x y z) (λ a. all_two (f (mk a)) (g (mk a)) (h a) y z) x

  abbrev pub class_add : Class → Class → Class
  class_add = two_map ◌⊞◌ (λ x y u v. add_cong)

  abbrev pub class_mul : Class → Class → Class
  class_mul = two_map ◌⊠◌ (λ x y u v. mul_cong)

  abbrev pub class_neg : Class → Class
  class_neg = one_map ⊟ (λ x y. neg_cong)

  abbrev pub ClassR : Ring
  ClassR = record {
    A = Class;
    ◌≈◌ = λ x y. x ≡ y;
    ◌⊞◌ = class_add;
    ◌⊠◌ = class_mul;
    ⊟ = class_neg;
    O = mk O;
    I = mk I;
    rfl = refl;
    symm = sym;
    trans = ◌∙◌;
    add_cong = ap₂ class_add;
    mul_cong = ap₂ class_mul;
    neg_cong = ap class_neg;
    add_assoc = λ {x} {y} {z}. all_three (λ x y z. class_add (class_add x y) z) (λ x y z. class_add x (class_add y z)) (λ a b c. sound add_assoc) x y z;
    add_comm = λ {x} {y}. all_two class_add (λ x y. class_add y x) (λ a b. sound add_comm) x y;
    add_O = λ {x}. all_one (λ x. class_add x (mk O)) (λ x. x) (λ a. sound add_O) x;
    add_neg = λ {x}. all_one (λ x. class_add x (class_neg x)) (λ x. mk O) (λ a. sound add_neg) x;
    mul_assoc = λ {x} {y} {z}. all_three (λ x y z. class_mul (class_mul x y) z) (λ x y z. class_mul x (class_mul y z)) (λ a b c. sound mul_assoc) x y z;
    mul_comm = λ {x} {y}. all_two class_mul (λ x y. class_mul y x) (λ a b. sound mul_comm) x y;
    mul_I = λ {x}. all_one (λ x. class_mul x (mk I)) (λ x. x) (λ a. sound mul_I) x;
    distrib = λ {x} {y} {z}. all_three (λ x y z. class_mul x (class_add y z)) (λ x y z. class_add (class_mul x y) (class_mul x z)) (λ a b c. sound distrib) x y z;
  }

  abbrev pub classH : Hom R ClassR
  classH = record { on = λ x. mk x; on_cong = λ x y h. sound h; on-add = λ x y. refl; on-mul = λ x y. refl; on-one = refl }

  pub exact : ((x y : A) → Dec (x ≈ y)) → (x y : A) → ◌≡◌ {A = Class} (mk x) (mk y) → x ≈ y
  exact d x y e = of_yes (d x y) (sym (ap test e) ∙ yes_of (d x x) rfl)
    where
      test : Class → Bool
      test = lift Bool-set (λ a. is_yes (d x a)) (λ a b h. same_yes (d x a) (d x b) (λ k. trans k h) (λ k. trans k (symm h)))

module _ (F : Field) where
  open F use {R, is_zero, one_ne, inv, inv_cong, mul_inv}
  open R use {A, ◌≈◌, O, I}
  open ClassR R use {A as Q, ◌⊠◌ as ◌·◌}

  -- equal classes have equal members
  pub exact_field : (x y : A) → ◌≡◌ {A = Q} (mk x) (mk y) → x ≈ y
  exact_field = exact R (alike R is_zero)

  pub class_zero : (x : Q) → Dec (x ≡ mk O)
  class_zero = ind (λ x. Dec-prop (Quot-set x (mk O))) (λ a. elim (is_zero a) [ yes h ↦ yes (sound h) | no h ↦ no (λ e. h (exact_field a O e)) ])

  pub mul-class_inv : (x : Q) → ¬ (x ≡ mk O) → x · one_map R inv (λ x y. inv_cong) x ≡ mk I
  mul-class_inv = ind (λ x. hlevel Quot-set) (λ a h. sound (mul_inv a (λ e. h (sound e))))

  abbrev pub ClassF : Field
  ClassF = record {
    R = ClassR R;
    is_zero = class_zero;
    one_ne = λ e. one_ne (exact_field I O e);
    inv = one_map R inv (λ x y. inv_cong);
    inv_cong = ap (one_map R inv (λ x y. inv_cong));
    mul_inv = mul-class_inv;
  }
