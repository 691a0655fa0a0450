-- A walk over the parts of a tree.
--   first_left, first_right, among_left, among_right    in a list that goes on, or that begins with others
--   items_add, .. items_body     the parts of a tree by those of its parts
--   bare_naturals, bare_polynomial     a tree without sums, products and numerals below 0 is a fraction of polynomials
--   fault_left, fault_right      a fault that ends the walk in a part
--   kept_other, found_nothing, found_first, found_kept     what was found, with one part more
use Rattle.std.proofs.Common.{◌≡◌, ℕ, zero, suc, ◌+◌, ◌<◌, ◌≤◌, refl, sym, ap, subst, ◌∙◌, ℤ, ◌≤ℤ◌, ◌<ℤ◌, List, [], ◌∷◌, ◌++◌, Option, Some, None, Result, Ok, Err, add-one, arith}
use Rattle.std.proofs.lemmas.List.{append_assoc, append-nil}
use Rattle.sg_algebra.specs.Coefficients.{Each}
use Rattle.sg_spec.specs.Tree.{Tree, numeral, here, param, add, neg, mul, div, power, sum_from, prod_from}
use Rattle.sg_spec.specs.Parts.{Part, parts, anywhere, divides, is_body, numer, ratio_of, coefficients, leading, cauchy}
use Rattle.sg_spec.specs.Parts.{Role as Standing}
use Rattle.sg_spec.specs.Faults.{Numbered, with_item, First, Among, IsFarNumbered, IsHeavyNumbered, IsRoleAt, Vanishes, NoneFar}
use Rattle.sg_num.specs.declared.step.Stop.{Stop as NumberStop}
use Rattle.sg_num.specs.declared.step.Stop.TheVariants.{Memory, Wide}
use Rattle.sg_parts.specs.Planes.{VanishesAt, IsLeastZero}
use Rattle.sg_parts.specs.Weights.{StopsHeavy}
use Rattle.sg_parts.specs.Zeros.{IsZero}
use Rattle.sg_parts.specs.declared.zeros.Zero.TheVariants.{At, Nowhere}
use Rattle.sg_parts.proofs.PlaneValues.{IsPolynomialTree}
use Rattle.sg_parts.proofs.Glue.{zero_part, none_below, nowhere_is}
use Rattle.sg_parts.specs.Weights.{HasNaturals}
use Rattle.sg_expr.specs.Tree.{tree_of}
use Rattle.sg_expr.specs.declared.tree.Expr.{Expr}
use Rattle.sg_limits.specs.declared.fault.LimitFault.{LimitFault}
use Rattle.sg_limits.specs.declared.fault.LimitFault.TheVariants.{Nodes, Degree, Sums, Products, FarPole, Pole, ZeroFactor, Stop}
use Rattle.sg_limits.specs.declared.walk.Place.{Place}
use Rattle.sg_limits.specs.declared.walk.Found.{Found}
use Rattle.sg_limits.specs.declared.walk.Findings.{Findings}
use Rattle.sg_limits.specs.Walks.{items_of, own_items, at_place, IsBare, IsFound, AreFound, IsFirstFar, IsWalkFault, IsLeastAt, AreWalked}
use Rattle.sg_limits.proofs.Elementary.{each_append}

module _ (P : Numbered → Type 0) where
  pub first_left : (xs ys : List Numbered) (x : Numbered) → First P xs x → First P (xs ++ ys) x
  first_left xs ys x f = record {
    before = f.before;
    after = f.after ++ ys;
    split = ap (λ l. l ++ ys) f.split ∙ append_assoc f.before (x ∷ f.after) ys;
    none_before = f.none_before;
    holds = f.holds;
  }

  pub first_right : (xs ys : List Numbered) (x : Numbered) → Each (λ y. P y → ⊥) xs → First P ys x → First P (xs ++ ys) x
  first_right xs ys x none f = record {
    before = xs ++ f.before;
    after = f.after;
    split = ap (λ l. xs ++ l) f.split ∙ sym (append_assoc xs f.before (x ∷ f.after));
    none_before = each_append (λ y. P y → ⊥) xs f.before none f.none_before;
    holds = f.holds;
  }

  pub first_alone : (x : Numbered) → P x → First P (x ∷ []) x
  first_alone x h = record { before = []; after = []; split = refl; none_before = tt; holds = h }

  pub among_left : (xs ys : List Numbered) → Among P xs → Among P (xs ++ ys)
  among_left xs ys f = record {
    before = f.before;
    element = f.element;
    after = f.after ++ ys;
    split = ap (λ l. l ++ ys) f.split ∙ append_assoc f.before (f.element ∷ f.after) ys;
    holds = f.holds;
  }

  pub among_right : (xs ys : List Numbered) → Among P ys → Among P (xs ++ ys)
  among_right xs ys f = record {
    before = xs ++ f.before;
    element = f.element;
    after = f.after;
    split = ap (λ l. xs ++ l) f.split ∙ sym (append_assoc xs f.before (f.element ∷ f.after));
    holds = f.holds;
  }

  pub among_alone : (x : Numbered) → P x → Among P (x ∷ [])
  among_alone x h = record { before = []; element = x; after = []; split = refl; holds = h }

-- ---- The parts of a tree

pub with_item-append : (i : ℕ) (ps qs : List Part) → with_item i (ps ++ qs) ≡ with_item i ps ++ with_item i qs
with_item-append i [] qs = refl
with_item-append i (p ∷ ps) qs = ap (λ l. record { item = i; part = p } ∷ l) (with_item-append i ps qs)

pub items_add : (place : Place) (r : Standing) (x y : Tree) → items_of place r (add x y) ≡ own_items place r (add x y) ++ (items_of place anywhere x ++ items_of place anywhere y)
items_add place anywhere x y = with_item-append place.item (parts anywhere place.limit place.depth x) (parts anywhere place.limit place.depth y)
items_add place divides x y = ap (λ l. at_place place divides (add x y) ∷ l) (with_item-append place.item (parts anywhere place.limit place.depth x) (parts anywhere place.limit place.depth y))
items_add place is_body x y = ap (λ l. at_place place is_body (add x y) ∷ l) (with_item-append place.item (parts anywhere place.limit place.depth x) (parts anywhere place.limit place.depth y))

pub items_mul : (place : Place) (r : Standing) (x y : Tree) → items_of place r (mul x y) ≡ items_of place r x ++ items_of place r y
items_mul place r x y = with_item-append place.item (parts r place.limit place.depth x) (parts r place.limit place.depth y)

pub items_div : (place : Place) (r : Standing) (x y : Tree) → items_of place r (div x y) ≡ items_of place r x ++ items_of place divides y
items_div place r x y = with_item-append place.item (parts r place.limit place.depth x) (parts divides place.limit place.depth y)

pub items_power_none : (place : Place) (r : Standing) (x : Tree) (e : ℕ) → e ≡ 0 → items_of place anywhere x ≡ items_of place r (power x e)
items_power_none place r x zero h = refl
items_power_none place r x (suc e) h = absurd (omega arith)

pub items_power_some : (place : Place) (r : Standing) (x : Tree) (e : ℕ) → 0 < e → items_of place r x ≡ items_of place r (power x e)
items_power_some place r x zero h = absurd (omega arith)
items_power_some place r x (suc e) h = refl

inner_parts : (i d n : ℕ) (r : Standing) (l : ℤ) (t : Tree) → n ≡ suc d → with_item i (parts r l n t) ≡ with_item i (parts r l (suc d) t)
inner_parts i d n r l t e = rw e refl

pub items_sum : (place inner : Place) (r : Standing) (body : Tree) (from : ℤ) → inner ≡ record { item = place.item; limit = from; depth = place.depth + 1 } → items_of inner anywhere body ≡ items_of place r (sum_from from body)
items_sum place inner r body from e = ap (λ (p : Place). items_of p anywhere body) e ∙ inner_parts place.item place.depth (place.depth + 1) anywhere from body (add-one place.depth)

pub items_prod : (place inner : Place) (r : Standing) (body : Tree) (from : ℤ) → inner ≡ record { item = place.item; limit = from; depth = place.depth + 1 } → items_of inner is_body body ≡ items_of place r (prod_from from body)
items_prod place inner r body from e = ap (λ (p : Place). items_of p is_body body) e ∙ inner_parts place.item place.depth (place.depth + 1) is_body from body (add-one place.depth)

-- ---- Bare trees

pub bare_naturals : (t : Tree) → IsBare t → HasNaturals t
bare_naturals (numeral c) h = h
bare_naturals here h = tt
bare_naturals param h = tt
bare_naturals (add x y) h = (bare_naturals x h.0, bare_naturals y h.1)
bare_naturals (neg x) h = bare_naturals x h
bare_naturals (mul x y) h = (bare_naturals x h.0, bare_naturals y h.1)
bare_naturals (div x y) h = (bare_naturals x h.0, bare_naturals y h.1)
bare_naturals (power x e) h = bare_naturals x h
bare_naturals (sum_from from body) h = tt
bare_naturals (prod_from from body) h = tt

pub bare_ratio : (t : Tree) → IsBare t → IsPolynomialTree (ratio_of t).over × IsPolynomialTree (ratio_of t).under
bare_ratio (numeral c) h = (tt, tt)
bare_ratio here h = (tt, tt)
bare_ratio param h = (tt, tt)
bare_ratio (add x y) h = let (p, q) = bare_ratio x h.0 in let (r, s) = bare_ratio y h.1 in (((p, s), (r, q)), (q, s))
bare_ratio (neg x) h = bare_ratio x h
bare_ratio (mul x y) h = let (p, q) = bare_ratio x h.0 in let (r, s) = bare_ratio y h.1 in ((p, r), (q, s))
bare_ratio (div x y) h = let (p, q) = bare_ratio x h.0 in let (r, s) = bare_ratio y h.1 in ((p, s), (q, r))
bare_ratio (power x e) h = bare_ratio x h
bare_ratio (sum_from from body) h = absurd h
bare_ratio (prod_from from body) h = absurd h

pub bare_polynomial : (t : Tree) → IsBare t → IsPolynomialTree (numer t)
bare_polynomial t h = (bare_ratio t h).0

-- ---- Faults

far_left : (item depth : ℕ) (xs ys : List Numbered) {part : Expr} → IsFirstFar item part depth xs → IsFirstFar item part depth (xs ++ ys)
far_left item depth xs ys f = record { element = f.element; first = first_left IsFarNumbered xs ys f.element f.first; shown = f.shown }

far_right : (item depth : ℕ) (xs ys : List Numbered) {part : Expr} → NoneFar xs → IsFirstFar item part depth ys → IsFirstFar item part depth (xs ++ ys)
far_right item depth xs ys none f = record { element = f.element; first = first_right IsFarNumbered xs ys f.element none f.first; shown = f.shown }

pub fault_left : (f : LimitFault) (xs ys : List Numbered) → IsWalkFault f xs → IsWalkFault f (xs ++ ys)
fault_left (Nodes item) xs ys h = h
fault_left (Degree item) xs ys h = h
fault_left Sums xs ys h = h
fault_left Products xs ys h = h
fault_left (FarPole item part depth) xs ys h = far_left item depth xs ys h
fault_left (Pole item at part depth) xs ys h = h
fault_left (ZeroFactor item at part depth) xs ys h = h
fault_left (Stop (Memory e)) xs ys h = tt
fault_left (Stop (Wide w)) xs ys h = (h.0, among_left IsHeavyNumbered xs ys h.1)

pub fault_right : (f : LimitFault) (xs ys : List Numbered) → NoneFar xs → IsWalkFault f ys → IsWalkFault f (xs ++ ys)
fault_right (Nodes item) xs ys none h = h
fault_right (Degree item) xs ys none h = h
fault_right Sums xs ys none h = h
fault_right Products xs ys none h = h
fault_right (FarPole item part depth) xs ys none h = far_right item depth xs ys none h
fault_right (Pole item at part depth) xs ys none h = h
fault_right (ZeroFactor item at part depth) xs ys none h = h
fault_right (Stop (Memory e)) xs ys none h = tt
fault_right (Stop (Wide w)) xs ys none h = (h.0, among_right IsHeavyNumbered xs ys h.1)

-- ---- One part more

none_append : (P : Numbered → Type 0) (xs : List Numbered) (y : Numbered) → Each (λ x. P x → ⊥) xs → (P y → ⊥) → Each (λ x. P x → ⊥) (xs ++ y ∷ [])
none_append P xs y h k = each_append (λ x. P x → ⊥) xs (y ∷ []) h (k, tt)

-- what was found stays the first
pub found_kept : (r : Standing) (xs ys : List Numbered) (f : Found) → IsFound r xs (Some f) → IsFound r (xs ++ ys) (Some f)
found_kept r xs ys f h = record {
  element = h.element;
  is = record { first = first_left (Vanishes r) xs ys h.element h.is.first; zero = h.is.zero; least = h.is.least };
  shown = h.shown;
}

-- a part that doesn't vanish in this role
pub found_nothing : (r : Standing) (xs : List Numbered) (y : Numbered) (o : Option Found) → (Vanishes r y → ⊥) → IsFound r xs o → IsFound r (xs ++ y ∷ []) o
found_nothing r xs y None h none = none_append (Vanishes r) xs y none h
found_nothing r xs y (Some f) h first = found_kept r xs (y ∷ []) f first

pub found_first : (r : Standing) (xs : List Numbered) (y : Numbered) (f : Found) → IsFound r xs None → IsRoleAt r f.at y → ((j : ℤ) → j <ℤ f.at → IsRoleAt r j y → ⊥) → y.item ≡ f.place.item → y.part.tree ≡ tree_of f.part → y.part.depth ≡ f.place.depth
    → IsFound r (xs ++ y ∷ []) (Some f)
found_first r xs y f none vanishes least i t d = record {
  element = y;
  is = record {
    first = record { before = xs; after = []; split = refl; none_before = none; holds = (f.at, vanishes) };
    zero = vanishes;
    least = least;
  };
  shown = record { item_is = i; tree_is = t; depth_is = d };
}

pub body_no_divisor : (place : Place) (t : Tree) → Vanishes divides (at_place place is_body t) → ⊥
body_no_divisor place t h = apart h.1.0
  where
    apart : ◌≡◌ {A = Standing} is_body divides → ⊥
    apart e = cc

pub divisor_no_body : (place : Place) (t : Tree) → Vanishes is_body (at_place place divides t) → ⊥
divisor_no_body place t h = apart h.1.0
  where
    apart : ◌≡◌ {A = Standing} divides is_body → ⊥
    apart e = cc

-- ---- Walks, one after another

pub chain : (xs ys : List Numbered) (f g : Findings) (result : Result Findings LimitFault) → AreWalked xs f (Ok g) → AreWalked ys g result → AreWalked (xs ++ ys) f result
chain xs ys f g (Ok h) x y = record {
  near = each_append (λ z. IsFarNumbered z → ⊥) xs ys x.near y.near;
  found_are = λ front k. subst (λ zs. AreFound zs h) (append_assoc front xs ys) (y.found_are (front ++ xs) (x.found_are front k));
  fault = tt;
}
chain xs ys f g (Err e) x y = record { near = tt; found_are = λ front k. tt; fault = fault_right e xs ys x.near y.fault }

pub stop : (xs ys : List Numbered) (f : Findings) (e : LimitFault) → AreWalked xs f (Err e) → AreWalked (xs ++ ys) f (Err e)
stop xs ys f e x = record { near = tt; found_are = λ front k. tt; fault = fault_left e xs ys x.fault }

-- the same parts, named in another way
pub named : (xs ys : List Numbered) (f : Findings) (result : Result Findings LimitFault) → xs ≡ ys → AreWalked xs f result → AreWalked ys f result
named xs ys f result e h = subst (λ zs. AreWalked zs f result) e h

pub no_items : (f : Findings) → AreWalked [] f (Ok f)
no_items f = record { near = tt; found_are = λ front k. subst (λ zs. AreFound zs f) (sym (append-nil front)) k; fault = tt }

-- ---- A part of its own

module _ (place : Place) (t : Tree) (bare : IsBare t) where
  pub far_part : (r : Standing) (f : Findings) (part : Expr) → 4096 < cauchy (leading (coefficients (numer t))) → tree_of part ≡ t → AreWalked (at_place place r t ∷ []) f (Err (FarPole place.item part place.depth))
  far_part r f part h e = record {
    near = tt;
    found_are = λ front k. tt;
    fault = record { element = at_place place r t; first = first_alone IsFarNumbered (at_place place r t) h; shown = record { item_is = refl; tree_is = sym e; depth_is = refl } };
  }

  near_part : (r : Standing) → cauchy (leading (coefficients (numer t))) ≤ 4096 → NoneFar (at_place place r t ∷ [])
  near_part r le = (λ far. absurd (omega (arith, le, far)), tt)

  nowhere : (r s : Standing) → ((m : ℤ) → place.limit ≤ℤ m → VanishesAt (coefficients (numer t)) m → ⊥) → Vanishes s (at_place place r t) → ⊥
  nowhere r s none z = nowhere_is (at_place place r t).part (bare_polynomial t bare) none z.0 z.1.1

  least_part : (r : Standing) (m : ℤ) → IsLeastZero (coefficients (numer t)) place.limit m → IsLeastAt place r t m
  least_part r m z = record {
    zero = (refl, zero_part (at_place place r t).part (bare_polynomial t bare) m z.inside z.zero);
    least = λ j lt at. none_below (at_place place r t).part (bare_polynomial t bare) m z.least j lt at.1;
  }

  pub nowhere_divisor : (f : Findings) → IsZero Nowhere (coefficients (numer t)) place.limit → AreWalked (at_place place divides t ∷ []) f (Ok f)
  nowhere_divisor f (le, none) = record {
    near = near_part divides le;
    found_are = λ front k. record {
      pole = found_nothing divides front (at_place place divides t) f.pole (nowhere divides divides none) k.pole;
      factor = found_nothing is_body front (at_place place divides t) f.factor (nowhere divides is_body none) k.factor;
    };
    fault = tt;
  }

  pub nowhere_body : (f : Findings) → IsZero Nowhere (coefficients (numer t)) place.limit → AreWalked (at_place place is_body t ∷ []) f (Ok f)
  nowhere_body f (le, none) = record {
    near = near_part is_body le;
    found_are = λ front k. record {
      pole = found_nothing divides front (at_place place is_body t) f.pole (nowhere is_body divides none) k.pole;
      factor = found_nothing is_body front (at_place place is_body t) f.factor (nowhere is_body is_body none) k.factor;
    };
    fault = tt;
  }

  pub pole_divisor : (f : Findings) (m n : ℤ) (o : Option Found) → n ≡ m → IsZero (At m) (coefficients (numer t)) place.limit
      → ((r : Standing) (front : List Numbered) → IsFound r front f.pole → IsLeastAt place r t n → IsFound r (front ++ at_place place r t ∷ []) o)
      → AreWalked (at_place place divides t ∷ []) f (Ok (record { pole = o; factor = f.factor }))
  pole_divisor f m n o e (le, z) step = record {
    near = near_part divides le;
    found_are = λ front k. record {
      pole = step divides front k.pole (subst (IsLeastAt place divides t) (sym e) (least_part divides m z));
      factor = found_nothing is_body front (at_place place divides t) f.factor (divisor_no_body place t) k.factor;
    };
    fault = tt;
  }

  pub factor_body : (f : Findings) (m n : ℤ) (o : Option Found) → n ≡ m → IsZero (At m) (coefficients (numer t)) place.limit
      → ((r : Standing) (front : List Numbered) → IsFound r front f.factor → IsLeastAt place r t n → IsFound r (front ++ at_place place r t ∷ []) o)
      → AreWalked (at_place place is_body t ∷ []) f (Ok (record { pole = f.pole; factor = o }))
  factor_body f m n o e (le, z) step = record {
    near = near_part is_body le;
    found_are = λ front k. record {
      pole = found_nothing divides front (at_place place is_body t) f.pole (body_no_divisor place t) k.pole;
      factor = step is_body front k.factor (subst (IsLeastAt place is_body t) (sym e) (least_part is_body m z));
    };
    fault = tt;
  }

pub stop_part : (place : Place) (r : Standing) (t : Tree) (f : Findings) (s : NumberStop) → StopsHeavy s t → AreWalked (at_place place r t ∷ []) f (Err (Stop s))
stop_part place r t f (Memory e) h = record { near = tt; found_are = λ front k. tt; fault = tt }
stop_part place r t f (Wide w) h = record { near = tt; found_are = λ front k. tt; fault = (h.0, among_alone IsHeavyNumbered (at_place place r t) h.1) }
