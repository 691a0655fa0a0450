-- What follows where no part is 0: the theorem that the solvers stand on.
--   form_no_param          without a parameter in the scope there is none in the tree
--   IsFree                 the part is 0 nowhere from its limit on
--   plain_separate         without a parameter in the tree any letter tells its parts from 0
--   each_spared            the parts of a tree in form are spared, where they are free and the letter tells them from 0
--   bodies_of, has_bodies  so each body of a sum or product, at any depth, has a value from its lower limit on, that of a product one other than 0
use Rattle.std.proofs.Common.{ℕ, zero, suc, Bool, true, false, List, [], ◌∷◌, ◌++◌, ℤ, ◌≤ℤ◌}
use Rattle.sg_algebra.specs.Coefficients.{Each}
use Rattle.sg_algebra.proofs.Lists.{each_to}
use Rattle.sg_algebra.proofs.Value.{Value}
use Rattle.sg_spec.specs.Printing.{InForm}
use Rattle.sg_spec.specs.Tree.{Tree, numeral, here, param, add, neg, mul, div, power, sum_from, prod_from}
use Rattle.sg_spec.specs.Parts.{Plane, coefficients, Part, Role, anywhere, divides, is_body, parts, own_part, numer, IsZeroAt}
use Rattle.sg_limits.proofs.SoundWorth.{IsSpared, Some', Apart, spared_value, spared_body}
use Rattle.sg_limits.proofs.Spared.{IsPlainPart, plain_parts, NoParam, ratio_no_param, short_tree, IsShortPlane, SeparatesAt, one_row, no_row, spared_part}
use Rattle.sg_limits.proofs.Elementary.{each_append, each_left, each_right, not_true}

pub form_no_param : (inside : Bool) (t : Tree) → InForm false inside t → NoParam t
form_no_param inside (numeral c) f = tt
form_no_param inside here f = tt
form_no_param inside param f = absurd (not_true f)
form_no_param inside (add x y) f = (form_no_param inside x f.0, form_no_param inside y f.1)
form_no_param inside (neg x) f = form_no_param inside x f
form_no_param inside (mul x y) f = (form_no_param inside x f.0, form_no_param inside y f.1)
form_no_param inside (div x y) f = (form_no_param inside x f.0, form_no_param inside y f.1)
form_no_param inside (power x e) f = form_no_param inside x f
form_no_param inside (sum_from from body) f = form_no_param false body f.2
form_no_param inside (prod_from from body) f = form_no_param true body f.2

abbrev pub HasNoParam : Part → Type 0
HasNoParam p = NoParam p.tree

abbrev pub IsFree : Part → Type 0
IsFree p = (k : ℤ) → IsZeroAt p k → ⊥

own : (r : Role) (l : ℤ) (depth : ℕ) (t : Tree) (inner : List Part) → NoParam t → Each HasNoParam inner → Each HasNoParam (own_part r l depth t inner)
own anywhere l depth t inner h rest = rest
own divides l depth t inner h rest = (h, rest)
own is_body l depth t inner h rest = (h, rest)

no_param_parts : (r : Role) (t : Tree) (l : ℤ) (depth : ℕ) → NoParam t → Each HasNoParam (parts r l depth t)
no_param_parts r (numeral c) l depth h = own r l depth (numeral c) [] tt tt
no_param_parts r here l depth h = own r l depth here [] tt tt
no_param_parts r param l depth h = absurd h
no_param_parts r (add x y) l depth h =
    own r l depth (add x y) (parts anywhere l depth x ++ parts anywhere l depth y) h
    (each_append HasNoParam (parts anywhere l depth x) (parts anywhere l depth y) (no_param_parts anywhere x l depth h.0) (no_param_parts anywhere y l depth h.1))
no_param_parts r (neg x) l depth h = no_param_parts r x l depth h
no_param_parts r (mul x y) l depth h = each_append HasNoParam (parts r l depth x) (parts r l depth y) (no_param_parts r x l depth h.0) (no_param_parts r y l depth h.1)
no_param_parts r (div x y) l depth h = each_append HasNoParam (parts r l depth x) (parts divides l depth y) (no_param_parts r x l depth h.0) (no_param_parts divides y l depth h.1)
no_param_parts r (power x zero) l depth h = no_param_parts anywhere x l depth h
no_param_parts r (power x (suc e)) l depth h = no_param_parts r x l depth h
no_param_parts r (sum_from from body) l depth h = no_param_parts anywhere body from (suc depth) h
no_param_parts r (prod_from from body) l depth h = no_param_parts is_body body from (suc depth) h

module _ {d : ℕ} (letter : Value d) where
  -- the letter tells the polynomial of the part from 0
  abbrev pub IsSeparate : Part → Type 0
  IsSeparate p = SeparatesAt letter (coefficients (numer p.tree))

  short_separates : (p : Plane) → IsShortPlane p → SeparatesAt letter p
  short_separates [] h = no_row letter
  short_separates (row ∷ []) h = one_row letter row
  short_separates (row ∷ (next ∷ p)) h = absurd h

  short_separate : (p : Part) → NoParam p.tree → IsSeparate p
  short_separate p n = short_separates (coefficients (numer p.tree)) (short_tree (numer p.tree) (ratio_no_param p.tree n).0)

  pub plain_separate : (t : Tree) (a : ℤ) → InForm false false t → Each IsSeparate (parts anywhere a 0 t)
  plain_separate t a f = each_to HasNoParam IsSeparate (parts anywhere a 0 t) short_separate (no_param_parts anywhere t a 0 (form_no_param false t f))

  all_spared : (ps : List Part) → Each IsSeparate ps → Each IsPlainPart ps → Each IsFree ps → Each (IsSpared letter) ps
  all_spared [] s h f = tt
  all_spared (p ∷ ps) s h f = (spared_part letter p s.0 h.0 f.0, all_spared ps s.1 h.1 f.1)

  pub each_spared : (known : Bool) (t : Tree) (a : ℤ) → InForm known false t → Each IsSeparate (parts anywhere a 0 t) → Each IsFree (parts anywhere a 0 t) → Each (IsSpared letter) (parts anywhere a 0 t)
  each_spared known t a f separate free = all_spared (parts anywhere a 0 t) separate (plain_parts known false anywhere t a 0 f tt) free

  -- ---- Bodies

  abbrev pub bodies_of : Tree → Type 0
  bodies_of (numeral c) = Unit {0}
  bodies_of here = Unit {0}
  bodies_of param = Unit {0}
  bodies_of (add x y) = bodies_of x × bodies_of y
  bodies_of (neg x) = bodies_of x
  bodies_of (mul x y) = bodies_of x × bodies_of y
  bodies_of (div x y) = bodies_of x × bodies_of y
  bodies_of (power x e) = bodies_of x
  bodies_of (sum_from from body) = ((j : ℤ) → from ≤ℤ j → Some' letter body j) × bodies_of body
  bodies_of (prod_from from body) = ((j : ℤ) → from ≤ℤ j → Apart letter body j) × bodies_of body

  inner : (r : Role) (l : ℤ) (depth : ℕ) (t : Tree) (rest : List Part) → Each (IsSpared letter) (own_part r l depth t rest) → Each (IsSpared letter) rest
  inner anywhere l depth t rest h = h
  inner divides l depth t rest h = h.1
  inner is_body l depth t rest h = h.1

  pub has_bodies : (known inside : Bool) (r : Role) (t : Tree) (l : ℤ) (depth : ℕ) → InForm known inside t → Each (IsSpared letter) (parts r l depth t) → bodies_of t
  has_bodies known inside r (numeral c) l depth f s = tt
  has_bodies known inside r here l depth f s = tt
  has_bodies known inside r param l depth f s = tt
  has_bodies known inside r (add x y) l depth f s =
      let both = inner r l depth (add x y) (parts anywhere l depth x ++ parts anywhere l depth y) s in
      (has_bodies known inside anywhere x l depth f.0 (each_left (IsSpared letter) (parts anywhere l depth x) (parts anywhere l depth y) both), has_bodies known inside anywhere y l depth f.1 (each_right (IsSpared letter) (parts anywhere l depth x) (parts anywhere l depth y) both))
  has_bodies known inside r (neg x) l depth f s = has_bodies known inside r x l depth f s
  has_bodies known inside r (mul x y) l depth f s =
      (has_bodies known inside r x l depth f.0 (each_left (IsSpared letter) (parts r l depth x) (parts r l depth y) s), has_bodies known inside r y l depth f.1 (each_right (IsSpared letter) (parts r l depth x) (parts r l depth y) s))
  has_bodies known inside r (div x y) l depth f s =
      (has_bodies known inside r x l depth f.0 (each_left (IsSpared letter) (parts r l depth x) (parts divides l depth y) s), has_bodies known inside divides y l depth f.1 (each_right (IsSpared letter) (parts r l depth x) (parts divides l depth y) s))
  has_bodies known inside r (power x zero) l depth f s = has_bodies known inside anywhere x l depth f s
  has_bodies known inside r (power x (suc e)) l depth f s = has_bodies known inside r x l depth f s
  has_bodies known inside r (sum_from from body) l depth f s =
      (λ j h. spared_value letter known false body from (suc depth) f.2 s j h, has_bodies known false anywhere body from (suc depth) f.2 s)
  has_bodies known inside r (prod_from from body) l depth f s =
      (λ j h. spared_body letter known body from (suc depth) f.2 s j h, has_bodies known true is_body body from (suc depth) f.2 s)
