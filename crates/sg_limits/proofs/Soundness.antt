-- Expressions without a part that is 0 are sound.
--   have_roles           each part is one of a divisor or of a product's body
--   are_free             so none of them is 0, where none is refused
--   sound                expressions in form without a part that is 0 are sound, where the letter tells their parts from 0
--   plain_sound          so they are without a parameter, whatever the letter is
--   variable_sound       and with a parameter, where the letter is the variable of the rational functions
use Rattle.std.proofs.Common.{◌≡◌, ℕ, zero, suc, ◌+◌, refl, Bool, true, false, List, [], ◌∷◌, ◌++◌, ℤ, Some, ◌⊎◌, inl, inr}
use Rattle.sg_algebra.specs.Coefficients.{Each}
use Rattle.sg_algebra.proofs.Lists.{each_all}
use Rattle.sg_algebra.proofs.Value.{Value}
use Rattle.sg_spec.specs.Printing.{InForm}
use Rattle.sg_spec.specs.Tree.{Tree, numeral, here, param, add, neg, mul, div, power, sum_from, prod_from}
use Rattle.sg_spec.specs.Parts.{Part, Role, anywhere, divides, is_body, parts, own_part, numer, coefficients}
use Rattle.sg_spec.specs.Faults.{Numbered, with_item, parts_from, parts_of, Vanishes, NoneZero, AreSpared}
use Rattle.sg_worth_theory.proofs.Bodies.{HasValues}
use Rattle.sg_limits.specs.Sound.{IsSound}
use Rattle.sg_limits.proofs.Elementary.{each_append, each_left, each_right}
use Rattle.sg_limits.proofs.SoundWorth.{spared_value}
use Rattle.sg_limits.proofs.Sounding.{IsFree, IsSeparate, plain_separate, each_spared, bodies_of, has_bodies}
use Rattle.sg_limits.proofs.Bodies.{sound_sums, sound_prods}
use Rattle.sg_limits.proofs.Starts.{sums_start, prods_start}
use Rattle.sg_limits.proofs.Letters.{variable_letter, variable_separates}

abbrev HasRole : Part → Type 0
HasRole p = (p.role ≡ divides) ⊎ (p.role ≡ is_body)

own : (r : Role) (l : ℤ) (depth : ℕ) (t : Tree) (inner : List Part) → Each HasRole inner → Each HasRole (own_part r l depth t inner)
own anywhere l depth t inner h = h
own divides l depth t inner h = (inl refl, h)
own is_body l depth t inner h = (inr refl, h)

have_roles : (r : Role) (t : Tree) (l : ℤ) (depth : ℕ) → Each HasRole (parts r l depth t)
have_roles r (numeral c) l depth = own r l depth (numeral c) [] tt
have_roles r here l depth = own r l depth here [] tt
have_roles r param l depth = own r l depth param [] tt
have_roles r (add x y) l depth =
    own r l depth (add x y) (parts anywhere l depth x ++ parts anywhere l depth y) (each_append HasRole (parts anywhere l depth x) (parts anywhere l depth y) (have_roles anywhere x l depth) (have_roles anywhere y l depth))
have_roles r (neg x) l depth = have_roles r x l depth
have_roles r (mul x y) l depth = each_append HasRole (parts r l depth x) (parts r l depth y) (have_roles r x l depth) (have_roles r y l depth)
have_roles r (div x y) l depth = each_append HasRole (parts r l depth x) (parts divides l depth y) (have_roles r x l depth) (have_roles divides y l depth)
have_roles r (power x zero) l depth = have_roles anywhere x l depth
have_roles r (power x (suc e)) l depth = have_roles r x l depth
have_roles r (sum_from from body) l depth = have_roles anywhere body from (suc depth)
have_roles r (prod_from from body) l depth = have_roles is_body body from (suc depth)

free : (i : ℕ) (p : Part) → HasRole p → (Vanishes divides (record { item = i; part = p }) → ⊥) → (Vanishes is_body (record { item = i; part = p }) → ⊥) → IsFree p
free i p (inl e) no_pole no_zero k at = no_pole (k, (e, at))
free i p (inr e) no_pole no_zero k at = no_zero (k, (e, at))

are_free : (i : ℕ) (ps : List Part) → Each HasRole ps → NoneZero divides (with_item i ps) → NoneZero is_body (with_item i ps) → Each IsFree ps
are_free i [] r h k = tt
are_free i (p ∷ ps) r h k = (free i p r.0 h.0 k.0, are_free i ps r.1 h.1 k.1)

module _ {d : ℕ} (letter : Value d) where
  abbrev pub AreSeparate : ℤ → Tree → Type 0
  AreSeparate a t = Each (IsSeparate letter) (parts anywhere a 0 t)

  abbrev Holds : ℤ → Tree → Type 0
  Holds a t = HasValues letter a t × bodies_of letter t

  one_holds : (known : Bool) (a : ℤ) (t : Tree) → InForm known false t → AreSeparate a t → Each IsFree (parts anywhere a 0 t) → Holds a t
  one_holds known a t f separate none =
      let spared = each_spared letter known t a f separate none in
      (spared_value letter known false t a 0 f spared, has_bodies letter known false anywhere t a 0 f spared)

  each_holds : (known : Bool) (a : ℤ) (i : ℕ) (ts : List Tree) → Each (InForm known false) ts → Each (AreSeparate a) ts → NoneZero divides (parts_from i a ts) → NoneZero is_body (parts_from i a ts) → Each (HasValues letter a) ts × Each (bodies_of letter) ts
  each_holds known a i [] f s h k = (tt, tt)
  each_holds known a i (t ∷ ts) f s h k =
      let first = with_item i (parts anywhere a 0 t) in
      let later = parts_from (i + 1) a ts in
      let P = λ (x : Numbered). Vanishes divides x → ⊥ in
      let Q = λ (x : Numbered). Vanishes is_body x → ⊥ in
      let none = are_free i (parts anywhere a 0 t) (have_roles anywhere t a 0) (each_left P first later h) (each_left Q first later k) in
      let one = one_holds known a t f.0 s.0 none in
      let rest = each_holds known a (i + 1) ts f.1 s.1 (each_right P first later h) (each_right Q first later k) in
      ((one.0, rest.0), (one.1, rest.1))

  pub sound : (known : Bool) (a : ℤ) (es : List Tree) → Each (InForm known false) es → Each (AreSeparate a) es → AreSpared (parts_of (Some a) es) → IsSound letter a es
  sound known a es f separate spared =
      let (values, bodies) = each_holds known a 1 es f separate spared.no_pole spared.no_zero_factor in
      record {
        values = values;
        sums_have = sound_sums letter es bodies;
        products_have = sound_prods letter es bodies;
        sums_start = sums_start es a;
        products_start = prods_start es a;
      }

  each_plain : (a : ℤ) (es : List Tree) → Each (InForm false false) es → Each (AreSeparate a) es
  each_plain a [] f = tt
  each_plain a (e ∷ es) f = (plain_separate letter e a f.0, each_plain a es f.1)

  pub plain_sound : (a : ℤ) (es : List Tree) → Each (InForm false false) es → AreSpared (parts_of (Some a) es) → IsSound letter a es
  plain_sound a es f spared = sound false a es f (each_plain a es f) spared

pub variable_sound : (d : ℕ) (a : ℤ) (es : List Tree) → Each (InForm true false) es → AreSpared (parts_of (Some a) es) → IsSound (variable_letter d) a es
variable_sound d a es f spared =
    sound (variable_letter d) true a es f
    (each_all (AreSeparate (variable_letter d) a) es (λ e. each_all (IsSeparate (variable_letter d)) (parts anywhere a 0 e) (λ p. variable_separates d (coefficients (numer p.tree)))))
    spared
