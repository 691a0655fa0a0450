-- The next byte tells the way of the part on top: whatever a stack builds, it builds by that way.
--   Good            what comes after each part of a stack is foreseen
--   begins          what a stack spells begins with a byte that opens it
--   ended           a stack that spells nothing has only parts that may be empty
--   builds_goes, builds_back     by the way that the next byte tells, and back
--   builds_end      at the end, by the last way
use Rattle.std.specs.Prelude.{◌≡◌, ℕ, ◌+◌, ◌≤◌, List, [], ◌∷◌, ◌++◌, Bool, true, false, cond, not, ◌&&◌, ◌≢◌, ◌⊎◌, codes}
use Rattle.std.proofs.Common.{refl, sym, ◌∙◌, arith, subst, inl, inr}
use Rattle.std.proofs.lemmas.Bool.Decides.{nat_tests}
use Rattle.sg_spec.specs.Grammar.{Action, letter, use_name, make_sum, make_product, make_factorial, make_binomial, make_power, IsOneOf, first, later}
use Rattle.sg_syntax.specs.Table.{Symbol, span, act, blanks, worded, variable, call, bounds_and_body, name_and_order, one_name, expr_and_name, const_and_name, token, rules}
use Rattle.sg_syntax.proofs.Deriving.{Spells, nothing, one_byte, by_rule, is_act, Builds, none_left, eats, acts, opens_by}
use Rattle.sg_syntax.specs.Ranges.{Range, from, has}
use Rattle.sg_syntax.specs.Stack.{firsts, ends, ways, opens, may_end, first_fit, predict}
use Rattle.sg_syntax.proofs.Ranges.{covers, apart, both_left, both_right, has-covers, has-apart, has-append, has-append_left, has-append_right}
use Rattle.sg_syntax.proofs.Tables.{follows, stands, is_span, is_worded, keeps, implies, implied, begins_as, all_keep, apart_from, tells, firm, is_empty, last_of, rules_begin, ways_keep, ways_firm, rules_firm, ways_tell, ways_end}

pub data Good : List Symbol → Type 0 where
  bottom : Good []
  upon : {part : Symbol} {parts : List Symbol} → stands part ≡ true
      → ((b : ℕ) → has (opens parts []) b ≡ true → has (follows part) b ≡ true) → Good parts → Good (part ∷ parts)

-- the next byte within a set that opens after these ranges
head_grows : (e : Bool) (r s t : List Range) (b : ℕ) → (has s b ≡ true → has t b ≡ true) → has (cond e (r ++ s) r) b ≡ true → has (cond e (r ++ t) r) b ≡ true
head_grows true r s t b f h = elim (has-append r s b h) [ inl i ↦ has-append_left r t b i | inr i ↦ has-append_right r t b (f i) ]
head_grows false r s t b f h = h

opens_within : (way st : List Symbol) (f : List Range) (b : ℕ) → ((c : ℕ) → has (opens st []) c ≡ true → has f c ≡ true)
    → has (opens (way ++ st) []) b ≡ true → has (opens way f) b ≡ true
opens_within [] st f b g h = g b h
opens_within (part ∷ parts) st f b g h = head_grows (ends part) (firsts part) (opens (parts ++ st) []) (opens parts f) b (opens_within parts st f b g) h

head_splits : (e m : Bool) (r s t u : List Range) (b : ℕ) → (has s b ≡ true → (has t b ≡ true) ⊎ ((m ≡ true) × (has u b ≡ true)))
    → has (cond e (r ++ s) r) b ≡ true → (has (cond e (r ++ t) r) b ≡ true) ⊎ (((e && m) ≡ true) × (has u b ≡ true))
head_splits true m r s t u b f h = elim (has-append r s b h) [
  | inl i ↦ inl (has-append_left r t b i)
  | inr i ↦ elim (f i) [ inl j ↦ inl (has-append_right r t b j) | inr j ↦ inr j ]
]
head_splits false m r s t u b f h = inl h

opens_split : (way st : List Symbol) (b : ℕ) → has (opens (way ++ st) []) b ≡ true
    → (has (opens way []) b ≡ true) ⊎ ((may_end way ≡ true) × (has (opens st []) b ≡ true))
opens_split [] st b h = inr (refl, h)
opens_split (part ∷ parts) st b h = head_splits (ends part) (may_end parts) (firsts part) (opens (parts ++ st) []) (opens parts []) (opens st []) b (opens_split parts st b) h

head_here : (e : Bool) (r s : List Range) (b : ℕ) → has r b ≡ true → has (cond e (r ++ s) r) b ≡ true
head_here true r s b h = has-append_left r s b h
head_here false r s b h = h

head_after : (e : Bool) (r s : List Range) (b : ℕ) → e ≡ true → has s b ≡ true → has (cond e (r ++ s) r) b ≡ true
head_after true r s b e h = has-append_right r s b h
head_after false r s b e h = absurd (cc)

way_begins : (part : Symbol) (all : List (List Symbol)) (way : List Symbol) → IsOneOf way all → begins_as part all ≡ true
    → (covers (opens way []) (firsts part) && implies (may_end way) (ends part)) ≡ true
way_begins part [] way i h = elim i [ ]
way_begins part (x ∷ more) way first h = both_left (covers (opens x []) (firsts part) && implies (may_end x) (ends part)) (begins_as part more) h
way_begins part (x ∷ more) way (later i) h = way_begins part more way i (both_right (covers (opens x []) (firsts part) && implies (may_end x) (ends part)) (begins_as part more) h)

rule_covers : (part : Symbol) (way : List Symbol) → IsOneOf way (rules part) → covers (opens way []) (firsts part) ≡ true
rule_covers part way i = both_left (covers (opens way []) (firsts part)) (implies (may_end way) (ends part)) (way_begins part (rules part) way i (rules_begin part))

pub rule_ends : (part : Symbol) (way : List Symbol) → IsOneOf way (rules part) → may_end way ≡ true → ends part ≡ true
rule_ends part way i h = implied (may_end way) (ends part) (both_right (covers (opens way []) (firsts part)) (implies (may_end way) (ends part)) (way_begins part (rules part) way i (rules_begin part))) h

in_span : (low more b : ℕ) → low ≤ b → b ≤ low + more → has (from low more ∷ []) b ≡ true
in_span low more b l h = grind (arith, nat_tests)

-- what a stack spells begins with a byte that opens it
pub begins : {st : List Symbol} {b : ℕ} {v : List ℕ} → Spells st (b ∷ v) → has (opens st []) b ≡ true
begins (one_byte {low = low} {more = more} b l h s) = in_span low more b l h
begins {b = b} (by_rule {part = part} {parts = parts} way i s) = elim (opens_split way parts b (begins s)) [
  | inl j ↦ head_here (ends part) (firsts part) (opens parts []) b (has-covers (opens way []) (firsts part) b (rule_covers part way i) j)
  | inr j ↦ head_after (ends part) (firsts part) (opens parts []) b (rule_ends part way i j.0) j.1
]

keep_way : (way st : List Symbol) (f : List Range) → keeps way f ≡ true → ((c : ℕ) → has (opens st []) c ≡ true → has f c ≡ true) → Good st → Good (way ++ st)
keep_way [] st f h g good = good
keep_way (part ∷ parts) st f h g good =
    let a : (stands part && covers (opens parts f) (follows part)) ≡ true = both_left (stands part && covers (opens parts f) (follows part)) (keeps parts f) h in
    upon (both_left (stands part) (covers (opens parts f) (follows part)) a)
    (λ b k. has-covers (opens parts f) (follows part) b (both_right (stands part) (covers (opens parts f) (follows part)) a) (opens_within parts st f b g k))
    (keep_way parts st f (both_right (stands part && covers (opens parts f) (follows part)) (keeps parts f) h) g good)

way_keeps : (all : List (List Symbol)) (f : List Range) (way : List Symbol) → IsOneOf way all → all_keep all f ≡ true → keeps way f ≡ true
way_keeps [] f way i h = elim i [ ]
way_keeps (x ∷ more) f way first h = both_left (keeps x f) (all_keep more f) h
way_keeps (x ∷ more) f way (later i) h = way_keeps more f way i (both_right (keeps x f) (all_keep more f) h)

-- a good stack stays good
pub good_way : {part : Symbol} {parts : List Symbol} (way : List Symbol) → Good (part ∷ parts) → IsOneOf way (ways part) → Good (way ++ parts)
good_way {part = part} {parts = parts} way (upon st g good) i = keep_way way parts (follows part) (way_keeps (ways part) (follows part) way i (ways_keep part)) g good

pub good_rest : {part : Symbol} {parts : List Symbol} → Good (part ∷ parts) → Good parts
good_rest (upon st g good) = good

cond_true : (t : Bool) (x y : List Symbol) → t ≡ true → cond t x y ≡ x
cond_true true x y h = refl
cond_true false x y h = absurd (cc)

cond_false : (t : Bool) (x y : List Symbol) → (t ≡ true → ⊥) → cond t x y ≡ y
cond_false true x y h = absurd (h refl)
cond_false false x y h = refl

one_apart : (r f : List Range) (all : List (List Symbol)) (way : List Symbol) → IsOneOf way all → apart_from r all f ≡ true → apart r (opens way f) ≡ true
one_apart r f [] way i h = elim i [ ]
one_apart r f (x ∷ more) way first h = both_left (apart r (opens x f)) (apart_from r more f) h
one_apart r f (x ∷ more) way (later i) h = one_apart r f more way i (both_right (apart r (opens x f)) (apart_from r more f) h)

head_firm : (e m : Bool) (r s t : List Range) (b : ℕ) → not (e && m) ≡ true → (not m ≡ true → has s b ≡ true → has t b ≡ true)
    → has (cond e (r ++ s) r) b ≡ true → has (cond e (r ++ t) r) b ≡ true
head_firm true m r s t b k f h = head_grows true r s t b (f k) h
head_firm false m r s t b k f h = h

-- a way that isn't empty begins by itself
opens_firm : (way : List Symbol) (f : List Range) (b : ℕ) → not (may_end way) ≡ true → has (opens way f) b ≡ true → has (opens way []) b ≡ true
opens_firm [] f b k h = absurd (cc)
opens_firm (part ∷ parts) f b k h = head_firm (ends part) (may_end parts) (firsts part) (opens parts f) (opens parts []) b k (opens_firm parts f b) h

none_has : (f : List Range) (b : ℕ) → has [] b ≡ true → has f b ≡ true
none_has f b h = absurd (cc)

opens_grow : (way : List Symbol) (f : List Range) (b : ℕ) → has (opens way []) b ≡ true → has (opens way f) b ≡ true
opens_grow [] f b h = none_has f b h
opens_grow (part ∷ parts) f b h = head_grows (ends part) (firsts part) (opens parts []) (opens parts f) b (opens_grow parts f b) h

fit_finds : (all : List (List Symbol)) (f : List Range) (b : ℕ) (way : List Symbol) → IsOneOf way all → tells all f ≡ true → firm all ≡ true
    → has (opens way f) b ≡ true → first_fit all b ≡ way
fit_finds [] f b way i h m k = elim i [ ]
fit_finds (x ∷ []) f b way first h m k = refl
fit_finds (x ∷ []) f b way (later i) h m k = elim i [ ]
fit_finds (x ∷ (y ∷ more)) f b way first h m k =
    cond_true (has (opens x []) b) x (first_fit (y ∷ more) b) (opens_firm x f b (both_left (not (may_end x)) (firm (y ∷ more)) m) k)
fit_finds (x ∷ (y ∷ more)) f b way (later i) h m k =
    cond_false (has (opens x []) b) x (first_fit (y ∷ more) b)
    (λ t. has-apart (opens x f) (opens way f) b (one_apart (opens x f) f (y ∷ more) way i (both_left (apart_from (opens x f) (y ∷ more) f) (tells (y ∷ more) f) h)) (opens_grow x f b t) k)
    ∙ fit_finds (y ∷ more) f b way i (both_right (apart_from (opens x f) (y ∷ more) f) (tells (y ∷ more) f) h) (both_right (not (may_end x)) (firm (y ∷ more)) m) k

cond_is_one : (t : Bool) (x y : List Symbol) (all : List (List Symbol)) → IsOneOf y all → IsOneOf (cond t x y) (x ∷ all)
cond_is_one true x y all i = first
cond_is_one false x y all i = later i

fit_is_one : (x : List Symbol) (more : List (List Symbol)) (b : ℕ) → IsOneOf (first_fit (x ∷ more) b) (x ∷ more)
fit_is_one x [] b = first
fit_is_one x (y ∷ more) b = cond_is_one (has (opens x []) b) x (first_fit (y ∷ more) b) (y ∷ more) (fit_is_one y more b)

some_fit : (all : List (List Symbol)) (b : ℕ) → is_empty all ≡ false → IsOneOf (first_fit all b) all
some_fit [] b h = absurd (cc)
some_fit (x ∷ more) b h = fit_is_one x more b

another_letter : (b : ℕ) → b ≢ 115 → b ≢ 112 → b ≢ 102 → b ≢ 98 → b ≢ 72 → predict worded b ≡ (span 97 25 ∷ act letter ∷ act use_name ∷ blanks ∷ [])
another_letter b s p f c h = grind (arith, nat_tests)

or_not : (n b : ℕ) → (b ≡ n) ⊎ (b ≢ n)
or_not n b = grind arith

both_true : (a b : Bool) → a ≡ true → b ≡ true → (a && b) ≡ true
both_true true b h k = k
both_true false b h k = absurd (cc)

pub may_end_split : (a b : List Symbol) → may_end (a ++ b) ≡ true → (may_end a ≡ true) × (may_end b ≡ true)
may_end_split [] b h = (refl, h)
may_end_split (part ∷ parts) b h =
    let (x, y) = may_end_split parts b (both_right (ends part) (may_end (parts ++ b)) h) in
    (both_true (ends part) (may_end parts) (both_left (ends part) (may_end (parts ++ b)) h) x, y)

-- a stack spells nothing only where each of its parts may be empty
pub ended : {st : List Symbol} → Spells st [] → may_end st ≡ true
ended nothing = refl
ended (by_rule {part = part} {parts = parts} way i s) =
    let (x, y) = may_end_split way parts (ended s) in both_true (ends part) (may_end parts) (rule_ends part way i x) y

ways_some : (part : Symbol) → is_span part ≡ false → is_empty (ways part) ≡ false
ways_some (span low more) h = absurd (cc)
ways_some part h = refl

pub predict_is_one : (part : Symbol) (b : ℕ) → is_span part ≡ false → IsOneOf (predict part b) (ways part)
predict_is_one part b h = some_fit (ways part) b (ways_some part h)

same_ways : (part : Symbol) → is_worded part ≡ false → ways part ≡ rules part
same_ways worded h = absurd (cc)
same_ways part h = refl

last_ends : (all : List (List Symbol)) (way : List Symbol) → IsOneOf way all → firm all ≡ true → may_end way ≡ true → way ≡ last_of all
last_ends [] way i h m = elim i [ ]
last_ends (x ∷ []) way first h m = refl
last_ends (x ∷ []) way (later i) h m = elim i [ ]
last_ends (x ∷ (y ∷ more)) way first h m = absurd (not_both (may_end x) (firm (y ∷ more)) h m)
  where
    not_both : (a b : Bool) → not a && b ≡ true → a ≡ true → ⊥
    not_both true b h k = cc
    not_both false b h k = cc
last_ends (x ∷ (y ∷ more)) way (later i) h m = last_ends (y ∷ more) way i (both_right (not (may_end x)) (firm (y ∷ more)) h) m

-- without the state
pub spelled : {V : Type 0} {eat : ℕ → V → V} {does : Action → V → V} {x y : V} {st : List Symbol} {w : List ℕ} → Builds eat does st w x y → Spells st w
spelled none_left = nothing
spelled (eats b l h s) = one_byte b l h (spelled s)
spelled (acts s) = by_rule [] first (spelled s)
spelled (opens_by way p i s) = by_rule way i (spelled s)

module _ {V : Type 0} (eat : ℕ → V → V) (does : Action → V → V) where
  way_of : {x y : V} {part : Symbol} {parts : List Symbol} {w : List ℕ} → is_span part ≡ false → is_act part ≡ false → Builds eat does (part ∷ parts) w x y
      → (way : List Symbol) × IsOneOf way (rules part) × Builds eat does (way ++ parts) w x y
  way_of h k (eats b l m s) = absurd (cc)
  way_of h k (acts s) = absurd (cc)
  way_of h k (opens_by way p i s) = (way, i, s)

  -- a name or a word, by its first letter
  abbrev Fits : V → V → List Symbol → ℕ → List ℕ → Type 0
  Fits x y parts b v = Builds eat does (predict worded b ++ parts) (b ∷ v) x y

  at_byte : {x y : V} {others : List Symbol} (c b : ℕ) (parts : List Symbol) (v : List ℕ) → c ≤ b → b ≤ c + 0 → Builds eat does others v (eat b x) y
      → (Builds eat does others v (eat c x) y → Fits x y parts c v) → Fits x y parts b v
  at_byte {x = x} {y = y} {others = others} c b parts v l h s f =
      let e : c ≡ b = omega arith in subst (λ q. Builds eat does others v (eat q x) y → Fits x y parts q v) e f s

  letter_fits : {x y : V} (parts : List Symbol) (b : ℕ) (v : List ℕ) → 97 ≤ b → b ≤ 122 → Builds eat does (act letter ∷ act use_name ∷ blanks ∷ parts) v (eat b x) y → Fits x y parts b v
  letter_fits {x = x} {y = y} parts b v l h s = elim (or_not 115 b) [
    | inl e ↦ at_byte 115 b parts v (omega arith) (omega arith) s (λ t. eats 115 (omega arith) (omega arith) (opens_by (act letter ∷ act use_name ∷ blanks ∷ []) refl (later first) t))
    | inr n115 ↦ elim (or_not 112 b) [
      | inl e ↦ at_byte 112 b parts v (omega arith) (omega arith) s (λ t. eats 112 (omega arith) (omega arith) (opens_by (act letter ∷ act use_name ∷ blanks ∷ []) refl (later (later first)) t))
      | inr n112 ↦ elim (or_not 102 b) [
        | inl e ↦ at_byte 102 b parts v (omega arith) (omega arith) s (λ t. eats 102 (omega arith) (omega arith) (opens_by (act letter ∷ act use_name ∷ blanks ∷ []) refl (later first) t))
        | inr n102 ↦ elim (or_not 98 b) [
          | inl e ↦ at_byte 98 b parts v (omega arith) (omega arith) s (λ t. eats 98 (omega arith) (omega arith) (opens_by (act letter ∷ act use_name ∷ blanks ∷ []) refl (later first) t))
          | inr n98 ↦ subst (λ q. Builds eat does (q ++ parts) (b ∷ v) x y) (sym (another_letter b n115 n112 n102 n98 (omega arith))) (eats b l h s)
        ]
      ]
    ]
  ]

  variable_fits : {x y : V} (parts : List Symbol) (b : ℕ) (v : List ℕ) → Builds eat does (variable ∷ parts) (b ∷ v) x y → Fits x y parts b v
  variable_fits parts b v (opens_by way p first (eats c l h s)) = letter_fits parts b v l h s
  variable_fits parts b v (opens_by way p first (opens_by way2 p2 i s)) = elim i [ ]
  variable_fits parts b v (opens_by way p (later i) s) = elim i [ ]

  call_fits : {x y : V} (parts : List Symbol) (b : ℕ) (v : List ℕ) → Builds eat does (call ∷ parts) (b ∷ v) x y → Fits x y parts b v
  call_fits parts b v (opens_by way p first (eats c l h s)) = at_byte 115 b parts v l h s (λ t. eats 115 (omega arith) (omega arith) (opens_by (token (codes "um") (bounds_and_body ∷ act make_sum ∷ [])) refl first t))
  call_fits parts b v (opens_by way p first (opens_by way2 p2 i s)) = elim i [ ]
  call_fits parts b v (opens_by way p (later first) (eats c l h s)) = at_byte 112 b parts v l h s (λ t. eats 112 (omega arith) (omega arith) (opens_by (token (codes "rod") (bounds_and_body ∷ act make_product ∷ [])) refl first t))
  call_fits parts b v (opens_by way p (later first) (opens_by way2 p2 i s)) = elim i [ ]
  call_fits parts b v (opens_by way p (later (later first)) (eats c l h s)) = at_byte 72 b parts v l h s (λ t. eats 72 (omega arith) (omega arith) t)
  call_fits parts b v (opens_by way p (later (later first)) (opens_by way2 p2 i s)) = elim i [ ]
  call_fits parts b v (opens_by way p (later (later (later first))) (eats c l h s)) = at_byte 102 b parts v l h s (λ t. eats 102 (omega arith) (omega arith) (opens_by (token (codes "act") (one_name ∷ act make_factorial ∷ [])) refl first t))
  call_fits parts b v (opens_by way p (later (later (later first))) (opens_by way2 p2 i s)) = elim i [ ]
  call_fits parts b v (opens_by way p (later (later (later (later first)))) (eats c l h s)) = at_byte 98 b parts v l h s (λ t. eats 98 (omega arith) (omega arith) (opens_by (token (codes "inom") (expr_and_name ∷ act make_binomial ∷ [])) refl first t))
  call_fits parts b v (opens_by way p (later (later (later (later first)))) (opens_by way2 p2 i s)) = elim i [ ]
  call_fits parts b v (opens_by way p (later (later (later (later (later first))))) (eats c l h s)) = at_byte 112 b parts v l h s (λ t. eats 112 (omega arith) (omega arith) (opens_by (token (codes "ow") (const_and_name ∷ act make_power ∷ [])) refl (later first) t))
  call_fits parts b v (opens_by way p (later (later (later (later (later first))))) (opens_by way2 p2 i s)) = elim i [ ]
  call_fits parts b v (opens_by way p (later (later (later (later (later (later i)))))) s) = elim i [ ]

  worded_fits : {x y : V} (parts : List Symbol) (b : ℕ) (v : List ℕ) → Builds eat does (worded ∷ parts) (b ∷ v) x y → Fits x y parts b v
  worded_fits parts b v (opens_by way p first s) = variable_fits parts b v s
  worded_fits parts b v (opens_by way p (later first) s) = call_fits parts b v s
  worded_fits parts b v (opens_by way p (later (later i)) s) = elim i [ ]

  plain_goes : {x y : V} (part : Symbol) (parts : List Symbol) (b : ℕ) (v : List ℕ) → Good (part ∷ parts) → is_span part ≡ false → is_act part ≡ false → is_worded part ≡ false
      → Builds eat does (part ∷ parts) (b ∷ v) x y → Builds eat does (predict part b ++ parts) (b ∷ v) x y
  plain_goes {x = x} {y = y} part parts b v (upon st g good) k a m s =
      let (way, i, t) = way_of k a s in
      let j : IsOneOf way (ways part) = subst (λ q. IsOneOf way q) (sym (same_ways part m)) i in
      let e = fit_finds (ways part) (follows part) b way j (ways_tell part st m) (ways_firm part) (opens_within way parts (follows part) b g (begins (spelled t))) in
      subst (λ q. Builds eat does (q ++ parts) (b ∷ v) x y) (sym e) t

  pub builds_goes : {x y : V} (part : Symbol) (parts : List Symbol) (b : ℕ) (v : List ℕ) → Good (part ∷ parts) → is_span part ≡ false → is_act part ≡ false
      → Builds eat does (part ∷ parts) (b ∷ v) x y → Builds eat does (predict part b ++ parts) (b ∷ v) x y
  builds_goes worded parts b v g k a s = worded_fits parts b v s
  builds_goes part parts b v g k a s = plain_goes part parts b v g k a refl s

  -- each way that the next byte may tell is the part's
  from_variable : {x y : V} {parts : List Symbol} {w : List ℕ} (low more : ℕ) → 97 ≤ low → low + more ≤ 122 → Builds eat does (span low more ∷ act letter ∷ act use_name ∷ blanks ∷ parts) w x y
      → Builds eat does (worded ∷ parts) w x y
  from_variable low more l h (eats b k m s) = opens_by (variable ∷ []) refl first (opens_by (span 97 25 ∷ act letter ∷ act use_name ∷ blanks ∷ []) refl first (eats b (omega arith) (omega arith) s))
  from_variable low more l h (opens_by way p i s) = elim i [ ]

  from_call : {x y : V} {parts : List Symbol} {w : List ℕ} (way : List Symbol) → IsOneOf way (rules call) → Builds eat does (way ++ parts) w x y → Builds eat does (worded ∷ parts) w x y
  from_call way i s = opens_by (call ∷ []) refl (later first) (opens_by way refl i s)

  worded_from : {x y : V} (parts : List Symbol) (w : List ℕ) (way : List Symbol) → IsOneOf way (ways worded) → Builds eat does (way ++ parts) w x y → Builds eat does (worded ∷ parts) w x y
  worded_from parts w way first (eats b l h (opens_by way2 p first s)) = from_call (token (codes "sum") (bounds_and_body ∷ act make_sum ∷ [])) first (eats b l h s)
  worded_from parts w way first (eats b l h (opens_by way2 p (later first) s)) = from_variable 115 0 (omega arith) (omega arith) (eats b l h s)
  worded_from parts w way first (eats b l h (opens_by way2 p (later (later i)) s)) = elim i [ ]
  worded_from parts w way first (opens_by way2 p i s) = elim i [ ]
  worded_from parts w way (later first) (eats b l h (opens_by way2 p first s)) = from_call (token (codes "prod") (bounds_and_body ∷ act make_product ∷ [])) (later first) (eats b l h s)
  worded_from parts w way (later first) (eats b l h (opens_by way2 p (later first) s)) = from_call (token (codes "pow") (const_and_name ∷ act make_power ∷ [])) (later (later (later (later (later first))))) (eats b l h s)
  worded_from parts w way (later first) (eats b l h (opens_by way2 p (later (later first)) s)) = from_variable 112 0 (omega arith) (omega arith) (eats b l h s)
  worded_from parts w way (later first) (eats b l h (opens_by way2 p (later (later (later i))) s)) = elim i [ ]
  worded_from parts w way (later first) (opens_by way2 p i s) = elim i [ ]
  worded_from parts w way (later (later first)) (eats b l h (opens_by way2 p first s)) = from_call (token (codes "fact") (one_name ∷ act make_factorial ∷ [])) (later (later (later first))) (eats b l h s)
  worded_from parts w way (later (later first)) (eats b l h (opens_by way2 p (later first) s)) = from_variable 102 0 (omega arith) (omega arith) (eats b l h s)
  worded_from parts w way (later (later first)) (eats b l h (opens_by way2 p (later (later i)) s)) = elim i [ ]
  worded_from parts w way (later (later first)) (opens_by way2 p i s) = elim i [ ]
  worded_from parts w way (later (later (later first))) (eats b l h (opens_by way2 p first s)) = from_call (token (codes "binom") (expr_and_name ∷ act make_binomial ∷ [])) (later (later (later (later first)))) (eats b l h s)
  worded_from parts w way (later (later (later first))) (eats b l h (opens_by way2 p (later first) s)) = from_variable 98 0 (omega arith) (omega arith) (eats b l h s)
  worded_from parts w way (later (later (later first))) (eats b l h (opens_by way2 p (later (later i)) s)) = elim i [ ]
  worded_from parts w way (later (later (later first))) (opens_by way2 p i s) = elim i [ ]
  worded_from parts w way (later (later (later (later first)))) s = from_call (token (codes "H") (name_and_order ∷ [])) (later (later first)) s
  worded_from parts w way (later (later (later (later (later first))))) s = from_variable 97 25 (omega arith) (omega arith) s
  worded_from parts w way (later (later (later (later (later (later i)))))) s = elim i [ ]

  from_way : {x y : V} (part : Symbol) (parts : List Symbol) (w : List ℕ) (way : List Symbol) → is_act part ≡ false → IsOneOf way (ways part) → Builds eat does (way ++ parts) w x y → Builds eat does (part ∷ parts) w x y
  from_way worded parts w way h i s = worded_from parts w way i s
  from_way part parts w way h i s = opens_by way h i s

  pub builds_back : {x y : V} (part : Symbol) (parts : List Symbol) (b : ℕ) (w : List ℕ) → is_span part ≡ false → is_act part ≡ false
      → Builds eat does (predict part b ++ parts) w x y → Builds eat does (part ∷ parts) w x y
  builds_back part parts b w k a s = from_way part parts w (predict part b) a (predict_is_one part b k) s

  pub builds_end : {x y : V} (part : Symbol) (parts : List Symbol) → is_span part ≡ false → is_act part ≡ false
      → Builds eat does (part ∷ parts) [] x y → Builds eat does (predict part 0 ++ parts) [] x y
  builds_end {x = x} {y = y} part parts k a s =
      let (way, i, t) = way_of k a s in
      let m : may_end way ≡ true = (may_end_split way parts (ended (spelled t))).0 in
      let e : way ≡ predict part 0 = last_ends (rules part) way i (rules_firm part) m ∙ sym (ways_end part (rule_ends part way i m)) in
      subst (λ q. Builds eat does (q ++ parts) [] x y) e t
