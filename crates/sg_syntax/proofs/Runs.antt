-- The machine with one stack: it runs over just the fronts of texts, and what a text builds is what it makes.
--   lead_next       opening the part on top lowers the lead
--   open_from, open_to      a stack builds what its opened stack builds
--   step_from, step_to      a good stack takes a byte where it builds something that begins with it, and goes on
--   run_from, run_to        the same for several bytes
--   built_is        what a good stack builds from these bytes is one
--   some_state      what is spelled builds some state
--   is_front_from, is_front_to, is_text_from     fronts and texts by the machine
--   fault_within, fault_at_end      the place of a fault by the machine
--   runs-one_more, stack_after-one_more, state_after-one_more     one more byte
use Rattle.std.specs.Prelude.{◌≡◌, ℕ, zero, suc, ◌+◌, ◌≤◌, ◌<◌, List, [], ◌∷◌, ◌++◌, length, take, drop, Bool, true, false, ◌&&◌, ltb}
use Rattle.std.proofs.Common.{refl, sym, ap, ◌∙◌, arith, subst, inl, inr, append_assoc}
use Rattle.std.proofs.lemmas.Bool.Decides.{nat_tests}
use Rattle.std.proofs.lemmas.List.{append-nil, take-append-drop, take-take}
use Rattle.std.proofs.Math.Seq.{take-length}
use Rattle.sg_spec.specs.Grammar.{Action, IsOneOf, first, later}
use Rattle.sg_syntax.specs.Table.{Symbol, span, act, text, rules}
use Rattle.sg_syntax.proofs.Deriving.{Spells, nothing, one_byte, by_rule, is_act, Builds, none_left, eats, acts, opens_by, IsText, IsFront, IsSyntaxFault}
use Rattle.sg_spec.specs.Syntax.{rest}
use Rattle.sg_syntax.specs.Ranges.{from, in_range}
use Rattle.sg_syntax.specs.Stack.{ways, predict, cost, lead, opened, acted, takes, accepts, next, runs, stack_after, state_after, finished}
use Rattle.sg_syntax.proofs.Ranges.{both_left, both_right}
use Rattle.sg_syntax.proofs.Words.{some_word}
use Rattle.sg_syntax.proofs.Tables.{is_span, all_lead, ways_lead}
use Rattle.sg_syntax.proofs.Way.{Good, bottom, upon, good_way, good_rest, predict_is_one, builds_goes, builds_back, builds_end, spelled}

below_true : (a b : ℕ) → ltb a b ≡ true → a < b
below_true a b h = grind (arith, nat_tests)

way_lead : (all : List (List Symbol)) (n : ℕ) (way : List Symbol) → IsOneOf way all → all_lead all n ≡ true → lead way < n
way_lead [] n way i h = elim i [ ]
way_lead (x ∷ more) n way first h = below_true (lead x) n (both_left (ltb (lead x) n) (all_lead more n) h)
way_lead (x ∷ more) n way (later i) h = way_lead more n way i (both_right (ltb (lead x) n) (all_lead more n) h)

add_mono : (a b c d : ℕ) → a ≤ b + c → d + a ≤ (d + b) + c
add_mono a b c d h = omega arith

lead_join : (a b : List Symbol) → lead (a ++ b) ≤ lead a + lead b
lead_join [] b = omega arith
lead_join (span low more ∷ parts) b = zero_least (lead b)
  where
    zero_least : (n : ℕ) → 0 ≤ 0 + n
    zero_least n = omega arith
lead_join (part ∷ parts) b = add_mono (lead (parts ++ b)) (lead parts) (lead b) (cost part) (lead_join parts b)

lead_part : (part : Symbol) (parts : List Symbol) → is_span part ≡ false → lead (part ∷ parts) ≡ cost part + lead parts
lead_part (span low more) parts h = absurd (cc)
lead_part part parts h = refl

pub lead_way : (part : Symbol) (parts way : List Symbol) → is_span part ≡ false → IsOneOf way (ways part) → lead (way ++ parts) < lead (part ∷ parts)
lead_way part parts way h i =
    let a = way_lead (ways part) (cost part) way i (ways_lead part) in
    let c = lead_join way parts in
    let d = lead_part part parts h in omega arith

pub no_lead : (part : Symbol) (parts : List Symbol) → is_span part ≡ false → lead (part ∷ parts) ≤ 0 → ⊥
no_lead part parts h k =
    let d = lead_way part parts (predict part 0) h (predict_is_one part 0 h) in omega arith

pub lead_next : (k b : ℕ) (part : Symbol) (parts : List Symbol) → is_span part ≡ false → lead (part ∷ parts) ≤ suc k → lead (predict part b ++ parts) ≤ k
lead_next k b part parts h m =
    let d = lead_way part parts (predict part b) h (predict_is_one part b h) in omega arith

-- nothing is left, or a byte stands on top
abbrev pub ready : List Symbol → Bool
ready [] = true
ready (span low more ∷ parts) = true
ready (part ∷ parts) = false

opened_ready : (k b : ℕ) (st : List Symbol) → lead st ≤ k → ready (opened k b st) ≡ true
opened_ready k b [] h = refl
opened_ready k b (span low more ∷ parts) h = refl
opened_ready zero b (part ∷ parts) h = absurd (no_lead part parts refl h)
opened_ready (suc k) b (part ∷ parts) h = opened_ready k b (predict part b ++ parts) (lead_next k b part parts refl h)

lead_refl : (n : ℕ) → n ≤ n
lead_refl n = omega arith

range_test : (low more b : ℕ) → low ≤ b → b ≤ low + more → in_range (from low more) b ≡ true
range_test low more b l h = grind (arith, nat_tests)

range_low : (low more b : ℕ) → in_range (from low more) b ≡ true → low ≤ b
range_low low more b h = grind (arith, nat_tests)

range_high : (low more b : ℕ) → in_range (from low more) b ≡ true → b ≤ low + more
range_high low more b h = grind (arith, nat_tests)

both_true : (a b : Bool) → a ≡ true → b ≡ true → (a && b) ≡ true
both_true true b h k = k
both_true false b h k = absurd (cc)

module _ {V : Type 0} (eat : ℕ → V → V) (does : Action → V → V) where
  act_does : {x y : V} {a : Action} {parts : List Symbol} {w : List ℕ} → Builds eat does (act a ∷ parts) w x y → Builds eat does parts w (does a x) y
  act_does (acts s) = s
  act_does (opens_by way p i s) = absurd (cc)

  open_from : {y : V} (k b : ℕ) (st : List Symbol) (v : List ℕ) (x : V) → lead st ≤ k → Good st → Builds eat does st (b ∷ v) x y
      → Good (opened k b st) × Builds eat does (opened k b st) (b ∷ v) (acted does k b st x) y
  open_from k b [] v x h g s = elim s [ ]
  open_from k b (span low more ∷ parts) v x h g s = (g, s)
  open_from zero b (act a ∷ parts) v x h g s = absurd (no_lead (act a) parts refl h)
  open_from (suc k) b (act a ∷ parts) v x h g s = open_from k b parts v (does a x) (lead_next k b (act a) parts refl h) (good_rest g) (act_does s)
  open_from zero b (part ∷ parts) v x h g s = absurd (no_lead part parts refl h)
  open_from (suc k) b (part ∷ parts) v x h g s =
      open_from k b (predict part b ++ parts) v x (lead_next k b part parts refl h) (good_way (predict part b) g (predict_is_one part b refl)) (builds_goes eat does part parts b v g refl refl s)

  open_to : {y : V} (k b : ℕ) (st : List Symbol) (w : List ℕ) (x : V) → Builds eat does (opened k b st) w (acted does k b st x) y → Builds eat does st w x y
  open_to k b [] w x s = s
  open_to k b (span low more ∷ parts) w x s = s
  open_to zero b (act a ∷ parts) w x s = s
  open_to (suc k) b (act a ∷ parts) w x s = acts (open_to k b parts w (does a x) s)
  open_to zero b (part ∷ parts) w x s = s
  open_to (suc k) b (part ∷ parts) w x s = builds_back eat does part parts b w refl refl (open_to k b (predict part b ++ parts) w x s)

  end_from : {y : V} (k : ℕ) (st : List Symbol) (x : V) → lead st ≤ k → Builds eat does st [] x y → Builds eat does (opened k 0 st) [] (acted does k 0 st x) y
  end_from k [] x h s = s
  end_from k (span low more ∷ parts) x h s = s
  end_from zero (act a ∷ parts) x h s = absurd (no_lead (act a) parts refl h)
  end_from (suc k) (act a ∷ parts) x h s = end_from k parts (does a x) (lead_next k 0 (act a) parts refl h) (act_does s)
  end_from zero (part ∷ parts) x h s = absurd (no_lead part parts refl h)
  end_from (suc k) (part ∷ parts) x h s = end_from k (predict part 0 ++ parts) x (lead_next k 0 part parts refl h) (builds_end eat does part parts refl refl s)

  byte_from : {x y : V} (b : ℕ) (st : List Symbol) (v : List ℕ) → ready st ≡ true → Good st → Builds eat does st (b ∷ v) x y
      → (takes b st ≡ true) × Good (rest st) × Builds eat does (rest st) v (eat b x) y
  byte_from b [] v h g s = elim s [ ]
  byte_from b (span low more ∷ parts) v h g (eats c l m s) = (range_test low more c l m, good_rest g, s)
  byte_from b (span low more ∷ parts) v h g (opens_by way p i s) = elim i [ ]
  byte_from b (part ∷ parts) v h g s = absurd (cc)

  byte_to : {x y : V} (b : ℕ) (st : List Symbol) (v : List ℕ) → takes b st ≡ true → Builds eat does (rest st) v (eat b x) y → Builds eat does st (b ∷ v) x y
  byte_to b [] v h s = absurd (cc)
  byte_to b (span low more ∷ parts) v h s = eats b (range_low low more b h) (range_high low more b h) s
  byte_to b (part ∷ parts) v h s = absurd (cc)

  pub step_from : {y : V} (b : ℕ) (st : List Symbol) (v : List ℕ) (x : V) → Good st → Builds eat does st (b ∷ v) x y
      → (accepts b st ≡ true) × Good (next b st) × Builds eat does (next b st) v (eat b (acted does (lead st) b st x)) y
  step_from b st v x g s =
      let (good, t) = open_from (lead st) b st v x (lead_refl (lead st)) g s in
      byte_from b (opened (lead st) b st) v (opened_ready (lead st) b st (lead_refl (lead st))) good t

  pub step_to : {y : V} (b : ℕ) (st : List Symbol) (v : List ℕ) (x : V) → accepts b st ≡ true → Builds eat does (next b st) v (eat b (acted does (lead st) b st x)) y
      → Builds eat does st (b ∷ v) x y
  step_to b st v x h s = open_to (lead st) b st (b ∷ v) x (byte_to b (opened (lead st) b st) v h s)

  pub run_from : {y : V} (u : List ℕ) (st : List Symbol) (v : List ℕ) (x : V) → Good st → Builds eat does st (u ++ v) x y
      → (runs u st ≡ true) × Good (stack_after u st) × Builds eat does (stack_after u st) v (state_after eat does u st x) y
  run_from [] st v x g s = (refl, g, s)
  run_from (b ∷ u) st v x g s =
      let (a, good, t) = step_from b st (u ++ v) x g s in
      let (r, last, z) = run_from u (next b st) v (eat b (acted does (lead st) b st x)) good t in
      (both_true (accepts b st) (runs u (next b st)) a r, last, z)

  pub run_to : {y : V} (u : List ℕ) (st : List Symbol) (v : List ℕ) (x : V) → runs u st ≡ true → Builds eat does (stack_after u st) v (state_after eat does u st x) y → Builds eat does st (u ++ v) x y
  run_to [] st v x h s = s
  run_to (b ∷ u) st v x h s =
      step_to b st (u ++ v) x (both_left (accepts b st) (runs u (next b st)) h)
      (run_to u (next b st) v (eat b (acted does (lead st) b st x)) (both_right (accepts b st) (runs u (next b st)) h) s)

  nothing_builds : {x y : V} (st : List Symbol) → ready st ≡ true → Builds eat does st [] x y → (st ≡ []) × (x ≡ y)
  nothing_builds [] h none_left = (refl, refl)
  nothing_builds (span low more ∷ parts) h (opens_by way p i s) = elim i [ ]
  nothing_builds (part ∷ parts) h s = absurd (cc)

  pub stops_from : {y : V} (st : List Symbol) (x : V) → Builds eat does st [] x y → (opened (lead st) 0 st ≡ []) × (finished does st x ≡ y)
  stops_from st x s = nothing_builds (opened (lead st) 0 st) (opened_ready (lead st) 0 st (lead_refl (lead st))) (end_from (lead st) st x (lead_refl (lead st)) s)

  pub stops_to : (st : List Symbol) (x : V) → opened (lead st) 0 st ≡ [] → Builds eat does st [] x (finished does st x)
  stops_to st x h = open_to (lead st) 0 st [] x (subst (λ q. Builds eat does q [] (finished does st x) (finished does st x)) (sym h) none_left)

  -- what a good stack builds is what the machine makes
  pub built_is : {y : V} (w : List ℕ) (st : List Symbol) (x : V) → Good st → Builds eat does st w x y
      → (runs w st ≡ true) × (opened (lead (stack_after w st)) 0 (stack_after w st) ≡ []) × (finished does (stack_after w st) (state_after eat does w st x) ≡ y)
  built_is {y = y} w st x g s =
      let (r, good, t) = run_from w st [] x g (subst (λ q. Builds eat does st q x y) (sym (append-nil w)) s) in
      let (e, f) = stops_from (stack_after w st) (state_after eat does w st x) t in
      (r, e, f)

  pub builds_made : (w : List ℕ) (st : List Symbol) (x : V) → runs w st ≡ true → opened (lead (stack_after w st)) 0 (stack_after w st) ≡ []
      → Builds eat does st w x (finished does (stack_after w st) (state_after eat does w st x))
  builds_made w st x r e =
      subst (λ q. Builds eat does st q x (finished does (stack_after w st) (state_after eat does w st x))) (append-nil w)
      (run_to w st [] x r (stops_to (stack_after w st) (state_after eat does w st x) e))

  abbrev pub Built : List Symbol → List ℕ → V → Type 0
  Built st w x = (y : V) × Builds eat does st w x y

  rule_builds : (part : Symbol) (parts way : List Symbol) (w : List ℕ) → IsOneOf way (rules part) → ((x : V) → Built (way ++ parts) w x) → (x : V) → Built (part ∷ parts) w x
  rule_builds (act a) parts way w first f x = let (y, s) = f (does a x) in (y, acts s)
  rule_builds (act a) parts way w (later i) f x = elim i [ ]
  rule_builds part parts way w i f x = let (y, s) = f x in (y, opens_by way refl i s)

  -- what is spelled builds some state
  pub some_state : {st : List Symbol} {w : List ℕ} → Spells st w → (x : V) → Built st w x
  some_state nothing x = (x, none_left)
  some_state (one_byte b l h s) x = let (y, t) = some_state s (eat b x) in (y, eats b l h t)
  some_state (by_rule {part = part} {parts = parts} {w = w} way i s) x = rule_builds part parts way w i (some_state s) x

  pub state_after-one_more : (u : List ℕ) (b : ℕ) (st : List Symbol) (x : V)
      → state_after eat does (u ++ (b ∷ [])) st x ≡ eat b (acted does (lead (stack_after u st)) b (stack_after u st) (state_after eat does u st x))
  state_after-one_more [] b st x = refl
  state_after-one_more (c ∷ u) b st x = state_after-one_more u b (next c st) (eat c (acted does (lead st) c st x))

pub good_start : Good (text ∷ [])
good_start = upon refl (λ b h. h) bottom

pub runs-one_more : (u : List ℕ) (b : ℕ) (st : List Symbol) → runs (u ++ (b ∷ [])) st ≡ (runs u st && accepts b (stack_after u st))
runs-one_more [] b st = and_true (accepts b st)
  where
    and_true : (a : Bool) → (a && true) ≡ a
    and_true true = refl
    and_true false = refl
runs-one_more (c ∷ u) b st = ap (λ q. accepts c st && q) (runs-one_more u b (next c st)) ∙ and_turn (accepts c st) (runs u (next c st)) (accepts b (stack_after u (next c st)))
  where
    and_turn : (x y z : Bool) → (x && (y && z)) ≡ ((x && y) && z)
    and_turn true y z = refl
    and_turn false y z = refl

pub stack_after-one_more : (u : List ℕ) (b : ℕ) (st : List Symbol) → stack_after (u ++ (b ∷ [])) st ≡ next b (stack_after u st)
stack_after-one_more [] b st = refl
stack_after-one_more (c ∷ u) b st = stack_after-one_more u b (next c st)

-- no state at all
abbrev skip_byte : ℕ → Unit {0} → Unit {0}
skip_byte b x = x

abbrev skip_action : Action → Unit {0} → Unit {0}
skip_action a x = x

pub is_front_from : (u : List ℕ) → IsFront u → runs u (text ∷ []) ≡ true
is_front_from u x =
    let (y, s) = some_state skip_byte skip_action x.1 tt in
    (run_from skip_byte skip_action u (text ∷ []) x.0 tt good_start s).0

pub is_front_to : (u : List ℕ) → runs u (text ∷ []) ≡ true → IsFront u
is_front_to u h =
    let (w, s) = some_word (stack_after u (text ∷ [])) in
    let (y, t) = some_state skip_byte skip_action s (state_after skip_byte skip_action u (text ∷ []) tt) in
    (w, spelled (run_to skip_byte skip_action u (text ∷ []) w tt h t))

-- the machine has nothing left to take
abbrev pub Stops : List ℕ → Type 0
Stops w = opened (lead (stack_after w (text ∷ []))) 0 (stack_after w (text ∷ [])) ≡ []

pub is_text_from : (w : List ℕ) → IsText w → (runs w (text ∷ []) ≡ true) × Stops w
is_text_from w s =
    let (y, t) = some_state skip_byte skip_action s tt in
    let (r, e, f) = built_is skip_byte skip_action w (text ∷ []) tt good_start t in
    (r, e)

-- a front of a front is a front
front_of_front : (u v : List ℕ) → IsFront (u ++ v) → IsFront u
front_of_front u v x = (v ++ x.0, subst (λ q. Spells (text ∷ []) q) (append_assoc u v x.0) x.1)

front_before : (w : List ℕ) (p : ℕ) → IsFront (take p w) → (q : ℕ) → q < p → IsFront (take (q + 1) w)
front_before w p x q h =
    let f = front_of_front (take (q + 1) (take p w)) (drop (q + 1) (take p w)) (subst (λ u. IsFront u) (sym (take-append-drop (q + 1) (take p w))) x) in
    subst (λ u. IsFront u) (take-take (q + 1) p w (omega arith)) f

pub fault_within : (w : List ℕ) (p : ℕ) → p < length w → runs (take p w) (text ∷ []) ≡ true → runs (take (p + 1) w) (text ∷ []) ≡ false → IsSyntaxFault w p
fault_within w p h r n = record {
  before = front_before w p (is_front_to (take p w) r);
  fault = inl (h, λ x. let e = is_front_from (take (p + 1) w) x in cc);
}

pub fault_at_end : (w : List ℕ) → runs w (text ∷ []) ≡ true → (Stops w → ⊥) → IsSyntaxFault w (length w)
fault_at_end w r n = record {
  before = front_before w (length w) (is_front_to (take (length w) w) (subst (λ q. runs q (text ∷ []) ≡ true) (sym (take-length w)) r));
  fault = inr (refl, λ x. n (is_text_from w x).1);
}

-- more turns than needed change nothing
opened_enough : (k j b : ℕ) (st : List Symbol) → lead st ≤ k → lead st ≤ j → opened k b st ≡ opened j b st
opened_enough k j b [] h g = refl
opened_enough k j b (span low more ∷ parts) h g = refl
opened_enough zero j b (part ∷ parts) h g = absurd (no_lead part parts refl h)
opened_enough (suc k) zero b (part ∷ parts) h g = absurd (no_lead part parts refl g)
opened_enough (suc k) (suc j) b (part ∷ parts) h g = opened_enough k j b (predict part b ++ parts) (lead_next k b part parts refl h) (lead_next j b part parts refl g)

acted_enough : {V : Type 0} (does : Action → V → V) (k j b : ℕ) (st : List Symbol) (x : V) → lead st ≤ k → lead st ≤ j → acted does k b st x ≡ acted does j b st x
acted_enough does k j b [] x h g = refl
acted_enough does k j b (span low more ∷ parts) x h g = refl
acted_enough does zero j b (part ∷ parts) x h g = absurd (no_lead part parts refl h)
acted_enough does (suc k) zero b (part ∷ parts) x h g = absurd (no_lead part parts refl g)
acted_enough does (suc k) (suc j) b (act a ∷ parts) x h g = acted_enough does k j b parts (does a x) (lead_next k b (act a) parts refl h) (lead_next j b (act a) parts refl g)
acted_enough does (suc k) (suc j) b (part ∷ parts) x h g = acted_enough does k j b (predict part b ++ parts) x (lead_next k b part parts refl h) (lead_next j b part parts refl g)

lead_more : (n : ℕ) → n ≤ suc n
lead_more n = omega arith

opened_turn : (k b : ℕ) (part : Symbol) (parts : List Symbol) → is_span part ≡ false → opened (suc k) b (part ∷ parts) ≡ opened k b (predict part b ++ parts)
opened_turn k b (span low more) parts h = absurd (cc)
opened_turn k b part parts h = refl

acted_turn : {V : Type 0} (does : Action → V → V) (k b : ℕ) (part : Symbol) (parts : List Symbol) (x : V) → is_span part ≡ false → is_act part ≡ false
    → acted does (suc k) b (part ∷ parts) x ≡ acted does k b (predict part b ++ parts) x
acted_turn does k b (span low more) parts x h g = absurd (cc)
acted_turn does k b (act a) parts x h g = absurd (cc)
acted_turn does k b part parts x h g = refl

below : (m n : ℕ) → m < n → m ≤ n
below m n h = omega arith

-- a part on top opens into the way that the byte tells
pub opened_next : (b : ℕ) (part : Symbol) (parts : List Symbol) → is_span part ≡ false → opened (lead (part ∷ parts)) b (part ∷ parts) ≡ opened (lead (predict part b ++ parts)) b (predict part b ++ parts)
opened_next b part parts h =
    let d = lead_way part parts (predict part b) h (predict_is_one part b h) in
    opened_enough (lead (part ∷ parts)) (suc (lead (part ∷ parts))) b (part ∷ parts) (lead_refl (lead (part ∷ parts))) (lead_more (lead (part ∷ parts)))
    ∙ (opened_turn (lead (part ∷ parts)) b part parts h
    ∙ opened_enough (lead (part ∷ parts)) (lead (predict part b ++ parts)) b (predict part b ++ parts) (below (lead (predict part b ++ parts)) (lead (part ∷ parts)) d) (lead_refl (lead (predict part b ++ parts))))

pub acted_next : {V : Type 0} (does : Action → V → V) (b : ℕ) (part : Symbol) (parts : List Symbol) (x : V) → is_span part ≡ false → is_act part ≡ false
    → acted does (lead (part ∷ parts)) b (part ∷ parts) x ≡ acted does (lead (predict part b ++ parts)) b (predict part b ++ parts) x
acted_next does b part parts x h g =
    let d = lead_way part parts (predict part b) h (predict_is_one part b h) in
    acted_enough does (lead (part ∷ parts)) (suc (lead (part ∷ parts))) b (part ∷ parts) x (lead_refl (lead (part ∷ parts))) (lead_more (lead (part ∷ parts)))
    ∙ (acted_turn does (lead (part ∷ parts)) b part parts x h g
    ∙ acted_enough does (lead (part ∷ parts)) (lead (predict part b ++ parts)) b (predict part b ++ parts) x (below (lead (predict part b ++ parts)) (lead (part ∷ parts)) d) (lead_refl (lead (predict part b ++ parts))))
