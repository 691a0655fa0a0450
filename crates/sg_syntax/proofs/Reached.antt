-- How far the machine has come in a text.
--   acted_place      actions leave the place as it is
--   Reached          the stack and the state after the first bytes
--   reached-next                    after one more byte
--   reached-fault, reached-broken   the place of a fault: at a byte that isn't accepted, or at the end
--   reached-end                     the tree of the whole text
use Rattle.std.specs.Prelude.{◌≡◌, ℕ, zero, suc, ◌+◌, ◌≤◌, ◌<◌, List, [], ◌∷◌, ◌++◌, true, false, ◌&&◌, length, take, slice_index_or}
use Rattle.std.proofs.Common.{refl, sym, ap, ◌∙◌, arith, add-one}
use Rattle.std.proofs.Math.Seq.{take-length, take-suc}
use Rattle.sg_spec.specs.Grammar.{Action, text as start, IsSyntaxFault}
use Rattle.sg_syntax.specs.Table.{Symbol, span, act, text}
use Rattle.sg_spec.specs.Syntax.{Placed, State, at_start, after_byte, top_tree}
use Rattle.sg_syntax.specs.Stack.{predict, lead, opened, acted, accepts, next, runs, stack_after, state_after, finished}
use Rattle.sg_syntax.specs.Drafts.{capped_action}
use Rattle.sg_syntax.specs.Machines.{Advances, HasCappedTree}
use Rattle.sg_syntax.proofs.Same.{builds-from, fault-from}
use Rattle.sg_syntax.proofs.Runs.{runs-one_more, stack_after-one_more, state_after-one_more, fault_within, fault_at_end, builds_made}
use Rattle.sg_spec.specs.Grammar.{mark, letter, minus_sign, begin_number, digit, use_number, use_name, negate, add_up, subtract, multiply, divide, raise, make_sum, make_product, make_harmonic, make_harmonic_of_order, make_factorial, make_binomial, make_power}

action_place : (a : Action) (s : State) → (capped_action a s).place ≡ s.place
action_place digit s = refl
action_place mark s = refl
action_place letter s = refl
action_place minus_sign s = refl
action_place begin_number s = refl
action_place use_number s = refl
action_place use_name s = refl
action_place negate s = refl
action_place add_up s = refl
action_place subtract s = refl
action_place multiply s = refl
action_place divide s = refl
action_place raise s = refl
action_place make_sum s = refl
action_place make_product s = refl
action_place make_harmonic s = refl
action_place make_harmonic_of_order s = refl
action_place make_factorial s = refl
action_place make_binomial s = refl
action_place make_power s = refl

pub acted_place : (k b : ℕ) (st : List Symbol) (s : State) → (acted capped_action k b st s).place ≡ s.place
acted_place k b [] s = refl
acted_place k b (span low more ∷ parts) s = refl
acted_place zero b (part ∷ parts) s = refl
acted_place (suc k) b (act a ∷ parts) s = acted_place k b parts (capped_action a s) ∙ action_place a s
acted_place (suc k) b (part ∷ parts) s = acted_place k b (predict part b ++ parts) s

pub place_below : (s t : State) (k b n : ℕ) (st : List Symbol) → t ≡ acted capped_action k b st s → s.place < n → t.place < n
place_below s t k b n st e h = let q : t.place ≡ s.place = ap (λ (x : State). x.place) e ∙ acted_place k b st s in omega arith

abbrev begun : List Symbol
begun = text ∷ []

pub record Reached (w : List ℕ) (i : ℕ) (p : List Symbol) (s : State) : Type 0 where
  pub runs_so_far : runs (take i w) (text ∷ []) ≡ true
  pub stack : p ≡ stack_after (take i w) (text ∷ [])
  pub state : s ≡ state_after after_byte capped_action (take i w) (text ∷ []) at_start
  pub place : s.place ≡ i

take-more : (w : List ℕ) (i : ℕ) → i < length w → take (i + 1) w ≡ take i w ++ (slice_index_or w i 0 ∷ [])
take-more w i h = ap (λ q. take q w) (add-one i) ∙ take-suc w i 0 h

runs-more : (w : List ℕ) (i : ℕ) (p : List Symbol) (s : State) → i < length w → Reached w i p s → runs (take (i + 1) w) begun ≡ accepts (slice_index_or w i 0) p
runs-more w i p s h r =
    ap (λ q. runs q begun) (take-more w i h) ∙ (runs-one_more (take i w) (slice_index_or w i 0) begun
    ∙ (ap (λ q. q && accepts (slice_index_or w i 0) (stack_after (take i w) begun)) r.runs_so_far ∙ sym (ap (accepts (slice_index_or w i 0)) r.stack)))

pub reached-next : (w : List ℕ) (i : ℕ) (p q : List Symbol) (s t : State) → i < length w → Reached w i p s → accepts (slice_index_or w i 0) p ≡ true
    → Advances (slice_index_or w i 0) p s q t → Reached w (i + 1) q t
reached-next w i p q s t h r a d =
    let b = slice_index_or w i 0 in
    record {
      runs_so_far = runs-more w i p s h r ∙ a;
      stack = d.stack ∙ (ap (next b) r.stack ∙ (sym (stack_after-one_more (take i w) b begun) ∙ sym (ap (λ u. stack_after u begun) (take-more w i h))));
      state = d.state ∙ (ap (λ u. after_byte b (acted capped_action (lead u) b u s)) r.stack
          ∙ (ap (λ x. after_byte b (acted capped_action (lead (stack_after (take i w) begun)) b (stack_after (take i w) begun) x)) r.state
          ∙ (sym (state_after-one_more after_byte capped_action (take i w) b begun at_start) ∙ sym (ap (λ u. state_after after_byte capped_action u begun at_start) (take-more w i h)))));
      place = ap (λ (x : State). x.place) d.state ∙ ap (λ n. n + 1) (acted_place (lead p) b p s ∙ r.place);
    }

pub reached-fault : (w : List ℕ) (i : ℕ) (p : List Symbol) (s : State) → i < length w → Reached w i p s → accepts (slice_index_or w i 0) p ≡ false → IsSyntaxFault w i
reached-fault w i p s h r a = fault-from w i (fault_within w i h r.runs_so_far (runs-more w i p s h r ∙ a))

whole : (w : List ℕ) (i : ℕ) → length w ≤ i → i ≤ length w → take i w ≡ w
whole w i h k = let e : i ≡ length w = omega arith in ap (λ q. take q w) e ∙ take-length w

pub reached-end : (w : List ℕ) (i : ℕ) (p : List Symbol) (s t : State) (tree : Placed) → length w ≤ i → i ≤ length w → Reached w i p s → opened (lead p) 0 p ≡ []
    → t ≡ finished capped_action p s → tree ≡ top_tree t.trees → HasCappedTree w tree
reached-end w i p s t tree h k r e f g =
    let last : p ≡ stack_after w begun = r.stack ∙ ap (λ q. stack_after q begun) (whole w i h k) in
    let state : s ≡ state_after after_byte capped_action w begun at_start = r.state ∙ ap (λ q. state_after after_byte capped_action q begun at_start) (whole w i h k) in
    record {
      end = finished capped_action (stack_after w begun) (state_after after_byte capped_action w begun at_start);
      built = builds-from after_byte capped_action (start ∷ []) (builds_made after_byte capped_action w begun at_start (sym (ap (λ q. runs q begun) (whole w i h k)) ∙ r.runs_so_far) (sym (ap (λ q. opened (lead q) 0 q) last) ∙ e));
      on_top = sym (g ∙ ap (λ (x : State). top_tree x.trees) (f ∙ (ap (λ q. finished capped_action q s) last ∙ ap (finished capped_action (stack_after w begun)) state)));
    }

pub reached-broken : (w : List ℕ) (i : ℕ) (p : List Symbol) (s : State) → length w ≤ i → i ≤ length w → Reached w i p s → (opened (lead p) 0 p ≡ [] → ⊥) → IsSyntaxFault w (length w)
reached-broken w i p s h k r n =
    let last : p ≡ stack_after w begun = r.stack ∙ ap (λ q. stack_after q begun) (whole w i h k) in
    fault-from w (length w) (fault_at_end w (sym (ap (λ q. runs q begun) (whole w i h k)) ∙ r.runs_so_far) (λ e. n (ap (λ q. opened (lead q) 0 q) last ∙ e)))
