-- The turns of the machine's loop, on a stack whose last item is on top.
--   OpensAlike      two stacks with their states open into the same
--   alike_way       when a part opens
--   lead_way_of     the lead falls
use Rattle.std.specs.Prelude.{◌≡◌, ℕ, ◌<◌, List, [], ◌∷◌, ◌++◌, false}
use Rattle.std.proofs.Common.{refl, sym, ap, ◌∙◌, arith}
use Rattle.std.proofs.lemmas.List.{reverse-append, map-append}
use Rattle.sg_syntax.specs.Table.{Symbol as Part}
use Rattle.sg_syntax.proofs.Deriving.{is_act}
use Rattle.sg_spec.specs.Syntax.{State}
use Rattle.sg_syntax.specs.Stack.{predict, lead, opened, acted}
use Rattle.sg_syntax.specs.Parts.{part_of, parts_of}
use Rattle.sg_syntax.specs.Drafts.{capped_action}
use Rattle.sg_syntax.specs.declared.symbol.Action.{Action}
use Rattle.sg_syntax.specs.declared.symbol.Symbol.{Symbol}
use Rattle.sg_syntax.specs.declared.symbol.Symbol.TheVariants.{Span, Act}
use Rattle.sg_syntax.proofs.Tables.{is_span}
use Rattle.sg_syntax.proofs.Way.{predict_is_one}
use Rattle.sg_syntax.proofs.Runs.{lead_way, opened_next, acted_next}

pub parts_of-append : (items more : List Symbol) → parts_of (items ++ more) ≡ parts_of more ++ parts_of items
parts_of-append items more = simp (reverse-append, map-append)

pub parts_of-one_more : (items : List Symbol) (part : Symbol) → parts_of (items ++ (part ∷ [])) ≡ (part_of part ∷ parts_of items)
parts_of-one_more items part = simp (reverse-append, map-append)

pub record OpensAlike (b : ℕ) (p : List Part) (s : State) (q : List Part) (t : State) : Type 0 where
  pub stack : opened (lead p) b p ≡ opened (lead q) b q
  pub state : acted capped_action (lead p) b p s ≡ acted capped_action (lead q) b q t

pub not_span : (part : Symbol) → ((x y : ℕ) → part ≡ Span x y → ⊥) → is_span (part_of part) ≡ false
not_span (Span x y) h = absurd (h x y refl)
not_span part h = refl

pub not_act : (part : Symbol) → ((a : Action) → part ≡ Act a → ⊥) → is_act (part_of part) ≡ false
not_act (Act a) h = absurd (h a refl)
not_act part h = refl

pub alike_way : (b : ℕ) (p : List Part) (s t : State) (old items more new : List Symbol) (part : Symbol) → old ≡ items ++ (part ∷ []) → new ≡ items ++ more
    → is_span (part_of part) ≡ false → is_act (part_of part) ≡ false → parts_of more ≡ predict (part_of part) b
    → OpensAlike b p s (parts_of old) t → OpensAlike b p s (parts_of new) t
alike_way b p s t old items more new part e f n m w h =
    let top : parts_of old ≡ part_of part ∷ parts_of items = ap parts_of e ∙ parts_of-one_more items part in
    let now : predict (part_of part) b ++ parts_of items ≡ parts_of new = sym (ap parts_of f ∙ (parts_of-append items more ∙ ap (λ q. q ++ parts_of items) w)) in
    record {
      stack = h.stack ∙ (ap (λ q. opened (lead q) b q) top ∙ (opened_next b (part_of part) (parts_of items) n ∙ ap (λ q. opened (lead q) b q) now));
      state = h.state ∙ (ap (λ q. acted capped_action (lead q) b q t) top ∙ (acted_next capped_action b (part_of part) (parts_of items) t n m ∙ ap (λ q. acted capped_action (lead q) b q t) now));
    }

pub lead_way_of : (b : ℕ) (old items more new : List Symbol) (part : Symbol) → old ≡ items ++ (part ∷ []) → new ≡ items ++ more → is_span (part_of part) ≡ false
    → parts_of more ≡ predict (part_of part) b → lead (parts_of new) < lead (parts_of old)
lead_way_of b old items more new part e f n w =
    let h = lead_way (part_of part) (parts_of items) (predict (part_of part) b) n (predict_is_one (part_of part) b n) in
    let k : lead (parts_of new) ≡ lead (predict (part_of part) b ++ parts_of items) = ap lead (ap parts_of f ∙ (parts_of-append items more ∙ ap (λ q. q ++ parts_of items) w)) in
    let m : lead (parts_of old) ≡ lead (part_of part ∷ parts_of items) = ap lead (ap parts_of e ∙ parts_of-one_more items part) in
    omega arith
