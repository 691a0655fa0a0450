-- Going through the products of a list, as a loop does.
--   Leads parameter qs ps qs'    from the free products qs the list ps leads to qs': each product is free over those so far, and joins
--                                them, or is expressed
--   leads_free, leads_expressed  one product more at the end
--   leads_first                  the product behind it is the first dependent one, if it is dependent
--   leads_none                   where the whole list leads somewhere, no product is dependent
use Rattle.std.proofs.Common.{◌≡◌, refl, sym, subst, List, [], ◌∷◌, ◌++◌, Bool, ◌⊎◌, inl, inr}
use Rattle.sg_spec.specs.Tree.{Tree}
use Rattle.sg_answers_theory.specs.Matches.{HasNoMatch, IsExpressedOver, IsDependentOver}
use Rattle.sg_matches_theory.specs.Lists.{IsFirstDependent, NoneDependent}

module _ (parameter : Bool) where
  abbrev pub Leads : List Tree → List Tree → List Tree → Type 0
  Leads qs [] qs' = qs ≡ qs'
  Leads qs (p ∷ ps) qs' = (HasNoMatch parameter qs p × Leads (qs ++ p ∷ []) ps qs') ⊎ (IsExpressedOver parameter qs p × Leads qs ps qs')

  pub leads_free : (qs ps qs' : List Tree) (p : Tree) → Leads qs ps qs' → HasNoMatch parameter qs' p → Leads qs (ps ++ p ∷ []) (qs' ++ p ∷ [])
  leads_free qs [] qs' p h f = inl (subst (λ (rs : List Tree). HasNoMatch parameter rs p) (sym h) f, subst (λ (rs : List Tree). qs ++ p ∷ [] ≡ rs ++ p ∷ []) h refl)
  leads_free qs (q ∷ ps) qs' p (inl h) f = inl (h.0, leads_free (qs ++ q ∷ []) ps qs' p h.1 f)
  leads_free qs (q ∷ ps) qs' p (inr h) f = inr (h.0, leads_free qs ps qs' p h.1 f)

  pub leads_expressed : (qs ps qs' : List Tree) (p : Tree) → Leads qs ps qs' → IsExpressedOver parameter qs' p → Leads qs (ps ++ p ∷ []) qs'
  leads_expressed qs [] qs' p h e = inr (subst (λ (rs : List Tree). IsExpressedOver parameter rs p) (sym h) e, h)
  leads_expressed qs (q ∷ ps) qs' p (inl h) e = inl (h.0, leads_expressed (qs ++ q ∷ []) ps qs' p h.1 e)
  leads_expressed qs (q ∷ ps) qs' p (inr h) e = inr (h.0, leads_expressed qs ps qs' p h.1 e)

  pub leads_first : (qs ps qs' after : List Tree) (p : Tree) → Leads qs ps qs' → IsDependentOver parameter qs' p
      → IsFirstDependent parameter qs (ps ++ p ∷ after) p
  leads_first qs [] qs' after p h d = inl (subst (λ (rs : List Tree). IsDependentOver parameter rs p) (sym h) d, refl)
  leads_first qs (q ∷ ps) qs' after p (inl h) d = inr (inl (h.0, leads_first (qs ++ q ∷ []) ps qs' after p h.1 d))
  leads_first qs (q ∷ ps) qs' after p (inr h) d = inr (inr (h.0, leads_first qs ps qs' after p h.1 d))

  pub leads_none : (qs ps qs' : List Tree) → Leads qs ps qs' → NoneDependent parameter qs ps
  leads_none qs [] qs' h = tt
  leads_none qs (q ∷ ps) qs' (inl h) = inl (h.0, leads_none (qs ++ q ∷ []) ps qs' h.1)
  leads_none qs (q ∷ ps) qs' (inr h) = inr (h.0, leads_none qs ps qs' h.1)
