-- The state of the build before and after a sum.
--   own-is           the last generator of a tower with one more sum is that sum
--   raised-same      the tower that is made of one and of what a new sum grows by
--   room, few        there is room for one more
--   grown-built      after a new sum
--   known-built      after one that is expressed
--   stands           where none is left
--   begun-built      before the first
use Rattle.std.proofs.Common.{◌≡◌, ℕ, zero, suc, ◌+◌, ◌-◌, ◌<◌, ◌≤◌, ◌==◌, nat_lt, cond, Bool, true, false, refl, sym, ap, ap₂, ◌∙◌, subst, List, [], ◌∷◌, ◌++◌, length, map, All, arith}
use Rattle.std.proofs.lemmas.List.{length-map}
use Rattle.sg_algebra.proofs.Value.{Value}
use Rattle.sg_spec.specs.Tree.{Tree}
use Rattle.sg_tower_theory.proofs.Formal.{Formal, Element, elements, one_more, own_sum, rational}
use Rattle.sg_depth_theory.proofs.Standing.{Stands, whole, few_sums, begun}
use Rattle.sg_tower.specs.Elements.{Reading, raised}
use Rattle.sg_tower.specs.Terms.{IsGenerator, own_generator, own_product}
use Rattle.sg_build.specs.Letters.{letter, HasNoLetter}
use Rattle.sg_limits.specs.declared.inspection.Facts.{Facts}
use Rattle.sg_depth.specs.declared.fate.Fate.TheVariants.{New, Known}
use Rattle.sg_depth.specs.Commands.{AreSound, StandsOver, StandsOverAll, sums_of, prods_of}
use Rattle.sg_depth.specs.Building.{IsBuilt, IsOwnOf, IsGrown}
use Rattle.sg_depth.specs.Fates.{IsFate}

same-eqb : (n : ℕ) → (n == n) ≡ true
same-eqb n = grind arith

not-less : (n m : ℕ) → nat_lt (n + m) n ≡ false
not-less n m = grind arith

without : (n m : ℕ) → (n + m) - n ≡ m
without n m = omega arith

-- the tower that was made of this one and of what the new sum grows by
pub raised-same : {d : ℕ} {S E : Type 0} (reading : S → Reading d E) (t t' : S) (b b' : E) → t' ≡ t → b' ≡ b → raised (reading t') b' ≡ raised (reading t) b
raised-same reading t t' b b' e f = ap₂ (λ s x. raised (reading s) x) e f

module _ {d : ℕ} {E : Type 0} (ρ : Reading d E) (b : E) where
  abbrev more : Formal d
  more = one_more ρ.formal (ρ.of b)

  last-is : own_generator more (length ρ.formal.products + ρ.formal.sums) ≡ (elements ρ.formal).O ∷ (elements ρ.formal).I ∷ []
  last-is =
      ap (λ t. cond t (own_product more (length ρ.formal.products + ρ.formal.sums)) (own_sum more ((length ρ.formal.products + ρ.formal.sums) - length ρ.formal.products))) (not-less (length ρ.formal.products) ρ.formal.sums)
      ∙ ap (own_sum more) (without (length ρ.formal.products) ρ.formal.sums)
      ∙ ap (λ t. cond t ((elements ρ.formal).O ∷ (elements ρ.formal).I ∷ []) (own_sum ρ.formal ρ.formal.sums ∷ [])) (same-eqb ρ.formal.sums)

  pub own-is : (ρ' : Reading d (List E)) (i : ℕ) (r : List E) → ρ' ≡ raised ρ b → i ≡ length ρ.formal.products + ρ.formal.sums → IsGenerator ρ' i r → IsOwnOf ρ b r
  own-is ρ' i r e j h =
      subst (λ (x : Element more). (elements more).◌≈◌ (map ρ.of r) x) last-is
      (subst (λ n. IsGenerator (raised ρ b) n r) j (subst (λ (σ : Reading d (List E)). IsGenerator σ i r) e h))

  -- it is among the generators
  pub last-inside : (ρ' : Reading d (List E)) (i : ℕ) → ρ' ≡ raised ρ b → i ≡ length ρ.formal.products + ρ.formal.sums → i < length ρ'.formal.products + ρ'.formal.sums
  last-inside ρ' i e j = subst (λ (σ : Reading d (List E)). i < length σ.formal.products + σ.formal.sums) (sym e) (omega (arith, j))

module _ {d : ℕ} {E : Type 0} (facts : Facts) (ρ : Reading d E) (places : List ℕ) (known : List E) where
  pub few : (r : ℕ) → IsBuilt facts (suc r) ρ places known → length known ≤ 8
  few r b = let l = b.state.left in let m = length-map known ρ.of in let f = b.state.sound.few in omega (arith, l, m, f)

  pub room : (r : ℕ) → IsBuilt facts (suc r) ρ places known → ρ.formal.sums < 64
  room r b = let s = few_sums (letter d) facts.start (prods_of facts) (sums_of facts) (suc r) ρ.formal places (map ρ.of known) b.state in let m = length-map known ρ.of in let f = few r b in omega (arith, s, m, f)

  pub grown-built : (b : E) (ρ' : Reading d (List E)) (places' : List ℕ) (known' : List (List E)) (r : ℕ) → IsGrown ρ b places known ρ' places' known' → IsFate facts ρ places known (New b) → IsBuilt facts (suc r) ρ places known → IsBuilt facts r ρ' places' known'
  grown-built b ρ' places' known' r g fate built =
      subst (λ (σ : Reading d (List E)). IsBuilt facts r σ places' known') (sym g.reading_is)
      (subst (λ (is : List ℕ). IsBuilt facts r (raised ρ b) is known') (sym g.places_are)
      (subst (λ (xs : List (List E)). IsBuilt facts r (raised ρ b) (places ++ length known ∷ []) xs) (sym g.known_are) (fate.1 g.own g.own_is r built)))

  pub known-built : (h : E) (known' : List E) (r : ℕ) → known' ≡ known ++ h ∷ [] → IsFate facts ρ places known (Known h) → IsBuilt facts (suc r) ρ places known → IsBuilt facts r ρ places known'
  known-built h known' r e fate built = subst (λ (xs : List E). IsBuilt facts r ρ places xs) (sym e) (fate r built)

  -- where no sum is left
  pub stands : IsBuilt facts 0 ρ places known → StandsOverAll facts ρ places known
  stands b = record {
    sound = b.state.sound;
    no_letter = b.no_letter;
    stands = whole (letter d) facts.start (prods_of facts) (sums_of facts) 0 ρ.formal places (map ρ.of known) b.state refl;
  }

pub begun-built : {d : ℕ} {E : Type 0} (facts : Facts) (m : E → Element rational) (places : List ℕ) (known : List E) → AreSound (letter d) facts → All (HasNoLetter d) (sums_of facts) → places ≡ [] → known ≡ []
    → IsBuilt facts (length (sums_of facts)) (record { formal = rational {d = d}; of = m }) places known
begun-built {d} facts m places known sound no_letter e k =
    record { no_letter = no_letter; state = begun (letter d) facts.start (prods_of facts) (sums_of facts) places (map m known) sound e (ap (map m) k) }
