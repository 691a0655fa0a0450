-- The steps of the start, and of one combination.
use Rattle.std.proofs.Common.{◌≡◌, ℕ, ◌+◌, ◌<◌, subst, List, [], ◌∷◌, ◌++◌, map, length, take, get_or, arith}
use Rattle.sg_algebra.specs.Ring.{Ring}
use Rattle.sg_algebra.proofs.PolynomialRing.{PolyR}
use Rattle.sg_algebra.proofs.Linear.{unit}
use Rattle.sg_algebra.proofs.Value.{Value, ◌+ᵛ◌, ◌*ᵛ◌}
use Rattle.sg_tower_theory.proofs.Formal.{elements, shifted}
use Rattle.sg_sums.specs.declared.partial.Partial.{Partial}
use Rattle.sg_sums.specs.Polynomials.{PolySum, PolyMultiple, partial_consts, IsExtended, StartFrom, IsStartRow}
use Rattle.sg_sums.proofs.Building.{take_next, length_take, take_whole}
use Rattle.sg_sums.proofs.Solving.{starts_next}
use Rattle.sg_tower.specs.Elements.{Reading}

module _ {d : ℕ} {E : Type 0} (ρ : Reading d E) {K : Type 0} (v : K → Value d) where
  abbrev R : Ring
  R = elements ρ.formal

  abbrev P : Ring
  P = PolyR R

  pub extended_is : (acc row r : Partial K E) (c : Value d) (more rest : List E) → ((i : ℕ) → partial_consts ρ v r i ≡ partial_consts ρ v acc i +ᵛ c *ᵛ partial_consts ρ v row i)
      → PolyMultiple ρ ((shifted ρ.formal).κ.on c) row.value more → PolySum ρ acc.value more r.value → PolyMultiple ρ ((shifted ρ.formal).κ.on c) row.left rest → PolySum ρ acc.left rest r.left → IsExtended ρ v acc c row r
  extended_is acc row r c more rest h s t p q = record {
    coeffs = h;
    value = P.trans t (P.add_cong (P.rfl {x = map ρ.of acc.value}) s);
    left = P.trans q (P.add_cong (P.rfl {x = map ρ.of acc.left}) p);
  }

  module _ (β : E) (fs : List (List E)) where
    pub start_row : (k : ℕ) (x y none left : List E) (w : Partial K E) → k < length fs → x ≡ get_or fs k x → y ≡ x → none ≡ [] → ((j : ℕ) → partial_consts ρ v w j ≡ unit k j) → w.value ≡ none → PolySum ρ none y w.left → IsStartRow ρ v β fs k x w
    start_row k x y none left w l e h n u z s = record {
      inside = l;
      place = e;
      consts = u;
      no_value = rw (z, n) P.rfl;
      all_left = subst (λ (q : List E). (PolyR R).◌≈◌ (map ρ.of w.left) (map ρ.of q)) h (P.trans s (rw n (P.rfl {x = map ρ.of y})));
    }

    pub start_next : (rows new : List (Partial K E)) (i : ℕ) (x : List E) (w : Partial K E) → StartFrom ρ v β fs 0 (take i fs) rows → i < length fs → x ≡ get_or fs i x → IsStartRow ρ v β fs i x w → new ≡ rows ++ w ∷ [] → StartFrom ρ v β fs 0 (take (i + 1) fs) new
    start_next rows new i x w s l e u n = rw (n, take_next fs i x l e) (starts_next ρ v β fs (take i fs) rows 0 i x w s (omega (arith, length_take fs i l)) u)

    pub start_whole : (rows : List (Partial K E)) (i : ℕ) → StartFrom ρ v β fs 0 (take i fs) rows → i ≡ length fs → StartFrom ρ v β fs 0 fs rows
    start_whole rows i s e = rw (take_whole fs i e) at s
