-- What the steps of an elimination answer.
--   IsFree v bs k                 no row has its first entry other than 0 in the column k
--   IsRest v bs n given rest      `rest` is the row `given` less a combination of the rows bs, and 0 where one of the first n rows has its first entry other than 0
--   IsAfter v bs rest j place i new  the row i when a row is added whose rest is other than 0 first at j: at `place` the rest over its entry at j, else
--                                 the row that stood there before, less the multiple of the rest that makes its entry at j 0
--   IsLess v b t a r              r is the row b less t times the row a
--   IsCleared v b rest r          r is the row `rest` less the multiple of b that makes its entry 0 where b has its first entry other than 0
--   image v bs p k i              the entry at i of the vector of the column k: the unit vector, less the entries of the rows in this column at the pivots p
--   IsVector v bs p w k r         r is the row of width w of this vector
use Rattle.std.specs.Prelude.{◌≡◌, ℕ, ◌<◌, List, length, map}
use Rattle.sg_algebra.proofs.Value.{Value, zero_value, ◌-ᵛ◌, ◌*ᵛ◌, inv_value}
use Rattle.sg_algebra.proofs.ValueField.{ValueR}
use Rattle.sg_algebra.proofs.Polynomial.{coefficient}
use Rattle.sg_algebra.proofs.Sums.{sum}
use Rattle.sg_algebra.proofs.Tables.{skip}
use Rattle.sg_algebra.proofs.Linear.{row, unit, table, Span}
use Rattle.sg_matrix.specs.Systems.{LeadsAt}

module _ {K : Type 0} {d : ℕ} (v : K → Value d) where
  abbrev pub IsFree : List (List K) → ℕ → Type 0
  IsFree bs k = (i : ℕ) → i < length bs → ¬ LeadsAt (row v bs i) k

  pub record IsRest (bs : List (List K)) (n : ℕ) (given rest : List K) : Type 0 where
    pub size : length rest ≡ length given
    pub span : Span (table v bs) (λ k. coefficient (map v given) k -ᵛ coefficient (map v rest) k)
    pub zeros : (i p : ℕ) → i < n → LeadsAt (row v bs i) p → coefficient (map v rest) p ≡ zero_value

  pub record IsAfter (bs : List (List K)) (rest : List K) (j place i : ℕ) (new : List K) : Type 0 where
    pub size : length new ≡ length rest
    pub own : i ≡ place → (k : ℕ) → coefficient (map v new) k ≡ coefficient (map v rest) k *ᵛ inv_value (coefficient (map v rest) j)
    pub other : (m : ℕ) → i ≡ skip place m → (k : ℕ) → coefficient (map v new) k ≡ row v bs m k -ᵛ (row v bs m j *ᵛ inv_value (coefficient (map v rest) j)) *ᵛ coefficient (map v rest) k

  abbrev pub IsLess : List K → K → List K → List K → Type 0
  IsLess b t a r = (k : ℕ) → coefficient (map v r) k ≡ coefficient (map v b) k -ᵛ v t *ᵛ coefficient (map v a) k

  abbrev pub IsCleared : List K → List K → List K → Type 0
  IsCleared b rest r = (p : ℕ) → LeadsAt (coefficient (map v b)) p → (k : ℕ) → coefficient (map v r) k ≡ coefficient (map v rest) k -ᵛ coefficient (map v rest) p *ᵛ coefficient (map v b) k

  abbrev pub image : List (List K) → (ℕ → ℕ) → ℕ → ℕ → Value d
  image bs p k i = unit k i -ᵛ sum (ValueR d) (λ l. row v bs l k *ᵛ unit (p l) i) (length bs)

  pub record IsVector (bs : List (List K)) (p : ℕ → ℕ) (w k : ℕ) (r : List K) : Type 0 where
    pub size : length r ≡ w
    pub is : (i : ℕ) → coefficient (map v r) i ≡ image bs p k i
