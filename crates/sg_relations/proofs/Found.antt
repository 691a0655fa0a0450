-- From rows, their null space and the ratio to the answer.
--   free_found           no vector in the basis of the null space: free
--   one_vector           else there is one
--   sign_found           the product of the powers of the leading coefficients by the shortest vector is 1 or -1
--   one_found, holds_found      by the vector, or twice it, it is 1, and the product of powers is r(k + 1)/r(k)
--   answer_found         the answer
use Rattle.std.proofs.Common.{◌≡◌, ℕ, zero, suc, ◌-◌, ◌<◌, ◌≤◌, refl, sym, subst, ap, ◌∙◌, List, [], ◌∷◌, ◌++◌, map, length, take, get_or, All, inl, inr, ◌↔◌, ℤ, pos, negsuc, ◌*ℤ◌, ◌<ℤ◌, arith}
use Rattle.std.proofs.lemmas.Int.{ints}
use Rattle.sg_algebra.specs.Coefficients.{Each}
use Rattle.sg_algebra.proofs.Solver.{by, ring, reads}
use Rattle.sg_algebra.proofs.Lists.{length_map}
use Rattle.sg_algebra.proofs.Linear.{Form}
use Rattle.sg_algebra.proofs.Divides.{on-neg}
use Rattle.sg_algebra.proofs.Value.{Value, ◌*ᵛ◌, neg_value, zero_value, one_value}
use Rattle.sg_algebra.proofs.ValueField.{ValueR, ValueF}
use Rattle.sg_algebra.proofs.Embedding.{constant_value, constant_valueH}
use Rattle.sg_algebra.proofs.ShiftValue.{shift_value, shift_valueH}
use Rattle.sg_matrix.specs.NullBasis.{AreNull, SpanNull}
use Rattle.sg_num.specs.Value.{number}
use Rattle.sg_num.specs.declared.rat.Rat.{Rat}
use Rattle.sg_ratfun.specs.Fractions.{ratio}
use Rattle.sg_tower_theory.specs.Powers.{power, powers}
use Rattle.sg_relations_theory.specs.Rows.{multiple_row, total}
use Rattle.sg_relations_theory.specs.Relations.{IsRatio, Holds, IsSign, AllZero, OnlyZeros, Expresses, Relates}
use Rattle.sg_relations_theory.proofs.PowerLaws.{Some, powers-multiple}
use Rattle.sg_relations_theory.proofs.Similar.{Similar, similar_same}
use Rattle.sg_relations_theory.proofs.SignLaw.{Ratio, SignRatio, ratio_holds}
use Rattle.sg_relations_theory.proofs.Multiples.{twice_holds}
use Rattle.sg_relations_theory.proofs.NullVectors.{dot, number_at, as_value}
use Rattle.sg_relations_theory.proofs.Transposed.{column_in}
use Rattle.sg_relations_theory.proofs.Answering.{whole_narrow, answer_expressed, answer_dependent, answer_twice}
use Rattle.sg_relations.specs.declared.answer.Relation.{Relation}
use Rattle.sg_relations.specs.declared.answer.Relation.TheVariants.{Free, Expressed, Dependent}
use Rattle.sg_relations.specs.Parts.{lead}
use Rattle.sg_relations.specs.Shortest.{IsShortest}
use Rattle.sg_relations.specs.Relating.{AreRatioRows, AreLeadRows, width_of, IsTable, IsSigned, IsMonicFraction, IsNamed, IsRelation}
use Rattle.sg_relations.proofs.Relating.{columns_from, columns_sized, law_columns, IsTableOf, table_of, free_answer, alone, last_positive, sent, generated}

length-join : {A : Type 0} (xs : List A) (x : A) → length (xs ++ x ∷ []) ≡ suc (length xs)
length-join [] x = refl
length-join (y ∷ xs) x = ap suc (length-join xs x)

first_width : (rows : List (List ℤ)) (w : ℕ) → 0 < length rows → Each (λ r. length r ≡ w) rows → width_of rows ≡ w
first_width [] w l h = absurd (omega arith)
first_width (r ∷ rows) w l h = h.0

length-multiple : (t : ℤ) (es : List ℤ) → length (multiple_row t es) ≡ length es
length-multiple t [] = refl
length-multiple t (e ∷ es) = ap suc (length-multiple t es)

multiple-at : (t : ℤ) (es : List ℤ) (i : ℕ) → i < length es → number_at (multiple_row t es) i ≡ t *ℤ number_at es i
multiple-at t [] i l = absurd (omega arith)
multiple-at t (e ∷ es) zero l = refl
multiple-at t (e ∷ es) (suc i) l = multiple-at t es i (omega arith)

-- a row is all but its last item, and that
ends : (es : List ℤ) (n : ℕ) → length es ≡ suc n → es ≡ take n es ++ number_at es n ∷ []
ends [] n l = absurd (omega arith)
ends (e ∷ []) zero l = refl
ends (e ∷ f ∷ es) zero l = absurd (omega arith)
ends (e ∷ es) (suc n) l = ap (λ r. e ∷ r) (ends es n (omega arith))

length-take : (es : List ℤ) (n : ℕ) → length es ≡ suc n → length (take n es) ≡ n
length-take es zero l = refl
length-take [] (suc n) l = absurd (omega arith)
length-take (e ∷ es) (suc n) l = ap suc (length-take es n (omega arith))

all_each : {X : Type 0} (P : X → Type 0) (xs : List X) → All P xs → Each P xs
all_each P [] h = tt
all_each P (x ∷ xs) h = (h 0 x (omega arith), all_each P xs (λ k y l. h (suc k) y (omega arith)))

each_map : {X Y : Type 0} (P : Y → Type 0) (f : X → Y) (xs : List X) → All (λ x. P (f x)) xs → Each P (map f xs)
each_map P f [] h = tt
each_map P f (x ∷ xs) h = (h 0 x (omega arith), each_map P f xs (λ k y l. h (suc k) y (omega arith)))

each-join : {X : Type 0} (P : X → Type 0) (xs : List X) (x : X) → Each P xs → P x → Each P (xs ++ x ∷ [])
each-join P [] x h k = (k, tt)
each-join P (y ∷ xs) x h k = (h.0, each-join P xs x h.1 k)

module _ {K : Type 0} {d : ℕ} (v : K → Value d) (alphas all : List (List K × List K)) (new : List K × List K) (some : All (λ r. ¬ (ratio v r ≡ zero_value)) alphas) (some_new : ¬ (ratio v new ≡ zero_value))
    (all_is : map (ratio v) all ≡ map (ratio v) alphas ++ ratio v new ∷ []) where
  abbrev T : Type 0
  T = Value (suc d)

  abbrev xs : List T
  xs = map (ratio v) alphas

  abbrev nw : T
  nw = ratio v new

  pub all_long : length all ≡ suc (length xs)
  all_long = sym (length_map (ratio v) all) ∙ ap length all_is ∙ length-join xs nw

  some_xs : Each (Some (ValueF (suc d))) xs
  some_xs = each_map (Some (ValueF (suc d))) (ratio v) alphas some

  some_all : Each (Some (ValueF (suc d))) (xs ++ nw ∷ [])
  some_all = each-join (Some (ValueF (suc d))) xs nw some_xs some_new

  -- none of them is 0
  pub all_some : All (λ r. ¬ (ratio v r ≡ zero_value)) all
  all_some = back all (subst (λ (ys : List T). Each (Some (ValueF (suc d))) ys) (sym all_is) some_all)
    where
      back : (rs : List (List K × List K)) → Each (Some (ValueF (suc d))) (map (ratio v) rs) → All (λ r. ¬ (ratio v r ≡ zero_value)) rs
      back [] h k x l = absurd (omega arith)
      back (r ∷ rs) h zero x l = h.0
      back (r ∷ rs) h (suc k) x l = back rs h.1 k x (omega arith)

  pub table_found : (cs : List (Value d)) (rows : List (List ℤ)) (t : List (List Rat)) → AreLeadRows (map (ratio v) all) cs rows → IsTable rows t → (i : ℕ) → i < length t → length (get_or t i []) ≡ length all
  table_found cs rows t h is i l = sym (length_map number (get_or t i [])) ∙ ap length (is.at i (inside (length t) (width_of rows) is.sized l)) ∙ length_map as_value (column_in rows i) ∙ length_map (λ r. number_at r i) rows ∙ h.rows_are.rows_sized ∙ length_map (ratio v) all
    where
      inside : (a b : ℕ) → a ≡ b → i < a → i < b
      inside a b e l = omega (arith, e, l)

  module _ (independent : OnlyZeros xs) (leads : List K) (leads_some : All (λ x. ¬ (v x ≡ zero_value)) leads) (rows : List (List ℤ)) (h : AreLeadRows (map (ratio v) all) (map v leads) rows) (t : List (List Rat)) (is : IsTable rows t) (bs : List (List Rat))
      (sized : (i : ℕ) → i < length bs → length (get_or bs i []) ≡ length all) (sound : AreNull number t bs) (form : Form number bs) (complete : SpanNull number (length all) t bs) where
    hs : AreLeadRows (xs ++ nw ∷ []) (map v leads) rows
    hs = subst (λ (ys : List T). AreLeadRows ys (map v leads) rows) all_is h

    rs : AreRatioRows (xs ++ nw ∷ []) rows
    rs = hs.rows_are

    rows_long : length rows ≡ suc (length xs)
    rows_long = rs.rows_sized ∙ length-join xs nw

    table : IsTableOf rows rs.width t
    table = table_of rows t rs.width (first_width rows rs.width (omega (arith, rows_long)) rs.sized) is

    pub free_found : bs ≡ [] → OnlyZeros (xs ++ nw ∷ [])
    free_found e = free_answer d xs nw some_xs some_all independent rows rs t table (subst (λ (ys : List (List Rat)). SpanNull number (suc (length xs)) t ys) e (subst (λ (n : ℕ). SpanNull number n t bs) all_long complete))

    widths : Each (λ c. length c ≡ suc (length xs)) (columns_from rows 0 rs.width)
    widths = subst (λ (k : ℕ). Each (λ c. length c ≡ k) (columns_from rows 0 rs.width)) rows_long (columns_sized rows 0 rs.width)

    law : (es : List ℤ) → length es ≡ suc (length xs) → SignRatio d (powers (ValueF (suc d)) (xs ++ nw ∷ []) es) ↔ Each (λ c. dot c (number_at es) ≡ pos 0) (columns_from rows 0 rs.width)
    law es l = law_columns (xs ++ nw ∷ []) rows rs es (l ∙ sym (length-join xs nw))

    narrow_whole : (x : ℕ → ℤ) → Each (λ c. dot c x ≡ pos 0) (columns_from rows 0 rs.width) → x (length xs) ≡ pos 0 → (i : ℕ) → i ≤ length xs → x i ≡ pos 0
    narrow_whole = whole_narrow d xs nw some_xs some_all independent (columns_from rows 0 rs.width) widths law

    sizes : (i : ℕ) → i < length bs → length (get_or bs i []) ≡ suc (length xs)
    sizes i l = sized i l ∙ all_long

    spans : SpanNull number (suc (length xs)) t bs
    spans = subst (λ (n : ℕ). SpanNull number n t bs) all_long complete

    module _ (some_vector : 0 < length bs) (e : List ℤ) (short : IsShortest (get_or bs 0 []) e) where
      one : length bs ≡ 1
      one = only (length bs) some_vector (alone rows (length xs) rs.width rows_long t table bs sizes sound form spans narrow_whole)
        where
          only : (n : ℕ) → 0 < n → ¬ (1 < n) → n ≡ 1
          only zero l k = absurd (omega arith)
          only (suc zero) l k = refl
          only (suc (suc n)) l k = absurd (k (omega arith))

      long : length e ≡ suc (length xs)
      long = short.sized ∙ sizes 0 some_vector

      pub long_found : length e ≡ length (map (lead v) all)
      long_found = long ∙ sym all_long ∙ sym (length_map (lead v) all)

      last_above : pos 0 <ℤ number_at e (length xs)
      last_above = last_positive rows (length xs) rs.width rows_long t table bs sizes sound form spans narrow_whole one e short

      nothing : Each (λ c. dot c (number_at e) ≡ pos 0) (columns_from rows 0 rs.width)
      nothing = sent rows (length xs) rs.width rows_long t table bs sizes sound form spans narrow_whole one e short

      generates : (x : ℕ → ℤ) → Each (λ c. dot c x ≡ pos 0) (columns_from rows 0 rs.width) → (s : ℤ) × ((i : ℕ) → i ≤ length xs → x i ≡ s *ℤ number_at e i)
      generates = generated rows (length xs) rs.width rows_long t table bs sizes sound form spans narrow_whole one e short

      long_all : length e ≡ length (xs ++ nw ∷ [])
      long_all = long ∙ sym (length-join xs nw)

      sums : AllZero (total e rows)
      sums = (rs.law e long_all).0 ((law e long).1 nothing)

      abbrev P : List ℤ → T
      P es = powers (ValueF (suc d)) (xs ++ nw ∷ []) es

      abbrev Q : List ℤ → Value d
      Q es = powers (ValueF d) (map v leads) es

      pub sign_found : IsSign (Q e)
      sign_found = hs.sign e long_all sums

      alike : Similar (ValueF (suc d)) (shift_valueH d) (P e) (constant_value d (Q e))
      alike = hs.alike e long_all sums

      plain : Q e ≡ one_value → Ratio d (P e)
      plain q = similar_same (ValueF (suc d)) (shift_valueH d) (P e) (constant_value d (Q e)) (P e) one_value refl (ap (constant_value d) q ∙ (constant_valueH d).on-one) alike

      turned : Q e ≡ neg_value one_value → Ratio d (neg_value (P e))
      turned q = record { r = alike.r; some = alike.some; is = by (ValueR (suc d)) (P e ∷ alike.r ∷ shift_value d alike.r ∷ []) (sym (ap (λ (y : T). y *ᵛ shift_value d alike.r) (sym minus) ∙ alike.is)) (search reads depth 16) refl }
        where
          minus : constant_value d (Q e) ≡ neg_value one_value
          minus = ap (constant_value d) q ∙ on-neg (ValueR d) (ValueR (suc d)) (constant_valueH d) one_value ∙ ap neg_value ((constant_valueH d).on-one)

      module _ (leads_are : map v leads ≡ map (lead v) all) (fs : List ℤ) (signed : IsSigned (map v leads) e fs) where
        long_fs : IsSigned (map v leads) e fs → length fs ≡ suc (length xs)
        long_fs (inl s) = ap length s.1 ∙ long
        long_fs (inr s) = ap length s.1 ∙ length-multiple (pos 2) e ∙ long

        pub sized_found : length fs ≡ length all
        sized_found = long_fs signed ∙ sym all_long

        some_leads : Each (Some (ValueF d)) (map v leads)
        some_leads = each_map (Some (ValueF d)) v leads leads_some

        unit : IsSigned (map v leads) e fs → Q fs ≡ one_value
        unit (inl s) = ap Q s.1 ∙ s.0
        unit (inr s) = ap Q s.1 ∙ powers-multiple (ValueF d) (map v leads) (pos 2) e some_leads ∙ ap (λ (y : Value d). power (ValueF d) y (pos 2)) s.0 ∙ ring (ValueR d) [] (search reads depth 12) refl

        pub one_found : powers (ValueF d) (map (lead v) all) fs ≡ one_value
        one_found = ap (λ (cs : List (Value d)). powers (ValueF d) cs fs) (sym leads_are) ∙ unit signed

        is_ratio_of : IsSigned (map v leads) e fs → Ratio d (P fs)
        is_ratio_of (inl s) = subst (λ (es : List ℤ). Ratio d (P es)) (sym s.1) (plain s.0)
        is_ratio_of (inr s) = subst (λ (es : List ℤ). Ratio d (P es)) (sym s.1) (twice_holds (ValueF (suc d)) (shift_valueH d) (xs ++ nw ∷ []) some_all e (turned s.0))

        pub holds_found : Holds (map (ratio v) all) fs
        holds_found = subst (λ (ys : List T). Holds ys fs) (sym all_is) (ratio_holds d (xs ++ nw ∷ []) fs (is_ratio_of signed))

        module _ (r : List K × List K) (ratio_is : IsRatio (powers (ValueF (suc d)) (map (ratio v) all) fs) (ratio v r)) (monic : IsMonicFraction v r) where
          -- the ratio as one of the exponents that fs are
          moved : (es : List ℤ) → fs ≡ es → Ratio d (P es)
          moved es q = record { r = ratio v r; some = k.some; is = ring (ValueR (suc d)) (shift_value d (ratio v r) ∷ []) (search reads depth 12) refl ∙ k.is }
            where
              k : IsRatio (P es) (ratio v r)
              k = subst (λ (gs : List ℤ). IsRatio (P gs) (ratio v r)) q (subst (λ (ys : List T). IsRatio (powers (ValueF (suc d)) ys fs) (ratio v r)) all_is ratio_is)

          last_place : length fs - 1 ≡ length xs
          last_place = less (length fs) (long_fs signed)
            where
              less : (m : ℕ) → m ≡ suc (length xs) → m - 1 ≡ length xs
              less m q = omega (arith, q)

          expressed : number_at fs (length xs) ≡ pos 1 → IsSigned (map v leads) e fs → Expresses xs nw (multiple_row (negsuc 0) (take (length xs) fs)) (ratio v r)
          unfolding moved
          expressed last (inl s) = answer_expressed d xs nw some_xs some_all independent (columns_from rows 0 rs.width) widths law (take (length xs) fs) (length-take fs (length xs) (long_fs signed))
              (moved (take (length xs) fs ++ pos 1 ∷ []) (ends fs (length xs) (long_fs signed) ∙ ap (λ (z : ℤ). take (length xs) fs ++ z ∷ []) last))
          expressed last (inr s) = absurd (even (number_at e (length xs)) (sym (multiple-at (pos 2) e (length xs) (omega (arith, long))) ∙ ap (λ (gs : List ℤ). number_at gs (length xs)) (sym s.1) ∙ last))
            where
              even : (z : ℤ) → pos 2 *ℤ z ≡ pos 1 → ⊥
              even (pos n) q = omega (arith, ints)
              even (negsuc n) q = omega (arith, ints)

          dependent : ¬ (number_at fs (length xs) ≡ pos 1) → IsSigned (map v leads) e fs → Relates xs nw fs (ratio v r)
          unfolding moved
          dependent last (inl s) = subst (λ (gs : List ℤ). Relates xs nw gs (ratio v r)) (sym s.1)
              (answer_dependent d xs nw some_xs some_all independent (columns_from rows 0 rs.width) widths law e long generates (above (number_at e (length xs)) last_above (λ q. last (ap (λ (gs : List ℤ). number_at gs (length xs)) s.1 ∙ q))) (moved e s.1))
            where
              above : (z : ℤ) → pos 0 <ℤ z → ¬ (z ≡ pos 1) → pos 1 <ℤ z
              above (pos zero) l h = absurd (omega (arith, ints))
              above (pos (suc zero)) l h = absurd (h refl)
              above (pos (suc (suc n))) l h = omega (arith, ints)
              above (negsuc n) l h = absurd (omega (arith, ints))
          dependent last (inr s) = subst (λ (gs : List ℤ). Relates xs nw gs (ratio v r)) (sym s.1)
              (answer_twice d xs nw some_xs some_all independent (columns_from rows 0 rs.width) widths law e long generates last_above (turned s.0) (moved (multiple_row (pos 2) e) s.1))

          pub answer_found : (a : Relation K) → IsNamed fs r a → IsRelation v xs nw a
          answer_found Free h = absurd h
          answer_found (Expressed gs s) h = (
            subst (λ (y : List K × List K). Expresses xs nw gs (ratio v y)) (sym h.2) (subst (λ (es : List ℤ). Expresses xs nw es (ratio v r)) (sym (h.1 ∙ ap (λ (n : ℕ). multiple_row (negsuc 0) (take n fs)) last_place))
                (expressed (ap (number_at fs) (sym last_place) ∙ h.0) signed)),
            subst (IsMonicFraction v) (sym h.2) monic,
          )
          answer_found (Dependent gs s) h = (
            subst (λ (y : List K × List K). Relates xs nw gs (ratio v y)) (sym h.2) (subst (λ (es : List ℤ). Relates xs nw es (ratio v r)) (sym h.1)
                (dependent (λ q. h.0 (ap (number_at fs) last_place ∙ q)) signed)),
            subst (IsMonicFraction v) (sym h.2) monic,
          )
