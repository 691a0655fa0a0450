-- The samples of a seed, one after another.
--   tallied-none    none yet
--   tallied-more    one more
--   tallied-few     the counts are small
--   tallied-line    the line of the counts
--   one-sample, lone-sample     the expression of one sample
use Rattle.std.specs.Prelude.{◌≡◌, ℕ, ◌+◌, ◌*◌, ◌^◌, ◌-◌, ◌≤◌, ◌<◌, Bool, cond, List, [], ◌∷◌, ◌++◌, length, map, pos, codes, decimal}
use Rattle.std.specs.List.{count_by, sum_by}
use Rattle.std.proofs.Common.{refl, sym, ap, subst, ◌∙◌, arith, length-append}
use Rattle.std.proofs.lemmas.List.Sums.{sum_by-append, count_by-le-length}
use Rattle.sg_expr.specs.Tree.{tree_of}
use Rattle.sg_expr.specs.declared.tree.Expr.{Expr}
use Rattle.sg_spec.specs.Tree.{Tree}
use Rattle.sg_gen.specs.Sample.{sampled}
use Rattle.sg_words.specs.declared.asked.Command.TheVariants.{Sum}
use Rattle.sg_top.specs.Answer.{Outcome, AreSampled, IsTreeReply, IsGenLine, is_done, is_no, is_wide}
use Rattle.sg_top.specs.Ending.{Tallied}
use Rattle.sg_top.specs.declared.samples.Tally.{Tally}
use Rattle.sg_top.specs.declared.status.Status.{Status}
use Rattle.sg_top.specs.declared.status.Status.TheVariants.{Done}

pub tallied-none : (seed : ℕ) → Tallied seed 0 (record { closed = 0; none = 0; wide = 0; bytes = 0 })
tallied-none seed = record { outcomes = []; all = refl; answers = tt; closed = refl; none = refl; wide = refl; bytes = refl; few_bytes = omega arith }

sampled-more : (seed i : ℕ) (os : List Outcome) (o : Outcome) → AreSampled seed i os → IsTreeReply (Sum (pos 1)) (sampled seed (i + length os) ∷ []) o.status o.out → AreSampled seed i (os ++ (o ∷ []))
sampled-more seed i [] o a r = (subst (λ n. IsTreeReply (Sum (pos 1)) (sampled seed n ∷ []) o.status o.out) (omega arith) r, tt)
sampled-more seed i (p ∷ os) o a r = (a.0, sampled-more seed (i + 1) os o a.1 (subst (λ n. IsTreeReply (Sum (pos 1)) (sampled seed n ∷ []) o.status o.out) (omega arith) r))

by-one-more : (f : Outcome → ℕ) (os : List Outcome) (o : Outcome) (n m : ℕ) → n ≡ sum_by f os → m ≡ n + f o → m ≡ sum_by f (os ++ (o ∷ []))
by-one-more f os o n m e k =
    let two : sum_by f (os ++ (o ∷ [])) ≡ sum_by f os + (0 + f o) = sum_by-append f os (o ∷ []) in
    let sum : m ≡ sum_by f os + (0 + f o) = omega arith in
    sum ∙ sym two

pub tallied-more : (seed i : ℕ) (before after : Tally) (status : Status) (text : List ℕ) → Tallied seed i before → IsTreeReply (Sum (pos 1)) (sampled seed i ∷ []) status text
    → after.closed ≡ before.closed + cond (is_done status) 1 0 → after.none ≡ before.none + cond (is_no status) 1 0 → after.wide ≡ before.wide + cond (is_wide status) 1 0
    → after.bytes ≡ before.bytes + length text → length text < 2 ^ 64 → Tallied seed (i + 1) after
tallied-more seed i before after status text t r c n w b size =
    let o : Outcome = record { status = status; out = text } in
    record {
      outcomes = t.outcomes ++ (o ∷ []);
      all = let all : length t.outcomes ≡ i = t.all in omega (arith, length-append t.outcomes (o ∷ []));
      answers = sampled-more seed 0 t.outcomes o t.answers (subst (λ k. IsTreeReply (Sum (pos 1)) (sampled seed k ∷ []) status text) (let all : length t.outcomes ≡ i = t.all in omega arith) r);
      closed = by-one-more (λ x. cond (is_done x.status) 1 0) t.outcomes o before.closed after.closed t.closed c;
      none = by-one-more (λ x. cond (is_no x.status) 1 0) t.outcomes o before.none after.none t.none n;
      wide = by-one-more (λ x. cond (is_wide x.status) 1 0) t.outcomes o before.wide after.wide t.wide w;
      bytes = by-one-more (λ x. length x.out) t.outcomes o before.bytes after.bytes t.bytes b;
      few_bytes = let few : before.bytes ≤ i * 2 ^ 64 = t.few_bytes in omega arith;
    }

at-most : (test : Outcome → Bool) (os : List Outcome) (n i count : ℕ) → n ≡ count_by test os → length os ≡ i → i < count → count < 2 ^ 32 → n < 2 ^ 32 - 1
at-most test os n i count e l b f = let h : count_by test os ≤ length os = count_by-le-length test os in omega arith

pub tallied-few : (seed i count : ℕ) (t : Tally) → Tallied seed i t → i < count → count < 2 ^ 32 → (t.closed < 2 ^ 32 - 1) × (t.none < 2 ^ 32 - 1) × (t.wide < 2 ^ 32 - 1)
tallied-few seed i count t d b f = (
  at-most (λ o. is_done o.status) d.outcomes t.closed i count d.closed d.all b f,
  at-most (λ o. is_no o.status) d.outcomes t.none i count d.none d.all b f,
  at-most (λ o. is_wide o.status) d.outcomes t.wide i count d.wide d.all b f,
)

pub tallied-bytes : (seed i count : ℕ) (t : Tally) → Tallied seed i t → i < count → count < 2 ^ 32 → t.bytes < 2 ^ 32 * 2 ^ 64
tallied-bytes seed i count t d b f = let few : t.bytes ≤ i * 2 ^ 64 = d.few_bytes in omega arith

pub tallied-line : (seed i count : ℕ) (t : Tally) (out : List ℕ) → Tallied seed i t → i ≡ count
    → out ≡ codes "closed " ++ decimal t.closed ++ codes " none " ++ decimal t.none ++ codes " wide " ++ decimal t.wide ++ codes " bytes " ++ decimal t.bytes ++ codes "\n" → IsGenLine seed count Done out
tallied-line seed i count t out d e is = record {
  status_is = refl;
  outcomes = d.outcomes;
  all = d.all ∙ e;
  answers = d.answers;
  is = rw (← d.closed, ← d.none, ← d.wide, ← d.bytes) is;
}

pub one-sample : (items start : List Expr) (e : Expr) → start ≡ [] → items ≡ start ++ (e ∷ []) → length items ≡ 1
one-sample items start e none is = ap length (is ∙ ap (λ (s : List Expr). s ++ (e ∷ [])) none)

pub lone-sample : (items start : List Expr) (e : Expr) (seed i : ℕ) → start ≡ [] → items ≡ start ++ (e ∷ []) → tree_of e ≡ sampled seed i → map tree_of items ≡ sampled seed i ∷ []
lone-sample items start e seed i none is t = ap (map tree_of) (is ∙ ap (λ (s : List Expr). s ++ (e ∷ [])) none) ∙ ap (λ (x : Tree). x ∷ []) t
