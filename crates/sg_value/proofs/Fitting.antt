-- Lists of steps that fit, and the first that doesn't.
--   fit-append                 two lists of steps that fit
--   misfit-more, misfit-after  more steps after a list, and steps that fit before it
--   misfit-one                 a single step
--   not_both                   where every step fits none is the first that doesn't
use Rattle.std.proofs.Common.{◌≡◌, IsTrue, List, [], ◌∷◌, ◌++◌, sym, ap, ◌∙◌, subst, append_assoc}
use Rattle.sg_spec.specs.Steps.{Step, step_fits, AllFit, IsFirstMisfit}

pub fit-append : (xs ys : List Step) → AllFit xs → AllFit ys → AllFit (xs ++ ys)
fit-append [] ys h k = k
fit-append (x ∷ xs) ys h k = (h.0, fit-append xs ys h.1 k)

pub misfit-more : (xs ys : List Step) (s : Step) → IsFirstMisfit xs s → IsFirstMisfit (xs ++ ys) s
misfit-more xs ys s m = record {
  before = m.before;
  after = m.after ++ ys;
  split = ap (λ (zs : List Step). zs ++ ys) m.split ∙ append_assoc m.before (s ∷ m.after) ys;
  fit_before = m.fit_before;
  too_wide = m.too_wide;
}

pub misfit-after : (xs ys : List Step) (s : Step) → AllFit xs → IsFirstMisfit ys s → IsFirstMisfit (xs ++ ys) s
misfit-after xs ys s h m = record {
  before = xs ++ m.before;
  after = m.after;
  split = ap (λ (zs : List Step). xs ++ zs) m.split ∙ sym (append_assoc xs m.before (s ∷ m.after));
  fit_before = fit-append xs m.before h m.fit_before;
  too_wide = m.too_wide;
}

pub misfit-one : (s t : Step) → s ≡ t → (IsTrue (step_fits t) → ⊥) → IsFirstMisfit (s ∷ []) t
misfit-one s t e h = record { before = []; after = []; split = ap (λ (x : Step). let xs : List Step = x ∷ [] in xs) e; fit_before = tt; too_wide = h }

fit_middle : (xs : List Step) (s : Step) (ys : List Step) → AllFit (xs ++ s ∷ ys) → IsTrue (step_fits s)
fit_middle [] s ys h = h.0
fit_middle (x ∷ xs) s ys h = fit_middle xs s ys h.1

pub not_both : (ss : List Step) (s : Step) → AllFit ss → IsFirstMisfit ss s → ⊥
not_both ss s h m = m.too_wide (fit_middle m.before s m.after (subst AllFit m.split h))
