-- The slots that the steps of a chain take in turn.
use Rattle.std.proofs.Common.{◌≡◌, ◌<◌, ◌≤◌, ◌+◌, ◌∙◌, ℕ, List, length, take, ap, subst, arith, inl, inr}
use Rattle.std.specs.Prelude.{slice_index_or}
use Rattle.std.proofs.lemmas.List.{take_more}
use Rattle.std.proofs.lemmas.List.Sums.{sum_by-take-le, sum_by_push}
use Rattle.slotted_proofs.specs.Entries.{statement_at}
use Rattle.slotted_graph.specs.Graph.{Graph, MakesAtMost, RunsOut}
use Rattle.slotted_graph.specs.Image.{Image}
use Rattle.slotted_graph.specs.Syn.{term_binders, MakesForTermAt}
use Rattle.slotted_graph.proofs.Tables.{makes-more, makes-then, runs_out-then}
use Rattle.slotted_explain.specs.Chain.{Rewrite, chain_binders, step_binders, steps_binders, HasLargeStep, HasLargeStepOf, MakesForStep, MakesForSteps, StepRunsOut, StepsRunOut, TermsRunOut}

pub steps-first : (g : Image) (rs : List Rewrite) (i : ℕ) → steps_binders g (take i rs) ≤ steps_binders g rs
steps-first g rs i = sum_by-take-le (step_binders g) rs i

-- the first steps, and one more
module _ (g h k : Graph) (rs : List Rewrite) (i : ℕ) (r : Rewrite) (lt : i < length rs) (is : slice_index_or rs i r ≡ r) (image : h.image ≡ g.image) (before : MakesForSteps g h (take i rs)) where
  next : steps_binders g.image (take (i + 1) rs) ≡ steps_binders g.image (take i rs) + step_binders g.image r
  next =
      ap (steps_binders g.image) (take_more rs i r lt)
      ∙ (sum_by_push (step_binders g.image) (take i rs) (slice_index_or rs i r) ∙ ap (λ x. steps_binders g.image (take i rs) + step_binders g.image x) is)

  pub step_makes : MakesForStep h k r → MakesForSteps g k (take (i + 1) rs)
  step_makes m =
      makes-then (steps_binders g.image (take i rs)) (step_binders g.image r) (steps_binders g.image (take (i + 1) rs)) g.table h.table k.table before
      (subst (λ (x : Image). MakesAtMost (step_binders x r) h.table k.table) image m) (omega (arith, next))

  pub all_make : MakesForStep h k r → MakesForSteps g k rs
  all_make m = makes-more (steps_binders g.image (take (i + 1) rs)) (steps_binders g.image rs) g.table k.table (step_makes m) (steps-first g.image rs (i + 1))

  pub step_lacks : StepRunsOut h k r → StepsRunOut g k rs
  step_lacks (inl out) =
      inl (runs_out-then (steps_binders g.image (take i rs)) (step_binders g.image r) (steps_binders g.image rs) g.table h.table k.table before
      (subst (λ (x : Image). RunsOut (step_binders x r) h.table k.table) image out) (omega (arith, next, steps-first g.image rs (i + 1))))
  step_lacks (inr large) = inr (r, (i, lt, is), subst (λ (x : Image). HasLargeStep x r) image large)

-- the left side, and then the steps
pub chain_lacks : (g h k : Graph) (p i : ℕ) (rs : List Rewrite) → i ≡ (statement_at g.image.stored p).equation.left → h.image ≡ g.image → MakesForTermAt g h i → StepsRunOut h k rs → TermsRunOut g k p rs
chain_lacks g h k p i rs class image made (inl out) =
    inl (runs_out-then (term_binders g.image.canonical i) (steps_binders g.image rs) (chain_binders g.image p rs) g.table h.table k.table made
    (subst (λ (x : Image). RunsOut (steps_binders x rs) h.table k.table) image out) (omega (arith, ap (term_binders g.image.canonical) class)))
chain_lacks g h k p i rs class image made (inr large) = inr (inr (subst (λ (x : Image). HasLargeStepOf x rs) image large))
