use Rattle.std.proofs.Common.{◌∙◌, sym, inl, inr}
use Rattle.std.proofs.lemmas.Bool.{false≢true}
use Rattle.slotted_model.specs.ProofList.{reflexive}
use Rattle.slotted_operations.specs.Good.{Good, RestsWith, HasFreshSlots}
use Rattle.slotted_classes.specs.Kept.{EntersIn, nodes_of}
use Rattle.slotted_proofs.specs.Equations.{statement_of}
use Rattle.slotted_proofs.specs.Steps.{IsReflexiveStep, by_step}
use Rattle.slotted_proofs.specs.StepClaims.{IsOfFull}
use Rattle.slotted_operations.proofs.Graphs.ProofSteps.{both_ok, Checked, reflexive_checked, kept_good, says_accepted, says_derivable, says_leaves}
use Rattle.slotted_graph.proofs.Analysed.{data-checked}
use Rattle.slotted_graph.proofs.Indexes.{no-index}
use Rattle.slotted_graph.proofs.Insides.{data-inside, rebuilt-unless}
use Rattle.slotted_graph.proofs.egraph.steps.ReflexivityProofCheck.check.Goals as goal

pub invariant_of-graph : goal.invariant_of-graph
invariant_of-graph g c =
    let k = c.graph.inside.store in
    let e = c.args.equation.now in
    let t = c.graph.inside.table in
    let r = c.check_reflexive.result in
    let l = c.check_reflexive.new.store in
    let rows = c.graph.inside.nodes in
    let h : Good k × HasFreshSlots t k × RestsWith k rows = elim c.graph.invariant [ inl h ↦ absurd (false≢true (sym c.if-graph.false ∙ h)) | inr h ↦ (h.0, h.1, h.2) ] in
    let checked = both_ok r (λ p. IsOfFull (nodes_of k) e × IsReflexiveStep e) (EntersIn k l (by_step (statement_of e) (reflexive))) (Checked t k l e (reflexive)) (λ p f x. reflexive_checked t k l e p h.0 f x) c.check_reflexive.ensures.fits c.check_reflexive.ensures.ok in
    let kept = kept_good r t k l rows e (reflexive) h checked c.check_reflexive.ensures.err in
    inr (
      kept.0,
      kept.1,
      kept.2,
      no-index _ c.clear.new.self.indexed c.clear.ensures,
      data-checked (g.N.Analysis.meaning c.graph.inside.analysis) r k l rows c.graph.inside.data _ kept.0 kept.2 (data-inside g.N.Analysis.meaning c.graph.inside.analysis c.if-graph.false c.graph.invariant) c.check_reflexive.ensures.ok c.check_reflexive.ensures.err,
    )

pub returns-clause-accepted : goal.returns-clause-accepted
returns-clause-accepted g c =
    let k = c.graph.inside.store in
    let e = c.args.equation.now in
    let t = c.graph.inside.table in
    let r = c.check_reflexive.result in
    let l = c.check_reflexive.new.store in
    let h : Good k × HasFreshSlots t k = elim c.graph.invariant [ inl h ↦ absurd (false≢true (sym c.if-graph.false ∙ h)) | inr h ↦ (h.0, h.1) ] in
    let checked = both_ok r (λ p. IsOfFull (nodes_of k) e × IsReflexiveStep e) (EntersIn k l (by_step (statement_of e) (reflexive))) (Checked t k l e (reflexive)) (λ p f x. reflexive_checked t k l e p h.0 f x) c.check_reflexive.ensures.fits c.check_reflexive.ensures.ok in
    says_accepted r c.graph.inside.failed t c.graph.inside.nodes k l e (reflexive) _ c.args.graph.now c.graph.view_is checked

pub returns-clause-derivable : goal.returns-clause-derivable
returns-clause-derivable g c =
    let k = c.graph.inside.store in
    let e = c.args.equation.now in
    let t = c.graph.inside.table in
    let r = c.check_reflexive.result in
    let l = c.check_reflexive.new.store in
    let h : Good k × HasFreshSlots t k = elim c.graph.invariant [ inl h ↦ absurd (false≢true (sym c.if-graph.false ∙ h)) | inr h ↦ (h.0, h.1) ] in
    let checked = both_ok r (λ p. IsOfFull (nodes_of k) e × IsReflexiveStep e) (EntersIn k l (by_step (statement_of e) (reflexive))) (Checked t k l e (reflexive)) (λ p f x. reflexive_checked t k l e p h.0 f x) c.check_reflexive.ensures.fits c.check_reflexive.ensures.ok in
    says_derivable r c.graph.inside.failed t c.graph.inside.nodes k l e (reflexive) _ c.args.graph.now c.graph.view_is checked

pub returns-clause-leaves : goal.returns-clause-leaves
returns-clause-leaves g c =
    let k = c.graph.inside.store in
    let e = c.args.equation.now in
    let t = c.graph.inside.table in
    let r = c.check_reflexive.result in
    let l = c.check_reflexive.new.store in
    let h : Good k × HasFreshSlots t k = elim c.graph.invariant [ inl h ↦ absurd (false≢true (sym c.if-graph.false ∙ h)) | inr h ↦ (h.0, h.1) ] in
    let checked = both_ok r (λ p. IsOfFull (nodes_of k) e × IsReflexiveStep e) (EntersIn k l (by_step (statement_of e) (reflexive))) (Checked t k l e (reflexive)) (λ p f x. reflexive_checked t k l e p h.0 f x) c.check_reflexive.ensures.fits c.check_reflexive.ensures.ok in
    says_leaves r c.graph.inside.failed t c.graph.inside.nodes k l e (reflexive) _ c.args.graph.now c.graph.view_is checked

pub returns-clause-rests : goal.returns-clause-rests
returns-clause-rests g c =
    let k = c.graph.inside.store in
    let e = c.args.equation.now in
    let t = c.graph.inside.table in
    let r = c.check_reflexive.result in
    let l = c.check_reflexive.new.store in
    let rows = c.graph.inside.nodes in
    let h : Good k × HasFreshSlots t k × RestsWith k rows = elim c.graph.invariant [ inl h ↦ absurd (false≢true (sym c.if-graph.false ∙ h)) | inr h ↦ (h.0, h.1, h.2) ] in
    let checked = both_ok r (λ p. IsOfFull (nodes_of k) e × IsReflexiveStep e) (EntersIn k l (by_step (statement_of e) (reflexive))) (Checked t k l e (reflexive)) (λ p f x. reflexive_checked t k l e p h.0 f x) c.check_reflexive.ensures.fits c.check_reflexive.ensures.ok in
    let kept = kept_good r t k l rows e (reflexive) h checked c.check_reflexive.ensures.err in
    inr (rebuilt-unless c.graph.inside.failed c.if-graph.false t l rows _ kept.0 kept.1 kept.2)
