use Rattle.std.proofs.Common.{◌∙◌, sym, inl, inr}
use Rattle.std.proofs.lemmas.Bool.{false≢true}
use Rattle.slotted_model.specs.ProofList.{transitive}
use Rattle.slotted_operations.specs.Good.{Good, RestsWith, HasFreshSlots}
use Rattle.slotted_classes.specs.Kept.{EntersIn, nodes_of}
use Rattle.slotted_proofs.specs.Equations.{statement_of}
use Rattle.slotted_proofs.specs.Steps.{IsTransitiveStep, by_step}
use Rattle.slotted_proofs.specs.StepClaims.{IsOfFull}
use Rattle.slotted_operations.proofs.Graphs.ProofSteps.{both_ok, Checked, transitive_checked, transitive_refused, kept_good, says_refused, says_fits, says_accepted, says_derivable, says_leaves}
use Rattle.slotted_graph.proofs.Analysed.{data-checked}
use Rattle.slotted_graph.proofs.Indexes.{no-index}
use Rattle.slotted_graph.proofs.Insides.{data-inside, rebuilt-unless}
use Rattle.slotted_graph.proofs.egraph.steps.TransitivityProofCheck.check.Goals as goal

pub invariant_of-graph : goal.invariant_of-graph
invariant_of-graph g c =
    let k = c.graph.inside.store in
    let e = c.args.equation.now in
    let t = c.graph.inside.table in
    let r = c.check_transitive.result in
    let l = c.check_transitive.new.store in
    let rows = c.graph.inside.nodes in
    let h : Good k × HasFreshSlots t k × RestsWith k rows = elim c.graph.invariant [ inl h ↦ absurd (false≢true (sym c.if-graph.false ∙ h)) | inr h ↦ (h.0, h.1, h.2) ] in
    let checked = both_ok r (λ p. IsOfFull (nodes_of k) e × IsTransitiveStep k.proofs e c.args.self.now.0 c.args.self.now.1) (EntersIn k l (by_step (statement_of e) (transitive c.args.self.now.0 c.args.self.now.1))) (Checked t k l e (transitive c.args.self.now.0 c.args.self.now.1)) (λ p f x. transitive_checked t k l e c.args.self.now.0 c.args.self.now.1 p h.0 f x) c.check_transitive.ensures.fits c.check_transitive.ensures.ok in
    let kept = kept_good r t k l rows e (transitive c.args.self.now.0 c.args.self.now.1) h checked c.check_transitive.ensures.err in
    inr (
      kept.0,
      kept.1,
      kept.2,
      no-index _ c.clear.new.self.indexed c.clear.ensures,
      data-checked (g.N.Analysis.meaning c.graph.inside.analysis) r k l rows c.graph.inside.data _ kept.0 kept.2 (data-inside g.N.Analysis.meaning c.graph.inside.analysis c.if-graph.false c.graph.invariant) c.check_transitive.ensures.ok c.check_transitive.ensures.err,
    )

pub returns-clause-fits : goal.returns-clause-fits
returns-clause-fits g c =
    let k = c.graph.inside.store in
    let e = c.args.equation.now in
    let t = c.graph.inside.table in
    let r = c.check_transitive.result in
    let l = c.check_transitive.new.store in
    let h : Good k × HasFreshSlots t k = elim c.graph.invariant [ inl h ↦ absurd (false≢true (sym c.if-graph.false ∙ h)) | inr h ↦ (h.0, h.1) ] in
    let checked = both_ok r (λ p. IsOfFull (nodes_of k) e × IsTransitiveStep k.proofs e c.args.self.now.0 c.args.self.now.1) (EntersIn k l (by_step (statement_of e) (transitive c.args.self.now.0 c.args.self.now.1))) (Checked t k l e (transitive c.args.self.now.0 c.args.self.now.1)) (λ p f x. transitive_checked t k l e c.args.self.now.0 c.args.self.now.1 p h.0 f x) c.check_transitive.ensures.fits c.check_transitive.ensures.ok in
    says_fits r c.graph.inside.failed t c.graph.inside.nodes k l e (transitive c.args.self.now.0 c.args.self.now.1) _ c.args.graph.now c.graph.view_is checked

pub returns-clause-refused : goal.returns-clause-refused
returns-clause-refused g c =
    let k = c.graph.inside.store in
    let e = c.args.equation.now in
    let t = c.graph.inside.table in
    let r = c.check_transitive.result in
    let l = c.check_transitive.new.store in
    let h : Good k × HasFreshSlots t k = elim c.graph.invariant [ inl h ↦ absurd (false≢true (sym c.if-graph.false ∙ h)) | inr h ↦ (h.0, h.1) ] in
    let checked = both_ok r (λ p. IsOfFull (nodes_of k) e × IsTransitiveStep k.proofs e c.args.self.now.0 c.args.self.now.1) (EntersIn k l (by_step (statement_of e) (transitive c.args.self.now.0 c.args.self.now.1))) (Checked t k l e (transitive c.args.self.now.0 c.args.self.now.1)) (λ p f x. transitive_checked t k l e c.args.self.now.0 c.args.self.now.1 p h.0 f x) c.check_transitive.ensures.fits c.check_transitive.ensures.ok in
    says_refused r c.graph.inside.failed t c.graph.inside.nodes k l e (transitive c.args.self.now.0 c.args.self.now.1) _ c.args.graph.now c.graph.view_is (λ b. transitive_refused k e c.args.self.now.0 c.args.self.now.1 h.0 (c.check_transitive.ensures.refused b))

pub returns-clause-accepted : goal.returns-clause-accepted
returns-clause-accepted g c =
    let k = c.graph.inside.store in
    let e = c.args.equation.now in
    let t = c.graph.inside.table in
    let r = c.check_transitive.result in
    let l = c.check_transitive.new.store in
    let h : Good k × HasFreshSlots t k = elim c.graph.invariant [ inl h ↦ absurd (false≢true (sym c.if-graph.false ∙ h)) | inr h ↦ (h.0, h.1) ] in
    let checked = both_ok r (λ p. IsOfFull (nodes_of k) e × IsTransitiveStep k.proofs e c.args.self.now.0 c.args.self.now.1) (EntersIn k l (by_step (statement_of e) (transitive c.args.self.now.0 c.args.self.now.1))) (Checked t k l e (transitive c.args.self.now.0 c.args.self.now.1)) (λ p f x. transitive_checked t k l e c.args.self.now.0 c.args.self.now.1 p h.0 f x) c.check_transitive.ensures.fits c.check_transitive.ensures.ok in
    says_accepted r c.graph.inside.failed t c.graph.inside.nodes k l e (transitive c.args.self.now.0 c.args.self.now.1) _ c.args.graph.now c.graph.view_is checked

pub returns-clause-derivable : goal.returns-clause-derivable
returns-clause-derivable g c =
    let k = c.graph.inside.store in
    let e = c.args.equation.now in
    let t = c.graph.inside.table in
    let r = c.check_transitive.result in
    let l = c.check_transitive.new.store in
    let h : Good k × HasFreshSlots t k = elim c.graph.invariant [ inl h ↦ absurd (false≢true (sym c.if-graph.false ∙ h)) | inr h ↦ (h.0, h.1) ] in
    let checked = both_ok r (λ p. IsOfFull (nodes_of k) e × IsTransitiveStep k.proofs e c.args.self.now.0 c.args.self.now.1) (EntersIn k l (by_step (statement_of e) (transitive c.args.self.now.0 c.args.self.now.1))) (Checked t k l e (transitive c.args.self.now.0 c.args.self.now.1)) (λ p f x. transitive_checked t k l e c.args.self.now.0 c.args.self.now.1 p h.0 f x) c.check_transitive.ensures.fits c.check_transitive.ensures.ok in
    says_derivable r c.graph.inside.failed t c.graph.inside.nodes k l e (transitive c.args.self.now.0 c.args.self.now.1) _ c.args.graph.now c.graph.view_is checked

pub returns-clause-leaves : goal.returns-clause-leaves
returns-clause-leaves g c =
    let k = c.graph.inside.store in
    let e = c.args.equation.now in
    let t = c.graph.inside.table in
    let r = c.check_transitive.result in
    let l = c.check_transitive.new.store in
    let h : Good k × HasFreshSlots t k = elim c.graph.invariant [ inl h ↦ absurd (false≢true (sym c.if-graph.false ∙ h)) | inr h ↦ (h.0, h.1) ] in
    let checked = both_ok r (λ p. IsOfFull (nodes_of k) e × IsTransitiveStep k.proofs e c.args.self.now.0 c.args.self.now.1) (EntersIn k l (by_step (statement_of e) (transitive c.args.self.now.0 c.args.self.now.1))) (Checked t k l e (transitive c.args.self.now.0 c.args.self.now.1)) (λ p f x. transitive_checked t k l e c.args.self.now.0 c.args.self.now.1 p h.0 f x) c.check_transitive.ensures.fits c.check_transitive.ensures.ok in
    says_leaves r c.graph.inside.failed t c.graph.inside.nodes k l e (transitive c.args.self.now.0 c.args.self.now.1) _ c.args.graph.now c.graph.view_is checked

pub returns-clause-rests : goal.returns-clause-rests
returns-clause-rests g c =
    let k = c.graph.inside.store in
    let e = c.args.equation.now in
    let t = c.graph.inside.table in
    let r = c.check_transitive.result in
    let l = c.check_transitive.new.store in
    let rows = c.graph.inside.nodes in
    let h : Good k × HasFreshSlots t k × RestsWith k rows = elim c.graph.invariant [ inl h ↦ absurd (false≢true (sym c.if-graph.false ∙ h)) | inr h ↦ (h.0, h.1, h.2) ] in
    let checked = both_ok r (λ p. IsOfFull (nodes_of k) e × IsTransitiveStep k.proofs e c.args.self.now.0 c.args.self.now.1) (EntersIn k l (by_step (statement_of e) (transitive c.args.self.now.0 c.args.self.now.1))) (Checked t k l e (transitive c.args.self.now.0 c.args.self.now.1)) (λ p f x. transitive_checked t k l e c.args.self.now.0 c.args.self.now.1 p h.0 f x) c.check_transitive.ensures.fits c.check_transitive.ensures.ok in
    let kept = kept_good r t k l rows e (transitive c.args.self.now.0 c.args.self.now.1) h checked c.check_transitive.ensures.err in
    inr (rebuilt-unless c.graph.inside.failed c.if-graph.false t l rows _ kept.0 kept.1 kept.2)
