use Rattle.std.proofs.Common.{◌∙◌, sym, subst, inl, inr}
use Rattle.std.specs.Prelude.{IfOk, IsErrOf}
use Rattle.slotted_slots.specs.declared.error.Error.TheVariants.{BadStep}
use Rattle.std.proofs.lemmas.Bool.{false≢true}
use Rattle.slotted_model.specs.ProofList.{congruent}
use Rattle.slotted_rebuilding.specs.Frames.{IsCongruentIn}
use Rattle.slotted_operations.specs.Good.{Good, RestsWith, HasFreshSlots}
use Rattle.slotted_classes.specs.Kept.{EntersIn, nodes_of}
use Rattle.slotted_proofs.specs.Equations.{statement_of}
use Rattle.slotted_proofs.specs.Steps.{by_step}
use Rattle.slotted_proofs.specs.StepClaims.{IsOfFull}
use Rattle.slotted_operations.proofs.Graphs.ProofSteps.{both_ok, Checked, congruent_checked, congruent_refused, kept_good, says_refused, says_fits, says_accepted, says_derivable, says_leaves}
use Rattle.slotted_graph.proofs.Analysed.{data-checked}
use Rattle.slotted_graph.proofs.Indexes.{no-index}
use Rattle.slotted_graph.proofs.Insides.{data-inside, inside-of, rebuilt-inside, rebuilt-unless}
use Rattle.slotted_graph.proofs.egraph.steps.CongruenceProofCheck.check.Goals as goal

pub invariant_of-graph : goal.invariant_of-graph
invariant_of-graph g c =
    let k = c.graph.inside.store in
    let e = c.args.equation.now in
    let t = c.graph.inside.table in
    let r = c.check_congruent.result in
    let l = c.check_congruent.new.store in
    let ps = c.args.self.now.0.items in
    let rows = c.graph.inside.nodes in
    let h : Good k × HasFreshSlots t k × RestsWith k rows = elim c.graph.invariant [ inl h ↦ absurd (false≢true (sym c.if-graph.false ∙ h)) | inr h ↦ (h.0, h.1, h.2) ] in
    let fits = subst (λ qs. IfOk r (λ _. IsOfFull (nodes_of k) e × IsCongruentIn k e qs)) c.in_ok-copy.ensures.ok c.check_congruent.ensures.fits in
    let ok = subst (λ qs. IfOk r (EntersIn k l (by_step (statement_of e) (congruent qs)))) c.in_ok-copy.ensures.ok c.check_congruent.ensures.ok in
    let checked = both_ok r (λ p. IsOfFull (nodes_of k) e × IsCongruentIn k e ps) (EntersIn k l (by_step (statement_of e) (congruent ps))) (Checked t k l e (congruent ps)) (λ p f x. congruent_checked t k l e ps p h.0 f x) fits ok in
    let kept = kept_good r t k l rows e (congruent ps) h checked c.check_congruent.ensures.err in
    inr (
      kept.0,
      kept.1,
      kept.2,
      no-index _ c.clear.new.self.indexed c.clear.ensures,
      data-checked (g.N.Analysis.meaning c.graph.inside.analysis) r k l rows c.graph.inside.data _ kept.0 kept.2 (data-inside g.N.Analysis.meaning c.graph.inside.analysis c.if-graph.false c.graph.invariant) ok c.check_congruent.ensures.err,
    )

pub returns-clause-fits : goal.returns-clause-fits
returns-clause-fits g c =
    let k = c.graph.inside.store in
    let e = c.args.equation.now in
    let t = c.graph.inside.table in
    let r = c.check_congruent.result in
    let l = c.check_congruent.new.store in
    let ps = c.args.self.now.0.items in
    let h : Good k × HasFreshSlots t k = elim c.graph.invariant [ inl h ↦ absurd (false≢true (sym c.if-graph.false ∙ h)) | inr h ↦ (h.0, h.1) ] in
    let fits = subst (λ qs. IfOk r (λ _. IsOfFull (nodes_of k) e × IsCongruentIn k e qs)) c.in_ok-copy.ensures.ok c.check_congruent.ensures.fits in
    let ok = subst (λ qs. IfOk r (EntersIn k l (by_step (statement_of e) (congruent qs)))) c.in_ok-copy.ensures.ok c.check_congruent.ensures.ok in
    let checked = both_ok r (λ p. IsOfFull (nodes_of k) e × IsCongruentIn k e ps) (EntersIn k l (by_step (statement_of e) (congruent ps))) (Checked t k l e (congruent ps)) (λ p f x. congruent_checked t k l e ps p h.0 f x) fits ok in
    says_fits r c.graph.inside.failed t c.graph.inside.nodes k l e (congruent ps) _ c.args.graph.now c.graph.view_is checked

pub returns-clause-refused : goal.returns-clause-refused
returns-clause-refused g c =
    let k = c.graph.inside.store in
    let e = c.args.equation.now in
    let t = c.graph.inside.table in
    let r = c.check_congruent.result in
    let l = c.check_congruent.new.store in
    let ps = c.args.self.now.0.items in
    let h : Good k × HasFreshSlots t k = elim c.graph.invariant [ inl h ↦ absurd (false≢true (sym c.if-graph.false ∙ h)) | inr h ↦ (h.0, h.1) ] in
    let refused = subst (λ qs. IsErrOf r BadStep → ¬ (IsOfFull (nodes_of k) e × IsCongruentIn k e qs)) c.in_ok-copy.ensures.ok c.check_congruent.ensures.refused in
    says_refused r c.graph.inside.failed t c.graph.inside.nodes k l e (congruent ps) _ c.args.graph.now c.graph.view_is (λ b. congruent_refused k e ps h.0 (refused b))

pub returns-clause-accepted : goal.returns-clause-accepted
returns-clause-accepted g c =
    let k = c.graph.inside.store in
    let e = c.args.equation.now in
    let t = c.graph.inside.table in
    let r = c.check_congruent.result in
    let l = c.check_congruent.new.store in
    let ps = c.args.self.now.0.items in
    let h : Good k × HasFreshSlots t k = elim c.graph.invariant [ inl h ↦ absurd (false≢true (sym c.if-graph.false ∙ h)) | inr h ↦ (h.0, h.1) ] in
    let fits = subst (λ qs. IfOk r (λ _. IsOfFull (nodes_of k) e × IsCongruentIn k e qs)) c.in_ok-copy.ensures.ok c.check_congruent.ensures.fits in
    let ok = subst (λ qs. IfOk r (EntersIn k l (by_step (statement_of e) (congruent qs)))) c.in_ok-copy.ensures.ok c.check_congruent.ensures.ok in
    let checked = both_ok r (λ p. IsOfFull (nodes_of k) e × IsCongruentIn k e ps) (EntersIn k l (by_step (statement_of e) (congruent ps))) (Checked t k l e (congruent ps)) (λ p f x. congruent_checked t k l e ps p h.0 f x) fits ok in
    says_accepted r c.graph.inside.failed t c.graph.inside.nodes k l e (congruent ps) _ c.args.graph.now c.graph.view_is checked

pub returns-clause-derivable : goal.returns-clause-derivable
returns-clause-derivable g c =
    let k = c.graph.inside.store in
    let e = c.args.equation.now in
    let t = c.graph.inside.table in
    let r = c.check_congruent.result in
    let l = c.check_congruent.new.store in
    let ps = c.args.self.now.0.items in
    let h : Good k × HasFreshSlots t k = elim c.graph.invariant [ inl h ↦ absurd (false≢true (sym c.if-graph.false ∙ h)) | inr h ↦ (h.0, h.1) ] in
    let fits = subst (λ qs. IfOk r (λ _. IsOfFull (nodes_of k) e × IsCongruentIn k e qs)) c.in_ok-copy.ensures.ok c.check_congruent.ensures.fits in
    let ok = subst (λ qs. IfOk r (EntersIn k l (by_step (statement_of e) (congruent qs)))) c.in_ok-copy.ensures.ok c.check_congruent.ensures.ok in
    let checked = both_ok r (λ p. IsOfFull (nodes_of k) e × IsCongruentIn k e ps) (EntersIn k l (by_step (statement_of e) (congruent ps))) (Checked t k l e (congruent ps)) (λ p f x. congruent_checked t k l e ps p h.0 f x) fits ok in
    says_derivable r c.graph.inside.failed t c.graph.inside.nodes k l e (congruent ps) _ c.args.graph.now c.graph.view_is checked

pub returns-clause-leaves : goal.returns-clause-leaves
returns-clause-leaves g c =
    let k = c.graph.inside.store in
    let e = c.args.equation.now in
    let t = c.graph.inside.table in
    let r = c.check_congruent.result in
    let l = c.check_congruent.new.store in
    let ps = c.args.self.now.0.items in
    let h : Good k × HasFreshSlots t k = elim c.graph.invariant [ inl h ↦ absurd (false≢true (sym c.if-graph.false ∙ h)) | inr h ↦ (h.0, h.1) ] in
    let fits = subst (λ qs. IfOk r (λ _. IsOfFull (nodes_of k) e × IsCongruentIn k e qs)) c.in_ok-copy.ensures.ok c.check_congruent.ensures.fits in
    let ok = subst (λ qs. IfOk r (EntersIn k l (by_step (statement_of e) (congruent qs)))) c.in_ok-copy.ensures.ok c.check_congruent.ensures.ok in
    let checked = both_ok r (λ p. IsOfFull (nodes_of k) e × IsCongruentIn k e ps) (EntersIn k l (by_step (statement_of e) (congruent ps))) (Checked t k l e (congruent ps)) (λ p f x. congruent_checked t k l e ps p h.0 f x) fits ok in
    says_leaves r c.graph.inside.failed t c.graph.inside.nodes k l e (congruent ps) _ c.args.graph.now c.graph.view_is checked

pub returns-clause-rests : goal.returns-clause-rests
returns-clause-rests g c =
    let k = c.graph.inside.store in
    let e = c.args.equation.now in
    let t = c.graph.inside.table in
    let r = c.check_congruent.result in
    let l = c.check_congruent.new.store in
    let ps = c.args.self.now.0.items in
    let rows = c.graph.inside.nodes in
    let h : Good k × HasFreshSlots t k × RestsWith k rows = elim c.graph.invariant [ inl h ↦ absurd (false≢true (sym c.if-graph.false ∙ h)) | inr h ↦ (h.0, h.1, h.2) ] in
    let fits = subst (λ qs. IfOk r (λ _. IsOfFull (nodes_of k) e × IsCongruentIn k e qs)) c.in_ok-copy.ensures.ok c.check_congruent.ensures.fits in
    let ok = subst (λ qs. IfOk r (EntersIn k l (by_step (statement_of e) (congruent qs)))) c.in_ok-copy.ensures.ok c.check_congruent.ensures.ok in
    let checked = both_ok r (λ p. IsOfFull (nodes_of k) e × IsCongruentIn k e ps) (EntersIn k l (by_step (statement_of e) (congruent ps))) (Checked t k l e (congruent ps)) (λ p f x. congruent_checked t k l e ps p h.0 f x) fits ok in
    let kept = kept_good r t k l rows e (congruent ps) h checked c.check_congruent.ensures.err in
    inr (rebuilt-unless c.graph.inside.failed c.if-graph.false t l rows _ kept.0 kept.1 kept.2)

pub returns-in_err-copy-clause-rests : goal.returns-in_err-copy-clause-rests
returns-in_err-copy-clause-rests g c =
    let k = c.graph.inside.store in
    let t = c.graph.inside.table in
    let r = c.graph.inside.nodes in
    inr (rebuilt-inside c.args.graph.now t k r (inside-of t k r c.graph.view_is c.if-graph.false c.graph.invariant))
