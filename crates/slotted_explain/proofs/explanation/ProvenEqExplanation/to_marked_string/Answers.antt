-- The entry stands in the list, whose parts are earlier ones, and its chain is that of the list.
use Rattle.std.proofs.Common.{◌∙◌, List, length, ap, sym, subst, arith, rules, inl, inr}
use Rattle.std.proofs.lemmas.Bool.{false≢true}
use Rattle.slotted_proofs.specs.Entries.{Proven, entry_of}
use Rattle.slotted_proofs.specs.Lines.{PartsAreEarlier}
use Rattle.slotted_classes.proofs.KeptLists.{length-mapped}
use Rattle.slotted_explain.specs.Chain.{AreWithin, IsChain}
use Rattle.slotted_explain.proofs.explanation.ProvenEqExplanation.to_marked_string.Goals as goal

pub flat_steps-requires-clause-within : goal.flat_steps-requires-clause-within
flat_steps-requires-clause-within g c = elim c.requires [
  | inl h ↦ absurd (false≢true (sym c.if-is_failed.false ∙ (c.is_failed.ensures.failed ∙ h)))
  | inr lt ↦ omega (arith, lt, ap length c.proofs.ensures.entries, length-mapped entry_of c.args.graph.now.image.stored, ap length c.proofs.ensures.list)
]

pub flat_steps-requires-clause-earlier : goal.flat_steps-requires-clause-earlier
flat_steps-requires-clause-earlier g c = elim c.proofs.ensures.earlier [
  | inl h ↦ absurd (false≢true (sym c.if-is_failed.false ∙ (c.is_failed.ensures.failed ∙ h)))
  | inr earlier ↦ subst PartsAreEarlier (sym c.proofs.ensures.list) earlier
]

pub chain_text-requires-clause-entry : goal.chain_text-requires-clause-entry
chain_text-requires-clause-entry g c = elim c.requires [
  | inl h ↦ absurd (false≢true (sym c.if-is_failed.false ∙ (c.is_failed.ensures.failed ∙ h)))
  | inr lt ↦ omega (arith, lt, ap length c.proofs.ensures.entries, length-mapped entry_of c.args.graph.now.image.stored)
]

pub chain_text-requires-clause-within : goal.chain_text-requires-clause-within
chain_text-requires-clause-within g c = subst (AreWithin c.args.graph.now.image.stored) (sym c.deref.ensures.value) (subst (λ (ps : List Proven). AreWithin ps c.in_ok-steps.steps.items) c.proofs.ensures.list c.in_ok-steps.ensures.within)

pub returns-clause-count : goal.returns-clause-count
returns-clause-count g c =
    let steps = c.in_ok-steps.steps.items in
    let chain : IsChain c.args.graph.now.image.stored c.args.self steps = subst (λ (ps : List Proven). IsChain ps c.args.self steps) c.proofs.ensures.list c.in_ok-steps.ensures.chain in
    inr (c.deref.result.now, subst (IsChain c.args.graph.now.image.stored c.args.self) (sym c.deref.ensures.value) chain, c.chain_text.ensures.count)

pub returns-in_err-text-clause-count : goal.returns-in_err-text-clause-count
returns-in_err-text-clause-count g c =
    let steps = c.in_ok-steps.steps.items in
    let chain : IsChain c.args.graph.now.image.stored c.args.self steps = subst (λ (ps : List Proven). IsChain ps c.args.self steps) c.proofs.ensures.list c.in_ok-steps.ensures.chain in
    inr (c.deref.result.now, subst (IsChain c.args.graph.now.image.stored c.args.self) (sym c.deref.ensures.value) chain, c.chain_text.ensures.count)

pub returns-in_err-text-clause-full : goal.returns-in_err-text-clause-full
returns-in_err-text-clause-full g c e =
    let steps = c.in_ok-steps.steps.items in
    let chain : IsChain c.args.graph.now.image.stored c.args.self steps = subst (λ (ps : List Proven). IsChain ps c.args.self steps) c.proofs.ensures.list c.in_ok-steps.ensures.chain in
    (c.deref.result.now, subst (IsChain c.args.graph.now.image.stored c.args.self) (sym c.deref.ensures.value) chain, c.in_err-text.ensures.full (search rules))
