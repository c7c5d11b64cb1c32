use Rattle.std.proofs.Common.{sym, ◌∙◌, inl, inr, rules}
use Rattle.std.specs.Prelude.{◌⊎◌}
use Rattle.std.proofs.lemmas.Bool.{false≢true}
use Rattle.slotted_terms.specs.LargeNodes.{HasLargeNode}
use Rattle.slotted_changes.proofs.LargeNodes.{large-alpha}
use Rattle.slotted_changes.proofs.marking.mark_change.Goals as goal

pub changed_place-requires : goal.changed_place-requires
changed_place-requires g c = λ h. absurd (false≢true (sym c.if-branch.false ∙ c.in_ok-alpha_eq.ensures.same.1 (h ∙ c.in_ok-named.ensures.ok)))

pub returns-in_err-place-clause-slots : goal.returns-in_err-place-clause-slots
returns-in_err-place-clause-slots g c e =
    let large : HasLargeNode c.args.one.now ⊎ HasLargeNode c.in_ok-named.named = c.in_err-place.ensures.slots (search rules) in
    elim large [ inl l ↦ inl l | inr r ↦ inr (large-alpha c.in_ok-named.named c.args.two.now c.in_ok-named.ensures.ok r) ]
