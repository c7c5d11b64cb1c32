use Rattle.std.proofs.Common.{◌≡◌, ℕ, Option, IfOk, ap, ◌∙◌, subst}
use Rattle.std.specs.Prelude.{option_map}
use Rattle.slotted_theory.specs.FiniteMaps.{value_of, with_values}
use Rattle.slotted_slots.specs.Maps as code
use Rattle.slotted_slots.specs.Table.{numeric_slot}
use Rattle.slotted_model.specs.Applied.{keys}
use Rattle.slotted_model.specs.Correspondence.{numbered_from, numbered_after, composite}
use Rattle.slotted_proofs.proofs.NumberedSides.{known-name, named-numbered}
use Rattle.slotted_proofs.proofs.numbering.number_right.Goals as goal

pub returns-clause-ok : goal.returns-clause-ok
returns-clause-ok c =
    let left = c.args.left.now in
    let partners = c.args.partners.now in
    let Q = keys c.args.map.now in
    let said : ℕ → Option ℕ = value_of (composite partners (numbered_from 0 (keys left))) in
    let found : (t : ℕ) → code.value_of c.in_ok-known.known t ≡ option_map numeric_slot (said t) =
    λ t. ap (λ m. code.value_of m t) c.in_ok-known.ensures.ok ∙ known-name partners left (numbered_from 0 (keys left)) c.requires.left t in
    subst (λ x. IfOk c.name_slots.result (λ m. m ≡ x))
    (named-numbered said c.in_ok-known.known found c.len.result Q ∙ ap (λ n. with_values numeric_slot (numbered_after said n Q)) c.len.ensures.len)
    c.name_slots.ensures.ok
