use Rattle.std.proofs.Common.{◌≡◌, ℕ, List, length, arith, ap, ◌∙◌, sym, subst}
use Rattle.slotted_lists.proofs.Maps.{length-keys}
use Rattle.slotted_theory.specs.FiniteMaps.{value_of, with_values}
use Rattle.slotted_slots.specs.Table.{numeric_slot}
use Rattle.slotted_model.specs.Applied.{keys}
use Rattle.slotted_model.specs.Correspondence.{numbered_from, numbered_after, composite, turned}
use Rattle.slotted_proofs.specs.Equations.{Statement, AreSides}
use Rattle.slotted_proofs.proofs.NumberedSides.{length-numbered_from, keys-numbered_from, sides_by_partners}
use Rattle.slotted_proofs.proofs.numbering.number_sides.Goals as goal

pub number_right-requires-clause-few : goal.number_right-requires-clause-few
number_right-requires-clause-few c =
    let P : List ℕ = keys c.args.l.now.m in
    let l : length c.in_ok-left.left ≡ length c.args.l.now.m = ap length c.in_ok-left.ensures.ok ∙ (length-numbered_from 0 P ∙ length-keys c.args.l.now.m) in
    omega (arith, c.requires.few)

pub number_right-requires-clause-left : goal.number_right-requires-clause-left
number_right-requires-clause-left c =
    let P : List ℕ = keys c.args.l.now.m in
    let k : keys c.in_ok-left.left ≡ P = ap keys c.in_ok-left.ensures.ok ∙ keys-numbered_from 0 P in
    c.in_ok-left.ensures.ok ∙ ap (λ K. with_values numeric_slot (numbered_from 0 K)) (sym k)

pub returns-clause-ok : goal.returns-clause-ok
returns-clause-ok c =
    let P : List ℕ = keys c.args.l.now.m in
    let Q : List ℕ = keys c.args.r.now.m in
    let X : List (ℕ × ℕ) = c.args.partners.now in
    let i : ℕ = c.args.l.now.id.0 in
    let j : ℕ = c.args.r.now.id.0 in
    let s : Statement = record { left_slots = P; right_slots = Q; equation = record { left = i; right = j; pairs = turned P X } } in
    let k : keys c.in_ok-left.left ≡ P = ap keys c.in_ok-left.ensures.ok ∙ keys-numbered_from 0 P in
    let n : length c.in_ok-left.left ≡ length P = ap length c.in_ok-left.ensures.ok ∙ length-numbered_from 0 P in
    let right : c.in_ok-right.right ≡ with_values numeric_slot (numbered_after (value_of (composite X (numbered_from 0 P))) (length P) Q) =
    c.in_ok-right.ensures.ok ∙ (λ z. with_values numeric_slot (numbered_after (value_of (composite X (numbered_from 0 (k z)))) (n z) Q)) in
    subst (λ (m : List (ℕ × ℕ)). AreSides s (i, m) (j, c.in_ok-right.right)) (sym c.in_ok-left.ensures.ok)
    (subst (λ (m : List (ℕ × ℕ)). AreSides s (i, with_values numeric_slot (numbered_from 0 P)) (j, m)) (sym right)
    (sides_by_partners P Q X c.requires.left_once c.requires.right_once c.requires.partners i j))
