use Rattle.std.proofs.Common.{◌∙◌, ℕ, List, sym, subst}
use Rattle.slotted_model.specs.Applied.{keys}
use Rattle.slotted_proofs.specs.Equations.{reflexive_statement, AreSides}
use Rattle.slotted_proofs.proofs.Bridges.{slots-once}
use Rattle.slotted_proofs.proofs.Itself.{itself_written}
use Rattle.slotted_proofs.proofs.numbering.numbered_itself.Goals as goal

pub returns-clause-ok : goal.returns-clause-ok
returns-clause-ok c =
    let i = c.args.a.now.id.0 in
    let P = keys c.args.a.now.m in
    let left = c.in_ok-left.ensures.ok in
    subst (λ (p : List (ℕ × ℕ) × List (ℕ × ℕ)). AreSides (reflexive_statement i P) (i, p.0) (i, p.1)) (λ t. (sym left t, sym (c.in_ok-right.ensures.ok ∙ left) t)) (itself_written i P (slots-once P c.len.ensures.ascending))
