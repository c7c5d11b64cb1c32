use Rattle.std.proofs.Common.{◌≡◌, Some, false, sym, ap, ◌∙◌, subst}
use Rattle.std.specs.Prelude.{position, is_some}
use Rattle.std.specs.Map.{keys_of, lookup}
use Rattle.slotted_proofs.specs.Equations.{statement_of}
use Rattle.slotted_proofs.specs.Entries.{Stands, IsNew}
use Rattle.slotted_proofs.proofs.Written.{sides_eq}
use Rattle.slotted_proofs.proofs.Listed.{found_stands, absent_new}
use Rattle.slotted_proofs.proofs.list.ProofList.number_of.Goals as goal

pub returns-in-Some-clause-found : goal.returns-in-Some-clause-found
returns-in-Some-clause-found c =
    let es = c.self.inside.entries.entries in
    let e = c.args.equation.now in
    let at : position (sides_eq e) (keys_of es) ≡ Some c.at.result = sym c.get_index_of.ensures.index ∙ (c.in-Some.is ∙ ap Some (sym c.at.ensures)) in
    subst (λ list. Stands list (statement_of e) c.at.result) c.self.view_is (found_stands es e c.at.result at)

pub returns-in-None-clause-absent : goal.returns-in-None-clause-absent
returns-in-None-clause-absent c =
    let es = c.self.inside.entries.entries in
    let e = c.args.equation.now in
    let none : is_some (lookup (sides_eq e) es) ≡ false = sym c.get_index_of.ensures.found ∙ ap is_some c.in-None.is in
    subst (λ list. IsNew list (statement_of e)) c.self.view_is (absent_new es e c.self.invariant.0 c.requires none)
