use Rattle.std.proofs.Common.{◌∙◌, subst, sym}
use Rattle.slotted_operations.proofs.CallerLemmas.{full-valid}
use Rattle.slotted_proofs.specs.Equations.{to_applied}
use Rattle.slotted_graph.proofs.Insides.{given}
use Rattle.slotted_graph.specs.Edited.{MakesEdit}
use Rattle.slotted_graph.proofs.Saying.{if-ok, makes-add, makes-equal}
use Rattle.slotted_graph.proofs.edits.make_edit.Goals as goal

pub unite-requires-clause-left : goal.unite-requires-clause-left
unite-requires-clause-left g c = c.in_ok-b-in-Equal.ensures.ok.extends.valid (to_applied c.args.class.now) (given (sym c.is_failed.ensures.failed ∙ c.if-is_failed.false) c.requires.class)

pub unite-requires-clause-right : goal.unite-requires-clause-right
unite-requires-clause-right g c = full-valid c.add_term-in-Equal.new.graph (to_applied c.in_ok-b-in-Equal.b) c.in_ok-b-in-Equal.ensures.ok.full

pub returns-in_ok-add_term-in-Add-clause-ok : goal.returns-in_ok-add_term-in-Add-clause-ok
returns-in_ok-add_term-in-Add-clause-ok g c =
    subst (MakesEdit g.N.Analysis.codes g.N.Analysis.meaning c.args.graph.now c.add_term.new.graph (to_applied c.args.class.now)) (sym c.in-Add.is)
    (makes-add g.N.Analysis.codes g.N.Analysis.meaning g.met.N.Analysis.is_merge c.args.graph.now (to_applied c.args.class.now) c.add_term.new.graph c.in-Add.term (to_applied c.in_ok-add_term-in-Add.field-0) c.in_ok-add_term-in-Add.ensures.ok)

pub returns-in_ok-b-in-Equal-clause-ok : goal.returns-in_ok-b-in-Equal-clause-ok
returns-in_ok-b-in-Equal-clause-ok g c =
    if-ok _ _ c.unite.result
    (λ x u. subst (MakesEdit g.N.Analysis.codes g.N.Analysis.meaning c.args.graph.now c.unite.new.graph (to_applied c.args.class.now)) (sym c.in-Equal.is)
    (makes-equal g.N.Analysis.codes g.N.Analysis.meaning g.met.N.Analysis.is_merge c.args.graph.now (to_applied c.args.class.now) c.add_term-in-Equal.new.graph c.unite.new.graph c.in-Equal.term (to_applied c.in_ok-b-in-Equal.b) c.in_ok-b-in-Equal.ensures.ok u))
    c.unite.ensures.ok
