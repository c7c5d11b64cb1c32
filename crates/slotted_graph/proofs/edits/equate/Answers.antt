use Rattle.slotted_operations.proofs.CallerLemmas.{full-valid, term_later}
use Rattle.slotted_proofs.specs.Equations.{to_applied}
use Rattle.slotted_graph.proofs.Extending.{full-extends}
use Rattle.slotted_graph.proofs.Saying.{if-ok, makes-equate}
use Rattle.slotted_graph.proofs.edits.equate.Goals as goal

pub add_term-requires-2-clause-term : goal.add_term-requires-2-clause-term
add_term-requires-2-clause-term g c = term_later c.args.graph.now.table c.add_term.new.graph.table c.in_ok-a.ensures.ok.extends.more c.args.right.now c.requires.right

pub unite-requires-clause-left : goal.unite-requires-clause-left
unite-requires-clause-left g c =
    full-valid c.add_term-2.new.graph (to_applied c.in_ok-a.a) (full-extends c.add_term.new.graph c.add_term-2.new.graph (to_applied c.in_ok-a.a) c.in_ok-b.ensures.ok.extends c.in_ok-a.ensures.ok.full)

pub unite-requires-clause-right : goal.unite-requires-clause-right
unite-requires-clause-right g c = full-valid c.add_term-2.new.graph (to_applied c.in_ok-b.b) c.in_ok-b.ensures.ok.full

pub returns-clause-ok : goal.returns-clause-ok
returns-clause-ok g c =
    if-ok _ _ c.unite.result
    (λ x u. makes-equate g.N.Analysis.codes g.N.Analysis.meaning g.met.N.Analysis.is_merge c.args.graph.now (to_applied c.args.class.now) c.add_term.new.graph c.add_term-2.new.graph c.unite.new.graph c.args.left.now c.args.right.now (to_applied c.in_ok-a.a) (to_applied c.in_ok-b.b)
    c.in_ok-a.ensures.ok c.in_ok-b.ensures.ok u)
    c.unite.ensures.ok
