use Rattle.slotted_graph.proofs.egraph.EGraph.unite_and_modify.Goals as goal

pub returns-clause-unites : goal.returns-clause-unites
returns-clause-unites g c = record {
  united = c.union_quietly.new.self;
  union = c.in_ok-answer.ensures.union;
  records = c.in_ok-answer.ensures.text;
  filed = c.in_ok-answer.ensures.filed;
  table = c.union_quietly.ensures.table;
  carries = c.in_ok-answer.ensures.carries;
  asked = c.in_ok-modify.field-0;
  rounds = c.in_ok-modify.ensures.modified;
}
