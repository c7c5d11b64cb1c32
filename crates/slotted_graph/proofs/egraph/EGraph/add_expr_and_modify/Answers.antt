use Rattle.std.proofs.Common.{refl, inl, inr}
use Rattle.slotted_operations.specs.LookUp.{IsOneGraph, look_up_term}
use Rattle.slotted_operations.specs.AddingTerms.{FilesOnlyLookedUp}
use Rattle.slotted_graph.specs.Writing.{MakesForTerm}
use Rattle.std.specs.Prelude.{IsSome, false}
use Rattle.slotted_operations.proofs.CallerLemmas.{term_later}
use Rattle.slotted_graph.proofs.Extending.{extends-then}
use Rattle.slotted_graph.proofs.Insides.{given}
use Rattle.slotted_graph.proofs.Saying.{graph-kept}
use Rattle.slotted_graph.proofs.Writing.{adds-more, none-pending, none-waits, ok-adds, ok-again, ok-both, was-well}
use Rattle.slotted_graph.proofs.egraph.EGraph.add_expr_and_modify.Goals as goal

pub add_expr_quietly-requires-2 : goal.add_expr_quietly-requires-2
add_expr_quietly-requires-2 g c =
    let e = c.in_ok-id.ensures in
    let first = adds-more g.N.Analysis.codes g.N.Analysis.meaning g.met.N.Analysis.is_merge g.N.Analysis.may_ask (MakesForTerm c.args.term.now) c.args.self.now c.add_expr_quietly.new.self (graph-kept c.add_expr_quietly.new.self c.add_expr_quietly.ensures.rests c.in_ok-id.ensures.fails.0) c.in_ok-id.ensures.extends c.in_ok-id.ensures.adds c.add_expr_quietly.ensures.more c.in_ok-id.ensures.carries (c.in_ok-id.ensures.kept, c.in_ok-id.ensures.filed) in
    inr (term_later c.args.self.now.table c.modify.new.self.table (extends-then c.args.self.now c.add_expr_quietly.new.self c.modify.new.self first.extends c.in_ok-modify.ensures.modified.leaves.extends).more c.args.term.now (given (was-well c.args.self.now c.add_expr_quietly.new.self c.add_expr_quietly.ensures.stays e.fails.0) c.requires))

pub returns-then-pending_classes-eq0-clause-adds : goal.returns-then-pending_classes-eq0-clause-adds
returns-then-pending_classes-eq0-clause-adds g c =
    let first = adds-more g.N.Analysis.codes g.N.Analysis.meaning g.met.N.Analysis.is_merge g.N.Analysis.may_ask (MakesForTerm c.args.term.now) c.args.self.now c.add_expr_quietly.new.self (graph-kept c.add_expr_quietly.new.self c.add_expr_quietly.ensures.rests c.in_ok-id.ensures.fails.0) c.in_ok-id.ensures.extends c.in_ok-id.ensures.adds c.add_expr_quietly.ensures.more c.in_ok-id.ensures.carries (c.in_ok-id.ensures.kept, c.in_ok-id.ensures.filed) in
    record {
      added = c.add_expr_quietly.new.self;
      adds = first;
      modified = c.add_expr_quietly.new.self;
      asked = false;
      rounds = none-waits g.N.Analysis.codes g.N.Analysis.meaning g.met.N.Analysis.is_merge g.N.Analysis.may_ask g.N.Analysis.modifies c.add_expr_quietly.new.self first.graph (none-pending g.N.Analysis.codes c.add_expr_quietly.new.self c.pending_classes.result first.graph c.pending_classes.ensures c.if-pending_classes-eq0.true);
      again = inl refl;
    }

pub returns-clause-adds : goal.returns-clause-adds
returns-clause-adds g c =
    let first = adds-more g.N.Analysis.codes g.N.Analysis.meaning g.met.N.Analysis.is_merge g.N.Analysis.may_ask (MakesForTerm c.args.term.now) c.args.self.now c.add_expr_quietly.new.self (graph-kept c.add_expr_quietly.new.self c.add_expr_quietly.ensures.rests c.in_ok-id.ensures.fails.0) c.in_ok-id.ensures.extends c.in_ok-id.ensures.adds c.add_expr_quietly.ensures.more c.in_ok-id.ensures.carries (c.in_ok-id.ensures.kept, c.in_ok-id.ensures.filed) in
    let a = c.add_expr_quietly-2.ensures in
    ok-again g.N.Analysis.codes g.N.Analysis.meaning g.met.N.Analysis.is_merge g.N.Analysis.may_ask c.add_expr_quietly-2.result g.N.Analysis.modifies (MakesForTerm c.args.term.now) c.args.self.now c.add_expr_quietly.new.self c.modify.new.self c.add_expr_quietly-2.new.self c.in_ok-modify.field-0 first c.in_ok-modify.ensures.modified
    (ok-adds g.N.Analysis.codes g.N.Analysis.meaning g.met.N.Analysis.is_merge g.N.Analysis.may_ask c.add_expr_quietly-2.result (MakesForTerm c.args.term.now) c.modify.new.self c.add_expr_quietly-2.new.self c.add_expr_quietly-2.ensures.rests a.fails.0 a.extends a.adds a.more a.carries (ok-both c.add_expr_quietly-2.result (IsSome (look_up_term c.modify.new.self c.args.term.now) → IsOneGraph c.modify.new.self c.add_expr_quietly-2.new.self) (FilesOnlyLookedUp c.modify.new.self c.add_expr_quietly-2.new.self c.args.term.now) a.kept a.filed))
