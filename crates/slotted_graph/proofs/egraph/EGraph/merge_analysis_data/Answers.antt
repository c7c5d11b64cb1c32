use Rattle.std.proofs.Common.{◌<◌, length, subst, sym}
use Rattle.slotted_operations.specs.Image.{Image}
use Rattle.slotted_operations.specs.LookUp.{HasSameClasses}
use Rattle.slotted_graph.specs.Analysed.{MergesData}
use Rattle.slotted_graph.proofs.Insides.{given}
use Rattle.slotted_graph.proofs.Saying.{absorbs-later}
use Rattle.slotted_graph.proofs.Writing.{merges-asked, still-unmodified, was-well}
use Rattle.slotted_graph.proofs.egraph.EGraph.merge_analysis_data.Goals as goal

pub returns-clause-modified : goal.returns-clause-modified
returns-clause-modified g c = record {
  merged = c.merge_data_quietly.new.self;
  merges = c.in_ok-merge_data_quietly.ensures.merges;
  same = c.in_ok-merge_data_quietly.ensures.same;
  asked = c.in_ok-modify.field-0;
  rounds = c.in_ok-modify.ensures.modified;
}

pub returns-clause-leaves : goal.returns-clause-leaves
returns-clause-leaves g c =
    merges-asked g.N.Analysis.codes g.N.Analysis.meaning g.met.N.Analysis.is_merge g.N.Analysis.may_ask g.N.Analysis.modifies c.args.self.now c.modify.new.self c.args.id.0 c.args.value.now (record {
      merged = c.merge_data_quietly.new.self;
      merges = c.in_ok-merge_data_quietly.ensures.merges;
      same = c.in_ok-merge_data_quietly.ensures.same;
      asked = c.in_ok-modify.field-0;
      rounds = c.in_ok-modify.ensures.modified;
    })

pub returns-clause-merges : goal.returns-clause-merges
returns-clause-merges g c =
    still-unmodified g.N.Analysis.codes g.N.Analysis.meaning g.N.Analysis.may_ask g.N.Analysis.modifies c.merge_data_quietly.new.self c.modify.new.self c.in_ok-modify.field-0 c.in_ok-modify.ensures.modified
    (λ h. MergesData g.N.Analysis.codes g.N.Analysis.meaning c.args.self.now h c.args.id.0 c.args.value.now) c.in_ok-merge_data_quietly.ensures.merges

pub returns-clause-same : goal.returns-clause-same
returns-clause-same g c =
    still-unmodified g.N.Analysis.codes g.N.Analysis.meaning g.N.Analysis.may_ask g.N.Analysis.modifies c.merge_data_quietly.new.self c.modify.new.self c.in_ok-modify.field-0 c.in_ok-modify.ensures.modified
    (HasSameClasses c.args.self.now) c.in_ok-merge_data_quietly.ensures.same

pub returns-clause-absorbs : goal.returns-clause-absorbs
returns-clause-absorbs g c =
    let e = c.in_ok-merge_data_quietly.ensures in
    let well = was-well c.args.self.now c.merge_data_quietly.new.self c.merge_data_quietly.ensures.stays e.fails.0 in
    absorbs-later g.N.Analysis.codes g.N.Analysis.meaning g.met.N.Analysis.is_merge c.merge_data_quietly.new.self c.modify.new.self c.args.id.0 c.args.value.now
    (subst (λ (x : Image). c.args.id.0 < length x.canonical) (sym e.same.image) (given well c.requires)) c.in_ok-modify.ensures.modified.leaves.lowers e.merges.absorbs
