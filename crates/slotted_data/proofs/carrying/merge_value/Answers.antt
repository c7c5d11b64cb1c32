use Rattle.std.proofs.Common.{◌≡◌, true, false, rules}
use Rattle.slotted_model_analyses.specs.Analysis.{IsMerge}
use Rattle.slotted_data.specs.Meaning.{by_bare_nodes}
use Rattle.slotted_data.proofs.Merging.{merge-decided}
use Rattle.slotted_data.proofs.MergedValues.{at-low, at-ready, at-has, at-rise}
use Rattle.slotted_data.proofs.carrying.merge_value.Goals as goal

pub returns-then-not-is_tall-clause-merges : goal.returns-then-not-is_tall-clause-merges
returns-then-not-is_tall-clause-merges g c =
    let meaning = g.N.Analysis.meaning c.args.analysis.now in
    let law : IsMerge g.row.N-Data.Denot (by_bare_nodes meaning) = merge-decided meaning g.N.Data.PartialEq.eq g.met.N.Data.Eq.laws g.met.N.Analysis.equal_is_same (g.met.N.Analysis.is_merge c.args.analysis.now) in
    let short : c.args.data.now.tall ≡ false = search rules in
    at-low meaning law c.args.store.now c.args.nodes.now c.args.data.now c.requires.rests c.args.class c.requires.within c.args.value.now short

pub rise-requires-clause-ready : goal.rise-requires-clause-ready
rise-requires-clause-ready g c =
    let meaning = g.N.Analysis.meaning c.args.analysis.now in
    let law : IsMerge g.row.N-Data.Denot (by_bare_nodes meaning) = merge-decided meaning g.N.Data.PartialEq.eq g.met.N.Data.Eq.laws g.met.N.Analysis.equal_is_same (g.met.N.Analysis.is_merge c.args.analysis.now) in
    let is_tall : c.args.data.now.tall ≡ true = search rules in
    at-ready meaning law c.args.store.now c.args.nodes.now c.args.data.now c.requires.rests c.args.class c.requires.within c.args.value.now is_tall
    c.find_class-found.result c.find_class-found.ensures.class c.lower.new.nodes c.lower.new.data c.in_ok-lower.ensures.ok

pub rise-requires-clause-has : goal.rise-requires-clause-has
rise-requires-clause-has g c =
    let meaning = g.N.Analysis.meaning c.args.analysis.now in
    let law : IsMerge g.row.N-Data.Denot (by_bare_nodes meaning) = merge-decided meaning g.N.Data.PartialEq.eq g.met.N.Data.Eq.laws g.met.N.Analysis.equal_is_same (g.met.N.Analysis.is_merge c.args.analysis.now) in
    let is_tall : c.args.data.now.tall ≡ true = search rules in
    at-has meaning law c.args.store.now c.args.nodes.now c.args.data.now c.requires.rests c.args.class c.requires.within c.args.value.now is_tall
    c.find_class-found.result c.find_class-found.ensures.class c.lower.new.nodes c.lower.new.data c.in_ok-lower.ensures.ok

pub returns-clause-merges : goal.returns-clause-merges
returns-clause-merges g c =
    let meaning = g.N.Analysis.meaning c.args.analysis.now in
    let law : IsMerge g.row.N-Data.Denot (by_bare_nodes meaning) = merge-decided meaning g.N.Data.PartialEq.eq g.met.N.Data.Eq.laws g.met.N.Analysis.equal_is_same (g.met.N.Analysis.is_merge c.args.analysis.now) in
    let is_tall : c.args.data.now.tall ≡ true = search rules in
    at-rise meaning law c.args.store.now c.args.nodes.now c.args.data.now c.requires.rests c.args.class c.requires.within c.args.value.now is_tall
    c.find_class-found.result c.find_class-found.ensures.class c.lower.new.nodes c.lower.new.data c.in_ok-lower.ensures.ok c.rise.new.nodes c.rise.new.data c.in_ok-rise.ensures.ok
