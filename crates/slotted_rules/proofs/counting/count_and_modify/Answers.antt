-- The rules lead to the graph in which classes are modified.
use Rattle.std.proofs.Common.{◌≡◌, false, inl, inr}
use Rattle.slotted_lists.proofs.Booleans.{unless-true}
use Rattle.slotted_graph.proofs.Extending.{extends-then}
use Rattle.slotted_rules.proofs.Lowering.{later-lowers}
use Rattle.slotted_rules.proofs.AppliedRules.{ok-well}
use Rattle.slotted_rules.proofs.counting.count_and_modify.Goals as goal

pub returns-clause-modified : goal.returns-clause-modified
returns-clause-modified g c = record { applied = c.search_and_count.new.graph; by_rules = c.in_ok-counts.ensures.counts; by_edits = c.in_ok-modify_classes.ensures.modified }

pub returns-in_err-modify_classes-clause-extends : goal.returns-in_err-modify_classes-clause-extends
returns-in_err-modify_classes-clause-extends g c =
    let f = c.search_and_count.new.graph in
    let well : f.failed ≡ false = ok-well _ f.failed c.search_and_count.result c.in_ok-counts.counts c.in_ok-counts.was c.search_and_count.ensures.fails in
    elim c.modify_classes.ensures.extends [
      | inl failed ↦ inl failed
      | inr more ↦ inr (extends-then c.args.graph.now f c.modify_classes.new.graph (unless-true f.failed well c.search_and_count.ensures.extends) more)
    ]

pub returns-clause-extends : goal.returns-clause-extends
returns-clause-extends g c =
    let f = c.search_and_count.new.graph in
    let well : f.failed ≡ false = ok-well _ f.failed c.search_and_count.result c.in_ok-counts.counts c.in_ok-counts.was c.search_and_count.ensures.fails in
    elim c.modify_classes.ensures.extends [
      | inl failed ↦ inl failed
      | inr more ↦ inr (extends-then c.args.graph.now f c.modify_classes.new.graph (unless-true f.failed well c.search_and_count.ensures.extends) more)
    ]

pub returns-in_err-modify_classes-clause-lowers : goal.returns-in_err-modify_classes-clause-lowers
returns-in_err-modify_classes-clause-lowers g c =
    let f = c.search_and_count.new.graph in
    let well : f.failed ≡ false = ok-well _ f.failed c.search_and_count.result c.in_ok-counts.counts c.in_ok-counts.was c.search_and_count.ensures.fails in
    later-lowers g.N.Analysis.codes g.N.Analysis.meaning g.met.N.Analysis.is_merge c.args.graph.now f c.modify_classes.new.graph (unless-true f.failed well c.search_and_count.ensures.extends) (unless-true f.failed well c.search_and_count.ensures.lowers) c.modify_classes.ensures.lowers

pub returns-clause-lowers : goal.returns-clause-lowers
returns-clause-lowers g c =
    let f = c.search_and_count.new.graph in
    let well : f.failed ≡ false = ok-well _ f.failed c.search_and_count.result c.in_ok-counts.counts c.in_ok-counts.was c.search_and_count.ensures.fails in
    later-lowers g.N.Analysis.codes g.N.Analysis.meaning g.met.N.Analysis.is_merge c.args.graph.now f c.modify_classes.new.graph (unless-true f.failed well c.search_and_count.ensures.extends) (unless-true f.failed well c.search_and_count.ensures.lowers) c.modify_classes.ensures.lowers
