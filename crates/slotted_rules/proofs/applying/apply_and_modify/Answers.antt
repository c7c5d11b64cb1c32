-- The rules lead to the graph in which classes are modified.
use Rattle.std.proofs.Common.{◌≡◌, false, inl, inr}
use Rattle.std.proofs.lemmas.Result.{on_ok_weaker}
use Rattle.slotted_lists.proofs.Booleans.{unless-true}
use Rattle.slotted_graph.proofs.Extending.{extends-then}
use Rattle.slotted_rules.proofs.Answering.{if-err-mapped}
use Rattle.slotted_rules.proofs.Lowering.{later-lowers}
use Rattle.slotted_rules.proofs.AppliedRules.{ok-well}
use Rattle.slotted_rules.proofs.applying.apply_and_modify.Goals as goal

pub returns-clause-modified : goal.returns-clause-modified
returns-clause-modified g c =
    on_ok_weaker c.modify_classes.result (λ m. record { applied = c.search_and_apply.new.graph; by_rules = c.in_ok-search_and_apply.ensures.rules; by_edits = m }) c.modify_classes.ensures.modified

pub returns-clause-extends : goal.returns-clause-extends
returns-clause-extends g c =
    let f = c.search_and_apply.new.graph in
    let well : f.failed ≡ false = ok-well _ f.failed c.search_and_apply.result c.in_ok-search_and_apply.field-0 c.in_ok-search_and_apply.was c.search_and_apply.ensures.fails in
    elim c.modify_classes.ensures.extends [
      | inl failed ↦ inl failed
      | inr more ↦ inr (extends-then c.args.graph.now f c.modify_classes.new.graph (unless-true f.failed well c.search_and_apply.ensures.extends) more)
    ]

pub returns-clause-lowers : goal.returns-clause-lowers
returns-clause-lowers g c =
    let f = c.search_and_apply.new.graph in
    let well : f.failed ≡ false = ok-well _ f.failed c.search_and_apply.result c.in_ok-search_and_apply.field-0 c.in_ok-search_and_apply.was c.search_and_apply.ensures.fails in
    later-lowers g.N.Analysis.codes g.N.Analysis.meaning g.met.N.Analysis.is_merge c.args.graph.now f c.modify_classes.new.graph (unless-true f.failed well c.search_and_apply.ensures.extends) (unless-true f.failed well c.search_and_apply.ensures.lowers) c.modify_classes.ensures.lowers

pub returns-clause-refused : goal.returns-clause-refused
returns-clause-refused g c = if-err-mapped c.modify_classes.result c.modify_classes.ensures.err (λ e short. inl short)
