use Rattle.std.proofs.Common.{◌∙◌, ◌+◌, ap, sym, subst}
use Rattle.std.specs.Prelude.{is_some, map}
use Rattle.slotted_lists.proofs.Options.{is_some-option_map}
use Rattle.slotted_matching.specs.Indexed.{AreSourcesBelow}
use Rattle.slotted_matching.proofs.SourceRows.{source-added, source-passed}
use Rattle.slotted_matching.proofs.index.sources_by_class.Goals.{then-is_some+in_ok-add_source, else-is_some}
use Rattle.slotted_matching.proofs.index.sources_by_class.Goals as goal

pub loop-source-preserved : goal.loop-source-preserved
loop-source-preserved g c =
    let form = g.L.LanguageChildren.form in
    let k = c.args.store.now in
    let r = c.args.nodes.now in
    let i = c.loop-source.source in
    let before = map (λ b. b.items) c.loop-source.sources.items in
    let filed = ap is_some (sym c.node.ensures) ∙ (is_some-option_map (λ p. (form p.0.now, p.1.now)) c.node.result ∙ sym c.is_some.ensures) in
    elim c.if-is_some.branch [
      | then-is_some+in_ok-add_source w ↦
          source-added k r i before (map (λ b. b.items) c.if-is_some.sources.items) w.find_class.result c.loop-source.invariant w.find_class.ensures.class w.find_class.ensures.within
          (filed ∙ w.if-is_some.true) (ap (λ v. map (λ b. b.items) v.items) w.sources-is ∙ w.in_ok-add_source.ensures.ok)
      | else-is_some w ↦
          subst (λ v. AreSourcesBelow k r (i + 1) v) (sym (ap (λ v. map (λ b. b.items) v.items) w.sources-is))
          (source-passed k r i before c.loop-source.invariant (filed ∙ w.if-is_some.false))
    ]
