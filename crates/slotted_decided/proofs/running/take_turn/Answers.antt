-- A turn, followed by a decision.
use Rattle.std.proofs.Common.{◌⊎◌, ◌<◌, inr, subst}
use Rattle.std.proofs.lemmas.Bool.{false≢true}
use Rattle.slotted_lists.proofs.Booleans.{unless-true}
use Rattle.slotted_classes.specs.Kept.{symmetry_entry}
use Rattle.slotted_languages.proofs.HandedOn.{handed_err}
use Rattle.slotted_graph.proofs.Extending.{extends-then}
use Rattle.slotted_rules.specs.Applying.{AreModified, AreRefusedBy}
use Rattle.slotted_rules.specs.Counting.{RefusesRule}
use Rattle.slotted_rules.proofs.AppliedRules.{not-failed, ok-well}
use Rattle.slotted_deciding.specs.Steps.{CanRefuse}
use Rattle.slotted_deciding.proofs.Refusals.{so-well}
use Rattle.slotted_decided.proofs.DecidedTurns.{decided-turn, later-lowers, listed-same, refused-decision, refused-rules, still-turn}
use Rattle.slotted_decided.proofs.running.take_turn.Goals as goal

pub returns-in_err-counts-clause-err : goal.returns-in_err-counts-clause-err
returns-in_err-counts-clause-err g c =
    let R = AreRefusedBy (RefusesRule g.L.LanguageChildren.form g.C.Cond.refuses) c.args.rules.now in
    let e = c.in_err-counts.field-0.0 in
    handed_err c.from_residual.result e c.from_residual.ensures.1 (λ x. CanRefuse x ⊎ R x)
    (refused-rules R e (not-failed c.apply_counted.result e c.in_err-counts.was c.args.graph.now.failed c.requires.well c.apply_counted.ensures.failed) c.in_err-counts.ensures.err)

pub returns-in_err-is_decided-clause-err : goal.returns-in_err-is_decided-clause-err
returns-in_err-is_decided-clause-err g c =
    let R = AreRefusedBy (RefusesRule g.L.LanguageChildren.form g.C.Cond.refuses) c.args.rules.now in
    let e = c.in_err-is_decided.field-0.0 in
    let k = c.apply_counted.new.graph in
    let well = ok-well _ k.failed c.apply_counted.result c.in_ok-counts.counts c.in_ok-counts.was c.apply_counted.ensures.fails.0 in
    handed_err c.from_residual-in_err-is_decided.result e c.from_residual-in_err-is_decided.ensures.1 (λ x. CanRefuse x ⊎ R x)
    (refused-decision R e (not-failed c.decide.result e c.in_err-is_decided.was k.failed well c.decide.ensures.failed) c.in_err-is_decided.ensures.only)

pub returns-clause-turn : goal.returns-clause-turn
returns-clause-turn g c =
    let h = c.decide.new.graph in
    let goes = so-well h.failed (λ bad. false≢true (c.in_ok-is_decided.ensures.fails.0 bad)) c.in_ok-is_decided.ensures.goes in
    decided-turn g.L.LanguageChildren.form g.C.Cond.answers c.args.rules.now (AreModified g.N.Analysis.codes g.N.Analysis.meaning g.N.Analysis.may_ask g.N.Analysis.modifies)
    c.args.graph.now c.apply_counted.new.graph h c.in_ok-counts.counts c.in_ok-counts.ensures.modified c.in_ok-counts.ensures.changed goes

pub returns-clause-decided : goal.returns-clause-decided
returns-clause-decided g c other = c.in_ok-is_decided.ensures.decided (c.stop_of.ensures.undecided other)

pub returns-clause-still : goal.returns-clause-still
returns-clause-still g c said =
    let k = c.apply_counted.new.graph in
    let h = c.decide.new.graph in
    let goes = so-well h.failed (λ bad. false≢true (c.in_ok-is_decided.ensures.fails.0 bad)) c.in_ok-is_decided.ensures.goes in
    let still = c.is_still-still.ensures (c.stop_of.ensures.still said) in
    let listed = listed-same symmetry_entry c.symmetries_met-before.result.now c.symmetries_met.result.now c.args.graph.now.image.symmetries k.image.symmetries c.symmetries_met-before.ensures.list c.symmetries_met.ensures.list still.1 in
    still-turn g.L.LanguageChildren.form g.C.Cond.answers c.args.rules.now (AreModified g.N.Analysis.codes g.N.Analysis.meaning g.N.Analysis.may_ask g.N.Analysis.modifies)
    c.args.graph.now k h c.in_ok-counts.counts c.in_ok-counts.ensures.modified c.in_ok-counts.ensures.changed goes still.0 listed

pub returns-clause-extends : goal.returns-clause-extends
returns-clause-extends g c =
    let k = c.apply_counted.new.graph in
    let h = c.decide.new.graph in
    let well = ok-well _ k.failed c.apply_counted.result c.in_ok-counts.counts c.in_ok-counts.was c.apply_counted.ensures.fails.0 in
    let goes = so-well h.failed (λ bad. false≢true (c.in_ok-is_decided.ensures.fails.0 bad)) c.in_ok-is_decided.ensures.goes in
    inr (extends-then c.args.graph.now k h (unless-true k.failed well c.apply_counted.ensures.extends) goes.extends)

pub returns-clause-lowers : goal.returns-clause-lowers
returns-clause-lowers g c =
    let k = c.apply_counted.new.graph in
    let h = c.decide.new.graph in
    let well = ok-well _ k.failed c.apply_counted.result c.in_ok-counts.counts c.in_ok-counts.was c.apply_counted.ensures.fails.0 in
    let extends = unless-true k.failed well c.apply_counted.ensures.extends in
    later-lowers g.N.Analysis.codes g.N.Analysis.meaning g.met.N.Analysis.is_merge c.args.graph.now k h extends (unless-true k.failed well c.apply_counted.ensures.lowers) c.in_ok-is_decided.ensures.lowers

pub returns-clause-nodes : goal.returns-clause-nodes
returns-clause-nodes g c said = subst (λ n. c.args.limits.nodes < n) c.total_number_of_nodes-nodes.ensures (c.stop_of.ensures.nodes said)
