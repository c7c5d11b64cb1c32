-- A decision, and then turns.
use Rattle.std.proofs.Common.{◌≡◌, ◌⊎◌, inr, refl}
use Rattle.std.proofs.lemmas.Bool.{false≢true}
use Rattle.std.proofs.lemmas.Result.{IfErr-weaker, IfOk-weaker}
use Rattle.slotted_graph.proofs.Insides.{given}
use Rattle.slotted_graph.proofs.StatesLater.{later-extends}
use Rattle.slotted_rules.specs.Applying.{AreModified, AreRefusedBy}
use Rattle.slotted_rules.specs.Counting.{RefusesRule}
use Rattle.slotted_rules.specs.WrittenLaws.{valid-later}
use Rattle.slotted_rules.proofs.CountedRules.{no-rule_fails}
use Rattle.slotted_slots.specs.declared.error.Error.TheVariants.{Failed}
use Rattle.slotted_deciding.specs.Steps.{CanRefuse}
use Rattle.slotted_deciding.proofs.Refusals.{so-well}
use Rattle.slotted_decided.specs.Turns.{HasRunDecided}
use Rattle.slotted_decided.proofs.DecidedTurns.{later-lowers, no-refusal_fails, run-begins, run-undecided, started-well}
use Rattle.slotted_decided.proofs.running.run_decided.Goals as goal

pub returns-then-not-branch-clause-run : goal.returns-then-not-branch-clause-run
returns-then-not-branch-clause-run g c =
    let h = c.decide.new.graph in
    run-undecided g.L.LanguageChildren.form g.C.Cond.answers c.args.rules.now (AreModified g.N.Analysis.codes g.N.Analysis.meaning g.N.Analysis.may_ask g.N.Analysis.modifies) c.args.limits
    c.args.graph.now h (record { turns = c.new.result; stop = _ }) (so-well h.failed (λ bad. false≢true (c.in_ok-decide.ensures.fails.0 bad)) c.in_ok-decide.ensures.goes) c.new.ensures.items refl

pub returns-then-not-branch-clause-extends : goal.returns-then-not-branch-clause-extends
returns-then-not-branch-clause-extends g c =
    let h = c.decide.new.graph in
    let goes = so-well h.failed (λ bad. false≢true (c.in_ok-decide.ensures.fails.0 bad)) c.in_ok-decide.ensures.goes in
    inr goes.extends

pub take_turns-requires-clause-valid : goal.take_turns-requires-clause-valid
take_turns-requires-clause-valid g c k d l =
    let start = c.args.graph.now in
    let h = c.decide.new.graph in
    let goes = so-well h.failed (λ bad. false≢true (c.in_ok-decide.ensures.fails.0 bad)) c.in_ok-decide.ensures.goes in
    let well = started-well start c.decide.result c.in_ok-decide.field-0 c.in_ok-decide.was c.decide.ensures.failed in
    valid-later g.L.LanguageChildren.form start h _ goes.extends (given well c.requires k d l)

pub returns-clause-run : goal.returns-clause-run
returns-clause-run g c =
    let h = c.decide.new.graph in
    let goes = so-well h.failed (λ bad. false≢true (c.in_ok-decide.ensures.fails.0 bad)) c.in_ok-decide.ensures.goes in
    let form = g.L.LanguageChildren.form in
    let after = AreModified g.N.Analysis.codes g.N.Analysis.meaning g.N.Analysis.may_ask g.N.Analysis.modifies in
    IfOk-weaker c.take_turns.result (HasRunDecided form g.C.Cond.answers c.args.rules.now after c.args.limits h c.take_turns.new.graph) (HasRunDecided form g.C.Cond.answers c.args.rules.now after c.args.limits c.args.graph.now c.take_turns.new.graph)
    (λ r run. run-begins form g.C.Cond.answers c.args.rules.now after c.args.limits c.args.graph.now h c.take_turns.new.graph r goes run) c.take_turns.ensures.run

pub returns-clause-extends : goal.returns-clause-extends
returns-clause-extends g c =
    let h = c.decide.new.graph in
    let goes = so-well h.failed (λ bad. false≢true (c.in_ok-decide.ensures.fails.0 bad)) c.in_ok-decide.ensures.goes in
    later-extends c.args.graph.now h c.take_turns.new.graph goes.extends c.take_turns.ensures.extends

pub returns-clause-failed : goal.returns-clause-failed
returns-clause-failed g c =
    let form = g.L.LanguageChildren.form in
    let well = started-well c.args.graph.now c.decide.result c.in_ok-decide.field-0 c.in_ok-decide.was c.decide.ensures.failed in
    no-refusal_fails (AreRefusedBy (RefusesRule form g.C.Cond.refuses) c.args.rules.now) (no-rule_fails form g.C.Cond.refuses (λ k s x. g.met.C.Cond.never_failed k s x) c.args.rules.now) c.args.graph.now well c.take_turns.result c.take_turns.ensures.err

pub returns-clause-err : goal.returns-clause-err
returns-clause-err g c =
    let R = AreRefusedBy (RefusesRule g.L.LanguageChildren.form g.C.Cond.refuses) c.args.rules.now in
    IfErr-weaker c.take_turns.result (λ e. CanRefuse e ⊎ R e) (λ e. (e ≡ Failed) ⊎ CanRefuse e ⊎ R e) (λ e r. inr r) c.take_turns.ensures.err

pub returns-then-not-branch-clause-lowers : goal.returns-then-not-branch-clause-lowers
returns-then-not-branch-clause-lowers g c = c.in_ok-decide.ensures.lowers

pub returns-clause-lowers : goal.returns-clause-lowers
returns-clause-lowers g c =
    let h = c.decide.new.graph in
    let goes = so-well h.failed (λ bad. false≢true (c.in_ok-decide.ensures.fails.0 bad)) c.in_ok-decide.ensures.goes in
    later-lowers g.N.Analysis.codes g.N.Analysis.meaning g.met.N.Analysis.is_merge c.args.graph.now h c.take_turns.new.graph goes.extends (so-well h.failed (λ bad. false≢true (c.in_ok-decide.ensures.fails.0 bad)) c.in_ok-decide.ensures.lowers) c.take_turns.ensures.lowers
