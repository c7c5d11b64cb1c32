-- Each turn goes on from where the ones before it led.
use Rattle.std.proofs.Common.{◌∷◌, ◌∙◌, [], length, length-append, ap, arith, inl, inr, refl, sym}
use Rattle.std.specs.Prelude.{Some}
use Rattle.std.proofs.lemmas.Bool.{false≢true}
use Rattle.slotted_lists.proofs.Booleans.{unless-true}
use Rattle.slotted_graph.proofs.Extending.{extends-itself, extends-then}
use Rattle.slotted_graph.proofs.Saying.{lowers-itself, lowers-then}
use Rattle.slotted_graph.proofs.StatesLater.{later-extends}
use Rattle.slotted_rules.specs.Applying.{AreModified}
use Rattle.slotted_rules.specs.WrittenLaws.{valid-later}
use Rattle.slotted_rules.proofs.Modified.{modified-extends}
use Rattle.slotted_deciding.proofs.Growing.{goes-itself}
use Rattle.slotted_deciding.proofs.Refusals.{so-well}
use Rattle.slotted_decided.proofs.DecidedTurns.{later-lowers, never-undecided, no-turns, run-limited, run-stopped, stop-known, turn-more, well-extends}
use Rattle.slotted_decided.proofs.running.take_turns.Goals as goal

pub loop-alloc-init : goal.loop-alloc-init
loop-alloc-init g c = record {
  well = c.requires.well;
  extends = extends-itself c.args.graph.now;
  lowers = lowers-itself g.N.Analysis.codes g.N.Analysis.meaning g.met.N.Analysis.is_merge c.args.graph.now;
  decided = c.requires.decided;
  within = omega (arith, ap length c.new-turns.ensures.items);
  turns = no-turns g.L.LanguageChildren.form g.C.Cond.answers c.args.rules.now (AreModified g.N.Analysis.codes g.N.Analysis.meaning g.N.Analysis.may_ask g.N.Analysis.modifies) c.args.graph.now c.args.graph.now c.new-turns.result.items c.new-turns.ensures.items
      (goes-itself c.args.graph.now (record { well = c.requires.well; state = c.requires.decided.0; is_state = c.requires.decided.1 }));
}

pub take_turn-requires-clause-valid : goal.take_turn-requires-clause-valid
take_turn-requires-clause-valid g c k d l = valid-later g.L.LanguageChildren.form c.args.graph.now c.loop-alloc.graph _ c.loop-alloc.invariant.extends (c.requires.valid k d l)

pub returns-in_err-taken-clause-extends : goal.returns-in_err-taken-clause-extends
returns-in_err-taken-clause-extends g c = later-extends c.args.graph.now c.loop-alloc.graph c.take_turn.new.graph c.loop-alloc.invariant.extends c.take_turn.ensures.extends

pub returns-in_err-push-clause-extends : goal.returns-in_err-push-clause-extends
returns-in_err-push-clause-extends g c = later-extends c.args.graph.now c.loop-alloc.graph c.take_turn.new.graph c.loop-alloc.invariant.extends c.take_turn.ensures.extends

pub returns-in-Some-clause-extends : goal.returns-in-Some-clause-extends
returns-in-Some-clause-extends g c = later-extends c.args.graph.now c.loop-alloc.graph c.take_turn.new.graph c.loop-alloc.invariant.extends c.take_turn.ensures.extends

pub returns-in_err-taken-clause-lowers : goal.returns-in_err-taken-clause-lowers
returns-in_err-taken-clause-lowers g c = later-lowers g.N.Analysis.codes g.N.Analysis.meaning g.met.N.Analysis.is_merge c.args.graph.now c.loop-alloc.graph c.take_turn.new.graph c.loop-alloc.invariant.extends c.loop-alloc.invariant.lowers c.take_turn.ensures.lowers

pub returns-in_err-push-clause-lowers : goal.returns-in_err-push-clause-lowers
returns-in_err-push-clause-lowers g c = later-lowers g.N.Analysis.codes g.N.Analysis.meaning g.met.N.Analysis.is_merge c.args.graph.now c.loop-alloc.graph c.take_turn.new.graph c.loop-alloc.invariant.extends c.loop-alloc.invariant.lowers c.take_turn.ensures.lowers

pub returns-in-Some-clause-lowers : goal.returns-in-Some-clause-lowers
returns-in-Some-clause-lowers g c = later-lowers g.N.Analysis.codes g.N.Analysis.meaning g.met.N.Analysis.is_merge c.args.graph.now c.loop-alloc.graph c.take_turn.new.graph c.loop-alloc.invariant.extends c.loop-alloc.invariant.lowers c.take_turn.ensures.lowers

pub returns-in-Some-clause-run : goal.returns-in-Some-clause-run
returns-in-Some-clause-run g c =
    let t = c.in_ok-taken.taken in
    let e = c.in_ok-taken.ensures in
    run-stopped g.L.LanguageChildren.form g.C.Cond.answers c.args.rules.now (AreModified g.N.Analysis.codes g.N.Analysis.meaning g.N.Analysis.may_ask g.N.Analysis.modifies) c.args.limits
    (λ a b m. modified-extends g.N.Analysis.codes g.N.Analysis.meaning g.N.Analysis.may_ask g.N.Analysis.modifies a b m)
    c.args.graph.now c.loop-alloc.graph c.take_turn.new.graph c.loop-alloc.turns.items t.counts (record { turns = c.push.new.self; stop = c.in-Some.stop })
    c.loop-alloc.invariant.turns c.loop-alloc.invariant.decided e.turn c.in_ok-push.ensures.items (omega (arith, c.loop-alloc-test.true, c.len.ensures))
    (λ other. e.decided (stop-known t.stop c.in-Some.stop c.in-Some.is other)) (λ s. e.still (c.in-Some.is ∙ ap Some s)) (λ s. e.turns (c.in-Some.is ∙ ap Some s)) (λ s. e.nodes (c.in-Some.is ∙ ap Some s))

pub loop-alloc-preserved : goal.loop-alloc-preserved
loop-alloc-preserved g c =
    let h = c.take_turn.new.graph in
    let t = c.in_ok-taken.taken in
    let e = c.in_ok-taken.ensures in
    let more = well-extends c.loop-alloc.graph h c.take_turn.result t c.in_ok-taken.was c.take_turn.ensures.extends c.take_turn.ensures.fails in
    record {
      well = more.0;
      extends = extends-then c.args.graph.now c.loop-alloc.graph h c.loop-alloc.invariant.extends more.1;
      lowers = lowers-then g.N.Analysis.codes g.N.Analysis.meaning g.met.N.Analysis.is_merge c.args.graph.now c.loop-alloc.graph h c.loop-alloc.invariant.extends c.loop-alloc.invariant.lowers (unless-true h.failed more.0 c.take_turn.ensures.lowers);
      decided = e.decided (never-undecided t.stop c.in-None.is);
      within = omega (arith, c.loop-alloc-test.true, c.len.ensures, ap length c.in_ok-push.ensures.items, length-append c.loop-alloc.turns.items (t.counts ∷ []));
      turns = turn-more g.L.LanguageChildren.form g.C.Cond.answers c.args.rules.now (AreModified g.N.Analysis.codes g.N.Analysis.meaning g.N.Analysis.may_ask g.N.Analysis.modifies) c.args.graph.now
          c.loop-alloc.graph h c.loop-alloc.turns.items c.push.new.self.items t.counts c.loop-alloc.invariant.turns e.turn c.in_ok-push.ensures.items;
    }

pub returns-clause-run : goal.returns-clause-run
returns-clause-run g c =
    run-limited g.L.LanguageChildren.form g.C.Cond.answers c.args.rules.now (AreModified g.N.Analysis.codes g.N.Analysis.meaning g.N.Analysis.may_ask g.N.Analysis.modifies) c.args.limits
    c.args.graph.now c.loop-alloc.graph (record { turns = c.loop-alloc.turns; stop = _ }) c.loop-alloc.invariant.turns
    (omega (arith, c.loop-alloc-test.false, c.len.ensures, c.loop-alloc.invariant.within)) c.loop-alloc.invariant.decided refl
