use Rattle.std.proofs.Common.{◌≡◌, inl, inr, ap, sym, ◌∙◌, Err, rules, refl}
use Rattle.slotted_slots.specs.Error.{IsShortage}
use Rattle.slotted_slots.specs.declared.error.Error.TheVariants.{Failed, UnknownClass}
use Rattle.std.specs.Prelude.{IsTrue}
use Rattle.std.specs.Ordering.{nat_cmp}
use Rattle.std.proofs.lemmas.Bool.{false≢true}
use Rattle.slotted_operations.proofs.CallerLemmas.{full-valid}
use Rattle.slotted_proofs.specs.Equations.{to_applied}
use Rattle.slotted_costs.specs.Costs.{costs_by}
use Rattle.slotted_costs.specs.Size.{size_cost}
use Rattle.slotted_graph.proofs.Extending.{extends-takes}
use Rattle.slotted_graph.proofs.StatesLater.{graph-takes}
use Rattle.slotted_rules.proofs.Carrying.{carried-along, carries-itself, carries-takes, carries-then, later-carries}
use Rattle.slotted_rules.proofs.Answering.{ok-mapped}
use Rattle.slotted_rules.proofs.Growing.{full-builds}
use Rattle.slotted_rules.proofs.StoredMethods.{added-builds, entry-found, extends-from, extracted-answers, only-short, replaced-extends, replaced-fails, replaced-rests}
use Rattle.slotted_rules.proofs.stored.ExtractedOwnSubst.subst.Goals as goal

pub least_term-requires : goal.least_term-requires
least_term-requires g c =
    inr (full-valid c.args.graph.now (to_applied c.args.b) c.requires.body)

pub returns-in_err-term-clause-extends : goal.returns-in_err-term-clause-extends
returns-in_err-term-clause-extends g c =
    inr (extends-takes c.args.graph.now c.least_term.new.self c.least_term.ensures.takes)

pub returns-in_err-term-clause-only : goal.returns-in_err-term-clause-only
returns-in_err-term-clause-only g c =
    let g0 = c.args.graph.now in
    let b = to_applied c.args.b in
    let es = c.in_ok-terms.terms.entries.items in
    let unknown : c.in_err-term.field-0.0 ≡ UnknownClass → ⊥ =
    λ e. entry-found g.L.LanguageChildren.form g0 (costs_by nat_cmp size_cost) es c.in_ok-terms.ensures.least b (full-valid g0 b c.requires.body) (c.in_err-term.ensures.unknown.0 (ap Err e)).1 in
    let failed : c.in_err-term.field-0.0 ≡ Failed → ⊥ =
    λ e. false≢true (sym c.requires.graph.well ∙ c.in_err-term.ensures.failed.0 (ap Err e)) in
    let short : IsShortage c.in_err-term.field-0.0 = elim c.in_err-term.ensures.only [
      | inl e ↦ absurd (failed e)
      | inr o ↦ elim o [ inl e ↦ absurd (unknown e) | inr s ↦ s ]
    ] in
    search rules

pub add_syn_expr_quietly-requires : goal.add_syn_expr_quietly-requires
add_syn_expr_quietly-requires g c =
    inr c.in_ok-term.ensures.valid

pub replaced-requires-clause-graph : goal.replaced-requires-clause-graph
replaced-requires-clause-graph g c =
    let g0 = c.args.graph.now in
    let e = c.least_term.new.self in
    let f = c.add_syn_expr_quietly.new.self in
    let well : IsTrue f.failed → ⊥ = λ failed. false≢true (c.in_ok-body.ensures.fails.0 failed) in
    let builds = added-builds g0 e f c.requires.graph c.least_term.ensures.takes c.in_ok-body.ensures.extends c.in_ok-body.ensures.adds c.add_syn_expr_quietly.ensures.more c.add_syn_expr_quietly.ensures.rests well in
    builds.grows.graph

pub replaced-requires-clause-body : goal.replaced-requires-clause-body
replaced-requires-clause-body g c =
    c.in_ok-body.ensures.valid

pub replaced-requires-clause-part : goal.replaced-requires-clause-part
replaced-requires-clause-part g c =
    let g0 = c.args.graph.now in
    let e = c.least_term.new.self in
    let f = c.add_syn_expr_quietly.new.self in
    let well : IsTrue f.failed → ⊥ = λ failed. false≢true (c.in_ok-body.ensures.fails.0 failed) in
    let builds = added-builds g0 e f c.requires.graph c.least_term.ensures.takes c.in_ok-body.ensures.extends c.in_ok-body.ensures.adds c.add_syn_expr_quietly.ensures.more c.add_syn_expr_quietly.ensures.rests well in
    full-builds g0 f (to_applied c.args.x) builds c.requires.part

pub replaced-requires-clause-value : goal.replaced-requires-clause-value
replaced-requires-clause-value g c =
    let g0 = c.args.graph.now in
    let e = c.least_term.new.self in
    let f = c.add_syn_expr_quietly.new.self in
    let well : IsTrue f.failed → ⊥ = λ failed. false≢true (c.in_ok-body.ensures.fails.0 failed) in
    let builds = added-builds g0 e f c.requires.graph c.least_term.ensures.takes c.in_ok-body.ensures.extends c.in_ok-body.ensures.adds c.add_syn_expr_quietly.ensures.more c.add_syn_expr_quietly.ensures.rests well in
    full-builds g0 f (to_applied c.args.t) builds c.requires.value

pub returns-clause-valid : goal.returns-clause-valid
returns-clause-valid g c =
    ok-mapped c.replaced.result c.replaced.ensures.ok (λ a r. full-valid c.replaced.new.graph (to_applied a) r.full)

pub returns-clause-stands : goal.returns-clause-stands
returns-clause-stands g c =
    let g0 = c.args.graph.now in
    let e = c.least_term.new.self in
    let f = c.add_syn_expr_quietly.new.self in
    let well : IsTrue f.failed → ⊥ = λ failed. false≢true (c.in_ok-body.ensures.fails.0 failed) in
    let builds = added-builds g0 e f c.requires.graph c.least_term.ensures.takes c.in_ok-body.ensures.extends c.in_ok-body.ensures.adds c.add_syn_expr_quietly.ensures.more c.add_syn_expr_quietly.ensures.rests well in
    ok-mapped c.replaced.result c.replaced.ensures.ok (λ a r k.
    extracted-answers g0 e f c.requires.graph c.least_term.ensures.takes c.in_ok-body.ensures.extends c.in_ok-body.ensures.adds c.add_syn_expr_quietly.ensures.more c.add_syn_expr_quietly.ensures.rests well
    c.replaced.new.graph (to_applied c.args.b) (to_applied c.args.x) (to_applied c.args.t) (to_applied c.in_ok-body.body) (to_applied a) c.in_ok-term.term c.requires.body
    (c.in_ok-term.ensures.least (costs_by nat_cmp size_cost) c.in_ok-terms.ensures.least).0 c.in_ok-body.ensures.valid c.in_ok-body.ensures.term r)

pub returns-clause-extends : goal.returns-clause-extends
returns-clause-extends g c =
    let g0 = c.args.graph.now in
    let e = c.least_term.new.self in
    let f = c.add_syn_expr_quietly.new.self in
    let well : IsTrue f.failed → ⊥ = λ failed. false≢true (c.in_ok-body.ensures.fails.0 failed) in
    let builds = added-builds g0 e f c.requires.graph c.least_term.ensures.takes c.in_ok-body.ensures.extends c.in_ok-body.ensures.adds c.add_syn_expr_quietly.ensures.more c.add_syn_expr_quietly.ensures.rests well in
    extends-from g0 f c.replaced.new.graph builds (replaced-extends f c.replaced.new.graph (to_applied c.args.x) (to_applied c.args.t) (to_applied c.in_ok-body.body) c.replaced.result c.replaced.ensures.ok c.replaced.ensures.err)

pub returns-in_err-terms-clause-carries : goal.returns-in_err-terms-clause-carries
returns-in_err-terms-clause-carries g c = inr (carries-itself g.N.Analysis.codes g.N.Analysis.meaning g.met.N.Analysis.is_merge c.args.graph.now)

pub returns-in_err-term-clause-carries : goal.returns-in_err-term-clause-carries
returns-in_err-term-clause-carries g c = inr (carries-takes g.N.Analysis.codes g.N.Analysis.meaning g.met.N.Analysis.is_merge c.args.graph.now c.least_term.new.self c.least_term.ensures.takes)

pub returns-in_err-body-clause-carries : goal.returns-in_err-body-clause-carries
returns-in_err-body-clause-carries g c = inl (c.in_err-body.ensures.fails.1 refl)

pub returns-clause-carries : goal.returns-clause-carries
returns-clause-carries g c =
    let g0 = c.args.graph.now in
    let e = c.least_term.new.self in
    let f = c.add_syn_expr_quietly.new.self in
    let well : IsTrue f.failed → ⊥ = λ failed. false≢true (c.in_ok-body.ensures.fails.0 failed) in
    let builds = added-builds g0 e f c.requires.graph c.least_term.ensures.takes c.in_ok-body.ensures.extends c.in_ok-body.ensures.adds c.add_syn_expr_quietly.ensures.more c.add_syn_expr_quietly.ensures.rests well in
    let kept = carries-then g.N.Analysis.codes g.N.Analysis.meaning g.met.N.Analysis.is_merge g0 e f (extends-takes g0 e c.least_term.ensures.takes) (carries-takes g.N.Analysis.codes g.N.Analysis.meaning g.met.N.Analysis.is_merge g0 e c.least_term.ensures.takes) (carried-along g.N.Analysis.codes g.N.Analysis.meaning e f c.in_ok-body.ensures.carries) in
    later-carries g.N.Analysis.codes g.N.Analysis.meaning g.met.N.Analysis.is_merge g0 f c.replaced.new.graph builds.grows.extends kept c.replaced.ensures.carries

pub returns-in_err-term-clause-rests : goal.returns-in_err-term-clause-rests
returns-in_err-term-clause-rests g c =
    inr (graph-takes c.args.graph.now c.least_term.new.self c.requires.graph c.least_term.ensures.takes)

pub returns-clause-rests : goal.returns-clause-rests
returns-clause-rests g c =
    replaced-rests c.add_syn_expr_quietly.new.self c.replaced.new.graph (to_applied c.args.x) (to_applied c.args.t) (to_applied c.in_ok-body.body) c.replaced.result c.replaced.ensures.ok c.replaced.ensures.err

pub returns-clause-fails : goal.returns-clause-fails
returns-clause-fails g c =
    replaced-fails c.add_syn_expr_quietly.new.self c.replaced.new.graph (to_applied c.args.x) (to_applied c.args.t) (to_applied c.in_ok-body.body) c.replaced.result c.replaced.ensures.ok c.replaced.ensures.only

pub returns-clause-only : goal.returns-clause-only
returns-clause-only g c = only-short c.replaced.result c.replaced.ensures.only
