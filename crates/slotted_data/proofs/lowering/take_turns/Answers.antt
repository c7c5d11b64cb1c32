use Rattle.std.proofs.Common.{◌≡◌, ◌<◌, None, length, sym, ◌∙◌, refl, rules, subst, arith, inl, inr}
use Rattle.std.specs.Prelude.{Contains, slice_get}
use Rattle.slotted_lists.proofs.Contained.{contains_head}
use Rattle.slotted_model_analyses.specs.Analysis.{IsMerge}
use Rattle.slotted_model_analyses.specs.DataPart.{TakesData}
use Rattle.slotted_hashcons.specs.FiledRows.{IsFiled}
use Rattle.slotted_hashcons.specs.WellFiled.{state_in}
use Rattle.slotted_data.specs.Meaning.{by_bare_nodes}
use Rattle.slotted_data.proofs.Merging.{merge-decided}
use Rattle.slotted_data.specs.Lowering.{part_of, quiet}
use Rattle.slotted_data.proofs.Rising.{filed-within, left-filed, nobody-first, ready-same, rise-falls, rise-has, rise-turn, some-of, turns-few, turns-next, turns-none}
use Rattle.slotted_data.proofs.lowering.take_turns.Goals as goal

pub loop-source-init : goal.loop-source-init
loop-source-init g c = record {
  takes = turns-none (by_bare_nodes (g.N.Analysis.meaning c.args.analysis.now)) c.args.store.now c.args.nodes.now c.args.data.now;
  has = c.requires.has;
  some = inl refl;
}

pub take_data-requires-clause-within : goal.take_data-requires-clause-within
take_data-requires-clause-within g c =
    let o = c.in-Some.source in
    let is : IsFiled c.loop-source.nodes.filed o =
    c.in-Some.ensures.filed o (subst (λ w. Contains w o) (sym c.leave.ensures.waiting) (contains_head o c.leave.new.self.waiting)) in
    let a = by_bare_nodes (g.N.Analysis.meaning c.args.analysis.now) in
    let law : IsMerge g.row.N-Data.Denot a = merge-decided (g.N.Analysis.meaning c.args.analysis.now) g.N.Data.PartialEq.eq g.met.N.Data.Eq.laws g.met.N.Analysis.equal_is_same (g.met.N.Analysis.is_merge c.args.analysis.now) in
    filed-within a law c.args.store.now c.args.nodes.now c.requires.ready.rest c.loop-source.nodes o c.loop-source.invariant.takes.filed is

pub take_data-requires-clause-ready : goal.take_data-requires-clause-ready
take_data-requires-clause-ready g c =
    ready-same c.args.store.now c.args.nodes.now c.leave.new.self c.args.data.now c.loop-source.data
    (left-filed c.loop-source.nodes c.leave.new.self c.in-Some.source c.leave.ensures ∙ c.loop-source.invariant.takes.filed) c.loop-source.invariant.takes.same c.requires.ready

pub take_data-requires-clause-changed : goal.take_data-requires-clause-changed
take_data-requires-clause-changed g c =
    let within = take_data-requires-clause-within g c in
    let inv = c.loop-source.invariant in
    let count : length c.loop-source.data.values ≡ length c.args.store.now.classes = inv.takes.same.count ∙ c.requires.ready.count in
    (inv.has (some-of c.loop-source.data.values (omega (arith, within, count)))).changed_once

pub loop-source-smaller : goal.loop-source-smaller
loop-source-smaller g c =
    let o = c.in-Some.source in
    let k = c.args.store.now in
    let s = c.loop-source.nodes in
    let m = c.leave.new.self in
    let inv = c.loop-source.invariant in
    let is : IsFiled s.filed o = c.in-Some.ensures.filed o (subst (λ w. Contains w o) (sym c.leave.ensures.waiting) (contains_head o m.waiting)) in
    let a = by_bare_nodes (g.N.Analysis.meaning c.args.analysis.now) in
    let law : IsMerge g.row.N-Data.Denot a = merge-decided (g.N.Analysis.meaning c.args.analysis.now) g.N.Data.PartialEq.eq g.met.N.Data.Eq.laws g.met.N.Analysis.equal_is_same (g.met.N.Analysis.is_merge c.args.analysis.now) in
    let within : o < length k.classes = filed-within a law k c.args.nodes.now c.requires.ready.rest s o inv.takes.filed is in
    let count : length c.loop-source.data.values ≡ length k.classes = inv.takes.same.count ∙ c.requires.ready.count in
    let taken = c.in_ok-less.ensures.ok in
    rise-falls a law k c.args.nodes.now c.requires.ready.rest s.waiting c.take_data.new.nodes.waiting c.loop-source.data c.take_data.new.data (omega (arith, within, count)) taken.same.count count inv.has
    (rise-turn a law k c.args.nodes.now c.requires.ready.rest s m c.take_data.new.nodes c.loop-source.data c.take_data.new.data o inv.takes.filed (left-filed s m o c.leave.ensures) c.leave.ensures.waiting is c.in-Some.ensures.once taken)

pub loop-source-preserved : goal.loop-source-preserved
loop-source-preserved g c =
    let o = c.in-Some.source in
    let k = c.args.store.now in
    let s = c.loop-source.nodes in
    let m = c.leave.new.self in
    let t = c.take_data.new.nodes in
    let d = c.loop-source.data in
    let e = c.take_data.new.data in
    let inv = c.loop-source.invariant in
    let is : IsFiled s.filed o = c.in-Some.ensures.filed o (subst (λ w. Contains w o) (sym c.leave.ensures.waiting) (contains_head o m.waiting)) in
    let a = by_bare_nodes (g.N.Analysis.meaning c.args.analysis.now) in
    let law : IsMerge g.row.N-Data.Denot a = merge-decided (g.N.Analysis.meaning c.args.analysis.now) g.N.Data.PartialEq.eq g.met.N.Data.Eq.laws g.met.N.Analysis.equal_is_same (g.met.N.Analysis.is_merge c.args.analysis.now) in
    let taken = c.in_ok-less.ensures.ok in
    let left = left-filed s m o c.leave.ensures in
    let turn : (x : g.row.N-Data.Denot) → TakesData a (state_in k (quiet c.args.nodes.now)) (part_of x d s.waiting) (part_of x e t.waiting) =
    rise-turn a law k c.args.nodes.now c.requires.ready.rest s m t d e o inv.takes.filed left c.leave.ensures.waiting is c.in-Some.ensures.once taken in
    record {
      takes = turns-next a k c.args.nodes.now s t c.args.data.now d e c.loop-source.turns c.loop-source.fall c.saturating_add-turns.result c.in_ok-less.less c.saturating_add-fall.result
          inv.takes (taken.filed ∙ left) taken.same c.in_ok-less.ensures.falls (search rules) (search rules) turn;
      has = λ x. rise-has a law k c.args.nodes.now c.requires.ready.rest s.waiting t.waiting d e x (inv.has x) (turn x);
      some = inr (some-of d.values (let within = filed-within a law k c.args.nodes.now c.requires.ready.rest s o inv.takes.filed is in let count = inv.takes.same.count ∙ c.requires.ready.count in omega (arith, within, count)));
    }

pub returns-clause-ok : goal.returns-clause-ok
returns-clause-ok g c = c.loop-source.invariant.takes

pub returns-clause-few : goal.returns-clause-few
returns-clause-few g c =
    let a = by_bare_nodes (g.N.Analysis.meaning c.args.analysis.now) in
    let law : IsMerge g.row.N-Data.Denot a = merge-decided (g.N.Analysis.meaning c.args.analysis.now) g.N.Data.PartialEq.eq g.met.N.Data.Eq.laws g.met.N.Analysis.equal_is_same (g.met.N.Analysis.is_merge c.args.analysis.now) in
    let inv = c.loop-source.invariant in
    elim inv.some [
      | inl none ↦ omega (arith, none)
      | inr x ↦
          turns-few a c.args.store.now c.args.nodes.now law c.requires.ready.rest c.loop-source.nodes c.args.data.now c.loop-source.data c.loop-source.turns c.loop-source.fall inv.takes x (c.requires.has x)
    ]

pub returns-clause-none : goal.returns-clause-none
returns-clause-none g c =
    let none : slice_get c.loop-source.nodes.waiting 0 ≡ None = sym c.front.ensures.front ∙ c.in_default.is in
    nobody-first c.loop-source.nodes.waiting none
