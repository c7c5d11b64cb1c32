use Rattle.std.proofs.Common.{◌≤◌, ◌+◌, ◌∙◌, ap, length, subst, sym, inl, inr}
use Rattle.std.specs.List.{range_with_len}
use Rattle.std.proofs.lemmas.Bool.{false≢true}
use Rattle.slotted_slots.specs.Table.{Table}
use Rattle.slotted_reports.specs.Nodes.{RunsOutForClasses}
use Rattle.slotted_operations.specs.Graph.{Graph}
use Rattle.slotted_operations.proofs.Graphs.FreshSlots.{fresh_slots-more}
use Rattle.slotted_operations.proofs.Graphs.Reports.{used-known}
use Rattle.slotted_graph.specs.FiledNodes.{slots_for_dump}
use Rattle.slotted_graph.proofs.Enodes.{dump-runs_out, dump-takes}
use Rattle.slotted_graph.proofs.Insides.{inside-of}
use Rattle.slotted_graph.proofs.egraph.EGraph.dump.Goals as goal

pub append_live-requires-clause-good : goal.append_live-requires-clause-good
append_live-requires-clause-good l c = elim c.self.invariant [ inl h ↦ absurd (false≢true (sym c.if-self.false ∙ h)) | inr h ↦ h.2.filed ]

pub append_live-requires-clause-quiet : goal.append_live-requires-clause-quiet
append_live-requires-clause-quiet l c = elim c.self.invariant [ inl h ↦ absurd (false≢true (sym c.if-self.false ∙ h)) | inr h ↦ h.2.quiet ]

pub append_live-requires-clause-known : goal.append_live-requires-clause-known
append_live-requires-clause-known l c = elim c.self.invariant [
  | inl h ↦ absurd (false≢true (sym c.if-self.false ∙ h))
  | inr h ↦ used-known c.self.inside.store h.0 c.self.inside.table h.1
]

pub invariant_of-self : goal.invariant_of-self
invariant_of-self g c = elim c.self.invariant [
  | inl h ↦ inl h
  | inr h ↦ inr (h.0, fresh_slots-more c.self.inside.table c.append_live.new.table c.self.inside.store c.append_live.ensures.more h.1, h.2, h.3, h.4)
]

pub returns-clause-full : goal.returns-clause-full
returns-clause-full l c out =
    let k = c.self.inside.store in
    let r = c.self.inside.nodes in
    let inside = inside-of c.self.inside.table k r c.self.view_is c.if-self.false c.self.invariant in
    dump-runs_out k r inside.good inside.rests c.args.self.now inside.image inside.filed c.append_live.new.table
    (subst (λ (t : Table). RunsOutForClasses k r (range_with_len 0 (length k.classes)) t c.append_live.new.table) inside.table (c.append_live.ensures.full out))

pub returns-clause-count : goal.returns-clause-count
returns-clause-count l c =
    let k = c.self.inside.store in
    let r = c.self.inside.nodes in
    let inside = inside-of c.self.inside.table k r c.self.view_is c.if-self.false c.self.invariant in
    let g = c.args.self.now in
    let taken = dump-takes k r inside.good inside.rests g inside.image inside.filed c.self.inside.table c.append_live.new.table c.append_live.ensures.takes in
    record {
      names = c.append_live.ensures.kept ∙ ap (λ (x : Graph). x.table.names) c.self.view_is;
      taken = subst (λ (t : Table). c.append_live.new.table.fresh ≤ t.fresh + slots_for_dump g) inside.table taken;
    }
