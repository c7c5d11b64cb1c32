use Rattle.std.proofs.Common.{◌≡◌, ◌<◌, ◌∙◌, List, ℕ, length, sym, subst, inl, inr}
use Rattle.std.proofs.lemmas.Bool.{false≢true}
use Rattle.std.proofs.lemmas.Result.{IfOk-weaker}
use Rattle.slotted_slots.specs.Table.{AllKnown}
use Rattle.slotted_operations.specs.Good.{HasFreshSlots}
use Rattle.slotted_operations.specs.Graph.{Graph}
use Rattle.slotted_operations.specs.Reports.{slots_used}
use Rattle.slotted_operations.proofs.Graphs.Finds.{good-finds}
use Rattle.slotted_operations.proofs.Graphs.Reports.{slots-are, used-known, within}
use Rattle.slotted_graph.proofs.Insides.{inside-of, given}
use Rattle.slotted_graph.proofs.egraph.EGraph.slots.Goals as goal

pub slots_of-requires-clause-good : goal.slots_of-requires-clause-good
slots_of-requires-clause-good l c = elim c.self.invariant [ inl h ↦ absurd (false≢true (sym c.if-self.false ∙ h)) | inr h ↦ good-finds c.self.inside.store h.0 ]

pub slots_of-requires-clause-within : goal.slots_of-requires-clause-within
slots_of-requires-clause-within l c =
    let inside = inside-of c.self.inside.table c.self.inside.store c.self.inside.nodes c.self.view_is c.if-self.false c.self.invariant in
    let g = c.args.self.now in
    let i = c.args.id.0 in
    let valid : i < length g.image.canonical = given inside.failed c.requires in
    within c.self.inside.store g.image inside.image i valid

pub returns-clause-ok : goal.returns-clause-ok
returns-clause-ok l c =
    let inside = inside-of c.self.inside.table c.self.inside.store c.self.inside.nodes c.self.view_is c.if-self.false c.self.invariant in
    let g = c.args.self.now in
    let i = c.args.id.0 in
    let core = c.self.inside.store in
    let valid : i < length g.image.canonical = given inside.failed c.requires in
    IfOk-weaker c.slots_of.result _ (λ (s : List ℕ). s ≡ slots_used g.image i) (λ s e. e ∙ slots-are core inside.good g inside.image i valid) c.slots_of.ensures.ok

pub returns-clause-known : goal.returns-clause-known
returns-clause-known l c =
    let inside = inside-of c.self.inside.table c.self.inside.store c.self.inside.nodes c.self.view_is c.if-self.false c.self.invariant in
    let g = c.args.self.now in
    let i = c.args.id.0 in
    let core = c.self.inside.store in
    let fresh : HasFreshSlots g.table core = elim c.self.invariant [
      | inl h ↦ absurd (false≢true (sym c.if-self.false ∙ h))
      | inr h ↦ subst (λ (x : Graph). HasFreshSlots x.table core) c.self.view_is h.1
    ] in
    let valid : i < length g.image.canonical = given inside.failed c.requires in
    IfOk-weaker c.slots_of.result _ (λ (s : List ℕ). AllKnown g.table s)
    (λ s e. subst (AllKnown g.table) (sym e) (used-known core inside.good g.table fresh i (within core g.image inside.image i valid))) c.slots_of.ensures.ok
