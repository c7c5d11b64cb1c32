use Rattle.std.proofs.Common.{◌<◌, ◌∙◌, ap, get_or, length, sym, subst, inl, inr}
use Rattle.std.specs.Prelude.{All, Contains}
use Rattle.std.proofs.lemmas.Bool.{false≢true}
use Rattle.std.proofs.lemmas.List.Sorted.{IsPermutation-refl}
use Rattle.std.proofs.lemmas.Result.{IfOk-weaker}
use Rattle.slotted_model.specs.Applied.{Applied, values}
use Rattle.slotted_model.specs.Find.{used_slots}
use Rattle.slotted_model.proofs.Finds.NormalIds.{values-identity}
use Rattle.slotted_proofs.specs.Equations.{to_applied}
use Rattle.slotted_classes.specs.Kept.{entries_of}
use Rattle.slotted_slots.specs.Table.{AllKnown}
use Rattle.slotted_lookup.specs.Enodes.{HasNamesOrNumbers}
use Rattle.slotted_lookup.specs.Reports.{class_sources}
use Rattle.slotted_reports.specs.Nodes.{AreClassNodes, HasLargeKeyOf}
use Rattle.slotted_operations.specs.Good.{HasFreshSlots}
use Rattle.slotted_operations.specs.Graph.{Graph}
use Rattle.slotted_operations.specs.Reports.{names_slots}
use Rattle.slotted_operations.proofs.Graphs.Finds.{good-finds}
use Rattle.slotted_operations.proofs.Graphs.Reports.{names-are, names-known, slots-are, used-fresh, within}
use Rattle.slotted_graph.specs.FiledNodes.{HasEachNode, HasOwnNames, IsEnode, IsNoneIfDead}
use Rattle.slotted_graph.proofs.Enodes.{class-enodes, each-node, large-of_class, none-dead}
use Rattle.slotted_graph.proofs.Insides.{inside-of, given}
use Rattle.slotted_graph.proofs.egraph.EGraph.enodes.Goals as goal

pub mk_identity_applied_id-requires-clause-good : goal.mk_identity_applied_id-requires-clause-good
mk_identity_applied_id-requires-clause-good l c = elim c.self.invariant [ inl h ↦ absurd (false≢true (sym c.if-self.false ∙ h)) | inr h ↦ good-finds c.self.inside.store h.0 ]

pub mk_identity_applied_id-requires-clause-within : goal.mk_identity_applied_id-requires-clause-within
mk_identity_applied_id-requires-clause-within l c =
    let inside = inside-of c.self.inside.table c.self.inside.store c.self.inside.nodes c.self.view_is c.if-self.false c.self.invariant in
    let g = c.args.self.now in
    let i = c.args.id.0 in
    let valid : i < length g.image.canonical = given inside.failed c.requires in
    within c.self.inside.store g.image inside.image i valid

pub enodes-requires-clause-good : goal.enodes-requires-clause-good
enodes-requires-clause-good l c = elim c.self.invariant [ inl h ↦ absurd (false≢true (sym c.if-self.false ∙ h)) | inr h ↦ h.2.filed ]

pub enodes-requires-clause-quiet : goal.enodes-requires-clause-quiet
enodes-requires-clause-quiet l c = elim c.self.invariant [ inl h ↦ absurd (false≢true (sym c.if-self.false ∙ h)) | inr h ↦ h.2.quiet ]

pub enodes-requires-clause-fresh : goal.enodes-requires-clause-fresh
enodes-requires-clause-fresh l c =
    let g = c.args.self.now in
    let i = c.args.id.0 in
    let k = c.self.inside.store in
    let inside = inside-of c.self.inside.table k c.self.inside.nodes c.self.view_is c.if-self.false c.self.invariant in
    let valid : i < length g.image.canonical = given inside.failed c.requires in
    let names = ap (λ (x : Applied). values x.1) c.in_ok-class.ensures.ok ∙ values-identity (used_slots (entries_of k) i) in
    λ x h.
    let b = used-fresh k inside.good c.self.inside.table inside.fresh i x (within k g.image inside.image i valid) (subst (λ vs. Contains vs x) names h) in
    (b.index, b.is_slot)

pub returns-clause-each : goal.returns-clause-each
returns-clause-each l c =
    let form = l.L.LanguageChildren.form in
    let g = c.args.self.now in
    let k = c.self.inside.store in
    let r = c.self.inside.nodes in
    let inside = inside-of c.self.inside.table k r c.self.view_is c.if-self.false c.self.invariant in
    let a = to_applied c.in_ok-class.class in
    IfOk-weaker c.enodes.result (λ s. AreClassNodes form k r a (class_sources k r a.0) s.keys) (λ s. HasEachNode form g c.args.id.0 s.keys)
    (λ s is. subst (λ j. HasEachNode form g j s.keys) (ap (λ (x : Applied). x.0) c.in_ok-class.ensures.ok)
    (each-node k r inside.good inside.rests g inside.image inside.filed a.0 form l.met.L.LanguageChildren.fits
    (class_sources k r a.0) s.keys (IsPermutation-refl (class_sources k r a.0)) is.keys))
    c.enodes.ensures.ok

pub returns-clause-dead : goal.returns-clause-dead
returns-clause-dead l c =
    let form = l.L.LanguageChildren.form in
    let g = c.args.self.now in
    let i = c.args.id.0 in
    let k = c.self.inside.store in
    let r = c.self.inside.nodes in
    let inside = inside-of c.self.inside.table k r c.self.view_is c.if-self.false c.self.invariant in
    let a = to_applied c.in_ok-class.class in
    let valid : i < length g.image.canonical = given inside.failed c.requires in
    let same = ap (λ (x : Applied). x.0) c.in_ok-class.ensures.ok in
    IfOk-weaker c.enodes.result (λ s. AreClassNodes form k r a (class_sources k r a.0) s.keys) (λ s. IsNoneIfDead g i s.keys)
    (λ s is dead. none-dead k r inside.good inside.rests g inside.image inside.filed i form (within k g.image inside.image i valid) dead (class_sources k r i) s.keys (IsPermutation-refl (class_sources k r i))
    (subst (λ j. AreClassNodes form k r a (class_sources k r j) s.keys) same is).keys)
    c.enodes.ensures.ok

pub returns-clause-nodes : goal.returns-clause-nodes
returns-clause-nodes l c =
    let form = l.L.LanguageChildren.form in
    let g = c.args.self.now in
    let i = c.args.id.0 in
    let k = c.self.inside.store in
    let r = c.self.inside.nodes in
    let inside = inside-of c.self.inside.table k r c.self.view_is c.if-self.false c.self.invariant in
    let a = to_applied c.in_ok-class.class in
    let fresh : HasFreshSlots g.table k = subst (λ (x : Graph). HasFreshSlots x.table k) c.self.view_is inside.fresh in
    let valid : i < length g.image.canonical = given inside.failed c.requires in
    let same = c.in_ok-class.ensures.ok ∙ names-are k inside.good g inside.image i valid in
    let known = subst (λ (x : Applied). AllKnown g.table (values x.1)) (sym c.in_ok-class.ensures.ok) (names-known k inside.good g inside.image fresh i valid) in
    IfOk-weaker c.enodes.result (λ s. AreClassNodes form k r a (class_sources k r a.0) s.keys) (λ s. All (λ n. IsEnode g (names_slots g.image i) (form n)) s.keys)
    (λ s is. subst (λ (x : Applied). All (λ n. IsEnode g x (form n)) s.keys) same
    (class-enodes k r inside.good inside.rests g inside.image inside.filed a c.in_ok-class.ensures.findable form l.met.L.LanguageChildren.fits s.keys known is.each))
    c.enodes.ensures.ok

pub returns-clause-names : goal.returns-clause-names
returns-clause-names l c =
    let form = l.L.LanguageChildren.form in
    let g = c.args.self.now in
    let i = c.args.id.0 in
    let k = c.self.inside.store in
    let r = c.self.inside.nodes in
    let inside = inside-of c.self.inside.table k r c.self.view_is c.if-self.false c.self.invariant in
    let a = to_applied c.in_ok-class.class in
    let valid : i < length g.image.canonical = given inside.failed c.requires in
    let slots = ap (λ (x : Applied). values x.1) c.in_ok-class.ensures.ok ∙ (values-identity (used_slots (entries_of k) i) ∙ slots-are k inside.good g inside.image i valid) in
    IfOk-weaker c.enodes.result (λ s. AreClassNodes form k r a (class_sources k r a.0) s.keys) (λ s. All (λ n. HasOwnNames g.image i (form n)) s.keys)
    (λ s is j d h. subst (λ vs. HasNamesOrNumbers vs (form (get_or s.keys j d))) slots (is.each j d h).names) c.enodes.ensures.ok

pub returns-clause-full : goal.returns-clause-full
returns-clause-full l c out =
    let k = c.self.inside.store in
    let r = c.self.inside.nodes in
    let inside = inside-of c.self.inside.table k r c.self.view_is c.if-self.false c.self.invariant in
    large-of_class k r inside.good inside.rests c.args.self.now inside.image inside.filed
    c.args.id.0 (subst (λ i. HasLargeKeyOf r (class_sources k r i)) (ap (λ (x : Applied). x.0) c.in_ok-class.ensures.ok) (c.enodes.ensures.full out))
