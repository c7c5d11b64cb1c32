use Rattle.std.proofs.Common.{◌≡◌, ◌<◌, ◌∷◌, ◌++◌, [], length, sym, ◌∙◌, ap, subst, inl, inr, take, arith, rules}
use Rattle.std.specs.Prelude.{◌⊎◌}
use Rattle.std.proofs.lemmas.List.{take_all}
use Rattle.slotted_nodes.specs.Form.{children, child_id}
use Rattle.slotted_hashcons.specs.FiledRows.{HasChildrenBelow, Rows, key_children}
use Rattle.slotted_hashcons.proofs.KeyChildren.{child-there}
use Rattle.slotted_data.specs.Held.{with_user}
use Rattle.slotted_data.specs.Made.{children_at}
use Rattle.slotted_data.specs.Users.{EntersChildren, WaitEach, found_in}
use Rattle.slotted_data.proofs.NewData.{children-older, children-count, next-child}
use Rattle.slotted_data.proofs.Entering.{children-none, children-next}
use Rattle.slotted_data.proofs.users.enter_class.Goals as goal
use Rattle.slotted_data.proofs.users.enter_class.Goals.{then-found-class+in_ok-wait_if_filed, else-found-class}

pub find_class-found-requires-clause-within : goal.find_class-found-requires-clause-within
find_class-found-requires-clause-within g c =
    let f = g.L.LanguageChildren.form c.node_of-node.result.now in
    let k = c.args.store.now in
    let within : c.loop-k.k < length (children f.tree) = omega (arith, c.loop-k-test.true, c.applied_id_count-k-end.ensures) in
    let older : HasChildrenBelow c.args.class f = subst (HasChildrenBelow c.args.class) (sym c.node_of-node.ensures) (children-older k c.requires.canonical c.args.class c.requires.within) in
    let below = older (child_id f c.loop-k.k) (child-there f c.loop-k.k within) in
    omega (arith, below, c.applied_id.ensures.id, c.requires.within)

pub loop-k-init : goal.loop-k-init
loop-k-init g c = children-none c.args.store.now c.args.class c.args.nodes.now c.args.data.now

pub loop-k-preserved : goal.loop-k-preserved
loop-k-preserved g c =
    let f = g.L.LanguageChildren.form c.node_of-node.result.now in
    let k = c.args.store.now in
    let o = c.args.class in
    let j = c.loop-k.k in
    let m = c.loop-k.invariant in
    let within : j < length (children f.tree) = omega (arith, c.loop-k-test.true, c.applied_id_count-k-end.ensures) in
    let source : c.in-Ok.source ≡ o = search rules in
    let found : c.find_class-found.result ≡ found_in k (child_id f j) = c.find_class-found.ensures.class ∙ ap (found_in k) c.applied_id.ensures.id in
    let is : c.add_user.new.self ≡ with_user c.loop-k.data (found_in k (child_id f j)) o =
    c.in_ok-add_user.ensures.ok ∙ (λ i. with_user c.loop-k.data (found i) (source i)) in
    let values : length c.loop-k.data.values ≡ length k.classes = ap length m.same.values ∙ c.requires.count in
    let lists : found_in k (child_id f j) < length c.loop-k.data.users = omega (arith, c.in_ok-add_user.ensures.lists, c.find_class-found.ensures.within, values, found) in
    let waits : ((found_in k (child_id f j) < o) × (c.if-found-class.nodes ≡ c.loop-k.nodes)) ⊎ WaitEach c.loop-k.nodes c.if-found-class.nodes (o ∷ []) =
    elim c.if-found-class.branch [
      | then-found-class+in_ok-wait_if_filed w ↦ inr (subst (λ (n : Rows). WaitEach c.loop-k.nodes n (o ∷ [])) (sym w.nodes-is) w.in_ok-wait_if_filed.ensures.ok)
      | else-found-class w ↦ inl (let l = w.if-found-class.false in omega (arith, l, found), w.nodes-is)
    ] in
    subst (λ cs. EntersChildren k o cs c.args.nodes.now c.if-found-class.nodes c.args.data.now c.add_user.new.self) (sym (next-child f j within))
    (subst (EntersChildren k o (take j (key_children f) ++ child_id f j ∷ []) c.args.nodes.now c.if-found-class.nodes c.args.data.now) (sym is)
    (children-next k o c.args.nodes.now c.args.data.now (take j (key_children f)) (child_id f j) c.loop-k.nodes c.if-found-class.nodes c.loop-k.data m lists waits))

pub returns-clause-ok : goal.returns-clause-ok
returns-clause-ok g c =
    let f = g.L.LanguageChildren.form c.node_of-node.result.now in
    let k = c.args.store.now in
    let n = children-count f in
    let all : take c.loop-k.k (key_children f) ≡ key_children f = take_all c.loop-k.k (key_children f) (omega (arith, n, c.loop-k-test.false, c.applied_id_count-k-end.ensures)) in
    let cs : take c.loop-k.k (key_children f) ≡ children_at k c.args.class = all ∙ ap key_children c.node_of-node.ensures in
    subst (λ cs. EntersChildren k c.args.class cs c.args.nodes.now c.loop-k.nodes c.args.data.now c.loop-k.data) cs c.loop-k.invariant
