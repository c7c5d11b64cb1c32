-- The node is that of the class's entry, and no child is made.
use Rattle.std.proofs.Common.{rules, inl, inr, ◌∙◌, ap, length, sym, subst, take}
use Rattle.std.specs.Prelude.{All, option_map}
use Rattle.std.proofs.lemmas.List.Elements.{All-nil}
use Rattle.slotted_slots.specs.Maps.{values}
use Rattle.slotted_classes.specs.ChildIds.{child_ids}
use Rattle.slotted_lookup.specs.Filling.{MakesAtMost, RunsOut}
use Rattle.slotted_graph.specs.Terms.{AreMade, IsFreshTerm, no_more, slots_at}
use Rattle.slotted_graph.proofs.extracting.frame_for.Goals as goal

pub returns-clause-frame : goal.returns-clause-frame
returns-clause-frame g c =
    let form = g.L.LanguageChildren.form in
    let es = c.args.terms.now.entries.items in
    let ids = child_ids (form c.in_ok-node.node) in
    record {
      entry = c.in-Some.entry.now;
      there = sym (ap (option_map (λ e. e.now)) (sym c.in-Some.is) ∙ c.get.ensures);
      named = c.in_ok-node.ensures.named;
      made = subst (λ xs. AreMade form es (take (length xs) ids) xs) (sym c.new-children.ensures.items) no_more;
    }

pub returns-clause-fresh : goal.returns-clause-fresh
returns-clause-fresh g c =
    let form = g.L.LanguageChildren.form in
    let t = c.args.table.now in
    let vs = values c.args.a.now.m in
    record { node = c.in_ok-node.ensures.fresh; children = subst (All (IsFreshTerm t vs)) (sym c.new-children.ensures.items) (All-nil (IsFreshTerm t vs)) }

pub returns-clause-count : goal.returns-clause-count
returns-clause-count g c =
    let form = g.L.LanguageChildren.form in
    let there = sym (ap (option_map (λ e. e.now)) (sym c.in-Some.is) ∙ c.get.ensures) in
    subst (λ o. MakesAtMost (slots_at form o) c.args.table.now c.named_node.new.table) (sym there) c.in_ok-node.ensures.count

pub returns-in_err-node-clause-count : goal.returns-in_err-node-clause-count
returns-in_err-node-clause-count g c =
    let form = g.L.LanguageChildren.form in
    let there = sym (ap (option_map (λ e. e.now)) (sym c.in-Some.is) ∙ c.get.ensures) in
    subst (λ o. MakesAtMost (slots_at form o) c.args.table.now c.named_node.new.table) (sym there) c.in_err-node.ensures.count

pub returns-in_err-node-clause-full : goal.returns-in_err-node-clause-full
returns-in_err-node-clause-full g c e =
    let form = g.L.LanguageChildren.form in
    let there = sym (ap (option_map (λ e. e.now)) (sym c.in-Some.is) ∙ c.get.ensures) in
    elim (c.in_err-node.ensures.full (search rules)) [
      | inl h ↦ inl (subst (λ o. RunsOut (slots_at form o) c.args.table.now c.named_node.new.table) (sym there) h)
      | inr h ↦ inr (c.args.a.now.id.0, c.in-Some.entry.now, there, h)
    ]
