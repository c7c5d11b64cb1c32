use Rattle.std.proofs.Common.{◌≡◌, ◌∙◌, ap, arith, inl, rules, of_calls, add-one, length, subst}
use Rattle.std.proofs.lemmas.Fn.{FoldsTo-push, called}
use Rattle.std.specs.List.{FoldsTo}
use Rattle.slotted_slots.specs.Maps.{keys, values}
use Rattle.slotted_languages.specs.Children.{Replaced, below, child_value}
use Rattle.slotted_nodes.specs.Form.{children, child_of}
use Rattle.slotted_nodes.specs.Joined.{length_children-with_child_in}
use Rattle.slotted_languages.proofs.HandedOn.{handed_err}
use Rattle.slotted_languages.proofs.language.Language.map_applied_ids.Goals as goal

pub loop-k-preserved : goal.loop-k-preserved
loop-k-preserved g c =
    let form = g.Self.LanguageChildren.form in
    let f = form c.loop-k.node in
    let k = c.loop-k.k in
    let e = c.in_ok-child.ensures.ok in
    let same : child_value c.in_ok-child.child ≡ child_of f k =
    λ i. ((ap (λ a. a.id.0) e ∙ c.applied_id.ensures.id) i, (ap (λ a. keys a.m) e ∙ c.applied_id.ensures.keys) i, (ap (λ a. values a.m) e ∙ c.applied_id.ensures.names) i) in
    let next : Replaced (goal.F-step g) (c.loop-k.f, f) k (c.f.new.self, form c.set_applied_id.new.self) = record {
      child = c.in_ok-child.child;
      answer = c.in_ok-answer.answer;
      is_child = same;
      called = called g.F.FnMut c.f.ensures c.in_ok-answer.was;
      put = c.set_applied_id.ensures;
    } in
    record {
      callable = search (rules, of_calls);
      replaced = rw (add-one k) (FoldsTo-push (Replaced (goal.F-step g)) _ _ _ _ _ c.loop-k.invariant.replaced next);
      as_many = ap (λ h. length (children h.tree)) c.set_applied_id.ensures ∙ length_children-with_child_in f.tree k _ _ ∙ c.loop-k.invariant.as_many;
    }

pub applied_id-requires : goal.applied_id-requires
applied_id-requires g c = omega (arith, c.loop-k-test.true, c.applied_id_count-k-end.ensures, c.loop-k.invariant.as_many)

pub set_applied_id-requires : goal.set_applied_id-requires
set_applied_id-requires g c = omega (arith, c.loop-k-test.true, c.applied_id_count-k-end.ensures, c.loop-k.invariant.as_many)

pub returns-in_err-node-clause-only : goal.returns-in_err-node-clause-only
returns-in_err-node-clause-only g c = handed_err c.from_residual.result c.in_err-node.field-0.0 c.from_residual.ensures.1 _ (inl c.in_err-node.ensures.err)

pub returns-in_err-child-clause-only : goal.returns-in_err-child-clause-only
returns-in_err-child-clause-only g c = handed_err c.from_residual-in_err-child.result c.in_err-child.field-0.0 c.from_residual-in_err-child.ensures.1 _ (inl c.in_err-child.ensures.err)

pub returns-clause-ok : goal.returns-clause-ok
returns-clause-ok g c =
    let form = g.Self.LanguageChildren.form in
    let f = form c.args.self.now in
    let e : c.loop-k.k ≡ length (children f.tree) = omega (arith, c.loop-k-test.false, c.loop-k.auto.k-end, c.applied_id_count-k-end.ensures) in
    (c.loop-k.f, subst (λ n. FoldsTo (Replaced (goal.F-step g)) (c.args.f, f) (below n) (c.loop-k.f, form c.loop-k.node)) e c.loop-k.invariant.replaced)
