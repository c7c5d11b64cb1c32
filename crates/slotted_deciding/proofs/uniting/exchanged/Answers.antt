use Rattle.std.proofs.Common.{◌≡◌, ◌<◌, ◌∙◌, [], arith, length, subst, sym, inl, inr}
use Rattle.std.proofs.lemmas.Bool.{false≢true}
use Rattle.slotted_model.specs.Applied.{Applied}
use Rattle.slotted_nodes.specs.Form.{Form, children}
use Rattle.slotted_proofs.specs.Equations.{to_applied}
use Rattle.slotted_classes.proofs.ChildIds.{child_is}
use Rattle.slotted_deciding.specs.Equality.{EqualUpTo}
use Rattle.slotted_deciding.specs.Settling.{child_at, with_child_at}
use Rattle.slotted_deciding.proofs.uniting.exchanged.Goals as goal

pub returns-clause-ok : goal.returns-clause-ok
returns-clause-ok g c =
    let f : Form = g.L.LanguageChildren.form c.args.missing.now.node in
    let k = c.args.variant.now.turn.child in
    let a : Applied = to_applied c.applied_id-child.result.now in
    let within : k < length (children f.tree) = omega (arith, c.if-k-applied_id_count.false, c.applied_id_count.ensures) in
    let is : a ≡ child_at f k = child_is f k (0, []) a within c.applied_id-child.ensures.id c.applied_id-child.ensures.keys c.applied_id-child.ensures.names in
    record {
      node = f;
      child = k;
      other = to_applied c.applied_id-other.result.now;
      fits = g.met.L.LanguageChildren.fits c.args.missing.now.node;
      within = within;
      valid = (c.is_valid_node.ensures.0 c.if-not-is_valid_node.false).1;
      id_valid = (c.is_valid.ensures.0 c.if-not-is_valid.false).1;
      other_valid = (c.is_valid-else-not-is_valid-2.ensures.0 c.if-not-is_valid-3.false).1;
      looked_up = elim c.in_ok-is_still_missing.ensures.no [
        | inl y ↦ absurd (false≢true (sym c.if-branch.false ∙ y))
        | inr there ↦ there
      ];
      equal = subst (λ z. EqualUpTo c.args.graph.now.image z (to_applied c.applied_id-other.result.now)) is (c.in_ok-is_equal_up_to_symmetries.ensures.exact.0 c.if-not-branch.false);
      is = c.set_applied_id.ensures ∙ (λ i. with_child_at (g.L.LanguageChildren.form (c.in_ok-exchanged.ensures.ok i)) k (to_applied (c.in_ok-copy.ensures.ok i)));
    }
