-- A child of the class is read, or none is.
use Rattle.std.proofs.Common.{◌≡◌, ◌<◌, length, subst, refl, arith}
use Rattle.std.specs.Prelude.{Contains}
use Rattle.std.proofs.lemmas.Bool.{false≢true}
use Rattle.slotted_nodes.specs.Form.{children, child_id}
use Rattle.slotted_hashcons.specs.FiledRows.{key_children}
use Rattle.slotted_hashcons.proofs.KeyChildren.{child-there, child-read}
use Rattle.slotted_hashcons.proofs.hashcons.has_child.Goals as goal

pub returns-then-applied_id-class : goal.returns-then-applied_id-class
returns-then-applied_id-class g c =
    let f = g.L.LanguageChildren.form c.args.node.now in
    let lt : c.loop-k.k < length (children f.tree) = omega (arith, c.loop-k-test.true, c.applied_id_count-k-end.ensures) in
    let e : child_id f c.loop-k.k ≡ c.args.class = omega (arith, c.if-applied_id-class.true, c.applied_id.ensures.id) in
    (λ _. subst (Contains (key_children f)) e (child-there f c.loop-k.k lt), λ _. refl)

pub returns : goal.returns
returns g c = (
  λ t. absurd (false≢true t),
  λ h.
      let r = child-read (g.L.LanguageChildren.form c.args.node.now) c.args.class h in
      let within = r.1 in
      absurd (c.loop-k.invariant r.0 (omega (arith, within, c.loop-k-test.false, c.applied_id_count-k-end.ensures)) r.2),
)
