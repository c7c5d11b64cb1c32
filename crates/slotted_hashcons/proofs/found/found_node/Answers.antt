-- The canonical node in normal form, and its shape.
use Rattle.std.proofs.Common.{rules, ◌∙◌, ap, sym, subst, length, arith}
use Rattle.slotted_languages.specs.NodeTerm.{nameless_node}
use Rattle.slotted_nodes.specs.Form.{Form}
use Rattle.slotted_model.specs.Normal.{normal}
use Rattle.slotted_classes.specs.Kept.{entries_of}
use Rattle.slotted_hashcons.specs.NormalNodes.{HasFindableChildren}
use Rattle.slotted_classes.proofs.ClassNodes.{node-is}
use Rattle.slotted_hashcons.proofs.ShapesOfNodes.{found_node}
use Rattle.slotted_hashcons.proofs.found.found_node.Goals as goal

pub normal_of-requires-clause-children : goal.normal_of-requires-clause-children
normal_of-requires-clause-children g c = subst (HasFindableChildren c.args.store.now) (sym c.node_of.ensures) c.requires.children

pub returns-clause-ok : goal.returns-clause-ok
returns-clause-ok g c =
    let form = g.L.LanguageChildren.form in
    let k = c.args.store.now in
    let n = c.in_ok-normal.normal in
    found_node k c.args.class (form n) (form c.in_ok-key.key) c.in_ok-key.names (g.met.L.LanguageChildren.fits n)
    (c.in_ok-normal.ensures.normal ∙ ap (normal (entries_of k)) (ap nameless_node c.node_of.ensures ∙ node-is k c.args.class c.requires.within))
    c.in_ok-key.ensures.shape

pub returns-in_err-key-clause-full : goal.returns-in_err-key-clause-full
returns-in_err-key-clause-full g c e =
    let h = c.in_err-key.ensures.full.0 (search rules) in
    omega (arith, h, c.in_ok-normal.ensures.places, ap (λ (f : Form). length f.names) c.node_of.ensures)
