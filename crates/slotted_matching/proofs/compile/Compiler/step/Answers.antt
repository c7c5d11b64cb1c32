use Rattle.std.proofs.Common.{◌++◌, refl, sym, ap, subst, ◌∙◌, map}
use Rattle.slotted_nodes.specs.Form.{Form}
use Rattle.slotted_patterns.specs.Known.{HasKnownNames}
use Rattle.slotted_patterns.specs.Tree.{pvar, row_of}
use Rattle.slotted_patterns.specs.View.{tree_of}
use Rattle.slotted_patterns.proofs.PieceTexts.{on_ok}
use Rattle.slotted_rule_patterns.proofs.Rows.{tree_of-node, tree_of-variable}
use Rattle.slotted_matching.specs.Wanted.{Opens, placed_in, wanted}
use Rattle.slotted_matching.proofs.StepSlots.{knows-node}
use Rattle.slotted_matching.proofs.WantedPatterns.{opens-node, opens-variable}
use Rattle.slotted_matching.proofs.compile.Compiler.step.Goals as goal

pub returns-in_ok-register-in-ENode-clause-ok : goal.returns-in_ok-register-in-ENode-clause-ok
returns-in_ok-register-in-ENode-clause-ok g c =
    let form = g.L.LanguageChildren.form in
    let S = c.args.skeletons.now in
    let f : Form = form c.in-ENode.node in
    let register = c.in_ok-register-in-ENode.register in
    let row = row_of (map (tree_of form) c.in-ENode.children.items) in
    let old = wanted form c.args.left.now.items in
    let new = wanted form c.push_children.new.left.items in
    on_ok c.push_children.result
    (λ added.
    subst (λ t. Opens S c.args.self.now c.enter.new.self t c.args.from old new) (sym (tree_of-node form c.args.pattern.now c.in-ENode.node c.in-ENode.children c.in-ENode.is))
    (record {
      register = register;
      joined = added ∙ ap (λ es. placed_in register 0 (row_of (map (tree_of form) es)) ++ old) c.deref.ensures.value;
      finds = opens-node S c.args.self.now c.enter.new.self f row c.args.from register c.in_ok-register-in-ENode.ensures.ok;
    }))
    c.push_children.ensures.ok

pub returns-in_ok-register-in-ENode-clause-slots : goal.returns-in_ok-register-in-ENode-clause-slots
returns-in_ok-register-in-ENode-clause-slots g c =
    let form = g.L.LanguageChildren.form in
    let f : Form = form c.in-ENode.node in
    on_ok c.push_children.result
    (λ added u known before.
    knows-node u f c.args.self.now.slots c.enter.new.self.slots (g.met.L.LanguageChildren.fits c.in-ENode.node) c.in_ok-register-in-ENode.ensures.slots
    (subst (HasKnownNames u) (tree_of-node form c.args.pattern.now c.in-ENode.node c.in-ENode.children c.in-ENode.is) known).0 before)
    c.push_children.ensures.ok

pub returns-in-PVar-clause-ok : goal.returns-in-PVar-clause-ok
returns-in-PVar-clause-ok g c =
    let form = g.L.LanguageChildren.form in
    let S = c.args.skeletons.now in
    let left = wanted form c.args.left.now.items in
    on_ok c.add_variable.result
    (λ added.
    subst (λ t. Opens S c.args.self.now c.add_variable.new.self t c.args.from left left) (ap pvar c.as_str.ensures.value ∙ sym (tree_of-variable form c.args.pattern.now c.in-PVar.name c.in-PVar.is))
    (record {
      register = 0;
      joined = refl;
      finds = opens-variable S c.args.self.now c.add_variable.new.self c.as_str.result.now c.args.from added;
    }))
    (c.add_variable.ensures.ok S)
