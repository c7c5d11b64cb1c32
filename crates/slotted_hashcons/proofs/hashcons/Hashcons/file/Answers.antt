-- The source stands over the child classes first, and then the node is filed.
use Rattle.std.proofs.Common.{◌≡◌, ◌<◌, List, Option, length, ap, sym, subst, arith}
use Rattle.slotted_hashcons.specs.Filed.{Filing, IsNewKey}
use Rattle.slotted_hashcons.specs.FiledRows.{Rows, HasChildrenBelow}
use Rattle.slotted_hashcons.specs.Over.{FitTogether}
use Rattle.slotted_hashcons.proofs.Together.{fit-used, fit-filed}
use Rattle.slotted_hashcons.proofs.hashcons.Hashcons.file.Goals as goal

pub use_children-requires-clause-below : goal.use_children-requires-clause-below
use_children-requires-clause-below g c = λ d h.
    let below = c.requires.children d h in
    omega (arith, below, c.self.invariant.lists, ap (λ (s : Rows). length s.filed) c.self.view_is)

pub use_children-requires-clause-used : goal.use_children-requires-clause-used
use_children-requires-clause-used g c = c.self.invariant.over c.args.class

pub invariant_of-self : goal.invariant_of-self
invariant_of-self g c = fit-used c.self.inside.nodes c.self.inside.usages c.self.inside.waiting c.self.invariant c.use_children.new.usages c.use_children.ensures.more

pub file-requires-clause-new_key : goal.file-requires-clause-new_key
file-requires-clause-new_key g c = subst (λ v. IsNewKey v (g.L.LanguageChildren.form c.args.key)) (sym (ap (λ (s : Rows). s.filed) c.self.view_is)) c.requires.new_key

pub invariant_of-self-in_err-file : goal.invariant_of-self-in_err-file
invariant_of-self-in_err-file g c =
    subst (λ v. FitTogether v c.use_children.new.usages c.self.inside.waiting) (sym c.in_err-file.ensures.unchanged)
    (fit-used c.self.inside.nodes c.self.inside.usages c.self.inside.waiting c.self.invariant c.use_children.new.usages c.use_children.ensures.more)

pub invariant_of-self-2 : goal.invariant_of-self-2
invariant_of-self-2 g c =
    let v : List (Option Filing) = c.self.inside.nodes in
    let us = c.use_children.new.usages in
    let w = c.self.inside.waiting in
    let f = g.L.LanguageChildren.form c.args.key in
    let filed : v ≡ c.args.self.now.filed = ap (λ (s : Rows). s.filed) c.self.view_is in
    subst (λ x. FitTogether x us w) (sym c.in_ok-file.ensures.ok)
    (fit-filed v us w (fit-used v c.self.inside.usages w c.self.invariant us c.use_children.ensures.more) c.args.class f c.args.names
    (subst (λ x. c.args.class < length x) (sym filed) c.requires.within)
    (subst (λ x. HasChildrenBelow (length x) f) (sym filed) c.requires.children)
    c.in_ok-use_children.ensures.ok)
