-- The source stands over the child classes first. Then its turn ends, and its key gives way to the new one.
use Rattle.std.proofs.Common.{◌≡◌, ◌<◌, ◌∙◌, List, Option, Some, None, length, ap, sym, subst, set, set-set, length-set, arith}
use Rattle.std.specs.Prelude.{slice_get}
use Rattle.slotted_hashcons.specs.Filed.{Filing, IsNewToOthers}
use Rattle.slotted_hashcons.specs.FiledRows.{Rows, HasChildrenBelow}
use Rattle.slotted_hashcons.specs.Over.{FitTogether}
use Rattle.slotted_hashcons.proofs.Together.{fit-used, fit-filed, fit-taken, front-within}
use Rattle.slotted_hashcons.proofs.hashcons.Hashcons.refile.Goals as goal

pub use_children-requires-clause-below : goal.use_children-requires-clause-below
use_children-requires-clause-below g c = λ d h.
    let below = c.requires.children d h in
    omega (arith, below, c.self.invariant.lists, ap (λ (s : Rows). length s.filed) c.self.view_is)

pub use_children-requires-clause-used : goal.use_children-requires-clause-used
use_children-requires-clause-used g c = c.self.invariant.over c.args.class

pub invariant_of-self : goal.invariant_of-self
invariant_of-self g c = fit-used c.self.inside.nodes c.self.inside.usages c.self.inside.waiting c.self.invariant c.use_children.new.usages c.use_children.ensures.more

pub refile-requires-clause-within : goal.refile-requires-clause-within
refile-requires-clause-within g c =
    front-within c.self.inside.nodes c.self.inside.usages c.self.inside.waiting c.self.invariant c.args.class
    (ap (λ (s : Rows). slice_get s.waiting 0) c.self.view_is ∙ c.requires.front)

pub refile-requires-clause-new_key : goal.refile-requires-clause-new_key
refile-requires-clause-new_key g c =
    subst (λ v. IsNewToOthers v c.args.class (g.L.LanguageChildren.form c.args.key)) (sym (ap (λ (s : Rows). s.filed) c.self.view_is)) c.requires.new_key

pub invariant_of-self-in_err-refile : goal.invariant_of-self-in_err-refile
invariant_of-self-in_err-refile g c =
    let v : List (Option Filing) = c.self.inside.nodes in
    let us = c.use_children.new.usages in
    let w = c.self.inside.waiting in
    let u = c.end_turn.new.waiting in
    subst (λ x. FitTogether x us u) (sym c.in_err-refile.ensures.gone)
    (fit-taken v us w (fit-used v c.self.inside.usages w c.self.invariant us c.use_children.ensures.more) c.args.class u c.end_turn.ensures.0 c.end_turn.ensures.1)

pub invariant_of-self-2 : goal.invariant_of-self-2
invariant_of-self-2 g c =
    let v : List (Option Filing) = c.self.inside.nodes in
    let us = c.use_children.new.usages in
    let w = c.self.inside.waiting in
    let u = c.end_turn.new.waiting in
    let i = c.args.class in
    let f = g.L.LanguageChildren.form c.args.key in
    let x : Option Filing = Some (f, c.args.names) in
    let filed : v ≡ c.args.self.now.filed = ap (λ (s : Rows). s.filed) c.self.view_is in
    let within : i < length v = front-within v c.self.inside.usages w c.self.invariant i (ap (λ (s : Rows). slice_get s.waiting 0) c.self.view_is ∙ c.requires.front) in
    subst (λ y. FitTogether y us u) (set-set v i None x ∙ sym c.in_ok-refile.ensures.ok)
    (fit-filed (set v i None) us u
    (fit-taken v us w (fit-used v c.self.inside.usages w c.self.invariant us c.use_children.ensures.more) i u c.end_turn.ensures.0 c.end_turn.ensures.1)
    i f c.args.names
    (omega (arith, within, length-set v i None))
    (subst (λ n. HasChildrenBelow n f) (ap length (sym filed) ∙ sym (length-set v i None)) c.requires.children)
    c.in_ok-use_children.ensures.ok)

pub returns-clause-ok : goal.returns-clause-ok
returns-clause-ok g c =
    let x : Option Filing = Some (g.L.LanguageChildren.form c.args.key, c.args.names) in
    record {
      filed = c.in_ok-refile.ensures.ok ∙ ap (λ (s : Rows). set s.filed c.args.class x) c.self.view_is;
      waiting = sym (ap (λ (s : Rows). s.waiting) c.self.view_is) ∙ c.end_turn.ensures.0;
    }
