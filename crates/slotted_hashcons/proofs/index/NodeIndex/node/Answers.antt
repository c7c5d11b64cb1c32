use Rattle.std.proofs.Common.{◌∙◌, [], List, Option, Some, ap, sym}
use Rattle.std.specs.Prelude.{slice_index_or}
use Rattle.slotted_hashcons.specs.Filed.{Filing, filed_of, with_names}
use Rattle.slotted_hashcons.proofs.JoinedNames.{joined-at}
use Rattle.slotted_hashcons.proofs.index.NodeIndex.node.Goals as goal

pub returns-in-Some : goal.returns-in-Some
returns-in-Some g c =
    let f = g.L.LanguageChildren.form c.in-Some.key.now in
    ap (λ m. Some (f, m)) c.of.ensures
    ∙ ap (with_names (slice_index_or c.self.inside.names c.args.class [])) c.in-Some.ensures
    ∙ sym (joined-at c.self.inside.keys c.self.inside.names c.args.class c.self.invariant)
    ∙ ap (λ (v : List (Option Filing)). filed_of v c.args.class) c.self.view_is

pub returns-in-None : goal.returns-in-None
returns-in-None g c =
    ap (with_names (slice_index_or c.self.inside.names c.args.class [])) c.in-None.ensures
    ∙ sym (joined-at c.self.inside.keys c.self.inside.names c.args.class c.self.invariant)
    ∙ ap (λ (v : List (Option Filing)). filed_of v c.args.class) c.self.view_is
