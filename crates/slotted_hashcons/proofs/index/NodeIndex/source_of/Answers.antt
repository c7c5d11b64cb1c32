use Rattle.std.proofs.Common.{ℕ, List, Option, subst}
use Rattle.std.specs.Prelude.{IfSome, IfNone}
use Rattle.slotted_hashcons.specs.Filed.{Filing, HasKey, HasKeysOnce, IsNewKey}
use Rattle.slotted_hashcons.proofs.JoinedNames.{joined-once, none-joined, some-joined}
use Rattle.slotted_hashcons.proofs.index.NodeIndex.source_of.Goals as goal

pub returns-clause-some : goal.returns-clause-some
returns-clause-some g c =
    let f = g.L.LanguageChildren.form c.args.key.now in
    subst (λ (v : List (Option Filing)). IfSome c.source_of.result (λ (i : ℕ). HasKey v i f)) c.self.view_is
    (some-joined c.self.inside.keys c.self.inside.names c.self.invariant f c.source_of.result c.source_of.ensures.some)

pub returns-clause-none : goal.returns-clause-none
returns-clause-none g c =
    let f = g.L.LanguageChildren.form c.args.key.now in
    subst (λ (v : List (Option Filing)). IfNone c.source_of.result (IsNewKey v f)) c.self.view_is
    (none-joined c.self.inside.keys c.self.inside.names c.self.invariant f c.source_of.result c.source_of.ensures.none)

pub returns-clause-once : goal.returns-clause-once
returns-clause-once g c = subst HasKeysOnce c.self.view_is (joined-once c.self.inside.keys c.self.inside.names c.self.invariant c.source_of.ensures.once)
