use Rattle.std.proofs.Common.{ap, subst, IfNone}
use Rattle.slotted_hashcons.specs.Filed.{HasKeysOnce, IsNewKey}
use Rattle.slotted_hashcons.specs.FiledRows.{Rows}
use Rattle.slotted_hashcons.proofs.hashcons.Hashcons.source_of.Goals as goal

pub returns-clause-none : goal.returns-clause-none
returns-clause-none g c =
    subst (λ v. IfNone c.source_of.result (IsNewKey v (g.L.LanguageChildren.form c.args.key.now))) (ap (λ (s : Rows). s.filed) c.self.view_is) c.source_of.ensures.none

pub returns-clause-once : goal.returns-clause-once
returns-clause-once g c = subst HasKeysOnce (ap (λ (s : Rows). s.filed) c.self.view_is) c.source_of.ensures.once
