use Rattle.slotted_languages.proofs.Renamings.{knows_free}
use Rattle.slotted_languages.proofs.language.Language.is_known_by.Goals as goal

pub returns-clause-test : goal.returns-clause-test
returns-clause-test g c =
    let k = knows_free (g.Self.LanguageChildren.form c.args.self.now) c.args.m.now c.in_ok-free.free c.in_ok-free.ensures.names in
    let e = c.knows_values-known.ensures in
    (λ h. k.0 (e.0 h), λ h. e.1 (k.1 h))
