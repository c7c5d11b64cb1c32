use Rattle.std.proofs.Common.{◌∙◌, ap}
use Rattle.slotted_slots.specs.Maps.{is_among}
use Rattle.slotted_languages.specs.NodeTerm.{free_names_of}
use Rattle.slotted_languages.proofs.Occurrences.{is_among-firsts}
use Rattle.slotted_languages.proofs.language.Language.slots.Goals as goal

pub returns-clause-members : goal.returns-clause-members
returns-clause-members g c x =
    c.in_ok-values.ensures.members x ∙ (ap (is_among x) c.in_ok-free.ensures.names ∙ is_among-firsts x (free_names_of (g.Self.LanguageChildren.form c.args.self.now)))
