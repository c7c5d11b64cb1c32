use Rattle.slotted_languages.proofs.Walks.{next_below}
use Rattle.slotted_languages.proofs.shape.Numbering.number_binder.Goals as goal

pub returns-clause-good : goal.returns-clause-good
returns-clause-good c = record { same = c.requires.good.same; below = next_below c.args.self.now.next c.args.self.now.free c.requires.good.below }
