-- In what is stored, finds can be followed.
use Rattle.slotted_classes.specs.Finding.{HasFinds}
use Rattle.slotted_classes.specs.Kept.{Kept}
use Rattle.slotted_classes.specs.Stored.{Stored}

pub stored-finds : (k : Kept) → Stored k → HasFinds k
stored-finds k stored = record { linked = stored.sane.sound.linked; later = stored.later }
