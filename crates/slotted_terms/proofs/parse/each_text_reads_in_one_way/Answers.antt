use Rattle.slotted_terms.proofs.TermReadings.{one_reading, some_reading}
use Rattle.slotted_terms.proofs.parse.each_text_reads_in_one_way.Goals as goal

pub returns-clause-one : goal.returns-clause-one
returns-clause-one c = one_reading

pub returns-clause-some : goal.returns-clause-some
returns-clause-some c = some_reading
