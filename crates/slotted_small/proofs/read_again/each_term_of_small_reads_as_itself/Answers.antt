use Rattle.slotted_small.specs.Small.{small_form, small_shown, small_read}
use Rattle.slotted_small.specs.SmallWritten.{small_written, small_written_as}
use Rattle.slotted_terms.proofs.TermsReadAgain.{term_reads_again}
use Rattle.slotted_small.proofs.read_again.each_term_of_small_reads_as_itself.Goals as goal

pub returns : goal.returns
returns c = term_reads_again small_form small_shown small_written small_written_as small_read c.each_print_of_small_reads_as_itself.ensures
