use Rattle.slotted_small.proofs.SmallReadsAgain.{small_plain}
use Rattle.slotted_small.proofs.read_again.each_print_of_small_reads_as_itself.Goals as goal

pub each_print_reads_as_itself-requires : goal.each_print_reads_as_itself-requires
each_print_reads_as_itself-requires c = record { plain = small_plain }
