use Rattle.slotted_symbols.proofs.SymbolReadsAgain.{symbol_plain}
use Rattle.slotted_symbols.proofs.read_again.each_print_of_symbols_reads_as_itself.Goals as goal

pub each_print_reads_as_itself-requires : goal.each_print_reads_as_itself-requires
each_print_reads_as_itself-requires c = record { plain = symbol_plain }
