use Rattle.slotted_symbols.specs.SymbolForms.{symbol_form, symbol_shown, symbol_read}
use Rattle.slotted_symbols.specs.SymbolWritten.{symbol_written, symbol_written_as}
use Rattle.slotted_terms.proofs.TermsReadAgain.{term_reads_again}
use Rattle.slotted_symbols.proofs.read_again.each_term_of_symbols_reads_as_itself.Goals as goal

pub returns : goal.returns
returns c = term_reads_again symbol_form symbol_shown symbol_written symbol_written_as symbol_read c.each_print_of_symbols_reads_as_itself.ensures
