use Rattle.slotted_terms.proofs.TermsReadAgain.{term_reads_again}
use Rattle.slotted_terms.proofs.read_again.each_term_reads_as_itself.Goals as goal

pub returns : goal.returns
returns g c =
    let node = g.L.LanguageChildren in
    term_reads_again node.form node.shown g.L.Printable.written g.met.L.Printable.written_as node.read c.each_print_reads_as_itself.ensures
