use Rattle.slotted_patterns.proofs.PatternsReadAgain.{reads_again}
use Rattle.slotted_patterns.proofs.read_again.each_print_reads_as_itself.Goals as goal

pub returns : goal.returns
returns g c =
    let node = g.L.LanguageChildren in
    let laws = g.met.L.ReadBack in
    reads_again node.form node.shown node.read g.met.L.LanguageChildren.faithful laws.null laws.words laws.back c.requires.plain
