use Rattle.std.proofs.Common.{sym, ap, ◌∙◌}
use Rattle.std.specs.Prelude.{Some}
use Rattle.slotted_patterns.specs.View.{tree_of}
use Rattle.slotted_terms.proofs.OpenedPatterns.{some_ground, some_term}
use Rattle.slotted_terms.proofs.patterns.into_term.Goals as goal

pub assemble_term-requires : goal.assemble_term-requires
assemble_term-requires g c =
    let tree = tree_of g.L.LanguageChildren.form c.args.pattern in
    (tree, some_ground tree c.in_ok-nodes.ensures.term, c.in_ok-nodes.ensures.ok)

pub returns-clause-ok : goal.returns-clause-ok
returns-clause-ok g c =
    let tree = tree_of g.L.LanguageChildren.form c.args.pattern in
    some_term tree c.in_ok-nodes.ensures.term ∙ ap Some (sym (c.in_ok-term.ensures.ok tree (some_ground tree c.in_ok-nodes.ensures.term) c.in_ok-nodes.ensures.ok))
