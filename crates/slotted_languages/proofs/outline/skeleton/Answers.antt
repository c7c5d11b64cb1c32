use Rattle.std.proofs.Common.{◌∙◌, ap}
use Rattle.slotted_languages.specs.Outline.{outlined_form, blank_form}
use Rattle.slotted_languages.proofs.Outlines.{skeleton_form-blank}
use Rattle.slotted_languages.proofs.outline.skeleton.Goals as goal

pub returns-clause-ok : goal.returns-clause-ok
returns-clause-ok g c =
    let f = g.L.LanguageChildren.form c.args.node.now in
    let blank = c.blank.ensures ∙ ap blank_form (c.in_ok-blanked.ensures.ok ∙ ap (λ v. outlined_form v f) c.numeric_at.ensures) in
    rw ((λ j. outlined_form (c.numeric_at-2.ensures j) (blank j)) ∙ skeleton_form-blank f) at c.outline-2.ensures.ok
