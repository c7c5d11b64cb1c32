use Rattle.std.proofs.Common.{◌≡◌, ◌++◌, [], ◌∷◌, ap, ◌∙◌, string_bytes}
use Rattle.std.proofs.lemmas.List.{map-append}
use Rattle.slotted_terms.specs.Shown.{term_text}
use Rattle.slotted_changes.specs.Changes.{in_marks}
use Rattle.slotted_changes.specs.Steps.{level_of, levels_of}
use Rattle.slotted_changes.proofs.Texts.{done-more, done-none, last-level}
use Rattle.slotted_changes.proofs.marking.marked_at.Goals as goal

pub loop-step-init : goal.loop-step-init
loop-step-init g c =
    let form = g.L.LanguageChildren.form in
    let w = g.L.Printable.written in
    let t = c.args.table.now in
    let p = c.args.place in
    done-none w t (levels_of form p.steps.items) (in_marks (term_text w t p.from.now)) (in_marks (term_text w t p.to.now)) (string_bytes c.in_ok-first.first) (string_bytes c.in_ok-second.second) c.requires c.in_ok-first.ensures.ok c.in_ok-second.ensures.ok

pub around-requires : goal.around-requires
around-requires g c =
    let form = g.L.LanguageChildren.form in
    let last : c.loop-step.steps.items ≡ c.pop.new.self.items ++ c.in-Some.step ∷ [] = c.in-Some.ensures.items in
    let levels : levels_of form c.loop-step.steps.items ≡ levels_of form c.pop.new.self.items ++ level_of form c.in-Some.step ∷ [] =
    ap (levels_of form) last ∙ map-append (level_of form) c.pop.new.self.items (c.in-Some.step ∷ []) in
    (last-level (levels_of form c.loop-step.steps.items) (levels_of form c.pop.new.self.items) (level_of form c.in-Some.step) levels c.loop-step.invariant.are_levels).1

pub loop-step-preserved : goal.loop-step-preserved
loop-step-preserved g c =
    let form = g.L.LanguageChildren.form in
    let w = g.L.Printable.written in
    let t = c.args.table.now in
    let p = c.args.place in
    let last : c.loop-step.steps.items ≡ c.pop.new.self.items ++ c.in-Some.step ∷ [] = c.in-Some.ensures.items in
    let levels : levels_of form c.loop-step.steps.items ≡ levels_of form c.pop.new.self.items ++ level_of form c.in-Some.step ∷ [] =
    ap (levels_of form) last ∙ map-append (level_of form) c.pop.new.self.items (c.in-Some.step ∷ []) in
    done-more w t (levels_of form p.steps.items) (levels_of form c.loop-step.steps.items) (levels_of form c.pop.new.self.items) (level_of form c.in-Some.step)
    (in_marks (term_text w t p.from.now)) (in_marks (term_text w t p.to.now)) (string_bytes c.loop-step.texts.first) (string_bytes c.loop-step.texts.second) (string_bytes c.in_ok-texts.texts.first) (string_bytes c.in_ok-texts.texts.second)
    levels c.loop-step.invariant c.in_ok-texts.ensures.ok
