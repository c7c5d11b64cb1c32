use Rattle.std.proofs.Common.{◌≡◌, ℕ, [], length, refl, sym, ap, ◌∙◌, subst}
use Rattle.std.specs.Prelude.{Err}
use Rattle.std.proofs.lemmas.List.{length-map}
use Rattle.std.proofs.lemmas.Result.{err_from_is_err_and}
use Rattle.slotted_slots.specs.declared.error.Error.{Error}
use Rattle.slotted_slots.specs.declared.error.Error.TheVariants.{Failed}
use Rattle.slotted_explain.specs.Image.{symmetry_entry}
use Rattle.slotted_commands.specs.declared.answer.Answer.TheVariants.{Symmetries, Refused}
use Rattle.slotted_commands.specs.Commands.{counts}
use Rattle.slotted_commands.specs.Sessions.{Answered, carried_out, counted, has_failed, no_text, no_term}
use Rattle.slotted_commands.proofs.Steps.{sound_graph}
use Rattle.slotted_commands.proofs.session.count_symmetries.Goals as goal

pub returns-in_err-open : goal.returns-in_err-open
returns-in_err-open g c =
    let p = err_from_is_err_and c.from_residual.result c.from_residual.ensures.1 in
    let f : c.in_err-open.field-0.0 ≡ Failed = c.in_err-open.ensures.only in
    rw (p.1, p.2) (subst (λ (e : Error). Answered g.L.LanguageChildren.read g.L.Printable.written c.args.graph.now c.args.graph.now counts (Refused e)) (sym f)
    (has_failed tt (c.in_err-open.ensures.failed.0 (ap Err f)) refl))

pub returns : goal.returns
returns g c =
    let h = c.args.graph.now in
    let n : length c.symmetries_met-met.result.now ≡ length h.image.symmetries = sym (length-map c.symmetries_met-met.result.now symmetry_entry) ∙ ap length c.symmetries_met-met.ensures.list in
    subst (λ (m : ℕ). Answered g.L.LanguageChildren.read g.L.Printable.written h h counts (Symmetries m c.in_ok-open.open)) (sym n)
    (carried_out [] [] h h (sound_graph h.failed c.open_symmetries.result c.in_ok-open.open c.in_ok-open.was c.open_symmetries.ensures.failed.1) no_text no_term (counted c.in_ok-open.ensures.count))
