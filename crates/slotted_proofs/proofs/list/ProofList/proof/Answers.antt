use Rattle.std.proofs.Common.{◌≡◌, Some, sym, ap, ◌∙◌}
use Rattle.std.specs.Prelude.{option_map, slice_get}
use Rattle.std.specs.Map.Iter.{deref_pair}
use Rattle.slotted_proofs.specs.Entries.{Proven, proven_at}
use Rattle.slotted_proofs.proofs.Listed.{shown_at}
use Rattle.slotted_proofs.proofs.list.ProofList.proof.Goals as goal

pub returns-clause-step : goal.returns-clause-step
returns-clause-step c =
    let es = c.self.inside.entries.entries in
    let at : slice_get es c.args.p ≡ Some (c.in-Some.field-0-0.now, c.in-Some.proof.now) =
    ap (slice_get es) (sym c.number.ensures) ∙ (sym c.get_index.ensures.entry ∙ ap (option_map deref_pair) c.in-Some.is) in
    sym (ap (λ (y : Proven). y.step) (shown_at es c.args.p (c.in-Some.field-0-0.now, c.in-Some.proof.now) at)) ∙ ap (λ list. (proven_at list c.args.p).step) c.self.view_is

pub returns-clause-text : goal.returns-clause-text
returns-clause-text c =
    let es = c.self.inside.entries.entries in
    let at : slice_get es c.args.p ≡ Some (c.in-Some.field-0-0.now, c.in-Some.proof.now) =
    ap (slice_get es) (sym c.number.ensures) ∙ (sym c.get_index.ensures.entry ∙ ap (option_map deref_pair) c.in-Some.is) in
    sym (ap (λ (y : Proven). y.text) (shown_at es c.args.p (c.in-Some.field-0-0.now, c.in-Some.proof.now) at)) ∙ ap (λ list. (proven_at list c.args.p).text) c.self.view_is
