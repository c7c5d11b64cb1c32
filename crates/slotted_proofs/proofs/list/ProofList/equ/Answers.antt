use Rattle.std.proofs.Common.{◌≡◌, Some, sym, ap, ◌∙◌, subst}
use Rattle.std.specs.Prelude.{option_map, slice_get}
use Rattle.std.specs.Map.Iter.{deref_pair}
use Rattle.slotted_proofs.specs.Equations.{IsWritten}
use Rattle.slotted_proofs.specs.Entries.{statement_at}
use Rattle.slotted_proofs.proofs.Listed.{written_at}
use Rattle.slotted_proofs.proofs.list.ProofList.equ.Goals as goal

pub returns : goal.returns
returns c =
    let es = c.self.inside.entries.entries in
    let e = c.in-Some.equation.now in
    let at : slice_get es c.args.p ≡ Some (e, c.in-Some.field-0-1.now) =
    ap (slice_get es) (sym c.number.ensures) ∙ (sym c.get_index.ensures.entry ∙ ap (option_map deref_pair) c.in-Some.is) in
    subst (λ list. IsWritten (statement_at list c.args.p) e) c.self.view_is (written_at es c.args.p (e, c.in-Some.field-0-1.now) c.self.invariant.0 at)
