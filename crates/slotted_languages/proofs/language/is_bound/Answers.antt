use Rattle.std.proofs.Common.{◌≡◌, ◌≤◌, ◌∙◌, length, ap, sym, arith}
use Rattle.std.specs.Prelude.{is_some, slice_index}
use Rattle.std.proofs.lemmas.Bool.{eq-eqb, false≢true}
use Rattle.slotted_nodes.specs.Form.{scope_end_of, scopes}
use Rattle.slotted_languages.specs.Children.{IsBinder}
use Rattle.slotted_languages.proofs.BelowNext.{below_next, counted_some}
use Rattle.slotted_languages.proofs.language.is_bound.Goals as goal
use Rattle.slotted_languages.proofs.language.is_bound.Goals.{else-is_some-via-then-is_some+else-eq, else-is_some-via-else-is_some}

pub scope_end-requires : goal.scope_end-requires
scope_end-requires g c = omega (arith, c.loop-j-test.true, c.slot_count-j-end.ensures)

pub slot-requires : goal.slot-requires
slot-requires g c = omega (arith, c.loop-j-test.true, c.slot_count-j-end.ensures)

pub returns : goal.returns
returns g c =
    let le : length (g.L.LanguageChildren.form c.args.node.now).names ≤ c.loop-j.j = omega (arith, c.loop-j-test.false, c.slot_count-j-end.ensures, c.requires.small) in
    ((λ h. absurd (false≢true h)), λ b. absurd (c.loop-j.invariant b.place (omega (arith, b.within, le)) b.binder b.named))

pub loop-j-preserved : goal.loop-j-preserved
loop-j-preserved g c =
    let f = (g.L.LanguageChildren.form c.args.node.now) in
    below_next (λ j. IsBinder f j → slice_index f.names j ≡ c.args.name → ⊥) c.loop-j.j c.loop-j.invariant
    (λ binder named. elim c.else-is_some.branch [
      | else-is_some-via-then-is_some+else-eq w ↦ false≢true (sym w.if-eq.false ∙ (w.eq.ensures ∙ eq-eqb w.slot.result c.args.name (w.slot.ensures ∙ named)))
      | else-is_some-via-else-is_some w ↦ false≢true (sym w.if-is_some.false ∙ (c.is_some.ensures ∙ (ap is_some c.scope_end.ensures ∙ (counted_some (scope_end_of (scopes f.tree) c.loop-j.j) ∙ binder))))
    ])
