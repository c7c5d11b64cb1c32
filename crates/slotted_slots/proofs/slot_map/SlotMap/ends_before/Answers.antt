-- The last key is the greatest.
use Rattle.std.proofs.Common.{◌≡◌, ◌∙◌, ◌-◌, ◌<◌, ap, sym, subst, length, Some, None, inl, inr, arith}
use Rattle.std.specs.Prelude.{slice_get}
use Rattle.std.specs.Option.{option_copied}
use Rattle.std.proofs.lemmas.Bool.{cases_lt, false≢true, le-ltb}
use Rattle.slotted_slots.specs.Maps.{IsGapFor}
use Rattle.slotted_slots.proofs.MapLemmas.{gap-past, gap-empty}
use Rattle.slotted_slots.proofs.slot_map.SlotMap.ends_before.Goals as goal

pub returns-in-Some : goal.returns-in-Some
returns-in-Some c less =
    let m = c.self.inside.pairs.items in
    let p = c.in-Some.last.now in
    let at : slice_get m (length m - 1) ≡ Some p = subst (λ xs. slice_get xs (length xs - 1) ≡ Some p) c.deref.ensures.value (sym c.last.ensures.value ∙ ap option_copied c.in-Some.is) in
    let a = c.raw.result in
    let b = c.raw-in-Some.result in
    let rises : a < b = elim (cases_lt a b) [ inl l ↦ l | inr le ↦ absurd (false≢true (sym (le-ltb a b le) ∙ less)) ] in
    let below : p.0 < c.args.k = omega (arith, rises, c.raw.ensures, c.raw-in-Some.ensures) in
    subst (λ xs. IsGapFor xs c.args.k (length xs)) c.self.view_is (gap-past m c.args.k p at below c.self.invariant)

pub returns-in-None : goal.returns-in-None
returns-in-None c less =
    let m = c.self.inside.pairs.items in
    let at : slice_get m (length m - 1) ≡ None = subst (λ xs. slice_get xs (length xs - 1) ≡ None) c.deref.ensures.value (sym c.last.ensures.value ∙ ap option_copied c.in-None.is) in
    subst (λ xs. IsGapFor xs c.args.k (length xs)) c.self.view_is (gap-empty m c.args.k at)
