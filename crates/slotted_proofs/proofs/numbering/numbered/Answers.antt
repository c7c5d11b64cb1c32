use Rattle.std.proofs.Common.{◌≡◌, ℕ, List, IfOk, ap, ◌∙◌, sym, subst, ◌+◌, length, refl, inl, inr}
use Rattle.slotted_model.specs.Applied.{keys}
use Rattle.slotted_model.specs.Correspondence.{IsPartialInjection, same_names, turned}
use Rattle.slotted_model.proofs.Correspondences.FullMaps.{same_names-partial, same_names-turned}
use Rattle.slotted_proofs.specs.Equations.{IsWritten}
use Rattle.slotted_proofs.proofs.Bridges.{slots-once, own_full}
use Rattle.slotted_proofs.proofs.Refusals.{memory_short, slots_left, too_many, few_many}
use Rattle.slotted_slots.specs.Table.{slot_limit}
use Rattle.std.proofs.lemmas.Result.{err_from_is_err_and, IfOk-from_err}
use Rattle.std.specs.Prelude.{Err}
use Rattle.slotted_proofs.proofs.numbering.numbered.Goals as goal

pub number_sides-requires-clause-left_once : goal.number_sides-requires-clause-left_once
number_sides-requires-clause-left_once c = slots-once (keys c.args.l.now.m) c.is_short.ensures.left_ascends

pub number_sides-requires-clause-right_once : goal.number_sides-requires-clause-right_once
number_sides-requires-clause-right_once c = slots-once (keys c.args.r.now.m) c.is_short.ensures.right_ascends

pub number_sides-requires-clause-partners : goal.number_sides-requires-clause-partners
number_sides-requires-clause-partners c =
    let l = c.args.l.now.m in
    let r = c.args.r.now.m in
    subst (IsPartialInjection (keys r) (keys l)) (sym c.in_ok-partners.ensures.ok)
    (same_names-partial (keys r) (keys l) r l (own_full r c.is_short.ensures.right_ascends c.requires.right) (own_full l c.is_short.ensures.left_ascends c.requires.left))

pub returns-clause-ok : goal.returns-clause-ok
returns-clause-ok c =
    let l = c.args.l.now.m in
    let r = c.args.r.now.m in
    let pairs : turned (keys l) c.in_ok-partners.partners ≡ same_names l r =
    ap (turned (keys l)) c.in_ok-partners.ensures.ok
    ∙ sym (same_names-turned (keys r) (keys l) r l (own_full r c.is_short.ensures.right_ascends c.requires.right) (own_full l c.is_short.ensures.left_ascends c.requires.left)) in
    subst (λ (A : List (ℕ × ℕ)). IfOk c.number_sides.result (IsWritten (record { left_slots = keys l; right_slots = keys r; equation = record { left = c.args.l.now.id.0; right = c.args.r.now.id.0; pairs = A } }))) pairs
    c.number_sides.ensures.ok

pub shared_names-requires : goal.shared_names-requires
shared_names-requires c = c.requires.left

pub returns-clause-full : goal.returns-clause-full
returns-clause-full c = (λ e. absurd (slots_left c.number_sides.result c.number_sides.ensures.err e), λ many. absurd (few_many (length c.args.l.now.m + length c.args.r.now.m) slot_limit (c.is_short.ensures.short.0 c.if-not-is_short.false) many))

pub returns-clause-err : goal.returns-clause-err
returns-clause-err c = memory_short c.number_sides.result c.number_sides.ensures.err

pub number_sides-requires-clause-few : goal.number_sides-requires-clause-few
number_sides-requires-clause-few c = c.is_short.ensures.short.0 c.if-not-is_short.false

pub returns-then-not-is_short-clause-full : goal.returns-then-not-is_short-clause-full
returns-then-not-is_short-clause-full c = (λ _. too_many c.is_short.result (length c.args.l.now.m + length c.args.r.now.m) slot_limit c.is_short.ensures.short.1 c.if-not-is_short.true, λ _. refl)

pub returns-in_err-partners-clause-full : goal.returns-in_err-partners-clause-full
returns-in_err-partners-clause-full c =
    let r = err_from_is_err_and c.from_residual.result c.from_residual.ensures.1 in
    rw (r.1, r.2) (
      λ e. absurd (slots_left (Err c.in_err-partners.field-0.0) c.in_err-partners.ensures.err e),
      λ many. absurd (few_many (length c.args.l.now.m + length c.args.r.now.m) slot_limit (c.is_short.ensures.short.0 c.if-not-is_short.false) many),
    )

pub returns-in_err-partners-clause-ok : goal.returns-in_err-partners-clause-ok
returns-in_err-partners-clause-ok c = IfOk-from_err c.from_residual.result _ c.from_residual.ensures.0

pub returns-in_err-partners-clause-err : goal.returns-in_err-partners-clause-err
returns-in_err-partners-clause-err c =
    let r = err_from_is_err_and c.from_residual.result c.from_residual.ensures.1 in
    rw (r.1, r.2) (inl c.in_err-partners.ensures.err)

pub returns-then-not-is_short-clause-err : goal.returns-then-not-is_short-clause-err
returns-then-not-is_short-clause-err c = inr refl
