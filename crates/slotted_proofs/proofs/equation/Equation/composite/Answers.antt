use Rattle.std.proofs.Common.{◌≡◌, ℕ, List, IfOk, ap, ◌∙◌, sym, subst, ◌+◌, length, refl, inl, inr}
use Rattle.slotted_model.specs.Applied.{keys}
use Rattle.slotted_model.specs.Correspondence.{IsFullMap, IsPartialInjection, same_names, turned, composite}
use Rattle.slotted_proofs.specs.Equations.{IsWritten}
use Rattle.slotted_proofs.proofs.Bridges.{slots-once, own_full}
use Rattle.slotted_proofs.proofs.NumberedSides.{middle-partial, turned-middle}
use Rattle.slotted_proofs.proofs.Refusals.{memory_short, slots_left, too_many, few_many}
use Rattle.slotted_slots.specs.Table.{slot_limit}
use Rattle.std.proofs.lemmas.Result.{err_from_is_err_and, IfOk-from_err}
use Rattle.std.specs.Prelude.{Err}
use Rattle.slotted_lists.proofs.Maps.{length-keys}
use Rattle.slotted_proofs.proofs.equation.Equation.composite.Goals as goal

pub number_sides-requires-clause-left_once : goal.number_sides-requires-clause-left_once
number_sides-requires-clause-left_once c = slots-once (keys c.args.self.now.l.m) c.is_short.ensures.left_ascends

pub number_sides-requires-clause-right_once : goal.number_sides-requires-clause-right_once
number_sides-requires-clause-right_once c = slots-once (keys c.args.other.now.r.m) c.is_short.ensures.right_ascends

pub number_sides-requires-clause-partners : goal.number_sides-requires-clause-partners
number_sides-requires-clause-partners c =
    let l = c.args.self.now.l.m in
    let k = c.args.self.now.r.m in
    let k' = c.args.other.now.l.m in
    let r = c.args.other.now.r.m in
    subst (IsPartialInjection (keys r) (keys l)) (sym c.in_ok-partners.ensures.ok)
    (middle-partial (keys l) (keys k') (keys r) l k k' r
    (own_full l c.is_short.ensures.left_ascends c.requires.left)
    (subst (λ K. IsFullMap K k) c.requires.meets.slots (own_full k c.len.ensures.ascending c.requires.middle))
    (own_full k' c.len-2.ensures.ascending c.requires.other_middle)
    (own_full r c.is_short.ensures.right_ascends c.requires.right))

pub returns-clause-ok : goal.returns-clause-ok
returns-clause-ok c =
    let l = c.args.self.now.l.m in
    let k = c.args.self.now.r.m in
    let k' = c.args.other.now.l.m in
    let r = c.args.other.now.r.m in
    let pairs : turned (keys l) c.in_ok-partners.partners ≡ composite (same_names l k) (same_names k' r) =
    ap (turned (keys l)) c.in_ok-partners.ensures.ok
    ∙ turned-middle (keys l) (keys k') (keys r) l k k' r
    (own_full l c.is_short.ensures.left_ascends c.requires.left)
    (subst (λ K. IsFullMap K k) c.requires.meets.slots (own_full k c.len.ensures.ascending c.requires.middle))
    (own_full k' c.len-2.ensures.ascending c.requires.other_middle)
    (own_full r c.is_short.ensures.right_ascends c.requires.right) in
    subst (λ (A : List (ℕ × ℕ)). IfOk c.number_sides.result (IsWritten (record { left_slots = keys l; right_slots = keys r; equation = record { left = c.args.self.now.l.id.0; right = c.args.other.now.r.id.0; pairs = A } }))) pairs
    c.number_sides.ensures.ok

pub shared_over-requires-clause-to : goal.shared_over-requires-clause-to
shared_over-requires-clause-to c = c.requires.other_middle

pub shared_over-requires-clause-last : goal.shared_over-requires-clause-last
shared_over-requires-clause-last c = c.requires.left

pub returns-clause-full : goal.returns-clause-full
returns-clause-full c = (λ e. absurd (slots_left c.number_sides.result c.number_sides.ensures.err e), λ many. absurd (few_many (length c.args.self.now.l.m + length c.args.other.now.r.m) slot_limit (c.is_short.ensures.short.0 c.if-not-is_short.false) many))

pub returns-clause-err : goal.returns-clause-err
returns-clause-err c = memory_short c.number_sides.result c.number_sides.ensures.err

pub number_sides-requires-clause-few : goal.number_sides-requires-clause-few
number_sides-requires-clause-few c = c.is_short.ensures.short.0 c.if-not-is_short.false

pub returns-then-not-is_short-clause-full : goal.returns-then-not-is_short-clause-full
returns-then-not-is_short-clause-full c = (λ _. too_many c.is_short.result (length c.args.self.now.l.m + length c.args.other.now.r.m) slot_limit c.is_short.ensures.short.1 c.if-not-is_short.true, λ _. refl)

pub returns-in_err-partners-clause-full : goal.returns-in_err-partners-clause-full
returns-in_err-partners-clause-full c =
    let r = err_from_is_err_and c.from_residual.result c.from_residual.ensures.1 in
    rw (r.1, r.2) (
      λ e. absurd (slots_left (Err c.in_err-partners.field-0.0) c.in_err-partners.ensures.err e),
      λ many. absurd (few_many (length c.args.self.now.l.m + length c.args.other.now.r.m) slot_limit (c.is_short.ensures.short.0 c.if-not-is_short.false) many),
    )

pub prove_eq-unreachable-requires : goal.prove_eq-unreachable-requires
prove_eq-unreachable-requires c =
    let k = c.args.self.now.r.m in
    let k' = c.args.other.now.l.m in
    c.if-prove_eq.true (c.len.ensures.len ∙ (sym (length-keys k) ∙ (ap length c.requires.meets.slots ∙ (length-keys k' ∙ sym c.len-2.ensures.len))))

pub returns-in_err-partners-clause-ok : goal.returns-in_err-partners-clause-ok
returns-in_err-partners-clause-ok c = IfOk-from_err c.from_residual.result _ c.from_residual.ensures.0

pub returns-in_err-partners-clause-err : goal.returns-in_err-partners-clause-err
returns-in_err-partners-clause-err c =
    let r = err_from_is_err_and c.from_residual.result c.from_residual.ensures.1 in
    rw (r.1, r.2) (inl c.in_err-partners.ensures.err)

pub returns-then-not-is_short-clause-err : goal.returns-then-not-is_short-clause-err
returns-then-not-is_short-clause-err c = inr refl
