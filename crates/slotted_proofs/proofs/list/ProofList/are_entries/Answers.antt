use Rattle.std.proofs.Common.{◌≡◌, ◌<◌, ◌+◌, ◌∙◌, ℕ, List, length, slice_index_or, sym, subst, arith, inl, inr, refl}
use Rattle.std.proofs.lemmas.Bool.{cases_eq, false≢true}
use Rattle.std.proofs.lemmas.List.{get_or_default}
use Rattle.slotted_proofs.specs.declared.equation.Equation.{Equation as Sides}
use Rattle.slotted_proofs.specs.Equations.{to_applied}
use Rattle.slotted_proofs.specs.Entries.{Proven}
use Rattle.slotted_proofs.specs.Steps.{IsEntry, HasInjectiveSides}
use Rattle.std.proofs.lemmas.List.Elements.{All-get_or}
use Rattle.std.proofs.lemmas.Result.{err_from_is_err_and, IfOk-from_err}
use Rattle.slotted_proofs.proofs.list.ProofList.are_entries.Goals as goal

-- one more part matches
one_more : (list : List Proven) (ps : List ℕ) (cs : List Sides) (i p : ℕ) (c : Sides) → i < length ps → i < length cs → p ≡ slice_index_or ps i p → c ≡ slice_index_or cs i c → IsEntry list p (to_applied c.l) (to_applied c.r) →
    ((j n : ℕ) (d : Sides) → j < i → IsEntry list (slice_index_or ps j n) (to_applied (slice_index_or cs j d).l) (to_applied (slice_index_or cs j d).r)) →
    (j n : ℕ) (d : Sides) → j < i + 1 → IsEntry list (slice_index_or ps j n) (to_applied (slice_index_or cs j d).l) (to_applied (slice_index_or cs j d).r)
one_more list ps cs i p c a b e f h all j n d l = elim (cases_eq j i) [
  | inl q ↦
      let x : p ≡ slice_index_or ps j n = e ∙ (get_or_default ps i p n a ∙ (λ t. slice_index_or ps (sym q t) n)) in
      let y : c ≡ slice_index_or cs j d = f ∙ (get_or_default cs i c d b ∙ (λ t. slice_index_or cs (sym q t) d)) in
      subst (λ (z : Sides). IsEntry list (slice_index_or ps j n) (to_applied z.l) (to_applied z.r)) y (subst (λ z. IsEntry list z (to_applied c.l) (to_applied c.r)) x h)
  | inr q ↦ all j n d (omega (arith, l, q))
]

pub loop-k-preserved : goal.loop-k-preserved
loop-k-preserved c =
    one_more c.args.self.now c.args.parts.now c.args.children.now c.loop-k.k c.index-parts-k.result c.index-children-k.result (omega (arith, c.loop-k-test.true)) (omega (arith, c.loop-k-test.true, c.if-parts-children.false)) c.index-parts-k.is c.index-children-k.is
    (c.in_ok-is_entry.ensures.ok.0 c.if-not-branch.false) c.loop-k.invariant

pub returns-then-parts-children-clause-ok : goal.returns-then-parts-children-clause-ok
returns-then-parts-children-clause-ok c = (λ y. absurd (false≢true y), λ h. absurd (c.if-parts-children.true h.count))

pub is_entry-requires-clause-left : goal.is_entry-requires-clause-left
is_entry-requires-clause-left c =
    let k : c.loop-k.k < length c.args.children.now = omega (arith, c.loop-k-test.true, c.if-parts-children.false) in
    (subst HasInjectiveSides (sym c.index-children-k.is) (All-get_or HasInjectiveSides c.args.children.now c.loop-k.k c.index-children-k.result k c.requires)).left

pub is_entry-requires-clause-right : goal.is_entry-requires-clause-right
is_entry-requires-clause-right c =
    let k : c.loop-k.k < length c.args.children.now = omega (arith, c.loop-k-test.true, c.if-parts-children.false) in
    (subst HasInjectiveSides (sym c.index-children-k.is) (All-get_or HasInjectiveSides c.args.children.now c.loop-k.k c.index-children-k.result k c.requires)).right

pub returns-in_err-is_entry-clause-ok : goal.returns-in_err-is_entry-clause-ok
returns-in_err-is_entry-clause-ok c = IfOk-from_err c.from_residual.result _ c.from_residual.ensures.0

pub returns-in_err-is_entry-clause-err : goal.returns-in_err-is_entry-clause-err
returns-in_err-is_entry-clause-err c =
    let r = err_from_is_err_and c.from_residual.result c.from_residual.ensures.1 in
    rw (r.1, r.2) c.in_err-is_entry.ensures.err

pub returns-then-not-branch-clause-ok : goal.returns-then-not-branch-clause-ok
returns-then-not-branch-clause-ok c =
    let list = c.args.self.now in
    let ps = c.args.parts.now in
    let cs = c.args.children.now in
    let k = c.loop-k.k in
    let p = c.index-parts-k.result in
    let d = c.index-children-k.result in (
      λ y. absurd (false≢true y),
      λ h. absurd (false≢true (sym c.if-not-branch.true ∙ c.in_ok-is_entry.ensures.ok.1
          (subst (λ (z : Sides). IsEntry list p (to_applied z.l) (to_applied z.r)) (sym c.index-children-k.is)
          (subst (λ z. IsEntry list z (to_applied (slice_index_or cs k d).l) (to_applied (slice_index_or cs k d).r)) (sym c.index-parts-k.is)
          (h.each k p d (omega (arith, c.loop-k-test.true))))))),
    )

pub returns-clause-ok : goal.returns-clause-ok
returns-clause-ok c = (
  λ _. record { count = c.if-parts-children.false; each = λ k n d l. c.loop-k.invariant k n d (omega (arith, l, c.loop-k-test.false)) },
  λ _. refl,
)
