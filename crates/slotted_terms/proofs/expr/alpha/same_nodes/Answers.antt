use Rattle.std.proofs.Common.{◌≡◌, ◌≤◌, length, sym, ◌∙◌, arith, inl, inr, rules}
use Rattle.std.specs.Prelude.{◌⊎◌}
use Rattle.std.proofs.lemmas.Bool.{false≢true}
use Rattle.slotted_slots.specs.Table.{slot_limit}
use Rattle.slotted_outlines.specs.Seen.{lefts, place_count, rights}
use Rattle.slotted_terms.proofs.Alike.{alike, term_same}
use Rattle.slotted_terms.proofs.LargeNodes.{place_count-places}
use Rattle.slotted_terms.proofs.expr.alpha.same_nodes.Goals as goal

pub returns-then-term_count-clause-none : goal.returns-then-term_count-clause-none
returns-then-term_count-clause-none g c same =
    let n = alike _ _ (g.L.LanguageChildren.form c.args.one.now) (g.L.LanguageChildren.form c.args.two.now) c.args.ones.now c.args.twos.now c.term_count.ensures.terms c.term_count-2.ensures.terms same in
    absurd (omega (arith, n.1, c.if-term_count.true, c.term_count.ensures.count, c.term_count-2.ensures.count))

pub returns-in_err-nodes-clause-slots : goal.returns-in_err-nodes-clause-slots
returns-in_err-nodes-clause-slots g c h =
    let a = g.L.LanguageChildren.form c.args.one.now in
    let b = g.L.LanguageChildren.form c.args.two.now in
    let k : (slot_limit ≤ place_count a) ⊎ (slot_limit ≤ place_count b) = search rules in
    elim k [
      | inl l ↦ inl (inl (omega (arith, l, place_count-places a c.args.ones.now)))
      | inr l ↦ inr (inl (omega (arith, l, place_count-places b c.args.twos.now)))
    ]

pub returns-in_default-clause-none : goal.returns-in_default-clause-none
returns-in_default-clause-none g c same =
    let none = rw c.in_default.is at c.in_ok-nodes.ensures.none in
    none (alike _ _ (g.L.LanguageChildren.form c.args.one.now) (g.L.LanguageChildren.form c.args.two.now) c.args.ones.now c.args.twos.now c.term_count.ensures.terms c.term_count-2.ensures.terms same).0

pub returns-then-not-branch-clause-none : goal.returns-then-not-branch-clause-none
returns-then-not-branch-clause-none g c same =
    let a = g.L.LanguageChildren.form c.args.one.now in
    let b = g.L.LanguageChildren.form c.args.two.now in
    let ps = c.args.binders.now.items in
    let o = rw c.in-Some.is at c.in_ok-nodes.ensures.outlines in
    let m = rw c.in-Some.is at c.in_ok-nodes.ensures.matched in
    let n : length c.args.ones.now ≡ length c.args.twos.now = omega (arith, c.if-term_count.false, c.term_count.ensures.count, c.term_count-2.ensures.count) in
    let both = term_same a b _ _ _ (lefts ps) (rights ps) c.args.ones.now c.args.twos.now o m n in
    absurd (false≢true (sym c.if-not-branch.true ∙ c.in_ok-same_owns.ensures.same.1 (both.0 same).0))

pub returns-clause-some : goal.returns-clause-some
returns-clause-some g c =
    let a = g.L.LanguageChildren.form c.args.one.now in
    let b = g.L.LanguageChildren.form c.args.two.now in
    let ps = c.args.binders.now.items in
    let o = rw c.in-Some.is at c.in_ok-nodes.ensures.outlines in
    let m = rw c.in-Some.is at c.in_ok-nodes.ensures.matched in
    let n : length c.args.ones.now ≡ length c.args.twos.now = omega (arith, c.if-term_count.false, c.term_count.ensures.count, c.term_count-2.ensures.count) in
    let both = term_same a b _ _ _ (lefts ps) (rights ps) c.args.ones.now c.args.twos.now o m n in
    let owns = c.in_ok-same_owns.ensures.same.0 c.if-not-branch.false in
    record { matched = m; count = n; children = (λ h. (both.0 h).1, λ h. both.1 (owns, h)) }
