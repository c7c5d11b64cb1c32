use Rattle.std.proofs.Common.{◌<◌, ◌+◌, length, sym, subst, ◌∙◌, arith, rules, inl, inr}
use Rattle.std.specs.Prelude.{◌⊎◌, IsSome}
use Rattle.std.proofs.lemmas.Bool.{false≢true}
use Rattle.slotted_terms.specs.LargeNodes.{HasLargeNode}
use Rattle.slotted_terms.proofs.LargeNodes.{large_at}
use Rattle.slotted_changes.proofs.Differences.{IsFound, found-again, found-first, found-same, same-at}
use Rattle.slotted_changes.proofs.differing.only_difference.Goals as goal
use Rattle.slotted_changes.proofs.differing.only_difference.Goals.{then-not-branch+else-is_some, else-not-branch}

pub returns-in_err-alpha_eq-clause-slots : goal.returns-in_err-alpha_eq-clause-slots
returns-in_err-alpha_eq-clause-slots g c e =
    let within : c.loop-k.k < length c.args.ones.now = omega (arith, c.loop-k-test.true) in
    let inside : c.loop-k.k < length c.args.twos.now = omega (arith, within, c.requires) in
    let large : HasLargeNode c.index-ones-k.result ⊎ HasLargeNode c.index-twos-k.result = c.in_err-alpha_eq.ensures.slots (search rules) in
    elim large [
      | inl l ↦ inl (large_at c.args.ones.now c.loop-k.k c.index-ones-k.result within c.index-ones-k.is l)
      | inr r ↦ inr (large_at c.args.twos.now c.loop-k.k c.index-twos-k.result inside c.index-twos-k.is r)
    ]

pub returns-then-is_some-clause-none : goal.returns-then-is_some-clause-none
returns-then-is_some-clause-none g c =
    let ts = c.args.ones.now in
    let us = c.args.twos.now in
    let k = c.loop-k.k in
    let within : k < length ts = omega (arith, c.loop-k-test.true) in
    let inside : k < length us = omega (arith, within, c.requires) in
    let same = same-at ts us k c.index-ones-k.result c.index-twos-k.result within inside c.index-ones-k.is c.index-twos-k.is in
    let some : IsSome c.loop-k.found = search rules in
    found-again ts us k c.loop-k.found within some c.loop-k.invariant (λ h. absurd (false≢true (sym c.if-not-branch.true ∙ c.in_ok-alpha_eq.ensures.same.1 (same.0 h))))

pub loop-k-preserved : goal.loop-k-preserved
loop-k-preserved g c =
    let ts = c.args.ones.now in
    let us = c.args.twos.now in
    let k = c.loop-k.k in
    let within : k < length ts = omega (arith, c.loop-k-test.true) in
    let inside : k < length us = omega (arith, within, c.requires) in
    let same = same-at ts us k c.index-ones-k.result c.index-twos-k.result within inside c.index-ones-k.is c.index-twos-k.is in
    elim c.if-not-branch.branch [
      | then-not-branch+else-is_some w ↦
          let none : ¬ IsSome c.loop-k.found = λ s. absurd (false≢true (sym w.if-is_some.false ∙ (w.is_some.ensures ∙ s))) in
          subst (IsFound ts us (k + 1)) (sym w.found-is) (found-first ts us k c.loop-k.found none c.loop-k.invariant (λ h. absurd (false≢true (sym w.if-not-branch.true ∙ c.in_ok-alpha_eq.ensures.same.1 (same.0 h)))))
      | else-not-branch w ↦
          subst (IsFound ts us (k + 1)) (sym w.found-is) (found-same ts us k c.loop-k.found c.loop-k.invariant (same.1 (c.in_ok-alpha_eq.ensures.same.0 w.if-not-branch.false)))
    ]
