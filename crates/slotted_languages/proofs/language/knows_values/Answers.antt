use Rattle.std.proofs.Common.{◌≡◌, ◌∙◌, length, take, arith, rules, ap, sym, subst, refl}
use Rattle.std.specs.Prelude.{IsSome}
use Rattle.std.proofs.Math.Seq.{take-length}
use Rattle.std.proofs.lemmas.List.{length-map}
use Rattle.std.proofs.lemmas.List.Elements.{All-more}
use Rattle.slotted_slots.specs.Maps.{KnowsAll, value_of, values}
use Rattle.slotted_languages.proofs.AmongNames.{get_at}
use Rattle.slotted_languages.proofs.language.knows_values.Goals as goal

pub loop-i-preserved : goal.loop-i-preserved
loop-i-preserved c =
    let xs = values c.args.other.now in
    let m = c.args.m.now in
    let at = get_at xs c.loop-i.i c.value_at.result 0 c.value_at.ensures in
    let here : IsSome (value_of m c.value_at.result) = search rules in
    All-more (λ x. IsSome (value_of m x)) xs c.loop-i.i 0 at.0 c.loop-i.invariant (subst (λ x. IsSome (value_of m x)) (sym at.1) here)

pub returns : goal.returns
returns c =
    let xs = values c.args.other.now in
    let e : c.loop-i.i ≡ length xs = omega (arith, c.loop-i-test.false, c.loop-i.auto.i-end, c.len-i-end.ensures.len, length-map c.args.other.now (λ p. p.1)) in
    (λ _. subst (KnowsAll c.args.m.now) (ap (λ n. take n xs) e ∙ take-length xs) c.loop-i.invariant, λ _. refl)
