use Rattle.std.proofs.Common.{◌≤◌, ◌∙◌, length, arith}
use Rattle.std.proofs.lemmas.Grind.{common_steps}
use Rattle.std.proofs.lemmas.List.{take_all}
use Rattle.slotted_languages.proofs.places.all_names.Goals as goal

pub loop-i-preserved : goal.loop-i-preserved
loop-i-preserved g c = grind (arith, common_steps)

pub slot-requires : goal.slot-requires
slot-requires g c = omega (arith, c.loop-i-test.true, c.slot_count-i-end.ensures)

pub returns-clause-ok : goal.returns-clause-ok
returns-clause-ok g c =
    let xs = (g.L.LanguageChildren.form c.args.node.now).names in
    let le : length xs ≤ c.loop-i.i = omega (arith, c.loop-i-test.false, c.slot_count-i-end.ensures, c.requires.small) in
    c.loop-i.invariant ∙ take_all c.loop-i.i xs le
