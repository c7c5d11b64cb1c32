use Rattle.std.proofs.Common.{◌≡◌, ◌<◌, ◌≤◌, ◌∙◌, length, Some, sym, ap, arith, rules}
use Rattle.std.proofs.lemmas.Bool.{eq-eqb, false≢true}
use Rattle.std.proofs.lemmas.List.{take_all}
use Rattle.slotted_slots.specs.Maps.{is_among}
use Rattle.slotted_languages.proofs.AmongNames.{not_among-more}
use Rattle.slotted_languages.proofs.BelowNext.{stands_there}
use Rattle.slotted_languages.proofs.Renamings.{among_index}
use Rattle.slotted_languages.proofs.renaming.has_name.Goals as goal

pub slot-requires : goal.slot-requires
slot-requires g c = omega (arith, c.loop-i-test.true, c.slot_count-i-end.ensures)

pub returns-then-eq : goal.returns-then-eq
returns-then-eq g c =
    let xs = (g.L.LanguageChildren.form c.args.node.now).names in
    let lt : c.loop-i.i < length xs = omega (arith, c.loop-i-test.true, c.slot_count-i-end.ensures) in
    let e : c.slot.result ≡ c.args.name = search rules in
    sym (ap (λ x. is_among x xs) (sym e ∙ c.slot.ensures) ∙ among_index xs c.loop-i.i lt)

pub returns : goal.returns
returns g c =
    let xs = (g.L.LanguageChildren.form c.args.node.now).names in
    let le : length xs ≤ c.loop-i.i = omega (arith, c.loop-i-test.false, c.slot_count-i-end.ensures, c.requires.small) in
    sym (ap (is_among c.args.name) (sym (take_all c.loop-i.i xs le)) ∙ c.loop-i.invariant)

pub loop-i-preserved : goal.loop-i-preserved
loop-i-preserved g c =
    let xs = (g.L.LanguageChildren.form c.args.node.now).names in
    let lt : c.loop-i.i < length xs = omega (arith, c.loop-i-test.true, c.slot_count-i-end.ensures) in
    not_among-more xs c.loop-i.i c.args.name c.slot.result c.loop-i.invariant (stands_there xs c.loop-i.i lt ∙ ap Some (sym c.slot.ensures))
    (λ e. false≢true (sym c.if-eq.false ∙ (c.eq.ensures ∙ eq-eqb c.slot.result c.args.name e)))
