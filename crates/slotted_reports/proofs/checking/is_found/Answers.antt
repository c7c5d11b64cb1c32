use Rattle.std.proofs.lemmas.Bool.{eq-eqb}
use Rattle.slotted_reports.proofs.checking.is_found.Goals as goal

pub returns-in-Some : goal.returns-in-Some
returns-in-Some g c =
    let form = g.L.LanguageChildren.form in
    eq-eqb c.in-Some.found c.args.source (c.in-Some.ensures.once c.in-Some.found c.args.source (form c.args.key.now) c.in-Some.ensures.some c.requires)

pub returns-in-None : goal.returns-in-None
returns-in-None g c = absurd (c.in-None.ensures.none c.args.source c.requires)
