use Rattle.std.proofs.Common.{List, [], sym, subst, inr}
use Rattle.std.specs.Prelude.{slice_index_or}
use Rattle.std.proofs.lemmas.List.Elements.{Contains-get_or}
use Rattle.slotted_model_rules.specs.Conditions.{Values}
use Rattle.slotted_graph.specs.Matching.{AreValidValues}
use Rattle.slotted_rules.proofs.Carrying.{carries-itself}
use Rattle.slotted_rules.proofs.written.apply_answer.Goals as goal

pub apply_to-requires-clause-valid : goal.apply_to-requires-clause-valid
apply_to-requires-clause-valid g c =
    let found : List Values = c.args.found.now in
    subst (AreValidValues c.args.graph.now) (sym c.in_ok-subst.ensures.ok) (c.requires.found.valid (slice_index_or found c.args.answer []) (Contains-get_or found c.args.answer [] c.requires.answer))

pub apply_to-requires-clause-whole : goal.apply_to-requires-clause-whole
apply_to-requires-clause-whole g c =
    let found : List Values = c.args.found.now in
    c.requires.found.whole (slice_index_or found c.args.answer []) (Contains-get_or found c.args.answer [] c.requires.answer)

pub returns-in_err-subst-clause-carries : goal.returns-in_err-subst-clause-carries
returns-in_err-subst-clause-carries g c = inr (carries-itself g.N.Analysis.codes g.N.Analysis.meaning g.met.N.Analysis.is_merge c.args.graph.now)
