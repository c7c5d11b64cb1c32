use Rattle.std.proofs.Common.{◌∙◌, ap, length, nat_eq, subst, sym}
use Rattle.std.specs.Prelude.{All, not, slice_index_or}
use Rattle.slotted_slots.specs.Table.{AllKnown}
use Rattle.slotted_data.specs.Edits.{IsValidEdit}
use Rattle.slotted_data.proofs.ValidEdits.{edit-valid}
use Rattle.slotted_proofs.specs.Equations.{to_applied}
use Rattle.slotted_operations.specs.Reports.{names_slots}
use Rattle.slotted_graph.specs.Asked.{IsAskedIn}
use Rattle.slotted_graph.specs.Edited.{MakesEdits}
use Rattle.slotted_graph.specs.Rounds.{modified}
use Rattle.slotted_graph.proofs.edits.modify_live.Goals as goal

pub make_edits-requires-clause-edits : goal.make_edits-requires-clause-edits
make_edits-requires-clause-edits g c =
    let table = c.args.graph.now.table in
    let xs = c.as_slice.result.now in
    let known : AllKnown table xs = subst (AllKnown table) (sym c.as_slice.ensures.elements) c.in_ok-slots.ensures.known in
    subst (All (IsValidEdit table)) (sym c.deref.ensures.value) (λ k d lt. edit-valid table xs known _ (c.in_ok-edits.ensures.over k d lt))

pub returns-clause-ok : goal.returns-clause-ok
returns-clause-ok g c =
    let codes = g.N.Analysis.codes in
    let meaning = g.N.Analysis.meaning in
    let ask = g.N.Analysis.may_ask in
    let old = c.args.graph.now in
    let id = c.args.id.0 in
    let es = c.in_ok-edits.edits.items in
    let slots = c.as_slice.ensures.elements ∙ c.in_ok-slots.ensures.ok in
    let asked : All (IsAskedIn codes ask old id) es =
    λ k d lt. record {
      analysis = c.analysis.result.now;
      datum = c.analysis_data.result.now;
      keeps = c.analysis.ensures;
      has = c.analysis_data.ensures.value;
      asked = subst (λ xs. ask c.analysis.result.now c.analysis_data.result.now xs (slice_index_or es k d)) slots (c.in_ok-edits.ensures.ok k d lt);
    } in
    let made : MakesEdits codes meaning old (names_slots old.image id) es c.make_edits.new.graph =
    subst (λ a. MakesEdits codes meaning old a es c.make_edits.new.graph) c.in_ok-class.ensures.ok
    (subst (λ xs. MakesEdits codes meaning old (to_applied c.in_ok-class.class) xs c.make_edits.new.graph) c.deref.ensures.value c.in_ok-make_edits.ensures.ok) in
    modified c.requires.graph c.requires.lives es asked made (ap not (c.is_empty.ensures ∙ ap (λ n. nat_eq n 0) (sym c.deref.ensures.len ∙ ap length c.deref.ensures.value)))
