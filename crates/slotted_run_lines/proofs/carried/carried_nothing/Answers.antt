use Rattle.std.proofs.Common.{◌≡◌, sym, subst}
use Rattle.slotted_model.specs.Rest.{AtRest}
use Rattle.slotted_model.proofs.Rebuilding.Asserting.{nothing-rests}
use Rattle.slotted_classes.specs.Kept.{Kept, nothing}
use Rattle.slotted_hashcons.specs.FiledRows.{Rows, no_rows}
use Rattle.slotted_hashcons.specs.WellFiled.{state_in}
use Rattle.slotted_data.specs.Meaning.{by_bare_nodes}
use Rattle.slotted_data.specs.Held.{Held, no_values}
use Rattle.slotted_data.specs.Carrying.{DataRests, RestedBefore}
use Rattle.slotted_data.proofs.Resting.{nothing-rests-data, rested-itself}
use Rattle.slotted_const_fold.specs.declared.const_fold.Fold.{Fold}
use Rattle.slotted_const_fold.specs.ConstFold.{fold}
use Rattle.slotted_run_lines.proofs.carried.carried_nothing.Goals as goal

pub carry-requires-clause-rests : goal.carry-requires-clause-rests
carry-requires-clause-rests c =
    subst (λ (k : Kept). AtRest (state_in k c.new-nodes.result)) (sym c.new-store.ensures)
    (subst (λ (r : Rows). AtRest (state_in nothing r)) (sym c.new-nodes.ensures) nothing-rests)

before : (k : Kept) (r : Rows) (d : Held Fold) → k ≡ nothing → r ≡ no_rows → d ≡ no_values → RestedBefore (by_bare_nodes fold) nothing no_rows k r d
before k r d store nodes none =
    subst (λ (z : Kept). RestedBefore (by_bare_nodes fold) nothing no_rows z r d) (sym store)
    (subst (λ (z : Rows). RestedBefore (by_bare_nodes fold) nothing no_rows nothing z d) (sym nodes)
    (subst (RestedBefore (by_bare_nodes fold) nothing no_rows nothing no_rows) (sym none)
    (rested-itself (by_bare_nodes fold) nothing no_rows no_values (nothing-rests-data (by_bare_nodes fold)))))

pub carry-requires-clause-since : goal.carry-requires-clause-since
carry-requires-clause-since c =
    (nothing, no_rows, before c.new-store.result c.new-nodes.result c.new-data.result c.new-store.ensures c.new-nodes.ensures c.new-data.ensures)

pub returns : goal.returns
returns c =
    let since = before c.new-store.result c.new-nodes.result c.new-data.result c.new-store.ensures c.new-nodes.ensures c.new-data.ensures in
    let rests = (c.in_ok-carry.ensures.carried nothing no_rows since).rests in
    subst (λ (r : Rows). DataRests (by_bare_nodes fold) nothing r c.carry.new.data) c.new-nodes.ensures
    (subst (λ (k : Kept). DataRests (by_bare_nodes fold) k c.new-nodes.result c.carry.new.data) c.new-store.ensures rests)
