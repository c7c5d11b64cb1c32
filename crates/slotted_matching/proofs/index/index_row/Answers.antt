use Rattle.std.proofs.Common.{◌∙◌, ℕ, List, ap, sym, subst}
use Rattle.std.specs.Prelude.{option_map}
use Rattle.slotted_nodes.specs.Form.{Form}
use Rattle.slotted_model.specs.Applied.{Applied}
use Rattle.slotted_matching.specs.KeyRows.{IsKeyRow}
use Rattle.slotted_matching.proofs.CoveredKeys.{covered-key}
use Rattle.slotted_matching.proofs.IndexedKeys.{source-row}
use Rattle.slotted_matching.proofs.index.index_row.Goals as goal

pub key_row-requires-clause-covered : goal.key_row-requires-clause-covered
key_row-requires-clause-covered g c =
    let form = g.L.LanguageChildren.form in
    let f : Form = form c.in-Some.key.now in
    let at = sym (ap (option_map (λ p. (form p.0.now, p.1.now))) (sym c.in-Some.is) ∙ c.node.ensures) in
    covered-key f (c.requires.good.keyed c.args.source (f, c.in-Some.names.now) at).itself

pub returns-clause-row : goal.returns-clause-row
returns-clause-row g c =
    let form = g.L.LanguageChildren.form in
    let f : Form = form c.in-Some.key.now in
    let m : List (ℕ × ℕ) = c.in-Some.names.now in
    let at = sym (ap (option_map (λ p. (form p.0.now, p.1.now))) (sym c.in-Some.is) ∙ c.node.ensures) in
    let row = c.in_ok-row-in-Some.row in
    let is = subst (λ F. IsKeyRow f m F row) (ap (λ (a : Applied). a.1) c.in_ok-found-in-Some.ensures.ok) c.in_ok-row-in-Some.ensures.row in
    source-row c.args.store.now c.args.nodes.now c.requires.good c.args.source f m at row is c.key_row.new.skeletons c.in_ok-row-in-Some.ensures.place
