-- Sources in order, and the row of each.
use Rattle.std.proofs.Common.{map, sym, subst}
use Rattle.std.specs.Prelude.{All}
use Rattle.std.specs.List.Sorted.{IsPermutation}
use Rattle.std.proofs.lemmas.List.Sorted.{All-permutation, IsPermutation-map}
use Rattle.slotted_hashcons.specs.FiledRows.{IsFiled}
use Rattle.slotted_match_machine.specs.Index.{OneByOne}
use Rattle.slotted_matching.specs.Indexed.{IsSourceRow}
use Rattle.slotted_matching.proofs.index.ordered_rows.Goals as goal

pub rows_of_sources-requires-clause-filed : goal.rows_of_sources-requires-clause-filed
rows_of_sources-requires-clause-filed g c =
    let v = c.args.nodes.now.filed in
    let before = c.in_ok-keyed.keyed.items in
    let all = subst (All (IsFiled v)) (sym c.in_ok-keyed.ensures.ok) c.requires.filed in
    let ordered = All-permutation (IsFiled v) (map (λ p. p.1) before) (map (λ p. p.1) c.sort.new.self.items) (IsPermutation-map (λ p. p.1) _ _ c.in_ok-sort.ensures.permutation) all in
    subst (λ ps. All (IsFiled v) (map (λ p. p.1) ps)) (sym c.deref.ensures.value) ordered

pub returns-clause-rows : goal.returns-clause-rows
returns-clause-rows g c =
    let k = c.args.store.now in
    let r = c.args.nodes.now in
    let S = c.rows_of_sources.new.skeletons in
    record {
      order = map (λ p. p.1) c.sort.new.self.items;
      same = subst (λ xs. IsPermutation xs (map (λ p. p.1) c.sort.new.self.items)) c.in_ok-keyed.ensures.ok (IsPermutation-map (λ p. p.1) _ _ c.in_ok-sort.ensures.permutation);
      each = subst (λ ps. OneByOne (IsSourceRow k r S) (map (λ p. p.1) ps) c.in_ok-rows.rows.items) c.deref.ensures.value c.in_ok-rows.ensures.rows;
    }
