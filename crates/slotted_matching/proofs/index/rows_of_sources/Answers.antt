use Rattle.std.proofs.Common.{◌<◌, length, map, sym, subst, arith}
use Rattle.std.proofs.lemmas.List.{get_or-map, length-map}
use Rattle.slotted_hashcons.specs.FiledRows.{IsFiled}
use Rattle.slotted_match_machine.specs.Index.{OneByOne}
use Rattle.slotted_matching.specs.Indexed.{IsSourceRow}
use Rattle.slotted_matching.proofs.SourceRows.{grows-then, rows-more}
use Rattle.slotted_matching.proofs.index.rows_of_sources.Goals as goal

pub index_row-requires-clause-filed : goal.index_row-requires-clause-filed
index_row-requires-clause-filed g c =
    let ps = c.args.sources.now in
    let i = c.loop-i.i in
    let d = c.index-sources-i.result in
    let h : i < length (map (λ p. p.1) ps) = omega (arith, c.loop-i-test.true, length-map ps (λ p. p.1)) in
    subst (IsFiled c.args.nodes.now.filed) (get_or-map (λ p. p.1) ps i d d.1 (omega (arith, c.loop-i-test.true))) (c.requires.filed i d.1 h)

pub loop-i-preserved : goal.loop-i-preserved
loop-i-preserved g c =
    let k = c.args.store.now in
    let r = c.args.nodes.now in
    let ps = c.args.sources.now in
    let os = map (λ p. p.1) ps in
    let i = c.loop-i.i in
    let d = c.index-sources-i.result in
    let h : i < length os = omega (arith, c.loop-i-test.true, length-map ps (λ p. p.1)) in
    let row = c.in_ok-row.row in
    let T = c.index_row.new.skeletons in
    let is = subst (λ o. IsSourceRow k r T o row) (sym (get_or-map (λ p. p.1) ps i d d.1 (omega (arith, c.loop-i-test.true)))) c.in_ok-row.ensures.row in
    record {
      rows = subst (OneByOne (IsSourceRow k r T) _) (sym c.in_ok-push.ensures.items)
          (rows-more k r c.loop-i.skeletons T c.in_ok-row.ensures.grows os i d.1 c.loop-i.rows.items row h c.loop-i.invariant.rows is);
      grows = grows-then c.args.skeletons.now c.loop-i.skeletons T c.loop-i.invariant.grows c.in_ok-row.ensures.grows;
    }
