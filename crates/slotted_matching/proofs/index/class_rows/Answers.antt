-- One class after another.
use Rattle.std.proofs.Common.{◌≡◌, ◌<◌, ◌+◌, ◌∙◌, [], length, ap, sym, subst, arith}
use Rattle.std.specs.Prelude.{All}
use Rattle.std.proofs.lemmas.List.{get_or-map, length-map}
use Rattle.slotted_model.specs.Applied.{Applied}
use Rattle.slotted_model.specs.Find.{Entry}
use Rattle.slotted_classes.proofs.KeptLists.{entry_at-of}
use Rattle.slotted_hashcons.specs.FiledRows.{IsFiled}
use Rattle.slotted_lookup.specs.Reports.{class_sources}
use Rattle.slotted_matching.specs.Indexed.{AreClassRows, AreSourceRows}
use Rattle.slotted_matching.proofs.SourceRows.{classes-more, each-filed}
use Rattle.slotted_matching.proofs.index.class_rows.Goals as goal

pub ordered_rows-requires-clause-filed : goal.ordered_rows-requires-clause-filed
ordered_rows-requires-clause-filed g c =
    let k = c.args.store.now in
    let r = c.args.nodes.now in
    let bs = c.args.sources.now in
    let class = c.loop-class.class in
    let h : class < length bs = omega (arith, c.loop-class-test.true) in
    let l : class < length k.classes = omega (arith, h, c.requires.sources.count, length-map bs (λ b. b.items)) in
    let same : c.deref.result.now ≡ class_sources k r class =
    c.deref.ensures.value ∙ (ap (λ b. b.items) c.index-sources-class.is ∙ (sym (get_or-map (λ b. b.items) bs class c.index-sources-class.result [] h) ∙ c.requires.sources.at class l)) in
    subst (All (IsFiled r.filed)) (sym same) (each-filed k r class)

pub loop-class-preserved : goal.loop-class-preserved
loop-class-preserved g c =
    let k = c.args.store.now in
    let r = c.args.nodes.now in
    let bs = c.args.sources.now in
    let class = c.loop-class.class in
    let T = c.ordered_rows.new.skeletons in
    let rows = c.in_ok-rows.rows.items in
    let h : class < length bs = omega (arith, c.loop-class-test.true) in
    let l : class < length k.classes = omega (arith, h, c.requires.sources.count, length-map bs (λ b. b.items)) in
    let same : c.deref.result.now ≡ class_sources k r class =
    c.deref.ensures.value ∙ (ap (λ b. b.items) c.index-sources-class.is ∙ (sym (get_or-map (λ b. b.items) bs class c.index-sources-class.result [] h) ∙ c.requires.sources.at class l)) in
    let slots = c.len-slot_count.ensures.len ∙ (ap (λ (a : Applied). length a.1) c.entry.ensures ∙ sym (ap (λ (e : Entry). length e.pairs) (entry_at-of k class))) in
    subst (AreClassRows k r T (class + 1)) (sym c.in_ok-push.ensures.items)
    (classes-more k r c.loop-class.skeletons T c.in_ok-rows.ensures.grows class c.loop-class.classes.items (record { slot_count = c.len-slot_count.result; rows = c.in_ok-rows.rows }) c.loop-class.invariant slots
    (subst (λ os. AreSourceRows k r T os rows) same c.in_ok-rows.ensures.rows))

pub returns-clause-rows : goal.returns-clause-rows
returns-clause-rows g c =
    let k = c.args.store.now in
    let r = c.args.nodes.now in
    let count = c.requires.sources.count in
    let many = length-map c.args.sources.now (λ b. b.items) in
    let e : c.loop-class.class ≡ length k.classes = omega (arith, c.loop-class-test.false, c.loop-class.auto.class-end, count, many) in
    subst (λ n. AreClassRows k r c.loop-class.skeletons n c.loop-class.classes.items) e c.loop-class.invariant
