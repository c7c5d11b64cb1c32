use Rattle.std.proofs.Common.{◌≡◌, ◌<◌, ℕ, length, sym, subst, take, arith}
use Rattle.std.specs.Prelude.{Contains, slice_index_or}
use Rattle.std.proofs.lemmas.List.{take_more}
use Rattle.std.proofs.lemmas.List.Elements.{Contains-get_or}
use Rattle.slotted_model.specs.Find.{IsLive}
use Rattle.slotted_model.proofs.Finds.Finding.{leads, find_class-live, found-live}
use Rattle.slotted_model_analyses.specs.Analysis.{IsMerge}
use Rattle.slotted_classes.specs.Kept.{nodes_of, entries_of}
use Rattle.slotted_classes.proofs.KeptLists.{length-nodes_of}
use Rattle.slotted_data.specs.Meaning.{by_bare_nodes}
use Rattle.slotted_data.proofs.Merging.{merge-decided}
use Rattle.slotted_data.specs.Burying.{Buries}
use Rattle.slotted_data.specs.Users.{found_in}
use Rattle.slotted_data.proofs.Buried.{buries-next, buries-none}
use Rattle.slotted_data.proofs.burying.bury.Goals as goal

pub loop-dead-init : goal.loop-dead-init
loop-dead-init g c =
    let a = by_bare_nodes (g.N.Analysis.meaning c.args.analysis.now) in
    let law : IsMerge g.row.N-Data.Denot a = merge-decided (g.N.Analysis.meaning c.args.analysis.now) g.N.Data.PartialEq.eq g.met.N.Data.Eq.laws g.met.N.Analysis.equal_is_same (g.met.N.Analysis.is_merge c.args.analysis.now) in
    buries-none a law c.args.store.now c.args.nodes.now c.args.data.now

pub bury_one-requires-clause-within : goal.bury_one-requires-clause-within
bury_one-requires-clause-within g c =
    c.requires.within (slice_index_or c.args.deaths.now c.loop-dead.dead-index 0) (Contains-get_or c.args.deaths.now c.loop-dead.dead-index 0 (omega (arith, c.loop-dead-test.true)))

pub loop-dead-preserved : goal.loop-dead-preserved
loop-dead-preserved g c =
    let k = c.args.store.now in
    let xs = c.args.deaths.now in
    let i = c.loop-dead.dead-index in
    let a = by_bare_nodes (g.N.Analysis.meaning c.args.analysis.now) in
    let law : IsMerge g.row.N-Data.Denot a = merge-decided (g.N.Analysis.meaning c.args.analysis.now) g.N.Data.PartialEq.eq g.met.N.Data.Eq.laws g.met.N.Analysis.equal_is_same (g.met.N.Analysis.is_merge c.args.analysis.now) in
    let there : Contains xs (slice_index_or xs i 0) = Contains-get_or xs i 0 (omega (arith, c.loop-dead-test.true)) in
    let led = leads (nodes_of k) (entries_of k) c.requires.good.linked in
    let e = length-nodes_of k in
    let count = c.requires.count in
    let d = slice_index_or xs i 0 in
    let within : d < length k.classes = c.requires.within d there in
    let live : IsLive (entries_of k) (found_in k d) = found-live (nodes_of k) (entries_of k) led d (omega (arith, within, e)) in
    let itself : (b : ℕ) → IsLive (entries_of k) b → b < length c.args.data.now.values → found_in k b ≡ b = λ b is l. find_class-live (nodes_of k) (entries_of k) led b (omega (arith, l, count, e)) is in
    let lives : (b : ℕ) → b < length c.args.data.now.values → IsLive (entries_of k) (found_in k b) = λ b l. found-live (nodes_of k) (entries_of k) led b (omega (arith, l, count, e)) in
    subst (λ ys. Buries a k ys c.args.nodes.now c.bury_one.new.nodes c.args.data.now c.bury_one.new.data) (sym (take_more xs i 0 (omega (arith, c.loop-dead-test.true))))
    (buries-next a law k c.args.nodes.now c.loop-dead.nodes c.bury_one.new.nodes c.args.data.now c.loop-dead.data c.bury_one.new.data (take i xs) d c.loop-dead.invariant c.in_ok-bury_one.ensures.ok
    live (c.requires.dead d there) itself lives (λ b o h. let l = c.requires.users b o h in omega (arith, l, count)) count)
