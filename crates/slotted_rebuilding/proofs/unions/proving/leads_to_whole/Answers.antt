-- The entry of the live class has a pair for each slot that it has left.
use Rattle.std.proofs.Common.{◌≡◌, ◌<◌, ◌∙◌, ap, arith, length, subst, sym}
use Rattle.std.proofs.lemmas.Bool.{eqb-true}
use Rattle.slotted_model.specs.Applied.{Applied}
use Rattle.slotted_model.specs.Find.{Entry, IsLive, entry_at}
use Rattle.slotted_classes.specs.Kept.{entries_of, nodes_of}
use Rattle.slotted_classes.proofs.Chasing.{next_within}
use Rattle.slotted_classes.proofs.KeptLists.{entry_at-of, length-nodes_of}
use Rattle.slotted_classes.proofs.StoredFinds.{stored-finds}
use Rattle.slotted_rebuilding.proofs.ProofsOfFinds.{next-class_of}
use Rattle.slotted_rebuilding.proofs.WholeEntries.{whole-says}
use Rattle.slotted_rebuilding.proofs.unions.proving.leads_to_whole.Goals as goal

pub entry-next-requires : goal.entry-next-requires
entry-next-requires g c =
    let k = c.args.store.now in
    subst (λ j. j < length k.classes) (sym (next-class_of k c.args.id c.entry-entry.result.now c.entry-entry.ensures))
    (next_within k (stored-finds k c.requires.good) c.args.id c.requires.within)

pub returns-then-next-entry : goal.returns-then-next-entry
returns-then-next-entry g c =
    let k = c.args.store.now in
    let i = c.args.id in
    let found = entries_of k in
    let entry = c.entry-entry.result.now in
    let next = c.entry-next.result.now in
    let j = entry.id.0 in
    let here : i < length (nodes_of k) = omega (arith, c.requires.within, length-nodes_of k) in
    let leads : j ≡ (entry_at found i).class = next-class_of k i entry c.entry-entry.ensures ∙ sym (ap (λ (x : Entry). x.class) (entry_at-of k i)) in
    let class : (entry_at found j).class ≡ j = ap (λ (x : Entry). x.class) (entry_at-of k j) ∙ (sym (ap (λ (b : Applied). b.0) c.entry-next.ensures) ∙ c.if-next-entry.true) in
    let own : length (entry_at found i).pairs ≡ length entry.m = ap (λ (x : Entry). length x.pairs) (entry_at-of k i) ∙ sym (ap (λ (b : Applied). length b.1) c.entry-entry.ensures) in
    let heir : length (entry_at found j).pairs ≡ length next.m = ap (λ (x : Entry). length x.pairs) (entry_at-of k j) ∙ sym (ap (λ (b : Applied). length b.1) c.entry-next.ensures) in
    λ y.
    let same : c.len.result ≡ c.len-then-next-entry.result = eqb-true c.len.result c.len-then-next-entry.result y in
    let many : length (entry_at found j).pairs ≡ length (entry_at found i).pairs = omega (arith, heir, own, same, c.len.ensures.len, c.len-then-next-entry.ensures.len) in
    whole-says (nodes_of k) found c.requires.good.sane.sound.linked i here (subst (IsLive found) leads class)
    (subst (λ x. length (entry_at found x).pairs ≡ length (entry_at found i).pairs) leads many)
