-- A live class finds itself, by the map of its entry.
use Rattle.std.proofs.Common.{◌≡◌, ◌<◌, ◌∙◌, ap, arith, length, sym}
use Rattle.slotted_model.specs.Applied.{Applied}
use Rattle.slotted_model.specs.Correspondence.{composite}
use Rattle.slotted_model.specs.Find.{Entry, IsLive, find_map}
use Rattle.slotted_model.proofs.Finds.Finding.{find_class-live, find_map-live, leads}
use Rattle.slotted_proofs.proofs.Bridges.{composed-model}
use Rattle.slotted_classes.specs.Kept.{entries_of, find_at, nodes_of}
use Rattle.slotted_classes.proofs.KeptLists.{entry_at-of, length-nodes_of}
use Rattle.slotted_lookup.proofs.finding.found_with.Goals as goal

pub returns-then-entry-class-clause-ok : goal.returns-then-entry-class-clause-ok
returns-then-entry-class-clause-ok g c =
    let k = c.args.store.now in
    let i = c.args.class in
    let names = c.args.names.now in
    let nodes = nodes_of k in
    let found = entries_of k in
    let is = entry_at-of k i in
    let within : i < length nodes = omega (arith, c.requires.within, length-nodes_of k) in
    let class : (find_at k i).class ≡ i = sym (ap (λ (b : Applied). b.0) c.entry-entry.ensures) ∙ c.if-entry-class.true in
    let lives : IsLive found i = ap (λ (x : Entry). x.class) is ∙ class in
    let map : c.entry-entry.result.now.m ≡ find_map found i = ap (λ (b : Applied). b.1) c.entry-entry.ensures ∙ (ap (λ (x : Entry). x.pairs) (sym is) ∙ sym (find_map-live nodes found (leads nodes found c.requires.good.linked) i within lives)) in
    let m = c.in_ok-compose_partial.ensures.ok ∙ (composed-model c.entry-entry.result.now.m names ∙ ap (λ n. composite n names) map) in
    λ j. (sym (find_class-live nodes found (leads nodes found c.requires.good.linked) i within lives) j, m j)

pub returns-clause-ok : goal.returns-clause-ok
returns-clause-ok g c =
    let names = c.args.names.now in
    let is = c.in_ok-found.ensures.ok in
    let m = c.in_ok-compose_partial-2.ensures.ok ∙ (composed-model c.in_ok-found.found.m names ∙ ap (λ (a : Applied). composite a.1 names) is) in
    λ i. ((is i).0, m i)
