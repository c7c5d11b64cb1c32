-- One slot of the class that is found after another.
use Rattle.std.proofs.Common.{◌∙◌, ℕ, ap, sym, length, arith}
use Rattle.std.specs.Prelude.{slice_get}
use Rattle.slotted_model.specs.Applied.{Applied}
use Rattle.slotted_model.specs.Find.{find_map}
use Rattle.slotted_proofs.proofs.Bridges.{value_of-model}
use Rattle.slotted_classes.specs.Kept.{entries_of}
use Rattle.slotted_classes.proofs.KeptLists.{length-mapped}
use Rattle.slotted_lookup.proofs.Finds.{found-keys, map-rises}
use Rattle.slotted_lookup.proofs.MapLoops.{all-found, key-found, next-found}
use Rattle.slotted_lookup.proofs.finding.found_class.Goals.{in-Some+in_ok-insert, in_default}
use Rattle.slotted_lookup.proofs.finding.found_class.Goals as goal

pub loop-i-preserved : goal.loop-i-preserved
loop-i-preserved g c =
    let k = c.args.store.now in
    let class = c.args.class in
    let F = find_map (entries_of k) class in
    let rises = map-rises k c.requires.good class c.requires.within in
    let ks = found-keys k c.requires.good class c.requires.within c.find_class-found.result c.find_class-found.ensures.class c.entry.result.now.m (ap (λ (a : Applied). a.1) c.entry.ensures) in
    let at = ap (λ xs. slice_get xs c.loop-i.i) (sym ks) ∙ c.value_at-slot.ensures in
    elim c.match-found_slot.branch [
      | in-Some+in_ok-insert w ↦
          let own = value_of-model F c.value_at-slot.result ∙ sym w.in-Some.ensures in
          w.m-is ∙ (w.in_ok-insert.ensures.ok ∙ next-found F c.loop-i.m c.loop-i.i c.value_at-slot.result w.in-Some.own rises at own c.loop-i.invariant)
      | in_default w ↦ absurd (key-found F c.loop-i.i c.value_at-slot.result rises at (value_of-model F c.value_at-slot.result ∙ sym w.in_default.ensures))
    ]

pub returns-clause-ok : goal.returns-clause-ok
returns-clause-ok g c =
    let k = c.args.store.now in
    let class = c.args.class in
    let F = find_map (entries_of k) class in
    let ks = found-keys k c.requires.good class c.requires.within c.find_class-found.result c.find_class-found.ensures.class c.entry.result.now.m (ap (λ (a : Applied). a.1) c.entry.ensures) in
    let many = ap length ks ∙ length-mapped (λ (p : ℕ × ℕ). p.0) F in
    let all = c.loop-i.invariant ∙ all-found F c.loop-i.i (omega (arith, c.loop-i-test.false, c.len-i-end.ensures.len, many, length-mapped (λ (p : ℕ × ℕ). p.1) c.entry.result.now.m)) in
    λ j. (c.find_class-found.ensures.class j, all j)
