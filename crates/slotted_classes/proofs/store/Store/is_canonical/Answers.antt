-- The entry of a live class has a pair for each slot that it has left.
use Rattle.std.proofs.Common.{◌≡◌, ◌∙◌, ap, arith, length, sym}
use Rattle.std.proofs.lemmas.Bool.{eq-eqb, eqb-true}
use Rattle.slotted_model.specs.Applied.{Applied}
use Rattle.slotted_model.specs.Find.{Entry, IsLive, entry_at}
use Rattle.slotted_proofs.specs.Equations.{to_applied}
use Rattle.slotted_classes.specs.Kept.{entries_of, find_at}
use Rattle.slotted_classes.proofs.KeptLists.{entry_at-of}
use Rattle.slotted_classes.proofs.store.Store.is_canonical.Goals as goal

pub returns-then-entry-a : goal.returns-then-entry-a
returns-then-entry-a g c =
    let k = c.args.self.now in
    let a : Applied = to_applied c.args.a.now in
    let is = entry_at-of k a.0 in
    let class : (find_at k a.0).class ≡ a.0 = sym (ap (λ (b : Applied). b.0) c.entry-entry.ensures) ∙ c.if-entry-a.true in
    let lives : IsLive (entries_of k) a.0 = ap (λ (x : Entry). x.class) is ∙ class in
    let pairs : length (entry_at (entries_of k) a.0).pairs ≡ c.len.result = ap (λ (x : Entry). length x.pairs) is ∙ (sym (ap (λ (b : Applied). length b.1) c.entry-entry.ensures) ∙ sym c.len.ensures.len) in (
      λ y.
          let same : c.len.result ≡ c.len-then-entry-a.result = eqb-true c.len.result c.len-then-entry-a.result y in
          (lives, omega (arith, pairs, same, c.len-then-entry-a.ensures.len)),
      λ e. eq-eqb c.len.result c.len-then-entry-a.result (omega (arith, pairs, e.1, c.len-then-entry-a.ensures.len)),
    )

pub returns-else-entry-a : goal.returns-else-entry-a
returns-else-entry-a g c =
    let k = c.args.self.now in
    let a : Applied = to_applied c.args.a.now in
    let is = entry_at-of k a.0 in (
      λ y. absurd (c.if-entry-a.false (eqb-true c.entry-entry.result.now.id.0 a.0 y)),
      λ e. absurd (c.if-entry-a.false (ap (λ (b : Applied). b.0) c.entry-entry.ensures ∙ (sym (ap (λ (x : Entry). x.class) is) ∙ e.0))),
    )
