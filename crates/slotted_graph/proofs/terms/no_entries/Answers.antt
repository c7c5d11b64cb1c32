-- One class more has none.
use Rattle.std.proofs.Common.{◌∙◌, None, ap, length, arith}
use Rattle.std.proofs.lemmas.List.{length_push}
use Rattle.slotted_graph.specs.Terms.{entry_at}
use Rattle.slotted_graph.proofs.Placed.{none-more}
use Rattle.slotted_graph.proofs.terms.no_entries.Goals as goal

pub loop-k-preserved : goal.loop-k-preserved
loop-k-preserved g c =
    let items = c.loop-k.entries.items in
    record {
      count = omega (arith, ap length c.in_ok-push.ensures.items, length_push items None, c.loop-k.invariant.count);
      none = λ d. ap (λ xs. entry_at xs d) c.in_ok-push.ensures.items ∙ none-more items c.loop-k.invariant.none d;
    }
