-- The pairs in order, and what stands in them.
use Rattle.std.proofs.Common.{◌∙◌, map, ap, sym, subst}
use Rattle.std.specs.Ordering.{nat_cmp}
use Rattle.std.specs.List.Sorted.{IsPermutation}
use Rattle.std.proofs.lemmas.List.Sorted.{All-permutation, IsPermutation-map}
use Rattle.slotted_reports.specs.Nodes.{HasKeyOf, key_at}
use Rattle.slotted_reports.proofs.KeyOrder.{firsts-sorted, keys-are}
use Rattle.slotted_reports.proofs.nodes.in_order.Goals as goal

pub returns-clause-same : goal.returns-clause-same
returns-clause-same g c =
    let ordered = c.in_ok-ordered.ensures.ok ∙ ap (map (λ p. p.1)) c.deref.ensures.value in
    subst (λ xs. IsPermutation xs c.in_ok-ordered.ordered.items) c.in_ok-pairs.ensures.sources
    (subst (IsPermutation (map (λ p. p.1) c.in_ok-pairs.pairs.items)) (sym ordered) (IsPermutation-map (λ p. p.1) _ _ c.in_ok-sort.ensures.permutation))

pub returns-clause-ascend : goal.returns-clause-ascend
returns-clause-ascend g c =
    let form = g.L.LanguageChildren.form in
    let v = c.args.nodes.now.filed in
    let ps = c.sort.new.self.items in
    let all = All-permutation (HasKeyOf form v) _ ps c.in_ok-sort.ensures.permutation c.in_ok-pairs.ensures.keys in
    let ordered = c.in_ok-ordered.ensures.ok ∙ ap (map (λ p. p.1)) c.deref.ensures.value in
    record {
      nodes = map (λ p. p.0.now) ps;
      forms = keys-are form v ps all ∙ ap (map (key_at v)) (sym ordered);
      sorted = firsts-sorted (λ p. p.0.now) g.L.Ord.cmp (λ p q. nat_cmp p.1 q.1) ps c.in_ok-sort.ensures.sorted;
    }
