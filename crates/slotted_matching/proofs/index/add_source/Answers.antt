use Rattle.std.proofs.Common.{◌∙◌, [], ◌∷◌, ◌++◌, ap, sym, map}
use Rattle.std.specs.Prelude.{set}
use Rattle.std.proofs.lemmas.List.{map-set, get_or-map}
use Rattle.slotted_matching.proofs.index.add_source.Goals as goal

pub returns-clause-ok : goal.returns-clause-ok
returns-clause-ok c =
    let xs = c.args.sources.now.items in
    let class = c.args.class in
    map-set (λ b. b.items) xs class c.push.new.self
    ∙ ap (set (map (λ b. b.items) xs) class)
    (c.in_ok-push.ensures.items
    ∙ ap (λ ys. ys ++ c.args.source ∷ []) (ap (λ b. b.items) c.index_mut.ensures.value ∙ sym (get_or-map (λ b. b.items) xs class c.index_mut.result.now [] c.requires)))
