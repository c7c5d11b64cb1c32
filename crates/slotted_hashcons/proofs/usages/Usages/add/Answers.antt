use Rattle.std.proofs.Common.{ℕ, ◌∙◌, ap, sym, [], ◌∷◌, ◌++◌, length, map, arith}
use Rattle.std.specs.Prelude.{set, slice_index_or}
use Rattle.std.proofs.lemmas.List.{map-set, get_or-map, length-map, set-get_or}
use Rattle.slotted_hashcons.proofs.Places.{on_err}
use Rattle.slotted_hashcons.proofs.usages.Usages.add.Goals as goal

pub returns-clause-ok : goal.returns-clause-ok
returns-clause-ok c =
    let within = c.requires in
    let count = ap length c.self.view_is in
    let same = length-map c.self.inside.sources.items (λ v. v.items) in
    map-set (λ v. v.items) c.self.inside.sources.items c.args.class c.push.new.self
    ∙ ap (set _ c.args.class)
    (c.in_ok-push.ensures.items ∙ ap (λ (n : ℕ). c.index_mut.result.now.items ++ n ∷ []) c.in_ok-source.ensures.ok ∙ ap (λ xs. xs ++ c.args.source ∷ []) (sym (get_or-map (λ v. v.items) c.self.inside.sources.items c.args.class c.index_mut.result.now [] (omega (arith, within, count, same)) ∙ sym (ap (λ v. v.items) c.index_mut.ensures.value))))
    ∙ ap (λ u. set u c.args.class (slice_index_or u c.args.class [] ++ c.args.source ∷ [])) c.self.view_is

pub returns-in_err-push-clause-unchanged : goal.returns-in_err-push-clause-unchanged
returns-in_err-push-clause-unchanged c =
    let within = c.requires in
    let count = ap length c.self.view_is in
    let same = length-map c.self.inside.sources.items (λ v. v.items) in
    on_err c.from_residual-in_err-push.result
    (map-set (λ v. v.items) c.self.inside.sources.items c.args.class c.push.new.self
    ∙ ap (set _ c.args.class)
    (c.in_err-push.ensures.items ∙ sym (get_or-map (λ v. v.items) c.self.inside.sources.items c.args.class c.index_mut.result.now [] (omega (arith, within, count, same)) ∙ sym (ap (λ v. v.items) c.index_mut.ensures.value)))
    ∙ set-get_or (map (λ v. v.items) c.self.inside.sources.items) c.args.class []
    ∙ c.self.view_is)
