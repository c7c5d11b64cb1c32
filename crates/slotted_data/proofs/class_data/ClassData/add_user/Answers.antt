use Rattle.std.proofs.Common.{◌≡◌, ◌∙◌, ap, sym, [], ◌∷◌, ◌++◌, length, map, arith}
use Rattle.std.specs.Prelude.{set, slice_index_or}
use Rattle.std.proofs.lemmas.List.{map-set, get_or-map, length-map}
use Rattle.slotted_classes.specs.Counts.{counts_of}
use Rattle.slotted_data.specs.Held.{Held, with_user}
use Rattle.slotted_data.proofs.class_data.ClassData.add_user.Goals as goal

pub returns-clause-ok : goal.returns-clause-ok
returns-clause-ok g c =
    let within = c.requires in
    let D = g.row.D.Denot in
    let x = c.self.inside in
    let count : length x.values.items ≡ length c.args.self.now.values = ap (λ (d : Held D). length d.values) c.self.view_is in
    let same = length-map x.users.items (λ v. v.items) in
    let lists = c.self.invariant.lists in
    let users : map (λ v. v.items) (set x.users.items c.args.class c.push.new.self) ≡ set (map (λ v. v.items) x.users.items) c.args.class (slice_index_or (map (λ v. v.items) x.users.items) c.args.class [] ++ c.args.source ∷ []) =
    map-set (λ v. v.items) x.users.items c.args.class c.push.new.self
    ∙ ap (set _ c.args.class)
    (c.in_ok-push.ensures.items ∙ ap (λ xs. xs ++ c.args.source ∷ []) (sym (get_or-map (λ v. v.items) x.users.items c.args.class c.index_mut.result.now [] (omega (arith, within, count, same, lists)) ∙ sym (ap (λ v. v.items) c.index_mut.ensures.value)))) in
    (λ i. record { values = x.values.items; users = users i; entered = x.entered; changed = x.changed.queue; carried = x.carried; tall = x.tall; counts = record { own = counts_of x.count x.total_turns x.total_bound; rebuilt = x.rebuilt } })
    ∙ ap (λ (d : Held D). with_user d c.args.class c.args.source) c.self.view_is
