use Rattle.std.proofs.Common.{◌≡◌, ◌∙◌, ap, [], map}
use Rattle.std.specs.Prelude.{set}
use Rattle.std.proofs.lemmas.List.{map-set}
use Rattle.slotted_classes.specs.Counts.{counts_of}
use Rattle.slotted_data.specs.Held.{Held, with_users_taken}
use Rattle.slotted_data.proofs.class_data.ClassData.take_users.Goals as goal

pub returns-clause-left : goal.returns-clause-left
returns-clause-left g c =
    let D = g.row.D.Denot in
    let x = c.self.inside in
    let none : c.replace.new.dest.items ≡ [] = ap (λ v. v.items) c.replace.ensures.after ∙ c.new.ensures.items in
    let users : map (λ v. v.items) (set x.users.items c.args.class c.replace.new.dest) ≡ set (map (λ v. v.items) x.users.items) c.args.class [] =
    map-set (λ v. v.items) x.users.items c.args.class c.replace.new.dest ∙ ap (set _ c.args.class) none in
    (λ i. record { values = x.values.items; users = users i; entered = x.entered; changed = x.changed.queue; carried = x.carried; tall = x.tall; counts = record { own = counts_of x.count x.total_turns x.total_bound; rebuilt = x.rebuilt } })
    ∙ ap (λ (d : Held D). with_users_taken d c.args.class) c.self.view_is
