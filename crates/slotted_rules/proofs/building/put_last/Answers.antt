use Rattle.std.proofs.Common.{◌∙◌, ◌∷◌, ◌++◌, [], sym, subst, map, append_assoc}
use Rattle.std.specs.Prelude.{All}
use Rattle.slotted_patterns.proofs.PatternCopies.{mapped_last}
use Rattle.slotted_proofs.specs.Equations.{to_applied}
use Rattle.slotted_graph.specs.ValidIds.{IsValidId}
use Rattle.slotted_rules.proofs.Answering.{ok-mapped}
use Rattle.slotted_rules.proofs.StackedInstances.{all-at, three-last}
use Rattle.slotted_rules.proofs.building.put_last.Goals as goal

pub put_in-requires-clause-body : goal.put_in-requires-clause-body
put_in-requires-clause-body g c =
    let h = c.args.graph.now in
    let w = c.in-Some-Some-Some in
    let one = c.pop.new.self.items in
    let two = c.pop-2.new.self.items in
    let three = c.pop-3.new.self.items in
    let first = mapped_last to_applied c.args.ids.now.items one c.pop.result w.value c.pop.ensures.items w.is-0 in
    let second = mapped_last to_applied one two c.pop-2.result w.part c.pop-2.ensures.items w.is-1 in
    let third = mapped_last to_applied two three c.pop-3.result w.body c.pop-3.ensures.items w.is-2 in
    let all = three-last (map to_applied c.args.ids.now.items) (map to_applied one) (map to_applied two) (map to_applied three) (to_applied w.body) (to_applied w.part) (to_applied w.value) first second third in
    all-at (IsValidId h) (map to_applied three) (to_applied w.body) (to_applied w.part ∷ to_applied w.value ∷ []) (subst (All (IsValidId h)) all c.requires.valid)

pub put_in-requires-clause-part : goal.put_in-requires-clause-part
put_in-requires-clause-part g c =
    let h = c.args.graph.now in
    let w = c.in-Some-Some-Some in
    let one = c.pop.new.self.items in
    let two = c.pop-2.new.self.items in
    let three = c.pop-3.new.self.items in
    let first = mapped_last to_applied c.args.ids.now.items one c.pop.result w.value c.pop.ensures.items w.is-0 in
    let second = mapped_last to_applied one two c.pop-2.result w.part c.pop-2.ensures.items w.is-1 in
    let third = mapped_last to_applied two three c.pop-3.result w.body c.pop-3.ensures.items w.is-2 in
    let all = three-last (map to_applied c.args.ids.now.items) (map to_applied one) (map to_applied two) (map to_applied three) (to_applied w.body) (to_applied w.part) (to_applied w.value) first second third in
    let turned = all ∙ sym (append_assoc (map to_applied three) (to_applied w.body ∷ []) (to_applied w.part ∷ to_applied w.value ∷ [])) in
    all-at (IsValidId h) (map to_applied three ++ to_applied w.body ∷ []) (to_applied w.part) (to_applied w.value ∷ []) (subst (All (IsValidId h)) turned c.requires.valid)

pub put_in-requires-clause-value : goal.put_in-requires-clause-value
put_in-requires-clause-value g c =
    let h = c.args.graph.now in
    let w = c.in-Some-Some-Some in
    let one = c.pop.new.self.items in
    let first = mapped_last to_applied c.args.ids.now.items one c.pop.result w.value c.pop.ensures.items w.is-0 in
    all-at (IsValidId h) (map to_applied one) (to_applied w.value) [] (subst (All (IsValidId h)) first c.requires.valid)

pub returns-clause-ok : goal.returns-clause-ok
returns-clause-ok g c =
    let w = c.in-Some-Some-Some in
    let one = c.pop.new.self.items in
    let two = c.pop-2.new.self.items in
    let three = c.pop-3.new.self.items in
    let first = mapped_last to_applied c.args.ids.now.items one c.pop.result w.value c.pop.ensures.items w.is-0 in
    let second = mapped_last to_applied one two c.pop-2.result w.part c.pop-2.ensures.items w.is-1 in
    let third = mapped_last to_applied two three c.pop-3.result w.body c.pop-3.ensures.items w.is-2 in
    let all = three-last (map to_applied c.args.ids.now.items) (map to_applied one) (map to_applied two) (map to_applied three) (to_applied w.body) (to_applied w.part) (to_applied w.value) first second third in
    ok-mapped c.put_in.result c.put_in.ensures.ok (λ a puts. record { body = to_applied w.body; part = to_applied w.part; value = to_applied w.value; last = all; puts = puts })
