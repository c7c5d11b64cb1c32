use Rattle.std.proofs.Common.{◌≡◌, ◌∙◌, ◌+◌, None, ap, sym, subst}
use Rattle.std.specs.Prelude.{IsTrue}
use Rattle.slotted_slots.specs.Maps.{with_pair}
use Rattle.slotted_slots.specs.Table.{numeric_slot}
use Rattle.slotted_languages.specs.Shape.{IsBelow, number_of}
use Rattle.slotted_languages.specs.Walk.{Walk, walk_of}
use Rattle.slotted_languages.proofs.Walks.{new_free, both_same, both_below}
use Rattle.slotted_languages.proofs.shape.Numbering.number_free.Goals as goal

pub returns-clause-ok : goal.returns-clause-ok
returns-clause-ok c =
    let s = c.args.self.now in
    let n = c.numeric_at-number.result in
    let free = c.insert.new.self in
    let k : walk_of c.note.new.self ≡ walk_of s = c.note.ensures.walk in
    let none : number_of s.free c.args.name ≡ None = sym c.free_number.ensures ∙ c.in_default.is in
    (λ i. (n, let w : Walk = record { next = (k i).next + 1; binders = (k i).binders; free = free } in w))
    ∙ new_free (walk_of s) free n c.args.name c.requires.good.below none c.numeric_at-number.ensures (c.in_ok-insert.ensures.ok ∙ ap (λ (w : Walk). with_pair w.free n c.args.name) k)

pub returns-clause-good : goal.returns-clause-good
returns-clause-good c =
    let s = c.args.self.now in
    let n = c.numeric_at-number.result in
    let free = c.insert.new.self in
    let k : walk_of c.note.new.self ≡ walk_of s = c.note.ensures.walk in
    let none : number_of s.free c.args.name ≡ None = sym c.free_number.ensures ∙ c.in_default.is in
    let put : free ≡ with_pair s.free n c.args.name = c.in_ok-insert.ensures.ok ∙ ap (λ (w : Walk). with_pair w.free n c.args.name) k in
    record {
      same = λ wide.
          let was : IsTrue s.wide = subst IsTrue c.note.ensures.wide wide in
          both_same s.next s.numbers s.free c.note.new.self.numbers free n c.args.name c.requires.good.below (c.requires.good.same was)
          (c.requires.good.same was c.args.name ∙ none) c.numeric_at-number.ensures (c.in_ok-note.ensures.noted was) put;
      below = subst (λ (w : Walk). IsBelow (numeric_slot (w.next + 1)) free) (sym k)
          (both_below s.next s.free free n c.args.name c.requires.good.below c.numeric_at-number.ensures put);
    }
