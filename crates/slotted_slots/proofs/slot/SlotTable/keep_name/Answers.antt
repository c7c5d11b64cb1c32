-- The place among the strings is that among their bytes.
use Rattle.std.proofs.Common.{sym, ◌∙◌, ap, subst, arith}
use Rattle.std.specs.String.{string_bytes}
use Rattle.std.proofs.lemmas.List.{length-map}
use Rattle.slotted_slots.specs.Naming.{Follows}
use Rattle.slotted_slots.specs.Table.{place_of, word_outcome}
use Rattle.slotted_slots.proofs.NamingLaws.{place_of-map, Follows-gives}
use Rattle.slotted_slots.proofs.slot.SlotTable.keep_name.Goals as goal

pub push_name-requires-clause-absent : goal.push_name-requires-clause-absent
push_name-requires-clause-absent c =
    ap (λ t. place_of t.names c.args.s.now) (sym c.self.view_is) ∙ (sym (place_of-map string_bytes c.args.s.now c.self.inside.names.keys) ∙ sym c.in-None.ensures.index)

pub returns-in-Some-clause-follows : goal.returns-in-Some-clause-follows
returns-in-Some-clause-follows c =
    let there = ap (λ t. place_of t.names c.args.s.now) (sym c.self.view_is) ∙ (sym (place_of-map string_bytes c.args.s.now c.self.inside.names.keys) ∙ sym c.in-Some.ensures.index) in
    Follows-gives _ _ _ _ (ap (word_outcome c.args.self.now c.args.s.now) there)

pub returns-in-None-clause-follows : goal.returns-in-None-clause-follows
returns-in-None-clause-follows c =
    let absent = ap (λ t. place_of t.names c.args.s.now) (sym c.self.view_is) ∙ (sym (place_of-map string_bytes c.args.s.now c.self.inside.names.keys) ∙ sym c.in-None.ensures.index) in
    subst (λ o. Follows (word_outcome c.args.self.now c.args.s.now o) c.args.self.now c.push_name.new.self c.push_name.result) (sym absent) c.push_name.ensures.follows

pub returns-in-None-clause-memory : goal.returns-in-None-clause-memory
returns-in-None-clause-memory c =
    λ _. ap (λ t. place_of t.names c.args.s.now) (sym c.self.view_is) ∙ (sym (place_of-map string_bytes c.args.s.now c.self.inside.names.keys) ∙ sym c.in-None.ensures.index)

pub overflow_cast-result : goal.overflow_cast-result
overflow_cast-result c = omega (arith, c.in-Some.ensures.within, length-map c.self.inside.names.keys string_bytes, c.self.invariant.names_fit)

pub overflow_mul-result : goal.overflow_mul-result
overflow_mul-result c = omega (arith, c.in-Some.ensures.within, length-map c.self.inside.names.keys string_bytes, c.self.invariant.names_fit)

pub overflow_add-result : goal.overflow_add-result
overflow_add-result c = omega (arith, c.in-Some.ensures.within, length-map c.self.inside.names.keys string_bytes, c.self.invariant.names_fit)
