-- The name goes last, and the table stays one.
use Rattle.std.proofs.Common.{◌≡◌, ◌<◌, ◌^◌, ◌+◌, ◌*◌, ◌++◌, ◌∷◌, [], length, map, None, Ok, refl, sym, ◌∙◌, ap, subst, arith}
use Rattle.std.specs.String.{string_bytes}
use Rattle.std.proofs.lemmas.List.{length-map}
use Rattle.slotted_slots.specs.Naming.{Follows}
use Rattle.slotted_slots.specs.Table.{Table, place_of, word_outcome, IsTable}
use Rattle.slotted_slots.proofs.NamingLaws.{names_after_insert, IsTable-push, Follows-gives, Follows-no_place, Follows-no_memory, word_outcome-new}
use Rattle.slotted_slots.proofs.slot.SlotTable.push_name.Goals as goal

-- what the text was not found among, and what is there now
absent : (c : goal.In_ok-insert) → place_of (map string_bytes c.self.inside.names.keys) c.args.s.now ≡ None
absent c = ap (λ t. place_of t.names c.args.s.now) c.self.view_is ∙ c.requires.absent

pushed : (c : goal.In_ok-insert) → map string_bytes c.insert.new.self.keys ≡ map string_bytes c.self.inside.names.keys ++ c.args.s.now ∷ []
pushed c = ap (map string_bytes) c.in_ok-insert.ensures.keys ∙ names_after_insert c.self.inside.names.keys c.in_ok-name.name c.args.s.now c.in_ok-name.ensures.ok (absent c)

room : (c : goal.In_ok-insert) → length (map string_bytes c.self.inside.names.keys) < 2 ^ 30
room c = omega (arith, length-map c.self.inside.names.keys string_bytes, c.self.invariant.names_fit)

sound : (c : goal.In_ok-insert) → IsTable (record { fresh = c.self.inside.fresh; names = map string_bytes c.insert.new.self.keys })
sound c = subst (λ names. IsTable (record { fresh = c.self.inside.fresh; names = names })) (sym (pushed c)) (IsTable-push _ _ c.self.invariant (room c) (absent c) c.requires.word)

pub invariant_of-self-2 : goal.invariant_of-self-2
invariant_of-self-2 c = sound c

pub returns-clause-follows : goal.returns-clause-follows
returns-clause-follows c =
    let long = length-map c.self.inside.names.keys string_bytes in
    let gives_it = word_outcome-new (record { fresh = c.self.inside.fresh; names = map string_bytes c.self.inside.names.keys }) c.args.s.now c.len-i.result (map string_bytes c.insert.new.self.keys) (omega arith) (omega (arith, room c)) (sym (pushed c)) in
    subst (λ t. Follows (word_outcome t c.args.s.now None) t (record { fresh = c.self.inside.fresh; names = map string_bytes c.insert.new.self.keys }) (Ok (4 * c.len-i.result + 2))) c.self.view_is (Follows-gives _ _ _ _ gives_it)

pub returns-clause-table : goal.returns-clause-table
returns-clause-table c = sound c

pub overflow_cast-i : goal.overflow_cast-i
overflow_cast-i c = omega (arith, length-map c.self.inside.names.keys string_bytes, c.self.invariant.names_fit)

pub overflow_mul-result : goal.overflow_mul-result
overflow_mul-result c = omega (arith, length-map c.self.inside.names.keys string_bytes, c.self.invariant.names_fit)

pub overflow_add-result : goal.overflow_add-result
overflow_add-result c = omega (arith, length-map c.self.inside.names.keys string_bytes, c.self.invariant.names_fit)

pub returns-then-i-eq-LIMIT-clause-follows : goal.returns-then-i-eq-LIMIT-clause-follows
returns-then-i-eq-LIMIT-clause-follows c =
    Follows-no_place c.args.self.now c.args.s.now (omega (arith, ap (λ (t : Table). length t.names) c.self.view_is, length-map c.self.inside.names.keys string_bytes))

pub returns-in_err-name-clause-follows : goal.returns-in_err-name-clause-follows
returns-in_err-name-clause-follows c =
    Follows-no_memory c.args.self.now c.args.self.now c.args.s.now c.from_residual.result
    (omega (arith, ap (λ (t : Table). length t.names) c.self.view_is, length-map c.self.inside.names.keys string_bytes, c.self.invariant.names_fit)) c.from_residual.ensures.1 refl

pub returns-in_err-insert-clause-follows : goal.returns-in_err-insert-clause-follows
returns-in_err-insert-clause-follows c =
    Follows-no_memory c.args.self.now _ c.args.s.now c.from_residual-in_err-insert.result
    (omega (arith, ap (λ (t : Table). length t.names) c.self.view_is, length-map c.self.inside.names.keys string_bytes, c.self.invariant.names_fit)) c.from_residual-in_err-insert.ensures.1
    (ap (λ keys. record { fresh = c.self.inside.fresh; names = map string_bytes keys }) c.in_err-insert.ensures.err ∙ c.self.view_is)
