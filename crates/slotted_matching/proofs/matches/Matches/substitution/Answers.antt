use Rattle.std.proofs.Common.{◌≡◌, ℕ, ◌<◌, ◌+◌, ◌*◌, sym, ◌∙◌, ap, map, length, get_or, arith, List, []}
use Rattle.std.specs.Prelude.{String, string_bytes}
use Rattle.std.specs.declared.alloc.Global.{Global}
use Rattle.std.proofs.lemmas.List.{length-map, get_or-map, take_all}
use Rattle.slotted_model.specs.Applied.{Applied}
use Rattle.slotted_model_rules.specs.Conditions.{Values}
use Rattle.slotted_proofs.specs.Equations.{to_applied}
use Rattle.slotted_matching.specs.Matches.{answers_over}
use Rattle.slotted_matching.specs.declared.matches.Matches.TheInside.{Inside}
use Rattle.slotted_matching.proofs.AnswersOver.{entry-at, entry-put, length-answer, length-answers_over, answer-names}
use Rattle.slotted_matching.proofs.matches.Matches.substitution.Goals as goal

in_range : (m : Inside) (s : List Values) (a : ℕ) → answers_over (map string_bytes m.variables.items) (map to_applied m.ids.items) m.count ≡ s → a < length s → a < m.count
in_range m s a view l = omega (arith, l, ap length (sym view) ∙ length-answers_over (map string_bytes m.variables.items) (map to_applied m.ids.items) m.count)

-- each answer has as many entries as there are variables
count : (m : Inside) (s : List Values) (a : ℕ) → answers_over (map string_bytes m.variables.items) (map to_applied m.ids.items) m.count ≡ s →
    length (map to_applied m.ids.items) ≡ m.count * length (map string_bytes m.variables.items) → a < length s → length (get_or s a []) ≡ length m.variables.items
count m s a view whole l =
    let vs = map string_bytes m.variables.items in
    ap (λ (r : List Values). length (get_or r a [])) (sym view) ∙ (length-answer vs (map to_applied m.ids.items) m.count a whole (in_range m s a view l) ∙ length-map m.variables.items string_bytes)

pub value-requires-clause-variable : goal.value-requires-clause-variable
value-requires-clause-variable c =
    omega (arith, c.loop-variable-test.true, ap length c.as_slice-variables.ensures.value, count c.self.inside c.args.self.now c.args.answer c.self.view_is c.self.invariant.count c.requires)

pub returns-clause-ok : goal.returns-clause-ok
returns-clause-ok c =
    let s = get_or c.args.self.now c.args.answer [] in
    let n = count c.self.inside c.args.self.now c.args.answer c.self.view_is c.self.invariant.count c.requires in
    c.loop-variable.invariant ∙ take_all c.loop-variable.variable s (omega (arith, c.loop-variable-test.false, ap length c.as_slice-variables.ensures.value, n))

pub loop-variable-preserved : goal.loop-variable-preserved
loop-variable-preserved c =
    let m = c.self.inside in
    let a = c.args.answer in
    let i = c.loop-variable.variable in
    let vs = map string_bytes m.variables.items in
    let ids = map to_applied m.ids.items in
    let s = get_or c.args.self.now a [] in
    let j = in_range m c.args.self.now a c.self.view_is c.requires in
    let n = count m c.args.self.now a c.self.view_is c.self.invariant.count c.requires in
    let l : i < length m.variables.items = omega (arith, c.loop-variable-test.true, ap length c.as_slice-variables.ensures.value) in
    let h : i < length vs = omega (arith, l, length-map m.variables.items string_bytes) in
    let x = c.index-variables-variable.result in
    let at : x ≡ get_or m.variables.items i x = c.index-variables-variable.is ∙ ap (λ (ws : List (String Global)). get_or ws i x) c.as_slice-variables.ensures.value in
    let name : string_bytes c.in_ok-name.name ≡ get_or vs i [] =
    c.in_ok-name.ensures.ok ∙ (c.as_str.ensures.value ∙ (ap string_bytes at ∙ sym (get_or-map string_bytes m.variables.items i x [] l))) in
    let e = entry-at vs ids m.count a i c.self.invariant.count j h in
    let is : get_or s i ([], (0, [])) ≡ (get_or vs i [], get_or ids (a * length vs + i) (0, [])) = ap (λ (r : List Values). get_or (get_or r a []) i ([], (0, []))) (sym c.self.view_is) ∙ e in
    let id : to_applied c.in_ok-id.id ≡ get_or ids (a * length vs + i) (0, []) =
    ap to_applied c.in_ok-id.ensures.ok ∙ (c.value.ensures ∙ ap (λ (p : List ℕ × Applied). p.1) is) in
    entry-put vs s i c.loop-variable.values c.insert.new.self c.in_ok-name.name c.in_ok-id.id c.self.invariant.ascending
    (ap (λ (r : List Values). map (λ (p : List ℕ × Applied). p.0) (get_or r a [])) (sym c.self.view_is) ∙ answer-names vs ids m.count a c.self.invariant.count j)
    (omega (arith, n, l)) c.loop-variable.invariant
    ((λ k. (name k, id k)) ∙ sym is)
    c.in_ok-insert.ensures.entries
