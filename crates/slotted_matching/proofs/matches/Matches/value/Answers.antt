use Rattle.std.proofs.Common.{◌≡◌, ℕ, ◌<◌, ◌≤◌, ◌+◌, ◌*◌, sym, subst, ◌∙◌, ap, map, length, get_or, arith, List, []}
use Rattle.std.specs.Prelude.{String, string_bytes}
use Rattle.std.specs.declared.alloc.Global.{Global}
use Rattle.std.proofs.lemmas.List.{length-map, get_or-map}
use Rattle.slotted_model_rules.specs.Conditions.{Values}
use Rattle.slotted_proofs.specs.Equations.{to_applied}
use Rattle.slotted_model.specs.Applied.{Applied}
use Rattle.slotted_matching.specs.Matches.{id_in, answers_over}
use Rattle.slotted_matching.specs.declared.matches.Matches.TheInside.{Inside}
use Rattle.slotted_matching.proofs.AnswersOver.{entry-at, length-answer, length-answers_over, within-ids}
use Rattle.slotted_matching.proofs.matches.Matches.value.Goals as goal

-- where the id stands, which is below the number of ids
stands : (m : Inside) (s : List Values) (a i : ℕ) → answers_over (map string_bytes m.variables.items) (map to_applied m.ids.items) m.count ≡ s →
    length (map to_applied m.ids.items) ≡ m.count * length (map string_bytes m.variables.items) → a < length s → i < length (get_or s a []) →
    (a < m.count) × (i < length m.variables.items) × (a * length m.variables.items + i < length m.ids.items)
stands m s a i view whole l h =
    let vs = map string_bytes m.variables.items in
    let ids = map to_applied m.ids.items in
    let n : length vs ≡ length m.variables.items = length-map m.variables.items string_bytes in
    let t : length ids ≡ length m.ids.items = length-map m.ids.items to_applied in
    let j : a < m.count = omega (arith, l, ap length (sym view) ∙ length-answers_over vs ids m.count) in
    let k : i < length vs = omega (arith, h, ap (λ (r : List Values). length (get_or r a [])) (sym view) ∙ length-answer vs ids m.count a whole j) in
    let w : a * length m.variables.items + length m.variables.items ≤ length m.ids.items =
    within-ids m.count (length m.variables.items) (length m.ids.items) a (sym t ∙ (whole ∙ ap (λ z. m.count * z) n)) j in
    (j, omega (arith, k, n), omega (arith, w, k, n))

at_item : (m : Inside) (variables : List (String Global)) (a i : ℕ) → variables ≡ m.variables.items → a * length m.variables.items + i < length m.ids.items →
    a * length variables + i < length m.ids.items
at_item m variables a i e l = subst (λ (vs : List (String Global)). a * length vs + i < length m.ids.items) (sym e) l

pub bounds-ids-answer : goal.bounds-ids-answer
bounds-ids-answer c =
    let p = stands c.self.inside c.args.self.now c.args.answer c.args.variable c.self.view_is c.self.invariant.count c.requires.answer c.requires.variable in
    let w = at_item c.self.inside c.as_slice-variables.result.now c.args.answer c.args.variable c.as_slice-variables.ensures.value p.2 in
    omega (arith, w, ap length c.as_slice-ids.ensures.value)

pub overflow_mul-result : goal.overflow_mul-result
overflow_mul-result c =
    let p = stands c.self.inside c.args.self.now c.args.answer c.args.variable c.self.view_is c.self.invariant.count c.requires.answer c.requires.variable in
    let w = at_item c.self.inside c.as_slice-variables.result.now c.args.answer c.args.variable c.as_slice-variables.ensures.value p.2 in
    omega (arith, w, ap length c.as_slice-ids.ensures.value, c.as_slice-ids.type_inv)

pub overflow_add-result : goal.overflow_add-result
overflow_add-result c =
    let p = stands c.self.inside c.args.self.now c.args.answer c.args.variable c.self.view_is c.self.invariant.count c.requires.answer c.requires.variable in
    let w = at_item c.self.inside c.as_slice-variables.result.now c.args.answer c.args.variable c.as_slice-variables.ensures.value p.2 in
    omega (arith, w, ap length c.as_slice-ids.ensures.value, c.as_slice-ids.type_inv)

pub offset_bounds-ids-answer : goal.offset_bounds-ids-answer
offset_bounds-ids-answer c =
    let p = stands c.self.inside c.args.self.now c.args.answer c.args.variable c.self.view_is c.self.invariant.count c.requires.answer c.requires.variable in
    let w = at_item c.self.inside c.as_slice-variables.result.now c.args.answer c.args.variable c.as_slice-variables.ensures.value p.2 in
    omega (arith, w, ap length c.as_slice-ids.ensures.value, c.as_slice-ids.type_inv)

pub returns : goal.returns
returns c =
    let m = c.self.inside in
    let a = c.args.answer in
    let i = c.args.variable in
    let vs = map string_bytes m.variables.items in
    let ids = map to_applied m.ids.items in
    let p = stands m c.args.self.now a i c.self.view_is c.self.invariant.count c.requires.answer c.requires.variable in
    let n : length vs ≡ length m.variables.items = length-map m.variables.items string_bytes in
    let x = c.index-ids-answer.result in
    let at : x ≡ get_or m.ids.items (a * length vs + i) x =
    c.index-ids-answer.is ∙ ((λ k. get_or (c.as_slice-ids.ensures.value k) (a * length (c.as_slice-variables.ensures.value k) + i) x) ∙ ap (λ z. get_or m.ids.items (a * z + i) x) (sym n)) in
    let w : a * length vs + i < length m.ids.items = omega (arith, p.2, ap (λ z. a * z) n) in
    ap to_applied at ∙ (sym (get_or-map to_applied m.ids.items (a * length vs + i) x (0, []) w)
    ∙ (sym (ap (λ (q : List ℕ × Applied). q.1) (entry-at vs ids m.count a i c.self.invariant.count p.0 (omega (arith, p.1, n))))
    ∙ ap (λ (r : List Values). id_in (get_or r a []) i) c.self.view_is))
