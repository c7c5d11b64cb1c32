-- A node is looked up over what the terms under it are.
use Rattle.std.proofs.Common.{◌≡◌, ◌∙◌, ◌∷◌, ◌++◌, [], ap, sym, subst, arith, inl, inr, map, false}
use Rattle.std.specs.Prelude.{◌⊎◌, IfSome, IsSome, IsTrue, option_map}
use Rattle.std.proofs.lemmas.Bool.{false≢true}
use Rattle.std.proofs.lemmas.List.{length-map, map-append}
use Rattle.slotted_lists.proofs.Lists.{length-zero as nothing}
use Rattle.slotted_theory.specs.Term.{Term}
use Rattle.slotted_nodes.specs.Form.{Form}
use Rattle.slotted_patterns.proofs.PatternCopies.{mapped_last}
use Rattle.slotted_terms.specs.Flat.{flat_of}
use Rattle.slotted_terms.specs.TermPattern.{term_in}
use Rattle.slotted_terms.specs.Valid.{IsValidTerm}
use Rattle.slotted_proofs.specs.Equations.{to_applied}
use Rattle.slotted_graph.specs.Graph.{Graph}
use Rattle.slotted_graph.specs.LookUp.{look_up_term}
use Rattle.slotted_graph.specs.Reports.{IsFound}
use Rattle.slotted_graph.specs.States.{IsGraph}
use Rattle.slotted_operations.proofs.Additions.IdStacks.{Both-length}
use Rattle.slotted_rules.proofs.LookedStack.{IsLooked, Looks, looked-last, looks-end, looks-enough, looks-node, looks-none, looks-start, looks-step}
use Rattle.slotted_rules.proofs.looking_up.lookup_rec_expr.Goals as goal

-- a graph that has not failed
graph-of : (g : Graph) → g.failed ≡ false → IsTrue g.failed ⊎ IsGraph g → IsGraph g
graph-of g well (inl failed) = absurd (false≢true (sym well ∙ failed))
graph-of g well (inr is) = is

valid-of : (g : Graph) (t : Term) → g.failed ≡ false → IsTrue g.failed ⊎ IsValidTerm g.table t → IsValidTerm g.table t
valid-of g t well (inl failed) = absurd (false≢true (sym well ∙ failed))
valid-of g t well (inr v) = v

pub loop-next-init : goal.loop-next-init
loop-next-init g c =
    let form = g.L.LanguageChildren.form in
    let f = c.in_ok-left.ensures.ok in
    (f.0, f.1, looks-start c.args.graph.now f.0 (flat_of form c.in_ok-left.left.items) (map to_applied c.new-ids.result.items) f.1.ground f.2 (ap (map to_applied) c.new-ids.ensures.items))

pub lookup_over-requires-clause-enough : goal.lookup_over-requires-clause-enough
lookup_over-requires-clause-enough g c =
    let form = g.L.LanguageChildren.form in
    let gr = c.args.graph.now in
    let well : gr.failed ≡ false = sym c.is_failed.ensures.failed ∙ c.if-is_failed.false in
    let is : IsGraph gr = graph-of gr well c.is_failed.ensures.rests in
    let inv = c.loop-next.invariant in
    let p = inv.0 in
    let f : Form = form c.in-Some.next.node in
    let n = c.in-Some.next.count in
    let fits = g.met.L.LanguageChildren.fits c.in-Some.next.node in
    let left = flat_of form c.pop.new.self.items in
    let ids = map to_applied c.loop-next.ids.items in
    let last = mapped_last (λ k. (form k.node, k.count)) c.loop-next.left.items c.pop.new.self.items c.pop.result c.in-Some.next c.pop.ensures.items c.in-Some.is in
    let l : Looks gr p (left ++ (f, n) ∷ []) ids = subst (λ xs. Looks gr p xs ids) last inv.2 in
    let valid : IsValidTerm gr.table (term_in p) = subst (IsValidTerm gr.table) (sym inv.1.value) (valid-of gr c.args.term.now well c.requires) in
    omega (arith, looks-enough gr is p inv.1.ground valid left f n fits ids l, length-map c.loop-next.ids.items to_applied)

pub lookup_over-requires-clause-valid : goal.lookup_over-requires-clause-valid
lookup_over-requires-clause-valid g c =
    let form = g.L.LanguageChildren.form in
    let gr = c.args.graph.now in
    let well : gr.failed ≡ false = sym c.is_failed.ensures.failed ∙ c.if-is_failed.false in
    let is : IsGraph gr = graph-of gr well c.is_failed.ensures.rests in
    let inv = c.loop-next.invariant in
    let p = inv.0 in
    let f : Form = form c.in-Some.next.node in
    let n = c.in-Some.next.count in
    let fits = g.met.L.LanguageChildren.fits c.in-Some.next.node in
    let left = flat_of form c.pop.new.self.items in
    let ids = map to_applied c.loop-next.ids.items in
    let last = mapped_last (λ k. (form k.node, k.count)) c.loop-next.left.items c.pop.new.self.items c.pop.result c.in-Some.next c.pop.ensures.items c.in-Some.is in
    let l : Looks gr p (left ++ (f, n) ∷ []) ids = subst (λ xs. Looks gr p xs ids) last inv.2 in
    let valid : IsValidTerm gr.table (term_in p) = subst (IsValidTerm gr.table) (sym inv.1.value) (valid-of gr c.args.term.now well c.requires) in
    looks-node gr is p inv.1.ground valid left f n fits ids l

pub loop-next-preserved : goal.loop-next-preserved
loop-next-preserved g c =
    let form = g.L.LanguageChildren.form in
    let gr = c.args.graph.now in
    let well : gr.failed ≡ false = sym c.is_failed.ensures.failed ∙ c.if-is_failed.false in
    let is : IsGraph gr = graph-of gr well c.is_failed.ensures.rests in
    let inv = c.loop-next.invariant in
    let p = inv.0 in
    let f : Form = form c.in-Some.next.node in
    let n = c.in-Some.next.count in
    let fits = g.met.L.LanguageChildren.fits c.in-Some.next.node in
    let left = flat_of form c.pop.new.self.items in
    let ids = map to_applied c.loop-next.ids.items in
    let last = mapped_last (λ k. (form k.node, k.count)) c.loop-next.left.items c.pop.new.self.items c.pop.result c.in-Some.next c.pop.ensures.items c.in-Some.is in
    let l : Looks gr p (left ++ (f, n) ∷ []) ids = subst (λ xs. Looks gr p xs ids) last inv.2 in
    let valid : IsValidTerm gr.table (term_in p) = subst (IsValidTerm gr.table) (sym inv.1.value) (valid-of gr c.args.term.now well c.requires) in
    let id = c.in-Some-2.id in (
      p,
      inv.1,
      looks-step gr is p inv.1.ground valid left f n fits ids l (map to_applied c.push.new.self.items) (to_applied id)
          (sym c.in_ok-id.ensures.id ∙ ap (option_map to_applied) c.in-Some-2.is)
          (subst (λ o. IfSome o (λ a. IsFound gr (to_applied a))) c.in-Some-2.is c.in_ok-id.ensures.found)
          (ap (map to_applied) c.in_ok-push-in-Some-2.ensures.items ∙ (map-append to_applied c.lookup_over.new.ids.items (id ∷ []) ∙ ap (λ xs. xs ++ to_applied id ∷ []) c.in_ok-id.ensures.rest)),
    )

pub returns-in-None-clause-id : goal.returns-in-None-clause-id
returns-in-None-clause-id g c =
    let form = g.L.LanguageChildren.form in
    let gr = c.args.graph.now in
    let well : gr.failed ≡ false = sym c.is_failed.ensures.failed ∙ c.if-is_failed.false in
    let is : IsGraph gr = graph-of gr well c.is_failed.ensures.rests in
    let inv = c.loop-next.invariant in
    let p = inv.0 in
    let f : Form = form c.in-Some.next.node in
    let n = c.in-Some.next.count in
    let fits = g.met.L.LanguageChildren.fits c.in-Some.next.node in
    let left = flat_of form c.pop.new.self.items in
    let ids = map to_applied c.loop-next.ids.items in
    let last = mapped_last (λ k. (form k.node, k.count)) c.loop-next.left.items c.pop.new.self.items c.pop.result c.in-Some.next c.pop.ensures.items c.in-Some.is in
    let l : Looks gr p (left ++ (f, n) ∷ []) ids = subst (λ xs. Looks gr p xs ids) last inv.2 in
    let valid : IsValidTerm gr.table (term_in p) = subst (IsValidTerm gr.table) (sym inv.1.value) (valid-of gr c.args.term.now well c.requires) in
    sym (ap (look_up_term gr) (sym inv.1.value) ∙ looks-none gr is p inv.1.ground valid left f n fits ids l (sym c.in_ok-id.ensures.id ∙ ap (option_map to_applied) c.in-None.is))

pub returns-clause-id : goal.returns-clause-id
returns-clause-id g c =
    let form = g.L.LanguageChildren.form in
    let gr = c.args.graph.now in
    let inv = c.loop-next.invariant in
    let p = inv.0 in
    let ids = map to_applied c.loop-next.ids.items in
    let none = nothing c.loop-next.left.items (omega (arith, c.loop-next.left.ok.0, c.in_default.ensures.cases.0)) in
    let each = looks-end gr p ids (subst (λ ls. Looks gr p (flat_of form ls) ids) none inv.2) in
    let some : IsSome c.pop-2.result = c.pop-2.ensures.variant.1 (omega (arith, Both-length (IsLooked gr) ids (term_in p ∷ []) each, length-map c.loop-next.ids.items to_applied, c.loop-next.ids.ok.0)) in
    let both = looked-last gr (term_in p) c.loop-next.ids.items c.pop-2.new.self.items c.pop-2.result c.pop-2.ensures.items some each in
    both.0 ∙ ap (look_up_term gr) inv.1.value

pub returns-clause-found : goal.returns-clause-found
returns-clause-found g c =
    let form = g.L.LanguageChildren.form in
    let gr = c.args.graph.now in
    let inv = c.loop-next.invariant in
    let p = inv.0 in
    let ids = map to_applied c.loop-next.ids.items in
    let none = nothing c.loop-next.left.items (omega (arith, c.loop-next.left.ok.0, c.in_default.ensures.cases.0)) in
    let each = looks-end gr p ids (subst (λ ls. Looks gr p (flat_of form ls) ids) none inv.2) in
    let some : IsSome c.pop-2.result = c.pop-2.ensures.variant.1 (omega (arith, Both-length (IsLooked gr) ids (term_in p ∷ []) each, length-map c.loop-next.ids.items to_applied, c.loop-next.ids.ok.0)) in
    let both = looked-last gr (term_in p) c.loop-next.ids.items c.pop-2.new.self.items c.pop-2.result c.pop-2.ensures.items some each in
    both.1
