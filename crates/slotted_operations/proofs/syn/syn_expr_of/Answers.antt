-- The id is filled, and what it is then is given out over the table that made its names.
use Rattle.std.proofs.Common.{◌≡◌, ap, subst, arith, inl, inr, rules}
use Rattle.slotted_lists.proofs.Results.{IfOk-both}
use Rattle.slotted_theory.specs.Nameless.{nameless}
use Rattle.slotted_terms.specs.Valid.{IsValidTerm}
use Rattle.slotted_model.specs.Applied.{Applied}
use Rattle.slotted_model.specs.Classes.{term_of}
use Rattle.slotted_proofs.specs.Equations.{to_applied}
use Rattle.slotted_classes.specs.Kept.{nodes_of}
use Rattle.slotted_operations.specs.Causes.{HasLargePart}
use Rattle.slotted_operations.specs.Good.{image_of}
use Rattle.slotted_operations.specs.Syn.{FillsFresh, GivesTerm, KnowsSlotsAnd, names_lacking, term_binders, slots_for_term}
use Rattle.slotted_operations.proofs.Ids.FilledNames.{filled-full, fills-fresh}
use Rattle.slotted_operations.proofs.Graphs.FreshSlots.{fresh_slots-more}
use Rattle.slotted_operations.proofs.Additions.Tables.{makes-more, makes-then, runs_out-more, runs_out-then}
use Rattle.slotted_operations.proofs.syn.syn_expr_of.Goals as goal

pub syn_expr-requires-clause-full : goal.syn_expr-requires-clause-full
syn_expr-requires-clause-full g c =
    filled-full c.args.store.now c.args.table.now (to_applied c.args.a.now) (to_applied c.in_ok-filled.filled) c.requires.findable.1 c.in_ok-filled.ensures.fills

pub returns-clause-ok : goal.returns-clause-ok
returns-clause-ok g c =
    let k = c.args.store.now in
    let t = c.args.table.now in
    let u = c.fill_id.new.table in
    let w = c.syn_expr.new.table in
    let a = to_applied c.args.a.now in
    let b = to_applied c.in_ok-filled.filled in
    let nodes = nodes_of k in
    let known = c.requires.findable.1 in
    let at : KnowsSlotsAnd u k c.in_ok-filled.filled.m = (fresh_slots-more t u k c.fill_id.ensures.more c.requires.fresh_slots, c.in_ok-filled.ensures.known known) in
    let fresh : FillsFresh (image_of k) t w a b =
    fills-fresh k t a b known c.in_ok-filled.ensures.fills u w c.in_ok-filled.ensures.id c.in_ok-filled.ensures.made c.syn_expr.ensures.more in
    IfOk-both c.syn_expr.result (λ x. nameless x ≡ term_of nodes b) (λ x. KnowsSlotsAnd u k c.in_ok-filled.filled.m → IsValidTerm w x) (λ x. GivesTerm t w k c.args.a.now x)
    (λ x e v. record {
      filled = record { filled = b; fills = fresh; term = e };
      term = λ full. subst (λ (d : Applied). nameless x ≡ term_of nodes d) (c.in_ok-filled.ensures.same full) e;
      valid = v at;
    }) c.syn_expr.ensures.term c.syn_expr.ensures.valid

pub returns-clause-takes : goal.returns-clause-takes
returns-clause-takes g c =
    let k = c.args.store.now in
    let t = c.args.table.now in
    let u = c.fill_id.new.table in
    let w = c.syn_expr.new.table in
    let a = to_applied c.args.a.now in
    let b = to_applied c.in_ok-filled.filled in
    let nodes = nodes_of k in
    let known = c.requires.findable.1 in
    let at : KnowsSlotsAnd u k c.in_ok-filled.filled.m = (fresh_slots-more t u k c.fill_id.ensures.more c.requires.fresh_slots, c.in_ok-filled.ensures.known known) in
    let class : term_binders nodes b.0 ≡ term_binders nodes a.0 = ap (λ (x : Applied). term_binders nodes x.0) c.in_ok-filled.ensures.id in
    makes-then (names_lacking nodes a) (term_binders nodes b.0) (slots_for_term nodes a) t u w c.fill_id.ensures.takes (c.syn_expr.ensures.takes at) (omega (arith, class))

pub returns-clause-full : goal.returns-clause-full
returns-clause-full g c e =
    let k = c.args.store.now in
    let t = c.args.table.now in
    let u = c.fill_id.new.table in
    let w = c.syn_expr.new.table in
    let a = to_applied c.args.a.now in
    let b = to_applied c.in_ok-filled.filled in
    let nodes = nodes_of k in
    let known = c.requires.findable.1 in
    let at : KnowsSlotsAnd u k c.in_ok-filled.filled.m = (fresh_slots-more t u k c.fill_id.ensures.more c.requires.fresh_slots, c.in_ok-filled.ensures.known known) in
    let class : term_binders nodes b.0 ≡ term_binders nodes a.0 = ap (λ (x : Applied). term_binders nodes x.0) c.in_ok-filled.ensures.id in
    elim (c.syn_expr.ensures.full e at) [
      | inl out ↦ inl (runs_out-then (names_lacking nodes a) (term_binders nodes b.0) (slots_for_term nodes a) t u w c.fill_id.ensures.takes out (omega (arith, class)))
      | inr large ↦ inr (subst (λ (x : Applied). HasLargePart nodes x.0) c.in_ok-filled.ensures.id large)
    ]

pub returns-in_err-filled-clause-takes : goal.returns-in_err-filled-clause-takes
returns-in_err-filled-clause-takes g c =
    let nodes = nodes_of c.args.store.now in
    let a = to_applied c.args.a.now in
    makes-more (names_lacking nodes a) (slots_for_term nodes a) c.args.table.now c.fill_id.new.table c.fill_id.ensures.takes (omega arith)

pub returns-in_err-filled-clause-full : goal.returns-in_err-filled-clause-full
returns-in_err-filled-clause-full g c e =
    let nodes = nodes_of c.args.store.now in
    let a = to_applied c.args.a.now in
    inl (runs_out-more (names_lacking nodes a) (slots_for_term nodes a) c.args.table.now c.fill_id.new.table (c.in_err-filled.ensures.full (search rules)) (omega arith))
