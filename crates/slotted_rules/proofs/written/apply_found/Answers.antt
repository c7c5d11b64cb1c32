-- Each answer is applied in the graph that the ones before it left.
use Rattle.std.proofs.Common.{ℕ, ◌+◌, refl, subst, sym, inl, inr, arith, ◌≡◌, [], false}
use Rattle.std.specs.Prelude.{string_bytes, ◌⊎◌, slice_index_or}
use Rattle.slotted_patterns.specs.Tree.{PatternTree}
use Rattle.slotted_patterns.specs.View.{tree_of}
use Rattle.slotted_operations.specs.Graph.{Graph}
use Rattle.slotted_graph.proofs.Extending.{extends-itself}
use Rattle.slotted_rules.specs.Between.{AnswersBetween}
use Rattle.slotted_rules.specs.Loops.{HasAppliedSome}
use Rattle.slotted_rules.specs.Rewriting.{AreFromRule, BreaksOff, IsRefusedRewrite}
use Rattle.slotted_rules.specs.WrittenLaws.{apply-later, valid-later}
use Rattle.slotted_rules.proofs.Carrying.{carries-itself, carries-on, later-carries}
use Rattle.slotted_languages.proofs.HandedOn.{handed_err}
use Rattle.slotted_slots.specs.Error.{IsShortage}
use Rattle.slotted_rules.proofs.AppliedRules.{ok-well}
use Rattle.slotted_rules.proofs.Between.{answered, answered-some, between-step, origin-mapped}
use Rattle.slotted_rules.proofs.Settling.{all-applied, none-applied, breaks-off, refused-rewrite}
use Rattle.slotted_rules.proofs.written.apply_found.Goals as goal

pub apply_answer-requires-clause-rule : goal.apply_answer-requires-clause-rule
apply_answer-requires-clause-rule g c = valid-later g.L.LanguageChildren.form c.args.graph.now c.loop-answer.graph c.args.rule.now c.loop-answer.invariant.so_far.extends c.requires.rule

pub apply_answer-requires-clause-found : goal.apply_answer-requires-clause-found
apply_answer-requires-clause-found g c =
    apply-later (tree_of g.L.LanguageChildren.form c.args.rule.now.left) c.args.found.now c.args.graph.now c.loop-answer.graph c.loop-answer.invariant.so_far.extends c.requires.found

pub loop-answer-init : goal.loop-answer-init
loop-answer-init g c =
    let form = g.L.LanguageChildren.form in
    record {
      so_far = none-applied (AnswersBetween g.N.Analysis.codes g.N.Analysis.meaning (g.C.Cond.answers c.args.rule.now.condition) c.args.graph.now c.args.graph.now) (tree_of form c.args.rule.now.left) (tree_of form c.args.rule.now.right) (string_bytes c.args.rule.now.name) c.args.found.now c.args.graph.now c.requires.graph;
      carries = carries-itself g.N.Analysis.codes g.N.Analysis.meaning g.met.N.Analysis.is_merge c.args.graph.now;
    }

pub returns-in_err-apply_answer-clause-origin : goal.returns-in_err-apply_answer-clause-origin
returns-in_err-apply_answer-clause-origin g c =
    let form = g.L.LanguageChildren.form in
    let p : PatternTree = tree_of form c.args.rule.now.left in
    let q : PatternTree = tree_of form c.args.rule.now.right in
    elim (c.in_err-apply_answer.ensures.unchanged refl) [
      | inl failed ↦ inl failed
      | inr same ↦ inr (subst (λ (h : Graph). AreFromRule (g.C.Cond.answers c.args.rule.now.condition) p q (string_bytes c.args.rule.now.name) c.args.found.now c.args.graph.now h) (sym same)
          (origin-mapped (AnswersBetween g.N.Analysis.codes g.N.Analysis.meaning (g.C.Cond.answers c.args.rule.now.condition) c.args.graph.now c.loop-answer.graph) (g.C.Cond.answers c.args.rule.now.condition) (answered g.N.Analysis.codes g.N.Analysis.meaning g.met.N.Analysis.is_merge (g.C.Cond.answers c.args.rule.now.condition) c.args.graph.now c.loop-answer.graph) p q (string_bytes c.args.rule.now.name) c.args.found.now c.args.graph.now c.loop-answer.graph c.loop-answer.invariant.so_far.origin))
    ]

pub returns-in_err-apply_answer-clause-held : goal.returns-in_err-apply_answer-clause-held
returns-in_err-apply_answer-clause-held g c =
    let form = g.L.LanguageChildren.form in
    let p : PatternTree = tree_of form c.args.rule.now.left in
    let q : PatternTree = tree_of form c.args.rule.now.right in
    elim (c.in_err-apply_answer.ensures.unchanged refl) [
      | inl failed ↦ inl failed
      | inr same ↦ inr (subst (λ (h : Graph). AreFromRule (AnswersBetween g.N.Analysis.codes g.N.Analysis.meaning (g.C.Cond.answers c.args.rule.now.condition) c.args.graph.now h) p q (string_bytes c.args.rule.now.name) c.args.found.now c.args.graph.now h) (sym same) c.loop-answer.invariant.so_far.origin)
    ]

pub returns-clause-held : goal.returns-clause-held
returns-clause-held g c = inr c.loop-answer.invariant.so_far.origin

pub loop-answer-preserved : goal.loop-answer-preserved
loop-answer-preserved g c =
    let form = g.L.LanguageChildren.form in
    let p : PatternTree = tree_of form c.args.rule.now.left in
    let q : PatternTree = tree_of form c.args.rule.now.right in
    let f = c.loop-answer.graph in
    let h = c.apply_answer.new.graph in
    let well : h.failed ≡ false = ok-well _ h.failed c.apply_answer.result c.in_ok-apply_answer.field-0 c.in_ok-apply_answer.was c.apply_answer.ensures.fails in
    record {
      so_far = subst (λ (n : ℕ). HasAppliedSome (AnswersBetween g.N.Analysis.codes g.N.Analysis.meaning (g.C.Cond.answers c.args.rule.now.condition) c.args.graph.now h) p q (string_bytes c.args.rule.now.name) c.args.found.now (c.loop-answer.answer + 1) (c.loop-answer.united + n) c.args.graph.now h) (sym c.from.ensures)
          (between-step g.N.Analysis.codes g.N.Analysis.meaning g.met.N.Analysis.is_merge (g.C.Cond.answers c.args.rule.now.condition) p q (string_bytes c.args.rule.now.name) c.args.found.now c.loop-answer.answer c.loop-answer.united (omega (arith, c.loop-answer-test.true, c.len-answer-end.ensures))
          c.args.graph.now f c.loop-answer.invariant.so_far c.loop-answer.invariant.carries h c.in_ok-apply_answer.field-0 well c.apply_answer.ensures.carries c.in_ok-apply_answer.ensures.applies);
      carries = carries-on g.N.Analysis.codes g.N.Analysis.meaning g.met.N.Analysis.is_merge c.args.graph.now f h c.loop-answer.invariant.so_far.extends c.loop-answer.invariant.carries well c.apply_answer.ensures.carries;
    }

pub returns-clause-applied : goal.returns-clause-applied
returns-clause-applied g c =
    let form = g.L.LanguageChildren.form in
    all-applied (g.C.Cond.answers c.args.rule.now.condition) (tree_of form c.args.rule.now.left) (tree_of form c.args.rule.now.right) (string_bytes c.args.rule.now.name) c.args.found.now
    c.loop-answer.answer c.loop-answer.united c.args.graph.now c.loop-answer.graph (omega (arith, c.loop-answer-test.false, c.len-answer-end.ensures))
    (answered-some g.N.Analysis.codes g.N.Analysis.meaning g.met.N.Analysis.is_merge (g.C.Cond.answers c.args.rule.now.condition) (tree_of form c.args.rule.now.left) (tree_of form c.args.rule.now.right) (string_bytes c.args.rule.now.name) c.args.found.now c.loop-answer.answer c.loop-answer.united c.args.graph.now c.loop-answer.graph c.loop-answer.invariant.so_far)

pub returns-clause-between : goal.returns-clause-between
returns-clause-between g c =
    let form = g.L.LanguageChildren.form in
    all-applied (AnswersBetween g.N.Analysis.codes g.N.Analysis.meaning (g.C.Cond.answers c.args.rule.now.condition) c.args.graph.now c.loop-answer.graph) (tree_of form c.args.rule.now.left) (tree_of form c.args.rule.now.right) (string_bytes c.args.rule.now.name) c.args.found.now
    c.loop-answer.answer c.loop-answer.united c.args.graph.now c.loop-answer.graph (omega (arith, c.loop-answer-test.false, c.len-answer-end.ensures)) c.loop-answer.invariant.so_far

pub returns-clause-origin : goal.returns-clause-origin
returns-clause-origin g c =
    let form = g.L.LanguageChildren.form in
    inr (answered-some g.N.Analysis.codes g.N.Analysis.meaning g.met.N.Analysis.is_merge (g.C.Cond.answers c.args.rule.now.condition) (tree_of form c.args.rule.now.left) (tree_of form c.args.rule.now.right) (string_bytes c.args.rule.now.name) c.args.found.now c.loop-answer.answer c.loop-answer.united c.args.graph.now c.loop-answer.graph c.loop-answer.invariant.so_far).origin

pub returns-in_err-apply_answer-clause-carries : goal.returns-in_err-apply_answer-clause-carries
returns-in_err-apply_answer-clause-carries g c = later-carries g.N.Analysis.codes g.N.Analysis.meaning g.met.N.Analysis.is_merge c.args.graph.now c.loop-answer.graph c.apply_answer.new.graph c.loop-answer.invariant.so_far.extends c.loop-answer.invariant.carries c.apply_answer.ensures.carries

pub returns-clause-carries : goal.returns-clause-carries
returns-clause-carries g c = inr c.loop-answer.invariant.carries

pub returns-in_err-apply_answer-clause-err : goal.returns-in_err-apply_answer-clause-err
returns-in_err-apply_answer-clause-err g c =
    let form = g.L.LanguageChildren.form in
    let q : PatternTree = tree_of form c.args.rule.now.right in
    let e = c.in_err-apply_answer.field-0.0 in
    let refuses = g.C.Cond.refuses c.args.rule.now.condition in
    handed_err c.from_residual-in_err-apply_answer.result e c.from_residual-in_err-apply_answer.ensures.1 (λ x. IsShortage x ⊎ IsRefusedRewrite refuses q x)
    (refused-rewrite (g.C.Cond.answers c.args.rule.now.condition) refuses q (slice_index_or c.args.found.now c.loop-answer.answer []) c.loop-answer.graph e c.in_err-apply_answer.ensures.err)

pub returns-in_err-apply_answer-clause-left : goal.returns-in_err-apply_answer-clause-left
returns-in_err-apply_answer-clause-left g c =
    let form = g.L.LanguageChildren.form in
    let p : PatternTree = tree_of form c.args.rule.now.left in
    let q : PatternTree = tree_of form c.args.rule.now.right in
    let holds = g.C.Cond.answers c.args.rule.now.condition in
    let refuses = g.C.Cond.refuses c.args.rule.now.condition in
    let name = string_bytes c.args.rule.now.name in
    let found = c.args.found.now in
    let e = c.in_err-apply_answer.field-0.0 in
    let f = c.loop-answer.graph in
    let h = c.apply_answer.new.graph in
    handed_err c.from_residual-in_err-apply_answer.result e c.from_residual-in_err-apply_answer.ensures.1 (λ x. IsShortage x ⊎ BreaksOff holds refuses p q name found c.args.graph.now h x)
    (breaks-off holds refuses p q name found c.loop-answer.answer c.loop-answer.united (omega (arith, c.loop-answer-test.true, c.len-answer-end.ensures)) c.args.graph.now f
    (answered-some g.N.Analysis.codes g.N.Analysis.meaning g.met.N.Analysis.is_merge holds p q name found c.loop-answer.answer c.loop-answer.united c.args.graph.now f c.loop-answer.invariant.so_far) h e
    (c.in_err-apply_answer.ensures.unchanged refl) (λ failed. c.in_err-apply_answer.ensures.fails failed) c.in_err-apply_answer.ensures.err)

-- nothing is applied where the lists could not be made
pub returns-in_err-sides-clause-held : goal.returns-in_err-sides-clause-held
returns-in_err-sides-clause-held g c =
    let form = g.L.LanguageChildren.form in
    let g0 = c.args.graph.now in
    inr (none-applied (AnswersBetween g.N.Analysis.codes g.N.Analysis.meaning (g.C.Cond.answers c.args.rule.now.condition) g0 g0) (tree_of form c.args.rule.now.left) (tree_of form c.args.rule.now.right) (string_bytes c.args.rule.now.name) c.args.found.now g0 c.requires.graph).origin

pub returns-in_err-sides-clause-origin : goal.returns-in_err-sides-clause-origin
returns-in_err-sides-clause-origin g c =
    let form = g.L.LanguageChildren.form in
    inr (none-applied (g.C.Cond.answers c.args.rule.now.condition) (tree_of form c.args.rule.now.left) (tree_of form c.args.rule.now.right) (string_bytes c.args.rule.now.name) c.args.found.now c.args.graph.now c.requires.graph).origin

pub returns-in_err-sides-clause-extends : goal.returns-in_err-sides-clause-extends
returns-in_err-sides-clause-extends g c = inr (extends-itself c.args.graph.now)

pub returns-in_err-sides-clause-carries : goal.returns-in_err-sides-clause-carries
returns-in_err-sides-clause-carries g c = inr (carries-itself g.N.Analysis.codes g.N.Analysis.meaning g.met.N.Analysis.is_merge c.args.graph.now)
