-- the answers so far are settled
use Rattle.std.specs.Prelude.{string_bytes}
use Rattle.slotted_patterns.specs.View.{tree_of}
use Rattle.slotted_rules.specs.Between.{AnswersBetween}
use Rattle.slotted_rules.specs.Carried.{CarriesAlong}
use Rattle.slotted_rules.specs.Loops.{HasAppliedSome}
use Rattle.slotted_rules.proofs.written.apply_found.Given as goal

abbrev pub invariant-loop-answer : goal.invariant-loop-answer
invariant-loop-answer g l =
    let form = g.L.LanguageChildren.form in
    record {
      so_far : HasAppliedSome (AnswersBetween g.N.Analysis.codes g.N.Analysis.meaning (g.C.Cond.answers l.rule.condition) l.fn.graph l.graph) (tree_of form l.rule.left) (tree_of form l.rule.right) (string_bytes l.rule.name) l.found l.answer l.united l.fn.graph l.graph;
      carries : CarriesAlong g.N.Analysis.codes g.N.Analysis.meaning l.fn.graph l.graph;
    }
