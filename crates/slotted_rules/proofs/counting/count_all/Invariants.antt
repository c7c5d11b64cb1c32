-- the rules so far were applied and counted, and those after them can be
use Rattle.std.proofs.Common.{◌≡◌, ℕ, List, take, drop}
use Rattle.slotted_model_rules.specs.Conditions.{Values}
use Rattle.slotted_graph.specs.Analysed.{LowersData}
use Rattle.slotted_rules.specs.Counting.{CanApplyRule, UnitesRule, counts_in}
use Rattle.slotted_rules.specs.Loops.{HasDone}
use Rattle.slotted_rules.proofs.counting.count_all.Given as goal

abbrev pub invariant-loop-rule : goal.invariant-loop-rule
invariant-loop-rule g l =
    let form = g.L.LanguageChildren.form in
    (done : List (List Values × ℕ)) ×
    HasDone (λ k. k.0) (UnitesRule form g.C.Cond.answers) (CanApplyRule form) (take l.rule-index l.rules) (drop l.rule-index l.rules) l.fn.found.items l.left.items done l.fn.graph l.graph ×
    (l.counts.items ≡ counts_in done) ×
    LowersData g.N.Analysis.codes g.N.Analysis.meaning l.fn.graph l.graph
