use Rattle.std.proofs.Common.{ap, subst, Contains}
use Rattle.slotted_patterns.specs.View.{tree_of}
use Rattle.slotted_matching.specs.Compiled.{Compiling}
use Rattle.slotted_matching.proofs.StepSlots.{knows-none}
use Rattle.slotted_matching.proofs.Compiling.{compiled}
use Rattle.slotted_matching.proofs.compile.compile.Goals as goal

pub returns-clause-ok : goal.returns-clause-ok
returns-clause-ok g c =
    let view = c.compiler.view_is in
    compiled c.args.skeletons.now c.new-compiler.result c.add.new.self _ _ (tree_of g.L.LanguageChildren.form c.args.pattern.now) c.new-compiler.ensures
    (ap (λ (m : Compiling). m.steps) view) (ap (λ (m : Compiling). m.seen) view) c.in_ok-add.ensures.ok

pub returns-clause-known : goal.returns-clause-known
returns-clause-known g c t known y i =
    c.in_ok-add.ensures.slots t known (knows-none t c.new-compiler.result.slots (ap (λ (m : Compiling). m.slots) c.new-compiler.ensures)) y (subst (λ (m : Compiling). Contains m.slots y) c.compiler.view_is i)
