use Rattle.std.proofs.Common.{subst}
use Rattle.std.specs.Prelude.{IfSome}
use Rattle.slotted_model.specs.ProofList.{equation_of}
use Rattle.slotted_proofs.specs.Equations.{to_applied}
use Rattle.slotted_operations.specs.Explaining.{StandsAt}
use Rattle.slotted_deciding.proofs.Asked.{equal-later}
use Rattle.slotted_deciding.proofs.Growing.{leads-goes}
use Rattle.slotted_deciding.proofs.asking.prove_both.Goals as goal

pub returns-in-Some-clause-explained : goal.returns-in-Some-clause-explained
returns-in-Some-clause-explained g c =
    let h = c.proof_between.new.graph in
    let a = to_applied c.args.both.now.left in
    let b = to_applied c.args.both.now.right in
    record {
      stands = subst (λ o. IfSome o (λ p. StandsAt h.image p (equation_of a b))) c.in-Some.is c.in_ok-proof.ensures.stands;
      equal = equal-later c.args.graph.now h a b c.requires.left c.requires.right (leads-goes g.N.Analysis.codes g.N.Analysis.meaning c.args.graph.now h c.in_ok-proof.ensures.goes) c.requires.equal;
    }
