-- A binder that hides the place is found.
use Rattle.std.proofs.Common.{refl, rules}
use Rattle.slotted_nodes.proofs.PublicPlaces.{is_public-false, is_public-true}
use Rattle.slotted_nodes.proofs.children.LanguageChildren.is_public.Goals as goal

pub returns-in-loop-j-clause-test : goal.returns-in-loop-j-clause-test
returns-in-loop-j-clause-test g c =
    is_public-false (g.Self.LanguageChildren.form c.args.self.now) c.args.i c.loop-j.j c.in-Some.end c.loop-j-test.true c.in-Some.ensures c.if-i-end.true (search rules)

pub returns-clause-means : goal.returns-clause-means
returns-clause-means g c =
    (λ _. is_public-true (g.Self.LanguageChildren.form c.args.self.now) c.args.i (search rules) (search rules), λ _. refl)
