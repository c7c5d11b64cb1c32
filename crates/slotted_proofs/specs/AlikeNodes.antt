-- When two nodes are alike but for their children, and which equations their children have.
use Rattle.std.specs.Prelude.{◌≡◌, List, [], ◌∷◌, ◌++◌}
use Rattle.slotted_theory.specs.Nameless.{DArgs, DTerm, stop, place, sub, scope, moved}
use Rattle.slotted_theory.specs.FiniteMaps.{filled}
use Rattle.slotted_model.specs.Applied.{applied_of}
use Rattle.slotted_proofs.specs.declared.equation.Equation.{Equation as Sides}
use Rattle.slotted_proofs.specs.Equations.{to_applied}
use Rattle.slotted_proofs.specs.Steps.{Matches}

-- own names are equal, free ones as names and bound ones as places, binders stand at the same places, and each child on the left
-- with the child there on the right matches an equation of the list, in turn
abbrev pub AreAlikeArgs : DArgs → DArgs → List Sides → Type 0
AreAlikeArgs stop stop [] = Unit {0}
AreAlikeArgs (place x d) (place y e) children = (x ≡ y) × AreAlikeArgs d e children
AreAlikeArgs (sub o p a d) (sub q r b e) (c ∷ children) = Matches (applied_of p a) (applied_of r b) (to_applied c.l) (to_applied c.r) × AreAlikeArgs d e children
AreAlikeArgs (scope i d) (scope j e) children = (inner : List Sides) × (rest : List Sides) × (children ≡ inner ++ rest) ×
    AreAlikeArgs i j inner × AreAlikeArgs d e rest
AreAlikeArgs d e children = ⊥

-- the nodes c and d, with the names of the two sides of an equation put in, have the same operator, payloads, own names and
-- binders, and children with these equations
pub record AreAlikeNodes (c d : DTerm) (e : Sides) (children : List Sides) : Type 0 where
  pub operators : c.op ≡ d.op
  pub payloads : c.payloads ≡ d.payloads
  pub args : AreAlikeArgs (moved (filled e.l.m) c).args (moved (filled e.r.m) d).args children
