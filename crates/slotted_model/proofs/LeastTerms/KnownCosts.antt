-- Costs that are lawful on a graph's nodes are lawful enough for extraction from it.
use Rattle.std.specs.Prelude.{Contains}
use Rattle.slotted_theory.specs.Nameless.{DTerm}
use Rattle.slotted_model.specs.State.{Row, State}
use Rattle.slotted_model.specs.Cost.{CostFunction, AreAlike, IsLawfulOn, IsLawful}
use Rattle.slotted_model.specs.Extraction.{IsAlikeToRow, IsLawfulFor}

pub lawful-for : {C : Type 0} (P : DTerm → Type 0) (g : State) (k : CostFunction C) → IsLawfulOn P C k →
    ((d e : DTerm) → AreAlike d e → P e → P d) → ((r : Row) → Contains g.rows r → P r.shape) → IsLawfulFor C g k
lawful-for P g k law closed known = record {
  reflexive = law.reflexive;
  transitive = law.transitive;
  alike = λ d e xs p q. law.alike d e xs (at d p) (at e q);
  rises = λ d xs ys p. law.rises d xs ys (at d p);
  no_less = λ d xs p. law.no_less d xs (at d p);
}
  where
    at : (d : DTerm) → IsAlikeToRow g d → P d
    at d p = closed d p.0.shape p.2 (known p.0 p.1)

pub lawful-everywhere : {C : Type 0} (g : State) (k : CostFunction C) → IsLawful C k → IsLawfulFor C g k
lawful-everywhere g k law = lawful-for (λ d. Unit {0}) g k law (λ d e a p. p) (λ r c. tt)
