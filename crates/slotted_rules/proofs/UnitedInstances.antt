-- Both instances stand in the graph that is built of both.
use Rattle.std.proofs.Common.{◌≡◌, inl, inr, ℕ, List, []}
use Rattle.std.specs.Prelude.{◌⊎◌, Bool, IsTrue, IsErr, IfOk, OnOk, Option, Result, Ok, Err}
use Rattle.std.proofs.lemmas.Bool.{false≢true}
use Rattle.slotted_slots.specs.declared.error.Error.{Error}
use Rattle.slotted_slots.specs.declared.types.AppliedId.{AppliedId}
use Rattle.slotted_patterns.specs.Tree.{PatternTree}
use Rattle.slotted_proofs.specs.Equations.{to_applied}
use Rattle.slotted_graph.specs.declared.method.SubstMethod.{SubstMethod}
use Rattle.slotted_graph.specs.declared.method.SubstMethod.TheVariants.{SynExpr, Extraction}
use Rattle.slotted_graph.specs.Graph.{Graph, OnlyTakesSlots, RecordsUnion}
use Rattle.slotted_graph.specs.Image.{IsUnion}
use Rattle.slotted_graph.specs.States.{IsGraph}
use Rattle.slotted_graph.proofs.Extending.{extends-then, extends-united}
use Rattle.slotted_model_rules.specs.Conditions.{Values}
use Rattle.slotted_rules.specs.Filled.{AreFullValues, FillsValues}
use Rattle.slotted_rules.specs.Instances.{Instantiates}
use Rattle.slotted_rules.specs.Methods.{IsKnownMethod, method_of}
use Rattle.slotted_rules.specs.Uniting.{UnitesInstances}
use Rattle.slotted_rules.proofs.Answers.{instance-wider, makes-instance, makes-then}
use Rattle.slotted_rules.proofs.BuiltInstances.{makes-itself, makes-takes}
use Rattle.slotted_rules.proofs.FilledValues.{fills-wider, full-values-later}
use Rattle.slotted_rules.proofs.Growing.{builds-takes}

-- a method of a graph is known
pub known-method : (x : SubstMethod) → IsKnownMethod (method_of x)
known-method SynExpr = tt
known-method Extraction = tt

module _ (x : SubstMethod) (g i e f h : Graph) (s filled : Values) (p q : PatternTree) (left right : AppliedId) (text : Option (List ℕ)) (is : IsGraph g)
    (takes : OnlyTakesSlots g i) (fills : FillsValues g.table g.image.canonical [] s filled) (full : AreFullValues i filled)
    (first : Instantiates (method_of x) i e filled p (to_applied left)) (second : Instantiates (method_of x) e f filled q (to_applied right)) where
  united : (y : Bool) → IsGraph h → IsUnion f.image h.image (to_applied left) (to_applied right) y → RecordsUnion f h left right text → h.table ≡ f.table → UnitesInstances g h s p q text y
  united y rests union recorded table =
      let m = method_of x in
      let none = builds-takes g i is takes in
      let zero = makes-takes m g i is takes in
      let one = makes-instance m i e filled p (to_applied left) first in
      let two = makes-instance m e f filled q (to_applied right) second in
      let built = extends-then i e f first.grows.extends second.grows.extends in
      let all = extends-then g i f none.grows.extends built in
      record {
        built = f;
        filled = filled;
        fills = fills-wider g.table g.table g.image.canonical f.image.canonical (λ z k. k) all.canonical [] s filled fills;
        full = full-values-later i f filled built full;
        left = left;
        right = right;
        method = x;
        left_instance = instance-wider m g i e f filled p (to_applied left) zero two first;
        right_instance = instance-wider m g e f f filled q (to_applied right) (makes-then m g i e zero one) (makes-itself m f second.grows.graph) second;
        union = union;
        recorded = recorded;
        graph = rests;
        extends = extends-then g f h all (extends-united f h left right text y union recorded table);
        later = extends-united f h left right text y union recorded table;
      }

  pub ok-united : (r : Result Bool Error) → IsTrue h.failed ⊎ IsGraph h → (IsTrue h.failed → IsErr r) → IfOk r (IsUnion f.image h.image (to_applied left) (to_applied right)) → OnOk r (RecordsUnion f h left right text) → h.table ≡ f.table → IfOk r (UnitesInstances g h s p q text)
  ok-united (Ok y) (inl failed) fails union recorded table = absurd (false≢true (fails failed))
  ok-united (Ok y) (inr rests) fails union recorded table = united y rests union recorded table
  ok-united (Err e) rests fails union recorded table = tt
