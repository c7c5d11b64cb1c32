-- Instances that wait on a stack for the pattern of which theirs are parts.
--     Makes m g h                   h is built of g, where nothing is asserted if the method is known
--     IsReady t s q                 what is asked of a pattern of which an instance is built
--     last_ids n ids, ids_before n ids    the last n ids, and those before them
--     over_ids f ids                the node f over as many of the last ids as it has children
--     AreInstances m g h s ids qs   from g to h each id is one of an instance of its pattern
--     PutsLast m g h ids rest a     the last three ids give way to what the method answers for them
--     BuildsOver m g h s q ids rest a     those of the parts of q give way to one of an instance of q
use Rattle.std.specs.Prelude.{◌≡◌, ◌-◌, ◌++◌, ℕ, List, [], ◌∷◌, length, take, drop, IsSome}
use Rattle.slotted_slots.specs.Table.{Table}
use Rattle.slotted_nodes.specs.Form.{Form, children}
use Rattle.slotted_patterns.specs.Known.{HasKnownNames}
use Rattle.slotted_patterns.specs.Subpatterns.{parts, EndsInParts}
use Rattle.slotted_patterns.specs.Tree.{PatternTree}
use Rattle.slotted_model.specs.Applied.{Applied}
use Rattle.slotted_model_rules.specs.Conditions.{Values}
use Rattle.slotted_rule_patterns.specs.PatternCode.{pattern_in}
use Rattle.slotted_lookup.specs.Filling.{node_over}
use Rattle.slotted_graph.specs.Graph.{Graph}
use Rattle.slotted_graph.specs.States.{IsGraph}
use Rattle.slotted_rules.specs.Building.{AssertsNothing, Grows}
use Rattle.slotted_rules.specs.Instances.{HasValues, Instantiates}
use Rattle.slotted_rules.specs.Methods.{IsKnownMethod, Method}
use Rattle.slotted_rules.specs.Putting.{PutsIn}

pub record Makes (m : Method) (g h : Graph) : Type 0 where
  pub grows : Grows g h
  pub asserts : IsKnownMethod m → AssertsNothing g h

pub record IsReady (t : Table) (s : Values) (q : PatternTree) : Type 0 where
  pub known : HasKnownNames t q
  pub whole : IsSome (pattern_in q)
  pub given : HasValues s q

abbrev pub last_ids : ℕ → List Applied → List Applied
last_ids n ids = drop (length ids - n) ids

abbrev pub ids_before : ℕ → List Applied → List Applied
ids_before n ids = take (length ids - n) ids

abbrev pub over_ids : Form → List Applied → Form
over_ids f ids = node_over f (last_ids (length (children f.tree)) ids)

abbrev pub AreInstances : Method → Graph → Graph → Values → List Applied → List PatternTree → Type 0
AreInstances m g h s [] [] = Unit {0}
AreInstances m g h s [] (q ∷ qs) = ⊥
AreInstances m g h s (a ∷ ids) [] = ⊥
AreInstances m g h s (a ∷ ids) (q ∷ qs) = Instantiates m g h s q a × AreInstances m g h s ids qs

pub record PutsLast (m : Method) (g h : Graph) (ids rest : List Applied) (a : Applied) : Type 0 where
  pub body : Applied
  pub part : Applied
  pub value : Applied
  pub last : ids ≡ rest ++ (body ∷ part ∷ value ∷ [])
  pub puts : PutsIn m g h body part value a

-- whatever graph they were built from
pub record BuildsOver (m : Method) (g h : Graph) (s : Values) (q : PatternTree) (ids rest : List Applied) (a : Applied) : Type 0 where
  pub makes : Makes m g h
  pub left : rest ≡ ids_before (length (parts q)) ids
  pub builds : (before : Graph) (done : List PatternTree) → IsGraph before → HasKnownNames before.table q → Makes m before g → EndsInParts q done →
      AreInstances m before g s ids done → Instantiates m before h s q a
