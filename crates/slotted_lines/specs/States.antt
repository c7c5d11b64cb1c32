-- What contracts see of a session.
--     SessionState         a graph, and the rules so far
--     state_of s           what the session s is
--     empty_state          the graph without classes, and no rules
--     AreSearchable        where the graph has not failed, its table knows the names of each rule, and each can be searched
use Rattle.std.specs.Prelude.{◌⊎◌, List, [], All, IsTrue, false}
use Rattle.slotted_slots.specs.Table.{empty_table}
use Rattle.slotted_nodes.specs.Form.{Form}
use Rattle.slotted_operations.specs.Graph.{Graph}
use Rattle.slotted_graph.specs.Analysed.{new_graph}
use Rattle.slotted_data.specs.Meaning.{unit_code}
use Rattle.slotted_rules.specs.Written.{CanBeSearched}
use Rattle.slotted_rules.specs.declared.condition.Always.{Always}
use Rattle.slotted_rules.specs.declared.rewrite.Rewrite.{Rewrite}
use Rattle.slotted_lines.specs.declared.session.Session.{Session}

pub record SessionState (L : Type 0) : Type 0 where
  pub graph : Graph
  pub rules : List (Rewrite L Always)

abbrev pub state_of : {L : Type 0} → Session L → SessionState L
state_of s = record { graph = s.graph; rules = s.rules.items }

abbrev pub empty_state : {L : Type 0} → SessionState L
empty_state = record { graph = new_graph (unit_code, unit_code) tt empty_table; rules = [] }

abbrev pub AreSearchable : {L : Type 0} → (L → Form) → SessionState L → Type 0
AreSearchable form s = IsTrue s.graph.failed ⊎ All (CanBeSearched form s.graph.table) s.rules
