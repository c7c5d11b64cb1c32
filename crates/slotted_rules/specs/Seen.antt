-- What contracts see of runs.
--     stop_of r                 the reason as the model has it
--     iteration_of i            what is stored of a turn, as the model has it
--     limits_of l, start_of l   the limits, and the reading before the first turn
--     Parts                     what a runner is
--     parts_of r                what the runner r is
--     seen p                    a runner as the model has it, over a graph with the state of a hook
--     new_parts graph clock     a new runner
--     with_other_hook h p       the runner p with the hook h
--     AddsRoot t p q            from p to q the term t is added, and its id is one root more
use Rattle.std.specs.Prelude.{◌≡◌, ℕ, List, [], ◌∷◌, ◌++◌, map, Option, Some, None, option_map, IsSome}
use Rattle.slotted_slots.specs.Table.{KnowsMore}
use Rattle.slotted_slots.specs.declared.types.AppliedId.{AppliedId}
use Rattle.slotted_theory.specs.Term.{Term}
use Rattle.slotted_model.specs.Growth.{Extends}
use Rattle.slotted_proofs.specs.Equations.{to_applied}
use Rattle.slotted_operations.specs.AddingTerms.{AddsNodes, FilesOnlyLookedUp, IsEqualToTerm, TakesForTerm}
use Rattle.slotted_operations.specs.Adding.{term_nodes}
use Rattle.slotted_operations.specs.Graph.{Graph}
use Rattle.slotted_operations.specs.Image.{AddsClasses}
use Rattle.slotted_operations.specs.LookUp.{IsOneGraph, KeepsLookUps, look_up_term}
use Rattle.slotted_operations.specs.Reports.{IsFound}
use Rattle.slotted_model_rules.specs.Runners.{Stop, saturated, iteration_limit, time_limit, node_limit, other, Limits, usual_limits, Iteration}
use Rattle.slotted_model_rules.specs.Runners as model
use Rattle.slotted_rules.specs.declared.report.StopReason.{StopReason}
use Rattle.slotted_rules.specs.declared.report.StopReason.TheVariants.{Saturated, IterationLimit, TimeLimit, NodeLimit, Other}
use Rattle.slotted_rules.specs.declared.iteration.Iteration as stored
use Rattle.slotted_rules.specs.declared.limits.RunnerLimits.{RunnerLimits}
use Rattle.slotted_rules.specs.declared.runner.Runner.{Runner}

abbrev pub stop_of : {T : Type 0} → StopReason T → Stop T
stop_of Saturated = saturated
stop_of IterationLimit = iteration_limit
stop_of TimeLimit = time_limit
stop_of NodeLimit = node_limit
stop_of (Other t) = other t

abbrev pub iteration_of : {D : Type 0} → stored.Iteration D → Iteration D
iteration_of i = record { made = i.made; num_nodes = i.num_nodes; finish_time = i.finish_time }

abbrev pub limits_of : RunnerLimits → Limits
limits_of l = record { iterations = l.iterations; nodes = l.nodes; time = l.time }

abbrev pub start_of : RunnerLimits → Option ℕ
start_of l = l.start

-- its graph, what is stored of its turns, its roots, why it has stopped, its limits, the reading before the first turn, its hook and its clock
pub record Parts (D T H K : Type 0) : Type 0 where
  pub graph : Graph
  pub iterations : List (Iteration D)
  pub roots : List AppliedId
  pub stop_reason : Option (Stop T)
  pub limits : Limits
  pub start : Option ℕ
  pub hook : H
  pub clock : K

abbrev pub parts_of : {L N D T H K X : Type 0} → Runner L N D T H K X → Parts D T H K
parts_of r = record {
  graph = r.egraph;
  iterations = map iteration_of r.iterations.items;
  roots = r.roots.items;
  stop_reason = option_map stop_of r.stop_reason;
  limits = limits_of r.limits;
  start = start_of r.limits;
  hook = r.hook;
  clock = r.clock;
}

abbrev pub seen : {D T H K : Type 0} → Parts D T H K → model.Runner (Graph × H) T D
seen p = record { graph = (p.graph, p.hook); stored = p.iterations; start = p.start; stop_reason = p.stop_reason }

abbrev pub new_parts : {D T H K : Type 0} → Graph → K → H → Parts D T H K
new_parts graph clock hook = record {
  graph = graph;
  iterations = [];
  roots = [];
  stop_reason = None;
  limits = usual_limits;
  start = None;
  hook = hook;
  clock = clock;
}

abbrev pub with_other_hook : {D T H J K : Type 0} → J → Parts D T H K → Parts D T J K
with_other_hook hook p = record {
  graph = p.graph;
  iterations = p.iterations;
  roots = p.roots;
  stop_reason = p.stop_reason;
  limits = p.limits;
  start = p.start;
  hook = hook;
  clock = p.clock;
}

-- the term is looked up as the root from now on, which is equal to it and finds itself. Where it was looked up nothing changes, and what was
-- there stays
pub record IsAdded (t : Term) (g h : Graph) (root : AppliedId) : Type 0 where
  pub id : look_up_term h t ≡ Some (to_applied root)
  pub found : IsFound h (to_applied root)
  pub equal : IsEqualToTerm h.image (to_applied root) t
  pub kept : IsSome (look_up_term g t) → IsOneGraph g h
  pub nodes : AddsNodes t g (term_nodes t) h
  pub filed : FilesOnlyLookedUp g h t
  pub answers : KeepsLookUps g h
  pub extends : Extends g.image.canonical h.image.canonical
  pub adds : AddsClasses g.image h.image
  pub more : KnowsMore g.table h.table
  pub takes : TakesForTerm t g h.table

-- the id of a term is appended
pub record AddsId (t : Term) (g h : Graph) (old new : List AppliedId) : Type 0 where
  pub root : AppliedId
  pub added : IsAdded t g h root
  pub appended : new ≡ old ++ root ∷ []

pub record AddsRoot {D T H K : Type 0} (t : Term) (p q : Parts D T H K) : Type 0 where
  pub adds : AddsId t p.graph q.graph p.roots q.roots
  pub rest : q ≡ record p { graph = q.graph; roots = q.roots }
