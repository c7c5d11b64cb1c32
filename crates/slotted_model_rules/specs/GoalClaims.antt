-- The laws of goals, and of the nodes beside which a goal is held, all owed by `goal_laws_hold` in src/matcher.rt.
use Rattle.std.specs.Prelude.{◌≡◌, ◌≢◌, ◌⊎◌, ◌↔◌, ℕ, List, [], ◌∷◌, ◌++◌, Contains, filter, Some, None, Bool, true, false, cond}
use Rattle.slotted_theory.specs.Nameless.{DArgs, moved, moved_args}
use Rattle.slotted_theory.specs.FiniteMaps.{filled}
use Rattle.slotted_theory.specs.Shape.{free_names}
use Rattle.slotted_model.specs.Applied.{Applied, values}
use Rattle.slotted_model.specs.Classes.{IsFull}
use Rattle.slotted_model.specs.Correspondence.{AllDifferent, IsInjectiveOn}
use Rattle.slotted_model.specs.Extraction.{row_class}
use Rattle.slotted_model.specs.Find.{find_class, find_map, find}
use Rattle.slotted_model.specs.State.{Row, State}
use Rattle.slotted_model.specs.Rest.{IsValidIn, AtRest}
use Rattle.slotted_model.proofs.Rebuilding.RowNodes.{row_node}
use Rattle.slotted_model_rules.specs.Patterns.{Pattern, PatternArgs, pattern_node, variable, replacing, IsOfRow}
use Rattle.slotted_model_rules.specs.Matcher.{NodeArgs, unnamed, bound_names, MatchState, value_at, walked, IsRowFor, IsNodeOf, Gives, with_value, Found}
use Rattle.slotted_model_rules.specs.Goals.{FoundAll, goals_of, AtRow, own_slots, own_names, paired_all, outlines_agree, has_outline}

-- a single goal is found as its pattern is
abbrev pub OneGoalIsFound : Type 0
OneGoalIsFound =
    (g : State) (order : List Row) (p : Pattern) (a : Applied) (st : MatchState) (outs : List MatchState) →
    FoundAll g order ((p, a) ∷ []) st outs ↔ Found g order p st a outs

-- a list of goals after another one goes on from each state that the first leaves
abbrev pub GoalsGoOn : Type 0
GoalsGoOn =
    (g : State) (order : List Row) (goals more : List (Pattern × Applied)) (st : MatchState) (outs : List MatchState) →
    FoundAll g order (goals ++ more) st outs ↔ ((mid : List MatchState) × FoundAll g order goals st mid × Gives (λ s here. FoundAll g order more s here) mid outs)

-- a variable in front takes the id as its value, or has one that is compared with it, and then the rest is found: so it leaves one
-- state or none
pub record VariablesTakeValues : Type 0 where
  pub in_front : (g : State) (order : List Row) (v : List ℕ) (a : Applied) (goals : List (Pattern × Applied)) (st : MatchState) (outs : List MatchState) →
      FoundAll g order ((variable v, a) ∷ goals) st outs ↔ Gives (λ s here. FoundAll g order goals s here) (with_value g (value_at st.values v) st v a) outs
  pub new_value : (g : State) (order : List Row) (v : List ℕ) (a : Applied) (goals : List (Pattern × Applied)) (st : MatchState) (outs : List MatchState) →
      value_at st.values v ≡ None →
      FoundAll g order ((variable v, a) ∷ goals) st outs ↔ FoundAll g order goals (record st { values = (v, a) ∷ st.values }) outs
  pub same_value : (g : State) (order : List Row) (v : List ℕ) (a b : Applied) (goals : List (Pattern × Applied)) (st : MatchState) (outs : List MatchState) →
      value_at st.values v ≡ Some b → find g.found b ≡ find g.found a →
      FoundAll g order ((variable v, a) ∷ goals) st outs ↔ FoundAll g order goals st outs
  pub other_value : (g : State) (order : List Row) (v : List ℕ) (a b : Applied) (goals : List (Pattern × Applied)) (st : MatchState) (outs : List MatchState) →
      value_at st.values v ≡ Some b → find g.found b ≢ find g.found a →
      FoundAll g order ((variable v, a) ∷ goals) st outs ↔ (outs ≡ [])

-- a node in front is held beside each row in turn, and its child patterns are goals before the rest, from the state after the walk
abbrev pub NodesMakeGoals : Type 0
NodesMakeGoals =
    (g : State) (order : List Row) (op : ℕ) (payloads : List (List ℕ)) (args : PatternArgs) (a : Applied) (goals : List (Pattern × Applied)) (st : MatchState) (outs : List MatchState) →
    FoundAll g order ((pattern_node op payloads args, a) ∷ goals) st outs ↔
    Gives (AtRow g op payloads args st a (λ n s here. FoundAll g order (goals_of args n ++ goals) s here)) order outs

-- nothing is found of a substitution in front
abbrev pub SubstitutionsAreNotFound : Type 0
SubstitutionsAreNotFound =
    (g : State) (order : List Row) (body part value : Pattern) (a : Applied) (goals : List (Pattern × Applied)) (st : MatchState) (outs : List MatchState) →
    FoundAll g order ((replacing body part value, a) ∷ goals) st outs ↔ (outs ≡ [])

-- at rest rows can be passed over that do not fit, or whose names, binders and children stand in other places than the pattern's:
-- the rows that are kept give the same
abbrev pub RowsCanBePassedOver : Type 0
RowsCanBePassedOver =
    (g : State) → AtRest g → (order : List Row) → ((r : Row) → Contains order r → Contains g.rows r) →
    (op : ℕ) (payloads : List (List ℕ)) (args : PatternArgs) (a : Applied) → IsValidIn g a → (keep : Row → Bool) →
    ((r : Row) → Contains order r → keep r ≡ false → (¬ IsRowFor g r op payloads a) ⊎ (has_outline args r.shape.args ≡ false)) →
    (goals : List (Pattern × Applied)) (st : MatchState) (outs : List MatchState) →
    FoundAll g order ((pattern_node op payloads args, a) ∷ goals) st outs ↔
    Gives (AtRow g op payloads args st a (λ n s here. FoundAll g order (goals_of args n ++ goals) s here)) (filter keep order) outs

-- at rest the goals that a node makes are at valid ids again
abbrev pub GoalsAreValid : Type 0
GoalsAreValid =
    (g : State) → AtRest g → (seen : List ℕ) (r : Row) (a : Applied) (args : PatternArgs) (n : NodeArgs) → IsNodeOf g seen r a n →
    outlines_agree args n ≡ true → (q : Pattern × Applied) → Contains (goals_of args n) q → IsValidIn g q.1

-- at rest each name of what a full id of a row's source finds stands in the row's node
abbrev pub FoundNamesStand : Type 0
FoundNamesStand =
    (g : State) → AtRest g → (r : Row) → Contains g.rows r → (b : Applied) → IsFull g.nodes b → b.0 ≡ r.source →
    (z : ℕ) → Contains (values (find g.found b).1) z → Contains (free_names (row_node r b).args) z

-- so the names of the id that do not stand there can be others than any that are to be avoided: there is an id that finds the same,
-- with the same node
abbrev pub HiddenNamesCanBeNew : Type 0
HiddenNamesCanBeNew =
    (g : State) → AtRest g → (r : Row) → Contains g.rows r → (b : Applied) → IsFull g.nodes b → b.0 ≡ r.source → (avoid : List ℕ) →
    (c : Applied) × IsFull g.nodes c × (c.0 ≡ b.0) × (find g.found c ≡ find g.found b) × (row_node r c ≡ row_node r b)
    × ((z : ℕ) → Contains (values c.1) z → Contains (free_names (row_node r b).args) z ⊎ (¬ Contains avoid z))

-- and a node is one of the matcher's if the names that stand in it are new or found, and its binders are new
abbrev pub StandingNamesSuffice : Type 0
StandingNamesSuffice =
    (g : State) → AtRest g → (seen : List ℕ) (r : Row) (a b : Applied) (n : NodeArgs) → IsOfRow g r b a →
    unnamed (λ y. y) n ≡ (row_node r b).args → AllDifferent (bound_names n) →
    ((z : ℕ) → Contains (bound_names n) z → (¬ Contains seen z) × (¬ Contains (free_names (row_node r b).args) z)) →
    ((z : ℕ) → Contains (free_names (row_node r b).args) z → Contains (values (find g.found a).1) z ⊎ (¬ Contains seen z)) →
    IsNodeOf g seen r a n

-- at rest the numbers of a row's shape can have any names, if different ones, and for a slot that is found the name that was found: there is
-- an id with this node that finds the same
abbrev pub RowsTakeNames : Type 0
RowsTakeNames =
    (g : State) → AtRest g → (r : Row) → Contains g.rows r → (a : Applied) → IsValidIn g a → row_class g r ≡ find_class g.found a.0 →
    (ν : ℕ → ℕ) → IsInjectiveOn ν (free_names r.shape.args) →
    ((i s : ℕ) → Contains (free_names r.shape.args) i → Contains (find_map g.found r.source) (s, filled r.slots i) → Contains (find g.found a).1 (s, ν i)) →
    (b : Applied) × IsOfRow g r b a × (row_node r b ≡ moved ν r.shape)

-- so a node that is named so, number by number, is one of the matcher's, if the names that were not found are new, and its binders
abbrev pub NamedRowsAreNodes : Type 0
NamedRowsAreNodes =
    (g : State) → AtRest g → (r : Row) → Contains g.rows r → (a : Applied) → IsValidIn g a → row_class g r ≡ find_class g.found a.0 →
    (ν : ℕ → ℕ) → IsInjectiveOn ν (free_names r.shape.args) →
    ((i s : ℕ) → Contains (free_names r.shape.args) i → Contains (find_map g.found r.source) (s, filled r.slots i) → Contains (find g.found a).1 (s, ν i)) →
    (seen : List ℕ) (n : NodeArgs) → unnamed (λ y. y) n ≡ moved_args ν r.shape.args → AllDifferent (bound_names n) →
    ((z : ℕ) → Contains (bound_names n) z → (¬ Contains seen z) × ((i : ℕ) → Contains (free_names r.shape.args) i → ν i ≢ z)) →
    ((i : ℕ) → Contains (free_names r.shape.args) i → Contains (values (find g.found a).1) (ν i) ⊎ (¬ Contains seen (ν i))) →
    IsNodeOf g seen r a n

-- a walk is the pairing of two flat lists, if names, binders and children stand in the same places, and else there is none
abbrev pub WalksAreFlat : Type 0
WalksAreFlat =
    (args : PatternArgs) (n : NodeArgs) (pairs : List (ℕ × ℕ)) →
    walked args n pairs ≡ cond (outlines_agree args n) (paired_all pairs (own_names n) (own_slots args)) None

-- whether they do can be seen without names, and other names change nothing
pub record OutlinesHaveNoNames : Type 0 where
  pub without_names : (ρ : ℕ → ℕ) (args : PatternArgs) (n : NodeArgs) → has_outline args (unnamed ρ n) ≡ outlines_agree args n
  pub with_others : (f : ℕ → ℕ) (args : PatternArgs) (d : DArgs) → has_outline args (moved_args f d) ≡ has_outline args d

-- all these laws
pub record GoalLaws : Type 0 where
  pub one_goal_is_found : OneGoalIsFound
  pub goals_go_on : GoalsGoOn
  pub variables_take_values : VariablesTakeValues
  pub nodes_make_goals : NodesMakeGoals
  pub substitutions_are_not_found : SubstitutionsAreNotFound
  pub rows_can_be_passed_over : RowsCanBePassedOver
  pub goals_are_valid : GoalsAreValid
  pub found_names_stand : FoundNamesStand
  pub hidden_names_can_be_new : HiddenNamesCanBeNew
  pub standing_names_suffice : StandingNamesSuffice
  pub rows_take_names : RowsTakeNames
  pub named_rows_are_nodes : NamedRowsAreNodes
  pub walks_are_flat : WalksAreFlat
  pub outlines_have_no_names : OutlinesHaveNoNames
