-- What a search over filed nodes finds.
--     IsIndexFor k r S x     the index is that of the filed nodes, which are those of a state at rest
--     AreReadings g order p c found   the substitutions read, one by one, the states in which the matcher finds the pattern at the class c
--     AreReadInTurn g order p found   so they do at each live class in its turn
--     Finds k r t found     these substitutions are what the matcher finds at the live classes, over all filed nodes
--     FindsAt k r c t found   these are what it finds at the class c
--     AreValidFound u k r found   each value is a valid id, whose names the table knows
--     HaveVariables t found   each of them has a value for each variable
--     slots_of p            the slots that a pattern writes, binders too
--     HaveFreshNames u t found   each name of a value is a slot of the pattern, or one that the table did not know
--     names_in s, name_count found   the names of the values of a substitution, each as often as it stands there, and how many all have
--     TakesFor t F old new       at most as many slots are taken as what can be found has names
--     RunsOutFor t F old new     fewer slots were left than that, and now none is
use Rattle.std.specs.Prelude.{◌≡◌, ◌↔◌, ◌⊎◌, ◌<◌, ◌+◌, ℕ, List, [], ◌∷◌, ◌++◌, Contains, Some, false, length, map}
use Rattle.std.specs.List.{flat_map}
use Rattle.slotted_slots.specs.Table.{Table, is_known}
use Rattle.slotted_model.specs.Applied.{Applied, values}
use Rattle.slotted_nodes.specs.Form.{Form}
use Rattle.slotted_model.specs.Rest.{AtRest, IsValidIn}
use Rattle.slotted_model.specs.Ascending.{IsAscending}
use Rattle.slotted_model.specs.Find.{IsLive}
use Rattle.slotted_model.specs.State.{Row, State}
use Rattle.slotted_model_rules.specs.Conditions.{Values}
use Rattle.slotted_model_rules.specs.Matcher.{MatchState, Found, Gives, Reads, class_id, start_at}
use Rattle.slotted_model_rules.specs.Patterns.{Pattern, PatternArgs, pattern_node, variable, replacing, no_argument, own_name, child_pattern, binding}
use Rattle.slotted_model_rules.specs.Rules.{Searches, valued}
use Rattle.slotted_patterns.specs.Tree.{PatternTree}
use Rattle.slotted_rule_patterns.specs.PatternCode.{pattern_in}
use Rattle.slotted_classes.specs.Kept.{Kept}
use Rattle.slotted_hashcons.specs.FiledRows.{Rows}
use Rattle.slotted_hashcons.specs.WellFiled.{state_in}
use Rattle.slotted_lookup.specs.Filling.{MakesAtMost, RunsOut}
use Rattle.slotted_match_machine.specs.declared.index.RowIndex.{RowIndex}
use Rattle.slotted_match_machine.specs.Index.{OneByOne}
use Rattle.slotted_match_machine.specs.Programs.{variables_of}
use Rattle.slotted_matching.specs.Answered.{HasName}
use Rattle.slotted_matching.specs.Compiled.{KnowsEach}
use Rattle.slotted_matching.specs.Indexed.{IsIndexed}

-- the index is that of the filed nodes, which are those of a state at rest
pub record IsIndexFor (k : Kept) (r : Rows) (S : List Form) (x : RowIndex) : Type 0 where
  pub rest : AtRest (state_in k r)
  pub is : IsIndexed k r S x

-- a substitution for each of the states that a run of the matcher ends in
pub record AreReadings (g : State) (order : List Row) (p : Pattern) (c : ℕ) (found : List Values) : Type 0 where
  pub outs : List MatchState
  pub run : Found g order p (start_at g c) (class_id g c) outs
  pub read : OneByOne (λ (out : MatchState) (s : Values). (f : ℕ → ℕ) × Reads g f (valued s) out) outs found

-- the live classes ascend
pub record AreReadInTurn (g : State) (order : List Row) (p : Pattern) (found : List Values) : Type 0 where
  pub live : List ℕ
  pub ascending : IsAscending live
  pub classes : (c : ℕ) → Contains live c ↔ ((c < length g.nodes) × IsLive g.found c)
  pub readings : Gives (AreReadings g order p) live found

-- in some order of the filed nodes
pub record IsFound (k : Kept) (r : Rows) (p : Pattern) (found : List Values) : Type 0 where
  pub order : List Row
  pub rows : (q : Row) → Contains (state_in k r).rows q ↔ Contains order q
  pub searches : Searches (state_in k r) order p found
  pub in_turn : AreReadInTurn (state_in k r) order p found

abbrev pub Finds : Kept → Rows → PatternTree → List Values → Type 0
Finds k r t found = (p : Pattern) → pattern_in t ≡ Some p → IsFound k r p found

-- the same at one class
pub record IsFoundAt (k : Kept) (r : Rows) (c : ℕ) (p : Pattern) (found : List Values) : Type 0 where
  pub order : List Row
  pub rows : (q : Row) → Contains (state_in k r).rows q ↔ Contains order q
  pub readings : AreReadings (state_in k r) order p c found

abbrev pub FindsAt : Kept → Rows → ℕ → PatternTree → List Values → Type 0
FindsAt k r c t found = (p : Pattern) → pattern_in t ≡ Some p → IsFoundAt k r c p found

-- and the table knows its names
abbrev pub AreValidFound : Table → Kept → Rows → List Values → Type 0
AreValidFound u k r found = (s : Values) → Contains found s → (e : List ℕ × Applied) → Contains s e → IsValidIn (state_in k r) e.1 × KnowsEach u (values e.1.1)

abbrev pub HaveVariables : PatternTree → List Values → Type 0
HaveVariables t found = (s : Values) → Contains found s → (p : Pattern) → pattern_in t ≡ Some p → (v : List ℕ) → Contains (variables_of p) v → Contains (map (λ e. e.0) s) v

abbrev mutual
  pub slots_of : Pattern → List ℕ
  slots_of (pattern_node op payloads args) = slots_in args
  slots_of (variable v) = []
  slots_of (replacing body part value) = slots_of body ++ (slots_of part ++ slots_of value)

  pub slots_in : PatternArgs → List ℕ
  slots_in no_argument = []
  slots_in (own_name x rest) = x ∷ slots_in rest
  slots_in (child_pattern p rest) = slots_of p ++ slots_in rest
  slots_in (binding x inner rest) = x ∷ (slots_in inner ++ slots_in rest)

abbrev pub HaveFreshNames : Table → PatternTree → List Values → Type 0
HaveFreshNames u t found = (s : Values) → Contains found s → (p : Pattern) → pattern_in t ≡ Some p → (y : ℕ) → HasName s y → Contains (slots_of p) y ⊎ (is_known u y ≡ false)

abbrev pub names_in : Values → List ℕ
names_in s = flat_map (λ (e : List ℕ × Applied). values e.1.1) s

abbrev pub name_count : List Values → ℕ
name_count [] = 0
name_count (s ∷ found) = length (names_in s) + name_count found

-- F says which substitutions can be found
abbrev pub TakesFor : PatternTree → (Pattern → List Values → Type 0) → Table → Table → Type 0
TakesFor t F old new = (p : Pattern) → pattern_in t ≡ Some p → (found : List Values) × F p found × MakesAtMost (name_count found) old new

abbrev pub RunsOutFor : PatternTree → (Pattern → List Values → Type 0) → Table → Table → Type 0
RunsOutFor t F old new = (p : Pattern) → pattern_in t ≡ Some p → (found : List Values) × F p found × RunsOut (name_count found) old new
