-- What written rules find and do, and the same counted when they are applied once. A rule's condition is given by its answers.
--     SearchesRule form r g found h        a search with the rule r finds these answers
--     CanApplyRule form r found g          they can be applied
--     AppliesRule form holds r found g h   an apply of r to them leaves h
--     RefusesRule form refuses r e         why r is refused
--     BreaksRule form holds refuses r found g h e    an apply of r to them is refused, and leaves h
--     UnitesRule form holds r k g h        an apply of r to the answers k.0 unites k.1 times what was not found equal before
--     counts_in ks                         what is told of each rule
--     CountsRules form holds rules g counts h      all rules are searched, then each is applied, and this is told of them
--     CountsAndModifies form holds rules after g counts h      so it is of a graph from which `after` leads to h
--     IsTurn form holds rules after g t h     the rules are applied once, and then `after`, rounds of edits, leads to h; t tells what the rules did, and whether
--                                             the progress measure changed
--     RefusesCounted form holds refuses rules g h e    all rules are searched, some are applied, and the apply of the next one is refused and leaves h
use Rattle.std.specs.Prelude.{◌≡◌, ◌↔◌, IsTrue, ℕ, List, length, map, Bool, string_bytes}
use Rattle.slotted_slots.specs.declared.error.Error.{Error}
use Rattle.slotted_nodes.specs.Form.{Form}
use Rattle.slotted_patterns.specs.View.{tree_of}
use Rattle.slotted_model_rules.specs.Conditions.{Values}
use Rattle.slotted_model_rules.specs.Runners.{AppliesAll, SearchesAll}
use Rattle.slotted_operations.specs.Graph.{Graph}
use Rattle.slotted_rules.specs.declared.counting.RuleCounts.{RuleCounts}
use Rattle.slotted_rules.specs.declared.counting.TurnCounts.{TurnCounts}
use Rattle.slotted_rules.specs.declared.rewrite.Rewrite.{Rewrite}
use Rattle.slotted_rules.specs.Applying.{HasProgressed, RefusesRules, ThenModifies}
use Rattle.slotted_rules.specs.Rewriting.{BreaksOff, CanBeApplied, IsRefusedRewrite, IsSearched, LeavesApplied, LeavesUnited}

abbrev pub SearchesRule : {L C : Type 0} → (L → Form) → Rewrite L C → Graph → List Values → Graph → Type 0
SearchesRule form r g found h = IsSearched (tree_of form r.left) g found h

abbrev pub CanApplyRule : {L C : Type 0} → (L → Form) → Rewrite L C → List Values → Graph → Type 0
CanApplyRule form r found g = CanBeApplied (tree_of form r.left) found g

abbrev pub AppliesRule : {L C : Type 0} → (L → Form) → (C → Values → Graph → Bool → Type 0) → Rewrite L C → List Values → Graph → Graph → Type 0
AppliesRule form holds r found g h = LeavesApplied (holds r.condition) (tree_of form r.left) (tree_of form r.right) (string_bytes r.name) found g h

abbrev pub UnitesRule : {L C : Type 0} → (L → Form) → (C → Values → Graph → Bool → Type 0) → Rewrite L C → List Values × ℕ → Graph → Graph → Type 0
UnitesRule form holds r k g h = LeavesUnited (holds r.condition) (tree_of form r.left) (tree_of form r.right) (string_bytes r.name) k.0 g h k.1

abbrev pub RefusesRule : {L C : Type 0} → (L → Form) → (C → Values → Graph → Error → Type 0) → Rewrite L C → Error → Type 0
RefusesRule form refuses r e = IsRefusedRewrite (refuses r.condition) (tree_of form r.right) e

abbrev pub BreaksRule : {L C : Type 0} → (L → Form) → (C → Values → Graph → Bool → Type 0) → (C → Values → Graph → Error → Type 0) → Rewrite L C → List Values → Graph → Graph → Error → Type 0
BreaksRule form holds refuses r found g h e = BreaksOff (holds r.condition) (refuses r.condition) (tree_of form r.left) (tree_of form r.right) (string_bytes r.name) found g h e

abbrev pub counts_in : List (List Values × ℕ) → List RuleCounts
counts_in = map (λ k. record { found = length k.0; united = k.1 })

pub record CountsRules {L C : Type 0} (form : L → Form) (holds : C → Values → Graph → Bool → Type 0) (rules : List (Rewrite L C)) (g : Graph) (counts : List RuleCounts) (h : Graph) : Type 0 where
  pub searched : Graph
  pub each : List (List Values × ℕ)
  pub by_searches : SearchesAll (SearchesRule form) rules g (map (λ k. k.0) each) searched
  pub by_applies : AppliesAll (UnitesRule form holds) rules each searched h
  pub told : counts ≡ counts_in each

-- the rules were applied to what was found, and this is told of them
abbrev pub AppliesCounted : {L C : Type 0} → (L → Form) → (C → Values → Graph → Bool → Type 0) → List (Rewrite L C) → List (List Values) → Graph → List RuleCounts → Graph → Type 0
AppliesCounted form holds rules founds g counts h = (each : List (List Values × ℕ)) × (map (λ k. k.0) each ≡ founds) × AppliesAll (UnitesRule form holds) rules each g h × (counts ≡ counts_in each)

-- and then edits are made
abbrev pub CountsAndModifies : {L C : Type 0} → (L → Form) → (C → Values → Graph → Bool → Type 0) → List (Rewrite L C) → (Graph → Graph → Type 0) → Graph → List RuleCounts → Graph → Type 0
CountsAndModifies form holds rules after g counts h = ThenModifies (λ e f. CountsRules form holds rules e counts f) after g h

-- no search is refused but over a failed graph, or if memory or slots ran out
abbrev pub RefusesCounted : {L C : Type 0} → (L → Form) → (C → Values → Graph → Bool → Type 0) → (C → Values → Graph → Error → Type 0) → List (Rewrite L C) → Graph → Graph → Error → Type 0
RefusesCounted form holds refuses rules g h e = RefusesRules (SearchesRule form) (λ _ _ _ _. ⊥) (AppliesRule form holds) (BreaksRule form holds refuses) rules g h e

pub record IsTurn {L C : Type 0} (form : L → Form) (holds : C → Values → Graph → Bool → Type 0) (rules : List (Rewrite L C)) (after : Graph → Graph → Type 0) (g : Graph) (t : TurnCounts) (h : Graph) : Type 0 where
  pub counts : CountsAndModifies form holds rules after g t.rules.items h
  pub changed : IsTrue t.changed ↔ HasProgressed g.image h.image
