-- Where the equations that a run asserts come from: rules are written, and a rule's condition is given by its answers.
--     ComesFromHook leaves g h n      the entry n entered in a call of the hook, between g and h
--     HaveOrigins form holds rules after leaves g h   each explicit entry that g has not comes from one of the rules, entered in a call of the hook, or entered in
--                                                 the edits after the rules
use Rattle.std.specs.Prelude.{◌≡◌, ◌⊎◌, ◌<◌, ◌≤◌, ℕ, List, length, Bool, Option}
use Rattle.slotted_nodes.specs.Form.{Form}
use Rattle.slotted_model.specs.ProofList.{explicit, step_at}
use Rattle.slotted_model_rules.specs.Conditions.{Values}
use Rattle.slotted_operations.specs.Graph.{Graph}
use Rattle.slotted_graph.specs.Extension.{ExtendsTo}
use Rattle.slotted_rules.specs.declared.rewrite.Rewrite.{Rewrite}
use Rattle.slotted_rules.specs.RuleOrigins.{ComesFromEdits, ComesFromRules}

pub record ComesFromHook {H T : Type 0} (leaves : H → Graph → ℕ → H → Graph → Option T → Type 0) (g h : Graph) (n : ℕ) : Type 0 where
  pub before : Graph
  pub after : Graph
  pub hook_before : H
  pub hook_after : H
  pub turns : ℕ
  pub stop : Option T
  pub called : leaves hook_before before turns hook_after after stop
  pub start : ExtendsTo g before
  pub end : ExtendsTo after h
  pub past : length before.image.entries ≤ n
  pub within : n < length after.image.entries

abbrev pub HaveOrigins : {L C H T : Type 0} → (L → Form) → (C → Values → Graph → Bool → Type 0) → List (Rewrite L C) → (Graph → Graph → Type 0) → (H → Graph → ℕ → H → Graph → Option T → Type 0) → Graph → Graph → Type 0
HaveOrigins form holds rules after leaves g h =
    (n : ℕ) → length g.image.entries ≤ n → n < length h.image.entries → step_at h.image.entries n ≡ explicit →
    ComesFromRules form holds rules g h n ⊎ ComesFromHook leaves g h n ⊎ ComesFromEdits after g h n
