-- What conditions read of a match.
--     ReadName              a slot, or a variable by its name
--     has_name x f          the node f has fewer than 2^30 places, and the slot x at one of them
--     is_node_with x t      the pattern t is such a node
--     stands_in x t         such a node stands in the pattern t
--     has_read_name t n     the pattern has the slot, or the variable
--     first_unread t names  the first of the names that the pattern lacks
--     tree_reads c          what a condition of one type reads
--     IsUnread n e          e says that n is lacking; memory may lack for that
--     IsUnreadOf t names e  it says so of the first of the names that the pattern lacks
use Rattle.std.specs.Prelude.{◌≡◌, ℕ, List, [], ◌∷◌, ◌++◌, length, Bool, false, not, ◌&&◌, ◌||◌, Option, Some, codes, string_bytes}
use Rattle.std.specs.List.{find}
use Rattle.std.proofs.Math.Dec.{ltb}
use Rattle.slotted_slots.specs.Table.{slot_limit}
use Rattle.slotted_slots.specs.declared.error.Error.{Error}
use Rattle.slotted_nodes.specs.Form.{Form}
use Rattle.slotted_model.specs.Correspondence.{has_slot}
use Rattle.slotted_patterns.specs.Tree.{PatternTree, enode, pvar, substitution, PatternRow, no_more, one_more}
use Rattle.slotted_rule_patterns.specs.Variables.{has_variable}
use Rattle.slotted_rules.specs.Asking.{IsMissing}
use Rattle.slotted_rules.specs.declared.condition_tree.CondTree.{CondTree, fold-CondTree}
use Rattle.slotted_rules.specs.declared.condition_tree.CondTree.TheOpen.{CondTree-F}

pub data ReadName : Type 0 where
  slot_name : (slot : ℕ) → ReadName
  variable_name : (name : List ℕ) → ReadName

abbrev pub has_name : ℕ → Form → Bool
has_name x f = ltb (length f.names) slot_limit && has_slot f.names x

abbrev pub is_node_with : ℕ → PatternTree → Bool
is_node_with x (enode f row) = has_name x f
is_node_with x (pvar v) = false
is_node_with x (substitution b p v) = false

abbrev mutual
  pub stands_in : ℕ → PatternTree → Bool
  stands_in x (enode f row) = stands_in_row x row || has_name x f
  stands_in x (pvar v) = false
  stands_in x (substitution b p v) = stands_in x b || (stands_in x p || stands_in x v)

  pub stands_in_row : ℕ → PatternRow → Bool
  stands_in_row x no_more = false
  stands_in_row x (one_more p rest) = stands_in x p || stands_in_row x rest

abbrev pub has_read_name : PatternTree → ReadName → Bool
has_read_name t (slot_name x) = stands_in x t
has_read_name t (variable_name v) = has_variable t v

abbrev pub first_unread : PatternTree → List ReadName → Option ReadName
first_unread t names = find (λ n. not (has_read_name t n)) names

-- one level, with what is read below
abbrev pub reads_step : CondTree-F (List ReadName) → List ReadName
reads_step CondTree-F.Always = []
reads_step (CondTree-F.SlotFreeIn c) = variable_name (string_bytes c.variable) ∷ slot_name c.slot ∷ []
reads_step (CondTree-F.Or first second) = first.value ++ second.value
reads_step (CondTree-F.And first second) = first.value ++ second.value
reads_step (CondTree-F.Not c) = c.value

abbrev pub tree_reads : CondTree → List ReadName
tree_reads c = fold-CondTree (List ReadName) reads_step c

-- a slot is told by a sign alone, since its text stands in a table
abbrev pub IsUnread : ReadName → Error → Type 0
IsUnread (slot_name x) e = IsMissing (codes "$") e
IsUnread (variable_name v) e = IsMissing v e

abbrev pub IsUnreadOf : PatternTree → List ReadName → Error → Type 0
IsUnreadOf t names e = (n : ReadName) × (first_unread t names ≡ Some n) × IsUnread n e
