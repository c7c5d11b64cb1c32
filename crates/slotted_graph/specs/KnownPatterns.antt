-- Patterns that a graph can be asked for.
--     knows_node t f      the node f has fewer than 2^30 places, and the table knows the name at each
--     is_unknown t p      the pattern p is a node that is not known so
--     knows_pattern t p   it knows each node of the pattern so
--     HasSmallNodes p     each node of the pattern has fewer than 2^30 places
use Rattle.std.specs.Prelude.{Bool, true, false, not, ◌&&◌}
use Rattle.std.specs.List.{list_all}
use Rattle.std.proofs.Math.Dec.{ltb}
use Rattle.slotted_slots.specs.Table.{Table, is_known, slot_limit}
use Rattle.slotted_nodes.specs.Form.{Form, IsSmall}
use Rattle.slotted_patterns.specs.Tree.{PatternTree, enode, pvar, substitution, PatternRow, no_more, one_more}
use Rattle.std.specs.Prelude.{length}

abbrev pub knows_node : Table → Form → Bool
knows_node t f = ltb (length f.names) slot_limit && list_all (is_known t) f.names

abbrev pub is_unknown : Table → PatternTree → Bool
is_unknown t (enode f row) = not (knows_node t f)
is_unknown t (pvar v) = false
is_unknown t (substitution b x v) = false

abbrev mutual
  pub knows_pattern : Table → PatternTree → Bool
  knows_pattern t (enode f row) = know_row t row && knows_node t f
  knows_pattern t (pvar v) = true
  knows_pattern t (substitution b x v) = knows_pattern t b && (knows_pattern t x && knows_pattern t v)

  pub know_row : Table → PatternRow → Bool
  know_row t no_more = true
  know_row t (one_more p rest) = knows_pattern t p && know_row t rest

abbrev mutual
  pub HasSmallNodes : PatternTree → Type 0
  HasSmallNodes (enode f row) = IsSmall f × HaveSmallNodes row
  HasSmallNodes (pvar v) = Unit {0}
  HasSmallNodes (substitution b x v) = HasSmallNodes b × HasSmallNodes x × HasSmallNodes v

  pub HaveSmallNodes : PatternRow → Type 0
  HaveSmallNodes no_more = Unit {0}
  HaveSmallNodes (one_more p rest) = HasSmallNodes p × HaveSmallNodes rest
