-- Where places and children stand in a list of arguments, and what a write leaves.
--     IsAtPlace args i k j      the place i is the place j of the argument k
--     IsChildAt args k n        the argument n is the child k
--     HasName es i s ds         ds are the elements es with the name s at the place i
--     HasChild es k a           a is the child k of the elements
--     HasOtherChild es k a ds   ds are the elements es with a for the child k
use Rattle.std.specs.Prelude.{◌≡◌, ℕ, ◌+◌, ◌<◌, List, [], ◌++◌, length, take, drop, slice_set}
use Rattle.slotted_slots.specs.Maps.{keys, values}
use Rattle.slotted_slots.specs.Syntax.{Element}
use Rattle.slotted_slots.specs.declared.types.AppliedId.{AppliedId}
use Rattle.slotted_nodes.specs.Form.{child_id, child_keys, child_names, child_place, width, with_child_in}
use Rattle.slotted_nodes.specs.ReadFrom.{slots_of, applied_count}
use Rattle.slotted_symbols.specs.Arguments.{elements, tree_of, kinds, form_over}
use Rattle.slotted_symbols.specs.declared.argument.Argument.{Argument}

pub record IsAtPlace (args : List Argument) (i k j : ℕ) : Type 0 where
  pub within : k < length args
  pub place : length (slots_of (elements (take k args))) + j ≡ i
  pub inside : i < length (slots_of (elements (take (k + 1) args)))

pub record IsChildAt (args : List Argument) (k n : ℕ) : Type 0 where
  pub within : n < length args
  pub before : applied_count (elements (take n args)) ≡ k
  pub one : applied_count (elements (take (n + 1) args)) ≡ k + 1

pub record HasName (es : List Element) (i s : ℕ) (ds : List Element) : Type 0 where
  pub count : length ds ≡ length es
  pub kind : kinds ds ≡ kinds es
  pub tree : tree_of ds ≡ tree_of es
  pub names : slots_of ds ≡ slice_set (slots_of es) i s

pub record HasChild (es : List Element) (k : ℕ) (a : AppliedId) : Type 0 where
  pub id : a.id.0 ≡ child_id (form_over [] es) k
  pub key : keys a.m ≡ child_keys (form_over [] es) k
  pub names : values a.m ≡ child_names (form_over [] es) k

pub record HasOtherChild (es : List Element) (k : ℕ) (a : AppliedId) (ds : List Element) : Type 0 where
  pub count : length ds ≡ length es
  pub kind : kinds ds ≡ kinds es
  pub tree : tree_of ds ≡ with_child_in (tree_of es) k a.id.0 (keys a.m)
  pub names : slots_of ds ≡ take (child_place (tree_of es) k) (slots_of es) ++ values a.m ++ drop (child_place (tree_of es) k + width (tree_of es) k) (slots_of es)
