-- The condition that the instances of two patterns are not found equal as they stand.
--     IsSeen g s t a             a is the id of the instance of t by the values s: its e-nodes are looked up from below, over the ids of their children
--     AreSeen g s row ids        these are the ids of those of the patterns of a row
--     AreSeenEqual g s p q       instances of both patterns have ids, and these are found equal
--     SaysUnless P g s p q y     y is what a condition answers that holds where another one does, unless both instances are seen to be equal
--     IsSparing r q              the rule q has the name, the sides and the condition of r, and this one more
--     IsSeenNode g f o           o is the id of the node f over ids, or nothing where it is not valid or has none
--     SaysSeen g s t o           o is the id of an instance, or nothing where there is none
--     SeesOver g s t ids rest o  the same over the last ids, which are those of the parts of t and are taken
use Rattle.std.specs.Prelude.{◌≡◌, ◌⊎◌, List, [], ◌∷◌, length, Bool, true, false, Option, None, Some, string_bytes}
use Rattle.slotted_nodes.specs.Form.{Form, children}
use Rattle.slotted_patterns.specs.Subpatterns.{parts}
use Rattle.slotted_patterns.specs.Tree.{PatternTree, enode, pvar, substitution, PatternRow, no_more, one_more, row_of}
use Rattle.slotted_patterns.specs.View.{tree_of}
use Rattle.slotted_model.specs.Applied.{Applied}
use Rattle.slotted_model_rules.specs.Conditions.{Values}
use Rattle.slotted_model_rules.specs.Matcher.{value_at}
use Rattle.slotted_lookup.specs.Filling.{node_over}
use Rattle.slotted_graph.specs.Graph.{Graph}
use Rattle.slotted_graph.specs.Image.{FoundAlike}
use Rattle.slotted_graph.specs.LookUp.{look_up}
use Rattle.slotted_graph.specs.ValidIds.{IsValidNode}
use Rattle.slotted_rules.specs.Stacked.{ids_before, last_ids}
use Rattle.slotted_rules.specs.Asking.{IsOneAnswer}
use Rattle.slotted_rules.specs.declared.rewrite.Rewrite.{Rewrite}
use Rattle.slotted_rules.specs.declared.unless.UnlessEqual.{UnlessEqual}
use Rattle.slotted_slots.specs.declared.error.Error.TheVariants.{Failed}
use Rattle.slotted_slots.specs.Error.{IsOutOfMemory}
use Rattle.std.proofs.Common.{◌∙◌, sym, inl, inr}
use Rattle.std.proofs.lemmas.Bool.{false≢true}

abbrev mutual
  -- the value of a variable stands for it; a substitution is not looked up
  pub IsSeen : Graph → Values → PatternTree → Applied → Type 0
  IsSeen g s (enode f row) a =
      (ids : List Applied) × AreSeen g s row ids × (length ids ≡ length (children f.tree)) × IsValidNode g (node_over f ids)
      × (look_up g (node_over f ids) ≡ Some a)
  IsSeen g s (pvar v) a = value_at s v ≡ Some a
  IsSeen g s (substitution b x t) a = ⊥

  pub AreSeen : Graph → Values → PatternRow → List Applied → Type 0
  AreSeen g s no_more [] = Unit {0}
  AreSeen g s no_more (a ∷ ids) = ⊥
  AreSeen g s (one_more p rest) [] = ⊥
  AreSeen g s (one_more p rest) (a ∷ ids) = IsSeen g s p a × AreSeen g s rest ids

pub record AreSeenEqual (g : Graph) (s : Values) (p q : PatternTree) : Type 0 where
  pub left : Applied
  pub right : Applied
  pub left_seen : IsSeen g s p left
  pub right_seen : IsSeen g s q right
  pub equal : FoundAlike g.image left right

abbrev pub SaysUnless : (Bool → Type 0) → Graph → Values → PatternTree → PatternTree → Bool → Type 0
SaysUnless P g s p q y =
    (P false × (y ≡ false)) ⊎ (P true × AreSeenEqual g s p q × (y ≡ false)) ⊎ (P true × (¬ AreSeenEqual g s p q) × (y ≡ true))

-- no condition answers both

pub unless-one : (P : Bool → Type 0) → IsOneAnswer P → (g : Graph) (s : Values) (p q : PatternTree) → IsOneAnswer (SaysUnless P g s p q)
unless-one P one g s p q x y (inl a) (inl b) = a.1 ∙ sym b.1
unless-one P one g s p q x y (inl a) (inr (inl b)) = a.1 ∙ sym b.2
unless-one P one g s p q x y (inl a) (inr (inr b)) = absurd (false≢true (one false true a.0 b.0))
unless-one P one g s p q x y (inr (inl a)) (inl b) = a.2 ∙ sym b.1
unless-one P one g s p q x y (inr (inl a)) (inr (inl b)) = a.2 ∙ sym b.2
unless-one P one g s p q x y (inr (inl a)) (inr (inr b)) = absurd (b.1 a.1)
unless-one P one g s p q x y (inr (inr a)) (inl b) = absurd (false≢true (one false true b.0 a.0))
unless-one P one g s p q x y (inr (inr a)) (inr (inl b)) = absurd (a.1 b.1)
unless-one P one g s p q x y (inr (inr a)) (inr (inr b)) = a.2 ∙ sym b.2

pub memory-never_failed : {P Q : Type 0} → ¬ P → ¬ (P ⊎ (Q × IsOutOfMemory Failed))
memory-never_failed np (inl p) = np p
memory-never_failed np (inr q) = cc

pub record IsSparing {L C : Type 0} (form : L → Form) (r : Rewrite L C) (q : Rewrite L (UnlessEqual L C)) : Type 0 where
  pub name : string_bytes q.name ≡ string_bytes r.name
  pub left : q.left ≡ r.left
  pub right : q.right ≡ r.right
  pub condition : q.condition.condition ≡ r.condition
  pub left_copied : tree_of form q.condition.left ≡ tree_of form r.left
  pub right_copied : tree_of form q.condition.right ≡ tree_of form r.right

abbrev pub IsSeenNode : Graph → Form → Option Applied → Type 0
IsSeenNode g f o = ((¬ IsValidNode g f) × (o ≡ None)) ⊎ (IsValidNode g f × (look_up g f ≡ o))

pub record SaysSeen (g : Graph) (s : Values) (t : PatternTree) (o : Option Applied) : Type 0 where
  pub some : (a : Applied) → o ≡ Some a → IsSeen g s t a
  pub none : o ≡ None → (a : Applied) → ¬ IsSeen g s t a

pub record SeesOver (g : Graph) (s : Values) (t : PatternTree) (ids rest : List Applied) (o : Option Applied) : Type 0 where
  pub left : (a : Applied) → o ≡ Some a → rest ≡ ids_before (length (parts t)) ids
  pub says : AreSeen g s (row_of (parts t)) (last_ids (length (parts t)) ids) → SaysSeen g s t o
