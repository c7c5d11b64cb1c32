-- What is kept by graphs that extend one another: a written rule can be searched, and what it found can be applied.
use Rattle.std.proofs.Common.{◌≡◌, List, refl, subst, inl, inr, false, sym, ◌∙◌, ◌≢◌, ◌⊎◌}
use Rattle.std.specs.Prelude.{Contains, Option, Some, None, IsSome, All, IsTrue}
use Rattle.std.proofs.lemmas.Bool.{false≢true}
use Rattle.std.proofs.lemmas.List.Elements.{All-weaker}
use Rattle.slotted_lists.proofs.Contained.{Contains-nil}
use Rattle.slotted_nodes.specs.Form.{Form}
use Rattle.slotted_slots.specs.declared.error.Error.{Error}
use Rattle.slotted_slots.specs.declared.error.Error.TheVariants.{Failed}
use Rattle.slotted_patterns.specs.Tree.{PatternTree}
use Rattle.slotted_patterns.specs.View.{tree_of}
use Rattle.slotted_model_rules.specs.Conditions.{Values}
use Rattle.slotted_model_rules.specs.Patterns.{Pattern}
use Rattle.slotted_rule_patterns.specs.PatternCode.{pattern_in}
use Rattle.slotted_operations.specs.Graph.{Graph}
use Rattle.slotted_graph.specs.Extension.{ExtendsTo}
use Rattle.slotted_graph.proofs.FoundValues.{none-missing}
use Rattle.slotted_graph.proofs.KnownPatterns.{pattern-later}
use Rattle.slotted_rules.specs.declared.rewrite.Rewrite.{Rewrite}
use Rattle.slotted_rules.specs.Rewriting.{CanBeApplied, IsRefusedRewrite, IsSearched}
use Rattle.slotted_rules.specs.Written.{CanBeSearched}

pub valid-later : {L C : Type 0} (form : L → Form) (g h : Graph) (r : Rewrite L C) → ExtendsTo g h → CanBeSearched form g.table r → CanBeSearched form h.table r
valid-later form g h r e v = record {
  left_known = pattern-later g.table h.table e.more (tree_of form r.left) v.left_known;
  right_known = pattern-later g.table h.table e.more (tree_of form r.right) v.right_known;
  none_replaced = v.none_replaced;
  none_lacking = v.none_lacking;
}

pub apply-later : (t : PatternTree) (found : List Values) (g h : Graph) → ExtendsTo g h → CanBeApplied t found g → CanBeApplied t found h
apply-later t found g h e c = record {
  valid = λ s i p j. e.valid p.1 (c.valid s i p j);
  whole = c.whole;
  values = c.values;
}

whole-or : (o : Option Pattern) → (¬ IsSome o → ⊥) → IsSome o
whole-or (Some p) h = refl
whole-or None h = absurd (h (λ k. false≢true k))

some-of : (t : PatternTree) (o : Option Pattern) → pattern_in t ≡ o → IsSome o → (p : Pattern) × (pattern_in t ≡ Some p)
some-of t (Some p) e h = (p, e)
some-of t None e h = absurd (false≢true h)

pub found-applies : (t : PatternTree) (g : Graph) (found : List Values) (h : Graph) → IsSearched t g found h → CanBeApplied t found h
found-applies t g found h s =
    let there : (x : Values) → Contains found x → IsSome (pattern_in t) = λ x c. whole-or (pattern_in t) (λ none. absurd (Contains-nil x (subst (λ l. Contains l x) (s.none none) c))) in
    record {
      valid = s.valid;
      whole = there;
      values = λ x c. let p = some-of t (pattern_in t) refl (there x c) in none-missing t p.0 p.1 found s.variables x c;
    }

-- no refusal is one of a failed graph
pub refused-other : (refuses : Values → Graph → Error → Type 0) → ((s : Values) (g : Graph) → ¬ refuses s g Failed) → (q : PatternTree) → ¬ IsRefusedRewrite refuses q Failed
refused-other refuses never q (inl r) = r.0
refused-other refuses never q (inr r) = never r.0 r.1 r.2

-- rules stay searchable while the graph grows
pub can-search : {L Q : Type 0} (form : L → Form) (g h : Graph) (rules : List (Rewrite L Q)) → g.failed ≡ false → ExtendsTo g h → IsTrue g.failed ⊎ All (CanBeSearched form g.table) rules → IsTrue h.failed ⊎ All (CanBeSearched form h.table) rules
can-search form g h rules well grows (inl failed) = absurd (false≢true (sym well ∙ failed))
can-search form g h rules well grows (inr each) = inr (All-weaker (CanBeSearched form g.table) (CanBeSearched form h.table) (λ r v. valid-later form g h r grows v) rules each)
