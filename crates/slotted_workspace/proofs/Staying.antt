-- What is kept stays so in a graph that extends the one before.
use Rattle.std.proofs.Common.{◌≡◌, ◌⊎◌, ◌∙◌, ◌++◌, List, [], ◌∷◌, sym, subst, inl, inr}
use Rattle.std.specs.Prelude.{All, IsTrue}
use Rattle.std.proofs.lemmas.List.Elements.{All-append, All-nil, All-push, All-weaker}
use Rattle.slotted_theory.specs.Nameless.{nameless}
use Rattle.slotted_nodes.specs.Form.{Form}
use Rattle.slotted_operations.specs.Graph.{Graph}
use Rattle.slotted_proofs.specs.Equations.{to_applied}
use Rattle.slotted_explain.proofs.CallerLemmas.{term_later}
use Rattle.slotted_graph.specs.Extension.{ExtendsTo}
use Rattle.slotted_graph.proofs.Extending.{full-extends}
use Rattle.slotted_rules.specs.Written.{CanBeSearched}
use Rattle.slotted_rules.specs.WrittenLaws.{valid-later}
use Rattle.slotted_rules.specs.declared.rewrite.Rewrite.{Rewrite}
use Rattle.slotted_workspace.specs.Keeping.{IsKept, IsSane}
use Rattle.slotted_workspace.specs.declared.kept.Kept.{Kept}
use Rattle.slotted_workspace.specs.declared.sparing.RuleCondition.{RuleCondition}

pub kept-later : {L : Type 0} (g h : Graph) → ExtendsTo g h → (k : Kept L) → IsKept g k → IsKept h k
kept-later g h e k v = record {
  full = full-extends g h (to_applied k.id) e v.full;
  term = e.canonical.terms (to_applied k.id) v.full.full ∙ v.term;
  found = e.canonical.ids (nameless k.term) (to_applied k.id) v.found;
  valid = term_later g.table h.table e.more k.term v.valid;
}

module _ {L : Type 0} (form : L → Form) where
  pub sane-later : (g h : Graph) (kept : List (Kept L)) (rules : List (Rewrite L (RuleCondition L))) → IsTrue h.failed ⊎ ExtendsTo g h → (IsTrue g.failed → h ≡ g) → IsSane form g kept rules → IsSane form h kept rules
  sane-later g h kept rules (inl f) stays sane = inl f
  sane-later g h kept rules (inr e) stays (inl f) = inl (subst (λ (x : Graph). IsTrue x.failed) (sym (stays f)) f)
  sane-later g h kept rules (inr e) stays (inr all) = inr (
    All-weaker (IsKept g) (IsKept h) (kept-later g h e) kept all.0,
    All-weaker (CanBeSearched form g.table) (CanBeSearched form h.table) (λ r v. valid-later form g h r e v) rules all.1,
  )

  pub sane-with_kept : (h : Graph) (kept now : List (Kept L)) (rules : List (Rewrite L (RuleCondition L))) (k : Kept L) → IsKept h k → now ≡ kept ++ k ∷ [] → IsSane form h kept rules → IsSane form h now rules
  sane-with_kept h kept now rules k v is (inl f) = inl f
  sane-with_kept h kept now rules k v is (inr all) = inr (subst (All (IsKept h)) (sym is) (All-push (IsKept h) kept k all.0 v), all.1)

  pub sane-with_rule : (h : Graph) (kept : List (Kept L)) (rules now : List (Rewrite L (RuleCondition L))) (r : Rewrite L (RuleCondition L)) → CanBeSearched form h.table r → now ≡ rules ++ r ∷ [] → IsSane form h kept rules → IsSane form h kept now
  sane-with_rule h kept rules now r v is (inl f) = inl f
  sane-with_rule h kept rules now r v is (inr all) = inr (all.0, subst (All (CanBeSearched form h.table)) (sym is) (All-push (CanBeSearched form h.table) rules r all.1 v))

  pub sane-with_rules : (h : Graph) (kept : List (Kept L)) (rules more now : List (Rewrite L (RuleCondition L))) → All (CanBeSearched form h.table) more → now ≡ rules ++ more → IsSane form h kept rules → IsSane form h kept now
  sane-with_rules h kept rules more now v is (inl f) = inl f
  sane-with_rules h kept rules more now v is (inr all) = inr (all.0, subst (All (CanBeSearched form h.table)) (sym is) (All-append (CanBeSearched form h.table) rules more all.1 v))

  pub sane-empty : (h : Graph) → IsSane form h [] []
  sane-empty h = inr (All-nil (IsKept h), All-nil (CanBeSearched form h.table))
