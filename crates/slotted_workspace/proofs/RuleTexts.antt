-- What the conditions and the rules of a text leave of the graph.
use Rattle.std.proofs.Common.{◌≡◌, ◌⊎◌, ◌∙◌, ◌++◌, ℕ, List, [], ◌∷◌, refl, subst, sym, inl, inr}
use Rattle.std.specs.Prelude.{Bool, IsTrue, Option, false, true}
use Rattle.slotted_slots.specs.declared.error.Error.{Error}
use Rattle.slotted_slots.specs.declared.error.Error.TheVariants.{OutOfMemory}
use Rattle.slotted_slots.specs.Syntax.{Element}
use Rattle.slotted_slots.specs.Table.{Table, gives, named_of}
use Rattle.slotted_slots.proofs.TableLaws.{KnowsMore-refl}
use Rattle.slotted_nodes.specs.Form.{Form}
use Rattle.slotted_operations.specs.Graph.{Graph, OnlyReads}
use Rattle.slotted_explain.proofs.CallerLemmas.{reads_twice}
use Rattle.slotted_graph.specs.Extension.{ExtendsTo}
use Rattle.slotted_graph.proofs.Extending.{extends-read, extends-then}
use Rattle.slotted_rule_texts.specs.Asked.{Condition, Rule}
use Rattle.slotted_rules.specs.declared.condition_tree.CondTree.{CondTree}
use Rattle.slotted_rules.specs.declared.rewrite.Rewrite.{Rewrite}
use Rattle.slotted_workspace.specs.Asked.{HadFailed}
use Rattle.slotted_workspace.specs.RuleTexts.{AsksAll, ConditionRefused, ConditionalRefused, IsBothOf, IsConditionFor, ReadsConditional, ReadsRules, RulesRefused, asks_more, back_refused, both_ways, name_back, no_memory, one_way}
use Rattle.slotted_workspace.specs.Spaces.{WrittenRule}

-- a graph from which only texts were read, and none if it had failed
pub record HasRead (g k : Graph) : Type 0 where
  pub only : OnlyReads g k
  pub stays : IsTrue g.failed → k ≡ g

pub read-nothing : (g : Graph) → HasRead g g
read-nothing g = record {
  only = record { image = refl; filed = refl; part = refl; failed = refl; more = KnowsMore-refl g.table };
  stays = λ f. refl;
}

module _ (g k h : Graph) (before : HasRead g k) where
  pub read-then : HasRead k h → HasRead g h
  read-then after = record {
    only = reads_twice g k h before.only after.only;
    stays = λ f. after.stays (before.only.failed ∙ f) ∙ before.stays f;
  }

  pub extends-behind : IsTrue h.failed ⊎ ExtendsTo k h → IsTrue h.failed ⊎ ExtendsTo g h
  extends-behind (inl f) = inl f
  extends-behind (inr e) = inr (extends-then g k h (extends-read g k before.only) e)

  had-failed : (e : Error) → HadFailed k h e → HadFailed g h e
  had-failed e f =
      let first : IsTrue g.failed = sym before.only.failed ∙ f.0 in
      (first, f.1 ∙ before.stays first, f.2)

  pub condition-behind : (e : Error) → ConditionRefused k h e → ConditionRefused g h e
  condition-behind e (inl f) = inl (had-failed e f)
  condition-behind e (inr r) = inr (sym before.only.failed ∙ r.0, reads_twice g k h before.only r.1, r.2)

module _ {L : Type 0} (form : L → Form) (read : List Element → Option Form) (g h : Graph) (name left right : List ℕ) (cs : List Condition) (r : Rewrite L CondTree) (reads : ReadsConditional form read g h name left right cs r) where
  pub conditional-only : OnlyReads g h
  conditional-only = reads_twice g reads.between h reads.names reads.reads.only

  pub conditional-well : g.failed ≡ false
  conditional-well = sym reads.names.failed ∙ reads.reads.well

-- the rule that goes back was refused
pub second-refused : {L : Type 0} (form : L → Form) (read : List Element → Option Form) (g k h : Graph) (a : Rule) (r : Rewrite L CondTree) → a.both ≡ true → ReadsConditional form read g k a.name a.left a.right a.conditions r → (e : Error) →
    ConditionalRefused form read k h a.right a.left a.conditions e ⊎ ((h ≡ k) × (e ≡ OutOfMemory)) → RulesRefused form read g h a e
second-refused form read g k h a r both reads e (inl refused) = back_refused r k both reads refused
second-refused form read g k h a r both reads e (inr m) =
    no_memory (subst (λ (x : Graph). OnlyReads g x) (sym m.0) (conditional-only form read g k a.name a.left a.right a.conditions r reads)) m.1

-- one condition more
pub one-more : (t u v : Table) (cs : List Condition) (c : Condition) (first next x : CondTree) (slot : ℕ) → AsksAll t first cs u → named_of u c.slot ≡ gives slot v → IsConditionFor c slot next → IsBothOf first next x → AsksAll t x (cs ++ c ∷ []) v
one-more t u v cs c first next x slot asks named is both =
    let a = both.left in
    let b = both.right in
    subst (λ (y : CondTree). AsksAll t y (cs ++ c ∷ []) v) (sym both.is)
    (asks_more t u v a b cs c slot (subst (λ (y : CondTree). AsksAll t y cs u) (sym both.left_is) asks) named (subst (IsConditionFor c slot) (sym both.right_is) is))

-- both rules were read
module _ {L : Type 0} (form : L → Form) (read : List Element → Option Form) (g k h : Graph) (a : Rule) (r q : Rewrite L CondTree) (first : ReadsConditional form read g k a.name a.left a.right a.conditions r) (second : ReadsConditional form read k h (name_back a.name) a.right a.left a.conditions q) where
  both-only : OnlyReads g h
  both-only = reads_twice g k h (conditional-only form read g k a.name a.left a.right a.conditions r first) (conditional-only form read k h (name_back a.name) a.right a.left a.conditions q second)

  pub both-not_kept : (e : Error) → e ≡ OutOfMemory → RulesRefused form read g h a e
  both-not_kept e memory = no_memory both-only memory

-- texts alone were read for the rules
pub rules-only : {L : Type 0} (form : L → Form) (read : List Element → Option Form) (sparing : Bool) (g h : Graph) (a : Rule) (rules : List WrittenRule) → ReadsRules form read sparing g h a rules → OnlyReads g h
rules-only form read sparing g h a rules (one_way r back is reads) = conditional-only form read g h a.name a.left a.right a.conditions r reads
rules-only form read sparing g h a rules (both_ways r q k back is first second) = both-only form read g k h a r q first second
