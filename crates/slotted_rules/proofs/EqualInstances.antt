-- Where rules without conditions were applied, instances of both sides are equal by what is asserted, for each match.
use Rattle.std.proofs.Common.{◌≡◌, ◌∙◌, List, refl, sym, subst, inl, inr}
use Rattle.std.specs.Prelude.{◌<◌, ℕ, Bool, false, length, Contains}
use Rattle.slotted_lists.proofs.Members.{In, In-Contains}
use Rattle.slotted_nodes.specs.Form.{Form}
use Rattle.slotted_theory.specs.Nameless.{DTerm}
use Rattle.slotted_patterns.specs.Tree.{PatternTree}
use Rattle.slotted_patterns.specs.View.{tree_of}
use Rattle.slotted_model.specs.ProofList.{HoldsFrom, equation_at}
use Rattle.slotted_model.proofs.Finds.FindProofs.{proved-holds}
use Rattle.slotted_model_rules.specs.Conditions.{Values}
use Rattle.slotted_model_rules.specs.Rules.{Rule}
use Rattle.slotted_model_rules.specs.Runners.{AppliesAll, AppliesRules, SearchesAll, none_applied, none_searched, one_applied, one_searched}
use Rattle.slotted_operations.specs.Good.{image_of}
use Rattle.slotted_operations.specs.Graph.{Graph}
use Rattle.slotted_operations.specs.Image.{Image, asserted_in}
use Rattle.slotted_graph.specs.Extension.{ExtendsTo}
use Rattle.slotted_graph.specs.States.{IsGraph}
use Rattle.slotted_graph.proofs.Extending.{extends-itself, extends-takes, extends-then}
use Rattle.slotted_rules.specs.Methods.{method_of, represented}
use Rattle.slotted_rules.specs.declared.rewrite.Rewrite.{Rewrite}
use Rattle.slotted_rules.specs.Counting.{AppliesRule, SearchesRule}
use Rattle.slotted_rules.specs.EqualInstances.{HasAppliedMatches, HasEqualIds, HasSettledMatches, HaveEqualInstances}
use Rattle.slotted_rules.specs.Rewriting.{HasEntryFor, HasEquationFor, IsSettled}
use Rattle.slotted_rules.proofs.RuleOrigins.{applies-extend, searches-extend}
use Rattle.slotted_rules.proofs.Settling.{settled-wider}

module _ (h : Graph) (is : IsGraph h) where
  entry-equal : (R : DTerm → DTerm → Bool) (given : List ℕ) (rule : Rule) (s : Values) → HasEntryFor R given h rule s → HasEqualIds R given h rule s
  entry-equal R given rule s e =
      let i = e.instances in
      let k = is.is_state.kept in
      let good = is.is_state.good in
      let same : image_of k ≡ h.image = is.is_state.image in
      let holds = subst (λ (x : Image). HoldsFrom (asserted_in x) x.canonical (equation_at x.entries e.number)) same
      (proved-holds (image_of k).canonical good.stored.sane.sound.canonical (image_of k).entries good.stored.sane.sound.proved e.number (subst (λ (x : Image). e.number < length x.entries) (sym same) e.in_range)) in
      record {
        left = i.left;
        right = i.right;
        left_full = i.left_full;
        right_full = i.right_full;
        left_instance = i.left_instance;
        right_instance = i.right_instance;
        equal = holds i.left i.right i.left_full i.right_full i.equation;
      }

  -- an answer that is settled by an entry
  pub equation-equal : (g : Graph) (p q : PatternTree) (s : Values) → HasEquationFor g h p q s → HaveEqualInstances g h p q s
  equation-equal g p q s e = record {
    whole_left = e.whole_left;
    whole_right = e.whole_right;
    filled = e.filled;
    fills = e.fills;
    method = e.method;
    pairs = e.pairs;
    are = e.are;
    each = λ rule l r given known. entry-equal (represented (method_of e.method) e.pairs) given rule e.filled (e.each rule l r given known);
  }

-- rules, one after another
module _ {L C : Type 0} (form : L → Form) (holds : C → Values → Graph → Bool → Type 0) where
  abbrev applies : Rewrite L C → List Values → Graph → Graph → Type 0
  applies = AppliesRule form holds

  abbrev Settles : Graph → Graph → Rewrite L C → Type 0
  Settles g h r = HasSettledMatches (holds r.condition) g h (tree_of form r.left) (tree_of form r.right)

  one-settled : (rule : Rewrite L C) (found : List Values) (g e f j k h : Graph) → e.image ≡ g.image → ExtendsTo g e → ExtendsTo g j → SearchesRule form rule e found f → applies rule found j k → ExtendsTo k h → ExtendsTo f h → Settles g h rule
  one-settled rule found g e f j k h image start end first now later last =
      let p = tree_of form rule.left in
      let q = tree_of form rule.right in
      record {
        before = e;
        after = f;
        found = found;
        image = image;
        extends = start;
        searched = first;
        end = last;
        settled = λ s c. settled-wider g j k h end later p q s (holds rule.condition) (now.settled s c);
      }

  -- searches from e on, and applies from j on, both later than g
  each-settled : {rules : List (Rewrite L C)} {e i j h : Graph} {founds : List (List Values)} (g : Graph) → e.image ≡ g.image → ExtendsTo g e → ExtendsTo g j → ExtendsTo i j → SearchesAll (SearchesRule form) rules e founds i → AppliesAll applies rules founds j h →
      (r : Rewrite L C) → In r rules → Settles g h r
  each-settled g image start end between none_searched none_applied r among = absurd among
  each-settled g image start end between (one_searched {rule = rule} {found = found} first more) (one_applied now later) r among = elim among [
    | inl is ↦ subst (Settles g _) (sym is) (one-settled rule found g _ _ _ _ _ image start end first now (applies-extend form holds later)
        (extends-then _ _ _ (searches-extend form holds more) (extends-then _ _ _ between (extends-then _ _ _ now.extends (applies-extend form holds later)))))
    | inr rest ↦ each-settled g (first.takes.reads.image ∙ image) (extends-then g _ _ start (extends-takes _ _ first.takes)) (extends-then g _ _ end now.extends) (extends-then _ _ _ between now.extends) more later r rest
  ]

  -- each match of each rule is settled
  pub rules-settled : (rules : List (Rewrite L C)) (g h : Graph) → AppliesRules (SearchesRule form) applies rules g h → (r : Rewrite L C) → Contains rules r → Settles g h r
  rules-settled rules g h a r c = each-settled g refl (extends-itself g) (searches-extend form holds a.by_searches) (extends-itself a.searched) a.by_searches a.by_applies r (In-Contains rules r c)

-- where no condition is ever no, instances of both sides are equal for each match
module _ {L C : Type 0} (form : L → Form) (holds : C → Values → Graph → Bool → Type 0) (never_no : (c : C) (s : Values) (g : Graph) → ¬ holds c s g false) where
  settled-has : (c : C) (p q : PatternTree) (g h : Graph) (s : Values) → IsSettled (holds c) p q g h s → HasEquationFor g h p q s
  settled-has c p q g h s (inl e) = e
  settled-has c p q g h s (inr m) = absurd (never_no c s m.0 m.2)

  pub rules-applied : (rules : List (Rewrite L C)) (g h : Graph) → IsGraph h → AppliesRules (SearchesRule form) (AppliesRule form holds) rules g h → (r : Rewrite L C) → Contains rules r → HasAppliedMatches g h (tree_of form r.left) (tree_of form r.right)
  rules-applied rules g h is a r c =
      let e = rules-settled form holds rules g h a r c in
      record {
        before = e.before;
        after = e.after;
        found = e.found;
        extends = e.extends;
        searched = e.searched;
        end = e.end;
        equal = λ s d. equation-equal h is g (tree_of form r.left) (tree_of form r.right) s (settled-has r.condition (tree_of form r.left) (tree_of form r.right) g h s (e.settled s d));
      }
