-- The parts of a pattern that is whole, and the pattern that whole parts make.
use Rattle.std.proofs.Common.{◌≡◌, suc, List, ◌∷◌, length, Bool, true, false, refl, ap, ◌∙◌}
use Rattle.std.specs.Prelude.{Option, Some, None, option_and_then, ◌==◌, if◌then◌else◌}
use Rattle.std.proofs.lemmas.Bool.{eq-eqb, eqb-true}
use Rattle.slotted_nodes.specs.Form.{Form, children}
use Rattle.slotted_patterns.specs.Tree.{PatternTree, enode, substitution, PatternRow, one_more}
use Rattle.slotted_model.specs.LookUp.{both}
use Rattle.slotted_model_rules.specs.Patterns.{Pattern, pattern_node, replacing}
use Rattle.slotted_rule_patterns.specs.PatternCode.{filled_pattern, pattern_over, pattern_in, patterns_in}

-- the node of these child patterns
abbrev pub node_of : Form → List Pattern → Pattern
node_of f ps = pattern_node (suc f.operator) f.payloads (filled_pattern f.tree f.names ps)

-- p is the node f over patterns that stand in the row
pub record IsNodeOver (f : Form) (row : PatternRow) (p : Pattern) : Type 0 where
  pub patterns : List Pattern
  pub are : patterns_in row ≡ Some patterns
  pub count : length patterns ≡ length (children f.tree)
  pub is : p ≡ node_of f patterns

-- p is the substitution of what stands in three parts
pub record IsReplacing (b x t : PatternTree) (p : Pattern) : Type 0 where
  pub body : Pattern
  pub part : Pattern
  pub value : Pattern
  pub body_is : pattern_in b ≡ Some body
  pub part_is : pattern_in x ≡ Some part
  pub value_is : pattern_in t ≡ Some value
  pub is : p ≡ replacing body part value

-- these patterns are one and those after it
pub record IsFirstOf (q : PatternTree) (row : PatternRow) (ps : List Pattern) : Type 0 where
  pub first : Pattern
  pub others : List Pattern
  pub first_is : pattern_in q ≡ Some first
  pub others_are : patterns_in row ≡ Some others
  pub is : ps ≡ first ∷ others

taken : {A : Type 0} (b : Bool) (x y : A) → (if b then Some x else None) ≡ Some y → (b ≡ true) × (y ≡ x)
taken true x y e = (refl, cc)
taken false x y e = absurd (cc)

pub node-parts : (f : Form) (row : PatternRow) (p : Pattern) → pattern_in (enode f row) ≡ Some p → IsNodeOver f row p
node-parts f row p = by (patterns_in row) refl
  where
    by : (o : Option (List Pattern)) → patterns_in row ≡ o → option_and_then (pattern_over f) o ≡ Some p → IsNodeOver f row p
    by None are e = absurd (cc)
    by (Some ps) are e =
        let h = taken (length ps == length (children f.tree)) (node_of f ps) p e in
        record { patterns = ps; are = are; count = eqb-true (length ps) (length (children f.tree)) h.0; is = h.1 }

pub node-made : (f : Form) (row : PatternRow) (ps : List Pattern) → patterns_in row ≡ Some ps → length ps ≡ length (children f.tree) → pattern_in (enode f row) ≡ Some (node_of f ps)
node-made f row ps are count =
    ap (option_and_then (pattern_over f)) are
    ∙ ap (λ b. if b then Some (node_of f ps) else None) (eq-eqb (length ps) (length (children f.tree)) count)

pub replacing-parts : (b x t : PatternTree) (p : Pattern) → pattern_in (substitution b x t) ≡ Some p → IsReplacing b x t p
replacing-parts b x t p = by (pattern_in b) (pattern_in x) (pattern_in t) refl refl refl
  where
    by : (body part value : Option Pattern) → pattern_in b ≡ body → pattern_in x ≡ part → pattern_in t ≡ value
        → option_and_then (λ body. both (λ part value. replacing body part value) part value) body ≡ Some p → IsReplacing b x t p
    by None part value h k l e = absurd (cc)
    by (Some body) None value h k l e = absurd (cc)
    by (Some body) (Some part) None h k l e = absurd (cc)
    by (Some body) (Some part) (Some value) h k l e =
        record { body = body; part = part; value = value; body_is = h; part_is = k; value_is = l; is = cc }

pub first-parts : (q : PatternTree) (row : PatternRow) (ps : List Pattern) → patterns_in (one_more q row) ≡ Some ps → IsFirstOf q row ps
first-parts q row ps = by (pattern_in q) (patterns_in row) refl refl
  where
    by : (first : Option Pattern) (others : Option (List Pattern)) → pattern_in q ≡ first → patterns_in row ≡ others
        → both (λ p ps. p ∷ ps) first others ≡ Some ps → IsFirstOf q row ps
    by None others h k e = absurd (cc)
    by (Some first) None h k e = absurd (cc)
    by (Some first) (Some others) h k e = record { first = first; others = others; first_is = h; others_are = k; is = cc }

pub first-made : (q : PatternTree) (row : PatternRow) (p : Pattern) (ps : List Pattern) → pattern_in q ≡ Some p → patterns_in row ≡ Some ps → patterns_in (one_more q row) ≡ Some (p ∷ ps)
first-made q row p ps h k = λ i. both (λ q qs. q ∷ qs) (h i) (k i)
