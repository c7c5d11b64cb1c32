-- Patterns that have as many child patterns as children at each node.
use Rattle.std.proofs.Common.{◌≡◌, ℕ, suc, List, [], ◌∷◌, length, Bool, true, false, refl, sym, ap, ◌∙◌}
use Rattle.std.specs.Prelude.{Option, Some, None, is_some, option_and_then, ◌==◌, if◌then◌else◌}
use Rattle.slotted_nodes.specs.Form.{Form, children}
use Rattle.slotted_patterns.specs.Tree.{PatternTree, row_of}
use Rattle.slotted_model.specs.LookUp.{both}
use Rattle.slotted_model_rules.specs.Patterns.{Pattern as Code}
use Rattle.slotted_rule_patterns.specs.PatternCode.{pattern_over, pattern_in, patterns_in}

-- one pattern more
one_more_here : (p : Option Code) (qs : Option (List Code)) (n : ℕ) → ((ps : List Code) → qs ≡ Some ps → length ps ≡ n) → (ps : List Code) → both (λ q qs. q ∷ qs) p qs ≡ Some ps → length ps ≡ suc n
one_more_here None qs n h ps e = absurd (cc)
one_more_here (Some p) None n h ps e = absurd (cc)
one_more_here (Some p) (Some qs) n h ps e = let same : p ∷ qs ≡ ps = cc in ap length (sym same) ∙ ap suc (h qs refl)

-- there are as many patterns as stand in the row
pub length-patterns : (ts : List PatternTree) (ps : List Code) → patterns_in (row_of ts) ≡ Some ps → length ps ≡ length ts
length-patterns [] ps e = let same : [] ≡ ps = cc in ap length (sym same)
length-patterns (t ∷ ts) ps e = one_more_here (pattern_in t) (patterns_in (row_of ts)) (length ts) (length-patterns ts) ps e

counted : {A : Type 0} (b : Bool) (x : A) → is_some (if b then Some x else None) ≡ b
counted true x = refl
counted false x = refl

-- a node over patterns that are whole
pub is_some-over : (f : Form) (n : ℕ) (o : Option (List Code)) → is_some o ≡ true → ((ps : List Code) → o ≡ Some ps → length ps ≡ n) → is_some (option_and_then (pattern_over f) o) ≡ (n == length (children f.tree))
is_some-over f n None h l = absurd (cc)
is_some-over f n (Some ps) h l =
    counted (length ps == length (children f.tree)) _ ∙ ap (λ k. k == length (children f.tree)) (l ps refl)
