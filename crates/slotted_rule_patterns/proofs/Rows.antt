-- A row of patterns from a place on.
use Rattle.std.proofs.Common.{◌≡◌, ℕ, ◌+◌, ◌<◌, ◌≤◌, List, ◌∷◌, length, drop, get_or, map, sym, ap, ◌∙◌, Vec, String, string_bytes, rules}
use Rattle.std.specs.Prelude.{Box}
use Rattle.std.specs.declared.alloc.Global.{Global}
use Rattle.std.proofs.lemmas.List.{drop_more, drop_all}
use Rattle.slotted_nodes.specs.Form.{Form}
use Rattle.slotted_patterns.specs.Tree.{PatternTree, enode, pvar, substitution, PatternRow, no_more, one_more, row_of}
use Rattle.slotted_patterns.specs.View.{tree_of}
use Rattle.slotted_patterns.specs.declared.pattern.Pattern.{Pattern, ENode, PVar, Subst, the_lemmas}

module _ {A : Type 0} (tree : A → PatternTree) (es : List A) where
  -- the patterns from the place i on
  abbrev pub rest : ℕ → PatternRow
  rest i = row_of (map tree (drop i es))

  pub rest-opened : (i : ℕ) (e : A) → i < length es → e ≡ get_or es i e → rest i ≡ one_more (tree e) (rest (i + 1))
  rest-opened i e lt is = ap (λ xs. row_of (map tree xs)) (drop_more es i e lt ∙ ap (λ d. d ∷ drop (i + 1) es) (sym is))

  pub rest-ended : (i : ℕ) → length es ≤ i → rest i ≡ no_more
  rest-ended i le = ap (λ xs. row_of (map tree xs)) (drop_all i es le)

-- a pattern over those inside
module _ {L : Type 0} (form : L → Form) (p : Pattern L) where
  pub tree_of-node : (n : L) (ps : Vec (Pattern L) Global) → p ≡ ENode n ps → tree_of form p ≡ enode (form n) (row_of (map (tree_of form) ps.items))
  tree_of-node n ps is = ap (tree_of form) is ∙ search (rules, the_lemmas)

  pub tree_of-variable : (v : String Global) → p ≡ PVar v → tree_of form p ≡ pvar (string_bytes v)
  tree_of-variable v is = ap (tree_of form) is ∙ search (rules, the_lemmas)

  pub tree_of-substitution : (b x v : Box (Pattern L) Global) → p ≡ Subst b x v → tree_of form p ≡ substitution (tree_of form b.value) (tree_of form x.value) (tree_of form v.value)
  tree_of-substitution b x v is = ap (tree_of form) is ∙ search (rules, the_lemmas)
