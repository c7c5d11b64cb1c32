-- The tree of each pattern over the trees of those inside.
use Rattle.std.proofs.Common.{◌≡◌, ℕ, ◌+◌, ◌<◌, List, [], ◌∷◌, ◌++◌, map, take, get_or, Vec, String, string_bytes, length, sym, ap, ◌∙◌, rules}
use Rattle.std.specs.Prelude.{Box}
use Rattle.std.specs.declared.alloc.Global.{Global}
use Rattle.std.proofs.lemmas.List.{map-append, take_more}
use Rattle.slotted_nodes.specs.Form.{Form}
use Rattle.slotted_patterns.specs.Tree.{enode, pvar, substitution, row_of}
use Rattle.slotted_patterns.specs.View.{tree_of}
use Rattle.slotted_patterns.specs.declared.pattern.Pattern.{Pattern, ENode, PVar, Subst, the_lemmas}

-- one value more, where it maps as the next of the list
pub mapped_more : {A B C : Type 0} (f : A → C) (g : B → C) (xs : List A) (ys : List B) (i : ℕ) (x : A) (y : B) → i < length ys → y ≡ get_or ys i y → map f xs ≡ map g (take i ys) → f x ≡ g y → map f (xs ++ x ∷ []) ≡ map g (take (i + 1) ys)
mapped_more f g xs ys i x y h is e k =
    map-append f xs (x ∷ []) ∙ ((λ j. e j ++ (k ∙ ap g is) j ∷ []) ∙ (sym (map-append g (take i ys) (get_or ys i y ∷ [])) ∙ ap (map g) (sym (take_more ys i y h))))

module _ {L : Type 0} (form : L → Form) where
  pub tree_of-ENode : (n : L) (ps : Vec (Pattern L) Global) → tree_of form (ENode n ps) ≡ enode (form n) (row_of (map (tree_of form) ps.items))
  tree_of-ENode n ps = search (rules, the_lemmas)

  pub tree_of-Subst : (b x v : Box (Pattern L) Global) → tree_of form (Subst b x v) ≡ substitution (tree_of form b.value) (tree_of form x.value) (tree_of form v.value)
  tree_of-Subst b x v = search (rules, the_lemmas)

  tree_of-PVar : (v : String Global) → tree_of form (PVar v) ≡ pvar (string_bytes v)
  tree_of-PVar v = search (rules, the_lemmas)

  -- a variable of the same name
  pub same_variable : (p : Pattern L) (v w : String Global) → p ≡ PVar v → string_bytes w ≡ string_bytes v → tree_of form (PVar w) ≡ tree_of form p
  same_variable p v w is e = tree_of-PVar w ∙ (ap pvar e ∙ (sym (tree_of-PVar v) ∙ ap (tree_of form) (sym is)))

  -- a node with the same form over patterns with the same trees
  pub same_node : (p : Pattern L) (n m : L) (ps qs : Vec (Pattern L) Global) → p ≡ ENode n ps → form m ≡ form n → map (tree_of form) qs.items ≡ map (tree_of form) ps.items → tree_of form (ENode m qs) ≡ tree_of form p
  same_node p n m ps qs is e h =
      tree_of-ENode m qs ∙ ((λ i. enode (e i) (row_of (h i))) ∙ (sym (tree_of-ENode n ps) ∙ ap (tree_of form) (sym is)))

  -- a substitution whose parts have the same trees
  pub same_substitution : (p : Pattern L) (b x v b' x' v' : Box (Pattern L) Global) → p ≡ Subst b x v → tree_of form b'.value ≡ tree_of form b.value → tree_of form x'.value ≡ tree_of form x.value → tree_of form v'.value ≡ tree_of form v.value → tree_of form (Subst b' x' v') ≡ tree_of form p
  same_substitution p b x v b' x' v' is e h k =
      tree_of-Subst b' x' v' ∙ ((λ i. substitution (e i) (h i) (k i)) ∙ (sym (tree_of-Subst b x v) ∙ ap (tree_of form) (sym is)))
