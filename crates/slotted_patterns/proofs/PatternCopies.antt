-- A copy of a pattern over copies of its parts.
use Rattle.std.proofs.Common.{◌≡◌, ◌-◌, ◌≤◌, ℕ, List, [], ◌∷◌, ◌++◌, length, map, take, drop, option_to_list, Option, Vec, refl, sym, ap, subst, ◌∙◌, arith, append_assoc}
use Rattle.std.specs.Prelude.{Box, Result, Ok, Err, Some, IfOk, OnOk}
use Rattle.std.specs.declared.alloc.Global.{Global}
use Rattle.std.proofs.lemmas.List.{length-map, map-append, take-map, drop-map}
use Rattle.slotted_nodes.specs.Form.{Form}
use Rattle.slotted_patterns.specs.Subpatterns.{before_parts, parts, EndsInParts, IsSubstitution}
use Rattle.slotted_patterns.specs.Tree.{PatternTree, enode, pvar, substitution}
use Rattle.slotted_patterns.specs.View.{tree_of}
use Rattle.slotted_patterns.specs.declared.pattern.Pattern.{Pattern, ENode, Subst}
use Rattle.slotted_patterns.proofs.Folds.{ends-drop, ends-length, patterns_in-row, same_ends}
use Rattle.slotted_patterns.proofs.PatternTrees.{tree_of-ENode, tree_of-Subst}

-- the last of a list under a map
pub mapped_last : {A B : Type 0} (f : A → B) (all rest : List A) (o : Option A) (q : A) → all ≡ rest ++ option_to_list o → o ≡ Some q → map f all ≡ map f rest ++ f q ∷ []
mapped_last f all rest o q last is =
    ap (map f) (last ∙ ap (λ r. rest ++ option_to_list r) is) ∙ map-append f rest (q ∷ [])

-- one that is the only one under the map
pub mapped_one : {A B : Type 0} (f : A → B) (all rest : List A) (o : Option A) (q : A) (p : B) → all ≡ rest ++ option_to_list o → o ≡ Some q → map f all ≡ p ∷ [] → f q ≡ p
mapped_one f all rest o q p last is one =
    let ends = same_ends (map f rest) [] (f q ∷ []) (p ∷ []) (sym (mapped_last f all rest o q last is) ∙ one) refl in
    let e : f q ∷ [] ≡ p ∷ [] = ends.1 in
    cc

-- three more at the end of a list
pub mapped_three : {A B : Type 0} (f : A → B) (old one two three : List A) (a b c : A) → one ≡ old ++ a ∷ [] → two ≡ one ++ b ∷ [] → three ≡ two ++ c ∷ [] → map f three ≡ map f old ++ (f a ∷ f b ∷ f c ∷ [])
mapped_three f old one two three a b c first second third =
    ap (map f) (third ∙ (ap (λ l. l ++ c ∷ []) second ∙ (ap (λ l. (l ++ b ∷ []) ++ c ∷ []) first ∙ (append_assoc (old ++ a ∷ []) (b ∷ []) (c ∷ []) ∙ append_assoc old (a ∷ []) (b ∷ c ∷ [])))))
    ∙ map-append f old (a ∷ b ∷ c ∷ [])

-- the parts of a node and of a substitution
pub parts-ENode : {L : Type 0} (form : L → Form) (p : Pattern L) (n : L) (ps : Vec (Pattern L) Global) → p ≡ ENode n ps → parts (tree_of form p) ≡ map (tree_of form) ps.items
parts-ENode form p n ps is =
    ap (λ q. parts (tree_of form q)) is ∙ (ap parts (tree_of-ENode form n ps) ∙ patterns_in-row (map (tree_of form) ps.items))

pub parts-Subst : {L : Type 0} (form : L → Form) (p : Pattern L) (b x t : Box (Pattern L) Global) → p ≡ Subst b x t → parts (tree_of form p) ≡ tree_of form b.value ∷ tree_of form x.value ∷ tree_of form t.value ∷ []
parts-Subst form p b x t is = ap (λ q. parts (tree_of form q)) is ∙ ap parts (tree_of-Subst form b x t)

module _ {L : Type 0} (form : L → Form) (p : Pattern L) (all : List (Pattern L)) (ends : EndsInParts (tree_of form p) (map (tree_of form) all)) where
  module _ (n : L) (ps : Vec (Pattern L) Global) (is : p ≡ ENode n ps) where
    node-count : length (parts (tree_of form p)) ≡ length ps.items
    node-count = ap length (parts-ENode form p n ps is) ∙ length-map ps.items (tree_of form)

    pub node-few : length ps.items ≤ length all
    node-few = omega (arith, ends-length (tree_of form p) (map (tree_of form) all) ends, node-count, length-map all (tree_of form))

    module _ (at : ℕ) (here : at ≡ length all - length ps.items) where
      index : at ≡ length (map (tree_of form) all) - length (parts (tree_of form p))
      index = omega (arith, here, node-count, length-map all (tree_of form))

      pub node-below : map (tree_of form) (drop at all) ≡ map (tree_of form) ps.items
      node-below =
          sym (drop-map (tree_of form) at all)
          ∙ (ap (λ k. drop k (map (tree_of form) all)) index ∙ (ends-drop (tree_of form p) (map (tree_of form) all) ends ∙ parts-ENode form p n ps is))

      pub node-before : map (tree_of form) (take at all) ≡ before_parts (tree_of form p) (map (tree_of form) all)
      node-before = sym (take-map (tree_of form) at all) ∙ ap (λ k. take k (map (tree_of form) all)) index

  module _ (b x t : Box (Pattern L) Global) (is : p ≡ Subst b x t) where
    three-is : tree_of form p ≡ substitution (tree_of form b.value) (tree_of form x.value) (tree_of form t.value)
    three-is = ap (tree_of form) is ∙ tree_of-Subst form b x t

    three-count : length (parts (tree_of form p)) ≡ 3
    three-count = ap (λ q. length (parts q)) three-is

    pub three-few : 3 ≤ length all
    three-few = omega (arith, ends-length (tree_of form p) (map (tree_of form) all) ends, three-count, length-map all (tree_of form))

    one-whole : (q r : PatternTree) → IsSubstitution q → IsSubstitution r → parts q ≡ parts r → q ≡ r
    one-whole (substitution b x t) (substitution c y u) h k e = cc
    one-whole (substitution b x t) (enode f row) h k e = absurd k
    one-whole (substitution b x t) (pvar v) h k e = absurd k
    one-whole (enode f row) r h k e = absurd h
    one-whole (pvar v) r h k e = absurd h

    whole : (q : PatternTree) → IsSubstitution q → length (parts q) ≡ 3
    whole (substitution b x t) h = refl
    whole (enode f row) h = absurd h
    whole (pvar v) h = absurd h

    module _ (rest : List (Pattern L)) (c : Pattern L) (over : map (tree_of form) all ≡ map (tree_of form) rest ++ parts (tree_of form c)) (three : IsSubstitution (tree_of form c)) where
      both : (map (tree_of form) rest ≡ before_parts (tree_of form p) (map (tree_of form) all)) × (parts (tree_of form c) ≡ parts (tree_of form p))
      both = same_ends (map (tree_of form) rest) (before_parts (tree_of form p) (map (tree_of form) all)) (parts (tree_of form c)) (parts (tree_of form p)) (sym over ∙ ends) (whole (tree_of form c) three ∙ sym three-count)

      same-whole : tree_of form c ≡ tree_of form p
      same-whole = one-whole (tree_of form c) (tree_of form p) three (subst IsSubstitution (sym three-is) tt) both.1

    pub three-ok : {E : Type 0} (rest : List (Pattern L)) (r : Result (Pattern L) E) → IfOk r (λ c. map (tree_of form) all ≡ map (tree_of form) rest ++ parts (tree_of form c)) → IfOk r (λ c. IsSubstitution (tree_of form c)) → IfOk r (λ c. tree_of form c ≡ tree_of form p)
    three-ok rest (Ok c) over three = same-whole rest c over three
    three-ok rest (Err e) over three = tt

    pub three-rest : {E : Type 0} (rest : List (Pattern L)) (r : Result (Pattern L) E) → IfOk r (λ c. map (tree_of form) all ≡ map (tree_of form) rest ++ parts (tree_of form c)) → IfOk r (λ c. IsSubstitution (tree_of form c)) → OnOk r (map (tree_of form) rest ≡ before_parts (tree_of form p) (map (tree_of form) all))
    three-rest rest (Ok c) over three = (both rest c over three).0
    three-rest rest (Err e) over three = tt
