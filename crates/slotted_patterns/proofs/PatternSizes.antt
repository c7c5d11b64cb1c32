-- How many nodes, variables and substitutions stand in patterns.
use Rattle.std.proofs.Common.{◌≡◌, ℕ, suc, ◌+◌, ◌<◌, ◌≤◌, Bool, true, false, if◌then◌else◌, List, [], ◌∷◌, ◌++◌, Vec, map, option_to_list, sym, subst, ap, ◌∙◌, rules, arith}
use Rattle.std.specs.Prelude.{Option, Some, Box}
use Rattle.std.specs.declared.alloc.Global.{Global}
use denote.Param.Weighed.{most, most-append}
use Rattle.slotted_nodes.specs.Form.{Form}
use Rattle.slotted_patterns.specs.Tree.{PatternTree, enode, pvar, substitution, PatternRow, no_more, one_more, row_of}
use Rattle.slotted_patterns.specs.View.{tree_of}
use Rattle.slotted_patterns.specs.declared.pattern.Pattern.{Pattern, ENode, Subst, size-Pattern, the_lemmas}
use Rattle.slotted_patterns.proofs.PatternTrees.{tree_of-ENode, tree_of-Subst}

abbrev mutual
  pub pattern_size : PatternTree → ℕ
  pattern_size (enode f row) = suc (row_size row)
  pattern_size (pvar v) = 1
  pattern_size (substitution b x v) = suc (pattern_size b + pattern_size x + pattern_size v)

  pub row_size : PatternRow → ℕ
  row_size no_more = 0
  row_size (one_more q rest) = pattern_size q + row_size rest

size_positive : (p : PatternTree) → 1 ≤ pattern_size p
size_positive (enode f row) = omega arith
size_positive (pvar v) = omega arith
size_positive (substitution b x v) = omega arith

module _ {L : Type 0} (form : L → Form) where
  -- the size of a pattern of a language, and of several together
  abbrev pub size : Pattern L → ℕ
  size p = pattern_size (tree_of form p)

  abbrev pub sizes : List (Pattern L) → ℕ
  sizes [] = 0
  sizes (p ∷ ps) = size p + sizes ps

  pub sizes-append : (ps qs : List (Pattern L)) → sizes (ps ++ qs) ≡ sizes ps + sizes qs
  sizes-append [] qs = omega arith
  sizes-append (p ∷ ps) qs = omega (arith, sizes-append ps qs)

  row_size-sizes : (ps : List (Pattern L)) → row_size (row_of (map (tree_of form) ps)) ≡ sizes ps
  row_size-sizes [] = omega arith
  row_size-sizes (p ∷ ps) = omega (arith, row_size-sizes ps)

  -- a node is one more than what stands under it, and a substitution one more than its parts
  pub size-ENode : (p : Pattern L) (n : L) (ps : Vec (Pattern L) Global) → p ≡ ENode n ps → size p ≡ suc (sizes ps.items)
  size-ENode p n ps is = ap size is ∙ (ap pattern_size (tree_of-ENode form n ps) ∙ ap suc (row_size-sizes ps.items))

  pub size-Subst : (p : Pattern L) (b x v : Box (Pattern L) Global) → p ≡ Subst b x v → size p ≡ suc (size b.value + size x.value + size v.value)
  size-Subst p b x v is = ap size is ∙ ap pattern_size (tree_of-Subst form b x v)

  -- the last pattern of a list, and the others
  pub sizes-last : (all rest : List (Pattern L)) (o : Option (Pattern L)) (p : Pattern L) → all ≡ rest ++ option_to_list o → o ≡ Some p → size p + sizes rest ≡ sizes all
  sizes-last all rest o p last is =
      omega (arith, ap sizes last, sizes-append rest (option_to_list o), ap (λ q. sizes (option_to_list q)) is)

abbrev pub depth : {L : Type 0} → Pattern L → ℕ
depth {L} = size-Pattern L

module _ {L : Type 0} where
  depth-ENode : (n : L) (ps : Vec (Pattern L) Global) → most depth ps.items < depth (ENode n ps)
  depth-ENode n ps = search (rules, the_lemmas)

  depth-Subst : (b x v : Box (Pattern L) Global) → (depth b.value < depth (Subst b x v)) × (depth x.value < depth (Subst b x v)) × (depth v.value < depth (Subst b x v))
  depth-Subst b x v = search (rules, the_lemmas)

  -- what stands under a node is less deep, and so are the parts of a substitution
  pub below-ENode : (p : Pattern L) (n : L) (ps : Vec (Pattern L) Global) → p ≡ ENode n ps → most depth ps.items < depth p
  below-ENode p n ps is = subst (λ q. most depth ps.items < depth q) (sym is) (depth-ENode n ps)

  pub below-Subst : (p : Pattern L) (b x v : Box (Pattern L) Global) → p ≡ Subst b x v → (depth b.value < depth p) × (depth x.value < depth p) × (depth v.value < depth p)
  below-Subst p b x v is = subst (λ q. (depth b.value < depth q) × (depth x.value < depth q) × (depth v.value < depth q)) (sym is) (depth-Subst b x v)

  -- what was not taken in
  pub left-shallow : (qs new : List (Pattern L)) (fits : Bool) → new ≡ (if fits then [] else qs) → most depth new ≤ most depth qs
  left-shallow qs new true left = omega (arith, ap (most depth) left)
  left-shallow qs new false left = omega (arith, ap (most depth) left)

  taken-shallow : (left ps new : List (Pattern L)) (fits : Bool) → new ≡ (if fits then left ++ ps else left) → (m : ℕ) → most depth left ≤ m → most depth ps ≤ m → most depth new ≤ m
  taken-shallow left ps new true joined m l k = omega (arith, l, k, ap (most depth) joined, most-append depth left ps)
  taken-shallow left ps new false joined m l k = omega (arith, l, ap (most depth) joined)

  -- the last pattern of a list, and the others, are no deeper than the list
  pub last-shallow : (all rest : List (Pattern L)) (o : Option (Pattern L)) (p : Pattern L) → all ≡ rest ++ option_to_list o → o ≡ Some p → (m : ℕ) → most depth all ≤ m → (depth p ≤ m) × (most depth rest ≤ m)
  last-shallow all rest o p last is m l =
      omega (arith, l, ap (most depth) last, most-append depth rest (option_to_list o), ap (λ q. most depth (option_to_list q)) is)

module _ {L : Type 0} (form : L → Form) where
  -- the list new is left with what stands inside the pattern p, as far as there was room for it
  pub record Opens (p : Pattern L) (left new : List (Pattern L)) : Type 0 where
    pub smaller : suc (sizes form new) ≤ size form p + sizes form left
    pub shallow : (m : ℕ) → depth p ≤ m → most depth left ≤ m → most depth new ≤ m

  sizes-taken : (left ps new : List (Pattern L)) (fits : Bool) → new ≡ (if fits then left ++ ps else left) → sizes form new ≤ sizes form left + sizes form ps
  sizes-taken left ps new true joined = omega (arith, sizes-append form left ps, ap (sizes form) joined)
  sizes-taken left ps new false joined = omega (arith, ap (sizes form) joined)

  pub opens-ENode : (p : Pattern L) (n : L) (ps : Vec (Pattern L) Global) (left new : List (Pattern L)) (fits : Bool) → p ≡ ENode n ps → new ≡ (if fits then left ++ ps.items else left) → Opens p left new
  opens-ENode p n ps left new fits is joined = record {
    smaller = omega (arith, size-ENode form p n ps is, sizes-taken left ps.items new fits joined);
    shallow = λ m d l. taken-shallow left ps.items new fits joined m l (omega (arith, d, below-ENode p n ps is));
  }

  pub opens-PVar : (p : Pattern L) (left : List (Pattern L)) → Opens p left left
  opens-PVar p left = record {
    smaller = omega (arith, size_positive (tree_of form p));
    shallow = λ m d l. l;
  }

  pub opens-Subst : (p : Pattern L) (b x v : Box (Pattern L) Global) (b' x' v' : Pattern L) (left one two new : List (Pattern L)) (fits fits' fits'' : Bool) → p ≡ Subst b x v → b' ≡ b.value → x' ≡ x.value → v' ≡ v.value → one ≡ (if fits then left ++ b' ∷ [] else left) → two ≡ (if fits' then one ++ x' ∷ [] else one) → new ≡ (if fits'' then two ++ v' ∷ [] else two) → Opens p left new
  opens-Subst p b x v b' x' v' left one two new fits fits' fits'' is body place value first second third =
      let s = sizes-taken left (b' ∷ []) one fits first in
      let s' = sizes-taken one (x' ∷ []) two fits' second in
      let s'' = sizes-taken two (v' ∷ []) new fits'' third in
      let d = below-Subst p b x v is in
      record {
        smaller = omega (arith, size-Subst form p b x v is, s, s', s'', ap (size form) body, ap (size form) place, ap (size form) value);
        shallow = λ m e l.
            let l' = taken-shallow left (b' ∷ []) one fits first m l (omega (arith, d.0, e, ap depth body)) in
            let l'' = taken-shallow one (x' ∷ []) two fits' second m l' (omega (arith, d.1, e, ap depth place)) in
            taken-shallow two (v' ∷ []) new fits'' third m l'' (omega (arith, d.2, e, ap depth value));
      }
