-- Patterns are equal exactly if their trees are.
use Rattle.std.proofs.Common.{◌≡◌, suc, List, [], ◌∷◌, map, refl, sym, subst, ap, ◌∙◌, Bool, true, ◌&&◌, rules, arith, true≢false}
use Rattle.std.specs.Prelude.{◌↔◌, nat_eq}
use Rattle.std.specs.Cmp.{first_so, second_so, nat_eq_equiv}
use Rattle.std.specs.Cmp.Lexicographic.{pointwise, lists_equiv}
use Rattle.slotted_nodes.specs.Form.{Form}
use Rattle.slotted_patterns.specs.Compared.{pattern_eq, shape_eq}
use Rattle.slotted_patterns.specs.Shape.{Shape, over, named, replaced, Shapes, none_left, one_and, shape, shape_step, shape_count, shapes_of}
use Rattle.slotted_patterns.specs.Tree.{PatternTree, enode, pvar, substitution, PatternRow, no_more, one_more, row_of}
use Rattle.slotted_patterns.specs.View.{tree_of, tree_step}
use Rattle.slotted_patterns.specs.declared.pattern.Pattern.{Pattern}
use Rattle.slotted_patterns.specs.declared.pattern.Pattern.TheOpen.{Pattern-F}
use Rattle.slotted_patterns.specs.declared.pattern.Pattern.TheFolds.{fold-roll-Pattern, ind-Pattern, map-Pattern}
use Rattle.slotted_patterns.proofs.ComparedShapes.{rows_eq, rows_eq-more, shape_eq-replaced, same_number}

module _ {L : Type 0} (form : L → Form) where
  -- the tree of a shape
  abbrev mutual
    tree_in : Shape L → PatternTree
    tree_in (over n row) = enode (form n) (row_in row)
    tree_in (named v) = pvar v
    tree_in (replaced b x t) = substitution (tree_in b) (tree_in x) (tree_in t)

    row_in : Shapes L → PatternRow
    row_in none_left = no_more
    row_in (one_and s rest) = one_more (tree_in s) (row_in rest)

  abbrev IsTold : Pattern L → Type 0
  IsTold p = tree_in (shape p) ≡ tree_of form p

  children_told : (ps : List ((p : Pattern L) × IsTold p)) → row_in (shapes_of (map shape (map (λ e. e.0) ps))) ≡ row_of (map (tree_of form) (map (λ e. e.0) ps))
  children_told [] = refl
  children_told (p ∷ ps) = λ i. one_more (p.1 i) (children_told ps i)

  level_told : (y : Pattern-F L ((p : Pattern L) × IsTold p)) → tree_in (shape_step (map-Pattern L (Pattern L) (Shape L) shape (map-Pattern L ((p : Pattern L) × IsTold p) (Pattern L) (λ e. e.0) y))) ≡ tree_step form (map-Pattern L (Pattern L) PatternTree (tree_of form) (map-Pattern L ((p : Pattern L) × IsTold p) (Pattern L) (λ e. e.0) y))
  level_told (Pattern-F.ENode n inner) = ap (enode (form n)) (children_told inner.items)
  level_told (Pattern-F.PVar v) = refl
  level_told (Pattern-F.Subst body place value) = λ i. substitution (body.value.1 i) (place.value.1 i) (value.value.1 i)

  told : (p : Pattern L) → IsTold p
  told = ind-Pattern L IsTold (λ x y is.
      let level = subst (λ z. tree_in (shape_step (map-Pattern L (Pattern L) (Shape L) shape z)) ≡ tree_step form (map-Pattern L (Pattern L) PatternTree (tree_of form) z)) is (level_told y) in
      ap tree_in (fold-roll-Pattern L (Shape L) shape_step x) ∙ (level ∙ sym (fold-roll-Pattern L PatternTree (tree_step form) x)))

  module _ (E : L → L → Bool) (decides : (n m : L) → E n m ≡ true ↔ form n ≡ form m) where
    mutual
      same_tree : (s t : Shape L) → shape_eq E s t ≡ true → tree_in s ≡ tree_in t
      same_tree (over n r) (over m q) h =
          let here = first_so (E n m && nat_eq (shape_count r) (shape_count q)) (rows_eq E r q) h in
          let count = same_number (shape_count r) (shape_count q) (second_so (E n m) (nat_eq (shape_count r) (shape_count q)) here) in
          let node = (decides n m).0 (first_so (E n m) (nat_eq (shape_count r) (shape_count q)) here) in
          let rows = same_row r q count (second_so (E n m && nat_eq (shape_count r) (shape_count q)) (rows_eq E r q) h) in
          λ i. enode (node i) (rows i)
      same_tree (named v) (named w) h = let name : v ≡ w = search (rules, first_so (pointwise nat_eq v w) true h) in ap pvar name
      same_tree (replaced b x t) (replaced e y u) h =
          let all = sym (shape_eq-replaced E b x t e y u) ∙ h in
          let rest = second_so (shape_eq E b e) (shape_eq E x y && shape_eq E t u) all in
          let body = same_tree b e (first_so (shape_eq E b e) (shape_eq E x y && shape_eq E t u) all) in
          let place = same_tree x y (first_so (shape_eq E x y) (shape_eq E t u) rest) in
          let value = same_tree t u (second_so (shape_eq E x y) (shape_eq E t u) rest) in
          λ i. substitution (body i) (place i) (value i)
      same_tree (over n r) (named w) h = absurd (true≢false (sym h))
      same_tree (over n r) (replaced e y u) h = absurd (true≢false (sym h))
      same_tree (named v) (over m q) h = absurd (true≢false (sym h))
      same_tree (named v) (replaced e y u) h = absurd (true≢false (sym h))
      same_tree (replaced b x t) (over m q) h = absurd (true≢false (sym h))
      same_tree (replaced b x t) (named w) h = absurd (true≢false (sym h))

      same_row : (r q : Shapes L) → shape_count r ≡ shape_count q → rows_eq E r q ≡ true → row_in r ≡ row_in q
      same_row none_left none_left k h = refl
      same_row none_left (one_and t q) k h = absurd (omega (arith, k))
      same_row (one_and s r) none_left k h = absurd (omega (arith, k))
      same_row (one_and s r) (one_and t q) k h =
          let count : shape_count r ≡ shape_count q = omega (arith, k) in
          let both = sym (rows_eq-more E s t r q count) ∙ h in
          let one = same_tree s t (first_so (shape_eq E s t) (rows_eq E r q) both) in
          let rows = same_row r q count (second_so (shape_eq E s t) (rows_eq E r q) both) in
          λ i. one_more (one i) (rows i)

      shape_back : (s t : Shape L) → tree_in s ≡ tree_in t → shape_eq E s t ≡ true
      shape_back (over n r) (over m q) e =
          let node : form n ≡ form m = cc in
          let rows = row_back r q (cc) in
          let count : nat_eq (shape_count r) (shape_count q) ≡ true = ap (nat_eq (shape_count r)) (sym rows.0) ∙ nat_eq_equiv.refl (shape_count r) in
          λ i. ((decides n m).1 node i && count i) && rows.1 i
      shape_back (named v) (named w) e =
          let name : v ≡ w = cc in
          let same = ap (pointwise nat_eq v) (sym name) ∙ (lists_equiv nat_eq_equiv).refl v in
          λ i. same i && true
      shape_back (replaced b x t) (replaced e y u) h =
          let body = shape_back b e (cc) in
          let place = shape_back x y (cc) in
          let value = shape_back t u (cc) in
          shape_eq-replaced E b x t e y u ∙ (λ i. body i && (place i && value i))
      shape_back (over n r) (named w) e = cc
      shape_back (over n r) (replaced b x t) e = cc
      shape_back (named v) (over m q) e = cc
      shape_back (named v) (replaced b x t) e = cc
      shape_back (replaced b x t) (over m q) e = cc
      shape_back (replaced b x t) (named w) e = cc

      row_back : (r q : Shapes L) → row_in r ≡ row_in q → (shape_count r ≡ shape_count q) × (rows_eq E r q ≡ true)
      row_back none_left none_left e = (refl, refl)
      row_back none_left (one_and t q) e = absurd (cc)
      row_back (one_and s r) none_left e = absurd (cc)
      row_back (one_and s r) (one_and t q) e =
          let rest = row_back r q (cc) in
          let one = shape_back s t (cc) in
          (ap suc rest.0, rows_eq-more E s t r q rest.0 ∙ (λ i. one i && rest.1 i))

    pub equal_trees : (p q : Pattern L) → pattern_eq E p q ≡ true ↔ tree_of form p ≡ tree_of form q
    equal_trees p q = (λ h. sym (told p) ∙ (same_tree (shape p) (shape q) h ∙ told q), λ e. shape_back (shape p) (shape q) (told p ∙ (e ∙ sym (told q))))
