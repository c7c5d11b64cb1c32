-- The first pattern inside a pattern of which something holds, by its parts.
use denote.Ref.{Bor}
use Rattle.std.proofs.Common.{◌≡◌, ℕ, ◌+◌, ◌<◌, ◌≤◌, List, [], ◌∷◌, ◌++◌, length, get_or, map, reverse, Bool, true, false, refl, sym, ap, ◌∙◌, String, Vec, append_assoc}
use Rattle.std.specs.Prelude.{Box, cond, ◌||◌, Option, Some, None, option_map, is_some}
use Rattle.std.specs.List.{find}
use Rattle.std.specs.Option.{option_or}
use Rattle.std.specs.declared.alloc.Global.{Global}
use Rattle.std.proofs.lemmas.List.{reverse-append}
use Rattle.std.proofs.lemmas.List.Folds.{find-append}
use Rattle.slotted_nodes.specs.Form.{Form}
use Rattle.slotted_patterns.specs.Subpatterns.{subpatterns, subpatterns_in}
use Rattle.slotted_patterns.specs.Tree.{PatternTree, enode, substitution, PatternRow, one_more, row_of}
use Rattle.slotted_patterns.specs.View.{tree_of}
use Rattle.slotted_patterns.specs.declared.pattern.Pattern.{Pattern, ENode, PVar, Subst}
use Rattle.slotted_rule_patterns.specs.Inside.{first_such, own_such}
use Rattle.slotted_rule_patterns.proofs.Rows.{rest, rest-opened, rest-ended, tree_of-node, tree_of-substitution, tree_of-variable}

pub is_some-or : {A : Type 0} (a b : Option A) → is_some (option_or a b) ≡ (is_some a || is_some b)
is_some-or None b = refl
is_some-or (Some x) b = refl

module _ (holds : PatternTree → Bool) where
  -- the same of patterns one after another
  abbrev pub row_such : PatternRow → Option PatternTree
  row_such row = find holds (reverse (subpatterns_in row))

  pub first-node : (f : Form) (row : PatternRow) → first_such holds (enode f row) ≡ option_or (row_such row) (own_such holds (enode f row))
  first-node f row =
      ap (find holds) (reverse-append (enode f row ∷ []) (subpatterns_in row)) ∙ find-append holds (reverse (subpatterns_in row)) (enode f row ∷ [])

  pub first-row : (p : PatternTree) (rest : PatternRow) → row_such (one_more p rest) ≡ option_or (first_such holds p) (row_such rest)
  first-row p rest =
      ap (find holds) (reverse-append (subpatterns_in rest) (subpatterns p)) ∙ find-append holds (reverse (subpatterns p)) (reverse (subpatterns_in rest))

  pub first-substitution : (b x t : PatternTree) → first_such holds (substitution b x t)
      ≡ option_or (first_such holds b) (option_or (first_such holds x) (option_or (first_such holds t) (own_such holds (substitution b x t))))
  first-substitution b x t =
      let s = substitution b x t in
      let rb = reverse (subpatterns b) in
      let rx = reverse (subpatterns x) in
      let rt = reverse (subpatterns t) in
      let turned : reverse (s ∷ (subpatterns t ++ (subpatterns x ++ subpatterns b))) ≡ ((rb ++ rx) ++ rt) ++ s ∷ [] =
      reverse-append (s ∷ []) (subpatterns t ++ (subpatterns x ++ subpatterns b))
      ∙ ap (λ l. l ++ s ∷ []) (reverse-append (subpatterns t) (subpatterns x ++ subpatterns b) ∙ ap (λ l. l ++ rt) (reverse-append (subpatterns x) (subpatterns b))) in
      ap (find holds) (turned ∙ (append_assoc (rb ++ rx) rt (s ∷ []) ∙ append_assoc rb rx (rt ++ s ∷ [])))
      ∙ (find-append holds rb (rx ++ (rt ++ s ∷ []))
      ∙ ap (option_or (find holds rb)) (find-append holds rx (rt ++ s ∷ []) ∙ ap (option_or (find holds rx)) (find-append holds rt (s ∷ []))))

  pub asked-own : (p : PatternTree) → is_some (own_such holds p) ≡ holds p
  asked-own p = by (holds p)
    where
      by : (b : Bool) → is_some (cond b (Some p) None) ≡ b
      by true = refl
      by false = refl

  -- whether there is one
  pub asked-node : (f : Form) (row : PatternRow) → is_some (first_such holds (enode f row)) ≡ (is_some (row_such row) || holds (enode f row))
  asked-node f row =
      ap is_some (first-node f row)
      ∙ (is_some-or (row_such row) (own_such holds (enode f row)) ∙ ap (λ b. is_some (row_such row) || b) (asked-own (enode f row)))

  pub asked-row : (p : PatternTree) (rest : PatternRow) → is_some (row_such (one_more p rest)) ≡ (is_some (first_such holds p) || is_some (row_such rest))
  asked-row p rest = ap is_some (first-row p rest) ∙ is_some-or (first_such holds p) (row_such rest)

  pub asked-substitution : (b x t : PatternTree) → is_some (first_such holds (substitution b x t))
      ≡ (is_some (first_such holds b) || (is_some (first_such holds x) || (is_some (first_such holds t) || holds (substitution b x t))))
  asked-substitution b x t =
      ap is_some (first-substitution b x t)
      ∙ (is_some-or (first_such holds b) _
      ∙ ap (λ c. is_some (first_such holds b) || c) (is_some-or (first_such holds x) _
      ∙ ap (λ c. is_some (first_such holds x) || c) (is_some-or (first_such holds t) (own_such holds (substitution b x t))
      ∙ ap (λ c. is_some (first_such holds t) || c) (asked-own (substitution b x t)))))

module _ {L : Type 0} (form : L → Form) where
  -- an answer that is lent
  abbrev pub lent : Option (Bor (Pattern L)) → Option PatternTree
  lent o = option_map (λ p. tree_of form p.now) o

  -- what the first one has, or else the second
  found : (o : Option (Bor (Pattern L))) (v : Bor (Pattern L)) (a b : Option PatternTree) → lent o ≡ a → o ≡ Some v → Some (tree_of form v.now) ≡ option_or a b
  found o v a b h e = ap (λ o. option_or (lent o) b) (sym e) ∙ ap (λ a. option_or a b) h

  passed : (o : Option (Bor (Pattern L))) (a b : Option PatternTree) → lent o ≡ a → o ≡ None → b ≡ option_or a b
  passed o a b h e = ap (λ o. option_or (lent o) b) (sym e) ∙ ap (λ a. option_or a b) h

  module _ (holds : PatternTree → Bool) where
    abbrev pub first : Pattern L → Option PatternTree
    first p = first_such holds (tree_of form p)

    abbrev pub row_from : List (Pattern L) → ℕ → Option PatternTree
    row_from es i = row_such holds (rest (tree_of form) es i)

    next : (es : List (Pattern L)) (i : ℕ) (e : Pattern L) → i < length es → e ≡ get_or es i e → row_from es i ≡ option_or (first e) (row_from es (i + 1))
    next es i e lt is =
        ap (row_such holds) (rest-opened (tree_of form) es i e lt is) ∙ first-row holds (tree_of form e) (rest (tree_of form) es (i + 1))

    pub first-later : (es : List (Pattern L)) (i : ℕ) (e : Pattern L) (o : Option (Bor (Pattern L))) (all : Option PatternTree) → i < length es → e ≡ get_or es i e → lent o ≡ first e → o ≡ None → all ≡ row_from es i → all ≡ row_from es (i + 1)
    first-later es i e o all lt is h k all-is = all-is ∙ (next es i e lt is ∙ sym (passed o (first e) (row_from es (i + 1)) h k))

    pub variable-itself : (p : Pattern L) (v : String Global) → p ≡ PVar v → own_such holds (tree_of form p) ≡ first p
    variable-itself p v is = let view = tree_of-variable form p v is in ap (own_such holds) view ∙ sym (ap (first_such holds) view)

    module _ (p : Pattern L) (n : L) (ps : Vec (Pattern L) Global) (is : p ≡ ENode n ps) (es : List (Pattern L)) (listed : es ≡ ps.items) where
      abbrev whole : Option PatternTree
      whole = row_such holds (row_of (map (tree_of form) es))

      in_node : first p ≡ option_or whole (own_such holds (tree_of form p))
      in_node =
          let view : tree_of form p ≡ enode (form n) (row_of (map (tree_of form) es)) =
          tree_of-node form p n ps is ∙ ap (λ xs. enode (form n) (row_of (map (tree_of form) xs))) (sym listed) in
          ap (first_such holds) view ∙ (first-node holds (form n) (row_of (map (tree_of form) es)) ∙ ap (λ t. option_or whole (own_such holds t)) (sym view))

      option_or-here : (x : PatternTree) (a b : Option PatternTree) → Some x ≡ a → Some x ≡ option_or a b
      option_or-here x a b e = ap (λ a. option_or a b) e

      pub node-here : (i : ℕ) (e : Pattern L) (o : Option (Bor (Pattern L))) (v : Bor (Pattern L)) → i < length es → e ≡ get_or es i e → lent o ≡ first e → o ≡ Some v → whole ≡ row_from es i → Some (tree_of form v.now) ≡ first p
      node-here i e o v lt e-is h k all =
          option_or-here (tree_of form v.now) whole (own_such holds (tree_of form p)) (found o v (first e) (row_from es (i + 1)) h k ∙ sym (all ∙ next es i e lt e-is))
          ∙ sym in_node

      pub node-itself : (i : ℕ) (o : Option PatternTree) → length es ≤ i → whole ≡ row_from es i → o ≡ own_such holds (tree_of form p) → o ≡ first p
      node-itself i o le all own =
          own
          ∙ (ap (λ a. option_or a (own_such holds (tree_of form p))) (sym (all ∙ ap (row_such holds) (rest-ended (tree_of form) es i le)))
          ∙ sym in_node)

    module _ (p : Pattern L) (b x t : Box (Pattern L) Global) (is : p ≡ Subst b x t) (q : Pattern L) (o : Option (Bor (Pattern L))) (body : q ≡ b.value) (h : lent o ≡ first q) where
      abbrev own : Option PatternTree
      own = own_such holds (tree_of form p)

      parts : first p ≡ option_or (first b.value) (option_or (first x.value) (option_or (first t.value) own))
      parts =
          let view = tree_of-substitution form p b x t is in
          ap (first_such holds) view
          ∙ (first-substitution holds (tree_of form b.value) (tree_of form x.value) (tree_of form t.value)
          ∙ ap (λ s. option_or (first b.value) (option_or (first x.value) (option_or (first t.value) (own_such holds s)))) (sym view))

      pub body-here : (v : Bor (Pattern L)) → o ≡ Some v → Some (tree_of form v.now) ≡ first p
      body-here v k = found o v (first b.value) (option_or (first x.value) (option_or (first t.value) own)) (h ∙ ap first body) k ∙ sym parts

      module _ (none : o ≡ None) (r : Pattern L) (u : Option (Bor (Pattern L))) (part : r ≡ x.value) (j : lent u ≡ first r) where
        after-body : option_or (first x.value) (option_or (first t.value) own) ≡ first p
        after-body = passed o (first b.value) (option_or (first x.value) (option_or (first t.value) own)) (h ∙ ap first body) none ∙ sym parts

        pub part-here : (v : Bor (Pattern L)) → u ≡ Some v → Some (tree_of form v.now) ≡ first p
        part-here v k = found u v (first x.value) (option_or (first t.value) own) (j ∙ ap first part) k ∙ after-body

        module _ (none_yet : u ≡ None) (s : Pattern L) (w : Option (Bor (Pattern L))) (value : s ≡ t.value) (l : lent w ≡ first s) where
          after-part : option_or (first t.value) own ≡ first p
          after-part = passed u (first x.value) (option_or (first t.value) own) (j ∙ ap first part) none_yet ∙ after-body

          pub value-here : (v : Bor (Pattern L)) → w ≡ Some v → Some (tree_of form v.now) ≡ first p
          value-here v k = found w v (first t.value) own (l ∙ ap first value) k ∙ after-part

          pub substitution-itself : (z : Option PatternTree) → w ≡ None → z ≡ own → z ≡ first p
          substitution-itself z k e = e ∙ (passed w (first t.value) own (l ∙ ap first value) k ∙ after-part)
