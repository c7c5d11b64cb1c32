-- The list of a shape's heads is read in one way alone. So two shapes are equal exactly if their heads are, and their parts in pairs.
use Rattle.std.proofs.Common.{◌≡◌, ℕ, suc, ◌+◌, ◌<◌, ◌≤◌, List, [], ◌∷◌, ◌++◌, map, drop, get_or, Vec, length, refl, sym, ap, ◌∙◌, Bool, true, false, nat_eq, ◌&&◌, rules, arith, append_assoc, length-drop, true≢false}
use Rattle.std.proofs.Math.Seq.{drop-cons}
use Rattle.std.proofs.Math.ListN.{drop_of_length-le}
use Rattle.std.specs.Prelude.{Box}
use Rattle.std.specs.Cmp.{both_ways, first_so, second_so}
use Rattle.std.specs.Cmp.Lexicographic.{pointwise}
use Rattle.std.specs.declared.alloc.Global.{Global}
use Rattle.slotted_patterns.specs.Compared.{head_eq, pattern_eq, shape_eq}
use Rattle.slotted_patterns.specs.Shape.{Shape, over, named, replaced, Shapes, none_left, one_and, Head, head, heads, heads_in, parts_of, shape, shape_count, shapes_of}
use Rattle.slotted_patterns.specs.declared.pattern.Pattern.{Pattern, ENode, Subst}
use Rattle.slotted_patterns.proofs.Shapes.{count-shapes, head-ENode, heads-opened, shape-Subst, shape_parts-ENode}

pub same_number : (k j : ℕ) → nat_eq k j ≡ true → k ≡ j
same_number k j h = search (rules, h)

module _ {N : Type 0} (E : N → N → Bool) where
  abbrev same : List (Head N) → List (Head N) → Bool
  same = pointwise (head_eq E)

  -- lists that are equal in pairs, one after another
  joined : (a b c d : List (Head N)) → same a b ≡ true → same c d ≡ true → same (a ++ c) (b ++ d) ≡ true
  joined [] [] c d h k = k
  joined [] (y ∷ b) c d h k = absurd (true≢false (sym h))
  joined (x ∷ a) [] c d h k = absurd (true≢false (sym h))
  joined (x ∷ a) (y ∷ b) c d h k =
      let here = first_so (head_eq E x y) (same a b) h in
      let rest = joined a b c d (second_so (head_eq E x y) (same a b) h) k in
      λ i. here i && rest i

  in-turn : (a b c d : List (Head N)) → (a ++ (b ++ c)) ++ d ≡ a ++ (b ++ (c ++ d))
  in-turn a b c d = append_assoc a (b ++ c) d ∙ ap (λ l. a ++ l) (append_assoc b c d)

  -- shapes are told from what follows them, and so are shapes one after another
  mutual
    parted : (s t : Shape N) (c d : List (Head N)) → same (heads s ++ c) (heads t ++ d) ≡ true → (same (heads s) (heads t) ≡ true) × (same c d ≡ true)
    parted (over n r) (over m q) c d h =
        let here = first_so (E n m && nat_eq (shape_count r) (shape_count q)) (same (heads_in r ++ c) (heads_in q ++ d)) h in
        let rows = parted-rows r q c d (same_number _ _ (second_so (E n m) (nat_eq (shape_count r) (shape_count q)) here)) (second_so (E n m && nat_eq (shape_count r) (shape_count q)) (same (heads_in r ++ c) (heads_in q ++ d)) h) in
        (λ i. here i && rows.0 i, rows.1)
    parted (named v) (named w) c d h =
        let here = first_so (pointwise nat_eq v w) (same c d) h in
        (λ i. here i && true, second_so (pointwise nat_eq v w) (same c d) h)
    parted (replaced b x t) (replaced e y u) c d h =
        let turned : same (heads t ++ (heads x ++ (heads b ++ c))) (heads u ++ (heads y ++ (heads e ++ d))) ≡ true =
        sym (λ i. same (in-turn (heads t) (heads x) (heads b) c i) (in-turn (heads u) (heads y) (heads e) d i)) ∙ second_so true _ h in
        let one = parted t u (heads x ++ (heads b ++ c)) (heads y ++ (heads e ++ d)) turned in
        let two = parted x y (heads b ++ c) (heads e ++ d) one.1 in
        let three = parted b e c d two.1 in
        (joined (heads t) (heads u) (heads x ++ heads b) (heads y ++ heads e) one.0 (joined (heads x) (heads y) (heads b) (heads e) two.0 three.0), three.1)
    parted (over n r) (named w) c d h = absurd (true≢false (sym h))
    parted (over n r) (replaced e y u) c d h = absurd (true≢false (sym h))
    parted (named v) (over m q) c d h = absurd (true≢false (sym h))
    parted (named v) (replaced e y u) c d h = absurd (true≢false (sym h))
    parted (replaced b x t) (over m q) c d h = absurd (true≢false (sym h))
    parted (replaced b x t) (named w) c d h = absurd (true≢false (sym h))

    parted-rows : (r q : Shapes N) (c d : List (Head N)) → shape_count r ≡ shape_count q → same (heads_in r ++ c) (heads_in q ++ d) ≡ true → (same (heads_in r) (heads_in q) ≡ true) × (same c d ≡ true)
    parted-rows none_left none_left c d k h = (refl, h)
    parted-rows none_left (one_and t q) c d k h = absurd (omega (arith, k))
    parted-rows (one_and s r) none_left c d k h = absurd (omega (arith, k))
    parted-rows (one_and s r) (one_and t q) c d k h =
        let turned : same (heads_in r ++ (heads s ++ c)) (heads_in q ++ (heads t ++ d)) ≡ true =
        sym (λ i. same (append_assoc (heads_in r) (heads s) c i) (append_assoc (heads_in q) (heads t) d i)) ∙ h in
        let rows = parted-rows r q (heads s ++ c) (heads t ++ d) (omega (arith, k)) turned in
        let one = parted s t c d rows.1 in
        (joined (heads_in r) (heads_in q) (heads s) (heads t) rows.0 one.0, one.1)

  abbrev pub rows_eq : Shapes N → Shapes N → Bool
  rows_eq r q = same (heads_in r) (heads_in q)

  pub rows_eq-more : (s t : Shape N) (r q : Shapes N) → shape_count r ≡ shape_count q → rows_eq (one_and s r) (one_and t q) ≡ (shape_eq E s t && rows_eq r q)
  rows_eq-more s t r q k =
      both_ways (rows_eq (one_and s r) (one_and t q)) (shape_eq E s t && rows_eq r q)
      (λ h. let rows = parted-rows r q (heads s) (heads t) k h in λ i. rows.1 i && rows.0 i)
      (λ h. joined (heads_in r) (heads_in q) (heads s) (heads t) (second_so (shape_eq E s t) (rows_eq r q) h) (first_so (shape_eq E s t) (rows_eq r q) h))

  -- two substitutions are equal exactly if their parts are
  pub shape_eq-replaced : (b x t e y u : Shape N) → shape_eq E (replaced b x t) (replaced e y u) ≡ (shape_eq E b e && (shape_eq E x y && shape_eq E t u))
  shape_eq-replaced b x t e y u =
      both_ways (shape_eq E (replaced b x t) (replaced e y u)) (shape_eq E b e && (shape_eq E x y && shape_eq E t u))
      (λ h.
      let one = parted t u (heads x ++ heads b) (heads y ++ heads e) h in
      let two = parted x y (heads b) (heads e) one.1 in
      λ i. two.1 i && (two.0 i && one.0 i))
      (λ h.
      let both = second_so (shape_eq E b e) (shape_eq E x y && shape_eq E t u) h in
      joined (heads t) (heads u) (heads x ++ heads b) (heads y ++ heads e) (second_so (shape_eq E x y) (shape_eq E t u) both) (joined (heads x) (heads y) (heads b) (heads e) (first_so (shape_eq E x y) (shape_eq E t u) both) (first_so (shape_eq E b e) (shape_eq E x y && shape_eq E t u) h)))

  -- two shapes with other heads, and with equal ones
  pub shape_eq-unlike : (s t : Shape N) → head_eq E (head s) (head t) ≡ false → shape_eq E s t ≡ false
  shape_eq-unlike s t h = (λ i. same (heads-opened s i) (heads-opened t i)) ∙ ap (λ z. z && rows_eq (shapes_of (parts_of s)) (shapes_of (parts_of t))) h

  pub shape_eq-alike : (s t : Shape N) → head_eq E (head s) (head t) ≡ true → shape_eq E s t ≡ rows_eq (shapes_of (parts_of s)) (shapes_of (parts_of t))
  shape_eq-alike s t h = (λ i. same (heads-opened s i) (heads-opened t i)) ∙ ap (λ z. z && rows_eq (shapes_of (parts_of s)) (shapes_of (parts_of t))) h

module _ {L : Type 0} (E : L → L → Bool) where
  -- whether the patterns of two lists are equal from the place k on
  abbrev pub rows_from : List (Pattern L) → List (Pattern L) → ℕ → Bool
  rows_from ps qs k = rows_eq E (shapes_of (map shape (drop k ps))) (shapes_of (map shape (drop k qs)))

  pub rows_from-next : (ps qs : List (Pattern L)) (k : ℕ) (x y : Pattern L) → length ps ≡ length qs → k < length ps → x ≡ get_or ps k x → y ≡ get_or qs k y → rows_from ps qs k ≡ (pattern_eq E x y && rows_from ps qs (k + 1))
  rows_from-next ps qs k x y count h a b =
      let more : suc k ≡ k + 1 = omega arith in
      (λ i. rows_eq E (shapes_of (map shape (drop-cons ps k x h i))) (shapes_of (map shape (drop-cons qs k y (omega (arith, count, h)) i))))
      ∙ ((λ i. rows_eq E (one_and (shape (sym a i)) (shapes_of (map shape (drop (suc k) ps)))) (one_and (shape (sym b i)) (shapes_of (map shape (drop (suc k) qs)))))
      ∙ (rows_eq-more E (shape x) (shape y) (shapes_of (map shape (drop (suc k) ps))) (shapes_of (map shape (drop (suc k) qs)))
      (count-shapes (drop (suc k) ps) ∙ (omega (arith, length-drop (suc k) ps, length-drop (suc k) qs, count) ∙ sym (count-shapes (drop (suc k) qs))))
      ∙ ap (λ n. pattern_eq E x y && rows_from ps qs n) more))

  pub rows_from-end : (ps qs : List (Pattern L)) (k : ℕ) → length ps ≤ k → length qs ≤ k → rows_from ps qs k ≡ true
  rows_from-end ps qs k h i = λ j. rows_eq E (shapes_of (map shape (drop_of_length-le ps h j))) (shapes_of (map shape (drop_of_length-le qs i j)))

  module _ (p q : Pattern L) where
    -- two nodes with equal heads
    module _ (n m : L) (ps qs : Vec (Pattern L) Global) (is : p ≡ ENode n ps) (also : q ≡ ENode m qs) (alike : head_eq E (head (shape p)) (head (shape q)) ≡ true) where
      pub nodes_count : length ps.items ≡ length qs.items
      nodes_count =
          same_number (length ps.items) (length qs.items)
          (second_so (E n m) (nat_eq (length ps.items) (length qs.items)) ((λ i. head_eq E (sym (head-ENode p n ps is) i) (sym (head-ENode q m qs also) i)) ∙ alike))

      pub nodes_eq : pattern_eq E p q ≡ rows_from ps.items qs.items 0
      nodes_eq =
          shape_eq-alike E (shape p) (shape q) alike
          ∙ (λ i. rows_eq E (shapes_of (shape_parts-ENode p n ps is i)) (shapes_of (shape_parts-ENode q m qs also i)))

    pub substitutions_eq : (b x t e y u : Box (Pattern L) Global) → p ≡ Subst b x t → q ≡ Subst e y u → pattern_eq E p q ≡ (pattern_eq E b.value e.value && (pattern_eq E x.value y.value && pattern_eq E t.value u.value))
    substitutions_eq b x t e y u is also =
        (λ i. shape_eq E ((ap shape is ∙ shape-Subst b x t) i) ((ap shape also ∙ shape-Subst e y u) i))
        ∙ shape_eq-replaced E (shape b.value) (shape x.value) (shape t.value) (shape e.value) (shape y.value) (shape u.value)
