-- When two patterns are equal, and what a pattern feeds to a hasher: both go along the heads of the pattern.
--     pattern_eq E       where E says which nodes are equal
--     pattern_input F    where F says what a node feeds
use Rattle.std.specs.Prelude.{◌≡◌, ◌++◌, ◌&&◌, Bool, true, false, flat_map, nat_eq, refl}
use Rattle.std.proofs.Common.{rules, ap, sym, ◌∙◌, true≢false}
use Rattle.std.specs.Cmp.{IsPartialEquivalence, IsEquivalence, on_per, on_equiv, equiv, partial_equiv_from_equiv, first_so, second_so, nat_eq_equiv}
use Rattle.std.specs.Cmp.Lexicographic.{pointwise, lists_per, lists_equiv}
use Rattle.std.specs.Hash as fed
use Rattle.std.specs.Hash.{HashWrites}
use Rattle.slotted_slots.specs.Hashing.{elements_alike}
use Rattle.slotted_patterns.specs.Shape.{Shape, Head, node, variable, replacement, heads, shape}
use Rattle.slotted_patterns.specs.declared.pattern.Pattern.{Pattern}

module _ {N : Type 0} (E : N → N → Bool) where
  abbrev pub head_eq : Head N → Head N → Bool
  head_eq (node n k) (node m j) = E n m && nat_eq k j
  head_eq (node n k) (variable w) = false
  head_eq (node n k) replacement = false
  head_eq (variable v) (node m j) = false
  head_eq (variable v) (variable w) = pointwise nat_eq v w
  head_eq (variable v) replacement = false
  head_eq replacement (node m j) = false
  head_eq replacement (variable w) = false
  head_eq replacement replacement = true

  abbrev pub shape_eq : Shape N → Shape N → Bool
  shape_eq s t = pointwise head_eq (heads s) (heads t)

  abbrev pub pattern_eq : Pattern N → Pattern N → Bool
  pattern_eq p q = shape_eq (shape p) (shape q)

module _ {N : Type 0} (F : N → HashWrites) where
  abbrev pub head_input : Head N → HashWrites
  head_input (node n k) = fed.u8 0 ++ (F n ++ fed.usize k)
  head_input (variable v) = fed.u8 1 ++ fed.str v
  head_input replacement = fed.u8 2

  abbrev pub shape_input : Shape N → HashWrites
  shape_input s = flat_map head_input (heads s)

  abbrev pub pattern_input : Pattern N → HashWrites
  pattern_input p = shape_input (shape p)

module _ {N : Type 0} {E : N → N → Bool} where
  head_symm : IsPartialEquivalence E → (h k : Head N) → head_eq E h k ≡ head_eq E k h
  head_symm e (node n k) (node m j) = λ i. e.symm n m i && nat_eq_equiv.symm k j i
  head_symm e (node n k) (variable w) = refl
  head_symm e (node n k) replacement = refl
  head_symm e (variable v) (node m j) = refl
  head_symm e (variable v) (variable w) = (lists_equiv nat_eq_equiv).symm v w
  head_symm e (variable v) replacement = refl
  head_symm e replacement (node m j) = refl
  head_symm e replacement (variable w) = refl
  head_symm e replacement replacement = refl

  head_trans : IsPartialEquivalence E → (h k l : Head N) → head_eq E h k ≡ true → head_eq E k l ≡ true → head_eq E h l ≡ true
  head_trans e (node n k) (node m j) (node o i) p q =
      let a = e.trans n m o (first_so (E n m) (nat_eq k j) p) (first_so (E m o) (nat_eq j i) q) in
      let b = nat_eq_equiv.congr k j i (second_so (E n m) (nat_eq k j) p) ∙ second_so (E m o) (nat_eq j i) q in
      λ z. a z && b z
  head_trans e (variable v) (variable w) (variable u) p q = (lists_equiv nat_eq_equiv).congr v w u p ∙ q
  head_trans e replacement replacement replacement p q = refl
  head_trans e (node n k) (node m j) (variable u) p q = absurd (true≢false (sym q))
  head_trans e (node n k) (node m j) replacement p q = absurd (true≢false (sym q))
  head_trans e (node n k) (variable w) l p q = absurd (true≢false (sym p))
  head_trans e (node n k) replacement l p q = absurd (true≢false (sym p))
  head_trans e (variable v) (node m j) l p q = absurd (true≢false (sym p))
  head_trans e (variable v) (variable w) (node m j) p q = absurd (true≢false (sym q))
  head_trans e (variable v) (variable w) replacement p q = absurd (true≢false (sym q))
  head_trans e (variable v) replacement l p q = absurd (true≢false (sym p))
  head_trans e replacement (node m j) l p q = absurd (true≢false (sym p))
  head_trans e replacement (variable w) l p q = absurd (true≢false (sym p))
  head_trans e replacement replacement (node m j) p q = absurd (true≢false (sym q))
  head_trans e replacement replacement (variable w) p q = absurd (true≢false (sym q))

  head_per : IsPartialEquivalence E → IsPartialEquivalence (head_eq E)
  head_per e = record { symm = head_symm e; trans = head_trans e }

  head_refl : IsEquivalence E → (h : Head N) → head_eq E h h ≡ true
  head_refl e (node n k) = λ i. e.refl n i && nat_eq_equiv.refl k i
  head_refl e (variable v) = (lists_equiv nat_eq_equiv).refl v
  head_refl e replacement = refl

  -- the laws of equality
  pub pattern_per : IsPartialEquivalence E → IsPartialEquivalence (pattern_eq E)
  pattern_per e = on_per (λ p. heads (shape p)) (lists_per (head_per e))

  pub pattern_equiv : IsEquivalence E → IsEquivalence (pattern_eq E)
  pattern_equiv e = on_equiv (λ p. heads (shape p)) (lists_equiv (equiv (head_per (partial_equiv_from_equiv e)) (head_refl e)))

  module _ (F : N → HashWrites) (alike : (n m : N) → E n m ≡ true → F n ≡ F m) where
    head_alike : (h k : Head N) → head_eq E h k ≡ true → head_input F h ≡ head_input F k
    head_alike (node n k) (node m j) p =
        let a = alike n m (first_so (E n m) (nat_eq k j) p) in
        let b : k ≡ j = search (rules, second_so (E n m) (nat_eq k j) p) in
        λ i. fed.u8 0 ++ (a i ++ fed.usize (b i))
    head_alike (variable v) (variable w) p = let e : v ≡ w = search (rules, p) in ap (λ u. fed.u8 1 ++ fed.str u) e
    head_alike replacement replacement p = refl
    head_alike (node n k) (variable w) p = absurd (true≢false (sym p))
    head_alike (node n k) replacement p = absurd (true≢false (sym p))
    head_alike (variable v) (node m j) p = absurd (true≢false (sym p))
    head_alike (variable v) replacement p = absurd (true≢false (sym p))
    head_alike replacement (node m j) p = absurd (true≢false (sym p))
    head_alike replacement (variable w) p = absurd (true≢false (sym p))

    -- equal patterns feed the same
    pub patterns_alike : (p q : Pattern N) → pattern_eq E p q ≡ true → pattern_input F p ≡ pattern_input F q
    patterns_alike p q = elements_alike (head_input F) head_alike (heads (shape p)) (heads (shape q))
