-- Which elements the sets have that are made of two.
use Rattle.std.proofs.Common.{◌≡◌, ℕ, zero, suc, ◌<◌, length, Bool, true, false, not, ◌&&◌, ◌||◌, List, [], ◌∷◌, get_or, refl, sym, ap, subst, inl, inr, arith, ◌∙◌}
use Rattle.std.specs.Prelude.{◌⊎◌, cond}
use Rattle.std.specs.declared.cmp.Ordering.{Ordering}
use Rattle.std.specs.declared.cmp.Ordering.TheVariants.{Less, Equal, Greater}
use Rattle.std.specs.Cmp.{IsTotalOrder, IsEquivalence, tied_itself, tied_back, alike_right}
use Rattle.std.specs.List.{AllByRecursion, list_all, remove}
use Rattle.std.specs.List.Sorted.{IsStrictlySortedBy}
use Rattle.std.specs.Ordering.{eq_by_cmp, is_eq, match_ordering, ordering_reverse}
use Rattle.std.proofs.lemmas.Bool.{cases_Bool, and_parts, true≢false, not-true}
use Rattle.std.proofs.lemmas.Map.Keys.{Less-from_sorted, sorted_tail}
use Rattle.std.proofs.lemmas.Map.Made.{is_member-filter}
use Rattle.slotted_slots.specs.Sets.{has, insert_key, IsPlaceOf}
use Rattle.slotted_slots.specs.SetAlgebra.{IsWithin, AreApart, united, shared, remaining, without}

module _ {T : Type 0} {cmp : T → T → Ordering} (o : IsTotalOrder cmp) where
  -- two tests that follow from each other are one
  same_test : (a b : Bool) → (a ≡ true → b ≡ true) → (b ≡ true → a ≡ true) → a ≡ b
  same_test true b there back = sym (there refl)
  same_test false true there back = back refl
  same_test false false there back = refl

  equal : (r : Ordering) → is_eq r ≡ true → r ≡ Equal
  equal Less e = absurd (cc)
  equal Equal e = refl
  equal Greater e = absurd (cc)

  pub equals : IsEquivalence (eq_by_cmp cmp)
  equals = record {
    refl = λ x. ap is_eq (tied_itself o x);
    symm = λ x y. same_test _ _ (λ e. ap is_eq (tied_back o x y (equal (cmp x y) e))) (λ e. ap is_eq (tied_back o y x (equal (cmp y x) e)));
    congr = λ x y z e. ap is_eq (o.congr x y z (equal (cmp x y) e));
  }

  -- equal elements are had alike
  pub has-alike : (xs : List T) (t u : T) → eq_by_cmp cmp t u ≡ true → has cmp xs t ≡ has cmp xs u
  has-alike [] t u e = refl
  has-alike (x ∷ xs) t u e = λ i. equals.congr t u x e i || has-alike xs t u e i

  has-cons : (x : T) (xs : List T) (t : T) → has cmp (x ∷ xs) t ≡ true → (eq_by_cmp cmp t x ≡ true) ⊎ (has cmp xs t ≡ true)
  has-cons x xs t there = elim (cases_Bool (eq_by_cmp cmp t x)) [
    | inl here ↦ inl here
    | inr away ↦ inr (subst (λ b. (b || has cmp xs t) ≡ true) away there)
  ]

  or_first : (a b : Bool) → a ≡ true → (a || b) ≡ true
  or_first true b e = refl
  or_first false b e = absurd (cc)

  or_second : (a b : Bool) → b ≡ true → (a || b) ≡ true
  or_second true b e = refl
  or_second false b e = e

  -- an element of a list is had
  pub has-element : (xs : List T) (i : ℕ) (x : T) → i < length xs → x ≡ get_or xs i x → has cmp xs x ≡ true
  has-element [] i x le is = absurd (omega (arith, le))
  has-element (y ∷ ys) zero x le is = or_first _ _ (ap (eq_by_cmp cmp x) (sym is) ∙ equals.refl x)
  has-element (y ∷ ys) (suc i) x le is = or_second _ _ (has-element ys i x (omega (arith, le)) is)

  -- a test that does not tell equal elements apart holds of all that a list has, where it holds of its elements
  pub passes_had : (p : T → Bool) → ((t u : T) → eq_by_cmp cmp t u ≡ true → p t ≡ p u) → (xs : List T) → list_all p xs ≡ true → (t : T) → has cmp xs t ≡ true → p t ≡ true
  passes_had p alike [] all t there = absurd (true≢false (sym there))
  passes_had p alike (x ∷ xs) all t there =
      let parts = and_parts (p x) (list_all p xs) all in
      elim (has-cons x xs t there) [
        | inl here ↦ alike t x here ∙ parts.0
        | inr rest ↦ passes_had p alike xs parts.1 t rest
      ]

  -- a list lies within another where the other has all its elements
  pub IsWithin-from_test : (xs ys : List T) → list_all (has cmp ys) xs ≡ true → IsWithin cmp xs ys
  IsWithin-from_test xs ys all t there = passes_had (has cmp ys) (has-alike ys) xs all t there

  -- two lists are apart where the other has none of its elements
  pub AreApart-from_test : (xs ys : List T) → list_all (λ x. not (has cmp ys x)) xs ≡ true → AreApart cmp xs ys
  AreApart-from_test xs ys all t there = not-true _ (passes_had (λ x. not (has cmp ys x)) (λ u v e. ap not (has-alike ys u v e)) xs all t there)

  -- an element that was put in is had, as is all that was
  or_swap : (a b c : Bool) → (a || (b || c)) ≡ (b || (a || c))
  or_swap true true c = refl
  or_swap true false c = refl
  or_swap false b c = refl

  or_absorbs : (a b : Bool) → (a || b) ≡ (a || (a || b))
  or_absorbs true b = refl
  or_absorbs false b = refl

  pub has-insert_key : (xs : List T) (t u : T) → has cmp (insert_key cmp xs t) u ≡ (eq_by_cmp cmp u t || has cmp xs u)
  has-insert_key [] t u = refl
  has-insert_key (x ∷ xs) t u = by (cmp t x) refl (has-insert_key xs t u)
    where
      by : (r : Ordering) → cmp t x ≡ r → has cmp (insert_key cmp xs t) u ≡ (eq_by_cmp cmp u t || has cmp xs u) → has cmp (match_ordering r (t ∷ x ∷ xs) (x ∷ xs) (x ∷ insert_key cmp xs t)) u ≡ (eq_by_cmp cmp u t || (eq_by_cmp cmp u x || has cmp xs u))
      by Less e rest = refl
      by Equal e rest =
          let same : eq_by_cmp cmp u t ≡ eq_by_cmp cmp u x = ap is_eq (alike_right o t x u e) in
          subst (λ b. (eq_by_cmp cmp u x || has cmp xs u) ≡ (b || (eq_by_cmp cmp u x || has cmp xs u))) (sym same) (or_absorbs (eq_by_cmp cmp u x) (has cmp xs u))
      by Greater e rest = ap (λ b. eq_by_cmp cmp u x || b) rest ∙ or_swap (eq_by_cmp cmp u x) (eq_by_cmp cmp u t) (has cmp xs u)

  -- both sets in one have what either has
  or_nothing : (b : Bool) → b ≡ (b || false)
  or_nothing true = refl
  or_nothing false = refl

  or_regroup : (a b c : Bool) → ((a || b) || c) ≡ (b || (a || c))
  or_regroup true true c = refl
  or_regroup true false c = refl
  or_regroup false true c = refl
  or_regroup false false c = refl

  pub has-united : (xs ys : List T) (t : T) → has cmp (united cmp xs ys) t ≡ (has cmp xs t || has cmp ys t)
  has-united xs [] t = or_nothing (has cmp xs t)
  has-united xs (y ∷ ys) t =
      has-united (insert_key cmp xs y) ys t
      ∙ (ap (λ b. b || has cmp ys t) (has-insert_key xs y t) ∙ or_regroup (eq_by_cmp cmp t y) (has cmp xs t) (has cmp ys t))

  pub has-shared : (xs ys : List T) (t : T) → has cmp (shared cmp xs ys) t ≡ (has cmp xs t && has cmp ys t)
  has-shared xs ys t = is_member-filter equals (has cmp ys) t (λ x e. has-alike ys t x e) xs

  pub has-remaining : (xs ys : List T) (t : T) → has cmp (remaining cmp xs ys) t ≡ (has cmp xs t && not (has cmp ys t))
  has-remaining xs ys t = is_member-filter equals (λ x. not (has cmp ys x)) t (λ x e. ap not (has-alike ys t x e)) xs

  -- the element at the place of t is the one that goes
  pub without-at : (xs : List T) → IsStrictlySortedBy cmp xs → (t : T) (i : ℕ) → IsPlaceOf cmp xs t i → without cmp xs t ≡ remove xs i
  without-at [] up t i here = absurd (omega (arith, here.in_range))
  without-at (x ∷ xs) up t zero here = rw (tied_back o x t (here.equal t)) refl
  without-at (x ∷ xs) up t (suc i) here =
      let rest : IsPlaceOf cmp xs t i = record { in_range = omega (arith, here.in_range); equal = here.equal } in
      let below : cmp x (get_or xs i t) ≡ Less = Less-from_sorted cmp (x ∷ xs) 0 (suc i) t up (omega arith) here.in_range in
      let first : cmp x t ≡ Less = sym (alike_right o (get_or xs i t) t x (here.equal t)) ∙ below in
      let away : eq_by_cmp cmp t x ≡ false = ap is_eq (o.antisymm t x ∙ ap ordering_reverse first) in
      rw away (ap (λ ys. x ∷ ys) (without-at xs (sorted_tail cmp x xs up) t i rest))

  -- none goes where t has a gap
  pub without-none : (xs : List T) (t : T) → has cmp xs t ≡ false → without cmp xs t ≡ xs
  without-none [] t none = refl
  without-none (x ∷ xs) t none = elim (cases_Bool (eq_by_cmp cmp t x)) [
    | inl here ↦ absurd (true≢false (sym (or_first _ _ here) ∙ none))
    | inr away ↦ rw away (ap (λ ys. x ∷ ys) (without-none xs t (subst (λ b. (b || has cmp xs t) ≡ false) away none)))
  ]

  -- what holds of all holds of those that stay
  AllByRecursion-without : (P : T → Type 0) (xs : List T) (t : T) → AllByRecursion P xs → AllByRecursion P (without cmp xs t)
  AllByRecursion-without P [] t all = tt
  AllByRecursion-without P (x ∷ xs) t all = elim (eq_by_cmp cmp t x) as (λ b. AllByRecursion P (cond b xs (x ∷ without cmp xs t))) [
    | true ↦ all.1
    | false ↦ (all.0, AllByRecursion-without P xs t all.1)
  ]

  pub IsStrictlySortedBy-without : (xs : List T) (t : T) → IsStrictlySortedBy cmp xs → IsStrictlySortedBy cmp (without cmp xs t)
  unfolding IsStrictlySortedBy
  IsStrictlySortedBy-without [] t up = tt
  IsStrictlySortedBy-without (x ∷ xs) t up = by (eq_by_cmp cmp t x) (IsStrictlySortedBy-without xs t up.1)
    where
      by : (b : Bool) → IsStrictlySortedBy cmp (without cmp xs t) → IsStrictlySortedBy cmp (cond b xs (x ∷ without cmp xs t))
      by true rest = up.1
      by false rest = (AllByRecursion-without (λ y. cmp x y ≡ Less) xs t up.0, rest)
