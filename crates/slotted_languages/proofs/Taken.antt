-- Which slots a table knows in addition, where names are put into a node.
use Rattle.std.proofs.Common.{◌≡◌, ℕ, ◌<◌, List, [], ◌∷◌, map, Some, None, sym, ◌∙◌, ap, refl, inl, inr, arith}
use Rattle.std.specs.Prelude.{Bool, true, false, ◌||◌, nat_eq, cond, unwrap_or}
use Rattle.std.proofs.lemmas.Bool.{false≢true, cases_eq, eq-eqb, ne_eqb}
use Rattle.std.proofs.lemmas.Bool.Decides.{nat_tests}
use Rattle.slotted_slots.specs.Table.{Table, Takes}
use Rattle.slotted_slots.specs.Ascending.{AllAbove, IsAscending}
use Rattle.slotted_slots.specs.Maps.{IsInEither, value_of, with_pair, values, keys, is_among}
use Rattle.slotted_slots.proofs.Taken.{takes_then, takes_as}
use Rattle.slotted_slots.proofs.MapLaws.{is_among-value_of}
use Rattle.slotted_nodes.specs.Form.{Form}
use Rattle.slotted_languages.specs.Fresh.{IsFilled, IsInUse, IsOrIn, replaced}
use Rattle.slotted_languages.specs.Shape.{with_names}
use Rattle.slotted_languages.proofs.Walks.{value_of-with_pair_same}

-- one more pair keeps the values
pub value_kept : (m : List (ℕ × ℕ)) (x y v : ℕ) → value_of m x ≡ None → is_among v (values m) ≡ true → is_among v (values (with_pair m x y)) ≡ true
value_kept [] x y v missing h = absurd (false≢true h)
value_kept (p ∷ m) x y v missing h = grind (arith, nat_tests, value_kept m x y v)

pub value_put : (m : List (ℕ × ℕ)) (x y : ℕ) → is_among y (values (with_pair m x y)) ≡ true
value_put m x y = is_among-value_of (with_pair m x y) x y (value_of-with_pair_same m x y)

-- what a slot apart takes is a value, once it is entered
pub entered_taken : (t u : Table) (avoid xs : List ℕ) (m n : List (ℕ × ℕ)) (x y : ℕ) → value_of m x ≡ None → n ≡ with_pair m x y → Takes t u (IsOrIn y avoid (values m) xs) → Takes t u (IsInUse avoid (values n) xs)
entered_taken t u avoid xs m n x y missing e h =
    takes_as t u (IsOrIn y avoid (values m) xs) (IsInUse avoid (values n) xs) h (λ z p. elim p [
      | inl q ↦ inr (inl (rw e (ap (λ w. is_among w (values (with_pair m x y))) q ∙ value_put m x y)))
      | inr (inl q) ↦ inl q
      | inr (inr (inl q)) ↦ inr (inl (rw e (value_kept m x y z missing q)))
      | inr (inr (inr q)) ↦ inr (inr q)
    ])

-- and stays one
pub grown_taken : (t u v : Table) (avoid xs vs ws : List ℕ) → ((z : ℕ) → is_among z vs ≡ true → is_among z ws ≡ true) → Takes t u (IsInUse avoid vs xs) → Takes u v (IsInUse avoid ws xs) → Takes t v (IsInUse avoid ws xs)
grown_taken t u v avoid xs vs ws grow h k =
    takes_then t u v (IsInUse avoid vs xs) (IsInUse avoid ws xs) (IsInUse avoid ws xs) h k (λ z p. elim p [
      | inl q ↦ inl q
      | inr (inl q) ↦ inr (inl (grow z q))
      | inr (inr q) ↦ inr (inr q)
    ]) (λ z p. p)

-- a value has its key
above_key : (k : ℕ) (m : List (ℕ × ℕ)) (x z : ℕ) → AllAbove k (keys m) → value_of m x ≡ Some z → k < x
above_key k [] x z a e = cc
above_key k (p ∷ m) x z a e = elim (cases_eq p.0 x) [
  | inl d ↦ omega (arith, a.0, d)
  | inr n ↦ above_key k m x z a.1 (sym (ap (λ b. cond b (Some p.1) (value_of m x)) (ne_eqb p.0 x n)) ∙ e)
]

pub keyed : (m : List (ℕ × ℕ)) (z : ℕ) → IsAscending (keys m) → is_among z (values m) ≡ true → (x : ℕ) × (value_of m x ≡ Some z)
keyed [] z a h = absurd (false≢true h)
keyed (p ∷ m) z a h = elim (cases_eq p.1 z) [
  | inl d ↦ (p.0, ap (λ b. cond b (Some p.1) (value_of m p.0)) (eq-eqb p.0 p.0 refl) ∙ ap Some d)
  | inr n ↦
      let r = keyed m z a.1 (sym (ap (λ b. b || is_among z (values m)) (ne_eqb p.1 z n)) ∙ h) in
      let lt : p.0 < r.0 = above_key p.0 m r.0 z a.0 r.1 in
      (r.0, ap (λ b. cond b (Some p.1) (value_of m r.0)) (ne_eqb p.0 r.0 (λ q. omega (arith, q, lt))) ∙ r.1)
]

pub among_map : (f : ℕ → ℕ) (xs : List ℕ) (x : ℕ) → is_among x xs ≡ true → is_among (f x) (map f xs) ≡ true
among_map f [] x h = absurd (false≢true h)
among_map f (y ∷ xs) x h = elim (cases_eq y x) [
  | inl d ↦ ap (λ b. b || is_among (f x) (map f xs)) (eq-eqb (f y) (f x) (ap f d))
  | inr n ↦ or_last (nat_eq (f y) (f x)) (among_map f xs x (sym (ap (λ b. b || is_among x xs) (ne_eqb y x n)) ∙ h))
]
  where
    or_last : {c : Bool} (b : Bool) → c ≡ true → (b || c) ≡ true
    or_last true e = refl
    or_last false e = e

-- the values that names were replaced by stand in the node
pub replaced_taken : (t u : Table) (f g : Form) (wanted : List ℕ) (names : List (ℕ × ℕ)) → IsAscending (keys names) → IsFilled t u f.names wanted [] names → ((x : ℕ) → is_among x wanted ≡ true → is_among x f.names ≡ true) → Takes t u (IsInUse wanted (values names) f.names) → g ≡ with_names f (map (replaced names) f.names) → Takes t u (IsInEither g.names f.names)
replaced_taken t u f g wanted names up d own h put =
    takes_as t u (IsInUse wanted (values names) f.names) (IsInEither g.names f.names) h (λ z p. elim p [
      | inl q ↦ inr (own z q)
      | inr (inl q) ↦
          let k = keyed names z up q in
          let there : is_among (replaced names k.0) (map (replaced names) f.names) ≡ true = among_map (replaced names) f.names k.0 (own k.0 (d.asked k.0 z refl k.1)) in
          inl (ap (λ (e : Form). is_among z e.names) put ∙ (ap (λ w. is_among w (map (replaced names) f.names)) (sym (ap (λ o. unwrap_or o k.0) k.1)) ∙ there))
      | inr (inr q) ↦ inr q
    ])
