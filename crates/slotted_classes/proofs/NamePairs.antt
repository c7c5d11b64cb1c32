-- The map that place by place inserts make: the names of one node beside those of another.
use Rattle.std.proofs.Common.{◌≡◌, ◌↔◌, ◌⊎◌, ℕ, List, [], ◌∷◌, ◌++◌, map, cond, sym, ◌∙◌, ap, refl, subst, inl, inr}
use Rattle.std.specs.Prelude.{Bool, true, false, nat_eq}
use Rattle.std.specs.List.{zip}
use Rattle.std.proofs.lemmas.Bool.{cases_eq, cases_lt, eq-eqb, ne_eqb, lt-ltb, le-ltb}
use Rattle.slotted_lists.proofs.Members.{In}
use Rattle.slotted_lists.proofs.Maps.{is_among-In, values-with_values}
use Rattle.slotted_theory.specs.FiniteMaps.{with_values}
use Rattle.slotted_slots.specs.Maps.{with_pair, values, is_among}
use Rattle.slotted_nodes.specs.Form.{Form}
use Rattle.slotted_languages.specs.NodeTerm.{nameless_node, free_names_of}
use Rattle.slotted_languages.specs.Shape.{shape, added, firsts}
use Rattle.slotted_languages.proofs.Shapes.{values-shape}
use Rattle.slotted_model.specs.Ascending.{with_name, ascending, names}
use Rattle.slotted_model.specs.Applied.{map_on}
use Rattle.slotted_model.proofs.Data.Sets.{ascending-same}
use Rattle.slotted_classes.specs.Names.{with_pairs, between}

-- a pair put into the map of a function on some keys
with_pair-map_on : (f : ℕ → ℕ) (x : ℕ) (ks : List ℕ) → with_pair (map_on f ks) x (f x) ≡ map_on f (with_name x ks)
with_pair-map_on f x [] = refl
with_pair-map_on f x (k ∷ ks) =
    let m : List (ℕ × ℕ) = map_on f ks in
    let here : List (ℕ × ℕ) = (x, f x) ∷ (k, f k) ∷ m in
    let same : List (ℕ × ℕ) = (x, f x) ∷ m in
    let later : List (ℕ × ℕ) = (k, f k) ∷ with_pair m x (f x) in
    elim (cases_lt x k) [
      | inl l ↦
          ap (λ b. cond b here (cond (nat_eq k x) same later)) (lt-ltb x k l)
          ∙ sym (ap (λ b. map_on f (cond b (x ∷ k ∷ ks) (cond (nat_eq x k) (k ∷ ks) (k ∷ with_name x ks)))) (lt-ltb x k l))
      | inr g ↦
          ap (λ b. cond b here (cond (nat_eq k x) same later)) (le-ltb x k g)
          ∙ (elim (cases_eq x k) [
            | inl e ↦
                ap (λ b. cond b same later) (eq-eqb k x (sym e))
                ∙ (ap (λ z. (z, f z) ∷ m) e ∙ sym (ap (λ b. map_on f (cond b (k ∷ ks) (k ∷ with_name x ks))) (eq-eqb x k e)))
            | inr n ↦
                ap (λ b. cond b same later) (ne_eqb k x (λ e. n (sym e)))
                ∙ (ap (λ r. (k, f k) ∷ r) (with_pair-map_on f x ks) ∙ sym (ap (λ b. map_on f (cond b (k ∷ ks) (k ∷ with_name x ks))) (ne_eqb x k n)))
          ] ∙ sym (ap (λ b. map_on f (cond b (x ∷ k ∷ ks) (cond (nat_eq x k) (k ∷ ks) (k ∷ with_name x ks)))) (le-ltb x k g)))
    ]

-- the elements of the second list before the first, the last in front
abbrev onto : List ℕ → List ℕ → List ℕ
onto zs [] = zs
onto zs (x ∷ xs) = onto (x ∷ zs) xs

with_pairs-map_on : (f : ℕ → ℕ) (xs zs : List ℕ) → with_pairs (map_on f (ascending zs)) (zip xs (map f xs)) ≡ map_on f (ascending (onto zs xs))
with_pairs-map_on f [] zs = refl
with_pairs-map_on f (x ∷ xs) zs =
    ap (λ m. with_pairs m (zip xs (map f xs))) (with_pair-map_on f x (ascending zs)) ∙ with_pairs-map_on f xs (x ∷ zs)

In-onto : (z : ℕ) (xs zs : List ℕ) → In z (onto zs xs) ↔ (In z zs ⊎ In z xs)
In-onto z [] zs = (inl, λ h. elim h [ inl k ↦ k | inr k ↦ absurd k ])
In-onto z (x ∷ xs) zs =
    let i = In-onto z xs (x ∷ zs) in (
      λ h. elim (i.0 h) [ inl k ↦ elim k [ inl e ↦ inr (inl e) | inr m ↦ inl m ] | inr k ↦ inr (inr k) ],
      λ h. i.1 (elim h [ inl k ↦ inl (inr k) | inr k ↦ elim k [ inl e ↦ inl (inl e) | inr m ↦ inr m ] ]),
    )

-- from each of some names to its value
pub with_pairs-all : (f : ℕ → ℕ) (xs : List ℕ) → with_pairs [] (zip xs (map f xs)) ≡ map_on f (ascending xs)
with_pairs-all f xs =
    with_pairs-map_on f xs []
    ∙ ap (map_on f) (ascending-same (onto [] xs) xs (λ z. (λ h. elim ((In-onto z xs []).0 h) [ inl k ↦ absurd k | inr k ↦ k ], λ h. (In-onto z xs []).1 (inr h))))

-- each name once is the same names

In-push : (z x : ℕ) (vs : List ℕ) → In z (vs ++ x ∷ []) ↔ (In z vs ⊎ (z ≡ x))
In-push z x [] = (λ h. elim h [ inl e ↦ inr e | inr k ↦ absurd k ], λ h. elim h [ inl k ↦ absurd k | inr e ↦ inl e ])
In-push z x (v ∷ vs) =
    let i = In-push z x vs in (
      λ h. elim h [ inl e ↦ inl (inl e) | inr k ↦ elim (i.0 k) [ inl m ↦ inl (inr m) | inr e ↦ inr e ] ],
      λ h. elim h [ inl k ↦ elim k [ inl e ↦ inl e | inr m ↦ inr (i.1 (inl m)) ] | inr e ↦ inr (i.1 (inr e)) ],
    )

In-one : (z x : ℕ) (vs : List ℕ) (b : Bool) → is_among x vs ≡ b → In z (cond b vs (vs ++ x ∷ [])) ↔ (In z vs ⊎ (z ≡ x))
In-one z x vs true e = (inl, λ h. elim h [ inl k ↦ k | inr q ↦ subst (λ y. In y vs) (sym q) (is_among-In vs x e) ])
In-one z x vs false e = In-push z x vs

In-added : (z : ℕ) (xs vs : List ℕ) → In z (added vs xs) ↔ (In z vs ⊎ In z xs)
In-added z [] vs = (inl, λ h. elim h [ inl k ↦ k | inr k ↦ absurd k ])
In-added z (x ∷ xs) vs =
    let i = In-added z xs (cond (is_among x vs) vs (vs ++ x ∷ [])) in
    let j = In-one z x vs (is_among x vs) refl in (
      λ h. elim (i.0 h) [ inl k ↦ elim (j.0 k) [ inl m ↦ inl m | inr e ↦ inr (inl e) ] | inr k ↦ inr (inr k) ],
      λ h. i.1 (elim h [ inl k ↦ inl (j.1 (inl k)) | inr k ↦ elim k [ inl e ↦ inl (j.1 (inr e)) | inr m ↦ inr m ] ]),
    )

pub In-firsts : (z : ℕ) (xs : List ℕ) → In z (firsts xs) ↔ In z xs
In-firsts z xs = (λ h. elim ((In-added z xs []).0 h) [ inl k ↦ absurd k | inr k ↦ k ], λ h. (In-added z xs []).1 (inr h))

-- the names of a node, read off the map of its shape
pub ascending-values : (c : Form) → ascending (values (shape c).1) ≡ names (nameless_node c)
ascending-values c = ap ascending (values-shape c) ∙ ascending-same (firsts (free_names_of c)) (free_names_of c) (λ z. In-firsts z (free_names_of c))

-- where f takes the names of one map to those of another, the map between them is f
pub between-moved : (f : ℕ → ℕ) (c : Form) (n : List (ℕ × ℕ)) → n ≡ with_values f (shape c).1 → between (shape c).1 n ≡ map_on f (names (nameless_node c))
between-moved f c n e =
    ap (λ vs. with_pairs [] (zip (values (shape c).1) vs)) (ap values e ∙ values-with_values f (shape c).1)
    ∙ (with_pairs-all f (values (shape c).1) ∙ ap (map_on f) (ascending-values c))

map-itself : (xs : List ℕ) → map (λ x. x) xs ≡ xs
map-itself [] = refl
map-itself (x ∷ xs) = ap (λ r. x ∷ r) (map-itself xs)

-- between a map and itself each value goes to itself
pub between-itself : (m : List (ℕ × ℕ)) → between m m ≡ map_on (λ x. x) (ascending (values m))
between-itself m = ap (λ vs. with_pairs [] (zip (values m) vs)) (sym (map-itself (values m))) ∙ with_pairs-all (λ x. x) (values m)
