-- Ascending lists: their members, and that lists with the same members are the same.
use Rattle.std.proofs.Common.{◌≡◌, ◌↔◌, ◌≢◌, ℕ, ◌<◌, List, [], ◌∷◌, sym, ◌∙◌, ap, refl, subst, inl, inr, arith, ◌⊎◌}
use Rattle.std.specs.Prelude.{nat_eq, cond}
use Rattle.std.proofs.lemmas.Bool.{cases_order, lt-ltb, le-ltb, eq-eqb, ne_eqb}
use Rattle.slotted_lists.proofs.Members.{In}
use Rattle.slotted_model.specs.Ascending.{IsBelowAll, IsAscending, with_name, ascending}

with_name-below : (x y : ℕ) (ys : List ℕ) → x < y → with_name x (y ∷ ys) ≡ x ∷ y ∷ ys
with_name-below x y ys h = ap (λ b. cond b (x ∷ y ∷ ys) (cond (nat_eq x y) (y ∷ ys) (y ∷ with_name x ys))) (lt-ltb x y h)

with_name-same : (x y : ℕ) (ys : List ℕ) → x ≡ y → with_name x (y ∷ ys) ≡ y ∷ ys
with_name-same x y ys e =
    ap (λ b. cond b (x ∷ y ∷ ys) (cond (nat_eq x y) (y ∷ ys) (y ∷ with_name x ys))) (le-ltb x y (omega arith))
    ∙ ap (λ b. cond b (y ∷ ys) (y ∷ with_name x ys)) (eq-eqb x y e)

with_name-above : (x y : ℕ) (ys : List ℕ) → y < x → with_name x (y ∷ ys) ≡ y ∷ with_name x ys
with_name-above x y ys h =
    let n : x ≢ y = omega arith in
    ap (λ b. cond b (x ∷ y ∷ ys) (cond (nat_eq x y) (y ∷ ys) (y ∷ with_name x ys))) (le-ltb x y (omega arith))
    ∙ ap (λ b. cond b (y ∷ ys) (y ∷ with_name x ys)) (ne_eqb x y n)

pub In-with_name : (z x : ℕ) (ys : List ℕ) → (z ≡ x) ⊎ In z ys → In z (with_name x ys)
In-with_name z x [] h = h
In-with_name z x (y ∷ ys) h = elim (cases_order x y) [
  | inl e ↦ subst (λ l. In z l) (sym (with_name-same x y ys e)) (elim h [
    | inl p ↦ inl (p ∙ e)
    | inr k ↦ k
  ])
  | inr o ↦ elim o [
    | inl l ↦ subst (λ l. In z l) (sym (with_name-below x y ys l)) h
    | inr l ↦ subst (λ l. In z l) (sym (with_name-above x y ys l)) (elim h [
      | inl p ↦ inr (In-with_name z x ys (inl p))
      | inr k ↦ elim k [
        | inl p ↦ inl p
        | inr q ↦ inr (In-with_name z x ys (inr q))
      ]
    ])
  ]
]

pub In-of_with_name : (z x : ℕ) (ys : List ℕ) → In z (with_name x ys) → (z ≡ x) ⊎ In z ys
In-of_with_name z x [] h = h
In-of_with_name z x (y ∷ ys) h = elim (cases_order x y) [
  | inl e ↦ inr (subst (λ l. In z l) (with_name-same x y ys e) h)
  | inr o ↦ elim o [
    | inl l ↦ subst (λ l. In z l) (with_name-below x y ys l) h
    | inr l ↦
        let k : In z (y ∷ with_name x ys) = subst (λ l. In z l) (with_name-above x y ys l) h in
        elim k [
          | inl p ↦ inr (inl p)
          | inr q ↦ elim (In-of_with_name z x ys q) [
            | inl p ↦ inl p
            | inr r ↦ inr (inr r)
          ]
        ]
  ]
]

pub In-ascending : (z : ℕ) (xs : List ℕ) → In z xs → In z (ascending xs)
In-ascending z [] h = h
In-ascending z (x ∷ xs) (inl e) = In-with_name z x (ascending xs) (inl e)
In-ascending z (x ∷ xs) (inr h) = In-with_name z x (ascending xs) (inr (In-ascending z xs h))

pub In-of_ascending : (z : ℕ) (xs : List ℕ) → In z (ascending xs) → In z xs
In-of_ascending z [] h = h
In-of_ascending z (x ∷ xs) h = elim (In-of_with_name z x (ascending xs) h) [
  | inl e ↦ inl e
  | inr k ↦ inr (In-of_ascending z xs k)
]

-- below all is below each
pub below_each : (x : ℕ) (ys : List ℕ) → IsBelowAll x ys → (z : ℕ) → In z ys → x < z
below_each x [] h z k = absurd k
below_each x (y ∷ ys) h z (inl e) = omega (arith, h.0)
below_each x (y ∷ ys) h z (inr k) = below_each x ys h.1 z k

pub below_from_each : (x : ℕ) (ys : List ℕ) → ((z : ℕ) → In z ys → x < z) → IsBelowAll x ys
below_from_each x [] h = tt
below_from_each x (y ∷ ys) h = (h y (inl refl), below_from_each x ys (λ z k. h z (inr k)))

IsAscending-with_name : (x : ℕ) (ys : List ℕ) → IsAscending ys → IsAscending (with_name x ys)
IsAscending-with_name x [] a = (tt, tt)
IsAscending-with_name x (y ∷ ys) a = elim (cases_order x y) [
  | inl e ↦ subst IsAscending (sym (with_name-same x y ys e)) a
  | inr o ↦ elim o [
    | inl l ↦ subst IsAscending (sym (with_name-below x y ys l)) ((l, below_from_each x ys (λ z k. let b : y < z = below_each y ys a.0 z k in omega arith)), a)
    | inr l ↦ subst IsAscending (sym (with_name-above x y ys l)) (below_from_each y (with_name x ys) (above l), IsAscending-with_name x ys a.1)
  ]
]
  where
    above : y < x → (z : ℕ) → In z (with_name x ys) → y < z
    above l z k = elim (In-of_with_name z x ys k) [
      | inl e ↦ omega arith
      | inr q ↦ below_each y ys a.0 z q
    ]

pub IsAscending-ascending : (xs : List ℕ) → IsAscending (ascending xs)
IsAscending-ascending [] = tt
IsAscending-ascending (x ∷ xs) = IsAscending-with_name x (ascending xs) (IsAscending-ascending xs)

-- the lists have the same members
abbrev pub SameMembers : List ℕ → List ℕ → Type 0
SameMembers xs ys = (z : ℕ) → In z xs ↔ In z ys

same_head : (x y : ℕ) (xs ys : List ℕ) → IsAscending (x ∷ xs) → IsAscending (y ∷ ys) → SameMembers (x ∷ xs) (y ∷ ys) → x ≡ y
same_head x y xs ys a b s = elim ((s x).0 (inl refl)) [
  | inl e ↦ e
  | inr h ↦ elim ((s y).1 (inl refl)) [
    | inl e ↦ sym e
    | inr k ↦
        let l : y < x = below_each y ys b.0 x h in
        let m : x < y = below_each x xs a.0 y k in
        absurd (omega arith)
  ]
]

later : (x z : ℕ) (xs : List ℕ) → x < z → In z (x ∷ xs) → In z xs
later x z xs l (inl e) = absurd (omega arith)
later x z xs l (inr k) = k

-- ascending lists with the same members are the same
pub same_members : (xs ys : List ℕ) → IsAscending xs → IsAscending ys → SameMembers xs ys → xs ≡ ys
same_members [] [] a b s = refl
same_members [] (y ∷ ys) a b s = absurd ((s y).1 (inl refl))
same_members (x ∷ xs) [] a b s = absurd ((s x).0 (inl refl))
same_members (x ∷ xs) (y ∷ ys) a b s =
    let e : x ≡ y = same_head x y xs ys a b s in
    let t : SameMembers xs ys =
    λ z. (
      λ h. let l : x < z = below_each x xs a.0 z h in later y z ys (omega arith) ((s z).0 (inr h)),
      λ h. let l : y < z = below_each y ys b.0 z h in later x z xs (omega arith) ((s z).1 (inr h)),
    ) in
    λ i. e i ∷ same_members xs ys a.1 b.1 t i

pub ascending-same : (xs ys : List ℕ) → SameMembers xs ys → ascending xs ≡ ascending ys
ascending-same xs ys s =
    same_members (ascending xs) (ascending ys) (IsAscending-ascending xs) (IsAscending-ascending ys)
    (λ z. (λ h. In-ascending z ys ((s z).0 (In-of_ascending z xs h)), λ h. In-ascending z xs ((s z).1 (In-of_ascending z ys h))))
