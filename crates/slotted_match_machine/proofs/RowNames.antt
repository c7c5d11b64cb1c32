-- Names of numbers: the machine's numbers as names of the graph, and those that a row's numbers have when it is entered.
use Rattle.std.proofs.Common.{◌≡◌, ℕ, zero, suc, ◌+◌, ◌<◌, ◌≤◌, List, [], ◌∷◌, length, map, get_or, sym, ◌∙◌, ap, refl, subst, inl, inr, arith}
use Rattle.std.specs.Prelude.{◌⊎◌, Contains, slice_index}
use Rattle.std.specs.List.{range_with_len}
use Rattle.std.proofs.lemmas.List.{get_or_past}
use Rattle.std.proofs.lemmas.Grind.{get_or_default_zero}
use Rattle.std.proofs.lemmas.List.Elements.{Contains-get_or}
use Rattle.slotted_lists.proofs.Contained.{above, Contains-below}
use Rattle.slotted_theory.specs.Renaming.{IsInjective}
use Rattle.slotted_model.specs.Correspondence.{AllDifferent}
use Rattle.slotted_match_machine.specs.Machine.{names_for, new_names}
use Rattle.slotted_match_machine.specs.Readings.{name_at}

-- different members stand at different places
pub different-places : (xs : List ℕ) → AllDifferent xs → (i j d : ℕ) → i < length xs → j < length xs → get_or xs i d ≡ get_or xs j d → i ≡ j
different-places [] n i j d h k e = absurd (omega arith)
different-places (x ∷ xs) n zero zero d h k e = refl
different-places (x ∷ xs) n zero (suc j) d h k e = absurd (n.0 (subst (Contains xs) (sym e) (Contains-get_or xs j d (omega arith))))
different-places (x ∷ xs) n (suc i) zero d h k e = absurd (n.0 (subst (Contains xs) e (Contains-get_or xs i d (omega arith))))
different-places (x ∷ xs) n (suc i) (suc j) d h k e = ap suc (different-places xs n.1 i j d (omega arith) (omega arith) e)

-- a number below the length has a slot for its name, and any other one a name above all slots
pub name-inside : (slots : List ℕ) (n : ℕ) → n < length slots → name_at slots n ≡ slice_index slots n
name-inside slots n h = get_or_default_zero slots n (above slots + n) h

pub name-outside : (slots : List ℕ) (n : ℕ) → length slots ≤ n → name_at slots n ≡ above slots + n
name-outside slots n h = get_or_past slots n (above slots + n) h

pub inside-or-outside : (slots : List ℕ) (n : ℕ) → ((n < length slots) × (name_at slots n ≡ slice_index slots n) × (name_at slots n < above slots)) ⊎ (name_at slots n ≡ above slots + n)
inside-or-outside slots n = go (cases n (length slots))
  where
    cases : (m k : ℕ) → (m < k) ⊎ (k ≤ m)
    cases m zero = inr (omega arith)
    cases zero (suc k) = inl (omega arith)
    cases (suc m) (suc k) = elim (cases m k) [
      | inl h ↦ inl (omega arith)
      | inr h ↦ inr (omega arith)
    ]

    go : (n < length slots) ⊎ (length slots ≤ n) → ((n < length slots) × (name_at slots n ≡ slice_index slots n) × (name_at slots n < above slots)) ⊎ (name_at slots n ≡ above slots + n)
    go (inl h) =
        let e : name_at slots n ≡ slice_index slots n = name-inside slots n h in
        let l : slice_index slots n < above slots = Contains-below slots (slice_index slots n) (Contains-get_or slots n 0 h) in
        inl (h, e, subst (λ x. x < above slots) (sym e) l)
    go (inr h) = inr (name-outside slots n h)

-- so different numbers have different names
pub name_at-injective : (slots : List ℕ) → AllDifferent slots → IsInjective (name_at slots)
name_at-injective slots d x y e = elim (inside-or-outside slots x) [
  | inl p ↦ elim (inside-or-outside slots y) [
    | inl q ↦ different-places slots d x y 0 p.0 q.0 (sym p.1 ∙ (e ∙ q.1))
    | inr q ↦ let l : name_at slots x < above slots = p.2 in absurd (omega arith)
  ]
  | inr p ↦ elim (inside-or-outside slots y) [
    | inl q ↦ let l : name_at slots y < above slots = q.2 in absurd (omega arith)
    | inr q ↦ omega arith
  ]
]

-- the first numbers are the slots
pub named-from : (all slots : List ℕ) (k : ℕ) → ((i : ℕ) → i < length slots → name_at all (k + i) ≡ slice_index slots i) → map (name_at all) (range_with_len k (length slots)) ≡ slots
named-from all [] k h = refl
named-from all (s ∷ slots) k h =
    let here : name_at all k ≡ s = ap (name_at all) (omega arith) ∙ h 0 (omega arith) in
    let next : (i : ℕ) → i < length slots → name_at all (k + 1 + i) ≡ slice_index slots i = λ i l. ap (name_at all) (omega arith) ∙ h (suc i) (omega arith) in
    λ j. here j ∷ named-from all slots (k + 1) next j

pub named-slots : (slots : List ℕ) → map (name_at slots) (range_with_len 0 (length slots)) ≡ slots
named-slots slots = named-from slots slots 0 (λ i h. ap (name_at slots) (omega arith) ∙ name-inside slots i h)

-- the names of a row's numbers: that of the class's slot for which one stands
pub name-found : (names slots : List ℕ) (n z p : ℕ) → z < length slots → slice_index slots z ≡ suc p → slice_index (names_for names slots n) z ≡ slice_index names p
name-found names [] n z p h e = absurd (omega arith)
name-found names (zero ∷ slots) n zero p h e = absurd (omega arith)
name-found names (suc q ∷ slots) n zero p h e = ap (slice_index names) (omega arith)
name-found names (zero ∷ slots) n (suc z) p h e = name-found names slots (suc n) z p (omega arith) e
name-found names (suc q ∷ slots) n (suc z) p h e = name-found names slots n z p (omega arith) e

-- or else a new one
pub name-new : (names slots : List ℕ) (n z : ℕ) → z < length slots → slice_index slots z ≡ 0 → (n ≤ slice_index (names_for names slots n) z) × (slice_index (names_for names slots n) z < n + new_names slots)
name-new names [] n z h e = absurd (omega arith)
name-new names (zero ∷ slots) n zero h e = (omega arith, omega arith)
name-new names (suc q ∷ slots) n zero h e = absurd (omega arith)
name-new names (zero ∷ slots) n (suc z) h e =
    let r = name-new names slots (suc n) z (omega arith) e in
    let l : suc n ≤ slice_index (names_for names slots (suc n)) z = r.0 in
    let u : slice_index (names_for names slots (suc n)) z < suc n + new_names slots = r.1 in
    (omega arith, omega arith)
name-new names (suc q ∷ slots) n (suc z) h e = name-new names slots n z (omega arith) e

-- and no two numbers have one new name
pub new-differ : (names slots : List ℕ) (n z y : ℕ) → z < length slots → slice_index slots z ≡ 0 → y < length slots → slice_index slots y ≡ 0 →
    slice_index (names_for names slots n) z ≡ slice_index (names_for names slots n) y → z ≡ y
new-differ names [] n z y h e k f same = absurd (omega arith)
new-differ names (zero ∷ slots) n zero zero h e k f same = refl
new-differ names (zero ∷ slots) n zero (suc y) h e k f same =
    let l : suc n ≤ slice_index (names_for names slots (suc n)) y = (name-new names slots (suc n) y (omega arith) f).0 in absurd (omega arith)
new-differ names (zero ∷ slots) n (suc z) zero h e k f same =
    let l : suc n ≤ slice_index (names_for names slots (suc n)) z = (name-new names slots (suc n) z (omega arith) e).0 in absurd (omega arith)
new-differ names (zero ∷ slots) n (suc z) (suc y) h e k f same = ap suc (new-differ names slots (suc n) z y (omega arith) e (omega arith) f same)
new-differ names (suc q ∷ slots) n zero y h e k f same = absurd (omega arith)
new-differ names (suc q ∷ slots) n (suc z) zero h e k f same = absurd (omega arith)
new-differ names (suc q ∷ slots) n (suc z) (suc y) h e k f same = ap suc (new-differ names slots n z y (omega arith) e (omega arith) f same)
