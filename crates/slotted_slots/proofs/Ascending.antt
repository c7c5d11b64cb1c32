-- Ascending lists of numbers, and the sets that they are.
use Rattle.std.proofs.Common.{◌≡◌, ℕ, ◌<◌, ◌≤◌, Bool, true, false, ◌||◌, eqb, inl, inr, List, [], ◌∷◌, ◌++◌, fold, refl, sym, ap, subst, arith, ◌∙◌}
use Rattle.std.specs.declared.cmp.Ordering.TheVariants.{Less, Equal, Greater}
use Rattle.std.specs.List.{AllByRecursion}
use Rattle.std.specs.List.Sorted.{IsStrictlySortedBy}
use Rattle.std.specs.Ordering.{nat_cmp, is_eq, match_ordering}
use Rattle.std.proofs.lemmas.Bool.{lt-ltb, le-ltb, eq-eqb, ne_eqb, cases_order}
use Rattle.std.proofs.lemmas.Cmp.{ranked}
use Rattle.std.proofs.lemmas.List.{append-nil, append_assoc}
use Rattle.slotted_slots.specs.Ascending.{AllAbove, IsAscending}
use Rattle.slotted_slots.specs.Maps.{is_among}
use Rattle.slotted_slots.specs.Sets.{has, insert_key, set_of}

-- a bound that is lower holds too
pub AllAbove-down : (a b : ℕ) (xs : List ℕ) → a ≤ b → AllAbove b xs → AllAbove a xs
AllAbove-down a b [] le above = tt
AllAbove-down a b (x ∷ xs) le above = (omega arith, AllAbove-down a b xs le above.1)

-- std's word for what rises, at numbers
AllAbove-from_less : (k : ℕ) (xs : List ℕ) → AllByRecursion (λ y. nat_cmp k y ≡ Less) xs → AllAbove k xs
AllAbove-from_less k [] all = tt
AllAbove-from_less k (x ∷ xs) all = (ranked k x Less (sym all.0), AllAbove-from_less k xs all.1)

nat_cmp-less : (a b : ℕ) → a < b → nat_cmp a b ≡ Less
nat_cmp-less a b lt = rw (lt-ltb a b lt) refl

nat_cmp-greater : (a b : ℕ) → b < a → nat_cmp a b ≡ Greater
nat_cmp-greater a b lt = rw (le-ltb a b (omega arith), ne_eqb a b (λ e. omega arith)) refl

less_from-AllAbove : (k : ℕ) (xs : List ℕ) → AllAbove k xs → AllByRecursion (λ y. nat_cmp k y ≡ Less) xs
less_from-AllAbove k [] above = tt
less_from-AllAbove k (x ∷ xs) above = (nat_cmp-less k x above.0, less_from-AllAbove k xs above.1)

-- a set of numbers is an ascending list, and the other way round
pub IsAscending-from_sorted : (xs : List ℕ) → IsStrictlySortedBy nat_cmp xs → IsAscending xs
unfolding IsStrictlySortedBy
IsAscending-from_sorted [] up = tt
IsAscending-from_sorted (x ∷ xs) up = (AllAbove-from_less x xs up.0, IsAscending-from_sorted xs up.1)

pub sorted_from-IsAscending : (xs : List ℕ) → IsAscending xs → IsStrictlySortedBy nat_cmp xs
unfolding IsStrictlySortedBy
sorted_from-IsAscending [] up = tt
sorted_from-IsAscending (x ∷ xs) up = (less_from-AllAbove x xs up.0, sorted_from-IsAscending xs up.1)

-- what stands behind in a list above k is above k
AllAbove-behind : (k : ℕ) (front : List ℕ) (x : ℕ) (xs : List ℕ) → AllAbove k (front ++ x ∷ xs) → k < x
AllAbove-behind k [] x xs above = above.0
AllAbove-behind k (a ∷ front) x xs above = AllAbove-behind k front x xs above.1

-- what is above all goes last
insert_key-last : (front : List ℕ) (x : ℕ) (xs : List ℕ) → IsAscending (front ++ x ∷ xs) → insert_key nat_cmp front x ≡ front ++ x ∷ []
insert_key-last [] x xs up = refl
insert_key-last (a ∷ front) x xs up =
    rw (nat_cmp-greater x a (AllAbove-behind a front x xs up.0)) (ap (λ ys. a ∷ ys) (insert_key-last front x xs up.1))

fold-ascending : (front xs : List ℕ) → IsAscending (front ++ xs) → fold (insert_key nat_cmp) front xs ≡ front ++ xs
fold-ascending front [] up = sym (append-nil front)
fold-ascending front (x ∷ xs) up =
    let whole : front ++ x ∷ [] ++ xs ≡ front ++ x ∷ xs = append_assoc front (x ∷ []) xs in
    ap (λ f. fold (insert_key nat_cmp) f xs) (insert_key-last front x xs up)
    ∙ (fold-ascending (front ++ x ∷ []) xs (subst IsAscending (sym whole) up) ∙ whole)

-- an ascending list is the set of its elements
pub set_of-ascending : (xs : List ℕ) → IsAscending xs → set_of nat_cmp xs ≡ xs
set_of-ascending xs up = fold-ascending [] xs up

-- the two words for membership agree at numbers
is_eq-nat_cmp : (v x : ℕ) → is_eq (nat_cmp v x) ≡ eqb x v
is_eq-nat_cmp v x = elim (cases_order v x) [
  | inl same ↦ rw (le-ltb v x (omega arith), eq-eqb v x same, eq-eqb x v (sym same)) refl
  | inr (inl below) ↦ rw (nat_cmp-less v x below, ne_eqb x v (λ e. omega arith)) refl
  | inr (inr above) ↦ rw (nat_cmp-greater v x above, ne_eqb x v (λ e. omega arith)) refl
]

pub has-is_among : (xs : List ℕ) (v : ℕ) → has nat_cmp xs v ≡ is_among v xs
has-is_among [] v = refl
has-is_among (x ∷ xs) v = λ i. is_eq-nat_cmp v x i || has-is_among xs v i

-- a number that is put in is among the set, as is all that was
or_swap : (a b c : Bool) → (a || (b || c)) ≡ (b || (a || c))
or_swap true true c = refl
or_swap true false c = refl
or_swap false true c = refl
or_swap false false c = refl

or_absorbs : (a b : Bool) → (a || b) ≡ (a || (a || b))
or_absorbs true b = refl
or_absorbs false b = refl

pub is_among-insert_key : (v t : ℕ) (xs : List ℕ) → is_among v (insert_key nat_cmp xs t) ≡ (eqb t v || is_among v xs)
is_among-insert_key v t [] = refl
is_among-insert_key v t (x ∷ xs) = elim (cases_order t x) [
  | inl same ↦ rw (le-ltb t x (omega arith), eq-eqb t x same) (subst (λ a. (eqb x v || is_among v xs) ≡ (eqb a v || (eqb x v || is_among v xs))) (sym same) (or_absorbs (eqb x v) (is_among v xs)))
  | inr (inl below) ↦ rw (nat_cmp-less t x below) refl
  | inr (inr above) ↦ rw (nat_cmp-greater t x above) (ap (λ b. eqb x v || b) (is_among-insert_key v t xs) ∙ or_swap (eqb x v) (eqb t v) (is_among v xs))
]

is_among-fold : (v : ℕ) (front xs : List ℕ) → is_among v (fold (insert_key nat_cmp) front xs) ≡ (is_among v front || is_among v xs)
is_among-fold v front [] = or_nothing (is_among v front)
  where
    or_nothing : (b : Bool) → b ≡ (b || false)
    or_nothing true = refl
    or_nothing false = refl
is_among-fold v front (x ∷ xs) =
    is_among-fold v (insert_key nat_cmp front x) xs
    ∙ (ap (λ b. b || is_among v xs) (is_among-insert_key v x front) ∙ regroup (eqb x v) (is_among v front) (is_among v xs))
  where
    regroup : (a b c : Bool) → ((a || b) || c) ≡ (b || (a || c))
    regroup true true c = refl
    regroup true false c = refl
    regroup false true c = refl
    regroup false false c = refl

-- the set of a list has its elements
pub is_among-set_of : (v : ℕ) (xs : List ℕ) → is_among v (set_of nat_cmp xs) ≡ is_among v xs
is_among-set_of v xs = is_among-fold v [] xs

-- and rises
AllAbove-insert_key : (k t : ℕ) (xs : List ℕ) → k < t → AllAbove k xs → AllAbove k (insert_key nat_cmp xs t)
AllAbove-insert_key k t [] lt above = (lt, tt)
AllAbove-insert_key k t (x ∷ xs) lt above = elim (nat_cmp t x) as (λ r. AllAbove k (match_ordering r (t ∷ x ∷ xs) (x ∷ xs) (x ∷ insert_key nat_cmp xs t))) [
  | Less ↦ (lt, above)
  | Equal ↦ above
  | Greater ↦ (above.0, AllAbove-insert_key k t xs lt above.1)
]

pub IsAscending-insert_key : (t : ℕ) (xs : List ℕ) → IsAscending xs → IsAscending (insert_key nat_cmp xs t)
IsAscending-insert_key t [] up = (tt, tt)
IsAscending-insert_key t (x ∷ xs) up = elim (cases_order t x) [
  | inl same ↦ rw (le-ltb t x (omega arith), eq-eqb t x same) up
  | inr (inl below) ↦ rw (nat_cmp-less t x below) ((below, AllAbove-down t x xs (omega arith) up.0), up)
  | inr (inr above) ↦ rw (nat_cmp-greater t x above) (AllAbove-insert_key x t xs above up.0, IsAscending-insert_key t xs up.1)
]

IsAscending-fold : (front xs : List ℕ) → IsAscending front → IsAscending (fold (insert_key nat_cmp) front xs)
IsAscending-fold front [] up = up
IsAscending-fold front (x ∷ xs) up = IsAscending-fold (insert_key nat_cmp front x) xs (IsAscending-insert_key x front up)

pub IsAscending-set_of : (xs : List ℕ) → IsAscending (set_of nat_cmp xs)
IsAscending-set_of xs = IsAscending-fold [] xs tt
