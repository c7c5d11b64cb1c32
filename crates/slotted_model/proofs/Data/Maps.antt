-- Finite maps as functions: what they are at their keys.
use Rattle.std.proofs.Common.{◌≡◌, ◌≢◌, ℕ, ◌+◌, ◌<◌, ◌≤◌, List, [], ◌∷◌, sym, ◌∙◌, ap, refl, subst, inl, inr, arith}
use Rattle.std.specs.Prelude.{map}
use Rattle.std.proofs.lemmas.Bool.{cases_eq}
use Rattle.slotted_lists.proofs.Members.{In, In-map, In-of_map}
use Rattle.slotted_theory.specs.Renaming.{IsInjective}
use Rattle.slotted_theory.specs.FiniteMaps.{HasValue, IsInjectiveMap, top, filled, with_values}
use Rattle.slotted_model.specs.Ascending.{IsAscending}
use Rattle.slotted_model.specs.Applied.{keys, values, map_on}
use Rattle.slotted_model.proofs.Data.Sets.{below_each}
use Rattle.slotted_theory.proofs.Filled as theory
use Rattle.slotted_model.proofs.Data.Theory.{from-past, past, past-nil, past-key, past-other, filled-past}

pub In-values : (m : List (ℕ × ℕ)) (v : ℕ) → HasValue m v → In v (values m)
In-values [] v h = h
In-values (p ∷ m) v (inl e) = inl e
In-values (p ∷ m) v (inr h) = inr (In-values m v h)

pub keys-map_on : (f : ℕ → ℕ) (ks : List ℕ) → keys (map_on f ks) ≡ ks
keys-map_on f [] = refl
keys-map_on f (k ∷ ks) = ap (λ l. k ∷ l) (keys-map_on f ks)

pub values-map_on : (f : ℕ → ℕ) (ks : List ℕ) → values (map_on f ks) ≡ map f ks
values-map_on f [] = refl
values-map_on f (k ∷ ks) = ap (λ l. f k ∷ l) (values-map_on f ks)

pub map_on-agrees : (f g : ℕ → ℕ) (ks : List ℕ) → ((k : ℕ) → In k ks → f k ≡ g k) → map_on f ks ≡ map_on g ks
map_on-agrees f g [] e = refl
map_on-agrees f g (k ∷ ks) e = λ i. (k, e k (inl refl) i) ∷ map_on-agrees f g ks (λ j h. e j (inr h)) i

-- a map with f put on its values, at a key
past-with_values : (t u : ℕ) (f : ℕ → ℕ) (m : List (ℕ × ℕ)) (x : ℕ) → In x (keys m) → past t (with_values f m) x ≡ f (past u m x)
past-with_values t u f [] x h = absurd h
past-with_values t u f (p ∷ m) x h = elim (cases_eq x p.0) [
  | inl e ↦ past-key t (p.0, f p.1) (with_values f m) x e ∙ ap f (sym (past-key u p m x e))
  | inr n ↦ past-other t (p.0, f p.1) (with_values f m) x n ∙ (past-with_values t u f m x (later h n) ∙ ap f (sym (past-other u p m x n)))
]
  where
    later : In x (keys (p ∷ m)) → x ≢ p.0 → In x (keys m)
    later (inl e) n = absurd (n e)
    later (inr k) n = k

pub filled-with_values : (f : ℕ → ℕ) (m : List (ℕ × ℕ)) (x : ℕ) → In x (keys m) → filled (with_values f m) x ≡ f (filled m x)
filled-with_values f m x h =
    filled-past (with_values f m) x ∙ (past-with_values (top (with_values f m)) (top m) f m x h ∙ ap f (sym (filled-past m x)))

-- the map of a function on keys, at a key
past-map_on : (t : ℕ) (f : ℕ → ℕ) (ks : List ℕ) (x : ℕ) → In x ks → past t (map_on f ks) x ≡ f x
past-map_on t f [] x h = absurd h
past-map_on t f (k ∷ ks) x h = elim (cases_eq x k) [
  | inl e ↦ past-key t (k, f k) (map_on f ks) x e ∙ ap f (sym e)
  | inr n ↦ past-other t (k, f k) (map_on f ks) x n ∙ past-map_on t f ks x (later h n)
]
  where
    later : In x (k ∷ ks) → x ≢ k → In x ks
    later (inl e) n = absurd (n e)
    later (inr j) n = j

pub filled-map_on : (f : ℕ → ℕ) (ks : List ℕ) (x : ℕ) → In x ks → filled (map_on f ks) x ≡ f x
filled-map_on f ks x h = filled-past (map_on f ks) x ∙ past-map_on (top (map_on f ks)) f ks x h

-- a map is its function on its keys
map_on-past : (t : ℕ) (m : List (ℕ × ℕ)) → IsAscending (keys m) → map_on (past t m) (keys m) ≡ m
map_on-past t [] a = refl
map_on-past t (p ∷ m) a =
    let here : past t (p ∷ m) p.0 ≡ p.1 = past-key t p m p.0 refl in
    let rest : map_on (past t (p ∷ m)) (keys m) ≡ map_on (past t m) (keys m) =
    map_on-agrees (past t (p ∷ m)) (past t m) (keys m) (λ k h. let l : p.0 < k = below_each p.0 (keys m) a.0 k h in let n : k ≢ p.0 = omega arith in past-other t p m k n) in
    λ i. (p.0, here i) ∷ (rest ∙ map_on-past t m a.1) i

pub map_on-filled : (m : List (ℕ × ℕ)) → IsAscending (keys m) → map_on (filled m) (keys m) ≡ m
map_on-filled m a = map_on-agrees (filled m) (past (top m) m) (keys m) (λ k h. filled-past m k) ∙ map_on-past (top m) m a

-- an injective function on ascending keys is an injective map
pub IsInjectiveMap-map_on : (f : ℕ → ℕ) (ks : List ℕ) → ((x y : ℕ) → In x ks → In y ks → f x ≡ f y → x ≡ y) → IsAscending ks → IsInjectiveMap (map_on f ks)
IsInjectiveMap-map_on f [] inj a = tt
IsInjectiveMap-map_on f (k ∷ ks) inj a = (other ks (below_each k ks a.0) (λ x h. inj x k (inr h) (inl refl)), IsInjectiveMap-map_on f ks (λ x y h j. inj x y (inr h) (inr j)) a.1)
  where
    other : (js : List ℕ) → ((x : ℕ) → In x js → k < x) → ((x : ℕ) → In x js → f x ≡ f k → x ≡ k) → HasValue (map_on f js) (f k) → ⊥
    other [] b i h = h
    other (j ∷ js) b i (inl e) =
        let l : k < j = b j (inl refl) in
        let q : j ≡ k = i j (inl refl) (sym e) in
        omega arith
    other (j ∷ js) b i (inr h) = other js (λ x g. b x (inr g)) (λ x g. i x (inr g)) h

-- an injective map with a function put on its values that tells them apart
pub IsInjectiveMap-with_values : (f : ℕ → ℕ) (m : List (ℕ × ℕ)) → ((x y : ℕ) → In x (values m) → In y (values m) → f x ≡ f y → x ≡ y) → IsInjectiveMap m → IsInjectiveMap (with_values f m)
IsInjectiveMap-with_values f [] inj i = tt
IsInjectiveMap-with_values f (p ∷ m) inj i = (other m (λ x h. inj p.1 x (inl refl) (inr h)) i.0, IsInjectiveMap-with_values f m (λ x y h j. inj x y (inr h) (inr j)) i.1)
  where
    other : (n : List (ℕ × ℕ)) → ((x : ℕ) → In x (values n) → f p.1 ≡ f x → p.1 ≡ x) → (HasValue n p.1 → ⊥) → HasValue (with_values f n) (f p.1) → ⊥
    other [] k apart h = h
    other (q ∷ n) k apart (inl e) = apart (inl (k q.1 (inl refl) e))
    other (q ∷ n) k apart (inr h) = other n (λ x g. k x (inr g)) (λ g. apart (inr g)) h

pub past-missing : (t : ℕ) (m : List (ℕ × ℕ)) (x : ℕ) → (In x (keys m) → ⊥) → past t m x ≡ t + x
past-missing t [] x n = past-nil t x
past-missing t (p ∷ m) x n = past-other t p m x (λ e. n (inl e)) ∙ past-missing t m x (λ h. n (inr h))

-- the value of a pair of the map
pub past-pair : (t : ℕ) (m : List (ℕ × ℕ)) (k v : ℕ) → IsAscending (keys m) → In (k, v) m → past t m k ≡ v
past-pair t [] k v a h = absurd h
past-pair t (p ∷ m) k v a (inl e) = past-key t p m k (ap (λ q. q.0) e) ∙ sym (ap (λ q. q.1) e)
past-pair t (p ∷ m) k v a (inr h) =
    let l : p.0 < k = below_each p.0 (keys m) a.0 k (In-map (λ q. q.0) m (k, v) h) in
    let n : k ≢ p.0 = omega arith in
    past-other t p m k n ∙ past-pair t m k v a.1 h

pub filled-pair : (m : List (ℕ × ℕ)) (k v : ℕ) → IsAscending (keys m) → In (k, v) m → filled m k ≡ v
filled-pair m k v a h = filled-past m k ∙ past-pair (top m) m k v a h

-- each key stands in a pair with its value
pub pair-filled : (m : List (ℕ × ℕ)) (k : ℕ) → IsAscending (keys m) → In k (keys m) → In (k, filled m k) m
pair-filled m k a h =
    let r : (p : ℕ × ℕ) × In p m × (k ≡ p.0) = In-of_map (λ q. q.0) m k h in
    let e : filled m r.0.0 ≡ r.0.1 = filled-pair m r.0.0 r.0.1 a r.1 in
    subst (λ q. In q m) (λ i. (sym r.2 i, (sym e ∙ ap (filled m) (sym r.2)) i)) r.1

-- an injective map that goes past its values for what it lacks is injective
pub past-injective : (t : ℕ) (m : List (ℕ × ℕ)) → top m ≤ t → IsInjectiveMap m → IsInjective (past t m)
past-injective t m h i x y e = theory.past-injective t m h i x y (from-past t m x ∙ (e ∙ sym (from-past t m y)))
