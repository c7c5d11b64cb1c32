-- Finite maps: their keys and values, mapped, and beside each other.
use Rattle.std.proofs.Common.{◌≡◌, ◌≢◌, ◌∙◌, ℕ, suc, List, [], ◌∷◌, ◌++◌, length, map, refl, ap, sym, subst, arith, inl, inr}
use Rattle.std.specs.Prelude.{Bool, true, false, cond, Contains, Option, Some, None, is_some, option_map, nat_eq, ◌||◌}
use Rattle.std.specs.List.{cons_option, zip}
use Rattle.std.proofs.lemmas.Bool.{cases_eq, eq-eqb, ne_eqb, true≢false}
use Rattle.slotted_lists.specs.Maps.{HasValue, IsInjectiveMap, is_among, keys, value_of, values, with_values}
use Rattle.slotted_lists.proofs.Contained.{Contains-of_map}
use Rattle.slotted_lists.proofs.Members.{In, In-left, In-right}
use Rattle.slotted_lists.proofs.Options.{cond-option_map}

pub length-values : (m : List (ℕ × ℕ)) → length (values m) ≡ length m
length-values [] = refl
length-values (p ∷ m) = ap suc (length-values m)

pub length-keys : (m : List (ℕ × ℕ)) → length (keys m) ≡ length m
length-keys [] = refl
length-keys (p ∷ m) = ap suc (length-keys m)

-- a map is its keys beside its values
pub zip-keys_values : (m : List (ℕ × ℕ)) → zip (keys m) (values m) ≡ m
zip-keys_values [] = refl
zip-keys_values (p ∷ m) = ap (λ l. p ∷ l) (zip-keys_values m)

pub keys-zip : (ks vs : List ℕ) → length vs ≡ length ks → keys (zip ks vs) ≡ ks
keys-zip [] vs h = refl
keys-zip (k ∷ ks) [] h = absurd (omega arith)
keys-zip (k ∷ ks) (v ∷ vs) h = ap (λ l. k ∷ l) (keys-zip ks vs (omega arith))

pub values-zip : (ks vs : List ℕ) → length vs ≡ length ks → values (zip ks vs) ≡ vs
values-zip [] [] h = refl
values-zip [] (v ∷ vs) h = absurd (omega arith)
values-zip (k ∷ ks) [] h = absurd (omega arith)
values-zip (k ∷ ks) (v ∷ vs) h = ap (λ l. v ∷ l) (values-zip ks vs (omega arith))

pub keys-beside : (ks vs : List ℕ) → length ks ≡ length vs → keys (zip ks vs) ≡ ks
keys-beside ks vs e = keys-zip ks vs (sym e)

pub values-beside : (ks vs : List ℕ) → length ks ≡ length vs → values (zip ks vs) ≡ vs
values-beside ks vs e = values-zip ks vs (sym e)

pub In-zip : (ks vs : List ℕ) (x : ℕ) → In x (values (zip ks vs)) → In x vs
In-zip [] vs x h = absurd h
In-zip (k ∷ ks) [] x h = absurd h
In-zip (k ∷ ks) (v ∷ vs) x (inl e) = inl e
In-zip (k ∷ ks) (v ∷ vs) x (inr h) = inr (In-zip ks vs x h)

pub keys-with_values : (f : ℕ → ℕ) (m : List (ℕ × ℕ)) → keys (with_values f m) ≡ keys m
keys-with_values f [] = refl
keys-with_values f (p ∷ m) = ap (λ l. p.0 ∷ l) (keys-with_values f m)

pub values-with_values : (f : ℕ → ℕ) (m : List (ℕ × ℕ)) → values (with_values f m) ≡ map f (values m)
values-with_values f [] = refl
values-with_values f (p ∷ m) = ap (λ l. f p.1 ∷ l) (values-with_values f m)

pub zip-with_values : (f : ℕ → ℕ) (ks xs : List ℕ) → zip ks (map f xs) ≡ with_values f (zip ks xs)
zip-with_values f [] xs = refl
zip-with_values f (k ∷ ks) [] = refl
zip-with_values f (k ∷ ks) (x ∷ xs) = ap (λ m. (k, f x) ∷ m) (zip-with_values f ks xs)

pub length-with_values : (f : ℕ → ℕ) (m : List (ℕ × ℕ)) → length (with_values f m) ≡ length m
length-with_values f [] = refl
length-with_values f (p ∷ m) = ap suc (length-with_values f m)

-- names that stay
pub with_values-itself : (m : List (ℕ × ℕ)) → m ≡ with_values (λ x. x) m
with_values-itself [] = refl
with_values-itself (p ∷ m) = ap (λ l. p ∷ l) (with_values-itself m)

pub with_values-agree : (f g : ℕ → ℕ) (m : List (ℕ × ℕ)) → ((z : ℕ) → In z (values m) → f z ≡ g z) → with_values f m ≡ with_values g m
with_values-agree f g [] h = refl
with_values-agree f g (p ∷ m) h = λ i. (p.0, h p.1 (inl refl) i) ∷ with_values-agree f g m (λ z k. h z (inr k)) i

pub HasValue-with_values : (f : ℕ → ℕ) (m : List (ℕ × ℕ)) (x : ℕ) → HasValue m x → HasValue (with_values f m) (f x)
HasValue-with_values f [] x h = h
HasValue-with_values f (p ∷ m) x (inl e) = inl (ap f e)
HasValue-with_values f (p ∷ m) x (inr h) = inr (HasValue-with_values f m x h)

pub IsInjectiveMap-before : (f : ℕ → ℕ) (m : List (ℕ × ℕ)) → IsInjectiveMap (with_values f m) → IsInjectiveMap m
IsInjectiveMap-before f [] h = tt
IsInjectiveMap-before f (p ∷ m) h = (λ v. h.0 (HasValue-with_values f m p.1 v), IsInjectiveMap-before f m h.1)

pub with_values-pair : (f : ℕ → ℕ) (m : List (ℕ × ℕ)) (s y : ℕ) → Contains (with_values f m) (s, y) → (x : ℕ) × Contains m (s, x) × (f x ≡ y)
with_values-pair f m s y c =
    let r : (p : ℕ × ℕ) × Contains m p × (◌≡◌ {A = ℕ × ℕ} (p.0, f p.1) (s, y)) = Contains-of_map (λ p. (p.0, f p.1)) m (s, y) c in
    (r.0.1, subst (λ k. Contains m (k, r.0.1)) (ap (λ q. q.0) r.2) r.1, ap (λ q. q.1) r.2)

-- one more pair
pub keys-push : (m : List (ℕ × ℕ)) (p : ℕ × ℕ) → keys (m ++ p ∷ []) ≡ keys m ++ p.0 ∷ []
keys-push [] p = refl
keys-push (q ∷ m) p = ap (λ ks. q.0 ∷ ks) (keys-push m p)

pub value_of-first : (p : ℕ × ℕ) (m : List (ℕ × ℕ)) (x : ℕ) → x ≡ p.0 → value_of (p ∷ m) x ≡ Some p.1
value_of-first p m x e = ap (λ b. cond b (Some p.1) (value_of m x)) (eq-eqb x p.0 e)

pub value_of-rest : (p : ℕ × ℕ) (m : List (ℕ × ℕ)) (x : ℕ) → x ≢ p.0 → value_of (p ∷ m) x ≡ value_of m x
value_of-rest p m x n = ap (λ b. cond b (Some p.1) (value_of m x)) (ne_eqb x p.0 n)

pub value_of-added : (m : List (ℕ × ℕ)) (x v : ℕ) → value_of m x ≡ None → value_of (m ++ (x, v) ∷ []) x ≡ Some v
value_of-added [] x v e = value_of-first (x, v) [] x refl
value_of-added (p ∷ m) x v e = elim (cases_eq x p.0) [
  | inl d ↦ absurd (true≢false (ap is_some (sym (value_of-first p m x d) ∙ e)))
  | inr n ↦ value_of-rest p (m ++ (x, v) ∷ []) x n ∙ value_of-added m x v (sym (value_of-rest p m x n) ∙ e)
]

pub value_of-with_values : (f : ℕ → ℕ) (m : List (ℕ × ℕ)) (s : ℕ) → value_of (with_values f m) s ≡ option_map f (value_of m s)
value_of-with_values f [] s = refl
value_of-with_values f (p ∷ m) s = ap (cond (nat_eq s p.0) (Some (f p.1))) (value_of-with_values f m s) ∙ cond-option_map f (nat_eq s p.0) p.1 (value_of m s)

pub cons_option-with_values : (f : ℕ → ℕ) (s : ℕ) (o : Option ℕ) (A : List (ℕ × ℕ)) → cons_option (option_map (λ u. (s, u)) (option_map f o)) (with_values f A) ≡ with_values f (cons_option (option_map (λ u. (s, u)) o) A)
cons_option-with_values f s None A = refl
cons_option-with_values f s (Some u) A = refl

pub is_among-In : (xs : List ℕ) (x : ℕ) → is_among x xs ≡ true → In x xs
is_among-In [] x h = cc
is_among-In (y ∷ ys) x h = elim (cases_eq y x) [
  | inl e ↦ inl (sym e)
  | inr n ↦ inr (is_among-In ys x (sym (ap (λ b. b || is_among x ys) (ne_eqb y x n)) ∙ h))
]

or-last : (b : Bool) → (b || true) ≡ true
or-last true = refl
or-last false = refl

pub In-is_among : (xs : List ℕ) (x : ℕ) → In x xs → is_among x xs ≡ true
In-is_among [] x h = absurd h
In-is_among (y ∷ ys) x (inl e) = ap (λ b. b || is_among x ys) (eq-eqb y x (sym e))
In-is_among (y ∷ ys) x (inr h) = ap (λ b. nat_eq y x || b) (In-is_among ys x h) ∙ or-last (nat_eq y x)

-- members of two lists in a row
pub is_among-left : (xs ys : List ℕ) (z : ℕ) → is_among z xs ≡ true → is_among z (xs ++ ys) ≡ true
is_among-left xs ys z h = In-is_among (xs ++ ys) z (In-left z xs ys (is_among-In xs z h))

pub is_among-right : (xs ys : List ℕ) (z : ℕ) → is_among z ys ≡ true → is_among z (xs ++ ys) ≡ true
is_among-right xs ys z h = In-is_among (xs ++ ys) z (In-right z xs ys (is_among-In ys z h))

pub HasValue-is_among : (m : List (ℕ × ℕ)) (v : ℕ) → HasValue m v → is_among v (values m) ≡ true
HasValue-is_among [] v h = absurd h
HasValue-is_among (p ∷ m) v (inl e) = ap (λ b. b || is_among v (values m)) (eq-eqb p.1 v (sym e))
HasValue-is_among (p ∷ m) v (inr h) = elim (cases_eq p.1 v) [
  | inl e ↦ ap (λ b. b || is_among v (values m)) (eq-eqb p.1 v e)
  | inr n ↦ ap (λ b. b || is_among v (values m)) (ne_eqb p.1 v n) ∙ HasValue-is_among m v h
]
