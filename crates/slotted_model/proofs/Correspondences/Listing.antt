-- A partial injection in plain words: its slots are listed in the order of P, and the slots of Q in it are different.
use Rattle.std.proofs.Common.{◌≡◌, ◌↔◌, ℕ, List, [], ◌∷◌, Option, Some, None, Bool, true, false, sym, ◌∙◌, ap, refl, subst, inl, inr}
use Rattle.std.specs.Prelude.{Contains, filter, option_map, is_some, cond, nat_eq, ◌||◌, ◌⊎◌}
use Rattle.std.specs.List.{cons_option}
use Rattle.std.specs.Map.{keys_of, values_of}
use Rattle.std.proofs.lemmas.List.Elements.{filter_agree}
use Rattle.slotted_lists.proofs.Contained.{contains_head, contains_tail, contains_cases}
use Rattle.slotted_theory.specs.FiniteMaps.{value_of, IsInjectiveMap}
use Rattle.slotted_model.specs.Correspondence.{AllDifferent, pairs_on, IsPartialInjection, has_slot}
use Rattle.slotted_model.proofs.Correspondences.Pairs.{Contains-value, Contains-of_value}
use Rattle.slotted_model.proofs.Correspondences.FullMaps.{HasValue-at, at_HasValue, injective_map-keys, injective_map-from, keys-in_order}

-- something is found at a slot exactly if it is a key
found-cond : (b : Bool) (t : ℕ) (o : Option ℕ) → is_some (cond b (Some t) o) ≡ (b || is_some o)
found-cond true t o = refl
found-cond false t o = refl

found-has_slot : (A : List (ℕ × ℕ)) (s : ℕ) → is_some (value_of A s) ≡ has_slot (keys_of A) s
found-has_slot [] s = refl
found-has_slot (p ∷ A) s = found-cond (nat_eq s p.0) p.1 (value_of A s) ∙ ap (λ b. nat_eq s p.0 || b) (found-has_slot A s)

-- the keys of the pairs (s, f s) are the slots of which f says something
keys-cons_option : (s : ℕ) (o : Option ℕ) (A : List (ℕ × ℕ)) → keys_of (cons_option (option_map (λ t. (s, t)) o) A) ≡ cond (is_some o) (s ∷ keys_of A) (keys_of A)
keys-cons_option s None A = refl
keys-cons_option s (Some t) A = refl

keys-pairs_on : (P : List ℕ) (f : ℕ → Option ℕ) → keys_of (pairs_on P f) ≡ filter (λ s. is_some (f s)) P
keys-pairs_on [] f = refl
keys-pairs_on (s ∷ P) f = keys-cons_option s (f s) (pairs_on P f) ∙ ap (λ K. cond (is_some (f s)) (s ∷ K) K) (keys-pairs_on P f)

-- the other slots can be left out
pairs_on-cond : (s : ℕ) (o : Option ℕ) (f : ℕ → Option ℕ) (K : List ℕ) → f s ≡ o → cons_option (option_map (λ t. (s, t)) o) (pairs_on K f) ≡ pairs_on (cond (is_some o) (s ∷ K) K) f
pairs_on-cond s None f K e = refl
pairs_on-cond s (Some t) f K e = λ i. cons_option (option_map (λ v. (s, v)) (sym e i)) (pairs_on K f)

pairs_on-filter : (P : List ℕ) (f : ℕ → Option ℕ) → pairs_on P f ≡ pairs_on (filter (λ s. is_some (f s)) P) f
pairs_on-filter [] f = refl
pairs_on-filter (s ∷ P) f =
    ap (cons_option (option_map (λ t. (s, t)) (f s))) (pairs_on-filter P f)
    ∙ pairs_on-cond s (f s) f (filter (λ r. is_some (f r)) P) refl

-- a filter of different slots has different slots
of_cond : (b : Bool) (s : ℕ) (K : List ℕ) (x : ℕ) → Contains (cond b (s ∷ K) K) x → (x ≡ s) ⊎ Contains K x
of_cond true s K x c = contains_cases s K x c
of_cond false s K x c = inr c

of_filter : (f : ℕ → Bool) (P : List ℕ) (x : ℕ) → Contains (filter f P) x → Contains P x
of_filter f [] x c = c
of_filter f (s ∷ P) x c = elim (of_cond (f s) s (filter f P) x c) [
  | inl e ↦ subst (Contains (s ∷ P)) (sym e) (contains_head s P)
  | inr h ↦ contains_tail s P x (of_filter f P x h)
]

different-cond : (b : Bool) (s : ℕ) (K : List ℕ) → (¬ Contains K s) → AllDifferent K → AllDifferent (cond b (s ∷ K) K)
different-cond true s K n d = (n, d)
different-cond false s K n d = d

pub different-filter : (f : ℕ → Bool) (P : List ℕ) → AllDifferent P → AllDifferent (filter f P)
different-filter f [] d = tt
different-filter f (s ∷ P) d = different-cond (f s) s (filter f P) (λ c. d.0 (of_filter f P s c)) (different-filter f P d.1)

-- a map has no value twice exactly if its values are different
different-injective : (m : List (ℕ × ℕ)) → AllDifferent (values_of m) → IsInjectiveMap m
different-injective [] d = tt
different-injective (p ∷ m) d = (λ h. let r = at_HasValue m p.1 h in d.0 (Contains-value m r.0 p.1 r.1), different-injective m d.1)

pub injective-different : (m : List (ℕ × ℕ)) → IsInjectiveMap m → AllDifferent (values_of m)
injective-different [] i = tt
injective-different (p ∷ m) i = (λ c. let r = Contains-of_value m p.1 c in i.0 (HasValue-at m r.0 p.1 r.1), injective-different m i.1)

-- the keys in the order of P, and the other way round the order from the keys
keys-listed : (P : List ℕ) (A : List (ℕ × ℕ)) → pairs_on P (value_of A) ≡ A → keys_of A ≡ filter (has_slot (keys_of A)) P
keys-listed P A o =
    ap keys_of (sym o)
    ∙ (keys-pairs_on P (value_of A) ∙ filter_agree (λ s. is_some (value_of A s)) (has_slot (keys_of A)) (found-has_slot A) P)

pub listed-in_order : (P : List ℕ) (A : List (ℕ × ℕ)) → AllDifferent P → keys_of A ≡ filter (has_slot (keys_of A)) P → pairs_on P (value_of A) ≡ A
listed-in_order P A d e =
    pairs_on-filter P (value_of A)
    ∙ (ap (λ K. pairs_on K (value_of A)) (filter_agree (λ s. is_some (value_of A s)) (has_slot (keys_of A)) (found-has_slot A) P ∙ sym e)
    ∙ keys-in_order A (subst AllDifferent (sym e) (different-filter (has_slot (keys_of A)) P d)))

pub partial_injection_iff : (P Q : List ℕ) (A : List (ℕ × ℕ)) → AllDifferent P → IsPartialInjection P Q A ↔ ((keys_of A ≡ filter (has_slot (keys_of A)) P) × AllDifferent (values_of A) × ((t : ℕ) → Contains (values_of A) t → Contains Q t))
partial_injection_iff P Q A d = (
  λ a.
      let e = keys-listed P A a.in_order in (
        e,
        injective-different A (injective_map-from A (subst AllDifferent (sym e) (different-filter (has_slot (keys_of A)) P d)) a.injective),
        λ t c. let r = Contains-of_value A t c in a.within r.0 t r.1,
      ),
  λ h. record {
    in_order = listed-in_order P A d h.0;
    within = λ s t c. h.2 t (Contains-value A s t c);
    injective = injective_map-keys A (different-injective A h.1);
  },
)
