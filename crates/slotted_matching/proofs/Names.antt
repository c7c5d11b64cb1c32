-- More names for the numbers of an answer.
use Rattle.std.proofs.Common.{◌≡◌, ℕ, ◌+◌, ◌<◌, ◌≤◌, List, [], ◌∷◌, ◌++◌, Bool, true, false, length, take, get_or, refl, sym, ap, subst, ◌∙◌, inl, inr}
use Rattle.std.specs.Prelude.{Contains, Option, Some, None, cond, nat_eq, IsSome, IsTrue, ◌⊎◌, unwrap_or, is_some}
use Rattle.slotted_theory.specs.FiniteMaps.{value_of}
use Rattle.std.proofs.lemmas.List.{take_more, take_all, append-nil}
use Rattle.std.proofs.lemmas.List.Folds.{length-flat_map-take}
use Rattle.std.proofs.lemmas.List.Concat.{flat_map-append}
use Rattle.std.proofs.lemmas.Bool.{false≢true, eqb-true}
use Rattle.slotted_lists.proofs.Contained.{contains_cases, Contains-nil, contains_head, contains_tail}
use Rattle.slotted_lists.proofs.Maps.{value_of-added}
use Rattle.slotted_slots.specs.Table.{Table, KnowsMore, is_known}
use Rattle.slotted_match_machine.specs.declared.answer.Occurrence.{Occurrence}
use Rattle.slotted_matching.specs.Naming.{NamesMore, Covers, numbers_of}

pub names_more-refl : (t : Table) (xs : List (ℕ × ℕ)) → NamesMore t xs t xs
names_more-refl t xs = record { stays = λ n y e. e; naming = λ start pairs h. h }

pub names_more-trans : (t : Table) (xs : List (ℕ × ℕ)) (u : Table) (ys : List (ℕ × ℕ)) (w : Table) (zs : List (ℕ × ℕ)) → NamesMore t xs u ys → NamesMore u ys w zs → NamesMore t xs w zs
names_more-trans t xs u ys w zs a b = record {
  stays = λ n y e. b.stays n y (a.stays n y e);
  naming = λ start pairs h. b.naming start pairs (a.naming start pairs h);
}

-- what is named goes on to be named
pub covers-more : (xs ys : List (ℕ × ℕ)) (numbers : List ℕ) → ((n y : ℕ) → value_of xs n ≡ Some y → value_of ys n ≡ Some y) → Covers xs numbers → Covers ys numbers
covers-more xs ys numbers stays covers n c = go (value_of xs n) refl (covers n c)
  where
    go : (o : Option ℕ) → value_of xs n ≡ o → IsSome o → IsSome (value_of ys n)
    go None e h = absurd (false≢true h)
    go (Some y) e h = subst IsSome (sym (stays n y e)) refl

value-left : (xs ys : List (ℕ × ℕ)) (m z : ℕ) → value_of xs m ≡ Some z → value_of (xs ++ ys) m ≡ Some z
value-left [] ys m z e = absurd (none_is_some z e)
  where
    none_is_some : (y : ℕ) → None ≡ Some y → ⊥
    none_is_some y h = false≢true (ap is_some h)
value-left (p ∷ xs) ys m z e = go (nat_eq m p.0) (value-left xs ys m z) e
  where
    go : (b : Bool) → (value_of xs m ≡ Some z → value_of (xs ++ ys) m ≡ Some z) → cond b (Some p.1) (value_of xs m) ≡ Some z → cond b (Some p.1) (value_of (xs ++ ys) m) ≡ Some z
    go true rest h = h
    go false rest h = rest h

-- a name is one of those before or the last one
value-cases : (xs : List (ℕ × ℕ)) (n y m z : ℕ) → value_of (xs ++ (n, y) ∷ []) m ≡ Some z → (value_of xs m ≡ Some z) ⊎ ((m ≡ n) × (z ≡ y))
value-cases [] n y m z e = go (nat_eq m n) refl e
  where
    go : (b : Bool) → nat_eq m n ≡ b → cond b (Some y) None ≡ Some z → (None ≡ Some z) ⊎ ((m ≡ n) × (z ≡ y))
    go true t h = inr (eqb-true m n t, sym (ap (λ o. unwrap_or o 0) h))
    go false t h = inl h
value-cases (p ∷ xs) n y m z e = go (nat_eq m p.0) (value-cases xs n y m z) e
  where
    go : (b : Bool) → (value_of (xs ++ (n, y) ∷ []) m ≡ Some z → (value_of xs m ≡ Some z) ⊎ ((m ≡ n) × (z ≡ y))) → cond b (Some p.1) (value_of (xs ++ (n, y) ∷ []) m) ≡ Some z → (cond b (Some p.1) (value_of xs m) ≡ Some z) ⊎ ((m ≡ n) × (z ≡ y))
    go true rest h = inl h
    go false rest h = rest h

unknown : (b : Bool) → (IsTrue b → ⊥) → b ≡ false
unknown true h = absurd (h refl)
unknown false h = refl

-- one more number has a slot for a name that was not known
pub name-added : (t u : Table) (xs : List (ℕ × ℕ)) (n y : ℕ) → value_of xs n ≡ None → is_known t y ≡ false → IsTrue (is_known u y) → KnowsMore t u →
    NamesMore t xs u (xs ++ (n, y) ∷ [])
name-added t u xs n y new fresh knows more = record {
  stays = λ m z e. value-left xs ((n, y) ∷ []) m z e;
  naming = λ start pairs h. record {
    injective = λ l m z e f. elim (value-cases xs n y l z e) [
      | inl a ↦ elim (value-cases xs n y m z f) [
        | inl b ↦ h.injective l m z a b
        | inr b ↦ absurd (false≢true (sym fresh ∙ (ap (is_known t) (sym b.1) ∙ h.known l z a)))
      ]
      | inr a ↦ elim (value-cases xs n y m z f) [
        | inl b ↦ absurd (false≢true (sym fresh ∙ (ap (is_known t) (sym a.1) ∙ h.known m z b)))
        | inr b ↦ a.0 ∙ sym b.0
      ]
    ];
    paired = λ m z c. value-left xs ((n, y) ∷ []) m z (h.paired m z c);
    origin = λ m z e. elim (value-cases xs n y m z e) [
      | inl a ↦ h.origin m z a
      | inr a ↦ inr (unknown (is_known start z) (λ k. false≢true (sym fresh ∙ (ap (is_known t) (sym a.1) ∙ h.more z k))))
    ];
    known = λ m z e. elim (value-cases xs n y m z e) [
      | inl a ↦ more z (h.known m z a)
      | inr a ↦ subst (λ s. IsTrue (is_known u s)) (sym a.1) knows
    ];
    more = λ s k. more s (h.more s k);
  };
}

pub named-last : (xs : List (ℕ × ℕ)) (n y : ℕ) → value_of xs n ≡ None → IsSome (value_of (xs ++ (n, y) ∷ []) n)
named-last xs n y e = ap is_some (value_of-added xs n y e)

-- all numbers have names after the next one
pub covers-next : (names : List (ℕ × ℕ)) (xs ys : List ℕ) → Covers names xs → Covers names ys → Covers names (xs ++ ys)
covers-next names xs ys a b n c = elim (contains_append xs ys n c) [ inl h ↦ a n h | inr h ↦ b n h ]
  where
    contains_append : (us vs : List ℕ) (m : ℕ) → Contains (us ++ vs) m → Contains us m ⊎ Contains vs m
    contains_append [] vs m d = inr d
    contains_append (u ∷ us) vs m d = elim (contains_cases u (us ++ vs) m d) [
      | inl e ↦ inl (subst (Contains (u ∷ us)) (sym e) (contains_head u us))
      | inr h ↦ elim (contains_append us vs m h) [ inl k ↦ inl (contains_tail u us m k) | inr k ↦ inr k ]
    ]

pub covers-one : (names : List (ℕ × ℕ)) (n : ℕ) → IsSome (value_of names n) → Covers names (n ∷ [])
covers-one names n h m c = elim (contains_cases n [] m c) [ inl e ↦ subst (λ k. IsSome (value_of names k)) (sym e) h | inr k ↦ absurd (Contains-nil m k) ]

pub no-name : (xs : List (ℕ × ℕ)) (n : ℕ) (o : Option ℕ) (b : Bool) → o ≡ value_of xs n → b ≡ is_some o → b ≡ false → value_of xs n ≡ None
no-name xs n None b e t f = sym e
no-name xs n (Some y) b e t f = absurd (false≢true (sym f ∙ t))

pub covers-none : (names : List (ℕ × ℕ)) → Covers names []
covers-none names n c = absurd (Contains-nil n c)

-- one more number of a list
pub covers-step : (t : Table) (xs : List (ℕ × ℕ)) (u : Table) (ys : List (ℕ × ℕ)) (ns : List ℕ) (i : ℕ) → i < length ns → NamesMore t xs u ys → Covers xs (take i ns) →
    IsSome (value_of ys (get_or ns i 0)) → Covers ys (take (i + 1) ns)
covers-step t xs u ys ns i l more before next =
    subst (Covers ys) (sym (take_more ns i 0 l))
    (covers-next ys (take i ns) (get_or ns i 0 ∷ []) (covers-more xs ys (take i ns) more.stays before) (covers-one ys (get_or ns i 0) next))

pub covers-all : (names : List (ℕ × ℕ)) (ns : List ℕ) (i : ℕ) → length ns ≤ i → Covers names (take i ns) → Covers names ns
covers-all names ns i l c = subst (Covers names) (take_all i ns l) c

-- one more occurrence
pub numbers-step : (os : List Occurrence) (i : ℕ) (o : Occurrence) → i < length os → o ≡ get_or os i o → numbers_of (take (i + 1) os) ≡ numbers_of (take i os) ++ o.names.items
numbers-step os i o l e =
    ap numbers_of (take_more os i o l ∙ ap (λ (x : Occurrence). take i os ++ x ∷ []) (sym e))
    ∙ (flat_map-append (λ (x : Occurrence). x.names.items) (take i os) (o ∷ []) ∙ ap (λ l. numbers_of (take i os) ++ l) (append-nil o.names.items))

pub numbers-within : (os : List Occurrence) (i : ℕ) (o : Occurrence) → i < length os → o ≡ get_or os i o →
    length (numbers_of (take i os)) + length o.names.items ≤ length (numbers_of os)
numbers-within os i o l e =
    subst (λ (x : Occurrence). length (numbers_of (take i os)) + length x.names.items ≤ length (numbers_of os)) (sym e)
    (length-flat_map-take (λ (x : Occurrence). x.names.items) os i o l)
