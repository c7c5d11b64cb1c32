-- An id with fresh slots for the names that it lacks: it is a filling, it finds as the id does, and a full id stays.
use Rattle.std.proofs.Common.{◌≡◌, ℕ, ◌+◌, ◌<◌, ◌≤◌, List, [], ◌∷◌, ◌⊎◌, Option, Some, None, true, false, true≢false, refl, ap, ◌∙◌, sym, subst, subst₂, arith, inl, inr, unwrap_or}
use Rattle.std.specs.Prelude.{Contains, IsSome, option_map, slice_index_or}
use Rattle.std.specs.List.{zip, cons_option}
use Rattle.std.specs.Map.{values_of}
use Rattle.std.proofs.lemmas.Bool.{eq-eqb, ne_eqb, le-ltb, lt-ltb}
use Rattle.slotted_lists.proofs.Members.{In, In-map, In-of_map, In-Contains, Contains-In}
use Rattle.slotted_lists.proofs.Maps.{zip-keys_values, keys-with_values}
use Rattle.slotted_lists.proofs.Options.{some-or_none}
use Rattle.slotted_theory.specs.Nameless.{DTerm}
use Rattle.slotted_theory.specs.Renaming.{IsInjective}
use Rattle.slotted_theory.specs.FiniteMaps.{IsInjectiveMap, HasValue, with_values}
use Rattle.slotted_theory.specs.FiniteMaps as model
use Rattle.slotted_slots.specs.Maps.{keys, values, value_of}
use Rattle.slotted_slots.specs.Table.{Table, fresh_slot, is_known, KnowsMore, AllKnown}
use Rattle.slotted_slots.proofs.TableLaws.{is_known-fresh_slot, KnowsMore-grows}
use Rattle.slotted_model.specs.Applied.{Applied, renamed_id}
use Rattle.slotted_model.specs.Ascending.{IsAscending}
use Rattle.slotted_model.specs.Classes.{canonical_slots, IsFull}
use Rattle.slotted_model.specs.Correspondence.{composite}
use Rattle.slotted_model.specs.Filling.{IsFilling}
use Rattle.slotted_model.specs.Find.{find, find_class, find_map}
use Rattle.slotted_model.proofs.Correspondences.FullMaps.{injective_map-keys}
use Rattle.slotted_model.proofs.Correspondences.Pairs.{Contains-value_of}
use Rattle.slotted_model.proofs.Represented.Fillings.{slots-ascending}
use Rattle.slotted_model.proofs.Represented.Full.{full-renamed, full-ascending}
use Rattle.slotted_model.proofs.Finds.NormalIds.{used-by}
use Rattle.slotted_model.proofs.Represented.OtherFillings.{with_values-same}
use Rattle.slotted_model.proofs.Data.Sets.{below_each}
use Rattle.slotted_languages.proofs.Counting.{In-value}
use Rattle.slotted_proofs.proofs.Bridges.{value_of-model}
use Rattle.slotted_classes.specs.Finding.{IsFindable}
use Rattle.slotted_classes.specs.Kept.{Kept, nodes_of, entries_of}
use Rattle.slotted_classes.proofs.NameMaps.{In-at, at_In}
use Rattle.slotted_lookup.specs.Filling.{FillsId, lack, lacked, named, filled_id, missing, with_fresh}

-- known slots

-- the table knows each of the slots
abbrev pub Knows : Table → List ℕ → Type 0
Knows t xs = (x : ℕ) → In x xs → is_known t x ≡ true

pub knows : (t : Table) (xs : List ℕ) → AllKnown t xs → Knows t xs
knows t xs h = at_In (λ x. is_known t x ≡ true) xs h

pub all_known : (t : Table) (xs : List ℕ) → Knows t xs → AllKnown t xs
all_known t xs h k d l = h (slice_index_or xs k d) (In-at xs k d l)

-- a fresh slot that is still to be made is not known
fresh-unknown : (t : Table) (n : ℕ) → t.fresh ≤ n → is_known t (fresh_slot n) ≡ false
fresh-unknown t n l = is_known-fresh_slot t n ∙ le-ltb n t.fresh l

fresh-known : (t : Table) (n : ℕ) → n < t.fresh → is_known t (fresh_slot n) ≡ true
fresh-known t n l = is_known-fresh_slot t n ∙ lt-ltb n t.fresh l

-- more fresh slots make no slot unknown
pub with_fresh-more : (t u : Table) (n : ℕ) → u ≡ with_fresh n t → KnowsMore t u
with_fresh-more t u n e =
    subst (KnowsMore t) (sym e) (KnowsMore-grows t (with_fresh n t) (omega arith) (omega arith))

-- pairs of a map

pair-found : (m : List (ℕ × ℕ)) (s x : ℕ) → value_of m s ≡ Some x → In (s, x) m
pair-found m s x e = In-Contains m (s, x) (Contains-value_of m s x (sym (value_of-model m s) ∙ e))

found-pair : (m : List (ℕ × ℕ)) (s x : ℕ) → IsAscending (keys m) → In (s, x) m → value_of m s ≡ Some x
found-pair [] s x a h = absurd h
found-pair (p ∷ m) s x a (inl e) = rw (eq-eqb p.0 s (sym (ap (λ (q : ℕ × ℕ). q.0) e))) (ap Some (sym (ap (λ (q : ℕ × ℕ). q.1) e)))
found-pair (p ∷ m) s x a (inr h) =
    let l : p.0 < s = below_each p.0 (keys m) a.0 s (In-map (λ (q : ℕ × ℕ). q.0) m (s, x) h) in
    rw (ne_eqb p.0 s (omega arith)) (found-pair m s x a.1 h)

pair-value : (m : List (ℕ × ℕ)) (x : ℕ) → HasValue m x → (s : ℕ) × In (s, x) m
pair-value [] x h = absurd h
pair-value (p ∷ m) x (inl e) = (p.0, inl (λ i. (p.0, e i)))
pair-value (p ∷ m) x (inr h) = let r = pair-value m x h in (r.0, inr r.1)

-- the map of the slots with their names

abbrev pub filled_map : ℕ → List (ℕ × ℕ) → List ℕ → List (ℕ × ℕ)
filled_map c m ss = zip ss (named c m ss)

keys-filled_map : (c : ℕ) (m : List (ℕ × ℕ)) (ss : List ℕ) → keys (filled_map c m ss) ≡ ss
keys-filled_map c m [] = refl
keys-filled_map c m (s ∷ ss) = ap (λ l. s ∷ l) (keys-filled_map (c + lack (value_of m s)) m ss)

-- the fresh slot of an index from c on and below d
pub record IsFreshFrom (c d x : ℕ) : Type 0 where
  pub index : ℕ
  pub is_slot : x ≡ fresh_slot index
  pub from : c ≤ index
  pub below : index < d

-- x is the name of the slot, or it has none and x is such a fresh slot
abbrev IsNamed : ℕ → ℕ → List (ℕ × ℕ) → ℕ → ℕ → Type 0
IsNamed c d m s x = (value_of m s ≡ Some x) ⊎ ((value_of m s ≡ None) × IsFreshFrom c d x)

named-wider : (c d e : ℕ) (m : List (ℕ × ℕ)) (s x : ℕ) → c ≤ d → IsNamed d e m s x → IsNamed c e m s x
named-wider c d e m s x l (inl h) = inl h
named-wider c d e m s x l (inr h) =
    inr (h.0, record { index = h.1.index; is_slot = h.1.is_slot; from = omega (arith, l, h.1.from); below = h.1.below })

-- the first name
first-named : (c : ℕ) (o : Option ℕ) (x : ℕ) → x ≡ unwrap_or o (fresh_slot c) → (o ≡ Some x) ⊎ ((o ≡ None) × (x ≡ fresh_slot c))
first-named c None x e = inr (refl, e)
first-named c (Some y) x e = inl (ap Some (sym e))

-- what stands in the map
of_filled_map : (c : ℕ) (m : List (ℕ × ℕ)) (ss : List ℕ) (s x : ℕ) → In (s, x) (filled_map c m ss) → In s ss × IsNamed c (c + lacked m ss) m s x
of_filled_map c m [] s x h = absurd h
of_filled_map c m (t ∷ ss) s x (inl e) =
    let es : s ≡ t = ap (λ (p : ℕ × ℕ). p.0) e in
    let ex : x ≡ unwrap_or (value_of m t) (fresh_slot c) = ap (λ (p : ℕ × ℕ). p.1) e in (
      inl es,
      subst (λ z. IsNamed c (c + lacked m (t ∷ ss)) m z x) (sym es) (elim (first-named c (value_of m t) x ex) [
        | inl h ↦ inl h
        | inr h ↦
            let one : lack (value_of m t) ≡ 1 = ap lack h.0 in
            inr (h.0, record { index = c; is_slot = h.1; from = omega arith; below = omega (arith, one) })
      ]),
    )
of_filled_map c m (t ∷ ss) s x (inr h) =
    let d = c + lack (value_of m t) in
    let r = of_filled_map d m ss s x h in
    let e : d + lacked m ss ≡ c + lacked m (t ∷ ss) = omega arith in
    (inr r.0, subst (λ n. IsNamed c n m s x) e (named-wider c d (d + lacked m ss) m s x (omega arith) r.1))

-- a name stays
kept-pair : (c : ℕ) (m : List (ℕ × ℕ)) (ss : List ℕ) (s x : ℕ) → value_of m s ≡ Some x → In s ss → In (s, x) (filled_map c m ss)
kept-pair c m [] s x e h = absurd h
kept-pair c m (t ∷ ss) s x e (inl q) =
    let v : unwrap_or (value_of m t) (fresh_slot c) ≡ x = ap (λ o. unwrap_or o (fresh_slot c)) (ap (value_of m) (sym q) ∙ e) in
    inl (λ i. (q i, sym v i))
kept-pair c m (t ∷ ss) s x e (inr h) = inr (kept-pair (c + lack (value_of m t)) m ss s x e h)

-- where the table knows the names, no fresh slot is one of them
not_fresh : (t : Table) (m : List (ℕ × ℕ)) (s x n : ℕ) → Knows t (values m) → value_of m s ≡ Some x → x ≡ fresh_slot n → t.fresh ≤ n → ⊥
not_fresh t m s x n known e f l =
    let h : In x (values m) = In-map (λ (p : ℕ × ℕ). p.1) m (s, x) (pair-found m s x e) in
    true≢false (sym (known x h) ∙ (ap (is_known t) f ∙ fresh-unknown t n l))

-- the names are different
differ-filled_map : (t : Table) (c : ℕ) (m : List (ℕ × ℕ)) (ss : List ℕ) → Knows t (values m) → t.fresh ≤ c → IsInjectiveMap m → IsAscending ss → IsInjectiveMap (filled_map c m ss)
differ-filled_map t c m [] known l inj a = tt
differ-filled_map t c m (s ∷ ss) known l inj a =
    let d = c + lack (value_of m s) in
    let y = unwrap_or (value_of m s) (fresh_slot c) in (
      λ v.
          let w = pair-value (filled_map d m ss) y v in
          let r = of_filled_map d m ss w.0 y w.1 in
          let above : s < w.0 = below_each s ss a.0 w.0 r.0 in
          elim (first-named c (value_of m s) y refl) [
            | inl e ↦ elim r.1 [
              | inl f ↦
                  let same : s ≡ w.0 = injective_map-keys m inj s w.0 y (Contains-In m (s, y) (pair-found m s y e)) (Contains-In m (w.0, y) (pair-found m w.0 y f)) in
                  absurd (omega (arith, same, above))
              | inr f ↦ not_fresh t m s y f.1.index known e f.1.is_slot (omega (arith, l, f.1.from))
            ]
            | inr e ↦ elim r.1 [
              | inl f ↦ not_fresh t m w.0 y c known f e.1 l
              | inr f ↦
                  let one : lack (value_of m s) ≡ 1 = ap lack e.0 in
                  absurd (omega (arith, one, e.1, f.1.is_slot, f.1.from))
            ]
          ],
      differ-filled_map t d m ss known (omega (arith, l)) inj a.1,
    )

-- where all slots have names none lacks one
lacked-own : (m n : List (ℕ × ℕ)) → ((p : ℕ × ℕ) → In p n → value_of m p.0 ≡ Some p.1) → lacked m (keys n) ≡ 0
lacked-own m [] h = refl
lacked-own m (p ∷ n) h =
    let one : lack (value_of m p.0) ≡ 0 = ap lack (h p (inl refl)) in
    omega (arith, one, lacked-own m n (λ q k. h q (inr k)))

-- and these are the names
named-own : (c : ℕ) (m n : List (ℕ × ℕ)) → ((p : ℕ × ℕ) → In p n → value_of m p.0 ≡ Some p.1) → named c m (keys n) ≡ values n
named-own c m [] h = refl
named-own c m (p ∷ n) h =
    λ i. ap (λ o. unwrap_or o (fresh_slot c)) (h p (inl refl)) i ∷ named-own (c + lack (value_of m p.0)) m n (λ q k. h q (inr k)) i

-- the id

-- a full id lacks no name
pub full-lacks_none : (nodes : List DTerm) (a : Applied) → IsFull nodes a → lacked a.1 (canonical_slots nodes a.0) ≡ 0
full-lacks_none nodes a full =
    ap (lacked a.1) (sym full.slots) ∙ lacked-own a.1 a.1 (λ p h. found-pair a.1 p.0 p.1 (full-ascending nodes a full) h)

-- a name that the id lacked is one of the next fresh slots
pub filled-fresh : (k : Kept) (c : ℕ) (a : Applied) (s x : ℕ) → In (s, x) (filled_id k c a).1 → ¬ In s (keys a.1) → IsFreshFrom c (c + missing k a) x
filled-fresh k c a s x h lacks =
    elim (of_filled_map c a.1 (canonical_slots (nodes_of k) a.0) s x h).1 [
      | inl e ↦ absurd (lacks (In-map (λ (p : ℕ × ℕ). p.0) a.1 (s, x) (pair-found a.1 s x e)))
      | inr f ↦ f.1
    ]

-- b is a with its missing names: different ones that the table does not know
pub record FillsNew (k : Kept) (t : Table) (a b : Applied) : Type 0 where
  pub class : b.0 ≡ a.0
  pub full : IsFull (nodes_of k) b
  pub keeps : (s x : ℕ) → In (s, x) a.1 → In (s, x) b.1
  pub unknown : (s x : ℕ) → In (s, x) b.1 → ¬ In s (keys a.1) → is_known t x ≡ false

pub filled-new : (k : Kept) (t : Table) (c : ℕ) (a : Applied) → IsFindable k a → Knows t (values a.1) → t.fresh ≤ c → FillsNew k t a (filled_id k c a)
filled-new k t c a v known l =
    let ss = canonical_slots (nodes_of k) a.0 in
    record {
      class = refl;
      full = record {
        in_range = v.in_range;
        slots = keys-filled_map c a.1 ss;
        injective = differ-filled_map t c a.1 ss known l v.injective (slots-ascending (nodes_of k) a.0);
      };
      keeps = λ s x h.
          let own : In s (keys a.1) = In-map (λ (p : ℕ × ℕ). p.0) a.1 (s, x) h in
          kept-pair c a.1 ss s x (found-pair a.1 s x v.ascending h) (In-Contains ss s (v.within s (Contains-In (keys a.1) s own)));
      unknown = λ s x h n.
          let f = filled-fresh k c a s x h n in
          ap (is_known t) f.is_slot ∙ fresh-unknown t f.index (omega (arith, l, f.from));
    }

-- renamed by what tells names apart, it is a filling by none of the names that no unknown slot is renamed to
pub new-renamed : (k : Kept) (t : Table) (a b : Applied) → FillsNew k t a b → (ρ : ℕ → ℕ) → IsInjective ρ → (given : List ℕ) → ((x : ℕ) → is_known t x ≡ false → ¬ In (ρ x) given) → IsFilling (nodes_of k) given (renamed_id ρ a) (renamed_id ρ b)
new-renamed k t a b f ρ inj given apart = record {
  class = f.class;
  full = full-renamed (nodes_of k) b f.full ρ (λ x y h g. inj x y);
  keeps = λ s x h.
      let r : (p : ℕ × ℕ) × In p a.1 × ((s, x) ≡ (p.0, ρ p.1)) = In-of_map (λ (p : ℕ × ℕ). (p.0, ρ p.1)) a.1 (s, x) (In-Contains (with_values ρ a.1) (s, x) h) in
      Contains-In (with_values ρ b.1) (s, x) (subst (λ q. In q (with_values ρ b.1)) (sym r.2) (In-map (λ (p : ℕ × ℕ). (p.0, ρ p.1)) b.1 r.0 (f.keeps r.0.0 r.0.1 r.1)));
  fresh = λ s x h n g.
      let r : (p : ℕ × ℕ) × In p b.1 × ((s, x) ≡ (p.0, ρ p.1)) = In-of_map (λ (p : ℕ × ℕ). (p.0, ρ p.1)) b.1 (s, x) (In-Contains (with_values ρ b.1) (s, x) h) in
      let lacks : ¬ In r.0.0 (keys a.1) = λ i. n (subst (Contains (keys (with_values ρ a.1))) (sym (ap (λ (p : ℕ × ℕ). p.0) r.2)) (subst (λ ks. Contains ks r.0.0) (sym (keys-with_values ρ a.1)) (Contains-In (keys a.1) r.0.0 i))) in
      apart r.0.1 (f.unknown r.0.0 r.0.1 r.1 lacks) (subst (λ y. In y given) (ap (λ (p : ℕ × ℕ). p.1) r.2) (In-Contains given x g));
}

-- known slots are none of the unknown ones
pub known-apart : (t : Table) (given : List ℕ) → Knows t given → (x : ℕ) → is_known t x ≡ false → ¬ In x given
known-apart t given known x e h = true≢false (sym (known x h) ∙ e)

renamed-itself : (a : Applied) → renamed_id (λ x. x) a ≡ a
renamed-itself a = ap (λ m. let b : Applied = (a.0, m) in b) (with_values-same (λ x. x) a.1 (λ x h. refl))

pub filled-fills : (k : Kept) (t : Table) (a : Applied) → IsFindable k a → FillsId k t a (filled_id k t.fresh a)
filled-fills k t a v known given given_known =
    let f = filled-new k t t.fresh a v (knows t (values a.1) known) (omega arith) in
    subst₂ (IsFilling (nodes_of k) given) (renamed-itself a) (renamed-itself (filled_id k t.fresh a))
    (new-renamed k t a (filled_id k t.fresh a) f (λ x. x) (λ x y e. e) given (known-apart t given (knows t given given_known)))

-- a full id stays
pub filled-whole : (k : Kept) (c : ℕ) (a : Applied) → IsFull (nodes_of k) a → filled_id k c a ≡ a
filled-whole k c a full =
    let own : (p : ℕ × ℕ) → In p a.1 → value_of a.1 p.0 ≡ Some p.1 = λ p h. found-pair a.1 p.0 p.1 (full-ascending (nodes_of k) a full) h in
    ap (λ m. let b : Applied = (a.0, m) in b)
    (ap (filled_map c a.1) (sym full.slots)
    ∙ (ap (zip (keys a.1)) (named-own c a.1 a.1 own) ∙ zip-keys_values a.1))

-- composites with maps in which the same is found at the values
composite-at : (A B C : List (ℕ × ℕ)) → ((x : ℕ) → In x (values A) → model.value_of B x ≡ model.value_of C x) → composite A B ≡ composite A C
composite-at [] B C e = refl
composite-at (p ∷ A) B C e =
    λ i. cons_option (option_map (λ u. (p.0, u)) (e p.1 (inl refl) i)) (composite-at A B C (λ x h. e x (inr h)) i)

-- it finds as the id does
pub filled-found : (k : Kept) (c : ℕ) (a : Applied) → IsFindable k a → find (entries_of k) a ≡ find (entries_of k) (filled_id k c a)
filled-found k c a v =
    let found = entries_of k in
    let ss = canonical_slots (nodes_of k) a.0 in
    let m = filled_map c a.1 ss in
    let ascends : IsAscending (keys m) = subst IsAscending (sym (keys-filled_map c a.1 ss)) (slots-ascending (nodes_of k) a.0) in
    let at : (x : ℕ) → In x (values (find_map found a.0)) → model.value_of a.1 x ≡ model.value_of m x =
    λ x h.
    let has = v.has_slots x (used-by found a.0 x (Contains-In (values_of (find_map found a.0)) x h)) in
    let slot : In x ss = In-Contains ss x (v.within x has) in
    elim (some-or_none (value_of a.1 x)) [
      | inl y ↦ sym (value_of-model a.1 x) ∙ (y.1 ∙ (sym (found-pair m x y.0 ascends (kept-pair c a.1 ss x y.0 y.1 slot)) ∙ value_of-model m x))
      | inr none ↦ absurd (true≢false (sym (subst IsSome none (In-value a.1 x (In-Contains (keys a.1) x has)))))
    ] in
    λ i. (find_class found a.0, composite-at (find_map found a.0) a.1 m at i)

-- the names of the answer are known to a table that made the fresh slots
pub filled-known : (k : Kept) (t u : Table) (c : ℕ) (a : Applied) → KnowsMore t u → c + missing k a ≤ u.fresh → Knows t (values a.1) → Knows u (values (filled_id k c a).1)
filled-known k t u c a more l known x h =
    let m = filled_map c a.1 (canonical_slots (nodes_of k) a.0) in
    let r : (p : ℕ × ℕ) × In p m × (x ≡ p.1) = In-of_map (λ (p : ℕ × ℕ). p.1) m x h in
    ap (is_known u) r.2 ∙ elim (of_filled_map c a.1 (canonical_slots (nodes_of k) a.0) r.0.0 r.0.1 r.1).1 [
      | inl e ↦ more r.0.1 (known r.0.1 (In-map (λ (p : ℕ × ℕ). p.1) a.1 (r.0.0, r.0.1) (pair-found a.1 r.0.0 r.0.1 e)))
      | inr f ↦ ap (is_known u) f.1.is_slot ∙ fresh-known u f.1.index (omega (arith, l, f.1.below))
    ]
