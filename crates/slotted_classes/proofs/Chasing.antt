-- Following the entries from a class to the one that it finds.
use Rattle.std.proofs.Common.{◌≡◌, ◌≢◌, ◌<◌, ℕ, suc, ◌-◌, Option, Some, None, List, length, cond, sym, ◌∙◌, ap, refl, subst, inl, inr, arith}
use Rattle.std.specs.Prelude.{◌↔◌, Contains, IsTrue, nat_eq, slice_index_or, is_some, Bool, true, false, not}
use Rattle.std.specs.Option.{option_eq}
use Rattle.std.specs.Map.{keys_of, values_of}
use Rattle.std.proofs.lemmas.Bool.{cases_eq, eq-eqb, ne_eqb, false≢true}
use Rattle.slotted_lists.proofs.Members.{In-Contains, Contains-In}
use Rattle.slotted_lists.proofs.Options.{Some-same, same_options}
use Rattle.slotted_theory.specs.FiniteMaps.{value_of}
use Rattle.slotted_slots.specs.Maps as slots
use Rattle.slotted_theory.specs.Nameless.{DTerm}
use Rattle.slotted_model.specs.Applied.{Applied, keys}
use Rattle.slotted_model.specs.Classes.{canonical_slots}
use Rattle.slotted_model.specs.Correspondence.{IsFullMap, pairs_on, composite, identity}
use Rattle.slotted_model.specs.Find.{Entry, entry_at, IsLive, find_class, find_map, find, Linked}
use Rattle.slotted_model.proofs.Correspondences.Pairs.{Contains-composite, Contains-of_value, Contains-value, Contains-value_of}
use Rattle.slotted_model.proofs.Correspondences.PartialInjections.{value_of-in_order, composite-in_order, composite-over}
use Rattle.slotted_model.proofs.Correspondences.FullMaps.{full-in_order, full-ext, full-slot}
use Rattle.slotted_model.proofs.Data.Options.{None-Some}
use Rattle.slotted_model.proofs.Finds.Finding.{leads, find_class-live, find_map-live, find_class-follows, find_map-follows, find_map-partial, found-live, found_keys, find_map-full}
use Rattle.slotted_model.proofs.Finds.NormalIds.{values-identity, valid-map, found-full, used-by, of_used}
use Rattle.slotted_languages.proofs.Counting.{In-value}
use Rattle.slotted_proofs.proofs.Bridges.{value_of-model}
use Rattle.slotted_classes.specs.Finding.{HasFinds, HasFoundName, HasFoundNames, IsFindable}
use Rattle.slotted_classes.specs.Kept.{Kept, find_at, nodes_of, entries_of}
use Rattle.slotted_classes.proofs.KeptLists.{entry_at-of, length-nodes_of}
use Rattle.slotted_classes.proofs.NameMaps.{at_In, key-In}

-- what a composite has at a key
pub composite-some : (P Q : List ℕ) (A B : List (ℕ × ℕ)) → pairs_on P (value_of A) ≡ A → pairs_on Q (value_of B) ≡ B → (s t : ℕ) → value_of A s ≡ Some t → value_of (composite A B) s ≡ value_of B t
composite-some P Q A B a b s t e = same_options (value_of (composite A B) s) (value_of B t)
    (λ u h.
    let r = composite-over A B s u (Contains-value_of (composite A B) s u h) in
    let same : r.0 ≡ t = Some-same r.0 t (sym (value_of-in_order P A a s r.0 r.1) ∙ e) in
    ap (value_of B) (sym same) ∙ value_of-in_order Q B b r.0 u r.2)
    (λ u h. value_of-in_order P (composite A B) (composite-in_order P A B a) s u (Contains-composite A B s t u (Contains-value_of A s t e) h))

pub composite-none : (P : List ℕ) (A B : List (ℕ × ℕ)) → pairs_on P (value_of A) ≡ A → (s : ℕ) → value_of A s ≡ None → value_of (composite A B) s ≡ None
composite-none P A B a s e = same_options (value_of (composite A B) s) None
    (λ u h.
    let r = composite-over A B s u (Contains-value_of (composite A B) s u h) in
    absurd (None-Some r.0 (sym e ∙ value_of-in_order P A a s r.0 r.1)))
    (λ u h. absurd (None-Some u h))

-- how far a class is from the one that it finds: the moments that are left after its death
abbrev pub moments_left : Kept → ℕ → ℕ
moments_left k i = cond (nat_eq (find_at k i).class i) 0 (suc k.moment - (find_at k i).died)

module _ (k : Kept) (good : HasFinds k) where
  abbrev nodes : List DTerm
  nodes = nodes_of k

  abbrev found : List Entry
  found = entries_of k

  abbrev linked : Linked nodes found
  linked = good.linked

  in_nodes : (i : ℕ) → i < length k.classes → i < length nodes
  in_nodes i l = let n : length nodes ≡ length k.classes = length-nodes_of k in omega arith

  of_nodes : (i : ℕ) → i < length nodes → i < length k.classes
  of_nodes i l = let n : length nodes ≡ length k.classes = length-nodes_of k in omega arith

  -- the class of an entry, read off what is kept
  is_live : (i : ℕ) → (find_at k i).class ≡ i → IsLive found i
  is_live i e = ap (λ (x : Entry). x.class) (entry_at-of k i) ∙ e

  of_live : (i : ℕ) → IsLive found i → (find_at k i).class ≡ i
  of_live i e = sym (ap (λ (x : Entry). x.class) (entry_at-of k i)) ∙ e

  pub next_within : (i : ℕ) → i < length k.classes → (find_at k i).class < length k.classes
  next_within i l = of_nodes (find_at k i).class (subst (λ (x : Entry). x.class < length nodes) (entry_at-of k i) (linked.in_range i (in_nodes i l)))

  died_before : (i : ℕ) → i < length k.classes → (find_at k i).class ≢ i → (find_at k i).died < k.moment
  died_before i l n =
      subst (λ (x : Entry). x.died < k.moment) (entry_at-of k i)
      (good.later i (let a : length found ≡ length nodes = linked.entries in let b : i < length nodes = in_nodes i l in omega arith) (λ h. n (of_live i h)))

  left-live : (i : ℕ) → (find_at k i).class ≡ i → moments_left k i ≡ 0
  left-live i e = ap (λ b. cond b 0 (suc k.moment - (find_at k i).died)) (eq-eqb (find_at k i).class i e)

  left-dead : (i : ℕ) → (find_at k i).class ≢ i → moments_left k i ≡ suc k.moment - (find_at k i).died
  left-dead i n = ap (λ b. cond b 0 (suc k.moment - (find_at k i).died)) (ne_eqb (find_at k i).class i n)

  -- the next class is nearer
  pub nearer : (i : ℕ) → i < length k.classes → (find_at k i).class ≢ i → moments_left k (find_at k i).class < moments_left k i
  nearer i l n =
      let j : ℕ = (find_at k i).class in
      let di : (find_at k i).died < k.moment = died_before i l n in
      let ei : moments_left k i ≡ suc k.moment - (find_at k i).died = left-dead i n in
      elim (cases_eq (find_at k j).class j) [
        | inl e ↦ let ej : moments_left k j ≡ 0 = left-live j e in omega arith
        | inr m ↦
            let ej : moments_left k j ≡ suc k.moment - (find_at k j).died = left-dead j m in
            let dj : (find_at k j).died < k.moment = died_before j (next_within i l) m in
            elim (linked.ends i (in_nodes i l)) [
              | inl h ↦ absurd (m (of_live j (subst (λ (x : Entry). IsLive found x.class) (entry_at-of k i) h)))
              | inr h ↦
                  let later : (find_at k i).died < (find_at k j).died =
                  subst (λ (x : Entry). x.died < (find_at k j).died) (entry_at-of k i)
                  (subst (λ (y : Entry). (entry_at found i).died < y.died) (entry_at-of k j) (subst (λ (x : Entry). (entry_at found i).died < (entry_at found x.class).died) (entry_at-of k i) h)) in
                  omega arith
            ]
      ]

  -- the class that is found
  pub class-live : (i : ℕ) → i < length k.classes → (find_at k i).class ≡ i → find_class found i ≡ i
  class-live i l e = find_class-live nodes found (leads nodes found linked) i (in_nodes i l) (is_live i e)

  pub class-next : (i : ℕ) → i < length k.classes → find_class found i ≡ find_class found (find_at k i).class
  class-next i l = find_class-follows nodes found (leads nodes found linked) i (in_nodes i l) ∙ ap (λ (x : Entry). find_class found x.class) (entry_at-of k i)

  pub class-lives : (i : ℕ) → i < length k.classes → IsLive found (find_class found i)
  class-lives i l = found-live nodes found (leads nodes found linked) i (in_nodes i l)

  -- its slots
  pub map-live : (i : ℕ) → i < length k.classes → (find_at k i).class ≡ i → find_map found i ≡ (find_at k i).pairs
  map-live i l e = find_map-live nodes found (leads nodes found linked) i (in_nodes i l) (is_live i e) ∙ ap (λ (x : Entry). x.pairs) (entry_at-of k i)

  pub map-next : (i : ℕ) → i < length k.classes → find_map found i ≡ composite (find_map found (find_at k i).class) (find_at k i).pairs
  map-next i l = find_map-follows nodes found (leads nodes found linked) i (in_nodes i l) ∙ ap (λ (x : Entry). composite (find_map found x.class) x.pairs) (entry_at-of k i)

  map-ordered : (i : ℕ) → i < length k.classes → pairs_on (canonical_slots nodes (find_class found i)) (value_of (find_map found i)) ≡ find_map found i
  map-ordered i l = (find_map-partial nodes found (leads nodes found linked) i (in_nodes i l)).in_order

  entry-ordered : (i : ℕ) → i < length k.classes → pairs_on (canonical_slots nodes (find_at k i).class) (value_of (find_at k i).pairs) ≡ (find_at k i).pairs
  entry-ordered i l = subst (λ (x : Entry). pairs_on (canonical_slots nodes x.class) (value_of x.pairs) ≡ x.pairs) (entry_at-of k i) (linked.maps i (in_nodes i l)).in_order

  -- what the code reads, slot by slot

  pub slot-live : (i s : ℕ) → i < length k.classes → (find_at k i).class ≡ i → (o : Option ℕ) (m : List (ℕ × ℕ)) → m ≡ (find_at k i).pairs → o ≡ slots.value_of m s → o ≡ value_of (find_map found i) s
  slot-live i s l e o m em eo = eo ∙ (value_of-model m s ∙ ap (λ x. value_of x s) (em ∙ sym (map-live i l e)))

  pub slot-next : (i s t : ℕ) → i < length k.classes → Some t ≡ value_of (find_map found (find_at k i).class) s → (o : Option ℕ) (m : List (ℕ × ℕ)) → m ≡ (find_at k i).pairs → o ≡ slots.value_of m t → o ≡ value_of (find_map found i) s
  slot-next i s t l h o m em eo =
      let j : ℕ = (find_at k i).class in
      eo ∙ (value_of-model m t ∙ (ap (λ x. value_of x t) em
      ∙ (sym (composite-some (canonical_slots nodes (find_class found j)) (canonical_slots nodes j) (find_map found j) (find_at k i).pairs (map-ordered j (next_within i l)) (entry-ordered i l) s t (sym h))
      ∙ ap (λ x. value_of x s) (sym (map-next i l)))))

  pub slot-none : (i s : ℕ) → i < length k.classes → None ≡ value_of (find_map found (find_at k i).class) s → None ≡ value_of (find_map found i) s
  slot-none i s l h =
      let j : ℕ = (find_at k i).class in
      sym (composite-none (canonical_slots nodes (find_class found j)) (find_map found j) (find_at k i).pairs (map-ordered j (next_within i l)) s (sym h))
      ∙ ap (λ x. value_of x s) (sym (map-next i l))

  -- the names of an id at the slots that it finds
  module _ (a : Applied) (valid : IsFindable k a) where
    within : a.0 < length k.classes
    within = of_nodes a.0 valid.in_range

    pub name-some : (s t : ℕ) → Some t ≡ value_of (find_map found a.0) s → (o : Option ℕ) → o ≡ slots.value_of a.1 t → o ≡ value_of (find found a).1 s
    name-some s t h o e =
        e ∙ (value_of-model a.1 t
        ∙ sym (composite-some (canonical_slots nodes (find_class found a.0)) (keys a.1) (find_map found a.0) a.1 (map-ordered a.0 within) (full-in_order (keys a.1) a.1 (valid-map nodes found linked a valid)) s t (sym h)))

    pub name-none : (s : ℕ) → None ≡ value_of (find_map found a.0) s → None ≡ value_of (find found a).1 s
    name-none s h = sym (composite-none (canonical_slots nodes (find_class found a.0)) (find_map found a.0) a.1 (map-ordered a.0 within) s (sym h))

    pub found_map-full : IsFullMap (found_keys nodes found linked a.0) (find found a).1
    found_map-full = found-full nodes found linked a valid

  -- the slots of a live class stand for themselves
  live-values : (c : ℕ) → c < length k.classes → IsLive found c → values_of (find_at k c).pairs ≡ keys_of (find_at k c).pairs
  live-values c l h =
      let e : (find_at k c).pairs ≡ identity (keys_of (find_at k c).pairs) = subst (λ (x : Entry). x.pairs ≡ identity (keys_of x.pairs)) (entry_at-of k c) (linked.live c (in_nodes c l) h) in
      ap values_of e ∙ values-identity (keys_of (find_at k c).pairs)

  -- what is asked of the keys of an id, slot by slot of the class that it finds
  module _ (a : Applied) (within : a.0 < length k.classes) where
    abbrev map : List (ℕ × ℕ)
    map = find_map found a.0

    pub has-name : (t s : ℕ) → Some s ≡ value_of map t → (y : Bool) → y ≡ is_some (slots.value_of a.1 s) → IsTrue y ↔ HasFoundName k a t
    has-name t s e y is = (
      λ h u c.
          let same : s ≡ u = Some-same s u (e ∙ value_of-in_order (canonical_slots nodes (find_class found a.0)) map (map-ordered a.0 within) t u c) in
          subst (Contains (keys a.1)) same (Contains-In (keys a.1) s (key-In a.1 s (sym is ∙ h))),
      λ h. is ∙ In-value a.1 s (In-Contains (keys a.1) s (h s (Contains-value_of map t s (sym e)))),
    )

    pub no-name : (t : ℕ) → None ≡ value_of map t → HasFoundName k a t
    no-name t e u c = absurd (None-Some u (e ∙ value_of-in_order (canonical_slots nodes (find_class found a.0)) map (map-ordered a.0 within) t u c))

    pub each-name : HasFoundNames k a → (t : ℕ) → HasFoundName k a t
    each-name h t s c = h s (used-by found a.0 s (Contains-value map t s c))

    pub all-names : (c : ℕ) → c ≡ find_class found a.0 → c < length k.classes → (m : List (ℕ × ℕ)) → m ≡ (find_at k c).pairs → ((j d : ℕ) → j < length (values_of m) → HasFoundName k a (slice_index_or (values_of m) j d)) → HasFoundNames k a
    all-names c e l m em h s u =
        let r = Contains-of_value map s (of_used found a.0 s u) in
        let K : List ℕ = found_keys nodes found linked a.0 in
        let d : Contains K r.0 = full-slot K map (find_map-full nodes found linked a.0 (in_nodes a.0 within)) r.0 s r.1 in
        let d' : Contains (keys_of (find_at k (find_class found a.0)).pairs) r.0 = subst (λ (y : Entry). Contains (keys_of y.pairs) r.0) (entry_at-of k (find_class found a.0)) d in
        let live : IsLive found c = subst (IsLive found) (sym e) (class-lives a.0 within) in
        let same : keys_of (find_at k (find_class found a.0)).pairs ≡ values_of m = ap (λ i. keys_of (find_at k i).pairs) (sym e) ∙ (sym (live-values c l live) ∙ ap values_of (sym em)) in
        at_In (HasFoundName k a) (values_of m) h r.0 (In-Contains (values_of m) r.0 (subst (λ S. Contains S r.0) same d')) s r.1

  -- ids that find one class find alike exactly if they have the same names at its slots
  pub same-names : (a b : Applied) → IsFindable k a → IsFindable k b → find_class found a.0 ≡ find_class found b.0 → ((s : ℕ) → Contains (keys_of (find_at k (find_class found a.0)).pairs) s → value_of (find found a).1 s ≡ value_of (find found b).1 s) → find found a ≡ find found b
  same-names a b fa fb e same =
      let K : List ℕ = found_keys nodes found linked a.0 in
      let ma : IsFullMap K (find found a).1 = found_map-full a fa in
      let mb : IsFullMap K (find found b).1 = subst (λ c. IsFullMap (keys_of (entry_at found c).pairs) (find found b).1) (sym e) (found_map-full b fb) in
      let m : (find found a).1 ≡ (find found b).1 = full-ext K (find found a).1 (find found b).1 ma mb
      (λ s x c.
      let h : Contains (keys_of (find_at k (find_class found a.0)).pairs) s = subst (λ (y : Entry). Contains (keys_of y.pairs) s) (entry_at-of k (find_class found a.0)) (full-slot K (find found a).1 ma s x c) in
      Contains-value_of (find found b).1 s x (sym (same s h) ∙ value_of-in_order K (find found a).1 (full-in_order K (find found a).1 ma) s x c)) in
      λ i. (e i, m i)

  -- the same where the slots are gone through in order
  pub same-names_at : (a b : Applied) → IsFindable k a → IsFindable k b → (c : ℕ) → c ≡ find_class found a.0 → c ≡ find_class found b.0 → c < length k.classes → (m : List (ℕ × ℕ)) → m ≡ (find_at k c).pairs → ((j d : ℕ) → j < length (values_of m) → value_of (find found a).1 (slice_index_or (values_of m) j d) ≡ value_of (find found b).1 (slice_index_or (values_of m) j d)) → find found a ≡ find found b
  same-names_at a b fa fb c ca cb l m em h =
      same-names a b fa fb (sym ca ∙ cb) (λ s d.
      let live : IsLive found c = subst (IsLive found) (sym ca) (class-lives a.0 (of_nodes a.0 fa.in_range)) in
      let e : keys_of (find_at k (find_class found a.0)).pairs ≡ values_of m = ap (λ i. keys_of (find_at k i).pairs) (sym ca) ∙ (sym (live-values c l live) ∙ ap values_of (sym em)) in
      at_In (λ x. value_of (find found a).1 x ≡ value_of (find found b).1 x) (values_of m) h s (In-Contains (values_of m) s (subst (λ S. Contains S s) e d)))

-- what the code's comparison of two options says
pub option_same : {E : ℕ → ℕ → Bool} → ((a b : ℕ) → E a b ≡ true → a ≡ b) → (x y : Option ℕ) → not (option_eq E x y) ≡ false → x ≡ y
option_same h None None e = refl
option_same h None (Some y) e = absurd (false≢true (sym e))
option_same h (Some x) None e = absurd (false≢true (sym e))
option_same {E} h (Some x) (Some y) e = ap Some (h x y (not_false (E x y) e))
  where
    not_false : (b : Bool) → not b ≡ false → b ≡ true
    not_false true p = refl
    not_false false p = absurd (false≢true (sym p))
