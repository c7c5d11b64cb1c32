-- What finds alike tells which slots a class uses: graphs that find alike alike have classes with the same slots.
use Rattle.std.proofs.Common.{◌≡◌, ◌≢◌, ◌↔◌, ℕ, ◌<◌, List, [], ◌∷◌, Option, false, get_or, drop, length, sym, ◌∙◌, ap, refl, subst, inl, inr, arith}
use Rattle.std.specs.Prelude.{Contains}
use Rattle.std.proofs.lemmas.Bool.{cases_Bool, false≢true}
use Rattle.slotted_lists.proofs.Contained.{Contains-map, above, Contains-below}
use Rattle.slotted_lists.proofs.Members.{In, In-Contains, Contains-In}
use Rattle.slotted_theory.specs.Nameless.{DTerm}
use Rattle.slotted_theory.specs.Renaming.{swapped}
use Rattle.slotted_theory.proofs.Bijections.{to-injective, swap, swapped-first, swapped-other}
use Rattle.slotted_theory.proofs.Equals.{Equal-through}
use Rattle.slotted_theory.specs.Derives.{Equal}
use Rattle.slotted_theory.specs.FiniteMaps.{with_values}
use Rattle.slotted_model.specs.Applied.{Applied, values, renamed_id}
use Rattle.slotted_model.specs.Classes.{canonical_slots, IsFull}
use Rattle.slotted_model.specs.Growth.{identity_id}
use Rattle.slotted_model.specs.Correspondence.{identity, has_slot}
use Rattle.slotted_model.specs.ProofList.{ProofEntry, asserted}
use Rattle.slotted_model.specs.Sound.{Sound}
use Rattle.slotted_model.specs.Closed.{IsClosed}
use Rattle.slotted_model.specs.Find.{Entry, find_map, used_slots, find, Linked}
use Rattle.slotted_model.proofs.Data.Sets.{IsAscending-ascending, same_members}
use Rattle.slotted_model.proofs.Represented.Full.{full-renamed}
use Rattle.slotted_model.proofs.Represented.Growing.{identity-full}
use Rattle.slotted_model.proofs.Finds.NormalIds.{found-same, found-renamed, full-is_valid, of_used}
use Rattle.slotted_model.proofs.Finds.Finding.{leads, find_map-partial}
use Rattle.slotted_model.proofs.Complete.Spreading.{has_slot-in, in-has_slot}
use Rattle.slotted_model.proofs.Finds.FindProofs.{full-found_alike, exact-holds}
use Rattle.slotted_model.proofs.Complete.CanonicalValues.{full-alike, plainly-alike}
use Rattle.slotted_model.proofs.Correspondences.Pairs.{Contains-value, Contains-of_value}
use Rattle.slotted_model.proofs.Correspondences.PartialInjections.{composite-by, identity-in_order, identity-by, identity-pair}

-- a map that a function leaves has no name that the function moves
pub unmoved-names : (f : ℕ → ℕ) (m : List (ℕ × ℕ)) → with_values f m ≡ m → (v : ℕ) → In v (values m) → f v ≡ v
unmoved-names f [] e v h = absurd h
unmoved-names f (p ∷ m) e v (inl q) = ap f q ∙ (ap (λ (l : List (ℕ × ℕ)). (get_or l 0 (0, 0)).1) e ∙ sym q)
unmoved-names f (p ∷ m) e v (inr h) = unmoved-names f m (ap (λ (l : List (ℕ × ℕ)). drop 1 l) e) v h

module _ (nodes : List DTerm) (found : List Entry) (linked : Linked nodes found) (i : ℕ) (h : i < length nodes) (s x : ℕ) (new : ¬ Contains (canonical_slots nodes i) x) where
  -- the class with its slots as names, and with x for s
  abbrev a : Applied
  a = identity_id nodes i

  abbrev b : Applied
  b = renamed_id (swapped s x) a

  full_a : IsFull nodes a
  full_a = identity-full nodes i h

  full_b : IsFull nodes b
  full_b = full-renamed nodes a full_a (swapped s x) (λ y z k l. to-injective (swap s x) y z)

  -- where the slot is not used, they find alike
  unused-alike : ¬ Contains (used_slots found i) s → find found a ≡ find found b
  unused-alike n = found-same nodes found linked a b (full-is_valid nodes found linked a full_a) (full-is_valid nodes found linked b full_b) refl
      (λ t y u c.
      let p : Contains (canonical_slots nodes i) t × (t ≡ y) = identity-pair (canonical_slots nodes i) t y c in
      let not_s : y ≢ s = λ q. n (subst (Contains (used_slots found i)) (p.1 ∙ q) u) in
      let not_x : y ≢ x = λ q. new (subst (Contains (canonical_slots nodes i)) (p.1 ∙ q) p.0) in
      let k : Contains b.1 (t, swapped s x y) = Contains-map (λ (q : ℕ × ℕ). (q.0, swapped s x q.1)) a.1 (t, y) c in
      subst (λ z. Contains b.1 (t, z)) (swapped-other s x y not_s not_x) k)

  -- where it is used, they do not
  alike-unused : find found a ≡ find found b → ¬ Contains (used_slots found i) s
  alike-unused e u =
      let r = Contains-of_value (find_map found i) s (of_used found i s u) in
      let slot : Contains (canonical_slots nodes i) s = (find_map-partial nodes found (leads nodes found linked) i h).within r.0 s r.1 in
      let pair : Contains (find found a).1 (r.0, s) =
      composite-by (canonical_slots nodes i) (find_map found i) (identity (canonical_slots nodes i)) (identity-in_order (canonical_slots nodes i)) r.0 s s r.1 (identity-by (canonical_slots nodes i) s slot) in
      let left : with_values (swapped s x) (find found a).1 ≡ (find found a).1 = ap (λ (y : Applied). y.1) (sym (e ∙ found-renamed found (swapped s x) a)) in
      let stays : swapped s x s ≡ s = unmoved-names (swapped s x) (find found a).1 left s (In-Contains (values (find found a).1) s (Contains-value (find found a).1 r.0 s pair)) in
      let same : x ≡ s = sym (swapped-first s x s refl) ∙ stays in
      new (subst (Contains (canonical_slots nodes i)) (sym same) slot)

module _ (nodes : List DTerm) (one other : List Entry) (linked : Linked nodes one) (others : Linked nodes other) where
  -- a class uses no more slots where more finds alike
  fewer-slots : ((a b : Applied) → IsFull nodes a → IsFull nodes b → find one a ≡ find one b → find other a ≡ find other b) → (i : ℕ) → i < length nodes → (s : ℕ) → Contains (used_slots other i) s → Contains (used_slots one i) s
  fewer-slots more i h s c =
      let x : ℕ = above (canonical_slots nodes i) in
      let new : ¬ Contains (canonical_slots nodes i) x = λ k. let l : x < x = Contains-below (canonical_slots nodes i) x k in omega arith in
      elim (cases_Bool (has_slot (used_slots one i) s)) [
        | inl t ↦ Contains-In (used_slots one i) s (has_slot-in (used_slots one i) s t)
        | inr f ↦
            let n : ¬ Contains (used_slots one i) s = λ k. false≢true (sym f ∙ in-has_slot (used_slots one i) s (In-Contains (used_slots one i) s k)) in
            let e : find other (identity_id nodes i) ≡ find other (renamed_id (swapped s x) (identity_id nodes i)) =
            more (identity_id nodes i) (renamed_id (swapped s x) (identity_id nodes i)) (full_a nodes one linked i h s x new) (full_b nodes one linked i h s x new) (unused-alike nodes one linked i h s x new n) in
            absurd (alike-unused nodes other others i h s x new e c)
      ]

-- graphs that find alike alike use the same slots
pub same-slots : (nodes : List DTerm) (one other : List Entry) → Linked nodes one → Linked nodes other → ((a b : Applied) → IsFull nodes a → IsFull nodes b → (find one a ≡ find one b) ↔ (find other a ≡ find other b)) →
    (i : ℕ) → i < length nodes → used_slots one i ≡ used_slots other i
same-slots nodes one other l o same i h =
    same_members (used_slots one i) (used_slots other i) (IsAscending-ascending (values (find_map one i))) (IsAscending-ascending (values (find_map other i)))
    (λ z. (
      λ k. In-Contains (used_slots other i) z (fewer-slots nodes other one o l (λ a b fa fb. (same a b fa fb).1) i h z (Contains-In (used_slots one i) z k)),
      λ k. In-Contains (used_slots one i) z (fewer-slots nodes one other l o (λ a b fa fb. (same a b fa fb).0) i h z (Contains-In (used_slots other i) z k)),
    ))

-- what finds alike in a sound graph finds alike in each closed graph of the same classes that knows its equations
pub half-agrees : (nodes : List DTerm) (one other : List Entry) (proofs : List ProofEntry) (E : List (DTerm × DTerm)) (look : DTerm → Option Applied) → Sound nodes one proofs → IsClosed nodes other E look (λ c. false) →
    ((d e : DTerm) → Contains (asserted nodes proofs) (d, e) → Equal E d e) → (a b : Applied) → IsFull nodes a → IsFull nodes b → find one a ≡ find one b → find other a ≡ find other b
half-agrees nodes one other proofs E look s closed known a b fa fb e =
    plainly-alike other a b
    (full-alike nodes s.canonical other E look (λ c. false) closed a b fa fb
    (Equal-through known (full-found_alike (asserted nodes proofs) nodes one s.linked (exact-holds nodes s.canonical one proofs s.proved s.exact) a b fa fb e)))
