-- Where a slot has no partner: in the congruence of a class whose node lacks a slot, and in the proof of a symmetry that is not aligned.
use Rattle.std.proofs.Common.{◌≡◌, ℕ, List, [], ◌∷◌, sym, ◌∙◌, subst, inl, inr}
use Rattle.std.specs.Prelude.{Contains, ◌⊎◌}
use Rattle.std.specs.Map.{keys_of, values_of}
use Rattle.slotted_lists.proofs.Contained.{contains_head, contains_tail, contains_cases, Contains-nil}
use Rattle.slotted_lists.proofs.Members.{In-Contains, Contains-In}
use Rattle.slotted_model.specs.Ascending.{ascending, names}
use Rattle.slotted_model.specs.Applied.{Applied}
use Rattle.slotted_model.specs.Classes.{canonical_slots, IsFull}
use Rattle.slotted_model.specs.Correspondence.{composite, turned, identity, same_names}
use Rattle.slotted_model.specs.Find.{find_class, find_map, used_slots, Linked}
use Rattle.slotted_model.specs.Link.{found_equation}
use Rattle.slotted_model.specs.ProofList.{Equation, equation_of, equation_at}
use Rattle.slotted_model.specs.State.{Symmetry, State, normal_node}
use Rattle.slotted_model.specs.Rest.{IsAligned, IsListed, Sane}
use Rattle.slotted_model.specs.Changes.{found_entry, PairsAll, Lacks}
use Rattle.slotted_model.specs.Rebuild.{IsCongruence}
use Rattle.slotted_model.proofs.Data.Sets.{ascending-same}
use Rattle.slotted_model.proofs.Rebuilding.Touching.{has_slot-cases}
use Rattle.slotted_model.proofs.Correspondences.Pairs.{Contains-key, Contains-value, Contains-of_key, Contains-of_value}
use Rattle.slotted_model.proofs.Correspondences.PartialInjections.{composite-over, composite-by, turned-pair, turned-by, pairs_on-in_order, identity-in_order, identity-pair, identity-by}
use Rattle.slotted_model.proofs.Correspondences.FullMaps.{full-one_name, same_names-by}
use Rattle.slotted_model.proofs.Correspondences.FullIds.{full_map}
use Rattle.slotted_model.proofs.Finds.Finding.{found_keys, find_map-full}
use Rattle.slotted_model.proofs.Finds.NormalIds.{of_used, used-by, found-name}
use Rattle.slotted_model.proofs.Rebuilding.FoundEntries.{found-used, shares-over}

-- each number of a list stands in another, or one does not
pub missing-cases : (xs ys : List ℕ) → ((s : ℕ) → Contains xs s → Contains ys s) ⊎ ((s : ℕ) × Contains xs s × (¬ Contains ys s))
missing-cases [] ys = inl (λ s c. absurd (Contains-nil s c))
missing-cases (x ∷ xs) ys = elim (has_slot-cases ys x) [
  | inl h ↦ elim (missing-cases xs ys) [
    | inl all ↦ inl (λ s c. elim (contains_cases x xs s c) [
      | inl e ↦ subst (Contains ys) (sym e) h.0
      | inr k ↦ all s k
    ])
    | inr m ↦ inr (m.0, contains_tail x xs m.0 m.1, m.2)
  ]
  | inr n ↦ inr (x, contains_head x xs, n.0)
]

-- a slot lacks a partner, or all have one
pub lacks-cases : (g : State) (e : Equation) → Lacks g e ⊎ PairsAll g e
lacks-cases g e = elim (missing-cases (used_slots g.found e.left) (keys_of e.pairs)) [
  | inl l ↦ elim (missing-cases (used_slots g.found e.right) (values_of e.pairs)) [
    | inl r ↦ inr (record { left = l; right = r })
    | inr m ↦ inl (inr m)
  ]
  | inr m ↦ inl (inl m)
]

-- in the congruence of a class with itself the slots that the node lacks have no partner
pub narrow-lacks : (g : State) → Sane g → (o p s : ℕ) → Contains (used_slots g.found o) s → ¬ Contains (names (normal_node g o)) s → IsCongruence g p o o → Lacks g (found_entry g p)
narrow-lacks g sane o p s used lacks c =
    let linked : Linked g.nodes g.found = sane.sound.linked in
    let a : Applied = c.left in
    let b : Applied = c.right in
    let fa : IsFull g.nodes a = c.left_full in
    let fb : IsFull g.nodes b = c.twins.full in
    let φ : List (ℕ × ℕ) = find_map g.found a.0 in
    let w = Contains-of_value φ s (of_used g.found a.0 s (subst (λ i. Contains (used_slots g.found i) s) (sym c.left_class) used)) in
    let t : ℕ = w.0 in
    let full = find_map-full g.nodes g.found linked a.0 fa.in_range in
    let t_used : Contains (used_slots g.found (find_class g.found a.0)) t = subst (λ K. Contains K t) (full.slots ∙ found-used g.nodes g.found linked a.0 fa.in_range) (Contains-key φ t s w.1) in
    let none : ¬ Contains (keys_of (found_equation g.nodes g.found (equation_of a b)).pairs) t =
    λ k.
    let r = Contains-of_key (found_equation g.nodes g.found (equation_of a b)).pairs t k in
    let x = shares-over g.nodes g.found linked a b fa fb t r.0 r.1 in
    let m = found-name g.found a t x.0 x.1 in
    let n = found-name g.found b r.0 x.0 x.2 in
    let e : m.0 ≡ s = full-one_name (found_keys g.nodes g.found linked a.0) φ full t m.0 s m.1 w.1 in
    let pair : Contains (same_names a.1 b.1) (s, n.0) = same_names-by (canonical_slots g.nodes b.0) a.1 b.1 (full_map g.nodes b fb) s n.0 x.0 (subst (λ z. Contains a.1 (z, x.0)) e m.2) n.2 in
    lacks (subst (λ i. Contains (names (normal_node g i)) s) c.left_class ((c.twins.left_names s).0 (Contains-key (same_names a.1 b.1) s n.0 pair))) in
    subst (λ e. Lacks g (found_equation g.nodes g.found e)) (sym c.stands.1) (inl (t, t_used, none))

-- two lists with the same members have one ascending list
pub same-ascending : (xs ys : List ℕ) → ((z : ℕ) → Contains xs z → Contains ys z) → ((z : ℕ) → Contains ys z → Contains xs z) → ascending xs ≡ ascending ys
same-ascending xs ys f h = ascending-same xs ys (λ z. (λ k. In-Contains ys z (f z (Contains-In xs z k)), λ k. In-Contains xs z (h z (Contains-In ys z k))))

-- a listed symmetry is aligned if in what its proof says of the found class no slot lacks a partner
module _ (g : State) (sane : Sane g) (y : Symmetry) (l : IsListed g y) where
  abbrev linked : Linked g.nodes g.found
  linked = sane.sound.linked

  abbrev A : List (ℕ × ℕ)
  A = (equation_at g.proofs y.proof).pairs

  abbrev φ : List (ℕ × ℕ)
  φ = find_map g.found y.class

  abbrev S : List ℕ
  S = y.slots

  abbrev B : List (ℕ × ℕ)
  B = turned S y.pairs

  -- the equation of the proof, of the class of the symmetry
  abbrev own : Equation
  own = record { left = y.class; right = y.class; pairs = A }

  own-is : equation_at g.proofs y.proof ≡ own
  own-is = λ i. record { left = (l.exact i).left; right = (l.exact i).right; pairs = A }

  abbrev says : Equation
  says = found_equation g.nodes g.found own

  one : (t z w : ℕ) → Contains φ (t, z) → Contains φ (t, w) → z ≡ w
  one t z w c d = full-one_name (found_keys g.nodes g.found linked y.class) φ (find_map-full g.nodes g.found linked y.class l.in_range) t z w c d

  listed-slot : (t z : ℕ) → Contains φ (t, z) → Contains S z
  listed-slot t z c = l.used z (used-by g.found y.class z (Contains-value φ t z c))

  class-slot : (t z : ℕ) → Contains φ (t, z) → Contains (used_slots g.found (find_class g.found y.class)) t
  class-slot t z c = subst (λ K. Contains K t) ((find_map-full g.nodes g.found linked y.class l.in_range).slots ∙ found-used g.nodes g.found linked y.class l.in_range) (Contains-key φ t z c)

  -- a pair of what the proof says goes over a pair of the symmetry
  over-pair : (t t' z w : ℕ) → Contains says.pairs (t, t') → Contains φ (t, z) → Contains φ (t', w) → Contains y.pairs (z, w)
  over-pair t t' z w c d e =
      let r = composite-over (composite φ A) (turned (canonical_slots g.nodes y.class) φ) t t' c in
      let q = composite-over φ A t r.0 r.1 in
      let k = turned-pair (canonical_slots g.nodes y.class) φ t' r.0 r.2 in
      let zq : q.0 ≡ z = one t q.0 z q.1 d in
      let wr : r.0 ≡ w = one t' r.0 w k e in
      subst (λ (x : Equation). Contains x.pairs (z, w)) l.exact (subst (λ x. Contains A (x, w)) zq (subst (λ x. Contains A (q.0, x)) wr q.2))

  all-aligned : PairsAll g says → IsAligned g y
  all-aligned all = same-ascending (values_of (composite φ (identity S))) (values_of (composite φ B)) forth back
    where
      right-partner : (t t' : ℕ) → Contains says.pairs (t, t') → (w : ℕ) × Contains φ (t', w)
      right-partner t t' c =
          let r = composite-over (composite φ A) (turned (canonical_slots g.nodes y.class) φ) t t' c in
          (r.0, turned-pair (canonical_slots g.nodes y.class) φ t' r.0 r.2)

      left-partner : (t t' : ℕ) → Contains says.pairs (t, t') → (z : ℕ) × Contains φ (t, z)
      left-partner t t' c =
          let r = composite-over (composite φ A) (turned (canonical_slots g.nodes y.class) φ) t t' c in
          let q = composite-over φ A t r.0 r.1 in
          (q.0, q.1)

      forth : (z : ℕ) → Contains (values_of (composite φ (identity S))) z → Contains (values_of (composite φ B)) z
      forth z c =
          let k = Contains-of_value (composite φ (identity S)) z c in
          let t : ℕ = k.0 in
          let r = composite-over φ (identity S) t z k.1 in
          let e = identity-pair S r.0 z r.2 in
          let d : Contains φ (t, z) = subst (λ x. Contains φ (t, x)) e.1 r.1 in
          let q = Contains-of_key says.pairs t (all.left t (class-slot t z d)) in
          let w = right-partner t q.0 q.1 in
          let b : Contains y.pairs (z, w.0) = over-pair t q.0 z w.0 q.1 d w.1 in
          Contains-value (composite φ B) q.0 z (composite-by S φ B (pairs_on-in_order S _) q.0 w.0 z w.1 (turned-by S S y.pairs l.bijection z w.0 b))

      back : (z : ℕ) → Contains (values_of (composite φ B)) z → Contains (values_of (composite φ (identity S))) z
      back z c =
          let k = Contains-of_value (composite φ B) z c in
          let t' : ℕ = k.0 in
          let r = composite-over φ B t' z k.1 in
          let w : ℕ = r.0 in
          let b : Contains y.pairs (z, w) = turned-pair S y.pairs z w r.2 in
          let q = Contains-of_value says.pairs t' (all.right t' (class-slot t' w r.1)) in
          let u = left-partner q.0 t' q.1 in
          let e : u.0 ≡ z = l.bijection.injective u.0 z w (over-pair q.0 t' u.0 w q.1 u.1 r.1) b in
          let d : Contains φ (q.0, z) = subst (λ x. Contains φ (q.0, x)) e u.1 in
          Contains-value (composite φ (identity S)) q.0 z (composite-by S φ (identity S) (identity-in_order S) q.0 z z d (identity-by S z (listed-slot q.0 z d)))

  -- so in the proof of one that is not aligned a slot lacks a partner
  pub unaligned-lacks : ¬ IsAligned g y → Lacks g (found_entry g y.proof)
  unaligned-lacks n = elim (lacks-cases g (found_entry g y.proof)) [
    | inl m ↦ m
    | inr all ↦ absurd (n (all-aligned (subst (λ e. PairsAll g (found_equation g.nodes g.found e)) own-is all)))
  ]
