-- When steps fit, by what their equations state.
use Rattle.std.proofs.Common.{◌≡◌, ◌↔◌, ℕ, ◌<◌, List, length, Bool, true, false, rules, refl, sym, ap, ◌∙◌, subst}
use Rattle.std.specs.Prelude.{IsTrue, ◌&&◌, nat_eq, not}
use Rattle.slotted_slots.specs.declared.types.AppliedId.{AppliedId}
use Rattle.slotted_theory.specs.FiniteMaps.{IsInjectiveMap, with_values}
use Rattle.slotted_model.specs.Applied.{Applied, keys}
use Rattle.slotted_model.specs.Correspondence.{AllDifferent, IsFullMap, IsPartialInjection, CanJoin, composite, turned, same_names}
use Rattle.slotted_model.proofs.Correspondences.FullMaps.{with_values-keys, same_names-partial, same_names-itself, same_names-turned}
use Rattle.slotted_model.proofs.Correspondences.Matching.{match_iff}
use Rattle.slotted_model.proofs.Correspondences.Middle.{middle_iff}
use Rattle.slotted_model.proofs.Correspondences.Restricting.{joined_maps}
use Rattle.slotted_proofs.specs.declared.equation.Equation.{Equation as Sides}
use Rattle.slotted_proofs.specs.Equations.{Statement, to_applied, equality, statement_of, reflexive_statement, AreSides, IsWritten}
use Rattle.slotted_proofs.specs.Entries.{Proven, Stands, statement_at}
use Rattle.slotted_proofs.specs.Steps.{AreFull, HasInjectiveSides, Matches, IsEntry, GoesOver, IsJoined, IsTransitiveStep}
use Rattle.slotted_proofs.proofs.Written.{stated, maps_eq, map_same, not_false, not_true}

-- an injective map takes keys to keys
match-keys : (m m' : List (ℕ × ℕ)) (f : ℕ → ℕ) → m' ≡ with_values f m → keys m ≡ keys m'
match-keys m m' f e = sym (ap keys e ∙ with_values-keys f m)

-- two equations match exactly if they state the same
module _ (a b c d : Applied) (fa : IsFullMap (keys a.1) a.1) (fb : IsFullMap (keys b.1) b.1) (fc : IsFullMap (keys c.1) c.1) (fd : IsFullMap (keys d.1) d.1) where
  pub matches-state : Matches a b c d → equality a b ≡ equality c d
  matches-state h =
      let P : keys a.1 ≡ keys c.1 = match-keys a.1 c.1 h.names.name h.names.left in
      let Q : keys b.1 ≡ keys d.1 = match-keys b.1 d.1 h.names.name h.names.right in
      let e : same_names a.1 b.1 ≡ same_names c.1 d.1 = (match_iff (keys a.1) (keys b.1) a.1 b.1 c.1 d.1 fa fb (subst (λ K. IsFullMap K c.1) (sym P) fc) (subst (λ K. IsFullMap K d.1) (sym Q) fd)).0 h.names in
      λ i. record { left_slots = P i; right_slots = Q i; equation = record { left = h.left i; right = h.right i; pairs = e i } }

  pub state-matches : equality a b ≡ equality c d → Matches a b c d
  state-matches h =
      let P : keys a.1 ≡ keys c.1 = ap (λ (s : Statement). s.left_slots) h in
      let Q : keys b.1 ≡ keys d.1 = ap (λ (s : Statement). s.right_slots) h in
      let e : same_names a.1 b.1 ≡ same_names c.1 d.1 = ap (λ (s : Statement). s.equation.pairs) h in
      record {
        left = ap (λ (s : Statement). s.equation.left) h;
        right = ap (λ (s : Statement). s.equation.right) h;
        names = (match_iff (keys a.1) (keys b.1) a.1 b.1 c.1 d.1 fa fb (subst (λ K. IsFullMap K c.1) (sym P) fc) (subst (λ K. IsFullMap K d.1) (sym Q) fd)).1 e;
      }

-- the sides of a written statement are full
pub own_left : (s : Statement) (a b : Applied) → AreSides s a b → IsFullMap (keys a.1) a.1
own_left s a b w = subst (λ K. IsFullMap K a.1) (sym w.left_full.slots) w.left_full

pub own_right : (s : Statement) (a b : Applied) → AreSides s a b → IsFullMap (keys b.1) b.1
own_right s a b w = subst (λ K. IsFullMap K b.1) (sym w.right_full.slots) w.right_full

pub own_sides_full : (s : Statement) (e : Sides) → IsWritten s e → AreFull e
own_sides_full s e w = record { left = own_left s (to_applied e.l) (to_applied e.r) w; right = own_right s (to_applied e.l) (to_applied e.r) w }

-- an entry matches exactly if it states the same
pub entry-states : (list : List Proven) (p : ℕ) (a b : Applied) → IsFullMap (keys a.1) a.1 → IsFullMap (keys b.1) b.1 → IsEntry list p a b → equality a b ≡ statement_at list p
entry-states list p a b fa fb h =
    matches-state a b h.left h.right fa fb (own_left (statement_at list p) h.left h.right h.written) (own_right (statement_at list p) h.left h.right h.written) h.matches
    ∙ stated (statement_at list p) h.left h.right h.written

pub states-entry : (list : List Proven) (p : ℕ) (a b c d : Applied) → IsFullMap (keys a.1) a.1 → IsFullMap (keys b.1) b.1 → p < length list → AreSides (statement_at list p) c d → equality a b ≡ statement_at list p → IsEntry list p a b
states-entry list p a b c d fa fb l w e = record {
  in_range = l;
  left = c;
  right = d;
  written = w;
  matches = state-matches a b c d fa fb (own_left (statement_at list p) c d w) (own_right (statement_at list p) c d w) (e ∙ sym (stated (statement_at list p) c d w));
}

-- and so it does if its written form stands there
pub entry_stands : (list : List Proven) (p : ℕ) (a b : Applied) (asked : Sides) → AreSides (equality a b) (to_applied asked.l) (to_applied asked.r) → IsInjectiveMap a.1 → IsInjectiveMap b.1 → Stands list (statement_of asked) p ↔ IsEntry list p a b
entry_stands list p a b asked w h k =
    let l : Applied = to_applied asked.l in
    let r : Applied = to_applied asked.r in
    let fa : IsFullMap (keys a.1) a.1 = record { slots = refl; once = w.left_full.once; injective = h } in
    let fb : IsFullMap (keys b.1) b.1 = record { slots = refl; once = w.right_full.once; injective = k } in
    let is : equality l r ≡ equality a b = stated (equality a b) l r w in (
      λ stands.
          let there : equality a b ≡ statement_at list p = sym (stands.statement ∙ is) in
          states-entry list p a b l r fa fb stands.in_range (subst (λ s. AreSides s l r) there w) there,
      λ entry. record { in_range = entry.in_range; statement = sym (entry-states list p a b fa fb entry) ∙ sym is },
    )

-- the comparison of applied ids
two_tests : (i j : ℕ) (b : Bool) {P : Type 0} → (IsTrue b ↔ P) → IsTrue (nat_eq i j && b) ↔ ((i ≡ j) × P)
two_tests i j b h = search rules

pub ids_agree : (a b : AppliedId) → false ≡ not (nat_eq a.id.0 b.id.0 && maps_eq a.m b.m) → to_applied a ≡ to_applied b
ids_agree a b e =
    let t : (a.id.0 ≡ b.id.0) × (a.m ≡ b.m) = (two_tests a.id.0 b.id.0 (maps_eq a.m b.m) (map_same a.m b.m)).0 (not_false (nat_eq a.id.0 b.id.0 && maps_eq a.m b.m) e) in
    λ i. (t.0 i, t.1 i)

pub ids_differ : (a b : AppliedId) → true ≡ not (nat_eq a.id.0 b.id.0 && maps_eq a.m b.m) → ¬ (to_applied a ≡ to_applied b)
ids_differ a b e h = not_true (nat_eq a.id.0 b.id.0 && maps_eq a.m b.m) e ((two_tests a.id.0 b.id.0 (maps_eq a.m b.m) (map_same a.m b.m)).1 (ap (λ (x : Applied). x.0) h, ap (λ (x : Applied). x.1) h))

-- equal sides state that a class equals itself
pub equal_sides : (a b c d : Applied) → IsInjectiveMap a.1 → a ≡ b → AreSides (reflexive_statement a.0 (keys a.1)) c d → reflexive_statement a.0 (keys a.1) ≡ equality a b
equal_sides a b c d h e w =
    let full : IsFullMap (keys a.1) a.1 = record { slots = refl; once = w.left_full.once; injective = h } in
    (λ i. record { left_slots = keys a.1; right_slots = keys a.1; equation = record { left = a.0; right = a.0; pairs = sym (same_names-itself (keys a.1) a.1 full) i } }) ∙ ap (equality a) e

-- what matches an entry on the left has a name of its own for each slot
pub left_full : (list : List Proven) (p : ℕ) (a b : Applied) → IsInjectiveMap a.1 → IsEntry list p a b → IsFullMap (keys a.1) a.1
left_full list p a b once h =
    let to_entry : keys a.1 ≡ keys h.left.1 = match-keys a.1 h.left.1 h.matches.names.name h.matches.names.left in
    record { slots = refl; once = subst AllDifferent (sym to_entry) (own_left (statement_at list p) h.left h.right h.written).once; injective = once }

-- the middle of a transitive step is over the slots of the part that ends there
pub middle_full : (list : List Proven) (p : ℕ) (a m : Applied) → IsInjectiveMap m.1 → IsEntry list p a m → IsFullMap (keys m.1) m.1
middle_full list p a m once h =
    let to_entry : keys m.1 ≡ keys h.right.1 = match-keys m.1 h.right.1 h.matches.names.name h.matches.names.right in
    record { slots = refl; once = subst AllDifferent (sym to_entry) (own_right (statement_at list p) h.left h.right h.written).once; injective = once }

-- what halves go over is full where they are
pub goes_over_full : (whole first second : Sides) → HasInjectiveSides whole → AreFull first → AreFull second → GoesOver (statement_of whole) (statement_of first) (statement_of second) → AreFull whole
goes_over_full whole first second once x y over = record {
  left = record { slots = refl; once = subst AllDifferent (sym over.begins.1) x.left.once; injective = once.left };
  right = record { slots = refl; once = subst AllDifferent (sym over.ends.1) y.right.once; injective = once.right };
}

-- a transitive step fits exactly if its halves can be joined
module _ (list : List Proven) (e f g : Sides) (p q : ℕ) (l : p < length list) (below : q < length list) (v : IsWritten (statement_at list p) f) (w : IsWritten (statement_at list q) g) (el : IsFullMap (keys e.l.m) e.l.m) (er : IsFullMap (keys e.r.m) e.r.m) where
  abbrev s : Statement
  s = statement_at list p

  abbrev t : Statement
  t = statement_at list q

  fl : IsFullMap (keys f.l.m) f.l.m
  fl = own_left s (to_applied f.l) (to_applied f.r) v

  fr : IsFullMap (keys f.r.m) f.r.m
  fr = own_right s (to_applied f.l) (to_applied f.r) v

  gl : IsFullMap (keys g.l.m) g.l.m
  gl = own_left t (to_applied g.l) (to_applied g.r) w

  gr : IsFullMap (keys g.r.m) g.r.m
  gr = own_right t (to_applied g.l) (to_applied g.r) w

  pub transitive-joined : IsTransitiveStep list e p q → IsJoined (statement_of e) (statement_of f) (statement_of g)
  transitive-joined h =
      let m : Applied = h.middle in
      let once : IsFullMap (keys m.1) m.1 = middle_full list p (to_applied e.l) m h.injective h.first in
      let first : equality (to_applied e.l) m ≡ equality (to_applied f.l) (to_applied f.r) = entry-states list p (to_applied e.l) m el once h.first ∙ sym (stated s (to_applied f.l) (to_applied f.r) v) in
      let second : equality m (to_applied e.r) ≡ equality (to_applied g.l) (to_applied g.r) = entry-states list q m (to_applied e.r) once er h.second ∙ sym (stated t (to_applied g.l) (to_applied g.r) w) in
      let P : keys e.l.m ≡ keys f.l.m = ap (λ (x : Statement). x.left_slots) first in
      let Q : keys m.1 ≡ keys f.r.m = ap (λ (x : Statement). x.right_slots) first in
      let Q' : keys m.1 ≡ keys g.l.m = ap (λ (x : Statement). x.left_slots) second in
      let R : keys e.r.m ≡ keys g.r.m = ap (λ (x : Statement). x.right_slots) second in (
        record {
          begins = (ap (λ (x : Statement). x.equation.left) first, P);
          meets = (sym (ap (λ (x : Statement). x.equation.right) first) ∙ ap (λ (x : Statement). x.equation.left) second, sym Q ∙ Q');
          ends = (ap (λ (x : Statement). x.equation.right) second, R);
        },
        (middle_iff (keys e.l.m) (keys f.r.m) (keys e.r.m) e.l.m e.r.m (same_names e.l.m e.r.m) (same_names f.l.m f.r.m) (same_names g.l.m g.r.m) el er refl fr.once
            (subst (λ K. IsPartialInjection K (keys f.r.m) (same_names f.l.m f.r.m)) (sym P) (same_names-partial (keys f.l.m) (keys f.r.m) f.l.m f.r.m fl fr))
            (subst (λ K. IsPartialInjection K (keys e.r.m) (same_names g.l.m g.r.m)) (sym Q' ∙ Q) (subst (λ K. IsPartialInjection (keys g.l.m) K (same_names g.l.m g.r.m)) (sym R) (same_names-partial (keys g.l.m) (keys g.r.m) g.l.m g.r.m gl gr)))).0
            (m.1, subst (λ K. IsFullMap K m.1) Q once, ap (λ (x : Statement). x.equation.pairs) first, ap (λ (x : Statement). x.equation.pairs) second),
      )

  pub joined-transitive : IsJoined (statement_of e) (statement_of f) (statement_of g) → IsTransitiveStep list e p q
  joined-transitive h =
      let P : keys e.l.m ≡ keys f.l.m = h.0.begins.1 in
      let Q : keys f.r.m ≡ keys g.l.m = h.0.meets.1 in
      let R : keys e.r.m ≡ keys g.r.m = h.0.ends.1 in
      let k : (k : List (ℕ × ℕ)) × IsFullMap (keys f.r.m) k × (same_names e.l.m k ≡ same_names f.l.m f.r.m) × (same_names k e.r.m ≡ same_names g.l.m g.r.m) = (middle_iff (keys e.l.m) (keys f.r.m) (keys e.r.m) e.l.m e.r.m (same_names e.l.m e.r.m) (same_names f.l.m f.r.m) (same_names g.l.m g.r.m) el er refl fr.once
      (subst (λ K. IsPartialInjection K (keys f.r.m) (same_names f.l.m f.r.m)) (sym P) (same_names-partial (keys f.l.m) (keys f.r.m) f.l.m f.r.m fl fr))
      (subst (λ K. IsPartialInjection K (keys e.r.m) (same_names g.l.m g.r.m)) (sym Q) (subst (λ K. IsPartialInjection (keys g.l.m) K (same_names g.l.m g.r.m)) (sym R) (same_names-partial (keys g.l.m) (keys g.r.m) g.l.m g.r.m gl gr)))).1 h.1 in
      let m : Applied = (f.r.id.0, k.0) in
      let own : IsFullMap (keys k.0) k.0 = subst (λ K. IsFullMap K k.0) (sym k.1.slots) k.1 in
      record {
        middle = m;
        injective = k.1.injective;
        first = states-entry list p (to_applied e.l) m (to_applied f.l) (to_applied f.r) el own l v
            ((λ i. record { left_slots = P i; right_slots = k.1.slots i; equation = record { left = h.0.begins.0 i; right = f.r.id.0; pairs = k.2 i } }) ∙ stated s (to_applied f.l) (to_applied f.r) v);
        second = states-entry list q m (to_applied e.r) (to_applied g.l) (to_applied g.r) own er below w
            ((λ i. record { left_slots = (k.1.slots ∙ Q) i; right_slots = R i; equation = record { left = h.0.meets.0 i; right = h.0.ends.0 i; pairs = k.3 i } }) ∙ stated t (to_applied g.l) (to_applied g.r) w);
      }

-- the same of an equation that has a name once on each side
pub transitive_told : (list : List Proven) (e f g : Sides) (p q : ℕ) → p < length list → q < length list → IsWritten (statement_at list p) f → IsWritten (statement_at list q) g → HasInjectiveSides e → IsTransitiveStep list e p q ↔ IsJoined (statement_of e) (statement_of f) (statement_of g)
transitive_told list e f g p q l k v w h = (
  λ t. transitive-joined list e f g p q l k v w (left_full list p (to_applied e.l) t.middle h.left t.first) (middle_full list q t.middle (to_applied e.r) h.right t.second) t,
  λ j. let full = goes_over_full e f g h (own_sides_full (statement_at list p) f v) (own_sides_full (statement_at list q) g w) j.0 in
      joined-transitive list e f g p q l k v w full.left full.right j,
)

-- the test of the code: the halves can be joined exactly if what goes over the middle is what is asked of the slots that they know
pub joined_pairs : (whole first second : Sides) → AreFull whole → AreFull first → AreFull second → GoesOver (statement_of whole) (statement_of first) (statement_of second) →
    CanJoin (same_names whole.l.m whole.r.m) (same_names first.l.m first.r.m) (same_names second.l.m second.r.m)
    ↔ ((composite (same_names first.l.m first.r.m) (same_names second.l.m second.r.m) ≡ composite (composite (same_names first.l.m first.r.m) (same_names first.r.m first.l.m)) (same_names whole.l.m whole.r.m))
    × (composite (same_names first.l.m first.r.m) (same_names second.l.m second.r.m) ≡ composite (composite (same_names whole.l.m whole.r.m) (same_names second.r.m second.l.m)) (same_names second.l.m second.r.m)))
joined_pairs whole first second x y z over =
    let P : List ℕ = keys first.l.m in
    let Q : List ℕ = keys second.l.m in
    let R : List ℕ = keys second.r.m in
    let A : List (ℕ × ℕ) = same_names whole.l.m whole.r.m in
    let A1 : List (ℕ × ℕ) = same_names first.l.m first.r.m in
    let A2 : List (ℕ × ℕ) = same_names second.l.m second.r.m in
    let m : IsFullMap P whole.l.m = subst (λ K. IsFullMap K whole.l.m) over.begins.1 x.left in
    let n : IsFullMap R whole.r.m = subst (λ K. IsFullMap K whole.r.m) over.ends.1 x.right in
    let k : IsFullMap Q first.r.m = subst (λ K. IsFullMap K first.r.m) over.meets.1 y.right in
    let back : same_names first.r.m first.l.m ≡ turned Q A1 = same_names-turned P Q first.l.m first.r.m y.left k in
    let back' : same_names second.r.m second.l.m ≡ turned R A2 = same_names-turned Q R second.l.m second.r.m z.left z.right in
    let j = joined_maps P Q R A A1 A2 (same_names-partial P R whole.l.m whole.r.m m n) (same_names-partial P Q first.l.m first.r.m y.left k) (same_names-partial Q R second.l.m second.r.m z.left z.right) in (
      λ h. let e = j.0 h in (e.0 ∙ (λ i. composite (composite A1 (sym back i)) A), e.1 ∙ (λ i. composite (composite A (sym back' i)) A2)),
      λ e. j.1 (e.0 ∙ (λ i. composite (composite A1 (back i)) A), e.1 ∙ (λ i. composite (composite A (back' i)) A2)),
    )
