-- The sides of a listed symmetry as the code has them are those of the mathematics under one renaming: so both are aligned alike.
use Rattle.std.proofs.Common.{◌≡◌, ◌↔◌, ℕ, List, sym, ◌∙◌, ap, subst}
use Rattle.std.specs.Prelude.{Contains}
use Rattle.std.specs.Map.{keys_of}
use Rattle.slotted_lists.proofs.Members.{In-Contains, Contains-In}
use Rattle.slotted_lists.proofs.Maps.{with_values-pair}
use Rattle.slotted_theory.specs.FiniteMaps.{filled, with_values}
use Rattle.slotted_theory.proofs.Filled.{filled-injective}
use Rattle.slotted_model.specs.Applied.{Applied, keys, values, renamed_id}
use Rattle.slotted_model.specs.Correspondence.{IsFullMap, IsPartialInjection, turned}
use Rattle.slotted_model.specs.Find.{Entry, find}
use Rattle.slotted_model.specs.Rest.{IsAligned, IsListed}
use Rattle.slotted_model.specs.State.{Symmetry, left_of, right_of}
use Rattle.slotted_model.proofs.Correspondences.FullIds.{ascending-different}
use Rattle.slotted_model.proofs.Correspondences.FullMaps.{full-ext, full-from, same_names-over, with_values-by, with_values-full}
use Rattle.slotted_model.proofs.Correspondences.Pairs.{Contains-key, Contains-value, Contains-of_key, Contains-of_value}
use Rattle.slotted_model.proofs.Correspondences.PartialInjections.{turned-partial, turned-pair, turned-by, key_in_order}
use Rattle.slotted_model.proofs.Rebuilding.Lacking.{same-ascending}
use Rattle.slotted_model.proofs.Data.Maps.{map_on-filled, filled-pair}
use Rattle.slotted_model.proofs.Finds.NormalIds.{found-renamed, valid-map, Contains-ascending, Contains-of_ascending}
use Rattle.slotted_model.proofs.Data.Ordered.{in_order-ascending}
use Rattle.slotted_model.proofs.Data.Sets.{same_members}
use Rattle.slotted_model.proofs.Rebuilding.FoundEntries.{identity-names}
use Rattle.slotted_classes.specs.Kept.{Kept, SymmetryEntry, nodes_of, entries_of}
use Rattle.slotted_classes.specs.StateOf.{state_of, symmetry_of_entry}
use Rattle.slotted_classes.specs.Stored.{Stored, IsOverOneClass}

module _ (k : Kept) (good : Stored k) (e : SymmetryEntry) (sides : IsOverOneClass k e) (l : IsListed (state_of k) (symmetry_of_entry e)) where
  abbrev found : List Entry
  found = entries_of k

  abbrev y : Symmetry
  y = symmetry_of_entry e

  abbrev m : List (ℕ × ℕ)
  m = e.0.0.1

  abbrev n : List (ℕ × ℕ)
  n = e.0.1.1

  abbrev S : List ℕ
  S = keys m

  abbrev f : ℕ → ℕ
  f = filled m

  f-injective : (x z : ℕ) → f x ≡ f z → x ≡ z
  f-injective x z p = filled-injective m sides.left.injective x z p

  abbrev B : List (ℕ × ℕ)
  B = turned S y.pairs

  B-full : IsFullMap S B
  B-full =
      let t : IsPartialInjection S S B = turned-partial S S y.pairs l.bijection in
      let k : keys_of B ≡ S =
      same_members (keys_of B) S (in_order-ascending S B l.ascending t.in_order) l.ascending
      (λ z. (
        λ h. let r = Contains-of_key B z (Contains-In (keys_of B) z h) in In-Contains S z (key_in_order S B t.in_order z r.0 r.1),
        λ h. let r = Contains-of_value y.pairs z (l.onto z (Contains-In S z h)) in In-Contains (keys_of B) z (Contains-key B z r.0 (turned-by S S y.pairs l.bijection r.0 z r.1)),
      )) in
      full-from S B k (ascending-different S l.ascending) t.injective

  pub left-renamed : renamed_id f (left_of y) ≡ e.0.0
  left-renamed = λ i. (e.0.0.0, (identity-names f S ∙ map_on-filled m sides.left.ascending) i)

  pub right-renamed : renamed_id f (right_of y) ≡ e.0.1
  right-renamed =
      let n-full : IsFullMap S n = subst (λ K. IsFullMap K n) sides.slots (valid-map (nodes_of k) found good.sane.sound.linked e.0.1 sides.right) in
      let same : with_values f B ≡ n =
      full-ext S (with_values f B) n (with_values-full f S B B-full (λ x z c d p. f-injective x z p)) n-full
      (λ t x c.
      let r = with_values-pair f B t x c in
      let w = same_names-over m n r.0 t (turned-pair S y.pairs r.0 t r.1) in
      let g : w.0 ≡ x = sym (filled-pair m r.0 w.0 sides.left.ascending (In-Contains m (r.0, w.0) w.1)) ∙ r.2 in
      subst (λ z. Contains n (t, z)) g w.2) in
      λ i. (sym sides.class i, same i)

  -- a name that a renamed side finds is that of a name of the side, and the other way round
  found-name_of : (a b : Applied) → renamed_id f a ≡ b → (x : ℕ) → Contains (values (find found b).1) x → (z : ℕ) × Contains (values (find found a).1) z × (f z ≡ x)
  found-name_of a b e x c =
      let q : find found b ≡ renamed_id f (find found a) = ap (find found) (sym e) ∙ found-renamed found f a in
      let r = Contains-of_value (with_values f (find found a).1) x (subst (λ (v : Applied). Contains (values v.1) x) q c) in
      let w = with_values-pair f (find found a).1 r.0 x r.1 in
      (w.0, Contains-value (find found a).1 r.0 w.0 w.1, w.2)

  found-name_by : (a b : Applied) → renamed_id f a ≡ b → (z : ℕ) → Contains (values (find found a).1) z → Contains (values (find found b).1) (f z)
  found-name_by a b e z c =
      let q : renamed_id f (find found a) ≡ find found b = sym (found-renamed found f a) ∙ ap (find found) e in
      let r = Contains-of_value (find found a).1 z c in
      subst (λ (v : Applied). Contains (values v.1) (f z)) q (Contains-value (with_values f (find found a).1) r.0 (f z) (with_values-by f (find found a).1 r.0 z r.1))

  pub aligned-iff : ((x : ℕ) → Contains (values (find found e.0.0).1) x ↔ Contains (values (find found e.0.1).1) x) ↔ IsAligned (state_of k) y
  aligned-iff = (
    λ h. same-ascending (values (find found (left_of y)).1) (values (find found (right_of y)).1)
        (λ z c. let r = found-name_of (right_of y) e.0.1 right-renamed (f z) ((h (f z)).0 (found-name_by (left_of y) e.0.0 left-renamed z c)) in
        subst (Contains (values (find found (right_of y)).1)) (f-injective r.0 z r.2) r.1)
        (λ z c. let r = found-name_of (left_of y) e.0.0 left-renamed (f z) ((h (f z)).1 (found-name_by (right_of y) e.0.1 right-renamed z c)) in
        subst (Contains (values (find found (left_of y)).1)) (f-injective r.0 z r.2) r.1),
    λ a x. (
      λ c. let r = found-name_of (left_of y) e.0.0 left-renamed x c in
          let d : Contains (values (find found (right_of y)).1) r.0 = Contains-of_ascending (values (find found (right_of y)).1) r.0 (subst (λ xs. Contains xs r.0) a (Contains-ascending (values (find found (left_of y)).1) r.0 r.1)) in
          subst (Contains (values (find found e.0.1).1)) r.2 (found-name_by (right_of y) e.0.1 right-renamed r.0 d),
      λ c. let r = found-name_of (right_of y) e.0.1 right-renamed x c in
          let d : Contains (values (find found (left_of y)).1) r.0 = Contains-of_ascending (values (find found (left_of y)).1) r.0 (subst (λ xs. Contains xs r.0) (sym a) (Contains-ascending (values (find found (right_of y)).1) r.0 r.1)) in
          subst (Contains (values (find found e.0.0).1)) r.2 (found-name_by (left_of y) e.0.0 left-renamed r.0 d),
    ),
  )
