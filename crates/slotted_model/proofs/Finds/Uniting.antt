-- Union of what an equation's sides find: the steps to it, when it can be linked, and that the sides find alike afterwards.
use Rattle.std.proofs.Common.{◌≡◌, ◌≢◌, ℕ, List, sym, ◌∙◌, refl, subst}
use Rattle.std.specs.Prelude.{Contains}
use Rattle.slotted_theory.specs.Nameless.{DTerm}
use Rattle.slotted_model.specs.Applied.{Applied, values}
use Rattle.slotted_model.specs.Classes.{canonical_slots, IsFull}
use Rattle.slotted_theory.specs.FiniteMaps.{value_of}
use Rattle.slotted_model.specs.Correspondence.{IsFullMap, pairs_on, same_names, composite, turned, IsPartialInjection, CanJoin}
use Rattle.slotted_model.specs.Filling.{IsValid}
use Rattle.slotted_model.specs.Find.{Entry, entry_at, find_class, find_map, used_slots, find, Linked}
use Rattle.slotted_model.specs.ProofList.{Equation, equation_of, turned_equation, IsOver, IsTransitive, find_equation}
use Rattle.slotted_model.specs.Link.{found_equation, half_found_equation, CanLink, IsLater, with_link}
use Rattle.slotted_model.proofs.Correspondences.Pairs.{Contains-key, Contains-value, Contains-of_key, Contains-of_value}
use Rattle.slotted_model.proofs.Correspondences.PartialInjections.{composite-in_order, composite-over, composite-by, composite-partial, turned-partial, turned-pair, turned-by, turned-turned, pairs_on-in_order, in_order-ext}
use Rattle.slotted_model.proofs.Correspondences.FullMaps.{full-in_order, full-one_name, same_names-over, same_names-by, same_names-is, same_names-partial}
use Rattle.slotted_model.proofs.Correspondences.FullIds.{full_map}
use Rattle.slotted_model.proofs.Correspondences.Joining.{composite-can_join}
use Rattle.slotted_model.proofs.Finds.Finding.{Leads, leads, found-in_range, find_map-partial, found_keys, find_map-full}
use Rattle.slotted_model.proofs.Finds.NormalIds.{found-full, found-slots, found-class_live, full-is_valid}
use Rattle.slotted_model.proofs.Finds.Linking.{left-class, right-class, left-map, right-map, link-refines, link_map}

module _ (nodes : List DTerm) (found : List Entry) (linked : Linked nodes found) where
  abbrev L : Leads nodes found
  L = leads nodes found linked

  pub half-over : (e : Equation) → IsOver nodes e → IsOver nodes (half_found_equation nodes found e)
  half-over e o = record {
    left = found-in_range nodes found L e.left o.left;
    right = o.right;
    pairs = composite-partial (canonical_slots nodes (find_class found e.left)) (canonical_slots nodes e.left) (canonical_slots nodes e.right) (find_map found e.left) e.pairs (find_map-partial nodes found L e.left o.left) o.pairs;
  }

  pub found_equation-over : (e : Equation) → IsOver nodes e → IsOver nodes (found_equation nodes found e)
  found_equation-over e o =
      let c : ℕ = find_class found e.left in
      let d : ℕ = find_class found e.right in
      record {
        left = found-in_range nodes found L e.left o.left;
        right = found-in_range nodes found L e.right o.right;
        pairs = composite-partial (canonical_slots nodes c) (canonical_slots nodes e.right) (canonical_slots nodes d) (composite (find_map found e.left) e.pairs) (turned (canonical_slots nodes e.right) (find_map found e.right))
            (half-over e o).pairs
            (turned-partial (canonical_slots nodes d) (canonical_slots nodes e.right) (find_map found e.right) (find_map-partial nodes found L e.right o.right));
      }

  -- two transitive steps lead to the equation of the found classes
  pub half-step : (e : Equation) → IsOver nodes e → IsTransitive (half_found_equation nodes found e) (turned_equation nodes (find_equation nodes found e.left)) e
  half-step e o =
      let c : ℕ = find_class found e.left in
      let φ : List (ℕ × ℕ) = find_map found e.left in
      let back : turned (canonical_slots nodes c) (turned (canonical_slots nodes e.left) φ) ≡ φ = turned-turned (canonical_slots nodes c) (canonical_slots nodes e.left) φ (find_map-partial nodes found L e.left o.left) in
      record {
        left = refl;
        middle = refl;
        right = refl;
        joins = subst (λ A. CanJoin (composite φ e.pairs) A e.pairs) (sym back) (composite-can_join φ e.pairs);
      }

  pub found-step : (e : Equation) → IsTransitive (found_equation nodes found e) (half_found_equation nodes found e) (find_equation nodes found e.right)
  found-step e = record {
    left = refl;
    middle = refl;
    right = refl;
    joins = composite-can_join (composite (find_map found e.left) e.pairs) (turned (canonical_slots nodes e.right) (find_map found e.right));
  }

  module _ (a b : Applied) (fa : IsFull nodes a) (fb : IsFull nodes b) where
    abbrev va : IsValid (used_slots found) nodes a
    va = full-is_valid nodes found linked a fa

    abbrev vb : IsValid (used_slots found) nodes b
    vb = full-is_valid nodes found linked b fb

    abbrev K : List ℕ
    K = found_keys nodes found linked a.0

    abbrev K' : List ℕ
    K' = found_keys nodes found linked b.0

    -- it pairs the slots that carry one name in the found ids
    pub found_equation-shares : same_names (find found a).1 (find found b).1 ≡ (found_equation nodes found (equation_of a b)).pairs
    found_equation-shares =
        let φ : List (ℕ × ℕ) = find_map found a.0 in
        let ψ : List (ℕ × ℕ) = find_map found b.0 in
        let P : List ℕ = canonical_slots nodes a.0 in
        let Q : List ℕ = canonical_slots nodes b.0 in
        let A : List (ℕ × ℕ) = same_names a.1 b.1 in
        let iA : IsPartialInjection P Q A = same_names-partial P Q a.1 b.1 (full_map nodes a fa) (full_map nodes b fb) in
        let iψ : IsPartialInjection (canonical_slots nodes (find_class found b.0)) Q ψ = find_map-partial nodes found L b.0 fb.in_range in
        same_names-is K K' (find found a).1 (find found b).1 (composite (composite φ A) (turned Q ψ)) (found-full nodes found linked a va) (found-full nodes found linked b vb)
        (composite-in_order K (composite φ A) (turned Q ψ) (composite-in_order K φ A (full-in_order K φ (find_map-full nodes found linked a.0 fa.in_range))))
        (λ s t x c d.
        let r = composite-over φ a.1 s x c in
        let q = composite-over ψ b.1 t x d in
        let j : Contains A (r.0, q.0) = same_names-by Q a.1 b.1 (full_map nodes b fb) r.0 q.0 x r.2 q.2 in
        composite-by Q (composite φ A) (turned Q ψ) (pairs_on-in_order Q _) s q.0 t
        (composite-by P φ A iA.in_order s r.0 q.0 r.1 j)
        (turned-by (canonical_slots nodes (find_class found b.0)) Q ψ iψ t q.0 q.1))
        (λ s t c.
        let r = composite-over (composite φ A) (turned Q ψ) s t c in
        let q = composite-over φ A s r.0 r.1 in
        let w = turned-pair Q ψ t r.0 r.2 in
        let x = same_names-over a.1 b.1 q.0 r.0 q.2 in (
          x.0,
          composite-by P φ a.1 (full-in_order P a.1 (full_map nodes a fa)) s q.0 x.0 q.1 x.1,
          composite-by Q ψ b.1 (full-in_order Q b.1 (full_map nodes b fb)) t r.0 x.0 w x.2,
        ))

    -- where the found ids are of different classes, and the right one has only names of the left one, it can be linked
    pub can_link : find_class found a.0 ≢ find_class found b.0 → ((x : ℕ) → Contains (values (find found b).1) x → Contains (values (find found a).1) x) → CanLink nodes found (found_equation nodes found (equation_of a b))
    can_link differ names =
        let e : Equation = found_equation nodes found (equation_of a b) in
        let m : List (ℕ × ℕ) = (find found a).1 in
        let n : List (ℕ × ℕ) = (find found b).1 in
        record {
          over = found_equation-over (equation_of a b) (record { left = fa.in_range; right = fb.in_range; pairs = same_names-partial (canonical_slots nodes a.0) (canonical_slots nodes b.0) a.1 b.1 (full_map nodes a fa) (full_map nodes b fb) });
          left_lives = found-class_live nodes found linked a va;
          right_lives = found-class_live nodes found linked b vb;
          different = differ;
          from = λ s c.
              let r = Contains-of_key e.pairs s c in
              let x = same_names-over m n s r.0 (subst (λ A. Contains A (s, r.0)) (sym found_equation-shares) r.1) in
              subst (λ S. Contains S s) (found-slots nodes found linked a va) (Contains-key m s x.0 x.1);
          onto = λ t c.
              let x = Contains-of_key n t (subst (λ S. Contains S t) (sym (found-slots nodes found linked b vb)) c) in
              let s = Contains-of_value m x.0 (names x.0 (Contains-value n t x.0 x.1)) in
              Contains-value e.pairs s.0 t (subst (λ A. Contains A (s.0, t)) found_equation-shares (same_names-by K' m n (found-full nodes found linked b vb) s.0 t x.0 s.1 x.1));
        }

    -- once it is linked the sides find alike
    module _ (proof moment : ℕ) (can : CanLink nodes found (found_equation nodes found (equation_of a b))) (later : IsLater found moment) where
      abbrev e : Equation
      e = found_equation nodes found (equation_of a b)

      abbrev newer : List Entry
      newer = with_link nodes found e proof moment

      abbrev m : List (ℕ × ℕ)
      m = (find found a).1

      abbrev n : List (ℕ × ℕ)
      n = (find found b).1

      abbrev right : List (ℕ × ℕ)
      right = (entry_at found e.right).pairs

      over_link : composite (composite right (link_map nodes found linked e proof moment can later)) m ≡ composite right n
      over_link =
          let c : ℕ = e.left in
          let P : List ℕ = canonical_slots nodes (entry_at found e.right).class in
          let μ : List (ℕ × ℕ) = link_map nodes found linked e proof moment can later in
          let Q : List ℕ = canonical_slots nodes e.right in
          let ordered : pairs_on P (value_of right) ≡ right = (linked.maps e.right can.over.right).in_order in
          let fm : IsFullMap K m = found-full nodes found linked a va in
          let fn : IsFullMap K' n = found-full nodes found linked b vb in
          in_order-ext P (composite (composite right μ) m) (composite right n)
          (composite-in_order P (composite right μ) m (composite-in_order P right μ ordered))
          (composite-in_order P right n ordered)
          (λ s x d.
          let r = composite-over (composite right μ) m s x d in
          let q = composite-over right μ s r.0 r.1 in
          let y = same_names-over m n r.0 q.0 (subst (λ A. Contains A (r.0, q.0)) (sym found_equation-shares) (turned-pair Q e.pairs r.0 q.0 q.2)) in
          composite-by K' right n (full-in_order K' n fn) s q.0 x q.1 (subst (λ z. Contains n (q.0, z)) (full-one_name K m fm r.0 y.0 x y.1 r.2) y.2))
          (λ s x d.
          let r = composite-over right n s x d in
          let u = Contains-of_value e.pairs r.0 (can.onto r.0 (subst (λ S. Contains S r.0) (found-slots nodes found linked b vb) (Contains-key n r.0 x r.2))) in
          let y = same_names-over m n u.0 r.0 (subst (λ A. Contains A (u.0, r.0)) (sym found_equation-shares) u.1) in
          composite-by K (composite right μ) m (full-in_order K m fm) s u.0 x
          (composite-by Q right μ (pairs_on-in_order Q _) s r.0 u.0 r.1 (turned-by (canonical_slots nodes c) Q e.pairs can.over.pairs u.0 r.0 u.1))
          (subst (λ z. Contains m (u.0, z)) (full-one_name K' n fn r.0 y.0 x y.2 r.2) y.1))

      pub linked-alike : find newer a ≡ find newer b
      linked-alike =
          (link-refines nodes found linked e proof moment can later a va).1
          ∙ ((λ i. (left-class nodes found linked e proof moment can later i, composite (left-map nodes found linked e proof moment can later i) m))
          ∙ ((λ i. (e.right, over_link i))
          ∙ ((λ i. (sym (right-class nodes found linked e proof moment can later) i, composite (sym (right-map nodes found linked e proof moment can later) i) n))
          ∙ sym (link-refines nodes found linked e proof moment can later b vb).1)))
