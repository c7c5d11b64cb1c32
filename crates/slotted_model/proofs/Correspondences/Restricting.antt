-- A transitive step as equations between composites: what the asked correspondence says of the slots that its first half knows,
-- and of those that its second half reaches, is just what goes over the middle.
use Rattle.std.proofs.Common.{◌≡◌, ℕ, List, sym, subst}
use Rattle.std.specs.Prelude.{Contains, ◌↔◌}
use Rattle.std.specs.Map.{keys_of, values_of}
use Rattle.slotted_model.specs.Correspondence.{composite, turned, IsPartialInjection, CanJoin}
use Rattle.slotted_model.proofs.Correspondences.Pairs.{Contains-key, Contains-value, Contains-of_key, Contains-of_value}
use Rattle.slotted_model.proofs.Correspondences.PartialInjections.{composite-in_order, in_order-ext, composite-over, composite-by, one_partner, turned-pair, turned-by, turned-partial}

module _ (P Q R : List ℕ) (A A1 A2 : List (ℕ × ℕ)) (a : IsPartialInjection P R A) (f : IsPartialInjection P Q A1) (g : IsPartialInjection Q R A2) where
  abbrev over : List (ℕ × ℕ)
  over = composite A1 A2

  -- what A says of the slots that A1 knows
  abbrev pub from_known : List (ℕ × ℕ)
  from_known = composite (composite A1 (turned Q A1)) A

  -- what A says of the slots that A2 reaches
  abbrev pub to_reached : List (ℕ × ℕ)
  to_reached = composite (composite A (turned R A2)) A2

  known-pair : (s u : ℕ) → Contains from_known (s, u) → Contains (keys_of A1) s × Contains A (s, u)
  known-pair s u c =
      let r = composite-over (composite A1 (turned Q A1)) A s u c in
      let q = composite-over A1 (turned Q A1) s r.0 r.1 in
      let same : s ≡ r.0 = f.injective s r.0 q.0 q.1 (turned-pair Q A1 r.0 q.0 q.2) in
      (Contains-key A1 s q.0 q.1, subst (λ x. Contains A (x, u)) (sym same) r.2)

  known-by : (s u : ℕ) → Contains (keys_of A1) s → Contains A (s, u) → Contains from_known (s, u)
  known-by s u k c =
      let t = Contains-of_key A1 s k in
      composite-by P (composite A1 (turned Q A1)) A a.in_order s s u
      (composite-by Q A1 (turned Q A1) (turned-partial P Q A1 f).in_order s t.0 s t.1 (turned-by P Q A1 f s t.0 t.1)) c

  reached-pair : (s u : ℕ) → Contains to_reached (s, u) → Contains (values_of A2) u × Contains A (s, u)
  reached-pair s u c =
      let r = composite-over (composite A (turned R A2)) A2 s u c in
      let q = composite-over A (turned R A2) s r.0 r.1 in
      let same : q.0 ≡ u = one r.0 q.0 u (turned-pair R A2 r.0 q.0 q.2) r.2 in
      (Contains-value A2 r.0 u r.2, subst (λ x. Contains A (s, x)) same q.1)
    where
      one : (t x y : ℕ) → Contains A2 (t, x) → Contains A2 (t, y) → x ≡ y
      one = one_partner Q A2 g.in_order

  reached-by : (s u : ℕ) → Contains (values_of A2) u → Contains A (s, u) → Contains to_reached (s, u)
  reached-by s u k c =
      let t = Contains-of_value A2 u k in
      composite-by Q (composite A (turned R A2)) A2 g.in_order s t.0 u
      (composite-by R A (turned R A2) (turned-partial Q R A2 g).in_order s u t.0 c (turned-by Q R A2 g t.0 u t.1)) t.1

  pub joined_maps : CanJoin A A1 A2 ↔ ((over ≡ from_known) × (over ≡ to_reached))
  joined_maps = (
    λ j.
        let here = composite-in_order P A1 A2 f.in_order in (
          in_order-ext P over from_known here (composite-in_order P (composite A1 (turned Q A1)) A (composite-in_order P A1 (turned Q A1) f.in_order))
              (λ s u c. let t = composite-over A1 A2 s u c in known-by s u (Contains-key A1 s t.0 t.1) (j.within s u c))
              (λ s u c. let k = known-pair s u c in j.from_left s u k.1 k.0),
          in_order-ext P over to_reached here (composite-in_order P (composite A (turned R A2)) A2 (composite-in_order P A (turned R A2) a.in_order))
              (λ s u c. let t = composite-over A1 A2 s u c in reached-by s u (Contains-value A2 t.0 u t.2) (j.within s u c))
              (λ s u c. let k = reached-pair s u c in j.from_right s u k.1 k.0),
        ),
    λ e. record {
      within = λ s u c. (known-pair s u (subst (λ L. Contains L (s, u)) e.0 c)).1;
      from_left = λ s u c k. subst (λ L. Contains L (s, u)) (sym e.0) (known-by s u k c);
      from_right = λ s u c k. subst (λ L. Contains L (s, u)) (sym e.1) (reached-by s u k c);
    },
  )
