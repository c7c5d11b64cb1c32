-- What an equation says of the classes that its sides find: which slots it pairs, and when the sides find alike or are the sides of a symmetry.
use Rattle.std.proofs.Common.{◌≡◌, ℕ, ◌<◌, List, [], ◌∷◌, length, sym, ◌∙◌, ap, refl, subst}
use Rattle.std.specs.Prelude.{Contains}
use Rattle.std.specs.Map.{keys_of, values_of}
use Rattle.slotted_lists.proofs.Members.{In-Contains, Contains-In}
use Rattle.slotted_lists.proofs.Maps.{with_values-pair}
use Rattle.slotted_theory.specs.Nameless.{DTerm}
use Rattle.slotted_theory.specs.FiniteMaps.{filled, with_values}
use Rattle.slotted_theory.proofs.Filled.{filled-injective}
use Rattle.slotted_model.specs.Ascending.{IsAscending}
use Rattle.slotted_model.specs.Applied.{Applied, keys, map_on, renamed_id}
use Rattle.slotted_model.specs.Classes.{canonical_slots, IsFull}
use Rattle.slotted_model.specs.Correspondence.{IsFullMap, pairs_on, composite, turned, identity, IsPartialInjection}
use Rattle.slotted_model.specs.Filling.{IsValid}
use Rattle.slotted_model.specs.Find.{Entry, IsLive, find_class, find_map, used_slots, find, Linked}
use Rattle.slotted_model.specs.ProofList.{Equation, equation_of, turned_equation, IsOver}
use Rattle.slotted_model.specs.Link.{found_equation}
use Rattle.slotted_theory.specs.FiniteMaps.{value_of}
use Rattle.slotted_model.proofs.Data.Sets.{IsAscending-ascending, same_members}
use Rattle.slotted_model.proofs.Data.Maps.{map_on-filled, filled-pair}
use Rattle.slotted_model.proofs.Correspondences.Pairs.{Contains-key, Contains-value, Contains-of_key, Contains-of_value}
use Rattle.slotted_model.proofs.Correspondences.PartialInjections.{composite-in_order, composite-over, turned-partial, turned-pair, turned-by, in_order-ext, key_in_order, identity-both}
use Rattle.slotted_model.proofs.Correspondences.FullMaps.{full-in_order, full-one_name, full-ext, full-from, same_names-over, same_names-by, same_names-partial, with_values-full}
use Rattle.slotted_model.proofs.Correspondences.FullIds.{full_map, ascending-different}
use Rattle.slotted_model.proofs.Data.Ordered.{in_order-ascending}
use Rattle.slotted_model.proofs.Finds.Finding.{Leads, leads, found-in_range, found-live, found_keys, find_map-full}
use Rattle.slotted_model.proofs.Finds.NormalIds.{found-full, found-valid, full-is_valid, used-live}
use Rattle.slotted_model.proofs.Finds.Uniting.{found_equation-over, found_equation-shares}

-- the identity with names put in
pub identity-names : (f : ℕ → ℕ) (S : List ℕ) → with_values f (identity S) ≡ map_on f S
identity-names f [] = refl
identity-names f (s ∷ S) = ap (λ l. (s, f s) ∷ l) (identity-names f S)

module _ (nodes : List DTerm) (found : List Entry) (linked : Linked nodes found) where
  abbrev L : Leads nodes found
  L = leads nodes found linked

  -- the slots of the found class are its used slots
  pub found-used : (i : ℕ) → i < length nodes → found_keys nodes found linked i ≡ used_slots found (find_class found i)
  found-used i h = sym (used-live nodes found linked (find_class found i) (found-in_range nodes found L i h) (found-live nodes found L i h))

  module _ (e : Equation) (o : IsOver nodes e) where
    abbrev says : Equation
    says = found_equation nodes found e

    pub says-over : IsOver nodes says
    says-over = found_equation-over nodes found linked e o

    pub says-left_lives : IsLive found says.left
    says-left_lives = found-live nodes found L e.left o.left

    pub says-right_lives : IsLive found says.right
    says-right_lives = found-live nodes found L e.right o.right

    -- it pairs slots of the found classes
    pub says-left_used : (s : ℕ) → Contains (keys_of says.pairs) s → Contains (used_slots found says.left) s
    says-left_used s c =
        let r = Contains-of_key says.pairs s c in
        let q = composite-over (composite (find_map found e.left) e.pairs) (turned (canonical_slots nodes e.right) (find_map found e.right)) s r.0 r.1 in
        let k = composite-over (find_map found e.left) e.pairs s q.0 q.1 in
        subst (λ K. Contains K s) ((find_map-full nodes found linked e.left o.left).slots ∙ found-used e.left o.left) (Contains-key (find_map found e.left) s k.0 k.1)

    pub says-right_used : (t : ℕ) → Contains (values_of says.pairs) t → Contains (used_slots found says.right) t
    says-right_used t c =
        let r = Contains-of_value says.pairs t c in
        let q = composite-over (composite (find_map found e.left) e.pairs) (turned (canonical_slots nodes e.right) (find_map found e.right)) r.0 t r.1 in
        let k = turned-pair (canonical_slots nodes e.right) (find_map found e.right) t q.0 q.2 in
        subst (λ K. Contains K t) ((find_map-full nodes found linked e.right o.right).slots ∙ found-used e.right o.right) (Contains-key (find_map found e.right) t q.0 k)

    -- in the order of the slots of the left one
    pub says-in_order : pairs_on (used_slots found says.left) (value_of says.pairs) ≡ says.pairs
    says-in_order =
        let φ : List (ℕ × ℕ) = find_map found e.left in
        let K : List ℕ = found_keys nodes found linked e.left in
        subst (λ S. pairs_on S (value_of says.pairs) ≡ says.pairs) (found-used e.left o.left)
        (composite-in_order K (composite φ e.pairs) (turned (canonical_slots nodes e.right) (find_map found e.right))
        (composite-in_order K φ e.pairs (full-in_order K φ (find_map-full nodes found linked e.left o.left))))

    -- where each slot of the left class has a partner, the paired slots are those of the class
    pub says-all : ((s : ℕ) → Contains (used_slots found says.left) s → Contains (keys_of says.pairs) s) → keys_of says.pairs ≡ used_slots found says.left
    says-all h =
        let S : List ℕ = used_slots found says.left in
        let asc : IsAscending S = IsAscending-ascending (values_of (find_map found says.left)) in
        same_members (keys_of says.pairs) S (in_order-ascending S says.pairs asc says-in_order) asc
        (λ z. (λ k. In-Contains S z (says-left_used z (Contains-In (keys_of says.pairs) z k)), λ k. In-Contains (keys_of says.pairs) z (h z (Contains-In S z k))))

    -- so it is a partial injection of the slots of one class, if it is of one class
    pub says-partial : says.left ≡ says.right → IsPartialInjection (used_slots found says.left) (used_slots found says.left) says.pairs
    says-partial same = record {
      in_order = says-in_order;
      within = λ s t c. subst (λ k. Contains (used_slots found k) t) (sym same) (says-right_used t (Contains-value says.pairs s t c));
      injective = says-over.pairs.injective;
    }

  module _ (a b : Applied) (fa : IsFull nodes a) (fb : IsFull nodes b) where
    abbrev q : Equation
    q = found_equation nodes found (equation_of a b)

    abbrev m : List (ℕ × ℕ)
    m = (find found a).1

    abbrev n : List (ℕ × ℕ)
    n = (find found b).1

    abbrev va : IsValid (used_slots found) nodes a
    va = full-is_valid nodes found linked a fa

    abbrev vb : IsValid (used_slots found) nodes b
    vb = full-is_valid nodes found linked b fb

    m-full : IsFullMap (used_slots found q.left) m
    m-full = subst (λ K. IsFullMap K m) (found-used a.0 fa.in_range) (found-full nodes found linked a va)

    n-full : IsFullMap (used_slots found q.right) n
    n-full = subst (λ K. IsFullMap K n) (found-used b.0 fb.in_range) (found-full nodes found linked b vb)

    -- it pairs the slots that carry one name in the found ids
    pub shares-over : (s t : ℕ) → Contains q.pairs (s, t) → (x : ℕ) × Contains m (s, x) × Contains n (t, x)
    shares-over s t c = same_names-over m n s t (subst (λ A. Contains A (s, t)) (sym (found_equation-shares nodes found linked a b fa fb)) c)

    pub shares-by : (s t x : ℕ) → Contains m (s, x) → Contains n (t, x) → Contains q.pairs (s, t)
    shares-by s t x c d = subst (λ A. Contains A (s, t)) (found_equation-shares nodes found linked a b fa fb) (same_names-by (used_slots found q.right) m n n-full s t x c d)

    -- the sides find alike where it pairs each slot of one class with itself
    pub identity-alike : q.left ≡ q.right → q.pairs ≡ identity (used_slots found q.left) → find found a ≡ find found b
    identity-alike e p =
        let S : List ℕ = used_slots found q.left in
        let nf : IsFullMap S n = subst (λ c. IsFullMap (used_slots found c) n) (sym e) n-full in
        let same : m ≡ n = full-ext S m n m-full nf (λ s x c.
        let k : Contains S s = subst (λ K. Contains K s) m-full.slots (Contains-key m s x c) in
        let r = shares-over s s (subst (λ A. Contains A (s, s)) (sym p) (identity-both S s s (k, refl))) in
        subst (λ z. Contains n (s, z)) (full-one_name S m m-full s r.0 x r.1 c) r.2) in
        λ i. (e i, same i)

    -- where it is a bijection of the slots of one class, the found sides are the class with its slots, and with their partners, under one renaming
    module _ (e : q.left ≡ q.right) (onto : (t : ℕ) → Contains (used_slots found q.right) t → Contains (values_of q.pairs) t) where
      abbrev S : List ℕ
      S = used_slots found q.left

      abbrev B : List (ℕ × ℕ)
      B = turned S q.pairs

      over : IsOver nodes (equation_of a b)
      over = record { left = fa.in_range; right = fb.in_range; pairs = same_names-partial (canonical_slots nodes a.0) (canonical_slots nodes b.0) a.1 b.1 (full_map nodes a fa) (full_map nodes b fb) }

      q-partial : IsPartialInjection S S q.pairs
      q-partial = says-partial (equation_of a b) over e

      S-ascending : IsAscending S
      S-ascending = IsAscending-ascending (values_of (find_map found q.left))

      n-full_too : IsFullMap S n
      n-full_too = subst (λ c. IsFullMap (used_slots found c) n) (sym e) n-full

      B-full : IsFullMap S B
      B-full =
          let t : IsPartialInjection S S B = turned-partial S S q.pairs q-partial in
          let k : keys_of B ≡ S =
          same_members (keys_of B) S (in_order-ascending S B S-ascending t.in_order) S-ascending
          (λ z. (
            λ h. let r = Contains-of_key B z (Contains-In (keys_of B) z h) in In-Contains S z (key_in_order S B t.in_order z r.0 r.1),
            λ h.
                let r = Contains-of_value q.pairs z (onto z (subst (λ c. Contains (used_slots found c) z) e (Contains-In S z h))) in
                In-Contains (keys_of B) z (Contains-key B z r.0 (turned-by S S q.pairs q-partial r.0 z r.1)),
          )) in
          full-from S B k (ascending-different S S-ascending) t.injective

      pub left-renamed : renamed_id (filled m) (q.left, identity S) ≡ find found a
      left-renamed =
          let asc : IsAscending (keys m) = (found-valid nodes found linked a va).ascending in
          λ i. (q.left, (identity-names (filled m) S ∙ (ap (map_on (filled m)) (sym m-full.slots) ∙ map_on-filled m asc)) i)

      pub right-renamed : renamed_id (filled m) (q.left, B) ≡ find found b
      right-renamed =
          let asc : IsAscending (keys m) = (found-valid nodes found linked a va).ascending in
          let inj = filled-injective m (found-valid nodes found linked a va).injective in
          let same : with_values (filled m) B ≡ n =
          full-ext S (with_values (filled m) B) n (with_values-full (filled m) S B B-full (λ x y c d p. inj x y p)) n-full_too
          (λ t x c.
          let r = with_values-pair (filled m) B t x c in
          let w = shares-over r.0 t (turned-pair S q.pairs r.0 t r.1) in
          let f : w.0 ≡ x = sym (filled-pair m r.0 w.0 asc (In-Contains m (r.0, w.0) w.1)) ∙ r.2 in
          subst (λ z. Contains n (t, z)) f w.2) in
          λ i. (e i, same i)

  -- the equation turned round says the same turned round
  pub says-turned : (a b : Applied) → IsFull nodes a → IsFull nodes b → turned_equation nodes (found_equation nodes found (equation_of a b)) ≡ found_equation nodes found (equation_of b a)
  says-turned a b fa fb =
      let one : Equation = found_equation nodes found (equation_of a b) in
      let two : Equation = found_equation nodes found (equation_of b a) in
      let over_of : (x y : Applied) → IsFull nodes x → IsFull nodes y → IsOver nodes (found_equation nodes found (equation_of x y)) =
      λ x y fx fy. says-over (equation_of x y) (record { left = fx.in_range; right = fy.in_range; pairs = same_names-partial (canonical_slots nodes x.0) (canonical_slots nodes y.0) x.1 y.1 (full_map nodes x fx) (full_map nodes y fy) }) in
      let P : List ℕ = canonical_slots nodes one.left in
      let Q : List ℕ = canonical_slots nodes one.right in
      let o : IsOver nodes one = over_of a b fa fb in
      let same : turned Q one.pairs ≡ two.pairs =
      in_order-ext Q (turned Q one.pairs) two.pairs (turned-partial P Q one.pairs o.pairs).in_order (over_of b a fb fa).pairs.in_order
      (λ t s c. let w = shares-over a b fa fb s t (turned-pair Q one.pairs s t c) in shares-by b a fb fa t s w.0 w.2 w.1)
      (λ t s c. let w = shares-over b a fb fa t s c in turned-by P Q one.pairs o.pairs s t (shares-by a b fa fb s t w.0 w.2 w.1)) in
      λ i. record { left = one.right; right = one.left; pairs = same i }
