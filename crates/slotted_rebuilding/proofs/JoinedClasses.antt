-- Which classes a union brings together, and which listed symmetries it leaves as they were: all that changes is of classes that find what
-- one of the two sides found.
use Rattle.std.proofs.Common.{◌≡◌, ◌≢◌, ◌⊎◌, ℕ, ◌<◌, List, length, sym, ◌∙◌, ap, subst, inl, inr}
use Rattle.std.specs.Prelude.{Contains}
use Rattle.std.specs.Map.{keys_of}
use Rattle.std.proofs.lemmas.Bool.{cases_eq}
use Rattle.slotted_lists.proofs.Contained.{contains_cases-end}
use Rattle.slotted_theory.specs.Nameless.{DTerm}
use Rattle.slotted_model.specs.Applied.{Applied}
use Rattle.slotted_model.specs.Classes.{canonical_slots}
use Rattle.slotted_model.specs.Correspondence.{composite, identity}
use Rattle.slotted_model.specs.Find.{Entry, IsLive, find_class, find_map, find, Linked}
use Rattle.slotted_model.specs.Link.{CanDrop, CanLink, IsLater, with_link, with_slots}
use Rattle.slotted_model.specs.ProofList.{Equation, equation_at, turned_equation}
use Rattle.slotted_model.specs.Rest.{IsValidIn, IsAligned, IsListed, Sane, id_names}
use Rattle.slotted_model.specs.State.{State, Symmetry, HasTouched, left_of, right_of}
use Rattle.slotted_model.specs.Changes.{Unites, finds_alike, proves, drops_left, drops_right, left_dies, right_dies, lists, is_listed}
use Rattle.slotted_model.specs.Changes.{GoesOn, StandsAt, dropped_state, linked_state, with_proofs, symmetry_of, found_entry}
use Rattle.slotted_model.proofs.Rebuilding.Aligned.{link-aligned}
use Rattle.slotted_model.proofs.Finds.Dropping as dropping
use Rattle.slotted_model.proofs.Finds.Dropping.{drop-replaces, drop-linked, drop-lives}
use Rattle.slotted_model.proofs.Rebuilding.Events.{drop-sane, drop-goes_on}
use Rattle.slotted_model.proofs.Finds.Finding.{leads, found-in_range, found-live, find_class-live, find_map-live}
use Rattle.slotted_model.proofs.Rebuilding.FoundEntries.{says-over, says-left_used, says-right_used}
use Rattle.slotted_model.proofs.Rebuilding.GrowingLists.{proofs-go_on, proofs-sane}
use Rattle.slotted_model.proofs.Finds.Linking as linking
use Rattle.slotted_model.proofs.Finds.Linking.{link-replaces, link-linked, left-class}
use Rattle.slotted_model.proofs.Finds.NormalIds.{found-valid, found-again, found-class_live}
use Rattle.slotted_model.proofs.Finds.Replacing.{Factors, at-other, live-stays, replaced-factors}
use Rattle.slotted_model.proofs.Rebuilding.Unions.{can_drop-left, can_drop-right, can_link-left, can_link-right}
use Rattle.slotted_model.proofs.Rebuilding.UpTo.{left-valid, right-valid}
use Rattle.slotted_rebuilding.specs.Proving.{FindsEither}
use Rattle.slotted_rebuilding.proofs.LargeFinds.{found-twice}
use Rattle.slotted_rebuilding.proofs.TurnedEntries.{key-turned, turned-value}

-- a class that drops slots changes no class that is found
module _ (nodes : List DTerm) (found : List Entry) (linked : Linked nodes found) (c : ℕ) (slots : List ℕ) (proof : ℕ) (can : CanDrop nodes found c slots) where
  abbrev dropped : List Entry
  dropped = with_slots found c slots proof

  drop-live : (i : ℕ) → IsLive found i → IsLive dropped i
  drop-live i l = elim (cases_eq i c) [
    | inl e ↦ subst (IsLive dropped) (sym e) (drop-lives nodes found linked c slots proof can)
    | inr n ↦ live-stays nodes found linked c (dropping.new_entry nodes found linked c slots proof can) (drop-replaces nodes found linked c slots proof can) i n l
  ]

  pub drop-class : (i : ℕ) → i < length nodes → find_class dropped i ≡ find_class found i
  drop-class i h =
      let r : ℕ = find_class found i in
      let f : Factors nodes found dropped i = replaced-factors nodes found linked c (dropping.new_entry nodes found linked c slots proof can) (drop-replaces nodes found linked c slots proof can) i h in
      f.class ∙ find_class-live nodes dropped (leads nodes dropped (drop-linked nodes found linked c slots proof can)) r
      (found-in_range nodes found (leads nodes found linked) i h) (drop-live r (found-live nodes found (leads nodes found linked) i h))

-- a link changes it for those alone that found the left class
module _ (nodes : List DTerm) (found : List Entry) (linked : Linked nodes found) (e : Equation) (proof moment : ℕ) (can : CanLink nodes found e) (later : IsLater found moment) where
  abbrev newer : List Entry
  newer = with_link nodes found e proof moment

  pub link-class : (i : ℕ) → i < length nodes →
      (find_class newer i ≡ find_class found i) ⊎ ((find_class found i ≡ e.left) × (find_class newer i ≡ e.right))
  link-class i h =
      let r : ℕ = find_class found i in
      let x : Entry = linking.new_entry nodes found linked e proof moment can later in
      let f : Factors nodes found newer i = replaced-factors nodes found linked e.left x (link-replaces nodes found linked e proof moment can later) i h in
      elim (cases_eq r e.left) [
        | inl s ↦ inr (s, f.class ∙ (ap (find_class newer) s ∙ left-class nodes found linked e proof moment can later))
        | inr n ↦ inl (f.class ∙ find_class-live nodes newer (leads nodes newer (link-linked nodes found linked e proof moment can later)) r
            (found-in_range nodes found (leads nodes found linked) i h)
            (live-stays nodes found linked e.left x (link-replaces nodes found linked e proof moment can later) r n (found-live nodes found (leads nodes found linked) i h)))
      ]

-- classes that find alike now did so before, or both found what one of the two found
abbrev pub BringsTogether : State → State → ℕ → ℕ → Type 0
BringsTogether g h a b =
    (i j : ℕ) → i < length g.nodes → j < length g.nodes → find_class h.found i ≡ find_class h.found j →
    (find_class g.found i ≡ find_class g.found j) ⊎ (FindsEither g.found a b i × FindsEither g.found a b j)

-- a listed symmetry was listed, and is aligned if it was, or its class found what one of the two found
abbrev pub LeavesAligned : State → State → ℕ → ℕ → Type 0
LeavesAligned g h a b =
    (y : Symmetry) → Contains h.symmetries y →
    (y.class < length g.nodes) × ((Contains g.symmetries y × (IsAligned g y → IsAligned h y)) ⊎ FindsEither g.found a b y.class)

-- both
abbrev pub KeepsApart : State → State → ℕ → ℕ → Type 0
KeepsApart g h a b = BringsTogether g h a b × LeavesAligned g h a b

-- where a class drops slots first
module _ (g : State) (sane : Sane g) (a b : ℕ) (ha : a < length g.nodes) (hb : b < length g.nodes) (c : ℕ) (slots : List ℕ) (n : ℕ) (can : CanDrop g.nodes g.found c slots) where
  abbrev links : Linked g.nodes g.found
  links = sane.sound.linked

  abbrev fewer : List Entry
  fewer = with_slots g.found c slots n

  same-class : (i : ℕ) → i < length g.nodes → find_class fewer i ≡ find_class g.found i
  same-class = drop-class g.nodes g.found links c slots n can

  pub finds-before : (i : ℕ) → i < length g.nodes → FindsEither fewer a b i → FindsEither g.found a b i
  finds-before i h (inl e) = inl (sym (same-class i h) ∙ (e ∙ same-class a ha))
  finds-before i h (inr e) = inr (sym (same-class i h) ∙ (e ∙ same-class b hb))

  -- an id in normal form of another class stays as it is
  other-stays : (x : Applied) → IsValidIn g x → find g.found x ≡ x → x.0 ≢ c → find fewer x ≡ x
  other-stays x v e other =
      let i : ℕ = x.0 in
      let r : Entry = dropping.new_entry g.nodes g.found links c slots n can in
      let can_replace = drop-replaces g.nodes g.found links c slots n can in
      let live : IsLive g.found i = subst (IsLive g.found) (ap (λ (y : Applied). y.0) e) (found-class_live g.nodes g.found links x v) in
      let still : IsLive fewer i = live-stays g.nodes g.found links c r can_replace i other live in
      let map : find_map fewer i ≡ find_map g.found i =
      find_map-live g.nodes fewer (leads g.nodes fewer (drop-linked g.nodes g.found links c slots n can)) i v.in_range still
      ∙ (ap (λ (y : Entry). y.pairs) (at-other g.nodes g.found links c r can_replace i other)
      ∙ sym (find_map-live g.nodes g.found (leads g.nodes g.found links) i v.in_range live)) in
      (λ k. (same-class i v.in_range k, composite (map k) x.1)) ∙ e

  module _ (w : List ℕ) (stands : StandsAt g n (record { left = c; right = c; pairs = identity slots })) (touched : HasTouched g c w) (h : State) where
    abbrev middle : State
    middle = dropped_state g c slots n w

    drop-brings : BringsTogether middle h a b → BringsTogether g h a b
    drop-brings rest i j hi hj e = elim (rest i j hi hj e) [
      | inl s ↦ inl (sym (same-class i hi) ∙ (s ∙ same-class j hj))
      | inr t ↦ inr (finds-before i hi t.0, finds-before j hj t.1)
    ]

    other-found : (x : Applied) → IsValidIn g x → find_class g.found x.0 ≢ c → find fewer x ≡ find g.found x
    other-found x v other =
        let on : GoesOn g middle = drop-goes_on g sane c slots n can stands.0 stands.1 w touched in
        (on.finds x v).1
        ∙ other-stays (find g.found x) (found-valid g.nodes g.found links x v) (found-again g.nodes g.found links x v) other

    other-aligned : (y : Symmetry) → IsListed g y → find_class g.found y.class ≢ c → IsAligned g y → IsAligned middle y
    other-aligned y l other aligned =
        ap id_names (other-found (left_of y) (left-valid g y l) other)
        ∙ (aligned ∙ sym (ap id_names (other-found (right_of y) (right-valid g y l) other)))

    drop-leaves : FindsEither g.found a b c → LeavesAligned middle h a b → LeavesAligned g h a b
    drop-leaves side rest y listed =
        let r = rest y listed in
        let itself : find_class g.found c ≡ c = find_class-live g.nodes g.found (leads g.nodes g.found links) c can.in_range can.lives in (
          r.0,
          elim r.1 [
            | inl k ↦ elim (cases_eq (find_class g.found y.class) c) [
              | inl e ↦ inr (elim side [
                | inl f ↦ inl (e ∙ (sym itself ∙ f))
                | inr f ↦ inr (e ∙ (sym itself ∙ f))
              ])
              | inr other ↦ inl (k.0, λ aligned. k.1 (other-aligned y (sane.each_listed y k.0) other aligned))
            ]
            | inr f ↦ inr (finds-before y.class r.0 f)
          ],
        )

    pub drop-keeps : FindsEither g.found a b c → KeepsApart middle h a b → KeepsApart g h a b
    drop-keeps side rest = (drop-brings rest.0, drop-leaves side rest.1)

-- a link of what the two found
module _ (g : State) (sane : Sane g) (a b : ℕ) (e : Equation) (n moment : ℕ) (can : CanLink g.nodes g.found e) (later : IsLater g.found moment) where
  pub link-brings : (w : List ℕ) → ((x : ℕ) → find_class g.found x ≡ e.left → FindsEither g.found a b x) → ((x : ℕ) → find_class g.found x ≡ e.right → FindsEither g.found a b x) →
      BringsTogether g (linked_state g e n moment w) a b
  link-brings w left right i j hi hj same =
      let link : (k : ℕ) → k < length g.nodes → (find_class (with_link g.nodes g.found e n moment) k ≡ find_class g.found k) ⊎ ((find_class g.found k ≡ e.left) × (find_class (with_link g.nodes g.found e n moment) k ≡ e.right)) =
      link-class g.nodes g.found sane.sound.linked e n moment can later in
      elim (link i hi) [
        | inl p ↦ elim (link j hj) [
          | inl q ↦ inl (sym p ∙ (same ∙ q))
          | inr q ↦ inr (right i (sym p ∙ (same ∙ q.1)), left j q.0)
        ]
        | inr p ↦ elim (link j hj) [
          | inl q ↦ inr (left i p.0, right j (sym q ∙ (sym same ∙ p.1)))
          | inr q ↦ inl (p.0 ∙ sym q.0)
        ]
      ]

-- finds stay
module _ (g : State) (sane : Sane g) (a b : ℕ) where
  pub same-keeps : KeepsApart g g a b
  same-keeps = (λ i j hi hj e. inl e, λ y c. ((sane.each_listed y c).in_range, inl (c, λ aligned. aligned)))

-- the union by an entry
pub unites-keeps : (p : ℕ) {g h : State} → Unites p g h → Sane g → p < length g.proofs → KeepsApart g h (equation_at g.proofs p).left (equation_at g.proofs p).right
unites-keeps p (finds_alike {g = g} l i) sane k = same-keeps g sane (equation_at g.proofs p).left (equation_at g.proofs p).right
unites-keeps p (is_listed {g = g} y same all c is) sane k = same-keeps g sane (equation_at g.proofs p).left (equation_at g.proofs p).right
unites-keeps p (proves {g = g} {h = h} proofs grow u) sane k =
    let on : GoesOn g (with_proofs g proofs) = proofs-go_on g sane proofs grow in
    let r : KeepsApart (with_proofs g proofs) h (equation_at proofs p).left (equation_at proofs p).right = unites-keeps p u (proofs-sane g sane proofs grow) (on.proofs p k).0 in
    subst (λ (e : Equation). KeepsApart g h e.left e.right) (on.proofs p k).1 (r.0, r.1)
unites-keeps p (drops_left {g = g} {h = h} n s w used lacks at t u) sane k =
    let says : Equation = found_entry g p in
    let e : Equation = equation_at g.proofs p in
    let over = sane.sound.proved.over p k in
    let can = can_drop-left g sane p k in
    drop-keeps g sane e.left e.right over.left over.right says.left (keys_of says.pairs) n can w at t h
    (inl (found-twice g.nodes g.found sane.sound.linked e.left over.left))
    (unites-keeps p u (drop-sane g sane says.left (keys_of says.pairs) n can at.0 at.1 w t) k)
unites-keeps p (drops_right {g = g} {h = h} n x w all used lacks at t u) sane k =
    let says : Equation = found_entry g p in
    let e : Equation = equation_at g.proofs p in
    let over = sane.sound.proved.over p k in
    let kept : List ℕ = keys_of (turned_equation g.nodes says).pairs in
    let can = can_drop-right g sane p k in
    drop-keeps g sane e.left e.right over.left over.right says.right kept n can w at t h
    (inr (found-twice g.nodes g.found sane.sound.linked e.right over.right))
    (unites-keeps p u (drop-sane g sane says.right kept n can at.0 at.1 w t) k)
unites-keeps p (left_dies {g = g} n moment w differ all at later t) sane k =
    let says : Equation = found_entry g p in
    let e : Equation = equation_at g.proofs p in
    let can = can_link-left g sane p k differ all in (
      link-brings g sane e.left e.right says n moment can later w (λ x q. inl q) (λ x q. inr q),
      λ y c. ((sane.each_listed y c).in_range, inl (c, link-aligned g sane says n moment can later at.0 at.1 w t all.left (says-right_used g.nodes g.found sane.sound.linked e (sane.sound.proved.over p k)) y (sane.each_listed y c))),
    )
unites-keeps p (right_dies {g = g} n moment w differ all at later t) sane k =
    let says : Equation = found_entry g p in
    let back : Equation = turned_equation g.nodes says in
    let e : Equation = equation_at g.proofs p in
    let over = sane.sound.proved.over p k in
    let can = can_link-right g sane p k differ all in (
      link-brings g sane e.left e.right back n moment can later w (λ x q. inr q) (λ x q. inl q),
      λ y c. (
        (sane.each_listed y c).in_range,
        inl (
          c,
          link-aligned g sane back n moment can later at.0 at.1 w t
              (λ s d. key-turned (canonical_slots g.nodes says.left) (canonical_slots g.nodes says.right) says.pairs (says-over g.nodes g.found sane.sound.linked e over).pairs s (all.right s d))
              (λ s d. says-left_used g.nodes g.found sane.sound.linked e over s (turned-value (canonical_slots g.nodes says.right) says.pairs s d)) y (sane.each_listed y c),
        ),
      ),
    )
unites-keeps p (lists {g = g} n same all moves new at) sane k =
    let says : Equation = found_entry g p in
    let e : Equation = equation_at g.proofs p in
    let over = sane.sound.proved.over p k in
    let links : Linked g.nodes g.found = sane.sound.linked in (
      λ i j hi hj q. inl q,
      λ y c. elim (contains_cases-end g.symmetries (symmetry_of g says n) y c) [
        | inl old ↦ ((sane.each_listed y old).in_range, inl (old, λ aligned. aligned))
        | inr is ↦ (
          subst (λ (z : Symmetry). z.class < length g.nodes) (sym is) (found-in_range g.nodes g.found (leads g.nodes g.found links) e.left over.left),
          inr (inl (ap (λ (z : Symmetry). find_class g.found z.class) is ∙ found-twice g.nodes g.found links e.left over.left)),
        )
      ],
    )
