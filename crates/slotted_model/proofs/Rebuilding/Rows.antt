-- Look-ups among rows: they move with names, and at rest the node of each class is looked up.
use Rattle.std.proofs.Common.{◌≡◌, ℕ, List, [], ◌∷◌, Option, Some, None, get_or, true, false, cond, sym, ◌∙◌, ap, refl, subst, inl, inr}
use Rattle.std.specs.Prelude.{map, Contains, option_map}
use Rattle.std.specs.List.{cons_option}
use Rattle.std.proofs.lemmas.Bool.{cases_Bool}
use Rattle.slotted_lists.proofs.Contained.{contains_head, contains_tail, contains_cases, Contains-nil, Contains-map, Contains-of_map}
use Rattle.slotted_lists.proofs.Members.{In, In-map, In-of_map, In-Contains, Contains-In}
use Rattle.slotted_lists.proofs.Options.{Some-same}
use Rattle.slotted_theory.specs.Nameless.{DTerm, moved}
use Rattle.slotted_theory.specs.Renaming.{Bijection, IsInjective}
use Rattle.slotted_theory.specs.FiniteMaps.{value_of, filled, with_values}
use Rattle.slotted_theory.specs.Shape.{free_names, number_in, shape}
use Rattle.slotted_theory.proofs.Bijections.{to-injective}
use Rattle.slotted_theory.proofs.Filled.{filled-injective}
use Rattle.slotted_theory.proofs.Shapes.{shape-moved}
use Rattle.slotted_model.specs.Ascending.{IsAscending, names}
use Rattle.slotted_model.specs.Applied.{Applied, keys, values, renamed_id}
use Rattle.slotted_model.specs.Classes.{canonical_node, IsFull}
use Rattle.slotted_model.specs.Correspondence.{AllDifferent, composite}
use Rattle.slotted_model.specs.Find.{find_class, find_map, used_slots, find, Linked}
use Rattle.slotted_model.specs.Ids.{term_eq}
use Rattle.slotted_model.specs.ProofList.{node_of}
use Rattle.slotted_model.specs.Normal.{normal}
use Rattle.slotted_model.specs.State.{Row, State, sources, normal_node, row_of, name_numbered, source_with_names, look_up_normal, look_up_node, look_up_tree}
use Rattle.slotted_model.specs.Rest.{UpToSymmetries, found_alike, turned_round, joined, FoundTogether, LinkedTo, IsRow, IsCurrent, Filed, Sane, AtRest, LookedUp, RestGives}
use Rattle.slotted_model.proofs.Data.Sets.{IsAscending-ascending, In-ascending, In-of_ascending}
use Rattle.slotted_model.proofs.Data.Options.{None-Some}
use Rattle.slotted_model.proofs.Data.Theory.{free_names-moved, get_or-number_in}
use Rattle.slotted_model.proofs.Data.Maps.{filled-pair, pair-filled}
use Rattle.slotted_model.proofs.Represented.Ids.{term_eq-true, term_eq-same}
use Rattle.slotted_model.proofs.Represented.Full.{full-ascending, full-renamed}
use Rattle.slotted_model.proofs.Represented.LookUps.{Renames, look_up-moved}
use Rattle.slotted_model.proofs.Finds.NormalIds.{found-renamed, found-again, found-valid, full-is_valid, used-by}
use Rattle.slotted_model.proofs.Correspondences.Pairs.{value_of-only}
use Rattle.slotted_model.proofs.Represented.RenamedIds.{full-bijection, normal-moves, normal-renamed}
use Rattle.slotted_model.proofs.Rebuilding.UpTo.{upto-renamed, upto-class, upto-together}

-- the numbers of a shape are numbers of free names of the node
pub shape-number : (d : DTerm) (k : ℕ) → In k (names (shape d)) → (x : ℕ) × In x (free_names d.args) × (k ≡ number_in (free_names d.args) x)
shape-number d k h =
    let xs : List ℕ = free_names d.args in
    In-of_map (number_in xs) xs k (subst (In k) (free_names-moved (number_in xs) d.args) (In-of_ascending k (free_names (shape d).args) h))

map-same : (xs : List ℕ) → map (λ x. x) xs ≡ xs
map-same [] = refl
map-same (x ∷ xs) = ap (λ ys. x ∷ ys) (map-same xs)

pub name_numbered-at : (d : DTerm) (x : ℕ) → In x (free_names d.args) → name_numbered d (number_in (free_names d.args) x) ≡ x
name_numbered-at d x h =
    let xs : List ℕ = free_names d.args in
    ap (λ ys. get_or ys (number_in xs x) 0) (sym (map-same xs)) ∙ get_or-number_in (λ y. y) xs x h

-- the name of a number moves with the names
pub name_numbered-moved : (f : ℕ → ℕ) (d : DTerm) (k : ℕ) → In k (names (shape d)) → name_numbered (moved f d) k ≡ f (name_numbered d k)
name_numbered-moved f d k h =
    let xs : List ℕ = free_names d.args in
    let r : (x : ℕ) × In x xs × (k ≡ number_in xs x) = shape-number d k h in
    ap (λ ys. get_or ys k 0) (free_names-moved f d.args)
    ∙ (ap (λ j. get_or (map f xs) j 0) r.2
    ∙ (get_or-number_in f xs r.0 r.1 ∙ ap f (sym (ap (name_numbered d) r.2 ∙ name_numbered-at d r.0 r.1))))

-- a shape has each number as the name of that number
pub name_numbered-shape : (d : DTerm) → shape d ≡ d → (k : ℕ) → In k (names d) → name_numbered d k ≡ k
name_numbered-shape d s k h =
    let xs : List ℕ = free_names d.args in
    let r : (x : ℕ) × In x xs × (k ≡ number_in xs x) = shape-number d k (subst (λ t. In k (names t)) (sym s) h) in
    let moved_names : map (number_in xs) xs ≡ xs = sym (free_names-moved (number_in xs) d.args) ∙ ap (λ (t : DTerm). free_names t.args) s in
    ap (name_numbered d) r.2
    ∙ (ap (λ ys. get_or ys (number_in xs r.0) 0) (sym moved_names) ∙ (get_or-number_in (number_in xs) xs r.0 r.1 ∙ sym r.2))

-- the row of a shape
row_here : (s : DTerm) (r : Row) (rows : List Row) → term_eq r.shape s ≡ true → row_of s (r ∷ rows) ≡ Some r
row_here s r rows e = ap (λ b. cond b (Some r) (row_of s rows)) e

row_later : (s : DTerm) (r : Row) (rows : List Row) → term_eq r.shape s ≡ false → row_of s (r ∷ rows) ≡ row_of s rows
row_later s r rows e = ap (λ b. cond b (Some r) (row_of s rows)) e

pub row_of-some : (s : DTerm) (rows : List Row) (r : Row) → row_of s rows ≡ Some r → Contains rows r × (r.shape ≡ s)
row_of-some s [] r p = absurd (None-Some r p)
row_of-some s (q ∷ rows) r p = elim (cases_Bool (term_eq q.shape s)) [
  | inl t ↦
      let e : q ≡ r = Some-same q r (sym (row_here s q rows t) ∙ p) in
      subst (λ x. Contains (q ∷ rows) x × (x.shape ≡ s)) e (contains_head q rows, term_eq-true q.shape s t)
  | inr f ↦
      let k : Contains rows r × (r.shape ≡ s) = row_of-some s rows r (sym (row_later s q rows f) ∙ p) in
      (contains_tail q rows r k.0, k.1)
]

pub row_of-there : (s : DTerm) (rows : List Row) (r : Row) → Contains rows r → r.shape ≡ s → (q : Row) × (row_of s rows ≡ Some q)
row_of-there s [] r c e = absurd (Contains-nil r c)
row_of-there s (q ∷ rows) r c e = elim (cases_Bool (term_eq q.shape s)) [
  | inl t ↦ (q, row_here s q rows t)
  | inr f ↦ elim (contains_cases q rows r c) [
    | inl p ↦ (q, row_here s q rows (term_eq-same q.shape s (ap (λ (x : Row). x.shape) (sym p) ∙ e)))
    | inr h ↦ let k = row_of-there s rows r h e in (k.0, row_later s q rows f ∙ k.1)
  ]
]

pub source-in : (rows : List Row) (r : Row) → Contains rows r → Contains (sources rows) r.source
source-in rows r c = Contains-map (λ (x : Row). x.source) rows r c

pub of_source : (rows : List Row) (o : ℕ) → Contains (sources rows) o → (r : Row) × Contains rows r × (r.source ≡ o)
of_source rows o c = Contains-of_map (λ (x : Row). x.source) rows o c

-- each source has one row
pub one_row : (rows : List Row) → AllDifferent (sources rows) → (r q : Row) → Contains rows r → Contains rows q → r.source ≡ q.source → r ≡ q
one_row [] d r q c k e = absurd (Contains-nil r c)
one_row (x ∷ rows) d r q c k e = elim (contains_cases x rows r c) [
  | inl p ↦ elim (contains_cases x rows q k) [
    | inl s ↦ p ∙ sym s
    | inr h ↦ absurd (d.0 (subst (Contains (sources rows)) (sym e ∙ ap (λ (y : Row). y.source) p) (source-in rows q h)))
  ]
  | inr h ↦ elim (contains_cases x rows q k) [
    | inl s ↦ absurd (d.0 (subst (Contains (sources rows)) (e ∙ ap (λ (y : Row). y.source) s) (source-in rows r h)))
    | inr j ↦ one_row rows d.1 r q h j e
  ]
]

-- composites over one list need only the values there
pub composite-agree : (A m n : List (ℕ × ℕ)) → ((s : ℕ) → In s (values A) → value_of m s ≡ value_of n s) → composite A m ≡ composite A n
composite-agree [] m n h = refl
composite-agree (p ∷ A) m n h = λ i. cons_option (option_map (λ u. (p.0, u)) (h p.1 (inl refl) i)) (composite-agree A m n (λ s k. h s (inr k)) i)

-- the source of a row with moved names
source_with_names-moved : (f : ℕ → ℕ) (d : DTerm) (m : List (ℕ × ℕ)) → ((k : ℕ) → In k (keys m) → In k (names (shape d))) →
    map (λ (p : ℕ × ℕ). (p.1, name_numbered (moved f d) p.0)) m ≡ with_values f (map (λ (p : ℕ × ℕ). (p.1, name_numbered d p.0)) m)
source_with_names-moved f d [] h = refl
source_with_names-moved f d (p ∷ m) h = λ i. (p.1, name_numbered-moved f d p.0 (h p.0 (inl refl)) i) ∷ source_with_names-moved f d m (λ k j. h k (inr j)) i

module _ (g : State) (linked : Linked g.nodes g.found) (filed : Filed g) where
  -- look-ups move with names
  pub look_up_normal-moved : (f : ℕ → ℕ) → IsInjective f → (d : DTerm) → look_up_normal g (moved f d) ≡ option_map (renamed_id f) (look_up_normal g d)
  look_up_normal-moved f inj d =
      ap (λ s. option_map (λ (r : Row). find g.found (source_with_names (moved f d) r)) (row_of s g.rows)) (shape-moved f inj d)
      ∙ go (row_of (shape d) g.rows) refl
    where
      go : (o : Option Row) → row_of (shape d) g.rows ≡ o → option_map (λ (r : Row). find g.found (source_with_names (moved f d) r)) o ≡ option_map (renamed_id f) (option_map (λ (r : Row). find g.found (source_with_names d r)) o)
      go None e = refl
      go (Some r) e =
          let k : Contains g.rows r × (r.shape ≡ shape d) = row_of-some (shape d) g.rows r e in
          let w : (j : ℕ) → In j (keys r.slots) → In j (names (shape d)) = λ j h. subst (λ t. In j (names t)) k.1 (subst (In j) (filed.each r k.0).numbers h) in
          let s : source_with_names (moved f d) r ≡ renamed_id f (source_with_names d r) = ap (λ (m : List (ℕ × ℕ)). (r.source, m)) (source_with_names-moved f d r.slots w) in
          ap Some (ap (find g.found) s ∙ found-renamed g.found f (source_with_names d r))

  pub look_up_node-moved : Renames (look_up_node g)
  look_up_node-moved f inj d = ap (look_up_normal g) (normal-moves g.found f d) ∙ look_up_normal-moved f inj (normal g.found d)

  pub look_up_tree-moved : Renames (look_up_tree g)
  look_up_tree-moved = look_up-moved (look_up_node g) look_up_node-moved

  -- a current row has the shape of the canonical node of its source
  pub current-shape : (r : Row) → Contains g.rows r → IsCurrent g r → shape (normal_node g r.source) ≡ r.shape
  current-shape r c cur =
      ap shape (sym cur.in_normal_form) ∙ (shape-moved (filled r.slots) (filled-injective r.slots (filed.each r c).injective) r.shape ∙ (filed.each r c).is_shape)

  module _ (r : Row) (c : Contains g.rows r) (cur : IsCurrent g r) (a : Applied) (full : IsFull g.nodes a) (e : a.0 ≡ r.source) where
    abbrev row : IsRow g r
    row = filed.each r c

    -- the node of the source in normal form, with the names of a
    abbrev d : DTerm
    d = moved (filled a.1) (moved (filled r.slots) r.shape)

    normal-is : normal g.found (node_of g.nodes a) ≡ d
    normal-is = normal-moves g.found (filled a.1) (canonical_node g.nodes a.0) ∙ ap (moved (filled a.1)) (ap (normal_node g) e ∙ sym cur.in_normal_form)

    shape-is : shape d ≡ r.shape
    shape-is =
        shape-moved (filled a.1) (filled-injective a.1 full.injective) (moved (filled r.slots) r.shape)
        ∙ (shape-moved (filled r.slots) (filled-injective r.slots row.injective) r.shape ∙ row.is_shape)

    slots-ascending : IsAscending (keys r.slots)
    slots-ascending = subst IsAscending (sym row.numbers) (IsAscending-ascending (free_names r.shape.args))

    -- the name of a number is that of its slot
    name-at : (k s : ℕ) → In (k, s) r.slots → name_numbered d k ≡ filled a.1 s
    name-at k s h =
        let i : In k (keys r.slots) = In-map (λ p. p.0) r.slots (k, s) h in
        let n : In k (names r.shape) = subst (In k) row.numbers i in
        let n1 : In k (names (shape r.shape)) = subst (λ t. In k (names t)) (sym row.is_shape) n in
        let n2 : In k (names (shape (moved (filled r.slots) r.shape))) =
        subst (λ t. In k (names t)) (sym (shape-moved (filled r.slots) (filled-injective r.slots row.injective) r.shape)) n1 in
        name_numbered-moved (filled a.1) (moved (filled r.slots) r.shape) k n2
        ∙ ap (filled a.1) (name_numbered-moved (filled r.slots) r.shape k n1
        ∙ (ap (filled r.slots) (name_numbered-shape r.shape row.is_shape k n) ∙ filled-pair r.slots k s slots-ascending h))

    abbrev W : List (ℕ × ℕ)
    W = (source_with_names d r).1

    W-pair : (s x : ℕ) → In (s, x) W → x ≡ filled a.1 s
    W-pair s x h =
        let q : (p : ℕ × ℕ) × In p r.slots × (◌≡◌ {A = ℕ × ℕ} (s, x) (p.1, name_numbered d p.0)) = In-of_map (λ (p : ℕ × ℕ). (p.1, name_numbered d p.0)) r.slots (s, x) h in
        ap (λ p. p.1) q.2 ∙ (name-at q.0.0 q.0.1 q.1 ∙ ap (filled a.1) (sym (ap (λ p. p.0) q.2)))

    W-by : (s : ℕ) → In s (names (normal_node g r.source)) → In (s, filled a.1 s) W
    W-by s h =
        let N : In s (free_names (moved (filled r.slots) r.shape).args) = subst (λ (t : DTerm). In s (free_names t.args)) (sym cur.in_normal_form) (In-of_ascending s (free_names (normal_node g r.source).args) h) in
        let q : (k : ℕ) × In k (free_names r.shape.args) × (s ≡ filled r.slots k) = In-of_map (filled r.slots) (free_names r.shape.args) s (subst (In s) (free_names-moved (filled r.slots) r.shape.args) N) in
        let i : In q.0 (keys r.slots) = subst (In q.0) (sym row.numbers) (In-ascending q.0 (free_names r.shape.args) q.1) in
        let p : In (q.0, s) r.slots = subst (λ t. In (q.0, t) r.slots) (sym q.2) (pair-filled r.slots q.0 slots-ascending i) in
        subst (λ x. In (s, x) W) (name-at q.0 s p) (In-map (λ (p : ℕ × ℕ). (p.1, name_numbered d p.0)) r.slots (q.0, s) p)

    -- what the source finds with these names is what the id finds
    found-is : find g.found (source_with_names d r) ≡ find g.found a
    found-is =
        let values_agree : (s : ℕ) → In s (values (find_map g.found r.source)) → value_of W s ≡ value_of a.1 s =
        λ s h.
        let u : Contains (used_slots g.found r.source) s = used-by g.found r.source s (Contains-In (values (find_map g.found r.source)) s h) in
        let w : Contains W (s, filled a.1 s) = Contains-In W (s, filled a.1 s) (W-by s (In-Contains (names (normal_node g r.source)) s (cur.covered s u))) in
        let k : In s (keys a.1) = In-Contains (keys a.1) s ((full-is_valid g.nodes g.found linked a full).has_slots s (subst (λ i. Contains (used_slots g.found i) s) (sym e) u)) in
        let v : In (s, filled a.1 s) a.1 = pair-filled a.1 s (full-ascending g.nodes a full) k in
        value_of-only W s (filled a.1 s) w (λ x y. W-pair s x (In-Contains W (s, x) y))
        ∙ sym (value_of-only a.1 s (filled a.1 s) (Contains-In a.1 (s, filled a.1 s) v) (λ x y. sym (filled-pair a.1 s x (full-ascending g.nodes a full) (In-Contains a.1 (s, x) y)))) in
        (λ i. (find_class g.found r.source, composite-agree (find_map g.found r.source) W a.1 values_agree i))
        ∙ (λ i. (find_class g.found (sym e i), composite (find_map g.found (sym e i)) a.1))

    -- the node of the source of a current row is looked up
    pub current-look_up : look_up_node g (node_of g.nodes a) ≡ Some (find g.found a)
    current-look_up =
        let there : (q : Row) × (row_of (shape d) g.rows ≡ Some q) = row_of-there (shape d) g.rows r c (sym shape-is) in
        let k : Contains g.rows there.0 × (there.0.shape ≡ shape d) = row_of-some (shape d) g.rows there.0 there.1 in
        let same : there.0 ≡ r = one_row g.rows filed.once there.0 r k.0 c (filed.shapes there.0 r k.0 c (k.1 ∙ shape-is)) in
        ap (look_up_normal g) normal-is
        ∙ (ap (option_map (λ (q : Row). find g.found (source_with_names d q))) (there.1 ∙ ap Some same) ∙ ap Some found-is)

-- what rest gives
module _ (g : State) (rest : AtRest g) where
  abbrev sane : Sane g
  sane = rest.sane

  abbrev linked : Linked g.nodes g.found
  linked = sane.sound.linked

  pub rest-current : (r : Row) → Contains g.rows r → IsCurrent g r
  rest-current r c = sane.filed.current r c (λ w. Contains-nil r.source (subst (λ xs. Contains xs r.source) rest.nothing_waits w))

  pub rest-nodes : (a : Applied) → IsFull g.nodes a → LookedUp g a
  rest-nodes a full =
      let l : (o : ℕ) × Contains (sources g.rows) o × LinkedTo g a.0 o = rest.represents.linked a.0 full.in_range in
      let t : LinkedTo g a.0 l.0 = l.2 in
      let r : (q : Row) × Contains g.rows q × (q.source ≡ l.0) = of_source g.rows l.0 l.1 in
      let p : (π : Bijection) × (renamed_id π.to t.left ≡ a) = full-bijection g.nodes t.left a t.left_full full t.left_class in
      let f : ℕ → ℕ = p.0.to in
      let inj : IsInjective f = to-injective p.0 in
      let b : Applied = renamed_id f t.right in
      let fb : IsFull g.nodes b = full-renamed g.nodes t.right t.right_full f (λ x y h k. inj x y) in
      let e : b.0 ≡ r.0.source = t.right_class ∙ sym r.2 in
      let cur : IsCurrent g r.0 = rest-current r.0 r.1 in
      let equal : UpToSymmetries g a b = subst (λ x. UpToSymmetries g x b) p.1 (upto-renamed g f inj t.equal) in
      let vb = full-is_valid g.nodes g.found linked b fb in
      let again : find g.found (find g.found b) ≡ find g.found b = found-again g.nodes g.found linked b vb in
      let same : normal g.found (node_of g.nodes a) ≡ normal g.found (node_of g.nodes b) =
      ap (λ x. normal g.found (node_of g.nodes x)) (sym p.1)
      ∙ (normal-renamed g.nodes g.found t.left t.left_full f ∙ (ap (moved f) t.same ∙ sym (normal-renamed g.nodes g.found t.right t.right_full f))) in
      let shape_of : (x : Applied) → IsFull g.nodes x → shape (normal g.found (node_of g.nodes x)) ≡ shape (normal_node g x.0) =
      λ x fx. ap shape (normal-moves g.found (filled x.1) (canonical_node g.nodes x.0)) ∙ shape-moved (filled x.1) (filled-injective x.1 fx.injective) (normal_node g x.0) in
      record {
        answer = find g.found b;
        looked_up = ap (look_up_normal g) same ∙ current-look_up g linked sane.filed r.0 r.1 cur b fb e;
        normal_form = again;
        together = upto-together g rest.aligned (joined equal (found_alike vb (found-valid g.nodes g.found linked b vb) (sym again)));
        row = r.0;
        filed = r.1;
        shape_of_row = sym (current-shape g linked sane.filed r.0 r.1 cur) ∙ (ap (λ i. shape (normal_node g i)) (sym e) ∙ (sym (shape_of b fb) ∙ (ap shape (sym same) ∙ shape_of a full)));
        class_of_row = ap (find_class g.found) (sym e) ∙ sym (upto-class g equal);
      }

  pub rest-gives : RestGives g
  rest-gives = record {
    nodes = rest-nodes;
    asserted = λ p h x a b fa fb e. upto-together g rest.aligned (rest.represents.asserted p h x a b fa fb e);
  }

-- at rest ids whose nodes have one normal form are found together
pub rest-congruent : (g : State) → AtRest g → (a b : Applied) → IsFull g.nodes a → IsFull g.nodes b → normal g.found (node_of g.nodes a) ≡ normal g.found (node_of g.nodes b) → FoundTogether g a b
rest-congruent g rest a b fa fb e =
    let x : LookedUp g a = rest-nodes g rest a fa in
    let y : LookedUp g b = rest-nodes g rest b fb in
    let same : x.answer ≡ y.answer = Some-same x.answer y.answer (sym x.looked_up ∙ (ap (look_up_normal g) e ∙ y.looked_up)) in
    upto-together g rest.aligned (joined (subst (UpToSymmetries g a) same x.together.equal) (turned_round y.together.equal))
