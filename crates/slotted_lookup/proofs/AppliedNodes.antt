-- A filed node with the names of an id for its numbers is looked up as what the id finds.
use Rattle.std.proofs.Common.{◌≡◌, ◌≢◌, ◌<◌, ℕ, List, [], ◌∷◌, Some, length, map, refl, ap, ◌∙◌, sym, subst, inl, inr, arith}
use Rattle.std.specs.Prelude.{Contains, option_map}
use Rattle.std.specs.List.{cons_option, zip}
use Rattle.slotted_lists.proofs.Contained.{contains_head, contains_tail}
use Rattle.slotted_lists.proofs.Members.{In, In-Contains, In-map}
use Rattle.slotted_lists.proofs.Maps.{value_of-first, value_of-rest, zip-keys_values, keys-with_values, values-with_values}
use Rattle.slotted_theory.specs.FiniteMaps.{filled, value_of, with_values, HasValue, IsInjectiveMap}
use Rattle.slotted_theory.specs.Nameless.{moved}
use Rattle.slotted_theory.proofs.ByBijection.{moved-injective}
use Rattle.slotted_theory.proofs.Filled.{filled-injective}
use Rattle.slotted_nodes.specs.Form.{Form}
use Rattle.slotted_languages.specs.NodeTerm.{nameless_node}
use Rattle.slotted_languages.specs.Shape.{Fits, shape}
use Rattle.slotted_languages.proofs.Shapes.{keys-shape, shape-same, values-shape}
use Rattle.slotted_model.specs.Applied.{Applied, keys, values, map_on}
use Rattle.slotted_model.specs.Ascending.{IsAscending}
use Rattle.slotted_model.specs.Classes.{canonical_node}
use Rattle.slotted_model.specs.Correspondence.{composite}
use Rattle.slotted_model.specs.Find.{Entry, find, find_map, entry_at}
use Rattle.slotted_model.specs.Normal.{normal}
use Rattle.slotted_model.specs.Rest.{IsCurrent}
use Rattle.slotted_model.specs.State.{State, look_up_normal, normal_node}
use Rattle.slotted_model.proofs.Correspondences.Pairs.{Contains-of_value, Contains-value}
use Rattle.slotted_model.proofs.Finds.Finding.{find_map-full}
use Rattle.slotted_model.proofs.Data.Maps.{keys-map_on, map_on-filled, values-map_on}
use Rattle.slotted_model.proofs.Finds.NormalIds.{found-full, used-by}
use Rattle.slotted_model.proofs.Rebuilding.Refiling.{canonical-valid, normal-again}
use Rattle.slotted_model.proofs.Represented.RenamedIds.{normal-moves}
use Rattle.slotted_model.proofs.Data.Sets.{below_each}
use Rattle.slotted_proofs.proofs.Bridges.{ascends, injective_differ}
use Rattle.slotted_classes.specs.Finding.{IsFindable}
use Rattle.slotted_classes.specs.Kept.{Kept, nodes_of, entries_of}
use Rattle.slotted_classes.specs.Names.{between}
use Rattle.slotted_classes.proofs.KeptLists.{length-mapped}
use Rattle.slotted_hashcons.specs.Filed.{filed_of}
use Rattle.slotted_hashcons.specs.FiledRows.{Rows, row_of_entry}
use Rattle.slotted_hashcons.proofs.FiledRows.{row-filed}
use Rattle.slotted_hashcons.specs.FoundNodes.{IsFoundNode}
use Rattle.slotted_hashcons.specs.WellFiled.{IsKeyed, IsWellFiled, state_in}
use Rattle.slotted_hashcons.proofs.KeyedNodes.{own-numbers}
use Rattle.slotted_hashcons.proofs.StaleRows.{current-found}
use Rattle.slotted_lookup.specs.Enodes.{IsMet}
use Rattle.slotted_lookup.specs.LookUp.{looked_up}
use Rattle.slotted_lookup.proofs.LookUpRows.{some-looked_up}
use Rattle.slotted_lookup.proofs.RowNames.{find-beside}

-- first one map, then another, where this is known at each value of the first
composite-is : (F W A : List (ℕ × ℕ)) → keys F ≡ keys A → ((t s u : ℕ) → Contains F (t, s) → Contains A (t, u) → value_of W s ≡ Some u) → composite F W ≡ A
composite-is [] W [] e h = refl
composite-is [] W (q ∷ A) e h = cc
composite-is (p ∷ F) W [] e h = cc
composite-is (p ∷ F) W (q ∷ A) e h =
    let k : p.0 ≡ q.0 = cc in
    let rest : keys F ≡ keys A = cc in
    let here : Contains (q ∷ A) (p.0, q.1) = subst (λ x. Contains (q ∷ A) (x, q.1)) (sym k) (contains_head q A) in
    let v : value_of W p.1 ≡ Some q.1 = h p.0 p.1 q.1 (contains_head p F) here in
    let later : composite F W ≡ A = composite-is F W A rest (λ t s u x y. h t s u (contains_tail p F (t, s) x) (contains_tail q A (t, u) y)) in
    (λ i. cons_option (option_map (λ u. (p.0, u)) (v i)) (later i)) ∙ ap (λ x. (x, q.1) ∷ A) k

has-value : (m : List (ℕ × ℕ)) (x v : ℕ) → In (x, v) m → HasValue m v
has-value [] x v h = absurd h
has-value (p ∷ m) x v (inl e) = inl (ap (λ q. q.1) e)
has-value (p ∷ m) x v (inr h) = inr (has-value m x v h)

-- the key of a later pair is another one
later-key : (p : ℕ × ℕ) (m : List (ℕ × ℕ)) (x v : ℕ) → IsAscending (keys (p ∷ m)) → In (x, v) m → x ≢ p.0
later-key p m x v a h e =
    let l : p.0 < x = below_each p.0 (keys m) a.0 x (In-map (λ (q : ℕ × ℕ). q.0) m (x, v) h) in
    omega (arith, l, e)

-- two maps with the same keys: what the first has goes to what the second has there
beside-value : (m n : List (ℕ × ℕ)) → keys m ≡ keys n → IsAscending (keys m) → IsInjectiveMap m → (x s u : ℕ) → In (x, s) m → In (x, u) n → value_of (zip (values m) (values n)) s ≡ Some u
beside-value [] n e a i x s u h k = absurd h
beside-value (p ∷ m) [] e a i x s u h k = absurd k
beside-value (p ∷ m) (q ∷ n) e a i x s u h k =
    let same : p.0 ≡ q.0 = cc in
    let rest : keys m ≡ keys n = cc in
    let others : IsAscending (keys (q ∷ n)) = subst IsAscending e a in
    let W : List (ℕ × ℕ) = zip (values m) (values n) in
    elim h [
      | inl d ↦ elim k [
        | inl c ↦ value_of-first (p.1, q.1) W s (ap (λ y. y.1) d) ∙ ap (λ y. Some y.1) (sym c)
        | inr c ↦ absurd (later-key q n x u others c (ap (λ y. y.0) d ∙ same))
      ]
      | inr d ↦ elim k [
        | inl c ↦ absurd (later-key p m x s a d (ap (λ y. y.0) c ∙ sym same))
        | inr c ↦ value_of-rest (p.1, q.1) W s (λ z. i.0 (subst (HasValue m) z (has-value m x s d))) ∙ beside-value m n rest a.1 i.1 x s u d c
      ]
    ]

-- a node whose shape has these names for its numbers
module _ (f : Form) (fits : Fits f) (own : (shape f).0 ≡ f) (n : List (ℕ × ℕ)) (numbers : keys n ≡ keys (shape f).1) (inj : IsInjectiveMap n) (c : Form) (back : moved (filled n) (nameless_node f) ≡ nameless_node c) where
  renamed : ((shape f).0 ≡ (shape c).0) × ((shape c).1 ≡ with_values (filled n) (shape f).1)
  renamed = shape-same (filled n) (filled-injective n inj) f c back

  rises : IsAscending (keys n)
  rises = subst IsAscending (sym numbers) (ascends (keys (shape f).1) (keys-shape f))

  -- each number of a shape is its own name there
  itself : with_values (filled n) (shape f).1 ≡ n
  itself =
      let m : List (ℕ × ℕ) = (shape f).1 in
      let K : List ℕ = keys n in
      let ks : keys (with_values (filled n) m) ≡ K = keys-with_values (filled n) m ∙ sym numbers in
      let same : values m ≡ K = values-shape f ∙ (sym (own-numbers f fits own) ∙ sym numbers) in
      let vs : values (with_values (filled n) m) ≡ map (filled n) K = values-with_values (filled n) m ∙ ap (map (filled n)) same in
      let on : zip K (map (filled n) K) ≡ map_on (filled n) K =
      (λ j. zip (sym (keys-map_on (filled n) K) j) (sym (values-map_on (filled n) K) j)) ∙ zip-keys_values (map_on (filled n) K) in
      sym (zip-keys_values (with_values (filled n) m)) ∙ ((λ j. zip (ks j) (vs j)) ∙ (on ∙ map_on-filled n rises))

  pub shape-named : ◌≡◌ {A = Form × List (ℕ × ℕ)} (f, n) (shape c)
  shape-named = λ j. ((sym own ∙ renamed.0) j, (sym itself ∙ sym renamed.1) j)

-- a class of which a node is filed
module _ (k : Kept) (r : Rows) (well : IsWellFiled k r) (o : ℕ) (f : Form) (m : List (ℕ × ℕ)) (at : filed_of r.filed o ≡ Some (f, m)) where
  pub filed-key : IsKeyed (f, m)
  filed-key = well.keyed o (f, m) at

  pub filed-in_nodes : o < length (nodes_of k)
  filed-in_nodes = (well.sane.filed.each (row_of_entry (f, (o, m))) (row-filed r.filed o f m at)).in_range

  -- and that does not wait
  pub filed-node : ¬ Contains r.waiting o → IsFoundNode k o f m
  filed-node quiet = current-found k (state_in k r) well.sane refl refl o f m filed-key.fits filed-key.itself (row-filed r.filed o f m at) quiet filed-key.numbers

  -- what an id finds that finds the same class has a name for each slot of it
  pub same-keys : (a : Applied) → IsFindable k a → IsMet k o a → keys (find_map (entries_of k) o) ≡ keys (find (entries_of k) a).1
  same-keys a valid meets =
      (find_map-full (nodes_of k) (entries_of k) well.sane.sound.linked o filed-in_nodes).slots
      ∙ (ap (λ c. keys (entry_at (entries_of k) c).pairs) (sym meets) ∙ sym (found-full (nodes_of k) (entries_of k) well.sane.sound.linked a valid).slots)

-- such a class, and such an id
module _ (k : Kept) (r : Rows) (well : IsWellFiled k r) (o : ℕ) (f : Form) (m : List (ℕ × ℕ)) (at : filed_of r.filed o ≡ Some (f, m)) (quiet : ¬ Contains r.waiting o)
    (a : Applied) (valid : IsFindable k a) (meets : IsMet k o a) where
  abbrev g : State
  g = state_in k r

  abbrev found : List Entry
  found = entries_of k

  kept : IsKeyed (f, m)
  kept = filed-key k r well o f m at

  node : IsFoundNode k o f m
  node = filed-node k r well o f m at quiet

  -- the key is in normal form
  key-normal : normal found (nameless_node f) ≡ nameless_node f
  key-normal =
      let again : normal found (normal_node g o) ≡ normal_node g o =
      normal-again g well.sane.sound.linked (canonical_node (nodes_of k) o) (canonical-valid g well.sane o (filed-in_nodes k r well o f m at)) in
      moved-injective (filled m) (filled-injective m node.different) (normal found (nameless_node f)) (nameless_node f)
      (sym (normal-moves found (filled m) (nameless_node f)) ∙ (ap (normal found) node.back ∙ (again ∙ sym node.back)))

  -- the slots that finds use stand in it
  stands : (t s : ℕ) → Contains (find_map found o) (t, s) → (x : ℕ) × Contains m (x, s)
  stands t s p =
      let current : IsCurrent g (row_of_entry (f, (o, m))) = well.sane.filed.current (row_of_entry (f, (o, m))) (row-filed r.filed o f m at) quiet in
      Contains-of_value m s ((node.slots s).1 (current.covered s (used-by found o s (Contains-value (find_map found o) t s p))))

  -- where the names of numbers are those that the id has for what their slots stand for
  module _ (n : List (ℕ × ℕ)) (numbers : keys n ≡ keys m) (inj : IsInjectiveMap n)
      (named : (t s u x : ℕ) → Contains (find_map found o) (t, s) → Contains (find found a).1 (t, u) → Contains m (x, s) → Contains n (x, u)) where
    numbers-rise : IsAscending (keys m)
    numbers-rise = subst IsAscending (sym kept.numbers) (ascends (keys (shape f).1) (keys-shape f))

    as-many : length (values m) ≡ length (values n)
    as-many = length-mapped (λ (p : ℕ × ℕ). p.1) m
        ∙ (sym (length-mapped (λ (p : ℕ × ℕ). p.0) m) ∙ (ap length (sym numbers) ∙ (length-mapped (λ (p : ℕ × ℕ). p.0) n ∙ sym (length-mapped (λ (p : ℕ × ℕ). p.1) n))))

    finds : find found (o, between m n) ≡ find found a
    finds =
        let W : List (ℕ × ℕ) = zip (values m) (values n) in
        let whole : composite (find_map found o) W ≡ (find found a).1 = composite-is (find_map found o) W (find found a).1 (same-keys k r well o f m at a valid meets) (λ t s u p q.
        let x = stands t s p in
        beside-value m n (sym numbers) numbers-rise node.different x.0 s u (In-Contains m (x.0, s) x.1) (In-Contains n (x.0, u) (named t s u x.0 p q x.1))) in
        find-beside found o m n (injective_differ m node.different) as-many ∙ (λ j. (sym meets j, whole j))

    pub named-looked_up : (c : Form) → Fits c → moved (filled n) (nameless_node f) ≡ nameless_node c → looked_up k r c ≡ Some (find found a)
    named-looked_up c fits back =
        let is : ◌≡◌ {A = Form × List (ℕ × ℕ)} (f, n) (shape c) = shape-named f kept.fits kept.itself n (numbers ∙ kept.numbers) inj c back in
        let stays : normal found (nameless_node c) ≡ nameless_node c =
        ap (normal found) (sym back) ∙ (normal-moves found (filled n) (nameless_node f) ∙ (ap (moved (filled n)) key-normal ∙ back)) in
        ap (look_up_normal g) stays ∙ (sym (some-looked_up k r well c f n fits kept.fits is o m at) ∙ ap Some finds)
