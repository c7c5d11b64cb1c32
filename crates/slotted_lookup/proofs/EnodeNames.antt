-- The names that an id has for the numbers of a filed node, with fresh slots beside them, or with the other numbers as they are.
use Rattle.std.proofs.Common.{◌≡◌, ℕ, List, Option, Some, None, true, map, refl, ap, ◌∙◌, sym, subst, inl, inr}
use Rattle.std.specs.Prelude.{◌⊎◌, Contains, IsTrue, unwrap_or}
use Rattle.std.proofs.lemmas.Bool.{false≢true}
use Rattle.std.proofs.lemmas.List.Elements.{All-contains}
use Rattle.slotted_lists.proofs.Contained.{Contains-map}
use Rattle.slotted_lists.proofs.Members.{Contains-In, In, In-Contains, In-right}
use Rattle.slotted_lists.proofs.Maps.{In-is_among}
use Rattle.slotted_theory.specs.FiniteMaps.{filled, value_of, IsInjectiveMap}
use Rattle.slotted_theory.specs.Nameless.{moved}
use Rattle.slotted_slots.specs.Ascending as rising
use Rattle.slotted_slots.specs.Maps as slots
use Rattle.slotted_slots.specs.Table.{Table, fresh_slot, is_known}
use Rattle.slotted_nodes.specs.Form.{Form}
use Rattle.slotted_languages.specs.Fresh.{IsRenamedFresh}
use Rattle.slotted_languages.specs.NodeTerm.{nameless_node, free_names_of}
use Rattle.slotted_languages.specs.Shape.{Fits, firsts, shape}
use Rattle.slotted_languages.proofs.Shapes.{keys-shape}
use Rattle.slotted_model.specs.Applied.{Applied, keys, values, map_on}
use Rattle.slotted_model.specs.Ascending.{IsAscending}
use Rattle.slotted_model.specs.Correspondence.{IsFullMap, IsPartialInjection, same_names}
use Rattle.slotted_model.specs.Find.{Entry, find, find_map}
use Rattle.slotted_model.proofs.Correspondences.FullMaps.{full-in_order, full-partial, same_names-by, same_names-over, same_names-partial}
use Rattle.slotted_model.proofs.Correspondences.Pairs.{Contains-key, Contains-of_key, Contains-of_value, Contains-value, Contains-value_of}
use Rattle.slotted_model.proofs.Correspondences.PartialInjections.{composite-by, composite-over, composite-partial, value_of-in_order}
use Rattle.slotted_model.proofs.Finds.Finding.{find_map-full, found_keys}
use Rattle.slotted_model.proofs.Data.Maps.{IsInjectiveMap-map_on, filled-map_on, keys-map_on}
use Rattle.slotted_model.proofs.Finds.NormalIds.{found-full, found-name}
use Rattle.slotted_model.proofs.Data.Theory.{moved-agrees}
use Rattle.slotted_proofs.proofs.Bridges.{ascends, own_full, value_of-model}
use Rattle.slotted_classes.specs.Finding.{IsFindable}
use Rattle.slotted_classes.specs.Kept.{Kept, nodes_of, entries_of}
use Rattle.slotted_classes.specs.Names.{IsNumeric, put, with_put}
use Rattle.slotted_classes.proofs.NamePairs.{In-firsts}
use Rattle.slotted_classes.proofs.PutNames.{AreNumeric, IsPutApart, fresh-apart, numeric-shape, put_own, putting, putting-fits, putting-injective, putting-moved, putting-put}
use Rattle.slotted_hashcons.specs.Filed.{HasKey, filed_of}
use Rattle.slotted_hashcons.specs.FiledRows.{Rows}
use Rattle.slotted_hashcons.specs.FoundNodes.{IsFoundNode}
use Rattle.slotted_hashcons.specs.WellFiled.{IsKeyed, IsWellFiled}
use Rattle.slotted_hashcons.proofs.KeyedNodes.{own-numbers}
use Rattle.slotted_lookup.specs.Enodes.{AllKnownTo, IsLookedUpAs, IsMet, names_beside_of}
use Rattle.slotted_lookup.proofs.AppliedNodes.{filed-in_nodes, filed-key, filed-node, named-looked_up, same-keys, shape-named}

module _ (k : Kept) (r : Rows) (well : IsWellFiled k r) (o : ℕ) (f : Form) (m : List (ℕ × ℕ)) (at : filed_of r.filed o ≡ Some (f, m)) (quiet : ¬ Contains r.waiting o)
    (a : Applied) (valid : IsFindable k a) (meets : IsMet k o a) where
  abbrev found : List Entry
  found = entries_of k

  abbrev F : List (ℕ × ℕ)
  F = find_map found o

  abbrev A : List (ℕ × ℕ)
  A = (find found a).1

  abbrev w : List (ℕ × ℕ)
  w = names_beside_of k o m a

  kept : IsKeyed (f, m)
  kept = filed-key k r well o f m at

  node : IsFoundNode k o f m
  node = filed-node k r well o f m at quiet

  full-m : IsFullMap (keys m) m
  full-m = own_full m (subst rising.IsAscending (sym kept.numbers) (keys-shape f)) node.different

  full-F : IsFullMap (keys F) F
  full-F = subst (λ K. IsFullMap K F) (sym whole.slots) whole
    where
      whole : IsFullMap (found_keys (nodes_of k) found well.sane.sound.linked o) F
      whole = find_map-full (nodes_of k) found well.sane.sound.linked o (filed-in_nodes k r well o f m at)

  full-A : IsFullMap (keys F) A
  full-A = subst (λ K. IsFullMap K A) (sym whole.slots ∙ sym (same-keys k r well o f m at a valid meets)) whole
    where
      whole : IsFullMap (found_keys (nodes_of k) found well.sane.sound.linked a.0) A
      whole = found-full (nodes_of k) found well.sane.sound.linked a valid

  partial : IsPartialInjection (keys m) (values A) w
  partial = composite-partial (keys m) (keys F) (values A) (same_names m F) A (same_names-partial (keys m) (keys F) m F full-m full-F) (full-partial (keys F) (values A) A full-A (λ t u c. Contains-value A t u c))

  beside : (t s u x : ℕ) → Contains F (t, s) → Contains A (t, u) → Contains m (x, s) → Contains w (x, u)
  beside t s u x p q c = composite-by (keys F) (same_names m F) A (full-in_order (keys F) A full-A) x t u (same_names-by (keys F) m F full-F x t s c p) q

  -- each of these names is one of the id
  of-id : (x u : ℕ) → Contains w (x, u) → Contains (values a.1) u
  of-id x u c =
      let p = composite-over (same_names m F) A x u c in
      let q = found-name found a p.0 u p.2 in
      Contains-value a.1 q.0 u q.2

  -- a name stands for one number
  same-value : (x z u v : ℕ) → slots.value_of w x ≡ Some u → slots.value_of w z ≡ Some v → u ≡ v → x ≡ z
  same-value x z u v i j same =
      partial.injective x z v (Contains-value_of w x v (sym (value_of-model w x) ∙ (i ∙ ap Some same))) (Contains-value_of w z v (sym (value_of-model w z) ∙ j))

  numbers-are : keys m ≡ firsts (free_names_of f)
  numbers-are = kept.numbers ∙ own-numbers f kept.fits kept.itself

  free : (x : ℕ) → In x (keys m) → In x (free_names_of f)
  free x h = (In-firsts x (free_names_of f)).0 (subst (In x) numbers-are h)

  pub a-number : (x : ℕ) → In x (free_names_of f) → In x (keys m)
  a-number x h = subst (In x) (sym numbers-are) ((In-firsts x (free_names_of f)).1 h)

  rises : IsAscending (keys m)
  rises = subst IsAscending (sym kept.numbers) (ascends (keys (shape f).1) (keys-shape f))

  -- where each number has the name that the id has for it, and different numbers have different names
  module _ (by : ℕ → ℕ) (knows : (x u : ℕ) → slots.value_of w x ≡ Some u → by x ≡ u) (apart : (x z : ℕ) → In x (free_names_of f) → In z (free_names_of f) → by x ≡ by z → x ≡ z)
      (c : Form) (fits : Fits c) (renamed : nameless_node c ≡ moved by (nameless_node f)) where
    abbrev n : List (ℕ × ℕ)
    n = map_on by (keys m)

    named : (t s u x : ℕ) → Contains F (t, s) → Contains A (t, u) → Contains m (x, s) → Contains n (x, u)
    named t s u x p q d =
        let e : value_of w x ≡ Some u = value_of-in_order (keys m) w partial.in_order x u (beside t s u x p q d) in
        subst (λ y. Contains n (x, y)) (knows x u (value_of-model w x ∙ e)) (Contains-map {Y = ℕ × ℕ} (λ y. (y, by y)) (keys m) x (Contains-key m x s d))

    numbers : keys n ≡ keys m
    numbers = keys-map_on by (keys m)

    once : IsInjectiveMap n
    once = IsInjectiveMap-map_on by (keys m) (λ x z i j e. apart x z (free x i) (free z j) e) rises

    back : moved (filled n) (nameless_node f) ≡ nameless_node c
    back = moved-agrees (filled n) by (nameless_node f) (λ x h. filled-map_on by (keys m) x (a-number x h)) ∙ sym renamed

    -- the node is looked up as what the id finds
    pub by-looked_up : IsLookedUpAs k r a c
    by-looked_up = named-looked_up k r well o f m at quiet a valid meets n numbers once named c fits back

    -- and is filed by the key
    pub by-key : HasKey r.filed o (shape c).0
    by-key =
        let shapes : ◌≡◌ {A = Form × List (ℕ × ℕ)} (f, n) (shape c) = shape-named f kept.fits kept.itself n (numbers ∙ kept.numbers) once c back in
        let same : f ≡ (shape c).0 = ap (λ (p : Form × List (ℕ × ℕ)). p.0) shapes in
        (m, subst (λ h. filed_of r.filed o ≡ Some (h, m)) same at)

  -- with fresh slots for the other numbers
  module _ (t : Table) (known : AllKnownTo t (values a.1)) (c : Form) (fits : Fits c) (is : IsRenamedFresh t w f c) where
    is-known : (x u : ℕ) → slots.value_of w x ≡ Some u → is_known t u ≡ true
    is-known x u e = All-contains (λ z. IsTrue (is_known t z)) (values a.1) u known (of-id x u (Contains-value_of w x u (sym (value_of-model w x) ∙ e)))

    -- different numbers have different names
    apart : (x z : ℕ) → In x (free_names_of f) → In z (free_names_of f) → is.by x ≡ is.by z → x ≡ z
    apart x z hx hz e = go (slots.value_of w x) (slots.value_of w z) refl refl
      where
        go : (p q : Option ℕ) → slots.value_of w x ≡ p → slots.value_of w z ≡ q → x ≡ z
        go (Some u) (Some v) i j = same-value x z u v i j (sym (is.known x u i) ∙ (e ∙ is.known z v j))
        go (Some u) None i j =
            absurd (false≢true (sym (is.unused z (In-is_among (free_names_of f) z hz) j) ∙ (ap (is_known t) (sym e ∙ is.known x u i) ∙ is-known x u i)))
        go None (Some v) i j =
            absurd (false≢true (sym (is.unused x (In-is_among (free_names_of f) x hx) i) ∙ (ap (is_known t) (e ∙ is.known z v j) ∙ is-known z v j)))
        go None None i j = is.differ x z (In-is_among (free_names_of f) x hx) i (In-is_among (free_names_of f) z hz) e

    pub beside-looked_up : IsLookedUpAs k r a c
    beside-looked_up = by-looked_up is.by is.known apart c fits is.renamed

    pub beside-key : HasKey r.filed o (shape c).0
    beside-key = by-key is.by is.known apart c fits is.renamed

  -- with the other numbers as they are, where the id's names are fresh slots
  module _ (new : (v : ℕ) → Contains (values a.1) v → (i : ℕ) × (v ≡ fresh_slot i)) where
    new-value : (v : ℕ) → In v (values w) → (i : ℕ) × (v ≡ fresh_slot i)
    new-value v h =
        let p = Contains-of_value w v (Contains-In (values w) v h) in
        new v (of-id p.0 v p.1)

    numeric : AreNumeric (keys w)
    numeric x h =
        let p = Contains-of_key w x (Contains-In (keys w) x h) in
        let q = composite-over (same_names m F) A x p.0 p.1 in
        let s = same_names-over m F x q.0 q.1 in
        (numeric-shape f).1 x (subst (In x) kept.numbers (In-Contains (keys m) x (Contains-key m x s.0 s.1)))

    numbers-apart : IsPutApart w
    numbers-apart = fresh-apart w (λ x z u i j. same-value x z u u i j refl) new-value

    abbrev by : ℕ → ℕ
    by = putting f kept.fits w numeric numbers-apart

    knows : (x u : ℕ) → slots.value_of w x ≡ Some u → by x ≡ u
    knows x u e =
        let h = In-Contains (keys w) x (Contains-key w x u (Contains-value_of w x u (sym (value_of-model w x) ∙ e))) in
        putting-put f kept.fits w numeric numbers-apart x (In-right x (shape f).0.names (keys w) h) ∙ ap (λ o. unwrap_or o x) e

    pub put-fits : Fits (with_put w f)
    put-fits = subst (λ s. Fits (with_put w s)) kept.itself (putting-fits f kept.fits w numeric numbers-apart)

    put-renamed : nameless_node (with_put w f) ≡ moved by (nameless_node f)
    put-renamed = sym (subst (λ s. moved by (nameless_node s) ≡ nameless_node (with_put w s)) kept.itself (putting-moved f kept.fits w numeric numbers-apart))

    by-apart : (x z : ℕ) → In x (free_names_of f) → In z (free_names_of f) → by x ≡ by z → x ≡ z
    by-apart x z hx hz e = putting-injective f kept.fits w numeric numbers-apart x z e

    pub put-looked_up : IsLookedUpAs k r a (with_put w f)
    put-looked_up = by-looked_up by knows by-apart (with_put w f) put-fits put-renamed

    pub put-key : HasKey r.filed o (shape (with_put w f)).0
    put-key = by-key by knows by-apart (with_put w f) put-fits put-renamed

    -- each name is one of the id, or a number
    pub put-names : (x : ℕ) → Contains (with_put w f).names x → Contains (values a.1) x ⊎ IsNumeric x
    put-names x h = elim (put_own w f.names (subst (λ (s : Form). AreNumeric s.names) kept.itself (numeric-shape f).0) x (In-Contains (map (put w) f.names) x h)) [
      | inl i ↦
          let p = Contains-of_value w x (Contains-In (values w) x i) in
          inl (of-id p.0 x p.1)
      | inr n ↦ inr n
    ]
