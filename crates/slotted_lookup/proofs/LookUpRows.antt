-- The row that a node in normal form is looked up by is that of the class of which its shape is filed, if there is one.
use Rattle.std.proofs.Common.{◌≡◌, ℕ, List, Option, Some, None, true, length, map, refl, ap, ◌∙◌, sym, subst}
use Rattle.std.specs.Prelude.{Contains, option_map}
use Rattle.std.specs.List.{zip}
use Rattle.slotted_lists.proofs.Maps.{values-beside}
use Rattle.slotted_theory.specs.Nameless.{DTerm}
use Rattle.slotted_theory.specs.FiniteMaps.{filled, IsInjectiveMap}
use Rattle.slotted_theory.specs.Shape.{free_names}
use Rattle.slotted_theory.specs.Shape as theory
use Rattle.slotted_theory.proofs.Filled.{filled-injective}
use Rattle.slotted_theory.proofs.Shapes.{shape-moved}
use Rattle.slotted_nodes.specs.Form.{Form}
use Rattle.slotted_slots.specs.Maps.{all_differ}
use Rattle.slotted_languages.specs.NodeTerm.{nameless_node}
use Rattle.slotted_languages.specs.Shape.{Fits, shape}
use Rattle.slotted_languages.proofs.Shapes.{injective-shape, shape_back, values_of_shape}
use Rattle.slotted_model.specs.Applied.{keys, values}
use Rattle.slotted_model.specs.Ascending.{names}
use Rattle.slotted_model.specs.Find.{find}
use Rattle.slotted_model.specs.Rest.{IsRow}
use Rattle.slotted_model.specs.State.{Row, look_up_normal, name_numbered, row_of, source_with_names}
use Rattle.slotted_model.proofs.Rebuilding.Rows.{one_row, row_of-some, row_of-there}
use Rattle.slotted_proofs.proofs.Bridges.{injective_differ}
use Rattle.slotted_classes.specs.Kept.{Kept, entries_of}
use Rattle.slotted_classes.specs.Names.{between}
use Rattle.slotted_classes.proofs.KeptLists.{length-mapped}
use Rattle.slotted_hashcons.specs.Filed.{IsNewKey, filed_of}
use Rattle.slotted_hashcons.specs.FiledRows.{Rows, rows_in, row_of_entry}
use Rattle.slotted_hashcons.proofs.FiledRows.{filed-row, row-filed}
use Rattle.slotted_hashcons.specs.WellFiled.{IsKeyed, IsWellFiled, state_in}
use Rattle.slotted_hashcons.proofs.ShapesOfNodes.{shape-again}
use Rattle.slotted_languages.proofs.KeysByShapes.{one-key}
use Rattle.slotted_lookup.proofs.RowNames.{find-beside, numbered-names, slots-named}

module _ (k : Kept) (r : Rows) (well : IsWellFiled k r) (c f : Form) (n : List (ℕ × ℕ)) (fits : Fits c) (key_fits : Fits f) (is : ◌≡◌ {A = Form × List (ℕ × ℕ)} (f, n) (shape c)) where
  abbrev d : DTerm
  d = nameless_node c

  -- the shape in the model's words
  one-shape : theory.shape (nameless_node f) ≡ theory.shape d
  one-shape =
      let inj : IsInjectiveMap n = subst (λ (p : Form × List (ℕ × ℕ)). IsInjectiveMap p.1) (sym is) (injective-shape c) in
      sym (shape-moved (filled n) (filled-injective n inj) (nameless_node f)) ∙ ap theory.shape (shape_back c f n fits is)

  again : ((shape f).0 ≡ f) × (keys n ≡ keys (shape f).1)
  again = shape-again c f n fits is

  -- a row of this shape is filed by this key
  key-of : (i : ℕ) (e : Form) (m : List (ℕ × ℕ)) → filed_of r.filed i ≡ Some (e, m) → theory.shape (nameless_node e) ≡ theory.shape d → e ≡ f
  key-of i e m at same =
      let kept : IsKeyed (e, m) = well.keyed i (e, m) at in
      one-key e f kept.fits key_fits kept.itself again.0 (same ∙ sym one-shape)

  -- the key is filed of no class
  pub none-looked_up : IsNewKey r.filed f → None ≡ look_up_normal (state_in k r) d
  none-looked_up new = go (row_of (theory.shape d) (rows_in r.filed)) refl
    where
      go : (o : Option Row) → row_of (theory.shape d) (rows_in r.filed) ≡ o → None ≡ option_map (λ (q : Row). find (entries_of k) (source_with_names d q)) (row_of (theory.shape d) (rows_in r.filed))
      go None e = ap (option_map (λ (q : Row). find (entries_of k) (source_with_names d q))) (sym e)
      go (Some q) e =
          let there : Contains (rows_in r.filed) q × (q.shape ≡ theory.shape d) = row_of-some (theory.shape d) (rows_in r.filed) q e in
          let h = filed-row r.filed q there.0 in
          let same : theory.shape (nameless_node h.1) ≡ theory.shape d = sym (ap (λ (x : Row). x.shape) h.4) ∙ there.1 in
          absurd (new h.0 (h.2, subst (λ g. filed_of r.filed h.0 ≡ Some (g, h.2)) (key-of h.0 h.1 h.2 h.3 same) h.3))

  -- the key is filed of the class i
  module _ (i : ℕ) (m : List (ℕ × ℕ)) (at : filed_of r.filed i ≡ Some (f, m)) where
    abbrev row : Row
    row = row_of_entry (f, (i, m))

    stands : Contains (rows_in r.filed) row
    stands = row-filed r.filed i f m at

    its-row : row_of (theory.shape d) (rows_in r.filed) ≡ Some row
    its-row =
        let q = row_of-there (theory.shape d) (rows_in r.filed) row stands one-shape in
        let there : Contains (rows_in r.filed) q.0 × (q.0.shape ≡ theory.shape d) = row_of-some (theory.shape d) (rows_in r.filed) q.0 q.1 in
        let source : q.0.source ≡ i = well.sane.filed.shapes q.0 row there.0 stands (there.1 ∙ sym one-shape) in
        q.1 ∙ ap Some (one_row (rows_in r.filed) well.sane.filed.once q.0 row there.0 stands source)

    -- there is a name for each number
    pub numbers-are : keys m ≡ keys n
    numbers-are = (well.keyed i (f, m) at).numbers ∙ sym again.1

    as-many : length (values m) ≡ length (values n)
    as-many = length-mapped (λ (p : ℕ × ℕ). p.1) m
        ∙ (sym (length-mapped (λ (p : ℕ × ℕ). p.0) m) ∙ (ap length numbers-are ∙ (length-mapped (λ (p : ℕ × ℕ). p.0) n ∙ sym (length-mapped (λ (p : ℕ × ℕ). p.1) n))))

    names-are : map (name_numbered d) (names (theory.shape d)) ≡ values n
    names-are = numbered-names d ∙ sym (values_of_shape c f n is)

    -- as many as the shape has numbers
    all-numbers : length (names (theory.shape (nameless_node f))) ≡ length (values m)
    all-numbers =
        ap (λ s. length (names s)) one-shape
        ∙ (sym (length-mapped (name_numbered d) (names (theory.shape d))) ∙ (ap length names-are ∙ sym as-many))

    different : all_differ (values m) ≡ true
    different =
        let stored : IsRow (state_in k r) row = well.sane.filed.each row stands in
        subst (λ xs. all_differ xs ≡ true) (values-beside (names (theory.shape (nameless_node f))) (values m) all-numbers) (injective_differ row.slots stored.injective)

    named : source_with_names d row ≡ (i, zip (values m) (values n))
    named =
        let e : map {B = ℕ × ℕ} (λ (p : ℕ × ℕ). (p.1, name_numbered d p.0)) row.slots ≡ zip (values m) (values n) =
        slots-named (name_numbered d) (names (theory.shape (nameless_node f))) (values m)
        ∙ (ap (λ s. zip (values m) (map (name_numbered d) (names s))) one-shape ∙ ap (zip (values m)) names-are) in
        λ j. (i, e j)

    -- and the node is looked up as what this class finds
    pub some-looked_up : Some (find (entries_of k) (i, between m n)) ≡ look_up_normal (state_in k r) d
    some-looked_up =
        ap Some (find-beside (entries_of k) i m n different as-many ∙ ap (find (entries_of k)) (sym named))
        ∙ ap (option_map (λ (q : Row). find (entries_of k) (source_with_names d q))) (sym its-row)
