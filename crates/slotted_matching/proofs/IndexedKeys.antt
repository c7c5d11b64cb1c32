-- A row that has the numbers of a filed key is the model's row, by numbers.
use Rattle.std.proofs.Common.{◌≡◌, ◌≢◌, ℕ, zero, suc, ◌<◌, ◌+◌, List, [], ◌∷◌, ◌++◌, length, map, Option, Some, None, cond, sym, ◌∙◌, ap, refl, subst, inl, inr, arith, get_or, slice_index}
use Rattle.std.specs.Prelude.{Contains, unwrap_or}
use Rattle.std.proofs.lemmas.Bool.{cases_eq, eq-eqb, ne_eqb}
use Rattle.std.proofs.lemmas.List.FromFn.{get_or-map-range_with_len, length-map-range_with_len}
use Rattle.slotted_lists.proofs.Contained.{contains_head, contains_tail, contains_cases, Contains-nil}
use Rattle.slotted_lists.proofs.Members.{In, In-Contains, Contains-In}
use Rattle.slotted_theory.specs.FiniteMaps.{filled, top}
use Rattle.slotted_theory.specs.Shape.{free_names}
use Rattle.slotted_slots.specs.Maps.{value_of}
use Rattle.slotted_slots.specs.Table.{numeric_slot}
use Rattle.slotted_nodes.specs.Form.{Form}
use Rattle.slotted_languages.specs.NodeTerm.{free_names_of}
use Rattle.slotted_model.specs.Applied.{keys, renamed_id}
use Rattle.slotted_model.specs.Find.{find_class, find_map, used_slots, Linked}
use Rattle.slotted_model.specs.State.{Row, State}
use Rattle.slotted_model.proofs.Correspondences.Pairs.{Contains-key, Contains-value_of, value_of-found}
use Rattle.slotted_model.proofs.Finds.Finding.{find_map-full, found-in_range, found-live, leads}
use Rattle.slotted_model.proofs.Finds.NormalIds.{used-live}
use Rattle.slotted_model_rules.specs.Matcher.{NodeArgs, no_more, a_name, an_id, a_binder, bound_names, written_names}
use Rattle.slotted_model_rules.specs.ReplacedIds as rules
use Rattle.slotted_proofs.proofs.Bridges.{value_of-model}
use Rattle.slotted_classes.specs.Kept.{Kept, nodes_of, entries_of}
use Rattle.slotted_hashcons.specs.Filed.{Filing, filed_of}
use Rattle.slotted_hashcons.specs.FiledRows.{Rows, row_of_entry}
use Rattle.slotted_hashcons.specs.WellFiled.{IsWellFiled, IsKeyed, state_in}
use Rattle.slotted_lookup.proofs.AppliedNodes.{filed-key, filed-in_nodes}
use Rattle.slotted_rule_patterns.specs.NodeArguments.{node_arguments}
use Rattle.slotted_rule_patterns.proofs.NodeArguments.{ids-node, unnamed-node}
use Rattle.slotted_match_machine.specs.Index.{OneByOne, IsIndexChild, IsIndexRow, IsPositionOf, ids_of}
use Rattle.slotted_match_machine.specs.declared.index.IndexRow.{IndexRow}
use Rattle.slotted_match_machine.proofs.NamedNodes.{free-written, ids-with, own-with}
use Rattle.slotted_matching.specs.KeyRows.{slot_number, class_position, one_later, position_if, IsKeyRow}
use Rattle.slotted_languages.specs.Outline.{skeleton_form}
use Rattle.slotted_matching.specs.Skeletons.{StandsAt}
use Rattle.slotted_matching.specs.Indexed.{IsSourceRow, filing_at, no_filing}
use Rattle.slotted_matching.proofs.KeyNames.{written-named}
use Rattle.slotted_matching.proofs.NumberedKeys.{number, node, form, injective, binders-differ, binders-apart, of-name, of-binder, of-written, slot-at, a-key, key-value, numeric-name}

-- one place on
position-later : (p : ℕ × ℕ) (F : List (ℕ × ℕ)) (t k : ℕ) → p.1 ≢ t → IsPositionOf (keys F) F t k → IsPositionOf (keys (p ∷ F)) (p ∷ F) t (one_later k)
position-later p F t zero n h = λ s c. elim (contains_cases p F (s, t) c) [
  | inl e ↦ n (sym (ap (λ (q : ℕ × ℕ). q.1) e))
  | inr d ↦ h s d
]
position-later p F t (suc k) n h = (omega (arith, h.0), contains_tail p F (get_or (keys F) k 0, t) h.1)

-- the position of a value is its position
pub position-is : (F : List (ℕ × ℕ)) (t : ℕ) → IsPositionOf (keys F) F t (class_position F t)
position-is [] t = λ s c. Contains-nil (s, t) c
position-is (p ∷ F) t = elim (cases_eq p.1 t) [
  | inl e ↦ subst (IsPositionOf (keys (p ∷ F)) (p ∷ F) t) (sym (ap (λ b. cond b 1 (one_later (class_position F t))) (eq-eqb p.1 t e)))
      (omega arith, subst (λ u. Contains (p ∷ F) (p.0, u)) e (contains_head p F))
  | inr n ↦ subst (IsPositionOf (keys (p ∷ F)) (p ∷ F) t) (sym (ap (λ b. cond b 1 (one_later (class_position F t))) (ne_eqb p.1 t n)))
      (position-later p F t (class_position F t) n (position-is F t))
]

-- what is at a key, and at no key
value-at : (m : List (ℕ × ℕ)) (x : ℕ) → In (x, filled m x) m → value_of m x ≡ Some (filled m x)
value-at m x h =
    let p = value_of-found m x (filled m x) (Contains-In m (x, filled m x) h) in
    value_of-model m x ∙ (p.1 ∙ sym (ap (λ o. Some (unwrap_or o (top m + x))) p.1))

no-value : (m : List (ℕ × ℕ)) (x : ℕ) → ¬ In x (keys m) → value_of m x ≡ None
no-value m x n = go (value_of m x) refl
  where
    go : (o : Option ℕ) → value_of m x ≡ o → o ≡ None
    go None e = refl
    go (Some v) e = absurd (n (In-Contains (keys m) x (Contains-key m x v (Contains-value_of m x v (sym (value_of-model m x) ∙ e)))))

-- the ids of a node, in both words
ids-same : (n : NodeArgs) → ids_of n ≡ rules.ids_of n
ids-same no_more = refl
ids-same (a_name x rest) = ids-same rest
ids-same (an_id a rest) = ap (λ l. a ∷ l) (ids-same rest)
ids-same (a_binder x inner rest) = λ i. ids-same inner i ++ ids-same rest i

-- a class that is found uses the slots that finds pair with others
used-keys : (k : Kept) (linked : Linked (nodes_of k) (entries_of k)) (o : ℕ) → o < length (nodes_of k) →
    keys (find_map (entries_of k) o) ≡ used_slots (entries_of k) (find_class (entries_of k) o)
used-keys k linked o h =
    let nodes = nodes_of k in
    let found = entries_of k in
    let L = leads nodes found linked in
    (find_map-full nodes found linked o h).slots
    ∙ sym (used-live nodes found linked (find_class found o) (found-in_range nodes found L o h) (found-live nodes found L o h))

module _ (k : Kept) (r : Rows) (well : IsWellFiled k r) (o : ℕ) (f : Form) (m : List (ℕ × ℕ)) (at : filed_of r.filed o ≡ Some (f, m)) (row : IndexRow)
    (is : IsKeyRow f m (find_map (entries_of k) o) row) where
  abbrev g : State
  g = state_in k r

  abbrev q : Row
  q = row_of_entry (f, (o, m))

  abbrev F : List (ℕ × ℕ)
  F = find_map (entries_of k) o

  keyed : IsKeyed (f, m)
  keyed = filed-key k r well o f m at

  free-named : (x : ℕ) → In x (free_names_of f) → In x f.names
  free-named x h =
      let p = free-written (λ y. y) (node_arguments f) x (subst (λ d. In x (free_names d)) (sym (unnamed-node f keyed.fits)) h) in
      written-named f keyed.fits x (subst (λ y. In y (written_names (node_arguments f))) (sym p.2) p.1)

  covered : (x : ℕ) → In x f.names → slot_number x < is.count
  covered x h = is.covers x (Contains-In f.names x h)

  long : length row.slots.items ≡ is.count
  long = ap length is.slots ∙ length-map-range_with_len (λ z. position_if F (value_of m (numeric_slot z))) 0 is.count

  -- at the number of a name stands the position of its slot
  at-number : (x : ℕ) → In x f.names → slice_index row.slots.items (slot_number x) ≡ position_if F (value_of m x)
  at-number x h =
      ap (λ l. slice_index l (slot_number x)) is.slots
      ∙ (get_or-map-range_with_len (λ z. position_if F (value_of m (numeric_slot z))) 0 is.count (slot_number x) (slot_number x) 0 (covered x h) (omega arith)
      ∙ ap (λ y. position_if F (value_of m y)) (numeric-name f m o keyed x h))

  positions : (i : ℕ) → Contains (free_names q.shape.args) i →
      IsPositionOf (used_slots (entries_of k) (find_class (entries_of k) o)) F (filled q.slots i) (slice_index row.slots.items (number f m o keyed i))
  positions i c =
      let p = of-name f m o keyed i c in
      let x : ℕ = p.0 in
      let h : In x f.names = free-named x p.1 in
      let t : filled q.slots i ≡ filled m x = slot-at f m o keyed i c ∙ ap (filled m) p.3 in
      let v : value_of m x ≡ Some (filled m x) = value-at m x (key-value f m o keyed x (a-key f m o keyed x p.1)) in
      let z : slice_index row.slots.items (number f m o keyed i) ≡ class_position F (filled m x) =
      ap (λ y. slice_index row.slots.items (slot_number y)) p.3 ∙ (at-number x h ∙ ap (position_if F) v) in
      subst (λ S. IsPositionOf S F (filled q.slots i) (slice_index row.slots.items (number f m o keyed i))) (used-keys k well.sane.sound.linked o (filed-in_nodes k r well o f m at))
      (subst (λ n. IsPositionOf (keys F) F (filled q.slots i) n) (sym z)
      (subst (λ u. IsPositionOf (keys F) F u (class_position F (filled m x))) (sym t) (position-is F (filled m x))))

  none : (z : ℕ) → Contains (bound_names (node f m o keyed)) z → slice_index row.slots.items z ≡ 0
  none z c =
      let b = of-binder f m o keyed z c in
      ap (slice_index row.slots.items) b.3 ∙ (at-number b.0 b.1 ∙ ap (position_if F) (no-value m b.0 b.2))

  pub row-is : IsIndexRow g q row
  row-is = record {
    node = node f m o keyed;
    number = number f m o keyed;
    form = form f m o keyed;
    injective = injective f m o keyed;
    binders_differ = binders-differ f m o keyed;
    binders_apart = binders-apart f m o keyed;
    owns = is.owns ∙ sym (own-with slot_number (node_arguments f));
    children = subst (λ l. OneByOne IsIndexChild l row.children.items)
        (sym (ids-with slot_number (node_arguments f) ∙ ap (map (renamed_id slot_number)) (ids-same (node_arguments f) ∙ ids-node f))) is.children;
    in_range = λ z c. let w = of-written f m o keyed z c in omega (arith, w.2, covered w.0 w.1, long);
    positions = positions;
    binders_have_none = none;
  }

  -- so it is the row of its source
  pub source-row : (S : List Form) → StandsAt S (skeleton_form f) row.outline → IsSourceRow k r S o row
  source-row S place =
      let filing : filing_at r.filed o ≡ (f, m) = ap (λ x. unwrap_or x no_filing) at in
      record {
        is = subst (λ (e : Filing). IsIndexRow g (row_of_entry (e.0, (o, e.1))) row) (sym filing) row-is;
        place = subst (λ (e : Filing). StandsAt S (skeleton_form e.0) row.outline) (sym filing) place;
      }
