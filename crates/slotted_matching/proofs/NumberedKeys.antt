-- The names of a filed key are numeric slots, and their numbers are those of its row.
use Rattle.std.proofs.Common.{◌≡◌, ◌≢◌, ℕ, List, [], ◌∷◌, map, sym, ◌∙◌, ap, refl, subst, inl, inr, arith, slice_index}
use Rattle.std.specs.Prelude.{Contains}
use Rattle.std.specs.List.{zip}
use Rattle.slotted_lists.proofs.Members.{In, In-of_map, In-Contains}
use Rattle.slotted_lists.proofs.Maps.{zip-with_values}
use Rattle.slotted_theory.specs.Nameless.{DTerm, moved, moved_args}
use Rattle.slotted_theory.specs.FiniteMaps.{filled, with_values}
use Rattle.slotted_theory.specs.Shape.{free_names, number_in}
use Rattle.slotted_theory.specs.Shape as theory
use Rattle.slotted_slots.specs.Table.{numeric_slot}
use Rattle.slotted_nodes.specs.Form.{Form}
use Rattle.slotted_languages.specs.NodeTerm.{nameless_node, free_names_of}
use Rattle.slotted_languages.specs.Shape.{firsts, shape}
use Rattle.slotted_languages.proofs.Numbered.{IsFreeOf}
use Rattle.slotted_languages.proofs.Shapes.{keys-shape}
use Rattle.slotted_languages.proofs.WalkBinders.{binder_number, binders_apart}
use Rattle.slotted_model.specs.Applied.{keys, values, map_on}
use Rattle.slotted_model.specs.Ascending.{IsAscending, names}
use Rattle.slotted_model.specs.Correspondence.{AllDifferent, IsInjectiveOn}
use Rattle.slotted_model.specs.State.{Row, name_numbered}
use Rattle.slotted_model.proofs.Data.Maps.{filled-map_on, map_on-filled, pair-filled, values-map_on}
use Rattle.slotted_model.proofs.Rebuilding.Rows.{name_numbered-at}
use Rattle.slotted_model.proofs.Data.Sets.{In-ascending}
use Rattle.slotted_model.proofs.Data.Theory.{free_names-moved, moved-agrees, moved-moved}
use Rattle.slotted_model_rules.specs.Matcher.{NodeArgs, unnamed, written_names, bound_names}
use Rattle.slotted_proofs.proofs.Bridges.{ascends}
use Rattle.slotted_classes.specs.Names.{IsNumeric}
use Rattle.slotted_classes.proofs.NamePairs.{In-firsts}
use Rattle.slotted_classes.proofs.PutNames.{AreNumeric, numeric-shape}
use Rattle.slotted_hashcons.specs.FiledRows.{row_of_entry}
use Rattle.slotted_hashcons.proofs.KeyedNodes.{own-numbers}
use Rattle.slotted_hashcons.proofs.NumbersInShapes.{names-beside}
use Rattle.slotted_hashcons.specs.WellFiled.{IsKeyed}
use Rattle.slotted_rule_patterns.specs.NodeArguments.{node_arguments}
use Rattle.slotted_rule_patterns.proofs.NodeArguments.{unnamed-node}
use Rattle.slotted_match_machine.proofs.NamedNodes.{node_with, bound-with, bound-written, different-with, unnamed-with, written-with}
use Rattle.slotted_matching.specs.KeyRows.{slot_number}
use Rattle.slotted_matching.proofs.KeyNames.{written-named, bound-named, bound-differ}

-- numeric slots have different numbers
number-of : (n : ℕ) → slot_number (numeric_slot n) ≡ n
number-of n = omega arith

pub slot-of : (x : ℕ) → IsNumeric x → numeric_slot (slot_number x) ≡ x
slot-of x p = ap (λ y. numeric_slot (slot_number y)) p.1 ∙ (ap numeric_slot (number-of p.0) ∙ sym p.1)

numbers-apart : (x y : ℕ) → IsNumeric x → IsNumeric y → slot_number x ≡ slot_number y → x ≡ y
numbers-apart x y p q e = sym (slot-of x p) ∙ (ap numeric_slot e ∙ slot-of y q)

with-on : (f g : ℕ → ℕ) (ks : List ℕ) → with_values f (map_on g ks) ≡ map_on (λ k. f (g k)) ks
with-on f g [] = refl
with-on f g (k ∷ ks) = ap (λ l. (k, f (g k)) ∷ l) (with-on f g ks)

not-free : (n : ℕ) (m : List (ℕ × ℕ)) → IsFreeOf n m → ¬ In n (keys m)
not-free n [] h i = i
not-free n (p ∷ m) h (inl e) = h.0 (sym e)
not-free n (p ∷ m) h (inr i) = not-free n m h.1 i

module _ (f : Form) (m : List (ℕ × ℕ)) (o : ℕ) (keyed : IsKeyed (f, m)) where
  abbrev d : DTerm
  d = nameless_node f

  abbrev s : DTerm
  s = theory.shape d

  abbrev N : ℕ → ℕ
  N = number_in (free_names d.args)

  abbrev r : Row
  r = row_of_entry (f, (o, m))

  -- the number of the key for one of the shape
  abbrev pub number : ℕ → ℕ
  number i = slot_number (name_numbered d i)

  abbrev pub node : NodeArgs
  node = node_with slot_number (node_arguments f)

  numeric : (x : ℕ) → In x f.names → IsNumeric x
  numeric x h = subst (λ (h : Form). AreNumeric h.names) keyed.itself (numeric-shape f).0 x h

  numeric-written : (x : ℕ) → In x (written_names (node_arguments f)) → IsNumeric x
  numeric-written x h = numeric x (written-named f keyed.fits x h)

  apart : (x y : ℕ) → In x (written_names (node_arguments f)) → In y (written_names (node_arguments f)) → slot_number x ≡ slot_number y → x ≡ y
  apart x y i j e = numbers-apart x y (numeric-written x i) (numeric-written y j) e

  numbers-are : keys m ≡ firsts (free_names_of f)
  numbers-are = keyed.numbers ∙ own-numbers f keyed.fits keyed.itself

  pub a-key : (x : ℕ) → In x (free_names_of f) → In x (keys m)
  a-key x h = subst (In x) (sym numbers-are) ((In-firsts x (free_names_of f)).1 h)

  numeric-key : (x : ℕ) → In x (keys m) → IsNumeric x
  numeric-key x h = (numeric-shape f).1 x (subst (In x) keyed.numbers h)

  numeric-free : (x : ℕ) → In x (free_names_of f) → IsNumeric x
  numeric-free x h = numeric-key x (a-key x h)

  rises : IsAscending (keys m)
  rises = subst IsAscending (sym keyed.numbers) (ascends (keys (shape f).1) (keys-shape f))

  -- a number of the shape stands for a free name of the key
  pub of-name : (i : ℕ) → Contains (free_names s.args) i → (x : ℕ) × In x (free_names d.args) × (i ≡ N x) × (name_numbered d i ≡ x)
  of-name i c =
      let p = In-of_map N (free_names d.args) i (subst (In i) (free_names-moved N d.args) (In-Contains (free_names s.args) i c)) in
      (p.0, p.1, p.2, ap (name_numbered d) p.2 ∙ name_numbered-at d p.0 p.1)

  pub form : unnamed (λ y. y) node ≡ moved_args number s.args
  form =
      let q = slot_number in
      let agree : moved (λ x. number (N x)) d ≡ moved q d = moved-agrees (λ x. number (N x)) q d (λ x h. ap q (name_numbered-at d x h)) in
      unnamed-with q (λ y. y) q (λ y. y) (node_arguments f) apart (λ y h. refl)
      ∙ (ap (moved_args q) (unnamed-node f keyed.fits)
      ∙ ap (λ (t : DTerm). t.args) (sym agree ∙ sym (moved-moved number N d)))

  pub injective : IsInjectiveOn number (free_names s.args)
  injective i j c e same =
      let p = of-name i c in
      let q = of-name j e in
      let xy : p.0 ≡ q.0 = numbers-apart p.0 q.0 (numeric-free p.0 p.1) (numeric-free q.0 q.1) (sym (ap slot_number p.3) ∙ (same ∙ ap slot_number q.3)) in
      p.2 ∙ (ap N xy ∙ sym q.2)

  pub binders-differ : AllDifferent (bound_names node)
  binders-differ =
      subst AllDifferent (sym (bound-with slot_number (node_arguments f)))
      (different-with slot_number (bound_names (node_arguments f))
      (λ x y i j e. apart x y (bound-written (node_arguments f) x i) (bound-written (node_arguments f) y j) e)
      (bound-differ f keyed.fits (λ j k h l b c e. binders_apart f j k keyed.fits h l b c (there j ∙ (e ∙ sym (there k))))))
    where
      there : (j : ℕ) → slice_index (shape f).0.names j ≡ slice_index f.names j
      there j = ap (λ (h : Form). slice_index h.names j) keyed.itself

  -- a binder of the node has the number of a numeric slot that is no key
  pub of-binder : (z : ℕ) → Contains (bound_names node) z → (x : ℕ) × In x f.names × (¬ In x (keys m)) × (z ≡ slot_number x)
  of-binder z c =
      let p = In-of_map slot_number (bound_names (node_arguments f)) z (subst (In z) (bound-with slot_number (node_arguments f)) (In-Contains (bound_names node) z c)) in
      let b = bound-named f keyed.fits p.0 p.1 in
      let n : slice_index (shape f).0.names b.0 ≡ p.0 = ap (λ (h : Form). slice_index h.names b.0) keyed.itself ∙ sym b.3 in
      let away : ¬ In p.0 (keys (shape f).1) = not-free p.0 (shape f).1 (subst (λ y. IsFreeOf y (shape f).1) n (binder_number f b.0 keyed.fits b.1 b.2)) in
      (p.0, written-named f keyed.fits p.0 (bound-written (node_arguments f) p.0 p.1), λ i. away (subst (In p.0) keyed.numbers i), p.2)

  pub binders-apart : (z : ℕ) → Contains (bound_names node) z → (i : ℕ) → Contains (free_names s.args) i → number i ≢ z
  binders-apart z c i e same =
      let b = of-binder z c in
      let p = of-name i e in
      let key = a-key p.0 p.1 in
      let xy : p.0 ≡ b.0 = numbers-apart p.0 b.0 (numeric-key p.0 key) (numeric b.0 b.1) (sym (ap slot_number p.3) ∙ (same ∙ b.3)) in
      b.2 (subst (λ x. In x (keys m)) xy key)

  -- each name that is written in the node is the number of one of the key
  pub of-written : (z : ℕ) → Contains (written_names node) z → (x : ℕ) × In x f.names × (z ≡ slot_number x)
  of-written z c =
      let p = In-of_map slot_number (written_names (node_arguments f)) z (subst (In z) (written-with slot_number (node_arguments f)) (In-Contains (written_names node) z c)) in
      (p.0, written-named f keyed.fits p.0 p.1, p.2)

  -- the slot of a number of the shape is that of the key's name
  slots-on : r.slots ≡ map_on (λ i. filled m (name_numbered d i)) (names s)
  slots-on =
      let vs : values m ≡ map (filled m) (keys m) = ap values (sym (map_on-filled m rises)) ∙ values-map_on (filled m) (keys m) in
      ap (zip (names s)) (vs ∙ ap (map (filled m)) numbers-are)
      ∙ (zip-with_values (filled m) (names s) (firsts (free_names d.args))
      ∙ (ap (with_values (filled m)) (names-beside d) ∙ with-on (filled m) (name_numbered d) (names s)))

  pub slot-at : (i : ℕ) → Contains (free_names s.args) i → filled r.slots i ≡ filled m (name_numbered d i)
  slot-at i c =
      ap (λ (l : List (ℕ × ℕ)). filled l i) slots-on
      ∙ filled-map_on (λ i. filled m (name_numbered d i)) (names s) i (In-ascending i (free_names s.args) (In-Contains (free_names s.args) i c))

  pub numeric-name : (x : ℕ) → In x f.names → numeric_slot (slot_number x) ≡ x
  numeric-name x h = slot-of x (numeric x h)

  pub numeric-free_name : (x : ℕ) → In x (free_names_of f) → numeric_slot (slot_number x) ≡ x
  numeric-free_name x h = slot-of x (numeric-free x h)

  pub key-value : (x : ℕ) → In x (keys m) → In (x, filled m x) m
  key-value x h = pair-filled m x rises h
