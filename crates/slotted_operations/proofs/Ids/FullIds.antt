-- When an id is full: the slots of its class are read off the row that files the class's node.
use Rattle.std.proofs.Common.{◌≡◌, ◌↔◌, ◌<◌, ℕ, zero, suc, List, [], ◌∷◌, length, sym, ◌∙◌, ap, refl, subst, arith}
use Rattle.std.specs.Prelude.{slice_index_or}
use Rattle.slotted_lists.proofs.Members.{In, In-Contains, Contains-In}
use Rattle.slotted_lists.proofs.Maps.{length-values, length-keys}
use Rattle.slotted_theory.specs.FiniteMaps.{IsInjectiveMap}
use Rattle.slotted_slots.specs.Ascending as slots
use Rattle.slotted_slots.specs.Maps.{keys, values}
use Rattle.slotted_languages.specs.Shape.{shape}
use Rattle.slotted_languages.proofs.Shapes.{injective-shape}
use Rattle.slotted_languages.proofs.Counting.{In-value}
use Rattle.slotted_model.specs.Ascending.{ascending, names}
use Rattle.slotted_model.specs.Applied.{Applied}
use Rattle.slotted_model.specs.Classes.{canonical_slots, IsFull}
use Rattle.slotted_model.specs.Correspondence.{identity}
use Rattle.slotted_model.proofs.Represented.FillingEquations.{keys-identity}
use Rattle.slotted_model.proofs.Represented.Fillings.{slots-ascending}
use Rattle.slotted_classes.specs.Finding.{IsFindable}
use Rattle.slotted_classes.specs.Kept.{Kept, ClassEntry, RowEntry, no_form, names_at, nodes_of, rows_from}
use Rattle.slotted_classes.proofs.DistinctValues.{length-ascending_values}
use Rattle.slotted_classes.proofs.NameMaps.{In-at, keys_are, rising}
use Rattle.slotted_classes.proofs.NamePairs.{ascending-values}
use Rattle.slotted_classes.proofs.KeptLists.{length-nodes_of}
use Rattle.slotted_classes.proofs.OwnIds.{length-from}
use Rattle.slotted_operations.specs.Good.{Good}
use Rattle.slotted_operations.proofs.LookUps.Rows.{node_in, nameless_nodes, canonical_node-in}

length-nodes : (cs : List ClassEntry) → length (nameless_nodes cs) ≡ length cs
length-nodes [] = refl
length-nodes (c ∷ cs) = ap suc (length-nodes cs)

pub length-rows : (k : Kept) → Good k → length k.rows ≡ length k.classes
length-rows k good = ap length good.rows ∙ length-from 0 k.classes

-- its slots are the names of the class's node
from-names : (i : ℕ) (cs : List ClassEntry) (j : ℕ) → j < length cs → (slice_index_or (rows_from i cs) j (no_form, (0, []))).1.1 ≡ (shape (node_in cs j)).1
from-names i [] j l = absurd (omega arith)
from-names i (c ∷ cs) zero l = refl
from-names i (c ∷ cs) (suc j) l = from-names (suc i) cs j (omega arith)

module _ (k : Kept) (good : Good k) (i : ℕ) (l : i < length k.classes) where
  row-shape : names_at k i ≡ (shape (node_in k.classes i)).1
  row-shape = ap (λ (rs : List RowEntry). (slice_index_or rs i (no_form, (0, []))).1.1) good.rows ∙ from-names 0 k.classes i l

  -- the slots of a class, read off its row
  pub row-values : ascending (values (names_at k i)) ≡ canonical_slots (nodes_of k) i
  row-values =
      ap (λ m. ascending (values m)) row-shape
      ∙ (ascending-values (node_in k.classes i) ∙ ap names (sym (canonical_node-in k.classes i l)))

  pub row-differ : IsInjectiveMap (names_at k i)
  row-differ = subst IsInjectiveMap (sym row-shape) (injective-shape (node_in k.classes i))

module _ (k : Kept) (good : Good k) (a : Applied) where
  -- an id with other keys than the class's slots is not full
  pub other_keys : a.0 < length k.classes → ¬ (keys a.1 ≡ ascending (values (names_at k a.0))) → ¬ IsFull (nodes_of k) a
  other_keys l n full = n (full.slots ∙ sym (row-values k good a.0 l))

  pub full_iff : a.0 < length k.classes → keys a.1 ≡ ascending (values (names_at k a.0)) → IsInjectiveMap a.1 ↔ IsFull (nodes_of k) a
  full_iff l e = (
    λ i. record { in_range = omega (arith, l, length-nodes_of k); slots = e ∙ row-values k good a.0 l; injective = i },
    λ full. full.injective,
  )

-- an id that finds is full exactly if it has as many names as the row of its class
pub full-by_count : (k : Kept) → Good k → (a : Applied) → IsFindable k a → (m : List (ℕ × ℕ)) → m ≡ names_at k a.0 → (length a.1 ≡ length m) ↔ IsFull (nodes_of k) a
full-by_count k good a v m e =
    let S : List ℕ = canonical_slots (nodes_of k) a.0 in
    let l : a.0 < length k.classes = let h : a.0 < length (nodes_of k) = v.in_range in omega (arith, h, length-nodes_of k) in
    let n : length S ≡ length m =
    ap length (sym (row-values k good a.0 l))
    ∙ (length-ascending_values (names_at k a.0) (row-differ k good a.0 l)
    ∙ (length-values (names_at k a.0) ∙ ap length (sym e))) in
    let own : keys (identity S) ≡ S = keys-identity S in (
      λ h. record {
        in_range = v.in_range;
        slots =
            sym (keys_are (keys a.1) (identity S) (rising (keys a.1) v.ascending)
            (subst slots.IsAscending (sym own) (rising S (slots-ascending (nodes_of k) a.0)))
            (length-keys a.1 ∙ (h ∙ (sym n ∙ ap length (sym own))))
            (λ i d j.
            let s : ℕ = slice_index_or (keys a.1) i d in
            In-value (identity S) s (subst (In s) (sym own) (In-Contains S s (v.within s (Contains-In (keys a.1) s (In-at (keys a.1) i d j)))))))
            ∙ own;
        injective = v.injective;
      },
      λ full. sym (length-keys a.1) ∙ (ap length full.slots ∙ n),
    )
