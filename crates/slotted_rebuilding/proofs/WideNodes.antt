-- Where a class runs out of slots, its node is wide.
use Rattle.std.proofs.Common.{◌≡◌, ◌≤◌, ◌+◌, ◌^◌, ℕ, List, [], ◌∷◌, ◌++◌, length, sym, ◌∙◌, ap, arith, inl, inr, length-append}
use Rattle.std.proofs.lemmas.Bool.{cases_Bool}
use Rattle.slotted_lists.proofs.Maps.{length-values, length-keys}
use Rattle.slotted_theory.specs.FiniteMaps.{filled}
use Rattle.slotted_theory.specs.Nameless.{DTerm, moved}
use Rattle.slotted_slots.specs.Maps.{values}
use Rattle.slotted_slots.specs.Table.{Table, empty_table, is_known, unknown_names}
use Rattle.slotted_slots.proofs.SlotsTaken.{lacks_fresh}
use Rattle.slotted_nodes.specs.Form.{Form}
use Rattle.slotted_languages.specs.Children.{binders}
use Rattle.slotted_languages.specs.NewNames.{LacksPerBinder}
use Rattle.slotted_languages.specs.NodeTerm.{nameless_node}
use Rattle.slotted_languages.specs.Shape.{Fits}
use Rattle.slotted_model.specs.Applied.{Applied}
use Rattle.slotted_model.specs.Ascending.{names}
use Rattle.slotted_model.specs.Classes.{canonical_node, IsFull}
use Rattle.slotted_languages.specs.Sizes.{node_size}
use Rattle.slotted_languages.proofs.NodeSizes.{names_fit_size}
use Rattle.slotted_alike.proofs.WideNodes.{size-moved}
use Rattle.slotted_rebuilding.specs.Named.{IsWideClass}
use Rattle.slotted_classes.proofs.NameCounts.{names_and_binders}

-- where the node of a class has too many places
pub wide_class : (nodes : List DTerm) (i : ℕ) (f : Form) → Fits f → nameless_node f ≡ canonical_node nodes i → 2 ^ 29 ≤ length f.names → IsWideClass nodes i
wide_class nodes i f fits is large = omega (arith, large, names_fit_size f fits, ap node_size is)

-- and where it uses up a table of its own: its free names, each once, and its binders are no more than its places

length-unknown : (t : Table) (xs : List ℕ) → length (unknown_names t xs) ≤ length xs
length-unknown t [] = omega arith
length-unknown t (x ∷ xs) = elim (cases_Bool (is_known t x)) [
  | inl known ↦ rw known (omega (arith, length-unknown t xs))
  | inr unknown ↦ rw unknown (omega (arith, length-unknown t xs))
]

pub own_table_wide : (nodes : List DTerm) (a : Applied) → IsFull nodes a → (f : Form) → Fits f → nameless_node f ≡ canonical_node nodes a.0 → (u : Table) → LacksPerBinder a.1 f empty_table u → IsWideClass nodes a.0
own_table_wide nodes a full f fits is u (inl large) = wide_class nodes a.0 f fits is (omega (arith, large))
own_table_wide nodes a full f fits is u (inr out) =
    let xs = values a.1 ++ f.names in
    let held : length a.1 ≡ length (names (nameless_node f)) =
    sym (length-keys a.1) ∙ (ap length full.slots ∙ sym (ap (λ (d : DTerm). length (names d)) is)) in
    wide_class nodes a.0 f fits is
    (omega (arith, lacks_fresh (binders f) xs empty_table (omega arith) out.1, length-unknown empty_table xs, length-append (values a.1) f.names, length-values a.1, held, names_and_binders f fits))

-- the canonical node with the names of an id put in
pub wide_at : (nodes : List DTerm) (a : Applied) (f : Form) → nameless_node f ≡ moved (filled a.1) (canonical_node nodes a.0) → 2 ^ 29 ≤ node_size (nameless_node f) → IsWideClass nodes a.0
wide_at nodes a f is large = omega (arith, large, ap node_size is, size-moved (filled a.1) (canonical_node nodes a.0).args)
