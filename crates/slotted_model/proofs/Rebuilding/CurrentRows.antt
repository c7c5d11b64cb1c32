-- A row that files the node of its source in normal form is the row by which the source is filed.
use Rattle.std.proofs.Common.{◌≡◌, ℕ, sym, ◌∙◌, ap, subst}
use Rattle.slotted_lists.proofs.Members.{In}
use Rattle.slotted_theory.specs.Nameless.{DTerm}
use Rattle.slotted_theory.specs.FiniteMaps.{filled}
use Rattle.slotted_theory.specs.Shape.{free_names, shape}
use Rattle.slotted_theory.proofs.Filled.{filled-injective}
use Rattle.slotted_theory.proofs.Shapes.{shape-moved}
use Rattle.slotted_model.specs.Applied.{keys, map_on}
use Rattle.slotted_model.specs.Ascending.{IsAscending, names}
use Rattle.slotted_model.specs.State.{Row, State, filed_node, normal_node, name_numbered}
use Rattle.slotted_model.specs.Rest.{IsRow}
use Rattle.slotted_model.specs.Rebuild.{row_for}
use Rattle.slotted_model.proofs.Data.Maps.{map_on-agrees, map_on-filled}
use Rattle.slotted_model.proofs.Rebuilding.Rows.{name_numbered-moved, name_numbered-shape}
use Rattle.slotted_model.proofs.Data.Sets.{IsAscending-ascending}

pub row-itself : (g : State) (r : Row) → IsRow g r → filed_node r ≡ normal_node g r.source → r ≡ row_for g r.source
row-itself g r row e =
    let N : DTerm = normal_node g r.source in
    let f : ℕ → ℕ = filled r.slots in
    let s : r.shape ≡ shape N = sym row.is_shape ∙ (sym (shape-moved f (filled-injective r.slots row.injective) r.shape) ∙ ap shape e) in
    let rises : IsAscending (keys r.slots) = subst IsAscending (sym row.numbers) (IsAscending-ascending (free_names r.shape.args)) in
    let at : (n : ℕ) → In n (names r.shape) → f n ≡ name_numbered N n =
    λ n h.
    ap f (sym (name_numbered-shape r.shape row.is_shape n h))
    ∙ (sym (name_numbered-moved f r.shape n (subst (λ d. In n (names d)) (sym row.is_shape) h)) ∙ ap (λ d. name_numbered d n) e) in
    let m : r.slots ≡ map_on (name_numbered N) (names (shape N)) =
    sym (map_on-filled r.slots rises) ∙ (ap (map_on f) row.numbers ∙ (map_on-agrees f (name_numbered N) (names r.shape) at ∙ ap (λ d. map_on (name_numbered N) (names d)) s)) in
    λ i. record { shape = s i; source = r.source; slots = m i }
