-- The filed nodes of a class, as the graph gives them out.
--     shapes_found g c                 the shapes of the filed nodes whose class finds c
--     HasEachNode form g c ns          ns has one node for each of these
--     IsNoneIfDead g c ns              ns is empty if the class c does not find itself
--     AscendByShape form cmp ns        the shapes of ns ascend by the order of the language
--     IsEnode g a f                    f is a valid node that is looked up as what the id a finds
--     HasOwnNames g c f                each name in the node is a slot that the class c has left, or numeric
--     slots_for_enodes g c             two for each place of these nodes
--     HasLargeRow g                    a filed node has too many places to be numbered
--     HasLargeRowOf g c                one of those whose class finds c has
--     HasFreshNames t vs f             the table t knew no binder's name of f, and no free name but those of vs
--     CanRunOutForEnodes g c u         fewer fresh slots were left than these, and none is in u, or one of these nodes has too many places
--     slots_for_dump g                 two for each place of all filed nodes, class by class
--     CanRunOutForDump g u             the same of all
pub use Rattle.slotted_reports.specs.Nodes.{HasFreshNames, IsAppended}
use Rattle.std.specs.Prelude.{◌≡◌, ◌≤◌, ◌*◌, ◌⊎◌, ℕ, List, [], Bool, Contains, Some, length, map, nat_eq}
use Rattle.std.specs.List.{filter, range_with_len, sum_by}
use Rattle.std.specs.List.Sorted.{IsPermutation}
use Rattle.std.specs.declared.cmp.Ordering.{Ordering}
use Rattle.slotted_theory.specs.Nameless.{DTerm}
use Rattle.slotted_theory.specs.Shape.{shape}
use Rattle.slotted_slots.specs.Table.{Table, slot_limit}
use Rattle.slotted_nodes.specs.Form.{Form}
use Rattle.slotted_languages.specs.NodeTerm.{nameless_node}
use Rattle.slotted_model.specs.Applied.{Applied}
use Rattle.slotted_model.specs.State.{Row}
use Rattle.slotted_classes.specs.Names.{IsNumeric}
use Rattle.slotted_reports.specs.Nodes.{Ascend, key_in}
use Rattle.slotted_operations.specs.Canonical.{place_count}
use Rattle.slotted_operations.specs.Causes.{class_found}
use Rattle.slotted_operations.specs.Graph.{Graph, RunsOut}
use Rattle.slotted_operations.specs.Image.{Image, found_id}
use Rattle.slotted_operations.specs.LookUp.{look_up}
use Rattle.slotted_operations.specs.Reports.{slots_used}
use Rattle.slotted_operations.specs.ValidIds.{IsValidNode}

-- whether the class of the filed node finds c
abbrev pub finds_class : Image → ℕ → Row → Bool
finds_class g c r = nat_eq (class_found g r.source) c

abbrev pub shapes_found : Graph → ℕ → List DTerm
shapes_found g c = map (λ (r : Row). r.shape) (filter (finds_class g.image c) g.filed)

-- the shapes of the nodes are those, each as often
abbrev pub HasEachNode : {L : Type 0} → (L → Form) → Graph → ℕ → List L → Type 0
HasEachNode form g c ns = IsPermutation (shapes_found g c) (map (λ n. shape (nameless_node (form n))) ns)

-- where the class does not find itself, there is none
abbrev pub IsNoneIfDead : {L : Type 0} → Graph → ℕ → List L → Type 0
IsNoneIfDead g c ns = ¬ (class_found g.image c ≡ c) → ns ≡ []

abbrev pub AscendByShape : {L : Type 0} → (L → Form) → (L → L → Ordering) → List L → Type 0
AscendByShape form cmp ns = Ascend form cmp (map (key_in form) ns)

abbrev pub slots_for_enodes : Graph → ℕ → ℕ
slots_for_enodes g c = 2 * sum_by place_count (shapes_found g c)

pub record IsEnode (g : Graph) (a : Applied) (f : Form) : Type 0 where
  pub valid : IsValidNode g f
  pub found : look_up g f ≡ Some (found_id g.image a)

abbrev pub HasOwnNames : Image → ℕ → Form → Type 0
HasOwnNames g c f = (x : ℕ) → Contains f.names x → Contains (slots_used g c) x ⊎ IsNumeric x

abbrev pub HasLargeRow : Graph → Type 0
HasLargeRow g = (r : Row) × Contains g.filed r × (slot_limit ≤ place_count r.shape)

abbrev pub HasLargeRowOf : Graph → ℕ → Type 0
HasLargeRowOf g c = (r : Row) × Contains g.filed r × (class_found g.image r.source ≡ c) × (slot_limit ≤ place_count r.shape)

abbrev pub CanRunOutForEnodes : Graph → ℕ → Table → Type 0
CanRunOutForEnodes g c u = RunsOut (slots_for_enodes g c) g.table u ⊎ HasLargeRowOf g c

abbrev pub slots_for_dump : Graph → ℕ
slots_for_dump g = sum_by (slots_for_enodes g) (range_with_len 0 (length g.image.canonical))

abbrev pub CanRunOutForDump : Graph → Table → Type 0
CanRunOutForDump g u = RunsOut (slots_for_dump g) g.table u ⊎ HasLargeRow g
