-- The classes that an open symmetry affects, by canonical nodes, are those of the mathematics, by filed nodes.
use Rattle.std.proofs.Common.{◌≡◌, ◌↔◌, ◌<◌, ℕ, List, [], ◌∷◌, length, sym, ◌∙◌, ap, refl, subst, inl, inr, arith}
use Rattle.std.specs.Prelude.{Contains}
use Rattle.std.proofs.lemmas.List.Elements.{Contains-append_left, Contains-append_right, Contains-append_cases}
use Rattle.slotted_lists.proofs.Contained.{contains_head, contains_tail, contains_cases, Contains-nil, Contains-map, Contains-of_map}
use Rattle.slotted_theory.specs.FiniteMaps.{filled}
use Rattle.slotted_theory.specs.Nameless.{DArgs, DTerm, stop, place, sub, scope}
use Rattle.slotted_model.specs.Applied.{Applied, applied_of, EachChild}
use Rattle.slotted_model.specs.Classes.{canonical_node, IsFull}
use Rattle.slotted_model.specs.Find.{Entry, find_class, find}
use Rattle.slotted_model.specs.Growth.{identity_id}
use Rattle.slotted_model.specs.Normal.{normal_args}
use Rattle.slotted_model.specs.Rest as model
use Rattle.slotted_model.specs.Rest.{Sane, AtRest, IsRow, IsCurrent, LookedUp, by_symmetry, by_child}
use Rattle.slotted_model.specs.State.{Symmetry, State, left_of, right_of, child_classes, normal_node}
use Rattle.slotted_model.proofs.Represented.Growing.{identity-full}
use Rattle.slotted_model.proofs.Complete.Marks.{child_classes-moved}
use Rattle.slotted_model.proofs.LeastTerms.Optimal.{row-classes}
use Rattle.slotted_model.proofs.Rebuilding.Rows.{rest-gives}
use Rattle.slotted_classes.specs.Kept.{Kept, SymmetryEntry, nodes_of, entries_of}
use Rattle.slotted_classes.proofs.KeptLists.{length-nodes_of}
use Rattle.slotted_classes.specs.StateOf.{symmetry_of_entry}
use Rattle.slotted_hashcons.specs.FiledRows.{Rows}
use Rattle.slotted_hashcons.specs.WellFiled.{state_in}
use Rattle.slotted_operations.specs.Affected.{IsAffected, by_open_symmetry, by_affected_child}
use Rattle.slotted_operations.specs.Causes.{class_of, HasChildOf, class_found}
use Rattle.slotted_operations.specs.Good.{Good, image_of}
use Rattle.slotted_operations.proofs.Graphs.Images.{class_found-is}
use Rattle.slotted_operations.proofs.Unions.Symmetries.{left-within, closed-model, closed-image}

-- the class of a child
class-applied : (payloads : List (List ℕ)) (args : DArgs) → class_of payloads ≡ (applied_of payloads args).0
class-applied [] args = refl
class-applied ([] ∷ more) args = refl
class-applied ((i ∷ ks) ∷ more) args = refl

-- a child of the normal form is what a child finds
child-found : (found : List Entry) (d : DArgs) (c : ℕ) → Contains (child_classes (normal_args found d)) c → (b : ℕ) × HasChildOf d b × (find_class found b ≡ c)
child-found found stop c h = absurd (Contains-nil c h)
child-found found (place x rest) c h = child-found found rest c h
child-found found (sub op payloads args rest) c h = elim (contains_cases (find_class found (applied_of payloads args).0) (child_classes (normal_args found rest)) c h) [
  | inl e ↦ ((applied_of payloads args).0, inl (class-applied payloads args), sym e)
  | inr m ↦ let r = child-found found rest c m in (r.0, inr r.1, r.2)
]
child-found found (scope inner rest) c h = elim (Contains-append_cases (child_classes (normal_args found inner)) (child_classes (normal_args found rest)) c h) [
  | inl m ↦ let r = child-found found inner c m in (r.0, inl r.1, r.2)
  | inr m ↦ let r = child-found found rest c m in (r.0, inr r.1, r.2)
]

-- and what a child finds is one
found-child : (found : List Entry) (d : DArgs) (b : ℕ) → HasChildOf d b → Contains (child_classes (normal_args found d)) (find_class found b)
found-child found stop b h = absurd h
found-child found (place x rest) b h = found-child found rest b h
found-child found (sub op payloads args rest) b (inl e) =
    let c : ℕ = find_class found (applied_of payloads args).0 in
    let cs : List ℕ = child_classes (normal_args found rest) in
    subst (Contains (c ∷ cs)) (ap (find_class found) (sym (class-applied payloads args) ∙ e)) (contains_head c cs)
found-child found (sub op payloads args rest) b (inr h) =
    contains_tail (find_class found (applied_of payloads args).0) (child_classes (normal_args found rest)) (find_class found b) (found-child found rest b h)
found-child found (scope inner rest) b (inl h) =
    Contains-append_left (child_classes (normal_args found inner)) (child_classes (normal_args found rest)) (find_class found b) (found-child found inner b h)
found-child found (scope inner rest) b (inr h) =
    Contains-append_right (child_classes (normal_args found inner)) (child_classes (normal_args found rest)) (find_class found b) (found-child found rest b h)

-- what holds of each child holds of one of that class
child-each : (P : Applied → Type 0) (d : DArgs) → EachChild P d → (b : ℕ) → HasChildOf d b → (a : Applied) × P a × (a.0 ≡ b)
child-each P stop c b h = absurd h
child-each P (place x rest) c b h = child-each P rest c b h
child-each P (sub op payloads args rest) c b (inl e) = (c.0.0, c.0.2, sym (ap (λ (t : DTerm). class_of t.payloads) c.0.1) ∙ e)
child-each P (sub op payloads args rest) c b (inr h) = child-each P rest c.1 b h
child-each P (scope inner rest) c b (inl h) = child-each P inner c.0 b h
child-each P (scope inner rest) c b (inr h) = child-each P rest c.1 b h

module _ (k : Kept) (good : Good k) (r : Rows) (sane : Sane (state_in k r)) where
  abbrev g : State
  g = state_in k r

  abbrev found : List Entry
  found = entries_of k

  -- the class of a node, and that of a child, as contracts see what they find
  class-is : (i : ℕ) → i < length (nodes_of k) → class_found (image_of k) i ≡ find_class found i
  class-is i l = let n : length (nodes_of k) ≡ length k.classes = length-nodes_of k in class_found-is k i (omega arith)

  child-is : (i b : ℕ) → i < length (nodes_of k) → HasChildOf (canonical_node (nodes_of k) i).args b → class_found (image_of k) b ≡ find_class found b
  child-is i b l h =
      let c = child-each (λ (a : Applied). (a.0 < i) × IsFull (nodes_of k) a) (canonical_node (nodes_of k) i).args (sane.sound.canonical.children i l) b h in
      class-is b (subst (λ n. n < length (nodes_of k)) c.2 c.1.1.in_range)

  -- the class of a listed symmetry
  side-is : (y : SymmetryEntry) → Contains k.symmetries y → class_found (image_of k) y.0.0.0 ≡ find_class found y.0.0.0
  side-is y h = class_found-is k y.0.0.0 (left-within k good y h)

  -- where nothing waits, each affected class of the mathematics is one: a filed node is the normal form of a canonical node
  module _ (nothing_waits : r.waiting ≡ []) where
    pub affected-is : {c : ℕ} → model.IsAffected g c → IsAffected (image_of k) c
    affected-is (by_symmetry y h open_model) =
        let e = Contains-of_map symmetry_of_entry k.symmetries y h in
        subst (IsAffected (image_of k)) (side-is e.0 e.1 ∙ ap (λ (z : Symmetry). find_class found z.class) e.2)
        (by_open_symmetry e.0 e.1 (λ alike. open_model (subst (λ (z : Symmetry). find found (left_of z) ≡ find found (right_of z)) e.2 (closed-model k good e.0 e.1 alike))))
    affected-is (by_child {c = c} q h m affected) =
        let row : IsRow g q = sane.filed.each q h in
        let current : IsCurrent g q = sane.filed.current q h (λ w. Contains-nil q.source (subst (λ ws. Contains ws q.source) nothing_waits w)) in
        let same : child_classes q.shape.args ≡ child_classes (normal_args found (canonical_node (nodes_of k) q.source).args) =
        sym (child_classes-moved (filled q.slots) q.shape.args) ∙ ap (λ (d : DTerm). child_classes d.args) current.in_normal_form in
        let child = child-found found (canonical_node (nodes_of k) q.source).args c (subst (λ cs. Contains cs c) same m) in
        subst (IsAffected (image_of k)) (class-is q.source row.in_range)
        (by_affected_child q.source child.0 row.in_range child.1 (subst (IsAffected (image_of k)) (sym (child-is q.source child.0 row.in_range child.1 ∙ child.2)) (affected-is affected)))

-- at rest it is no other class: the node of each class is filed
module _ (k : Kept) (good : Good k) (r : Rows) (rest : AtRest (state_in k r)) where
  pub affected-of : {c : ℕ} → IsAffected (image_of k) c → model.IsAffected (state_in k r) c
  affected-of (by_open_symmetry y h open_image) =
      subst (model.IsAffected (state_in k r)) (sym (side-is k good r rest.sane y h))
      (by_symmetry (symmetry_of_entry y) (Contains-map symmetry_of_entry k.symmetries y h) (λ same. open_image (closed-image k good y h same)))
  affected-of (by_affected_child i b l h affected) =
      let found : List Entry = entries_of k in
      let filed : LookedUp (state_in k r) (identity_id (nodes_of k) i) = (rest-gives (state_in k r) rest).nodes (identity_id (nodes_of k) i) (identity-full (nodes_of k) i l) in
      let same : child_classes filed.row.shape.args ≡ child_classes (normal_args found (canonical_node (nodes_of k) i).args) = row-classes filed.row (normal_node (state_in k r) i) filed.shape_of_row in
      subst (model.IsAffected (state_in k r)) (filed.class_of_row ∙ sym (class-is k good r rest.sane i l))
      (by_child {c = find_class found b} filed.row filed.filed (subst (λ cs. Contains cs (find_class found b)) (sym same) (found-child found (canonical_node (nodes_of k) i).args b h))
      (subst (model.IsAffected (state_in k r)) (child-is k good r rest.sane i b l h) (affected-of affected)))

  pub affected-iff : (c : ℕ) → IsAffected (image_of k) c ↔ model.IsAffected (state_in k r) c
  affected-iff c = (affected-of, affected-is k good r rest.sane rest.nothing_waits)
