-- What look-ups answer at rest: what full ids find whose nodes have the same normal form.
use Rattle.std.proofs.Common.{◌≡◌, ℕ, ◌<◌, List, Some, length, sym, ◌∙◌, ap, refl}
use Rattle.std.specs.Prelude.{Contains}
use Rattle.slotted_lists.proofs.Options.{Some-same}
use Rattle.slotted_theory.specs.Nameless.{DTerm, moved}
use Rattle.slotted_theory.specs.FiniteMaps.{filled}
use Rattle.slotted_theory.specs.Shape.{free_names, shape, SameUpToNames}
use Rattle.slotted_theory.proofs.Bijections.{to-injective}
use Rattle.slotted_theory.proofs.Shapes.{shape_iff}
use Rattle.slotted_model.specs.Applied.{Applied, map_on, renamed_id}
use Rattle.slotted_model.specs.Classes.{canonical_node, canonical_slots, IsFull}
use Rattle.slotted_model.specs.Find.{find}
use Rattle.slotted_model.specs.Growth.{identity_id}
use Rattle.slotted_model.specs.Normal.{normal}
use Rattle.slotted_model.specs.ProofList.{node_of}
use Rattle.slotted_model.specs.State.{Row, State, normal_node, row_of, source_with_names, look_up_normal, look_up_node}
use Rattle.slotted_model.specs.Rest.{IsCurrent, AtRest, IsAnswer}
use Rattle.slotted_model.proofs.Data.Sets.{In-ascending}
use Rattle.slotted_model.proofs.Data.Theory.{moved-agrees, moved-id}
use Rattle.slotted_model.proofs.Data.Maps.{filled-map_on}
use Rattle.slotted_model.proofs.Represented.Full.{full-renamed}
use Rattle.slotted_model.proofs.Data.Options.{option_map-some}
use Rattle.slotted_model.proofs.Represented.RenamedIds.{normal-renamed}
use Rattle.slotted_model.proofs.Rebuilding.UpTo.{identity-full}
use Rattle.slotted_model.proofs.Rebuilding.Rows.{row_of-some, current-shape, current-look_up, rest-current}

-- the node of a class with its own slots is the canonical node
pub node_of-identity : (nodes : List DTerm) (i : ℕ) → node_of nodes (identity_id nodes i) ≡ canonical_node nodes i
node_of-identity nodes i =
    let c : DTerm = canonical_node nodes i in
    moved-agrees (filled (map_on (λ s. s) (canonical_slots nodes i))) (λ s. s) c (λ x h. filled-map_on (λ s. s) (canonical_slots nodes i) x (In-ascending x (free_names c.args) h))
    ∙ moved-id c

-- an answer x to a node d comes from a row: it is what a full id of the row's source finds, whose node has the normal form of d
pub record RowAnswer (g : State) (d : DTerm) (x : Applied) : Type 0 where
  pub row : Row
  pub id : Applied
  pub filed : Contains g.rows row
  pub full : IsFull g.nodes id
  pub source : id.0 ≡ row.source
  pub same : normal g.found (node_of g.nodes id) ≡ normal g.found d
  pub found : find g.found id ≡ x

pub answer-row : (g : State) → AtRest g → (d : DTerm) (x : Applied) → look_up_node g d ≡ Some x → RowAnswer g d x
answer-row g rest d x e =
    let N : DTerm = normal g.found d in
    let k : (r : Row) × (row_of (shape N) g.rows ≡ Some r) × (find g.found (source_with_names N r) ≡ x) = option_map-some (λ (r : Row). find g.found (source_with_names N r)) (row_of (shape N) g.rows) x e in
    let r : Row = k.0 in
    let s : Contains g.rows r × (r.shape ≡ shape N) = row_of-some (shape N) g.rows r k.1 in
    let h : r.source < length g.nodes = (rest.sane.filed.each r s.0).in_range in
    let cur : IsCurrent g r = rest-current g rest r s.0 in
    let π : SameUpToNames (normal_node g r.source) N = (shape_iff (normal_node g r.source) N).0 (current-shape g rest.sane.sound.linked rest.sane.filed r s.0 cur ∙ s.1) in
    let f : ℕ → ℕ = π.0.to in
    let own : Applied = identity_id g.nodes r.source in
    let full : IsFull g.nodes own = identity-full g.nodes r.source h in
    let a : Applied = renamed_id f own in
    let fa : IsFull g.nodes a = full-renamed g.nodes own full f (λ u v i j p. to-injective π.0 u v p) in
    let same : normal g.found (node_of g.nodes a) ≡ N =
    normal-renamed g.nodes g.found own full f ∙ (ap (λ t. moved f (normal g.found t)) (node_of-identity g.nodes r.source) ∙ π.1) in
    let found : look_up_node g (node_of g.nodes a) ≡ Some (find g.found a) = current-look_up g rest.sane.sound.linked rest.sane.filed r s.0 cur a fa refl in
    record { row = r; id = a; filed = s.0; full = fa; source = refl; same = same; found = Some-same (find g.found a) x (sym found ∙ (ap (look_up_normal g) same ∙ e)) }

-- so it is what a full id finds whose node has the same normal form
pub answer-found : (g : State) → AtRest g → (d : DTerm) (x : Applied) → look_up_node g d ≡ Some x → IsAnswer g d x
answer-found g rest d x e =
    let r : RowAnswer g d x = answer-row g rest d x e in
    record { id = r.id; full = r.full; same = r.same; found = r.found }
