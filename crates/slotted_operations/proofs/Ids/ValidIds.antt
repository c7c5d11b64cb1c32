-- Ids that may lack names, as contracts see them and as what is kept has them.
use Rattle.std.proofs.Common.{◌≡◌, ◌<◌, ℕ, List, [], length, take, drop, sym, ap, subst, arith}
use Rattle.std.specs.Prelude.{All, Contains, IsTrue, slice_index_or}
use Rattle.std.specs.Map.{values_of}
use Rattle.slotted_lists.proofs.Contained.{Contains-nil}
use Rattle.slotted_lists.proofs.Members.{In, In-take, In-drop}
use Rattle.slotted_lists.proofs.Each.{Each-from_All}
use Rattle.slotted_lists.proofs.Maps.{In-zip}
use Rattle.slotted_theory.specs.Renaming.{IsInjective}
use Rattle.slotted_slots.specs.Table.{is_known, AllKnown}
use Rattle.slotted_nodes.specs.Form.{Form, children, child_place}
use Rattle.slotted_languages.specs.NodeTerm.{nameless_node}
use Rattle.slotted_languages.specs.Shape.{Fits}
use Rattle.slotted_model.specs.Applied.{Applied, EachChild, renamed_id, values}
use Rattle.slotted_model.specs.Filling.{IsFilling}
use Rattle.slotted_model.specs.Find.{Entry, find_map, used_slots}
use Rattle.slotted_model.proofs.Correspondences.Pairs.{Contains-of_value}
use Rattle.slotted_model.proofs.Finds.Finding.{leads, find_map-partial}
use Rattle.slotted_model.proofs.Finds.NormalIds.{used-by, of_used}
use Rattle.slotted_model.proofs.Represented.RenamedIds.{valid-renamed}
use Rattle.slotted_classes.specs.Finding.{IsFindable}
use Rattle.slotted_classes.specs.Kept.{Kept, nodes_of, entries_of}
use Rattle.slotted_classes.proofs.ChildIds.{EachChild-node_args, child_with_keys, id_from, ids-at, length-ids}
use Rattle.slotted_classes.proofs.KeptLists.{length-nodes_of}
use Rattle.slotted_classes.proofs.NameMaps.{In-at, at_In}
use Rattle.slotted_operations.specs.ValidIds.{IsValidId, slots_left, Fills}
use Rattle.slotted_operations.specs.Good.{Good, image_of}
use Rattle.slotted_operations.specs.Graph.{Graph}
use Rattle.slotted_operations.specs.Image.{Image}
use Rattle.slotted_operations.specs.Nodes.{child_ids}
use Rattle.slotted_operations.proofs.Graphs.Images.{found-at}

-- an id that finds is of a class
pub findable-within : (k : Kept) (a : Applied) → IsFindable k a → a.0 < length k.classes
findable-within k a v = let n : length (nodes_of k) ≡ length k.classes = length-nodes_of k in let m : a.0 < length (nodes_of k) = v.in_range in omega arith

-- an id that fills another one does so in the mathematics
pub fills-filling : (k : Kept) (a b : Applied) → Fills (image_of k) a b → IsFilling (nodes_of k) [] a b
fills-filling k a b f = record { class = f.class; full = f.full; keeps = f.keeps; fresh = λ s x h n m. Contains-nil x m }

-- other names keep an id one that finds
pub renamed-findable : (k : Kept) (f : ℕ → ℕ) → IsInjective f → (a : Applied) → IsFindable k a → IsFindable k (renamed_id f a)
renamed-findable k f inj a v = valid-renamed (used_slots (entries_of k)) (nodes_of k) f inj a v

module _ (k : Kept) (good : Good k) (g : Graph) (image : image_of k ≡ g.image) (a : Applied) where
  abbrev found : List Entry
  found = entries_of k

  -- in a graph with this image
  abbrev Findable : Image → Type 0
  Findable i = IsValidId (record g { image = i }) a

  -- the slots that the class has left
  left-are : a.0 < length (nodes_of k) → slots_left (image_of k) a.0 ≡ values_of (find_map found a.0)
  left-are l =
      let n : length (nodes_of k) ≡ length k.classes = length-nodes_of k in
      ap (λ (b : Applied). values b.1) (found-at k a.0 (omega arith))

  pub to-valid : IsFindable k a → AllKnown g.table (values a.1) → IsValidId g a
  to-valid v known = subst Findable image (record {
    in_range = v.in_range;
    ascending = v.ascending;
    injective = v.injective;
    known = known;
    within = v.within;
    has_left = λ s c d. v.has_slots s (used-by found a.0 s (subst (λ S. Contains S s) (left-are v.in_range) d));
  })

  pub of-valid : IsValidId g a → IsFindable k a
  of-valid w =
      let v : Findable (image_of k) = subst Findable (sym image) w in
      record {
        in_range = v.in_range;
        ascending = v.ascending;
        injective = v.injective;
        has_slots = λ s c.
            let d : Contains (values_of (find_map found a.0)) s = of_used found a.0 s c in
            let r = Contains-of_value (find_map found a.0) s d in
            v.has_left s ((find_map-partial (nodes_of k) found (leads (nodes_of k) found good.stored.sane.sound.linked) a.0 v.in_range).within r.0 s r.1)
            (subst (λ S. Contains S s) (sym (left-are v.in_range)) d);
        within = v.within;
      }

-- the children of a node
pub findable-children : (k : Kept) → Good k → (g : Graph) → image_of k ≡ g.image → (f : Form) → Fits f → All (IsValidId g) (child_ids f) → EachChild (IsFindable k) (nameless_node f).args
findable-children k good g image f fits all =
    EachChild-node_args (IsFindable k) (renamed-findable k) (λ x. x) (λ x y e. e) f.tree f.names fits
    (Each-from_All (IsFindable k) (child_ids f) (λ j d l. of-valid k good g image _ (all j d l)))

child-known : (f : Form) (j : ℕ) (d : Applied) → j < length (child_ids f) → (P : ℕ → Type 0) → All P f.names → All P (values (slice_index_or (child_ids f) j d).1)
child-known f j d l P all i e m =
    let c : j < length (children f.tree) = omega (arith, l, length-ids f.tree f.names) in
    let at = ids-at f.tree f.names j d c in
    let x : ℕ = slice_index_or (values (slice_index_or (child_ids f) j d).1) i e in
    let h : In x (values (id_from (child_with_keys f.tree j) (child_place f.tree j) f.names).1) =
    subst (λ (a : Applied). In x (values a.1)) at (In-at (values (slice_index_or (child_ids f) j d).1) i e m) in
    at_In P f.names all x (In-drop (child_place f.tree j) f.names x (In-take (length (child_with_keys f.tree j).1) (drop (child_place f.tree j) f.names) x (In-zip (child_with_keys f.tree j).1 (take (length (child_with_keys f.tree j).1) (drop (child_place f.tree j) f.names)) x h)))

-- the children of a node with known names, one by one
pub node-children_valid : (k : Kept) → Good k → (g : Graph) → image_of k ≡ g.image → (f : Form) → AllKnown g.table f.names → All (IsFindable k) (child_ids f) → All (IsValidId g) (child_ids f)
node-children_valid k good g image f known all j d l =
    to-valid k good g image (slice_index_or (child_ids f) j d) (all j d l) (child-known f j d l (λ s. IsTrue (is_known g.table s)) known)

pub node-children_find : (k : Kept) → Good k → (g : Graph) → image_of k ≡ g.image → (f : Form) → All (IsValidId g) (child_ids f) → All (IsFindable k) (child_ids f)
node-children_find k good g image f all j d l = of-valid k good g image (slice_index_or (child_ids f) j d) (all j d l)
