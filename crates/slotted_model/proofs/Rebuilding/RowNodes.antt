-- The nodes that rows file, with the names of full ids of their sources: at rest they are in normal form and looked up.
use Rattle.std.proofs.Common.{◌≡◌, ℕ, ◌<◌, [], Some, length, sym, ◌∙◌, ap}
use Rattle.std.specs.Prelude.{Contains}
use Rattle.slotted_theory.specs.Nameless.{DTerm, moved}
use Rattle.slotted_theory.specs.FiniteMaps.{filled}
use Rattle.slotted_theory.specs.Renaming.{Bijection}
use Rattle.slotted_theory.proofs.Bijections.{to-injective}
use Rattle.slotted_model.specs.Applied.{Applied, renamed_id, EachChild}
use Rattle.slotted_model.specs.Classes.{canonical_node, IsFull}
use Rattle.slotted_model.specs.Extraction.{row_class}
use Rattle.slotted_model.specs.Filling.{IsFilling}
use Rattle.slotted_model.specs.Find.{find_class, used_slots, find, Linked}
use Rattle.slotted_model.specs.Normal.{normal}
use Rattle.slotted_model.specs.ProofList.{node_of}
use Rattle.slotted_model.specs.State.{Row, State, filed_node, normal_node, look_up_normal, look_up_node}
use Rattle.slotted_model.specs.Rest.{IsValidIn, AtRest}
use Rattle.slotted_model.proofs.Complete.AtRest.{normal-again}
use Rattle.slotted_model.proofs.Represented.Children.{EachChild-map}
use Rattle.slotted_model.proofs.Represented.Fillings.{a_filling}
use Rattle.slotted_model.proofs.Finds.NormalIds.{found-renamed, filling-found, full-is_valid}
use Rattle.slotted_model.proofs.Represented.Full.{full-renamed, full-children}
use Rattle.slotted_model.proofs.Complete.Meeting.{Meeting, meeting}
use Rattle.slotted_model.proofs.Represented.RenamedIds.{full-bijection, normal-moves}
use Rattle.slotted_model.proofs.Rebuilding.Rows.{current-look_up, rest-current}

-- there is a full id of a class that finds what an id finds, if the two classes lead to one
pub source-id : (g : State) → Linked g.nodes g.found → (o : ℕ) → o < length g.nodes → (a : Applied) → IsValidIn g a → find_class g.found o ≡ find_class g.found a.0 →
    (b : Applied) × IsFull g.nodes b × (b.0 ≡ o) × (find g.found b ≡ find g.found a)
source-id g linked o h a v same =
    let m : Meeting g.nodes g.found o a.0 = meeting g.nodes g.found linked o a.0 h v.in_range same in
    let f : (x : Applied) × IsFilling g.nodes [] a x = a_filling g.nodes (used_slots g.found) [] a v in
    let p : (π : Bijection) × (renamed_id π.to m.right ≡ f.0) = full-bijection g.nodes m.right f.0 m.right_full f.1.full (m.right_class ∙ sym f.1.class) in
    let to : ℕ → ℕ = p.0.to in
    let found : find g.found (renamed_id to m.left) ≡ find g.found a =
    found-renamed g.found to m.left ∙ (ap (renamed_id to) m.alike ∙ (sym (found-renamed g.found to m.right) ∙ (ap (find g.found) p.1 ∙ sym (filling-found g.nodes g.found linked [] a f.0 v f.1)))) in
    (renamed_id to m.left, full-renamed g.nodes m.left m.left_full to (λ x y i j. to-injective p.0 x y), m.left_class, found)

-- the node of a row, with the names of a full id of its source
abbrev pub row_node : Row → Applied → DTerm
row_node r b = moved (filled b.1) (filed_node r)

module _ (g : State) (rest : AtRest g) where
  abbrev linked : Linked g.nodes g.found
  linked = rest.sane.sound.linked

  pub node-valid : (b : Applied) → IsFull g.nodes b → EachChild (IsValidIn g) (node_of g.nodes b).args
  node-valid b full = EachChild-map (λ c. (c.0 < b.0) × IsFull g.nodes c) (IsValidIn g) (λ c i. full-is_valid g.nodes g.found linked c i.1) (node_of g.nodes b).args (full-children g.nodes rest.sane.sound.canonical b full)

  -- it is the normal form of the id's node
  pub row-normal : (r : Row) → Contains g.rows r → (b : Applied) → b.0 ≡ r.source → row_node r b ≡ normal g.found (node_of g.nodes b)
  row-normal r c b s =
      ap (moved (filled b.1)) ((rest-current g rest r c).in_normal_form ∙ ap (normal_node g) (sym s)) ∙ sym (normal-moves g.found (filled b.1) (canonical_node g.nodes b.0))

  pub row-again : (r : Row) → Contains g.rows r → (b : Applied) → IsFull g.nodes b → b.0 ≡ r.source → normal g.found (row_node r b) ≡ row_node r b
  row-again r c b full s = ap (normal g.found) (row-normal r c b s) ∙ (normal-again g.nodes g.found linked (node_of g.nodes b) (node-valid b full) ∙ sym (row-normal r c b s))

  -- so it is looked up as what the id finds
  pub row-looked_up : (r : Row) → Contains g.rows r → (b : Applied) → IsFull g.nodes b → b.0 ≡ r.source → look_up_node g (row_node r b) ≡ Some (find g.found b)
  row-looked_up r c b full s =
      ap (look_up_normal g) (row-again r c b full s ∙ row-normal r c b s) ∙ current-look_up g linked rest.sane.filed r c (rest-current g rest r c) b full s

  -- and each id of a row's class finds what some full id of its source finds
  pub row-id : (r : Row) → Contains g.rows r → (a : Applied) → IsValidIn g a → find_class g.found a.0 ≡ row_class g r →
      (b : Applied) × IsFull g.nodes b × (b.0 ≡ r.source) × (find g.found b ≡ find g.found a)
  row-id r c a v same = source-id g linked r.source (rest.sane.filed.each r c).in_range a v (sym same)
