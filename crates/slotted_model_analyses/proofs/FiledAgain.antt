-- Filing anew what does not wait, and what the nodes of a graph at rest make.
use Rattle.std.proofs.Common.{◌≡◌, ◌≢◌, ℕ, ◌<◌, List, [], ◌∷◌, ◌++◌, length, cond, sym, ◌∙◌, ap, refl, subst, inl, inr, arith}
use Rattle.std.specs.Prelude.{Contains, map, nat_eq}
use Rattle.std.proofs.lemmas.Bool.{cases_eq, eq-eqb, ne_eqb}
use Rattle.std.proofs.lemmas.List.{length-map, map-append}
use Rattle.slotted_lists.proofs.Contained.{contains_head, contains_tail, Contains-nil}
use Rattle.slotted_lists.proofs.Members.{In}
use Rattle.slotted_theory.specs.Nameless.{DArgs, DTerm, stop, place, sub, scope}
use Rattle.slotted_theory.specs.FiniteMaps.{filled}
use Rattle.slotted_theory.specs.Shape.{free_names, shape}
use Rattle.slotted_theory.proofs.Values.{node}
use Rattle.slotted_model.specs.Ascending.{IsAscending, names}
use Rattle.slotted_model.specs.Applied.{keys, map_on, applied_of}
use Rattle.slotted_model.specs.Classes.{canonical_node}
use Rattle.slotted_model.specs.Cost.{child_count, AreAlike}
use Rattle.slotted_model.specs.Find.{Entry, find_class}
use Rattle.slotted_model.specs.Growth.{identity_id}
use Rattle.slotted_model.specs.Normal.{normal_args, normal}
use Rattle.slotted_model.specs.State.{Row, State, normal_node, name_numbered, child_classes}
use Rattle.slotted_model.specs.Rest.{IsRow, IsCurrent, Sane, LookedUp}
use Rattle.slotted_model.specs.Rebuild.{with_row, row_for, IsCovered}
use Rattle.slotted_model.proofs.Data.Sets.{IsAscending-ascending}
use Rattle.slotted_model.proofs.Data.Maps.{map_on-agrees, map_on-filled}
use Rattle.slotted_model.proofs.LeastTerms.Costs.{null_children-normal, child_classes-count}
use Rattle.slotted_model.proofs.LeastTerms.Optimal.{row-classes, row-alike}
use Rattle.slotted_model.proofs.Rebuilding.Rows.{name_numbered-moved, name_numbered-shape, current-shape, one_row, rest-nodes}
use Rattle.slotted_model.proofs.Represented.Growing.{identity-full}
use Rattle.slotted_model_analyses.specs.Analysis.{Analysis, MakesAlike, Absorbs}
use Rattle.slotted_model_analyses.specs.DataPart.{DataPart, RestsWithData}

-- a row in the place of its source is no change where it stands there
pub with_row-again : (q : Row) (rows : List Row) → ((r : Row) → Contains rows r → r.source ≡ q.source → r ≡ q) → with_row q rows ≡ rows
with_row-again q [] h = refl
with_row-again q (r ∷ rows) h =
    let head : cond (nat_eq r.source q.source) q r ≡ r = elim (cases_eq r.source q.source) [
      | inl e ↦ ap (λ b. cond b q r) (eq-eqb r.source q.source e) ∙ sym (h r (contains_head r rows) e)
      | inr n ↦ ap (λ b. cond b q r) (ne_eqb r.source q.source n)
    ] in
    λ i. head i ∷ with_row-again q rows (λ x c. h x (contains_tail r rows x c)) i

module _ (g : State) (sane : Sane g) where
  -- the row of a class that does not wait is the one by which it would be filed anew
  pub filed-again : (r : Row) → Contains g.rows r → ¬ Contains g.waiting r.source → row_for g r.source ≡ r
  filed-again r c n =
      let row : IsRow g r = sane.filed.each r c in
      let cur : IsCurrent g r = sane.filed.current r c n in
      let N : DTerm = normal_node g r.source in
      let s : shape N ≡ r.shape = current-shape g sane.sound.linked sane.filed r c cur in
      let asc : IsAscending (keys r.slots) = subst IsAscending (sym row.numbers) (IsAscending-ascending (free_names r.shape.args)) in
      let at : (k : ℕ) → In k (keys r.slots) → name_numbered N k ≡ filled r.slots k =
      λ k h.
      let j : In k (names r.shape) = subst (In k) row.numbers h in
      ap (λ t. name_numbered t k) (sym cur.in_normal_form)
      ∙ (name_numbered-moved (filled r.slots) r.shape k (subst (λ t. In k (names t)) (sym row.is_shape) j)
      ∙ ap (filled r.slots) (name_numbered-shape r.shape row.is_shape k j)) in
      let same : map_on (name_numbered N) (names (shape N)) ≡ r.slots =
      ap (map_on (name_numbered N)) (ap names s ∙ sym row.numbers) ∙ (map_on-agrees (name_numbered N) (filled r.slots) (keys r.slots) at ∙ map_on-filled r.slots asc) in
      λ i. record { shape = s i; source = r.source; slots = same i }

  -- its node is covered, and no other row has its shape
  pub alone-again : (r : Row) → Contains g.rows r → ¬ Contains g.waiting r.source → IsCovered g r.source × ((q : Row) → Contains g.rows q → q.source ≢ r.source → q.shape ≢ shape (normal_node g r.source))
  alone-again r c n =
      let cur : IsCurrent g r = sane.filed.current r c n in
      (cur.covered, λ q k m e. m (sane.filed.shapes q r k c (e ∙ current-shape g sane.sound.linked sane.filed r c cur)))

  pub rows-again : (r : Row) → Contains g.rows r → ¬ Contains g.waiting r.source → with_row (row_for g r.source) g.rows ≡ g.rows
  rows-again r c n =
      let e : row_for g r.source ≡ r = filed-again r c n in
      ap (λ q. with_row q g.rows) e ∙ with_row-again r g.rows (λ q k p. one_row g.rows sane.filed.once q r k c p)

-- the classes of the children of a node in normal form are those that its children find
pub normal-classes : (found : List Entry) (d : DArgs) → child_classes (normal_args found d) ≡ map (find_class found) (child_classes d)
normal-classes found stop = refl
normal-classes found (place x rest) = normal-classes found rest
normal-classes found (sub op payloads args rest) = ap (λ cs. find_class found (applied_of payloads args).0 ∷ cs) (normal-classes found rest)
normal-classes found (scope inner rest) =
    (λ i. normal-classes found inner i ++ normal-classes found rest i) ∙ sym (map-append (find_class found) (child_classes inner) (child_classes rest))

-- a node in normal form is alike to the node
pub normal-alike : (found : List Entry) (d : DTerm) → AreAlike (normal found d) d
normal-alike found d = ap (λ args. shape (node d.op d.payloads args)) (null_children-normal found d.args)

pub map-map : {X Y Z : Type 0} (f : X → Y) (k : Y → Z) (xs : List X) → map k (map f xs) ≡ map (λ x. k (f x)) xs
map-map f k [] = refl
map-map f k (x ∷ xs) = ap (λ ys. k (f x) ∷ ys) (map-map f k xs)

-- at rest the canonical node of each class makes what a row of the class makes
module _ {D : Type 0} (P : DTerm → Type 0) (a : Analysis D) (alike : MakesAlike P D a) (closed : (d e : DTerm) → AreAlike d e → P e → P d) where
  pub canonical-absorbed : (g : State) (s : DataPart D) → RestsWithData a g s → ((r : Row) → Contains g.rows r → P r.shape) → (i : ℕ) → i < length g.nodes →
      Absorbs a (s.data_of (find_class g.found i)) (a.make (canonical_node g.nodes i) (map (λ c. s.data_of (find_class g.found c)) (child_classes (canonical_node g.nodes i).args)))
  canonical-absorbed g s x known i h =
      let c : DTerm = canonical_node g.nodes i in
      let r : LookedUp g (identity_id g.nodes i) = rest-nodes g x.rest (identity_id g.nodes i) (identity-full g.nodes i h) in
      let N : DTerm = normal_node g i in
      let classes : child_classes N.args ≡ map (find_class g.found) (child_classes c.args) = normal-classes g.found c.args in
      let cs : List ℕ = child_classes r.row.shape.args in
      let row : cs ≡ map (find_class g.found) (child_classes c.args) = row-classes r.row N r.shape_of_row ∙ classes in
      let absorbs : Absorbs a (s.data_of (find_class g.found r.row.source)) (a.make r.row.shape (map s.data_of cs)) =
      x.has.absorbs_made r.row r.filed (λ k. Contains-nil r.row.source (subst (λ w. Contains w r.row.source) x.nothing_waits k)) in
      let same : a.make r.row.shape (map s.data_of cs) ≡ a.make c (map s.data_of cs) =
      sym (alike c r.row.shape (map s.data_of cs) (closed c r.row.shape similar (known r.row r.filed)) (known r.row r.filed) similar
      (let l : length (map s.data_of cs) ≡ length cs = length-map cs s.data_of in
      let m : length cs ≡ length (map (find_class g.found) (child_classes c.args)) = ap length row in
      let j : length (map (find_class g.found) (child_classes c.args)) ≡ length (child_classes c.args) = length-map (child_classes c.args) (find_class g.found) in
      let n : length (child_classes c.args) ≡ child_count c.args = child_classes-count c.args in
      omega arith)) in
      let all : a.make r.row.shape (map s.data_of cs) ≡ a.make c (map (λ k. s.data_of (find_class g.found k)) (child_classes c.args)) =
      same ∙ ap (a.make c) (ap (map s.data_of) row ∙ map-map (find_class g.found) s.data_of (child_classes c.args)) in
      subst (λ k. Absorbs a (s.data_of k) (a.make c (map (λ k. s.data_of (find_class g.found k)) (child_classes c.args)))) r.class_of_row (subst (Absorbs a (s.data_of (find_class g.found r.row.source))) all absorbs)
    where
      similar : AreAlike (canonical_node g.nodes i) (rest-nodes g x.rest (identity_id g.nodes i) (identity-full g.nodes i h)).row.shape
      similar =
          let r : LookedUp g (identity_id g.nodes i) = rest-nodes g x.rest (identity_id g.nodes i) (identity-full g.nodes i h) in
          sym (normal-alike g.found (canonical_node g.nodes i)) ∙ sym (row-alike r.row (normal_node g i) r.shape_of_row)
