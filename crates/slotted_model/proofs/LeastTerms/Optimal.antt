-- At rest a finished table has each live class, and no tree costs less than the class that it is looked up as.
use Rattle.std.proofs.Common.{◌≡◌, ℕ, zero, suc, ◌<◌, List, [], ◌∷◌, ◌++◌, Option, Some, None, length, sym, ◌∙◌, ap, refl, subst, arith, inl, inr}
use Rattle.std.specs.Prelude.{Contains, option_map, option_and_then}
use Rattle.std.proofs.lemmas.List.Elements.{Contains-append_cases}
use Rattle.slotted_lists.proofs.Contained.{contains_cases, Contains-nil}
use Rattle.slotted_lists.proofs.Options.{Some-same}
use Rattle.slotted_theory.specs.Nameless.{DArgs, DTerm, stop, place, sub, scope}
use Rattle.slotted_theory.specs.FiniteMaps.{filled}
use Rattle.slotted_theory.specs.Shape.{free_names, number_in, shape}
use Rattle.slotted_theory.proofs.Shapes.{number_in-injective}
use Rattle.slotted_theory.proofs.Filled.{filled-injective}
use Rattle.slotted_theory.proofs.Values.{node, child_before, expand_args}
use Rattle.slotted_model.specs.Applied.{Applied, as_term, applied_of, EachChild}
use Rattle.slotted_model.specs.Classes.{stands, terms, canonical_node, term_of, IsFull}
use Rattle.slotted_model.specs.Find.{IsLive, find_class, find}
use Rattle.slotted_model.specs.Growth.{identity_id}
use Rattle.slotted_model.specs.LookUp.{look_up_args}
use Rattle.slotted_model.specs.Normal.{normal_args, normal}
use Rattle.slotted_model.specs.ProofList.{node_of}
use Rattle.slotted_model.specs.State.{Row, State, normal_node, row_of, source_with_names, look_up_node, look_up_tree, child_classes}
use Rattle.slotted_model.specs.Rest.{AtRest, LookedUp}
use Rattle.slotted_model.specs.Cost.{CostFunction, AtMost, EachAtMost, child_count, null_children, without_children, AreAlike, child_costs, tree_cost}
use Rattle.slotted_model.specs.Extraction.{IsLawfulFor, TableEntry, cost_in, costs_in, row_cost, row_class, IsLeastFirst, IsFinished, Fits}
use Rattle.slotted_model.proofs.Data.Options.{option_map-some, both-some, and_then-some}
use Rattle.slotted_model.proofs.Represented.Children.{EachChild-map, expand-child}
use Rattle.slotted_model.proofs.Finds.Congruence.{child-applied}
use Rattle.slotted_model.proofs.Finds.Finding.{leads, found-in_range, found-live, find_class-live}
use Rattle.slotted_model.proofs.Represented.Full.{full-children, term_of-layer}
use Rattle.slotted_model.proofs.Represented.Growing.{identity-full}
use Rattle.slotted_model.proofs.Complete.Marks.{child_classes-moved}
use Rattle.slotted_model.proofs.Represented.RenamedIds.{normal-moves}
use Rattle.slotted_model.proofs.Rebuilding.Rows.{row_of-some, rest-nodes}
use Rattle.slotted_model.proofs.LeastTerms.Costs.{alike-moved, null_children-normal, null_children-looked_up, child_costs-count, at_most-length, at_most-append}
use Rattle.slotted_model.proofs.LeastTerms.Tables.{costs-by, costs-there, costs-append, least-in_order, least-closed}

-- a child's class of a normal form is what a child finds
child-found : (g : State) (P : Applied → Type 0) (d : DArgs) → EachChild P d → (c : ℕ) → Contains (child_classes (normal_args g.found d)) c → (a : Applied) × P a × (find_class g.found a.0 ≡ c)
child-found g P stop h c i = absurd (Contains-nil c i)
child-found g P (place x rest) h c i = child-found g P rest h c i
child-found g P (sub op payloads args rest) h c i = elim (contains_cases (find_class g.found (applied_of payloads args).0) (child_classes (normal_args g.found rest)) c i) [
  | inl e ↦ (h.0.0, h.0.2, ap (λ (a : Applied). find_class g.found a.0) (sym (child-applied P op payloads args h.0)) ∙ sym e)
  | inr j ↦ child-found g P rest h.1 c j
]
child-found g P (scope inner rest) h c i = elim (Contains-append_cases (child_classes (normal_args g.found inner)) (child_classes (normal_args g.found rest)) c i) [
  | inl j ↦ child-found g P inner h.0 c j
  | inr j ↦ child-found g P rest h.1 c j
]

null_children-expanded : (s : DTerm → DTerm) (d : DArgs) → null_children (expand_args s d) ≡ null_children d
null_children-expanded s stop = refl
null_children-expanded s (place x rest) = ap (place x) (null_children-expanded s rest)
null_children-expanded s (sub op payloads args rest) = ap (sub 0 [] stop) (null_children-expanded s rest)
null_children-expanded s (scope inner rest) = λ i. scope (null_children-expanded s inner i) (null_children-expanded s rest i)

-- a row that has the shape of a node has its children's classes, and is alike to it
pub row-classes : (r : Row) (n : DTerm) → r.shape ≡ shape n → child_classes r.shape.args ≡ child_classes n.args
row-classes r n e = ap (λ (s : DTerm). child_classes s.args) e ∙ child_classes-moved (number_in (free_names n.args)) n.args

pub row-alike : (r : Row) (n : DTerm) → r.shape ≡ shape n → AreAlike r.shape n
row-alike r n e = ap (λ s. shape (node s.op s.payloads (null_children s.args))) e ∙ alike-moved (number_in (free_names n.args)) (number_in-injective (free_names n.args)) n

-- the costs of the found children of a tree's node, each at most the child's
record CostsOfFound (C : Type 0) (g : State) (k : CostFunction C) (table : List (TableEntry C)) (d e : DArgs) : Type 0 where
  costs : List C
  there : costs_in table (child_classes e) ≡ Some costs
  at_most : EachAtMost k costs (child_costs k d)
  found : child_classes (normal_args g.found e) ≡ child_classes e

-- the cost of the class of a tree, at most the tree's
pub record CostOfFound (C : Type 0) (g : State) (k : CostFunction C) (table : List (TableEntry C)) (t : DTerm) (c : ℕ) : Type 0 where
  pub cost : C
  pub there : cost_in table c ≡ Some cost
  pub at_most : AtMost k cost (tree_cost k t)
  pub found : find_class g.found c ≡ c

module _ {C : Type 0} (g : State) (k : CostFunction C) (table : List (TableEntry C)) (rest : AtRest g) where
  class-covered : IsFinished g k table → (n i : ℕ) → i < n → i < length g.nodes → (x : C) × (cost_in table (find_class g.found i) ≡ Some x)
  class-covered done zero i b h = absurd (omega arith)
  class-covered done (suc n) i b h =
      let l : LookedUp g (identity_id g.nodes i) = rest-nodes g rest (identity_id g.nodes i) (identity-full g.nodes i h) in
      let children : EachChild (λ a. (a.0 < i) × IsFull g.nodes a) (canonical_node g.nodes i).args = rest.sane.sound.canonical.children i h in
      let classes : child_classes l.row.shape.args ≡ child_classes (normal_node g i).args = row-classes l.row (normal_node g i) l.shape_of_row in
      let costs : (xs : List C) × (costs_in table (child_classes (normal_node g i).args) ≡ Some xs) = costs-there table (child_classes (normal_node g i).args)
      (λ c j.
      let a : (a : Applied) × ((a.0 < i) × IsFull g.nodes a) × (find_class g.found a.0 ≡ c) = child-found g (λ a. (a.0 < i) × IsFull g.nodes a) (canonical_node g.nodes i).args children c j in
      let x : (x : C) × (cost_in table (find_class g.found a.0.0) ≡ Some x) = class-covered done n a.0.0 (omega (arith, a.1.0)) a.1.1.in_range in
      (x.0, ap (cost_in table) (sym a.2) ∙ x.1)) in
      let cost : row_cost k table l.row ≡ Some (k.node_cost l.row.shape costs.0) = ap (option_map (k.node_cost l.row.shape)) (ap (costs_in table) classes ∙ costs.1) in
      go l (k.node_cost l.row.shape costs.0) cost (cost_in table (row_class g l.row)) refl
    where
      go : (l : LookedUp g (identity_id g.nodes i)) (x : C) → row_cost k table l.row ≡ Some x → (o : Option C) → cost_in table (row_class g l.row) ≡ o → (x : C) × (cost_in table (find_class g.found i) ≡ Some x)
      go l x cost None e = absurd (done l.row x (record { filed = l.filed; new = e; cost = cost }))
      go l x cost (Some y) e = (y, ap (cost_in table) (sym l.class_of_row) ∙ e)

  -- a finished table has each live class
  pub finished-covers : IsFinished g k table → (c : ℕ) → c < length g.nodes → IsLive g.found c → (x : C) × (cost_in table c ≡ Some x)
  finished-covers done c h live =
      let x : (x : C) × (cost_in table (find_class g.found c) ≡ Some x) = class-covered done (suc c) c (omega arith) h in
      (x.0, ap (cost_in table) (sym (find_class-live g.nodes g.found (leads g.nodes g.found rest.sane.sound.linked) c h live)) ∙ x.1)

  module _ (law : IsLawfulFor C g k) where
    -- what is made least first, to the end, is what extraction needs
    pub finished-fits : IsLeastFirst g k table → IsFinished g k table → Fits C g k table
    finished-fits least done = record {
      in_order = least-in_order g k table least;
      covered = finished-covers done;
      closed = least-closed g k law table least;
    }

    module _ (fits : Fits C g k table) where
      -- the class of a row costs at most an alike node whose children cost no less than the row's
      row-at_most : (r : Row) → Contains g.rows r → (t : DTerm) (xs : List C) → AreAlike t r.shape → costs_in table (child_classes r.shape.args) ≡ Some xs → EachAtMost k xs (child_costs k t.args) → CostOfFound C g k table t (row_class g r)
      row-at_most r f t xs alike there most =
          let h : r.source < length g.nodes = (rest.sane.filed.each r f).in_range in
          let lead = leads g.nodes g.found rest.sane.sound.linked in
          let in_range : row_class g r < length g.nodes = found-in_range g.nodes g.found lead r.source h in
          let live : IsLive g.found (row_class g r) = found-live g.nodes g.found lead r.source h in
          let y : (y : C) × (cost_in table (row_class g r) ≡ Some y) = fits.covered (row_class g r) in_range live in
          let least : AtMost k y.0 (k.node_cost r.shape xs) = fits.closed r f (k.node_cost r.shape xs) y.0 (ap (option_map (k.node_cost r.shape)) there) y.1 in
          let count : length xs ≡ child_count t.args = at_most-length k xs (child_costs k t.args) most ∙ child_costs-count k t.args in
          let same : k.node_cost t xs ≡ k.node_cost r.shape xs = law.alike t r.shape xs (r, f, alike) (r, f, refl) alike count in
          record {
            cost = y.0;
            there = y.1;
            at_most = law.transitive y.0 (k.node_cost t xs) (tree_cost k t) (subst (AtMost k y.0) (sym same) least) (law.rises t xs (child_costs k t.args) (r, f, alike) count most);
            found = find_class-live g.nodes g.found lead (row_class g r) in_range live;
          }

      node-at_most : (t : DTerm) (b : DArgs) (a : Applied) → look_up_args (look_up_node g) t.args ≡ Some b → CostsOfFound C g k table t.args b → look_up_node g (node t.op t.payloads b) ≡ Some a → CostOfFound C g k table t a.0
      node-at_most t b a p l q =
          let n : DTerm = normal g.found (node t.op t.payloads b) in
          let r : (o : Row) × (row_of (shape n) g.rows ≡ Some o) × (find g.found (source_with_names n o) ≡ a) = option_map-some (λ (o : Row). find g.found (source_with_names n o)) (row_of (shape n) g.rows) a q in
          let f : Contains g.rows r.0 × (r.0.shape ≡ shape n) = row_of-some (shape n) g.rows r.0 r.1 in
          let there : costs_in table (child_classes r.0.shape.args) ≡ Some l.costs = ap (costs_in table) (row-classes r.0 n f.1 ∙ l.found) ∙ l.there in
          let alike : AreAlike r.0.shape t =
          row-alike r.0 n f.1 ∙ ap (λ args. shape (node t.op t.payloads args)) (null_children-normal g.found b ∙ null_children-looked_up (look_up_node g) t.args b p) in
          subst (CostOfFound C g k table t) (ap (λ (x : Applied). x.0) r.2) (row-at_most r.0 f.0 t l.costs (sym alike) there l.at_most)

      args-at_most : (d e : DArgs) → look_up_args (look_up_node g) d ≡ Some e → CostsOfFound C g k table d e
      args-at_most stop e p = subst (CostsOfFound C g k table stop) (Some-same stop e p) (record { costs = []; there = refl; at_most = tt; found = refl })
      args-at_most (place x rest) e p =
          let r : (f : DArgs) × (look_up_args (look_up_node g) rest ≡ Some f) × (place x f ≡ e) = option_map-some (place x) (look_up_args (look_up_node g) rest) e p in
          let l : CostsOfFound C g k table rest r.0 = args-at_most rest r.0 r.1 in
          subst (CostsOfFound C g k table (place x rest)) r.2 (record { costs = l.costs; there = l.there; at_most = l.at_most; found = l.found })
      args-at_most (sub op payloads args rest) e p =
          let answer : Option DArgs → Option Applied = option_and_then (λ found. look_up_node g (node op payloads found)) in
          let r : (a : Applied) × (f : DArgs) × (answer (look_up_args (look_up_node g) args) ≡ Some a) × (look_up_args (look_up_node g) rest ≡ Some f) × (child_before (as_term a) f ≡ e) =
          both-some (λ a found. child_before (as_term a) found) (answer (look_up_args (look_up_node g) args)) (look_up_args (look_up_node g) rest) e p in
          let q : (b : DArgs) × (look_up_args (look_up_node g) args ≡ Some b) × (look_up_node g (node op payloads b) ≡ Some r.0) = and_then-some (λ found. look_up_node g (node op payloads found)) (look_up_args (look_up_node g) args) r.0 r.2 in
          let one : CostOfFound C g k table (node op payloads args) r.0.0 = node-at_most (node op payloads args) q.0 r.0 q.1 (args-at_most args q.0 q.1) q.2 in
          let l : CostsOfFound C g k table rest r.1 = args-at_most rest r.1 r.3 in
          subst (CostsOfFound C g k table (sub op payloads args rest)) r.4 (record {
            costs = one.cost ∷ l.costs;
            there = costs-by table r.0.0 (child_classes r.1) one.cost l.costs one.there l.there;
            at_most = (one.at_most, l.at_most);
            found = λ i. one.found i ∷ l.found i;
          })
      args-at_most (scope inner rest) e p =
          let r : (a : DArgs) × (f : DArgs) × (look_up_args (look_up_node g) inner ≡ Some a) × (look_up_args (look_up_node g) rest ≡ Some f) × (scope a f ≡ e) =
          both-some scope (look_up_args (look_up_node g) inner) (look_up_args (look_up_node g) rest) e p in
          let o : CostsOfFound C g k table inner r.0 = args-at_most inner r.0 r.2 in
          let l : CostsOfFound C g k table rest r.1 = args-at_most rest r.1 r.3 in
          subst (CostsOfFound C g k table (scope inner rest)) r.4 (record {
            costs = o.costs ++ l.costs;
            there = costs-append table (child_classes r.0) (child_classes r.1) o.costs l.costs o.there l.there;
            at_most = at_most-append k o.costs (child_costs k inner) l.costs (child_costs k rest) o.at_most l.at_most;
            found = λ i. o.found i ++ l.found i;
          })

      -- the class that a tree is looked up as costs at most the tree
      pub tree-at_most : (t : DTerm) (a : Applied) → look_up_tree g t ≡ Some a → CostOfFound C g k table t a.0
      tree-at_most t a p =
          let q : (b : DArgs) × (look_up_args (look_up_node g) t.args ≡ Some b) × (look_up_node g (node t.op t.payloads b) ≡ Some a) = and_then-some (λ found. look_up_node g (node t.op t.payloads found)) (look_up_args (look_up_node g) t.args) a p in
          node-at_most t q.0 a q.1 (args-at_most t.args q.0 q.1) q.2

      -- the costs of what a node's children find, each at most that of the child's term
      terms-at_most : (d : DArgs) → EachChild (λ a. CostOfFound C g k table (term_of g.nodes a) (find_class g.found a.0)) d →
          (xs : List C) × (costs_in table (child_classes (normal_args g.found d)) ≡ Some xs) × EachAtMost k xs (child_costs k (expand_args (stands (terms g.nodes)) d))
      terms-at_most stop h = ([], refl, tt)
      terms-at_most (place x rest) h = terms-at_most rest h
      terms-at_most (sub op payloads args rest) h =
          let P : Applied → Type 0 = λ a. CostOfFound C g k table (term_of g.nodes a) (find_class g.found a.0) in
          let one : CostOfFound C g k table (term_of g.nodes h.0.0) (find_class g.found h.0.0.0) = h.0.2 in
          let l = terms-at_most rest h.1 in
          let there : cost_in table (find_class g.found (applied_of payloads args).0) ≡ Some one.cost =
          ap (λ (a : Applied). cost_in table (find_class g.found a.0)) (child-applied P op payloads args h.0) ∙ one.there in (
            one.cost ∷ l.0,
            costs-by table (find_class g.found (applied_of payloads args).0) (child_classes (normal_args g.found rest)) one.cost l.0 there l.1,
            (subst (λ t. AtMost k one.cost (tree_cost k t)) (sym (expand-child (terms g.nodes) P (node op payloads args) h.0)) one.at_most, l.2),
          )
      terms-at_most (scope inner rest) h =
          let o = terms-at_most inner h.0 in
          let l = terms-at_most rest h.1 in (
            o.0 ++ l.0,
            costs-append table (child_classes (normal_args g.found inner)) (child_classes (normal_args g.found rest)) o.0 l.0 o.1 l.1,
            at_most-append k o.0 (child_costs k (expand_args (stands (terms g.nodes)) inner)) l.0 (child_costs k (expand_args (stands (terms g.nodes)) rest)) o.2 l.2,
          )

      canonical-at_most : (n : ℕ) (a : Applied) → a.0 < n → IsFull g.nodes a → CostOfFound C g k table (term_of g.nodes a) (find_class g.found a.0)
      canonical-at_most zero a h full = absurd (omega arith)
      canonical-at_most (suc n) a h full =
          let d : DTerm = node_of g.nodes a in
          let t : DTerm = node d.op d.payloads (expand_args (stands (terms g.nodes)) d.args) in
          let l : LookedUp g a = rest-nodes g rest a full in
          let costs = terms-at_most d.args
          (EachChild-map (λ b. (b.0 < a.0) × IsFull g.nodes b) (λ b. CostOfFound C g k table (term_of g.nodes b) (find_class g.found b.0)) (λ b j. canonical-at_most n b (omega (arith, j.0, h)) j.1) d.args (full-children g.nodes rest.sane.sound.canonical a full)) in
          let moves : normal g.found d ≡ _ = normal-moves g.found (filled a.1) (canonical_node g.nodes a.0) in
          let classes : child_classes (normal_args g.found d.args) ≡ child_classes (normal_node g a.0).args =
          ap (λ (s : DTerm). child_classes s.args) moves ∙ child_classes-moved (filled a.1) (normal_node g a.0).args in
          let there : costs_in table (child_classes l.row.shape.args) ≡ Some costs.0 = ap (costs_in table) (row-classes l.row (normal_node g a.0) l.shape_of_row ∙ sym classes) ∙ costs.1 in
          let alike : AreAlike l.row.shape t =
          row-alike l.row (normal_node g a.0) l.shape_of_row
          ∙ (sym (alike-moved (filled a.1) (filled-injective a.1 full.injective) (normal_node g a.0))
          ∙ (ap (λ s. shape (without_children s)) (sym moves)
          ∙ ap (λ args. shape (node d.op d.payloads args)) (null_children-normal g.found d.args ∙ sym (null_children-expanded (stands (terms g.nodes)) d.args)))) in
          subst (λ u. CostOfFound C g k table u (find_class g.found a.0)) (sym (term_of-layer g.nodes rest.sane.sound.canonical a full))
          (subst (CostOfFound C g k table t) l.class_of_row (row-at_most l.row l.filed t costs.0 (sym alike) there costs.2))

      -- and so does the class that a full id finds, for the id's term, also where symmetries are open
      pub term-at_most : (a : Applied) → IsFull g.nodes a → CostOfFound C g k table (term_of g.nodes a) (find_class g.found a.0)
      term-at_most a full = canonical-at_most (suc a.0) a (omega arith) full
