-- The filed nodes of a class, as contracts see them and as they are filed.
use Rattle.std.proofs.Common.{◌≡◌, ◌≤◌, ◌<◌, ◌+◌, ◌∙◌, ℕ, List, [], ◌∷◌, Some, length, map, ap, refl, sym, subst, inl, inr, arith}
use Rattle.std.specs.Prelude.{All, Bool, Contains, IsTrue, is_some, nat_eq, ◌&&◌}
use Rattle.std.specs.List.{filter, range_with_len, sum_by}
use Rattle.std.specs.List.Sorted.{IsPermutation}
use Rattle.std.proofs.lemmas.List.{length-map}
use Rattle.std.proofs.lemmas.List.Elements.{All-contains}
use Rattle.std.proofs.lemmas.List.Sorted.{IsPermutation-refl, length_permutation, sum_by-IsPermutation}
use Rattle.std.proofs.lemmas.List.Sums.{sum_by-cons}
use Rattle.slotted_lists.proofs.Members.{Contains-In}
use Rattle.slotted_lists.proofs.Each.{Each, Each-from_All}
use Rattle.slotted_lists.proofs.Lists.{length-zero as empty, filter-agrees}
use Rattle.slotted_theory.specs.Nameless.{DTerm}
use Rattle.slotted_theory.specs.Shape as theory
use Rattle.slotted_slots.specs.Table.{Table, is_known, slot_limit, AllKnown}
use Rattle.slotted_slots.proofs.TableLaws.{is_known-numeric_slot}
use Rattle.slotted_nodes.specs.Form.{Form, IsSmall}
use Rattle.slotted_languages.specs.NodeTerm.{nameless_node}
use Rattle.slotted_languages.specs.Shape.{Fits}
use Rattle.slotted_model.specs.Applied.{Applied, values}
use Rattle.slotted_model.specs.Find.{find_class}
use Rattle.slotted_model.specs.State.{Row}
use Rattle.slotted_classes.specs.Finding.{IsFindable}
use Rattle.slotted_classes.specs.Kept.{Kept, entries_of}
use Rattle.slotted_classes.specs.ChildIds.{child_ids}
use Rattle.slotted_classes.proofs.KeptLists.{length-nodes_of}
use Rattle.slotted_classes.proofs.NameMaps.{In-at}
use Rattle.slotted_hashcons.specs.Filed.{filed_of}
use Rattle.slotted_hashcons.specs.FiledRows.{IsFiled, Rows, row_of_entry, rows_in}
use Rattle.slotted_hashcons.proofs.FiledRows.{row-filed}
use Rattle.slotted_lookup.specs.Enodes.{HasNamesOrNumbers, IsLargeKeyOf, IsLookedUpAs}
use Rattle.slotted_lookup.specs.Reports.{class_sources, is_source}
use Rattle.slotted_lookup.proofs.AppliedNodes.{filed-in_nodes, filed-key}
use Rattle.slotted_reports.specs.Nodes.{HasLargeKey, HasLargeKeyOf, IsAppliedNode, IsClassNode, RunsOutForClasses, RunsOutForKeys, TakesForClasses, TakesForKeys, key_at, key_in, key_of, places_at, slots_of_class}
use Rattle.slotted_reports.proofs.FiledShapes.{passes, shape_at, shapes_in, shapes-permuted, sources-permuted}
use Rattle.slotted_reports.proofs.FreshNodes.{runs_out-more}
use Rattle.slotted_reports.proofs.Sources.{dead-none, each-filed, each-finds}
use Rattle.slotted_operations.specs.Canonical.{place_count}
use Rattle.slotted_operations.specs.Causes.{class_found}
use Rattle.slotted_operations.specs.Good.{Good, RestsWith, image_of}
use Rattle.slotted_operations.specs.Graph.{Graph}
use Rattle.slotted_operations.specs.Image.{Image, found_id}
use Rattle.slotted_operations.specs.ValidIds.{IsValidNode}
use Rattle.slotted_operations.proofs.Ids.CanonicalTerms.{places-counted}
use Rattle.slotted_operations.proofs.Graphs.Images.{class_found-is, found_id-is}
use Rattle.slotted_operations.proofs.LookUps.States.{looked_up-is}
use Rattle.slotted_operations.proofs.Ids.ValidIds.{findable-children, findable-within, node-children_valid}
use Rattle.slotted_operations.proofs.Ids.NodesOfIds.{args_count-moved}
use Rattle.slotted_graph.specs.FiledNodes.{CanRunOutForDump, CanRunOutForEnodes, HasEachNode, HasLargeRow, HasLargeRowOf, IsEnode, shapes_found, slots_for_dump, slots_for_enodes}

sum-mapped : (f : DTerm → ℕ) (g : ℕ → DTerm) (h : ℕ → ℕ) (os : List ℕ) → Each (λ o. f (g o) ≡ h o) os → sum_by f (map g os) ≡ sum_by h os
sum-mapped f g h [] e = refl
sum-mapped f g h (o ∷ os) e = omega (arith, e.0, sum-mapped f g h os e.1, sum_by-cons f (g o) (map g os), sum_by-cons h o os)

pub places-of_shape : (f : Form) → Fits f → place_count (theory.shape (nameless_node f)) ≡ length f.names
places-of_shape f fits = args_count-moved (theory.number_in (theory.free_names (nameless_node f).args)) (nameless_node f).args ∙ places-counted f fits

-- a list in its own order
pub permuted-same : {X : Type 0} (xs ys : List X) → xs ≡ ys → IsPermutation ys xs
permuted-same xs ys e = subst (IsPermutation ys) (sym e) (IsPermutation-refl ys)

-- a table that knows some names knows those of a node with these names and numbers
class-known : (t : Table) (vs : List ℕ) (f : Form) → AllKnown t vs → HasNamesOrNumbers vs f → AllKnown t f.names
class-known t vs f known names j d l = elim (names _ (Contains-In f.names _ (In-at f.names j d l))) [
  | inl h ↦ All-contains (λ x. IsTrue (is_known t x)) vs _ known h
  | inr n ↦ subst (λ x. IsTrue (is_known t x)) (sym n.1) (is_known-numeric_slot t n.0)
]

module _ (k : Kept) (r : Rows) (good : Good k) (rests : RestsWith k r) where
  -- one node
  module _ (h : Graph) (image : image_of k ≡ h.image) (filed : rows_in r.filed ≡ h.filed) (a : Applied) (v : IsFindable k a) where
    enode : (f : Form) → Fits f → IsLookedUpAs k r a f → IsSmall f → AllKnown h.table f.names → All (IsFindable k) (child_ids f) → IsEnode h a f
    enode f fits found small known children =
        let valid : IsValidNode h f = record { few = small; known = known; children = node-children_valid k good h image f known children } in
        let finds = sym (found_id-is k a (findable-within k a v)) ∙ ap (λ (i : Image). found_id i a) image in
        record {
          valid = valid;
          found = looked_up-is k r good rests h image filed (nameless_node f) (findable-children k good h image f fits valid.children) ∙ (found ∙ ap Some finds);
        }

    module _ {L : Type 0} (form : L → Form) (fits : (n : L) → Fits (form n)) (ns : List L) where
      pub enodes : (t : Table) → All (λ n. IsAppliedNode t h.table k r a (form n)) ns → All (λ n. IsEnode h a (form n)) ns
      enodes t each j d l =
          let is = each j d l in
          enode (form _) (fits _) is.found is.small is.known is.children

      pub class-enodes : AllKnown h.table (values a.1) → All (λ n. IsClassNode k r a (form n)) ns → All (λ n. IsEnode h a (form n)) ns
      class-enodes known each j d l =
          let is = each j d l in
          enode (form _) (fits _) is.found is.small (class-known h.table (values a.1) (form _) known is.names) is.children

  abbrev P : ℕ → ℕ → Bool
  P c i = nat_eq (class_found (image_of k) i) c

  tests : (c : ℕ) → class_sources k r c ≡ filter (passes (P c) r.filed) (range_with_len 0 (length r.filed))
  tests c = filter-agrees (is_source k r c) (passes (P c) r.filed) 0 (length r.filed)
      (λ i s l. ap (λ x. is_some (filed_of r.filed i) && nat_eq x c) (sym (class_found-is k i (omega (arith, l, rests.filed.count)))))

  module _ (g : Graph) (image : image_of k ≡ g.image) (filed : rows_in r.filed ≡ g.filed) (c : ℕ) where
    found-are : shapes_in (P c) (rows_in r.filed) ≡ shapes_found g c
    found-are = λ j. map (λ (x : Row). x.shape) (filter (λ (x : Row). nat_eq (class_found (image j) x.source) c) (filed j))

    -- one for each filed node of the class
    pub each-node : {L : Type 0} (form : L → Form) → ((n : L) → Fits (form n)) → (os : List ℕ) (ns : List L) →
        IsPermutation (class_sources k r c) os → IsPermutation (map (key_at r.filed) os) (map (key_in form) ns) → HasEachNode form g c ns
    each-node form fits os ns same keys =
        subst (λ xs. IsPermutation xs (map (λ n. theory.shape (nameless_node (form n))) ns)) found-are
        (shapes-permuted (P c) r.filed form fits os ns (subst (λ xs. IsPermutation xs os) (tests c) same) keys)

    -- and none for a class that does not find itself
    pub none-dead : {L : Type 0} (form : L → Form) → c < length k.classes → ¬ (class_found g.image c ≡ c) → (os : List ℕ) (ns : List L) →
        IsPermutation (class_sources k r c) os → IsPermutation (map (key_at r.filed) os) (map (key_in form) ns) → ns ≡ []
    none-dead form within dead os ns same keys =
        let is : class_found g.image c ≡ find_class (entries_of k) c = ap (λ (x : Image). class_found x c) (sym image) ∙ class_found-is k c within in
        let none : length (class_sources k r c) ≡ 0 = ap length (dead-none k r rests.filed (c, []) (λ e. dead (is ∙ e))) in
        let many : length ns ≡ length os = sym (length-map ns (key_in form)) ∙ (length_permutation _ _ keys ∙ length-map os (key_at r.filed)) in
        empty ns (omega (arith, none, many, length_permutation _ _ same))

    -- two slots for each of their places
    place-count : (o : ℕ) → IsFiled r.filed o → place_count (shape_at r.filed o) ≡ places_at r.filed o
    place-count o h =
        ap (λ x. place_count (theory.shape (nameless_node (key_of x)))) h.1
        ∙ (places-of_shape h.0.0 (filed-key k r rests.filed o h.0.0 h.0.1 h.1).fits ∙ sym (ap (λ x. length (key_of x).names) h.1))

    slots-are : slots_of_class k r c ≡ slots_for_enodes g c
    slots-are =
        let os = class_sources k r c in
        let all : All (λ o. place_count (shape_at r.filed o) ≡ places_at r.filed o) os = λ j d l. place-count _ (each-filed k r rests.filed (c, []) j d l) in
        let one : sum_by place_count (map (shape_at r.filed) os) ≡ sum_by (places_at r.filed) os =
        sum-mapped place_count (shape_at r.filed) (places_at r.filed) os (Each-from_All (λ o. place_count (shape_at r.filed o) ≡ places_at r.filed o) os all) in
        let same = sources-permuted (P c) r.filed os (subst (λ xs. IsPermutation xs os) (tests c) (IsPermutation-refl os)) in
        let two : sum_by place_count (map (shape_at r.filed) os) ≡ sum_by place_count (shapes_in (P c) (rows_in r.filed)) = sum_by-IsPermutation place_count _ _ same in
        omega (arith, one, two, ap (sum_by place_count) found-are)

    pub takes-found : (t u : Table) → TakesForKeys r (class_sources k r c) t u → u.fresh ≤ t.fresh + slots_for_enodes g c
    takes-found t u takes = omega (arith, takes, slots-are)

  -- why slots run out
  filed-large : (g : Graph) → rows_in r.filed ≡ g.filed → (o : ℕ) → IsLargeKeyOf r o → (x : Row) × Contains g.filed x × (x.source ≡ o) × (slot_limit ≤ place_count x.shape)
  filed-large g filed o large =
      let f = large.0 in
      let m = large.1.0 in
      let row : Row = row_of_entry (f, (o, m)) in
      let fits : Fits f = (filed-key k r rests.filed o f m large.1.1).fits in
      (row, subst (λ rs. Contains rs row) filed (row-filed r.filed o f m large.1.1), refl, omega (arith, large.2, places-of_shape f fits))

  pub large-row : (g : Graph) → rows_in r.filed ≡ g.filed → HasLargeKey r → HasLargeRow g
  large-row g filed x =
      let row = filed-large g filed x.0 x.1 in
      (row.0, row.1, row.3)

  pub large-of_class : (g : Graph) → image_of k ≡ g.image → rows_in r.filed ≡ g.filed → (c : ℕ) → HasLargeKeyOf r (class_sources k r c) → HasLargeRowOf g c
  large-of_class g image filed c x =
      let row = filed-large g filed x.0 x.2 in
      let finds : find_class (entries_of k) x.0 ≡ c = All-contains (λ o. find_class (entries_of k) o ≡ c) (class_sources k r c) x.0 (each-finds k r rests.filed (c, [])) x.1 in
      let within : x.0 < length k.classes = subst (λ n. x.0 < n) (length-nodes_of k) (filed-in_nodes k r rests.filed x.0 x.2.0 x.2.1.0 x.2.1.1) in
      let found : class_found g.image x.0 ≡ c = ap (λ (i : Image). class_found i x.0) (sym image) ∙ (class_found-is k x.0 within ∙ finds) in
      (row.0, row.1, ap (class_found g.image) row.2 ∙ found, row.3)

  pub runs-out_of : (g : Graph) (u : Table) → image_of k ≡ g.image → rows_in r.filed ≡ g.filed → (c : ℕ) → RunsOutForKeys r (class_sources k r c) g.table u → CanRunOutForEnodes g c u
  runs-out_of g u image filed c (inl out) = inl (runs_out-more (slots_of_class k r c) (slots_for_enodes g c) g.table u (omega (arith, slots-are g image filed c)) out)
  runs-out_of g u image filed c (inr x) = inr (large-of_class g image filed c x)

  -- of all classes together
  module _ (g : Graph) (image : image_of k ≡ g.image) (filed : rows_in r.filed ≡ g.filed) where
    dump-slots : sum_by (slots_of_class k r) (range_with_len 0 (length k.classes)) ≡ slots_for_dump g
    dump-slots =
        let classes : length k.classes ≡ length g.image.canonical = sym (length-nodes_of k) ∙ ap (λ (i : Image). length i.canonical) image in
        λ j. sum_by (λ c. slots-are g image filed c j) (range_with_len 0 (classes j))

    pub dump-takes : (t u : Table) → TakesForClasses k r (range_with_len 0 (length k.classes)) t u → u.fresh ≤ t.fresh + slots_for_dump g
    dump-takes t u takes = omega (arith, takes, dump-slots)

    pub dump-runs_out : (u : Table) → RunsOutForClasses k r (range_with_len 0 (length k.classes)) g.table u → CanRunOutForDump g u
    dump-runs_out u (inl out) = inl (runs_out-more _ (slots_for_dump g) g.table u (omega (arith, dump-slots)) out)
    dump-runs_out u (inr x) = inr (large-row g filed x)
