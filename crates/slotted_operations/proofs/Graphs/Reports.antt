-- What a graph reports of its classes, as contracts see it and as what is kept has it.
use Rattle.std.proofs.Common.{◌≡◌, ◌<◌, ◌+◌, ◌∙◌, ℕ, List, [], ◌∷◌, ◌++◌, length, ap, refl, sym, subst, inl, inr, arith}
use Rattle.std.specs.Prelude.{◌↔◌, Contains, IsTrue, nat_eq}
use Rattle.std.specs.List.{filter, range_with_len}
use Rattle.std.proofs.lemmas.Bool.{cases_Bool, eq-eqb, eqb-true, false≢true, lt-ltb, ne_eqb}
use Rattle.slotted_lists.proofs.Members.{Contains-In}
use Rattle.slotted_lists.proofs.Lists.{filter-agrees}
use Rattle.slotted_slots.specs.Table.{Table, empty_table, is_known, AllKnown}
use Rattle.slotted_slots.proofs.TableLaws.{is_known-fresh_slot}
use Rattle.slotted_slots.specs.declared.types.Id.{Id}
use Rattle.slotted_theory.specs.Nameless.{DTerm}
use Rattle.slotted_model.specs.Applied.{Applied, renamed_id, values}
use Rattle.slotted_model.specs.Ascending.{ascending}
use Rattle.slotted_model.specs.Correspondence.{identity}
use Rattle.slotted_model.specs.Find.{Entry, IsLive, entry_at, find, find_class, find_map, used_slots}
use Rattle.slotted_model.proofs.Correspondences.Pairs.{Contains-of_value, In-values_composite}
use Rattle.slotted_model.proofs.Finds.Finding.{Leads, find_class-live, find_map-partial, found-live, leads}
use Rattle.slotted_model.proofs.Finds.NormalIds.{of_used, values-identity}
use Rattle.slotted_classes.specs.Kept.{Kept, entries_of, nodes_of}
use Rattle.slotted_classes.proofs.KeptLists.{length-nodes_of}
use Rattle.slotted_classes.proofs.NameMaps.{In-at, at_In}
use Rattle.slotted_lookup.specs.LookUp as adding
use Rattle.slotted_lookup.specs.Reports.{live_ids, lives}
use Rattle.slotted_operations.specs.Causes.{class_found}
use Rattle.slotted_operations.specs.ValidIds.{IsValidId}
use Rattle.slotted_operations.specs.Good.{Good, HasFreshSlots, image_of}
use Rattle.slotted_operations.specs.Graph.{Graph, IsFreshBetween}
use Rattle.slotted_operations.specs.Image.{Image, found_id}
use Rattle.slotted_operations.specs.Reports.{IsFoundFor, class_numbers, finds_itself, live_classes, names_slots, slots_used}
use Rattle.slotted_operations.proofs.Ids.ValidIds.{findable-within, of-valid, to-valid}
use Rattle.slotted_operations.proofs.Graphs.Finds.{good-finds}
use Rattle.slotted_operations.proofs.Graphs.Images.{class_found-is, found-at, found_id-is}

-- there are as many canonical nodes as classes
pub class_count-is : (k : Kept) (g : Image) → image_of k ≡ g → length k.classes ≡ length g.canonical
class_count-is k g image = sym (length-nodes_of k) ∙ ap (λ (x : Image). length x.canonical) image

pub within : (k : Kept) (g : Image) → image_of k ≡ g → (i : ℕ) → i < length g.canonical → i < length k.classes
within k g image i l = omega (arith, l, class_count-is k g image)

found-known : (t : Table) (found : List Entry) (a : Applied) → AllKnown t (values a.1) → AllKnown t (values (find found a).1)
found-known t found a known j d h =
    let names : List ℕ = values (find found a).1 in
    at_In (λ s. IsTrue (is_known t s)) (values a.1) known _ (In-values_composite (find_map found a.0) a.1 _ (In-at names j d h))

-- one id more
pub numbers-then : (ids : List Id) (id : Id) → class_numbers (ids ++ id ∷ []) ≡ class_numbers ids ++ id.0 ∷ []
numbers-then [] id = refl
numbers-then (x ∷ ids) id = ap (λ ns. x.0 ∷ ns) (numbers-then ids id)

-- two numbers that are i together are compared with i alike
pub compared-alike : (a b i : ℕ) → ((a ≡ i) ↔ (b ≡ i)) → nat_eq a i ≡ nat_eq b i
compared-alike a b i same = elim (cases_Bool (nat_eq a i)) [
  | inl y ↦ y ∙ sym (eq-eqb b i (same.0 (eqb-true a i y)))
  | inr n ↦ n ∙ sym (ne_eqb b i (λ e. absurd (false≢true (sym n ∙ eq-eqb a i (same.1 e)))))
]

module _ (k : Kept) (good : Good k) where
  abbrev nodes : List DTerm
  nodes = nodes_of k

  abbrev found : List Entry
  found = entries_of k

  abbrev L : Leads nodes found
  L = leads nodes found (good-finds k good).linked

  in_nodes : (i : ℕ) → i < length k.classes → i < length nodes
  in_nodes i l = omega (arith, l, length-nodes_of k)

  -- a class that leads to itself finds itself
  pub live-is : (i : ℕ) → i < length k.classes → IsLive found i ↔ (class_found (image_of k) i ≡ i)
  live-is i l =
      let is : class_found (image_of k) i ≡ find_class found i = class_found-is k i l in
      (λ h. is ∙ find_class-live nodes found L i (in_nodes i l) h, λ e. subst (IsLive found) (sym is ∙ e) (found-live nodes found L i (in_nodes i l)))

  pub live_ids-are : live_ids k ≡ live_classes (image_of k)
  live_ids-are =
      filter-agrees (lives found) (finds_itself (image_of k)) 0 (length k.classes)
      (λ i s l. compared-alike (entry_at found i).class (class_found (image_of k) i) i (live-is i (omega (arith, l))))
      ∙ ap (λ n. filter (finds_itself (image_of k)) (range_with_len 0 n)) (sym (length-nodes_of k))

  -- the slots that finds use are those that the class has left
  pub used-are : (i : ℕ) → i < length k.classes → used_slots found i ≡ slots_used (image_of k) i
  used-are i l = ap (λ (b : Applied). ascending (values b.1)) (sym (found-at k i l))

  -- the table made them
  pub used-fresh : (t : Table) → HasFreshSlots t k → (i s : ℕ) → i < length k.classes → Contains (used_slots found i) s → IsFreshBetween empty_table t s
  used-fresh t over i s l h =
      let c = Contains-of_value (find_map found i) s (of_used found i s h) in
      over i s l ((find_map-partial nodes found L i (in_nodes i l)).within c.0 s c.1)

  pub used-known : (t : Table) → HasFreshSlots t k → (i : ℕ) → i < length k.classes → AllKnown t (used_slots found i)
  used-known t over i l j d h =
      let S : List ℕ = used_slots found i in
      let b = used-fresh t over i _ l (Contains-In S _ (In-at S j d h)) in
      subst (λ y. IsTrue (is_known t y)) (sym b.is_slot) (is_known-fresh_slot t b.index ∙ lt-ltb b.index t.fresh b.made)

  module _ (g : Graph) (image : image_of k ≡ g.image) where
    -- in a graph with this image
    abbrev over : Image → Graph
    over i = record g { image = i }

    pub slots-are : (i : ℕ) → i < length g.image.canonical → used_slots found i ≡ slots_used g.image i
    slots-are i l = used-are i (within k g.image image i l) ∙ ap (λ (x : Image). slots_used x i) image

    pub names-are : (i : ℕ) → i < length g.image.canonical → ◌≡◌ {A = Applied} (i, identity (used_slots found i)) (names_slots g.image i)
    names-are i l = ap (λ S. (i, identity S)) (slots-are i l)

    pub names-known : HasFreshSlots g.table k → (i : ℕ) → i < length g.image.canonical → AllKnown g.table (values (identity (used_slots found i)))
    names-known fresh i l = subst (AllKnown g.table) (sym (values-identity (used_slots found i))) (used-known g.table fresh i (within k g.image image i l))

    pub found_id-finds : (a : Applied) → IsValidId g a → find found a ≡ found_id g.image a
    found_id-finds a v =
        let l : a.0 < length k.classes = findable-within k a (of-valid k good g image a v) in
        sym (found_id-is k a l) ∙ ap (λ (x : Image). found_id x a) image

    pub found-for : (a b : Applied) → IsValidId g a → adding.IsFoundFor k a b → IsFoundFor g a b
    found-for a b v w =
        let l : a.0 < length k.classes = findable-within k a (of-valid k good g image a v) in
        let h : b.0 < length k.classes = findable-within k b w.findable in
        let known : AllKnown g.table (values b.1) = subst (λ (x : Applied). AllKnown g.table (values x.1)) (w.alike ∙ w.again) (found-known g.table found a v.known) in
        subst (λ i. IsFoundFor (over i) a b) image (record {
          live = (live-is b.0 h).0 w.found.0;
          slots = w.found.1 ∙ used-are b.0 h;
          alike = found_id-is k a l ∙ (w.alike ∙ sym (found_id-is k b h));
          again = found_id-is k b h ∙ w.again;
          valid = to-valid k good (over (image_of k)) refl b w.findable known;
          renamed = λ f inj. found_id-is k (renamed_id f a) l ∙ (w.renamed f inj).1;
        })
