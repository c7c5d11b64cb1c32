-- What an id finds.
use Rattle.std.proofs.Common.{◌≡◌, ◌<◌, ◌∙◌, ℕ, List, length, ap, sym, subst, arith}
use Rattle.std.specs.Map.{values_of}
use Rattle.std.specs.Prelude.{Contains}
use Rattle.slotted_theory.specs.FiniteMaps.{IsInjectiveMap}
use Rattle.slotted_theory.specs.Nameless.{DTerm}
use Rattle.slotted_model.specs.Applied.{Applied, keys, values}
use Rattle.slotted_model.specs.Ascending.{IsAscending}
use Rattle.slotted_model.specs.Classes.{canonical_slots}
use Rattle.slotted_model.specs.Correspondence.{identity}
use Rattle.slotted_model.specs.Find.{Entry, IsLive, entry_at, find, find_class, find_map, used_slots}
use Rattle.slotted_model.proofs.Correspondences.Pairs.{Contains-of_value}
use Rattle.slotted_model.proofs.Finds.Finding.{Leads, find_map-full, find_map-partial, found-in_range, found-live, leads, slots-ascending}
use Rattle.slotted_model.proofs.Data.Maps.{IsInjectiveMap-map_on}
use Rattle.slotted_model.proofs.Finds.NormalIds.{found-again, found-class_live, found-renamed, found-slots, found-valid, keys-identity, of_used, values-identity}
use Rattle.slotted_model.proofs.Data.Ordered.{in_order-ascending}
use Rattle.slotted_model.proofs.Represented.RenamedIds.{valid-renamed}
use Rattle.slotted_model.proofs.Data.Sets.{IsAscending-ascending}
use Rattle.slotted_classes.specs.Finding.{HasFinds, IsFindable}
use Rattle.slotted_classes.specs.Kept.{Kept, find_at, nodes_of, entries_of}
use Rattle.slotted_classes.proofs.KeptLists.{entry_at-of, length-nodes_of}
use Rattle.slotted_lookup.specs.LookUp.{IsFoundFor}

pub found-for : (k : Kept) → HasFinds k → (a : Applied) → IsFindable k a → IsFoundFor k a (find (entries_of k) a)
found-for k good a valid =
    let nodes : List DTerm = nodes_of k in
    let found : List Entry = entries_of k in
    let again : find found (find found a) ≡ find found a = found-again nodes found good.linked a valid in
    record {
      found = (found-class_live nodes found good.linked a valid, found-slots nodes found good.linked a valid);
      alike = sym again;
      again = again;
      findable = found-valid nodes found good.linked a valid;
      renamed = λ f inj. (valid-renamed (used_slots found) nodes f inj a valid, found-renamed found f a);
    }

module _ (k : Kept) (good : HasFinds k) (i : ℕ) (within : i < length k.classes) where
  in_nodes : i < length (nodes_of k)
  in_nodes = omega (arith, within, length-nodes_of k)

  abbrev L : Leads (nodes_of k) (entries_of k)
  L = leads (nodes_of k) (entries_of k) good.linked

  pub map-rises : IsAscending (keys (find_map (entries_of k) i))
  map-rises =
      let P : List ℕ = canonical_slots (nodes_of k) (find_class (entries_of k) i) in
      in_order-ascending P (find_map (entries_of k) i) (slots-ascending (nodes_of k) (find_class (entries_of k) i)) (find_map-partial (nodes_of k) (entries_of k) L i in_nodes).in_order

  pub map-injective : IsInjectiveMap (find_map (entries_of k) i)
  map-injective = (find_map-full (nodes_of k) (entries_of k) good.linked i in_nodes).injective

  -- a find has a pair for each slot of the class that is found, whose entry pairs it with itself
  pub found-keys : (c : ℕ) → c ≡ find_class (entries_of k) i → (m : List (ℕ × ℕ)) → m ≡ (find_at k c).pairs → values m ≡ keys (find_map (entries_of k) i)
  found-keys c e m is =
      let nodes : List DTerm = nodes_of k in
      let found : List Entry = entries_of k in
      let d : ℕ = find_class found i in
      let lives : IsLive found d = found-live nodes found L i in_nodes in
      let K : List ℕ = keys (entry_at found d).pairs in
      ap values (is ∙ (ap (λ n. (find_at k n).pairs) e ∙ ap (λ (x : Entry). x.pairs) (sym (entry_at-of k d))))
      ∙ (ap values (good.linked.live d (found-in_range nodes found L i in_nodes) lives) ∙ (values-identity K ∙ sym (find_map-full nodes found good.linked i in_nodes).slots))

  -- a class with the slots that finds still use as names
  pub used-findable : IsFindable k (i, identity (used_slots (entries_of k) i))
  used-findable =
      let nodes : List DTerm = nodes_of k in
      let found : List Entry = entries_of k in
      let S : List ℕ = used_slots found i in
      let rises : IsAscending S = IsAscending-ascending (values_of (find_map found i)) in
      record {
        in_range = in_nodes;
        ascending = subst IsAscending (sym (keys-identity S)) rises;
        injective = IsInjectiveMap-map_on (λ s. s) S (λ x y h l e. e) rises;
        has_slots = λ s c. subst (λ xs. Contains xs s) (sym (keys-identity S)) c;
        within = λ s c.
            let p = Contains-of_value (find_map found i) s (of_used found i s (subst (λ xs. Contains xs s) (keys-identity S) c)) in
            (find_map-partial nodes found L i in_nodes).within p.0 s p.1;
      }
