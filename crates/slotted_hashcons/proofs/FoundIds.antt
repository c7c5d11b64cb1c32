-- Ids that are what they find.
use Rattle.std.proofs.Common.{◌≡◌, ◌∙◌, ℕ, List, length, ap, sym, subst}
use Rattle.std.specs.Map.{keys_of, values_of}
use Rattle.slotted_lists.proofs.Members.{Contains-In, In, In-Contains}
use Rattle.slotted_theory.specs.Nameless.{DTerm}
use Rattle.slotted_model.specs.Applied.{Applied, keys, values}
use Rattle.slotted_model.specs.Ascending.{IsAscending}
use Rattle.slotted_model.specs.Correspondence.{IsFullMap, composite, identity}
use Rattle.slotted_model.specs.Find.{Entry, IsLive, entry_at, find, find_map, used_slots}
use Rattle.slotted_model.proofs.Correspondences.FullIds.{ascending-different}
use Rattle.slotted_model.proofs.Correspondences.FullMaps.{full-partial}
use Rattle.slotted_model.proofs.Correspondences.Pairs.{Contains-value}
use Rattle.slotted_model.proofs.Correspondences.PartialInjections.{identity-composite}
use Rattle.slotted_model.proofs.Finds.Finding.{Leads, find_class-live, find_map-live, leads}
use Rattle.slotted_model.proofs.Finds.NormalIds.{found-class_live, found-slots, used-live}
use Rattle.slotted_model.proofs.Data.Sets.{IsAscending-ascending}
use Rattle.slotted_classes.specs.Finding.{HasFinds, IsFindable}
use Rattle.slotted_classes.specs.Kept.{Kept, entries_of, nodes_of}
use Rattle.slotted_classes.proofs.AscendingLists.{ascending-within}
use Rattle.slotted_classes.proofs.KeptLists.{length-mapped}

-- an id is what it finds if its class lives and has as many slots left as the id has names
pub found-itself : (k : Kept) → HasFinds k → (a : Applied) → IsFindable k a → IsLive (entries_of k) a.0 → length (entry_at (entries_of k) a.0).pairs ≡ length a.1 → find (entries_of k) a ≡ a
found-itself k good a valid lives many =
    let nodes : List DTerm = nodes_of k in
    let found : List Entry = entries_of k in
    let L : Leads nodes found = leads nodes found good.linked in
    let K : List ℕ = keys_of (entry_at found a.0).pairs in
    let used : used_slots found a.0 ≡ K = used-live nodes found good.linked a.0 valid.in_range lives in
    let rises : IsAscending K = subst IsAscending used (IsAscending-ascending (values_of (find_map found a.0))) in
    let as_many : length K ≡ length (keys a.1) = length-mapped (λ (p : ℕ × ℕ). p.0) (entry_at found a.0).pairs ∙ (many ∙ sym (length-mapped (λ (p : ℕ × ℕ). p.0) a.1)) in
    let same : K ≡ keys a.1 = ascending-within K (keys a.1) rises valid.ascending
    (λ z i. In-Contains (keys a.1) z (valid.has_slots z (Contains-In (used_slots found a.0) z (subst (λ S. In z S) (sym used) i)))) as_many in
    let full : IsFullMap K a.1 = record { slots = sym same; once = ascending-different K rises; injective = valid.injective } in
    let whole : find_map found a.0 ≡ identity K = find_map-live nodes found L a.0 valid.in_range lives ∙ good.linked.live a.0 valid.in_range lives in
    let n : composite (find_map found a.0) a.1 ≡ a.1 = ap (λ m. composite m a.1) whole ∙ identity-composite K (values a.1) a.1 (full-partial K (values a.1) a.1 full (λ s x d. Contains-value a.1 s x d)) in
    λ i. (find_class-live nodes found L a.0 valid.in_range lives i, n i)

-- and only then
pub itself-found : (k : Kept) → HasFinds k → (a : Applied) → IsFindable k a → find (entries_of k) a ≡ a → IsLive (entries_of k) a.0 × (length (entry_at (entries_of k) a.0).pairs ≡ length a.1)
itself-found k good a valid same =
    let nodes : List DTerm = nodes_of k in
    let found : List Entry = entries_of k in
    let lives : IsLive found a.0 = subst (λ (b : Applied). IsLive found b.0) same (found-class_live nodes found good.linked a valid) in
    let slots : keys a.1 ≡ used_slots found a.0 = subst (λ (b : Applied). keys b.1 ≡ used_slots found b.0) same (found-slots nodes found good.linked a valid) in
    let used : used_slots found a.0 ≡ keys_of (entry_at found a.0).pairs = used-live nodes found good.linked a.0 valid.in_range lives in
    (lives, sym (length-mapped (λ (p : ℕ × ℕ). p.0) (entry_at found a.0).pairs) ∙ (ap length (sym (slots ∙ used)) ∙ length-mapped (λ (p : ℕ × ℕ). p.0) a.1))
