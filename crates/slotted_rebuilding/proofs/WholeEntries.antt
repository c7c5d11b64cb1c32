-- A class that leads to a live one which has all its slots left finds what its entry says, and a live class with all its slots itself.
use Rattle.std.proofs.Common.{◌≡◌, ◌<◌, ◌∙◌, ℕ, List, ap, length, subst, sym}
use Rattle.std.specs.Map.{keys_of, values_of}
use Rattle.std.specs.Prelude.{Contains}
use Rattle.slotted_lists.proofs.Members.{Contains-In, In-Contains}
use Rattle.slotted_theory.specs.Nameless.{DTerm}
use Rattle.slotted_model.specs.Ascending.{IsAscending}
use Rattle.slotted_model.specs.Classes.{canonical_slots}
use Rattle.slotted_model.specs.Correspondence.{IsFullMap, composite, identity, turned}
use Rattle.slotted_model.specs.Find.{Entry, IsLive, Linked, entry_at, find_class, find_map}
use Rattle.slotted_model.specs.ProofList.{entry_equation, find_equation}
use Rattle.slotted_model.proofs.Correspondences.FullMaps.{full-partial}
use Rattle.slotted_model.proofs.Correspondences.Pairs.{Contains-of_value, Contains-value}
use Rattle.slotted_model.proofs.Correspondences.PartialInjections.{identity-composite}
use Rattle.slotted_model.proofs.Finds.Finding.{Leads, find_class-follows, find_class-live, find_map-follows, find_map-live, leads, live-full, slots-ascending}
use Rattle.slotted_model.proofs.Finds.NormalIds.{used-live, values-identity}
use Rattle.slotted_model.proofs.Data.Ordered.{in_order-ascending}
use Rattle.slotted_model.proofs.Data.Sets.{IsAscending-ascending}
use Rattle.slotted_classes.proofs.AscendingLists.{ascending-within}
use Rattle.slotted_classes.proofs.KeptLists.{length-mapped}

module _ (nodes : List DTerm) (found : List Entry) (linked : Linked nodes found) (i : ℕ) (h : i < length nodes) (lives : IsLive found (entry_at found i).class)
    (many : length (entry_at found (entry_at found i).class).pairs ≡ length (entry_at found i).pairs) where
  abbrev L : Leads nodes found
  L = leads nodes found linked

  abbrev c : ℕ
  c = (entry_at found i).class

  abbrev m : List (ℕ × ℕ)
  m = (entry_at found i).pairs

  abbrev K : List ℕ
  K = keys_of (entry_at found c).pairs

  whole : find_map found c ≡ identity K
  whole = find_map-live nodes found L c (linked.in_range i h) lives ∙ linked.live c (linked.in_range i h) lives

  rises : IsAscending K
  rises = subst IsAscending (used-live nodes found linked c (linked.in_range i h) lives) (IsAscending-ascending (values_of (find_map found c)))

  as_many : length K ≡ length (keys_of m)
  as_many = length-mapped (λ (p : ℕ × ℕ). p.0) (entry_at found c).pairs ∙ (many ∙ sym (length-mapped (λ (p : ℕ × ℕ). p.0) m))

  -- the entry has a pair for just the slots that are left
  same : K ≡ keys_of m
  same = ascending-within K (keys_of m) rises (in_order-ascending (canonical_slots nodes c) m (slots-ascending nodes c) (linked.maps i h).in_order)
      (λ z k. In-Contains (keys_of m) z (linked.uses i h z (subst (λ vs. Contains vs z) (sym (ap values_of whole ∙ values-identity K)) (Contains-In K z k)))) as_many

  pairs : find_map found i ≡ m
  pairs =
      let full : IsFullMap K m = subst (λ S. IsFullMap S m) (sym same) (live-full nodes found L i h) in
      find_map-follows nodes found L i h
      ∙ (ap (λ (x : List (ℕ × ℕ)). composite x m) whole ∙ identity-composite K (values_of m) m (full-partial K (values_of m) m full (λ s x d. Contains-value m s x d)))

  pub whole-says : find_equation nodes found i ≡ entry_equation nodes found i
  whole-says = λ k. record {
    left = i;
    right = (find_class-follows nodes found L i h ∙ find_class-live nodes found L c (linked.in_range i h) lives) k;
    pairs = turned (canonical_slots nodes i) (pairs k);
  }

-- a live class with all its canonical slots finds itself with them
module _ (nodes : List DTerm) (found : List Entry) (linked : Linked nodes found) (i : ℕ) (h : i < length nodes) (lives : IsLive found i)
    (many : length (entry_at found i).pairs ≡ length (canonical_slots nodes i)) where
  abbrev all : List ℕ
  all = keys_of (entry_at found i).pairs

  itself : (entry_at found i).pairs ≡ identity all
  itself = linked.live i h lives

  all-slots : all ≡ canonical_slots nodes i
  all-slots = ascending-within all (canonical_slots nodes i) (subst IsAscending (used-live nodes found linked i h lives) (IsAscending-ascending (values_of (find_map found i)))) (slots-ascending nodes i)
      (λ z k.
      let c = Contains-of_value (entry_at found i).pairs z (subst (λ vs. Contains vs z) (sym (ap values_of itself ∙ values-identity all)) (Contains-In all z k)) in
      In-Contains (canonical_slots nodes i) z ((linked.maps i h).within c.0 z c.1))
      (length-mapped (λ (p : ℕ × ℕ). p.0) (entry_at found i).pairs ∙ many)

  pub finds-whole : (find_class found i ≡ i) × (find_map found i ≡ identity (canonical_slots nodes i))
  finds-whole = (
    find_class-live nodes found (leads nodes found linked) i h lives,
    find_map-live nodes found (leads nodes found linked) i h lives ∙ (itself ∙ ap identity all-slots),
  )
