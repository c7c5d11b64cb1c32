-- Whole ids, with different names for their numbers, are valid and in normal form.
use Rattle.std.proofs.Common.{◌≡◌, ℕ, List, [], ◌∷◌, length, map, sym, ◌∙◌, ap, subst}
use Rattle.std.specs.Prelude.{Contains}
use Rattle.std.specs.List.{zip}
use Rattle.std.specs.Map.{keys_of, values_of}
use Rattle.std.proofs.lemmas.List.{length-map}
use Rattle.slotted_lists.proofs.Members.{Contains-In}
use Rattle.slotted_lists.proofs.Maps.{keys-beside, values-beside}
use Rattle.slotted_theory.specs.FiniteMaps.{IsInjectiveMap}
use Rattle.slotted_model.specs.Applied.{Applied, keys, values}
use Rattle.slotted_model.specs.Ascending.{IsAscending}
use Rattle.slotted_model.specs.Correspondence.{AllDifferent, IsInjectiveOn, composite, identity}
use Rattle.slotted_model.specs.Find.{entry_at, IsLive, find_map, used_slots, find, Linked}
use Rattle.slotted_model.specs.State.{State}
use Rattle.slotted_model.specs.Rest.{IsValidIn, AtRest}
use Rattle.slotted_model.proofs.Correspondences.FullMaps.{full-partial}
use Rattle.slotted_model.proofs.Correspondences.PartialInjections.{identity-composite}
use Rattle.slotted_model.proofs.Correspondences.Pairs.{Contains-value}
use Rattle.slotted_model.proofs.Finds.Finding.{leads, find_class-live, find_map-live}
use Rattle.slotted_model.proofs.Data.Maps.{In-values}
use Rattle.slotted_model.proofs.Finds.NormalIds.{keys-identity, used-live, valid-map}
use Rattle.slotted_model.proofs.Data.Sets.{IsAscending-ascending}
use Rattle.slotted_model_rules.specs.Matcher.{class_id}
use Rattle.slotted_model_rules.proofs.Matching.ClassIds.{class-valid}
use Rattle.slotted_match_machine.specs.Machine.{Occurrence}
use Rattle.slotted_match_machine.specs.Readings.{read_id, IsWholeId}
use Rattle.slotted_match_machine.proofs.NamedNodes.{different-with}

-- a map whose values differ is injective
different-injective : (m : List (ℕ × ℕ)) → AllDifferent (values m) → IsInjectiveMap m
different-injective [] d = tt
different-injective (p ∷ m) d = (λ h. d.0 (Contains-In (values m) p.1 (In-values m p.1 h)), different-injective m d.1)

module _ (g : State) (rest : AtRest g) where
  abbrev linked : Linked g.nodes g.found
  linked = rest.sane.sound.linked

  -- a valid id of a live class with names for just its slots is in normal form
  pub stays-found : (a : Applied) → IsValidIn g a → IsLive g.found a.0 → keys a.1 ≡ used_slots g.found a.0 → find g.found a ≡ a
  stays-found a v live same =
      let c : ℕ = a.0 in
      let S : List ℕ = used_slots g.found c in
      let K : List ℕ = keys_of (entry_at g.found c).pairs in
      let m : find_map g.found c ≡ identity (keys a.1) =
      find_map-live g.nodes g.found (leads g.nodes g.found linked) c v.in_range live ∙ (linked.live c v.in_range live ∙ ap identity (sym (same ∙ used-live g.nodes g.found linked c v.in_range live))) in
      let neutral : composite (identity (keys a.1)) a.1 ≡ a.1 =
      identity-composite (keys a.1) (values a.1) a.1 (full-partial (keys a.1) (values a.1) a.1 (valid-map g.nodes g.found linked a v) (λ s x k. Contains-value a.1 s x k)) in
      λ i. (find_class-live g.nodes g.found (leads g.nodes g.found linked) c v.in_range live i, (ap (λ A. composite A a.1) m ∙ neutral) i)

  pub whole-valid : (o : Occurrence) → IsWholeId g o → (name : ℕ → ℕ) → IsInjectiveOn name o.names → IsValidIn g (read_id g name o) × (find g.found (read_id g name o) ≡ read_id g name o)
  whole-valid o whole name inj = (valid, stays-found (read_id g name o) valid whole.lives key)
    where
      S : List ℕ
      S = used_slots g.found o.class

      count : length S ≡ length (map name o.names)
      count = sym (length-map o.names name ∙ whole.count)

      key : keys (zip S (map name o.names)) ≡ S
      key = keys-beside S (map name o.names) count

      named : values (zip S (map name o.names)) ≡ map name o.names
      named = values-beside S (map name o.names) count

      own : IsValidIn g (class_id g o.class)
      own = (class-valid g rest o.class whole.in_range).0

      valid : IsValidIn g (read_id g name o)
      valid = record {
        in_range = whole.in_range;
        ascending = subst IsAscending (sym key) (IsAscending-ascending (values_of (find_map g.found o.class)));
        injective = different-injective (zip S (map name o.names)) (subst AllDifferent (sym named) (different-with name o.names (λ x y i j. inj x y (Contains-In o.names x i) (Contains-In o.names y j)) whole.differ));
        has_slots = λ s c. subst (λ P. Contains P s) (sym key) c;
        within = λ s c. own.within s (subst (λ P. Contains P s) (key ∙ sym (keys-identity S)) c);
      }
