-- The id at which the matcher starts: a class under its own slots is valid, and a live one finds its class.
use Rattle.std.proofs.Common.{◌≡◌, ℕ, ◌<◌, List, length, sym, ◌∙◌, subst}
use Rattle.std.specs.Prelude.{Contains}
use Rattle.std.specs.Map.{values_of}
use Rattle.slotted_model.specs.Applied.{keys}
use Rattle.slotted_model.specs.Ascending.{IsAscending}
use Rattle.slotted_model.specs.Correspondence.{AllDifferent, identity}
use Rattle.slotted_model.specs.Find.{IsLive, find_class, find_map, used_slots, Linked}
use Rattle.slotted_model.specs.State.{State}
use Rattle.slotted_model.specs.Rest.{IsValidIn, AtRest}
use Rattle.slotted_model.proofs.Correspondences.FullIds.{ascending-different}
use Rattle.slotted_model.proofs.Correspondences.FullMaps.{injective_map-from}
use Rattle.slotted_model.proofs.Correspondences.Pairs.{Contains-of_value}
use Rattle.slotted_model.proofs.Correspondences.PartialInjections.{identity-pair}
use Rattle.slotted_model.proofs.Finds.Finding.{leads, find_class-live, find_map-partial}
use Rattle.slotted_model.proofs.Finds.NormalIds.{keys-identity, of_used}
use Rattle.slotted_model.proofs.Data.Sets.{IsAscending-ascending}
use Rattle.slotted_model_rules.specs.Matcher.{class_id}

pub class-valid : (g : State) → AtRest g → (c : ℕ) → c < length g.nodes → IsValidIn g (class_id g c) × (IsLive g.found c → find_class g.found c ≡ c)
class-valid g rest c h =
    let l : Linked g.nodes g.found = rest.sane.sound.linked in
    let S : List ℕ = used_slots g.found c in
    let k : keys (identity S) ≡ S = keys-identity S in
    let asc : IsAscending S = IsAscending-ascending (values_of (find_map g.found c)) in
    let once : AllDifferent (keys (identity S)) = subst AllDifferent (sym k) (ascending-different S asc) in (
      record {
        in_range = h;
        ascending = subst IsAscending (sym k) asc;
        injective = injective_map-from (identity S) once (λ s t x m n. (identity-pair S s x m).1 ∙ sym (identity-pair S t x n).1);
        has_slots = λ s m. subst (λ P. Contains P s) (sym k) m;
        within = λ s m.
            let r : (t : ℕ) × Contains (find_map g.found c) (t, s) = Contains-of_value (find_map g.found c) s (of_used g.found c s (subst (λ P. Contains P s) k m)) in
            (find_map-partial g.nodes g.found (leads g.nodes g.found l) c h).within r.0 s r.1;
      },
      λ live. find_class-live g.nodes g.found (leads g.nodes g.found l) c h live,
    )
