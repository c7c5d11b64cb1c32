-- The machine begins as the matcher does: at a live class under its own slots, which are its first names.
use Rattle.std.proofs.Common.{◌≡◌, ℕ, zero, suc, ◌+◌, ◌<◌, List, [], ◌∷◌, length, map, sym, ◌∙◌, ap, refl, subst, inl, inr, arith}
use Rattle.std.specs.List.{range_with_len}
use Rattle.std.specs.Map.{values_of}
use Rattle.slotted_lists.proofs.Members.{In, In-of_map}
use Rattle.slotted_theory.specs.Renaming.{IsInjective}
use Rattle.slotted_model.specs.Correspondence.{AllDifferent}
use Rattle.slotted_model.specs.Find.{IsLive, find_map, used_slots, find, Linked}
use Rattle.slotted_model.specs.State.{Row, State}
use Rattle.slotted_model.specs.Rest.{AtRest}
use Rattle.slotted_model.proofs.Correspondences.FullIds.{ascending-different}
use Rattle.slotted_model.proofs.Finds.NormalIds.{keys-identity, values-identity}
use Rattle.slotted_model.proofs.Data.Options.{None-Some}
use Rattle.slotted_model.proofs.Data.Sets.{IsAscending-ascending}
use Rattle.slotted_model_rules.specs.Patterns.{Pattern}
use Rattle.slotted_model_rules.specs.Matcher.{MatchState, Found, class_id, start_at}
use Rattle.slotted_model_rules.proofs.Matching.ClassIds.{class-valid}
use Rattle.slotted_model_rules.proofs.Matching.Goals.{one-goal}
use Rattle.slotted_match_machine.specs.declared.index.RowIndex.{RowIndex}
use Rattle.slotted_match_machine.specs.declared.program.Step.{Step}
use Rattle.slotted_match_machine.specs.Index.{OneByOne, IsIndexOf, IsOutlineIn}
use Rattle.slotted_match_machine.specs.Machine.{slot_count_in, started, answers_at}
use Rattle.slotted_match_machine.specs.Programs.{root, IsProgram}
use Rattle.slotted_match_machine.specs.Readings.{name_at, IsReadAs}
use Rattle.slotted_match_machine.proofs.Answering.{IsStateOf, answers-found}
use Rattle.slotted_match_machine.proofs.RowNames.{name_at-injective, named-slots}
use Rattle.slotted_match_machine.proofs.Occurrences.{IsOccurrenceOf}
use Rattle.slotted_match_machine.proofs.PlacedGoals.{IsAt, IsBelow}
use Rattle.slotted_match_machine.proofs.WholeIds.{stays-found}

in-range : (a n z : ℕ) → In z (range_with_len a n) → z < a + n
in-range a zero z i = absurd i
in-range a (suc n) z (inl e) = omega arith
in-range a (suc n) z (inr i) = let l : z < a + 1 + n = in-range (a + 1) n z i in omega arith

module _ (g : State) (rest : AtRest g) (c : ℕ) (h : c < length g.nodes) (live : IsLive g.found c) where
  abbrev linked : Linked g.nodes g.found
  linked = rest.sane.sound.linked

  abbrev S : List ℕ
  S = used_slots g.found c

  pub slots-differ : AllDifferent S
  slots-differ = ascending-different S (IsAscending-ascending (values_of (find_map g.found c)))

  abbrev f : ℕ → ℕ
  f = name_at S

  pub f-injective : IsInjective f
  f-injective = name_at-injective S slots-differ

  -- a live class under its own slots is in normal form
  class-found : find g.found (class_id g c) ≡ class_id g c
  class-found = stays-found g rest (class_id g c) (class-valid g rest c h).0 live (keys-identity S)

  module _ (order : List Row) (index : RowIndex) (is : IsIndexOf g order index) where
    abbrev N : List ℕ
    N = range_with_len 0 (slot_count_in index.classes.items c)

    count-slots : slot_count_in index.classes.items c ≡ length S
    count-slots = is.slot_counts c h live

    first-names : map f N ≡ S
    first-names = ap (λ n. map f (range_with_len 0 n)) count-slots ∙ named-slots S

    class-stands : IsOccurrenceOf g f (class_id g c) (record { class = c; names = N })
    class-stands = record { valid = (class-valid g rest c h).0; found = class-found; class = refl; names = values-identity S ∙ sym first-names }

    names-below : IsBelow (slot_count_in index.classes.items c) (record { class = c; names = N })
    names-below z i = let l : z < 0 + slot_count_in index.classes.items c = in-range 0 (slot_count_in index.classes.items c) z i in omega arith

    begins : IsStateOf g f [] (started index.classes.items c) (start_at g c)
    begins = record {
      pairs = refl;
      seen = λ z i.
          let k : (n : ℕ) × In n N × (z ≡ f n) = In-of_map f N z (subst (In z) (sym first-names) i) in
          (k.0, names-below k.0 k.1, k.2);
      count = refl;
      values = λ k l. absurd (omega arith);
      no_others = λ v b e. absurd (None-Some b e);
    }

    -- so its answers are the states in which the matcher finds the pattern
    pub class-answers : (variables : List (List ℕ)) (p : Pattern) (steps : List Step) → IsProgram (IsOutlineIn g order index) variables p steps →
        (outs : List MatchState) × Found g order p (start_at g c) (class_id g c) outs × OneByOne (IsReadAs g f variables) outs (answers_at index.classes.items steps c)
    class-answers variables p steps program =
        let place : IsAt g f (started index.classes.items c).registers (started index.classes.items c).count (p, root) (p, class_id g c) =
        record { pattern = refl; register = omega arith; occurrence = class-stands; below = names-below } in
        let r = answers-found g rest order index is f f-injective variables program (started index.classes.items c) (start_at g c) ((p, class_id g c) ∷ []) refl begins (place, tt) in
        (r.0, (one-goal g order p (class_id g c) (start_at g c) r.0).0 r.1, r.2)
