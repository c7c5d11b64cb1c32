-- Occurrences: ids in normal form, whose names are numbers.
use Rattle.std.proofs.Common.{◌≡◌, ◌≢◌, ℕ, zero, suc, ◌<◌, List, [], ◌∷◌, length, map, true, false, sym, ◌∙◌, ap, refl, subst, arith}
use Rattle.std.specs.Prelude.{Contains, slice_index, nat_eq}
use Rattle.std.specs.List.{zip}
use Rattle.std.proofs.lemmas.Bool.{eqb-true, eq-eqb, and_parts, and_from, false≢true}
use Rattle.std.proofs.lemmas.List.{length-map}
use Rattle.slotted_lists.proofs.Contained.{contains_head, contains_tail, Contains-map}
use Rattle.slotted_lists.proofs.Maps.{zip-keys_values}
use Rattle.slotted_lists.proofs.Lists.{map-injective}
use Rattle.slotted_theory.specs.Decided.{numbers_eq}
use Rattle.slotted_theory.specs.Renaming.{IsInjective}
use Rattle.slotted_theory.proofs.Decides.{numbers_eq-true, numbers_eq-same}
use Rattle.slotted_model.specs.Applied.{Applied, keys, values}
use Rattle.slotted_model.specs.Correspondence.{AllDifferent}
use Rattle.slotted_model.specs.Find.{IsLive, used_slots, find, Linked}
use Rattle.slotted_model.specs.State.{State}
use Rattle.slotted_model.specs.Rest.{IsValidIn, AtRest}
use Rattle.slotted_model.proofs.Correspondences.Listing.{injective-different}
use Rattle.slotted_model.proofs.Finds.NormalIds.{found-slots, found-class_live}
use Rattle.slotted_match_machine.specs.Machine.{Occurrence, same_occurrence}
use Rattle.slotted_match_machine.specs.Readings.{read_id, IsWholeId}

-- the id of the occurrence is a, where f names the numbers
pub record IsOccurrenceOf (g : State) (f : ℕ → ℕ) (a : Applied) (o : Occurrence) : Type 0 where
  pub valid : IsValidIn g a
  pub found : find g.found a ≡ a
  pub class : a.0 ≡ o.class
  pub names : values a.1 ≡ map f o.names

-- the pair at each place of a map
pub pair-at : (m : List (ℕ × ℕ)) (p : ℕ) → p < length (keys m) → Contains m (slice_index (keys m) p, slice_index (values m) p)
pair-at [] p h = absurd (omega arith)
pair-at (q ∷ m) zero h = contains_head q m
pair-at (q ∷ m) (suc p) h = contains_tail q m (slice_index (keys m) p, slice_index (values m) p) (pair-at m p (omega arith))

pub same-length : (m : List (ℕ × ℕ)) → length (keys m) ≡ length (values m)
same-length [] = refl
same-length (p ∷ m) = ap suc (same-length m)

-- different names have different numbers
different-from : (f : ℕ → ℕ) (xs : List ℕ) → AllDifferent (map f xs) → AllDifferent xs
different-from f [] d = tt
different-from f (x ∷ xs) d = (λ c. d.0 (Contains-map f xs x c), different-from f xs d.1)

module _ (g : State) (rest : AtRest g) (f : ℕ → ℕ) (a : Applied) (o : Occurrence) (is : IsOccurrenceOf g f a o) where
  abbrev linked : Linked g.nodes g.found
  linked = rest.sane.sound.linked

  pub slots-of : keys a.1 ≡ used_slots g.found a.0
  slots-of = subst (λ (b : Applied). keys b.1 ≡ used_slots g.found b.0) is.found (found-slots g.nodes g.found linked a is.valid)

  pub slots-at : keys a.1 ≡ used_slots g.found o.class
  slots-at = slots-of ∙ ap (used_slots g.found) is.class

  -- the id is that which is read
  pub is-read : a ≡ read_id g f o
  is-read = (λ i. (is.class i, sym (zip-keys_values a.1) i)) ∙ (λ i. (o.class, zip (slots-at i) (is.names i)))

  pub class-lives : IsLive g.found o.class
  class-lives = subst (IsLive g.found) (ap (λ (b : Applied). b.0) is.found ∙ is.class) (found-class_live g.nodes g.found linked a is.valid)

  pub class-in_range : o.class < length g.nodes
  class-in_range = subst (λ c. c < length g.nodes) is.class is.valid.in_range

  -- there is one number for each slot of the class
  pub names-count : length o.names ≡ length (used_slots g.found o.class)
  names-count = sym (length-map o.names f) ∙ (ap length (sym is.names) ∙ (sym (same-length a.1) ∙ ap length slots-at))

  -- and no number stands twice
  pub names-differ : AllDifferent o.names
  names-differ = different-from f o.names (subst AllDifferent is.names (injective-different a.1 is.valid.injective))

  pub is-whole : IsWholeId g o
  is-whole = record { in_range = class-in_range; lives = class-lives; count = names-count; differ = names-differ }

  pub name-of_slot : (p : ℕ) → p < length (used_slots g.found o.class) → Contains a.1 (slice_index (used_slots g.found o.class) p, f (slice_index o.names p))
  name-of_slot p h =
      let l : p < length (keys a.1) = subst (λ (S : List ℕ). p < length S) (sym slots-at) h in
      let m : p < length o.names = subst (λ k. p < k) (sym names-count) h in
      let e : slice_index (values a.1) p ≡ f (slice_index o.names p) = ap (λ xs. slice_index xs p) is.names ∙ named-at o.names p m in
      subst (Contains a.1) (λ i. (slice_index (slots-at i) p, e i)) (pair-at a.1 p l)
    where
      named-at : (xs : List ℕ) (p : ℕ) → p < length xs → slice_index (map f xs) p ≡ f (slice_index xs p)
      named-at [] p h = absurd (omega arith)
      named-at (x ∷ xs) zero h = refl
      named-at (x ∷ xs) (suc p) h = named-at xs p (omega arith)

-- occurrences are the same just if their ids are
module _ (g : State) (rest : AtRest g) (f : ℕ → ℕ) (inj : IsInjective f) (a b : Applied) (o p : Occurrence) (is : IsOccurrenceOf g f a o) (it : IsOccurrenceOf g f b p) where
  pub same-ids : same_occurrence o p ≡ true → a ≡ b
  same-ids e =
      let k = and_parts (nat_eq o.class p.class) (numbers_eq o.names p.names) e in
      let c : o.class ≡ p.class = eqb-true o.class p.class k.0 in
      let n : o.names ≡ p.names = numbers_eq-true o.names p.names k.1 in
      is-read g rest f a o is ∙ ((λ i. (c i, zip (used_slots g.found (c i)) (map f (n i)))) ∙ sym (is-read g rest f b p it))

  pub other-ids : same_occurrence o p ≡ false → a ≢ b
  other-ids e q =
      let c : o.class ≡ p.class = sym is.class ∙ (ap (λ (x : Applied). x.0) q ∙ it.class) in
      let n : o.names ≡ p.names = map-injective f inj o.names p.names (sym is.names ∙ (ap (λ (x : Applied). values x.1) q ∙ it.names)) in
      let t : same_occurrence o p ≡ true = and_from (nat_eq o.class p.class) (numbers_eq o.names p.names) (eq-eqb o.class p.class c) (ap (numbers_eq o.names) (sym n) ∙ numbers_eq-same o.names) in
      false≢true (sym e ∙ t)
