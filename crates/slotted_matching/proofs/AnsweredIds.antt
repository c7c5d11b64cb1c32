-- The ids of an answer, and what is known of them.
use Rattle.std.proofs.Common.{◌≡◌, ℕ, ◌+◌, ◌<◌, List, [], ◌∷◌, ◌++◌, length, take, get_or, map, sym, ap, ◌∙◌, append_assoc}
use Rattle.std.specs.List.{zip, flat_map}
use Rattle.std.proofs.lemmas.List.Folds.{flat_map-map}
use Rattle.slotted_match_machine.specs.declared.answer.Occurrence.{Occurrence as OccurrenceRead}
use Rattle.slotted_match_machine.specs.Answers.{occurrence_in}
use Rattle.std.proofs.lemmas.List.{take_more, take_more_set, map-append}
use Rattle.slotted_lists.proofs.Maps.{zip-keys_values, length-keys}
use Rattle.slotted_slots.specs.Maps.{keys, values, with_value_at, values-with_value_at}
use Rattle.slotted_model.specs.Applied.{Applied}
use Rattle.slotted_model.specs.Find.{used_slots}
use Rattle.slotted_model.proofs.Finds.NormalIds.{used-live}
use Rattle.slotted_classes.specs.Kept.{Kept, find_at, nodes_of, entries_of}
use Rattle.slotted_classes.specs.Finding.{HasFinds}
use Rattle.slotted_classes.proofs.KeptLists.{entry_at-of}
use Rattle.slotted_classes.specs.StateOf.{state_of}
use Rattle.slotted_match_machine.specs.Machine.{Occurrence, no_occurrence}
use Rattle.slotted_match_machine.specs.Readings.{IsWholeId, read_id}
use Rattle.slotted_matching.specs.Naming.{slot_in, numbers_of}
use Rattle.slotted_matching.specs.Answered.{ids_at}

-- the slots of a live class are those that its entry pairs with themselves
pub live-slots : (k : Kept) → HasFinds k → (o : Occurrence) → IsWholeId (state_of k) o → used_slots (entries_of k) o.class ≡ keys (find_at k o.class).pairs
live-slots k good o whole = used-live (nodes_of k) (entries_of k) good.linked o.class whole.in_range whole.lives ∙ ap (λ e. keys e.pairs) (entry_at-of k o.class)

pub count-of : (k : Kept) → HasFinds k → (o : Occurrence) → IsWholeId (state_of k) o → length o.names ≡ length (find_at k o.class).pairs
count-of k good o whole = whole.count ∙ (ap length (live-slots k good o whole) ∙ length-keys (find_at k o.class).pairs)

-- the map of the class with these names in the places of its slots
pub id-read : (k : Kept) → HasFinds k → (o : Occurrence) → IsWholeId (state_of k) o → (f : ℕ → ℕ) (m : List (ℕ × ℕ)) →
    keys m ≡ keys (find_at k o.class).pairs → values m ≡ map f o.names → (o.class, m) ≡ read_id (state_of k) f o
id-read k good o whole f m ks vs =
    let is : m ≡ zip (used_slots (entries_of k) o.class) (map f o.names) = sym (zip-keys_values m) ∙ (λ i. zip ((ks ∙ sym (live-slots k good o whole)) i) (vs i)) in
    λ i. (o.class, is i)

-- one more name is put in its place
pub name-put : (m n : List (ℕ × ℕ)) (i y : ℕ) (xs : List ℕ) (f : ℕ → ℕ) → i < length (values m) → i < length xs → n ≡ with_value_at m i y → y ≡ f (get_or xs i 0) →
    take i (values m) ≡ map f (take i xs) → take (i + 1) (values n) ≡ map f (take (i + 1) xs)
name-put m n i y xs f l h put name before =
    ap (λ ws. take (i + 1) ws) (ap values put ∙ values-with_value_at m i y)
    ∙ (take_more_set (values m) i y l
    ∙ ((λ j. before j ++ name j ∷ []) ∙ (sym (map-append f (take i xs) (get_or xs i 0 ∷ [])) ∙ ap (map f) (sym (take_more xs i 0 h)))))

-- the id of one more number
pub ids-step : (k : Kept) (names : List (ℕ × ℕ)) (order : List ℕ) (vs : List Occurrence) (i : ℕ) (old ids : List Applied) (a : Applied) → i < length order →
    ids ≡ old ++ ids_at k names (take i order) vs → a ≡ read_id (state_of k) (slot_in names) (get_or vs (get_or order i 0) no_occurrence) →
    ids ++ a ∷ [] ≡ old ++ ids_at k names (take (i + 1) order) vs
ids-step k names order vs i old ids a l so_far is =
    let f : ℕ → Applied = λ n. read_id (state_of k) (slot_in names) (get_or vs n no_occurrence) in
    (λ j. so_far j ++ is j ∷ [])
    ∙ (append_assoc old (map f (take i order)) (f (get_or order i 0) ∷ [])
    ∙ ap (λ l. old ++ l) (sym (map-append f (take i order) (get_or order i 0 ∷ [])) ∙ ap (map f) (sym (take_more order i 0 l))))

pub numbers-read : (os : List OccurrenceRead) → flat_map (λ (o : Occurrence). o.names) (map occurrence_in os) ≡ numbers_of os
numbers-read os = flat_map-map (λ (o : Occurrence). o.names) occurrence_in os
