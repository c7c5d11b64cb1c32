-- What a graph reports of its classes. A class is live if it finds itself.
--     HasClass g i        i is the number of a class of a graph that has not failed
--     live_classes g      the live classes, ascending
--     class_numbers ids   their numbers
--     slots_used g i      the canonical slots that the class i has left, ascending
--     IsFoundFor g a b    b is what the id a finds: live, with a name for just each slot that its class has left, and found as it is
--     IsFound g a         a is what it finds itself
--     names_slots g i     the class i with each slot that it has left as its own name
use Rattle.std.specs.Prelude.{◌≡◌, ℕ, ◌<◌, List, Bool, false, length, map, nat_eq}
use Rattle.std.specs.List.{filter, range_with_len}
use Rattle.slotted_slots.specs.declared.types.Id.{Id}
use Rattle.slotted_theory.specs.Renaming.{IsInjective}
use Rattle.slotted_model.specs.Applied.{Applied, keys, renamed_id}
use Rattle.slotted_model.specs.Ascending.{ascending}
use Rattle.slotted_model.specs.Correspondence.{identity}
use Rattle.slotted_operations.specs.Causes.{class_found}
use Rattle.slotted_operations.specs.ValidIds.{IsValidId, slots_left}
use Rattle.slotted_operations.specs.Graph.{Graph}
use Rattle.slotted_operations.specs.Image.{Image, FoundAlike, found_id}

abbrev pub HasClass : Graph → ℕ → Type 0
HasClass g i = (g.failed ≡ false) × (i < length g.image.canonical)

-- whether the class finds itself
abbrev pub finds_itself : Image → ℕ → Bool
finds_itself g i = nat_eq (class_found g i) i

abbrev pub live_classes : Image → List ℕ
live_classes g = filter (finds_itself g) (range_with_len 0 (length g.canonical))

abbrev pub class_numbers : List Id → List ℕ
class_numbers ids = map (λ (id : Id). id.0) ids

abbrev pub slots_used : Image → ℕ → List ℕ
slots_used g i = ascending (slots_left g i)

pub record IsFoundFor (g : Graph) (a b : Applied) : Type 0 where
  -- a live class, with a name for just each slot that it has left
  pub live : class_found g.image b.0 ≡ b.0
  pub slots : keys b.1 ≡ slots_used g.image b.0
  -- it finds what a finds, which is itself, and `eq` can be asked of it
  pub alike : FoundAlike g.image a b
  pub again : found_id g.image b ≡ b
  pub valid : IsValidId g b
  -- under other names a finds b under these
  pub renamed : (f : ℕ → ℕ) → IsInjective f → found_id g.image (renamed_id f a) ≡ renamed_id f b

-- the id is what it finds itself
abbrev pub IsFound : Graph → Applied → Type 0
IsFound g a = IsFoundFor g a a

abbrev pub names_slots : Image → ℕ → Applied
names_slots g i = (i, identity (slots_used g i))
