-- Large classes among those that find what one of two classes finds.
use Rattle.std.proofs.Common.{◌≡◌, ℕ, ◌<◌, List, length, ◌∙◌, inl, inr}
use Rattle.slotted_theory.specs.Nameless.{DTerm}
use Rattle.slotted_model.specs.Find.{Entry, find_class, Linked}
use Rattle.slotted_model.proofs.Finds.Finding.{leads, found-live, found-in_range, find_class-live}
use Rattle.slotted_classes.specs.Kept.{Kept, entries_of}
use Rattle.slotted_rebuilding.specs.Proving.{FindsEither, HasLargeClassOf}

-- what a class finds finds itself
pub found-twice : (nodes : List DTerm) (found : List Entry) → Linked nodes found → (i : ℕ) → i < length nodes →
    find_class found (find_class found i) ≡ find_class found i
found-twice nodes found linked i h =
    find_class-live nodes found (leads nodes found linked) (find_class found i)
    (found-in_range nodes found (leads nodes found linked) i h) (found-live nodes found (leads nodes found linked) i h)

-- what finds as one of two that each find as one of two others
pub finds-among : (found : List Entry) (a b c d i : ℕ) → FindsEither found c d a → FindsEither found c d b →
    FindsEither found a b i → FindsEither found c d i
finds-among found a b c d i x y (inl e) = elim x [
  | inl f ↦ inl (e ∙ f)
  | inr f ↦ inr (e ∙ f)
]
finds-among found a b c d i x y (inr e) = elim y [
  | inl f ↦ inl (e ∙ f)
  | inr f ↦ inr (e ∙ f)
]

pub large-among : (k : Kept) (a b c d : ℕ) → FindsEither (entries_of k) c d a → FindsEither (entries_of k) c d b →
    HasLargeClassOf k a b → HasLargeClassOf k c d
large-among k a b c d x y h = (h.0, h.1, finds-among (entries_of k) a b c d h.0 x y h.2, h.3)
