-- The filed nodes of a class, with the names of an id.
--     names_beside_of k o m a   for each number whose slot in m stands for one of what the id a finds the name that it
--                               has
--     AllKnownTo t xs           the table knows each of these slots
--     AreFresh xs               each of these slots is a fresh one
--     IsMet k o a               the class o and the id a find one class
--     IsLookedUpAs k r a f      the node is looked up as what the id a finds
--     HasNamesOrNumbers vs f    each name in the node is one of vs, or numeric
--     IsLargeKeyOf r o          the key that is filed of the class o has too many places
use Rattle.std.specs.Prelude.{◌≡◌, ◌⊎◌, ℕ, List, All, Contains, IsTrue, Some}
use Rattle.slotted_slots.specs.Table.{Table, fresh_slot, is_known}
use Rattle.slotted_nodes.specs.Form.{Form}
use Rattle.slotted_languages.specs.NewNames.{IsTooLarge}
use Rattle.slotted_model.specs.Applied.{Applied}
use Rattle.slotted_model.specs.Correspondence.{composite, same_names}
use Rattle.slotted_model.specs.Find.{find, find_class, find_map}
use Rattle.slotted_classes.specs.Kept.{Kept, entries_of}
use Rattle.slotted_classes.specs.Names.{IsNumeric}
use Rattle.slotted_hashcons.specs.Filed.{HasKey}
use Rattle.slotted_hashcons.specs.FiledRows.{Rows}
use Rattle.slotted_lookup.specs.LookUp.{looked_up}

abbrev pub names_beside_of : Kept → ℕ → List (ℕ × ℕ) → Applied → List (ℕ × ℕ)
names_beside_of k o m a = composite (same_names m (find_map (entries_of k) o)) (find (entries_of k) a).1

abbrev pub AllKnownTo : Table → List ℕ → Type 0
AllKnownTo t xs = All (λ x. IsTrue (is_known t x)) xs

abbrev pub AreFresh : List ℕ → Type 0
AreFresh xs = (x : ℕ) → Contains xs x → (n : ℕ) × (x ≡ fresh_slot n)

abbrev pub IsMet : Kept → ℕ → Applied → Type 0
IsMet k o a = find_class (entries_of k) a.0 ≡ find_class (entries_of k) o

abbrev pub IsLookedUpAs : Kept → Rows → Applied → Form → Type 0
IsLookedUpAs k r a f = looked_up k r f ≡ Some (find (entries_of k) a)

abbrev pub HasNamesOrNumbers : List ℕ → Form → Type 0
HasNamesOrNumbers vs f = (x : ℕ) → Contains f.names x → Contains vs x ⊎ IsNumeric x

abbrev pub IsLargeKeyOf : Rows → ℕ → Type 0
IsLargeKeyOf r o = (f : Form) × HasKey r.filed o f × IsTooLarge f
