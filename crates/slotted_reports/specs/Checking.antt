-- What a check of the filed nodes rests on.
--     HasKeyed r i        what is filed of the class i is filed by its own shape, with a slot for each number
--     HasKeyedEach r      so it is of each class
use Rattle.std.specs.Prelude.{◌≡◌, ℕ, Some}
use Rattle.slotted_hashcons.specs.Filed.{Filing, filed_of}
use Rattle.slotted_hashcons.specs.FiledRows.{Rows}
use Rattle.slotted_hashcons.specs.WellFiled.{IsKeyed}

abbrev pub HasKeyed : Rows → ℕ → Type 0
HasKeyed r i = (e : Filing) → filed_of r.filed i ≡ Some e → IsKeyed e

abbrev pub HasKeyedEach : Rows → Type 0
HasKeyedEach r = (i : ℕ) → HasKeyed r i
