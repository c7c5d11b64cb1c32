-- Words of which none is seen twice.
--     AreUnseen s ws     no two of the words ws are one, and none is in the set s
use Rattle.std.specs.Prelude.{◌≡◌, ℕ, false, List, Contains, String}
use Rattle.std.specs.HashSet.{HashSet, contains_text}
use Rattle.slotted_certificates.specs.Given.{AreDifferent}

abbrev pub AreUnseen : {A S : Type 0} → HashSet (String A) S → List (List ℕ) → Type 0
AreUnseen seen ws = AreDifferent ws × ((w : List ℕ) → Contains ws w → contains_text seen w ≡ false)
