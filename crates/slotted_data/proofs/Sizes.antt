-- The size of a graph with the heights of its data, class by class.
use Rattle.std.proofs.Common.{◌≡◌, ◌<◌, ◌+◌, ℕ, zero, suc, List, [], ◌∷◌, length, drop, Bool, cond, Some, refl, arith}
use Rattle.std.specs.Prelude.{slice_get}
use Rattle.slotted_model.specs.Find.{Entry, entry_at}
use Rattle.slotted_model.specs.Rest.{entry_size, size_from}
use Rattle.slotted_model_analyses.specs.Analysis.{Analysis}
use Rattle.slotted_data.specs.Counted.{heights_of}

pub size-next : (i j : ℕ) (es : List Entry) → j < length es → size_from i (drop j es) ≡ entry_size i (entry_at es j) + size_from (suc i) (drop (suc j) es)
size-next i j [] within = absurd (omega arith)
size-next i zero (e ∷ es) within = refl
size-next i (suc j) (e ∷ es) within = size-next i j es (omega arith)

pub heights-next : {D : Type 0} (lives : ℕ → Bool) (a : Analysis D) (i j : ℕ) (xs : List D) → j < length xs →
    (x : D) × (slice_get xs j ≡ Some x) × (heights_of lives a i (drop j xs) ≡ cond (lives i) (a.height x) 0 + heights_of lives a (suc i) (drop (suc j) xs))
heights-next lives a i j [] within = absurd (omega arith)
heights-next lives a i zero (x ∷ xs) within = (x, refl, refl)
heights-next lives a i (suc j) (x ∷ xs) within = heights-next lives a i j xs (omega arith)
