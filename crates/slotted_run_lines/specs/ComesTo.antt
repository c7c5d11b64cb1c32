-- Whether what is known of a class is a number.
--     comes_to n x     what is known is that the class comes to n
use Rattle.std.specs.Prelude.{ℕ, Bool, false, nat_eq}
use Rattle.slotted_const_fold.specs.declared.const_fold.Fold.{Fold}
use Rattle.slotted_const_fold.specs.declared.const_fold.Fold.TheVariants.{None, Number, Conflict}

abbrev pub comes_to : ℕ → Fold → Bool
comes_to n None = false
comes_to n (Number m) = nat_eq m n
comes_to n Conflict = false
