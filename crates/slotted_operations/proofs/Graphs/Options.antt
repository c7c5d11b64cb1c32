-- An option that is not something is nothing.
use Rattle.std.proofs.Common.{◌≡◌, None, Option, Some, refl}
use Rattle.std.specs.Prelude.{IsSome}

pub none-where : {X : Type 0} (o : Option X) → ¬ IsSome o → o ≡ None
none-where None h = refl
none-where (Some x) h = absurd (h refl)
