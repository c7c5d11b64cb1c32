-- Where there is no index, none has to fit.
use Rattle.std.proofs.Common.{◌≡◌, subst, sym}
use Rattle.std.specs.Prelude.{Option, None, IfSome}

pub no-index : {A : Type 0} (P : A → Type 0) (o : Option A) → o ≡ None → IfSome o P
no-index P o e = subst (λ x. IfSome x P) (sym e) tt
