-- The last turn that is stored.
use Rattle.std.proofs.Common.{◌≡◌, suc, ◌-◌, List, [], ◌∷◌, length, map, Some, ap, sym, subst, arith}
use Rattle.std.specs.Prelude.{slice_get}
use Rattle.slotted_lists.proofs.Options.{Some-same}
use Rattle.slotted_model.proofs.Data.Options.{None-Some}
use Rattle.slotted_model_rules.specs.Runners.{last_finish}
use Rattle.slotted_rules.specs.declared.iteration.Iteration as stored
use Rattle.slotted_rules.specs.Seen.{iteration_of}

pub last-of : {D : Type 0} → (xs : List (stored.Iteration D)) (x : stored.Iteration D) → slice_get xs (length xs - 1) ≡ Some x → x.finish_time ≡ last_finish (map iteration_of xs)
last-of {D} [] x is = absurd (None-Some x is)
last-of {D} (y ∷ []) x is =
    let e : 1 - 1 ≡ 0 = omega arith in
    ap (λ (z : stored.Iteration D). z.finish_time) (sym (Some-same y x (subst (λ n. slice_get (y ∷ []) n ≡ Some x) e is)))
last-of {D} (y ∷ z ∷ more) x is =
    let e : suc (suc (length more)) - 1 ≡ suc (length more) = omega arith in
    let f : suc (length more) - 1 ≡ length more = omega arith in
    last-of (z ∷ more) x (subst (λ n. slice_get (z ∷ more) n ≡ Some x) (sym f) (subst (λ n. slice_get (y ∷ z ∷ more) n ≡ Some x) e is))
