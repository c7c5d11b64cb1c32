-- What two texts leave that are read one after the other.
use Rattle.std.proofs.Common.{◌≡◌, ◌∙◌, ◌↔◌, Ok, IsErrOf, ap, sym}
use Rattle.std.specs.Prelude.{Bool, IsTrue, false, is_ok}
use Rattle.std.proofs.lemmas.Bool.{false_from_ne_true, false≢true}
use Rattle.slotted_slots.specs.declared.error.Error.{Error}
use Rattle.slotted_slots.specs.declared.error.Error.TheVariants.{Failed}
use Rattle.slotted_operations.specs.Graph.{Graph, OnlyReads}

-- what is answered over a graph says that it has not failed
pub unfailed : {A : Type 0} (x : A) (b : Bool) → (IsErrOf {T = A} {E = Error} (Ok x) Failed ↔ IsTrue b) → b ≡ false
unfailed x b h = false_from_ne_true b (λ f. false≢true (sym (ap is_ok (h.1 f))))
