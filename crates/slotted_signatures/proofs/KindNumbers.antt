-- The kinds of arguments.
use Rattle.std.proofs.Common.{◌≡◌, List, [], ◌∷◌, map, refl, ap}
use Rattle.std.specs.Prelude.{Decides}
use Rattle.std.proofs.lemmas.Bool.{false≢true}
use Rattle.slotted_symbols.specs.Arguments.{elements, kinds}
use Rattle.slotted_symbols.specs.declared.argument.Argument.{Argument}
use Rattle.slotted_symbols.specs.declared.argument.Argument.TheVariants.{Slot, Child}
use Rattle.slotted_signatures.specs.Kinds.{number_of}
use Rattle.slotted_signatures.specs.declared.kind.Kind.{Kind}
use Rattle.slotted_signatures.specs.declared.kind.Kind.TheVariants as kind
use Rattle.slotted_signatures.specs.contracts.kind.KindPartialEq.TheImpl.{eq-value}

pub kinds-elements : (as' : List Argument) → kinds (elements as') ≡ map number_of as'
kinds-elements [] = refl
kinds-elements (Slot x ∷ rest) = ap (λ ks. 0 ∷ ks) (kinds-elements rest)
kinds-elements (Child a ∷ rest) = ap (λ ks. 1 ∷ ks) (kinds-elements rest)

-- kinds are compared by what they are
pub kind-decided : (a b : Kind) → Decides (eq-value.it a b) (a ≡ b)
kind-decided kind.Slot kind.Slot = (λ _. refl, λ _. refl)
kind-decided kind.Slot kind.Child = (λ e. absurd (false≢true e), λ e. absurd (cc))
kind-decided kind.Child kind.Slot = (λ e. absurd (false≢true e), λ e. absurd (cc))
kind-decided kind.Child kind.Child = (λ _. refl, λ _. refl)
