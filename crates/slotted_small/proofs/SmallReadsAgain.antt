-- Each node of Small is written as one word, and after it its slots and children in the order of its places.
use Rattle.std.proofs.Common.{◌∷◌, ◌++◌, refl, ap, append-nil}
use Rattle.slotted_slots.specs.Maps.{values}
use Rattle.slotted_small.specs.Small.{small_form, small_shown}
use Rattle.slotted_small.specs.declared.small.Small.{Small}
use Rattle.slotted_small.specs.declared.small.Small.TheVariants.{Lam, App, Var, F, G, Add, Mul, Number, Word}
use Rattle.slotted_patterns.specs.ReadAgain.{IsWordAndPlaces}

pub small_plain : (a : Small) → IsWordAndPlaces (small_form a) (small_shown a)
small_plain (Lam b) = record { word = tt; slots = ap (λ xs. b.slot ∷ xs) (append-nil (values b.elem.m)); children = refl }
small_plain (App a b) = record { word = tt; slots = ap (λ xs. values a.m ++ xs) (append-nil (values b.m)); children = refl }
small_plain (Var x) = record { word = tt; slots = refl; children = refl }
small_plain (F x y) = record { word = tt; slots = refl; children = refl }
small_plain (G x) = record { word = tt; slots = refl; children = refl }
small_plain (Add a b) = record { word = tt; slots = ap (λ xs. values a.m ++ xs) (append-nil (values b.m)); children = refl }
small_plain (Mul a b) = record { word = tt; slots = ap (λ xs. values a.m ++ xs) (append-nil (values b.m)); children = refl }
small_plain (Number n) = record { word = tt; slots = refl; children = refl }
small_plain (Word w) = record { word = tt; slots = refl; children = refl }
