-- One line more.
use Rattle.std.proofs.Common.{◌≡◌, ◌<◌, ◌+◌, ℕ, List, [], ◌∷◌, ◌++◌, length, sym, ◌∙◌, ap, subst, inl, inr}
use Rattle.std.specs.Prelude.{Some, slice_get, take}
use Rattle.std.proofs.lemmas.List.{take_more}
use Rattle.std.proofs.lemmas.List.Elements.{Contains-append_cases}
use Rattle.std.proofs.lemmas.Option.{get_or_from_slice_get}
use Rattle.slotted_lists.proofs.Contained.{contains_cases, Contains-nil}
use Rattle.slotted_theory.specs.Nameless.{DTerm}
use Rattle.slotted_check.specs.declared.steps.Equation.{Equation}
use Rattle.slotted_check.specs.Lines.{AreEqualRows, EachLine}

each-more : (E : List (DTerm × DTerm)) (before : List Equation) (e : Equation) → EachLine E before → AreEqualRows E e.left.items e.right.items → EachLine E (before ++ e ∷ [])
each-more E before e h s d c = elim (Contains-append_cases before (e ∷ []) d c) [
  | inl a ↦ h d a
  | inr b ↦ elim (contains_cases e [] d b) [
    | inl p ↦ subst (λ (x : Equation). AreEqualRows E x.left.items x.right.items) (sym p) s
    | inr n ↦ absurd (Contains-nil d n)
  ]
]

pub line-more : (E : List (DTerm × DTerm)) (lines : List Equation) (n : ℕ) (e : Equation) → n < length lines → slice_get lines n ≡ Some e →
    EachLine E (take n lines) → AreEqualRows E e.left.items e.right.items → EachLine E (take (n + 1) lines)
line-more E lines n e lt g h s =
    let p : take (n + 1) lines ≡ take n lines ++ e ∷ [] = take_more lines n e lt ∙ ap (λ (x : Equation). take n lines ++ x ∷ []) (get_or_from_slice_get lines n e e g) in
    subst (EachLine E) (sym p) (each-more E (take n lines) e h s)
