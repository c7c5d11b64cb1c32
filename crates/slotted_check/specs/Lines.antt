-- Lines of a proof whose sides are equal by some pairs of terms.
--     IsTermRow ps          the row is that of a term without payloads
--     AreEqualRows E l r    the rows are those of two such terms, which are equal by E
--     EachLine E lines      this holds of both sides of each line
--     IsConsequence given lines e      if this holds of the given equations and of the lines, then it holds of e
--     AreConsequences given lines      if it holds of the given equations, then it holds of each line
--     IsProvedClaim given e            if it holds of the given equations, then it holds of e
use Rattle.std.specs.Prelude.{◌≡◌, List, Contains}
use Rattle.slotted_theory.specs.Nameless.{DTerm}
use Rattle.slotted_check.specs.declared.pieces.Piece.{Piece}
use Rattle.slotted_check.specs.declared.steps.Equation.{Equation}
use Rattle.slotted_check.specs.Rows.{row, IsPlain}
use Rattle.slotted_check.specs.Following.{RowsFollow}

pub record IsTermRow (ps : List Piece) : Type 0 where
  pub term : DTerm
  pub plain : IsPlain term
  pub is : ps ≡ row term

abbrev pub AreEqualRows : List (DTerm × DTerm) → List Piece → List Piece → Type 0
AreEqualRows E l r = RowsFollow (λ p. Contains E p) l r

abbrev pub EachLine : List (DTerm × DTerm) → List Equation → Type 0
EachLine E lines = (e : Equation) → Contains lines e → AreEqualRows E e.left.items e.right.items

abbrev pub IsConsequence : List Equation → List Equation → Equation → Type 0
IsConsequence given lines e = (E : List (DTerm × DTerm)) → EachLine E given → EachLine E lines → AreEqualRows E e.left.items e.right.items

abbrev pub AreConsequences : List Equation → List Equation → Type 0
AreConsequences given lines = (E : List (DTerm × DTerm)) → EachLine E given → EachLine E lines

abbrev pub IsProvedClaim : List Equation → Equation → Type 0
IsProvedClaim given e = (E : List (DTerm × DTerm)) → EachLine E given → AreEqualRows E e.left.items e.right.items
