-- What a checked claim says of terms with names.
--     IsRowsOf p e         the sides of the equation e are the rows of the pair p of terms, which have no payloads
--     IsOneOf E e          e is that of one of the pairs E
--     IsDerived given e    if each given equation is one of some pairs, then terms of which e is the equation are derivable from these
use Rattle.std.specs.Prelude.{◌≡◌, List, Contains}
use Rattle.slotted_theory.specs.Term.{Term}
use Rattle.slotted_theory.specs.Nameless.{nameless}
use Rattle.slotted_theory.specs.Derives.{Derives}
use Rattle.slotted_check.specs.declared.steps.Equation.{Equation}
use Rattle.slotted_check.specs.Rows.{row, IsPlain}

pub record IsRowsOf (p : Term × Term) (e : Equation) : Type 0 where
  pub left : e.left.items ≡ row (nameless p.0)
  pub right : e.right.items ≡ row (nameless p.1)
  pub left_plain : IsPlain (nameless p.0)
  pub right_plain : IsPlain (nameless p.1)

pub record IsOneOf (E : List (Term × Term)) (e : Equation) : Type 0 where
  pub pair : Term × Term
  pub among : Contains E pair
  pub rows : IsRowsOf pair e

abbrev pub IsDerived : List Equation → Equation → Type 0
IsDerived given e = (E : List (Term × Term)) → ((g : Equation) → Contains given g → IsOneOf E g) → (t u : Term) → IsRowsOf (t, u) e → Derives E t u
