-- What edits are over: terms in which no child is missing, with numeric slots and those of the class.
--     EachName P a     P holds of each name in the arguments, those of binders too
--     IsTermOver xs t  a term with the right number of children at each node, whose names are numeric or among xs
--     IsOver xs e      so is each term of the edit
--     IsValidEdit t e  each term of the edit is valid over the table
--     AsksNothing ask  nothing may be asked
use Rattle.std.specs.Prelude.{◌≡◌, ◌⊎◌, ℕ, List, Contains}
use Rattle.slotted_slots.specs.Table.{Table, numeric_slot}
use Rattle.slotted_theory.specs.Term.{Args, done, name, child, bind, Term}
use Rattle.slotted_terms.specs.Valid.{IsValidTerm, IsWhole}
use Rattle.slotted_data.specs.declared.edit.Edit.{Edit}
use Rattle.slotted_data.specs.declared.edit.Edit.TheVariants.{Add, Equal, Equate}

-- P holds of each name, those of binders too
abbrev pub EachName : (ℕ → Type 0) → Args → Type 0
EachName P done = Unit {0}
EachName P (name x rest) = P x × EachName P rest
EachName P (child op payloads args rest) = EachName P args × EachName P rest
EachName P (bind x inner rest) = P x × EachName P inner × EachName P rest

-- the slot is numeric, or one of these
abbrev pub IsNumericOrAmong : List ℕ → ℕ → Type 0
IsNumericOrAmong xs x = ((n : ℕ) × (x ≡ numeric_slot n)) ⊎ Contains xs x

pub record IsTermOver (xs : List ℕ) (t : Term) : Type 0 where
  pub whole : IsWhole t.args
  pub names : EachName (IsNumericOrAmong xs) t.args

abbrev pub IsOver : {L : Type 0} → List ℕ → Edit L → Type 0
IsOver xs (Add t) = IsTermOver xs t
IsOver xs (Equal t) = IsTermOver xs t
IsOver xs (Equate t u) = IsTermOver xs t × IsTermOver xs u

-- the table knows each name of the edit's terms, in which no child is missing
abbrev pub IsValidEdit : {L : Type 0} → Table → Edit L → Type 0
IsValidEdit t (Add u) = IsValidTerm t u
IsValidEdit t (Equal u) = IsValidTerm t u
IsValidEdit t (Equate u v) = IsValidTerm t u × IsValidTerm t v

-- nothing may be asked
abbrev pub AsksNothing : {L D : Type 0} → (D → List ℕ → Edit L → Type 0) → Type 0
AsksNothing {L} {D} ask = (x : D) (slots : List ℕ) (e : Edit L) → ¬ ask x slots e
