-- An edit over slots that a table knows is valid over the table, which knows each numeric slot.
use Rattle.std.proofs.Common.{ℕ, List, subst, sym, inl, inr}
use Rattle.std.proofs.lemmas.List.Elements.{All-contains}
use Rattle.std.specs.Prelude.{IsTrue}
use Rattle.slotted_slots.specs.Table.{Table, is_known, AllKnown}
use Rattle.slotted_slots.proofs.TableLaws.{is_known-numeric_slot}
use Rattle.slotted_theory.specs.Term.{Args, Term, done, name, child, bind}
use Rattle.slotted_terms.specs.Valid.{HasKnownNames, IsValidTerm}
use Rattle.slotted_data.specs.declared.edit.Edit.{Edit}
use Rattle.slotted_data.specs.declared.edit.Edit.TheVariants.{Add, Equal, Equate}
use Rattle.slotted_data.specs.Edits.{EachName, IsNumericOrAmong, IsOver, IsTermOver, IsValidEdit}

module _ (t : Table) (xs : List ℕ) (known : AllKnown t xs) where
  name-known : (x : ℕ) → IsNumericOrAmong xs x → IsTrue (is_known t x)
  name-known x (inl n) = subst (λ y. IsTrue (is_known t y)) (sym n.1) (is_known-numeric_slot t n.0)
  name-known x (inr c) = All-contains (λ y. IsTrue (is_known t y)) xs x known c

  names-known : (a : Args) → EachName (IsNumericOrAmong xs) a → HasKnownNames t a
  names-known done h = tt
  names-known (name x rest) h = (name-known x h.0, names-known rest h.1)
  names-known (child op payloads args rest) h = (names-known args h.0, names-known rest h.1)
  names-known (bind x inner rest) h = (name-known x h.0, names-known inner h.1, names-known rest h.2)

  pub over-valid : (u : Term) → IsTermOver xs u → IsValidTerm t u
  over-valid u over = record { whole = over.whole; known = names-known u.args over.names }

  pub edit-valid : {L : Type 0} (e : Edit L) → IsOver xs e → IsValidEdit t e
  edit-valid (Add u) over = over-valid u over
  edit-valid (Equal u) over = over-valid u over
  edit-valid (Equate u v) over = (over-valid u over.0, over-valid v over.1)
