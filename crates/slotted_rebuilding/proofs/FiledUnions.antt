-- The steps of a union, after each of which the rows over the class that changed wait.
use Rattle.std.proofs.Common.{ℕ, [], sym, subst}
use Rattle.std.specs.Prelude.{Result, Ok, Err, OnOk}
use Rattle.slotted_slots.specs.declared.error.Error.{Error}
use Rattle.slotted_model.specs.Changes.{Unites}
use Rattle.slotted_model.specs.State.{HasTouched}
use Rattle.slotted_classes.specs.Kept.{Kept}
use Rattle.slotted_hashcons.specs.FiledRows.{Rows, WaitsOn, rows_in, rows_state}
use Rattle.slotted_rebuilding.specs.declared.unions.uniting.UnionStep.TheVariants.{Done, Dropped, Linked}
use Rattle.slotted_rebuilding.specs.Uniting.{StepsBy}
use Rattle.slotted_rebuilding.proofs.ChangedEntries.{untouched}
use Rattle.slotted_rebuilding.proofs.UniteSteps.{lost-unites}
use Rattle.slotted_hashcons.specs.WellFiled.{state_in}
use Rattle.slotted_rebuilding.specs.Filed.{UnitesFiled}
use Rattle.slotted_rebuilding.proofs.FiledStates.{same-rows, touched-in, waits-nothing, waits-then}

-- nothing is left to do
pub done-filed : (p : ℕ) (k l : Kept) (r : Rows) → StepsBy p k l Done → UnitesFiled p k r l r
done-filed p k l r s = record {
  unites = s.did (rows_in r.filed) r.waiting;
  by = record { unites = s.did [] []; stored = s.stored; grows = s.grows };
  waits = waits-nothing r;
}

-- a class died
pub linked-filed : (p : ℕ) (k l : Kept) (r q : Rows) (c : ℕ) → StepsBy p k l (Linked c) → HasTouched (rows_state r) c q.waiting → WaitsOn r q → UnitesFiled p k r l q
linked-filed p k l r q c s t w = record {
  unites = subst (Unites p (state_in k r)) (sym (same-rows l r q w)) (s.did.unites (rows_in r.filed) r.waiting q.waiting (touched-in k r c q.waiting t));
  by = record { unites = s.did.unites [] [] [] (untouched k c); stored = s.stored; grows = s.grows };
  waits = w;
}

pub touched-filed : (p : ℕ) (k l : Kept) (r q : Rows) (c : ℕ) → StepsBy p k l (Linked c) → {T : Type 0} (x : Result T Error) → OnOk x (HasTouched (rows_state r) c q.waiting) → OnOk x (WaitsOn r q) → OnOk x (UnitesFiled p k r l q)
touched-filed p k l r q c s (Ok v) touched waits = linked-filed p k l r q c s touched waits
touched-filed p k l r q c s (Err e) touched waits = tt

-- a class lost slots, and the union went on
pub dropped-filed : (p : ℕ) (k l : Kept) (r q : Rows) (c : ℕ) → StepsBy p k l (Dropped c) → HasTouched (rows_state r) c q.waiting → WaitsOn r q →
    (n : Kept) (s : Rows) → UnitesFiled p l q n s → UnitesFiled p k r n s
dropped-filed p k l r q c d t w n s u = record {
  unites = d.did.goes_on (rows_in r.filed) r.waiting q.waiting (state_in n s) (touched-in k r c q.waiting t) (subst (λ g. Unites p g (state_in n s)) (same-rows l r q w) u.unites);
  by = lost-unites k l p c d n u.by;
  waits = waits-then r q s w u.waits;
}
