-- What a call promises where it hands on a refusal, and what it knows of a node that an earlier call took.
use Rattle.std.proofs.Common.{◌≡◌, ◌∙◌, ◌↔◌, ℕ, List, length, Result, Ok, Err, IfErr, IsErrOf, ap, refl, sym, subst, inl, inr, arith, ◌≢◌, ◌⊎◌}
use Rattle.std.specs.Prelude.{Bool, true, false, ◌&&◌, IsErrAnd, is_ok, IsTrue}
use Rattle.std.proofs.lemmas.Bool.{cases_lt, false≢true}
use Rattle.std.proofs.lemmas.Result.{err_from_is_err_and}
use Rattle.slotted_slots.specs.declared.error.Error.{Error}
use Rattle.slotted_slots.specs.declared.error.Error.TheVariants.{OutOfSlots, Failed}
use Rattle.slotted_slots.specs.Error.{IsOutOfMemory, IsShortage, number_of}
use Rattle.slotted_slots.specs.Table.{Table, TakesAtMost, slot_limit}
use Rattle.slotted_nodes.specs.Form.{Form, IsSmall}
use Rattle.slotted_languages.specs.NewNames.{IsTooLarge}

-- where nothing happens no slot is made
pub takes_nothing : (n : ℕ) (xs : List ℕ) (t : Table) → TakesAtMost n xs t t
takes_nothing n xs t = omega arith

-- where both hold, the first does
pub left_of : (a b d : Bool) → a ≡ (b && d) → a ≡ true → b ≡ true
left_of a true d e p = refl
left_of a false d e p = absurd (false≢true (sym e ∙ p))

-- the error of a refusal, or x
abbrev pub error_or : {A : Type 0} → Error → Result A Error → Error
error_or x (Ok a) = x
error_or x (Err e) = e

-- a node that is not refused for its size is small
module _ {A : Type 0} (x : A) (f : Form) (full : IsErrOf {T = A} (Ok x) OutOfSlots ↔ IsTooLarge f) where
  pub not_large : {P : Type 0} → IsTooLarge f → P
  not_large large = absurd (false≢true (sym (ap is_ok (full.1 large))))

  pub small_of : IsSmall f
  small_of = elim (cases_lt (length f.names) slot_limit) [
    | inl lt ↦ lt
    | inr le ↦ not_large le
  ]

module _ {T : Type 0} (r : Result T Error) (e : Error) (handed : IsErrAnd r (λ y. y ≡ e)) where
  pub handed_on : r ≡ Err e
  handed_on = let p = err_from_is_err_and r handed in p.1 ∙ ap Err p.2

  pub handed_err : (P : Error → Type 0) → P e → IfErr r P
  handed_err P p = subst (λ s. IfErr s P) (sym handed_on) p

  pub handed_short : IsShortage e → IfErr r IsShortage
  handed_short short = subst (λ s. IfErr s IsShortage) (sym handed_on) short

  pub handed_memory : IsOutOfMemory e → IfErr r IsShortage
  handed_memory m = handed_short (inl m)

  -- what was refused for want of slots, or of memory
  pub handed_slots : {A : Type 0} → IsErrOf {T = A} (Err e) OutOfSlots → IsErrOf r OutOfSlots
  handed_slots is = handed_on ∙ ap Err (ap (error_or e) is)

  pub slots_handed : {A : Type 0} → IsErrOf r OutOfSlots → IsErrOf {T = A} (Err e) OutOfSlots
  slots_handed is = ap Err (ap (error_or e) (sym handed_on ∙ is))

  pub no_slots : IsOutOfMemory e → {P : Type 0} → IsErrOf r OutOfSlots → P
  no_slots m is =
      let same : 1 ≡ 2 = ap number_of (sym m ∙ ap (error_or e) (sym handed_on ∙ is)) in
      absurd (omega (arith, same))

-- what is answered is no refusal
pub not_refused : {A P : Type 0} {e : Error} (x : A) → IsErrOf {T = A} (Ok x) e → P
not_refused x is = absurd (false≢true (sym (ap is_ok is)))

-- what is refused for want of memory is not refused for want of slots
pub memory_only : {T P : Type 0} (r : Result T Error) → IfErr r IsOutOfMemory → IsErrOf r OutOfSlots → P
memory_only (Ok x) m is = not_refused x is
memory_only (Err e) m is =
    let same : 1 ≡ 2 = ap number_of (sym m ∙ ap (error_or e) is) in
    absurd (omega (arith, same))

-- where an answer was given the graph had not failed, and where it had not, a refusal is another one
pub answered-well : {A : Type 0} (b : Bool) (x : A) → (IsErrOf {T = A} {E = Error} (Ok x) Failed ↔ IsTrue b) → b ≡ false
answered-well true x failed = not_refused x (failed.1 refl)
answered-well false x failed = refl

pub other-refusal : {A P : Type 0} (b : Bool) (e : Error) → b ≡ false → (IsErrOf {T = A} (Err e) Failed ↔ IsTrue b) → (e ≡ Failed) ⊎ P → P
other-refusal b e well failed (inl is) = absurd (false≢true (sym well ∙ failed.0 (ap Err is)))
other-refusal b e well failed (inr p) = p

-- what may be refused of a run, and of an extraction, of a graph that has not failed
pub run-refused : {P : Type 0} (e : Error) → IsShortage e ⊎ (P ⊎ (⊥ ⊎ ⊥)) → IsShortage e ⊎ P
run-refused e (inl short) = inl short
run-refused e (inr (inl p)) = inr p
run-refused e (inr (inr (inl none))) = absurd none
run-refused e (inr (inr (inr none))) = absurd none
