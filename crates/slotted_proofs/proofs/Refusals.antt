-- Why a step or an entry is refused: one reason is not the other.
use Rattle.std.proofs.Common.{◌≡◌, ◌<◌, ◌≤◌, ℕ, Bool, false, length, inl, inr, sym, ap, ◌∙◌, ◌+◌, arith}
use Rattle.std.specs.Prelude.{Result, Ok, Err, IfErr, IsErrOf, IsTrue}
use Rattle.std.proofs.lemmas.Bool.{cases_lt, false≢true}
use Rattle.std.proofs.lemmas.Result.{IfErr-weaker}
use Rattle.slotted_lists.proofs.Maps.{length-keys}
use Rattle.slotted_slots.specs.declared.error.Error.{Error}
use Rattle.slotted_slots.specs.declared.error.Error.TheVariants.{BadStep, OutOfSlots}
use Rattle.slotted_slots.specs.Error.{IsOutOfMemory, IsShortage}
use Rattle.slotted_model.specs.Applied.{Applied}
use Rattle.slotted_proofs.specs.Equations.{Statement, AreSides}
use Rattle.slotted_proofs.specs.Steps.{IsRefusal}

-- who lacks something has a step that fits
pub fits_short : {A : Type 0} (r : Result A Error) → IfErr r IsShortage → ¬ IsErrOf r BadStep
fits_short (Ok x) h e = absurd (cc)
fits_short (Err x) (inl m) e = absurd (cc)
fits_short (Err x) (inr s) e = absurd (cc)

-- who lacks memory has slots
pub slots_left : {A : Type 0} (r : Result A Error) → IfErr r IsOutOfMemory → ¬ IsErrOf r OutOfSlots
slots_left (Ok x) h e = absurd (cc)
slots_left (Err x) m e = absurd (cc)

pub short_refuses : {A : Type 0} (r : Result A Error) → IfErr r IsShortage → IfErr r IsRefusal
short_refuses r h = IfErr-weaker r IsShortage IsRefusal (λ _ s. inr s) h

pub memory_short : {A : Type 0} (r : Result A Error) → IfErr r IsOutOfMemory → IfErr r IsShortage
memory_short r h = IfErr-weaker r IsOutOfMemory IsShortage (λ _ m. inl m) h

-- what is answered is no error
pub no_error : {A : Type 0} (x : A) (e : Error) → ¬ IsErrOf (Ok x) e
no_error x e h = absurd (cc)

-- who has a step that does not fit has slots
pub misfit_has_slots : {A : Type 0} → ¬ IsErrOf {T = A} (Err BadStep) OutOfSlots
misfit_has_slots h = absurd (cc)

-- what is fewer is not as many
pub few_many : (n m : ℕ) → n < m → ¬ (m ≤ n)
few_many n m l k = omega arith

-- as many names the other way round
pub other_way : (k n m : ℕ) → k ≤ n + m → k ≤ m + n
other_way k n m h = omega arith

-- and counted otherwise
pub counted : (k i j n m : ℕ) → i ≡ n → j ≡ m → k ≤ i + j → k ≤ n + m
counted k i j n m e f h = omega arith

-- the error that a `?` lets through
pub same_err : {A B : Type 0} (x y : Error) → IsErrOf {T = A} (Err x) y → IsErrOf {T = B} (Err x) y
same_err x y e = let s : x ≡ y = cc in ap Err s

-- what a test for fewer refuses is as many
pub too_many : (b : Bool) (n m : ℕ) → (n < m → IsTrue b) → b ≡ false → m ≤ n
too_many b n m few e = elim (cases_lt n m) [
  | inl l ↦ absurd (false≢true (sym e ∙ few l))
  | inr l ↦ l
]

-- a written side has as many names as its class has slots
pub left_long : (s : Statement) (a b : Applied) → AreSides s a b → length s.left_slots ≡ length a.1
left_long s a b w = ap length (sym w.left_full.slots) ∙ length-keys a.1

pub right_long : (s : Statement) (a b : Applied) → AreSides s a b → length s.right_slots ≡ length b.1
right_long s a b w = ap length (sym w.right_full.slots) ∙ length-keys b.1
