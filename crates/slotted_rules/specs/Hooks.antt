-- Why hooks end runs.
--     StopsRun leaves refuses s    a stop leaves what it may for its reason, and a refusal is one of those it may answer, or a shortage
--     LeavesRefused P s            a refusal that is no shortage leaves what P says
--     IsHookRefusal P s            a refusal of which P holds
use Rattle.std.specs.Prelude.{◌⊎◌, Option, Some}
use Rattle.slotted_slots.specs.declared.error.Error.{Error}
use Rattle.slotted_slots.specs.Error.{IsShortage}
use Rattle.slotted_rules.specs.declared.hook.HookStop.{HookStop}
use Rattle.slotted_rules.specs.declared.hook.HookStop.TheVariants.{Stop, Refused}

abbrev pub StopsRun : {T : Type 0} → (Option T → Type 0) → (Error → Type 0) → HookStop T → Type 0
StopsRun leaves refuses (Stop t) = leaves (Some t)
StopsRun leaves refuses (Refused e) = IsShortage e ⊎ refuses e

abbrev pub IsHookRefusal : {T : Type 0} → (Error → Type 0) → HookStop T → Type 0
IsHookRefusal P (Stop t) = ⊥
IsHookRefusal P (Refused e) = P e

abbrev pub LeavesRefused : {T : Type 0} → (Error → Type 0) → HookStop T → Type 0
LeavesRefused P (Stop t) = Unit {0}
LeavesRefused P (Refused e) = IsShortage e ⊎ P e
