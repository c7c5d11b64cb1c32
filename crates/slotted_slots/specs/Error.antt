-- What a refusal is: its number, its name, and the shortages.
use Rattle.std.specs.Prelude.{◌≡◌, ◌⊎◌, ℕ, List, codes}
use Rattle.slotted_slots.specs.declared.error.Error.{Error}
use Rattle.slotted_slots.specs.declared.error.Error.TheVariants.{OutOfMemory, OutOfSlots, Failed, Parse, NotATerm, SubstInSearch, MissingVariable, NotEqual, BadStep, UnknownClass, NumberTooLarge}

-- the number of a case
abbrev pub number_of : Error → ℕ
number_of OutOfMemory = 1
number_of OutOfSlots = 2
number_of Failed = 3
number_of (Parse _) = 4
number_of NotATerm = 5
number_of SubstInSearch = 6
number_of (MissingVariable _) = 7
number_of NotEqual = 8
number_of BadStep = 9
number_of UnknownClass = 10
number_of NumberTooLarge = 11

-- the bytes of a case's name
abbrev pub name_of : Error → List ℕ
name_of OutOfMemory = codes "OutOfMemory"
name_of OutOfSlots = codes "OutOfSlots"
name_of Failed = codes "Failed"
name_of (Parse _) = codes "Parse"
name_of NotATerm = codes "NotATerm"
name_of SubstInSearch = codes "SubstInSearch"
name_of (MissingVariable _) = codes "MissingVariable"
name_of NotEqual = codes "NotEqual"
name_of BadStep = codes "BadStep"
name_of UnknownClass = codes "UnknownClass"
name_of NumberTooLarge = codes "NumberTooLarge"

-- a growth was refused
abbrev pub IsOutOfMemory : Error → Type 0
IsOutOfMemory e = e ≡ OutOfMemory

-- a growth was refused, or slots or places for names ran out
abbrev pub IsShortage : Error → Type 0
IsShortage e = (e ≡ OutOfMemory) ⊎ (e ≡ OutOfSlots)
