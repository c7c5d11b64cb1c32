-- Trees: the terms of a language, which hold no applied ids.
use Rattle.std.specs.Prelude.{◌<◌}
use Rattle.slotted_theory.specs.Nameless.{DArgs, DTerm, stop, place, sub, scope}

-- no child is an applied id, at any depth
abbrev pub HasNoIds : DArgs → Type 0
HasNoIds stop = Unit {0}
HasNoIds (place x rest) = HasNoIds rest
HasNoIds (sub op payloads args rest) = (0 < op) × HasNoIds args × HasNoIds rest
HasNoIds (scope inner rest) = HasNoIds inner × HasNoIds rest

-- an operator of the language over such arguments
pub record IsTree (t : DTerm) : Type 0 where
  pub operator : 0 < t.op
  pub children : HasNoIds t.args
