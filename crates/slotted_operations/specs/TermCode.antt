-- How nameless terms are told apart, for a struct whose value holds them.
use Rattle.std.specs.Prelude.{◌≡◌, ℕ, List, refl}
use Rattle.std.specs.Coded.{Coded, code_by, coded×, coded_ℕ, coded_list}
use Rattle.std.proofs.Common.{ap}
use Rattle.slotted_theory.specs.Term.{Args, done, name, child, bind, args_code}
use Rattle.slotted_theory.specs.Nameless.{DArgs, DTerm, stop, place, sub, scope}

-- nameless arguments as named ones, whose binders all have the name 0, and back
abbrev pub stored : DArgs → Args
stored stop = done
stored (place x rest) = name x (stored rest)
stored (sub op payloads args rest) = child op payloads (stored args) (stored rest)
stored (scope inner rest) = bind 0 (stored inner) (stored rest)

abbrev pub restored : Args → DArgs
restored done = stop
restored (name x rest) = place x (restored rest)
restored (child op payloads args rest) = sub op payloads (restored args) (restored rest)
restored (bind x inner rest) = scope (restored inner) (restored rest)

pub restored-stored : (d : DArgs) → restored (stored d) ≡ d
restored-stored stop = refl
restored-stored (place x rest) = ap (place x) (restored-stored rest)
restored-stored (sub op payloads args rest) = λ i. sub op payloads (restored-stored args i) (restored-stored rest i)
restored-stored (scope inner rest) = λ i. scope (restored-stored inner i) (restored-stored rest i)

abbrev pub nameless_args_code : Coded DArgs
nameless_args_code = code_by Args args_code stored restored restored-stored

abbrev pub nameless_code : Coded DTerm
nameless_code =
    code_by (ℕ × (List (List ℕ) × DArgs)) (coded× coded_ℕ (coded× (coded_list (coded_list coded_ℕ)) nameless_args_code)) (λ t. (t.op, (t.payloads, t.args))) (λ p. record { op = p.0; payloads = p.1.0; args = p.1.1 }) (λ _. refl)
