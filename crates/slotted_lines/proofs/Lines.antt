-- How a line of a session is read.
use Rattle.std.proofs.Common.{◌≡◌, ◌<◌, ℕ, List, [], ◌∷◌, length, Bool, true, false, refl, ap, sym, ◌∙◌}
use Rattle.std.specs.Prelude.{◌&&◌, Some, None, Ok, Err, if◌then◌else◌, codes, nat_lt}
use Rattle.std.specs.Char.{is_digit, digit_value}
use Rattle.std.specs.List.{list_all}
use Rattle.std.specs.Str.Parse.{AllDigits, IsNumeral, ParsesUnsigned, digits_value, without_leading_plus}
use Rattle.std.proofs.lemmas.Bool.{and_from, and_parts, lt-ltb, ltb-true}
use Rattle.slotted_commands.specs.Commands.{command_of, parts_around, rest_behind}
use Rattle.slotted_lines.specs.Requests.{is_numeral, number_of, number_of_digits, plain, rule_of, rule_of_parts, rule_or_run, run_by, run_of, session_command_of}

pub line_is : (line : List ℕ) → rule_or_run (rest_behind (codes "rule ") line) (rest_behind (codes "run ") line) (plain (command_of line)) ≡ session_command_of line
unfolding session_command_of
line_is line = refl

pub rule_is : (bs : List ℕ) → rule_of_parts (parts_around (codes ": ") bs) ≡ rule_of bs
unfolding rule_of
rule_is bs = refl

pub run_is : (bs : List ℕ) → run_by (number_of bs) ≡ run_of bs
unfolding run_of
run_is bs = refl

digits-pass : (ds : List ℕ) → AllDigits 10 ds → list_all (λ c. is_digit c 10) ds ≡ true
digits-pass [] h = refl
digits-pass (c ∷ cs) h = and_from (is_digit c 10) (list_all (λ c. is_digit c 10) cs) (lt-ltb (digit_value c) 10 h.0) (digits-pass cs h.1)

pass-digits : (ds : List ℕ) → list_all (λ c. is_digit c 10) ds ≡ true → AllDigits 10 ds
pass-digits [] h = tt
pass-digits (c ∷ cs) h =
    let parts = and_parts (is_digit c 10) (list_all (λ c. is_digit c 10) cs) h in
    (ltb-true (digit_value c) 10 parts.0, pass-digits cs parts.1)

numeral-found : (ds : List ℕ) → IsNumeral 10 ds → digits_value 10 ds < 4294967296 → number_of_digits ds ≡ Some (digits_value 10 ds)
numeral-found ds n small =
    let numeral : is_numeral ds ≡ true = and_from (nat_lt 0 (length ds)) (list_all (λ c. is_digit c 10) ds) (lt-ltb 0 (length ds) n.0) (digits-pass ds n.1) in
    let both = and_from (is_numeral ds) (nat_lt (digits_value 10 ds) 4294967296) numeral (lt-ltb (digits_value 10 ds) 4294967296 small) in
    ap (λ b. if b then Some (digits_value 10 ds) else None) both

numeral-none : (ds : List ℕ) → ¬ (IsNumeral 10 ds × (digits_value 10 ds < 4294967296)) → number_of_digits ds ≡ None
numeral-none ds h = by (is_numeral ds && nat_lt (digits_value 10 ds) 4294967296) refl
  where
    by : (b : Bool) → (is_numeral ds && nat_lt (digits_value 10 ds) 4294967296) ≡ b → number_of_digits ds ≡ None
    by false e = ap (λ b. if b then Some (digits_value 10 ds) else None) e
    by true e =
        let parts = and_parts (is_numeral ds) (nat_lt (digits_value 10 ds) 4294967296) e in
        let numeral = and_parts (nat_lt 0 (length ds)) (list_all (λ c. is_digit c 10) ds) parts.0 in
        absurd (h ((ltb-true 0 (length ds) numeral.0, pass-digits ds numeral.1), ltb-true (digits_value 10 ds) 4294967296 parts.1))

-- what `parse` answers is the number of the text, and where it answers an error there is none

pub number-read : (E : Type 0) (bs : List ℕ) (n : ℕ) → ParsesUnsigned {E = E} 32 10 bs (Ok n) → number_of bs ≡ Some n
number-read E bs n p = numeral-found (without_leading_plus bs) p.0.0 p.0.1 ∙ ap Some (sym p.1)

pub number-not_read : {E : Type 0} (bs : List ℕ) (e : E) → ParsesUnsigned 32 10 bs (Err e) → number_of bs ≡ None
number-not_read bs e p = numeral-none (without_leading_plus bs) p
