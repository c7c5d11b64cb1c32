-- What Rust's readers answer is what the texts read as; and payloads are equal exactly if their forms are.
use Rattle.std.specs.Prelude.{◌≡◌, ℕ, ◌^◌, Bool, true, false, ◌&&◌, ◌≢◌, List, [], ◌∷◌, ℤ, pos, negsuc, nat_lt, nat_eq, ◌↔◌, IsTrue, Some, None, Result, Ok, Err, refl, if◌then◌else◌, bytes_eq, codes, FitsSigned, encode_utf8, encode_utf8_all}
use Rattle.std.proofs.Common.{ap, sym, ◌∙◌, inl, inr}
use Rattle.std.specs.Result.{OkIff, result_ok}
use Rattle.std.specs.Ordering.{int_eq}
use Rattle.std.proofs.Math.Bool.{beq}
use Rattle.std.specs.Cmp.{signed_Decides, booleans_Decides}
use Rattle.std.specs.Char.{IsScalar}
use Rattle.std.specs.Str.{all_ascii_digits, chars, IsUtf8}
use Rattle.std.proofs.Math.Utf8.{scalars}
use Rattle.std.proofs.lemmas.Str.{encodes-chars, scalars-chars, chars_from_encodes}
use Rattle.std.proofs.lemmas.List.{append-nil}
use Rattle.std.specs.Str.Parse.{IsNumeral, digits_value, signed_digits_value, without_leading_plus, without_leading_sign, ParsesUnsigned, ParsesSigned, ParsesBool, ParsesChar}
use Rattle.std.specs.Int.{Width, w8, w16, w32, w64, w128}
use Rattle.std.proofs.lemmas.Bool.{cases_Bool, and_parts, and_from, lt-ltb, ltb-true}
use Rattle.std.proofs.lemmas.Slice.Eq.{bytes_eq-Decides}
use Rattle.std.proofs.lemmas.Str.Parse.{IsNumeralModel, numerals_by_value, tells_all_ascii_digits}
use Rattle.slotted_nodes.specs.Equal.{cons_parts, number_told, plain_same}
use Rattle.slotted_nodes.specs.Texts.{is_numeral, reads_unsigned, fits_beside_sign, reads_signed, reads_bool, only_char, reads_char, number_form, signed_word, signed_form, bool_word, bool_form}

-- texts of decimal digits, in std's words
digits : IsNumeralModel (λ ds. all_ascii_digits ds ≡ true) (digits_value 10)
digits = numerals_by_value (λ ds. all_ascii_digits ds ≡ true) tells_all_ascii_digits

-- the test of a numeral says what std's contract of `parse` says
pub numeral_from_test : (ds : List ℕ) → is_numeral ds ≡ true → IsNumeral 10 ds
numeral_from_test ds e = let both = and_parts _ _ e in (ltb-true _ _ both.0, digits.to ds both.1)

pub test_from_numeral : (ds : List ℕ) → IsNumeral 10 ds → is_numeral ds ≡ true
test_from_numeral ds n = and_from _ _ (lt-ltb _ _ n.0) (digits.from ds n.1)

-- an answer under a condition that a test decides
answer_by_test : {A E P : Type 0} (t : Bool) (v : A) (r : Result A E) → (t ≡ true → P) → (P → t ≡ true) → OkIff r P v →
    result_ok r ≡ (if t then Some v else None)
answer_by_test true v (Ok x) to from h = ap Some h.1
answer_by_test true v (Err e) to from h = absurd (h (to refl))
answer_by_test false v (Ok x) to from h = absurd (let e = from h.0 in cc)
answer_by_test false v (Err e) to from h = refl

-- at an unsigned type of k bits
pub unsigned_parses : {E : Type 0} (k : ℕ) (bs : List ℕ) (r : Result ℕ E) → ParsesUnsigned k 10 bs r → result_ok r ≡ reads_unsigned k bs
unfolding reads_unsigned
unsigned_parses k bs r h =
    let ds = without_leading_plus bs in
    answer_by_test (is_numeral ds && nat_lt (digits_value 10 ds) (2 ^ k)) (digits_value 10 ds) r
    (λ e. let both = and_parts _ _ e in (numeral_from_test ds both.0, ltb-true _ _ both.1))
    (λ p. and_from _ _ (test_from_numeral ds p.0) (lt-ltb _ _ p.1))
    h

-- the bits beside the sign
abbrev pub bits_beside_sign : Width → ℕ
bits_beside_sign w8 = 7
bits_beside_sign w16 = 15
bits_beside_sign w32 = 31
bits_beside_sign w64 = 63
bits_beside_sign w128 = 127

-- the test of the range says what std's contract says
fits_from_test : (w : Width) (z : ℤ) → fits_beside_sign (bits_beside_sign w) z ≡ true → FitsSigned w z
fits_from_test w8 (pos n) e = record { sfits = ltb-true _ _ e }
fits_from_test w8 (negsuc n) e = record { sfits = ltb-true _ _ e }
fits_from_test w16 (pos n) e = record { sfits = ltb-true _ _ e }
fits_from_test w16 (negsuc n) e = record { sfits = ltb-true _ _ e }
fits_from_test w32 (pos n) e = record { sfits = ltb-true _ _ e }
fits_from_test w32 (negsuc n) e = record { sfits = ltb-true _ _ e }
fits_from_test w64 (pos n) e = record { sfits = ltb-true _ _ e }
fits_from_test w64 (negsuc n) e = record { sfits = ltb-true _ _ e }
fits_from_test w128 (pos n) e = record { sfits = ltb-true _ _ e }
fits_from_test w128 (negsuc n) e = record { sfits = ltb-true _ _ e }

test_from_fits : (w : Width) (z : ℤ) → FitsSigned w z → fits_beside_sign (bits_beside_sign w) z ≡ true
test_from_fits w8 (pos n) h = lt-ltb _ _ h.sfits
test_from_fits w8 (negsuc n) h = lt-ltb _ _ h.sfits
test_from_fits w16 (pos n) h = lt-ltb _ _ h.sfits
test_from_fits w16 (negsuc n) h = lt-ltb _ _ h.sfits
test_from_fits w32 (pos n) h = lt-ltb _ _ h.sfits
test_from_fits w32 (negsuc n) h = lt-ltb _ _ h.sfits
test_from_fits w64 (pos n) h = lt-ltb _ _ h.sfits
test_from_fits w64 (negsuc n) h = lt-ltb _ _ h.sfits
test_from_fits w128 (pos n) h = lt-ltb _ _ h.sfits
test_from_fits w128 (negsuc n) h = lt-ltb _ _ h.sfits

-- at a signed type
pub signed_parses : {E : Type 0} (w : Width) (bs : List ℕ) (r : Result ℤ E) → ParsesSigned w 10 bs r →
    result_ok r ≡ reads_signed (bits_beside_sign w) bs
unfolding reads_signed
signed_parses w bs r h =
    let ds = without_leading_sign bs in
    let z = signed_digits_value 10 bs in
    answer_by_test (is_numeral ds && fits_beside_sign (bits_beside_sign w) z) z r
    (λ e. let both = and_parts _ _ e in (numeral_from_test ds both.0, fits_from_test w z both.1))
    (λ p. and_from _ _ (test_from_numeral ds p.0) (test_from_fits w z p.1))
    h

-- signed numbers and truth values
pub signed_parts : (y z : ℤ) → signed_word y ≡ signed_word z → y ≡ z
signed_parts (pos m) (pos n) e = let p = cons_parts 0 0 (m ∷ []) (n ∷ []) e in let q = cons_parts m n [] [] p.1 in ap pos q.0
signed_parts (pos m) (negsuc n) e = cc
signed_parts (negsuc m) (pos n) e = cc
signed_parts (negsuc m) (negsuc n) e = cc

pub signed_same : (y z : ℤ) → IsTrue (int_eq y z) ↔ signed_form y ≡ signed_form z
signed_same y z =
    let d = signed_Decides y z in
    plain_same (int_eq y z) (signed_word y) (signed_word z) (λ h. ap signed_word (d.0 h), λ e. d.1 (signed_parts y z e))

pub number_same : (m n : ℕ) → IsTrue (nat_eq m n) ↔ number_form m ≡ number_form n
number_same m n = plain_same (nat_eq m n) (m ∷ []) (n ∷ []) (number_told m n)

pub bool_parts : (a b : Bool) → bool_word a ≡ bool_word b → a ≡ b
bool_parts true true e = refl
bool_parts true false e = cc
bool_parts false true e = cc
bool_parts false false e = refl

pub bool_same : (a b : Bool) → IsTrue (beq a b) ↔ bool_form a ≡ bool_form b
bool_same a b =
    let d = booleans_Decides a b in
    plain_same (beq a b) (bool_word a) (bool_word b) (λ h. ap bool_word (d.0 h), λ e. d.1 (bool_parts a b e))

-- the two texts of truth values
told_apart : (bs ws : List ℕ) → bs ≢ ws → bytes_eq bs ws ≡ false
told_apart bs ws h = elim (cases_Bool (bytes_eq bs ws)) [
  | inl e ↦ absurd (h ((bytes_eq-Decides bs ws).0 e))
  | inr e ↦ e
]

pub bool_parses : {E : Type 0} (bs : List ℕ) (r : Result Bool E) → ParsesBool bs r → result_ok r ≡ reads_bool bs
bool_parses bs (Ok true) h = rw h refl
bool_parses bs (Ok false) h = rw h refl
bool_parses bs (Err e) h = rw (told_apart bs (codes "true") h.0, told_apart bs (codes "false") h.1) refl

-- the only character of a text
char_of_text : (bs cs : List ℕ) → IsUtf8 bs → chars bs ≡ cs → ((c : ℕ) → IsScalar c → bs ≢ encode_utf8 c) → None ≡ only_char cs
char_of_text bs [] u e h = refl
char_of_text bs (c ∷ d ∷ cs) u e h = refl
char_of_text bs (c ∷ []) u e h =
    let spelt : encode_utf8_all (c ∷ []) ≡ bs = ap encode_utf8_all (sym e) ∙ encodes-chars bs u in
    let valid : scalars (c ∷ []) ≡ true = ap scalars (sym e) ∙ scalars-chars bs u in
    absurd (h c (and_parts _ _ valid).0 (sym spelt ∙ append-nil (encode_utf8 c)))

pub char_parses : {E : Type 0} (bs : List ℕ) (r : Result ℕ E) → IsUtf8 bs → ParsesChar bs r → result_ok r ≡ reads_char bs
char_parses bs (Ok c) u h = ap only_char (chars_from_encodes (c ∷ []) bs u (append-nil (encode_utf8 c) ∙ sym h))
char_parses bs (Err e) u h = char_of_text bs (chars bs) u refl h
