-- Texts are read by their characters: the first one, white space, and runs.
use Rattle.std.proofs.Common.{◌≡◌, ℕ, suc, ◌+◌, Bool, true, false, cond, List, [], ◌∷◌, ◌++◌, length, take, drop, refl, sym, ap, ◌∙◌, arith, append_assoc, append-nil, length-append, true≢false}
use Rattle.std.specs.Prelude.{◌&&◌, encode_utf8, encode_utf8_all}
use Rattle.std.specs.List.{prefix_len}
use Rattle.std.specs.Char.{is_whitespace}
use Rattle.std.specs.Str.{chars, IsUtf8}
use Rattle.std.proofs.lemmas.Str.{chars-encodes, encodes-chars, scalars-chars, encode_same, length-encode, len_utf8_bounds, encodes-append}
use Rattle.std.proofs.Math.Utf8.{scalars}
use Rattle.slotted_patterns.specs.Tokens.{is_of_run, run, after_run, after_white_space, variable_token, slot_token, refused}
use Rattle.slotted_patterns.specs.Outcome.{outside}
use Rattle.slotted_slots.specs.Syntax.{no_token}
use Rattle.slotted_slots.specs.Table.{Table}
use Rattle.slotted_patterns.specs.LentTokens.{BeginsWithChar}

and-right : (a b : Bool) → a && b ≡ true → b ≡ true
and-right true b h = h
and-right false b h = absurd (true≢false (sym h))

pub begins_with_char : (bs rest : List ℕ) (c : ℕ) → IsUtf8 bs → bs ≡ encode_utf8 c ++ rest → BeginsWithChar bs c rest
begins_with_char bs rest c u e = spell (chars bs) (scalars-chars bs u) (encodes-chars bs u)
  where
    spell : (ds : List ℕ) → scalars ds ≡ true → encode_utf8_all ds ≡ bs → BeginsWithChar bs c rest
    spell [] h k = absurd (omega (arith, ap length (k ∙ e), length-append (encode_utf8 c) rest, length-encode c, (len_utf8_bounds c).0))
    spell (d ∷ ds) h k =
        let s = encode_same d c (encode_utf8_all ds) rest (k ∙ e) in
        let first : chars bs ≡ d ∷ ds = ap chars (sym k) ∙ chars-encodes (d ∷ ds) h in
        let after : chars rest ≡ ds = ap chars (sym s.1) ∙ chars-encodes ds (and-right _ (scalars ds) h) in
        record { bytes = e; spelled = first ∙ (λ i. s.0 i ∷ sym after i); utf8 = (ds, (and-right _ (scalars ds) h, s.1)) }

-- white space at the front
pub white_more : (c : ℕ) (cs : List ℕ) → is_whitespace c ≡ true → after_white_space (c ∷ cs) ≡ after_white_space cs
white_more c cs h =
    let one : 1 + prefix_len is_whitespace cs ≡ suc (prefix_len is_whitespace cs) = omega arith in
    ap (λ b. drop (cond b (1 + prefix_len is_whitespace cs) 0) (c ∷ cs)) h ∙ ap (λ n. drop n (c ∷ cs)) one

pub white_stop : (c : ℕ) (cs : List ℕ) → is_whitespace c ≡ false → after_white_space (c ∷ cs) ≡ c ∷ cs
white_stop c cs h = ap (λ b. drop (cond b (1 + prefix_len is_whitespace cs) 0) (c ∷ cs)) h

-- a run, and what follows
abbrev pub IsRun : List ℕ → Type 0
IsRun [] = Unit {0}
IsRun (c ∷ cs) = (is_of_run c ≡ true) × IsRun cs

abbrev pub Stops : List ℕ → Type 0
Stops [] = Unit {0}
Stops (c ∷ cs) = is_of_run c ≡ false

run_of : (pre cs : List ℕ) → IsRun pre → Stops cs → run (pre ++ cs) ≡ pre
run_of [] [] h k = refl
run_of [] (c ∷ cs) h k = ap (λ b. take (cond b (1 + prefix_len is_of_run cs) 0) (c ∷ cs)) k
run_of (p ∷ pre) cs h k =
    let n = prefix_len is_of_run (pre ++ cs) in
    let one : 1 + n ≡ suc n = omega arith in
    ap (λ b. take (cond b (1 + n) 0) (p ∷ (pre ++ cs))) h.0 ∙ (ap (λ m. take m (p ∷ (pre ++ cs))) one ∙ ap (λ l. p ∷ l) (run_of pre cs h.1 k))

after_run_of : (pre cs : List ℕ) → IsRun pre → Stops cs → after_run (pre ++ cs) ≡ cs
after_run_of [] [] h k = refl
after_run_of [] (c ∷ cs) h k = ap (λ b. drop (cond b (1 + prefix_len is_of_run cs) 0) (c ∷ cs)) k
after_run_of (p ∷ pre) cs h k =
    let n = prefix_len is_of_run (pre ++ cs) in
    let one : 1 + n ≡ suc n = omega arith in
    ap (λ b. drop (cond b (1 + n) 0) (p ∷ (pre ++ cs))) h.0 ∙ (ap (λ m. drop m (p ∷ (pre ++ cs))) one ∙ after_run_of pre cs h.1 k)

run-push : (pre : List ℕ) (c : ℕ) → IsRun pre → is_of_run c ≡ true → IsRun (pre ++ c ∷ [])
run-push [] c h k = (k, tt)
run-push (p ∷ pre) c h k = (h.0, run-push pre c h.1 k)

-- a run was read of the text, and this is left
pub record HasRun (bs left : List ℕ) : Type 0 where
  pub front : List ℕ
  pub is : IsRun front
  pub bytes : bs ≡ encode_utf8_all front ++ left
  pub spelled : chars bs ≡ front ++ chars left
  pub utf8 : IsUtf8 left

pub run_begins : (bs : List ℕ) → IsUtf8 bs → HasRun bs bs
run_begins bs u = record { front = []; is = tt; bytes = refl; spelled = refl; utf8 = u }

pub run_goes_on : (bs left after : List ℕ) (c : ℕ) → HasRun bs left → BeginsWithChar left c after → is_of_run c ≡ true → HasRun bs after
run_goes_on bs left after c h k r = record {
  front = h.front ++ c ∷ [];
  is = run-push h.front c h.is r;
  bytes = h.bytes ∙ (ap (λ l. encode_utf8_all h.front ++ l) k.bytes ∙ (sym (append_assoc (encode_utf8_all h.front) (encode_utf8 c) after) ∙ ap (λ l. l ++ after) (ap (λ l. encode_utf8_all h.front ++ l) (sym (append-nil (encode_utf8 c))) ∙ sym (encodes-append h.front (c ∷ [])))));
  spelled = h.spelled ∙ (ap (λ l. h.front ++ l) k.spelled ∙ sym (append_assoc h.front (c ∷ []) (chars after)));
  utf8 = k.utf8;
}

pub run_stops : (bs left : List ℕ) (h : HasRun bs left) → Stops (chars left) → (run (chars bs) ≡ h.front) × (after_run (chars bs) ≡ chars left)
run_stops bs left h k =
    (ap run h.spelled ∙ run_of h.front (chars left) h.is k, ap after_run h.spelled ∙ after_run_of h.front (chars left) h.is k)

-- a text without bytes has no run
pub no_run : (cs bs : List ℕ) → bs ≡ encode_utf8_all cs → length bs ≡ 0 → cs ≡ []
no_run [] bs e n = refl
no_run (c ∷ cs) bs e n = absurd (omega (arith, ap length e, n, length-append (encode_utf8 c) (encode_utf8_all cs), length-encode c, (len_utf8_bounds c).0))

pub variable_refused : (t : Table) (cs rest bytes : List ℕ) → cs ≡ [] → bytes ≡ encode_utf8_all rest → variable_token t cs rest ≡ refused (outside (no_token bytes))
variable_refused t cs rest bytes e k = ap (λ l. variable_token t l rest) e ∙ ap (λ l. refused (outside (no_token l))) (sym k)

pub slot_refused : (t : Table) (cs rest bytes : List ℕ) → cs ≡ [] → bytes ≡ encode_utf8_all rest → slot_token t cs rest ≡ refused (outside (no_token bytes))
slot_refused t cs rest bytes e k = ap (λ l. slot_token t l rest) e ∙ ap (λ l. refused (outside (no_token l))) (sym k)
