-- What a slot prints, by its kind, and that it is read back from that.
use Rattle.std.proofs.Common.{◌≡◌, ℕ, ◌+◌, ◌*◌, ◌/◌, ◌%◌, ◌^◌, ◌<◌, true, nat_lt, max, Result, Ok, Err, IfOk, List, [], ◌∷◌, ◌++◌, length, get_or, Option, Some, None, slice_get, refl, sym, ap, subst, inl, inr, arith, ◌∙◌, codes, decimal}
use Rattle.std.proofs.lemmas.Bool.{cases_Bool, lt-ltb, ltb-true, cases_eq, false≢true}
use Rattle.std.proofs.lemmas.Fmt.{decimal_is_IsNumeral}
use Rattle.std.proofs.lemmas.List.{length_push, get_or_push}
use Rattle.std.proofs.lemmas.Option.{slice_get-get_or}
use Rattle.std.proofs.lemmas.Str.Parse.{digit_at, without_leading_plus_none}
use Rattle.slotted_slots.specs.Table.{Table, gives, as_word, numeric_slot, fresh_slot, name_slot, reads_u32, is_numeral_u32, numeral_u32, reads_fresh, reading_of, named_of, word_outcome, place_of, is_known, shown_slot, ReadsBack, IsTable}
use Rattle.slotted_slots.specs.declared.error.Error.{Error}
use Rattle.slotted_slots.specs.Naming.{Follows}
use Rattle.slotted_slots.proofs.NamingLaws.{named_of-number, named_of-fresh, named_of-word, place_of-within, place_of-name, gives_from_if, full_never, test_from_numeral, numeral_from_test}
use Rattle.slotted_slots.proofs.TableLaws.{remainder_is, quotient_is}

-- a numeric slot prints its number
pub shown_slot-numeric : (t : Table) (s : ℕ) → s % 4 ≡ 0 → shown_slot t s ≡ codes "$" ++ decimal (s / 4)
unfolding shown_slot
shown_slot-numeric t s e = rw e refl

-- a fresh one an `f` before it
pub shown_slot-fresh : (t : Table) (s : ℕ) → s % 4 ≡ 1 → shown_slot t s ≡ codes "$f" ++ decimal (s / 4)
unfolding shown_slot
shown_slot-fresh t s e = rw e refl

-- a slot of a kept name the name
pub shown_slot-name : (t : Table) (s : ℕ) (bs : List ℕ) → s % 4 ≡ 2 → slice_get t.names (s / 4) ≡ Some bs → shown_slot t s ≡ codes "$" ++ bs
unfolding shown_slot
shown_slot-name t s bs e kept = rw (e, kept) refl

-- a name that is not kept a question mark
pub shown_slot-absent : (t : Table) (s : ℕ) → s % 4 ≡ 2 → slice_get t.names (s / 4) ≡ None → shown_slot t s ≡ codes "$?"
unfolding shown_slot
shown_slot-absent t s e absent = rw (e, absent) refl

-- as does what is no slot
pub shown_slot-unused : (t : Table) (s : ℕ) → s % 4 ≡ 3 → shown_slot t s ≡ codes "$?"
unfolding shown_slot
shown_slot-unused t s e = rw e refl

-- the slot of the name at a place prints the name
shown_slot-name_slot : (t : Table) (i : ℕ) (bs : List ℕ) → slice_get t.names i ≡ Some bs → shown_slot t (name_slot i) ≡ codes "$" ++ bs
shown_slot-name_slot t i bs kept =
    shown_slot-name t (4 * i + 2) bs (remainder_is i 2 (omega arith)) (ap (slice_get t.names) (quotient_is i 2 (omega arith)) ∙ kept)

-- the slot that a word is given prints that word
pub shown_slot-named : (t u : Table) (bs : List ℕ) (s : ℕ) → reading_of bs ≡ as_word → named_of t bs ≡ gives s u → shown_slot u s ≡ codes "$" ++ bs
shown_slot-named t u bs s word e = by (place_of t.names bs) refl (sym (named_of-word t bs word) ∙ e)
  where
    by : (o : Option ℕ) → place_of t.names bs ≡ o → word_outcome t bs o ≡ gives s u → shown_slot u s ≡ codes "$" ++ bs
    by (Some i) found given =
        let same_slot : name_slot i ≡ s = cc in
        let same_table : t ≡ u = cc in
        let kept : slice_get t.names i ≡ Some bs = slice_get-get_or t.names i [] (place_of-within t.names bs i found) ∙ ap Some (sym (place_of-name t.names bs i found)) in
        subst (λ v. shown_slot v s ≡ codes "$" ++ bs) same_table (subst (λ a. shown_slot t a ≡ codes "$" ++ bs) same_slot (shown_slot-name_slot t i bs kept))
    by None found given =
        let parts = gives_from_if (nat_lt (length t.names) (2 ^ 30)) _ _ _ _ _ full_never given in
        let pushed : Table = record t { names = t.names ++ bs ∷ [] } in
        let within : length t.names < length (t.names ++ bs ∷ []) = omega (arith, length_push t.names bs) in
        let kept : slice_get pushed.names (length t.names) ≡ Some bs = slice_get-get_or pushed.names (length t.names) [] within ∙ ap Some (get_or_push t.names bs [] (length t.names) refl) in
        subst (λ v. shown_slot v s ≡ codes "$" ++ bs) parts.2 (subst (λ a. shown_slot pushed a ≡ codes "$" ++ bs) parts.1 (shown_slot-name_slot pushed (length t.names) bs kept))

-- the digits of a number read as that number
pub reads_u32-decimal : (n : ℕ) → n < 2 ^ 32 → reads_u32 (decimal n) ≡ Some n
unfolding reads_u32
reads_u32-decimal n fits =
    let numeral = decimal_is_IsNumeral n (omega arith) in
    let first = digit_at (decimal n) 0 numeral.0.1 numeral.0.0 in
    let bare = without_leading_plus_none (decimal n) (λ e. omega (arith, e, first.0, first.1)) in
    let holds = test_from_numeral (decimal n) numeral.0 (omega (arith, numeral.1)) in
    ap numeral_u32 bare ∙ rw holds (ap Some numeral.1)

-- no number begins with an `f`
reads_u32-f : (ds : List ℕ) → reads_u32 (102 ∷ ds) ≡ None
unfolding reads_u32
reads_u32-f ds =
    let bare = without_leading_plus_none (102 ∷ ds) (λ e. omega (arith, e)) in
    ap numeral_u32 bare ∙ elim (cases_Bool (is_numeral_u32 (102 ∷ ds))) [
      | inl holds ↦ absurd (omega (arith, (digit_at (102 ∷ ds) 0 (numeral_from_test (102 ∷ ds) holds).0.1 (omega arith)).1))
      | inr fails ↦ rw fails refl
    ]

-- a known slot is read back from what it prints, and the table stays
reads_back_numeric : (t : Table) (s : ℕ) → s < 2 ^ 32 → s % 4 ≡ 0 → ReadsBack t s
reads_back_numeric t s fits e bs shown =
    let digits : bs ≡ decimal (s / 4) = cc (sym shown ∙ shown_slot-numeric t s e) in
    let reads : reads_u32 bs ≡ Some (s / 4) = ap reads_u32 digits ∙ reads_u32-decimal (s / 4) (omega arith) in
    let back : numeric_slot (s / 4) ≡ s = omega arith in
    named_of-number t bs (s / 4) reads ∙ rw (lt-ltb (s / 4) (2 ^ 30) (omega arith)) (ap (λ a. gives a t) back)

reads_back_fresh : (t : Table) → IsTable t → (s : ℕ) → s % 4 ≡ 1 → s / 4 < t.fresh → ReadsBack t s
reads_back_fresh t sound s e made bs shown =
    let digits : bs ≡ 102 ∷ decimal (s / 4) = cc (sym shown ∙ shown_slot-fresh t s e) in
    let bound = sound.fresh_fits in
    let reads : reads_fresh bs ≡ Some (s / 4) = ap reads_fresh digits ∙ reads_u32-decimal (s / 4) (omega arith) in
    let back : fresh_slot (s / 4) ≡ s = omega arith in
    let stays : max t.fresh (s / 4 + 1) ≡ t.fresh = omega arith in
    named_of-fresh t bs (s / 4) (ap reads_u32 digits ∙ reads_u32-f (decimal (s / 4))) reads
    ∙ rw (lt-ltb (s / 4) (2 ^ 30) (omega arith)) (λ i. gives (back i) (record t { fresh = stays i }))

reads_back_name : (t : Table) → IsTable t → (s : ℕ) → s % 4 ≡ 2 → s / 4 < length t.names → ReadsBack t s
reads_back_name t sound s e within bs shown =
    let kept = slice_get-get_or t.names (s / 4) [] within in
    let text : bs ≡ get_or t.names (s / 4) [] = cc (sym shown ∙ shown_slot-name t s _ e kept) in
    let back : name_slot (s / 4) ≡ s = omega arith in
    named_of-word t bs (ap reading_of text ∙ sound.all_words (s / 4) within)
    ∙ (ap (word_outcome t bs) (ap (place_of t.names) text ∙ sound.finds_each (s / 4) within) ∙ ap (λ a. gives a t) back)

pub reads_back : (t : Table) → IsTable t → (s : ℕ) → s < 2 ^ 32 → is_known t s ≡ true → ReadsBack t s
unfolding is_known
reads_back t sound s fits known = elim (cases_eq (s % 4) 0) [
  | inl zero ↦ reads_back_numeric t s fits zero
  | inr not_zero ↦ elim (cases_eq (s % 4) 1) [
    | inl one ↦ reads_back_fresh t sound s one (ltb-true _ _ (rw (one) at known))
    | inr not_one ↦ elim (cases_eq (s % 4) 2) [
      | inl two ↦ reads_back_name t sound s two (ltb-true _ _ (rw (two) at known))
      | inr not_two ↦
          let three : s % 4 ≡ 3 = omega arith in
          absurd (false≢true (rw three at known))
    ]
  ]
]

-- what follows its outcome prints a word as it was given
pub Follows-shown : (t u : Table) (bs : List ℕ) (r : Result ℕ Error) → Follows (named_of t bs) t u r → IfOk r (λ s. reading_of bs ≡ as_word → shown_slot u s ≡ codes "$" ++ bs)
Follows-shown t u bs (Ok s) f = λ word. shown_slot-named t u bs s word f.slot
Follows-shown t u bs (Err e) f = tt
