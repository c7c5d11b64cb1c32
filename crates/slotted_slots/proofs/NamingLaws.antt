-- What `named` reads, answers and leaves.
use Rattle.std.proofs.Common.{◌≡◌, ℕ, ◌+◌, ◌*◌, ◌^◌, ◌<◌, ◌≤◌, Bool, true, false, ◌||◌, ◌≢◌, nat_lt, eqb, not, suc, ◌↔◌, IfOk, IsErrOf, IsOkUnless, max, IsTrue, List, [], ◌∷◌, ◌++◌, length, get_or, Option, Some, None, Result, Ok, Err, refl, sym, ap, subst, arith, ◌∙◌, if◌then◌else◌, cond, inl, inr, map}
use Rattle.std.specs.Result.{result_ok, IsErrAnd}
use Rattle.std.specs.List.{position, position_or_len, list_any}
use Rattle.std.specs.String.{string_bytes, string_eq}
use Rattle.std.specs.declared.string.String.{String}
use Rattle.indexmap.specs.IndexSet.{insert_key}
use Rattle.std.specs.Str.{bytes_eq, all_ascii_digits}
use Rattle.std.specs.Str.Parse.{ParsesUnsigned, IsNumeral, digits_value, without_leading_plus}
use Rattle.std.proofs.lemmas.Bool.{cases_Bool, and_parts, and_from, lt-ltb, ltb-true, le-ltb, eq-eqb, ne_eqb, cases_lt}
use Rattle.std.proofs.lemmas.List.{length_push, length-map, map-append, get_or_append_left, get_or_push}
use Rattle.std.proofs.lemmas.List.Folds.{position_or_len_push}
use Rattle.std.proofs.lemmas.List.Quantifiers.{position-Some}
use Rattle.std.proofs.lemmas.Slice.Eq.{bytes_eq-Decides}
use Rattle.std.proofs.lemmas.Str.Parse.{IsNumeralModel, numerals_by_value, tells_all_ascii_digits}
use Rattle.slotted_slots.specs.Table.{Table, NamedOutcome, gives, too_large, no_place, Reading, as_number, as_fresh, as_word, numeric_slot, name_slot, is_numeral_u32, reads_u32, reads_fresh, reading_from, reading_of, numeric_outcome, fresh_outcome, word_outcome, outcome_of, place_of, named_of, is_known, KnowsMore, FindsEach, AllWords, IsTable, slot_limit}
use Rattle.slotted_slots.specs.declared.error.Error.{Error}
use Rattle.slotted_slots.specs.declared.error.Error.TheVariants.{NumberTooLarge, OutOfSlots}
use Rattle.slotted_slots.specs.Error.{IsOutOfMemory}
use Rattle.slotted_slots.specs.Naming.{Follows}
use Rattle.slotted_slots.proofs.TableLaws.{is_known-numeric_slot, is_known-fresh_slot, is_known-name_slot, KnowsMore-grows, KnowsMore-refl}

-- texts of decimal digits, in std's words
digits : IsNumeralModel (λ ds. all_ascii_digits ds ≡ true) (digits_value 10)
digits = numerals_by_value (λ ds. all_ascii_digits ds ≡ true) tells_all_ascii_digits

-- the test says what std's contract of `parse` says
pub numeral_from_test : (ds : List ℕ) → is_numeral_u32 ds ≡ true → IsNumeral 10 ds × (digits_value 10 ds < 2 ^ 32)
numeral_from_test ds e =
    let both = and_parts _ _ e in
    let front = and_parts _ _ both.0 in
    ((ltb-true _ _ front.0, digits.to ds front.1), ltb-true _ _ both.1)

pub test_from_numeral : (ds : List ℕ) → IsNumeral 10 ds → digits_value 10 ds < 2 ^ 32 → is_numeral_u32 ds ≡ true
test_from_numeral ds n fits = and_from _ _ (and_from _ _ (lt-ltb _ _ n.0) (digits.from ds n.1)) (lt-ltb _ _ fits)

-- the number that `parse` answers is the number that the text reads as
pub reads_u32-parses : {E : Type 0} (bs : List ℕ) (r : Result ℕ E) → ParsesUnsigned 32 10 bs r → result_ok r ≡ reads_u32 bs
unfolding reads_u32
reads_u32-parses {E} bs (Ok x) h = rw (test_from_numeral (without_leading_plus bs) h.0.0 h.0.1) (ap Some h.1)
reads_u32-parses {E} bs (Err e) h = elim (cases_Bool (is_numeral_u32 (without_leading_plus bs))) [
  | inl holds ↦ absurd (h (numeral_from_test _ holds))
  | inr fails ↦ rw fails refl
]

-- a number is numeric
pub named_of-number : (t : Table) (bs : List ℕ) (n : ℕ) → reads_u32 bs ≡ Some n → named_of t bs ≡ numeric_outcome t n
unfolding named_of reading_of
named_of-number t bs n e = ap (λ o. outcome_of t bs (reading_from o (reads_fresh bs))) e

-- `f` and a number is fresh
pub named_of-fresh : (t : Table) (bs : List ℕ) (n : ℕ) → reads_u32 bs ≡ None → reads_fresh bs ≡ Some n → named_of t bs ≡ fresh_outcome t n
unfolding named_of reading_of
named_of-fresh t bs n none e = λ i. outcome_of t bs (reading_from (none i) (e i))

-- all else is a word
pub reading_of-word : (bs : List ℕ) → reads_u32 bs ≡ None → reads_fresh bs ≡ None → reading_of bs ≡ as_word
unfolding reading_of
reading_of-word bs none no_fresh = λ i. reading_from (none i) (no_fresh i)

pub named_of-word : (t : Table) (bs : List ℕ) → reading_of bs ≡ as_word → named_of t bs ≡ word_outcome t bs (place_of t.names bs)
unfolding named_of
named_of-word t bs e = ap (outcome_of t bs) e

-- what an outcome gives is known afterwards, as is all that was known
abbrev pub Learns : Table → ℕ → Table → Type 0
Learns t s u = IsTrue (is_known u s) × KnowsMore t u

-- an outcome that gives came from the test
pub gives_from_if : (b : Bool) (s : ℕ) (u : Table) (other : NamedOutcome) (s' : ℕ) (u' : Table) → ((a : ℕ) (v : Table) → other ≡ gives a v → ⊥) → (if b then gives s u else other) ≡ gives s' u' → (b ≡ true) × (s ≡ s') × (u ≡ u')
gives_from_if true s u other s' u' never e = (refl, cc, cc)
gives_from_if false s u other s' u' never e = absurd (never s' u' e)

pub large_never : (a : ℕ) (v : Table) → too_large ≡ gives a v → ⊥
large_never a v e = cc

pub full_never : (a : ℕ) (v : Table) → no_place ≡ gives a v → ⊥
full_never a v e = cc

numeric_outcome-learns : (t : Table) (n s : ℕ) (u : Table) → numeric_outcome t n ≡ gives s u → Learns t s u
numeric_outcome-learns t n s u e =
    let parts = gives_from_if (nat_lt n (2 ^ 30)) _ _ _ _ _ large_never e in
    subst (λ v. Learns t s v) parts.2 (subst (λ a. Learns t a t) parts.1 (is_known-numeric_slot t n, KnowsMore-refl t))

fresh_outcome-learns : (t : Table) (n s : ℕ) (u : Table) → fresh_outcome t n ≡ gives s u → Learns t s u
fresh_outcome-learns t n s u e =
    let parts = gives_from_if (nat_lt n (2 ^ 30)) _ _ _ _ _ large_never e in
    let moved : Table = record t { fresh = max t.fresh (n + 1) } in
    subst (λ v. Learns t s v) parts.2 (subst (λ a. Learns t a moved) parts.1 (
      is_known-fresh_slot moved n ∙ lt-ltb _ _ (omega arith),
      KnowsMore-grows t moved (omega arith) (omega arith),
    ))

word_outcome-learns : (t : Table) (bs : List ℕ) (o : Option ℕ) → ((i : ℕ) → o ≡ Some i → i < length t.names) → (s : ℕ) (u : Table) → word_outcome t bs o ≡ gives s u → Learns t s u
word_outcome-learns t bs (Some i) within s u e =
    let same_slot : name_slot i ≡ s = cc in
    let same_table : t ≡ u = cc in
    subst (λ v. Learns t s v) same_table (subst (λ a. Learns t a t) same_slot (is_known-name_slot t i ∙ lt-ltb _ _ (within i refl), KnowsMore-refl t))
word_outcome-learns t bs None within s u e =
    let parts = gives_from_if (nat_lt (length t.names) (2 ^ 30)) _ _ _ _ _ full_never e in
    let kept : Table = record t { names = t.names ++ bs ∷ [] } in
    let longer = length_push t.names bs in
    subst (λ v. Learns t s v) parts.2 (subst (λ a. Learns t a kept) parts.1 (
      is_known-name_slot kept (length t.names) ∙ lt-ltb _ _ (omega arith),
      KnowsMore-grows t kept (omega arith) (omega arith),
    ))

-- a place that is found is within the names, and the name is there
pub place_of-within : (names : List (List ℕ)) (bs : List ℕ) (i : ℕ) → place_of names bs ≡ Some i → i < length names
place_of-within names bs i e = (position-Some (bytes_eq bs) names i [] e).0

pub place_of-name : (names : List (List ℕ)) (bs : List ℕ) (i : ℕ) → place_of names bs ≡ Some i → bs ≡ get_or names i []
place_of-name names bs i e = (bytes_eq-Decides bs (get_or names i [])).0 (position-Some (bytes_eq bs) names i [] e).1

outcome_of-learns : (t : Table) (bs : List ℕ) (r : Reading) (s : ℕ) (u : Table) → outcome_of t bs r ≡ gives s u → Learns t s u
outcome_of-learns t bs (as_number n) s u e = numeric_outcome-learns t n s u e
outcome_of-learns t bs (as_fresh n) s u e = fresh_outcome-learns t n s u e
outcome_of-learns t bs as_word s u e = word_outcome-learns t bs (place_of t.names bs) (place_of-within t.names bs) s u e

-- the slot that `named` answers is known afterwards, as is all that was known
pub named_of-learns : (t : Table) (bs : List ℕ) (s : ℕ) (u : Table) → named_of t bs ≡ gives s u → Learns t s u
unfolding named_of
named_of-learns t bs s u e = outcome_of-learns t bs (reading_of bs) s u e

-- the first place, or the length, says what `position` answers
position-by : {X : Type 0} (p : X → Bool) (xs : List X) (i : ℕ) → position_or_len p xs ≡ i → i < length xs → position p xs ≡ Some i
position-by {X} p xs i e lt = rw e (rw (lt-ltb i (length xs) lt) refl)

position-Some_first : {X : Type 0} (p : X → Bool) (xs : List X) (i : ℕ) → position p xs ≡ Some i → (position_or_len p xs ≡ i) × (i < length xs)
position-Some_first {X} p xs i e = elim (cases_lt (position_or_len p xs) (length xs)) [
  | inl lt ↦
      let same : Some (position_or_len p xs) ≡ Some i = sym (position-by p xs _ refl lt) ∙ e in
      let first : position_or_len p xs ≡ i = cc in
      (first, omega arith)
  | inr ge ↦
      let none : position p xs ≡ None = rw (le-ltb _ (length xs) ge) refl in
      let wrong : Some i ≡ None = sym e ∙ none in
      absurd (cc)
]

position-None_first : {X : Type 0} (p : X → Bool) (xs : List X) → position p xs ≡ None → length xs ≤ position_or_len p xs
position-None_first {X} p xs e = elim (cases_lt (position_or_len p xs) (length xs)) [
  | inl lt ↦
      let wrong : Some (position_or_len p xs) ≡ None = sym (position-by p xs _ refl lt) ∙ e in
      absurd (cc)
  | inr ge ↦ ge
]

-- no place is past the length
position_or_len-le : {X : Type 0} (p : X → Bool) (xs : List X) → position_or_len p xs ≤ length xs
position_or_len-le {X} p [] = omega arith
position_or_len-le {X} p (x ∷ xs) = elim (p x) as (λ b. cond (not b) (1 + position_or_len p xs) 0 ≤ suc (length xs)) [
  | true ↦ omega arith
  | false ↦ omega (arith, position_or_len-le p xs)
]

-- a name that is found is found there after another is kept
place_of-push_found : (names : List (List ℕ)) (bs x : List ℕ) (i : ℕ) → place_of names x ≡ Some i → place_of (names ++ bs ∷ []) x ≡ Some i
place_of-push_found names bs x i e =
    let first = position-Some_first (bytes_eq x) names i e in
    let differ : eqb (position_or_len (bytes_eq x) names) (length names) ≡ false = ne_eqb (position_or_len (bytes_eq x) names) (length names) (λ same. omega (arith, first.0, first.1)) in
    position-by (bytes_eq x) (names ++ bs ∷ []) i (position_or_len_push (bytes_eq x) names bs ∙ rw differ first.0) (omega (arith, length_push names bs, first.1))

-- a name that was not there is found last
place_of-push_new : (names : List (List ℕ)) (bs : List ℕ) → place_of names bs ≡ None → place_of (names ++ bs ∷ []) bs ≡ Some (length names)
place_of-push_new names bs e =
    let same : bytes_eq bs bs ≡ true = (bytes_eq-Decides bs bs).1 refl in
    let last = position-None_first (bytes_eq bs) names e in
    let whole : eqb (position_or_len (bytes_eq bs) names) (length names) ≡ true = eq-eqb (position_or_len (bytes_eq bs) names) (length names) (omega (arith, last, position_or_len-le (bytes_eq bs) names)) in
    position-by (bytes_eq bs) (names ++ bs ∷ []) (length names) (position_or_len_push (bytes_eq bs) names bs ∙ rw (whole, same) (omega arith)) (omega (arith, length_push names bs))

FindsEach-push : (names : List (List ℕ)) (bs : List ℕ) → FindsEach names → place_of names bs ≡ None → FindsEach (names ++ bs ∷ [])
FindsEach-push names bs each new i lt = elim (cases_lt i (length names)) [
  | inl old ↦ rw (get_or_append_left names (bs ∷ []) [] i old) (place_of-push_found names bs _ i (each i old))
  | inr last ↦
      let here : i ≡ length names = omega (arith, length_push names bs) in
      rw (get_or_push names bs [] i (sym here)) (place_of-push_new names bs new ∙ ap Some (sym here))
]

AllWords-push : (names : List (List ℕ)) (bs : List ℕ) → AllWords names → reading_of bs ≡ as_word → AllWords (names ++ bs ∷ [])
AllWords-push names bs each new i lt = elim (cases_lt i (length names)) [
  | inl old ↦ rw (get_or_append_left names (bs ∷ []) [] i old) (each i old)
  | inr last ↦ rw (get_or_push names bs [] i (omega (arith, length_push names bs))) new
]

-- a table with another name is a table
pub IsTable-push : (t : Table) (bs : List ℕ) → IsTable t → length t.names < 2 ^ 30 → place_of t.names bs ≡ None → reading_of bs ≡ as_word → IsTable (record t { names = t.names ++ bs ∷ [] })
IsTable-push t bs sound room new word = record {
  fresh_fits = sound.fresh_fits;
  names_fit = omega (arith, length_push t.names bs);
  finds_each = FindsEach-push t.names bs sound.finds_each new;
  all_words = AllWords-push t.names bs sound.all_words word;
}

-- the place of a text among texts is that among what they are the bytes of
position_or_len-map : {X Y : Type 0} (f : X → Y) (p : Y → Bool) (xs : List X) → position_or_len p (map f xs) ≡ position_or_len (λ x. p (f x)) xs
position_or_len-map {X} {Y} f p [] = refl
position_or_len-map {X} {Y} f p (x ∷ xs) = ap (λ n. cond (not (p (f x))) (1 + n) 0) (position_or_len-map f p xs)

-- the place of a text among the bytes of the kept strings
pub place_of-map : {X : Type 0} (f : X → List ℕ) (bs : List ℕ) (xs : List X) → position (λ x. bytes_eq bs (f x)) xs ≡ place_of (map f xs) bs
place_of-map {X} f bs xs =
    let place = position_or_len-map f (bytes_eq bs) xs in
    let long = length-map xs f in
    sym (λ i. cond (nat_lt (place i) (long i)) (Some (place i)) None)

-- what a call answers follows its outcome
pub Follows-gives : (outcome : NamedOutcome) (t u : Table) (s : ℕ) → outcome ≡ gives s u → Follows outcome t u (Ok s)
Follows-gives outcome t u s e = record {
  slot = e;
  large = (λ wrong. absurd (cc), λ wrong. absurd (cc));
  full = (λ wrong. absurd (cc), λ wrong. absurd (cc));
  only = tt;
  err = tt;
}

pub Follows-too_large : (outcome : NamedOutcome) (t : Table) → outcome ≡ too_large → Follows outcome t t (Err NumberTooLarge)
Follows-too_large outcome t e = record {
  slot = tt;
  large = (λ _. e, λ _. refl);
  full = (λ wrong. absurd (cc), λ wrong. absurd (cc));
  only = inr refl;
  err = refl;
}

-- a table with no place for another name refuses it
pub Follows-no_place : (t : Table) (bs : List ℕ) → slot_limit ≤ length t.names → Follows (word_outcome t bs None) t t (Err OutOfSlots)
Follows-no_place t bs high =
    let none : word_outcome t bs None ≡ no_place = rw (le-ltb (length t.names) slot_limit high) refl in
    record {
      slot = tt;
      large = (λ wrong. absurd (cc), λ wrong. absurd (cc));
      full = (λ _. none, λ _. refl);
      only = inl (inr refl);
      err = refl;
    }

-- a name with a place may find no memory
pub Follows-no_memory : (t u : Table) (bs : List ℕ) (r : Result ℕ Error) → length t.names < slot_limit → IsErrAnd r IsOutOfMemory → u ≡ t → Follows (word_outcome t bs None) t u r
Follows-no_memory t u bs (Ok s) low wrong same = absurd wrong
Follows-no_memory t u bs (Err e) low short same =
    let given : word_outcome t bs None ≡ gives (name_slot (length t.names)) (record t { names = t.names ++ bs ∷ [] }) = rw (lt-ltb (length t.names) slot_limit low) refl in
    record {
      slot = tt;
      large = (λ wrong. absurd (cc), λ wrong. absurd (cc));
      full = (λ wrong. absurd (cc), λ wrong. absurd (cc));
      only = inl (inl short);
      err = same;
    }

-- what `numeric` says, as one fact
pub Follows-numeric : (t : Table) (n : ℕ) (r : Result ℕ Error) → IfOk r (λ s. s ≡ numeric_slot n) → (IsErrOf r NumberTooLarge ↔ (2 ^ 30 ≤ n)) → IsOkUnless r NumberTooLarge → Follows (numeric_outcome t n) t t r
Follows-numeric t n (Ok s) slot large only =
    let small : n < 2 ^ 30 = elim (cases_lt n (2 ^ 30)) [ inl lt ↦ lt | inr ge ↦ let wrong = large.1 ge in absurd (cc) ] in
    Follows-gives _ t t s (rw (lt-ltb n (2 ^ 30) small) (ap (λ a. gives a t) (sym slot)))
Follows-numeric t n (Err e) slot large only =
    let high : 2 ^ 30 ≤ n = large.0 (ap Err only) in
    subst (λ x. Follows (numeric_outcome t n) t t (Err x)) (sym only) (Follows-too_large _ t (rw (le-ltb n (2 ^ 30) high) refl))

-- what follows its outcome makes its slot known, and knows more
pub Follows-known : (t u : Table) (bs : List ℕ) (r : Result ℕ Error) → Follows (named_of t bs) t u r → IfOk r (λ s. IsTrue (is_known u s))
Follows-known t u bs (Ok s) f = (named_of-learns t bs s u f.slot).0
Follows-known t u bs (Err e) f = tt

pub Follows-more : (t u : Table) (bs : List ℕ) (r : Result ℕ Error) → Follows (named_of t bs) t u r → KnowsMore t u
Follows-more t u bs (Ok s) f = (named_of-learns t bs s u f.slot).1
Follows-more t u bs (Err e) f = subst (KnowsMore t) (sym f.err) (KnowsMore-refl t)

-- a text that does not begin with `f` has no number after it
pub reads_fresh-none : (bs : List ℕ) → ((rest : List ℕ) → bs ≢ 102 ∷ rest) → reads_fresh bs ≡ None
reads_fresh-none [] other = refl
reads_fresh-none (b ∷ bs) other = rw (ne_eqb b 102 (λ e. other bs (ap (λ c. c ∷ bs) e))) refl

-- no element passes where the first place is the length
list_any-none : {X : Type 0} (p : X → Bool) (xs : List X) → length xs ≤ position_or_len p xs → list_any p xs ≡ false
list_any-none {X} p [] h = refl
list_any-none {X} p (x ∷ xs) h = elim (p x) as (λ b. suc (length xs) ≤ cond (not b) (1 + position_or_len p xs) 0 → (b || list_any p xs) ≡ false) [
  | true ↦ λ le. absurd (omega arith)
  | false ↦ λ le. list_any-none p xs (omega arith)
] h

-- a string that is not among the names goes last
pub names_after_insert : {Z : Type 0} (keys : List (String Z)) (k : String Z) (bs : List ℕ) → string_bytes k ≡ bs → place_of (map string_bytes keys) bs ≡ None → map string_bytes (insert_key string_eq keys k) ≡ map string_bytes keys ++ bs ∷ []
names_after_insert {Z} keys k bs e new =
    let absent : position (λ x. bytes_eq bs (string_bytes x)) keys ≡ None = place_of-map string_bytes bs keys ∙ new in
    let lacks : list_any (λ x. bytes_eq bs (string_bytes x)) keys ≡ false = list_any-none _ keys (position-None_first _ keys absent) in
    let lacks_it : list_any (string_eq k) keys ≡ false = subst (λ b. list_any (λ x. bytes_eq b (string_bytes x)) keys ≡ false) (sym e) lacks in
    rw lacks_it (map-append string_bytes keys (k ∷ []) ∙ ap (λ b. map string_bytes keys ++ b ∷ []) e)

-- a new name goes last, at the next place
pub word_outcome-new : (t : Table) (bs : List ℕ) (n : ℕ) (names : List (List ℕ)) → length t.names ≡ n → n < 2 ^ 30 → t.names ++ bs ∷ [] ≡ names → word_outcome t bs None ≡ gives (4 * n + 2) (record t { names = names })
word_outcome-new t bs n names long room pushed =
    rw (lt-ltb (length t.names) (2 ^ 30) (omega arith)) (λ i. gives (4 * long i + 2) (record t { names = pushed i }))
