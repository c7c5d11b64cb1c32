-- The table of slots: what a text names in it, which slots it knows, and how a slot prints.
use Rattle.std.specs.Prelude.{◌≡◌, ℕ, zero, suc, ◌+◌, ◌*◌, ◌/◌, ◌%◌, ◌^◌, ◌<◌, ◌≤◌, Bool, true, false, ◌&&◌, List, [], ◌∷◌, ◌++◌, length, max, not, Option, Some, None, if◌then◌else◌, ◌==◌, nat_lt, position, slice_get, slice_index_or, All, IsTrue, decimal, codes}
use Rattle.std.specs.List.{filter}
use Rattle.std.specs.Str.{bytes_eq, all_ascii_digits}
use Rattle.std.specs.Str.Parse.{digits_value, without_leading_plus}
use Rattle.slotted_slots.specs.Maps.{is_among, IsInEither}

-- the index of the next fresh slot, and the names that are kept, in the order of their places
pub record Table : Type 0 where
  pub fresh : ℕ
  pub names : List (List ℕ)

-- no fresh slot was made and no name is kept
abbrev pub empty_table : Table
empty_table = record { fresh = 0; names = [] }

-- so many slots there are of each kind: numeric ones, fresh ones, those of names. A node has fewer places
abbrev pub slot_limit : ℕ
slot_limit = 2 ^ 30

-- the raw number of a numeric slot, of a fresh one, and of the slot of the name at place i
abbrev pub numeric_slot : ℕ → ℕ
numeric_slot n = 4 * n

abbrev pub fresh_slot : ℕ → ℕ
fresh_slot n = 4 * n + 1

abbrev pub name_slot : ℕ → ℕ
name_slot i = 4 * i + 2

-- the text is one decimal digit or more, of a number that fits 32 bits
abbrev pub is_numeral_u32 : List ℕ → Bool
is_numeral_u32 ds = nat_lt 0 (length ds) && all_ascii_digits ds && nat_lt (digits_value 10 ds) (2 ^ 32)

-- the number of such a text
abbrev pub numeral_u32 : List ℕ → Option ℕ
numeral_u32 ds = if is_numeral_u32 ds then Some (digits_value 10 ds) else None

-- the number that a text writes as a `u32`: a plus may stand first, then decimal digits
unfoldable pub reads_u32 : List ℕ → Option ℕ
reads_u32 bs = numeral_u32 (without_leading_plus bs)

-- what the text after a `$` reads as
pub data Reading : Type 0 where
  as_number : ℕ → Reading
  as_fresh : ℕ → Reading
  as_word : Reading

-- the number of a text `f` and a number
abbrev pub reads_fresh : List ℕ → Option ℕ
reads_fresh [] = None
reads_fresh (b ∷ bs) = if b == 102 then reads_u32 bs else None

abbrev pub reading_from : Option ℕ → Option ℕ → Reading
reading_from (Some n) _ = as_number n
reading_from None (Some n) = as_fresh n
reading_from None None = as_word

-- a number comes before `f` and a number, and all else is a word
unfoldable pub reading_of : List ℕ → Reading
reading_of bs = reading_from (reads_u32 bs) (reads_fresh bs)

-- what `named` does: it answers a slot and leaves a table, or refuses and leaves the table as it was
pub data NamedOutcome : Type 0 where
  gives : ℕ → Table → NamedOutcome
  too_large : NamedOutcome
  no_place : NamedOutcome

-- a numeric slot
abbrev pub numeric_outcome : Table → ℕ → NamedOutcome
numeric_outcome t n = if nat_lt n slot_limit then gives (numeric_slot n) t else too_large

-- a fresh slot, which is used from now on
abbrev pub fresh_outcome : Table → ℕ → NamedOutcome
fresh_outcome t n = if nat_lt n slot_limit then gives (fresh_slot n) (record t { fresh = max t.fresh (n + 1) }) else too_large

-- the place of a kept name
abbrev pub place_of : List (List ℕ) → List ℕ → Option ℕ
place_of names bs = position (bytes_eq bs) names

-- the slot of a word that is kept at place i, or that is kept from now on
abbrev pub word_outcome : Table → List ℕ → Option ℕ → NamedOutcome
word_outcome t bs (Some i) = gives (name_slot i) t
word_outcome t bs None = if nat_lt (length t.names) slot_limit then gives (name_slot (length t.names)) (record t { names = t.names ++ bs ∷ [] }) else no_place

-- the slot of a word, which is kept from now on
abbrev pub kept_outcome : Table → List ℕ → NamedOutcome
kept_outcome t bs = word_outcome t bs (place_of t.names bs)

abbrev pub outcome_of : Table → List ℕ → Reading → NamedOutcome
outcome_of t bs (as_number n) = numeric_outcome t n
outcome_of t bs (as_fresh n) = fresh_outcome t n
outcome_of t bs as_word = kept_outcome t bs

-- the text is a word that is not kept yet
abbrev pub IsNewName : Table → List ℕ → Type 0
IsNewName t bs = (reading_of bs ≡ as_word) × (place_of t.names bs ≡ None)

-- what `named` does at a text
unfoldable pub named_of : Table → List ℕ → NamedOutcome
named_of t bs = outcome_of t bs (reading_of bs)

-- the slot is numeric, or fresh and made already, or that of a kept name
unfoldable pub is_known : Table → ℕ → Bool
is_known t s = if s % 4 == 0 then true else (if s % 4 == 1 then nat_lt (s / 4) t.fresh else (if s % 4 == 2 then nat_lt (s / 4) (length t.names) else false))

-- the table knows each of the slots
abbrev pub AllKnown : Table → List ℕ → Type 0
AllKnown t xs = All (λ s. IsTrue (is_known t s)) xs

-- what the old table knows the new one knows
abbrev pub KnowsMore : Table → Table → Type 0
KnowsMore old new = (s : ℕ) → IsTrue (is_known old s) → IsTrue (is_known new s)

-- each slot that the new table knows and the old one does not know is one of these
abbrev pub Takes : Table → Table → (ℕ → Type 0) → Type 0
Takes old new these = (z : ℕ) → is_known new z ≡ true → is_known old z ≡ false → these z

-- each such slot is one of xs or of ys
abbrev pub TakesAmong : Table → Table → List ℕ → List ℕ → Type 0
TakesAmong old new xs ys = Takes old new (IsInEither xs ys)

-- those of the names that the table does not know, each as often as it stands
abbrev pub unknown_names : Table → List ℕ → List ℕ
unknown_names t xs = filter (λ x. not (is_known t x)) xs

-- how many of the first k fresh slots are none of the names xs
unfoldable pub slots_beside : List ℕ → ℕ → ℕ
slots_beside xs zero = 0
slots_beside xs (suc k) = if is_among (fresh_slot k) xs then slots_beside xs k else suc (slots_beside xs k)

-- of the fresh slots that were made, at most n are none of the names at hand
abbrev pub TakesAtMost : ℕ → List ℕ → Table → Table → Type 0
TakesAtMost n xs old new = slots_beside xs new.fresh ≤ slots_beside xs old.fresh + n

-- of the fresh slots that are left, fewer than n are none of the names at hand
abbrev pub LacksSlots : ℕ → List ℕ → Table → Type 0
LacksSlots n xs t = slots_beside xs slot_limit < slots_beside xs t.fresh + n

-- the text, or a question mark
abbrev pub text_or_mark : Option (List ℕ) → List ℕ
text_or_mark (Some bs) = bs
text_or_mark None = codes "?"

-- what a slot prints
unfoldable pub shown_slot : Table → ℕ → List ℕ
shown_slot t s = codes "$" ++ (if s % 4 == 0 then decimal (s / 4) else (if s % 4 == 1 then codes "f" ++ decimal (s / 4) else (if s % 4 == 2 then text_or_mark (slice_get t.names (s / 4)) else codes "?")))

-- where the text is a word, the slot prints it
abbrev pub PrintsWord : Table → List ℕ → ℕ → Type 0
PrintsWord t bs s = reading_of bs ≡ as_word → shown_slot t s ≡ codes "$" ++ bs

-- the slot is read back from what it prints, and the table stays
abbrev pub ReadsBack : Table → ℕ → Type 0
ReadsBack t s = (bs : List ℕ) → shown_slot t s ≡ codes "$" ++ bs → named_of t bs ≡ gives s t

-- each name stands first at its own place, so none stands twice
abbrev pub FindsEach : List (List ℕ) → Type 0
FindsEach names = (i : ℕ) → i < length names → place_of names (slice_index_or names i []) ≡ Some i

-- each name reads as a word
abbrev pub AllWords : List (List ℕ) → Type 0
AllWords names = (i : ℕ) → i < length names → reading_of (slice_index_or names i []) ≡ as_word

-- what holds of each table
pub record IsTable (t : Table) : Type 0 where
  pub fresh_fits : t.fresh ≤ slot_limit
  pub names_fit : length t.names ≤ slot_limit
  pub finds_each : FindsEach t.names
  pub all_words : AllWords t.names
