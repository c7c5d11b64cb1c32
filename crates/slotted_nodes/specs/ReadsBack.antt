-- What slots, children, binders and payloads are written as reads as the same again.
use Rattle.std.specs.Prelude.{◌≡◌, ℕ, suc, ◌^◌, ◌<◌, Bool, true, false, ◌&&◌, nat_lt, List, [], ◌∷◌, length, ℤ, pos, negsuc, Option, Some, None, zero, cond, codes, drop, neg_ℤ, slice_index, option_map, IfSome, Ok, decimal, if◌then◌else◌, encode_utf8, refl}
use Rattle.std.proofs.Common.{ap, sym, ◌∙◌, subst, arith, lit<}
use Rattle.std.proofs.lemmas.Bool.{and_parts, and_from, ltb-true, ne_eqb}
use Rattle.std.proofs.lemmas.Fmt.{decimal_is_IsNumeral_wide, IsAscii-decimal_wide}
use Rattle.std.proofs.lemmas.List.{append-nil}
use Rattle.std.proofs.lemmas.Str.{chars-IsAscii, chars-encodes, scalars-chars, IsUtf8-from_ascii, IsUtf8-encode}
use Rattle.std.proofs.lemmas.Str.Parse.{digit_at, without_leading_plus_none}
use Rattle.std.specs.Fmt.{signed_decimal}
use Rattle.std.specs.Int.{IsInRange}
use Rattle.std.specs.Str.{all_ascii_digits, chars, IsAscii}
use Rattle.std.specs.Str.Parse.{AllDigits, IsNumeral, digits_value, signed_digits_value, starts_with_minus, without_leading_plus, without_leading_sign, ParsesUnsigned}
use Rattle.std.proofs.Math.Utf8.{scalars}
use Rattle.slotted_slots.proofs.Printing.{reads_u32-decimal}
use Rattle.slotted_slots.specs.Syntax.{Element, text, applied, name}
use Rattle.slotted_slots.specs.Maps.{keys}
use Rattle.slotted_slots.specs.Table.{reads_u32, is_numeral_u32}
use Rattle.slotted_nodes.specs.Form.{Form, leaf, plain, bind_form, children}
use Rattle.slotted_nodes.specs.Identifier.{is_run_char, are_run_chars, begins_identifier, is_identifier, IsIdentifier, HasIdentifiers, HasNullIds, AreNull, HasNullChildren}
use Rattle.slotted_nodes.specs.Equal.{cons_parts, tree_bind, form_ext}
use Rattle.slotted_nodes.specs.TextLaws.{signed_parts, unsigned_parses, test_from_numeral}
use Rattle.slotted_nodes.specs.Texts.{is_numeral, reads_unsigned, reads_signed, signed_word, fits_beside_sign, reads_bool, bool_text, reads_char, only_char}
use Rattle.slotted_nodes.specs.Written.{read_slot, read_child, read_bind, read_text}

-- digits are characters of a run, and begin an identifier
digit_runs : (c : ℕ) → IsInRange 48 57 c → is_run_char c ≡ true
digit_runs c h = grind (arith, h.0, h.1)

digit_begins : (c : ℕ) (cs : List ℕ) → IsInRange 48 57 c → begins_identifier c cs ≡ true
digit_begins c cs h = grind (arith, h.0, h.1)

pub digits_run : (ds : List ℕ) → AllDigits 10 ds → are_run_chars ds ≡ true
digits_run [] h = refl
digits_run (c ∷ cs) h = and_from _ _ (digit_runs c (digit_at (c ∷ []) 0 (h.0, tt) (omega arith))) (digits_run cs h.1)

numeral_identifier : (ds : List ℕ) → IsNumeral 10 ds → is_identifier ds ≡ true
numeral_identifier [] h = absurd (omega (arith, h.0))
numeral_identifier (c ∷ cs) h = and_from _ _ (digit_begins c cs (digit_at (c ∷ cs) 0 h.1 h.0)) (digits_run (c ∷ cs) h.1)

-- an ASCII text of an identifier's characters is one
ascii_identifier : (bs : List ℕ) → IsAscii bs → is_identifier bs ≡ true → IsIdentifier bs
ascii_identifier bs a h = (IsUtf8-from_ascii bs a, ap is_identifier (chars-IsAscii bs a) ∙ h)

-- the same of a text that is written out
abbrev pub are_ascii : List ℕ → Bool
are_ascii [] = true
are_ascii (b ∷ bs) = nat_lt b 128 && are_ascii bs

all_ascii : (bs : List ℕ) → are_ascii bs ≡ true → IsAscii bs
all_ascii [] h i = lit< tt
all_ascii (b ∷ bs) h zero = ltb-true b 128 (and_parts (nat_lt b 128) (are_ascii bs) h).0
all_ascii (b ∷ bs) h (suc i) = all_ascii bs (and_parts (nat_lt b 128) (are_ascii bs) h).1 i

pub ascii_text : (bs : List ℕ) → are_ascii bs ≡ true → is_identifier bs ≡ true → IsIdentifier bs
ascii_text bs a h = ascii_identifier bs (all_ascii bs a) h

decimal_identifier : (n : ℕ) → n < 10 ^ 64 → IsIdentifier (decimal n)
decimal_identifier n small =
    ascii_identifier (decimal n) (IsAscii-decimal_wide n small) (numeral_identifier (decimal n) (decimal_is_IsNumeral_wide n small).0)

-- what is read from identifiers is written as one that reads as it
abbrev pub WritesBack : {A : Type 0} → (List ℕ → Option A) → (A → List ℕ) → Type 0
WritesBack reads written = (bs : List ℕ) (a : _) → IsIdentifier bs → reads bs ≡ Some a → IsIdentifier (written a) ×
    (reads (written a) ≡ Some a)

-- an answer under a test
guarded : {A : Type 0} (b : Bool) (v a : A) → (if b then Some v else None) ≡ Some a → (b ≡ true) × (v ≡ a)
guarded true v a e = (refl, cc)
guarded false v a e = cc

-- the number of a text fits, and its decimal reads as it
unsigned_fits : (k n : ℕ) (bs : List ℕ) → reads_unsigned k bs ≡ Some n → n < 2 ^ k
unfolding reads_unsigned
unsigned_fits k n bs e =
    let ds = without_leading_plus bs in
    let g = guarded (is_numeral ds && nat_lt (digits_value 10 ds) (2 ^ k)) (digits_value 10 ds) n e in
    let fits : digits_value 10 ds < 2 ^ k = ltb-true (digits_value 10 ds) (2 ^ k) (and_parts (is_numeral ds) (nat_lt (digits_value 10 ds) (2 ^ k)) g.0).1 in
    omega (arith, fits, g.1)

pub unsigned_back : (k : ℕ) → 2 ^ k < 10 ^ 64 → WritesBack (reads_unsigned k) decimal
unsigned_back k wide bs n i e =
    let fits = unsigned_fits k n bs e in
    let small : n < 10 ^ 64 = omega (arith, fits, wide) in
    let numeral = decimal_is_IsNumeral_wide n small in
    let no_plus : without_leading_plus (decimal n) ≡ decimal n = without_leading_plus_none (decimal n) (λ p. omega (arith, digit_at (decimal n) 0 numeral.0.1 numeral.0.0, p)) in
    let parsed : ParsesUnsigned {E = ℕ} k 10 (decimal n) (Ok n) = rw no_plus ((numeral.0, omega (arith, numeral.1, fits)), sym numeral.1) in
    (decimal_identifier n small, sym (unsigned_parses {E = ℕ} k (decimal n) (Ok n) parsed))

pub reads_u32-fits : (bs : List ℕ) (n : ℕ) → reads_u32 bs ≡ Some n → n < 2 ^ 32
unfolding reads_u32
reads_u32-fits bs n e =
    let ds = without_leading_plus bs in
    let g = guarded (is_numeral_u32 ds) (digits_value 10 ds) n e in
    let fits : digits_value 10 ds < 2 ^ 32 = ltb-true (digits_value 10 ds) (2 ^ 32) (and_parts (nat_lt 0 (length ds) && all_ascii_digits ds) (nat_lt (digits_value 10 ds) (2 ^ 32)) g.0).1 in
    omega (arith, fits, g.1)

pub u32_back : WritesBack reads_u32 decimal
u32_back bs n i e =
    let fits = reads_u32-fits bs n e in
    (decimal_identifier n (omega (arith, fits)), reads_u32-decimal n fits)

-- a sign and digits
signed_fits : (k : ℕ) (z : ℤ) (bs : List ℕ) → reads_signed k bs ≡ Some z → fits_beside_sign k z ≡ true
unfolding reads_signed
signed_fits k z bs e =
    let ds = without_leading_sign bs in
    let y = signed_digits_value 10 bs in
    let g = guarded (is_numeral ds && fits_beside_sign k y) y z e in
    ap (fits_beside_sign k) (sym g.1) ∙ (and_parts _ _ g.0).1

ascii_after_minus : (bs : List ℕ) → IsAscii bs → IsAscii (45 ∷ bs)
ascii_after_minus bs a zero = lit< tt
ascii_after_minus bs a (suc i) = a i

signed_identifier : (k : ℕ) → 2 ^ k < 10 ^ 64 → (z : ℤ) → fits_beside_sign k z ≡ true → IsIdentifier (signed_decimal z)
signed_identifier k wide (pos n) f = decimal_identifier n (omega (arith, wide, ltb-true n (2 ^ k) f))
signed_identifier k wide (negsuc n) f =
    let small : suc n < 10 ^ 64 = omega (arith, wide, ltb-true n (2 ^ k) f) in
    ascii_identifier (45 ∷ decimal (suc n)) (ascii_after_minus (decimal (suc n)) (IsAscii-decimal_wide (suc n) small))
    (digits_run (decimal (suc n)) (decimal_is_IsNumeral_wide (suc n) small).0.1)

signed_answer : (k : ℕ) (bs ds : List ℕ) (z : ℤ) → without_leading_sign bs ≡ ds → signed_digits_value 10 bs ≡ z →
    is_numeral ds ≡ true → fits_beside_sign k z ≡ true → reads_signed k bs ≡ Some z
unfolding reads_signed
signed_answer k bs ds z w v n f =
    let holds : (is_numeral (without_leading_sign bs) && fits_beside_sign k (signed_digits_value 10 bs)) ≡ true = and_from _ _ (ap is_numeral w ∙ n) (ap (fits_beside_sign k) v ∙ f) in
    ap (λ b. cond b (Some (signed_digits_value 10 bs)) None) holds ∙ ap Some v

reads_signed-decimal : (k : ℕ) → 2 ^ k < 10 ^ 64 → (z : ℤ) → fits_beside_sign k z ≡ true → reads_signed k (signed_decimal z) ≡ Some z
reads_signed-decimal k wide (pos n) f =
    let ds = decimal n in
    let numeral = decimal_is_IsNumeral_wide n (omega (arith, wide, ltb-true n (2 ^ k) f)) in
    let front = digit_at ds 0 numeral.0.1 numeral.0.0 in
    let no_plus : without_leading_plus ds ≡ ds = without_leading_plus_none ds (λ p. omega (arith, front, p)) in
    let no_minus : starts_with_minus ds ≡ false = ne_eqb (slice_index ds 0) 45 (λ p. omega (arith, front, p)) in
    let unsigned : without_leading_sign ds ≡ ds = ap (λ b. cond b (drop 1 ds) (without_leading_plus ds)) no_minus ∙ no_plus in
    let value : signed_digits_value 10 ds ≡ pos n =
    ap (λ b. cond b (neg_ℤ (pos (digits_value 10 (without_leading_sign ds)))) (pos (digits_value 10 (without_leading_sign ds)))) no_minus
    ∙ ap (λ xs. pos (digits_value 10 xs)) unsigned ∙ ap pos numeral.1 in
    signed_answer k ds ds (pos n) unsigned value (test_from_numeral ds numeral.0) f
reads_signed-decimal k wide (negsuc n) f =
    let ds = decimal (suc n) in
    let numeral = decimal_is_IsNumeral_wide (suc n) (omega (arith, wide, ltb-true n (2 ^ k) f)) in
    signed_answer k (45 ∷ ds) ds (negsuc n) refl (ap (λ m. neg_ℤ (pos m)) numeral.1) (test_from_numeral ds numeral.0) f

pub signed_back : (k : ℕ) → 2 ^ k < 10 ^ 64 → WritesBack (reads_signed k) signed_decimal
signed_back k wide bs z i e = let fits = signed_fits k z bs e in (signed_identifier k wide z fits, reads_signed-decimal k wide z fits)

-- truth values, characters and words
pub bool_back : WritesBack reads_bool bool_text
bool_back bs true i e = (ascii_text (codes "true") refl refl, refl)
bool_back bs false i e = (ascii_text (codes "false") refl refl, refl)

only_char_parts : (cs : List ℕ) (c : ℕ) → only_char cs ≡ Some c → cs ≡ c ∷ []
only_char_parts [] c e = cc
only_char_parts (d ∷ []) c e = cc
only_char_parts (d ∷ f ∷ cs) c e = cc

pub char_back : WritesBack reads_char encode_utf8
char_back bs c i e =
    let one : chars bs ≡ c ∷ [] = only_char_parts (chars bs) c e in
    let valid : scalars (c ∷ []) ≡ true = ap scalars (sym one) ∙ scalars-chars bs i.0 in
    let again : chars (encode_utf8 c) ≡ c ∷ [] = ap chars (sym (append-nil (encode_utf8 c))) ∙ chars-encodes (c ∷ []) valid in
    ((IsUtf8-encode c (and_parts _ _ valid).0, ap is_identifier (again ∙ sym one) ∙ i.1), ap only_char again)

pub word_back : WritesBack Some (λ w. w)
word_back bs w i e = let same : bs ≡ w = cc in (subst IsIdentifier same i, refl)

-- the form of a payload with this word
abbrev pub word_form : {A : Type 0} → (A → List ℕ) → A → Form
word_form word a = plain (word a ∷ [])

-- a payload that was read from these elements
payload_read : {A : Type 0} (word : A → List ℕ) → ((a b : A) → word a ≡ word b → a ≡ b) → (o : Option A) (a : A) →
    option_map (word_form word) o ≡ Some (word_form word a) → o ≡ Some a
payload_read word told None a e = cc
payload_read word told (Some b) a e =
    let same : word_form word b ≡ word_form word a = cc in
    ap Some (told b a (cons_parts (word b) (word a) [] [] (ap (λ f. f.payloads) same)).0)

payload_back : {A : Type 0} (word : A → List ℕ) (told : (a b : A) → word a ≡ word b → a ≡ b) (reads : List ℕ → Option A) (written : A → List ℕ) → WritesBack reads written
    → (es : List Element) (a : A) → HasIdentifiers es →
    option_map (word_form word) (read_text reads es) ≡ Some (word_form word a) → IsIdentifier (written a) × (reads (written a) ≡ Some a)
payload_back word told reads written law (text bs ∷ []) a h e = law bs a h.0 (payload_read word told (reads bs) a e)
payload_back word told reads written law es a h e = cc

-- what nodes that were read from identifiers are written as has identifiers again, and reads as the same
abbrev pub WritesIdentifiers : {A : Type 0} → (A → Form) → (A → List Element) → (List Element → Option Form) → Type 0
WritesIdentifiers {A} form shown read = (es : List Element) (a : A) → HasIdentifiers es → read es ≡ Some (form a) → HasIdentifiers (shown a)

abbrev pub ReadsAgain : {A : Type 0} → (A → Form) → (A → List Element) → (List Element → Option Form) → Type 0
ReadsAgain {A} form shown read = (es : List Element) (a : A) → HasIdentifiers es → read es ≡ Some (form a) → read (shown a) ≡ Some (form a)

-- the laws of payloads
pub payload_words : {A : Type 0} (word : A → List ℕ) (told : (a b : A) → word a ≡ word b → a ≡ b) (reads : List ℕ → Option A) (written : A → List ℕ) → WritesBack reads written
    → (es : List Element) (a : A) → HasIdentifiers es →
    option_map (word_form word) (read_text reads es) ≡ Some (word_form word a) → HasIdentifiers (text (written a) ∷ [])
payload_words word told reads written law es a h e = ((payload_back word told reads written law es a h e).0, tt)

pub payload_reads : {A : Type 0} (word : A → List ℕ) (told : (a b : A) → word a ≡ word b → a ≡ b) (reads : List ℕ → Option A) (written : A → List ℕ) → WritesBack reads written
    → (es : List Element) (a : A) → HasIdentifiers es →
    option_map (word_form word) (read_text reads es) ≡ Some (word_form word a) →
    option_map (word_form word) (read_text reads (text (written a) ∷ [])) ≡ Some (word_form word a)
payload_reads word told reads written law es a h e = ap (option_map (word_form word)) (payload_back word told reads written law es a h e).1

payload_null_of : {A : Type 0} (word : A → List ℕ) (o : Option A) → IfSome (option_map (word_form word) o) HasNullChildren
payload_null_of word None = tt
payload_null_of word (Some a) = tt

pub payload_null : {A : Type 0} (word : A → List ℕ) (reads : List ℕ → Option A) (es : List Element) → HasNullIds es →
    IfSome (option_map (word_form word) (read_text reads es)) HasNullChildren
payload_null word reads (text bs ∷ []) h = payload_null_of word (reads bs)
payload_null word reads es h = tt

-- numbers as words
pub number_parts : (m n : ℕ) → ◌≡◌ {A = List ℕ} (m ∷ []) (n ∷ []) → m ≡ n
number_parts m n e = (cons_parts m n [] [] e).0

-- slots and children
pub slot_null : (es : List Element) → HasNullIds es → IfSome (read_slot es) HasNullChildren
slot_null (name x ∷ []) h = tt
slot_null es h = tt

pub child_null : (es : List Element) → HasNullIds es → IfSome (read_child es) HasNullChildren
child_null (applied i m ∷ []) h = (h.0, ap keys h.1, tt)
child_null es h = tt

-- binders
bind_parts : (x y : ℕ) (f g : Form) → bind_form x f ≡ bind_form y g → f ≡ g
bind_parts x y f g e =
    let names = cons_parts x y f.names g.names (ap (λ f. f.names) e) in
    let trees = tree_bind f.tree g.tree leaf leaf (ap (λ f. f.tree) e) in
    form_ext f g (ap (λ f. f.operator) e) (ap (λ f. f.payloads) e) trees.0 names.1

bound_read : (x y : ℕ) (o : Option Form) (f : Form) → option_map (bind_form x) o ≡ Some (bind_form y f) → o ≡ Some f
bound_read x y None f e = cc
bound_read x y (Some g) f e = let same : bind_form x g ≡ bind_form y f = cc in ap Some (bind_parts x y g f same)

bind_read_of : (read : List Element → Option Form) (es : List Element) (x : ℕ) (f : Form) → HasIdentifiers es →
    read_bind read es ≡ Some (bind_form x f) → (ds : List Element) × HasIdentifiers ds × (read ds ≡ Some f)
bind_read_of read (name y ∷ ds) x f h e = (ds, h, bound_read y x (read ds) f e)
bind_read_of read es x f h e = cc

pub bound_words : (read : List Element → Option Form) (x : ℕ) (f : Form) (shown : List Element)
    → ((ds : List Element) → HasIdentifiers ds → read ds ≡ Some f → HasIdentifiers shown)
    → (es : List Element) → HasIdentifiers es → read_bind read es ≡ Some (bind_form x f) → HasIdentifiers (name x ∷ shown)
bound_words read x f shown law es h e = let d = bind_read_of read es x f h e in law d.0 d.1 d.2

pub bound_back : (read : List Element → Option Form) (x : ℕ) (f : Form) (shown : List Element)
    → ((ds : List Element) → HasIdentifiers ds → read ds ≡ Some f → read shown ≡ Some f)
    → (es : List Element) → HasIdentifiers es → read_bind read es ≡ Some (bind_form x f) →
    read_bind read (name x ∷ shown) ≡ Some (bind_form x f)
bound_back read x f shown law es h e = let d = bind_read_of read es x f h e in ap (option_map (bind_form x)) (law d.0 d.1 d.2)

bound_null : (x : ℕ) (o : Option Form) → IfSome o HasNullChildren → IfSome (option_map (bind_form x) o) HasNullChildren
bound_null x None h = tt
bound_null x (Some f) h = subst AreNull (sym (append-nil (children f.tree))) h

pub bind_null : (read : List Element → Option Form) → ((es : List Element) → HasNullIds es → IfSome (read es) HasNullChildren) →
    (es : List Element) → HasNullIds es → IfSome (read_bind read es) HasNullChildren
bind_null read law (name x ∷ es) h = bound_null x (read es) (law es h)
bind_null read law es h = tt

-- the numbers of k bits, and those of a sign and k bits
abbrev number_form : ℕ → Form
number_form = word_form (λ n. n ∷ [])

pub unsigned_words : (k : ℕ) → 2 ^ k < 10 ^ 64 →
    WritesIdentifiers number_form (λ n. text (decimal n) ∷ []) (λ es. option_map number_form (read_text (reads_unsigned k) es))
unsigned_words k wide = payload_words (λ n. n ∷ []) number_parts (reads_unsigned k) decimal (unsigned_back k wide)

pub unsigned_reads : (k : ℕ) → 2 ^ k < 10 ^ 64 →
    ReadsAgain number_form (λ n. text (decimal n) ∷ []) (λ es. option_map number_form (read_text (reads_unsigned k) es))
unsigned_reads k wide = payload_reads (λ n. n ∷ []) number_parts (reads_unsigned k) decimal (unsigned_back k wide)

pub signed_words : (k : ℕ) → 2 ^ k < 10 ^ 64 →
    WritesIdentifiers (word_form signed_word) (λ z. text (signed_decimal z) ∷ []) (λ es. option_map (word_form signed_word) (read_text (reads_signed k) es))
signed_words k wide = payload_words signed_word signed_parts (reads_signed k) signed_decimal (signed_back k wide)

pub signed_reads : (k : ℕ) → 2 ^ k < 10 ^ 64 →
    ReadsAgain (word_form signed_word) (λ z. text (signed_decimal z) ∷ []) (λ es. option_map (word_form signed_word) (read_text (reads_signed k) es))
signed_reads k wide = payload_reads signed_word signed_parts (reads_signed k) signed_decimal (signed_back k wide)
