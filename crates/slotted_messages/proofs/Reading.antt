-- Where the tokens begin that are left while a text is read.
use Rattle.std.proofs.Common.{◌≡◌, ℕ, zero, suc, ◌-◌, ◌+◌, ◌<◌, ◌≤◌, List, [], ◌∷◌, length, get_or, drop, sym, ap, ◌∙◌, refl, arith}
use Rattle.std.proofs.lemmas.List.{at_drop_more, at_drop_all}
use Rattle.std.specs.Prelude.{true, false, if◌then◌else◌, ◌≢◌, Some, None, slice_get}
use Rattle.std.specs.Str.{chars}
use Rattle.slotted_messages.specs.Columns.{begins, behind, columns_from, token_columns}
use Rattle.slotted_messages.specs.declared.columns.Before.{Before}
use Rattle.slotted_messages.specs.declared.columns.Before.TheVariants.{Free}

-- the columns at which tokens begin behind the first n characters
abbrev pub columns_left : Before → List ℕ → ℕ → List ℕ
columns_left b cs n = columns_from b (n + 1) (drop n cs)

pub all_left : (bs : List ℕ) → columns_left Free (chars bs) 0 ≡ token_columns bs
unfolding token_columns
all_left bs = refl

-- the next character is this one
abbrev pub IsNext : List ℕ → ℕ → ℕ → Type 0
IsNext cs n c = (n < length cs) × (c ≡ get_or cs n c)

left_more : (b : Before) (cs : List ℕ) (n c : ℕ) → IsNext cs n c → columns_left b cs n ≡ (if begins b c then (n + 1) ∷ columns_left (behind b c) cs (n + 1) else columns_left (behind b c) cs (n + 1))
left_more b cs n c next =
    at_drop_more (columns_from b (n + 1)) cs n c next.0
    ∙ ap (λ x. columns_from b (n + 1) (x ∷ drop (n + 1) cs)) (sym next.1)

pub left_begun : (b : Before) (cs : List ℕ) (n c : ℕ) → IsNext cs n c → begins b c ≡ true → columns_left b cs n ≡ (n + 1) ∷ columns_left (behind b c) cs (n + 1)
left_begun b cs n c next e = left_more b cs n c next ∙ ap (λ x. if x then (n + 1) ∷ columns_left (behind b c) cs (n + 1) else columns_left (behind b c) cs (n + 1)) e

pub left_later : (b : Before) (cs : List ℕ) (n c : ℕ) → IsNext cs n c → begins b c ≡ false → columns_left b cs n ≡ columns_left (behind b c) cs (n + 1)
left_later b cs n c next e = left_more b cs n c next ∙ ap (λ x. if x then (n + 1) ∷ columns_left (behind b c) cs (n + 1) else columns_left (behind b c) cs (n + 1)) e

pub left_none : (b : Before) (cs : List ℕ) (n : ℕ) → length cs ≤ n → columns_left b cs n ≡ []
left_none b cs n end = at_drop_all (columns_from b (n + 1)) cs n end

-- a character at which a token begins leaves one token less
pub counted_begun : (cs : List ℕ) (b b' : Before) (n n' c count total : ℕ) → IsNext cs n c → begins b c ≡ true → b' ≡ behind b c → n' ≡ n + 1 → count + length (columns_left b cs n) ≡ total → count + 1 + length (columns_left b' cs n') ≡ total
counted_begun cs b b' n n' c count total next e state more counted =
    let begun = ap length (left_begun b cs n c next e) in
    let same : length (columns_left b' cs n') ≡ length (columns_left (behind b c) cs (n + 1)) = (λ i. length (columns_left (state i) cs (more i))) in
    omega (arith, begun, same, counted)

-- another character leaves as many
pub counted_later : (cs : List ℕ) (b b' : Before) (n n' c count total : ℕ) → IsNext cs n c → begins b c ≡ false → b' ≡ behind b c → n' ≡ n + 1 → count + length (columns_left b cs n) ≡ total → count + length (columns_left b' cs n') ≡ total
counted_later cs b b' n n' c count total next e state more counted =
    let later = ap length (left_later b cs n c next e) in
    let same : length (columns_left b' cs n') ≡ length (columns_left (behind b c) cs (n + 1)) = (λ i. length (columns_left (state i) cs (more i))) in
    omega (arith, later, same, counted)

-- the tokens that are left behind one, by their numbers
pub get_behind : (x : ℕ) (xs : List ℕ) (k : ℕ) → k ≢ 0 → slice_get (x ∷ xs) k ≡ slice_get xs (k - 1)
get_behind x xs zero e = absurd (e refl)
get_behind x xs (suc k) e = ap (slice_get xs) (omega arith)

pub found_begun : (cs : List ℕ) (b : Before) (n c k : ℕ) (all : List ℕ) (number column : ℕ) → IsNext cs n c → begins b c ≡ true → k ≡ 0 → column ≡ n + 1 → slice_get (columns_left b cs n) k ≡ slice_get all number → Some column ≡ slice_get all number
found_begun cs b n c k all number column next e here at rest =
    let begun = left_begun b cs n c next e in
    sym (ap Some (sym at)) ∙ (sym (λ i. slice_get (begun i) (here i)) ∙ rest)

pub left_begun_at : (cs : List ℕ) (b b' : Before) (n n' c k : ℕ) (all : List ℕ) (number : ℕ) → IsNext cs n c → begins b c ≡ true → k ≢ 0 → b' ≡ behind b c → n' ≡ n + 1 → slice_get (columns_left b cs n) k ≡ slice_get all number → slice_get (columns_left b' cs n') (k - 1) ≡ slice_get all number
left_begun_at cs b b' n n' c k all number next e later state more rest =
    let begun = left_begun b cs n c next e in
    (λ i. slice_get (columns_left (state i) cs (more i)) (k - 1))
    ∙ (sym (get_behind (n + 1) (columns_left (behind b c) cs (n + 1)) k later) ∙ (sym (ap (λ xs. slice_get xs k) begun) ∙ rest))

pub left_later_at : (cs : List ℕ) (b b' : Before) (n n' c k : ℕ) (all : List ℕ) (number : ℕ) → IsNext cs n c → begins b c ≡ false → b' ≡ behind b c → n' ≡ n + 1 → slice_get (columns_left b cs n) k ≡ slice_get all number → slice_get (columns_left b' cs n') k ≡ slice_get all number
left_later_at cs b b' n n' c k all number next e state more rest =
    (λ i. slice_get (columns_left (state i) cs (more i)) k) ∙ (sym (ap (λ xs. slice_get xs k) (left_later b cs n c next e)) ∙ rest)

pub none_left_at : (cs : List ℕ) (b : Before) (n k : ℕ) (all : List ℕ) (number : ℕ) → length cs ≤ n → slice_get (columns_left b cs n) k ≡ slice_get all number → None ≡ slice_get all number
none_left_at cs b n k all number end rest = sym (ap (λ xs. slice_get xs k) (left_none b cs n end)) ∙ rest
