-- Where the words begin that are left while a text is read. A `:` with which a run begins is a word only once the next character is known.
use Rattle.std.proofs.Common.{◌≡◌, ℕ, zero, suc, ◌-◌, ◌+◌, ◌≤◌, List, [], ◌∷◌, length, drop, sym, ap, ◌∙◌, refl, arith, rules, subst}
use Rattle.std.proofs.lemmas.Bool.{true≢false}
use Rattle.std.proofs.lemmas.List.{at_drop_more, at_drop_all}
use borrow.Author.Tests.{tests}
use Rattle.std.specs.Prelude.{Bool, true, false, not, ◌&&◌, if◌then◌else◌, ◌==◌, ◌≢◌, Option, Some, None, slice_get, slice_index}
use Rattle.std.specs.Str.{chars}
use Rattle.slotted_messages.specs.Columns.{behind, shows_word, shown_at, words_from, word_columns}
use Rattle.slotted_patterns.specs.Tokens.{is_of_run}
use Rattle.slotted_messages.specs.declared.columns.Before.{Before}
use Rattle.slotted_messages.specs.declared.columns.Before.TheVariants.{Free, Colon, Run}
use Rattle.slotted_messages.proofs.Reading.{IsNext, get_behind}

-- the columns at which words begin behind the first n characters, with a `:` that is the last of these
abbrev pub pending : Before → ℕ → List ℕ → List ℕ
pending Free n ds = words_from Free (n + 1) ds
pending Colon n ds = if slice_index ds 0 == 61 then words_from Colon (n + 1) ds else n ∷ words_from Colon (n + 1) ds
pending Run n ds = words_from Run (n + 1) ds

abbrev pub words_left : Before → List ℕ → ℕ → List ℕ
words_left b cs n = pending b n (drop n cs)

pub all_words : (bs : List ℕ) → words_left Free (chars bs) 0 ≡ word_columns bs
unfolding word_columns
all_words bs = refl

-- the words by what stands in front, of which a `:` in front of these is one unless a `=` follows
abbrev later : (Before → List ℕ) → ℕ → Bool → Before → List ℕ
later words m equals Free = words Free
later words m equals Colon = if equals then words Colon else m ∷ words Colon
later words m equals Run = words Run

-- the two sides below for a character behind nothing, by what it is and whether a `=` follows
free_case : (words : Before → List ℕ) (m : ℕ) (of_run mark slot colon equals : Bool) → (colon ≡ true → (mark ≡ false) × (slot ≡ false)) →
    (if true && of_run && not mark && not slot && not (colon && equals)
    then m ∷ words (if of_run then (if colon then Colon else Run) else Free) else words (if of_run then (if colon then Colon else Run) else Free))
    ≡ (if of_run && not mark && not slot && not colon
    then m ∷ later words m equals (if of_run then (if colon then Colon else Run) else Free)
    else later words m equals (if of_run then (if colon then Colon else Run) else Free))
free_case words m false mark slot colon equals apart = refl
free_case words m true true slot false equals apart = refl
free_case words m true false true false equals apart = refl
free_case words m true false false false equals apart = refl
free_case words m true true slot true equals apart = absurd (true≢false (apart refl).0)
free_case words m true false true true equals apart = absurd (true≢false (apart refl).1)
free_case words m true false false true true apart = refl
free_case words m true false false true false apart = refl

colon_case : (words : Before → List ℕ) (n : ℕ) (of_run equals next : Bool) → (equals ≡ true → of_run ≡ true) →
    (if equals then words (if of_run then (if equals then Free else Run) else Free) else n ∷ words (if of_run then (if equals then Free else Run) else Free))
    ≡ (if not equals then n ∷ later words (n + 1) next (if of_run then (if equals then Free else Run) else Free)
    else later words (n + 1) next (if of_run then (if equals then Free else Run) else Free))
colon_case words n true true next apart = refl
colon_case words n true false next apart = refl
colon_case words n false true next apart = absurd (true≢false (sym (apart refl)))
colon_case words n false false next apart = refl

run_case : (words : Before → List ℕ) (m : ℕ) (of_run next : Bool) → words (if of_run then Run else Free) ≡ later words m next (if of_run then Run else Free)
run_case words m true next = refl
run_case words m false next = refl

colon_is : (c : ℕ) → (c == 58) ≡ true → ((c == 63) ≡ false) × ((c == 36) ≡ false)
colon_is c e = let same : c ≡ 58 = search (rules, tests) in subst (λ (x : ℕ). ((x == 63) ≡ false) × ((x == 36) ≡ false)) (sym same) (refl, refl)

equals_is : (c : ℕ) → (c == 61) ≡ true → is_of_run c ≡ true
equals_is c e = let same : c ≡ 61 = search (rules, tests) in ap is_of_run same

pending_later : (b : Before) (n : ℕ) (ds : List ℕ) → later (λ b'. words_from b' (n + 1) ds) n (slice_index ds 0 == 61) b ≡ pending b n ds
pending_later Free n ds = refl
pending_later Colon n ds = refl
pending_later Run n ds = refl

pending_more : (b : Before) (n c : ℕ) (ds : List ℕ) → pending b n (c ∷ ds) ≡ (if shows_word b c then shown_at b (n + 1) ∷ pending (behind b c) (n + 1) ds else pending (behind b c) (n + 1) ds)
pending_more Free n c ds =
    let rest = pending_later (behind Free c) (n + 1) ds in
    free_case (λ b. words_from b (n + 1 + 1) ds) (n + 1) (is_of_run c) (c == 63) (c == 36) (c == 58) (slice_index ds 0 == 61) (colon_is c)
    ∙ (λ i. if shows_word Free c then (n + 1) ∷ rest i else rest i)
pending_more Colon n c ds =
    let rest = pending_later (behind Colon c) (n + 1) ds in
    let back : n ≡ n + 1 - 1 = omega arith in
    colon_case (λ b. words_from b (n + 1 + 1) ds) n (is_of_run c) (c == 61) (slice_index ds 0 == 61) (equals_is c)
    ∙ (λ i. if shows_word Colon c then back i ∷ rest i else rest i)
pending_more Run n c ds =
    run_case (λ b. words_from b (n + 1 + 1) ds) (n + 1) (is_of_run c) (slice_index ds 0 == 61) ∙ pending_later (behind Run c) (n + 1) ds

words_more : (b : Before) (cs : List ℕ) (n c : ℕ) → IsNext cs n c → words_left b cs n ≡ (if shows_word b c then shown_at b (n + 1) ∷ words_left (behind b c) cs (n + 1) else words_left (behind b c) cs (n + 1))
words_more b cs n c next =
    at_drop_more (pending b n) cs n c next.0
    ∙ (ap (λ x. pending b n (x ∷ drop (n + 1) cs)) (sym next.1) ∙ pending_more b n c (drop (n + 1) cs))

-- the word that was sought is the one that a character shows
pub word_found : (cs : List ℕ) (b : Before) (n c k column begun : ℕ) (sought : Option ℕ) → IsNext cs n c → shows_word b c ≡ true → k ≡ 0 → column ≡ n → begun ≡ shown_at b (column + 1) → slice_get (words_left b cs n) k ≡ sought → Some begun ≡ sought
word_found cs b n c k column begun sought next shows here at at_begun rest =
    let is = words_more b cs n c next ∙ ap (λ x. if x then shown_at b (n + 1) ∷ words_left (behind b c) cs (n + 1) else words_left (behind b c) cs (n + 1)) shows in
    let place : begun ≡ shown_at b (n + 1) = at_begun ∙ ap (λ m. shown_at b (m + 1)) at in
    ap Some place ∙ (sym (λ i. slice_get (is i) (here i)) ∙ rest)

-- it is a later one, and a character shows one
pub word_behind : (cs : List ℕ) (b b' : Before) (n n' c k : ℕ) (sought : Option ℕ) → IsNext cs n c → shows_word b c ≡ true → k ≢ 0 → b' ≡ behind b c → n' ≡ n + 1 → slice_get (words_left b cs n) k ≡ sought → slice_get (words_left b' cs n') (k - 1) ≡ sought
word_behind cs b b' n n' c k sought next shows other state more rest =
    let is = words_more b cs n c next ∙ ap (λ x. if x then shown_at b (n + 1) ∷ words_left (behind b c) cs (n + 1) else words_left (behind b c) cs (n + 1)) shows in
    (λ i. slice_get (words_left (state i) cs (more i)) (k - 1))
    ∙ (sym (get_behind (shown_at b (n + 1)) (words_left (behind b c) cs (n + 1)) k other) ∙ (sym (ap (λ xs. slice_get xs k) is) ∙ rest))

-- a character shows none
pub word_later : (cs : List ℕ) (b b' : Before) (n n' c k : ℕ) (sought : Option ℕ) → IsNext cs n c → shows_word b c ≡ false → b' ≡ behind b c → n' ≡ n + 1 → slice_get (words_left b cs n) k ≡ sought → slice_get (words_left b' cs n') k ≡ sought
word_later cs b b' n n' c k sought next shows state more rest =
    let is = words_more b cs n c next ∙ ap (λ x. if x then shown_at b (n + 1) ∷ words_left (behind b c) cs (n + 1) else words_left (behind b c) cs (n + 1)) shows in
    (λ i. slice_get (words_left (state i) cs (more i)) k) ∙ (sym (ap (λ xs. slice_get xs k) is) ∙ rest)

-- at the end of the text

pub last_word : (cs : List ℕ) (b : Before) (n k column : ℕ) (sought : Option ℕ) → length cs ≤ n → b ≡ Colon → k ≡ 0 → column ≡ n → slice_get (words_left b cs n) k ≡ sought → Some column ≡ sought
last_word cs b n k column sought end colon here at rest =
    ap Some at ∙ (sym (at_drop_all (λ ds. slice_get (pending b n ds) k) cs n end ∙ (λ i. slice_get (pending (colon i) n []) (here i))) ∙ rest)

none_pending : (b : Before) (n k : ℕ) → (b ≡ Colon → k ≢ 0) → None ≡ slice_get (pending b n []) k
none_pending Free n k other = refl
none_pending Colon n zero other = absurd (other refl refl)
none_pending Colon n (suc k) other = refl
none_pending Run n k other = refl

pub no_word : (cs : List ℕ) (b : Before) (n k : ℕ) (sought : Option ℕ) → length cs ≤ n → (b ≡ Colon → k ≢ 0) → slice_get (words_left b cs n) k ≡ sought → None ≡ sought
no_word cs b n k sought end other rest =
    none_pending b n k other ∙ (sym (at_drop_all (λ ds. slice_get (pending b n ds) k) cs n end) ∙ rest)
