-- The columns at which tokens, or some of them, begin are those of the tokens that the parser reads.
use Rattle.std.proofs.Common.{◌≡◌, ℕ, suc, ◌-◌, ◌+◌, List, [], ◌∷◌, length, drop, sym, ap, ◌∙◌, refl, arith, cond, subst}
use Rattle.std.proofs.lemmas.Bool.{true≢false}
use Rattle.std.proofs.Common.{rules}
use borrow.Author.Tests.{tests}
use Rattle.std.proofs.lemmas.List.{length-drop}
use Rattle.std.proofs.lemmas.List.Sums.{prefix_len-le-length}
use Rattle.std.specs.Prelude.{Bool, true, false, not, ◌&&◌, ◌||◌, if◌then◌else◌, ◌==◌, Option, Some, None, is_some, slice_get, slice_index}
use Rattle.std.specs.Char.{is_whitespace}
use Rattle.std.specs.List.{filter, prefix_len}
use Rattle.std.specs.Str.{encode_utf8_all}
use Rattle.slotted_lists.proofs.Booleans.{and-true as both}
use Rattle.slotted_slots.specs.Syntax.{Lexeme}
use Rattle.slotted_slots.specs.Table.{Table, NamedOutcome, gives, too_large, no_place, named_of}
use Rattle.slotted_patterns.specs.Tokens.{Next, nothing, token, refused, bracket_of, bracket_or, is_of_run, is_colon_equals, run, after_run, after_white_space, variable_token, named_token, slot_token, sign_or_word, token_at, next_token, BeginsWith}
use Rattle.slotted_messages.specs.Columns.{behind, columns_of}
use Rattle.slotted_messages.specs.Parsed.{column_of_rest}
use Rattle.slotted_messages.specs.declared.columns.Before.{Before}
use Rattle.slotted_messages.specs.declared.columns.Before.TheVariants.{Free, Colon, Run}

-- a column in front of others, if there is one
abbrev with_column : Bool → ℕ → List ℕ → List ℕ
with_column b n ns = if b then n ∷ ns else ns

-- what a test tells of characters fits what is told of the tokens that begin there
pub record Fits (test : Before → ℕ → List ℕ → Bool) (marks : Lexeme → Bool) : Type 0 where
  pub white : (c : ℕ) (cs : List ℕ) → is_whitespace c ≡ true → test Free c cs ≡ false
  pub inside : (c : ℕ) (cs : List ℕ) → is_of_run c ≡ true → test Run c cs ≡ false
  pub outside : (c : ℕ) (cs : List ℕ) → is_of_run c ≡ false → test Run c cs ≡ test Free c cs
  pub colon : (c : ℕ) (cs : List ℕ) → test Colon c cs ≡ test Run c cs
  pub first : (t u : Table) (c : ℕ) (cs rest : List ℕ) (l : Lexeme) → is_whitespace c ≡ false → token_at t (c ∷ cs) ≡ token l rest u → test Free c cs ≡ marks l

-- prefixes

covered : (p : ℕ → Bool) (cs : List ℕ) → prefix_len p cs + length (drop (prefix_len p cs) cs) ≡ length cs
covered p cs = omega (arith, prefix_len-le-length p cs, length-drop (prefix_len p cs) cs)

prefix_more : (p : ℕ → Bool) (c : ℕ) (cs : List ℕ) → p c ≡ true → prefix_len p (c ∷ cs) ≡ suc (prefix_len p cs)
prefix_more p c cs e = let one_more : 1 + prefix_len p cs ≡ suc (prefix_len p cs) = omega arith in ap (λ b. cond b (1 + prefix_len p cs) 0) e ∙ one_more

prefix_none : (p : ℕ → Bool) (c : ℕ) (cs : List ℕ) → p c ≡ false → prefix_len p (c ∷ cs) ≡ 0
prefix_none p c cs e = ap (λ b. cond b (1 + prefix_len p cs) 0) e

-- this text begins with no white space
abbrev pub BeginsBlack : List ℕ → Type 0
BeginsBlack [] = Unit {0}
BeginsBlack (c ∷ cs) = is_whitespace c ≡ false

black_behind : (c : ℕ) (cs : List ℕ) (w : Bool) → is_whitespace c ≡ w → BeginsBlack (after_white_space cs) → BeginsBlack (after_white_space (c ∷ cs))
black_behind c cs true e later = subst (λ (p : ℕ). BeginsBlack (drop p (c ∷ cs))) (sym (prefix_more is_whitespace c cs e)) later
black_behind c cs false e later = subst (λ (p : ℕ). BeginsBlack (drop p (c ∷ cs))) (sym (prefix_none is_whitespace c cs e)) e

pub black : (cs : List ℕ) → BeginsBlack (after_white_space cs)
black [] = tt
black (c ∷ cs) = black_behind c cs (is_whitespace c) refl (black cs)

-- what a character is

pub code_is : (x k : ℕ) → (x == k) ≡ true → x ≡ k
code_is x k h = search (rules, tests)

free_behind : (b : Before) (c : ℕ) → is_of_run c ≡ false → behind b c ≡ Free
free_behind Free c e = (λ i. if e i then (if c == 58 then Colon else Run) else Free)
free_behind Colon c e = (λ i. if e i then (if c == 61 then Free else Run) else Free)
free_behind Run c e = (λ i. if e i then Run else Free)

white_is_of_no_run : (c : ℕ) → is_whitespace c ≡ true → is_of_run c ≡ false
white_is_of_no_run c e = (λ i. not (e i || is_some (bracket_of c)))

after_first : (c : ℕ) (es : List ℕ) → is_of_run c ≡ true → after_run es ≡ after_run (c ∷ es)
after_first c es e = (λ i. drop (sym (prefix_more is_of_run c es e) i) (c ∷ es))

never : (b : Bool) → (b && false) ≡ true → ⊥
never true h = true≢false (sym h)
never false h = true≢false (sym h)

counted_mark : (b : Bool) (k : ℕ) (ns : List ℕ) (l : Lexeme) (ls : List Lexeme) → length ns ≡ length ls → length (with_column b k ns) ≡ length (cond b (l ∷ ls) ls)
counted_mark true k ns l ls e = ap suc e
counted_mark false k ns l ls e = e

got_mark : (b : Bool) (k : ℕ) (ns : List ℕ) (l : Lexeme) (ls : List Lexeme) → slice_get (with_column b k ns) (length (cond b (l ∷ ls) ls)) ≡ slice_get ns (length ls)
got_mark true k ns l ls = refl
got_mark false k ns l ls = refl

module _ (test : Before → ℕ → List ℕ → Bool) (marks : Lexeme → Bool) (fits : Fits test marks) where
  abbrev columns : Before → ℕ → List ℕ → List ℕ
  columns b n cs = columns_of test b n cs

  one_more : (b b' : Before) (n c : ℕ) (cs : List ℕ) (m : Bool) → test b c cs ≡ m → behind b c ≡ b' → columns b n (c ∷ cs) ≡ with_column m n (columns b' (n + 1) cs)
  one_more b b' n c cs m e s = (λ i. if e i then n ∷ columns (s i) (n + 1) cs else columns (s i) (n + 1) cs)

  -- white space in front
  white_step : (n c : ℕ) (cs : List ℕ) (w : Bool) → is_whitespace c ≡ w
      → columns Free (n + 1) cs ≡ columns Free (n + 1 + prefix_len is_whitespace cs) (after_white_space cs)
      → columns Free n (c ∷ cs) ≡ columns Free (n + prefix_len is_whitespace (c ∷ cs)) (after_white_space (c ∷ cs))
  white_step n c cs true e later =
      let p : ℕ = prefix_len is_whitespace cs in
      let len : prefix_len is_whitespace (c ∷ cs) ≡ suc p = prefix_more is_whitespace c cs e in
      let at : n + 1 + p ≡ n + suc p = omega arith in
      one_more Free Free n c cs false (fits.white c cs e) (free_behind Free c (white_is_of_no_run c e))
      ∙ (later ∙ (ap (λ m. columns Free m (drop p cs)) at ∙ (λ i. columns Free (n + sym len i) (drop (sym len i) (c ∷ cs)))))
  white_step n c cs false e later =
      let len : prefix_len is_whitespace (c ∷ cs) ≡ 0 = prefix_none is_whitespace c cs e in
      let at : n ≡ n + 0 = omega arith in
      ap (λ m. columns Free m (c ∷ cs)) at ∙ (λ i. columns Free (n + sym len i) (drop (sym len i) (c ∷ cs)))

  white_in_front : (n : ℕ) (cs : List ℕ) → columns Free n cs ≡ columns Free (n + prefix_len is_whitespace cs) (after_white_space cs)
  white_in_front n [] = ap (λ m. columns Free m []) (plus_none n)
    where
      plus_none : (k : ℕ) → k ≡ k + 0
      plus_none k = omega arith
  white_in_front n (c ∷ cs) = white_step n c cs (is_whitespace c) refl (white_in_front (n + 1) cs)

  -- the rest of a run
  run_step : (n c : ℕ) (cs : List ℕ) (o : Bool) → is_of_run c ≡ o
      → columns Run (n + 1) cs ≡ columns Free (n + 1 + prefix_len is_of_run cs) (after_run cs)
      → columns Run n (c ∷ cs) ≡ columns Free (n + prefix_len is_of_run (c ∷ cs)) (after_run (c ∷ cs))
  run_step n c cs true e later =
      let p : ℕ = prefix_len is_of_run cs in
      let len : prefix_len is_of_run (c ∷ cs) ≡ suc p = prefix_more is_of_run c cs e in
      let stays : behind Run c ≡ Run = (λ i. if e i then Run else Free) in
      let at : n + 1 + p ≡ n + suc p = omega arith in
      one_more Run Run n c cs false (fits.inside c cs e) stays
      ∙ (later ∙ (ap (λ m. columns Free m (drop p cs)) at ∙ (λ i. columns Free (n + sym len i) (drop (sym len i) (c ∷ cs)))))
  run_step n c cs false e later =
      let len : prefix_len is_of_run (c ∷ cs) ≡ 0 = prefix_none is_of_run c cs e in
      let at : n ≡ n + 0 = omega arith in
      one_more Run Free n c cs (test Free c cs) (fits.outside c cs e) (free_behind Run c e)
      ∙ (sym (one_more Free Free n c cs (test Free c cs) refl (free_behind Free c e))
      ∙ (ap (λ m. columns Free m (c ∷ cs)) at ∙ (λ i. columns Free (n + sym len i) (drop (sym len i) (c ∷ cs)))))

  run_in_front : (n : ℕ) (cs : List ℕ) → columns Run n cs ≡ columns Free (n + prefix_len is_of_run cs) (after_run cs)
  run_in_front n [] = refl
  run_in_front n (c ∷ cs) = run_step n c cs (is_of_run c) refl (run_in_front (n + 1) cs)

  -- behind a `:` the run goes on, unless a `=` follows
  colon_as_run : (n : ℕ) (es : List ℕ) → (slice_index es 0 == 61) ≡ false → columns Colon n es ≡ columns Run n es
  colon_as_run n [] e = refl
  colon_as_run n (d ∷ ds) e =
      let state : behind Colon d ≡ behind Run d = (λ i. if is_of_run d then (if e i then Free else Run) else Free) in
      one_more Colon (behind Run d) n d ds (test Run d ds) (fits.colon d ds) state

  as_run : (n : ℕ) (es : List ℕ) (b : Bool) → (b && (slice_index es 0 == 61)) ≡ false → columns (if b then Colon else Run) n es ≡ columns Run n es
  as_run n es true e = colon_as_run n es e
  as_run n es false e = refl

  -- the columns of a text go on behind its first token, which begins at column k and has one of them if `m`, and the text ends at column N
  abbrev Goes : Bool → ℕ → ℕ → List ℕ → List ℕ → Type 0
  Goes m k N cols rest = (n : ℕ) × (n + length rest ≡ N) × (cols ≡ with_column m k (columns Free n rest))

  abbrev Follows : Bool → ℕ → ℕ → List ℕ → Next → Type 0
  Follows m k N cols nothing = cols ≡ []
  Follows m k N cols (token l rest u) = Goes m k N cols rest
  Follows m k N cols (refused o) = Unit {0}

  Follows-cond : (m : Bool) (k N : ℕ) (cols : List ℕ) (b : Bool) (x y : Next) → (b ≡ true → Follows m k N cols x) → (b ≡ false → Follows m k N cols y) → Follows m k N cols (cond b x y)
  Follows-cond m k N cols true x y h l = h refl
  Follows-cond m k N cols false x y h l = l refl

  Follows-variable : (m : Bool) (k N : ℕ) (cols : List ℕ) (t : Table) (name rest : List ℕ) → Goes m k N cols rest → Follows m k N cols (variable_token t name rest)
  Follows-variable m k N cols t [] rest h = tt
  Follows-variable m k N cols t (c ∷ cs) rest h = h

  Follows-named : (m : Bool) (k N : ℕ) (cols : List ℕ) (o : NamedOutcome) (rest : List ℕ) → Goes m k N cols rest → Follows m k N cols (named_token o rest)
  Follows-named m k N cols (gives s u) rest h = h
  Follows-named m k N cols too_large rest h = tt
  Follows-named m k N cols no_place rest h = tt

  Follows-slot : (m : Bool) (k N : ℕ) (cols : List ℕ) (t : Table) (name rest : List ℕ) → Goes m k N cols rest → Follows m k N cols (slot_token t name rest)
  Follows-slot m k N cols t [] rest h = tt
  Follows-slot m k N cols t (c ∷ cs) rest h = Follows-named m k N cols (named_of t (encode_utf8_all (c ∷ cs))) rest h

  -- `:=` and what follows it
  colon_equals_goes : (m : Bool) (k N : ℕ) (cols : List ℕ) (c : ℕ) (es : List ℕ) → k + suc (length es) ≡ N → cols ≡ with_column m k (columns (if c == 58 then Colon else Run) (k + 1) es) → is_colon_equals c es ≡ true → Goes m k N cols (drop 1 es)
  colon_equals_goes m k N cols c [] end is e = absurd (never (c == 58) e)
  colon_equals_goes m k N cols c (d ∷ gs) end is e =
      let two = both (c == 58) (d == 61) e in
      let of_run : is_of_run d ≡ true = subst (λ (x : ℕ). is_of_run x ≡ true) (sym (code_is d 61 two.1)) refl in
      let free : behind Colon d ≡ Free = subst (λ (x : ℕ). behind Colon x ≡ Free) (sym (code_is d 61 two.1)) refl in
      let rest : columns Colon (k + 1) (d ∷ gs) ≡ columns Free (k + 1 + 1) gs = one_more Colon Free (k + 1) d gs false (fits.colon d gs ∙ fits.inside d gs of_run) free in
      (k + 1 + 1, omega arith, is ∙ ((λ i. with_column m k (columns (if two.0 i then Colon else Run) (k + 1) (d ∷ gs))) ∙ ap (with_column m k) rest))

  -- any other run
  run_goes : (m : Bool) (k N : ℕ) (cols : List ℕ) (c : ℕ) (es : List ℕ) → k + suc (length es) ≡ N → cols ≡ with_column m k (columns (if c == 58 then Colon else Run) (k + 1) es) → is_colon_equals c es ≡ false → Goes m k N cols (after_run es)
  run_goes m k N cols c es end is e =
      let p = covered is_of_run es in (
        k + 1 + prefix_len is_of_run es,
        omega (arith, p),
        is ∙ ap (with_column m k) (as_run (k + 1) es (c == 58) e ∙ run_in_front (k + 1) es),
      )

  Follows-sign_or_word : (m : Bool) (k N : ℕ) (cols : List ℕ) (t : Table) (c : ℕ) (es : List ℕ) → is_of_run c ≡ true → k + suc (length es) ≡ N → cols ≡ with_column m k (columns (if c == 58 then Colon else Run) (k + 1) es) → Follows m k N cols (sign_or_word t c es)
  unfolding sign_or_word
  Follows-sign_or_word m k N cols t c es of_run end is =
      Follows-cond m k N cols (is_colon_equals c es) _ _ (colon_equals_goes m k N cols c es end is) (λ other.
      let goes = run_goes m k N cols c es end is other in
      Follows-cond m k N cols (c == 63) _ _ (λ _. Follows-variable m k N cols t (run es) (after_run es) goes) (λ _.
      Follows-cond m k N cols (c == 36) _ _ (λ _. Follows-slot m k N cols t (run es) (after_run es) goes)
      (λ _. subst (Goes m k N cols) (after_first c es of_run) goes)))

  Follows-bracket_or : (k N : ℕ) (cols : List ℕ) (t : Table) (c : ℕ) (es : List ℕ) (o : Option Lexeme) → is_whitespace c ≡ false → bracket_of c ≡ o → k + suc (length es) ≡ N → cols ≡ columns Free k (c ∷ es) → Follows (test Free c es) k N cols (bracket_or o t c es)
  Follows-bracket_or k N cols t c es (Some l) white e end is =
      let r : is_some (bracket_of c) ≡ true = ap is_some e in
      let of_no_run : is_of_run c ≡ false = (λ i. not (white i || r i)) in
      (k + 1, omega arith, is ∙ one_more Free Free k c es (test Free c es) refl (free_behind Free c of_no_run))
  Follows-bracket_or k N cols t c es None white e end is =
      let r : is_some (bracket_of c) ≡ false = ap is_some e in
      let of_run : is_of_run c ≡ true = (λ i. not (white i || r i)) in
      let state : behind Free c ≡ (if c == 58 then Colon else Run) = (λ i. if of_run i then (if c == 58 then Colon else Run) else Free) in
      Follows-sign_or_word (test Free c es) k N cols t c es of_run end (is ∙ one_more Free _ k c es (test Free c es) refl state)

  -- the columns of a text go on behind this first token
  abbrev GoesOn : ℕ → ℕ → List ℕ → Next → Type 0
  GoesOn k N cols nothing = cols ≡ []
  GoesOn k N cols (token l rest u) = Goes (marks l) k N cols rest
  GoesOn k N cols (refused o) = Unit {0}

  told : (k N : ℕ) (cols : List ℕ) (m : Bool) (x : Next) → ((l : Lexeme) (rest : List ℕ) (u : Table) → x ≡ token l rest u → m ≡ marks l) → Follows m k N cols x → GoesOn k N cols x
  told k N cols m nothing first h = h
  told k N cols m (token l rest u) first h = subst (λ (b : Bool). Goes b k N cols rest) (first l rest u refl) h
  told k N cols m (refused o) first h = tt

  goes_on_at : (k N : ℕ) (t : Table) (ds : List ℕ) → BeginsBlack ds → k + length ds ≡ N → GoesOn k N (columns Free k ds) (token_at t ds)
  goes_on_at k N t [] h end = refl
  goes_on_at k N t (c ∷ es) h end =
      told k N (columns Free k (c ∷ es)) (test Free c es) (token_at t (c ∷ es)) (λ l rest u e. fits.first t u c es rest l h e)
      (Follows-bracket_or k N (columns Free k (c ∷ es)) t c es (bracket_of c) h refl end refl)

  -- the column of the first token of characters that begin at column n
  abbrev first_column : ℕ → List ℕ → ℕ
  first_column n cs = n + prefix_len is_whitespace cs

  goes_on : (n N : ℕ) (t : Table) (cs : List ℕ) → n + length cs ≡ N → GoesOn (first_column n cs) N (columns Free n cs) (next_token t cs)
  unfolding next_token
  goes_on n N t cs end =
      let p = covered is_whitespace cs in
      let there : first_column n cs + length (after_white_space cs) ≡ N = omega (arith, p) in
      subst (λ (cols : List ℕ). GoesOn (first_column n cs) N cols (next_token t cs)) (sym (white_in_front n cs)) (goes_on_at (first_column n cs) N t (after_white_space cs) (black cs) there)

  -- there are as many columns as tokens that have one, if all are read
  pub counted : (n N : ℕ) (t u : Table) (cs : List ℕ) (ls : List Lexeme) (rest : List ℕ) → n + length cs ≡ N → BeginsWith t cs ls rest u → next_token u rest ≡ nothing → length (columns Free n cs) ≡ length (filter marks ls)
  counted n N t u cs [] rest end (same, table) last =
      let none : next_token u cs ≡ nothing = ap (next_token u) (sym same) ∙ last in
      ap length (subst (GoesOn (first_column n cs) N (columns Free n cs)) none (goes_on n N u cs end))
  counted n N t u cs (l ∷ ls) rest end (cs', t', first, more) last =
      let goes = subst (GoesOn (first_column n cs) N (columns Free n cs)) first (goes_on n N t cs end) in
      ap length goes.2 ∙ counted_mark (marks l) (first_column n cs) _ l (filter marks ls) (counted goes.0 N t' u cs' ls rest goes.1 more last)

  -- the first token of these characters, if there is one, has a column
  abbrev pub IsMarked : List ℕ → Type 0
  IsMarked [] = Unit {0}
  IsMarked (c ∷ es) = test Free c es ≡ true

  first_at : (k N : ℕ) (ds : List ℕ) → IsMarked ds → k + length ds ≡ N → (cs : List ℕ) → suc (length cs) ≡ N → slice_get (columns Free k ds) 0 ≡ column_of_rest cs ds
  first_at k N [] h end cs all = refl
  first_at k N (c ∷ es) h end cs all =
      let at : k ≡ length cs - length es = omega arith in
      ap (λ xs. slice_get xs 0) (one_more Free (behind Free c) k c es true h refl) ∙ ap Some at

  -- behind the tokens that have one the next column is where the text goes on
  pub found : (all : List ℕ) (n N : ℕ) (t u : Table) (cs : List ℕ) (ls : List Lexeme) (rest : List ℕ) → suc (length all) ≡ N → n + length cs ≡ N → BeginsWith t cs ls rest u → IsMarked (after_white_space rest) → slice_get (columns Free n cs) (length (filter marks ls)) ≡ column_of_rest all (after_white_space rest)
  found all n N t u cs [] rest whole end (same, table) marked =
      let p = covered is_whitespace cs in
      let there : first_column n cs + length (after_white_space cs) ≡ N = omega (arith, p) in
      ap (λ xs. slice_get xs 0) (white_in_front n cs)
      ∙ (first_at (first_column n cs) N (after_white_space cs) (subst (λ (ds : List ℕ). IsMarked (after_white_space ds)) same marked) there all whole
      ∙ ap (λ ds. column_of_rest all (after_white_space ds)) (sym same))
  found all n N t u cs (l ∷ ls) rest whole end (cs', t', first, more) marked =
      let goes = subst (GoesOn (first_column n cs) N (columns Free n cs)) first (goes_on n N t cs end) in
      ap (λ xs. slice_get xs (length (filter marks (l ∷ ls)))) goes.2
      ∙ (got_mark (marks l) (first_column n cs) (columns Free goes.0 cs') l (filter marks ls) ∙ found all goes.0 N t' u cs' ls rest whole goes.1 more marked)
