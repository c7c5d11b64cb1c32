-- A slot that a text names prints as a run that names it again, as long as the table only grows.
use Rattle.std.proofs.Common.{◌≡◌, ℕ, zero, suc, ◌+◌, ◌*◌, ◌/◌, ◌^◌, ◌<◌, ◌≤◌, true, nat_lt, List, [], ◌∷◌, ◌++◌, length, get_or, Option, Some, None, refl, sym, subst, ap, ◌∙◌, arith, lit<, decimal, codes, slice_get}
use Rattle.std.proofs.lemmas.Bool.{lt-ltb, ltb-true}
use Rattle.std.proofs.lemmas.Fmt.{decimal_is_IsNumeral_wide, IsAscii-decimal_wide}
use Rattle.std.proofs.lemmas.List.{length_push, get_or_push, get_or_append_left}
use Rattle.std.proofs.lemmas.Option.{slice_get-get_or}
use Rattle.std.proofs.lemmas.Str.{chars-IsAscii, IsUtf8-from_ascii}
use Rattle.std.specs.Str.{IsAscii}
use Rattle.std.specs.Str.Parse.{IsNumeral}
use Rattle.slotted_slots.specs.Table.{Table, gives, Reading, as_number, as_fresh, as_word, word_outcome, outcome_of, reading_of, place_of, named_of, shown_slot, ReadsBack, IsTable}
use Rattle.slotted_slots.proofs.NamingLaws.{gives_from_if, full_never, place_of-within, place_of-name, large_never}
use Rattle.slotted_slots.proofs.Printing.{shown_slot-numeric, shown_slot-fresh, shown_slot-name, reads_back}
use Rattle.slotted_slots.proofs.TableLaws.{remainder_is, quotient_is, is_known-numeric_slot, is_known-fresh_slot, is_known-name_slot}
use Rattle.slotted_nodes.specs.ReadsBack.{digits_run}
use Rattle.slotted_patterns.proofs.PrintedTokens.{is_run, IsRun}

-- the text of a number is a run
numeral_run : (ds : List ℕ) → IsNumeral 10 ds → is_run ds ≡ true
numeral_run [] h = absurd (omega (arith, h.0))
numeral_run (c ∷ cs) h = digits_run (c ∷ cs) h.1

ascii_run : (bs : List ℕ) → IsAscii bs → is_run bs ≡ true → IsRun bs
ascii_run bs a h = (IsUtf8-from_ascii bs a, ap is_run (chars-IsAscii bs a) ∙ h)

decimal_run : (n : ℕ) → n < 10 ^ 64 → IsRun (decimal n)
decimal_run n small = ascii_run (decimal n) (IsAscii-decimal_wide n small) (numeral_run (decimal n) (decimal_is_IsNumeral_wide n small).0)

ascii_after_f : (bs : List ℕ) → IsAscii bs → IsAscii (102 ∷ bs)
ascii_after_f bs a zero = lit< tt
ascii_after_f bs a (suc i) = a i

fresh_run : (n : ℕ) → n < 10 ^ 64 → IsRun (102 ∷ decimal n)
fresh_run n small =
    ascii_run (102 ∷ decimal n) (ascii_after_f (decimal n) (IsAscii-decimal_wide n small))
    (digits_run (decimal n) (decimal_is_IsNumeral_wide n small).0.1)

-- the later table made no fewer slots, and keeps each name at its place
pub record Grows (t u : Table) : Type 0 where
  pub fresh : t.fresh ≤ u.fresh
  pub kept : (i : ℕ) → i < length t.names → (i < length u.names) × (get_or u.names i [] ≡ get_or t.names i [])

pub Grows-refl : (t : Table) → Grows t t
Grows-refl t = record { fresh = omega arith; kept = λ i h. (h, refl) }

pub Grows-trans : (t u v : Table) → Grows t u → Grows u v → Grows t v
Grows-trans t u v g h = record {
  fresh = omega (arith, g.fresh, h.fresh);
  kept = λ i lt. let a = g.kept i lt in let b = h.kept i a.0 in (b.0, b.1 ∙ a.1);
}

-- which slot it is that a text of this reading names
abbrev pub IsNamed : Reading → Table → List ℕ → ℕ → Type 0
IsNamed (as_number n) u bs s = (n < 2 ^ 30) × (4 * n ≡ s)
IsNamed (as_fresh n) u bs s = (n < 2 ^ 30) × (4 * n + 1 ≡ s) × (n < u.fresh)
IsNamed as_word u bs s = (i : ℕ) × (4 * i + 2 ≡ s) × (i < length u.names) × (get_or u.names i [] ≡ bs)

word_grows : (t : Table) (bs : List ℕ) (o : Option ℕ) → place_of t.names bs ≡ o → (s : ℕ) (u : Table) → word_outcome t bs o ≡ gives s u → Grows t u × IsNamed as_word u bs s
word_grows t bs (Some i) found s u e =
    let same_slot : 4 * i + 2 ≡ s = cc in
    let same_table : t ≡ u = cc in
    subst (λ v. Grows t v × IsNamed as_word v bs s) same_table
    (Grows-refl t, (i, same_slot, place_of-within t.names bs i found, sym (place_of-name t.names bs i found)))
word_grows t bs None found s u e =
    let parts = gives_from_if (nat_lt (length t.names) (2 ^ 30)) _ _ _ _ _ full_never e in
    let longer = length_push t.names bs in
    subst (λ v. Grows t v × IsNamed as_word v bs s) parts.2 (
      record { fresh = omega arith; kept = λ i lt. (omega (arith, longer, lt), get_or_append_left t.names (bs ∷ []) [] i lt) },
      (length t.names, parts.1, omega (arith, longer), get_or_push t.names bs [] (length t.names) refl),
    )

outcome_grows : (t : Table) (bs : List ℕ) (r : Reading) (s : ℕ) (u : Table) → outcome_of t bs r ≡ gives s u → Grows t u × IsNamed r u bs s
outcome_grows t bs (as_number n) s u e =
    let parts = gives_from_if (nat_lt n (2 ^ 30)) _ _ _ _ _ large_never e in
    (subst (Grows t) parts.2 (Grows-refl t), (ltb-true _ _ parts.0, parts.1))
outcome_grows t bs (as_fresh n) s u e =
    let parts = gives_from_if (nat_lt n (2 ^ 30)) _ _ _ _ _ large_never e in
    subst (λ v. Grows t v × IsNamed (as_fresh n) v bs s) parts.2 (
      record { fresh = omega arith; kept = λ i lt. (lt, refl) },
      (ltb-true _ _ parts.0, parts.1, omega arith),
    )
outcome_grows t bs as_word s u e = word_grows t bs (place_of t.names bs) refl s u e

-- a text that names a slot leaves a grown table
pub named_of-grows : (t : Table) (bs : List ℕ) (s : ℕ) (u : Table) → named_of t bs ≡ gives s u → Grows t u × IsNamed (reading_of bs) u bs s
unfolding named_of
named_of-grows t bs s u e = outcome_grows t bs (reading_of bs) s u e

pub IsNamed-more : (r : Reading) (t u : Table) (bs : List ℕ) (s : ℕ) → Grows t u → IsNamed r t bs s → IsNamed r u bs s
IsNamed-more (as_number n) t u bs s g h = h
IsNamed-more (as_fresh n) t u bs s g h = (h.0, h.1, omega (arith, g.fresh, h.2))
IsNamed-more as_word t u bs s g h = let k = g.kept h.0 h.2 in (h.0, h.1, k.0, k.1 ∙ h.3)

-- a slot prints as a `$` and a run that names it in the same table
pub record PrintsAsRun (t : Table) (s : ℕ) : Type 0 where
  pub text : List ℕ
  pub shown : shown_slot t s ≡ 36 ∷ text
  pub run : IsRun text
  pub names : named_of t text ≡ gives s t

by_text : (t : Table) (s : ℕ) (bs : List ℕ) → ReadsBack t s → shown_slot t s ≡ codes "$" ++ bs → IsRun bs → PrintsAsRun t s
by_text t s bs back shown run = record { text = bs; shown = shown; run = run; names = back bs shown }

prints_number : (t : Table) → IsTable t → (n : ℕ) → n < 2 ^ 30 → PrintsAsRun t (4 * n)
prints_number t sound n small =
    let s = 4 * n in
    by_text t s (decimal (s / 4)) (reads_back t sound s (omega (arith, small)) (is_known-numeric_slot t n)) (shown_slot-numeric t s (omega arith)) (decimal_run (s / 4) (omega (arith, small)))

prints_fresh : (t : Table) → IsTable t → (n : ℕ) → n < 2 ^ 30 → n < t.fresh → PrintsAsRun t (4 * n + 1)
prints_fresh t sound n small made =
    let s = 4 * n + 1 in
    by_text t s (102 ∷ decimal (s / 4)) (reads_back t sound s (omega (arith, small)) (is_known-fresh_slot t n ∙ lt-ltb n t.fresh made)) (shown_slot-fresh t s (omega arith)) (fresh_run (s / 4) (omega (arith, small)))

prints_name : (t : Table) → IsTable t → (i : ℕ) (bs : List ℕ) → i < length t.names → get_or t.names i [] ≡ bs → IsRun bs → PrintsAsRun t (4 * i + 2)
prints_name t sound i bs lt is run =
    let s = 4 * i + 2 in
    let bound = sound.names_fit in
    let kept = ap (λ k. slice_get t.names k) (quotient_is i 2 (omega arith)) ∙ (slice_get-get_or t.names i [] lt ∙ ap Some is) in
    by_text t s bs (reads_back t sound s (omega (arith, bound, lt)) (is_known-name_slot t i ∙ lt-ltb i (length t.names) lt)) (shown_slot-name t s bs (remainder_is i 2 (omega arith)) kept) run

pub IsNamed-prints : (r : Reading) (t : Table) (bs : List ℕ) (s : ℕ) → IsTable t → IsRun bs → IsNamed r t bs s → PrintsAsRun t s
IsNamed-prints (as_number n) t bs s sound run h = subst (PrintsAsRun t) h.1 (prints_number t sound n h.0)
IsNamed-prints (as_fresh n) t bs s sound run h = subst (PrintsAsRun t) h.1 (prints_fresh t sound n h.0 h.2)
IsNamed-prints as_word t bs s sound run h = subst (PrintsAsRun t) h.1 (prints_name t sound h.0 bs h.2 h.3 run)
