-- What reads all answers of the machine, where slots have no end: so it can be said how many were needed.
use Rattle.std.proofs.Common.{◌≡◌, ◌∙◌, ℕ, zero, suc, ◌+◌, ◌<◌, List, [], ◌∷◌, Bool, true, false, length, map, refl, sym, ap, arith, length-append}
use Rattle.std.specs.Prelude.{Contains, Option, Some, None, cond, slice_index_or, unwrap_or}
use Rattle.std.specs.List.{zip, flat_map}
use Rattle.std.proofs.lemmas.List.{length-map}
use Rattle.slotted_lists.proofs.Contained.{above, Contains-below, Contains-map, contains_head, contains_tail}
use Rattle.slotted_lists.proofs.Maps.{values-beside}
use Rattle.slotted_theory.specs.Decided.{numbers_eq}
use Rattle.slotted_theory.specs.FiniteMaps.{value_of}
use Rattle.slotted_theory.proofs.Decides.{numbers_eq-true, numbers_eq-same}
use Rattle.slotted_model.specs.Applied.{Applied, values}
use Rattle.slotted_model.specs.Correspondence.{AllDifferent}
use Rattle.slotted_model.specs.Find.{used_slots}
use Rattle.slotted_model.specs.State.{State}
use Rattle.slotted_model.proofs.Correspondences.Pairs.{Contains-value_of, value_of-only}
use Rattle.slotted_model_rules.specs.Conditions.{Values}
use Rattle.slotted_model_rules.specs.Matcher.{value_at}
use Rattle.slotted_model_rules.specs.Rules.{id_or_none}
use Rattle.slotted_match_machine.specs.Index.{OneByOne}
use Rattle.slotted_match_machine.specs.Machine.{Answer, Occurrence, no_occurrence}
use Rattle.slotted_match_machine.specs.Readings.{IsWholeAnswer, IsWholeId, ReadsAnswer, read_id}
use Rattle.slotted_matching.specs.Answered.{StandOnce, number_count}
use Rattle.slotted_matching.specs.Found.{name_count, names_in}
use Rattle.slotted_matching.proofs.AnsweredNames.{one-pair}

-- the slot of a number, or a name above all of these
naming : Answer → ℕ → ℕ
naming x n = unwrap_or (value_of x.pairs n) (above (values x.pairs) + n)

module _ (x : Answer) (numbers : AllDifferent (map (λ p. p.0) x.pairs)) (slots : AllDifferent (map (λ p. p.1) x.pairs)) where
  below : (n y : ℕ) → value_of x.pairs n ≡ Some y → y < above (values x.pairs)
  below n y e = Contains-below (values x.pairs) y (Contains-map (λ (p : ℕ × ℕ). p.1) x.pairs (n, y) (Contains-value_of x.pairs n y e))

  naming-injective : (a b : ℕ) → naming x a ≡ naming x b → a ≡ b
  unfolding naming
  naming-injective a b h = go (value_of x.pairs a) (value_of x.pairs b) refl refl h
    where
      go : (o q : Option ℕ) → value_of x.pairs a ≡ o → value_of x.pairs b ≡ q → unwrap_or o (above (values x.pairs) + a) ≡ unwrap_or q (above (values x.pairs) + b) → a ≡ b
      go None None e f i = omega (arith, i)
      go (Some y) None e f i = absurd (omega (arith, i, below a y e))
      go None (Some z) e f i = absurd (omega (arith, i, below b z f))
      go (Some y) (Some z) e f i = ap (λ (p : ℕ × ℕ). p.0) (one-pair (λ p. p.1) x.pairs (a, y) (b, z) slots (Contains-value_of x.pairs a y e) (Contains-value_of x.pairs b z f) i)

  naming-slots : (n t : ℕ) → Contains x.pairs (n, t) → naming x n ≡ t
  unfolding naming
  naming-slots n t c =
      ap (λ o. unwrap_or o (above (values x.pairs) + n)) (value_of-only x.pairs n t c (λ v d. ap (λ (p : ℕ × ℕ). p.1) (one-pair (λ p. p.0) x.pairs (n, v) (n, t) numbers d c refl)))

-- values in the order of their variables
value-zip : (vs : List (List ℕ)) (os : List Occurrence) (f : Occurrence → Applied) → StandOnce vs → length os ≡ length vs → (k : ℕ) → k < length vs →
    value_at (zip vs (map f os)) (slice_index_or vs k []) ≡ Some (f (slice_index_or os k no_occurrence))
value-zip [] os f once n k l = absurd (omega (arith, l))
value-zip (v ∷ vs) [] f once n k l = absurd (omega (arith, n))
value-zip (v ∷ vs) (o ∷ os) f once n zero l = λ i. cond (numbers_eq-same v i) (Some (f o)) (value_at (zip vs (map f os)) v)
value-zip (v ∷ vs) (o ∷ os) f once n (suc k) l =
    go (numbers_eq v (slice_index_or vs k [])) refl (value-zip vs os f (λ i j a b e. let m : suc i ≡ suc j = once (suc i) (suc j) (omega (arith, a)) (omega (arith, b)) e in omega (arith, m)) (omega (arith, n)) k (omega (arith, l)))
  where
    go : (b : Bool) → numbers_eq v (slice_index_or vs k []) ≡ b → value_at (zip vs (map f os)) (slice_index_or vs k []) ≡ Some (f (slice_index_or os k no_occurrence)) →
        cond b (Some (f o)) (value_at (zip vs (map f os)) (slice_index_or vs k [])) ≡ Some (f (slice_index_or os k no_occurrence))
    go true e rest = let m : 0 ≡ suc k = once 0 (suc k) (omega arith) l (numbers_eq-true v (slice_index_or vs k []) e) in absurd (omega (arith, m))
    go false e rest = rest

module _ (g : State) (vs : List (List ℕ)) (once : StandOnce vs) where
  -- as many names as numbers
  names-zip : (ws : List (List ℕ)) (os : List Occurrence) (f : ℕ → ℕ) → length os ≡ length ws → ((o : Occurrence) → Contains os o → IsWholeId g o) →
      length (names_in (zip ws (map (read_id g f) os))) ≡ length (flat_map (λ (o : Occurrence). o.names) os)
  names-zip [] [] f n whole = refl
  names-zip [] (o ∷ os) f n whole = absurd (omega (arith, n))
  names-zip (v ∷ ws) [] f n whole = absurd (omega (arith, n))
  names-zip (v ∷ ws) (o ∷ os) f n whole =
      let w : IsWholeId g o = whole o (contains_head o os) in
      let here : length (values (read_id g f o).1) ≡ length o.names =
      ap length (values-beside (used_slots g.found o.class) (map f o.names) (sym w.count ∙ sym (length-map o.names f))) ∙ length-map o.names f in
      let rest : length (names_in (zip ws (map (read_id g f) os))) ≡ length (flat_map (λ (q : Occurrence). q.names) os) = names-zip ws os f (omega (arith, n)) (λ q c. whole q (contains_tail o os q c)) in
      omega (arith, here, rest, length-append (values (read_id g f o).1) (names_in (zip ws (map (read_id g f) os))), length-append o.names (flat_map (λ (q : Occurrence). q.names) os))

  reading : Answer → Values
  reading x = zip vs (map (read_id g (naming x)) x.values)

  reads : (x : Answer) → IsWholeAnswer g vs x → ReadsAnswer g vs (reading x) x
  unfolding reading
  reads x whole = record {
    name = naming x;
    injective = λ a b c d e. naming-injective x whole.numbers_differ whole.slots_differ a b e;
    slots = naming-slots x whole.numbers_differ whole.slots_differ;
    values = λ k l. ap id_or_none (value-zip vs x.values (read_id g (naming x)) once whole.count k l);
  }

  -- each of the answers is read, with a name for each number
  pub read-all : (xs : List Answer) → ((x : Answer) → Contains xs x → IsWholeAnswer g vs x) → (found : List Values) × OneByOne (ReadsAnswer g vs) found xs × (name_count found ≡ number_count xs)
  unfolding reading
  read-all [] whole = ([], tt, refl)
  read-all (x ∷ xs) whole =
      let w = whole x (contains_head x xs) in
      let rest = read-all xs (λ q c. whole q (contains_tail x xs q c)) in
      let here : length (names_in (reading x)) ≡ length (flat_map (λ (o : Occurrence). o.names) x.values) = names-zip vs x.values (naming x) w.count w.values in
      let more : name_count rest.0 ≡ number_count xs = rest.2 in
      (reading x ∷ rest.0, (reads x w, rest.1), omega (arith, here, more))
