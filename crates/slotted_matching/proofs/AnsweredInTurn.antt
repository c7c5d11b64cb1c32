-- Answers that are named one after another.
use Rattle.std.proofs.Common.{◌≡◌, ℕ, zero, suc, ◌+◌, ◌*◌, ◌<◌, ◌≤◌, List, [], ◌∷◌, ◌++◌, length, take, drop, get_or, map, refl, sym, ap, subst, ◌∙◌, arith, length-append}
use Rattle.std.specs.Prelude.{Contains}
use Rattle.std.specs.List.{zip, flat_map}
use Rattle.std.proofs.lemmas.List.{length-map, take_more, take_all, length-drop, take-append-le, drop-append-le}
use Rattle.std.proofs.Math.Nat.{suc-mul}
use Rattle.slotted_lists.proofs.Contained.{Contains-of_map, Contains-get_or}
use Rattle.slotted_slots.specs.Table.{Table}
use Rattle.slotted_model.specs.Applied.{Applied}
use Rattle.slotted_model_rules.specs.Conditions.{Values}
use Rattle.slotted_match_machine.specs.Machine.{Answer, Occurrence, no_occurrence}
use Rattle.slotted_match_machine.specs.Readings.{read_id}
use Rattle.slotted_classes.specs.Kept.{Kept}
use Rattle.slotted_classes.specs.StateOf.{state_of}
use Rattle.slotted_matching.specs.Matches.{answers_over}
use Rattle.slotted_matching.specs.Answered.{NumbersByName, StandOnce, IsNamedAnswer, InTurn, HasWholeIds, HasDifferentPairs, AddsIds, AreWholeAnswers, ids_at, number_count}
use Rattle.slotted_matching.specs.Naming.{slot_in}
use Rattle.slotted_matching.proofs.AnsweredNames.{answer-named, answer-zip, answer_by}

-- one more answer
pub in_turn-more : (P : Table → Table → Values → Answer → Type 0) (t w u : Table) (ss : List Values) (xs : List Answer) (s : Values) (x : Answer) →
    InTurn P t w ss xs → P w u s x → InTurn P t u (ss ++ s ∷ []) (xs ++ x ∷ [])
in_turn-more P t w u [] [] s x e p = (u, subst (λ v. P v u s x) (sym e) p, refl)
in_turn-more P t w u [] (y ∷ xs) s x i p = absurd i
in_turn-more P t w u (r ∷ ss) [] s x i p = absurd i
in_turn-more P t w u (r ∷ ss) (y ∷ xs) s x i p = (i.0, i.1, in_turn-more P i.0 w u ss xs s x i.2 p)

answers-more : (ws : List (List ℕ)) (ids new : List Applied) (n : ℕ) → length ids ≡ n * length ws → length new ≡ length ws →
    answers_over ws (ids ++ new) (n + 1) ≡ answers_over ws ids n ++ zip ws new ∷ []
answers-more ws ids new n e l = ap (answers_over ws (ids ++ new)) add-one ∙ go n ids e
  where
    add-one : n + 1 ≡ suc n
    add-one = omega arith

    go : (m : ℕ) (is : List Applied) → length is ≡ m * length ws → answers_over ws (is ++ new) (suc m) ≡ answers_over ws is m ++ zip ws new ∷ []
    go zero [] h = ap (λ r. zip ws r ∷ []) (take_all (length ws) new (omega (arith, l)))
    go zero (i ∷ is) h = absurd (omega (arith, h))
    go (suc m) is h =
        let k : length ws ≤ length is = omega (arith, h, suc-mul m (length ws)) in
        let rest : length (drop (length ws) is) ≡ m * length ws = grind (arith, h, suc-mul m (length ws), length-drop) in
        (λ j. zip ws (take-append-le (length ws) is new k j) ∷ answers_over ws (drop-append-le (length ws) is new k j) (suc m))
        ∙ ap (λ r. zip ws (take (length ws) is) ∷ r) (go m (drop (length ws) is) rest)

pub turn-step : (k : Kept) (vs : List (List ℕ)) (es : List (List ℕ × ℕ)) → NumbersByName vs es → StandOnce vs → (start t u : Table) (xs : List Answer) (x : Answer)
    (ids new : List Applied) (i : ℕ) → length ids ≡ i * length es → HasWholeIds k x (map (λ (e : List ℕ × ℕ). e.1) es) →
    AddsIds k (map (λ (e : List ℕ × ℕ). e.1) es) t u x ids new → InTurn (IsNamedAnswer k vs) start t (answers_over (map (λ (e : List ℕ × ℕ). e.0) es) ids i) xs →
    InTurn (IsNamedAnswer k vs) start u (answers_over (map (λ (e : List ℕ × ℕ). e.0) es) new (i + 1)) (xs ++ x ∷ []) × (length new ≡ (i + 1) * length es)
turn-step k vs es numbers once start t u xs x ids new i count whole adds before =
    let ws = map (λ (e : List ℕ × ℕ). e.0) es in
    let order = map (λ (e : List ℕ × ℕ). e.1) es in
    let more = ids_at k adds.names order x.values in
    let w : length ws ≡ length es = length-map es (λ (e : List ℕ × ℕ). e.0) in
    let m : length more ≡ length es = length-map order (λ j. read_id (state_of k) (slot_in adds.names) (get_or x.values j no_occurrence)) ∙ length-map es (λ (e : List ℕ × ℕ). e.1) in
    let c : length ids ≡ i * length ws = count ∙ ap (λ n. i * n) (sym w) in
    let over : answers_over ws new (i + 1) ≡ answers_over ws ids i ++ answer_by es (λ j. read_id (state_of k) (slot_in adds.names) (get_or x.values j no_occurrence)) ∷ [] =
    ap (λ l. answers_over ws l (i + 1)) adds.ids ∙ (answers-more ws ids more i c (m ∙ sym w)
    ∙ ap (λ r. answers_over ws ids i ++ r ∷ []) (answer-zip es (λ j. read_id (state_of k) (slot_in adds.names) (get_or x.values j no_occurrence)))) in
    let l : length new ≡ length ids + length more = ap length adds.ids ∙ length-append ids more in
    let n : (i + 1) * length es ≡ i * length es + length es = ap (λ z. z * length es) add-one ∙ suc-mul i (length es) in (
      subst (λ ss. InTurn (IsNamedAnswer k vs) start u ss (xs ++ x ∷ [])) (sym over)
          (in_turn-more (IsNamedAnswer k vs) start t u (answers_over ws ids i) xs (answer_by es (λ j. read_id (state_of k) (slot_in adds.names) (get_or x.values j no_occurrence))) x before
          (answer-named k vs es numbers once t u x adds.names adds.naming adds.covers whole)),
      omega (arith, l, m, count, n),
    )
  where
    add-one : i + 1 ≡ suc i
    add-one = omega arith

-- what an answer that is whole has
pub whole-has : (k : Kept) (vs : List (List ℕ)) (es : List (List ℕ × ℕ)) → NumbersByName vs es → (xs : List Answer) → AreWholeAnswers k vs xs → (x : Answer) → Contains xs x →
    HasWholeIds k x (map (λ (e : List ℕ × ℕ). e.1) es) × HasDifferentPairs x
whole-has k vs es numbers xs whole x c =
    let w = whole.1 x c in (
      λ i h.
          let e = Contains-of_map (λ (q : List ℕ × ℕ). q.1) es i h in
          let l : i < length x.values = omega (arith, (numbers.each e.0 e.1).0, e.2, w.count) in
          let o = w.values (get_or x.values i no_occurrence) (Contains-get_or x.values i no_occurrence l) in
          (l, record { in_range = o.in_range; lives = o.lives; count = o.count; differ = o.differ }),
      record { numbers = w.numbers_differ; slots = w.slots_differ },
    )

-- the numbers of one more answer
abbrev pub numbers_in : Answer → List ℕ
numbers_in x = flat_map (λ (o : Occurrence). o.names) x.values

count-append : (xs : List Answer) (x : Answer) → number_count (xs ++ x ∷ []) ≡ number_count xs + length (numbers_in x)
count-append [] x = omega arith
count-append (y ∷ xs) x = let e : number_count (xs ++ x ∷ []) ≡ number_count xs + length (numbers_in x) = count-append xs x in omega (arith, e)

pub count-step : (xs : List Answer) (i : ℕ) (x : Answer) → i < length xs → x ≡ get_or xs i x → number_count (take (i + 1) xs) ≡ number_count (take i xs) + length (numbers_in x)
count-step xs i x l e = ap number_count (take_more xs i x l ∙ ap (λ y. take i xs ++ y ∷ []) (sym e)) ∙ count-append (take i xs) x

pub count-within : (xs : List Answer) (i : ℕ) (x : Answer) → i < length xs → x ≡ get_or xs i x → number_count (take i xs) + length (numbers_in x) ≤ number_count xs
count-within [] i x l e = absurd (omega (arith, l))
count-within (y ∷ xs) zero x l e = let h : length (numbers_in x) ≡ length (numbers_in y) = ap (λ z. length (numbers_in z)) e in omega (arith, h)
count-within (y ∷ xs) (suc i) x l e = let h : number_count (take i xs) + length (numbers_in x) ≤ number_count xs = count-within xs i x (omega (arith, l)) e in omega (arith, h)
