-- How many names the values of a substitution have that reads an answer.
use Rattle.std.proofs.Common.{◌≡◌, ℕ, suc, ◌+◌, ◌<◌, ◌≤◌, List, [], ◌∷◌, Bool, true, false, length, map, refl, sym, ap, ◌∙◌, inl, inr, arith, length-append}
use Rattle.std.specs.Prelude.{Contains, Some, cond, slice_index_or}
use Rattle.std.specs.List.{flat_map}
use Rattle.std.proofs.lemmas.Bool.{false≢true}
use Rattle.std.proofs.lemmas.List.{length-map}
use Rattle.std.proofs.lemmas.List.Elements.{Contains-get_or}
use Rattle.slotted_lists.proofs.Members.{In, In-Contains}
use Rattle.slotted_lists.proofs.Maps.{values-beside}
use Rattle.slotted_theory.specs.Decided.{numbers_eq}
use Rattle.slotted_theory.proofs.Decides.{numbers_eq-true, numbers_eq-same}
use Rattle.slotted_model.specs.Applied.{Applied, values}
use Rattle.slotted_model.specs.Find.{used_slots}
use Rattle.slotted_model.specs.State.{State}
use Rattle.slotted_model_rules.specs.Conditions.{Values}
use Rattle.slotted_model_rules.specs.Matcher.{value_at}
use Rattle.slotted_model_rules.specs.Rules.{id_or_none, valued}
use Rattle.slotted_match_machine.specs.Machine.{Answer, Occurrence, no_occurrence}
use Rattle.slotted_match_machine.specs.Readings.{IsWholeAnswer, ReadsAnswer}
use Rattle.slotted_matching.specs.Answered.{StandOnce}
use Rattle.slotted_matching.specs.Found.{names_in}

-- without the first entry of a variable
without : Values → List ℕ → Values
without [] v = []
without (e ∷ s) v = cond (numbers_eq e.0 v) s (e ∷ without s v)

names-without : (s : Values) (v : List ℕ) → In v (map (λ e. e.0) s) → length (names_in s) ≡ length (values (valued s v).1) + length (names_in (without s v))
unfolding without
names-without [] v i = absurd i
names-without (e ∷ s) v i = go (numbers_eq e.0 v) refl i (names-without s v)
  where
    go : (b : Bool) → numbers_eq e.0 v ≡ b → In v (map (λ (q : List ℕ × Applied). q.0) (e ∷ s)) →
        (In v (map (λ (q : List ℕ × Applied). q.0) s) → length (names_in s) ≡ length (values (valued s v).1) + length (names_in (without s v))) →
        length (names_in (e ∷ s)) ≡ length (values (id_or_none (cond b (Some e.1) (value_at s v))).1) + length (names_in (cond b s (e ∷ without s v)))
    go true q j rest = length-append (values e.1.1) (names_in s)
    go false q (inl h) rest = absurd (false≢true (sym q ∙ (ap (numbers_eq e.0) h ∙ numbers_eq-same e.0)))
    go false q (inr j) rest = omega (arith, rest j, length-append (values e.1.1) (names_in s), length-append (values e.1.1) (names_in (without s v)))

value-without : (s : Values) (v w : List ℕ) → ¬ (w ≡ v) → value_at (without s v) w ≡ value_at s w
unfolding without
value-without [] v w differ = refl
value-without (e ∷ s) v w differ = go (numbers_eq e.0 v) (numbers_eq e.0 w) refl refl (value-without s v w differ)
  where
    go : (b c : Bool) → numbers_eq e.0 v ≡ b → numbers_eq e.0 w ≡ c → value_at (without s v) w ≡ value_at s w → value_at (cond b s (e ∷ without s v)) w ≡ cond c (Some e.1) (value_at s w)
    go true true q r rest = absurd (differ (sym (numbers_eq-true e.0 w r) ∙ numbers_eq-true e.0 v q))
    go true false q r rest = refl
    go false c q r rest = λ n. cond (r n) (Some e.1) (rest n)

in-without : (s : Values) (v w : List ℕ) → ¬ (w ≡ v) → In w (map (λ e. e.0) s) → In w (map (λ e. e.0) (without s v))
unfolding without
in-without [] v w differ i = i
in-without (e ∷ s) v w differ i = go (numbers_eq e.0 v) refl i (in-without s v w differ)
  where
    keys_of : Values → List (List ℕ)
    keys_of l = map (λ (q : List ℕ × Applied). q.0) l

    go : (b : Bool) → numbers_eq e.0 v ≡ b → In w (map (λ (q : List ℕ × Applied). q.0) (e ∷ s)) → (In w (map (λ (q : List ℕ × Applied). q.0) s) → In w (map (λ (q : List ℕ × Applied). q.0) (without s v))) →
        In w (map (λ (q : List ℕ × Applied). q.0) (cond b s (e ∷ without s v)))
    go true q (inl h) rest = absurd (differ (h ∙ numbers_eq-true e.0 v q))
    go true q (inr j) rest = j
    go false q (inl h) rest = inl h
    go false q (inr j) rest = inr (rest j)

-- different variables have at most the names of all values
names-of-variables : (vs : List (List ℕ)) (os : List Occurrence) (s : Values) → length os ≡ length vs → StandOnce vs →
    ((k : ℕ) → k < length vs → length (values (valued s (slice_index_or vs k [])).1) ≡ length (slice_index_or os k no_occurrence).names) →
    ((k : ℕ) → k < length vs → In (slice_index_or vs k []) (map (λ e. e.0) s)) → length (flat_map (λ (o : Occurrence). o.names) os) ≤ length (names_in s)
names-of-variables [] [] s n once at there = omega arith
names-of-variables [] (o ∷ os) s n once at there = absurd (omega (arith, n))
names-of-variables (v ∷ vs) [] s n once at there = absurd (omega (arith, n))
names-of-variables (v ∷ vs) (o ∷ os) s n once at there =
    let here : length (names_in s) ≡ length (values (valued s v).1) + length (names_in (without s v)) = names-without s v (there 0 (omega arith)) in
    let first : length (values (valued s v).1) ≡ length o.names = at 0 (omega arith) in
    let differ : (k : ℕ) → k < length vs → ¬ (slice_index_or vs k [] ≡ v) = λ k l h. let e : suc k ≡ 0 = once (suc k) 0 (omega (arith, l)) (omega arith) h in omega (arith, e) in
    let rest : length (flat_map (λ (q : Occurrence). q.names) os) ≤ length (names_in (without s v)) =
    names-of-variables vs os (without s v) (omega (arith, n)) (λ i j a b e. let m : suc i ≡ suc j = once (suc i) (suc j) (omega (arith, a)) (omega (arith, b)) e in omega (arith, m))
    (λ k l. ap (λ q. length (values (id_or_none q).1)) (value-without s v (slice_index_or vs k []) (differ k l)) ∙ at (suc k) (omega (arith, l)))
    (λ k l. in-without s v (slice_index_or vs k []) (differ k l) (there (suc k) (omega (arith, l)))) in
    omega (arith, here, first, rest, length-append o.names (flat_map (λ (q : Occurrence). q.names) os))

-- the names of a value are as many as the numbers that it reads
pub names-read : (g : State) (vs : List (List ℕ)) (s : Values) (x : Answer) → StandOnce vs → IsWholeAnswer g vs x → ReadsAnswer g vs s x → ((v : List ℕ) → Contains vs v → Contains (map (λ e. e.0) s) v) →
    length (flat_map (λ (o : Occurrence). o.names) x.values) ≤ length (names_in s)
names-read g vs s x once whole reads there =
    names-of-variables vs x.values s whole.count once
    (λ k l.
    let o = slice_index_or x.values k no_occurrence in
    let w = whole.values o (Contains-get_or x.values k no_occurrence (omega (arith, l, whole.count))) in
    ap (λ (a : Applied). length (values a.1)) (reads.values k l)
    ∙ (ap length (values-beside (used_slots g.found o.class) (map reads.name o.names) (sym w.count ∙ sym (length-map o.names reads.name))) ∙ length-map o.names reads.name))
    (λ k l. In-Contains (map (λ e. e.0) s) (slice_index_or vs k []) (there (slice_index_or vs k []) (Contains-get_or vs k [] l)))
