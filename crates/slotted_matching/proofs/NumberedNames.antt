-- The numbers of variables, by their names.
use Rattle.std.proofs.Common.{◌≡◌, ℕ, ◌+◌, ◌<◌, ◌≤◌, List, [], ◌∷◌, length, get_or, map, refl, sym, ap, ◌∙◌, inl, inr, arith, below_more}
use Rattle.std.specs.Prelude.{Contains, ◌⊎◌, String, string_bytes}
use Rattle.std.specs.declared.alloc.Global.{Global}
use Rattle.std.specs.List.{AllByRecursion}
use Rattle.std.specs.List.Sorted.{IsStrictlySortedBy}
use Rattle.std.specs.BTreeMap.{insert_entry}
use Rattle.std.specs.Map.{keys_of}
use Rattle.std.specs.declared.cmp.Ordering.{Ordering}
use Rattle.std.specs.declared.cmp.Ordering.TheVariants.{Less, Equal, Greater}
use Rattle.std.specs.Ordering.{match_ordering, is_eq}
use Rattle.std.proofs.lemmas.Map.Text.{is_eq-slice_cmp}
use Rattle.std.proofs.lemmas.Slice.Eq.{bytes_eq-Decides}
use Rattle.slotted_lists.proofs.Members.{In, In-Contains, Contains-In}
use Rattle.slotted_matching.specs.Matches.{AscendingNames, name_order}
use Rattle.slotted_matching.specs.Answered.{NumbersByName, StandOnce}

-- of the first n variables each has its number
pub record NumbersBelow (vs : List (List ℕ)) (n : ℕ) (es : List (List ℕ × ℕ)) : Type 0 where
  pub each : (e : List ℕ × ℕ) → Contains es e → (e.1 < n) × (get_or vs e.1 [] ≡ e.0)
  pub all : (k : ℕ) → k < n → Contains es (get_or vs k [], k)

same-names : (a b : List ℕ) → name_order a b ≡ Equal → a ≡ b
same-names a b e = (bytes_eq-Decides a b).0 (sym (is_eq-slice_cmp a b) ∙ ap is_eq e)

-- an entry under a new name
In-inserted : (es : List (List ℕ × ℕ)) (k : List ℕ) (v : ℕ) (e : List ℕ × ℕ) → ((q : List ℕ × ℕ) → In q es → ¬ (k ≡ q.0)) →
    In e (insert_entry name_order es k v) → (e ≡ (k, v)) ⊎ In e es
In-inserted [] k v e new (inl h) = inl h
In-inserted [] k v e new (inr h) = absurd h
In-inserted (q ∷ es) k v e new i = go (name_order k q.0) refl i (In-inserted es k v e (λ r j. new r (inr j)))
  where
    go : (o : Ordering) → name_order k q.0 ≡ o → In e (match_ordering o ((k, v) ∷ q ∷ es) ((q.0, v) ∷ es) (q ∷ insert_entry name_order es k v)) →
        (In e (insert_entry name_order es k v) → (e ≡ (k, v)) ⊎ In e es) → (e ≡ (k, v)) ⊎ In e (q ∷ es)
    go Less t (inl h) rest = inl h
    go Less t (inr h) rest = inr h
    go Equal t h rest = absurd (new q (inl refl) (same-names k q.0 t))
    go Greater t (inl h) rest = inr (inl h)
    go Greater t (inr h) rest = elim (rest h) [ inl j ↦ inl j | inr j ↦ inr (inr j) ]

In-new : (es : List (List ℕ × ℕ)) (k : List ℕ) (v : ℕ) → ((q : List ℕ × ℕ) → In q es → ¬ (k ≡ q.0)) → In (k, v) (insert_entry name_order es k v)
In-new [] k v new = inl refl
In-new (q ∷ es) k v new = go (name_order k q.0) refl (In-new es k v (λ r j. new r (inr j)))
  where
    go : (o : Ordering) → name_order k q.0 ≡ o → In (k, v) (insert_entry name_order es k v) → In (k, v) (match_ordering o ((k, v) ∷ q ∷ es) ((q.0, v) ∷ es) (q ∷ insert_entry name_order es k v))
    go Less t rest = inl refl
    go Equal t rest = absurd (new q (inl refl) (same-names k q.0 t))
    go Greater t rest = inr rest

In-old : (es : List (List ℕ × ℕ)) (k : List ℕ) (v : ℕ) (e : List ℕ × ℕ) → ((q : List ℕ × ℕ) → In q es → ¬ (k ≡ q.0)) → In e es → In e (insert_entry name_order es k v)
In-old [] k v e new i = absurd i
In-old (q ∷ es) k v e new i = go (name_order k q.0) refl i (In-old es k v e (λ r j. new r (inr j)))
  where
    go : (o : Ordering) → name_order k q.0 ≡ o → In e (q ∷ es) → (In e es → In e (insert_entry name_order es k v)) → In e (match_ordering o ((k, v) ∷ q ∷ es) ((q.0, v) ∷ es) (q ∷ insert_entry name_order es k v))
    go Less t h rest = inr h
    go Equal t h rest = absurd (new q (inl refl) (same-names k q.0 t))
    go Greater t (inl h) rest = inl h
    go Greater t (inr h) rest = inr (rest h)

-- entries by the bytes of their names
pub bytes-inserted : (es : List (String Global × ℕ)) (k : String Global) (v : ℕ) →
    map (λ (e : String Global × ℕ). (string_bytes e.0, e.1)) (insert_entry (λ a b. name_order (string_bytes a) (string_bytes b)) es k v)
    ≡ insert_entry name_order (map (λ (e : String Global × ℕ). (string_bytes e.0, e.1)) es) (string_bytes k) v
bytes-inserted [] k v = refl
bytes-inserted (e ∷ es) k v = go (name_order (string_bytes k) (string_bytes e.0)) (bytes-inserted es k v)
  where
    by_bytes : List (String Global × ℕ) → List (List ℕ × ℕ)
    by_bytes fs = map (λ (f : String Global × ℕ). (string_bytes f.0, f.1)) fs

    go : (o : Ordering) →
        map (λ (f : String Global × ℕ). (string_bytes f.0, f.1)) (insert_entry (λ a b. name_order (string_bytes a) (string_bytes b)) es k v)
        ≡ insert_entry name_order (map (λ (f : String Global × ℕ). (string_bytes f.0, f.1)) es) (string_bytes k) v →
        map (λ (f : String Global × ℕ). (string_bytes f.0, f.1)) (match_ordering o ((k, v) ∷ e ∷ es) ((e.0, v) ∷ es) (e ∷ insert_entry (λ a b. name_order (string_bytes a) (string_bytes b)) es k v))
        ≡ match_ordering o ((string_bytes k, v) ∷ (string_bytes e.0, e.1) ∷ map (λ (f : String Global × ℕ). (string_bytes f.0, f.1)) es)
        ((string_bytes e.0, v) ∷ map (λ (f : String Global × ℕ). (string_bytes f.0, f.1)) es)
        ((string_bytes e.0, e.1) ∷ insert_entry name_order (map (λ (f : String Global × ℕ). (string_bytes f.0, f.1)) es) (string_bytes k) v)
    go Less h = refl
    go Equal h = refl
    go Greater h = ap (λ l. (string_bytes e.0, e.1) ∷ l) h

-- one more variable
pub numbers-step : (vs : List (List ℕ)) (n : ℕ) (es : List (List ℕ × ℕ)) → StandOnce vs → n < length vs → NumbersBelow vs n es →
    NumbersBelow vs (n + 1) (insert_entry name_order es (get_or vs n []) n)
numbers-step vs n es once l below =
    let k = get_or vs n [] in
    let new : (q : List ℕ × ℕ) → In q es → ¬ (k ≡ q.0) =
    λ q i e. let b = below.each q (Contains-In es q i) in let same : q.1 ≡ n = once q.1 n (omega (arith, b.0, l)) l (b.1 ∙ sym e) in omega (arith, b.0, same) in
    record {
      each = λ e c. elim (In-inserted es k n e new (In-Contains (insert_entry name_order es k n) e c)) [
        | inl h ↦ (omega (arith, ap (λ (p : List ℕ × ℕ). p.1) h), ap (λ (p : List ℕ × ℕ). get_or vs p.1 []) h ∙ sym (ap (λ (p : List ℕ × ℕ). p.0) h))
        | inr h ↦ let b = below.each e (Contains-In es e h) in (omega (arith, b.0), b.1)
      ];
      all = below_more (λ j. Contains (insert_entry name_order es k n) (get_or vs j [], j)) n
          (λ j h. Contains-In (insert_entry name_order es k n) (get_or vs j [], j) (In-old es k n (get_or vs j [], j) new (In-Contains es (get_or vs j [], j) (below.all j h))))
          (Contains-In (insert_entry name_order es k n) (k, n) (In-new es k n new));
    }

names-sorted : (es : List (String Global × ℕ)) → IsStrictlySortedBy (λ a b. name_order (string_bytes a) (string_bytes b)) (keys_of es) →
    AscendingNames (map (λ (e : List ℕ × ℕ). e.0) (map (λ (e : String Global × ℕ). (string_bytes e.0, e.1)) es))
unfolding IsStrictlySortedBy
names-sorted [] s = tt
names-sorted (e ∷ es) s = (go es s.0, names-sorted es s.1)
  where
    go : (fs : List (String Global × ℕ)) → AllByRecursion (λ q. name_order (string_bytes e.0) (string_bytes q) ≡ Less) (keys_of fs) →
        AllByRecursion (λ q. name_order (string_bytes e.0) q ≡ Less) (map (λ (f : List ℕ × ℕ). f.0) (map (λ (f : String Global × ℕ). (string_bytes f.0, f.1)) fs))
    go [] h = tt
    go (f ∷ fs) h = (h.0, go fs h.1)

-- all variables
pub numbers-all : (vs : List (List ℕ)) (es : List (String Global × ℕ)) (n : ℕ) → length vs ≤ n → n ≤ length vs → IsStrictlySortedBy (λ a b. name_order (string_bytes a) (string_bytes b)) (keys_of es) →
    NumbersBelow vs n (map (λ (e : String Global × ℕ). (string_bytes e.0, e.1)) es) → NumbersByName vs (map (λ (e : String Global × ℕ). (string_bytes e.0, e.1)) es)
numbers-all vs es n l m sorted below = record {
  ascending = names-sorted es sorted;
  each = λ e c. let b = below.each e c in (omega (arith, b.0, m), b.1);
  all = λ k h. below.all k (omega (arith, h, l));
}

pub names-of : (es : List (String Global × ℕ)) → map string_bytes (keys_of es) ≡ map (λ (e : String Global × ℕ). string_bytes e.0) es
names-of [] = refl
names-of (e ∷ es) = ap (λ l. string_bytes e.0 ∷ l) (names-of es)

abbrev pub by_bytes : List (String Global × ℕ) → List (List ℕ × ℕ)
by_bytes es = map (λ e. (string_bytes e.0, e.1)) es

pub names-by_bytes : (es : List (String Global × ℕ)) → map (λ (e : String Global × ℕ). string_bytes e.0) es ≡ map (λ (e : List ℕ × ℕ). e.0) (by_bytes es)
names-by_bytes [] = refl
names-by_bytes (e ∷ es) = ap (λ l. string_bytes e.0 ∷ l) (names-by_bytes es)

pub numbers-by_bytes : (es : List (String Global × ℕ)) → map (λ (e : String Global × ℕ). e.1) es ≡ map (λ (e : List ℕ × ℕ). e.1) (by_bytes es)
numbers-by_bytes [] = refl
numbers-by_bytes (e ∷ es) = ap (λ l. e.1 ∷ l) (numbers-by_bytes es)
