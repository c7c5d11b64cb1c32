-- Answers whose numbers have slots for names are substitutions that read them.
use Rattle.std.proofs.Common.{◌≡◌, ℕ, ◌<◌, List, [], ◌∷◌, Bool, true, false, length, get_or, map, refl, sym, ap, subst, ◌∙◌, inl, inr}
use Rattle.std.specs.Prelude.{Contains, Option, Some, None, cond, IsSome, IsTrue, is_some, unwrap_or}
use Rattle.std.specs.List.{zip, flat_map}
use Rattle.std.proofs.lemmas.Bool.{false≢true}
use Rattle.std.proofs.lemmas.List.{length-map, get_or_default}
use Rattle.slotted_lists.proofs.Contained.{contains_cases, contains_head, contains_tail, Contains-nil, Contains-map, Contains-of_map, Contains-get_or}
use Rattle.slotted_lists.proofs.Members.{In-Contains, Contains-In, In-append, In-right}
use Rattle.slotted_lists.proofs.Maps.{values-beside}
use Rattle.slotted_theory.specs.Decided.{numbers_eq}
use Rattle.slotted_theory.specs.FiniteMaps.{value_of}
use Rattle.slotted_theory.proofs.Decides.{numbers_eq-true, numbers_eq-same}
use Rattle.slotted_slots.specs.Table.{Table, is_known}
use Rattle.slotted_model.specs.Applied.{Applied, values}
use Rattle.slotted_model.specs.Correspondence.{AllDifferent, IsInjectiveOn}
use Rattle.slotted_model.specs.Find.{used_slots}
use Rattle.slotted_model.specs.Rest.{IsValidIn}
use Rattle.slotted_model.proofs.Correspondences.Pairs.{Contains-value_of, value_of-only}
use Rattle.slotted_model_rules.specs.Conditions.{Values}
use Rattle.slotted_model_rules.specs.Matcher.{value_at}
use Rattle.slotted_model_rules.specs.Rules.{id_or_none}
use Rattle.slotted_match_machine.specs.Machine.{Answer, Occurrence, no_occurrence}
use Rattle.slotted_match_machine.specs.Readings.{IsWholeId, names_of, read_id}
use Rattle.slotted_match_machine.proofs.Lists.{In-flat_map}
use Rattle.slotted_match_machine.proofs.WholeIds.{whole-valid}
use Rattle.slotted_classes.specs.Kept.{Kept, entries_of}
use Rattle.slotted_classes.specs.StateOf.{state_of}
use Rattle.slotted_hashcons.specs.WellFiled.{state_in}
use Rattle.slotted_matching.specs.Matches.{AscendingNames}
use Rattle.slotted_matching.specs.Naming.{IsNaming, slot_in}
use Rattle.slotted_matching.specs.Answered.{NumbersByName, StandOnce, HasName, IsNamedAnswer, HasWholeIds, HasDifferentPairs}

-- one pair for each number, and for each slot
pub one-pair : (f : ℕ × ℕ → ℕ) (A : List (ℕ × ℕ)) (p q : ℕ × ℕ) → AllDifferent (map f A) → Contains A p → Contains A q → f p ≡ f q → p ≡ q
one-pair f [] p q d a b e = absurd (Contains-nil p a)
one-pair f (x ∷ A) p q d a b e = elim (contains_cases x A p a) [
  | inl g ↦ elim (contains_cases x A q b) [
    | inl h ↦ g ∙ sym h
    | inr h ↦ absurd (d.0 (subst (Contains (map f A)) (sym e ∙ ap f g) (Contains-map f A q h)))
  ]
  | inr g ↦ elim (contains_cases x A q b) [
    | inl h ↦ absurd (d.0 (subst (Contains (map f A)) (e ∙ ap f h) (Contains-map f A p g)))
    | inr h ↦ one-pair f A p q d.1 g h e
  ]
]

-- before other numbers are named
pub naming-starts : (t : Table) (x : Answer) → HasDifferentPairs x → ((y : ℕ) → Contains (values x.pairs) y → IsTrue (is_known t y)) → IsNaming t x.pairs t x.pairs
naming-starts t x different known = record {
  injective = λ m n y e f. ap (λ (p : ℕ × ℕ). p.0) (one-pair (λ p. p.1) x.pairs (m, y) (n, y) different.slots (Contains-value_of x.pairs m y e) (Contains-value_of x.pairs n y f) refl);
  paired = λ n y c. value_of-only x.pairs n y c (λ v d. ap (λ (p : ℕ × ℕ). p.1) (one-pair (λ p. p.0) x.pairs (n, v) (n, y) different.numbers d c refl));
  origin = λ n y e. inl (Contains-map (λ (p : ℕ × ℕ). p.1) x.pairs (n, y) (Contains-value_of x.pairs n y e));
  known = λ n y e. known y (Contains-map (λ (p : ℕ × ℕ). p.1) x.pairs (n, y) (Contains-value_of x.pairs n y e));
  more = λ s h. h;
}

-- values for variables
abbrev pub answer_by : List (List ℕ × ℕ) → (ℕ → Applied) → Values
answer_by es f = map (λ e. (e.0, f e.1)) es

pub answer-zip : (es : List (List ℕ × ℕ)) (f : ℕ → Applied) → zip (map (λ (e : List ℕ × ℕ). e.0) es) (map f (map (λ (e : List ℕ × ℕ). e.1) es)) ≡ answer_by es f
answer-zip [] f = refl
answer-zip (e ∷ es) f = ap (λ l. (e.0, f e.1) ∷ l) (answer-zip es f)

answer-variables : (es : List (List ℕ × ℕ)) (f : ℕ → Applied) → map (λ (e : List ℕ × Applied). e.0) (answer_by es f) ≡ map (λ (e : List ℕ × ℕ). e.0) es
answer-variables [] f = refl
answer-variables (e ∷ es) f = ap (λ l. e.0 ∷ l) (answer-variables es f)

value-there : (es : List (List ℕ × ℕ)) (f : ℕ → Applied) (v : List ℕ) (k : ℕ) → Contains es (v, k) → ((e : List ℕ × ℕ) → Contains es e → e.0 ≡ v → e.1 ≡ k) → value_at (answer_by es f) v ≡ Some (f k)
value-there [] f v k c only = absurd (Contains-nil (v, k) c)
value-there (e ∷ es) f v k c only =
    go (numbers_eq e.0 v) refl (λ d. value-there es f v k d (λ q h. only q (contains_tail e es q h)))
  where
    go : (b : Bool) → numbers_eq e.0 v ≡ b → (Contains es (v, k) → value_at (answer_by es f) v ≡ Some (f k)) → cond b (Some (f e.1)) (value_at (answer_by es f) v) ≡ Some (f k)
    go true t rest = ap (λ n. Some (f n)) (only e (contains_head e es) (numbers_eq-true e.0 v t))
    go false t rest = elim (contains_cases e es (v, k) c) [
      | inl h ↦ absurd (false≢true (sym t ∙ (ap (λ (q : List ℕ × ℕ). numbers_eq q.0 v) (sym h) ∙ numbers_eq-same v)))
      | inr h ↦ rest h
    ]

some-slot : (names : List (ℕ × ℕ)) (n : ℕ) → IsSome (value_of names n) → value_of names n ≡ Some (slot_in names n)
some-slot names n h = go (value_of names n) h
  where
    go : (o : Option ℕ) → IsSome o → o ≡ Some (unwrap_or o 0)
    go None t = absurd (false≢true t)
    go (Some y) t = refl

module _ (k : Kept) (vs : List (List ℕ)) (es : List (List ℕ × ℕ)) (numbers : NumbersByName vs es) (once : StandOnce vs) (t u : Table) (x : Answer)
    (names : List (ℕ × ℕ)) (naming : IsNaming t x.pairs u names) (covers : (n : ℕ) → Contains (flat_map (λ (o : Occurrence). o.names) x.values) n → IsSome (value_of names n))
    (whole : HasWholeIds k x (map (λ (e : List ℕ × ℕ). e.1) es)) where
  abbrev f : ℕ → Applied
  f i = read_id (state_of k) (slot_in names) (get_or x.values i no_occurrence)

  abbrev s : Values
  s = answer_by es f

  named-number : (n : ℕ) → Contains (names_of x) n → value_of names n ≡ Some (slot_in names n)
  named-number n c = elim (In-append n (map (λ (p : ℕ × ℕ). p.0) x.pairs) (flat_map (λ (o : Occurrence). o.names) x.values) (In-Contains (names_of x) n c)) [
    | inl h ↦
        let p = Contains-of_map (λ (q : ℕ × ℕ). q.0) x.pairs n (Contains-In (map (λ (q : ℕ × ℕ). q.0) x.pairs) n h) in
        let v : value_of names n ≡ Some p.0.1 = naming.paired n p.0.1 (subst (λ m. Contains x.pairs (m, p.0.1)) p.2 p.1) in
        some-slot names n (ap is_some v)
    | inr h ↦ some-slot names n (covers n (Contains-In (flat_map (λ (o : Occurrence). o.names) x.values) n h))
  ]

  injective : IsInjectiveOn (slot_in names) (names_of x)
  injective a b c d e = naming.injective a b (slot_in names b) (named-number a c ∙ ap (λ y. Some y) e) (named-number b d)

  -- the occurrence of an entry
  at : List ℕ × ℕ → Occurrence
  at e = get_or x.values e.1 no_occurrence

  whole-at : (e : List ℕ × ℕ) → Contains es e → (e.1 < length x.values) × IsWholeId (state_of k) (get_or x.values e.1 no_occurrence)
  whole-at e c = whole e.1 (Contains-map (λ (q : List ℕ × ℕ). q.1) es e c)

  number-at : (e : List ℕ × ℕ) → Contains es e → (n : ℕ) → Contains (get_or x.values e.1 no_occurrence).names n → Contains (flat_map (λ (o : Occurrence). o.names) x.values) n
  number-at e c n d =
      Contains-In (flat_map (λ (o : Occurrence). o.names) x.values) n
      (In-flat_map (λ (o : Occurrence). o.names) x.values (get_or x.values e.1 no_occurrence) n
      (In-Contains x.values (get_or x.values e.1 no_occurrence) (Contains-get_or x.values e.1 no_occurrence (whole-at e c).0))
      (In-Contains (get_or x.values e.1 no_occurrence).names n d))

  -- a name of a value is that of a number
  name-of_number : (y : ℕ) → HasName s y → (n : ℕ) × (value_of names n ≡ Some y)
  name-of_number y h =
      let e = Contains-of_map (λ (q : List ℕ × ℕ). (q.0, f q.1)) es h.0 h.1 in
      let o = get_or x.values e.0.1 no_occurrence in
      let w = (whole-at e.0 e.1).1 in
      let l : length (used_slots (entries_of k) o.class) ≡ length (map (slot_in names) o.names) = sym w.count ∙ sym (length-map o.names (slot_in names)) in
      let c : Contains (map (slot_in names) o.names) y =
      subst (λ l. Contains l y) (ap (λ (q : List ℕ × Applied). values q.1.1) (sym e.2) ∙ values-beside (used_slots (entries_of k) o.class) (map (slot_in names) o.names) l) h.2 in
      let n = Contains-of_map (slot_in names) o.names y c in
      (n.0, some-slot names n.0 (covers n.0 (number-at e.0 e.1 n.0 n.1)) ∙ ap (λ z. Some z) n.2)

  pub answer-named : IsNamedAnswer k vs t u (answer_by es f) x
  answer-named = record {
    ascending = subst AscendingNames (sym (answer-variables es f)) numbers.ascending;
    variables = λ v. (
      (λ c. subst (λ l. Contains l v) (sym (answer-variables es f))
          (subst (Contains (map (λ (e : List ℕ × ℕ). e.0) es)) (get_or_default vs c.0 [] v c.1 ∙ c.2) (Contains-map (λ (e : List ℕ × ℕ). e.0) es (get_or vs c.0 [], c.0) (numbers.all c.0 c.1)))),
      (λ c.
          let e = Contains-of_map (λ (q : List ℕ × ℕ). q.0) es v (subst (λ l. Contains l v) (answer-variables es f) c) in
          let n = numbers.each e.0 e.1 in
          subst (Contains vs) (n.1 ∙ e.2) (Contains-get_or vs e.0.1 [] n.0)),
    );
    reads = λ r. record {
      name = slot_in names;
      injective = injective;
      slots = λ n y c. ap (λ o. unwrap_or o 0) (naming.paired n y c);
      values = λ i l. ap id_or_none (value-there es f (get_or vs i []) i (numbers.all i l)
          (λ e c h. let n = numbers.each e c in once e.1 i n.0 l (n.1 ∙ h)));
    };
    valid = λ r rest e c.
        let q = Contains-of_map (λ (p : List ℕ × ℕ). (p.0, f p.1)) es e c in
        let o = get_or x.values q.0.1 no_occurrence in
        let w = (whole-at q.0 q.1).1 in
        subst (λ (p : List ℕ × Applied). IsValidIn (state_in k r) p.1) q.2
        (whole-valid (state_in k r) rest o (record { in_range = w.in_range; lives = w.lives; count = w.count; differ = w.differ }) (slot_in names)
        (λ a b i j h. injective a b (in-values a (number-at q.0 q.1 a i)) (in-values b (number-at q.0 q.1 b j)) h)).0;
    names = λ y h. let n = name-of_number y h in naming.origin n.0 y n.1;
    known = λ y h. let n = name-of_number y h in naming.known n.0 y n.1;
    more = naming.more;
  }
    where
      in-values : (a : ℕ) → Contains (flat_map (λ (o : Occurrence). o.names) x.values) a → Contains (names_of x) a
      in-values a c = Contains-In (names_of x) a (In-right a (map (λ (p : ℕ × ℕ). p.0) x.pairs) (flat_map (λ (o : Occurrence). o.names) x.values) (In-Contains (flat_map (λ (o : Occurrence). o.names) x.values) a c))
