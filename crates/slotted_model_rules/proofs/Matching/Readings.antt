-- Readings of what the matcher finds: there is one, each slot of the pattern is read as itself, and two differ by a renaming of the other names.
use Rattle.std.proofs.Common.{◌≡◌, ℕ, ◌<◌, List, [], ◌∷◌, ◌++◌, Option, Some, None, Bool, true, false, sym, ◌∙◌, ap, refl, subst, inl, inr}
use Rattle.std.specs.Prelude.{Contains, option_and_then, cond, map, unwrap_or}
use Rattle.std.proofs.lemmas.Bool.{cases_eq, cases_Bool, eq-eqb, ne_eqb, false≢true}
use Rattle.slotted_lists.proofs.Contained.{Contains-nil, contains_cases, above, Contains-below}
use Rattle.slotted_lists.proofs.Members.{In, In-left, In-right, In-map, In-Contains, Contains-In}
use Rattle.slotted_lists.proofs.Maps.{value_of-first, value_of-rest}
use Rattle.slotted_lists.proofs.Options.{Some-same}
use Rattle.slotted_theory.specs.FiniteMaps.{value_of, IsInjectiveMap, filled}
use Rattle.slotted_theory.specs.Renaming.{Bijection}
use Rattle.slotted_theory.specs.Decided.{numbers_eq}
use Rattle.slotted_theory.proofs.Bijections.{then, opposite, bijection_below, Agrees as AgreesBelow}
use Rattle.slotted_theory.proofs.Filled.{filled-value_of, filled-injective}
use Rattle.slotted_model.specs.Affected.{id_eq}
use Rattle.slotted_model.specs.Applied.{Applied, values, renamed_id}
use Rattle.slotted_model.specs.Correspondence.{has_slot}
use Rattle.slotted_model.specs.Find.{find}
use Rattle.slotted_model.specs.State.{Row, State}
use Rattle.slotted_model.proofs.Data.Maps.{In-values}
use Rattle.slotted_model.proofs.Finds.NormalIds.{found-renamed}
use Rattle.slotted_model.proofs.Data.Options.{None-Some, and_then-some}
use Rattle.slotted_model.proofs.Complete.Spreading.{in-has_slot}
use Rattle.slotted_model_rules.specs.Patterns.{Pattern, PatternArgs, pattern_node, variable, replacing, no_argument, own_name, child_pattern, binding}
use Rattle.slotted_model_rules.specs.Matcher.{NodeArgs, no_more, a_name, an_id, a_binder, written_names, rest_of, id_of_first, inside_first, MatchState, value_at, paired_with, paired, walked, with_value, Found, FoundIn, EachSlot, EachSlotIn, class_id, start_at, Reads}
use Rattle.slotted_model_rules.proofs.Matching.AllSlots.{renamed-agrees}
use Rattle.slotted_model_rules.proofs.Matching.Answering.{Grows, AtRow, at_row, found-grows, inside-grows}
use Rattle.slotted_model_rules.proofs.Substitutions.Renamed.{renamed-twice}
use Rattle.slotted_model_rules.proofs.Matching.Walking.{member-given, Keeps, paired-keeps, walked-aligned}

-- some name of the graph stands for the slot t
abbrev pub IsNamed : List (ℕ × ℕ) → ℕ → Type 0
IsNamed pairs t = (s : ℕ) × Contains pairs (s, t)

-- P holds of each slot that the node itself names
abbrev OwnSlots : (ℕ → Type 0) → PatternArgs → Type 0
OwnSlots P no_argument = Unit {0}
OwnSlots P (own_name x rest) = P x × OwnSlots P rest
OwnSlots P (child_pattern p rest) = OwnSlots P rest
OwnSlots P (binding x inner rest) = P x × OwnSlots P inner × OwnSlots P rest

OwnSlots-map : (P Q : ℕ → Type 0) → ((t : ℕ) → P t → Q t) → (args : PatternArgs) → OwnSlots P args → OwnSlots Q args
OwnSlots-map P Q h no_argument k = tt
OwnSlots-map P Q h (own_name x rest) k = (h x k.0, OwnSlots-map P Q h rest k.1)
OwnSlots-map P Q h (child_pattern p rest) k = OwnSlots-map P Q h rest k
OwnSlots-map P Q h (binding x inner rest) k = (h x k.0, OwnSlots-map P Q h inner k.1, OwnSlots-map P Q h rest k.2)

mutual
  pub EachSlot-map : (P Q : ℕ → Type 0) → ((t : ℕ) → P t → Q t) → (p : Pattern) → EachSlot P p → EachSlot Q p
  EachSlot-map P Q h (pattern_node op payloads args) k = EachSlotIn-map P Q h args k
  EachSlot-map P Q h (variable v) k = tt
  EachSlot-map P Q h (replacing body part value) k = (EachSlot-map P Q h body k.0, EachSlot-map P Q h part k.1, EachSlot-map P Q h value k.2)

  EachSlotIn-map : (P Q : ℕ → Type 0) → ((t : ℕ) → P t → Q t) → (args : PatternArgs) → EachSlotIn P args → EachSlotIn Q args
  EachSlotIn-map P Q h no_argument k = tt
  EachSlotIn-map P Q h (own_name x rest) k = (h x k.0, EachSlotIn-map P Q h rest k.1)
  EachSlotIn-map P Q h (child_pattern p rest) k = (EachSlot-map P Q h p k.0, EachSlotIn-map P Q h rest k.1)
  EachSlotIn-map P Q h (binding x inner rest) k = (h x k.0, EachSlotIn-map P Q h inner k.1, EachSlotIn-map P Q h rest k.2)

named-later : (pairs later : List (ℕ × ℕ)) → Keeps pairs later → (t : ℕ) → IsNamed pairs t → IsNamed later t
named-later pairs later h t k = (k.0, h k.0 t k.1)

-- a walk names the slots of the node
walked-slots : (args : PatternArgs) (n : NodeArgs) (pairs q : List (ℕ × ℕ)) → walked args n pairs ≡ Some q → OwnSlots (IsNamed q) args
walked-slots no_argument no_more pairs q e = tt
walked-slots (own_name x rest) (a_name y n) pairs q e =
    let r : (m : List (ℕ × ℕ)) × (paired pairs y x ≡ Some m) × (walked rest n m ≡ Some q) = and_then-some (walked rest n) (paired pairs y x) q e in
    ((y, (walked-aligned rest n r.0 q r.2).0 y x (paired-keeps pairs y x r.0 r.1).0), walked-slots rest n r.0 q r.2)
walked-slots (child_pattern p rest) (an_id a n) pairs q e = walked-slots rest n pairs q e
walked-slots (binding x inner rest) (a_binder y m n) pairs q e =
    let r : (u : List (ℕ × ℕ)) × (option_and_then (walked inner m) (paired pairs y x) ≡ Some u) × (walked rest n u ≡ Some q) =
    and_then-some (walked rest n) (option_and_then (walked inner m) (paired pairs y x)) q e in
    let o : (u : List (ℕ × ℕ)) × (paired pairs y x ≡ Some u) × (walked inner m u ≡ Some r.0) = and_then-some (walked inner m) (paired pairs y x) r.0 r.1 in
    let last : Keeps r.0 q = (walked-aligned rest n r.0 q r.2).0 in (
      (y, last y x ((walked-aligned inner m o.0 r.0 o.2).0 y x (paired-keeps pairs y x o.0 o.1).0)),
      OwnSlots-map (IsNamed r.0) (IsNamed q) (named-later r.0 q last) inner (walked-slots inner m o.0 r.0 o.2),
      walked-slots rest n r.0 q r.2,
    )
walked-slots _ _ pairs q e = absurd (None-Some q e)

module _ (g : State) (order : List Row) where
  mutual
    -- each slot of the pattern has a name in the end
    pub slots-named : (p : Pattern) (st : MatchState) (a : Applied) (outs : List MatchState) → Found g order p st a outs → (out : MatchState) → In out outs → EachSlot (IsNamed out.pairs) p
    slots-named (pattern_node op payloads args) st a outs found out h =
        let k : AtRow g order op payloads args st a out = at_row g order op payloads args st a outs found out h in
        slots-inside args k.names (record { values = st.values; pairs = k.pairs; seen = written_names k.names ++ st.seen }) k.here k.inside out k.member (walked-slots args k.names st.pairs k.pairs k.went)
    slots-named (variable v) st a outs found out h = tt
    slots-named (replacing body part value) st a outs found out h = absurd (subst (In out) found h)

    slots-inside : (args : PatternArgs) (n : NodeArgs) (st : MatchState) (outs : List MatchState) → FoundIn g order args n st outs → (out : MatchState) → In out outs → OwnSlots (IsNamed st.pairs) args → EachSlotIn (IsNamed out.pairs) args
    slots-inside no_argument n st outs found out h own = tt
    slots-inside (own_name x rest) n st outs found out h own =
        (named-later st.pairs out.pairs (inside-grows g order rest (rest_of n) st outs found out h).pairs_kept x own.0, slots-inside rest (rest_of n) st outs found out h own.1)
    slots-inside (child_pattern p rest) n st outs found out h own =
        let m = member-given (λ s here. FoundIn g order rest (rest_of n) s here) found.0 outs found.2 out h in
        let first : Grows st m.0 = found-grows g order p st (id_of_first n) found.0 found.1 m.0 m.1 in
        let later : Grows m.0 out = inside-grows g order rest (rest_of n) m.0 m.2 m.3 out m.4 in (
          EachSlot-map (IsNamed m.0.pairs) (IsNamed out.pairs) (named-later m.0.pairs out.pairs later.pairs_kept) p (slots-named p st (id_of_first n) found.0 found.1 m.0 m.1),
          slots-inside rest (rest_of n) m.0 m.2 m.3 out m.4 (OwnSlots-map (IsNamed st.pairs) (IsNamed m.0.pairs) (named-later st.pairs m.0.pairs first.pairs_kept) rest own),
        )
    slots-inside (binding x inner rest) n st outs found out h own =
        let m = member-given (λ s here. FoundIn g order rest (rest_of n) s here) found.0 outs found.2 out h in
        let first : Grows st m.0 = inside-grows g order inner (inside_first n) st found.0 found.1 m.0 m.1 in
        let later : Grows m.0 out = inside-grows g order rest (rest_of n) m.0 m.2 m.3 out m.4 in (
          named-later m.0.pairs out.pairs later.pairs_kept x (named-later st.pairs m.0.pairs first.pairs_kept x own.0),
          EachSlotIn-map (IsNamed m.0.pairs) (IsNamed out.pairs) (named-later m.0.pairs out.pairs later.pairs_kept) inner (slots-inside inner (inside_first n) st found.0 found.1 m.0 m.1 own.1),
          slots-inside rest (rest_of n) m.0 m.2 m.3 out m.4 (OwnSlots-map (IsNamed st.pairs) (IsNamed m.0.pairs) (named-later st.pairs m.0.pairs first.pairs_kept) rest own.2),
        )

-- the pairs are an injective map
record IsNameMap (pairs : List (ℕ × ℕ)) : Type 0 where
  injective : IsInjectiveMap pairs
  once : (s t : ℕ) → Contains pairs (s, t) → value_of pairs s ≡ Some t

paired-map : (pairs : List (ℕ × ℕ)) (y x : ℕ) (q : List (ℕ × ℕ)) → IsNameMap pairs → paired pairs y x ≡ Some q → IsNameMap q
paired-map pairs y x q is e = go (value_of pairs y) refl e
  where
    go : (o : Option ℕ) → value_of pairs y ≡ o → paired_with o pairs y x ≡ Some q → IsNameMap q
    go (Some u) v p = elim (cases_eq u x) [
      | inl same ↦ subst IsNameMap (Some-same pairs q (ap (λ b. cond b (Some pairs) None) (sym (eq-eqb u x same)) ∙ p)) is
      | inr n ↦ absurd (None-Some q (ap (λ b. cond b (Some pairs) None) (sym (ne_eqb u x n)) ∙ p))
    ]
    go None v p = elim (cases_Bool (has_slot (values pairs) x)) [
      | inl h ↦ absurd (None-Some q (ap (λ b. cond b None (Some ((y, x) ∷ pairs))) (sym h) ∙ p))
      | inr h ↦ subst IsNameMap (Some-same ((y, x) ∷ pairs) q (ap (λ b. cond b None (Some ((y, x) ∷ pairs))) (sym h) ∙ p)) (record {
        injective = (λ k. false≢true (sym h ∙ in-has_slot (values pairs) x (In-values pairs x k)), is.injective);
        once = λ s t c. elim (contains_cases (y, x) pairs (s, t) c) [
          | inl r ↦ value_of-first (y, x) pairs s (ap (λ (u : ℕ × ℕ). u.0) r) ∙ ap Some (sym (ap (λ (u : ℕ × ℕ). u.1) r))
          | inr k ↦ value_of-rest (y, x) pairs s (λ r. None-Some t (sym v ∙ (ap (value_of pairs) (sym r) ∙ is.once s t k))) ∙ is.once s t k
        ];
      })
    ]

walked-map : (args : PatternArgs) (n : NodeArgs) (pairs q : List (ℕ × ℕ)) → IsNameMap pairs → walked args n pairs ≡ Some q → IsNameMap q
walked-map no_argument no_more pairs q is e = subst IsNameMap (Some-same pairs q e) is
walked-map (own_name x rest) (a_name y n) pairs q is e =
    let r : (m : List (ℕ × ℕ)) × (paired pairs y x ≡ Some m) × (walked rest n m ≡ Some q) = and_then-some (walked rest n) (paired pairs y x) q e in
    walked-map rest n r.0 q (paired-map pairs y x r.0 is r.1) r.2
walked-map (child_pattern p rest) (an_id a n) pairs q is e = walked-map rest n pairs q is e
walked-map (binding x inner rest) (a_binder y m n) pairs q is e =
    let r : (u : List (ℕ × ℕ)) × (option_and_then (walked inner m) (paired pairs y x) ≡ Some u) × (walked rest n u ≡ Some q) =
    and_then-some (walked rest n) (option_and_then (walked inner m) (paired pairs y x)) q e in
    let o : (u : List (ℕ × ℕ)) × (paired pairs y x ≡ Some u) × (walked inner m u ≡ Some r.0) = and_then-some (walked inner m) (paired pairs y x) r.0 r.1 in
    walked-map rest n r.0 q (walked-map inner m o.0 r.0 (paired-map pairs y x o.0 is o.1) o.2) r.2
walked-map _ _ pairs q is e = absurd (None-Some q e)

with_value-map : (g : State) (o : Option Applied) (st : MatchState) (v : List ℕ) (a : Applied) (out : MatchState) → IsNameMap st.pairs → In out (with_value g o st v a) → IsNameMap out.pairs
with_value-map g (Some b) st v a out is h = go (id_eq (find g.found b) (find g.found a)) h
  where
    go : (c : Bool) → In out (cond c (st ∷ []) []) → IsNameMap out.pairs
    go true (inl e) = subst (λ (s : MatchState). IsNameMap s.pairs) (sym e) is
    go true (inr k) = absurd k
    go false k = absurd k
with_value-map g None st v a out is (inl e) = subst (λ (s : MatchState). IsNameMap s.pairs) (sym e) is
with_value-map g None st v a out is (inr k) = absurd k

module _ (g : State) (order : List Row) where
  mutual
    found-map : (p : Pattern) (st : MatchState) (a : Applied) (outs : List MatchState) → Found g order p st a outs → (out : MatchState) → In out outs → IsNameMap st.pairs → IsNameMap out.pairs
    found-map (pattern_node op payloads args) st a outs found out h is =
        let k : AtRow g order op payloads args st a out = at_row g order op payloads args st a outs found out h in
        inside-map args k.names (record { values = st.values; pairs = k.pairs; seen = written_names k.names ++ st.seen }) k.here k.inside out k.member (walked-map args k.names st.pairs k.pairs is k.went)
    found-map (variable v) st a outs found out h is = with_value-map g (value_at st.values v) st v a out is (subst (In out) found h)
    found-map (replacing body part value) st a outs found out h is = absurd (subst (In out) found h)

    inside-map : (args : PatternArgs) (n : NodeArgs) (st : MatchState) (outs : List MatchState) → FoundIn g order args n st outs → (out : MatchState) → In out outs → IsNameMap st.pairs → IsNameMap out.pairs
    inside-map no_argument n st outs found out h is = only (subst (In out) found h)
      where
        only : In out (st ∷ []) → IsNameMap out.pairs
        only (inl e) = subst (λ (s : MatchState). IsNameMap s.pairs) (sym e) is
        only (inr k) = absurd k
    inside-map (own_name x rest) n st outs found out h is = inside-map rest (rest_of n) st outs found out h is
    inside-map (child_pattern p rest) n st outs found out h is =
        let m = member-given (λ s here. FoundIn g order rest (rest_of n) s here) found.0 outs found.2 out h in
        inside-map rest (rest_of n) m.0 m.2 m.3 out m.4 (found-map p st (id_of_first n) found.0 found.1 m.0 m.1 is)
    inside-map (binding x inner rest) n st outs found out h is =
        let m = member-given (λ s here. FoundIn g order rest (rest_of n) s here) found.0 outs found.2 out h in
        inside-map rest (rest_of n) m.0 m.2 m.3 out m.4 (inside-map inner (inside_first n) st found.0 found.1 m.0 m.1 is)

  -- what is found at a class can be read
  pub a-reading : (p : Pattern) (c : ℕ) (outs : List MatchState) → Found g order p (start_at g c) (class_id g c) outs → (out : MatchState) → In out outs → (f : ℕ → ℕ) × (σ : List ℕ → Applied) × Reads g f σ out
  a-reading p c outs found out h =
      let is : IsNameMap out.pairs = found-map p (start_at g c) (class_id g c) outs found out h (record { injective = tt; once = λ s t k. absurd (Contains-nil (s, t) k) }) in
      let f : ℕ → ℕ = filled out.pairs in
      let σ : List ℕ → Applied = λ v. renamed_id f (unwrap_or (value_at out.values v) (0, [])) in (
        f,
        σ,
        record {
          injective = filled-injective out.pairs is.injective;
          slots = λ s t k. filled-value_of out.pairs s t (is.once s t k);
          values_read = λ v b e. ap (λ o. find g.found (renamed_id f (unwrap_or o (0, [])))) e ∙ found-renamed g.found f b;
        },
      )

-- the names of the values
abbrev value_names : State → List (List ℕ × Applied) → List ℕ
value_names g [] = []
value_names g (p ∷ rest) = values (find g.found p.1).1 ++ value_names g rest

value-named : (g : State) (vs : List (List ℕ × Applied)) (v : List ℕ) (b : Applied) → value_at vs v ≡ Some b → (z : ℕ) → In z (values (find g.found b).1) → In z (value_names g vs)
value-named g [] v b e z h = absurd (None-Some b e)
value-named g (p ∷ rest) v b e z h = elim (cases_Bool (numbers_eq p.0 v)) [
  | inl t ↦
      let same : p.1 ≡ b = Some-same p.1 b (ap (λ c. cond c (Some p.1) (value_at rest v)) (sym t) ∙ e) in
      In-left z (values (find g.found p.1).1) (value_names g rest) (subst (λ c. In z (values (find g.found c).1)) (sym same) h)
  | inr o ↦ In-right z (values (find g.found p.1).1) (value_names g rest) (value-named g rest v b (ap (λ c. cond c (Some p.1) (value_at rest v)) (sym o) ∙ e) z h)
]

-- two readings of one state
pub readings-renamed : (g : State) (out : MatchState) (f h : ℕ → ℕ) (σ τ : List ℕ → Applied) → Reads g f σ out → Reads g h τ out →
    (π : Bijection) × ((s t : ℕ) → Contains out.pairs (s, t) → π.to t ≡ t) × ((v : List ℕ) (b : Applied) → value_at out.values v ≡ Some b → find g.found (τ v) ≡ renamed_id π.to (find g.found (σ v)))
readings-renamed g out f h σ τ r q =
    let L : List ℕ = map (λ (p : ℕ × ℕ). p.0) out.pairs ++ value_names g out.values in
    let n : ℕ = above L in
    let left : AgreesBelow f n = bijection_below f r.injective n in
    let right : AgreesBelow h n = bijection_below h q.injective n in
    let π : Bijection = then (opposite left.bijection) right.bijection in
    let at : (z : ℕ) → In z L → π.to (f z) ≡ h z = λ z i.
    let l : z < n = Contains-below L z (Contains-In L z i) in
    ap right.bijection.to (ap left.bijection.back (sym (left.agrees z l)) ∙ left.bijection.back_to z) ∙ right.agrees z l in (
      π,
      λ s t c.
          let i : In s L = In-left s (map (λ (p : ℕ × ℕ). p.0) out.pairs) (value_names g out.values) (In-map (λ (p : ℕ × ℕ). p.0) out.pairs (s, t) (In-Contains out.pairs (s, t) c)) in
          ap π.to (sym (r.slots s t c)) ∙ (at s i ∙ q.slots s t c),
      λ v b e.
          let c : Applied = find g.found b in
          q.values_read v b e
          ∙ (renamed-agrees h (λ z. π.to (f z)) c (λ z i. sym (at z (In-right z (map (λ (p : ℕ × ℕ). p.0) out.pairs) (value_names g out.values) (value-named g out.values v b e z i))))
          ∙ (sym (renamed-twice π.to f c) ∙ ap (renamed_id π.to) (sym (r.values_read v b e)))),
    )
