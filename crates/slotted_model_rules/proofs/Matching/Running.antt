-- The matcher has a run for each pattern, from each state at each valid id: there are names for all nodes that it visits.
use Rattle.std.proofs.Common.{◌≡◌, ℕ, zero, suc, ◌+◌, ◌<◌, ◌≤◌, List, [], ◌∷◌, ◌++◌, Option, Some, None, sym, ◌∙◌, ap, refl, subst, inl, inr, arith}
use Rattle.std.specs.Prelude.{◌⊎◌, Contains, max, cond}
use Rattle.std.proofs.lemmas.Bool.{cases_eq, cases_Bool}
use Rattle.slotted_lists.proofs.Contained.{above, Contains-below}
use Rattle.slotted_lists.proofs.Members.{In, In-left, In-right, In-append, In-of_map, In-Contains, Contains-In}
use Rattle.slotted_lists.proofs.Maps.{values-with_values}
use Rattle.slotted_theory.specs.Nameless.{DArgs, DTerm, stop, place, sub, scope, extend}
use Rattle.slotted_theory.specs.Renaming.{IsInjective}
use Rattle.slotted_theory.specs.Shape.{outside, free_names}
use Rattle.slotted_theory.proofs.Names.{extend-same, extend-other}
use Rattle.slotted_theory.proofs.Values.{node, child_before}
use Rattle.slotted_model.specs.Applied.{Applied, values, renamed_id, as_term, EachChild}
use Rattle.slotted_model.specs.Classes.{IsFull}
use Rattle.slotted_model.specs.Correspondence.{AllDifferent, has_slot}
use Rattle.slotted_model.specs.Extraction.{row_class}
use Rattle.slotted_model.specs.Find.{find_class, find, Linked}
use Rattle.slotted_model.specs.State.{Row, State}
use Rattle.slotted_model.specs.Rest.{IsValidIn, AtRest}
use Rattle.slotted_model.proofs.Represented.Children.{EachChild-map, free_names-places}
use Rattle.slotted_model.proofs.Represented.Full.{full-renamed}
use Rattle.slotted_model.proofs.Data.Members.{In-outside}
use Rattle.slotted_model.proofs.Finds.NormalIds.{found-renamed}
use Rattle.slotted_model.proofs.Rebuilding.RowNodes.{row_node, row-id}
use Rattle.slotted_model.proofs.Complete.Spreading.{has_slot-in, in-has_slot}
use Rattle.slotted_model_rules.specs.Patterns.{Pattern, PatternArgs, pattern_node, variable, replacing, no_argument, own_name, child_pattern, binding, IsOfRow}
use Rattle.slotted_model_rules.specs.Matcher.{NodeArgs, no_more, a_name, an_id, a_binder, unnamed, written_names, bound_names, rest_of, MatchState, value_at, walked, IsRowFor, IsNodeOf, Gives, IfThere, with_value, Found, FoundIn}
use Rattle.slotted_model_rules.proofs.Matching.AllSlots.{renamed-agrees}
use Rattle.slotted_model_rules.proofs.Substitutions.Renamed.{renamed-twice, renamed-id}
use Rattle.slotted_model_rules.proofs.Substitutions.Substituting.{same_or_not}
use Rattle.slotted_model_rules.proofs.Matching.ValidValues.{Shaped, walked-shaped, IdsValid, ids-valid, row-valid}

different-append : (xs ys : List ℕ) → AllDifferent xs → AllDifferent ys → ((z : ℕ) → In z xs → In z ys → ⊥) → AllDifferent (xs ++ ys)
different-append [] ys d e apart = e
different-append (x ∷ xs) ys d e apart = (
  λ c. elim (In-append x xs ys (In-Contains (xs ++ ys) x c)) [
    | inl i ↦ d.0 (Contains-In xs x i)
    | inr i ↦ apart x (inl refl) i
  ],
  different-append xs ys d.1 e (λ z i j. apart z (inr i) j),
)

-- the names of numbers under one more binder, of the name k
abbrev under_name : ℕ → (ℕ → ℕ) → ℕ → ℕ
under_name k σ zero = k
under_name k σ (suc x) = σ x

-- a node with names, whose binders have the names from k on
record WithNames (ρ : ℕ → ℕ) (k : ℕ) (d : DArgs) : Type 0 where
  names : NodeArgs
  top : ℕ
  form : unnamed ρ names ≡ d
  above_k : k ≤ top
  between : (z : ℕ) → In z (bound_names names) → (k ≤ z) × (z < top)
  differ : AllDifferent (bound_names names)

with_names : (σ ρ : ℕ → ℕ) (k : ℕ) (d : DArgs) → EachChild (λ a. Unit {0}) d → ((x : ℕ) → In x (free_names d) → (ρ (σ x) ≡ x) × (σ x < k)) → WithNames ρ k d
with_names σ ρ k stop c h = record { names = no_more; top = k; form = refl; above_k = omega arith; between = λ z i. absurd i; differ = tt }
with_names σ ρ k (place x rest) c h =
    let r : WithNames ρ k rest = with_names σ ρ k rest c (λ y i. h y (inr i)) in
    record { names = a_name (σ x) r.names; top = r.top; form = λ i. place ((h x (inl refl)).0 i) (r.form i); above_k = r.above_k; between = r.between; differ = r.differ }
with_names σ ρ k (sub op payloads args rest) c h =
    let r : WithNames ρ k rest = with_names σ ρ k rest c.1 (λ y i. h y (In-right y (free_names args) (free_names rest) i)) in
    let a : Applied = c.0.0 in
    let own : free_names args ≡ values a.1 = ap (λ (t : DTerm). free_names t.args) c.0.1 ∙ free_names-places (values a.1) in
    let back : renamed_id ρ (renamed_id σ a) ≡ a =
    renamed-twice ρ σ a ∙ (renamed-agrees (λ x. ρ (σ x)) (λ x. x) a (λ z i. (h z (In-left z (free_names args) (free_names rest) (subst (In z) (sym own) i))).0) ∙ renamed-id a) in
    let e : as_term (renamed_id ρ (renamed_id σ a)) ≡ node op payloads args = ap as_term back ∙ sym c.0.1 in
    record { names = an_id (renamed_id σ a) r.names; top = r.top; form = λ i. child_before (e i) (r.form i); above_k = r.above_k; between = r.between; differ = r.differ }
with_names σ ρ k (scope inner rest) c h =
    let i : WithNames (extend k ρ) (suc k) inner = with_names (under_name k σ) (extend k ρ) (suc k) inner c.0 inside in
    let up : suc k ≤ i.top = i.above_k in
    let r : WithNames ρ i.top rest =
    with_names σ ρ i.top rest c.1 (λ y j. let q = h y (In-right y (outside (free_names inner)) (free_names rest) j) in (q.0, let l : σ y < k = q.1 in omega arith)) in
    let last : i.top ≤ r.top = r.above_k in
    record {
      names = a_binder k i.names r.names;
      top = r.top;
      form = λ j. scope (i.form j) (r.form j);
      above_k = omega arith;
      between = λ z m. range i r up last z m;
      differ = (
        λ m. elim (In-append k (bound_names i.names) (bound_names r.names) (In-Contains (bound_names i.names ++ bound_names r.names) k m)) [
          | inl j ↦ let l : suc k ≤ k = (i.between k j).0 in omega arith
          | inr j ↦ let l : i.top ≤ k = (r.between k j).0 in omega arith
        ],
        different-append (bound_names i.names) (bound_names r.names) i.differ r.differ (λ z j m. let l : z < i.top = (i.between z j).1 in let o : i.top ≤ z = (r.between z m).0 in omega arith),
      );
    }
  where
    inside : (x : ℕ) → In x (free_names inner) → (extend k ρ (under_name k σ x) ≡ x) × (under_name k σ x < suc k)
    inside zero m = (extend-same k ρ k refl, omega arith)
    inside (suc x) m =
        let q : (ρ (σ x) ≡ x) × (σ x < k) = h x (In-left x (outside (free_names inner)) (free_names rest) (In-outside x (free_names inner) m)) in
        let l : σ x < k = q.1 in
        (extend-other k ρ (σ x) (λ e. omega arith) ∙ ap suc q.0, omega arith)

    range : (i : WithNames (extend k ρ) (suc k) inner) (r : WithNames ρ i.top rest) → suc k ≤ i.top → i.top ≤ r.top → (z : ℕ) → In z (k ∷ (bound_names i.names ++ bound_names r.names)) → (k ≤ z) × (z < r.top)
    range i r up last z (inl e) = (omega arith, omega arith)
    range i r up last z (inr m) = elim (In-append z (bound_names i.names) (bound_names r.names) m) [
      | inl j ↦ let l : suc k ≤ z = (i.between z j).0 in let o : z < i.top = (i.between z j).1 in (omega arith, omega arith)
      | inr j ↦ let l : i.top ≤ z = (r.between z j).0 in let o : z < r.top = (r.between z j).1 in (omega arith, omega arith)
    ]

-- names of a list stay, and all others go up
abbrev pub kept_or_up : List ℕ → ℕ → ℕ → ℕ
kept_or_up V k z = cond (has_slot V z) z (z + k)

pub stays-in : (V : List ℕ) (k z : ℕ) → In z V → kept_or_up V k z ≡ z
stays-in V k z i = ap (λ b. cond b z (z + k)) (in-has_slot V z i)

pub goes-up : (V : List ℕ) (k z : ℕ) → (In z V × (kept_or_up V k z ≡ z)) ⊎ (kept_or_up V k z ≡ z + k)
goes-up V k z = elim (cases_Bool (has_slot V z)) [
  | inl t ↦ inl (has_slot-in V z t, ap (λ b. cond b z (z + k)) t)
  | inr f ↦ inr (ap (λ b. cond b z (z + k)) f)
]

pub kept-injective : (V : List ℕ) (k : ℕ) → ((z : ℕ) → In z V → z < k) → IsInjective (kept_or_up V k)
kept-injective V k low x y e = elim (goes-up V k x) [
  | inl p ↦ elim (goes-up V k y) [
    | inl q ↦ sym p.1 ∙ (e ∙ q.1)
    | inr q ↦ let l : x < k = low x p.0 in let s : x ≡ y + k = sym p.1 ∙ (e ∙ q) in omega arith
  ]
  | inr p ↦ elim (goes-up V k y) [
    | inl q ↦ let l : y < k = low y q.0 in let s : x + k ≡ y = sym p ∙ (e ∙ q.1) in omega arith
    | inr q ↦ let s : x + k ≡ y + k = sym p ∙ (e ∙ q) in omega arith
  ]
]

gives-all : {A B : Type 0} (P : A → List B → Type 0) (xs : List A) → ((x : A) → In x xs → (here : List B) × P x here) → (outs : List B) × Gives P xs outs
gives-all P [] h = ([], refl)
gives-all P (x ∷ xs) h =
    let a = h x (inl refl) in
    let r = gives-all P xs (λ y i. h y (inr i)) in
    (a.0 ++ r.0, (a.0, r.0, refl, a.1, r.1))

module _ (g : State) (rest : AtRest g) (order : List Row) (filed : (r : Row) → Contains order r → Contains g.rows r) where
  abbrev linked : Linked g.nodes g.found
  linked = rest.sane.sound.linked

  -- a row of an id's class has a node with new names
  pub a-node : (seen : List ℕ) (r : Row) → Contains g.rows r → (a : Applied) → IsValidIn g a → row_class g r ≡ find_class g.found a.0 → (n : NodeArgs) × IsNodeOf g seen r a n
  a-node seen r c a va same =
      let b : (b : Applied) × IsFull g.nodes b × (b.0 ≡ r.source) × (find g.found b ≡ find g.found a) = row-id g rest r c a va (sym same) in
      let V : List ℕ = values (find g.found a).1 in
      let k : ℕ = max (above seen) (above V) in
      let f : ℕ → ℕ = kept_or_up V k in
      let low : (z : ℕ) → In z V → z < k = λ z i. let l : z < above V = Contains-below V z (Contains-In V z i) in omega arith in
      let inj : IsInjective f = kept-injective V k low in
      let id : Applied = renamed_id f b.0 in
      let full : IsFull g.nodes id = full-renamed g.nodes b.0 b.1 f (λ x y i j. inj x y) in
      let found : find g.found id ≡ find g.found a =
      found-renamed g.found f b.0 ∙ (ap (renamed_id f) b.3 ∙ (renamed-agrees f (λ x. x) (find g.found a) (λ z i. stays-in V k z i) ∙ renamed-id (find g.found a))) in
      let of : IsOfRow g r id a = record { filed = c; full = full; source = b.2; same = found } in
      let d : DArgs = (row_node r id).args in
      let m : ℕ = max (above seen) (max (above (values id.1)) (above (free_names d))) in
      let w : WithNames (λ y. y) m d =
      with_names (λ y. y) (λ y. y) m d (EachChild-map (IsValidIn g) (λ e. Unit {0}) (λ e i. tt) d (row-valid g rest order r id a of))
      (λ x i. (refl, let l : x < above (free_names d) = Contains-below (free_names d) x (Contains-In (free_names d) x i) in omega arith)) in (
        w.names,
        record {
          id = id;
          of_row = of;
          form = w.form;
          binders_differ = w.differ;
          binders_new = λ z i.
              let l : m ≤ z = (w.between z (In-Contains (bound_names w.names) z i)).0 in
              (λ h. let o : z < above seen = Contains-below seen z h in omega arith, λ h. let o : z < above (values id.1) = Contains-below (values id.1) z h in omega arith);
          others_new = λ z i.
              let p : (y : ℕ) × In y (values b.0.1) × (z ≡ f y) = In-of_map f (values b.0.1) z (subst (In z) (values-with_values f b.0.1) (In-Contains (values id.1) z i)) in
              elim (goes-up V k p.0) [
                | inl q ↦ inl (Contains-In V z (subst (λ u. In u V) (sym (p.2 ∙ q.1)) q.0))
                | inr q ↦ inr (λ h. let o : z < above seen = Contains-below seen z h in let s : z ≡ p.0 + k = p.2 ∙ q in omega arith)
              ];
        },
      )

  -- whether a row fits
  pub fits-or-not : (r : Row) (op : ℕ) (payloads : List (List ℕ)) (a : Applied) → IsRowFor g r op payloads a ⊎ (¬ IsRowFor g r op payloads a)
  fits-or-not r op payloads a = elim (cases_eq (row_class g r) (find_class g.found a.0)) [
    | inr n ↦ inr (λ h. n h.class)
    | inl e ↦ elim (same_or_not (node r.shape.op r.shape.payloads stop) (node op payloads stop)) [
      | inl s ↦ inl (record { class = e; operator = ap (λ (t : DTerm). t.op) s; payloads_same = ap (λ (t : DTerm). t.payloads) s })
      | inr n ↦ inr (λ h. n (λ i. node (h.operator i) (h.payloads_same i) stop))
    ]
  ]

  -- what comes of a row, where its children have runs
  at-row : (op : ℕ) (payloads : List (List ℕ)) (args : PatternArgs) → ((n : NodeArgs) (s : MatchState) → IdsValid g n → Shaped args n → (outs : List MatchState) × FoundIn g order args n s outs) →
      (st : MatchState) (a : Applied) → IsValidIn g a → (r : Row) → Contains g.rows r → IsRowFor g r op payloads a ⊎ (¬ IsRowFor g r op payloads a) →
      (here : List MatchState) × (((¬ IsRowFor g r op payloads a) × (here ≡ []))
      ⊎ ((n : NodeArgs) × IsRowFor g r op payloads a × IsNodeOf g st.seen r a n
      × IfThere (walked args n st.pairs) (λ pairs. FoundIn g order args n (record { values = st.values; pairs = pairs; seen = written_names n ++ st.seen }) here) (here ≡ [])))
  at-row op payloads args children st a va r c (inr n) = ([], inl (n, refl))
  at-row op payloads args children st a va r c (inl fits) =
      let m : (n : NodeArgs) × IsNodeOf g st.seen r a n = a-node st.seen r c a va fits.class in
      let n : NodeArgs = m.0 in
      let ids : IdsValid g n = ids-valid g (λ y. y) n (subst (EachChild (IsValidIn g)) (sym m.1.form) (row-valid g rest order r m.1.id a m.1.of_row)) in
      let w : (here : List MatchState) × IfThere (walked args n st.pairs) (λ pairs. FoundIn g order args n (record { values = st.values; pairs = pairs; seen = written_names n ++ st.seen }) here) (here ≡ []) =
      go n ids (walked args n st.pairs) refl in
      (w.0, inr (n, fits, m.1, w.1))
    where
      go : (n : NodeArgs) → IdsValid g n → (o : Option (List (ℕ × ℕ))) → walked args n st.pairs ≡ o →
          (here : List MatchState) × IfThere o (λ pairs. FoundIn g order args n (record { values = st.values; pairs = pairs; seen = written_names n ++ st.seen }) here) (here ≡ [])
      go n ids None e = ([], refl)
      go n ids (Some q) e = children n (record { values = st.values; pairs = q; seen = written_names n ++ st.seen }) ids (walked-shaped args n st.pairs q e)

  mutual
    pub a-run : (p : Pattern) (st : MatchState) (a : Applied) → IsValidIn g a → (outs : List MatchState) × Found g order p st a outs
    a-run (pattern_node op payloads args) st a va =
        gives-all (λ (r : Row) (here : List MatchState).
        ((¬ IsRowFor g r op payloads a) × (here ≡ []))
        ⊎ ((n : NodeArgs) × IsRowFor g r op payloads a × IsNodeOf g st.seen r a n
        × IfThere (walked args n st.pairs) (λ pairs. FoundIn g order args n (record { values = st.values; pairs = pairs; seen = written_names n ++ st.seen }) here) (here ≡ [])))
        order (λ r i. at-row op payloads args (a-run-in args) st a va r (filed r (Contains-In order r i)) (fits-or-not r op payloads a))
    a-run (variable v) st a va = (with_value g (value_at st.values v) st v a, refl)
    a-run (replacing body part value) st a va = ([], refl)

    a-run-in : (args : PatternArgs) (n : NodeArgs) (st : MatchState) → IdsValid g n → Shaped args n → (outs : List MatchState) × FoundIn g order args n st outs
    a-run-in no_argument n st ids s = (st ∷ [], refl)
    a-run-in (own_name x others) n st ids s =
        subst (λ l. (outs : List MatchState) × FoundIn g order others (rest_of l) st outs) (sym s.2) (a-run-in others s.1 st (subst (IdsValid g) s.2 ids) s.3)
    a-run-in (child_pattern p others) n st ids s =
        let here : IdsValid g (an_id s.0 s.1) = subst (IdsValid g) s.2 ids in
        let one : (outs : List MatchState) × Found g order p st s.0 outs = a-run p st s.0 here.0 in
        let all = gives-all (λ t outs. FoundIn g order others s.1 t outs) one.0 (λ t i. a-run-in others s.1 t here.1 s.3) in
        subst (λ l. (outs : List MatchState) × FoundIn g order (child_pattern p others) l st outs) (sym s.2) (all.0, (one.0, one.1, all.1))
    a-run-in (binding x inner others) n st ids s =
        let here : IdsValid g (a_binder s.0 s.1 s.2) = subst (IdsValid g) s.3 ids in
        let one : (outs : List MatchState) × FoundIn g order inner s.1 st outs = a-run-in inner s.1 st here.0 s.4 in
        let all = gives-all (λ t outs. FoundIn g order others s.2 t outs) one.0 (λ t i. a-run-in others s.2 t here.1 s.5) in
        subst (λ l. (outs : List MatchState) × FoundIn g order (binding x inner others) l st outs) (sym s.3) (all.0, (one.0, one.1, all.1))
