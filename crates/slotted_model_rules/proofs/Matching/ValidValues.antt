-- The values that the matcher gives to variables are valid ids.
use Rattle.std.proofs.Common.{◌≡◌, ℕ, List, [], ◌∷◌, ◌++◌, Option, Some, None, Bool, true, false, sym, ◌∙◌, ap, refl, subst, inl, inr}
use Rattle.std.specs.Prelude.{Contains, cond, option_and_then}
use Rattle.std.proofs.lemmas.Bool.{cases_Bool}
use Rattle.slotted_lists.proofs.Members.{In}
use Rattle.slotted_lists.proofs.Maps.{IsInjectiveMap-before, keys-with_values}
use Rattle.slotted_lists.proofs.Options.{Some-same}
use Rattle.slotted_theory.specs.Nameless.{DTerm, extend}
use Rattle.slotted_theory.specs.FiniteMaps.{with_values}
use Rattle.slotted_theory.specs.Decided.{numbers_eq}
use Rattle.slotted_model.specs.Affected.{id_eq}
use Rattle.slotted_model.specs.Applied.{Applied, keys, renamed_id, EachChild}
use Rattle.slotted_model.specs.Ascending.{IsAscending}
use Rattle.slotted_model.specs.Find.{find, Linked}
use Rattle.slotted_model.specs.ProofList.{node_of}
use Rattle.slotted_model.specs.State.{Row, State}
use Rattle.slotted_model.specs.Rest.{IsValidIn, AtRest}
use Rattle.slotted_model.proofs.Represented.Children.{EachChild-map}
use Rattle.slotted_model.proofs.Rebuilding.Events.{normal-found}
use Rattle.slotted_model.proofs.Represented.Folds.{as_term-same}
use Rattle.slotted_model.proofs.Data.Options.{None-Some, and_then-some}
use Rattle.slotted_model.proofs.Rebuilding.RowNodes.{row_node, row-normal, node-valid}
use Rattle.slotted_model_rules.specs.Patterns.{Pattern, PatternArgs, pattern_node, variable, replacing, no_argument, own_name, child_pattern, binding, IsOfRow}
use Rattle.slotted_model_rules.specs.Matcher.{NodeArgs, no_more, a_name, an_id, a_binder, unnamed, written_names, rest_of, id_of_first, inside_first, MatchState, value_at, paired, walked, with_value, Found, FoundIn}
use Rattle.slotted_model_rules.proofs.Matching.Answering.{AtRow, at_row}
use Rattle.slotted_model_rules.proofs.Patterns.LookingUp.{IsFoundId}
use Rattle.slotted_model_rules.proofs.Matching.Walking.{member-given}

-- the node has names, ids and binders where the pattern has names, child patterns and binders
abbrev pub Shaped : PatternArgs → NodeArgs → Type 0
Shaped no_argument n = n ≡ no_more
Shaped (own_name x rest) n = (y : ℕ) × (m : NodeArgs) × (n ≡ a_name y m) × Shaped rest m
Shaped (child_pattern p rest) n = (c : Applied) × (m : NodeArgs) × (n ≡ an_id c m) × Shaped rest m
Shaped (binding x inner rest) n = (y : ℕ) × (m : NodeArgs) × (k : NodeArgs) × (n ≡ a_binder y m k) × Shaped inner m × Shaped rest k

pub walked-shaped : (args : PatternArgs) (n : NodeArgs) (pairs q : List (ℕ × ℕ)) → walked args n pairs ≡ Some q → Shaped args n
walked-shaped no_argument no_more pairs q e = refl
walked-shaped (own_name x rest) (a_name y n) pairs q e =
    let r : (m : List (ℕ × ℕ)) × (paired pairs y x ≡ Some m) × (walked rest n m ≡ Some q) = and_then-some (walked rest n) (paired pairs y x) q e in
    (y, n, refl, walked-shaped rest n r.0 q r.2)
walked-shaped (child_pattern p rest) (an_id a n) pairs q e = (a, n, refl, walked-shaped rest n pairs q e)
walked-shaped (binding x inner rest) (a_binder y m n) pairs q e =
    let r : (u : List (ℕ × ℕ)) × (option_and_then (walked inner m) (paired pairs y x) ≡ Some u) × (walked rest n u ≡ Some q) =
    and_then-some (walked rest n) (option_and_then (walked inner m) (paired pairs y x)) q e in
    let o : (u : List (ℕ × ℕ)) × (paired pairs y x ≡ Some u) × (walked inner m u ≡ Some r.0) = and_then-some (walked inner m) (paired pairs y x) r.0 r.1 in
    (y, m, n, refl, walked-shaped inner m o.0 r.0 o.2, walked-shaped rest n r.0 q r.2)
walked-shaped _ _ pairs q e = absurd (None-Some q e)

module _ (g : State) where
  valid-from : (f : ℕ → ℕ) (a : Applied) → IsValidIn g (renamed_id f a) → IsValidIn g a
  valid-from f a v =
      let same : keys (with_values f a.1) ≡ keys a.1 = keys-with_values f a.1 in record {
        in_range = v.in_range;
        ascending = subst IsAscending same v.ascending;
        injective = IsInjectiveMap-before f a.1 v.injective;
        has_slots = λ s c. subst (λ ks. Contains ks s) same (v.has_slots s c);
        within = λ s c. v.within s (subst (λ ks. Contains ks s) (sym same) c);
      }

  -- each id of the node is valid
  abbrev pub IdsValid : NodeArgs → Type 0
  IdsValid no_more = Unit {0}
  IdsValid (a_name x rest) = IdsValid rest
  IdsValid (an_id a rest) = IsValidIn g a × IdsValid rest
  IdsValid (a_binder x inner rest) = IdsValid inner × IdsValid rest

  pub ids-valid : (κ : ℕ → ℕ) (n : NodeArgs) → EachChild (IsValidIn g) (unnamed κ n) → IdsValid n
  ids-valid κ no_more c = tt
  ids-valid κ (a_name x rest) c = ids-valid κ rest c
  ids-valid κ (an_id a rest) c = (valid-from κ a (subst (IsValidIn g) (sym (as_term-same (renamed_id κ a) c.0.0 c.0.1)) c.0.2), ids-valid κ rest c.1)
  ids-valid κ (a_binder x inner rest) c = (ids-valid (extend x κ) inner c.0, ids-valid κ rest c.1)

  -- each value of the state is valid
  abbrev pub ValuesValid : MatchState → Type 0
  ValuesValid st = (v : List ℕ) (b : Applied) → value_at st.values v ≡ Some b → IsValidIn g b

  with_value-valid : (o : Option Applied) (st : MatchState) (v : List ℕ) (a : Applied) → IsValidIn g a → ValuesValid st → (out : MatchState) → In out (with_value g o st v a) → ValuesValid out
  with_value-valid (Some b) st v a va k out h = go (id_eq (find g.found b) (find g.found a)) h
    where
      go : (c : Bool) → In out (cond c (st ∷ []) []) → ValuesValid out
      go true (inl e) = subst ValuesValid (sym e) k
      go true (inr i) = absurd i
      go false i = absurd i
  with_value-valid None st v a va k out (inr i) = absurd i
  with_value-valid None st v a va k out (inl e) = subst ValuesValid (sym e) (λ w b q. elim (cases_Bool (numbers_eq v w)) [
    | inl t ↦ subst (IsValidIn g) (Some-same a b (ap (λ c. cond c (Some a) (value_at st.values w)) (sym t) ∙ q)) va
    | inr f ↦ k w b (ap (λ c. cond c (Some a) (value_at st.values w)) (sym f) ∙ q)
  ])

module _ (g : State) (rest : AtRest g) (order : List Row) where
  abbrev linked : Linked g.nodes g.found
  linked = rest.sane.sound.linked

  pub row-valid : (r : Row) (b a : Applied) → IsOfRow g r b a → EachChild (IsValidIn g) (row_node r b).args
  row-valid r b a of =
      EachChild-map (IsFoundId g) (IsValidIn g) (λ c i. i.0) (row_node r b).args
      (subst (λ (t : DTerm). EachChild (IsFoundId g) t.args) (sym (row-normal g rest r of.filed b of.source)) (normal-found g linked (node_of g.nodes b).args (node-valid g rest b of.full)))

  mutual
    pub values-valid : (p : Pattern) (st : MatchState) (a : Applied) (outs : List MatchState) → Found g order p st a outs → IsValidIn g a → ValuesValid g st → (out : MatchState) → In out outs → ValuesValid g out
    values-valid (pattern_node op payloads args) st a outs found va k out h =
        let r : AtRow g order op payloads args st a out = at_row g order op payloads args st a outs found out h in
        let ids : IdsValid g r.names = ids-valid g (λ y. y) r.names (subst (EachChild (IsValidIn g)) (sym r.is_node.form) (row-valid r.row r.is_node.id a r.is_node.of_row)) in
        inside-valid args r.names (record { values = st.values; pairs = r.pairs; seen = written_names r.names ++ st.seen }) r.here r.inside (walked-shaped args r.names st.pairs r.pairs r.went) ids k out r.member
    values-valid (variable v) st a outs found va k out h = with_value-valid g (value_at st.values v) st v a va k out (subst (In out) found h)
    values-valid (replacing body part value) st a outs found va k out h = absurd (subst (In out) found h)

    inside-valid : (args : PatternArgs) (n : NodeArgs) (st : MatchState) (outs : List MatchState) → FoundIn g order args n st outs → Shaped args n → IdsValid g n → ValuesValid g st → (out : MatchState) → In out outs → ValuesValid g out
    inside-valid no_argument n st outs found s ids k out h = only (subst (In out) found h)
      where
        only : In out (st ∷ []) → ValuesValid g out
        only (inl e) = subst (ValuesValid g) (sym e) k
        only (inr i) = absurd i
    inside-valid (own_name x others) n st outs found s ids k out h =
        inside-valid others s.1 st outs (subst (λ m. FoundIn g order others (rest_of m) st outs) s.2 found) s.3 (subst (IdsValid g) s.2 ids) k out h
    inside-valid (child_pattern p others) n st outs found s ids k out h =
        let m = member-given (λ t here. FoundIn g order others (rest_of n) t here) found.0 outs found.2 out h in
        let here : IdsValid g (an_id s.0 s.1) = subst (IdsValid g) s.2 ids in
        let first : Found g order p st s.0 found.0 = subst (λ l. Found g order p st (id_of_first l) found.0) s.2 found.1 in
        inside-valid others s.1 m.0 m.2 (subst (λ l. FoundIn g order others (rest_of l) m.0 m.2) s.2 m.3) s.3 here.1 (values-valid p st s.0 found.0 first here.0 k m.0 m.1) out m.4
    inside-valid (binding x inner others) n st outs found s ids k out h =
        let m = member-given (λ t here. FoundIn g order others (rest_of n) t here) found.0 outs found.2 out h in
        let here : IdsValid g (a_binder s.0 s.1 s.2) = subst (IdsValid g) s.3 ids in
        let first : FoundIn g order inner s.1 st found.0 = subst (λ l. FoundIn g order inner (inside_first l) st found.0) s.3 found.1 in
        inside-valid others s.2 m.0 m.2 (subst (λ l. FoundIn g order others (rest_of l) m.0 m.2) s.3 m.3) s.5 here.1 (inside-valid inner s.1 st found.0 first s.4 here.0 k m.0 m.1) out m.4
