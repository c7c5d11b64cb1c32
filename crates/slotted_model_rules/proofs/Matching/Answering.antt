-- What the matcher finds is looked up: under each reading of a state the pattern is looked up as the id at which it was found.
use Rattle.std.proofs.Common.{◌≡◌, ◌⊎◌, ℕ, List, [], ◌∷◌, ◌++◌, Option, Some, None, sym, ◌∙◌, ap, refl, subst, inl, inr}
use Rattle.std.specs.Prelude.{cond, option_map, option_and_then}
use Rattle.std.proofs.lemmas.Bool.{cases_Bool}
use Rattle.std.proofs.Math.Path.{fun_ext}
use Rattle.slotted_lists.proofs.Members.{In}
use Rattle.slotted_theory.specs.Nameless.{DTerm, place, scope, extend, lift, moved, moved_args}
use Rattle.slotted_theory.specs.Renaming.{IsInjective}
use Rattle.slotted_theory.specs.Decided.{numbers_eq}
use Rattle.slotted_theory.proofs.Decides.{numbers_eq-true, numbers_eq-same}
use Rattle.slotted_theory.proofs.Names.{lift-extend, extend-renamed, extend-injective}
use Rattle.slotted_theory.proofs.Values.{node, child_before}
use Rattle.slotted_model.specs.Affected.{id_eq}
use Rattle.slotted_model.specs.Applied.{Applied, renamed_id, as_term}
use Rattle.slotted_model.specs.Find.{find, Linked}
use Rattle.slotted_model.specs.LookUp.{both}
use Rattle.slotted_model.specs.Normal.{normal_args}
use Rattle.slotted_model.specs.State.{Row, State, look_up_node}
use Rattle.slotted_model.specs.Rest.{AtRest}
use Rattle.slotted_model.proofs.Represented.Children.{moved-as_term}
use Rattle.slotted_model.proofs.Finds.NormalIds.{found-renamed}
use Rattle.slotted_model.proofs.Data.Options.{None-Some}
use Rattle.slotted_model.proofs.Represented.RenamedIds.{normal-moves}
use Rattle.slotted_model.proofs.Rebuilding.RowNodes.{row_node, row-again, row-looked_up}
use Rattle.slotted_model.proofs.Rebuilding.Rows.{look_up_node-moved}
use Rattle.slotted_model.proofs.Complete.Spreading.{id_eq-same}
use Rattle.slotted_model_rules.specs.Patterns.{Pattern, PatternArgs, pattern_node, variable, replacing, no_argument, own_name, child_pattern, binding, EachVariable, EachVariableIn, look_up_pattern, look_up_arguments, IsOfRow}
use Rattle.slotted_model_rules.specs.Matcher.{NodeArgs, no_more, a_name, an_id, a_binder, unnamed, written_names, rest_of, id_of_first, inside_first, MatchState, value_at, walked, IsNodeOf, IsRowFor, IfThere, with_value, Found, FoundIn, Reads}
use Rattle.slotted_model_rules.proofs.Substitutions.Renamed.{renamed-twice, renamed-id, applied-as_term}
use Rattle.slotted_model_rules.proofs.Patterns.LookingUp.{pattern-moved}
use Rattle.slotted_model_rules.proofs.Matching.Walking.{member-given, Aligned, Keeps, walked-aligned}

-- nodes with names move as those without
pub unnamed-moved : (f ρ : ℕ → ℕ) (n : NodeArgs) → moved_args f (unnamed ρ n) ≡ unnamed (λ x. f (ρ x)) n
unnamed-moved f ρ no_more = refl
unnamed-moved f ρ (a_name x rest) = ap (place (f (ρ x))) (unnamed-moved f ρ rest)
unnamed-moved f ρ (an_id a rest) =
    let e : moved f (as_term (renamed_id ρ a)) ≡ as_term (renamed_id (λ x. f (ρ x)) a) = moved-as_term f (renamed_id ρ a) ∙ ap as_term (renamed-twice f ρ a) in
    λ i. child_before (e i) (unnamed-moved f ρ rest i)
unnamed-moved f ρ (a_binder x inner rest) =
    let e : moved_args (lift f) (unnamed (extend x ρ) inner) ≡ unnamed (extend x (λ z. f (ρ z))) inner =
    unnamed-moved (lift f) (extend x ρ) inner ∙ ap (λ r. unnamed r inner) (fun_ext (lift-extend f x ρ)) in
    λ i. scope (e i) (unnamed-moved f ρ rest i)

-- a later state has the pairs and the values of an earlier one
pub record Grows (st later : MatchState) : Type 0 where
  pub pairs_kept : Keeps st.pairs later.pairs
  pub values_kept : (v : List ℕ) (b : Applied) → value_at st.values v ≡ Some b → value_at later.values v ≡ Some b

pub grows-then : (a b c : MatchState) → Grows a b → Grows b c → Grows a c
grows-then a b c h k = record { pairs_kept = λ s t m. k.pairs_kept s t (h.pairs_kept s t m); values_kept = λ v x e. k.values_kept v x (h.values_kept v x e) }

pub value_at-same : (v : List ℕ) (a : Applied) (values : List (List ℕ × Applied)) → value_at ((v, a) ∷ values) v ≡ Some a
value_at-same v a values = ap (λ b. cond b (Some a) (value_at values v)) (numbers_eq-same v)

-- a variable without a value gets one, and the others keep theirs
value_at-kept : (v : List ℕ) (a : Applied) (values : List (List ℕ × Applied)) → value_at values v ≡ None → (w : List ℕ) (b : Applied) → value_at values w ≡ Some b → value_at ((v, a) ∷ values) w ≡ Some b
value_at-kept v a values none w b e = elim (cases_Bool (numbers_eq v w)) [
  | inl t ↦ absurd (None-Some b (sym none ∙ (ap (value_at values) (numbers_eq-true v w t) ∙ e)))
  | inr f ↦ ap (λ c. cond c (Some a) (value_at values w)) f ∙ e
]

-- what a variable leaves
pub record Bound (g : State) (st : MatchState) (v : List ℕ) (a : Applied) (out : MatchState) : Type 0 where
  grows : Grows st out
  value : Applied
  there : value_at out.values v ≡ Some value
  same : find g.found value ≡ find g.found a

pub bound : (g : State) (st : MatchState) (v : List ℕ) (a : Applied) (out : MatchState) → In out (with_value g (value_at st.values v) st v a) → Bound g st v a out
bound g st v a out h = go (value_at st.values v) refl h
  where
    go : (o : Option Applied) → value_at st.values v ≡ o → In out (with_value g o st v a) → Bound g st v a out
    go (Some b) e k = elim (cases_Bool (id_eq (find g.found b) (find g.found a))) [
      | inl t ↦
          let l : In out (st ∷ []) = subst (λ c. In out (cond c (st ∷ []) [])) t k in
          here l e (id_eq-same (find g.found b) (find g.found a) t)
      | inr f ↦ absurd (subst (λ c. In out (cond c (st ∷ []) [])) f k)
    ]
      where
        here : In out (st ∷ []) → value_at st.values v ≡ Some b → find g.found b ≡ find g.found a → Bound g st v a out
        here (inl s) e q = subst (Bound g st v a) (sym s) (record { grows = record { pairs_kept = λ s t c. c; values_kept = λ w x p. p }; value = b; there = e; same = q })
        here (inr n) e q = absurd n
    go None e (inl s) =
        subst (Bound g st v a) (sym s) (record {
          grows = record { pairs_kept = λ s t c. c; values_kept = λ w x p. value_at-kept v a st.values e w x p };
          value = a;
          there = value_at-same v a st.values;
          same = refl;
        })
    go None e (inr n) = absurd n

-- a row at which a node was found
pub record AtRow (g : State) (order : List Row) (op : ℕ) (payloads : List (List ℕ)) (args : PatternArgs) (st : MatchState) (a : Applied) (out : MatchState) : Type 0 where
  pub row : Row
  pub names : NodeArgs
  pub fits : IsRowFor g row op payloads a
  pub is_node : IsNodeOf g st.seen row a names
  pub pairs : List (ℕ × ℕ)
  pub went : walked args names st.pairs ≡ Some pairs
  pub here : List MatchState
  pub inside : FoundIn g order args names (record { values = st.values; pairs = pairs; seen = written_names names ++ st.seen }) here
  pub member : In out here

pub at_row : (g : State) (order : List Row) (op : ℕ) (payloads : List (List ℕ)) (args : PatternArgs) (st : MatchState) (a : Applied) (outs : List MatchState) → Found g order (pattern_node op payloads args) st a outs → (out : MatchState) → In out outs →
    AtRow g order op payloads args st a out
at_row g order op payloads args st a outs found out h =
    let m = member-given (λ (r : Row) (here : List MatchState).
    ((¬ IsRowFor g r op payloads a) × (here ≡ []))
    ⊎ ((n : NodeArgs) × IsRowFor g r op payloads a × IsNodeOf g st.seen r a n
    × IfThere (walked args n st.pairs) (λ pairs. FoundIn g order args n (record { values = st.values; pairs = pairs; seen = written_names n ++ st.seen }) here) (here ≡ [])))
    order outs found out h in
    elim m.3 [
      | inl k ↦ absurd (subst (In out) k.1 m.4)
      | inr k ↦ go m.0 m.2 m.4 k.0 k.1 k.2 (walked args k.0 st.pairs) refl k.3
    ]
  where
    go : (r : Row) (here : List MatchState) → In out here → (n : NodeArgs) → IsRowFor g r op payloads a → IsNodeOf g st.seen r a n → (o : Option (List (ℕ × ℕ))) → walked args n st.pairs ≡ o →
        IfThere o (λ pairs. FoundIn g order args n (record { values = st.values; pairs = pairs; seen = written_names n ++ st.seen }) here) (here ≡ []) → AtRow g order op payloads args st a out
    go r here k n fits is None e i = absurd (subst (In out) i k)
    go r here k n fits is (Some q) e i = record { row = r; names = n; fits = fits; is_node = is; pairs = q; went = e; here = here; inside = i; member = k }

module _ (g : State) (order : List Row) where
  mutual
    -- states only grow
    pub found-grows : (p : Pattern) (st : MatchState) (a : Applied) (outs : List MatchState) → Found g order p st a outs → (out : MatchState) → In out outs → Grows st out
    found-grows (pattern_node op payloads args) st a outs found out h =
        let r : AtRow g order op payloads args st a out = at_row g order op payloads args st a outs found out h in
        let mid : MatchState = record { values = st.values; pairs = r.pairs; seen = written_names r.names ++ st.seen } in
        grows-then st mid out (record { pairs_kept = (walked-aligned args r.names st.pairs r.pairs r.went).0; values_kept = λ v b e. e }) (inside-grows args r.names mid r.here r.inside out r.member)
    found-grows (variable v) st a outs found out h = let b : Bound g st v a out = bound g st v a out (subst (In out) found h) in b.grows
    found-grows (replacing body part value) st a outs found out h = absurd (subst (In out) found h)

    pub inside-grows : (args : PatternArgs) (n : NodeArgs) (st : MatchState) (outs : List MatchState) → FoundIn g order args n st outs → (out : MatchState) → In out outs → Grows st out
    inside-grows no_argument n st outs found out h = only (subst (In out) found h)
      where
        only : In out (st ∷ []) → Grows st out
        only (inl e) = subst (Grows st) (sym e) (record { pairs_kept = λ s t c. c; values_kept = λ v b e. e })
        only (inr k) = absurd k
    inside-grows (own_name x rest) n st outs found out h = inside-grows rest (rest_of n) st outs found out h
    inside-grows (child_pattern p rest) n st outs found out h =
        let m = member-given (λ s here. FoundIn g order rest (rest_of n) s here) found.0 outs found.2 out h in
        grows-then st m.0 out (found-grows p st (id_of_first n) found.0 found.1 m.0 m.1) (inside-grows rest (rest_of n) m.0 m.2 m.3 out m.4)
    inside-grows (binding x inner rest) n st outs found out h =
        let m = member-given (λ s here. FoundIn g order rest (rest_of n) s here) found.0 outs found.2 out h in
        grows-then st m.0 out (inside-grows inner (inside_first n) st found.0 found.1 m.0 m.1) (inside-grows rest (rest_of n) m.0 m.2 m.3 out m.4)

-- a reading of a later state is one of an earlier one
earlier : (g : State) (f : ℕ → ℕ) (σ : List ℕ → Applied) (st later : MatchState) → Grows st later → Reads g f σ later → Reads g f σ st
earlier g f σ st later h r = record {
  injective = r.injective;
  slots = λ s t c. r.slots s t (h.pairs_kept s t c);
  values_read = λ v b e. r.values_read v b (h.values_kept v b e);
}

module _ (g : State) (order : List Row) (rest_state : AtRest g) (f : ℕ → ℕ) (σ : List ℕ → Applied) where
  abbrev linked : Linked g.nodes g.found
  linked = rest_state.sane.sound.linked

  mutual
    -- the pattern is looked up as the id, with the names that are read
    pub found-look_up : (p : Pattern) (st : MatchState) (a : Applied) (outs : List MatchState) → Found g order p st a outs → (out : MatchState) → In out outs → Reads g f σ out →
        look_up_pattern g (λ y. y) σ p ≡ Some (renamed_id f (find g.found a))
    found-look_up (pattern_node op payloads args) st a outs found out h r =
        let k : AtRow g order op payloads args st a out = at_row g order op payloads args st a outs found out h in
        let mid : MatchState = record { values = st.values; pairs = k.pairs; seen = written_names k.names ++ st.seen } in
        let later : Reads g f σ mid = earlier g f σ mid out (inside-grows g order args k.names mid k.here k.inside out k.member) r in
        let aligned : Aligned f args k.names = (walked-aligned args k.names st.pairs k.pairs k.went).1 f later.slots in
        let of : IsOfRow g k.row k.is_node.id a = k.is_node.of_row in
        let b : Applied = k.is_node.id in
        let d : DTerm = row_node k.row b in
        let inside : look_up_arguments g (λ y. y) σ args ≡ Some (normal_args g.found (unnamed f k.names)) =
        inside-look_up args k.names mid k.here k.inside out k.member r aligned (λ y. y) (λ x y e. e) in
        let names : unnamed f k.names ≡ moved_args f d.args = sym (unnamed-moved f (λ y. y) k.names) ∙ ap (moved_args f) k.is_node.form in
        let form : node op payloads (normal_args g.found (unnamed f k.names)) ≡ moved f d =
        (λ i. node (sym k.fits.operator i) (sym k.fits.payloads_same i) (normal_args g.found (names i)))
        ∙ (normal-moves g.found f d ∙ ap (moved f) (row-again g rest_state k.row of.filed b of.full of.source)) in
        ap (option_and_then (λ found. look_up_node g (node op payloads found))) inside
        ∙ (ap (look_up_node g) form
        ∙ (look_up_node-moved g linked rest_state.sane.filed f r.injective d
        ∙ ap (option_map (renamed_id f)) (row-looked_up g rest_state k.row of.filed b of.full of.source ∙ ap Some of.same)))
    found-look_up (variable v) st a outs found out h r =
        let b : Bound g st v a out = bound g st v a out (subst (In out) found h) in
        ap Some (ap (find g.found) (renamed-id (σ v)) ∙ (r.values_read v b.value b.there ∙ ap (renamed_id f) b.same))
    found-look_up (replacing body part value) st a outs found out h r = absurd (subst (In out) found h)

    inside-look_up : (args : PatternArgs) (n : NodeArgs) (st : MatchState) (outs : List MatchState) → FoundIn g order args n st outs → (out : MatchState) → In out outs → Reads g f σ out → Aligned f args n →
        (ρ : ℕ → ℕ) → IsInjective ρ → look_up_arguments g ρ σ args ≡ Some (normal_args g.found (unnamed (λ z. ρ (f z)) n))
    inside-look_up no_argument n st outs found out h r al ρ inj = ap (λ m. Some (normal_args g.found (unnamed (λ z. ρ (f z)) m))) (sym al)
    inside-look_up (own_name x rest) n st outs found out h r al ρ inj =
        let e : look_up_arguments g ρ σ rest ≡ Some (normal_args g.found (unnamed (λ z. ρ (f z)) al.1)) =
        inside-look_up rest al.1 st outs (subst (λ m. FoundIn g order rest (rest_of m) st outs) al.2 found) out h r al.4 ρ inj in
        ap (option_map (place (ρ x))) e
        ∙ ((λ i. Some (place (ρ (sym al.3 i)) (normal_args g.found (unnamed (λ z. ρ (f z)) al.1))))
        ∙ ap (λ m. Some (normal_args g.found (unnamed (λ z. ρ (f z)) m))) (sym al.2))
    inside-look_up (child_pattern p rest) n st outs found out h r al ρ inj =
        let m = member-given (λ s here. FoundIn g order rest (rest_of n) s here) found.0 outs found.2 out h in
        let c : Applied = al.0 in
        let first : Found g order p st c found.0 = subst (λ k. Found g order p st (id_of_first k) found.0) al.2 found.1 in
        let after : FoundIn g order rest al.1 m.0 m.2 = subst (λ k. FoundIn g order rest (rest_of k) m.0 m.2) al.2 m.3 in
        let early : Reads g f σ m.0 = earlier g f σ m.0 out (inside-grows g order rest al.1 m.0 m.2 after out m.4) r in
        let here : look_up_pattern g ρ σ p ≡ Some (renamed_id ρ (renamed_id f (find g.found c))) =
        pattern-moved g rest_state ρ inj (λ y. y) σ p ∙ ap (option_map (renamed_id ρ)) (found-look_up p st c found.0 first m.0 m.1 early) in
        let id : renamed_id ρ (renamed_id f (find g.found c)) ≡ find g.found (renamed_id (λ z. ρ (f z)) c) =
        renamed-twice ρ f (find g.found c) ∙ sym (found-renamed g.found (λ z. ρ (f z)) c) in
        let there : look_up_arguments g ρ σ rest ≡ Some (normal_args g.found (unnamed (λ z. ρ (f z)) al.1)) = inside-look_up rest al.1 m.0 m.2 after out m.4 r al.3 ρ inj in
        (λ i. both (λ a found. child_before (as_term a) found) (here i) (there i))
        ∙ ((λ i. Some (child_before (as_term (id i)) (normal_args g.found (unnamed (λ z. ρ (f z)) al.1))))
        ∙ (ap (λ a. Some (child_before (as_term (find g.found a)) (normal_args g.found (unnamed (λ z. ρ (f z)) al.1)))) (sym (applied-as_term (renamed_id (λ z. ρ (f z)) c)))
        ∙ ap (λ k. Some (normal_args g.found (unnamed (λ z. ρ (f z)) k))) (sym al.2)))
    inside-look_up (binding x inner rest) n st outs found out h r al ρ inj =
        let m = member-given (λ s here. FoundIn g order rest (rest_of n) s here) found.0 outs found.2 out h in
        let first : FoundIn g order inner al.1 st found.0 = subst (λ k. FoundIn g order inner (inside_first k) st found.0) al.3 found.1 in
        let after : FoundIn g order rest al.2 m.0 m.2 = subst (λ k. FoundIn g order rest (rest_of k) m.0 m.2) al.3 m.3 in
        let early : Reads g f σ m.0 = earlier g f σ m.0 out (inside-grows g order rest al.2 m.0 m.2 after out m.4) r in
        let under : (λ z. extend x ρ (f z)) ≡ extend al.0 (λ z. ρ (f z)) =
        ap (λ y. λ z. extend y ρ (f z)) (sym al.4) ∙ fun_ext (extend-renamed f r.injective al.0 ρ) in
        let here : look_up_arguments g (extend x ρ) σ inner ≡ Some (normal_args g.found (unnamed (extend al.0 (λ z. ρ (f z))) al.1)) =
        inside-look_up inner al.1 st found.0 first m.0 m.1 early al.5 (extend x ρ) (extend-injective x ρ inj) ∙ ap (λ κ. Some (normal_args g.found (unnamed κ al.1))) under in
        let there : look_up_arguments g ρ σ rest ≡ Some (normal_args g.found (unnamed (λ z. ρ (f z)) al.2)) = inside-look_up rest al.2 m.0 m.2 after out m.4 r al.6 ρ inj in
        (λ i. both scope (here i) (there i)) ∙ ap (λ k. Some (normal_args g.found (unnamed (λ z. ρ (f z)) k))) (sym al.3)

mutual
  -- values that are kept
  each-kept : (st later : MatchState) → Grows st later → (p : Pattern) → EachVariable (λ v. (b : Applied) × (value_at st.values v ≡ Some b)) p → EachVariable (λ v. (b : Applied) × (value_at later.values v ≡ Some b)) p
  each-kept st later k (pattern_node op payloads args) h = each-kept_in st later k args h
  each-kept st later k (variable v) h = (h.0, k.values_kept v h.0 h.1)
  each-kept st later k (replacing body part value) h = (each-kept st later k body h.0, each-kept st later k part h.1, each-kept st later k value h.2)

  each-kept_in : (st later : MatchState) → Grows st later → (args : PatternArgs) → EachVariableIn (λ v. (b : Applied) × (value_at st.values v ≡ Some b)) args → EachVariableIn (λ v. (b : Applied) × (value_at later.values v ≡ Some b)) args
  each-kept_in st later k no_argument h = tt
  each-kept_in st later k (own_name x rest) h = each-kept_in st later k rest h
  each-kept_in st later k (child_pattern p rest) h = (each-kept st later k p h.0, each-kept_in st later k rest h.1)
  each-kept_in st later k (binding x inner rest) h = (each-kept_in st later k inner h.0, each-kept_in st later k rest h.1)

module _ (g : State) (order : List Row) where
  mutual
    -- each variable of the pattern has a value in the end
    pub found-values : (p : Pattern) (st : MatchState) (a : Applied) (outs : List MatchState) → Found g order p st a outs → (out : MatchState) → In out outs →
        EachVariable (λ v. (b : Applied) × (value_at out.values v ≡ Some b)) p
    found-values (pattern_node op payloads args) st a outs found out h =
        let k : AtRow g order op payloads args st a out = at_row g order op payloads args st a outs found out h in
        inside-values args k.names (record { values = st.values; pairs = k.pairs; seen = written_names k.names ++ st.seen }) k.here k.inside out k.member
    found-values (variable v) st a outs found out h = let b : Bound g st v a out = bound g st v a out (subst (In out) found h) in (b.value, b.there)
    found-values (replacing body part value) st a outs found out h = absurd (subst (In out) found h)

    inside-values : (args : PatternArgs) (n : NodeArgs) (st : MatchState) (outs : List MatchState) → FoundIn g order args n st outs → (out : MatchState) → In out outs →
        EachVariableIn (λ v. (b : Applied) × (value_at out.values v ≡ Some b)) args
    inside-values no_argument n st outs found out h = tt
    inside-values (own_name x rest) n st outs found out h = inside-values rest (rest_of n) st outs found out h
    inside-values (child_pattern p rest) n st outs found out h =
        let m = member-given (λ s here. FoundIn g order rest (rest_of n) s here) found.0 outs found.2 out h in
        let k : Grows m.0 out = inside-grows g order rest (rest_of n) m.0 m.2 m.3 out m.4 in
        (each-kept m.0 out k p (found-values p st (id_of_first n) found.0 found.1 m.0 m.1), inside-values rest (rest_of n) m.0 m.2 m.3 out m.4)
    inside-values (binding x inner rest) n st outs found out h =
        let m = member-given (λ s here. FoundIn g order rest (rest_of n) s here) found.0 outs found.2 out h in
        let k : Grows m.0 out = inside-grows g order rest (rest_of n) m.0 m.2 m.3 out m.4 in
        (each-kept_in m.0 out k inner (inside-values inner (inside_first n) st found.0 found.1 m.0 m.1), inside-values rest (rest_of n) m.0 m.2 m.3 out m.4)
