-- What a search over what is kept and filed finds, as a search over the graph.
use Rattle.std.proofs.Common.{◌≡◌, ◌∙◌, ◌<◌, ◌+◌, ℕ, arith, List, [], ◌∷◌, ◌++◌, Some, length, ap, refl, sym, subst, inl, inr}
use Rattle.std.proofs.lemmas.Bool.{false≢true}
use Rattle.std.specs.Prelude.{Bool, true, false, cond, slice_index_or, Contains, map, Result, Ok, Err, IfOk}
use Rattle.std.proofs.lemmas.List.Elements.{Contains-append_left, Contains-append_right}
use Rattle.std.proofs.lemmas.List.{get_or_default}
use Rattle.slotted_lists.proofs.Members.{In, In-Contains, Contains-In}
use Rattle.slotted_slots.specs.declared.error.Error.{Error}
use Rattle.slotted_slots.specs.Table.{Table, AllKnown}
use Rattle.slotted_nodes.specs.Form.{Form, children}
use Rattle.slotted_languages.specs.Shape.{Fits}
use Rattle.slotted_languages.specs.NodeTerm.{nameless_node}
use Rattle.slotted_theory.specs.Decided.{numbers_eq}
use Rattle.slotted_theory.specs.Shape.{free_names, number_in, shape}
use Rattle.slotted_model.specs.Cost.{child_count}
use Rattle.slotted_model.specs.State.{Row}
use Rattle.slotted_model.specs.Applied.{values}
use Rattle.slotted_model_rules.specs.Conditions.{Values}
use Rattle.slotted_model_rules.specs.Matcher.{value_at}
use Rattle.slotted_model_rules.specs.Patterns.{Pattern, PatternArgs, EachVariable, EachVariableIn, pattern_node, variable, replacing, no_argument, own_name, child_pattern, binding}
use Rattle.slotted_model_rules.specs.Rules.{id_or_none, valued}
use Rattle.slotted_theory.proofs.Decides.{numbers_eq-same}
use Rattle.slotted_model_rules.proofs.Rules.Rewriting.{each-variable}
use Rattle.slotted_patterns.specs.Tree.{PatternTree}
use Rattle.slotted_rule_patterns.specs.PatternCode.{pattern_in}
use Rattle.slotted_match_machine.specs.Programs.{variables_of, variables_in}
use Rattle.slotted_matching.specs.Compiled.{KnowsEach}
use Rattle.slotted_matching.specs.Found.{AreReadings, AreValidFound, HaveVariables, IsFound, IsFoundAt, RunsOutFor, TakesFor}
use Rattle.slotted_matching.specs.Indexed.{HasWideKey}
use Rattle.slotted_classes.specs.Kept.{Kept}
use Rattle.slotted_hashcons.specs.FiledRows.{Rows, row_of_entry, rows_in}
use Rattle.slotted_hashcons.proofs.FiledRows.{row-filed}
use Rattle.slotted_lookup.proofs.AppliedNodes.{filed-key}
use Rattle.slotted_outlines.proofs.BareNodes.{count-node, count-moved}
use Rattle.slotted_hashcons.specs.WellFiled.{state_in}
use Rattle.slotted_operations.specs.Good.{Good, RestsWith, HasFreshSlots, image_of}
use Rattle.slotted_operations.specs.Graph.{Graph}
use Rattle.slotted_operations.specs.ValidIds.{IsValidId}
use Rattle.slotted_operations.proofs.Ids.ValidIds.{to-valid}
use Rattle.slotted_graph.specs.Matching.{AreFoundValid, FindsAll, FindsAllAt, HasWideRow}
use Rattle.slotted_graph.specs.States.{IsStateOf}
use Rattle.slotted_graph.proofs.Enodes.{places-of_shape}

first-there : (v : List ℕ) → Contains (v ∷ []) v
first-there v = Contains-In (v ∷ []) v (inl refl)

-- what holds of all that stand in a pattern holds of each variable
module _ (P : List ℕ → Type 0) where
  mutual
    pub each-of : (p : Pattern) → ((v : List ℕ) → Contains (variables_of p) v → P v) → EachVariable P p
    each-of (pattern_node op payloads args) h = each-in args h
    each-of (variable v) h = h v (first-there v)
    each-of (replacing b x t) h = (
      each-of b (λ v c. h v (Contains-append_left (variables_of b ++ variables_of x) (variables_of t) v (Contains-append_left (variables_of b) (variables_of x) v c))),
      each-of x (λ v c. h v (Contains-append_left (variables_of b ++ variables_of x) (variables_of t) v (Contains-append_right (variables_of b) (variables_of x) v c))),
      each-of t (λ v c. h v (Contains-append_right (variables_of b ++ variables_of x) (variables_of t) v c)),
    )

    each-in : (args : PatternArgs) → ((v : List ℕ) → Contains (variables_in args) v → P v) → EachVariableIn P args
    each-in no_argument h = tt
    each-in (own_name x rest) h = each-in rest h
    each-in (child_pattern p rest) h = (
      each-of p (λ v c. h v (Contains-append_left (variables_of p) (variables_in rest) v c)),
      each-in rest (λ v c. h v (Contains-append_right (variables_of p) (variables_in rest) v c)),
    )
    each-in (binding x inner rest) h = (
      each-in inner (λ v c. h v (Contains-append_left (variables_in inner) (variables_in rest) v c)),
      each-in rest (λ v c. h v (Contains-append_right (variables_in inner) (variables_in rest) v c)),
    )

-- a variable that has an entry has its value in one
valued-entry : (s : Values) (v : List ℕ) → In v (map (λ e. e.0) s) → (w : List ℕ) × In (w, valued s v) s
valued-entry [] v i = absurd i
valued-entry (e ∷ s) v i = by (valued-entry s v) (numbers_eq e.0 v) refl
  where
    by : (In v (map (λ e. e.0) s) → (w : List ℕ) × In (w, valued s v) s) → (b : Bool) → numbers_eq e.0 v ≡ b → (w : List ℕ) × In (w, valued (e ∷ s) v) (e ∷ s)
    by rest true q = (e.0, inl (λ j. (e.0, id_or_none (cond (q j) (Some e.1) (value_at s v)))))
    by rest false q = elim i [
      | inl h ↦ absurd (false≢true (sym q ∙ (ap (numbers_eq e.0) h ∙ numbers_eq-same e.0)))
      | inr j ↦ let r = rest j in (r.0, subst (λ a. In (r.0, a) (e ∷ s)) (λ n. id_or_none (cond (sym q n) (Some e.1) (value_at s v))) (inr r.1))
    ]

known-all : (g : Graph) (xs : List ℕ) → KnowsEach g.table xs → AllKnown g.table xs
known-all g xs h = λ j d l. h (slice_index_or xs j d) (j, l, get_or_default xs j (slice_index_or xs j d) d l)

module _ (h : Graph) (k : Kept) (r : Rows) (good : Good k) (rests : RestsWith k r) (fresh : HasFreshSlots h.table k) (image : image_of k ≡ h.image) (filed : rows_in r.filed ≡ h.filed) where
  abbrev is_state : IsStateOf h (state_in k r)
  is_state = record { kept = k; rows = r; good = good; rests = rests; fresh = fresh; image = image; filed = filed; state = refl }

  pub found-of : (p : Pattern) (found : List Values) → IsFound k r p found → FindsAll h p found
  found-of p found f = record { state = state_in k r; is_state = is_state; order = f.order; rows = f.rows; searches = f.searches; in_turn = f.in_turn }

  pub found-at_of : (c d : ℕ) → c ≡ d → (p : Pattern) (found : List Values) → IsFoundAt k r c p found → FindsAllAt h d p found
  found-at_of c d e p found f = record {
    state = state_in k r;
    is_state = is_state;
    order = f.order;
    rows = f.rows;
    readings = subst (λ n. AreReadings (state_in k r) f.order p n found) e f.readings;
  }

  -- a key with too many places is that of a filed node
  pub wide-row : HasWideKey r → HasWideRow h
  wide-row x =
      let f : Form = x.1 in
      let row : Row = row_of_entry (f, (x.0, x.2.0)) in
      let fits : Fits f = (filed-key k r rests.filed x.0 f x.2.0 x.2.1).fits in
      let count : child_count (shape (nameless_node f)).args ≡ length (children f.tree) = count-moved (number_in (free_names (nameless_node f).args)) (nameless_node f).args ∙ count-node f in
      (row, subst (λ rs. Contains rs row) filed (row-filed r.filed x.0 f x.2.0 x.2.1), omega (arith, x.3, places-of_shape f fits, count))

  module _ (t : PatternTree) (found : List Values) where
    pub valid-of : AreValidFound h.table k r found → AreFoundValid h found
    valid-of valid s c e d = let v = valid s c e d in to-valid k good h image e.1 v.0 (known-all h (values e.1.1) v.1)

    -- each variable has a valid value
    pub each-valid : AreValidFound h.table k r found → HaveVariables t found → (p : Pattern) → pattern_in t ≡ Some p → (s : Values) → Contains found s → EachVariable (λ v. IsValidId h (valued s v)) p
    each-valid valid variables p e s c =
        each-of (λ v. IsValidId h (valued s v)) p
        (λ v d. let w = valued-entry s v (In-Contains (map (λ e. e.0) s) v (variables s c p e v d)) in valid-of valid s c (w.0, valued s v) (Contains-In s (w.0, valued s v) w.1))

    pub each-within : AreValidFound h.table k r found → HaveVariables t found → (p : Pattern) → pattern_in t ≡ Some p → (s : Values) → Contains found s → EachVariable (λ v. (valued s v).0 < length h.image.canonical) p
    each-within valid variables p e s c = each-variable (λ v. (valued s v).0 < length h.image.canonical) (λ v. IsValidId h (valued s v)) (λ v w. w.in_range) p (each-valid valid variables p e s c)

-- how many slots are taken, by what is found in a graph
pub takes-in : (t : PatternTree) (F G : Pattern → List Values → Type 0) → ((p : Pattern) (found : List Values) → F p found → G p found) → (u v : Table) → TakesFor t F u v → TakesFor t G u v
takes-in t F G h u v takes p e = let n = takes p e in (n.0, h p n.0 n.1, n.2)

pub runs_out-in : (t : PatternTree) (F G : Pattern → List Values → Type 0) → ((p : Pattern) (found : List Values) → F p found → G p found) → (u v : Table) → RunsOutFor t F u v → RunsOutFor t G u v
runs_out-in t F G h u v out p e = let n = out p e in (n.0, h p n.0 n.1, n.2)

pub ok-three_of : {A : Type 0} {P Q R S : A → Type 0} (o : Result A Error) → IfOk o P → IfOk o Q → IfOk o R → ((a : A) → P a → Q a → R a → S a) → IfOk o S
ok-three_of (Ok a) h i j f = f a h i j
ok-three_of (Err e) h i j f = tt
