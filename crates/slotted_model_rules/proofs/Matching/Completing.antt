-- The matcher finds all where no class has dropped a slot: each substitution whose look-up is an id is a reading of a state that it finds.
use Rattle.std.proofs.Common.{◌≡◌, ◌≢◌, ◌⊎◌, ℕ, suc, List, [], ◌∷◌, ◌++◌, Option, Some, None, true, map, sym, ◌∙◌, ap, refl, subst, inl, inr}
use Rattle.std.specs.Prelude.{Contains, cond}
use Rattle.std.proofs.lemmas.Bool.{cases_Bool, cases_eq}
use Rattle.std.proofs.Math.Nat.{suc-ne-zero, suc_inj}
use Rattle.slotted_lists.proofs.Contained.{Contains-nil}
use Rattle.slotted_lists.proofs.Members.{In, In-left, In-right, In-append, In-map, In-of_map, In-Contains, Contains-In}
use Rattle.slotted_lists.proofs.Options.{Some-same}
use Rattle.slotted_lists.proofs.Maps.{values-with_values}
use Rattle.slotted_theory.specs.Nameless.{DArgs, DTerm, stop, place, scope, extend, moved_args}
use Rattle.slotted_theory.specs.Decided.{numbers_eq}
use Rattle.slotted_theory.specs.FiniteMaps.{filled}
use Rattle.slotted_theory.specs.Renaming.{IsInjective}
use Rattle.slotted_theory.specs.Shape.{outside, free_names}
use Rattle.slotted_theory.proofs.Bijections.{to-injective}
use Rattle.slotted_theory.proofs.Decides.{numbers_eq-true}
use Rattle.slotted_theory.proofs.Filled.{filled-injective}
use Rattle.slotted_theory.proofs.Names.{extend-same, extend-other, extend-injective}
use Rattle.slotted_theory.proofs.Values.{node, child_before}
use Rattle.slotted_model.specs.Affected.{id_eq}
use Rattle.slotted_model.specs.Applied.{Applied, keys, values, map_on, renamed_id, as_term, EachChild}
use Rattle.slotted_model.specs.Classes.{IsFull}
use Rattle.slotted_model.specs.Correspondence.{AllDifferent}
use Rattle.slotted_model.specs.Find.{find_class, find_map, used_slots, find, Linked}
use Rattle.slotted_model.specs.Ascending.{ascending}
use Rattle.slotted_model.specs.State.{Row, State, filed_node, normal_node, look_up_node}
use Rattle.slotted_model.specs.Rest.{IsValidIn, IsCurrent, AtRest}
use Rattle.slotted_model.proofs.Rebuilding.Answers.{RowAnswer, answer-row}
use Rattle.slotted_model.proofs.Data.Extension.{Different, Extension, extension}
use Rattle.slotted_model.proofs.Represented.Full.{full-ascending, full-renamed}
use Rattle.slotted_model.proofs.Data.Maps.{map_on-filled, pair-filled, filled-pair}
use Rattle.slotted_model.proofs.Data.Members.{In-inside}
use Rattle.slotted_model.proofs.Finds.NormalIds.{values-identity, used-by, found-renamed, found-slots, found-name}
use Rattle.slotted_model.proofs.Data.Options.{option_map-some, both-some, and_then-some, None-Some}
use Rattle.slotted_model.proofs.Represented.Children.{free_names-places}
use Rattle.slotted_model.proofs.Correspondences.Pairs.{Contains-value, Contains-of_value}
use Rattle.slotted_model.proofs.Rebuilding.Rows.{rest-current}
use Rattle.slotted_model.proofs.Data.Sets.{In-of_ascending}
use Rattle.slotted_model.proofs.Data.Theory.{free_names-moved}
use Rattle.slotted_model.proofs.Rebuilding.RowNodes.{row_node, row-normal}
use Rattle.slotted_model.proofs.Represented.Ids.{term_eq-same}
use Rattle.slotted_model.proofs.Rebuilding.FoundEntries.{identity-names}
use Rattle.slotted_model_rules.specs.Complete.{HasAllSlots, HasOwnBinders, IsFreeInPattern, IsFreeInArguments, own_binders, binders_of, child_binders}
use Rattle.slotted_model_rules.specs.Patterns.{Pattern, PatternArgs, pattern_node, variable, replacing, no_argument, own_name, child_pattern, binding, EachVariable, EachVariableIn, look_up_pattern, look_up_arguments, IsOfRow}
use Rattle.slotted_model_rules.specs.Matcher.{NodeArgs, an_id, a_binder, unnamed, written_names, bound_names, rest_of, id_of_first, inside_first, MatchState, value_at, walked, IsNodeOf, IsRowFor, Gives, IfThere, with_value, Found, FoundIn, class_id, start_at, Reads}
use Rattle.slotted_model_rules.proofs.Matching.AllSlots.{different-parts, renamed-injective, renamed-agrees, found-values, all-names, alike-same, row-names, row-moved}
use Rattle.slotted_model_rules.proofs.Matching.Answering.{unnamed-moved}
use Rattle.slotted_model_rules.proofs.Matching.Beside.{Beside, beside, Answers, bound_pairs, bound_pairs-values, bound_pairs-keys, NamesIn, names-in, written-in, answers, answers-agree, Walk, walks}
use Rattle.slotted_model_rules.proofs.Patterns.LookingUp.{IsFoundId, found-args, looked-pattern, looked-arguments}
use Rattle.slotted_model_rules.proofs.Substitutions.Renamed.{renamed-id}
use Rattle.slotted_model_rules.proofs.Matching.Walking.{Agrees}

-- what is given for a member is given
given-for : {A B : Type 0} (P : A → List B → Type 0) (xs : List A) (outs : List B) → Gives P xs outs → (x : A) → In x xs → (here : List B) × P x here × ((y : B) → In y here → In y outs)
given-for P [] outs g x h = absurd h
given-for P (z ∷ xs) outs g x (inl e) = (g.0, subst (λ w. P w g.0) (sym e) g.3, λ y i. subst (In y) (sym g.2) (In-left y g.0 g.1 i))
given-for P (z ∷ xs) outs g x (inr h) =
    let r = given-for P xs g.1 g.4 x h in
    (r.0, r.1, λ y i. subst (In y) (sym g.2) (In-right y g.0 g.1 (r.2 y i)))

different-in : (xs : List ℕ) → AllDifferent xs → Different xs
different-in [] d = tt
different-in (x ∷ xs) d = (λ i. d.0 (Contains-In xs x i), different-in xs d.1)

different-map : (f : ℕ → ℕ) → IsInjective f → (xs : List ℕ) → Different xs → Different (map f xs)
different-map f inj [] d = tt
different-map f inj (x ∷ xs) d = (
  λ i. let r : (y : ℕ) × In y xs × (f x ≡ f y) = In-of_map f xs (f x) i in d.0 (subst (λ z. In z xs) (sym (inj x r.0 r.2)) r.1),
  different-map f inj xs d.1,
)

keys-by : (f : ℕ → ℕ) (m : List (ℕ × ℕ)) → keys (map (λ (p : ℕ × ℕ). (f p.0, p.1)) m) ≡ map f (keys m)
keys-by f [] = refl
keys-by f (p ∷ m) = ap (λ l. f p.0 ∷ l) (keys-by f m)

values-by : (f : ℕ → ℕ) (m : List (ℕ × ℕ)) → values (map (λ (p : ℕ × ℕ). (f p.0, p.1)) m) ≡ values m
values-by f [] = refl
values-by f (p ∷ m) = ap (λ l. p.1 ∷ l) (values-by f m)

-- the names of the graph in a state have been seen
pub record Known (g : State) (st : MatchState) : Type 0 where
  pub in_pairs : (s t : ℕ) → Contains st.pairs (s, t) → Contains st.seen s
  pub in_values : (v : List ℕ) (b : Applied) → value_at st.values v ≡ Some b → (z : ℕ) → In z (values (find g.found b).1) → Contains st.seen z

-- a state that was found, with a reading that goes on from f; the new names are read as binders of which B holds
pub record Reached (g : State) (σ : List ℕ → Applied) (f : ℕ → ℕ) (st : MatchState) (B : ℕ → Type 0) (outs : List MatchState) : Type 0 where
  pub out : MatchState
  pub member : In out outs
  pub by : ℕ → ℕ
  pub reads : Reads g by σ out
  pub known : Known g out
  pub same : (z : ℕ) → Contains st.seen z → by z ≡ f z
  pub kept : (z : ℕ) → Contains st.seen z → Contains out.seen z
  pub new : (z : ℕ) → Contains out.seen z → Contains st.seen z ⊎ B (by z)

-- one after the other
reached-then : (g : State) (σ : List ℕ → Applied) (f : ℕ → ℕ) (st : MatchState) (B C D : ℕ → Type 0) (first outs : List MatchState) → ((z : ℕ) → B z → D z) → ((z : ℕ) → C z → D z) →
    (r : Reached g σ f st B first) → (here : List MatchState) → ((y : MatchState) → In y here → In y outs) → Reached g σ r.by r.out C here → Reached g σ f st D outs
reached-then g σ f st B C D first outs left right r here into k = record {
  out = k.out;
  member = into k.out k.member;
  by = k.by;
  reads = k.reads;
  known = k.known;
  same = λ z c. k.same z (r.kept z c) ∙ r.same z c;
  kept = λ z c. k.kept z (r.kept z c);
  new = λ z c. elim (k.new z c) [
    | inr l ↦ inr (right (k.by z) l)
    | inl l ↦ elim (r.new z l) [
      | inl m ↦ inl m
      | inr m ↦ inr (left (k.by z) (subst B (sym (k.same z l)) m))
    ]
  ];
}

-- a function that is f on known names, and takes the binders of the node to those of the pattern
pub record Extended (f : ℕ → ℕ) (known : ℕ → Type 0) (args : PatternArgs) (n : NodeArgs) : Type 0 where
  pub by : ℕ → ℕ
  pub injective : IsInjective by
  pub same : (z : ℕ) → known z → by z ≡ f z
  pub bound : (y x : ℕ) → In (y, x) (bound_pairs args n) → by y ≡ x
  pub onto : (z : ℕ) → In z (bound_names n) → In (by z) (own_binders args)

extended : (f : ℕ → ℕ) → IsInjective f → (known : ℕ → Type 0) (args : PatternArgs) (n : NodeArgs) → keys (bound_pairs args n) ≡ bound_names n → AllDifferent (bound_names n) → AllDifferent (own_binders args) →
    ((z : ℕ) → known z → In z (bound_names n) → ⊥) → ((z : ℕ) → known z → In (f z) (own_binders args) → ⊥) → Extended f known args n
extended f inj known args n ks dn da new fresh =
    let m : List (ℕ × ℕ) = bound_pairs args n in
    let q : List (ℕ × ℕ) = map (λ (p : ℕ × ℕ). (f p.0, p.1)) m in
    let names : keys q ≡ map f (bound_names n) = keys-by f m ∙ ap (map f) ks in
    let slots : values q ≡ own_binders args = values-by f m ∙ bound_pairs-values args n in
    let e : Extension q = extension q (subst Different (sym names) (different-map f inj (bound_names n) (different-in (bound_names n) dn))) (subst Different (sym slots) (different-in (own_binders args) da)) in
    let by : ℕ → ℕ = λ z. e.bijection.to (f z) in
    let bound : (y x : ℕ) → In (y, x) m → by y ≡ x = λ y x i. e.at (f y) x (In-map (λ (p : ℕ × ℕ). (f p.0, p.1)) m (y, x) i) in
    record {
      by = by;
      injective = λ x y p. inj x y (to-injective e.bijection (f x) (f y) p);
      same = λ z k. e.fixes (f z)
          (λ i. let r : (y : ℕ) × In y (bound_names n) × (f z ≡ f y) = In-of_map f (bound_names n) (f z) (subst (In (f z)) names i) in new z k (subst (λ w. In w (bound_names n)) (sym (inj z r.0 r.2)) r.1))
          (λ i. fresh z k (subst (In (f z)) slots i));
      bound = bound;
      onto = λ z i.
          let r : (p : ℕ × ℕ) × In p m × (z ≡ p.0) = In-of_map (λ (p : ℕ × ℕ). p.0) m z (subst (In z) (sym ks) i) in
          let at : by z ≡ r.0.1 = ap by r.2 ∙ bound r.0.0 r.0.1 r.1 in
          subst (λ w. In w (own_binders args)) (sym at) (subst (In r.0.1) (bound_pairs-values args n) (In-map (λ (p : ℕ × ℕ). p.1) m r.0 r.1));
    }

module _ (g : State) (rest : AtRest g) (all : HasAllSlots g) (order : List Row) (has : (r : Row) → Contains g.rows r → Contains order r) (σ : List ℕ → Applied) where
  abbrev linked : Linked g.nodes g.found
  linked = rest.sane.sound.linked

  -- a variable
  at-variable : (v : List ℕ) (f : ℕ → ℕ) (st : MatchState) (a : Applied) → Reads g f σ st → Known g st → ((z : ℕ) → In z (values (find g.found a).1) → Contains st.seen z) →
      find g.found (σ v) ≡ renamed_id f (find g.found a) → Reached g σ f st (λ z. ⊥) (with_value g (value_at st.values v) st v a)
  at-variable v f st a r k seen e = go (value_at st.values v) refl
    where
      new_reads : value_at st.values v ≡ None → (w : List ℕ) (b : Applied) → value_at ((v, a) ∷ st.values) w ≡ Some b → (find g.found (σ w) ≡ renamed_id f (find g.found b)) × ((z : ℕ) → In z (values (find g.found b).1) → Contains st.seen z)
      new_reads none w b p = elim (cases_Bool (numbers_eq v w)) [
        | inl t ↦
            let same : a ≡ b = Some-same a b (ap (λ c. cond c (Some a) (value_at st.values w)) (sym t) ∙ p) in
            let vw : v ≡ w = numbers_eq-true v w t in
            (ap (λ u. find g.found (σ u)) (sym vw) ∙ (e ∙ ap (λ c. renamed_id f (find g.found c)) same), λ z i. seen z (subst (λ c. In z (values (find g.found c).1)) (sym same) i))
        | inr o ↦
            let q : value_at st.values w ≡ Some b = ap (λ c. cond c (Some a) (value_at st.values w)) (sym o) ∙ p in
            (r.values_read w b q, k.in_values w b q)
      ]

      go : (o : Option Applied) → value_at st.values v ≡ o → Reached g σ f st (λ z. ⊥) (with_value g o st v a)
      go (Some b) p =
          let same : find g.found b ≡ find g.found a = renamed-injective f r.injective (find g.found b) (find g.found a) (sym (r.values_read v b p) ∙ e) in
          let yes : id_eq (find g.found b) (find g.found a) ≡ true = term_eq-same (as_term (find g.found b)) (as_term (find g.found a)) (ap as_term same) in
          record {
            out = st;
            member = subst (In st) (ap (λ c. cond c (st ∷ []) []) (sym yes)) (inl refl);
            by = f;
            reads = r;
            known = k;
            same = λ z c. refl;
            kept = λ z c. c;
            new = λ z c. inl c;
          }
      go None p = record {
        out = record st { values = (v, a) ∷ st.values };
        member = inl refl;
        by = f;
        reads = record { injective = r.injective; slots = r.slots; values_read = λ w b q. (new_reads p w b q).0 };
        known = record { in_pairs = k.in_pairs; in_values = λ w b q. (new_reads p w b q).1 };
        same = λ z c. refl;
        kept = λ z c. c;
        new = λ z c. inl c;
      }

  -- what is to be shown of the children
  abbrev pub ReachesIn : PatternArgs → Type 0
  ReachesIn args =
      (f : ℕ → ℕ) (n : NodeArgs) (st : MatchState) (outs : List MatchState) → FoundIn g order args n st outs → Reads g f σ st → Known g st → Answers g σ f args n →
      ((z : ℕ) → In z (written_names n) → Contains st.seen z) → ((y z : ℕ) → In y (child_binders args) → Contains st.seen z → f z ≢ y) → Reached g σ f st (λ z. In z (child_binders args)) outs

  -- at a row: the binders are matched, the names are held side by side, and then the children
  at-row : (op : ℕ) (payloads : List (List ℕ)) (args : PatternArgs) → ReachesIn args → AllDifferent (own_binders args) →
      ((z : ℕ) → In z (own_binders args) → In z (child_binders args) → ⊥) → (f : ℕ → ℕ) (st : MatchState) (a : Applied) (outs : List MatchState) → Reads g f σ st → Known g st →
      ((z : ℕ) → In z (values (find g.found a).1) → Contains st.seen z) → ((y z : ℕ) → In y (own_binders args ++ child_binders args) → Contains st.seen z → f z ≢ y) →
      (row : Row) (id : Applied) → Contains g.rows row → IsFull g.nodes id → id.0 ≡ row.source → find g.found id ≡ renamed_id f (find g.found a) →
      (w : DArgs) → look_up_arguments g (λ y. y) σ args ≡ Some w → (row_node row id).args ≡ w →
      (n : NodeArgs) → IsNodeOf g st.seen row a n → (here : List MatchState) →
      IfThere (walked args n st.pairs) (λ pairs. FoundIn g order args n (record { values = st.values; pairs = pairs; seen = written_names n ++ st.seen }) here) (here ≡ []) →
      ((y : MatchState) → In y here → In y outs) → Reached g σ f st (λ z. In z (own_binders args ++ child_binders args)) outs
  at-row op payloads args children da apart f st a outs r k seen fresh row id filed full source found w e whole n is here goes into =
      let b : Applied = is.id in
      let of : IsOfRow g row b a = is.of_row in
      let moved_b : Applied = renamed_id f b in
      let full_b : IsFull g.nodes moved_b = full-renamed g.nodes b of.full f (λ x y i j. r.injective x y) in
      let alike : find g.found moved_b ≡ find g.found id = found-renamed g.found f b ∙ (ap (renamed_id f) of.same ∙ sym found) in
      let same_id : id ≡ moved_b = alike-same g rest all moved_b id full_b full (of.source ∙ sym source) alike in
      let names : w ≡ unnamed f n =
      sym whole ∙ (ap (λ c. (row_node row c).args) same_id ∙ (ap (λ (t : DTerm). t.args) (row-moved g rest all row filed b of.full of.source f) ∙ (ap (moved_args f) (sym is.form) ∙ unnamed-moved f (λ y. y) n))) in
      let side : Beside g σ f (λ y. y) args n = beside g σ f (λ y. y) args n (e ∙ ap Some names) in
      let S : ℕ → Type 0 = λ z. In z (values b.1) in
      let in_b : NamesIn S n = names-in (λ y. y) n S (λ z i. row-names g rest all row filed b of.full of.source z (subst (λ (t : DArgs). In z (free_names t)) is.form i)) in
      let b_seen : (z : ℕ) → In z (values b.1) → Contains st.seen z = λ z i. seen z (subst (λ (c : Applied). In z (values c.1)) of.same (all-names g rest all b of.full z i)) in
      let old : (z : ℕ) → In z (written_names n) → Contains st.seen z ⊎ In z (bound_names n) = λ z i. elim (written-in S n in_b z i) [
        | inl j ↦ inl (b_seen z j)
        | inr j ↦ inr j
      ] in
      let x : Extended f (Contains st.seen) args n = extended f r.injective (Contains st.seen) args n (bound_pairs-keys g rest σ f (λ y. y) args n side) is.binders_differ da
      (λ z c i. (is.binders_new z (Contains-In (bound_names n) z i)).0 c) (λ z c i. fresh (f z) z (In-left (f z) (own_binders args) (child_binders args) i) c refl) in
      let ans : Answers g σ x.by args n = answers g rest σ f (λ y. y) x.by (λ y z p. p) x.injective S (λ z s. sym (x.same z (b_seen z s))) args n side in_b x.bound in
      let says : Agrees x.by st.pairs = λ s t c. x.same s (k.in_pairs s t c) ∙ r.slots s t c in
      let walk : Walk x.by args n st.pairs = walks g σ x.by x.injective args n st.pairs says ans in
      let mid : MatchState = record { values = st.values; pairs = walk.after; seen = written_names n ++ st.seen } in
      let inside : FoundIn g order args n mid here =
      subst (λ o. IfThere o (λ pairs. FoundIn g order args n (record { values = st.values; pairs = pairs; seen = written_names n ++ st.seen }) here) (here ≡ [])) walk.went goes in
      let later : (z : ℕ) → Contains st.seen z → Contains mid.seen z = λ z c. Contains-In mid.seen z (In-right z (written_names n) st.seen (In-Contains st.seen z c)) in
      let reads : Reads g x.by σ mid = record {
        injective = x.injective;
        slots = walk.says;
        values_read = λ v c p. r.values_read v c p ∙ renamed-agrees f x.by (find g.found c) (λ z i. sym (x.same z (k.in_values v c p z i)));
      } in
      let known : Known g mid = record {
        in_pairs = λ s t c. elim (walk.from s t c) [
          | inl l ↦ later s (k.in_pairs s t l)
          | inr l ↦ Contains-In mid.seen s (In-left s (written_names n) st.seen l)
        ];
        in_values = λ v c p z i. later z (k.in_values v c p z i);
      } in
      let split : (z : ℕ) → Contains mid.seen z → Contains st.seen z ⊎ In z (bound_names n) = λ z c. elim (In-append z (written_names n) st.seen (In-Contains mid.seen z c)) [
        | inl i ↦ old z i
        | inr i ↦ inl (Contains-In st.seen z i)
      ] in
      let free : (y z : ℕ) → In y (child_binders args) → Contains mid.seen z → x.by z ≢ y = λ y z i c p. elim (split z c) [
        | inl s ↦ fresh y z (In-right y (own_binders args) (child_binders args) i) s (sym (x.same z s) ∙ p)
        | inr j ↦ apart y (subst (λ u. In u (own_binders args)) p (x.onto z j)) i
      ] in
      let reached : Reached g σ x.by mid (λ z. In z (child_binders args)) here =
      children x.by n mid here inside reads known ans (λ z i. Contains-In mid.seen z (In-left z (written_names n) st.seen i)) free in
      record {
        out = reached.out;
        member = into reached.out reached.member;
        by = reached.by;
        reads = reached.reads;
        known = reached.known;
        same = λ z c. reached.same z (later z c) ∙ x.same z c;
        kept = λ z c. reached.kept z (later z c);
        new = λ z c. elim (reached.new z c) [
          | inr l ↦ inr (In-right (reached.by z) (own_binders args) (child_binders args) l)
          | inl l ↦ elim (split z l) [
            | inl m ↦ inl m
            | inr m ↦ inr (In-left (reached.by z) (own_binders args) (child_binders args) (subst (λ u. In u (own_binders args)) (sym (reached.same z l)) (x.onto z m)))
          ]
        ];
      }

  mutual
    -- the matcher finds a state that can be read as σ
    pub reaches : (p : Pattern) → EachVariable (λ v. IsValidIn g (σ v)) p → AllDifferent (binders_of p) → (f : ℕ → ℕ) (st : MatchState) (a : Applied) (outs : List MatchState) → Found g order p st a outs → Reads g f σ st → Known g st →
        ((z : ℕ) → In z (values (find g.found a).1) → Contains st.seen z) → ((y z : ℕ) → In y (binders_of p) → Contains st.seen z → f z ≢ y) →
        look_up_pattern g (λ y. y) σ p ≡ Some (renamed_id f (find g.found a)) → Reached g σ f st (λ z. In z (binders_of p)) outs
    reaches (variable v) valid d f st a outs found r k seen fresh e =
        let q : find g.found (σ v) ≡ renamed_id f (find g.found a) = ap (find g.found) (sym (renamed-id (σ v))) ∙ Some-same (find g.found (renamed_id (λ y. y) (σ v))) (renamed_id f (find g.found a)) e in
        subst (Reached g σ f st (λ z. ⊥)) (sym found) (at-variable v f st a r k seen q)
    reaches (replacing body part value) valid d f st a outs found r k seen fresh e = absurd (None-Some (renamed_id f (find g.found a)) e)
    reaches (pattern_node op payloads args) valid d f st a outs found r k seen fresh e =
        let parts : AllDifferent (own_binders args) × AllDifferent (child_binders args) × ((z : ℕ) → In z (own_binders args) → In z (child_binders args) → ⊥) = different-parts (own_binders args) (child_binders args) d in
        let x : Applied = renamed_id f (find g.found a) in
        let q : (w : DArgs) × (look_up_arguments g (λ y. y) σ args ≡ Some w) × (look_up_node g (node op payloads w) ≡ Some x) =
        and_then-some (λ w. look_up_node g (node op payloads w)) (look_up_arguments g (λ y. y) σ args) x e in
        let ids : EachChild (IsFoundId g) q.0 = (looked-arguments g rest σ (λ y. y) (λ y z p. p) args valid q.0 q.1).0 in
        let w : RowAnswer g (node op payloads q.0) x = answer-row g rest (node op payloads q.0) x q.2 in
        let whole : row_node w.row w.id ≡ node op payloads q.0 = row-normal g rest w.row w.filed w.id w.source ∙ (w.same ∙ ap (node op payloads) (found-args g q.0 ids)) in
        let fits : IsRowFor g w.row op payloads a = record {
          class = ap (find_class g.found) (sym w.source) ∙ ap (λ (c : Applied). c.0) w.found;
          operator = ap (λ (t : DTerm). t.op) whole;
          payloads_same = ap (λ (t : DTerm). t.payloads) whole;
        } in
        let here = given-for (λ (r : Row) (here : List MatchState).
        ((¬ IsRowFor g r op payloads a) × (here ≡ []))
        ⊎ ((n : NodeArgs) × IsRowFor g r op payloads a × IsNodeOf g st.seen r a n
        × IfThere (walked args n st.pairs) (λ pairs. FoundIn g order args n (record { values = st.values; pairs = pairs; seen = written_names n ++ st.seen }) here) (here ≡ [])))
        order outs found w.row (In-Contains order w.row (has w.row w.filed)) in
        elim here.1 [
          | inl other ↦ absurd (other.0 fits)
          | inr fit ↦ at-row op payloads args (reaches-in args valid parts.1) parts.0 parts.2 f st a outs r k seen fresh w.row w.id w.filed w.full w.source w.found q.0 q.1 (ap (λ (t : DTerm). t.args) whole) fit.0 fit.2 here.0 fit.3 here.2
        ]

    -- child by child
    reaches-in : (args : PatternArgs) → EachVariableIn (λ v. IsValidIn g (σ v)) args → AllDifferent (child_binders args) → ReachesIn args
    reaches-in no_argument valid d f n st outs found r k ans seen fresh = record {
      out = st;
      member = subst (In st) (sym found) (inl refl);
      by = f;
      reads = r;
      known = k;
      same = λ z c. refl;
      kept = λ z c. c;
      new = λ z c. inl c;
    }
    reaches-in (own_name x others) valid d f n st outs found r k ans seen fresh =
        let m : NodeArgs = ans.1 in
        reaches-in others valid d f m st outs (subst (λ l. FoundIn g order others (rest_of l) st outs) ans.2 found) r k ans.4 (λ z i. seen z (subst (λ l. In z (written_names l)) (sym ans.2) (inr i))) fresh
    reaches-in (child_pattern p others) valid d f n st outs found r k ans seen fresh =
        let c : Applied = ans.0 in
        let m : NodeArgs = ans.1 in
        let parts : AllDifferent (binders_of p) × AllDifferent (child_binders others) × ((z : ℕ) → In z (binders_of p) → In z (child_binders others) → ⊥) = different-parts (binders_of p) (child_binders others) d in
        let written : (z : ℕ) → In z (written_names (an_id c m)) → Contains st.seen z = λ z i. seen z (subst (λ l. In z (written_names l)) (sym ans.2) i) in
        let own : (z : ℕ) → In z (values c.1) → Contains st.seen z = λ z i. written z (In-left z (values c.1) (written_names m) i) in
        let form : find g.found (renamed_id f c) ≡ renamed_id f c = (looked-pattern g rest σ (λ y. y) (λ y z e. e) p valid.0 (renamed_id f c) ans.3).0.1 in
        let look : look_up_pattern g (λ y. y) σ p ≡ Some (renamed_id f (find g.found c)) = ans.3 ∙ ap Some (sym form ∙ found-renamed g.found f c) in
        let first : Found g order p st c found.0 = subst (λ l. Found g order p st (id_of_first l) found.0) ans.2 found.1 in
        let one : Reached g σ f st (λ z. In z (binders_of p)) found.0 =
        reaches p valid.0 parts.0 f st c found.0 first r k (λ z i. own z (found-values g c z i)) (λ y z i. fresh y z (In-left y (binders_of p) (child_binders others) i)) look in
        let next = given-for (λ s here. FoundIn g order others (rest_of n) s here) found.0 outs found.2 one.out one.member in
        let after : FoundIn g order others m one.out next.0 = subst (λ l. FoundIn g order others (rest_of l) one.out next.0) ans.2 next.1 in
        let more : (z : ℕ) → In z (written_names m) → Contains st.seen z = λ z i. written z (In-right z (values c.1) (written_names m) i) in
        let two : Reached g σ one.by one.out (λ z. In z (child_binders others)) next.0 =
        reaches-in others valid.1 parts.1 one.by m one.out next.0 after one.reads one.known (answers-agree g rest σ f one.by others m (λ z i. sym (one.same z (more z i))) ans.4) (λ z i. one.kept z (more z i))
        (λ y z i c e. elim (one.new z c) [
          | inl s ↦ fresh y z (In-right y (binders_of p) (child_binders others) i) s (sym (one.same z s) ∙ e)
          | inr b ↦ parts.2 y (subst (λ u. In u (binders_of p)) e b) i
        ]) in
        reached-then g σ f st (λ z. In z (binders_of p)) (λ z. In z (child_binders others)) (λ z. In z (binders_of p ++ child_binders others)) found.0 outs
        (λ z. In-left z (binders_of p) (child_binders others)) (λ z. In-right z (binders_of p) (child_binders others)) one next.0 next.2 two
    reaches-in (binding x inner others) valid d f n st outs found r k ans seen fresh =
        let m : NodeArgs = ans.1 in
        let l : NodeArgs = ans.2 in
        let parts : AllDifferent (child_binders inner) × AllDifferent (child_binders others) × ((z : ℕ) → In z (child_binders inner) → In z (child_binders others) → ⊥) = different-parts (child_binders inner) (child_binders others) d in
        let written : (z : ℕ) → In z (written_names (a_binder ans.0 m l)) → Contains st.seen z = λ z i. seen z (subst (λ u. In z (written_names u)) (sym ans.3) i) in
        let first : FoundIn g order inner m st found.0 = subst (λ u. FoundIn g order inner (inside_first u) st found.0) ans.3 found.1 in
        let one : Reached g σ f st (λ z. In z (child_binders inner)) found.0 =
        reaches-in inner valid.0 parts.0 f m st found.0 first r k ans.5 (λ z i. written z (inr (In-left z (written_names m) (written_names l) i))) (λ y z i. fresh y z (In-left y (child_binders inner) (child_binders others) i)) in
        let next = given-for (λ s here. FoundIn g order others (rest_of n) s here) found.0 outs found.2 one.out one.member in
        let after : FoundIn g order others l one.out next.0 = subst (λ u. FoundIn g order others (rest_of u) one.out next.0) ans.3 next.1 in
        let more : (z : ℕ) → In z (written_names l) → Contains st.seen z = λ z i. written z (inr (In-right z (written_names m) (written_names l) i)) in
        let two : Reached g σ one.by one.out (λ z. In z (child_binders others)) next.0 =
        reaches-in others valid.1 parts.1 one.by l one.out next.0 after one.reads one.known (answers-agree g rest σ f one.by others l (λ z i. sym (one.same z (more z i))) ans.6) (λ z i. one.kept z (more z i))
        (λ y z i c e. elim (one.new z c) [
          | inl s ↦ fresh y z (In-right y (child_binders inner) (child_binders others) i) s (sym (one.same z s) ∙ e)
          | inr b ↦ parts.2 y (subst (λ u. In u (child_binders inner)) e b) i
        ]) in
        reached-then g σ f st (λ z. In z (child_binders inner)) (λ z. In z (child_binders others)) (λ z. In z (child_binders inner ++ child_binders others)) found.0 outs
        (λ z. In-left z (child_binders inner) (child_binders others)) (λ z. In-right z (child_binders inner) (child_binders others)) one next.0 next.2 two

-- the names of what a node is looked up as are free in the node
answer-names : (g : State) (rest : AtRest g) (d : DTerm) (x : Applied) → EachChild (IsFoundId g) d.args → look_up_node g d ≡ Some x → (z : ℕ) → In z (values x.1) → In z (free_names d.args)
answer-names g rest d x ids e z h =
    let w : RowAnswer g d x = answer-row g rest d x e in
    let whole : row_node w.row w.id ≡ d = row-normal g rest w.row w.filed w.id w.source ∙ (w.same ∙ ap (node d.op d.payloads) (found-args g d.args ids)) in
    let cur : IsCurrent g w.row = rest-current g rest w.row w.filed in
    let k : In z (values (find g.found w.id).1) = subst (λ (c : Applied). In z (values c.1)) (sym w.found) h in
    let p : (s : ℕ) × Contains (find g.found w.id).1 (s, z) = Contains-of_value (find g.found w.id).1 z (Contains-In (values (find g.found w.id).1) z k) in
    let q : (t : ℕ) × Contains (find_map g.found w.id.0) (p.0, t) × Contains w.id.1 (t, z) = found-name g.found w.id p.0 z p.1 in
    let used : Contains (used_slots g.found w.row.source) q.0 = subst (λ i. Contains (used_slots g.found i) q.0) w.source (used-by g.found w.id.0 q.0 (Contains-value (find_map g.found w.id.0) p.0 q.0 q.1)) in
    let free : List ℕ = free_names (normal_node g w.row.source).args in
    let there : In q.0 (free_names (filed_node w.row).args) =
    subst (λ (t : DTerm). In q.0 (free_names t.args)) (sym cur.in_normal_form) (In-of_ascending q.0 free (In-Contains (ascending free) q.0 (cur.covered q.0 used))) in
    let name : filled w.id.1 q.0 ≡ z = filled-pair w.id.1 q.0 z (full-ascending g.nodes w.id w.full) (In-Contains w.id.1 (q.0, z) q.2) in
    let moved_there : In (filled w.id.1 q.0) (free_names (row_node w.row w.id).args) =
    subst (In (filled w.id.1 q.0)) (sym (free_names-moved (filled w.id.1) (filed_node w.row).args)) (In-map (filled w.id.1) (free_names (filed_node w.row).args) q.0 there) in
    subst (λ (t : DTerm). In z (free_names t.args)) whole (subst (λ y. In y (free_names (row_node w.row w.id).args)) name moved_there)

module _ (g : State) (rest : AtRest g) (σ : List ℕ → Applied) where
  mutual
    -- each name of what a pattern is looked up as is free in it
    pub names-free : (ρ : ℕ → ℕ) → IsInjective ρ → (p : Pattern) → EachVariable (λ v. IsValidIn g (σ v)) p → (x : Applied) → look_up_pattern g ρ σ p ≡ Some x → (z : ℕ) → In z (values x.1) → (y : ℕ) × IsFreeInPattern σ y p × (z ≡ ρ y)
    names-free ρ inj (pattern_node op payloads args) valid x e z h =
        let q : (w : DArgs) × (look_up_arguments g ρ σ args ≡ Some w) × (look_up_node g (node op payloads w) ≡ Some x) =
        and_then-some (λ w. look_up_node g (node op payloads w)) (look_up_arguments g ρ σ args) x e in
        let ids : EachChild (IsFoundId g) q.0 = (looked-arguments g rest σ ρ inj args valid q.0 q.1).0 in
        arguments-free ρ inj args valid q.0 q.1 z (answer-names g rest (node op payloads q.0) x ids q.2 z h)
    names-free ρ inj (variable v) valid x e z h =
        let b : Applied = renamed_id ρ (σ v) in
        let k : In z (values b.1) = found-values g b z (subst (λ (c : Applied). In z (values c.1)) (sym (Some-same (find g.found b) x e)) h) in
        let r : (y : ℕ) × In y (values (σ v).1) × (z ≡ ρ y) = In-of_map ρ (values (σ v).1) z (subst (In z) (values-with_values ρ (σ v).1) k) in
        (r.0, Contains-In (values (σ v).1) r.0 r.1, r.2)
    names-free ρ inj (replacing body part value) valid x e z h = absurd (None-Some x e)

    arguments-free : (ρ : ℕ → ℕ) → IsInjective ρ → (args : PatternArgs) → EachVariableIn (λ v. IsValidIn g (σ v)) args → (d : DArgs) → look_up_arguments g ρ σ args ≡ Some d → (z : ℕ) → In z (free_names d) →
        (y : ℕ) × IsFreeInArguments σ y args × (z ≡ ρ y)
    arguments-free ρ inj no_argument valid d e z h = absurd (subst (λ (w : DArgs). In z (free_names w)) (sym (Some-same stop d e)) h)
    arguments-free ρ inj (own_name x others) valid d e z h =
        let r : (f : DArgs) × (look_up_arguments g ρ σ others ≡ Some f) × (place (ρ x) f ≡ d) = option_map-some (place (ρ x)) (look_up_arguments g ρ σ others) d e in
        go r.0 (arguments-free ρ inj others valid r.0 r.1 z) (subst (λ (w : DArgs). In z (free_names w)) (sym r.2) h)
      where
        go : (f : DArgs) → (In z (free_names f) → (y : ℕ) × IsFreeInArguments σ y others × (z ≡ ρ y)) → In z (ρ x ∷ free_names f) → (y : ℕ) × IsFreeInArguments σ y (own_name x others) × (z ≡ ρ y)
        go f q (inl k) = (x, inl refl, k)
        go f q (inr k) = let m = q k in (m.0, inr m.1, m.2)
    arguments-free ρ inj (child_pattern p others) valid d e z h =
        let r : (a : Applied) × (f : DArgs) × (look_up_pattern g ρ σ p ≡ Some a) × (look_up_arguments g ρ σ others ≡ Some f) × (child_before (as_term a) f ≡ d) =
        both-some (λ a found. child_before (as_term a) found) (look_up_pattern g ρ σ p) (look_up_arguments g ρ σ others) d e in
        elim (In-append z (free_names (as_term r.0).args) (free_names r.1) (subst (λ (w : DArgs). In z (free_names w)) (sym r.4) h)) [
          | inl k ↦ let m = names-free ρ inj p valid.0 r.0 r.2 z (subst (In z) (free_names-places (values r.0.1)) k) in (m.0, inl m.1, m.2)
          | inr k ↦ let m = arguments-free ρ inj others valid.1 r.1 r.3 z k in (m.0, inr m.1, m.2)
        ]
    arguments-free ρ inj (binding x inner others) valid d e z h =
        let r : (i : DArgs) × (f : DArgs) × (look_up_arguments g (extend x ρ) σ inner ≡ Some i) × (look_up_arguments g ρ σ others ≡ Some f) × (scope i f ≡ d) =
        both-some scope (look_up_arguments g (extend x ρ) σ inner) (look_up_arguments g ρ σ others) d e in
        elim (In-append z (outside (free_names r.0)) (free_names r.1) (subst (λ (w : DArgs). In z (free_names w)) (sym r.4) h)) [
          | inl k ↦
              let m : (y : ℕ) × IsFreeInArguments σ y inner × (suc z ≡ extend x ρ y) = arguments-free (extend x ρ) (extend-injective x ρ inj) inner valid.0 r.0 r.2 (suc z) (In-inside z (free_names r.0) k) in
              elim (cases_eq m.0 x) [
                | inl same ↦ absurd (suc-ne-zero z (m.2 ∙ extend-same x ρ m.0 same))
                | inr n ↦ (m.0, inl (n, m.1), suc_inj (m.2 ∙ extend-other x ρ m.0 n))
              ]
          | inr k ↦ let m = arguments-free ρ inj others valid.1 r.1 r.3 z k in (m.0, inr m.1, m.2)
        ]

-- each substitution whose look-up is an id is read off a state that is found at the id's class
pub finds-all : (g : State) (rest : AtRest g) → HasAllSlots g → (order : List Row) → ((r : Row) → Contains g.rows r → Contains order r) → (σ : List ℕ → Applied) (p : Pattern) → EachVariable (λ v. IsValidIn g (σ v)) p → HasOwnBinders σ p → (x : Applied) → look_up_pattern g (λ y. y) σ p ≡ Some x →
    (outs : List MatchState) → Found g order p (start_at g x.0) (class_id g x.0) outs → (out : MatchState) × Contains outs out × (f : ℕ → ℕ) × Reads g f σ out
finds-all g rest all order has σ p valid own x e outs found =
    let form : IsFoundId g x = (looked-pattern g rest σ (λ y. y) (λ y z q. q) p valid x e).0 in
    let S : List ℕ = used_slots g.found x.0 in
    let slots : keys x.1 ≡ S = subst (λ (c : Applied). keys c.1 ≡ used_slots g.found c.0) form.1 (found-slots g.nodes g.found rest.sane.sound.linked x form.0) in
    let f : ℕ → ℕ = filled x.1 in
    let inj : IsInjective f = filled-injective x.1 form.0.injective in
    let a : Applied = class_id g x.0 in
    let is_x : renamed_id f a ≡ x = ap (λ m. (x.0, m)) (identity-names f S ∙ (ap (map_on f) (sym slots) ∙ map_on-filled x.1 form.0.ascending)) in
    let found_a : find g.found a ≡ a = renamed-injective f inj (find g.found a) a (sym (found-renamed g.found f a) ∙ (ap (find g.found) is_x ∙ (form.1 ∙ sym is_x))) in
    let look : look_up_pattern g (λ y. y) σ p ≡ Some (renamed_id f (find g.found a)) = e ∙ ap Some (sym is_x ∙ ap (renamed_id f) (sym found_a)) in
    let seen : (z : ℕ) → In z (values (find g.found a).1) → Contains S z = λ z i. Contains-In S z (subst (In z) (values-identity S) (subst (λ (c : Applied). In z (values c.1)) found_a i)) in
    let fresh : (y z : ℕ) → In y (binders_of p) → Contains S z → f z ≢ y = λ y z i c q.
    let key : In z (keys x.1) = subst (In z) (sym slots) (In-Contains S z c) in
    let there : In (f z) (values x.1) = In-map (λ (u : ℕ × ℕ). u.1) x.1 (z, f z) (pair-filled x.1 z form.0.ascending key) in
    let free : (u : ℕ) × IsFreeInPattern σ u p × (y ≡ u) = names-free g rest σ (λ u. u) (λ u v w. w) p valid x e y (subst (λ w. In w (values x.1)) q there) in
    own.in_scope y (Contains-In (binders_of p) y i) (subst (λ w. IsFreeInPattern σ w p) (sym free.2) free.1) in
    let r : Reached g σ f (start_at g x.0) (λ z. In z (binders_of p)) outs =
    reaches g rest all order has σ p valid own.differ f (start_at g x.0) a outs found
    (record { injective = inj; slots = λ s t c. absurd (Contains-nil (s, t) c); values_read = λ v b q. absurd (None-Some b q) })
    (record { in_pairs = λ s t c. absurd (Contains-nil (s, t) c); in_values = λ v b q. absurd (None-Some b q) }) seen fresh look in
    (r.out, Contains-In outs r.out r.member, r.by, r.reads)
