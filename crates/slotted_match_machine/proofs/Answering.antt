-- What the machine answers from a state is what the matcher finds from it, goal by goal.
use Rattle.std.proofs.Common.{◌≡◌, ◌≢◌, ◌↔◌, ℕ, suc, ◌+◌, ◌<◌, List, [], ◌∷◌, ◌++◌, length, map, Option, Some, None, Bool, true, false, sym, ◌∙◌, ap, refl, subst, inl, inr, arith}
use Rattle.std.specs.Prelude.{◌⊎◌, Contains, cond, filter, nat_eq, nat_lt, ◌&&◌, option_map, slice_index, slice_index_or, Vec}
use Rattle.std.specs.declared.alloc.Global.{Global}
use Rattle.std.specs.List.{flat_map}
use Rattle.std.proofs.lemmas.Bool.{cases_eq, eqb-true, eq-eqb, ne_eqb, lt-ltb, le-ltb, and_parts, and_from, false≢true}
use Rattle.std.proofs.lemmas.List.{length_push, get_or_default}
use Rattle.std.proofs.lemmas.List.Elements.{Contains-get_or}
use Rattle.std.proofs.lemmas.Simd.{map-map}
use Rattle.std.proofs.Math.ListN.{get_or-append}
use Rattle.std.proofs.Math.Seq.{get_or-append_seam}
use Rattle.slotted_lists.proofs.Members.{In, In-append, In-Contains, Contains-In, In-left, In-right, In-filter}
use Rattle.slotted_theory.specs.Decided.{numbers_eq}
use Rattle.slotted_theory.specs.Nameless.{DTerm, stop}
use Rattle.slotted_theory.specs.Renaming.{IsInjective}
use Rattle.slotted_theory.proofs.Decides.{numbers_eq-true, numbers_eq-same}
use Rattle.slotted_theory.proofs.Values.{node}
use Rattle.slotted_model.specs.Applied.{Applied}
use Rattle.slotted_model.specs.Extraction.{row_class}
use Rattle.slotted_model.specs.Find.{IsLive, find_class, find}
use Rattle.slotted_model.specs.Ids.{term_eq}
use Rattle.slotted_model.specs.State.{Row, State}
use Rattle.slotted_model.specs.Rest.{AtRest}
use Rattle.slotted_model.proofs.Represented.Ids.{term_eq-true, term_eq-same}
use Rattle.slotted_model_rules.specs.Patterns.{Pattern, PatternArgs, pattern_node, variable}
use Rattle.slotted_model_rules.specs.Matcher.{NodeArgs, written_names, MatchState, value_at, walked, IsRowFor, Gives, IfThere}
use Rattle.slotted_model_rules.specs.Goals.{FoundAll, goals_of, AtRow, after_walk, own_slots, own_names, paired_all, outlines_agree, has_outline}
use Rattle.slotted_model_rules.proofs.Matching.FlatWalks.{walk-paired, passed-over}
use Rattle.slotted_model_rules.proofs.Matching.Goals.{new-value, same-value, other-value}
use Rattle.slotted_match_machine.specs.declared.index.ClassRows.{ClassRows}
use Rattle.slotted_match_machine.specs.declared.index.IndexRow.{IndexRow}
use Rattle.slotted_match_machine.specs.declared.index.RowIndex.{RowIndex}
use Rattle.slotted_match_machine.specs.declared.program.Source.{Source}
use Rattle.slotted_match_machine.specs.declared.program.Step.{Step}
use Rattle.slotted_match_machine.specs.declared.program.Step.TheVariants.{Node, Variable}
use Rattle.slotted_match_machine.specs.Index.{OneByOne, IsIndexRow, rows_of_class, IsIndexOf, HasOutline, IsOutlineIn}
use Rattle.slotted_match_machine.specs.Machine.{Occurrence, no_occurrence, same_occurrence, MachineState, Answer, occurrence_at, new_names, named, child_occurrence, entered, after_row, with_variable, rows_in, if_there, answers_of}
use Rattle.slotted_match_machine.specs.Programs.{child_patterns, placed, IsProgramFor, ends, compares, takes, enters}
use Rattle.slotted_match_machine.specs.Readings.{read_id, read_pairs, IsWholeId, IsReadAs}
use Rattle.slotted_match_machine.proofs.Lists.{one_by_one-both, one_by_one-append, filter-twice, gives-beside}
use Rattle.slotted_match_machine.proofs.NamedNodes.{own-with}
use Rattle.slotted_match_machine.proofs.Occurrences.{IsOccurrenceOf, is-read, is-whole, class-lives, class-in_range, same-ids, other-ids}
use Rattle.slotted_match_machine.proofs.ReadPairs.{all-read}
use Rattle.slotted_match_machine.proofs.PlacedGoals.{IsAt, placed-last, goals-later, children-at}
use Rattle.slotted_match_machine.proofs.VisitedRows as visited
use Rattle.slotted_match_machine.proofs.VisitedRows.{Visit}

-- the machine's state beside the matcher's: f names the numbers, and the variables have the values of their numbers
pub record IsStateOf (g : State) (f : ℕ → ℕ) (variables : List (List ℕ)) (m : MachineState) (st : MatchState) : Type 0 where
  pub pairs : st.pairs ≡ read_pairs f m.pairs
  pub seen : (z : ℕ) → In z st.seen → (i : ℕ) × (i < m.count) × (z ≡ f i)
  pub count : length m.values ≡ length variables
  pub values : (k : ℕ) → k < length variables → (b : Applied) × (value_at st.values (slice_index_or variables k []) ≡ Some b) × IsOccurrenceOf g f b (slice_index_or m.values k no_occurrence)
  pub no_others : (v : List ℕ) (b : Applied) → value_at st.values v ≡ Some b → Contains variables v

-- the rows that can be held beside a node of the pattern, as a test
abbrev fits : ℕ → List (List ℕ) → PatternArgs → Row → Bool
fits op payloads args r = term_eq (node r.shape.op r.shape.payloads stop) (node op payloads stop) && has_outline args r.shape.args

fits-outline : (op : ℕ) (payloads : List (List ℕ)) (args : PatternArgs) (r : Row) → fits op payloads args r ≡ true → HasOutline r op payloads args
fits-outline op payloads args r e =
    let k = and_parts (term_eq (node r.shape.op r.shape.payloads stop) (node op payloads stop)) (has_outline args r.shape.args) e in
    let t : node r.shape.op r.shape.payloads stop ≡ node op payloads stop = term_eq-true (node r.shape.op r.shape.payloads stop) (node op payloads stop) k.0 in
    record { operator = ap (λ (d : DTerm). d.op) t; payloads_same = ap (λ (d : DTerm). d.payloads) t; places = k.1 }

outline-fits : (op : ℕ) (payloads : List (List ℕ)) (args : PatternArgs) (r : Row) → HasOutline r op payloads args → fits op payloads args r ≡ true
outline-fits op payloads args r h =
    and_from (term_eq (node r.shape.op r.shape.payloads stop) (node op payloads stop)) (has_outline args r.shape.args)
    (term_eq-same (node r.shape.op r.shape.payloads stop) (node op payloads stop) (λ i. node (h.operator i) (h.payloads_same i) stop)) h.places

-- what the machine answers, step by step
answers-end : (classes : List ClassRows) (m : MachineState) → answers_of classes [] m ≡ record { pairs = m.pairs; values = m.values } ∷ []
unfolding answers_of
answers-end classes m = refl

answers-variable : (classes : List ClassRows) (k : ℕ) (from : Source) (steps : List Step) (m : MachineState) →
    answers_of classes (Variable k from ∷ steps) m ≡ if_there (answers_of classes steps) (with_variable m k (occurrence_at m from))
unfolding answers_of
answers-variable classes k from steps m = refl

answers-node : (classes : List ClassRows) (outline : ℕ) (slots : Vec ℕ Global) (from : Source) (steps : List Step) (m : MachineState) →
    answers_of classes (Node outline slots from ∷ steps) m ≡
    flat_map (λ (r : IndexRow). cond (nat_eq r.outline outline) (if_there (answers_of classes steps) (after_row m (occurrence_at m from).names r slots.items)) []) (rows_in classes (occurrence_at m from).class)
unfolding answers_of
answers-node classes outline slots from steps m = refl

numbers-differ : (xs ys : List ℕ) → xs ≢ ys → numbers_eq xs ys ≡ false
numbers-differ xs ys n = go (numbers_eq xs ys) refl
  where
    go : (c : Bool) → numbers_eq xs ys ≡ c → numbers_eq xs ys ≡ false
    go true e = absurd (n (numbers_eq-true xs ys e))
    go false e = e

module _ (g : State) (rest : AtRest g) (order : List Row) (index : RowIndex) (is : IsIndexOf g order index) (f : ℕ → ℕ) (inj : IsInjective f) (variables : List (List ℕ)) where
  abbrev classes : List ClassRows
  classes = index.classes.items

  -- the matcher finds all goals, and the answers of the machine are its states
  abbrev pub Answers : List (Pattern × Applied) → MatchState → List Answer → Type 0
  Answers goals st answers = (outs : List MatchState) × FoundAll g order goals st outs × OneByOne (IsReadAs g f variables) outs answers

  -- nothing is left to find
  none-left : (m : MachineState) (st : MatchState) → IsStateOf g f variables m st → Answers [] st (answers_of classes [] m)
  none-left m st s = (
    st ∷ [],
    refl,
    subst (OneByOne (IsReadAs g f variables) (st ∷ [])) (sym (answers-end classes m))
        (record { pairs = s.pairs; count = s.count; whole = whole; values = value; no_others = s.no_others }, tt),
  )
    where
      value : (k : ℕ) → k < length variables → value_at st.values (slice_index_or variables k []) ≡ Some (read_id g f (slice_index_or m.values k no_occurrence))
      value k h = let v = s.values k h in v.1 ∙ ap Some (is-read g rest f v.0 (slice_index_or m.values k no_occurrence) v.2)

      whole : (o : Occurrence) → Contains m.values o → IsWholeId g o
      whole o c =
          let v = s.values c.0 (subst (λ n. c.0 < n) s.count c.1) in
          let same : slice_index_or m.values c.0 no_occurrence ≡ o = get_or_default m.values c.0 no_occurrence o c.1 ∙ c.2 in
          is-whole g rest f v.0 o (subst (IsOccurrenceOf g f v.0) same v.2)

  -- a variable that was seen before
  compared : (m : MachineState) (st : MatchState) (seen : List (List ℕ)) (k : ℕ) (from : Source) (steps : List Step) (a : Applied) (goals : List (Pattern × Applied)) → k < length seen → IsStateOf g f seen m st →
      IsOccurrenceOf g f a (occurrence_at m from) → Answers goals st (answers_of classes steps m) → Answers ((variable (slice_index_or seen k []), a) ∷ goals) st (answers_of classes (Variable k from ∷ steps) m)
  compared m st seen k from steps a goals h s o next = go (same_occurrence (slice_index_or m.values k no_occurrence) (occurrence_at m from)) refl
    where
      v : List ℕ
      v = slice_index_or seen k []

      b : Applied
      b = (s.values k h).0

      old : Occurrence
      old = slice_index_or m.values k no_occurrence

      below : nat_lt k (length m.values) ≡ true
      below = lt-ltb k (length m.values) (subst (λ n. k < n) (sym s.count) h)

      step : (c : Bool) → same_occurrence old (occurrence_at m from) ≡ c → answers_of classes (Variable k from ∷ steps) m ≡ if_there (answers_of classes steps) (cond c (Some m) None)
      step c e =
          answers-variable classes k from steps m
          ∙ ((λ i. if_there (answers_of classes steps) (cond (below i) (cond (same_occurrence old (occurrence_at m from)) (Some m) None) (Some (record m { values = m.values ++ occurrence_at m from ∷ [] }))))
          ∙ (λ i. if_there (answers_of classes steps) (cond (e i) (Some m) None)))

      go : (c : Bool) → same_occurrence old (occurrence_at m from) ≡ c → Answers ((variable v, a) ∷ goals) st (answers_of classes (Variable k from ∷ steps) m)
      go true e =
          let q : b ≡ a = same-ids g rest f inj b a old (occurrence_at m from) (s.values k h).2 o e in (
            next.0,
            (same-value g order v a b goals st next.0 (s.values k h).1 (ap (find g.found) q)).1 next.1,
            subst (OneByOne (IsReadAs g f variables) next.0) (sym (step true e)) next.2,
          )
      go false e =
          let n : b ≢ a = other-ids g rest f inj b a old (occurrence_at m from) (s.values k h).2 o e in
          let d : find g.found b ≢ find g.found a = λ q. n (sym (s.values k h).2.found ∙ (q ∙ o.found)) in (
            [],
            (other-value g order v a b goals st [] (s.values k h).1 d).1 refl,
            subst (OneByOne (IsReadAs g f variables) []) (sym (step false e)) tt,
          )

  -- a new one
  taken : (m : MachineState) (st : MatchState) (seen : List (List ℕ)) (v : List ℕ) (from : Source) (steps : List Step) (a : Applied) (goals : List (Pattern × Applied)) → ¬ Contains seen v → IsStateOf g f seen m st →
      Answers goals (record st { values = (v, a) ∷ st.values }) (answers_of classes steps (record m { values = m.values ++ occurrence_at m from ∷ [] })) →
      Answers ((variable v, a) ∷ goals) st (answers_of classes (Variable (length seen) from ∷ steps) m)
  taken m st seen v from steps a goals new s next = (
    next.0,
    (new-value g order v a goals st next.0 (none (value_at st.values v) refl)).1 next.1,
    subst (OneByOne (IsReadAs g f variables) next.0) (sym step) next.2,
  )
    where
      none : (o : Option Applied) → value_at st.values v ≡ o → value_at st.values v ≡ None
      none None e = e
      none (Some b) e = absurd (new (s.no_others v b e))

      past : nat_lt (length seen) (length m.values) ≡ false
      past = le-ltb (length seen) (length m.values) (let e : length m.values ≡ length seen = s.count in omega arith)

      step : answers_of classes (Variable (length seen) from ∷ steps) m ≡ answers_of classes steps (record m { values = m.values ++ occurrence_at m from ∷ [] })
      step =
          answers-variable classes (length seen) from steps m
          ∙ (λ i. if_there (answers_of classes steps) (cond (past i)
          (cond (same_occurrence (slice_index_or m.values (length seen) no_occurrence) (occurrence_at m from)) (Some m) None) (Some (record m { values = m.values ++ occurrence_at m from ∷ [] }))))

  -- and the state after it
  taken-state : (m : MachineState) (st : MatchState) (seen : List (List ℕ)) (v : List ℕ) (a : Applied) (o : Occurrence) → ¬ Contains seen v → IsStateOf g f seen m st → IsOccurrenceOf g f a o →
      IsStateOf g f (seen ++ v ∷ []) (record m { values = m.values ++ o ∷ [] }) (record st { values = (v, a) ∷ st.values })
  taken-state m st seen v a o new s is_o = record {
    pairs = s.pairs;
    seen = s.seen;
    count = length_push m.values o ∙ (ap (λ n. n + 1) s.count ∙ sym (length_push seen v));
    values = λ k h. value k (old-or-last k (subst (λ n. k < n) (length_push seen v) h));
    no_others = others;
  }
    where
      old-or-last : (k : ℕ) → k < length seen + 1 → (k < length seen) ⊎ (k ≡ length seen)
      old-or-last k h = elim (cases_eq k (length seen)) [
        | inl e ↦ inr e
        | inr n ↦ inl (omega arith)
      ]

      value : (k : ℕ) → (k < length seen) ⊎ (k ≡ length seen) →
          (b : Applied) × (value_at ((v, a) ∷ st.values) (slice_index_or (seen ++ v ∷ []) k []) ≡ Some b) × IsOccurrenceOf g f b (slice_index_or (m.values ++ o ∷ []) k no_occurrence)
      value k (inl h) =
          let w = s.values k h in
          let u : List ℕ = slice_index_or seen k [] in
          let same : slice_index_or (seen ++ v ∷ []) k [] ≡ u = get_or-append seen (v ∷ []) [] k h in
          let other : numbers_eq v u ≡ false = numbers-differ v u (λ e. new (subst (Contains seen) (sym e) (Contains-get_or seen k [] h))) in
          let there : slice_index_or (m.values ++ o ∷ []) k no_occurrence ≡ slice_index_or m.values k no_occurrence =
          get_or-append m.values (o ∷ []) no_occurrence k (subst (λ n. k < n) (sym s.count) h) in (
            w.0,
            ap (value_at ((v, a) ∷ st.values)) same ∙ (ap (λ c. cond c (Some a) (value_at st.values u)) other ∙ w.1),
            subst (IsOccurrenceOf g f w.0) (sym there) w.2,
          )
      value k (inr e) =
          let same : slice_index_or (seen ++ v ∷ []) k [] ≡ v = ap (λ j. slice_index_or (seen ++ v ∷ []) j []) e ∙ get_or-append_seam seen v [] [] in
          let there : slice_index_or (m.values ++ o ∷ []) k no_occurrence ≡ o =
          ap (λ j. slice_index_or (m.values ++ o ∷ []) j no_occurrence) (e ∙ sym s.count) ∙ get_or-append_seam m.values o [] no_occurrence in (
            a,
            ap (value_at ((v, a) ∷ st.values)) same ∙ ap (λ c. cond c (Some a) (value_at st.values v)) (numbers_eq-same v),
            subst (IsOccurrenceOf g f a) (sym there) is_o,
          )

      others : (u : List ℕ) (b : Applied) → value_at ((v, a) ∷ st.values) u ≡ Some b → Contains (seen ++ v ∷ []) u
      others u b e = go (numbers_eq v u) refl
        where
          go : (c : Bool) → numbers_eq v u ≡ c → Contains (seen ++ v ∷ []) u
          go true q = Contains-In (seen ++ v ∷ []) u (In-right u seen (v ∷ []) (inl (sym (numbers_eq-true v u q))))
          go false q = Contains-In (seen ++ v ∷ []) u (In-left u seen (v ∷ []) (In-Contains seen u (s.no_others u b (ap (λ c. cond c (Some a) (value_at st.values u)) (sym q) ∙ e))))

  -- a row that is entered
  row-entered : (m : MachineState) (st : MatchState) (seen : List (List ℕ)) (op : ℕ) (payloads : List (List ℕ)) (args : PatternArgs) (slots : List ℕ) (a : Applied) (o : Occurrence) (steps : List Step)
      (qs : List (Pattern × Source)) (goals : List (Pattern × Applied)) (r : Row) (row : IndexRow) →
      IsStateOf g f seen m st → (v : Visit g f r row a o m.count st.seen) → HasOutline r op payloads args → slots ≡ own_slots args → OneByOne (IsAt g f m.registers m.count) qs goals →
      ((next : MachineState) (then : MatchState) (more : List (Pattern × Applied)) → length next.registers ≡ suc (length m.registers) → IsStateOf g f seen next then →
      OneByOne (IsAt g f next.registers next.count) (placed (length m.registers) 0 (child_patterns args) ++ qs) more → Answers more then (answers_of classes steps next)) →
      (here : List MatchState) × AtRow g op payloads args st a (λ n s outs. FoundAll g order (goals_of args n ++ goals) s outs) r here × OneByOne (IsReadAs g f variables) here (if_there (answers_of classes steps) (after_row m o.names row slots))
  row-entered m st seen op payloads args slots a o steps qs goals r row s v has same at next = go (paired_all m.pairs (named N row.owns.items) slots) refl
    where
      N : List ℕ
      N = visited.names g f r row a o m.count st.seen v

      n : NodeArgs
      n = visited.node g f r row a o m.count st.seen v

      fitting : IsRowFor g r op payloads a
      fitting = record { class = v.class ∙ (sym v.occurrence.class ∙ sym (ap (λ (b : Applied). b.0) v.occurrence.found)); operator = has.operator; payloads_same = has.payloads_same }

      agree : outlines_agree args n ≡ true
      agree = visited.node-outline g f r row a o m.count st.seen v args ∙ has.places

      own : own_names n ≡ map f (named N row.owns.items)
      own =
          own-with (visited.name g f r row a o m.count st.seen v) v.is_row.node
          ∙ (sym (map-map f (slice_index N) (own_names v.is_row.node)) ∙ ap (λ xs. map f (named N xs)) (sym v.is_row.owns))

      walk : walked args n st.pairs ≡ option_map (read_pairs f) (paired_all m.pairs (named N row.owns.items) slots)
      walk =
          walk-paired args n st.pairs agree
          ∙ ((λ i. paired_all (s.pairs i) (own i) (sym same i)) ∙ all-read f inj (named N row.owns.items) slots m.pairs)

      go : (q : Option (List (ℕ × ℕ))) → paired_all m.pairs (named N row.owns.items) slots ≡ q →
          (here : List MatchState) × AtRow g op payloads args st a (λ k t outs. FoundAll g order (goals_of args k ++ goals) t outs) r here × OneByOne (IsReadAs g f variables) here (if_there (answers_of classes steps) (after_row m o.names row slots))
      go None e = (
        [],
        inr (
          n,
          fitting,
          visited.node-visited g f r row a o m.count st.seen v,
          subst (λ w. IfThere w (λ pairs. FoundAll g order (goals_of args n ++ goals) (after_walk st n pairs) []) (◌≡◌ {A = List MatchState} [] [])) (sym (walk ∙ ap (option_map (read_pairs f)) e)) refl,
        ),
        subst (λ w. OneByOne (IsReadAs g f variables) [] (if_there (answers_of classes steps) (option_map (entered m N row) w))) (sym e) tt,
      )
      go (Some pairs) e =
          let new : MachineState = entered m N row pairs in
          let then : MatchState = after_walk st n (read_pairs f pairs) in
          let later : IsStateOf g f seen new then = record {
            pairs = refl;
            seen = λ z i. seen-then z (In-append z (written_names n) st.seen i);
            count = s.count;
            values = s.values;
            no_others = s.no_others;
          } in
          let places : OneByOne (IsAt g f new.registers new.count) (placed (length m.registers) 0 (child_patterns args) ++ qs) (goals_of args n ++ goals) =
          one_by_one-append (IsAt g f new.registers new.count) (placed (length m.registers) 0 (child_patterns args)) qs (goals_of args n) goals
          (placed-last g f m.registers (map (child_occurrence N) row.children.items) new.count (length m.registers) refl args n agree (children-at g f r row a o m.count st.seen v))
          (goals-later g f m.registers (map (child_occurrence N) row.children.items) m.count new.count (omega arith) qs goals at) in
          let more : length new.registers ≡ suc (length m.registers) = length_push m.registers (map (child_occurrence N) row.children.items) ∙ omega arith in
          let found : Answers (goals_of args n ++ goals) then (answers_of classes steps new) = next new then (goals_of args n ++ goals) more later places in (
            found.0,
            inr (
              n,
              fitting,
              visited.node-visited g f r row a o m.count st.seen v,
              subst (λ w. IfThere w (λ ps. FoundAll g order (goals_of args n ++ goals) (after_walk st n ps) found.0) (found.0 ≡ [])) (sym (walk ∙ ap (option_map (read_pairs f)) e)) found.1,
            ),
            subst (λ w. OneByOne (IsReadAs g f variables) found.0 (if_there (answers_of classes steps) (option_map (entered m N row) w))) (sym e) found.2,
          )
        where
          seen-then : (z : ℕ) → In z (written_names n) ⊎ In z st.seen → (i : ℕ) × (i < m.count + new_names row.slots.items) × (z ≡ f i)
          seen-then z (inl i) = visited.written-below g f r row a o m.count st.seen v z i
          seen-then z (inr i) = let k = s.seen z i in let l : k.0 < m.count = k.1 in (k.0, omega arith, k.2)

  -- all rows of a class
  node-answers : (m : MachineState) (st : MatchState) (seen : List (List ℕ)) (outline op : ℕ) (payloads : List (List ℕ)) (args : PatternArgs) (slots : Vec ℕ Global) (from : Source) (steps : List Step) (a : Applied)
      (qs : List (Pattern × Source)) (goals : List (Pattern × Applied)) → IsStateOf g f seen m st → IsAt g f m.registers m.count (pattern_node op payloads args, from) (pattern_node op payloads args, a) →
      IsOutlineIn g order index outline op payloads args → slots.items ≡ own_slots args → OneByOne (IsAt g f m.registers m.count) qs goals →
      ((next : MachineState) (then : MatchState) (more : List (Pattern × Applied)) → length next.registers ≡ suc (length m.registers) → IsStateOf g f seen next then →
      OneByOne (IsAt g f next.registers next.count) (placed (length m.registers) 0 (child_patterns args) ++ qs) more → Answers more then (answers_of classes steps next)) →
      Answers ((pattern_node op payloads args, a) ∷ goals) st (answers_of classes (Node outline slots from ∷ steps) m)
  node-answers m st seen outline op payloads args slots from steps a qs goals s at is_outline same others next = (
    all.0,
    (passed-over g rest order filed op payloads args a at.occurrence.valid keep passed goals st all.0).1
        (subst (λ l. Gives (AtRow g op payloads args st a goes) l all.0) (sym (filter-twice (λ r. nat_eq (row_class g r) o.class) (fits op payloads args) order)) all.1),
    subst (OneByOne (IsReadAs g f variables) all.0) (sym (answers-node classes outline slots from steps m)) all.2,
  )
    where
      o : Occurrence
      o = occurrence_at m from

      goes : NodeArgs → MatchState → List MatchState → Type 0
      goes n then outs = FoundAll g order (goals_of args n ++ goals) then outs

      answer : IndexRow → List Answer
      answer row = if_there (answers_of classes steps) (after_row m o.names row slots.items)

      filed : (r : Row) → Contains order r → Contains g.rows r
      filed r c = (is.rows r).1 c

      keep : Row → Bool
      keep r = nat_eq (row_class g r) o.class && fits op payloads args r

      found : find_class g.found a.0 ≡ o.class
      found = ap (λ (b : Applied). b.0) at.occurrence.found ∙ at.occurrence.class

      passed : (r : Row) → Contains order r → keep r ≡ false → (¬ IsRowFor g r op payloads a) ⊎ (has_outline args r.shape.args ≡ false)
      passed r c e = go (nat_eq (row_class g r) o.class) (has_outline args r.shape.args) refl refl
        where
          go : (b d : Bool) → nat_eq (row_class g r) o.class ≡ b → has_outline args r.shape.args ≡ d → (¬ IsRowFor g r op payloads a) ⊎ (has_outline args r.shape.args ≡ false)
          go b false q w = inr w
          go false true q w = inl (λ h. false≢true (sym q ∙ eq-eqb (row_class g r) o.class (h.class ∙ found)))
          go true true q w = inl (λ h.
              let fit : fits op payloads args r ≡ true = outline-fits op payloads args r (record { operator = h.operator; payloads_same = h.payloads_same; places = w }) in
              false≢true (sym e ∙ (λ i. q i && fit i)))

      rows : List Row
      rows = rows_of_class g order o.class

      Fits : Row → IndexRow → Type 0
      Fits r row = IsIndexRow g r row × ((row.outline ≡ outline) ↔ HasOutline r op payloads args)

      beside : OneByOne Fits rows (rows_in classes o.class)
      beside =
          let h : o.class < length g.nodes = class-in_range g rest f a o at.occurrence in
          let l : IsLive g.found o.class = class-lives g rest f a o at.occurrence in
          one_by_one-both (IsIndexRow g) (λ r (row : IndexRow). (row.outline ≡ outline) ↔ HasOutline r op payloads args) rows (rows_in classes o.class) (is.class_rows o.class h l) (is_outline o.class h l)

      kept : (r : Row) (row : IndexRow) → In r rows → Fits r row → fits op payloads args r ≡ true →
          (here : List MatchState) × AtRow g op payloads args st a goes r here × OneByOne (IsReadAs g f variables) here (cond (nat_eq row.outline outline) (answer row) [])
      kept r row i e fit =
          let member = In-filter (λ q. nat_eq (row_class g q) o.class) order r i in
          let has : HasOutline r op payloads args = fits-outline op payloads args r fit in
          let v : Visit g f r row a o m.count st.seen = record {
            rest = rest;
            injective = inj;
            filed = filed r (Contains-In order r member.0);
            is_row = e.0;
            occurrence = at.occurrence;
            class = eqb-true (row_class g r) o.class member.1;
            below = at.below;
            seen_below = s.seen;
          } in
          let k = row-entered m st seen op payloads args slots.items a o steps qs goals r row s v has same others next in (
            k.0,
            k.1,
            subst (λ c. OneByOne (IsReadAs g f variables) k.0 (cond c (answer row) [])) (sym (eq-eqb row.outline outline (e.1.1 has))) k.2,
          )

      left : (r : Row) (row : IndexRow) → In r rows → Fits r row → fits op payloads args r ≡ false → cond (nat_eq row.outline outline) (answer row) [] ≡ []
      left r row i e fit = ap (λ c. cond c (answer row) []) (ne_eqb row.outline outline (λ p. false≢true (sym fit ∙ outline-fits op payloads args r (e.1.0 p))))

      all : (outs : List MatchState) × Gives (AtRow g op payloads args st a goes) (filter (fits op payloads args) rows) outs
          × OneByOne (IsReadAs g f variables) outs (flat_map (λ (row : IndexRow). cond (nat_eq row.outline outline) (answer row) []) (rows_in classes o.class))
      all = gives-beside (AtRow g op payloads args st a goes) (IsReadAs g f variables) Fits (fits op payloads args) (λ (row : IndexRow). cond (nat_eq row.outline outline) (answer row) []) rows (rows_in classes o.class) beside kept left

  -- so from each state that stands beside one of the matcher's
  pub answers-found : {next : ℕ} {seen : List (List ℕ)} {steps : List Step} {qs : List (Pattern × Source)} → IsProgramFor (IsOutlineIn g order index) variables next seen steps qs →
      (m : MachineState) (st : MatchState) (goals : List (Pattern × Applied)) → length m.registers ≡ next → IsStateOf g f seen m st → OneByOne (IsAt g f m.registers m.count) qs goals → Answers goals st (answers_of classes steps m)
  answers-found ends m st [] e s o = none-left m st s
  answers-found ends m st (p ∷ goals) e s o = absurd o
  answers-found (compares h is_v program) m st [] e s o = absurd o
  answers-found (compares {k = k} {seen = seen} {v = v} {from = from} {steps = steps} h is_v program) m st ((p, a) ∷ goals) e s o =
      let q : variable (slice_index_or seen k []) ≡ p = ap variable is_v ∙ o.0.pattern in
      subst (λ u. Answers ((u, a) ∷ goals) st (answers_of classes (Variable k from ∷ steps) m)) q
      (compared m st seen k from steps a goals h s o.0.occurrence (answers-found program m st goals e s o.1))
  answers-found (takes at new program) m st [] e s o = absurd o
  answers-found (takes {k = k} {seen = seen} {v = v} {from = from} {steps = steps} at new program) m st ((p, a) ∷ goals) e s o =
      let after : MachineState = record m { values = m.values ++ occurrence_at m from ∷ [] } in
      let then : MatchState = record st { values = (v, a) ∷ st.values } in
      subst (λ u. Answers ((u, a) ∷ goals) st (answers_of classes (Variable k from ∷ steps) m)) o.0.pattern
      (subst (λ n. Answers ((variable v, a) ∷ goals) st (answers_of classes (Variable n from ∷ steps) m)) (sym at)
      (taken m st seen v from steps a goals new s (answers-found program after then goals e (taken-state m st seen v a (occurrence_at m from) new s o.0.occurrence) o.1)))
  answers-found (enters outline same program) m st [] e s o = absurd o
  answers-found (enters {next = next} {outline = n} {op = op} {payloads = payloads} {args = args} {slots = slots} {seen = seen} {from = from} {steps = steps} {goals = qs} outline same program) m st ((p, a) ∷ goals) e s o =
      subst (λ u. Answers ((u, a) ∷ goals) st (answers_of classes (Node n slots from ∷ steps) m)) o.0.pattern
      (node-answers m st seen n op payloads args slots from steps a qs goals s (record { pattern = refl; register = o.0.register; occurrence = o.0.occurrence; below = o.0.below }) outline same o.1
      (λ new then more count after places.
      answers-found program new then more (count ∙ ap suc e) after (subst (λ j. OneByOne (IsAt g f new.registers new.count) (placed j 0 (child_patterns args) ++ qs) more) e places)))
