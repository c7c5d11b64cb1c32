-- Programs of patterns in an index: outlines by places are outlines in the index, and pairs have slots of the steps.
use Rattle.std.proofs.Common.{ℕ, List, [], ◌∷◌, ◌++◌, length, Option, Some, None, Bool, true, false, sym, refl, subst, inl, inr, Vec}
use Rattle.std.specs.Prelude.{cond, nat_eq, nat_lt, option_map, option_and_then, slice_index_or}
use Rattle.std.specs.declared.alloc.Global.{Global}
use Rattle.slotted_lists.proofs.Members.{In, In-Contains, Contains-In}
use Rattle.slotted_theory.specs.FiniteMaps.{value_of}
use Rattle.slotted_nodes.specs.Form.{Form}
use Rattle.slotted_model.specs.Applied.{values}
use Rattle.slotted_model.specs.Correspondence.{has_slot}
use Rattle.slotted_model_rules.specs.Goals.{paired_all}
use Rattle.slotted_model_rules.specs.Matcher.{paired, paired_with}
use Rattle.slotted_model_rules.specs.Patterns.{Pattern, PatternArgs}
use Rattle.slotted_classes.specs.Kept.{Kept}
use Rattle.slotted_hashcons.specs.FiledRows.{Rows}
use Rattle.slotted_hashcons.specs.WellFiled.{state_in}
use Rattle.slotted_match_machine.specs.declared.index.ClassRows.{ClassRows}
use Rattle.slotted_match_machine.specs.declared.index.IndexRow.{IndexRow}
use Rattle.slotted_match_machine.specs.declared.index.RowIndex.{RowIndex}
use Rattle.slotted_match_machine.specs.declared.program.Source.{Source}
use Rattle.slotted_match_machine.specs.declared.program.Step.{Step}
use Rattle.slotted_match_machine.specs.declared.program.Step.TheVariants.{Node, Variable}
use Rattle.slotted_match_machine.specs.Index.{IsOutlineIn}
use Rattle.slotted_match_machine.specs.Machine.{MachineState, Answer, no_occurrence, same_occurrence, occurrence_at, names_for, named, entered, after_row, rows_in, if_there, answers_of, answers_at, all_answers, started}
use Rattle.slotted_match_machine.specs.Programs.{IsProgram, IsProgramFor, ends, compares, takes, enters}
use Rattle.slotted_match_machine.proofs.Lists.{In-of_flat_map}
use Rattle.slotted_matching.specs.Answered.{PairSlotsIn}
use Rattle.slotted_matching.specs.Compiled.{Goal, HoldsSlots, IsPlaceOutline}
use Rattle.slotted_matching.specs.Indexed.{IsIndexed}
use Rattle.slotted_matching.proofs.IndexOutlines.{outline-over}

-- a program by one kind of outline is one by each kind that follows
module _ (P Q : ℕ → ℕ → List (List ℕ) → PatternArgs → Type 0) (h : (n op : ℕ) (payloads : List (List ℕ)) (args : PatternArgs) → P n op payloads args → Q n op payloads args) (variables : List (List ℕ)) where
  program-by : (next : ℕ) (seen : List (List ℕ)) (steps : List Step) (goals : List Goal) → IsProgramFor P variables next seen steps goals → IsProgramFor Q variables next seen steps goals
  program-by next seen steps goals ends = ends
  program-by next seen steps goals (compares l is rest) = compares l is (program-by _ _ _ _ rest)
  program-by next seen steps goals (takes l new rest) = takes l new (program-by _ _ _ _ rest)
  program-by next seen steps goals (enters outline slots rest) = enters (h _ _ _ _ outline) slots (program-by _ _ _ _ rest)

module _ (k : Kept) (r : Rows) (S : List Form) (x : RowIndex) (is : IsIndexed k r S x) where
  pub program-in : (variables : List (List ℕ)) (p : Pattern) (steps : List Step) → IsProgram (IsPlaceOutline S) variables p steps → IsProgram (IsOutlineIn (state_in k r) is.order x) variables p steps
  program-in variables p steps program =
      program-by (IsPlaceOutline S) (IsOutlineIn (state_in k r) is.order x)
      (λ n op payloads args o. outline-over k r S x is o.0 o.1 op payloads args o.2 n o.3)
      variables 1 [] steps _ program

-- slots in pairs are among these
module _ (all : List ℕ) where
  Among : List ℕ → Type 0
  Among xs = (y : ℕ) → In y xs → In y all

  IfPairs : Option (List (ℕ × ℕ)) → Type 0
  IfPairs None = Unit {0}
  IfPairs (Some pairs) = Among (values pairs)

  with-pair : (pairs : List (ℕ × ℕ)) (s t : ℕ) → Among (values pairs) → In t all → Among (values ((s, t) ∷ pairs))
  unfolding Among
  with-pair pairs s t h i y (inl e) = subst (λ z. In z all) (sym e) i
  with-pair pairs s t h i y (inr j) = h y j

  pair-among : (pairs : List (ℕ × ℕ)) (s t : ℕ) → Among (values pairs) → In t all → (o : Option ℕ) → IfPairs (paired_with o pairs s t)
  unfolding Among IfPairs
  pair-among pairs s t h i (Some u) = go (nat_eq u t)
    where
      go : (b : Bool) → IfPairs (cond b (Some pairs) None)
      go true = h
      go false = tt
  pair-among pairs s t h i None = go (has_slot (values pairs) t)
    where
      go : (b : Bool) → IfPairs (cond b None (Some ((s, t) ∷ pairs)))
      go true = tt
      go false = with-pair pairs s t h i

  then-among : (f : List (ℕ × ℕ) → Option (List (ℕ × ℕ))) (o : Option (List (ℕ × ℕ))) → IfPairs o → ((pairs : List (ℕ × ℕ)) → Among (values pairs) → IfPairs (f pairs)) → IfPairs (option_and_then f o)
  unfolding IfPairs
  then-among f None h k = tt
  then-among f (Some pairs) h k = k pairs h

  pairs-among : (pairs : List (ℕ × ℕ)) (names slots : List ℕ) → Among (values pairs) → Among slots → IfPairs (paired_all pairs names slots)
  unfolding Among IfPairs
  pairs-among pairs [] [] h i = h
  pairs-among pairs [] (t ∷ slots) h i = tt
  pairs-among pairs (s ∷ names) [] h i = tt
  pairs-among pairs (s ∷ names) (t ∷ slots) h i =
      then-among (λ more. paired_all more names slots) (paired pairs s t) (pair-among pairs s t h (i t (inl refl)) (value_of pairs s)) (λ more k. pairs-among more names slots k (λ y j. i y (inr j)))

  -- of each node in the steps
  HaveAmong : List Step → Type 0
  HaveAmong steps = (outline : ℕ) (owns : Vec ℕ Global) (from : Source) → In (Node outline owns from) steps → Among owns.items

  module _ (classes : List ClassRows) where
    answers-among : (steps : List Step) → HaveAmong steps → (m : MachineState) → Among (values m.pairs) → (x : Answer) → In x (answers_of classes steps m) → Among (values x.pairs)
    unfolding answers_of Among IfPairs HaveAmong
    answers-among [] have m h x (inl e) = subst (λ (y : Answer). Among (values y.pairs)) (sym e) h
    answers-among [] have m h x (inr i) = absurd i
    answers-among (Variable v from ∷ steps) have m h x i =
        go (answers-among steps (λ o owns at j. have o owns at (inr j))) (nat_lt v (length m.values)) (same_occurrence (slice_index_or m.values v no_occurrence) (occurrence_at m from)) i
      where
        go : ((n : MachineState) → Among (values n.pairs) → (y : Answer) → In y (answers_of classes steps n) → Among (values y.pairs)) → (b c : Bool) →
            In x (if_there (answers_of classes steps) (cond b (cond c (Some m) None) (Some (record m { values = m.values ++ occurrence_at m from ∷ [] })))) → Among (values x.pairs)
        go rest true true j = rest m h x j
        go rest true false j = absurd j
        go rest false c j = rest (record m { values = m.values ++ occurrence_at m from ∷ [] }) h x j
    answers-among (Node outline slots from ∷ steps) have m h x i =
        let names : List ℕ = (occurrence_at m from).names in
        let answer : IndexRow → List Answer = λ (r : IndexRow). cond (nat_eq r.outline outline) (if_there (answers_of classes steps) (after_row m names r slots.items)) [] in
        let r : (row : IndexRow) × In row (rows_in classes (occurrence_at m from).class) × In x (answer row) = In-of_flat_map answer (rows_in classes (occurrence_at m from).class) x i in
        let N : List ℕ = names_for names r.0.slots.items m.count in
        go (answers-among steps (λ o owns at j. have o owns at (inr j))) r.0 N (nat_eq r.0.outline outline) (paired_all m.pairs (named N r.0.owns.items) slots.items)
        (pairs-among m.pairs (named N r.0.owns.items) slots.items h (have outline slots from (inl refl))) r.2
      where
        go : ((n : MachineState) → Among (values n.pairs) → (y : Answer) → In y (answers_of classes steps n) → Among (values y.pairs)) → (row : IndexRow) (N : List ℕ) (b : Bool) (o : Option (List (ℕ × ℕ))) → IfPairs o →
            In x (cond b (if_there (answers_of classes steps) (option_map (entered m N row) o)) []) → Among (values x.pairs)
        go rest row N true (Some pairs) k j = rest (entered m N row pairs) k x j
        go rest row N true None k j = absurd j
        go rest row N false o k j = absurd j

  pub slots-among : (index : RowIndex) (steps : List Step) → HoldsSlots steps all → PairSlotsIn all (all_answers index steps)
  unfolding Among HaveAmong
  slots-among index steps holds x c y d =
      let k = In-of_flat_map (answers_at index.classes.items steps) index.live.items x (In-Contains (all_answers index steps) x c) in
      Contains-In all y (answers-among index.classes.items steps
      (λ o owns from i z j. In-Contains all z (holds o owns from (Contains-In steps (Node o owns from) i) z (Contains-In owns.items z j)))
      (started index.classes.items k.0) (λ z j. absurd j) x k.2 y (In-Contains (values x.pairs) y d))
