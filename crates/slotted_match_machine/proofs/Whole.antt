-- An answer is whole: it has an id for each variable, and pairs numbers with slots one to one.
use Rattle.std.proofs.Common.{◌≡◌, ℕ, List, [], ◌∷◌, ◌++◌, length, Option, Some, None, Bool, true, false, sym, ◌∙◌, refl, subst, inl, inr}
use Rattle.std.specs.Prelude.{cond, nat_eq, nat_lt, option_map, option_and_then, slice_index_or}
use Rattle.std.proofs.lemmas.Bool.{false≢true}
use Rattle.slotted_lists.proofs.Members.{In, In-Contains, Contains-In}
use Rattle.slotted_theory.specs.FiniteMaps.{value_of}
use Rattle.slotted_model.specs.Applied.{keys, values}
use Rattle.slotted_model.specs.Correspondence.{AllDifferent, has_slot}
use Rattle.slotted_model.specs.State.{Row, State}
use Rattle.slotted_model.specs.Rest.{AtRest}
use Rattle.slotted_model.proofs.Correspondences.Pairs.{Contains-of_key, value_of-found}
use Rattle.slotted_model.proofs.Data.Options.{None-Some}
use Rattle.slotted_model.proofs.Complete.Spreading.{in-has_slot}
use Rattle.slotted_model_rules.specs.Matcher.{paired_with, paired}
use Rattle.slotted_model_rules.specs.Goals.{paired_all}
use Rattle.slotted_model_rules.specs.Patterns.{Pattern}
use Rattle.slotted_match_machine.specs.declared.index.ClassRows.{ClassRows}
use Rattle.slotted_match_machine.specs.declared.index.IndexRow.{IndexRow}
use Rattle.slotted_match_machine.specs.declared.index.RowIndex.{RowIndex}
use Rattle.slotted_match_machine.specs.declared.program.Step.{Step}
use Rattle.slotted_match_machine.specs.declared.program.Step.TheVariants.{Node, Variable}
use Rattle.slotted_match_machine.specs.Index.{IsIndexOf, IsOutlineIn}
use Rattle.slotted_match_machine.specs.Machine.{MachineState, Answer, no_occurrence, same_occurrence, occurrence_at, names_for, named, entered, after_row, rows_in, if_there, answers_of, answers_at, all_answers}
use Rattle.slotted_match_machine.specs.Programs.{IsProgram}
use Rattle.slotted_match_machine.specs.Readings.{IsReadAs, IsWholeAnswer}
use Rattle.slotted_match_machine.proofs.Lists.{beside-right, In-of_flat_map}
use Rattle.slotted_match_machine.proofs.Starting.{class-answers}

-- no two of the pairs have one number or one slot
abbrev pub AreOneToOne : List (ℕ × ℕ) → Type 0
AreOneToOne pairs = AllDifferent (keys pairs) × AllDifferent (values pairs)

-- P holds of what there is
abbrev IfSome : {A : Type 0} → (A → Type 0) → Option A → Type 0
IfSome P None = Unit {0}
IfSome P (Some x) = P x

pair-more : (pairs : List (ℕ × ℕ)) (s t : ℕ) → AreOneToOne pairs → (o : Option ℕ) → value_of pairs s ≡ o → IfSome AreOneToOne (paired_with o pairs s t)
pair-more pairs s t one (Some u) e = go (nat_eq u t)
  where
    go : (b : Bool) → IfSome AreOneToOne (cond b (Some pairs) None)
    go true = one
    go false = tt
pair-more pairs s t one None e = go (has_slot (values pairs) t) refl
  where
    go : (b : Bool) → has_slot (values pairs) t ≡ b → IfSome AreOneToOne (cond b None (Some ((s, t) ∷ pairs)))
    go true q = tt
    go false q = (
      (λ c. let p = Contains-of_key pairs s c in let v = value_of-found pairs s p.0 p.1 in None-Some v.0 (sym e ∙ v.1), one.0),
      (λ c. false≢true (sym q ∙ in-has_slot (values pairs) t (In-Contains (values pairs) t c)), one.1),
    )

then-one : (f : List (ℕ × ℕ) → Option (List (ℕ × ℕ))) (o : Option (List (ℕ × ℕ))) → IfSome AreOneToOne o → ((pairs : List (ℕ × ℕ)) → AreOneToOne pairs → IfSome AreOneToOne (f pairs)) →
    IfSome AreOneToOne (option_and_then f o)
then-one f None h k = tt
then-one f (Some pairs) h k = k pairs h

pairs-more : (pairs : List (ℕ × ℕ)) (names slots : List ℕ) → AreOneToOne pairs → IfSome AreOneToOne (paired_all pairs names slots)
pairs-more pairs [] [] one = one
pairs-more pairs [] (t ∷ slots) one = tt
pairs-more pairs (s ∷ names) [] one = tt
pairs-more pairs (s ∷ names) (t ∷ slots) one =
    then-one (λ more. paired_all more names slots) (paired pairs s t) (pair-more pairs s t one (value_of pairs s) refl) (λ more k. pairs-more more names slots k)

module _ (classes : List ClassRows) where
  -- so the answers from a state have pairs one to one if the state has
  one-to-one : (steps : List Step) (m : MachineState) → AreOneToOne m.pairs → (x : Answer) → In x (answers_of classes steps m) → AreOneToOne x.pairs
  unfolding answers_of
  one-to-one [] m one x (inl e) = subst (λ (y : Answer). AreOneToOne y.pairs) (sym e) one
  one-to-one [] m one x (inr i) = absurd i
  one-to-one (Variable v from ∷ steps) m one x i = go (one-to-one steps) (nat_lt v (length m.values)) (same_occurrence (slice_index_or m.values v no_occurrence) (occurrence_at m from)) i
    where
      go : ((n : MachineState) → AreOneToOne n.pairs → (y : Answer) → In y (answers_of classes steps n) → AreOneToOne y.pairs) → (b c : Bool) →
          In x (if_there (answers_of classes steps) (cond b (cond c (Some m) None) (Some (record m { values = m.values ++ occurrence_at m from ∷ [] })))) → AreOneToOne x.pairs
      go rest true true j = rest m one x j
      go rest true false j = absurd j
      go rest false c j = rest (record m { values = m.values ++ occurrence_at m from ∷ [] }) one x j
  one-to-one (Node outline slots from ∷ steps) m one x i =
      let names : List ℕ = (occurrence_at m from).names in
      let answer : IndexRow → List Answer = λ (r : IndexRow). cond (nat_eq r.outline outline) (if_there (answers_of classes steps) (after_row m names r slots.items)) [] in
      let r : (row : IndexRow) × In row (rows_in classes (occurrence_at m from).class) × In x (answer row) = In-of_flat_map answer (rows_in classes (occurrence_at m from).class) x i in
      let N : List ℕ = names_for names r.0.slots.items m.count in
      go (one-to-one steps) r.0 N (nat_eq r.0.outline outline) (paired_all m.pairs (named N r.0.owns.items) slots.items) (pairs-more m.pairs (named N r.0.owns.items) slots.items one) r.2
    where
      go : ((n : MachineState) → AreOneToOne n.pairs → (y : Answer) → In y (answers_of classes steps n) → AreOneToOne y.pairs) → (row : IndexRow) (N : List ℕ) (b : Bool) (o : Option (List (ℕ × ℕ))) → IfSome AreOneToOne o →
          In x (cond b (if_there (answers_of classes steps) (option_map (entered m N row) o)) []) → AreOneToOne x.pairs
      go rest row N true (Some pairs) k j = rest (entered m N row pairs) k x j
      go rest row N true None k j = absurd j
      go rest row N false o k j = absurd j

pub answer-whole : (g : State) → AtRest g → (order : List Row) (index : RowIndex) → IsIndexOf g order index → (variables : List (List ℕ)) (p : Pattern) (steps : List Step) → IsProgram (IsOutlineIn g order index) variables p steps →
    (x : Answer) → In x (all_answers index steps) → IsWholeAnswer g variables x
answer-whole g rest order index is variables p steps program x i =
    let k = In-of_flat_map (answers_at index.classes.items steps) index.live.items x i in
    let live = (is.live k.0).0 (Contains-In index.live.items k.0 k.1) in
    let r = class-answers g rest k.0 live.0 live.1 order index is variables p steps program in
    let a = beside-right (IsReadAs g _ variables) r.0 (answers_at index.classes.items steps k.0) r.2 x k.2 in
    let one : AreOneToOne x.pairs = one-to-one index.classes.items steps _ (tt, tt) x k.2 in
    record { count = a.2.count; values = a.2.whole; numbers_differ = one.0; slots_differ = one.1 }
