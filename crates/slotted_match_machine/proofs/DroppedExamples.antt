-- A slot that was dropped: the graph of (h (f $2 $3)) after (f $7 $8) = (f $7 $9). Each visit of f has a new name in its second place.
use Rattle.std.proofs.Common.{◌≡◌, ℕ, zero, suc, ◌<◌, List, [], ◌∷◌, length, refl, sym, ap, subst, inl, inr, arith}
use Rattle.std.specs.Prelude.{Contains, slice_index, slice_index_or}
use Rattle.std.specs.declared.alloc.Global.{Global}
use Rattle.slotted_lists.proofs.Contained.{contains_head, contains_cases, Contains-nil}
use Rattle.slotted_theory.specs.FiniteMaps.{filled}
use Rattle.slotted_model.specs.Find.{IsLive, find_map, used_slots}
use Rattle.slotted_model.specs.State.{Row}
use Rattle.slotted_model.proofs.Examples.CompletenessExamples.{one_of}
use Rattle.slotted_model_rules.specs.Patterns.{Pattern, PatternArgs, pattern_node, no_argument, own_name, child_pattern}
use Rattle.slotted_model_rules.specs.Matcher.{no_more, a_name, an_id, MatchState, Found, class_id, start_at}
use Rattle.slotted_model_rules.proofs.Examples.HiddenExamples as hidden
use Rattle.slotted_match_machine.specs.declared.index.ClassRows.{ClassRows}
use Rattle.slotted_match_machine.specs.declared.index.IndexChild.{IndexChild}
use Rattle.slotted_match_machine.specs.declared.index.IndexRow.{IndexRow}
use Rattle.slotted_match_machine.specs.declared.index.RowIndex.{RowIndex}
use Rattle.slotted_match_machine.specs.declared.program.Step.{Step}
use Rattle.slotted_match_machine.specs.declared.program.Step.TheVariants.{Node}
use Rattle.slotted_match_machine.specs.Index.{OneByOne, IsPositionOf, IsIndexRow, rows_of_class, IsIndexOf, IsOutlineIn}
use Rattle.slotted_match_machine.specs.Machine.{rows_in, slot_count_in, Answer, answers_of, answers_at}
use Rattle.slotted_match_machine.specs.Programs.{ends, enters, root, IsProgram}
use Rattle.slotted_match_machine.specs.Readings.{name_at, IsReadAs}
use Rattle.slotted_match_machine.proofs.AllLaws.{machine-laws}
use Rattle.slotted_match_machine.proofs.MachineExamples.{vec}

abbrev row_f : Row
row_f = slice_index_or hidden.graph.rows 1 hidden.row_h

-- f has one slot left, and h too
left_of_f : used_slots hidden.graph.found 0 ≡ 0 ∷ []
left_of_f = refl

left_of_h : used_slots hidden.graph.found 1 ≡ 2 ∷ []
left_of_h = refl

module _ (alloc : Global) where
  abbrev f_row : IndexRow
  f_row = record { outline = 0; slots = vec alloc (1 ∷ 0 ∷ []) (omega arith); owns = vec alloc (0 ∷ 1 ∷ []) (omega arith); children = vec alloc [] (omega arith) }

  abbrev h_child : IndexChild
  h_child = record { class = 0; numbers = vec alloc (0 ∷ []) (omega arith) }

  abbrev h_row : IndexRow
  h_row = record { outline = 1; slots = vec alloc (1 ∷ []) (omega arith); owns = vec alloc [] (omega arith); children = vec alloc (h_child ∷ []) (omega arith) }

  abbrev class_rows : IndexRow → ClassRows
  class_rows row = record { slot_count = 1; rows = vec alloc (row ∷ []) (omega arith) }

  abbrev index : RowIndex
  index = record { classes = vec alloc (class_rows f_row ∷ class_rows h_row ∷ []) (omega arith); live = vec alloc (0 ∷ 1 ∷ []) (omega arith) }

  -- the second number of f stands for no slot of its class
  dropped : (i : ℕ) → Contains {X = ℕ} (0 ∷ 1 ∷ []) i → IsPositionOf (0 ∷ []) (find_map hidden.graph.found 0) (filled row_f.slots i) (slice_index (1 ∷ 0 ∷ []) i)
  dropped i c = elim (contains_cases 0 (1 ∷ []) i c) [
    | inl e ↦ subst (λ j. IsPositionOf (0 ∷ []) (find_map hidden.graph.found 0) (filled row_f.slots j) (slice_index (1 ∷ 0 ∷ []) j)) (sym e) (omega arith, contains_head (0, 0) [])
    | inr d ↦ subst (λ j. IsPositionOf (0 ∷ []) (find_map hidden.graph.found 0) (filled row_f.slots j) (slice_index (1 ∷ 0 ∷ []) j)) (sym (one_of d)) none
  ]
    where
      none : (s : ℕ) → ¬ Contains {X = ℕ × ℕ} ((0, 0) ∷ []) (s, 1)
      none s k = let e : ◌≡◌ {A = ℕ} 1 0 = ap (λ (p : ℕ × ℕ). p.1) (one_of k) in omega arith

  is_f : IsIndexRow hidden.graph row_f f_row
  is_f = record {
    node = a_name 0 (a_name 1 no_more);
    number = λ i. i;
    form = refl;
    injective = λ i j c d e. e;
    binders_differ = tt;
    binders_apart = λ z c. absurd (Contains-nil z c);
    owns = refl;
    children = tt;
    in_range = λ z c. elim (contains_cases 0 (1 ∷ []) z c) [
      | inl e ↦ omega arith
      | inr d ↦ let e : z ≡ 1 = one_of d in omega arith
    ];
    positions = dropped;
    binders_have_none = λ z c. absurd (Contains-nil z c);
  }

  is_h : IsIndexRow hidden.graph hidden.row_h h_row
  is_h = record {
    node = an_id (0, (0, 0) ∷ []) no_more;
    number = λ i. i;
    form = refl;
    injective = λ i j c d e. e;
    binders_differ = tt;
    binders_apart = λ z c. absurd (Contains-nil z c);
    owns = refl;
    children = (record { class = refl; numbers = refl }, tt);
    in_range = λ z c. let e : z ≡ 0 = one_of c in omega arith;
    positions = λ i c. subst (λ j. IsPositionOf (2 ∷ []) ((2, 2) ∷ []) (filled ((0, 2) ∷ []) j) (slice_index (1 ∷ []) j)) (sym (one_of c)) (omega arith, contains_head (2, 2) []);
    binders_have_none = λ z c. absurd (Contains-nil z c);
  }

  is_index : IsIndexOf hidden.graph hidden.graph.rows index
  is_index = record {
    rows = λ r. (λ c. c, λ c. c);
    ascending = ((omega arith, tt), (tt, tt));
    live = λ c. (is_live c, λ h. stands c h.0);
    slot_counts = counts;
    class_rows = rows;
  }
    where
      is_live : (c : ℕ) → Contains {X = ℕ} (0 ∷ 1 ∷ []) c → (c < 2) × IsLive hidden.graph.found c
      is_live c k = elim (contains_cases 0 (1 ∷ []) c k) [
        | inl e ↦ subst (λ d. (d < 2) × IsLive hidden.graph.found d) (sym e) (omega arith, refl)
        | inr d ↦ subst (λ d. (d < 2) × IsLive hidden.graph.found d) (sym (one_of d)) (omega arith, refl)
      ]

      stands : (c : ℕ) → c < 2 → Contains {X = ℕ} (0 ∷ 1 ∷ []) c
      stands zero l = (0, omega arith, refl)
      stands (suc zero) l = (1, omega arith, refl)
      stands (suc (suc c)) l = absurd (omega arith)

      counts : (c : ℕ) → c < 2 → IsLive hidden.graph.found c → slot_count_in index.classes.items c ≡ length (used_slots hidden.graph.found c)
      counts zero l k = refl
      counts (suc zero) l k = refl
      counts (suc (suc c)) l k = absurd (omega arith)

      rows : (c : ℕ) → c < 2 → IsLive hidden.graph.found c → OneByOne (IsIndexRow hidden.graph) (rows_of_class hidden.graph hidden.graph.rows c) (rows_in index.classes.items c)
      rows zero l k = (is_f, tt)
      rows (suc zero) l k = (is_h, tt)
      rows (suc (suc c)) l k = absurd (omega arith)

  abbrev f_args : ℕ → PatternArgs
  f_args x = own_name 8 (own_name x no_argument)

  abbrev f_pattern : ℕ → Pattern
  f_pattern x = pattern_node 3 [] (f_args x)

  abbrev h_args : ℕ → PatternArgs
  h_args x = child_pattern (f_pattern x) no_argument

  f_outline : (x : ℕ) → IsOutlineIn hidden.graph hidden.graph.rows index 0 3 [] (f_args x)
  f_outline x zero l k = ((λ e. record { operator = refl; payloads_same = refl; places = refl }, λ h. refl), tt)
  f_outline x (suc zero) l k = ((λ e. absurd (omega arith), λ h. let n : ◌≡◌ {A = ℕ} 5 3 = h.operator in absurd (omega arith)), tt)
  f_outline x (suc (suc c)) l k = absurd (omega arith)

  h_outline : (x : ℕ) → IsOutlineIn hidden.graph hidden.graph.rows index 1 5 [] (h_args x)
  h_outline x zero l k = ((λ e. absurd (omega arith), λ h. let n : ◌≡◌ {A = ℕ} 3 5 = h.operator in absurd (omega arith)), tt)
  h_outline x (suc zero) l k = ((λ e. record { operator = refl; payloads_same = refl; places = refl }, λ h. refl), tt)
  h_outline x (suc (suc c)) l k = absurd (omega arith)

  -- the program of (h (f $8 $x))
  abbrev program : ℕ → List Step
  program x = Node 1 (vec alloc [] (omega arith)) root ∷ Node 0 (vec alloc (8 ∷ x ∷ []) (omega arith)) (record { register = 1; child = 0 }) ∷ []

  is_program : (x : ℕ) → IsProgram (IsOutlineIn hidden.graph hidden.graph.rows index) [] (pattern_node 5 [] (h_args x)) (program x)
  is_program x = enters (h_outline x) refl (enters (f_outline x) refl ends)

  -- the name of the slot that f dropped is the new number 1, which stands for the slot 9
  abbrev answer : Answer
  answer = record { pairs = (1, 9) ∷ (0, 8) ∷ []; values = [] }

  answered : answers_at index.classes.items (program 9) 1 ≡ answer ∷ []
  unfolding answers_of
  answered = refl

  is_found : (outs : List MatchState) × Found hidden.graph hidden.graph.rows (pattern_node 5 [] (h_args 9)) (start_at hidden.graph 1) (class_id hidden.graph 1) outs ×
      OneByOne (IsReadAs hidden.graph (name_at (2 ∷ [])) []) outs (answer ∷ [])
  is_found =
      let r = machine-laws.answers_are_found hidden.graph hidden.rests hidden.graph.rows index is_index [] (pattern_node 5 [] (h_args 9)) (program 9) (is_program 9) 1 (omega arith) refl in
      (r.0, r.1, subst (OneByOne (IsReadAs hidden.graph (name_at (2 ∷ [])) []) r.0) answered r.2)

  -- and where both places have the slot 8, nothing is answered
  not_answered : answers_at index.classes.items (program 8) 1 ≡ []
  unfolding answers_of
  not_answered = refl
