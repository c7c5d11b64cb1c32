-- An index and a program for the graph of (app (lam $x (var $x)) (lam $x (var $x))): what the machine answers there for (lam $7 ?a).
use Rattle.std.proofs.Common.{◌≡◌, ℕ, zero, suc, ◌+◌, ◌<◌, List, [], ◌∷◌, length, sym, ◌∙◌, ap, refl, subst, inl, inr, arith}
use Rattle.std.specs.Prelude.{Vec, ◌^◌, Contains, slice_index, slice_index_or}
use Rattle.std.specs.declared.alloc.Global.{Global}
use Rattle.slotted_lists.proofs.Contained.{contains_head, contains_cases, Contains-nil}
use denote.RawPtr.{null_ptr}
use Rattle.slotted_model.specs.Find.{IsLive, used_slots}
use Rattle.slotted_model.specs.State.{Row}
use Rattle.slotted_model.proofs.Examples.CompletenessExamples.{one_of}
use Rattle.slotted_theory.specs.FiniteMaps.{filled}
use Rattle.slotted_model_rules.specs.Patterns.{PatternArgs, variable, no_argument, child_pattern, binding}
use Rattle.slotted_model_rules.specs.Matcher.{no_more, a_name, an_id, a_binder, MatchState, Found, class_id, start_at}
use Rattle.slotted_model_rules.specs.Conditions.{Values}
use Rattle.slotted_model_rules.specs.Rules.{valued, Searches}
use Rattle.slotted_model_rules.proofs.Examples.PatternExamples as small
use Rattle.slotted_match_machine.specs.declared.index.ClassRows.{ClassRows}
use Rattle.slotted_match_machine.specs.declared.index.IndexChild.{IndexChild}
use Rattle.slotted_match_machine.specs.declared.index.IndexRow.{IndexRow}
use Rattle.slotted_match_machine.specs.declared.index.RowIndex.{RowIndex}
use Rattle.slotted_match_machine.specs.declared.program.Step.{Step}
use Rattle.slotted_match_machine.specs.declared.program.Step.TheVariants.{Node, Variable}
use Rattle.slotted_match_machine.specs.Index.{OneByOne, IsPositionOf, IsIndexRow, rows_of_class, IsIndexOf, IsOutlineIn}
use Rattle.slotted_match_machine.specs.Machine.{rows_in, slot_count_in, no_occurrence, Answer, answers_of, answers_at, all_answers}
use Rattle.slotted_match_machine.specs.Programs.{ends, takes, enters, root, IsProgram}
use Rattle.slotted_match_machine.specs.Readings.{name_at, read_id, IsReadAs, ReadsAnswer, IsWholeAnswer}
use Rattle.slotted_match_machine.proofs.AllLaws.{machine-laws}

-- the rows of the graph, the newest first
abbrev row_at : ℕ → Row
row_at i = slice_index_or small.graph.rows i (record { shape = small.var_node; source = 0; slots = [] })

module _ (alloc : Global) where
  abbrev pub vec : {X : Type 0} (xs : List X) → length xs < 2 ^ 63 → Vec X Global
  vec xs h = record { ptr = null_ptr; len = length xs; cap = length xs; alloc = alloc; items = xs; ok = (refl, omega arith); small = h }

  -- var has one number, which stands for the slot of its class; lam one, for its binder; and app none
  abbrev var_row : IndexRow
  var_row = record { outline = 0; slots = vec (1 ∷ []) (omega arith); owns = vec (0 ∷ []) (omega arith); children = vec [] (omega arith) }

  abbrev lam_child : IndexChild
  lam_child = record { class = 0; numbers = vec (0 ∷ []) (omega arith) }

  abbrev lam_row : IndexRow
  lam_row = record { outline = 1; slots = vec (0 ∷ []) (omega arith); owns = vec (0 ∷ []) (omega arith); children = vec (lam_child ∷ []) (omega arith) }

  abbrev app_child : IndexChild
  app_child = record { class = 1; numbers = vec [] (omega arith) }

  abbrev app_row : IndexRow
  app_row = record { outline = 2; slots = vec [] (omega arith); owns = vec [] (omega arith); children = vec (app_child ∷ app_child ∷ []) (omega arith) }

  abbrev class_rows : ℕ → IndexRow → ClassRows
  class_rows n row = record { slot_count = n; rows = vec (row ∷ []) (omega arith) }

  abbrev index : RowIndex
  index = record { classes = vec (class_rows 1 var_row ∷ class_rows 0 lam_row ∷ class_rows 0 app_row ∷ []) (omega arith); live = vec (0 ∷ 1 ∷ 2 ∷ []) (omega arith) }

  is_var : IsIndexRow small.graph (row_at 2) var_row
  is_var = record {
    node = a_name 0 no_more;
    number = λ i. i;
    form = refl;
    injective = λ i j c d e. e;
    binders_differ = tt;
    binders_apart = λ z c. absurd (Contains-nil z c);
    owns = refl;
    children = tt;
    in_range = λ z c. let e : z ≡ 0 = one_of c in omega arith;
    positions = λ i c. subst (λ j. IsPositionOf (0 ∷ []) ((0, 0) ∷ []) (filled ((0, 0) ∷ []) j) (slice_index (1 ∷ []) j)) (sym (one_of c)) (omega arith, contains_head (0, 0) []);
    binders_have_none = λ z c. absurd (Contains-nil z c);
  }

  is_lam : IsIndexRow small.graph (row_at 1) lam_row
  is_lam = record {
    node = a_binder 0 (an_id (0, (0, 0) ∷ []) no_more) no_more;
    number = λ i. i;
    form = refl;
    injective = λ i j c d e. e;
    binders_differ = (Contains-nil 0, tt);
    binders_apart = λ z c i d. absurd (Contains-nil i d);
    owns = refl;
    children = (record { class = refl; numbers = refl }, tt);
    in_range = λ z c. elim (contains_cases 0 (0 ∷ []) z c) [
      | inl e ↦ omega arith
      | inr d ↦ let e : z ≡ 0 = one_of d in omega arith
    ];
    positions = λ i c. absurd (Contains-nil i c);
    binders_have_none = λ z c. ap (slice_index (0 ∷ [])) (one_of c);
  }

  is_app : IsIndexRow small.graph (row_at 0) app_row
  is_app = record {
    node = an_id (1, []) (an_id (1, []) no_more);
    number = λ i. i;
    form = refl;
    injective = λ i j c d e. e;
    binders_differ = tt;
    binders_apart = λ z c. absurd (Contains-nil z c);
    owns = refl;
    children = (record { class = refl; numbers = refl }, (record { class = refl; numbers = refl }, tt));
    in_range = λ z c. absurd (Contains-nil z c);
    positions = λ i c. absurd (Contains-nil i c);
    binders_have_none = λ z c. absurd (Contains-nil z c);
  }

  -- they are the graph's rows
  is_index : IsIndexOf small.graph small.graph.rows index
  is_index = record {
    rows = λ r. (λ c. c, λ c. c);
    ascending = ((omega arith, (omega arith, tt)), ((omega arith, tt), (tt, tt)));
    live = λ c. (is_live c, λ h. stands c h.0);
    slot_counts = counts;
    class_rows = rows;
  }
    where
      is_live : (c : ℕ) → Contains {X = ℕ} (0 ∷ 1 ∷ 2 ∷ []) c → (c < 3) × IsLive small.graph.found c
      is_live c k = at k.0 k.1 k.2
        where
          at : (j : ℕ) → j < 3 → slice_index_or (0 ∷ 1 ∷ 2 ∷ []) j c ≡ c → (c < 3) × IsLive small.graph.found c
          at zero l e = subst (λ d. (d < 3) × IsLive small.graph.found d) e (omega arith, refl)
          at (suc zero) l e = subst (λ d. (d < 3) × IsLive small.graph.found d) e (omega arith, refl)
          at (suc (suc zero)) l e = subst (λ d. (d < 3) × IsLive small.graph.found d) e (omega arith, refl)
          at (suc (suc (suc j))) l e = absurd (omega arith)

      stands : (c : ℕ) → c < 3 → Contains {X = ℕ} (0 ∷ 1 ∷ 2 ∷ []) c
      stands zero l = (0, omega arith, refl)
      stands (suc zero) l = (1, omega arith, refl)
      stands (suc (suc zero)) l = (2, omega arith, refl)
      stands (suc (suc (suc c))) l = absurd (omega arith)

      counts : (c : ℕ) → c < 3 → IsLive small.graph.found c → slot_count_in index.classes.items c ≡ length (used_slots small.graph.found c)
      counts zero l k = refl
      counts (suc zero) l k = refl
      counts (suc (suc zero)) l k = refl
      counts (suc (suc (suc c))) l k = absurd (omega arith)

      rows : (c : ℕ) → c < 3 → IsLive small.graph.found c → OneByOne (IsIndexRow small.graph) (rows_of_class small.graph small.graph.rows c) (rows_in index.classes.items c)
      rows zero l k = (is_var, tt)
      rows (suc zero) l k = (is_lam, tt)
      rows (suc (suc zero)) l k = (is_app, tt)
      rows (suc (suc (suc c))) l k = absurd (omega arith)

  abbrev lam_args : PatternArgs
  lam_args = binding 7 (child_pattern (variable (97 ∷ [])) no_argument) no_argument

  abbrev program : List Step
  program = Node 1 (vec (7 ∷ []) (omega arith)) root ∷ Variable 0 (record { register = 1; child = 0 }) ∷ []

  outline : IsOutlineIn small.graph small.graph.rows index 1 2 [] lam_args
  outline zero l k = ((λ e. absurd (omega arith), λ h. let n : ◌≡◌ {A = ℕ} 1 2 = h.operator in absurd (omega arith)), tt)
  outline (suc zero) l k = ((λ e. record { operator = refl; payloads_same = refl; places = refl }, λ h. refl), tt)
  outline (suc (suc zero)) l k = ((λ e. absurd (omega arith), λ h. let n : ◌≡◌ {A = ℕ} 3 2 = h.operator in absurd (omega arith)), tt)
  outline (suc (suc (suc c))) l k = absurd (omega arith)

  is_program : IsProgram (IsOutlineIn small.graph small.graph.rows index) ((97 ∷ []) ∷ []) small.lam_pattern program
  is_program = enters outline refl (takes refl (Contains-nil (97 ∷ [])) ends)

  -- so the machine answers once, with the number 0 for the slot 7
  abbrev answer : Answer
  answer = record { pairs = (0, 7) ∷ []; values = record { class = 0; names = 0 ∷ [] } ∷ [] }

  answered : all_answers index program ≡ answer ∷ []
  unfolding answers_of
  answered = refl

  -- which is the state in which the matcher finds the pattern
  is_found : (outs : List MatchState) × Found small.graph small.graph.rows small.lam_pattern (start_at small.graph 1) (class_id small.graph 1) outs ×
      OneByOne (IsReadAs small.graph (name_at []) ((97 ∷ []) ∷ [])) outs (answers_at index.classes.items program 1)
  is_found = machine-laws.answers_are_found small.graph small.rests small.graph.rows index is_index ((97 ∷ []) ∷ []) small.lam_pattern program is_program 1 (omega arith) refl

  is_whole : IsWholeAnswer small.graph ((97 ∷ []) ∷ []) answer
  is_whole =
      machine-laws.answers_are_whole small.graph small.rests small.graph.rows index is_index ((97 ∷ []) ∷ []) small.lam_pattern program is_program answer
      (subst (λ xs. Contains xs answer) (sym answered) (contains_head answer []))

  -- read with the name 7 for 0, it is what a search finds
  abbrev with_var : Values
  with_var = ((97 ∷ []), (0, (0, 7) ∷ [])) ∷ []

  reads : ReadsAnswer small.graph ((97 ∷ []) ∷ []) with_var answer
  reads = record {
    name = λ n. n + 7;
    injective = λ m n c d e. omega arith;
    slots = λ n t c. let e : ◌≡◌ {A = ℕ × ℕ} (n, t) (0, 7) = only c in ap (λ (q : ℕ × ℕ). q.0 + 7) e ∙ sym (ap (λ (q : ℕ × ℕ). q.1) e);
    values = value;
  }
    where
      only : {n t : ℕ} → Contains {X = ℕ × ℕ} ((0, 7) ∷ []) (n, t) → ◌≡◌ {A = ℕ × ℕ} (n, t) (0, 7)
      only {n} {t} c = elim (contains_cases (0, 7) [] (n, t) c) [
        | inl e ↦ e
        | inr k ↦ absurd (Contains-nil (n, t) k)
      ]

      value : (k : ℕ) → k < 1 → valued with_var (slice_index_or ((97 ∷ []) ∷ []) k []) ≡ read_id small.graph (λ n. n + 7) (slice_index_or answer.values k no_occurrence)
      value zero l = refl
      value (suc k) l = absurd (omega arith)

  is_searched : Searches small.graph small.graph.rows small.lam_pattern (with_var ∷ [])
  is_searched =
      machine-laws.answers_are_searched small.graph small.rests small.graph.rows index is_index ((97 ∷ []) ∷ []) small.lam_pattern program is_program (with_var ∷ [])
      (subst (OneByOne (ReadsAnswer small.graph ((97 ∷ []) ∷ [])) (with_var ∷ [])) (sym answered) (reads, tt))
