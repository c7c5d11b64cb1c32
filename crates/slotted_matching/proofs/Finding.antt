-- What a search over an index finds.
use Rattle.std.proofs.Common.{◌≡◌, ◌∙◌, ◌<◌, ◌≤◌, ℕ, List, [], ◌∷◌, Some, None, Option, Bool, true, false, length, refl, subst, inl, inr, sym, arith}
use Rattle.std.specs.Prelude.{◌⊎◌, Contains, IsTrue, map, IsSome, Result, Ok, Err, IfOk}
use Rattle.std.specs.List.{flat_map}
use Rattle.std.proofs.lemmas.Bool.{false≢true}
use Rattle.slotted_lists.proofs.Contained.{contains_head, contains_tail}
use Rattle.slotted_lists.proofs.Members.{In, In-Contains, Contains-In}
use Rattle.slotted_slots.specs.declared.error.Error.{Error}
use Rattle.slotted_slots.specs.Table.{KnowsMore, Table, is_known}
use Rattle.slotted_nodes.specs.Form.{Form}
use Rattle.slotted_model.specs.Applied.{Applied, values}
use Rattle.slotted_model.specs.Find.{IsLive}
use Rattle.slotted_model.specs.Rest.{AtRest, IsValidIn}
use Rattle.slotted_model_rules.specs.Conditions.{Values}
use Rattle.slotted_model_rules.specs.Patterns.{Pattern}
use Rattle.slotted_patterns.specs.Tree.{PatternTree}
use Rattle.slotted_rule_patterns.specs.PatternCode.{pattern_in}
use Rattle.slotted_classes.specs.Kept.{Kept, entries_of}
use Rattle.slotted_classes.proofs.KeptLists.{length-nodes_of}
use Rattle.slotted_hashcons.specs.FiledRows.{Rows}
use Rattle.slotted_hashcons.specs.WellFiled.{state_in}
use Rattle.slotted_lookup.specs.Filling.{MakesAtMost, RunsOut}
use Rattle.slotted_match_machine.specs.declared.index.RowIndex.{RowIndex}
use Rattle.slotted_match_machine.specs.declared.program.Step.{Step}
use Rattle.slotted_match_machine.specs.Index.{OneByOne, IsOutlineIn}
use Rattle.slotted_match_machine.specs.Machine.{Answer, Occurrence, all_answers, answers_at}
use Rattle.slotted_match_machine.specs.Programs.{IsProgram}
use Rattle.slotted_match_machine.specs.Readings.{IsWholeAnswer, ReadsAnswer}
use Rattle.slotted_match_machine.proofs.AllLaws.{machine-laws}
use Rattle.slotted_match_machine.proofs.Lists.{In-flat_map}
use Rattle.slotted_matching.specs.Answered.{AreWholeAnswers, HasName, InTurn, IsNamedAnswer, PairSlotsIn, StandOnce, number_count}
use Rattle.slotted_matching.specs.Compiled.{HoldsSlots, IsCompiled, KnowsEach}
use Rattle.slotted_matching.specs.Found.{AreValidFound, HaveFreshNames, HaveVariables, IsFound, IsFoundAt, RunsOutFor, TakesFor, name_count, names_in, slots_of}
use Rattle.slotted_matching.specs.Indexed.{IsIndexed}
use Rattle.slotted_matching.proofs.NameCounts.{names-read}
use Rattle.slotted_matching.proofs.Needed.{read-all}
use Rattle.slotted_matching.proofs.PatternSlots.{holds-slots}
use Rattle.slotted_matching.proofs.Programs.{program-in, slots-among}
use Rattle.slotted_matching.proofs.Readings.{read-in-turn, readings-at}

pub ok-mapped : {A : Type 0} {P Q : A → Type 0} (r : Result A Error) → IfOk r P → ((a : A) → P a → Q a) → IfOk r Q
ok-mapped (Ok a) h f = f a h
ok-mapped (Err e) h f = tt

pub some-pattern : (o : Option Pattern) → IsSome o → (p : Pattern) × (o ≡ Some p)
some-pattern None h = absurd (cc)
some-pattern (Some p) h = (p, refl)

was-unknown : (a b : Bool) → (IsTrue a → IsTrue b) → b ≡ false → a ≡ false
was-unknown true b h e = absurd (false≢true (sym e ∙ h refl))
was-unknown false b h e = refl

module _ (k : Kept) (r : Rows) (variables : List (List ℕ)) where
  abbrev Named : Table → Table → Values → Answer → Type 0
  Named = IsNamedAnswer k variables

  -- each substitution reads its answer
  read-each : (t u : Table) (found : List Values) (xs : List Answer) → InTurn Named t u found xs → OneByOne (ReadsAnswer (state_in k r) variables) found xs
  read-each t u [] [] h = tt
  read-each t u [] (x ∷ xs) h = absurd h
  read-each t u (s ∷ found) [] h = absurd h
  read-each t u (s ∷ found) (x ∷ xs) h = (h.1.reads r, read-each h.0 u found xs h.2)

  more-each : (t u : Table) (found : List Values) (xs : List Answer) → InTurn Named t u found xs → KnowsMore t u
  more-each t u [] [] h = λ y i. subst (λ (w : Table). IsTrue (is_known w y)) h i
  more-each t u [] (x ∷ xs) h = absurd h
  more-each t u (s ∷ found) [] h = absurd h
  more-each t u (s ∷ found) (x ∷ xs) h = λ y i. more-each h.0 u found xs h.2 y (h.1.more y i)

  -- what holds of a substitution of its answer, and goes on with more names
  valid-each : AtRest (state_in k r) → (t u : Table) (found : List Values) (xs : List Answer) → InTurn Named t u found xs → (s : Values) → In s found →
      (e : List ℕ × Applied) → Contains s e → IsValidIn (state_in k r) e.1 × KnowsEach u (values e.1.1)
  valid-each rest t u [] [] h s i e c = absurd i
  valid-each rest t u [] (x ∷ xs) h s i e c = absurd h
  valid-each rest t u (b ∷ found) [] h s i e c = absurd h
  valid-each rest t u (b ∷ found) (x ∷ xs) h s (inl j) e c =
      let d : Contains b e = subst (λ z. Contains z e) j c in
      (h.1.valid r rest e d, λ y n. more-each h.0 u found xs h.2 y (h.1.known y (e, d, n)))
  valid-each rest t u (b ∷ found) (x ∷ xs) h s (inr j) e c = valid-each rest h.0 u found xs h.2 s j e c

  has-each : (t u : Table) (found : List Values) (xs : List Answer) → InTurn Named t u found xs → (s : Values) → In s found → (v : List ℕ) → Contains variables v → Contains (map (λ e. e.0) s) v
  has-each t u [] [] h s i v c = absurd i
  has-each t u [] (x ∷ xs) h s i v c = absurd h
  has-each t u (b ∷ found) [] h s i v c = absurd h
  has-each t u (b ∷ found) (x ∷ xs) h s (inl j) v c = subst (λ (z : Values). Contains (map (λ e. e.0) z) v) (sym j) ((h.1.variables v).0 c)
  has-each t u (b ∷ found) (x ∷ xs) h s (inr j) v c = has-each h.0 u found xs h.2 s j v c

  -- a name that the table did not know before was unknown at first
  fresh-each : (slots : List ℕ) (t u : Table) (found : List Values) (xs : List Answer) → InTurn Named t u found xs → PairSlotsIn slots xs → (s : Values) → In s found → (y : ℕ) → HasName s y →
      Contains slots y ⊎ (is_known t y ≡ false)
  fresh-each slots t u [] xs h among s i y n = absurd i
  fresh-each slots t u (b ∷ found) [] h among s i y n = absurd h
  fresh-each slots t u (b ∷ found) (x ∷ xs) h among s (inl j) y n = elim (h.1.names y (subst (λ z. HasName z y) j n)) [
    | inl c ↦ inl (among x (contains_head x xs) y c)
    | inr f ↦ inr f
  ]
  fresh-each slots t u (b ∷ found) (x ∷ xs) h among s (inr j) y n = elim (fresh-each slots h.0 u found xs h.2 (λ q c. among q (contains_tail x xs q c)) s j y n) [
    | inl c ↦ inl c
    | inr f ↦ inr (was-unknown (is_known t y) (is_known h.0 y) (h.1.more y) f)
  ]

  count-each : (t u : Table) (found : List Values) (xs : List Answer) → InTurn Named t u found xs → StandOnce variables → ((x : Answer) → Contains xs x → IsWholeAnswer (state_in k r) variables x) →
      number_count xs ≤ name_count found
  count-each t u [] [] h once whole = omega arith
  count-each t u [] (x ∷ xs) h once whole = absurd h
  count-each t u (s ∷ found) [] h once whole = absurd h
  count-each t u (s ∷ found) (x ∷ xs) h once whole =
      let rest : number_count xs ≤ name_count found = count-each h.0 u found xs h.2 once (λ q c. whole q (contains_tail x xs q c)) in
      let here : length (flat_map (λ (o : Occurrence). o.names) x.values) ≤ length (names_in s) =
      names-read (state_in k r) variables s x once (whole x (contains_head x xs)) (h.1.reads r) (λ v. (h.1.variables v).0) in
      omega (arith, rest, here)

module _ (k : Kept) (r : Rows) (S : List Form) (x : RowIndex) (is : IsIndexed k r S x) (rest : AtRest (state_in k r))
    (t : PatternTree) (whole : IsSome (pattern_in t)) (steps : List Step) (variables : List (List ℕ)) (compiled : IsCompiled S t steps variables) where
  program : (p : Pattern) → pattern_in t ≡ Some p → IsProgram (IsOutlineIn (state_in k r) is.order x) variables p steps
  program p e = program-in k r S x is variables p steps (compiled p e)

  pub numbered-once : StandOnce variables
  numbered-once = let p = some-pattern (pattern_in t) whole in machine-laws.programs_number_variables.once (state_in k r) is.order x variables p.0 steps (program p.0 p.1)

  -- what reads all answers is found
  pub found-by : (p : Pattern) → pattern_in t ≡ Some p → (found : List Values) → OneByOne (ReadsAnswer (state_in k r) variables) found (all_answers x steps) → IsFound k r p found
  found-by p at found reads = record {
    order = is.order;
    rows = is.index.rows;
    searches = machine-laws.answers_are_searched (state_in k r) rest is.order x is.index variables p steps (program p at) found reads;
    in_turn = read-in-turn (state_in k r) rest is.order x is.index variables p steps (program p at) found reads;
  }

  -- at one class
  module _ (c : ℕ) (within : c < length k.classes) (lives : IsLive (entries_of k) c) where
    here : c < length (state_in k r).nodes
    here = omega (arith, within, length-nodes_of k)

    pub found-at : (p : Pattern) → pattern_in t ≡ Some p → (found : List Values) → OneByOne (ReadsAnswer (state_in k r) variables) found (answers_at x.classes.items steps c) → IsFoundAt k r c p found
    found-at p at found reads = record {
      order = is.order;
      rows = is.index.rows;
      readings = readings-at (state_in k r) rest is.order x is.index variables p steps (program p at) c here lives found reads;
    }

    pub among-all : (a : Answer) → Contains (answers_at x.classes.items steps c) a → Contains (all_answers x steps) a
    among-all a d =
        Contains-In (all_answers x steps) a
        (In-flat_map (answers_at x.classes.items steps) x.live.items c a (In-Contains x.live.items c ((is.index.live c).1 (here, lives))) (In-Contains (answers_at x.classes.items steps c) a d))

  -- some of all answers
  module _ (xs : List Answer) (among : (a : Answer) → Contains xs a → Contains (all_answers x steps) a) where
    whole-each : (p : Pattern) → pattern_in t ≡ Some p → (a : Answer) → Contains xs a → IsWholeAnswer (state_in k r) variables a
    whole-each p at a c = machine-laws.answers_are_whole (state_in k r) rest is.order x is.index variables p steps (program p at) a (among a c)

    pub answers-whole : AreWholeAnswers k variables xs
    answers-whole = let p = some-pattern (pattern_in t) whole in (r, whole-each p.0 p.1)

    pub pairs-have : (slots : List ℕ) → HoldsSlots steps slots → PairSlotsIn slots xs
    pairs-have slots holds a c = slots-among slots x steps holds a (among a c)

    -- something reads them, with as many names as there are numbers
    needed : (F : Pattern → List Values → Type 0) → ((p : Pattern) → pattern_in t ≡ Some p → (found : List Values) → OneByOne (ReadsAnswer (state_in k r) variables) found xs → F p found) →
        (p : Pattern) → pattern_in t ≡ Some p → (found : List Values) × F p found × (name_count found ≡ number_count xs)
    needed F by p at = let all = read-all (state_in k r) variables numbered-once xs (whole-each p at) in (all.0, by p at all.0 all.1, all.2)

    pub takes-for : (F : Pattern → List Values → Type 0) → ((p : Pattern) → pattern_in t ≡ Some p → (found : List Values) → OneByOne (ReadsAnswer (state_in k r) variables) found xs → F p found) →
        (u v : Table) → MakesAtMost (number_count xs) u v → TakesFor t F u v
    takes-for F by u v h p at = let n = needed F by p at in (n.0, n.1, record { names = h.names; taken = omega (arith, h.taken, n.2) })

    pub runs_out-for : (F : Pattern → List Values → Type 0) → ((p : Pattern) → pattern_in t ≡ Some p → (found : List Values) → OneByOne (ReadsAnswer (state_in k r) variables) found xs → F p found) →
        (u v : Table) → RunsOut (number_count xs) u v → RunsOutFor t F u v
    runs_out-for F by u v h p at = let n = needed F by p at in (n.0, n.1, record { lacks = omega (arith, h.lacks, n.2); used = h.used })

    module _ (u v : Table) (found : List Values) (named : InTurn (IsNamedAnswer k variables) u v found xs) where
      pub reads-each : OneByOne (ReadsAnswer (state_in k r) variables) found xs
      reads-each = read-each k r variables u v found xs named

      pub valid-all : AreValidFound v k r found
      valid-all s c e d = valid-each k r variables rest u v found xs named s (In-Contains found s c) e d

      pub variables-all : HaveVariables t found
      variables-all s c p at w d =
          has-each k r variables u v found xs named s (In-Contains found s c) w ((machine-laws.programs_number_variables.same (state_in k r) is.order x variables p steps (program p at) w).1 d)

      pub fresh-all : HaveFreshNames u t found
      fresh-all s c p at = fresh-each k r variables (slots_of p) u v found xs named (pairs-have (slots_of p) (holds-slots variables p steps (program p at))) s (In-Contains found s c)

      pub count-all : number_count xs ≤ name_count found
      count-all = let p = some-pattern (pattern_in t) whole in count-each k r variables u v found xs named numbered-once (whole-each p.0 p.1)
