-- Patterns: terms with names that have variables in them, and parts in whose place something else is to be put.
--     Pattern, PatternArgs           a pattern, and its arguments as those of a term
--     EachVariable P p               P holds of each variable of the pattern
--     look_up_pattern g ρ σ p        the id that a pattern is looked up as, where σ gives ids to its variables and ρ numbers the names outside
--     pattern_of t                   the term t as a pattern
--     Matches g ρ σ p a              the pattern matches the id a, by any rows of its class
use Rattle.std.specs.Prelude.{◌≡◌, ℕ, List, Option, Some, None, option_map, option_and_then, Contains}
use Rattle.slotted_theory.specs.Term.{Args, Term, done, name, child, bind}
use Rattle.slotted_theory.specs.Nameless.{DArgs, stop, place, scope, extend}
use Rattle.slotted_theory.proofs.Values.{node, child_before}
use Rattle.slotted_model.specs.Applied.{Applied, renamed_id, as_term}
use Rattle.slotted_model.specs.Classes.{IsFull}
use Rattle.slotted_model.specs.Find.{find}
use Rattle.slotted_model.specs.LookUp.{both}
use Rattle.slotted_model.specs.State.{Row, State, look_up_node}
use Rattle.slotted_model.proofs.Rebuilding.RowNodes.{row_node}

mutual
  -- an operator with payloads and arguments, a variable by its name, or body with value in the place of part
  pub data Pattern : Type 0 where
    pattern_node : (op : ℕ) (payloads : List (List ℕ)) (args : PatternArgs) → Pattern
    variable : (v : List ℕ) → Pattern
    replacing : (body part value : Pattern) → Pattern

  -- a list of arguments: a name, a pattern, or a bound name with the arguments under it
  pub data PatternArgs : Type 0 where
    no_argument : PatternArgs
    own_name : (x : ℕ) (rest : PatternArgs) → PatternArgs
    child_pattern : (p : Pattern) (rest : PatternArgs) → PatternArgs
    binding : (x : ℕ) (inner rest : PatternArgs) → PatternArgs

abbrev mutual
  -- P holds of each variable of the pattern
  pub EachVariable : (List ℕ → Type 0) → Pattern → Type 0
  EachVariable P (pattern_node op payloads args) = EachVariableIn P args
  EachVariable P (variable v) = P v
  EachVariable P (replacing body part value) = EachVariable P body × EachVariable P part × EachVariable P value

  -- and of each variable of the arguments
  pub EachVariableIn : (List ℕ → Type 0) → PatternArgs → Type 0
  EachVariableIn P no_argument = Unit {0}
  EachVariableIn P (own_name x rest) = EachVariableIn P rest
  EachVariableIn P (child_pattern p rest) = EachVariable P p × EachVariableIn P rest
  EachVariableIn P (binding x inner rest) = EachVariableIn P inner × EachVariableIn P rest

abbrev mutual
  -- child by child, and then the node over the answers; a variable is looked up as what its value finds, and what is to be replaced as nothing
  pub look_up_pattern : State → (ℕ → ℕ) → (List ℕ → Applied) → Pattern → Option Applied
  look_up_pattern g ρ σ (pattern_node op payloads args) = option_and_then (λ found. look_up_node g (node op payloads found)) (look_up_arguments g ρ σ args)
  look_up_pattern g ρ σ (variable v) = Some (find g.found (renamed_id ρ (σ v)))
  look_up_pattern g ρ σ (replacing body part value) = None

  -- the arguments with the answer for each child: under a binder its name is the bound place, in values too
  pub look_up_arguments : State → (ℕ → ℕ) → (List ℕ → Applied) → PatternArgs → Option DArgs
  look_up_arguments g ρ σ no_argument = Some stop
  look_up_arguments g ρ σ (own_name x rest) = option_map (place (ρ x)) (look_up_arguments g ρ σ rest)
  look_up_arguments g ρ σ (child_pattern p rest) = both (λ a found. child_before (as_term a) found) (look_up_pattern g ρ σ p) (look_up_arguments g ρ σ rest)
  look_up_arguments g ρ σ (binding x inner rest) = both scope (look_up_arguments g (extend x ρ) σ inner) (look_up_arguments g ρ σ rest)

-- the arguments of a term as those of a pattern
abbrev pub pattern_args : Args → PatternArgs
pattern_args done = no_argument
pattern_args (name x rest) = own_name x (pattern_args rest)
pattern_args (child op payloads args rest) = child_pattern (pattern_node op payloads (pattern_args args)) (pattern_args rest)
pattern_args (bind x inner rest) = binding x (pattern_args inner) (pattern_args rest)

-- the term as a pattern, which has no variable
abbrev pub pattern_of : Term → Pattern
pattern_of t = pattern_node t.op t.payloads (pattern_args t.args)

-- b is a full id of the row's source, and finds what a finds
pub record IsOfRow (g : State) (r : Row) (b a : Applied) : Type 0 where
  pub filed : Contains g.rows r
  pub full : IsFull g.nodes b
  pub source : b.0 ≡ r.source
  pub same : find g.found b ≡ find g.found a

abbrev mutual
  -- a variable matches what finds alike with its value; a node matches an id if its children match those of some row of the id's
  -- class, with the id's names put in
  pub Matches : State → (ℕ → ℕ) → (List ℕ → Applied) → Pattern → Applied → Type 0
  Matches g ρ σ (pattern_node op payloads args) a =
      (r : Row) × (b : Applied) × IsOfRow g r b a × (r.shape.op ≡ op) × (r.shape.payloads ≡ payloads) ×
      MatchesArguments g ρ σ args (row_node r b).args
  Matches g ρ σ (variable v) a = find g.found (renamed_id ρ (σ v)) ≡ find g.found a
  Matches g ρ σ (replacing body part value) a = ⊥

  -- the same names and binders, and in the place of each child pattern an id that it matches
  pub MatchesArguments : State → (ℕ → ℕ) → (List ℕ → Applied) → PatternArgs → DArgs → Type 0
  MatchesArguments g ρ σ no_argument e = e ≡ stop
  MatchesArguments g ρ σ (own_name x rest) e = (r : DArgs) × (e ≡ place (ρ x) r) × MatchesArguments g ρ σ rest r
  MatchesArguments g ρ σ (child_pattern p rest) e =
      (c : Applied) × (r : DArgs) × (e ≡ child_before (as_term c) r) × Matches g ρ σ p c × MatchesArguments g ρ σ rest r
  MatchesArguments g ρ σ (binding x inner rest) e =
      (i : DArgs) × (r : DArgs) × (e ≡ scope i r) × MatchesArguments g (extend x ρ) σ inner i × MatchesArguments g ρ σ rest r
