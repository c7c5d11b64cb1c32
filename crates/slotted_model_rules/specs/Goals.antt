-- Goals: patterns, each to be found at an id, one after another. A machine that goes depth first has a list of them.
--     FoundAll g order goals st outs    from the state st all goals are found in these states
--     goals_of args n                   the child patterns of a node of the pattern, each at the child that stands in its place
--     AtRow g op payloads args st a next r here    what the matcher makes of the row r, where `next` says what comes of the state after the walk
--     own_slots, own_names              the names that a node itself writes, binders too, from the left: of the pattern's, and of the graph's
--     paired_all pairs names slots      the pairs after each name was held beside the slot in its place
--     outlines_agree args n             whether names, binders and children stand in the same places
--     has_outline args d                the same of a node without names
use Rattle.std.specs.Prelude.{◌≡◌, ◌⊎◌, ℕ, List, [], ◌∷◌, ◌++◌, Option, Some, None, option_and_then, Bool, true, false, ◌&&◌}
use Rattle.slotted_theory.specs.Nameless.{DArgs, stop, place, sub, scope}
use Rattle.slotted_model.specs.Applied.{Applied}
use Rattle.slotted_model.specs.State.{Row, State}
use Rattle.slotted_model_rules.specs.Patterns.{Pattern, PatternArgs, no_argument, own_name, child_pattern, binding}
use Rattle.slotted_model_rules.specs.Matcher.{NodeArgs, no_more, a_name, an_id, a_binder, written_names, rest_of, id_of_first, inside_first, MatchState, paired, walked, IsRowFor, IsNodeOf, Gives, IfThere, Found}

-- each goal from each state in which the ones before it were found
abbrev pub FoundAll : State → List Row → List (Pattern × Applied) → MatchState → List MatchState → Type 0
FoundAll g order [] st outs = outs ≡ st ∷ []
FoundAll g order (q ∷ goals) st outs = (mid : List MatchState) × Found g order q.0 st q.1 mid ×
    Gives (λ s here. FoundAll g order goals s here) mid outs

-- the child patterns, in the order in which the matcher goes through them
abbrev pub goals_of : PatternArgs → NodeArgs → List (Pattern × Applied)
goals_of no_argument n = []
goals_of (own_name x rest) n = goals_of rest (rest_of n)
goals_of (child_pattern p rest) n = (p, id_of_first n) ∷ goals_of rest (rest_of n)
goals_of (binding x inner rest) n = goals_of inner (inside_first n) ++ goals_of rest (rest_of n)

-- the state after the node n was walked
abbrev pub after_walk : MatchState → NodeArgs → List (ℕ × ℕ) → MatchState
after_walk st n pairs = record { values = st.values; pairs = pairs; seen = written_names n ++ st.seen }

-- nothing comes of a row that does not fit, and of one whose node is not walked to its end
abbrev pub AtRow : State → ℕ → List (List ℕ) → PatternArgs → MatchState → Applied → (NodeArgs → MatchState → List MatchState → Type 0) → Row → List MatchState → Type 0
AtRow g op payloads args st a next r here =
    ((¬ IsRowFor g r op payloads a) × (here ≡ []))
    ⊎ ((n : NodeArgs) × IsRowFor g r op payloads a × IsNodeOf g st.seen r a n
    × IfThere (walked args n st.pairs) (λ pairs. next n (after_walk st n pairs) here) (here ≡ []))

-- names and binders of a node of the pattern, from the left, without those of child patterns
abbrev pub own_slots : PatternArgs → List ℕ
own_slots no_argument = []
own_slots (own_name x rest) = x ∷ own_slots rest
own_slots (child_pattern p rest) = own_slots rest
own_slots (binding x inner rest) = x ∷ (own_slots inner ++ own_slots rest)

-- and of a node of the graph, without those of its children
abbrev pub own_names : NodeArgs → List ℕ
own_names no_more = []
own_names (a_name y rest) = y ∷ own_names rest
own_names (an_id a rest) = own_names rest
own_names (a_binder y inner rest) = y ∷ (own_names inner ++ own_names rest)

-- pair by pair, as long as each can be added; lists of two lengths are not paired
abbrev pub paired_all : List (ℕ × ℕ) → List ℕ → List ℕ → Option (List (ℕ × ℕ))
paired_all pairs [] [] = Some pairs
paired_all pairs [] (x ∷ xs) = None
paired_all pairs (y ∷ ys) [] = None
paired_all pairs (y ∷ ys) (x ∷ xs) = option_and_then (λ more. paired_all more ys xs) (paired pairs y x)

-- a name beside a name, an id beside a child pattern, and a binder beside a binder, with arguments that agree
abbrev pub outlines_agree : PatternArgs → NodeArgs → Bool
outlines_agree no_argument no_more = true
outlines_agree (own_name x rest) (a_name y n) = outlines_agree rest n
outlines_agree (child_pattern p rest) (an_id a n) = outlines_agree rest n
outlines_agree (binding x inner rest) (a_binder y m n) = outlines_agree inner m && outlines_agree rest n
outlines_agree _ _ = false

-- the same of a node without names
abbrev pub has_outline : PatternArgs → DArgs → Bool
has_outline no_argument stop = true
has_outline (own_name x rest) (place y d) = has_outline rest d
has_outline (child_pattern p rest) (sub op payloads args d) = has_outline rest d
has_outline (binding x inner rest) (scope i d) = has_outline inner i && has_outline rest d
has_outline _ _ = false
