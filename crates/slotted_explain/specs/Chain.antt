-- A proof as a chain of whole terms: which assertions rewrite which places, in the order of use, and what printing them takes.
--     Rewrite                   an entry that rewrites one place of a term
--     part_rewrites r s         those of the parts of its step s there, in the order of use
--     Rewrites list rs steps    the rewrites rs, one after the other, come down to these, each by an assertion
--     IsChain list p steps      so does the proof of p, at the top of the term
--     chain_binders g p steps   how many binders the canonical terms have that the chain is made of
--     MakesForChain g h p       no more fresh slots are made than that for the chain of p
--     ChainRunsOut g h p        slots ran out in printing it
use Rattle.std.specs.Prelude.{◌≡◌, ◌⊎◌, ◌+◌, ◌*◌, ◌<◌, ℕ, suc, Bool, false, cond, not, List, [], ◌∷◌, ◌++◌, length, All, Contains}
use Rattle.std.specs.List.{sum_by}
use Rattle.slotted_model.specs.ProofList.{Step, explicit, reflexive, symmetric, transitive, congruent}
use Rattle.slotted_proofs.specs.Entries.{Proven, is_explicit, proven_at, statement_at}
use Rattle.slotted_graph.specs.Causes.{HasLargePart}
use Rattle.slotted_graph.specs.Graph.{Graph, MakesAtMost, RunsOutIn}
use Rattle.slotted_graph.specs.Image.{Image}
use Rattle.slotted_graph.specs.Syn.{term_binders}

-- an entry that rewrites one place of a term, a turned one from right to left
-- the path has the child to go down to at each node from the top
pub record Rewrite : Type 0 where
  pub entry : ℕ
  pub turned : Bool
  pub path : List ℕ

abbrev pub rewrite : ℕ → Bool → List ℕ → Rewrite
rewrite p turned path = record { entry = p; turned = turned; path = path }

-- an entry at the child k of the place that r rewrites, and some entries at the children from there on
abbrev pub child_rewrite : Rewrite → ℕ → ℕ → Rewrite
child_rewrite r k p = rewrite p r.turned (r.path ++ k ∷ [])

abbrev pub child_rewrites : Rewrite → ℕ → List ℕ → List Rewrite
child_rewrites r k [] = []
child_rewrites r k (p ∷ ps) = child_rewrite r k p ∷ child_rewrites r (suc k) ps

-- one after the other, the second one first where they are turned
abbrev pub in_order : Bool → Rewrite → Rewrite → List Rewrite
in_order turned x y = cond turned (y ∷ x ∷ []) (x ∷ y ∷ [])

-- the parts of the step of what r rewrites by, in the order of use
abbrev pub part_rewrites : Rewrite → Step → List Rewrite
part_rewrites r explicit = []
part_rewrites r reflexive = []
part_rewrites r (symmetric p) = rewrite p (not r.turned) r.path ∷ []
part_rewrites r (transitive p q) = in_order r.turned (rewrite p r.turned r.path) (rewrite q r.turned r.path)
part_rewrites r (congruent ps) = child_rewrites r 0 ps

-- what a rewrite comes down to next, and the step of the chain that it is itself, if it is by an assertion
abbrev pub rewrites_below : List Proven → Rewrite → List Rewrite
rewrites_below list r = part_rewrites r (proven_at list r.entry).step

abbrev pub own_step : List Proven → Rewrite → List Rewrite
own_step list r = cond (is_explicit (proven_at list r.entry).step) (r ∷ []) []

-- the rewrites, one after the other, come down to these steps
pub data Rewrites (list : List Proven) : List Rewrite → List Rewrite → Type 0 where
  none : Rewrites list [] []
  next : {r : Rewrite} {rs steps : List Rewrite} → Rewrites list (rewrites_below list r ++ rs) steps →
      Rewrites list (r ∷ rs) (own_step list r ++ steps)

-- the steps of the chain of terms of an entry's proof
abbrev pub IsChain : List Proven → ℕ → List Rewrite → Type 0
IsChain list p steps = Rewrites list (rewrite p false [] ∷ []) steps

-- each is by an entry of the list
abbrev pub AreWithin : List Proven → List Rewrite → Type 0
AreWithin list rs = All (λ r. r.entry < length list) rs

-- the class that a rewrite begins with, and the one that it puts in
abbrev pub from_class : List Proven → Rewrite → ℕ
from_class list r = cond r.turned (statement_at list r.entry).equation.right (statement_at list r.entry).equation.left

abbrev pub to_class : List Proven → Rewrite → ℕ
to_class list r = cond r.turned (statement_at list r.entry).equation.left (statement_at list r.entry).equation.right

-- for a step the canonical term of the one is made twice, to read the names in its place, and that of the other once
abbrev pub step_binders : Image → Rewrite → ℕ
step_binders g r = 2 * term_binders g.canonical (from_class g.stored r) + term_binders g.canonical (to_class g.stored r)

-- for some steps in turn
abbrev pub steps_binders : Image → List Rewrite → ℕ
steps_binders g rs = sum_by (step_binders g) rs

-- for the left side of p, and then the steps
abbrev pub chain_binders : Image → ℕ → List Rewrite → ℕ
chain_binders g p steps = term_binders g.canonical (statement_at g.stored p).equation.left + steps_binders g steps

-- the canonical term of a class is made twice: no more fresh slots are made than its binders, or fewer were left, or it is too large
abbrev pub MakesForTwoTermsOf : Graph → Graph → ℕ → Type 0
MakesForTwoTermsOf g h i = MakesAtMost (2 * term_binders g.image.canonical i) g.table h.table

abbrev pub RunsOutForTwoTermsOf : Graph → Graph → ℕ → Type 0
RunsOutForTwoTermsOf g h i = RunsOutIn g h (2 * term_binders g.image.canonical i) ⊎ HasLargePart g.image.canonical i

-- no more fresh slots are made than a step has binders, or some steps, or the left side of p and then these
abbrev pub MakesForStep : Graph → Graph → Rewrite → Type 0
MakesForStep g h r = MakesAtMost (step_binders g.image r) g.table h.table

abbrev pub MakesForSteps : Graph → Graph → List Rewrite → Type 0
MakesForSteps g h rs = MakesAtMost (steps_binders g.image rs) g.table h.table

abbrev pub MakesForTerms : Graph → Graph → ℕ → List Rewrite → Type 0
MakesForTerms g h p steps = MakesAtMost (chain_binders g.image p steps) g.table h.table

abbrev pub MakesForChain : Graph → Graph → ℕ → Type 0
MakesForChain g h p =
    (h.table ≡ g.table) ⊎ ((steps : List Rewrite) × IsChain g.image.stored p steps × MakesForTerms g h p steps)

-- a node of the canonical term of one of the two classes has too many places to be numbered
abbrev pub HasLargeStep : Image → Rewrite → Type 0
HasLargeStep g r = HasLargePart g.canonical (from_class g.stored r) ⊎ HasLargePart g.canonical (to_class g.stored r)

-- so has one of some steps
abbrev pub HasLargeStepOf : Image → List Rewrite → Type 0
HasLargeStepOf g rs = (r : Rewrite) × Contains rs r × HasLargeStep g r

-- fewer fresh slots were left than the step has binders, or a term of it is too large
abbrev pub StepRunsOut : Graph → Graph → Rewrite → Type 0
StepRunsOut g h r = RunsOutIn g h (step_binders g.image r) ⊎ HasLargeStep g.image r

-- the same of some steps
abbrev pub StepsRunOut : Graph → Graph → List Rewrite → Type 0
StepsRunOut g h rs = RunsOutIn g h (steps_binders g.image rs) ⊎ HasLargeStepOf g.image rs

-- the same of the left side of p, and then the steps
abbrev pub HasLargeTerm : Image → ℕ → List Rewrite → Type 0
HasLargeTerm g p steps = HasLargePart g.canonical (statement_at g.stored p).equation.left ⊎ HasLargeStepOf g steps

abbrev pub TermsRunOut : Graph → Graph → ℕ → List Rewrite → Type 0
TermsRunOut g h p steps = RunsOutIn g h (chain_binders g.image p steps) ⊎ HasLargeTerm g.image p steps

-- the same of the chain of terms of the proof of p
abbrev pub ChainRunsOut : Graph → Graph → ℕ → Type 0
ChainRunsOut g h p = (steps : List Rewrite) × IsChain g.image.stored p steps × TermsRunOut g h p steps
