-- Patterns that are still to be compiled, the next one first.
--     wanted form ws       what a stack of them holds, from its end
--     goals_in ws          what they are for the machine, if they are patterns
--     AddsEach S c d ws    from c to d the steps are added that find them
--     placed_in r k row    the patterns of a row, each at a child of the register r, from the child k on
--     below t r            the child patterns of t, if it is a node that the register r holds
--     Opens S c d t from   the step of t is added, and its child patterns come before those that were wanted
use Rattle.std.specs.Prelude.{◌≡◌, ℕ, suc, List, [], ◌∷◌, ◌++◌, map, reverse, Option, Some}
use Rattle.slotted_nodes.specs.Form.{Form}
use Rattle.slotted_patterns.specs.Tree.{PatternTree, enode, pvar, substitution, PatternRow, no_more, one_more}
use Rattle.slotted_patterns.specs.View.{tree_of}
use Rattle.slotted_model.specs.LookUp.{both}
use Rattle.slotted_rule_patterns.specs.PatternCode.{pattern_in}
use Rattle.slotted_match_machine.specs.declared.program.Source.{Source}
use Rattle.slotted_matching.specs.Compiled.{Adds, Compiling, Goal}
use Rattle.slotted_matching.specs.declared.compile.Wanted.{Wanted}

abbrev pub wanted : {L : Type 0} → (L → Form) → List (Wanted L) → List (PatternTree × Source)
wanted form ws = reverse (map (λ w. (tree_of form w.pattern.now, w.from)) ws)

abbrev pub goals_in : List (PatternTree × Source) → Option (List Goal)
goals_in [] = Some []
goals_in (w ∷ ws) = both (λ p goals. (p, w.1) ∷ goals) (pattern_in w.0) (goals_in ws)

abbrev pub AddsEach : List Form → Compiling → Compiling → List (PatternTree × Source) → Type 0
AddsEach S c d ws = (goals : List Goal) → goals_in ws ≡ Some goals → Adds S c d goals

abbrev pub placed_in : ℕ → ℕ → PatternRow → List (PatternTree × Source)
placed_in r k no_more = []
placed_in r k (one_more p rest) = (p, record { register = r; child = k }) ∷ placed_in r (suc k) rest

abbrev pub below : PatternTree → ℕ → List (PatternTree × Source)
below (enode f row) r = placed_in r 0 row
below (pvar v) r = []
below (substitution b x t) r = []

pub record Opens (S : List Form) (c d : Compiling) (t : PatternTree) (from : Source) (old new : List (PatternTree × Source)) : Type 0 where
  pub register : ℕ
  pub joined : new ≡ below t register ++ old
  pub finds : (e : Compiling) (rest : List (PatternTree × Source)) → AddsEach S d e (below t register ++ rest) → AddsEach S c e ((t, from) ∷ rest)
