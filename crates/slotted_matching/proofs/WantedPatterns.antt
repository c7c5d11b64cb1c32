-- A pattern gives way to its child patterns, which are wanted next.
use Rattle.std.proofs.Common.{◌≡◌, ℕ, suc, ◌+◌, ◌<◌, List, [], ◌∷◌, ◌++◌, drop, map, reverse, option_to_list, false, refl, sym, ap, ◌∙◌, subst, arith, inl, inr}
use Rattle.std.specs.Prelude.{Option, Some, None, option_and_then}
use Rattle.std.proofs.lemmas.List.{reverse-append, map-append}
use Rattle.slotted_lists.proofs.Booleans.{or-false}
use Rattle.slotted_slots.specs.Table.{Table}
use Rattle.slotted_nodes.specs.Form.{Form}
use Rattle.slotted_patterns.specs.Known.{HasKnownNames, HaveKnownNames}
use Rattle.slotted_patterns.specs.Tree.{PatternTree, enode, pvar, substitution, PatternRow, no_more, one_more, row_of}
use Rattle.slotted_patterns.specs.View.{tree_of}
use Rattle.slotted_patterns.specs.declared.pattern.Pattern.{Pattern as Term}
use Rattle.slotted_model.specs.LookUp.{both}
use Rattle.slotted_model_rules.specs.Patterns.{Pattern, variable}
use Rattle.slotted_rule_patterns.specs.PatternCode.{pattern_in, patterns_in, pattern_over}
use Rattle.slotted_rule_patterns.specs.Variables.{has_substitution, have_substitution}
use Rattle.slotted_rule_patterns.proofs.Parts.{first-parts, node-parts}
use Rattle.slotted_rule_patterns.proofs.Sizes.{pattern_size, row_size}
use Rattle.slotted_match_machine.specs.declared.program.Source.{Source}
use Rattle.slotted_match_machine.specs.Programs.{placed}
use Rattle.slotted_matching.specs.Compiled.{Adds, AddsPattern, AddsSlots, Compiling, Enters, Goal, HasWideNode, HaveWideNode, KnowsEach}
use Rattle.slotted_matching.specs.Wanted.{AddsEach, Opens, below, goals_in, placed_in, wanted}
use Rattle.slotted_matching.specs.declared.compile.Wanted.{Wanted}
use Rattle.slotted_matching.proofs.Compiling.{adds-then}

abbrev Want : Type 0
Want = PatternTree × Source

-- the first goal, and the others
record FirstGoal (t : PatternTree) (from : Source) (rest : List Want) (goals : List Goal) : Type 0 where
  pub pattern : Pattern
  pub others : List Goal
  pub is : pattern_in t ≡ Some pattern
  pub others_are : goals_in rest ≡ Some others
  pub all : goals ≡ (pattern, from) ∷ others

first-goal : (t : PatternTree) (from : Source) (rest : List Want) (goals : List Goal) → goals_in ((t, from) ∷ rest) ≡ Some goals → FirstGoal t from rest goals
first-goal t from rest goals = by (pattern_in t) (goals_in rest) refl refl
  where
    by : (p : Option Pattern) (o : Option (List Goal)) → pattern_in t ≡ p → goals_in rest ≡ o → both (λ p goals. (p, from) ∷ goals) p o ≡ Some goals → FirstGoal t from rest goals
    by None o h k e = absurd (cc)
    by (Some p) None h k e = absurd (cc)
    by (Some p) (Some o) h k e = record { pattern = p; others = o; is = h; others_are = k; all = cc }

goals-made : (t : PatternTree) (from : Source) (rest : List Want) (p : Pattern) (goals : List Goal) → pattern_in t ≡ Some p → goals_in rest ≡ Some goals → goals_in ((t, from) ∷ rest) ≡ Some ((p, from) ∷ goals)
goals-made t from rest p goals h k = λ i. both (λ p goals. (p, from) ∷ goals) (h i) (k i)

goals-placed : (r k : ℕ) (row : PatternRow) (ps : List Pattern) → patterns_in row ≡ Some ps → (rest : List Want) (goals : List Goal) → goals_in rest ≡ Some goals → goals_in (placed_in r k row ++ rest) ≡ Some (placed r k ps ++ goals)
goals-placed r k no_more ps e rest goals h = let same : [] ≡ ps = cc in h ∙ ap (λ l. Some (placed r k l ++ goals)) same
goals-placed r k (one_more q row) ps e rest goals h =
    let f = first-parts q row ps e in
    let from : Source = record { register = r; child = k } in
    goals-made q from (placed_in r (suc k) row ++ rest) f.first (placed r (suc k) f.others ++ goals) f.first_is (goals-placed r (suc k) row f.others f.others_are rest goals h)
    ∙ ap (λ l. Some (placed r k l ++ goals)) (sym f.is)

module _ (S : List Form) where
  pub opens-node : (c d : Compiling) (f : Form) (row : PatternRow) (from : Source) (register : ℕ) → Enters S c d f from register
      → (e : Compiling) (rest : List Want) → AddsEach S d e (placed_in register 0 row ++ rest) → AddsEach S c e ((enode f row, from) ∷ rest)
  opens-node c d f row from register enters e rest adds goals is =
      let g = first-goal (enode f row) from rest goals is in
      let o = node-parts f row g.pattern g.is in
      subst (Adds S c e) (sym g.all)
      (enters.finds o.patterns g.pattern (ap (option_and_then (pattern_over f)) (sym o.are) ∙ g.is) e g.others
      (adds (placed register 0 o.patterns ++ g.others) (goals-placed register 0 row o.patterns o.are rest g.others g.others_are)))

  pub opens-variable : (c d : Compiling) (v : List ℕ) (from : Source) → Adds S c d ((variable v, from) ∷ [])
      → (e : Compiling) (rest : List Want) → AddsEach S d e rest → AddsEach S c e ((pvar v, from) ∷ rest)
  opens-variable c d v from added e rest adds goals is =
      let g = first-goal (pvar v) from rest goals is in
      let same : variable v ≡ g.pattern = let k = g.is in cc in
      subst (Adds S c e) (ap (λ p. (p, from) ∷ g.others) same ∙ sym g.all) (adds-then S c d e ((variable v, from) ∷ []) g.others added (adds g.others g.others_are))

-- what holds of each pattern that is wanted
abbrev pub EachWanted : (PatternTree → Type 0) → List Want → Type 0
EachWanted P [] = Unit {0}
EachWanted P (w ∷ ws) = P w.0 × EachWanted P ws

module _ (P : PatternTree → Type 0) (Q : PatternRow → Type 0) (parts : (p : PatternTree) (rest : PatternRow) → Q (one_more p rest) → P p × Q rest) where
  each-placed : (r k : ℕ) (row : PatternRow) (ws : List Want) → Q row → EachWanted P ws → EachWanted P (placed_in r k row ++ ws)
  each-placed r k no_more ws h each = each
  each-placed r k (one_more p rest) ws h each = let b = parts p rest h in (b.0, each-placed r (suc k) rest ws b.1 each)

  pub each-below : (t : PatternTree) (r : ℕ) (ws : List Want) → ((f : Form) (row : PatternRow) → t ≡ enode f row → Q row) → EachWanted P ws → EachWanted P (below t r ++ ws)
  each-below (enode f row) r ws h each = each-placed r 0 row ws (h f row refl) each
  each-below (pvar v) r ws h each = each
  each-below (substitution b x t) r ws h each = each

pub plain-below : (t : PatternTree) (r : ℕ) (ws : List Want) → has_substitution t ≡ false → EachWanted (λ p. has_substitution p ≡ false) ws → EachWanted (λ p. has_substitution p ≡ false) (below t r ++ ws)
plain-below t r ws h =
    each-below (λ p. has_substitution p ≡ false) (λ row. have_substitution row ≡ false) (λ p rest e. or-false (has_substitution p) (have_substitution rest) e) t r ws
    (λ f row is. ap has_substitution (sym is) ∙ h)

pub known-below : (u : Table) (t : PatternTree) (r : ℕ) (ws : List Want) → HasKnownNames u t → EachWanted (HasKnownNames u) ws → EachWanted (HasKnownNames u) (below t r ++ ws)
known-below u t r ws h = each-below (HasKnownNames u) (HaveKnownNames u) (λ p rest k. k) t r ws (λ f row is. (subst (HasKnownNames u) is h).1)

-- a wide node among them is one of P
pub wide-below : (P : Type 0) (t : PatternTree) (r : ℕ) (ws : List Want) → (HasWideNode t → P) → EachWanted (λ p. HasWideNode p → P) ws → EachWanted (λ p. HasWideNode p → P) (below t r ++ ws)
wide-below P t r ws h =
    each-below (λ p. HasWideNode p → P) (λ row. HaveWideNode row → P) (λ p rest k. (λ w. k (inl w), λ w. k (inr w))) t r ws
    (λ f row is w. h (subst HasWideNode (sym is) (inr w)))

-- the sizes of all of them
abbrev pub wanted_size : List Want → ℕ
wanted_size [] = 0
wanted_size (w ∷ ws) = pattern_size w.0 + wanted_size ws

size-placed : (r k : ℕ) (row : PatternRow) (ws : List Want) → wanted_size (placed_in r k row ++ ws) ≡ row_size row + wanted_size ws
size-placed r k no_more ws = omega arith
size-placed r k (one_more p rest) ws = omega (arith, size-placed r (suc k) rest ws)

pub size-below : (t : PatternTree) (r : ℕ) (ws : List Want) → wanted_size (below t r ++ ws) < pattern_size t + wanted_size ws
size-below (enode f row) r ws = omega (arith, size-placed r 0 row ws)
size-below (pvar v) r ws = omega arith
size-below (substitution b x t) r ws = omega arith

-- what finds all that is left finds the pattern t, of which c knew nothing
pub record LeftOver (S : List Form) (c d : Compiling) (t : PatternTree) (from : Source) (left : List Want) : Type 0 where
  pub finds : (e : Compiling) → AddsEach S d e left → AddsPattern S c e t from
  pub slots : (u : Table) → HasKnownNames u t → KnowsEach u c.slots → KnowsEach u d.slots × EachWanted (HasKnownNames u) left
  pub wide : EachWanted (λ p. HasWideNode p → HasWideNode t) left
  pub plain : EachWanted (λ p. has_substitution p ≡ false) left

pub left-step : (S : List Form) (c d e : Compiling) (t : PatternTree) (from : Source) (p : PatternTree) (at : Source) (rest new : List Want) → LeftOver S c d t from ((p, at) ∷ rest) → Opens S d e p at rest new → AddsSlots d.slots e.slots p → LeftOver S c e t from new
left-step S c d e t from p at rest new h o slots = subst (LeftOver S c e t from) (sym o.joined) (record {
  finds = λ z adds. h.finds z (o.finds z rest adds);
  slots = λ u known before.
      let k = h.slots u known before in
      (slots u k.1.0 k.0, known-below u p o.register rest k.1.0 k.1.1);
  wide = wide-below (HasWideNode t) p o.register rest h.wide.0 h.wide.1;
  plain = plain-below p o.register rest h.plain.0 h.plain.1;
})

pub left-smaller : (S : List Form) (d e : Compiling) (p : PatternTree) (at : Source) (rest new : List Want) → Opens S d e p at rest new → wanted_size new < wanted_size ((p, at) ∷ rest)
left-smaller S d e p at rest new o = omega (arith, ap wanted_size o.joined, size-below p o.register rest)

module _ {L : Type 0} (form : L → Form) where
  abbrev seen : Wanted L → Want
  seen w = (tree_of form w.pattern.now, w.from)

  -- one more on the stack
  pub wanted-push : (old : List (Wanted L)) (w : Wanted L) → wanted form (old ++ w ∷ []) ≡ seen w ∷ wanted form old
  wanted-push old w = ap reverse (map-append seen old (w ∷ [])) ∙ reverse-append (map seen old) (seen w ∷ [])

  pub wanted-pop : (all rest : List (Wanted L)) (o : Option (Wanted L)) (w : Wanted L) → all ≡ rest ++ option_to_list o → o ≡ Some w → wanted form all ≡ seen w ∷ wanted form rest
  wanted-pop all rest o w last is = ap (wanted form) (last ∙ ap (λ o. rest ++ option_to_list o) is) ∙ wanted-push rest w

  -- the child patterns from the place k on
  abbrev pub from_place : ℕ → ℕ → List (Term L) → List Want
  from_place r k es = placed_in r k (row_of (map (tree_of form) (drop k es)))
