-- The slots that printing takes: those of the sides of a line, one after the other, and those of the lines in turn.
use Rattle.std.proofs.Common.{◌≡◌, ◌<◌, ◌≤◌, ◌+◌, ◌∙◌, ℕ, zero, suc, List, [], ◌∷◌, length, take, ap, sym, subst, arith, inl, inr}
use Rattle.std.specs.Prelude.{slice_index_or}
use Rattle.slotted_model.specs.Applied.{Applied}
use Rattle.slotted_proofs.specs.Entries.{statement_at}
use Rattle.slotted_proofs.specs.Equations.{AreSides}
use Rattle.slotted_graph.specs.Causes.{HasLargePart}
use Rattle.slotted_graph.specs.Graph.{Graph, MakesAtMost, RunsOut}
use Rattle.slotted_graph.specs.Image.{Image}
use Rattle.slotted_graph.specs.Syn.{term_binders, MakesForTermAt, RunsOutForTermAt}
use Rattle.slotted_graph.proofs.Tables.{makes-more, makes-then, runs_out-more, runs_out-then}
use Rattle.slotted_explain.specs.Printed.{line_binders, lines_binders, HasLargeSide, LineRunsOut, LinesRunOut, MakesForLine, MakesForLines}

-- a line's sides
module _ (g : Graph) (p : ℕ) (a b : Applied) (sides : AreSides (statement_at g.image.stored p) a b) where
  left_class : a.0 ≡ (statement_at g.image.stored p).equation.left
  left_class = ap (λ (x : Applied). x.0) sides.left

  right_class : b.0 ≡ (statement_at g.image.stored p).equation.right
  right_class = ap (λ (x : Applied). x.0) sides.right

  both : term_binders g.image.canonical a.0 + term_binders g.image.canonical b.0 ≡ line_binders g.image p
  both = λ i. term_binders g.image.canonical (left_class i) + term_binders g.image.canonical (right_class i)

  pub left_makes : (h : Graph) → MakesForTermAt g h a.0 → MakesForLine g h p
  left_makes h m = makes-more (term_binders g.image.canonical a.0) (line_binders g.image p) g.table h.table m (omega (arith, both))

  pub both_make : (h k : Graph) → h.image ≡ g.image → MakesForTermAt g h a.0 → MakesForTermAt h k b.0 → MakesForLine g k p
  both_make h k image m n =
      makes-then (term_binders g.image.canonical a.0) (term_binders g.image.canonical b.0) (line_binders g.image p) g.table h.table k.table m
      (subst (λ (x : Image). MakesAtMost (term_binders x.canonical b.0) h.table k.table) image n) (omega (arith, both))

  pub left_lacks : (h : Graph) → RunsOutForTermAt g h a.0 → LineRunsOut g h p
  left_lacks h (inl out) = inl (runs_out-more (term_binders g.image.canonical a.0) (line_binders g.image p) g.table h.table out (omega (arith, both)))
  left_lacks h (inr large) = inr (inl (subst (HasLargePart g.image.canonical) left_class large))

  pub right_lacks : (h k : Graph) → h.image ≡ g.image → MakesForTermAt g h a.0 → RunsOutForTermAt h k b.0 → LineRunsOut g k p
  right_lacks h k image m (inl out) =
      inl (runs_out-then (term_binders g.image.canonical a.0) (term_binders g.image.canonical b.0) (line_binders g.image p) g.table h.table k.table m
      (subst (λ (x : Image). RunsOut (term_binders x.canonical b.0) h.table k.table) image out) (omega (arith, both)))
  right_lacks h k image m (inr large) =
      inr (inr (subst (HasLargePart g.image.canonical) right_class (subst (λ (x : Image). HasLargePart x.canonical b.0) image large)))

binders-next : (g : Image) (lines : List ℕ) (k : ℕ) → k < length lines → lines_binders g (take (suc k) lines) ≡ lines_binders g (take k lines) + line_binders g (slice_index_or lines k 0)
binders-next g [] k l = absurd (omega arith)
binders-next g (p ∷ lines) zero l = omega arith
binders-next g (p ∷ lines) (suc k) l = omega (arith, binders-next g lines k (omega (arith, l)))

pub binders-first : (g : Image) (lines : List ℕ) (k : ℕ) → lines_binders g (take k lines) ≤ lines_binders g lines
binders-first g lines zero = omega arith
binders-first g [] (suc k) = omega arith
binders-first g (p ∷ lines) (suc k) = omega (arith, binders-first g lines k)

-- the first lines, and one more
module _ (g h k : Graph) (lines : List ℕ) (i p : ℕ) (lt : i < length lines) (is : slice_index_or lines i 0 ≡ p) (image : h.image ≡ g.image) (before : MakesForLines g h (take i lines)) where
  next : lines_binders g.image (take (i + 1) lines) ≡ lines_binders g.image (take i lines) + line_binders g.image p
  next =
      let e : i + 1 ≡ suc i = omega arith in
      ap (λ n. lines_binders g.image (take n lines)) e ∙ (binders-next g.image lines i lt ∙ ap (λ q. lines_binders g.image (take i lines) + line_binders g.image q) is)

  pub line_makes : MakesForLine h k p → MakesForLines g k (take (i + 1) lines)
  line_makes m =
      makes-then (lines_binders g.image (take i lines)) (line_binders g.image p) (lines_binders g.image (take (i + 1) lines)) g.table h.table k.table before
      (subst (λ (x : Image). MakesAtMost (line_binders x p) h.table k.table) image m) (omega (arith, next))

  pub all_make : MakesForLine h k p → MakesForLines g k lines
  all_make m = makes-more (lines_binders g.image (take (i + 1) lines)) (lines_binders g.image lines) g.table k.table (line_makes m) (binders-first g.image lines (i + 1))

  pub line_lacks : LineRunsOut h k p → LinesRunOut g k lines
  line_lacks (inl out) =
      inl (runs_out-then (lines_binders g.image (take i lines)) (line_binders g.image p) (lines_binders g.image lines) g.table h.table k.table before
      (subst (λ (x : Image). RunsOut (line_binders x p) h.table k.table) image out) (omega (arith, next, binders-first g.image lines (i + 1))))
  line_lacks (inr large) = inr (i, lt, subst (HasLargeSide g.image) (sym is) (subst (λ (x : Image). HasLargeSide x p) image large))
