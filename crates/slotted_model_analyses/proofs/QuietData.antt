-- The row of a new class makes what its node made, so its first turn changes no data.
use Rattle.std.proofs.Common.{◌≡◌, ◌≢◌, ℕ, ◌<◌, List, [], ◌∷◌, Bool, length, cond, sym, ◌∙◌, ap, refl, subst, inl, inr, arith}
use Rattle.std.specs.Prelude.{Contains, map, not}
use Rattle.std.proofs.lemmas.Bool.{eq-eqb, ne_eqb}
use Rattle.std.proofs.lemmas.List.{length-map}
use Rattle.slotted_lists.proofs.Contained.{contains_head, contains_tail, contains_cases}
use Rattle.slotted_theory.specs.Nameless.{DTerm}
use Rattle.slotted_theory.specs.Shape.{free_names, number_in, shape}
use Rattle.slotted_theory.proofs.Shapes.{number_in-injective}
use Rattle.slotted_model.specs.Classes.{IsFull}
use Rattle.slotted_model.specs.Cost.{child_count, AreAlike}
use Rattle.slotted_model.specs.Find.{find_class}
use Rattle.slotted_model.specs.Growth.{IsNew}
use Rattle.slotted_model.specs.Normal.{normal}
use Rattle.slotted_model.specs.State.{Row, State, normal_node, child_classes}
use Rattle.slotted_model.specs.Rest.{Sane}
use Rattle.slotted_model.specs.Rebuild.{without, with_row, row_for, refiled_state, IsCovered, Turn, refiles}
use Rattle.slotted_model.specs.Adding.{with_new_class, with_new_row, with_quiet_row}
use Rattle.slotted_model.proofs.LeastTerms.Costs.{alike-moved, child_classes-count}
use Rattle.slotted_model.proofs.Rebuilding.KeepingLookUps.{children-below}
use Rattle.slotted_model.proofs.Represented.Terms.{term_at-seam}
use Rattle.slotted_model.proofs.Rebuilding.Touching.{child_classes-moved}
use Rattle.slotted_model_analyses.specs.Analysis.{Analysis, IsMerge, MakesAlike, Absorbs}
use Rattle.slotted_model_analyses.specs.DataPart.{DataPart, made, taken, HasNoted, absorbed, RunsWithData, starts, takes_turn}
use Rattle.slotted_model_analyses.specs.DataWrites.{made_of_found, with_new_data}
use Rattle.slotted_model_analyses.proofs.Absorbing.{absorbs-same}
use Rattle.slotted_model_analyses.proofs.FiledAgain.{with_row-again, normal-classes, normal-alike, map-map}
use Rattle.slotted_model_analyses.proofs.Growing.{class-same, class-below, old-data, new-class, new-data}

map-agrees : {X : Type 0} (f h : ℕ → X) (xs : List ℕ) → ((x : ℕ) → Contains xs x → f x ≡ h x) → map f xs ≡ map h xs
map-agrees f h [] same = refl
map-agrees f h (x ∷ xs) same = λ i. same x (contains_head x xs) i ∷ map-agrees f h xs (λ y c. same y (contains_tail x xs y c)) i

module _ {D : Type 0} (P : DTerm → Type 0) (a : Analysis D) (law : IsMerge D a) (alike : MakesAlike P D a) (closed : (d e : DTerm) → AreAlike d e → P e → P d) where
  module _ (g : State) (sane : Sane g) (s : DataPart D) (c : DTerm) (new : IsNew g.nodes c) (known : P c) (changed : List ℕ) (noted : HasNoted (length g.nodes) s.changed changed) where
    abbrev newer : State
    newer = with_new_class g c

    abbrev i : ℕ
    i = length g.nodes

    abbrev t : DataPart D
    t = with_new_data a g s c changed

    abbrev cs : List ℕ
    cs = child_classes c.args

    abbrev N : DTerm
    N = normal_node newer i

    node-is : N ≡ normal newer.found c
    node-is = ap (normal newer.found) (term_at-seam g.nodes c)

    shape-classes : child_classes (shape N).args ≡ map (find_class newer.found) cs
    shape-classes = child_classes-moved (number_in (free_names N.args)) N.args ∙ (ap (λ (d : DTerm). child_classes d.args) node-is ∙ normal-classes newer.found c.args)

    data-same : map t.data_of (child_classes (shape N).args) ≡ map (λ k. s.data_of (find_class g.found k)) cs
    data-same =
        ap (map t.data_of) shape-classes
        ∙ (map-map (find_class newer.found) t.data_of cs
        ∙ map-agrees (λ k. t.data_of (find_class newer.found k)) (λ k. s.data_of (find_class g.found k)) cs (λ k d.
        let l : k < i = children-below (IsFull g.nodes) i (λ b f. f.in_range) c.args new.children k d in
        ap t.data_of (class-same a g sane s c new changed noted k l) ∙ old-data a g sane s c new changed noted (find_class g.found k) (class-below a g sane s c new changed noted k l)))

    similar : AreAlike (shape N) c
    similar = alike-moved (number_in (free_names N.args)) (number_in-injective (free_names N.args)) N ∙ subst (λ d. AreAlike d c) (sym node-is) (normal-alike newer.found c)

    row-makes : made a t (row_for newer i).shape ≡ made_of_found a g s c
    row-makes =
        ap (a.make (shape N)) data-same
        ∙ alike (shape N) c (map (λ k. s.data_of (find_class g.found k)) cs) (closed (shape N) c similar known) known similar
        (let l : length (map (λ k. s.data_of (find_class g.found k)) cs) ≡ length cs = length-map cs (λ k. s.data_of (find_class g.found k)) in
        let m : length (child_classes (shape N).args) ≡ length (map (find_class newer.found) cs) = ap length shape-classes in
        let n : length (map (find_class newer.found) cs) ≡ length cs = length-map cs (find_class newer.found) in
        let o : length (child_classes (shape N).args) ≡ child_count (shape N).args = child_classes-count (shape N).args in
        omega arith)

    pub new-row-same : (made a t (row_for newer i).shape ≡ made_of_found a g s c) × Absorbs a (t.data_of (find_class newer.found i)) (made a t (row_for newer i).shape)
    new-row-same = (
      row-makes,
      subst (λ k. Absorbs a (t.data_of k) (made a t (row_for newer i).shape)) (sym (new-class a g sane s c new changed noted))
          (subst (Absorbs a (t.data_of i)) (sym (row-makes)) (subst (λ v. Absorbs a v (made_of_found a g s c)) (sym (new-data a g sane s c new changed noted)) (absorbs-same a law (made_of_found a g s c)))),
    )

-- what is put before a list without it, and left out again
without-own : (i : ℕ) (xs : List ℕ) → ¬ Contains xs i → without i (i ∷ xs) ≡ xs
without-own i xs n = ap (λ (b : Bool). cond (not b) (i ∷ without i xs) (without i xs)) (eq-eqb i i refl) ∙ none i xs n
  where
    none : (i : ℕ) (xs : List ℕ) → ¬ Contains xs i → without i xs ≡ xs
    none i [] n = refl
    none i (x ∷ xs) n =
        ap (λ (b : Bool). cond (not b) (x ∷ without i xs) (without i xs)) (ne_eqb x i (λ e. n (subst (Contains (x ∷ xs)) e (contains_head x xs))))
        ∙ ap (λ (ys : List ℕ). x ∷ ys) (none i xs (λ c. n (contains_tail x xs i c)))

module _ {D : Type 0} (a : Analysis D) (g : State) (i : ℕ) (covered : IsCovered g i) (other : (r : Row) → Contains g.rows r → r.source ≢ i)
    (new : (r : Row) → Contains g.rows r → r.shape ≢ shape (normal_node g i)) (idle : ¬ Contains g.waiting i) (s : DataPart D) (free : ¬ Contains s.pending i)
    (absorbs : Absorbs a (s.data_of (find_class g.found i)) (made a s (row_for g i).shape)) where
  abbrev filed : State
  filed = with_new_row g i

  abbrev before : DataPart D
  before = record s { pending = i ∷ s.pending }

  no_other : (r : Row) → Contains filed.rows r → r.source ≢ i → r.shape ≢ shape (normal_node g i)
  no_other r c n = elim (contains_cases (row_for g i) g.rows r c) [
    | inl e ↦ absurd (n (ap (λ (q : Row). q.source) e))
    | inr h ↦ new r h
  ]

  rows-are : with_row (row_for g i) (row_for g i ∷ g.rows) ≡ row_for g i ∷ g.rows
  rows-are = with_row-again (row_for g i) (row_for g i ∷ g.rows) (λ r c e. elim (contains_cases (row_for g i) g.rows r c) [
    | inl q ↦ q
    | inr h ↦ absurd (other r h e)
  ])

  pub quiet-run-with : RunsWithData a filed before 1 (with_quiet_row g i) s
  quiet-run-with =
      let t : Turn filed (refiled_state filed i) = refiles i (contains_head i g.waiting) covered no_other in
      let graph : refiled_state filed i ≡ with_quiet_row g i = λ j. record g { rows = rows-are j; waiting = without-own i g.waiting idle j } in
      let part : taken before i ≡ s = λ j. record s { pending = without-own i s.pending free j } in
      let run : RunsWithData a filed before 1 (refiled_state filed i) (taken before i) = takes_turn starts t (absorbed absorbs) in
      subst (λ u. RunsWithData a filed before 1 (with_quiet_row g i) u) part (subst (λ h. RunsWithData a filed before 1 h (taken before i)) graph run)
