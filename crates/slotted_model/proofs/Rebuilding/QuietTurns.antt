-- The first turn of a new class that is covered files its row and changes nothing else.
use Rattle.std.proofs.Common.{◌≡◌, ◌≢◌, ℕ, List, [], ◌∷◌, Bool, cond, ◌∙◌, ap, refl, subst, inl, inr}
use Rattle.std.specs.Prelude.{Contains, not}
use Rattle.std.proofs.lemmas.Bool.{eq-eqb, ne_eqb}
use Rattle.slotted_lists.proofs.Contained.{contains_head, contains_tail, contains_cases}
use Rattle.slotted_theory.specs.Shape.{shape}
use Rattle.slotted_model.specs.State.{Row, State, normal_node}
use Rattle.slotted_model.specs.Rebuild.{row_for, with_row, without, refiled_state, IsCovered, Turn, refiles, Runs, starts, takes_turn}
use Rattle.slotted_model.specs.Adding.{with_new_row, with_quiet_row}

-- what is not there is not left out, and no other row is replaced
pub none-without : (i : ℕ) (xs : List ℕ) → ¬ Contains xs i → without i xs ≡ xs
none-without i [] n = refl
none-without i (x ∷ xs) n =
    ap (λ (b : Bool). cond (not b) (x ∷ without i xs) (without i xs)) (ne_eqb x i (λ e. n (subst (Contains (x ∷ xs)) e (contains_head x xs))))
    ∙ ap (λ (ys : List ℕ). x ∷ ys) (none-without i xs (λ c. n (contains_tail x xs i c)))

none-replaced : (q : Row) (rows : List Row) → ((r : Row) → Contains rows r → r.source ≢ q.source) → with_row q rows ≡ rows
none-replaced q [] other = refl
none-replaced q (r ∷ rows) other =
    ap (λ (b : Bool). cond b q r ∷ with_row q rows) (ne_eqb r.source q.source (other r (contains_head r rows)))
    ∙ ap (λ (rs : List Row). r ∷ rs) (none-replaced q rows (λ p c. other p (contains_tail r rows p c)))

module _ (g : State) (i : ℕ) (covered : IsCovered g i) (other : (r : Row) → Contains g.rows r → r.source ≢ i) (new : (r : Row) → Contains g.rows r → r.shape ≢ shape (normal_node g i)) (idle : ¬ Contains g.waiting i) where
  abbrev waiting : State
  waiting = with_new_row g i

  no_other : (r : Row) → Contains waiting.rows r → r.source ≢ i → r.shape ≢ shape (normal_node g i)
  no_other r c n = elim (contains_cases (row_for g i) g.rows r c) [
    | inl e ↦ absurd (n (ap (λ (q : Row). q.source) e))
    | inr h ↦ new r h
  ]

  rows-are : with_row (row_for g i) (row_for g i ∷ g.rows) ≡ row_for g i ∷ g.rows
  rows-are =
      ap (λ (b : Bool). cond b (row_for g i) (row_for g i) ∷ with_row (row_for g i) g.rows) (eq-eqb i i refl)
      ∙ ap (λ (rs : List Row). row_for g i ∷ rs) (none-replaced (row_for g i) g.rows other)

  waits-are : without i (i ∷ g.waiting) ≡ g.waiting
  waits-are = ap (λ (b : Bool). cond (not b) (i ∷ without i g.waiting) (without i g.waiting)) (eq-eqb i i refl) ∙ none-without i g.waiting idle

  pub quiet-run : Runs waiting 1 (with_quiet_row g i)
  quiet-run =
      let t : Turn waiting (refiled_state waiting i) = refiles i (contains_head i g.waiting) covered no_other in
      let same : refiled_state waiting i ≡ with_quiet_row g i = λ j. record g { rows = rows-are j; waiting = waits-are j } in
      subst (Runs waiting 1) same (takes_turn starts t)
