-- What queries cost, and that the laws of costs hold.
--     word_weight w xs      what a word adds to the costs of its children, xs
--     row_cost d xs         what a node costs by its word, which is its first payload
use Rattle.std.specs.Prelude.{◌≡◌, ℕ, zero, suc, ◌+◌, ◌*◌, ◌<◌, ◌≤◌, min, max, sum, List, [], ◌∷◌, Bool, true, false, cond, bytes_eq, codes, slice_index_or}
use Rattle.std.proofs.Common.{refl, arith}
use Rattle.std.specs.Ordering.{nat_cmp, is_le, MatchOrdering}
use Rattle.std.specs.declared.cmp.Ordering.{Ordering}
use Rattle.std.specs.declared.cmp.Ordering.TheVariants.{Less, Equal, Greater}
use Rattle.std.proofs.lemmas.Cmp.{ranked}
use Rattle.std.proofs.lemmas.Map.Keys.{le_from_is_le}
use Rattle.slotted_theory.specs.Nameless.{DTerm}
use Rattle.slotted_nodes.specs.Form.{Form}
use Rattle.slotted_model.specs.Cost.{EachAtMost, dearest}
use Rattle.slotted_costs.specs.Costs.{costs_by, bare_node}
use Rattle.slotted_costs.specs.Laws.{NeverFalls, CoversChildren}
use Rattle.slotted_costs.specs.Size.{largest}
use Rattle.slotted_costs.specs.Weights.{weighed, weighed_never_falls, weighed_covers_children}

-- one and the input of a filter once more, 100 and the condition of a join nine times more, 10 for a map, and 1 for each other word
abbrev pub word_weight : List ℕ → List ℕ → ℕ
word_weight w xs =
    cond (bytes_eq w (codes "filter")) (min (slice_index_or xs 0 0 + 1) largest)
    (cond (bytes_eq w (codes "join")) (min (min (slice_index_or xs 2 0 * 9) largest + 100) largest) (cond (bytes_eq w (codes "map")) 10 1))

-- the weight is one number for all nodes here, since it has been read off this one
abbrev pub row_cost : DTerm → List ℕ → ℕ
row_cost d xs = weighed (λ e. word_weight (slice_index_or e.payloads 0 []) xs) d xs

not-above : (x y : ℕ) (r : Ordering) → MatchOrdering r (x < y) (x ≡ y) (y < x) → x ≤ y → is_le r ≡ true
not-above x y Less m h = refl
not-above x y Equal m h = refl
not-above x y Greater m h = absurd (omega arith)

ordered : (x y : ℕ) → x ≤ y → is_le (nat_cmp x y) ≡ true
ordered x y h = not-above x y (nat_cmp x y) (ranked x y (nat_cmp x y) refl) h

cond-rises : (b : Bool) (x y u v : ℕ) → x ≤ y → u ≤ v → cond b x u ≤ cond b y v
cond-rises true x y u v h k = h
cond-rises false x y u v h k = k

cost-rises : (w : DTerm → List ℕ → ℕ) (xs ys : List ℕ) (i : ℕ) → EachAtMost (costs_by nat_cmp w) xs ys → slice_index_or xs i 0 ≤ slice_index_or ys i 0
cost-rises w [] [] i h = omega arith
cost-rises w (x ∷ xs) (y ∷ ys) zero h = le_from_is_le x y h.0
cost-rises w (x ∷ xs) (y ∷ ys) (suc i) h = cost-rises w xs ys i h.1
cost-rises w [] (y ∷ ys) i h = absurd h
cost-rises w (x ∷ xs) [] i h = absurd h

weight-rises : (v : List ℕ) (w : DTerm → List ℕ → ℕ) (xs ys : List ℕ) → EachAtMost (costs_by nat_cmp w) xs ys → word_weight v xs ≤ word_weight v ys
weight-rises v w xs ys h =
    let a : slice_index_or xs 0 0 ≤ slice_index_or ys 0 0 = cost-rises w xs ys 0 h in
    let b : slice_index_or xs 2 0 ≤ slice_index_or ys 2 0 = cost-rises w xs ys 2 h in
    cond-rises (bytes_eq v (codes "filter")) _ _ _ _ (omega arith) (cond-rises (bytes_eq v (codes "join")) _ _ _ _ (omega arith) (omega arith))

-- a greater weight makes no node cheaper
heavier : (v w s m : ℕ) → v ≤ w → min (v + s) m ≤ min (w + s) m
heavier v w s m h = omega arith

module _ {L : Type 0} (form : L → Form) where
  pub row_never_falls : NeverFalls form (costs_by nat_cmp row_cost)
  row_never_falls n xs ys fits h =
      let d = bare_node (form n) in
      let word : List ℕ = slice_index_or d.payloads 0 [] in
      let by : DTerm → ℕ = λ e. word_weight (slice_index_or e.payloads 0 []) xs in
      let same : weighed by d xs ≤ weighed by d ys = le_from_is_le (weighed by d xs) (weighed by d ys) (weighed_never_falls form by n xs ys fits h) in
      let more : weighed by d ys ≤ row_cost d ys = heavier (word_weight word xs) (word_weight word ys) (sum ys) (max largest (dearest ys)) (weight-rises word row_cost xs ys h) in
      ordered (row_cost d xs) (row_cost d ys) (omega (arith, same, more))

  pub row_covers_children : CoversChildren form (costs_by nat_cmp row_cost)
  row_covers_children n xs fits x c = weighed_covers_children form (λ e. word_weight (slice_index_or e.payloads 0 []) xs) n xs fits x c
