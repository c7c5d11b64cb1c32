-- A class that is its own child: p and k p are asserted equal, where k p has one step less than p has. The data goes round the cycle down to 0.
use Rattle.std.proofs.Common.{◌≡◌, ◌≢◌, ℕ, zero, suc, ◌-◌, ◌*◌, ◌<◌, ◌≤◌, List, [], ◌∷◌, get_or, refl, sym, ◌∙◌, ap, subst, inl, inr, arith}
use Rattle.std.specs.Prelude.{Contains, min, cond, nat_eq}
use Rattle.std.proofs.lemmas.Bool.{cases_eq, cases_lt}
use Rattle.slotted_lists.proofs.Contained.{contains_head, contains_cases, Contains-nil}
use Rattle.slotted_theory.specs.Nameless.{DTerm, stop}
use Rattle.slotted_theory.specs.Shape.{shape}
use Rattle.slotted_theory.proofs.Values.{node, child_before}
use Rattle.slotted_model.specs.Applied.{as_term}
use Rattle.slotted_model.specs.Classes.{canonical_node, IsFull}
use Rattle.slotted_model.specs.Correspondence.{AllDifferent}
use Rattle.slotted_model.specs.Extraction.{row_class}
use Rattle.slotted_model.specs.Find.{find_class}
use Rattle.slotted_model.specs.Growth.{IsNew}
use Rattle.slotted_model.specs.Link.{IsLater, with_shortcut}
use Rattle.slotted_model.specs.ProofList.{Equation, equation_of, equation_at}
use Rattle.slotted_model.specs.State.{Row, State, normal_node, child_classes}
use Rattle.slotted_model.specs.Changes.{Unites, left_dies, linked_state}
use Rattle.slotted_model.specs.Rebuild.{row_for, with_row, refiled_state, refiles}
use Rattle.slotted_model.specs.Adding.{with_new_class, with_assertion, with_new_row, with_quiet_row}
use Rattle.slotted_model.proofs.Examples.RestExamples.{empty, made, p}
use Rattle.slotted_model.proofs.Rebuilding.Touching.{touching, touched-is}
use Rattle.slotted_model_analyses.proofs.Showing.{proofs-keep, shortcut-keeps}
use Rattle.slotted_model_analyses.proofs.QuietData.{new-row-same, quiet-run-with}
use Rattle.slotted_model_analyses.specs.Analysis.{Analysis, IsMerge, MakesAlike}
use Rattle.slotted_model_analyses.specs.DataPart.{DataPart, with_data, with_pending, taken, absorbed, lowered, Carries, takes, RunsWithData, starts, takes_turn, takes_data, size_with_data, RestsWithData}
use Rattle.slotted_model_analyses.specs.DataWrites.{AddsWithData, files_row, AssertsWithData, is_new, MergesInto, merges_into, with_new_data}
use Rattle.slotted_model_analyses.proofs.Merging.{noted-is}
use Rattle.slotted_model_analyses.proofs.FiledAgain.{canonical-absorbed}
use Rattle.slotted_model_analyses.proofs.Writing.{nothing-rests-with, adding, asserting, merging}

-- p has three steps, and every other node one step less than its first child
abbrev steps_of : ℕ → List ℕ → ℕ
steps_of op xs = cond (nat_eq op 1) 3 (get_or xs 0 0 - 1)

-- fewest steps are best
abbrev steps : Analysis ℕ
steps = record { make = λ d xs. steps_of d.op xs; merge = min; height = λ x. x }

steps_merge : IsMerge ℕ steps
steps_merge = record {
  decided = cases_eq;
  commutative = λ x y. omega arith;
  associative = λ x y z. omega arith;
  idempotent = λ x. omega arith;
  lowers = λ x y n. below x y n;
}
  where
    below : (x y : ℕ) → min x y ≢ x → min x y < x
    below x y n = elim (cases_lt y x) [
      | inl l ↦ omega arith
      | inr l ↦ absurd (n (omega arith))
    ]

steps_alike : MakesAlike (λ d. Unit {0}) ℕ steps
steps_alike d e xs k l alike n = ap (λ op. steps_of op xs) (ap (λ (t : DTerm). t.op) alike)

abbrev start : DataPart ℕ
start = record { data_of = λ i. 9; pending = []; changed = [] }

start_rests : RestsWithData steps empty start
start_rests = nothing-rests-with steps (λ i. 9)

-- the word p
abbrev with_p : State
with_p = made empty p

abbrev p_data : DataPart ℕ
p_data = record { data_of = with_data (λ i. 9) 0 3; pending = []; changed = 0 ∷ [] }

p_new : IsNew [] p
p_new = record { operator = omega arith; children = tt; shape_is_new = λ i l e. omega arith }

only_p : (r : Row) → Contains with_p.rows r → r.source ≢ 0 → ⊥
only_p r c n = elim (contains_cases _ [] r c) [
  | inl e ↦ n (ap (λ (x : Row). x.source) e)
  | inr k ↦ Contains-nil r k
]

p_adds : AddsWithData steps empty start p with_p p_data
p_adds =
    files_row (0 ∷ []) (noted-is 0 [] tt) (λ r c e. Contains-nil r c)
    (takes_turn starts (refiles 0 (contains_head 0 []) (λ s c. absurd (Contains-nil s c)) (λ r c n e. only_p r c n)) (absorbed refl))
    ((refl, λ y c. absurd (Contains-nil y c)), refl)

p_rests : RestsWithData steps with_p p_data
p_rests = ((adding steps steps_merge empty start start_rests p p_new).1 with_p p_data p_adds).1

-- k over p
abbrev k_p : DTerm
k_p = node 4 [] (child_before (as_term (0, [])) stop)

abbrev with_k : State
with_k = made with_p k_p

abbrev k_data : DataPart ℕ
k_data = record { data_of = with_data (with_data (λ i. 9) 0 3) 1 2; pending = []; changed = 1 ∷ 0 ∷ [] }

p_full : IsFull with_p.nodes (0, [])
p_full = record { in_range = omega arith; slots = refl; injective = tt }

k_new : IsNew with_p.nodes k_p
k_new = record { operator = omega arith; children = (((0, []), refl, p_full), tt); shape_is_new = other }
  where
    other : (i : ℕ) → i < 1 → ¬ (shape (canonical_node with_p.nodes i) ≡ shape k_p)
    other zero l e = let n : ◌≡◌ {A = ℕ} 1 4 = ap (λ (t : DTerm). t.op) e in omega arith
    other (suc i) l e = omega arith

not_k : (r : Row) → Contains with_p.rows r → r.shape ≡ k_p → ⊥
not_k r c e = elim (contains_cases _ [] r c) [
  | inl f ↦ let n : ◌≡◌ {A = ℕ} 1 4 = ap (λ (x : Row). x.shape.op) (sym f) ∙ ap (λ (t : DTerm). t.op) e in omega arith
  | inr k ↦ Contains-nil r k
]

k_adds : AddsWithData steps with_p p_data k_p with_k k_data
k_adds =
    files_row (1 ∷ 0 ∷ []) (noted-is 1 (0 ∷ []) (Contains-nil 0, tt)) not_k
    (takes_turn starts (refiles 1 (contains_head 1 []) (λ s c. absurd (Contains-nil s c)) (λ r c n e. elim (contains_cases _ with_p.rows r c) [
      | inl f ↦ n (ap (λ (x : Row). x.source) f)
      | inr k ↦ not_k r k e
    ])) (absorbed refl))
    ((refl, λ y c. absurd (Contains-nil y c)), refl)

k_rests : RestsWithData steps with_k k_data
k_rests = ((adding steps steps_merge with_p p_data p_rests k_p k_new).1 with_k k_data k_adds).1

-- p is asserted to equal k p: the class of p dies, and the row of k p waits
abbrev says : Equation
says = equation_of (0, []) (1, [])

abbrev more : State
more = with_assertion with_k says

abbrev united : State
united = linked_state more says 2 0 (touching more 0)

abbrev united_data : DataPart ℕ
united_data = record k_data { pending = 1 ∷ [] }

none_died : IsLater with_k.found 0
none_died zero l d = absurd (d refl)
none_died (suc zero) l d = absurd (d refl)
none_died (suc (suc i)) l d = absurd (omega arith)

abbrev both_united : Unites 2 more united
both_united = left_dies 2 0 (touching more 0) (λ e. omega arith) (record { left = λ s c. c; right = λ s c. c }) (omega arith, refl) none_died (touched-is more tt 0)

-- 3 steps are no fewer than 2, so the merge changes nothing
united_carries : Carries steps both_united k_data united_data
united_carries = (touching (with_pending more k_data) 0, touched-is (with_pending more k_data) tt 0, absorbed refl)

-- the row of k p is now a row over its own class
abbrev cyclic : State
cyclic = refiled_state united 1

abbrev k_row : Row
k_row = row_for united 1

k_filed : Contains cyclic.rows k_row
k_filed = contains_head k_row (with_row k_row with_p.rows)

its_own_child : (child_classes k_row.shape.args ≡ 1 ∷ []) × (row_class cyclic k_row ≡ 1)
its_own_child = (refl, refl)

no_other : (r : Row) → Contains united.rows r → r.source ≢ 1 → r.shape ≢ shape (normal_node united 1)
no_other r c n e = elim (contains_cases _ with_p.rows r c) [
  | inl f ↦ n (ap (λ (x : Row). x.source) f)
  | inr d ↦ elim (contains_cases _ [] r d) [
    | inl f ↦ let m : ◌≡◌ {A = ℕ} 1 4 = ap (λ (x : Row). x.shape.op) (sym f) ∙ ap (λ (t : DTerm). t.op) e in omega arith
    | inr k ↦ Contains-nil r k
  ]
]

waits_once : AllDifferent (1 ∷ 0 ∷ [])
waits_once = (λ c. elim (contains_cases 0 [] 1 c) [ inl e ↦ omega arith | inr k ↦ Contains-nil 1 k ], (Contains-nil 0, tt))

abbrev one_step : DataPart ℕ
one_step = record { data_of = with_data k_data.data_of 1 1; pending = 1 ∷ []; changed = 1 ∷ 0 ∷ [] }

abbrev no_step : DataPart ℕ
no_step = record { data_of = with_data one_step.data_of 1 0; pending = 1 ∷ []; changed = 1 ∷ 0 ∷ [] }

abbrev at_end : DataPart ℕ
at_end = record no_step { pending = [] }

-- the turn of k p finds that it has 1 step, and so waits for data alone; it finds that it has none, and waits again; then nothing changes
first_turn : RunsWithData steps united united_data 1 cyclic one_step
first_turn =
    takes_turn starts (refiles 1 (contains_head 1 []) (λ s c. absurd (Contains-nil s c)) no_other)
    (lowered (1 ∷ []) (1 ∷ 0 ∷ []) (λ e. omega arith) (touched-is (with_pending cyclic (taken united_data 1)) tt 1) (noted-is 1 (1 ∷ 0 ∷ []) waits_once))

second_turn : RunsWithData steps united united_data 2 cyclic no_step
second_turn =
    takes_data first_turn (takes k_row k_filed (contains_head 1 []) (Contains-nil 1)
    (lowered (1 ∷ []) (1 ∷ 0 ∷ []) (λ e. omega arith) (touched-is (with_pending cyclic (taken one_step 1)) tt 1) (noted-is 1 (1 ∷ 0 ∷ []) waits_once)))

last_turn : RunsWithData steps united united_data 3 cyclic at_end
last_turn = takes_data second_turn (takes k_row k_filed (contains_head 1 []) (Contains-nil 1) (absorbed refl))

both_asserted : AssertsWithData steps with_k k_data (0, []) (1, []) cyclic at_end
both_asserted = is_new other both_united united_carries last_turn ((refl, λ y c. absurd (Contains-nil y c)), refl)
  where
    other : (n : ℕ) → n < 2 → equation_at with_k.proofs n ≡ says → ⊥
    other zero l e = let n : ◌≡◌ {A = ℕ} 0 1 = ap (λ (x : Equation). x.right) e in omega arith
    other (suc zero) l e = let n : ◌≡◌ {A = ℕ} 1 0 = ap (λ (x : Equation). x.left) e in omega arith
    other (suc (suc n)) l e = omega arith

both_full : IsFull with_k.nodes (0, []) × IsFull with_k.nodes (1, [])
both_full = (record { in_range = omega arith; slots = refl; injective = tt }, record { in_range = omega arith; slots = refl; injective = tt })

cyclic_rests : RestsWithData steps cyclic at_end
cyclic_rests = ((asserting steps steps_merge with_k k_data k_rests (0, []) (1, []) both_full.0 both_full.1).1 cyclic at_end both_asserted).1

-- the class has no step left, and so would it have at rest whatever way had led there
no_step_left : at_end.data_of (find_class cyclic.found 0) ≡ 0
no_step_left = refl

never_a_step : (s : DataPart ℕ) → RestsWithData steps cyclic s → s.data_of 1 ≡ 0
never_a_step s x =
    let e : min (s.data_of 1) (s.data_of 1 - 1) ≡ s.data_of 1 = x.has.absorbs_made k_row k_filed (λ c. Contains-nil 1 (subst (λ w. Contains w 1) x.nothing_waits c)) in
    omega arith

-- three turns, where 2 rows allow 2 * (1 + 2)
counted : (size_with_data steps united united_data ≡ 3) × (size_with_data steps cyclic at_end ≡ 1) × (3 ≤ 2 * (suc 3 - 1))
counted = (refl, refl, omega arith)

-- before the assertion: that p has no step is merged into its data. The row of k p waits for data alone, and the graph stays
abbrev told : DataPart ℕ
told = record { data_of = with_data k_data.data_of 0 0; pending = 1 ∷ []; changed = 1 ∷ 0 ∷ [] }

abbrev told_more : DataPart ℕ
told_more = record { data_of = with_data told.data_of 1 0; pending = []; changed = 1 ∷ 0 ∷ [] }

abbrev k_first : Row
k_first = row_for (with_new_class with_p k_p) 1

k_first_filed : Contains with_k.rows k_first
k_first_filed = contains_head k_first with_p.rows

p_told : MergesInto steps with_k k_data 0 0 with_k told_more
p_told =
    merges_into (lowered (1 ∷ []) (1 ∷ 0 ∷ []) (λ e. omega arith) (touched-is (with_pending with_k k_data) tt 0) (noted-is 0 (1 ∷ 0 ∷ []) waits_once))
    (takes_data starts (takes k_first k_first_filed (contains_head 1 []) (Contains-nil 1)
    (lowered [] (1 ∷ 0 ∷ []) (λ e. omega arith) (touched-is (with_pending with_k (taken told 1)) tt 1) (noted-is 1 (1 ∷ 0 ∷ []) waits_once))))
    ((refl, λ y c. absurd (Contains-nil y c)), refl)

-- and saying it again changes nothing
told_again : (h : State) (t : DataPart ℕ) → MergesInto steps with_k told_more 0 0 h t → (h ≡ with_k) × (t ≡ told_more)
told_again h t m = (((merging steps steps_merge with_k k_data k_rests 0 (omega arith) 0).1 with_k told_more p_told).5) h t m

-- at rest the canonical node of each class makes nothing that its class does not absorb
k_absorbs : min 0 (0 - 1) ≡ 0
k_absorbs = canonical-absorbed (λ d. Unit {0}) steps steps_alike (λ d e q k. tt) cyclic at_end cyclic_rests (λ r c. tt) 1 (omega arith)

-- the first turn of p files its row and changes nothing else: its row makes what its class was made with
abbrev p_made : DataPart ℕ
p_made = with_new_data steps empty start p (0 ∷ [])

p_is_quiet : RunsWithData steps (with_new_row (with_new_class empty p) 0) (record p_made { pending = 0 ∷ [] }) 1 (with_quiet_row (with_new_class empty p) 0) p_made
p_is_quiet =
    quiet-run-with steps (with_new_class empty p) 0 (λ s c. absurd (Contains-nil s c)) (λ r c. absurd (Contains-nil r c)) (λ r c. absurd (Contains-nil r c)) (Contains-nil 0) p_made (Contains-nil 0)
    (new-row-same (λ d. Unit {0}) steps steps_merge steps_alike (λ d e q k. tt) empty start_rests.rest.sane start p p_new tt (0 ∷ []) (noted-is 0 [] tt)).1

-- proofs that assert nothing, here none, and a shortcut of the dead class keep its data
still_rests : RestsWithData steps cyclic at_end × RestsWithData steps (record cyclic { found = with_shortcut cyclic.found 0 2 }) at_end
still_rests = (
  proofs-keep steps cyclic at_end cyclic_rests cyclic.proofs (record { more = []; is = refl; proved = cyclic_rests.rest.sane.sound.proved; asserts_nothing = refl }),
  shortcut-keeps steps cyclic at_end cyclic_rests 0 2 (omega arith) (λ e. omega arith) (omega arith) refl,
)
