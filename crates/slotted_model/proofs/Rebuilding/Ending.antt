-- Unions and rebuilding end: from each sane graph there is a union by each entry, and a run after which nothing is left to do.
use Rattle.std.proofs.Common.{◌≡◌, ◌≢◌, ℕ, zero, suc, ◌<◌, List, [], ◌∷◌, length, sym, ◌∙◌, ap, refl, subst, inl, inr, arith}
use Rattle.std.specs.Prelude.{Contains, ◌⊎◌}
use Rattle.std.specs.Map.{keys_of, values_of}
use Rattle.std.proofs.lemmas.Bool.{cases_eq, cases_Bool, false≢true}
use Rattle.slotted_lists.proofs.Contained.{contains_head, contains_tail, contains_cases, Contains-nil}
use Rattle.slotted_theory.specs.Nameless.{DTerm}
use Rattle.slotted_theory.specs.Shape.{shape}
use Rattle.slotted_model.specs.Ascending.{names}
use Rattle.slotted_model.specs.Correspondence.{identity}
use Rattle.slotted_model.specs.Find.{Entry, moments, used_slots, find}
use Rattle.slotted_model.specs.Ids.{term_eq}
use Rattle.slotted_model.specs.Link.{found_equation, kept_equation, IsLater}
use Rattle.slotted_model.specs.ProofList.{Equation, turned_equation}
use Rattle.slotted_model.specs.State.{Row, Symmetry, State, normal_node, left_of, right_of}
use Rattle.slotted_model.specs.Rest.{id_names, IsAligned, Sane, Represents, AtRest, size}
use Rattle.slotted_model.specs.Changes.{GoesOn, dropped_state, with_proofs, found_entry, StandsAt, PairsAll, IsSymmetryOf, Unites, finds_alike, proves, drops_left, drops_right, left_dies, lists, is_listed}
use Rattle.slotted_model.specs.Rebuild.{HasNothingLeft, Turn, enters, narrows, unites_parents, refiles, Acts, acts, Runs, takes_turn, takes_act, starts, HasTurned, HasActed, CongruenceEntered}
use Rattle.slotted_model.proofs.Represented.Ids.{term_eq-true, term_eq-same}
use Rattle.slotted_model.proofs.Finds.Finding.{died-below}
use Rattle.slotted_model.proofs.Finds.Explaining.{pairs_cases}
use Rattle.slotted_model.proofs.Rebuilding.Preparing.{Prepared, prepare}
use Rattle.slotted_model.proofs.Rebuilding.Unions.{can_drop-left, can_drop-right, back-key}
use Rattle.slotted_model.proofs.Rebuilding.Events.{drop-sane, drop-size}
use Rattle.slotted_model.proofs.Rebuilding.GrowingLists.{proofs-go_on, proofs-sane}
use Rattle.slotted_model.proofs.Rebuilding.Lacking.{missing-cases}
use Rattle.slotted_model.proofs.Rebuilding.Rows.{of_source}
use Rattle.slotted_model.proofs.Rebuilding.Congruences.{row-shape, congruence-entered}
use Rattle.slotted_model.proofs.Rebuilding.Touching.{touched, touched-is}
use Rattle.slotted_model.proofs.Rebuilding.Turning.{turned, acted, ended}

-- whether two lists of numbers are the same
numbers_cases : (xs ys : List ℕ) → (xs ≡ ys) ⊎ (xs ≢ ys)
numbers_cases [] [] = inl refl
numbers_cases [] (y ∷ ys) = inr (λ e. let l : ◌≡◌ {A = ℕ} 0 (length (y ∷ ys)) = ap (λ (L : List ℕ). length L) e in omega arith)
numbers_cases (x ∷ xs) [] = inr (λ e. let l : length (x ∷ xs) ≡ 0 = ap (λ (L : List ℕ). length L) e in omega arith)
numbers_cases (x ∷ xs) (y ∷ ys) = elim (cases_eq x y) [
  | inl e ↦ elim (numbers_cases xs ys) [
    | inl f ↦ inl (λ i. e i ∷ f i)
    | inr n ↦ inr (λ h. n (ap rest h))
  ]
  | inr n ↦ inr (λ h. n (ap first h))
]
  where
    first : List ℕ → ℕ
    first [] = 0
    first (z ∷ zs) = z

    rest : List ℕ → List ℕ
    rest [] = []
    rest (z ∷ zs) = zs

-- one of a list has a property that is decided, or none
pub one-or-none : {X : Type 0} (P : X → Type 0) → ((x : X) → P x ⊎ (¬ P x)) → (xs : List X) → ((x : X) × Contains xs x × P x) ⊎ ((x : X) → Contains xs x → ¬ P x)
one-or-none P decide [] = inr (λ x c p. Contains-nil x c)
one-or-none P decide (y ∷ xs) = elim (decide y) [
  | inl p ↦ inl (y, contains_head y xs, p)
  | inr n ↦ elim (one-or-none P decide xs) [
    | inl r ↦ inl (r.0, contains_tail y xs r.0 r.1, r.2)
    | inr m ↦ inr (λ x c p. elim (contains_cases y xs x c) [
      | inl e ↦ n (subst P e p)
      | inr k ↦ m x k p
    ])
  ]
]

symmetry-decided : (g : State) (e : Equation) (y : Symmetry) → IsSymmetryOf g e y ⊎ (¬ IsSymmetryOf g e y)
symmetry-decided g e y = elim (cases_eq y.class e.left) [
  | inl a ↦ elim (numbers_cases y.slots (used_slots g.found e.left)) [
    | inl b ↦ elim (pairs_cases y.pairs e.pairs) [
      | inl c ↦ inl (record { class = a; slots = b; pairs = c })
      | inr n ↦ inr (λ s. n s.pairs)
    ]
    | inr n ↦ inr (λ s. n s.slots)
  ]
  | inr n ↦ inr (λ s. n s.class)
]

-- the number of moments is later than each death
later : (found : List Entry) → IsLater found (moments found)
later found i h d = died-below found i h

-- some union by the entry
abbrev Ends : ℕ → State → Type 0
Ends p g = (h : State) × Unites p g h

-- what a union does next, once the proofs that it may need are entered
module _ (p : ℕ) (g : State) (sane : Sane g) (k : p < length g.proofs)
    (smaller : (d : State) → Sane d → p < length d.proofs → size d < size g → Ends p d)
    (forth kept_left kept_right : ℕ)
    (forth-at : StandsAt g forth (found_entry g p))
    (left-at : StandsAt g kept_left (kept_equation (found_entry g p))) (right-at : StandsAt g kept_right (kept_equation (turned_equation g.nodes (found_entry g p)))) where
  abbrev says : Equation
  says = found_entry g p

  abbrev kept : List ℕ
  kept = keys_of (turned_equation g.nodes says).pairs

  one_class : says.left ≡ says.right → PairsAll g says → Ends p g
  one_class same all = elim (pairs_cases says.pairs (identity (used_slots g.found says.left))) [
    | inl i ↦ (g, finds_alike same i)
    | inr moves ↦ elim (one-or-none (IsSymmetryOf g says) (symmetry-decided g says) g.symmetries) [
      | inl y ↦ (g, is_listed y.0 same all y.1 y.2)
      | inr none ↦ (_, lists forth same all moves none forth-at)
    ]
  ]

  all_paired : PairsAll g says → Ends p g
  all_paired all = elim (cases_eq says.left says.right) [
    | inl same ↦ one_class same all
    | inr differ ↦ (_, left_dies forth (moments g.found) (touched says.left g.rows g.waiting) differ all forth-at (later g.found) (touched-is g sane.filed.waits_once says.left))
  ]

  left_paired : ((s : ℕ) → Contains (used_slots g.found says.left) s → Contains (keys_of says.pairs) s) → Ends p g
  left_paired all = elim (missing-cases (used_slots g.found says.right) (values_of says.pairs)) [
    | inl r ↦ all_paired (record { left = all; right = r })
    | inr m ↦
        let can = can_drop-right g sane p k in
        let d : State = dropped_state g says.right kept kept_right (touched says.right g.rows g.waiting) in
        let r : Ends p d = smaller d (drop-sane g sane says.right kept kept_right can right-at.0 right-at.1 (touched says.right g.rows g.waiting) (touched-is g sane.filed.waits_once says.right)) k
        (drop-size g sane says.right kept kept_right can right-at.0 right-at.1 (touched says.right g.rows g.waiting) (touched-is g sane.filed.waits_once says.right) m.0 m.1 (λ c. m.2 (back-key g sane p k m.0 c))) in
        (r.0, drops_right kept_right m.0 (touched says.right g.rows g.waiting) all m.1 m.2 right-at (touched-is g sane.filed.waits_once says.right) r.1)
  ]

  next-union : Ends p g
  next-union = elim (missing-cases (used_slots g.found says.left) (keys_of says.pairs)) [
    | inl l ↦ left_paired l
    | inr m ↦
        let can = can_drop-left g sane p k in
        let d : State = dropped_state g says.left (keys_of says.pairs) kept_left (touched says.left g.rows g.waiting) in
        let r : Ends p d = smaller d (drop-sane g sane says.left (keys_of says.pairs) kept_left can left-at.0 left-at.1 (touched says.left g.rows g.waiting) (touched-is g sane.filed.waits_once says.left)) k
        (drop-size g sane says.left (keys_of says.pairs) kept_left can left-at.0 left-at.1 (touched says.left g.rows g.waiting) (touched-is g sane.filed.waits_once says.left) m.0 m.1 m.2) in
        (r.0, drops_left kept_left m.0 (touched says.left g.rows g.waiting) m.1 m.2 left-at (touched-is g sane.filed.waits_once says.left) r.1)
  ]

union-by : (fuel p : ℕ) (g : State) → Sane g → p < length g.proofs → size g < fuel → Ends p g
union-by zero p g sane k l = absurd (omega arith)
union-by (suc fuel) p g sane k l =
    let x : Prepared g.nodes g.proofs (found_entry g p) = prepare g sane p k in
    let h : State = with_proofs g x.longer in
    let on : GoesOn g h = proofs-go_on g sane x.longer x.grow in
    let same : found_entry g p ≡ found_entry h p = ap (λ e. found_equation g.nodes g.found e) (sym (on.proofs p k).1) in
    let r : Ends p h = next-union p h (proofs-sane g sane x.longer x.grow) (on.proofs p k).0
    (λ d s j m. union-by fuel p d s j (omega (arith, l, m)))
    x.forth.0 x.kept_left.0 x.kept_right.0
    (x.forth.1, x.forth.2 ∙ same)
    (x.kept_left.1, x.kept_left.2 ∙ ap kept_equation same) (x.kept_right.1, x.kept_right.2 ∙ ap (λ e. kept_equation (turned_equation g.nodes e)) same) in
    (r.0, proves x.longer x.grow r.1)

pub union-ends : (p : ℕ) (g : State) → Sane g → p < length g.proofs → (h : State) × Unites p g h
union-ends p g sane k = union-by (suc (size g)) p g sane k (omega arith)

-- whether a symmetry is aligned is decided
aligned-decided : (g : State) (y : Symmetry) → (¬ IsAligned g y) ⊎ (¬ (¬ IsAligned g y))
aligned-decided g y = elim (numbers_cases (id_names (find g.found (left_of y))) (id_names (find g.found (right_of y)))) [
  | inl e ↦ inr (λ n. n e)
  | inr n ↦ inl n
]

aligned-stable : (g : State) (y : Symmetry) → ¬ (¬ IsAligned g y) → IsAligned g y
aligned-stable g y m = elim (numbers_cases (id_names (find g.found (left_of y))) (id_names (find g.found (right_of y)))) [
  | inl e ↦ e
  | inr n ↦ absurd (m n)
]

-- another row of the shape
abbrev IsOtherRow : ℕ → DTerm → Row → Type 0
IsOtherRow o s r = (r.source ≢ o) × (r.shape ≡ s)

other-decided : (o : ℕ) (s : DTerm) (r : Row) → IsOtherRow o s r ⊎ (¬ IsOtherRow o s r)
other-decided o s r = elim (cases_eq r.source o) [
  | inl e ↦ inr (λ k. k.0 e)
  | inr n ↦ elim (cases_Bool (term_eq r.shape s)) [
    | inl t ↦ inl (n, term_eq-true r.shape s t)
    | inr f ↦ inr (λ k. false≢true (sym f ∙ term_eq-same r.shape s k.1))
  ]
]

-- the turn of a class that waits
some-turn : (g : State) → Sane g → (o : ℕ) → Contains g.waiting o → (h : State) × Turn g h
some-turn g sane o c =
    let row = of_source g.rows o (sane.filed.waits_for_row o c) in
    let k : o < length g.nodes = subst (λ i. i < length g.nodes) row.2 (sane.filed.each row.0 row.1).in_range in
    let N : DTerm = normal_node g o in
    elim (missing-cases (used_slots g.found o) (names N)) [
      | inl covered ↦ elim (one-or-none (IsOtherRow o (shape N)) (other-decided o (shape N)) g.rows) [
        | inl r ↦
            let x : CongruenceEntered g o r.0.source = congruence-entered g sane o k r.0.source (sane.filed.each r.0 r.1).in_range (row-shape g sane o k r.0 r.1 r.2.1) in
            let u = union-ends x.number (with_proofs g x.proofs) (proofs-sane g sane x.proofs x.grow) x.congruence.stands.0 in
            (_, enters x.proofs x.grow (unites_parents o x.number r.0 c r.1 r.2.0 r.2.1 x.congruence u.1))
        | inr none ↦ (_, refiles o c covered (λ r j n e. none r j (n, e)))
      ]
      | inr m ↦
          let x : CongruenceEntered g o o = congruence-entered g sane o k o k refl in
          let u = union-ends x.number (with_proofs g x.proofs) (proofs-sane g sane x.proofs x.grow) x.congruence.stands.0 in
          (u.0, enters x.proofs x.grow (narrows o x.number m.0 c m.1 m.2 x.congruence u.1))
    ]

-- a sane graph has nothing left to do, or can act on a symmetry, or some class can take its turn
pub next-step : (g : State) → Sane g → HasNothingLeft g ⊎ (((h : State) × Acts g h) ⊎ ((h : State) × Turn g h))
next-step g sane = elim (one-or-none (λ y. ¬ IsAligned g y) (aligned-decided g) g.symmetries) [
  | inl y ↦
      let u = union-ends y.0.proof g sane (sane.each_listed y.0 y.1).proof in
      inr (inl (u.0, acts y.0 y.1 y.2 u.1))
  | inr none ↦ go g.waiting refl (λ y c. aligned-stable g y (none y c))
]
  where
    go : (w : List ℕ) → g.waiting ≡ w → ((y : Symmetry) → Contains g.symmetries y → IsAligned g y) → HasNothingLeft g ⊎ (((h : State) × Acts g h) ⊎ ((h : State) × Turn g h))
    go [] e aligned = inl (e, aligned)
    go (o ∷ w) e aligned = inr (inr (some-turn g sane o (subst (λ l. Contains l o) (sym e) (contains_head o w))))

-- runs that have nothing left to do
module _ (f : State) where
  abbrev pub Done : Type 0
  Done = (n : ℕ) × (h : State) × Runs f n h × HasNothingLeft h

  -- with fewer and fewer classes that wait, while the size stays
  turns-by : (s : ℕ) → ((n : ℕ) (g : State) → Runs f n g → Sane g → size g < s → Done) → (w n : ℕ) (g : State) → Runs f n g → Sane g → size g < suc s → length g.waiting < w → Done
  turns-by s falls zero n g r sane l m = absurd (omega arith)
  turns-by s falls (suc w) n g r sane l m = elim (next-step g sane) [
    | inl done ↦ (n, g, r, done)
    | inr step ↦ elim step [
      | inl a ↦
          let u : HasActed g a.0 = acted a.1 sane in
          falls n a.0 (takes_act r a.1) u.rebuilt.sane (omega (arith, u.smaller, l))
      | inr t ↦
          let u : HasTurned g t.0 = turned t.1 sane in
          elim u.falls [
            | inl k ↦ falls (suc n) t.0 (takes_turn r t.1) u.rebuilt.sane (omega (arith, k, l))
            | inr k ↦ turns-by s falls w (suc n) t.0 (takes_turn r t.1) u.rebuilt.sane (omega (arith, k.0, l)) (omega (arith, k.1, m))
          ]
    ]
  ]

  runs-by : (s n : ℕ) (g : State) → Runs f n g → Sane g → size g < s → Done
  runs-by zero n g r sane l = absurd (omega arith)
  runs-by (suc s) n g r sane l = turns-by s (runs-by s) (suc (length g.waiting)) n g r sane l (omega arith)

  pub rebuild-ends : Sane f → Done
  rebuild-ends sane = runs-by (suc (size f)) 0 f starts sane (omega arith)

pub rebuilding-ends : (g : State) → Sane g → Represents g → (n : ℕ) × (h : State) × Runs g n h × AtRest h
rebuilding-ends g sane represents =
    let r : Done g = rebuild-ends g sane in
    (r.0, r.1, r.2, ended g sane represents r.2 r.3)
