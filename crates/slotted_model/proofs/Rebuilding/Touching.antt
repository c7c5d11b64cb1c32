-- What waits after a class is touched, and lists of numbers that stand for sets.
use Rattle.std.proofs.Common.{◌≡◌, ℕ, suc, ◌<◌, ◌≤◌, List, [], ◌∷◌, length, true, false, cond, sym, ◌∙◌, ap, refl, subst, inl, inr, arith}
use Rattle.std.specs.Prelude.{Contains, ◌⊎◌, ◌||◌, ◌++◌, nat_eq}
use Rattle.std.proofs.lemmas.Bool.{cases_eq, eq-eqb, ne_eqb}
use Rattle.std.proofs.lemmas.List.Elements.{Contains-append_cases}
use Rattle.slotted_lists.proofs.Contained.{contains_head, contains_tail, contains_cases, Contains-nil}
use Rattle.slotted_theory.specs.Nameless.{DArgs, stop, place, sub, scope, lift, moved_args}
use Rattle.slotted_model.specs.Correspondence.{AllDifferent, has_slot}
use Rattle.slotted_model.specs.State.{Row, State, child_classes, HasTouched}
use Rattle.slotted_model.proofs.Represented.RenamedIds.{applied_of-moved}

-- a list of what waits with one more member, if it is not there
abbrev pub with_waiting : ℕ → List ℕ → List ℕ
with_waiting o waiting = cond (has_slot waiting o) waiting (o ∷ waiting)

-- with the sources of the rows over the class c
abbrev pub touched : ℕ → List Row → List ℕ → List ℕ
touched c [] waiting = waiting
touched c (r ∷ rows) waiting = cond (has_slot (child_classes r.shape.args) c) (with_waiting r.source (touched c rows waiting)) (touched c rows waiting)

-- whether a number stands in a list is decided
pub has_slot-cases : (P : List ℕ) (s : ℕ) → (Contains P s × (has_slot P s ≡ true)) ⊎ ((¬ Contains P s) × (has_slot P s ≡ false))
has_slot-cases [] s = inr (Contains-nil s, refl)
has_slot-cases (x ∷ P) s = elim (cases_eq s x) [
  | inl e ↦ inl (subst (Contains (x ∷ P)) (sym e) (contains_head x P), ap (λ b. b || has_slot P s) (eq-eqb s x e))
  | inr n ↦ elim (has_slot-cases P s) [
    | inl h ↦ inl (contains_tail x P s h.0, ap (λ b. b || has_slot P s) (ne_eqb s x n) ∙ h.1)
    | inr h ↦ inr (
      λ c. elim (contains_cases x P s c) [
        | inl e ↦ n e
        | inr k ↦ h.0 k
      ],
      ap (λ b. b || has_slot P s) (ne_eqb s x n) ∙ h.1,
    )
  ]
]

-- a list of what waits with one more member
waiting-kept : (o : ℕ) (w : List ℕ) → has_slot w o ≡ true → with_waiting o w ≡ w
waiting-kept o w e = ap (λ b. cond b w (o ∷ w)) e

waiting-more : (o : ℕ) (w : List ℕ) → has_slot w o ≡ false → with_waiting o w ≡ o ∷ w
waiting-more o w e = ap (λ b. cond b w (o ∷ w)) e

pub waiting-has : (o : ℕ) (w : List ℕ) → Contains (with_waiting o w) o
waiting-has o w = elim (has_slot-cases w o) [
  | inl h ↦ subst (λ v. Contains v o) (sym (waiting-kept o w h.1)) h.0
  | inr h ↦ subst (λ v. Contains v o) (sym (waiting-more o w h.1)) (contains_head o w)
]

pub waiting-keeps : (o x : ℕ) (w : List ℕ) → Contains w x → Contains (with_waiting o w) x
waiting-keeps o x w c = elim (has_slot-cases w o) [
  | inl h ↦ subst (λ v. Contains v x) (sym (waiting-kept o w h.1)) c
  | inr h ↦ subst (λ v. Contains v x) (sym (waiting-more o w h.1)) (contains_tail o w x c)
]

pub waiting-from : (o x : ℕ) (w : List ℕ) → Contains (with_waiting o w) x → (x ≡ o) ⊎ Contains w x
waiting-from o x w c = elim (has_slot-cases w o) [
  | inl h ↦ inr (subst (λ v. Contains v x) (waiting-kept o w h.1) c)
  | inr h ↦ contains_cases o w x (subst (λ v. Contains v x) (waiting-more o w h.1) c)
]

pub waiting-once : (o : ℕ) (w : List ℕ) → AllDifferent w → AllDifferent (with_waiting o w)
waiting-once o w d = elim (has_slot-cases w o) [
  | inl h ↦ subst AllDifferent (sym (waiting-kept o w h.1)) d
  | inr h ↦ subst AllDifferent (sym (waiting-more o w h.1)) (h.0, d)
]

-- a row over the class, and another
touched-row : (c : ℕ) (r : Row) (rows : List Row) (w : List ℕ) → has_slot (child_classes r.shape.args) c ≡ true → touched c (r ∷ rows) w ≡ with_waiting r.source (touched c rows w)
touched-row c r rows w e = ap (λ b. cond b (with_waiting r.source (touched c rows w)) (touched c rows w)) e

touched-other : (c : ℕ) (r : Row) (rows : List Row) (w : List ℕ) → has_slot (child_classes r.shape.args) c ≡ false → touched c (r ∷ rows) w ≡ touched c rows w
touched-other c r rows w e = ap (λ b. cond b (with_waiting r.source (touched c rows w)) (touched c rows w)) e

-- what waited waits
touched-keeps : (c : ℕ) (rows : List Row) (w : List ℕ) (x : ℕ) → Contains w x → Contains (touched c rows w) x
touched-keeps c [] w x h = h
touched-keeps c (r ∷ rows) w x h = elim (has_slot-cases (child_classes r.shape.args) c) [
  | inl k ↦ subst (λ v. Contains v x) (sym (touched-row c r rows w k.1)) (waiting-keeps r.source x (touched c rows w) (touched-keeps c rows w x h))
  | inr k ↦ subst (λ v. Contains v x) (sym (touched-other c r rows w k.1)) (touched-keeps c rows w x h)
]

-- the rows over the class wait
touched-has : (c : ℕ) (rows : List Row) (w : List ℕ) (q : Row) → Contains rows q → Contains (child_classes q.shape.args) c → Contains (touched c rows w) q.source
touched-has c [] w q h k = absurd (Contains-nil q h)
touched-has c (r ∷ rows) w q h k = elim (has_slot-cases (child_classes r.shape.args) c) [
  | inl j ↦ subst (λ v. Contains v q.source) (sym (touched-row c r rows w j.1)) (elim (contains_cases r rows q h) [
    | inl e ↦ subst (Contains (with_waiting r.source (touched c rows w))) (ap (λ (x : Row). x.source) (sym e)) (waiting-has r.source (touched c rows w))
    | inr i ↦ waiting-keeps r.source q.source (touched c rows w) (touched-has c rows w q i k)
  ])
  | inr j ↦ subst (λ v. Contains v q.source) (sym (touched-other c r rows w j.1)) (elim (contains_cases r rows q h) [
    | inl e ↦ absurd (j.0 (subst (λ (x : Row). Contains (child_classes x.shape.args) c) e k))
    | inr i ↦ touched-has c rows w q i k
  ])
]

-- and nothing else
touched-from : (c : ℕ) (rows : List Row) (w : List ℕ) (x : ℕ) → Contains (touched c rows w) x → Contains w x ⊎ ((r : Row) × Contains rows r × Contains (child_classes r.shape.args) c × (r.source ≡ x))
touched-from c [] w x h = inl h
touched-from c (r ∷ rows) w x h = elim (has_slot-cases (child_classes r.shape.args) c) [
  | inl k ↦ elim (waiting-from r.source x (touched c rows w) (subst (λ v. Contains v x) (touched-row c r rows w k.1) h)) [
    | inl e ↦ inr (r, contains_head r rows, k.0, sym e)
    | inr i ↦ later (touched-from c rows w x i)
  ]
  | inr k ↦ later (touched-from c rows w x (subst (λ v. Contains v x) (touched-other c r rows w k.1) h))
]
  where
    later : Contains w x ⊎ ((q : Row) × Contains rows q × Contains (child_classes q.shape.args) c × (q.source ≡ x)) → Contains w x ⊎ ((q : Row) × Contains (r ∷ rows) q × Contains (child_classes q.shape.args) c × (q.source ≡ x))
    later (inl j) = inl j
    later (inr j) = inr (j.0, contains_tail r rows j.0 j.1, j.2, j.3)

touched-once : (c : ℕ) (rows : List Row) (w : List ℕ) → AllDifferent w → AllDifferent (touched c rows w)
touched-once c [] w d = d
touched-once c (r ∷ rows) w d = elim (has_slot-cases (child_classes r.shape.args) c) [
  | inl k ↦ subst AllDifferent (sym (touched-row c r rows w k.1)) (waiting-once r.source (touched c rows w) (touched-once c rows w d))
  | inr k ↦ subst AllDifferent (sym (touched-other c r rows w k.1)) (touched-once c rows w d)
]

-- what waits then, in the order of the rows
abbrev pub touching : State → ℕ → List ℕ
touching g c = touched c g.rows g.waiting

-- so this list can wait then
pub touched-is : (g : State) → AllDifferent g.waiting → (c : ℕ) → HasTouched g c (touching g c)
touched-is g once c = record {
  once = touched-once c g.rows g.waiting once;
  kept = touched-keeps c g.rows g.waiting;
  over = touched-has c g.rows g.waiting;
  from = touched-from c g.rows g.waiting;
}

-- the classes of children do not move with names
pub child_classes-moved : (f : ℕ → ℕ) (d : DArgs) → child_classes (moved_args f d) ≡ child_classes d
child_classes-moved f stop = refl
child_classes-moved f (place x rest) = child_classes-moved f rest
child_classes-moved f (sub op payloads args rest) = λ i. (applied_of-moved f payloads args i).0 ∷ child_classes-moved f rest i
child_classes-moved f (scope inner rest) = λ i. child_classes-moved (lift f) inner i ++ child_classes-moved f rest i

-- a list with the first x left out
without : ℕ → List ℕ → List ℕ
without x [] = []
without x (y ∷ ys) = cond (nat_eq x y) ys (y ∷ without x ys)

without-length : (x : ℕ) (ys : List ℕ) → Contains ys x → length ys ≡ suc (length (without x ys))
unfolding without
without-length x [] c = absurd (Contains-nil x c)
without-length x (y ∷ ys) c = elim (cases_eq x y) [
  | inl e ↦ ap (λ b. suc (length (cond b ys (y ∷ without x ys)))) (sym (eq-eqb x y e))
  | inr n ↦ elim (contains_cases y ys x c) [
    | inl e ↦ absurd (n e)
    | inr h ↦ ap suc (without-length x ys h) ∙ ap (λ b. suc (length (cond b ys (y ∷ without x ys)))) (sym (ne_eqb x y n))
  ]
]

without-keeps : (x : ℕ) (ys : List ℕ) (z : ℕ) → ¬ (z ≡ x) → Contains ys z → Contains (without x ys) z
unfolding without
without-keeps x [] z n c = absurd (Contains-nil z c)
without-keeps x (y ∷ ys) z n c = elim (cases_eq x y) [
  | inl e ↦ subst (λ b. Contains (cond b ys (y ∷ without x ys)) z) (sym (eq-eqb x y e)) (elim (contains_cases y ys z c) [
    | inl d ↦ absurd (n (d ∙ sym e))
    | inr h ↦ h
  ])
  | inr m ↦ subst (λ b. Contains (cond b ys (y ∷ without x ys)) z) (sym (ne_eqb x y m)) (elim (contains_cases y ys z c) [
    | inl d ↦ subst (Contains (y ∷ without x ys)) (sym d) (contains_head y (without x ys))
    | inr h ↦ contains_tail y (without x ys) z (without-keeps x ys z n h)
  ])
]

-- different numbers that stand in a list are at most as many as the list has
pub different-length : (xs ys : List ℕ) → AllDifferent xs → ((z : ℕ) → Contains xs z → Contains ys z) → length xs ≤ length ys
different-length [] ys d h = omega arith
different-length (x ∷ xs) ys d h =
    let e : length ys ≡ suc (length (without x ys)) = without-length x ys (h x (contains_head x xs)) in
    let l : length xs ≤ length (without x ys) =
    different-length xs (without x ys) d.1 (λ z c. without-keeps x ys z (λ q. d.0 (subst (Contains xs) q c)) (h z (contains_tail x xs z c))) in
    omega arith

-- and fewer where the list has one more
pub different-fewer : (xs ys : List ℕ) → AllDifferent xs → ((z : ℕ) → Contains xs z → Contains ys z) → (s : ℕ) → Contains ys s → ¬ Contains xs s → length xs < length ys
different-fewer xs ys d h s c n =
    let l : length (s ∷ xs) ≤ length ys = different-length (s ∷ xs) ys (n, d) (λ z k. elim (contains_cases s xs z k) [
      | inl e ↦ subst (Contains ys) (sym e) c
      | inr j ↦ h z j
    ]) in
    omega arith

-- a number at the end of a list that has it nowhere
pub different-added : (q : List ℕ) (i : ℕ) → AllDifferent q → ¬ Contains q i → AllDifferent (q ++ i ∷ [])
different-added [] i d n = (Contains-nil i, tt)
different-added (x ∷ q) i d n = (
  λ c. elim (Contains-append_cases q (i ∷ []) x c) [
    | inl k ↦ d.0 k
    | inr k ↦ elim (contains_cases i [] x k) [
      | inl e ↦ n (subst (Contains (x ∷ q)) e (contains_head x q))
      | inr m ↦ Contains-nil x m
    ]
  ],
  different-added q i d.1 (λ c. n (contains_tail x q i c)),
)
