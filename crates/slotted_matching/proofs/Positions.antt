-- The position of a slot, place by place.
use Rattle.std.proofs.Common.{◌≡◌, ◌≢◌, ℕ, zero, suc, ◌+◌, ◌<◌, ◌≤◌, List, [], ◌∷◌, length, drop, cond, sym, ◌∙◌, ap, refl, arith, get_or, drop-cons}
use Rattle.std.specs.Prelude.{slice_get, Some}
use Rattle.std.proofs.lemmas.Bool.{eq-eqb, ne_eqb}
use Rattle.std.proofs.lemmas.Option.{get_or_from_slice_get}
use Rattle.std.proofs.lemmas.List.{get_or-map}
use Rattle.slotted_slots.specs.Maps.{values}
use Rattle.slotted_matching.specs.KeyRows.{class_position, one_later}

-- i places on
abbrev pub later_by : ℕ → ℕ → ℕ
later_by i zero = zero
later_by i (suc p) = suc (i + p)

pub later-none : (k : ℕ) → k ≡ later_by 0 k
later-none zero = refl
later-none (suc p) = omega arith

later-one : (i k : ℕ) → later_by i (one_later k) ≡ later_by (i + 1) k
later-one i zero = refl
later-one i (suc p) = omega arith

later-past : (i : ℕ) → later_by i 0 ≡ 0
later-past i = refl

drop-at : (F : List (ℕ × ℕ)) (i : ℕ) → i < length F → drop i F ≡ get_or F i (0, 0) ∷ drop (i + 1) F
drop-at F i h = drop-cons F i (0, 0) h ∙ ap (λ n. get_or F i (0, 0) ∷ drop n F) (more i)
  where
    more : (i : ℕ) → suc i ≡ i + 1
    more i = omega arith

value-there : (F : List (ℕ × ℕ)) (i v : ℕ) → i < length F → slice_get (values F) i ≡ Some v → (get_or F i (0, 0)).1 ≡ v
value-there F i v h e = sym (get_or-map (λ (p : ℕ × ℕ). p.1) F i (0, 0) 0 h) ∙ get_or_from_slice_get (values F) i v 0 e

-- where the slot is
pub position-there : (F : List (ℕ × ℕ)) (t i v : ℕ) → i < length F → slice_get (values F) i ≡ Some v → v ≡ t → class_position F t ≡ later_by i (class_position (drop i F) t) →
    i + 1 ≡ class_position F t
position-there F t i v h at e same =
    let first : (get_or F i (0, 0)).1 ≡ t = value-there F i v h at ∙ e in
    let here : class_position (drop i F) t ≡ 1 = ap (λ l. class_position l t) (drop-at F i h) ∙ ap (λ b. cond b 1 (one_later (class_position (drop (i + 1) F) t))) (eq-eqb (get_or F i (0, 0)).1 t first) in
    sym (same ∙ ap (later_by i) here ∙ omega arith)

-- where it is not
pub position-past : (F : List (ℕ × ℕ)) (t i v : ℕ) → i < length F → slice_get (values F) i ≡ Some v → v ≢ t → class_position F t ≡ later_by i (class_position (drop i F) t) →
    class_position F t ≡ later_by (i + 1) (class_position (drop (i + 1) F) t)
position-past F t i v h at n same =
    let k : ℕ = class_position (drop (i + 1) F) t in
    let other : (get_or F i (0, 0)).1 ≢ t = λ e. n (sym (value-there F i v h at) ∙ e) in
    let here : class_position (drop i F) t ≡ one_later k = ap (λ l. class_position l t) (drop-at F i h) ∙ ap (λ b. cond b 1 (one_later k)) (ne_eqb (get_or F i (0, 0)).1 t other) in
    same ∙ ap (later_by i) here ∙ later-one i k

drop-past : (F : List (ℕ × ℕ)) (i : ℕ) → length F ≤ i → drop i F ≡ []
drop-past [] zero h = refl
drop-past [] (suc i) h = refl
drop-past (p ∷ F) zero h = absurd (omega (arith, h))
drop-past (p ∷ F) (suc i) h = drop-past F i (omega (arith, h))

-- and where it is nowhere
pub position-none : (F : List (ℕ × ℕ)) (t i : ℕ) → length F ≤ i → class_position F t ≡ later_by i (class_position (drop i F) t) → 0 ≡ class_position F t
position-none F t i h same = sym (same ∙ ap (λ l. later_by i (class_position l t)) (drop-past F i h))
