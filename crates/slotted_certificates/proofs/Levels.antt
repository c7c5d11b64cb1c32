-- Levels of names, and what they say of the number of a name under scopes.
use Rattle.std.proofs.Common.{◌≡◌, ◌≢◌, ℕ, zero, suc, ◌+◌, ◌-◌, ◌≤◌, List, [], ◌∷◌, ◌++◌, length, sym, ◌∙◌, ap, refl, subst, inl, inr, arith}
use Rattle.std.specs.Prelude.{cond, nat_eq}
use Rattle.std.specs.List.{slice_index_or}
use Rattle.std.proofs.lemmas.Bool.{eq-eqb, ne_eqb, cases_eq}
use Rattle.slotted_certificates.specs.Scopes.{AreLevels, Keeps, names, numbering, turned, with_value}

turned-length : (os ps : List (ℕ × ℕ)) → length (turned os ps) ≡ length os + length ps
turned-length [] ps = omega arith
turned-length (o ∷ os) ps = turned-length os (o ∷ ps) ∙ omega arith

pub turned-more : {A : Type 0} (os ps : List A) (o : A) → turned (os ++ o ∷ []) ps ≡ o ∷ turned os ps
turned-more [] ps o = refl
turned-more (q ∷ os) ps o = turned-more os (q ∷ ps) o

pub depth-is : (os : List (ℕ × ℕ)) → length (turned os []) ≡ length os
depth-is os = turned-length os [] ∙ omega arith

pub with_value-same : (f : ℕ → ℕ) (x v y : ℕ) → y ≡ x → with_value f x v y ≡ v
with_value-same f x v y e = ap (λ c. cond c v (f y)) (eq-eqb y x e)

pub with_value-other : (f : ℕ → ℕ) (x v y : ℕ) → y ≢ x → with_value f x v y ≡ f y
with_value-other f x v y n = ap (λ c. cond c v (f y)) (ne_eqb y x n)

-- what a name is under the scopes by its level
abbrev by_level : ℕ → ℕ → ℕ → ℕ
by_level n zero y = n + y
by_level n (suc v) y = n - suc v

by_level-under : (n v y : ℕ) → v ≤ n → suc (by_level n v y) ≡ by_level (suc n) v y
by_level-under n zero y h = omega arith
by_level-under n (suc v) y h = omega arith

-- a level is one of the scopes, and says what the name is
pub levelled : (ps : List (ℕ × ℕ)) (f : ℕ → ℕ) (y : ℕ) → Keeps ps f → (f y ≤ length ps) × (numbering (names ps) y ≡ by_level (length ps) (f y) y)
levelled [] f y k =
    let z : f y ≡ 0 = k y in
    let n : y ≡ 0 + y = omega arith in
    (omega arith, n ∙ sym (ap (λ v. by_level 0 v y) z))
levelled (p ∷ ps) f y k = elim (cases_eq y p.0) [
  | inl e ↦
      let v : f y ≡ suc (length ps) = ap f e ∙ k.0 in
      let z : 0 ≡ suc (length ps) - suc (length ps) = omega arith in
      (omega arith, ap (λ b. cond b 0 (suc (numbering (names ps) y))) (eq-eqb y p.0 e) ∙ (z ∙ sym (ap (λ v. by_level (suc (length ps)) v y) v)))
  | inr n ↦
      let below = levelled ps (with_value f p.0 p.1) y k.1 in
      let same : with_value f p.0 p.1 y ≡ f y = with_value-other f p.0 p.1 y n in
      let within : f y ≤ length ps = subst (λ v. v ≤ length ps) same below.0 in (
        omega arith,
        ap (λ b. cond b 0 (suc (numbering (names ps) y))) (ne_eqb y p.0 n)
            ∙ (ap suc (below.1 ∙ ap (λ v. by_level (length ps) v y) same) ∙ by_level-under (length ps) (f y) y within),
      )
]

pub free_name-is : (ps : List (ℕ × ℕ)) (f : ℕ → ℕ) (y : ℕ) → Keeps ps f → f y ≡ 0 → numbering (names ps) y ≡ length ps + y
free_name-is ps f y k z = (levelled ps f y k).1 ∙ ap (λ v. by_level (length ps) v y) z

by_level-bound : (n v y : ℕ) → v ≢ 0 → by_level n v y ≡ n - v
by_level-bound n zero y h = absurd (h refl)
by_level-bound n (suc v) y h = refl

pub bound_name-is : (ps : List (ℕ × ℕ)) (f : ℕ → ℕ) (y : ℕ) → Keeps ps f → f y ≢ 0 → numbering (names ps) y ≡ length ps - f y
bound_name-is ps f y k n = (levelled ps f y k).1 ∙ by_level-bound (length ps) (f y) y n

pub keeps-along : (ps : List (ℕ × ℕ)) (f g : ℕ → ℕ) → ((y : ℕ) → g y ≡ f y) → Keeps ps f → Keeps ps g
keeps-along ps f g e k = subst (λ h. Keeps ps h) (λ i y. sym (e y) i) k

-- what the levels become where a scope is entered
pub entered-keeps : (ps : List (ℕ × ℕ)) (f g : ℕ → ℕ) (x : ℕ) → ((y : ℕ) → g y ≡ with_value f x (suc (length ps)) y) → Keeps ps f → Keeps ((x, f x) ∷ ps) g
entered-keeps ps f g x e k = (
  e x ∙ with_value-same f x (suc (length ps)) x refl,
  keeps-along ps f (with_value g x (f x)) (λ y. elim (cases_eq y x) [
    | inl d ↦ with_value-same g x (f x) y d ∙ ap f (sym d)
    | inr n ↦ with_value-other g x (f x) y n ∙ (e y ∙ with_value-other f x (suc (length ps)) y n)
  ]) k,
)

-- a level past the end of the list is 0
pub pad : (ls : List ℕ) (y : ℕ) → slice_index_or (ls ++ 0 ∷ []) y 0 ≡ slice_index_or ls y 0
pad [] zero = refl
pad [] (suc y) = refl
pad (l ∷ ls) zero = refl
pad (l ∷ ls) (suc y) = pad ls y

-- the number of a name, as it is reckoned from the scopes and its level
pub free_number : (os : List (ℕ × ℕ)) (ls : List ℕ) (y d v : ℕ) → AreLevels os ls → d ≡ length os → v ≡ slice_index_or ls y 0 → v ≡ 0 →
    d + y ≡ numbering (names (turned os [])) y
free_number os ls y d v k e w z =
    sym (free_name-is (turned os []) (λ x. slice_index_or ls x 0) y k (sym w ∙ z) ∙ ap (λ n. n + y) (depth-is os ∙ sym e))

pub bound_number : (os : List (ℕ × ℕ)) (ls : List ℕ) (y d v : ℕ) → AreLevels os ls → d ≡ length os → v ≡ slice_index_or ls y 0 → v ≢ 0 →
    d - v ≡ numbering (names (turned os [])) y
bound_number os ls y d v k e w n =
    sym (bound_name-is (turned os []) (λ x. slice_index_or ls x 0) y k (λ z. n (w ∙ z)) ∙ (λ i. (depth-is os ∙ sym e) i - sym w i))

-- the names of the scopes with one more
pub names-more : (os : List (ℕ × ℕ)) (x b : ℕ) → names (turned (os ++ (x, b) ∷ []) []) ≡ x ∷ names (turned os [])
names-more os x b = ap names (turned-more os [] (x, b))

length-more : (os : List (ℕ × ℕ)) (o : ℕ × ℕ) → length (os ++ o ∷ []) ≡ suc (length os)
length-more [] o = refl
length-more (p ∷ os) o = ap suc (length-more os o)

-- the levels where a scope was entered
pub entered-levels : (os ps : List (ℕ × ℕ)) (ls ms ns : List ℕ) (x v d : ℕ) → AreLevels os ls →
    ((y : ℕ) → slice_index_or ms y 0 ≡ slice_index_or ls y 0) → v ≡ slice_index_or ms x 0 → ps ≡ os ++ (x, v) ∷ [] → d ≡ length ps →
    ((y : ℕ) → slice_index_or ns y 0 ≡ cond (nat_eq y x) d (slice_index_or ms y 0)) → AreLevels ps ns
entered-levels os ps ls ms ns x v d k same w is e new =
    let f : ℕ → ℕ = λ y. slice_index_or ls y 0 in
    let n : d ≡ suc (length (turned os [])) = e ∙ (ap length is ∙ (length-more os (x, v) ∙ ap suc (sym (depth-is os)))) in
    let g : (y : ℕ) → slice_index_or ns y 0 ≡ with_value f x (suc (length (turned os []))) y = λ y. new y ∙ (λ i. cond (nat_eq y x) (n i) (same y i)) in
    let before : v ≡ f x = w ∙ same x in
    subst (λ qs. Keeps qs (λ y. slice_index_or ns y 0)) ((λ i. (x, sym before i) ∷ turned os []) ∙ (sym (turned-more os [] (x, v)) ∙ ap (λ qs. turned qs []) (sym is)))
    (entered-keeps (turned os []) f (λ y. slice_index_or ns y 0) x g k)

-- the levels where the innermost scope has ended
left-keeps : (os ps : List (ℕ × ℕ)) (ls : List ℕ) (x b : ℕ) → AreLevels ps ls → ps ≡ os ++ (x, b) ∷ [] →
    Keeps ((x, b) ∷ turned os []) (λ y. slice_index_or ls y 0)
left-keeps os ps ls x b k is = subst (λ qs. Keeps qs (λ y. slice_index_or ls y 0)) (ap (λ qs. turned qs []) is ∙ turned-more os [] (x, b)) k

pub left-levels : (os ps : List (ℕ × ℕ)) (ls ms : List ℕ) (x b : ℕ) → AreLevels ps ls → ps ≡ os ++ (x, b) ∷ [] →
    ((y : ℕ) → slice_index_or ms y 0 ≡ cond (nat_eq y x) b (slice_index_or ls y 0)) → AreLevels os ms
left-levels os ps ls ms x b k is new =
    keeps-along (turned os []) (with_value (λ y. slice_index_or ls y 0) x b) (λ y. slice_index_or ms y 0) new (left-keeps os ps ls x b k is).1

past-end : (ls : List ℕ) (x : ℕ) → length ls ≤ x → slice_index_or ls x 0 ≡ 0
past-end [] zero h = refl
past-end [] (suc x) h = refl
past-end (l ∷ ls) zero h = absurd (omega arith)
past-end (l ∷ ls) (suc x) h = past-end ls x (omega arith)

-- a scope's name has a level
pub left-has : {A : Type 0} (os ps : List (ℕ × ℕ)) (ls : List ℕ) (x b : ℕ) → AreLevels ps ls → ps ≡ os ++ (x, b) ∷ [] → length ls ≤ x → A
left-has os ps ls x b k is h =
    let one : slice_index_or ls x 0 ≡ suc (length (turned os [])) = (left-keeps os ps ls x b k is).0 in
    let none : slice_index_or ls x 0 ≡ 0 = past-end ls x h in
    absurd (omega arith)
