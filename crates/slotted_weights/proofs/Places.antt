-- What stands at the place of a word, and what a new weight leaves.
use Rattle.std.specs.Prelude.{◌≡◌, ◌<◌, ℕ, suc, List, [], ◌∷◌, ◌++◌, length, Bool, true, false, Option, Some, None, option_map, cond, bytes_eq, set, get_or, refl}
use Rattle.std.proofs.Common.{ap, ◌∙◌, sym, subst, arith}
use Rattle.std.proofs.lemmas.Slice.Eq.{bytes_eq-Decides}
use Rattle.slotted_weights.specs.OperatorWeights.{weight_of, with_weight, place_of}

-- a place is that of the first entry, or one of the others
at_step : (b : Bool) (o : Option ℕ) (i : ℕ) (P : Bool → ℕ → Type 0) → P true 0 → ((j : ℕ) → o ≡ Some j → P false (suc j)) →
    cond b (Some 0) (option_map suc o) ≡ Some i → P b i
at_step true o i P f g h = (let e : 0 ≡ i = cc in subst (P true) e f)
at_step false None i P f g h = absurd (cc)
at_step false (Some j) i P f g h = (let e : suc j ≡ i = cc in subst (P false) e (g j refl))

pub place-within : (ws : List (List ℕ × ℕ)) (w : List ℕ) (i : ℕ) → place_of ws w ≡ Some i → i < length ws
place-within [] w i h = absurd (cc)
place-within (e ∷ ws) w i h =
    at_step (bytes_eq e.0 w) (place_of ws w) i (λ _ k. k < length (e ∷ ws)) (omega arith) (λ j p. omega (arith, place-within ws w j p)) h

-- what stands there
pub weight-found : (ws : List (List ℕ × ℕ)) (w : List ℕ) (i : ℕ) → place_of ws w ≡ Some i → (x : List ℕ × ℕ) → x ≡ get_or ws i x → x.1 ≡ weight_of ws w
weight-found [] w i h = absurd (cc)
weight-found (e ∷ ws) w i h =
    at_step (bytes_eq e.0 w) (place_of ws w) i (λ b k. (x : List ℕ × ℕ) → x ≡ get_or (e ∷ ws) k x → x.1 ≡ cond b e.1 (weight_of ws w))
    (λ x at. ap (λ p. p.1) at) (λ j p. weight-found ws w j p) h

pub weight-replaced : (ws : List (List ℕ × ℕ)) (w : List ℕ) (n i : ℕ) → place_of ws w ≡ Some i → (x : List ℕ × ℕ) → x ≡ get_or ws i x →
    set ws i (x.0, n) ≡ with_weight ws w n
weight-replaced [] w n i h = absurd (cc)
weight-replaced (e ∷ ws) w n i h =
    at_step (bytes_eq e.0 w) (place_of ws w) i
    (λ b k. (x : List ℕ × ℕ) → x ≡ get_or (e ∷ ws) k x → set (e ∷ ws) k (x.0, n) ≡ cond b ((e.0, n) ∷ ws) (e ∷ with_weight ws w n))
    (λ x at. ap (λ p. (p.0, n) ∷ ws) at) (λ j p x at. ap (λ l. e ∷ l) (weight-replaced ws w n j p x at)) h

-- no entry has the word
none_step : (b : Bool) (o : Option ℕ) (P : Bool → Type 0) → (o ≡ None → P false) → cond b (Some 0) (option_map suc o) ≡ None → P b
none_step true o P f h = absurd (cc)
none_step false None P f h = f refl
none_step false (Some x) P f h = absurd (cc)

pub weight-unset : (ws : List (List ℕ × ℕ)) (w : List ℕ) → place_of ws w ≡ None → 1 ≡ weight_of ws w
weight-unset [] w h = refl
weight-unset (e ∷ ws) w h = none_step (bytes_eq e.0 w) (place_of ws w) (λ b. 1 ≡ cond b e.1 (weight_of ws w)) (weight-unset ws w) h

pub weight-added : (ws : List (List ℕ × ℕ)) (w : List ℕ) (n : ℕ) → place_of ws w ≡ None → ws ++ (w, n) ∷ [] ≡ with_weight ws w n
weight-added [] w n h = refl
weight-added (e ∷ ws) w n h =
    none_step (bytes_eq e.0 w) (place_of ws w) (λ b. e ∷ (ws ++ (w, n) ∷ []) ≡ cond b ((e.0, n) ∷ ws) (e ∷ with_weight ws w n))
    (λ p. ap (λ l. e ∷ l) (weight-added ws w n p)) h

-- the word has the new weight, and each other word the old one
first_new : (b : Bool) (e : List ℕ × ℕ) (ws : List (List ℕ × ℕ)) (w : List ℕ) (n : ℕ) → bytes_eq e.0 w ≡ b → weight_of (with_weight ws w n) w ≡ n →
    weight_of (cond b ((e.0, n) ∷ ws) (e ∷ with_weight ws w n)) w ≡ n
first_new true e ws w n s f = ap (λ b. cond b n (weight_of ws w)) s
first_new false e ws w n s f = ap (λ b. cond b e.1 (weight_of (with_weight ws w n) w)) s ∙ f

pub weight-new : (ws : List (List ℕ × ℕ)) (w : List ℕ) (n : ℕ) → weight_of (with_weight ws w n) w ≡ n
weight-new [] w n = ap (λ b. cond b n 1) ((bytes_eq-Decides w w).1 refl)
weight-new (e ∷ ws) w n = first_new (bytes_eq e.0 w) e ws w n refl (weight-new ws w n)

is_false : (b : Bool) {P : Type 0} → (b ≡ true → P) → ¬ P → b ≡ false
is_false true f h = absurd (h (f refl))
is_false false f h = refl

differ : (v w : List ℕ) → ¬ (w ≡ v) → bytes_eq v w ≡ false
differ v w h = is_false (bytes_eq v w) (λ e. sym ((bytes_eq-Decides v w).0 e)) h

first_other : (b : Bool) (e : List ℕ × ℕ) (ws : List (List ℕ × ℕ)) (w : List ℕ) (n : ℕ) (v : List ℕ) → bytes_eq e.0 w ≡ b → ¬ (v ≡ w) →
    weight_of (with_weight ws w n) v ≡ weight_of ws v →
    weight_of (cond b ((e.0, n) ∷ ws) (e ∷ with_weight ws w n)) v ≡ weight_of (e ∷ ws) v
first_other true e ws w n v s h f =
    let d = differ e.0 v (λ q. h (q ∙ (bytes_eq-Decides e.0 w).0 s)) in
    ap (λ b. cond b n (weight_of ws v)) d ∙ sym (ap (λ b. cond b e.1 (weight_of ws v)) d)
first_other false e ws w n v s h f = ap (cond (bytes_eq e.0 v) e.1) f

pub weight-other : (ws : List (List ℕ × ℕ)) (w : List ℕ) (n : ℕ) (v : List ℕ) → ¬ (v ≡ w) → weight_of (with_weight ws w n) v ≡ weight_of ws v
weight-other [] w n v h = ap (λ b. cond b n 1) (differ w v h)
weight-other (e ∷ ws) w n v h = first_other (bytes_eq e.0 w) e ws w n v refl h (weight-other ws w n v h)
