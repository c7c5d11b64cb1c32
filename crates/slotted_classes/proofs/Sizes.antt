-- How many live classes and slots of them there are: what another entry in the place of one, and one more, make of it.
use Rattle.std.proofs.Common.{◌≡◌, ◌<◌, ◌≤◌, ◌+◌, ◌*◌, ℕ, zero, suc, List, [], ◌∷◌, ◌++◌, length, set, ap, subst, arith}
use Rattle.slotted_model.specs.Find.{Entry, entry_at}
use Rattle.slotted_model.specs.Rest.{entry_size, size_from}

-- another entry counts in the place of the one that stood there
pub size-set : (n i m : ℕ) (es : List Entry) (x : Entry) → m ≡ n + i → i < length es → size_from n (set es i x) + entry_size m (entry_at es i) ≡ size_from n es + entry_size m x
size-set n i m [] x e l = absurd (omega arith)
size-set n zero m (y ∷ es) x e l =
    let same : m ≡ n = omega arith in
    omega (arith, ap (λ k. entry_size k x) same, ap (λ k. entry_size k y) same)
size-set n (suc i) m (y ∷ es) x e l = omega (arith, size-set (suc n) i m es x (omega (arith, e)) (omega arith))

-- each counts for no more than all
pub size-within : (n i m : ℕ) (es : List Entry) → m ≡ n + i → i < length es → entry_size m (entry_at es i) ≤ size_from n es
size-within n i m [] e l = absurd (omega arith)
size-within n zero m (y ∷ es) e l =
    let same : m ≡ n = omega arith in
    omega (arith, ap (λ k. entry_size k y) same)
size-within n (suc i) m (y ∷ es) e l = omega (arith, size-within (suc n) i m es (omega (arith, e)) (omega arith))

-- one more counts beside the others
pub size-more : (n m : ℕ) (es : List Entry) (x : Entry) → m ≡ n + length es → size_from n (es ++ x ∷ []) ≡ size_from n es + entry_size m x
size-more n m [] x e =
    let same : m ≡ n = omega (arith, e) in
    omega (arith, ap (λ k. entry_size k x) same)
size-more n m (y ∷ es) x e = omega (arith, size-more (suc n) m es x (omega (arith, e)))

-- where each counts for few they are few
pub size-few : (n most : ℕ) (es : List Entry) → ((i : ℕ) → i < length es → entry_size (n + i) (entry_at es i) ≤ most) → size_from n es ≤ length es * most
size-few n most [] few = omega arith
size-few n most (e ∷ es) few =
    let z : n + 0 ≡ n = omega arith in
    let first : entry_size n e ≤ most = subst (λ k. entry_size k e ≤ most) z (few 0 (omega arith)) in
    let rest : size_from (suc n) es ≤ length es * most = size-few (suc n) most es (λ i l. let s : n + suc i ≡ suc n + i = omega arith in subst (λ k. entry_size k (entry_at es i) ≤ most) s (few (suc i) (omega arith))) in
    omega (arith, first, rest)
