-- A graph that goes on without asserting has no explicit entry that it had not.
use Rattle.std.proofs.Common.{◌≡◌, ◌<◌, ◌≤◌, ◌++◌, ◌∙◌, ℕ, zero, suc, List, [], ◌∷◌, length, arith, ap, refl, subst, sym}
use Rattle.std.specs.Prelude.{Option, Some, None, filter_map}
use Rattle.std.specs.List.{cons_option}
use Rattle.slotted_theory.specs.Nameless.{DTerm}
use Rattle.slotted_model.specs.ProofList.{ProofEntry, Step, asserted, congruent, explicit, if_explicit, reflexive, step_at, symmetric, term_pair, transitive}
use Rattle.slotted_operations.specs.Graph.{Graph}
use Rattle.slotted_deciding.specs.Steps.{GoesTo}

one-counted : (s : Step) (p q : DTerm × DTerm) (us vs : List (DTerm × DTerm)) → length us ≡ length vs → length (cons_option (if_explicit s p) us) ≡ length (cons_option (if_explicit s q) vs)
one-counted explicit p q us vs e = ap suc e
one-counted reflexive p q us vs e = e
one-counted (symmetric r) p q us vs e = e
one-counted (transitive r s) p q us vs e = e
one-counted (congruent rs) p q us vs e = e

-- how many equations are asserted does not depend on the canonical nodes
count-same : (nodes others : List DTerm) (xs : List ProofEntry) → length (asserted nodes xs) ≡ length (asserted others xs)
count-same nodes others [] = refl
count-same nodes others (x ∷ xs) =
    one-counted x.step (term_pair nodes x.equation) (term_pair others x.equation) (asserted nodes xs) (asserted others xs) (count-same nodes others xs)

none-fewer : (s : Step) (p : DTerm × DTerm) (us : List (DTerm × DTerm)) → length us ≤ length (cons_option (if_explicit s p) us)
none-fewer explicit p us = omega arith
none-fewer reflexive p us = omega arith
none-fewer (symmetric r) p us = omega arith
none-fewer (transitive r s) p us = omega arith
none-fewer (congruent rs) p us = omega arith

one-more : (s : Step) (p : DTerm × DTerm) (us : List (DTerm × DTerm)) → s ≡ explicit → length us < length (cons_option (if_explicit s p) us)
one-more s p us e = subst (λ (t : Step). length us < length (cons_option (if_explicit t p) us)) (sym e) (omega arith)

both-more : (s : Step) (p : DTerm × DTerm) (us vs : List (DTerm × DTerm)) → length us < length vs → length (cons_option (if_explicit s p) us) < length (cons_option (if_explicit s p) vs)
both-more explicit p us vs l = omega (arith, l)
both-more reflexive p us vs l = l
both-more (symmetric r) p us vs l = l
both-more (transitive r s) p us vs l = l
both-more (congruent rs) p us vs l = l

explicit-counts : (nodes : List DTerm) (xs : List ProofEntry) (n : ℕ) → n < length xs → step_at xs n ≡ explicit → 0 < length (asserted nodes xs)
explicit-counts nodes [] n lt e = absurd (omega (arith, lt))
explicit-counts nodes (x ∷ xs) zero lt e = omega (arith, one-more x.step (term_pair nodes x.equation) (asserted nodes xs) e)
explicit-counts nodes (x ∷ xs) (suc n) lt e =
    omega (arith, explicit-counts nodes xs n (omega (arith, lt)) e, none-fewer x.step (term_pair nodes x.equation) (asserted nodes xs))

-- an explicit entry behind others asserts one equation more
explicit-more : (nodes : List DTerm) (xs ys : List ProofEntry) (n : ℕ) → length xs ≤ n → n < length (xs ++ ys) → step_at (xs ++ ys) n ≡ explicit → length (asserted nodes xs) < length (asserted nodes (xs ++ ys))
explicit-more nodes [] ys n past lt e = explicit-counts nodes ys n lt e
explicit-more nodes (x ∷ xs) ys zero past lt e = absurd (omega (arith, past))
explicit-more nodes (x ∷ xs) ys (suc n) past lt e =
    both-more x.step (term_pair nodes x.equation) (asserted nodes xs) (asserted nodes (xs ++ ys)) (explicit-more nodes xs ys n (omega (arith, past)) (omega (arith, lt)) e)

pub goes-not-explicit : (g h : Graph) → GoesTo g h → (n : ℕ) → length g.image.entries ≤ n → n < length h.image.entries → ¬ (step_at h.image.entries n ≡ explicit)
goes-not-explicit g h goes n past lt e =
    let xs = g.image.entries in
    let ys = goes.extends.entries.0 in
    let is = goes.extends.entries.1 in
    let more = explicit-more h.image.canonical xs ys n past (subst (λ (l : List ProofEntry). n < length l) is lt) (subst (λ (l : List ProofEntry). step_at l n ≡ explicit) is e) in
    let all : length (asserted h.image.canonical (xs ++ ys)) ≡ length (asserted g.image.canonical xs) =
    ap (λ (l : List ProofEntry). length (asserted h.image.canonical l)) (sym is) ∙ ap length goes.asserted in
    omega (arith, more, all, count-same h.image.canonical g.image.canonical xs)
