-- The terms under a node are together smaller than its term.
use Rattle.std.proofs.Common.{◌≡◌, ℕ, zero, suc, ◌+◌, ◌≤◌, ◌<◌, Bool, true, false, if◌then◌else◌, List, [], ◌∷◌, ◌++◌, length, take, drop, option_to_list, subst, ap, ◌∙◌, arith}
use Rattle.std.specs.Prelude.{Option, Some}
use denote.Param.Weighed.{most}
use Rattle.slotted_theory.specs.Term.{Term, args_size, term_size}
use Rattle.slotted_nodes.specs.Form.{Form, Tree, leaf, own, scopes, children}
use Rattle.slotted_nodes.specs.Form.{child as id, bind as binder}
use Rattle.slotted_languages.specs.Filled.{children_args, filled, term_of}

-- the sizes of terms, and one for each of them
abbrev pub total : List Term → ℕ
total [] = 0
total (t ∷ ts) = 1 + term_size t + total ts

pub total-append : (ts us : List Term) → total (ts ++ us) ≡ total ts + total us
total-append [] us = omega arith
total-append (t ∷ ts) us = omega (arith, total-append ts us)

total-parts : (n : ℕ) (ts : List Term) → total (take n ts) + total (drop n ts) ≡ total ts
total-parts zero ts = omega arith
total-parts (suc n) [] = omega arith
total-parts (suc n) (t ∷ ts) = omega (arith, total-parts n ts)

total_le-children : (ts : List Term) → total ts ≤ args_size (children_args ts)
total_le-children [] = omega arith
total_le-children (t ∷ ts) = omega (arith, total_le-children ts)

total_le-filled : (u : Tree) (xs : List ℕ) (ts : List Term) → total ts ≤ args_size (filled u xs ts)
total_le-filled leaf xs [] = omega arith
total_le-filled leaf xs (t ∷ ts) = omega (arith, total_le-children ts)
total_le-filled (own r) xs ts = omega (arith, total_le-filled r (drop 1 xs) ts)
total_le-filled (id i ks r) xs [] = omega arith
total_le-filled (id i ks r) xs (t ∷ ts) = omega (arith, total_le-filled r (drop (length ks) xs) ts)
total_le-filled (binder u r) xs ts =
    omega (arith, total_le-filled u (take (length (scopes u)) (drop 1 xs)) (take (length (children u)) ts), total_le-filled r (drop (length (scopes u)) (drop 1 xs)) (drop (length (children u)) ts), total-parts (length (children u)) ts)

-- the terms under a node are together no larger than its term
pub total_le-term : (f : Form) (ts : List Term) → total ts ≤ term_size (term_of f ts)
total_le-term f ts = total_le-filled f.tree f.names ts

most_le-total : (size : Term → ℕ) → ((t : Term) → size t ≤ suc (term_size t)) → (ts : List Term) → most size ts ≤ total ts
most_le-total size le [] = omega arith
most_le-total size le (t ∷ ts) = omega (arith, le t, most_le-total size le ts)

-- a term of a list, and what stands under it, are no larger together with the others than the list
parts_le : (all rest us : List Term) (o : Option Term) (x : Term) (f : Form) → all ≡ rest ++ option_to_list o → o ≡ Some x → term_of f us ≡ x → suc (total rest + total us) ≤ total all
parts_le all rest us o x f last is parts =
    let under : total us ≤ term_size x = subst (λ y. total us ≤ term_size y) parts (total_le-term f us) in
    let whole : total all ≡ total rest + total (x ∷ []) = ap total last ∙ (total-append rest (option_to_list o) ∙ ap (λ p. total rest + total (option_to_list p)) is) in
    omega (arith, under, whole)

-- a list whose last term gives way to what stands under it gets smaller, also where there is no room for that
pub opened_smaller : (all rest us new : List Term) (o : Option Term) (x : Term) (f : Form) (fits : Bool) → all ≡ rest ++ option_to_list o → o ≡ Some x → term_of f us ≡ x → new ≡ (if fits then rest ++ us else rest) → total new < total all
opened_smaller all rest us new o x f true last is parts joined =
    omega (arith, parts_le all rest us o x f last is parts, total-append rest us, ap total joined)
opened_smaller all rest us new o x f false last is parts joined =
    omega (arith, parts_le all rest us o x f last is parts, ap total joined)

-- what there is no room for is smaller too, by any measure that is no larger
pub under_smaller : (size : Term → ℕ) → ((t : Term) → size t ≤ suc (term_size t)) → (all rest us new : List Term) (o : Option Term) (x : Term) (f : Form) (fits : Bool) → all ≡ rest ++ option_to_list o → o ≡ Some x → term_of f us ≡ x → new ≡ (if fits then [] else us) → most size new < total all
under_smaller size le all rest us new o x f true last is parts left =
    omega (arith, parts_le all rest us o x f last is parts, most_le-total size le new, ap total left)
under_smaller size le all rest us new o x f false last is parts left =
    omega (arith, parts_le all rest us o x f last is parts, most_le-total size le new, ap total left)
