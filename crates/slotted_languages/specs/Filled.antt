-- The term of a node over the terms of its children: names stand at own places and binders, and each child's term
-- stands in the place of its id.
use Rattle.std.specs.Prelude.{◌≡◌, ℕ, zero, suc, ◌+◌, ◌≤◌, List, [], ◌∷◌, take, drop, length, slice_index}
use Rattle.std.proofs.Common.{arith}
use denote.Param.Weighed.{most}
use Rattle.slotted_theory.specs.Term.{Args, Term, done, name, child, bind, args_size, term_size}
use Rattle.slotted_nodes.specs.Form.{Form, Tree, leaf, own, scopes, children}
use Rattle.slotted_nodes.specs.Form.{child as id, bind as binder}

-- terms as arguments, one after another
abbrev pub children_args : List Term → Args
children_args [] = done
children_args (t ∷ ts) = child t.op t.payloads t.args (children_args ts)

-- what stands where a child is missing, and before children that are too many: no term has the operator 0
abbrev pub hole : Args → Args
hole rest = child 0 [] done rest

-- the arguments of a tree with names put at its places and terms in the places of its ids, both from the left
abbrev pub filled : Tree → List ℕ → List Term → Args
filled leaf xs [] = done
filled leaf xs (t ∷ ts) = hole (children_args (t ∷ ts))
filled (own r) xs ts = name (slice_index xs 0) (filled r (drop 1 xs) ts)
filled (id i ks r) xs [] = hole (filled r (drop (length ks) xs) [])
filled (id i ks r) xs (t ∷ ts) = child t.op t.payloads t.args (filled r (drop (length ks) xs) ts)
filled (binder u r) xs ts =
    bind (slice_index xs 0) (filled u (take (length (scopes u)) (drop 1 xs)) (take (length (children u)) ts))
    (filled r (drop (length (scopes u)) (drop 1 xs)) (drop (length (children u)) ts))

-- the term of a node with these children
abbrev pub term_of : Form → List Term → Term
term_of f ts = record { op = suc f.operator; payloads = f.payloads; args = filled f.tree f.names ts }

abbrev total : List Term → ℕ
total [] = 0
total (t ∷ ts) = 1 + term_size t + total ts

most_le-total : (ts : List Term) → most (λ t. term_size t + 1) ts ≤ total ts
most_le-total [] = omega arith
most_le-total (t ∷ ts) = omega (arith, most_le-total ts)

total-parts : (n : ℕ) (ts : List Term) → total (take n ts) + total (drop n ts) ≡ total ts
total-parts zero ts = omega arith
total-parts (suc n) [] = omega arith
total-parts (suc n) (t ∷ ts) = omega (arith, total-parts n ts)

total_le-children : (ts : List Term) → total ts ≤ args_size (children_args ts)
total_le-children [] = omega arith
total_le-children (t ∷ ts) = omega (arith, total_le-children ts)

total_le-filled : (u : Tree) (xs : List ℕ) (ts : List Term) → total ts ≤ args_size (filled u xs ts)
total_le-filled leaf xs [] = omega arith
total_le-filled leaf xs (t ∷ ts) = omega (arith, total_le-children ts)
total_le-filled (own r) xs ts = omega (arith, total_le-filled r (drop 1 xs) ts)
total_le-filled (id i ks r) xs [] = omega arith
total_le-filled (id i ks r) xs (t ∷ ts) = omega (arith, total_le-filled r (drop (length ks) xs) ts)
total_le-filled (binder u r) xs ts =
    omega (arith, total_le-filled u (take (length (scopes u)) (drop 1 xs)) (take (length (children u)) ts), total_le-filled r (drop (length (scopes u)) (drop 1 xs)) (drop (length (children u)) ts), total-parts (length (children u)) ts)

-- each child's term is smaller
pub children_smaller : (f : Form) (ts : List Term) → most (λ t. term_size t + 1) ts ≤ term_size (term_of f ts)
children_smaller f ts = omega (arith, most_le-total ts, total_le-filled f.tree f.names ts)
