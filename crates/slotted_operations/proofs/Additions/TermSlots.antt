-- The slots that adding a term may need: those of the terms under its node, and those of the node.
use Rattle.std.proofs.Common.{◌≡◌, ◌≤◌, ℕ, zero, suc, ◌+◌, List, [], ◌∷◌, length, take, drop, arith}
use Rattle.slotted_theory.specs.Term.{Term}
use Rattle.slotted_nodes.specs.Form.{Form, Tree, leaf, own, child, bind, scopes, children}
use Rattle.slotted_languages.specs.Filled as form
use Rattle.slotted_terms.proofs.TermFolds.{weigh}
use Rattle.slotted_operations.specs.Places.{term_places, args_slots, term_slots}

abbrev pub slots_of : List Term → ℕ
slots_of us = weigh term_slots us

slots-parts : (n : ℕ) (us : List Term) → slots_of (take n us) + slots_of (drop n us) ≡ slots_of us
slots-parts zero us = omega arith
slots-parts (suc n) [] = omega arith
slots-parts (suc n) (u ∷ us) = omega (arith, slots-parts n us)

slots_le-children : (us : List Term) → slots_of us ≤ args_slots (form.children_args us)
slots_le-children [] = omega arith
slots_le-children (u ∷ us) = omega (arith, slots_le-children us)

slots_le-filled : (t : Tree) (xs : List ℕ) (us : List Term) → slots_of us ≤ args_slots (form.filled t xs us)
slots_le-filled leaf xs [] = omega arith
slots_le-filled leaf xs (u ∷ us) = omega (arith, slots_le-children us)
slots_le-filled (own r) xs us = omega (arith, slots_le-filled r (drop 1 xs) us)
slots_le-filled (child i ks r) xs [] = omega arith
slots_le-filled (child i ks r) xs (u ∷ us) = omega (arith, slots_le-filled r (drop (length ks) xs) us)
slots_le-filled (bind u r) xs us =
    omega (arith, slots_le-filled u (take (length (scopes u)) (drop 1 xs)) (take (length (children u)) us), slots_le-filled r (drop (length (scopes u)) (drop 1 xs)) (drop (length (children u)) us), slots-parts (length (children u)) us)

-- the slots of the terms under a node, and one for each place of the term over them
pub slots_fit : (f : Form) (us : List Term) → slots_of us + term_places (form.term_of f us) ≤ term_slots (form.term_of f us)
slots_fit f us = omega (arith, slots_le-filled f.tree f.names us)
