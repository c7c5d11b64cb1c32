-- Where a node is too large for alpha-equality, so is one of the whole term.
use Rattle.std.specs.Prelude.{◌⊎◌, slice_index_or}
use Rattle.std.proofs.Common.{◌≡◌, ℕ, suc, zero, ◌<◌, ◌≤◌, List, [], ◌∷◌, length, take, drop, arith, inl, inr, length-append}
use Rattle.slotted_theory.specs.Term.{Term}
use Rattle.slotted_nodes.specs.Form.{Form, Tree, leaf, own, child, bind, scopes, children}
use Rattle.slotted_languages.specs.Filled.{filled, children_args, term_of}
use Rattle.slotted_languages.specs.Outline.{outlined}
use Rattle.slotted_outlines.specs.Seen.{place_count}
use Rattle.slotted_terms.specs.LargeNodes.{node_places, HasLargePart, HasLargeNode, HaveLargeNode}

-- a node's term has a place for each place of its outline
pub place_count-places : (a : Form) (ts : List Term) → place_count a ≤ node_places (filled a.tree a.names ts)
place_count-places a ts = places_le a.tree a.names ts
  where
    places_le : (u : Tree) (xs : List ℕ) (ts : List Term) → length (scopes (outlined u)) ≤ node_places (filled u xs ts)
    places_le leaf xs ts = omega arith
    places_le (own r) xs ts = omega (arith, places_le r (drop 1 xs) ts)
    places_le (child i ks r) xs [] = omega (arith, places_le r (drop (length ks) xs) [])
    places_le (child i ks r) xs (t ∷ ts) = omega (arith, places_le r (drop (length ks) xs) ts)
    places_le (bind u r) xs ts =
        let n = length (scopes u) in
        let k = length (children u) in
        omega (arith, length-append (scopes (outlined u)) (scopes (outlined r)), places_le u (take n (drop 1 xs)) (take k ts), places_le r (drop n (drop 1 xs)) (drop k ts))

-- such a term among others
pub large_at : (ts : List Term) (k : ℕ) (t : Term) → k < length ts → t ≡ slice_index_or ts k t → HasLargeNode t → HaveLargeNode ts
large_at [] k t h e l = absurd (omega (arith, h))
large_at (u ∷ ts) zero t h e l = inl (rw e at l)
large_at (u ∷ ts) (suc k) t h e l = inr (large_at ts k t (omega (arith, h)) e l)

-- it is one of the first n, or one of the others
large_split : (n : ℕ) (ts : List Term) → HaveLargeNode ts → HaveLargeNode (take n ts) ⊎ HaveLargeNode (drop n ts)
large_split zero ts l = inr l
large_split (suc n) [] l = absurd l
large_split (suc n) (t ∷ ts) l = elim l [
  | inl here ↦ inl (inl here)
  | inr more ↦ elim (large_split n ts more) [ inl a ↦ inl (inr a) | inr b ↦ inr b ]
]

-- terms in a row, and terms in the places of a tree
large_row : (ts : List Term) → HaveLargeNode ts → HasLargePart (children_args ts)
large_row [] l = l
large_row (t ∷ ts) l = elim l [ inl here ↦ inl here | inr more ↦ inr (large_row ts more) ]

large_filled : (u : Tree) (xs : List ℕ) (ts : List Term) → HaveLargeNode ts → HasLargePart (filled u xs ts)
large_filled leaf xs [] l = l
large_filled leaf xs (t ∷ ts) l = inr (large_row (t ∷ ts) l)
large_filled (own r) xs ts l = large_filled r (drop 1 xs) ts l
large_filled (child i ks r) xs [] l = absurd l
large_filled (child i ks r) xs (t ∷ ts) l = elim l [ inl here ↦ inl here | inr more ↦ inr (large_filled r (drop (length ks) xs) ts more) ]
large_filled (bind u r) xs ts l =
    let n = length (scopes u) in
    let k = length (children u) in
    elim (large_split k ts l) [
      | inl a ↦ inl (large_filled u (take n (drop 1 xs)) (take k ts) a)
      | inr b ↦ inr (large_filled r (drop n (drop 1 xs)) (drop k ts) b)
    ]

-- a child's large node is one of the term
pub large_below : (f : Form) (ts : List Term) → HaveLargeNode ts → HasLargeNode (term_of f ts)
large_below f ts l = inr (large_filled f.tree f.names ts l)
