-- The way down to the place where two terms differ.
use Rattle.std.proofs.Common.{◌≡◌, ◌<◌, ◌+◌, ◌++◌, ℕ, zero, suc, List, [], ◌∷◌, length, set, refl, sym, ap, subst, ◌∙◌, arith}
use Rattle.std.proofs.lemmas.List.{get_or_default, set-get_or}
use Rattle.std.proofs.lemmas.List.Elements.{All-append, All-cons, All-nil}
use Rattle.slotted_theory.specs.Term.{Term, term_size}
use Rattle.slotted_theory.specs.Nameless.{Alpha, nameless}
use Rattle.slotted_nodes.specs.Form.{Form, children}
use Rattle.slotted_languages.specs.Filled.{term_of}
use Rattle.slotted_terms.specs.LargeNodes.{HasLargeNode}
use Rattle.slotted_terms.proofs.LargeNodes.{large_at, large_below}
use Rattle.slotted_terms.proofs.SubtermSizes.{total, total_le-term}
use Rattle.slotted_terms.specs.TermPattern.{no_term}
use Rattle.slotted_changes.specs.Changes.{AreLevels, AreOfOneNode, DifferAt, DifferBelow, DifferInOne, IsLevel, Level, below, nth, over}
use Rattle.slotted_changes.specs.Steps.{level}
use Rattle.slotted_changes.proofs.Nodes.{length_children-outline, same_node, term_of-outline}
use Rattle.slotted_changes.proofs.Rows.{below-alpha, differ-set, term_of-alpha}

-- both terms of one node alone have its nodes and its rows
pub record SameNodes (f g : Form) (ts us : List Term) (d : DifferInOne (term_of f ts) (term_of g us)) : Type 0 where
  pub node : AreOfOneNode f g ts us
  pub differ : DifferAt ts us d.place

same_nodes : (f g : Form) (ts us : List Term) (d : DifferInOne (term_of f ts) (term_of g us)) → SameNodes f g ts us d
same_nodes f g ts us d =
    let left = same_node f d.node ts d.ts d.first d.first_whole in
    let right = same_node g d.node us d.us d.second d.second_whole in
    record {
      node = record { same = left.node ∙ sym right.node; first = left.count; second = right.count };
      differ = subst (λ (p : List Term × List Term). DifferAt p.0 p.1 d.place) (λ i. (sym left.row i, sym right.row i)) d.differ;
    }

-- terms of two nodes do not differ in one child, nor do terms of whose children none differs alone
pub apart_nodes : (f g : Form) (ts us : List Term) → ¬ AreOfOneNode f g ts us → ¬ DifferInOne (term_of f ts) (term_of g us)
apart_nodes f g ts us h d = h (same_nodes f g ts us d).node

pub no_difference : (f g : Form) (ts us : List Term) → ((k : ℕ) → ¬ DifferAt ts us k) → ¬ DifferInOne (term_of f ts) (term_of g us)
no_difference f g ts us h d = h d.place (same_nodes f g ts us d).differ

-- the rows of one node are equally long
pub one_node-rows : (f g : Form) (ts us : List Term) → AreOfOneNode f g ts us → length ts ≡ length us
one_node-rows f g ts us h = h.first ∙ (length_children-outline f g h.same ∙ sym h.second)

-- a child is smaller than its term
total-at : (ts : List Term) (k : ℕ) → k < length ts → term_size (nth ts k) < total ts
total-at [] k lt = absurd (omega (arith, lt))
total-at (u ∷ ts) zero lt = omega arith
total-at (u ∷ ts) (suc k) lt = omega (arith, total-at ts k (omega (arith, lt)))

pub child-smaller : (f : Form) (ts : List Term) (k : ℕ) (whole : Term) → k < length ts → term_of f ts ≡ whole → term_size (nth ts k) < term_size whole
child-smaller f ts k whole lt w = omega (arith, total-at ts k lt, total_le-term f ts, ap term_size w)

-- a large node of a child is one of its term
child-large : (f : Form) (ts : List Term) (k : ℕ) (whole : Term) → k < length ts → term_of f ts ≡ whole → HasLargeNode (nth ts k) → HasLargeNode whole
child-large f ts k whole lt w h = subst HasLargeNode w (large_below f ts (large_at ts k (nth ts k) lt (get_or_default ts k no_term (nth ts k) lt) h))

pub record Down (one two from to : Term) (ls : List Level) : Type 0 where
  pub one_is : one ≡ below ls from
  pub two_is : Alpha (below ls to) two
  pub differ : ¬ Alpha from to

-- one level more
pub below-more : (ls : List Level) (l : Level) (t : Term) → below (ls ++ l ∷ []) t ≡ below ls (over l t)
below-more [] l t = refl
below-more (k ∷ ls) l t = ap (over k) (below-more ls l t)

-- below some levels of both terms stands what differs, and its large nodes are theirs
pub record Way (one two from to : Term) (ls : List Level) : Type 0 where
  pub down : Down one two from to ls
  pub are_levels : AreLevels ls
  pub first_large : HasLargeNode from → HasLargeNode one
  pub second_large : HasLargeNode to → HasLargeNode two

-- at the start of the way
pub start : (one two : Term) → ¬ Alpha one two → Way one two one two []
start one two h = record {
  down = record { one_is = refl; two_is = refl; differ = h };
  are_levels = All-nil IsLevel;
  first_large = λ l. l;
  second_large = λ l. l;
}

-- the way goes on to the child that differs
module _ (one two from to : Term) (ls : List Level) (way : Way one two from to ls) (f g : Form) (ts us : List Term) (k : ℕ)
    (from_is : term_of f ts ≡ from) (to_is : term_of g us ≡ to) (b : DifferBelow f g ts us k) where
  rows : length ts ≡ length us
  rows = one_node-rows f g ts us b.node

  pub other-within : k < length us
  other-within = omega (arith, rows, b.differ.within)

  first : over (level f ts k) (nth ts k) ≡ from
  first = ap (term_of f) (set-get_or ts k no_term) ∙ from_is

  second : Alpha (over (level f ts k) (nth us k)) to
  second =
      term_of-alpha f (set ts k (nth us k)) us (differ-set ts us k rows b.differ)
      ∙ ap nameless (term_of-outline f g us b.node.same ∙ to_is)

  pub step-down : Way one two (nth ts k) (nth us k) (ls ++ level f ts k ∷ [])
  step-down = record {
    down = record {
      one_is = way.down.one_is ∙ (ap (below ls) (sym first) ∙ sym (below-more ls (level f ts k) (nth ts k)));
      two_is =
          ap nameless (below-more ls (level f ts k) (nth us k))
          ∙ (below-alpha ls (over (level f ts k) (nth us k)) to second ∙ way.down.two_is);
      differ = b.differ.here;
    };
    are_levels = All-append IsLevel ls (level f ts k ∷ []) way.are_levels (All-cons IsLevel (level f ts k) [] (record { count = b.node.first; within = b.differ.within }) (All-nil IsLevel));
    first_large = λ l. way.first_large (child-large f ts k from b.differ.within from_is l);
    second_large = λ l. way.second_large (child-large g us k to other-within to_is l);
  }
