-- Costs of nodes: alike nodes, and lists of costs that are at most others.
use Rattle.std.proofs.Common.{◌≡◌, ℕ, ◌+◌, List, [], ◌∷◌, ◌++◌, Option, Some, length, sym, ◌∙◌, ap, refl, arith}
use Rattle.std.specs.Prelude.{option_and_then}
use Rattle.std.proofs.lemmas.List.{length-append}
use Rattle.slotted_lists.proofs.Options.{Some-same}
use Rattle.slotted_theory.specs.Nameless.{DArgs, DTerm, stop, place, sub, scope, lift, moved, moved_args}
use Rattle.slotted_theory.specs.Renaming.{IsInjective}
use Rattle.slotted_theory.specs.Shape.{shape}
use Rattle.slotted_theory.proofs.Shapes.{shape-moved}
use Rattle.slotted_theory.proofs.Values.{node, child_before}
use Rattle.slotted_model.specs.Applied.{Applied, as_term}
use Rattle.slotted_model.specs.LookUp.{look_up_args}
use Rattle.slotted_model.specs.Find.{Entry}
use Rattle.slotted_model.specs.Normal.{normal_args}
use Rattle.slotted_model.specs.State.{child_classes}
use Rattle.slotted_model.specs.Cost.{CostFunction, EachAtMost, child_count, null_children, without_children, AreAlike, child_costs}
use Rattle.slotted_model.proofs.Data.Options.{option_map-some, both-some}

null_children-moved : (f : ℕ → ℕ) (d : DArgs) → null_children (moved_args f d) ≡ moved_args f (null_children d)
null_children-moved f stop = refl
null_children-moved f (place x rest) = ap (place (f x)) (null_children-moved f rest)
null_children-moved f (sub op payloads args rest) = ap (sub 0 [] stop) (null_children-moved f rest)
null_children-moved f (scope inner rest) = λ i. scope (null_children-moved (lift f) inner i) (null_children-moved f rest i)

-- other names make an alike node
pub alike-moved : (f : ℕ → ℕ) → IsInjective f → (d : DTerm) → AreAlike (moved f d) d
alike-moved f inj d = ap (λ args. shape (node d.op d.payloads args)) (null_children-moved f d.args) ∙ shape-moved f inj (without_children d)

-- and so do other children
pub null_children-normal : (found : List Entry) (d : DArgs) → null_children (normal_args found d) ≡ null_children d
null_children-normal found stop = refl
null_children-normal found (place x rest) = ap (place x) (null_children-normal found rest)
null_children-normal found (sub op payloads args rest) = ap (sub 0 [] stop) (null_children-normal found rest)
null_children-normal found (scope inner rest) = λ i. scope (null_children-normal found inner i) (null_children-normal found rest i)

pub null_children-looked_up : (look : DTerm → Option Applied) (d e : DArgs) → look_up_args look d ≡ Some e → null_children e ≡ null_children d
null_children-looked_up look stop e p = ap null_children (sym (Some-same stop e p))
null_children-looked_up look (place x rest) e p =
    let r : (f : DArgs) × (look_up_args look rest ≡ Some f) × (place x f ≡ e) = option_map-some (place x) (look_up_args look rest) e p in
    ap null_children (sym r.2) ∙ ap (place x) (null_children-looked_up look rest r.0 r.1)
null_children-looked_up look (sub op payloads args rest) e p =
    let answer : Option DArgs → Option Applied = option_and_then (λ found. look (node op payloads found)) in
    let r : (a : Applied) × (f : DArgs) × (answer (look_up_args look args) ≡ Some a) × (look_up_args look rest ≡ Some f) × (child_before (as_term a) f ≡ e) =
    both-some (λ a found. child_before (as_term a) found) (answer (look_up_args look args)) (look_up_args look rest) e p in
    ap null_children (sym r.4) ∙ ap (sub 0 [] stop) (null_children-looked_up look rest r.1 r.3)
null_children-looked_up look (scope inner rest) e p =
    let r : (a : DArgs) × (f : DArgs) × (look_up_args look inner ≡ Some a) × (look_up_args look rest ≡ Some f) × (scope a f ≡ e) = both-some scope (look_up_args look inner) (look_up_args look rest) e p in
    ap null_children (sym r.4) ∙ (λ i. scope (null_children-looked_up look inner r.0 r.2 i) (null_children-looked_up look rest r.1 r.3 i))

-- there is a class for each child
pub child_classes-count : (d : DArgs) → length (child_classes d) ≡ child_count d
child_classes-count stop = refl
child_classes-count (place x rest) = child_classes-count rest
child_classes-count (sub op payloads args rest) = let e : length (child_classes rest) ≡ child_count rest = child_classes-count rest in omega arith
child_classes-count (scope inner rest) =
    let e : length (child_classes inner) ≡ child_count inner = child_classes-count inner in
    let f : length (child_classes rest) ≡ child_count rest = child_classes-count rest in
    let l : length (child_classes inner ++ child_classes rest) ≡ length (child_classes inner) + length (child_classes rest) = length-append (child_classes inner) (child_classes rest) in
    omega arith

module _ {C : Type 0} (k : CostFunction C) where
  -- and a cost
  pub child_costs-count : (d : DArgs) → length (child_costs k d) ≡ child_count d
  child_costs-count stop = refl
  child_costs-count (place x rest) = child_costs-count rest
  child_costs-count (sub op payloads args rest) = let e : length (child_costs k rest) ≡ child_count rest = child_costs-count rest in omega arith
  child_costs-count (scope inner rest) =
      let e : length (child_costs k inner) ≡ child_count inner = child_costs-count inner in
      let f : length (child_costs k rest) ≡ child_count rest = child_costs-count rest in
      let l : length (child_costs k inner ++ child_costs k rest) ≡ length (child_costs k inner) + length (child_costs k rest) = length-append (child_costs k inner) (child_costs k rest) in
      omega arith

  pub at_most-length : (xs ys : List C) → EachAtMost k xs ys → length xs ≡ length ys
  at_most-length [] [] h = refl
  at_most-length (x ∷ xs) (y ∷ ys) h = let e : length xs ≡ length ys = at_most-length xs ys h.1 in omega arith
  at_most-length [] (y ∷ ys) h = absurd h
  at_most-length (x ∷ xs) [] h = absurd h

  pub at_most-append : (xs ys us vs : List C) → EachAtMost k xs ys → EachAtMost k us vs → EachAtMost k (xs ++ us) (ys ++ vs)
  at_most-append [] [] us vs h l = l
  at_most-append (x ∷ xs) (y ∷ ys) us vs h l = (h.0, at_most-append xs ys us vs h.1 l)
  at_most-append [] (y ∷ ys) us vs h l = absurd h
  at_most-append (x ∷ xs) [] us vs h l = absurd h
