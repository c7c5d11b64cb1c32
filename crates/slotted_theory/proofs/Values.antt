-- The two inductions of a congruence closure, for proofs about graphs.
--     value look d     the value of a tree from the bottom up, where `look` gives the value of a node over the values of its children
--     complete         equal trees have one value, if the listed ones do and look commutes with moving names
--     sound            a tree is equal to what its value stands for, if each node over values is
use Rattle.std.proofs.Common.{◌≡◌, ℕ, List, sym, ◌∙◌, ap, refl}
use Rattle.std.specs.Prelude.{Contains}
use Rattle.slotted_theory.specs.Nameless.{DArgs, DTerm, stop, place, sub, scope, lift, moved, moved_args}
use Rattle.slotted_theory.specs.Renaming.{IsInjective}
use Rattle.slotted_theory.specs.Derives.{Equal, listed, reflexive, turned, joined, within, moving, EqualArgs, equal_done, equal_name, equal_child, equal_bind}
use Rattle.slotted_theory.proofs.Names.{lift-injective}
use Rattle.slotted_theory.proofs.Equals.{Equal-from_path}

-- a node from its parts
abbrev pub node : ℕ → List (List ℕ) → DArgs → DTerm
node op payloads args = record { op = op; payloads = payloads; args = args }

-- the term as the first child of a list of arguments
abbrev pub child_before : DTerm → DArgs → DArgs
child_before d rest = sub d.op d.payloads d.args rest

-- the arguments with each child's value in its place
abbrev pub value_args : (DTerm → DTerm) → DArgs → DArgs
value_args look stop = stop
value_args look (place x rest) = place x (value_args look rest)
value_args look (sub op payloads args rest) = child_before (look (node op payloads (value_args look args))) (value_args look rest)
value_args look (scope inner rest) = scope (value_args look inner) (value_args look rest)

-- the value of a tree
abbrev pub value : (DTerm → DTerm) → DTerm → DTerm
value look d = look (node d.op d.payloads (value_args look d.args))

-- look does not depend on names
abbrev pub Commutes : (DTerm → DTerm) → Type 0
Commutes look = (f : ℕ → ℕ) → IsInjective f → (d : DTerm) → look (moved f d) ≡ moved f (look d)

pub value_args-moved : (look : DTerm → DTerm) → Commutes look → (f : ℕ → ℕ) → IsInjective f → (d : DArgs) → value_args look (moved_args f d) ≡ moved_args f (value_args look d)
value_args-moved look law f inj stop = refl
value_args-moved look law f inj (place x rest) = ap (place (f x)) (value_args-moved look law f inj rest)
value_args-moved look law f inj (sub op payloads args rest) =
    let a : value_args look (moved_args f args) ≡ moved_args f (value_args look args) = value_args-moved look law f inj args in
    let e : look (node op payloads (value_args look (moved_args f args))) ≡ moved f (look (node op payloads (value_args look args))) = ap (λ x. look (node op payloads x)) a ∙ law f inj (node op payloads (value_args look args)) in
    λ i. child_before (e i) (value_args-moved look law f inj rest i)
value_args-moved look law f inj (scope inner rest) =
    λ i. scope (value_args-moved look law (lift f) (lift-injective f inj) inner i) (value_args-moved look law f inj rest i)

pub value-moved : (look : DTerm → DTerm) → Commutes look → (f : ℕ → ℕ) → IsInjective f → (d : DTerm) → value look (moved f d) ≡ moved f (value look d)
value-moved look law f inj d = ap (λ x. look (node d.op d.payloads x)) (value_args-moved look law f inj d.args) ∙ law f inj (node d.op d.payloads (value_args look d.args))

-- equal trees have one value
mutual
  pub complete : {E : List (DTerm × DTerm)} (look : DTerm → DTerm) → Commutes look → ((d e : DTerm) → Contains E (d, e) → value look d ≡ value look e) → {d e : DTerm} → Equal E d e → value look d ≡ value look e
  complete look law h {d} {e} (listed c) = h d e c
  complete look law h reflexive = refl
  complete look law h (turned p) = sym (complete look law h p)
  complete look law h (joined p q) = complete look law h p ∙ complete look law h q
  complete look law h (within {op = o} {payloads = p} a) = ap (λ x. look (node o p x)) (complete_args look law h a)
  complete look law h (moving {d = d} {e = e} f inj p) = value-moved look law f inj d ∙ (ap (moved f) (complete look law h p) ∙ sym (value-moved look law f inj e))

  pub complete_args : {E : List (DTerm × DTerm)} (look : DTerm → DTerm) → Commutes look → ((d e : DTerm) → Contains E (d, e) → value look d ≡ value look e) → {a b : DArgs} → EqualArgs E a b → value_args look a ≡ value_args look b
  complete_args look law h equal_done = refl
  complete_args look law h (equal_name {x = x} a) = ap (place x) (complete_args look law h a)
  complete_args look law h (equal_child {d = d} {e = e} p a) =
      λ i. child_before (complete look law h p i) (complete_args look law h a i)
  complete_args look law h (equal_bind a r) = λ i. scope (complete_args look law h a i) (complete_args look law h r i)

-- what a value stands for: `stands` says it of a node, whose children are put in place first
abbrev pub expand_args : (DTerm → DTerm) → DArgs → DArgs
expand_args stands stop = stop
expand_args stands (place x rest) = place x (expand_args stands rest)
expand_args stands (sub op payloads args rest) = child_before (stands (node op payloads (expand_args stands args))) (expand_args stands rest)
expand_args stands (scope inner rest) = scope (expand_args stands inner) (expand_args stands rest)

-- what a value stands for, as a tree
abbrev pub expand : (DTerm → DTerm) → DTerm → DTerm
expand stands d = stands (node d.op d.payloads (expand_args stands d.args))

-- a node of the language stands for itself
abbrev pub IsOwn : (DTerm → DTerm) → ℕ → Type 0
IsOwn stands op = (payloads : List (List ℕ)) (args : DArgs) → stands (node op payloads args) ≡ node op payloads args

-- each node in the arguments stands for itself
abbrev pub OwnArgs : (DTerm → DTerm) → DArgs → Type 0
OwnArgs stands stop = Unit {0}
OwnArgs stands (place x rest) = OwnArgs stands rest
OwnArgs stands (sub op payloads args rest) = IsOwn stands op × OwnArgs stands args × OwnArgs stands rest
OwnArgs stands (scope inner rest) = OwnArgs stands inner × OwnArgs stands rest

pub sound_args : {E : List (DTerm × DTerm)} (look stands : DTerm → DTerm) → ((d : DTerm) → Equal E (expand stands (look d)) (expand stands d)) → (a : DArgs) → OwnArgs stands a → EqualArgs E (expand_args stands (value_args look a)) a
sound_args look stands h stop o = equal_done
sound_args look stands h (place x rest) o = equal_name (sound_args look stands h rest o)
sound_args look stands h (sub op payloads args rest) o =
    let v : DTerm = node op payloads (value_args look args) in
    equal_child {d = expand stands (look v)} {e = node op payloads args}
    (joined (h v) (joined (Equal-from_path (o.0 payloads (expand_args stands (value_args look args)))) (within (sound_args look stands h args o.1))))
    (sound_args look stands h rest o.2)
sound_args look stands h (scope inner rest) o = equal_bind (sound_args look stands h inner o.0) (sound_args look stands h rest o.1)

-- a tree is equal to what its value stands for
pub sound : {E : List (DTerm × DTerm)} (look stands : DTerm → DTerm) → ((d : DTerm) → Equal E (expand stands (look d)) (expand stands d)) → (d : DTerm) → IsOwn stands d.op → OwnArgs stands d.args → Equal E (expand stands (value look d)) d
sound look stands h d o a =
    let v : DTerm = node d.op d.payloads (value_args look d.args) in
    joined (h v) (joined (Equal-from_path (o d.payloads (expand_args stands (value_args look d.args)))) (within (sound_args look stands h d.args a)))
