-- The shape of a node: its nameless form with numbers for names. A free name gets its number where it first stands, and
-- each binder a new one, which holds in its scope alone.
use Rattle.std.specs.Prelude.{◌≡◌, ◌↔◌, length, ℕ, suc, zero, ◌+◌, ◌<◌, List, [], ◌∷◌, ◌++◌, Option, Some, None, cond, nat_eq}
use Rattle.slotted_theory.specs.Term.{Args, done, name, child, bind}
use Rattle.slotted_theory.specs.Nameless.{DArgs, stop, place, sub, scope, moved}
use Rattle.slotted_theory.specs.Renaming.{IsInjective}
use Rattle.slotted_theory.specs.FiniteMaps.{with_values}
use Rattle.slotted_theory.specs.Shape.{SameUpToNames}
use Rattle.slotted_slots.specs.Maps.{is_among}
use Rattle.slotted_slots.specs.Table.{numeric_slot}
use Rattle.slotted_nodes.specs.Form.{Form, scopes}
use Rattle.slotted_languages.specs.NodeTerm.{nameless_node}

-- the next number, and the free names that were met, each after its number
pub record Numbers : Type 0 where
  pub next : ℕ
  pub free : List (ℕ × ℕ)

-- the number of a free name that was met
abbrev pub number_of : List (ℕ × ℕ) → ℕ → Option ℕ
number_of [] x = None
number_of (p ∷ m) x = cond (nat_eq p.1 x) (Some p.0) (number_of m x)

abbrev pub free_number : Option ℕ → Numbers → ℕ → ℕ × Numbers
free_number (Some n) k x = (n, k)
free_number None k x = (numeric_slot k.next, record { next = k.next + 1; free = k.free ++ (numeric_slot k.next, x) ∷ [] })

-- the number of a nameless occurrence under binders with these numbers, the innermost first
abbrev pub number_at : List ℕ → Numbers → ℕ → ℕ × Numbers
number_at [] k x = free_number (number_of k.free x) k x
number_at (n ∷ ns) k zero = (n, k)
number_at (n ∷ ns) k (suc x) = number_at ns k x

-- what is known after a binder got its number
abbrev pub past_binder : Numbers → Numbers
past_binder k = record { next = k.next + 1; free = k.free }

-- nameless arguments with numbers for names
abbrev pub numbered : List ℕ → Numbers → DArgs → Args × Numbers
numbered ns k stop = (done, k)
numbered ns k (place x rest) =
    let h = number_at ns k x in
    let r = numbered ns h.1 rest in
    (name h.0 r.0, r.1)
numbered ns k (sub op payloads args rest) =
    let a = numbered ns k args in
    let r = numbered ns a.1 rest in
    (child op payloads a.0 r.0, r.1)
numbered ns k (scope inner rest) =
    let i = numbered (numeric_slot k.next ∷ ns) (past_binder k) inner in
    let r = numbered ns i.1 rest in
    (bind (numeric_slot k.next) i.0 r.0, r.1)

abbrev pub no_numbers : Numbers
no_numbers = record { next = 0; free = [] }

-- all names from the left, those of binders too
abbrev pub names_in : Args → List ℕ
names_in done = []
names_in (name x rest) = x ∷ names_in rest
names_in (child op payloads args rest) = names_in args ++ names_in rest
names_in (bind x inner rest) = x ∷ (names_in inner ++ names_in rest)

abbrev pub with_names : Form → List ℕ → Form
with_names f xs = record f { names = xs }

-- a node by its numbers, and the free names that the numbers stand for
abbrev pub shape : Form → Form × List (ℕ × ℕ)
shape f =
    let r = numbered [] no_numbers (nameless_node f).args in
    (with_names f (names_in r.0), r.1.free)

-- the names of the second list after the first, each once
abbrev pub added : List ℕ → List ℕ → List ℕ
added vs [] = vs
added vs (x ∷ xs) = added (cond (is_among x vs) vs (vs ++ x ∷ [])) xs

-- each name of a list once, where it first stands
abbrev pub firsts : List ℕ → List ℕ
firsts xs = added [] xs

-- all numbers are below n
abbrev pub IsBelow : ℕ → List (ℕ × ℕ) → Type 0
IsBelow n [] = Unit {0}
IsBelow n (p ∷ m) = (p.0 < n) × IsBelow n m

-- as many names as places
abbrev pub Fits : Form → Type 0
Fits f = length f.names ≡ length (scopes f.tree)

-- two nodes have equal shapes exactly if a bijection of names takes the one to the other, up to bound names
abbrev pub ShapesDecide : Type 0
ShapesDecide = (f g : Form) → Fits f → Fits g → ((shape f).0 ≡ (shape g).0) ↔ SameUpToNames (nameless_node f) (nameless_node g)

-- where an injective function of names takes a node to another, it takes the names of the one's map to the other's
abbrev pub ShapesMove : Type 0
ShapesMove = (π : ℕ → ℕ) → IsInjective π → (f g : Form) → moved π (nameless_node f) ≡ nameless_node g →
    shape g ≡ ((shape f).0, with_values π (shape f).1)

pub record ShapeLaws : Type 0 where
  pub decide : ShapesDecide
  pub move : ShapesMove
