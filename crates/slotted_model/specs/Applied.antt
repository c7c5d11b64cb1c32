-- Applied ids, and nodes, which are the terms whose children are applied ids.
--     Applied          a class with a finite map from slots to names
--     as_term a        the applied id as a term, which is how it stands as a child: operator 0, one payload of the class and
--                      the keys, and the values as own names; the operators of a language are one more
--     EachChild P d    each child is an applied id of which P holds
use Rattle.std.specs.Prelude.{◌≡◌, ℕ, ◌<◌, List, [], ◌∷◌, map}
use Rattle.std.specs.List.{zip}
use Rattle.slotted_theory.specs.Nameless.{DArgs, DTerm, stop, place, sub, scope}
use Rattle.slotted_theory.specs.FiniteMaps.{IsInjectiveMap, with_values}
use Rattle.slotted_theory.proofs.Values.{node}
use Rattle.slotted_model.specs.Ascending.{IsAscending}
pub use Rattle.slotted_lists.specs.Maps.{keys, values}

-- a class id, and names for slots of the class, the slots ascending
abbrev pub Applied : Type 0
Applied = ℕ × List (ℕ × ℕ)

-- the keys ascend and the values are different
abbrev pub IsMap : List (ℕ × ℕ) → Type 0
IsMap m = IsAscending (keys m) × IsInjectiveMap m

-- the map that is f on these keys
abbrev pub map_on : (ℕ → ℕ) → List ℕ → List (ℕ × ℕ)
map_on f ks = map (λ k. (k, f k)) ks

-- the applied id with f put on its names
abbrev pub renamed_id : (ℕ → ℕ) → Applied → Applied
renamed_id f a = (a.0, with_values f a.1)

-- names in a row of places
abbrev pub in_places : List ℕ → DArgs
in_places [] = stop
in_places (x ∷ xs) = place x (in_places xs)

-- the names of a row of places
abbrev pub own_names : DArgs → List ℕ
own_names stop = []
own_names (place x rest) = x ∷ own_names rest
own_names (sub op payloads args rest) = []
own_names (scope inner rest) = []

-- the applied id as a term
abbrev pub as_term : Applied → DTerm
as_term a = node 0 ((a.0 ∷ keys a.1) ∷ []) (in_places (values a.1))

-- the applied id that a term of this form is
abbrev pub applied_of : List (List ℕ) → DArgs → Applied
applied_of [] args = (0, [])
applied_of ([] ∷ more) args = (0, [])
applied_of ((i ∷ ks) ∷ more) args = (i, zip ks (own_names args))

-- the term is an applied id of which P holds
abbrev pub IsApplied : (Applied → Type 0) → DTerm → Type 0
IsApplied P d = (a : Applied) × (d ≡ as_term a) × P a

-- each child is an applied id of which P holds
abbrev pub EachChild : (Applied → Type 0) → DArgs → Type 0
EachChild P stop = Unit {0}
EachChild P (place x rest) = EachChild P rest
EachChild P (sub op payloads args rest) = IsApplied P (node op payloads args) × EachChild P rest
EachChild P (scope inner rest) = EachChild P inner × EachChild P rest

-- an operator of the language over children that are applied ids
pub record IsNode (d : DTerm) : Type 0 where
  pub operator : 0 < d.op
  pub children : EachChild (λ a. IsMap a.1) d.args
