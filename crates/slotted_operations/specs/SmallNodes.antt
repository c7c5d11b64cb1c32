-- Terms at which no node of a language can have 2^30 places. The ids that stand inside a node count for its places, and a
-- term does not show them: so this speaks of each node that could stand there.
use Rattle.std.specs.Prelude.{◌≡◌, ◌<◌, ◌+◌, ℕ, List, [], ◌∷◌}
use Rattle.slotted_theory.specs.Term.{Args, Term, done, name, child, bind, term_size}
use Rattle.slotted_slots.specs.Table.{Table}
use Rattle.slotted_nodes.specs.Form.{Form, IsSmall}
use Rattle.slotted_languages.specs.Filled.{term_of}
use Rattle.slotted_terms.specs.Valid.{IsValidTerm}

-- each node that stands for the term, over whatever children, has fewer than 2^30 places
abbrev pub IsSmallAt : {A : Type 0} → (A → Form) → Term → Type 0
IsSmallAt {A} form u = (n : A) (us : List Term) → term_of (form n) us ≡ u → IsSmall (form n)

-- the same of each term among the arguments, at any depth
abbrev pub HasSmallParts : {A : Type 0} → (A → Form) → Args → Type 0
HasSmallParts form done = Unit {0}
HasSmallParts form (name x rest) = HasSmallParts form rest
HasSmallParts form (child op payloads args rest) =
    IsSmallAt form (record { op = op; payloads = payloads; args = args }) × HasSmallParts form args × HasSmallParts form rest
HasSmallParts form (bind x inner rest) = HasSmallParts form inner × HasSmallParts form rest

-- and of the term itself
abbrev pub HasSmallNodes : {A : Type 0} → (A → Form) → Term → Type 0
HasSmallNodes form u = IsSmallAt form u × HasSmallParts form u.args

-- a valid term, at which no node is too large
abbrev pub IsSmallValidTerm : {A : Type 0} → (A → Form) → Table → Term → Type 0
IsSmallValidTerm form t u = IsValidTerm t u × HasSmallNodes form u

-- a valid term, with an operator
abbrev pub IsTermOver : Table → Term → Type 0
IsTermOver t u = (0 < u.op) × IsValidTerm t u

-- the sizes of terms, and one for each of them
abbrev pub total_size : List Term → ℕ
total_size [] = 0
total_size (u ∷ us) = 1 + term_size u + total_size us
