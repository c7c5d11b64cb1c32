-- Terms at which some node is too large for alpha-equality, which numbers its places by slots.
use Rattle.std.specs.Prelude.{ℕ, suc, ◌+◌, ◌≤◌, ◌⊎◌, List, [], ◌∷◌}
use Rattle.slotted_slots.specs.Table.{slot_limit}
use Rattle.slotted_theory.specs.Term.{Args, Term, done, name, child, bind}

-- how many names, binders and children a node with these arguments has; what stands inside its children does not count
abbrev pub node_places : Args → ℕ
node_places done = 0
node_places (name x rest) = suc (node_places rest)
node_places (child op payloads args rest) = suc (node_places rest)
node_places (bind x inner rest) = suc (node_places inner + node_places rest)

-- a term among the arguments, or one inside it, has a node with 2^30 of them or more
abbrev pub HasLargePart : Args → Type 0
HasLargePart done = ⊥
HasLargePart (name x rest) = HasLargePart rest
HasLargePart (child op payloads args rest) = ((slot_limit ≤ node_places args) ⊎ HasLargePart args) ⊎ HasLargePart rest
HasLargePart (bind x inner rest) = HasLargePart inner ⊎ HasLargePart rest

-- a node of the term has 2^30 names, binders and children or more
abbrev pub HasLargeNode : Term → Type 0
HasLargeNode t = (slot_limit ≤ node_places t.args) ⊎ HasLargePart t.args

-- one of the terms has such a node
abbrev pub HaveLargeNode : List Term → Type 0
HaveLargeNode [] = ⊥
HaveLargeNode (t ∷ ts) = HasLargeNode t ⊎ HaveLargeNode ts
