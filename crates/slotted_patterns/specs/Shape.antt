-- A pattern over its nodes as they are, and the list of its heads: nodes without what stands under them, names of variables, and signs of
-- substitutions. Each stands before those of its parts, which follow from the right.
--     shape p         the pattern, over its nodes
--     head s          its head
--     parts_of s      the shapes right inside a shape
--     heads s         its head, and those of the shapes inside it at any depth
use Rattle.std.specs.Prelude.{ℕ, suc, List, [], ◌∷◌, ◌++◌, string_bytes}
use Rattle.slotted_patterns.specs.declared.pattern.Pattern.{Pattern, fold-Pattern}
use Rattle.slotted_patterns.specs.declared.pattern.Pattern.TheOpen.{Pattern-F}

mutual
  -- a node over shapes; a variable; the shape body with value put in the place of place
  pub data Shape (N : Type 0) : Type 0 where
    over : (node : N) (below : Shapes N) → Shape N
    named : (name : List ℕ) → Shape N
    replaced : (body place value : Shape N) → Shape N

  -- shapes, one after another
  pub data Shapes (N : Type 0) : Type 0 where
    none_left : Shapes N
    one_and : (shape : Shape N) (rest : Shapes N) → Shapes N

pub data Head (N : Type 0) : Type 0 where
  node : N → (below : ℕ) → Head N
  variable : (name : List ℕ) → Head N
  replacement : Head N

module _ {N : Type 0} where
  abbrev pub shapes_of : List (Shape N) → Shapes N
  shapes_of [] = none_left
  shapes_of (s ∷ ss) = one_and s (shapes_of ss)

  abbrev pub shapes_in : Shapes N → List (Shape N)
  shapes_in none_left = []
  shapes_in (one_and s rest) = s ∷ shapes_in rest

  abbrev pub shape_count : Shapes N → ℕ
  shape_count none_left = 0
  shape_count (one_and s rest) = suc (shape_count rest)

  abbrev pub head : Shape N → Head N
  head (over n row) = node n (shape_count row)
  head (named v) = variable v
  head (replaced b x t) = replacement

  abbrev pub parts_of : Shape N → List (Shape N)
  parts_of (over n row) = shapes_in row
  parts_of (named v) = []
  parts_of (replaced b x t) = b ∷ x ∷ t ∷ []

  abbrev mutual
    pub heads : Shape N → List (Head N)
    heads (over n row) = node n (shape_count row) ∷ heads_in row
    heads (named v) = variable v ∷ []
    heads (replaced b x t) = replacement ∷ (heads t ++ (heads x ++ heads b))

    pub heads_in : Shapes N → List (Head N)
    heads_in none_left = []
    heads_in (one_and s rest) = heads_in rest ++ heads s

-- one level, with each pattern inside already seen as its shape
abbrev pub shape_step : {N : Type 0} → Pattern-F N (Shape N) → Shape N
shape_step (Pattern-F.ENode n children) = over n (shapes_of children.items)
shape_step (Pattern-F.PVar v) = named (string_bytes v)
shape_step (Pattern-F.Subst body place value) = replaced body.value place.value value.value

abbrev pub shape : {N : Type 0} → Pattern N → Shape N
shape {N} = fold-Pattern N (Shape N) shape_step
