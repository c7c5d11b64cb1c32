-- What is still to be written of a text, piece by piece.
--     piece_text written t q    the text of the piece q
--     texts written t qs        those of pieces one after another
--     pending written t qs      those of pieces on a stack, of which the last comes first
--     weight written q          more than the pieces weigh that a pattern is taken apart to
use Rattle.std.specs.Prelude.{◌≡◌, ℕ, suc, ◌+◌, ◌*◌, ◌≤◌, List, [], ◌∷◌, ◌++◌, length, map, drop, codes, slice_index_or}
use Rattle.slotted_slots.specs.Syntax.{Element, element_of}
use Rattle.slotted_slots.specs.Table.{Table}
use Rattle.slotted_patterns.specs.Shown.{part_text, part_texts, spaced, width, pattern_text}
use Rattle.slotted_patterns.specs.declared.pattern.Pattern.{Pattern, fold-Pattern}
use Rattle.slotted_patterns.specs.declared.pattern.Pattern.TheOpen.{Pattern-F}
use Rattle.slotted_patterns.specs.declared.pattern.printing.Piece.{Piece}
use Rattle.slotted_patterns.specs.declared.pattern.printing.Piece.TheVariants.{Mark, Part, Whole}

abbrev pub piece_text : {L : Type 0} → (L → List Element) → Table → Piece L → List ℕ
piece_text written t (Mark s) = s.now
piece_text written t (Part e) = part_text t (element_of e) (codes "_")
piece_text written t (Whole p) = pattern_text written t p.now

abbrev pub texts : {L : Type 0} → (L → List Element) → Table → List (Piece L) → List ℕ
texts written t [] = []
texts written t (q ∷ qs) = piece_text written t q ++ texts written t qs

abbrev pub pending : {L : Type 0} → (L → List Element) → Table → List (Piece L) → List ℕ
pending written t [] = []
pending written t (q ∷ qs) = pending written t qs ++ piece_text written t q

-- numbers together, and one for each
abbrev pub total : List ℕ → ℕ
total [] = 0
total (n ∷ ns) = suc n + total ns

-- at least what the pieces of a node with these elements weigh, over patterns of these weights
abbrev pub node_weight : List Element → List ℕ → ℕ
node_weight es ws = 2 + (2 * length es + total ws)

-- a substitution whose parts are written as b, x and v
abbrev pub substitution_text : (b x v : List ℕ) → List ℕ
substitution_text b x v = b ++ (codes "[" ++ (x ++ (codes " := " ++ (v ++ codes "]"))))

-- what its pieces weigh, over parts of these weights
abbrev pub substitution_weight : (b x v : ℕ) → ℕ
substitution_weight b x v = 6 + (b + (x + v))

-- one level of a pattern, with each pattern inside already weighed
abbrev pub weight_step : {L : Type 0} → (L → List Element) → Pattern-F L ℕ → ℕ
weight_step written (Pattern-F.ENode node children) = node_weight (written node) children.items
weight_step written (Pattern-F.PVar name) = 2
weight_step written (Pattern-F.Subst body place value) = substitution_weight body.value place.value value.value

abbrev pub pattern_weight : {L : Type 0} → (L → List Element) → Pattern L → ℕ
pattern_weight {L} written = fold-Pattern L ℕ (weight_step written)

abbrev pub weight : {L : Type 0} → (L → List Element) → Piece L → ℕ
weight written (Mark s) = 1
weight written (Part e) = 1
weight written (Whole p) = suc (pattern_weight written p.now)

-- the weights of pieces together
abbrev pub weights : {L : Type 0} → (L → List Element) → List (Piece L) → ℕ
weights written [] = 0
weights written (q ∷ qs) = weight written q + weights written qs

-- those of pieces that are whole patterns
abbrev pub pattern_weights : {L : Type 0} → (L → List Element) → List (Pattern L) → ℕ
pattern_weights written ps = total (map (pattern_weight written) ps)

-- the pieces on the stack are those of this text over the others, and weigh no more than this besides
pub record Stacks {L : Type 0} (written : L → List Element) (text : Table → List ℕ) (heavy : ℕ) (old new : List (Piece L)) : Type 0 where
  pub same : (t : Table) → pending written t new ≡ text t ++ pending written t old
  pub light : weights written new ≤ heavy + weights written old

-- q is the piece of an element, where the patterns from the place next on stand in the places of children
pub record WritesChild {L : Type 0} (written : L → List Element) (e : Element) (ps : List (Pattern L)) (next : ℕ) (q : Piece L) : Type 0 where
  pub same : (t : Table) → piece_text written t q ≡ part_text t e (slice_index_or (map (pattern_text written t) ps) next (codes "_"))
  pub light : weight written q + pattern_weights written (drop (next + width e) ps) ≤ 1 + pattern_weights written (drop next ps)

-- the pieces are those of the elements from the left, over these patterns
pub record HasPieces {L : Type 0} (written : L → List Element) (es : List Element) (ps : List (Pattern L)) (qs : List (Piece L)) : Type 0 where
  pub same : (t : Table) → texts written t qs ≡ spaced [] (part_texts t es (map (pattern_text written t) ps))
  pub light : weights written qs ≤ 2 * length es + pattern_weights written ps
