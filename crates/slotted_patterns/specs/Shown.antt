-- What nodes and patterns print.
--     part_text t e u       the text of an element, where u is the text of the child that stands in its place
--     part_texts t es us    the texts of a node's elements, where the children have the texts us in turn
--     node_text t es us     the text of such a node
--     pattern_text written t p the text of the pattern p, whose nodes are written as written says
use Rattle.std.specs.Prelude.{ℕ, ◌+◌, List, [], ◌∷◌, ◌++◌, drop, codes, slice_index_or, string_bytes}
use Rattle.slotted_slots.specs.Syntax.{Element, text, applied}
use Rattle.slotted_slots.specs.Syntax.{name as slot}
use Rattle.slotted_slots.specs.Table.{Table, shown_slot}
use Rattle.slotted_patterns.specs.declared.pattern.Pattern.{Pattern, fold-Pattern}
use Rattle.slotted_patterns.specs.declared.pattern.Pattern.TheOpen.{Pattern-F}

-- a text as it is, a slot as it prints, and for an applied id the text of its child
abbrev pub part_text : Table → Element → List ℕ → List ℕ
part_text t (text bs) u = bs
part_text t (slot x) u = shown_slot t x
part_text t (applied i m) u = u

-- how many children stand in the place of an element
abbrev pub width : Element → ℕ
width (text bs) = 0
width (slot x) = 0
width (applied i m) = 1

-- how many children are written
abbrev pub total_width : List Element → ℕ
total_width [] = 0
total_width (e ∷ es) = width e + total_width es

-- the texts of elements, with the texts of the children in turn, and `_` where there is none
abbrev pub part_texts : Table → List Element → List (List ℕ) → List (List ℕ)
part_texts t [] us = []
part_texts t (e ∷ es) us = part_text t e (slice_index_or us 0 (codes "_")) ∷ part_texts t es (drop (width e) us)

-- texts one after another, parted by one space
abbrev pub spaced : List ℕ → List (List ℕ) → List ℕ
spaced before [] = []
spaced before (p ∷ ps) = before ++ (p ++ spaced (codes " ") ps)

-- one text stands alone, and several or none in round brackets
abbrev pub bracketed : List (List ℕ) → List ℕ
bracketed (p ∷ []) = p
bracketed ps = codes "(" ++ (spaced [] ps ++ codes ")")

-- a node with these elements and these texts of its children
abbrev pub node_text : Table → List Element → List (List ℕ) → List ℕ
node_text t es us = bracketed (part_texts t es us)

-- one level of a pattern, with each pattern inside already seen as its text: a variable, and `b[x := t]`
abbrev pub text_step : {L : Type 0} → (L → List Element) → Table → Pattern-F L (List ℕ) → List ℕ
text_step written t (Pattern-F.ENode node children) = node_text t (written node) children.items
text_step written t (Pattern-F.PVar name) = codes "?" ++ string_bytes name
text_step written t (Pattern-F.Subst body place value) =
    body.value ++ (codes "[" ++ (place.value ++ (codes " := " ++ (value.value ++ codes "]"))))

-- a pattern
abbrev pub pattern_text : {L : Type 0} → (L → List Element) → Table → Pattern L → List ℕ
pattern_text {L} written t = fold-Pattern L (List ℕ) (text_step written t)
