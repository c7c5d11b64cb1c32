-- The text of each pattern over the texts of those inside.
use Rattle.std.proofs.Common.{◌≡◌, List, ◌++◌, map, Vec, String, string_bytes, rules}
use Rattle.std.specs.Prelude.{Box, codes}
use Rattle.std.specs.declared.alloc.Global.{Global}
use Rattle.slotted_slots.specs.Syntax.{Element}
use Rattle.slotted_slots.specs.Table.{Table}
use Rattle.slotted_patterns.specs.Shown.{node_text, pattern_text}
use Rattle.slotted_patterns.specs.Pieces.{substitution_text}
use Rattle.slotted_patterns.specs.declared.pattern.Pattern.{Pattern, ENode, PVar, Subst, the_lemmas}

pub pattern_text-ENode : {L : Type 0} (written : L → List Element) (t : Table) (n : L) (ps : Vec (Pattern L) Global) → pattern_text written t (ENode n ps) ≡ node_text t (written n) (map (pattern_text written t) ps.items)
pattern_text-ENode written t n ps = search (rules, the_lemmas)

pub pattern_text-PVar : {L : Type 0} (written : L → List Element) (t : Table) (v : String Global) → pattern_text written t (PVar v) ≡ codes "?" ++ string_bytes v
pattern_text-PVar written t v = search (rules, the_lemmas)

pub pattern_text-Subst : {L : Type 0} (written : L → List Element) (t : Table) (b x v : Box (Pattern L) Global) → pattern_text written t (Subst b x v) ≡ substitution_text (pattern_text written t b.value) (pattern_text written t x.value) (pattern_text written t v.value)
pattern_text-Subst written t b x v = search (rules, the_lemmas)
