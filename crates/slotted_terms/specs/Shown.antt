-- What terms print.
--     term_text written t u      the text of the term u, whose nodes are written as written says
--     PrintAs form shown t u bs  the patterns of the nodes of u print bs
use Rattle.std.specs.Prelude.{◌≡◌, ℕ, zero, suc, List, [], ◌∷◌, ◌++◌, length, map, codes}
use Rattle.slotted_theory.specs.Term.{Args, Term, done, name, child, bind}
use Rattle.slotted_nodes.specs.Form.{Form, children}
use Rattle.slotted_patterns.specs.Shown.{node_text, total_width, pattern_text}
use Rattle.slotted_patterns.specs.View.{tree_of}
use Rattle.slotted_patterns.specs.declared.pattern.Pattern.{Pattern}
use Rattle.slotted_slots.specs.Syntax.{Element, text, applied}
use Rattle.slotted_slots.specs.Syntax.{name as slot}
use Rattle.slotted_slots.specs.Table.{Table}
use Rattle.slotted_terms.specs.TermPattern.{IsPatternOf}

-- a term with this operator, these elements and texts of its children: the operator 0 stands where a term is missing
abbrev pub text_over : Table → ℕ → List Element → List (List ℕ) → List ℕ
text_over t zero es us = codes "_"
text_over t (suc op) es us = node_text t es us

-- the texts of the children from the left
abbrev pub child_texts : (Term → List Element) → Table → Args → List (List ℕ)
child_texts written t done = []
child_texts written t (name x rest) = child_texts written t rest
child_texts written t (child op payloads args rest) =
    text_over t op (written (record { op = op; payloads = payloads; args = args })) (child_texts written t args) ∷ child_texts written t rest
child_texts written t (bind x inner rest) = child_texts written t inner ++ child_texts written t rest

-- a term
abbrev pub term_text : (Term → List Element) → Table → Term → List ℕ
term_text written t u = text_over t u.op (written u) (child_texts written t u.args)

-- an element without the id of its child
abbrev pub without_id : Element → Element
without_id (text bs) = text bs
without_id (slot x) = slot x
without_id (applied i m) = applied 0 []

-- es is what a term says that its node is written as, but for the ids of children, each of which is written once
pub record IsWrittenAs (f : Form) (es : List Element) (said : List Element) : Type 0 where
  pub same : map without_id es ≡ map without_id said
  pub count : total_width es ≡ length (children f.tree)

-- each pattern of the nodes of the term u prints these bytes, where form and shown say what nodes are and how they are written
abbrev pub PrintAs : {L : Type 0} → (L → Form) → (L → List Element) → Table → Term → List ℕ → Type 0
PrintAs {L} form shown t u bs = (p : Pattern L) → IsPatternOf (tree_of form p) u → pattern_text shown t p ≡ bs
