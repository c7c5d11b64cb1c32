-- What the line of an entry in a printed proof says of how it was proved.
use Rattle.std.specs.Prelude.{ℕ, List, [], ◌∷◌, ◌++◌, Option, Some, None, codes, decimal, position, nat_eq}
use Rattle.std.specs.Fmt.{debug_option, debug_str}
use Rattle.slotted_model.specs.ProofList.{Step, explicit, reflexive, symmetric, transitive, congruent}
use Rattle.slotted_proofs.specs.declared.proof.Proof.{Proof}
use Rattle.slotted_proofs.specs.Entries.{step_of, text_of}

-- the number of a line, or a question mark where there is none
abbrev pub number_text : Option ℕ → List ℕ
number_text (Some n) = decimal n
number_text None = codes "?"

-- the lines of some parts, with a text before the first and a comma before each other
abbrev pub numbers_text : List ℕ → List ℕ → List ℕ → List ℕ
numbers_text lines before [] = []
numbers_text lines before (p ∷ ps) = before ++ (number_text (position (nat_eq p) lines) ++ numbers_text lines (codes ", ") ps)

-- the name of a step, with the lines of its parts in round brackets
abbrev pub step_text : List ℕ → List ℕ → List ℕ → List ℕ
step_text name lines ps = name ++ (codes "(" ++ (numbers_text lines [] ps ++ codes ")"))

-- a step and the text of an explicit one: None where its text is outside ASCII
abbrev pub reason_text : List ℕ → Step → Option (List ℕ) → Option (List ℕ)
reason_text lines explicit text = debug_option debug_str text
reason_text lines reflexive text = Some (codes "refl")
reason_text lines (symmetric p) text = Some (step_text (codes "symmetry") lines (p ∷ []))
reason_text lines (transitive p q) text = Some (step_text (codes "transitivity") lines (p ∷ q ∷ []))
reason_text lines (congruent ps) text = Some (step_text (codes "congruence") lines ps)

-- the same of a proof of the code
abbrev pub reason_of : List ℕ → Proof → Option (List ℕ)
reason_of lines proof = reason_text lines (step_of proof) (text_of proof)
