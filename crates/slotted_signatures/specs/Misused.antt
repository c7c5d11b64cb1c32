-- The first e-node that is used otherwise than declared, and what is wrong with it.
--     IsFaultOf us w ks x            x is what is wrong with the word w over arguments of the kinds ks, which is not right
--     IsMisuse us n node m           m says how the e-node is used otherwise, of which n are read before it
--     IsFirstMisuse us nodes m       m says which e-node is the first that is used otherwise
use Rattle.std.specs.Prelude.{◌≡◌, ◌≢◌, ℕ, List, [], ◌∷◌, ◌++◌, length, All, string_bytes}
use Rattle.slotted_nodes.specs.Form.{Form}
use Rattle.slotted_signatures.specs.Kinds.{word_of, kinds_of}
use Rattle.slotted_signatures.specs.UsedAsDeclared.{IsDeclared, IsUsedAsDeclared}
use Rattle.slotted_signatures.specs.Usage.{Usage}
use Rattle.slotted_signatures.specs.declared.misuse.Fault.{Fault}
use Rattle.slotted_signatures.specs.declared.misuse.Fault.TheVariants.{Unknown, Arguments, Alone}
use Rattle.slotted_signatures.specs.declared.misuse.Misuse.{Misuse}

abbrev pub IsFaultOf : List Usage → List ℕ → List ℕ → Fault → Type 0
IsFaultOf us w ks Unknown = ¬ IsDeclared us w
IsFaultOf us w ks Arguments = IsDeclared us w × (ks ≢ [])
IsFaultOf us w ks Alone = IsDeclared us w × (ks ≡ [])

pub record IsMisuse (us : List Usage) (number : ℕ) (node : Form) (m : Misuse) : Type 0 where
  pub wrong : ¬ IsUsedAsDeclared us node
  pub number_is : m.number ≡ number
  pub word_is : string_bytes m.word ≡ word_of node
  pub fault_is : IsFaultOf us (word_of node) (kinds_of node) m.fault

pub record IsFirstMisuse (us : List Usage) (nodes : List Form) (m : Misuse) : Type 0 where
  pub before : List Form
  pub node : Form
  pub after : List Form
  pub stands : nodes ≡ before ++ node ∷ after
  pub right_before : All (IsUsedAsDeclared us) before
  pub misuse : IsMisuse us (length before) node m
