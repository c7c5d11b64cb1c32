-- What ids find, and what looking up a node answers.
--     IsFoundFor k a b     b is what the id a finds: live, with names for just the slots that its class uses, and found
--                          as it is
--     found_slots found i  the class that i finds, with the slot of i that each slot of it stands for
--     filed_slots r i      the slot of the class i for each number of the key that is filed of it
--     HasNamesFor r i n    a key is filed of the class i, and n has a name for each number of it
--     found_named k r i n  what the class i finds, where the slots that are filed have these names
--     IsNormalShape k f g n  g is the shape of the node f in normal form, and n has its name for each number
--     looked_up k r f      the id of a node, by the shape of its normal form
use Rattle.std.specs.Prelude.{◌≡◌, ℕ, List, [], Option, Some, None}
use Rattle.slotted_theory.specs.Renaming.{IsInjective}
use Rattle.slotted_nodes.specs.Form.{Form}
use Rattle.slotted_languages.specs.NodeTerm.{nameless_node}
use Rattle.slotted_languages.specs.Shape.{Fits, shape}
use Rattle.slotted_model.specs.Applied.{Applied, keys, renamed_id}
use Rattle.slotted_model.specs.Find.{Entry, find, find_class, find_map}
use Rattle.slotted_model.specs.Normal.{IsFound, normal}
use Rattle.slotted_model.specs.State.{look_up_node}
use Rattle.slotted_classes.specs.Finding.{FindAlike, IsFindable}
use Rattle.slotted_classes.specs.Kept.{Kept, entries_of}
use Rattle.slotted_classes.specs.Names.{between}
use Rattle.slotted_hashcons.specs.Filed.{Filing, filed_of}
use Rattle.slotted_hashcons.specs.FiledRows.{Rows}
use Rattle.slotted_hashcons.specs.WellFiled.{state_in}

pub record IsFoundFor (k : Kept) (a b : Applied) : Type 0 where
  -- a live class, with names for just the slots that it uses
  pub found : IsFound (entries_of k) b
  -- it finds what a finds, which is itself
  pub alike : FindAlike (entries_of k) a b
  pub again : find (entries_of k) b ≡ b
  pub findable : IsFindable k b
  -- under other names a finds b under these
  pub renamed : (f : ℕ → ℕ) → IsInjective f →
      IsFindable k (renamed_id f a) × (find (entries_of k) (renamed_id f a) ≡ renamed_id f b)

abbrev pub found_slots : List Entry → ℕ → Applied
found_slots found i = (find_class found i, find_map found i)

-- the slots beside a key, if there is one
abbrev pub slots_beside : Option Filing → List (ℕ × ℕ)
slots_beside None = []
slots_beside (Some e) = e.1

abbrev pub filed_slots : Rows → ℕ → List (ℕ × ℕ)
filed_slots r i = slots_beside (filed_of r.filed i)

pub record HasNamesFor (r : Rows) (i : ℕ) (n : List (ℕ × ℕ)) : Type 0 where
  pub key : Form
  pub slots : List (ℕ × ℕ)
  pub filed : filed_of r.filed i ≡ Some (key, slots)
  pub numbers : keys slots ≡ keys n

abbrev pub found_named : Kept → Rows → ℕ → List (ℕ × ℕ) → Applied
found_named k r i n = find (entries_of k) (i, between (filed_slots r i) n)

pub record IsNormalShape (k : Kept) (f g : Form) (n : List (ℕ × ℕ)) : Type 0 where
  pub node : Form
  pub fits : Fits node
  pub normal : nameless_node node ≡ normal (entries_of k) (nameless_node f)
  pub shape : ◌≡◌ {A = Form × List (ℕ × ℕ)} (g, n) (shape node)

abbrev pub looked_up : Kept → Rows → Form → Option Applied
looked_up k r f = look_up_node (state_in k r) (nameless_node f)
