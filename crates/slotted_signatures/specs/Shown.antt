-- The usage that an example shows. An example is an e-node whose children are words.
--     is_word p            an e-node without arguments
--     is_dots p            an e-node of the word `..`
--     is_child k           a kind is that of a child
--     has_more f row       the last argument is a child, and it is `..`
--     passes test o        the test passes at the item that there is
--     last_of xs           the last item of a list
--     usage_of f more t    the usage that an e-node shows by the text t, if more says whether any number of children may follow
--     shown_by text p      the usage that p shows, if it is an example
use Rattle.std.specs.Prelude.{ℕ, List, length, Option, Some, None, Bool, false, ◌&&◌, ◌==◌, ◌-◌, if◌then◌else◌, take, slice_get, codes}
use Rattle.std.specs.List.{list_all}
use Rattle.std.specs.Str.{bytes_eq}
use Rattle.slotted_nodes.specs.Form.{Form}
use Rattle.slotted_patterns.specs.Subpatterns.{patterns_in}
use Rattle.slotted_patterns.specs.Tree.{PatternTree, enode, pvar, substitution, PatternRow}
use Rattle.slotted_signatures.specs.Kinds.{word_of, kinds_of}
use Rattle.slotted_signatures.specs.Usage.{Usage}

abbrev pub is_word : PatternTree → Bool
is_word (enode f row) = (length (kinds_of f) == 0) && (length (patterns_in row) == 0)
is_word (pvar v) = false
is_word (substitution b x t) = false

abbrev pub is_dots : PatternTree → Bool
is_dots (enode f row) = bytes_eq (word_of f) (codes "..")
is_dots (pvar v) = false
is_dots (substitution b x t) = false

abbrev pub is_child : ℕ → Bool
is_child k = k == 1

abbrev pub passes : {A : Type 0} → (A → Bool) → Option A → Bool
passes test None = false
passes test (Some x) = test x

abbrev pub last_of : {A : Type 0} → List A → Option A
last_of xs = slice_get xs (length xs - 1)

abbrev pub has_more : Form → PatternRow → Bool
has_more f row = passes is_child (last_of (kinds_of f)) && passes is_dots (last_of (patterns_in row))

-- the dots are no argument
abbrev pub usage_of : Form → Bool → List ℕ → Usage
usage_of f more text = record {
  word = word_of f;
  kinds = if more then take (length (kinds_of f) - 1) (kinds_of f) else kinds_of f;
  more = more;
  example = text;
}

abbrev pub shown_by : List ℕ → PatternTree → Option Usage
shown_by text (enode f row) = if list_all is_word (patterns_in row) then Some (usage_of f (has_more f row) text) else None
shown_by text (pvar v) = None
shown_by text (substitution b x t) = None
