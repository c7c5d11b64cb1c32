-- What is kept, as the lists of the model.
use Rattle.std.proofs.Common.{◌≡◌, ◌<◌, ℕ, zero, suc, List, [], ◌∷◌, length, map, get_or, ap, refl, arith, subst}
use Rattle.slotted_lists.proofs.Lists.{slice_index_or-map}
use Rattle.slotted_languages.specs.NodeTerm.{nameless_node}
use Rattle.slotted_model.specs.Find.{entry_at}
use Rattle.slotted_model.specs.ProofList.{ProofEntry, equation_at}
use Rattle.slotted_model.specs.Applied.{Applied}
use Rattle.slotted_model.specs.Classes.{IsFull}
use Rattle.slotted_proofs.specs.Entries.{Proven, entry_of, nothing_proven, statement_at}
use Rattle.slotted_classes.specs.Kept.{Kept, ClassEntry, no_form, no_entry, find_at, nodes_of, entries_of, proofs_of}

pub length-mapped : {X Y : Type 0} (f : X → Y) (xs : List X) → length (map f xs) ≡ length xs
length-mapped f [] = refl
length-mapped f (x ∷ xs) = ap suc (length-mapped f xs)

pub length-nodes_of : (k : Kept) → length (nodes_of k) ≡ length k.classes
length-nodes_of k = length-mapped (λ (c : ClassEntry). nameless_node c.0) k.classes

pub length-entries_of : (k : Kept) → length (entries_of k) ≡ length k.classes
length-entries_of k = length-mapped (λ (c : ClassEntry). c.1) k.classes

pub length-proofs_of : (k : Kept) → length (proofs_of k) ≡ length k.proofs
length-proofs_of k = length-mapped entry_of k.proofs

-- the find entry of a class
pub entry_at-of : (k : Kept) (i : ℕ) → entry_at (entries_of k) i ≡ find_at k i
entry_at-of k i = slice_index_or-map (λ (c : ClassEntry). c.1) k.classes i (no_form, no_entry)

-- the equation at a number
pub equation_at-of : (ps : List Proven) (p : ℕ) → equation_at (map entry_of ps) p ≡ (statement_at ps p).equation
equation_at-of ps p = ap (λ (x : ProofEntry). x.equation) (slice_index_or-map entry_of ps p nothing_proven)

-- what stands within a list does not depend on what is said to stand past its end
pub any_default : {X : Type 0} (xs : List X) (k : ℕ) (d e : X) → k < length xs → get_or xs k d ≡ get_or xs k e
any_default [] k d e l = absurd (omega arith)
any_default (x ∷ xs) zero d e l = refl
any_default (x ∷ xs) (suc k) d e l = any_default xs k d e (omega arith)

pub full-within : (k : Kept) (a : Applied) → IsFull (nodes_of k) a → a.0 < length k.classes
full-within k a full = subst (λ n. a.0 < n) (length-nodes_of k) full.in_range
