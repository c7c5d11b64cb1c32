-- Entries that a union makes: the proofs of what finds say, and of what an entry says of the found classes.
--     OnlyProves k l             nothing but the proof list changed, it grew at its end, and nothing more is asserted
--     Proves k l e p             so it is, and the equation e stands at p
--     FindsByEntry k i           what the find of the class i says is what its own entry says
--     FindsWhole k i             the class i finds itself, with all its canonical slots
--     FindsEither k a b i        the class i finds what one of the classes a and b finds
--     HasLargeClassOf k a b      such a class has so many slots that two ids of it have too many names
--     HasLargeSide k e           so it is of the two classes of the equation
use Rattle.std.specs.Prelude.{◌≡◌, ◌⊎◌, ◌^◌, ℕ, ◌<◌, ◌≤◌, List, ◌++◌, length}
use Rattle.slotted_model.specs.Changes.{ProofsGrow, found_entry}
use Rattle.slotted_model.specs.Classes.{canonical_slots}
use Rattle.slotted_model.specs.Applied.{Applied}
use Rattle.slotted_model.specs.Correspondence.{identity}
use Rattle.slotted_model.specs.Find.{Entry, find_class, find_map}
use Rattle.slotted_model.specs.Link.{half_found_equation}
use Rattle.slotted_model.specs.ProofList.{Equation, entry_equation, equation_of, find_equation, turned_equation}
use Rattle.slotted_proofs.specs.Entries.{Proven, statement_at}
use Rattle.slotted_classes.specs.Kept.{Kept, nodes_of, entries_of, proofs_of, with_proofs}
use Rattle.slotted_classes.specs.StateOf.{state_of}
use Rattle.slotted_classes.specs.Stored.{Stored}

pub record OnlyProves (k l : Kept) : Type 0 where
  pub stored : Stored l
  pub proofs : List Proven
  pub kept : l ≡ with_proofs k proofs
  pub more : List Proven
  pub grows : proofs ≡ k.proofs ++ more
  pub asserts_nothing : ProofsGrow (nodes_of k) (proofs_of k) (proofs_of l)

pub record Proves (k l : Kept) (e : Equation) (p : ℕ) : Type 0 where
  pub only : OnlyProves k l
  pub in_range : p < length l.proofs
  pub equation : (statement_at l.proofs p).equation ≡ e

-- the equation of what the find of the class i says
abbrev pub ProvesFind : Kept → Kept → ℕ → ℕ → Type 0
ProvesFind k l i p = Proves k l (find_equation (nodes_of k) (entries_of k) i) p

-- the same turned round
abbrev pub ProvesBack : Kept → Kept → ℕ → ℕ → Type 0
ProvesBack k l i p = Proves k l (turned_equation (nodes_of k) (find_equation (nodes_of k) (entries_of k) i)) p

-- the equation of what the entry p says of the class that its left side finds, and of its right class
abbrev pub ProvesHalf : Kept → Kept → ℕ → ℕ → Type 0
ProvesHalf k l p q = Proves k l (half_found_equation (nodes_of k) (entries_of k) (statement_at k.proofs p).equation) q

-- the equation of what the entry p says of the classes that its sides find
abbrev pub ProvesFound : Kept → Kept → ℕ → ℕ → Type 0
ProvesFound k l p q = Proves k l (found_entry (state_of k) p) q

-- the equation of two ids
abbrev pub ProvesEqual : Kept → Kept → Applied → Applied → ℕ → Type 0
ProvesEqual k l a b p = Proves k l (equation_of a b) p

-- what the find says is what the entry says
abbrev pub FindsByEntry : Kept → ℕ → Type 0
FindsByEntry k i = find_equation (nodes_of k) (entries_of k) i ≡ entry_equation (nodes_of k) (entries_of k) i

abbrev pub FindsWhole : Kept → ℕ → Type 0
FindsWhole k i = (find_class (entries_of k) i ≡ i) × (find_map (entries_of k) i ≡ identity (canonical_slots (nodes_of k) i))

-- the class i finds what one of the classes a and b finds
abbrev pub FindsEither : List Entry → ℕ → ℕ → ℕ → Type 0
FindsEither found a b i = (find_class found i ≡ find_class found a) ⊎ (find_class found i ≡ find_class found b)

-- a class that finds what one of the two finds has so many slots that two ids of it have too many names
abbrev pub HasLargeClassOf : Kept → ℕ → ℕ → Type 0
HasLargeClassOf k a b =
    (i : ℕ) × (i < length k.classes) × FindsEither (entries_of k) a b i × (2 ^ 29 ≤ length (canonical_slots (nodes_of k) i))

-- the same of the two classes of an equation
abbrev pub HasLargeSide : Kept → Equation → Type 0
HasLargeSide k e = HasLargeClassOf k e.left e.right
