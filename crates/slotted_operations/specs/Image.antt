-- A graph as lists, which contracts speak of.
--     found_id g a        what the applied id a finds
--     FoundAlike g a b    a and b find the same
--     asserted_in g       the pairs of canonical terms of the explicit entries
--     AreDerivable g a b  the terms of a and b are derivable from these
--     SaysEqual, SaysDerivable, SaysTerms       what an answer to `eq` says of the terms
--     AddsClasses g h     new classes, and nothing is asserted
--     NewClassesAre       each new class is that of an id of which P holds
--     Continues g h       what was proved and found alike stays so
--     Asserts g h e       the equation e is asserted, if it was not proved
--     Records g h x       x is an entry now, with its step and its text, if its equation was not proved
--     FillApart g a b left right    left and right are a and b with names for all slots; those that are filled in are apart
--     RecordsFilled g h a b text    whichever two fill a and b apart, that they are equal is an entry now, asserted with the text, if
--                                   it was not proved
--     HasNoOpenSymmetry g c      the sides of each listed symmetry that finds the class c find alike
--     CountsOpen g ys n   n of the symmetries ys are open
--     AreClosed g         none is
--     AreTogether g a b   a and b find one class and one set of names, and find alike if no symmetry of that class is open
--     live_size g         how many live classes and slots of them there are
--     IsUnion g h a b y   a union of a and b answers y
--     AreSymmetries g     what holds of the listed symmetries
--     AreListedOnce g     each equation is listed once
use Rattle.std.specs.Prelude.{◌≡◌, ℕ, ◌<◌, ◌≤◌, ◌⊎◌, List, [], ◌∷◌, ◌++◌, ◌+◌, suc, length, map, slice_index_or, refl, ◌≢◌, ◌↔◌, Bool, false, Contains, IsTrue, Some, cond, nat_eq, Option}
use Rattle.std.specs.Coded.{Coded, code_by, coded×, coded_ℕ, coded_list}
use Rattle.slotted_theory.specs.Term.{Term}
use Rattle.slotted_theory.specs.Nameless.{DTerm, nameless}
use Rattle.slotted_theory.specs.Derives.{Derives, Equal, nameless_pair}
use Rattle.slotted_model.specs.Applied.{Applied, keys, values}
use Rattle.slotted_model.specs.Classes.{term_of, IsFull}
use Rattle.slotted_model.specs.Correspondence.{composite}
use Rattle.slotted_model.specs.Filling.{IsFilling}
use Rattle.slotted_model.specs.Ids.{id_of_node, id_of}
use Rattle.slotted_model.specs.ProofList.{Equation, ProofEntry, equation_of, equation_at, term_pair, asserted}
use Rattle.slotted_operations.specs.Subterms.{IsSubterm}
use Rattle.slotted_operations.specs.TermCode.{nameless_code}
use Rattle.slotted_proofs.specs.Entries.{Proven, proven_at, asserted_entry}
pub use Rattle.slotted_classes.specs.Kept.{text_bytes, SymmetryEntry, symmetry_entry}
use Rattle.slotted_classes.specs.Kept.{symmetry_code}
use Rattle.slotted_classes.specs.Counts.{Counts, counts_code, no_counts}
use Rattle.slotted_rebuilding.specs.Counted.{CountsGo}
use Rattle.slotted_classes.specs.EntryCode.{pairs_code, proof_entry_code, proven_code}

-- the canonical node of each class, in the order of the class ids; for each class the live class that it finds, with its own slot
-- for each slot of that; the proof list, as the model has it and with the slots and the texts of its entries; the listed symmetries, each by its
-- two sides and the number of its proof; and what rebuilds did
pub record Image : Type 0 where
  pub canonical : List DTerm
  pub found : List Applied
  pub entries : List ProofEntry
  pub stored : List Proven
  pub symmetries : List SymmetryEntry
  -- what rebuilds did
  pub counts : Counts

abbrev pub image_code : Coded Image
image_code =
    code_by (List DTerm × (List Applied × (List ProofEntry × (List Proven × (List SymmetryEntry × Counts)))))
    (coded× (coded_list nameless_code) (coded× (coded_list (coded× coded_ℕ pairs_code)) (coded× (coded_list proof_entry_code) (coded× (coded_list proven_code) (coded× (coded_list symmetry_code) counts_code)))))
    (λ g. (g.canonical, (g.found, (g.entries, (g.stored, (g.symmetries, g.counts))))))
    (λ p. record { canonical = p.0; found = p.1.0; entries = p.1.1.0; stored = p.1.1.1.0; symmetries = p.1.1.1.1.0; counts = p.1.1.1.1.1 }) (λ _. refl)

-- the image without classes
abbrev pub no_classes : Image
no_classes = record { canonical = []; found = []; entries = []; stored = []; symmetries = []; counts = no_counts }

-- what an applied id finds: the found class with the id's names at the slots that it stands for
abbrev pub found_id : Image → Applied → Applied
found_id g a = let r = slice_index_or g.found a.0 (0, []) in (r.0, composite r.1 a.1)

abbrev pub FoundAlike : Image → Applied → Applied → Type 0
FoundAlike g a b = found_id g a ≡ found_id g b

-- the asserted list
abbrev pub asserted_in : Image → List (DTerm × DTerm)
asserted_in g = asserted g.canonical g.entries

-- named terms of which a and b are the nameless form are derivable from named equations that are the asserted list
abbrev pub AreDerivable : Image → Applied → Applied → Type 0
AreDerivable g a b = (E : List (Term × Term)) (t u : Term) → map nameless_pair E ≡ asserted_in g →
    nameless t ≡ term_of g.canonical a → nameless u ≡ term_of g.canonical b → Derives E t u

-- a yes says that by the asserted list the terms of a and b are equal
abbrev pub SaysEqual : Image → Applied → Applied → Bool → Type 0
SaysEqual g a b y = IsTrue y → Equal (asserted_in g) (term_of g.canonical a) (term_of g.canonical b)

-- a yes says that they are derivable
abbrev pub SaysDerivable : Image → Applied → Applied → Bool → Type 0
SaysDerivable g a b y = IsTrue y → AreDerivable g a b

-- where nothing is asserted the answer is yes exactly if a and b stand for one term
abbrev pub SaysTerms : Image → Applied → Applied → Bool → Type 0
SaysTerms g a b y = asserted_in g ≡ [] → IsTrue y ↔ (term_of g.canonical a ≡ term_of g.canonical b)

-- an entry has this equation
abbrev pub StandsIn : Image → Equation → Type 0
StandsIn g e = (p : ℕ) × (p < length g.entries) × (equation_at g.entries p ≡ e)

-- classes are added, and equal nodes stand for one class again: the proof list grows at its end, so that each entry stays with its slots and
-- its text, nothing is asserted, listed symmetries stay, finds go on from what was found, ids that find alike still do, and the totals over all
-- rebuilds rise within their bound
pub record AddsClasses (g h : Image) : Type 0 where
  pub more : List ProofEntry
  pub entries : h.entries ≡ g.entries ++ more
  pub more_stored : List Proven
  pub stored : h.stored ≡ g.stored ++ more_stored
  pub asserted : asserted_in h ≡ asserted_in g
  pub listed : List SymmetryEntry
  pub symmetries : h.symmetries ≡ g.symmetries ++ listed
  pub finds : (a : Applied) → IsFull g.canonical a → found_id h a ≡ found_id h (found_id g a)
  pub alike : (a b : Applied) → IsFull g.canonical a → IsFull g.canonical b → FoundAlike g a b → FoundAlike h a b
  pub counts : CountsGo g.counts h.counts

-- each class of the newer canonical nodes that the older ones do not have is that of an id of which P holds
abbrev pub NewClassesAre : List DTerm → List DTerm → (Applied → Type 0) → Type 0
NewClassesAre older newer P = (i : ℕ) → length older ≤ i → i < length newer → (a : Applied) × (a.0 ≡ i) × P a

-- the node is looked up as the id
abbrev pub IsIdOfNode : List DTerm → DTerm → Applied → Type 0
IsIdOfNode nodes d a = id_of_node nodes d ≡ Some a

-- a subterm of t is looked up as the id
pub record IsIdOfSubterm (nodes : List DTerm) (t : Term) (a : Applied) : Type 0 where
  pub subterm : Term
  pub stands : IsSubterm subterm t
  pub found : id_of nodes (nameless subterm) ≡ Some a

-- the proof list and the listed symmetries grow at their ends, finds go on from what was found, and ids that find alike still do
pub record Continues (g h : Image) : Type 0 where
  pub more : List ProofEntry
  pub entries : h.entries ≡ g.entries ++ more
  pub listed : List SymmetryEntry
  pub symmetries : h.symmetries ≡ g.symmetries ++ listed
  pub finds : (a : Applied) → IsFull g.canonical a → found_id h a ≡ found_id h (found_id g a)
  pub alike : (a b : Applied) → IsFull g.canonical a → IsFull g.canonical b → FoundAlike g a b → FoundAlike h a b

-- the equation stands in the list: it stood there and nothing more is asserted, or it stood nowhere and is asserted last
pub record Asserts (g h : Image) (e : Equation) : Type 0 where
  pub number : ℕ
  pub in_range : number < length h.entries
  pub stands : equation_at h.entries number ≡ e
  pub asserted : (StandsIn g e × (asserted_in h ≡ asserted_in g)) ⊎
      ((¬ StandsIn g e) × (asserted_in h ≡ asserted_in g ++ term_pair g.canonical e ∷ []))

-- x is the entry at a number past the list of g
pub record IsNewEntry (g h : Image) (x : Proven) : Type 0 where
  pub number : ℕ
  pub past : length g.stored ≤ number
  pub in_range : number < length h.stored
  pub entry : proven_at h.stored number ≡ x

-- the list with slots and texts grows at its end; and the equation of x stood in it, or x itself is a new entry
pub record Records (g h : Image) (x : Proven) : Type 0 where
  pub more : List Proven
  pub stored : h.stored ≡ g.stored ++ more
  pub entered : StandsIn g x.statement.equation ⊎ IsNewEntry g h x

-- left and right are a and b with names for the canonical slots that these have none for: all different, none of those that are filled in on
-- the left is a name of b, and none of those that are filled in on the right is one of left. Ids that lack no name are filled by themselves
pub record FillApart (g : Image) (a b left right : Applied) : Type 0 where
  pub left_fills : IsFilling g.canonical (values b.1) a left
  pub right_fills : IsFilling g.canonical (values left.1) b right

-- the equation of any two ids that fill a and b apart stood in the list, or that they are equal is a new entry, asserted with the text
pub record RecordsFilled (g h : Image) (a b : Applied) (text : Option (List ℕ)) : Type 0 where
  pub each : (left right : Applied) → FillApart g a b left right → Records g h (asserted_entry left right text)

-- the same names
abbrev pub SameNames : Applied → Applied → Type 0
SameNames a b = (z : ℕ) → Contains (values a.1) z ↔ Contains (values b.1) z

-- the sides of each listed symmetry that finds the class find alike
abbrev pub HasNoOpenSymmetry : Image → ℕ → Type 0
HasNoOpenSymmetry g c = (y : SymmetryEntry) → Contains g.symmetries y → (found_id g y.0.0).0 ≡ c → FoundAlike g y.0.0 y.0.1

-- how many of these symmetries are open: their sides do not find alike
pub data CountsOpen (g : Image) : List SymmetryEntry → ℕ → Type 0 where
  none : CountsOpen g [] 0
  one_open : {ys : List SymmetryEntry} {n : ℕ} (y : SymmetryEntry) → CountsOpen g ys n → ¬ FoundAlike g y.0.0 y.0.1 →
      CountsOpen g (ys ++ y ∷ []) (suc n)
  one_closed : {ys : List SymmetryEntry} {n : ℕ} (y : SymmetryEntry) → CountsOpen g ys n → FoundAlike g y.0.0 y.0.1 →
      CountsOpen g (ys ++ y ∷ []) n

-- no listed symmetry is open
abbrev pub AreClosed : Image → Type 0
AreClosed g = (y : SymmetryEntry) → Contains g.symmetries y → FoundAlike g y.0.0 y.0.1

-- two ids find one class and one set of names, and they find alike where no listed symmetry of that class is open
pub record AreTogether (g : Image) (a b : Applied) : Type 0 where
  pub class : (found_id g a).0 ≡ (found_id g b).0
  pub names : SameNames (found_id g a) (found_id g b)
  pub alike : HasNoOpenSymmetry g (found_id g a).0 → FoundAlike g a b

-- one for each live class, and one for each slot that it has, where i is the number of the first class
abbrev pub live_size_from : ℕ → List Applied → ℕ
live_size_from i [] = 0
live_size_from i (a ∷ found) = cond (nat_eq a.0 i) (suc (length a.1)) 0 + live_size_from (suc i) found

-- the live classes and their slots
abbrev pub live_size : Image → ℕ
live_size g = live_size_from 0 g.found

-- what a union of a and b answers, and what it leaves: true exactly where they did not find alike; they are together from now on, the
-- equation of any two ids that fill them apart stands in the proof list (there are some), no class is made, and there are no more live
-- classes and slots than before; where it answers false, what classes find and the listed symmetries stay as they were
pub record IsUnion (g h : Image) (a b : Applied) (y : Bool) : Type 0 where
  pub answer : IsTrue y ↔ (¬ FoundAlike g a b)
  pub together : AreTogether h a b
  pub of_two : (found_id g a).0 ≢ (found_id g b).0 → FoundAlike h a b
  pub asserts : (left right : Applied) → FillApart g a b left right → Asserts g h (equation_of left right)
  pub filled : (left : Applied) × (right : Applied) × FillApart g a b left right
  pub canonical : h.canonical ≡ g.canonical
  pub continues : Continues g h
  pub size : live_size h ≤ live_size g
  pub counts : CountsGo g.counts h.counts
  pub unchanged : y ≡ false → (h.found ≡ g.found) × (h.symmetries ≡ g.symmetries)

-- what holds of a listed symmetry: its sides are one class with the same slots and the same names in another order, and an entry says just
-- this of the class; and both sides find the same names
pub record IsSymmetry (g : Image) (y : SymmetryEntry) : Type 0 where
  pub class : y.0.1.0 ≡ y.0.0.0
  pub slots : keys y.0.1.1 ≡ keys y.0.0.1
  pub names : SameNames y.0.0 y.0.1
  pub differ : y.0.0 ≢ y.0.1
  pub in_range : y.1 < length g.entries
  pub proof : equation_at g.entries y.1 ≡ equation_of y.0.0 y.0.1
  pub aligned : SameNames (found_id g y.0.0) (found_id g y.0.1)

-- so it is of each listed one
abbrev pub AreSymmetries : Image → Type 0
AreSymmetries g = (y : SymmetryEntry) → Contains g.symmetries y → IsSymmetry g y

-- what is read past the end of a list
abbrev pub no_symmetry : SymmetryEntry
no_symmetry = (((0, []), (0, [])), 0)

-- what the listed symmetry with this index says
abbrev pub listed_equation : Image → ℕ → Equation
listed_equation g i = let y = slice_index_or g.symmetries i no_symmetry in equation_of y.0.0 y.0.1

-- no two of them say the same, up to names
abbrev pub AreListedOnce : Image → Type 0
AreListedOnce g =
    (i j : ℕ) → i < length g.symmetries → j < length g.symmetries → listed_equation g i ≡ listed_equation g j → i ≡ j
