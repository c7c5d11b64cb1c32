-- What an explanation of two terms leaves.
--     AddsTerms g h       terms were added, and perhaps entries that assert nothing
--     HasIds g t u a b    the two terms are looked up as these ids
--     IsIdOfEither        an id of a subterm of one of the two terms
--     FilesOnlyTerms      each new class is that of such an id
--     KeepsClasses g h    the graphs have one table, the same classes, which find the same, and the same filed nodes and symmetries
--     Explains g t u p    the entry p says that the two terms are equal
--     FindsApart g t u    their ids do not find alike
--     RunsOutForTerms     slots ran out
--     ProvesIfAlike k l a b       the answer is an entry where the two ids find alike
--     StandsAt g p e      the entry p has this equation
--     ExplainsIds         the same of what is kept: it stays good, and nothing but the proof list has changed
use Rattle.std.specs.Prelude.{◌≡◌, ◌<◌, ◌≤◌, ◌+◌, ◌⊎◌, ◌^◌, ℕ, List, Option, Some, None, IsSome, length}
use Rattle.slotted_slots.specs.Table.{Table, slot_limit}
use Rattle.slotted_theory.specs.Term.{Term, term_size}
use Rattle.slotted_theory.specs.Nameless.{DTerm, nameless}
use Rattle.slotted_model.specs.Applied.{Applied}
use Rattle.slotted_model.specs.Changes.{GoesOn}
use Rattle.slotted_model.specs.Growth.{Extends}
use Rattle.slotted_model.specs.Ids.{id_of}
use Rattle.slotted_model.specs.ProofList.{Equation, equation_of, equation_at}
use Rattle.slotted_classes.specs.Finding.{FindAlike}
use Rattle.slotted_classes.specs.Kept.{Kept, entries_of, nodes_of}
use Rattle.slotted_rebuilding.specs.Proving.{ProvesEqual}
use Rattle.slotted_hashcons.specs.FiledRows.{Rows}
use Rattle.slotted_hashcons.specs.WellFiled.{state_in}
use Rattle.slotted_operations.specs.Causes.{HasLargeClassIn, HasLargeClassOf}
use Rattle.slotted_operations.specs.Good.{Good, KeepsNotes, RestsWith, HasFreshSlots, image_of}
use Rattle.slotted_operations.specs.Graph.{Graph, RunsOut, id_of_term}
use Rattle.slotted_operations.specs.Image.{Image, AddsClasses, FoundAlike, IsIdOfSubterm, NewClassesAre}
use Rattle.slotted_operations.specs.Places.{term_places, term_slots}

-- classes are added, and nothing is asserted
pub record AddsTerms (g h : Image) : Type 0 where
  pub extends : Extends g.canonical h.canonical
  pub adds : AddsClasses g h

-- the two terms are looked up as these ids
pub record HasIds (g : Image) (t u : Term) (a b : Applied) : Type 0 where
  pub left : id_of g.canonical (nameless t) ≡ Some a
  pub right : id_of g.canonical (nameless u) ≡ Some b

-- what a subterm of one of the two terms is looked up as
abbrev pub IsIdOfEither : List DTerm → Term → Term → Applied → Type 0
IsIdOfEither nodes t u a = IsIdOfSubterm nodes t a ⊎ IsIdOfSubterm nodes u a

-- each new class is that of such an id
abbrev pub FilesOnlyTerms : Graph → Graph → Term → Term → Type 0
FilesOnlyTerms g h t u = NewClassesAre g.image.canonical h.image.canonical (IsIdOfEither h.image.canonical t u)

pub record KeepsClasses (g h : Graph) : Type 0 where
  pub table : h.table ≡ g.table
  pub canonical : h.image.canonical ≡ g.image.canonical
  pub found : h.image.found ≡ g.image.found
  pub symmetries : h.image.symmetries ≡ g.image.symmetries
  pub filed : h.filed ≡ g.filed
  pub counts : h.image.counts ≡ g.image.counts
  pub part : h.part ≡ g.part

-- where both terms have ids, entries of the proof list are all that is new
abbrev pub KeepsKnown : Graph → Graph → Term → Term → Type 0
KeepsKnown g h t u = IsSome (id_of_term g t) → IsSome (id_of_term g u) → KeepsClasses g h

-- the two ids find alike, and the entry p has their equation
pub record Explains (g : Image) (t u : Term) (p : ℕ) : Type 0 where
  pub left : Applied
  pub right : Applied
  pub ids : HasIds g t u left right
  pub alike : FoundAlike g left right
  pub in_range : p < length g.entries
  pub equation : equation_at g.entries p ≡ equation_of left right

-- the two ids do not find alike
pub record FindsApart (g : Image) (t u : Term) : Type 0 where
  pub left : Applied
  pub right : Applied
  pub ids : HasIds g t u left right
  pub apart : ¬ FoundAlike g left right

-- an answer
abbrev pub Answers : Image → Term → Term → Option ℕ → Type 0
Answers g t u (Some p) = Explains g t u p
Answers g t u None = FindsApart g t u

-- what is kept has ids for both terms, and answers whether they find alike, by an entry where they do
pub record ExplainsTerms (old new : Table) (k : Kept) (r : Rows) (l : Kept) (q : Rows) (t u : Term) (answer : Option ℕ) : Type 0 where
  pub good : Good l
  pub rests : RestsWith l q
  pub fresh_slots : HasFreshSlots new l
  pub goes_on : GoesOn (state_in k r) (state_in l q)
  pub adds : AddsTerms (image_of k) (image_of l)
  pub notes : KeepsNotes k l
  pub filed : NewClassesAre (nodes_of k) (nodes_of l) (IsIdOfEither (nodes_of l) t u)
  pub kept : IsSome (id_of (nodes_of k) (nameless t)) → IsSome (id_of (nodes_of k) (nameless u)) → (nodes_of l ≡ nodes_of k) ×
      ((image_of l).found ≡ (image_of k).found) × ((image_of l).symmetries ≡ (image_of k).symmetries) × (q ≡ r) × (new ≡ old) ×
      (l.counts ≡ k.counts) × (l.deaths ≡ k.deaths)
  pub answers : Answers (image_of l) t u answer

-- one of the terms has no id
abbrev pub LacksId : Image → Term → Term → Type 0
LacksId g t u = (id_of g.canonical (nameless t) ≡ None) ⊎ (id_of g.canonical (nameless u) ≡ None)

-- slots ran out for the classes of the terms, one of which has no id, a term has too many places to be numbered, a class of the
-- graph or of a term is too large to be rebuilt, or the ids of the terms find alike in the graph to which they were added, and of
-- the classes that find the same one has so many slots that two ids of it have too many names
pub data RunsOutForTerms (g : Image) (t u : Term) (old new : Table) : Type 0 where
  no_slots : RunsOut (term_slots t + term_slots u) old new → LacksId g t u → RunsOutForTerms g t u old new
  large_left : slot_limit ≤ term_places t → RunsOutForTerms g t u old new
  large_right : slot_limit ≤ term_places u → RunsOutForTerms g t u old new
  large_graph : HasLargeClassIn g → RunsOutForTerms g t u old new
  wide_left : 2 ^ 29 ≤ term_size t → RunsOutForTerms g t u old new
  wide_right : 2 ^ 29 ≤ term_size u → RunsOutForTerms g t u old new
  large_class : (h : Image) (a b : Applied) → AddsTerms g h → HasIds h t u a b → FoundAlike h a b → HasLargeClassOf h a b →
      RunsOutForTerms g t u old new

-- where the two ids find alike, the answer is an entry with their equation, and else all stays
abbrev pub ProvesIfAlike : Kept → Kept → Applied → Applied → Option ℕ → Type 0
ProvesIfAlike k l a b (Some p) = FindAlike (entries_of k) a b × ProvesEqual k l a b p
ProvesIfAlike k l a b None = (l ≡ k) × ¬ FindAlike (entries_of k) a b

-- the entry p has this equation
abbrev pub StandsAt : Image → ℕ → Equation → Type 0
StandsAt g p e = (p < length g.entries) × (equation_at g.entries p ≡ e)

-- what is said of two ids: an entry with their equation, or that they do not find alike
abbrev pub AnswersIds : Image → Image → Applied → Applied → Option ℕ → Type 0
AnswersIds g h a b (Some p) = FoundAlike g a b × StandsAt h p (equation_of a b)
AnswersIds g h a b None = ¬ FoundAlike g a b

-- the answer on two full ids, beside which the proof list alone has grown, by entries that assert nothing
pub record ExplainsIds (t : Table) (k : Kept) (r : Rows) (l : Kept) (a b : Applied) (answer : Option ℕ) : Type 0 where
  pub good : Good l
  pub rests : RestsWith l r
  pub fresh_slots : HasFreshSlots t l
  pub goes_on : GoesOn (state_in k r) (state_in l r)
  pub adds : AddsTerms (image_of k) (image_of l)
  pub canonical : nodes_of l ≡ nodes_of k
  pub found : (image_of l).found ≡ (image_of k).found
  pub symmetries : (image_of l).symmetries ≡ (image_of k).symmetries
  pub counts : l.counts ≡ k.counts
  pub answers : AnswersIds (image_of k) (image_of l) a b answer
