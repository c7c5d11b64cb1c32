-- What the edits of a class leave.
--     SaysEdit nodes c e x y   the edit e of the class c says that x equals y
--     HasBareEntry g h e       the equation e is an explicit entry of h without a text, past those of g
--     IsSaid g h c e pair      the pair was asserted after g and before h, since the edit says so
--     AssertsMore P g h        what is asserted in h and not in g are pairs of which P holds
--     IsIdOf h t a             a is a full id of the term t
--     IsDone h c e             the terms of the edit have ids, and what it says of the class c stands in the proof list
--     AddsTerm .. g h t a      the term t was added, and a is its id
--     UnitesIds .. g h a b     it was asserted that a equals b
--     MakesEdit .. g h c e     the edit was made
--     MakesEdits .. g c es h   so were these, in order
use Rattle.std.specs.Prelude.{◌≡◌, ◌⊎◌, ◌<◌, ◌≤◌, ℕ, List, [], ◌∷◌, ◌++◌, length, Contains, None}
use Rattle.std.specs.Coded.{Coded}
use Rattle.slotted_theory.specs.Term.{Term}
use Rattle.slotted_theory.specs.Nameless.{DTerm, nameless}
use Rattle.slotted_model.specs.Applied.{Applied}
use Rattle.slotted_model.specs.Classes.{IsFull, term_of}
use Rattle.slotted_model.specs.ProofList.{Equation, equation_of, explicit, term_pair}
use Rattle.slotted_proofs.specs.Entries.{proven_at}
use Rattle.slotted_data.specs.declared.edit.Edit.{Edit}
use Rattle.slotted_data.specs.declared.edit.Edit.TheVariants.{Add, Equal, Equate}
use Rattle.slotted_data.specs.Meaning.{Meaning}
use Rattle.slotted_graph.specs.Analysed.{CarriesData}
use Rattle.slotted_operations.specs.Graph.{Graph, IsFullId}
use Rattle.slotted_operations.specs.Image.{StandsIn, asserted_in}
use Rattle.slotted_graph.specs.States.{IsGraph}
use Rattle.slotted_graph.specs.Extension.{ExtendsTo, IsBetween}

-- by canonical nodes, x and y are the class and the id of its term, or ids of the two terms
abbrev pub SaysEdit : {L : Type 0} → List DTerm → Applied → Edit L → Applied → Applied → Type 0
SaysEdit nodes c (Add t) x y = ⊥
SaysEdit nodes c (Equal t) x y = (x ≡ c) × IsFull nodes y × (term_of nodes y ≡ nameless t)
SaysEdit nodes c (Equate t u) x y = IsFull nodes x × (term_of nodes x ≡ nameless t) × IsFull nodes y × (term_of nodes y ≡ nameless u)

pub record HasBareEntry (g h : Graph) (e : Equation) : Type 0 where
  pub number : ℕ
  pub past : length g.image.stored ≤ number
  pub in_range : number < length h.image.stored
  pub equation : (proven_at h.image.stored number).statement.equation ≡ e
  pub step : (proven_at h.image.stored number).step ≡ explicit
  pub text : (proven_at h.image.stored number).text ≡ None

pub record IsSaid {L : Type 0} (g h : Graph) (c : Applied) (e : Edit L) (pair : DTerm × DTerm) : Type 0 where
  pub moment : Graph
  pub between : IsBetween g h moment
  pub left : Applied
  pub right : Applied
  pub says : SaysEdit moment.image.canonical c e left right
  pub is : pair ≡ term_pair moment.image.canonical (equation_of left right)
  pub entry : HasBareEntry g h (equation_of left right)

pub record AssertsMore (P : DTerm × DTerm → Type 0) (g h : Graph) : Type 0 where
  pub more : List (DTerm × DTerm)
  pub asserted : asserted_in h.image ≡ asserted_in g.image ++ more
  pub each : (pair : DTerm × DTerm) → Contains more pair → P pair

abbrev pub IsIdOf : Graph → Term → Applied → Type 0
IsIdOf h t a = IsFull h.image.canonical a × (term_of h.image.canonical a ≡ nameless t)

abbrev pub IsDone : {L : Type 0} → Graph → Applied → Edit L → Type 0
IsDone h c (Add t) = (a : Applied) × IsIdOf h t a
IsDone h c (Equal t) = (a : Applied) × IsIdOf h t a × StandsIn h.image (equation_of c a)
IsDone h c (Equate t u) = (a : Applied) × (b : Applied) × IsIdOf h t a × IsIdOf h u b × StandsIn h.image (equation_of a b)

pub record AddsTerm {N D : Type 0} (codes : Coded N × Coded D) (meaning : N → Meaning D) (g h : Graph) (t : Term) (a : Applied) : Type 0 where
  pub graph : IsGraph h
  pub extends : ExtendsTo g h
  pub asserted : asserted_in h.image ≡ asserted_in g.image
  pub full : IsFullId h a
  pub term : term_of h.image.canonical a ≡ nameless t
  pub carries : CarriesData codes meaning g h

-- the equation stands, and where it stood before, nothing more is asserted
pub record UnitesIds {N D : Type 0} (codes : Coded N × Coded D) (meaning : N → Meaning D) (g h : Graph) (a b : Applied) : Type 0 where
  pub graph : IsGraph h
  pub extends : ExtendsTo g h
  pub stands : StandsIn h.image (equation_of a b)
  pub asserts : (asserted_in h.image ≡ asserted_in g.image) ⊎
      ((asserted_in h.image ≡ asserted_in g.image ++ term_pair g.image.canonical (equation_of a b) ∷ []) × HasBareEntry g h (equation_of a b))
  pub carries : CarriesData codes meaning g h

-- the terms were added, what the edit says stands, and nothing else was asserted. What was made or has changed waits to be modified
pub record MakesEdit {L N D : Type 0} (codes : Coded N × Coded D) (meaning : N → Meaning D) (g h : Graph) (c : Applied) (e : Edit L) : Type 0 where
  pub graph : IsGraph h
  pub extends : ExtendsTo g h
  pub done : IsDone h c e
  pub asserts : AssertsMore (IsSaid g h c e) g h
  pub carries : CarriesData codes meaning g h

pub data MakesEdits {L N D : Type 0} (codes : Coded N × Coded D) (meaning : N → Meaning D) (g : Graph) (c : Applied) : List (Edit L) → Graph → Type 0 where
  all_made : MakesEdits codes meaning g c [] g
  then_edit : {f h : Graph} {e : Edit L} {es : List (Edit L)} → MakesEdits codes meaning g c es f → MakesEdit codes meaning f h c e →
      MakesEdits codes meaning g c (es ++ e ∷ []) h

abbrev pub HasMadeEdits : {L N D : Type 0} → Coded N × Coded D → (N → Meaning D) → Graph → Applied → List (Edit L) → Graph → Type 0
HasMadeEdits codes meaning g c es h = IsGraph h × MakesEdits codes meaning g c es h
