-- Edits of an analysis, made in rounds: each is an assertion from rest to rest, of trees that are added for it.
--     Edit                        what an analysis asks for a class, by the class's data and slots
--     AddsNodes g h               classes are made, one after another
--     AddsTree a g s d h t b      the tree d is added, and b stands for it; its data is carried along
--     MakesEdit a g s c x e h t   the edit e of the class c, under its slots x, leads from g to h
--     Modifies a m g s cs h t     so do the edits of these classes, in order, each asked by m
--     TakesRound a m g s h t      one round: the live classes that wait, by ascending id
--     Rounds a m n g s h t        rounds until no live class waits, at most n
--     AddsExpr a m n g s d h t x  the tree d is added, with rounds after it, and x is answered
--     IsAsked a m g h p           the pair p was asserted for an edit that m asks for the data of a class in a graph between g and h
use Rattle.std.specs.Prelude.{◌≡◌, ◌⊎◌, ℕ, suc, ◌<◌, ◌≤◌, List, [], ◌∷◌, length, Contains, Some, None, ◌↔◌}
use Rattle.slotted_theory.specs.Nameless.{DTerm}
use Rattle.slotted_model.specs.Ascending.{IsAscending}
use Rattle.slotted_model.specs.Applied.{Applied, values}
use Rattle.slotted_model.specs.Classes.{term_of, IsFull}
use Rattle.slotted_model.specs.Correspondence.{identity}
use Rattle.slotted_model.specs.Filling.{IsFilling}
use Rattle.slotted_model.specs.Find.{IsLive, used_slots}
use Rattle.slotted_model.specs.Growth.{IsNew}
use Rattle.slotted_model.specs.ProofList.{equation_of, term_pair}
use Rattle.slotted_model.specs.State.{State, look_up_tree}
use Rattle.slotted_model.specs.Trees.{IsTree}
use Rattle.slotted_model.specs.Rest.{AtRest}
use Rattle.slotted_model.specs.Changes.{GoesOn}
use Rattle.slotted_model.specs.Adding.{Adds, Asserts}
use Rattle.slotted_model_analyses.specs.Analysis.{Analysis}
use Rattle.slotted_model_analyses.specs.DataPart.{DataPart, RestsWithData}
use Rattle.slotted_model_analyses.specs.Carried.{CarriesTo}

-- a tree is added; the class at its own slots equals a tree; or two trees are equal
pub data Edit : Type 0 where
  adds : DTerm → Edit
  equals : DTerm → Edit
  equates : DTerm → DTerm → Edit

-- what is added and asserted are trees
abbrev pub IsOfTrees : Edit → Type 0
IsOfTrees (adds d) = IsTree d
IsOfTrees (equals d) = IsTree d
IsOfTrees (equates d e) = IsTree d × IsTree e

-- what an analysis may ask, by the data and the slots of a class
abbrev pub Modify : Type 0 → Type 1
Modify D = D → List ℕ → Edit → Type 0

-- each of these edits is asked
abbrev pub AreAsked : (Edit → Type 0) → List Edit → Type 0
AreAsked asked es = (e : Edit) → Contains es e → asked e

-- edits that are answered, by the data and the slots of a class
abbrev pub Answers : Type 0 → Type 0
Answers D = D → List ℕ → List Edit

-- what is answered is asked, and of trees alone
abbrev pub AnswersTrees : {D : Type 0} → Modify D → Answers D → Type 0
AnswersTrees {D} modify answers = (x : D) (slots : List ℕ) (e : Edit) → Contains (answers x slots) e → modify x slots e × IsOfTrees e

-- classes are made, one after another
pub data AddsNodes (g : State) : State → Type 0 where
  no_more : AddsNodes g g
  one_more : {h k : State} (c : DTerm) → AddsNodes g h → IsNew h.nodes c → Adds h c k → AddsNodes g k

-- the tree d is added: classes are made for those of its parts that no id stands for, data is carried along, and b stands for it
pub record AddsTree {D : Type 0} (a : Analysis D) (g : State) (s : DataPart D) (d : DTerm) (h : State) (t : DataPart D) (b : Applied) : Type 0 where
  pub nodes : AddsNodes g h
  pub carries : CarriesTo a g s h t
  pub full : IsFull h.nodes b
  pub term : term_of h.nodes b ≡ d

-- an edit of the class c, which had these slots when it was asked: data is carried along with each tree and with the assertion
pub data MakesEdit {D : Type 0} (a : Analysis D) (g : State) (s : DataPart D) (c : ℕ) (slots : List ℕ) : Edit → State → DataPart D →
    Type 0 where
  makes_add : {h : State} {t : DataPart D} {b : Applied} (d : DTerm) → AddsTree a g s d h t b → MakesEdit a g s c slots (adds d) h t
  makes_equal : {h k : State} {t u : DataPart D} {b x : Applied} (d : DTerm) → AddsTree a g s d h t b →
      IsFilling h.nodes (values b.1) (c, identity slots) x →
      Asserts h x b k → CarriesTo a h t k u → MakesEdit a g s c slots (equals d) k u
  makes_equate : {h k l : State} {t u v : DataPart D} {b x : Applied} (d e : DTerm) → AddsTree a g s d h t b → AddsTree a h t e k u x →
      Asserts k b x l → CarriesTo a k u l v →
      MakesEdit a g s c slots (equates d e) l v

-- the edits of a class, in order
pub data MakesEdits {D : Type 0} (a : Analysis D) (c : ℕ) (slots : List ℕ) : State → DataPart D → List Edit → State → DataPart D →
    Type 0 where
  all_made : {g : State} {s : DataPart D} → MakesEdits a c slots g s [] g s
  then_edit : {g h k : State} {s t u : DataPart D} {e : Edit} {es : List Edit} → MakesEdit a g s c slots e h t →
      MakesEdits a c slots h t es k u →
      MakesEdits a c slots g s (e ∷ es) k u

-- these classes in turn: of a live one edits that are asked for the data that it has then, and a dead one is passed over
pub data Modifies {D : Type 0} (a : Analysis D) (modify : Modify D) : State → DataPart D → List ℕ → State → DataPart D → Type 0 where
  all_modified : {g : State} {s : DataPart D} → Modifies a modify g s [] g s
  modified : {g h k : State} {s t u : DataPart D} {c : ℕ} {cs : List ℕ} {es : List Edit} → c < length g.nodes → IsLive g.found c →
      AreAsked (modify (s.data_of c) (used_slots g.found c)) es → MakesEdits a c (used_slots g.found c) g s es h t →
      Modifies a modify h t cs k u →
      Modifies a modify g s (c ∷ cs) k u
  passed_over : {g k : State} {s u : DataPart D} {c : ℕ} {cs : List ℕ} → ¬ IsLive g.found c → Modifies a modify g s cs k u →
      Modifies a modify g s (c ∷ cs) k u

-- one round: the live classes that wait to be modified are taken, by ascending id; what changes meanwhile waits for the next
pub record TakesRound {D : Type 0} (a : Analysis D) (modify : Modify D) (g : State) (s : DataPart D) (h : State) (t : DataPart D) : Type 0 where
  pub order : List ℕ
  pub ascending : IsAscending order
  pub waiting : (c : ℕ) → Contains order c ↔ (Contains s.changed c × IsLive g.found c)
  pub modifies : Modifies a modify g (record s { changed = [] }) order h t

-- so many rounds, each where a live class waits
pub data TakesRounds {D : Type 0} (a : Analysis D) (modify : Modify D) (g : State) (s : DataPart D) : ℕ → State → DataPart D →
    Type 0 where
  no_rounds : TakesRounds a modify g s 0 g s
  one_round : {n : ℕ} {h k : State} {t u : DataPart D} → TakesRounds a modify g s n h t → (c : ℕ) → Contains t.changed c →
      IsLive h.found c →
      TakesRound a modify h t k u → TakesRounds a modify g s (suc n) k u

-- no live class waits to be modified
abbrev pub NoneWaits : {D : Type 0} → State → DataPart D → Type 0
NoneWaits g s = (c : ℕ) → Contains s.changed c → ¬ IsLive g.found c

-- rounds until no live class waits, but no more than the limit: what waits then, waits for the next write
pub record Rounds {D : Type 0} (a : Analysis D) (modify : Modify D) (limit : ℕ) (g : State) (s : DataPart D) (h : State) (t : DataPart D) : Type 0 where
  pub taken : ℕ
  pub within : taken ≤ limit
  pub rounds : TakesRounds a modify g s taken h t
  pub ends : (taken ≡ limit) ⊎ NoneWaits h t

-- the tree d is added: classes are made until it is looked up, data is carried along, and then rounds follow. An edit may turn the
-- look-up of a part of it, by a symmetry that it opens, so that the tree is not looked up then; in this case classes are made for it
-- once more, without rounds. What the look-up says then is answered
pub data AddsExpr {D : Type 0} (a : Analysis D) (modify : Modify D) (limit : ℕ) (g : State) (s : DataPart D) (d : DTerm) : State →
    DataPart D → Applied → Type 0 where
  still_there : {h k : State} {t u : DataPart D} {x y : Applied} → AddsNodes g h → CarriesTo a g s h t → look_up_tree h d ≡ Some x →
      Rounds a modify limit h t k u → look_up_tree k d ≡ Some y →
      AddsExpr a modify limit g s d k u y
  turned_away : {h k l : State} {t u v : DataPart D} {x y : Applied} → AddsNodes g h → CarriesTo a g s h t → look_up_tree h d ≡ Some x →
      Rounds a modify limit h t k u → look_up_tree k d ≡ None →
      AddsNodes k l → CarriesTo a k u l v → look_up_tree l d ≡ Some y → AddsExpr a modify limit g s d l v y

-- what the edit says of the class c, which had these slots, is that x equals y
abbrev pub SaysEdit : State → ℕ → List ℕ → Edit → Applied → Applied → Type 0
SaysEdit g c slots (adds d) x y = ⊥
SaysEdit g c slots (equals d) x y = IsFilling g.nodes (values y.1) (c, identity slots) x × (term_of g.nodes y ≡ d)
SaysEdit g c slots (equates d e) x y = (term_of g.nodes x ≡ d) × (term_of g.nodes y ≡ e)

-- the pair was asserted, in a graph between g and h, for an edit that is asked for the data and slots that a live class had
-- in a graph between
pub record IsAsked {D : Type 0} (a : Analysis D) (modify : Modify D) (g h : State) (pair : DTerm × DTerm) : Type 0 where
  pub asked : State
  pub part : DataPart D
  pub class : ℕ
  pub edit : Edit
  pub said : State
  pub left : Applied
  pub right : Applied
  pub asked_rests : RestsWithData a asked part
  pub said_rests : AtRest said
  pub from : GoesOn g asked
  pub between : GoesOn asked said
  pub to : GoesOn said h
  pub lives : IsLive asked.found class
  pub answered : modify (part.data_of class) (used_slots asked.found class) edit
  pub says : SaysEdit said class (used_slots asked.found class) edit left right
  pub is : pair ≡ term_pair said.nodes (equation_of left right)
