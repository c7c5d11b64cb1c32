-- Edits and rounds in which data goes along with each step, and of each class exactly the answered edits are made.
--     AddsNodesWithData a g s h t   classes are made, one after another, with their data
--     IsInSteps m                   in the edit m data goes along with each step
--     AreInSteps m                  and so in these edits
--     ModifiesAs f m                of each class exactly the edits are made, in order, that f answers, and data goes along with each step
--     RoundsAs f r                  and so in rounds
--     AddsExprAs f x                and so where a tree is added with rounds after it
use Rattle.std.specs.Prelude.{◌≡◌, ℕ, List}
use Rattle.slotted_theory.specs.Nameless.{DTerm}
use Rattle.slotted_model.specs.Applied.{Applied}
use Rattle.slotted_model.specs.Find.{used_slots}
use Rattle.slotted_model.specs.Growth.{IsNew}
use Rattle.slotted_model.specs.State.{State}
use Rattle.slotted_model_analyses.specs.Analysis.{Analysis}
use Rattle.slotted_model_analyses.specs.DataPart.{DataPart}
use Rattle.slotted_model_analyses.specs.DataWrites.{AddsWithData, AssertsWithData}
use Rattle.slotted_model_analyses.specs.Rounds.{Edit, Modify, Answers, MakesEdit, makes_add, makes_equal, makes_equate, MakesEdits, all_made, then_edit, Modifies, all_modified, modified, passed_over, TakesRounds, no_rounds, one_round, AddsExpr, still_there, turned_away}

-- classes are made, one after another, each with its data
pub data AddsNodesWithData {D : Type 0} (a : Analysis D) (g : State) (s : DataPart D) : State → DataPart D → Type 0 where
  none_more : AddsNodesWithData a g s g s
  then_one : {h k : State} {t u : DataPart D} (c : DTerm) → AddsNodesWithData a g s h t → IsNew h.nodes c → AddsWithData a h t c k u →
      AddsNodesWithData a g s k u

-- in an edit data goes along with each step
abbrev pub IsInSteps : {D : Type 0} {a : Analysis D} {g : State} {s : DataPart D} {c : ℕ} {slots : List ℕ}
    {e : Edit} {h : State} {t : DataPart D} →
    MakesEdit a g s c slots e h t → Type 0
IsInSteps {a = a} {g = g} {s = s} (makes_add {h = h} {t = t} d tree) = AddsNodesWithData a g s h t
IsInSteps {a = a} {g = g} {s = s} (makes_equal {h = h} {k = k} {t = t} {u = u} {b = b} {x = x} d tree fills says carries) =
    AddsNodesWithData a g s h t × AssertsWithData a h t x b k u
IsInSteps {a = a} {g = g} {s = s} (makes_equate {h = h} {k = k} {l = l} {t = t} {u = u} {v = v} {b = b} {x = x} d e left right says carries) =
    AddsNodesWithData a g s h t × AddsNodesWithData a h t k u × AssertsWithData a k u b x l v

-- and so in the edits of a class
abbrev pub AreInSteps : {D : Type 0} {a : Analysis D} {c : ℕ} {slots : List ℕ} {g : State} {s : DataPart D}
    {es : List Edit} {h : State} {t : DataPart D} →
    MakesEdits a c slots g s es h t → Type 0
AreInSteps all_made = Unit {0}
AreInSteps (then_edit one more) = IsInSteps one × AreInSteps more

-- of each class that is taken exactly these edits are made, in order, where data goes along with each step
abbrev pub ModifiesAs : {D : Type 0} {a : Analysis D} {modify : Modify D} {g : State} {s : DataPart D}
    {cs : List ℕ} {h : State} {t : DataPart D} →
    Answers D → Modifies a modify g s cs h t → Type 0
ModifiesAs answers all_modified = Unit {0}
ModifiesAs answers (modified {g = g} {s = s} {c = c} {es = es} l lives asked edits more) =
    (es ≡ answers (s.data_of c) (used_slots g.found c)) × AreInSteps edits × ModifiesAs answers more
ModifiesAs answers (passed_over dead more) = ModifiesAs answers more

-- and so in each of the rounds
abbrev pub RoundsAs : {D : Type 0} {a : Analysis D} {modify : Modify D} {g : State} {s : DataPart D} {n : ℕ} {h : State} {t : DataPart D} →
    Answers D → TakesRounds a modify g s n h t → Type 0
RoundsAs answers no_rounds = Unit {0}
RoundsAs answers (one_round rounds c waits lives round) = RoundsAs answers rounds × ModifiesAs answers round.modifies

-- and so where a tree is added, with rounds after it
abbrev pub AddsExprAs : {D : Type 0} {a : Analysis D} {modify : Modify D} {limit : ℕ} {g : State}
    {s : DataPart D} {d : DTerm} {h : State} {t : DataPart D} {x : Applied} →
    Answers D → AddsExpr a modify limit g s d h t x → Type 0
AddsExprAs {a = a} {g = g} {s = s} answers (still_there {h = h} {t = t} nodes carries there rounds still) =
    AddsNodesWithData a g s h t × RoundsAs answers rounds.rounds
AddsExprAs {a = a} {g = g} {s = s} answers (turned_away {h = h} {k = k} {l = l} {t = t} {u = u} {v = v} nodes carries there rounds none
    more again looked_up) =
    AddsNodesWithData a g s h t × RoundsAs answers rounds.rounds × AddsNodesWithData a k u l v
