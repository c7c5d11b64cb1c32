-- What adding a tree answers, with rounds after it.
use Rattle.std.proofs.Common.{◌≡◌, ℕ, List, Some, ◌<◌, length, sym, subst}
use Rattle.slotted_theory.specs.Nameless.{DTerm}
use Rattle.slotted_theory.specs.Derives.{Equal}
use Rattle.slotted_model.specs.Applied.{Applied}
use Rattle.slotted_model.specs.Classes.{term_of}
use Rattle.slotted_model.specs.Filling.{IsFilling}
use Rattle.slotted_model.specs.Find.{find_class}
use Rattle.slotted_model.specs.ProofList.{asserted}
use Rattle.slotted_model.specs.State.{State, look_up_tree}
use Rattle.slotted_model.specs.Rest.{IsValidIn}
use Rattle.slotted_model.specs.Changes.{GoesOn}
use Rattle.slotted_model.proofs.Rebuilding.GoingOn.{goes_on-then}
use Rattle.slotted_model.proofs.Complete.LookUpsAreEqual.{tree-equal, filled-equal}
use Rattle.slotted_model_analyses.proofs.Writing.{merging}
use Rattle.slotted_model_analyses.specs.DataWrites.{MergesInto}
use Rattle.slotted_model_analyses.specs.Analysis.{Analysis, IsMerge, Absorbs}
use Rattle.slotted_model_analyses.specs.DataPart.{DataPart, DataGoesDown, RestsWithData}
use Rattle.slotted_model_analyses.specs.Carried.{CarriesTo}
use Rattle.slotted_model_analyses.specs.Rounds.{Modify, AddsNodes, Rounds, AddsExpr, still_there, turned_away}
use Rattle.slotted_model_analyses.proofs.Absorbing.{absorbs-then}
use Rattle.slotted_model_analyses.proofs.RoundsAtRest.{nodes-made, rounds-on}

module _ {D : Type 0} (a : Analysis D) (law : IsMerge D a) where
  record HasLed (g : State) (s : DataPart D) (h : State) (t : DataPart D) : Type 0 where
    rest : RestsWithData a h t
    goes_on : GoesOn g h
    classes : DataGoesDown a g s h t

  led-then : (g h k : State) (s t u : DataPart D) → RestsWithData a g s → HasLed g s h t → HasLed h t k u → HasLed g s k u
  led-then g h k s t u x p q = record {
    rest = q.rest;
    goes_on = goes_on-then g h k x.rest.sane.sound.linked p.goes_on q.goes_on;
    classes = λ i l. absorbs-then a law (u.data_of (find_class k.found i)) (t.data_of (find_class h.found i)) (s.data_of (find_class g.found i)) (q.classes i (p.goes_on.classes i l).0) (p.classes i l);
  }

  nodes-led : {g h : State} {s t : DataPart D} → RestsWithData a g s → AddsNodes g h → CarriesTo a g s h t → HasLed g s h t
  nodes-led x n c = record { rest = c.rests; goes_on = (nodes-made x.rest n).goes_on; classes = c.down }

  rounds-led : (modify : Modify D) (limit : ℕ) {g h : State} {s t : DataPart D} → RestsWithData a g s → Rounds a modify limit g s h t → HasLed g s h t
  rounds-led modify limit x r = let m = rounds-on a law modify x r.rounds in record { rest = m.rest; goes_on = m.goes_on; classes = m.classes }

  abbrev IsAnswered : State → DataPart D → DTerm → State → DataPart D → Applied → Type 0
  IsAnswered g s d h t x =
      RestsWithData a h t × GoesOn g h × DataGoesDown a g s h t × (look_up_tree h d ≡ Some x) × IsValidIn h x
      × ((b : Applied) (given : List ℕ) → IsFilling h.nodes given x b → Equal (asserted h.nodes h.proofs) (term_of h.nodes b) d)

  answered-by : (g : State) (s : DataPart D) (d : DTerm) (h : State) (t : DataPart D) (x : Applied) → HasLed g s h t → look_up_tree h d ≡ Some x → IsAnswered g s d h t x
  answered-by g s d h t x l p = (l.rest, l.goes_on, l.classes, p, (tree-equal h l.rest.rest d x p).0, λ b given f. filled-equal h l.rest.rest d x b given p f)

  pub tree-added : (modify : Modify D) (limit : ℕ) (g : State) (s : DataPart D) → RestsWithData a g s → (d : DTerm) (h : State) (t : DataPart D) (x : Applied) → AddsExpr a modify limit g s d h t x → IsAnswered g s d h t x
  tree-added modify limit g s r d h t x (still_there {h = m} {k = k} {t = u} {u = w} n c p rounds q) =
      let l = nodes-led r n c in
      answered-by g s d h t x (led-then g m h s u t r l (rounds-led modify limit l.rest rounds)) q
  tree-added modify limit g s r d h t x (turned_away {h = m} {k = k} {t = u} {u = w} n c p rounds none more again q) =
      let l = nodes-led r n c in
      let b = led-then g m k s u w r l (rounds-led modify limit l.rest rounds) in
      answered-by g s d h t x (led-then g k h s w t r b (nodes-led b.rest more again)) q

  -- a merged value stays through rounds
  pub merged-stays : (modify : Modify D) (limit : ℕ) (g : State) (s : DataPart D) → RestsWithData a g s → (i : ℕ) → i < length g.nodes → (v : D) (h k : State) (t u : DataPart D) →
      MergesInto a g s i v h t → Rounds a modify limit h t k u → RestsWithData a k u × GoesOn g k × Absorbs a (u.data_of (find_class k.found i)) v
  merged-stays modify limit g s x i l v h k t u m r =
      let y = (merging a law g s x i l v).1 h t m in
      let q = rounds-led modify limit y.1 r in (
        q.rest,
        subst (λ f. GoesOn f k) y.0 q.goes_on,
        absorbs-then a law (u.data_of (find_class k.found i)) (t.data_of (find_class h.found i)) v (q.classes i (subst (λ (f : State). i < length f.nodes) (sym y.0) l)) y.2,
      )
