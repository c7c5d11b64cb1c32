-- Data that goes along with each step of a write is carried, and what is carried can be carried on.
use Rattle.std.proofs.Common.{◌≡◌, ℕ, ◌<◌, length, sym, ◌∙◌, ap, refl, subst, inl, inr, arith}
use Rattle.slotted_theory.specs.Nameless.{DTerm}
use Rattle.slotted_model.specs.Applied.{Applied}
use Rattle.slotted_model.specs.Classes.{IsFull}
use Rattle.slotted_model.specs.Find.{find_class}
use Rattle.slotted_model.specs.Growth.{IsNew}
use Rattle.slotted_model.specs.State.{State}
use Rattle.slotted_model.specs.Changes.{GoesOn}
use Rattle.slotted_model.specs.Adding.{Adds, HasAdded, Asserts, HasAsserted}
use Rattle.slotted_model.proofs.Rebuilding.Adding.{adds}
use Rattle.slotted_model.proofs.Rebuilding.Asserting.{asserts}
use Rattle.slotted_model.proofs.Rebuilding.GoingOn.{goes_on-same, goes_on-then}
use Rattle.slotted_model_analyses.specs.Analysis.{Analysis, IsMerge}
use Rattle.slotted_model_analyses.specs.DataPart.{DataPart, GoesDown, DataGoesDown, RestsWithData}
use Rattle.slotted_model_analyses.specs.DataWrites.{MergesInto, AddsWithData, AssertsWithData, HasNotedAll}
use Rattle.slotted_model_analyses.specs.Carried.{CarriesTo}
use Rattle.slotted_model_analyses.specs.Rounds.{AddsNodes, no_more, one_more}
use Rattle.slotted_model_analyses.specs.Steps.{AddsNodesWithData, none_more, then_one}
use Rattle.slotted_model_analyses.proofs.Absorbing.{absorbs-same, absorbs-then}
use Rattle.slotted_model_analyses.proofs.Writing.{adding, asserting, merging}

module _ {D : Type 0} (a : Analysis D) (law : IsMerge D a) where
  pub carried-same : (g : State) (s : DataPart D) → RestsWithData a g s → CarriesTo a g s g s
  carried-same g s x = record {
    rests = x;
    down = λ i l. absorbs-same a law (s.data_of (find_class g.found i));
    noted = record { kept = λ i c. c; noted = λ i l n. (l, refl) };
  }

  pub carried-then : (g h k : State) (s t u : DataPart D) → GoesOn g h → CarriesTo a g s h t → CarriesTo a h t k u → CarriesTo a g s k u
  carried-then g h k s t u on p q = record {
    rests = q.rests;
    down = λ i l. absorbs-then a law (u.data_of (find_class k.found i)) (t.data_of (find_class h.found i)) (s.data_of (find_class g.found i)) (q.down i (on.classes i l).0) (p.down i l);
    noted = record {
      kept = λ i c. q.noted.kept i (p.noted.kept i c);
      noted = λ i l n.
          let y = q.noted.noted i l n in
          let z = p.noted.noted i y.0 (λ c. n (q.noted.kept i c)) in
          (z.0, y.1 ∙ z.1);
    };
  }

  -- where the classes are the same, all that has changed waits to be modified
  pub noted-down : (g : State) (s : DataPart D) (h : State) (t : DataPart D) → length h.nodes ≡ length g.nodes → GoesDown a s t → HasNotedAll g s h t
  noted-down g s h t e down = record {
    kept = down.kept;
    noted = λ i l n. (
      omega arith,
      elim (law.decided (t.data_of i) (s.data_of i)) [
        | inl p ↦ p
        | inr m ↦ absurd (n (down.noted i m))
      ],
    );
  }

  pub adding-carried : (g : State) (s : DataPart D) → RestsWithData a g s → (h : State) (t : DataPart D) (c : DTerm) → IsNew g.nodes c → AddsWithData a g s c h t → Adds g c h × CarriesTo a g s h t
  adding-carried g s x h t c new add =
      let z = (adding a law g s x c new).1 h t add in
      (z.0, record { rests = z.1; down = z.2; noted = z.5 })

  pub asserting-carried : (g : State) (s : DataPart D) → RestsWithData a g s → (h : State) (t : DataPart D) (x y : Applied) → IsFull g.nodes x → IsFull g.nodes y → AssertsWithData a g s x y h t →
      Asserts g x y h × CarriesTo a g s h t
  asserting-carried g s r h t x y fx fy w =
      let z = (asserting a law g s r x y fx fy).1 h t w in
      let v : HasAsserted g x y h = asserts g r.rest x y fx fy h z.0 in
      (z.0, record { rests = z.1; down = z.2; noted = noted-down g s h t (ap length v.same_nodes) z.3 })

  pub merging-carried : (g : State) (s : DataPart D) → RestsWithData a g s → (h : State) (t : DataPart D) (i : ℕ) → i < length g.nodes → (v : D) → MergesInto a g s i v h t → (h ≡ g) × CarriesTo a g s h t
  merging-carried g s x h t i l v m =
      let z = (merging a law g s x i l v).1 h t m in (
        z.0,
        record {
          rests = z.1;
          down = subst (λ (f : State). DataGoesDown a g s f t) (sym z.0) (λ j k. z.3.lower (find_class g.found j));
          noted = noted-down g s h t (ap (λ (f : State). length f.nodes) z.0) z.3;
        },
      )

  pub record HasCarriedNodes (g : State) (s : DataPart D) (h : State) (t : DataPart D) : Type 0 where
    pub nodes : AddsNodes g h
    pub goes_on : GoesOn g h
    pub carries : CarriesTo a g s h t

  pub nodes-carried : {g : State} {s : DataPart D} {h : State} {t : DataPart D} → RestsWithData a g s → AddsNodesWithData a g s h t → HasCarriedNodes g s h t
  nodes-carried {g} {s} x none_more = record { nodes = no_more; goes_on = goes_on-same g x.rest.sane.sound.linked; carries = carried-same g s x }
  nodes-carried {g} {s} x (then_one {h = h} {k = k} {t = t} {u = u} c r new add) =
      let y : HasCarriedNodes g s h t = nodes-carried x r in
      let z = adding-carried h t y.carries.rests k u c new add in
      let w : HasAdded h c k = adds h y.carries.rests.rest c new k z.0 in
      record {
        nodes = one_more c y.nodes new z.0;
        goes_on = goes_on-then g h k x.rest.sane.sound.linked y.goes_on w.goes_on;
        carries = carried-then g h k s t u y.goes_on y.carries z.1;
      }
