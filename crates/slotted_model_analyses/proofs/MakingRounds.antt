-- Where an analysis asks for trees alone, its edits can be made, and there are rounds for each limit.
use Rattle.std.proofs.Common.{◌≡◌, ℕ, zero, suc, ◌+◌, ◌<◌, List, [], ◌∷◌, Bool, length, refl, inl, inr, arith}
use Rattle.std.specs.Prelude.{Contains, nat_eq, filter}
use Rattle.std.proofs.lemmas.Bool.{cases_eq, eq-eqb, eqb-true}
use Rattle.slotted_lists.proofs.Contained.{contains_head, contains_tail}
use Rattle.slotted_lists.proofs.Members.{In-Contains, Contains-In}
use Rattle.slotted_model.specs.Ascending.{ascending}
use Rattle.slotted_model.specs.Applied.{Applied, values}
use Rattle.slotted_model.specs.Correspondence.{identity}
use Rattle.slotted_model.specs.Find.{entry_at, IsLive, used_slots}
use Rattle.slotted_model.specs.State.{State}
use Rattle.slotted_model.specs.Rest.{IsValidIn}
use Rattle.slotted_model.proofs.Rebuilding.Ending.{one-or-none}
use Rattle.slotted_model.proofs.Represented.Fillings.{a_filling}
use Rattle.slotted_model.proofs.Rebuilding.GoingOn.{used-valid}
use Rattle.slotted_model.proofs.Rebuilding.Refiling.{filter-keeps, filter-from}
use Rattle.slotted_model.proofs.Data.Sets.{IsAscending-ascending, In-ascending, In-of_ascending}
use Rattle.slotted_model_analyses.specs.Analysis.{Analysis, IsMerge}
use Rattle.slotted_model_analyses.specs.DataPart.{DataPart, RestsWithData}
use Rattle.slotted_model_analyses.specs.Rounds.{Edit, adds, equals, equates, Modify, Answers, IsOfTrees, AnswersTrees, MakesEdit, makes_add, makes_equal, makes_equate, MakesEdits, all_made, then_edit, Modifies, all_modified, modified, passed_over, TakesRound, TakesRounds, no_rounds, one_round, Rounds}
use Rattle.slotted_model_analyses.specs.Steps.{IsInSteps, AreInSteps, ModifiesAs, RoundsAs}
use Rattle.slotted_model_analyses.proofs.AddingTrees.{tree-there}
use Rattle.slotted_model_analyses.proofs.CarriedSteps.{asserting-carried}
use Rattle.slotted_model_analyses.proofs.RoundsAtRest.{nodes-made, edit-made, edits-made, cleared, round-on}
use Rattle.slotted_model_analyses.proofs.Writing.{asserting}

module _ {D : Type 0} (a : Analysis D) (law : IsMerge D a) where
  edit-there : (g : State) (s : DataPart D) → RestsWithData a g s → (c : ℕ) (slots : List ℕ) → IsValidIn g (c, identity slots) → (e : Edit) → IsOfTrees e →
      (h : State) × (t : DataPart D) × (m : MakesEdit a g s c slots e h t) × IsInSteps m
  edit-there g s x c slots valid (adds d) tree = let r = tree-there a law g s x d tree in (r.0, r.1, makes_add d r.3, r.4)
  edit-there g s x c slots valid (equals d) tree =
      let r = tree-there a law g s x d tree in
      let n = nodes-made x.rest r.3.nodes in
      let b : Applied = r.2 in
      let v : IsValidIn r.0 (c, identity slots) = (n.goes_on.finds (c, identity slots) valid).0 in
      let f = a_filling r.0.nodes (used_slots r.0.found) (values b.1) (c, identity slots) v in
      let z = (asserting a law r.0 r.1 r.3.carries.rests f.0 b f.1.full r.3.full).0 in
      let w = asserting-carried a law r.0 r.1 r.3.carries.rests z.0 z.1 f.0 b f.1.full r.3.full z.2 in
      (z.0, z.1, makes_equal d r.3 f.1 w.0 w.1, (r.4, z.2))
  edit-there g s x c slots valid (equates d e) trees =
      let r = tree-there a law g s x d trees.0 in
      let n = nodes-made x.rest r.3.nodes in
      let q = tree-there a law r.0 r.1 r.3.carries.rests e trees.1 in
      let m = nodes-made n.rest q.3.nodes in
      let full = (m.terms r.2 r.3.full).0 in
      let z = (asserting a law q.0 q.1 q.3.carries.rests r.2 q.2 full q.3.full).0 in
      let w = asserting-carried a law q.0 q.1 q.3.carries.rests z.0 z.1 r.2 q.2 full q.3.full z.2 in
      (z.0, z.1, makes_equate {h = r.0} {k = q.0} {l = z.0} {t = r.1} {u = q.1} {v = z.1} {b = r.2} {x = q.2} d e r.3 q.3 w.0 w.1, (r.4, q.4, z.2))

  pub class-edit : (g : State) (s : DataPart D) → RestsWithData a g s → (c : ℕ) → c < length g.nodes → (e : Edit) → IsOfTrees e →
      (h : State) × (t : DataPart D) × (m : MakesEdit a g s c (used_slots g.found c) e h t) × IsInSteps m
  class-edit g s x c l e trees = edit-there g s x c (used_slots g.found c) (used-valid g x.rest.sane.sound.linked c l) e trees

  edits-there : (c : ℕ) (slots : List ℕ) (es : List Edit) → ((e : Edit) → Contains es e → IsOfTrees e) → (g : State) (s : DataPart D) → RestsWithData a g s → IsValidIn g (c, identity slots) →
      (h : State) × (t : DataPart D) × (m : MakesEdits a c slots g s es h t) × AreInSteps m
  edits-there c slots [] trees g s x valid = (g, s, all_made, tt)
  edits-there c slots (e ∷ es) trees g s x valid =
      let r = edit-there g s x c slots valid e (trees e (contains_head e es)) in
      let p = (edit-made a law g s x c slots r.2).0 in
      let q = edits-there c slots es (λ f k. trees f (contains_tail e es f k)) r.0 r.1 p.carries.rests (p.goes_on.finds (c, identity slots) valid).0 in
      (q.0, q.1, then_edit r.2 q.2, (r.3, q.3))

  module _ (modify : Modify D) (answers : Answers D) (trees : AnswersTrees modify answers) where
    modifies-there : (cs : List ℕ) (g : State) (s : DataPart D) → RestsWithData a g s → ((c : ℕ) → Contains cs c → c < length g.nodes) →
        (h : State) × (t : DataPart D) × (m : Modifies a modify g s cs h t) × ModifiesAs answers m
    modifies-there [] g s x range = (g, s, all_modified, tt)
    modifies-there (c ∷ cs) g s x range = elim (cases_eq (entry_at g.found c).class c) [
      | inl lives ↦
          let l : c < length g.nodes = range c (contains_head c cs) in
          let slots : List ℕ = used_slots g.found c in
          let es : List Edit = answers (s.data_of c) slots in
          let r = edits-there c slots es (λ e k. (trees (s.data_of c) slots e k).1) g s x (used-valid g x.rest.sane.sound.linked c l) in
          let p = (edits-made a law c slots x r.2).0 in
          let q = modifies-there cs r.0 r.1 p.carries.rests (λ i k. (p.goes_on.classes i (range i (contains_tail c cs i k))).0) in
          (q.0, q.1, modified l lives (λ e k. (trees (s.data_of c) slots e k).0) r.2 q.2, (refl, r.3, q.3))
      | inr dead ↦
          let q = modifies-there cs g s x (λ i k. range i (contains_tail c cs i k)) in
          (q.0, q.1, passed_over dead q.2, q.3)
    ]

    lives_test : State → ℕ → Bool
    lives_test g c = nat_eq (entry_at g.found c).class c

    round-there : (g : State) (s : DataPart D) → RestsWithData a g s → (h : State) × (t : DataPart D) × (r : TakesRound a modify g s h t) × ModifiesAs answers r.modifies
    unfolding lives_test
    round-there g s x =
        let live : List ℕ = filter (lives_test g) s.changed in
        let order : List ℕ = ascending live in
        let of : (c : ℕ) → Contains order c → Contains s.changed c × IsLive g.found c =
        λ c k.
        let r = filter-from (lives_test g) s.changed c (Contains-In live c (In-of_ascending c live (In-Contains order c k))) in
        (r.0, eqb-true (entry_at g.found c).class c r.1) in
        let there : (c : ℕ) → Contains s.changed c × IsLive g.found c → Contains order c =
        λ c k. Contains-In order c (In-ascending c live (In-Contains live c (filter-keeps (lives_test g) s.changed c k.0 (eq-eqb (entry_at g.found c).class c k.1)))) in
        let q = modifies-there order g (record s { changed = [] }) (cleared a law modify g s x) (λ c k. x.has.changed_in_range c (of c k).0) in
        (q.0, q.1, record { order = order; ascending = IsAscending-ascending live; waiting = λ c. (of c, there c); modifies = q.2 }, q.3)

    rounds-from : (g : State) (s : DataPart D) (limit left taken : ℕ) (h : State) (t : DataPart D) (r : TakesRounds a modify g s taken h t) → RoundsAs answers r → RestsWithData a h t → taken + left ≡ limit →
        (k : State) × (u : DataPart D) × (r : Rounds a modify limit g s k u) × RoundsAs answers r.rounds
    rounds-from g s limit zero taken h t r exact x e = (h, t, record { taken = taken; within = omega arith; rounds = r; ends = inl (omega arith) }, exact)
    rounds-from g s limit (suc left) taken h t r exact x e = elim (one-or-none (λ c. IsLive h.found c) (λ c. cases_eq (entry_at h.found c).class c) t.changed) [
      | inl c ↦
          let q = round-there h t x in
          rounds-from g s limit left (suc taken) q.0 q.1 (one_round r c.0 c.1 c.2 q.2) (exact, q.3) (round-on a law modify h t x q.0 q.1 q.2).0.carries.rests (omega arith)
      | inr none ↦ (h, t, record { taken = taken; within = omega arith; rounds = r; ends = inr none }, exact)
    ]

    pub rounds-there : (g : State) (s : DataPart D) → RestsWithData a g s → (limit : ℕ) → (h : State) × (t : DataPart D) × (r : Rounds a modify limit g s h t) × RoundsAs answers r.rounds
    rounds-there g s x limit = rounds-from g s limit limit 0 g s no_rounds tt x (omega arith)
