use Rattle.std.specs.Prelude.{◌≡◌, ◌∷◌, ◌++◌, [], ℕ, List, length, set, get_or}
use Rattle.std.proofs.Common.{ap, ◌∙◌, sym, arith}
use Rattle.slotted_weights.specs.OperatorWeights.{weight_of}
use Rattle.slotted_weights.proofs.Places.{place-within, weight-replaced, weight-added, weight-new, weight-other}
use Rattle.slotted_weights.proofs.weights.OperatorWeights.set.Goals.{in-Some, in-None+in_ok-from_text-in-None+in_ok-push-in-None}
use Rattle.slotted_weights.proofs.weights.OperatorWeights.set.Goals as goal

pub index_mut-requires : goal.index_mut-requires
index_mut-requires c =
    let same : length c.self.inside.items.items ≡ length c.args.self.now = ap (λ (l : List (List ℕ × ℕ)). length l) c.self.view_is in
    omega (arith, place-within c.args.self.now c.args.word.now c.in-Some.i (sym c.in-Some.ensures), same, c.self.inside.items.ok)

pub returns-clause-list : goal.returns-clause-list
returns-clause-list c =
    let view : c.self.inside.items.items ≡ c.args.self.now = c.self.view_is in
    elim c.match-place.branch [
      | in-Some w ↦
          let x = w.index_mut.result.now in
          w.self-is
          ∙ (ap (λ l. set l w.in-Some.i (x.0, c.args.weight)) view
          ∙ weight-replaced c.args.self.now c.args.word.now c.args.weight w.in-Some.i (sym w.in-Some.ensures) x
          (w.index_mut.ensures.value ∙ ap (λ l. get_or l w.in-Some.i x) view))
      | in-None+in_ok-from_text-in-None+in_ok-push-in-None w ↦
          w.self-is
          ∙ (w.in_ok-push-in-None.ensures.items
          ∙ (ap (λ (v : List ℕ). c.self.inside.items.items ++ (v, c.args.weight) ∷ []) w.in_ok-from_text-in-None.ensures.ok
          ∙ (ap (λ l. l ++ (c.args.word.now, c.args.weight) ∷ []) view
          ∙ weight-added c.args.self.now c.args.word.now c.args.weight (sym w.in-None.ensures))))
    ]

pub returns-clause-word : goal.returns-clause-word
returns-clause-word c =
    ap (λ l. weight_of l c.args.word.now) (returns-clause-list c) ∙ weight-new c.args.self.now c.args.word.now c.args.weight

pub returns-clause-others : goal.returns-clause-others
returns-clause-others c v h =
    ap (λ l. weight_of l v) (returns-clause-list c) ∙ weight-other c.args.self.now c.args.word.now c.args.weight v h
