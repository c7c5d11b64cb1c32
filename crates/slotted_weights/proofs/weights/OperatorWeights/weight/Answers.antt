use Rattle.std.specs.Prelude.{◌≡◌, ℕ, List, length, get_or}
use Rattle.std.proofs.Common.{ap, sym, arith}
use Rattle.slotted_weights.proofs.Places.{place-within, weight-found, weight-unset}
use Rattle.slotted_weights.proofs.weights.OperatorWeights.weight.Goals as goal

pub index-requires : goal.index-requires
index-requires c =
    let same : length c.self.inside.items.items ≡ length c.args.self.now = ap (λ (l : List (List ℕ × ℕ)). length l) c.self.view_is in
    omega (arith, place-within c.args.self.now c.args.word.now c.in-Some.i (sym c.in-Some.ensures), same, c.self.inside.items.ok)

pub returns-in-Some : goal.returns-in-Some
returns-in-Some c =
    let x = c.index.result.now in
    let at : x ≡ get_or c.args.self.now c.in-Some.i x = (let p = c.index.ensures in cc) in
    weight-found c.args.self.now c.args.word.now c.in-Some.i (sym c.in-Some.ensures) x at

pub returns-in-None : goal.returns-in-None
returns-in-None c = weight-unset c.args.self.now c.args.word.now (sym c.in-None.ensures)
