use Rattle.std.proofs.Common.{List, get_or, ap, subst, sym, ◌≡◌, ◌∙◌}
use Rattle.slotted_signatures.specs.Usage.{Usage}
use Rattle.slotted_signatures.proofs.NearestWord.{nearest-here, none-near}
use Rattle.slotted_signatures.proofs.signatures.Signatures.nearest.Goals as goal

pub returns-then-index-gt2-clause-none : goal.returns-then-index-gt2-clause-none
returns-then-index-gt2-clause-none c =
    let here = c.index.ensures ∙ ap (λ l. get_or l c.first_least-place.result c.index.result.now) (sym c.deref.ensures.value) in
    none-near c.args.self.now c.args.word.now c.deref.result.now (c.deref.ensures.value ∙ c.in_ok-distances.ensures.ok) c.first_least-place.result c.first_least-place.ensures c.index.result.now here c.if-index-gt2.true

pub returns-clause-some : goal.returns-clause-some
returns-clause-some c =
    let here = c.index.ensures ∙ ap (λ l. get_or l c.first_least-place.result c.index.result.now) (sym c.deref.ensures.value) in
    let u = c.index-2.result.now in
    let is = subst (λ (us : List Usage). u ≡ get_or us c.first_least-place.result u) c.self.view_is c.index-2.ensures in
    nearest-here c.args.self.now c.args.word.now c.deref.result.now (c.deref.ensures.value ∙ c.in_ok-distances.ensures.ok) c.first_least-place.result c.first_least-place.ensures u is c.index.result.now here c.if-index-gt2.false _ (c.in_ok-from_str.ensures.ok ∙ c.word.ensures)
