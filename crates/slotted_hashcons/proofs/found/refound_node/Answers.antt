-- The key in normal form, its shape, and the slots of the class at its numbers.
use Rattle.std.proofs.Common.{rules, sym, subst, arith}
use Rattle.slotted_hashcons.specs.FoundNodes.{IsFoundNode}
use Rattle.slotted_hashcons.proofs.KeyedNodes.{refound}
use Rattle.slotted_hashcons.proofs.found.refound_node.Goals as goal

pub returns-clause-ok : goal.returns-clause-ok
returns-clause-ok g c i files =
    let form = g.L.LanguageChildren.form in
    let fits = g.met.L.LanguageChildren.fits in
    let k = c.args.store.now in
    let n = c.in_ok-normal.normal in
    subst (IsFoundNode k i (form c.in_ok-key.key)) (sym c.in_ok-names.ensures.ok)
    (refound k (form c.args.key.now) (fits c.args.key.now) c.requires.children i c.args.names.now files (form n) c.in_ok-normal.ensures.normal
    (form c.in_ok-key.key) c.in_ok-key.numbers (fits n) (fits c.in_ok-key.key) c.in_ok-key.ensures.shape)

pub returns-in_err-key-clause-full : goal.returns-in_err-key-clause-full
returns-in_err-key-clause-full g c e =
    let h = c.in_err-key.ensures.full.0 (search rules) in
    omega (arith, h, c.in_ok-normal.ensures.places)
