-- What is filed of the first class that waits, in normal form.
use Rattle.std.proofs.Common.{ℕ, ◌∙◌, ap, sym}
use Rattle.std.specs.Prelude.{option_map}
use Rattle.std.proofs.lemmas.Option.{none-some}
use Rattle.std.proofs.lemmas.Result.{IfOk-weaker}
use Rattle.slotted_hashcons.specs.FoundNodes.{FilesNode, IsFoundNode}
use Rattle.slotted_rebuilding.proofs.NormalNodes.{filed-files, filed-find, first-filed, first-waits, key-large, waiting-within}
use Rattle.slotted_rebuilding.proofs.narrowing.refound.Goals as goal

pub refound_node-requires-clause-children : goal.refound_node-requires-clause-children
refound_node-requires-clause-children g c =
    let form = g.L.LanguageChildren.form in
    filed-find c.args.store.now c.args.nodes.now c.args.class c.requires.good (form c.in-Some.key.now) c.in-Some.names.now (g.met.L.LanguageChildren.fits c.in-Some.key.now)
    (ap (option_map (λ p. (form p.0.now, p.1.now))) (sym c.in-Some.is) ∙ c.node.ensures)

pub returns-clause-ok : goal.returns-clause-ok
returns-clause-ok g c =
    let form = g.L.LanguageChildren.form in
    let k = c.args.store.now in
    let f = form c.in-Some.key.now in
    let m = c.in-Some.names.now in
    IfOk-weaker c.refound_node.result (λ n. (i : ℕ) → FilesNode k i f m → IsFoundNode k i (form n.key) n.names) (λ n. IsFoundNode k c.args.class (form n.key) n.names)
    (λ n h. h c.args.class (filed-files k c.args.nodes.now c.args.class c.requires.good f m (g.met.L.LanguageChildren.fits c.in-Some.key.now) (ap (option_map (λ p. (form p.0.now, p.1.now))) (sym c.in-Some.is) ∙ c.node.ensures)))
    c.refound_node.ensures.ok

pub returns-clause-full : goal.returns-clause-full
returns-clause-full g c h =
    let form = g.L.LanguageChildren.form in
    let k = c.args.store.now in
    let r = c.args.nodes.now in
    key-large k r c.args.class c.requires.good (form c.in-Some.key.now) c.in-Some.names.now (g.met.L.LanguageChildren.fits c.in-Some.key.now)
    (ap (option_map (λ p. (form p.0.now, p.1.now))) (sym c.in-Some.is) ∙ c.node.ensures)
    (waiting-within k r c.args.class c.requires.good (first-waits r c.args.class c.requires.first)) (c.refound_node.ensures.full h)

pub unreachable-requires : goal.unreachable-requires
unreachable-requires g c =
    let form = g.L.LanguageChildren.form in
    let is = first-filed c.args.store.now c.args.nodes.now c.args.class c.requires.good c.requires.first in
    none-some is.0 (ap (option_map (λ p. (form p.0.now, p.1.now))) (sym c.in-None.is) ∙ (c.node.ensures ∙ is.1))
