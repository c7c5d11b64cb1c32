use Rattle.std.proofs.Common.{◌∙◌, ap, sym}
use Rattle.std.proofs.lemmas.Bool.{false≢true}
use Rattle.slotted_model.specs.Applied.{Applied}
use Rattle.slotted_proofs.specs.Equations.{to_applied}
use Rattle.slotted_rebuilding.proofs.ShortPaths.{found-differs, once-live, shortened-after, shortens-same}
use Rattle.slotted_rebuilding.proofs.unions.shortening.shorten.Goals as goal

pub returns-then-leads_at_once-clause-ok : goal.returns-then-leads_at_once-clause-ok
returns-then-leads_at_once-clause-ok g c =
    record { shortens = shortens-same c.args.store.now c.requires.good; at_once = c.leads_at_once.ensures.0 c.if-leads_at_once.true }

pub set_shortcut-requires-clause-different : goal.set_shortcut-requires-clause-different
set_shortcut-requires-clause-different g c e =
    let k = c.args.store.now in
    let dead = once-live k c.args.id (λ l. false≢true (sym c.if-leads_at_once.false ∙ c.leads_at_once.ensures.1 l)) in
    found-differs k c.requires.good c.args.id c.requires.within dead
    (sym (ap (λ (a : Applied). a.0) c.in_ok-find.ensures.ok) ∙ e)

pub returns-clause-ok : goal.returns-clause-ok
returns-clause-ok g c =
    let k = c.args.store.now in
    let l = c.find_proof.new.store in
    let dead = once-live k c.args.id (λ l. false≢true (sym c.if-leads_at_once.false ∙ c.leads_at_once.ensures.1 l)) in
    shortened-after k c.requires.good c.args.id c.requires.within dead l c.in_ok-proof.proof c.in_ok-proof.ensures.ok
    (to_applied c.in_ok-find.find) c.in_ok-find.ensures.ok c.set_shortcut.new.self c.set_shortcut.ensures
