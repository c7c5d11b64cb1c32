-- In a small node the end of a scope is what the call answers.
use Rattle.std.proofs.Common.{◌∙◌, sym}
use Rattle.slotted_nodes.specs.Form.{scopes}
use Rattle.slotted_nodes.specs.SmallForms.{small_end}
use Rattle.slotted_outlines.proofs.Opened.{open_before, open_none}
use Rattle.slotted_outlines.proofs.outlines.Outlines.is_open.Goals as goal

pub returns-in-Some : goal.returns-in-Some
returns-in-Some g c =
    let f = g.L.LanguageChildren.form c.args.self.now.one in
    let fits = g.met.L.LanguageChildren.fits c.args.self.now.one in
    open_before (scopes f.tree) c.args.i c.args.at c.in-Some.end (c.in-Some.ensures ∙ small_end f c.args.i fits c.requires.small)

pub returns-in-None : goal.returns-in-None
returns-in-None g c =
    let f = g.L.LanguageChildren.form c.args.self.now.one in
    let fits = g.met.L.LanguageChildren.fits c.args.self.now.one in
    open_none (scopes f.tree) c.args.i c.args.at (c.in-None.ensures ∙ small_end f c.args.i fits c.requires.small)
