-- An answer leaves a graph that has not failed, in which each match of each rule was applied.
use Rattle.std.proofs.Common.{◌≡◌, ◌∙◌, sym}
use Rattle.std.proofs.lemmas.Bool.{false≢true}
use Rattle.std.specs.Prelude.{true}
use Rattle.slotted_lists.proofs.Booleans.{unless-true}
use Rattle.slotted_egraphs.specs.Graph.{Graph}
use Rattle.slotted_egraphs.proofs.EqualInstances.{rules-applied}
use Rattle.slotted_egraphs.proofs.example.apply_once.Goals as goal

pub returns : goal.returns
returns g c =
    let h : Graph = c.apply_rewrites.new.graph in
    rules-applied g.L.LanguageChildren.form (λ a s m y. y ≡ true) (λ a s m e. false≢true e) c.args.rules.now c.args.graph.now h
    (unless-true h.failed (sym c.is_failed.ensures.failed ∙ c.if-is_failed.false) c.is_failed.ensures.rests) c.in_ok-changed.ensures.rules
