use Rattle.std.proofs.Common.{sym, ap, ◌∙◌, codes}
use Rattle.std.specs.List.{filter, join_by}
use Rattle.std.specs.Str.{bytes_eq}
use Rattle.slotted_signatures.specs.Usage.{Usage}
use Rattle.slotted_signatures.proofs.Lists.{join_by-map}
use Rattle.slotted_signatures.proofs.signatures.Signatures.examples.Goals as goal

pub returns-clause-ok : goal.returns-clause-ok
returns-clause-ok c =
    let sep = codes " or " in
    c.in_ok-join.ensures.ok
    ∙ (ap (join_by (λ t. t.now) sep) c.deref.ensures.value
    ∙ (join_by-map (λ t. t.now) sep c.in_ok-examples.examples.items
    ∙ (ap (join_by (λ t. t) sep) c.in_ok-examples.ensures.ok
    ∙ sym (join_by-map (λ (u : Usage). u.example) sep (filter (λ u. bytes_eq u.word c.args.word.now) c.args.self.now)))))
