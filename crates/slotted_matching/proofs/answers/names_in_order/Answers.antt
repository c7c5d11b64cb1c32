use Rattle.std.proofs.Common.{◌++◌, ap, sym, ◌∙◌, map, List}
use Rattle.std.specs.Prelude.{String, string_bytes}
use Rattle.std.specs.declared.alloc.Global.{Global}
use Rattle.std.proofs.lemmas.List.{append-nil}
use Rattle.slotted_matching.proofs.NumberedNames.{names-of}
use Rattle.slotted_matching.proofs.answers.names_in_order.Goals as goal

pub returns-clause-ok : goal.returns-clause-ok
returns-clause-ok c =
    let done = map string_bytes c.loop-name.names.items in
    sym (append-nil done)
    ∙ (ap (λ (ks : List (String Global)). done ++ map string_bytes ks) (sym c.in-None.ensures.steps.0)
    ∙ (c.loop-name.invariant ∙ names-of c.args.numbers.now.entries))
