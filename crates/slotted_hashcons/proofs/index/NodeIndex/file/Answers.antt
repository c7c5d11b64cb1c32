use Rattle.std.proofs.Common.{◌∙◌, [], List, Option, Some, length, ap, sym, subst, arith}
use Rattle.std.specs.Prelude.{set, slice_index_or}
use Rattle.slotted_hashcons.specs.Filed.{Filing, IsNewKey, filed_of, joined}
use Rattle.slotted_hashcons.proofs.JoinedNames.{length-joined, joined-at, joined-set, new-joined, none-named}
use Rattle.slotted_hashcons.proofs.index.NodeIndex.file.Goals as goal

pub file-requires-clause-within : goal.file-requires-clause-within
file-requires-clause-within g c =
    let within = c.requires.within in
    let count = ap length c.self.view_is in
    let same = length-joined c.self.inside.keys c.self.inside.names c.self.invariant in
    omega (arith, within, count, same)

pub file-requires-clause-free : goal.file-requires-clause-free
file-requires-clause-free g c =
    none-named (slice_index_or c.self.inside.names c.args.class []) (filed_of c.self.inside.keys c.args.class)
    (sym (joined-at c.self.inside.keys c.self.inside.names c.args.class c.self.invariant)
    ∙ ap (λ (v : List (Option Filing)). filed_of v c.args.class) c.self.view_is ∙ c.requires.free)

pub file-requires-clause-new_key : goal.file-requires-clause-new_key
file-requires-clause-new_key g c =
    let f = g.L.LanguageChildren.form c.args.key in
    new-joined c.self.inside.keys c.self.inside.names c.self.invariant f (subst (λ (v : List (Option Filing)). IsNewKey v f) (sym c.self.view_is) c.requires.new_key)

pub put-requires : goal.put-requires
put-requires g c =
    let within = c.requires.within in
    let count = ap length c.self.view_is in
    let same = length-joined c.self.inside.keys c.self.inside.names c.self.invariant in
    let long = c.self.invariant in
    omega (arith, within, count, same, long)

pub returns-clause-ok : goal.returns-clause-ok
returns-clause-ok g c =
    let f = g.L.LanguageChildren.form c.args.key in
    (λ i. joined (c.in_ok-file.ensures.ok i) (c.put.ensures i))
    ∙ joined-set c.self.inside.keys c.self.inside.names c.args.class (Some (f, [])) c.args.names c.self.invariant
    ∙ ap (λ (v : List (Option Filing)). set v c.args.class (Some (f, c.args.names))) c.self.view_is
