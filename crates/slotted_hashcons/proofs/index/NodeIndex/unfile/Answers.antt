use Rattle.std.proofs.Common.{◌∙◌, List, Option, None, length, ap, arith}
use Rattle.std.specs.Prelude.{set}
use Rattle.slotted_hashcons.specs.Filed.{Filing, joined}
use Rattle.slotted_hashcons.proofs.JoinedNames.{length-joined, joined-none}
use Rattle.slotted_hashcons.proofs.index.NodeIndex.unfile.Goals as goal

pub unfile-requires : goal.unfile-requires
unfile-requires g c =
    let within = c.requires in
    let count = ap length c.self.view_is in
    let same = length-joined c.self.inside.keys c.self.inside.names c.self.invariant in
    omega (arith, within, count, same)

pub returns : goal.returns
returns g c =
    ap (λ ks. joined ks c.self.inside.names) c.unfile.ensures
    ∙ joined-none c.self.inside.keys c.self.inside.names c.args.class c.self.invariant
    ∙ ap (λ (v : List (Option Filing)). set v c.args.class None) c.self.view_is
