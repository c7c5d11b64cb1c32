use Rattle.slotted_hashcons.proofs.Together.{UsedSoFar}
use Rattle.slotted_hashcons.proofs.hashcons.use_children.Given as goal

-- the source stands over the classes of the children so far
abbrev pub invariant-loop-k : goal.invariant-loop-k
invariant-loop-k g l = UsedSoFar l.fn.usages l.usages (g.L.LanguageChildren.form l.node) l.source l.k
