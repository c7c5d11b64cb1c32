use Rattle.std.proofs.Common.{take}
use Rattle.slotted_hashcons.specs.FiledRows.{key_children}
use Rattle.slotted_data.specs.Users.{EntersChildren}
use Rattle.slotted_data.proofs.users.enter_class.Given as goal

-- the class is among the users of what its first children find
abbrev pub invariant-loop-k : goal.invariant-loop-k
invariant-loop-k g l = EntersChildren l.store l.class (take l.k (key_children (g.L.LanguageChildren.form l.node))) l.fn.nodes l.nodes l.fn.data l.data
