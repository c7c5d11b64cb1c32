-- A text that has no `f` to take off begins with another byte, or is empty.
use Rattle.std.proofs.Common.{sym, arith, None}
use Rattle.std.proofs.lemmas.Str.Pattern.{strip_prefix_char}
use Rattle.slotted_slots.proofs.NamingLaws.{reads_fresh-none}
use Rattle.slotted_slots.proofs.slot.read_fresh.Goals as goal

pub returns-in-None : goal.returns-in-None
returns-in-None c = sym (reads_fresh-none c.args.s.now (strip_prefix_char 102 c.args.s.now None c.in-None.ensures.cases (omega arith)))
