-- Each branch does what its reading says.
use Rattle.std.proofs.Common.{sym, ◌∙◌}
use Rattle.slotted_slots.proofs.NamingLaws.{named_of-number, named_of-fresh, named_of-word, reading_of-word, Follows-numeric}
use Rattle.slotted_slots.proofs.slot.SlotTable.make_named.Goals as goal

pub returns-in-Some-clause-follows : goal.returns-in-Some-clause-follows
returns-in-Some-clause-follows c =
    rw (named_of-number _ _ _ (sym c.read_u32.ensures ∙ c.in-Some.is)) (Follows-numeric _ _ _ c.numeric.ensures.slot c.numeric.ensures.large c.numeric.ensures.only)

pub returns-in-Some-read_fresh-clause-follows : goal.returns-in-Some-read_fresh-clause-follows
returns-in-Some-read_fresh-clause-follows c =
    rw (named_of-fresh _ _ _ (sym c.read_u32.ensures ∙ c.in-None.is) (sym c.read_fresh.ensures ∙ c.in-Some-read_fresh.is)) c.fresh_at.ensures.follows

pub keep_name-requires : goal.keep_name-requires
keep_name-requires c = reading_of-word _ (sym c.read_u32.ensures ∙ c.in-None.is) (sym c.read_fresh.ensures ∙ c.in-None-read_fresh.is)

pub returns-in-None-read_fresh-clause-follows : goal.returns-in-None-read_fresh-clause-follows
returns-in-None-read_fresh-clause-follows c =
    let word = reading_of-word _ (sym c.read_u32.ensures ∙ c.in-None.is) (sym c.read_fresh.ensures ∙ c.in-None-read_fresh.is) in
    rw (named_of-word _ _ word) c.keep_name.ensures.follows

pub returns-in-None-read_fresh-clause-memory : goal.returns-in-None-read_fresh-clause-memory
returns-in-None-read_fresh-clause-memory c =
    λ e. (reading_of-word _ (sym c.read_u32.ensures ∙ c.in-None.is) (sym c.read_fresh.ensures ∙ c.in-None-read_fresh.is), c.keep_name.ensures.memory e)
