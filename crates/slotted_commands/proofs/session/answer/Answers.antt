use Rattle.std.proofs.Common.{refl, sym}
use Rattle.slotted_commands.specs.Sessions.{unknown}
use Rattle.slotted_commands.proofs.session.answer.Goals as goal

pub returns-in-Add : goal.returns-in-Add
returns-in-Add g c = rw (c.to_answer.ensures, sym c.in-Add.ensures) c.add.ensures

pub returns-in-Eq : goal.returns-in-Eq
returns-in-Eq g c = rw (c.to_answer-in-Eq.ensures, sym c.in-Eq.ensures) c.compare.ensures

pub returns-in-Unknown : goal.returns-in-Unknown
returns-in-Unknown g c = unknown (sym c.in-Unknown.ensures) refl

pub returns-in-Union : goal.returns-in-Union
returns-in-Union g c = rw (c.to_answer-in-Union.ensures, sym c.in-Union.ensures) c.unite.ensures

pub returns-in-Symmetries : goal.returns-in-Symmetries
returns-in-Symmetries g c = rw (c.to_answer-in-Symmetries.ensures, sym c.in-Symmetries.ensures) c.count_symmetries.ensures

pub returns-in-Explain : goal.returns-in-Explain
returns-in-Explain g c = rw (c.to_answer-in-Explain.ensures, sym c.in-Explain.ensures) c.explain.ensures

pub returns-in-Extract : goal.returns-in-Extract
returns-in-Extract g c = rw (c.to_answer-in-Extract.ensures, sym c.in-Extract.ensures) c.extract.ensures
