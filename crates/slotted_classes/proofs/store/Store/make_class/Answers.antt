use Rattle.std.proofs.Common.{length, ap, sym, subst, arith, rules}
use Rattle.slotted_theory.specs.FiniteMaps.{IsInjectiveMap}
use Rattle.slotted_classes.proofs.DistinctValues.{between_itself-differs, length-between_itself}
use Rattle.slotted_classes.proofs.store.Store.make_class.Goals as goal

pub enter_reflexive-requires : goal.enter_reflexive-requires
enter_reflexive-requires g c = subst IsInjectiveMap (sym c.in_ok-map_between.ensures.ok) (between_itself-differs c.args.slots)

pub returns-in_err-proof-clause-full : goal.returns-in_err-proof-clause-full
returns-in_err-proof-clause-full g c e =
    omega (arith, c.in_err-proof.ensures.full.0 (search rules), ap length c.in_ok-map_between.ensures.ok, length-between_itself c.args.slots c.requires.different)
