use Rattle.std.proofs.Common.{rules, subst, sym}
use Rattle.slotted_rebuilding.specs.Shortcuts.{Shortens}
use Rattle.slotted_rebuilding.proofs.ShortPaths.{large-before, shortens-same, shortens-then}
use Rattle.slotted_rebuilding.proofs.unions.shortening.shorten_each.Goals as goal
use Rattle.slotted_rebuilding.proofs.unions.shortening.shorten_each.Goals.{then-id-class_count+in_ok-shorten, else-id-class_count}

pub loop-id-init : goal.loop-id-init
loop-id-init g c = shortens-same c.args.store.now c.requires.good

pub loop-id-preserved : goal.loop-id-preserved
loop-id-preserved g c = elim c.if-id-class_count.branch [
  | then-id-class_count+in_ok-shorten w ↦
      subst (Shortens c.args.store.now) (sym w.store-is)
      (shortens-then c.args.store.now c.loop-id.store w.shorten.new.store c.loop-id.invariant w.in_ok-shorten.ensures.ok.shortens)
  | else-id-class_count w ↦ subst (Shortens c.args.store.now) (sym w.store-is) c.loop-id.invariant
]

pub returns-in_err-shorten-clause-full : goal.returns-in_err-shorten-clause-full
returns-in_err-shorten-clause-full g c e =
    large-before c.args.store.now c.loop-id.store c.loop-id.invariant _ _ (c.in_err-shorten.ensures.full (search rules))
