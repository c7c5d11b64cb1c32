-- The shape of the node itself where it is in normal form, and else that of a copy which is.
use Rattle.std.proofs.Common.{rules, arith, sym}
use Rattle.slotted_lookup.proofs.lookup.normal_shape.Goals as goal

pub returns-then-is_normal-clause-ok : goal.returns-then-is_normal-clause-ok
returns-then-is_normal-clause-ok g c = record {
  node = g.L.LanguageChildren.form c.args.node.now;
  fits = g.met.L.LanguageChildren.fits c.args.node.now;
  normal = sym (c.is_normal.ensures c.if-is_normal.true);
  shape = c.in_ok-own.ensures.shape;
}

pub returns-clause-ok : goal.returns-clause-ok
returns-clause-ok g c = record {
  node = g.L.LanguageChildren.form c.in_ok-normal.normal;
  fits = g.met.L.LanguageChildren.fits c.in_ok-normal.normal;
  normal = c.in_ok-normal.ensures.normal;
  shape = c.in_ok-shape.ensures.shape;
}

pub returns-in_err-shape-clause-full : goal.returns-in_err-shape-clause-full
returns-in_err-shape-clause-full g c e =
    let h = c.in_err-shape.ensures.full.0 (search rules) in
    omega (arith, h, c.in_ok-normal.ensures.places)
