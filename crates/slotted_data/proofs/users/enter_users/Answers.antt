use Rattle.std.proofs.Common.{◌≡◌, length, sym, ◌∙◌, ap, subst, arith}
use Rattle.slotted_data.specs.Users.{EntersUsers}
use Rattle.slotted_data.proofs.Entering.{users-none, users-next, users-counted}
use Rattle.slotted_data.proofs.users.enter_users.Goals as goal

pub loop-class-init : goal.loop-class-init
loop-class-init g c =
    let e = c.entered-class.ensures in
    let n = c.class_count-class-end.ensures in
    let w = c.requires.within in
    record {
      enters = subst (λ m. EntersUsers c.args.store.now c.args.data.now.entered m c.args.nodes.now c.args.nodes.now c.args.data.now c.args.data.now) (sym e)
          (users-none c.args.store.now c.args.data.now.entered c.args.nodes.now c.args.data.now);
      from = omega (arith, e);
      within = omega (arith, e, n, w);
    }

pub enter_class-requires-clause-count : goal.enter_class-requires-clause-count
enter_class-requires-clause-count g c = ap length c.loop-class.invariant.enters.same.values ∙ c.requires.count

pub loop-class-preserved : goal.loop-class-preserved
loop-class-preserved g c =
    let inv = c.loop-class.invariant in
    record {
      enters = users-next c.args.store.now c.args.data.now.entered c.args.nodes.now c.args.data.now c.loop-class.class c.loop-class.nodes c.enter_class.new.nodes c.loop-class.data c.enter_class.new.data inv.from inv.enters c.in_ok-enter_class.ensures.ok;
      from = let l = inv.from in omega (arith, l);
      within = omega (arith, c.loop-class-test.true);
    }

pub returns-clause-ok : goal.returns-clause-ok
returns-clause-ok g c =
    let inv = c.loop-class.invariant in
    let w = inv.within in
    let m : c.loop-class.class ≡ length c.args.store.now.classes = omega (arith, w, c.loop-class-test.false, c.class_count-class-end.ensures) in
    subst (EntersUsers c.args.store.now c.args.data.now.entered (length c.args.store.now.classes) c.args.nodes.now c.loop-class.nodes c.args.data.now) (sym c.set_entered.ensures)
    (users-counted c.args.store.now c.args.data.now.entered c.args.nodes.now c.args.data.now (length c.args.store.now.classes) c.loop-class.nodes c.loop-class.data c.class_count.result
    (subst (λ n. EntersUsers c.args.store.now c.args.data.now.entered n c.args.nodes.now c.loop-class.nodes c.args.data.now c.loop-class.data) m inv.enters))
