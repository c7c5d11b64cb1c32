use Rattle.std.proofs.Common.{◌≡◌, ◌≢◌, ◌<◌, ◌∙◌, length, ap, sym, subst, arith, rules}
use Rattle.slotted_model.specs.Applied.{Applied}
use Rattle.slotted_model.specs.Find.{find_class}
use Rattle.slotted_classes.specs.Kept.{Kept, find_at, entries_of}
use Rattle.slotted_classes.proofs.Chasing.{moments_left, next_within, nearer, class-live, class-next}
use Rattle.slotted_classes.proofs.store.Store.+find_class.Goals as goal

pub returns-then-next-id-clause-class : goal.returns-then-next-id-clause-class
returns-then-next-id-clause-class g t c =
    let next : c.entry.result.now.id.0 ≡ (find_at c.args.self.now c.args.id).class = ap (λ (a : Applied). a.0) c.entry.ensures in
    sym (class-live c.args.self.now c.requires.good c.args.id c.requires.within (omega (arith, next, c.if-next-id.true)))

pub find_class-requires : goal.find_class-requires
find_class-requires g t c =
    let k : Kept = c.args.self.now in
    let next : c.entry.result.now.id.0 ≡ (find_at k c.args.id).class = ap (λ (a : Applied). a.0) c.entry.ensures in
    let dead : (find_at k c.args.id).class ≢ c.args.id = λ e. omega (arith, e, next, c.if-next-id.false) in
    let small : moments_left k c.entry.result.now.id.0 < moments_left k c.args.id = subst (λ j. moments_left k j < moments_left k c.args.id) (sym next) (nearer k c.requires.good c.args.id c.requires.within dead) in
    let within : c.entry.result.now.id.0 < length k.classes = subst (λ j. j < length k.classes) (sym next) (next_within k c.requires.good c.args.id c.requires.within) in
    λ κs h. (omega (arith, small, c.decreases), (search rules, (c.requires.good, within)))

pub returns-clause-class : goal.returns-clause-class
returns-clause-class g t c =
    let next : c.entry.result.now.id.0 ≡ (find_at c.args.self.now c.args.id).class = ap (λ (a : Applied). a.0) c.entry.ensures in
    c.find_class.ensures.class ∙ (ap (find_class (entries_of c.args.self.now)) next ∙ sym (class-next c.args.self.now c.requires.good c.args.id c.requires.within))
