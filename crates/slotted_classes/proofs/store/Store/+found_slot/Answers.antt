use Rattle.std.proofs.Common.{◌≡◌, ◌≢◌, ◌<◌, ◌∙◌, length, ap, sym, subst, arith, rules}
use Rattle.slotted_theory.specs.FiniteMaps.{value_of}
use Rattle.slotted_model.specs.Applied.{Applied}
use Rattle.slotted_model.specs.Find.{find_map}
use Rattle.slotted_classes.specs.Kept.{Kept, find_at, entries_of}
use Rattle.slotted_classes.proofs.Chasing.{moments_left, next_within, nearer, slot-live, slot-next, slot-none}
use Rattle.slotted_classes.proofs.store.Store.+found_slot.Goals as goal

pub returns-then-entry-id : goal.returns-then-entry-id
returns-then-entry-id g t c =
    let k : Kept = c.args.self.now in
    let next : c.entry-entry.result.now.id.0 ≡ (find_at k c.args.id).class = ap (λ (a : Applied). a.0) c.entry-entry.ensures in
    slot-live k c.requires.good c.args.id c.args.slot c.requires.within (omega (arith, next, c.if-entry-id.true)) c.get.result c.entry-entry.result.now.m (ap (λ (a : Applied). a.1) c.entry-entry.ensures) c.get.ensures

pub found_slot-requires : goal.found_slot-requires
found_slot-requires g t c =
    let k : Kept = c.args.self.now in
    let next : c.entry-entry.result.now.id.0 ≡ (find_at k c.args.id).class = ap (λ (a : Applied). a.0) c.entry-entry.ensures in
    let dead : (find_at k c.args.id).class ≢ c.args.id = λ e. omega (arith, e, next, c.if-entry-id.false) in
    let small : moments_left k c.entry-entry.result.now.id.0 < moments_left k c.args.id = subst (λ j. moments_left k j < moments_left k c.args.id) (sym next) (nearer k c.requires.good c.args.id c.requires.within dead) in
    let within : c.entry-entry.result.now.id.0 < length k.classes = subst (λ j. j < length k.classes) (sym next) (next_within k c.requires.good c.args.id c.requires.within) in
    λ κs h. (omega (arith, small, c.decreases), (search rules, (c.requires.good, within)))

pub returns-in-Some : goal.returns-in-Some
returns-in-Some g t c =
    let k : Kept = c.args.self.now in
    let next : c.entry-entry.result.now.id.0 ≡ (find_at k c.args.id).class = ap (λ (a : Applied). a.0) c.entry-entry.ensures in
    slot-next k c.requires.good c.args.id c.args.slot c.in-Some.next c.requires.within (c.in-Some.ensures ∙ ap (λ j. value_of (find_map (entries_of k) j) c.args.slot) next) c.get-in-Some.result c.entry-entry.result.now.m (ap (λ (a : Applied). a.1) c.entry-entry.ensures) c.get-in-Some.ensures

pub returns-in-None : goal.returns-in-None
returns-in-None g t c =
    let k : Kept = c.args.self.now in
    let next : c.entry-entry.result.now.id.0 ≡ (find_at k c.args.id).class = ap (λ (a : Applied). a.0) c.entry-entry.ensures in
    slot-none k c.requires.good c.args.id c.args.slot c.requires.within (c.in-None.ensures ∙ ap (λ j. value_of (find_map (entries_of k) j) c.args.slot) next)
