use Rattle.std.proofs.Common.{◌≡◌, ◌≢◌, ◌<◌, ◌∙◌, length, ap, sym, subst, arith, rules}
use Rattle.std.specs.Prelude.{IfOk}
use Rattle.slotted_model.specs.Applied.{Applied}
use Rattle.slotted_model.specs.Correspondence.{composite}
use Rattle.slotted_model.specs.Find.{find_map}
use Rattle.slotted_classes.specs.Kept.{Kept, find_at, entries_of}
use Rattle.slotted_slots.specs.Maps.{composed}
use Rattle.slotted_proofs.proofs.Bridges.{composed-model}
use Rattle.slotted_classes.proofs.Chasing.{moments_left, next_within, nearer, map-live, map-next}
use Rattle.slotted_classes.proofs.store.Store.+found_map.Goals as goal

pub returns-then-entry-id-clause-ok : goal.returns-then-entry-id-clause-ok
returns-then-entry-id-clause-ok g t c =
    let k : Kept = c.args.self.now in
    let next : c.entry-entry.result.now.id.0 ≡ (find_at k c.args.id).class = ap (λ (a : Applied). a.0) c.entry-entry.ensures in
    let e : c.entry-entry.result.now.m ≡ find_map (entries_of k) c.args.id = ap (λ (a : Applied). a.1) c.entry-entry.ensures ∙ sym (map-live k c.requires.good c.args.id c.requires.within (omega (arith, next, c.if-entry-id.true))) in
    subst (λ n. IfOk c.copy.result (λ m. m ≡ n)) e c.copy.ensures.ok

pub found_map-requires : goal.found_map-requires
found_map-requires g t c =
    let k : Kept = c.args.self.now in
    let next : c.entry-entry.result.now.id.0 ≡ (find_at k c.args.id).class = ap (λ (a : Applied). a.0) c.entry-entry.ensures in
    let dead : (find_at k c.args.id).class ≢ c.args.id = λ e. omega (arith, e, next, c.if-entry-id.false) in
    let small : moments_left k c.entry-entry.result.now.id.0 < moments_left k c.args.id = subst (λ j. moments_left k j < moments_left k c.args.id) (sym next) (nearer k c.requires.good c.args.id c.requires.within dead) in
    let within : c.entry-entry.result.now.id.0 < length k.classes = subst (λ j. j < length k.classes) (sym next) (next_within k c.requires.good c.args.id c.requires.within) in
    λ κs h. (omega (arith, small, c.decreases), (search rules, (c.requires.good, within)))

pub returns-clause-ok : goal.returns-clause-ok
returns-clause-ok g t c =
    let k : Kept = c.args.self.now in
    let next : c.entry-entry.result.now.id.0 ≡ (find_at k c.args.id).class = ap (λ (a : Applied). a.0) c.entry-entry.ensures in
    let e : composed c.in_ok-map.map c.entry-entry.result.now.m ≡ find_map (entries_of k) c.args.id =
    composed-model c.in_ok-map.map c.entry-entry.result.now.m
    ∙ ((λ i. composite ((c.in_ok-map.ensures.ok ∙ ap (find_map (entries_of k)) next) i) (ap (λ (a : Applied). a.1) c.entry-entry.ensures i))
    ∙ sym (map-next k c.requires.good c.args.id c.requires.within)) in
    subst (λ n. IfOk c.compose_partial.result (λ m. m ≡ n)) e c.compose_partial.ensures.ok
