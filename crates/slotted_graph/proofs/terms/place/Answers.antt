-- The last entry that is left comes to the place of its class.
use Rattle.std.proofs.Common.{◌≡◌, ◌∙◌, length, sym, subst, arith}
use Rattle.slotted_graph.specs.Placing.{IsTermFor}
use Rattle.slotted_graph.proofs.Placed.{length-placed, placed-none, placed-step, popped-rest, popped-within, whole-taken}
use Rattle.slotted_graph.proofs.terms.place.Goals as goal

pub loop-entry-init : goal.loop-entry-init
loop-entry-init g c =
    let es = c.args.entries.items in
    record {
      count = c.in_ok-placed.ensures.count;
      left = sym (whole-taken c.args.store.now es);
      placed = placed-none c.args.store.now es c.in_ok-placed.placed.items c.in_ok-placed.ensures.none (length es) (omega arith);
    }

pub term_entry-requires-clause-within : goal.term_entry-requires-clause-within
term_entry-requires-clause-within g c =
    let h = popped-within c.args.store.now c.args.entries.items c.args.classes c.requires.within c.loop-entry.left.items c.pop.new.self.items c.in-Some.entry c.loop-entry.invariant.left c.in-Some.ensures.items in
    h.source

pub index_mut-requires : goal.index_mut-requires
index_mut-requires g c =
    let h = popped-within c.args.store.now c.args.entries.items c.args.classes c.requires.within c.loop-entry.left.items c.pop.new.self.items c.in-Some.entry c.loop-entry.invariant.left c.in-Some.ensures.items in
    omega (arith, h.class, c.loop-entry.invariant.count, c.loop-entry.placed.ok)

pub loop-entry-preserved-in_ok-term_entry : goal.loop-entry-preserved-in_ok-term_entry
loop-entry-preserved-in_ok-term_entry g c =
    let rest = c.pop.new.self.items in
    let n : c.len.result ≡ length rest = omega (arith, c.len.ensures, c.pop.new.self.ok) in
    record {
      count = length-placed c.args.store.now c.args.entries.items c.loop-entry.placed.items c.in-Some.entry.class c.in_ok-term_entry.field-0 ∙ c.loop-entry.invariant.count;
      left = popped-rest c.args.store.now c.args.entries.items c.loop-entry.left.items rest c.in-Some.entry c.loop-entry.invariant.left c.in-Some.ensures.items;
      placed = placed-step c.args.store.now c.args.entries.items c.args.classes c.requires.within c.requires.differ c.loop-entry.left.items rest c.in-Some.entry c.loop-entry.invariant.left c.in-Some.ensures.items
          c.loop-entry.placed.items c.in_ok-term_entry.field-0 c.loop-entry.invariant.count (subst (λ i. IsTermFor c.args.store.now c.in-Some.entry i c.in_ok-term_entry.field-0) n c.in_ok-term_entry.ensures.ok) c.loop-entry.invariant.placed;
    }

pub loop-entry-preserved : goal.loop-entry-preserved
loop-entry-preserved g c =
    let rest = c.pop.new.self.items in
    let n : c.len.result ≡ length rest = omega (arith, c.len.ensures, c.pop.new.self.ok) in
    record {
      count = length-placed c.args.store.now c.args.entries.items c.loop-entry.placed.items c.in-Some.entry.class c.in_ok-term_entry.field-0 ∙ c.loop-entry.invariant.count;
      left = popped-rest c.args.store.now c.args.entries.items c.loop-entry.left.items rest c.in-Some.entry c.loop-entry.invariant.left c.in-Some.ensures.items;
      placed = placed-step c.args.store.now c.args.entries.items c.args.classes c.requires.within c.requires.differ c.loop-entry.left.items rest c.in-Some.entry c.loop-entry.invariant.left c.in-Some.ensures.items
          c.loop-entry.placed.items c.in_ok-term_entry.field-0 c.loop-entry.invariant.count (subst (λ i. IsTermFor c.args.store.now c.in-Some.entry i c.in_ok-term_entry.field-0) n c.in_ok-term_entry.ensures.ok) c.loop-entry.invariant.placed;
    }
