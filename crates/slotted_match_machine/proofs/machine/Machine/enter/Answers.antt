use Rattle.std.specs.Prelude.{Bool, cond, reverse, Some, None}
use Rattle.std.proofs.Common.{◌∙◌, length, ap, sym, arith}
use Rattle.std.proofs.lemmas.List.{length-append}
use Rattle.slotted_match_machine.specs.declared.view.Register.{Register}
use Rattle.slotted_match_machine.specs.declared.names.Frame.{Frame}
use Rattle.slotted_match_machine.specs.Machine.{names_for}
use Rattle.slotted_match_machine.specs.Views.{names_at}
use Rattle.slotted_match_machine.specs.Scratch.{scratch_of}
use Rattle.slotted_match_machine.proofs.NewNames.{length-names_for}
use Rattle.slotted_match_machine.proofs.States.{with_row-state, with_row-readable, after_row-paired}
use Rattle.slotted_match_machine.proofs.machine.Machine.enter.Goals as goal

pub pair_all-requires : goal.pair_all-requires
pair_all-requires c =
    let names = names_at c.args.self.now.frames.items c.args.from.now.names in
    let frames = rw c.deref.ensures.value at c.in_ok-self.ensures.frames in
    omega (
      arith,
      ap length (c.deref-3.ensures.value ∙ frames),
      length-append c.args.self.now.frames.items (names_for names c.args.row.now.slots.items c.args.self.now.count),
      length-names_for names c.args.row.now.slots.items c.args.self.now.count,
    )

pub returns-then-not-branch-clause-entered : goal.returns-then-not-branch-clause-entered
returns-then-not-branch-clause-entered c =
    let names = names_at c.args.self.now.frames.items c.args.from.now.names in
    let frames = rw c.deref.ensures.value at c.in_ok-self.ensures.frames in
    let frame : Frame = record { start = c.len.result; count = c.len-2.result } in
    after_row-paired (scratch_of c.args.self.now) names c.args.row.now c.args.slots.now c.deref-3.result.now c.deref-2.result frame None
    (c.deref-3.ensures.value ∙ frames) c.deref-2.ensures.value (omega arith) (omega arith)
    (c.in_ok-pair_all.ensures.paired ∙ ap (λ (b : Bool). cond b (Some (reverse c.pair_all.new.pairs.items)) None) c.if-not-branch.true)

pub returns-clause-entered : goal.returns-clause-entered
returns-clause-entered c =
    let s = scratch_of c.args.self.now in
    let names = names_at s.frames c.args.from.now.names in
    let more = names_for names c.args.row.now.slots.items s.count in
    let frames = rw c.deref.ensures.value at c.in_ok-self.ensures.frames in
    let count = rw c.deref.ensures.value at c.in_ok-self.ensures.count in
    let pairs = c.pair_all.new.pairs.items in
    let frame : Frame = record { start = c.len.result; count = c.len-2.result } in
    let register : Register = record { children = c.deref-4.result; frame = frame } in
    let paired = c.in_ok-pair_all.ensures.paired ∙ ap (λ (b : Bool). cond b (Some (reverse pairs)) None) c.if-not-branch.false in
    let fits = after_row-paired s names c.args.row.now c.args.slots.now c.deref-3.result.now c.deref-2.result frame (Some (reverse pairs)) (c.deref-3.ensures.value ∙ frames) c.deref-2.ensures.value (omega arith) (omega arith) paired in
    let named = length-names_for names c.args.row.now.slots.items s.count in
    let state = with_row-state s c.args.row.now more register pairs c.requires.readable c.deref-4.ensures.value (omega arith) (omega (arith, named)) in
    rw (c.in_ok-push.ensures.items, frames, count) (fits ∙ ap Some (sym state))

pub returns-clause-readable : goal.returns-clause-readable
returns-clause-readable c = λ _.
    let s = scratch_of c.args.self.now in
    let names = names_at s.frames c.args.from.now.names in
    let more = names_for names c.args.row.now.slots.items s.count in
    let frames = rw c.deref.ensures.value at c.in_ok-self.ensures.frames in
    let count = rw c.deref.ensures.value at c.in_ok-self.ensures.count in
    let frame : Frame = record { start = c.len.result; count = c.len-2.result } in
    let register : Register = record { children = c.deref-4.result; frame = frame } in
    let named = length-names_for names c.args.row.now.slots.items s.count in
    let readable = with_row-readable s c.args.row.now more register c.pair_all.new.pairs.items c.requires.readable (omega arith) (omega (arith, named)) named in
    rw (c.in_ok-push.ensures.items, frames, count) readable
