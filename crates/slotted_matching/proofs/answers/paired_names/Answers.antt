use Rattle.std.proofs.Common.{ℕ, get_or}
use Rattle.std.proofs.lemmas.List.{get_or_default}
use Rattle.slotted_lists.proofs.Contained.{Contains-map}
use Rattle.slotted_matching.proofs.answers.paired_names.Goals as goal

pub slot_with-requires : goal.slot_with-requires
slot_with-requires c =
    let p = get_or c.args.pairs.now c.loop-pair.pair-index (0, 0) in
    c.requires p.1 (Contains-map (λ (q : ℕ × ℕ). q.1) c.args.pairs.now p (c.loop-pair.pair-index, c.loop-pair-test.true, get_or_default c.args.pairs.now c.loop-pair.pair-index p (0, 0) c.loop-pair-test.true))
