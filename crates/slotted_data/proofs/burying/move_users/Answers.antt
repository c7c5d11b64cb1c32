use Rattle.std.proofs.Common.{◌≡◌, ◌<◌, ◌∷◌, ◌++◌, [], length, sym, ◌∙◌, ap, subst, take, arith}
use Rattle.std.proofs.lemmas.List.{take_more, take_all}
use Rattle.std.specs.Prelude.{slice_index_or}
use Rattle.slotted_data.specs.Held.{users_of}
use Rattle.slotted_data.proofs.Buried.{MovesFirst, moves-none, moves-next, moves-all}
use Rattle.slotted_data.proofs.burying.move_users.Goals as goal

pub loop-source-init : goal.loop-source-init
loop-source-init g c =
    subst (MovesFirst c.args.from c.args.to [] c.args.data.now) (sym c.take_users-sources.ensures.left) (moves-none c.args.from c.args.to c.args.data.now)

pub add_user-requires : goal.add_user-requires
add_user-requires g c = let e = ap length c.loop-source.invariant.same.values in let w = c.requires.to in omega (arith, e, w)

pub loop-source-preserved : goal.loop-source-preserved
loop-source-preserved g c =
    let xs = c.deref-source-items.result.now in
    let i = c.loop-source.source-index in
    let m = c.loop-source.invariant in
    let values = ap length m.same.values in
    let to = c.requires.to in
    let within : c.args.to < length c.loop-source.data.users = omega (arith, c.in_ok-add_user.ensures.lists, values, to) in
    subst (λ ys. MovesFirst c.args.from c.args.to ys c.args.data.now c.add_user.new.self) (sym (take_more xs i 0 (omega (arith, c.loop-source-test.true))))
    (subst (MovesFirst c.args.from c.args.to (take i xs ++ slice_index_or xs i 0 ∷ []) c.args.data.now) (sym c.in_ok-add_user.ensures.ok)
    (moves-next c.args.from c.args.to c.args.data.now (take i xs) (slice_index_or xs i 0) c.loop-source.data m within))

pub returns-clause-ok : goal.returns-clause-ok
returns-clause-ok g c =
    let xs = c.deref-source-items.result.now in
    let all : take c.loop-source.source-index xs ≡ users_of c.args.data.now c.args.from =
    take_all c.loop-source.source-index xs (omega (arith, c.loop-source-test.false)) ∙ (c.deref-source-items.ensures.value ∙ c.take_users-sources.ensures.taken) in
    moves-all c.args.from c.args.to c.args.data.now c.loop-source.data (subst (λ ys. MovesFirst c.args.from c.args.to ys c.args.data.now c.loop-source.data) all c.loop-source.invariant)
