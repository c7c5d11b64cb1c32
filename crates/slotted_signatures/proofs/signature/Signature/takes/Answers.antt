use Rattle.std.proofs.Common.{List, map, sym, ap, subst, ◌≡◌, ◌∙◌}
use Rattle.std.specs.Prelude.{Decides, ◌++◌, ◌≢◌}
use Rattle.std.proofs.lemmas.Option.{MatchOption-at_some, MatchOption-at_none}
use Rattle.std.proofs.lemmas.Slice.Eq.{strip_prefix_is}
use Rattle.slotted_signatures.specs.Kinds.{number}
use Rattle.slotted_signatures.specs.UsedAsDeclared.{MayFollow}
use Rattle.slotted_signatures.specs.declared.kind.Kind.{Kind}
use Rattle.slotted_signatures.proofs.KindNumbers.{kind-decided}
use Rattle.slotted_signatures.proofs.Uses.{takes-decided, takes-not}
use Rattle.slotted_signatures.proofs.signature.Signature.takes.Goals as goal

pub returns-in-Some : goal.returns-in-Some
returns-in-Some c =
    let all = c.args.kinds.now in
    let front = c.as_slice.result.now in
    let split = strip_prefix_is kind-decided all front c.strip_prefix.result c.strip_prefix.ensures.cases in
    let stands = MatchOption-at_some ((rest : List Kind) → all ≢ front ++ rest) (λ x. all ≡ front ++ x.now) c.in-Some.others c.in-Some.is split in
    let kinds = sym (ap (λ u. u.kinds) c.self.view_is) ∙ ap (map number) (sym c.as_slice.ensures.value) in
    let more = ap (λ u. u.more) c.self.view_is in
    takes-decided c.args.self.now all front kinds c.may_follow.result c.in-Some.others.now stands (subst (λ m. Decides c.may_follow.result (MayFollow m (map number c.in-Some.others.now))) more c.may_follow.ensures)

pub returns-in-None : goal.returns-in-None
returns-in-None c =
    let all = c.args.kinds.now in
    let front = c.as_slice.result.now in
    let split = strip_prefix_is kind-decided all front c.strip_prefix.result c.strip_prefix.ensures.cases in
    let none = MatchOption-at_none ((rest : List Kind) → all ≢ front ++ rest) (λ x. all ≡ front ++ x.now) c.in-None.is split in
    let kinds = sym (ap (λ u. u.kinds) c.self.view_is) ∙ ap (map number) (sym c.as_slice.ensures.value) in
    (λ e. absurd (cc), λ t. absurd (takes-not c.args.self.now all front kinds none t))
