use Rattle.std.proofs.Common.{[], subst, ap, append-nil}
use Rattle.std.specs.Prelude.{true, string_bytes}
use Rattle.slotted_certificates.specs.Rules.{conditions_text}
use Rattle.slotted_certificates.specs.Texts.{Adds, words_of}
use Rattle.slotted_certificates.proofs.rules.push_conditions.Goals as goal

pub returns : goal.returns
returns c _ =
    subst (λ bs. Adds (conditions_text (words_of c.args.words.now) true c.args.conditions.now) (string_bytes c.args.out.now) bs) (append-nil (string_bytes c.loop-rest.out))
    (c.loop-rest.invariant [] (ap (conditions_text (words_of c.args.words.now) c.loop-rest.is_first) (c.is_done.ensures c.loop-rest-test.false)))
