use Rattle.std.proofs.Common.{[], subst, ap, append-nil}
use Rattle.std.specs.Prelude.{string_bytes}
use Rattle.slotted_certificates.specs.Texts.{Adds, text_of, words_of}
use Rattle.slotted_certificates.proofs.spelling.push_text.Goals as goal

pub returns : goal.returns
returns c _ =
    subst (λ bs. Adds (text_of (words_of c.args.words.now) c.args.tokens.now) (string_bytes c.args.out.now) bs) (append-nil (string_bytes c.loop-rest.out))
    (c.loop-rest.invariant [] (ap (text_of (words_of c.args.words.now)) (c.is_done.ensures c.loop-rest-test.false)))
