use Rattle.std.proofs.Common.{◌++◌, ap, sym, ◌∙◌, subst, map}
use Rattle.std.specs.Prelude.{Contains}
use Rattle.slotted_proofs.specs.Equations.{to_applied}
use Rattle.slotted_match_machine.specs.Answers.{answer_of}
use Rattle.slotted_matching.specs.Naming.{IsNaming, numbers_of}
use Rattle.slotted_matching.specs.Answered.{ids_at}
use Rattle.slotted_matching.proofs.AnsweredNames.{naming-starts}
use Rattle.slotted_matching.proofs.AnsweredIds.{numbers-read}
use Rattle.slotted_matching.proofs.answers.answer_ids.Goals as goal

pub returns-clause-ok : goal.returns-clause-ok
returns-clause-ok g c =
    let x = answer_of c.args.answer.now in
    let start : IsNaming c.args.table.now x.pairs c.args.table.now c.in_ok-names.names.items =
    subst (IsNaming c.args.table.now x.pairs c.args.table.now) (sym (c.in_ok-names.ensures.ok ∙ c.deref.ensures.value))
    (naming-starts c.args.table.now x c.requires.pairs (λ y h. c.requires.known y (c.requires.slots y h))) in
    record {
      names = c.name_values.new.names.items;
      ids = c.in_ok-push_ids.ensures.ok ∙ ap (λ ns. map to_applied c.args.ids.now.items ++ ids_at c.args.store.now ns c.args.order.now x.values) c.deref-3.ensures.value;
      naming = c.in_ok-name_values.ensures.names.naming c.args.table.now x.pairs start;
      covers = λ n h. c.in_ok-name_values.ensures.named n
          (subst (λ l. Contains l n) (numbers-read c.args.answer.now.values.items ∙ ap numbers_of (sym c.deref-2.ensures.value)) h);
    }
