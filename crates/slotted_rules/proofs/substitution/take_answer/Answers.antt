-- No child has changed where none had, and the answer is the child.
use Rattle.std.proofs.Common.{◌∙◌, refl, sym, subst, length}
use Rattle.std.specs.Prelude.{◌<◌}
use Rattle.slotted_lists.proofs.Booleans.{or-false as neither}
use Rattle.slotted_nodes.specs.Form.{Form, children}
use Rattle.slotted_rules.proofs.Frames.{next-read}
use Rattle.slotted_rules.proofs.SameIds.{not-false, same-ids}
use Rattle.slotted_rules.proofs.substitution.take_answer.Goals as goal

pub returns : goal.returns
returns g c =
    let r = c.args.frame.now in
    let n : Form = g.L.LanguageChildren.form r.node in
    let child = c.applied_id in
    let lt : r.next < length (children n.tree) = subst (λ m. r.next < m) c.requires.count c.requires.lacks in
    record {
      id = refl;
      count = refl;
      next = refl;
      node = c.set_applied_id.ensures;
      stays = λ e.
          let both = neither r.changed c.ne.result e in (
            both.0,
            same-ids c.args.answer child.result.now (not-false _ (sym c.ne.ensures ∙ both.1))
                ∙ next-read g.L.LanguageChildren.form r child.result.now lt child.ensures.id child.ensures.keys child.ensures.names,
          );
    }
