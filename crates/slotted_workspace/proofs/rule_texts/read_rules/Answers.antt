use Rattle.std.proofs.Common.{◌≡◌, ◌∙◌, ◌++◌, List, [], ◌∷◌, ap, refl, subst, sym}
use Rattle.std.specs.Prelude.{All, map}
use Rattle.std.proofs.lemmas.List.Elements.{All-nil, All-push}
use Rattle.std.proofs.lemmas.Result.{err_from_is_err_and}
use Rattle.slotted_slots.specs.declared.error.Error.TheVariants.{OutOfMemory}
use Rattle.slotted_languages.proofs.HandedOn.{handed_err}
use Rattle.slotted_graph.proofs.Extending.{extends-read}
use Rattle.slotted_rule_texts.specs.Told.{told_condition, told_rule}
use Rattle.slotted_rule_texts.specs.declared.rule_text.SlotCondition.{SlotCondition}
use Rattle.slotted_rules.specs.Written.{CanBeSearched}
use Rattle.slotted_rules.specs.WrittenLaws.{valid-later}
use Rattle.slotted_workspace.specs.RuleTexts.{ConditionalRefused, ReadsConditional, RulesRefused, both_ways, first_refused, one_way}
use Rattle.slotted_workspace.specs.Spaces.{rule_of}
use Rattle.slotted_workspace.proofs.RuleTexts.{both-not_kept, conditional-only, extends-behind, second-refused}
use Rattle.slotted_workspace.proofs.KeptRules.{kept-searched}
use Rattle.slotted_workspace.proofs.rule_texts.read_rules.Goals as goal

pub returns-in_err-first-clause-err : goal.returns-in_err-first-clause-err
returns-in_err-first-clause-err g c =
    let form = g.L.LanguageChildren.form in
    let read = g.L.LanguageChildren.read in
    let h = c.read_conditional.new.graph in
    let a = c.args.asked.now in
    let e = c.in_err-first.field-0.0 in
    handed_err c.from_residual.result e c.from_residual.ensures.1 (RulesRefused form read c.args.graph.now h (told_rule a))
    (first_refused (subst (λ (cs : List SlotCondition). ConditionalRefused form read c.args.graph.now h a.left.now a.right.now (map told_condition cs) e) c.deref.ensures.value c.in_err-first.ensures.err))

pub returns-then-not-asked-clause-ok : goal.returns-then-not-asked-clause-ok
returns-then-not-asked-clause-ok g c =
    let form = g.L.LanguageChildren.form in
    let read = g.L.LanguageChildren.read in
    let h = c.read_conditional.new.graph in
    let a = c.args.asked.now in
    let first = c.in_ok-first.first in
    let kept = c.in_ok-kept_rule.field-0 in
    let one : c.push.new.self.items ≡ kept ∷ [] = c.in_ok-push.ensures.items ∙ ap (λ l. l ++ kept ∷ []) c.new-rules.ensures.items in
    one_way first c.if-not-asked.true (ap (map (rule_of form)) one ∙ ap (λ r. r ∷ []) c.in_ok-kept_rule.ensures.ok)
    (subst (λ (cs : List SlotCondition). ReadsConditional form read c.args.graph.now h a.name.now a.left.now a.right.now (map told_condition cs) first) c.deref.ensures.value c.in_ok-first.ensures.ok)

pub returns-then-not-asked-clause-searched : goal.returns-then-not-asked-clause-searched
returns-then-not-asked-clause-searched g c =
    let form = g.L.LanguageChildren.form in
    let t = c.read_conditional.new.graph.table in
    let kept = c.in_ok-kept_rule.field-0 in
    let P = CanBeSearched form t in
    let one : c.push.new.self.items ≡ [] ++ kept ∷ [] = c.in_ok-push.ensures.items ∙ ap (λ l. l ++ kept ∷ []) c.new-rules.ensures.items in
    subst (All P) (sym one) (All-push P [] kept (All-nil P) (kept-searched form c.args.is_sparing c.in_ok-first.first t c.in_ok-first.ensures.searched kept c.in_ok-kept_rule.ensures.ok))

pub returns-in_err-back-clause-err : goal.returns-in_err-back-clause-err
returns-in_err-back-clause-err g c =
    let form = g.L.LanguageChildren.form in
    let read = g.L.LanguageChildren.read in
    let k = c.read_conditional.new.graph in
    let h = c.read_back.new.graph in
    let a = c.args.asked.now in
    let e = c.in_err-back.field-0.0 in
    let first = c.in_ok-first.first in
    let reads = subst (λ (cs : List SlotCondition). ReadsConditional form read c.args.graph.now k a.name.now a.left.now a.right.now (map told_condition cs) first) c.deref.ensures.value c.in_ok-first.ensures.ok in
    handed_err c.from_residual-in_err-back.result e c.from_residual-in_err-back.ensures.1 (RulesRefused form read c.args.graph.now h (told_rule a))
    (second-refused form read c.args.graph.now k h (told_rule a) first c.if-not-asked.false reads e c.in_err-back.ensures.err)

pub returns-in_err-back-clause-extends : goal.returns-in_err-back-clause-extends
returns-in_err-back-clause-extends g c =
    let k = c.read_conditional.new.graph in
    let a = c.args.asked.now in
    let only = conditional-only g.L.LanguageChildren.form g.L.LanguageChildren.read c.args.graph.now k a.name.now a.left.now a.right.now (map told_condition c.deref.result.now) c.in_ok-first.first c.in_ok-first.ensures.ok in
    extends-behind c.args.graph.now k c.read_back.new.graph (record { only = only; stays = c.in_ok-first.ensures.stays }) c.in_err-back.ensures.extends

pub returns-in_err-kept_rule-2-clause-err : goal.returns-in_err-kept_rule-2-clause-err
returns-in_err-kept_rule-2-clause-err g c =
    let form = g.L.LanguageChildren.form in
    let read = g.L.LanguageChildren.read in
    let k = c.read_conditional.new.graph in
    let h = c.read_back.new.graph in
    let a = c.args.asked.now in
    let first = c.in_ok-first.first in
    let reads = subst (λ (cs : List SlotCondition). ReadsConditional form read c.args.graph.now k a.name.now a.left.now a.right.now (map told_condition cs) first) c.deref.ensures.value c.in_ok-first.ensures.ok in
    let e = c.in_err-kept_rule-2.field-0.0 in
    handed_err c.from_residual-in_err-kept_rule-2.result e c.from_residual-in_err-kept_rule-2.ensures.1 (RulesRefused form read c.args.graph.now h (told_rule a))
    (both-not_kept form read c.args.graph.now k h (told_rule a) first c.in_ok-back.back reads c.in_ok-back.ensures.ok e c.in_err-kept_rule-2.ensures.err)

pub returns-in_err-kept_rule-2-clause-extends : goal.returns-in_err-kept_rule-2-clause-extends
returns-in_err-kept_rule-2-clause-extends g c =
    let k = c.read_conditional.new.graph in
    let a = c.args.asked.now in
    let only = conditional-only g.L.LanguageChildren.form g.L.LanguageChildren.read c.args.graph.now k a.name.now a.left.now a.right.now (map told_condition c.deref.result.now) c.in_ok-first.first c.in_ok-first.ensures.ok in
    extends-behind c.args.graph.now k c.read_back.new.graph (record { only = only; stays = c.in_ok-first.ensures.stays }) c.in_ok-back.ensures.extends

pub returns-in_err-push-2-clause-err : goal.returns-in_err-push-2-clause-err
returns-in_err-push-2-clause-err g c =
    let form = g.L.LanguageChildren.form in
    let read = g.L.LanguageChildren.read in
    let k = c.read_conditional.new.graph in
    let h = c.read_back.new.graph in
    let a = c.args.asked.now in
    let first = c.in_ok-first.first in
    let reads = subst (λ (cs : List SlotCondition). ReadsConditional form read c.args.graph.now k a.name.now a.left.now a.right.now (map told_condition cs) first) c.deref.ensures.value c.in_ok-first.ensures.ok in
    let p = err_from_is_err_and c.from_residual-in_err-push-2.result c.from_residual-in_err-push-2.ensures.1 in
    rw (p.1, p.2) (both-not_kept form read c.args.graph.now k h (told_rule a) first c.in_ok-back.back reads c.in_ok-back.ensures.ok OutOfMemory refl)

pub returns-in_err-push-2-clause-extends : goal.returns-in_err-push-2-clause-extends
returns-in_err-push-2-clause-extends g c =
    let k = c.read_conditional.new.graph in
    let a = c.args.asked.now in
    let only = conditional-only g.L.LanguageChildren.form g.L.LanguageChildren.read c.args.graph.now k a.name.now a.left.now a.right.now (map told_condition c.deref.result.now) c.in_ok-first.first c.in_ok-first.ensures.ok in
    extends-behind c.args.graph.now k c.read_back.new.graph (record { only = only; stays = c.in_ok-first.ensures.stays }) c.in_ok-back.ensures.extends

pub returns-clause-ok : goal.returns-clause-ok
returns-clause-ok g c =
    let form = g.L.LanguageChildren.form in
    let read = g.L.LanguageChildren.read in
    let k = c.read_conditional.new.graph in
    let a = c.args.asked.now in
    let first = c.in_ok-first.first in
    let back = c.in_ok-back.back in
    let kept = c.in_ok-kept_rule.field-0 in
    let last = c.in_ok-kept_rule-2.field-0 in
    let one : c.push.new.self.items ≡ kept ∷ [] = c.in_ok-push.ensures.items ∙ ap (λ l. l ++ kept ∷ []) c.new-rules.ensures.items in
    let two : c.push-2.new.self.items ≡ kept ∷ last ∷ [] = c.in_ok-push-2.ensures.items ∙ ap (λ l. l ++ last ∷ []) one in
    both_ways first back k c.if-not-asked.false (ap (map (rule_of form)) two ∙ (λ i. c.in_ok-kept_rule.ensures.ok i ∷ c.in_ok-kept_rule-2.ensures.ok i ∷ []))
    (subst (λ (cs : List SlotCondition). ReadsConditional form read c.args.graph.now k a.name.now a.left.now a.right.now (map told_condition cs) first) c.deref.ensures.value c.in_ok-first.ensures.ok) c.in_ok-back.ensures.ok

pub returns-clause-searched : goal.returns-clause-searched
returns-clause-searched g c =
    let form = g.L.LanguageChildren.form in
    let k = c.read_conditional.new.graph in
    let h = c.read_back.new.graph in
    let a = c.args.asked.now in
    let P = CanBeSearched form h.table in
    let first = c.in_ok-first.first in
    let back = c.in_ok-back.back in
    let kept = c.in_ok-kept_rule.field-0 in
    let last = c.in_ok-kept_rule-2.field-0 in
    let only = conditional-only form g.L.LanguageChildren.read k h _ a.right.now a.left.now (map told_condition a.conditions.items) back c.in_ok-back.ensures.ok in
    let later = kept-searched form c.args.is_sparing first h.table (valid-later form k h first (extends-read k h only) c.in_ok-first.ensures.searched) kept c.in_ok-kept_rule.ensures.ok in
    let newest = kept-searched form c.args.is_sparing back h.table c.in_ok-back.ensures.searched last c.in_ok-kept_rule-2.ensures.ok in
    let one : c.push.new.self.items ≡ kept ∷ [] = c.in_ok-push.ensures.items ∙ ap (λ l. l ++ kept ∷ []) c.new-rules.ensures.items in
    let two : c.push-2.new.self.items ≡ (kept ∷ []) ++ last ∷ [] = c.in_ok-push-2.ensures.items ∙ ap (λ l. l ++ last ∷ []) one in
    subst (All P) (sym two) (All-push P (kept ∷ []) last (All-push P [] kept (All-nil P) later) newest)

pub returns-clause-extends : goal.returns-clause-extends
returns-clause-extends g c =
    let k = c.read_conditional.new.graph in
    let a = c.args.asked.now in
    let only = conditional-only g.L.LanguageChildren.form g.L.LanguageChildren.read c.args.graph.now k a.name.now a.left.now a.right.now (map told_condition c.deref.result.now) c.in_ok-first.first c.in_ok-first.ensures.ok in
    extends-behind c.args.graph.now k c.read_back.new.graph (record { only = only; stays = c.in_ok-first.ensures.stays }) c.in_ok-back.ensures.extends
