-- A name at a private place is put in, and any other is passed over.
use Rattle.std.proofs.Common.{◌++◌, ◌∷◌, ◌∙◌, [], ap, sym}
use Rattle.std.specs.Prelude.{not}
use Rattle.slotted_languages.specs.Occurrences.{names_where}
use Rattle.slotted_nodes.specs.Public.{is_public}
use Rattle.slotted_languages.proofs.BelowNext.{where_other, where_there}
use Rattle.slotted_languages.proofs.places.hidden_names.Goals as goal
use Rattle.slotted_languages.proofs.places.hidden_names.Goals.{then-not-is_public+in_ok-push, else-not-is_public}

pub loop-i-preserved : goal.loop-i-preserved
loop-i-preserved g c =
    let f = (g.L.LanguageChildren.form c.args.node.now) in
    elim c.if-not-is_public.branch [
      | then-not-is_public+in_ok-push w ↦ ap (λ v. v.items) w.hidden-is ∙ (w.in_ok-push.ensures.items ∙ (ap (λ xs. xs ++ w.slot.result ∷ []) c.loop-i.invariant ∙ (ap (λ x. names_where (λ i. not (is_public f i)) f.names c.loop-i.i ++ x ∷ []) w.slot.ensures ∙ sym (where_there (λ i. not (is_public f i)) f.names c.loop-i.i (ap not (sym c.is_public.ensures.test ∙ w.if-not-is_public.true))))))
      | else-not-is_public w ↦ ap (λ v. v.items) w.hidden-is ∙ (c.loop-i.invariant ∙ sym (where_other (λ i. not (is_public f i)) f.names c.loop-i.i (ap not (sym c.is_public.ensures.test ∙ w.if-not-is_public.false))))
    ]
