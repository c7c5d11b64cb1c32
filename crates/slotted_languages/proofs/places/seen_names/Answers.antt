-- The loop has gone through all places.
use Rattle.std.proofs.Common.{◌≡◌, ◌++◌, ◌∷◌, ◌∙◌, [], length, ap, sym, arith}
use Rattle.slotted_languages.specs.Occurrences.{names_where}
use Rattle.slotted_nodes.specs.Public.{is_public}
use Rattle.slotted_languages.proofs.BelowNext.{where_other, where_there}
use Rattle.slotted_languages.proofs.PublicNames.{public_free}
use Rattle.slotted_languages.proofs.places.seen_names.Goals as goal
use Rattle.slotted_languages.proofs.places.seen_names.Goals.{then-is_public+in_ok-push, else-is_public}

pub returns-clause-free : goal.returns-clause-free
returns-clause-free g c =
    let f = g.L.LanguageChildren.form c.args.node.now in
    let e : c.loop-i.i ≡ length f.names = omega (arith, c.loop-i-test.false, c.loop-i.auto.i-end, c.slot_count-i-end.ensures, c.requires.small) in
    c.loop-i.invariant ∙ (ap (names_where (is_public f) f.names) e ∙ public_free f (g.met.L.LanguageChildren.fits c.args.node.now))

pub loop-i-preserved : goal.loop-i-preserved
loop-i-preserved g c =
    let f = (g.L.LanguageChildren.form c.args.node.now) in
    elim c.if-is_public.branch [
      | then-is_public+in_ok-push w ↦ ap (λ v. v.items) w.seen-is ∙ (w.in_ok-push.ensures.items ∙ (ap (λ xs. xs ++ w.slot.result ∷ []) c.loop-i.invariant ∙ (ap (λ x. names_where (is_public f) f.names c.loop-i.i ++ x ∷ []) w.slot.ensures ∙ sym (where_there (is_public f) f.names c.loop-i.i (sym c.is_public.ensures.test ∙ w.if-is_public.true)))))
      | else-is_public w ↦ ap (λ v. v.items) w.seen-is ∙ (c.loop-i.invariant ∙ sym (where_other (is_public f) f.names c.loop-i.i (sym c.is_public.ensures.test ∙ w.if-is_public.false)))
    ]
