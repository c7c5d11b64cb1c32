use Rattle.std.proofs.Common.{◌+◌, ◌≡◌, ◌<◌, ◌∙◌, ℕ, List, [], ◌∷◌, ◌++◌, arith, length, sym, subst, ap, inl, inr, rules}
use Rattle.std.specs.Prelude.{IfSome, IfNone}
use Rattle.std.proofs.lemmas.Bool.{false≢true}
use Rattle.slotted_nodes.specs.Form.{children}
use Rattle.slotted_outlines.specs.Seen.{lefts, rights, above, AreAlike, AreOutlines, owns_seen}
use Rattle.slotted_proofs.specs.Equations.{to_applied}
use Rattle.slotted_classes.proofs.ChildIds.{child_is}
use Rattle.slotted_alike.proofs.Frames.{ids_under, first_match-pushed, forms_alike, forms_owns, same_count, frames_alike, child_matches, left_apart, right_apart, more_apart, first_match-none}
use Rattle.slotted_classes.proofs.NameMaps.{all_differ-iff}
use Rattle.slotted_alike.proofs.WideNodes.{child_fits_size, one_is_wide, outline_fits_size}
use Rattle.slotted_alike.proofs.alike.child_equations.Goals as goal

pub returns-in_default-clause-none : goal.returns-in_default-clause-none
returns-in_default-clause-none g c =
    let f = g.L.LanguageChildren.form c.args.left.now in
    let h = g.L.LanguageChildren.form c.args.right.now in
    let n : ¬ AreAlike f h = subst (λ o. IfNone o (¬ AreAlike f h)) c.in_default.is c.in_ok-nodes.ensures.none in
    λ cs once alike. n (forms_alike f h cs alike)

pub returns-then-not-branch-clause-none : goal.returns-then-not-branch-clause-none
returns-then-not-branch-clause-none g c =
    let f = g.L.LanguageChildren.form c.args.left.now in
    let h = g.L.LanguageChildren.form c.args.right.now in
    let p = g.L.LanguageChildren.form c.in-Some.nodes.one in
    let q = g.L.LanguageChildren.form c.in-Some.nodes.two in
    let o : AreOutlines f h p q = subst (λ o. IfSome o (λ n. AreOutlines f h (g.L.LanguageChildren.form n.one) (g.L.LanguageChildren.form n.two))) c.in-Some.is c.in_ok-nodes.ensures.outlines in
    λ cs once alike. false≢true (sym c.if-not-branch.true ∙ c.in_ok-same_owns.ensures.same.1 (
    ap (λ (b : List (ℕ × ℕ)). owns_seen p (lefts b)) c.new-binders.ensures.items
    ∙ (forms_owns f h p q o cs alike ∙ sym (ap (λ (b : List (ℕ × ℕ)). owns_seen q (rights b)) c.new-binders.ensures.items))))

pub returns-in_err-nodes-clause-full : goal.returns-in_err-nodes-clause-full
returns-in_err-nodes-clause-full g c e =
    let f = g.L.LanguageChildren.form c.args.left.now in
    let h = g.L.LanguageChildren.form c.args.right.now in
    elim (c.in_err-nodes.ensures.slots (search rules)) [
      | inl large ↦ inl (omega (arith, large, outline_fits_size f))
      | inr large ↦ inr (omega (arith, large, outline_fits_size h))
    ]

pub returns-in_err-child_equation-clause-full : goal.returns-in_err-child_equation-clause-full
returns-in_err-child_equation-clause-full g c e =
    let f = g.L.LanguageChildren.form c.args.left.now in
    let h = g.L.LanguageChildren.form c.args.right.now in
    let a = c.applied_id-a.result.now in
    let b = c.applied_id-b.result.now in
    elim (one_is_wide (length a.m) (length b.m) (c.in_err-child_equation.ensures.full (search rules))) [
      | inl large ↦ inl (omega (arith, large, child_fits_size f (g.met.L.LanguageChildren.fits c.args.left.now) c.loop-k.k a.m c.applied_id-a.ensures.names))
      | inr large ↦ inr (omega (arith, large, child_fits_size h (g.met.L.LanguageChildren.fits c.args.right.now) c.loop-k.k b.m c.applied_id-b.ensures.names))
    ]

pub loop-k-init : goal.loop-k-init
loop-k-init g c = first_match-none _ _ c.new-equations.result.items c.new-equations.ensures.items

pub applied_id-b-requires : goal.applied_id-b-requires
applied_id-b-requires g c =
    let f = g.L.LanguageChildren.form c.args.left.now in
    let h = g.L.LanguageChildren.form c.args.right.now in
    let p = g.L.LanguageChildren.form c.in-Some.nodes.one in
    let q = g.L.LanguageChildren.form c.in-Some.nodes.two in
    let o : AreOutlines f h p q = subst (λ o. IfSome o (λ n. AreOutlines f h (g.L.LanguageChildren.form n.one) (g.L.LanguageChildren.form n.two))) c.in-Some.is c.in_ok-nodes.ensures.outlines in
    let l : c.loop-k.k < length (children f.tree) = omega (arith, c.loop-k-test.true, c.applied_id_count-k-end.ensures) in
    let l' : c.loop-k.k < length (children h.tree) = omega (arith, l, same_count f h p q o) in
    l'

pub returns-then-not-is_bijection-clause-none : goal.returns-then-not-is_bijection-clause-none
returns-then-not-is_bijection-clause-none g c =
    let f = g.L.LanguageChildren.form c.args.left.now in
    let h = g.L.LanguageChildren.form c.args.right.now in
    let p = g.L.LanguageChildren.form c.in-Some.nodes.one in
    let q = g.L.LanguageChildren.form c.in-Some.nodes.two in
    let o : AreOutlines f h p q = subst (λ o. IfSome o (λ n. AreOutlines f h (g.L.LanguageChildren.form n.one) (g.L.LanguageChildren.form n.two))) c.in-Some.is c.in_ok-nodes.ensures.outlines in
    let l : c.loop-k.k < length (children f.tree) = omega (arith, c.loop-k-test.true, c.applied_id_count-k-end.ensures) in
    let l' : c.loop-k.k < length (children h.tree) = omega (arith, l, same_count f h p q o) in
    let a = to_applied c.applied_id-a.result.now in
    let b = to_applied c.applied_id-b.result.now in
    λ cs once alike. false≢true (sym c.if-not-is_bijection.true ∙ (c.is_bijection.ensures ∙ (all_differ-iff a.1).1 (left_apart f h cs once alike c.loop-k.k a l (child_is f c.loop-k.k a a l c.applied_id-a.ensures.id c.applied_id-a.ensures.keys c.applied_id-a.ensures.names))))

pub returns-then-not-is_bijection-2-clause-none : goal.returns-then-not-is_bijection-2-clause-none
returns-then-not-is_bijection-2-clause-none g c =
    let f = g.L.LanguageChildren.form c.args.left.now in
    let h = g.L.LanguageChildren.form c.args.right.now in
    let p = g.L.LanguageChildren.form c.in-Some.nodes.one in
    let q = g.L.LanguageChildren.form c.in-Some.nodes.two in
    let o : AreOutlines f h p q = subst (λ o. IfSome o (λ n. AreOutlines f h (g.L.LanguageChildren.form n.one) (g.L.LanguageChildren.form n.two))) c.in-Some.is c.in_ok-nodes.ensures.outlines in
    let l : c.loop-k.k < length (children f.tree) = omega (arith, c.loop-k-test.true, c.applied_id_count-k-end.ensures) in
    let l' : c.loop-k.k < length (children h.tree) = omega (arith, l, same_count f h p q o) in
    let a = to_applied c.applied_id-a.result.now in
    let b = to_applied c.applied_id-b.result.now in
    λ cs once alike. false≢true (sym c.if-not-is_bijection-2.true ∙ (c.is_bijection-in-loop-k.ensures ∙ (all_differ-iff b.1).1 (right_apart f h cs once alike c.loop-k.k b l' l (child_is h c.loop-k.k b b l' c.applied_id-b.ensures.id c.applied_id-b.ensures.keys c.applied_id-b.ensures.names))))

pub child_equation-requires-clause-left : goal.child_equation-requires-clause-left
child_equation-requires-clause-left g c = (all_differ-iff c.applied_id-a.result.now.m).0 (sym c.is_bijection.ensures ∙ c.if-not-is_bijection.false)

pub child_equation-requires-clause-right : goal.child_equation-requires-clause-right
child_equation-requires-clause-right g c = (all_differ-iff c.applied_id-b.result.now.m).0 (sym c.is_bijection-in-loop-k.ensures ∙ c.if-not-is_bijection-2.false)

pub loop-k-preserved : goal.loop-k-preserved
loop-k-preserved g c =
    let f = g.L.LanguageChildren.form c.args.left.now in
    let h = g.L.LanguageChildren.form c.args.right.now in
    let p = g.L.LanguageChildren.form c.in-Some.nodes.one in
    let q = g.L.LanguageChildren.form c.in-Some.nodes.two in
    let o : AreOutlines f h p q = subst (λ o. IfSome o (λ n. AreOutlines f h (g.L.LanguageChildren.form n.one) (g.L.LanguageChildren.form n.two))) c.in-Some.is c.in_ok-nodes.ensures.outlines in
    let l : c.loop-k.k < length (children f.tree) = omega (arith, c.loop-k-test.true, c.applied_id_count-k-end.ensures) in
    let l' : c.loop-k.k < length (children h.tree) = omega (arith, l, same_count f h p q o) in
    let a = to_applied c.applied_id-a.result.now in
    let b = to_applied c.applied_id-b.result.now in
    let e = c.in_ok-child_equation.field-0 in
    let bs = lefts c.deref.result.now in
    let cs = rights c.deref.result.now in
    let es = c.loop-k.equations.items in
    let eb : bs ≡ above p [] c.loop-k.k = ap lefts c.deref.ensures.value ∙ (c.in_ok-push_above.ensures.left ∙ ap (λ (x : List (ℕ × ℕ)). above p (lefts x) c.loop-k.k) c.truncate.ensures.items) in
    let ec : cs ≡ above q [] c.loop-k.k = ap rights c.deref.ensures.value ∙ (c.in_ok-push_above.ensures.right ∙ ap (λ (x : List (ℕ × ℕ)). above q (rights x) c.loop-k.k) c.truncate.ensures.items) in
    let m = child_matches f h p q o c.loop-k.k bs cs a b e es c.loop-k.invariant.0 l eb ec
    (λ d. child_is f c.loop-k.k d a l c.applied_id-a.ensures.id c.applied_id-a.ensures.keys c.applied_id-a.ensures.names)
    (λ d. child_is h c.loop-k.k d b l' c.applied_id-b.ensures.id c.applied_id-b.ensures.keys c.applied_id-b.ensures.names)
    c.in_ok-child_equation.ensures.matches in
    let n = more_apart es e c.loop-k.invariant.1 c.in_ok-child_equation.ensures.injective in
    first_match-pushed (ids_under [] f.tree f.names) (ids_under [] h.tree h.names) (es ++ e ∷ []) c.push.new.self.items (c.loop-k.k + 1) c.in_ok-push.ensures.items m n

pub returns-clause-alike : goal.returns-clause-alike
returns-clause-alike g c =
    let f = g.L.LanguageChildren.form c.args.left.now in
    let h = g.L.LanguageChildren.form c.args.right.now in
    let p = g.L.LanguageChildren.form c.in-Some.nodes.one in
    let q = g.L.LanguageChildren.form c.in-Some.nodes.two in
    let o : AreOutlines f h p q = subst (λ o. IfSome o (λ n. AreOutlines f h (g.L.LanguageChildren.form n.one) (g.L.LanguageChildren.form n.two))) c.in-Some.is c.in_ok-nodes.ensures.outlines in
    frames_alike f h p q o (
    ap (λ (b : List (ℕ × ℕ)). owns_seen p (lefts b)) (sym c.new-binders.ensures.items)
    ∙ (c.in_ok-same_owns.ensures.same.0 c.if-not-branch.false ∙ ap (λ (b : List (ℕ × ℕ)). owns_seen q (rights b)) c.new-binders.ensures.items)
    ) c.loop-k.equations.items c.loop-k.k c.loop-k.invariant.0 (omega (arith, c.loop-k-test.false, c.applied_id_count-k-end.ensures))

pub returns-clause-injective : goal.returns-clause-injective
returns-clause-injective g c = c.loop-k.invariant.1
