-- A term gives way to the terms under it.
use Rattle.std.proofs.Common.{◌≡◌, ◌+◌, ◌++◌, ◌∷◌, [], ◌∙◌, List, length, map, take, refl, sym, subst, ap, arith, rules}
use Rattle.std.proofs.lemmas.Bool.{false≢true}
use Rattle.std.proofs.lemmas.List.{map-append, take_more}
use Rattle.std.proofs.lemmas.List.Elements.{All-nil, All-push, All-same, All-take}
use Rattle.slotted_lists.proofs.Lists.{length-zero as nothing}
use Rattle.slotted_theory.specs.Term.{Term}
use Rattle.slotted_languages.specs.Filled.{term_of}
use Rattle.slotted_patterns.proofs.PatternCopies.{mapped_last}
use Rattle.slotted_operations.specs.Nodes.{IsValidOver}
use Rattle.slotted_operations.specs.SmallNodes.{IsSmallValidTerm, IsTermOver, total_size}
use Rattle.slotted_operations.proofs.TermsOverIds.TermSizes.{all-before, over-exact, over-valid, total_size-append, total_size-at, total_size-take, total_size-under, under-exact}
use Rattle.slotted_operations.proofs.terms.+valid.Goals as goal

pub is_valid_term-returns-then-not-is_node_over-clause-exact : goal.is_valid_term-returns-then-not-is_node_over-clause-exact
is_valid_term-returns-then-not-is_node_over-clause-exact g t c v s =
    let form = g.L.LanguageChildren.form in
    let t = c.args.table.now in
    let x : Term = c.loop-next.next.now in
    let us : List Term = c.next.inside.children.items in
    let here = (c.loop-next.invariant.exact (v, s)).0 in
    let over = over-exact form t c.next.inside.node us x c.next.view_is (g.met.L.LanguageChildren.fits c.next.inside.node) here in
    let same : IsValidOver t (form c.next.inside.node) c.len.result = subst (IsValidOver t (form c.next.inside.node)) (omega (arith, c.len.ensures, c.next.inside.children.ok.0)) over in
    absurd (false≢true (sym c.if-not-is_node_over.true ∙ c.is_node_over.ensures.1 same))

pub is_valid_term-push_or_ask_all-requires : goal.is_valid_term-push_or_ask_all-requires
is_valid_term-push_or_ask_all-requires g t c κs within =
    let form = g.L.LanguageChildren.form in
    let x : Term = c.loop-next.next.now in
    let us : List Term = c.deref.result.now in
    let view : term_of (form c.next.inside.node) us ≡ x = (λ i. term_of (form c.next.inside.node) (c.deref.ensures.value i)) ∙ c.next.view_is in
    (omega (arith, total_size-under (form c.next.inside.node) us x view, c.loop-next.invariant.light, c.decreases), search rules)

pub is_valid_term-returns-then-not-push_or_ask_all-clause-exact : goal.is_valid_term-returns-then-not-push_or_ask_all-clause-exact
is_valid_term-returns-then-not-push_or_ask_all-clause-exact g t c v s =
    let form = g.L.LanguageChildren.form in
    let t = c.args.table.now in
    let w : Term = c.args.term.now in
    let x : Term = c.loop-next.next.now in
    let us : List Term = c.deref.result.now in
    let view : term_of (form c.next.inside.node) us ≡ x = (λ i. term_of (form c.next.inside.node) (c.deref.ensures.value i)) ∙ c.next.view_is in
    let fits = g.met.L.LanguageChildren.fits c.next.inside.node in
    let over : IsValidOver t (form c.next.inside.node) (length us) = subst (IsValidOver t (form c.next.inside.node)) (omega (arith, c.len.ensures, c.next.inside.children.ok.0, c.deref.ensures.len)) (c.is_node_over.ensures.0 c.if-not-is_node_over.false) in
    let all = c.loop-next.invariant.exact (v, s) in
    let under = under-exact form t c.next.inside.node us x view fits all.0 in
    absurd (false≢true (sym c.if-not-push_or_ask_all.true ∙ (c.push_or_ask_all.ensures.exact all.1 under).0))

pub is_valid_term-loop-next-smaller : goal.is_valid_term-loop-next-smaller
is_valid_term-loop-next-smaller g t c =
    let form = g.L.LanguageChildren.form in
    let t = c.args.table.now in
    let w : Term = c.args.term.now in
    let x : Term = c.loop-next.next.now in
    let us : List Term = c.deref.result.now in
    let view : term_of (form c.next.inside.node) us ≡ x = (λ i. term_of (form c.next.inside.node) (c.deref.ensures.value i)) ∙ c.next.view_is in
    let fits = g.met.L.LanguageChildren.fits c.next.inside.node in
    let over : IsValidOver t (form c.next.inside.node) (length us) = subst (IsValidOver t (form c.next.inside.node)) (omega (arith, c.len.ensures, c.next.inside.children.ok.0, c.deref.ensures.len)) (c.is_node_over.ensures.0 c.if-not-is_node_over.false) in
    let last = mapped_last (λ t. t.now) c.push_or_ask_all.new.left.items c.pop.new.self.items c.pop.result c.in-Some.other c.pop.ensures.items c.in-Some.is in
    let rest : List Term = map (λ t. t.now) c.pop.new.self.items in
    let y : Term = c.in-Some.other.now in
    omega (arith, total_size-under (form c.next.inside.node) us x view, c.push_or_ask_all.ensures.light, ap total_size last, total_size-append rest (y ∷ []))

pub is_valid_term-loop-next-preserved : goal.is_valid_term-loop-next-preserved
is_valid_term-loop-next-preserved g t c =
    let form = g.L.LanguageChildren.form in
    let t = c.args.table.now in
    let w : Term = c.args.term.now in
    let x : Term = c.loop-next.next.now in
    let us : List Term = c.deref.result.now in
    let view : term_of (form c.next.inside.node) us ≡ x = (λ i. term_of (form c.next.inside.node) (c.deref.ensures.value i)) ∙ c.next.view_is in
    let fits = g.met.L.LanguageChildren.fits c.next.inside.node in
    let over : IsValidOver t (form c.next.inside.node) (length us) = subst (IsValidOver t (form c.next.inside.node)) (omega (arith, c.len.ensures, c.next.inside.children.ok.0, c.deref.ensures.len)) (c.is_node_over.ensures.0 c.if-not-is_node_over.false) in
    let last = mapped_last (λ t. t.now) c.push_or_ask_all.new.left.items c.pop.new.self.items c.pop.result c.in-Some.other c.pop.ensures.items c.in-Some.is in
    let rest : List Term = map (λ t. t.now) c.pop.new.self.items in
    let y : Term = c.in-Some.other.now in
    record {
      valid = λ here others.
          let both = c.push_or_ask_all.ensures.valid c.if-not-push_or_ask_all.false (All-same (IsTermOver t) _ _ last (All-push (IsTermOver t) rest y others here)) in
          c.loop-next.invariant.valid (over-valid form t c.next.inside.node us x view fits over both.1) both.0;
      exact = λ whole.
          let all = c.loop-next.invariant.exact whole in
          let under = under-exact form t c.next.inside.node us x view fits all.0 in
          let parts = all-before (IsSmallValidTerm form t) rest y (All-same (IsSmallValidTerm form t) _ _ (sym last) (c.push_or_ask_all.ensures.exact all.1 under).1) in
          (parts.1, parts.0);
      light = omega (arith, total_size-under (form c.next.inside.node) us x view, c.push_or_ask_all.ensures.light, ap total_size last, total_size-append rest (y ∷ []), c.loop-next.invariant.light);
    }

pub is_valid_term-returns-in-None-clause-valid : goal.is_valid_term-returns-in-None-clause-valid
is_valid_term-returns-in-None-clause-valid g t c y =
    let form = g.L.LanguageChildren.form in
    let t = c.args.table.now in
    let w : Term = c.args.term.now in
    let x : Term = c.loop-next.next.now in
    let us : List Term = c.deref.result.now in
    let view : term_of (form c.next.inside.node) us ≡ x = (λ i. term_of (form c.next.inside.node) (c.deref.ensures.value i)) ∙ c.next.view_is in
    let fits = g.met.L.LanguageChildren.fits c.next.inside.node in
    let over : IsValidOver t (form c.next.inside.node) (length us) = subst (IsValidOver t (form c.next.inside.node)) (omega (arith, c.len.ensures, c.next.inside.children.ok.0, c.deref.ensures.len)) (c.is_node_over.ensures.0 c.if-not-is_node_over.false) in
    let none = nothing c.push_or_ask_all.new.left.items (omega (arith, c.push_or_ask_all.new.left.ok.0, c.in-None.ensures.cases.0)) in
    let both = c.push_or_ask_all.ensures.valid c.if-not-push_or_ask_all.false (All-same (IsTermOver t) _ _ (ap (map (λ t. t.now)) none) (All-nil (IsTermOver t))) in
    (c.loop-next.invariant.valid (over-valid form t c.next.inside.node us x view fits over both.1) both.0).1

pub push_or_ask-returns-in-Ok-clause-valid : goal.push_or_ask-returns-in-Ok-clause-valid
push_or_ask-returns-in-Ok-clause-valid g t c y all =
    let old : List Term = map (λ t. t.now) c.args.left.now.items in
    let x : Term = c.args.term.now in
    let more : map (λ t. t.now) c.push.new.self.items ≡ old ++ x ∷ [] = ap (map (λ t. t.now)) c.in-Ok.ensures.items ∙ map-append (λ t. t.now) c.args.left.now.items (c.args.term ∷ []) in
    all-before (IsTermOver c.args.table.now) old x (All-same (IsTermOver c.args.table.now) _ _ (sym more) all)

pub push_or_ask-returns-in-Ok-clause-light : goal.push_or_ask-returns-in-Ok-clause-light
push_or_ask-returns-in-Ok-clause-light g t c =
    let old : List Term = map (λ t. t.now) c.args.left.now.items in
    let x : Term = c.args.term.now in
    let more : map (λ t. t.now) c.push.new.self.items ≡ old ++ x ∷ [] = ap (map (λ t. t.now)) c.in-Ok.ensures.items ∙ map-append (λ t. t.now) c.args.left.now.items (c.args.term ∷ []) in
    omega (arith, ap total_size more, total_size-append old (x ∷ []))

pub push_or_ask_all-push_or_ask-requires : goal.push_or_ask_all-push_or_ask-requires
push_or_ask_all-push_or_ask-requires g t c κs within =
    (omega (arith, total_size-at c.args.terms.now c.loop-term.term-index c.term-item.result c.loop-term-test.true c.term-item.is, c.decreases), search rules)

pub push_or_ask_all-returns-then-not-push_or_ask-clause-exact : goal.push_or_ask_all-returns-then-not-push_or_ask-clause-exact
push_or_ask_all-returns-then-not-push_or_ask-clause-exact g t c old all =
    let P = IsSmallValidTerm g.L.LanguageChildren.form c.args.table.now in
    let us : List Term = c.args.terms.now in
    let i = c.loop-term.term-index in
    let x : Term = c.term-item.result in
    let here : P x = subst P (sym c.term-item.is) (all i x c.loop-term-test.true) in
    let asked = c.push_or_ask.ensures.exact (c.loop-term.invariant.exact old (All-take P i us all)) here in
    absurd (false≢true (sym c.if-not-push_or_ask.true ∙ asked.0))

pub push_or_ask_all-returns-then-not-push_or_ask-clause-light : goal.push_or_ask_all-returns-then-not-push_or_ask-clause-light
push_or_ask_all-returns-then-not-push_or_ask-clause-light g t c =
    let us : List Term = c.args.terms.now in
    let i = c.loop-term.term-index in
    let x : Term = c.term-item.result in
    let taken : take (i + 1) us ≡ take i us ++ x ∷ [] = take_more us i x c.loop-term-test.true ∙ ap (λ y. take i us ++ y ∷ []) (sym c.term-item.is) in
    omega (arith, c.push_or_ask.ensures.light, c.loop-term.invariant.light, ap total_size taken, total_size-append (take i us) (x ∷ []), total_size-take (i + 1) us)

pub push_or_ask_all-loop-term-preserved : goal.push_or_ask_all-loop-term-preserved
push_or_ask_all-loop-term-preserved g t c =
    let us : List Term = c.args.terms.now in
    let i = c.loop-term.term-index in
    let x : Term = c.term-item.result in
    let taken : take (i + 1) us ≡ take i us ++ x ∷ [] = take_more us i x c.loop-term-test.true ∙ ap (λ y. take i us ++ y ∷ []) (sym c.term-item.is) in
    let V = IsTermOver c.args.table.now in
    let P = IsSmallValidTerm g.L.LanguageChildren.form c.args.table.now in
    record {
      valid = λ all.
          let both = c.push_or_ask.ensures.valid c.if-not-push_or_ask.false all in
          let before = c.loop-term.invariant.valid both.0 in
          (before.0, All-same V _ _ taken (All-push V (take i us) x before.1 both.1));
      exact = λ old all.
          let parts = all-before P (take i us) x (All-same P _ _ (sym taken) all) in
          (c.push_or_ask.ensures.exact (c.loop-term.invariant.exact old parts.0) parts.1).1;
      light = omega (arith, c.push_or_ask.ensures.light, c.loop-term.invariant.light, ap total_size taken, total_size-append (take i us) (x ∷ []));
    }

pub push_or_ask_all-returns-clause-exact : goal.push_or_ask_all-returns-clause-exact
push_or_ask_all-returns-clause-exact g t c old all =
    let P = IsSmallValidTerm g.L.LanguageChildren.form c.args.table.now in
    (refl, c.loop-term.invariant.exact old (All-take P c.loop-term.term-index c.args.terms.now all))
