use Rattle.std.proofs.Common.{◌≡◌, ◌∷◌, ◌+◌, [], map, drop, sym, subst, ap, ◌∙◌}
use Rattle.std.proofs.lemmas.List.{drop_more, drop_all}
use Rattle.slotted_slots.specs.Syntax.{element_of}
use Rattle.slotted_patterns.specs.LentTokens.{lexeme}
use Rattle.slotted_terms.specs.Reader.{Reached, IsLastTerm, front}
use Rattle.slotted_terms.proofs.ReaderSteps.{if_some, reached_nothing, reached_last}
use Rattle.slotted_terms.proofs.reader.read_term.Goals as goal

pub loop-token-init : goal.loop-token-init
loop-token-init g c =
    let form = g.L.LanguageChildren.form in
    let read = g.L.LanguageChildren.read in
    let all = map lexeme c.args.tokens.now in
    subst (λ es. Reached form read all (map element_of es) c.in_ok-terms.terms.items all) (sym c.in_ok-elements.ensures.items)
    (subst (λ ts. Reached form read all [] ts all) (sym c.in_ok-terms.ensures.items) (reached_nothing form read all))

pub loop-token-preserved : goal.loop-token-preserved
loop-token-preserved g c =
    let xs = c.args.tokens.now in
    let i = c.loop-token.token-index in
    let x = c.token-item.result in
    let step : map lexeme (drop i xs) ≡ lexeme x ∷ map lexeme (drop (i + 1) xs) = ap (map lexeme) (drop_more xs i x c.loop-token-test.true ∙ (λ k. sym c.token-item.is k ∷ drop (i + 1) xs)) in
    (rw c.in-Some.is at c.in_ok-next.ensures.ok) (map lexeme (drop (i + 1) xs)) (map lexeme xs)
    (subst (λ ls. Reached g.L.LanguageChildren.form g.L.LanguageChildren.read (map lexeme xs) (map element_of c.loop-token.elements.items) c.loop-token.terms.items (front c.loop-token.due ls)) step c.loop-token.invariant)

pub returns-clause-ok : goal.returns-clause-ok
returns-clause-ok g c =
    let form = g.L.LanguageChildren.form in
    let read = g.L.LanguageChildren.read in
    let all = map lexeme c.args.tokens.now in
    let es = c.loop-token.elements.items in
    let ts = c.loop-token.terms.items in
    let due = c.loop-token.due in
    let none = ap (map lexeme) (drop_all c.loop-token.token-index c.args.tokens.now c.loop-token-test.false) in
    let reached = subst (λ ls. Reached form read all (map element_of es) ts (front due ls)) none c.loop-token.invariant in
    if_some c.whole.result c.whole.ensures (λ t o.
    reached_last form read all (map element_of es) ts due t (subst (λ l. IsLastTerm due (map element_of l) ts t) c.deref.ensures.value o) reached)
