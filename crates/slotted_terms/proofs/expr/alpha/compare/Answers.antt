use Rattle.std.proofs.Common.{◌≡◌, ◌++◌, ap, sym, subst, ◌∙◌, length, List}
use Rattle.std.proofs.lemmas.Bool.{false≢true}
use Rattle.slotted_languages.specs.Filled.{term_of}
use Rattle.slotted_theory.specs.Term.{Term}
use Rattle.slotted_terms.specs.Pairs.{SameBelow}
use Rattle.slotted_terms.proofs.PairLists.{opens}
use Rattle.slotted_terms.proofs.expr.alpha.compare.Goals as goal

pub push_pairs-requires-clause-matched : goal.push_pairs-requires-clause-matched
push_pairs-requires-clause-matched g c =
    let below = rw c.in-Some.is at c.in_ok-nodes.ensures.some in
    below.matched

pub push_pairs-requires-clause-count : goal.push_pairs-requires-clause-count
push_pairs-requires-clause-count g c =
    let below = rw c.in-Some.is at c.in_ok-nodes.ensures.some in
    ap length (c.deref-in-Some.ensures.value ∙ sym c.deref.ensures.value) ∙ (below.count ∙ ap length (c.deref-2.ensures.value ∙ sym c.deref-in-Some-2.ensures.value))

pub returns-in-Some-clause-same : goal.returns-in-Some-clause-same
returns-in-Some-clause-same g c =
    let form = g.L.LanguageChildren.form in
    let a = form c.one.inside.node in
    let b = form c.two.inside.node in
    let ts : List Term = c.deref-in-Some.result.now in
    let us : List Term = c.deref-in-Some-2.result.now in
    let s = c.append.new.self.items in
    let raw = rw c.in-Some.is at c.in_ok-nodes.ensures.some in
    let below : SameBelow form c.in-Some.nodes s a b ts us =
    subst (λ (x : List Term × List Term). SameBelow form c.in-Some.nodes s a b x.0 x.1) (λ i. ((c.deref.ensures.value ∙ sym c.deref-in-Some.ensures.value) i, (c.deref-2.ensures.value ∙ sym c.deref-in-Some-2.ensures.value) i)) raw in
    let one : term_of a ts ≡ c.args.pair.one.now = ap (term_of a) c.deref-in-Some.ensures.value ∙ c.one.view_is in
    let two : term_of b us ≡ c.args.pair.two.now = ap (term_of b) c.deref-in-Some-2.ensures.value ∙ c.two.view_is in
    let s-is = c.in_ok-append.ensures.items ∙ ap (λ xs. xs ++ c.args.pair.above.items) c.truncate.ensures.items in
    record {
      no = λ e. absurd (false≢true (sym e));
      yes = λ e. opens form c.args.binders.now.items c.push_pairs.new.binders.items s c.same_nodes.new.binders.items c.args.pair c.in-Some.nodes a b ts us c.args.left.now.items c.push_pairs.new.left.items s-is c.in_ok-nodes.ensures.kept c.in_ok-push_pairs-in-Some.ensures.kept one two below c.in_ok-push_pairs-in-Some.ensures.ok;
    }
