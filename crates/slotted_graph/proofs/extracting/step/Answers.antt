-- Where the current frame has all its children, its term is the next child of the frame that waits.
use Rattle.std.proofs.Common.{◌≡◌, ◌<◌, ◌+◌, ◌-◌, ◌∙◌, suc, [], ◌∷◌, ◌++◌, drop, length, take, ap, sym, subst, arith}
use Rattle.std.specs.Prelude.{All}
use Rattle.std.specs.List.{sum_by}
use Rattle.std.proofs.lemmas.List.{length_push}
use Rattle.std.proofs.lemmas.List.Elements.{All-push}
use Rattle.std.proofs.lemmas.List.Sums.{sum_by_push}
use Rattle.slotted_theory.specs.Term.{Term}
use Rattle.slotted_nodes.specs.Form.{Form, children}
use Rattle.slotted_languages.specs.Filled.{term_of}
use Rattle.slotted_terms.specs.Valid.{IsValidTerm}
use Rattle.slotted_operations.proofs.Ids.CanonicalTerms.{beside-itself}
use Rattle.slotted_operations.proofs.Ids.NodesOfIds.{valid-beside}
use Rattle.slotted_hashcons.specs.FiledRows.{key_children}
use Rattle.slotted_reports.specs.Nodes.{HasFreshNames}
use Rattle.slotted_graph.specs.Terms.{IsFreshTerm, IsMade, slots_of, sum_for}
use Rattle.slotted_graph.specs.Frames.{IsFreshFrame, IsKnownFrame, Waits, made_count, next_child, rest_from, waiting_rest}
use Rattle.slotted_graph.proofs.FreshTerms.{fresh-term}
use Rattle.slotted_graph.proofs.Known.{all-first, all-last, known-more}
use Rattle.slotted_graph.proofs.Stacks.{all-made, frame-closes, frame-more, waits-last}
use Rattle.slotted_graph.proofs.extracting.step.Goals as goal

pub returns-in_default-clause-end : goal.returns-in_default-clause-end
returns-in_default-clause-end g c _ =
    let form = g.L.LanguageChildren.form in
    let frame = c.args.stack.now.current in
    let s = c.requires.stack.1 in
    record {
      alone = c.in_default.ensures.rest ∙ ap (λ n. take (n - 1) c.args.stack.now.waiting.items) c.in_default.ensures.cases.0;
      whole = all-made form c.args.terms.now.entries.items s.last frame s.current (sym c.has_all_children.ensures ∙ c.if-not-has_all_children.false);
    }

pub close-term-requires : goal.close-term-requires
close-term-requires g c =
    let form = g.L.LanguageChildren.form in
    let frame = c.args.stack.now.current in
    let s = c.requires.stack.1 in
    subst (λ x. length x.children.items ≡ length (children (form x.node).tree)) (sym c.replace-done.ensures.value)
    (all-made form c.args.terms.now.entries.items s.last frame s.current (sym c.has_all_children.ensures ∙ c.if-not-has_all_children.false))

pub returns-clause-stack : goal.returns-clause-stack
returns-clause-stack g c a h =
    let form = g.L.LanguageChildren.form in
    let es = c.args.terms.now.entries.items in
    let frame = c.args.stack.now.current in
    let above = c.in-Some.frame in
    let whole = all-made form es h.last frame h.current (sym c.has_all_children.ensures ∙ c.if-not-has_all_children.false) in
    let r = waits-last form es a c.pop.new.self.items above h.last (subst (λ fs. Waits form es a fs h.last) c.in-Some.ensures.items h.waits) in
    let term : c.close-term.result ≡ term_of (form frame.node) frame.children.items = c.close-term.ensures ∙ ap (λ x. term_of (form x.node) x.children.items) c.replace-done.ensures.value in
    let made : IsMade form es (next_child form above) c.close-term.result =
    subst (λ b. IsMade form es b c.close-term.result) (sym r.next) (subst (IsMade form es h.last) (sym term) (frame-closes form es h.last frame h.current whole)) in
    let node = ap (λ x. x.node) c.replace-done.ensures.after in
    let items = c.in_ok-push.ensures.items ∙ ap (λ x. x.children.items ++ c.close-term.result ∷ []) c.replace-done.ensures.after in
    record {
      last = r.id;
      waits = r.waits;
      current = frame-more form es r.id above (record { node = c.replace-done.new.dest.node; children = c.push.new.self }) c.close-term.result r.frame r.lacks made node items;
    }

pub returns-clause-known : goal.returns-clause-known
returns-clause-known g c =
    let form = g.L.LanguageChildren.form in
    let es = c.args.terms.now.entries.items in
    let t = c.args.table.now in
    let frame = c.args.stack.now.current in
    let above = c.in-Some.frame in
    let f : Form = form frame.node in
    let s = c.requires.stack.1 in
    let whole = all-made form es s.last frame s.current (sym c.has_all_children.ensures ∙ c.if-not-has_all_children.false) in
    let term : c.close-term.result ≡ term_of f frame.children.items = c.close-term.ensures ∙ ap (λ x. term_of (form x.node) x.children.items) c.replace-done.ensures.value in
    let all = subst (All (IsKnownFrame form t)) c.in-Some.ensures.items c.requires.known.waiting in
    let k = c.requires.known.current in
    let valid : IsValidTerm t c.close-term.result =
    subst (IsValidTerm t) (sym term) (valid-beside t f f frame.children.items (g.met.L.LanguageChildren.fits frame.node) (beside-itself f) whole k.names k.operators k.children) in
    let op : 0 < c.close-term.result.op = subst (λ (x : Term). 0 < x.op) (sym term) (omega arith) in
    let node = ap (λ x. x.node) c.replace-done.ensures.after in
    let items = c.in_ok-push.ensures.items ∙ ap (λ x. x.children.items ++ c.close-term.result ∷ []) c.replace-done.ensures.after in
    record {
      waiting = all-first (IsKnownFrame form t) c.pop.new.self.items above all;
      current = known-more form t above (record { node = c.replace-done.new.dest.node; children = c.push.new.self }) c.close-term.result (all-last (IsKnownFrame form t) c.pop.new.self.items above all) op valid node items;
    }

pub returns-clause-fresh : goal.returns-clause-fresh
returns-clause-fresh g c t vs more is =
    let form = g.L.LanguageChildren.form in
    let es = c.args.terms.now.entries.items in
    let frame = c.args.stack.now.current in
    let above = c.in-Some.frame in
    let f : Form = form frame.node in
    let s = c.requires.stack.1 in
    let whole = all-made form es s.last frame s.current (sym c.has_all_children.ensures ∙ c.if-not-has_all_children.false) in
    let term : c.close-term.result ≡ term_of f frame.children.items = c.close-term.ensures ∙ ap (λ x. term_of (form x.node) x.children.items) c.replace-done.ensures.value in
    let all = subst (All (IsFreshFrame form t vs)) c.in-Some.ensures.items is.waiting in
    let made : IsFreshTerm t vs c.close-term.result =
    subst (IsFreshTerm t vs) (sym term) (fresh-term t vs f (g.met.L.LanguageChildren.fits frame.node) is.current.node frame.children.items is.current.children whole) in
    let last = all-last (IsFreshFrame form t vs) c.pop.new.self.items above all in
    let node = ap (λ x. x.node) c.replace-done.ensures.after in
    let items = c.in_ok-push.ensures.items ∙ ap (λ x. x.children.items ++ c.close-term.result ∷ []) c.replace-done.ensures.after in
    record {
      waiting = all-first (IsFreshFrame form t vs) c.pop.new.self.items above all;
      current = record {
        node = subst (λ n. HasFreshNames t vs (form n)) (sym node) last.node;
        children = subst (All (IsFreshTerm t vs)) (sym items) (All-push (IsFreshTerm t vs) above.children.items c.close-term.result last.children made);
      };
    }

pub returns-clause-made : goal.returns-clause-made
returns-clause-made g c =
    let form = g.L.LanguageChildren.form in
    let es = c.args.terms.now.entries.items in
    let above = c.in-Some.frame in
    let weight = slots_of form in
    let rest = c.pop.new.self.items in
    let node = ap (λ x. x.node) c.replace-done.ensures.after in
    let items = c.in_ok-push.ensures.items ∙ ap (λ x. x.children.items ++ c.close-term.result ∷ []) c.replace-done.ensures.after in
    let below : sum_by (waiting_rest form weight es) c.args.stack.now.waiting.items ≡ sum_by (waiting_rest form weight es) rest + waiting_rest form weight es above =
    ap (sum_by (waiting_rest form weight es)) c.in-Some.ensures.items ∙ sum_by_push (waiting_rest form weight es) rest above in
    let count : length c.push.new.self.items ≡ suc (made_count above) = omega (arith, ap length items, length_push above.children.items c.close-term.result) in
    let current : rest_from form weight es (length c.push.new.self.items) (record { node = c.replace-done.new.dest.node; children = c.push.new.self }) ≡ waiting_rest form weight es above =
    (λ i. sum_by (sum_for form weight es) (drop (count i) (key_children (form (node i))))) in
    omega (arith, below, current)
