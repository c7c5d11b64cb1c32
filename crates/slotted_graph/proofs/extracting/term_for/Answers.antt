-- In the end no frame waits: the term of the current one is what is made for the id.
use Rattle.std.proofs.Common.{rules, ◌≡◌, ◌∙◌, ap, inl, inr, refl, sym, subst, arith}
use Rattle.std.specs.Prelude.{All}
use Rattle.std.specs.List.{sum_by}
use Rattle.std.proofs.lemmas.List.Elements.{All-nil}
use Rattle.slotted_slots.specs.Maps.{values}
use Rattle.slotted_terms.specs.Valid.{IsValidTerm}
use Rattle.slotted_proofs.specs.Equations.{to_applied}
use Rattle.slotted_operations.proofs.Ids.CanonicalTerms.{beside-itself}
use Rattle.slotted_operations.proofs.Ids.NodesOfIds.{valid-beside}
use Rattle.slotted_graph.specs.Terms.{IsFreshTerm, IsMade, entry_at, slots_at, slots_for, slots_of}
use Rattle.slotted_graph.specs.Frames.{IsFreshFrame, IsKnownFrame, Waits, slots_left, waiting_rest}
use Rattle.slotted_graph.proofs.FreshTerms.{fresh-term}
use Rattle.slotted_reports.proofs.FreshNodes.{runs_out-after, runs_out-more}
use Rattle.slotted_graph.proofs.Stacks.{frame-closes}
use Rattle.slotted_graph.proofs.Work.{bare-slots, own-slots}
use Rattle.slotted_graph.proofs.extracting.term_for.Goals as goal

pub returns-clause-made : goal.returns-clause-made
returns-clause-made g c =
    let form = g.L.LanguageChildren.form in
    let es = c.args.terms.now.entries.items in
    let a = to_applied c.args.a.now in
    let end = c.in_ok-step.ensures.end c.if-branch.false in
    let s = c.in_ok-step.ensures.stack a c.loop-stack.invariant.stack in
    let frame = c.step.new.stack.current in
    let root : a ≡ s.last = subst (λ fs. Waits form es a fs s.last) end.alone s.waits in
    subst (λ b. IsMade form es b c.close.result) (sym root) (subst (IsMade form es s.last) (sym c.close.ensures) (frame-closes form es s.last frame s.current end.whole))

pub returns-clause-valid : goal.returns-clause-valid
returns-clause-valid g c =
    let form = g.L.LanguageChildren.form in
    let t = c.step.new.table in
    let end = c.in_ok-step.ensures.end c.if-branch.false in
    let frame = c.step.new.stack.current in
    let f = form frame.node in
    let k = c.in_ok-step.ensures.known.current in
    subst (IsValidTerm t) (sym c.close.ensures) (valid-beside t f f frame.children.items (g.met.L.LanguageChildren.fits frame.node) (beside-itself f) end.whole k.names k.operators k.children)

pub returns-clause-fresh : goal.returns-clause-fresh
returns-clause-fresh g c =
    let form = g.L.LanguageChildren.form in
    let t = c.args.table.now in
    let vs = values c.args.a.now.m in
    let end = c.in_ok-step.ensures.end c.if-branch.false in
    let frame = c.step.new.stack.current in
    let f = form frame.node in
    let is = c.in_ok-step.ensures.fresh t vs c.loop-stack.invariant.more c.loop-stack.invariant.fresh in
    subst (IsFreshTerm t vs) (sym c.close.ensures)
    (fresh-term t vs f (g.met.L.LanguageChildren.fits frame.node) is.current.node frame.children.items is.current.children end.whole)

pub returns-clause-count : goal.returns-clause-count
returns-clause-count g c =
    record { names = c.in_ok-step.ensures.count.names ∙ c.loop-stack.invariant.kept; taken = omega (arith, c.in_ok-step.ensures.made, c.loop-stack.invariant.made) }

pub returns-in_err-current-clause-count : goal.returns-in_err-current-clause-count
returns-in_err-current-clause-count g c =
    let form = g.L.LanguageChildren.form in
    let most = own-slots form c.args.terms.now.entries.items c.args.terms.now.ordered c.args.a.now.id.0 in
    let h = c.in_err-current.ensures.count in
    record { names = h.names; taken = omega (arith, h.taken, most) }

pub returns-in_err-current-clause-full : goal.returns-in_err-current-clause-full
returns-in_err-current-clause-full g c e =
    let form = g.L.LanguageChildren.form in
    let es = c.args.terms.now.entries.items in
    let i = c.args.a.now.id.0 in
    elim (c.in_err-current.ensures.full (search rules)) [
      | inl out ↦ inl (runs_out-more (slots_at form (entry_at es i)) (slots_for form es i) c.args.table.now c.frame_for.new.table (own-slots form es c.args.terms.now.ordered i) out)
      | inr large ↦ inr large
    ]

pub returns-in_err-step-clause-count : goal.returns-in_err-step-clause-count
returns-in_err-step-clause-count g c =
    let h = c.in_err-step.ensures.count in
    record { names = h.names ∙ c.loop-stack.invariant.kept; taken = omega (arith, h.taken, c.loop-stack.invariant.made) }

pub returns-in_err-step-clause-full : goal.returns-in_err-step-clause-full
returns-in_err-step-clause-full g c e =
    let form = g.L.LanguageChildren.form in
    let es = c.args.terms.now.entries.items in
    elim (c.in_err-step.ensures.full (search rules)) [
      | inl out ↦ inl (runs_out-after (slots_left form es c.loop-stack.stack) (slots_for form es c.args.a.now.id.0) c.args.table.now c.loop-stack.table c.step.new.table c.loop-stack.invariant.made out)
      | inr large ↦ inr large
    ]

pub loop-stack-init : goal.loop-stack-init
loop-stack-init g c =
    let form = g.L.LanguageChildren.form in
    let es = c.args.terms.now.entries.items in
    let ordered = c.args.terms.now.ordered in
    let a = to_applied c.args.a.now in
    let t = c.args.table.now in
    let u = c.frame_for.new.table in
    let vs = values c.args.a.now.m in
    let frame = c.in_ok-current.current in
    let none = c.new-waiting.ensures.items in
    let bare = bare-slots form es ordered a frame c.in_ok-current.ensures.frame c.in_ok-current.ensures.bare in
    let waits : sum_by (waiting_rest form (slots_of form) es) c.new-waiting.result.items ≡ 0 = ap (sum_by (waiting_rest form (slots_of form) es)) none in
    record {
      stack = record { last = a; waits = subst (λ fs. Waits form es a fs a) (sym none) refl; current = c.in_ok-current.ensures.frame };
      known = record { waiting = subst (All (IsKnownFrame form u)) (sym none) (All-nil (IsKnownFrame form u)); current = c.in_ok-current.ensures.known };
      more = c.in_ok-current.ensures.more;
      kept = c.in_ok-current.ensures.count.names;
      fresh = record { waiting = subst (All (IsFreshFrame form t vs)) (sym none) (All-nil (IsFreshFrame form t vs)); current = c.in_ok-current.ensures.fresh };
      made = omega (arith, bare, waits, c.in_ok-current.ensures.count.taken);
    }

pub loop-stack-preserved : goal.loop-stack-preserved
loop-stack-preserved g c =
    let h = c.loop-stack.invariant in
    record {
      stack = c.in_ok-step.ensures.stack (to_applied c.args.a.now) h.stack;
      known = c.in_ok-step.ensures.known;
      more = λ s k. c.in_ok-step.ensures.more s (h.more s k);
      kept = c.in_ok-step.ensures.count.names ∙ h.kept;
      fresh = c.in_ok-step.ensures.fresh c.args.table.now (values c.args.a.now.m) h.more h.fresh;
      made = omega (arith, c.in_ok-step.ensures.made, h.made);
    }
