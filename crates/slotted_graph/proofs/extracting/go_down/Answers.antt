-- The child has an entry of a lower rank; its frame is made, and the one over it waits.
use Rattle.std.proofs.Common.{rules, ◌≡◌, ◌<◌, ◌≤◌, ◌+◌, ◌∙◌, [], ◌∷◌, ◌++◌, length, ap, refl, sym, subst, arith}
use Rattle.std.specs.Prelude.{All, is_some}
use Rattle.std.specs.List.{sum_by}
use Rattle.std.proofs.lemmas.Bool.{leb-false}
use Rattle.std.proofs.lemmas.List.Elements.{All-nil, All-push}
use Rattle.std.proofs.lemmas.List.Sums.{sum_by_push}
use Rattle.slotted_slots.specs.declared.types.AppliedId.{AppliedId}
use Rattle.slotted_slots.specs.Maps.{values}
use Rattle.slotted_nodes.specs.Form.{Form, child_names, children}
use Rattle.slotted_model.specs.Applied.{Applied}
use Rattle.slotted_proofs.specs.Equations.{to_applied}
use Rattle.slotted_classes.proofs.ChildIds.{length-ids}
use Rattle.slotted_operations.proofs.Ids.NodesOfIds.{child_names-known}
use Rattle.slotted_graph.specs.Terms.{IsFreshTerm, IsGivenOrNew, entry_at, slots_at, slots_of}
use Rattle.slotted_graph.specs.Frames.{IsFrameFor, IsFreshFrame, IsKnownFrame, IsOpen, Waits, made_count, next_child, rest_from, waiting_rest, waiting_work, work_for, work_from}
use Rattle.slotted_graph.proofs.FreshTerms.{all-new, fresh-before}
use Rattle.slotted_graph.proofs.Known.{frames-later, frame-later}
use Rattle.slotted_graph.proofs.Stacks.{waits-more}
use Rattle.slotted_graph.proofs.Slots.{next-is, next-lacks, next-makes}
use Rattle.slotted_graph.proofs.Work.{bare-slots, bare-work, next-rest, next-there, next-work}
use Rattle.slotted_graph.proofs.extracting.go_down.Goals as goal

pub frame_for-requires-clause-there : goal.frame_for-requires-clause-there
frame_for-requires-clause-there g c =
    let form = g.L.LanguageChildren.form in
    let es = c.args.terms.now.entries.items in
    let frame = c.args.stack.now.current in
    let f : Form = form frame.node in
    let s = c.requires.stack.1 in
    let lt : made_count frame < length (children f.tree) = leb-false (length (children f.tree)) (made_count frame) c.requires.left in
    let k : c.len-next.result ≡ made_count frame = omega (arith, c.len-next.ensures, frame.children.ok) in
    let is : to_applied c.in_ok-child.child ≡ next_child form frame =
    ap to_applied c.in_ok-child.ensures.ok
    ∙ next-is form frame lt c.len-next.result k (to_applied c.applied_id.result.now) c.applied_id.ensures.id c.applied_id.ensures.keys c.applied_id.ensures.names in
    let e = next-there form es c.args.terms.now.ordered s.last frame s.current lt in
    ap is_some (ap (λ (a : Applied). entry_at es a.0) is ∙ e.1)

pub returns-clause-stack : goal.returns-clause-stack
returns-clause-stack g c a h =
    let form = g.L.LanguageChildren.form in
    let es = c.args.terms.now.entries.items in
    let frame = c.args.stack.now.current in
    let f : Form = form frame.node in
    let lt : made_count frame < length (children f.tree) = leb-false (length (children f.tree)) (made_count frame) c.requires.left in
    let k : c.len-next.result ≡ made_count frame = omega (arith, c.len-next.ensures, frame.children.ok) in
    let is : to_applied c.in_ok-child.child ≡ next_child form frame =
    ap to_applied c.in_ok-child.ensures.ok
    ∙ next-is form frame lt c.len-next.result k (to_applied c.applied_id.result.now) c.applied_id.ensures.id c.applied_id.ensures.keys c.applied_id.ensures.names in
    let lacks : IsOpen form frame = omega (arith, lt, length-ids f.tree f.names) in
    let items = c.in_ok-push.ensures.items ∙ ap (λ x. c.args.stack.now.waiting.items ++ x ∷ []) c.replace-waiting.ensures.value in
    record {
      last = next_child form frame;
      waits = subst (λ fs. Waits form es a fs (next_child form frame)) (sym items) (waits-more form es a c.args.stack.now.waiting.items h.last frame h.waits h.current lacks);
      current = subst (λ x. IsFrameFor form es (next_child form frame) x) (sym c.replace-waiting.ensures.after)
          (subst (λ b. IsFrameFor form es b c.in_ok-frame.frame) is c.in_ok-frame.ensures.frame);
    }

pub returns-clause-known : goal.returns-clause-known
returns-clause-known g c =
    let form = g.L.LanguageChildren.form in
    let t = c.args.table.now in
    let u = c.frame_for.new.table in
    let waiting = c.args.stack.now.waiting.items in
    let items = c.in_ok-push.ensures.items ∙ ap (λ x. waiting ++ x ∷ []) c.replace-waiting.ensures.value in
    record {
      waiting = subst (All (IsKnownFrame form u)) (sym items)
          (All-push (IsKnownFrame form u) waiting c.args.stack.now.current (frames-later form t u c.in_ok-frame.ensures.more waiting c.requires.known.waiting) (frame-later form t u c.in_ok-frame.ensures.more c.args.stack.now.current c.requires.known.current));
      current = subst (IsKnownFrame form u) (sym c.replace-waiting.ensures.after) c.in_ok-frame.ensures.known;
    }

pub returns-clause-work : goal.returns-clause-work
returns-clause-work g c =
    let form = g.L.LanguageChildren.form in
    let es = c.args.terms.now.entries.items in
    let ordered = c.args.terms.now.ordered in
    let frame = c.args.stack.now.current in
    let waiting = c.args.stack.now.waiting.items in
    let next = c.in_ok-frame.frame in
    let f : Form = form frame.node in
    let lt : made_count frame < length (children f.tree) = leb-false (length (children f.tree)) (made_count frame) c.requires.left in
    let k : c.len-next.result ≡ made_count frame = omega (arith, c.len-next.ensures, frame.children.ok) in
    let is : to_applied c.in_ok-child.child ≡ next_child form frame =
    ap to_applied c.in_ok-child.ensures.ok
    ∙ next-is form frame lt c.len-next.result k (to_applied c.applied_id.result.now) c.applied_id.ensures.id c.applied_id.ensures.keys c.applied_id.ensures.names in
    let made : work_from form es (made_count next) next < work_for form es (next_child form frame).0 =
    bare-work form es ordered (next_child form frame) next (subst (λ b. IsFrameFor form es b next) is c.in_ok-frame.ensures.frame) c.in_ok-frame.ensures.bare in
    let items = c.in_ok-push.ensures.items ∙ ap (λ x. waiting ++ x ∷ []) c.replace-waiting.ensures.value in
    let below : sum_by (waiting_work form es) c.push.new.self.items ≡ sum_by (waiting_work form es) waiting + waiting_work form es frame =
    ap (sum_by (waiting_work form es)) items ∙ sum_by_push (waiting_work form es) waiting frame in
    let current : work_from form es (made_count c.replace-waiting.new.dest) c.replace-waiting.new.dest ≡ work_from form es (made_count next) next =
    ap (λ x. work_from form es (made_count x) x) c.replace-waiting.ensures.after in
    omega (arith, made, below, current, next-work form es ordered frame lt)

pub returns-clause-made : goal.returns-clause-made
returns-clause-made g c =
    let form = g.L.LanguageChildren.form in
    let es = c.args.terms.now.entries.items in
    let ordered = c.args.terms.now.ordered in
    let frame = c.args.stack.now.current in
    let waiting = c.args.stack.now.waiting.items in
    let next = c.in_ok-frame.frame in
    let weight = slots_of form in
    let f : Form = form frame.node in
    let lt : made_count frame < length (children f.tree) = leb-false (length (children f.tree)) (made_count frame) c.requires.left in
    let k : c.len-next.result ≡ made_count frame = omega (arith, c.len-next.ensures, frame.children.ok) in
    let is : to_applied c.in_ok-child.child ≡ next_child form frame =
    ap to_applied c.in_ok-child.ensures.ok
    ∙ next-is form frame lt c.len-next.result k (to_applied c.applied_id.result.now) c.applied_id.ensures.id c.applied_id.ensures.keys c.applied_id.ensures.names in
    let taken : c.frame_for.new.table.fresh ≤ c.args.table.now.fresh + slots_at form (entry_at es (next_child form frame).0) =
    subst (λ (a : Applied). c.frame_for.new.table.fresh ≤ c.args.table.now.fresh + slots_at form (entry_at es a.0)) is c.in_ok-frame.ensures.count.taken in
    let bare = bare-slots form es ordered (next_child form frame) next (subst (λ b. IsFrameFor form es b next) is c.in_ok-frame.ensures.frame) c.in_ok-frame.ensures.bare in
    let items = c.in_ok-push.ensures.items ∙ ap (λ x. waiting ++ x ∷ []) c.replace-waiting.ensures.value in
    let below : sum_by (waiting_rest form weight es) c.push.new.self.items ≡ sum_by (waiting_rest form weight es) waiting + waiting_rest form weight es frame =
    ap (sum_by (waiting_rest form weight es)) items ∙ sum_by_push (waiting_rest form weight es) waiting frame in
    let current : rest_from form weight es (made_count c.replace-waiting.new.dest) c.replace-waiting.new.dest ≡ rest_from form weight es (made_count next) next =
    ap (λ x. rest_from form weight es (made_count x) x) c.replace-waiting.ensures.after in
    omega (arith, taken, bare, below, current, next-rest form es ordered weight frame lt)

pub returns-clause-fresh : goal.returns-clause-fresh
returns-clause-fresh g c t vs more is =
    let form = g.L.LanguageChildren.form in
    let u = c.args.table.now in
    let frame = c.args.stack.now.current in
    let waiting = c.args.stack.now.waiting.items in
    let f : Form = form frame.node in
    let fits = g.met.L.LanguageChildren.fits frame.node in
    let own : All (IsGivenOrNew t vs) f.names = all-new t vs f fits is.current.node in
    let names : values c.in_ok-child.child.m ≡ child_names f c.len-next.result = ap (λ (a : AppliedId). values a.m) c.in_ok-child.ensures.ok ∙ c.applied_id.ensures.names in
    let given : All (IsGivenOrNew t vs) (values c.in_ok-child.child.m) =
    subst (All (IsGivenOrNew t vs)) (sym names) (child_names-known (IsGivenOrNew t vs) f c.len-next.result own) in
    let items = c.in_ok-push.ensures.items ∙ ap (λ x. waiting ++ x ∷ []) c.replace-waiting.ensures.value in
    let node = fresh-before t u more vs (values c.in_ok-child.child.m) given (form c.in_ok-frame.frame.node) c.in_ok-frame.ensures.fresh.node in
    let none = subst (All (IsFreshTerm t vs)) (sym c.in_ok-frame.ensures.bare) (All-nil (IsFreshTerm t vs)) in
    record {
      waiting = subst (All (IsFreshFrame form t vs)) (sym items) (All-push (IsFreshFrame form t vs) waiting frame is.waiting is.current);
      current = subst (IsFreshFrame form t vs) (sym c.replace-waiting.ensures.after) (record { node = node; children = none });
    }

pub returns-clause-count : goal.returns-clause-count
returns-clause-count g c =
    let form = g.L.LanguageChildren.form in
    let es = c.args.terms.now.entries.items in
    let frame = c.args.stack.now.current in
    let f : Form = form frame.node in
    let s = c.requires.stack.1 in
    let lt : made_count frame < length (children f.tree) = leb-false (length (children f.tree)) (made_count frame) c.requires.left in
    let k : c.len-next.result ≡ made_count frame = omega (arith, c.len-next.ensures, frame.children.ok) in
    let is : to_applied c.in_ok-child.child ≡ next_child form frame =
    ap to_applied c.in_ok-child.ensures.ok
    ∙ next-is form frame lt c.len-next.result k (to_applied c.applied_id.result.now) c.applied_id.ensures.id c.applied_id.ensures.keys c.applied_id.ensures.names in
    next-makes form es c.args.terms.now.ordered c.args.stack.now s.last s.current lt (to_applied c.in_ok-child.child) is c.args.table.now c.frame_for.new.table c.in_ok-frame.ensures.count

pub returns-in_err-child-clause-count : goal.returns-in_err-child-clause-count
returns-in_err-child-clause-count g c = record { names = refl; taken = omega arith }

pub returns-in_err-frame-clause-count : goal.returns-in_err-frame-clause-count
returns-in_err-frame-clause-count g c =
    let form = g.L.LanguageChildren.form in
    let es = c.args.terms.now.entries.items in
    let frame = c.args.stack.now.current in
    let f : Form = form frame.node in
    let s = c.requires.stack.1 in
    let lt : made_count frame < length (children f.tree) = leb-false (length (children f.tree)) (made_count frame) c.requires.left in
    let k : c.len-next.result ≡ made_count frame = omega (arith, c.len-next.ensures, frame.children.ok) in
    let is : to_applied c.in_ok-child.child ≡ next_child form frame =
    ap to_applied c.in_ok-child.ensures.ok
    ∙ next-is form frame lt c.len-next.result k (to_applied c.applied_id.result.now) c.applied_id.ensures.id c.applied_id.ensures.keys c.applied_id.ensures.names in
    next-makes form es c.args.terms.now.ordered c.args.stack.now s.last s.current lt (to_applied c.in_ok-child.child) is c.args.table.now c.frame_for.new.table c.in_err-frame.ensures.count

pub returns-in_err-push-clause-count : goal.returns-in_err-push-clause-count
returns-in_err-push-clause-count g c =
    let form = g.L.LanguageChildren.form in
    let es = c.args.terms.now.entries.items in
    let frame = c.args.stack.now.current in
    let f : Form = form frame.node in
    let s = c.requires.stack.1 in
    let lt : made_count frame < length (children f.tree) = leb-false (length (children f.tree)) (made_count frame) c.requires.left in
    let k : c.len-next.result ≡ made_count frame = omega (arith, c.len-next.ensures, frame.children.ok) in
    let is : to_applied c.in_ok-child.child ≡ next_child form frame =
    ap to_applied c.in_ok-child.ensures.ok
    ∙ next-is form frame lt c.len-next.result k (to_applied c.applied_id.result.now) c.applied_id.ensures.id c.applied_id.ensures.keys c.applied_id.ensures.names in
    next-makes form es c.args.terms.now.ordered c.args.stack.now s.last s.current lt (to_applied c.in_ok-child.child) is c.args.table.now c.frame_for.new.table c.in_ok-frame.ensures.count

pub returns-in_err-frame-clause-full : goal.returns-in_err-frame-clause-full
returns-in_err-frame-clause-full g c e =
    let form = g.L.LanguageChildren.form in
    let es = c.args.terms.now.entries.items in
    let frame = c.args.stack.now.current in
    let f : Form = form frame.node in
    let s = c.requires.stack.1 in
    let lt : made_count frame < length (children f.tree) = leb-false (length (children f.tree)) (made_count frame) c.requires.left in
    let k : c.len-next.result ≡ made_count frame = omega (arith, c.len-next.ensures, frame.children.ok) in
    let is : to_applied c.in_ok-child.child ≡ next_child form frame =
    ap to_applied c.in_ok-child.ensures.ok
    ∙ next-is form frame lt c.len-next.result k (to_applied c.applied_id.result.now) c.applied_id.ensures.id c.applied_id.ensures.keys c.applied_id.ensures.names in
    next-lacks form es c.args.terms.now.ordered c.args.stack.now s.last s.current lt (to_applied c.in_ok-child.child) is c.args.table.now c.frame_for.new.table (c.in_err-frame.ensures.full (search rules))
