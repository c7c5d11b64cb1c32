-- A stack of frames goes on: by an answer for a child, by a frame for it, or by an answer for the frame that waits. Each leaves less work.
use Rattle.std.proofs.Common.{◌≡◌, ◌<◌, ◌+◌, ◌*◌, ◌∙◌, ℕ, suc, List, [], ◌∷◌, ◌++◌, length, ap, sym, subst, arith}
use Rattle.std.specs.List.{sum_by}
use Rattle.std.proofs.lemmas.List.Sums.{sum_by_push}
use Rattle.slotted_slots.specs.declared.types.AppliedId.{AppliedId}
use Rattle.slotted_theory.specs.Nameless.{DTerm}
use Rattle.slotted_nodes.specs.Form.{Form, children}
use Rattle.slotted_languages.specs.Shape.{Fits}
use Rattle.slotted_model.specs.Applied.{Applied}
use Rattle.slotted_proofs.specs.Equations.{to_applied}
use Rattle.slotted_classes.specs.ChildIds.{child_ids}
use Rattle.slotted_operations.proofs.Ids.NodeCounts.{ids_nodes}
use Rattle.slotted_graph.specs.Graph.{Graph, IsFullId}
use Rattle.slotted_graph.specs.States.{IsGraph}
use Rattle.slotted_rules.specs.declared.substitution.Frame.{Frame}
use Rattle.slotted_rules.specs.declared.substitution.Stack.{Stack}
use Rattle.slotted_rules.specs.Building.{Builds}
use Rattle.slotted_rules.specs.Substituting.{Replaces}
use Rattle.slotted_rules.specs.Frames.{Closes, IsFrameFor, IsOpen, IsStackFor, Opens, TakesAnswer, Waits, next_child, waiting_work, work_from, work_left}
use Rattle.slotted_rules.proofs.Growing.{builds-then, graph-canonical}
use Rattle.slotted_rules.proofs.Frames.{frame-builds, frame-count, frame-lacks, frame-next_earlier, frame-next_full, frame-takes, waits-below, waits-builds, waits-last, waits-more, WaitsLast}
use Rattle.slotted_rules.proofs.FrameWork.{next-work, opened-nodes, taken-work}

module _ {L : Type 0} (form : L → Form) (x t : Applied) where
  waits-body : (g i : Graph) (b : Applied) (rs : List (Frame L)) (c : Applied) → Waits form g i x t b rs c → IsFullId i c → IsFullId g b
  waits-body g i b [] c w full = subst (λ (z : Graph). IsFullId z b) (sym w.0) (subst (IsFullId i) (sym w.1) full)
  waits-body g i b (r ∷ rs) c w full = w.1.entered.body

  waits-graph : (g i : Graph) (b : Applied) (rs : List (Frame L)) (c : Applied) → Waits form g i x t b rs c → IsGraph i → IsGraph g
  waits-graph g i b [] c w is = subst IsGraph (sym w.0) is
  waits-graph g i b (r ∷ rs) c w is = w.1.entered.graph

  module _ (g i : Graph) (b : Applied) (s : Stack L) (is : IsStackFor form g i x t b s) where
    abbrev r : Frame L
    r = s.current

    pub stack-builds : Builds g i
    stack-builds =
        let start = waits-graph g is.middle b s.waiting.items is.last is.waits is.current.entered.graph in
        builds-then g is.middle i (waits-builds form x t g is.middle b s.waiting.items is.last start is.waits) (frame-builds form x t is.middle i is.last r is.current)

    body : IsFullId g b
    body = waits-body g is.middle b s.waiting.items is.last is.waits is.current.entered.body

    -- in the end no frame waits
    pub stack-ends : s.waiting.items ≡ [] → (j : Graph) (a : Applied) → Closes form i j r a → Replaces g j x t b a
    stack-ends alone j a closes =
        let none : (g ≡ is.middle) × (b ≡ is.last) = subst (λ fs. Waits form g is.middle x t b fs is.last) alone is.waits in
        subst (λ (z : Graph). Replaces z j x t b a) (sym none.0) (subst (λ (c : Applied). Replaces is.middle j x t c a) (sym none.1) (closes is.middle x t is.last is.current))

    -- all children of the current frame are replaced, and so is the one that the frame under it waits for
    module _ (rest : List (Frame L)) (above : Frame L) (items : s.waiting.items ≡ rest ++ above ∷ []) where
      last : WaitsLast form x t g is.middle b rest above is.last
      last = waits-last form x t g is.middle b rest above is.last (subst (λ fs. Waits form g is.middle x t b fs is.last) items is.waits)

      pub stack-lacks : IsOpen above
      stack-lacks = last.lacks

      pub stack-count : above.count ≡ length (children (form above.node).tree)
      stack-count = frame-count form x t last.middle is.middle last.id above last.frame

      module _ (j : Graph) (a : AppliedId) (new : Stack L) (fits : Fits (form above.node)) (takes : TakesAnswer form above new.current a) (now : new.waiting.items ≡ rest) where
        pub stack-hands : Closes form i j r (to_applied a) → IsStackFor form g j x t b new
        stack-hands closes =
            let answer : Replaces is.middle j x t (next_child form above) (to_applied a) =
            subst (λ (c : Applied). Replaces is.middle j x t c (to_applied a)) (sym last.next) (closes is.middle x t is.last is.current) in
            record {
              middle = last.middle;
              last = last.id;
              waits = subst (λ fs. Waits form g last.middle x t b fs last.id) (sym now) last.waits;
              current = frame-takes form x t last.middle is.middle last.id above last.frame last.lacks j new.current a fits answer takes;
            }

        pub hands-work : (nodes : List DTerm) → work_left form nodes new < work_left form nodes s
        hands-work nodes =
            let below : sum_by (waiting_work form nodes) s.waiting.items ≡ sum_by (waiting_work form nodes) rest + waiting_work form nodes above =
            ap (sum_by (waiting_work form nodes)) items ∙ sum_by_push (waiting_work form nodes) rest above in
            omega (
              arith,
              below,
              ap (sum_by (waiting_work form nodes)) now,
              taken-work form nodes above (frame-lacks form x t last.middle is.middle last.id above last.frame last.lacks) new.current a fits takes,
            )

    -- a child of the current frame is not replaced yet
    module _ (lacks : IsOpen r) where
      lt : r.next < length (children (form r.node).tree)
      lt = frame-lacks form x t is.middle i is.last r is.current lacks

      module _ (j : Graph) (a : AppliedId) (new : Stack L) (fits : Fits (form r.node)) (takes : TakesAnswer form r new.current a) (now : new.waiting.items ≡ s.waiting.items) where
        pub stack-takes : Replaces i j x t (next_child form r) (to_applied a) → IsStackFor form g j x t b new
        stack-takes answer = record {
          middle = is.middle;
          last = is.last;
          waits = subst (λ fs. Waits form g is.middle x t b fs is.last) (sym now) is.waits;
          current = frame-takes form x t is.middle i is.last r is.current lacks j new.current a fits answer takes;
        }

        pub takes-work : (nodes : List DTerm) → work_left form nodes new < work_left form nodes s
        takes-work nodes =
            omega (
              arith,
              ap (sum_by (waiting_work form nodes)) now,
              next-work form nodes r lt,
              taken-work form nodes r lt new.current a fits takes,
            )

      module _ (j : Graph) (q w : Frame L) (new : Stack L) (here : new.current ≡ q) (was : w ≡ r) (pushed : new.waiting.items ≡ s.waiting.items ++ w ∷ []) where
        now : new.waiting.items ≡ s.waiting.items ++ r ∷ []
        now = pushed ∙ ap (λ (f : Frame L). s.waiting.items ++ f ∷ []) was

        pub stack-enters : IsFrameFor form i j x t (next_child form r) q → IsStackFor form g j x t b new
        stack-enters frame = record {
          middle = i;
          last = next_child form r;
          waits = subst (λ fs. Waits form g i x t b fs (next_child form r)) (sym now)
              (waits-more form x t g is.middle i b s.waiting.items is.last r is.waits is.current lacks);
          current = subst (IsFrameFor form i j x t (next_child form r)) (sym here) frame;
        }

        pub enters-work : Fits (form q.node) → Opens form i j (next_child form r) q → work_left form g.image.canonical new < work_left form g.image.canonical s
        enters-work fits opens =
            let nodes : List DTerm = g.image.canonical in
            let earlier = frame-next_earlier form x t is.middle i is.last r is.current lacks in
            let within : (next_child form r).0 < length nodes = omega (arith, earlier, waits-below form x t g is.middle b s.waiting.items is.last is.waits, body.full.in_range) in
            let full = frame-next_full form x t is.middle i is.last r is.current lacks in
            let inside : ids_nodes nodes (next_child form r ∷ []) ≡ suc (ids_nodes nodes (child_ids (form q.node))) =
            opened-nodes nodes i.image.canonical stack-builds.grows.extends.canonical (graph-canonical i stack-builds.grows.graph) (next_child form r) within full.full (form q.node) fits opens.node in
            let below : sum_by (waiting_work form nodes) new.waiting.items ≡ sum_by (waiting_work form nodes) s.waiting.items + waiting_work form nodes r =
            ap (sum_by (waiting_work form nodes)) now ∙ sum_by_push (waiting_work form nodes) s.waiting.items r in
            let current : work_from form nodes new.current.next new.current ≡ suc (2 * ids_nodes nodes (child_ids (form q.node))) =
            ap (λ (f : Frame L). work_from form nodes f.next f) here ∙ ap (λ (n : ℕ). work_from form nodes n q) opens.next in
            omega (arith, below, current, inside, next-work form nodes r lt)
