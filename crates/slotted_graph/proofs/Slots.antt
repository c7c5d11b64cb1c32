-- The next child of a stack, and the slots for its node, which are part of what the stack has before it.
use Rattle.std.proofs.Common.{◌≡◌, ◌<◌, ◌≤◌, ◌∙◌, ℕ, List, [], Option, length, ap, sym, subst, inl, inr, arith}
use Rattle.std.specs.Prelude.{slice_index_or}
use Rattle.slotted_slots.specs.Table.{Table}
use Rattle.slotted_nodes.specs.Form.{Form, child_id, child_keys, child_names, children}
use Rattle.slotted_model.specs.Applied.{Applied, keys, values}
use Rattle.slotted_classes.specs.ChildIds.{child_ids}
use Rattle.slotted_classes.proofs.ChildIds.{child_is}
use Rattle.slotted_lookup.specs.Filling.{MakesAtMost}
use Rattle.slotted_graph.specs.declared.entry.TermEntry.{TermEntry}
use Rattle.slotted_graph.specs.declared.extracting.Frame.{Frame}
use Rattle.slotted_graph.specs.declared.extracting.Stack.{Stack}
use Rattle.slotted_graph.specs.Terms.{IsOrdered, RunsOutWith, entry_at, slots_at, slots_of}
use Rattle.slotted_graph.specs.Frames.{IsFrameFor, MakesLeft, RunsOutLeft, made_count, next_child, rest_from, slots_left}
use Rattle.slotted_reports.proofs.FreshNodes.{runs_out-more}
use Rattle.slotted_graph.proofs.Work.{next-slots}

pub next-is : {L : Type 0} (form : L → Form) (f : Frame L) → made_count f < length (children (form f.node).tree) → (k : ℕ) → k ≡ made_count f → (a : Applied) → a.0 ≡ child_id (form f.node) k →
    keys a.1 ≡ child_keys (form f.node) k → values a.1 ≡ child_names (form f.node) k → a ≡ next_child form f
next-is form f lt k same a id ks vs =
    child_is (form f.node) k (0, []) a (omega (arith, lt, same)) id ks vs
    ∙ ap (λ j. slice_index_or (child_ids (form f.node)) j (0, [])) same

module _ {L C : Type 0} (form : L → Form) (es : List (Option (TermEntry L C))) (ordered : IsOrdered form es) (s : Stack L) (a : Applied) (is : IsFrameFor form es a s.current)
    (lt : made_count s.current < length (children (form s.current.node).tree)) (b : Applied) (next : b ≡ next_child form s.current) (t u : Table) where
  part : slots_at form (entry_at es b.0) ≤ slots_left form es s
  part =
      let below : slots_at form (entry_at es b.0) ≤ rest_from form (slots_of form) es (made_count s.current) s.current =
      subst (λ (x : Applied). slots_at form (entry_at es x.0) ≤ rest_from form (slots_of form) es (made_count s.current) s.current) (sym next) (next-slots form es ordered a s.current is lt) in
      omega (arith, below)

  pub next-makes : MakesAtMost (slots_at form (entry_at es b.0)) t u → MakesLeft form es t u s
  next-makes makes = record { names = makes.names; taken = omega (arith, makes.taken, part) }

  pub next-lacks : RunsOutWith form es (slots_at form (entry_at es b.0)) t u → RunsOutLeft form es t u s
  next-lacks (inl out) = inl (runs_out-more (slots_at form (entry_at es b.0)) (slots_left form es s) t u part out)
  next-lacks (inr large) = inr large
