-- Frames that wait, and frames with one child more replaced.
use Rattle.std.proofs.Common.{◌≡◌, ◌≢◌, ◌<◌, ◌≤◌, ◌∙◌, ℕ, List, [], ◌∷◌, ◌++◌, length, refl, ap, sym, subst, arith, inl, inr}
use Rattle.std.specs.Prelude.{All, Bool, false}
use Rattle.slotted_slots.specs.declared.types.AppliedId.{AppliedId}
use Rattle.slotted_slots.specs.Maps.{keys, values}
use Rattle.slotted_nodes.specs.Form.{Form, child_id, child_keys, child_names, children}
use Rattle.slotted_languages.specs.Shape.{Fits}
use Rattle.slotted_slots.specs.Table.{AllKnown}
use Rattle.slotted_model.specs.Applied.{Applied}
use Rattle.slotted_proofs.specs.Equations.{to_applied}
use Rattle.slotted_classes.specs.ChildIds.{child_ids}
use Rattle.slotted_classes.proofs.ChildIds.{child_is}
use Rattle.slotted_graph.specs.Adding.{AddsSyn}
use Rattle.slotted_graph.specs.Graph.{Graph, IsFullId}
use Rattle.slotted_graph.specs.States.{IsGraph}
use Rattle.slotted_graph.specs.ValidIds.{IsValidId}
use Rattle.slotted_model_rules.specs.ReplacedIds.{IsReplaced}
use Rattle.slotted_model_rules.proofs.Substitutions.ReplacedIds.{older-stays, whole-replaced}
use Rattle.slotted_rules.specs.declared.substitution.Frame.{Frame}
use Rattle.slotted_rules.specs.Building.{Builds}
use Rattle.slotted_rules.specs.Substituting.{Replaces}
use Rattle.slotted_rules.specs.Frames.{IsEntered, IsFrameFor, IsKnownAnswer, IsOpen, IsWalked, Opens, TakesAnswer, Waits, next_child}
use Rattle.slotted_rules.proofs.Growing.{builds-itself, builds-takes, builds-then, graph-canonical}
use Rattle.slotted_rules.proofs.Walking.{next-earlier, next-full, walked-children, walked-count, walked-end, walked-known, walked-part, walked-same, walked-start, walked-step, walked-value}

-- the next child, as it is read from the node
pub next-read : {L : Type 0} (form : L → Form) (r : Frame L) (a : AppliedId) → r.next < length (children (form r.node).tree) → a.id.0 ≡ child_id (form r.node) r.next → keys a.m ≡ child_keys (form r.node) r.next
    → values a.m ≡ child_names (form r.node) r.next → to_applied a ≡ next_child form r
next-read form r a lt id ks names = child_is (form r.node) r.next (0, []) (to_applied a) lt id ks names

module _ {L : Type 0} (form : L → Form) (x t : Applied) where
  pub known-replaces : (g : Graph) (b a : Applied) → IsGraph g → IsFullId g x → IsFullId g t → IsFullId g b → IsKnownAnswer x t b a → Replaces g g x t b a
  known-replaces g b a is part value body (inl h) =
      let stays : Replaces g g x t b b = record {
        builds = builds-itself g is;
        full = body;
        replaced = older-stays g.image.canonical (graph-canonical g is) x b part.full body.full h.0 t;
      } in
      subst (Replaces g g x t b) (sym h.1) stays
  known-replaces g b a is part value body (inr h) =
      let put : Replaces g g x t b t = record {
        builds = builds-itself g is;
        full = value;
        replaced = subst (λ z. IsReplaced g.image.canonical x t z t) (sym h.0) (whole-replaced g.image.canonical x t value.full);
      } in
      subst (Replaces g g x t b) (sym h.1) put

  -- no child of what was entered is replaced
  pub opens-frame : (g h : Graph) (b : Applied) (r : Frame L) → IsGraph g → IsFullId g x → IsFullId g t → IsFullId g b → b ≢ x → Fits (form r.node) → Opens form g h b r → IsFrameFor form g h x t b r
  opens-frame g h b r is part value body other fits o =
      let entered : IsEntered g h x t b (form r.node) = record {
        graph = is;
        part = part;
        value = value;
        body = body;
        takes = o.takes;
        node = o.node;
        fresh = o.fresh;
        valid = o.valid;
        children_full = o.children_full;
        fits = fits;
      } in
      record {
        id = o.id;
        other = other;
        opened = h;
        first = form r.node;
        entered = entered;
        walked = subst (λ (y : Bool). IsWalked h h x t (form r.node) (form r.node) y r.next) (sym o.changed)
            (subst (λ (k : ℕ). IsWalked h h x t (form r.node) (form r.node) false k) (sym o.next) (walked-start g h x t b (form r.node) entered));
        count = o.count;
        within = omega (arith, o.next);
      }

  module _ (g i : Graph) (b : Applied) (r : Frame L) (is : IsFrameFor form g i x t b r) where
    pub frame-builds : Builds g i
    frame-builds = builds-then g is.opened i (builds-takes g is.opened is.entered.graph is.entered.takes) is.walked.builds

    -- its node has as many children as at first
    pub frame-count : r.count ≡ length (children (form r.node).tree)
    frame-count = is.count ∙ sym (walked-count g is.opened x t b is.first is.entered i (form r.node) r.changed r.next is.walked)

    pub frame-part : IsFullId i x
    frame-part = walked-part g is.opened x t b is.first is.entered i (form r.node) r.changed r.next is.walked

    pub frame-value : IsFullId i t
    frame-value = walked-value g is.opened x t b is.first is.entered i (form r.node) r.changed r.next is.walked

    -- where it lacks a child
    module _ (lacks : IsOpen r) where
      lt : r.next < length (children is.first.tree)
      lt = omega (arith, lacks, is.count)

      pub frame-lacks : r.next < length (children (form r.node).tree)
      frame-lacks = omega (arith, lacks, frame-count)

      pub frame-next_full : IsFullId i (next_child form r)
      frame-next_full = next-full g is.opened x t b is.first is.entered i (form r.node) r.changed r.next is.walked lt

      pub frame-next_earlier : (next_child form r).0 < b.0
      frame-next_earlier = next-earlier g is.opened x t b is.first is.entered i (form r.node) r.changed r.next is.walked lt

      -- the answer for it is taken
      pub frame-takes : (j : Graph) (s : Frame L) (a : AppliedId) → Fits (form r.node) → Replaces i j x t (next_child form r) (to_applied a) → TakesAnswer form r s a → IsFrameFor form g j x t b s
      frame-takes j s a fits answer takes = record {
        id = ap to_applied takes.id ∙ is.id;
        other = is.other;
        opened = is.opened;
        first = is.first;
        entered = is.entered;
        walked = subst (λ (k : ℕ). IsWalked is.opened j x t is.first (form s.node) s.changed k) (sym takes.next)
            (walked-step g is.opened x t b is.first is.entered i (form r.node) r.changed r.next is.walked j (form s.node) a s.changed fits lt answer takes.node takes.stays);
        count = takes.count ∙ is.count;
        within = omega (arith, takes.next, takes.count, lacks);
      }

    -- where it lacks none
    module _ (whole : r.next ≡ r.count) where
      all : r.next ≡ length (children is.first.tree)
      all = whole ∙ is.count

      pub frame-known : AllKnown i.table (form r.node).names
      frame-known = walked-known g is.opened x t b is.first is.entered i (form r.node) r.changed r.next is.walked all

      pub frame-children : All (IsValidId i) (child_ids (form r.node))
      frame-children = walked-children g is.opened x t b is.first is.entered i (form r.node) r.changed r.next is.walked all

      pub frame-same : r.changed ≡ false → Replaces g i x t b b
      frame-same unchanged = walked-same g is.opened x t b is.first is.entered i (form r.node) r.changed r.next is.walked all unchanged is.other

      pub frame-end : (j : Graph) (a : Applied) → AddsSyn i j (form r.node) a → Builds i j → IsFullId j a → Replaces g j x t b a
      frame-end j a syn builds full = walked-end g is.opened x t b is.first is.entered i (form r.node) r.changed r.next is.walked all is.other j a syn builds full

  pub waits-builds : (g i : Graph) (b : Applied) (rs : List (Frame L)) (c : Applied) → IsGraph g → Waits form g i x t b rs c → Builds g i
  waits-builds g i b [] c is w = subst (Builds g) w.0 (builds-itself g is)
  waits-builds g i b (r ∷ rs) c is w =
      let first = frame-builds g w.0 b r w.1 in
      builds-then g w.0 i first (waits-builds w.0 i (next_child form r) rs c first.grows.graph w.3)

  -- classes get earlier along the frames
  pub waits-below : (g i : Graph) (b : Applied) (rs : List (Frame L)) (c : Applied) → Waits form g i x t b rs c → c.0 ≤ b.0
  waits-below g i b [] c w = omega (arith, ap (λ (a : Applied). a.0) w.1)
  waits-below g i b (r ∷ rs) c w =
      omega (arith, frame-next_earlier g w.0 b r w.1 w.2, waits-below w.0 i (next_child form r) rs c w.3)

  -- a frame more waits
  pub waits-more : (g m i : Graph) (b : Applied) (rs : List (Frame L)) (c : Applied) (r : Frame L) → Waits form g m x t b rs c → IsFrameFor form m i x t c r → IsOpen r → Waits form g i x t b (rs ++ r ∷ []) (next_child form r)
  waits-more g m i b [] c r w is lacks =
      let here : IsFrameFor form g i x t b r = subst (λ (z : Graph). IsFrameFor form z i x t b r) (sym w.0) (subst (λ (a : Applied). IsFrameFor form m i x t a r) (sym w.1) is) in
      (i, here, lacks, (refl, refl))
  waits-more g m i b (q ∷ rs) c r w is lacks = (w.0, w.1, w.2, waits-more w.0 m i (next_child form q) rs c r w.3 is lacks)

  -- the last one waits for the answer
  pub record WaitsLast (g i : Graph) (b : Applied) (rs : List (Frame L)) (r : Frame L) (c : Applied) : Type 0 where
    pub middle : Graph
    pub id : Applied
    pub waits : Waits form g middle x t b rs id
    pub frame : IsFrameFor form middle i x t id r
    pub lacks : IsOpen r
    pub next : next_child form r ≡ c

  pub waits-last : (g i : Graph) (b : Applied) (rs : List (Frame L)) (r : Frame L) (c : Applied) → Waits form g i x t b (rs ++ r ∷ []) c → WaitsLast g i b rs r c
  waits-last g i b [] r c w = record {
    middle = g;
    id = b;
    waits = (refl, refl);
    frame = subst (λ (z : Graph). IsFrameFor form g z x t b r) w.3.0 w.1;
    lacks = w.2;
    next = w.3.1;
  }
  waits-last g i b (q ∷ rs) r c w =
      let l = waits-last w.0 i (next_child form q) rs r c w.3 in
      record { middle = l.middle; id = l.id; waits = (w.0, w.1, w.2, l.waits); frame = l.frame; lacks = l.lacks; next = l.next }
