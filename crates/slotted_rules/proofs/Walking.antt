-- The walk of a substitution through the children of a node: what holds after some of them, and what it leaves at the end.
use Rattle.std.proofs.Common.{◌≡◌, ◌≢◌, ℕ, suc, ◌+◌, ◌<◌, List, [], ◌∷◌, ◌++◌, length, take, refl, sym, ◌∙◌, ap, subst, arith, inl, inr, length-append}
use Rattle.std.specs.Prelude.{All, Bool, false, Contains, IsTrue, slice_index_or}
use Rattle.std.proofs.lemmas.Bool.{cases_eq, false≢true}
use Rattle.std.proofs.lemmas.List.{get_or_append_left, take_more, take_all}
use Rattle.std.proofs.lemmas.List.Elements.{All-contains}
use Rattle.std.proofs.Math.Seq.{get_or-append_seam}
use Rattle.slotted_slots.specs.declared.types.AppliedId.{AppliedId}
use Rattle.slotted_slots.specs.Table.{is_known, AllKnown}
use Rattle.slotted_slots.specs.Maps.{keys, values}
use Rattle.slotted_nodes.specs.Form.{Form, children, with_applied, with_child}
use Rattle.slotted_languages.specs.Children.{IsBound}
use Rattle.slotted_languages.specs.NodeTerm.{nameless_node}
use Rattle.slotted_languages.specs.Shape.{Fits}
use Rattle.slotted_theory.specs.Nameless.{DArgs, DTerm}
use Rattle.slotted_theory.proofs.Values.{node}
use Rattle.slotted_model.specs.Applied.{Applied}
use Rattle.slotted_model.specs.Classes.{IsFull, term_of, layer_of}
use Rattle.slotted_model.specs.Filling.{FillsArgs}
use Rattle.slotted_model.proofs.Represented.Full.{term_of-layer}
use Rattle.slotted_proofs.specs.Equations.{to_applied}
use Rattle.slotted_classes.specs.ChildIds.{child_ids}
use Rattle.slotted_classes.proofs.ChildIds.{length-ids}
use Rattle.slotted_classes.proofs.KeptLists.{any_default}
use Rattle.slotted_lookup.specs.Filling.{node_over}
use Rattle.slotted_lookup.proofs.NodesOver.{node_over-none, node_over-more, node_over-own, child_ids-over, length-over, over_fits}
use Rattle.slotted_operations.proofs.CallerLemmas.{full-valid}
use Rattle.slotted_operations.proofs.Ids.CanonicalTerms.{children-below}
use Rattle.slotted_operations.proofs.Additions.NodeAddition.{full_children}
use Rattle.slotted_graph.specs.Adding.{AddsSyn}
use Rattle.slotted_graph.specs.Graph.{Graph, IsFullId}
use Rattle.slotted_graph.specs.Image.{Image}
use Rattle.slotted_graph.specs.ValidIds.{IsValidId}
use Rattle.slotted_model_rules.specs.Matcher.{unnamed, bound_names}
use Rattle.slotted_model_rules.specs.ReplacedIds.{IsReplaced, HasReplacedIds, ids_of}
use Rattle.slotted_model_rules.proofs.Substitutions.ReplacedIds.{replaced-stays, replaced-by_number, added-replaced, unchanged-stays}
use Rattle.slotted_rule_patterns.specs.NodeArguments.{node_arguments}
use Rattle.slotted_rule_patterns.proofs.NodeArguments.{unnamed-node, ids-node, bound-name}
use Rattle.slotted_rules.specs.Building.{Builds}
use Rattle.slotted_rules.specs.Substituting.{Replaces}
use Rattle.slotted_rules.specs.Frames.{at, IsEntered, IsWalked}
use Rattle.slotted_rules.proofs.Growing.{graph-canonical, builds-takes, builds-itself, builds-then, full-builds}
use Rattle.slotted_rules.proofs.NodesOver.{known-over, arguments-over, later-children}

module _ (g h : Graph) (x t b : Applied) (f : Form) (entered : IsEntered g h x t b f) where
  entered-builds : Builds g h
  entered-builds = builds-takes g h entered.graph entered.takes

  pub entered-part : IsFullId h x
  entered-part = full-builds g h x entered-builds entered.part

  pub entered-value : IsFullId h t
  entered-value = full-builds g h t entered-builds entered.value

  pub walked-start : IsWalked h h x t f f false 0
  walked-start = record {
    ids = [];
    count = refl;
    form = sym (node_over-none f entered.fits);
    builds = builds-itself h entered-builds.grows.graph;
    later = λ j l. refl;
    full = λ j l. absurd (omega arith);
    replaced = λ j l. absurd (omega arith);
    same = λ e. refl;
  }

  -- the children are full, and of earlier classes
  pub child-full : (k : ℕ) → k < length (children f.tree) → IsFullId h (at (child_ids f) k)
  child-full k l =
      let m : k < length (child_ids f) = omega (arith, l, length-ids f.tree f.names) in
      record { full = entered.children_full k (0, []) m; known = (entered.valid.children k (0, []) m).known }

  pub child-earlier : (k : ℕ) → k < length (children f.tree) → (at (child_ids f) k).0 < b.0
  child-earlier k l =
      (children-below g.image.canonical (graph-canonical g entered.graph) b entered.body.full f entered.fits entered.node k (0, []) l).0

  module _ (i : Graph) (n : Form) (changed : Bool) (k : ℕ) (walked : IsWalked h i x t f n changed k) where
    pub walked-count : length (children n.tree) ≡ length (children f.tree)
    walked-count = ap (λ (z : Form). length (children z.tree)) walked.form ∙ length-over f.tree walked.ids

    -- so is the next one
    pub next-full : k < length (children f.tree) → IsFullId i (at (child_ids n) k)
    next-full l =
        subst (IsFullId i) (sym (walked.later k (omega arith))) (full-builds h i (at (child_ids f) k) walked.builds (child-full k l))

    pub next-earlier : k < length (children f.tree) → (at (child_ids n) k).0 < b.0
    next-earlier l = subst (λ (c : Applied). c.0 < b.0) (sym (walked.later k (omega arith))) (child-earlier k l)

    pub walked-part : IsFullId i x
    walked-part = full-builds h i x walked.builds entered-part

    pub walked-value : IsFullId i t
    walked-value = full-builds h i t walked.builds entered-value

    pub walked-step : (j : Graph) (m : Form) (c : AppliedId) (now : Bool) → Fits n → k < length (children f.tree) → Replaces i j x t (at (child_ids n) k) (to_applied c) → m ≡ with_applied n k c →
        (now ≡ false → (changed ≡ false) × (to_applied c ≡ at (child_ids n) k)) → IsWalked h j x t f m now (k + 1)
    walked-step j m c now fits l r put stays =
        let a : Applied = to_applied c in
        let on = r.builds.grows.extends in
        let same-child : at (child_ids n) k ≡ at (child_ids f) k = walked.later k (omega arith) in
        let lf : k < length (child_ids f) = omega (arith, l, length-ids f.tree f.names) in
        record {
          ids = walked.ids ++ a ∷ [];
          count = omega (arith, walked.count, length-append walked.ids (a ∷ []));
          form = put ∙ (ap (λ (z : Form). with_child z k a.0 (keys a.1) (values a.1)) walked.form ∙ node_over-more f walked.ids k a walked.count l entered.fits);
          builds = builds-then h i j walked.builds r.builds;
          later = λ p q. ap (λ (z : Form). at (child_ids z) p) put ∙ (later-children n k p a (0, []) fits (omega (arith, l, walked-count)) (omega (arith, q)) ∙ walked.later p (omega (arith, q)));
          full = λ p q. elim (cases_eq p k) [
            | inl e ↦ subst (IsFullId j) (sym (last-id p e)) r.full
            | inr ne ↦ subst (IsFullId j) (sym (earlier-id p (omega (arith, q, ne)))) (full-builds i j (at walked.ids p) r.builds (walked.full p (omega (arith, q, ne))))
          ];
          replaced = λ p q. elim (cases_eq p k) [
            | inl e ↦ subst (λ (z : Applied). IsReplaced j.image.canonical x t (at (child_ids f) p) z) (sym (last-id p e)) (subst (λ (z : Applied). IsReplaced j.image.canonical x t z a) (same-child ∙ ap (at (child_ids f)) (sym e)) r.replaced)
            | inr ne ↦
                let lt : p < k = omega (arith, q, ne) in
                subst (λ (z : Applied). IsReplaced j.image.canonical x t (at (child_ids f) p) z) (sym (earlier-id p lt))
                (replaced-stays i.image.canonical j.image.canonical on.canonical x t walked-part.full walked-value.full (at (child_ids f) p) (at walked.ids p)
                (full-builds h i (at (child_ids f) p) walked.builds (child-full p (omega (arith, lt, l)))).full (walked.replaced p lt))
          ];
          same = λ e.
              let s = stays e in
              (λ z. walked.same s.0 z ++ (s.1 ∙ same-child) z ∷ []) ∙ sym (take_more (child_ids f) k (0, []) lf);
        }
      where
        last-id : (p : ℕ) → p ≡ k → at (walked.ids ++ to_applied c ∷ []) p ≡ to_applied c
        last-id p e = ap (at (walked.ids ++ to_applied c ∷ [])) (e ∙ sym walked.count) ∙ get_or-append_seam walked.ids (to_applied c) [] (0, [])

        earlier-id : (p : ℕ) → p < k → at (walked.ids ++ to_applied c ∷ []) p ≡ at walked.ids p
        earlier-id p lt = get_or_append_left walked.ids (to_applied c ∷ []) (0, []) p (omega (arith, lt, walked.count))

    -- with as many names as places
    over-fits : Fits (node_over f walked.ids)
    over-fits = over_fits f.tree f.names walked.ids entered.fits

    all-fits : k ≡ length (children f.tree) → length walked.ids ≡ length (children f.tree)
    all-fits e = walked.count ∙ e

    -- it can be added
    pub walked-known : k ≡ length (children f.tree) → AllKnown i.table n.names
    walked-known e =
        let more = walked.builds.grows.extends.more in
        let each : All (λ (c : Applied). AllKnown i.table (values c.1)) walked.ids =
        λ j d l. known-at d (slice_same walked.ids j d l) (walked.full j (omega (arith, l, walked.count))).known in
        subst (λ (z : Form). AllKnown i.table z.names) (sym walked.form)
        (known-over i.table f walked.ids entered.fits (λ j d l. more _ (entered.valid.known j d l)) each)
      where
        slice_same : (bs : List Applied) (j : ℕ) (d : Applied) → j < length bs → at bs j ≡ slice_index_or bs j d
        slice_same bs j d l = any_default bs j (0, []) d l

        known-at : {c a : Applied} (d : Applied) → c ≡ a → AllKnown i.table (values c.1) → AllKnown i.table (values a.1)
        known-at d e h = subst (λ (z : Applied). AllKnown i.table (values z.1)) e h

    pub walked-children : k ≡ length (children f.tree) → All (IsValidId i) (child_ids n)
    walked-children e =
        let is : child_ids n ≡ walked.ids = ap child_ids walked.form ∙ child_ids-over f walked.ids entered.fits (all-fits e) in
        subst (All (IsValidId i)) (sym is)
        (λ j d l. subst (IsValidId i) (any_default walked.ids j (0, []) d l) (full-valid i (at walked.ids j) (walked.full j (omega (arith, l, walked.count)))))

    -- no binder of the node has a name of x or of t
    others-bound : (y : ℕ) → Contains (bound_names (node_arguments f)) y → (¬ Contains (values x.1) y) × (¬ Contains (values t.1) y)
    others-bound y c =
        let bound : IsBound f y = bound-name f y entered.fits c in
        let unknown : is_known g.table y ≡ false =
        subst (λ z. is_known g.table z ≡ false) bound.named (entered.fresh bound.place bound.within bound.binder) in
        let none : (a : Applied) → AllKnown g.table (values a.1) → ¬ Contains (values a.1) y =
        λ a known has. false≢true (sym unknown ∙ All-contains (λ s. IsTrue (is_known g.table s)) (values a.1) y known has) in
        (none x entered.part.known, none t entered.value.known)

    all-replaced : k ≡ length (children f.tree) → HasReplacedIds i.image.canonical x t (node_arguments f) (node_arguments (node_over f walked.ids))
    all-replaced e =
        replaced-by_number i.image.canonical x t (node_arguments f) (node_arguments (node_over f walked.ids))
        (arguments-over f walked.ids entered.fits (all-fits e))
        others-bound
        (λ j l.
        let lt : j < k = omega (arith, e, ap length (ids-node f), l, length-ids f.tree f.names) in
        let is-old : at (child_ids f) j ≡ at (ids_of (node_arguments f)) j = ap (λ (z : List Applied). at z j) (sym (ids-node f)) in
        let is-new : at walked.ids j ≡ at (ids_of (node_arguments (node_over f walked.ids))) j =
        ap (λ (z : List Applied). at z j) (sym (ids-node (node_over f walked.ids) ∙ child_ids-over f walked.ids entered.fits (all-fits e))) in (
          subst (IsFull i.image.canonical) is-old (full-builds h i (at (child_ids f) j) walked.builds (child-full j (omega (arith, lt, e)))).full,
          subst (λ (c : Applied). IsReplaced i.image.canonical x t c (at (ids_of (node_arguments (node_over f walked.ids))) j)) is-old
              (subst (λ (c : Applied). IsReplaced i.image.canonical x t (at (child_ids f) j) c) is-new (walked.replaced j lt)),
        ))

    to-now : Builds g i
    to-now = builds-then g h i entered-builds walked.builds

    -- the body is the node over what its children stand for
    body-layer : term_of i.image.canonical b ≡ layer_of i.image.canonical (node (suc f.operator) f.payloads (unnamed (λ y. y) (node_arguments f)))
    body-layer =
        let on = to-now.grows.extends.canonical in
        let can = graph-canonical g entered.graph in
        let full : All (IsFull g.image.canonical) (child_ids f) =
        subst (λ (z : Image). All (IsFull z.canonical) (child_ids f)) entered.takes.reads.image entered.children_full in
        on.terms b entered.body.full
        ∙ (term_of-layer g.image.canonical can b entered.body.full
        ∙ (ap (layer_of g.image.canonical) (sym entered.node)
        ∙ (sym (on.layers (nameless_node f) (full_children g.image.canonical f entered.fits full))
        ∙ ap (λ (z : DArgs). layer_of i.image.canonical (node (suc f.operator) f.payloads z)) (sym (unnamed-node f entered.fits)))))

    -- where no child has changed the body stays
    pub walked-same : k ≡ length (children f.tree) → changed ≡ false → b ≢ x → Replaces g i x t b b
    walked-same e unchanged other =
        let all : take k (child_ids f) ≡ child_ids f = take_all k (child_ids f) (omega (arith, e, length-ids f.tree f.names)) in
        let own : node_over f walked.ids ≡ f = ap (node_over f) (walked.same unchanged ∙ all) ∙ node_over-own f entered.fits in
        record {
          builds = to-now;
          full = full-builds g i b to-now entered.body;
          replaced =
              unchanged-stays i.image.canonical (graph-canonical i walked.builds.grows.graph) x t walked-part.full walked-value.full b
              (full-builds g i b to-now entered.body).full other (suc f.operator) f.payloads (node_arguments f) body-layer
              (subst (λ (z : Form). HasReplacedIds i.image.canonical x t (node_arguments f) (node_arguments z)) own (all-replaced e));
        }

    -- and else it is the class of the node over what came of its children
    pub walked-end : k ≡ length (children f.tree) → b ≢ x → (j : Graph) (a : Applied) → AddsSyn i j n a → Builds i j → IsFullId j a → Replaces g j x t b a
    walked-end e other j a syn builds full =
        let m : Form = node_over f walked.ids in
        let added : AddsSyn i j m a = subst (λ (z : Form). AddsSyn i j z a) walked.form syn in
        let d : DTerm = added.node in
        let fills = added.fills [] (λ p q l. absurd (omega arith)) in
        let inside : FillsArgs i.image.canonical [] (unnamed (λ y. y) (node_arguments m)) d.args =
        subst (λ (z : DArgs). FillsArgs i.image.canonical [] z d.args) (sym (unnamed-node m over-fits)) fills.children in
        let layered : layer_of j.image.canonical d ≡ layer_of j.image.canonical (node (suc f.operator) f.payloads d.args) =
        λ z. layer_of j.image.canonical (node (fills.operator z) (fills.payloads z) d.args) in
        record {
          builds = builds-then g i j to-now builds;
          full = full;
          replaced =
              added-replaced i.image.canonical j.image.canonical builds.grows.extends.canonical (graph-canonical j builds.grows.graph) x t b a
              walked-part.full walked-value.full (full-builds g i b to-now entered.body).full other (suc f.operator) f.payloads (node_arguments f) body-layer
              (node_arguments m) (all-replaced e) [] d.args inside full.full (added.term ∙ layered);
        }
