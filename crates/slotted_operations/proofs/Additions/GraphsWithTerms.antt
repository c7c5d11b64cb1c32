-- A graph to which a term was added by look-up, as contracts see it.
use Rattle.std.proofs.Common.{◌≡◌, ◌<◌, ◌∙◌, ℕ, [], false, Option, Some, ap, refl, sym, subst, inl, inr, arith}
use Rattle.std.specs.Prelude.{All, IsSome, slice_index_or}
use Rattle.slotted_theory.specs.Nameless.{nameless}
use Rattle.slotted_theory.specs.Term.{Term}
use Rattle.slotted_slots.specs.Table.{Table, AllKnown}
use Rattle.slotted_nodes.specs.Form.{Form}
use Rattle.slotted_languages.specs.NodeTerm.{nameless_node}
use Rattle.slotted_languages.specs.Shape.{Fits}
use Rattle.slotted_model.specs.Applied.{Applied, EachChild}
use Rattle.slotted_model.specs.State.{look_up_node, look_up_tree}
use Rattle.slotted_model.proofs.Complete.LookUpsAreEqual.{filled-equal}
use Rattle.slotted_classes.specs.Finding.{IsFindable}
use Rattle.slotted_classes.specs.Kept.{Kept}
use Rattle.slotted_hashcons.specs.FiledRows.{Rows, rows_in}
use Rattle.slotted_hashcons.specs.WellFiled.{state_in}
use Rattle.slotted_operations.specs.Adding.{term_nodes}
use Rattle.slotted_operations.specs.AddingTerms.{AddsNode, AddsNodes, FilesOnlyLookedUp, IsEqualToTerm, IsOver, LacksForTerm, TakesForTerm, none_added, one_added}
use Rattle.slotted_operations.specs.Good.{graph_of, AddsFoundTerm, AddsNodeIn, AddsNodesIn, Good, HasFreshSlots, IsFoundIn, LacksForTermIn, RestsWith, TakesForTermIn, image_of}
use Rattle.slotted_operations.specs.Good as kept
use Rattle.slotted_operations.specs.Graph.{Graph}
use base.Stored.{Gv}
use Rattle.slotted_operations.specs.LookUp.{IsOneGraph, KeepsLookUps, look_up, look_up_nameless, look_up_term}
use Rattle.slotted_operations.specs.Nodes.{child_ids}
use Rattle.slotted_operations.specs.Reports.{IsFound}
use Rattle.slotted_operations.specs.Subterms.{IsTopIn}
use Rattle.slotted_operations.proofs.Additions.GraphsWithNodes.{added-answers, added-id, added-made, added-same}
use Rattle.slotted_operations.proofs.Additions.TermNodes.{Reached, reached}
use Rattle.slotted_operations.proofs.Ids.ValidIds.{fills-filling, findable-children, to-valid}
use Rattle.slotted_operations.proofs.LookUps.States.{looked_up-is, tree-is}
use Rattle.slotted_operations.proofs.LookUps.FoundIds.{keeps-look_ups, tree-found}
use Rattle.slotted_operations.proofs.Graphs.AtRest.{at-rest}

-- the graph that is told by what is kept, and by what its analysis keeps
abbrev pub seen : Gv → Table → Kept → Rows → Graph
seen y t k r = graph_of false t k (rows_in r.filed) y

-- ids that find, as contracts see them
ids-over : (y : Gv) (t : Table) (k : Kept) (r : Rows) → Good k → (f : Form) → All (IsFoundIn t k) (child_ids f) → AllKnown t f.names → IsOver (seen y t k r) f
ids-over y t k r good f all known = record { known = known; children = λ j d l. to-valid k good (seen y t k r) refl _ (all j d l).0 (all j d l).1 }

over-children : (y : Gv) (t : Table) (k : Kept) (r : Rows) → Good k → (f : Form) → Fits f → All (IsFoundIn t k) (child_ids f) → AllKnown t f.names → EachChild (IsFindable k) (nameless_node f).args
over-children y t k r good f fits all known = findable-children k good (seen y t k r) refl f fits (ids-over y t k r good f all known).children

-- the node at the top of a subterm, as contracts see it
abbrev graph-top : (y : Gv) (t : Table) (k : Kept) (r : Rows) → Good k → RestsWith k r → (w : Term) (f : Form) → IsTopIn (look_up_node (state_in k r)) w f → IsTopIn (look_up_nameless (seen y t k r)) w f
graph-top y t k r good rests w f o = record {
  subterm = o.subterm;
  stands = o.stands;
  top = record {
    parts = o.top.parts;
    whole = o.top.whole;
    count = o.top.count;
    each = λ i a c l. tree-is k r good rests (seen y t k r) refl refl (nameless (slice_index_or o.top.parts i c)) ∙ o.top.each i a c l;
  };
}

module _ (y : Gv) (w : Term) (t : Table) (k : Kept) (r : Rows) (good : Good k) (rests : RestsWith k r) (fresh : HasFreshSlots t k) where
  graph-node : (z : Gv) (u v : Table) (l m : Kept) (q s : Rows) → Reached t k r u l q → AddsNodeIn w u l q v m s → AddsNode w (seen y u l q) (seen z v m s)
  graph-node z u v l m q s p step =
      let g : Graph = seen y u l q in
      let h : Graph = seen z v m s in
      let c = over-children y u l q p.good step.node step.fits step.children step.known in
      record {
        node = step.node;
        over = ids-over y u l q p.good step.node step.children step.known;
        small = step.small;
        top = graph-top y u l q p.good p.rests w step.node step.top;
        answer = step.answer;
        id = added-id l q p.good p.rests g refl refl u refl step.node step.fits c step.known m s step.answer h refl refl step.more step.added;
        kept = added-same l q p.good p.rests g refl refl u refl step.node step.fits c step.known m s step.answer h refl refl step.more step.added;
        made = added-made l q p.good p.rests g refl refl u refl step.node step.fits c step.known m s step.answer h refl refl step.more step.added;
        answers = added-answers l q p.good p.rests g refl refl u refl step.node step.fits c step.known m s step.answer h refl refl step.more step.added;
        extends = step.added.extends;
        adds = step.added.adds;
        more = step.more;
        makes = step.makes;
      }

  graph-nodes : (n : ℕ) (u : Table) (l : Kept) (q : Rows) → AddsNodesIn w t k r n u l q → AddsNodes w (seen y t k r) n (seen y u l q)
  graph-nodes _ _ _ _ kept.none_added = none_added
  graph-nodes _ _ _ _ (kept.one_added {n} {u} {v} {l} {m} {q} {s} before step) =
      one_added (graph-nodes n u l q before) (graph-node y u v l m q s (reached w t k r good rests fresh n u l q before) step)

  -- the analysis may keep something else once the last one has been added
  graph-nodes-then : (z : Gv) (n : ℕ) → 0 < n → (u : Table) (l : Kept) (q : Rows) → AddsNodesIn w t k r n u l q → AddsNodes w (seen y t k r) n (seen z u l q)
  graph-nodes-then z _ more _ _ _ kept.none_added = absurd (omega (arith, more))
  graph-nodes-then z _ more _ _ _ (kept.one_added {n} {u} {v} {l} {m} {q} {s} before step) =
      one_added (graph-nodes n u l q before) (graph-node z u v l m q s (reached w t k r good rests fresh n u l q before) step)

  graph-takes : (v : Table) → TakesForTermIn w t k r v → TakesForTerm w (seen y t k r) v
  graph-takes v takes =
      let p = reached w t k r good rests fresh takes.count takes.between takes.kept takes.rows takes.nodes in
      record {
        count = takes.count;
        few = takes.few;
        reached = seen y takes.between takes.kept takes.rows;
        nodes = graph-nodes takes.count takes.between takes.kept takes.rows takes.nodes;
        last = elim takes.last [
          | inl e ↦ inl e
          | inr last ↦ inr (last.0, ids-over y takes.between takes.kept takes.rows p.good last.0 last.1 last.2, last.4, last.5, graph-top y takes.between takes.kept takes.rows p.good p.rests w last.0 last.6)
        ];
      }

  graph-lacks : (v : Table) → LacksForTermIn w t k r v → LacksForTerm w (seen y t k r) v
  graph-lacks v lacks =
      let p = reached w t k r good rests fresh lacks.count lacks.between lacks.kept lacks.rows lacks.nodes in
      let there : Graph = seen y lacks.between lacks.kept lacks.rows in
      let children = over-children y lacks.between lacks.kept lacks.rows p.good lacks.node lacks.fits lacks.children lacks.known in
      let is_node : look_up there lacks.node ≡ look_up_node (state_in lacks.kept lacks.rows) (nameless_node lacks.node) =
      looked_up-is lacks.kept lacks.rows p.good p.rests there refl refl (nameless_node lacks.node) children in
      record {
        count = lacks.count;
        few = lacks.few;
        reached = seen y lacks.between lacks.kept lacks.rows;
        nodes = graph-nodes lacks.count lacks.between lacks.kept lacks.rows lacks.nodes;
        node = lacks.node;
        over = ids-over y lacks.between lacks.kept lacks.rows p.good lacks.node lacks.children lacks.known;
        fits = lacks.fits;
        small = lacks.small;
        cause = lacks.cause.0;
        unknown = elim lacks.cause.1 [
          | inl none ↦ inl (is_node ∙ none)
          | inr large ↦ inr large
        ];
        top = graph-top y lacks.between lacks.kept lacks.rows p.good p.rests w lacks.node lacks.top;
        same = tree-is lacks.kept lacks.rows p.good p.rests there refl refl (nameless lacks.top.subterm) ∙ (lacks.same ∙ sym is_node);
      }

  -- the graph before
  module _ (g : Graph) (is : seen y t k r ≡ g) where
    pub term-takes : (v : Table) → TakesForTermIn w t k r v → TakesForTerm w g v
    term-takes v takes = subst (λ (x : Graph). TakesForTerm w x v) is (graph-takes v takes)

    pub term-lacks : (v : Table) → LacksForTermIn w t k r v → LacksForTerm w g v
    term-lacks v lacks = subst (λ (x : Graph). LacksForTerm w x v) is (graph-lacks v lacks)

    -- the graph after, by what its analysis keeps then
    module _ (z : Gv) (u : Table) (l : Kept) (q : Rows) (a : Applied) (add : AddsFoundTerm t k r u l q w a) where
      abbrev h : Graph
      h = seen z u l q

      pub term-reached : Reached t k r u l q
      term-reached = reached w t k r good rests fresh (term_nodes w) u l q add.nodes

      pub term-nodes : AddsNodes w g (term_nodes w) h
      term-nodes = subst (λ (x : Graph). AddsNodes w x (term_nodes w) h) is (graph-nodes-then z (term_nodes w) (omega arith) u l q add.nodes)

      pub term-id : look_up_term h w ≡ Some a
      term-id = tree-is l q term-reached.good term-reached.rests h refl refl (nameless w) ∙ add.found

      pub term-found : IsFound h a
      term-found = tree-found l q term-reached.good term-reached.rests h refl refl (nameless w) a add.found add.known

      pub term-equal : IsEqualToTerm h.image a w
      term-equal left fills = filled-equal (state_in l q) (at-rest l q term-reached.good term-reached.rests) (nameless w) a left [] add.found (fills-filling l a left fills)

      pub term-kept : (l ≡ k → z ≡ y) → IsSome (look_up_term g w) → IsOneGraph g h
      term-kept part some =
          let before : look_up_term (seen y t k r) w ≡ look_up_tree (state_in k r) (nameless w) = tree-is k r good rests (seen y t k r) refl refl (nameless w) in
          let same = add.kept (subst (λ (o : Option Applied). IsSome o) (ap (λ (x : Graph). look_up_term x w) (sym is) ∙ before) some) in
          subst (λ (x : Graph). IsOneGraph x h) is (record { table = same.2; image = ap image_of same.0; filed = ap (λ (x : Rows). rows_in x.filed) same.1; part = part same.0 })

      pub term-answers : KeepsLookUps g h
      term-answers = subst (λ (x : Graph). KeepsLookUps x h) is
          (keeps-look_ups k r good rests (seen y t k r) refl refl l q term-reached.good term-reached.rests h refl refl term-reached.goes_on term-reached.keeps)

      pub term-filed : FilesOnlyLookedUp g h w
      term-filed = subst (λ (x : Graph). FilesOnlyLookedUp x h w) is (λ i past within.
          let new = add.filed i past within in
          (new.0, new.1, record { subterm = new.2; stands = new.3; found = tree-is l q term-reached.good term-reached.rests h refl refl (nameless new.2) ∙ new.4 }))
