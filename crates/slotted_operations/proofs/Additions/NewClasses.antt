-- A class that was made is filed, and all is rebuilt.
use Rattle.std.proofs.Common.{◌≡◌, ◌≢◌, ◌<◌, ℕ, suc, List, [], ◌∷◌, ◌++◌, length, sym, ◌∙◌, ap, refl, subst, append_assoc, arith, inl, inr}
use Rattle.std.specs.Prelude.{◌⊎◌, false, None, Some, Contains}
use Rattle.std.proofs.lemmas.List.{append-nil}
use Rattle.slotted_theory.specs.Nameless.{DTerm}
use Rattle.slotted_slots.specs.Table.{Table}
use Rattle.slotted_nodes.specs.Form.{Form}
use Rattle.slotted_languages.specs.NodeTerm.{nameless_node}
use Rattle.slotted_model.specs.Adding.{HasAdded}
use Rattle.slotted_model.specs.Adding as model
use Rattle.slotted_model.specs.Applied.{Applied}
use Rattle.slotted_model.specs.Changes.{GoesOn}
use Rattle.slotted_model.specs.Classes.{canonical_node, canonical_slots}
use Rattle.slotted_model.specs.Growth.{Extends}
use Rattle.slotted_model.specs.Ids.{id_of_node}
use Rattle.slotted_model.specs.Rest.{Sane}
use Rattle.slotted_model.specs.State.{State}
use Rattle.slotted_model.proofs.Rebuilding.Adding.{adds, class-sane}
use Rattle.slotted_model.proofs.Rebuilding.GoingOn.{goes_on-same}
use Rattle.slotted_model.proofs.Rebuilding.Quiet.{same-none}
use Rattle.slotted_model.proofs.Represented.Growing.{node-old}
use Rattle.slotted_model.proofs.Data.Theory.{moved-id}
use Rattle.slotted_proofs.specs.Entries.{Proven}
use Rattle.slotted_classes.specs.Kept.{Kept, SymmetryEntry, node_at, nodes_of, size_of, with_counts}
use Rattle.slotted_classes.specs.Names.{HasNumberedBinders}
use Rattle.slotted_classes.proofs.KeptLists.{length-nodes_of}
use Rattle.slotted_hashcons.specs.Filed.{Filing, filed_of}
use Rattle.slotted_hashcons.specs.FiledRows.{Rows, row_of_entry, rows_in}
use Rattle.slotted_hashcons.proofs.FiledRows.{row-filed}
use Rattle.slotted_hashcons.specs.FoundNodes.{HasNoMorePlaces}
use Rattle.slotted_classes.proofs.ClassNodes.{node-is}
use Rattle.slotted_hashcons.proofs.KeyedNodes.{same-places}
use Rattle.slotted_classes.specs.Stored.{Stored}
use Rattle.slotted_rebuilding.specs.Grows.{GrowsUncounted}
use Rattle.slotted_rebuilding.proofs.GrownRows.{grown-count, grown-rows}
use Rattle.slotted_rebuilding.specs.Causes.{HasLargeClass}
use Rattle.slotted_rebuilding.specs.Counted.{CountsFit, CountsGo, CountsOn, TotalsFit}
use Rattle.slotted_rebuilding.proofs.RebuildCounts.{counts-same}
use Rattle.slotted_hashcons.specs.WellFiled.{state_in}
use Rattle.slotted_rebuilding.specs.NewClasses.{IsUnfiled, FilesNewest}
use Rattle.slotted_rebuilding.proofs.FiledStates.{fits-grown}
use Rattle.slotted_operations.specs.Causes.{HasLargeClassIn, CanRunOutForNode, IsLargeClass, IsUnknownNode, IsWideClass}
use Rattle.slotted_operations.specs.Good.{Adds, Good, HasFreshSlots, Makes, MakesClassOf, MakesOne, RestsWith, image_of}
use Rattle.slotted_operations.specs.Graph.{HasNewClass}
use Rattle.slotted_operations.specs.Image.{AddsClasses, NewClassesAre, IsIdOfNode}
use Rattle.slotted_operations.proofs.Graphs.Continuations.{adds-classes}
use Rattle.slotted_operations.proofs.Graphs.Notes.{notes-none}
use Rattle.slotted_operations.proofs.Graphs.Options.{none-where}
use Rattle.slotted_operations.proofs.Graphs.AtRest.{at-rest}

-- what stands in the classes stays
pub grown-good : (k l : Kept) → Good k → GrowsUncounted k l → Stored l → l.dropped ≡ false → Good l
grown-good k l good grows stored settled = record {
  rows = grown-rows k (with_counts l k.counts) grows good.rows;
  fits = fits-grown k (with_counts l k.counts) grows good.fits;
  numbered = λ i h. subst HasNumberedBinders (sym (grows.forms i)) (good.numbered i (subst (λ n. i < n) (grown-count k (with_counts l k.counts) grows) h));
  stored = stored;
  settled = settled;
}

-- the slots of classes stay fresh ones
pub grown-fresh : (t : Table) (k l : Kept) → nodes_of l ≡ nodes_of k → HasFreshSlots t k → HasFreshSlots t l
grown-fresh t k l e h i s r c =
    let n : length l.classes ≡ length k.classes = sym (length-nodes_of l) ∙ (ap length e ∙ length-nodes_of k) in
    h i s (omega arith) (subst (λ (ns : List DTerm). Contains (canonical_slots ns i) s) e c)

-- a large class as a rebuild tells of it
pub large-seen : (k : Kept) → HasLargeClass k → HasLargeClassIn (image_of k)
large-seen k h = (h.0, subst (λ n. h.0 < n) (sym (length-nodes_of k)) h.1, h.2)

module _ (k : Kept) (r : Rows) (good : Good k) (rests : RestsWith k r) where
  -- nothing changes but names
  pub same-goes_on : GoesOn (state_in k r) (state_in k r)
  same-goes_on = goes_on-same (state_in k r) good.stored.sane.sound.linked

  pub adds-none : AddsClasses (image_of k) (image_of k)
  adds-none = adds-classes k r good k r same-goes_on [] (sym (append-nil k.proofs)) [] (sym (append-nil k.symmetries)) refl (counts-same k.counts)

  -- the node had a class
  pub adds-known : (t u : Table) (f : Form) (a : Applied) → Makes t u k k f a → Adds t u k r k r f a
  adds-known t u f a m = record {
    good = good;
    rests = rests;
    fresh_slots = m.fresh_slots;
    extends = m.extends;
    goes_on = same-goes_on;
    adds = adds-none;
    notes = notes-none k;
    found = m.found;
    filed = m.filed;
    kept = λ s. (refl, refl, (m.kept s).1);
    made = m.made;
    step = inl (refl, refl);
    large = m.large;
  }

  -- as many nodes as classes tell that none was made
  pub adds-made : (t u : Table) (f : Form) (a : Applied) (m : Kept) → Makes t u k m f a → length r.filed ≡ length m.classes → Adds t u k r m r f a
  adds-made t u f a m make same = elim make.step [
    | inl e ↦ subst (λ (z : Kept). Adds t u k r z r f a) (sym e) (adds-known t u f a (subst (λ (z : Kept). Makes t u k z f a) e make))
    | inr one ↦ absurd (omega (arith, one.count, same, rests.filed.count))
  ]

  -- and else one was
  pub one-made : (t u : Table) (f : Form) (a : Applied) (m : Kept) → Makes t u k m f a → length r.filed ≢ length m.classes → MakesOne k m f
  one-made t u f a m make different = elim make.step [
    | inl e ↦ absurd (different (rests.filed.count ∙ ap (λ (z : Kept). length z.classes) (sym e)))
    | inr one ↦ one
  ]

  -- so the node had none
  pub none-known : (t u : Table) (f : Form) (a : Applied) (m : Kept) → Makes t u k m f a → length r.filed ≢ length m.classes → id_of_node (nodes_of k) (nameless_node f) ≡ None
  none-known t u f a m make different = none-where (id_of_node (nodes_of k) (nameless_node f)) (λ s. different (rests.filed.count ∙ ap (λ (z : Kept). length z.classes) (sym (make.kept s).0)))

  pub unknown-made : (t u : Table) (f : Form) (a : Applied) (m : Kept) → Makes t u k m f a → length r.filed ≢ length m.classes → IsUnknownNode (nodes_of k) f
  unknown-made t u f a m make different = inl (none-known t u f a m make different)

  -- a class was made
  module _ (m : Kept) (good-m : Good m) (f : Form) (one : MakesOne k m f) where
    -- the older classes have the nodes that they had
    same-node : (i : ℕ) → i < length (nodes_of k) → nameless_node (node_at k i) ≡ nameless_node (node_at m i)
    same-node i h =
        let w : i < length k.classes = subst (λ n. i < n) (length-nodes_of k) h in
        let n : nodes_of m ≡ nodes_of k ++ one.node ∷ [] = ap (λ (s : State). s.nodes) (one.state [] []) in
        node-is k i w
        ∙ (sym (node-old (nodes_of k) one.node i h) ∙ (ap (λ ns. canonical_node ns i) (sym n) ∙ sym (node-is m i (omega (arith, w, one.count)))))

    places-made : (i : ℕ) (e : Filing) → filed_of r.filed i ≡ Some e → HasNoMorePlaces m i e.0
    places-made i e f =
        let h : i < length (nodes_of k) = (rests.filed.sane.filed.each (row_of_entry (e.0, (i, e.1))) (row-filed r.filed i e.0 e.1 f)).in_range in
        let w : i < length k.classes = subst (λ n. i < n) (length-nodes_of k) h in
        let same : length (node_at k i).names ≡ length (node_at m i).names =
        same-places (λ x. x) (λ x y p. p) (node_at k i) (node_at m i) (rests.filed.fits i w) (good-m.fits i (omega (arith, w, one.count))) (moved-id (nameless_node (node_at k i)) ∙ same-node i h) in
        let fewer = rests.filed.places i e f in
        omega (arith, same, fewer)

    pub unfiled : IsUnfiled m r
    unfiled = record {
      stored = good-m.stored;
      canonical = good-m.rows;
      fits = good-m.fits;
      count = one.count ∙ ap suc (sym rests.filed.count);
      sane = subst Sane (sym (one.state (rows_in r.filed) r.waiting)) (class-sane (state_in k r) rests.filed.sane one.node one.is_new);
      keyed = rests.filed.keyed;
      places = places-made;
      quiet = rests.quiet;
    }

    module _ (l : Kept) (q : Rows) (files : FilesNewest m r l q) where
      made-of : model.Adds (state_in k r) one.node (state_in l q)
      made-of = files.adds (state_in k r) one.node (one.state (rows_in r.filed) r.waiting)

      added : HasAdded (state_in k r) one.node (state_in l q)
      added = adds (state_in k r) (at-rest k r good rests) one.node one.is_new (state_in l q) made-of

      pub class-made-of : MakesClassOf (state_in k r) f (state_in l q)
      class-made-of = record { node = one.node; is_new = one.is_new; same_shape = one.same_shape; between = state_in l q; adds = made-of; same = same-none (state_in l q) added.rest }

      abbrev same : nodes_of l ≡ nodes_of m
      same = files.grows.nodes

      noted : m.counts ≡ k.counts → CountsOn k l
      noted same fit = subst (λ c. CountsGo c l.counts × CountsFit l.counts (size_of l)) same (files.counts (subst TotalsFit (sym same) fit.totals))

      -- and is filed
      pub adds-filed : (t u : Table) (a : Applied) → Makes t u k m f a → Adds t u k r l q f a
      adds-filed t u a make = record {
        good = grown-good m l good-m files.grows files.filed.stored files.settled;
        rests = record { filed = files.filed; represents = added.rest.represents; quiet = added.rest.nothing_waits; noted = (noted make.counts rests.noted).1 };
        fresh_slots = grown-fresh u m l same make.fresh_slots;
        extends = subst (Extends (nodes_of k)) (sym same) make.extends;
        goes_on = added.goes_on;
        adds = adds-classes k r good l q added.goes_on (make.more ++ files.grows.more)
            (files.grows.proofs ∙ (ap (λ (x : List Proven). x ++ files.grows.more) make.proofs ∙ append_assoc k.proofs make.more files.grows.more))
            files.grows.listed (files.grows.symmetries ∙ ap (λ (x : List SymmetryEntry). x ++ files.grows.listed) make.symmetries) added.same_asserted (noted make.counts rests.noted).0;
        notes = record { gone = files.grows.gone; deaths = files.grows.deaths ∙ ap (λ is. is ++ files.grows.gone) make.deaths; counts = noted make.counts };
        found = subst (λ (ns : List DTerm). id_of_node ns (nameless_node f) ≡ Some a) (sym same) make.found;
        filed = subst (λ (ns : List DTerm). NewClassesAre (nodes_of k) ns (IsIdOfNode ns (nameless_node f))) (sym same) make.filed;
        kept = λ s. absurd (more-than (ap (λ (x : Kept). length x.classes) (make.kept s).0));
        made = λ none. subst (λ (ns : List DTerm). HasNewClass t u (nodes_of k) ns (nameless_node f)) (sym same) (make.made none);
        step = inr class-made-of;
        large = λ h. make.large (h.0, subst (λ (ns : List DTerm). h.0 < length ns) same h.1, subst (λ (ns : List DTerm). IsLargeClass ns h.0 ⊎ IsWideClass ns h.0) same h.2);
      }
        where
          more-than : ¬ (length m.classes ≡ length k.classes)
          more-than e = omega (arith, e, one.count)

-- where slots run out in a rebuild
pub rebuild-runs_out : (t u v w : Table) (k m : Kept) (f : Form) (a : Applied) → Makes t u k m f a → HasLargeClass m → CanRunOutForNode (image_of k) f v w
rebuild-runs_out t u v w k m f a make h = inr (make.large (large-seen m h))
