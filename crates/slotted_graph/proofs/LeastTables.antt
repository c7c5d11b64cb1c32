-- The entries of a table that was made, at the places of their classes: ordered, and of least cost.
use Rattle.std.proofs.Common.{◌≡◌, ◌<◌, ◌∙◌, ℕ, List, [], Option, None, Some, length, refl, ap, sym, subst, arith}
use Rattle.std.specs.Prelude.{All, Contains, IsTrue, option_map, slice_get, slice_index_or}
use Rattle.std.proofs.lemmas.Bool.{lt-ltb}
use Rattle.std.proofs.lemmas.Option.{slice_get-get_or, slice_get-map, slice_get_within, get_or_from_slice_get}
use Rattle.slotted_nodes.specs.Form.{Form}
use Rattle.slotted_languages.specs.Shape.{Fits, shape}
use Rattle.slotted_model.specs.Cost.{CostFunction}
use Rattle.slotted_model.specs.Extraction.{Fits as TableFits, IsInOrder, TableEntry, cost_in}
use Rattle.slotted_model.specs.Find.{find_class}
use Rattle.slotted_model.proofs.Finds.Finding.{found-in_range, leads}
use Rattle.slotted_model.proofs.Data.Options.{None-Some, option_map-some}
use Rattle.slotted_model.proofs.LeastTerms.Tables.{least-in_order}
use Rattle.slotted_classes.specs.Kept.{Kept, entries_of, nodes_of}
use Rattle.slotted_classes.proofs.KeptLists.{length-nodes_of}
use Rattle.slotted_hashcons.specs.Filed.{filed_of}
use Rattle.slotted_hashcons.specs.FiledRows.{Rows, key_children, row_of_entry}
use Rattle.slotted_hashcons.proofs.Indexed.{place-within}
use Rattle.slotted_hashcons.specs.WellFiled.{IsWellFiled, state_in}
use Rattle.slotted_costs.specs.Entries.{IsFiledAs, table_of}
use Rattle.slotted_costs.specs.Least.{IsLeastTable}
use Rattle.slotted_costs.specs.declared.entry.CostEntry.{CostEntry}
use Rattle.slotted_costs.proofs.Tables.{cost-of_entry, entry-after, entry-none}
use Rattle.slotted_reports.proofs.FiledNodes.{key-known}
use Rattle.slotted_graph.specs.declared.entry.TermEntry.{TermEntry}
use Rattle.slotted_graph.specs.Least.{AreLeast, IsEntryOf}
use Rattle.slotted_graph.specs.Placing.{ArePlaced, ClassesDiffer, IsPlaced, IsWithin}
use Rattle.slotted_graph.specs.Terms.{IsOrdered, entry_at, is_below}
use Rattle.slotted_graph.proofs.Entered.{child-before_it, classes-differ, entered, entry-there, listed-once}

below-some : {L C : Type 0} (n : ℕ) (o : Option (TermEntry L C)) (e : TermEntry L C) → o ≡ Some e → e.rank < n → IsTrue (is_below n o)
below-some {L} {C} n o e at lt = subst (λ (x : Option (TermEntry L C)). IsTrue (is_below n x)) (sym at) (lt-ltb e.rank n lt)

module _ {L C : Type 0} (form : L → Form) (k : Kept) (r : Rows) (well : IsWellFiled k r) (costs : CostFunction C) (es : List (CostEntry L C))
    (least : IsLeastTable (state_in k r) costs (table_of form es)) (filed : All (IsFiledAs form r.filed) es) where
  order : IsInOrder (state_in k r) costs (table_of form es)
  order = least-in_order (state_in k r) costs (table_of form es) least.least_first

  filed-at : (i : ℕ) (e : CostEntry L C) → slice_get es i ≡ Some e → IsFiledAs form r.filed e
  filed-at i e at = subst (IsFiledAs form r.filed) (get_or_from_slice_get es i e e at) (filed i e (slice_get_within es i e at))

  class-is : (i : ℕ) (e : CostEntry L C) → slice_get es i ≡ Some e → find_class (entries_of k) e.source ≡ e.class
  class-is i e at = (entered form (state_in k r) costs es order i e at).class

  pub table-differs : ClassesDiffer es
  table-differs = classes-differ form (state_in k r) costs es order

  pub table-within : (n : ℕ) → n ≡ length r.filed → All (IsWithin k n) es
  table-within n count i d lt =
      let e : CostEntry L C = slice_index_or es i d in
      let at : slice_get es i ≡ Some e = slice_get-get_or es i d lt in
      let l : e.source < length r.filed = place-within r.filed e.source (form e.node, e.names) (filed-at i e at) in
      let source : e.source < length (nodes_of k) = let m : length (nodes_of k) ≡ length k.classes = length-nodes_of k in omega (arith, l, well.count, m) in
      let class : find_class (entries_of k) e.source < length (nodes_of k) = found-in_range (nodes_of k) (entries_of k) (leads (nodes_of k) (entries_of k) well.sane.sound.linked) e.source source in
      record {
        class = omega (arith, class, class-is i e at, count, well.count, length-nodes_of k);
        source = omega (arith, l, well.count);
      }

  module _ (v : List (Option (TermEntry L C))) (placed : ArePlaced k es 0 v) where
    pub table-ordered : IsOrdered form v
    table-ordered c e at =
        let p : IsPlaced k es 0 c e = placed.from c e at in
        let key : form p.entry.node ≡ form e.node = ap form (sym p.term.node) in
        let kept = well.keyed p.entry.source (form p.entry.node, p.entry.names) (filed-at p.place p.entry p.there) in (
          λ t. key-known t (form e.node) (subst (λ (f : Form). (shape f).0 ≡ f) key kept.itself),
          subst Fits key kept.fits,
          λ d i.
              let b = child-before_it form (state_in k r) costs es order p.place p.entry p.there d (subst (λ (f : Form). Contains (key_children f) d) (sym key) i) in
              let h = placed.has b.0.place b.0.entry (omega arith) b.0.there in
              below-some e.rank (entry_at v d) h.entry (ap (entry_at v) (sym b.0.class) ∙ h.there) (omega (arith, b.1, p.term.rank, h.term.rank)),
        )

    pub is-entry : (c : ℕ) (e : TermEntry L C) → entry_at v c ≡ Some e → IsEntryOf form k r (table_of form es) c e
    is-entry c e at =
        let p : IsPlaced k es 0 c e = placed.from c e at in
        let key : p.entry.node ≡ e.node = sym p.term.node in
        record {
          source = p.entry.source;
          slots = p.entry.names;
          filed = subst (λ n. filed_of r.filed p.entry.source ≡ Some (form n, p.entry.names)) key (filed-at p.place p.entry p.there);
          finds = class-is p.place p.entry p.there ∙ p.class;
          names = p.term.names;
          entered = subst (Contains (table_of form es)) (λ i. record { class = p.class i; cost = sym p.term.cost i; row = row_of_entry (form (key i), (p.entry.source, p.entry.names)) }) (entry-there form es [] p.place p.entry p.there);
        }

    pub same-cost : (c : ℕ) → cost_in (table_of form es) c ≡ option_map (λ (e : TermEntry L C). e.cost) (entry_at v c)
    same-cost c = by_case (entry_at v c) refl
      where
        by_case : (o : Option (TermEntry L C)) → entry_at v c ≡ o → cost_in (table_of form es) c ≡ option_map (λ (e : TermEntry L C). e.cost) o
        by_case (Some e) at =
            let p : IsPlaced k es 0 c e = placed.from c e at in
            let here = entry-after form es [] p.place p.entry p.there (listed-once form (state_in k r) costs es order p.place p.entry p.there) in
            ap (cost_in (table_of form es)) (sym p.class) ∙ (cost-of_entry (table_of form es) p.entry.class ∙ (ap (option_map (λ (x : TableEntry C). x.cost)) here ∙ ap Some (sym p.term.cost)))
        by_case None at =
            let none = entry-none form es c (λ q listed.
            let d = option_map-some (λ (x : CostEntry L C). x.class) (slice_get es q) c (sym (slice_get-map (λ (x : CostEntry L C). x.class) es q) ∙ listed) in
            let h = placed.has q d.0 (omega arith) d.1 in
            None-Some h.entry (sym at ∙ (ap (entry_at v) (sym d.2) ∙ h.there))) in
            cost-of_entry (table_of form es) c ∙ ap (option_map (λ (x : TableEntry C). x.cost)) none

    pub table-least : TableFits C (state_in k r) costs (table_of form es) → AreLeast form k r costs v
    table-least fits = record { table = table_of form es; lawful = least.lawful; fits = fits; each = is-entry; same = same-cost }
