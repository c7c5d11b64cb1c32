-- A turn of the making as the code takes it.
use Rattle.std.proofs.Common.{◌≡◌, ◌<◌, ◌≤◌, ℕ, List, [], ◌∷◌, ◌++◌, length, Option, Some, None, sym, ◌∙◌, ap, refl, subst}
use Rattle.std.specs.Prelude.{◌≢◌, All, Bool, false, not, is_some, option_map, slice_index_or}
use Rattle.std.proofs.lemmas.Bool.{false≢true}
use Rattle.std.proofs.lemmas.List.Elements.{All-contains, All-from_recursion, All-push}
use Rattle.std.specs.Cmp.{IsTotalOrder}
use Rattle.std.specs.Ordering.{is_lt}
use Rattle.std.specs.declared.cmp.Ordering.{Ordering}
use Rattle.std.specs.declared.cmp.Ordering.TheVariants.{Equal}
use Rattle.std.specs.BinaryHeap.{heap_items, KeepsHeap, PopsGreatest}
use Rattle.std.specs.List.Sorted.{IsPermutation}
use Rattle.std.proofs.lemmas.List.Sorted.{IsPermutation-sym, Contains-permutation}
use Rattle.slotted_lists.proofs.Contained.{contains_head}
use Rattle.slotted_lists.proofs.Lists.{length-zero}
use Rattle.slotted_theory.specs.Nameless.{DTerm}
use Rattle.slotted_nodes.specs.Form.{Form}
use Rattle.slotted_model.specs.Find.{find_class}
use Rattle.slotted_model.specs.State.{State}
use Rattle.slotted_model.specs.Extraction.{TableEntry, cost_in, IsFinished}
use Rattle.slotted_model.proofs.Data.Options.{None-Some}
use Rattle.slotted_classes.specs.Kept.{Kept, entries_of}
use Rattle.slotted_hashcons.specs.Filed.{filed_of}
use Rattle.slotted_hashcons.specs.FiledRows.{Rows, IsFiled, row_of_entry}
use Rattle.slotted_hashcons.proofs.JoinedNames.{filed-within}
use Rattle.slotted_costs.specs.Costs.{costs_by}
use Rattle.slotted_costs.specs.declared.candidate.Candidate.{Candidate}
use Rattle.slotted_costs.specs.declared.entry.CostEntry.{CostEntry}
use Rattle.slotted_costs.specs.declared.making.Making.{Making}
use Rattle.slotted_costs.specs.declared.table.CostTable.{CostTable}
use Rattle.slotted_costs.specs.Entries.{IsFiledAs, entry_of, entry_in, table_of}
use Rattle.slotted_costs.specs.Prices.{candidate_cmp}
use Rattle.slotted_costs.specs.Counts.{times, AreUsers}
use Rattle.slotted_costs.specs.Making.{table_state, IsMaking, IsMadeSoFar, IsTurnOf, IsEntryFor, Told}
use Rattle.slotted_costs.proofs.Tables.{cost-of_entry, table-append}
use Rattle.slotted_costs.proofs.Rows.{has-cost}
use Rattle.slotted_costs.proofs.Entering.{making-permuted, making-passed, making-finished, told-within, making-entered}

no-entry : {C : Type 0} (table : List (TableEntry C)) (c : ℕ) → entry_in table c ≡ None → cost_in table c ≡ None
no-entry table c h = cost-of_entry table c ∙ ap (option_map (λ e. e.cost)) h

some-entry : {C : Type 0} (table : List (TableEntry C)) (c : ℕ) → entry_in table c ≢ None → cost_in table c ≢ None
some-entry {C} table c h none = h (by_case (entry_in table c) (sym (cost-of_entry table c) ∙ none))
  where
    by_case : (o : Option (TableEntry C)) → option_map (λ (e : TableEntry C). e.cost) o ≡ None → o ≡ None
    by_case None k = refl
    by_case (Some e) k = absurd (None-Some e.cost (sym k))

module _ {L C : Type 0} (form : L → Form) (order : L → L → Ordering) (cmp : C → C → Ordering) (weight : DTerm → List C → C) (store : Kept) (nodes : Rows) where
  abbrev g : State
  g = table_state store nodes

  -- a candidate that was popped has its turn
  pub turn-popped : (m n : Making L C) (next : Candidate L C) → IsMadeSoFar form order cmp weight store nodes m → n.table ≡ m.table → n.lacking ≡ m.lacking →
      IsPermutation (heap_items m.queue) (next ∷ heap_items n.queue) → PopsGreatest (candidate_cmp order cmp) (heap_items m.queue) next (heap_items n.queue) → IsTurnOf form order cmp weight store nodes n next
  turn-popped m n next made table lacking perm pops =
      let moved : IsMaking form order g nodes.filed (costs_by cmp weight) (table_of form m.table.entries.items) (next ∷ heap_items n.queue) m.lacking.items =
      making-permuted form order g nodes.filed refl cmp weight (table_of form m.table.entries.items) (heap_items m.queue) (next ∷ heap_items n.queue) m.lacking.items perm made.making in
      let bound = All-from_recursion (λ y. is_lt (candidate_cmp order cmp next y) ≡ false) (heap_items m.queue) (pops made.heap).1 in
      record {
        turn = record {
          making = subst (λ l. IsMaking form order g nodes.filed (costs_by cmp weight) (table_of form n.table.entries.items) (next ∷ heap_items n.queue) l.items) (sym lacking)
              (subst (λ t. IsMaking form order g nodes.filed (costs_by cmp weight) (table_of form t.entries.items) (next ∷ heap_items n.queue) m.lacking.items) (sym table) moved);
          first = λ c d. All-contains (λ y. is_lt (candidate_cmp order cmp next y) ≡ false) (heap_items m.queue) c bound
              (Contains-permutation (next ∷ heap_items n.queue) (heap_items m.queue) c (IsPermutation-sym (heap_items m.queue) (next ∷ heap_items n.queue) perm) d);
        };
        heap = (pops made.heap).0;
        room = ap (λ t. length t.places.items) table ∙ made.room;
        filed = subst (λ t. All (IsFiledAs form nodes.filed) t.entries.items) (sym table) made.filed;
      }

  module _ (m : Making L C) (next : Candidate L C) (turn : IsTurnOf form order cmp weight store nodes m next) where
    pub turn-filed : IsFiled nodes.filed next.source.0
    turn-filed =
        let a = has-cost (costs_by cmp weight) (table_of form m.table.entries.items) nodes.filed next.source.0 next.cost.0
        (turn.turn.making.each next (contains_head next (heap_items m.queue))).cost in
        (a.filing, a.filed)

    pub turn-within : next.source.0 < length nodes.filed
    turn-within = filed-within nodes.filed next.source.0 turn-filed.0 turn-filed.1

    -- it is passed over
    pub turn-passed : (class : ℕ) → class ≡ find_class (entries_of store) next.source.0 → entry_in (table_of form m.table.entries.items) class ≢ None → IsMadeSoFar form order cmp weight store nodes m
    turn-passed class is there = record {
      making = making-passed form order g nodes.filed refl cmp weight (table_of form m.table.entries.items) next (heap_items m.queue) m.lacking.items turn.turn.making
          (some-entry (table_of form m.table.entries.items) (find_class (entries_of store) next.source.0) (subst (λ c. entry_in (table_of form m.table.entries.items) c ≢ None) is there));
      heap = turn.heap;
      room = turn.room;
      filed = turn.filed;
    }

    -- or it enters
    module _ (total : IsTotalOrder cmp) (first_total : IsTotalOrder order) (same_form : (a b : L) → form a ≡ form b → order a b ≡ Equal) (users : List (List ℕ)) (are : AreUsers nodes.filed users) (class : ℕ) (is : class ≡ find_class (entries_of store) next.source.0) (within : class < length nodes.filed)
        (new : entry_in (table_of form m.table.entries.items) class ≡ None) (e : CostEntry L C) (fits : IsEntryFor form nodes.filed class next e) where
      abbrev table : List (TableEntry C)
      table = table_of form m.table.entries.items

      new_cost : cost_in table (find_class (entries_of store) next.source.0) ≡ None
      new_cost = subst (λ c. cost_in table c ≡ None) is (no-entry table class new)

      within_found : find_class (entries_of store) next.source.0 < length nodes.filed
      within_found = subst (λ c. c < length nodes.filed) is within

      pub turn-few : (s : ℕ) → times s (slice_index_or users class []) ≤ slice_index_or m.lacking.items s 0
      turn-few s =
          subst (λ c. times s (slice_index_or users c []) ≤ slice_index_or m.lacking.items s 0) (sym is)
          (told-within form order g nodes.filed refl cmp weight total first_total same_form table next (heap_items m.queue) m.lacking.items turn.turn (form e.node) e.names fits.filed new_cost users are within_found s)

      abbrev entry : TableEntry C
      entry = record { class = find_class (entries_of store) next.source.0; cost = next.cost.0; row = row_of_entry (form e.node, (next.source.0, e.names)) }

      entry-is : entry_of form e ≡ entry
      entry-is = λ j. record { class = (fits.class_is ∙ is) j; cost = fits.cost j; row = row_of_entry (form e.node, (fits.source j, e.names)) }

      filed_as : IsFiledAs form nodes.filed e
      filed_as = ap (filed_of nodes.filed) fits.source ∙ fits.filed

      pub turn-made : (n : Making L C) → n.table.entries.items ≡ m.table.entries.items ++ e ∷ [] → length n.table.places.items ≡ length m.table.places.items →
          Told form (costs_by cmp weight) (table_of form n.table.entries.items) nodes.filed (slice_index_or users class []) m.lacking.items n.lacking.items (heap_items m.queue) (heap_items n.queue) →
          KeepsHeap (candidate_cmp order cmp) (heap_items m.queue) (heap_items n.queue) → IsMadeSoFar form order cmp weight store nodes n
      turn-made n entered room told keeps =
          let grown : table_of form n.table.entries.items ≡ entry ∷ table = ap (table_of form) entered ∙ (table-append form m.table.entries.items e ∙ ap (λ d. d ∷ table) entry-is) in
          record {
            making = subst (λ t. IsMaking form order g nodes.filed (costs_by cmp weight) t (heap_items n.queue) n.lacking.items) (sym grown)
                (making-entered form order g nodes.filed refl cmp weight total first_total same_form table next (heap_items m.queue) m.lacking.items turn.turn (form e.node) e.names fits.filed new_cost users are within_found
                (heap_items n.queue) n.lacking.items
                (subst (λ c. Told form (costs_by cmp weight) (entry ∷ table) nodes.filed (slice_index_or users c []) m.lacking.items n.lacking.items (heap_items m.queue) (heap_items n.queue)) is
                (subst (λ t. Told form (costs_by cmp weight) t nodes.filed (slice_index_or users class []) m.lacking.items n.lacking.items (heap_items m.queue) (heap_items n.queue)) grown told)));
            heap = keeps turn.heap;
            room = room ∙ turn.room;
            filed = subst (λ es. All (IsFiledAs form nodes.filed) es) (sym entered) (All-push (IsFiledAs form nodes.filed) m.table.entries.items e turn.filed filed_as);
          }

      -- the same by what the calls say
      pub turn-ends : (n : Making L C) (t : CostTable L C) → n.table ≡ t → t.entries.items ≡ m.table.entries.items ++ e ∷ [] → length t.places.items ≡ length m.table.places.items →
          Told form (costs_by cmp weight) (table_of form t.entries.items) nodes.filed (slice_index_or users class []) m.lacking.items n.lacking.items (heap_items m.queue) (heap_items n.queue) →
          KeepsHeap (candidate_cmp order cmp) (heap_items m.queue) (heap_items n.queue) → IsMadeSoFar form order cmp weight store nodes n
      turn-ends n t same entered room told keeps =
          turn-made n (ap (λ w. w.entries.items) same ∙ entered) (ap (λ w. length w.places.items) same ∙ room)
          (subst (λ w. Told form (costs_by cmp weight) (table_of form w.entries.items) nodes.filed (slice_index_or users class []) m.lacking.items n.lacking.items (heap_items m.queue) (heap_items n.queue)) (sym same) told) keeps

  -- nothing waits
  pub turn-none : (m : Making L C) → IsMadeSoFar form order cmp weight store nodes m → length (heap_items m.queue) ≡ 0 → IsFinished g (costs_by cmp weight) (table_of form m.table.entries.items)
  turn-none m made none =
      making-finished form order g nodes.filed refl cmp weight (table_of form m.table.entries.items) m.lacking.items
      (subst (λ q. IsMaking form order g nodes.filed (costs_by cmp weight) (table_of form m.table.entries.items) q m.lacking.items) (length-zero (heap_items m.queue) none) made.making)

-- what is there is not none
pub some-there : {A B : Type 0} (f : A → B) (o : Option A) (b : Bool) (e : Option B) → is_some o ≡ not b → b ≡ false → option_map f o ≡ e → e ≢ None
some-there f None b e h k same none = false≢true (h ∙ ap not k)
some-there f (Some x) b e h k same none = None-Some (f x) (sym none ∙ sym same)
