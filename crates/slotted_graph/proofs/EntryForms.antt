-- Entries with forms in the place of nodes, for clauses that know no language.
--     with_form form e      the entry over the form of its node
--     forms_of form es      all of them
use Rattle.std.proofs.Common.{◌≡◌, ◌+◌, ◌∙◌, ℕ, zero, suc, List, [], ◌∷◌, None, Option, Some, ap, map, refl, sym, subst, inl, inr}
use Rattle.std.specs.Prelude.{option_map}
use Rattle.std.specs.List.{sum_by}
use Rattle.slotted_slots.specs.Table.{Table}
use Rattle.slotted_nodes.specs.Form.{Form}
use Rattle.slotted_model.specs.Cost.{CostFunction}
use Rattle.slotted_model.specs.Extraction.{TableEntry}
use Rattle.slotted_model.proofs.Data.Options.{option_map-some}
use Rattle.slotted_classes.specs.Kept.{Kept}
use Rattle.slotted_hashcons.specs.FiledRows.{Rows, key_children}
use Rattle.slotted_lookup.specs.Filling.{RunsOut}
use Rattle.slotted_graph.specs.Least.{AreLeast, IsEntryOf}
use Rattle.slotted_graph.specs.Terms.{HasLargeEntry, RunsOutWith, class_sum, entry_at, entry_sum, rank_in, slots_for, slots_of}
use Rattle.slotted_graph.specs.declared.entry.TermEntry.{TermEntry}

abbrev pub with_form : {L C : Type 0} → (L → Form) → TermEntry L C → TermEntry Form C
with_form form e = record { cost = e.cost; rank = e.rank; node = form e.node; names = e.names }

abbrev pub forms_of : {L C : Type 0} → (L → Form) → List (Option (TermEntry L C)) → List (Option (TermEntry Form C))
forms_of form es = map (option_map (with_form form)) es

module _ {L C : Type 0} (form : L → Form) where
  pub entry-form : (es : List (Option (TermEntry L C))) (c : ℕ) → entry_at (forms_of form es) c ≡ option_map (with_form form) (entry_at es c)
  entry-form [] c = refl
  entry-form (e ∷ es) zero = refl
  entry-form (e ∷ es) (suc c) = entry-form es c

  -- the sums are the same
  module _ (es : List (Option (TermEntry L C))) where
    one-sum : (below later : ℕ → ℕ) → ((c : ℕ) → below c ≡ later c) → (o : Option (TermEntry L C)) →
        entry_sum (λ (f : Form). f) (slots_of (λ (f : Form). f)) below (option_map (with_form form) o) ≡ entry_sum form (slots_of form) later o
    one-sum below later same None = refl
    one-sum below later same (Some e) = λ j. slots_of form e + sum_by (λ c. same c j) (key_children (form e.node))

    sum-forms : (n c : ℕ) → class_sum (λ (f : Form). f) (slots_of (λ (f : Form). f)) n (forms_of form es) c ≡ class_sum form (slots_of form) n es c
    sum-forms zero c = refl
    sum-forms (suc n) c =
        ap (entry_sum (λ (f : Form). f) (slots_of (λ (f : Form). f)) (class_sum (λ (f : Form). f) (slots_of (λ (f : Form). f)) n (forms_of form es))) (entry-form es c)
        ∙ one-sum (class_sum (λ (f : Form). f) (slots_of (λ (f : Form). f)) n (forms_of form es)) (class_sum form (slots_of form) n es) (sum-forms n) (entry_at es c)

    same-rank : (o : Option (TermEntry L C)) → rank_in (option_map (with_form form) o) ≡ rank_in o
    same-rank None = refl
    same-rank (Some e) = refl

    pub slots-forms : (c : ℕ) → slots_for (λ (f : Form). f) (forms_of form es) c ≡ slots_for form es c
    slots-forms c =
        ap (λ n. class_sum (λ (f : Form). f) (slots_of (λ (f : Form). f)) (suc n) (forms_of form es) c) (ap rank_in (entry-form es c) ∙ same-rank (entry_at es c))
        ∙ sum-forms (suc (rank_in (entry_at es c))) c

    -- and so are the causes
    pub large-form : HasLargeEntry form es → HasLargeEntry (λ (f : Form). f) (forms_of form es)
    large-form h = (h.0, with_form form h.1, entry-form es h.0 ∙ ap (option_map (with_form form)) h.2, h.3)

    pub runs_out-form : (c : ℕ) (t u : Table) → RunsOutWith form es (slots_for form es c) t u → RunsOutWith (λ (f : Form). f) (forms_of form es) (slots_for (λ (f : Form). f) (forms_of form es) c) t u
    runs_out-form c t u (inl out) = inl (subst (λ n. RunsOut n t u) (sym (slots-forms c)) out)
    runs_out-form c t u (inr large) = inr (large-form large)

  -- entries of least cost stay so
  kept-form : (k : Kept) (r : Rows) (table : List (TableEntry C)) (c : ℕ) (e : TermEntry L C) → IsEntryOf form k r table c e → IsEntryOf (λ (f : Form). f) k r table c (with_form form e)
  kept-form k r table c e is = record { source = is.source; slots = is.slots; filed = is.filed; finds = is.finds; names = is.names; entered = is.entered }

  same-cost : (o : Option (TermEntry L C)) → option_map (λ (e : TermEntry L C). e.cost) o ≡ option_map (λ (e : TermEntry Form C). e.cost) (option_map (with_form form) o)
  same-cost None = refl
  same-cost (Some e) = refl

  pub least-forms : (k : Kept) (r : Rows) (costs : CostFunction C) (es : List (Option (TermEntry L C))) → AreLeast form k r costs es → AreLeast (λ (f : Form). f) k r costs (forms_of form es)
  least-forms k r costs es least = record {
    table = least.table;
    lawful = least.lawful;
    fits = least.fits;
    each = λ c e at.
        let of = option_map-some (with_form form) (entry_at es c) e (sym (entry-form es c) ∙ at) in
        subst (IsEntryOf (λ (f : Form). f) k r least.table c) of.2 (kept-form k r least.table c of.0 (least.each c of.0 of.1));
    same = λ c. least.same c ∙ (same-cost (entry_at es c) ∙ ap (option_map (λ (e : TermEntry Form C). e.cost)) (sym (entry-form es c)));
  }
