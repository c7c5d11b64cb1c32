-- Ids whose missing names were filled in by fresh slots, and how many slots their canonical terms take.
use Rattle.std.proofs.Common.{◌≡◌, ◌+◌, ◌≤◌, [], ap, subst, arith, inl, inr}
use Rattle.std.specs.Prelude.{Contains}
use Rattle.slotted_lists.proofs.Members.{In-Contains, Contains-In}
use Rattle.slotted_slots.specs.Table.{Table, KnowsMore, AllKnown}
use Rattle.slotted_slots.proofs.SlotsTaken.{fresh_goes_on}
use Rattle.slotted_model.specs.Applied.{Applied, keys, values}
use Rattle.slotted_model.specs.Classes.{IsFull}
use Rattle.slotted_model.specs.Filling.{IsFilling}
use Rattle.slotted_classes.specs.Kept.{Kept, nodes_of}
use Rattle.slotted_lookup.specs.Filling.{FillsId, filled_id, missing, with_fresh}
use Rattle.slotted_lookup.proofs.IdFillings.{filled-fresh}
use Rattle.slotted_operations.specs.Good.{image_of}
use Rattle.slotted_operations.specs.Graph.{Graph}
use Rattle.slotted_operations.specs.Syn.{FillsFresh, MakesForTermAt, MakesForTermOf, RunsOutForTermAt, RunsOutForTermOf, slots_for_term, term_binders}
use Rattle.slotted_operations.proofs.CallerLemmas.{lacks_none}
use Rattle.slotted_operations.proofs.Additions.Tables.{makes-more, runs_out-more}

-- the id b is a, filled over the table t
module _ (k : Kept) (t : Table) (a b : Applied) (known : AllKnown t (values a.1)) (fills : FillsId k t a b) where
  filling : IsFilling (nodes_of k) [] a b
  filling = fills known [] (λ i d l. absurd (omega (arith, l)))

  pub filled-full : IsFull (nodes_of k) b
  filled-full = filling.full

  -- its further names are slots that the table u made, also where a later one has made more
  pub fills-fresh : (u w : Table) → b ≡ filled_id k t.fresh a → u ≡ with_fresh (missing k a) t → KnowsMore u w → FillsFresh (image_of k) t w a b
  fills-fresh u w is made more =
      let room : u.fresh ≡ t.fresh + missing k a = ap (λ (v : Table). v.fresh) made in
      let on : u.fresh ≤ w.fresh = fresh_goes_on u w more in
      record {
        fills = record { class = filling.class; full = filling.full; keeps = filling.keeps };
        fresh = λ s x c lacks.
            let here : Contains (filled_id k t.fresh a).1 (s, x) = subst (λ (d : Applied). Contains d.1 (s, x)) is c in
            let n = filled-fresh k t.fresh a s x (In-Contains (filled_id k t.fresh a).1 (s, x) here) (λ own. lacks (Contains-In (keys a.1) s own)) in
            record { index = n.index; is_slot = n.is_slot; unused = n.from; made = omega (arith, n.below, room, on) };
      }

-- a full id takes slots for binders alone
module _ (g h : Graph) (a : Applied) (full : IsFull g.image.canonical a) where
  pub term_makes : MakesForTermOf g h a → MakesForTermAt g h a.0
  term_makes m =
      makes-more (slots_for_term g.image.canonical a) (term_binders g.image.canonical a.0) g.table h.table m
      (omega (arith, lacks_none g.image.canonical a full))

  pub term_runs_out : RunsOutForTermOf g h a → RunsOutForTermAt g h a.0
  term_runs_out (inl out) =
      inl (runs_out-more (slots_for_term g.image.canonical a) (term_binders g.image.canonical a.0) g.table h.table out
      (omega (arith, lacks_none g.image.canonical a full)))
  term_runs_out (inr large) = inr large
