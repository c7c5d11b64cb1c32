-- The classes of a graph, one after another: the slots that are made for their e-nodes.
use Rattle.std.proofs.Common.{◌≡◌, ◌∙◌, ◌≤◌, ◌<◌, ◌+◌, ◌*◌, ℕ, false, length, ap, sym, subst, refl, inl, inr, arith}
use Rattle.std.specs.Prelude.{◌⊎◌, Contains}
use Rattle.std.specs.List.{range_with_len, sum_by}
use Rattle.slotted_slots.specs.Table.{Table}
use Rattle.slotted_operations.specs.Graph.{Graph, MakesAtMost, OnlyTakesSlots, RunsOut}
use Rattle.slotted_operations.proofs.CallerLemmas.{takes_twice}
use Rattle.slotted_graph.specs.FiledNodes.{CanRunOutForDump, CanRunOutForEnodes, HasLargeRow, HasLargeRowOf, slots_for_dump, slots_for_enodes}
use Rattle.slotted_reports.proofs.ClassesInTurn.{range-next, range-within}
use Rattle.slotted_reports.proofs.FreshNodes.{runs_out-after}

-- a graph that only took slots has the same e-nodes
slots-same : (g h : Graph) → OnlyTakesSlots g h → (c : ℕ) → slots_for_enodes h c ≡ slots_for_enodes g c
slots-same g h takes c = λ j. slots_for_enodes (record h { image = takes.reads.image j; filed = takes.reads.filed j }) c

large-same : (g h : Graph) → OnlyTakesSlots g h → (c : ℕ) → HasLargeRowOf h c → HasLargeRow g
large-same g h takes c large = (large.0, subst (λ rows. Contains rows large.0) takes.reads.filed large.1, large.3)

abbrev slots_before : Graph → ℕ → ℕ
slots_before g c = sum_by (slots_for_enodes g) (range_with_len 0 c)

-- from g to h slots were taken for the classes below c
pub record HasTaken (g : Graph) (c : ℕ) (h : Graph) : Type 0 where
  pub takes : OnlyTakesSlots g h
  pub count : MakesAtMost (slots_before g c) g.table h.table

pub none-taken : (g : Graph) → HasTaken g 0 g
none-taken g = record {
  takes = record { reads = record { image = refl; filed = refl; part = refl; failed = refl; more = λ s k. k }; names = refl };
  count = record { names = refl; taken = omega arith };
}

pub class-taken : (g h i : Graph) (c : ℕ) → HasTaken g c h → OnlyTakesSlots h i → MakesAtMost (slots_for_enodes h c) h.table i.table → HasTaken g (c + 1) i
class-taken g h i c so_far takes count = record {
  takes = takes_twice g h i so_far.takes takes;
  count = record {
    names = count.names ∙ so_far.count.names;
    taken = omega (arith, count.taken, so_far.count.taken, slots-same g h so_far.takes c, range-next (slots_for_enodes g) c);
  };
}

pub class-passed : (g h : Graph) (c : ℕ) → HasTaken g c h → HasTaken g (c + 1) h
class-passed g h c so_far = record {
  takes = so_far.takes;
  count = record { names = so_far.count.names; taken = omega (arith, so_far.count.taken, range-next (slots_for_enodes g) c) };
}

pub all-taken : (g h : Graph) (c : ℕ) → HasTaken g c h → c ≤ length g.image.canonical → MakesAtMost (slots_for_dump g) g.table h.table
all-taken g h c so_far within = record { names = so_far.count.names; taken = omega (arith, so_far.count.taken, range-within (slots_for_enodes g) c (length g.image.canonical) within) }

pub class-full : (g h : Graph) (c : ℕ) (u : Table) → HasTaken g c h → c < length g.image.canonical → CanRunOutForEnodes h c u → CanRunOutForDump g u
class-full g h c u so_far within (inl out) =
    inl (runs_out-after (slots_for_enodes h c) (slots_for_dump g) g.table h.table u
    (omega (arith, so_far.count.taken, slots-same g h so_far.takes c, range-next (slots_for_enodes g) c, range-within (slots_for_enodes g) (c + 1) (length g.image.canonical) (omega (arith, within)))) out)
class-full g h c u so_far within (inr large) = inr (large-same g h so_far.takes c large)
