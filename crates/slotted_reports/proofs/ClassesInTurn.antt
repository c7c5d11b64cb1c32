-- The classes of a graph, one after another: the slots that are made for their nodes, and those that a table knows.
use Rattle.std.proofs.Common.{◌≡◌, ◌≤◌, ◌<◌, ◌+◌, ℕ, zero, suc, ap, inl, inr, arith}
use Rattle.std.specs.List.{range_with_len, sum_by}
use Rattle.std.proofs.lemmas.Bool.{cases_lt}
use Rattle.slotted_slots.specs.Table.{KnowsMore, Table}
use Rattle.slotted_classes.specs.Kept.{Kept}
use Rattle.slotted_hashcons.specs.FiledRows.{Rows}
use Rattle.slotted_lookup.specs.Reports.{class_sources}
use Rattle.slotted_reports.specs.Nodes.{KnowsClassSlots, RunsOutForClasses, RunsOutForKeys, TakesForClasses, TakesForKeys, slots_of_class}
use Rattle.slotted_reports.proofs.FreshNodes.{runs_out-after, sum-range}

-- a table that knows more knows them too
pub knows-more : (t u : Table) (k : Kept) → KnowsMore t u → KnowsClassSlots t k → KnowsClassSlots u k
knows-more t u k more known i within j d l = more _ (known i within j d l)

pub range-next : (f : ℕ → ℕ) (c : ℕ) → sum_by f (range_with_len 0 (c + 1)) ≡ sum_by f (range_with_len 0 c) + f c
range-next f c =
    let one : c + 1 ≡ suc c = omega arith in
    let here : 0 + c ≡ c = omega arith in
    omega (arith, ap (λ m. sum_by f (range_with_len 0 m)) one, sum-range f 0 c, ap f here)

pub takes-next : (k : Kept) (r : Rows) (s t u : Table) (c : ℕ) → TakesForClasses k r (range_with_len 0 c) s t → TakesForKeys r (class_sources k r c) t u → TakesForClasses k r (range_with_len 0 (c + 1)) s u
takes-next k r s t u c so_far here = omega (arith, so_far, here, range-next (slots_of_class k r) c)

-- some of the classes take no more than all
pub range-within : (f : ℕ → ℕ) (c n : ℕ) → c ≤ n → sum_by f (range_with_len 0 c) ≤ sum_by f (range_with_len 0 n)
range-within f c zero le = omega (arith, ap (λ m. sum_by f (range_with_len 0 m)) (none c le))
  where
    none : (c : ℕ) → c ≤ 0 → c ≡ 0
    none c le = omega (arith, le)
range-within f c (suc n) le = elim (cases_lt c (suc n)) [
  | inl l ↦ omega (arith, range-within f c n (omega (arith, l)), sum-range f 0 n)
  | inr h ↦ let same : c ≡ suc n = omega (arith, le, h) in omega (arith, ap (λ m. sum_by f (range_with_len 0 m)) same)
]

pub takes-of_all : (k : Kept) (r : Rows) (s t : Table) (c n : ℕ) → c ≤ n → TakesForClasses k r (range_with_len 0 c) s t → TakesForClasses k r (range_with_len 0 n) s t
takes-of_all k r s t c n le takes = omega (arith, takes, range-within (slots_of_class k r) c n le)

pub runs_out-next : (k : Kept) (r : Rows) (s t u : Table) (c n : ℕ) → c < n → TakesForClasses k r (range_with_len 0 c) s t → RunsOutForKeys r (class_sources k r c) t u → RunsOutForClasses k r (range_with_len 0 n) s u
runs_out-next k r s t u c n lt so_far (inl out) =
    inl (runs_out-after (slots_of_class k r c) (sum_by (slots_of_class k r) (range_with_len 0 n)) s t u
    (omega (arith, so_far, range-next (slots_of_class k r) c, range-within (slots_of_class k r) (c + 1) n (omega (arith, lt)))) out)
runs_out-next k r s t u c n lt so_far (inr h) = inr (h.0, h.2)
