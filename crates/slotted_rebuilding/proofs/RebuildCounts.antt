-- What one more rebuild makes of what was noted.
use Rattle.std.proofs.Common.{◌≡◌, ◌≤◌, ◌+◌, ◌-◌, ◌*◌, ◌⊎◌, ℕ, zero, suc, length, arith, inl, inr, refl, subst, sym}
use Rattle.std.specs.Prelude.{min}
use Rattle.std.proofs.Math.Nat.{min-eq_left, min-eq_right}
use Rattle.slotted_model.proofs.Rebuilding.Turning.{counted, run-no_larger}
use Rattle.slotted_model.specs.Rebuild.{Runs}
use Rattle.slotted_model.specs.Rest.{Sane, size}
use Rattle.slotted_model.specs.State.{State}
use Rattle.slotted_classes.specs.Counts.{Counts, most_bound, most_turns, noted, turn_bound}
use Rattle.slotted_classes.specs.Kept.{Kept, size_of}
use Rattle.slotted_hashcons.specs.FiledRows.{Rows, rows_in}
use Rattle.slotted_rebuilding.specs.Counted.{CountsFit, CountsGo, CountsOn, NotesRebuild, TotalsFit}

-- a sum that ends at a largest number
min-either : (a b : ℕ) → ((a ≤ b) × (min a b ≡ a)) ⊎ ((b ≤ a) × (min a b ≡ b))
min-either a b = elim (le-or a b) [
  | inl l ↦ inl (l, min-eq_left l)
  | inr l ↦ inr (l, min-eq_right l)
]
  where
    le-or : (x y : ℕ) → (x ≤ y) ⊎ (y ≤ x)
    le-or zero y = inl (omega arith)
    le-or (suc x) zero = inr (omega arith)
    le-or (suc x) (suc y) = elim (le-or x y) [ inl l ↦ inl (omega (arith, l)) | inr l ↦ inr (omega (arith, l)) ]

-- nothing was noted
pub counts-same : (c : Counts) → CountsGo c c
counts-same c = record { turns = omega arith; bound = omega arith; rise = inl (omega arith) }

-- one after another
pub counts-then : (c d e : Counts) → CountsGo c d → CountsGo d e → CountsGo c e
counts-then c d e a b = record {
  turns = omega (arith, a.turns, b.turns);
  bound = omega (arith, a.bound, b.bound);
  rise = elim a.rise [
    | inl x ↦ elim b.rise [
      | inl y ↦ inl (omega (arith, x, y, a.turns, a.bound, b.turns, b.bound))
      | inr y ↦ inr y
    ]
    | inr x ↦ inr (omega (arith, x, b.bound))
  ];
}

module _ (c : Counts) (nodes before after turns : ℕ) (few : turns ≤ nodes * suc (before - after)) where
  abbrev next : Counts
  next = noted c nodes before after turns

  bound_of : ℕ
  bound_of = turn_bound nodes before after

  within : (turns ≤ bound_of) ⊎ (most_bound ≤ bound_of)
  unfolding bound_of
  within = elim (min-either (nodes * suc (before - after)) most_bound) [
    | inl l ↦ inl (omega (arith, few, l.1))
    | inr l ↦ inr (omega (arith, l.1))
  ]

  module _ (fit : TotalsFit c) where
    pub noted-goes : CountsGo c next
    unfolding bound_of
    noted-goes =
        let t = min-either (c.total_turns + turns) most_turns in
        let b = min-either (c.total_bound + bound_of) most_bound in
        record {
          turns = elim t [ inl l ↦ omega (arith, l.1) | inr l ↦ omega (arith, l.1, fit.turns_end) ];
          bound = elim b [ inl l ↦ omega (arith, l.1) | inr l ↦ omega (arith, l.1, fit.bound_end) ];
          rise = elim b [
            | inl l ↦ elim within [
              | inl w ↦ inl (elim t [ inl m ↦ omega (arith, l.1, m.1, w) | inr m ↦ omega (arith, l.1, m.0, m.1, w) ])
              | inr w ↦ inr (omega (arith, l.1, w))
            ]
            | inr l ↦ inr (omega (arith, l.1))
          ];
        }

    pub noted-fits : after ≤ before → CountsFit next after
    unfolding bound_of
    noted-fits falls =
        let t = min-either (c.total_turns + turns) most_turns in
        let b = min-either (c.total_bound + bound_of) most_bound in
        record {
          turns = few;
          falls = falls;
          after = refl;
          totals = record {
            turns_end = elim t [ inl l ↦ omega (arith, l.0, l.1) | inr l ↦ omega (arith, l.1) ];
            bound_end = elim b [ inl l ↦ omega (arith, l.0, l.1) | inr l ↦ omega (arith, l.1) ];
            total = elim b [
              | inr l ↦ inr (omega (arith, l.1))
              | inl l ↦ elim fit.total [
                | inr f ↦ inr (omega (arith, l.1, f))
                | inl f ↦ elim within [
                  | inr w ↦ inr (omega (arith, l.1, w))
                  | inl w ↦ inl (elim t [ inl m ↦ omega (arith, l.1, m.1, w, f) | inr m ↦ omega (arith, l.1, m.0, m.1, w, f) ])
                ]
              ]
            ];
          };
        }

-- what was noted after it fitted goes on and fits
pub rebuild-fits : (k : Kept) (r : Rows) (l : Kept) (n : ℕ) → NotesRebuild k r l n → TotalsFit k.counts → CountsGo k.counts l.counts × CountsFit l.counts (size_of l)
rebuild-fits k r l n notes fit = (
  subst (CountsGo k.counts) (sym notes.counts) (noted-goes k.counts (length (rows_in r.filed)) (size_of k) (size_of l) n notes.bounded fit),
  subst (λ c. CountsFit c (size_of l)) (sym notes.counts) (noted-fits k.counts (length (rows_in r.filed)) (size_of k) (size_of l) n notes.bounded fit notes.falls),
)

-- nothing was noted, and then something
pub counts-on : (k l m : Kept) → CountsOn k l → CountsOn l m → CountsOn k m
counts-on k l m a b fit =
    let x = a fit in
    let y = b x.1 in
    (counts-then k.counts l.counts m.counts x.0 y.0, y.1)

pub counts-on_same : (k l : Kept) → l.counts ≡ k.counts → size_of l ≡ size_of k → CountsOn k l
counts-on_same k l counts same fit = (
  subst (CountsGo k.counts) (sym counts) (counts-same k.counts),
  subst (λ c. CountsFit c (size_of l)) (sym counts) (subst (CountsFit k.counts) (sym same) fit),
)

-- a run takes no more turns than its bound allows
pub run-counted : (f h : State) (n counted_turns : ℕ) → Sane f → Runs f n h → counted_turns ≤ n →
    (counted_turns ≤ length f.rows * suc (size f - size h)) × (size h ≤ size f)
run-counted f h n m sane runs small =
    let falls : size h ≤ size f = run-no_larger f sane runs in
    let all = counted f sane runs in
    let same : suc (size f) - size h ≡ suc (size f - size h) = omega (arith, falls) in
    let bounded : n + length h.waiting ≤ length f.rows * suc (size f - size h) = subst (λ x. n + length h.waiting ≤ length f.rows * x) same all in
    (omega (arith, bounded, small), falls)
