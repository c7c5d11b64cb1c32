-- Turns for data alone, one after another, until nothing waits.
use Rattle.std.proofs.Common.{◌≡◌, ◌<◌, ◌≤◌, ℕ, zero, suc, ◌+◌, ◌-◌, ◌*◌, List, [], ◌∷◌, length, cond, sym, ◌∙◌, ap, refl, subst, inl, inr, arith, None}
use Rattle.std.specs.Prelude.{Contains, min, nat_eq, slice_get, slice_index_or}
use Rattle.std.proofs.Math.Nat.{min-eq_left, min-eq_right, mul-le-mul_left}
use Rattle.std.proofs.lemmas.Bool.{cases_lt}
use Rattle.std.proofs.lemmas.List.{set-get_or}
use Rattle.slotted_lists.proofs.Contained.{Contains-nil, contains_head}
use Rattle.slotted_model.specs.Correspondence.{AllDifferent}
use Rattle.slotted_model.specs.Find.{Entry}
use Rattle.slotted_model.specs.Rebuild.{without}
use Rattle.slotted_model.specs.Rest.{AtRest, size}
use Rattle.slotted_model.specs.State.{State}
use Rattle.slotted_model.proofs.Rebuilding.Rows.{of_source}
use Rattle.slotted_model_analyses.specs.Analysis.{Analysis, IsMerge}
use Rattle.slotted_model_analyses.specs.DataPart.{HasData, Merges, TakesData, heights_from, made, size_with_data, starts, takes, takes_data}
use Rattle.slotted_model_analyses.specs.RunClaims.{FallsOrTakes}
use Rattle.slotted_model_analyses.proofs.Counts.{counted-with, pending-below, run-with}
use Rattle.slotted_model_analyses.proofs.Following.{data-followed}
use Rattle.slotted_classes.specs.Counts.{most_turns}
use Rattle.slotted_classes.specs.Kept.{Kept, entries_of}
use Rattle.slotted_classes.proofs.KeptLists.{any_default, length-entries_of}
use Rattle.slotted_hashcons.specs.Filed.{filed_of}
use Rattle.slotted_hashcons.specs.FiledRows.{IsFiled, Rows, TakesTurn, row_of_entry, rows_in}
use Rattle.slotted_hashcons.proofs.FiledRows.{row-filed, source-filed, without-front}
use Rattle.slotted_hashcons.specs.WellFiled.{state_in}
use Rattle.slotted_data.specs.Held.{Held}
use Rattle.slotted_data.specs.Made.{data_in}
use Rattle.slotted_data.specs.Users.{found_in}
use Rattle.slotted_data.specs.Counted.{most_fall}
use Rattle.slotted_data.specs.Lowering.{quiet, part_of, FallsBy, HasUsers, IsReady, SameUsers, TakesTurns, TakesValue}
use Rattle.slotted_data.proofs.TakenData.{row-within}

-- the class whose turn it was has filed what it had
pub left-filed : (s t : Rows) (o : ℕ) → TakesTurn s t o (filed_of s.filed o) → t.filed ≡ s.filed
left-filed s t o turn = turn.filed ∙ set-get_or s.filed o None

-- one of a list that has some
pub some-of : {D : Type 0} (xs : List D) → 0 < length xs → D
some-of [] h = absurd (omega arith)
some-of (x ∷ xs) h = x

module _ {D : Type 0} (d e f : Held D) where
  pub same-then : SameUsers d e → SameUsers e f → SameUsers d f
  same-then m n = record {
    count = n.count ∙ m.count;
    users = n.users ∙ m.users;
    entered = n.entered ∙ m.entered;
    carried = n.carried ∙ m.carried;
    tall = n.tall ∙ m.tall;
    counts = n.counts ∙ m.counts;
  }

pub users-same : {D : Type 0} (k : Kept) (n : ℕ) (d e : Held D) → e.users ≡ d.users → HasUsers k n d → HasUsers k n e
users-same k n d e same has = record {
  cover = λ o c l there. subst (λ us. Contains (slice_index_or us (found_in k c) []) o) (sym same) (has.cover o c l there);
  only = λ c o there. has.only c o (subst (λ us. Contains (slice_index_or us c []) o) same there);
  within = λ c o there. has.within c o (subst (λ us. Contains (slice_index_or us c []) o) same there);
}

-- where the same is filed, and the same are users, all is ready still
pub ready-same : {D : Type 0} (k : Kept) (s t : Rows) (d e : Held D) → t.filed ≡ s.filed → SameUsers d e → IsReady k s d → IsReady k t e
ready-same k s t d e filed same ready = record {
  rest = subst (λ v. AtRest (state_in k (record { filed = v; waiting = [] }))) (sym filed) ready.rest;
  count = same.count ∙ ready.count;
  users = users-same k (length k.classes) d e same.users ready.users;
}

module _ {D : Type 0} (a : Analysis D) where
  -- how much is left to do, by any value for what is out of range
  abbrev pub left_with : State → Held D → List ℕ → List D → ℕ
  left_with g d w [] = 0
  left_with g d w (x ∷ xs) = suc (length g.rows) * size_with_data a g (part_of x d w) + length w

  abbrev pub work_left : State → Held D → List ℕ → ℕ
  work_left g d w = left_with g d w d.values

  heights-any : (xs : List D) (x y : D) (i : ℕ) (found : List Entry) → i + length found ≤ length xs → heights_from a (data_in x xs) i found ≡ heights_from a (data_in y xs) i found
  heights-any xs x y i [] l = refl
  heights-any xs x y i (e ∷ found) l =
      let here = any_default xs i x y (omega arith) in
      let rest = heights-any xs x y (suc i) found (omega arith) in
      λ j. cond (nat_eq e.class i) (a.height (here j)) 0 + rest j

  size-any : (k : Kept) (s : Rows) (d : Held D) (x y : D) (w : List ℕ) → length k.classes ≤ length d.values →
      size_with_data a (state_in k (quiet s)) (part_of x d w) ≡ size_with_data a (state_in k (quiet s)) (part_of y d w)
  size-any k s d x y w l =
      let e = length-entries_of k in
      ap (λ n. size (state_in k (quiet s)) + n) (heights-any d.values x y 0 (entries_of k) (omega arith))

  falls-with : (k : Kept) (s : Rows) (d e : Held D) (w u : List ℕ) (xs ys : List D) → 0 < length xs → length ys ≡ length xs → length k.classes ≤ length e.values →
      ((x : D) → FallsOrTakes a (state_in k (quiet s)) (part_of x d w) (state_in k (quiet s)) (part_of x e u) × (length u ≤ length (rows_in s.filed))) →
      left_with (state_in k (quiet s)) e u ys < left_with (state_in k (quiet s)) d w xs
  falls-with k s d e w u [] ys some same l falls = absurd (omega arith)
  falls-with k s d e w u (x ∷ xs) [] some same l falls = absurd (omega arith)
  falls-with k s d e w u (x ∷ xs) (y ∷ ys) some same l falls =
      let g : State = state_in k (quiet s) in
      let R : ℕ = length (rows_in s.filed) in
      let S : ℕ = size_with_data a g (part_of x d w) in
      let T : ℕ = size_with_data a g (part_of y e u) in
      let any : T ≡ size_with_data a g (part_of x e u) = size-any k s e y x u l in
      let below : length u ≤ R = (falls x).1 in
      elim (falls x).0 [
        | inl f ↦
            let lower : suc T ≤ S = omega (arith, f, any) in
            let m : suc R * suc T ≤ suc R * S = mul-le-mul_left (suc R) lower in
            omega (arith, m, below)
        | inr h ↦
            let sizes : T ≡ S = any ∙ h.0 in
            let waits = h.1 in
            let m : suc R * T ≡ suc R * S = ap (λ n. suc R * n) sizes in
            omega (arith, m, waits)
      ]

  module _ (law : IsMerge D a) (k : Kept) (base : Rows) (rest : AtRest (state_in k (quiet base))) where
    -- the turn of the class o, after which others wait
    pub rise-turn : (s m t : Rows) (d e : Held D) (o : ℕ) → s.filed ≡ base.filed → m.filed ≡ s.filed → s.waiting ≡ o ∷ m.waiting → IsFiled s.filed o → AllDifferent s.waiting →
        TakesValue a k o m t d e → (x : D) → TakesData a (state_in k (quiet base)) (part_of x d s.waiting) (part_of x e t.waiting)
    rise-turn s m t d e o filed left waits is once taken x =
        let g : State = state_in k (quiet base) in
        let all : m.filed ≡ base.filed = left ∙ filed in
        let r = of_source (rows_in base.filed) o ((source-filed base.filed o).1 (subst (λ v. IsFiled v o) filed is)) in
        let first : Merges a (state_in k (quiet m)) (part_of x d m.waiting) (found_in k o) (made a (part_of x d m.waiting) r.0.shape) (part_of x e t.waiting) =
        taken.merges x r.0 (subst (λ v. Contains (rows_in v) r.0) (sym all) r.1) r.2 in
        let second : Merges a g (part_of x d m.waiting) (found_in k o) (made a (part_of x d m.waiting) r.0.shape) (part_of x e t.waiting) =
        subst (λ v. Merges a (state_in k (record { filed = v; waiting = [] })) (part_of x d m.waiting) (found_in k o) (made a (part_of x d m.waiting) r.0.shape) (part_of x e t.waiting)) all first in
        let out : m.waiting ≡ without r.0.source s.waiting = sym (ap (λ i. without i s.waiting) r.2 ∙ without-front o s.waiting m.waiting waits once) in
        let third : Merges a g (part_of x d (without r.0.source s.waiting)) (found_in k o) (made a (part_of x d s.waiting) r.0.shape) (part_of x e t.waiting) =
        subst (λ w. Merges a g (part_of x d w) (found_in k o) (made a (part_of x d s.waiting) r.0.shape) (part_of x e t.waiting)) out second in
        takes r.0 r.1 (subst (λ w. Contains w r.0.source) (sym waits) (subst (Contains (o ∷ m.waiting)) (sym r.2) (contains_head o m.waiting))) (λ h. Contains-nil r.0.source h)
        (subst (λ c. Merges a g (part_of x d (without r.0.source s.waiting)) c (made a (part_of x d s.waiting) r.0.shape) (part_of x e t.waiting)) (ap (found_in k) (sym r.2)) third)

    pub rise-has : (w u : List ℕ) (d e : Held D) (x : D) → HasData a (state_in k (quiet base)) (part_of x d w) → TakesData a (state_in k (quiet base)) (part_of x d w) (part_of x e u) →
        HasData a (state_in k (quiet base)) (part_of x e u)
    rise-has w u d e x has turn = (data-followed a law (state_in k (quiet base)) rest.sane (part_of x d w) (part_of x e u) has turn).has

    pub rise-falls : (w u : List ℕ) (d e : Held D) → 0 < length d.values → length e.values ≡ length d.values → length d.values ≡ length k.classes →
        ((x : D) → HasData a (state_in k (quiet base)) (part_of x d w)) → ((x : D) → TakesData a (state_in k (quiet base)) (part_of x d w) (part_of x e u)) →
        work_left (state_in k (quiet base)) e u < work_left (state_in k (quiet base)) d w
    rise-falls w u d e some same count has turn =
        falls-with k base d e w u d.values e.values some same (omega (arith, same, count)) (λ x.
        let f = data-followed a law (state_in k (quiet base)) rest.sane (part_of x d w) (part_of x e u) (has x) (turn x) in
        (f.falls, pending-below a (state_in k (quiet base)) (part_of x e u) f.has))

    -- a class of which something is filed is one
    pub filed-within : (v : Rows) (o : ℕ) → v.filed ≡ base.filed → IsFiled v.filed o → o < length k.classes
    filed-within v o same is =
        let f = is.0 in
        row-within k base rest (row_of_entry (f.0, (o, f.1))) (row-filed base.filed o f.0 f.1 (ap (λ w. filed_of w o) (sym same) ∙ is.1))

-- turns that were counted to an end, and by how much heights fell, counted to the same
few-counted : (t f r most : ℕ) → t ≤ r * suc f → min t most ≤ r * suc (min f most)
few-counted t f zero most l = omega (arith, l)
few-counted t f (suc r) most l = elim (cases_lt most f) [
  | inl over ↦
      let e : min f most ≡ most = min-eq_right (omega (arith, over)) in
      let n : suc r * suc most ≡ suc most + r * suc most = omega arith in
      subst (λ m. min t most ≤ suc r * suc m) (sym e) (omega (arith, n))
  | inr within ↦
      let e : min f most ≡ f = min-eq_left within in
      subst (λ m. min t most ≤ suc r * suc m) (sym e) (omega (arith, l))
]

counted-more : (n m k most : ℕ) → n ≡ min m most → min (n + k) most ≡ min (m + k) most
counted-more n m k most e = omega (arith, e)

module _ {D : Type 0} (a : Analysis D) (k : Kept) (s : Rows) where
  pub turns-none : (d : Held D) → TakesTurns a k s s d d 0 0
  turns-none d = record {
    filed = refl;
    same = record { count = refl; users = refl; entered = refl; carried = refl; tall = refl; counts = refl };
    taken = 0;
    fallen = 0;
    turns_is = refl;
    fall_is = refl;
    runs = λ x. starts;
    falls = λ x. omega arith;
  }

  -- one turn more, in which heights fell by n
  pub turns-next : (m t : Rows) (d e f : Held D) (turns fall more n less : ℕ) → TakesTurns a k s m d e turns fall → t.filed ≡ m.filed → SameUsers e f → FallsBy a k e f n →
      more ≡ min (turns + 1) most_turns → less ≡ min (fall + n) most_fall →
      ((x : D) → TakesData a (state_in k (quiet s)) (part_of x e m.waiting) (part_of x f t.waiting)) → TakesTurns a k s t d f more less
  turns-next m t d e f turns fall more n less so_far filed same falls up down turn = record {
    filed = filed ∙ so_far.filed;
    same = same-then d e f so_far.same same;
    taken = suc so_far.taken;
    fallen = so_far.fallen + n;
    turns_is = up ∙ (counted-more turns so_far.taken 1 most_turns so_far.turns_is ∙ ap (λ i. min i most_turns) (omega arith));
    fall_is = down ∙ counted-more fall so_far.fallen n most_fall so_far.fall_is;
    runs = λ x. takes_data (so_far.runs x) (turn x);
    falls = λ x. let p = falls x in let q = so_far.falls x in omega (arith, p, q);
  }

  -- no more turns than the rows and the fall of heights allow
  pub turns-few : IsMerge D a → AtRest (state_in k (quiet s)) → (t : Rows) (d e : Held D) (turns fall : ℕ) → TakesTurns a k s t d e turns fall →
      (x : D) → HasData a (state_in k (quiet s)) (part_of x d s.waiting) → turns ≤ length (rows_in s.filed) * suc fall
  turns-few law rest t d e turns fall so_far x has =
      let g : State = state_in k (quiet s) in
      let few = counted-with a law g rest.sane (run-with a law g rest.sane has (so_far.runs x)) in
      let falls = so_far.falls x in
      let same : suc (size_with_data a g (part_of x d s.waiting)) - size_with_data a g (part_of x e t.waiting) ≡ suc so_far.fallen = omega (arith, falls) in
      let bound : so_far.taken + length t.waiting ≤ length (rows_in s.filed) * suc so_far.fallen =
      subst (λ n. so_far.taken + length t.waiting ≤ length (rows_in s.filed) * n) same few in
      let all = few-counted so_far.taken so_far.fallen (length (rows_in s.filed)) most_turns (omega (arith, bound)) in
      subst (λ n. n ≤ length (rows_in s.filed) * suc fall) (sym so_far.turns_is) (subst (λ n. min so_far.taken most_turns ≤ length (rows_in s.filed) * suc n) (sym so_far.fall_is) all)

pub nobody-first : (w : List ℕ) → slice_get w 0 ≡ None → w ≡ []
nobody-first [] e = refl
nobody-first (x ∷ w) e = cc
