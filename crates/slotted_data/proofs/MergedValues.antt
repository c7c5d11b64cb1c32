-- A value that is merged into the data of a class at rest, and what comes to rest again.
use Rattle.std.proofs.Common.{◌≡◌, ◌<◌, ℕ, List, [], ◌∷◌, length, true, false, Option, sym, ◌∙◌, refl, subst, arith, inl, inr}
use Rattle.std.proofs.lemmas.Option.{slice_get-get_or}
use Rattle.slotted_lists.proofs.Contained.{contains_head}
use Rattle.slotted_model.specs.Find.{IsLive}
use Rattle.slotted_model.specs.State.{State}
use Rattle.slotted_model.proofs.Finds.Finding.{Leads, leads, find_class-live, found-live, found-in_range}
use Rattle.slotted_model_analyses.specs.Analysis.{Analysis, IsMerge}
use Rattle.slotted_model_analyses.specs.DataPart.{HasData, Merges, absorbed, RestsWithData, RunsWithData, starts}
use Rattle.slotted_model_analyses.specs.DataWrites.{MergesInto, merges_into}
use Rattle.slotted_model_analyses.proofs.Writing.{merge-has, merging}
use Rattle.slotted_classes.specs.Kept.{Kept, nodes_of, entries_of}
use Rattle.slotted_classes.proofs.KeptLists.{length-nodes_of}
use Rattle.slotted_hashcons.specs.Filed.{Filing}
use Rattle.slotted_hashcons.specs.FiledRows.{Rows, rows_in}
use Rattle.slotted_rebuilding.specs.Counted.{CountsFit, CountsGo}
use Rattle.slotted_hashcons.specs.WellFiled.{state_in}
use Rattle.slotted_rebuilding.proofs.RebuildCounts.{counts-same}
use Rattle.slotted_data.specs.Meaning.{Meaning, by_bare_nodes}
use Rattle.slotted_data.specs.Grounded.{Grounds, IsGrounded, at_first, by_find, IsOldOr}
use Rattle.slotted_data.specs.Held.{DataCounts, Held}
use Rattle.slotted_data.specs.Made.{data_in}
use Rattle.slotted_data.specs.Users.{found_in}
use Rattle.slotted_data.specs.Lowering.{HasUsers, IsReady, Lowers, RisesTo, TakesTurns, part_of, quiet, totals_in}
use Rattle.slotted_data.specs.Carrying.{DataRests, MergesIn}
use Rattle.slotted_data.proofs.Grounding.{EachGrounded, each-grounds, merge-grounded, run-grounded}
use Rattle.slotted_data.proofs.Noting.{merges-noted}
use Rattle.slotted_data.proofs.Rising.{ready-same, same-then, users-same}
use Rattle.slotted_data.proofs.TakenData.{zero-absorbs, puts-merges, puts-same}

module _ {D : Type 0} (meaning : Meaning D) (law : IsMerge D (by_bare_nodes meaning)) (k : Kept) (v : List (Option Filing)) (d : Held D)
    (rests : DataRests (by_bare_nodes meaning) k (record { filed = v; waiting = [] }) d) (i : ℕ) (within : i < length k.classes) (w : D) where
  abbrev q : Rows
  q = record { filed = v; waiting = [] }

  abbrev a : Analysis D
  a = by_bare_nodes meaning

  abbrev g : State
  g = state_in k q

  led : Leads (nodes_of k) (entries_of k)
  led = leads (nodes_of k) (entries_of k) rests.rest.sane.sound.linked

  in_nodes : i < length (nodes_of k)
  in_nodes = let e = length-nodes_of k in omega (arith, within, e)

  found-within : found_in k i < length k.classes
  found-within = let e = length-nodes_of k in let f = found-in_range (nodes_of k) (entries_of k) led i in_nodes in omega (arith, f, e)

  rested : (x : D) → RestsWithData a g (part_of x d [])
  rested x = record { rest = rests.rest; has = rests.has x; nothing_waits = refl }

  abbrev S : ℕ → D → Type 0
  S = IsOldOr ((i, w) ∷ []) d.values

  merged-in : (f : Held D) → f.counts ≡ d.counts → DataRests a k q f → ((x : D) → MergesInto a g (part_of x d []) i w g (part_of x f [])) → Grounds a (nodes_of k) (found_in k) S f.values → MergesIn a k q i w d f
  merged-in f same after merges grounded = record {
    grounded = grounded;
    counts = subst (λ (c : DataCounts). CountsGo d.counts.own c.own) (sym same) (counts-same d.counts.own);
    rests = after;
    merges = merges;
    absorbs = λ x. ((merging a law g (part_of x d []) (rested x) i in_nodes w).1 g (part_of x f []) (merges x)).2;
    down = λ x. ((merging a law g (part_of x d []) (rested x) i in_nodes w).1 g (part_of x f []) (merges x)).3;
  }

  pub low-merges : d.tall ≡ false → MergesIn a k q i w d d
  low-merges short = merged-in d refl rests (λ x.
      let low : meaning.height (data_in x d.values (found_in k i)) ≡ 0 = (rests.low short).1 (found_in k i) found-within x in
      merges_into (absorbed (zero-absorbs a law (data_in x d.values (found_in k i)) w low)) starts ((rests.rest.nothing_waits, rests.rest.aligned), refl)) (λ j x at. at_first j x (inl at))

  module _ (is_tall : d.tall ≡ true) where
    all_users : HasUsers k (length k.classes) d
    all_users = subst (λ n. HasUsers k n d) (rests.all is_tall) rests.users

    ready : IsReady k q d
    ready = record { rest = rests.rest; count = rests.count; users = all_users }

    module _ (c : ℕ) (class : c ≡ found_in k i) (t : Rows) (e : Held D) (lowers : Lowers meaning c w q t d e) where
      live : IsLive (entries_of k) c
      live = subst (IsLive (entries_of k)) (sym class) (found-live (nodes_of k) (entries_of k) led i in_nodes)

      c_in : c < length k.classes
      c_in = subst (λ j. j < length k.classes) (sym class) found-within

      first : (x : D) → Merges a g (part_of x d []) c w (part_of x e t.waiting)
      first x = puts-merges k q rests.rest d all_users a rests.count c live c_in tt (rests.has x).changed_once w lowers.0 lowers.1 t e lowers.2 x

      pub lowered-ready : IsReady k t e
      lowered-ready =
          let same = puts-same k q rests.rest meaning d c (meaning.merge lowers.0 w) t e lowers.2 in
          ready-same k q t d e same.1 same.0 ready

      pub lowered-has : (x : D) → HasData a (state_in k (quiet t)) (part_of x e t.waiting)
      lowered-has x =
          let same = puts-same k q rests.rest meaning d c (meaning.merge lowers.0 w) t e lowers.2 in
          let n = length-nodes_of k in
          let l = c_in in
          subst (λ z. HasData a (state_in k (record { filed = z; waiting = [] })) (part_of x e t.waiting)) (sym same.1)
          (merge-has a law g (part_of x d []) (rests.has x) c (omega (arith, l, n)) w (part_of x e t.waiting) (first x))

      risen-run : (u : Rows) (f : Held D) (turns fall : ℕ) (rises : TakesTurns a k t u e f turns fall) → u.waiting ≡ [] → (x : D) → RunsWithData a g (part_of x e t.waiting) rises.taken g (part_of x f [])
      risen-run u f turns fall rises ended x =
          let puts = puts-same k q rests.rest meaning d c (meaning.merge lowers.0 w) t e lowers.2 in
          let r : RunsWithData a (state_in k (quiet t)) (part_of x e t.waiting) rises.taken (state_in k (quiet t)) (part_of x f []) =
          subst (λ ws. RunsWithData a (state_in k (quiet t)) (part_of x e t.waiting) rises.taken (state_in k (quiet t)) (part_of x f ws)) ended (rises.runs x) in
          subst (λ z. RunsWithData a (state_in k (record { filed = z; waiting = [] })) (part_of x e t.waiting) rises.taken (state_in k (record { filed = z; waiting = [] })) (part_of x f [])) puts.1 r

      -- the value was given for the class that i finds
      first-grounded : (x : D) → EachGrounded a S (nodes_of k) (found_in k) (data_in x e.values)
      first-grounded x =
          let n = length-nodes_of k in
          let l = c_in in
          let own : (j : ℕ) → j < length (nodes_of k) → IsGrounded a (nodes_of k) (found_in k) S j (data_in x d.values j) =
          λ j h. let count = rests.count in at_first j (data_in x d.values j) (inl (slice_get-get_or d.values j x (omega (arith, h, n, count)))) in
          let in_c : c < length (nodes_of k) = omega (arith, l, n) in
          let same : found_in k i ≡ found_in k c = sym class ∙ sym (find_class-live (nodes_of k) (entries_of k) led c in_c live) in
          merge-grounded a S own (by_find i c w in_nodes in_c same (at_first i w (inr (contains_head (i, w) [])))) (first x)

      risen-merges : (u : Rows) (f : Held D) (turns fall : ℕ) → TakesTurns a k t u e f turns fall → u.waiting ≡ [] → (f.tall ≡ true) × MergesIn a k q i w d f
      risen-merges u f turns fall rises ended =
          let puts = puts-same k q rests.rest meaning d c (meaning.merge lowers.0 w) t e lowers.2 in
          let same = same-then d e f puts.0 rises.same in
          let merges : (x : D) → MergesInto a g (part_of x d []) i w g (part_of x f []) =
          λ x. merges_into (subst (λ j. Merges a g (part_of x d []) j w (part_of x e t.waiting)) class (first x)) (risen-run u f turns fall rises ended x) ((rests.rest.nothing_waits, rests.rest.aligned), refl) in
          let now : f.tall ≡ true = same.tall ∙ is_tall in (
            now,
            merged-in f same.counts (record {
              rest = rests.rest;
              count = same.count ∙ rests.count;
              has = λ x. ((merging a law g (part_of x d []) (rested x) i in_nodes w).1 g (part_of x f []) (merges x)).1.has;
              users = subst (λ n. HasUsers k n f) (sym same.entered) (users-same k d.entered d f same.users rests.users);
              all = λ z. same.entered ∙ rests.all is_tall;
              low = λ z. absurd cc;
              carried = same.carried ∙ rests.carried;
              dead = rests.dead;
              counts = subst (λ (c : DataCounts). CountsFit c.own 0) (sym same.counts) rests.counts;
              still = λ z. absurd cc;
              high = λ _. rests.high is_tall;
            }) merges (each-grounds a S (nodes_of k) (found_in k) f.values (same.count ∙ (rests.count ∙ sym (length-nodes_of k)))
                (λ x. run-grounded meaning law S g rests.rest (first-grounded x) (risen-run u f turns fall rises ended x))),
          )

      pub noted-merges : (u : Rows) (f : Held D) → RisesTo a k t u e f → MergesIn a k q i w d f
      noted-merges u f rises =
          let m = risen-merges u rises.risen rises.turns rises.fall rises.takes rises.nothing_waits in
          subst (MergesIn a k q i w d) (sym rises.notes)
          (merges-noted a k q rises.risen (length (rows_in t.filed)) rises.fall rises.turns (totals_in k) rises.few m.0 i w d m.1)

-- the same of a graph in which nothing waits
module _ {D : Type 0} (meaning : Meaning D) (law : IsMerge D (by_bare_nodes meaning)) (k : Kept) (q : Rows) (d : Held D)
    (rests : DataRests (by_bare_nodes meaning) k q d) (i : ℕ) (within : i < length k.classes) (w : D) where
  abbrev still : Rows
  still = record { filed = q.filed; waiting = [] }

  still-is : q ≡ still
  still-is = λ j. record { filed = q.filed; waiting = rests.rest.nothing_waits j }

  rests-still : DataRests (by_bare_nodes meaning) k still d
  rests-still = subst (λ (z : Rows). DataRests (by_bare_nodes meaning) k z d) still-is rests

  back : (f : Held D) → MergesIn (by_bare_nodes meaning) k still i w d f → MergesIn (by_bare_nodes meaning) k q i w d f
  back f m = subst (λ (z : Rows). MergesIn (by_bare_nodes meaning) k z i w d f) (sym still-is) m

  pub at-low : d.tall ≡ false → MergesIn (by_bare_nodes meaning) k q i w d d
  at-low short = back d (low-merges meaning law k q.filed d rests-still i within w short)

  module _ (is_tall : d.tall ≡ true) (c : ℕ) (class : c ≡ found_in k i) (t : Rows) (e : Held D) (lowers : Lowers meaning c w q t d e) where
    lowers-still : Lowers meaning c w still t d e
    lowers-still = subst (λ (z : Rows). Lowers meaning c w z t d e) still-is lowers

    pub at-ready : IsReady k t e
    at-ready = lowered-ready meaning law k q.filed d rests-still i within w is_tall c class t e lowers-still

    pub at-has : (x : D) → HasData (by_bare_nodes meaning) (state_in k (quiet t)) (part_of x e t.waiting)
    at-has = lowered-has meaning law k q.filed d rests-still i within w is_tall c class t e lowers-still

    pub at-rise : (u : Rows) (f : Held D) → RisesTo (by_bare_nodes meaning) k t u e f → MergesIn (by_bare_nodes meaning) k q i w d f
    at-rise u f rises = back f (noted-merges meaning law k q.filed d rests-still i within w is_tall c class t e lowers-still u f rises)
