-- What was known of data when the older graph was at rest, and what has been done since, is what the model asks of data that is carried along.
use Rattle.std.proofs.Common.{◌≡◌, ◌<◌, ◌≤◌, ℕ, List, [], ◌∷◌, ◌++◌, length, map, drop, take, ◌-◌, true, false, cond, Option, sym, ◌∙◌, ap, refl, subst, inl, inr, arith}
use Rattle.std.specs.Prelude.{◌⊎◌, Contains, slice_get}
use Rattle.std.proofs.lemmas.Bool.{cases_eq, cases_lt, lt-ltb}
use Rattle.std.proofs.lemmas.List.{length-drop, take-append-drop, take_all}
use Rattle.std.proofs.lemmas.List.Elements.{Contains-append_cases, Contains-append_right}
use Rattle.std.proofs.Math.ListN.{get_or-append}
use Rattle.slotted_lists.proofs.Contained.{Contains-nil, Contains-map, Contains-of_map, map-agree}
use Rattle.slotted_theory.specs.Nameless.{DTerm}
use Rattle.slotted_languages.specs.NodeTerm.{nameless_node}
use Rattle.slotted_model.specs.Changes.{GoesOn}
use Rattle.slotted_model.specs.Correspondence.{AllDifferent, identity}
use Rattle.slotted_model.specs.Find.{IsLive, entry_at, used_slots}
use Rattle.slotted_model.specs.Rest.{AtRest}
use Rattle.slotted_model.specs.State.{Row, State, child_classes, sources}
use Rattle.slotted_model.proofs.Finds.Finding.{Leads, leads, find_class-live, found-live, found-in_range}
use Rattle.slotted_model.proofs.Rebuilding.GoingOn.{used-valid}
use Rattle.slotted_model_analyses.specs.Analysis.{Analysis, IsMerge, Absorbs}
use Rattle.slotted_model_analyses.specs.DataPart.{HasData, DataGoesDown, RestsWithData, RunsWithData, made}
use Rattle.slotted_model_analyses.specs.DataWrites.{HasNotedAll}
use Rattle.slotted_model_analyses.specs.Carried.{CarriesTo, GoesAlong}
use Rattle.slotted_model_analyses.proofs.Absorbing.{absorbs-both}
use Rattle.slotted_model_analyses.proofs.CarriedData.{carried-kept, carried-rests, row-made}
use Rattle.slotted_classes.specs.Kept.{Kept, ListsDead, node_at, nodes_of, entries_of}
use Rattle.slotted_classes.proofs.KeptLists.{length-nodes_of, length-entries_of}
use Rattle.slotted_hashcons.specs.Filed.{Filing}
use Rattle.slotted_hashcons.specs.FiledRows.{IsFiled, Rows, rows_in}
use Rattle.slotted_classes.proofs.ClassNodes.{node-is}
use Rattle.slotted_hashcons.proofs.FiledRows.{source-filed}
use Rattle.slotted_rebuilding.specs.Counted.{CountsFit, CountsGo}
use Rattle.slotted_hashcons.specs.WellFiled.{state_in}
use Rattle.slotted_rebuilding.proofs.RebuildCounts.{counts-same}
use Rattle.slotted_data.specs.Meaning.{Meaning, by_bare_nodes}
use Rattle.slotted_data.proofs.Merging.{makes-alike}
use Rattle.slotted_data.specs.Grounded.{Grounds, IsOldOr}
use Rattle.slotted_data.specs.Held.{DataCounts, Held, users_of, with_carried}
use Rattle.slotted_data.specs.Made.{data_in, children_at, source_class, AddsNew}
use Rattle.slotted_data.specs.Users.{EntersUsers, found_in}
use Rattle.slotted_data.specs.Lowering.{HasUsers, IsReady, TakesTurns, part_of, quiet, totals_in}
use Rattle.slotted_data.specs.Burying.{Buries}
use Rattle.slotted_data.specs.Carrying.{RestedBefore, Carried, CarriesUp}
use Rattle.slotted_data.proofs.Grounding.{EachGrounded, each-grounds, grounded-later, grounds-each, new-grounded, run-grounded, stays-itself}
use Rattle.slotted_data.proofs.NewData.{children-older}
use Rattle.slotted_data.proofs.Noting.{carried-noted}
use Rattle.slotted_data.proofs.Rising.{users-same}
use Rattle.slotted_data.proofs.TakenData.{zero-absorbs, row-within, row-source}

-- data of height 0 is all the same
pub low-same : {D : Type 0} (a : Analysis D) → IsMerge D a → (x y : D) → a.height x ≡ 0 → a.height y ≡ 0 → x ≡ y
low-same a law x y p q = absorbs-both a law x y (zero-absorbs a law x y p) (zero-absorbs a law y x q)

-- the members after those that a list begins with
pub drop-begun : {X : Type 0} (xs ys : List X) → drop (length xs) (xs ++ ys) ≡ ys
drop-begun [] ys = refl
drop-begun (x ∷ xs) ys = drop-begun xs ys

pub from-drop : {X : Type 0} (n : ℕ) (xs : List X) (x : X) → Contains (drop n xs) x → Contains xs x
from-drop n xs x h = subst (λ ys. Contains ys x) (take-append-drop n xs) (Contains-append_right (take n xs) (drop n xs) x h)

pub slice-drop : {X : Type 0} (n : ℕ) (xs : List X) → take (length xs - n) (drop n xs) ≡ drop n xs
slice-drop n xs = let e = length-drop n xs in take_all (length xs - n) (drop n xs) (omega (arith, e))

pub slice-is : {X : Type 0} (xs ys : List X) (n m : ℕ) → xs ≡ ys → n ≡ m → take (length xs - n) (drop n xs) ≡ drop m ys
slice-is xs ys n m e p = slice-drop n xs ∙ (λ i. drop (p i) (e i))

-- the older graph is that of k and r, the newer that of l, with what is filed in it
module _ {D : Type 0} (meaning : Meaning D) (law : IsMerge D (by_bare_nodes meaning)) (k : Kept) (r : Rows) (l : Kept) (v : List (Option Filing)) (d : Held D)
    (before : RestedBefore (by_bare_nodes meaning) k r l (record { filed = v; waiting = [] }) d)
    (rest : AtRest (state_in l (record { filed = v; waiting = [] }))) (deaths : ListsDead l.deaths (entries_of l)) where
  abbrev q : Rows
  q = record { filed = v; waiting = [] }

  abbrev a : Analysis D
  a = by_bare_nodes meaning

  abbrev older : State
  older = state_in k r

  abbrev newer : State
  newer = state_in l q

  old_led : Leads (nodes_of k) (entries_of k)
  old_led = leads (nodes_of k) (entries_of k) before.rested.rest.sane.sound.linked

  led : Leads (nodes_of l) (entries_of l)
  led = leads (nodes_of l) (entries_of l) rest.sane.sound.linked

  pub later-class : (i : ℕ) → i < length k.classes → i < length l.classes
  later-class i h =
      let e = length-nodes_of k in
      let f = length-nodes_of l in
      let n = (before.goes_on.classes i (omega (arith, h, e))).0 in
      omega (arith, n, f)

  pub later-children : (i : ℕ) → i < length k.classes → children_at l i ≡ children_at k i
  later-children i h =
      let e = length-nodes_of k in
      ap (λ (t : DTerm). child_classes t.args) (node-is l i (later-class i h) ∙ ((before.goes_on.classes i (omega (arith, h, e))).1 ∙ sym (node-is k i h)))

  pub later-found : (i : ℕ) → i < length k.classes → found_in l i ≡ found_in l (found_in k i)
  later-found i h =
      let e = length-nodes_of k in
      ap (λ b. b.0) (before.goes_on.finds (i, identity (used_slots (entries_of k) i)) (used-valid older before.rested.rest.sane.sound.linked i (omega (arith, h, e)))).1

  old_found : (i : ℕ) → i < length k.classes → found_in k i < length k.classes
  old_found i h = let e = length-nodes_of k in let f = found-in_range (nodes_of k) (entries_of k) old_led i (omega (arith, h, e)) in omega (arith, f, e)

  new_found : (i : ℕ) → i < length l.classes → found_in l i < length l.classes
  new_found i h = let e = length-nodes_of l in let f = found-in_range (nodes_of l) (entries_of l) led i (omega (arith, h, e)) in omega (arith, f, e)

  lives-later : (i : ℕ) → i < length l.classes → IsLive (entries_of l) (found_in l i)
  lives-later i h = let e = length-nodes_of l in found-live (nodes_of l) (entries_of l) led i (omega (arith, h, e))

  itself : (i : ℕ) → i < length l.classes → IsLive (entries_of l) i → found_in l i ≡ i
  itself i h is = let e = length-nodes_of l in find_class-live (nodes_of l) (entries_of l) led i (omega (arith, h, e)) is

  found-again : (i : ℕ) → i < length l.classes → found_in l (found_in l i) ≡ found_in l i
  found-again i h = itself (found_in l i) (new_found i h) (lives-later i h)

  -- a class lives, or it has died since, if it lived then or was not there
  pub lives-or : (i : ℕ) → i < length l.classes → ((i < length k.classes) → IsLive (entries_of k) i) → IsLive (entries_of l) i ⊎ Contains before.more i
  lives-or i h lived = elim (cases_eq (entry_at (entries_of l) i).class i) [
    | inl e ↦ inl e
    | inr n ↦
        let e = length-entries_of l in
        let there : Contains l.deaths i = (deaths i).1 (omega (arith, h, e), n) in
        elim (Contains-append_cases k.deaths before.more i (subst (λ xs. Contains xs i) before.deaths there)) [
          | inl old ↦
              let was = (before.rested.dead i).0 old in
              let in_old = was.0 in
              let f = length-entries_of k in
              absurd (was.1 (lived (omega (arith, in_old, f))))
          | inr new ↦ inr new
        ]
  ]

  dies-later : (i : ℕ) → Contains before.more i → (¬ IsLive (entries_of l) i) × (i < length l.classes)
  dies-later i there =
      let all : Contains l.deaths i = subst (λ xs. Contains xs i) (sym before.deaths) (Contains-append_right k.deaths before.more i there) in
      let is = (deaths i).0 all in
      let n = is.0 in
      let e = length-entries_of l in
      (is.1, omega (arith, n, e))

  module _ (e : Held D) (new : AddsNew meaning l d e) (count : length e.values ≡ length l.classes) where
    pub old-data : (x : D) (i : ℕ) → i < length k.classes → data_in x e.values i ≡ data_in x d.values i
    old-data x i h = let c = before.rested.count in ap (λ vs. data_in x vs i) new.values ∙ get_or-append d.values new.more x i (omega (arith, h, c))

    -- who was a user then has a child that finds the same now
    pub only-later : (c o : ℕ) → Contains (users_of d c) o → (o < length l.classes) × Contains (map (found_in l) (children_at l o)) (found_in l c)
    only-later c o there =
        let was = before.rested.users.only c o there in
        let in_k : c < length k.classes = before.rested.users.within c o there in
        let w = Contains-of_map (found_in k) (children_at k o) (found_in k c) was.1 in
        let older_child = children-older k before.rested.rest.sane.sound.canonical o was.0 w.0 w.1 in
        let in_o = was.0 in
        let child : w.0 < length k.classes = omega (arith, older_child, in_o) in
        let same : found_in l w.0 ≡ found_in l c = later-found w.0 child ∙ (ap (found_in l) w.2 ∙ sym (later-found c in_k)) in
        (later-class o was.0, subst (Contains (map (found_in l) (children_at l o))) same (Contains-map (found_in l) (children_at l o) w.0 (subst (λ cs. Contains cs w.0) (sym (later-children o was.0)) w.1)))

    pub changed-once : (x : D) → AllDifferent e.changed
    changed-once x = new.once (before.rested.has x).changed_once

    pub changed-in_range : (x : D) (i : ℕ) → Contains e.changed i → i < length l.classes
    changed-in_range x i there = elim (new.from i there) [
      | inl old ↦ let e = length-nodes_of k in let h = (before.rested.has x).changed_in_range i old in later-class i (omega (arith, h, e))
      | inr h ↦ omega (arith, h, count)
    ]

    -- what has not been noted since is an older class with the data that it had
    pub unnoted : (x : D) (i : ℕ) → i < length l.classes → ¬ Contains e.changed i → (i < length k.classes) × (data_in x e.values i ≡ data_in x d.values i)
    unnoted x i h n =
        let c = before.rested.count in
        elim (cases_lt i (length d.values)) [
          | inl old ↦ let in_k : i < length k.classes = omega (arith, old, c) in (in_k, old-data x i in_k)
          | inr past ↦ absurd (n (new.new i past (omega (arith, h, count))))
        ]

    in_nodes : (i : ℕ) → i < length (nodes_of l) → i < length l.classes
    in_nodes i h = let e = length-nodes_of l in omega (arith, h, e)

    out_of_nodes : (i : ℕ) → i < length l.classes → i < length (nodes_of l)
    out_of_nodes i h = let e = length-nodes_of l in omega (arith, h, e)

    in_older : (i : ℕ) → i < length (nodes_of k) → i < length k.classes
    in_older i h = let e = length-nodes_of k in omega (arith, h, e)

    out_of_older : (i : ℕ) → i < length k.classes → i < length (nodes_of k)
    out_of_older i h = let e = length-nodes_of k in omega (arith, h, e)

    -- the data of each class comes from that of older ones
    each-new : (x : D) → EachGrounded a (IsOldOr [] d.values) (nodes_of l) (found_in l) (data_in x e.values)
    each-new x = new-grounded meaning l rest.sane.sound.linked rest.sane.sound.canonical [] d e new count x

    -- all data has height 0 still: so it absorbs everything
    module _ (short : e.tall ≡ false) where
      low-each : (x : D) (i : ℕ) → i < length l.classes → meaning.height (data_in x e.values i) ≡ 0
      low-each x i h =
          let c = before.rested.count in
          elim (cases_lt i (length d.values)) [
            | inl old ↦
                let in_k : i < length k.classes = omega (arith, old, c) in
                ap meaning.height (old-data x i in_k) ∙ (before.rested.low (new.still_low short)).1 i in_k x
            | inr past ↦ new.low short i past (omega (arith, h, count)) x
          ]

      absorbs-any : (x : D) (i : ℕ) → i < length l.classes → (y : D) → Absorbs a (data_in x e.values i) y
      absorbs-any x i h y = zero-absorbs a law (data_in x e.values i) y (low-each x i h)

      low-has : (x : D) → HasData a newer (part_of x e [])
      low-has x = record {
        waits_once = tt;
        waits_whole = λ o h. h;
        waits_for_row = λ o h. absurd (Contains-nil o h);
        absorbs_made = λ i there n. absorbs-any x (found_in l i.source) (new_found i.source (row-within l q rest i there)) (made a (part_of x e []) i.shape);
        changed_once = changed-once x;
        changed_in_range = λ i h. out_of_nodes i (changed-in_range x i h);
      }

      pub low-carried : Carried a k r l q d (with_carried e (length l.deaths))
      low-carried = record {
        rests = record {
          rest = rest;
          count = count;
          has = low-has;
          users = record {
            cover = λ o c h. let z = (before.rested.low (new.still_low short)).0 in let s = new.entered in absurd (omega (arith, h, z, s));
            only = λ c o there. only-later c o (subst (λ us. Contains us o) (new.users c) there);
            within = λ c o there. later-class c (before.rested.users.within c o (subst (λ us. Contains us o) (new.users c) there));
          };
          all = λ t. absurd cc;
          low = λ _. (new.entered ∙ (before.rested.low (new.still_low short)).0, λ i h x. low-each x i h);
          carried = refl;
          dead = deaths;
          counts = subst (λ (c : DataCounts). CountsFit c.own 0) (sym new.counts) before.rested.counts;
          still = λ _. new.counts ∙ before.rested.still (new.still_low short);
          high = λ t. absurd cc;
        };
        down = λ x i h. absorbs-any x (found_in l i) (new_found i (later-class i (in_older i h))) (data_in x d.values (found_in k i));
        grounded = each-grounds a (IsOldOr [] d.values) (nodes_of l) (found_in l) e.values (count ∙ sym (length-nodes_of l)) each-new;
        noted = λ x. record {
          kept = new.kept;
          noted = λ i h n. let u = unnoted x i (in_nodes i h) n in (out_of_older i u.0, u.1);
        };
        counts = subst (λ (c : DataCounts). CountsGo d.counts.own c.own) (sym new.counts) (counts-same d.counts.own);
      }

    -- users were entered, and the dead were buried
    module _ (s : Rows) (d1 : Held D) (enters : EntersUsers l e.entered (length l.classes) q s e d1) (t : Rows) (d2 : Held D) (buries : Buries a l before.more s t d1 d2) where
      values-then : (x : D) (i : ℕ) → data_in x d1.values i ≡ data_in x e.values i
      values-then x i = ap (λ vs. data_in x vs i) enters.same.values

      entered-old : (o : ℕ) → o < e.entered → o < length k.classes
      entered-old o h = elim d.tall as (λ b. d.tall ≡ b → o < length k.classes) [
        | true ↦ λ y. let n = before.rested.all y in let m = new.entered in omega (arith, h, n, m)
        | false ↦ λ y. let n = (before.rested.low y).0 in let m = new.entered in absurd (omega (arith, h, n, m))
      ] refl

      -- a class in whose users o stands for its child ch
      record Stands (o ch : ℕ) : Type 0 where
        class : ℕ
        found : found_in l class ≡ found_in l ch
        in_range : class < length l.classes
        stands : Contains (users_of d1 class) o
        origin : ((class ≡ found_in k ch) × (o < length k.classes) × (ch < length k.classes))
            ⊎ ((class ≡ found_in l ch) × (e.entered ≤ o) × ((found_in l ch < o) ⊎ (IsFiled v o → Contains s.waiting o)))

      older-child : (o ch : ℕ) → o < length l.classes → Contains (children_at l o) ch → ch < o
      older-child o ch h there = children-older l rest.sane.sound.canonical o h ch there

      stands-at : (o ch : ℕ) → o < length l.classes → Contains (children_at l o) ch → Stands o ch
      stands-at o ch h there =
          let young = older-child o ch h there in
          let ch_in : ch < length l.classes = omega (arith, young, h) in
          elim (cases_lt o e.entered) [
            | inl old ↦
                let o_in : o < length k.classes = entered-old o old in
                let ch_old : ch < length k.classes = omega (arith, young, o_in) in
                let m = new.entered in
                let user : Contains (users_of d (found_in k ch)) o = before.rested.users.cover o ch (omega (arith, old, m)) (subst (λ cs. Contains cs ch) (later-children o o_in) there) in
                record {
                  class = found_in k ch;
                  found = sym (later-found ch ch_old);
                  in_range = later-class (found_in k ch) (old_found ch ch_old);
                  stands = enters.kept (found_in k ch) o (subst (λ us. Contains us o) (sym (new.users (found_in k ch))) user);
                  origin = inl (refl, o_in, ch_old);
                }
            | inr past ↦ record {
              class = found_in l ch;
              found = found-again ch ch_in;
              in_range = new_found ch ch_in;
              stands = enters.cover o ch past h there;
              origin = inr (refl, past, enters.waits o ch past h there);
            }
          ]

      -- if that class has not died, it is what the child finds
      stays-found : (o ch : ℕ) (y : Stands o ch) → ¬ Contains before.more y.class → found_in l ch ≡ y.class
      stays-found o ch y n = elim y.origin [
        | inl z ↦
            let was : (y.class < length k.classes) → IsLive (entries_of k) y.class =
            λ _. subst (IsLive (entries_of k)) (sym z.0) (found-live (nodes_of k) (entries_of k) old_led ch (out_of_older ch z.2)) in
            elim (lives-or y.class y.in_range was) [
              | inl is ↦ sym y.found ∙ itself y.class y.in_range is
              | inr j ↦ absurd (n j)
            ]
        | inr z ↦ sym z.0
      ]

      pub stands-for : (o ch : ℕ) → o < length l.classes → Contains (children_at l o) ch → Contains (users_of d2 (found_in l ch)) o
      stands-for o ch h there =
          let y = stands-at o ch h there in
          elim (buries.follows y.class o y.stands) [
            | inl f ↦ subst (λ c. Contains (users_of d2 c) o) (sym (stays-found o ch y f.0)) f.1
            | inr f ↦ subst (λ c. Contains (users_of d2 c) o) y.found f.0
          ]

      seen-with : (x : D) (o ch : ℕ) (y : Stands o ch) → IsFiled v o → ¬ Contains t.waiting o → data_in x d2.values (found_in l ch) ≡ data_in x e.values y.class
      seen-with x o ch y filed n =
          let is : IsFiled s.filed o = subst (λ w. IsFiled w o) (sym enters.rows.same) filed in
          elim (buries.follows y.class o y.stands) [
            | inl f ↦ elim f.2 [
              | inl w ↦ absurd (n (w is))
              | inr same ↦ ap (data_in x d2.values) (stays-found o ch y f.0) ∙ (same x ∙ values-then x y.class)
            ]
            | inr f ↦ elim f.1 [
              | inl w ↦ absurd (n (w is))
              | inr same ↦ ap (data_in x d2.values) (sym y.found) ∙ (same x ∙ values-then x y.class)
            ]
          ]

      -- an older class that does not wait sees what it saw
      old-sees : (x : D) (o ch : ℕ) → o < length l.classes → o < length k.classes → Contains (children_at l o) ch → IsFiled v o → ¬ Contains t.waiting o →
          data_in x d2.values (found_in l ch) ≡ data_in x d.values (found_in k ch)
      old-sees x o ch h o_in there filed n =
          let y = stands-at o ch h there in
          let young = older-child o ch h there in
          let ch_old : ch < length k.classes = omega (arith, young, o_in) in
          elim y.origin [
            | inl z ↦ seen-with x o ch y filed n ∙ (ap (data_in x e.values) z.0 ∙ old-data x (found_in k ch) (old_found ch ch_old))
            | inr z ↦ elim z.2 [
              | inr w ↦ absurd (n (buries.rows.kept o (w filed)))
              | inl less ↦
                  let in_k : found_in l ch < length k.classes = omega (arith, less, o_in) in
                  let past = z.1 in
                  seen-with x o ch y filed n ∙ (ap (data_in x e.values) z.0 ∙ (old-data x (found_in l ch) in_k
                  ∙ elim d.tall as (λ b. d.tall ≡ b → data_in x d.values (found_in l ch) ≡ data_in x d.values (found_in k ch)) [
                    | true ↦ λ b. let all = before.rested.all b in let m = new.entered in absurd (omega (arith, past, all, m, o_in))
                    | false ↦ λ b. low-same a law (data_in x d.values (found_in l ch)) (data_in x d.values (found_in k ch)) ((before.rested.low b).1 (found_in l ch) in_k x) ((before.rested.low b).1 (found_in k ch) (old_found ch ch_old) x)
                  ] refl))
            ]
          ]

      -- a new class that does not wait sees what its node was made of
      new-sees : (x : D) (o ch : ℕ) → o < length l.classes → length k.classes ≤ o → Contains (children_at l o) ch → IsFiled v o → ¬ Contains t.waiting o →
          data_in x d2.values (found_in l ch) ≡ data_in x e.values (source_class (entries_of l) o ch)
      new-sees x o ch h past there filed n =
          let y = stands-at o ch h there in
          elim y.origin [
            | inl z ↦ let o_in = z.1 in absurd (omega (arith, o_in, past))
            | inr z ↦ elim z.2 [
              | inr w ↦ absurd (n (buries.rows.kept o (w filed)))
              | inl less ↦
                  let source : source_class (entries_of l) o ch ≡ found_in l ch = ap (λ b. cond b (found_in l ch) ch) (lt-ltb (found_in l ch) o less) in
                  seen-with x o ch y filed n ∙ (ap (data_in x e.values) z.0 ∙ ap (data_in x e.values) (sym source))
            ]
          ]

      -- what a class had is absorbed by what it finds
      goes-down : (x : D) (i : ℕ) → i < length l.classes → (i < length k.classes → IsLive (entries_of k) i) → Absorbs a (data_in x d2.values (found_in l i)) (data_in x e.values i)
      goes-down x i h lived = subst (Absorbs a (data_in x d2.values (found_in l i))) (values-then x i) (elim (lives-or i h lived) [
        | inl is ↦ subst (λ c. Absorbs a (data_in x d2.values c) (data_in x d1.values i)) (sym (itself i h is)) (buries.down i x)
        | inr there ↦ buries.merged i x there
      ])

      all-down : (x : D) → DataGoesDown a older (part_of x d []) newer (part_of x d2 t.waiting)
      all-down x i h =
          let i_in : i < length k.classes = in_older i h in
          let c : ℕ = found_in k i in
          let c_in : c < length k.classes = old_found i i_in in
          subst (λ j. Absorbs a (data_in x d2.values j) (data_in x d.values c)) (sym (later-found i i_in))
          (subst (Absorbs a (data_in x d2.values (found_in l c))) (old-data x c c_in)
          (goes-down x c (later-class c c_in) (λ _. found-live (nodes_of k) (entries_of k) old_led i h)))

      -- what a new row makes is absorbed
      new-absorbs : (x : D) (w : Row) → Contains (rows_in v) w → length k.classes ≤ w.source → ¬ Contains t.waiting w.source →
          Absorbs a (data_in x d2.values (found_in l w.source)) (made a (part_of x d2 t.waiting) w.shape)
      new-absorbs x w there past n =
          let o : ℕ = w.source in
          let h : o < length l.classes = row-within l q rest w there in
          let filed : IsFiled v o = row-source l q rest w there in
          let c = before.rested.count in
          let is : made a (part_of x d2 t.waiting) w.shape ≡ data_in x e.values o =
          row-made (λ _. Unit {0}) a law (makes-alike meaning) (λ _ _ _ _. tt) newer rest (λ _ _. tt) (part_of x d2 t.waiting) w there
          ∙ (ap (λ (n : DTerm). a.make n (map (λ i. data_in x d2.values (found_in l i)) (child_classes n.args))) (sym (node-is l o h))
          ∙ (ap (a.make (nameless_node (node_at l o))) (map-agree (λ i. data_in x d2.values (found_in l i)) (λ i. data_in x e.values (source_class (entries_of l) o i)) (children_at l o) (λ ch child. new-sees x o ch h past child filed n))
          ∙ sym (new.made o (omega (arith, past, c)) (omega (arith, h, count)) x))) in
          subst (Absorbs a (data_in x d2.values (found_in l o))) (sym is) (goes-down x o h (λ old. absurd (omega (arith, old, past))))

      waits-rows : (o : ℕ) → Contains t.waiting o → Contains (sources (rows_in v)) o
      waits-rows o there =
          let filed : IsFiled v o = elim (buries.rows.from o there) [
            | inl j ↦ elim (enters.rows.from o j) [
              | inl z ↦ absurd (Contains-nil o z)
              | inr f ↦ f
            ]
            | inr f ↦ subst (λ w. IsFiled w o) enters.rows.same f
          ] in
          (source-filed v o).1 filed

      noted-then : (i : ℕ) → Contains e.changed i → Contains d2.changed i
      noted-then i there = buries.kept i (subst (λ xs. Contains xs i) (sym enters.same.changed) there)

      pub all-noted : (x : D) → HasNotedAll older (part_of x d []) newer (part_of x d2 t.waiting)
      all-noted x = record {
        kept = λ i there. noted-then i (new.kept i there);
        noted = λ i h n.
            let u = unnoted x i (in_nodes i h) (λ j. n (noted-then i j)) in
            (out_of_older i u.0, buries.noted i n x ∙ (values-then x i ∙ u.1));
      }

      pub along : (x : D) → GoesAlong a older (part_of x d []) newer (part_of x d2 t.waiting)
      along x = record {
        down = all-down x;
        waits_once = buries.rows.once (enters.rows.once tt);
        waits_for_row = waits-rows;
        changed_once = buries.once (subst AllDifferent (sym enters.same.changed) (changed-once x));
        changed_in_range = λ i there. out_of_nodes i (elim (buries.from i there) [
          | inl j ↦ changed-in_range x i (subst (λ xs. Contains xs i) enters.same.changed j)
          | inr h ↦ let m = ap length enters.same.values in omega (arith, h, m, count)
        ]);
        sees = λ w there n.
            let h : w.source < length l.classes = row-within l q rest w there in
            let filed : IsFiled v w.source = row-source l q rest w there in
            elim (cases_lt w.source (length k.classes)) [
              | inr past ↦ inl (new-absorbs x w there past n)
              | inl old ↦ inr (
                out_of_older w.source old,
                λ ch child.
                    old-sees x w.source ch h old (subst (λ cs. Contains cs ch) (sym (later-children w.source old)) (subst (λ (z : DTerm). Contains (child_classes z.args) ch) (sym (node-is k w.source old)) child)) filed n,
              )
            ];
      }

      rests-before : (x : D) → RestsWithData a older (part_of x d [])
      rests-before x = record { rest = before.rested.rest; has = before.rested.has x; nothing_waits = refl }

      pub along-has : (x : D) → HasData a newer (part_of x d2 t.waiting)
      along-has x =
          carried-kept (λ _. Unit {0}) a law (makes-alike meaning) (λ _ _ _ _. tt) older (part_of x d []) (rests-before x) (λ _ _. tt) newer (part_of x d2 t.waiting) rest before.goes_on (λ _ _. tt) (along x)

      map-within : (o c : ℕ) → o < length l.classes → Contains (map (found_in l) (children_at l o)) c → (c < length l.classes) × (found_in l c ≡ c)
      map-within o c h there =
          let w = Contains-of_map (found_in l) (children_at l o) c there in
          let young = older-child o w.0 h w.1 in
          let ch_in : w.0 < length l.classes = omega (arith, young, h) in
          let f = new_found w.0 ch_in in
          let is = w.2 in
          (omega (arith, f, is), ap (found_in l) (sym is) ∙ (found-again w.0 ch_in ∙ is))

      new-only : (c o : ℕ) → Contains (users_of d2 c) o → (o < length l.classes) × Contains (map (found_in l) (children_at l o)) (found_in l c)
      new-only c o there =
          let w = buries.only c o there in
          elim (enters.only w.0 o w.1) [
            | inl old ↦
                let f = only-later w.0 o (subst (λ us. Contains us o) (new.users w.0) old) in
                (f.0, subst (Contains (map (found_in l) (children_at l o))) w.2 f.1)
            | inr z ↦ (z.0, subst (Contains (map (found_in l) (children_at l o))) (sym (map-within o w.0 z.0 z.1).1 ∙ w.2) z.1)
          ]

      entered-within : (c o : ℕ) → Contains (users_of d1 c) o → c < length l.classes
      entered-within c o there = elim (enters.only c o there) [
        | inl old ↦ later-class c (before.rested.users.within c o (subst (λ us. Contains us o) (new.users c) old))
        | inr z ↦ (map-within o c z.0 z.1).0
      ]

      pub ready-then : IsReady l t d2
      ready-then = record {
        rest = subst (λ w. AtRest (state_in l (record { filed = w; waiting = [] }))) (sym (buries.rows.same ∙ enters.rows.same)) rest;
        count = buries.count ∙ (ap length enters.same.values ∙ count);
        users = record {
          cover = λ o c h there. stands-for o c h there;
          only = new-only;
          within = λ c o there. elim (buries.in_range c o there) [
            | inl j ↦ entered-within c o j
            | inr h ↦ let m = ap length enters.same.values in omega (arith, h, m, count)
          ];
        };
      }

      abbrev S : ℕ → D → Type 0
      S = IsOldOr [] d.values

      -- what the dead had comes from there, too
      each-buried : (x : D) → EachGrounded a S (nodes_of l) (found_in l) (data_in x d2.values)
      each-buried x i h =
          let before : Grounds a (nodes_of l) (found_in l) S e.values = each-grounds a S (nodes_of l) (found_in l) e.values (count ∙ sym (length-nodes_of l)) each-new in
          grounded-later a (nodes_of l) (nodes_of l) (found_in l) (found_in l) (stays-itself (nodes_of l) (found_in l)) (IsOldOr [] d1.values) S (λ j y at. elim at [
            | inl had ↦ before j y (ap (λ vs. slice_get vs j) (sym enters.same.values) ∙ had)
            | inr none ↦ absurd (Contains-nil (j, y) none)
          ]) (grounds-each a (IsOldOr [] d1.values) (nodes_of l) (found_in l) d2.values (ready-then.count ∙ sym (length-nodes_of l)) buries.grounded x i h)

      -- and values rose until nothing waits
      module _ (is_tall : e.tall ≡ true) (all : d1.entered ≡ length l.classes) (u : Rows) (f : Held D) (turns fall : ℕ) (rises : TakesTurns a l t u d2 f turns fall) (ended : u.waiting ≡ []) where
        run : (x : D) → RunsWithData a newer (part_of x d2 t.waiting) rises.taken newer (part_of x f [])
        run x =
            let w : RunsWithData a (state_in l (quiet t)) (part_of x d2 t.waiting) rises.taken (state_in l (quiet t)) (part_of x f []) =
            subst (λ ws. RunsWithData a (state_in l (quiet t)) (part_of x d2 t.waiting) rises.taken (state_in l (quiet t)) (part_of x f ws)) ended (rises.runs x) in
            subst (λ z. RunsWithData a (state_in l (record { filed = z; waiting = [] })) (part_of x d2 t.waiting) rises.taken (state_in l (record { filed = z; waiting = [] })) (part_of x f [])) (buries.rows.same ∙ enters.rows.same) w

        risen : (x : D) → CarriesTo a older (part_of x d []) newer (part_of x f [])
        risen x =
            let carried = carried-rests (λ _. Unit {0}) a law (makes-alike meaning) (λ _ _ _ _. tt) older (part_of x d []) (rests-before x) (λ _ _. tt) newer (part_of x d2 t.waiting) rest before.goes_on (λ _ _. tt) (along x) (all-noted x) in
            (carried.1 rises.taken newer (part_of x f []) (run x) refl).1

        entered-now : f.entered ≡ length l.classes
        entered-now = rises.same.entered ∙ (buries.entered ∙ all)

        tall-now : f.tall ≡ true
        tall-now = rises.same.tall ∙ (buries.tall ∙ (enters.same.tall ∙ is_tall))

        same-counts : f.counts ≡ d.counts
        same-counts = rises.same.counts ∙ (buries.counts ∙ (enters.same.counts ∙ new.counts))

        pub tall-carried : Carried a k r l q d (with_carried f (length l.deaths))
        tall-carried = record {
          rests = record {
            rest = rest;
            count = rises.same.count ∙ ready-then.count;
            has = λ x. (risen x).rests.has;
            users =
                let all_users : HasUsers l (length l.classes) f = users-same l (length l.classes) d2 f rises.same.users ready-then.users in
                record {
                  cover = λ o c h there. let n = entered-now in all_users.cover o c (omega (arith, h, n)) there;
                  only = all_users.only;
                  within = all_users.within;
                };
            all = λ _. entered-now;
            low = λ short. absurd (let z = tall-now in cc);
            carried = refl;
            dead = deaths;
            counts = subst (λ (c : DataCounts). CountsFit c.own 0) (sym same-counts) before.rested.counts;
            still = λ short. absurd (let z = tall-now in cc);
            high = λ _. elim (new.high is_tall) [ inl old ↦ before.rested.high old | inr some ↦ some ];
          };
          down = λ x. (risen x).down;
          grounded = each-grounds a S (nodes_of l) (found_in l) f.values (rises.same.count ∙ (ready-then.count ∙ sym (length-nodes_of l))) (λ x. run-grounded meaning law S newer rest (each-buried x) (run x));
          noted = λ x. (risen x).noted;
          counts = subst (λ (c : DataCounts). CountsGo d.counts.own c.own) (sym same-counts) (counts-same d.counts.own);
        }

-- the same of a graph in which nothing waits
module _ {D : Type 0} (meaning : Meaning D) (law : IsMerge D (by_bare_nodes meaning)) (l : Kept) (deaths : ListsDead l.deaths (entries_of l)) (q : Rows) (nothing : q.waiting ≡ []) (rest : AtRest (state_in l q)) where
  abbrev still : Rows
  still = record { filed = q.filed; waiting = [] }

  still-is : q ≡ still
  still-is = λ i. record { filed = q.filed; waiting = nothing i }

  rest-still : AtRest (state_in l still)
  rest-still = subst (λ (w : Rows). AtRest (state_in l w)) still-is rest

  module _ (k : Kept) (r : Rows) (d : Held D) (before : RestedBefore (by_bare_nodes meaning) k r l q d) where
    abbrev before-still : RestedBefore (by_bare_nodes meaning) k r l still d
    before-still = record {
      rested = before.rested;
      goes_on = subst (λ (w : Rows). GoesOn (state_in k r) (state_in l w)) still-is before.goes_on;
      more = before.more;
      deaths = before.deaths;
    }

    pub since-more : (e : Held D) → e.carried ≡ d.carried → drop e.carried l.deaths ≡ before.more
    since-more e same =
        let carried : e.carried ≡ length k.deaths = same ∙ before.rested.carried in
        (λ i. drop (carried i) (before.deaths i)) ∙ drop-begun k.deaths before.more

    module _ (e : Held D) (new : AddsNew meaning l d e) (count : length e.values ≡ length l.classes) where
      pub since-low : e.tall ≡ false → Carried (by_bare_nodes meaning) k r l q d (with_carried e (length l.deaths))
      since-low short = subst (λ (w : Rows). Carried (by_bare_nodes meaning) k r l w d (with_carried e (length l.deaths))) (sym still-is)
          (low-carried meaning law k r l q.filed d before-still rest-still deaths e new count short)

      pub since-tall : e.tall ≡ true → (t : Rows) (f : Held D) → CarriesUp (by_bare_nodes meaning) l q t e f → Carried (by_bare_nodes meaning) k r l q d (with_carried f (length l.deaths))
      since-tall is_tall t f up =
          let risen : Held D = up.rises.risen in
          let takes = up.rises.takes in
          subst (λ (g : Held D). Carried (by_bare_nodes meaning) k r l q d (with_carried g (length l.deaths))) (sym up.rises.notes)
          (carried-noted (by_bare_nodes meaning) l q (with_carried risen (length l.deaths)) (length (rows_in up.buried_rows.filed)) up.rises.fall up.rises.turns (totals_in l) up.rises.few
          (takes.same.tall ∙ (up.buries.tall ∙ (up.enters.same.tall ∙ is_tall))) k r d
          (subst (λ (w : Rows). Carried (by_bare_nodes meaning) k r l w d (with_carried risen (length l.deaths))) (sym still-is)
          (tall-carried meaning law k r l q.filed d before-still rest-still deaths e new count up.entered_rows up.entered_data
          (subst (λ (w : Rows). EntersUsers l e.entered (length l.classes) w up.entered_rows e up.entered_data) still-is up.enters)
          up.buried_rows up.buried_data
          (subst (λ cs. Buries (by_bare_nodes meaning) l cs up.entered_rows up.buried_rows up.entered_data up.buried_data) (since-more e new.carried) up.buries)
          is_tall up.entered t risen up.rises.turns up.rises.fall takes up.rises.nothing_waits)))

      module _ (s : Rows) (d1 : Held D) (enters : EntersUsers l e.entered (length l.classes) q s e d1) where
        pub since-within : (c o : ℕ) → Contains (users_of d1 c) o → c < length l.classes
        since-within c o there = elim (enters.only c o there) [
          | inl old ↦
              later-class meaning law k r l q.filed d before-still rest-still deaths c (before.rested.users.within c o (subst (λ us. Contains us o) (new.users c) old))
          | inr z ↦
              let w = Contains-of_map (found_in l) (children_at l o) c z.1 in
              let young = children-older l rest.sane.sound.canonical o z.0 w.0 w.1 in
              let o_in = z.0 in
              let n = length-nodes_of l in
              let f = found-in_range (nodes_of l) (entries_of l) (leads (nodes_of l) (entries_of l) rest.sane.sound.linked) w.0 (omega (arith, young, o_in, n)) in
              let is = w.2 in
              omega (arith, f, is, n)
        ]

        module _ (t : Rows) (d2 : Held D) (buries : Buries (by_bare_nodes meaning) l (drop e.carried l.deaths) s t d1 d2) where
          enters-still : EntersUsers l e.entered (length l.classes) still s e d1
          enters-still = subst (λ (w : Rows). EntersUsers l e.entered (length l.classes) w s e d1) still-is enters

          buries-more : Buries (by_bare_nodes meaning) l before.more s t d1 d2
          buries-more = subst (λ cs. Buries (by_bare_nodes meaning) l cs s t d1 d2) (since-more e new.carried) buries

          pub since-ready : IsReady l t d2
          since-ready = ready-then meaning law k r l q.filed d before-still rest-still deaths e new count s d1 enters-still t d2 buries-more

          pub since-has : (x : D) → HasData (by_bare_nodes meaning) (state_in l (quiet t)) (part_of x d2 t.waiting)
          since-has x = subst (λ w. HasData (by_bare_nodes meaning) (state_in l (record { filed = w; waiting = [] })) (part_of x d2 t.waiting)) (sym (buries.rows.same ∙ enters.rows.same))
              (along-has meaning law k r l q.filed d before-still rest-still deaths e new count s d1 enters-still t d2 buries-more x)
