-- Classes that died go to what they find, one after another.
use Rattle.std.proofs.Common.{◌≡◌, ◌≢◌, ◌<◌, ℕ, zero, suc, List, [], ◌∷◌, ◌++◌, length, sym, ◌∙◌, ap, refl, subst, inl, inr, arith, Some}
use Rattle.std.specs.Prelude.{◌⊎◌, Contains, set, slice_index_or}
use Rattle.std.proofs.lemmas.Bool.{cases_eq}
use Rattle.std.proofs.lemmas.List.{get_or-set_same, get_or-set_other, length-set}
use Rattle.std.proofs.lemmas.List.Elements.{Contains-append_left}
use Rattle.std.proofs.lemmas.Option.{get_or_from_slice_get, slice_get_within, slice_get-get_or}
use Rattle.slotted_lists.proofs.Contained.{Contains-nil, contains_cases-end}
use Rattle.slotted_model.specs.Correspondence.{AllDifferent}
use Rattle.slotted_model.specs.Find.{IsLive}
use Rattle.slotted_model_analyses.specs.Analysis.{Analysis, IsMerge, Absorbs}
use Rattle.slotted_model_analyses.proofs.Absorbing.{absorbs-same, absorbs-then, merge-absorbs, merge-keeps}
use Rattle.slotted_classes.specs.Kept.{Kept, entries_of, nodes_of}
use Rattle.slotted_classes.proofs.KeptLists.{length-nodes_of}
use Rattle.slotted_hashcons.specs.FiledRows.{IsFiled, Rows}
use Rattle.slotted_data.specs.Grounded.{Grounds, IsGrounded, at_first, by_find, by_merge, IsOldOr}
use Rattle.slotted_data.specs.Held.{Held, users_of, with_user, with_users_taken}
use Rattle.slotted_data.specs.Made.{data_in}
use Rattle.slotted_data.specs.Users.{SameValues, WaitsFiled, found_in}
use Rattle.slotted_data.specs.Burying.{MovesUsers, WaitsOr, HasTheSame, BuriesOne, FollowsUser, Buries}
use Rattle.slotted_data.proofs.NewData.{notes-once, notes-there, notes-kept, notes-from}
use Rattle.slotted_data.proofs.Entering.{end-there, user-kept, user-there, user-only, waits-same, waits-then}

-- these users of the class c are users of h, and c has no others
pub record MovesFirst {D : Type 0} (c h : ℕ) (os : List ℕ) (d e : Held D) : Type 0 where
  pub same : SameValues d e
  pub entered : e.entered ≡ d.entered
  pub moved : (o : ℕ) → Contains os o → Contains (users_of e h) o
  pub kept : (b o : ℕ) → b ≢ c → Contains (users_of d b) o → Contains (users_of e b) o
  pub only : (b o : ℕ) → Contains (users_of e b) o → ((b ≢ c) × Contains (users_of d b) o) ⊎ ((b ≡ h) × Contains os o)

taken-none : (us : List (List ℕ)) (c : ℕ) → slice_index_or (set us c []) c [] ≡ []
taken-none [] zero = refl
taken-none [] (suc c) = refl
taken-none (u ∷ us) zero = refl
taken-none (u ∷ us) (suc c) = taken-none us c

module _ {D : Type 0} (c h : ℕ) (d : Held D) where
  pub moves-none : MovesFirst c h [] d (with_users_taken d c)
  moves-none = record {
    same = record { values = refl; changed = refl; carried = refl; tall = refl; counts = refl };
    entered = refl;
    moved = λ o there. absurd (Contains-nil o there);
    kept = λ b o n there. subst (λ us. Contains us o) (sym (get_or-set_other d.users c b [] [] n)) there;
    only = λ b o there. elim (cases_eq b c) [
      | inl e ↦ absurd (Contains-nil o (subst (λ us. Contains us o) (ap (λ i. slice_index_or (set d.users c []) i []) e ∙ taken-none d.users c) there))
      | inr n ↦ inl (n, subst (λ us. Contains us o) (get_or-set_other d.users c b [] [] n) there)
    ];
  }

  pub moves-next : (os : List ℕ) (o : ℕ) (e : Held D) → MovesFirst c h os d e → h < length e.users → MovesFirst c h (os ++ o ∷ []) d (with_user e h o)
  moves-next os o e m within = record {
    same = record { values = m.same.values; changed = m.same.changed; carried = m.same.carried; tall = m.same.tall; counts = m.same.counts };
    entered = m.entered;
    moved = λ p there. elim (contains_cases-end os o p there) [
      | inl j ↦ user-kept e h o within h p (m.moved p j)
      | inr q ↦ subst (Contains (users_of (with_user e h o) h)) (sym q) (user-there e h o within)
    ];
    kept = λ b p n there. user-kept e h o within b p (m.kept b p n there);
    only = λ b p there. elim (user-only e h o within b p there) [
      | inl j ↦ elim (m.only b p j) [
        | inl q ↦ inl q
        | inr q ↦ inr (q.0, Contains-append_left os (o ∷ []) p q.1)
      ]
      | inr q ↦ inr (q.0, subst (Contains (os ++ o ∷ [])) (sym q.1) (end-there os o))
    ];
  }

  pub moves-all : (e : Held D) → MovesFirst c h (users_of d c) d e → MovesUsers c h d e
  moves-all e m = record {
    same = m.same;
    entered = m.entered;
    moved = m.moved;
    kept = m.kept;
    only = λ b o there. elim (m.only b o there) [
      | inl q ↦ inl q.1
      | inr q ↦ inr q
    ];
  }

module _ {D : Type 0} (a : Analysis D) (law : IsMerge D a) (k : Kept) where
  pub buries-none : (s : Rows) (d : Held D) → Buries a k [] s s d d
  buries-none s d = record {
    count = refl;
    entered = refl;
    carried = refl;
    tall = refl;
    counts = refl;
    rows = waits-same s;
    down = λ i x. absorbs-same a law (data_in x d.values i);
    grounded = λ i x at. at_first i x (inl at);
    merged = λ i x there. absurd (Contains-nil i there);
    stale = λ i n x. refl;
    once = λ h. h;
    kept = λ i h. h;
    noted = λ i n x. refl;
    from = λ i h. inl h;
    follows = λ c o h. inl (λ n. Contains-nil c n, h, inr (λ x. refl));
    only = λ c o h. (c, h, refl);
    in_range = λ c o h. inl h;
  }

  -- one class more goes to what it finds, which lives
  module _ (s t u : Rows) (d e f : Held D) (cs : List ℕ) (c : ℕ) (m : Buries a k cs s t d e) (one : BuriesOne a k c t u e f)
      (live : IsLive (entries_of k) (found_in k c)) (dead : ¬ IsLive (entries_of k) c)
      (itself : (b : ℕ) → IsLive (entries_of k) b → b < length d.values → found_in k b ≡ b)
      (lives : (b : ℕ) → b < length d.values → IsLive (entries_of k) (found_in k b))
      (within : (b o : ℕ) → Contains (users_of d b) o → b < length d.values) (all : length d.values ≡ length k.classes) where
    abbrev h : ℕ
    h = found_in k c

    abbrev w : D
    w = a.merge one.kept one.dead

    differ : (b : ℕ) → IsLive (entries_of k) b → b ≢ c
    differ b is q = dead (subst (IsLive (entries_of k)) q is)

    at_heir : (x : D) → data_in x e.values h ≡ one.kept
    at_heir x = get_or_from_slice_get e.values h one.kept x one.kept_is

    at_dead : (x : D) → data_in x e.values c ≡ one.dead
    at_dead x = get_or_from_slice_get e.values c one.dead x one.dead_is

    heir-in : h < length e.values
    heir-in = slice_get_within e.values h one.kept one.kept_is

    new_heir : (x : D) → data_in x f.values h ≡ w
    new_heir x = ap (λ vs. data_in x vs h) one.moves.same.values ∙ elim one.puts [
      | inl p ↦ ap (λ (q : Held D). data_in x q.values h) p.2 ∙ get_or_from_slice_get e.values h w x p.0
      | inr p ↦ ap (λ vs. data_in x vs h) p.value.values ∙ get_or-set_same e.values h w x heir-in
    ]

    others : (i : ℕ) → i ≢ h → HasTheSame f i e i
    others i n x = ap (λ vs. data_in x vs i) one.moves.same.values ∙ elim one.puts [
      | inl p ↦ ap (λ (q : Held D). data_in x q.values i) p.2
      | inr p ↦ ap (λ vs. data_in x vs i) p.value.values ∙ get_or-set_other e.values h i w x n
    ]

    lower : (i : ℕ) (x : D) → Absorbs a (data_in x f.values i) (data_in x e.values i)
    lower i x = elim (cases_eq i h) [
      | inl q ↦ subst (λ j. Absorbs a (data_in x f.values j) (data_in x e.values j)) (sym q)
          (subst (λ y. Absorbs a y (data_in x e.values h)) (sym (new_heir x)) (subst (Absorbs a w) (sym (at_heir x)) (merge-keeps a law one.kept one.dead)))
      | inr n ↦ subst (λ y. Absorbs a y (data_in x e.values i)) (sym (others i n x)) (absorbs-same a law (data_in x e.values i))
    ]

    counted : length one.held.values ≡ length e.values
    counted = elim one.puts [
      | inl p ↦ ap (λ (q : Held D). length q.values) p.2
      | inr p ↦ ap length p.value.values ∙ length-set e.values h w
    ]

    abbrev From : ℕ → D → Type 0
    From = IsGrounded a (nodes_of k) (found_in k) (IsOldOr [] d.values)

    in_nodes : (i : ℕ) → i < length e.values → i < length (nodes_of k)
    in_nodes i l = let n = length-nodes_of k in let z = m.count in omega (arith, l, n, z, all)

    heir-grounded : From h w
    heir-grounded =
        let n = m.count in
        let l = heir-in in
        by_merge h one.kept one.dead (m.grounded h one.kept one.kept_is)
        (by_find c h one.dead (in_nodes c (slice_get_within e.values c one.dead one.dead_is)) (in_nodes h heir-in) (sym (itself h live (omega (arith, l, n)))) (m.grounded c one.dead one.dead_is))

    -- what was there comes from where it did, and so does what is merged
    next-grounded : Grounds a (nodes_of k) (found_in k) (IsOldOr [] d.values) f.values
    next-grounded i x at =
        let is : data_in x f.values i ≡ x = get_or_from_slice_get f.values i x x at in
        elim (cases_eq i h) [
          | inl q ↦
              let same : w ≡ x = sym (new_heir x) ∙ (ap (data_in x f.values) (sym q) ∙ is) in
              subst (From i) same (subst (λ j. From j w) (sym q) heir-grounded)
          | inr n ↦
              let within_f = slice_get_within f.values i x at in
              let moved = ap length one.moves.same.values in
              let count = counted in
              m.grounded i x (slice_get-get_or e.values i x (omega (arith, within_f, moved, count)) ∙ ap Some (sym (others i n x) ∙ is))
        ]

    held_users : (b : ℕ) → users_of one.held b ≡ users_of e b
    held_users b = elim one.puts [
      | inl p ↦ ap (λ (q : Held D). users_of q b) p.2
      | inr p ↦ ap (λ us. slice_index_or us b []) p.value.users
    ]

    first_rows : WaitsFiled t one.rows
    first_rows = elim one.puts [
      | inl p ↦ subst (WaitsFiled t) (sym p.1) (waits-same t)
      | inr p ↦ p.waits.filed
    ]

    last_rows : WaitsFiled one.rows u
    last_rows = elim one.waits [
      | inl p ↦ subst (WaitsFiled one.rows) (sym p.1) (waits-same one.rows)
      | inr p ↦ p.filed
    ]

    both_rows : WaitsFiled t u
    both_rows = waits-then t one.rows u first_rows last_rows

    filed-then : (o : ℕ) → IsFiled s.filed o → IsFiled t.filed o
    filed-then o is = subst (λ v. IsFiled v o) (sym m.rows.same) is

    -- who was a user of a class that lives waits, or the class has what it had
    held_on : (b o i : ℕ) → b ≢ c → Contains (users_of e b) o → WaitsOr s t o (HasTheSame e b d i) → WaitsOr s u o (HasTheSame f b d i)
    held_on b o i n there (inl y) = inl (λ is. both_rows.kept o (y is))
    held_on b o i n there (inr same) = elim (cases_eq b h) [
      | inr z ↦ inr (λ x. others b z x ∙ same x)
      | inl q ↦ elim one.puts [
        | inl p ↦ inr (λ x. ap (λ vs. data_in x vs b) one.moves.same.values ∙ (ap (λ (z : Held D). data_in x z.values b) p.2 ∙ same x))
        | inr p ↦ inl (λ is. last_rows.kept o (p.waits.waits o (subst (λ j. Contains (users_of e j) o) q there) (filed-then o is)))
      ]
    ]

    -- who was a user of the class that died waits, or what it finds has what it had
    moved_on : (o : ℕ) → Contains (users_of e c) o → WaitsOr s u o (HasTheSame f h d c)
    moved_on o there = elim one.waits [
      | inl p ↦ inr (λ x. new_heir x ∙ (p.0 ∙ (sym (at_dead x) ∙ m.stale c dead x)))
      | inr p ↦ inl (λ is. p.waits o (subst (λ us. Contains us o) (sym (held_users c)) there) (subst (λ v. IsFiled v o) (sym first_rows.same) (filed-then o is)))
    ]

    stays_user : (b o : ℕ) → b ≢ c → Contains (users_of e b) o → Contains (users_of f b) o
    stays_user b o n there = one.moves.kept b o n (subst (λ us. Contains us o) (sym (held_users b)) there)

    follow : (b o : ℕ) → Contains (users_of d b) o → FollowsUser k (cs ++ c ∷ []) s u d f b o
    follow b o there = elim (m.follows b o there) [
      | inl y ↦ elim (cases_eq b c) [
        | inl q ↦ inr (
          subst (λ j. Contains (users_of f (found_in k j)) o) (sym q) (one.moves.moved o (subst (λ us. Contains us o) (sym (held_users c)) (subst (λ j. Contains (users_of e j) o) q y.1))),
          subst (λ j. WaitsOr s u o (HasTheSame f (found_in k j) d j)) (sym q) (moved_on o (subst (λ j. Contains (users_of e j) o) q y.1)),
        )
        | inr n ↦ inl (
          λ j. elim (contains_cases-end cs c b j) [
            | inl z ↦ y.0 z
            | inr z ↦ n z
          ],
          stays_user b o n y.1,
          held_on b o b n y.1 y.2,
        )
      ]
      | inr y ↦
          let n : found_in k b ≢ c = differ (found_in k b) (lives b (within b o there)) in
          inr (stays_user (found_in k b) o n y.0, held_on (found_in k b) o b n y.0 y.1)
    ]

    pub buries-next : Buries a k (cs ++ c ∷ []) s u d f
    buries-next = record {
      count = ap length one.moves.same.values ∙ (counted ∙ m.count);
      entered = one.moves.entered ∙ (elim one.puts [
        | inl p ↦ ap (λ (q : Held D). q.entered) p.2
        | inr p ↦ p.value.entered
      ] ∙ m.entered);
      carried = one.moves.same.carried ∙ (elim one.puts [
        | inl p ↦ ap (λ (q : Held D). q.carried) p.2
        | inr p ↦ p.value.carried
      ] ∙ m.carried);
      tall = one.moves.same.tall ∙ (elim one.puts [
        | inl p ↦ ap (λ (q : Held D). q.tall) p.2
        | inr p ↦ p.value.tall
      ] ∙ m.tall);
      counts = one.moves.same.counts ∙ (elim one.puts [
        | inl p ↦ ap (λ (q : Held D). q.counts) p.2
        | inr p ↦ p.value.counts
      ] ∙ m.counts);
      rows = waits-then s t u m.rows both_rows;
      down = λ i x. absorbs-then a law (data_in x f.values i) (data_in x e.values i) (data_in x d.values i) (lower i x) (m.down i x);
      grounded = next-grounded;
      merged = λ i x there. elim (contains_cases-end cs c i there) [
        | inl j ↦ absorbs-then a law (data_in x f.values (found_in k i)) (data_in x e.values (found_in k i)) (data_in x d.values i) (lower (found_in k i) x) (m.merged i x j)
        | inr q ↦ subst (λ j. Absorbs a (data_in x f.values (found_in k j)) (data_in x d.values j)) (sym q)
            (subst (λ y. Absorbs a y (data_in x d.values c)) (sym (new_heir x)) (subst (Absorbs a w) (sym (at_dead x) ∙ m.stale c dead x) (merge-absorbs a law one.kept one.dead)))
      ];
      stale = λ i n x. others i (λ q. n (subst (IsLive (entries_of k)) (sym q) live)) x ∙ m.stale i n x;
      once = λ y. subst AllDifferent (sym one.moves.same.changed) (elim one.puts [
        | inl p ↦ subst (λ (q : Held D). AllDifferent q.changed) (sym p.2) (m.once y)
        | inr p ↦ notes-once h e.changed one.held.changed p.value.changed (m.once y)
      ]);
      kept = λ i y. changed-kept i (m.kept i y);
      noted = λ i n x.
          let n_e : ¬ Contains e.changed i = λ y. n (changed-kept i y) in
          elim (cases_eq i h) [
            | inr z ↦ others i z x ∙ m.noted i n_e x
            | inl q ↦ elim one.puts [
              | inl p ↦ ap (λ vs. data_in x vs i) one.moves.same.values ∙ (ap (λ (z : Held D). data_in x z.values i) p.2 ∙ m.noted i n_e x)
              | inr p ↦ absurd (n (subst (λ xs. Contains xs i) (sym one.moves.same.changed) (subst (Contains one.held.changed) (sym q) (notes-there h e.changed one.held.changed p.value.changed))))
            ]
          ];
      from = λ i y. elim one.puts [
        | inl p ↦ m.from i (subst (λ (q : Held D). Contains q.changed i) p.2 (subst (λ xs. Contains xs i) one.moves.same.changed y))
        | inr p ↦ elim (notes-from h e.changed one.held.changed p.value.changed i (subst (λ xs. Contains xs i) one.moves.same.changed y)) [
          | inl j ↦ m.from i j
          | inr q ↦ inr (let l = heir-in in let n = m.count in omega (arith, q, l, n))
        ]
      ];
      follows = follow;
      only = λ b o y. elim (one.moves.only b o y) [
        | inl j ↦ m.only b o (subst (λ us. Contains us o) (held_users b) j)
        | inr q ↦
            let r = m.only c o (subst (λ us. Contains us o) (held_users c) q.1) in
            let n = m.count in
            let l = heir-in in
            (r.0, r.1, r.2 ∙ sym (ap (found_in k) q.0 ∙ itself h live (omega (arith, l, n))))
      ];
      in_range = λ b o y. elim (one.moves.only b o y) [
        | inl j ↦ m.in_range b o (subst (λ us. Contains us o) (held_users b) j)
        | inr q ↦ inr (let e = q.0 in let n = m.count in let l = heir-in in omega (arith, e, l, n))
      ];
    }
      where
        changed-kept : (i : ℕ) → Contains e.changed i → Contains f.changed i
        changed-kept i y = subst (λ xs. Contains xs i) (sym one.moves.same.changed) (elim one.puts [
          | inl p ↦ subst (λ (q : Held D). Contains q.changed i) (sym p.2) y
          | inr p ↦ notes-kept h e.changed one.held.changed p.value.changed i y
        ])
