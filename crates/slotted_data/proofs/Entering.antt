-- Sources that wait one after another, and users that are entered one after another.
use Rattle.std.proofs.Common.{◌≡◌, ◌≢◌, ◌<◌, ◌≤◌, ℕ, ◌+◌, List, [], ◌∷◌, ◌++◌, length, map, sym, ◌∙◌, ap, refl, subst, inl, inr, arith, None}
use Rattle.std.specs.Prelude.{◌⊎◌, Contains}
use Rattle.std.proofs.lemmas.Bool.{cases_eq}
use Rattle.std.proofs.lemmas.List.{get_or-set_same, get_or-set_other, map-append}
use Rattle.std.proofs.lemmas.List.Elements.{Contains-append_left, Contains-append_right, Contains-append_cases}
use Rattle.slotted_lists.proofs.Contained.{contains_head, contains_cases, Contains-nil, contains_cases-end}
use Rattle.slotted_model.proofs.Rebuilding.Touching.{different-added}
use Rattle.slotted_classes.specs.Kept.{Kept}
use Rattle.slotted_hashcons.specs.Filed.{filed_of}
use Rattle.slotted_hashcons.specs.FiledRows.{IsFiled, QueuesUp, Rows}
use Rattle.slotted_data.specs.Held.{Held, users_of, with_user, with_entered}
use Rattle.slotted_data.specs.Made.{children_at}
use Rattle.slotted_data.specs.Users.{WaitsFiled, WaitEach, SameValues, found_in, IsOlderOrWaits, EntersChildren, EntersUsers}

pub end-there : {X : Type 0} (xs : List X) (y : X) → Contains (xs ++ y ∷ []) y
end-there xs y = Contains-append_right xs (y ∷ []) y (contains_head y [])

pub waits-same : (s : Rows) → WaitsFiled s s
waits-same s = record { same = refl; kept = λ _ h. h; once = λ h. h; from = λ _ h. inl h }

pub waits-then : (s t u : Rows) → WaitsFiled s t → WaitsFiled t u → WaitsFiled s u
waits-then s t u m n = record {
  same = n.same ∙ m.same;
  kept = λ o h. n.kept o (m.kept o h);
  once = λ h. n.once (m.once h);
  from = λ o h. elim (n.from o h) [
    | inl k ↦ m.from o k
    | inr f ↦ inr (subst (λ v. IsFiled v o) m.same f)
  ];
}

pub each-none : (s : Rows) → WaitEach s s []
each-none s = record { filed = waits-same s; waits = λ o c. absurd (Contains-nil o c); from = λ _ h. inl h }

pub each-then : (s t u : Rows) (os : List ℕ) (o : ℕ) → WaitEach s t os → WaitEach t u (o ∷ []) → WaitEach s u (os ++ o ∷ [])
each-then s t u os o m n = record {
  filed = waits-then s t u m.filed n.filed;
  waits = λ p c f. elim (contains_cases-end os o p c) [
    | inl k ↦ n.filed.kept p (m.waits p k f)
    | inr e ↦ n.waits p (subst (Contains (o ∷ [])) (sym e) (contains_head o [])) (subst (λ v. IsFiled v p) (sym m.filed.same) f)
  ];
  from = λ p h. elim (n.from p h) [
    | inl k ↦ elim (m.from p k) [
      | inl j ↦ inl j
      | inr c ↦ inr (Contains-append_left os (o ∷ []) p c)
    ]
    | inr c ↦ inr (Contains-append_right os (o ∷ []) p c)
  ];
}

-- nothing is filed of the source
pub each-unfiled : (s : Rows) (o : ℕ) → filed_of s.filed o ≡ None → WaitEach s s (o ∷ [])
each-unfiled s o e = record {
  filed = waits-same s;
  waits = λ p c f. elim (contains_cases o [] p c) [
    | inl q ↦ absurd (let is = f.1 in let none = ap (filed_of s.filed) q ∙ e in cc)
    | inr n ↦ absurd (Contains-nil p n)
  ];
  from = λ _ h. inl h;
}

-- something is, and it waits
pub each-queued : (s t : Rows) (o : ℕ) → IsFiled s.filed o → QueuesUp s t o → WaitEach s t (o ∷ [])
each-queued s t o filed (inl h) = subst (λ u. WaitEach s u (o ∷ [])) (sym h.1) (record {
  filed = waits-same s;
  waits = λ p c f. elim (contains_cases o [] p c) [
    | inl q ↦ subst (Contains s.waiting) (sym q) h.0
    | inr n ↦ absurd (Contains-nil p n)
  ];
  from = λ _ k. inl k;
})
each-queued s t o filed (inr h) = subst (λ u. WaitEach s u (o ∷ [])) (sym h.1) (record {
  filed = record {
    same = refl;
    kept = λ p k. Contains-append_left s.waiting (o ∷ []) p k;
    once = λ d. different-added s.waiting o d h.0;
    from = λ p k. elim (contains_cases-end s.waiting o p k) [
      | inl j ↦ inl j
      | inr e ↦ inr (subst (IsFiled s.filed) (sym e) filed)
    ];
  };
  waits = λ p c f. elim (contains_cases o [] p c) [
    | inl q ↦ subst (Contains (s.waiting ++ o ∷ [])) (sym q) (end-there s.waiting o)
    | inr n ↦ absurd (Contains-nil p n)
  ];
  from = λ p k. Contains-append_cases s.waiting (o ∷ []) p k;
})

module _ {D : Type 0} where
  same-then : (d e f : Held D) → SameValues d e → SameValues e f → SameValues d f
  same-then d e f m n = record {
    values = n.values ∙ m.values;
    changed = n.changed ∙ m.changed;
    carried = n.carried ∙ m.carried;
    tall = n.tall ∙ m.tall;
    counts = n.counts ∙ m.counts;
  }

  -- one user more
  module _ (d : Held D) (c o : ℕ) (within : c < length d.users) where
    user-at : users_of (with_user d c o) c ≡ users_of d c ++ o ∷ []
    user-at = get_or-set_same d.users c (users_of d c ++ o ∷ []) [] within

    user-elsewhere : (x : ℕ) → x ≢ c → users_of (with_user d c o) x ≡ users_of d x
    user-elsewhere x n = get_or-set_other d.users c x (users_of d c ++ o ∷ []) [] n

    pub user-kept : (x p : ℕ) → Contains (users_of d x) p → Contains (users_of (with_user d c o) x) p
    user-kept x p h = elim (cases_eq x c) [
      | inl e ↦ subst (λ y. Contains (users_of (with_user d c o) y) p) (sym e)
          (subst (λ xs. Contains xs p) (sym user-at) (Contains-append_left (users_of d c) (o ∷ []) p (subst (λ y. Contains (users_of d y) p) e h)))
      | inr n ↦ subst (λ xs. Contains xs p) (sym (user-elsewhere x n)) h
    ]

    pub user-there : Contains (users_of (with_user d c o) c) o
    user-there = subst (λ xs. Contains xs o) (sym user-at) (end-there (users_of d c) o)

    pub user-only : (x p : ℕ) → Contains (users_of (with_user d c o) x) p → Contains (users_of d x) p ⊎ ((x ≡ c) × (p ≡ o))
    user-only x p h = elim (cases_eq x c) [
      | inl e ↦ elim (contains_cases-end (users_of d c) o p (subst (λ xs. Contains xs p) user-at (subst (λ y. Contains (users_of (with_user d c o) y) p) e h))) [
        | inl k ↦ inl (subst (λ y. Contains (users_of d y) p) (sym e) k)
        | inr q ↦ inr (e, q)
      ]
      | inr n ↦ inl (subst (λ xs. Contains xs p) (user-elsewhere x n) h)
    ]

  module _ (k : Kept) (o : ℕ) (s : Rows) (d : Held D) where
    pub children-none : EntersChildren k o [] s s d d
    children-none = record {
      same = record { values = refl; changed = refl; carried = refl; tall = refl; counts = refl };
      entered = refl;
      rows = waits-same s;
      kept = λ _ _ h. h;
      cover = λ c h. absurd (Contains-nil c h);
      only = λ _ _ h. inl h;
      waits = λ c h. absurd (Contains-nil c h);
    }

    -- one child more, which finds an older class, or else the class waits
    pub children-next : (cs : List ℕ) (c : ℕ) (t u : Rows) (e : Held D) → EntersChildren k o cs s t d e → found_in k c < length e.users →
        ((found_in k c < o) × (u ≡ t)) ⊎ WaitEach t u (o ∷ []) → EntersChildren k o (cs ++ c ∷ []) s u d (with_user e (found_in k c) o)
    children-next cs c t u e m within w = record {
      same = record { values = m.same.values; changed = m.same.changed; carried = m.same.carried; tall = m.same.tall; counts = m.same.counts };
      entered = m.entered;
      rows = waits-then s t u m.rows more;
      kept = λ x p h. user-kept e (found_in k c) o within x p (m.kept x p h);
      cover = λ x h. elim (contains_cases-end cs c x h) [
        | inl j ↦ user-kept e (found_in k c) o within (found_in k x) o (m.cover x j)
        | inr q ↦ subst (λ y. Contains (users_of (with_user e (found_in k c) o) (found_in k y)) o) (sym q) (user-there e (found_in k c) o within)
      ];
      only = λ x p h. elim (user-only e (found_in k c) o within x p h) [
        | inl j ↦ elim (m.only x p j) [
          | inl i ↦ inl i
          | inr q ↦ inr (q.0, subst (λ xs. Contains xs x) (sym all) (Contains-append_left (map (found_in k) cs) (found_in k c ∷ []) x q.1))
        ]
        | inr q ↦ inr (q.1, subst (λ xs. Contains xs x) (sym all) (subst (Contains (map (found_in k) cs ++ found_in k c ∷ [])) (sym q.0) (end-there (map (found_in k) cs) (found_in k c))))
      ];
      waits = λ x h. elim (contains_cases-end cs c x h) [
        | inl j ↦ elim (m.waits x j) [
          | inl l ↦ inl l
          | inr f ↦ inr (λ i. more.kept o (f i))
        ]
        | inr q ↦ subst (IsOlderOrWaits k s u o) (sym q) last
      ];
    }
      where
        all : map (found_in k) (cs ++ c ∷ []) ≡ map (found_in k) cs ++ found_in k c ∷ []
        all = map-append (found_in k) cs (c ∷ [])

        more : WaitsFiled t u
        more = elim w [
          | inl h ↦ subst (WaitsFiled t) (sym h.1) (waits-same t)
          | inr h ↦ h.filed
        ]

        last : IsOlderOrWaits k s u o c
        last = elim w [
          | inl h ↦ inl h.0
          | inr h ↦ inr (λ f. h.waits o (contains_head o []) (subst (λ v. IsFiled v o) (sym m.rows.same) f))
        ]

  module _ (k : Kept) (n : ℕ) (s : Rows) (d : Held D) where
    pub users-none : EntersUsers k n n s s d d
    users-none = record {
      same = record { values = refl; changed = refl; carried = refl; tall = refl; counts = refl };
      rows = waits-same s;
      kept = λ _ _ h. h;
      cover = λ o c l h. absurd (omega arith);
      only = λ _ _ h. inl h;
      waits = λ o c l h. absurd (omega arith);
    }

    pub users-next : (m : ℕ) (t u : Rows) (e f : Held D) → n ≤ m → EntersUsers k n m s t d e → EntersChildren k m (children_at k m) t u e f → EntersUsers k n (m + 1) s u d f
    users-next m t u e f from a b = record {
      same = same-then d e f a.same b.same;
      rows = waits-then s t u a.rows b.rows;
      kept = λ c p h. b.kept c p (a.kept c p h);
      cover = λ o c l h there. elim (cases_eq o m) [
        | inl q ↦ subst (Contains (users_of f (found_in k c))) (sym q) (b.cover c (subst (λ i. Contains (children_at k i) c) q there))
        | inr z ↦ b.kept (found_in k c) o (a.cover o c l (omega arith) there)
      ];
      only = λ c p h. elim (b.only c p h) [
        | inl j ↦ elim (a.only c p j) [
          | inl i ↦ inl i
          | inr q ↦ let w = q.0 in inr (omega (arith, w), q.1)
        ]
        | inr q ↦ let e = q.0 in inr (omega (arith, e), subst (λ i. Contains (map (found_in k) (children_at k i)) c) (sym q.0) q.1)
      ];
      waits = λ o c l h there. elim (cases_eq o m) [
        | inl q ↦ subst (λ i. IsOlderOrWaits k s u i c) (sym q) (elim (b.waits c (subst (λ i. Contains (children_at k i) c) q there)) [
          | inl y ↦ inl y
          | inr y ↦ inr (λ i. y (subst (λ v. IsFiled v m) (sym a.rows.same) i))
        ])
        | inr z ↦ elim (a.waits o c l (omega arith) there) [
          | inl y ↦ inl y
          | inr y ↦ inr (λ i. b.rows.kept o (y i))
        ]
      ];
    }

    -- so many classes are entered now
    pub users-counted : (m : ℕ) (t : Rows) (e : Held D) (count : ℕ) → EntersUsers k n m s t d e → EntersUsers k n m s t d (with_entered e count)
    users-counted m t e count a = record {
      same = record { values = a.same.values; changed = a.same.changed; carried = a.same.carried; tall = a.same.tall; counts = a.same.counts };
      rows = a.rows;
      kept = a.kept;
      cover = a.cover;
      only = a.only;
      waits = a.waits;
    }
