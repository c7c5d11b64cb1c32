-- The explicit lines of a proof are the explicit leaves of its tree, and these are asserted.
use Rattle.std.proofs.Common.{◌≡◌, ℕ, zero, suc, ◌<◌, ◌+◌, List, [], ◌∷◌, ◌++◌, length, Bool, true, false, cond, sym, ◌∙◌, ap, subst, inl, inr, arith}
use Rattle.std.specs.Prelude.{Contains, ◌⊎◌}
use Rattle.std.proofs.lemmas.Bool.{false≢true}
use Rattle.slotted_lists.proofs.Contained.{contains_head, contains_tail, contains_cases, Contains-nil}
use Rattle.slotted_model.specs.Leaves.{parts_of, IsLeaf, here, through}
use Rattle.slotted_model.specs.ProofList.{ProofEntry, explicit, step_at}
use Rattle.slotted_model.proofs.Finds.Leaves.{leaf-explicit}
use Rattle.slotted_proofs.specs.Entries.{Proven, entries_of, proven_at, is_explicit, explicit_from}
use Rattle.slotted_proofs.specs.Lines.{Lines, all, passed, next, PartsAreEarlier, has_line, parts_at}
use Rattle.slotted_proofs.specs.StepClaims.{ExplicitLinesAreLeaves, LeavesAreNumbered}
use Rattle.slotted_proofs.proofs.Entering.{length-entries}
use Rattle.slotted_proofs.proofs.Fitting.{step_at-entries}
use Rattle.slotted_proofs.proofs.Lining.{line-kept, line-own, line-from, kept, before_it}

module _ (list : List Proven) where
  -- what is asked gets a line
  asked : {lines ps end : List ℕ} → Lines list lines ps end → (x : ℕ) → Contains ps x → has_line end x ≡ true
  asked all x c = absurd (Contains-nil x c)
  asked (passed {lines = lines} {ps = ps} {p = p} e r) x c = elim (contains_cases p ps x c) [
    | inl i ↦ kept list r x (subst (λ y. has_line lines y ≡ true) (sym i) e)
    | inr d ↦ asked r x d
  ]
  asked (next {before = b} {ps = ps} {p = p} f a r) x c = elim (contains_cases p ps x c) [
    | inl i ↦ kept list r x (subst (λ y. has_line (b ++ p ∷ []) y ≡ true) (sym i) (line-own b p))
    | inr d ↦ asked r x d
  ]

  -- each part of what has a line has one
  abbrev IsWhole : List ℕ → Type 0
  IsWhole lines = (x : ℕ) → has_line lines x ≡ true → (r : ℕ) → Contains (parts_at list x) r → has_line lines r ≡ true

  whole : {lines ps end : List ℕ} → Lines list lines ps end → IsWhole lines → IsWhole end
  whole all h = h
  whole (passed e r) h = whole r h
  whole (next {before = b} {p = p} f a r) h =
      whole r (λ x t s c. elim (line-from b p x t) [
        | inl u ↦ line-kept b p s (whole a h x u s c)
        | inr i ↦ line-kept b p s (asked a s (subst (λ y. Contains (parts_at list y) s) i c))
      ])

  leaf-line : (end : List ℕ) → IsWhole end → {p q : ℕ} → IsLeaf (entries_of list) p q → has_line end p ≡ true → has_line end q ≡ true
  leaf-line end w (here l e) t = t
  leaf-line end w (through {p = p} {r = r} c l) t = leaf-line end w l (w p t r (subst (λ s. Contains (parts_of s) r) (step_at-entries list p) c))

  -- an explicit entry with a line had one before, or is a leaf of what is asked
  line-leaf : PartsAreEarlier list → {lines ps end : List ℕ} → Lines list lines ps end → ((x : ℕ) → Contains ps x → x < length list) → (q : ℕ) → has_line end q ≡ true → (proven_at list q).step ≡ explicit → (has_line lines q ≡ true) ⊎ ((p : ℕ) × Contains ps p × IsLeaf (entries_of list) p q)
  line-leaf earlier all small q h s = inl h
  line-leaf earlier (passed {ps = ps} {p = p} e r) small q h s = elim (line-leaf earlier r (λ x c. small x (contains_tail p ps x c)) q h s) [
    | inl t ↦ inl t
    | inr k ↦ inr (k.0, contains_tail p ps k.0 k.1, k.2)
  ]
  line-leaf earlier (next {before = b} {ps = ps} {p = p} f a r) small q h s =
      let l : p < length list = small p (contains_head p ps) in
      let n : length (entries_of list) ≡ length list = length-entries list in
      elim (line-leaf earlier r (λ x c. small x (contains_tail p ps x c)) q h s) [
        | inl t ↦ elim (line-from b p q t) [
          | inl u ↦ elim (line-leaf earlier a (λ x c. let k : x < p = before_it list earlier p x l c in omega arith) q u s) [
            | inl v ↦ inl v
            | inr k ↦ inr (p, contains_head p ps, through (subst (λ z. Contains (parts_of z) k.0) (sym (step_at-entries list p)) k.1) k.2)
          ]
          | inr i ↦ inr (
            p,
            contains_head p ps,
            subst (IsLeaf (entries_of list) p) (sym i) (here (omega arith) (step_at-entries list p ∙ subst (λ x. (proven_at list x).step ≡ explicit) i s)),
          )
        ]
        | inr k ↦ inr (k.0, contains_tail p ps k.0 k.1, k.2)
      ]

pub explicit_lines : ExplicitLinesAreLeaves
explicit_lines list earlier p lines l order q = (
  λ k. (
    leaf-line list lines (whole list order (λ x t r c. absurd (false≢true t))) k (asked list order p (contains_head p [])),
    sym (step_at-entries list q) ∙ (leaf-explicit k).1,
  ),
  λ h. elim (line-leaf list earlier order (λ x c. elim (contains_cases p [] x c) [ inl e ↦ subst (λ y. y < length list) (sym e) l | inr n ↦ absurd (Contains-nil x n) ]) q h.0 h.1) [
    | inl t ↦ absurd (false≢true t)
    | inr k ↦ elim (contains_cases p [] k.0 k.1) [
      | inl e ↦ subst (λ x. IsLeaf (entries_of list) x q) e k.2
      | inr n ↦ absurd (Contains-nil k.0 n)
    ]
  ],
)

-- the number of an explicit entry is among those of the explicit entries
one_more : (b : Bool) (i n : ℕ) (ns : List ℕ) → Contains ns n → Contains (cond b (i ∷ ns) ns) n
one_more true i n ns c = contains_tail i ns n c
one_more false i n ns c = c

explicit-numbered : (i : ℕ) (entries : List ProofEntry) (q n : ℕ) → n ≡ i + q → q < length entries → step_at entries q ≡ explicit → Contains (explicit_from i entries) n
explicit-numbered i [] q n s l e = absurd (omega arith)
explicit-numbered i (x ∷ entries) zero n s l e =
    let same : n ≡ i = omega arith in
    let more : List ℕ = explicit_from (suc i) entries in
    subst (λ b. Contains (cond b (i ∷ more) more) n) (sym (ap is_explicit e)) (subst (Contains (i ∷ more)) (sym same) (contains_head i more))
explicit-numbered i (x ∷ entries) (suc q) n s l e = one_more (is_explicit x.step) i n (explicit_from (suc i) entries) (explicit-numbered (suc i) entries q n (omega arith) (omega arith) e)

pub leaf_numbers : LeavesAreNumbered
leaf_numbers entries p q l = explicit-numbered 0 entries q q (omega arith) (leaf-explicit l).0 (leaf-explicit l).1
