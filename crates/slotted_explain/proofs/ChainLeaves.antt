-- The steps of the chain of a proof are by the explicit leaves of its tree, and each of these is used.
use Rattle.std.proofs.Common.{◌≡◌, ℕ, suc, ◌<◌, List, [], ◌∷◌, ◌++◌, length, Bool, true, false, cond, refl, sym, ap, ◌∙◌, subst, inl, inr, arith}
use Rattle.std.specs.Prelude.{not, Contains, ◌↔◌}
use Rattle.std.proofs.lemmas.List.Elements.{Contains-append_cases, Contains-append_left, Contains-append_right}
use Rattle.slotted_lists.proofs.Contained.{contains_cases, contains_head, contains_tail, Contains-nil}
use Rattle.slotted_model.specs.Leaves.{IsLeaf, here, through, parts_of}
use Rattle.slotted_model.specs.ProofList.{Step, explicit, reflexive, symmetric, transitive, congruent, step_at}
use Rattle.slotted_proofs.specs.Entries.{Proven, entries_of, is_explicit, proven_at}
use Rattle.slotted_proofs.specs.Lines.{PartsAreEarlier}
use Rattle.slotted_proofs.proofs.Entering.{length-entries}
use Rattle.slotted_proofs.proofs.Fitting.{step_at-entries}
use Rattle.slotted_explain.specs.Chain.{IsChain, Rewrite, Rewrites, none, next, child_rewrite, child_rewrites, in_order, own_step, part_rewrites, rewrite, rewrites_below}
use Rattle.slotted_explain.proofs.Rewriting.{EachBelow, each_both, each_more, parts_below}

-- what a rewrite comes down to is by the parts of its step
first_part : (p : ℕ) (r x : Rewrite) (ps : List ℕ) (rs : List Rewrite) → r.entry ≡ p → (Contains rs x → Contains ps x.entry) → Contains (r ∷ rs) x → Contains (p ∷ ps) x.entry
first_part p r x ps rs e more c = elim (contains_cases r rs x c) [
  | inl s ↦ subst (Contains (p ∷ ps)) (sym (ap (λ (y : Rewrite). y.entry) s ∙ e)) (contains_head p ps)
  | inr d ↦ contains_tail p ps x.entry (more d)
]

child_there : (r : Rewrite) (k : ℕ) (ps : List ℕ) (x : Rewrite) → Contains (child_rewrites r k ps) x → Contains ps x.entry
child_there r k [] x c = absurd (Contains-nil x c)
child_there r k (p ∷ ps) x c = first_part p (child_rewrite r k p) x ps (child_rewrites r (suc k) ps) refl (child_there r (suc k) ps x) c

two_there : (a b x : Rewrite) → Contains (a ∷ b ∷ []) x → Contains (a.entry ∷ b.entry ∷ []) x.entry
two_there a b x c = first_part a.entry a x (b.entry ∷ []) (b ∷ []) refl (first_part b.entry b x [] [] refl (λ d. absurd (Contains-nil x d))) c

other_way : (X : Type 0) (a b x : X) → Contains (b ∷ a ∷ []) x → Contains (a ∷ b ∷ []) x
other_way X a b x c = elim (contains_cases b (a ∷ []) x c) [
  | inl e ↦ contains_tail a (b ∷ []) x (subst (Contains (b ∷ [])) (sym e) (contains_head b []))
  | inr d ↦ elim (contains_cases a [] x d) [
    | inl e ↦ subst (Contains (a ∷ b ∷ [])) (sym e) (contains_head a (b ∷ []))
    | inr n ↦ absurd (Contains-nil x n)
  ]
]

order_there : (turned : Bool) (a b x : Rewrite) → Contains (in_order turned a b) x → Contains (a.entry ∷ b.entry ∷ []) x.entry
order_there true a b x c = two_there a b x (other_way Rewrite a b x c)
order_there false a b x c = two_there a b x c

part_there : (r : Rewrite) (s : Step) (x : Rewrite) → Contains (part_rewrites r s) x → Contains (parts_of s) x.entry
part_there r explicit x c = absurd (Contains-nil x c)
part_there r reflexive x c = absurd (Contains-nil x c)
part_there r (symmetric p) x c = first_part p (rewrite p (not r.turned) r.path) x [] [] refl (λ d. absurd (Contains-nil x d)) c
part_there r (transitive p q) x c = order_there r.turned (rewrite p r.turned r.path) (rewrite q r.turned r.path) x c
part_there r (congruent ps) x c = child_there r 0 ps x c

-- and each part is among it
abbrev IsAmong : List Rewrite → ℕ → Type 0
IsAmong rs q = (x : Rewrite) × Contains rs x × (x.entry ≡ q)

first_among : (r : Rewrite) (rs : List Rewrite) (p q : ℕ) (ps : List ℕ) → r.entry ≡ p → (Contains ps q → IsAmong rs q) → Contains (p ∷ ps) q → IsAmong (r ∷ rs) q
first_among r rs p q ps e more c = elim (contains_cases p ps q c) [
  | inl s ↦ (r, contains_head r rs, e ∙ sym s)
  | inr d ↦
      let a : IsAmong rs q = more d in
      (a.0, contains_tail r rs a.0 a.1, a.2)
]

child_among : (r : Rewrite) (k : ℕ) (ps : List ℕ) (q : ℕ) → Contains ps q → IsAmong (child_rewrites r k ps) q
child_among r k [] q c = absurd (Contains-nil q c)
child_among r k (p ∷ ps) q c = first_among (child_rewrite r k p) (child_rewrites r (suc k) ps) p q ps refl (child_among r (suc k) ps q) c

two_among : (a b : Rewrite) (q : ℕ) → Contains (a.entry ∷ b.entry ∷ []) q → IsAmong (a ∷ b ∷ []) q
two_among a b q c = first_among a (b ∷ []) a.entry q (b.entry ∷ []) refl (first_among b [] b.entry q [] refl (λ d. absurd (Contains-nil q d))) c

order_among : (turned : Bool) (a b : Rewrite) (q : ℕ) → Contains (a.entry ∷ b.entry ∷ []) q → IsAmong (in_order turned a b) q
order_among false a b q c = two_among a b q c
order_among true a b q c = let m : IsAmong (a ∷ b ∷ []) q = two_among a b q c in (m.0, other_way Rewrite b a m.0 m.1, m.2)

part_among : (r : Rewrite) (s : Step) (q : ℕ) → Contains (parts_of s) q → IsAmong (part_rewrites r s) q
part_among r explicit q c = absurd (Contains-nil q c)
part_among r reflexive q c = absurd (Contains-nil q c)
part_among r (symmetric p) q c = first_among (rewrite p (not r.turned) r.path) [] p q [] refl (λ d. absurd (Contains-nil q d)) c
part_among r (transitive p t) q c = order_among r.turned (rewrite p r.turned r.path) (rewrite t r.turned r.path) q c
part_among r (congruent ps) q c = child_among r 0 ps q c

-- a step of its own is by an assertion
own_is : (s : Step) (r x : Rewrite) → Contains (cond (is_explicit s) (r ∷ []) []) x → (s ≡ explicit) × (x ≡ r)
own_is explicit r x c = elim (contains_cases r [] x c) [ inl e ↦ (refl, e) | inr n ↦ absurd (Contains-nil x n) ]
own_is reflexive r x c = absurd (Contains-nil x c)
own_is (symmetric p) r x c = absurd (Contains-nil x c)
own_is (transitive p q) r x c = absurd (Contains-nil x c)
own_is (congruent ps) r x c = absurd (Contains-nil x c)

module _ (list : List Proven) where
  -- each step is by a leaf of what it comes from
  leaf_of : PartsAreEarlier list → {rs steps : List Rewrite} → Rewrites list rs steps → EachBelow (length list) rs → (x : Rewrite) → Contains steps x → (r : Rewrite) × Contains rs r × IsLeaf (entries_of list) r.entry x.entry
  leaf_of earlier none b x c = absurd (Contains-nil x c)
  leaf_of earlier (next {r} {rs} {steps} d) b x c =
      let s : Step = (proven_at list r.entry).step in
      let below = rewrites_below list r in
      let within : EachBelow (length list) below = each_more r.entry (length list) below (omega (arith, b.0)) (parts_below list earlier r b.0) in
      elim (Contains-append_cases (own_step list r) steps x c) [
        | inl own ↦
            let is : (s ≡ explicit) × (x ≡ r) = own_is s r x own in
            let leaf : IsLeaf (entries_of list) r.entry r.entry = here (omega (arith, b.0, length-entries list)) (step_at-entries list r.entry ∙ is.0) in
            (r, contains_head r rs, subst (λ (y : Rewrite). IsLeaf (entries_of list) r.entry y.entry) (sym is.1) leaf)
        | inr more ↦
            let from : (t : Rewrite) × Contains (below ++ rs) t × IsLeaf (entries_of list) t.entry x.entry = leaf_of earlier d (each_both (length list) below rs within b.1) x more in
            elim (Contains-append_cases below rs from.0 from.1) [
              | inl part ↦ (r, contains_head r rs, through (subst (λ z. Contains (parts_of z) from.0.entry) (sym (step_at-entries list r.entry)) (part_there r s from.0 part)) from.2)
              | inr other ↦ (from.0, contains_tail r rs from.0 other, from.2)
            ]
      ]

  -- each leaf of a rewrite is a step of its own, or a leaf of what it comes down to
  later : (r : Rewrite) (steps : List Rewrite) (q : ℕ) → IsAmong steps q → IsAmong (own_step list r ++ steps) q
  later r steps q a = (a.0, Contains-append_right (own_step list r) steps a.0 a.1, a.2)

  at_once : (r : Rewrite) (rs steps : List Rewrite) → ((y : Rewrite) → Contains (rewrites_below list r ++ rs) y → (p q : ℕ) → y.entry ≡ p → IsLeaf (entries_of list) p q → IsAmong steps q) → {p q : ℕ} → r.entry ≡ p → IsLeaf (entries_of list) p q → IsAmong (own_step list r ++ steps) q
  at_once r rs steps again e (here l s) =
      let step : (proven_at list r.entry).step ≡ explicit = sym (step_at-entries list r.entry) ∙ (ap (step_at (entries_of list)) e ∙ s) in
      let own : own_step list r ≡ r ∷ [] = ap (λ (z : Step). cond (is_explicit z) (r ∷ []) []) step in
      (r, Contains-append_left (own_step list r) steps r (subst (λ (ys : List Rewrite). Contains ys r) (sym own) (contains_head r [])), e)
  at_once r rs steps again {q = q} e (through {r = t} part l) =
      let s : Step = (proven_at list r.entry).step in
      let there : Contains (parts_of s) t = subst (λ z. Contains (parts_of z) t) (ap (step_at (entries_of list)) (sym e) ∙ step_at-entries list r.entry) part in
      let one : IsAmong (rewrites_below list r) t = part_among r s t there in
      later r steps q (again one.0 (Contains-append_left (rewrites_below list r) rs one.0 one.1) t q one.2 l)

  used : {rs steps : List Rewrite} → Rewrites list rs steps → (x : Rewrite) → Contains rs x → (p q : ℕ) → x.entry ≡ p → IsLeaf (entries_of list) p q → IsAmong steps q
  used none x c p q e l = absurd (Contains-nil x c)
  used (next {r} {rs} {steps} d) x c p q e l = elim (contains_cases r rs x c) [
    | inl same ↦ at_once r rs steps (λ y there p2 q2 e2 l2. used d y there p2 q2 e2 l2) (ap (λ (y : Rewrite). y.entry) (sym same) ∙ e) l
    | inr other ↦ later r steps q (used d x (Contains-append_right (rewrites_below list r) rs x other) p q e l)
  ]

pub chain_leaves : (list : List Proven) → PartsAreEarlier list → (p : ℕ) → p < length list → (steps : List Rewrite) → IsChain list p steps → (q : ℕ) → IsLeaf (entries_of list) p q ↔ ((x : Rewrite) × Contains steps x × (x.entry ≡ q))
chain_leaves list earlier p l steps chain q = (
  λ leaf. used list chain (rewrite p false []) (contains_head (rewrite p false []) []) p q refl leaf,
  λ a.
      let from = leaf_of list earlier chain (l, tt) a.0 a.1 in
      elim (contains_cases (rewrite p false []) [] from.0 from.1) [
        | inl e ↦ subst (IsLeaf (entries_of list) p) a.2 (subst (λ (r : Rewrite). IsLeaf (entries_of list) r.entry a.0.entry) e from.2)
        | inr n ↦ absurd (Contains-nil from.0 n)
      ],
)
