-- How many classes lead to another class: at most as many as there are, one more after a link, and as many after a drop of slots.
use Rattle.std.proofs.Common.{◌≡◌, ◌≢◌, ◌<◌, ◌≤◌, ◌+◌, ℕ, zero, suc, List, [], ◌∷◌, ◌++◌, length, set, get_or, cond, ap, subst, sym, arith, inl, inr}
use Rattle.std.proofs.lemmas.Bool.{cases_eq, eq-eqb, ne_eqb}
use Rattle.slotted_model.specs.Find.{Entry, IsLive}
use Rattle.slotted_classes.specs.Kept.{Kept, ClassEntry, no_form, no_entry, find_at, node_at, entries_of, dead_at, dead_from}
use Rattle.slotted_classes.proofs.KeptLists.{entry_at-of}
use Rattle.slotted_classes.proofs.Writes.{written}

dead_at-live : (n : ℕ) (c : ClassEntry) → c.1.class ≡ n → dead_at n c ≡ 0
dead_at-live n c e = ap (λ b. cond b 0 1) (eq-eqb c.1.class n e)

dead_at-led : (n : ℕ) (c : ClassEntry) → c.1.class ≢ n → dead_at n c ≡ 1
dead_at-led n c e = ap (λ b. cond b 0 1) (ne_eqb c.1.class n e)

dead_at-one : (n : ℕ) (c : ClassEntry) → dead_at n c ≤ 1
dead_at-one n c = elim (cases_eq c.1.class n) [
  | inl e ↦ omega (arith, dead_at-live n c e)
  | inr e ↦ omega (arith, dead_at-led n c e)
]

dead-few : (n : ℕ) (cs : List ClassEntry) → dead_from n cs ≤ length cs
dead-few n [] = omega arith
dead-few n (c ∷ cs) = omega (arith, dead_at-one n c, dead-few (suc n) cs)

-- further classes make them no fewer
pub dead-more : (n : ℕ) (cs ds : List ClassEntry) → dead_from n cs ≤ dead_from n (cs ++ ds)
dead-more n [] ds = omega arith
dead-more n (c ∷ cs) ds = omega (arith, dead-more (suc n) cs ds)

dead-fewer : (n i : ℕ) (cs : List ClassEntry) (d : ClassEntry) → i < length cs → (get_or cs i d).1.class ≡ n + i → dead_from n cs < length cs
dead-fewer n i [] d l e = absurd (omega arith)
dead-fewer n zero (c ∷ cs) d l e = omega (arith, dead_at-live n c (omega (arith, e)), dead-few (suc n) cs)
dead-fewer n (suc i) (c ∷ cs) d l e = omega (arith, dead_at-one n c, dead-fewer (suc n) i cs d (omega arith) (omega (arith, e)))

-- another class in its place counts in its place
dead-set : (n i m : ℕ) (cs : List ClassEntry) (c d : ClassEntry) → m ≡ n + i → i < length cs → dead_from n (set cs i c) + dead_at m (get_or cs i d) ≡ dead_from n cs + dead_at m c
dead-set n i m [] c d e l = absurd (omega arith)
dead-set n zero m (x ∷ cs) c d e l =
    let same : m ≡ n = omega arith in
    omega (arith, ap (λ k. dead_at k x) same, ap (λ k. dead_at k c) same)
dead-set n (suc i) m (x ∷ cs) c d e l = omega (arith, dead-set (suc n) i m cs c d (omega (arith, e)) (omega arith))

-- the live class i gets the entry x
module _ (k : Kept) (i : ℕ) (within : i < length k.classes) (live : IsLive (entries_of k) i) where
  leads : (find_at k i).class ≡ i
  leads = subst (λ (e : Entry). e.class ≡ i) (entry_at-of k i) live

  pub live-fewer : dead_from 0 k.classes < length k.classes
  live-fewer = dead-fewer 0 i k.classes (no_form, no_entry) within (omega (arith, leads))

  pub dead-linked : (x : Entry) → x.class ≢ i → dead_from 0 (written k i x) ≡ suc (dead_from 0 k.classes)
  dead-linked x led =
      omega (arith, dead-set 0 i i k.classes (node_at k i, x) (no_form, no_entry) (omega arith) within, dead_at-live i (get_or k.classes i (no_form, no_entry)) leads, dead_at-led i (node_at k i, x) led)

  pub dead-kept : (x : Entry) → x.class ≡ i → dead_from 0 (written k i x) ≡ dead_from 0 k.classes
  dead-kept x lives =
      omega (arith, dead-set 0 i i k.classes (node_at k i, x) (no_form, no_entry) (omega arith) within, dead_at-live i (get_or k.classes i (no_form, no_entry)) leads, dead_at-live i (node_at k i, x) lives)

-- and so does an entry by which a dead class stays dead
pub dead-again : (k : Kept) (i : ℕ) → i < length k.classes → ¬ IsLive (entries_of k) i → (x : Entry) → x.class ≢ i →
    dead_from 0 (written k i x) ≡ dead_from 0 k.classes
dead-again k i within dead x led =
    let led_before : (find_at k i).class ≢ i = λ e. dead (subst (λ (y : Entry). y.class ≡ i) (sym (entry_at-of k i)) e) in
    omega (arith, dead-set 0 i i k.classes (node_at k i, x) (no_form, no_entry) (omega arith) within, dead_at-led i (get_or k.classes i (no_form, no_entry)) led_before, dead_at-led i (node_at k i, x) led)
