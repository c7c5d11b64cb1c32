-- Equality of nameless terms from equations: along paths, from more equations, and with one-sided names changed.
use Rattle.std.proofs.Common.{◌≡◌, ℕ, List, ◌∙◌, refl, subst}
use Rattle.std.specs.Prelude.{Contains}
use Rattle.slotted_theory.specs.Nameless.{DArgs, DTerm, moved}
use Rattle.slotted_theory.specs.Renaming.{IsInjective}
use Rattle.slotted_theory.specs.Shape.{free_names}
use Rattle.slotted_theory.specs.Derives.{Equal, listed, reflexive, turned, joined, within, moving, EqualArgs, equal_done, equal_name, equal_child, equal_bind}
use Rattle.slotted_theory.proofs.Laws.{moved-id}
use Rattle.slotted_theory.proofs.FreeNames.{moved-agrees}

pub Equal-along : {E : List (DTerm × DTerm)} {d d' e e' : DTerm} → d ≡ d' → e ≡ e' → Equal E d e → Equal E d' e'
Equal-along {E} p q h = subst (λ x. x) (λ i. Equal E (p i) (q i)) h

pub Equal-from_path : {E : List (DTerm × DTerm)} {d e : DTerm} → d ≡ e → Equal E d e
Equal-from_path p = Equal-along refl p reflexive

-- where each pair of E is equal from F, what is equal from E is equal from F
mutual
  pub Equal-through : {E F : List (DTerm × DTerm)} → ((d e : DTerm) → Contains E (d, e) → Equal F d e) → {d e : DTerm} → Equal E d e → Equal F d e
  Equal-through h {d} {e} (listed c) = h d e c
  Equal-through h reflexive = reflexive
  Equal-through h (turned p) = turned (Equal-through h p)
  Equal-through h (joined p q) = joined (Equal-through h p) (Equal-through h q)
  Equal-through h (within a) = within (EqualArgs-through h a)
  Equal-through h (moving f inj p) = moving f inj (Equal-through h p)

  pub EqualArgs-through : {E F : List (DTerm × DTerm)} → ((d e : DTerm) → Contains E (d, e) → Equal F d e) → {a b : DArgs} → EqualArgs E a b → EqualArgs F a b
  EqualArgs-through h equal_done = equal_done
  EqualArgs-through h (equal_name a) = equal_name (EqualArgs-through h a)
  EqualArgs-through h (equal_child p a) = equal_child (Equal-through h p) (EqualArgs-through h a)
  EqualArgs-through h (equal_bind a r) = equal_bind (EqualArgs-through h a) (EqualArgs-through h r)

pub Equal-more : {E F : List (DTerm × DTerm)} → ((p : DTerm × DTerm) → Contains E p → Contains F p) → {d e : DTerm} → Equal E d e → Equal F d e
Equal-more h p = Equal-through (λ d e c. listed (h (d, e) c)) p

-- where d equals e, an injective function that fixes the free names of e may be put on d
pub Equal-one_sided : {E : List (DTerm × DTerm)} {d e : DTerm} (f : ℕ → ℕ) → IsInjective f → ((x : ℕ) → Contains (free_names e.args) x → f x ≡ x) → Equal E d e → Equal E d (moved f d)
Equal-one_sided {E} {d} {e} f inj h p = joined p (turned (Equal-along refl (moved-agrees f (λ x. x) e h ∙ moved-id e) (moving f inj p)))
