-- Equations that are derivable themselves derive nothing new, and what is not free on one side may be renamed on the other.
use Rattle.std.proofs.Common.{◌≡◌, ℕ, List, sym, refl}
use Rattle.std.specs.Prelude.{Contains, map}
use Rattle.slotted_lists.proofs.Contained.{Contains-of_map}
use Rattle.slotted_theory.specs.Term.{Term}
use Rattle.slotted_theory.specs.Nameless.{DTerm}
use Rattle.slotted_theory.specs.Renaming.{Bijection, renamed}
use Rattle.slotted_theory.specs.Shape.{IsFreeIn}
use Rattle.slotted_theory.specs.Derives.{Derives, asserted, Equal, nameless_pair}
use Rattle.slotted_theory.proofs.Laws.{nameless-renamed}
use Rattle.slotted_theory.proofs.Bijections.{to-injective}
use Rattle.slotted_theory.proofs.Equals.{Equal-along, Equal-through, Equal-one_sided}
use Rattle.slotted_theory.proofs.Forward.{Derives-equal}
use Rattle.slotted_theory.proofs.Backward.{Equal-derives}

-- where each pair of E is derivable from F, the nameless pairs of E are equal from those of F
Equal-listed : (E F : List (Term × Term)) → ((t u : Term) → Contains E (t, u) → Derives F t u) → (d e : DTerm) → Contains (map nameless_pair E) (d, e) → Equal (map nameless_pair F) d e
Equal-listed E F h d e c =
    let r : (p : Term × Term) × Contains E p × (nameless_pair p ≡ (d, e)) = Contains-of_map nameless_pair E (d, e) c in
    Equal-along (λ i. (r.2 i).0) (λ i. (r.2 i).1) (Derives-equal (h r.0.0 r.0.1 r.1))

pub Derives-through : {E F : List (Term × Term)} → ((t u : Term) → Contains E (t, u) → Derives F t u) → {t u : Term} → Derives E t u → Derives F t u
Derives-through {E} {F} h {t} {u} d = Equal-derives t u (Equal-through (Equal-listed E F h) (Derives-equal d))

pub Derives-more : {E F : List (Term × Term)} → ((p : Term × Term) → Contains E p → Contains F p) → {t u : Term} → Derives E t u → Derives F t u
Derives-more h d = Derives-through (λ t u c. asserted (h (t, u) c)) d

pub Derives-one_sided : {E : List (Term × Term)} {t u : Term} (π : Bijection) → ((x : ℕ) → IsFreeIn x u.args → π.to x ≡ x) → Derives E t u → Derives E t (renamed π.to t)
Derives-one_sided {E} {t} {u} π h d =
    Equal-derives t (renamed π.to t) (Equal-along refl (sym (nameless-renamed π.to (to-injective π) t)) (Equal-one_sided π.to (to-injective π) h (Derives-equal d)))
