-- From no equation only alpha-equal terms are derivable.
use Rattle.std.proofs.Common.{◌≡◌, [], sym, ◌∙◌, ap, refl, arith}
use Rattle.slotted_theory.specs.Term.{Term}
use Rattle.slotted_theory.specs.Nameless.{DArgs, DTerm, place, sub, scope, moved, Alpha}
use Rattle.slotted_theory.specs.Derives.{Derives, Equal, listed, reflexive, turned, joined, within, moving, EqualArgs, equal_done, equal_name, equal_child, equal_bind}
use Rattle.slotted_theory.proofs.Forward.{Derives-equal}

-- from nothing only the same nameless terms are equal
mutual
  pub Equal-nothing : {d e : DTerm} → Equal [] d e → d ≡ e
  Equal-nothing (listed c) = absurd (omega (arith, c.1))
  Equal-nothing reflexive = refl
  Equal-nothing (turned h) = sym (Equal-nothing h)
  Equal-nothing (joined h k) = Equal-nothing h ∙ Equal-nothing k
  Equal-nothing (within {op = o} {payloads = p} a) = λ i. record { op = o; payloads = p; args = EqualArgs-nothing a i }
  Equal-nothing (moving f inj h) = ap (moved f) (Equal-nothing h)

  pub EqualArgs-nothing : {a b : DArgs} → EqualArgs [] a b → a ≡ b
  EqualArgs-nothing equal_done = refl
  EqualArgs-nothing (equal_name {x = x} a) = ap (place x) (EqualArgs-nothing a)
  EqualArgs-nothing (equal_child h a) = λ i. sub (Equal-nothing h i).op (Equal-nothing h i).payloads (Equal-nothing h i).args (EqualArgs-nothing a i)
  EqualArgs-nothing (equal_bind a r) = λ i. scope (EqualArgs-nothing a i) (EqualArgs-nothing r i)

pub Derives-nothing : {t u : Term} → Derives [] t u → Alpha t u
Derives-nothing d = Equal-nothing (Derives-equal d)
