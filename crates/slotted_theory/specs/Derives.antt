-- Derivability: the least congruence, under binders and renaming, of a list of equations.
--     Derives E t u     a tree of steps from the equations E ends in the pair of the terms t and u
--     Equal E d e       the same of nameless terms, where alpha-equal terms are equal
use Rattle.std.specs.Prelude.{ℕ, List, Contains}
use Rattle.slotted_theory.specs.Term.{Args, Term, done, name, child, bind}
use Rattle.slotted_theory.specs.Nameless.{DArgs, DTerm, stop, place, sub, scope, nameless, Alpha, moved}
use Rattle.slotted_theory.specs.Renaming.{Bijection, IsInjective, renamed}

mutual
  -- a tree of steps that ends in the pair of t and u
  pub data Derives (E : List (Term × Term)) : Term → Term → Type 0 where
    asserted : {t u : Term} → Contains E (t, u) → Derives E t u
    alpha : {t u : Term} → Alpha t u → Derives E t u
    symmetric : {t u : Term} → Derives E t u → Derives E u t
    transitive : {t u v : Term} → Derives E t u → Derives E u v → Derives E t v
    congruent : {op : ℕ} {payloads : List (List ℕ)} {a b : Args} → DerivesArgs E a b →
        Derives E (record { op = op; payloads = payloads; args = a }) (record { op = op; payloads = payloads; args = b })
    renaming : {t u : Term} (π : Bijection) → Derives E t u → Derives E (renamed π.to t) (renamed π.to u)

  -- the same own names and bound names, and derivable children in turn
  pub data DerivesArgs (E : List (Term × Term)) : Args → Args → Type 0 where
    both_done : DerivesArgs E done done
    same_name : {x : ℕ} {a b : Args} → DerivesArgs E a b → DerivesArgs E (name x a) (name x b)
    both_child : {t u : Term} {a b : Args} → Derives E t u → DerivesArgs E a b →
        DerivesArgs E (child t.op t.payloads t.args a) (child u.op u.payloads u.args b)
    same_bind : {x : ℕ} {a b r s : Args} → DerivesArgs E a b → DerivesArgs E r s → DerivesArgs E (bind x a r) (bind x b s)

-- the same over nameless terms, where alpha is equality and a renaming is an injective function
mutual
  -- a tree of steps that ends in the pair of d and e
  pub data Equal (E : List (DTerm × DTerm)) : DTerm → DTerm → Type 0 where
    listed : {d e : DTerm} → Contains E (d, e) → Equal E d e
    reflexive : {d : DTerm} → Equal E d d
    turned : {d e : DTerm} → Equal E d e → Equal E e d
    joined : {d e f : DTerm} → Equal E d e → Equal E e f → Equal E d f
    within : {op : ℕ} {payloads : List (List ℕ)} {a b : DArgs} → EqualArgs E a b →
        Equal E (record { op = op; payloads = payloads; args = a }) (record { op = op; payloads = payloads; args = b })
    moving : {d e : DTerm} (f : ℕ → ℕ) → IsInjective f → Equal E d e → Equal E (moved f d) (moved f e)

  -- the same names and bound places, and equal children in turn
  pub data EqualArgs (E : List (DTerm × DTerm)) : DArgs → DArgs → Type 0 where
    equal_done : EqualArgs E stop stop
    equal_name : {x : ℕ} {a b : DArgs} → EqualArgs E a b → EqualArgs E (place x a) (place x b)
    equal_child : {d e : DTerm} {a b : DArgs} → Equal E d e → EqualArgs E a b →
        EqualArgs E (sub d.op d.payloads d.args a) (sub e.op e.payloads e.args b)
    equal_bind : {a b r s : DArgs} → EqualArgs E a b → EqualArgs E r s → EqualArgs E (scope a r) (scope b s)

-- each equation without bound names
abbrev pub nameless_pair : Term × Term → DTerm × DTerm
nameless_pair p = (nameless p.0, nameless p.1)
