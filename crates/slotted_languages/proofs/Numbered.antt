-- Numbers in place of names lose nothing: put back, they give the nameless form that was numbered.
use Rattle.std.proofs.Common.{◌≡◌, ◌≢◌, ℕ, zero, suc, ◌+◌, ◌<◌, ◌≤◌, List, [], ◌∷◌, ◌++◌, Option, Some, None, sym, ◌∙◌, ap, refl, inl, inr, arith}
use Rattle.std.specs.Prelude.{cond, nat_eq}
use Rattle.std.proofs.lemmas.Bool.{eq-eqb, ne_eqb, cases_eq}
use Rattle.slotted_theory.specs.Nameless.{DArgs, stop, place, sub, scope, extend, lift, nameless_args, moved_args}
use Rattle.slotted_theory.proofs.Names.{extend-same, extend-other}
use Rattle.slotted_theory.proofs.Laws.{moved_args-id}
use Rattle.slotted_slots.specs.Table.{numeric_slot}
use Rattle.slotted_languages.specs.Shape.{Numbers, number_of, free_number, number_at, past_binder, numbered, no_numbers, IsBelow}

-- f gives each number what π gives its name
abbrev pub Knows : (ℕ → ℕ) → (ℕ → ℕ) → List (ℕ × ℕ) → Type 0
Knows f π [] = Unit {0}
Knows f π (p ∷ m) = (f p.0 ≡ π p.1) × Knows f π m

pub Knows-left : (f π : ℕ → ℕ) (m l : List (ℕ × ℕ)) → Knows f π (m ++ l) → Knows f π m
Knows-left f π [] l h = tt
Knows-left f π (p ∷ m) l h = (h.0, Knows-left f π m l h.1)

Knows-last : (f π : ℕ → ℕ) (m : List (ℕ × ℕ)) (n x : ℕ) → Knows f π (m ++ (n, x) ∷ []) → f n ≡ π x
Knows-last f π [] n x h = h.0
Knows-last f π (p ∷ m) n x h = Knows-last f π m n x h.1

-- no number is n
abbrev pub IsFreeOf : ℕ → List (ℕ × ℕ) → Type 0
IsFreeOf n [] = Unit {0}
IsFreeOf n (p ∷ m) = (p.0 ≢ n) × IsFreeOf n m

abbrev pub AreBelow : ℕ → List ℕ → Type 0
AreBelow n [] = Unit {0}
AreBelow n (m ∷ ms) = (m < n) × AreBelow n ms

-- n was given out, and to no free name
pub record Taken (n : ℕ) (k : Numbers) : Type 0 where
  pub given : n < numeric_slot k.next
  pub other : IsFreeOf n k.free

-- the numbers of the open binders, the innermost first
abbrev pub Open : List ℕ → Numbers → Type 0
Open [] k = IsBelow (numeric_slot k.next) k.free
Open (n ∷ ns) k = Taken n k × AreBelow n ns × Open ns k

IsFreeOf-more : (n m x : ℕ) (l : List (ℕ × ℕ)) → m ≢ n → IsFreeOf n l → IsFreeOf n (l ++ (m, x) ∷ [])
IsFreeOf-more n m x [] e h = (e, tt)
IsFreeOf-more n m x (p ∷ l) e h = (h.0, IsFreeOf-more n m x l e h.1)

pub IsBelow-more : (n m x : ℕ) (l : List (ℕ × ℕ)) → m < n → IsBelow n l → IsBelow n (l ++ (m, x) ∷ [])
IsBelow-more n m x [] e h = (e, tt)
IsBelow-more n m x (p ∷ l) e h = (h.0, IsBelow-more n m x l e h.1)

pub IsBelow-up : (n m : ℕ) (l : List (ℕ × ℕ)) → n ≤ m → IsBelow n l → IsBelow m l
IsBelow-up n m [] e h = tt
IsBelow-up n m (p ∷ l) e h = (omega (arith, e, h.0), IsBelow-up n m l e h.1)

pub IsBelow-other : (n : ℕ) (l : List (ℕ × ℕ)) → IsBelow n l → IsFreeOf n l
IsBelow-other n [] h = tt
IsBelow-other n (p ∷ l) h = (omega (arith, h.0), IsBelow-other n l h.1)

-- what stays true from one state to a later one
pub record Later (k l : Numbers) : Type 0 where
  pub taken : (n : ℕ) → Taken n k → Taken n l
  pub below : IsBelow (numeric_slot k.next) k.free → IsBelow (numeric_slot l.next) l.free
  pub known : (f π : ℕ → ℕ) → Knows f π l.free → Knows f π k.free

pub Later-same : (k : Numbers) → Later k k
Later-same k = record { taken = λ n t. t; below = λ h. h; known = λ f π h. h }

pub Later-then : (k l m : Numbers) → Later k l → Later l m → Later k m
Later-then k l m a b = record { taken = λ n t. b.taken n (a.taken n t); below = λ h. b.below (a.below h); known = λ f π h. a.known f π (b.known f π h) }

pub Later-free : (o : Option ℕ) (k : Numbers) (x : ℕ) → Later k (free_number o k x).1
Later-free (Some n) k x = Later-same k
Later-free None k x = record {
  taken = λ n t. record { given = omega (arith, t.given); other = IsFreeOf-more n (numeric_slot k.next) x k.free (omega (arith, t.given)) t.other };
  below = λ h. IsBelow-more (numeric_slot (k.next + 1)) (numeric_slot k.next) x k.free (omega arith) (IsBelow-up (numeric_slot k.next) (numeric_slot (k.next + 1)) k.free (omega arith) h);
  known = λ f π h. Knows-left f π k.free ((numeric_slot k.next, x) ∷ []) h;
}

pub Later-number : (ns : List ℕ) (k : Numbers) (x : ℕ) → Later k (number_at ns k x).1
Later-number [] k x = Later-free (number_of k.free x) k x
Later-number (n ∷ ns) k zero = Later-same k
Later-number (n ∷ ns) k (suc x) = Later-number ns k x

pub Later-binder : (k : Numbers) → Later k (past_binder k)
Later-binder k = record {
  taken = λ n t. record { given = omega (arith, t.given); other = t.other };
  below = λ h. IsBelow-up (numeric_slot k.next) (numeric_slot (k.next + 1)) k.free (omega arith) h;
  known = λ f π h. h;
}

pub Later-numbered : (ns : List ℕ) (k : Numbers) (d : DArgs) → Later k (numbered ns k d).1
Later-numbered ns k stop = Later-same k
Later-numbered ns k (place x rest) = Later-then _ _ _ (Later-number ns k x) (Later-numbered ns (number_at ns k x).1 rest)
Later-numbered ns k (sub op payloads args rest) = Later-then _ _ _ (Later-numbered ns k args) (Later-numbered ns (numbered ns k args).1 rest)
Later-numbered ns k (scope inner rest) =
    let i = numbered (numeric_slot k.next ∷ ns) (past_binder k) inner in
    Later-then _ _ _ (Later-binder k) (Later-then _ _ _ (Later-numbered (numeric_slot k.next ∷ ns) (past_binder k) inner) (Later-numbered ns i.1 rest))

pub Open-later : (ns : List ℕ) (k l : Numbers) → Later k l → Open ns k → Open ns l
Open-later [] k l h o = h.below o
Open-later (n ∷ ns) k l h o = (h.taken n o.0, o.1, Open-later ns k l h o.2)

Open-below : (ns : List ℕ) (k : Numbers) → Open ns k → AreBelow (numeric_slot k.next) ns
Open-below [] k o = tt
Open-below (n ∷ ns) k o = (o.0.given, Open-below ns k o.2)

Open-free : (ns : List ℕ) (k : Numbers) → Open ns k → IsBelow (numeric_slot k.next) k.free
Open-free [] k o = o
Open-free (n ∷ ns) k o = Open-free ns k o.2

pub Open-binder : (ns : List ℕ) (k : Numbers) → Open ns k → Open (numeric_slot k.next ∷ ns) (past_binder k)
Open-binder ns k o = (
  record { given = omega arith; other = IsBelow-other (numeric_slot k.next) k.free (Open-free ns k o) },
  Open-below ns k o,
  Open-later ns k (past_binder k) (Later-binder k) o,
)

-- f under as many binders
abbrev pub lifted : (ℕ → ℕ) → List ℕ → ℕ → ℕ
lifted f [] = f
lifted f (n ∷ ns) = lift (lifted f ns)

-- the name of a number under open binders
abbrev pub named : (ℕ → ℕ) → List ℕ → ℕ → ℕ
named f [] = f
named f (n ∷ ns) = extend n (named f ns)

number_other : (m : List (ℕ × ℕ)) (n x o : ℕ) → IsFreeOf n m → number_of m x ≡ Some o → o ≢ n
number_other [] n x o h e = cc
number_other (p ∷ m) n x o h e = elim (cases_eq p.1 x) [
  | inl d ↦ let q : cond (nat_eq p.1 x) (Some p.0) (number_of m x) ≡ Some p.0 = ap (λ b. cond b (Some p.0) (number_of m x)) (eq-eqb p.1 x d) in let s : p.0 ≡ o = cc in λ t. h.0 (s ∙ t)
  | inr d ↦ number_other m n x o h.1 (sym (ap (λ b. cond b (Some p.0) (number_of m x)) (ne_eqb p.1 x d)) ∙ e)
]

free_other : (o : Option ℕ) (k : Numbers) (n x : ℕ) → number_of k.free x ≡ o → Taken n k → (free_number o k x).0 ≢ n
free_other (Some m) k n x e t = number_other k.free n x m t.other e
free_other None k n x e t = omega (arith, t.given)

-- another binder's number is n at no name
at_other : (ns : List ℕ) (k : Numbers) (n x : ℕ) → AreBelow n ns → Taken n k → (number_at ns k x).0 ≢ n
at_other [] k n x b t = free_other (number_of k.free x) k n x refl t
at_other (m ∷ ns) k n zero b t = omega (arith, b.0)
at_other (m ∷ ns) k n (suc x) b t = at_other ns k n x b.1 t

number_known : (f π : ℕ → ℕ) (m : List (ℕ × ℕ)) (x n : ℕ) → Knows f π m → number_of m x ≡ Some n → f n ≡ π x
number_known f π [] x n h e = cc
number_known f π (p ∷ m) x n h e = elim (cases_eq p.1 x) [
  | inl d ↦ let q : cond (nat_eq p.1 x) (Some p.0) (number_of m x) ≡ Some p.0 = ap (λ b. cond b (Some p.0) (number_of m x)) (eq-eqb p.1 x d) in let s : n ≡ p.0 = cc in ap f s ∙ (h.0 ∙ ap π d)
  | inr d ↦ number_known f π m x n h.1 (sym (ap (λ b. cond b (Some p.0) (number_of m x)) (ne_eqb p.1 x d)) ∙ e)
]

free_named : (f π : ℕ → ℕ) (o : Option ℕ) (k : Numbers) (x : ℕ) → number_of k.free x ≡ o → Knows f π (free_number o k x).1.free → f (free_number o k x).0 ≡ π x
free_named f π (Some n) k x e h = number_known f π k.free x n h e
free_named f π None k x e h = Knows-last f π k.free (numeric_slot k.next) x h

at_named : (f π : ℕ → ℕ) (ns : List ℕ) (k : Numbers) (x : ℕ) → Open ns k → Knows f π (number_at ns k x).1.free → named f ns (number_at ns k x).0 ≡ lifted π ns x
at_named f π [] k x o h = free_named f π (number_of k.free x) k x refl h
at_named f π (n ∷ ns) k zero o h = extend-same n (named f ns) n refl
at_named f π (n ∷ ns) k (suc x) o h =
    extend-other n (named f ns) (number_at ns k x).0 (at_other ns k n x o.1 o.0) ∙ ap suc (at_named f π ns k x o.2 h)

-- a function that knows the free names by π takes the numbers to the nameless form that π moved
pub numbered-to : (f π : ℕ → ℕ) (ns : List ℕ) (k : Numbers) (d : DArgs) → Open ns k → Knows f π (numbered ns k d).1.free → nameless_args (named f ns) (numbered ns k d).0 ≡ moved_args (lifted π ns) d
numbered-to f π ns k stop o h = refl
numbered-to f π ns k (place x rest) o h =
    let s = (number_at ns k x).1 in
    λ i. place (at_named f π ns k x o ((Later-numbered ns s rest).known f π h) i) (numbered-to f π ns s rest (Open-later ns k s (Later-number ns k x) o) h i)
numbered-to f π ns k (sub op payloads args rest) o h =
    let s = (numbered ns k args).1 in
    λ i. sub op payloads (numbered-to f π ns k args o ((Later-numbered ns s rest).known f π h) i) (numbered-to f π ns s rest (Open-later ns k s (Later-numbered ns k args) o) h i)
numbered-to f π ns k (scope inner rest) o h =
    let n = numeric_slot k.next in
    let s = (numbered (n ∷ ns) (past_binder k) inner).1 in
    let l : Later k s = Later-then _ _ _ (Later-binder k) (Later-numbered (n ∷ ns) (past_binder k) inner) in
    λ i. scope (numbered-to f π (n ∷ ns) (past_binder k) inner (Open-binder ns k o) ((Later-numbered ns s rest).known f π h) i) (numbered-to f π ns s rest (Open-later ns k s l o) h i)

-- and with the names themselves back to that form
pub numbered-back : (f : ℕ → ℕ) (d : DArgs) → Knows f (λ x. x) (numbered [] no_numbers d).1.free → nameless_args f (numbered [] no_numbers d).0 ≡ d
numbered-back f d h = numbered-to f (λ x. x) [] no_numbers d tt h ∙ moved_args-id d
