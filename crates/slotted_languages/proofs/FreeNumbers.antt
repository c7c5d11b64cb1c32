-- The names that numbers stand for are the free names, each once, where it first stands.
use Rattle.std.proofs.Common.{◌≡◌, ◌≢◌, ℕ, zero, suc, ◌+◌, ◌<◌, List, [], ◌∷◌, ◌++◌, Option, Some, None, sym, ◌∙◌, ap, refl, inl, inr, arith}
use Rattle.std.specs.Prelude.{cond, nat_eq, Bool, true, false, ◌||◌}
use Rattle.std.proofs.lemmas.Bool.{eq-eqb, ne_eqb, cases_eq, false≢true}
use Rattle.std.proofs.lemmas.List.{map-append}
use Rattle.slotted_lists.proofs.Maps.{HasValue-is_among}
use Rattle.slotted_theory.specs.Nameless.{DArgs, stop, place, sub, scope}
use Rattle.slotted_theory.specs.Shape.{outside, free_names}
use Rattle.slotted_theory.specs.FiniteMaps.{IsInjectiveMap}
use Rattle.slotted_slots.specs.Maps.{keys, values, is_among}
use Rattle.slotted_slots.specs.Ascending.{AllAbove, IsAscending}
use Rattle.slotted_slots.specs.Table.{numeric_slot}
use Rattle.slotted_languages.specs.Shape.{Numbers, number_of, free_number, number_at, past_binder, numbered, added, firsts, IsBelow}
use Rattle.slotted_languages.proofs.Numbered.{IsBelow-up, IsBelow-more}

-- the free names under as many binders
abbrev pub outside_all : List ℕ → List ℕ → List ℕ
outside_all [] xs = xs
outside_all (n ∷ ns) xs = outside_all ns (outside xs)

outside-append : (xs ys : List ℕ) → outside (xs ++ ys) ≡ outside xs ++ outside ys
outside-append [] ys = refl
outside-append (zero ∷ xs) ys = outside-append xs ys
outside-append (suc x ∷ xs) ys = ap (λ l. x ∷ l) (outside-append xs ys)

outside_all-append : (ns xs ys : List ℕ) → outside_all ns (xs ++ ys) ≡ outside_all ns xs ++ outside_all ns ys
outside_all-append [] xs ys = refl
outside_all-append (n ∷ ns) xs ys = ap (outside_all ns) (outside-append xs ys) ∙ outside_all-append ns (outside xs) (outside ys)

outside_all-none : (ns : List ℕ) → outside_all ns [] ≡ []
outside_all-none [] = refl
outside_all-none (n ∷ ns) = outside_all-none ns

added-append : (vs xs ys : List ℕ) → added vs (xs ++ ys) ≡ added (added vs xs) ys
added-append vs [] ys = refl
added-append vs (x ∷ xs) ys = added-append (cond (is_among x vs) vs (vs ++ x ∷ [])) xs ys

has-number : (m : List (ℕ × ℕ)) (x n : ℕ) → number_of m x ≡ Some n → is_among x (values m) ≡ true
has-number [] x n e = cc
has-number (p ∷ m) x n e = elim (cases_eq p.1 x) [
  | inl d ↦ ap (λ b. b || is_among x (values m)) (eq-eqb p.1 x d)
  | inr d ↦ ap (λ b. b || is_among x (values m)) (ne_eqb p.1 x d) ∙ has-number m x n (sym (ap (λ b. cond b (Some p.0) (number_of m x)) (ne_eqb p.1 x d)) ∙ e)
]

has-no_number : (m : List (ℕ × ℕ)) (x : ℕ) → number_of m x ≡ None → is_among x (values m) ≡ false
has-no_number [] x e = refl
has-no_number (p ∷ m) x e = elim (cases_eq p.1 x) [
  | inl d ↦ let q : cond (nat_eq p.1 x) (Some p.0) (number_of m x) ≡ Some p.0 = ap (λ b. cond b (Some p.0) (number_of m x)) (eq-eqb p.1 x d) in cc
  | inr d ↦ ap (λ b. b || is_among x (values m)) (ne_eqb p.1 x d) ∙ has-no_number m x (sym (ap (λ b. cond b (Some p.0) (number_of m x)) (ne_eqb p.1 x d)) ∙ e)
]

free_values : (o : Option ℕ) (k : Numbers) (x : ℕ) → number_of k.free x ≡ o → values (free_number o k x).1.free ≡ cond (is_among x (values k.free)) (values k.free) (values k.free ++ x ∷ [])
free_values (Some n) k x e = sym (ap (λ b. cond b (values k.free) (values k.free ++ x ∷ [])) (has-number k.free x n e))
free_values None k x e =
    map-append (λ (p : ℕ × ℕ). p.1) k.free ((numeric_slot k.next, x) ∷ [])
    ∙ sym (ap (λ b. cond b (values k.free) (values k.free ++ x ∷ [])) (has-no_number k.free x e))

at_values : (ns : List ℕ) (k : Numbers) (x : ℕ) → values (number_at ns k x).1.free ≡ added (values k.free) (outside_all ns (x ∷ []))
at_values [] k x = free_values (number_of k.free x) k x refl
at_values (n ∷ ns) k zero = sym (ap (added (values k.free)) (outside_all-none ns))
at_values (n ∷ ns) k (suc x) = at_values ns k x

-- first the one, then the other
two_added : (ns vs us xs ys : List ℕ) → us ≡ added vs (outside_all ns xs) → added us (outside_all ns ys) ≡ added vs (outside_all ns (xs ++ ys))
two_added ns vs us xs ys e =
    ap (λ l. added l (outside_all ns ys)) e ∙ (sym (added-append vs (outside_all ns xs) (outside_all ns ys)) ∙ ap (added vs) (sym (outside_all-append ns xs ys)))

pub values-numbered : (ns : List ℕ) (k : Numbers) (d : DArgs) → values (numbered ns k d).1.free ≡ added (values k.free) (outside_all ns (free_names d))
values-numbered ns k stop = sym (ap (added (values k.free)) (outside_all-none ns))
values-numbered ns k (place x rest) =
    let s = (number_at ns k x).1 in
    values-numbered ns s rest ∙ two_added ns (values k.free) (values s.free) (x ∷ []) (free_names rest) (at_values ns k x)
values-numbered ns k (sub op payloads args rest) =
    let s = (numbered ns k args).1 in
    values-numbered ns s rest ∙ two_added ns (values k.free) (values s.free) (free_names args) (free_names rest) (values-numbered ns k args)
values-numbered ns k (scope inner rest) =
    let s = (numbered (numeric_slot k.next ∷ ns) (past_binder k) inner).1 in
    values-numbered ns s rest
    ∙ two_added ns (values k.free) (values s.free) (outside (free_names inner)) (free_names rest) (values-numbered (numeric_slot k.next ∷ ns) (past_binder k) inner)

-- no name stands twice
abbrev pub AreDifferent : List ℕ → Type 0
AreDifferent [] = Unit {0}
AreDifferent (x ∷ xs) = (is_among x xs ≡ false) × AreDifferent xs

has-more : (xs : List ℕ) (x y : ℕ) → is_among y xs ≡ false → x ≢ y → is_among y (xs ++ x ∷ []) ≡ false
has-more [] x y h n = ap (λ b. b || false) (ne_eqb x y n)
has-more (z ∷ xs) x y h n = elim (cases_eq z y) [
  | inl e ↦ let q : (nat_eq z y) || (is_among y xs) ≡ true = ap (λ b. b || is_among y xs) (eq-eqb z y e) in cc
  | inr d ↦
      let q : (nat_eq z y) || (is_among y xs) ≡ is_among y xs = ap (λ b. b || is_among y xs) (ne_eqb z y d) in
      ap (λ b. b || is_among y (xs ++ x ∷ [])) (ne_eqb z y d) ∙ has-more xs x y (sym q ∙ h) n
]

AreDifferent-more : (xs : List ℕ) (x : ℕ) → AreDifferent xs → is_among x xs ≡ false → AreDifferent (xs ++ x ∷ [])
AreDifferent-more [] x d h = (refl, tt)
AreDifferent-more (y ∷ xs) x d h = elim (cases_eq y x) [
  | inl e ↦ let q : (nat_eq y x) || (is_among x xs) ≡ true = ap (λ b. b || is_among x xs) (eq-eqb y x e) in absurd (false≢true (sym h ∙ q))
  | inr n ↦
      let q : (nat_eq y x) || (is_among x xs) ≡ is_among x xs = ap (λ b. b || is_among x xs) (ne_eqb y x n) in
      (has-more xs x y d.0 (λ e. n (sym e)), AreDifferent-more xs x d.1 (sym q ∙ h))
]

added_one : (b : Bool) (vs : List ℕ) (x : ℕ) → is_among x vs ≡ b → AreDifferent vs → AreDifferent (cond b vs (vs ++ x ∷ []))
added_one true vs x e d = d
added_one false vs x e d = AreDifferent-more vs x d e

added-different : (vs xs : List ℕ) → AreDifferent vs → AreDifferent (added vs xs)
added-different vs [] d = d
added-different vs (x ∷ xs) d = added-different (cond (is_among x vs) vs (vs ++ x ∷ [])) xs (added_one (is_among x vs) vs x refl d)

pub firsts-different : (xs : List ℕ) → AreDifferent (firsts xs)
firsts-different xs = added-different [] xs tt

pub different-injective : (m : List (ℕ × ℕ)) → AreDifferent (values m) → IsInjectiveMap m
different-injective [] d = tt
different-injective (p ∷ m) d = (λ h. false≢true (sym d.0 ∙ HasValue-is_among m p.1 h), different-injective m d.1)

AllAbove-more : (k x : ℕ) (xs : List ℕ) → k < x → AllAbove k xs → AllAbove k (xs ++ x ∷ [])
AllAbove-more k x [] l h = (l, tt)
AllAbove-more k x (y ∷ xs) l h = (h.0, AllAbove-more k x xs l h.1)

-- a number above all that are there
pub IsAscending-more : (m : List (ℕ × ℕ)) (n x : ℕ) → IsBelow n m → IsAscending (keys m) → IsAscending (keys (m ++ (n, x) ∷ []))
IsAscending-more [] n x b h = (tt, tt)
IsAscending-more (p ∷ m) n x b h = (
  let e : keys (m ++ (n, x) ∷ []) ≡ keys m ++ n ∷ [] = map-append (λ (q : ℕ × ℕ). q.0) m ((n, x) ∷ []) in
      rw e (AllAbove-more p.0 n (keys m) b.0 h.0),
  IsAscending-more m n x b.1 h.1,
)

-- the numbers rise and are below the next one
pub record Rising (k : Numbers) : Type 0 where
  pub below : IsBelow (numeric_slot k.next) k.free
  pub rise : IsAscending (keys k.free)

Rising-free : (o : Option ℕ) (k : Numbers) (x : ℕ) → Rising k → Rising (free_number o k x).1
Rising-free (Some n) k x r = r
Rising-free None k x r = record {
  below = IsBelow-more (numeric_slot (k.next + 1)) (numeric_slot k.next) x k.free (omega arith) (IsBelow-up (numeric_slot k.next) (numeric_slot (k.next + 1)) k.free (omega arith) r.below);
  rise = IsAscending-more k.free (numeric_slot k.next) x r.below r.rise;
}

Rising-number : (ns : List ℕ) (k : Numbers) (x : ℕ) → Rising k → Rising (number_at ns k x).1
Rising-number [] k x r = Rising-free (number_of k.free x) k x r
Rising-number (n ∷ ns) k zero r = r
Rising-number (n ∷ ns) k (suc x) r = Rising-number ns k x r

pub Rising-numbered : (ns : List ℕ) (k : Numbers) (d : DArgs) → Rising k → Rising (numbered ns k d).1
Rising-numbered ns k stop r = r
Rising-numbered ns k (place x rest) r = Rising-numbered ns (number_at ns k x).1 rest (Rising-number ns k x r)
Rising-numbered ns k (sub op payloads args rest) r = Rising-numbered ns (numbered ns k args).1 rest (Rising-numbered ns k args r)
Rising-numbered ns k (scope inner rest) r =
    Rising-numbered ns (numbered (numeric_slot k.next ∷ ns) (past_binder k) inner).1 rest
    (Rising-numbered (numeric_slot k.next ∷ ns) (past_binder k) inner (record { below = IsBelow-up (numeric_slot k.next) (numeric_slot (k.next + 1)) k.free (omega arith) r.below; rise = r.rise }))
