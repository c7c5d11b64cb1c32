-- The numbers of a shape are below the number of its places.
use Rattle.std.proofs.Common.{◌≡◌, ℕ, zero, suc, ◌+◌, ◌<◌, ◌≤◌, List, [], ◌∷◌, ◌++◌, length, Option, Some, None, sym, ap, refl, subst, inl, inr, arith, length-append}
use Rattle.std.proofs.lemmas.List.{map-append}
use Rattle.slotted_lists.proofs.Members.{In, In-append, In-Contains}
use Rattle.slotted_theory.specs.Nameless.{DArgs, stop, place, sub, scope}
use Rattle.slotted_slots.specs.Maps.{keys}
use Rattle.slotted_slots.specs.Table.{numeric_slot}
use Rattle.slotted_nodes.specs.Form.{Form}
use Rattle.slotted_languages.specs.NodeTerm.{nameless_node}
use Rattle.slotted_languages.specs.Shape.{Numbers, number_of, free_number, number_at, past_binder, numbered, no_numbers, names_in, shape}
use Rattle.slotted_languages.proofs.FirstPlaces.{free_in}
use Rattle.slotted_matching.specs.KeyRows.{AreCovered}

-- below the slot of the number n
abbrev AreUnder : ℕ → List ℕ → Type 0
AreUnder n xs = (x : ℕ) → In x xs → x < numeric_slot n

under-up : (n m : ℕ) (xs : List ℕ) → n ≤ m → AreUnder n xs → AreUnder m xs
under-up n m xs l h x i = omega (arith, h x i, l)

under-append : (n : ℕ) (xs ys : List ℕ) → AreUnder n xs → AreUnder n ys → AreUnder n (xs ++ ys)
under-append n xs ys h k x i = elim (In-append x xs ys i) [ inl a ↦ h x a | inr b ↦ k x b ]

under-cons : (n x : ℕ) (xs : List ℕ) → x < numeric_slot n → AreUnder n xs → AreUnder n (x ∷ xs)
under-cons n x xs l h y (inl e) = omega (arith, e, l)
under-cons n x xs l h y (inr i) = h y i

-- one number
record OneUnder (k : Numbers) (h : ℕ × Numbers) : Type 0 where
  number : h.0 < numeric_slot h.1.next
  free : AreUnder h.1.next (keys h.1.free)
  more : k.next ≤ h.1.next
  few : h.1.next ≤ k.next + 1

free-under : (o : Option ℕ) (k : Numbers) (x : ℕ) → number_of k.free x ≡ o → AreUnder k.next (keys k.free) → OneUnder k (free_number o k x)
free-under (Some n) k x e h = record { number = h n (free_in k.free x n e); free = h; more = omega arith; few = omega arith }
free-under None k x e h = record {
  number = omega arith;
  free = subst (AreUnder (k.next + 1)) (sym (map-append (λ (p : ℕ × ℕ). p.0) k.free ((numeric_slot k.next, x) ∷ [])))
      (under-append (k.next + 1) (keys k.free) (numeric_slot k.next ∷ []) (under-up k.next (k.next + 1) (keys k.free) (omega arith) h)
      (under-cons (k.next + 1) (numeric_slot k.next) [] (omega arith) (λ y i. absurd i)));
  more = omega arith;
  few = omega arith;
}

at-under : (ns : List ℕ) (k : Numbers) (x : ℕ) → AreUnder k.next ns → AreUnder k.next (keys k.free) → OneUnder k (number_at ns k x)
at-under [] k x a h = free-under (number_of k.free x) k x refl h
at-under (n ∷ ns) k zero a h = record { number = a n (inl refl); free = h; more = omega arith; few = omega arith }
at-under (n ∷ ns) k (suc x) a h = at-under ns k x (λ y i. a y (inr i)) h

-- the numbers of arguments
record AllUnder (ns : List ℕ) (k : Numbers) (d : DArgs) : Type 0 where
  names : AreUnder (numbered ns k d).1.next (names_in (numbered ns k d).0)
  free : AreUnder (numbered ns k d).1.next (keys (numbered ns k d).1.free)
  more : k.next ≤ (numbered ns k d).1.next
  few : (numbered ns k d).1.next ≤ k.next + length (names_in (numbered ns k d).0)

all-under : (ns : List ℕ) (k : Numbers) (d : DArgs) → AreUnder k.next ns → AreUnder k.next (keys k.free) → AllUnder ns k d
all-under ns k stop a h = record { names = λ x i. absurd i; free = h; more = omega arith; few = omega arith }
all-under ns k (place x rest) a h =
    let t = number_at ns k x in
    let p = at-under ns k x a h in
    let q = all-under ns t.1 rest (under-up k.next t.1.next ns p.more a) p.free in
    let r = numbered ns t.1 rest in
    record {
      names = under-cons r.1.next t.0 (names_in r.0) (omega (arith, p.number, q.more)) q.names;
      free = q.free;
      more = omega (arith, p.more, q.more);
      few = omega (arith, p.few, q.few);
    }
all-under ns k (sub op payloads args rest) a h =
    let t = numbered ns k args in
    let p = all-under ns k args a h in
    let q = all-under ns t.1 rest (under-up k.next t.1.next ns p.more a) p.free in
    let r = numbered ns t.1 rest in
    record {
      names = under-append r.1.next (names_in t.0) (names_in r.0) (under-up t.1.next r.1.next (names_in t.0) q.more p.names) q.names;
      free = q.free;
      more = omega (arith, p.more, q.more);
      few = omega (arith, p.few, q.few, length-append (names_in t.0) (names_in r.0));
    }
all-under ns k (scope inner rest) a h =
    let n : ℕ = numeric_slot k.next in
    let b : Numbers = past_binder k in
    let ups = under-up k.next (k.next + 1) ns (omega arith) a in
    let t = numbered (n ∷ ns) b inner in
    let p = all-under (n ∷ ns) b inner (under-cons (k.next + 1) n ns (omega arith) ups) (under-up k.next (k.next + 1) (keys k.free) (omega arith) h) in
    let q = all-under ns t.1 rest (under-up (k.next + 1) t.1.next ns p.more ups) p.free in
    let r = numbered ns t.1 rest in
    record {
      names = under-cons r.1.next n (names_in t.0 ++ names_in r.0) (omega (arith, p.more, q.more))
          (under-append r.1.next (names_in t.0) (names_in r.0) (under-up t.1.next r.1.next (names_in t.0) q.more p.names) q.names);
      free = q.free;
      more = omega (arith, p.more, q.more);
      few = omega (arith, p.few, q.few, length-append (names_in t.0) (names_in r.0));
    }

pub covered-key : (f : Form) → (shape f).0 ≡ f → AreCovered f
covered-key f own x c =
    let u = all-under [] no_numbers (nameless_node f).args (λ y i. absurd i) (λ y i. absurd i) in
    let xs : List ℕ = (shape f).0.names in
    let same : xs ≡ f.names = ap (λ (h : Form). h.names) own in
    let l = u.names x (subst (In x) (sym same) (In-Contains f.names x c)) in
    omega (arith, l, u.few, ap length same)
