-- The numbers of a nameless form do not depend on what its free names are called.
use Rattle.std.proofs.Common.{◌≡◌, ℕ, zero, suc, ◌+◌, List, [], ◌∷◌, Option, Some, None, sym, ◌∙◌, ap, refl, inl, inr}
use Rattle.std.specs.Prelude.{cond, nat_eq}
use Rattle.std.proofs.lemmas.Bool.{eq-eqb, ne_eqb, cases_eq}
use Rattle.std.proofs.lemmas.List.{map-append}
use Rattle.slotted_theory.specs.Term.{Args, name, child, bind}
use Rattle.slotted_theory.specs.Nameless.{DArgs, stop, place, sub, scope, moved_args}
use Rattle.slotted_theory.specs.Renaming.{IsInjective}
use Rattle.slotted_theory.specs.FiniteMaps.{with_values}
use Rattle.slotted_slots.specs.Table.{numeric_slot}
use Rattle.slotted_languages.specs.Shape.{Numbers, number_of, free_number, number_at, past_binder, numbered}
use Rattle.slotted_languages.proofs.Numbered.{lifted}

abbrev pub moved_numbers : (ℕ → ℕ) → Numbers → Numbers
moved_numbers f k = record { next = k.next; free = with_values f k.free }

eq_moved : (f : ℕ → ℕ) → IsInjective f → (x y : ℕ) → nat_eq (f x) (f y) ≡ nat_eq x y
eq_moved f inj x y = elim (cases_eq x y) [
  | inl e ↦ eq-eqb (f x) (f y) (ap f e) ∙ sym (eq-eqb x y e)
  | inr n ↦ ne_eqb (f x) (f y) (λ e. n (inj x y e)) ∙ sym (ne_eqb x y n)
]

number_of-moved : (f : ℕ → ℕ) → IsInjective f → (m : List (ℕ × ℕ)) (x : ℕ) → number_of (with_values f m) (f x) ≡ number_of m x
number_of-moved f inj [] x = refl
number_of-moved f inj (p ∷ m) x = λ i. cond (eq_moved f inj p.1 x i) (Some p.0) (number_of-moved f inj m x i)

free_number-moved : (f : ℕ → ℕ) (o : Option ℕ) (k : Numbers) (x : ℕ) → free_number o (moved_numbers f k) (f x) ≡ ((free_number o k x).0, moved_numbers f (free_number o k x).1)
free_number-moved f (Some n) k x = refl
free_number-moved f None k x = λ i. (numeric_slot k.next, record { next = k.next + 1; free = sym (map-append (λ (p : ℕ × ℕ). (p.0, f p.1)) k.free ((numeric_slot k.next, x) ∷ [])) i })

number_at-moved : (f : ℕ → ℕ) → IsInjective f → (ns : List ℕ) (k : Numbers) (x : ℕ) → number_at ns (moved_numbers f k) (lifted f ns x) ≡ ((number_at ns k x).0, moved_numbers f (number_at ns k x).1)
number_at-moved f inj [] k x =
    ap (λ o. free_number o (moved_numbers f k) (f x)) (number_of-moved f inj k.free x) ∙ free_number-moved f (number_of k.free x) k x
number_at-moved f inj (n ∷ ns) k zero = refl
number_at-moved f inj (n ∷ ns) k (suc x) = number_at-moved f inj ns k x

pub numbered-moved : (f : ℕ → ℕ) → IsInjective f → (ns : List ℕ) (k : Numbers) (d : DArgs) → numbered ns (moved_numbers f k) (moved_args (lifted f ns) d) ≡ ((numbered ns k d).0, moved_numbers f (numbered ns k d).1)
numbered-moved f inj ns k stop = refl
numbered-moved f inj ns k (place x rest) =
    ap (λ (h : ℕ × Numbers). (name h.0 (numbered ns h.1 (moved_args (lifted f ns) rest)).0, (numbered ns h.1 (moved_args (lifted f ns) rest)).1)) (number_at-moved f inj ns k x)
    ∙ ap (λ (r : Args × Numbers). (name (number_at ns k x).0 r.0, r.1)) (numbered-moved f inj ns (number_at ns k x).1 rest)
numbered-moved f inj ns k (sub op payloads args rest) =
    ap (λ (a : Args × Numbers). (child op payloads a.0 (numbered ns a.1 (moved_args (lifted f ns) rest)).0, (numbered ns a.1 (moved_args (lifted f ns) rest)).1)) (numbered-moved f inj ns k args)
    ∙ ap (λ (r : Args × Numbers). (child op payloads (numbered ns k args).0 r.0, r.1)) (numbered-moved f inj ns (numbered ns k args).1 rest)
numbered-moved f inj ns k (scope inner rest) =
    let i = numbered (numeric_slot k.next ∷ ns) (past_binder k) inner in
    ap (λ (a : Args × Numbers). (bind (numeric_slot k.next) a.0 (numbered ns a.1 (moved_args (lifted f ns) rest)).0, (numbered ns a.1 (moved_args (lifted f ns) rest)).1)) (numbered-moved f inj (numeric_slot k.next ∷ ns) (past_binder k) inner)
    ∙ ap (λ (r : Args × Numbers). (bind (numeric_slot k.next) i.0 r.0, r.1)) (numbered-moved f inj ns i.1 rest)
