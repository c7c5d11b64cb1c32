-- The names of a row's numbers, one after another.
use Rattle.std.proofs.Common.{◌≡◌, ◌+◌, ◌-◌, ◌<◌, ◌≤◌, ◌++◌, ℕ, zero, suc, List, [], ◌∷◌, take, length, get_or, sym, ◌∙◌, ap, subst, refl, arith}
use Rattle.std.specs.Prelude.{slice_index}
use Rattle.std.specs.List.{range_with_len}
use Rattle.std.proofs.lemmas.List.{take_more, append_assoc, length-append, map-id}
use Rattle.std.proofs.lemmas.List.FromFn.{map-range_with_len_more}
use Rattle.slotted_match_machine.specs.Machine.{names_for, new_names}

pub length-names_for : (names slots : List ℕ) (n : ℕ) → length (names_for names slots n) ≡ length slots
length-names_for names [] n = refl
length-names_for names (zero ∷ slots) n = ap suc (length-names_for names slots (suc n))
length-names_for names (suc p ∷ slots) n = ap suc (length-names_for names slots n)

pub new_names-le : (slots : List ℕ) → new_names slots ≤ length slots
new_names-le [] = omega arith
new_names-le (zero ∷ slots) = omega (arith, new_names-le slots)
new_names-le (suc p ∷ slots) = omega (arith, new_names-le slots)

-- the name of one number, where n names were given
abbrev pub name_for : List ℕ → ℕ → ℕ → ℕ
name_for names zero n = n
name_for names (suc p) n = slice_index names p

names_for-push : (names slots : List ℕ) (slot n : ℕ) → names_for names (slots ++ slot ∷ []) n ≡ names_for names slots n ++ name_for names slot (n + new_names slots) ∷ []
names_for-push names [] zero n = ap (λ k. k ∷ []) (omega arith)
names_for-push names [] (suc p) n = refl
names_for-push names (zero ∷ slots) slot n = ap (λ (xs : List ℕ). n ∷ xs) (names_for-push names slots slot (suc n) ∙ ap (λ k. names_for names slots (suc n) ++ name_for names slot k ∷ []) (omega arith))
names_for-push names (suc p ∷ slots) slot n = ap (λ (xs : List ℕ). slice_index names p ∷ xs) (names_for-push names slots slot n)

new_names-push : (slots : List ℕ) (slot : ℕ) → new_names (slots ++ slot ∷ []) ≡ new_names slots + new_names (slot ∷ [])
new_names-push [] slot = omega arith
new_names-push (zero ∷ slots) slot = omega (arith, new_names-push slots slot)
new_names-push (suc p ∷ slots) slot = new_names-push slots slot

-- the numbers before i have their names
pub record AreNamed (old names slots : List ℕ) (n i : ℕ) (frames : List ℕ) (count : ℕ) : Type 0 where
  pub given : frames ≡ old ++ names_for names (take i slots) n
  pub counted : count ≡ n + new_names (take i slots)

named-next : (old names slots : List ℕ) (n i : ℕ) (frames : List ℕ) (count slot : ℕ) → i < length slots → get_or slots i 0 ≡ slot →
    AreNamed old names slots n i frames count → AreNamed old names slots n (i + 1) (frames ++ name_for names slot count ∷ []) (count + new_names (slot ∷ []))
named-next old names slots n i frames count slot h e a =
    let s = take_more slots i 0 h ∙ ap (λ x. take i slots ++ x ∷ []) e in
    record {
      given = ap (λ f. f ++ name_for names slot count ∷ []) a.given
          ∙ (append_assoc old (names_for names (take i slots) n) (name_for names slot count ∷ [])
          ∙ ap (λ xs. old ++ xs) (ap (λ k. names_for names (take i slots) n ++ name_for names slot k ∷ []) a.counted
          ∙ (sym (names_for-push names (take i slots) slot n) ∙ ap (λ xs. names_for names xs n) (sym s))));
      counted = ap (λ k. k + new_names (slot ∷ [])) a.counted ∙ (omega (arith, new_names-push (take i slots) slot) ∙ ap (λ xs. n + new_names xs) (sym s));
    }

-- a number that stands for no slot has the next name
pub named-new : (old names slots : List ℕ) (n i : ℕ) (frames new : List ℕ) (count : ℕ) → i < length slots → ¬ (1 ≤ get_or slots i 0) →
    AreNamed old names slots n i frames count → new ≡ frames ++ count ∷ [] → AreNamed old names slots n (i + 1) new (count + 1)
named-new old names slots n i frames new count h z a e =
    subst (λ f. AreNamed old names slots n (i + 1) f (count + 1)) (sym e) (named-next old names slots n i frames count 0 h (omega arith) a)

-- and one that stands for a slot has its name
pub named-known : (old names slots : List ℕ) (n i : ℕ) (frames new : List ℕ) (count p : ℕ) → i < length slots → 1 ≤ get_or slots i 0 → p ≡ get_or slots i 0 - 1 →
    AreNamed old names slots n i frames count → new ≡ frames ++ get_or names p 0 ∷ [] → AreNamed old names slots n (i + 1) new count
named-known old names slots n i frames new count p h z q a e =
    let b = named-next old names slots n i frames count (suc p) h (omega arith) a in
    subst (λ f. AreNamed old names slots n (i + 1) f count) (sym e) (subst (AreNamed old names slots n (i + 1) (frames ++ get_or names p 0 ∷ [])) (omega arith) b)

-- there are no more names than were given
pub names-fit : (old names slots : List ℕ) (n i : ℕ) (frames : List ℕ) (count : ℕ) → n ≤ length old → AreNamed old names slots n i frames count → count ≤ length frames
names-fit old names slots n i frames count h a =
    omega (arith, a.counted, ap length a.given, length-append old (names_for names (take i slots) n), length-names_for names (take i slots) n, new_names-le (take i slots))

-- one name more for a slot
pub range-push : (n : ℕ) → range_with_len 0 (n + 1) ≡ range_with_len 0 n ++ n ∷ []
range-push n =
    sym (map-id (range_with_len 0 (n + 1)))
    ∙ (map-range_with_len_more (λ x. x) 0 n n (omega arith) ∙ ap (λ (xs : List ℕ). xs ++ n ∷ []) (map-id (range_with_len 0 n)))
