-- A name at a position, in a frame and by number, also while more names are given.
use Rattle.std.proofs.Common.{◌≡◌, ◌≢◌, ◌+◌, ◌<◌, ◌≤◌, ◌++◌, ℕ, zero, suc, List, [], ◌∷◌, Option, Some, None, take, drop, length, get_or, sym, ◌∙◌, ap, refl, arith}
use Rattle.std.proofs.lemmas.List.{get_or-take, get_or-drop, get_or_past, length-take, length-drop, drop-append-le, take-append-le, drop_at, take_all, drop_all, at_drop_more}
use Rattle.std.proofs.lemmas.Bool.{eq-eqb, ne_eqb}
use Rattle.std.specs.Prelude.{Bool, true, false, ◌&&◌, nat_eq}
use Rattle.slotted_theory.specs.Decided.{numbers_eq}
use denote.Ref.{Bor}
use Rattle.slotted_match_machine.specs.declared.names.Frame.{Frame}
use Rattle.slotted_match_machine.specs.declared.names.Names.{Names}
use Rattle.slotted_match_machine.specs.Machine.{named}
use Rattle.slotted_match_machine.specs.Views.{IsIn, names_of, names_by, names_at, number_in, number_at}

names_of-in : (frames : List ℕ) (f : Frame) (i : ℕ) → i < f.count → get_or (names_of frames f) i 0 ≡ get_or frames (f.start + i) 0
names_of-in frames f i h = get_or-take f.count (drop f.start frames) i 0 h ∙ get_or-drop f.start frames i 0

names_of-past : (frames : List ℕ) (f : Frame) (i : ℕ) → f.count ≤ i → get_or (names_of frames f) i 0 ≡ 0
names_of-past frames f i h = get_or_past (names_of frames f) i 0 (omega (arith, length-take f.count (drop f.start frames)))

named-at : (numbers names : List ℕ) (p count : ℕ) → length names ≤ count → get_or (named names numbers) p 0 ≡ get_or names (get_or numbers p count) 0
named-at [] names p count h = sym (get_or_past names count 0 h)
named-at (x ∷ numbers) names zero count h = refl
named-at (x ∷ numbers) names (suc p) count h = named-at numbers names p count h

names_by-at : (numbers : Option (Bor (List ℕ))) (names : List ℕ) (p count : ℕ) → length names ≤ count → get_or (names_by numbers names) p 0 ≡ get_or names (number_in numbers p count) 0
names_by-at None names p count h = refl
names_by-at (Some numbers) names p count h = named-at numbers.now names p count h

-- a name is read at its number in the frame
names_at-at : (frames : List ℕ) (n : Names) (p : ℕ) → get_or (names_at frames n) p 0 ≡ get_or (names_of frames n.frame) (number_at n p) 0
names_at-at frames n p = names_by-at n.numbers (names_of frames n.frame) p n.frame.count (omega (arith, length-take n.frame.count (drop n.frame.start frames)))

pub name-in : (frames : List ℕ) (n : Names) (p k : ℕ) → k ≡ number_at n p → k < n.frame.count → get_or frames (n.frame.start + k) 0 ≡ get_or (names_at frames n) p 0
name-in frames n p k e h =
    sym (names_at-at frames n p ∙ (ap (λ i. get_or (names_of frames n.frame) i 0) (sym e) ∙ names_of-in frames n.frame k h))

pub name-past : (frames : List ℕ) (n : Names) (p k : ℕ) → k ≡ number_at n p → n.frame.count ≤ k → 0 ≡ get_or (names_at frames n) p 0
name-past frames n p k e h =
    sym (names_at-at frames n p ∙ (ap (λ i. get_or (names_of frames n.frame) i 0) (sym e) ∙ names_of-past frames n.frame k h))

-- more names change no frame
pub names_of-grown : (frames more : List ℕ) (f : Frame) → IsIn frames f → names_of (frames ++ more) f ≡ names_of frames f
names_of-grown frames more f h =
    ap (take f.count) (drop-append-le f.start frames more (omega arith))
    ∙ take-append-le f.count (drop f.start frames) more (omega (arith, length-drop f.start frames))

pub names_at-grown : (frames more : List ℕ) (n : Names) → IsIn frames n.frame → names_at (frames ++ more) n ≡ names_at frames n
names_at-grown frames more n h = ap (names_by n.numbers) (names_of-grown frames more n.frame h)

-- the last frame
pub names_of-last : (frames more : List ℕ) (f : Frame) → f.start ≡ length frames → length more ≡ f.count → names_of (frames ++ more) f ≡ more
names_of-last frames more f e h = ap (take f.count) (drop_at frames more f.start (sym e)) ∙ take_all f.count more (omega arith)

-- lists of two lengths are not the same
and_false : (a : Bool) → false ≡ (a && false)
and_false true = refl
and_false false = refl

pub numbers_eq-lengths : (xs ys : List ℕ) → length xs ≢ length ys → false ≡ numbers_eq xs ys
numbers_eq-lengths [] [] h = absurd (h refl)
numbers_eq-lengths [] (y ∷ ys) h = refl
numbers_eq-lengths (x ∷ xs) [] h = refl
numbers_eq-lengths (x ∷ xs) (y ∷ ys) h = and_false (nat_eq x y) ∙ ap (λ b. nat_eq x y && b) (numbers_eq-lengths xs ys (λ e. h (ap suc e)))

-- what is left of two lists from the position i on
numbers_eq-step : (xs ys : List ℕ) (i : ℕ) → i < length xs → i < length ys →
    numbers_eq (drop i xs) (drop i ys) ≡ (nat_eq (get_or xs i 0) (get_or ys i 0) && numbers_eq (drop (i + 1) xs) (drop (i + 1) ys))
numbers_eq-step xs ys i g h =
    at_drop_more (λ x. numbers_eq x (drop i ys)) xs i 0 g ∙ at_drop_more (λ y. numbers_eq (get_or xs i 0 ∷ drop (i + 1) xs) y) ys i 0 h

pub numbers_eq-more : (xs ys : List ℕ) (i : ℕ) → i < length xs → i < length ys → get_or xs i 0 ≡ get_or ys i 0 →
    numbers_eq (drop i xs) (drop i ys) ≡ numbers_eq (drop (i + 1) xs) (drop (i + 1) ys)
numbers_eq-more xs ys i g h e =
    numbers_eq-step xs ys i g h ∙ ap (λ b. b && numbers_eq (drop (i + 1) xs) (drop (i + 1) ys)) (eq-eqb (get_or xs i 0) (get_or ys i 0) e)

pub numbers_eq-differ : (xs ys : List ℕ) (i : ℕ) → i < length xs → i < length ys → get_or xs i 0 ≢ get_or ys i 0 → numbers_eq (drop i xs) (drop i ys) ≡ false
numbers_eq-differ xs ys i g h e =
    numbers_eq-step xs ys i g h ∙ ap (λ b. b && numbers_eq (drop (i + 1) xs) (drop (i + 1) ys)) (ne_eqb (get_or xs i 0) (get_or ys i 0) e)

pub numbers_eq-end : (xs ys : List ℕ) (i : ℕ) → length xs ≤ i → length ys ≤ i → numbers_eq (drop i xs) (drop i ys) ≡ true
numbers_eq-end xs ys i g h = ap (λ x. numbers_eq x (drop i ys)) (drop_all i xs g) ∙ ap (numbers_eq []) (drop_all i ys h)
