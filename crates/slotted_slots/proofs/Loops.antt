-- What holds where a loop has gone through a whole list.
use Rattle.std.proofs.Common.{◌≡◌, ℕ, ◌+◌, ◌<◌, ◌≤◌, Bool, true, false, List, [], ◌∷◌, ◌++◌, length, drop, get_or, append_assoc, add-one, sym, ap, ◌∙◌}
use Rattle.std.specs.Prelude.{◌&&◌}
use Rattle.std.specs.List.{filter, list_all}
use Rattle.std.proofs.Math.Seq.{drop-cons}
use Rattle.std.proofs.lemmas.List.{append-nil, drop_all}
use Rattle.slotted_lists.proofs.Lists.{filter-no as fails}

-- what was gathered is what the whole list gives, since nothing is left
pub gathered_all : {X Y : Type 0} (f : List Y → List X) → f [] ≡ [] → (acc : List X) (xs : List Y) (i : ℕ) → length xs ≤ i → acc ++ f (drop i xs) ≡ f xs → acc ≡ f xs
gathered_all f nil acc xs i le so_far =
    sym (append-nil acc) ∙ (ap (λ r. acc ++ r) (sym (ap f (drop_all i xs le) ∙ nil)) ∙ so_far)

-- a state that the rest of the list takes to the end is the end
pub folded_all : {S Y : Type 0} (f : S → List Y → S) → ((s : S) → f s [] ≡ s) → (s end : S) (xs : List Y) (i : ℕ) → length xs ≤ i → f s (drop i xs) ≡ end → s ≡ end
folded_all f nil s end xs i le so_far = sym (ap (f s) (drop_all i xs le) ∙ nil s) ∙ so_far

-- an element and the rest after it
pub next_element : {X : Type 0} (xs : List X) (i : ℕ) (x : X) → i < length xs → x ≡ get_or xs i x → drop i xs ≡ x ∷ drop (i + 1) xs
next_element xs i x le is = drop-cons xs i x le ∙ (λ t. sym is t ∷ drop (sym (add-one i) t) xs)

-- one more element was gathered
pub gathered_one : {X Y : Type 0} (f : List Y → List X) (acc next : List X) (x : X) (xs : List Y) (i : ℕ) (y : Y) → f (y ∷ drop (i + 1) xs) ≡ x ∷ f (drop (i + 1) xs) → i < length xs → y ≡ get_or xs i y → next ≡ acc ++ x ∷ [] → next ++ f (drop (i + 1) xs) ≡ acc ++ f (drop i xs)
gathered_one f acc next x xs i y gives le is put =
    ap (λ l. l ++ f (drop (i + 1) xs)) put
    ∙ (append_assoc acc (x ∷ []) (f (drop (i + 1) xs)) ∙ ap (λ l. acc ++ l) (sym (ap f (next_element xs i y le is) ∙ gives)))

-- one more element was passed over
pub passed_over : {X Y : Type 0} (f : List Y → List X) (acc next : List X) (xs : List Y) (i : ℕ) (y : Y) → f (y ∷ drop (i + 1) xs) ≡ f (drop (i + 1) xs) → i < length xs → y ≡ get_or xs i y → next ≡ acc → next ++ f (drop (i + 1) xs) ≡ acc ++ f (drop i xs)
passed_over f acc next xs i y lacks le is same =
    ap (λ l. l ++ f (drop (i + 1) xs)) same ∙ ap (λ l. acc ++ l) (sym (ap f (next_element xs i y le is) ∙ lacks))

-- one more element was left out
pub left_out : {X : Type 0} (p : X → Bool) (acc next xs : List X) (i : ℕ) (x : X) → p x ≡ false → i < length xs → x ≡ get_or xs i x → next ≡ acc → next ++ filter p (drop (i + 1) xs) ≡ acc ++ filter p (drop i xs)
left_out p acc next xs i x lacks le is same = passed_over (filter p) acc next xs i x (fails p x (drop (i + 1) xs) lacks) le is same

-- one more element passed a test on all
pub passed_one : {X : Type 0} (p : X → Bool) (xs : List X) (i : ℕ) (x : X) → p x ≡ true → i < length xs → x ≡ get_or xs i x → list_all p (drop (i + 1) xs) ≡ list_all p (drop i xs)
passed_one p xs i x holds le is =
    sym (ap (list_all p) (next_element xs i x le is) ∙ ap (λ (b : Bool). b && list_all p (drop (i + 1) xs)) holds)
