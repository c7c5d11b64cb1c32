-- What the parts of a row are after one more place.
use Rattle.std.proofs.Common.{◌≡◌, ◌≢◌, ℕ, ◌+◌, ◌<◌, ◌≤◌, List, [], ◌∷◌, ◌++◌, length, take, drop, map, cond, sym, ◌∙◌, ap, refl, subst, inl, inr, arith, get_or, slice_index}
use Rattle.std.specs.Prelude.{Contains, not, nat_eq}
use Rattle.std.proofs.lemmas.Bool.{ne_eqb, eq-eqb}
use Rattle.std.proofs.lemmas.List.{take_more, length-map, get_or-map}
use Rattle.std.proofs.lemmas.List.Elements.{Contains-push_cases, filter-append}
use Rattle.slotted_lists.proofs.Members.{In, In-take, In-drop}
use Rattle.slotted_nodes.specs.Form.{Form, Tree, leaf, own, child, bind, scopes, children}
use Rattle.slotted_languages.specs.Outline.{outlined_names}
use Rattle.slotted_languages.proofs.NodeTerms.{own_fits, child_rest_fits, bind_inner_fits, bind_rest_fits}
use Rattle.slotted_model.specs.Applied.{Applied, keys, values, renamed_id}
use Rattle.slotted_model_rules.specs.Goals.{own_names}
use Rattle.slotted_classes.specs.ChildIds.{child_ids}
use Rattle.slotted_classes.proofs.ChildIds.{child_is, child_with_keys, length-ids}
use Rattle.slotted_nodes.specs.Form.{child_names}
use Rattle.slotted_rule_patterns.specs.NodeArguments.{args_of}
use Rattle.slotted_match_machine.specs.Index.{OneByOne}
use Rattle.slotted_matching.specs.KeyRows.{slot_number, unmarked, own_numbers, numbered_ids}
use Rattle.slotted_matching.proofs.KeyNames.{In-first}

-- the names so far have numbers below a count
pub covers-more : (xs : List ℕ) (i m n : ℕ) → i < length xs → ((x : ℕ) → Contains (take i xs) x → slot_number x < m) → m ≤ n → slot_number (get_or xs i 0) < n →
    (x : ℕ) → Contains (take (i + 1) xs) x → slot_number x < n
covers-more xs i m n h covers le lt x c = elim (Contains-push_cases (take i xs) (get_or xs i 0) x (subst (λ l. Contains l x) (take_more xs i 0 h) c)) [
  | inl k ↦ omega (arith, covers x k, le)
  | inr e ↦ subst (λ y. slot_number y < n) e lt
]

pub OneByOne-push : {A B : Type 0} (P : A → B → Type 0) (xs : List A) (ys : List B) (x : A) (y : B) → OneByOne P xs ys → P x y → OneByOne P (xs ++ x ∷ []) (ys ++ y ∷ [])
OneByOne-push P [] [] x y h p = (p, tt)
OneByOne-push P [] (b ∷ ys) x y h p = absurd h
OneByOne-push P (a ∷ xs) [] x y h p = absurd h
OneByOne-push P (a ∷ xs) (b ∷ ys) x y h p = (h.0, OneByOne-push P xs ys x y h.1 p)

-- one child more
pub ids-more : {B : Type 0} (P : Applied → B → Type 0) (f : Form) (k : ℕ) (a : Applied) (ys : List B) (y : B) → k < length (children f.tree) → a.0 ≡ (child_with_keys f.tree k).0 → keys a.1 ≡ (child_with_keys f.tree k).1 →
    values a.1 ≡ child_names f k → OneByOne P (take k (numbered_ids f)) ys → P (renamed_id slot_number a) y → OneByOne P (take (k + 1) (numbered_ids f)) (ys ++ y ∷ [])
ids-more P f k a ys y h id ks vs so p =
    let d : Applied = (0, []) in
    let many : length (child_ids f) ≡ length (children f.tree) = length-ids f.tree f.names in
    let l : k < length (child_ids f) = omega (arith, h, many) in
    let w : k < length (numbered_ids f) = omega (arith, l, length-map (child_ids f) (renamed_id slot_number)) in
    let at : renamed_id slot_number a ≡ get_or (numbered_ids f) k d =
    ap (renamed_id slot_number) (child_is f k d a h id ks vs) ∙ sym (get_or-map (renamed_id slot_number) (child_ids f) k d d l) in
    subst (λ xs. OneByOne P xs (ys ++ y ∷ [])) (ap (λ x. take k (numbered_ids f) ++ x ∷ []) at ∙ sym (take_more (numbered_ids f) k d w))
    (OneByOne-push P (take k (numbered_ids f)) ys (renamed_id slot_number a) y so p)

-- the names of an outline, without the mark
marked-first : (v : ℕ) (xs : List ℕ) → unmarked v (v ∷ xs) ≡ unmarked v xs
marked-first v xs = ap (λ b. cond (not b) (v ∷ unmarked v xs) (unmarked v xs)) (eq-eqb v v refl)

other-first : (v x : ℕ) (xs : List ℕ) → x ≢ v → unmarked v (x ∷ xs) ≡ x ∷ unmarked v xs
other-first v x xs n = ap (λ b. cond (not b) (x ∷ unmarked v xs) (unmarked v xs)) (ne_eqb x v n)

unmarked-append : (v : ℕ) (xs ys : List ℕ) → unmarked v (xs ++ ys) ≡ unmarked v xs ++ unmarked v ys
unmarked-append v xs ys = filter-append (λ x. not (nat_eq x v)) xs ys

unmarked-tree : (v : ℕ) (u : Tree) (xs : List ℕ) → length xs ≡ length (scopes u) → ¬ In v xs → unmarked v (outlined_names v u xs) ≡ own_names (args_of u xs)
unmarked-tree v leaf xs n a = refl
unmarked-tree v (own r) xs n a =
    let first : slice_index xs 0 ≢ v = λ e. a (In-first xs v (length (scopes r)) n (sym e)) in
    other-first v (slice_index xs 0) (outlined_names v r (drop 1 xs)) first
    ∙ ap (λ l. slice_index xs 0 ∷ l) (unmarked-tree v r (drop 1 xs) (own_fits r xs n) (λ i. a (In-drop 1 xs v i)))
unmarked-tree v (child i ks r) xs n a =
    marked-first v (outlined_names v r (drop (length ks) xs))
    ∙ unmarked-tree v r (drop (length ks) xs) (child_rest_fits i ks r xs n) (λ j. a (In-drop (length ks) xs v j))
unmarked-tree v (bind u r) xs n a =
    let m = length (scopes u) in
    let us = take m (drop 1 xs) in
    let rs = drop m (drop 1 xs) in
    let first : slice_index xs 0 ≢ v = λ e. a (In-first xs v (length (scopes u ++ scopes r)) n (sym e)) in
    other-first v (slice_index xs 0) (outlined_names v u us ++ outlined_names v r rs) first
    ∙ ap (λ l. slice_index xs 0 ∷ l)
    (unmarked-append v (outlined_names v u us) (outlined_names v r rs)
    ∙ (λ i. unmarked-tree v u us (bind_inner_fits u r xs n) (λ j. a (In-drop 1 xs v (In-take m (drop 1 xs) v j))) i
    ++ unmarked-tree v r rs (bind_rest_fits u r xs n) (λ j. a (In-drop 1 xs v (In-drop m (drop 1 xs) v j))) i))

pub unmarked-own : (v : ℕ) (f : Form) → length f.names ≡ length (scopes f.tree) → ¬ In v f.names → map slot_number (unmarked v (outlined_names v f.tree f.names)) ≡ own_numbers f
unmarked-own v f n a = ap (map slot_number) (unmarked-tree v f.tree f.names n a)
