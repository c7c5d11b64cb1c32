-- An outline whose children have a mark of their own becomes the skeleton, place by place.
use Rattle.std.proofs.Common.{◌≡◌, ◌≢◌, ℕ, zero, suc, ◌+◌, ◌<◌, ◌≤◌, List, [], ◌∷◌, ◌++◌, length, map, take, drop, cond, sym, ◌∙◌, ap, refl, arith, get_or, slice_index, append_assoc, length-take}
use Rattle.std.specs.Prelude.{slice_set}
use Rattle.std.proofs.lemmas.Bool.{eq-eqb, ne_eqb}
use Rattle.std.proofs.lemmas.List.{append-nil, drop_more, get_or-append-add, length-map, map-append, map_push, take_all, take_more}
use Rattle.std.proofs.Math.Seq.{set-append_seam}
use Rattle.slotted_lists.proofs.Members.{In, In-take, In-drop}
use Rattle.slotted_nodes.specs.Form.{Form, Tree, leaf, own, child, bind, scopes, with_name}
use Rattle.slotted_languages.specs.Outline.{child_mark, marks, outlined, outlined_form, outlined_names, skeleton_form}
use Rattle.slotted_languages.proofs.NodeTerms.{own_fits, child_rest_fits, bind_inner_fits, bind_rest_fits}
use Rattle.slotted_matching.specs.KeyRows.{blanked, blanked_form}
use Rattle.slotted_matching.proofs.KeyNames.{In-first}

-- the form with such names at its first i places
abbrev pub blanked_to : ℕ → Form → ℕ → Form
blanked_to v f i = record f { names = map (blanked v) (take i f.names) ++ drop i f.names }

with-names : (f : Form) (xs ys : List ℕ) → xs ≡ ys → ◌≡◌ {A = Form} (record f { names = xs }) (record f { names = ys })
with-names f xs ys e = λ i. record f { names = e i }

pub blanked_to-none : (v : ℕ) (f : Form) → f ≡ blanked_to v f 0
blanked_to-none v f = refl

long : (v : ℕ) (xs : List ℕ) (i : ℕ) → i ≤ length xs → length (map (blanked v) (take i xs)) ≡ i
long v xs i h = length-map (take i xs) (blanked v) ∙ omega (arith, h, length-take i xs)

-- the next place is as it was
pub blanked_to-at : (v : ℕ) (f : Form) (i : ℕ) → i < length f.names → slice_index (blanked_to v f i).names i ≡ slice_index f.names i
blanked_to-at v f i h =
    let xs = f.names in
    let before = map (blanked v) (take i xs) in
    let n : length before + 0 ≡ i = omega (arith, h, long v xs i (omega (arith, h))) in
    ap (λ l. slice_index (before ++ l) i) (drop_more xs i 0 h)
    ∙ (ap (slice_index (before ++ (get_or xs i 0 ∷ drop (i + 1) xs))) (sym n) ∙ get_or-append-add before (get_or xs i 0 ∷ drop (i + 1) xs) 0 0)

pub blanked_to-more : (v : ℕ) (f : Form) (i : ℕ) → i < length f.names → with_name (blanked_to v f i) i (blanked v (slice_index f.names i)) ≡ blanked_to v f (i + 1)
blanked_to-more v f i h =
    let xs = f.names in
    let x : ℕ = get_or xs i 0 in
    let before = map (blanked v) (take i xs) in
    let rest = drop (i + 1) xs in
    let n : i ≡ length before = sym (long v xs i (omega (arith, h))) in
    let e : slice_set (before ++ drop i xs) i (blanked v x) ≡ map (blanked v) (take (i + 1) xs) ++ rest =
    ap (λ l. slice_set (before ++ l) i (blanked v x)) (drop_more xs i 0 h)
    ∙ (ap (λ m. slice_set (before ++ (x ∷ rest)) m (blanked v x)) n
    ∙ (set-append_seam before x rest (blanked v x)
    ∙ (sym (append_assoc before (blanked v x ∷ []) rest)
    ∙ ap (λ l. l ++ rest) (sym (map_push (blanked v) (take i xs) x) ∙ ap (map (blanked v)) (sym (take_more xs i 0 h)))))) in
    with-names f (slice_set (before ++ drop i xs) i (blanked v x)) (map (blanked v) (take (i + 1) xs) ++ rest) e

pub blanked_to-all : (v : ℕ) (f : Form) (i : ℕ) → length f.names ≤ i → blanked_to v f i ≡ blanked_form v f
blanked_to-all v f i h =
    let xs = f.names in
    with-names f (map (blanked v) (take i xs) ++ drop i xs) (map (blanked v) xs)
    ((λ j. map (blanked v) (take_all i xs h j) ++ drop_all i xs h j) ∙ append-nil (map (blanked v) xs))
  where
    drop_all : (i : ℕ) (xs : List ℕ) → length xs ≤ i → drop i xs ≡ []
    drop_all zero [] h = refl
    drop_all (suc i) [] h = refl
    drop_all zero (x ∷ xs) h = absurd (omega (arith, h))
    drop_all (suc i) (x ∷ xs) h = drop_all i xs (omega (arith, h))

-- marks at children, and nothing else is the mark
mark-is : (v : ℕ) → blanked v v ≡ child_mark
mark-is v = ap (λ b. cond b child_mark 0) (eq-eqb v v refl)

other-is : (v x : ℕ) → x ≢ v → blanked v x ≡ 0
other-is v x n = ap (λ b. cond b child_mark 0) (ne_eqb x v n)

blanked-marks : (v : ℕ) (u : Tree) (xs : List ℕ) → length xs ≡ length (scopes u) → ¬ In v xs → map (blanked v) (outlined_names v u xs) ≡ marks u
blanked-marks v leaf xs n a = refl
blanked-marks v (own r) xs n a =
    let first : slice_index xs 0 ≢ v = λ e. a (In-first xs v (length (scopes r)) n (sym e)) in
    λ i. other-is v (slice_index xs 0) first i ∷ blanked-marks v r (drop 1 xs) (own_fits r xs n) (λ j. a (In-drop 1 xs v j)) i
blanked-marks v (child i ks r) xs n a =
    λ j. mark-is v j ∷ blanked-marks v r (drop (length ks) xs) (child_rest_fits i ks r xs n) (λ k. a (In-drop (length ks) xs v k)) j
blanked-marks v (bind u r) xs n a =
    let m = length (scopes u) in
    let us = take m (drop 1 xs) in
    let rs = drop m (drop 1 xs) in
    let first : slice_index xs 0 ≢ v = λ e. a (In-first xs v (length (scopes u ++ scopes r)) n (sym e)) in
    let both : map (blanked v) (outlined_names v u us ++ outlined_names v r rs) ≡ marks u ++ marks r =
    map-append (blanked v) (outlined_names v u us) (outlined_names v r rs)
    ∙ (λ i. blanked-marks v u us (bind_inner_fits u r xs n) (λ j. a (In-drop 1 xs v (In-take m (drop 1 xs) v j))) i
    ++ blanked-marks v r rs (bind_rest_fits u r xs n) (λ j. a (In-drop 1 xs v (In-drop m (drop 1 xs) v j))) i) in
    λ i. other-is v (slice_index xs 0) first i ∷ both i

pub blanked-outline : (v : ℕ) (f : Form) → length f.names ≡ length (scopes f.tree) → ¬ In v f.names → blanked_form v (outlined_form v f) ≡ skeleton_form f
blanked-outline v f n a = λ i. record f { tree = outlined f.tree; names = blanked-marks v f.tree f.names n a i }
