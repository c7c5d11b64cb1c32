-- The test of a term: its own places are known, and its children are terms that pass.
use Rattle.std.proofs.Common.{◌≡◌, ◌<◌, ◌≤◌, ◌⊎◌, ℕ, zero, suc, ◌+◌, ◌-◌, List, [], ◌∷◌, length, take, drop, get_or, cond, sym, ◌∙◌, ap, refl, subst, arith, inl, inr, length-append}
use Rattle.std.specs.Prelude.{IsTrue}
use Rattle.std.proofs.lemmas.Bool.{lt-ltb, le-ltb, cases_lt}
use Rattle.slotted_lists.proofs.Each.{Each, Each-take, Each-drop}
use Rattle.slotted_theory.specs.Term.{Term}
use Rattle.slotted_slots.specs.Table.{Table, is_known}
use Rattle.slotted_nodes.specs.Form.{Form, Tree, leaf, own, child, bind, scopes, children, child_place, width}
use Rattle.slotted_nodes.specs.Joined.{child_fits}
use Rattle.slotted_languages.specs.Filled.{filled, term_of}
use Rattle.slotted_languages.specs.Shape.{Fits}
use Rattle.slotted_languages.proofs.NodeTerms.{child_rest_fits}
use Rattle.slotted_terms.specs.Valid.{IsWhole, HasKnownNames, IsValidTerm}
use Rattle.slotted_operations.specs.Nodes.{IsChildPlace}
use Rattle.slotted_operations.specs.SmallNodes.{HasSmallNodes, HasSmallParts}
use Rattle.slotted_operations.proofs.TermsOverIds.Children.{at-left, at-right}
use Rattle.slotted_operations.proofs.TermsOverIds.Layers.{Each-parts, length-parts}

get-none : (j : ℕ) → ◌≡◌ {A = ℕ} (get_or [] j 0) 0
get-none zero = refl
get-none (suc j) = refl

get-drop : (n : ℕ) (xs : List ℕ) (i : ℕ) → get_or (drop n xs) i 0 ≡ get_or xs (n + i) 0
get-drop zero xs i = let e : i ≡ 0 + i = omega arith in ap (λ k. get_or xs k 0) e
get-drop (suc n) [] i = get-none i ∙ sym (get-none (suc n + i))
get-drop (suc n) (x ∷ xs) i = let e : suc (n + i) ≡ suc n + i = omega arith in get-drop n xs i ∙ ap (λ k. get_or (x ∷ xs) k 0) e

get-take : (n : ℕ) (xs : List ℕ) (i : ℕ) → i < n → get_or (take n xs) i 0 ≡ get_or xs i 0
get-take zero xs i l = absurd (omega arith)
get-take (suc n) [] i l = refl
get-take (suc n) (x ∷ xs) zero l = refl
get-take (suc n) (x ∷ xs) (suc i) l = get-take n xs i (omega arith)

drop_bound : (n : ℕ) (xs : List ℕ) (i : ℕ) → i < length (drop n xs) → n + i < length xs
drop_bound zero xs i l = omega arith
drop_bound (suc n) [] i l = absurd (omega arith)
drop_bound (suc n) (x ∷ xs) i l = omega (arith, drop_bound n xs i l)

take_count : {X : Type 0} (c r : ℕ) (xs : List X) → length xs ≡ c + r → length (take c xs) ≡ c
take_count zero r xs e = refl
take_count (suc c) r [] e = absurd (omega (arith, e))
take_count (suc c) r (x ∷ xs) e = ap suc (take_count c r xs (omega (arith, e)))

-- where a child stands under a binder

place-left : (u r : Tree) (k : ℕ) → k < length (children u) → (child_place (bind u r) k ≡ suc (child_place u k)) × (width (bind u r) k ≡ width u k)
place-left u r k l = (
  ap (λ b. cond b (suc (child_place u k)) (suc (length (scopes u) + child_place r (k - length (children u))))) (lt-ltb k (length (children u)) l),
  ap (λ (z : ℕ × List ℕ). length z.1) (at-left (children u) (children r) k (0, []) l),
)

place-right : (u r : Tree) (k : ℕ) → length (children u) ≤ k → (child_place (bind u r) k ≡ suc (length (scopes u) + child_place r (k - length (children u)))) × (width (bind u r) k ≡ width r (k - length (children u)))
place-right u r k g = (
  ap (λ b. cond b (suc (child_place u k)) (suc (length (scopes u) + child_place r (k - length (children u))))) (le-ltb k (length (children u)) g),
  ap (λ (z : ℕ × List ℕ). length z.1) (at-right (children u) (children r) k (0, []) g),
)

no_first : (u r : Tree) → ¬ IsChildPlace (bind u r) 0
no_first u r p = elim (cases_lt p.0 (length (children u))) [
  | inl l ↦ omega (arith, p.2, (place-left u r p.0 l).0)
  | inr g ↦ omega (arith, p.2, (place-right u r p.0 g).0)
]

inner_place : (u r : Tree) (i : ℕ) → i < length (scopes u) → IsChildPlace (bind u r) (suc i) → IsChildPlace u i
inner_place u r i m p = elim (cases_lt p.0 (length (children u))) [
  | inl l ↦ let q = place-left u r p.0 l in (p.0, l, omega (arith, p.2, q.0), omega (arith, p.3, q.0, q.1))
  | inr g ↦ absurd (omega (arith, m, p.2, (place-right u r p.0 g).0))
]

rest_place : (u r : Tree) (i : ℕ) → IsChildPlace (bind u r) (suc (length (scopes u) + i)) → IsChildPlace r i
rest_place u r i p = elim (cases_lt p.0 (length (children u))) [
  | inl l ↦ let q = place-left u r p.0 l in absurd (omega (arith, p.3, q.0, q.1, child_fits u p.0 l))
  | inr g ↦
      let q = place-right u r p.0 g in
      (p.0 - length (children u), omega (arith, p.1, g, length-append (children u) (children r)), omega (arith, p.2, q.0), omega (arith, p.3, q.0, q.1))
]

later_place : (j : ℕ) (ks : List ℕ) (r : Tree) (i : ℕ) → IsChildPlace (child j ks r) (length ks + i) → IsChildPlace r i
later_place j ks r i (zero, l, a, b) = absurd (omega (arith, b))
later_place j ks r i (suc k, l, a, b) = (k, omega (arith, l), omega (arith, a), omega (arith, b))

-- places outside children are known, and children have known names
pub known_filled : (t : Table) (tree : Tree) (xs : List ℕ) → length xs ≡ length (scopes tree) → ((i : ℕ) → i < length xs → IsChildPlace tree i ⊎ IsTrue (is_known t (get_or xs i 0))) → (us : List Term) → length us ≡ length (children tree) → Each (λ (u : Term). HasKnownNames t u.args) us → HasKnownNames t (filled tree xs us)
known_filled t leaf xs n p [] c h = tt
known_filled t leaf xs n p (u ∷ us) c h = absurd (omega (arith, c))
known_filled t (own r) [] n p us c h = absurd (omega (arith, n))
known_filled t (own r) (x ∷ xs) n p us c h = (
  elim (p 0 (omega arith)) [ inl q ↦ absurd (omega (arith, q.2)) | inr k ↦ k ],
  known_filled t r xs (omega (arith, n)) (λ i l. elim (p (suc i) (omega arith)) [ inl q ↦ inl (q.0, q.1, omega (arith, q.2), omega (arith, q.3)) | inr k ↦ inr k ]) us c h,
)
known_filled t (child j ks r) xs n p [] c h = absurd (omega (arith, c))
known_filled t (child j ks r) xs n p (u ∷ us) c h = (
  h.0,
  known_filled t r (drop (length ks) xs) (child_rest_fits j ks r xs n)
      (λ i l. elim (p (length ks + i) (drop_bound (length ks) xs i l)) [
        | inl q ↦ inl (later_place j ks r i q)
        | inr k ↦ inr (subst (λ x. IsTrue (is_known t x)) (sym (get-drop (length ks) xs i)) k)
      ]) us (omega (arith, c)) h.1,
)
known_filled t (bind u r) [] n p us c h = absurd (omega (arith, n))
known_filled t (bind u r) (x ∷ ys) n p us c h =
    let m = length (scopes u) in
    let k = length (children u) in
    let nn : length ys ≡ m + length (scopes r) = omega (arith, n, length-append (scopes u) (scopes r)) in
    let cs : length us ≡ k + length (children r) = omega (arith, c, length-append (children u) (children r)) in
    let lt : length (take m ys) ≡ m = take_count m (length (scopes r)) ys nn in
    let lk : length (take k us) ≡ k = take_count k (length (children r)) us cs in (
      elim (p 0 (omega arith)) [ inl q ↦ absurd (no_first u r q) | inr a ↦ a ],
      known_filled t u (take m ys) lt
          (λ i l. elim (p (suc i) (omega (arith, l, lt, nn))) [
            | inl q ↦ inl (inner_place u r i (omega (arith, l, lt)) q)
            | inr a ↦ inr (subst (λ z. IsTrue (is_known t z)) (sym (get-take m ys i (omega (arith, l, lt)))) a)
          ]) (take k us) lk (Each-take (λ (v : Term). HasKnownNames t v.args) k us h),
      known_filled t r (drop m ys) (omega (arith, lt, nn, length-parts m ys))
          (λ i l. elim (p (suc (m + i)) (omega (arith, l, lt, length-parts m ys))) [
            | inl q ↦ inl (rest_place u r i q)
            | inr a ↦ inr (subst (λ z. IsTrue (is_known t z)) (sym (get-drop m ys i)) a)
          ]) (drop k us) (omega (arith, lk, cs, length-parts k us)) (Each-drop (λ (v : Term). HasKnownNames t v.args) k us h),
    )

-- a node with the right number of children, which are whole, is whole
pub whole_filled : (tree : Tree) (xs : List ℕ) (us : List Term) → length us ≡ length (children tree) → Each (λ (u : Term). (0 < u.op) × IsWhole u.args) us → IsWhole (filled tree xs us)
whole_filled leaf xs [] c h = tt
whole_filled leaf xs (u ∷ us) c h = absurd (omega (arith, c))
whole_filled (own r) xs us c h = whole_filled r (drop 1 xs) us c h
whole_filled (child j ks r) xs [] c h = absurd (omega (arith, c))
whole_filled (child j ks r) xs (u ∷ us) c h = (h.0.0, h.0.1, whole_filled r (drop (length ks) xs) us (omega (arith, c)) h.1)
whole_filled (bind u r) xs us c h =
    let k = length (children u) in
    let cs : length us ≡ k + length (children r) = omega (arith, c, length-append (children u) (children r)) in
    let lk : length (take k us) ≡ k = take_count k (length (children r)) us cs in (
      whole_filled u (take (length (scopes u)) (drop 1 xs)) (take k us) lk (Each-take (λ (v : Term). (0 < v.op) × IsWhole v.args) k us h),
      whole_filled r (drop (length (scopes u)) (drop 1 xs)) (drop k us) (omega (arith, lk, cs, length-parts k us)) (Each-drop (λ (v : Term). (0 < v.op) × IsWhole v.args) k us h),
    )

pub Each-from : {X : Type 0} (P : X → Type 0) (xs : List X) → ((j : ℕ) (d : X) → j < length xs → P (get_or xs j d)) → Each P xs
Each-from P [] h = tt
Each-from P (x ∷ xs) h = (h 0 x (omega arith), Each-from P xs (λ j d l. h (suc j) d (omega arith)))

pub Each-of : {X : Type 0} (P Q : X → Type 0) → ((x : X) → P x → Q x) → (xs : List X) → Each P xs → Each Q xs
Each-of P Q f [] h = tt
Each-of P Q f (x ∷ xs) h = (f x h.0, Each-of P Q f xs h.1)

-- a node with known own places, over the right number of valid terms
pub valid_term : (t : Table) (f : Form) (us : List Term) → Fits f → length us ≡ length (children f.tree) → ((i : ℕ) → i < length f.names → IsChildPlace f.tree i ⊎ IsTrue (is_known t (get_or f.names i 0))) → ((j : ℕ) (d : Term) → j < length us → (0 < (get_or us j d).op) × IsValidTerm t (get_or us j d)) → IsValidTerm t (term_of f us)
valid_term t f us fits c p h =
    let each : Each (λ (u : Term). (0 < u.op) × IsValidTerm t u) us = Each-from (λ (u : Term). (0 < u.op) × IsValidTerm t u) us h in
    record {
      whole = whole_filled f.tree f.names us c (Each-of (λ (u : Term). (0 < u.op) × IsValidTerm t u) (λ (u : Term). (0 < u.op) × IsWhole u.args) (λ u v. (v.0, v.1.whole)) us each);
      known = known_filled t f.tree f.names fits p us c (Each-of (λ (u : Term). (0 < u.op) × IsValidTerm t u) (λ (u : Term). HasKnownNames t u.args) (λ u v. v.1.known) us each);
    }

-- the reverse: what holds of the parts of a valid term

drop_back : (n : ℕ) (xs : List ℕ) (i : ℕ) → n + i < length xs → i < length (drop n xs)
drop_back zero xs i l = omega (arith, l)
drop_back (suc n) [] i l = absurd (omega (arith, l))
drop_back (suc n) (x ∷ xs) i l = drop_back n xs i (omega (arith, l))

inner_back : (u r : Tree) (i : ℕ) → IsChildPlace u i → IsChildPlace (bind u r) (suc i)
inner_back u r i p =
    let q = place-left u r p.0 p.1 in
    (p.0, omega (arith, p.1, length-append (children u) (children r)), omega (arith, p.2, q.0), omega (arith, p.3, q.0, q.1))

rest_back : (u r : Tree) (i : ℕ) → length (scopes u) ≤ i → IsChildPlace r (i - length (scopes u)) → IsChildPlace (bind u r) (suc i)
rest_back u r i g p =
    let k = length (children u) + p.0 in
    let e : k - length (children u) ≡ p.0 = omega arith in
    let q = place-right u r k (omega arith) in
    let c : child_place (bind u r) k ≡ suc (length (scopes u) + child_place r p.0) = q.0 ∙ ap (λ z. suc (length (scopes u) + child_place r z)) e in
    let w : width (bind u r) k ≡ width r p.0 = q.1 ∙ ap (width r) e in
    (k, omega (arith, p.1, length-append (children u) (children r)), omega (arith, p.2, c, g), omega (arith, p.3, c, w, g))

-- at each place of a term with known names stands a child or a known name
pub filled_known : (t : Table) (tree : Tree) (xs : List ℕ) → length xs ≡ length (scopes tree) → (us : List Term) → length us ≡ length (children tree) → HasKnownNames t (filled tree xs us) → (i : ℕ) → i < length xs → IsChildPlace tree i ⊎ IsTrue (is_known t (get_or xs i 0))
filled_known t leaf xs n us c h i l = absurd (omega (arith, n, l))
filled_known t (own r) [] n us c h i l = absurd (omega (arith, l))
filled_known t (own r) (x ∷ xs) n us c h zero l = inr h.0
filled_known t (own r) (x ∷ xs) n us c h (suc i) l = elim (filled_known t r xs (omega (arith, n)) us c h.1 i (omega (arith, l))) [
  | inl q ↦ inl (q.0, q.1, omega (arith, q.2), omega (arith, q.3))
  | inr k ↦ inr k
]
filled_known t (child j ks r) xs n [] c h i l = absurd (omega (arith, c))
filled_known t (child j ks r) xs n (u ∷ us) c h i l = elim (cases_lt i (length ks)) [
  | inl m ↦ inl (0, omega arith, omega arith, omega (arith, m))
  | inr g ↦
      let e : length ks + (i - length ks) ≡ i = omega (arith, g) in
      elim (filled_known t r (drop (length ks) xs) (child_rest_fits j ks r xs n) us (omega (arith, c)) h.1 (i - length ks) (drop_back (length ks) xs (i - length ks) (omega (arith, e, l)))) [
        | inl q ↦ inl (suc q.0, omega (arith, q.1), omega (arith, q.2, g), omega (arith, q.3, g))
        | inr k ↦ inr (subst (λ x. IsTrue (is_known t x)) (get-drop (length ks) xs (i - length ks) ∙ ap (λ z. get_or xs z 0) e) k)
      ]
]
filled_known t (bind u r) [] n us c h i l = absurd (omega (arith, l))
filled_known t (bind u r) (x ∷ ys) n us c h zero l = inr h.0
filled_known t (bind u r) (x ∷ ys) n us c h (suc i) l =
    let m = length (scopes u) in
    let k = length (children u) in
    let nn : length ys ≡ m + length (scopes r) = omega (arith, n, length-append (scopes u) (scopes r)) in
    let cs : length us ≡ k + length (children r) = omega (arith, c, length-append (children u) (children r)) in
    let lt : length (take m ys) ≡ m = take_count m (length (scopes r)) ys nn in
    let lk : length (take k us) ≡ k = take_count k (length (children r)) us cs in
    elim (cases_lt i m) [
      | inl b ↦
          elim (filled_known t u (take m ys) lt (take k us) lk h.1 i (omega (arith, b, lt))) [
            | inl q ↦ inl (inner_back u r i q)
            | inr a ↦ inr (subst (λ z. IsTrue (is_known t z)) (get-take m ys i b) a)
          ]
      | inr g ↦
          let e : m + (i - m) ≡ i = omega (arith, g) in
          elim (filled_known t r (drop m ys) (omega (arith, lt, nn, length-parts m ys)) (drop k us) (omega (arith, lk, cs, length-parts k us)) h.2 (i - m) (drop_back m ys (i - m) (omega (arith, e, l)))) [
            | inl q ↦ inl (rest_back u r i g q)
            | inr a ↦ inr (subst (λ z. IsTrue (is_known t z)) (get-drop m ys (i - m) ∙ ap (λ z. get_or ys z 0) e) a)
          ]
    ]

-- its children have known names
pub known_each : (t : Table) (tree : Tree) (xs : List ℕ) (us : List Term) → length us ≡ length (children tree) → HasKnownNames t (filled tree xs us) → Each (λ (u : Term). HasKnownNames t u.args) us
known_each t leaf xs [] c h = tt
known_each t leaf xs (u ∷ us) c h = absurd (omega (arith, c))
known_each t (own r) xs us c h = known_each t r (drop 1 xs) us c h.1
known_each t (child i ks r) xs [] c h = tt
known_each t (child i ks r) xs (u ∷ us) c h = (h.0, known_each t r (drop (length ks) xs) us (omega (arith, c)) h.1)
known_each t (bind u r) xs us c h =
    let s = length (scopes u) in
    let k = length (children u) in
    let cs : length us ≡ k + length (children r) = omega (arith, c, length-append (children u) (children r)) in
    let lk : length (take k us) ≡ k = take_count k (length (children r)) us cs in
    Each-parts (λ (z : Term). HasKnownNames t z.args) k us (known_each t u (take s (drop 1 xs)) (take k us) lk h.1)
    (known_each t r (drop s (drop 1 xs)) (drop k us) (omega (arith, lk, cs, length-parts k us)) h.2)

-- and no large nodes, if it has none
pub small_each : {A : Type 0} (form : A → Form) (tree : Tree) (xs : List ℕ) (us : List Term) → length us ≡ length (children tree) → HasSmallParts form (filled tree xs us) → Each (HasSmallNodes form) us
small_each form leaf xs [] c h = tt
small_each form leaf xs (u ∷ us) c h = absurd (omega (arith, c))
small_each form (own r) xs us c h = small_each form r (drop 1 xs) us c h
small_each form (child i ks r) xs [] c h = tt
small_each form (child i ks r) xs (u ∷ us) c h = ((h.0, h.1), small_each form r (drop (length ks) xs) us (omega (arith, c)) h.2)
small_each form (bind u r) xs us c h =
    let s = length (scopes u) in
    let k = length (children u) in
    let cs : length us ≡ k + length (children r) = omega (arith, c, length-append (children u) (children r)) in
    let lk : length (take k us) ≡ k = take_count k (length (children r)) us cs in
    Each-parts (HasSmallNodes form) k us (small_each form u (take s (drop 1 xs)) (take k us) lk h.0)
    (small_each form r (drop s (drop 1 xs)) (drop k us) (omega (arith, lk, cs, length-parts k us)) h.1)
