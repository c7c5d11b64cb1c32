-- Another child in the place of a child: the other children stay, and so does what stands beside them.
use Rattle.std.proofs.Common.{◌≡◌, ◌<◌, ◌≤◌, ℕ, zero, suc, ◌+◌, ◌-◌, List, [], ◌∷◌, ◌++◌, length, take, drop, map, cond, sym, ◌∙◌, ap, refl, arith, inl, inr, length-append, append_assoc}
use Rattle.std.specs.Prelude.{slice_index_or, slice_set, Option, None}
use Rattle.std.specs.List.{zip}
use Rattle.std.proofs.lemmas.Bool.{lt-ltb, le-ltb, cases_lt}
use Rattle.slotted_lists.proofs.Lists.{take-append, drop-append}
use Rattle.slotted_theory.specs.Term.{Args, Term, name}
use Rattle.slotted_theory.specs.Term as term
use Rattle.slotted_nodes.specs.Form.{Tree, leaf, own, child, bind, scopes, children, child_place, width, with_child_in}
use Rattle.slotted_nodes.specs.Joined.{child_fits, length_children-with_child_in}
use Rattle.slotted_languages.specs.Filled.{filled}
use Rattle.slotted_operations.specs.Nodes.{ids_in}
use Rattle.slotted_classes.proofs.ChildIds.{length-ids, drop-plus, take-take}

-- lists cut in two

take-plus : {X : Type 0} (n p : ℕ) (xs : List X) → take (n + p) xs ≡ take n xs ++ take p (drop n xs)
take-plus zero p xs = let e : 0 + p ≡ p = omega arith in ap (λ m. take m xs) e
take-plus (suc n) zero [] = let e : suc n + 0 ≡ suc n = omega arith in ap (λ m. take m []) e
take-plus (suc n) (suc p) [] = let e : suc n + suc p ≡ suc (n + suc p) = omega arith in ap (λ m. take m []) e
take-plus (suc n) p (x ∷ xs) = let e : suc n + p ≡ suc (n + p) = omega arith in ap (λ m. take m (x ∷ xs)) e ∙ ap (λ r. x ∷ r) (take-plus n p xs)

drop-take : {X : Type 0} (q m : ℕ) (xs : List X) → q ≤ m → drop q (take m xs) ++ drop m xs ≡ drop q xs
drop-take zero zero xs l = refl
drop-take zero (suc m) [] l = refl
drop-take zero (suc m) (x ∷ xs) l = ap (λ r. x ∷ r) (drop-take zero m xs (omega arith))
drop-take (suc q) zero xs l = absurd (omega arith)
drop-take (suc q) (suc m) [] l = refl
drop-take (suc q) (suc m) (x ∷ xs) l = drop-take q m xs (omega arith)

length-take : {X : Type 0} (n : ℕ) (xs : List X) → n ≤ length xs → length (take n xs) ≡ n
length-take zero xs l = refl
length-take (suc n) [] l = absurd (omega arith)
length-take (suc n) (x ∷ xs) l = ap suc (length-take n xs (omega arith))

length-drop_plus : {X : Type 0} (n : ℕ) (xs : List X) → n ≤ length xs → length (drop n xs) + n ≡ length xs
length-drop_plus zero xs l = omega arith
length-drop_plus (suc n) [] l = absurd (omega arith)
length-drop_plus (suc n) (x ∷ xs) l = omega (arith, length-drop_plus n xs (omega arith))

set-left : {X : Type 0} (xs ys : List X) (k : ℕ) (a : X) → k < length xs → slice_set (xs ++ ys) k a ≡ slice_set xs k a ++ ys
set-left [] ys k a l = absurd (omega arith)
set-left (x ∷ xs) ys zero a l = refl
set-left (x ∷ xs) ys (suc k) a l = ap (λ r. x ∷ r) (set-left xs ys k a (omega arith))

set-right : {X : Type 0} (xs ys : List X) (k : ℕ) (a : X) → slice_set (xs ++ ys) (length xs + k) a ≡ xs ++ slice_set ys k a
set-right [] ys k a = let e : 0 + k ≡ k = omega arith in ap (λ n. slice_set ys n a) e
set-right (x ∷ xs) ys k a = let e : suc (length xs) + k ≡ suc (length xs + k) = omega arith in ap (λ n. slice_set (x ∷ (xs ++ ys)) n a) e ∙ ap (λ r. x ∷ r) (set-right xs ys k a)

pub at-left : {X : Type 0} (xs ys : List X) (k : ℕ) (d : X) → k < length xs → slice_index_or (xs ++ ys) k d ≡ slice_index_or xs k d
at-left [] ys k d l = absurd (omega arith)
at-left (x ∷ xs) ys zero d l = refl
at-left (x ∷ xs) ys (suc k) d l = at-left xs ys k d (omega arith)

pub at-right : {X : Type 0} (xs ys : List X) (k : ℕ) (d : X) → length xs ≤ k → slice_index_or (xs ++ ys) k d ≡ slice_index_or ys (k - length xs) d
at-right [] ys k d l = let e : k ≡ k - 0 = omega arith in ap (λ n. slice_index_or ys n d) e
at-right (x ∷ xs) ys zero d l = absurd (omega arith)
at-right (x ∷ xs) ys (suc k) d l = let e : k - length xs ≡ suc k - suc (length xs) = omega arith in at-right xs ys k d (omega arith) ∙ ap (λ n. slice_index_or ys n d) e

-- other names in the place of w names from the place p on
abbrev cut : ℕ → ℕ → List ℕ → List ℕ → List ℕ
cut p w vs xs = take p xs ++ vs ++ drop (p + w) xs

-- the names where a child's names are replaced
abbrev pub spliced : Tree → ℕ → List ℕ → List ℕ → List ℕ
spliced t k vs xs = cut (child_place t k) (width t k) vs xs

cut-next : (p w : ℕ) (vs : List ℕ) (x : ℕ) (xs : List ℕ) → cut (suc p) w vs (x ∷ xs) ≡ x ∷ cut p w vs xs
cut-next p w vs x xs = let e : suc p + w ≡ suc (p + w) = omega arith in ap (λ n. x ∷ (take p xs ++ vs ++ drop n (x ∷ xs))) e

cut-first : (w : ℕ) (vs xs : List ℕ) → cut 0 w vs xs ≡ vs ++ drop w xs
cut-first w vs xs = let e : 0 + w ≡ w = omega arith in ap (λ n. vs ++ drop n xs) e

cut-later : (n p w : ℕ) (vs xs : List ℕ) → cut (n + p) w vs xs ≡ take n xs ++ cut p w vs (drop n xs)
cut-later n p w vs xs =
    let e : n + p + w ≡ n + (p + w) = omega arith in
    (λ i. take-plus n p xs i ++ vs ++ (ap (λ m. drop m xs) e ∙ drop-plus n (p + w) xs) i)
    ∙ (ap (λ l. l ++ drop (p + w) (drop n xs)) (append_assoc (take n xs) (take p (drop n xs)) vs)
    ∙ append_assoc (take n xs) (take p (drop n xs) ++ vs) (drop (p + w) (drop n xs)))

cut-within : (m p w : ℕ) (vs xs : List ℕ) → p + w ≤ m → cut p w vs xs ≡ cut p w vs (take m xs) ++ drop m xs
cut-within m p w vs xs l =
    (λ i. sym (take-take p m xs (omega arith)) i ++ vs ++ sym (drop-take (p + w) m xs l) i)
    ∙ sym (append_assoc (take p (take m xs) ++ vs) (drop (p + w) (take m xs)) (drop m xs))

length-cut : (p w : ℕ) (vs xs : List ℕ) → p + w ≤ length xs → length (cut p w vs xs) + w ≡ length xs + length vs
length-cut p w vs xs l =
    omega (arith, length-append (take p xs ++ vs) (drop (p + w) xs), length-append (take p xs) vs, length-take p xs (omega arith), length-drop_plus (p + w) xs l)

-- as many places more as the child has names more
scopes-with_child : (t : Tree) (k j : ℕ) (ls : List ℕ) → k < length (children t) → length (scopes (with_child_in t k j ls)) + width t k ≡ length (scopes t) + length ls
scopes-with_child leaf k j ls h = absurd (omega arith)
scopes-with_child (own r) k j ls h = omega (arith, scopes-with_child r k j ls h)
scopes-with_child (child i ks r) zero j ls h =
    omega (arith, length-append (map {B = Option ℕ} (λ _. None) ls) (scopes r), length-append (map {B = Option ℕ} (λ _. None) ks) (scopes r), length-none ls, length-none ks)
  where
    length-none : (zs : List ℕ) → length (map {B = Option ℕ} (λ _. None) zs) ≡ length zs
    length-none [] = refl
    length-none (z ∷ zs) = ap suc (length-none zs)
scopes-with_child (child i ks r) (suc k) j ls h =
    omega (arith, length-append (map {B = Option ℕ} (λ _. None) ks) (scopes (with_child_in r k j ls)), length-append (map {B = Option ℕ} (λ _. None) ks) (scopes r), scopes-with_child r k j ls (omega arith))
scopes-with_child (bind u r) k j ls h = elim (cases_lt k (length (children u))) [
  | inl l ↦
      let e : length (scopes (with_child_in (bind u r) k j ls)) ≡ length (scopes (bind (with_child_in u k j ls) r)) =
      ap (λ b. length (scopes (cond b (bind (with_child_in u k j ls) r) (bind u (with_child_in r (k - length (children u)) j ls))))) (lt-ltb k (length (children u)) l) in
      let w : width (bind u r) k ≡ width u k = ap (λ (c : ℕ × List ℕ). length c.1) (at-left (children u) (children r) k (0, []) l) in
      omega (arith, e, w, length-append (scopes (with_child_in u k j ls)) (scopes r), length-append (scopes u) (scopes r), scopes-with_child u k j ls l)
  | inr g ↦
      let m = k - length (children u) in
      let e : length (scopes (with_child_in (bind u r) k j ls)) ≡ length (scopes (bind u (with_child_in r m j ls))) =
      ap (λ b. length (scopes (cond b (bind (with_child_in u k j ls) r) (bind u (with_child_in r m j ls))))) (le-ltb k (length (children u)) g) in
      let w : width (bind u r) k ≡ width r m = ap (λ (c : ℕ × List ℕ). length c.1) (at-right (children u) (children r) k (0, []) g) in
      let l : m < length (children r) = omega (arith, h, g, length-append (children u) (children r)) in
      omega (arith, e, w, length-append (scopes u) (scopes (with_child_in r m j ls)), length-append (scopes u) (scopes r), scopes-with_child r m j ls l)
]

-- the names fit the tree with the other child
fits-spliced : (t : Tree) (k j : ℕ) (ls vs xs : List ℕ) → length xs ≡ length (scopes t) → k < length (children t) → length vs ≡ length ls → length (spliced t k vs xs) ≡ length (scopes (with_child_in t k j ls))
fits-spliced t k j ls vs xs n h e =
    omega (arith, n, e, scopes-with_child t k j ls h, length-cut (child_place t k) (width t k) vs xs (omega (arith, n, child_fits t k h)))

-- the children are those of before but for one, and terms in the places of children stand among the same names
abbrev Plugs : Tree → List ℕ → ℕ → ℕ → List ℕ → List ℕ → Type 0
Plugs t xs k j ls vs =
    (ids_in (with_child_in t k j ls) (spliced t k vs xs) ≡ slice_set (ids_in t xs) k (j, zip ls vs))
    × ((us : List Term) → length us ≡ length (children t) → filled (with_child_in t k j ls) (spliced t k vs xs) us ≡ filled t xs us)

pub plugs : (t : Tree) (xs : List ℕ) (k j : ℕ) (ls vs : List ℕ) → length xs ≡ length (scopes t) → k < length (children t) → length vs ≡ length ls → Plugs t xs k j ls vs
plugs leaf xs k j ls vs n h e = absurd (omega arith)
plugs (own r) [] k j ls vs n h e = absurd (omega (arith, n))
plugs (own r) (x ∷ xs) k j ls vs n h e =
    let s : spliced (own r) k vs (x ∷ xs) ≡ x ∷ spliced r k vs xs = cut-next (child_place r k) (width r k) vs x xs in
    let q : Plugs r xs k j ls vs = plugs r xs k j ls vs (omega (arith, n)) h e in (
      ap (λ l. ids_in (own (with_child_in r k j ls)) l) s ∙ q.0,
      λ us m. ap (λ l. filled (own (with_child_in r k j ls)) l us) s ∙ ap (name x) (q.1 us m),
    )
plugs (child i ks r) xs zero j ls vs n h e =
    let d : List ℕ = drop (length ks) xs in
    let s : spliced (child i ks r) zero vs xs ≡ vs ++ d = cut-first (length ks) vs xs in (
      ap (λ l. ids_in (child j ls r) l) s
          ∙ (λ a. (j, zip ls (take-append vs d (length ls) e a)) ∷ ids_in r (drop-append vs d (length ls) e a)),
      first s,
    )
  where
    first : spliced (child i ks r) zero vs xs ≡ vs ++ drop (length ks) xs → (us : List Term) → length us ≡ suc (length (children r)) → filled (child j ls r) (spliced (child i ks r) zero vs xs) us ≡ filled (child i ks r) xs us
    first s [] m = absurd (omega (arith, m))
    first s (u ∷ us) m =
        ap (λ l. term.child u.op u.payloads u.args (filled r (drop (length ls) l) us)) s
        ∙ ap (λ l. term.child u.op u.payloads u.args (filled r l us)) (drop-append vs (drop (length ks) xs) (length ls) e)
plugs (child i ks r) xs (suc k) j ls vs n h e =
    let m = length ks in
    let a : List ℕ = take m xs in
    let d : List ℕ = drop m xs in
    let nn : m + length (scopes r) ≡ length (scopes (child i ks r)) = length-places ks in
    let la : length a ≡ m = length-take m xs (omega (arith, n, nn)) in
    let ld : length d ≡ length (scopes r) = omega (arith, n, nn, length-drop_plus m xs (omega (arith, n, nn))) in
    let s : spliced (child i ks r) (suc k) vs xs ≡ a ++ spliced r k vs d = cut-later m (child_place r k) (width r k) vs xs in
    let q : Plugs r d k j ls vs = plugs r d k j ls vs ld (omega arith) e in (
      ap (λ l. ids_in (child i ks (with_child_in r k j ls)) l) s
          ∙ ((λ b. (i, zip ks (take-append a (spliced r k vs d) m la b)) ∷ ids_in (with_child_in r k j ls) (drop-append a (spliced r k vs d) m la b))
          ∙ ap (λ l. (i, zip ks a) ∷ l) q.0),
      λ us o. ap (λ l. filled (child i ks (with_child_in r k j ls)) l us) s ∙ later la q us o,
    )
  where
    length-places : (zs : List ℕ) → length zs + length (scopes r) ≡ length (map {B = Option ℕ} (λ _. None) zs ++ scopes r)
    length-places [] = omega arith
    length-places (z ∷ zs) = omega (arith, length-places zs)

    later : length (take (length ks) xs) ≡ length ks → Plugs r (drop (length ks) xs) k j ls vs → (us : List Term) → length us ≡ suc (length (children r)) → filled (child i ks (with_child_in r k j ls)) (take (length ks) xs ++ spliced r k vs (drop (length ks) xs)) us ≡ filled (child i ks r) xs us
    later la q [] o = absurd (omega (arith, o))
    later la q (u ∷ us) o =
        ap (λ l. term.child u.op u.payloads u.args (filled (with_child_in r k j ls) l us)) (drop-append (take (length ks) xs) (spliced r k vs (drop (length ks) xs)) (length ks) la)
        ∙ ap (term.child u.op u.payloads u.args) (q.1 us (omega (arith, o)))
plugs (bind u r) [] k j ls vs n h e = absurd (omega (arith, n))
plugs (bind u r) (x ∷ ys) k j ls vs n h e =
    let m = length (scopes u) in
    let c = length (children u) in
    let us : List ℕ = take m ys in
    let rs : List ℕ = drop m ys in
    let nn : length ys ≡ m + length (scopes r) = omega (arith, n, length-append (scopes u) (scopes r)) in
    let lu : length us ≡ m = length-take m ys (omega (arith, nn)) in
    let lr : length rs ≡ length (scopes r) = omega (arith, nn, length-drop_plus m ys (omega (arith, nn))) in
    elim (cases_lt k c) [
      | inl l ↦
          let v : Tree = with_child_in u k j ls in
          let t : with_child_in (bind u r) k j ls ≡ bind v r =
          ap (λ b. cond b (bind v r) (bind u (with_child_in r (k - c) j ls))) (lt-ltb k c l) in
          let w : width (bind u r) k ≡ width u k = ap (λ (z : ℕ × List ℕ). length z.1) (at-left (children u) (children r) k (0, []) l) in
          let p : child_place (bind u r) k ≡ suc (child_place u k) = ap (λ b. cond b (suc (child_place u k)) (suc (m + child_place r (k - c)))) (lt-ltb k c l) in
          let su : List ℕ = spliced u k vs us in
          let s : spliced (bind u r) k vs (x ∷ ys) ≡ x ∷ (su ++ rs) =
          (λ a. cut (p a) (w a) vs (x ∷ ys)) ∙ (cut-next (child_place u k) (width u k) vs x ys ∙ ap (λ z. x ∷ z) (cut-within m (child_place u k) (width u k) vs ys (child_fits u k l))) in
          let q : Plugs u us k j ls vs = plugs u us k j ls vs lu l e in
          let f : length su ≡ length (scopes v) = fits-spliced u k j ls vs us lu l e in
          let cv : length (children v) ≡ c = length_children-with_child_in u k j ls in (
            (λ a. ids_in (t a) (s a))
                ∙ ((λ a. ids_in v (take-append su rs (length (scopes v)) f a) ++ ids_in r (drop-append su rs (length (scopes v)) f a))
                ∙ (ap (λ z. z ++ ids_in r rs) q.0 ∙ sym (set-left (ids_in u us) (ids_in r rs) k (j, zip ls vs) (omega (arith, l, length-ids u us))))),
            λ ts o.
                (λ a. filled (t a) (s a) ts)
                ∙ ((λ a. term.bind x (filled v (take-append su rs (length (scopes v)) f a) (take (cv a) ts)) (filled r (drop-append su rs (length (scopes v)) f a) (drop (cv a) ts)))
                ∙ ap (λ z. term.bind x z (filled r rs (drop c ts))) (q.1 (take c ts) (length-take c ts (omega (arith, o, length-append (children u) (children r)))))),
          )
      | inr g ↦
          let i = k - c in
          let v : Tree = with_child_in r i j ls in
          let ki : c + i ≡ k = omega (arith, g) in
          let li : i < length (children r) = omega (arith, h, g, length-append (children u) (children r)) in
          let t : with_child_in (bind u r) k j ls ≡ bind u v =
          ap (λ b. cond b (bind (with_child_in u k j ls) r) (bind u v)) (le-ltb k c g) in
          let w : width (bind u r) k ≡ width r i = ap (λ (z : ℕ × List ℕ). length z.1) (at-right (children u) (children r) k (0, []) g) in
          let p : child_place (bind u r) k ≡ suc (m + child_place r i) = ap (λ b. cond b (suc (child_place u k)) (suc (m + child_place r i))) (le-ltb k c g) in
          let sr : List ℕ = spliced r i vs rs in
          let s : spliced (bind u r) k vs (x ∷ ys) ≡ x ∷ (us ++ sr) =
          (λ a. cut (p a) (w a) vs (x ∷ ys)) ∙ (cut-next (m + child_place r i) (width r i) vs x ys ∙ ap (λ z. x ∷ z) (cut-later m (child_place r i) (width r i) vs ys)) in
          let q : Plugs r rs i j ls vs = plugs r rs i j ls vs lr li e in
          let at : length (ids_in u us) + i ≡ k = omega (arith, ki, length-ids u us) in (
            (λ a. ids_in (t a) (s a))
                ∙ ((λ a. ids_in u (take-append us sr m lu a) ++ ids_in v (drop-append us sr m lu a))
                ∙ (ap (λ z. ids_in u us ++ z) q.0 ∙ (sym (set-right (ids_in u us) (ids_in r rs) i (j, zip ls vs)) ∙ ap (λ (z : ℕ). slice_set (ids_in u us ++ ids_in r rs) z (j, zip ls vs)) at))),
            λ ts o.
                let lo : length (drop c ts) ≡ length (children r) = omega (arith, o, length-append (children u) (children r), length-drop_plus c ts (omega (arith, o, length-append (children u) (children r)))) in
                (λ a. filled (t a) (s a) ts)
                ∙ ((λ a. term.bind x (filled u (take-append us sr m lu a) (take c ts)) (filled v (drop-append us sr m lu a) (drop c ts)))
                ∙ ap (λ z. term.bind x (filled u us (take c ts)) z) (q.1 (drop c ts) lo)),
          )
    ]
