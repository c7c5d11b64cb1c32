-- Rewrites on a stack: what they come down to, that they are by entries of the list, and how many are left.
use Rattle.std.proofs.Common.{◌≡◌, ℕ, zero, suc, ◌+◌, ◌<◌, ◌≤◌, List, [], ◌∷◌, ◌++◌, length, reverse, Bool, true, false, cond, refl, sym, ap, ◌∙◌, subst, arith, append_assoc}
use Rattle.std.specs.List.{AllByRecursion, sum_by}
use Rattle.std.proofs.lemmas.List.{append-nil, reverse-append, reverse-reverse}
use Rattle.std.proofs.lemmas.List.Elements.{All-from_recursion, recursion_from_All}
use Rattle.std.proofs.lemmas.List.Sorted.{IsPermutation-reverse, sum_by-IsPermutation}
use Rattle.std.proofs.lemmas.List.Sums.{sum_by-append, sum_by-cons, sum_by_push}
use Rattle.slotted_model.specs.Leaves.{parts_of}
use Rattle.slotted_model.specs.ProofList.{Step, explicit, reflexive, symmetric, transitive, congruent}
use Rattle.slotted_proofs.specs.Entries.{Proven, proven_at}
use Rattle.slotted_proofs.specs.Lines.{PartsAreEarlier, parts_at}
use Rattle.slotted_explain.specs.Chain.{AreWithin, IsChain, Rewrite, Rewrites, none, next, child_rewrite, child_rewrites, in_order, own_step, part_rewrites, rewrite, rewrites_below}

-- the top of a stack comes first
top_first : (rest : List Rewrite) (r : Rewrite) → reverse (rest ++ r ∷ []) ≡ r ∷ reverse rest
top_first rest r = reverse-append rest (r ∷ [])

parts_first : (rest xs : List Rewrite) → reverse (rest ++ reverse xs) ≡ xs ++ reverse rest
parts_first rest xs = reverse-append rest (reverse xs) ∙ ap (λ ys. ys ++ reverse rest) (reverse-reverse xs)

-- rewrites by entries below a number
abbrev pub EachBelow : ℕ → List Rewrite → Type 0
EachBelow n rs = AllByRecursion (λ r. r.entry < n) rs

pub each_both : (n : ℕ) (xs ys : List Rewrite) → EachBelow n xs → EachBelow n ys → EachBelow n (xs ++ ys)
each_both n [] ys h k = k
each_both n (x ∷ xs) ys h k = (h.0, each_both n xs ys h.1 k)

each_first : (n : ℕ) (xs ys : List Rewrite) → EachBelow n (xs ++ ys) → EachBelow n xs × EachBelow n ys
each_first n [] ys h = (tt, h)
each_first n (x ∷ xs) ys h = let r = each_first n xs ys h.1 in ((h.0, r.0), r.1)

each_reversed : (n : ℕ) (xs : List Rewrite) → EachBelow n xs → EachBelow n (reverse xs)
each_reversed n [] h = tt
each_reversed n (x ∷ xs) h = subst (EachBelow n) (sym (reverse-append (x ∷ []) xs)) (each_both n (reverse xs) (x ∷ []) (each_reversed n xs h.1) (h.0, tt))

each_child : (n : ℕ) (r : Rewrite) (k : ℕ) (ps : List ℕ) → AllByRecursion (λ q. q < n) ps → EachBelow n (child_rewrites r k ps)
each_child n r k [] h = tt
each_child n r k (p ∷ ps) h = (h.0, each_child n r (suc k) ps h.1)

each_order : (n : ℕ) (b : Bool) (x y : Rewrite) → x.entry < n → y.entry < n → EachBelow n (in_order b x y)
each_order n true x y l m = (m, (l, tt))
each_order n false x y l m = (l, (m, tt))

each_part : (n : ℕ) (r : Rewrite) (s : Step) → AllByRecursion (λ q. q < n) (parts_of s) → EachBelow n (part_rewrites r s)
each_part n r explicit h = tt
each_part n r reflexive h = tt
each_part n r (symmetric p) h = (h.0, tt)
each_part n r (transitive p q) h = each_order n r.turned (rewrite p r.turned r.path) (rewrite q r.turned r.path) h.0 h.1.0
each_part n r (congruent ps) h = each_child n r 0 ps h

pub each_more : (n m : ℕ) (rs : List Rewrite) → n ≤ m → EachBelow n rs → EachBelow m rs
each_more n m [] l h = tt
each_more n m (r ∷ rs) l h = (omega (arith, h.0, l), each_more n m rs l h.1)

each_own : (list : List Proven) (r : Rewrite) → r.entry < length list → (b : Bool) → EachBelow (length list) (cond b (r ∷ []) [])
each_own list r l true = (l, tt)
each_own list r l false = tt

-- the parts of an entry are below it
pub parts_below : (list : List Proven) → PartsAreEarlier list → (r : Rewrite) → r.entry < length list → EachBelow r.entry (rewrites_below list r)
parts_below list earlier r l =
    each_part r.entry r (proven_at list r.entry).step (recursion_from_All (λ q. q < r.entry) (parts_at list r.entry) (earlier r.entry l))

-- what holds of a stack and of the steps so far: what is left comes down to the steps that are left of the chain of p
pub record IsUnderWay (list : List Proven) (p : ℕ) (stack steps : List Rewrite) : Type 0 where
  pub goes_on : (more : List Rewrite) → Rewrites list (reverse stack) more → Rewrites list (rewrite p false [] ∷ []) (steps ++ more)
  pub stacked : EachBelow (length list) stack
  pub done : EachBelow (length list) steps

pub chain_starts : (list : List Proven) (p : ℕ) → p < length list → IsUnderWay list p (rewrite p false [] ∷ []) []
chain_starts list p l = record { goes_on = λ more d. d; stacked = (l, tt); done = tt }

pub on_top : (list : List Proven) (p : ℕ) (rest steps : List Rewrite) (r : Rewrite) → IsUnderWay list p (rest ++ r ∷ []) steps → r.entry < length list
on_top list p rest steps r i = (each_first (length list) rest (r ∷ []) i.stacked).1.0

pub chain_goes_on : (list : List Proven) → PartsAreEarlier list → (p : ℕ) (rest steps : List Rewrite) (r : Rewrite) → IsUnderWay list p (rest ++ r ∷ []) steps → IsUnderWay list p (rest ++ reverse (rewrites_below list r)) (steps ++ own_step list r)
chain_goes_on list earlier p rest steps r i =
    let below = rewrites_below list r in
    let own = own_step list r in
    let top : r.entry < length list = on_top list p rest steps r i in
    record {
      goes_on = λ more d. subst (Rewrites list (rewrite p false [] ∷ [])) (sym (append_assoc steps own more))
          (i.goes_on (own ++ more) (subst (λ rs. Rewrites list rs (own ++ more)) (sym (top_first rest r)) (next (subst (λ rs. Rewrites list rs more) (parts_first rest below) d))));
      stacked = each_both (length list) rest (reverse below) (each_first (length list) rest (r ∷ []) i.stacked).0
          (each_reversed (length list) below (each_more r.entry (length list) below (omega (arith, top)) (parts_below list earlier r top)));
      done = each_both (length list) steps own i.done (each_own list r top _);
    }

pub chain_ends : (list : List Proven) (p : ℕ) (steps : List Rewrite) → IsUnderWay list p [] steps → IsChain list p steps
chain_ends list p steps i = subst (Rewrites list (rewrite p false [] ∷ [])) (append-nil steps) (i.goes_on [] none)

pub steps_within : (list : List Proven) (p : ℕ) (stack steps : List Rewrite) → IsUnderWay list p stack steps → AreWithin list steps
steps_within list p stack steps i = All-from_recursion (λ (r : Rewrite). r.entry < length list) steps i.done

-- how many rewrites the tree of an entry makes, where it is looked at no deeper than n parts below it
pub weight : List Proven → ℕ → ℕ → ℕ
weight list zero p = 1
weight list (suc n) p = suc (sum_by (weight list n) (parts_at list p))

-- the parts stand at smaller numbers, so the tree is no deeper than its number
abbrev pub size_of : List Proven → ℕ → ℕ
size_of list p = weight list p p

-- the rewrites that are left of a stack
abbrev pub rewrites_left : List Proven → List Rewrite → ℕ
rewrites_left list rs = sum_by (λ r. size_of list r.entry) rs

sum_by-grows : (f g : ℕ → ℕ) (xs : List ℕ) → AllByRecursion (λ x. f x ≤ g x) xs → sum_by f xs ≤ sum_by g xs
sum_by-grows f g [] h = omega arith
sum_by-grows f g (x ∷ xs) h = omega (arith, sum_by-cons f x xs, sum_by-cons g x xs, h.0, sum_by-grows f g xs h.1)

each_of : {X : Type 0} (P : X → Type 0) (xs : List X) → ((x : X) → P x) → AllByRecursion P xs
each_of P [] h = tt
each_of P (x ∷ xs) h = (h x, each_of P xs h)

weight-grows : (list : List Proven) (n m p : ℕ) → n ≤ m → weight list n p ≤ weight list m p
unfolding weight
weight-grows list zero zero p l = omega arith
weight-grows list zero (suc m) p l = omega arith
weight-grows list (suc n) zero p l = absurd (omega arith)
weight-grows list (suc n) (suc m) p l =
    let deeper = sum_by-grows (weight list n) (weight list m) (parts_at list p) (each_of (λ q. weight list n q ≤ weight list m q) (parts_at list p) (λ q. weight-grows list n m q (omega arith))) in
    omega (arith, deeper)

deeper : (list : List Proven) (n : ℕ) (ps : List ℕ) → AllByRecursion (λ q. q < suc n) ps → AllByRecursion (λ q. size_of list q ≤ weight list n q) ps
deeper list n [] h = tt
deeper list n (q ∷ qs) h = (weight-grows list q n q (omega (arith, h.0)), deeper list n qs h.1)

-- the parts are less than the whole
parts_are_less : (list : List Proven) (p : ℕ) (ps : List ℕ) → ps ≡ parts_at list p → AllByRecursion (λ q. q < p) ps → sum_by (size_of list) ps < size_of list p
unfolding weight
parts_are_less list zero [] e h = omega arith
parts_are_less list zero (q ∷ qs) e h = absurd (omega (arith, h.0))
parts_are_less list (suc n) ps e h =
    let within = sum_by-grows (size_of list) (weight list n) ps (deeper list n ps h) in
    let same : sum_by (weight list n) ps ≡ sum_by (weight list n) (parts_at list (suc n)) = ap (sum_by (weight list n)) e in
    omega (arith, within, same)

module _ (list : List Proven) where
  left-cons : (r : Rewrite) (rs : List Rewrite) → rewrites_left list (r ∷ rs) ≡ size_of list r.entry + rewrites_left list rs
  left-cons r rs = sum_by-cons (λ (x : Rewrite). size_of list x.entry) r rs

  left-child : (r : Rewrite) (k : ℕ) (ps : List ℕ) → rewrites_left list (child_rewrites r k ps) ≡ sum_by (size_of list) ps
  left-child r k [] = refl
  left-child r k (p ∷ ps) = omega (arith, left-cons (child_rewrite r k p) (child_rewrites r (suc k) ps), sum_by-cons (size_of list) p ps, left-child r (suc k) ps)

  left-order : (b : Bool) (x y : Rewrite) → rewrites_left list (in_order b x y) ≡ size_of list x.entry + size_of list y.entry
  left-order true x y = omega arith
  left-order false x y = omega arith

  left-part : (r : Rewrite) (s : Step) → rewrites_left list (part_rewrites r s) ≡ sum_by (size_of list) (parts_of s)
  left-part r explicit = refl
  left-part r reflexive = refl
  left-part r (symmetric p) = refl
  left-part r (transitive p q) = omega (arith, left-order r.turned (rewrite p r.turned r.path) (rewrite q r.turned r.path))
  left-part r (congruent ps) = left-child r 0 ps

  pub left-falls : PartsAreEarlier list → (rest : List Rewrite) (r : Rewrite) → r.entry < length list → rewrites_left list (rest ++ reverse (rewrites_below list r)) < rewrites_left list (rest ++ r ∷ [])
  left-falls earlier rest r l =
      let w : Rewrite → ℕ = λ x. size_of list x.entry in
      let below = rewrites_below list r in
      let parts = parts_are_less list r.entry (parts_at list r.entry) refl (recursion_from_All (λ q. q < r.entry) (parts_at list r.entry) (earlier r.entry l)) in
      let same = left-part r (proven_at list r.entry).step in
      let turned : sum_by w (reverse below) ≡ sum_by w below = sum_by-IsPermutation w below (reverse below) (IsPermutation-reverse below) in
      omega (arith, sum_by-append w rest (reverse below), sum_by_push w rest r, turned, same, parts)
