-- The lines of a proof by a stack: what is on the stack gets its lines in turn, from the top.
use Rattle.std.proofs.Common.{◌≡◌, ℕ, zero, suc, ◌+◌, ◌<◌, ◌≤◌, List, [], ◌∷◌, ◌++◌, length, reverse, Option, Some, None, IfSome, IfNone, Bool, true, false, cond, refl, sym, ap, ◌∙◌, subst, inl, inr, arith}
use Rattle.std.specs.Prelude.{Contains, ◌⊎◌, nat_eq, ◌||◌}
use Rattle.std.proofs.lemmas.Bool.{false≢true, cases_Bool, cases_eq, eqb-true, eq-eqb}
use Rattle.std.proofs.lemmas.List.{reverse-append}
use Rattle.std.proofs.lemmas.List.Elements.{All-contains}
use Rattle.slotted_lists.proofs.Contained.{contains_head, contains_tail, contains_cases, Contains-nil}
use Rattle.slotted_proofs.specs.Entries.{Proven}
use Rattle.slotted_proofs.specs.Lines.{Lines, all, passed, next, PartsAreEarlier, TakesTurn, has_line, first_new, parts_at}

-- who has a line after one more
or_right_true : (b : Bool) → (b || true) ≡ true
or_right_true true = refl
or_right_true false = refl

pub line-kept : (lines : List ℕ) (p x : ℕ) → has_line lines x ≡ true → has_line (lines ++ p ∷ []) x ≡ true
line-kept [] p x h = absurd (false≢true h)
line-kept (y ∷ lines) p x h = elim (cases_Bool (nat_eq x y)) [
  | inl t ↦ ap (λ (b : Bool). b || has_line (lines ++ p ∷ []) x) t
  | inr f ↦ ap (λ (b : Bool). b || has_line (lines ++ p ∷ []) x) f ∙ line-kept lines p x (sym (ap (λ (b : Bool). b || has_line lines x) f) ∙ h)
]

pub line-own : (lines : List ℕ) (p : ℕ) → has_line (lines ++ p ∷ []) p ≡ true
line-own [] p = ap (λ (b : Bool). b || false) (eq-eqb p p refl)
line-own (y ∷ lines) p = ap (λ (b : Bool). nat_eq p y || b) (line-own lines p) ∙ or_right_true (nat_eq p y)

pub line-from : (lines : List ℕ) (p x : ℕ) → has_line (lines ++ p ∷ []) x ≡ true → (has_line lines x ≡ true) ⊎ (x ≡ p)
line-from [] p x h = elim (cases_Bool (nat_eq x p)) [
  | inl t ↦ inr (eqb-true x p t)
  | inr f ↦ absurd (false≢true (sym (ap (λ (b : Bool). b || false) f) ∙ h))
]
line-from (y ∷ lines) p x h = elim (cases_Bool (nat_eq x y)) [
  | inl t ↦ inl (ap (λ (b : Bool). b || has_line lines x) t)
  | inr f ↦ elim (line-from lines p x (sym (ap (λ (b : Bool). b || has_line (lines ++ p ∷ []) x) f) ∙ h)) [
    | inl a ↦ inl (ap (λ (b : Bool). b || has_line lines x) f ∙ a)
    | inr e ↦ inr e
  ]
]

not_true : (b : Bool) → ¬ (b ≡ true) → b ≡ false
not_true true n = absurd (n refl)
not_true false n = refl

pub line-other : (lines : List ℕ) (p x : ℕ) → has_line lines x ≡ false → p < x → has_line (lines ++ p ∷ []) x ≡ false
line-other lines p x h l = not_true (has_line (lines ++ p ∷ []) x) (λ t. elim (line-from lines p x t) [
  | inl a ↦ false≢true (sym h ∙ a)
  | inr e ↦ absurd (omega arith)
])

-- the first that has no line

first-cases : (lines ps : List ℕ) (x : ℕ) (o : Option ℕ) → first_new lines (x ∷ ps) ≡ o → ((has_line lines x ≡ true) × (first_new lines ps ≡ o)) ⊎ ((has_line lines x ≡ false) × (Some x ≡ o))
first-cases lines ps x o e = elim (cases_Bool (has_line lines x)) [
  | inl t ↦ inl (t, sym (ap (λ b. cond b (first_new lines ps) (Some x)) t) ∙ e)
  | inr f ↦ inr (f, sym (ap (λ b. cond b (first_new lines ps) (Some x)) f) ∙ e)
]

pub first-is_new : (lines ps : List ℕ) (q : ℕ) → first_new lines ps ≡ Some q → (has_line lines q ≡ false) × Contains ps q
first-is_new lines [] q e = absurd (cc)
first-is_new lines (x ∷ ps) q e = elim (first-cases lines ps x (Some q) e) [
  | inl h ↦ let r = first-is_new lines ps q h.1 in (r.0, contains_tail x ps q r.1)
  | inr h ↦ let same : x ≡ q = (let s = h.1 in cc) in (subst (λ y. has_line lines y ≡ false) same h.0, subst (Contains (x ∷ ps)) same (contains_head x ps))
]

-- a part stands earlier
pub before_it : (list : List Proven) → PartsAreEarlier list → (p q : ℕ) → p < length list → Contains (parts_at list p) q → q < p
before_it list earlier p q l c = All-contains (λ x. x < p) (parts_at list p) q (earlier p l) c

module _ (list : List Proven) where
  -- where all have lines, nothing is added
  pub all_passed : (lines ps : List ℕ) → first_new lines ps ≡ None → Lines list lines ps lines
  all_passed lines [] e = all
  all_passed lines (x ∷ ps) e = elim (first-cases lines ps x None e) [
    | inl h ↦ passed h.0 (all_passed lines ps h.1)
    | inr h ↦ absurd (let s = h.1 in cc)
  ]

  -- what has a line is passed over
  after_passed : {lines ps end : List ℕ} {x : ℕ} → has_line lines x ≡ true → Lines list lines (x ∷ ps) end → Lines list lines ps end
  after_passed t (passed e r) = r
  after_passed t (next f a r) = absurd (false≢true (sym f ∙ t))

  -- lines stay
  pub kept : {lines ps end : List ℕ} → Lines list lines ps end → (x : ℕ) → has_line lines x ≡ true → has_line end x ≡ true
  kept all x h = h
  kept (passed e r) x h = kept r x h
  kept (next {before = b} {p = p} f a r) x h = kept r x (line-kept b p x (kept a x h))

  module _ (earlier : PartsAreEarlier list) (b : ℕ) (within : b ≤ length list) where
    -- only entries below a number get lines, where those asked are below it
    below : {lines ps end : List ℕ} → Lines list lines ps end → ((x : ℕ) → Contains ps x → x < b) → (x : ℕ) → has_line end x ≡ true → (has_line lines x ≡ true) ⊎ (x < b)
    below all small x h = inl h
    below (passed {ps = ps} {p = p} e r) small x h = below r (λ y c. small y (contains_tail p ps y c)) x h
    below (next {before = d} {ps = ps} {p = p} f a r) small x h =
        let l : p < b = small p (contains_head p ps) in
        elim (below r (λ y c. small y (contains_tail p ps y c)) x h) [
          | inl t ↦ elim (line-from d p x t) [
            | inl u ↦ below a (λ y c. let k : y < p = before_it list earlier p y (omega arith) c in omega arith) x u
            | inr e ↦ inr (omega arith)
          ]
          | inr k ↦ inr k
        ]

  -- a part that got its line before its turn
  swapped : (lines mid ps end : List ℕ) (q : ℕ) → first_new lines ps ≡ Some q → Lines list lines (parts_at list q) mid → Lines list (mid ++ q ∷ []) ps end → Lines list lines ps end
  swapped lines mid [] end q e a r = absurd (cc)
  swapped lines mid (x ∷ ps) end q e a r = elim (first-cases lines ps x (Some q) e) [
    | inl h ↦ passed h.0 (swapped lines mid ps end q h.1 a (after_passed (line-kept mid q x (kept a x h.0)) r))
    | inr h ↦
        let same : x ≡ q = (let s = h.1 in cc) in
        next h.0 (subst (λ y. Lines list lines (parts_at list y) mid) (sym same) a)
        (subst (λ y. Lines list (mid ++ y ∷ []) ps end) (sym same) (after_passed (subst (λ y. has_line (mid ++ q ∷ []) y ≡ true) (sym same) (line-own mid q)) r))
  ]

  -- the top's first part goes on the stack
  pub pushed : PartsAreEarlier list → (lines rest order : List ℕ) (p q : ℕ) → p < length list → has_line lines p ≡ false → first_new lines (parts_at list p) ≡ Some q → Lines list lines (q ∷ p ∷ rest) order → Lines list lines (p ∷ rest) order
  pushed earlier lines rest order p q l n e (passed t r) = absurd (false≢true (sym (first-is_new lines (parts_at list p) q e).0 ∙ t))
  pushed earlier lines rest order p q l n e (next {before = mid} f a (passed t r)) =
      let k : q < p = before_it list earlier p q l (first-is_new lines (parts_at list p) q e).1 in
      absurd (elim (line-from mid q p t) [
        | inl u ↦ elim (below earlier p (omega arith) a (λ y c. let m : y < q = before_it list earlier q y (omega arith) c in omega arith) p u) [
          | inl v ↦ false≢true (sym n ∙ v)
          | inr m ↦ absurd (omega arith)
        ]
        | inr s ↦ absurd (omega arith)
      ])
  pushed earlier lines rest order p q l n e (next {before = mid} f a (next {before = more} g c r)) = next n (swapped lines mid (parts_at list p) more q e a c) r

  -- the top gets its line
  pub popped : (lines rest order : List ℕ) (p : ℕ) → has_line lines p ≡ false → first_new lines (parts_at list p) ≡ None → Lines list (lines ++ p ∷ []) rest order → Lines list lines (p ∷ rest) order
  popped lines rest order p n e r = next n (all_passed lines (parts_at list p) e) r

  -- what holds of a stack, its top first: no line yet, and each stands above smaller ones
  abbrev pub IsOpen : List ℕ → List ℕ → Type 0
  IsOpen lines [] = Unit {0}
  IsOpen lines (p ∷ rest) = (has_line lines p ≡ false) × (p < length list) × ((x : ℕ) → Contains rest x → p < x) × IsOpen lines rest

  still_open : (lines rest : List ℕ) (p : ℕ) → ((x : ℕ) → Contains rest x → p < x) → IsOpen lines rest → IsOpen (lines ++ p ∷ []) rest
  still_open lines [] p h o = tt
  still_open lines (x ∷ rest) p h o = (line-other lines p x o.0 (h x (contains_head x rest)), o.1, o.2, still_open lines rest p (λ y c. h y (contains_tail x rest y c)) o.3)

  -- the stack, with the lines so far, leads to the lines of the root
  pub record IsLining (root : ℕ) (lines stack : List ℕ) : Type 0 where
    pub goes_on : (order : List ℕ) → Lines list lines stack order → Lines list [] (root ∷ []) order
    pub stacked : IsOpen lines stack

  pub lining_starts : (root : ℕ) → root < length list → IsLining root [] (root ∷ [])
  lining_starts root l = record { goes_on = λ order r. r; stacked = (refl, l, λ x c. absurd (Contains-nil x c), tt) }

  pub lining_pushed : PartsAreEarlier list → (root : ℕ) (lines rest : List ℕ) (p q : ℕ) → IsLining root lines (p ∷ rest) → first_new lines (parts_at list p) ≡ Some q → IsLining root lines (q ∷ p ∷ rest)
  lining_pushed earlier root lines rest p q i e =
      let new : (has_line lines q ≡ false) × Contains (parts_at list p) q = first-is_new lines (parts_at list p) q e in
      let l : p < length list = i.stacked.1 in
      let k : q < p = before_it list earlier p q l new.1 in
      record {
        goes_on = λ order r. i.goes_on order (pushed earlier lines rest order p q l i.stacked.0 e r);
        stacked = (
          new.0,
          omega arith,
          λ x c. elim (contains_cases p rest x c) [
            | inl s ↦ omega arith
            | inr t ↦ let m : p < x = i.stacked.2 x t in omega arith
          ],
          i.stacked,
        );
      }

  pub lining_popped : (root : ℕ) (lines rest : List ℕ) (p : ℕ) → IsLining root lines (p ∷ rest) → first_new lines (parts_at list p) ≡ None → IsLining root (lines ++ p ∷ []) rest
  lining_popped root lines rest p i e = record {
    goes_on = λ order r. i.goes_on order (popped lines rest order p i.stacked.0 e r);
    stacked = still_open lines rest p i.stacked.2 i.stacked.3;
  }

  pub lining_ends : (root : ℕ) (lines : List ℕ) → IsLining root lines [] → Lines list [] (root ∷ []) lines
  lining_ends root lines i = i.goes_on lines all

-- how many numbers below n are left out by f
abbrev missing : (ℕ → Bool) → ℕ → ℕ
missing f zero = zero
missing f (suc n) = cond (f n) (missing f n) (suc (missing f n))

-- whoever has more leaves out fewer
missing-fewer : (f g : ℕ → Bool) (n : ℕ) → ((x : ℕ) → f x ≡ true → g x ≡ true) → missing g n ≤ missing f n
missing-fewer f g zero more = let none : zero ≤ zero = omega arith in none
missing-fewer f g (suc n) more = by (f n) (g n) refl refl (missing-fewer f g n more)
  where
    by : (a b : Bool) → f n ≡ a → g n ≡ b → missing g n ≤ missing f n → cond (g n) (missing g n) (suc (missing g n)) ≤ cond (f n) (missing f n) (suc (missing f n))
    by true true h k i = rw (h, k) (omega arith)
    by true false h k i = absurd (false≢true (sym k ∙ more n h))
    by false true h k i = rw (h, k) (omega arith)
    by false false h k i = rw (h, k) (omega arith)

-- and truly fewer where one of them is new
missing-less : (f g : ℕ → Bool) (n p : ℕ) → ((x : ℕ) → f x ≡ true → g x ≡ true) → p < n → f p ≡ false → g p ≡ true → missing g n < missing f n
missing-less f g zero p more l e d = absurd (omega arith)
missing-less f g (suc n) p more l e d = elim (cases_eq p n) [
  | inl same ↦
      let i = missing-fewer f g n more in
      let out : f n ≡ false = subst (λ x. f x ≡ false) same e in
      let now : g n ≡ true = subst (λ x. g x ≡ true) same d in
      let less : cond (g n) (missing g n) (suc (missing g n)) < cond (f n) (missing f n) (suc (missing f n)) = rw (out, now) (omega arith) in
      less
  | inr other ↦ by (f n) (g n) refl refl (missing-less f g n p more (omega arith) e d)
]
  where
    by : (a b : Bool) → f n ≡ a → g n ≡ b → missing g n < missing f n → cond (g n) (missing g n) (suc (missing g n)) < cond (f n) (missing f n) (suc (missing f n))
    by true true h k i = rw (h, k) (omega arith)
    by true false h k i = absurd (false≢true (sym k ∙ more n h))
    by false true h k i = rw (h, k) (omega arith)
    by false false h k i = rw (h, k) (omega arith)

-- who has a line in either of two lists
in_either : (a b : List ℕ) (x : ℕ) → has_line (a ++ b) x ≡ true → (has_line a x ≡ true) ⊎ (has_line b x ≡ true)
in_either [] b x h = inr h
in_either (y ∷ a) b x h = elim (cases_Bool (nat_eq x y)) [
  | inl t ↦ inl (ap (λ (c : Bool). c || has_line a x) t)
  | inr f ↦ elim (in_either a b x (sym (ap (λ (c : Bool). c || has_line (a ++ b) x) f) ∙ h)) [
    | inl u ↦ inl (ap (λ (c : Bool). c || has_line a x) f ∙ u)
    | inr u ↦ inr u
  ]
]

in_first : (a b : List ℕ) (x : ℕ) → has_line a x ≡ true → has_line (a ++ b) x ≡ true
in_first [] b x h = absurd (false≢true h)
in_first (y ∷ a) b x h = elim (cases_Bool (nat_eq x y)) [
  | inl t ↦ ap (λ (c : Bool). c || has_line (a ++ b) x) t
  | inr f ↦ ap (λ (c : Bool). c || has_line (a ++ b) x) f ∙ in_first a b x (sym (ap (λ (c : Bool). c || has_line a x) f) ∙ h)
]

in_second : (a b : List ℕ) (x : ℕ) → has_line b x ≡ true → has_line (a ++ b) x ≡ true
in_second [] b x h = h
in_second (y ∷ a) b x h = elim (cases_Bool (nat_eq x y)) [
  | inl t ↦ ap (λ (c : Bool). c || has_line (a ++ b) x) t
  | inr f ↦ ap (λ (c : Bool). c || has_line (a ++ b) x) f ∙ in_second a b x h
]

has_line-contains : (xs : List ℕ) (x : ℕ) → has_line xs x ≡ true → Contains xs x
has_line-contains [] x h = absurd (false≢true h)
has_line-contains (y ∷ xs) x h = elim (cases_Bool (nat_eq x y)) [
  | inl t ↦ subst (Contains (y ∷ xs)) (sym (eqb-true x y t)) (contains_head y xs)
  | inr f ↦ contains_tail y xs x (has_line-contains xs x (sym (ap (λ (c : Bool). c || has_line xs x) f) ∙ h))
]

in_reverse : (xs : List ℕ) (x : ℕ) → has_line xs x ≡ true → has_line (reverse xs) x ≡ true
in_reverse [] x h = absurd (false≢true h)
in_reverse (y ∷ xs) x h = ap (λ l. has_line l x) (reverse-append (y ∷ []) xs) ∙ elim (in_either (y ∷ []) xs x h) [
  | inl a ↦ in_second (reverse xs) (y ∷ []) x a
  | inr b ↦ in_first (reverse xs) (y ∷ []) x (in_reverse xs x b)
]

-- the turns that are left: two for each entry that has no line and is not on the stack, and one for each that is on it
abbrev pub turns_left : List Proven → List ℕ → List ℕ → ℕ
turns_left list lines stack = missing (has_line lines) (length list) + missing (has_line (lines ++ stack)) (length list)

-- to get a line is a turn, and so is to wait for a part that was not on the stack
pub turns-less : (list : List Proven) (top : ℕ) (lines lines' rest stack' : List ℕ) → PartsAreEarlier list → top < length list → has_line lines top ≡ false → ((x : ℕ) → Contains (reverse rest) x → top < x) → TakesTurn list top lines lines' rest stack' → turns_left list lines' stack' < turns_left list lines (rest ++ top ∷ [])
turns-less list top lines lines' rest stack' earlier within new above turn =
    by (first_new lines (parts_at list top)) refl turn.part turn.line
  where
    n : ℕ
    n = length list

    at_line : has_line (lines ++ top ∷ []) top ≡ true
    at_line = line-own lines top

    moved : (x : ℕ) → has_line (lines ++ (rest ++ top ∷ [])) x ≡ true → has_line ((lines ++ top ∷ []) ++ rest) x ≡ true
    moved x h = elim (in_either lines (rest ++ top ∷ []) x h) [
      | inl a ↦ in_first (lines ++ top ∷ []) rest x (line-kept lines top x a)
      | inr b ↦ elim (in_either rest (top ∷ []) x b) [
        | inl c ↦ in_second (lines ++ top ∷ []) rest x c
        | inr d ↦ in_first (lines ++ top ∷ []) rest x (in_second lines (top ∷ []) x d)
      ]
    ]

    lined : turns_left list (lines ++ top ∷ []) rest < turns_left list lines (rest ++ top ∷ [])
    lined =
        let fewer : missing (has_line (lines ++ top ∷ [])) n < missing (has_line lines) n = missing-less (has_line lines) (has_line (lines ++ top ∷ [])) n top (λ x. line-kept lines top x) within new at_line in
        let same : missing (has_line ((lines ++ top ∷ []) ++ rest)) n ≤ missing (has_line (lines ++ (rest ++ top ∷ []))) n = missing-fewer (has_line (lines ++ (rest ++ top ∷ []))) (has_line ((lines ++ top ∷ []) ++ rest)) n moved in
        omega arith

    kept_on : (q : ℕ) (x : ℕ) → has_line (lines ++ (rest ++ top ∷ [])) x ≡ true → has_line (lines ++ (rest ++ top ∷ q ∷ [])) x ≡ true
    kept_on q x h = elim (in_either lines (rest ++ top ∷ []) x h) [
      | inl a ↦ in_first lines (rest ++ top ∷ q ∷ []) x a
      | inr b ↦ in_second lines (rest ++ top ∷ q ∷ []) x (elim (in_either rest (top ∷ []) x b) [
        | inl c ↦ in_first rest (top ∷ q ∷ []) x c
        | inr d ↦ in_second rest (top ∷ q ∷ []) x (in_first (top ∷ []) (q ∷ []) x d)
      ])
    ]

    not_yet : (q : ℕ) → q < top → has_line lines q ≡ false → has_line (lines ++ (rest ++ top ∷ [])) q ≡ false
    not_yet q k f = not_true (has_line (lines ++ (rest ++ top ∷ [])) q) (λ h. elim (in_either lines (rest ++ top ∷ []) q h) [
      | inl a ↦ false≢true (sym f ∙ a)
      | inr b ↦ elim (in_either rest (top ∷ []) q b) [
        | inl c ↦ let m : top < q = above q (has_line-contains (reverse rest) q (in_reverse rest q c)) in absurd (omega arith)
        | inr d ↦ elim (contains_cases top [] q (has_line-contains (top ∷ []) q d)) [
          | inl e ↦ absurd (omega arith)
          | inr e ↦ absurd (Contains-nil q e)
        ]
      ]
    ])

    waited : (q : ℕ) → first_new lines (parts_at list top) ≡ Some q → turns_left list lines (rest ++ top ∷ q ∷ []) < turns_left list lines (rest ++ top ∷ [])
    waited q e =
        let part : (has_line lines q ≡ false) × Contains (parts_at list top) q = first-is_new lines (parts_at list top) q e in
        let k : q < top = before_it list earlier top q within part.1 in
        let on : has_line (lines ++ (rest ++ top ∷ q ∷ [])) q ≡ true = in_second lines (rest ++ top ∷ q ∷ []) q (in_second rest (top ∷ q ∷ []) q (in_second (top ∷ []) (q ∷ []) q (line-own [] q))) in
        let fewer : missing (has_line (lines ++ (rest ++ top ∷ q ∷ []))) n < missing (has_line (lines ++ (rest ++ top ∷ []))) n = missing-less (has_line (lines ++ (rest ++ top ∷ []))) (has_line (lines ++ (rest ++ top ∷ q ∷ []))) n q (kept_on q) (omega arith) (not_yet q k part.0) on in
        omega arith

    by : (o : Option ℕ) → first_new lines (parts_at list top) ≡ o → IfSome o (λ q. (lines' ≡ lines) × (stack' ≡ rest ++ top ∷ q ∷ [])) → IfNone o ((lines' ≡ lines ++ top ∷ []) × (stack' ≡ rest)) → turns_left list lines' stack' < turns_left list lines (rest ++ top ∷ [])
    by (Some q) e part line =
        subst (λ l. turns_left list l stack' < turns_left list lines (rest ++ top ∷ [])) (sym part.0)
        (subst (λ s. turns_left list lines s < turns_left list lines (rest ++ top ∷ [])) (sym part.1) (waited q e))
    by None e part line =
        subst (λ l. turns_left list l stack' < turns_left list lines (rest ++ top ∷ [])) (sym line.0)
        (subst (λ s. turns_left list (lines ++ top ∷ []) s < turns_left list lines (rest ++ top ∷ [])) (sym line.1) lined)
