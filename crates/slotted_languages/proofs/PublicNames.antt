-- The names at public places are the free names.
use Rattle.std.proofs.Common.{◌≡◌, ℕ, zero, suc, ◌+◌, ◌<◌, ◌≤◌, List, [], ◌∷◌, ◌++◌, length, take, drop, Option, Some, None, sym, ◌∙◌, ap, refl, arith, map, slice_index, inl, inr}
use Rattle.std.specs.Prelude.{Bool, true, false, ◌||◌, ◌&&◌, not, nat_eq, nat_lt, cond, slice_index_or}
use Rattle.std.specs.List.{filter}
use Rattle.std.proofs.lemmas.Bool.{lt-ltb, le-ltb, eq-eqb, ne_eqb, cases_eq}
use Rattle.std.proofs.lemmas.List.{map-append, get_or-drop, get_or-take, get_or_append_left, get_or-append-add, length-append, length-drop, length-take-le}
use Rattle.std.proofs.lemmas.List.Elements.{filter-append}
use Rattle.slotted_theory.specs.Term.{Args, done, name, child, bind}
use Rattle.slotted_theory.specs.Nameless.{extend, nameless_args}
use Rattle.slotted_theory.specs.Shape.{outside, free_names}
use Rattle.slotted_languages.specs.Children.{below}
use Rattle.slotted_nodes.specs.Form.{Form, Tree, leaf, own, scopes, scope_end_of, end_at}
use Rattle.slotted_nodes.specs.Form.{child as id, bind as binder}
use Rattle.slotted_languages.specs.NodeTerm.{node_args, own_names, free_names_of}
use Rattle.slotted_languages.specs.Occurrences.{names_where, public_names}
use Rattle.slotted_nodes.specs.Public.{reaches, is_bound_by, is_no_binder, is_public}
use Rattle.slotted_languages.specs.Shape.{Fits}
use Rattle.slotted_languages.proofs.NodeTerms.{own_fits, length-child, child_keys_fit, child_rest_fits, bind_inner_fits, bind_rest_fits}

-- the names that are free in arguments, from the left
abbrev other : ℕ → ℕ → Bool
other x y = not (nat_eq y x)

abbrev free_in : Args → List ℕ
free_in done = []
free_in (name x rest) = x ∷ free_in rest
free_in (child op payloads args rest) = free_in args ++ free_in rest
free_in (bind x inner rest) = filter (other x) (free_in inner) ++ free_in rest

outside_extended : (x : ℕ) (ρ : ℕ → ℕ) (ys : List ℕ) → outside (map (extend x ρ) ys) ≡ map ρ (filter (other x) ys)
outside_extended x ρ [] = refl
outside_extended x ρ (y ∷ ys) = one (nat_eq y x) (outside_extended x ρ ys)
  where
    one : (b : Bool) → outside (map (extend x ρ) ys) ≡ map ρ (filter (other x) ys) → outside (cond b 0 (suc (ρ y)) ∷ map (extend x ρ) ys) ≡ map ρ (cond (not b) (y ∷ filter (other x) ys) (filter (other x) ys))
    one true h = h
    one false h = ap (λ zs. ρ y ∷ zs) h

free_names-named : (ρ : ℕ → ℕ) (a : Args) → free_names (nameless_args ρ a) ≡ map ρ (free_in a)
free_names-named ρ done = refl
free_names-named ρ (name x rest) = ap (λ zs. ρ x ∷ zs) (free_names-named ρ rest)
free_names-named ρ (child op payloads args rest) =
    (λ i. free_names-named ρ args i ++ free_names-named ρ rest i) ∙ sym (map-append ρ (free_in args) (free_in rest))
free_names-named ρ (bind x inner rest) =
    let inside : outside (free_names (nameless_args (extend x ρ) inner)) ≡ map ρ (filter (other x) (free_in inner)) = ap outside (free_names-named (extend x ρ) inner) ∙ outside_extended x ρ (free_in inner) in
    (λ i. inside i ++ free_names-named ρ rest i) ∙ sym (map-append ρ (filter (other x) (free_in inner)) (free_in rest))

map_nothing : (xs : List ℕ) → map (λ x. x) xs ≡ xs
map_nothing [] = refl
map_nothing (x ∷ xs) = ap (λ zs. x ∷ zs) (map_nothing xs)

free_in_own : (xs : List ℕ) → free_in (own_names xs) ≡ xs
free_in_own [] = refl
free_in_own (x ∷ xs) = ap (λ zs. x ∷ zs) (free_in_own xs)

-- the numbers from i on
abbrev upward : ℕ → ℕ → List ℕ
upward i zero = []
upward i (suc n) = i ∷ upward (suc i) n

upward_last : (i n : ℕ) → upward i (suc n) ≡ upward i n ++ (i + n) ∷ []
upward_last i zero = let e : i ≡ i + 0 = omega arith in ap (λ k. k ∷ []) e
upward_last i (suc n) =
    let e : suc i + n ≡ i + suc n = omega arith in
    ap (λ ks. i ∷ ks) (upward_last (suc i) n ∙ ap (λ k. upward (suc i) n ++ k ∷ []) e)

below_upward : (n : ℕ) → below n ≡ upward 0 n
below_upward zero = refl
below_upward (suc n) =
    let e : n ≡ 0 + n = omega arith in
    (λ i. below_upward n i ++ e i ∷ []) ∙ sym (upward_last 0 n)

-- the names of n places from i on, where a test says yes
abbrev names_from : (ℕ → Bool) → List ℕ → ℕ → ℕ → List ℕ
names_from test xs i zero = []
names_from test xs i (suc n) = cond (test i) (slice_index xs i ∷ names_from test xs (suc i) n) (names_from test xs (suc i) n)

names_upward : (test : ℕ → Bool) (xs : List ℕ) (i n : ℕ) → map (slice_index xs) (filter test (upward i n)) ≡ names_from test xs i n
names_upward test xs i zero = refl
names_upward test xs i (suc n) = one (test i) (names_upward test xs (suc i) n)
  where
    one : (b : Bool) → map (slice_index xs) (filter test (upward (suc i) n)) ≡ names_from test xs (suc i) n → map (slice_index xs) (cond b (i ∷ filter test (upward (suc i) n)) (filter test (upward (suc i) n))) ≡ cond b (slice_index xs i ∷ names_from test xs (suc i) n) (names_from test xs (suc i) n)
    one true h = ap (λ zs. slice_index xs i ∷ zs) h
    one false h = h

names_parted : (test : ℕ → Bool) (xs : List ℕ) (i n m : ℕ) → names_from test xs i (n + m) ≡ names_from test xs i n ++ names_from test xs (i + n) m
names_parted test xs i zero m =
    let e : i ≡ i + 0 = omega arith in
    let z : 0 + m ≡ m = omega arith in
    λ j. names_from test xs (e j) (z j)
names_parted test xs i (suc n) m =
    let e : suc i + n ≡ i + suc n = omega arith in
    let z : suc n + m ≡ suc (n + m) = omega arith in
    ap (names_from test xs i) z
    ∙ one (test i) (names_parted test xs (suc i) n m ∙ ap (λ k. names_from test xs (suc i) n ++ names_from test xs k m) e)
  where
    one : (b : Bool) → names_from test xs (suc i) (n + m) ≡ names_from test xs (suc i) n ++ names_from test xs (i + suc n) m → cond b (slice_index xs i ∷ names_from test xs (suc i) (n + m)) (names_from test xs (suc i) (n + m)) ≡ cond b (slice_index xs i ∷ names_from test xs (suc i) n) (names_from test xs (suc i) n) ++ names_from test xs (i + suc n) m
    one true h = ap (λ zs. slice_index xs i ∷ zs) h
    one false h = h

nat_eq_turned : (x y : ℕ) → nat_eq x y ≡ nat_eq y x
nat_eq_turned x y = elim (cases_eq x y) [
  | inl e ↦ eq-eqb x y e ∙ sym (eq-eqb y x (sym e))
  | inr n ↦ ne_eqb x y n ∙ sym (ne_eqb y x (λ q. n (sym q)))
]

-- binders with their names and the ends of their scopes
abbrev covered : List (ℕ × ℕ) → ℕ → ℕ → Bool
covered [] x i = false
covered (b ∷ bs) x i = (nat_lt i b.1 && nat_eq b.0 x) || covered bs x i

abbrev with_binder : Option ℕ → ℕ → List (ℕ × ℕ) → List (ℕ × ℕ)
with_binder None x bs = bs
with_binder (Some e) x bs = (x, e) ∷ bs

-- the scopes of a child's places
abbrev nones : List ℕ → List (Option ℕ)
nones ks = map (λ _. None) ks

none_at : (ks : List ℕ) (k : ℕ) → slice_index_or (nones ks) k None ≡ None
none_at [] k = refl
none_at (x ∷ ks) zero = refl
none_at (x ∷ ks) (suc k) = none_at ks k

length-nones : (ks : List ℕ) → length (nones ks) ≡ length ks
length-nones [] = refl
length-nones (x ∷ ks) = ap suc (length-nones ks)

module _ (ss : List (Option ℕ)) (xs : List ℕ) where
  -- the binders among the first places
  abbrev before : ℕ → List (ℕ × ℕ)
  before zero = []
  before (suc j) = with_binder (scope_end_of ss j) (slice_index xs j) (before j)

  abbrev open_at : ℕ → Bool
  open_at i = is_no_binder (scope_end_of ss i) && not (covered (before i) (slice_index xs i) i)

  -- what stands at the places from i on
  abbrev Stands : List (Option ℕ) → ℕ → Type 0
  Stands ts i = (j : ℕ) → j < length ts → slice_index_or ss (i + j) None ≡ slice_index_or ts j None

  abbrev Reads : List ℕ → ℕ → Type 0
  Reads ys i = (j : ℕ) → j < length ys → slice_index xs (i + j) ≡ slice_index ys j

  Stands-left : (ts us : List (Option ℕ)) (i : ℕ) → Stands (ts ++ us) i → Stands ts i
  Stands-left ts us i h j lt = h j (omega (arith, lt, length-append ts us)) ∙ get_or_append_left ts us None j lt

  Stands-right : (ts us : List (Option ℕ)) (i : ℕ) → Stands (ts ++ us) i → Stands us (i + length ts)
  Stands-right ts us i h j lt =
      let e : (i + length ts) + j ≡ i + (length ts + j) = omega arith in
      ap (λ k. slice_index_or ss k None) e ∙ (h (length ts + j) (omega (arith, lt, length-append ts us)) ∙ get_or-append-add ts us j None)

  Stands-rest : (o : Option ℕ) (ts : List (Option ℕ)) (i : ℕ) → Stands (o ∷ ts) i → Stands ts (suc i)
  Stands-rest o ts i h j lt =
      let e : suc i + j ≡ i + suc j = omega arith in
      ap (λ k. slice_index_or ss k None) e ∙ h (suc j) (omega (arith, lt))

  Stands-first : (o : Option ℕ) (ts : List (Option ℕ)) (i : ℕ) → Stands (o ∷ ts) i → scope_end_of ss i ≡ end_at i o
  Stands-first o ts i h =
      let e : i ≡ i + 0 = omega arith in
      ap (end_at i) (ap (λ k. slice_index_or ss k None) e ∙ h 0 (omega arith))

  Reads-rest : (ys : List ℕ) (i n : ℕ) → Reads ys i → n ≤ length ys → Reads (drop n ys) (i + n)
  Reads-rest ys i n h le j lt =
      let e : (i + n) + j ≡ i + (n + j) = omega arith in
      ap (slice_index xs) e ∙ (h (n + j) (omega (arith, lt, le, length-drop n ys)) ∙ sym (get_or-drop n ys j 0))

  Reads-part : (ys : List ℕ) (i n : ℕ) → Reads ys i → n ≤ length ys → Reads (take n ys) i
  Reads-part ys i n h le j lt =
      let l : j < n = omega (arith, lt, length-take-le n ys le) in
      h j (omega (arith, l, le)) ∙ sym (get_or-take n ys j 0 l)

  -- scopes that have ended cover nothing
  dead_block : (n i x j : ℕ) → ((k : ℕ) → k < n → scope_end_of ss (i + k) ≡ None) → covered (before (i + n)) x j ≡ covered (before i) x j
  dead_block zero i x j h = let e : i + 0 ≡ i = omega arith in ap (λ k. covered (before k) x j) e
  dead_block (suc n) i x j h =
      let e : i + suc n ≡ suc (i + n) = omega arith in
      ap (λ k. covered (before k) x j) e
      ∙ (ap (λ o. covered (with_binder o (slice_index xs (i + n)) (before (i + n))) x j) (h n (omega arith)) ∙ dead_block n i x j (λ k lt. h k (omega (arith, lt))))

  nothing_at : (ks : List ℕ) (ts : List (Option ℕ)) (i : ℕ) → Stands (nones ks ++ ts) i → (k : ℕ) → k < length ks → scope_end_of ss (i + k) ≡ None
  nothing_at ks ts i h k lt =
      ap (end_at (i + k)) (Stands-left (nones ks) ts i h k (omega (arith, lt, length-nones ks)) ∙ none_at ks k)

  dead : (t : Tree) (i x j : ℕ) → Stands (scopes t) i → i + length (scopes t) ≤ j → covered (before (i + length (scopes t))) x j ≡ covered (before i) x j
  dead leaf i x j h le = let e : i + 0 ≡ i = omega arith in ap (λ k. covered (before k) x j) e
  dead (own r) i x j h le =
      let e : i + suc (length (scopes r)) ≡ suc i + length (scopes r) = omega arith in
      ap (λ k. covered (before k) x j) e
      ∙ (dead r (suc i) x j (Stands-rest None (scopes r) i h) (omega (arith, le)) ∙ ap (λ o. covered (with_binder o (slice_index xs i) (before i)) x j) (Stands-first None (scopes r) i h))
  dead (id c ks r) i x j h le =
      let l : length (scopes (id c ks r)) ≡ length ks + length (scopes r) = length-child c ks r in
      let e : i + length (scopes (id c ks r)) ≡ (i + length ks) + length (scopes r) = omega (arith, l) in
      let right : Stands (scopes r) (i + length ks) = rw (length-nones ks) at (Stands-right (nones ks) (scopes r) i h) in
      ap (λ k. covered (before k) x j) e
      ∙ (dead r (i + length ks) x j right (omega (arith, le, l)) ∙ dead_block (length ks) i x j (nothing_at ks (scopes r) i h))
  dead (binder u r) i x j h le =
      let n = length (scopes u) in
      let l : length (scopes u ++ scopes r) ≡ n + length (scopes r) = length-append (scopes u) (scopes r) in
      let e : i + suc (length (scopes u ++ scopes r)) ≡ (suc i + n) + length (scopes r) = omega (arith, l) in
      let rest : Stands (scopes u ++ scopes r) (suc i) = Stands-rest (Some n) (scopes u ++ scopes r) i h in
      let past : (i + 1 + n) ≤ j = omega (arith, le, l) in
      ap (λ k. covered (before k) x j) e
      ∙ (dead r (suc i + n) x j (Stands-right (scopes u) (scopes r) (suc i) rest) (omega (arith, le, l))
      ∙ (dead u (suc i) x j (Stands-left (scopes u) (scopes r) (suc i) rest) (omega (arith, le, l))
      ∙ (ap (λ o. covered (with_binder o (slice_index xs i) (before i)) x j) (Stands-first (Some n) (scopes u ++ scopes r) i h)
      ∙ ap (λ b. (b && nat_eq (slice_index xs i) x) || covered (before i) x j) (le-ltb j (i + 1 + n) past))))

  -- the names of the outer binders that cover n places from i on
  abbrev Hidden : (ℕ → Bool) → ℕ → ℕ → Type 0
  Hidden hid i n = (x j : ℕ) → i ≤ j → j < i + n → covered (before i) x j ≡ hid x

  abbrev shown : (ℕ → Bool) → ℕ → Bool
  shown hid x = not (hid x)

  -- places that are no binders
  block_names : (hid : ℕ → Bool) (ys : List ℕ) (i : ℕ) → ((k : ℕ) → k < length ys → scope_end_of ss (i + k) ≡ None) → Reads ys i → Hidden hid i (length ys) → names_from open_at xs i (length ys) ≡ filter (shown hid) ys
  block_names hid [] i h r c = refl
  block_names hid (y ∷ ys) i h r c =
      let z : i ≡ i + 0 = omega arith in
      let first : scope_end_of ss i ≡ None = ap (scope_end_of ss) z ∙ h 0 (omega arith) in
      let at : slice_index xs i ≡ y = ap (slice_index xs) z ∙ r 0 (omega arith) in
      let step : (k : ℕ) → suc i + k ≡ i + suc k = λ k. omega arith in
      let rest : names_from open_at xs (suc i) (length ys) ≡ filter (shown hid) ys =
      block_names hid ys (suc i) (λ k lt. ap (scope_end_of ss) (step k) ∙ h (suc k) (omega (arith, lt))) (λ k lt. ap (slice_index xs) (step k) ∙ r (suc k) (omega (arith, lt)))
      (λ x j a b. ap (λ o. covered (with_binder o (slice_index xs i) (before i)) x j) first ∙ c x j (omega (arith, a)) (omega (arith, b))) in
      let test : open_at i ≡ not (hid y) = (λ k. is_no_binder (first k) && not (covered (before i) (at k) i)) ∙ ap not (c y i (omega arith) (omega arith)) in
      λ k. cond (test k) (at k ∷ rest k) (rest k)

  filter_twice : (hid : ℕ → Bool) (x : ℕ) (ys : List ℕ) → filter (shown (λ y. nat_eq x y || hid y)) ys ≡ filter (shown hid) (filter (other x) ys)
  filter_twice hid x [] = refl
  filter_twice hid x (y ∷ ys) = one (nat_eq x y) (nat_eq y x) (nat_eq_turned x y) (hid y) refl (filter_twice hid x ys)
    where
      both : List ℕ
      both = filter (shown (λ y. nat_eq x y || hid y)) ys

      one : (p q : Bool) → p ≡ q → (b : Bool) → hid y ≡ b → both ≡ filter (shown hid) (filter (other x) ys) → cond (not (p || hid y)) (y ∷ both) both ≡ filter (shown hid) (cond (not q) (y ∷ filter (other x) ys) (filter (other x) ys))
      one true true e b f h = h
      one true false e b f h = cc
      one false true e b f h = cc
      one false false e true f h =
          ap (λ c. cond (not c) (y ∷ both) both) f
          ∙ (h ∙ sym (ap (λ c. cond (not c) (y ∷ filter (shown hid) (filter (other x) ys)) (filter (shown hid) (filter (other x) ys))) f))
      one false false e false f h =
          ap (λ c. cond (not c) (y ∷ both) both) f
          ∙ (ap (λ zs. y ∷ zs) h ∙ sym (ap (λ c. cond (not c) (y ∷ filter (shown hid) (filter (other x) ys)) (filter (shown hid) (filter (other x) ys))) f))

  -- the names at the open places of a tree are its free names that no outer binder has
  tree_names : (t : Tree) (hid : ℕ → Bool) (i : ℕ) (ys : List ℕ) → length ys ≡ length (scopes t) → Stands (scopes t) i → Reads ys i → Hidden hid i (length (scopes t)) → names_from open_at xs i (length (scopes t)) ≡ filter (shown hid) (free_in (node_args t ys))
  tree_names leaf hid i ys fits h r c = refl
  tree_names (own t) hid i ys fits h r c =
      let z : i ≡ i + 0 = omega arith in
      let one : i + 1 ≡ suc i = omega arith in
      let y = slice_index ys 0 in
      let first : scope_end_of ss i ≡ None = Stands-first None (scopes t) i h in
      let at : slice_index xs i ≡ y = ap (slice_index xs) z ∙ r 0 (omega (arith, fits)) in
      let reads : Reads (drop 1 ys) (suc i) = rw one at (Reads-rest ys i 1 r (omega (arith, fits))) in
      let rest : names_from open_at xs (suc i) (length (scopes t)) ≡ filter (shown hid) (free_in (node_args t (drop 1 ys))) =
      tree_names t hid (suc i) (drop 1 ys) (own_fits t ys fits) (Stands-rest None (scopes t) i h) reads
      (λ x j a b. ap (λ o. covered (with_binder o (slice_index xs i) (before i)) x j) first ∙ c x j (omega (arith, a)) (omega (arith, b))) in
      let test : open_at i ≡ not (hid y) = (λ k. is_no_binder (first k) && not (covered (before i) (at k) i)) ∙ ap not (c y i (omega arith) (omega arith)) in
      λ k. cond (test k) (at k ∷ rest k) (rest k)
  tree_names (id o ks t) hid i ys fits h r c =
      let n = length ks in
      let l : length (scopes (id o ks t)) ≡ n + length (scopes t) = length-child o ks t in
      let part : length (take n ys) ≡ n = child_keys_fit o ks t ys fits in
      let le : n ≤ length ys = omega (arith, fits, l) in
      let right : Stands (scopes t) (i + n) = rw (length-nones ks) at (Stands-right (nones ks) (scopes t) i h) in
      let block : names_from open_at xs i (length (take n ys)) ≡ filter (shown hid) (take n ys) =
      block_names hid (take n ys) i (λ k lt. nothing_at ks (scopes t) i h k (omega (arith, lt, part))) (Reads-part ys i n r le) (λ x j a b. c x j a (omega (arith, b, part, l))) in
      let rest : names_from open_at xs (i + n) (length (scopes t)) ≡ filter (shown hid) (free_in (node_args t (drop n ys))) =
      tree_names t hid (i + n) (drop n ys) (child_rest_fits o ks t ys fits) right (Reads-rest ys i n r le)
      (λ x j a b. dead_block n i x j (nothing_at ks (scopes t) i h) ∙ c x j (omega (arith, a)) (omega (arith, b, l))) in
      ap (names_from open_at xs i) l
      ∙ (names_parted open_at xs i n (length (scopes t))
      ∙ ((λ k. (ap (names_from open_at xs i) (sym part) ∙ (block ∙ ap (filter (shown hid)) (sym (free_in_own (take n ys))))) k ++ rest k)
      ∙ sym (filter-append (shown hid) (free_in (own_names (take n ys))) (free_in (node_args t (drop n ys))))))
  tree_names (binder u t) hid i ys fits h r c =
      let n = length (scopes u) in
      let m = length (scopes t) in
      let l : length (scopes u ++ scopes t) ≡ n + m = length-append (scopes u) (scopes t) in
      let z : i ≡ i + 0 = omega arith in
      let one : i + 1 ≡ suc i = omega arith in
      let y = slice_index ys 0 in
      let at : slice_index xs i ≡ y = ap (slice_index xs) z ∙ r 0 (omega (arith, fits)) in
      let first : scope_end_of ss i ≡ Some (i + 1 + n) = Stands-first (Some n) (scopes u ++ scopes t) i h in
      let stands : Stands (scopes u ++ scopes t) (suc i) = Stands-rest (Some n) (scopes u ++ scopes t) i h in
      let reads : Reads (drop 1 ys) (suc i) = rw one at (Reads-rest ys i 1 r (omega (arith, fits))) in
      let le : n ≤ length (drop 1 ys) = omega (arith, length-drop 1 ys, fits, l) in
      let hid_in : ℕ → Bool = λ x. nat_eq y x || hid x in
      let inner : names_from open_at xs (suc i) n ≡ filter (shown hid_in) (free_in (node_args u (take n (drop 1 ys)))) =
      tree_names u hid_in (suc i) (take n (drop 1 ys)) (bind_inner_fits u t ys fits) (Stands-left (scopes u) (scopes t) (suc i) stands) (Reads-part (drop 1 ys) (suc i) n reads le)
      (λ x j a b. ap (λ o. covered (with_binder o (slice_index xs i) (before i)) x j) first
      ∙ (ap (λ p. (p && nat_eq (slice_index xs i) x) || covered (before i) x j) (lt-ltb j (i + 1 + n) (omega (arith, b)))
      ∙ (λ k. nat_eq (at k) x || c x j (omega (arith, a)) (omega (arith, b, l)) k))) in
      let rest : names_from open_at xs (suc i + n) m ≡ filter (shown hid) (free_in (node_args t (drop n (drop 1 ys)))) =
      tree_names t hid (suc i + n) (drop n (drop 1 ys)) (bind_rest_fits u t ys fits) (Stands-right (scopes u) (scopes t) (suc i) stands) (Reads-rest (drop 1 ys) (suc i) n reads le)
      (λ x j a b. dead u (suc i) x j (Stands-left (scopes u) (scopes t) (suc i) stands) (omega (arith, a))
      ∙ (ap (λ o. covered (with_binder o (slice_index xs i) (before i)) x j) first
      ∙ (ap (λ p. (p && nat_eq (slice_index xs i) x) || covered (before i) x j) (le-ltb j (i + 1 + n) (omega (arith, a)))
      ∙ c x j (omega (arith, a)) (omega (arith, b, l))))) in
      let test : open_at i ≡ false = ap (λ o. is_no_binder o && not (covered (before i) (slice_index xs i) i)) first in
      ap (λ b. cond b (slice_index xs i ∷ names_from open_at xs (suc i) (length (scopes u ++ scopes t))) (names_from open_at xs (suc i) (length (scopes u ++ scopes t)))) test
      ∙ (ap (names_from open_at xs (suc i)) l
      ∙ (names_parted open_at xs (suc i) n m
      ∙ ((λ k. (inner ∙ filter_twice hid y (free_in (node_args u (take n (drop 1 ys))))) k ++ rest k)
      ∙ sym (filter-append (shown hid) (filter (other y) (free_in (node_args u (take n (drop 1 ys))))) (free_in (node_args t (drop n (drop 1 ys))))))))

-- the test for public places is that no open binder has the name
bound_covered : (f : Form) (i n : ℕ) → is_bound_by f i n ≡ covered (before (scopes f.tree) f.names n) (slice_index f.names i) i
bound_covered f i zero = refl
bound_covered f i (suc j) = one (scope_end_of (scopes f.tree) j) (bound_covered f i j)
  where
    one : (o : Option ℕ) → is_bound_by f i j ≡ covered (before (scopes f.tree) f.names j) (slice_index f.names i) i → ((reaches o i && nat_eq (slice_index f.names j) (slice_index f.names i)) || is_bound_by f i j) ≡ covered (with_binder o (slice_index f.names j) (before (scopes f.tree) f.names j)) (slice_index f.names i) i
    one None h = h
    one (Some e) h = ap (λ b. (nat_lt i e && nat_eq (slice_index f.names j) (slice_index f.names i)) || b) h

all_shown : (xs : List ℕ) → filter (λ _. true) xs ≡ xs
all_shown [] = refl
all_shown (x ∷ xs) = ap (λ zs. x ∷ zs) (all_shown xs)

from_zero : (j : ℕ) → 0 + j ≡ j
from_zero j = omega arith

pub public_free : (f : Form) → Fits f → public_names f ≡ free_names_of f
public_free f fits =
    let ss = scopes f.tree in
    let same : is_public f ≡ open_at ss f.names = λ k i. is_no_binder (scope_end_of ss i) && not (bound_covered f i i k) in
    let n = length f.names in
    ap (λ (p : ℕ → Bool). names_where p f.names n) same
    ∙ (ap (λ ks. map (slice_index f.names) (filter (open_at ss f.names) ks)) (below_upward n)
    ∙ (names_upward (open_at ss f.names) f.names 0 n
    ∙ (ap (names_from (open_at ss f.names) f.names 0) fits
    ∙ (tree_names ss f.names f.tree (λ _. false) 0 f.names fits (λ j lt. ap (λ k. slice_index_or ss k None) (from_zero j)) (λ j lt. ap (slice_index f.names) (from_zero j)) (λ x j a b. refl)
    ∙ (all_shown (free_in (node_args f.tree f.names))
    ∙ sym (free_names-named (λ x. x) (node_args f.tree f.names) ∙ map_nothing (free_in (node_args f.tree f.names))))))))
