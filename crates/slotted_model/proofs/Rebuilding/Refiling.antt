-- Rows that go, and rows that are filed anew: the graph stays sane.
use Rattle.std.proofs.Common.{◌≡◌, ◌≢◌, ℕ, suc, ◌<◌, ◌≤◌, List, [], ◌∷◌, Bool, true, false, length, cond, sym, ◌∙◌, ap, refl, subst, inl, inr, arith}
use Rattle.std.specs.Prelude.{Contains, map, filter, not, nat_eq, ◌⊎◌}
use Rattle.std.proofs.lemmas.Bool.{cases_eq, cases_Bool, eq-eqb, ne_eqb, false≢true}
use Rattle.std.proofs.lemmas.List.Sums.{length-filter, count_by-le-length}
use Rattle.slotted_lists.proofs.Contained.{contains_head, contains_tail, contains_cases, Contains-nil, Contains-of_map}
use Rattle.slotted_lists.proofs.Members.{In, In-map, In-of_map, In-Contains, Contains-In}
use Rattle.slotted_theory.specs.Nameless.{DTerm}
use Rattle.slotted_theory.specs.FiniteMaps.{filled}
use Rattle.slotted_theory.specs.Shape.{free_names, number_in, shape}
use Rattle.slotted_theory.proofs.Shapes.{number_in-injective, shape-moved}
use Rattle.slotted_model.specs.Ascending.{names}
use Rattle.slotted_model.specs.Applied.{values, EachChild}
use Rattle.slotted_model.specs.Classes.{canonical_node, IsFull}
use Rattle.slotted_model.specs.Correspondence.{AllDifferent}
use Rattle.slotted_model.specs.Find.{find, Linked}
use Rattle.slotted_model.specs.Normal.{normal}
use Rattle.slotted_model.specs.State.{Row, State, sources, filed_node, normal_node, name_numbered}
use Rattle.slotted_model.specs.Rest.{IsValidIn, LinkedTo, IsRow, IsCurrent, Sane, Represents}
use Rattle.slotted_model.specs.Changes.{GoesOn}
use Rattle.slotted_model.specs.Rebuild.{without, without_row, with_row, row_for, removed_state, refiled_state, IsCovered}
use Rattle.slotted_model.proofs.Data.Sets.{IsAscending-ascending, In-ascending}
use Rattle.slotted_model.proofs.Data.Theory.{moved-agrees, moved-moved, moved-id, free_names-moved}
use Rattle.slotted_model.proofs.Data.Maps.{keys-map_on, values-map_on, filled-map_on, IsInjectiveMap-map_on}
use Rattle.slotted_model.proofs.Represented.Children.{EachChild-map, EachChild-moved}
use Rattle.slotted_model.proofs.Finds.Congruence.{normal-goes_on}
use Rattle.slotted_model.proofs.Finds.NormalIds.{found-again, full-is_valid}
use Rattle.slotted_model.proofs.Finds.Twins.{normal-slots}
use Rattle.slotted_model.proofs.Correspondences.Listing.{different-filter}
use Rattle.slotted_model.proofs.Represented.RenamedIds.{valid-renamed}
use Rattle.slotted_model.proofs.Rebuilding.Rows.{shape-number, name_numbered-at}
use Rattle.slotted_model.proofs.Rebuilding.Events.{normal-found}
use Rattle.slotted_model.proofs.Rebuilding.GoingOn.{still-row, still-listed, still-linked, still-equal}
use Rattle.slotted_model.proofs.Rebuilding.UpTo.{linked_to-joined}
use Rattle.slotted_model.proofs.Rebuilding.QuietTurns.{none-without}

-- members of a filtered list
pub filter-keeps : {X : Type 0} (p : X → Bool) (xs : List X) (x : X) → Contains xs x → p x ≡ true → Contains (filter p xs) x
filter-keeps p [] x c e = c
filter-keeps p (y ∷ xs) x c e = elim (cases_Bool (p y)) [
  | inl t ↦ subst (λ b. Contains (cond b (y ∷ filter p xs) (filter p xs)) x) (sym t) (elim (contains_cases y xs x c) [
    | inl q ↦ subst (Contains (y ∷ filter p xs)) (sym q) (contains_head y (filter p xs))
    | inr h ↦ contains_tail y (filter p xs) x (filter-keeps p xs x h e)
  ])
  | inr f ↦ subst (λ b. Contains (cond b (y ∷ filter p xs) (filter p xs)) x) (sym f) (elim (contains_cases y xs x c) [
    | inl q ↦ absurd (false≢true (sym f ∙ (ap p (sym q) ∙ e)))
    | inr h ↦ filter-keeps p xs x h e
  ])
]

pub filter-from : {X : Type 0} (p : X → Bool) (xs : List X) (x : X) → Contains (filter p xs) x → Contains xs x × (p x ≡ true)
filter-from p [] x c = absurd (Contains-nil x c)
filter-from p (y ∷ xs) x c = elim (cases_Bool (p y)) [
  | inl t ↦ elim (contains_cases y (filter p xs) x (subst (λ b. Contains (cond b (y ∷ filter p xs) (filter p xs)) x) t c)) [
    | inl q ↦ (subst (Contains (y ∷ xs)) (sym q) (contains_head y xs), ap p q ∙ t)
    | inr h ↦ let r = filter-from p xs x h in (contains_tail y xs x r.0, r.1)
  ]
  | inr f ↦
      let r = filter-from p xs x (subst (λ b. Contains (cond b (y ∷ filter p xs) (filter p xs)) x) f c) in
      (contains_tail y xs x r.0, r.1)
]

other-passes : (x o : ℕ) → x ≢ o → not (nat_eq x o) ≡ true
other-passes x o n = ap not (ne_eqb x o n)

passes-other : (x o : ℕ) → not (nat_eq x o) ≡ true → x ≢ o
passes-other x o e q = false≢true (sym (ap not (eq-eqb x o q)) ∙ e)

pub without-keeps : (o x : ℕ) (xs : List ℕ) → Contains xs x → x ≢ o → Contains (without o xs) x
without-keeps o x xs c n = filter-keeps (λ y. not (nat_eq y o)) xs x c (other-passes x o n)

pub without-from : (o x : ℕ) (xs : List ℕ) → Contains (without o xs) x → Contains xs x × (x ≢ o)
without-from o x xs c = let r = filter-from (λ y. not (nat_eq y o)) xs x c in (r.0, passes-other x o r.1)

-- a list without one of its members is one shorter
pub without-length : (o : ℕ) (xs : List ℕ) → AllDifferent xs → Contains xs o → suc (length (without o xs)) ≡ length xs
without-length o [] d c = absurd (Contains-nil o c)
without-length o (x ∷ xs) d c = elim (cases_eq x o) [
  | inl e ↦
      ap (λ b. suc (length (cond b (x ∷ without o xs) (without o xs)))) (ap not (eq-eqb x o e))
      ∙ ap (λ l. suc (length l)) (none-without o xs (λ k. d.0 (subst (Contains xs) (sym e) k)))
  | inr n ↦
      ap (λ b. suc (length (cond b (x ∷ without o xs) (without o xs)))) (other-passes x o n)
      ∙ ap suc (without-length o xs d.1 (elim (contains_cases x xs o c) [
        | inl e ↦ absurd (n (sym e))
        | inr h ↦ h
      ]))
]

row-from : (o : ℕ) (r : Row) (rows : List Row) → Contains (without_row o rows) r → Contains rows r × (r.source ≢ o)
row-from o r rows c = let k = filter-from (λ (q : Row). not (nat_eq q.source o)) rows r c in (k.0, passes-other r.source o k.1)

sources-cond : (b : Bool) (r : Row) (rows : List Row) → sources (cond b (r ∷ rows) rows) ≡ cond b (r.source ∷ sources rows) (sources rows)
sources-cond true r rows = refl
sources-cond false r rows = refl

sources-without : (o : ℕ) (rows : List Row) → sources (without_row o rows) ≡ without o (sources rows)
sources-without o [] = refl
sources-without o (r ∷ rows) =
    sources-cond (not (nat_eq r.source o)) r (without_row o rows)
    ∙ ap (λ l. cond (not (nat_eq r.source o)) (r.source ∷ l) l) (sources-without o rows)

pub rows-no_more : (o : ℕ) (rows : List Row) → length (without_row o rows) ≤ length rows
rows-no_more o rows =
    let p : Row → Bool = λ (q : Row). not (nat_eq q.source o) in
    let e = length-filter p rows in
    let l = count_by-le-length p rows in
    omega (arith, e, l)

-- a change of rows and of what waits alone
module _ (g : State) (sane : Sane g) (rows : List Row) (waiting : List ℕ) where
  abbrev refiled : State
  refiled = record g { rows = rows; waiting = waiting }

  rows-go_on : GoesOn g refiled
  rows-go_on = record { classes = λ i h. (h, refl); finds = λ a v. (v, sym (found-again g.nodes g.found sane.sound.linked a v)); proofs = λ p h. (h, refl); symmetries = λ y c. c }

-- a row can go
module _ (g : State) (sane : Sane g) (o : ℕ) where
  abbrev newer : State
  newer = removed_state g o

  pub removed-goes_on : GoesOn g newer
  removed-goes_on = rows-go_on g sane newer.rows newer.waiting

  pub removed-sane : Sane newer
  removed-sane = record {
    sound = sane.sound;
    filed = record {
      each = λ r c. still-row g newer sane.sound removed-goes_on r (sane.filed.each r (row-from o r g.rows c).0);
      once = subst AllDifferent (sym (sources-without o g.rows)) (different-filter (λ x. not (nat_eq x o)) (sources g.rows) sane.filed.once);
      shapes = λ r q c d. sane.filed.shapes r q (row-from o r g.rows c).0 (row-from o q g.rows d).0;
      waits_once = different-filter (λ x. not (nat_eq x o)) g.waiting sane.filed.waits_once;
      waits_for_row = λ w c.
          let k = without-from o w g.waiting c in
          subst (λ l. Contains l w) (sym (sources-without o g.rows)) (without-keeps o w (sources g.rows) (sane.filed.waits_for_row w k.0) k.1);
      current = λ r c n.
          let k = row-from o r g.rows c in
          let cur : IsCurrent g r = sane.filed.current r k.0 (λ w. n (without-keeps o r.source g.waiting w k.1)) in
          record { in_normal_form = cur.in_normal_form; covered = cur.covered };
    };
    each_listed = λ y c. still-listed g newer sane.sound removed-goes_on y (sane.each_listed y c);
    listed_once = sane.listed_once;
  }

  -- and the graph represents what it did, if the class is linked to that of another row
  pub removed-represents : (j : ℕ) → Contains (sources g.rows) j → j ≢ o → LinkedTo g o j → Represents g → Represents newer
  removed-represents j c n l r = record {
    linked = λ i h.
        let k = r.linked i h in
        elim (cases_eq k.0 o) [
          | inl e ↦ (j, stays j c n, still-linked g newer sane.sound removed-goes_on i j (linked_to-joined g i o j (subst (LinkedTo g i) e k.2) l))
          | inr m ↦ (k.0, stays k.0 k.1 m, still-linked g newer sane.sound removed-goes_on i k.0 k.2)
        ];
    asserted = λ p h x a b fa fb e. still-equal g newer sane.sound removed-goes_on (r.asserted p h x a b fa fb e);
  }
    where
      stays : (x : ℕ) → Contains (sources g.rows) x → x ≢ o → Contains (sources newer.rows) x
      stays x d m = subst (λ xs. Contains xs x) (sym (sources-without o g.rows)) (without-keeps o x (sources g.rows) d m)

-- normal forms are in normal form
pub normal-again : (g : State) → Linked g.nodes g.found → (d : DTerm) → EachChild (IsValidIn g) d.args → normal g.found (normal g.found d) ≡ normal g.found d
normal-again g l d c = sym (normal-goes_on (IsValidIn g) g.found g.found (λ a v. sym (found-again g.nodes g.found l a v)) d c)

-- the canonical node of a class in normal form as a row
module _ (g : State) (sane : Sane g) (o : ℕ) (h : o < length g.nodes) where
  abbrev N : DTerm
  N = normal_node g o

  abbrev xs : List ℕ
  xs = free_names N.args

  abbrev q : Row
  q = row_for g o

  pub canonical-valid : EachChild (IsValidIn g) (canonical_node g.nodes o).args
  canonical-valid = EachChild-map (λ a. (a.0 < o) × IsFull g.nodes a) (IsValidIn g) (λ a k. full-is_valid g.nodes g.found sane.sound.linked a k.1) (canonical_node g.nodes o).args (sane.sound.canonical.children o h)

  N-valid : EachChild (IsValidIn g) N.args
  N-valid = EachChild-map (λ a. IsValidIn g a × (find g.found a ≡ a)) (IsValidIn g) (λ a k. k.0) N.args (normal-found g sane.sound.linked (canonical_node g.nodes o).args canonical-valid)

  -- the row files the node in normal form
  pub row_for-files : filed_node q ≡ N
  row_for-files =
      let S : List ℕ = names (shape N) in
      let at : (x : ℕ) → In x xs → filled q.slots (number_in xs x) ≡ x =
      λ x k.
      let j : In (number_in xs x) S = In-ascending (number_in xs x) (free_names (shape N).args) (subst (In (number_in xs x)) (sym (free_names-moved (number_in xs) N.args)) (In-map (number_in xs) xs x k)) in
      filled-map_on (name_numbered N) S (number_in xs x) j ∙ name_numbered-at N x k in
      moved-moved (filled q.slots) (number_in xs) N ∙ (moved-agrees (λ x. filled q.slots (number_in xs x)) (λ x. x) N at ∙ moved-id N)

  name-of : (k : ℕ) → In k (names (shape N)) → In (name_numbered N k) xs × (k ≡ number_in xs (name_numbered N k))
  name-of k i =
      let r : (x : ℕ) × In x xs × (k ≡ number_in xs x) = shape-number N k i in
      let e : name_numbered N k ≡ r.0 = ap (name_numbered N) r.2 ∙ name_numbered-at N r.0 r.1 in
      (subst (λ z. In z xs) (sym e) r.1, r.2 ∙ ap (number_in xs) (sym e))

  pub row_for-row : IsRow g q
  row_for-row = record {
    in_range = h;
    operator = sane.sound.canonical.operators o h;
    children = EachChild-moved (IsValidIn g) (λ f inj a v. valid-renamed _ g.nodes f inj a v) (number_in xs) (number_in-injective xs) N.args N-valid;
    is_shape = shape-moved (number_in xs) (number_in-injective xs) N;
    numbers = keys-map_on (name_numbered N) (names (shape N));
    injective = IsInjectiveMap-map_on (name_numbered N) (names (shape N)) (λ x y i j e. (name-of x i).1 ∙ (ap (number_in xs) e ∙ sym (name-of y j).1)) (IsAscending-ascending (free_names (shape N).args));
    within = λ s c.
        let i : In s (map (name_numbered N) (names (shape N))) = subst (In s) (values-map_on (name_numbered N) (names (shape N))) (In-Contains (values q.slots) s c) in
        let r : (k : ℕ) × In k (names (shape N)) × (s ≡ name_numbered N k) = In-of_map (name_numbered N) (names (shape N)) s i in
        let n : In s xs = subst (λ z. In z xs) (sym r.2) (name-of r.0 r.1).0 in
        normal-slots g.nodes sane.sound.canonical g.found o h s (Contains-In (names N) s (In-ascending s xs n));
    normal_form = ap (normal g.found) row_for-files ∙ normal-again g sane.sound.linked (canonical_node g.nodes o) canonical-valid;
  }

-- a row in the place of another of its source
with_row-source : (q r : Row) → (cond (nat_eq r.source q.source) q r).source ≡ r.source
with_row-source q r = elim (cases_eq r.source q.source) [
  | inl e ↦ ap (λ b. (cond b q r).source) (eq-eqb r.source q.source e) ∙ sym e
  | inr n ↦ ap (λ b. (cond b q r).source) (ne_eqb r.source q.source n)
]

pub sources-with_row : (q : Row) (rows : List Row) → sources (with_row q rows) ≡ sources rows
sources-with_row q [] = refl
sources-with_row q (r ∷ rows) = λ i. with_row-source q r i ∷ sources-with_row q rows i

pub with_row-from : (q : Row) (rows : List Row) (r : Row) → Contains (with_row q rows) r → (r ≡ q) ⊎ (Contains rows r × (r.source ≢ q.source))
with_row-from q rows r c =
    let k = Contains-of_map (λ (x : Row). cond (nat_eq x.source q.source) q x) rows r c in
    elim (cases_eq k.0.source q.source) [
      | inl e ↦ inl (sym k.2 ∙ ap (λ b. cond b q k.0) (eq-eqb k.0.source q.source e))
      | inr n ↦
          let e : k.0 ≡ r = ap (λ b. cond b q k.0) (sym (ne_eqb k.0.source q.source n)) ∙ k.2 in
          inr (subst (λ x. Contains rows x × (x.source ≢ q.source)) e (k.1, n))
    ]

-- a node can be filed anew, if it is covered and no other row has its shape
module _ (g : State) (sane : Sane g) (o : ℕ) (waits : Contains g.waiting o) (covered : IsCovered g o) (alone : (r : Row) → Contains g.rows r → r.source ≢ o → r.shape ≢ shape (normal_node g o)) where
  abbrev anew : State
  anew = refiled_state g o

  abbrev row : Row
  row = row_for g o

  pub refiled-goes_on : GoesOn g anew
  refiled-goes_on = rows-go_on g sane anew.rows anew.waiting

  pub refiled-sane : o < length g.nodes → Sane anew
  refiled-sane h = record {
    sound = sane.sound;
    filed = record {
      each = λ r c. elim (with_row-from row g.rows r c) [
        | inl e ↦ subst (IsRow anew) (sym e) (still-row g anew sane.sound refiled-goes_on row (row_for-row g sane o h))
        | inr k ↦ still-row g anew sane.sound refiled-goes_on r (sane.filed.each r k.0)
      ];
      once = subst AllDifferent (sym (sources-with_row row g.rows)) sane.filed.once;
      shapes = λ r s c d e. elim (with_row-from row g.rows r c) [
        | inl p ↦ elim (with_row-from row g.rows s d) [
          | inl t ↦ ap (λ (x : Row). x.source) (p ∙ sym t)
          | inr k ↦ absurd (alone s k.0 k.1 (sym e ∙ ap (λ (x : Row). x.shape) p))
        ]
        | inr j ↦ elim (with_row-from row g.rows s d) [
          | inl t ↦ absurd (alone r j.0 j.1 (e ∙ ap (λ (x : Row). x.shape) t))
          | inr k ↦ sane.filed.shapes r s j.0 k.0 e
        ]
      ];
      waits_once = different-filter (λ x. not (nat_eq x o)) g.waiting sane.filed.waits_once;
      waits_for_row = λ w c. subst (λ l. Contains l w) (sym (sources-with_row row g.rows)) (sane.filed.waits_for_row w (without-from o w g.waiting c).0);
      current = λ r c n. elim (with_row-from row g.rows r c) [
        | inl e ↦ subst (IsCurrent anew) (sym e) (record { in_normal_form = row_for-files g sane o h; covered = covered })
        | inr k ↦
            let cur : IsCurrent g r = sane.filed.current r k.0 (λ w. n (without-keeps o r.source g.waiting w k.1)) in
            record { in_normal_form = cur.in_normal_form; covered = cur.covered }
      ];
    };
    each_listed = λ y c. still-listed g anew sane.sound refiled-goes_on y (sane.each_listed y c);
    listed_once = sane.listed_once;
  }
