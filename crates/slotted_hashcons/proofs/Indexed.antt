-- Rows by place and the places of classes, as nodes are filed and taken out.
use Rattle.std.proofs.Common.{◌≡◌, ℕ, zero, suc, ◌<◌, ◌-◌, List, [], ◌∷◌, ◌++◌, length, Option, Some, None, map, sym, ◌∙◌, ap, refl, subst, inl, inr, arith}
use Rattle.std.specs.List.{count_by}
use Rattle.std.specs.Prelude.{◌≢◌, is_some, option_map, slice_get, slice_index_or, set, swap_remove}
use Rattle.std.proofs.Math.ListN as seq
use Rattle.std.proofs.lemmas.Bool.{cases_eq}
use Rattle.std.proofs.lemmas.List.{get_or-set_same, get_or-set_other, length-append, length-map, length-set}
use Rattle.std.proofs.lemmas.Option.{slice_get_within}
use Rattle.slotted_lists.proofs.Options.{Some-same}
use Rattle.slotted_lists.proofs.Lists.{slice_get-append_left, slice_get-append_end}
use Rattle.slotted_nodes.specs.Form.{Form}
use Rattle.slotted_hashcons.specs.Filed.{Filing, FiledRow, HasKey, IsNewKey, IsNewToOthers, HasKeysOnce, IsIndexed, filed_at, filed_of, place_of}
use Rattle.slotted_hashcons.proofs.CountedPlaces.{length-swapped, taken-added, taken-freed, taken-mapped, taken-moved, taken-put}
use Rattle.slotted_hashcons.proofs.Places.{same-places, at-append_cases, swapped-other, swapped-cases}

-- the class of a row that stands somewhere
pub source-row : (o : Option FiledRow) (i : ℕ) → Some i ≡ option_map (λ (r : FiledRow). r.1.0) o → (r : FiledRow) × (o ≡ Some r) × (r.1.0 ≡ i)
source-row None i e = cc
source-row (Some r) i e = (r, refl, cc)

pub no-row : (o : Option FiledRow) → None ≡ option_map (λ (r : FiledRow). r.1.0) o → o ≡ None
no-row None e = refl
no-row (Some r) e = cc

-- what the classes have filed
abbrev pub filed_in : List FiledRow → List (Option ℕ) → List (Option Filing)
filed_in rows places = map (filed_at rows) places

-- what a class has filed stands at its place
pub filed-at : (rows : List FiledRow) (places : List (Option ℕ)) (i : ℕ) → filed_of (filed_in rows places) i ≡ filed_at rows (place_of places i)
filed-at rows places i = seq.get_or-map (filed_at rows) places i None

none-some : {X : Type 0} (x : X) → None ≡ Some x → ⊥
none-some x e = cc

-- a class with a place has the row there
pub filed-row : (rows : List FiledRow) (places : List (Option ℕ)) → IsIndexed rows places → (i p : ℕ) → place_of places i ≡ Some p →
    (r : FiledRow) × (slice_get rows p ≡ Some r) × (r.1.0 ≡ i) × (filed_of (filed_in rows places) i ≡ Some (r.0, r.1.1))
filed-row rows places h i p e =
    let r = h.rows_at i p e in
    (r.0, r.1, r.2, filed-at rows places i ∙ ap (filed_at rows) e ∙ ap (option_map (λ (q : FiledRow). (q.0, q.1.1))) r.1)

-- a class with a key has a place, where a row with the key stands
pub key-row : (rows : List FiledRow) (places : List (Option ℕ)) → IsIndexed rows places → (i : ℕ) (f : Form) → HasKey (filed_in rows places) i f →
    (p : ℕ) × (r : FiledRow) × (slice_get rows p ≡ Some r) × (r.1.0 ≡ i) × (r.0 ≡ f)
key-row rows places h i f k = elim (place_of places i) as (λ o. place_of places i ≡ o → (p : ℕ) × (r : FiledRow) × (slice_get rows p ≡ Some r) × (r.1.0 ≡ i) × (r.0 ≡ f)) [
  | None ↦ λ e. absurd (none-some (f, k.0) (sym (ap (filed_at rows) e) ∙ sym (filed-at rows places i) ∙ k.1))
  | Some p ↦ λ e. let r = filed-row rows places h i p e in
      (p, r.0, r.1, r.2, ap (λ (x : Filing). x.0) (Some-same (r.0.0, r.0.1.1) (f, k.0) (sym r.3 ∙ k.1)))
] refl

-- each row is the key of its class
pub row-key : (rows : List FiledRow) (places : List (Option ℕ)) → IsIndexed rows places → (p : ℕ) (r : FiledRow) → slice_get rows p ≡ Some r → HasKey (filed_in rows places) r.1.0 r.0
row-key rows places h p r e = (
  r.1.1,
  filed-at rows places r.1.0 ∙ ap (filed_at rows) (h.sources p r e) ∙ ap (option_map (λ (q : FiledRow). (q.0, q.1.1))) e,
)

pub keys-once : (rows : List FiledRow) (places : List (Option ℕ)) → IsIndexed rows places → HasKeysOnce (filed_in rows places)
keys-once rows places h i j f a b =
    let p = key-row rows places h i f a in
    let q = key-row rows places h j f b in
    let same = h.keys p.0 q.0 p.1 q.1 p.2 q.2 (p.4 ∙ sym q.4) in
    let r = Some-same p.1 q.1 (sym p.2 ∙ ap (slice_get rows) same ∙ q.2) in
    sym p.3 ∙ ap (λ (x : FiledRow). x.1.0) r ∙ q.3

-- a class without a node has no place
pub no-place : (rows : List FiledRow) (places : List (Option ℕ)) → IsIndexed rows places → (i : ℕ) → filed_of (filed_in rows places) i ≡ None → place_of places i ≡ None
no-place rows places h i e = elim (place_of places i) as (λ o. place_of places i ≡ o → o ≡ None) [
  | None ↦ λ k. refl
  | Some p ↦ λ k. let r = filed-row rows places h i p k in absurd (none-some (r.0.0, r.0.1.1) (sym e ∙ r.3))
] refl

-- one class more
pub place-added : {X : Type 0} (places : List (Option X)) (i : ℕ) → slice_index_or (places ++ None ∷ []) i None ≡ slice_index_or places i None
place-added [] zero = refl
place-added [] (suc i) = refl
place-added (o ∷ places) zero = refl
place-added (o ∷ places) (suc i) = place-added places i

pub indexed-added : (rows : List FiledRow) (places : List (Option ℕ)) → IsIndexed rows places → IsIndexed rows (places ++ None ∷ [])
indexed-added rows places h = record {
  rows_at = λ i p e. h.rows_at i p (sym (place-added places i) ∙ e);
  sources = λ p r e. place-added places r.1.0 ∙ h.sources p r e;
  keys = h.keys;
  count = h.count ∙ sym (taken-added places);
}

-- a class with a place is one of those that have one
pub place-within : {X : Type 0} (places : List (Option X)) (i : ℕ) (p : X) → slice_index_or places i None ≡ Some p → i < length places
place-within [] i p e = absurd (none-some p e)
place-within (o ∷ places) zero p e = omega arith
place-within (o ∷ places) (suc i) p e = let w = place-within places i p e in omega (arith, w)

-- the key of a class that has nothing filed any more is new, where no other class has it
pub new-key_taken : (v : List (Option Filing)) (i : ℕ) (f : Form) → i < length v → IsNewToOthers v i f → IsNewKey (set v i None) f
new-key_taken v i f within n j k = elim (cases_eq j i) [
  | inl e ↦
      let a : filed_of (set v i None) j ≡ None = ap (filed_of (set v i None)) e ∙ get_or-set_same v i None None within in
      let b = k.1 in
      cc
  | inr d ↦ n j d (k.0, sym (get_or-set_other v i j None None d) ∙ k.1)
]

-- a node is filed
module _ (rows : List FiledRow) (places : List (Option ℕ)) (c : ℕ) (f : Form) (m : List (ℕ × ℕ)) (h : IsIndexed rows places) (within : c < length places) (free : place_of places c ≡ None) (new : IsNewKey (filed_in rows places) f) where
  abbrev row : FiledRow
  row = (f, (c, m))

  abbrev more : List FiledRow
  more = rows ++ row ∷ []

  abbrev now : List (Option ℕ)
  now = set places c (Some (length rows))

  now-same : place_of now c ≡ Some (length rows)
  now-same = get_or-set_same places c (Some (length rows)) None within

  now-other : (i : ℕ) → i ≢ c → place_of now i ≡ place_of places i
  now-other i n = get_or-set_other places c i (Some (length rows)) None n

  not-there : (p : ℕ) (r : FiledRow) → slice_get rows p ≡ Some r → r.1.0 ≢ c
  not-there p r e k = none-some p (sym free ∙ ap (place_of places) (sym k) ∙ h.sources p r e)

  other-key : (p : ℕ) (r : FiledRow) → slice_get rows p ≡ Some r → r.0 ≢ f
  other-key p r e k = new r.1.0 (subst (HasKey (filed_in rows places) r.1.0) k (row-key rows places h p r e))

  pub indexed-filed : IsIndexed more now
  indexed-filed = record {
    rows_at = λ i p e. elim (cases_eq i c) [
      | inl k ↦ let q = Some-same (length rows) p (sym now-same ∙ ap (place_of now) (sym k) ∙ e) in
          (row, subst (λ x. slice_get more x ≡ Some row) q (slice_get-append_end rows row), sym k)
      | inr n ↦ let r = h.rows_at i p (sym (now-other i n) ∙ e) in (r.0, slice_get-append_left rows (row ∷ []) p r.0 r.1, r.2)
    ];
    sources = λ p r e. elim (at-append_cases rows row p r e) [
      | inl k ↦ now-other r.1.0 (not-there p r k) ∙ h.sources p r k
      | inr k ↦ ap (λ (x : FiledRow). place_of now x.1.0) k.1 ∙ now-same ∙ ap Some (sym k.0)
    ];
    keys = λ p q r s a b e. elim (at-append_cases rows row p r a) [
      | inl k ↦ elim (at-append_cases rows row q s b) [
        | inl l ↦ h.keys p q r s k l e
        | inr l ↦ absurd (other-key p r k (e ∙ ap (λ (x : FiledRow). x.0) l.1))
      ]
      | inr k ↦ elim (at-append_cases rows row q s b) [
        | inl l ↦ absurd (other-key q s l (sym e ∙ ap (λ (x : FiledRow). x.0) k.1))
        | inr l ↦ k.0 ∙ sym l.0
      ]
    ];
    count = omega (arith, length-append rows (row ∷ []), taken-put places c (length rows) within free, h.count);
  }

  filed-more : (i : ℕ) → i ≢ c → filed_of (filed_in more now) i ≡ filed_of (filed_in rows places) i
  filed-more i n = filed-at more now i ∙ ap (filed_at more) (now-other i n) ∙ (elim (place_of places i) as (λ o. place_of places i ≡ o → filed_at more o ≡ filed_at rows o) [
    | None ↦ λ e. refl
    | Some p ↦ λ e. let r = h.rows_at i p e in
        ap (option_map (λ (q : FiledRow). (q.0, q.1.1))) (slice_get-append_left rows (row ∷ []) p r.0 r.1 ∙ sym r.1)
  ]) refl ∙ sym (filed-at rows places i)

  pub view-filed : filed_in more now ≡ set (filed_in rows places) c (Some (f, m))
  view-filed = same-places (filed_in more now) (set (filed_in rows places) c (Some (f, m))) None
      (length-map now (filed_at more) ∙ length-set places c (Some (length rows)) ∙ sym (length-map places (filed_at rows)) ∙ sym (length-set (filed_in rows places) c (Some (f, m))))
      (λ i. elim (cases_eq i c) [
        | inl k ↦ subst (λ x. filed_of (filed_in more now) x ≡ filed_of (set (filed_in rows places) c (Some (f, m))) x) (sym k)
            (filed-at more now c ∙ ap (filed_at more) now-same ∙ ap (option_map (λ (q : FiledRow). (q.0, q.1.1))) (slice_get-append_end rows row)
            ∙ sym (get_or-set_same (filed_in rows places) c (Some (f, m)) None (subst (λ n. c < n) (sym (length-map places (filed_at rows))) within)))
        | inr n ↦ filed-more i n ∙ sym (get_or-set_other (filed_in rows places) c i (Some (f, m)) None n)
      ])

-- a node is taken out, and the last one moves into its place
module _ (rows : List FiledRow) (places : List (Option ℕ)) (c p : ℕ) (d : FiledRow) (h : IsIndexed rows places) (at : place_of places c ≡ Some p) where
  abbrev fewer : List FiledRow
  fewer = swap_remove rows p d

  abbrev without : List (Option ℕ)
  without = set places c None

  taken : (r : FiledRow) × (slice_get rows p ≡ Some r) × (r.1.0 ≡ c)
  taken = h.rows_at c p at

  within : p < length rows
  within = slice_get_within rows p taken.0 taken.1

  without-same : place_of without c ≡ None
  without-same = get_or-set_same places c None None (place-within places c p at)

  without-other : (i : ℕ) → i ≢ c → place_of without i ≡ place_of places i
  without-other i n = get_or-set_other places c i None None n

  -- another class has another place
  apart : (i q : ℕ) → i ≢ c → place_of places i ≡ Some q → q ≢ p
  apart i q n e k =
      let r = h.rows_at i q e in
      let same = Some-same r.0 taken.0 (sym r.1 ∙ ap (slice_get rows) k ∙ taken.1) in
      n (sym r.2 ∙ ap (λ (x : FiledRow). x.1.0) same ∙ taken.2)

  -- a row at another place is of another class
  other-source : (q : ℕ) (r : FiledRow) → slice_get rows q ≡ Some r → q ≢ p → r.1.0 ≢ c
  other-source q r e n k = n (Some-same q p (sym (h.sources q r e) ∙ ap (place_of places) k ∙ at))

  keys-fewer : (q s : ℕ) (a b : FiledRow) → slice_get fewer q ≡ Some a → slice_get fewer s ≡ Some b → a.0 ≡ b.0 → q ≡ s
  keys-fewer q s a b e k same =
      let x = swapped-cases rows p d q a within e in
      let y = swapped-cases rows p d s b within k in
      elim x.1 [
        | inl m ↦ elim y.1 [
          | inl n ↦ h.keys q s a b m.1 n.1 same
          | inr n ↦ let z = h.keys q (length rows - 1) a b m.1 n.1 same in absurd (omega (arith, z, x.0))
        ]
        | inr m ↦ elim y.1 [
          | inl n ↦ let z = h.keys (length rows - 1) s a b m.1 n.1 same in absurd (omega (arith, z, y.0))
          | inr n ↦ m.0 ∙ sym n.0
        ]
      ]

  count-fewer : length fewer ≡ count_by is_some without
  count-fewer = omega (arith, length-swapped rows p d within, taken-freed places c p (place-within places c p at) at, h.count)

  -- the node was the last one
  module _ (end : p ≡ length rows - 1) where
    stays : (i q : ℕ) → i ≢ c → place_of places i ≡ Some q → (q < length rows - 1) × (q ≢ p)
    stays i q n e =
        let r = h.rows_at i q e in
        let w = slice_get_within rows q r.0 r.1 in
        let m = apart i q n e in (omega (arith, w, m, end), m)

    pub indexed-last : IsIndexed fewer without
    indexed-last = record {
      rows_at = λ i q e. elim (cases_eq i c) [
        | inl k ↦ absurd (none-some q (sym without-same ∙ ap (place_of without) (sym k) ∙ e))
        | inr n ↦ let f = sym (without-other i n) ∙ e in let r = h.rows_at i q f in let w = stays i q n f in
            (r.0, swapped-other rows p d q r.0 w.0 w.1 r.1, r.2)
      ];
      sources = λ q r e. let x = swapped-cases rows p d q r within e in elim x.1 [
        | inl m ↦ without-other r.1.0 (other-source q r m.1 m.0) ∙ h.sources q r m.1
        | inr m ↦ let w = x.0 in let z = m.0 in absurd (omega (arith, w, z, end))
      ];
      keys = keys-fewer;
      count = count-fewer;
    }

    pub view-last : filed_in fewer without ≡ set (filed_in rows places) c None
    view-last = same-places (filed_in fewer without) (set (filed_in rows places) c None) None
        (length-map without (filed_at fewer) ∙ length-set places c None ∙ sym (length-map places (filed_at rows)) ∙ sym (length-set (filed_in rows places) c None))
        (λ i. elim (cases_eq i c) [
          | inl k ↦ subst (λ x. filed_of (filed_in fewer without) x ≡ filed_of (set (filed_in rows places) c None) x) (sym k)
              (filed-at fewer without c ∙ ap (filed_at fewer) without-same ∙ sym (get_or-set_same (filed_in rows places) c None None (subst (λ n. c < n) (sym (length-map places (filed_at rows))) (place-within places c p at))))
          | inr n ↦ filed-at fewer without i ∙ ap (filed_at fewer) (without-other i n) ∙ (elim (place_of places i) as (λ o. place_of places i ≡ o → filed_at fewer o ≡ filed_at rows o) [
            | None ↦ λ e. refl
            | Some q ↦ λ e. let r = h.rows_at i q e in let w = stays i q n e in
                ap (option_map (λ (x : FiledRow). (x.0, x.1.1))) (swapped-other rows p d q r.0 w.0 w.1 r.1 ∙ sym r.1)
          ]) refl ∙ sym (filed-at rows places i) ∙ sym (get_or-set_other (filed_in rows places) c i None None n)
        ])

  -- another one was the last, and moves
  module _ (mover : FiledRow) (moves : slice_get fewer p ≡ Some mover) where
    abbrev after : List (Option ℕ)
    after = set without mover.1.0 (Some p)

    was-last : (p < length rows - 1) × (slice_get rows (length rows - 1) ≡ Some mover)
    was-last = let x = swapped-cases rows p d p mover within moves in (x.0, elim x.1 [ inl m ↦ absurd (m.0 refl) | inr m ↦ m.1 ])

    at-last : place_of places mover.1.0 ≡ Some (length rows - 1)
    at-last = h.sources (length rows - 1) mover was-last.1

    not-taken : mover.1.0 ≢ c
    not-taken k = let z = Some-same (length rows - 1) p (sym at-last ∙ ap (place_of places) k ∙ at) in let w = was-last.0 in omega (arith, z, w)

    mover-within : mover.1.0 < length without
    mover-within = subst (λ n. mover.1.0 < n) (sym (length-set places c None)) (place-within places mover.1.0 (length rows - 1) at-last)

    after-same : place_of after mover.1.0 ≡ Some p
    after-same = get_or-set_same without mover.1.0 (Some p) None mover-within

    after-other : (i : ℕ) → i ≢ mover.1.0 → place_of after i ≡ place_of without i
    after-other i n = get_or-set_other without mover.1.0 i (Some p) None n

    pub source-within : mover.1.0 < length places
    source-within = place-within places mover.1.0 (length rows - 1) at-last

    keeps : (i q : ℕ) → i ≢ c → i ≢ mover.1.0 → place_of places i ≡ Some q → (q < length rows - 1) × (q ≢ p)
    keeps i q n m e =
        let r = h.rows_at i q e in
        let w = slice_get_within rows q r.0 r.1 in
        let other : q ≢ length rows - 1 = λ k. m (sym r.2 ∙ ap (λ (x : FiledRow). x.1.0) (Some-same r.0 mover (sym r.1 ∙ ap (slice_get rows) k ∙ was-last.1))) in
        (omega (arith, w, other), apart i q n e)

    pub indexed-moved : IsIndexed fewer after
    indexed-moved = record {
      rows_at = λ i q e. elim (cases_eq i mover.1.0) [
        | inl k ↦ let z = Some-same p q (sym after-same ∙ ap (place_of after) (sym k) ∙ e) in (mover, subst (λ x. slice_get fewer x ≡ Some mover) z moves, sym k)
        | inr m ↦ elim (cases_eq i c) [
          | inl k ↦ absurd (none-some q (sym without-same ∙ ap (place_of without) (sym k) ∙ sym (after-other i m) ∙ e))
          | inr n ↦ let f = sym (without-other i n) ∙ sym (after-other i m) ∙ e in let r = h.rows_at i q f in let w = keeps i q n m f in
              (r.0, swapped-other rows p d q r.0 w.0 w.1 r.1, r.2)
        ]
      ];
      sources = λ q r e. let x = swapped-cases rows p d q r within e in elim x.1 [
        | inl m ↦ let n = other-source q r m.1 m.0 in
            let w = x.0 in
            after-other r.1.0 (λ k. let z = Some-same q (length rows - 1) (sym (h.sources q r m.1) ∙ ap (place_of places) k ∙ at-last) in omega (arith, z, w)) ∙ without-other r.1.0 n ∙ h.sources q r m.1
        | inr m ↦ let same = Some-same r mover (sym m.1 ∙ was-last.1) in
            ap (λ (y : FiledRow). place_of after y.1.0) same ∙ after-same ∙ ap Some (sym m.0)
      ];
      keys = keys-fewer;
      count = omega (arith, count-fewer, taken-moved without mover.1.0 (length rows - 1) p mover-within (without-other mover.1.0 not-taken ∙ at-last));
    }

    view-mover : filed_at fewer (place_of after mover.1.0) ≡ filed_at rows (place_of places mover.1.0)
    view-mover = ap (filed_at fewer) after-same ∙ ap (option_map (λ (x : FiledRow). (x.0, x.1.1))) (moves ∙ sym was-last.1) ∙ sym (ap (filed_at rows) at-last)

    view-other : (i : ℕ) → i ≢ c → filed_at fewer (place_of after i) ≡ filed_at rows (place_of places i)
    view-other i n = elim (cases_eq i mover.1.0) [
      | inl k ↦ subst (λ x. filed_at fewer (place_of after x) ≡ filed_at rows (place_of places x)) (sym k) view-mover
      | inr m ↦ ap (filed_at fewer) (after-other i m ∙ without-other i n) ∙ (elim (place_of places i) as (λ o. place_of places i ≡ o → filed_at fewer o ≡ filed_at rows o) [
        | None ↦ λ e. refl
        | Some q ↦ λ e. let r = h.rows_at i q e in let w = keeps i q n m e in
            ap (option_map (λ (x : FiledRow). (x.0, x.1.1))) (swapped-other rows p d q r.0 w.0 w.1 r.1 ∙ sym r.1)
      ]) refl
    ]

    pub view-moved : filed_in fewer after ≡ set (filed_in rows places) c None
    view-moved = same-places (filed_in fewer after) (set (filed_in rows places) c None) None
        (length-map after (filed_at fewer) ∙ length-set without mover.1.0 (Some p) ∙ length-set places c None ∙ sym (length-map places (filed_at rows)) ∙ sym (length-set (filed_in rows places) c None))
        (λ i. elim (cases_eq i c) [
          | inl k ↦ subst (λ x. filed_of (filed_in fewer after) x ≡ filed_of (set (filed_in rows places) c None) x) (sym k)
              (filed-at fewer after c ∙ ap (filed_at fewer) (after-other c (λ e. not-taken (sym e)) ∙ without-same) ∙ sym (get_or-set_same (filed_in rows places) c None None (subst (λ n. c < n) (sym (length-map places (filed_at rows))) (place-within places c p at))))
          | inr n ↦ filed-at fewer after i ∙ view-other i n ∙ sym (filed-at rows places i) ∙ sym (get_or-set_other (filed_in rows places) c i None None n)
        ])

-- the filed nodes are as many as the rows
pub filed-count : (rows : List FiledRow) (places : List (Option ℕ)) → IsIndexed rows places → count_by is_some (filed_in rows places) ≡ length rows
filed-count rows places h =
    taken-mapped (filed_at rows) places refl (λ i p e. let r = h.rows_at i p e in ((r.0.0, r.0.1.1), ap (option_map (λ (q : FiledRow). (q.0, q.1.1))) r.1)) ∙ sym h.count
