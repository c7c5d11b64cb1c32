-- Sums along entries: each child has a lower rank, so that they do not depend on how far ranks are looked at.
use Rattle.std.proofs.Common.{◌≡◌, ◌<◌, ◌≤◌, ◌+◌, ◌∙◌, ℕ, zero, suc, List, [], ◌∷◌, Option, None, Some, drop, length, get_or, refl, ap, sym, subst, arith}
use Rattle.std.specs.Prelude.{Contains, IsTrue}
use Rattle.std.proofs.lemmas.Bool.{false≢true, ltb-true}
use Rattle.std.specs.List.{sum_by}
use Rattle.std.proofs.lemmas.List.Sums.{sum_by-cons, sum_by-drop_more}
use Rattle.slotted_lists.proofs.Contained.{contains_head, contains_tail}
use Rattle.slotted_nodes.specs.Form.{Form, children}
use Rattle.slotted_model.specs.Applied.{Applied}
use Rattle.slotted_hashcons.specs.FiledRows.{key_children}
use Rattle.slotted_data.proofs.NewData.{children-count}
use Rattle.slotted_graph.specs.declared.entry.TermEntry.{TermEntry}
use Rattle.slotted_graph.specs.declared.extracting.Frame.{Frame}
use Rattle.slotted_graph.specs.Terms.{IsOrdered, class_sum, entry_at, entry_sum, is_below, rank_in, slots_at, slots_for, slots_of, sum_for}
use Rattle.slotted_graph.specs.Frames.{IsFrameFor, made_count, next_child, rest_from, steps_of, waiting_rest, waiting_work, work_for, work_from}
use Rattle.slotted_graph.proofs.ChildClasses.{child-contained, children-renamed, class-of_child}

-- sums of what is the same at each element
sums-same : (f g : ℕ → ℕ) (xs : List ℕ) → ((x : ℕ) → Contains xs x → f x ≡ g x) → sum_by f xs ≡ sum_by g xs
sums-same f g [] h = refl
sums-same f g (x ∷ xs) h =
    omega (arith, sum_by-cons f x xs, sum_by-cons g x xs, h x (contains_head x xs), sums-same f g xs (λ y c. h y (contains_tail x xs y c)))

-- an entry of a rank below n
pub record HasBelow {L C : Type 0} (n : ℕ) (o : Option (TermEntry L C)) : Type 0 where
  pub entry : TermEntry L C
  pub there : o ≡ Some entry
  pub below : entry.rank < n

pub has-below : {L C : Type 0} (n : ℕ) (o : Option (TermEntry L C)) → IsTrue (is_below n o) → HasBelow n o
has-below n None h = absurd (false≢true h)
has-below n (Some e) h = record { entry = e; there = refl; below = ltb-true e.rank n h }

module _ {L C : Type 0} (form : L → Form) (es : List (Option (TermEntry L C))) (ordered : IsOrdered form es) where
  rank-is : (c : ℕ) (e : TermEntry L C) → entry_at es c ≡ Some e → rank_in (entry_at es c) ≡ e.rank
  rank-is c e at = ap (λ (o : Option (TermEntry L C)). rank_in o) at

  -- above its rank a class has one sum
  stable : (weight : TermEntry L C → ℕ) (n m c : ℕ) (e : TermEntry L C) → entry_at es c ≡ Some e → e.rank < n → e.rank < m →
      class_sum form weight n es c ≡ class_sum form weight m es c
  stable weight zero m c e at l k = absurd (omega (arith, l))
  stable weight (suc n) zero c e at l k = absurd (omega (arith, k))
  stable weight (suc n) (suc m) c e at l k =
      let cs : List ℕ = key_children (form e.node) in
      let children : sum_by (class_sum form weight n es) cs ≡ sum_by (class_sum form weight m es) cs =
      sums-same (class_sum form weight n es) (class_sum form weight m es) cs (λ d i.
      let b = has-below e.rank (entry_at es d) ((ordered c e at).2 d i) in
      stable weight n m d b.entry b.there (omega (arith, b.below, l)) (omega (arith, b.below, k))) in
      ap (entry_sum form weight (class_sum form weight n es)) at
      ∙ (ap (λ s. weight e + s) children ∙ sym (ap (entry_sum form weight (class_sum form weight m es)) at))

  -- that of its children, and its own weight
  sum-is : (weight : TermEntry L C → ℕ) (c : ℕ) (e : TermEntry L C) → entry_at es c ≡ Some e →
      sum_for form weight es c ≡ weight e + sum_by (sum_for form weight es) (key_children (form e.node))
  sum-is weight c e at =
      let n : ℕ = rank_in (entry_at es c) in
      let cs : List ℕ = key_children (form e.node) in
      let children : sum_by (class_sum form weight n es) cs ≡ sum_by (sum_for form weight es) cs =
      sums-same (class_sum form weight n es) (sum_for form weight es) cs (λ d i.
      let b = has-below e.rank (entry_at es d) ((ordered c e at).2 d i) in
      stable weight n (suc (rank_in (entry_at es d))) d b.entry b.there
      (omega (arith, b.below, rank-is c e at)) (omega (arith, rank-is d b.entry b.there))) in
      ap (entry_sum form weight (class_sum form weight n es)) at ∙ ap (λ s. weight e + s) children

  -- a frame without children has its class's sum before it, but for its own weight
  pub bare-rest : (weight : TermEntry L C → ℕ) (a : Applied) (f : Frame L) (is : IsFrameFor form es a f) → f.children.items ≡ [] →
      sum_for form weight es a.0 ≡ weight is.entry + rest_from form weight es (made_count f) f
  bare-rest weight a f is bare =
      let same : key_children (form f.node) ≡ key_children (form is.entry.node) =
      children-renamed is.named.table _ (form is.entry.node) (form f.node) is.named.renamed in
      let all : rest_from form weight es (made_count f) f ≡ sum_by (sum_for form weight es) (key_children (form is.entry.node)) =
      (λ i. rest_from form weight es (length (bare i)) f) ∙ ap (λ cs. sum_by (sum_for form weight es) cs) same in
      omega (arith, all, sum-is weight a.0 is.entry is.there)

  -- so it has less work than its class
  pub bare-work : (a : Applied) (f : Frame L) → IsFrameFor form es a f → f.children.items ≡ [] →
      work_from form es (made_count f) f < work_for form es a.0
  bare-work a f is bare = omega (arith, bare-rest steps_of a f is bare)

  -- what the next child has is part of what its frame has before it
  pub next-rest : (weight : TermEntry L C → ℕ) (f : Frame L) → made_count f < length (children (form f.node).tree) →
      rest_from form weight es (made_count f) f ≡ sum_for form weight es (next_child form f).0 + waiting_rest form weight es f
  next-rest weight f lt =
      let k : ℕ = made_count f in
      let cs : List ℕ = key_children (form f.node) in
      let sum : ℕ → ℕ = sum_for form weight es in
      let within : k < length cs = omega (arith, lt, children-count (form f.node)) in
      let class : sum (get_or cs k 0) ≡ sum (next_child form f).0 = ap sum (class-of_child (form f.node) k (0, []) lt) in
      let next : sum_by sum (drop (k + 1) cs) ≡ sum_by sum (drop (suc k) cs) =
      let e : k + 1 ≡ suc k = omega arith in ap (λ n. sum_by sum (drop n cs)) e in
      omega (arith, sum_by-drop_more sum cs k 0 within, class, next)

  pub next-work : (f : Frame L) → made_count f < length (children (form f.node).tree) →
      work_from form es (made_count f) f ≡ work_for form es (next_child form f).0 + waiting_work form es f
  next-work f lt = omega (arith, next-rest steps_of f lt)

  -- the next child's class has an entry
  pub next-there : (a : Applied) (f : Frame L) → IsFrameFor form es a f → made_count f < length (children (form f.node).tree) → (e : TermEntry L C) × (entry_at es (next_child form f).0 ≡ Some e)
  next-there a f is lt =
      let same : key_children (form f.node) ≡ key_children (form is.entry.node) = children-renamed is.named.table _ (form is.entry.node) (form f.node) is.named.renamed in
      let inside : Contains (key_children (form is.entry.node)) (next_child form f).0 = subst (λ cs. Contains cs (next_child form f).0) same (child-contained (form f.node) (made_count f) (0, []) lt) in
      let b = has-below is.entry.rank (entry_at es (next_child form f).0) ((ordered a.0 is.entry is.there).2 (next_child form f).0 inside) in
      (b.entry, b.there)

  -- a class has its entry's slots and more
  pub own-slots : (c : ℕ) → slots_at form (entry_at es c) ≤ slots_for form es c
  own-slots c = of (entry_at es c) refl
    where
      of : (o : Option (TermEntry L C)) → entry_at es c ≡ o → slots_at form (entry_at es c) ≤ slots_for form es c
      of None at = omega (arith, ap (slots_at form) at)
      of (Some e) at = omega (arith, sum-is (slots_of form) c e at, ap (slots_at form) at)

  -- so the next child's entry has no more than its frame has before it
  pub next-slots : (a : Applied) (f : Frame L) → IsFrameFor form es a f → made_count f < length (children (form f.node).tree) →
      slots_at form (entry_at es (next_child form f).0) ≤ rest_from form (slots_of form) es (made_count f) f
  next-slots a f is lt =
      omega (arith, own-slots (next_child form f).0, next-rest (slots_of form) f lt)

  -- a frame without children has what its class has, but for the slots of its own node
  pub bare-slots : (a : Applied) (f : Frame L) → IsFrameFor form es a f → f.children.items ≡ [] →
      slots_for form es a.0 ≡ slots_at form (entry_at es a.0) + rest_from form (slots_of form) es (made_count f) f
  bare-slots a f is bare = omega (arith, bare-rest (slots_of form) a f is bare, ap (slots_at form) is.there)
