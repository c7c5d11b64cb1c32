-- From rest to rest: a new class with its node, and an assertion with its union.
use Rattle.std.proofs.Common.{◌≡◌, ◌≢◌, ℕ, suc, ◌+◌, ◌<◌, List, [], ◌∷◌, ◌++◌, length, sym, ◌∙◌, ap, refl, subst, inl, inr, arith, length-append}
use Rattle.std.specs.Prelude.{Contains, ◌⊎◌}
use Rattle.std.proofs.lemmas.Bool.{cases_eq}
use Rattle.slotted_lists.proofs.Contained.{contains_head, contains_tail, contains_cases}
use Rattle.slotted_theory.specs.Nameless.{DArgs, DTerm, stop, place, sub, scope}
use Rattle.slotted_theory.specs.Shape.{shape}
use Rattle.slotted_theory.proofs.Values.{node, child_before}
use Rattle.slotted_model.specs.Ascending.{names}
use Rattle.slotted_model.specs.Applied.{Applied, as_term, applied_of, EachChild}
use Rattle.slotted_model.specs.Classes.{canonical_node, IsFull}
use Rattle.slotted_model.specs.Growth.{IsNew, Added}
use Rattle.slotted_model.specs.Find.{Entry, find}
use Rattle.slotted_model.specs.Normal.{normal_args, normal}
use Rattle.slotted_model.specs.Link.{reflexive_equation}
use Rattle.slotted_model.specs.ProofList.{Equation, ProofEntry, Step, explicit, reflexive, symmetric, transitive, congruent, equation_of, equation_at, step_at, IsOver, asserted}
use Rattle.slotted_model.specs.Sound.{Sound}
use Rattle.slotted_model.specs.State.{Row, State, sources, normal_node}
use Rattle.slotted_model.specs.Rest.{IsValidIn, UpToSymmetries, LinkedTo, IsRow, IsCurrent, Sane, Represents, AtRest}
use Rattle.slotted_model.specs.Changes.{GoesOn, ProofsGrow, with_proofs, HasUnited}
use Rattle.slotted_model.specs.Rebuild.{row_for, IsCongruence}
use Rattle.slotted_model.specs.Adding.{with_new_class, with_new_row, Adds, joins_row, files_row, HasAdded}
use Rattle.slotted_model.proofs.Represented.Growing.{added}
use Rattle.slotted_model.proofs.Finds.NewClasses.{valid-newer, find-same}
use Rattle.slotted_model.proofs.Finds.Keeping.{new_class-sound, new_class-asserted}
use Rattle.slotted_model.proofs.Finds.Entering.{equation-earlier, step-earlier, step-last, earlier_or_last, longer-length}
use Rattle.slotted_model.proofs.Represented.Children.{EachChild-map}
use Rattle.slotted_model.proofs.Finds.Congruence.{child-applied}
use Rattle.slotted_model.proofs.Finds.NormalIds.{found-again, found-valid, full-is_valid}
use Rattle.slotted_model.proofs.Rebuilding.UpTo.{linked_to-same}
use Rattle.slotted_model.proofs.Rebuilding.GoingOn.{goes_on-then, still-row, still-used, still-listed, still-linked, still-equal}
use Rattle.slotted_model.proofs.Rebuilding.GrowingLists.{proofs-go_on, proofs-sane, grow-explicit}
use Rattle.slotted_model.proofs.Rebuilding.Refiling.{row_for-row}
use Rattle.slotted_model.proofs.Rebuilding.Rows.{source-in, of_source}
use Rattle.slotted_model.proofs.Rebuilding.Unions.{unites}
use Rattle.slotted_model.proofs.Rebuilding.Turning.{congruence-links, run, ended, HasRun}

-- a reflexive step is not explicit
is_explicit : Step → ℕ
is_explicit explicit = 1
is_explicit reflexive = 0
is_explicit (symmetric q) = 0
is_explicit (transitive q r) = 0
is_explicit (congruent qs) = 0

reflexive-explicit : ◌≡◌ {A = Step} reflexive explicit → ⊥
unfolding is_explicit
reflexive-explicit e = let n : ◌≡◌ {A = ℕ} 0 1 = ap is_explicit e in omega arith

-- a new last entry that is not explicit adds no explicit one
silent-entry : (proofs : List ProofEntry) (entry : ProofEntry) → ¬ (entry.step ≡ explicit) → (p : ℕ) → p < length (proofs ++ entry ∷ []) → step_at (proofs ++ entry ∷ []) p ≡ explicit → (p < length proofs) × (step_at proofs p ≡ explicit)
silent-entry proofs entry n p h e = elim (earlier_or_last proofs entry p h) [
  | inl l ↦ (l, sym (step-earlier proofs entry p l) ∙ e)
  | inr m ↦ absurd (n (sym (step-last proofs entry) ∙ (ap (step_at (proofs ++ entry ∷ [])) (sym m) ∙ e)))
]

-- where finds of valid ids are the same, normal forms are
pub normal_args-agree : (P : Applied → Type 0) (older newer : List Entry) → ((a : Applied) → P a → find newer a ≡ find older a) → (d : DArgs) → EachChild P d → normal_args newer d ≡ normal_args older d
normal_args-agree P older newer same stop c = refl
normal_args-agree P older newer same (place x rest) c = ap (place x) (normal_args-agree P older newer same rest c)
normal_args-agree P older newer same (sub op payloads args rest) c =
    let v : P (applied_of payloads args) = subst P (sym (child-applied P op payloads args c.0)) c.0.2 in
    λ i. child_before (as_term (same (applied_of payloads args) v i)) (normal_args-agree P older newer same rest c.1 i)
normal_args-agree P older newer same (scope inner rest) c = λ i. scope (normal_args-agree P older newer same inner c.0 i) (normal_args-agree P older newer same rest c.1 i)

-- a new class
module _ (g : State) (sane : Sane g) (c : DTerm) (new : IsNew g.nodes c) where
  abbrev newer : State
  newer = with_new_class g c

  abbrev i : ℕ
  i = length g.nodes

  grown : Added g.nodes newer.nodes c
  grown = added g.nodes c sane.sound.canonical new

  one : length newer.nodes ≡ suc i
  one = let e : length newer.nodes ≡ i + 1 = length-append g.nodes (c ∷ []) in omega arith

  pub finds-same : (a : Applied) → IsValidIn g a → find newer.found a ≡ find g.found a
  finds-same a v = find-same g.nodes newer.nodes grown.extends one g.found sane.sound.linked (length g.proofs) a v

  abbrev entry : ProofEntry
  entry = record { equation = reflexive_equation newer.nodes i; step = reflexive }

  pub class-goes_on : GoesOn g newer
  class-goes_on = record {
    classes = grown.extends.classes;
    finds = λ a v. (
      valid-newer g.nodes newer.nodes grown.extends one g.found sane.sound.linked (length g.proofs) a v,
      finds-same a v
          ∙ (sym (found-again g.nodes g.found sane.sound.linked a v)
          ∙ sym (finds-same (find g.found a) (found-valid g.nodes g.found sane.sound.linked a v))),
    );
    proofs = λ p h. ((let e : length newer.proofs ≡ suc (length g.proofs) = longer-length g.proofs entry in omega arith), equation-earlier g.proofs entry p h);
    symmetries = λ y k. k;
  }

  canonical-valid : (o : ℕ) → o < i → EachChild (IsValidIn g) (canonical_node g.nodes o).args
  canonical-valid o h = EachChild-map (λ a. (a.0 < o) × IsFull g.nodes a) (IsValidIn g) (λ a k. full-is_valid g.nodes g.found sane.sound.linked a k.1) (canonical_node g.nodes o).args (sane.sound.canonical.children o h)

  node-same : (o : ℕ) → o < i → normal_node newer o ≡ normal_node g o
  node-same o h =
      let d : DTerm = canonical_node g.nodes o in
      ap (normal newer.found) (grown.extends.classes o h).1
      ∙ ap (node d.op d.payloads) (normal_args-agree (IsValidIn g) g.found newer.found finds-same d.args (canonical-valid o h))

  class-sound : Sound newer.nodes newer.found newer.proofs
  class-sound = new_class-sound g.nodes newer.nodes g.found g.proofs sane.sound grown.canonical grown.extends one

  pub class-sane : Sane newer
  class-sane = record {
    sound = class-sound;
    filed = record {
      each = λ r k. still-row g newer sane.sound class-goes_on r (sane.filed.each r k);
      once = sane.filed.once;
      shapes = sane.filed.shapes;
      waits_once = sane.filed.waits_once;
      waits_for_row = sane.filed.waits_for_row;
      current = λ r k n.
          let cur : IsCurrent g r = sane.filed.current r k n in
          let h : r.source < i = (sane.filed.each r k).in_range in
          record {
            in_normal_form = cur.in_normal_form ∙ sym (node-same r.source h);
            covered = λ s u. subst (λ t. Contains (names t) s) (sym (node-same r.source h)) (cur.covered s (still-used g newer sane.sound class-goes_on r.source s h u));
          };
    };
    each_listed = λ y k. still-listed g newer sane.sound class-goes_on y (sane.each_listed y k);
    listed_once = sane.listed_once;
  }

  pub class-asserted : asserted newer.nodes newer.proofs ≡ asserted g.nodes g.proofs
  class-asserted = new_class-asserted g.nodes newer.nodes g.found g.proofs sane.sound grown.canonical grown.extends one

  not_explicit : ¬ (entry.step ≡ explicit)
  not_explicit e = reflexive-explicit e

  pub last-in_range : i < length newer.nodes
  last-in_range = let e : length newer.nodes ≡ suc i = one in omega arith

  -- its node is filed
  module _ (alone : (q : Row) → Contains g.rows q → q.shape ≢ shape (normal_node newer i)) where
    abbrev filed : State
    filed = with_new_row newer i

    filed-on : GoesOn newer filed
    filed-on = record { classes = λ o h. (h, refl); finds = λ a v. (v, sym (found-again newer.nodes newer.found class-sound.linked a v)); proofs = λ p h. (h, refl); symmetries = λ y k. k }

    not_source : ¬ Contains (sources g.rows) i
    not_source k =
        let q = of_source g.rows i k in
        let h : q.0.source < i = (sane.filed.each q.0 q.1).in_range in
        let e : q.0.source ≡ i = q.2 in
        omega arith

    abbrev row : Row
    row = row_for newer i

    filed-sane : Sane filed
    filed-sane = record {
      sound = class-sound;
      filed = record {
        each = λ q k. elim (contains_cases row g.rows q k) [
          | inl e ↦ subst (IsRow filed) (sym e) (still-row newer filed class-sound filed-on row (row_for-row newer class-sane i last-in_range))
          | inr h ↦ still-row newer filed class-sound filed-on q (class-sane.filed.each q h)
        ];
        once = (not_source, sane.filed.once);
        shapes = λ q t k l e. elim (contains_cases row g.rows q k) [
          | inl a ↦ elim (contains_cases row g.rows t l) [
            | inl b ↦ ap (λ (x : Row). x.source) (a ∙ sym b)
            | inr h ↦ absurd (alone t h (sym e ∙ ap (λ (x : Row). x.shape) a))
          ]
          | inr h ↦ elim (contains_cases row g.rows t l) [
            | inl b ↦ absurd (alone q h (e ∙ ap (λ (x : Row). x.shape) b))
            | inr j ↦ sane.filed.shapes q t h j e
          ]
        ];
        waits_once = (λ k. not_source (sane.filed.waits_for_row i k), sane.filed.waits_once);
        waits_for_row = λ o k. elim (contains_cases i g.waiting o k) [
          | inl e ↦ subst (Contains (sources filed.rows)) (sym e) (contains_head i (sources g.rows))
          | inr h ↦ contains_tail i (sources g.rows) o (sane.filed.waits_for_row o h)
        ];
        current = λ q k n. elim (contains_cases row g.rows q k) [
          | inl e ↦ absurd (n (subst (Contains (i ∷ g.waiting)) (ap (λ (x : Row). x.source) (sym e)) (contains_head i g.waiting)))
          | inr h ↦
              let cur : IsCurrent newer q = class-sane.filed.current q h (λ w. n (contains_tail i g.waiting q.source w)) in
              record { in_normal_form = cur.in_normal_form; covered = cur.covered }
        ];
      };
      each_listed = λ y k. still-listed newer filed class-sound filed-on y (class-sane.each_listed y k);
      listed_once = sane.listed_once;
    }

    pub filed-sane_on : Sane filed × GoesOn g filed
    filed-sane_on = (filed-sane, goes_on-then g newer filed sane.sound.linked class-goes_on filed-on)

  -- the classes before it are linked, and what was asserted is respected
  module _ (r : Represents g) where
    old-linked : (o : ℕ) → o < i → (x : ℕ) × Contains (sources g.rows) x × LinkedTo newer o x
    old-linked o h = let l = r.linked o h in (l.0, l.1, still-linked g newer sane.sound class-goes_on o l.0 l.2)

    still-asserted : (p : ℕ) → p < length newer.proofs → step_at newer.proofs p ≡ explicit → (a b : Applied) → IsFull newer.nodes a → IsFull newer.nodes b → equation_of a b ≡ equation_at newer.proofs p → UpToSymmetries newer a b
    still-asserted p h x a b fa fb e =
        let s = silent-entry g.proofs entry not_explicit p h x in
        let q : equation_of a b ≡ equation_at g.proofs p = e ∙ equation-earlier g.proofs entry p s.0 in
        let o : IsOver g.nodes (equation_at g.proofs p) = sane.sound.proved.over p s.0 in
        let ha : a.0 < i = subst (λ (z : Equation). z.left < i) (sym q) o.left in
        let hb : b.0 < i = subst (λ (z : Equation). z.right < i) (sym q) o.right in
        still-equal g newer sane.sound class-goes_on (r.asserted p s.0 s.1 a b (before a ha fa) (before b hb fb) q)
      where
        before : (a : Applied) → a.0 < i → IsFull newer.nodes a → IsFull g.nodes a
        before a h full = record { in_range = h; slots = full.slots ∙ ap names (grown.extends.classes a.0 h).1; injective = full.injective }

    old-or-last : (o : ℕ) → o < length newer.nodes → (o < i) ⊎ (o ≡ i)
    old-or-last o h = elim (cases_eq o i) [
      | inl e ↦ inr e
      | inr n ↦ let e : length newer.nodes ≡ suc i = one in inl (omega arith)
    ]

    -- its node is filed
    module _ (alone : (q : Row) → Contains g.rows q → q.shape ≢ shape (normal_node newer i)) where
      filed-represents : Represents (filed alone)
      filed-represents = record {
        linked = λ o h. elim (old-or-last o h) [
          | inl l ↦ let k = old-linked o l in (k.0, contains_tail i (sources g.rows) k.0 k.1, still-linked newer (filed alone) class-sound (filed-on alone) o k.0 k.2)
          | inr e ↦ (i, contains_head i (sources g.rows), subst (λ x. LinkedTo (filed alone) x i) (sym e) (still-linked newer (filed alone) class-sound (filed-on alone) i i (linked_to-same newer class-sound.linked i last-in_range)))
        ];
        asserted = λ p h x a b fa fb e. still-equal newer (filed alone) class-sound (filed-on alone) (still-asserted p h x a b fa fb e);
      }

      pub filed-ready : Sane (filed alone) × Represents (filed alone) × GoesOn g (filed alone)
      filed-ready = (filed-sane alone, filed-represents, (filed-sane_on alone).1)

    -- or it is united with the class of a row
    module _ (proofs : List ProofEntry) (p : ℕ) (q : Row) (grow : ProofsGrow newer.nodes newer.proofs proofs) (there : Contains g.rows q) (congruence : IsCongruence (with_proofs newer proofs) p i q.source) (f : State) (u : HasUnited p (with_proofs newer proofs) f) where
      abbrev ready : State
      ready = with_proofs newer proofs

      ready-on : GoesOn newer ready
      ready-on = proofs-go_on newer class-sane proofs grow

      ready-sane : Sane ready
      ready-sane = proofs-sane newer class-sane proofs grow

      joined-represents : Represents f
      joined-represents = record {
        linked = λ o h. elim (old-or-last o (subst (λ nodes. o < length nodes) u.same_nodes h)) [
          | inl l ↦
              let k = old-linked o l in
              (k.0, subst (λ rows. Contains (sources rows) k.0) (sym u.same_rows) k.1, still-linked ready f ready-sane.sound u.goes_on o k.0 (still-linked newer ready class-sound ready-on o k.0 k.2))
          | inr e ↦ (q.source, subst (λ rows. Contains (sources rows) q.source) (sym u.same_rows) (source-in g.rows q there), subst (λ x. LinkedTo f x q.source) (sym e) (congruence-links ready f ready-sane p i q.source congruence u))
        ];
        asserted = λ s h x a b fa fb e.
            let k = u.asserts_nothing s h x in
            let j = grow-explicit newer.nodes newer.proofs proofs grow s k.0 k.1 in
            let fa' : IsFull newer.nodes a = subst (λ nodes. IsFull nodes a) u.same_nodes fa in
            let fb' : IsFull newer.nodes b = subst (λ nodes. IsFull nodes b) u.same_nodes fb in
            still-equal ready f ready-sane.sound u.goes_on (still-equal newer ready class-sound ready-on
            (still-asserted s j.0 j.1 a b fa' fb' (e ∙ ((u.goes_on.proofs s k.0).1 ∙ (ready-on.proofs s j.0).1))));
      }

      pub joined-ready : Sane f × Represents f × GoesOn g f × (f.nodes ≡ newer.nodes) × (asserted f.nodes f.proofs ≡ asserted g.nodes g.proofs)
      joined-ready = (
        u.sane,
        joined-represents,
        goes_on-then g newer f sane.sound.linked class-goes_on (goes_on-then newer ready f class-sound.linked ready-on u.goes_on),
        u.same_nodes,
        u.same_asserted ∙ (grow.asserts_nothing ∙ class-asserted),
      )

-- a class is made, and all is at rest again
pub adds : (g : State) → AtRest g → (c : DTerm) → IsNew g.nodes c → (h : State) → Adds g c h → HasAdded g c h
adds g rest c new h (joins_row {n = n} {f = f} proofs p r grow there same congruence u runs left) =
    let w : HasUnited p (with_proofs (with_new_class g c) proofs) f = unites p u (proofs-sane (with_new_class g c) (class-sane g rest.sane c new) proofs grow) congruence.stands.0 in
    let k = joined-ready g rest.sane c new rest.represents proofs p r grow there congruence f w in
    let x : HasRun f n h = run f k.0 runs in
    record {
      rest = ended f k.0 k.1 runs left;
      goes_on = goes_on-then g f h rest.sane.sound.linked k.2 x.rebuilt.goes_on;
      nodes = x.rebuilt.same_nodes ∙ k.3;
      same_asserted = x.rebuilt.same_asserted ∙ k.4;
    }
adds g rest c new h (files_row {n = n} alone runs left) =
    let f : State = with_new_row (with_new_class g c) (length g.nodes) in
    let k = filed-ready g rest.sane c new rest.represents alone in
    let x : HasRun f n h = run f k.0 runs in
    record {
      rest = ended f k.0 k.1 runs left;
      goes_on = goes_on-then g f h rest.sane.sound.linked k.2 x.rebuilt.goes_on;
      nodes = x.rebuilt.same_nodes;
      same_asserted = x.rebuilt.same_asserted ∙ class-asserted g rest.sane c new;
    }
