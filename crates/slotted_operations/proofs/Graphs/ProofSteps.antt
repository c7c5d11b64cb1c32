-- Steps that are checked over a graph: what an entry says, and what entering by a step that fits leaves.
use Rattle.std.proofs.Common.{◌≡◌, ◌≢◌, ℕ, ◌<◌, List, [], ◌∷◌, length, sym, ◌∙◌, ap, refl, subst, inl, inr, arith, ◌↔◌}
use Rattle.std.specs.Prelude.{slice_index_or, map, Bool, Result, Ok, Err, IfOk, OnErr, IsErrOf}
use Rattle.std.proofs.lemmas.List.{map-append}
use Rattle.slotted_lists.proofs.Maps.{IsInjectiveMap-before}
use base.Stored.{Gv}
use Rattle.slotted_slots.specs.declared.error.Error.{Error}
use Rattle.slotted_slots.specs.declared.error.Error.TheVariants.{BadStep}
use Rattle.slotted_slots.specs.Table.{Table}
use Rattle.slotted_theory.specs.Nameless.{DTerm}
use Rattle.slotted_theory.specs.Derives.{Equal}
use Rattle.slotted_theory.specs.FiniteMaps.{IsInjectiveMap, with_values}
use Rattle.slotted_theory.proofs.Backward.{Equal-derives}
use Rattle.slotted_model.specs.Applied.{Applied, keys}
use Rattle.slotted_model.specs.Classes.{canonical_slots, term_of, IsFull}
use Rattle.slotted_model.specs.Correspondence.{AllDifferent, IsFullMap}
use Rattle.slotted_model.specs.ProofList.{Equation, Step, explicit, reflexive, symmetric, transitive, congruent, equation_of, equation_at, IsOver, HoldsFrom, asserted}
use Rattle.slotted_model.specs.State.{Row}
use Rattle.slotted_model.proofs.Correspondences.FullMaps.{with_values-keys}
use Rattle.slotted_model.proofs.Finds.FindProofs.{proved-holds}
use Rattle.slotted_model.proofs.Finds.Steps.{Equal-between}
use Rattle.slotted_proofs.specs.declared.equation.Equation.{Equation as Sides}
use Rattle.slotted_proofs.specs.Equations.{Statement, to_applied, statement_of}
use Rattle.slotted_proofs.specs.Entries.{Proven, entry_of, statement_at}
use Rattle.slotted_proofs.specs.Proving.{IsCanonical, IsProvable}
use Rattle.slotted_proofs.specs.StepClaims.{IsOfFull}
use Rattle.slotted_proofs.specs.Steps.{IsEntry, IsReflexiveStep, IsSymmetricStep, IsTransitiveStep, by_step}
use Rattle.slotted_proofs.proofs.Entering.{entry-over, others_assert_nothing}
use Rattle.slotted_proofs.proofs.Fitting.{reflexive_fits, symmetric_fits, transitive_fits, congruent_fits, own as own_map}
use Rattle.slotted_proofs.proofs.Stepping.{matches-state, states-entry}
use Rattle.slotted_operations.specs.Checks.{SaysIn, GoesBetween, IsCongruentStep, FitsBy, Fits, entry_by, Accepts}
use Rattle.slotted_rebuilding.specs.Frames.{IsCongruentIn}
use Rattle.slotted_operations.specs.Graph.{Graph}
use Rattle.slotted_operations.specs.Image.{AreDerivable}
use Rattle.slotted_operations.specs.Leaves.{FollowsFromLeaves}
use Rattle.slotted_classes.specs.Kept.{Kept, nodes_of, proofs_of, with_proofs, EntersIn}
use Rattle.slotted_hashcons.specs.FiledRows.{Rows, rows_in}
use Rattle.slotted_operations.specs.Good.{graph_of, image_of, Good, RestsWith, HasFreshSlots}
use Rattle.slotted_rebuilding.proofs.JoinedIds.{written_sides}
use Rattle.slotted_operations.proofs.Graphs.Finds.{entering-good}
use Rattle.slotted_operations.proofs.Graphs.AtRest.{entered-rests}
use Rattle.slotted_operations.proofs.Graphs.Leaves.{good-entries_follow}
use Rattle.slotted_classes.proofs.KeptLists.{equation_at-of, length-proofs_of}

module _ (k : Kept) (good : Good k) where
  abbrev ns : List DTerm
  ns = nodes_of k

  -- what an entry says by its written form, it says in the graph
  entry_says : (p : ℕ) (a b : Applied) → IsEntry k.proofs p a b → SaysIn (image_of k) p a b
  entry_says p a b h =
      let s : Statement = statement_at k.proofs p in
      let o : IsOver ns s.equation = entry-over ns k.proofs good.stored.proved p h.in_range in
      let c : IsCanonical ns s = good.stored.proved.canonical p h.in_range in
      let el : s.equation.left ≡ h.left.0 = sym (ap (λ (x : Applied). x.0) h.written.left) in
      let er : s.equation.right ≡ h.right.0 = sym (ap (λ (x : Applied). x.0) h.written.right) in
      record {
        in_range = let n : length (proofs_of k) ≡ length k.proofs = length-proofs_of k in let l : p < length k.proofs = h.in_range in omega arith;
        left = h.left;
        right = h.right;
        left_full = record { in_range = subst (λ i. i < length ns) el o.left; slots = h.written.left_full.slots ∙ (c.left ∙ ap (canonical_slots ns) el); injective = h.written.left_full.injective };
        right_full = record { in_range = subst (λ i. i < length ns) er o.right; slots = h.written.right_full.slots ∙ (c.right ∙ ap (canonical_slots ns) er); injective = h.written.right_full.injective };
        equation = h.written.equation ∙ sym (equation_at-of k.proofs p);
        matches = h.matches;
      }

  -- and the other way round
  says_entry : (p : ℕ) (a b : Applied) → IsFullMap (keys a.1) a.1 → IsFullMap (keys b.1) b.1 → SaysIn (image_of k) p a b → IsEntry k.proofs p a b
  says_entry p a b fa fb h =
      let s : Statement = statement_at k.proofs p in
      let l : p < length k.proofs = let n : length (proofs_of k) ≡ length k.proofs = length-proofs_of k in let m : p < length (proofs_of k) = h.in_range in omega arith in
      let w = written_sides ns k.proofs good.stored.proved p l in
      let c : IsCanonical ns s = good.stored.proved.canonical p l in
      let q : equation_of h.left h.right ≡ s.equation = h.equation ∙ equation_at-of k.proofs p in
      let ls : keys h.left.1 ≡ s.left_slots = h.left_full.slots ∙ (ap (λ (e : Equation). canonical_slots ns e.left) q ∙ sym c.left) in
      let rs : keys h.right.1 ≡ s.right_slots = h.right_full.slots ∙ (ap (λ (e : Equation). canonical_slots ns e.right) q ∙ sym c.right) in
      states-entry k.proofs p a b w.0 w.1 fa fb l w.2
      (matches-state a b h.left h.right fa fb (own_map ns h.left h.left_full) (own_map ns h.right h.right_full) h.matches
      ∙ (λ i. record { left_slots = ls i; right_slots = rs i; equation = q i }))

  -- the middle has a name of its own for each slot
  says_middle : (p : ℕ) (a m : Applied) → IsInjectiveMap m.1 → SaysIn (image_of k) p a m → IsFullMap (keys m.1) m.1
  says_middle p a m once h =
      let e : keys h.right.1 ≡ keys m.1 = ap keys h.matches.names.right ∙ with_values-keys h.matches.names.name m.1 in
      record { slots = refl; once = subst AllDifferent e (own_map ns h.right h.right_full).once; injective = once }

  module _ (e : Sides) (of : IsOfFull ns e) where
    abbrev l : Applied
    l = to_applied e.l

    abbrev r : Applied
    r = to_applied e.r

    pub symmetric_iff : (p : ℕ) → IsSymmetricStep k.proofs e p ↔ SaysIn (image_of k) p r l
    symmetric_iff p = (entry_says p r l, says_entry p r l (own_map ns r of.right) (own_map ns l of.left))

    pub transitive_iff : (p q : ℕ) → IsTransitiveStep k.proofs e p q ↔ GoesBetween (image_of k) e p q
    transitive_iff p q = (
      λ h. record { middle = h.middle; injective = h.injective; first = entry_says p l h.middle h.first; second = entry_says q h.middle r h.second },
      λ h.
          let m : IsFullMap (keys h.middle.1) h.middle.1 = says_middle p l h.middle h.injective h.first in
          record {
            middle = h.middle;
            injective = h.injective;
            first = says_entry p l h.middle (own_map ns l of.left) m h.first;
            second = says_entry q h.middle r m (own_map ns r of.right) h.second;
          },
    )

    -- a side that matches a full id has a name of its own for each of its slots
    matched_map : (c a : Applied) (f : ℕ → ℕ) → IsFull ns c → c.1 ≡ with_values f a.1 → IsFullMap (keys a.1) a.1
    matched_map c a f full m =
        let ks : keys c.1 ≡ keys a.1 = ap keys m ∙ with_values-keys f a.1 in
        record { slots = refl; once = subst AllDifferent ks (own_map ns c full).once; injective = IsInjectiveMap-before f a.1 (subst IsInjectiveMap m full.injective) }

    says_left : (p : ℕ) (a b : Applied) → SaysIn (image_of k) p a b → IsFullMap (keys a.1) a.1
    says_left p a b h = matched_map h.left a h.matches.names.name h.left_full h.matches.names.left

    says_right : (p : ℕ) (a b : Applied) → SaysIn (image_of k) p a b → IsFullMap (keys b.1) b.1
    says_right p a b h = matched_map h.right b h.matches.names.name h.right_full h.matches.names.right

    pub congruent_iff : (parts : List ℕ) → IsCongruentIn k e parts ↔ IsCongruentStep (image_of k) e parts
    congruent_iff parts = (
      λ h. record {
        children = h.children;
        alike = h.alike;
        count = h.entries.count;
        each = λ i n d m. entry_says (slice_index_or parts i n) (to_applied (slice_index_or h.children i d).l) (to_applied (slice_index_or h.children i d).r) (h.entries.each i n d m);
      },
      λ h. record {
        children = h.children;
        injective = λ i d m.
            let o : i < length parts = let c : length parts ≡ length h.children = h.count in omega arith in
            let a : Applied = to_applied (slice_index_or h.children i d).l in
            let b : Applied = to_applied (slice_index_or h.children i d).r in
            let s : SaysIn (image_of k) (slice_index_or parts i 0) a b = h.each i 0 d o in
            record { left = (says_left (slice_index_or parts i 0) a b s).injective; right = (says_right (slice_index_or parts i 0) a b s).injective };
        alike = h.alike;
        entries = record {
          count = h.count;
          each = λ i n d m.
              let p : ℕ = slice_index_or parts i n in
              let a : Applied = to_applied (slice_index_or h.children i d).l in
              let b : Applied = to_applied (slice_index_or h.children i d).r in
              let s : SaysIn (image_of k) p a b = h.each i n d m in
              says_entry p a b (says_left p a b s) (says_right p a b s) s;
        };
      },
    )

-- what a contract says of an accepted step
pub record Checked (t : Table) (k l : Kept) (e : Sides) (s : Step) (p : ℕ) : Type 0 where
  pub good : Good l
  pub rests : (r : Rows) → RestsWith k r → RestsWith l r
  pub fresh_slots : HasFreshSlots t k → HasFreshSlots t l
  pub fits : Fits (image_of k) e s
  pub accepts : (b : Bool) (f : List Row) (y : Gv) → Accepts (graph_of b t k f y) (graph_of b t l f y) (entry_by e s) p
  pub derivable : AreDerivable (image_of k) (to_applied e.l) (to_applied e.r)
  pub leaves : FollowsFromLeaves (image_of l) p (to_applied e.l) (to_applied e.r)

module _ (t : Table) (k : Kept) (good : Good k) (e : Sides) (of : IsOfFull (nodes_of k) e) (s : Step) (can : IsProvable (nodes_of k) k.proofs (by_step (statement_of e) s))
    (not_explicit : s ≢ explicit) (fits : FitsBy (image_of k) e s) (p : ℕ)
    (l : Kept) (enters : EntersIn k l (by_step (statement_of e) s) p) where
  abbrev nodes : List DTerm
  nodes = nodes_of k

  abbrev x : Proven
  x = by_step (statement_of e) s

  abbrev after : Kept
  after = with_proofs k enters.proofs

  after-good : Good after
  after-good = entering-good k good x can not_explicit after p (record { proofs = enters.proofs; enters = enters.enters; kept = refl })

  after-in_range : p < length (proofs_of after)
  after-in_range = let n : length (proofs_of after) ≡ length enters.proofs = length-proofs_of after in let h : p < length enters.proofs = enters.enters.stands.in_range in omega arith

  after-stands : equation_at (proofs_of after) p ≡ (statement_of e).equation
  after-stands = equation_at-of enters.proofs p ∙ ap (λ (y : Statement). y.equation) enters.enters.stands.statement

  -- what states the equation is the statement
  one_statement : (q : ℕ) → q < length k.proofs → (statement_at k.proofs q).equation ≡ (statement_of e).equation → statement_at k.proofs q ≡ statement_of e
  one_statement q h d =
      let c : IsCanonical nodes (statement_at k.proofs q) = good.stored.proved.canonical q h in
      let ls : (statement_at k.proofs q).left_slots ≡ keys e.l.m = c.left ∙ (ap (λ (y : Equation). canonical_slots nodes y.left) d ∙ sym of.left.slots) in
      let rs : (statement_at k.proofs q).right_slots ≡ keys e.r.m = c.right ∙ (ap (λ (y : Equation). canonical_slots nodes y.right) d ∙ sym of.right.slots) in
      λ i. record { left_slots = ls i; right_slots = rs i; equation = d i }

  after-accepts : (b : Bool) (f : List Row) (y : Gv) → Accepts (graph_of b t k f y) (graph_of b t after f y) (entry_by e s) p
  after-accepts b f y = record {
    in_range = after-in_range;
    stands = after-stands;
    grows = let n : length (proofs_of k) ≡ length k.proofs = length-proofs_of k in elim enters.enters.grows [
      | inl h ↦ inl (
        (let d : p < length k.proofs = h.0.in_range in omega arith),
        λ i. graph_of b t (with_proofs k (h.1 i)) f y,
      )
      | inr h ↦ inr (
        (λ z.
            let d : z.0 < length k.proofs = let y : z.0 < length (proofs_of k) = z.1 in omega arith in
            h.0 z.0 (record { in_range = d; statement = one_statement z.0 d (sym (equation_at-of k.proofs z.0) ∙ z.2) })),
        (let d : p ≡ length k.proofs = h.1 in omega arith),
        λ i. record (graph_of b t k f y) {
          image = record { canonical = nodes; found = (image_of k).found; entries = (ap (map entry_of) h.2 ∙ map-append entry_of k.proofs (x ∷ [])) i; stored = h.2 i; symmetries = k.symmetries; counts = k.counts };
        },
      )
    ];
  }

  none_asserted : asserted nodes (proofs_of after) ≡ asserted nodes (proofs_of k)
  none_asserted = others_assert_nothing nodes k.proofs enters.proofs x p enters.enters not_explicit

  after-equal : Equal (asserted nodes (proofs_of k)) (term_of nodes (to_applied e.l)) (term_of nodes (to_applied e.r))
  after-equal =
      let h : HoldsFrom (asserted nodes (proofs_of after)) nodes (equation_at (proofs_of after) p) = proved-holds nodes good.stored.sane.sound.canonical (proofs_of after) after-good.stored.sane.sound.proved p after-in_range in
      subst (λ (E : List (DTerm × DTerm)). Equal E (term_of nodes (to_applied e.l)) (term_of nodes (to_applied e.r))) none_asserted (h (to_applied e.l) (to_applied e.r) of.left of.right (sym after-stands))

  after-derivable : AreDerivable (image_of k) (to_applied e.l) (to_applied e.r)
  after-derivable E t u listed et eu =
      Equal-derives t u (Equal-between et eu (subst (λ (F : List (DTerm × DTerm)). Equal F (term_of nodes (to_applied e.l)) (term_of nodes (to_applied e.r))) (sym listed) after-equal))

  after-leaves : FollowsFromLeaves (image_of after) p (to_applied e.l) (to_applied e.r)
  after-leaves = good-entries_follow after after-good p after-in_range (to_applied e.l) (to_applied e.r) of.left of.right (sym after-stands)

  pub checked : Checked t k l e s p
  checked = subst (λ (m : Kept). Checked t k m e s p) (sym enters.kept) (record {
    good = after-good;
    rests = λ r rests. entered-rests k r good rests x can not_explicit after p (record { proofs = enters.proofs; enters = enters.enters; kept = refl });
    fresh_slots = λ h. h;
    fits = (of, fits);
    accepts = after-accepts;
    derivable = after-derivable;
    leaves = after-leaves;
  })

-- the steps

pub reflexive_checked : (t : Table) (k l : Kept) (e : Sides) (p : ℕ) → Good k → IsOfFull (nodes_of k) e × IsReflexiveStep e → EntersIn k l (by_step (statement_of e) reflexive) p → Checked t k l e reflexive p
reflexive_checked t k l e p good h enters =
    checked t k good e h.0 reflexive (reflexive_fits (nodes_of k) k.proofs e h.0 h.1) (λ z. cc) h.1 p l enters

pub symmetric_checked : (t : Table) (k l : Kept) (e : Sides) (q p : ℕ) → Good k → IsOfFull (nodes_of k) e × IsSymmetricStep k.proofs e q → EntersIn k l (by_step (statement_of e) (symmetric q)) p → Checked t k l e (symmetric q) p
symmetric_checked t k l e q p good h enters =
    checked t k good e h.0 (symmetric q) (symmetric_fits (nodes_of k) k.proofs e h.0 q h.1) (λ z. cc) ((symmetric_iff k good e h.0 q).0 h.1) p l enters

pub transitive_checked : (t : Table) (k l : Kept) (e : Sides) (q r p : ℕ) → Good k → IsOfFull (nodes_of k) e × IsTransitiveStep k.proofs e q r → EntersIn k l (by_step (statement_of e) (transitive q r)) p → Checked t k l e (transitive q r) p
transitive_checked t k l e q r p good h enters =
    checked t k good e h.0 (transitive q r) (transitive_fits (nodes_of k) k.proofs e h.0 q r h.1) (λ z. cc) ((transitive_iff k good e h.0 q r).0 h.1) p l enters

pub congruent_checked : (t : Table) (k l : Kept) (e : Sides) (parts : List ℕ) (p : ℕ) → Good k → IsOfFull (nodes_of k) e × IsCongruentIn k e parts → EntersIn k l (by_step (statement_of e) (congruent parts)) p → Checked t k l e (congruent parts) p
congruent_checked t k l e parts p good h enters =
    checked t k good e h.0 (congruent parts) (congruent_fits (nodes_of k) k.proofs e h.1.children parts good.stored.sane.sound.canonical h.0 h.1.injective h.1.alike h.1.entries) (λ z. cc) ((congruent_iff k good e h.0 parts).0 h.1) p l enters

-- a refused step does not fit

pub symmetric_refused : (k : Kept) (e : Sides) (q : ℕ) → Good k → ¬ (IsOfFull (nodes_of k) e × IsSymmetricStep k.proofs e q) → ¬ Fits (image_of k) e (symmetric q)
symmetric_refused k e q good n h = n (h.0, (symmetric_iff k good e h.0 q).1 h.1)

pub transitive_refused : (k : Kept) (e : Sides) (q r : ℕ) → Good k → ¬ (IsOfFull (nodes_of k) e × IsTransitiveStep k.proofs e q r) → ¬ Fits (image_of k) e (transitive q r)
transitive_refused k e q r good n h = n (h.0, (transitive_iff k good e h.0 q r).1 h.1)

pub congruent_refused : (k : Kept) (e : Sides) (parts : List ℕ) → Good k → ¬ (IsOfFull (nodes_of k) e × IsCongruentIn k e parts) → ¬ Fits (image_of k) e (congruent parts)
congruent_refused k e parts good n h = n (h.0, (congruent_iff k good e h.0 parts).1 h.1)

-- what the graph says of the answer

pub both_ok : {A : Type 0} (r : Result A Error) (P Q R : A → Type 0) → ((x : A) → P x → Q x → R x) → IfOk r P → IfOk r Q → IfOk r R
both_ok (Ok x) P Q R f p q = f x p q
both_ok (Err e) P Q R f p q = tt

if_ok_then : {A : Type 0} (r : Result A Error) (P Q : A → Type 0) → ((x : A) → P x → Q x) → IfOk r P → IfOk r Q
if_ok_then r P Q f h = both_ok r P P Q (λ x p q. f x p) h h

pub kept_good : (r : Result ℕ Error) (t : Table) (k l : Kept) (rows : Rows) (e : Sides) (s : Step) → Good k × HasFreshSlots t k × RestsWith k rows → IfOk r (Checked t k l e s) → OnErr r (l ≡ k) →
    Good l × HasFreshSlots t l × RestsWith l rows
kept_good (Ok p) t k l rows e s h c o = (c.good, c.fresh_slots h.1, c.rests rows h.2)
kept_good (Err x) t k l rows e s h c o = subst (λ (m : Kept). Good m × HasFreshSlots t m × RestsWith m rows) (sym o) h

module _ (r : Result ℕ Error) (b : Bool) (t : Table) (rows : Rows) (k l : Kept) (e : Sides) (s : Step) (y : Gv) (g : Graph) (view : graph_of b t k (rows_in rows.filed) y ≡ g) where
  -- the graph that is left
  abbrev left : Graph
  left = graph_of b t l (rows_in rows.filed) y

  pub says_refused : (IsErrOf r BadStep → ¬ Fits (image_of k) e s) → IsErrOf r BadStep → ¬ Fits g.image e s
  says_refused n h = subst (λ (x : Graph). ¬ Fits x.image e s) view (n h)

  module _ (c : IfOk r (Checked t k l e s)) where
    pub says_fits : IfOk r (λ _. Fits g.image e s)
    says_fits = if_ok_then r (Checked t k l e s) (λ _. Fits g.image e s) (λ p h. subst (λ (x : Graph). Fits x.image e s) view h.fits) c

    pub says_accepted : IfOk r (Accepts g left (entry_by e s))
    says_accepted = if_ok_then r (Checked t k l e s) (Accepts g left (entry_by e s)) (λ p h. subst (λ (x : Graph). Accepts x left (entry_by e s) p) view (h.accepts b (rows_in rows.filed) y)) c

    pub says_derivable : IfOk r (λ _. AreDerivable g.image (to_applied e.l) (to_applied e.r))
    says_derivable = if_ok_then r (Checked t k l e s) (λ _. AreDerivable g.image (to_applied e.l) (to_applied e.r)) (λ p h. subst (λ (x : Graph). AreDerivable x.image (to_applied e.l) (to_applied e.r)) view h.derivable) c

    pub says_leaves : IfOk r (λ p. FollowsFromLeaves (image_of l) p (to_applied e.l) (to_applied e.r))
    says_leaves = if_ok_then r (Checked t k l e s) (λ p. FollowsFromLeaves (image_of l) p (to_applied e.l) (to_applied e.r)) (λ p h. h.leaves) c
