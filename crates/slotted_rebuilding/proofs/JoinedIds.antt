-- Two full ids that find alike are joined by one transitive step over what their finds say.
use Rattle.std.proofs.Common.{◌≡◌, ◌<◌, ◌≤◌, ◌+◌, ◌^◌, ℕ, List, length, sym, ◌∙◌, ap, refl, subst, inl, inr, arith}
use Rattle.std.specs.Prelude.{Result, Ok, Err, IfErr, IsErrOf}
use Rattle.std.proofs.lemmas.Bool.{cases_lt}
use Rattle.slotted_lists.proofs.Maps.{length-keys}
use Rattle.slotted_slots.specs.declared.error.Error.{Error}
use Rattle.slotted_slots.specs.declared.error.Error.TheVariants.{BadStep}
use Rattle.slotted_slots.specs.declared.types.AppliedId.{AppliedId}
use Rattle.slotted_slots.specs.Error.{IsShortage}
use Rattle.slotted_slots.specs.Table.{numeric_slot}
use Rattle.slotted_theory.specs.Nameless.{DTerm}
use Rattle.slotted_theory.specs.FiniteMaps.{IsInjectiveMap}
use Rattle.slotted_model.specs.Applied.{Applied, keys}
use Rattle.slotted_model.specs.Classes.{canonical_slots, IsFull}
use Rattle.slotted_model.specs.Correspondence.{AllDifferent, CanJoin, IsFullMap, IsPartialInjection, IsNumberedForm, numbered, same_names}
use Rattle.slotted_model.specs.Find.{Entry, find_class}
use Rattle.slotted_model.specs.ProofList.{Equation, IsOver, transitive, equation_of, find_equation, turned_equation}
use Rattle.slotted_model.proofs.Correspondences.FullIds.{slots-different}
use Rattle.slotted_model.proofs.Correspondences.FullMaps.{with_values-full, same_names-with_values}
use Rattle.slotted_model.proofs.Correspondences.Numbers.{numbered-form}
use Rattle.slotted_model.proofs.Finds.FindProofs.{found_alike-join}
use Rattle.slotted_proofs.specs.declared.equation.Equation.{Equation as Sides}
use Rattle.slotted_proofs.specs.Equations.{Statement, to_applied, statement_of, numbered_left, numbered_right, AreSides}
use Rattle.slotted_proofs.specs.Entries.{Proven, statement_at}
use Rattle.slotted_proofs.specs.Proving.{IsCanonical, IsProved}
use Rattle.slotted_proofs.specs.StepClaims.{IsOfFull}
use Rattle.slotted_proofs.specs.Steps.{IsJoined, IsRefusal, IsTransitiveStep, by_step}
use Rattle.slotted_proofs.proofs.Entering.{entry-over}
use Rattle.slotted_proofs.proofs.Fitting.{transitive_fits}
use Rattle.slotted_proofs.proofs.Stepping.{transitive_told}
use Rattle.slotted_proofs.proofs.Written.{stated}
use Rattle.slotted_classes.specs.Finding.{FindAlike}
use Rattle.slotted_classes.specs.Kept.{Kept, nodes_of, entries_of, EntersBy}
use Rattle.slotted_classes.proofs.KeptLists.{length-nodes_of}
use Rattle.slotted_rebuilding.specs.Proving.{Proves, ProvesEqual, HasLargeClassOf}
use Rattle.slotted_classes.specs.Stored.{Stored}
use Rattle.slotted_rebuilding.proofs.EnteredProofs.{entering-proves, only-nodes, then-proves}

-- the statement of an entry has a written form
pub written_sides : (nodes : List DTerm) (list : List Proven) → IsProved nodes list → (p : ℕ) → p < length list → (c : Applied) × (d : Applied) × AreSides (statement_at list p) c d
written_sides nodes list proved p l =
    let s : Statement = statement_at list p in
    let o : IsOver nodes s.equation = entry-over nodes list proved p l in
    let c : IsCanonical nodes s = proved.canonical p l in
    let pairs : IsPartialInjection s.left_slots s.right_slots s.equation.pairs =
    subst (λ P. IsPartialInjection P s.right_slots s.equation.pairs) (sym c.left) (subst (λ Q. IsPartialInjection (canonical_slots nodes s.equation.left) Q s.equation.pairs) (sym c.right) o.pairs) in
    let form : IsNumberedForm s.left_slots s.right_slots s.equation.pairs (numbered s.left_slots s.right_slots s.equation.pairs).0 (numbered s.left_slots s.right_slots s.equation.pairs).1 =
    numbered-form s.left_slots s.right_slots s.equation.pairs (subst AllDifferent (sym c.left) (slots-different nodes s.equation.left)) (subst AllDifferent (sym c.right) (slots-different nodes s.equation.right)) pairs in
    let left : IsFullMap s.left_slots (numbered_left s.left_slots s.right_slots s.equation.pairs) = with_values-full numeric_slot s.left_slots (numbered s.left_slots s.right_slots s.equation.pairs).0 form.left (λ x y a b q. omega arith) in
    let right : IsFullMap s.right_slots (numbered_right s.left_slots s.right_slots s.equation.pairs) = with_values-full numeric_slot s.right_slots (numbered s.left_slots s.right_slots s.equation.pairs).1 form.right (λ x y a b q. omega arith) in
    let shared : same_names (numbered_left s.left_slots s.right_slots s.equation.pairs) (numbered_right s.left_slots s.right_slots s.equation.pairs) ≡ s.equation.pairs =
    same_names-with_values numeric_slot s.left_slots s.right_slots (numbered s.left_slots s.right_slots s.equation.pairs).0 (numbered s.left_slots s.right_slots s.equation.pairs).1 form.left form.right (λ x y a b q. omega arith) ∙ form.correspondence in (
      (s.equation.left, numbered_left s.left_slots s.right_slots s.equation.pairs),
      (s.equation.right, numbered_right s.left_slots s.right_slots s.equation.pairs),
      record {
        left = refl;
        right = refl;
        left_full = left;
        right_full = right;
        equation = λ i. record { left = s.equation.left; right = s.equation.right; pairs = shared i };
      },
    )

-- the sides in the form of the code
abbrev sides_of : Applied → Applied → Sides
sides_of c d = record {
  l = record { id = record { 0 = c.0 }; m = c.1 };
  r = record { id = record { 0 = d.0 }; m = d.1 };
}

-- a step that fits is refused for want of something alone
pub no_bad_step : {A : Type 0} (r : Result A Error) → IfErr r IsRefusal → ¬ IsErrOf r BadStep → IfErr r IsShortage
no_bad_step (Ok x) h fits = tt
no_bad_step (Err x) (inl bad) fits = absurd (fits (ap Err bad))
no_bad_step (Err x) (inr short) fits = short

-- p stands for what the find of a says, and q for what that of b says turned round
module _ (k : Kept) (stored : Stored k) (a b : Applied) (fa : IsFull (nodes_of k) a) (fb : IsFull (nodes_of k) b) (alike : FindAlike (entries_of k) a b) (m : Kept) (p q : ℕ)
    (first : Proves k m (find_equation (nodes_of k) (entries_of k) a.0) p) (second : Proves k m (turned_equation (nodes_of k) (find_equation (nodes_of k) (entries_of k) b.0)) q)
    (e : Sides) (el : to_applied e.l ≡ a) (er : to_applied e.r ≡ b) where
  abbrev ns : List DTerm
  ns = nodes_of k

  abbrev es : List Entry
  es = entries_of k

  abbrev s : Statement
  s = statement_at m.proofs p

  abbrev t : Statement
  t = statement_at m.proofs q

  abbrev there : Stored m
  there = first.only.stored

  same-nodes : nodes_of m ≡ ns
  same-nodes = only-nodes k m first.only

  left-slots : (r : ℕ) (i : ℕ) → r < length m.proofs → (statement_at m.proofs r).equation.left ≡ i → (statement_at m.proofs r).left_slots ≡ canonical_slots ns i
  left-slots r i h x = (there.proved.canonical r h).left ∙ (λ j. canonical_slots (same-nodes j) (x j))

  right-slots : (r : ℕ) (i : ℕ) → r < length m.proofs → (statement_at m.proofs r).equation.right ≡ i → (statement_at m.proofs r).right_slots ≡ canonical_slots ns i
  right-slots r i h x = (there.proved.canonical r h).right ∙ (λ j. canonical_slots (same-nodes j) (x j))

  same-class : find_class es a.0 ≡ find_class es b.0
  same-class = ap (λ (x : Applied). x.0) alike

  joins : CanJoin (equation_of a b).pairs s.equation.pairs t.equation.pairs
  joins =
      subst (λ A. CanJoin (equation_of a b).pairs A t.equation.pairs) (sym (ap (λ (x : Equation). x.pairs) first.equation))
      (subst (λ B. CanJoin (equation_of a b).pairs (find_equation ns es a.0).pairs B) (sym (ap (λ (x : Equation). x.pairs) second.equation))
      (found_alike-join ns es stored.sane.sound.linked a b fa fb alike).joins)

  joined : IsJoined (statement_of e) s t
  joined = (
    record {
      begins = (
        ap (λ (x : Applied). x.0) el ∙ sym (ap (λ (x : Equation). x.left) first.equation),
        ap (λ (x : Applied). keys x.1) el ∙ (fa.slots ∙ sym (left-slots p a.0 first.in_range (ap (λ (x : Equation). x.left) first.equation))),
      );
      meets = (
        ap (λ (x : Equation). x.right) first.equation ∙ (same-class ∙ sym (ap (λ (x : Equation). x.left) second.equation)),
        right-slots p (find_class es a.0) first.in_range (ap (λ (x : Equation). x.right) first.equation)
            ∙ (ap (canonical_slots ns) same-class ∙ sym (left-slots q (find_class es b.0) second.in_range (ap (λ (x : Equation). x.left) second.equation))),
      );
      ends = (
        ap (λ (x : Applied). x.0) er ∙ sym (ap (λ (x : Equation). x.right) second.equation),
        ap (λ (x : Applied). keys x.1) er ∙ (fb.slots ∙ sym (right-slots q b.0 second.in_range (ap (λ (x : Equation). x.right) second.equation))),
      );
    },
    subst (λ (z : Applied × Applied). CanJoin (same_names z.0.1 z.1.1) s.equation.pairs t.equation.pairs) (λ i. (sym el i, sym er i)) joins,
  )

  ap-injective : {c : AppliedId} {d : Applied} → to_applied c ≡ d → IsInjectiveMap d.1 → IsInjectiveMap c.m
  ap-injective h i = subst (λ (z : Applied). IsInjectiveMap z.1) (sym h) i

  pub joined-step : IsTransitiveStep m.proofs e p q
  joined-step =
      let v = written_sides (nodes_of m) m.proofs there.proved p first.in_range in
      let w = written_sides (nodes_of m) m.proofs there.proved q second.in_range in
      by_sides v.0 v.1 w.0 w.1 v.2 w.2
    where
      by_sides : (v0 v1 w0 w1 : Applied) → AreSides s v0 v1 → AreSides t w0 w1 → IsTransitiveStep m.proofs e p q
      by_sides v0 v1 w0 w1 v w =
          let x : statement_of (sides_of v0 v1) ≡ s = stated s v0 v1 v in
          let y : statement_of (sides_of w0 w1) ≡ t = stated t w0 w1 w in
          (transitive_told m.proofs e (sides_of v0 v1) (sides_of w0 w1) p q first.in_range second.in_range v w (record {
            left = ap-injective el fa.injective;
            right = ap-injective er fb.injective;
          })).1 (subst (λ (z : Statement × Statement). IsJoined (statement_of e) z.0 z.1) (λ i. (sym x i, sym y i)) joined)

  e-full : IsOfFull (nodes_of m) e
  e-full = record {
    left = subst (λ (z : List DTerm × Applied). IsFull z.0 z.1) (λ i. (sym same-nodes i, sym el i)) fa;
    right = subst (λ (z : List DTerm × Applied). IsFull z.0 z.1) (λ i. (sym same-nodes i, sym er i)) fb;
  }

  pub joined-proves : (l : Kept) (r : ℕ) → EntersBy m l e (transitive p q) r → ProvesEqual k l a b r
  joined-proves l r enters =
      let h : Proves m l (equation_of (to_applied e.l) (to_applied e.r)) r =
      entering-proves m there (by_step (statement_of e) (transitive p q)) (transitive_fits (nodes_of m) m.proofs e e-full p q joined-step) (λ z. cc) l r enters in
      then-proves k m l (equation_of a b) r first.only (subst (λ (z : Applied × Applied). Proves m l (equation_of z.0 z.1) r) (λ i. (el i, er i)) h)

  -- of two full ids with too many names one is of a class with too many slots
  pub joined-large : 2 ^ 30 ≤ length e.l.m + length e.r.m → HasLargeClassOf k a.0 b.0
  joined-large h =
      let la : length e.l.m ≡ length (canonical_slots ns a.0) = sym (length-keys e.l.m) ∙ (ap (λ (x : Applied). length (keys x.1)) el ∙ ap length fa.slots) in
      let lb : length e.r.m ≡ length (canonical_slots ns b.0) = sym (length-keys e.r.m) ∙ (ap (λ (x : Applied). length (keys x.1)) er ∙ ap length fb.slots) in
      let n : length ns ≡ length k.classes = length-nodes_of k in
      let wa : a.0 < length ns = fa.in_range in
      let wb : b.0 < length ns = fb.in_range in
      elim (cases_lt (length e.l.m) (2 ^ 29)) [
        | inl few ↦ (b.0, omega arith, inr refl, omega (arith, h, few, lb))
        | inr many ↦ (a.0, omega arith, inl refl, omega (arith, many, la))
      ]
