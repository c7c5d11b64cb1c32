-- What entries leave that assert nothing: only the proof list grows, and what is kept stays as good as it was.
use Rattle.std.proofs.Common.{◌≡◌, ◌≢◌, ℕ, ◌<◌, ◌+◌, ◌^◌, List, [], ◌∷◌, ◌++◌, length, sym, ◌∙◌, ap, refl, subst, inl}
use Rattle.std.proofs.Common.{inr, arith, append_assoc, length-append}
use Rattle.std.specs.Prelude.{map}
use Rattle.std.proofs.lemmas.Bool.{cases_lt}
use Rattle.std.proofs.lemmas.List.{append-nil, map-append, get_or_append_left}
use Rattle.slotted_theory.specs.Nameless.{DTerm}
use Rattle.slotted_model.specs.Applied.{Applied}
use Rattle.slotted_model.specs.Classes.{canonical_slots}
use Rattle.slotted_model.specs.Correspondence.{composite}
use Rattle.slotted_model.specs.ProofList.{Equation, ProofEntry, explicit, IsOver, turned_equation}
use Rattle.slotted_model.specs.Changes.{ProofsGrow, StandsAt}
use Rattle.slotted_model.specs.Changes as model
use Rattle.slotted_model.specs.State.{Row}
use Rattle.slotted_model.proofs.Rebuilding.GrowingLists.{proofs-sane}
use Rattle.slotted_proofs.specs.Equations.{Statement, Meets, IsWritten}
use Rattle.slotted_proofs.specs.declared.equation.Equation.{Equation as Sides}
use Rattle.slotted_proofs.specs.Entries.{Proven, entry_of, nothing_proven, statement_at, Enters, turned_entry}
use Rattle.slotted_proofs.specs.Entries.{composite_entry}
use Rattle.slotted_proofs.specs.Proving.{IsProvable, IsProved}
use Rattle.slotted_proofs.proofs.Entering.{entry-over, entries_meet, turned_provable, composite_provable}
use Rattle.slotted_proofs.proofs.Entering.{entering_proved, others_assert_nothing}
use Rattle.slotted_classes.specs.Kept.{Kept, nodes_of, entries_of, proofs_of, with_proofs, EntersIn, HasManySlots}
use Rattle.slotted_classes.proofs.KeptLists.{equation_at-of, length-nodes_of, length-proofs_of}
use Rattle.slotted_rebuilding.specs.Proving.{OnlyProves, Proves, HasLargeClassOf}
use Rattle.slotted_classes.specs.StateOf.{state_of, state_with}
use Rattle.slotted_classes.specs.Stored.{Stored, IsOverOneClass}
use Rattle.slotted_rebuilding.specs.Grows.{Grows}

-- the classes of an entry, as the code reads them
pub entry-left : (k : Kept) (ps : List Proven) (p : ℕ) (e : Sides) → ps ≡ k.proofs → IsWritten (statement_at ps p) e →
    e.l.id.0 ≡ (statement_at k.proofs p).equation.left
entry-left k ps p e same written = ap (λ (a : Applied). a.0) written.left
    ∙ ap (λ qs. (statement_at qs p).equation.left) same

pub entry-right : (k : Kept) (ps : List Proven) (p : ℕ) (e : Sides) → ps ≡ k.proofs → IsWritten (statement_at ps p) e →
    e.r.id.0 ≡ (statement_at k.proofs p).equation.right
entry-right k ps p e same written = ap (λ (a : Applied). a.0) written.right
    ∙ ap (λ qs. (statement_at qs p).equation.right) same

-- how a list grew by an entry
pub entered-more : (old new : List Proven) (x : Proven) (p : ℕ) → Enters old new x p →
    (more : List Proven) × (new ≡ old ++ more)
entered-more old new x p enters = elim enters.grows [
  | inl e ↦ ([], e.1 ∙ sym (append-nil old))
  | inr e ↦ (x ∷ [], e.2)
]

-- what is kept after the proof list grew
module _ (k : Kept) (stored : Stored k) (ps : List Proven) (proved : IsProved (nodes_of k) ps)
    (grow : ProofsGrow (nodes_of k) (proofs_of k) (map entry_of ps)) where
  grown-stored : Stored (with_proofs k ps)
  grown-stored = record {
    sane = proofs-sane (state_of k) stored.sane (map entry_of ps) grow;
    proved = proved;
    later = stored.later;
    sides = λ y c.
        let s : IsOverOneClass k y = stored.sides y c in
        record { left = s.left; right = s.right; class = s.class; slots = s.slots; left_known = s.left_known; right_known = s.right_known };
    once = stored.once;
    settled = stored.settled;
  }

-- nothing is entered
pub nothing-proved : (k : Kept) → Stored k → OnlyProves k k
nothing-proved k stored = record {
  stored = stored;
  proofs = k.proofs;
  kept = refl;
  more = [];
  grows = sym (append-nil k.proofs);
  asserts_nothing = record {
    more = [];
    is = sym (append-nil (proofs_of k));
    proved = stored.proved.proved;
    asserts_nothing = refl;
  };
}

-- one entry that is provable, and asserts nothing
module _ (k : Kept) (stored : Stored k) (x : Proven) (can : IsProvable (nodes_of k) k.proofs x)
    (silent : x.step ≢ explicit) where
  entered-grow : (ps : List Proven) (p : ℕ) → Enters k.proofs ps x p →
      ProofsGrow (nodes_of k) (proofs_of k) (map entry_of ps)
  entered-grow ps p enters =
      let more : (more : List Proven) × (ps ≡ k.proofs ++ more) = entered-more k.proofs ps x p enters in
      record {
        more = map entry_of more.0;
        is = ap (map entry_of) more.1 ∙ map-append entry_of k.proofs more.0;
        proved = (entering_proved (nodes_of k) k.proofs ps x p stored.proved can enters).proved;
        asserts_nothing = others_assert_nothing (nodes_of k) k.proofs ps x p enters silent;
      }

  pub entering-proves : (l : Kept) (p : ℕ) → EntersIn k l x p → Proves k l x.statement.equation p
  entering-proves l p e = subst (λ (m : Kept). Proves k m x.statement.equation p) (sym e.kept) (record {
    only = record {
      stored = grown-stored k stored e.proofs
          (entering_proved (nodes_of k) k.proofs e.proofs x p stored.proved can e.enters)
          (entered-grow e.proofs p e.enters);
      proofs = e.proofs;
      kept = refl;
      more = (entered-more k.proofs e.proofs x p e.enters).0;
      grows = (entered-more k.proofs e.proofs x p e.enters).1;
      asserts_nothing = entered-grow e.proofs p e.enters;
    };
    in_range = e.enters.stands.in_range;
    equation = ap (λ (s : Statement). s.equation) e.enters.stands.statement;
  })

-- what grew only in its proof list
module _ (k l : Kept) (only : OnlyProves k l) where
  pub only-nodes : nodes_of l ≡ nodes_of k
  only-nodes = ap nodes_of only.kept

  pub only-entries : entries_of l ≡ entries_of k
  only-entries = ap entries_of only.kept

  pub only-proofs : l.proofs ≡ k.proofs ++ only.more
  only-proofs = ap (λ (x : Kept). x.proofs) only.kept ∙ only.grows

  -- the state has another proof list, whatever rows there are and whatever waits
  pub only-state : (rows : List Row) (w : List ℕ) → state_with l rows w ≡ model.with_proofs (state_with k rows w) (proofs_of l)
  only-state rows w = λ i. record {
    nodes = nodes_of (only.kept i);
    found = entries_of (only.kept i);
    proofs = proofs_of l;
    rows = rows;
    waiting = w;
    symmetries = (state_of (only.kept i)).symmetries;
  }

  pub only-grows : Grows k l
  only-grows = subst (λ (m : Kept). Grows k m) (sym only.kept) (record {
    nodes = refl;
    forms = λ i. refl;
    rows = refl;
    more = only.more;
    proofs = only.grows;
    listed = [];
    symmetries = sym (append-nil k.symmetries);
    gone = [];
    deaths = sym (append-nil k.deaths);
    counts = refl;
  })

  -- what stood stands
  pub only-stands : (p : ℕ) → p < length k.proofs →
      (p < length l.proofs) × (statement_at l.proofs p ≡ statement_at k.proofs p)
  only-stands p h = subst (λ ps. (p < length ps) × (statement_at ps p ≡ statement_at k.proofs p)) (sym only-proofs) (
    (let n : length (k.proofs ++ only.more) ≡ length k.proofs + length only.more =
        length-append k.proofs only.more in omega arith),
    ap (λ (x : Proven). x.statement) (get_or_append_left k.proofs only.more nothing_proven p h),
  )

  pub only-says : (p : ℕ) → p < length k.proofs → (statement_at l.proofs p).equation ≡ (statement_at k.proofs p).equation
  only-says p h = ap (λ (s : Statement). s.equation) (only-stands p h).1

  -- a class that is too large was so
  pub only-large : (a b : ℕ) → HasLargeClassOf l a b → HasLargeClassOf k a b
  only-large a b = subst (λ (m : Kept). HasLargeClassOf m a b) only.kept

-- the model's list grows first, and then
pub grow-then : (nodes : List DTerm) (a b c : List ProofEntry) → ProofsGrow nodes a b → ProofsGrow nodes b c →
    ProofsGrow nodes a c
grow-then nodes a b c f g = record {
  more = f.more ++ g.more;
  is = g.is ∙ (ap (λ ps. ps ++ g.more) f.is ∙ append_assoc a f.more g.more);
  proved = g.proved;
  asserts_nothing = g.asserts_nothing ∙ f.asserts_nothing;
}

-- what is proved first, and then
pub proved-then : (k l m : Kept) → OnlyProves k l → OnlyProves l m → OnlyProves k m
proved-then k l m a b = record {
  stored = b.stored;
  proofs = b.proofs;
  kept = b.kept ∙ ap (λ (x : Kept). with_proofs x b.proofs) a.kept;
  more = a.more ++ b.more;
  grows = b.grows ∙ (ap (λ ps. ps ++ b.more) (only-proofs k l a) ∙ append_assoc k.proofs a.more b.more);
  asserts_nothing = grow-then (nodes_of k) (proofs_of k) (proofs_of l) (proofs_of m) a.asserts_nothing
      (subst (λ ns. ProofsGrow ns (proofs_of l) (proofs_of m)) (only-nodes k l a) b.asserts_nothing);
}

-- what is proved after other entries
pub then-proves : (k l m : Kept) (e : Equation) (p : ℕ) → OnlyProves k l → Proves l m e p → Proves k m e p
then-proves k l m e p only proves = record {
  only = proved-then k l m only proves.only;
  in_range = proves.in_range;
  equation = proves.equation;
}

-- what is proved is so still after more entries
pub proves-still : (k l m : Kept) (e : Equation) (p : ℕ) → Proves k l e p → OnlyProves l m → Proves k m e p
proves-still k l m e p proves only =
    let s : (p < length m.proofs) × (statement_at m.proofs p ≡ statement_at l.proofs p) =
    only-stands l m only p proves.in_range in
    record {
      only = proved-then k l m proves.only only;
      in_range = s.0;
      equation = ap (λ (t : Statement). t.equation) s.1 ∙ proves.equation;
    }

-- the number of an equation, as the model has it
pub stands-at : (k : Kept) (e : Equation) (p : ℕ) → p < length k.proofs → (statement_at k.proofs p).equation ≡ e →
    StandsAt (state_of k) p e
stands-at k e p h says = (
  (let n : length (proofs_of k) ≡ length k.proofs = length-proofs_of k in omega arith),
  equation_at-of k.proofs p ∙ says,
)

pub proves-stands : (k l : Kept) (e : Equation) (p : ℕ) → Proves k l e p → StandsAt (state_of l) p e
proves-stands k l e p proves = stands-at l e p proves.in_range proves.equation

-- each entry is over the graph
pub stored-over : (k : Kept) → Stored k → (p : ℕ) → p < length k.proofs →
    IsOver (nodes_of k) (statement_at k.proofs p).equation
stored-over k stored = entry-over (nodes_of k) k.proofs stored.proved

-- entries meet where their classes do
pub stored-meet : (k : Kept) → Stored k → (p q : ℕ) → p < length k.proofs → q < length k.proofs →
    (statement_at k.proofs p).equation.right ≡ (statement_at k.proofs q).equation.left →
    Meets (statement_at k.proofs p) (statement_at k.proofs q)
stored-meet k stored = entries_meet (nodes_of k) k.proofs stored.proved

-- what turning an entry leaves
pub turned-only : (k : Kept) → Stored k → (l : Kept) (p r : ℕ) → p < length k.proofs →
    EntersIn k l (turned_entry k.proofs p) r →
    Proves k l (turned_equation (nodes_of k) (statement_at k.proofs p).equation) r
turned-only k stored l p r h e =
    let provable = turned_provable (nodes_of k) k.proofs stored.proved p h in
    let proves : Proves k l (turned_entry k.proofs p).statement.equation r =
    entering-proves k stored (turned_entry k.proofs p) provable.0 (λ z. cc) l r e in
    record { only = proves.only; in_range = proves.in_range; equation = proves.equation ∙ provable.1 }

-- what chaining two entries leaves
abbrev pub chained_equation : Equation → Equation → Equation
chained_equation e f = record { left = e.left; right = f.right; pairs = composite e.pairs f.pairs }

pub chained-only : (k : Kept) → Stored k → (l : Kept) (p q r : ℕ) → p < length k.proofs → q < length k.proofs →
    (statement_at k.proofs p).equation.right ≡ (statement_at k.proofs q).equation.left →
    EntersIn k l (composite_entry k.proofs p q) r →
    Proves k l (chained_equation (statement_at k.proofs p).equation (statement_at k.proofs q).equation) r
chained-only k stored l p q r h i m e = entering-proves k stored (composite_entry k.proofs p q)
    (composite_provable (nodes_of k) k.proofs stored.proved p q h i m) (λ z. cc) l r e

-- the same of what was proved before
pub then-turned : (k l m : Kept) (e : Equation) (p r : ℕ) → Proves k l e p → EntersIn l m (turned_entry l.proofs p) r →
    Proves k m (turned_equation (nodes_of k) e) r
then-turned k l m e p r rest enters =
    let step : Proves l m (turned_equation (nodes_of l) (statement_at l.proofs p).equation) r =
    turned-only l rest.only.stored m p r rest.in_range enters in
    record {
      only = proved-then k l m rest.only step.only;
      in_range = step.in_range;
      equation = step.equation ∙ (λ t. turned_equation (only-nodes k l rest.only t) (rest.equation t));
    }

pub then-chained : (k l m : Kept) (e f : Equation) (p q r : ℕ) → Proves k l e p → q < length l.proofs →
    (statement_at l.proofs q).equation ≡ f → e.right ≡ f.left →
    EntersIn l m (composite_entry l.proofs p q) r → Proves k m (chained_equation e f) r
then-chained k l m e f p q r first h second joins enters =
    let meets : (statement_at l.proofs p).equation.right ≡ (statement_at l.proofs q).equation.left =
    ap (λ (x : Equation). x.right) first.equation ∙ (joins ∙ sym (ap (λ (x : Equation). x.left) second)) in
    let step : Proves l m (chained_equation (statement_at l.proofs p).equation (statement_at l.proofs q).equation) r =
    chained-only l first.only.stored m p q r first.in_range h meets enters in
    record {
      only = proved-then k l m first.only step.only;
      in_range = step.in_range;
      equation = step.equation ∙ (λ t. chained_equation (first.equation t) (second t));
    }

-- of the left class of an entry and the right one of another, which have too many slots, one is large
pub many-large : (k : Kept) → Stored k → (p q : ℕ) → p < length k.proofs → q < length k.proofs → HasManySlots k p q →
    HasLargeClassOf k (statement_at k.proofs p).equation.left (statement_at k.proofs q).equation.right
many-large k stored p q hp hq many =
    let e : Equation = (statement_at k.proofs p).equation in
    let f : Equation = (statement_at k.proofs q).equation in
    let n : length (nodes_of k) ≡ length k.classes = length-nodes_of k in
    let a : length (statement_at k.proofs p).left_slots ≡ length (canonical_slots (nodes_of k) e.left) =
    ap length (stored.proved.canonical p hp).left in
    let b : length (statement_at k.proofs q).right_slots ≡ length (canonical_slots (nodes_of k) f.right) =
    ap length (stored.proved.canonical q hq).right in
    let le : e.left < length (nodes_of k) = (stored-over k stored p hp).left in
    let rf : f.right < length (nodes_of k) = (stored-over k stored q hq).right in
    elim (cases_lt (length (canonical_slots (nodes_of k) e.left)) (2 ^ 29)) [
      | inl small ↦ (f.right, omega (arith, rf, n), inr refl, omega (arith, many, a, b, small))
      | inr large ↦ (e.left, omega (arith, le, n), inl refl, omega (arith, large))
    ]

-- the same where more entries were made before
pub then-large : (k l : Kept) → OnlyProves k l → (p q : ℕ) → p < length l.proofs → q < length l.proofs →
    HasManySlots l p q → HasLargeClassOf k (statement_at l.proofs p).equation.left (statement_at l.proofs q).equation.right
then-large k l only p q hp hq many =
    only-large k l only (statement_at l.proofs p).equation.left (statement_at l.proofs q).equation.right
    (many-large l only.stored p q hp hq many)
