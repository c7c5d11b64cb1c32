-- What asserting an equation of two full ids leaves.
use Rattle.std.proofs.Common.{◌≡◌, ℕ, ◌<◌, List, [], ◌∷◌, ◌++◌, length, sym, ◌∙◌, ap, refl, subst, inl, inr, arith}
use Rattle.std.specs.Prelude.{◌⊎◌, map, false, Option}
use Rattle.std.proofs.lemmas.List.{append-nil, map-append}
use Rattle.slotted_theory.specs.Nameless.{DTerm}
use Rattle.slotted_model.specs.Adding as adding
use Rattle.slotted_model.specs.Applied.{Applied}
use Rattle.slotted_model.specs.Changes.{GoesOn, StandsAt}
use Rattle.slotted_model.specs.Changes as model
use Rattle.slotted_model.specs.Classes.{IsFull}
use Rattle.slotted_model.specs.Link.{CanEnter}
use Rattle.slotted_model.specs.ProofList.{ProofEntry, equation_of, asserted, term_pair}
use Rattle.slotted_model.specs.Rebuild.{Runs, HasNothingLeft}
use Rattle.slotted_model.specs.Rest.{Sane}
use Rattle.slotted_model.specs.State.{Row, State}
use Rattle.slotted_model.proofs.Rebuilding.Asserting.{entry-goes_on, entry-sane}
use Rattle.slotted_model.proofs.Finds.Entering.{entered-asserted}
use Rattle.slotted_model.proofs.Rebuilding.GoingOn.{goes_on-same}
use Rattle.slotted_proofs.specs.Equations.{Statement}
use Rattle.slotted_proofs.specs.Entries.{Proven, entry_of, Stands, IsNew, Enters, asserted_entry}
use Rattle.slotted_proofs.specs.Proving.{IsProvable}
use Rattle.slotted_proofs.proofs.Entering.{asserted_provable, new_can_enter, entering_proved, entered_stands}
use Rattle.slotted_operations.specs.Image.{StandsIn, Asserts, Records, asserted_in}
use Rattle.slotted_classes.specs.Kept.{Kept, nodes_of, entries_of, proofs_of, with_proofs, EntersIn}
use Rattle.slotted_classes.proofs.KeptLists.{equation_at-of, length-proofs_of}
use Rattle.slotted_hashcons.specs.FiledRows.{Rows, rows_in}
use Rattle.slotted_classes.specs.StateOf.{state_of, state_with}
use Rattle.slotted_classes.specs.Stored.{Stored, IsOverOneClass}
use Rattle.slotted_rebuilding.specs.Grows.{Grows}
use Rattle.slotted_rebuilding.proofs.GrownRows.{grown-count, grown-rows}
use Rattle.slotted_rebuilding.proofs.EnteredProofs.{entered-more}
use Rattle.slotted_hashcons.specs.WellFiled.{state_in, IsWellFiled}
use Rattle.slotted_rebuilding.proofs.FiledStates.{fits-grown, places-grown}
use Rattle.slotted_operations.specs.Good.{image_of, Good}
use Rattle.slotted_operations.proofs.Graphs.EntryTexts.{records-stood, records-last}

-- the equation of a and b stands at p, by the entry x if it stood nowhere, and nothing else has changed
pub record IsAsserted (k m : Kept) (x : Proven) (a b : Applied) (p : ℕ) : Type 0 where
  pub stored : Stored m
  pub settled : m.dropped ≡ false
  pub goes_on : GoesOn (state_of k) (state_of m)
  pub grows : Grows k m
  pub found : entries_of m ≡ entries_of k
  pub stands : StandsAt (state_of m) p (equation_of a b)
  pub in_range : p < length m.proofs
  pub asserts : Asserts (image_of k) (image_of m) (equation_of a b)
  pub records : Records (image_of k) (image_of m) x

module _ (k : Kept) (good : Good k) (a b : Applied) (fa : IsFull (nodes_of k) a) (fb : IsFull (nodes_of k) b) (text : Option (List ℕ)) where
  abbrev nodes : List DTerm
  nodes = nodes_of k

  abbrev x : Proven
  x = asserted_entry a b text

  abbrev state : State
  state = state_of k

  can : IsProvable nodes k.proofs x
  can = asserted_provable nodes k.proofs a b text fa fb

  -- what holds of the list as it was, and with a new entry, holds of what it is now
  by_list : (Q : List ProofEntry → Type 0) → Q (proofs_of k) → (CanEnter nodes (proofs_of k) (entry_of x) → Q (proofs_of k ++ entry_of x ∷ [])) → (ps : List Proven) (p : ℕ) → Enters k.proofs ps x p → Q (map entry_of ps)
  by_list Q old new ps p enters = elim enters.grows [
    | inl h ↦ subst (λ qs. Q (map entry_of qs)) (sym h.1) old
    | inr h ↦ subst Q (sym (ap (map entry_of) h.2 ∙ map-append entry_of k.proofs (x ∷ []))) (new (new_can_enter nodes k.proofs good.stored.proved x can h.0))
  ]

  asserted-sane : (ps : List Proven) (p : ℕ) → Enters k.proofs ps x p → Sane (model.with_proofs state (map entry_of ps))
  asserted-sane = by_list (λ es. Sane (model.with_proofs state es)) good.stored.sane (entry-sane state good.stored.sane (entry_of x))

  -- also where nodes are filed
  sane-with : (rows : List Row) (w : List ℕ) → Sane (state_with k rows w) → (ps : List Proven) (p : ℕ) → Enters k.proofs ps x p → Sane (model.with_proofs (state_with k rows w) (map entry_of ps))
  sane-with rows w sane = by_list (λ es. Sane (model.with_proofs (state_with k rows w) es)) sane (entry-sane (state_with k rows w) sane (entry_of x))

  asserted-goes_on : (ps : List Proven) (p : ℕ) → Enters k.proofs ps x p → GoesOn state (model.with_proofs state (map entry_of ps))
  asserted-goes_on = by_list (λ es. GoesOn state (model.with_proofs state es)) (goes_on-same state good.stored.sane.sound.linked) (entry-goes_on state good.stored.sane (entry_of x))

  stood-in : (p : ℕ) → Stands k.proofs x.statement p → StandsIn (image_of k) (equation_of a b)
  stood-in p stood =
      let n : length (proofs_of k) ≡ length k.proofs = length-proofs_of k in
      (p, omega (arith, stood.in_range), equation_at-of k.proofs p ∙ ap (λ (s : Statement). s.equation) stood.statement)

  asserts-list : (ps : List Proven) (p : ℕ) → Enters k.proofs ps x p → (StandsIn (image_of k) (equation_of a b) × (asserted nodes (map entry_of ps) ≡ asserted_in (image_of k))) ⊎ ((¬ StandsIn (image_of k) (equation_of a b)) × (asserted nodes (map entry_of ps) ≡ asserted_in (image_of k) ++ term_pair nodes (equation_of a b) ∷ []))
  asserts-list ps p enters = elim enters.grows [
    | inl h ↦ inl (stood-in p h.0, ap (λ qs. asserted nodes (map entry_of qs)) h.1)
    | inr h ↦
        let new : CanEnter nodes (proofs_of k) (entry_of x) = new_can_enter nodes k.proofs good.stored.proved x can h.0 in
        inr ((λ s. new.is_new s.0 s.1 s.2), longer h.2)
  ]
    where
      longer : ps ≡ k.proofs ++ x ∷ [] → asserted nodes (map entry_of ps) ≡ asserted_in (image_of k) ++ term_pair nodes (equation_of a b) ∷ []
      longer e = ap (λ qs. asserted nodes (map entry_of qs)) e ∙ (ap (asserted nodes) (map-append entry_of k.proofs (x ∷ [])) ∙ entered-asserted nodes (proofs_of k) (entry_of x))

  recorded : (ps : List Proven) (p : ℕ) → Enters k.proofs ps x p → Records (image_of k) (image_of (with_proofs k ps)) x
  recorded ps p enters = elim enters.grows [
    | inl h ↦ records-stood (image_of k) (image_of (with_proofs k ps)) x (stood-in p h.0) h.1
    | inr h ↦ records-last (image_of k) (image_of (with_proofs k ps)) x h.2
  ]

  pub is_asserted : (m : Kept) (p : ℕ) → EntersIn k m x p → IsAsserted k m x a b p
  is_asserted m p e = subst (λ (z : Kept). IsAsserted k z x a b p) (sym e.kept) (record {
    stored = record {
      sane = asserted-sane e.proofs p e.enters;
      proved = entering_proved nodes k.proofs e.proofs x p good.stored.proved can e.enters;
      later = good.stored.later;
      sides = λ y c.
          let s : IsOverOneClass k y = good.stored.sides y c in
          record { left = s.left; right = s.right; class = s.class; slots = s.slots; left_known = s.left_known; right_known = s.right_known };
      once = good.stored.once;
      settled = good.stored.settled;
    };
    settled = good.settled;
    goes_on = asserted-goes_on e.proofs p e.enters;
    grows = record {
      nodes = refl;
      forms = λ i. refl;
      rows = refl;
      more = (entered-more k.proofs e.proofs x p e.enters).0;
      proofs = (entered-more k.proofs e.proofs x p e.enters).1;
      listed = [];
      symmetries = sym (append-nil k.symmetries);
      gone = [];
      deaths = sym (append-nil k.deaths);
      counts = refl;
    };
    found = refl;
    stands = ((entered_stands k.proofs e.proofs x p e.enters).0, (entered_stands k.proofs e.proofs x p e.enters).1);
    in_range = e.enters.stands.in_range;
    asserts = record {
      number = p;
      in_range = (entered_stands k.proofs e.proofs x p e.enters).0;
      stands = (entered_stands k.proofs e.proofs x p e.enters).1;
      asserted = asserts-list e.proofs p e.enters;
    };
    records = recorded e.proofs p e.enters;
  })

  -- what is filed fits
  pub asserted-filed : (r : Rows) → IsWellFiled k r → (m : Kept) (p : ℕ) → EntersIn k m x p → IsWellFiled m r
  asserted-filed r well m p e =
      let said : IsAsserted k m x a b p = is_asserted m p e in
      record {
        stored = said.stored;
        canonical = grown-rows k m said.grows well.canonical;
        fits = fits-grown k m said.grows well.fits;
        count = well.count ∙ sym (grown-count k m said.grows);
        sane = subst (λ (z : Kept). Sane (state_in z r)) (sym e.kept) (sane-with (rows_in r.filed) r.waiting well.sane e.proofs p e.enters);
        keyed = well.keyed;
        places = λ i f c. places-grown k m said.grows i f.0 (well.places i f c);
      }

  -- a union by the entry, and a run that leaves nothing to do, assert that the two are equal
  module _ (r : Rows) (f h : State) (n : ℕ) (runs : Runs f n h) (left : HasNothingLeft h) where
    stood-by : (ps : List Proven) (p : ℕ) → Stands k.proofs x.statement p → ps ≡ k.proofs → model.Unites p (state_in (with_proofs k ps) r) f → adding.Asserts (state_in k r) a b h
    stood-by ps p stood same u =
        let n : length (proofs_of k) ≡ length k.proofs = length-proofs_of k in
        adding.stands p (omega (arith, stood.in_range, n), equation_at-of k.proofs p ∙ ap (λ (s : Statement). s.equation) stood.statement) (subst (λ qs. model.Unites p (state_in (with_proofs k qs) r) f) same u) runs left

    new-by : (ps : List Proven) (p : ℕ) → IsNew k.proofs x.statement → p ≡ length k.proofs → ps ≡ k.proofs ++ x ∷ [] → model.Unites p (state_in (with_proofs k ps) r) f → adding.Asserts (state_in k r) a b h
    new-by ps p new last grows u =
        let enter : CanEnter nodes (proofs_of k) (entry_of x) = new_can_enter nodes k.proofs good.stored.proved x can new in
        let same : state_in (with_proofs k ps) r ≡ adding.with_assertion (state_in k r) (equation_of a b) =
        ap (λ qs. model.with_proofs (state_in k r) (map entry_of qs)) grows ∙ ap (model.with_proofs (state_in k r)) (map-append entry_of k.proofs (x ∷ [])) in
        let number : p ≡ length (proofs_of k) = last ∙ sym (length-proofs_of k) in
        adding.is_new (λ q w e. enter.is_new q w e) (subst (λ (y : ℕ × State). model.Unites y.0 y.1 f) (λ i. (number i, same i)) u) runs left

    pub asserts-by : (m : Kept) (p : ℕ) → EntersIn k m x p → model.Unites p (state_in m r) f → adding.Asserts (state_in k r) a b h
    asserts-by m p e u =
        let v : model.Unites p (state_in (with_proofs k e.proofs) r) f = subst (λ (z : Kept). model.Unites p (state_in z r) f) e.kept u in
        elim e.enters.grows [
          | inl w ↦ stood-by e.proofs p w.0 w.1 v
          | inr w ↦ new-by e.proofs p w.0 w.1 w.2 v
        ]
