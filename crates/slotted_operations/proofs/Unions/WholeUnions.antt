-- A whole union of full ids: what was asserted, the union by its entry, and the rebuild that follows.
use Rattle.std.proofs.Common.{◌≡◌, ◌≢◌, ◌<◌, ◌≤◌, ◌+◌, ◌^◌, ℕ, List, length, sym, ◌∙◌, ap, subst, inl, inr, arith, length-append}
use Rattle.std.specs.Prelude.{Contains, Option, map}
use Rattle.std.proofs.lemmas.Bool.{cases_lt}
use Rattle.std.proofs.lemmas.List.{map-append, get_or_append_left}
use Rattle.slotted_lists.proofs.Maps.{length-keys}
use Rattle.slotted_model.specs.Adding as adding
use Rattle.slotted_model.specs.Adding.{HasAsserted, IsExactAssertion}
use Rattle.slotted_model.specs.Applied.{Applied, values}
use Rattle.slotted_model.specs.Changes.{GoesOn, HasUnited}
use Rattle.slotted_model.specs.Classes.{canonical_slots, IsFull}
use Rattle.slotted_model.specs.Find.{find_class, find}
use Rattle.slotted_model.specs.ProofList.{Equation, equation_at, equation_of}
use Rattle.slotted_model.specs.Rebuild.{IsRebuilt}
use Rattle.slotted_model.specs.Rest as model
use Rattle.slotted_model.specs.Rest.{FoundTogether, id_names, size, size_from}
use Rattle.slotted_model.proofs.Rebuilding.Asserting as laws
use Rattle.slotted_model.proofs.Rebuilding.EndsGrow.{assertion-exact}
use Rattle.slotted_model.proofs.Finds.NormalIds.{Contains-ascending, Contains-of_ascending, full-is_valid}
use Rattle.slotted_model.proofs.Rebuilding.Turning.{run}
use Rattle.slotted_model.proofs.Rebuilding.Unions.{unites}
use Rattle.slotted_model.proofs.Rebuilding.AfterUnions.{united-no_larger}
use Rattle.slotted_proofs.specs.Entries.{Proven, entry_of, nothing_proven, statement_at, asserted_entry}
use Rattle.slotted_classes.specs.Counts.{Counts}
use Rattle.slotted_classes.specs.Kept.{Kept, nodes_of, entries_of, proofs_of, size_of, EntersIn}
use Rattle.slotted_classes.proofs.KeptLists.{equation_at-of, length-nodes_of, length-proofs_of, full-within}
use Rattle.slotted_hashcons.specs.FiledRows.{Rows, rows_in}
use Rattle.slotted_rebuilding.specs.Proving as unions
use Rattle.slotted_classes.specs.StateOf.{state_of}
use Rattle.slotted_rebuilding.specs.Grows.{GrowsUncounted}
use Rattle.slotted_rebuilding.proofs.KeptSlots.{uncounted-then}
use Rattle.slotted_rebuilding.specs.Counted.{CountsFit, CountsGo, TotalsFit}
use Rattle.slotted_hashcons.specs.WellFiled.{state_in, IsWellFiled}
use Rattle.slotted_rebuilding.specs.Filed.{UnitesFiled}
use Rattle.slotted_rebuilding.specs.Turns.{Rebuilds}
use Rattle.slotted_rebuilding.proofs.RebuildCounts.{rebuild-fits}
use Rattle.slotted_operations.specs.Causes.{HasLargeClassIn, HasLargeClassOf, class_found}
use Rattle.slotted_operations.specs.Good.{Good, KeepsNotes, NeverMore, NotesLast, RestsWith, image_of}
use Rattle.slotted_operations.specs.Image.{Asserts, AreTogether, Continues, FoundAlike, Records, SameNames, asserted_in, found_id, live_size}
use Rattle.slotted_operations.proofs.Unions.Assertions.{IsAsserted, is_asserted, asserted-filed, asserts-by}
use Rattle.slotted_operations.proofs.Graphs.Continuations.{finds-new, finds-on, alike-on}
use Rattle.slotted_operations.proofs.Graphs.EntryTexts.{records-more}
use Rattle.slotted_operations.proofs.Additions.NewClasses.{grown-good}
use Rattle.slotted_operations.proofs.Graphs.Images.{class_found-is}
use Rattle.slotted_operations.proofs.Graphs.LiveSizes.{live_size-is}
use Rattle.slotted_operations.proofs.Graphs.AtRest.{at-rest}
use Rattle.slotted_operations.proofs.Unions.Symmetries.{none_open}
use Rattle.slotted_operations.proofs.Unions.JoinedClasses.{united-alike}

-- a slot of either list of names
same_set : (a b : Applied) → id_names a ≡ id_names b → SameNames a b
same_set a b e z = (
  λ c. Contains-of_ascending (values b.1) z (subst (λ xs. Contains xs z) e (Contains-ascending (values a.1) z c)),
  λ c. Contains-of_ascending (values a.1) z (subst (λ xs. Contains xs z) (sym e) (Contains-ascending (values b.1) z c)),
)

-- ids that the model finds together are together
pub together-in : (l : Kept) (q : Rows) → Good l → (a b : Applied) → found_id (image_of l) a ≡ find (entries_of l) a → found_id (image_of l) b ≡ find (entries_of l) b → FoundTogether (state_in l q) a b → AreTogether (image_of l) a b
together-in l q good a b ea eb t = record {
  class = ap (λ (y : Applied). y.0) ea ∙ (t.class ∙ sym (ap (λ (y : Applied). y.0) eb));
  names = same_set (found_id (image_of l) a) (found_id (image_of l) b) (ap id_names ea ∙ (t.names ∙ sym (ap id_names eb)));
  alike = λ closed. ea ∙ (t.alike (subst (model.HasNoOpenSymmetry (state_of l)) (ap (λ (y : Applied). y.0) ea) (none_open l good (found_id (image_of l) a).0 closed)) ∙ sym eb);
}

-- what a union of two full ids leaves, whose equation is entered as x
pub record UnitesFull (k : Kept) (r : Rows) (l : Kept) (q : Rows) (x : Proven) (a b : Applied) : Type 0 where
  pub good : Good l
  pub rests : RestsWith l q
  pub nodes : nodes_of l ≡ nodes_of k
  pub goes_on : GoesOn (state_in k r) (state_in l q)
  pub together : AreTogether (image_of l) a b
  pub of_two : find_class (entries_of k) a.0 ≢ find_class (entries_of k) b.0 → FoundAlike (image_of l) a b
  pub asserts : Asserts (image_of k) (image_of l) (equation_of a b)
  pub continues : Continues (image_of k) (image_of l)
  pub size : live_size (image_of l) ≤ live_size (image_of k)
  pub counts : NeverMore k l
  pub counts_go : CountsGo k.counts l.counts
  pub notes : KeepsNotes k l
  pub last : NotesLast k r l
  pub records : Records (image_of k) (image_of l) x

module _ (k : Kept) (r : Rows) (good : Good k) (rests : RestsWith k r) (a b : Applied) (fa : IsFull (nodes_of k) a) (fb : IsFull (nodes_of k) b) (text : Option (List ℕ))
    (m : Kept) (p : ℕ) (entered : EntersIn k m (asserted_entry a b text) p) (n : Kept) (s : Rows) (u : UnitesFiled p m r n s) (l : Kept) (q : Rows) (counted : ℕ) (rebuilds : Rebuilds n s l q counted) where
  abbrev x : Proven
  x = asserted_entry a b text

  said : IsAsserted k m x a b p
  said = is_asserted k good a b fa fb text m p entered

  well : IsWellFiled m r
  well = asserted-filed k good a b fa fb text r rests.filed m p entered

  united : HasUnited p (state_in m r) (state_in n s)
  united = unites p u.unites well.sane said.stands.0

  rebuilt : IsRebuilt (state_in n s) (state_in l q)
  rebuilt = (run (state_in n s) united.sane rebuilds.runs).rebuilt

  -- this was an assertion in the model's words
  asserts : adding.Asserts (state_in k r) a b (state_in l q)
  asserts = asserts-by k good a b fa fb text r (state_in n s) (state_in l q) rebuilds.turns rebuilds.runs rebuilds.nothing_left m p entered u.unites

  asserted : HasAsserted (state_in k r) a b (state_in l q)
  asserted = laws.asserts (state_in k r) (at-rest k r good rests) a b fa fb (state_in l q) asserts

  exact : IsExactAssertion (state_in k r) a b (state_in l q)
  exact = assertion-exact (state_in k r) (at-rest k r good rests) a b fa fb (state_in l q) asserts

  grows-after : GrowsUncounted m l
  grows-after = uncounted-then m n l u.by.grows rebuilds.grows

  grows : GrowsUncounted k l
  grows = uncounted-then k m l said.grows grows-after

  -- nothing was noted before the rebuild
  unnoted : n.counts ≡ k.counts
  unnoted = u.by.grows.counts ∙ said.grows.counts

  united-notes : KeepsNotes k l
  united-notes = record {
    gone = grows.gone;
    deaths = grows.deaths;
    counts = λ fit. subst (λ c. CountsGo c l.counts × CountsFit l.counts (size_of l)) unnoted (rebuild-fits n s l counted rebuilds.notes (subst TotalsFit (sym unnoted) fit.totals));
  }

  united-last : NotesLast k r l
  united-last =
      let is = rebuilds.notes.counts in
      let fewer : size_of n ≤ size_of m = united-no_larger p (state_in m r) (state_in n s) united in
      record {
        nodes = omega (arith, ap (λ (c : Counts). c.nodes) is, ap (λ v. length (rows_in v)) u.waits.same);
        before = omega (arith, ap (λ (c : Counts). c.size_before) is, fewer, ap (size_from 0) said.found);
        after = ap (λ (c : Counts). c.size_after) is;
      }

  united-good : Good l
  united-good = grown-good k l good grows rebuilds.filed.stored rebuilds.settled

  united-rests : RestsWith l q
  united-rests = record { filed = rebuilds.filed; represents = asserted.rest.represents; quiet = asserted.rest.nothing_waits; noted = (united-notes.counts rests.noted).1 }

  abbrev new : (c : Applied) → IsFull (nodes_of k) c → found_id (image_of l) c ≡ find (entries_of l) c
  new = finds-new k r good l q asserted.goes_on

  united-together : AreTogether (image_of l) a b
  united-together = together-in l q united-good a b (new a fa) (new b fb) asserted.together

  -- of two classes they find alike
  united-of_two : find_class (entries_of k) a.0 ≢ find_class (entries_of k) b.0 → FoundAlike (image_of l) a b
  united-of_two differ =
      let on_a : IsFull (nodes_of m) a = subst (λ nodes. IsFull nodes a) (sym said.grows.nodes) fa in
      let on_b : IsFull (nodes_of m) b = subst (λ nodes. IsFull nodes b) (sym said.grows.nodes) fb in
      let at : equation_at (proofs_of m) p ≡ equation_of a b = said.stands.1 in
      let apart : find_class (entries_of m) a.0 ≢ find_class (entries_of m) b.0 = subst (λ found. find_class found a.0 ≢ find_class found b.0) (sym said.found) differ in
      let alike : find (entries_of n) a ≡ find (entries_of n) b =
      united-alike p u.unites well.sane said.stands.0 (subst (λ (e : Equation). find_class (entries_of m) e.left ≢ find_class (entries_of m) e.right) (sym at) apart) a b on_a on_b (sym at) in
      let links = well.sane.sound.linked in
      let va = (united.goes_on.finds a (full-is_valid (nodes_of m) (entries_of m) links a on_a)).0 in
      let vb = (united.goes_on.finds b (full-is_valid (nodes_of m) (entries_of m) links b on_b)).0 in
      new a fa ∙ ((rebuilt.goes_on.finds a va).1 ∙ (ap (find (entries_of l)) alike ∙ (sym (rebuilt.goes_on.finds b vb).1 ∙ sym (new b fb))))

  united-continues : Continues (image_of k) (image_of l)
  united-continues = record {
    more = map entry_of grows.more;
    entries = ap (map entry_of) grows.proofs ∙ map-append entry_of k.proofs grows.more;
    listed = grows.listed;
    symmetries = grows.symmetries;
    finds = finds-on k r good l q asserted.goes_on;
    alike = alike-on k r good l q asserted.goes_on;
  }

  same-asserted : asserted_in (image_of l) ≡ asserted_in (image_of m)
  same-asserted = rebuilt.same_asserted ∙ united.same_asserted

  -- the equation stands
  united-asserts : Asserts (image_of k) (image_of l) (equation_of a b)
  united-asserts =
      let o : ℕ = said.asserts.number in
      let in_m : o < length (proofs_of m) = said.asserts.in_range in
      let nm : length (proofs_of m) ≡ length m.proofs = length-proofs_of m in
      let nl : length (proofs_of l) ≡ length l.proofs = length-proofs_of l in
      let h : o < length m.proofs = omega arith in
      let longer : length l.proofs ≡ length m.proofs + length grows-after.more = ap length grows-after.proofs ∙ length-append m.proofs grows-after.more in
      record {
        number = o;
        in_range = omega (arith, h, longer, nl);
        stands =
            equation_at-of l.proofs o
            ∙ (ap (λ ps. (statement_at ps o).equation) grows-after.proofs
            ∙ (ap (λ (y : Proven). y.statement.equation) (get_or_append_left m.proofs grows-after.more nothing_proven o h)
            ∙ (sym (equation_at-of m.proofs o) ∙ said.asserts.stands)));
        asserted = elim said.asserts.asserted [
          | inl w ↦ inl (w.0, same-asserted ∙ w.1)
          | inr w ↦ inr (w.0, same-asserted ∙ w.1)
        ];
      }

  united-size : live_size (image_of l) ≤ live_size (image_of k)
  united-size = let smaller : size (state_in l q) ≤ size (state_in k r) = exact.smaller in omega (arith, smaller, live_size-is l rebuilds.filed.stored, live_size-is k good.stored)

  pub unites-full : UnitesFull k r l q x a b
  unites-full = record {
    good = united-good;
    rests = united-rests;
    nodes = grows.nodes;
    goes_on = asserted.goes_on;
    together = united-together;
    of_two = united-of_two;
    asserts = united-asserts;
    continues = united-continues;
    size = united-size;
    counts = record { live = exact.lives; slots = exact.slots };
    counts_go = (united-notes.counts rests.noted).0;
    notes = united-notes;
    last = united-last;
    records = records-more (image_of k) (image_of m) (image_of l) x said.records grows-after.more grows-after.proofs;
  }

-- a large class of one of two ids, as a union tells of it
pub large-class_of : (k : Kept) (a b : Applied) → IsFull (nodes_of k) a → IsFull (nodes_of k) b → unions.HasLargeClassOf k a.0 b.0 → HasLargeClassOf (image_of k) a b
large-class_of k a b fa fb h =
    let n : length (nodes_of k) ≡ length k.classes = length-nodes_of k in
    let here : class_found (image_of k) h.0 ≡ find_class (entries_of k) h.0 = class_found-is k h.0 h.1 in (
      h.0,
      omega (arith, h.1, n),
      elim h.2 [
        | inl e ↦ inl (here ∙ (e ∙ sym (class_found-is k a.0 (full-within k a fa))))
        | inr e ↦ inr (here ∙ (e ∙ sym (class_found-is k b.0 (full-within k b fb))))
      ],
      h.3,
    )

-- of two classes with too many slots one is large
pub large-slots : (k : Kept) (i j : ℕ) → i < length (nodes_of k) → j < length (nodes_of k) → 2 ^ 30 ≤ length (canonical_slots (nodes_of k) i) + length (canonical_slots (nodes_of k) j) → HasLargeClassIn (image_of k)
large-slots k i j li lj h = elim (cases_lt (length (canonical_slots (nodes_of k) i)) (2 ^ 29)) [
  | inl few ↦ (j, lj, inl (omega (arith, h, few)))
  | inr many ↦ (i, li, inl many)
]

-- of two full ids with too many names one is of a large class
pub large-side : (k : Kept) (a b : Applied) → IsFull (nodes_of k) a → IsFull (nodes_of k) b → 2 ^ 30 ≤ length a.1 + length b.1 → HasLargeClassIn (image_of k)
large-side k a b fa fb h =
    let la : length a.1 ≡ length (canonical_slots (nodes_of k) a.0) = sym (length-keys a.1) ∙ ap length fa.slots in
    let lb : length b.1 ≡ length (canonical_slots (nodes_of k) b.0) = sym (length-keys b.1) ∙ ap length fb.slots in
    large-slots k a.0 b.0 fa.in_range fb.in_range (omega (arith, h, la, lb))
