-- A graph whose paths were compressed: all is at rest as before, and what a union left is left.
use Rattle.std.proofs.Common.{◌≡◌, ◌≤◌, ◌<◌, ◌+◌, ◌^◌, ℕ, suc, List, [], ◌∷◌, ◌++◌, length, sym, ◌∙◌, ap, refl, subst, inl, inr, arith, append_assoc, length-append}
use Rattle.std.proofs.lemmas.Bool.{false≢true}
use Rattle.std.specs.Prelude.{is_some, ◌⊎◌, Bool, Option, Some, None, map}
use Rattle.std.proofs.lemmas.List.{append-nil, get_or_append_left, map-append}
use Rattle.slotted_slots.specs.Table.{Table}
use Rattle.slotted_theory.specs.Nameless.{DTerm}
use Rattle.slotted_theory.specs.Term.{Term}
use Rattle.slotted_nodes.specs.Form.{Form}
use Rattle.slotted_languages.specs.NodeTerm.{nameless_node}
use Rattle.slotted_model.specs.Adding.{SameAnswers}
use Rattle.slotted_model.specs.Applied.{Applied}
use Rattle.slotted_model.specs.Changes.{GoesOn, with_proofs}
use Rattle.slotted_model.specs.Classes.{canonical_slots}
use Rattle.slotted_model.specs.Find.{Entry, find_class, find_map}
use Rattle.slotted_model.specs.Growth.{Extends}
use Rattle.slotted_model.specs.Ids.{id_of_node}
use Rattle.slotted_model.specs.ProofList.{Equation, ProofEntry, asserted, equation_at, equation_of}
use Rattle.slotted_model.specs.Rest.{AtRest}
use Rattle.slotted_model.specs.Sound.{Sound}
use Rattle.slotted_model.specs.State.{State}
use Rattle.slotted_model.proofs.Rebuilding.Adding.{adds}
use Rattle.slotted_model.proofs.Rebuilding.Counting.{size-counts}
use Rattle.slotted_model.proofs.Rebuilding.GoingOn.{goes_on-then}
use Rattle.slotted_model.proofs.Rebuilding.Quiet.{proofs-quiet, refound-quiet, same-then}
use Rattle.slotted_proofs.specs.Entries.{entry_of}
use Rattle.slotted_classes.specs.Kept.{Kept, entries_of, nodes_of, proofs_of, size_of}
use Rattle.slotted_classes.proofs.KeptLists.{length-entries_of, length-nodes_of}
use Rattle.slotted_hashcons.specs.FiledRows.{Rows, rows_in}
use Rattle.slotted_rebuilding.specs.Shortcuts.{HasLargeFoundClass, Shortens}
use Rattle.slotted_classes.specs.StateOf.{symmetry_of_entry}
use Rattle.slotted_rebuilding.proofs.EnteredProofs.{only-nodes}
use Rattle.slotted_rebuilding.proofs.GrownRows.{grown-count, grown-rows}
use Rattle.slotted_rebuilding.proofs.KeptSlots.{grows-uncounted}
use Rattle.slotted_rebuilding.specs.Causes.{HasLargeClass}
use Rattle.slotted_rebuilding.specs.Counted.{CountsFit, CountsGo}
use Rattle.slotted_hashcons.specs.WellFiled.{IsWellFiled, state_in}
use Rattle.slotted_rebuilding.proofs.RebuildCounts.{counts-same}
use Rattle.slotted_rebuilding.proofs.FiledStates.{fits-grown, places-grown}
use Rattle.slotted_operations.specs.Causes.{HasLargeClassIn, IsLargeClass, IsWideClass}
use Rattle.slotted_operations.specs.Explaining.{Answers, ExplainsTerms, IsIdOfEither, ProvesIfAlike, RunsOutForTerms, large_graph, wide_left, wide_right}
use Rattle.slotted_operations.specs.Good.{Adds, AddsTerm, Good, MakesClassOf, RestsWith, Unites, finds_from, image_of}
use Rattle.slotted_operations.specs.Graph.{HasNewClass}
use Rattle.slotted_operations.specs.Image.{AddsClasses, Asserts, Image, IsIdOfNode, IsUnion, NewClassesAre, asserted_in}
use Rattle.slotted_operations.proofs.Graphs.Continuations.{adds-classes, finds-on}
use Rattle.slotted_operations.proofs.Graphs.EntryTexts.{records-more}
use Rattle.slotted_operations.proofs.Additions.NewClasses.{grown-fresh, grown-good, large-seen}
use Rattle.slotted_operations.proofs.Graphs.Images.{adds-then}
use Rattle.slotted_operations.proofs.Graphs.Notes.{notes-same, notes-then}
use Rattle.slotted_operations.proofs.Graphs.AtRest.{at-rest}

-- lists of what classes find, where each finds the same
finds-same : (f g : List Entry) (i : ℕ) (xs ys : List Entry) → length xs ≡ length ys →
    ((j : ℕ) → i ≤ j → j < i + length ys → (find_class f j ≡ find_class g j) × (find_map f j ≡ find_map g j)) → finds_from f i xs ≡ finds_from g i ys
finds-same f g i [] [] n same = refl
finds-same f g i [] (y ∷ ys) n same = absurd (omega (arith, n))
finds-same f g i (x ∷ xs) [] n same = absurd (omega (arith, n))
finds-same f g i (x ∷ xs) (y ∷ ys) n same =
    let e = same i (omega arith) (omega arith) in
    let rest : finds_from f (suc i) xs ≡ finds_from g (suc i) ys = finds-same f g (suc i) xs ys (omega (arith, n)) (λ j a b. same j (omega arith) (omega (arith, b))) in
    λ t. (e.0 t, e.1 t) ∷ rest t

-- what was asserted stays asserted while the list of entries grows
pub asserts-more : (g h i : Image) (e : Equation) → Asserts g h e → (more : List ProofEntry) → i.entries ≡ h.entries ++ more → asserted_in i ≡ asserted_in h → Asserts g i e
asserts-more g h i e a more longer same =
    let n : length i.entries ≡ length h.entries + length more = ap length longer ∙ length-append h.entries more in
    record {
      number = a.number;
      in_range = omega (arith, n, a.in_range);
      stands = ap (λ es. equation_at es a.number) longer ∙ (ap (λ (x : ProofEntry). x.equation) (get_or_append_left h.entries more _ a.number a.in_range) ∙ a.stands);
      asserted = elim a.asserted [
        | inl stood ↦ inl (stood.0, same ∙ stood.1)
        | inr new ↦ inr (new.0, same ∙ new.1)
      ];
    }

module _ (k : Kept) (r : Rows) (good : Good k) (rests : RestsWith k r) (l : Kept) (s : Shortens k l) where
  abbrev g : State
  g = state_in k r

  abbrev proved : State
  proved = with_proofs g (proofs_of l)

  abbrev refound : State
  refound = record proved { found = entries_of l }

  -- more proofs first
  first : SameAnswers g proved
  first = proofs-quiet g (at-rest k r good rests) (proofs_of l) s.asserts_nothing

  sound : Sound (nodes_of k) (entries_of l) (proofs_of l)
  sound = subst (λ ns. Sound ns (entries_of l) (proofs_of l)) s.grows.nodes s.stored.sane.sound

  same : (i : ℕ) → i < length (nodes_of k) → (find_class (entries_of l) i ≡ find_class (entries_of k) i) × (find_map (entries_of l) i ≡ find_map (entries_of k) i)
  same i h = s.finds i (omega (arith, h, length-nodes_of k))

  pub shortened-size : size_of l ≡ size_of k
  shortened-size = omega (arith, size-counts 0 (entries_of l), size-counts 0 (entries_of k), s.lives, s.slots)

  -- and then the entries
  second : SameAnswers proved refound
  second = refound-quiet proved first.rest.sane (entries_of l) sound same first.rest shortened-size

  state-is : refound ≡ state_in l r
  state-is t = record {
    nodes = sym s.grows.nodes t;
    found = entries_of l;
    proofs = proofs_of l;
    rows = rows_in r.filed;
    waiting = r.waiting;
    symmetries = map symmetry_of_entry (sym s.symmetries t);
  }

  -- no answer changes
  pub shortened-same : SameAnswers (state_in k r) (state_in l r)
  shortened-same = subst (SameAnswers g) state-is (same-then g proved refound (at-rest k r good rests) first second)

  rest : AtRest (state_in l r)
  rest = shortened-same.rest

  pub shortened-on : GoesOn (state_in k r) (state_in l r)
  shortened-on = shortened-same.goes_on

  pub shortened-good : Good l
  shortened-good = grown-good k l good (grows-uncounted k l s.grows) s.stored (s.dropped ∙ good.settled)

  well : IsWellFiled l r
  well = record {
    stored = s.stored;
    canonical = grown-rows k l s.grows rests.filed.canonical;
    fits = fits-grown k l s.grows rests.filed.fits;
    count = rests.filed.count ∙ sym (grown-count k l s.grows);
    sane = rest.sane;
    keyed = rests.filed.keyed;
    places = λ i e f. places-grown k l s.grows i e.0 (rests.filed.places i e f);
  }

  pub shortened-rests : RestsWith l r
  shortened-rests = record {
    filed = well;
    represents = rest.represents;
    quiet = rests.quiet;
    noted = subst (λ c. CountsFit c (size_of l)) (sym s.grows.counts) (subst (CountsFit k.counts) (sym shortened-size) rests.noted);
  }

  -- the image has more entries, and is the same else
  abbrev longer : Image
  longer = record (image_of k) { entries = proofs_of l; stored = l.proofs }

  same-found : (image_of l).found ≡ (image_of k).found
  same-found = finds-same (entries_of l) (entries_of k) 0 (entries_of l) (entries_of k)
      (length-entries_of l ∙ (grown-count k l s.grows ∙ sym (length-entries_of k)))
      (λ j a b. s.finds j (omega (arith, b, length-entries_of k)))

  image-is : longer ≡ image_of l
  image-is t = record {
    canonical = sym s.grows.nodes t;
    found = sym same-found t;
    entries = proofs_of l;
    stored = l.proofs;
    symmetries = sym s.symmetries t;
    counts = sym s.grows.counts t;
  }

  more-entries : proofs_of l ≡ proofs_of k ++ map entry_of s.grows.more
  more-entries = ap (map entry_of) s.grows.proofs ∙ map-append entry_of k.proofs s.grows.more

  longer-union : (f : Image) (a b : Applied) (y : Bool) → IsUnion f (image_of k) a b y → IsUnion f longer a b y
  longer-union f a b y u = record {
    answer = u.answer;
    together = record { class = u.together.class; names = u.together.names; alike = u.together.alike };
    of_two = u.of_two;
    asserts = λ left right fills. asserts-more f (image_of k) longer (equation_of left right) (u.asserts left right fills) (map entry_of s.grows.more) more-entries s.asserts_nothing.asserts_nothing;
    filled = u.filled;
    canonical = u.canonical;
    continues = record {
      more = u.continues.more ++ map entry_of s.grows.more;
      entries = more-entries ∙ (ap (λ es. es ++ map entry_of s.grows.more) u.continues.entries ∙ append_assoc f.entries u.continues.more (map entry_of s.grows.more));
      listed = u.continues.listed;
      symmetries = u.continues.symmetries;
      finds = u.continues.finds;
      alike = u.continues.alike;
    };
    size = u.size;
    counts = u.counts;
    unchanged = u.unchanged;
  }

  pub shortened-union : (f : Image) (a b : Applied) (y : Bool) → IsUnion f (image_of k) a b y → IsUnion f (image_of l) a b y
  shortened-union f a b y u = subst (λ h. IsUnion f h a b y) image-is (longer-union f a b y u)

  longer-answers : (t u : Term) (answer : Option ℕ) → Answers (image_of k) t u answer → Answers longer t u answer
  longer-answers t u None apart = record { left = apart.left; right = apart.right; ids = record { left = apart.ids.left; right = apart.ids.right }; apart = apart.apart }
  longer-answers t u (Some p) e =
      let n : length (proofs_of l) ≡ length (proofs_of k) + length (map entry_of s.grows.more) = ap length more-entries ∙ length-append (proofs_of k) (map entry_of s.grows.more) in
      record {
        left = e.left;
        right = e.right;
        ids = record { left = e.ids.left; right = e.ids.right };
        alike = e.alike;
        in_range = omega (arith, n, e.in_range);
        equation = ap (λ es. equation_at es p) more-entries ∙ (ap (λ (x : ProofEntry). x.equation) (get_or_append_left (proofs_of k) (map entry_of s.grows.more) _ p e.in_range) ∙ e.equation);
      }

  pub shortened-answers : (t u : Term) (answer : Option ℕ) → Answers (image_of k) t u answer → Answers (image_of l) t u answer
  shortened-answers t u answer a = subst (λ h. Answers h t u answer) image-is (longer-answers t u answer a)

  -- nothing is added
  pub shortened-adds : AddsClasses (image_of k) (image_of l)
  shortened-adds = adds-classes k r good l r shortened-on s.grows.more s.grows.proofs [] (s.symmetries ∙ sym (append-nil k.symmetries))
      (ap (λ ns. asserted ns (proofs_of l)) s.grows.nodes ∙ s.asserts_nothing.asserts_nothing)
      (subst (CountsGo k.counts) (sym s.grows.counts) (counts-same k.counts))

-- what the making of a class leaves, it leaves where paths are compressed after it
pub adds-compressed : (t u : Table) (k : Kept) (r : Rows) → Good k → RestsWith k r → (m : Kept) (q : Rows) (f : Form) (a : Applied) → Adds t u k r m q f a → MakesClassOf (state_in k r) f (state_in m q) →
    id_of_node (nodes_of k) (nameless_node f) ≡ None → (l : Kept) → Shortens m l → Adds t u k r l q f a
adds-compressed t u k r good rests m q f a e made none l s =
    let on : GoesOn (state_in k r) (state_in l q) = goes_on-then (state_in k r) (state_in m q) (state_in l q) good.stored.sane.sound.linked e.goes_on (shortened-on m q e.good e.rests l s) in
    let nodes : nodes_of m ≡ nodes_of l = sym s.grows.nodes in
    record {
      good = shortened-good m q e.good e.rests l s;
      rests = shortened-rests m q e.good e.rests l s;
      fresh_slots = grown-fresh u m l s.grows.nodes e.fresh_slots;
      extends = subst (Extends (nodes_of k)) nodes e.extends;
      goes_on = on;
      adds = adds-then (image_of k) (image_of m) (image_of l) e.extends e.adds (shortened-adds m q e.good e.rests l s) (finds-on k r good l q on);
      notes = notes-then k m l e.notes (notes-same m l s.deaths s.grows.counts (shortened-size m q e.good e.rests l s));
      found = subst (λ (ns : List DTerm). id_of_node ns (nameless_node f) ≡ Some a) nodes e.found;
      filed = subst (λ (ns : List DTerm). NewClassesAre (nodes_of k) ns (IsIdOfNode ns (nameless_node f))) nodes e.filed;
      kept = λ known. absurd (false≢true (sym (ap is_some none) ∙ known));
      made = λ new. subst (λ (ns : List DTerm). HasNewClass t u (nodes_of k) ns (nameless_node f)) nodes (e.made new);
      step = inr (record {
        node = made.node;
        is_new = made.is_new;
        same_shape = made.same_shape;
        between = made.between;
        adds = made.adds;
        same = same-then made.between (state_in m q) (state_in l q) (adds (state_in k r) (at-rest k r good rests) made.node made.is_new made.between made.adds).rest made.same (shortened-same m q e.good e.rests l s);
      });
      large = λ h. e.large (subst (λ (ns : List DTerm). (i : ℕ) × (i < length ns) × (IsLargeClass ns i ⊎ IsWideClass ns i)) s.grows.nodes h);
    }

-- what an explanation leaves, it leaves where paths are compressed after it
pub explains-shortened : (k : Kept) (r : Rows) → Good k → (m : Kept) (q : Rows) (left right : Term) (t w : Table) (answer : Option ℕ) →
    ExplainsTerms t w k r m q left right answer → (l : Kept) → Shortens m l → ExplainsTerms t w k r l q left right answer
explains-shortened k r good m q left right t w answer e l s =
    let on : GoesOn (state_in k r) (state_in l q) = goes_on-then (state_in k r) (state_in m q) (state_in l q) good.stored.sane.sound.linked e.goes_on (shortened-on m q e.good e.rests l s) in
    record {
      good = shortened-good m q e.good e.rests l s;
      rests = shortened-rests m q e.good e.rests l s;
      fresh_slots = grown-fresh w m l s.grows.nodes e.fresh_slots;
      goes_on = on;
      adds = record {
        extends = subst (Extends (nodes_of k)) (sym s.grows.nodes) e.adds.extends;
        adds = adds-then (image_of k) (image_of m) (image_of l) e.adds.extends e.adds.adds (shortened-adds m q e.good e.rests l s) (finds-on k r good l q on);
      };
      notes = notes-then k m l e.notes (notes-same m l s.deaths s.grows.counts (shortened-size m q e.good e.rests l s));
      filed = subst (λ ns. NewClassesAre (nodes_of k) ns (IsIdOfEither ns left right)) (sym s.grows.nodes) e.filed;
      kept = λ x y.
          let all = e.kept x y in
          (s.grows.nodes ∙ all.0, same-found m q e.good e.rests l s ∙ all.1, s.symmetries ∙ all.2, all.3, all.4, s.grows.counts ∙ all.5, s.deaths ∙ all.6);
      answers = shortened-answers m q e.good e.rests l s left right answer e.answers;
    }

-- what a union leaves, it leaves where paths are compressed after it
pub unites-shortened : (k : Kept) (r : Rows) → Good k → (m : Kept) (q : Rows) (a b : Applied) (text : Option (List ℕ)) (y : Bool) → Unites k r m q a b text y → (l : Kept) → Shortens m l → Unites k r l q a b text y
unites-shortened k r good m q a b text y u l s = record {
  good = shortened-good m q u.good u.rests l s;
  rests = shortened-rests m q u.good u.rests l s;
  nodes = s.grows.nodes ∙ u.nodes;
  goes_on = goes_on-then (state_in k r) (state_in m q) (state_in l q) good.stored.sane.sound.linked u.goes_on (shortened-on m q u.good u.rests l s);
  union = shortened-union m q u.good u.rests l s (image_of k) a b y u.union;
  counts = record {
    live = omega (arith, s.lives, u.counts.live);
    slots = λ e. omega (arith, s.slots, u.counts.slots (sym s.lives ∙ e));
  };
  records = record { each = λ left right f. records-more (image_of k) (image_of m) (image_of l) _ (u.records.each left right f) s.grows.more s.grows.proofs };
  notes = notes-then k m l u.notes (notes-same m l s.deaths s.grows.counts (shortened-size m q u.good u.rests l s));
  last = record {
    nodes = subst (λ c. c.nodes ≤ length (rows_in r.filed)) (sym s.grows.counts) u.last.nodes;
    before = subst (λ c. c.size_before ≤ size_of k) (sym s.grows.counts) u.last.before;
    after = subst (λ c. c.size_after ≡ size_of l) (sym s.grows.counts) (u.last.after ∙ sym (shortened-size m q u.good u.rests l s));
  };
}

-- a class that is large now was so where its node is the same
pub large-there : (k l : Kept) → nodes_of l ≡ nodes_of k → HasLargeFoundClass l → HasLargeClass k
large-there k l same h =
    let i : ℕ = h.1.0 in
    (i, omega (arith, h.1.1, ap length same, length-nodes_of k, length-nodes_of l), inl (subst (λ ns. 2 ^ 29 ≤ length (canonical_slots ns i)) same h.1.3))

pub large-found : (k l : Kept) → nodes_of l ≡ nodes_of k → HasLargeFoundClass l → HasLargeClassIn (image_of k)
large-found k l same h = large-seen k (large-there k l same h)

-- after two terms were added it was so, or is that of a node of one of them
pub large-explaining : (k : Kept) (r : Rows) (m : Kept) (s : Rows) (n : Kept) (q : Rows) (left right : Term) (t v w : Table) (a b : Applied) →
    AddsTerm t v k r m s left a → AddsTerm v w m s n q right b → (l : Kept) → nodes_of l ≡ nodes_of n → HasLargeFoundClass l → (old new : Table) →
    RunsOutForTerms (image_of k) left right old new
large-explaining k r m s n q left right t v w a b first second l same h old new = elim (second.large (large-found n l same h)) [
  | inl big ↦ elim (first.large big) [
    | inl large ↦ large_graph large
    | inr wide ↦ wide_left wide
  ]
  | inr wide ↦ wide_right wide
]

-- no class is made where the answer is an entry
pub proves-nodes : (k l : Kept) (a b : Applied) (answer : Option ℕ) → ProvesIfAlike k l a b answer → nodes_of l ≡ nodes_of k
proves-nodes k l a b None h = ap nodes_of h.0
proves-nodes k l a b (Some p) h = only-nodes k l h.1.only
