-- What explaining two terms leaves: both are added, and an entry that asserts nothing may be entered. And what explaining two ids does.
use Rattle.std.proofs.Common.{◌≡◌, ◌<◌, ◌+◌, ℕ, [], length, refl, sym, ◌∙◌, ap, subst, arith, inl, inr}
use Rattle.std.specs.Prelude.{false, IsSome, Option, Some, None, is_some, ◌↔◌}
use Rattle.std.proofs.lemmas.Bool.{cases_lt, false≢true}
use Rattle.std.proofs.lemmas.List.{append-nil}
use Rattle.slotted_slots.specs.Table.{Table}
use Rattle.slotted_theory.specs.Term.{Term}
use Rattle.slotted_theory.specs.Nameless.{nameless}
use Rattle.slotted_model.specs.Applied.{Applied}
use Rattle.slotted_model.specs.Changes.{GoesOn}
use Rattle.slotted_model.specs.Classes.{IsFull}
use Rattle.slotted_model.specs.Find.{find}
use Rattle.slotted_model.specs.Growth.{Extends}
use Rattle.slotted_model.specs.ProofList.{asserted}
use Rattle.slotted_model.proofs.Rebuilding.GoingOn.{goes_on-then}
use Rattle.slotted_model.proofs.Represented.Growing.{Extends-same, Extends-then}
use Rattle.slotted_model.proofs.Rebuilding.GrowingLists.{proofs-go_on}
use Rattle.slotted_model.specs.Ids.{id_of}
use Rattle.slotted_model.proofs.Represented.Ids.{id_of-iff}
use Rattle.slotted_classes.specs.Kept.{Kept, nodes_of, entries_of, proofs_of, with_proofs}
use Rattle.slotted_classes.proofs.KeptLists.{equation_at-of, length-nodes_of, length-proofs_of}
use Rattle.slotted_hashcons.specs.FiledRows.{Rows, rows_in}
use Rattle.slotted_rebuilding.specs.Proving as unions
use Rattle.slotted_rebuilding.specs.Proving.{OnlyProves, ProvesEqual}
use Rattle.slotted_rebuilding.proofs.KeptSlots.{grows-uncounted}
use Rattle.slotted_rebuilding.proofs.EnteredProofs.{only-nodes, only-proofs, only-state, only-grows}
use Rattle.slotted_hashcons.specs.WellFiled.{state_in}
use Rattle.slotted_rebuilding.specs.Counted.{CountsGo}
use Rattle.slotted_rebuilding.proofs.RebuildCounts.{counts-same}
use Rattle.slotted_operations.specs.Causes.{CanRunOutForTerm, IsUnknownTerm}
use Rattle.slotted_operations.specs.Explaining.{AddsTerms, AnswersIds, ExplainsIds, HasIds, ExplainsTerms, IsIdOfEither, ProvesIfAlike, RunsOutForTerms, no_slots, large_left, large_right, large_graph, wide_left, wide_right, large_class}
use Rattle.slotted_operations.specs.Good.{Good, HasFreshSlots, KeepsNotes, RestsWith, AddsTerm, image_of}
use Rattle.slotted_operations.specs.Graph.{MakesAtMost}
use Rattle.slotted_operations.specs.Image.{AddsClasses, FoundAlike, IsIdOfSubterm, NewClassesAre}
use Rattle.slotted_operations.specs.Places.{term_slots}
use Rattle.slotted_operations.proofs.Graphs.Continuations.{finds-on, alike-on, adds-classes}
use Rattle.slotted_operations.proofs.Additions.NewClasses.{adds-none, same-goes_on, grown-good, grown-fresh}
use Rattle.slotted_operations.proofs.Graphs.Images.{adds-then, found_id-is}
use Rattle.slotted_operations.proofs.Graphs.Notes.{notes-proving, notes-then}
use Rattle.slotted_operations.proofs.Graphs.AtRest.{proved-rests}
use Rattle.slotted_operations.proofs.Additions.Tables.{runs_out-more, runs_out-then}
use Rattle.slotted_operations.proofs.Unions.WholeUnions.{large-class_of}

-- entries that assert nothing keep a graph good, and add no class
module _ (k : Kept) (r : Rows) (good : Good k) (rests : RestsWith k r) (l : Kept) (only : OnlyProves k l) where
  proving-good : Good l
  proving-good = grown-good k l good (grows-uncounted k l (only-grows k l only)) only.stored (subst (λ (z : Kept). z.dropped ≡ false) (sym only.kept) good.settled)

  proving-on : GoesOn (state_in k r) (state_in l r)
  proving-on =
      subst (GoesOn (state_in k r)) (sym (only-state k l only (rows_in r.filed) r.waiting))
      (proofs-go_on (state_in k r) rests.filed.sane (proofs_of l) only.asserts_nothing)

  proving-adds : AddsClasses (image_of k) (image_of l)
  proving-adds =
      adds-classes k r good l r proving-on only.more (only-proofs k l only) [] (ap (λ (z : Kept). z.symmetries) only.kept ∙ sym (append-nil k.symmetries))
      (ap (λ ns. asserted ns (proofs_of l)) (only-nodes k l only) ∙ only.asserts_nothing.asserts_nothing)
      (subst (CountsGo k.counts) (sym (ap (λ (z : Kept). z.counts) only.kept)) (counts-same k.counts))

  proving-alike : (a b : Applied) → IsFull (nodes_of k) a → IsFull (nodes_of k) b → FoundAlike (image_of k) a b → FoundAlike (image_of l) a b
  proving-alike = alike-on k r good l r proving-on

  proving-found : (image_of l).found ≡ (image_of k).found
  proving-found = ap (λ (z : Kept). (image_of z).found) only.kept

  -- two full ids are explained
  proving-ids : (t : Table) → HasFreshSlots t k → (a b : Applied) (o : Option ℕ) → AnswersIds (image_of k) (image_of l) a b o → ExplainsIds t k r l a b o
  proving-ids t fresh a b o answers = record {
    good = proving-good;
    rests = proved-rests k l r good rests only;
    fresh_slots = grown-fresh t k l (only-nodes k l only) fresh;
    goes_on = proving-on;
    adds = record { extends = subst (Extends (nodes_of k)) (sym (only-nodes k l only)) (Extends-same (nodes_of k)); adds = proving-adds };
    canonical = only-nodes k l only;
    found = proving-found;
    symmetries = ap (λ (z : Kept). z.symmetries) only.kept;
    counts = ap (λ (z : Kept). z.counts) only.kept;
    answers = answers;
  }

-- what explaining two full ids leaves
module _ (k : Kept) (r : Rows) (good : Good k) (rests : RestsWith k r) (t : Table) (fresh : HasFreshSlots t k) (a b : Applied) (left : IsFull (nodes_of k) a) (right : IsFull (nodes_of k) b) where
  in-range : (c : Applied) → IsFull (nodes_of k) c → c.0 < length k.classes
  in-range c full = let h : c.0 < length (nodes_of k) = full.in_range in let e : length (nodes_of k) ≡ length k.classes = length-nodes_of k in omega arith

  pub ids-alike : (find (entries_of k) a ≡ find (entries_of k) b) ↔ FoundAlike (image_of k) a b
  ids-alike =
      let ea = found_id-is k a (in-range a left) in
      let eb = found_id-is k b (in-range b right) in
      (λ e. ea ∙ (e ∙ sym eb), λ e. sym ea ∙ (e ∙ eb))

  pub explains-ids : (l : Kept) (answer : Option ℕ) → ProvesIfAlike k l a b answer → ExplainsIds t k r l a b answer
  explains-ids l (Some p) h =
      proving-ids k r good rests l h.1.only t fresh a b (Some p)
      (ids-alike.0 h.0, ((let c : length (proofs_of l) ≡ length l.proofs = length-proofs_of l in let x : p < length l.proofs = h.1.in_range in omega arith), equation_at-of l.proofs p ∙ h.1.equation))
  explains-ids l None h = subst (λ (z : Kept). ExplainsIds t k r z a b None) (sym h.0) (record {
    good = good;
    rests = rests;
    fresh_slots = fresh;
    goes_on = same-goes_on k r good rests;
    adds = record { extends = Extends-same (nodes_of k); adds = adds-none k r good rests };
    canonical = refl;
    found = refl;
    symmetries = refl;
    counts = refl;
    answers = λ f. h.1 (ids-alike.1 f);
  })

-- both terms were added
module _ (k : Kept) (r : Rows) (good : Good k) (m : Kept) (s : Rows) (n : Kept) (q : Rows) (left right : Term) (t v w : Table) (a b : Applied) (first : AddsTerm t v k r m s left a) (second : AddsTerm v w m s n q right b) where
  pub left-full : IsFull (nodes_of n) a
  left-full = second.extends.full a first.full

  both-on : GoesOn (state_in k r) (state_in n q)
  both-on = goes_on-then (state_in k r) (state_in m s) (state_in n q) good.stored.sane.sound.linked first.goes_on second.goes_on

  both-added : AddsTerms (image_of k) (image_of n)
  both-added = record {
    extends = Extends-then (nodes_of k) (nodes_of m) (nodes_of n) first.extends second.extends;
    adds = adds-then (image_of k) (image_of m) (image_of n) first.extends first.adds second.adds (finds-on k r good n q both-on);
  }

  both-notes : KeepsNotes k n
  both-notes = notes-then k m n first.notes second.notes

  both-ids : HasIds (image_of n) left right a b
  both-ids = record {
    left = second.extends.ids (nameless left) a ((id_of-iff (nodes_of m) first.good.stored.sane.sound.canonical (nameless left) a).1 (first.full, first.term));
    right = (id_of-iff (nodes_of n) second.good.stored.sane.sound.canonical (nameless right) b).1 (second.full, second.term);
  }

  -- each class that came is that of a subterm
  later : (c : Applied) → IsIdOfSubterm (nodes_of m) left c → IsIdOfSubterm (nodes_of n) left c
  later c is = record { subterm = is.subterm; stands = is.stands; found = second.extends.ids (nameless is.subterm) c is.found }

  both-filed : NewClassesAre (nodes_of k) (nodes_of n) (IsIdOfEither (nodes_of n) left right)
  both-filed i new in_range = elim (cases_lt i (length (nodes_of m))) [
    | inl before ↦ let is = first.filed i new before in (is.0, is.1, inl (later is.0 is.2))
    | inr past ↦ let is = second.filed i (omega (arith, past)) in_range in (is.0, is.1, inr is.2)
  ]

  -- and none comes where both terms have ids
  both-kept : IsSome (id_of (nodes_of k) (nameless left)) → IsSome (id_of (nodes_of k) (nameless right)) → (n ≡ k) × (q ≡ r) × (w ≡ t)
  both-kept x y =
      let one = first.kept x in
      let two = second.kept (subst (λ (z : Kept). IsSome (id_of (nodes_of z) (nameless right))) (sym one.0) y) in
      (two.0 ∙ one.0, two.1 ∙ one.1, two.2 ∙ one.2)

  within : (c : Applied) → IsFull (nodes_of n) c → c.0 < length n.classes
  within c full = let h : c.0 < length (nodes_of n) = full.in_range in let e : length (nodes_of n) ≡ length n.classes = length-nodes_of n in omega arith

  says-alike : (find (entries_of n) a ≡ find (entries_of n) b) ↔ FoundAlike (image_of n) a b
  says-alike =
      let ea = found_id-is n a (within a left-full) in
      let eb = found_id-is n b (within b second.full) in
      (λ e. ea ∙ (e ∙ sym eb), λ e. sym ea ∙ (e ∙ eb))

  -- their ids do not find alike
  explains-none : ¬ (find (entries_of n) a ≡ find (entries_of n) b) → ExplainsTerms t w k r n q left right None
  explains-none apart = record {
    good = second.good;
    rests = second.rests;
    fresh_slots = second.fresh_slots;
    goes_on = both-on;
    adds = both-added;
    notes = both-notes;
    filed = both-filed;
    kept = λ x y. let all = both-kept x y in (ap nodes_of all.0, ap (λ (z : Kept). (image_of z).found) all.0, ap (λ (z : Kept). (image_of z).symmetries) all.0, all.1, all.2, ap (λ (z : Kept). z.counts) all.0, ap (λ (z : Kept). z.deaths) all.0);
    answers = record { left = a; right = b; ids = both-ids; apart = λ f. apart (says-alike.1 f) };
  }

  -- they do, and an entry has their equation
  explains-some : find (entries_of n) a ≡ find (entries_of n) b → (l : Kept) (p : ℕ) → ProvesEqual n l a b p → ExplainsTerms t w k r l q left right (Some p)
  explains-some e l p proves =
      let same : nodes_of l ≡ nodes_of n = only-nodes n l proves.only in
      let x : Extends (nodes_of n) (nodes_of l) = subst (Extends (nodes_of n)) (sym same) (Extends-same (nodes_of n)) in
      let on : GoesOn (state_in k r) (state_in l q) =
      goes_on-then (state_in k r) (state_in n q) (state_in l q) good.stored.sane.sound.linked both-on (proving-on n q second.good second.rests l proves.only) in
      record {
        good = proving-good n q second.good second.rests l proves.only;
        rests = proved-rests n l q second.good second.rests proves.only;
        fresh_slots = grown-fresh w n l same second.fresh_slots;
        goes_on = on;
        adds = record {
          extends = Extends-then (nodes_of k) (nodes_of n) (nodes_of l) both-added.extends x;
          adds = adds-then (image_of k) (image_of n) (image_of l) both-added.extends both-added.adds (proving-adds n q second.good second.rests l proves.only) (finds-on k r good l q on);
        };
        notes = notes-then k n l both-notes (notes-proving n l proves.only);
        filed = subst (λ ns. NewClassesAre (nodes_of k) ns (IsIdOfEither ns left right)) (sym same) both-filed;
        kept = λ x y.
            let all = both-kept x y in (
              same ∙ ap nodes_of all.0,
              ap (λ (z : Kept). (image_of z).found) (proves.only.kept ∙ ap (λ (z : Kept). with_proofs z proves.only.proofs) all.0),
              ap (λ (z : Kept). (image_of z).symmetries) (proves.only.kept ∙ ap (λ (z : Kept). with_proofs z proves.only.proofs) all.0),
              all.1,
              all.2,
              ap (λ (z : Kept). z.counts) (proves.only.kept ∙ ap (λ (z : Kept). with_proofs z proves.only.proofs) all.0),
              ap (λ (z : Kept). z.deaths) (proves.only.kept ∙ ap (λ (z : Kept). with_proofs z proves.only.proofs) all.0),
            );
        answers = record {
          left = a;
          right = b;
          ids = record { left = x.ids (nameless left) a both-ids.left; right = x.ids (nameless right) b both-ids.right };
          alike = proving-alike n q second.good second.rests l proves.only a b left-full second.full (says-alike.0 e);
          in_range = let c : length (proofs_of l) ≡ length l.proofs = length-proofs_of l in let h : p < length l.proofs = proves.in_range in omega arith;
          equation = equation_at-of l.proofs p ∙ proves.equation;
        };
      }

  pub explains : (l : Kept) (answer : Option ℕ) → ProvesIfAlike n l a b answer → ExplainsTerms t w k r l q left right answer
  explains l (Some p) h = explains-some h.0 l p h.1
  explains l None h = subst (λ (z : Kept). ExplainsTerms t w k r z q left right None) (sym h.0) (explains-none h.1)

  pub runs-large : find (entries_of n) a ≡ find (entries_of n) b → (old new : Table) → unions.HasLargeClassOf n a.0 b.0 → RunsOutForTerms (image_of k) left right old new
  runs-large e old new h = large_class (image_of n) a b both-added both-ids (says-alike.0 e) (large-class_of n a b left-full second.full h)

-- slots ran out for the classes of either term

pub runs-left : (k : Kept) (t u : Term) (old new : Table) → IsUnknownTerm (image_of k) t → CanRunOutForTerm (image_of k) t old new → RunsOutForTerms (image_of k) t u old new
runs-left k t u old new (inl none) (inl (inl short)) = no_slots (runs_out-more (term_slots t) (term_slots t + term_slots u) old new short (omega arith)) (inl none)
runs-left k t u old new (inr large) (inl (inl short)) = large_left large
runs-left k t u old new unknown (inl (inr large)) = large_left large
runs-left k t u old new unknown (inr (inl large)) = large_graph large
runs-left k t u old new unknown (inr (inr wide)) = wide_left wide

-- a term without an id had none before
none-before : (k m : Kept) → Extends (nodes_of k) (nodes_of m) → (t : Term) (o : Option Applied) → id_of (nodes_of k) (nameless t) ≡ o → id_of (nodes_of m) (nameless t) ≡ None → id_of (nodes_of k) (nameless t) ≡ None
none-before k m extends t None is none = is
none-before k m extends t (Some a) is none = absurd (false≢true (sym (ap is_some none) ∙ ap is_some (extends.ids (nameless t) a is)))

pub runs-right : (k : Kept) (r : Rows) (m : Kept) (s : Rows) (t u : Term) (old mid new : Table) (a : Applied) → AddsTerm old mid k r m s t a → MakesAtMost (term_slots t) old mid → IsUnknownTerm (image_of m) u → CanRunOutForTerm (image_of m) u mid new → RunsOutForTerms (image_of k) t u old new
runs-right k r m s t u old mid new a first makes (inl none) (inl (inl short)) =
    no_slots (runs_out-then (term_slots t) (term_slots u) (term_slots t + term_slots u) old mid new makes short (omega arith))
    (inr (none-before k m first.extends u (id_of (nodes_of k) (nameless u)) refl none))
runs-right k r m s t u old mid new a first makes (inr large) (inl (inl short)) = large_right large
runs-right k r m s t u old mid new a first makes unknown (inl (inr large)) = large_right large
runs-right k r m s t u old mid new a first makes unknown (inr (inl large)) = elim (first.large large) [
  | inl h ↦ large_graph h
  | inr wide ↦ wide_left wide
]
runs-right k r m s t u old mid new a first makes unknown (inr (inr wide)) = wide_right wide
