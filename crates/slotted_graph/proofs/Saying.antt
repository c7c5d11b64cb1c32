-- What edits say, and that it stays said as a graph is extended.
use Rattle.std.proofs.Common.{◌≡◌, ◌∙◌, ◌<◌, ℕ, List, [], ◌∷◌, ◌++◌, length, append_assoc, ap, refl, sym, subst, inl, inr, arith, length-append}
use Rattle.std.specs.Prelude.{◌⊎◌, Bool, true, false, IsTrue, IsOk, IsErrOf, IfOk, IfErr, None, Result, Ok, Err, slice_get, slice_index_or}
use Rattle.std.specs.Coded.{Coded}
use Rattle.std.proofs.lemmas.Bool.{false≢true}
use Rattle.std.proofs.lemmas.List.{append-nil, get_or_append_left}
use Rattle.std.proofs.lemmas.List.Elements.{Contains-append_cases, Contains-push_cases}
use Rattle.slotted_lists.proofs.Contained.{Contains-nil}
use Rattle.slotted_slots.specs.declared.types.AppliedId.{AppliedId}
use Rattle.slotted_slots.specs.declared.error.Error.{Error}
use Rattle.slotted_slots.specs.declared.error.Error.TheVariants.{Failed}
use Rattle.slotted_slots.specs.Error.{IsShortage}
use Rattle.slotted_slots.specs.Table.{Table, KnowsMore}
use Rattle.slotted_theory.specs.Term.{Term}
use Rattle.slotted_theory.specs.Nameless.{DTerm, nameless}
use Rattle.slotted_model.specs.Applied.{Applied}
use Rattle.slotted_model.specs.Classes.{term_of}
use Rattle.slotted_model.specs.Growth.{Extends}
use Rattle.slotted_model.specs.ProofList.{Equation, equation_of, term_pair}
use Rattle.slotted_model.proofs.Represented.FillingEquations.{filled-equation}
use Rattle.slotted_proofs.specs.Entries.{Proven, nothing_proven, proven_at}
use Rattle.slotted_proofs.specs.Equations.{to_applied}
use Rattle.slotted_rebuilding.specs.Counted.{CountsGo}
use Rattle.slotted_rebuilding.proofs.RebuildCounts.{counts-same, counts-then}
use Rattle.slotted_operations.proofs.CallerLemmas.{term_later, valid-over_none}
use Rattle.slotted_data.specs.Meaning.{IsMergeOf, Meaning, by_bare_nodes}
use Rattle.slotted_data.specs.declared.edit.Edit.{Edit}
use Rattle.slotted_data.specs.declared.edit.Edit.TheVariants.{Add, Equal, Equate}
use Rattle.slotted_data.specs.Edits.{IsValidEdit}
use Rattle.slotted_model_analyses.specs.Analysis.{Absorbs}
use Rattle.slotted_model_analyses.proofs.Absorbing.{absorbs-through}
use Rattle.slotted_data.specs.Grounded.{Grounds, IsOldOr}
use Rattle.slotted_data.specs.Part.{NotesChanges, Part, part_code}
use Rattle.slotted_data.proofs.Grounding.{grounds-itself, grounds-then, stays-itself, stays-then}
use Rattle.slotted_operations.specs.Causes.{class_found}
use Rattle.slotted_graph.specs.Analysed.{AbsorbsValue, CarriesData, CarriesDataWith, DataComes, DataFalls, LowersData, LowersDataWith, LowersPartWith}
use Rattle.slotted_graph.specs.Extension.{Begins, ExtendsTo}
use Rattle.slotted_operations.specs.Graph.{Graph, IsFullId, RecordsUnion}
use Rattle.slotted_operations.specs.Image.{AddsClasses, FillApart, IsUnion, asserted_in}
use Rattle.slotted_graph.specs.States.{IsGraph}
use Rattle.slotted_operations.specs.ValidIds.{IsValidId}
use Rattle.slotted_graph.proofs.Extending.{between-longer, extends-added, extends-itself, extends-then, extends-united}
use Rattle.slotted_graph.specs.Edited.{AddsTerm, AssertsMore, HasBareEntry, IsDone, IsIdOf, IsSaid, MakesEdit, UnitesIds}

-- a table that knows more than one that knows more
pub more-then : (t u v : Table) → KnowsMore t u → KnowsMore u v → KnowsMore t v
more-then t u v first second s known = second s (first s known)

-- data that was carried along only went down
pub carried-lowers-with : {N D : Type 0} (given : List (ℕ × D)) (codes : Coded N × Coded D) (meaning : N → Meaning D) (g h : Graph) → CarriesDataWith given codes meaning g h → LowersDataWith given codes meaning g h
carried-lowers-with {N} {D} given codes meaning g h c p keeps =
    let same : c.older ≡ p = (part_code codes).inj c.older p (sym c.before ∙ keeps) in
    subst (λ (q : Part N D). LowersPartWith given codes meaning g q h) same (record { newer = c.newer; after = c.after; analysis = c.analysis; rounds = c.rounds; falls = c.falls; stays = c.stays; comes = c.comes; counts = c.counts })

pub carried-lowers : {N D : Type 0} (codes : Coded N × Coded D) (meaning : N → Meaning D) (g h : Graph) → CarriesData codes meaning g h → LowersData codes meaning g h
carried-lowers codes meaning g h c = carried-lowers-with [] codes meaning g h c

-- data that goes down twice goes down
pub lowers-then-with : {N D : Type 0} (given : List (ℕ × D)) (codes : Coded N × Coded D) (meaning : N → Meaning D) (law : (n : N) → IsMergeOf (meaning n)) (f g h : Graph) → ExtendsTo f g → LowersDataWith given codes meaning f g → LowersData codes meaning g h → LowersDataWith given codes meaning f h
lowers-then-with {N} {D} given codes meaning law f g h extends first second p keeps =
    let a = first p keeps in
    let b = second a.newer a.after in
    record {
      newer = b.newer;
      after = b.after;
      analysis = b.analysis ∙ a.analysis;
      rounds = b.rounds ∙ a.rounds;
      counts = counts-then p.counts.own a.newer.counts.own b.newer.counts.own a.counts b.counts;
      falls = λ i within x has.
          let y = a.falls i within x has in
          let z = b.falls i (extends.canonical.classes i within).0 y.0 y.1 in
          let m = meaning p.analysis in
          let down : Absorbs (by_bare_nodes m) z.0 y.0 = subst (λ (n : N). Absorbs (by_bare_nodes (meaning n)) z.0 y.0) a.analysis z.2 in
          (z.0, z.1, absorbs-through (by_bare_nodes m) (law p.analysis).associative z.0 y.0 x down y.2);
      stays = stays-then f.image.canonical g.image.canonical h.image.canonical (class_found f.image) (class_found g.image) (class_found h.image) a.stays b.stays;
      comes = grounds-then (by_bare_nodes (meaning p.analysis)) g.image.canonical h.image.canonical (class_found g.image) (class_found h.image) b.stays given p.values a.newer.values b.newer.values
          a.comes (subst (λ (n : N). Grounds (by_bare_nodes (meaning n)) h.image.canonical (class_found h.image) (IsOldOr [] a.newer.values) b.newer.values) a.analysis b.comes);
    }

pub lowers-then : {N D : Type 0} (codes : Coded N × Coded D) (meaning : N → Meaning D) (law : (n : N) → IsMergeOf (meaning n)) (f g h : Graph) → ExtendsTo f g → LowersData codes meaning f g → LowersData codes meaning g h → LowersData codes meaning f h
lowers-then codes meaning law f g h extends first second = lowers-then-with [] codes meaning law f g h extends first second

-- and data that stays has gone down
pub lowers-itself : {N D : Type 0} (codes : Coded N × Coded D) (meaning : N → Meaning D) (law : (n : N) → IsMergeOf (meaning n)) (g : Graph) → LowersData codes meaning g g
lowers-itself codes meaning law g p keeps = record {
  newer = p;
  after = keeps;
  analysis = refl;
  rounds = refl;
  counts = counts-same p.counts.own;
  falls = λ i within x has. (x, has, (law p.analysis).idempotent x);
  stays = stays-itself g.image.canonical (class_found g.image);
  comes = grounds-itself (by_bare_nodes (meaning p.analysis)) g.image.canonical (class_found g.image) [] p.values;
}

-- so has data where what is kept stays, and what classes find does
pub lowers-same : {N D : Type 0} (codes : Coded N × Coded D) (meaning : N → Meaning D) (law : (n : N) → IsMergeOf (meaning n)) (g h : Graph) → Extends g.image.canonical h.image.canonical → h.image.found ≡ g.image.found → h.part ≡ g.part → LowersData codes meaning g h
lowers-same codes meaning law g h extends found part p keeps = record {
  newer = p;
  after = part ∙ keeps;
  analysis = refl;
  rounds = refl;
  counts = counts-same p.counts.own;
  falls = λ i within x has. (x, ap (slice_get p.values) (finds i) ∙ has, (law p.analysis).idempotent x);
  stays = record { stays = extends.classes; together = λ b c in_b in_c same. finds b ∙ (same ∙ sym (finds c)) };
  comes = grounds-itself (by_bare_nodes (meaning p.analysis)) h.image.canonical (class_found h.image) [] p.values;
}
  where
    finds : (i : ℕ) → class_found h.image i ≡ class_found g.image i
    finds i = ap (λ (xs : List Applied). (slice_index_or xs i (0, [])).0) found

-- what was made or has changed in the one call or in the other waits to be modified
pub notes-then : {D : Type 0} (values later last : List D) (changed more all : List ℕ) → NotesChanges values changed later more → NotesChanges later more last all → NotesChanges values changed last all
notes-then values later last changed more all first second = record {
  kept = λ i c. second.kept i (first.kept i c);
  same = λ i y is none. first.same i y (second.same i y is none) (λ c. none (second.kept i c));
}

-- data that is carried along twice is carried along
pub carries-then : {N D : Type 0} (codes : Coded N × Coded D) (meaning : N → Meaning D) (law : (n : N) → IsMergeOf (meaning n)) (f g h : Graph) → ExtendsTo f g → CarriesData codes meaning f g → CarriesData codes meaning g h → CarriesData codes meaning f h
carries-then {N} {D} codes meaning law f g h extends a b =
    let same : a.newer ≡ b.older = (part_code codes).inj a.newer b.older (sym a.after ∙ b.before) in
    let both = lowers-then codes meaning law f g h extends (carried-lowers codes meaning f g a) (carried-lowers codes meaning g h b) a.older a.before in
    let last : both.newer ≡ b.newer = (part_code codes).inj both.newer b.newer (sym both.after ∙ b.after) in
    record {
      older = a.older;
      newer = b.newer;
      before = a.before;
      after = b.after;
      analysis = subst (λ (q : Part N D). q.analysis ≡ a.older.analysis) last both.analysis;
      rounds = subst (λ (q : Part N D). q.rounds ≡ a.older.rounds) last both.rounds;
      falls = subst (DataFalls meaning f a.older h) last both.falls;
      stays = both.stays;
      comes = subst (DataComes [] meaning a.older h) last both.comes;
      notes = λ d. notes-then a.older.values b.older.values b.newer.values a.older.changed b.older.changed b.newer.changed
          (subst (λ (q : Part N D). NotesChanges a.older.values a.older.changed q.values q.changed) same (a.notes d)) (b.notes d);
      counts = subst (λ (q : Part N D). CountsGo a.older.counts.own q.counts.own) last both.counts;
    }

-- what absorbs a value absorbs it later
pub absorbs-later : {N D : Type 0} (codes : Coded N × Coded D) (meaning : N → Meaning D) (law : (n : N) → IsMergeOf (meaning n)) (g h : Graph) (i : ℕ) (v : D) → i < length g.image.canonical → LowersData codes meaning g h → AbsorbsValue codes meaning g i v → AbsorbsValue codes meaning h i v
absorbs-later {N} {D} codes meaning law g h i v within lowers a =
    let l = lowers a.part a.keeps in
    let y = l.falls i within a.datum a.has in
    let m = meaning a.part.analysis in
    record {
      part = l.newer;
      keeps = l.after;
      datum = y.0;
      has = y.1;
      absorbs = subst (λ (n : N). Absorbs (by_bare_nodes (meaning n)) y.0 v) (sym l.analysis) (absorbs-through (by_bare_nodes m) (law a.part.analysis).associative y.0 a.datum v y.2 a.absorbs);
    }

-- a call that did not refuse leaves a graph
pub graph-kept : (g : Graph) → IsTrue g.failed ⊎ IsGraph g → (IsTrue g.failed → false ≡ true) → IsGraph g
graph-kept g (inl failed) well = absurd (false≢true (well failed))
graph-kept g (inr is) well = is

-- a term was added
pub adds-term : {N D : Type 0} (codes : Coded N × Coded D) (meaning : N → Meaning D) (g h : Graph) (t : Term) (a : Applied) → IsGraph h → Extends g.image.canonical h.image.canonical → AddsClasses g.image h.image → KnowsMore g.table h.table →
    IsFullId h a → term_of h.image.canonical a ≡ nameless t → CarriesData codes meaning g h → AddsTerm codes meaning g h t a
adds-term codes meaning g h t a is extends adds more full term carries = record {
  graph = is;
  extends = extends-added g h extends adds more;
  asserted = adds.asserted;
  full = full;
  term = term;
  carries = carries;
}

-- two ids were united
pub unites-ids : {N D : Type 0} (codes : Coded N × Coded D) (meaning : N → Meaning D) (g h : Graph) (a b : AppliedId) (y : Bool) → IsGraph h → IsValidId g (to_applied a) → IsValidId g (to_applied b) →
    IsUnion g.image h.image (to_applied a) (to_applied b) y → RecordsUnion g h a b None → h.table ≡ g.table → CarriesData codes meaning g h → UnitesIds codes meaning g h (to_applied a) (to_applied b)
unites-ids codes meaning g h a b y is va vb u recorded table carries =
    let left : Applied = u.filled.0 in
    let right : Applied = u.filled.1 in
    let apart : FillApart g.image (to_applied a) (to_applied b) left right = u.filled.2 in
    let asserts = u.asserts left right apart in
    let records = recorded.each left right apart in
    let own : equation_of left right ≡ equation_of (to_applied a) (to_applied b) =
    filled-equation g.image.canonical (λ c. []) (λ c. []) (to_applied a) (to_applied b) left right (valid-over_none g (to_applied a) va) (valid-over_none g (to_applied b) vb) apart.left_fills apart.right_fills in
    record {
      graph = is;
      extends = extends-united g h a b None y u recorded table;
      stands = (asserts.number, asserts.in_range, asserts.stands ∙ own);
      asserts = elim asserts.asserted [
        | inl same ↦ inl same.1
        | inr added ↦ elim records.entered [
          | inl stood ↦ absurd (added.0 stood)
          | inr x ↦ inr (
            subst (λ (e : Equation). asserted_in h.image ≡ asserted_in g.image ++ term_pair g.image.canonical e ∷ []) own added.1,
            record {
              number = x.number;
              past = x.past;
              in_range = x.in_range;
              equation = ap (λ (z : Proven). z.statement.equation) x.entry ∙ own;
              step = ap (λ (z : Proven). z.step) x.entry;
              text = ap (λ (z : Proven). z.text) x.entry;
            },
          )
        ]
      ];
      carries = carries;
    }

-- nothing more is asserted, one pair is, or some are and then others
pub no-more : (P : DTerm × DTerm → Type 0) (g h : Graph) → asserted_in h.image ≡ asserted_in g.image → AssertsMore P g h
no-more P g h e = record { more = []; asserted = e ∙ sym (append-nil (asserted_in g.image)); each = λ p c. absurd (Contains-nil p c) }

pub one-more : (P : DTerm × DTerm → Type 0) (g h : Graph) (pair : DTerm × DTerm) → asserted_in h.image ≡ asserted_in g.image ++ pair ∷ [] → P pair → AssertsMore P g h
one-more P g h pair e p = record {
  more = pair ∷ [];
  asserted = e;
  each = λ q c. elim (Contains-push_cases [] pair q c) [
    | inl none ↦ absurd (Contains-nil q none)
    | inr same ↦ subst P same p
  ];
}

pub then-more : (P Q R : DTerm × DTerm → Type 0) (f g h : Graph) → ((p : DTerm × DTerm) → P p → R p) → ((p : DTerm × DTerm) → Q p → R p) → AssertsMore P f g → AssertsMore Q g h → AssertsMore R f h
then-more P Q R f g h first second a b = record {
  more = a.more ++ b.more;
  asserted = b.asserted ∙ (ap (λ l. l ++ b.more) a.asserted ∙ append_assoc (asserted_in f.image) a.more b.more);
  each = λ p c. elim (Contains-append_cases a.more b.more p c) [
    | inl l ↦ first p (a.each p l)
    | inr r ↦ second p (b.each p r)
  ];
}

-- an entry stays, and is past a beginning of the list
bare-later : (f g h i : Graph) (e : Equation) → Begins f.image.stored g.image.stored → Begins h.image.stored i.image.stored → HasBareEntry g h e → HasBareEntry f i e
bare-later f g h i e before b x =
    let same : proven_at i.image.stored x.number ≡ proven_at h.image.stored x.number =
    ap (λ l. slice_index_or l x.number nothing_proven) b.1 ∙ get_or_append_left h.image.stored b.0 nothing_proven x.number x.in_range in
    record {
      number = x.number;
      past = omega (arith, x.past, ap length before.1, length-append f.image.stored before.0);
      in_range = omega (arith, x.in_range, ap length b.1, length-append h.image.stored b.0);
      equation = ap (λ (z : Proven). z.statement.equation) same ∙ x.equation;
      step = ap (λ (z : Proven). z.step) same ∙ x.step;
      text = ap (λ (z : Proven). z.text) same ∙ x.text;
    }

-- what was said is said in a longer stretch too
pub said-longer : {L : Type 0} (f g h i : Graph) (c : Applied) (e : Edit L) (pair : DTerm × DTerm) → ExtendsTo f g → ExtendsTo h i → IsSaid g h c e pair → IsSaid f i c e pair
said-longer f g h i c e pair before after s = record {
  moment = s.moment;
  between = between-longer f g h i s.moment before after s.between;
  left = s.left;
  right = s.right;
  says = s.says;
  is = s.is;
  entry = bare-later f g h i (equation_of s.left s.right) before.stored after.stored s.entry;
}

-- an id of a term stays one
stays-id : (g h : Graph) (t : Term) (a : Applied) → ExtendsTo g h → IsIdOf g t a → IsIdOf h t a
stays-id g h t a e is = (e.canonical.full a is.0, e.canonical.terms a is.0 ∙ is.1)

-- an edit that was valid is valid later
pub edit-later : {L : Type 0} (t u : Table) → KnowsMore t u → (e : Edit L) → IsValidEdit t e → IsValidEdit u e
edit-later t u more (Add a) v = term_later t u more a v
edit-later t u more (Equal a) v = term_later t u more a v
edit-later t u more (Equate a b) v = (term_later t u more a v.0, term_later t u more b v.1)

-- a refusal that is not that of a failed graph is a shortage
pub shortage : {A : Type 0} (r : Result A Error) (failed : Bool) → failed ≡ false → (IsErrOf r Failed → IsTrue failed) → IfErr r (λ e. (e ≡ Failed) ⊎ IsShortage e) → IfErr r IsShortage
shortage (Ok x) failed well said only = tt
shortage (Err e) failed well said (inl same) = absurd (false≢true (sym well ∙ said (ap Err same)))
shortage (Err e) failed well said (inr short) = short

-- what holds of an answer holds of the answer that is handed on
pub handed-on : (P : Bool → Graph → Type 0) (r s : Result Bool Error) (h i : Graph) → s ≡ r → (IsOk r → i ≡ h) → IfOk r (λ y. P y h) → IfOk s (λ y. P y i)
handed-on P r s h i same stays ok = subst (λ (t : Result Bool Error). IfOk t (λ y. P y i)) (sym same) (by r stays ok)
  where
    by : (r : Result Bool Error) → (IsOk r → i ≡ h) → IfOk r (λ y. P y h) → IfOk r (λ y. P y i)
    by (Ok y) stays ok = subst (P y) (sym (stays refl)) ok
    by (Err e) stays ok = tt

pub if-ok : {A : Type 0} (P Q : A → Type 0) (r : Result A Error) → ((x : A) → P x → Q x) → IfOk r P → IfOk r Q
if-ok P Q (Ok x) f p = f x p
if-ok P Q (Err e) f p = tt

module _ {L N D : Type 0} (codes : Coded N × Coded D) (meaning : N → Meaning D) (law : (n : N) → IsMergeOf (meaning n)) (g : Graph) (c : Applied) where
  -- a term alone
  pub makes-add : (h : Graph) (t : Term) (a : Applied) → AddsTerm codes meaning g h t a → MakesEdit {L = L} codes meaning g h c (Add t)
  makes-add h t a adds = record {
    graph = adds.graph;
    extends = adds.extends;
    done = (a, (adds.full.full, adds.term));
    asserts = no-more (IsSaid g h c (Add t)) g h adds.asserted;
    carries = adds.carries;
  }

  -- what is added and then united
  united : (f h : Graph) (e : Edit L) (a b : Applied) → IsGraph f → ExtendsTo g f → asserted_in f.image ≡ asserted_in g.image → CarriesData codes meaning g f → ((pair : DTerm × DTerm) → IsGraph f → ExtendsTo g f → pair ≡ term_pair f.image.canonical (equation_of a b) → ExtendsTo f h → HasBareEntry g h (equation_of a b) → IsSaid g h c e pair) →
      UnitesIds codes meaning f h a b → IsDone h c e → MakesEdit codes meaning g h c e
  united f h e a b is extends same carries said u done = record {
    graph = u.graph;
    extends = extends-then g f h extends u.extends;
    done = done;
    asserts = elim u.asserts [
      | inl none ↦ no-more (IsSaid g h c e) g h (none ∙ same)
      | inr one ↦
          one-more (IsSaid g h c e) g h (term_pair f.image.canonical (equation_of a b)) (one.0 ∙ ap (λ l. l ++ term_pair f.image.canonical (equation_of a b) ∷ []) same)
          (said (term_pair f.image.canonical (equation_of a b)) is extends refl u.extends (bare-later g f h h (equation_of a b) extends.stored (extends-itself h).stored one.1))
    ];
    carries = carries-then codes meaning law g f h extends carries u.carries;
  }

  -- the class equals a term
  pub makes-equal : (f h : Graph) (t : Term) (b : Applied) → AddsTerm codes meaning g f t b → UnitesIds codes meaning f h c b → MakesEdit {L = L} codes meaning g h c (Equal t)
  makes-equal f h t b adds u =
      united f h (Equal t) c b adds.graph adds.extends adds.asserted adds.carries
      (λ pair is before same after entry. record {
        moment = f;
        between = record { graph = is; after = before; before = after };
        left = c;
        right = b;
        says = (refl, adds.full.full, adds.term);
        is = same;
        entry = entry;
      })
      u
      (b, stays-id f h t b u.extends (adds.full.full, adds.term), u.stands)

  -- two terms are equal
  pub makes-equate : (e f h : Graph) (t v : Term) (a b : Applied) → AddsTerm codes meaning g e t a → AddsTerm codes meaning e f v b → UnitesIds codes meaning f h a b → MakesEdit {L = L} codes meaning g h c (Equate t v)
  makes-equate e f h t v a b first second u =
      united f h (Equate t v) a b second.graph (extends-then g e f first.extends second.extends) (second.asserted ∙ first.asserted) (carries-then codes meaning law g e f first.extends first.carries second.carries)
      (λ pair is before same after entry. record {
        moment = f;
        between = record { graph = is; after = before; before = after };
        left = a;
        right = b;
        says = (second.extends.canonical.full a first.full.full, second.extends.canonical.terms a first.full.full ∙ first.term, second.full.full, second.term);
        is = same;
        entry = entry;
      })
      u
      (a, b, stays-id f h t a u.extends (stays-id e f t a second.extends (first.full.full, first.term)), stays-id f h v b u.extends (second.full.full, second.term), u.stands)
