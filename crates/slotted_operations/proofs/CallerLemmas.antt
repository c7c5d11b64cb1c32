-- What was valid stays valid: in the table as names are added to it, in the graph as it grows or ids are united.
use Rattle.std.proofs.Common.{◌≡◌, ◌≢◌, ◌⊎◌, ◌↔◌, ◌<◌, ℕ, List, [], Bool, length, ap, refl, sym, ◌∙◌, subst, inl, inr}
use Rattle.std.specs.Prelude.{Contains, IsTrue, Option, slice_index_or}
use Rattle.slotted_lists.proofs.Contained.{Contains-nil}
use Rattle.slotted_theory.specs.Term.{Args, Term, done, name, child, bind}
use Rattle.slotted_theory.specs.Nameless.{DTerm}
use Rattle.slotted_theory.specs.Derives.{Equal}
use Rattle.slotted_slots.specs.declared.types.AppliedId.{AppliedId}
use Rattle.slotted_slots.specs.Table.{Table, KnowsMore, is_known}
use Rattle.slotted_terms.specs.Valid.{HasKnownNames, IsValidTerm}
use Rattle.slotted_model.specs.Applied.{Applied, values}
use Rattle.slotted_model.specs.Ascending.{names}
use Rattle.slotted_model.specs.Classes.{canonical_slots, IsFull, term_of}
use Rattle.slotted_model.specs.Correspondence.{identity}
use Rattle.slotted_model.specs.Filling.{IsValid}
use Rattle.slotted_model.specs.Growth.{Extends}
use Rattle.slotted_model.specs.ProofList.{equation_of}
use Rattle.slotted_model.proofs.Correspondences.FullIds.{full_id, slots-different}
use Rattle.slotted_model.proofs.Correspondences.FullMaps.{full-from}
use Rattle.slotted_model.proofs.Correspondences.Pairs.{Contains-of_value, Contains-value}
use Rattle.slotted_model.proofs.Correspondences.PartialInjections.{composite-by, composite-over, identity-by, identity-in_order, identity-pair}
use Rattle.slotted_model.proofs.Represented.FillingEquations.{filled-equation}
use Rattle.slotted_model.proofs.Represented.Fillings.{a_filling, filling-iff}
use Rattle.slotted_model.proofs.Represented.Full.{full-ascending}
use Rattle.slotted_model.proofs.Finds.NormalIds.{keys-identity}
use Rattle.slotted_proofs.specs.Entries.{asserted_entry}
use Rattle.slotted_proofs.specs.Equations.{to_applied}
use Rattle.slotted_lookup.proofs.IdFillings.{full-lacks_none}
use Rattle.slotted_operations.specs.Graph.{Graph, IsFullId, OnlyReads, OnlyTakesSlots, RecordsUnion}
use Rattle.slotted_operations.specs.Affected.{IsAffected, IsYesIfEqual, by_affected_child, by_open_symmetry}
use Rattle.slotted_operations.specs.ValidIds.{IsValidId, Fills, HaveValidSides, slots_left}
use Rattle.slotted_operations.specs.Image.{AddsClasses, Image, SymmetryEntry, Asserts, FillApart, FoundAlike, IsUnion, AreClosed, Records, SaysEqual, asserted_in, found_id}
use Rattle.slotted_operations.specs.Syn.{names_lacking}

-- what a table knows it knows later
pub known_later : (t u : Table) → KnowsMore t u → (a : Args) → HasKnownNames t a → HasKnownNames u a
known_later t u more done k = tt
known_later t u more (name x rest) k = (more x k.0, known_later t u more rest k.1)
known_later t u more (child op payloads args rest) k = (known_later t u more args k.0, known_later t u more rest k.1)
known_later t u more (bind x inner rest) k = (more x k.0, known_later t u more inner k.1, known_later t u more rest k.2)

pub term_later : (t u : Table) → KnowsMore t u → (a : Term) → IsValidTerm t a → IsValidTerm u a
term_later t u more a v = record { whole = v.whole; known = known_later t u more a.args v.known }

pub id_later : (g h : Graph) (a : Applied) → Extends g.image.canonical h.image.canonical → KnowsMore g.table h.table → IsFullId g a → IsFullId h a
id_later g h a x more v = record { full = x.full a v.full; known = λ k d l. more _ (v.known k d l) }

-- a graph with the same canonical nodes and the same table has the same ids
pub id_same : (g h : Graph) (a : Applied) → h.image.canonical ≡ g.image.canonical → h.table ≡ g.table → IsFullId g a → IsFullId h a
id_same g h a nodes table v = record {
  full = subst (λ (x : List DTerm). IsFull x a) (sym nodes) v.full;
  known = λ k d l. subst (λ (t : Table). IsTrue (is_known t (slice_index_or (values a.1) k d))) (sym table) (v.known k d l);
}

-- a valid id lacks no name, so `eq` can be asked of it
pub full-valid : (g : Graph) (a : Applied) → IsFullId g a → IsValidId g a
full-valid g a v = record {
  in_range = v.full.in_range;
  ascending = full-ascending g.image.canonical a v.full;
  injective = v.full.injective;
  known = v.known;
  within = λ s c. subst (λ S. Contains S s) v.full.slots c;
  has_left = λ s c left. subst (λ S. Contains S s) (sym v.full.slots) c;
}

pub can-compare : (g : Graph) (a : Applied) → IsTrue g.failed ⊎ IsFullId g a → IsTrue g.failed ⊎ IsValidId g a
can-compare g a (inl failed) = inl failed
can-compare g a (inr v) = inr (full-valid g a v)

-- so a full id takes fresh slots for binders alone, where its node or its term is given out
pub lacks_none : (nodes : List DTerm) (a : Applied) → IsFull nodes a → names_lacking nodes a ≡ 0
lacks_none nodes a full = full-lacks_none nodes a full

-- it is filled by itself alone
pub fills-itself : (g : Image) (a : Applied) → IsFull g.canonical a → Fills g a a
fills-itself g a full = record { class = refl; full = full; keeps = λ s x c. c }

pub only-itself : (g : Image) (a b : Applied) → IsFull g.canonical a → Fills g a b → b ≡ a
only-itself g a b full f =
    (filling-iff g.canonical [] a b full).0 (record { class = f.class; full = f.full; keeps = f.keeps; fresh = λ s x h n m. Contains-nil x m })

-- a findable id has different names for canonical slots of its class
pub valid-over_none : (g : Graph) (a : Applied) → IsValidId g a → IsValid (λ c. []) g.image.canonical a
valid-over_none g a v = record { in_range = v.in_range; ascending = v.ascending; injective = v.injective; has_slots = λ s c. absurd (Contains-nil s c); within = v.within }

-- an id that lacks names can be filled
pub filled : (g : Graph) (a : Applied) → IsValidId g a → (b : Applied) × Fills g.image a b
filled g a v =
    let f = a_filling g.image.canonical (λ c. []) [] a (valid-over_none g a v) in
    (f.0, record { class = f.1.class; full = f.1.full; keeps = f.1.keeps })

-- two ids with all names fill themselves apart
pub full-apart : (g : Image) (a b : Applied) → IsFull g.canonical a → IsFull g.canonical b → FillApart g a b a b
full-apart g a b full_a full_b = record {
  left_fills = (filling-iff g.canonical (values b.1) a a full_a).1 refl;
  right_fills = (filling-iff g.canonical (values a.1) b b full_b).1 refl;
}

-- so a union of them asserts their own equation, and the entry has the text
pub asserts-full : (g h : Image) (a b : Applied) (y : Bool) → IsUnion g h a b y → IsFull g.canonical a → IsFull g.canonical b → Asserts g h (equation_of a b)
asserts-full g h a b y u full_a full_b = u.asserts a b (full-apart g a b full_a full_b)

pub records-full : (g h : Graph) (a b : AppliedId) (text : Option (List ℕ)) → RecordsUnion g h a b text → IsFull g.image.canonical (to_applied a) → IsFull g.image.canonical (to_applied b) → Records g.image h.image (asserted_entry (to_applied a) (to_applied b) text)
records-full g h a b text r full_a full_b = r.each (to_applied a) (to_applied b) (full-apart g.image (to_applied a) (to_applied b) full_a full_b)

-- names that are filled in apart are shared by no slots: also ids that lack names have the equation that a union of them asserts
pub asserts-own : (g h : Graph) (a b : Applied) (y : Bool) → IsUnion g.image h.image a b y → IsValidId g a → IsValidId g b → Asserts g.image h.image (equation_of a b)
asserts-own g h a b y u va vb =
    let left : Applied = u.filled.0 in
    let right : Applied = u.filled.1 in
    let apart : FillApart g.image a b left right = u.filled.2 in
    subst (Asserts g.image h.image)
    (filled-equation g.image.canonical (λ c. []) (λ c. []) a b left right (valid-over_none g a va) (valid-over_none g b vb) apart.left_fills apart.right_fills)
    (u.asserts left right apart)

-- `eq` can be asked of both sides of a listed symmetry
pub symmetry-sides : (g : Graph) → IsTrue g.failed ⊎ HaveValidSides g → (y : SymmetryEntry) → Contains g.image.symmetries y →
    (IsTrue g.failed ⊎ IsValidId g y.0.0) × (IsTrue g.failed ⊎ IsValidId g y.0.1)
symmetry-sides g (inl failed) y c = (inl failed, inl failed)
symmetry-sides g (inr sides) y c = (inr (sides y c).0, inr (sides y c).1)

-- after a union an answer that says whether its sides find alike is yes, where no listed symmetry is open
pub yes_if_closed : (g h : Image) (a b : Applied) (y : Bool) → IsUnion g h a b y → (answer : Bool) → (IsTrue answer ↔ FoundAlike h a b) → AreClosed h → IsTrue answer
yes_if_closed g h a b y u answer says closed = says.1 (u.together.alike (λ e c finds. closed e c))

-- and where the sides found two classes before, whichever symmetries are open
pub yes_of_two : (g h : Image) (a b : Applied) (y : Bool) → IsUnion g h a b y → (answer : Bool) → (IsTrue answer ↔ FoundAlike h a b) → (found_id g a).0 ≢ (found_id g b).0 → IsTrue answer
yes_of_two g h a b y u answer says two = says.1 (u.of_two two)

-- where no listed symmetry is open, none affects a class
closed-unaffected : (g : Image) → AreClosed g → {c : ℕ} → ¬ IsAffected g c
closed-unaffected g closed (by_open_symmetry y listed is_open) = is_open (closed y listed)
closed-unaffected g closed (by_affected_child i c within under affected) = closed-unaffected g closed affected

-- so there an answer of `eq` is yes exactly if the terms of its two valid ids are equal by what was asserted
pub exact_if_closed : (g : Image) (a b : Applied) (y : Bool) → IsFull g.canonical a → IsFull g.canonical b → SaysEqual g a b y → IsYesIfEqual g a b y → AreClosed g → IsTrue y ↔ Equal (asserted_in g) (term_of g.canonical a) (term_of g.canonical b)
exact_if_closed g a b y full_a full_b says complete closed =
    (says, λ e. elim (complete a b (fills-itself g a full_a) (fills-itself g b full_b) e) [ inl t ↦ t | inr affected ↦ absurd (closed-unaffected g closed affected.0) ])

-- calls that change the table alone, one after another

pub reads_twice : (f g h : Graph) → OnlyReads f g → OnlyReads g h → OnlyReads f h
reads_twice f g h one two = record {
  image = two.image ∙ one.image;
  filed = two.filed ∙ one.filed;
  part = two.part ∙ one.part;
  failed = two.failed ∙ one.failed;
  more = λ s k. two.more s (one.more s k);
}

pub takes_twice : (f g h : Graph) → OnlyTakesSlots f g → OnlyTakesSlots g h → OnlyTakesSlots f h
takes_twice f g h one two = record { reads = reads_twice f g h one.reads two.reads; names = two.names ∙ one.names }

-- they leave each id what it was
pub id_read : (g h : Graph) (a : Applied) → OnlyReads g h → IsFullId g a → IsFullId h a
id_read g h a reads v = record {
  full = subst (λ (x : Image). IsFull x.canonical a) (sym reads.image) v.full;
  known = λ k d l. reads.more _ (v.known k d l);
}

pub valid_read : (g h : Graph) (a : Applied) → OnlyReads g h → IsValidId g a → IsValidId h a
valid_read g h a reads v = record {
  in_range = subst (λ (x : Image). a.0 < length x.canonical) (sym reads.image) v.in_range;
  ascending = v.ascending;
  injective = v.injective;
  known = λ k d l. reads.more _ (v.known k d l);
  within = λ s c. subst (λ (x : Image). Contains (canonical_slots x.canonical a.0) s) (sym reads.image) (v.within s c);
  has_left = λ s c left.
      v.has_left s (subst (λ (x : Image). Contains (canonical_slots x.canonical a.0) s) reads.image c) (subst (λ (x : Image). Contains (slots_left x a.0) s) reads.image left);
}

-- what a call needs, in a graph that may have failed: a term that could be added to g can be added to h, and an id of g be handed to h

pub can_add : (g h : Graph) (t : Term) → KnowsMore g.table h.table → IsValidTerm g.table t → IsTrue h.failed ⊎ IsValidTerm h.table t
can_add g h t more v = inr (term_later g.table h.table more t v)

pub can_ask : (g h : Graph) (a : Applied) → Extends g.image.canonical h.image.canonical → KnowsMore g.table h.table → IsFullId g a → IsTrue h.failed ⊎ IsFullId h a
can_ask g h a extends more v = inr (id_later g h a extends more v)

pub can_ask_united : (g h : Graph) (a b x : Applied) (y : Bool) → IsUnion g.image h.image a b y → h.table ≡ g.table → IsFullId g x → IsTrue h.failed ⊎ IsFullId h x
can_ask_united g h a b x y united table v = inr (id_same g h x united.canonical table v)

-- ids that lack names, after a union

-- where finds go on, a slot that a class has left is one that it had left before
left-before : (g h : Image) → ((a : Applied) → IsFull g.canonical a → found_id h a ≡ found_id h (found_id g a)) → (i : ℕ) → i < length g.canonical → (s : ℕ) → Contains (canonical_slots g.canonical i) s → Contains (slots_left h i) s → Contains (slots_left g i) s
left-before g h on i l s c left =
    let S : List ℕ = canonical_slots g.canonical i in
    let own : Applied = (i, identity S) in
    let full : IsFull g.canonical own =
    full_id g.canonical i (identity S) l (full-from S (identity S) (keys-identity S) (slots-different g.canonical i) (λ p q x d e. (identity-pair S p x d).1 ∙ sym (identity-pair S q x e).1)) in
    let new : List (ℕ × ℕ) = (slice_index_or h.found i (0, [])).1 in
    let old : List (ℕ × ℕ) = (slice_index_or g.found i (0, [])).1 in
    let t = Contains-of_value new s left in
    let now : Contains (found_id h own).1 (t.0, s) = composite-by S new (identity S) (identity-in_order S) t.0 s s t.1 (identity-by S s c) in
    let again : Contains (found_id h (found_id g own)).1 (t.0, s) = subst (λ (z : Applied). Contains z.1 (t.0, s)) (on own full) now in
    let o = composite-over (slice_index_or h.found (found_id g own).0 (0, [])).1 (found_id g own).1 t.0 s again in
    let p = composite-over old (identity S) o.0 s o.2 in
    subst (Contains (slots_left g i)) (identity-pair S p.0 s p.2).1 (Contains-value old o.0 p.0 p.1)

-- so a valid id stays valid where classes are added
pub valid_later : (g h : Graph) (x : Applied) → Extends g.image.canonical h.image.canonical → AddsClasses g.image h.image → KnowsMore g.table h.table → IsValidId g x → IsValidId h x
valid_later g h x extends adds more v =
    let same : canonical_slots h.image.canonical x.0 ≡ canonical_slots g.image.canonical x.0 = ap names (extends.classes x.0 v.in_range).1 in
    record {
      in_range = (extends.classes x.0 v.in_range).0;
      ascending = v.ascending;
      injective = v.injective;
      known = λ k d l. more _ (v.known k d l);
      within = λ s c. subst (λ S. Contains S s) (sym same) (v.within s c);
      has_left = λ s c left.
          let here : Contains (canonical_slots g.image.canonical x.0) s = subst (λ S. Contains S s) same c in
          v.has_left s here (left-before g.image h.image adds.finds x.0 v.in_range s here left);
    }

-- and where ids are united
pub valid_united : (g h : Graph) (a b x : Applied) (y : Bool) → IsUnion g.image h.image a b y → h.table ≡ g.table → IsValidId g x → IsValidId h x
valid_united g h a b x y u table v = record {
  in_range = subst (λ (n : List DTerm). x.0 < length n) (sym u.canonical) v.in_range;
  ascending = v.ascending;
  injective = v.injective;
  known = λ k d l. subst (λ (t : Table). IsTrue (is_known t (slice_index_or (values x.1) k d))) (sym table) (v.known k d l);
  within = λ s c. subst (λ (n : List DTerm). Contains (canonical_slots n x.0) s) (sym u.canonical) (v.within s c);
  has_left = λ s c left.
      let here : Contains (canonical_slots g.image.canonical x.0) s = subst (λ (n : List DTerm). Contains (canonical_slots n x.0) s) u.canonical c in
      v.has_left s here (left-before g.image h.image u.continues.finds x.0 v.in_range s here left);
}
