-- What answers about ids say of the terms that these stand for.
use Rattle.std.proofs.Common.{◌≡◌, ◌⊎◌, ◌↔◌, ◌∙◌, ℕ, List, Ok, Err, IsErrOf, ap, refl, sym, subst, inl, inr}
use Rattle.std.proofs.lemmas.Bool.{false≢true}
use Rattle.std.specs.Prelude.{◌<◌, Bool, length, Option, IsTrue}
use Rattle.slotted_slots.specs.declared.error.Error.{Error}
use Rattle.slotted_slots.specs.declared.error.Error.TheVariants.{Failed}
use Rattle.slotted_slots.specs.Syntax.{Element}
use Rattle.slotted_nodes.specs.Form.{Form}
use Rattle.slotted_theory.specs.Term.{Term}
use Rattle.slotted_theory.specs.Nameless.{DTerm, nameless}
use Rattle.slotted_theory.specs.Derives.{Equal}
use Rattle.slotted_theory.proofs.Backward.{Equal-derives}
use Rattle.slotted_terms.specs.Valid.{IsValidTerm}
use Rattle.slotted_model.specs.Applied.{Applied}
use Rattle.slotted_model.specs.Classes.{IsFull, term_of}
use Rattle.slotted_model.specs.ProofList.{HoldsFrom, equation_at}
use Rattle.slotted_model.proofs.Finds.FindProofs.{proved-holds}
use Rattle.slotted_proofs.specs.Equations.{to_applied}
use Rattle.slotted_operations.specs.Affected.{IsYesIfDerivable}
use Rattle.slotted_operations.specs.Explaining.{HasIds}
use Rattle.slotted_operations.specs.Good.{image_of}
use Rattle.slotted_operations.specs.Graph.{Graph, RecordsUnion}
use Rattle.slotted_operations.specs.Image.{FoundAlike, Image, IsUnion, SaysEqual, asserted_in}
use Rattle.slotted_operations.specs.ValidIds.{IsValidId}
use Rattle.slotted_explain.proofs.CallerLemmas.{asserts-full, fills-itself, full-valid}
use Rattle.slotted_graph.specs.States.{IsGraph}
use Rattle.slotted_graph.proofs.Extending.{extends-united}
use Rattle.slotted_commands.proofs.Steps.{not_true, sound_graph}
use Rattle.slotted_workspace.specs.Asked.{AddsKept, Compares, FollowsIn, HadFailed, UnitesTerms}
use Rattle.slotted_workspace.specs.Keeping.{IsKept}
use Rattle.slotted_workspace.specs.declared.kept.Kept.{Kept}

-- where an answer was given the graph had not failed

pub well-answered : {A P : Type 0} (g : Graph) (x : A) → (IsErrOf {T = A} {E = Error} (Ok x) Failed ↔ IsTrue g.failed) → IsTrue g.failed → P
well-answered g x failed f = absurd (false≢true (sym (sound_graph g.failed (Ok x) x refl failed.1) ∙ f))

pub kept-answered : {A P : Type 0} (g : Graph) (x : A) → (IsErrOf {T = A} {E = Error} (Ok x) Failed ↔ IsTrue g.failed) → IsTrue g.failed ⊎ P → P
kept-answered g x failed (inl f) = well-answered g x failed f
kept-answered g x failed (inr p) = p

-- `eq` can be asked of a kept id, and a kept term can be added
pub can-ask : {L : Type 0} (g : Graph) (k : Kept L) → IsTrue g.failed ⊎ IsKept g k → IsTrue g.failed ⊎ IsValidId g (to_applied k.id)
can-ask g k (inl f) = inl f
can-ask g k (inr v) = inr (full-valid g (to_applied k.id) v.full)

pub can-add : {L : Type 0} (g : Graph) (k : Kept L) → IsTrue g.failed ⊎ IsKept g k → IsTrue g.failed ⊎ IsValidTerm g.table k.term
can-add g k (inl f) = inl f
can-add g k (inr v) = inr v.valid

pub follows : (g : Image) (t u : Term) → Equal (asserted_in g) (nameless t) (nameless u) → FollowsIn g t u
follows g t u equal E is = Equal-derives t u (subst (λ (A : List (DTerm × DTerm)). Equal A (nameless t) (nameless u)) (sym is) equal)

-- an entry of a graph's proof list holds
pub entry-holds : (h : Graph) → IsGraph h → (n : ℕ) → n < length h.image.entries → HoldsFrom (asserted_in h.image) h.image.canonical (equation_at h.image.entries n)
entry-holds h is n within =
    let k = is.is_state.kept in
    let good = is.is_state.good in
    let same : image_of k ≡ h.image = is.is_state.image in
    subst (λ (x : Image). HoldsFrom (asserted_in x) x.canonical (equation_at x.entries n)) same
    (proved-holds (image_of k).canonical good.stored.sane.sound.canonical (image_of k).entries good.stored.sane.sound.proved n (subst (λ (x : Image). n < length x.entries) (sym same) within))

module _ {L : Type 0} (g : Graph) (k l : Kept L) (one : IsKept g k) (two : IsKept g l) where
  abbrev left : Applied
  left = to_applied k.id

  abbrev right : Applied
  right = to_applied l.id

  pub have-ids : HasIds g.image k.term l.term left right
  have-ids = record { left = one.found; right = two.found }

  -- the ids are equal in a graph with these classes, so the terms are
  pub terms-equal : (E : List (DTerm × DTerm)) → Equal E (term_of g.image.canonical left) (term_of g.image.canonical right) → Equal E (nameless k.term) (nameless l.term)
  terms-equal E equal = subst (λ (d : DTerm). Equal E d (nameless l.term)) one.term (subst (Equal E (term_of g.image.canonical left)) two.term equal)

  pub compares : (y : Bool) → (IsErrOf {T = Bool} {E = Error} (Ok y) Failed ↔ IsTrue g.failed) → IsTrue y ↔ FoundAlike g.image left right → SaysEqual g.image left right y → IsYesIfDerivable g.image left right y → Compares g k.term l.term y
  compares y failed found says complete = record {
    well = sound_graph g.failed (Ok y) y refl failed.1;
    left = left;
    right = right;
    ids = have-ids;
    found = found;
    sound = λ yes. follows g.image k.term l.term (terms-equal (asserted_in g.image) (says yes));
    complete = λ E is d. complete left right (fills-itself g.image left one.full.full) (fills-itself g.image right two.full.full) E k.term l.term is (sym one.term) (sym two.term) d;
  }

  pub unites : (h : Graph) (text : Option (List ℕ)) (y : Bool) → (IsTrue h.failed → ⊥) → IsTrue h.failed ⊎ IsGraph h → IsUnion g.image h.image left right y → RecordsUnion g h k.id l.id text → h.table ≡ g.table → UnitesTerms g h k.term l.term text y
  unites h text y well rests union records table =
      let is : IsGraph h = elim rests [ inl f ↦ absurd (well f) | inr i ↦ i ] in
      let asserts = asserts-full g.image h.image left right y union one.full.full two.full.full in
      let same : h.image.canonical ≡ g.image.canonical = union.canonical in
      let full : (a : Applied) → IsFull g.image.canonical a → IsFull h.image.canonical a = λ a v. subst (λ (n : List DTerm). IsFull n a) (sym same) v in
      let equal : Equal (asserted_in h.image) (term_of h.image.canonical left) (term_of h.image.canonical right) =
      entry-holds h is asserts.number asserts.in_range left right (full left one.full.full) (full right two.full.full) (sym asserts.stands) in
      record {
        well = not_true h.failed well;
        left = left;
        right = right;
        ids = have-ids;
        union = union;
        records = records;
        follows = follows h.image k.term l.term (terms-equal (asserted_in h.image) (subst (λ (n : List DTerm). Equal (asserted_in h.image) (term_of n left) (term_of n right)) same equal));
        extends = extends-united g h k.id l.id text y union records table;
        table = table;
      }

-- a term that was read and added is kept
pub kept-added : {L : Type 0} (read : List Element → Option Form) (g h : Graph) (text : List ℕ) (k : Kept L) → AddsKept read g h text k.term (to_applied k.id) → IsValidTerm h.table k.term → IsKept h k
kept-added read g h text k adds valid = record { full = adds.gains.valid; term = adds.gains.term; found = adds.gains.found; valid = valid }

-- where only a failed graph is refused
pub had-failed : {A : Type 0} (g : Graph) (e : Error) → e ≡ Failed → (IsErrOf {T = A} {E = Error} (Err e) Failed ↔ IsTrue g.failed) → HadFailed g g e
had-failed g e is failed = (failed.0 (ap Err is), refl, is)
