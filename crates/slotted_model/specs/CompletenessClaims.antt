-- The laws of values and of closed graphs, all owed by `completeness_laws_hold` in src/completeness.rt.
use Rattle.std.specs.Prelude.{◌≡◌, ◌↔◌, ◌⊎◌, ℕ, ◌<◌, List, length, Contains, Option, Some, Bool, false, IsTrue, IsFalse, map}
use Rattle.slotted_theory.specs.Term.{Term}
use Rattle.slotted_theory.specs.Nameless.{DTerm, nameless, moved}
use Rattle.slotted_theory.specs.Renaming.{IsInjective}
use Rattle.slotted_theory.specs.Derives.{Derives, Equal, nameless_pair}
use Rattle.slotted_model.specs.Applied.{Applied, as_term, EachChild}
use Rattle.slotted_model.specs.Trees.{IsTree}
use Rattle.slotted_model.specs.Classes.{term_of, layer_of, IsFull, Canonical}
use Rattle.slotted_model.specs.LookUp.{Renames, look_up}
use Rattle.slotted_model.specs.Filling.{IsValid, IsFilling}
use Rattle.slotted_model.specs.Find.{Entry, find_class, used_slots, find, Linked}
use Rattle.slotted_model.specs.ProofList.{ProofEntry, node_of, asserted}
use Rattle.slotted_model.specs.Normal.{normal}
use Rattle.slotted_model.specs.Sound.{Sound}
use Rattle.slotted_model.specs.Value.{id_value, value_of_term}
use Rattle.slotted_model.specs.Closed.{AreAlikeUpTo, IsClosed}
use Rattle.slotted_model.specs.State.{State, look_up_node, look_up_tree}
use Rattle.slotted_model.specs.Rest.{IsValidIn, AtRest, IsAffected, CoversAffected}
use Rattle.slotted_model.specs.Affected.{is_affected, HasNoOpenSymmetries, AreAlikeOrAffected}
use Rattle.slotted_model.specs.Agreement.{Knows, Correspond, HasTermsOf, Agree}
use Rattle.slotted_model.specs.Sessions.{Session, HoldsJust, Follow, AreAmong}

-- the value of a tree with other names is its value with the other names
abbrev pub ValuesMoveWithNames : Type 0
ValuesMoveWithNames =
    (look : DTerm → Option Applied) (marked : ℕ → Bool) → Renames look → (f : ℕ → ℕ) → IsInjective f → (t : DTerm) →
    value_of_term look marked (moved f t) ≡ moved f (value_of_term look marked t)

-- one value is an equivalence that congruence and renaming keep: where the trees of each listed pair have one value, equal trees have
abbrev pub EqualTreesHaveOneValue : Type 0
EqualTreesHaveOneValue =
    (E : List (DTerm × DTerm)) (look : DTerm → Option Applied) (marked : ℕ → Bool) → Renames look →
    ((d e : DTerm) → Contains E (d, e) → value_of_term look marked d ≡ value_of_term look marked e) →
    (t u : DTerm) → Equal E t u → value_of_term look marked t ≡ value_of_term look marked u

-- a tree whose value is an id is looked up as that id
abbrev pub ValuesAreLookedUp : Type 0
ValuesAreLookedUp =
    (look : DTerm → Option Applied) (marked : ℕ → Bool) (t : DTerm) → IsTree t → (a : Applied) →
    value_of_term look marked t ≡ as_term a → look_up look t ≡ Some a

-- where no class is marked a tree is looked up as an id exactly if that is its value
abbrev pub LookUpsAreValues : Type 0
LookUpsAreValues =
    (look : DTerm → Option Applied) (t : DTerm) → IsTree t → (a : Applied) → (look_up look t ≡ Some a) ↔
    (value_of_term look (λ c. false) t ≡ as_term a)

-- ids of one value are the same, or both of marked classes
abbrev pub OneValueIsOneId : Type 0
OneValueIsOneId = (marked : ℕ → Bool) (a b : Applied) → id_value marked a ≡ id_value marked b → (a ≡ b) ⊎
    (IsTrue (marked a.0) × IsTrue (marked b.0))

-- the term of a full id has the value of what the id finds
abbrev pub CanonicalTermsHaveFoundValues : Type 0
CanonicalTermsHaveFoundValues =
    (nodes : List DTerm) → Canonical nodes →
    (found : List Entry) (E : List (DTerm × DTerm)) (look : DTerm → Option Applied) (marked : ℕ → Bool) →
    IsClosed nodes found E look marked →
    (a : Applied) → IsFull nodes a → value_of_term look marked (term_of nodes a) ≡ id_value marked (find found a)

-- the terms of a listed pair have one value
abbrev pub ListedPairsHaveOneValue : Type 0
ListedPairsHaveOneValue =
    (nodes : List DTerm) → Canonical nodes →
    (found : List Entry) (E : List (DTerm × DTerm)) (look : DTerm → Option Applied) (marked : ℕ → Bool) →
    IsClosed nodes found E look marked →
    (d e : DTerm) → Contains E (d, e) → value_of_term look marked d ≡ value_of_term look marked e

-- full ids whose terms are equal find alike, or both find marked classes
abbrev pub EqualTermsAreFoundAlike : Type 0
EqualTermsAreFoundAlike =
    (nodes : List DTerm) → Canonical nodes →
    (found : List Entry) (E : List (DTerm × DTerm)) (look : DTerm → Option Applied) (marked : ℕ → Bool) →
    IsClosed nodes found E look marked →
    (a b : Applied) → IsFull nodes a → IsFull nodes b → Equal E (term_of nodes a) (term_of nodes b) → AreAlikeUpTo found marked a b

-- so do valid ids, if some names fill them so that their terms are equal
abbrev pub EqualFillingsAreFoundAlike : Type 0
EqualFillingsAreFoundAlike =
    (nodes : List DTerm) → Canonical nodes → (found : List Entry) → Linked nodes found →
    (E : List (DTerm × DTerm)) (look : DTerm → Option Applied) (marked : ℕ → Bool) → IsClosed nodes found E look marked →
    (a b left right : Applied) (given more_given : List ℕ) → IsValid (used_slots found) nodes a → IsValid (used_slots found) nodes b →
    IsFilling nodes given a left → IsFilling nodes more_given b right → Equal E (term_of nodes left) (term_of nodes right) →
    AreAlikeUpTo found marked a b

-- the same of terms with names: where they are derivable from the equations, the ids find alike, or both find marked classes
abbrev pub DerivableTermsAreFoundAlike : Type 0
DerivableTermsAreFoundAlike =
    (nodes : List DTerm) → Canonical nodes → (found : List Entry) → Linked nodes found →
    (E : List (Term × Term)) (look : DTerm → Option Applied) (marked : ℕ → Bool) →
    IsClosed nodes found (map nameless_pair E) look marked →
    (a b left right : Applied) (given more_given : List ℕ) → IsValid (used_slots found) nodes a → IsValid (used_slots found) nodes b →
    IsFilling nodes given a left → IsFilling nodes more_given b right →
    (t u : Term) → nameless t ≡ term_of nodes left → nameless u ≡ term_of nodes right → Derives E t u → AreAlikeUpTo found marked a b

-- full ids find alike, or both find marked classes, if their nodes have one normal form: the same operator, payloads, names and
-- binders, and children that find alike in turn
abbrev pub FindingAlikeIsACongruence : Type 0
FindingAlikeIsACongruence =
    (nodes : List DTerm) (found : List Entry) (E : List (DTerm × DTerm)) (look : DTerm → Option Applied) (marked : ℕ → Bool) →
    IsClosed nodes found E look marked →
    (a b : Applied) → IsFull nodes a → IsFull nodes b → normal found (node_of nodes a) ≡ normal found (node_of nodes b) →
    AreAlikeUpTo found marked a b

-- where no class is marked, two ids find alike exactly if their terms are equal by the asserted equations, whatever names fill them
abbrev pub FindingAlikeIsEquality : Type 0
FindingAlikeIsEquality =
    (nodes : List DTerm) (found : List Entry) (proofs : List ProofEntry) (look : DTerm → Option Applied) →
    Sound nodes found proofs → IsClosed nodes found (asserted nodes proofs) look (λ c. false) →
    (a b left right : Applied) (given more_given : List ℕ) → IsValid (used_slots found) nodes a →
    IsValid (used_slots found) nodes b → IsFilling nodes given a left → IsFilling nodes more_given b right →
    (find found a ≡ find found b) ↔ Equal (asserted nodes proofs) (term_of nodes left) (term_of nodes right)

-- each tree that is equal to the term of an id is looked up as what the id finds, if that is no marked class: also one that was never added
abbrev pub EqualTreesAreLookedUp : Type 0
EqualTreesAreLookedUp =
    (nodes : List DTerm) → Canonical nodes →
    (found : List Entry) (E : List (DTerm × DTerm)) (look : DTerm → Option Applied) (marked : ℕ → Bool) →
    IsClosed nodes found E look marked →
    (a : Applied) → IsFull nodes a → IsFalse (marked (find_class found a.0)) → (t : DTerm) → IsTree t →
    Equal E (term_of nodes a) t → look_up look t ≡ Some (find found a)

-- where no class is marked, equal trees are looked up alike, or both are not
abbrev pub EqualTreesAreLookedUpAlike : Type 0
EqualTreesAreLookedUpAlike =
    (nodes : List DTerm) → Canonical nodes → (found : List Entry) (E : List (DTerm × DTerm)) (look : DTerm → Option Applied) →
    IsClosed nodes found E look (λ c. false) →
    (t u : DTerm) → IsTree t → IsTree u → Equal E t u → look_up look t ≡ look_up look u

-- at rest a graph is closed, for its look-up and what was asserted, by each test that covers the classes that open symmetries affect
abbrev pub RestIsClosed : Type 0
RestIsClosed = (g : State) → AtRest g → (marked : ℕ → Bool) → CoversAffected g marked →
    IsClosed g.nodes g.found (asserted g.nodes g.proofs) (look_up_node g) marked

-- the test of affected classes covers them, and says yes to no other
abbrev pub AffectedIsDecided : Type 0
AffectedIsDecided = (g : State) → CoversAffected g (is_affected g) × ((c : ℕ) → IsTrue (is_affected g c) ↔ IsAffected g c)

-- completeness: at rest, valid ids find alike, or both find affected classes, if some names fill them so that their terms are equal by what was asserted
abbrev pub EqualIsFoundAtRest : Type 0
EqualIsFoundAtRest =
    (g : State) → AtRest g → (a b left right : Applied) (given more_given : List ℕ) → IsValidIn g a → IsValidIn g b →
    IsFilling g.nodes given a left → IsFilling g.nodes more_given b right →
    Equal (asserted g.nodes g.proofs) (term_of g.nodes left) (term_of g.nodes right) → AreAlikeOrAffected g a b

-- the same of terms with names that are derivable from the asserted equations
abbrev pub DerivableIsFoundAtRest : Type 0
DerivableIsFoundAtRest =
    (g : State) → AtRest g → (a b left right : Applied) (given more_given : List ℕ) → IsValidIn g a → IsValidIn g b →
    IsFilling g.nodes given a left → IsFilling g.nodes more_given b right →
    (E : List (Term × Term)) (t u : Term) → map nameless_pair E ≡ asserted g.nodes g.proofs → nameless t ≡ term_of g.nodes left →
    nameless u ≡ term_of g.nodes right →
    Derives E t u → AreAlikeOrAffected g a b

-- at rest and with no open symmetry, two ids find alike exactly if their terms are derivable from the asserted equations, whatever names fill them
abbrev pub FoundIsDerivableAtRest : Type 0
FoundIsDerivableAtRest =
    (g : State) → AtRest g → HasNoOpenSymmetries g → (a b left right : Applied) (given more_given : List ℕ) → IsValidIn g a →
    IsValidIn g b → IsFilling g.nodes given a left → IsFilling g.nodes more_given b right →
    (E : List (Term × Term)) (t u : Term) → map nameless_pair E ≡ asserted g.nodes g.proofs → nameless t ≡ term_of g.nodes left →
    nameless u ≡ term_of g.nodes right →
    (find g.found a ≡ find g.found b) ↔ Derives E t u

-- at rest, full ids find alike, or both find affected classes, if their nodes have one normal form
abbrev pub CongruentIsFoundAtRest : Type 0
CongruentIsFoundAtRest =
    (g : State) → AtRest g → (a b : Applied) → IsFull g.nodes a → IsFull g.nodes b →
    normal g.found (node_of g.nodes a) ≡ normal g.found (node_of g.nodes b) → AreAlikeOrAffected g a b

-- at rest, a tree that is looked up is equal by what was asserted to the term of the answer, which is valid, whatever names fill it
abbrev pub LookedUpIsEqualAtRest : Type 0
LookedUpIsEqualAtRest =
    (g : State) → AtRest g → (t : DTerm) (x : Applied) → look_up_tree g t ≡ Some x →
    IsValidIn g x × ((b : Applied) (given : List ℕ) → IsFilling g.nodes given x b → Equal (asserted g.nodes g.proofs) (term_of g.nodes b) t)

-- at rest, a tree is looked up as what an id of no affected class finds exactly if it is equal to the id's term: also one that was never added
abbrev pub EqualIsLookedUpAtRest : Type 0
EqualIsLookedUpAtRest =
    (g : State) → AtRest g → (a : Applied) → IsFull g.nodes a → ¬ IsAffected g (find_class g.found a.0) → (t : DTerm) → IsTree t →
    (look_up_tree g t ≡ Some (find g.found a)) ↔ Equal (asserted g.nodes g.proofs) (term_of g.nodes a) t

-- so the term of such an id is looked up as what the id finds
abbrev pub TermsAreLookedUpAtRest : Type 0
TermsAreLookedUpAtRest =
    (g : State) → AtRest g → (a : Applied) → IsFull g.nodes a → ¬ IsAffected g (find_class g.found a.0) →
    look_up_tree g (term_of g.nodes a) ≡ Some (find g.found a)

-- at rest, a node over valid ids that is looked up stands for what is equal to the term of the answer, which is valid, whatever names fill it
abbrev pub LookedUpNodeIsEqualAtRest : Type 0
LookedUpNodeIsEqualAtRest =
    (g : State) → AtRest g → (d : DTerm) → EachChild (IsValidIn g) d.args → (x : Applied) → look_up_node g d ≡ Some x →
    IsValidIn g x ×
    ((b : Applied) (given : List ℕ) → IsFilling g.nodes given x b → Equal (asserted g.nodes g.proofs) (term_of g.nodes b) (layer_of g.nodes d))

-- at rest, a node over valid ids is looked up as what an id of no affected class finds exactly if what it stands for is equal to the id's term
abbrev pub EqualNodeIsLookedUpAtRest : Type 0
EqualNodeIsLookedUpAtRest =
    (g : State) → AtRest g → (a : Applied) → IsFull g.nodes a → ¬ IsAffected g (find_class g.found a.0) → (d : DTerm) → 0 < d.op →
    EachChild (IsValidIn g) d.args →
    (look_up_node g d ≡ Some (find g.found a)) ↔ Equal (asserted g.nodes g.proofs) (term_of g.nodes a) (layer_of g.nodes d)

-- at rest and with no open symmetry, a tree is looked up exactly if it is equal to the term of some full id
abbrev pub EqualIsRepresentedAtRest : Type 0
EqualIsRepresentedAtRest =
    (g : State) → AtRest g → HasNoOpenSymmetries g → (t : DTerm) → IsTree t →
    ((x : Applied) × (look_up_tree g t ≡ Some x)) ↔
    ((a : Applied) × IsFull g.nodes a × Equal (asserted g.nodes g.proofs) (term_of g.nodes a) t)

-- at rest and with no open symmetry, equal trees are looked up alike, or both are not
abbrev pub EqualIsLookedUpAlikeAtRest : Type 0
EqualIsLookedUpAlikeAtRest =
    (g : State) → AtRest g → HasNoOpenSymmetries g → (t u : DTerm) → IsTree t → IsTree u → Equal (asserted g.nodes g.proofs) t u →
    look_up_tree g t ≡ look_up_tree g u

-- graphs at rest of the same classes that know what each other assert, with no open symmetry, find alike alike; the same classes
-- lead to one class, and they have the same slots: in whatever order they were united
abbrev pub GraphsAgreeAtRest : Type 0
GraphsAgreeAtRest =
    (g h : State) → AtRest g → AtRest h → HasNoOpenSymmetries g → HasNoOpenSymmetries h → g.nodes ≡ h.nodes →
    ((d e : DTerm) → Contains (asserted g.nodes g.proofs) (d, e) → Equal (asserted h.nodes h.proofs) d e) →
    ((d e : DTerm) → Contains (asserted h.nodes h.proofs) (d, e) → Equal (asserted g.nodes g.proofs) d e) →
    ((a b : Applied) → IsFull g.nodes a → IsFull g.nodes b → (find g.found a ≡ find g.found b) ↔ (find h.found a ≡ find h.found b))
    × ((i j : ℕ) → i < length g.nodes → j < length g.nodes → (find_class g.found i ≡ find_class g.found j) ↔ (find_class h.found i ≡ find_class h.found j))
    × ((i : ℕ) → i < length g.nodes → used_slots g.found i ≡ used_slots h.found i)

-- where h knows what g asserts and has the terms of g's live classes, each full id of g corresponds to one of h
abbrev pub EachIdCorresponds : Type 0
EachIdCorresponds =
    (g h : State) → AtRest g → AtRest h → Knows h g → HasTermsOf h g → (a : Applied) → IsFull g.nodes a → (b : Applied) × Correspond g h a b

-- where h knows what g asserts, what g finds alike h finds alike, for corresponding ids, or it finds classes that an open symmetry affects
abbrev pub GraphsAgreeButForAffected : Type 0
GraphsAgreeButForAffected =
    (g h : State) → AtRest g → AtRest h → Knows h g → (a b x y : Applied) → Correspond g h a b → Correspond g h x y →
    find g.found a ≡ find g.found x → AreAlikeOrAffected h b y

-- graphs at rest with no open symmetry that know what each other assert, and have the terms of each other's live classes, agree:
-- whichever classes were kept, and whatever nodes classes were made with
abbrev pub GraphsAgreeUpToClasses : Type 0
GraphsAgreeUpToClasses =
    (g h : State) → AtRest g → AtRest h → HasNoOpenSymmetries g → HasNoOpenSymmetries h →
    Knows h g → Knows g h → HasTermsOf h g → HasTermsOf g h → Agree g h

-- what a session leads to is at rest, and holds just the trees that were added and the pairs that were asserted
abbrev pub SessionsHoldJustThat : Type 0
SessionsHoldJustThat = (trees : List DTerm) (pairs : List (DTerm × DTerm)) (g : State) → Session trees pairs g → HoldsJust g trees pairs

-- where the pairs of one session follow from those of another, and its trees are among the other's, up to their names, the other graph
-- knows what the one asserts and has the terms of its classes
abbrev pub SessionsShareTerms : Type 0
SessionsShareTerms =
    (trees others : List DTerm) (pairs other_pairs : List (DTerm × DTerm)) (g h : State) → Session trees pairs g →
    Session others other_pairs h →
    Follow pairs other_pairs → AreAmong trees others → Knows h g × HasTermsOf h g

-- so sessions of the same trees and pairs lead to graphs that agree where no symmetry is open: whatever the order
abbrev pub SessionsAgree : Type 0
SessionsAgree =
    (trees others : List DTerm) (pairs other_pairs : List (DTerm × DTerm)) (g h : State) → Session trees pairs g →
    Session others other_pairs h →
    HasNoOpenSymmetries g → HasNoOpenSymmetries h → Follow pairs other_pairs → Follow other_pairs pairs →
    AreAmong trees others → AreAmong others trees → Agree g h

-- all these laws
pub record CompletenessLaws : Type 0 where
  pub values_move_with_names : ValuesMoveWithNames
  pub equal_trees_have_one_value : EqualTreesHaveOneValue
  pub values_are_looked_up : ValuesAreLookedUp
  pub look_ups_are_values : LookUpsAreValues
  pub one_value_is_one_id : OneValueIsOneId
  pub canonical_terms_have_found_values : CanonicalTermsHaveFoundValues
  pub listed_pairs_have_one_value : ListedPairsHaveOneValue
  pub equal_terms_are_found_alike : EqualTermsAreFoundAlike
  pub equal_fillings_are_found_alike : EqualFillingsAreFoundAlike
  pub derivable_terms_are_found_alike : DerivableTermsAreFoundAlike
  pub finding_alike_is_a_congruence : FindingAlikeIsACongruence
  pub finding_alike_is_equality : FindingAlikeIsEquality
  pub equal_trees_are_looked_up : EqualTreesAreLookedUp
  pub equal_trees_are_looked_up_alike : EqualTreesAreLookedUpAlike
  pub rest_is_closed : RestIsClosed
  pub affected_is_decided : AffectedIsDecided
  pub equal_is_found_at_rest : EqualIsFoundAtRest
  pub derivable_is_found_at_rest : DerivableIsFoundAtRest
  pub found_is_derivable_at_rest : FoundIsDerivableAtRest
  pub congruent_is_found_at_rest : CongruentIsFoundAtRest
  pub looked_up_is_equal_at_rest : LookedUpIsEqualAtRest
  pub equal_is_looked_up_at_rest : EqualIsLookedUpAtRest
  pub terms_are_looked_up_at_rest : TermsAreLookedUpAtRest
  pub looked_up_node_is_equal_at_rest : LookedUpNodeIsEqualAtRest
  pub equal_node_is_looked_up_at_rest : EqualNodeIsLookedUpAtRest
  pub equal_is_represented_at_rest : EqualIsRepresentedAtRest
  pub equal_is_looked_up_alike_at_rest : EqualIsLookedUpAlikeAtRest
  pub graphs_agree_at_rest : GraphsAgreeAtRest
  pub each_id_corresponds : EachIdCorresponds
  pub graphs_agree_but_for_affected : GraphsAgreeButForAffected
  pub graphs_agree_up_to_classes : GraphsAgreeUpToClasses
  pub sessions_hold_just_that : SessionsHoldJustThat
  pub sessions_share_terms : SessionsShareTerms
  pub sessions_agree : SessionsAgree
