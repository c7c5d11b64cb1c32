-- The laws of finds, proof lists and links, all owed by `soundness_laws_hold` in src/soundness.rt.
use Rattle.std.specs.Prelude.{◌↔◌, suc, ◌≡◌, ◌≢◌, ℕ, ◌<◌, List, [], ◌∷◌, ◌++◌, length, map, Contains}
use Rattle.std.specs.List.{cons_option}
use Rattle.std.specs.Map.{keys_of}
use Rattle.slotted_theory.specs.Term.{Term}
use Rattle.slotted_theory.specs.Nameless.{DTerm, nameless, moved}
use Rattle.slotted_theory.specs.Shape.{shape}
use Rattle.slotted_theory.specs.Derives.{Derives, Equal, nameless_pair}
use Rattle.slotted_model.specs.Applied.{Applied, keys, values, renamed_id, IsNode, EachChild}
use Rattle.slotted_model.specs.Classes.{canonical_node, term_of, IsFull, Canonical}
use Rattle.slotted_model.specs.Correspondence.{composite, identity, same_names}
use Rattle.slotted_model.specs.Filling.{IsValid, IsFilling, FillsNode}
use Rattle.slotted_model.specs.Find.{Entry, entry_at, IsLive, find_class, find_map, used_slots, find, Linked}
use Rattle.slotted_model.specs.ProofList.{Equation, ProofEntry, explicit, reflexive, equation_of, turned_equation, IsOver, HoldsFrom, IsReflexive, IsSymmetric, IsTransitive, IsCongruent, equation_at, step_at, Proved, left_side, right_side, term_pair, if_explicit, asserted, entry_equation, find_equation, node_of}
use Rattle.slotted_model.specs.Leaves.{IsLeaf, HasLeaves}
use Rattle.slotted_model.specs.Normal.{normal, IsFound, IsCongruentByFinds, HasNormalTwin, HasOneNumber}
use Rattle.slotted_model.specs.Link.{CanEnter, found_equation, half_found_equation, CanLink, IsLater, with_link, CanDrop, with_slots, kept_equation, with_shortcut, reflexive_equation, with_new_entry, Refines}
use Rattle.slotted_model.specs.Explained.{Explained}
use Rattle.slotted_model.specs.Sound.{Sound, United}
use Rattle.slotted_model.specs.Growth.{Extends}

-- a live class is found, with its own slots
abbrev pub LiveClassesAreFound : Type 0
LiveClassesAreFound =
    (nodes : List DTerm) (found : List Entry) → Linked nodes found → (i : ℕ) → i < length nodes → IsLive found i →
    (find_class found i ≡ i) × (find_map found i ≡ (entry_at found i).pairs)

-- the find of any class goes on as that of the class that its entry leads to
abbrev pub FindsFollowEntries : Type 0
FindsFollowEntries =
    (nodes : List DTerm) (found : List Entry) → Linked nodes found → (i : ℕ) → i < length nodes →
    (find_class found i ≡ find_class found (entry_at found i).class)
    × (find_map found i ≡ composite (find_map found (entry_at found i).class) (entry_at found i).pairs)

-- the find of a valid id is a live class with a name for each of its slots and no other
abbrev pub FindsAreLive : Type 0
FindsAreLive =
    (nodes : List DTerm) (found : List Entry) → Linked nodes found → (a : Applied) → IsValid (used_slots found) nodes a →
    IsLive found (find found a).0 × (keys (find found a).1 ≡ used_slots found (find found a).0) ×
    IsValid (used_slots found) nodes (find found a)

-- what is found is found as it is
abbrev pub FoundIsFoundAgain : Type 0
FoundIsFoundAgain = (nodes : List DTerm) (found : List Entry) → Linked nodes found → (a : Applied) →
    IsValid (used_slots found) nodes a → find found (find found a) ≡ find found a

-- other names of an id are the same other names of what it finds
abbrev pub FindsMoveWithNames : Type 0
FindsMoveWithNames = (found : List Entry) (f : ℕ → ℕ) (a : Applied) → find found (renamed_id f a) ≡ renamed_id f (find found a)

-- only the names at the slots that are used matter
abbrev pub FindsNeedUsedSlots : Type 0
FindsNeedUsedSlots =
    (nodes : List DTerm) (found : List Entry) → Linked nodes found → (a b : Applied) → IsValid (used_slots found) nodes a →
    IsValid (used_slots found) nodes b →
    a.0 ≡ b.0 → ((s x : ℕ) → Contains (used_slots found a.0) s → Contains a.1 (s, x) → Contains b.1 (s, x)) → find found a ≡ find found b

-- an id finds no names that it has not
abbrev pub FindsHaveOldNames : Type 0
FindsHaveOldNames = (found : List Entry) (a : Applied) (x : ℕ) → Contains (values (find found a).1) x → Contains (values a.1) x

-- full ids are valid
abbrev pub FullIdsAreValid : Type 0
FullIdsAreValid = (nodes : List DTerm) (found : List Entry) → Linked nodes found → (a : Applied) → IsFull nodes a →
    IsValid (used_slots found) nodes a

-- an id and its fillings find alike
abbrev pub FillingsFindAlike : Type 0
FillingsFindAlike =
    (nodes : List DTerm) (found : List Entry) → Linked nodes found → (given : List ℕ) (a b : Applied) →
    IsValid (used_slots found) nodes a → IsFilling nodes given a b → find found a ≡ find found b

-- two ids that lack names, each filled by names that the other has not, have the equation that they had
abbrev pub FillingsKeepEquations : Type 0
FillingsKeepEquations =
    (nodes : List DTerm) (slots : ℕ → List ℕ) (a b left right : Applied) → IsValid slots nodes a → IsValid slots nodes b →
    IsFilling nodes (values b.1) a left → IsFilling nodes (values left.1) b right → equation_of left right ≡ equation_of a b

-- the children of a node can be filled, by names other than those given; then they are full, and the node has the normal form that it had
abbrev pub FilledNodesAreThere : Type 0
FilledNodesAreThere =
    (nodes : List DTerm) (slots : ℕ → List ℕ) (given : List ℕ) (d : DTerm) → EachChild (IsValid slots nodes) d.args →
    (e : DTerm) × FillsNode nodes given d e

abbrev pub FilledNodesAreFull : Type 0
FilledNodesAreFull = (nodes : List DTerm) (given : List ℕ) (d e : DTerm) → FillsNode nodes given d e → EachChild (IsFull nodes) e.args

abbrev pub FilledNodesHaveOneNormalForm : Type 0
FilledNodesHaveOneNormalForm =
    (nodes : List DTerm) (found : List Entry) → Linked nodes found → (given : List ℕ) (d e : DTerm) →
    EachChild (IsValid (used_slots found) nodes) d.args → FillsNode nodes given d e → normal found e ≡ normal found d

-- an equation holds if the terms of one pair of full ids with this equation are equal
abbrev pub OnePairIsEnough : Type 0
OnePairIsEnough =
    (E : List (DTerm × DTerm)) (nodes : List DTerm) → Canonical nodes → (e : Equation) (a b : Applied) → IsFull nodes a → IsFull nodes b →
    equation_of a b ≡ e → Equal E (term_of nodes a) (term_of nodes b) → HoldsFrom E nodes e

-- the two sides of an equation are full ids with this equation
abbrev pub SidesHaveTheEquation : Type 0
SidesHaveTheEquation =
    (nodes : List DTerm) (e : Equation) → IsOver nodes e →
    IsFull nodes (left_side nodes e) × IsFull nodes (right_side nodes e) × (equation_of (left_side nodes e) (right_side nodes e) ≡ e)

-- a reflexive step is sound
abbrev pub ReflexiveIsSound : Type 0
ReflexiveIsSound = (E : List (DTerm × DTerm)) (nodes : List DTerm) (e : Equation) → IsReflexive nodes e → HoldsFrom E nodes e

-- a symmetric step is sound
abbrev pub SymmetricIsSound : Type 0
SymmetricIsSound = (E : List (DTerm × DTerm)) (nodes : List DTerm) (e part : Equation) → IsSymmetric nodes e part →
    HoldsFrom E nodes part → HoldsFrom E nodes e

-- a transitive step is sound
abbrev pub TransitiveIsSound : Type 0
TransitiveIsSound =
    (E : List (DTerm × DTerm)) (nodes : List DTerm) (e first second : Equation) → IsOver nodes first → IsOver nodes second →
    IsTransitive e first second → HoldsFrom E nodes first → HoldsFrom E nodes second → HoldsFrom E nodes e

-- a congruent step is sound
abbrev pub CongruentIsSound : Type 0
CongruentIsSound =
    (E : List (DTerm × DTerm)) (nodes : List DTerm) → Canonical nodes → (e : Equation) (parts : List Equation) →
    IsCongruent nodes e parts → ((q : Equation) → Contains parts q → HoldsFrom E nodes q) → HoldsFrom E nodes e

-- if the explicit entries hold, all entries hold
abbrev pub StepsAreSound : Type 0
StepsAreSound =
    (E : List (DTerm × DTerm)) (nodes : List DTerm) → Canonical nodes → (proofs : List ProofEntry) → Proved nodes proofs →
    ((p : ℕ) → p < length proofs → step_at proofs p ≡ explicit → HoldsFrom E nodes (equation_at proofs p)) →
    (p : ℕ) → p < length proofs → HoldsFrom E nodes (equation_at proofs p)

-- an entry follows from its explicit leaves alone: it holds from each list that has their pairs
abbrev pub LeavesAreEnough : Type 0
LeavesAreEnough =
    (E : List (DTerm × DTerm)) (nodes : List DTerm) → Canonical nodes → (proofs : List ProofEntry) → Proved nodes proofs →
    (p : ℕ) → p < length proofs → HasLeaves E nodes proofs p → HoldsFrom E nodes (equation_at proofs p)

-- leaves are asserted
abbrev pub LeavesAreAsserted : Type 0
LeavesAreAsserted = (nodes : List DTerm) (proofs : List ProofEntry) (p : ℕ) → HasLeaves (asserted nodes proofs) nodes proofs p

-- an entry has finitely many leaves: some list has just these
abbrev pub LeavesAreListed : Type 0
LeavesAreListed =
    (nodes : List DTerm) (proofs : List ProofEntry) → Proved nodes proofs → (p : ℕ) → p < length proofs →
    (leaves : List ℕ) × ((q : ℕ) → Contains leaves q ↔ IsLeaf proofs p q)

-- and they stay as the list grows
abbrev pub LeavesStay : Type 0
LeavesStay =
    (nodes : List DTerm) (proofs : List ProofEntry) → Proved nodes proofs → (more : List ProofEntry) (p q : ℕ) → p < length proofs →
    IsLeaf proofs p q ↔ IsLeaf (proofs ++ more) p q

-- all entries hold from the asserted list
abbrev pub EntriesHold : Type 0
EntriesHold =
    (nodes : List DTerm) → Canonical nodes → (proofs : List ProofEntry) → Proved nodes proofs →
    (p : ℕ) → p < length proofs → HoldsFrom (asserted nodes proofs) nodes (equation_at proofs p)

-- what the find of a live class says is what its entry says
abbrev pub LiveFindsAreEntries : Type 0
LiveFindsAreEntries =
    (nodes : List DTerm) (found : List Entry) → Linked nodes found → (i : ℕ) → i < length nodes → IsLive found i →
    find_equation nodes found i ≡ entry_equation nodes found i

-- what the find of any class says follows from its entry and the next find by one transitive step, which shares no more names than it must
abbrev pub FindsAreProvedAlong : Type 0
FindsAreProvedAlong =
    (nodes : List DTerm) (found : List Entry) → Linked nodes found → (i : ℕ) → i < length nodes →
    IsTransitive (find_equation nodes found i) (entry_equation nodes found i) (find_equation nodes found (entry_at found i).class)
    × ((find_equation nodes found i).pairs ≡ composite (entry_equation nodes found i).pairs (find_equation nodes found (entry_at found i).class).pairs)

-- two full ids that find alike are joined by one transitive step over their finds
abbrev pub FoundAlikeAreJoined : Type 0
FoundAlikeAreJoined =
    (nodes : List DTerm) (found : List Entry) → Linked nodes found → (a b : Applied) → IsFull nodes a → IsFull nodes b →
    find found a ≡ find found b →
    IsTransitive (equation_of a b) (find_equation nodes found a.0) (turned_equation nodes (find_equation nodes found b.0))

-- valid ids that find alike stand for terms that are equal by the asserted list, whatever names fill them
abbrev pub FoundAlikeAreEqual : Type 0
FoundAlikeAreEqual =
    (nodes : List DTerm) (found : List Entry) (proofs : List ProofEntry) → Sound nodes found proofs →
    (a b left right : Applied) (given more_given : List ℕ) → IsValid (used_slots found) nodes a →
    IsValid (used_slots found) nodes b → find found a ≡ find found b →
    IsFilling nodes given a left → IsFilling nodes more_given b right →
    Equal (asserted nodes proofs) (term_of nodes left) (term_of nodes right)

-- the same of terms with names: they are derivable from the asserted equations
abbrev pub FoundAlikeAreDerivable : Type 0
FoundAlikeAreDerivable =
    (nodes : List DTerm) (found : List Entry) (proofs : List ProofEntry) → Sound nodes found proofs →
    (a b left right : Applied) (given more_given : List ℕ) → IsValid (used_slots found) nodes a →
    IsValid (used_slots found) nodes b → find found a ≡ find found b →
    IsFilling nodes given a left → IsFilling nodes more_given b right →
    (E : List (Term × Term)) (t u : Term) → map nameless_pair E ≡ asserted nodes proofs → nameless t ≡ term_of nodes left →
    nameless u ≡ term_of nodes right → Derives E t u

-- where nothing is asserted valid ids lack no name, and ids find alike exactly where they stand for one term
abbrev pub NothingAssertedIsAlpha : Type 0
NothingAssertedIsAlpha =
    (nodes : List DTerm) (found : List Entry) (proofs : List ProofEntry) → Sound nodes found proofs → asserted nodes proofs ≡ [] →
    ((a : Applied) → IsValid (used_slots found) nodes a → IsFull nodes a)
    × ((a b : Applied) → IsFull nodes a → IsFull nodes b → (find found a ≡ find found b) ↔ (term_of nodes a ≡ term_of nodes b))

-- the equation of two full ids that find alike can be entered, by steps that assert nothing: each yes is explained
abbrev pub FoundAlikeAreExplained : Type 0
FoundAlikeAreExplained =
    (nodes : List DTerm) (found : List Entry) (proofs : List ProofEntry) → Sound nodes found proofs →
    (a b : Applied) → IsFull nodes a → IsFull nodes b → find found a ≡ find found b → Explained nodes proofs (equation_of a b)

-- so can what the find of a class says
abbrev pub FindEquationsAreExplained : Type 0
FindEquationsAreExplained =
    (nodes : List DTerm) (found : List Entry) (proofs : List ProofEntry) → Sound nodes found proofs →
    (i : ℕ) → i < length nodes → Explained nodes proofs (find_equation nodes found i)

-- and what an entry says of the found classes
abbrev pub FoundEquationsAreExplained : Type 0
FoundEquationsAreExplained =
    (nodes : List DTerm) (found : List Entry) (proofs : List ProofEntry) → Sound nodes found proofs →
    (p : ℕ) → p < length proofs → Explained nodes proofs (found_equation nodes found (equation_at proofs p))

-- and an equation that is congruent by finds
abbrev pub CongruentByFindsIsExplained : Type 0
CongruentByFindsIsExplained =
    (nodes : List DTerm) (found : List Entry) (proofs : List ProofEntry) → Sound nodes found proofs →
    (e : Equation) → IsCongruentByFinds nodes found e → Explained nodes proofs e

-- the empty graph is sound
abbrev pub NothingIsSound : Type 0
NothingIsSound = Sound [] [] []

-- a new class, which equals itself by a reflexive entry, keeps storage sound
abbrev pub NewClassesKeepSound : Type 0
NewClassesKeepSound =
    (older newer : List DTerm) (found : List Entry) (proofs : List ProofEntry) → Sound older found proofs →
    Canonical newer → Extends older newer → length newer ≡ suc (length older) →
    Sound newer (with_new_entry newer found (length proofs)) (proofs ++ record { equation = reflexive_equation newer (length older); step = reflexive } ∷ [])

-- it asserts nothing
abbrev pub NewClassesAssertNothing : Type 0
NewClassesAssertNothing =
    (older newer : List DTerm) (found : List Entry) (proofs : List ProofEntry) → Sound older found proofs →
    Canonical newer → Extends older newer → length newer ≡ suc (length older) →
    asserted newer (proofs ++ record { equation = reflexive_equation newer (length older); step = reflexive } ∷ []) ≡ asserted older proofs

-- ids that were valid stay valid and find what they found
abbrev pub NewClassesKeepFinds : Type 0
NewClassesKeepFinds =
    (older newer : List DTerm) (found : List Entry) → Linked older found → Extends older newer → length newer ≡ suc (length older) →
    (proof : ℕ) (a : Applied) → IsValid (used_slots found) older a →
    IsValid (used_slots (with_new_entry newer found proof)) newer a × (find (with_new_entry newer found proof) a ≡ find found a)

-- a new entry of the proof list keeps storage sound
abbrev pub NewEntriesKeepSound : Type 0
NewEntriesKeepSound =
    (nodes : List DTerm) (found : List Entry) (proofs : List ProofEntry) (entry : ProofEntry) → Sound nodes found proofs →
    CanEnter nodes proofs entry →
    Sound nodes found (proofs ++ entry ∷ [])

-- it leaves the earlier equations, and its number is the length of the list before it
abbrev pub NewEntriesStandLast : Type 0
NewEntriesStandLast =
    (proofs : List ProofEntry) (entry : ProofEntry) →
    (equation_at (proofs ++ entry ∷ []) (length proofs) ≡ entry.equation)
    × ((p : ℕ) → p < length proofs → equation_at (proofs ++ entry ∷ []) p ≡ equation_at proofs p)

-- the asserted list grows at its end by the terms of an explicit entry, and by no other entry
abbrev pub ExplicitEntriesAreAsserted : Type 0
ExplicitEntriesAreAsserted =
    (nodes : List DTerm) (proofs : List ProofEntry) (entry : ProofEntry) →
    asserted nodes (proofs ++ entry ∷ []) ≡ asserted nodes proofs ++ cons_option (if_explicit entry.step (term_pair nodes entry.equation)) []

-- what an equation says of the found classes follows by two transitive steps
abbrev pub FoundEquationsAreProved : Type 0
FoundEquationsAreProved =
    (nodes : List DTerm) (found : List Entry) → Linked nodes found → (e : Equation) → IsOver nodes e →
    IsOver nodes (half_found_equation nodes found e) × IsOver nodes (found_equation nodes found e)
    × IsTransitive (half_found_equation nodes found e) (turned_equation nodes (find_equation nodes found e.left)) e
    × IsTransitive (found_equation nodes found e) (half_found_equation nodes found e) (find_equation nodes found e.right)

-- it pairs the slots of the found ids that carry one name
abbrev pub FoundEquationsShareNames : Type 0
FoundEquationsShareNames =
    (nodes : List DTerm) (found : List Entry) → Linked nodes found → (a b : Applied) → IsFull nodes a → IsFull nodes b →
    equation_of (find found a) (find found b) ≡ found_equation nodes found (equation_of a b)

-- found ids of different classes can be linked where the right one has only names of the left one, as where both have the same names
abbrev pub FoundSidesCanLink : Type 0
FoundSidesCanLink =
    (nodes : List DTerm) (found : List Entry) → Linked nodes found → (a b : Applied) → IsFull nodes a → IsFull nodes b →
    find_class found a.0 ≢ find_class found b.0 → ((x : ℕ) → Contains (values (find found b).1) x → Contains (values (find found a).1) x) →
    CanLink nodes found (found_equation nodes found (equation_of a b))

-- a link by an equation that stands at the number of its proof keeps storage sound
abbrev pub LinksKeepSound : Type 0
LinksKeepSound =
    (nodes : List DTerm) (found : List Entry) (proofs : List ProofEntry) (e : Equation) (proof moment : ℕ) → Sound nodes found proofs →
    CanLink nodes found e → IsLater found moment → proof < length proofs → equation_at proofs proof ≡ e →
    Sound nodes (with_link nodes found e proof moment) proofs

-- finds go on from what they found before the link
abbrev pub LinksRefine : Type 0
LinksRefine =
    (nodes : List DTerm) (found : List Entry) → Linked nodes found → (e : Equation) (proof moment : ℕ) → CanLink nodes found e →
    IsLater found moment →
    Refines nodes found (with_link nodes found e proof moment)

-- the sides of an equation find alike once their found classes are linked by it
abbrev pub LinkedSidesFindAlike : Type 0
LinkedSidesFindAlike =
    (nodes : List DTerm) (found : List Entry) → Linked nodes found → (a b : Applied) → IsFull nodes a → IsFull nodes b →
    (proof moment : ℕ) → CanLink nodes found (found_equation nodes found (equation_of a b)) → IsLater found moment →
    find (with_link nodes found (found_equation nodes found (equation_of a b)) proof moment) a ≡ find (with_link nodes found (found_equation nodes found (equation_of a b)) proof moment) b

-- two ids that find different classes with the same names are united by one new entry and one link: nothing that was found alike is lost
abbrev pub UnionsUnite : Type 0
UnionsUnite =
    (nodes : List DTerm) (found : List Entry) (proofs : List ProofEntry) (entry : ProofEntry) (moment : ℕ) (a b : Applied) →
    Sound nodes found proofs → IsFull nodes a → IsFull nodes b →
    find_class found a.0 ≢ find_class found b.0 → ((x : ℕ) → Contains (values (find found a).1) x ↔ Contains (values (find found b).1) x) →
    entry.equation ≡ found_equation nodes found (equation_of a b) → CanEnter nodes proofs entry → IsLater found moment →
    United nodes found proofs entry moment a b

-- what an equation says of its left class alone follows from it by one transitive step, there and back
abbrev pub KeptEquationsAreProved : Type 0
KeptEquationsAreProved =
    (nodes : List DTerm) (e : Equation) → IsOver nodes e →
    IsOver nodes (kept_equation e) × IsTransitive (kept_equation e) e (turned_equation nodes e)

-- if the left class lives, it can keep those of its slots alone that have a partner
abbrev pub SlotsWithoutPartnerCanDrop : Type 0
SlotsWithoutPartnerCanDrop =
    (nodes : List DTerm) (found : List Entry) (e : Equation) → IsOver nodes e → IsLive found e.left →
    ((s : ℕ) → Contains (keys_of e.pairs) s → Contains (used_slots found e.left) s) → CanDrop nodes found e.left (keys_of e.pairs)

-- slots dropped by an equation that stands at the number of its proof keep storage sound
abbrev pub DropsKeepSound : Type 0
DropsKeepSound =
    (nodes : List DTerm) (found : List Entry) (proofs : List ProofEntry) (c : ℕ) (slots : List ℕ) (proof : ℕ) → Sound nodes found proofs →
    CanDrop nodes found c slots → proof < length proofs →
    equation_at proofs proof ≡ record { left = c; right = c; pairs = identity slots } →
    Sound nodes (with_slots found c slots proof) proofs

-- the class lives on with just these slots
abbrev pub DropsKeepTheseSlots : Type 0
DropsKeepTheseSlots =
    (nodes : List DTerm) (found : List Entry) → Linked nodes found → (c : ℕ) (slots : List ℕ) (proof : ℕ) → CanDrop nodes found c slots →
    IsLive (with_slots found c slots proof) c × (used_slots (with_slots found c slots proof) c ≡ slots)

-- finds go on from what they found before the drop
abbrev pub DropsRefine : Type 0
DropsRefine =
    (nodes : List DTerm) (found : List Entry) → Linked nodes found → (c : ℕ) (slots : List ℕ) (proof : ℕ) → CanDrop nodes found c slots →
    Refines nodes found (with_slots found c slots proof)

-- a shortcut by an equation that stands at the number of its proof keeps storage sound
abbrev pub ShortcutsKeepSound : Type 0
ShortcutsKeepSound =
    (nodes : List DTerm) (found : List Entry) (proofs : List ProofEntry) (i proof : ℕ) → Sound nodes found proofs →
    i < length nodes → ¬ IsLive found i → proof < length proofs → equation_at proofs proof ≡ find_equation nodes found i →
    Sound nodes (with_shortcut found i proof) proofs

-- and changes no find
abbrev pub ShortcutsKeepFinds : Type 0
ShortcutsKeepFinds =
    (nodes : List DTerm) (found : List Entry) → Linked nodes found → (i proof : ℕ) → i < length nodes → ¬ IsLive found i →
    (a : Applied) → a.0 < length nodes → find (with_shortcut found i proof) a ≡ find found a

-- after a link the next moment is later than each death
abbrev pub LinksMoveMoments : Type 0
LinksMoveMoments =
    (nodes : List DTerm) (found : List Entry) → Linked nodes found → (e : Equation) (proof moment : ℕ) → CanLink nodes found e →
    IsLater found moment →
    IsLater (with_link nodes found e proof moment) (suc moment)

-- no other event moves a moment that is later than each death
abbrev pub OtherEventsKeepMoments : Type 0
OtherEventsKeepMoments =
    (nodes : List DTerm) (found : List Entry) (moment proof : ℕ) → Linked nodes found → IsLater found moment →
    ((newer : List DTerm) → Extends nodes newer → length newer ≡ suc (length nodes) → IsLater (with_new_entry newer found proof) moment)
    × ((c : ℕ) (slots : List ℕ) → CanDrop nodes found c slots → IsLater (with_slots found c slots proof) moment)
    × ((i : ℕ) → i < length nodes → ¬ IsLive found i → IsLater (with_shortcut found i proof) moment)

-- what was found alike is found alike where the find goes on
abbrev pub RefinedStaysAlike : Type 0
RefinedStaysAlike =
    (nodes : List DTerm) (older newer : List Entry) → Refines nodes older newer → (a b : Applied) →
    IsValid (used_slots older) nodes a → IsValid (used_slots older) nodes b → find older a ≡ find older b → find newer a ≡ find newer b

-- a find that goes on from one that goes on from a third goes on from that
abbrev pub RefinementsCompose : Type 0
RefinementsCompose =
    (nodes : List DTerm) (first second third : List Entry) → Linked nodes first → Refines nodes first second →
    Refines nodes second third → Refines nodes first third

-- normal forms move with names
abbrev pub NormalFormsMoveWithNames : Type 0
NormalFormsMoveWithNames = (found : List Entry) (f : ℕ → ℕ) (d : DTerm) → IsNode d → normal found (moved f d) ≡ moved f (normal found d)

-- the children of a normal form are live classes with names for just their slots
abbrev pub NormalFormsAreFound : Type 0
NormalFormsAreFound =
    (nodes : List DTerm) (found : List Entry) → Linked nodes found → (d : DTerm) → EachChild (IsValid (used_slots found) nodes) d.args →
    EachChild (IsFound found) (normal found d).args

-- where the find goes on, so do normal forms
abbrev pub NormalFormsAreRefined : Type 0
NormalFormsAreRefined =
    (nodes : List DTerm) (older newer : List Entry) → Refines nodes older newer → (d : DTerm) →
    EachChild (IsValid (used_slots older) nodes) d.args →
    normal newer d ≡ normal newer (normal older d)

-- full ids whose nodes have one normal form are equal by a congruent step over children that find alike
abbrev pub OneNormalFormIsCongruent : Type 0
OneNormalFormIsCongruent =
    (nodes : List DTerm) → Canonical nodes → (found : List Entry) (a b : Applied) → IsFull nodes a → IsFull nodes b →
    normal found (node_of nodes a) ≡ normal found (node_of nodes b) → IsCongruentByFinds nodes found (equation_of a b)

-- twins share a name at two slots exactly if these have one number in the shape of the normal form
abbrev pub TwinsPairByNumbers : Type 0
TwinsPairByNumbers =
    (nodes : List DTerm) (found : List Entry) (a b : Applied) → IsFull nodes a → HasNormalTwin nodes found a b →
    (s t : ℕ) → Contains (same_names a.1 b.1) (s, t) ↔ HasOneNumber found nodes a.0 b.0 s t

-- ids with the equation of twins are twins
abbrev pub TwinsMoveTogether : Type 0
TwinsMoveTogether =
    (nodes : List DTerm) (found : List Entry) (a b c d : Applied) → IsFull nodes a → HasNormalTwin nodes found a b →
    IsFull nodes c → IsFull nodes d →
    equation_of c d ≡ equation_of a b → HasNormalTwin nodes found c d

-- where the normal forms of two canonical nodes have one shape, each full id of the one class has a twin of the other
abbrev pub EqualShapesHaveTwins : Type 0
EqualShapesHaveTwins =
    (nodes : List DTerm) → Canonical nodes → (found : List Entry) (a : Applied) → IsFull nodes a → (j : ℕ) → j < length nodes →
    shape (normal found (canonical_node nodes a.0)) ≡ shape (normal found (canonical_node nodes j)) →
    (b : Applied) × (b.0 ≡ j) × HasNormalTwin nodes found a b

-- an equation that is congruent by finds holds from the asserted list
abbrev pub CongruentByFindsHolds : Type 0
CongruentByFindsHolds =
    (nodes : List DTerm) (found : List Entry) (proofs : List ProofEntry) → Sound nodes found proofs →
    (e : Equation) → IsCongruentByFinds nodes found e → HoldsFrom (asserted nodes proofs) nodes e

-- all these laws
pub record SoundnessLaws : Type 0 where
  pub live_classes_are_found : LiveClassesAreFound
  pub finds_follow_entries : FindsFollowEntries
  pub finds_are_live : FindsAreLive
  pub found_is_found_again : FoundIsFoundAgain
  pub finds_move_with_names : FindsMoveWithNames
  pub finds_need_used_slots : FindsNeedUsedSlots
  pub finds_have_old_names : FindsHaveOldNames
  pub full_ids_are_valid : FullIdsAreValid
  pub fillings_find_alike : FillingsFindAlike
  pub fillings_keep_equations : FillingsKeepEquations
  pub filled_nodes_are_there : FilledNodesAreThere
  pub filled_nodes_are_full : FilledNodesAreFull
  pub filled_nodes_have_one_normal_form : FilledNodesHaveOneNormalForm
  pub one_pair_is_enough : OnePairIsEnough
  pub sides_have_the_equation : SidesHaveTheEquation
  pub reflexive_is_sound : ReflexiveIsSound
  pub symmetric_is_sound : SymmetricIsSound
  pub transitive_is_sound : TransitiveIsSound
  pub congruent_is_sound : CongruentIsSound
  pub steps_are_sound : StepsAreSound
  pub leaves_are_enough : LeavesAreEnough
  pub leaves_are_asserted : LeavesAreAsserted
  pub leaves_are_listed : LeavesAreListed
  pub leaves_stay : LeavesStay
  pub entries_hold : EntriesHold
  pub live_finds_are_entries : LiveFindsAreEntries
  pub finds_are_proved_along : FindsAreProvedAlong
  pub found_alike_are_joined : FoundAlikeAreJoined
  pub found_alike_are_equal : FoundAlikeAreEqual
  pub found_alike_are_derivable : FoundAlikeAreDerivable
  pub nothing_asserted_is_alpha : NothingAssertedIsAlpha
  pub found_alike_are_explained : FoundAlikeAreExplained
  pub find_equations_are_explained : FindEquationsAreExplained
  pub found_equations_are_explained : FoundEquationsAreExplained
  pub congruent_by_finds_is_explained : CongruentByFindsIsExplained
  pub nothing_is_sound : NothingIsSound
  pub new_classes_keep_sound : NewClassesKeepSound
  pub new_classes_assert_nothing : NewClassesAssertNothing
  pub new_classes_keep_finds : NewClassesKeepFinds
  pub new_entries_keep_sound : NewEntriesKeepSound
  pub new_entries_stand_last : NewEntriesStandLast
  pub explicit_entries_are_asserted : ExplicitEntriesAreAsserted
  pub found_equations_are_proved : FoundEquationsAreProved
  pub found_equations_share_names : FoundEquationsShareNames
  pub found_sides_can_link : FoundSidesCanLink
  pub links_keep_sound : LinksKeepSound
  pub links_refine : LinksRefine
  pub linked_sides_find_alike : LinkedSidesFindAlike
  pub unions_unite : UnionsUnite
  pub kept_equations_are_proved : KeptEquationsAreProved
  pub slots_without_partner_can_drop : SlotsWithoutPartnerCanDrop
  pub drops_keep_sound : DropsKeepSound
  pub drops_keep_these_slots : DropsKeepTheseSlots
  pub drops_refine : DropsRefine
  pub shortcuts_keep_sound : ShortcutsKeepSound
  pub shortcuts_keep_finds : ShortcutsKeepFinds
  pub links_move_moments : LinksMoveMoments
  pub other_events_keep_moments : OtherEventsKeepMoments
  pub refined_stays_alike : RefinedStaysAlike
  pub refinements_compose : RefinementsCompose
  pub normal_forms_move_with_names : NormalFormsMoveWithNames
  pub normal_forms_are_found : NormalFormsAreFound
  pub normal_forms_are_refined : NormalFormsAreRefined
  pub one_normal_form_is_congruent : OneNormalFormIsCongruent
  pub twins_pair_by_numbers : TwinsPairByNumbers
  pub twins_move_together : TwinsMoveTogether
  pub equal_shapes_have_twins : EqualShapesHaveTwins
  pub congruent_by_finds_holds : CongruentByFindsHolds
