-- The laws of correspondences, all owed by `correspondence_laws_hold` in src/correspondence.rt.
use Rattle.std.specs.Prelude.{◌≡◌, ◌↔◌, ℕ, List, ◌++◌, Contains, ◌⊎◌, IsTrue, filter}
use Rattle.std.specs.Map.{keys_of, values_of}
use Rattle.slotted_theory.specs.Renaming.{Bijection}
use Rattle.slotted_theory.specs.FiniteMaps.{with_values}
use Rattle.slotted_model.specs.Correspondence.{AllDifferent, IsFullMap, IsInjectiveOn, composite, turned, identity, same_names, IsPartialInjection, IsMatch, CanJoin, can_join, has_slot, numbered, IsNumberedForm}

-- a partial injection in plain words: its first slots are those of P that it speaks of, in the order of P, and its second slots are different ones of Q
abbrev pub PartialInjectionIsPlain : Type 0
PartialInjectionIsPlain =
    (P Q : List ℕ) (A : List (ℕ × ℕ)) → AllDifferent P →
    IsPartialInjection P Q A ↔
    ((keys_of A ≡ filter (has_slot (keys_of A)) P) × AllDifferent (values_of A) × ((t : ℕ) → Contains (values_of A) t → Contains Q t))

-- a partial injection pairs slots of P with slots of Q
abbrev pub PairsAreOfSlots : Type 0
PairsAreOfSlots = (P Q : List ℕ) (A : List (ℕ × ℕ)) → IsPartialInjection P Q A → (s t : ℕ) → Contains A (s, t) → Contains P s × Contains Q t

-- no slot of P has two partners
abbrev pub SlotsHaveOnePartner : Type 0
SlotsHaveOnePartner =
    (P Q : List ℕ) (A : List (ℕ × ℕ)) → IsPartialInjection P Q A →
    (s t t' : ℕ) → Contains A (s, t) → Contains A (s, t') → t ≡ t'

-- partial injections with the same pairs are the same list
abbrev pub PairsDetermine : Type 0
PairsDetermine =
    (P Q : List ℕ) (A B : List (ℕ × ℕ)) → IsPartialInjection P Q A → IsPartialInjection P Q B →
    ((s t : ℕ) → Contains A (s, t) ↔ Contains B (s, t)) → A ≡ B

-- the inverse is a partial injection the other way, with the pairs turned round
abbrev pub TurnedIsInverse : Type 0
TurnedIsInverse =
    (P Q : List ℕ) (A : List (ℕ × ℕ)) → IsPartialInjection P Q A →
    IsPartialInjection Q P (turned Q A) × ((s t : ℕ) → Contains (turned Q A) (t, s) ↔ Contains A (s, t))

-- the composite is a partial injection, with the pairs that go over a slot in the middle
abbrev pub CompositeGoesOver : Type 0
CompositeGoesOver =
    (P Q R : List ℕ) (A B : List (ℕ × ℕ)) → IsPartialInjection P Q A → IsPartialInjection Q R B →
    IsPartialInjection P R (composite A B) ×
    ((s u : ℕ) → Contains (composite A B) (s, u) ↔ ((t : ℕ) × Contains A (s, t) × Contains B (t, u)))

-- the identity is a partial injection, with the pairs of a slot of P and itself
abbrev pub IdentityStays : Type 0
IdentityStays =
    (P : List ℕ) →
    IsPartialInjection P P (identity P) × ((s t : ℕ) → Contains (identity P) (s, t) ↔ (Contains P s × (s ≡ t)))

-- the inverse of the inverse is the thing itself
abbrev pub TurnedTwice : Type 0
TurnedTwice = (P Q : List ℕ) (A : List (ℕ × ℕ)) → IsPartialInjection P Q A → turned P (turned Q A) ≡ A

-- the inverse of a composite is the composite of the inverses, the other way round
abbrev pub CompositeTurns : Type 0
CompositeTurns =
    (P Q R : List ℕ) (A B : List (ℕ × ℕ)) → IsPartialInjection P Q A → IsPartialInjection Q R B →
    turned R (composite A B) ≡ composite (turned R B) (turned Q A)

-- composites are associative
abbrev pub CompositeAssociates : Type 0
CompositeAssociates =
    (P Q R S : List ℕ) (A B C : List (ℕ × ℕ)) →
    IsPartialInjection P Q A → IsPartialInjection Q R B → IsPartialInjection R S C →
    composite (composite A B) C ≡ composite A (composite B C)

-- the identity is neutral on both sides
abbrev pub IdentityIsNeutral : Type 0
IdentityIsNeutral =
    (P Q : List ℕ) (A : List (ℕ × ℕ)) → IsPartialInjection P Q A →
    (composite (identity P) A ≡ A) × (composite A (identity Q) ≡ A)

-- the correspondence of two full maps is a partial injection: the pairs of slots that carry one name
abbrev pub CorrespondenceIsSharing : Type 0
CorrespondenceIsSharing =
    (P Q : List ℕ) (m n : List (ℕ × ℕ)) → IsFullMap P m → IsFullMap Q n →
    IsPartialInjection P Q (same_names m n) ×
    ((s t : ℕ) → Contains (same_names m n) (s, t) ↔ ((x : ℕ) × Contains m (s, x) × Contains n (t, x)))

-- other names, different where the names were, make another full map
abbrev pub RenamingKeepsFullMaps : Type 0
RenamingKeepsFullMaps =
    (f : ℕ → ℕ) (P : List ℕ) (m : List (ℕ × ℕ)) → IsFullMap P m → IsInjectiveOn f (values_of m) → IsFullMap P (with_values f m)

-- other names, different where the names of either side were, keep the correspondence
abbrev pub RenamingKeepsCorrespondence : Type 0
RenamingKeepsCorrespondence =
    (f : ℕ → ℕ) (P Q : List ℕ) (m n : List (ℕ × ℕ)) → IsFullMap P m → IsFullMap Q n →
    IsInjectiveOn f (values_of m ++ values_of n) → same_names (with_values f m) (with_values f n) ≡ same_names m n

-- the sides of an equation exchanged have the inverse as their correspondence
abbrev pub ExchangedSidesTurn : Type 0
ExchangedSidesTurn =
    (P Q : List ℕ) (m n : List (ℕ × ℕ)) → IsFullMap P m → IsFullMap Q n → same_names n m ≡ turned Q (same_names m n)

-- the two sides of an equation are equal exactly if their correspondence is the identity
abbrev pub EqualSidesAreIdentity : Type 0
EqualSidesAreIdentity =
    (P : List ℕ) (m n : List (ℕ × ℕ)) → IsFullMap P m → IsFullMap P n → (same_names m n ≡ identity P) ↔ (m ≡ n)

-- two pairs of full maps have one correspondence exactly if one bijection of all names takes the one to the other
abbrev pub OneCorrespondenceIsOneBijection : Type 0
OneCorrespondenceIsOneBijection =
    (P Q : List ℕ) (m n m' n' : List (ℕ × ℕ)) → IsFullMap P m → IsFullMap Q n → IsFullMap P m' → IsFullMap Q n' →
    (same_names m n ≡ same_names m' n') ↔ ((π : Bijection) × (m' ≡ with_values π.to m) × (n' ≡ with_values π.to n))

-- two equations match exactly if they have one correspondence
abbrev pub MatchIsOneCorrespondence : Type 0
MatchIsOneCorrespondence =
    (P Q : List ℕ) (m n m' n' : List (ℕ × ℕ)) → IsFullMap P m → IsFullMap Q n → IsFullMap P m' → IsFullMap Q n' →
    IsMatch m n m' n' ↔ (same_names m n ≡ same_names m' n')

-- each partial injection is the correspondence of any full map with some other, whose names without a partner avoid any list
abbrev pub EachCorrespondenceOccurs : Type 0
EachCorrespondenceOccurs =
    (P Q : List ℕ) (m A : List (ℕ × ℕ)) (avoid : List ℕ) → IsFullMap P m → AllDifferent Q → IsPartialInjection P Q A →
    (n : List (ℕ × ℕ)) × IsFullMap Q n × (same_names m n ≡ A) ×
    ((t x : ℕ) → Contains n (t, x) → ((s : ℕ) × Contains A (s, t)) ⊎ (¬ Contains avoid x))

-- names for the middle of a transitive step exist exactly if its halves can be joined
abbrev pub MiddleExists : Type 0
MiddleExists =
    (P Q R : List ℕ) (m n A A1 A2 : List (ℕ × ℕ)) → IsFullMap P m → IsFullMap R n → same_names m n ≡ A →
    AllDifferent Q → IsPartialInjection P Q A1 → IsPartialInjection Q R A2 →
    ((k : List (ℕ × ℕ)) × IsFullMap Q k × (same_names m k ≡ A1) × (same_names k n ≡ A2)) ↔ CanJoin A A1 A2

-- the test of a transitive step answers yes exactly if its halves can be joined
abbrev pub JoiningIsTested : Type 0
JoiningIsTested = (A A1 A2 : List (ℕ × ℕ)) → IsTrue (can_join A A1 A2) ↔ CanJoin A A1 A2

-- two halves can always be joined to their composite
abbrev pub CompositeJoins : Type 0
CompositeJoins = (A1 A2 : List (ℕ × ℕ)) → CanJoin (composite A1 A2) A1 A2

-- maps that agree over live slots can be joined over those, whatever names they share at other slots
abbrev pub AgreeingMapsJoin : Type 0
AgreeingMapsJoin =
    (S P Q : List ℕ) (φ ψ m n : List (ℕ × ℕ)) →
    IsPartialInjection S P φ → IsPartialInjection S Q ψ → IsFullMap P m → IsFullMap Q n →
    composite φ m ≡ composite ψ n → CanJoin (same_names m n) (turned P φ) ψ

-- maps that share names exactly over live slots K agree over those
abbrev pub JoinedMapsAgree : Type 0
JoinedMapsAgree =
    (K P Q : List ℕ) (φ ψ m n : List (ℕ × ℕ)) →
    IsFullMap K φ → IsFullMap K ψ → IsPartialInjection K P φ → IsPartialInjection K Q ψ → IsFullMap P m → IsFullMap Q n →
    same_names m n ≡ composite (turned P φ) ψ → composite φ m ≡ composite ψ n

-- back over live slots and forth again, each of them is paired with itself, and no other slot with any
abbrev pub BackAndForthStays : Type 0
BackAndForthStays =
    (K P : List ℕ) (φ : List (ℕ × ℕ)) → IsPartialInjection K P φ →
    (s t : ℕ) → Contains (composite (turned P φ) φ) (s, t) ↔ (Contains (values_of φ) s × (s ≡ t))

-- one find after another has the correspondence of the composed map
abbrev pub FindsCompose : Type 0
FindsCompose =
    (S T P : List ℕ) (φ μ : List (ℕ × ℕ)) → IsPartialInjection S T φ → IsPartialInjection T P μ →
    composite (turned P μ) (turned T φ) ≡ turned P (composite φ μ)

-- a full map is a partial injection to any list that has its names
abbrev pub FullMapsArePartialInjections : Type 0
FullMapsArePartialInjections =
    (S P : List ℕ) (φ : List (ℕ × ℕ)) → IsFullMap S φ → ((s x : ℕ) → Contains φ (s, x) → Contains P x) → IsPartialInjection S P φ

-- a full map, and then a map that has its names as keys, is a full map again
abbrev pub FullMapsCompose : Type 0
FullMapsCompose =
    (S T P : List ℕ) (φ μ : List (ℕ × ℕ)) → IsFullMap S φ → IsPartialInjection T P μ →
    ((t : ℕ) → Contains (values_of φ) t → Contains (keys_of μ) t) → IsFullMap S (composite φ μ)

-- the numbered maps of a correspondence are in numbered form
abbrev pub NumberedIsForm : Type 0
NumberedIsForm =
    (P Q : List ℕ) (A : List (ℕ × ℕ)) → AllDifferent P → AllDifferent Q → IsPartialInjection P Q A →
    IsNumberedForm P Q A (numbered P Q A).0 (numbered P Q A).1

-- no other maps are in numbered form
abbrev pub NumberedIsOnly : Type 0
NumberedIsOnly = (P Q : List ℕ) (A m n : List (ℕ × ℕ)) → IsNumberedForm P Q A m n → numbered P Q A ≡ (m, n)

-- two equations match exactly if they have one numbered form
abbrev pub MatchIsOneNumberedForm : Type 0
MatchIsOneNumberedForm =
    (P Q : List ℕ) (m n m' n' : List (ℕ × ℕ)) → IsFullMap P m → IsFullMap Q n → IsFullMap P m' → IsFullMap Q n' →
    IsMatch m n m' n' ↔ (numbered P Q (same_names m n) ≡ numbered P Q (same_names m' n'))

-- all these laws
pub record CorrespondenceLaws : Type 0 where
  pub partial_injection_is_plain : PartialInjectionIsPlain
  pub pairs_are_of_slots : PairsAreOfSlots
  pub slots_have_one_partner : SlotsHaveOnePartner
  pub pairs_determine : PairsDetermine
  pub turned_is_inverse : TurnedIsInverse
  pub composite_goes_over : CompositeGoesOver
  pub identity_stays : IdentityStays
  pub turned_twice : TurnedTwice
  pub composite_turns : CompositeTurns
  pub composite_associates : CompositeAssociates
  pub identity_is_neutral : IdentityIsNeutral
  pub correspondence_is_sharing : CorrespondenceIsSharing
  pub renaming_keeps_full_maps : RenamingKeepsFullMaps
  pub renaming_keeps_correspondence : RenamingKeepsCorrespondence
  pub exchanged_sides_turn : ExchangedSidesTurn
  pub equal_sides_are_identity : EqualSidesAreIdentity
  pub one_correspondence_is_one_bijection : OneCorrespondenceIsOneBijection
  pub match_is_one_correspondence : MatchIsOneCorrespondence
  pub each_correspondence_occurs : EachCorrespondenceOccurs
  pub middle_exists : MiddleExists
  pub joining_is_tested : JoiningIsTested
  pub composite_joins : CompositeJoins
  pub agreeing_maps_join : AgreeingMapsJoin
  pub joined_maps_agree : JoinedMapsAgree
  pub back_and_forth_stays : BackAndForthStays
  pub finds_compose : FindsCompose
  pub full_maps_are_partial_injections : FullMapsArePartialInjections
  pub full_maps_compose : FullMapsCompose
  pub numbered_is_form : NumberedIsForm
  pub numbered_is_only : NumberedIsOnly
  pub match_is_one_numbered_form : MatchIsOneNumberedForm
