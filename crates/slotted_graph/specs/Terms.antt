-- Terms that are made of entries, one for each class that has a cost: a key, and the slot of the class for each number of the key.
--     entry_at es c          the entry of a class, if it has one
--     IsOrdered form es      each entry is over entries of lower rank, and each table knows the names of its key
--     IsNamedBy m key a f    f is the key with the names of the id a for the numbers that m has, and with others for the rest
--     IsMade form es a t     t is made for the id a: the node of the entry of a's class, over what is made for its children
--     AreMade form es as ts  the same of ids and terms in turn
--     sum_for form w es c    the weights of the entries that a term of the class c is made of
--     slots_for form es c    fresh slots that are enough for it: two for each place of its nodes, those of its ids among them
--     RunsOutWith form es n t u   fewer than n fresh slots were left, or the key of an entry has too many places to be numbered
--     IsFreshTerm t vs u     each name of the term is one of vs or was unknown to the table t, and so was each binder
use Rattle.std.specs.Prelude.{◌≡◌, ◌⊎◌, ◌+◌, ◌*◌, ℕ, zero, suc, List, [], ◌∷◌, Bool, IsTrue, Option, None, Some, Contains, false, length, ltb, slice_index_or, true}
use Rattle.std.specs.List.{sum_by}
use Rattle.slotted_theory.specs.Term.{Args, Term, bind, child, done, name}
use Rattle.slotted_slots.specs.Maps.{is_among}
use Rattle.slotted_slots.specs.Table.{Table, is_known}
use Rattle.slotted_nodes.specs.Form.{Form}
use Rattle.slotted_languages.specs.Filled.{term_of}
use Rattle.slotted_languages.specs.Fresh.{IsRenamedFresh}
use Rattle.slotted_languages.specs.NewNames.{IsTooLarge}
use Rattle.slotted_languages.specs.Shape.{Fits}
use Rattle.slotted_model.specs.Applied.{Applied, values}
use Rattle.slotted_model.specs.Correspondence.{composite}
use Rattle.slotted_classes.specs.ChildIds.{child_ids}
use Rattle.slotted_hashcons.specs.FiledRows.{key_children}
use Rattle.slotted_lookup.specs.Enodes.{AllKnownTo}
use Rattle.slotted_lookup.specs.Filling.{RunsOut}
use Rattle.slotted_graph.specs.declared.entry.TermEntry.{TermEntry}

abbrev pub entry_at : {L C : Type 0} → List (Option (TermEntry L C)) → ℕ → Option (TermEntry L C)
entry_at es c = slice_index_or es c None

-- the entry has a rank below n
abbrev pub is_below : {L C : Type 0} → ℕ → Option (TermEntry L C) → Bool
is_below n None = false
is_below n (Some e) = ltb e.rank n

abbrev pub IsOrderedEntry : {L C : Type 0} → (L → Form) → List (Option (TermEntry L C)) → TermEntry L C → Type 0
IsOrderedEntry form es e =
    ((t : Table) → AllKnownTo t (form e.node).names) × Fits (form e.node) ×
    ((c : ℕ) → Contains (key_children (form e.node)) c → IsTrue (is_below e.rank (entry_at es c)))

abbrev pub IsOrdered : {L C : Type 0} → (L → Form) → List (Option (TermEntry L C)) → Type 0
IsOrdered {L} {C} form es = (c : ℕ) (e : TermEntry L C) → entry_at es c ≡ Some e → IsOrderedEntry form es e

-- the other names are of no slot of the id
pub record IsNamedBy (m : List (ℕ × ℕ)) (key : Form) (a : Applied) (f : Form) : Type 0 where
  pub table : Table
  pub known : AllKnownTo table (values a.1)
  pub fits : Fits f
  pub renamed : IsRenamedFresh table (composite m a.1) key f

mutual
  pub data IsMade {L C : Type 0} (form : L → Form) (es : List (Option (TermEntry L C))) : Applied → Term → Type 0 where
    by_entry : {a : Applied} {t : Term} (e : TermEntry L C) (f : Form) (ts : List Term) → entry_at es a.0 ≡ Some e →
        IsNamedBy e.names (form e.node) a f →
        AreMade form es (child_ids f) ts → t ≡ term_of f ts → IsMade form es a t

  pub data AreMade {L C : Type 0} (form : L → Form) (es : List (Option (TermEntry L C))) : List Applied → List Term → Type 0 where
    no_more : AreMade form es [] []
    one_more : {a : Applied} {t : Term} {ids : List Applied} {ts : List Term} → IsMade form es a t → AreMade form es ids ts →
        AreMade form es (a ∷ ids) (t ∷ ts)

-- a weight of the entry, and what its children have
abbrev pub entry_sum : {L C : Type 0} → (L → Form) → (TermEntry L C → ℕ) → (ℕ → ℕ) → Option (TermEntry L C) → ℕ
entry_sum form weight below None = 0
entry_sum form weight below (Some e) = weight e + sum_by below (key_children (form e.node))

-- the same of a class, if its rank is below n
abbrev pub class_sum : {L C : Type 0} → (L → Form) → (TermEntry L C → ℕ) → ℕ → List (Option (TermEntry L C)) → ℕ → ℕ
class_sum form weight zero es c = 0
class_sum form weight (suc n) es c = entry_sum form weight (class_sum form weight n es) (entry_at es c)

abbrev pub rank_in : {L C : Type 0} → Option (TermEntry L C) → ℕ
rank_in None = 0
rank_in (Some e) = e.rank

abbrev pub sum_for : {L C : Type 0} → (L → Form) → (TermEntry L C → ℕ) → List (Option (TermEntry L C)) → ℕ → ℕ
sum_for form weight es c = class_sum form weight (suc (rank_in (entry_at es c))) es c

abbrev pub slots_of : {L C : Type 0} → (L → Form) → TermEntry L C → ℕ
slots_of form e = 2 * length (form e.node).names

abbrev pub slots_at : {L C : Type 0} → (L → Form) → Option (TermEntry L C) → ℕ
slots_at form None = 0
slots_at form (Some e) = slots_of form e

abbrev pub slots_for : {L C : Type 0} → (L → Form) → List (Option (TermEntry L C)) → ℕ → ℕ
slots_for form es c = sum_for form (slots_of form) es c

-- some entry's key has too many places to be numbered
abbrev pub HasLargeEntry : {L C : Type 0} → (L → Form) → List (Option (TermEntry L C)) → Type 0
HasLargeEntry {L} {C} form es = (c : ℕ) × (e : TermEntry L C) × (entry_at es c ≡ Some e) × IsTooLarge (form e.node)

-- fewer fresh slots were left than these, or there is such an entry
abbrev pub RunsOutWith : {L C : Type 0} → (L → Form) → List (Option (TermEntry L C)) → ℕ → Table → Table → Type 0
RunsOutWith form es n t u = RunsOut n t u ⊎ HasLargeEntry form es

abbrev pub IsGivenOrNew : Table → List ℕ → ℕ → Type 0
IsGivenOrNew t vs x = (is_among x vs ≡ true) ⊎ (is_known t x ≡ false)

-- names at own places, and names of binders
abbrev pub HasNewNames : Table → List ℕ → Args → Type 0
HasNewNames t vs done = Unit {0}
HasNewNames t vs (name x rest) = IsGivenOrNew t vs x × HasNewNames t vs rest
HasNewNames t vs (child op payloads args rest) = HasNewNames t vs args × HasNewNames t vs rest
HasNewNames t vs (bind x inner rest) = (is_known t x ≡ false) × HasNewNames t vs inner × HasNewNames t vs rest

abbrev pub IsFreshTerm : Table → List ℕ → Term → Type 0
IsFreshTerm t vs u = HasNewNames t vs u.args
