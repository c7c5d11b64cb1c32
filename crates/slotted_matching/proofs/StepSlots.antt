-- The slots of a pattern are those of its steps, and stand in it.
use Rattle.std.proofs.Common.{◌≡◌, ℕ, ◌+◌, List, [], ◌∷◌, ◌++◌, length, take, drop, sym, ap, ◌∙◌, subst, arith, inl, inr, slice_index, length-append, Vec}
use Rattle.std.specs.Prelude.{Contains, IsTrue}
use Rattle.std.specs.declared.alloc.Global.{Global}
use Rattle.std.proofs.lemmas.List.Elements.{Contains-append_left, Contains-append_right, Contains-append_cases, Contains-push_cases}
use Rattle.slotted_lists.proofs.Members.{In, In-append, In-Contains, In-take, In-drop}
use Rattle.slotted_slots.specs.Table.{Table, is_known}
use Rattle.slotted_nodes.specs.Form.{Form, Tree, leaf, own, child, bind, scopes}
use Rattle.slotted_languages.specs.Outline.{outlined_names}
use Rattle.slotted_languages.proofs.NodeTerms.{own_fits, child_rest_fits, bind_inner_fits, bind_rest_fits}
use Rattle.slotted_patterns.specs.Known.{AreKnown}
use Rattle.slotted_match_machine.specs.declared.program.Source.{Source}
use Rattle.slotted_match_machine.specs.declared.program.Step.{Step}
use Rattle.slotted_match_machine.specs.declared.program.Step.TheVariants.{Node, Variable}
use Rattle.slotted_matching.specs.Compiled.{AreFewer, BeginsWith, HoldsSlots, KnowsEach, common_names, pattern_names}
use Rattle.slotted_matching.proofs.KeyNames.{In-first}
use Rattle.slotted_matching.proofs.OwnSlots.{both-first, common-append, same-outlines}

abbrev pub IsHeld : ℕ → List Step → List ℕ → Type 0
IsHeld next steps slots = AreFewer next (length steps) × HoldsSlots steps slots

pub held-same : (next : ℕ) (steps new : List Step) (slots : List ℕ) → new ≡ steps → IsHeld next steps slots → IsHeld next new slots
held-same next steps new slots e h = subst (λ l. IsHeld next l slots) (sym e) h

-- with more slots
pub held-begins : (next : ℕ) (steps : List Step) (slots more : List ℕ) → BeginsWith slots more → IsHeld next steps slots → IsHeld next steps more
held-begins next steps slots more b h = (h.0, λ o owns from c y d. subst (λ l. Contains l y) (sym b.1) (Contains-append_left slots b.0 y (h.1 o owns from c y d)))

is-longer : (steps new : List Step) (s : Step) → new ≡ steps ++ s ∷ [] → length new ≡ length steps + 1
is-longer steps new s e = ap length e ∙ length-append steps (s ∷ [])

pub held-variable : (next : ℕ) (steps new : List Step) (slots : List ℕ) (k : ℕ) (at : Source) → new ≡ steps ++ Variable k at ∷ [] → IsHeld next steps slots → IsHeld next new slots
held-variable next steps new slots k at e h = (
  (let l = is-longer steps new (Variable k at) e in omega (arith, l, h.0)),
  λ o owns from c y d.
      elim (Contains-push_cases steps (Variable k at) (Node o owns from) (subst (λ l. Contains l (Node o owns from)) e c)) [
        | inl i ↦ h.1 o owns from i y d
        | inr i ↦ absurd (cc)
      ],
)

owns_of : Step → List ℕ
owns_of (Node outline owns at) = owns.items
owns_of (Variable k at) = []

pub same-owns : (o p : ℕ) (owns us : Vec ℕ Global) (at from : Source) → Node o owns at ≡ Node p us from → owns.items ≡ us.items
unfolding owns_of
same-owns o p owns us at from e = ap owns_of e

-- a node, of which the own names were added
pub held-node : (next : ℕ) (steps new : List Step) (slots more : List ℕ) (outline : ℕ) (owns : Vec ℕ Global) (at : Source) → new ≡ steps ++ Node outline owns at ∷ [] → more ≡ slots ++ owns.items → IsHeld next steps slots →
    IsHeld next new more × IsHeld (next + 1) new more
held-node next steps new slots more outline owns at e b h =
    let l = is-longer steps new (Node outline owns at) e in
    let all : HoldsSlots new more =
    λ o us from c y d.
    elim (Contains-push_cases steps (Node outline owns at) (Node o us from) (subst (λ l. Contains l (Node o us from)) e c)) [
      | inl i ↦ subst (λ l. Contains l y) (sym b) (Contains-append_left slots owns.items y (h.1 o us from i y d))
      | inr i ↦ subst (λ l. Contains l y) (sym b) (Contains-append_right slots owns.items y (subst (λ l. Contains l y) (sym (same-owns outline o owns us at from i)) d))
    ] in
    ((omega (arith, l, h.0), all), (omega (arith, l, h.0), all))

-- the own names of a node stand in it
common-in : (u : Tree) (xs : List ℕ) (y : ℕ) → length xs ≡ length (scopes u) → In y (common_names (outlined_names 0 u xs) (outlined_names 4 u xs)) → In y xs
common-in leaf xs y n i = absurd i
common-in (own r) xs y n i = elim (subst (In y) (both-first (slice_index xs 0) (outlined_names 0 r (drop 1 xs)) (outlined_names 4 r (drop 1 xs))) i) [
  | inl e ↦ In-first xs y (length (scopes r)) n e
  | inr j ↦ In-drop 1 xs y (common-in r (drop 1 xs) y (own_fits r xs n) j)
]
common-in (child k ks r) xs y n i = In-drop (length ks) xs y (common-in r (drop (length ks) xs) y (child_rest_fits k ks r xs n) i)
common-in (bind u r) xs y n i =
    let m = length (scopes u) in
    let us = take m (drop 1 xs) in
    let rs = drop m (drop 1 xs) in
    elim (subst (In y) (both-first (slice_index xs 0) (outlined_names 0 u us ++ outlined_names 0 r rs) (outlined_names 4 u us ++ outlined_names 4 r rs)
    ∙ ap (λ l. slice_index xs 0 ∷ l) (common-append (outlined_names 0 u us) (outlined_names 0 r rs) (outlined_names 4 u us) (outlined_names 4 r rs) (same-outlines 0 4 u us))) i) [
      | inl e ↦ In-first xs y (length (scopes u ++ scopes r)) n e
      | inr j ↦
          elim (In-append y (common_names (outlined_names 0 u us) (outlined_names 4 u us)) (common_names (outlined_names 0 r rs) (outlined_names 4 r rs)) j) [
            | inl k ↦ In-drop 1 xs y (In-take m (drop 1 xs) y (common-in u us y (bind_inner_fits u r xs n) k))
            | inr k ↦ In-drop 1 xs y (In-drop m (drop 1 xs) y (common-in r rs y (bind_rest_fits u r xs n) k))
          ]
    ]

known-in : (t : Table) (xs : List ℕ) (y : ℕ) → AreKnown t xs → In y xs → IsTrue (is_known t y)
known-in t [] y h i = absurd i
known-in t (x ∷ xs) y h (inl e) = subst (λ z. IsTrue (is_known t z)) (sym e) h.0
known-in t (x ∷ xs) y h (inr i) = known-in t xs y h.1 i

pub knows-node : (t : Table) (f : Form) (old new : List ℕ) → length f.names ≡ length (scopes f.tree) → new ≡ old ++ pattern_names f → AreKnown t f.names → KnowsEach t old → KnowsEach t new
knows-node t f old new fits e known before y c =
    elim (Contains-append_cases old (pattern_names f) y (subst (λ l. Contains l y) e c)) [
      | inl i ↦ before y i
      | inr i ↦ known-in t f.names y known (common-in f.tree f.names y fits (In-Contains (pattern_names f) y i))
    ]

pub knows-none : (t : Table) (slots : List ℕ) → slots ≡ [] → KnowsEach t slots
knows-none t slots e y c = let d = subst (λ l. Contains l y) e c in absurd (omega (arith, d.1))
