-- What is filed for a term is what its subterms are looked up as.
use Rattle.std.proofs.Common.{◌≡◌, ◌<◌, ℕ, zero, suc, List, [], ◌∷◌, length, take, drop, get_or, Some, refl, sym, ◌∙◌, arith, inl, inr}
use Rattle.std.specs.Prelude.{◌⊎◌}
use Rattle.std.proofs.lemmas.Bool.{cases_lt}
use Rattle.slotted_theory.specs.Term.{Term}
use Rattle.slotted_theory.specs.Nameless.{DTerm, nameless}
use Rattle.slotted_nodes.specs.Form.{Form, Tree, leaf, own, child, bind, scopes, children}
use Rattle.slotted_languages.specs.Filled as form
use Rattle.slotted_model.specs.Growth.{Extends}
use Rattle.slotted_model.specs.Applied.{Applied}
use Rattle.slotted_model.specs.Ids.{id_of_node, id_of}
use Rattle.slotted_operations.specs.Image.{NewClassesAre, IsIdOfNode, IsIdOfSubterm}
use Rattle.slotted_operations.specs.Subterms.{StandsUnder, IsSubterm}

-- one of the terms has it as a subterm
abbrev StandsInOne : Term → List Term → Type 0
StandsInOne s [] = ⊥
StandsInOne s (u ∷ us) = IsSubterm s u ⊎ StandsInOne s us

in_parts : (s : Term) (n : ℕ) (us : List Term) → StandsInOne s us → StandsInOne s (take n us) ⊎ StandsInOne s (drop n us)
in_parts s zero us h = inr h
in_parts s (suc n) [] h = absurd h
in_parts s (suc n) (u ∷ us) (inl h) = inl (inl h)
in_parts s (suc n) (u ∷ us) (inr h) = elim (in_parts s n us h) [
  | inl a ↦ inl (inr a)
  | inr b ↦ inr b
]

in_one : (s : Term) (us : List Term) (k : ℕ) (d : Term) → k < length us → IsSubterm s (get_or us k d) → StandsInOne s us
in_one s [] k d l h = absurd (omega arith)
in_one s (u ∷ us) zero d l h = inl h
in_one s (u ∷ us) (suc k) d l h = inr (in_one s us k d (omega (arith, l)) h)

under_children : (s : Term) (us : List Term) → StandsInOne s us → StandsUnder s (form.children_args us)
under_children s [] h = absurd h
under_children s (u ∷ us) (inl (inl e)) = inl e
under_children s (u ∷ us) (inl (inr a)) = inr (inl a)
under_children s (u ∷ us) (inr h) = inr (inr (under_children s us h))

under_filled : (s : Term) (t : Tree) (xs : List ℕ) (us : List Term) → StandsInOne s us → StandsUnder s (form.filled t xs us)
under_filled s leaf xs [] h = absurd h
under_filled s leaf xs (u ∷ us) h = inr (inr (under_children s (u ∷ us) h))
under_filled s (own r) xs us h = under_filled s r (drop 1 xs) us h
under_filled s (child i ks r) xs [] h = absurd h
under_filled s (child i ks r) xs (u ∷ us) (inl (inl e)) = inl e
under_filled s (child i ks r) xs (u ∷ us) (inl (inr a)) = inr (inl a)
under_filled s (child i ks r) xs (u ∷ us) (inr h) = inr (inr (under_filled s r (drop (length ks) xs) us h))
under_filled s (bind u r) xs us h = elim (in_parts s (length (children u)) us h) [
  | inl a ↦ inl (under_filled s u (take (length (scopes u)) (drop 1 xs)) (take (length (children u)) us) a)
  | inr b ↦ inr (under_filled s r (drop (length (scopes u)) (drop 1 xs)) (drop (length (children u)) us) b)
]

-- a subterm of a child is one of the term
pub of_child : (s : Term) (f : Form) (us : List Term) (k : ℕ) (d : Term) → k < length us → IsSubterm s (get_or us k d) → IsSubterm s (form.term_of f us)
of_child s f us k d l h = inr (under_filled s f.tree f.names us (in_one s us k d l h))

-- what is filed for a term
abbrev pub Files : List DTerm → List DTerm → Term → Type 0
Files g h t = NewClassesAre g h (IsIdOfSubterm h t)

pub files-nothing : (nodes : List DTerm) (t : Term) → Files nodes nodes t
files-nothing nodes t i past within = absurd (omega (arith, past, within))

-- what is filed first, and then
pub files-then : (g h m : List DTerm) (t : Term) → Extends h m → Files g h t → Files h m t → Files g m t
files-then g h m t x p q i past within = elim (cases_lt i (length h)) [
  | inl l ↦
      let r = p i past l in
      (r.0, r.1, record { subterm = r.2.subterm; stands = r.2.stands; found = x.ids (nameless r.2.subterm) r.0 r.2.found })
  | inr l ↦ q i l within
]

-- what is filed for a subterm is filed for the term
pub files-more : (g h : List DTerm) (t u : Term) → ((s : Term) → IsSubterm s u → IsSubterm s t) → Files g h u → Files g h t
files-more g h t u up p i past within =
    let r = p i past within in
    (r.0, r.1, record { subterm = r.2.subterm; stands = up r.2.subterm r.2.stands; found = r.2.found })

-- the node of the term itself
pub files-node : (g h : List DTerm) (d : DTerm) (t : Term) (a : Applied) → id_of_node h d ≡ Some a → id_of h (nameless t) ≡ Some a → NewClassesAre g h (IsIdOfNode h d) → Files g h t
files-node g h d t a node term p i past within =
    let r = p i past within in
    (r.0, r.1, record { subterm = t; stands = inl refl; found = term ∙ (sym node ∙ r.2) })
