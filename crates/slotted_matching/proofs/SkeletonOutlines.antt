-- A node has the outline of a pattern's node exactly if both have one skeleton.
use Rattle.std.proofs.Common.{◌≡◌, ℕ, suc, ◌+◌, List, [], ◌∷◌, length, take, drop, Bool, true, false, sym, ◌∙◌, ap, refl, arith, slice_index, length-append, length-drop, length-take}
use Rattle.std.specs.Prelude.{◌&&◌, ◌↔◌}
use Rattle.std.proofs.Math.Nat.{suc_inj}
use Rattle.slotted_lists.proofs.Booleans.{and-true}
use Rattle.slotted_theory.specs.Nameless.{nameless_args, extend}
use Rattle.slotted_theory.specs.Shape.{free_names, number_in}
use Rattle.slotted_nodes.specs.Form.{Form, Tree, leaf, own, child, bind, scopes, children}
use Rattle.slotted_languages.specs.NodeTerm.{node_args, nameless_node}
use Rattle.slotted_languages.specs.Outline.{outlined, marks, skeleton_form}
use Rattle.slotted_languages.proofs.Outlines.{marks-outlined}
use Rattle.slotted_model_rules.specs.Patterns.{Pattern, PatternArgs}
use Rattle.slotted_model_rules.specs.Goals.{has_outline}
use Rattle.slotted_model_rules.proofs.Matching.FlatWalks.{outline-moved}
use Rattle.slotted_hashcons.specs.FiledRows.{row_of_entry}
use Rattle.slotted_rule_patterns.specs.PatternCode.{filled_pattern}
use Rattle.slotted_match_machine.specs.Index.{HasOutline}

-- names, children and binders stand in the same places
abbrev same_outline : Tree → Tree → Bool
same_outline leaf leaf = true
same_outline (own r) (own s) = same_outline r s
same_outline (child i ks r) (child j ls s) = same_outline r s
same_outline (bind u r) (bind v s) = same_outline u v && same_outline r s
same_outline _ _ = false

same-then : (u t : Tree) → same_outline u t ≡ true → outlined u ≡ outlined t
same-then leaf leaf e = refl
same-then leaf (own s) e = absurd (cc)
same-then leaf (child j ls s) e = absurd (cc)
same-then leaf (bind v s) e = absurd (cc)
same-then (own r) leaf e = absurd (cc)
same-then (own r) (own s) e = ap own (same-then r s e)
same-then (own r) (child j ls s) e = absurd (cc)
same-then (own r) (bind v s) e = absurd (cc)
same-then (child i ks r) leaf e = absurd (cc)
same-then (child i ks r) (own s) e = absurd (cc)
same-then (child i ks r) (child j ls s) e = ap (child 0 (0 ∷ [])) (same-then r s e)
same-then (child i ks r) (bind v s) e = absurd (cc)
same-then (bind u r) leaf e = absurd (cc)
same-then (bind u r) (own s) e = absurd (cc)
same-then (bind u r) (child j ls s) e = absurd (cc)
same-then (bind u r) (bind v s) e =
    let h = and-true (same_outline u v) (same_outline r s) e in
    λ i. bind (same-then u v h.0 i) (same-then r s h.1 i)

then-same : (u t : Tree) → outlined u ≡ outlined t → same_outline u t ≡ true
then-same leaf leaf e = refl
then-same leaf (own s) e = absurd (cc)
then-same leaf (child j ls s) e = absurd (cc)
then-same leaf (bind v s) e = absurd (cc)
then-same (own r) leaf e = absurd (cc)
then-same (own r) (own s) e = then-same r s (cc)
then-same (own r) (child j ls s) e = absurd (cc)
then-same (own r) (bind v s) e = absurd (cc)
then-same (child i ks r) leaf e = absurd (cc)
then-same (child i ks r) (own s) e = absurd (cc)
then-same (child i ks r) (child j ls s) e = then-same r s (cc)
then-same (child i ks r) (bind v s) e = absurd (cc)
then-same (bind u r) leaf e = absurd (cc)
then-same (bind u r) (own s) e = absurd (cc)
then-same (bind u r) (child j ls s) e = absurd (cc)
then-same (bind u r) (bind v s) e = λ i. then-same u v (cc) i && then-same r s (cc) i

-- whether the arguments of a pattern's node, with a pattern for each child, have the outline of a node
outline-as : (u t : Tree) (xs ys : List ℕ) (ps : List Pattern) (ρ : ℕ → ℕ) → length ps ≡ length (children u) →
    has_outline (filled_pattern u xs ps) (nameless_args ρ (node_args t ys)) ≡ same_outline u t
outline-as leaf leaf xs ys ps ρ n = refl
outline-as leaf (own s) xs ys ps ρ n = refl
outline-as leaf (child j ls s) xs ys ps ρ n = refl
outline-as leaf (bind v s) xs ys ps ρ n = refl
outline-as (own r) leaf xs ys ps ρ n = refl
outline-as (own r) (own s) xs ys ps ρ n = outline-as r s (drop 1 xs) (drop 1 ys) ps ρ n
outline-as (own r) (child j ls s) xs ys ps ρ n = refl
outline-as (own r) (bind v s) xs ys ps ρ n = refl
outline-as (child i ks r) t xs ys [] ρ n = absurd (omega (arith, n))
outline-as (child i ks r) leaf xs ys (p ∷ ps) ρ n = refl
outline-as (child i ks r) (own s) xs ys (p ∷ ps) ρ n = refl
outline-as (child i ks r) (child j ls s) xs ys (p ∷ ps) ρ n = outline-as r s (drop (length ks) xs) (drop (length ls) ys) ps ρ (omega (arith, n))
outline-as (child i ks r) (bind v s) xs ys (p ∷ ps) ρ n = refl
outline-as (bind u r) leaf xs ys ps ρ n = refl
outline-as (bind u r) (own s) xs ys ps ρ n = refl
outline-as (bind u r) (child j ls s) xs ys ps ρ n = refl
outline-as (bind u r) (bind v s) xs ys ps ρ n =
    let k = length (children u) in
    let m = length (scopes u) in
    let l = length (scopes v) in
    let total : length ps ≡ k + length (children r) = n ∙ length-append (children u) (children r) in
    λ i. outline-as u v (take m (drop 1 xs)) (take l (drop 1 ys)) (take k ps) (extend (slice_index ys 0) ρ) (omega (arith, total, length-take k ps)) i
    && outline-as r s (drop m (drop 1 xs)) (drop l (drop 1 ys)) (drop k ps) ρ (omega (arith, total, length-drop k ps)) i

-- skeletons are equal exactly if nodes agree but for names and children
skeletons-agree : (h f : Form) → skeleton_form h ≡ skeleton_form f → (h.operator ≡ f.operator) × (h.payloads ≡ f.payloads) × (outlined h.tree ≡ outlined f.tree)
skeletons-agree h f e = (ap (λ (g : Form). g.operator) e, ap (λ (g : Form). g.payloads) e, ap (λ (g : Form). g.tree) e)

agree-skeletons : (h f : Form) → h.operator ≡ f.operator → h.payloads ≡ f.payloads → outlined h.tree ≡ outlined f.tree → skeleton_form h ≡ skeleton_form f
agree-skeletons h f o p t =
    let ms : marks h.tree ≡ marks f.tree = sym (marks-outlined h.tree) ∙ (ap marks t ∙ marks-outlined f.tree) in
    λ i. record { operator = o i; payloads = p i; tree = t i; names = ms i }

module _ (f : Form) (ps : List Pattern) (n : length ps ≡ length (children f.tree)) (h : Form) (o : ℕ) (m : List (ℕ × ℕ)) where
  abbrev args : PatternArgs
  args = filled_pattern f.tree f.names ps

  places : has_outline args (row_of_entry (h, (o, m))).shape.args ≡ same_outline f.tree h.tree
  places =
      outline-moved (number_in (free_names (nameless_node h).args)) args (nameless_node h).args
      ∙ outline-as f.tree h.tree f.names h.names ps (λ y. y) n

  pub skeleton-outline : skeleton_form h ≡ skeleton_form f ↔ HasOutline (row_of_entry (h, (o, m))) (suc f.operator) f.payloads args
  skeleton-outline = (
    λ e.
        let a = skeletons-agree h f e in
        record { operator = ap suc a.0; payloads_same = a.1; places = places ∙ then-same f.tree h.tree (sym a.2) },
    λ has. agree-skeletons h f (suc_inj has.operator) has.payloads_same (sym (same-then f.tree h.tree (sym places ∙ has.places))),
  )
