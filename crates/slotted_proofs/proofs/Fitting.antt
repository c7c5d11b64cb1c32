-- What steps that fit enter is proved.
use Rattle.std.proofs.Common.{◌≡◌, ℕ, zero, suc, ◌<◌, List, [], ◌∷◌, ◌++◌, length, map, inl, inr, arith, refl, sym, ap, ◌∙◌, subst}
use Rattle.std.specs.Prelude.{All, Contains, slice_index_or}
use Rattle.std.proofs.lemmas.List.{map-append}
use Rattle.std.proofs.lemmas.List.Elements.{All-contains_itself}
use Rattle.slotted_lists.proofs.Contained.{contains_cases, Contains-nil}
use Rattle.slotted_theory.specs.Nameless.{DArgs, DTerm, stop, place, sub, scope}
use Rattle.slotted_theory.proofs.Values.{node, child_before}
use Rattle.slotted_model.specs.Applied.{Applied, keys, as_term, applied_of, IsApplied, EachChild}
use Rattle.slotted_model.specs.Classes.{canonical_slots, IsFull}
use Rattle.slotted_model.specs.Correspondence.{IsFullMap, CanJoin, same_names, turned}
use Rattle.slotted_model.specs.ProofList.{Equation, equation_of, AreCongruent, no_more, one_name, one_child, one_binder, node_of, IsCongruent, congruent, step_at, IsOver, IsTransitive, IsStepFor, Step, reflexive, symmetric, transitive, equation_at}
use Rattle.slotted_model.specs.Leaves.{parts_of}
use Rattle.slotted_model.proofs.Finds.Leaves.{parts-earlier}
use Rattle.slotted_model.proofs.Represented.Children.{EachChild-map}
use Rattle.slotted_model.proofs.Finds.Congruence.{child-applied}
use Rattle.slotted_model.proofs.Represented.Full.{full-children}
use Rattle.slotted_model.proofs.Correspondences.FullIds.{full_map}
use Rattle.slotted_model.proofs.Correspondences.FullMaps.{same_names-partial, same_names-itself, same_names-turned}
use Rattle.slotted_model.proofs.Correspondences.Middle.{can_join_from}
use Rattle.slotted_proofs.specs.declared.equation.Equation.{Equation as Sides}
use Rattle.slotted_proofs.specs.Equations.{Statement, to_applied, equality, statement_of}
use Rattle.slotted_proofs.specs.Entries.{Proven, entries_of, proven_at, statement_at}
use Rattle.slotted_proofs.specs.Proving.{IsCanonical, IsProvable}
use Rattle.slotted_proofs.specs.Steps.{AreEntries, AreFull, HasInjectiveSides, IsEntry, Matches, IsReflexiveStep, IsSymmetricStep, IsTransitiveStep, by_step}
use Rattle.slotted_proofs.specs.StepClaims.{IsOfFull, MatchIsOneStatement, CongruentStepProves, PartsStandEarlier}
use Rattle.slotted_proofs.specs.AlikeNodes.{AreAlikeArgs}
use Rattle.slotted_proofs.proofs.Entering.{equation_at-entries, length-entries}
use Rattle.slotted_proofs.proofs.Stepping.{matches-state, state-matches, entry-states, left_full, middle_full}

pub match_is_one_statement : MatchIsOneStatement
match_is_one_statement a b c d fa fb fc fd = (matches-state a b c d fa fb fc fd, state-matches a b c d fa fb fc fd)

-- a full id has a full map
pub own : (nodes : List DTerm) (a : Applied) → IsFull nodes a → IsFullMap (keys a.1) a.1
own nodes a f = subst (λ K. IsFullMap K a.1) (sym f.slots) (full_map nodes a f)

module _ (nodes : List DTerm) (list : List Proven) (e : Sides) (full : IsOfFull nodes e) where
  abbrev l : Applied
  l = to_applied e.l

  abbrev r : Applied
  r = to_applied e.r

  abbrev asked : Equation
  asked = (statement_of e).equation

  -- an equation of full ids is over canonical slots
  pub full_canonical : IsCanonical nodes (statement_of e)
  full_canonical = record { left = full.left.slots; right = full.right.slots }

  pub full_over : IsOver nodes asked
  full_over = record {
    left = full.left.in_range;
    right = full.right.in_range;
    pairs = same_names-partial (canonical_slots nodes l.0) (canonical_slots nodes r.0) l.1 r.1 (full_map nodes l full.left) (full_map nodes r full.right);
  }

  pub fitting : (step : Step) → IsStepFor nodes (entries_of list) (length list) asked step → IsProvable nodes list (by_step (statement_of e) step)
  fitting step h = record { canonical = full_canonical; over = full_over; step = h }

  pub reflexive_fits : IsReflexiveStep e → IsProvable nodes list (by_step (statement_of e) reflexive)
  reflexive_fits h = fitting reflexive (
    ap (λ (a : Applied). a.0) h,
    ap (same_names l.1) (ap (λ (a : Applied). a.1) (sym h)) ∙ same_names-itself (canonical_slots nodes l.0) l.1 (full_map nodes l full.left),
  )

  pub symmetric_fits : (p : ℕ) → IsSymmetricStep list e p → IsProvable nodes list (by_step (statement_of e) (symmetric p))
  symmetric_fits p h =
      let s : equality r l ≡ statement_at list p = entry-states list p r l (own nodes r full.right) (own nodes l full.left) h in
      let back : same_names r.1 l.1 ≡ turned (canonical_slots nodes r.0) (same_names l.1 r.1) = same_names-turned (canonical_slots nodes l.0) (canonical_slots nodes r.0) l.1 r.1 (full_map nodes l full.left) (full_map nodes r full.right) in
      fitting (symmetric p) (
        h.in_range,
        equation_at-entries list p ∙ (ap (λ (t : Statement). t.equation) (sym s) ∙ (λ i. record { left = r.0; right = l.0; pairs = back i })),
      )

  pub transitive_fits : (p q : ℕ) → IsTransitiveStep list e p q → IsProvable nodes list (by_step (statement_of e) (transitive p q))
  transitive_fits p q h =
      let m : Applied = h.middle in
      let k : IsFullMap (keys m.1) m.1 = middle_full list p l m h.injective h.first in
      let s : equality l m ≡ statement_at list p = entry-states list p l m (own nodes l full.left) k h.first in
      let t : equality m r ≡ statement_at list q = entry-states list q m r k (own nodes r full.right) h.second in
      let joins : CanJoin (same_names l.1 r.1) (same_names l.1 m.1) (same_names m.1 r.1) = can_join_from (keys l.1) (keys m.1) (keys r.1) l.1 m.1 r.1 (own nodes l full.left) k (own nodes r full.right) in
      let step : IsTransitive asked (equality l m).equation (equality m r).equation = record { left = refl; middle = refl; right = refl; joins = joins } in
      fitting (transitive p q) (
        h.first.in_range,
        h.second.in_range,
        subst (λ f. IsTransitive asked f (equation_at (entries_of list) q)) (ap (λ (x : Statement). x.equation) s ∙ sym (equation_at-entries list p))
            (subst (IsTransitive asked (equality l m).equation) (ap (λ (x : Statement). x.equation) t ∙ sym (equation_at-entries list q)) step),
      )

-- a congruent step

-- what matches an entry has a name of its own for each slot
child_full : (list : List Proven) (p : ℕ) (c : Sides) → HasInjectiveSides c → IsEntry list p (to_applied c.l) (to_applied c.r) → AreFull c
child_full list p c once h = record {
  left = left_full list p (to_applied c.l) (to_applied c.r) once.left h;
  right = middle_full list p (to_applied c.l) (to_applied c.r) once.right h;
}

rest_entries : (list : List Proven) (p : ℕ) (ps : List ℕ) (c : Sides) (cs : List Sides) → AreEntries list (p ∷ ps) (c ∷ cs) → AreEntries list ps cs
rest_entries list p ps c cs h = record {
  count = let n : suc (length ps) ≡ suc (length cs) = h.count in omega arith;
  each = λ k n d l. h.each (suc k) n d (omega arith);
}

-- the first of a list, and the rest
all_head : (P : Sides → Type 0) (x : Sides) (xs : List Sides) → All P (x ∷ xs) → P x
all_head P x xs h = h 0 x (omega arith)

all_tail : (P : Sides → Type 0) (x : Sides) (xs : List Sides) → All P (x ∷ xs) → All P xs
all_tail P x xs h = λ k d l. h (suc k) d (omega arith)

all_cons : (P : Sides → Type 0) (x : Sides) (xs : List Sides) → P x → All P xs → All P (x ∷ xs)
all_cons P x xs p h zero d l = p
all_cons P x xs p h (suc k) d l = h k d (omega arith)

all_full : (list : List Proven) (ps : List ℕ) (cs : List Sides) → All HasInjectiveSides cs → AreEntries list ps cs → All AreFull cs
all_full list ps [] f h = λ k d l. absurd (omega arith)
all_full list [] (c ∷ cs) f h = absurd (let n : 0 ≡ suc (length cs) = h.count in omega arith)
all_full list (p ∷ ps) (c ∷ cs) f h =
    all_cons AreFull c cs (child_full list p c (all_head HasInjectiveSides c cs f) (h.each 0 p c (omega arith)))
    (all_full list ps cs (all_tail HasInjectiveSides c cs f) (rest_entries list p ps c cs h))

all_left : (P : Sides → Type 0) (xs ys : List Sides) → All P (xs ++ ys) → All P xs
all_left P [] ys h = λ k d l. absurd (omega arith)
all_left P (x ∷ xs) ys h = all_cons P x xs (all_head P x (xs ++ ys) h) (all_left P xs ys (all_tail P x (xs ++ ys) h))

all_right : (P : Sides → Type 0) (xs ys : List Sides) → All P (xs ++ ys) → All P ys
all_right P [] ys h = h
all_right P (x ∷ xs) ys h = all_right P xs ys (all_tail P x (xs ++ ys) h)

-- the equations of parts are those of the children that they match
entries-equations : (list : List Proven) (ps : List ℕ) (cs : List Sides) → All AreFull cs → AreEntries list ps cs → map (equation_at (entries_of list)) ps ≡ map (λ c. (statement_of c).equation) cs
entries-equations list [] [] f h = refl
entries-equations list [] (c ∷ cs) f h = absurd (let n : 0 ≡ suc (length cs) = h.count in omega arith)
entries-equations list (p ∷ ps) [] f h = absurd (let n : suc (length ps) ≡ 0 = h.count in omega arith)
entries-equations list (p ∷ ps) (c ∷ cs) f h =
    let full : AreFull c = all_head AreFull c cs f in
    let first : IsEntry list p (to_applied c.l) (to_applied c.r) = h.each 0 p c (omega arith) in
    let e : equation_at (entries_of list) p ≡ (statement_of c).equation = equation_at-entries list p ∙ ap (λ (s : Statement). s.equation) (sym (entry-states list p (to_applied c.l) (to_applied c.r) full.left full.right first)) in
    λ i. e i ∷ entries-equations list ps cs (all_tail AreFull c cs f) (rest_entries list p ps c cs h) i

-- alike arguments over full ids are congruent, by the equations of their children
module _ (nodes : List DTerm) where
  child-equation : (op o : ℕ) (p r : List (List ℕ)) (x y : DArgs) (c : Sides) (a : IsApplied (IsFull nodes) (node op p x)) (b : IsApplied (IsFull nodes) (node o r y)) → AreFull c → Matches (applied_of p x) (applied_of r y) (to_applied c.l) (to_applied c.r) → equation_of a.0 b.0 ≡ (statement_of c).equation
  child-equation op o p r x y c a b f m =
      let n : Matches a.0 b.0 (to_applied c.l) (to_applied c.r) =
      subst (λ z. Matches z b.0 (to_applied c.l) (to_applied c.r)) (child-applied (IsFull nodes) op p x a) (subst (λ z. Matches (applied_of p x) z (to_applied c.l) (to_applied c.r)) (child-applied (IsFull nodes) o r y b) m) in
      ap (λ (s : Statement). s.equation) (matches-state a.0 b.0 (to_applied c.l) (to_applied c.r) (own nodes a.0 a.2) (own nodes b.0 b.2) f.left f.right n)

  alike_congruent : (d e : DArgs) (cs : List Sides) → EachChild (IsFull nodes) d → EachChild (IsFull nodes) e → All AreFull cs → AreAlikeArgs d e cs → AreCongruent nodes d e (map (λ c. (statement_of c).equation) cs)
  alike_congruent stop stop [] f g h alike = no_more
  alike_congruent (place x d) (place y e) cs f g h alike =
      subst (λ z. AreCongruent nodes (place x d) (place z e) (map (λ c. (statement_of c).equation) cs)) alike.0 (one_name (alike_congruent d e cs f g h alike.1))
  alike_congruent (sub o p a d) (sub q r b e) (c ∷ cs) f g h alike =
      let rest : AreCongruent nodes d e (map (λ x. (statement_of x).equation) cs) = alike_congruent d e cs f.1 g.1 (all_tail AreFull c cs h) alike.1 in
      let same : equation_of f.0.0 g.0.0 ≡ (statement_of c).equation = child-equation o q p r a b c f.0 g.0 (all_head AreFull c cs h) alike.0 in
      subst (λ (x : DTerm). AreCongruent nodes (child_before x d) (sub q r b e) (map (λ x. (statement_of x).equation) (c ∷ cs))) (sym f.0.1)
      (subst (λ (x : DTerm). AreCongruent nodes (child_before (as_term f.0.0) d) (child_before x e) (map (λ x. (statement_of x).equation) (c ∷ cs))) (sym g.0.1)
      (subst (λ (x : Equation). AreCongruent nodes (child_before (as_term f.0.0) d) (child_before (as_term g.0.0) e) (x ∷ map (λ x. (statement_of x).equation) cs)) same
      (one_child f.0.0 g.0.0 f.0.2 g.0.2 rest)))
  alike_congruent (scope i d) (scope j e) cs f g h alike =
      let inner = alike.0 in
      let rest = alike.1 in
      let both = subst (All AreFull) alike.2 h in
      subst (λ x. AreCongruent nodes (scope i d) (scope j e) (map (λ c. (statement_of c).equation) x)) (sym alike.2)
      (subst (AreCongruent nodes (scope i d) (scope j e)) (sym (map-append (λ c. (statement_of c).equation) inner rest))
      (one_binder (alike_congruent i j inner f.0 g.0 (all_left AreFull inner rest both) alike.3) (alike_congruent d e rest f.1 g.1 (all_right AreFull inner rest both) alike.4)))
  alike_congruent d e cs f g h alike = absurd alike

-- a congruent step that fits over canonical nodes proves its equation
pub congruent_fits : CongruentStepProves
congruent_fits nodes list e children parts canonical full once alike entries =
    let l : Applied = to_applied e.l in
    let r : Applied = to_applied e.r in
    let fulls : All AreFull children = all_full list parts children once entries in
    let d : DTerm = node_of nodes l in
    let c : DTerm = node_of nodes r in
    let f : EachChild (IsFull nodes) d.args = EachChild-map (λ b. (b.0 < l.0) × IsFull nodes b) (IsFull nodes) (λ b x. x.1) d.args (full-children nodes canonical l full.left) in
    let g : EachChild (IsFull nodes) c.args = EachChild-map (λ b. (b.0 < r.0) × IsFull nodes b) (IsFull nodes) (λ b x. x.1) c.args (full-children nodes canonical r full.right) in
    let step : IsCongruent nodes (statement_of e).equation (map (λ x. (statement_of x).equation) children) = record {
      left = l;
      right = r;
      left_full = full.left;
      right_full = full.right;
      equation = refl;
      operators = alike.operators;
      payloads = alike.payloads;
      children = alike_congruent nodes d.args c.args children f g fulls alike.args;
    } in
    fitting nodes list e full (congruent parts) (
      earlier list parts children entries,
      subst (IsCongruent nodes (statement_of e).equation) (sym (entries-equations list parts children fulls entries)) step,
    )
  where
    earlier : (list : List Proven) (ps : List ℕ) (cs : List Sides) → AreEntries list ps cs → (q : ℕ) → Contains ps q → q < length list
    earlier list [] cs h q c = absurd (Contains-nil q c)
    earlier list (p ∷ ps) [] h q c = absurd (let n : suc (length ps) ≡ 0 = h.count in omega arith)
    earlier list (p ∷ ps) (d ∷ cs) h q c = elim (contains_cases p ps q c) [
      | inl e ↦ subst (λ z. z < length list) (sym e) (h.each 0 p d (omega arith)).in_range
      | inr t ↦ earlier list ps cs (rest_entries list p ps d cs h) q t
    ]

-- parts stand earlier

pub step_at-entries : (list : List Proven) (p : ℕ) → step_at (entries_of list) p ≡ (proven_at list p).step
step_at-entries [] p = refl
step_at-entries (x ∷ list) zero = refl
step_at-entries (x ∷ list) (suc p) = step_at-entries list p

pub parts_earlier : PartsStandEarlier
parts_earlier nodes list proved p l =
    let n : length (entries_of list) ≡ length list = length-entries list in
    let parts : List ℕ = parts_of (proven_at list p).step in
    λ k d m. parts-earlier nodes (entries_of list) p (equation_at (entries_of list) p) (step_at (entries_of list) p) (proved.proved.steps p (omega arith)) (slice_index_or parts k d) (subst (λ s. Contains (parts_of s) (slice_index_or parts k d)) (sym (step_at-entries list p)) (All-contains_itself parts k d m))
