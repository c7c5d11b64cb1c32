-- Nodes with one normal form are congruent by what their children find.
use Rattle.std.proofs.Common.{◌≡◌, ℕ, ◌<◌, List, [], ◌∷◌, ◌++◌, sym, ◌∙◌, ap, refl, subst, inl, inr, arith}
use Rattle.std.specs.Prelude.{Contains}
use Rattle.std.proofs.lemmas.List.Elements.{Contains-append_cases}
use Rattle.slotted_lists.proofs.Contained.{contains_cases, Contains-nil}
use Rattle.slotted_lists.proofs.Members.{In, In-left, In-right, In-append, In-Contains, Contains-In}
use Rattle.slotted_theory.specs.Nameless.{DArgs, DTerm, stop, place, sub, scope, lift, moved, moved_args}
use Rattle.slotted_theory.specs.Shape.{outside, free_names}
use Rattle.slotted_theory.proofs.Values.{node, child_before}
use Rattle.slotted_model.specs.Applied.{Applied, values, renamed_id, in_places, as_term, applied_of, IsApplied, EachChild}
use Rattle.slotted_model.specs.Classes.{IsFull, Canonical}
use Rattle.slotted_model.specs.Find.{Entry, used_slots, find, Linked}
use Rattle.slotted_model.specs.Filling.{IsValid}
use Rattle.slotted_model.specs.Link.{Refines}
use Rattle.slotted_model.specs.ProofList.{Equation, equation_of, AreCongruent, no_more, one_name, one_child, one_binder, node_of}
use Rattle.slotted_model.specs.Normal.{normal_args, normal, IsOfFoundAlike, IsCongruentByFinds, IsFound}
use Rattle.slotted_model.proofs.Data.Members.{In-outside, In-inside}
use Rattle.slotted_model.proofs.Data.Parts.{kind, first_name, first_child, first_scope, after_first}
use Rattle.slotted_model.proofs.Represented.Children.{zip-places, EachChild-map, moved-as_term}
use Rattle.slotted_model.proofs.Represented.Full.{full-children}
use Rattle.slotted_model.proofs.Finds.NormalIds.{found-renamed, found-name, found-class_live, found-slots}
use Rattle.slotted_model.proofs.Correspondences.Pairs.{Contains-value, Contains-of_value}

-- the applied id that a child is
term_applied : DTerm → Applied
term_applied d = applied_of d.payloads d.args

applied-as_term : (a : Applied) → term_applied (as_term a) ≡ a
unfolding term_applied
applied-as_term a = ap (λ (m : List (ℕ × ℕ)). (a.0, m)) (zip-places a.1)

pub child-applied : (P : Applied → Type 0) (op : ℕ) (payloads : List (List ℕ)) (args : DArgs) (c : IsApplied P (node op payloads args)) → applied_of payloads args ≡ c.0
unfolding term_applied
child-applied P op payloads args c = ap term_applied c.1 ∙ applied-as_term c.0

-- nodes of one normal form have parts for a congruent step
record Parts (nodes : List DTerm) (found : List Entry) (d e : DArgs) : Type 0 where
  parts : List Equation
  congruent : AreCongruent nodes d e parts
  alike : (q : Equation) → Contains parts q → IsOfFoundAlike nodes found q

with_child : (nodes : List DTerm) (found : List Entry) (d e rest others : DArgs) (op o : ℕ) (payloads p : List (List ℕ)) (c : IsApplied (IsFull nodes) (node op payloads d)) (k : IsApplied (IsFull nodes) (node o p e)) → find found (applied_of payloads d) ≡ find found (applied_of p e) → Parts nodes found rest others → Parts nodes found (sub op payloads d rest) (sub o p e others)
with_child nodes found d e rest others op o payloads p c k same r =
    let a : Applied = c.0 in
    let b : Applied = k.0 in
    record {
      parts = equation_of a b ∷ r.parts;
      congruent = subst (λ (t : DTerm). AreCongruent nodes (child_before t rest) (sub o p e others) (equation_of a b ∷ r.parts)) (sym c.1)
          (subst (λ (t : DTerm). AreCongruent nodes (child_before (as_term a) rest) (child_before t others) (equation_of a b ∷ r.parts)) (sym k.1)
          (one_child a b c.2 k.2 r.congruent));
      alike = λ q h. elim (contains_cases (equation_of a b) r.parts q h) [
        | inl m ↦ record {
          left = a;
          right = b;
          left_full = c.2;
          right_full = k.2;
          equation = sym m;
          alike = ap (find found) (sym (child-applied (IsFull nodes) op payloads d c)) ∙ (same ∙ ap (find found) (child-applied (IsFull nodes) o p e k));
        }
        | inr m ↦ r.alike q m
      ];
    }

normal_parts : (nodes : List DTerm) (found : List Entry) (d e : DArgs) → EachChild (IsFull nodes) d → EachChild (IsFull nodes) e → normal_args found d ≡ normal_args found e → Parts nodes found d e
normal_parts nodes found stop stop c k p = record { parts = []; congruent = no_more; alike = λ q h. absurd (Contains-nil q h) }
normal_parts nodes found (place x d) (place y e) c k p =
    let r : Parts nodes found d e = normal_parts nodes found d e c k (ap after_first p) in
    let same : x ≡ y = ap first_name p in
    record { parts = r.parts; congruent = subst (λ z. AreCongruent nodes (place x d) (place z e) r.parts) same (one_name r.congruent); alike = r.alike }
normal_parts nodes found (sub op payloads d rest) (sub o q e others) c k p =
    let f : Applied = find found (applied_of payloads d) in
    let g : Applied = find found (applied_of q e) in
    let same : f ≡ g = sym (applied-as_term f) ∙ (ap (λ x. term_applied (first_child x)) p ∙ applied-as_term g) in
    with_child nodes found d e rest others op o payloads q c.0 k.0 same (normal_parts nodes found rest others c.1 k.1 (ap after_first p))
normal_parts nodes found (scope d rest) (scope e others) c k p =
    let r : Parts nodes found d e = normal_parts nodes found d e c.0 k.0 (ap first_scope p) in
    let s : Parts nodes found rest others = normal_parts nodes found rest others c.1 k.1 (ap after_first p) in
    record {
      parts = r.parts ++ s.parts;
      congruent = one_binder r.congruent s.congruent;
      alike = λ q h. elim (Contains-append_cases r.parts s.parts q h) [
        | inl m ↦ r.alike q m
        | inr m ↦ s.alike q m
      ];
    }
normal_parts nodes found d e c k p = let m : kind (normal_args found d) ≡ kind (normal_args found e) = ap kind p in absurd (omega arith)

-- full ids whose nodes have one normal form are equal by a congruent step
pub same_normal-congruent : (nodes : List DTerm) → Canonical nodes → (found : List Entry) (a b : Applied) → IsFull nodes a → IsFull nodes b → normal found (node_of nodes a) ≡ normal found (node_of nodes b) → IsCongruentByFinds nodes found (equation_of a b)
same_normal-congruent nodes can found a b fa fb same =
    let children : (x : Applied) → IsFull nodes x → EachChild (IsFull nodes) (node_of nodes x).args =
    λ x full. EachChild-map (λ y. (y.0 < x.0) × IsFull nodes y) (IsFull nodes) (λ y h. h.1) (node_of nodes x).args (full-children nodes can x full) in
    let r : Parts nodes found (node_of nodes a).args (node_of nodes b).args = normal_parts nodes found (node_of nodes a).args (node_of nodes b).args (children a fa) (children b fb) (ap (λ (t : DTerm). t.args) same) in
    record {
      parts = r.parts;
      congruent = record {
        left = a;
        right = b;
        left_full = fa;
        right_full = fb;
        equation = λ i. equation_of a b;
        operators = ap (λ (t : DTerm). t.op) same;
        payloads = ap (λ (t : DTerm). t.payloads) same;
        children = r.congruent;
      };
      alike = r.alike;
    }

-- normal forms move with names
normal_args-moved : (P : Applied → Type 0) (found : List Entry) (f : ℕ → ℕ) (d : DArgs) → EachChild P d → normal_args found (moved_args f d) ≡ moved_args f (normal_args found d)
unfolding term_applied
normal_args-moved P found f stop c = refl
normal_args-moved P found f (place x rest) c = ap (place (f x)) (normal_args-moved P found f rest c)
normal_args-moved P found f (sub op payloads args rest) c =
    let a : Applied = c.0.0 in
    let m : applied_of payloads (moved_args f args) ≡ renamed_id f a = ap (λ t. term_applied (moved f t)) c.0.1 ∙ (ap term_applied (moved-as_term f a) ∙ applied-as_term (renamed_id f a)) in
    let e : as_term (find found (applied_of payloads (moved_args f args))) ≡ moved f (as_term (find found (applied_of payloads args))) =
    ap (λ x. as_term (find found x)) m ∙ (ap as_term (found-renamed found f a) ∙ (sym (moved-as_term f (find found a)) ∙ ap (λ x. moved f (as_term (find found x))) (sym (child-applied P op payloads args c.0)))) in
    λ i. child_before (e i) (normal_args-moved P found f rest c.1 i)
normal_args-moved P found f (scope inner rest) c = λ i. scope (normal_args-moved P found (lift f) inner c.0 i) (normal_args-moved P found f rest c.1 i)

pub normal-moved : (P : Applied → Type 0) (found : List Entry) (f : ℕ → ℕ) (d : DTerm) → EachChild P d.args → normal found (moved f d) ≡ moved f (normal found d)
normal-moved P found f d c = ap (node d.op d.payloads) (normal_args-moved P found f d.args c)

-- and have no new names
free_names-places : (xs : List ℕ) → free_names (in_places xs) ≡ xs
free_names-places [] = refl
free_names-places (x ∷ xs) = ap (λ l. x ∷ l) (free_names-places xs)

pub normal_args-names : (P : Applied → Type 0) (found : List Entry) (d : DArgs) → EachChild P d → (z : ℕ) → In z (free_names (normal_args found d)) → In z (free_names d)
normal_args-names P found stop c z h = h
normal_args-names P found (place x rest) c z (inl e) = inl e
normal_args-names P found (place x rest) c z (inr h) = inr (normal_args-names P found rest c z h)
normal_args-names P found (sub op payloads args rest) c z h =
    let a : Applied = c.0.0 in
    let m : Applied = find found (applied_of payloads args) in
    elim (In-append z (free_names (as_term m).args) (free_names (normal_args found rest)) h) [
      | inl k ↦
          let i : In z (values (find found a).1) = subst (λ x. In z (values (find found x).1)) (child-applied P op payloads args c.0) (subst (In z) (free_names-places (values m.1)) k) in
          let s = Contains-of_value (find found a).1 z (Contains-In (values (find found a).1) z i) in
          let r = found-name found a s.0 z s.1 in
          let own : In z (free_names (as_term a).args) = subst (In z) (sym (free_names-places (values a.1))) (In-Contains (values a.1) z (Contains-value a.1 r.0 z r.2)) in
          In-left z (free_names args) (free_names rest) (subst (λ (t : DTerm). In z (free_names t.args)) (sym c.0.1) own)
      | inr k ↦ In-right z (free_names args) (free_names rest) (normal_args-names P found rest c.1 z k)
    ]
normal_args-names P found (scope inner rest) c z h =
    elim (In-append z (outside (free_names (normal_args found inner))) (free_names (normal_args found rest)) h) [
      | inl k ↦ In-left z (outside (free_names inner)) (free_names rest) (In-outside z (free_names inner) (normal_args-names P found inner c.0 _ (In-inside z (free_names (normal_args found inner)) k)))
      | inr k ↦ In-right z (outside (free_names inner)) (free_names rest) (normal_args-names P found rest c.1 z k)
    ]

-- where the newer find goes on from the older one, the newer normal form is that of the older normal form
refined_args : (P : Applied → Type 0) (older newer : List Entry) → ((a : Applied) → P a → find newer a ≡ find newer (find older a)) → (d : DArgs) → EachChild P d → normal_args newer d ≡ normal_args newer (normal_args older d)
unfolding term_applied
refined_args P older newer r stop c = refl
refined_args P older newer r (place x rest) c = ap (place x) (refined_args P older newer r rest c)
refined_args P older newer r (sub op payloads args rest) c =
    let a : Applied = applied_of payloads args in
    let v : P a = subst P (sym (child-applied P op payloads args c.0)) c.0.2 in
    let e : find newer a ≡ find newer (term_applied (as_term (find older a))) = r a v ∙ ap (find newer) (sym (applied-as_term (find older a))) in
    λ i. child_before (as_term (e i)) (refined_args P older newer r rest c.1 i)
refined_args P older newer r (scope inner rest) c = λ i. scope (refined_args P older newer r inner c.0 i) (refined_args P older newer r rest c.1 i)

pub normal-goes_on : (P : Applied → Type 0) (older newer : List Entry) → ((a : Applied) → P a → find newer a ≡ find newer (find older a)) → (d : DTerm) → EachChild P d.args → normal newer d ≡ normal newer (normal older d)
normal-goes_on P older newer r d c = ap (node d.op d.payloads) (refined_args P older newer r d.args c)

-- so it is after an event
pub refined-normal : (nodes : List DTerm) (older newer : List Entry) → Refines nodes older newer → (d : DTerm) → EachChild (IsValid (used_slots older) nodes) d.args → normal newer d ≡ normal newer (normal older d)
refined-normal nodes older newer r d c = normal-goes_on (IsValid (used_slots older) nodes) older newer (λ a v. (r a v).1) d c

-- the children of a normal form are found: live classes with names for just their slots
pub normal_args-live : (nodes : List DTerm) (found : List Entry) → Linked nodes found → (d : DArgs) → EachChild (IsValid (used_slots found) nodes) d → EachChild (IsFound found) (normal_args found d)
normal_args-live nodes found l stop c = tt
normal_args-live nodes found l (place x rest) c = normal_args-live nodes found l rest c
normal_args-live nodes found l (sub op payloads args rest) c =
    let a : Applied = applied_of payloads args in
    let v : IsValid (used_slots found) nodes a = subst (IsValid (used_slots found) nodes) (sym (child-applied (IsValid (used_slots found) nodes) op payloads args c.0)) c.0.2 in
    ((find found a, refl, (found-class_live nodes found l a v, found-slots nodes found l a v)), normal_args-live nodes found l rest c.1)
normal_args-live nodes found l (scope inner rest) c = (normal_args-live nodes found l inner c.0, normal_args-live nodes found l rest c.1)
