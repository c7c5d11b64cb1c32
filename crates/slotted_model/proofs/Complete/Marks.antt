-- Tests of a node's children, and values: what they do to other names and to ids of marked classes.
use Rattle.std.proofs.Common.{◌≡◌, ℕ, List, [], ◌∷◌, ◌++◌, Option, Some, None, Bool, true, false, length, sym, ◌∙◌, ap, refl, arith, inl, inr, ◌⊎◌}
use Rattle.std.specs.Prelude.{Contains, cond, ◌&&◌, ◌||◌, option_map, nat_eq, nat_lt}
use Rattle.std.proofs.lemmas.Bool.{cases_Bool, or_cases, false≢true}
use Rattle.std.proofs.lemmas.List.Elements.{Contains-append_left, Contains-append_right}
use Rattle.slotted_lists.proofs.Contained.{contains_head, contains_tail}
use Rattle.slotted_lists.proofs.Booleans.{or-false}
use Rattle.slotted_theory.specs.Nameless.{DArgs, DTerm, stop, place, sub, scope, lift, moved, moved_args}
use Rattle.slotted_theory.specs.Renaming.{IsInjective}
use Rattle.slotted_theory.specs.Decided.{lists_eq, args_eq}
use Rattle.slotted_theory.proofs.Values.{node, child_before, value_args, value, Commutes}
use Rattle.slotted_theory.proofs.Values as inductions
use Rattle.slotted_model.specs.Applied.{Applied, renamed_id, as_term, applied_of}
use Rattle.slotted_model.specs.Ids.{term_eq}
use Rattle.slotted_model.specs.LookUp.{Renames}
use Rattle.slotted_model.specs.Find.{Entry, find}
use Rattle.slotted_model.specs.Normal.{normal_args}
use Rattle.slotted_model.specs.State.{child_classes}
use Rattle.slotted_model.specs.Value.{fixed, some_child, has_fixed, has_node, id_value, answer_value, step, value_of_term}
use Rattle.slotted_model.proofs.Represented.Children.{moved-as_term}
use Rattle.slotted_model.proofs.Represented.Folds.{as_term-same}

-- a test that does not see names tests moved children alike
some_child-moved : (test : DTerm → Bool) → ((f : ℕ → ℕ) (d : DTerm) → test (moved f d) ≡ test d) → (f : ℕ → ℕ) (d : DArgs) → some_child test (moved_args f d) ≡ some_child test d
some_child-moved test blind f stop = refl
some_child-moved test blind f (place x rest) = some_child-moved test blind f rest
some_child-moved test blind f (sub op payloads args rest) = λ i. blind f (node op payloads args) i || some_child-moved test blind f rest i
some_child-moved test blind f (scope inner rest) = λ i. some_child-moved test blind (lift f) inner i || some_child-moved test blind f rest i

is_stop-moved : (f : ℕ → ℕ) (d : DArgs) → args_eq (moved_args f d) stop ≡ args_eq d stop
is_stop-moved f stop = refl
is_stop-moved f (place x rest) = refl
is_stop-moved f (sub op payloads args rest) = refl
is_stop-moved f (scope inner rest) = refl

is_fixed-moved : (f : ℕ → ℕ) (d : DTerm) → term_eq (moved f d) fixed ≡ term_eq d fixed
is_fixed-moved f d = λ i. nat_eq d.op 0 && (lists_eq d.payloads [] && (is_stop-moved f d.args i && true))

class-moved : (f : ℕ → ℕ) (payloads : List (List ℕ)) (args : DArgs) → (applied_of payloads (moved_args f args)).0 ≡ (applied_of payloads args).0
class-moved f [] args = refl
class-moved f ([] ∷ more) args = refl
class-moved f ((i ∷ ks) ∷ more) args = refl

has_fixed-moved : (f : ℕ → ℕ) (d : DArgs) → has_fixed (moved_args f d) ≡ has_fixed d
has_fixed-moved = some_child-moved (λ c. term_eq c fixed) is_fixed-moved

has_node-moved : (f : ℕ → ℕ) (d : DArgs) → has_node (moved_args f d) ≡ has_node d
has_node-moved = some_child-moved (λ c. nat_lt 0 c.op) (λ f d. refl)

-- whether some child is an id of a marked class
abbrev pub has_marked : (ℕ → Bool) → DArgs → Bool
has_marked marked d = some_child (λ c. marked (applied_of c.payloads c.args).0) d

-- then that class is one of the children's
pub has_marked-some : (marked : ℕ → Bool) (d : DArgs) → has_marked marked d ≡ true → (c : ℕ) × Contains (child_classes d) c × (marked c ≡ true)
has_marked-some marked stop e = absurd (false≢true e)
has_marked-some marked (place x rest) e = has_marked-some marked rest e
has_marked-some marked (sub op payloads args rest) e =
    let a : Applied = applied_of payloads args in
    elim (or_cases (marked a.0) (has_marked marked rest) e) [
      | inl p ↦ (a.0, contains_head a.0 (child_classes rest), p)
      | inr p ↦ let r : (c : ℕ) × Contains (child_classes rest) c × (marked c ≡ true) = has_marked-some marked rest p in (r.0, contains_tail a.0 (child_classes rest) r.0 r.1, r.2)
    ]
has_marked-some marked (scope inner rest) e = elim (or_cases (has_marked marked inner) (has_marked marked rest) e) [
  | inl p ↦ let r : (c : ℕ) × Contains (child_classes inner) c × (marked c ≡ true) = has_marked-some marked inner p in (r.0, Contains-append_left (child_classes inner) (child_classes rest) r.0 r.1, r.2)
  | inr p ↦ let r : (c : ℕ) × Contains (child_classes rest) c × (marked c ≡ true) = has_marked-some marked rest p in (r.0, Contains-append_right (child_classes inner) (child_classes rest) r.0 r.1, r.2)
]

-- names do not matter to the classes of children
pub child_classes-moved : (f : ℕ → ℕ) (d : DArgs) → child_classes (moved_args f d) ≡ child_classes d
child_classes-moved f stop = refl
child_classes-moved f (place x rest) = child_classes-moved f rest
child_classes-moved f (sub op payloads args rest) = λ i. class-moved f payloads args i ∷ child_classes-moved f rest i
child_classes-moved f (scope inner rest) = λ i. child_classes-moved (lift f) inner i ++ child_classes-moved f rest i

pub has_marked-moved : (marked : ℕ → Bool) (f : ℕ → ℕ) (d : DArgs) → has_marked marked (moved_args f d) ≡ has_marked marked d
has_marked-moved marked = some_child-moved (λ c. marked (applied_of c.payloads c.args).0) (λ f d. ap marked (class-moved f d.payloads d.args))

cond-moved : (f : ℕ → ℕ) (b : Bool) (x y : DTerm) → cond b (moved f x) (moved f y) ≡ moved f (cond b x y)
cond-moved f true x y = refl
cond-moved f false x y = refl

id_value-moved : (marked : ℕ → Bool) (f : ℕ → ℕ) (a : Applied) → id_value marked (renamed_id f a) ≡ moved f (id_value marked a)
id_value-moved marked f a = ap (cond (marked a.0) fixed) (sym (moved-as_term f a)) ∙ cond-moved f (marked a.0) fixed (as_term a)

answer_value-moved : (marked : ℕ → Bool) (f : ℕ → ℕ) (o : Option Applied) (d : DTerm) → answer_value marked (option_map (renamed_id f) o) (moved f d) ≡ moved f (answer_value marked o d)
answer_value-moved marked f None d = refl
answer_value-moved marked f (Some a) d = id_value-moved marked f a

-- where the answers for nodes are renamed with the nodes, so are values
pub step-moved : (look : DTerm → Option Applied) (marked : ℕ → Bool) → Renames look → Commutes (step look marked)
step-moved look marked law f inj d =
    (λ i. cond (has_fixed-moved f d.args i) fixed (cond (has_node-moved f d.args i) (moved f d) ((ap (λ o. answer_value marked o (moved f d)) (law f inj d) ∙ answer_value-moved marked f (look d) d) i)))
    ∙ (ap (cond (has_fixed d.args) fixed) (cond-moved f (has_node d.args) d (answer_value marked (look d) d))
    ∙ cond-moved f (has_fixed d.args) fixed (cond (has_node d.args) d (answer_value marked (look d) d)))

pub value-moved : (look : DTerm → Option Applied) (marked : ℕ → Bool) → Renames look → (f : ℕ → ℕ) → IsInjective f → (t : DTerm) → value_of_term look marked (moved f t) ≡ moved f (value_of_term look marked t)
value-moved look marked law = inductions.value-moved (step look marked) (step-moved look marked law)

-- the value of a node over a fixed value is fixed
pub step-fixed : (look : DTerm → Option Applied) (marked : ℕ → Bool) (d : DTerm) → has_fixed d.args ≡ true → step look marked d ≡ fixed
step-fixed look marked d p = ap (λ b. cond b fixed (cond (has_node d.args) d (answer_value marked (look d) d))) p

-- the value of a node over a node is the node itself
pub step-node : (look : DTerm → Option Applied) (marked : ℕ → Bool) (d : DTerm) → has_fixed d.args ≡ false → has_node d.args ≡ true → step look marked d ≡ d
step-node look marked d p q = λ i. cond (p i) fixed (cond (q i) d (answer_value marked (look d) d))

-- the value of a node over ids is what its look-up gives
pub step-ids : (look : DTerm → Option Applied) (marked : ℕ → Bool) (d : DTerm) → has_fixed d.args ≡ false → has_node d.args ≡ false → step look marked d ≡ answer_value marked (look d) d
step-ids look marked d p q = λ i. cond (p i) fixed (cond (q i) d (answer_value marked (look d) d))

pub id_value-marked : (marked : ℕ → Bool) (a : Applied) → marked a.0 ≡ true → id_value marked a ≡ fixed
id_value-marked marked a e = ap (λ b. cond b fixed (as_term a)) e

pub id_value-plain : (marked : ℕ → Bool) (a : Applied) → marked a.0 ≡ false → id_value marked a ≡ as_term a
id_value-plain marked a e = ap (λ b. cond b fixed (as_term a)) e

-- no id is fixed
pub fixed-id : (a : Applied) → fixed ≡ as_term a → ⊥
fixed-id a e = let p : ◌≡◌ {A = ℕ} 0 1 = ap (λ (t : DTerm). length t.payloads) e in absurd (omega arith)

-- ids of one value are the same, or both of marked classes
pub id_value-same : (marked : ℕ → Bool) (a b : Applied) → id_value marked a ≡ id_value marked b → (a ≡ b) ⊎ ((marked a.0 ≡ true) × (marked b.0 ≡ true))
id_value-same marked a b e = elim (cases_Bool (marked a.0)) [
  | inl p ↦ elim (cases_Bool (marked b.0)) [
    | inl q ↦ inr (p, q)
    | inr q ↦ absurd (fixed-id b (sym (id_value-marked marked a p) ∙ (e ∙ id_value-plain marked b q)))
  ]
  | inr p ↦ elim (cases_Bool (marked b.0)) [
    | inl q ↦ absurd (fixed-id a (sym (id_value-marked marked b q) ∙ (sym e ∙ id_value-plain marked a p)))
    | inr q ↦ inl (as_term-same a b (sym (id_value-plain marked a p) ∙ (e ∙ id_value-plain marked b q)))
  ]
]

-- the arguments with the value of what is found in the place of each child
abbrev pub valued_args : List Entry → (ℕ → Bool) → DArgs → DArgs
valued_args found marked stop = stop
valued_args found marked (place x rest) = place x (valued_args found marked rest)
valued_args found marked (sub op payloads args rest) = child_before (id_value marked (find found (applied_of payloads args))) (valued_args found marked rest)
valued_args found marked (scope inner rest) = scope (valued_args found marked inner) (valued_args found marked rest)

is_fixed-value : (b : Bool) (a : Applied) → term_eq (cond b fixed (as_term a)) fixed ≡ b
is_fixed-value true a = refl
is_fixed-value false a = refl

-- some child is fixed exactly if some child finds a marked class
pub has_fixed-valued : (found : List Entry) (marked : ℕ → Bool) (d : DArgs) → has_fixed (valued_args found marked d) ≡ has_marked marked (normal_args found d)
has_fixed-valued found marked stop = refl
has_fixed-valued found marked (place x rest) = has_fixed-valued found marked rest
has_fixed-valued found marked (sub op payloads args rest) =
    let a : Applied = find found (applied_of payloads args) in
    λ i. is_fixed-value (marked a.0) a i || has_fixed-valued found marked rest i
has_fixed-valued found marked (scope inner rest) = λ i. has_fixed-valued found marked inner i || has_fixed-valued found marked rest i

-- where no child finds a marked class the values of the children are what they find
pub valued-normal : (found : List Entry) (marked : ℕ → Bool) (d : DArgs) → has_marked marked (normal_args found d) ≡ false → valued_args found marked d ≡ normal_args found d
valued-normal found marked stop e = refl
valued-normal found marked (place x rest) e = ap (place x) (valued-normal found marked rest e)
valued-normal found marked (sub op payloads args rest) e =
    let a : Applied = find found (applied_of payloads args) in
    let p : (marked a.0 ≡ false) × (has_marked marked (normal_args found rest) ≡ false) = or-false (marked a.0) (has_marked marked (normal_args found rest)) e in
    λ i. child_before (id_value-plain marked a p.0 i) (valued-normal found marked rest p.1 i)
valued-normal found marked (scope inner rest) e =
    let p : (has_marked marked (normal_args found inner) ≡ false) × (has_marked marked (normal_args found rest) ≡ false) = or-false (has_marked marked (normal_args found inner)) (has_marked marked (normal_args found rest)) e in
    λ i. scope (valued-normal found marked inner p.0 i) (valued-normal found marked rest p.1 i)

-- no child of a normal form is a node
pub has_node-normal : (found : List Entry) (d : DArgs) → has_node (normal_args found d) ≡ false
has_node-normal found stop = refl
has_node-normal found (place x rest) = has_node-normal found rest
has_node-normal found (sub op payloads args rest) = has_node-normal found rest
has_node-normal found (scope inner rest) = λ i. has_node-normal found inner i || has_node-normal found rest i
