-- A look-up commutes with renaming where the answers for nodes do.
use Rattle.std.proofs.Common.{◌≡◌, ℕ, List, Option, Some, None, sym, ◌∙◌, ap, refl, subst}
use Rattle.std.specs.Prelude.{option_map, option_and_then}
use Rattle.slotted_lists.proofs.Members.{In}
use Rattle.slotted_theory.specs.Nameless.{DArgs, DTerm, stop, place, sub, scope, lift, moved, moved_args}
use Rattle.slotted_theory.specs.Renaming.{IsInjective}
use Rattle.slotted_theory.specs.FiniteMaps.{filled, with_values}
use Rattle.slotted_theory.specs.Shape.{free_names}
use Rattle.slotted_theory.proofs.Names.{lift-injective}
use Rattle.slotted_theory.proofs.Shapes.{shape-moved}
use Rattle.slotted_theory.proofs.Values.{node, child_before}
use Rattle.slotted_model.specs.Applied.{Applied, keys, renamed_id, as_term}
use Rattle.slotted_model.specs.Classes.{canonical_node, IsFull, Canonical}
use Rattle.slotted_model.specs.LookUp.{both, look_up_args, look_up}
pub use Rattle.slotted_model.specs.LookUp.{Renames}
use Rattle.slotted_model.specs.Ids.{id_of_node, id_of}
use Rattle.slotted_model.proofs.Data.Sets.{In-ascending}
use Rattle.slotted_model.proofs.Data.Theory.{moved-agrees, moved-moved}
use Rattle.slotted_model.proofs.Data.Maps.{filled-with_values}
use Rattle.slotted_model.proofs.Represented.Children.{moved-as_term}
use Rattle.slotted_model.proofs.Represented.Full.{full-renamed}
use Rattle.slotted_model.proofs.Represented.Ids.{Stands, id_of_node-some, id_of_node-full, id_of_node-none}

pub place-moved : (f : ℕ → ℕ) (x : ℕ) (o : Option DArgs) → option_map (place (f x)) (option_map (moved_args f) o) ≡ option_map (moved_args f) (option_map (place x) o)
place-moved f x None = refl
place-moved f x (Some d) = refl

pub scope-moved : (f : ℕ → ℕ) (o r : Option DArgs) → both scope (option_map (moved_args (lift f)) o) (option_map (moved_args f) r) ≡ option_map (moved_args f) (both scope o r)
scope-moved f None r = refl
scope-moved f (Some d) None = refl
scope-moved f (Some d) (Some e) = refl

pub child-moved : (f : ℕ → ℕ) (o : Option Applied) (r : Option DArgs) →
    both (λ a found. child_before (as_term a) found) (option_map (renamed_id f) o) (option_map (moved_args f) r)
    ≡ option_map (moved_args f) (both (λ a found. child_before (as_term a) found) o r)
child-moved f None r = refl
child-moved f (Some a) None = refl
child-moved f (Some a) (Some d) = λ i. Some (child_before (sym (moved-as_term f a) i) (moved_args f d))

pub answer-moved : (look : DTerm → Option Applied) → Renames look → (f : ℕ → ℕ) → IsInjective f → (op : ℕ) (payloads : List (List ℕ)) (o : Option DArgs) →
    option_and_then (λ found. look (node op payloads found)) (option_map (moved_args f) o) ≡ option_map (renamed_id f) (option_and_then (λ found. look (node op payloads found)) o)
answer-moved look law f inj op payloads None = refl
answer-moved look law f inj op payloads (Some d) = law f inj (node op payloads d)

pub look_up_args-moved : (look : DTerm → Option Applied) → Renames look → (f : ℕ → ℕ) → IsInjective f → (d : DArgs) → look_up_args look (moved_args f d) ≡ option_map (moved_args f) (look_up_args look d)
look_up_args-moved look law f inj stop = refl
look_up_args-moved look law f inj (place x rest) = ap (option_map (place (f x))) (look_up_args-moved look law f inj rest) ∙ place-moved f x (look_up_args look rest)
look_up_args-moved look law f inj (sub op payloads args rest) =
    let answer : Option DArgs → Option Applied = option_and_then (λ found. look (node op payloads found)) in
    let e : answer (look_up_args look (moved_args f args)) ≡ option_map (renamed_id f) (answer (look_up_args look args)) =
    ap answer (look_up_args-moved look law f inj args) ∙ answer-moved look law f inj op payloads (look_up_args look args) in
    (λ i. both (λ a found. child_before (as_term a) found) (e i) (look_up_args-moved look law f inj rest i))
    ∙ child-moved f (answer (look_up_args look args)) (look_up_args look rest)
look_up_args-moved look law f inj (scope inner rest) =
    (λ i. both scope (look_up_args-moved look law (lift f) (lift-injective f inj) inner i) (look_up_args-moved look law f inj rest i))
    ∙ scope-moved f (look_up_args look inner) (look_up_args look rest)

-- a look-up of a renamed tree answers the renamed id
pub look_up-moved : (look : DTerm → Option Applied) → Renames look → Renames (look_up look)
look_up-moved look law f inj t =
    ap (option_and_then (λ found. look (node t.op t.payloads found))) (look_up_args-moved look law f inj t.args)
    ∙ answer-moved look law f inj t.op t.payloads (look_up_args look t.args)

-- the id of a renamed node is the renamed id
pub id_of_node-moved : (nodes : List DTerm) → Canonical nodes → Renames (id_of_node nodes)
id_of_node-moved nodes can f inj d = go (id_of_node nodes d) refl
  where
    some : (a : Applied) → id_of_node nodes d ≡ Some a → id_of_node nodes (moved f d) ≡ Some (renamed_id f a)
    some a e =
        let r : Stands nodes d a = id_of_node-some nodes d a e in
        let c : DTerm = canonical_node nodes a.0 in
        let full : IsFull nodes (renamed_id f a) = full-renamed nodes a r.0 f (λ x y h k. inj x y) in
        let k : (x : ℕ) → In x (free_names c.args) → In x (keys a.1) = λ x h. subst (In x) (sym r.0.slots) (In-ascending x (free_names c.args) h) in
        let q : moved (filled (with_values f a.1)) c ≡ moved f d =
        moved-agrees (filled (with_values f a.1)) (λ x. f (filled a.1 x)) c (λ x h. filled-with_values f a.1 x (k x h)) ∙ (sym (moved-moved f (filled a.1) c) ∙ ap (moved f) r.1) in
        ap (id_of_node nodes) (sym q) ∙ id_of_node-full nodes can (renamed_id f a) full

    go : (o : Option Applied) → id_of_node nodes d ≡ o → id_of_node nodes (moved f d) ≡ option_map (renamed_id f) (id_of_node nodes d)
    go None e =
        (id_of_node-none nodes (moved f d)).1 (λ i l p. (id_of_node-none nodes d).0 e i l (p ∙ shape-moved f inj d))
        ∙ ap (option_map (renamed_id f)) (sym e)
    go (Some a) e = some a e ∙ ap (option_map (renamed_id f)) (sym e)

pub id_of-moved : (nodes : List DTerm) → Canonical nodes → Renames (id_of nodes)
id_of-moved nodes can = look_up-moved (id_of_node nodes) (id_of_node-moved nodes can)
