-- Applied ids and nodes with other names: what stays valid, full and in normal form.
use Rattle.std.proofs.Common.{◌≡◌, ℕ, List, [], ◌∷◌, sym, ◌∙◌, ap, refl, subst}
use Rattle.std.specs.Prelude.{map, Contains}
use Rattle.std.specs.List.{zip}
use Rattle.slotted_lists.proofs.Contained.{Contains-nil}
use Rattle.slotted_lists.proofs.Members.{In}
use Rattle.slotted_lists.proofs.Maps.{zip-with_values, keys-with_values}
use Rattle.slotted_theory.specs.Nameless.{DArgs, DTerm, stop, place, sub, scope, lift, moved, moved_args}
use Rattle.slotted_theory.specs.Renaming.{Bijection, IsInjective}
use Rattle.slotted_theory.specs.FiniteMaps.{filled, with_values}
use Rattle.slotted_theory.specs.Shape.{free_names}
use Rattle.slotted_theory.proofs.Values.{node, child_before}
use Rattle.slotted_model.specs.Ascending.{IsAscending}
use Rattle.slotted_model.specs.Applied.{Applied, keys, renamed_id, own_names, as_term, applied_of}
use Rattle.slotted_model.specs.Classes.{canonical_node, IsFull}
use Rattle.slotted_model.specs.Filling.{IsValid, IsFilling, RenamedFilling}
use Rattle.slotted_model.specs.Find.{Entry, find}
use Rattle.slotted_model.specs.ProofList.{node_of}
use Rattle.slotted_model.specs.Normal.{normal_args, normal}
use Rattle.slotted_model.proofs.Data.Sets.{In-ascending}
use Rattle.slotted_model.proofs.Data.Theory.{moved-agrees, moved-moved}
use Rattle.slotted_model.proofs.Data.Maps.{filled-with_values, IsInjectiveMap-with_values}
use Rattle.slotted_model.proofs.Represented.Children.{moved-as_term}
use Rattle.slotted_model.proofs.Finds.NormalIds.{found-renamed}
use Rattle.slotted_model.proofs.Represented.OtherFillings.{renamed_filling}

-- an injective renaming keeps a valid id valid
pub valid-renamed : (slots : ℕ → List ℕ) (nodes : List DTerm) (f : ℕ → ℕ) → IsInjective f → (a : Applied) → IsValid slots nodes a → IsValid slots nodes (renamed_id f a)
valid-renamed slots nodes f inj a v =
    let k : keys (with_values f a.1) ≡ keys a.1 = keys-with_values f a.1 in
    record {
      in_range = v.in_range;
      ascending = subst IsAscending (sym k) v.ascending;
      injective = IsInjectiveMap-with_values f a.1 (λ x y h l. inj x y) v.injective;
      has_slots = λ s c. subst (λ K. Contains K s) (sym k) (v.has_slots s c);
      within = λ s c. v.within s (subst (λ K. Contains K s) k c);
    }

-- two full ids of one class are the same up to a bijection of names
pub full-bijection : (nodes : List DTerm) (a b : Applied) → IsFull nodes a → IsFull nodes b → a.0 ≡ b.0 → (π : Bijection) × (renamed_id π.to a ≡ b)
full-bijection nodes a b fa fb e =
    let blank : (c : Applied) → IsFull nodes c → c.0 ≡ b.0 → IsFilling nodes [] (b.0, []) c =
    λ c full p. record { class = p; full = full; keeps = λ s x d. absurd (Contains-nil (s, x) d); fresh = λ s x d n g. Contains-nil x g } in
    let r : RenamedFilling [] (b.0, []) a b = renamed_filling nodes [] (b.0, []) a b (blank a fa e) (blank b fb refl) in
    (r.bijection, r.renames)

-- a renamed full id has the renamed node
pub node_of-renamed : (nodes : List DTerm) (a : Applied) → IsFull nodes a → (f : ℕ → ℕ) → node_of nodes (renamed_id f a) ≡ moved f (node_of nodes a)
node_of-renamed nodes a full f =
    let c : DTerm = canonical_node nodes a.0 in
    moved-agrees (filled (with_values f a.1)) (λ x. f (filled a.1 x)) c (λ x h. filled-with_values f a.1 x (subst (In x) (sym full.slots) (In-ascending x (free_names c.args) h)))
    ∙ sym (moved-moved f (filled a.1) c)

-- the applied id that a term is, with other names
own_names-moved : (f : ℕ → ℕ) (d : DArgs) → own_names (moved_args f d) ≡ map f (own_names d)
own_names-moved f stop = refl
own_names-moved f (place x rest) = ap (λ xs. f x ∷ xs) (own_names-moved f rest)
own_names-moved f (sub op payloads args rest) = refl
own_names-moved f (scope inner rest) = refl

pub applied_of-moved : (f : ℕ → ℕ) (payloads : List (List ℕ)) (d : DArgs) → applied_of payloads (moved_args f d) ≡ renamed_id f (applied_of payloads d)
applied_of-moved f [] d = refl
applied_of-moved f ([] ∷ more) d = refl
applied_of-moved f ((i ∷ ks) ∷ more) d = ap (λ (m : List (ℕ × ℕ)). (i, m)) (ap (zip ks) (own_names-moved f d) ∙ zip-with_values f ks (own_names d))

-- every normal form moves with names
normal_args-moves : (found : List Entry) (f : ℕ → ℕ) (d : DArgs) → normal_args found (moved_args f d) ≡ moved_args f (normal_args found d)
normal_args-moves found f stop = refl
normal_args-moves found f (place x rest) = ap (place (f x)) (normal_args-moves found f rest)
normal_args-moves found f (sub op payloads args rest) =
    let a : Applied = applied_of payloads args in
    let e : as_term (find found (applied_of payloads (moved_args f args))) ≡ moved f (as_term (find found a)) =
    ap (λ x. as_term (find found x)) (applied_of-moved f payloads args) ∙ (ap as_term (found-renamed found f a) ∙ sym (moved-as_term f (find found a))) in
    λ i. child_before (e i) (normal_args-moves found f rest i)
normal_args-moves found f (scope inner rest) = λ i. scope (normal_args-moves found (lift f) inner i) (normal_args-moves found f rest i)

pub normal-moves : (found : List Entry) (f : ℕ → ℕ) (d : DTerm) → normal found (moved f d) ≡ moved f (normal found d)
normal-moves found f d = ap (node d.op d.payloads) (normal_args-moves found f d.args)

-- so a renamed full id has the renamed normal form
pub normal-renamed : (nodes : List DTerm) (found : List Entry) (a : Applied) → IsFull nodes a → (f : ℕ → ℕ) → normal found (node_of nodes (renamed_id f a)) ≡ moved f (normal found (node_of nodes a))
normal-renamed nodes found a full f = ap (normal found) (node_of-renamed nodes a full f) ∙ normal-moves found f (node_of nodes a)
